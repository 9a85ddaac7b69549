-- Bytes that are read as a class spell it.
use Rattle.std.proofs.Common.{◌≡◌, ℕ, Bool, true, false, cond, eqb, List, [], ◌++◌, length, Ok, Err, refl, sym, ap, subst, ◌∙◌, append-nil, append_assoc}
use Rattle.std.specs.Prelude.{map}
use Rattle.std.specs.Int.{w16, w32}
use Rattle.std.proofs.lemmas.Bool.{eqb-true}
use Rattle.std.proofs.lemmas.List.{nil_from_length}
use Rattle.class_file.specs.declared.class.ClassFile.{ClassFile}
use Rattle.class_file.specs.declared.class.Attribute.{Attribute}
use Rattle.class_file.specs.declared.class.Field.{Field}
use Rattle.class_file.specs.declared.class.Method.{Method}
use Rattle.class_file.specs.declared.format_fault.FormatCode.TheVariants.{BadMagic, Version, Trailing}
use Rattle.class_file.specs.Pools.{Slots}
use Rattle.class_file.specs.InstrBytes.{u2, u4}
use Rattle.class_file.specs.ClassBytes.{◌⌢◌, Is, U2, Table, PoolIs, ClassNameIs, FieldIs, MethodIs, AttributeIs, AllDiffer, field_key, method_key, magic, major_version, Spells}
use Rattle.class_file.specs.Inputs.{◌>>=◌, Input, Read, Reading, fault, expected}
use Rattle.class_file.specs.FormatFaults.{head_at, class_at, nothing_left}
use Rattle.class_spelling.specs.Laws.{ReadIsSpelled}
use Rattle.class_spelling.proofs.Takes.{Takes, take_then, take_given, take_last, read_is, ok_is, bind_ok, rest_fits, read16, read32, take_expected, take_number2, take_table}
use Rattle.class_spelling.proofs.AttributesTaken.{take_class, take_attribute}
use Rattle.class_spelling.proofs.PoolsTaken.{take_pool, short_texts}
use Rattle.class_spelling.proofs.MembersTaken.{take_all_fields, take_all_methods}

four_parts : (a b c d rest whole behind_a behind_b behind_c : List ℕ) → whole ≡ a ++ behind_a → behind_a ≡ b ++ behind_b → behind_b ≡ c ++ behind_c → behind_c ≡ d ++ rest → whole ≡ (a ++ (b ++ (c ++ d))) ++ rest
four_parts a b c d rest whole behind_a behind_b behind_c e f g h =
    let all : whole ≡ a ++ (b ++ (c ++ (d ++ rest))) = e ∙ ap (λ (x : List ℕ). a ++ x) (f ∙ ap (λ (x : List ℕ). b ++ x) (g ∙ ap (λ (x : List ℕ). c ++ x) h)) in
    all ∙ simp append_assoc

-- the start of a file
take_head : {P : ClassFile → List ℕ → Type 0} {k : Input → Reading ClassFile} → Takes k P → Takes (λ i. head_at i >>= k) (λ c. Is (u4 magic) ⌢ Is (u2 0) ⌢ Is (u2 major_version) ⌢ P c)
take_head {k = k} takes = record {
  takes = λ i fits y e.
      let a = bind_ok (head_at i) k y e in
      let b = bind_ok (expected w32 magic BadMagic i) (λ minor. expected w16 0 Version minor >>= λ major. expected w16 major_version Version major) a.0 a.1 in
      let c = bind_ok (expected w16 0 Version b.0) (λ major. expected w16 major_version Version major) a.0 b.2 in
      let first = take_expected read32 magic BadMagic i b.0 fits b.1 in
      let fits1 = rest_fits i.bytes first.0 b.0.bytes fits first.1 in
      let second = take_expected read16 0 Version b.0 c.0 fits1 c.1 in
      let fits2 = rest_fits b.0.bytes second.0 c.0.bytes fits1 second.1 in
      let third = take_expected read16 major_version Version c.0 a.0 fits2 c.2 in
      let last = takes.takes a.0 (rest_fits c.0.bytes third.0 a.0.bytes fits2 third.1) y a.2 in
      record {
        piece = first.0 ++ (second.0 ++ (third.0 ++ last.piece));
        parts = four_parts first.0 second.0 third.0 last.piece y.rest.bytes i.bytes b.0.bytes c.0.bytes a.0.bytes first.1 second.1 third.1 last.parts;
        is = (first.0, second.0 ++ (third.0 ++ last.piece), refl, first.2, (second.0, third.0 ++ last.piece, refl, second.2, (third.0, last.piece, refl, third.2, last.is)));
      };
}

abbrev class : Slots → ℕ → List ℕ → List ℕ → List (List ℕ) → List Field → List Method → List Attribute → ClassFile
class pool flags this super interfaces fields methods others =
    record { pool = pool; flags = flags; this_name = this; super_name = super; interfaces = interfaces; fields = fields; methods = methods; others = others }

-- what a class is behind each of its fields
abbrev BehindMethods : Slots → ℕ → List ℕ → List ℕ → List (List ℕ) → List Field → List Method → ClassFile → List ℕ → Type 0
BehindMethods pool flags this super interfaces fields methods c bytes = (others : List Attribute) × (c ≡ class pool flags this super interfaces fields methods others) × Table (AttributeIs pool) others bytes

abbrev BehindFields : Slots → ℕ → List ℕ → List ℕ → List (List ℕ) → List Field → ClassFile → List ℕ → Type 0
BehindFields pool flags this super interfaces fields c bytes = (methods : List Method) × ((λ b. AllDiffer (map method_key methods) × Table (MethodIs pool this) methods b) ⌢ BehindMethods pool flags this super interfaces fields methods c) bytes

abbrev BehindInterfaces : Slots → ℕ → List ℕ → List ℕ → List (List ℕ) → ClassFile → List ℕ → Type 0
BehindInterfaces pool flags this super interfaces c bytes = (fields : List Field) × ((λ b. AllDiffer (map field_key fields) × Table (FieldIs pool) fields b) ⌢ BehindFields pool flags this super interfaces fields c) bytes

abbrev BehindSuper : Slots → ℕ → List ℕ → List ℕ → ClassFile → List ℕ → Type 0
BehindSuper pool flags this super c bytes = (interfaces : List (List ℕ)) × (Table (ClassNameIs pool) interfaces ⌢ BehindInterfaces pool flags this super interfaces c) bytes

abbrev BehindThis : Slots → ℕ → List ℕ → ClassFile → List ℕ → Type 0
BehindThis pool flags this c bytes = (super : List ℕ) × (ClassNameIs pool super ⌢ BehindSuper pool flags this super c) bytes

abbrev BehindFlags : Slots → ℕ → ClassFile → List ℕ → Type 0
BehindFlags pool flags c bytes = (this : List ℕ) × (ClassNameIs pool this ⌢ BehindThis pool flags this c) bytes

abbrev BehindPool : Slots → ClassFile → List ℕ → Type 0
BehindPool pool c bytes = (flags : ℕ) × (U2 flags ⌢ BehindFlags pool flags c) bytes

abbrev BehindVersion : ClassFile → List ℕ → Type 0
BehindVersion c bytes = (pool : Slots) × (PoolIs pool ⌢ BehindPool pool c) bytes

take_class_file : Takes class_at (λ c. Is (u4 magic) ⌢ Is (u2 0) ⌢ Is (u2 major_version) ⌢ BehindVersion c)
unfolding class_at
take_class_file = take_head (take_given _ BehindPool take_pool (λ i pool piece is. take_then _ (BehindFlags pool) take_number2 (λ i flags. take_then _ (BehindThis pool flags) (take_class pool) (λ i this. take_then _ (BehindSuper pool flags this) (take_class pool) (λ i super.
    take_then _ (BehindInterfaces pool flags this super) (take_table (take_class pool)) (λ i interfaces. take_then _ (BehindFields pool flags this super interfaces) (take_all_fields pool) (λ i fields. take_then _ (BehindMethods pool flags this super interfaces fields) (take_all_methods pool this (short_texts pool is.0)) (λ i methods.
    take_last _ (λ others c. c ≡ class pool flags this super interfaces fields methods others) (take_table (take_attribute pool)) (λ i j others y e. read_is (class pool flags this super interfaces fields methods others) j y e)))))))))

spelled : (c : ClassFile) (bytes : List ℕ) → (Is (u4 magic) ⌢ Is (u2 0) ⌢ Is (u2 major_version) ⌢ BehindVersion c) bytes → Spells c bytes
spelled c bytes t =
    let a = t.4.4.4 in let pool = a.1 in let flags = pool.4.1 in let this = flags.4.1 in let super = this.4.1 in let interfaces = super.4.1 in let fields = interfaces.4.1 in let methods = fields.4.1 in let others = methods.4 in
    subst (λ (d : ClassFile). Spells d bytes) (sym others.1) (record {
      parts = (
        t.0,
        t.1,
        t.2,
        t.3,
        (
          t.4.0,
          t.4.1,
          t.4.2,
          t.4.3,
          (
            t.4.4.0,
            t.4.4.1,
            t.4.4.2,
            t.4.4.3,
            (
              pool.0,
              pool.1,
              pool.2,
              pool.3,
              (
                flags.0,
                flags.1,
                flags.2,
                flags.3,
                (
                  this.0,
                  this.1,
                  this.2,
                  this.3,
                  (
                    super.0,
                    super.1,
                    super.2,
                    super.3,
                    (interfaces.0, interfaces.1, interfaces.2, interfaces.3, (fields.0, fields.1, fields.2, fields.3.1, (methods.0, methods.1, methods.2, methods.3.1, others.2))),
                  ),
                ),
              ),
            ),
          ),
        ),
      );
      fields_differ = fields.3.0;
      methods_differ = methods.3.0;
    })

ended : (r : Reading ClassFile) (c : ClassFile) → nothing_left r ≡ Ok c → (x : Read ClassFile) × (r ≡ Ok x) × (x.rest.bytes ≡ []) × (x.value ≡ c)
ended (Err f) c e = absurd cc
ended (Ok x) c e = go (eqb (length x.rest.bytes) 0) refl e
  where
    go : (b : Bool) → eqb (length x.rest.bytes) 0 ≡ b → cond b (Ok x.value) (fault Trailing x.rest.at) ≡ Ok c → (z : Read ClassFile) × ((let r : Reading ClassFile = Ok x in r) ≡ Ok z) × (z.rest.bytes ≡ []) × (z.value ≡ c)
    go true t e = (x, refl, nil_from_length x.rest.bytes (eqb-true _ _ t), ok_is x.value c e)
    go false t e = absurd cc

pub read_is_spelled : ReadIsSpelled
read_is_spelled bytes fits c e =
    let r = ended (class_at (record { at = 0; bytes = bytes })) c e in
    let t = take_class_file.takes (record { at = 0; bytes = bytes }) fits r.0 r.1 in
    let whole : bytes ≡ t.piece = t.parts ∙ ap (λ (b : List ℕ). t.piece ++ b) r.2 ∙ append-nil t.piece in
    subst (Spells c) (sym whole) (subst (λ (d : ClassFile). Spells d t.piece) r.3 (spelled r.0.value t.piece t.is))
