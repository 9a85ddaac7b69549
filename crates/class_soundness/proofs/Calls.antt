-- What the verifier takes a static call to be is what the machine calls; and arguments that are taken off a stack.
use Rattle.std.proofs.Common.{◌≡◌, ℕ, suc, ◌+◌, ◌-◌, ◌≤◌, Bool, true, false, cond, List, [], ◌∷◌, ◌++◌, length, drop, Option, Some, None, refl, sym, ap, subst, ◌∙◌, arith, map}
use Rattle.std.specs.Prelude.{slice_get, codes, reverse, replicate, ◌&&◌, not}
use Rattle.std.specs.Option.{option_map}
use Rattle.std.proofs.lemmas.List.{reverse-reverse, length-append, length-replicate}
use mathlib.Core.List.{reverse_aux}
use Rattle.class_file.specs.declared.value.Value.{Value}
use Rattle.class_file.specs.declared.value.Value.TheVariants as value
use Rattle.class_file.specs.declared.class.VType.{VType}
use Rattle.class_file.specs.declared.class.VType.TheVariants as vtype
use Rattle.class_file.specs.declared.class.ClassFile.{ClassFile}
use Rattle.class_file.specs.declared.class.Set.{Set}
use Rattle.class_file.specs.declared.pool.Entry.{Entry}
use Rattle.class_file.specs.declared.pool.Entry.TheVariants as entry
use Rattle.class_file.specs.Pools.{Slots, Member, named, named_in, entry_at, name_in, typed_in, is_text}
use Rattle.class_file.specs.Descriptors.{FieldType, IntType, CharType, BooleanType, LongType, Reference, Signature, signature, kind_of}
use Rattle.class_file.specs.Classes.{ClassView, MethodView, FoundMethod, class_at, own_method, first_method, found_in, named_method, chain, supertypes, is_special_name, owner_number}
use Rattle.class_file.specs.Natives.{Object}
use Rattle.class_file.specs.Machine.{Callee, Static, callee, callee_at, callee_of, resolve, pool_of, may_call, may_name, is_interface_in, has_kind, Popped, take_args, popped, spread, first_locals}
use Rattle.class_file.specs.Members.{Call, call_of, static_call, static_entry, static_member, has_static, when_there, is_interface_view, is_there, type_of_field}
use Rattle.class_file.specs.Typing.{misuse, misuses}
use Rattle.class_file.specs.Verification.{padded}
use Rattle.class_file.specs.Verification as verification
use Rattle.class_soundness.specs.Soundness.{IsLoaded}
use Rattle.class_soundness.proofs.Fits.{Has, Fits, Has-assign, Fits-append, Fits-replicate, Fits-length}
use Rattle.class_soundness.proofs.Tests.{both_true}
use Rattle.class_soundness.proofs.Rows.{used_well, worse_none}
use Rattle.class_soundness.proofs.Found.{text_same, some_same, none_is, not_true}
use Rattle.class_soundness.proofs.Natives.{HasAll}

-- ---- the method that is called

-- what is called is a static method of the class where it was found, of the signature that the verifier goes by
pub record Calls (set : Set) (o : Option Callee) (call : Call) : Type 0 where
  pub to : Callee
  pub is : o ≡ Some to
  pub name : List ℕ
  pub descriptor : List ℕ
  pub own : own_method set true name descriptor to.found.class ≡ Some to.found.method
  pub signed : signature descriptor ≡ Some to.signature
  pub call_is : call_of to.signature ≡ call

same_view : (o : Option ClassView) → is_interface_view o ≡ is_interface_in o
same_view None = refl
same_view (Some c) = refl

not_init : (name : List ℕ) → is_special_name name ≡ false → is_text name (codes "<init>") ≡ false
not_init name e = by (is_text name (codes "<init>")) refl
  where
    apart : (let b : Bool = true in b) ≡ false → ⊥
    apart e = cc

    by : (b : Bool) → is_text name (codes "<init>") ≡ b → b ≡ false
    by false k = refl
    by true k = absurd (apart (subst (λ (n : List ℕ). is_special_name n ≡ false) (text_same name (codes "<init>") k) e))

-- a method that some of the classes have
record First (set : Set) (name descriptor : List ℕ) (o : Option FoundMethod) : Type 0 where
  found : FoundMethod
  is : o ≡ Some found
  own : own_method set true name descriptor found.class ≡ Some found.method

first_of : (set : Set) (name descriptor : List ℕ) (ns more : List ℕ) → is_there (first_method set true name descriptor ns) ≡ true → First set name descriptor (first_method set true name descriptor (ns ++ more))
first_of set name descriptor [] more e = absurd cc
first_of set name descriptor (n ∷ ns) more e = by (first_of set name descriptor ns more) (own_method set true name descriptor n) refl e
  where
    by : (is_there (first_method set true name descriptor ns) ≡ true → First set name descriptor (first_method set true name descriptor (ns ++ more)))
        → (o : Option MethodView) → own_method set true name descriptor n ≡ o → is_there (found_in n o (first_method set true name descriptor ns)) ≡ true
        → First set name descriptor (found_in n o (first_method set true name descriptor (ns ++ more)))
    by rest None k e = rest e
    by rest (Some m) k e = record { found = record { class = n; method = m }; is = refl; own = k }

pub found_first : (set : Set) (name descriptor : List ℕ) (ns : List ℕ) (f : FoundMethod) → first_method set true name descriptor ns ≡ Some f → own_method set true name descriptor f.class ≡ Some f.method
found_first set name descriptor [] f e = absurd (none_is f e)
found_first set name descriptor (n ∷ ns) f e = by (found_first set name descriptor ns f) (own_method set true name descriptor n) refl e
  where
    by : (first_method set true name descriptor ns ≡ Some f → own_method set true name descriptor f.class ≡ Some f.method)
        → (o : Option MethodView) → own_method set true name descriptor n ≡ o → found_in n o (first_method set true name descriptor ns) ≡ Some f → own_method set true name descriptor f.class ≡ Some f.method
    by rest None k e = rest e
    by rest (Some m) k e = subst (λ (g : FoundMethod). own_method set true name descriptor g.class ≡ Some g.method) (some_same (record { class = n; method = m }) f e) k

module _ (set : Set) where
  module _ (of_interface : Bool) (m : Member) (call : Call) (n : ℕ) (owner : owner_number set m.owner m.name ≡ Some n) where
    abbrev chosen : Bool → Option Callee
    chosen b = cond b (callee_of n (named_method set true m.name m.descriptor n) (signature m.descriptor)) None

    abbrev search : Bool → Option FoundMethod
    search b = first_method set true m.name m.descriptor (cond b (n ∷ []) (chain set n ++ supertypes set n))

    by_signature : (o : Option Signature) → signature m.descriptor ≡ o → option_map call_of o ≡ Some call → First set m.name m.descriptor (named_method set true m.name m.descriptor n)
        → Calls set (callee_of n (named_method set true m.name m.descriptor n) o) call
    by_signature None k e f = absurd (none_is call e)
    by_signature (Some s) k e f = record {
      to = record { owner = n; found = f.found; signature = s };
      is = ap (λ (o : Option FoundMethod). callee_of n o (Some s)) f.is;
      name = m.name;
      descriptor = m.descriptor;
      own = f.own;
      signed = k;
      call_is = some_same (call_of s) call e;
    }

    -- the same way of naming, and no special name, and the method is in the chain
    by_test : (b : Bool) → (b && (not (is_special_name m.name) && is_there (first_method set true m.name m.descriptor (chain set n)))) ≡ true
        → may_call Static of_interface (is_interface_in (class_at set n)) ≡ b → option_map call_of (signature m.descriptor) ≡ Some call
        → Calls set (callee_at set Static (record { is_interface = of_interface; member = m }) (Some n)) call
    by_test b h k e =
        let p = both_true b (not (is_special_name m.name) && is_there (first_method set true m.name m.descriptor (chain set n))) h in
        let q = both_true (not (is_special_name m.name)) (is_there (first_method set true m.name m.descriptor (chain set n))) p.1 in
        let plain = not_true (is_special_name m.name) q.0 in
        let f : First set m.name m.descriptor (named_method set true m.name m.descriptor n) =
        subst (λ (b : Bool). First set m.name m.descriptor (search b)) (sym (not_init m.name plain)) (first_of set m.name m.descriptor (chain set n) (supertypes set n) q.1) in
        let allowed : (may_call Static of_interface (is_interface_in (class_at set n)) && may_name Static m.name) ≡ true =
        ap (λ (x : Bool). x && not (is_special_name m.name)) (k ∙ p.0) ∙ ap not plain in
        subst (λ (x : Bool). Calls set (chosen x) call) (sym allowed) (by_signature (signature m.descriptor) refl e f)

  when_so : (b : Bool) (m : Member) (call : Call) → when_there b m ≡ Some call → (b ≡ true) × (option_map call_of (signature m.descriptor) ≡ Some call)
  when_so true m call e = (refl, e)
  when_so false m call e = absurd (none_is call e)

  by_number : (of_interface : Bool) (m : Member) (call : Call) (o : Option ℕ) → owner_number set m.owner m.name ≡ o → static_member set of_interface (Some m) ≡ Some call
      → has_static set of_interface m o ≡ true → option_map call_of (signature m.descriptor) ≡ Some call → Calls set (callee set Static (Some (record { is_interface = of_interface; member = m }))) call
  by_number of_interface m call None k e h s = absurd cc
  by_number true m call (Some n) k e h s =
      subst (λ (o : Option ℕ). Calls set (callee_at set Static (record { is_interface = true; member = m }) o) call) (sym k)
      (by_test true m call n k (is_interface_view (class_at set n)) h (sym (same_view (class_at set n))) s)
  by_number false m call (Some n) k e h s =
      subst (λ (o : Option ℕ). Calls set (callee_at set Static (record { is_interface = false; member = m }) o) call) (sym k)
      (by_test false m call n k (not (is_interface_view (class_at set n))) h (ap not (sym (same_view (class_at set n)))) s)

  by_member : (of_interface : Bool) (o : Option Member) (call : Call) → static_member set of_interface o ≡ Some call → Calls set (callee set Static (named of_interface o)) call
  by_member of_interface None call e = absurd (none_is call e)
  by_member of_interface (Some m) call e =
      let w = when_so (has_static set of_interface m (owner_number set m.owner m.name)) m call e in
      by_number of_interface m call (owner_number set m.owner m.name) refl e w.0 w.1

  by_entry : (slots : Slots) (o : Option Entry) (call : Call) → static_entry set slots o ≡ Some call → Calls set (callee set Static (named_in slots o)) call
  by_entry slots (Some (entry.MethodRef owner member)) call e = by_member false (typed_in slots (name_in slots (entry_at slots owner)) (entry_at slots member)) call e
  by_entry slots (Some (entry.InterfaceMethodRef owner member)) call e = by_member true (typed_in slots (name_in slots (entry_at slots owner)) (entry_at slots member)) call e
  by_entry slots (Some _) call e = absurd (none_is call e)
  by_entry slots None call e = absurd (none_is call e)

  pub calls : (class : ℕ) (c : ClassFile) (i : ℕ) (call : Call) → slice_get set.classes class ≡ Some c → static_call set c i ≡ Some call → Calls set (resolve set Static class i) call
  unfolding resolve
  calls class c i call k e =
      subst (λ (slots : Slots). Calls set (callee set Static (named_in slots (entry_at slots i))) call) (ap pool_of (sym k)) (by_entry c.pool (entry_at c.pool i) call e)

-- ---- arguments

-- arguments are there, of their types
pub record Taken (set : Set) (heap : List Object) (fs : List FieldType) (o : Option Popped) (below : List VType) : Type 0 where
  pub args : List Value
  pub rest : List Value
  pub is : o ≡ Some (record { args = args; rest = rest })
  pub have : HasAll set heap fs args
  pub fits : Fits set heap rest below

module _ (set : Set) (loaded : IsLoaded set) (heap : List Object) where
  pub kind_has : (v : Value) (f : FieldType) → Has set heap v (type_of_field f) → has_kind (kind_of f) v ≡ true
  kind_has (value.Int n) IntType h = refl
  kind_has _ IntType h = absurd h
  kind_has (value.Int n) CharType h = refl
  kind_has _ CharType h = absurd h
  kind_has (value.Int n) BooleanType h = refl
  kind_has _ BooleanType h = absurd h
  kind_has (value.Long n) LongType h = refl
  kind_has _ LongType h = absurd h
  kind_has value.Null (Reference c) h = refl
  kind_has (value.Ref r) (Reference c) h = refl
  kind_has _ (Reference c) h = absurd h

  taken : (fs before : List FieldType) (acc vs : List Value) (ts : List VType) → HasAll set heap before acc → Fits set heap vs ts → misuses set (map type_of_field fs) ts ≡ None
      → Taken set heap (reverse_aux fs before) (take_args fs acc vs) (drop (length fs) ts)
  taken [] before acc vs ts h f e = record { args = acc; rest = vs; is = refl; have = h; fits = f }
  taken (p ∷ fs) before acc vs [] h f e = absurd cc
  taken (p ∷ fs) before acc [] (t ∷ ts) h f e = absurd f
  taken (p ∷ fs) before acc (v ∷ vs) (t ∷ ts) h f e =
      let w = worse_none (misuse set (type_of_field p) t) (misuses set (map type_of_field fs) ts) e in
      let has = Has-assign set loaded heap v t (type_of_field p) (used_well set (type_of_field p) t w.0) f.0 in
      let r = taken fs (p ∷ before) (v ∷ acc) vs ts (has, h) f.1 w.1 in
      record { args = r.args; rest = r.rest; is = ap (λ (c : Bool). cond c (take_args fs (v ∷ acc) vs) None) (kind_has v p has) ∙ r.is; have = r.have; fits = r.fits }

  map_reversed : (fs acc : List FieldType) → map type_of_field (reverse_aux fs acc) ≡ reverse_aux (map type_of_field fs) (map type_of_field acc)
  map_reversed [] acc = refl
  map_reversed (f ∷ fs) acc = map_reversed fs (f ∷ acc)

  length_reversed : (fs acc : List FieldType) → length (reverse_aux fs acc) ≡ length fs + length acc
  length_reversed [] acc = omega arith
  length_reversed (f ∷ fs) acc = length_reversed fs (f ∷ acc) ∙ omega arith

  length_mapped : (fs : List FieldType) → length (map type_of_field fs) ≡ length fs
  length_mapped [] = refl
  length_mapped (f ∷ fs) = ap suc (length_mapped fs)

  pub arguments : (fs : List FieldType) (vs : List Value) (ts : List VType) → Fits set heap vs ts → misuses set (reverse (map type_of_field fs)) ts ≡ None
      → Taken set heap fs (popped fs vs) (drop (length (map type_of_field fs)) ts)
  arguments fs vs ts f e =
      let same : length (reverse fs) ≡ length (map type_of_field fs) = length_reversed fs [] ∙ omega (arith, length_mapped fs) in
      let t = taken (reverse fs) [] [] vs ts tt f (ap (λ (ws : List VType). misuses set ws ts) (map_reversed fs []) ∙ e) in
      subst (λ (n : ℕ). Taken set heap fs (popped fs vs) (drop n ts)) same
      (subst (λ (gs : List FieldType). Taken set heap gs (popped fs vs) (drop (length (reverse fs)) ts)) (reverse-reverse fs) t)

  -- ---- the first local variables

  spread_fits : (fs : List FieldType) (vs : List Value) → HasAll set heap fs vs → Fits set heap (spread vs) (verification.spread (map type_of_field fs))
  spread_fits [] [] h = tt
  spread_fits [] (v ∷ vs) h = absurd h
  spread_fits (f ∷ fs) [] h = absurd h
  spread_fits (IntType ∷ fs) (value.Int n ∷ vs) h = (tt, spread_fits fs vs h.1)
  spread_fits (IntType ∷ fs) (_ ∷ vs) h = absurd h.0
  spread_fits (CharType ∷ fs) (value.Int n ∷ vs) h = (tt, spread_fits fs vs h.1)
  spread_fits (CharType ∷ fs) (_ ∷ vs) h = absurd h.0
  spread_fits (BooleanType ∷ fs) (value.Int n ∷ vs) h = (tt, spread_fits fs vs h.1)
  spread_fits (BooleanType ∷ fs) (_ ∷ vs) h = absurd h.0
  spread_fits (LongType ∷ fs) (value.Long n ∷ vs) h = (tt, (tt, spread_fits fs vs h.1))
  spread_fits (LongType ∷ fs) (_ ∷ vs) h = absurd h.0
  spread_fits (Reference c ∷ fs) (value.Null ∷ vs) h = (tt, spread_fits fs vs h.1)
  spread_fits (Reference c ∷ fs) (value.Ref r ∷ vs) h = (h.0, spread_fits fs vs h.1)
  spread_fits (Reference c ∷ fs) (_ ∷ vs) h = absurd h.0

  pub first_fit : (max : ℕ) (fs : List FieldType) (args : List Value) → HasAll set heap fs args → Fits set heap (first_locals max args) (padded max (verification.spread (map type_of_field fs)))
  first_fit max fs args h =
      let ts = verification.spread (map type_of_field fs) in
      let f = spread_fits fs args h in
      let n : max - length (spread args) ≡ max - length ts = ap (λ (k : ℕ). max - k) (Fits-length set heap (spread args) ts f) in
      Fits-append set heap (spread args) (replicate (max - length (spread args)) value.Nothing) ts (replicate (max - length ts) vtype.Top) f
      (subst (λ (k : ℕ). Fits set heap (replicate (max - length (spread args)) value.Nothing) (replicate k vtype.Top)) n (Fits-replicate set heap (max - length (spread args))))

pub first_room : (max : ℕ) (args : List Value) → max ≤ length (first_locals max args)
first_room max args = omega (arith, length-append (spread args) (replicate (max - length (spread args)) value.Nothing), length-replicate (max - length (spread args)) value.Nothing)
