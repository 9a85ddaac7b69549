-- Where any bytes are of a grammar, those that are written are, and they are no more.
use Rattle.std.proofs.Common.{◌≡◌, ℕ, zero, suc, ◌+◌, ◌^◌, ◌<◌, ◌≤◌, Bool, true, false, cond, List, [], ◌∷◌, ◌++◌, length, Option, Some, None, refl, sym, ap, subst, ◌∙◌, append_assoc, arith, length-append}
use Rattle.std.specs.List.{flat_map}
use Rattle.class_file.specs.declared.class.Attribute.{Attribute}
use Rattle.class_file.specs.declared.pool.Entry.{Entry}
use Rattle.class_file.specs.Pools.{Slots, entry_at, flat}
use Rattle.class_file.specs.InstrBytes.{u2, u4}
use Rattle.class_file.specs.ClassBytes.{◌⌢◌, Is, U2, Each, Table, Sized, BytesAre, TextIs, TypeNameIs, ClassNameIs, FieldDescriptorIs, MethodDescriptorIs, AttributeIs, KnownIs, Among, text_at, name_at}
use Rattle.class_file.specs.WrittenClass.{index_from, or_zero, is_this, has_text, has_name, text_index, name_index, text_bytes, name_bytes, table_bytes, sized_bytes, named_bytes, attribute_bytes, attributes_bytes}
use Rattle.class_spelling.proofs.Texts.{same_text, text_is_itself}

pub record Writes (P : List ℕ → Type 0) (w : List ℕ) : Type 0 where
  pub writes : (bytes : List ℕ) → P bytes → P w × (length w ≤ length bytes)

pub write_exact : (w : List ℕ) → Writes (Is w) w
write_exact w = record { writes = λ bytes e. (refl, omega (arith, ap length e)) }

pub write_then : {P Q : List ℕ → Type 0} {v w : List ℕ} → Writes P v → Writes Q w → Writes (P ⌢ Q) (v ++ w)
write_then {v = v} {w = w} a b = record {
  writes = λ bytes t.
      let x = a.writes t.0 t.3 in let y = b.writes t.1 t.4 in
      let le = x.1 in let le' = y.1 in
      ((v, w, refl, x.0, y.0), omega (arith, ap length t.2, length-append t.0 t.1, length-append v w));
}

pub write_as : {P : List ℕ → Type 0} {v : List ℕ} (w : List ℕ) → Writes P v → w ≡ v → Writes P w
write_as {P = P} w a e = subst (Writes P) (sym e) a

pub write_number2 : (n : ℕ) → Writes (U2 n) (u2 n)
write_number2 n = record { writes = λ bytes e. ((e.0, refl), omega (arith, ap length e.1)) }

pub write_each : {A : Type 0} {P : A → List ℕ → Type 0} (w : A → List ℕ) → ((x : A) → Writes (P x) (w x)) → (xs : List A) → Writes (Each P xs) (flat_map w xs)
write_each w each [] = write_exact []
write_each w each (x ∷ xs) = write_then (each x) (write_each w each xs)

pub write_table : {A : Type 0} {P : A → List ℕ → Type 0} (w : A → List ℕ) → ((x : A) → Writes (P x) (w x)) → (xs : List A) → Writes (Table P xs) (table_bytes w xs)
write_table w each xs = write_then (write_number2 (length xs)) (write_each w each xs)

four : (n : ℕ) (b : List ℕ) → length (u4 n ++ b) ≡ 4 + length b
four n b = omega (arith, length-append (u4 n) b)

pub write_size : {P : List ℕ → Type 0} {w : List ℕ} → Writes P w → Writes (Sized P) (sized_bytes w)
write_size {w = w} a = record {
  writes = λ bytes t.
      let x = a.writes t.0 t.3 in let le = x.1 in
      ((w, omega (arith, t.1), refl, x.0), omega (arith, ap length t.2, four (length t.0) t.0, four (length w) w));
}

-- ---- indexes

flat_some : (s : Option Entry) → flat (Some s) ≡ s
flat_some None = refl
flat_some (Some e) = refl

record First (test : Option Entry → Bool) (k i : ℕ) (slots : Slots) : Type 0 where
  at : ℕ
  is : index_from k test slots ≡ Some (k + at)
  before : at ≤ i
  passes : test (entry_at slots at) ≡ true

-- the first of the entries that pass is found
first_of : (test : Option Entry → Bool) (k i : ℕ) (slots : Slots) → test None ≡ false → test (entry_at slots i) ≡ true → First test k i slots
first_of test k i [] none e = absurd (cc)
first_of test k i (s ∷ slots) none e = by (test s) refl i e (λ j f. first_of test (k + 1) j slots none f)
  where
    by : (b : Bool) → test s ≡ b → (i : ℕ) → test (entry_at (s ∷ slots) i) ≡ true → ((j : ℕ) → test (entry_at slots j) ≡ true → First test (k + 1) j slots) → First test k i (s ∷ slots)
    by true f i e more = record { at = 0; is = ap (λ (b : Bool). cond b (Some k) (index_from (k + 1) test slots)) f ∙ ap Some (let g : k ≡ k + 0 = omega arith in g); before = omega arith; passes = ap test (flat_some s) ∙ f }
    by false f zero e more = let g : test s ≡ true = ap test (sym (flat_some s)) ∙ e in absurd cc
    by false f (suc i) e more =
        let m = more i e in let le = m.before in
        record { at = suc m.at; is = ap (λ (b : Bool). cond b (Some k) (index_from (k + 1) test slots)) f ∙ m.is ∙ ap Some (let g : k + 1 + m.at ≡ k + suc m.at = omega arith in g); before = omega arith; passes = m.passes }

this_is : (t : List ℕ) (o : Option (List ℕ)) → is_this t o ≡ true → o ≡ Some t
this_is t None e = absurd cc
this_is t (Some u) e = ap Some (same_text u t e)

is_this_some : (t : List ℕ) (o : Option (List ℕ)) → o ≡ Some t → is_this t o ≡ true
is_this_some t o e = ap (is_this t) e ∙ text_is_itself t

pub write_text : (slots : Slots) (text : List ℕ) → Writes (TextIs slots text) (text_bytes slots text)
write_text slots text = record {
  writes = λ bytes t.
      let f = first_of (has_text text) 0 t.0 slots refl (is_this_some text (text_at slots t.0) t.1) in
      let index : text_index slots text ≡ f.at = ap or_zero f.is ∙ zero_plus f.at in
      let le = f.before in
      ((text_index slots text, ap (text_at slots) index ∙ this_is text (text_at slots f.at) f.passes, (subst (λ (n : ℕ). n < 2 ^ 16) (sym index) (omega (arith, t.2.0)), refl)), omega (arith, ap length t.2.1));
}
  where
    zero_plus : (n : ℕ) → 0 + n ≡ n
    zero_plus n = omega arith

pub write_type_name : (slots : Slots) (name : List ℕ) → Writes (TypeNameIs slots name) (name_bytes slots name)
write_type_name slots name = record {
  writes = λ bytes t.
      let f = first_of (has_name slots name) 0 t.0 slots refl (is_this_some name (name_at slots t.0) t.1) in
      let index : name_index slots name ≡ f.at = ap or_zero f.is ∙ zero_plus f.at in
      let le = f.before in
      ((name_index slots name, ap (name_at slots) index ∙ this_is name (name_at slots f.at) f.passes, (subst (λ (n : ℕ). n < 2 ^ 16) (sym index) (omega (arith, t.2.0)), refl)), omega (arith, ap length t.2.1));
}
  where
    zero_plus : (n : ℕ) → 0 + n ≡ n
    zero_plus n = omega arith

pub write_class_name : (slots : Slots) (name : List ℕ) → Writes (ClassNameIs slots name) (name_bytes slots name)
write_class_name slots name = record { writes = λ bytes t. let x = (write_type_name slots name).writes bytes t.1 in ((t.0, x.0), x.1) }

pub write_field_descriptor : (slots : Slots) (text : List ℕ) → Writes (FieldDescriptorIs slots text) (text_bytes slots text)
write_field_descriptor slots text = record { writes = λ bytes t. let x = (write_text slots text).writes bytes t.1 in ((t.0, x.0), x.1) }

pub write_method_descriptor : (slots : Slots) (text : List ℕ) → Writes (MethodDescriptorIs slots text) (text_bytes slots text)
write_method_descriptor slots text = record { writes = λ bytes t. let x = (write_text slots text).writes bytes t.1 in ((t.0, x.0), x.1) }

-- ---- attributes

write_kept : (wanted : List ℕ) → Writes (BytesAre wanted) wanted
write_kept wanted = record { writes = λ bytes t. ((t.0, refl), omega (arith, ap length t.1)) }

pub write_attribute : (slots : Slots) (a : Attribute) → Writes (AttributeIs slots a) (attribute_bytes slots a)
write_attribute slots a = write_then (write_text slots a.name) (write_size (write_kept a.bytes))

pub write_known : {P : List ℕ → Type 0} {w : List ℕ} (slots : Slots) (name : List ℕ) → Writes P w → Writes (KnownIs slots name P) (named_bytes slots name w)
write_known slots name a = write_then (write_text slots name) (write_size a)

-- things behind things
pub each_append : {A : Type 0} (P : A → List ℕ → Type 0) (xs ys : List A) (front rest : List ℕ) → Each P xs front → Each P ys rest → Each P (xs ++ ys) (front ++ rest)
each_append P [] ys front rest e f = rw e f
each_append P (x ∷ xs) ys front rest e f = (e.0, e.1 ++ rest, ap (λ b. b ++ rest) e.2 ∙ append_assoc e.0 e.1 rest, e.3, each_append P xs ys e.1 rest e.4 f)

-- all other attributes
pub write_others : {P : List ℕ → Type 0} (slots : Slots) (name : List ℕ) (others : List Attribute) (bytes : List ℕ) → Among slots name P others bytes → (known : List ℕ) × KnownIs slots name P known × Each (AttributeIs slots) others (flat_map (attribute_bytes slots) others)
    × (length others + 1 < 2 ^ 16) × (2 + (length known + length (flat_map (attribute_bytes slots) others)) ≤ length bytes)
write_others slots name others bytes t =
    let s = t.3 in let a = s.4 in let k = a.4 in
    let both : Each (AttributeIs slots) others (a.0 ++ k.1) = subst (λ (xs : List Attribute). Each (AttributeIs slots) xs (a.0 ++ k.1)) (sym t.2) (each_append (AttributeIs slots) t.0 t.1 a.0 k.1 a.3 k.4) in
    let x = (write_each (attribute_bytes slots) (write_attribute slots) others).writes (a.0 ++ k.1) both in
    let le = x.1 in
    (k.0, k.3, x.0, s.3.0, omega (arith, ap length s.2, length-append s.0 s.1, ap length s.3.1, ap length a.2, length-append a.0 a.1, ap length k.2, length-append k.0 k.1, length-append a.0 k.1))

pub write_among : {P : List ℕ → Type 0} {w : List ℕ} (slots : Slots) (name : List ℕ) (others : List Attribute) → Writes P w → Writes (Among slots name P others) (attributes_bytes slots (named_bytes slots name w) others)
write_among {w = w} slots name others a = record {
  writes = λ bytes t.
      let o = write_others slots name others bytes t in
      let k = (write_known slots name a).writes o.0 o.1 in
      let known = named_bytes slots name w in let rest = flat_map (attribute_bytes slots) others in
      let le = k.1 in
      (([], others, refl, (u2 (length others + 1), known ++ rest, refl, (o.3, refl), ([], known ++ rest, refl, refl, (known, rest, refl, k.0, o.2)))), omega (arith, o.4, two (length others + 1) (known ++ rest), length-append known rest));
}
  where
    two : (n : ℕ) (b : List ℕ) → length (u2 n ++ b) ≡ 2 + length b
    two n b = omega (arith, length-append (u2 n) b)
