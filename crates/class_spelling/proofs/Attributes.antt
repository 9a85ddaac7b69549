-- Names and attributes that are spelled are read.
use Rattle.std.proofs.Common.{◌≡◌, ℕ, suc, ◌+◌, ◌^◌, ◌<◌, Bool, true, false, cond, List, [], ◌∷◌, ◌++◌, length, Option, Some, None, Ok, refl, sym, ap, subst, ◌∙◌, append_assoc, append-nil, arith, inl, inr, All, eqb, eq-eqb, length-append}
use Rattle.std.specs.Prelude.{IsFalse, ◌||◌, not, ◌⊎◌, IsSome, is_some}
use Rattle.std.proofs.lemmas.List.Elements.{All-head, All-tail}
use Rattle.class_file.specs.declared.class.Attribute.{Attribute}
use Rattle.class_file.specs.declared.class.Handler.{Handler}
use Rattle.class_file.specs.declared.format_fault.FormatCode.TheVariants.{BadIndex, BadCode}
use Rattle.class_file.specs.Pools.{Slots, is_text}
use Rattle.class_file.specs.InstrBytes.{u4}
use Rattle.class_file.specs.ClassBytes.{◌⌢◌, Is, U2, Each, Table, Sized, BytesAre, TextIs, TypeNameIs, ClassNameIs, AttributeIs, KnownIs, Among, NoneIsNamed, CatchTypeIs, HandlerIs, text_at, name_at}
use Rattle.class_file.specs.Inputs.{◌>>=◌, Input, Read, Reading, read, fault, sized}
use Rattle.class_file.specs.FormatFaults.{named, text_named, type_named, class_named, kept_bytes, attribute_at, Attributes, attributes, is_there, among_at, attributes_among, catch_type_at, handler_at}
use Rattle.class_spelling.proofs.Texts.{or_true, text_is_itself, all_left, all_right}
use Rattle.class_spelling.proofs.Gives.{got, Gives, then, last, number, number2, wide32, bytes_read, in_size, regroup, without_end, nothing_read, by_else, by_then}

text_at_index : (slots : Slots) (text : List ℕ) (index : ℕ) → text_at slots index ≡ Some text → Gives (text_named slots) (U2 index) text
text_at_index slots text index e = last _ (number2 index) (λ i j. ap (named i.at j) e)

pub text_gives : (slots : Slots) (text : List ℕ) → Gives (text_named slots) (TextIs slots text) text
text_gives slots text = record { gives = λ at piece rest is. (text_at_index slots text is.0 is.1).gives at piece rest is.2 }

name_at_index : (slots : Slots) (name : List ℕ) (index : ℕ) → name_at slots index ≡ Some name → Gives (type_named slots) (U2 index) name
name_at_index slots name index e = last _ (number2 index) (λ i j. ap (named i.at j) e)

pub type_name_gives : (slots : Slots) (name : List ℕ) → Gives (type_named slots) (TypeNameIs slots name) name
type_name_gives slots name = record { gives = λ at piece rest is. (name_at_index slots name is.0 is.1).gives at piece rest is.2 }

no_array_gives : (slots : Slots) (name bytes : List ℕ) → ClassNameIs slots name bytes → Gives (class_named slots) (TypeNameIs slots name) name
no_array_gives slots name bytes is = last _ (type_name_gives slots name) (λ i j. let e = is.0 in rw e refl)

pub class_gives : (slots : Slots) (name : List ℕ) → Gives (class_named slots) (ClassNameIs slots name) name
class_gives slots name = record { gives = λ at piece rest is. (no_array_gives slots name piece is).gives at piece rest is.1 }

kept_of_length : (wanted : List ℕ) → length wanted < 2 ^ 32 → Gives kept_bytes (Is (u4 (length wanted)) ⌢ Is wanted) wanted
kept_of_length wanted lt = then _ (number wide32 (length wanted) lt) (λ i. bytes_read wanted)

pub kept_gives : (wanted : List ℕ) → Gives kept_bytes (Sized (BytesAre wanted)) wanted
kept_gives wanted = record {
  gives = λ at piece rest is.
      (kept_of_length wanted (subst (λ (b : List ℕ). length b < 2 ^ 32) is.3.1 is.1)).gives at piece rest (u4 (length wanted), wanted, is.2 ∙ ap (λ (b : List ℕ). u4 (length b) ++ b) is.3.1, refl, refl);
}

pub attribute_gives : (slots : Slots) (a : Attribute) → Gives (attribute_at slots) (AttributeIs slots a) a
unfolding attribute_at
attribute_gives slots a = then _ (text_gives slots a.name) (λ i. last _ (kept_gives a.bytes) (λ i j. refl))

-- ---- attributes of which one has a meaning

abbrev known_or_other : {A : Type 0} → Slots → List ℕ → Bool → (Input → Reading A) → ℕ → Attributes A → Input → Read (List ℕ) → Reading (Attributes A)
known_or_other slots wanted allowed inside n so_far i name =
    cond (is_text name.value wanted)
    (cond (is_there so_far.known || not allowed) (fault BadCode i.at) (sized inside name.rest >>= λ x. among_at slots wanted allowed inside n (attributes (Some x.value) so_far.others) x.rest))
    (kept_bytes name.rest >>= λ b. among_at slots wanted allowed inside n (attributes so_far.known (so_far.others ++ record { name = name.value; bytes = b.value } ∷ [])) b.rest)

other_gives : {A : Type 0} (inside : Input → Reading A) {R : List ℕ → Type 0} {y : Attributes A}
    (slots : Slots) (wanted : List ℕ) (allowed : Bool) (x : Attribute) (m : ℕ) (known : Option A) (front : List Attribute)
    → is_text x.name wanted ≡ false → Gives (among_at slots wanted allowed inside m (attributes known (front ++ x ∷ []))) R y
    → Gives (among_at slots wanted allowed inside (suc m) (attributes known front)) (AttributeIs slots x ⌢ R) y
unfolding among_at
other_gives inside slots wanted allowed x m known front none gives = regroup (then (known_or_other slots wanted allowed inside m (attributes known front)) (text_gives slots x.name) (λ i.
    by_else _ (λ j. kept_bytes j >>= λ b. among_at slots wanted allowed inside m (attributes known (front ++ record { name = x.name; bytes = b.value } ∷ [])) b.rest) (is_text x.name wanted) none (then _ (kept_gives x.bytes) (λ j. gives))))

known_gives : {A : Type 0} (inside : Input → Reading A) {P R : List ℕ → Type 0} {x : A} {y : Attributes A} (slots : Slots) (wanted : List ℕ) (m : ℕ) (front : List Attribute)
    → Gives inside P x → Gives (among_at slots wanted true inside m (attributes (Some x) front)) R y
    → Gives (among_at slots wanted true inside (suc m) (attributes None front)) (KnownIs slots wanted P ⌢ R) y
unfolding among_at
known_gives inside slots wanted m front one gives = regroup (then (known_or_other slots wanted true inside m (attributes None front)) (text_gives slots wanted) (λ i.
    by_then (λ j. sized inside j >>= λ x. among_at slots wanted true inside m (attributes (Some x.value) front) x.rest) _ (is_text wanted wanted) (text_is_itself wanted) (then _ (in_size one) (λ j. gives))))

nothing_more : {A : Type 0} (inside : Input → Reading A) (slots : Slots) (wanted : List ℕ) (allowed : Bool) (so_far : Attributes A) → Gives (among_at slots wanted allowed inside 0 so_far) (Is []) so_far
unfolding among_at
nothing_more inside slots wanted allowed so_far = nothing_read so_far

others_give : {A : Type 0} (inside : Input → Reading A) {R : List ℕ → Type 0} {y : Attributes A}
    (slots : Slots) (wanted : List ℕ) (allowed : Bool) (xs : List Attribute) (m : ℕ) (known : Option A) (front : List Attribute)
    → NoneIsNamed wanted xs → Gives (among_at slots wanted allowed inside m (attributes known (front ++ xs))) R y
    → Gives (among_at slots wanted allowed inside (length xs + m) (attributes known front)) (Each (AttributeIs slots) xs ⌢ R) y
others_give inside {R = R} {y = y} slots wanted allowed [] m known front none gives = record {
  gives = λ at piece rest is.
      let same : piece ≡ is.1 = is.2 ∙ ap (λ (p : List ℕ). p ++ is.1) is.3 in
      let here = subst (λ (f : List Attribute). Gives (among_at slots wanted allowed inside m (attributes known f)) R y) (append-nil front) gives in
      let there = subst (λ (n : ℕ). Gives (among_at slots wanted allowed inside n (attributes known front)) R y) (zero_plus m) here in
      there.gives at piece rest (subst R (sym same) is.4);
}
  where
    zero_plus : (m : ℕ) → m ≡ 0 + m
    zero_plus m = omega arith
others_give inside {R = R} {y = y} slots wanted allowed (x ∷ xs) m known front none gives =
    let more = subst (λ (f : List Attribute). Gives (among_at slots wanted allowed inside m (attributes known f)) R y) (sym (append_assoc front (x ∷ []) xs)) gives in
    let rest = others_give inside slots wanted allowed xs m known (front ++ x ∷ []) (All-tail (λ a. IsFalse (is_text a.name wanted)) x xs none) more in
    regroup (subst (λ (n : ℕ). Gives (among_at slots wanted allowed inside n (attributes known front)) (AttributeIs slots x ⌢ Each (AttributeIs slots) xs ⌢ R) y) (suc_plus (length xs) m)
    (other_gives inside slots wanted allowed x (length xs + m) known front (All-head (λ a. IsFalse (is_text a.name wanted)) x xs none) rest))
  where
    suc_plus : (n m : ℕ) → suc (n + m) ≡ suc n + m
    suc_plus n m = omega arith

-- ---- rows of exception tables

is_some_there : {A : Type 0} (o : Option A) → is_some o ≡ true → is_there o ≡ true
is_some_there (Some x) e = refl
is_some_there None e = absurd cc

catch_type_there : (slots : Slots) (index : ℕ) → (eqb index 0 || is_there (name_at slots index)) ≡ true → Gives (catch_type_at slots) (U2 index) index
catch_type_there slots index e = last _ (number2 index) (λ i j. ap (λ (b : Bool). cond b (read index j) (fault BadIndex i.at)) e)

pub catch_type_gives : (slots : Slots) (index : ℕ) → Gives (catch_type_at slots) (CatchTypeIs slots index) index
catch_type_gives slots index = record { gives = λ at piece rest is. (catch_type_there slots index (named_or_0 is.0)).gives at piece rest is.1 }
  where
    named_or_0 : (index ≡ 0) ⊎ IsSome (name_at slots index) → (eqb index 0 || is_there (name_at slots index)) ≡ true
    named_or_0 (inl e) = ap (λ (b : Bool). b || is_there (name_at slots index)) (eq-eqb index 0 e)
    named_or_0 (inr s) = ap (λ (b : Bool). eqb index 0 || b) (is_some_there (name_at slots index) s) ∙ or_true (eqb index 0)

pub handler_gives : (slots : Slots) (h : Handler) → Gives (handler_at slots) (HandlerIs slots h) h
unfolding handler_at
handler_gives slots h = then _ (number2 h.start) (λ i. then _ (number2 h.end) (λ i. then _ (number2 h.at) (λ i. last _ (catch_type_gives slots h.catch_type) (λ i j. refl))))

-- ---- all attributes

pub all_others_give : {A : Type 0} (inside : Input → Reading A) (slots : Slots) (wanted : List ℕ) (allowed : Bool) (xs : List Attribute)
    → NoneIsNamed wanted xs → Gives (attributes_among slots wanted allowed inside) (Table (AttributeIs slots) xs) (attributes None xs)
unfolding attributes_among
all_others_give inside slots wanted allowed xs none = then _ (number2 (length xs)) (λ i. without_end (subst (λ (n : ℕ). Gives (among_at slots wanted allowed inside n (attributes None [])) (Each (AttributeIs slots) xs ⌢ Is []) (attributes None xs)) (plus_zero (length xs))
    (others_give inside slots wanted allowed xs 0 None [] none (nothing_more inside slots wanted allowed (attributes None xs)))))
  where
    plus_zero : (n : ℕ) → n + 0 ≡ n
    plus_zero n = omega arith

parted : {A : Type 0} (inside : Input → Reading A) {P : List ℕ → Type 0} {x : A} (slots : Slots) (wanted : List ℕ) (before behind : List Attribute)
    → NoneIsNamed wanted before → NoneIsNamed wanted behind → Gives inside P x
    → Gives (attributes_among slots wanted true inside) (U2 (length (before ++ behind) + 1) ⌢ Each (AttributeIs slots) before ⌢ KnownIs slots wanted P ⌢ Each (AttributeIs slots) behind) (attributes (Some x) (before ++ behind))
unfolding attributes_among
parted inside {P = P} {x = x} slots wanted before behind none free gives = then _ (number2 (length (before ++ behind) + 1)) (λ i.
    subst (λ (n : ℕ). Gives (among_at slots wanted true inside n (attributes None [])) (Each (AttributeIs slots) before ⌢ KnownIs slots wanted P ⌢ Each (AttributeIs slots) behind) (attributes (Some x) (before ++ behind))) (counts (length before) (length behind) (length (before ++ behind)) (length-append before behind))
    (others_give inside slots wanted true before (suc (length behind + 0)) None [] none (known_gives inside slots wanted (length behind + 0) before gives
    (without_end (others_give inside slots wanted true behind 0 (Some x) before free (nothing_more inside slots wanted true (attributes (Some x) (before ++ behind))))))))
  where
    counts : (m n k : ℕ) → k ≡ m + n → m + suc (n + 0) ≡ k + 1
    counts m n k e = omega arith

pub among_gives : {A : Type 0} (inside : Input → Reading A) {P : List ℕ → Type 0} {x : A} (slots : Slots) (wanted : List ℕ) (others : List Attribute)
    → NoneIsNamed wanted others → Gives inside P x → Gives (attributes_among slots wanted true inside) (Among slots wanted P others) (attributes (Some x) others)
among_gives inside {P = P} {x = x} slots wanted others none gives = record {
  gives = λ at piece rest is.
      let named = λ (a : Attribute). IsFalse (is_text a.name wanted) in
      let none' : All named (is.0 ++ is.1) = subst (All named) is.2 none in
      let g = (parted inside slots wanted is.0 is.1 (all_left named is.0 is.1 none') (all_right named is.0 is.1 none') gives).gives at piece rest (subst (λ (xs : List Attribute). (U2 (length xs + 1) ⌢ Each (AttributeIs slots) is.0 ⌢ KnownIs slots wanted P ⌢ Each (AttributeIs slots) is.1) piece) is.2 is.3) in
      (g.0, g.1 ∙ ap (λ (xs : List Attribute). Ok (got (attributes (Some x) xs) g.0 rest)) (sym is.2));
}
