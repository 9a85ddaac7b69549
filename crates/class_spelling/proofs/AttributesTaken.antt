-- Names and attributes that are read are spelled.
use Rattle.std.proofs.Common.{◌≡◌, ℕ, zero, suc, ◌+◌, ◌^◌, ◌<◌, Bool, true, false, cond, List, [], ◌∷◌, ◌++◌, length, Option, Some, None, Ok, refl, sym, ap, subst, ◌∙◌, append_assoc, append-nil, arith, inl, inr, eqb}
use Rattle.std.specs.Prelude.{IsFalse, ◌||◌, not, ◌⊎◌, IsSome, is_some}
use Rattle.std.proofs.lemmas.Bool.{eqb-true}
use Rattle.std.proofs.lemmas.List.Elements.{All-nil, All-cons}
use Rattle.class_file.specs.declared.class.Attribute.{Attribute}
use Rattle.class_file.specs.declared.class.Handler.{Handler}
use Rattle.class_file.specs.declared.format_fault.FormatCode.TheVariants.{BadIndex, BadCode}
use Rattle.class_file.specs.Pools.{Slots, is_text}
use Rattle.class_file.specs.InstrBytes.{u4}
use Rattle.class_file.specs.ClassBytes.{◌⌢◌, U2, Each, Sized, BytesAre, TextIs, TypeNameIs, ClassNameIs, AttributeIs, KnownIs, NoneIsNamed, CatchTypeIs, HandlerIs, text_at, name_at, AreBytes}
use Rattle.class_file.specs.Inputs.{◌>>=◌, Input, Read, Reading, read, fault, sized, bytes_at}
use Rattle.class_file.specs.FormatFaults.{named, text_named, type_named, class_named, kept_bytes, attribute_at, Attributes, attributes, is_there, among_at, attributes_among, catch_type_at, handler_at}
use Rattle.class_spelling.proofs.Texts.{same_text}
use Rattle.class_spelling.proofs.Takes.{Takes, take_then, take_last, take_as, take_if, take_fault, take_nothing, read_is, read32, take_bytes, take_number, take_number2, take_size}

-- what an index names
named_is : {A : Type 0} (at : ℕ) (j : Input) (o : Option A) (y : Read A) → named at j o ≡ Ok y → (y.rest ≡ j) × (o ≡ Some y.value)
named_is at j None y e = absurd cc
named_is at j (Some x) y e = let same = read_is x j y e in (same.0, ap Some (sym same.1))

pub take_text : (slots : Slots) → Takes (text_named slots) (TextIs slots)
take_text slots = take_last (λ i n. named i.at n.rest (text_at slots n.value)) (λ n text. text_at slots n ≡ Some text) take_number2 (λ i j n y e. named_is i.at j (text_at slots n) y e)

pub take_type_name : (slots : Slots) → Takes (type_named slots) (TypeNameIs slots)
take_type_name slots = take_last (λ i n. named i.at n.rest (name_at slots n.value)) (λ n name. name_at slots n ≡ Some name) take_number2 (λ i j n y e. named_is i.at j (name_at slots n) y e)

-- the end of a reader that only tests
kept_if : {A : Type 0} {b : Bool} (at : ℕ) (x : A) (j : Input) (y : Read A) → cond b (fault BadIndex at) (read x j) ≡ Ok y → (y.rest ≡ j) × (b ≡ false) × (y.value ≡ x)
kept_if {b = true} at x j y e = absurd cc
kept_if {b = false} at x j y e = let same = read_is x j y e in (same.0, refl, same.1)

pub take_class : (slots : Slots) → Takes (class_named slots) (ClassNameIs slots)
take_class slots = take_as (ClassNameIs slots) (take_last _ (λ name y. ((bytes : List ℕ) → TypeNameIs slots name bytes → ClassNameIs slots name bytes) × (y ≡ name)) (take_type_name slots)
    (λ i j name y e. let k = kept_if i.at name j y e in (k.0, ((λ bytes is. (k.1, is)), k.2))))
    (λ y bytes t. subst (λ (z : List ℕ). ClassNameIs slots z bytes) (sym t.1.1) (t.1.0 bytes t.2))

pub take_kept : Takes kept_bytes (λ wanted. Sized (BytesAre wanted))
take_kept = take_as (λ wanted. Sized (BytesAre wanted)) (take_then (λ i n. bytes_at n.value n.rest) (λ n wanted body. (length wanted ≡ n) × AreBytes wanted × (body ≡ wanted)) (take_number read32) (λ i n. take_bytes n))
    (λ x bytes t. let s = t.1 in
    let len : length s.1 ≡ t.0 = ap length s.4.2 ∙ s.4.0 in
    (s.1, subst (λ (n : ℕ). n < 2 ^ 32) (sym len) s.3.0, s.2 ∙ ap (λ (f : List ℕ). f ++ s.1) s.3.1 ∙ ap (λ (n : ℕ). u4 n ++ s.1) (sym len), (s.4.1, s.4.2)))

pub take_attribute : (slots : Slots) → Takes (attribute_at slots) (AttributeIs slots)
unfolding attribute_at
take_attribute slots = take_as (AttributeIs slots)
    (take_then (λ i name. kept_bytes name.rest >>= λ bytes. read (record { name = name.value; bytes = bytes.value }) bytes.rest)
    (λ name a body. (b : List ℕ) × (a ≡ record { name = name; bytes = b }) × Sized (BytesAre b) body) (take_text slots)
    (λ i name. take_last (λ j bytes. read (record { name = name; bytes = bytes.value }) bytes.rest) (λ b a. a ≡ record { name = name; bytes = b }) take_kept (λ i j b y e. read_is (record { name = name; bytes = b }) j y e)))
    (λ a bytes t. subst (λ (z : Attribute). AttributeIs slots z bytes) (sym t.1.4.1) (t.1.0, t.1.1, t.1.2, t.1.3, t.1.4.2))

-- ---- attributes of which one has a meaning

-- what so many attributes add to those that were read
pub data Added {A : Type 0} (slots : Slots) (wanted : List ℕ) (allowed : Bool) (P : A → List ℕ → Type 0) (known : Option A) (front : List Attribute) (n : ℕ) (y : Attributes A) (bytes : List ℕ) : Type 0 where
  only_others : (xs : List Attribute) → y.known ≡ known → y.others ≡ front ++ xs → length xs ≡ n → NoneIsNamed wanted xs → Each (AttributeIs slots) xs bytes → Added slots wanted allowed P known front n y bytes
  with_known : (x : A) (before behind : List Attribute) → known ≡ None → allowed ≡ true → y.known ≡ Some x → y.others ≡ front ++ (before ++ behind) → length before + length behind + 1 ≡ n
      → NoneIsNamed wanted before → NoneIsNamed wanted behind → (Each (AttributeIs slots) before ⌢ KnownIs slots wanted (P x) ⌢ Each (AttributeIs slots) behind) bytes → Added slots wanted allowed P known front n y bytes

not_there : {A : Type 0} (known : Option A) (allowed : Bool) → (is_there known || not allowed) ≡ false → (known ≡ None) × (allowed ≡ true)
not_there None true e = (refl, refl)
not_there None false e = absurd cc
not_there (Some x) allowed e = absurd cc

-- the known attribute in front
known_first : {A : Type 0} (slots : Slots) (wanted name : List ℕ) (allowed : Bool) (P : A → List ℕ → Type 0) (known : Option A) (front : List Attribute) (n : ℕ) (y : Attributes A) (x : A) (first second rest : List ℕ)
    → is_text name wanted ≡ true → (is_there known || not allowed) ≡ false → TextIs slots name first → Sized (P x) second → Added slots wanted allowed P (Some x) front n y rest → Added slots wanted allowed P known front (suc n) y (first ++ (second ++ rest))
known_first slots wanted name allowed P known front n y x first second rest same free named is (only_others xs e f g none all) =
    let f' = not_there known allowed free in
    with_known x [] xs f'.0 f'.1 e f (omega arith) (All-nil _) none ([], first ++ (second ++ rest), refl, refl, (first ++ second, rest, sym (append_assoc first second rest), (first, second, refl, subst (λ (t : List ℕ). TextIs slots t first) (same_text name wanted same) named, is), all))
known_first slots wanted name allowed P known front n y x first second rest same free named is (with_known z before behind e f g h i j k l) = absurd cc

other_first : {A : Type 0} (slots : Slots) (wanted : List ℕ) (allowed : Bool) (P : A → List ℕ → Type 0) (known : Option A) (front : List Attribute) (n : ℕ) (y : Attributes A) (a : Attribute) (first second rest : List ℕ)
    → is_text a.name wanted ≡ false → TextIs slots a.name first → Sized (BytesAre a.bytes) second → Added slots wanted allowed P known (front ++ a ∷ []) n y rest → Added slots wanted allowed P known front (suc n) y (first ++ (second ++ rest))
other_first slots wanted allowed P known front n y a first second rest other named is (only_others xs e f g none all) =
    only_others (a ∷ xs) e (f ∙ append_assoc front (a ∷ []) xs) (ap suc g) (All-cons (λ a. IsFalse (is_text a.name wanted)) a xs other none) (first ++ second, rest, sym (append_assoc first second rest), (first, second, refl, named, is), all)
other_first slots wanted allowed P known front n y a first second rest other named is (with_known x before behind e f g h i none free all) =
    with_known x (a ∷ before) behind e f g (h ∙ append_assoc front (a ∷ []) (before ++ behind)) (omega arith) (All-cons (λ a. IsFalse (is_text a.name wanted)) a before other none) free (
      (first ++ second) ++ all.0,
      all.1,
      ap (λ (r : List ℕ). first ++ (second ++ r)) all.2 ∙ ap (λ (r : List ℕ). first ++ r) (sym (append_assoc second all.0 all.1)) ∙ sym (append_assoc first (second ++ all.0) all.1) ∙ ap (λ (r : List ℕ). r ++ all.1) (sym (append_assoc first second all.0)),
      (first ++ second, all.0, refl, (first, second, refl, named, is), all.3),
      all.4,
    )

-- what stands behind a name
abbrev Behind : {A : Type 0} → Slots → List ℕ → Bool → (A → List ℕ → Type 0) → Option A → List Attribute → ℕ → List ℕ → Attributes A → List ℕ → Type 0
Behind {A} slots wanted allowed P known front n name y bytes =
    ((x : A) × (is_text name wanted ≡ true) × ((is_there known || not allowed) ≡ false) × (Sized (P x) ⌢ Added slots wanted allowed P (Some x) front n y) bytes)
    ⊎ ((b : List ℕ) × (is_text name wanted ≡ false) × (Sized (BytesAre b) ⌢ Added slots wanted allowed P known (front ++ record { name = name; bytes = b } ∷ []) n y) bytes)

behind_name : {A : Type 0} (slots : Slots) (wanted : List ℕ) (allowed : Bool) (P : A → List ℕ → Type 0) (known : Option A) (front : List Attribute) (n : ℕ) (name : List ℕ) (y : Attributes A) (first rest : List ℕ)
    → TextIs slots name first → Behind slots wanted allowed P known front n name y rest → Added slots wanted allowed P known front (suc n) y (first ++ rest)
behind_name slots wanted allowed P known front n name y first rest is (inl t) =
    subst (λ (r : List ℕ). Added slots wanted allowed P known front (suc n) y (first ++ r)) (sym t.3.2) (known_first slots wanted name allowed P known front n y t.0 first t.3.0 t.3.1 t.1 t.2 is t.3.3 t.3.4)
behind_name slots wanted allowed P known front n name y first rest is (inr t) =
    subst (λ (r : List ℕ). Added slots wanted allowed P known front (suc n) y (first ++ r)) (sym t.2.2) (other_first slots wanted allowed P known front n y (record { name = name; bytes = t.0 }) first t.2.0 t.2.1 t.1 is t.2.3 t.2.4)

take_among : {A : Type 0} {inside : Input → Reading A} {P : A → List ℕ → Type 0} (slots : Slots) (wanted : List ℕ) (allowed : Bool) → Takes inside P → (n : ℕ) (known : Option A) (front : List Attribute)
    → Takes (among_at slots wanted allowed inside n (attributes known front)) (Added slots wanted allowed P known front n)
unfolding among_at
take_among {A = A} {P = P} slots wanted allowed takes zero known front = take_as (Added slots wanted allowed P known front 0) (take_nothing (attributes known front))
    (λ y bytes t. only_others [] (ap (λ (z : Attributes A). z.known) t.0) (ap (λ (z : Attributes A). z.others) t.0 ∙ sym (append-nil front)) refl (All-nil (λ a. IsFalse (is_text a.name wanted))) t.1)
take_among {A = A} {inside = inside} {P = P} slots wanted allowed takes (suc n) known front = take_as (Added slots wanted allowed P known front (suc n))
    (take_then (λ i name. cond (is_text name.value wanted)
    (cond (is_there known || not allowed) (fault BadCode i.at) (sized inside name.rest >>= λ x. among_at slots wanted allowed inside n (attributes (Some x.value) front) x.rest))
    (kept_bytes name.rest >>= λ b. among_at slots wanted allowed inside n (attributes known (front ++ record { name = name.value; bytes = b.value } ∷ [])) b.rest))
    (Behind slots wanted allowed P known front n) (take_text slots)
    (λ i name. take_if _ _ (Behind slots wanted allowed P known front n name) (is_text name wanted)
    (λ same. take_if _ _ (Behind slots wanted allowed P known front n name) (is_there known || not allowed) (λ _. take_fault _ (Behind slots wanted allowed P known front n name)) (λ free. take_as (Behind slots wanted allowed P known front n name)
    (take_then (λ j x. among_at slots wanted allowed inside n (attributes (Some x.value) front) x.rest) (λ x. Added slots wanted allowed P (Some x) front n) (take_size takes) (λ j x. take_among slots wanted allowed takes n (Some x) front))
    (λ y bytes t. inl (t.0, same, free, t.1))))
    (λ other. take_as (Behind slots wanted allowed P known front n name)
    (take_then (λ j b. among_at slots wanted allowed inside n (attributes known (front ++ record { name = name; bytes = b.value } ∷ [])) b.rest) (λ b. Added slots wanted allowed P known (front ++ record { name = name; bytes = b } ∷ []) n) take_kept
    (λ j b. take_among slots wanted allowed takes n known (front ++ record { name = name; bytes = b } ∷ [])))
    (λ y bytes t. inr (t.0, other, t.1)))))
    (λ y bytes t. let s = t.1 in subst (Added slots wanted allowed P known front (suc n) y) (sym s.2) (behind_name slots wanted allowed P known front n t.0 y s.0 s.1 s.3 s.4))

-- ---- rows of exception tables

kept_index : (slots : Slots) (index : ℕ) (b : Bool) (at : ℕ) (j : Input) (y : Read ℕ) → (eqb index 0 || b) ≡ (eqb index 0 || b) → cond (eqb index 0 || b) (read index j) (fault BadIndex at) ≡ Ok y → (y.rest ≡ j) × ((eqb index 0 || b) ≡ true) × (y.value ≡ index)
kept_index slots index b at j y _ e = go (eqb index 0 || b) e
  where
    go : (c : Bool) → cond c (read index j) (fault BadIndex at) ≡ Ok y → (y.rest ≡ j) × (c ≡ true) × (y.value ≡ index)
    go true e = let same = read_is index j y e in (same.0, refl, same.1)
    go false e = absurd cc

there_some : {A : Type 0} (o : Option A) → is_there o ≡ true → is_some o ≡ true
there_some (Some x) e = refl
there_some None e = absurd cc

zero_or_named : (slots : Slots) (index : ℕ) → (eqb index 0 || is_there (name_at slots index)) ≡ true → (index ≡ 0) ⊎ IsSome (name_at slots index)
zero_or_named slots index e = go (eqb index 0) refl e
  where
    go : (b : Bool) → eqb index 0 ≡ b → (b || is_there (name_at slots index)) ≡ true → (index ≡ 0) ⊎ IsSome (name_at slots index)
    go true is e = inl (eqb-true index 0 is)
    go false is e = inr (there_some (name_at slots index) e)

take_catch_type : (slots : Slots) → Takes (catch_type_at slots) (CatchTypeIs slots)
take_catch_type slots = take_as (CatchTypeIs slots) (take_last (λ i n. cond (eqb n.value 0 || is_there (name_at slots n.value)) (Ok n) (fault BadIndex i.at)) (λ n y. ((eqb n 0 || is_there (name_at slots n)) ≡ true) × (y ≡ n)) take_number2
    (λ i j n y e. let k = kept_index slots n (is_there (name_at slots n)) i.at j y refl e in (k.0, (k.1, k.2))))
    (λ y bytes t. subst (λ (z : ℕ). CatchTypeIs slots z bytes) (sym t.1.1) (zero_or_named slots t.0 t.1.0, t.2))

pub take_handler : (slots : Slots) → Takes (handler_at slots) (HandlerIs slots)
unfolding handler_at
take_handler slots = take_as (HandlerIs slots)
    (take_then _ (λ start h bytes. (end : ℕ) × (U2 end ⌢ λ b. (at : ℕ) × (U2 at ⌢ λ c. (catch : ℕ) × (h ≡ handler start end at catch) × CatchTypeIs slots catch c) b) bytes) take_number2 (λ i start.
    take_then _ (λ end h b. (at : ℕ) × (U2 at ⌢ λ c. (catch : ℕ) × (h ≡ handler start end at catch) × CatchTypeIs slots catch c) b) take_number2 (λ i end.
    take_then _ (λ at h c. (catch : ℕ) × (h ≡ handler start end at catch) × CatchTypeIs slots catch c) take_number2 (λ i at.
    take_last _ (λ catch h. h ≡ handler start end at catch) (take_catch_type slots) (λ i j catch y e. read_is (handler start end at catch) j y e)))))
    (λ h bytes t. let a = t.1 in let b = a.4.1 in let c = b.4.1 in let d = c.4 in subst (λ (z : Handler). HandlerIs slots z bytes) (sym d.1) (a.0, a.1, a.2, a.3, (b.0, b.1, b.2, b.3, (c.0, c.1, c.2, c.3, d.2))))
  where
    handler : ℕ → ℕ → ℕ → ℕ → Handler
    handler start end at catch = record { start = start; end = end; at = at; catch_type = catch }

-- ---- all attributes

pub take_attributes : {A : Type 0} {inside : Input → Reading A} {P : A → List ℕ → Type 0} (slots : Slots) (wanted : List ℕ) (allowed : Bool) → Takes inside P
    → Takes (attributes_among slots wanted allowed inside) (λ y bytes. (n : ℕ) × (U2 n ⌢ Added slots wanted allowed P None [] n y) bytes)
unfolding attributes_among
take_attributes {inside = inside} {P = P} slots wanted allowed takes = take_then (λ i n. among_at slots wanted allowed inside n.value (attributes None []) n.rest) (λ n. Added slots wanted allowed P None [] n) take_number2 (λ i n. take_among slots wanted allowed takes n None [])
