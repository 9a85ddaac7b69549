-- Texts in modified UTF-8: reading is the inverse of writing.
use Rattle.std.proofs.Common.{◌≡◌, ℕ, ◌-◌, ◌+◌, ◌*◌, ◌/◌, ◌%◌, ◌^◌, ◌≤◌, ◌<◌, Bool, true, false, cond, List, [], ◌∷◌, ◌++◌, nat_lt, eqb, Option, Some, None, refl, sym, ap, subst, ◌∙◌, arith, inl, inr, ◌⊎◌}
use Rattle.std.specs.Prelude.{not, ◌&&◌, ◌||◌, ◌==◌}
use Rattle.std.specs.List.{AllByRecursion}
use Rattle.std.proofs.lemmas.Bool.{lt-ltb, le-ltb, ltb-true, ltb-false, eqb-true}
use Rattle.std.proofs.lemmas.List.Concat.{flat_map-cons}
use Rattle.kc_text.specs.Modified.{modified_of, modified_of_unit}
use Rattle.class_file.specs.Inputs.{text_of_modified}

abbrev is_low : ℕ → Bool
is_low c = not (nat_lt c 0x80) && nat_lt c 0xC0

abbrev is_one : ℕ → Bool
is_one b = nat_lt 0 b && nat_lt b 0x80

abbrev in_two : ℕ → ℕ → ℕ
in_two b c = (b - 0xC0) * 0x40 + (c - 0x80)

abbrev is_two : ℕ → ℕ → Bool
is_two b c = not (nat_lt b 0xC0) && nat_lt b 0xE0 && is_low c && (in_two b c == 0 || not (nat_lt (in_two b c) 0x80))

abbrev in_three : ℕ → ℕ → ℕ → ℕ
in_three b c d = (b - 0xE0) * 0x1000 + (c - 0x80) * 0x40 + (d - 0x80)

abbrev is_three : ℕ → ℕ → ℕ → Bool
is_three b c d = not (nat_lt b 0xE0) && nat_lt b 0xF0 && is_low c && is_low d && not (nat_lt (in_three b c d) 0x800)

abbrev put : ℕ → Option (List ℕ) → Option (List ℕ)
put u None = None
put u (Some us) = Some (u ∷ us)

abbrev AreSmall : List ℕ → Type 0
AreSmall = AllByRecursion (λ u. u < 2 ^ 16)

-- a text and the bytes that it has
abbrev Spelled : List ℕ → List ℕ → Type 0
Spelled bytes t = AreSmall t × (modified_of t ≡ bytes)

one_spelled : (b : ℕ) → is_one b ≡ true → (modified_of_unit b ≡ b ∷ []) × (b < 2 ^ 16)
one_spelled b h = (rw h refl, by (nat_lt 0 b) (nat_lt b 0x80) refl h)
  where
    by : (x y : Bool) → nat_lt b 0x80 ≡ y → x && y ≡ true → b < 2 ^ 16
    by true true e h = omega (arith, ltb-true b 0x80 e)
    by true false e h = absurd cc
    by false y e h = absurd cc

record Two (b c : ℕ) : Type 0 where
  low : 0xC0 ≤ b
  high : b < 0xE0
  from : 0x80 ≤ c
  to : c < 0xC0
  fit : (in_two b c ≡ 0) ⊎ (0x80 ≤ in_two b c)

two_facts : (b c : ℕ) → is_two b c ≡ true → Two b c
two_facts b c h = by (nat_lt b 0xC0) (nat_lt b 0xE0) (nat_lt c 0x80) (nat_lt c 0xC0) (eqb (in_two b c) 0) (nat_lt (in_two b c) 0x80) refl refl refl refl refl refl h
  where
    by : (p q r s z w : Bool) → nat_lt b 0xC0 ≡ p → nat_lt b 0xE0 ≡ q → nat_lt c 0x80 ≡ r → nat_lt c 0xC0 ≡ s → eqb (in_two b c) 0 ≡ z → nat_lt (in_two b c) 0x80 ≡ w
        → (not p && q && (not r && s) && (z || not w)) ≡ true → Two b c
    by true q r s z w e1 e2 e3 e4 e5 e6 h = absurd cc
    by false false r s z w e1 e2 e3 e4 e5 e6 h = absurd cc
    by false true true s z w e1 e2 e3 e4 e5 e6 h = absurd cc
    by false true false false z w e1 e2 e3 e4 e5 e6 h = absurd cc
    by false true false true true w e1 e2 e3 e4 e5 e6 h = record { low = ltb-false _ _ e1; high = ltb-true _ _ e2; from = ltb-false _ _ e3; to = ltb-true _ _ e4; fit = inl (eqb-true _ _ e5) }
    by false true false true false true e1 e2 e3 e4 e5 e6 h = absurd cc
    by false true false true false false e1 e2 e3 e4 e5 e6 h = record { low = ltb-false _ _ e1; high = ltb-true _ _ e2; from = ltb-false _ _ e3; to = ltb-true _ _ e4; fit = inr (ltb-false _ _ e6) }

not_one : (x : ℕ) → ((x ≡ 0) ⊎ (0x80 ≤ x)) → is_one x ≡ false
not_one x (inl e) = ap is_one e
not_one x (inr le) = by (nat_lt 0 x) (nat_lt x 0x80) (le-ltb x 0x80 le)
  where
    by : (p q : Bool) → q ≡ false → p && q ≡ false
    by true q e = e
    by false q e = refl

two_unit : (x : ℕ) → ((x ≡ 0) ⊎ (0x80 ≤ x)) → x < 0x800 → modified_of_unit x ≡ (0xC0 + x / 0x40) ∷ (0x80 + x % 0x40) ∷ []
two_unit x fit lt = by (is_one x) (nat_lt x 0x800) (not_one x fit) (lt-ltb _ _ lt)
  where
    by : (p q : Bool) → p ≡ false → q ≡ true → cond p (x ∷ []) (cond q ((0xC0 + x / 0x40) ∷ (0x80 + x % 0x40) ∷ []) ((0xE0 + x / 0x1000) ∷ (0x80 + x / 0x40 % 0x40) ∷ (0x80 + x % 0x40) ∷ [])) ≡ (0xC0 + x / 0x40) ∷ (0x80 + x % 0x40) ∷ []
    by true q e h = absurd cc
    by false true e h = refl
    by false false e h = absurd cc

three_unit : (x : ℕ) → 0x800 ≤ x → modified_of_unit x ≡ (0xE0 + x / 0x1000) ∷ (0x80 + x / 0x40 % 0x40) ∷ (0x80 + x % 0x40) ∷ []
three_unit x le = by (is_one x) (nat_lt x 0x800) (not_one x (inr (omega arith))) (le-ltb _ _ le)
  where
    by : (p q : Bool) → p ≡ false → q ≡ false → cond p (x ∷ []) (cond q ((0xC0 + x / 0x40) ∷ (0x80 + x % 0x40) ∷ []) ((0xE0 + x / 0x1000) ∷ (0x80 + x / 0x40 % 0x40) ∷ (0x80 + x % 0x40) ∷ [])) ≡ (0xE0 + x / 0x1000) ∷ (0x80 + x / 0x40 % 0x40) ∷ (0x80 + x % 0x40) ∷ []
    by true q e h = absurd cc
    by false true e h = absurd cc
    by false false e h = refl

pair : (a b c d : ℕ) → a ≡ c → b ≡ d → a ∷ b ∷ [] ≡ c ∷ d ∷ []
pair a b c d e h = cc

triple : (a b c d e f : ℕ) → a ≡ d → b ≡ e → c ≡ f → a ∷ b ∷ c ∷ [] ≡ d ∷ e ∷ f ∷ []
triple a b c d e f p q r = cc

two_spelled : (b c : ℕ) → is_two b c ≡ true → (modified_of_unit (in_two b c) ≡ b ∷ c ∷ []) × (in_two b c < 2 ^ 16)
two_spelled b c h =
    let f = two_facts b c h in
    by b c (in_two b c) f.low f.high f.from f.to f.fit refl
  where
    by : (b c x : ℕ) → 0xC0 ≤ b → b < 0xE0 → 0x80 ≤ c → c < 0xC0 → ((x ≡ 0) ⊎ (0x80 ≤ x)) → x ≡ (b - 0xC0) * 0x40 + (c - 0x80) → (modified_of_unit x ≡ b ∷ c ∷ []) × (x < 2 ^ 16)
    by b c x low high from to fit e =
        (two_unit x fit (omega arith) ∙ pair (0xC0 + x / 0x40) (0x80 + x % 0x40) b c (omega arith) (omega arith), omega arith)

record Three (b c d : ℕ) : Type 0 where
  low : 0xE0 ≤ b
  high : b < 0xF0
  from : 0x80 ≤ c
  to : c < 0xC0
  from_last : 0x80 ≤ d
  to_last : d < 0xC0
  fit : 0x800 ≤ in_three b c d

three_facts : (b c d : ℕ) → is_three b c d ≡ true → Three b c d
three_facts b c d h = by (nat_lt b 0xE0) (nat_lt b 0xF0) (nat_lt c 0x80) (nat_lt c 0xC0) (nat_lt d 0x80) (nat_lt d 0xC0) (nat_lt (in_three b c d) 0x800) refl refl refl refl refl refl refl h
  where
    by : (p q r s v z w : Bool) → nat_lt b 0xE0 ≡ p → nat_lt b 0xF0 ≡ q → nat_lt c 0x80 ≡ r → nat_lt c 0xC0 ≡ s → nat_lt d 0x80 ≡ v → nat_lt d 0xC0 ≡ z → nat_lt (in_three b c d) 0x800 ≡ w
        → (not p && q && (not r && s) && (not v && z) && not w) ≡ true → Three b c d
    by true q r s v z w e1 e2 e3 e4 e5 e6 e7 h = absurd cc
    by false false r s v z w e1 e2 e3 e4 e5 e6 e7 h = absurd cc
    by false true true s v z w e1 e2 e3 e4 e5 e6 e7 h = absurd cc
    by false true false false v z w e1 e2 e3 e4 e5 e6 e7 h = absurd cc
    by false true false true true z w e1 e2 e3 e4 e5 e6 e7 h = absurd cc
    by false true false true false false w e1 e2 e3 e4 e5 e6 e7 h = absurd cc
    by false true false true false true true e1 e2 e3 e4 e5 e6 e7 h = absurd cc
    by false true false true false true false e1 e2 e3 e4 e5 e6 e7 h = record { low = ltb-false _ _ e1; high = ltb-true _ _ e2; from = ltb-false _ _ e3; to = ltb-true _ _ e4; from_last = ltb-false _ _ e5; to_last = ltb-true _ _ e6; fit = ltb-false _ _ e7 }

three_spelled : (b c d : ℕ) → is_three b c d ≡ true → (modified_of_unit (in_three b c d) ≡ b ∷ c ∷ d ∷ []) × (in_three b c d < 2 ^ 16)
three_spelled b c d h =
    let f = three_facts b c d h in
    by b c d (in_three b c d) f.low f.high f.from f.to f.from_last f.to_last f.fit refl
  where
    by : (b c d x : ℕ) → 0xE0 ≤ b → b < 0xF0 → 0x80 ≤ c → c < 0xC0 → 0x80 ≤ d → d < 0xC0 → 0x800 ≤ x → x ≡ (b - 0xE0) * 0x1000 + (c - 0x80) * 0x40 + (d - 0x80) → (modified_of_unit x ≡ b ∷ c ∷ d ∷ []) × (x < 2 ^ 16)
    by b c d x low high from to from_last to_last fit e =
        let y : x / 0x40 ≡ (b - 0xE0) * 0x40 + (c - 0x80) = omega arith in
        (three_unit x fit ∙ triple (0xE0 + x / 0x1000) (0x80 + x / 0x40 % 0x40) (0x80 + x % 0x40) b c d (omega arith) (omega arith) (omega arith), omega arith)

grown : (u : ℕ) (front rest t : List ℕ) → modified_of_unit u ≡ front → u < 2 ^ 16 → Spelled rest t → Spelled (front ++ rest) (u ∷ t)
grown u front rest t e lt s = ((lt, s.0), flat_map-cons modified_of_unit u t ∙ ap (λ (x : List ℕ). x ++ modified_of t) e ∙ ap (λ (x : List ℕ). front ++ x) s.1)

none_spelled : Spelled [] []
none_spelled = (tt, refl)

-- a unit put before a text, where there is one
record Puts (put : ℕ → Option (List ℕ) → Option (List ℕ)) : Type 0 where
  none : (u : ℕ) → put u None ≡ None
  some : (u : ℕ) (us : List ℕ) → put u (Some us) ≡ Some (u ∷ us)

abbrev SpelledWhere : Option (List ℕ) → List ℕ → Type 0
SpelledWhere o bytes = (t : List ℕ) → o ≡ Some t → Spelled bytes t

put_spelled : {put : ℕ → Option (List ℕ) → Option (List ℕ)} → Puts put → (u : ℕ) (front rest : List ℕ) (o : Option (List ℕ)) (t : List ℕ) → (modified_of_unit u ≡ front) × (u < 2 ^ 16) → SpelledWhere o rest → put u o ≡ Some t → Spelled (front ++ rest) t
put_spelled p u front rest None t is more e = absurd (cc (p.none u))
put_spelled p u front rest (Some us) t is more e =
    let same : u ∷ us ≡ t = cc (p.some u us) in
    subst (Spelled (front ++ rest)) same (grown u front rest us is.0 is.1 (more us refl))

last_spelled : (u : ℕ) (front t : List ℕ) → (modified_of_unit u ≡ front) × (u < 2 ^ 16) → u ∷ [] ≡ t → Spelled (front ++ []) t
last_spelled u front t is same = subst (Spelled (front ++ [])) same (grown u front [] [] is.0 is.1 none_spelled)

by_one : (b : ℕ) (t : List ℕ) (x : Bool) → is_one b ≡ x → cond x (Some (b ∷ [])) None ≡ Some t → Spelled (b ∷ []) t
by_one b t true k e = last_spelled b (b ∷ []) t (one_spelled b k) (cc)
by_one b t false k e = absurd cc

by_two : {put : ℕ → Option (List ℕ) → Option (List ℕ)} → Puts put → (b c : ℕ) (o : Option (List ℕ)) (t : List ℕ) (x y : Bool) → is_one b ≡ x → is_two b c ≡ y → SpelledWhere o (c ∷ [])
    → cond x (put b o) (cond y (Some (in_two b c ∷ [])) None) ≡ Some t → Spelled (b ∷ c ∷ []) t
by_two p b c o t true y k l more e = put_spelled p b (b ∷ []) (c ∷ []) o t (one_spelled b k) more e
by_two p b c o t false true k l more e = last_spelled (in_two b c) (b ∷ c ∷ []) t (two_spelled b c l) (cc)
by_two p b c o t false false k l more e = absurd cc

by_three : {put : ℕ → Option (List ℕ) → Option (List ℕ)} → Puts put → (b c d : ℕ) (bs : List ℕ) (o1 o2 o3 : Option (List ℕ)) (t : List ℕ) (x y z : Bool) → is_one b ≡ x → is_two b c ≡ y → is_three b c d ≡ z
    → SpelledWhere o1 (c ∷ d ∷ bs) → SpelledWhere o2 (d ∷ bs) → SpelledWhere o3 bs
    → cond x (put b o1) (cond y (put (in_two b c) o2) (cond z (put (in_three b c d) o3) None)) ≡ Some t → Spelled (b ∷ c ∷ d ∷ bs) t
by_three p b c d bs o1 o2 o3 t true y z k l m more1 more2 more3 e = put_spelled p b (b ∷ []) (c ∷ d ∷ bs) o1 t (one_spelled b k) more1 e
by_three p b c d bs o1 o2 o3 t false true z k l m more1 more2 more3 e = put_spelled p (in_two b c) (b ∷ c ∷ []) (d ∷ bs) o2 t (two_spelled b c l) more2 e
by_three p b c d bs o1 o2 o3 t false false true k l m more1 more2 more3 e = put_spelled p (in_three b c d) (b ∷ c ∷ d ∷ []) bs o3 t (three_spelled b c d m) more3 e
by_three p b c d bs o1 o2 o3 t false false false k l m more1 more2 more3 e = absurd cc

abbrev some_list : List ℕ → Option (List ℕ)
some_list t = Some t

pub is_spelled : (bytes t : List ℕ) → text_of_modified bytes ≡ Some t → Spelled bytes t
unfolding text_of_modified
is_spelled [] t e = let same : [] ≡ t = cc in subst (Spelled []) same none_spelled
is_spelled (b ∷ []) t e = by_one b t (is_one b) refl e
is_spelled (b ∷ c ∷ []) t e = by_two {put = put} (record { none = λ u. refl; some = λ u us. refl }) b c (text_of_modified (c ∷ [])) t (is_one b) (is_two b c) refl refl (is_spelled (c ∷ [])) e
is_spelled (b ∷ c ∷ d ∷ bs) t e =
    by_three {put = put} (record { none = λ u. refl; some = λ u us. refl }) b c d bs (text_of_modified (c ∷ d ∷ bs)) (text_of_modified (d ∷ bs)) (text_of_modified bs) t (is_one b) (is_two b c) (is_three b c d) refl refl refl
    (is_spelled (c ∷ d ∷ bs)) (is_spelled (d ∷ bs)) (is_spelled bs) e

-- ---- the other way

first_of : {A : Type 0} (x : Bool) (p q : A) → x ≡ true → cond x p q ≡ p
first_of true p q e = refl
first_of false p q e = absurd cc

second_of : {A : Type 0} (x y : Bool) (p q r : A) → x ≡ false → y ≡ true → cond x p (cond y q r) ≡ q
second_of true y p q r e h = absurd cc
second_of false true p q r e h = refl
second_of false false p q r e h = absurd cc

third_of : {A : Type 0} (x y z : Bool) (p q r s : A) → x ≡ false → y ≡ false → z ≡ true → cond x p (cond y q (cond z r s)) ≡ r
third_of true y z p q r s e h k = absurd cc
third_of false true z p q r s e h k = absurd cc
third_of false false true p q r s e h k = refl
third_of false false false p q r s e h k = absurd cc

put_is : (u : ℕ) (o : Option (List ℕ)) (t : List ℕ) → o ≡ Some t → put u o ≡ Some (u ∷ t)
put_is u o t e = ap (put u) e

abbrev nothing : Option (List ℕ)
nothing = None

one_read : (b : ℕ) (rest t : List ℕ) → is_one b ≡ true → text_of_modified rest ≡ Some t → text_of_modified (b ∷ rest) ≡ Some (b ∷ t)
unfolding text_of_modified
one_read b [] t h e = let same : [] ≡ t = cc in first_of (is_one b) (Some (b ∷ [])) nothing h ∙ ap (λ (us : List ℕ). some_list (b ∷ us)) same
one_read b (c ∷ []) t h e = first_of (is_one b) (put b (text_of_modified (c ∷ []))) (cond (is_two b c) (Some (in_two b c ∷ [])) nothing) h ∙ put_is b (text_of_modified (c ∷ [])) t e
one_read b (c ∷ d ∷ bs) t h e =
    first_of (is_one b) (put b (text_of_modified (c ∷ d ∷ bs))) (cond (is_two b c) (put (in_two b c) (text_of_modified (d ∷ bs))) (cond (is_three b c d) (put (in_three b c d) (text_of_modified bs)) nothing)) h
    ∙ put_is b (text_of_modified (c ∷ d ∷ bs)) t e

two_read : (b c : ℕ) (rest t : List ℕ) → is_one b ≡ false → is_two b c ≡ true → text_of_modified rest ≡ Some t → text_of_modified (b ∷ c ∷ rest) ≡ Some (in_two b c ∷ t)
unfolding text_of_modified
two_read b c [] t h k e =
    let same : [] ≡ t = cc in
    second_of (is_one b) (is_two b c) (put b (text_of_modified (c ∷ []))) (Some (in_two b c ∷ [])) nothing h k ∙ ap (λ (us : List ℕ). some_list (in_two b c ∷ us)) same
two_read b c (d ∷ bs) t h k e =
    second_of (is_one b) (is_two b c) (put b (text_of_modified (c ∷ d ∷ bs))) (put (in_two b c) (text_of_modified (d ∷ bs))) (cond (is_three b c d) (put (in_three b c d) (text_of_modified bs)) nothing) h k
    ∙ put_is (in_two b c) (text_of_modified (d ∷ bs)) t e

three_read : (b c d : ℕ) (rest t : List ℕ) → is_one b ≡ false → is_two b c ≡ false → is_three b c d ≡ true → text_of_modified rest ≡ Some t → text_of_modified (b ∷ c ∷ d ∷ rest) ≡ Some (in_three b c d ∷ t)
unfolding text_of_modified
three_read b c d rest t h k l e =
    third_of (is_one b) (is_two b c) (is_three b c d) (put b (text_of_modified (c ∷ d ∷ rest))) (put (in_two b c) (text_of_modified (d ∷ rest))) (put (in_three b c d) (text_of_modified rest)) nothing h k l
    ∙ put_is (in_three b c d) (text_of_modified rest) t e

both : (x y : Bool) → x ≡ true → y ≡ true → x && y ≡ true
both true true e h = refl
both true false e h = absurd cc
both false y e h = absurd cc

all_four : (p q r s : Bool) → p ≡ true → q ≡ true → r ≡ true → s ≡ true → (p && q && r && s) ≡ true
all_four true true true true a b c d = refl
all_four true true true false a b c d = absurd cc
all_four true true false s a b c d = absurd cc
all_four true false r s a b c d = absurd cc
all_four false q r s a b c d = absurd cc

all_five : (p q r s t : Bool) → p ≡ true → q ≡ true → r ≡ true → s ≡ true → t ≡ true → (p && q && r && s && t) ≡ true
all_five true true true true true a b c d e = refl
all_five true true true true false a b c d e = absurd cc
all_five true true true false t a b c d e = absurd cc
all_five true true false s t a b c d e = absurd cc
all_five true false r s t a b c d e = absurd cc
all_five false q r s t a b c d e = absurd cc

negated : (x : Bool) → x ≡ false → not x ≡ true
negated true e = absurd cc
negated false e = refl

low_is : (c : ℕ) → 0x80 ≤ c → c < 0xC0 → is_low c ≡ true
low_is c from to = both (not (nat_lt c 0x80)) (nat_lt c 0xC0) (negated _ (le-ltb _ _ from)) (lt-ltb _ _ to)

fit_is : (x : ℕ) → ((x ≡ 0) ⊎ (0x80 ≤ x)) → (eqb x 0 || not (nat_lt x 0x80)) ≡ true
fit_is x (inl e) = ap (λ (n : ℕ). eqb n 0 || not (nat_lt n 0x80)) e
fit_is x (inr le) = by (eqb x 0) (nat_lt x 0x80) (le-ltb _ _ le)
  where
    by : (p q : Bool) → q ≡ false → (p || not q) ≡ true
    by true q e = refl
    by false q e = negated q e

two_is : (b c : ℕ) → 0xC0 ≤ b → b < 0xE0 → 0x80 ≤ c → c < 0xC0 → ((in_two b c ≡ 0) ⊎ (0x80 ≤ in_two b c)) → is_two b c ≡ true
two_is b c low high from to fit =
    all_four (not (nat_lt b 0xC0)) (nat_lt b 0xE0) (is_low c) (eqb (in_two b c) 0 || not (nat_lt (in_two b c) 0x80)) (negated _ (le-ltb _ _ low)) (lt-ltb _ _ high) (low_is c from to) (fit_is (in_two b c) fit)

three_is : (b c d : ℕ) → 0xE0 ≤ b → b < 0xF0 → 0x80 ≤ c → c < 0xC0 → 0x80 ≤ d → d < 0xC0 → 0x800 ≤ in_three b c d → is_three b c d ≡ true
three_is b c d low high from to from_last to_last fit =
    all_five (not (nat_lt b 0xE0)) (nat_lt b 0xF0) (is_low c) (is_low d) (not (nat_lt (in_three b c d) 0x800)) (negated _ (le-ltb _ _ low)) (lt-ltb _ _ high) (low_is c from to) (low_is d from_last to_last) (negated _ (le-ltb _ _ fit))

not_two : (b c : ℕ) → 0xE0 ≤ b → is_two b c ≡ false
not_two b c le = by (not (nat_lt b 0xC0)) (nat_lt b 0xE0) (is_low c) (eqb (in_two b c) 0 || not (nat_lt (in_two b c) 0x80)) (le-ltb _ _ le)
  where
    by : (p q r s : Bool) → q ≡ false → (p && q && r && s) ≡ false
    by true true r s e = absurd cc
    by true false r s e = refl
    by false q r s e = refl

-- which form a unit has
data FormOf (u : ℕ) : Type 0 where
  in_one : is_one u ≡ true → FormOf u
  as_two : ((u ≡ 0) ⊎ (0x80 ≤ u)) → u < 0x800 → FormOf u
  as_three : 0x800 ≤ u → FormOf u

form_of : (u : ℕ) → FormOf u
form_of u = by (nat_lt 0 u) (nat_lt u 0x80) (nat_lt u 0x800) refl refl refl
  where
    by : (x y z : Bool) → nat_lt 0 u ≡ x → nat_lt u 0x80 ≡ y → nat_lt u 0x800 ≡ z → FormOf u
    by true true z e h k = in_one (both (nat_lt 0 u) (nat_lt u 0x80) e h)
    by true false true e h k = as_two (inr (ltb-false _ _ h)) (ltb-true _ _ k)
    by true false false e h k = as_three (ltb-false _ _ k)
    by false y true e h k = let le : u ≤ 0 = ltb-false _ _ e in as_two (inl (omega arith)) (ltb-true _ _ k)
    by false y false e h k = as_three (ltb-false _ _ k)

unit_read : (u : ℕ) (rest t : List ℕ) → FormOf u → u < 2 ^ 16 → text_of_modified rest ≡ Some t → text_of_modified (modified_of_unit u ++ rest) ≡ Some (u ∷ t)
unit_read u rest t (in_one h) lt e = ap (λ (bs : List ℕ). text_of_modified (bs ++ rest)) (one_spelled u h).0 ∙ one_read u rest t h e
unit_read u rest t (as_two fit lt) small e =
    let b = 0xC0 + u / 0x40 in
    let c = 0x80 + u % 0x40 in
    let back : in_two b c ≡ u = omega arith in
    ap (λ (bs : List ℕ). text_of_modified (bs ++ rest)) (two_unit u fit lt)
    ∙ two_read b c rest t (not_one b (inr (omega arith))) (two_is b c (omega arith) (omega arith) (omega arith) (omega arith) (subst (λ (x : ℕ). (x ≡ 0) ⊎ (0x80 ≤ x)) (sym back) fit)) e
    ∙ ap (λ (x : ℕ). some_list (x ∷ t)) back
unit_read u rest t (as_three le) small e =
    let b = 0xE0 + u / 0x1000 in
    let c = 0x80 + u / 0x40 % 0x40 in
    let d = 0x80 + u % 0x40 in
    let back : in_three b c d ≡ u = omega arith in
    ap (λ (bs : List ℕ). text_of_modified (bs ++ rest)) (three_unit u le)
    ∙ three_read b c d rest t (not_one b (inr (omega arith))) (not_two b c (omega arith)) (three_is b c d (omega arith) (omega arith) (omega arith) (omega arith) (omega arith) (omega arith) (omega arith)) e
    ∙ ap (λ (x : ℕ). some_list (x ∷ t)) back

pub is_read : (t : List ℕ) → AreSmall t → text_of_modified (modified_of t) ≡ Some t
unfolding text_of_modified
is_read [] small = refl
is_read (u ∷ t) small = ap text_of_modified (flat_map-cons modified_of_unit u t) ∙ unit_read u (modified_of t) t (form_of u) small.0 (is_read t small.1)
