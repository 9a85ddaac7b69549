-- What the scan carries is what the definition says of the tokens so far.
use Rattle.std.proofs.Common.{◌≡◌, ℕ, ◌+◌, ◌-◌, ◌<◌, ◌≤◌, Bool, true, false, cond, List, [], ◌∷◌, ◌++◌, length, Option, Some, None, refl, sym, ap, ap₂, subst, ◌∙◌, arith, add-one}
use Rattle.std.specs.Prelude.{⊤, get_or, take, reverse}
use Rattle.std.proofs.lemmas.List.{take_more, reverse-append}
use Rattle.std.proofs.lemmas.Bool.{eq-eqb, ne_eqb}
use Rattle.kt_lexer.specs.declared.token.Token.{Token}
use Rattle.kt_decls.specs.declared.kinds.Bracket.{Bracket}
use Rattle.kt_decls.specs.declared.levels.Place.{Place}
use Rattle.kt_decls.specs.Kinds.{is_same, opens, closes, ends_operand, joins}
use Rattle.kt_decls.specs.Levels.{Opening, without, changed, opened, innermost, place_behind, said_by, count_in, count_all}
use Rattle.kt_decls.specs.Nesting.{State, count_after, top_count, recounted, counted, entered, is_left, outer_places, left, moved, passed, places_of, Stands}

-- ---- each bracket that is open stands before those within it

pub record IsIn (n : ℕ) (o : Opening) : Type 0 where
  pub low : 0 < o.start
  pub high : o.start ≤ n

abbrev pub Nested : ℕ → List Opening → Type 0
Nested n [] = ⊤
Nested n (o ∷ os) = IsIn n o × Nested (o.start - 1) os

weaker : (n m : ℕ) (os : List Opening) → n ≤ m → Nested n os → Nested m os
weaker n m [] le k = tt
weaker n m (o ∷ os) le k = (record { low = k.0.low; high = omega (arith, le, k.0.high) }, k.1)

without_nested : (n : ℕ) (b : Bracket) (os : List Opening) → Nested n os → Nested n (without b os)
without_nested n b [] k = tt
without_nested n b (o ∷ os) k = by (is_same b o.bracket)
  where
    by : (c : Bool) → Nested n (cond c os (o ∷ os))
    by true = weaker (o.start - 1) n os (omega (arith, k.0.high)) k.1
    by false = k

changed_nested : (opening closing : Option Bracket) (n : ℕ) (os : List Opening) → Nested n os → Nested (n + 1) (changed opening closing (n + 1) os)
changed_nested (Some b) closing n os k = (record { low = omega arith; high = omega arith }, weaker n (n + 1 - 1) os (omega arith) k)
changed_nested None (Some b) n os k = weaker n (n + 1) (without b os) (omega arith) (without_nested n b os k)
changed_nested None None n os k = weaker n (n + 1) os (omega arith) k

nested : (ts : List Token) → Nested (length ts) (opened ts)
nested [] = tt
nested (t ∷ ts) = subst (λ (m : ℕ). Nested m (opened (t ∷ ts))) (add-one (length ts)) (changed_nested (opens t.kind) (closes t.kind) (length ts) (opened ts) (nested ts))

innermost_within : (n : ℕ) (os : List Opening) → Nested n os → innermost os ≤ n
innermost_within n [] k = omega arith
innermost_within n (o ∷ os) k = k.0.high

-- ---- counts with a token more

abbrev after : Token → List Token → ℕ → ℕ
after t ts n = count_after (said_by ends_operand ts) (said_by (λ t. joins t.kind) ts) t n

elsewhere : (place : ℕ) (t : Token) (ts : List Token) → (place_behind ts ≡ place → ⊥) → count_in place (t ∷ ts) ≡ count_in place ts
elsewhere place t ts other = ap (λ (b : Bool). cond b (after t ts (count_in place ts)) (count_in place ts)) (ne_eqb (place_behind ts) place other)

here : (place : ℕ) (t : Token) (ts : List Token) → place_behind ts ≡ place → count_in place (t ∷ ts) ≡ after t ts (count_in place ts)
here place t ts same = ap (λ (b : Bool). cond b (after t ts (count_in place ts)) (count_in place ts)) (eq-eqb (place_behind ts) place same)

none_yet : (place : ℕ) (ts : List Token) → length ts < place → count_in place ts ≡ 0
none_yet place [] lt = refl
none_yet place (t ∷ ts) lt =
    let within = innermost_within (length ts) (opened ts) (nested ts) in
    elsewhere place t ts (λ e. omega (arith, e, within, lt)) ∙ none_yet place ts (omega (arith, lt))

module _ (t : Token) (ts : List Token) where
  -- places around the one where the token stands
  around : (n : ℕ) (os : List Opening) → Nested n os → n < place_behind ts → places_of (t ∷ ts) os ≡ places_of ts os
  around n [] k lt = ap (λ (c : ℕ). record { bracket = None; count = c } ∷ []) (elsewhere 0 t ts (λ e. omega (arith, e, lt)))
  around n (o ∷ os) k lt =
      ap₂ (λ (c : ℕ) (ps : List Place). record { bracket = Some o.bracket; count = c } ∷ ps) (elsewhere o.start t ts (λ e. omega (arith, e, lt, k.0.high)))
      (around (o.start - 1) os k.1 (omega (arith, lt, k.0.high)))

  around_all : (n : ℕ) (os : List Opening) → Nested n os → n < place_behind ts → count_all (t ∷ ts) os ≡ count_all ts os
  around_all n [] k lt = elsewhere 0 t ts (λ e. omega (arith, e, lt))
  around_all n (o ∷ os) k lt =
      ap₂ (λ (a b : ℕ). a + b) (elsewhere o.start t ts (λ e. omega (arith, e, lt, k.0.high))) (around_all (o.start - 1) os k.1 (omega (arith, lt, k.0.high)))

  -- the places with the token counted
  recounted_is : (os : List Opening) → innermost os ≡ place_behind ts → Nested (length ts) os → recounted (after t ts (top_count (places_of ts os))) (places_of ts os) ≡ places_of (t ∷ ts) os
  recounted_is [] e k = sym (ap (λ (c : ℕ). record { bracket = None; count = c } ∷ []) (here 0 t ts (sym e)))
  recounted_is (o ∷ os) e k =
      sym (ap₂ (λ (c : ℕ) (ps : List Place). record { bracket = Some o.bracket; count = c } ∷ ps) (here o.start t ts (sym e))
      (around (o.start - 1) os k.1 (omega (arith, e, k.0.low))))

  level_is : (os : List Opening) → innermost os ≡ place_behind ts → Nested (length ts) os → count_all ts os - top_count (places_of ts os) + after t ts (top_count (places_of ts os)) ≡ count_all (t ∷ ts) os
  level_is [] e k = omega (arith, here 0 t ts (sym e))
  level_is (o ∷ os) e k = omega (arith, here o.start t ts (sym e), around_all (o.start - 1) os k.1 (omega (arith, e, k.0.low)))

  pub record Counted (s : State) : Type 0 where
    pub places : s.places ≡ places_of (t ∷ ts) (opened ts)
    pub level : s.level ≡ count_all (t ∷ ts) (opened ts)

  counted_is : (s : State) → Stands ts s → Counted (counted t s)
  counted_is s k =
      record {
        places =
            ap₂ (λ (a b : Bool). recounted (count_after a b t (top_count s.places)) s.places) k.operand k.joined
            ∙ ap (λ (ps : List Place). recounted (after t ts (top_count ps)) ps) k.places
            ∙ recounted_is (opened ts) refl (nested ts);
        level =
            ap₂ (λ (a b : Bool). s.level - top_count s.places + count_after a b t (top_count s.places)) k.operand k.joined
            ∙ ap₂ (λ (n : ℕ) (ps : List Place). n - top_count ps + after t ts (top_count ps)) k.level k.places
            ∙ level_is (opened ts) refl (nested ts);
      }

  -- ---- brackets

  pub record Moved (s : State) (os : List Opening) : Type 0 where
    pub places : s.places ≡ places_of (t ∷ ts) os
    pub level : s.level ≡ count_all (t ∷ ts) os

  entered_is : (b : Bracket) (s : State) → Counted s → Moved (entered b s) (record { start = length ts + 1; bracket = b } ∷ opened ts)
  entered_is b s k =
      let n = length ts + 1 in
      let within = innermost_within (length ts) (opened ts) (nested ts) in
      let none : count_in n (t ∷ ts) ≡ 0 = elsewhere n t ts (λ e. omega (arith, e, within)) ∙ none_yet n ts (omega arith) in
      record {
        places = ap₂ (λ (c : ℕ) (ps : List Place). record { bracket = Some b; count = c } ∷ ps) (sym none) k.places;
        level = omega (arith, none, k.level);
      }

  stays : (b : Bracket) (s : State) (os : List Opening) → is_left b s.places ≡ false → Moved s os → Moved (left b s) os
  stays b s os e m = subst (λ (c : Bool). Moved (cond c (record s { places = outer_places s.places; level = s.level - top_count s.places }) s) os) (sym e) m

  goes : (b : Bracket) (s : State) (os : List Opening) → is_left b s.places ≡ true → Moved (record s { places = outer_places s.places; level = s.level - top_count s.places }) os → Moved (left b s) os
  goes b s os e m = subst (λ (c : Bool). Moved (cond c (record s { places = outer_places s.places; level = s.level - top_count s.places }) s) os) (sym e) m

  is_left_by : (b : Bracket) (o : Opening) (os : List Opening) → is_left b (places_of (t ∷ ts) (o ∷ os)) ≡ is_same b o.bracket
  is_left_by b o [] = refl
  is_left_by b o (i ∷ os) = refl

  left_of : (b : Bracket) (os : List Opening) (s : State) → s.places ≡ places_of (t ∷ ts) os → s.level ≡ count_all (t ∷ ts) os → Moved (left b s) (without b os)
  left_of b [] s p l = stays b s [] (ap (is_left b) p) (record { places = p; level = l })
  left_of b (o ∷ os) s p l = by (is_same b o.bracket) refl
    where
      by : (c : Bool) → is_same b o.bracket ≡ c → Moved (left b s) (cond c os (o ∷ os))
      by true e =
          goes b s os (ap (is_left b) p ∙ is_left_by b o os ∙ e)
          (record {
            places = ap outer_places p;
            level = ap₂ (λ (n : ℕ) (ps : List Place). n - top_count ps) l p ∙ (omega arith);
          })
      by false e = stays b s (o ∷ os) (ap (is_left b) p ∙ is_left_by b o os ∙ e) (record { places = p; level = l })

  left_is : (b : Bracket) (s : State) → Counted s → Moved (left b s) (without b (opened ts))
  left_is b s k = left_of b (opened ts) s k.places k.level

  moved_is : (opening closing : Option Bracket) (s : State) → Counted s → Moved (moved opening closing s) (changed opening closing (length ts + 1) (opened ts))
  moved_is (Some b) closing s k = entered_is b s k
  moved_is None (Some b) s k = left_is b s k
  moved_is None None s k = record { places = k.places; level = k.level }

  pub passed_is : (s : State) → Stands ts s → Stands (t ∷ ts) (passed t s)
  passed_is s k =
      let m = moved_is (opens t.kind) (closes t.kind) (counted t s) (counted_is s k) in
      record { places = m.places; level = m.level; operand = refl; joined = refl }

-- ---- in the loop

top_within : (ts : List Token) (os : List Opening) → top_count (places_of ts os) ≤ count_all ts os
top_within ts [] = omega arith
top_within ts (o ∷ os) = omega arith

pub within_level : (ts : List Token) (s : State) → Stands ts s → top_count s.places ≤ s.level
within_level ts s k = omega (arith, ap top_count k.places, k.level, top_within ts (opened ts))

-- one token further
pub gone_on : (ts : List Token) (at : ℕ) (t : Token) (s next : State) → at < length ts → t ≡ get_or ts at t → Stands (reverse (take at ts)) s → next ≡ passed t s → Stands (reverse (take (at + 1) ts)) next
gone_on ts at t s next lt is k e =
    let front = reverse (take at ts) in
    let turned : reverse (take (at + 1) ts) ≡ t ∷ front =
    ap reverse (take_more ts at t lt ∙ ap (λ (u : Token). take at ts ++ u ∷ []) (sym is)) ∙ reverse-append (take at ts) (t ∷ [])
    in
    subst (λ (us : List Token). Stands us next) (sym turned) (subst (Stands (t ∷ front)) (sym e) (passed_is t front s k))
