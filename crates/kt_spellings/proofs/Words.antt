-- Fronts of words.
use Rattle.std.proofs.Common.{◌≡◌, ℕ, suc, ◌+◌, ◌≤◌, nat_le, ◌&&◌, Bool, true, false, if◌then◌else◌, List, [], ◌∷◌, ◌++◌, length, take, refl, sym, ap, ◌∙◌, arith, true≢false}
use Rattle.kt_lexer.specs.Characters.{unit_at, is_high, is_low, is_pair, is_surrogate, pair_code, starts, continues, character_length, starts_word, word_length}
use Rattle.kt_lexer.proofs.Sizes.{starts_some}

-- the first character of a run of identifier characters
pub data View : List ℕ → Type 0 where
  no_part : {text : List ℕ} → word_length text ≡ 0 → View text
  unit : {u : ℕ} {text : List ℕ} → is_surrogate u ≡ false → continues u ≡ true → View (u ∷ text)
  pair : {u v : ℕ} {text : List ℕ} → is_pair u v ≡ true → continues (pair_code u v) ≡ true → View (u ∷ v ∷ text)

no_low : (b : Bool) → (b && false) ≡ false
no_low true = refl
no_low false = refl

view_one : (u : ℕ) (s d : Bool) → is_surrogate u ≡ s → continues u ≡ d → View (u ∷ [])
view_one u false true e i = unit e i
view_one u false false e i = no_part (rw (no_low (is_high u)) (rw e (rw i refl)))
view_one u true d e i = no_part (rw (no_low (is_high u)) (rw e refl))

view_more : (u v : ℕ) (text : List ℕ) (p c s d : Bool) → is_pair u v ≡ p → continues (pair_code u v) ≡ c → is_surrogate u ≡ s → continues u ≡ d → View (u ∷ v ∷ text)
view_more u v text true true s d e f g h = pair e f
view_more u v text true false s d e f g h = no_part (rw e (rw f refl))
view_more u v text false c false true e f g h = unit g h
view_more u v text false c true d e f g h = no_part (rw e (rw g refl))
view_more u v text false c false false e f g h = no_part (rw e (rw g (rw h refl)))

pub view : (text : List ℕ) → View text
view [] = no_part refl
view (u ∷ []) = view_one u (is_surrogate u) (continues u) refl refl
view (u ∷ v ∷ text) = view_more u v text (is_pair u v) (continues (pair_code u v)) (is_surrogate u) (continues u) refl refl refl refl

-- a unit that is no surrogate begins no pair
narrower : (u : ℕ) → is_surrogate u ≡ false → is_high u ≡ false
narrower u e = by_tests (nat_le 55296 u) (nat_le u 56319) (nat_le u 57343) refl refl refl e
  where
    by_tests : (a b c : Bool) → nat_le 55296 u ≡ a → nat_le u 56319 ≡ b → nat_le u 57343 ≡ c → (a && c) ≡ false → (a && b) ≡ false
    by_tests false b c i j k h = refl
    by_tests true false c i j k h = refl
    by_tests true true true i j k h = absurd (true≢false h)
    by_tests true true false i j k h = absurd (grind (arith, j, k))

pub no_pair : (u v : ℕ) → is_surrogate u ≡ false → is_pair u v ≡ false
no_pair u v e = ap (λ b. b && is_low v) (narrower u e)

pub unit_step : (u : ℕ) (text : List ℕ) → is_surrogate u ≡ false → continues u ≡ true → word_length (u ∷ text) ≡ suc (word_length text)
unit_step u [] e f = rw (no_pair u 0 e) (rw e (rw f refl))
unit_step u (v ∷ text) e f = rw (no_pair u v e) (rw e (rw f (omega arith)))

pub pair_step : (u v : ℕ) (text : List ℕ) → is_pair u v ≡ true → continues (pair_code u v) ≡ true → word_length (u ∷ v ∷ text) ≡ suc (suc (word_length text))
pair_step u v text e f = rw e (rw f (omega arith))

-- the run in front, alone, is a run as long
pub run_alone : (text : List ℕ) → word_length (take (word_length text) text) ≡ word_length text
run_alone [] = refl
run_alone (u ∷ []) = by_view (view (u ∷ []))
  where
    by_view : View (u ∷ []) → word_length (take (word_length (u ∷ [])) (u ∷ [])) ≡ word_length (u ∷ [])
    by_view (no_part e) = ap (λ n. word_length (take n (u ∷ []))) e ∙ sym e
    by_view (unit e f) = ap (λ n. word_length (take n (u ∷ []))) (unit_step u [] e f)
run_alone (u ∷ v ∷ text) = by_view (view (u ∷ v ∷ text)) (run_alone (v ∷ text)) (run_alone text)
  where
    by_view : View (u ∷ v ∷ text) → word_length (take (word_length (v ∷ text)) (v ∷ text)) ≡ word_length (v ∷ text) → word_length (take (word_length text) text) ≡ word_length text → word_length (take (word_length (u ∷ v ∷ text)) (u ∷ v ∷ text)) ≡ word_length (u ∷ v ∷ text)
    by_view (no_part e) h k = ap (λ n. word_length (take n (u ∷ v ∷ text))) e ∙ sym e
    by_view (unit e f) h k =
        let s = unit_step u (v ∷ text) e f in
        ap (λ n. word_length (take n (u ∷ v ∷ text))) s ∙ unit_step u (take (word_length (v ∷ text)) (v ∷ text)) e f ∙ ap suc h ∙ sym s
    by_view (pair e f) h k =
        let s = pair_step u v text e f in
        ap (λ n. word_length (take n (u ∷ v ∷ text))) s ∙ pair_step u v (take (word_length text) text) e f ∙ ap (λ n. suc (suc n)) k ∙ sym s

-- a run goes on with what is behind it
pub run_and_more : (w rest : List ℕ) → word_length w ≡ length w → word_length (w ++ rest) ≡ length w + word_length rest
run_and_more [] rest h = omega arith
run_and_more (u ∷ []) rest h = by_view (view (u ∷ []))
  where
    by_view : View (u ∷ []) → word_length (u ∷ rest) ≡ 1 + word_length rest
    by_view (no_part e) = absurd (omega (arith, e, h))
    by_view (unit e f) = let s = unit_step u rest e f in omega (arith, s)
run_and_more (u ∷ v ∷ w) rest h = by_view (view (u ∷ v ∷ w)) (run_and_more (v ∷ w) rest) (run_and_more w rest)
  where
    by_view : View (u ∷ v ∷ w) → (word_length (v ∷ w) ≡ length (v ∷ w) → word_length (v ∷ w ++ rest) ≡ length (v ∷ w) + word_length rest) → (word_length w ≡ length w → word_length (w ++ rest) ≡ length w + word_length rest) → word_length (u ∷ v ∷ w ++ rest) ≡ length (u ∷ v ∷ w) + word_length rest
    by_view (no_part e) f g = absurd (omega (arith, e, h))
    by_view (unit i j) f g =
        let s = unit_step u (v ∷ w) i j in
        let t = unit_step u (v ∷ w ++ rest) i j in
        let k = f (omega (arith, s, h)) in
        omega (arith, t, k)
    by_view (pair i j) f g =
        let s = pair_step u v w i j in
        let t = pair_step u v (w ++ rest) i j in
        let k = g (omega (arith, s, h)) in
        omega (arith, t, k)

-- ---- how a word begins

pub lone : (u v : ℕ) → is_surrogate u ≡ false → character_length starts u v ≡ (if starts u then 1 else 0)
lone u v e = rw (no_pair u v e) (rw e refl)

begins_one : (u : ℕ) (s t : List ℕ) → is_surrogate u ≡ false → starts_word (u ∷ s) ≡ starts_word (u ∷ t)
begins_one u s t e = ap (nat_le 1) (lone u (unit_at (u ∷ s) 1) e ∙ sym (lone u (unit_at (u ∷ t) 1) e))

none : {n : ℕ} → 1 ≤ n → n ≡ 0 → ⊥
none h e = omega (arith, h, e)

-- what begins like a word still does so without what is behind the word
pub begins_take : (text : List ℕ) → starts_word text ≡ true → starts_word (take (word_length text) text) ≡ true
begins_take text h = by_view (view text) h
  where
    by_view : {text : List ℕ} → View text → starts_word text ≡ true → starts_word (take (word_length text) text) ≡ true
    by_view (no_part {text = text} e) h = absurd (none (starts_some text h) e)
    by_view (unit {u = u} {text = text} e f) h = ap (λ n. starts_word (take n (u ∷ text))) (unit_step u text e f) ∙ begins_one u (take (word_length text) text) text e ∙ h
    by_view (pair {u = u} {v = v} {text = text} e f) h = ap (λ n. starts_word (take n (u ∷ v ∷ text))) (pair_step u v text e f) ∙ h

pub begins_more : (w rest : List ℕ) → starts_word w ≡ true → starts_word (w ++ rest) ≡ true
begins_more w rest h = by_view (view w) h
  where
    by_view : {w : List ℕ} → View w → starts_word w ≡ true → starts_word (w ++ rest) ≡ true
    by_view (no_part {text = w} e) h = absurd (none (starts_some w h) e)
    by_view (unit {u = u} {text = w} e f) h = begins_one u (w ++ rest) w e ∙ h
    by_view (pair {u = u} {v = v} {text = w} e f) h = h
