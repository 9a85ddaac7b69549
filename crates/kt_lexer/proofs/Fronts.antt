-- Spellings at the front of a text.
use Rattle.std.proofs.Common.{◌≡◌, ℕ, ◌+◌, ◌<◌, ◌≤◌, ◌==◌, ◌&&◌, Bool, true, false, List, [], ◌∷◌, length, drop, get_or, refl, sym, ap, ◌∙◌, arith, true≢false}
use Rattle.std.proofs.lemmas.List.{drop_more, drop_all}
use Rattle.kt_lexer.specs.Characters.{is_front}

and_false : (b : Bool) {c : Bool} → c ≡ false → (b && c) ≡ false
and_false true e = e
and_false false e = refl

-- a text that is shorter has another front
pub shorter : (spelling text : List ℕ) → length text < length spelling → is_front spelling text ≡ false
shorter [] text h = absurd (omega (arith, h))
shorter (s ∷ spelling) [] h = refl
shorter (s ∷ spelling) (u ∷ text) h = and_false (s == u) (shorter spelling text (omega (arith, h)))

pub front_more : (spelling text : List ℕ) (n : ℕ) → n < length spelling → n < length text → is_front (drop n spelling) (drop n text) ≡ (get_or spelling n 0 == get_or text n 0 && is_front (drop (n + 1) spelling) (drop (n + 1) text))
front_more spelling text n h k = ap (λ a. is_front a (drop n text)) (drop_more spelling n 0 h) ∙ ap (λ b. is_front (get_or spelling n 0 ∷ drop (n + 1) spelling) b) (drop_more text n 0 k)

pub front_end : (spelling text : List ℕ) (n : ℕ) → length spelling ≤ n → is_front (drop n spelling) text ≡ true
front_end spelling text n h = ap (λ a. is_front a text) (drop_all n spelling h)

-- a spelling in front is no longer than the text
pub front_fits : (spelling text : List ℕ) → is_front spelling text ≡ true → length spelling ≤ length text
front_fits [] text h = omega arith
front_fits (s ∷ spelling) [] h = absurd (true≢false (sym h))
front_fits (s ∷ spelling) (u ∷ text) h = let k = front_fits spelling text (and_second (s == u) h) in omega (arith, k)
  where
    and_second : (b : Bool) {c : Bool} → (b && c) ≡ true → c ≡ true
    and_second true e = e
    and_second false e = absurd (true≢false (sym e))
