-- Digits that are read so far.
use Rattle.std.proofs.Common.{◌≡◌, ℕ, ◌+◌, ◌*◌, ◌<◌, ◌≤◌, ◌==◌, Bool, true, false, if◌then◌else◌, List, [], ◌∷◌, length, take, drop, get_or, fold, refl, sym, ap, subst, arith}
use Rattle.std.proofs.lemmas.List.{take-append-drop}
use Rattle.std.proofs.lemmas.List.Sums.{fold_more, fold-append}
use Rattle.kt_lexer.specs.Numbers.{digit_value, is_separator, one_more, digits_value}

times_grows : (base value : ℕ) → 1 ≤ base → value ≤ value * base
times_grows base value h = grind (arith, h)

one_grows : (base value u : ℕ) → 1 ≤ base → value ≤ one_more base value u
one_grows base value u h = on_separator (is_separator u)
  where
    on_separator : (b : Bool) → value ≤ (if b then value else value * base + digit_value u)
    on_separator true = omega arith
    on_separator false = let t = times_grows base value h in omega (arith, t)

grows : (base value : ℕ) (digits : List ℕ) → 1 ≤ base → value ≤ fold (one_more base) value digits
grows base value [] h = omega arith
grows base value (u ∷ digits) h =
    let one = one_grows base value u h in
    let more = grows base (one_more base value u) digits h in
    omega (arith, one, more)

-- more digits make no smaller value
pub front_is_less : (base n : ℕ) (digits : List ℕ) → 1 ≤ base → digits_value base (take n digits) ≤ digits_value base digits
front_is_less base n digits h =
    let more = grows base (digits_value base (take n digits)) (drop n digits) h in
    let whole = fold-append (one_more base) 0 (take n digits) (drop n digits) in
    let P : List ℕ → Type 0 = λ ds. digits_value base (take n digits) ≤ digits_value base ds in
    subst P (take-append-drop n digits) (subst (λ (m : ℕ). digits_value base (take n digits) ≤ m) (sym whole) more)

pub one_more_unit : (base : ℕ) (digits : List ℕ) (n : ℕ) → n < length digits → digits_value base (take (n + 1) digits) ≡ one_more base (digits_value base (take n digits)) (get_or digits n 0)
one_more_unit base digits n within = fold_more (one_more base) 0 digits n 0 within

pub as_separator : (base value u : ℕ) → u ≡ 95 → one_more base value u ≡ value
as_separator base value u e = rw e refl

not_same : (u v : ℕ) (b : Bool) → (u == v) ≡ b → (u ≡ v → ⊥) → b ≡ false
not_same u v b e h = grind (arith, e, h)

pub as_digit : (base value u : ℕ) → (u ≡ 95 → ⊥) → one_more base value u ≡ value * base + digit_value u
as_digit base value u h = ap (λ b. if b then value else value * base + digit_value u) (not_same u 95 (u == 95) refl h)
