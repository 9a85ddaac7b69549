-- Decimal digits that are read so far.
use Rattle.std.proofs.Common.{◌≡◌, ℕ, ◌+◌, ◌-◌, ◌*◌, ◌<◌, ◌≤◌, List, [], ◌∷◌, length, take, drop, get_or, fold, sym, subst, arith}
use Rattle.std.proofs.lemmas.List.{take-append-drop}
use Rattle.std.proofs.lemmas.List.Sums.{fold_more, fold-append}
use Rattle.form_parser.specs.Cut.{decimal}

grows : (value : ℕ) (digits : List ℕ) → value ≤ fold (λ v d. v * 10 + (d - 48)) value digits
grows value [] = omega arith
grows value (d ∷ digits) = let more = grows (value * 10 + (d - 48)) digits in omega (arith, more)

-- more digits make no smaller value
pub front_is_less : (n : ℕ) (digits : List ℕ) → decimal (take n digits) ≤ decimal digits
front_is_less n digits =
    let more = grows (decimal (take n digits)) (drop n digits) in
    let whole = fold-append (λ v d. v * 10 + (d - 48)) 0 (take n digits) (drop n digits) in
    let P : List ℕ → Type 0 = λ ds. decimal (take n digits) ≤ decimal ds in
    subst P (take-append-drop n digits) (subst (λ (m : ℕ). decimal (take n digits) ≤ m) (sym whole) more)

pub one_more_digit : (digits : List ℕ) (n : ℕ) → n < length digits → decimal (take (n + 1) digits) ≡ decimal (take n digits) * 10 + (get_or digits n 0 - 48)
one_more_digit digits n within = fold_more (λ v d. v * 10 + (d - 48)) 0 digits n 0 within
