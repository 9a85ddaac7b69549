-- Questions that lead to themselves.
use Rattle.std.proofs.Common.{◌≡◌, ℕ, zero, suc, Bool, false, true, ◌&&◌, ◌||◌, refl, ap}
use Rattle.kc_types.specs.Types.{Param, Nullable}
use Rattle.kc_types.specs.Subtype.{below}
use Rattle.kc_types.specs.Examples.{plain}
use Rattle.kc_types.specs.Endless.{n_of_m, by_itself, by_bound, by_function, d_of_n, to_unit}

-- two steps on, with what is asked of the inner types
abbrev around : Bool → Bool
around b = (((((((b && true) || false) || (((b && true) || false) || false)) && true) || false) || false) || false) || false

pub itself : (n : ℕ) → below n by_itself (plain 2) (n_of_m 1 3) ≡ false
itself zero = refl
itself (suc zero) = refl
itself (suc (suc zero)) = refl
itself (suc (suc (suc n))) = ap around (itself n)

pub bound : (n : ℕ) → below n by_bound d_of_n (n_of_m 1 2) ≡ false
bound zero = refl
bound (suc zero) = refl
bound (suc (suc zero)) = refl
bound (suc (suc (suc n))) = ap around (bound n)

pub function : (n : ℕ) → below n by_function (Param 30) (to_unit (Param 30)) ≡ false
function zero = refl
function (suc zero) = refl
function (suc (suc n)) =
    ap (λ b. ((b && (below n by_function (plain 2) (plain 2) && true)) || false) || (((b && (below n by_function (Nullable (plain 0)) (plain 2) && true)) || false) || false)) (function n)
