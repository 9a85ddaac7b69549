-- What stands on a stack from which an operand is taken.
use Rattle.std.proofs.Common.{◌≢◌, ℤ, List, [], ◌∷◌, refl}
use Rattle.class_file.specs.declared.value.Value.{Value}
use Rattle.class_file.specs.declared.value.Value.TheVariants.{Nothing, Int, Long, Null, Ref}
use Rattle.class_file.specs.Machine.{Effect, Fails, on_int, on_long}
use Rattle.class_machine.specs.Stacks.{HasInt, HasLong}

pub int_on_top : (stack : List Value) (go : ℤ → List Value → Effect) → on_int stack go ≢ Fails → HasInt stack
int_on_top [] go h = absurd (h refl)
int_on_top (Int n ∷ rest) go h = record { top = n; rest = rest; is = refl }
int_on_top (Nothing ∷ rest) go h = absurd (h refl)
int_on_top (Long n ∷ rest) go h = absurd (h refl)
int_on_top (Null ∷ rest) go h = absurd (h refl)
int_on_top (Ref r ∷ rest) go h = absurd (h refl)

pub long_on_top : (stack : List Value) (go : ℤ → List Value → Effect) → on_long stack go ≢ Fails → HasLong stack
long_on_top [] go h = absurd (h refl)
long_on_top (Long n ∷ rest) go h = record { top = n; rest = rest; is = refl }
long_on_top (Nothing ∷ rest) go h = absurd (h refl)
long_on_top (Int n ∷ rest) go h = absurd (h refl)
long_on_top (Null ∷ rest) go h = absurd (h refl)
long_on_top (Ref r ∷ rest) go h = absurd (h refl)
