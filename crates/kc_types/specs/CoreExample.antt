-- Heads of the core that are valid: a class of all objects, L<out S>, D<T> : L<T>, and further classes without parameters.
use Rattle.std.specs.Prelude.{ℕ, zero, suc, nat_eq, List, [], ◌∷◌, Option, Some, None, cond}
use Rattle.kc_types.specs.Core.{Hole, Args, none, more, Variance, Inv, Cov, Super, Heads}

abbrev pub vars : ℕ → List Variance
vars zero = []
vars (suc zero) = Cov ∷ []
vars (suc (suc zero)) = Inv ∷ []
vars (suc (suc (suc c))) = []

abbrev pub one_place : Args
one_place = more (Hole zero) none

abbrev pub any_object : Super
any_object = record { class = 0; args = none }

abbrev pub list_of : Super
list_of = record { class = 1; args = one_place }

abbrev pub supers : ℕ → List Super
supers zero = []
supers (suc zero) = any_object ∷ []
supers (suc (suc zero)) = list_of ∷ []
supers (suc (suc (suc c))) = any_object ∷ []

abbrev pub above : ℕ → ℕ → Option Args
above zero zero = Some none
above zero (suc e) = None
above (suc zero) zero = Some none
above (suc zero) (suc zero) = Some one_place
above (suc zero) (suc (suc e)) = None
above (suc (suc zero)) zero = Some none
above (suc (suc zero)) (suc zero) = Some one_place
above (suc (suc zero)) (suc (suc zero)) = Some one_place
above (suc (suc zero)) (suc (suc (suc e))) = None
above (suc (suc (suc c))) zero = Some none
above (suc (suc (suc c))) (suc e) = cond (nat_eq (suc (suc c)) e) (Some none) None

abbrev pub example : Heads
example = record { vars = vars; supers = supers; above = above; any = 0 }
