-- Over the heads of the examples each question comes to an end.
use Rattle.std.proofs.Common.{◌≡◌, ℕ, zero, suc, Bool, true, false, nat_eq, cond, refl}
use Rattle.kc_types.specs.Types.{Ty, Class, Param, Nothing, Nullable, none, star_bound}
use Rattle.kc_types.specs.Supertypes.{above}
use Rattle.kc_types.specs.Ending.{Own_args, Limited, Loose, Less_deep, Ending}
use Rattle.kc_types.specs.Examples.{plain, heads_params, heads}
use Rattle.kc_types.specs.Decided.{HasEndingHeads}
use Rattle.kc_types.proofs.ExampleOrdered.{ordered_valid, ordered_ending}
use Rattle.kc_types.proofs.Listed.{all_listed}
use Rattle.kc_types.proofs.Loose.{any_loose}
use Rattle.kc_types.proofs.ExampleValid.{Every, every_in, numbered_in, acyclic, is_valid}

all_limited : (c : ℕ) → Every (Limited heads) (above heads c)
all_limited zero = (tt, tt)
all_limited (suc zero) = (tt, (tt, tt))
all_limited (suc (suc zero)) = ((tt, tt), tt)
all_limited (suc (suc (suc zero))) = ((tt, tt), ((tt, tt), tt))
all_limited (suc (suc (suc (suc zero)))) = ((tt, tt), tt)
all_limited (suc (suc (suc (suc (suc zero))))) = ((tt, (tt, tt)), tt)
all_limited (suc (suc (suc (suc (suc (suc zero)))))) = ((tt, tt), tt)
all_limited (suc (suc (suc (suc (suc (suc (suc zero))))))) = ((tt, tt), ((tt, tt), tt))
all_limited (suc (suc (suc (suc (suc (suc (suc (suc zero)))))))) = ((tt, tt), ((tt, tt), ((tt, tt), tt)))
all_limited (suc (suc (suc (suc (suc (suc (suc (suc (suc zero))))))))) = ((tt, tt), ((tt, tt), ((tt, tt), ((tt, tt), tt))))
all_limited (suc (suc (suc (suc (suc (suc (suc (suc (suc (suc c)))))))))) = (tt, tt)

abbrev Passes : Ty → Type 0
Passes (Class d xs) = Own_args heads xs × (heads.is_function d ≡ true → xs ≡ none)
Passes (Param x) = Unit {0}
Passes Nothing = Unit {0}
Passes (Nullable t) = Unit {0}

number : Loose heads (plain 1)
number = (λ d xs st. every_in Passes (above heads 1) (Class d xs) ((tt, λ f. refl), ((tt, λ f. refl), tt)) (all_listed heads acyclic 1 (Class d xs) st), tt)

object : Loose heads (Nullable (plain 0))
object = any_loose heads is_valid

limited : (b : Bool) → Limited heads (cond b (plain 1) (Nullable (plain 0)))
limited true = tt
limited false = tt

less_deep : (b : Bool) → Less_deep (λ x. 0) 0 (cond b (plain 1) (Nullable (plain 0)))
less_deep true = tt
less_deep false = tt

heads_ending : Ending heads
heads_ending = record {
  limited = λ c t st. every_in (Limited heads) (above heads c) t (all_limited c) (all_listed heads acyclic c t st);
  bound_limited = λ x. limited (nat_eq x 30);
  depth = λ x. 0;
  less_deep = λ x. less_deep (nat_eq x 30);
  star_limited = λ c p i. numbered_in (λ k q. Limited heads (star_bound heads k q)) heads_params c p (tt, (tt, ((tt, tt), ((tt, tt), ((tt, tt), ((tt, (tt, tt)), ((tt, tt), ((tt, tt), ((tt, tt), ((tt, tt), tt)))))))))) i;
  star_loose = λ c p i. numbered_in (λ k q. Loose heads (star_bound heads k q)) heads_params c p
      (tt, (tt, ((object, tt), ((number, tt), ((object, tt), ((object, (object, tt)), ((object, tt), ((object, tt), ((object, tt), ((object, tt), tt)))))))))) i;
}

pub has_ending : HasEndingHeads
has_ending = (heads_ending, ordered_valid, ordered_ending)
