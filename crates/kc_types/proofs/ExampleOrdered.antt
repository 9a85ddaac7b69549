-- The heads with bounds that name their own parameter are valid, and each question over them comes to an end.
use Rattle.std.proofs.Common.{◌≡◌, ℕ, zero, suc, ◌<◌, ◌≤◌, true, List, [], ◌∷◌, refl, arith}
use Rattle.kc_types.specs.Types.{Ty, Class, Param, Nothing, Nullable, Star, none, Covariant, star_bound}
use Rattle.kc_types.specs.Supertypes.{RanksBelow, Acyclic, above}
use Rattle.kc_types.specs.Formed.{Different, Formed}
use Rattle.kc_types.specs.Positions.{Stands, variance_in}
use Rattle.kc_types.specs.FormedSub.{Over, Of_types, ValidHeads}
use Rattle.kc_types.specs.Ending.{Own_args, Limited, Loose, Passes_on, Ending}
use Rattle.kc_types.specs.Examples.{nth, plain, one, ordered_params, ordered_supers, ordered}
use Rattle.kc_types.proofs.Listed.{all_listed}
use Rattle.kc_types.proofs.Loose.{any_loose}
use Rattle.kc_types.proofs.ExampleValid.{Every, every_in, numbered_in, nth_all}

abbrev ranks : List ℕ
ranks = 0 ∷ 0 ∷ 1 ∷ 1 ∷ 2 ∷ []

first : 0 < 1
first = omega arith

second : 1 < 2
second = omega arith

few : (n : ℕ) → n < 5 → n ≤ 5
few n l = omega (arith, l)

acyclic : Acyclic ordered
acyclic = record {
  rank = nth 0 ranks;
  within = nth_all (λ r. r ≤ 5) 0 ranks (few 0 (omega arith)) (few 0 (omega arith), (few 0 (omega arith), (few 1 (omega arith), (few 1 (omega arith), (few 2 (omega arith), tt)))));
  lower = λ c s i. numbered_in (λ k t. RanksBelow (nth 0 ranks) (nth 0 ranks k) t) ordered_supers c s (tt, (tt, ((first, tt), ((first, tt), ((second, tt), tt))))) i;
}

pub ordered_valid : ValidHeads ordered
ordered_valid = record {
  acyclic = acyclic;
  different = nth_all Different [] ordered_params tt (tt, ((refl, tt), ((refl, tt), ((refl, tt), (tt, tt)))));
  functions = λ c e. absurd (cc);
  formed = λ c s i. numbered_in (λ k t. Formed ordered t) ordered_supers c s (tt, (tt, (((λ f. tt, (tt, tt)), tt), (((λ f. tt, tt), tt), (((λ f. tt, ((λ f. tt, tt), tt)), tt), tt))))) i;
  types = λ c s i. numbered_in (λ k t. Of_types t) ordered_supers c s (tt, (tt, ((tt, tt), ((tt, tt), ((tt, tt), tt))))) i;
  over = λ c s i. numbered_in (λ k t. Over (nth [] ordered_params k) t) ordered_supers c s (tt, (tt, (((refl, tt), tt), ((tt, tt), (((tt, tt), tt), tt))))) i;
  stand = λ c s i. numbered_in (λ k t. Stands ordered (variance_in (nth [] ordered_params k)) Covariant t) ordered_supers c s (tt, (tt, (((tt, tt), tt), ((tt, tt), (((tt, tt), tt), tt))))) i;
  class_bounds = λ c p i. numbered_in (λ k q. Formed ordered q.bound) ordered_params c p
      (tt, (((tt, (λ f. tt, tt)), tt), (((λ f. tt, (tt, tt)), tt), (((λ f. tt, (tt, tt)), tt), (tt, tt))))) i;
  bounds = λ x. (tt, (λ f. tt, tt));
  plain = refl;
  alone = refl;
}

all_limited : (c : ℕ) → Every (Limited ordered) (above ordered c)
all_limited zero = (tt, tt)
all_limited (suc zero) = ((tt, tt), tt)
all_limited (suc (suc zero)) = ((tt, tt), ((tt, tt), tt))
all_limited (suc (suc (suc zero))) = ((tt, tt), (tt, tt))
all_limited (suc (suc (suc (suc zero)))) = (tt, ((tt, tt), ((tt, tt), tt)))
all_limited (suc (suc (suc (suc (suc c))))) = (tt, tt)

abbrev Passes : Ty → Type 0
Passes (Class d xs) = Own_args ordered xs × (ordered.is_function d ≡ true → xs ≡ none)
Passes (Param x) = Unit {0}
Passes Nothing = Unit {0}
Passes (Nullable t) = Unit {0}

passes : (c : ℕ) → Every Passes (above ordered c) → Passes_on ordered c
passes c e d xs st = every_in Passes (above ordered c) (Class d xs) e (all_listed ordered acyclic c (Class d xs) st)

object : Loose ordered (Nullable (plain 0))
object = any_loose ordered ordered_valid

comparable : Loose ordered (one 1 Star)
comparable = (passes 1 (((tt, tt), λ f. absurd (cc)), tt), (tt, tt))

enums : Loose ordered (one 2 Star)
enums = (passes 2 (((tt, tt), λ f. absurd (cc)), (((tt, tt), λ f. absurd (cc)), tt)), (tt, tt))

pub ordered_ending : Ending ordered
ordered_ending = record {
  limited = λ c t st. every_in (Limited ordered) (above ordered c) t (all_limited c) (all_listed ordered acyclic c t st);
  bound_limited = λ x. tt;
  depth = λ x. 0;
  less_deep = λ x. tt;
  star_limited = λ c p i. numbered_in (λ k q. Limited ordered (star_bound ordered k q)) ordered_params c p (tt, ((tt, tt), (((tt, tt), tt), (((tt, tt), tt), (tt, tt))))) i;
  star_loose = λ c p i. numbered_in (λ k q. Loose ordered (star_bound ordered k q)) ordered_params c p (tt, ((object, tt), ((enums, tt), ((comparable, tt), (tt, tt))))) i;
}
