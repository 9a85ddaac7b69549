-- The heads that trees stand for, of Any and Box<T>, are valid, and each question over them comes to an end.
use Rattle.std.proofs.Common.{◌≡◌, ℕ, zero, suc, ◌<◌, ◌≤◌, Bool, true, false, nat_eq, List, [], ◌∷◌, cond, refl, sym, ap, ap₂, subst, ◌∙◌, arith}
use Rattle.std.proofs.Math.Path.{fun_ext}
use Rattle.std.specs.Prelude.{slice_get}
use Rattle.kc_types.specs.declared.trees.ArgTree.TheOpen.{TypeTree-F}
use Rattle.kc_types.specs.declared.trees.ArgTree.TheFolds.{fold-roll-TypeTree}
use Rattle.kc_types.specs.Types.{Ty, Nullable, Arg, Invariant, Covariant, HeadParam, Heads, star_bound}
use Rattle.kc_types.specs.Supertypes.{RanksBelow, Acyclic, above}
use Rattle.kc_types.specs.Formed.{Different, Formed}
use Rattle.kc_types.specs.Positions.{Varies, Stands, variance_in}
use Rattle.kc_types.specs.FormedSub.{Over, Of_types, ValidHeads}
use Rattle.kc_types.specs.Ending.{Limited, Loose, Less_deep, Ending}
use Rattle.kc_types.specs.Examples.{nth, plain, any_bound}
use Rattle.kc_types.specs.TypeOf.{is_function_class, argument_level, type_level, type_of, params_of, supers_of, heads_of}
use Rattle.kc_types.specs.BoxTrees.{any_tree, bound_tree, box_trees}
use Rattle.kc_types.specs.Decided.{HasEndingTrees}
use Rattle.kc_types.proofs.Listed.{all_listed}
use Rattle.kc_types.proofs.Loose.{any_loose}
use Rattle.kc_types.proofs.ExampleValid.{Every, every_in, numbered_in, nth_all}

-- ---- the heads as types
abbrev boxes_params : List (List HeadParam)
boxes_params = [] ∷ (any_bound 0 Invariant ∷ []) ∷ []

abbrev boxes_supers : List (List Ty)
boxes_supers = [] ∷ (plain 0 ∷ []) ∷ []

abbrev heads_from : (ℕ → List HeadParam) → (ℕ → List Ty) → (ℕ → Ty) → Heads
heads_from ps ss bs = record { classes = 2; params = ps; supers = ss; vars = 1; bound_of = bs; any = 0; is_function = is_function_class }

abbrev boxes_bound : Ty → ℕ → Ty
boxes_bound t x = cond (nat_eq 0 x) t (Nullable (plain 0))

abbrev boxes : Heads
boxes = heads_from (nth [] boxes_params) (nth [] boxes_supers) (boxes_bound (Nullable (plain 0)))

any_type : type_of any_tree ≡ plain 0
any_type = fold-roll-TypeTree Arg Ty argument_level type_level (TypeTree-F.Class (record { 0 = 0 }) [])

bound_type : type_of bound_tree ≡ Nullable (plain 0)
bound_type = fold-roll-TypeTree Arg Ty argument_level type_level (TypeTree-F.Nullable any_tree) ∙ ap (λ t. Nullable t) any_type

params_same : (c : ℕ) → params_of (slice_get box_trees.classes c) ≡ nth [] boxes_params c
params_same zero = refl
params_same (suc zero) = ap (λ t. record { var = 0; variance = Invariant; bound = t } ∷ []) bound_type
params_same (suc (suc c)) = refl

supers_same : (c : ℕ) → supers_of (slice_get box_trees.classes c) ≡ nth [] boxes_supers c
supers_same zero = refl
supers_same (suc zero) = ap (λ t. t ∷ []) any_type
supers_same (suc (suc c)) = refl

same_heads : heads_of box_trees ≡ boxes
same_heads =
    ap₂ (λ ps ss. heads_from ps ss (boxes_bound (type_of bound_tree))) (fun_ext params_same) (fun_ext supers_same) ∙
    ap (λ t. heads_from (nth [] boxes_params) (nth [] boxes_supers) (boxes_bound t)) bound_type

-- ---- they are valid
abbrev ranks : List ℕ
ranks = 0 ∷ 1 ∷ []

first : 0 < 1
first = omega arith

few : (n : ℕ) → n < 2 → n ≤ 2
few n l = omega (arith, l)

acyclic : Acyclic boxes
acyclic = record {
  rank = nth 0 ranks;
  within = nth_all (λ r. r ≤ 2) 0 ranks (few 0 (omega arith)) (few 0 (omega arith), (few 1 (omega arith), tt));
  lower = λ c s i. numbered_in (λ k t. RanksBelow (nth 0 ranks) (nth 0 ranks k) t) boxes_supers c s (tt, ((first, tt), tt)) i;
}

functions : (c : ℕ) → is_function_class c ≡ true → Varies (nth [] boxes_params c)
functions zero e = tt
functions (suc zero) e = absurd (cc)
functions (suc (suc c)) e = tt

bounded : (b : Bool) → Formed boxes (cond b (Nullable (plain 0)) (Nullable (plain 0)))
bounded true = (tt, (λ f. tt, tt))
bounded false = (tt, (λ f. tt, tt))

valid : ValidHeads boxes
valid = record {
  acyclic = acyclic;
  different = nth_all Different [] boxes_params tt (tt, ((refl, tt), tt));
  functions = functions;
  formed = λ c s i. numbered_in (λ k t. Formed boxes t) boxes_supers c s (tt, (((λ f. tt, tt), tt), tt)) i;
  types = λ c s i. numbered_in (λ k t. Of_types t) boxes_supers c s (tt, ((tt, tt), tt)) i;
  over = λ c s i. numbered_in (λ k t. Over (nth [] boxes_params k) t) boxes_supers c s (tt, ((tt, tt), tt)) i;
  stand = λ c s i. numbered_in (λ k t. Stands boxes (variance_in (nth [] boxes_params k)) Covariant t) boxes_supers c s (tt, ((tt, tt), tt)) i;
  class_bounds = λ c p i. numbered_in (λ k q. Formed boxes q.bound) boxes_params c p (tt, (((tt, (λ f. tt, tt)), tt), tt)) i;
  bounds = λ x. bounded (nat_eq 0 x);
  plain = refl;
  alone = refl;
}

-- ---- questions end
all_limited : (c : ℕ) → Every (Limited boxes) (above boxes c)
all_limited zero = (tt, tt)
all_limited (suc zero) = ((tt, tt), (tt, tt))
all_limited (suc (suc c)) = (tt, tt)

limited : (b : Bool) → Limited boxes (cond b (Nullable (plain 0)) (Nullable (plain 0)))
limited true = tt
limited false = tt

less_deep : (b : Bool) → Less_deep (λ x. 0) 0 (cond b (Nullable (plain 0)) (Nullable (plain 0)))
less_deep true = tt
less_deep false = tt

object : Loose boxes (Nullable (plain 0))
object = any_loose boxes valid

ending : Ending boxes
ending = record {
  limited = λ c t st. every_in (Limited boxes) (above boxes c) t (all_limited c) (all_listed boxes acyclic c t st);
  bound_limited = λ x. limited (nat_eq 0 x);
  depth = λ x. 0;
  less_deep = λ x. less_deep (nat_eq 0 x);
  star_limited = λ c p i. numbered_in (λ k q. Limited boxes (star_bound boxes k q)) boxes_params c p (tt, ((tt, tt), tt)) i;
  star_loose = λ c p i. numbered_in (λ k q. Loose boxes (star_bound boxes k q)) boxes_params c p (tt, ((object, tt), tt)) i;
}

pub has_ending_trees : HasEndingTrees
has_ending_trees = (subst ValidHeads (sym same_heads) valid, subst Ending (sym same_heads) ending)
