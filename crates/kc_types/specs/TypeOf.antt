-- The types and heads that trees stand for.
use Rattle.std.specs.Prelude.{ℕ, ◌+◌, Bool, nat_eq, nat_le, ◌&&◌, List, [], ◌∷◌, map, length, cond, Option, Some, None, slice_get, sum}
use Rattle.kc_types.specs.declared.trees.TypeTree.{TypeTree}
use Rattle.kc_types.specs.declared.trees.ArgTree.TheOpen.{TypeTree-F, ArgTree-F}
use Rattle.kc_types.specs.declared.trees.ArgTree.TheFolds.{fold-TypeTree}
use Rattle.kc_types.specs.declared.heads.Variance as declared_variance
use Rattle.kc_types.specs.declared.heads.Variance.TheVariants as variance_is
use Rattle.kc_types.specs.declared.heads.HeadParam as declared_param
use Rattle.kc_types.specs.declared.heads.Head as declared_head
use Rattle.kc_types.specs.declared.heads.Heads as declared_heads
use Rattle.kc_types.specs.Types.{Ty, Class, Param, Nothing, Nullable, Arg, Exact, Out, In, Star, Args, none, more, Variance, Invariant, Covariant, Contravariant, HeadParam, Heads}

-- the class of functions with so many parameters
abbrev pub function_class : ℕ → ℕ
function_class arity = 27 + arity

abbrev pub is_function_class : ℕ → Bool
is_function_class c = nat_le 27 c && nat_le c 35

abbrev pub args_of : List Arg → Args
args_of [] = none
args_of (a ∷ xs) = more a (args_of xs)

-- a function type's parameters and its result as arguments
abbrev pub function_args : List Ty → Ty → Args
function_args [] result = more (Exact result) none
function_args (t ∷ ts) result = more (Exact t) (function_args ts result)

abbrev pub type_level : TypeTree-F Arg Ty → Ty
type_level (TypeTree-F.Class c xs) = Class c.0 (args_of xs)
type_level (TypeTree-F.Param x) = Param x.0
type_level (TypeTree-F.Fun ps r) = Class (function_class (length ps)) (function_args ps r)
type_level TypeTree-F.Nothing = Nothing
type_level (TypeTree-F.Nullable t) = Nullable t

abbrev pub argument_level : ArgTree-F Arg Ty → Arg
argument_level (ArgTree-F.Exact t) = Exact t
argument_level (ArgTree-F.Out t) = Out t
argument_level (ArgTree-F.In t) = In t
argument_level ArgTree-F.Star = Star

-- the type that a tree stands for
abbrev pub type_of : TypeTree → Ty
type_of t = fold-TypeTree Arg Ty argument_level type_level t

abbrev pub variance_of : declared_variance.Variance → Variance
variance_of variance_is.Invariant = Invariant
variance_of variance_is.Out = Covariant
variance_of variance_is.In = Contravariant

abbrev pub param_of : declared_param.HeadParam → HeadParam
param_of p = record { var = p.var.0; variance = variance_of p.variance; bound = type_of p.bound }

abbrev pub params_of : Option declared_head.Head → List HeadParam
params_of (Some h) = map param_of h.params
params_of None = []

abbrev pub supers_of : Option declared_head.Head → List Ty
supers_of (Some h) = map type_of h.supers
supers_of None = []

-- the bound of a type parameter among these, or else the other type
abbrev pub bound_among : ℕ → List declared_param.HeadParam → Ty → Ty
bound_among x [] else_type = else_type
bound_among x (p ∷ ps) else_type = cond (nat_eq p.var.0 x) (type_of p.bound) (bound_among x ps else_type)

abbrev pub bound_in_heads : ℕ → List declared_head.Head → Ty → Ty
bound_in_heads x [] else_type = else_type
bound_in_heads x (h ∷ hs) else_type = bound_among x h.params (bound_in_heads x hs else_type)

-- the heads that these trees stand for
abbrev pub heads_of : declared_heads.Heads → Heads
heads_of h = record {
  classes = length h.classes;
  params = λ c. params_of (slice_get h.classes c);
  supers = λ c. supers_of (slice_get h.classes c);
  vars = length h.others + sum (map (λ head. length head.params) h.classes);
  -- `Any?` where no bound is known
  bound_of = λ x. bound_in_heads x h.classes (bound_among x h.others (Nullable (Class 0 none)));
  any = 0;
  is_function = is_function_class;
}
