-- What is known of a value of a declared type, once it is known to be of a class: the class with arguments from the declared type.
use Rattle.std.specs.Prelude.{ℕ, zero, suc, Bool, false, nat_eq, List, [], ◌∷◌, Option, Some, None, cond, ◌+◌}
use Rattle.kc_types.specs.Types.{Ty, Class, Param, Nothing, Nullable, Arg, Exact, Out, In, Star, Args, none, more, Variance, HeadParam, Heads, up, class_given, unless_against, variance_at, rest_of}
use Rattle.kc_types.specs.Supertypes.{instance}
use Rattle.kc_types.specs.Subtype.{read}

-- the arguments of the declared class, as their variance has them, at the places where the class's instance has exactly this
-- parameter
abbrev pub is_alone : ℕ → Arg → Bool
is_alone x (Exact (Param y)) = nat_eq x y
is_alone x (Exact (Class c xs)) = false
is_alone x (Exact Nothing) = false
is_alone x (Exact (Nullable t)) = false
is_alone x (Out t) = false
is_alone x (In t) = false
is_alone x Star = false

abbrev pub arguments_at : ℕ → List HeadParam → Args → Args → List Arg
arguments_at x ps none xs = []
arguments_at x ps (more z zs) none = []
arguments_at x ps (more z zs) (more a xs) = cond (is_alone x z) (read (variance_at ps) a ∷ arguments_at x (rest_of ps) zs xs) (arguments_at x (rest_of ps) zs xs)

-- a type comes before `out`, that before `in`, and among equals the first
abbrev pub first_exact : List Arg → Arg → Arg
first_exact [] a = a
first_exact (Exact t ∷ xs) a = Exact t
first_exact (Out t ∷ xs) a = first_exact xs a
first_exact (In t ∷ xs) a = first_exact xs a
first_exact (Star ∷ xs) a = first_exact xs a

abbrev pub first_out : List Arg → Arg → Arg
first_out [] a = a
first_out (Out t ∷ xs) a = Out t
first_out (Exact t ∷ xs) a = first_out xs a
first_out (In t ∷ xs) a = first_out xs a
first_out (Star ∷ xs) a = first_out xs a

abbrev pub first_in : List Arg → Arg
first_in [] = Star
first_in (In t ∷ xs) = In t
first_in (Exact t ∷ xs) = first_in xs
first_in (Out t ∷ xs) = first_in xs
first_in (Star ∷ xs) = first_in xs

abbrev pub chosen : Variance → List Arg → Arg
chosen v xs = let a = first_exact xs (first_out xs (first_in xs)) in unless_against v a a

abbrev pub view_args : List HeadParam → List HeadParam → Args → Args → Args
view_args [] ds zs xs = none
view_args (p ∷ ps) ds zs xs = more (chosen p.variance (arguments_at p.var ds zs xs)) (view_args ps ds zs xs)

-- by the class's instance at the declared class, where it has one
abbrev pub viewed : List HeadParam → List HeadParam → Args → Option Ty → Args
viewed ps ds xs (Some (Class d zs)) = view_args ps ds zs xs
viewed ps ds xs (Some (Param x)) = view_args ps ds none xs
viewed ps ds xs (Some Nothing) = view_args ps ds none xs
viewed ps ds xs (Some (Nullable t)) = view_args ps ds none xs
viewed ps ds xs None = view_args ps ds none xs

abbrev pub view_by : Heads → ℕ → Args → ℕ → Option Ty → Option Ty
view_by h d xs c (Some t) = Some (up h (class_given h d xs) t)
view_by h d xs c None = cond (h.is_function c) None (Some (Class c (viewed (h.params c) (h.params d) xs (instance h c d))))

-- the declared type without its `?`; a type parameter by its bound, as often as needed, for which there are so many steps
abbrev pub view_from : ℕ → Heads → Ty → ℕ → Option Ty
view_from n h (Class d xs) c = view_by h d xs c (instance h d c)
view_from n h Nothing c = None
view_from zero h (Param x) c = None
view_from (suc n) h (Param x) c = view_from n h (h.bound_of x) c
view_from zero h (Nullable t) c = None
view_from (suc n) h (Nullable t) c = view_from n h t c

-- each bound may have a `?`
abbrev pub view : Heads → Ty → ℕ → Option Ty
view h declared c = view_from (suc (h.vars + h.vars)) h declared c
