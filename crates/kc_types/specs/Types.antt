-- Types as terms, the heads of classes, and types taken upwards and downwards (Kotlin Language Specification 1.9, "Type capturing",
-- where upwards gives a type above each type that a projection may stand for, and downwards one below each).
-- A function type is here the class of functions of its arity, with the types of its parameters and of its result as arguments.
use Rattle.std.specs.Prelude.{ℕ, zero, suc, Bool, true, false, nat_eq, List, [], ◌∷◌, Option, Some, None, cond, ◌||◌, length}

mutual
  pub data Ty : Type 0 where
    Class : (c : ℕ) (args : Args) → Ty
    Param : (x : ℕ) → Ty
    Nothing : Ty
    Nullable : (t : Ty) → Ty

  pub data Arg : Type 0 where
    Exact : (t : Ty) → Arg
    Out : (t : Ty) → Arg
    In : (t : Ty) → Arg
    Star : Arg

  pub data Args : Type 0 where
    none : Args
    more : (a : Arg) (rest : Args) → Args

pub data Variance : Type 0 where
  Invariant Covariant Contravariant : Variance

pub record HeadParam : Type 0 where
  pub var : ℕ
  pub variance : Variance
  pub bound : Ty

-- the classes: how many there are, their parameters, and their direct supertypes over them; the bound of each type parameter, of
-- classes and of functions, and how many these are; the class of all objects, and which classes are those of functions
pub record Heads : Type 0 where
  pub classes : ℕ
  pub params : ℕ → List HeadParam
  pub supers : ℕ → List Ty
  pub vars : ℕ
  pub bound_of : ℕ → Ty
  pub any : ℕ
  pub is_function : ℕ → Bool

-- `Any?`
abbrev pub anything : Heads → Ty
anything h = Nullable (Class h.any none)

-- one `?` where two would stand
abbrev pub nullable : Ty → Ty
nullable (Nullable t) = Nullable t
nullable (Class c xs) = Nullable (Class c xs)
nullable (Param x) = Nullable (Param x)
nullable Nothing = Nullable Nothing

-- a parameter, what it stands for, and its bound as it stands for a star
pub record Given : Type 0 where
  pub var : ℕ
  pub arg : Arg
  pub top : Ty

abbrev pub is_projection : Arg → Bool
is_projection (Exact t) = false
is_projection (Out t) = true
is_projection (In t) = true
is_projection Star = true

abbrev pub given : List Given → ℕ → Option Given
given [] x = None
given (g ∷ gs) x = cond (nat_eq g.var x) (Some g) (given gs x)

abbrev pub is_given_projection : Option Given → Bool
is_given_projection None = false
is_given_projection (Some g) = is_projection g.arg

-- whether a type names a parameter that stands for a projection
abbrev mutual
  pub names : List Given → Ty → Bool
  names gs (Class c xs) = names_args gs xs
  names gs (Param x) = is_given_projection (given gs x)
  names gs Nothing = false
  names gs (Nullable t) = names gs t

  pub names_arg : List Given → Arg → Bool
  names_arg gs (Exact t) = names gs t
  names_arg gs (Out t) = names gs t
  names_arg gs (In t) = names gs t
  names_arg gs Star = false

  pub names_args : List Given → Args → Bool
  names_args gs none = false
  names_args gs (more a xs) = names_arg gs a || names_args gs xs

abbrev pub value_up : ℕ → Option Given → Ty
value_up x None = Param x
value_up x (Some g) = elim g.arg [ Exact t ↦ t | Out t ↦ t | In t ↦ g.top | Star ↦ g.top ]

abbrev pub value_down : ℕ → Option Given → Ty
value_down x None = Param x
value_down x (Some g) = elim g.arg [ Exact t ↦ t | Out t ↦ Nothing | In t ↦ t | Star ↦ Nothing ]

-- an argument that is the parameter alone
abbrev pub alone : ℕ → Option Given → Arg
alone x None = Exact (Param x)
alone x (Some g) = g.arg

abbrev pub variance_at : List HeadParam → Variance
variance_at [] = Invariant
variance_at (p ∷ ps) = p.variance

abbrev pub rest_of : List HeadParam → List HeadParam
rest_of [] = []
rest_of (p ∷ ps) = ps

-- an argument with its type taken upwards, or downwards where it is written with `in` or stands for an `in` parameter
abbrev pub projected : Bool → Variance → Ty → Ty → Arg
projected false v up down = Exact up
projected true Contravariant up down = In down
projected true Invariant up down = Out up
projected true Covariant up down = Out up

abbrev pub exact_up : List Given → Variance → Ty → Ty → Ty → Arg
exact_up gs v (Param x) up down = alone x (given gs x)
exact_up gs v (Class c xs) up down = projected (names_args gs xs) v up down
exact_up gs v Nothing up down = Exact Nothing
exact_up gs v (Nullable t) up down = projected (names gs t) v up down

-- a function type has types and no projections: its result is taken upwards, its parameters downwards
abbrev pub flat : Variance → Ty → Ty → Arg
flat Contravariant up down = Exact down
flat Covariant up down = Exact up
flat Invariant up down = Exact up

-- an `out` argument for an `in` parameter is read as a star in any case
abbrev pub down_arg : Variance → Arg → Arg → Arg
down_arg Covariant up down = down
down_arg Contravariant up down = up
down_arg Invariant up down = down

-- a projection against its parameter's variance is a star
abbrev pub unless_against : Variance → Arg → Arg → Arg
unless_against Covariant (In t) b = Star
unless_against Contravariant (Out t) b = Star
unless_against _ _ b = b

-- whether an invariant parameter's argument names a parameter that stands for a projection; then no type but `Nothing` is below
abbrev pub blocked : List Given → List HeadParam → Args → Bool
blocked gs ps none = false
blocked gs ps (more a xs) = elim (variance_at ps) [ Invariant ↦ names_arg gs a | Covariant ↦ false | Contravariant ↦ false ] || blocked gs (rest_of ps) xs

module _ (h : Heads) (gs : List Given) where
  abbrev mutual
    pub up : Ty → Ty
    up (Class c xs) = Class c (up_args (h.is_function c) (h.params c) xs)
    up (Param x) = value_up x (given gs x)
    up Nothing = Nothing
    up (Nullable t) = nullable (up t)

    pub down : Ty → Ty
    down (Class c xs) = cond (blocked gs (h.params c) xs) Nothing (Class c (down_args (h.params c) xs))
    down (Param x) = value_down x (given gs x)
    down Nothing = Nothing
    down (Nullable t) = nullable (down t)

    pub up_arg : Bool → Arg → Variance → Arg
    up_arg f (Exact t) v = cond f (flat v (up t) (down t)) (exact_up gs v t (up t) (down t))
    up_arg f (Out t) v = Out (up t)
    up_arg f (In t) v = In (down t)
    up_arg f Star v = Star

    pub each_up : Arg → Arg
    each_up (Exact t) = Exact (up t)
    each_up (Out t) = Out (up t)
    each_up (In t) = In (up t)
    each_up Star = Star

    pub each_down : Arg → Arg
    each_down (Exact t) = Exact (down t)
    each_down (Out t) = Out (down t)
    each_down (In t) = In (down t)
    each_down Star = Star

    pub up_args : Bool → List HeadParam → Args → Args
    up_args f ps none = none
    up_args f ps (more a xs) = more (unless_against (variance_at ps) a (up_arg f a (variance_at ps))) (up_args f (rest_of ps) xs)

    pub down_args : List HeadParam → Args → Args
    down_args ps none = none
    down_args ps (more a xs) = more (unless_against (variance_at ps) a (down_arg (variance_at ps) (each_up a) (each_down a))) (down_args (rest_of ps) xs)

-- ---- a parameter's bound as a star reads it

abbrev pub is_own : List HeadParam → ℕ → Bool
is_own [] x = false
is_own (p ∷ ps) x = nat_eq p.var x || is_own ps x

abbrev pub if_own : List HeadParam → ℕ → Option ℕ
if_own ps x = cond (is_own ps x) (Some x) None

-- the parameter of the class that a type is, with `?` or not
abbrev pub bare : List HeadParam → Ty → Option ℕ
bare ps (Param x) = if_own ps x
bare ps (Nullable (Param x)) = if_own ps x
bare ps (Nullable (Class c xs)) = None
bare ps (Nullable Nothing) = None
bare ps (Nullable (Nullable t)) = None
bare ps (Class c xs) = None
bare ps Nothing = None

abbrev pub or_alone : Option ℕ → Arg → Arg
or_alone None a = a
or_alone (Some x) a = Exact (Param x)

-- the parameter alone that an argument is read as. What a function type takes or gives is no argument, and an argument of an `in` parameter keeps
-- its `?`: where types are taken downwards the bound stands there, and it must be above each value's type
abbrev pub read_alone : Bool → Variance → List HeadParam → Ty → Option ℕ
read_alone true v ps t = None
read_alone false Contravariant ps t = None
read_alone false Covariant ps t = bare ps t
read_alone false Invariant ps t = bare ps t

module _ (h : Heads) (ps : List HeadParam) where
  -- each other argument that is such a parameter, with `?`, with `out` or with both, is read as the parameter alone
  abbrev mutual
    pub bared : Ty → Ty
    bared (Class c xs) = Class c (bared_args (h.is_function c) (h.params c) xs)
    bared (Param x) = Param x
    bared Nothing = Nothing
    bared (Nullable t) = Nullable (bared t)

    pub bared_arg : Bool → Variance → Arg → Arg
    bared_arg f v (Exact t) = or_alone (read_alone f v ps t) (Exact (bared t))
    bared_arg f v (Out t) = or_alone (read_alone f v ps t) (Out (bared t))
    bared_arg f v (In t) = In (bared t)
    bared_arg f v Star = Star

    pub bared_args : Bool → List HeadParam → Args → Args
    bared_args f qs none = none
    bared_args f qs (more a xs) = more (bared_arg f (variance_at qs) a) (bared_args f (rest_of qs) xs)

-- a bound that is a parameter, with `?` or not, leads on to that parameter's bound
abbrev pub bound_in : List HeadParam → ℕ → Ty
bound_in [] x = Param x
bound_in (p ∷ ps) x = cond (nat_eq p.var x) p.bound (bound_in ps x)

abbrev pub lead : List HeadParam → Ty → Ty
lead ps (Class c xs) = Class c xs
lead ps (Param x) = bound_in ps x
lead ps Nothing = Nothing
lead ps (Nullable t) = nullable (lead ps t)

abbrev pub led : ℕ → List HeadParam → Ty → Ty
led zero ps t = t
led (suc n) ps t = led n ps (lead ps t)

-- each parameter has a star in its place
abbrev pub stars : (HeadParam → Ty) → List HeadParam → List Given
stars tops [] = []
stars tops (p ∷ ps) = record { var = p.var; arg = Star; top = tops p } ∷ stars tops ps

-- the bound, or that of the parameter that it leads to, is taken upwards with a star in the place of each parameter of the class; an argument
-- that is such a parameter is a star then, where it gives values; where it takes them, it is `Nothing` or what contains that. Bounds lead to
-- no more parameters than the class has. A function type has no projections: its result is taken upwards and its parameters downwards, where
-- a star gives its own parameter's bound. Bounds that lead on so may lead back, as `T : () -> T`: they are followed as often as the class
-- has parameters, and then a star is `Any?`.
abbrev pub star_at : ℕ → Heads → ℕ → HeadParam → Ty
star_at zero h c p = anything h
star_at (suc n) h c p = up h (stars (star_at n h c) (h.params c)) (bared h (h.params c) (led (length (h.params c)) (h.params c) p.bound))

abbrev pub star_bound : Heads → ℕ → HeadParam → Ty
star_bound h c = star_at (length (h.params c)) h c

-- what each parameter of a class stands for in a type of that class
abbrev pub given_all : (HeadParam → Ty) → List HeadParam → Args → List Given
given_all tops [] xs = []
given_all tops (p ∷ ps) none = []
given_all tops (p ∷ ps) (more a xs) = record { var = p.var; arg = a; top = tops p } ∷ given_all tops ps xs

-- an argument as its parameter's variance has it: a projection that says what the variance says is the type itself, and one against
-- it a star
abbrev pub reduced : Variance → Arg → Arg
reduced Invariant a = a
reduced Covariant (Exact t) = Exact t
reduced Covariant (Out t) = Exact t
reduced Covariant (In t) = Star
reduced Covariant Star = Star
reduced Contravariant (Exact t) = Exact t
reduced Contravariant (Out t) = Star
reduced Contravariant (In t) = Exact t
reduced Contravariant Star = Star

abbrev pub reduced_args : List HeadParam → Args → Args
reduced_args [] xs = xs
reduced_args (p ∷ ps) none = none
reduced_args (p ∷ ps) (more a xs) = more (reduced p.variance a) (reduced_args ps xs)

abbrev pub class_given : Heads → ℕ → Args → List Given
class_given h c xs = given_all (star_bound h c) (h.params c) (reduced_args (h.params c) xs)
