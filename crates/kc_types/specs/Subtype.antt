-- Subtyping (Kotlin Language Specification 1.9, "Subtyping"): the least relation with its ten rules, and a recursion that has no
-- rule of transitivity.
use Rattle.std.specs.Prelude.{ℕ, zero, suc, Bool, true, false, nat_eq, List, [], ◌∷◌, ◌&&◌, ◌||◌, map, ◌++◌}
use Rattle.kc_types.specs.Types.{Ty, Class, Param, Nothing, Nullable, Arg, Exact, Out, In, Star, Args, none, more, Variance, Invariant, Covariant, Contravariant, HeadParam, Heads, Given, anything, up, star_bound, class_given}
use Rattle.kc_types.specs.Supertypes.{Supertype, above, is_class}

-- an argument as its parameter's variance has it: a projection against it is a star
abbrev pub read : Variance → Arg → Arg
read Invariant a = a
read Covariant (Exact t) = Out t
read Covariant (Out t) = Out t
read Covariant (In t) = Star
read Covariant Star = Star
read Contravariant (Exact t) = In t
read Contravariant (Out t) = Star
read Contravariant (In t) = In t
read Contravariant Star = Star

-- the first type is below the second
mutual
  pub data Sub (h : Heads) : Ty → Ty → Type 0 where
    same : {a : Ty} → Sub h a a
    through : {a m b : Ty} → Sub h a m → Sub h m b → Sub h a b
    nothing : {b : Ty} → Sub h Nothing b
    any : {a : Ty} → Sub h a (anything h)
    null : {a : Ty} → Sub h a (Nullable a)
    nulls : {a b : Ty} → Sub h a (Nullable b) → Sub h (Nullable a) (Nullable b)
    object : {c : ℕ} {xs : Args} → Sub h (Class c xs) (Class h.any none)
    super : {c : ℕ} {xs : Args} {t : Ty} → Supertype h c t → Sub h (Class c xs) (up h (class_given h c xs) t)
    arguments : {c : ℕ} {xs ys : Args} → All h (star_bound h c) (h.params c) xs ys → Sub h (Class c xs) (Class c ys)
    bound : {x : ℕ} → Sub h (Param x) (h.bound_of x)

  -- each argument of the first list is contained in that of the second
  pub data All (h : Heads) : (HeadParam → Ty) → List HeadParam → Args → Args → Type 0 where
    end : {tops : HeadParam → Ty} → All h tops [] none none
    next : {tops : HeadParam → Ty} {p : HeadParam} {ps : List HeadParam} {a b : Arg} {xs ys : Args} →
        In_arg h (tops p) (read p.variance a) (read p.variance b) → All h tops ps xs ys → All h tops (p ∷ ps) (more a xs) (more b ys)

  -- the first argument is contained in the second, where this is the bound as a star reads it
  pub data In_arg (h : Heads) : Ty → Arg → Arg → Type 0 where
    star : {top : Ty} {a : Arg} → In_arg h top a Star
    out_exact : {top a b : Ty} → Sub h a b → In_arg h top (Exact a) (Out b)
    out_out : {top a b : Ty} → Sub h a b → In_arg h top (Out a) (Out b)
    out_in : {top a b : Ty} → Sub h top b → In_arg h top (In a) (Out b)
    out_star : {top b : Ty} → Sub h top b → In_arg h top Star (Out b)
    in_exact : {top a b : Ty} → Sub h b a → In_arg h top (Exact a) (In b)
    in_in : {top a b : Ty} → Sub h b a → In_arg h top (In a) (In b)
    exact : {top a b : Ty} → Sub h a b → Sub h b a → In_arg h top (Exact a) (Exact b)

-- one level of the decision, where `go` decides the levels below
abbrev pub contains_with : (Ty → Ty → Bool) → Ty → Arg → Arg → Bool
contains_with go top a Star = true
contains_with go top (Exact a) (Out b) = go a b
contains_with go top (Out a) (Out b) = go a b
contains_with go top (In a) (Out b) = go top b
contains_with go top Star (Out b) = go top b
contains_with go top (Exact a) (In b) = go b a
contains_with go top (In a) (In b) = go b a
contains_with go top (Out a) (In b) = false
contains_with go top Star (In b) = false
contains_with go top (Exact a) (Exact b) = go a b && go b a
contains_with go top (Out a) (Exact b) = false
contains_with go top (In a) (Exact b) = false
contains_with go top Star (Exact b) = false

abbrev pub all_with : (Ty → Ty → Bool) → (HeadParam → Ty) → List HeadParam → Args → Args → Bool
all_with go tops [] none none = true
all_with go tops (p ∷ ps) (more a xs) (more b ys) =
    contains_with go (tops p) (read p.variance a) (read p.variance b) && all_with go tops ps xs ys
all_with go tops [] (more a xs) ys = false
all_with go tops [] none (more b ys) = false
all_with go tops (p ∷ ps) none ys = false
all_with go tops (p ∷ ps) (more a xs) none = false

-- before a supertype is taken, an argument may give way to one that contains it: any to `out` of its parameter's bound, which a star
-- stands for, and a type to `in` of itself, which leaves that bound in place of the type where the type is beyond it. The supertypes
-- would else lose the bound.
abbrev pub options : Variance → Ty → Arg → List Arg
options Contravariant top a = a ∷ []
options Covariant top a = a ∷ Out top ∷ []
options Invariant top (Exact t) = Exact t ∷ In t ∷ Out top ∷ []
options Invariant top (Out t) = Out t ∷ Out top ∷ []
options Invariant top (In t) = In t ∷ Out top ∷ []
options Invariant top Star = Star ∷ Out top ∷ []

abbrev pub each_first : List Arg → List Args → List Args
each_first [] xss = []
each_first (a ∷ rest) xss = map (λ xs. more a xs) xss ++ each_first rest xss

abbrev pub choices : (HeadParam → Ty) → List HeadParam → Args → List Args
choices tops [] none = none ∷ []
choices tops [] (more a xs) = []
choices tops (p ∷ ps) none = []
choices tops (p ∷ ps) (more a xs) = each_first (options p.variance (tops p) a) (choices tops ps xs)

-- a function type's arguments stay types
abbrev pub choices_by : Bool → (HeadParam → Ty) → List HeadParam → Args → List Args
choices_by true tops ps xs = xs ∷ []
choices_by false tops ps xs = choices tops ps xs

abbrev pub class_choices : Heads → ℕ → Args → List Args
class_choices h c xs = choices_by (h.is_function c) (star_bound h c) (h.params c) xs

-- on from one of these supertypes, if it is of another class
abbrev pub above_with : (Ty → Ty → Bool) → Heads → List Given → ℕ → Ty → List Ty → Bool
above_with go h gs c b [] = false
above_with go h gs c b (t ∷ ts) = elim (is_class c t) [ true ↦ false | false ↦ go (up h gs t) b ] || above_with go h gs c b ts

-- by its own arguments where the class is the same, or on from a supertype: each class on the way has bounds of its own
abbrev pub fits_with : (Ty → Ty → Bool) → Heads → ℕ → Args → ℕ → Args → Bool
fits_with go h c xs d ys = elim (nat_eq c d) [ true ↦ all_with go (star_bound h c) (h.params c) xs ys | false ↦ false ] || above_with go h (class_given h c xs) c (Class d ys) (above h c)

abbrev pub any_fits : (Ty → Ty → Bool) → Heads → ℕ → List Args → ℕ → Args → Bool
any_fits go h c [] d ys = false
any_fits go h c (xs ∷ xss) d ys = fits_with go h c xs d ys || any_fits go h c xss d ys

abbrev pub is_empty : Args → Bool
is_empty none = true
is_empty (more a xs) = false

-- a class type that isn't null below this one
abbrev pub class_with : (Ty → Ty → Bool) → Heads → ℕ → Args → Ty → Bool
class_with go h c xs (Class d ys) = (nat_eq d h.any && is_empty ys) || any_fits go h c (class_choices h c xs) d ys
class_with go h c xs (Param x) = false
class_with go h c xs Nothing = false
class_with go h c xs (Nullable b) = go (Class c xs) b

abbrev pub is_param : ℕ → Ty → Bool
is_param x (Param y) = nat_eq x y
is_param x (Nullable (Param y)) = nat_eq x y
is_param x (Nullable _) = false
is_param x (Class c xs) = false
is_param x Nothing = false

abbrev pub is_anything : Heads → Ty → Bool
is_anything h (Nullable (Class c none)) = nat_eq c h.any
is_anything h (Nullable (Class c (more a xs))) = false
is_anything h (Nullable (Nullable t)) = false
is_anything h (Nullable (Param x)) = false
is_anything h (Nullable Nothing) = false
is_anything h (Class c xs) = false
is_anything h (Param x) = false
is_anything h Nothing = false

abbrev pub null_with : (Ty → Ty → Bool) → Ty → Ty → Bool
null_with go a (Nullable b) = go a (Nullable b)
null_with go a (Class c xs) = false
null_with go a (Param x) = false
null_with go a Nothing = false

abbrev pub layer : (Ty → Ty → Bool) → Heads → Ty → Ty → Bool
layer go h Nothing b = true
layer go h (Nullable a) b = null_with go a b
layer go h (Param x) b = is_param x b || go (h.bound_of x) b
layer go h (Class c xs) b = class_with go h c xs b

-- a is below b by a derivation at most n high
abbrev pub below : ℕ → Heads → Ty → Ty → Bool
below zero h a b = false
below (suc n) h a b = let rest = layer (below n h) h a b in is_anything h b || rest

-- the same recursion, which says yes where its height is spent: what it refuses at some height is below at none
abbrev pub perhaps : ℕ → Heads → Ty → Ty → Bool
perhaps zero h a b = true
perhaps (suc n) h a b = let rest = layer (perhaps n h) h a b in is_anything h b || rest
