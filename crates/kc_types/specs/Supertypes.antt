-- The supertypes of a class.
use Rattle.std.specs.Prelude.{ℕ, zero, suc, ◌<◌, ◌≤◌, Bool, false, nat_eq, List, [], ◌∷◌, ◌++◌, map, Option, Some, None, cond}
use Rattle.kc_types.specs.Types.{Ty, Class, Param, Nothing, Nullable, Arg, Exact, Out, In, Star, Args, none, more, HeadParam, Heads, nullable}

pub data IsIn (A : Type 0) : A → List A → Type 0 where
  here : {t : A} {ts : List A} → IsIn A t (t ∷ ts)
  later : {t s : A} {ts : List A} → IsIn A t ts → IsIn A t (s ∷ ts)

-- the type that stands for a parameter of a class, where this argument does
abbrev pub type_in : ℕ → Arg → Ty
type_in x (Exact t) = t
type_in x (Out t) = Param x
type_in x (In t) = Param x
type_in x Star = Param x

abbrev pub put_in : List HeadParam → Args → ℕ → Ty
put_in [] xs x = Param x
put_in (p ∷ ps) none x = Param x
put_in (p ∷ ps) (more a xs) x = cond (nat_eq p.var x) (type_in x a) (put_in ps xs x)

-- a type with types put in for its parameters
abbrev mutual
  pub put : (ℕ → Ty) → Ty → Ty
  put s (Class c xs) = Class c (put_args s xs)
  put s (Param x) = s x
  put s Nothing = Nothing
  put s (Nullable t) = nullable (put s t)

  pub put_arg : (ℕ → Ty) → Arg → Arg
  put_arg s (Exact t) = Exact (put s t)
  put_arg s (Out t) = Out (put s t)
  put_arg s (In t) = In (put s t)
  put_arg s Star = Star

  pub put_args : (ℕ → Ty) → Args → Args
  put_args s none = none
  put_args s (more a xs) = more (put_arg s a) (put_args s xs)

-- a class's parameters as its arguments
abbrev pub own_args : List HeadParam → Args
own_args [] = none
own_args (p ∷ ps) = more (Exact (Param p.var)) (own_args ps)

abbrev pub own_type : Heads → ℕ → Ty
own_type h c = Class c (own_args (h.params c))

-- the supertypes of a class over its own parameters: the least set that has the class itself and, with each class type, the
-- direct supertypes of its class with the arguments put in
pub data Supertype (h : Heads) (c : ℕ) : Ty → Type 0 where
  own : Supertype h c (own_type h c)
  next : {d : ℕ} {xs : Args} {s : Ty} → Supertype h c (Class d xs) → IsIn Ty s (h.supers d) → Supertype h c (put (put_in (h.params d) xs) s)

-- the same set as a list, by recursion along the classes
abbrev pub all_above : (ℕ → Args → List Ty) → List Ty → List Ty
all_above go [] = []
all_above go (Class d xs ∷ ts) = go d xs ++ all_above go ts
all_above go (Param x ∷ ts) = Param x ∷ all_above go ts
all_above go (Nothing ∷ ts) = Nothing ∷ all_above go ts
all_above go (Nullable t ∷ ts) = Nullable t ∷ all_above go ts

abbrev pub above_at : ℕ → Heads → ℕ → Args → List Ty
above_at zero h c xs = Class c xs ∷ []
above_at (suc n) h c xs = Class c xs ∷ all_above (λ d ys. above_at n h d ys) (map (λ s. put (put_in (h.params c) xs) s) (h.supers c))

abbrev pub above : Heads → ℕ → List Ty
above h c = above_at h.classes h c (own_args (h.params c))

-- the supertype of this class
abbrev pub is_class : ℕ → Ty → Bool
is_class d (Class c xs) = nat_eq c d
is_class d (Param x) = false
is_class d Nothing = false
is_class d (Nullable t) = false

abbrev pub at_class : ℕ → List Ty → Option Ty
at_class d [] = None
at_class d (t ∷ ts) = cond (is_class d t) (Some t) (at_class d ts)

-- a class's supertype of this class, over the class's parameters
abbrev pub instance : Heads → ℕ → ℕ → Option Ty
instance h c d = at_class d (above h c)

-- ---- hierarchies in which no class leads back to itself

abbrev pub RanksBelow : (ℕ → ℕ) → ℕ → Ty → Type 0
RanksBelow rank n (Class d xs) = rank d < n
RanksBelow rank n (Param x) = ⊥
RanksBelow rank n Nothing = ⊥
RanksBelow rank n (Nullable t) = ⊥

-- each class has a rank, which is at most the number of classes, and its direct supertypes are class types of classes of lower rank; numbers
-- that no class has are taken with the classes here
pub record Acyclic (h : Heads) : Type 0 where
  pub rank : ℕ → ℕ
  pub within : (c : ℕ) → rank c ≤ h.classes
  pub lower : (c : ℕ) (s : Ty) → IsIn Ty s (h.supers c) → RanksBelow rank (rank c) s
