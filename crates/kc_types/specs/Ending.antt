-- Hierarchies in which each question of subtyping comes to an end. Of formed types the limits say what their comments tell.
use Rattle.std.specs.Prelude.{◌≡◌, ℕ, ◌<◌, true, List, [], ◌∷◌}
use Rattle.kc_types.specs.Types.{Ty, Class, Param, Nothing, Nullable, Arg, Exact, Out, In, Star, Args, none, more, Variance, Invariant, Covariant, Contravariant, HeadParam, Heads, star_bound}
use Rattle.kc_types.specs.Supertypes.{IsIn, Supertype}

abbrev pub Not_in : Variance → Type 0
Not_in Invariant = Unit {0}
Not_in Covariant = Unit {0}
Not_in Contravariant = ⊥

-- a type parameter, a class without parameters, or a star
abbrev pub Simple : Arg → Type 0
Simple (Exact (Param x)) = Unit {0}
Simple (Exact (Class c none)) = Unit {0}
Simple (Exact (Class c (more a xs))) = ⊥
Simple (Exact Nothing) = ⊥
Simple (Exact (Nullable t)) = ⊥
Simple (Out t) = ⊥
Simple (In t) = ⊥
Simple Star = Unit {0}

module _ (h : Heads) where
  -- types that name no `in` projection and no class with an `in` parameter
  abbrev mutual
    pub Without_in : Ty → Type 0
    Without_in (Class c xs) = Args_without_in (h.params c) xs
    Without_in (Param x) = Unit {0}
    Without_in Nothing = Unit {0}
    Without_in (Nullable t) = Without_in t

    pub Arg_without_in : Arg → Type 0
    Arg_without_in (Exact t) = Without_in t
    Arg_without_in (Out t) = Without_in t
    Arg_without_in (In t) = ⊥
    Arg_without_in Star = Unit {0}

    pub Args_without_in : List HeadParam → Args → Type 0
    Args_without_in [] xs = Unit {0}
    Args_without_in (p ∷ ps) none = Unit {0}
    Args_without_in (p ∷ ps) (more a xs) = Not_in p.variance × Arg_without_in a × Args_without_in ps xs

  -- an argument of an `in` parameter is simple, and any other one names no `in`
  abbrev pub Limited_arg : Variance → Arg → Type 0
  Limited_arg Contravariant a = Simple a
  Limited_arg Covariant a = Arg_without_in a
  Limited_arg Invariant a = Arg_without_in a

  abbrev pub Limited_args : List HeadParam → Args → Type 0
  Limited_args [] xs = Unit {0}
  Limited_args (p ∷ ps) none = Unit {0}
  Limited_args (p ∷ ps) (more a xs) = Limited_arg p.variance a × Limited_args ps xs

  abbrev pub Limited : Ty → Type 0
  Limited (Class c xs) = Limited_args (h.params c) xs
  Limited (Param x) = Unit {0}
  Limited Nothing = Unit {0}
  Limited (Nullable t) = Limited t

  -- the arguments are type parameters
  abbrev pub Own_arg : Arg → Type 0
  Own_arg (Exact (Param x)) = Unit {0}
  Own_arg (Exact (Class c xs)) = ⊥
  Own_arg (Exact Nothing) = ⊥
  Own_arg (Exact (Nullable t)) = ⊥
  Own_arg (Out t) = ⊥
  Own_arg (In t) = ⊥
  Own_arg Star = ⊥

  abbrev pub Own_args : Args → Type 0
  Own_args none = Unit {0}
  Own_args (more a xs) = Own_arg a × Own_args xs

  -- a class that passes its parameters on to its supertypes as they are, and is no function with any
  abbrev pub Passes_on : ℕ → Type 0
  Passes_on c = (d : ℕ) (xs : Args) → Supertype h c (Class d xs) → Own_args xs × (h.is_function d ≡ true → xs ≡ none)

  abbrev pub For_out : Variance → Type 0 → Type 0
  For_out Covariant A = A
  For_out Invariant A = ⊥
  For_out Contravariant A = ⊥

  abbrev pub Unless_in : Variance → Type 0 → Type 0
  Unless_in Covariant A = A
  Unless_in Invariant A = A
  Unless_in Contravariant A = Unit {0}

  -- types of such classes whose arguments say no more than `out` of such a type, or nothing
  abbrev mutual
    pub Loose : Ty → Type 0
    Loose (Class c xs) = Passes_on c × Loose_args (h.params c) xs
    Loose (Nullable t) = Loose t
    Loose (Param x) = ⊥
    Loose Nothing = ⊥

    pub Loose_arg : Variance → Arg → Type 0
    Loose_arg v (Exact t) = For_out v (Loose t)
    Loose_arg v (Out t) = Unless_in v (Loose t)
    Loose_arg v (In t) = For_out v (Unit {0})
    Loose_arg v Star = Unit {0}

    pub Loose_args : List HeadParam → Args → Type 0
    Loose_args [] none = Unit {0}
    Loose_args (p ∷ ps) (more a xs) = Loose_arg p.variance a × Loose_args ps xs
    Loose_args [] (more a xs) = ⊥
    Loose_args (p ∷ ps) none = ⊥

-- bounds that are parameters, with `?` or not, are of parameters that lie less deep
abbrev pub Less_deep : (ℕ → ℕ) → ℕ → Ty → Type 0
Less_deep depth n (Param y) = depth y < n
Less_deep depth n (Nullable t) = Less_deep depth n t
Less_deep depth n (Class c xs) = Unit {0}
Less_deep depth n Nothing = Unit {0}

-- supertypes and bounds keep the limits on `in`; bounds that are parameters don't lead back; and a bound of a class's parameter, as a star reads
-- it, is loose, as `Any?`, `Comparable<*>` and `List<Any>` are
pub record Ending (h : Heads) : Type 0 where
  pub limited : (c : ℕ) (t : Ty) → Supertype h c t → Limited h t
  pub bound_limited : (x : ℕ) → Limited h (h.bound_of x)
  pub depth : ℕ → ℕ
  pub less_deep : (x : ℕ) → Less_deep depth (depth x) (h.bound_of x)
  pub star_limited : (c : ℕ) (p : HeadParam) → IsIn HeadParam p (h.params c) → Limited h (star_bound h c p)
  pub star_loose : (c : ℕ) (p : HeadParam) → IsIn HeadParam p (h.params c) → Loose h (star_bound h c p)
