-- The positions of a type in which its parameters may stand (Kotlin Language Specification 1.9, "Declaration-site variance"), and
-- lists of arguments within their bounds.
use Rattle.std.specs.Prelude.{◌≡◌, ℕ, true, nat_eq, List, [], ◌∷◌, cond}
use Rattle.kc_types.specs.Types.{Ty, Class, Param, Nothing, Nullable, Arg, Exact, Out, In, Star, Args, none, more, Variance, Invariant, Covariant, Contravariant, HeadParam, Heads}
use Rattle.kc_types.specs.Supertypes.{put}
use Rattle.kc_types.specs.Subtype.{Sub}

-- a position in an argument of a parameter of the second variance, where the type stands in a position of the first
abbrev pub position : Variance → Variance → Variance
position Covariant v = v
position Invariant v = Invariant
position Contravariant Covariant = Contravariant
position Contravariant Contravariant = Covariant
position Contravariant Invariant = Invariant

-- a parameter of the first variance may stand in a position of the second
abbrev pub May : Variance → Variance → Type 0
May Invariant q = Unit {0}
May Covariant Covariant = Unit {0}
May Covariant Contravariant = ⊥
May Covariant Invariant = ⊥
May Contravariant Contravariant = Unit {0}
May Contravariant Covariant = ⊥
May Contravariant Invariant = ⊥

-- each parameter stands in a type only where its variance lets it: behind `in` the position turns round, behind `out` it stays, and an argument
-- without either is in the position of its parameter; each class has as many arguments as parameters
module _ (h : Heads) (variance : ℕ → Variance) where
  abbrev mutual
    pub Stands : Variance → Ty → Type 0
    Stands q (Class c xs) = All_stand q (h.params c) xs
    Stands q (Param x) = May (variance x) q
    Stands q Nothing = Unit {0}
    Stands q (Nullable t) = Stands q t

    pub Arg_stands : Variance → Variance → Arg → Type 0
    Arg_stands q v (Exact t) = Stands (position q v) t
    Arg_stands q v (Out t) = Stands q t
    Arg_stands q v (In t) = Stands (position q Contravariant) t
    Arg_stands q v Star = Unit {0}

    pub All_stand : Variance → List HeadParam → Args → Type 0
    All_stand q [] none = Unit {0}
    All_stand q (p ∷ ps) (more a xs) = Arg_stands q p.variance a × All_stand q ps xs
    All_stand q [] (more a xs) = ⊥
    All_stand q (p ∷ ps) none = ⊥

-- the variance of a class's parameter; other parameters may stand anywhere
abbrev pub variance_in : List HeadParam → ℕ → Variance
variance_in [] x = Invariant
variance_in (p ∷ ps) x = cond (nat_eq p.var x) p.variance (variance_in ps x)

-- classes of functions have `in` and `out` parameters alone
abbrev pub Varies : List HeadParam → Type 0
Varies [] = Unit {0}
Varies (p ∷ ps) = ¬ (p.variance ≡ Invariant) × Varies ps

abbrev pub FunctionsVary : Heads → Type 0
FunctionsVary h = (c : ℕ) → h.is_function c ≡ true → Varies (h.params c)

-- the arguments are types, as many as parameters, below their parameters' bounds with these types put in
abbrev pub Bounded : Heads → (ℕ → Ty) → List HeadParam → Args → Type 0
Bounded h s [] none = Unit {0}
Bounded h s (p ∷ ps) (more (Exact t) xs) = Sub h t (put s p.bound) × Bounded h s ps xs
Bounded h s (p ∷ ps) (more (Out t) xs) = ⊥
Bounded h s (p ∷ ps) (more (In t) xs) = ⊥
Bounded h s (p ∷ ps) (more Star xs) = ⊥
Bounded h s (p ∷ ps) none = ⊥
Bounded h s [] (more a xs) = ⊥

-- the arguments, as far as there are parameters, are types below their parameters' bounds as a star reads these
abbrev pub Within : Heads → (HeadParam → Ty) → List HeadParam → Args → Type 0
Within h tops [] xs = Unit {0}
Within h tops (p ∷ ps) none = Unit {0}
Within h tops (p ∷ ps) (more (Exact t) xs) = Sub h t (tops p) × Within h tops ps xs
Within h tops (p ∷ ps) (more (Out t) xs) = ⊥
Within h tops (p ∷ ps) (more (In t) xs) = ⊥
Within h tops (p ∷ ps) (more Star xs) = ⊥
