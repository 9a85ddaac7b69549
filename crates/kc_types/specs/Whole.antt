-- The core as a part of the whole: its types are types without projections, its heads a part of other heads.
use Rattle.std.specs.Prelude.{◌≡◌, ℕ, zero, suc, false, List, [], ◌∷◌, map, ◌⊎◌}
use Rattle.kc_types.specs.Types.{Ty, Class, Param, Nothing, Nullable, Exact, Args, none, more, Variance, Invariant, Covariant, Contravariant, HeadParam, Heads, nullable}
use Rattle.kc_types.specs.Supertypes.{IsIn}
use Rattle.kc_types.specs.Formed.{Different}
use Rattle.kc_types.specs.Core as core

-- a type of the core, with these types at its places
abbrev mutual
  pub whole : (ℕ → Ty) → core.Ty → Ty
  whole s (core.Class c xs) = Class c (whole_args s xs)
  whole s (core.Hole k) = s k
  whole s core.Nothing = Nothing
  whole s (core.Nullable t) = nullable (whole s t)

  pub whole_args : (ℕ → Ty) → core.Args → Args
  whole_args s core.none = none
  whole_args s (core.more t xs) = more (Exact (whole s t)) (whole_args s xs)

abbrev pub whole_variance : core.Variance → Variance
whole_variance core.Inv = Invariant
whole_variance core.Cov = Covariant
whole_variance core.Contra = Contravariant

-- as many parameters as variances, each of its variance
abbrev pub Matches : List HeadParam → List core.Variance → Type 0
Matches [] [] = Unit {0}
Matches (p ∷ ps) (v ∷ vs) = (p.variance ≡ whole_variance v) × Matches ps vs
Matches [] (v ∷ vs) = ⊥
Matches (p ∷ ps) [] = ⊥

-- the type parameter at a place
abbrev pub parameter_at : List HeadParam → ℕ → Ty
parameter_at [] k = Nothing
parameter_at (p ∷ ps) zero = Param p.var
parameter_at (p ∷ ps) (suc k) = parameter_at ps k

-- each class of the core has its parameters' variances, which may have bounds, and its direct supertypes, with others beside them; the class
-- of all objects need not be among them, since it is above each class in any case. So a number that is no class's may have it above in
-- the core, and nothing in the whole
pub record CoreOf (h : Heads) (part : core.Heads) : Type 0 where
  pub variances : (c : ℕ) → Matches (h.params c) (part.vars c)
  pub different : (c : ℕ) → Different (h.params c)
  pub supers : (c : ℕ) (s : core.Super) → IsIn core.Super s (part.supers c) → (s.class ≡ part.any) ⊎ IsIn Ty (Class s.class (whole_args (parameter_at (h.params c)) s.args)) (h.supers c)
  pub any : part.any ≡ h.any

-- heads of which the core's are a part: a class's parameters are numbered from 0, with the bound `Any?`
abbrev pub numbered : ℕ → ℕ → List core.Variance → List HeadParam
numbered any n [] = []
numbered any n (v ∷ vs) = record { var = n; variance = whole_variance v; bound = Nullable (Class any none) } ∷ numbered any (suc n) vs

abbrev pub whole_super : List HeadParam → core.Super → Ty
whole_super ps s = Class s.class (whole_args (parameter_at ps) s.args)

abbrev pub whole_heads : ℕ → core.Heads → Heads
whole_heads n part = record {
  classes = n;
  params = λ c. numbered part.any 0 (part.vars c);
  supers = λ c. map (whole_super (numbered part.any 0 (part.vars c))) (part.supers c);
  vars = 0;
  bound_of = λ x. Nullable (Class part.any none);
  any = part.any;
  is_function = λ c. false;
}
