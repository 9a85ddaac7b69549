-- Subtyping of formed types by way of formed types alone, and the heads over which the recursion misses none of it.
use Rattle.std.specs.Prelude.{◌≡◌, ℕ, true, List, [], ◌∷◌}
use Rattle.kc_types.specs.Types.{Ty, Class, Param, Nothing, Nullable, Arg, Exact, Out, In, Star, Args, none, more, Covariant, HeadParam, Heads, is_own, up, up_args, star_bound, class_given, anything}
use Rattle.kc_types.specs.Supertypes.{IsIn, Supertype, Acyclic}
use Rattle.kc_types.specs.Subtype.{read}
use Rattle.kc_types.specs.Formed.{Different, Exact_args, Formed}
use Rattle.kc_types.specs.Positions.{Stands, variance_in, FunctionsVary}

-- the rules of subtyping, where each type in the middle is formed
mutual
  pub data FormedSub (h : Heads) : Ty → Ty → Type 0 where
    same : {a : Ty} → FormedSub h a a
    through : {a m b : Ty} → Formed h m → FormedSub h a m → FormedSub h m b → FormedSub h a b
    nothing : {b : Ty} → FormedSub h Nothing b
    any : {a : Ty} → FormedSub h a (anything h)
    null : {a : Ty} → FormedSub h a (Nullable a)
    nulls : {a b : Ty} → FormedSub h a (Nullable b) → FormedSub h (Nullable a) (Nullable b)
    object : {c : ℕ} {xs : Args} → FormedSub h (Class c xs) (Class h.any none)
    super : {c : ℕ} {xs : Args} {t : Ty} → Supertype h c t → FormedSub h (Class c xs) (up h (class_given h c xs) t)
    arguments : {c : ℕ} {xs ys : Args} → FormedAll h (star_bound h c) (h.params c) xs ys → FormedSub h (Class c xs) (Class c ys)
    bound : {x : ℕ} → FormedSub h (Param x) (h.bound_of x)

  pub data FormedAll (h : Heads) : (HeadParam → Ty) → List HeadParam → Args → Args → Type 0 where
    end : {tops : HeadParam → Ty} → FormedAll h tops [] none none
    next : {tops : HeadParam → Ty} {p : HeadParam} {ps : List HeadParam} {a b : Arg} {xs ys : Args} →
        FormedIn h (tops p) (read p.variance a) (read p.variance b) → FormedAll h tops ps xs ys → FormedAll h tops (p ∷ ps) (more a xs) (more b ys)

  pub data FormedIn (h : Heads) : Ty → Arg → Arg → Type 0 where
    star : {top : Ty} {a : Arg} → FormedIn h top a Star
    out_exact : {top a b : Ty} → FormedSub h a b → FormedIn h top (Exact a) (Out b)
    out_out : {top a b : Ty} → FormedSub h a b → FormedIn h top (Out a) (Out b)
    out_in : {top a b : Ty} → FormedSub h top b → FormedIn h top (In a) (Out b)
    out_star : {top b : Ty} → FormedSub h top b → FormedIn h top Star (Out b)
    in_exact : {top a b : Ty} → FormedSub h b a → FormedIn h top (Exact a) (In b)
    in_in : {top a b : Ty} → FormedSub h b a → FormedIn h top (In a) (In b)
    exact : {top a b : Ty} → FormedSub h a b → FormedSub h b a → FormedIn h top (Exact a) (Exact b)

-- types that name no type parameters but these
module _ (ps : List HeadParam) where
  abbrev mutual
    pub Over : Ty → Type 0
    Over (Class c xs) = All_over xs
    Over (Param x) = is_own ps x ≡ true
    Over Nothing = Unit {0}
    Over (Nullable t) = Over t

    pub Arg_over : Arg → Type 0
    Arg_over (Exact t) = Over t
    Arg_over (Out t) = Over t
    Arg_over (In t) = Over t
    Arg_over Star = Unit {0}

    pub All_over : Args → Type 0
    All_over none = Unit {0}
    All_over (more a xs) = Arg_over a × All_over xs

-- a class type whose own arguments are types
abbrev pub Of_types : Ty → Type 0
Of_types (Class c xs) = Exact_args xs
Of_types (Param x) = ⊥
Of_types Nothing = ⊥
Of_types (Nullable t) = ⊥

-- no class leads back to itself; a class's direct supertypes are formed class types over its parameters, with types as arguments, in which
-- these stand where their variance lets them; bounds are formed; the class of all objects has neither parameters nor supertypes
pub record ValidHeads (h : Heads) : Type 0 where
  pub acyclic : Acyclic h
  pub different : (c : ℕ) → Different (h.params c)
  pub functions : FunctionsVary h
  pub formed : (c : ℕ) (s : Ty) → IsIn Ty s (h.supers c) → Formed h s
  pub types : (c : ℕ) (s : Ty) → IsIn Ty s (h.supers c) → Of_types s
  pub over : (c : ℕ) (s : Ty) → IsIn Ty s (h.supers c) → Over (h.params c) s
  pub stand : (c : ℕ) (s : Ty) → IsIn Ty s (h.supers c) → Stands h (variance_in (h.params c)) Covariant s
  pub class_bounds : (c : ℕ) (p : HeadParam) → IsIn HeadParam p (h.params c) → Formed h p.bound
  pub bounds : (x : ℕ) → Formed h (h.bound_of x)
  pub plain : h.params h.any ≡ []
  pub alone : h.supers h.any ≡ []

-- the arguments, as far as there are parameters, are formed types below their parameters' bounds as a star reads these
abbrev pub Kept : Heads → (HeadParam → Ty) → List HeadParam → Args → Type 0
Kept h tops [] xs = Unit {0}
Kept h tops (p ∷ ps) none = Unit {0}
Kept h tops (p ∷ ps) (more (Exact t) xs) = (Formed h t × Formed h (tops p) × FormedSub h t (tops p)) × Kept h tops ps xs
Kept h tops (p ∷ ps) (more (Out t) xs) = ⊥
Kept h tops (p ∷ ps) (more (In t) xs) = ⊥
Kept h tops (p ∷ ps) (more Star xs) = ⊥

-- so are those of its instance at each superclass
abbrev pub Keeps : Heads → ℕ → Args → Type 0
Keeps h e xs = (d : ℕ) (zs : Args) → Supertype h e (Class d zs) → Kept h (star_bound h d) (h.params d) (up_args h (class_given h e xs) (h.is_function d) (h.params d) zs)

-- each class has one instance of each of its superclasses
abbrev pub OneInstance : Heads → Type 0
OneInstance h = (c d : ℕ) (xs ys : Args) → Supertype h c (Class d xs) → Supertype h c (Class d ys) → xs ≡ ys
