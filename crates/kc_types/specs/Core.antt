-- The core of subtyping: classes with declared variance and any supertypes, function types among them, `Nothing`, `?`, `Any?`, and
-- places, which are type parameters without bounds; no projections. `Alg n` is the relation without a rule of transitivity, by derivations
-- at most n high.
use Rattle.std.specs.Prelude.{◌≡◌, ℕ, zero, suc, List, [], ◌∷◌, Option, Some, None, ◌⊎◌}
use Rattle.kc_types.specs.Supertypes.{IsIn}

mutual
  pub data Ty : Type 0 where
    Class : (c : ℕ) (args : Args) → Ty
    Hole : (k : ℕ) → Ty
    Nothing : Ty
    Nullable : (t : Ty) → Ty

  pub data Args : Type 0 where
    none : Args
    more : (t : Ty) (rest : Args) → Args

pub data Variance : Type 0 where
  Inv Cov Contra : Variance

-- a direct supertype: its class, and its arguments over the places of the class that has it
pub record Super : Type 0 where
  pub class : ℕ
  pub args : Args

-- the parameters' variances, the direct supertypes, and where to find a class's arguments at a superclass
pub record Heads : Type 0 where
  pub vars : ℕ → List Variance
  pub supers : ℕ → List Super
  pub above : ℕ → ℕ → Option Args
  pub any : ℕ

abbrev mutual
  pub put : (ℕ → Ty) → Ty → Ty
  put s (Class c xs) = Class c (puts s xs)
  put s (Hole k) = s k
  put s Nothing = Nothing
  put s (Nullable t) = Nullable (put s t)

  pub puts : (ℕ → Ty) → Args → Args
  puts s none = none
  puts s (more t xs) = more (put s t) (puts s xs)

abbrev pub at : Args → ℕ → Ty
at none k = Nothing
at (more t xs) zero = t
at (more t xs) (suc k) = at xs k

-- related as a parameter's variance says
abbrev pub By : (Ty → Ty → Type 0) → Variance → Ty → Ty → Type 0
By R Cov a b = R a b
By R Contra a b = R b a
By R Inv a b = R a b × R b a

abbrev pub Each : (Ty → Ty → Type 0) → List Variance → Args → Args → Type 0
Each R [] none none = Unit {0}
Each R (v ∷ vs) (more a xs) (more b ys) = By R v a b × Each R vs xs ys
Each R [] none (more b ys) = ⊥
Each R [] (more a xs) ys = ⊥
Each R (v ∷ vs) none ys = ⊥
Each R (v ∷ vs) (more a xs) none = ⊥

abbrev pub Step : Heads → (Ty → Ty → Type 0) → Ty → Ty → Type 0
Step h R Nothing b = Unit {0}
Step h R (Nullable a) (Nullable b) = R a (Nullable b)
Step h R (Nullable a) (Class d ys) = ⊥
Step h R (Nullable a) (Hole j) = ⊥
Step h R (Nullable a) Nothing = ⊥
Step h R (Hole k) (Hole j) = k ≡ j
Step h R (Hole k) (Nullable b) = R (Hole k) b ⊎ (b ≡ Class h.any none)
Step h R (Hole k) (Class d ys) = ⊥
Step h R (Hole k) Nothing = ⊥
Step h R (Class c xs) (Class d ys) = (zs : Args) × (h.above c d ≡ Some zs) × Each R (h.vars d) (puts (at xs) zs) ys
Step h R (Class c xs) (Nullable b) = R (Class c xs) b
Step h R (Class c xs) (Hole j) = ⊥
Step h R (Class c xs) Nothing = ⊥

abbrev pub Alg : ℕ → Heads → Ty → Ty → Type 0
Alg zero h a b = ⊥
Alg (suc n) h a b = Step h (Alg n h) a b

abbrev pub Below : Heads → Ty → Ty → Type 0
Below h a b = (n : ℕ) × Alg n h a b

abbrev pub compose : Variance → Variance → Variance
compose Cov v = v
compose Inv v = Inv
compose Contra Inv = Inv
compose Contra Cov = Contra
compose Contra Contra = Cov

abbrev pub first : List Variance → Variance
first [] = Inv
first (v ∷ vs) = v

abbrev pub rest : List Variance → List Variance
rest [] = []
rest (v ∷ vs) = vs

-- at each place of a type, what is put there on one side and on the other are related as the place's variance says
module _ (h : Heads) (R : Ty → Ty → Type 0) (s t : ℕ → Ty) where
  abbrev mutual
    pub Under : Variance → Ty → Type 0
    Under p (Class c xs) = Unders p (h.vars c) xs
    Under p (Hole k) = By R p (s k) (t k)
    Under p Nothing = Unit {0}
    Under p (Nullable a) = Under p a

    pub Unders : Variance → List Variance → Args → Type 0
    Unders p vs none = Unit {0}
    Unders p vs (more a xs) = Under (compose p (first vs)) a × Unders p (rest vs) xs

-- ---- which heads are valid

abbrev pub next_place : ℕ → Ty
next_place k = Hole (suc k)

-- a class's parameters as its arguments
abbrev pub own_args : List Variance → Args
own_args [] = none
own_args (v ∷ vs) = more (Hole zero) (puts next_place (own_args vs))

-- the supertypes of a class over its own places: the least set that has the class itself and, with each class, the direct
-- supertypes of that class with the arguments put in
pub data Supertype (h : Heads) (c : ℕ) : ℕ → Args → Type 0 where
  own : Supertype h c c (own_args (h.vars c))
  next : {d : ℕ} {zs : Args} {s : Super} → Supertype h c d zs → IsIn Super s (h.supers d) → Supertype h c s.class (puts (at zs) s.args)

abbrev pub variance_at : List Variance → ℕ → Option Variance
variance_at [] k = None
variance_at (v ∷ vs) zero = Some v
variance_at (v ∷ vs) (suc k) = variance_at vs k

-- a parameter of the first variance may stand in a position of the second
abbrev pub May : Option Variance → Variance → Type 0
May None q = ⊥
May (Some Inv) q = Unit {0}
May (Some Cov) Cov = Unit {0}
May (Some Cov) Contra = ⊥
May (Some Cov) Inv = ⊥
May (Some Contra) Contra = Unit {0}
May (Some Contra) Cov = ⊥
May (Some Contra) Inv = ⊥

module _ (h : Heads) where
  -- each parameter of a class stands only where its variance lets it
  abbrev mutual
    pub Stand : List Variance → Variance → Ty → Type 0
    Stand vs q (Class c xs) = Stand_all vs q (h.vars c) xs
    Stand vs q (Hole k) = May (variance_at vs k) q
    Stand vs q Nothing = Unit {0}
    Stand vs q (Nullable t) = Stand vs q t

    pub Stand_all : List Variance → Variance → List Variance → Args → Type 0
    Stand_all vs q cs none = Unit {0}
    Stand_all vs q cs (more x xs) = Stand vs (compose q (first cs)) x × Stand_all vs q (rest cs) xs

  -- each class has as many arguments as parameters
  abbrev mutual
    pub Kinded : Ty → Type 0
    Kinded (Class c xs) = All_kinded (h.vars c) xs
    Kinded (Hole k) = Unit {0}
    Kinded Nothing = Unit {0}
    Kinded (Nullable t) = Kinded t

    pub All_kinded : List Variance → Args → Type 0
    All_kinded [] none = Unit {0}
    All_kinded (v ∷ vs) (more a xs) = Kinded a × All_kinded vs xs
    All_kinded [] (more a xs) = ⊥
    All_kinded (v ∷ vs) none = ⊥

-- each class has one instance of each of its superclasses, which is where the heads say; direct supertypes keep declared variance,
-- and have as many arguments as parameters; the class of all objects is among each class's supertypes, an interface's too, and has
-- neither parameters nor supertypes
pub record Valid (h : Heads) : Type 0 where
  pub found : (c e : ℕ) (ws : Args) → h.above c e ≡ Some ws → Supertype h c e ws
  pub one : (c e : ℕ) (ws : Args) → Supertype h c e ws → h.above c e ≡ Some ws
  pub stand : (d : ℕ) (s : Super) → IsIn Super s (h.supers d) → Stand_all h (h.vars d) Cov (h.vars s.class) s.args
  pub kinded : (d : ℕ) (s : Super) → IsIn Super s (h.supers d) → All_kinded h (h.vars s.class) s.args
  pub top : (c : ℕ) → Supertype h c h.any none
  pub plain : h.vars h.any ≡ []
  pub alone : h.supers h.any ≡ []

-- ---- the relation by rules, transitivity among them
mutual
  pub data Sub (h : Heads) : Ty → Ty → Type 0 where
    same : {a : Ty} → Kinded h a → Sub h a a
    through : {a m b : Ty} → Sub h a m → Sub h m b → Sub h a b
    nothing : {b : Ty} → Sub h Nothing b
    any : {a : Ty} → Kinded h a → Sub h a (Nullable (Class h.any none))
    null : {a : Ty} → Kinded h a → Sub h a (Nullable a)
    nulls : {a b : Ty} → Sub h a (Nullable b) → Sub h (Nullable a) (Nullable b)
    super : {c d : ℕ} {xs zs : Args} → Supertype h c d zs → All_kinded h (h.vars c) xs → Sub h (Class c xs) (Class d (puts (at xs) zs))
    arguments : {c : ℕ} {xs ys : Args} → All_kinded h (h.vars c) xs → All h (h.vars c) xs ys → Sub h (Class c xs) (Class c ys)

  -- each argument of the first list is in that of the second, as the parameter's variance says
  pub data All (h : Heads) : List Variance → Args → Args → Type 0 where
    end : All h [] none none
    out_next : {vs : List Variance} {a b : Ty} {xs ys : Args} → Sub h a b → All h vs xs ys → All h (Cov ∷ vs) (more a xs) (more b ys)
    in_next : {vs : List Variance} {a b : Ty} {xs ys : Args} → Sub h b a → All h vs xs ys → All h (Contra ∷ vs) (more a xs) (more b ys)
    both_next : {vs : List Variance} {a b : Ty} {xs ys : Args} → Sub h a b → Sub h b a → All h vs xs ys → All h (Inv ∷ vs) (more a xs) (more b ys)
