-- What is proved of subtyping.
use Rattle.std.specs.Prelude.{◌≡◌, ℕ, ◌≤◌, true, List, Some}
use Rattle.kc_types.specs.Types.{Ty, Class, Args, Covariant, Contravariant, HeadParam, Heads, up, down, class_given, star_bound}
use Rattle.kc_types.specs.Supertypes.{IsIn, Supertype, put as put_types, put_in, above, instance, Acyclic}
use Rattle.kc_types.specs.Subtype.{Sub, All, choices, below, perhaps}
use Rattle.kc_types.specs.FormedSub.{FormedSub, ValidHeads, Keeps, OneInstance}
use Rattle.kc_types.specs.View.{view}
use Rattle.kc_types.specs.Formed.{Different, Exact_args, Formed}
use Rattle.kc_types.specs.Positions.{Stands, variance_in, FunctionsVary, Bounded, Within}
use Rattle.kc_types.specs.Core as core
use Rattle.kc_types.specs.Examples.{heads}
use Rattle.kc_types.specs.CoreExample.{example}
use Rattle.kc_types.specs.Core.{Valid, Kinded, All_kinded, Below, put, puts, at}
use Rattle.kc_types.specs.Whole.{whole, CoreOf, whole_heads}

-- what the recursion accepts is in the relation, in full: with projections, bounds and choices
abbrev pub BelowIsSound : Type 0
BelowIsSound = (n : ℕ) (h : Heads) (a b : Ty) → below n h a b ≡ true → Sub h a b

-- where no class leads back to itself, the list of a class's supertypes has just those of the least set
abbrev pub SupertypesAreListed : Type 0
SupertypesAreListed = (h : Heads) → Acyclic h → (c : ℕ) (t : Ty) → (Supertype h c t → IsIn Ty t (above h c)) × (IsIn Ty t (above h c) → Supertype h c t)

-- a class type is below its instance at a superclass, where projections are taken upwards
abbrev pub HasInstances : Type 0
HasInstances = (h : Heads) (c d : ℕ) (xs : Args) (t : Ty) → instance h c d ≡ Some t → Sub h (Class c xs) (up h (class_given h c xs) t)

-- what the recursion accepts at one height it accepts at each greater one
abbrev pub BelowGrows : Type 0
BelowGrows = (h : Heads) (n m : ℕ) (a b : Ty) → n ≤ m → below n h a b ≡ true → below m h a b ≡ true

-- it takes each formed type as below itself
abbrev pub BelowIsReflexive : Type 0
BelowIsReflexive = (h : Heads) → ((c : ℕ) → Different (h.params c)) → (a : Ty) → Formed h a → (n : ℕ) × (below n h a a ≡ true)

-- and a formed class type as below its instance, where that is formed
abbrev pub BelowHasInstances : Type 0
BelowHasInstances = (h : Heads) → ((c : ℕ) → Different (h.params c)) → (c d : ℕ) (xs ys : Args) (t : Ty) → instance h c d ≡ Some t → up h (class_given h c xs) t ≡ Class d ys → Formed h (Class c xs) → Formed h (Class d ys) →
    (n : ℕ) × (below n h (Class c xs) (Class d ys) ≡ true)

-- arguments that give way to bounds twice might do so at once
abbrev pub ChoicesCompose : Type 0
ChoicesCompose = (tops : HeadParam → Ty) (ps : List HeadParam) (xs ys zs : Args) → IsIn Args ys (choices tops ps xs) → IsIn Args zs (choices tops ps ys) → IsIn Args zs (choices tops ps xs)

-- arguments that keep their parameters' bounds as these are written keep them as a star reads them
abbrev pub StarsAreAbove : Type 0
StarsAreAbove = (h : Heads) → FunctionsVary h → (c : ℕ) → ((p : HeadParam) → IsIn HeadParam p (h.params c) → Formed h p.bound) → (xs : Args) → Bounded h (put_in (h.params c) xs) (h.params c) xs →
    Within h (star_bound h c) (h.params c) xs

-- a type of a class's member, in a position that gives values, taken upwards is above what it is with any types as arguments that are
-- contained and keep their bounds
abbrev pub UpwardsIsAbove : Type 0
UpwardsIsAbove = (h : Heads) → FunctionsVary h → (c : ℕ) (xs ys : Args) → Within h (star_bound h c) (h.params c) xs → All h (star_bound h c) (h.params c) xs ys → (t : Ty) → Stands h (variance_in (h.params c)) Covariant t →
    Sub h (put_types (put_in (h.params c) xs) t) (up h (class_given h c ys) t)

-- in a position that takes values, taken downwards it is below
abbrev pub DownwardsIsBelow : Type 0
DownwardsIsBelow = (h : Heads) → FunctionsVary h → (c : ℕ) (xs ys : Args) → Within h (star_bound h c) (h.params c) xs → All h (star_bound h c) (h.params c) xs ys → (t : Ty) → Stands h (variance_in (h.params c)) Contravariant t →
    Sub h (down h (class_given h c ys) t) (put_types (put_in (h.params c) xs) t)

-- what is below by the rules, by way of formed types, the recursion refuses at no height: where it refuses, it isn't below
abbrev pub SubIsPerhaps : Type 0
SubIsPerhaps = (h : Heads) → ValidHeads h → (a b : Ty) → Formed h a → Formed h b → FormedSub h a b → (n : ℕ) → perhaps n h a b ≡ true

-- there are such heads
abbrev pub HasValidHeads : Type 0
HasValidHeads = ValidHeads heads

-- what it accepts of formed types is below by way of formed types, and that is below
abbrev pub BelowIsFormed : Type 0
BelowIsFormed = (h : Heads) → ValidHeads h → (n : ℕ) (a b : Ty) → Formed h a → Formed h b → below n h a b ≡ true → FormedSub h a b

abbrev pub FormedIsSub : Type 0
FormedIsSub = (h : Heads) (a b : Ty) → FormedSub h a b → Sub h a b

-- so the recursion is transitive, up to its height
abbrev pub BelowComposes : Type 0
BelowComposes = (h : Heads) → ValidHeads h → (a b c : Ty) → Formed h a → Formed h b → Formed h c → (n m : ℕ) → below n h a b ≡ true → below m h b c ≡ true → (k : ℕ) → perhaps k h a c ≡ true

-- a value whose class is one, or below it, has the view of its declared type at this class: its own type has types as arguments, which keep
-- their bounds at each superclass
abbrev pub ViewIsSound : Type 0
ViewIsSound = (h : Heads) → ValidHeads h → OneInstance h → (e : ℕ) (xs : Args) → Exact_args xs → Formed h (Class e xs) → Keeps h e xs → (declared : Ty) → Formed h declared → FormedSub h (Class e xs) declared →
    (c : ℕ) (u t : Ty) → instance h e c ≡ Some u → view h declared c ≡ Some t → FormedSub h (Class e xs) t

-- ---- the core, over valid heads

-- there are such heads
abbrev pub CoreHasHeads : Type 0
CoreHasHeads = Valid example

-- the relation by rules and the recursion without transitivity agree
abbrev pub CoreAgrees : Type 0
CoreAgrees = (h : core.Heads) → Valid h → (a b : core.Ty) → Kinded h a → Kinded h b → (core.Sub h a b → Below h a b) × (Below h a b → core.Sub h a b)

-- what is below by way of a third type is below without it
abbrev pub CoreIsTransitive : Type 0
CoreIsTransitive = (h : core.Heads) → Valid h → (a b c : core.Ty) → Below h a b → Below h b c → Below h a c

abbrev pub CoreIsReflexive : Type 0
CoreIsReflexive = (h : core.Heads) → Valid h → (a : core.Ty) → Kinded h a → Below h a a

-- a class type is below its instance at a superclass
abbrev pub CoreHasInstances : Type 0
CoreHasInstances = (h : core.Heads) → Valid h → (c d : ℕ) (xs zs : core.Args) → core.Supertype h c d zs → All_kinded h (h.vars c) xs → Below h (core.Class c xs) (core.Class d (puts (at xs) zs))

-- types put in for places keep what is below
abbrev pub CoreKeepsPutting : Type 0
CoreKeepsPutting = (h : core.Heads) → Valid h → (s : ℕ → core.Ty) → ((k : ℕ) → Kinded h (s k)) → (a b : core.Ty) → Kinded h a → Kinded h b → core.Sub h a b → core.Sub h (put s a) (put s b)

-- what its relation has is in the whole one, over heads that it is a part of, whatever types stand at its places
abbrev pub CoreIsPart : Type 0
CoreIsPart = (part : core.Heads) → Valid part → (h : Heads) → CoreOf h part → (s : ℕ → Ty) → (a b : core.Ty) → core.Sub part a b → Sub h (whole s a) (whole s b)

-- there are heads that it is a part of
abbrev pub CoreHasWhole : Type 0
CoreHasWhole = (n : ℕ) (part : core.Heads) → CoreOf (whole_heads n part) part
