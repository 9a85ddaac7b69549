-- Lists of arguments contained in others so firmly that every type over them keeps its side: none leans on a bound that its own type
-- may be beyond.
use Rattle.std.proofs.Common.{◌≡◌, Bool, true, false, List, [], ◌∷◌, refl, sym, subst}
use Rattle.kc_types.specs.Types.{Ty, Arg, Exact, Out, In, Star, Args, none, more, Variance, Invariant, Covariant, Contravariant, HeadParam, Heads, is_projection, reduced}
use Rattle.kc_types.specs.Supertypes.{IsIn, here, later}
use Rattle.kc_types.specs.Subtype.{read, options, choices, choices_by}
use Rattle.kc_types.specs.Formed.{Exact_args, Formed, Arg_formed, Args_formed}
use Rattle.kc_types.specs.FormedSub.{FormedSub, FormedAll, FormedIn}
use Rattle.kc_types.specs.FormedSub.FormedSub.{same, through}
use Rattle.kc_types.specs.FormedSub.FormedAll.{end, next}
use Rattle.kc_types.specs.FormedSub.FormedIn.{star, out_exact, out_out, out_in, out_star, in_exact, in_in, exact}
use Rattle.kc_types.proofs.Reflexive.{made_in, option_itself}
use Rattle.kc_types.proofs.Sound.{made}

-- both types are formed, and the first is below the second
abbrev pub Rel : Heads → Ty → Ty → Type 0
Rel h a b = Formed h a × Formed h b × FormedSub h a b

pub rel_same : (h : Heads) (a : Ty) → Formed h a → Rel h a a
rel_same h a k = (k, k, same)

pub rel_through : (h : Heads) (a m b : Ty) → Rel h a m → Rel h m b → Rel h a b
rel_through h a m b r q = (r.0, q.1, through r.1 r.2 q.2)

-- the first argument is contained in the second, whose types the relation compares
abbrev pub In_by : (Ty → Ty → Type 0) → Ty → Arg → Arg → Type 0
In_by R top (Exact a) (Exact b) = R a b × R b a
In_by R top (Exact a) (Out b) = R a b
In_by R top (Exact a) (In b) = R b a
In_by R top (Exact a) Star = Unit {0}
In_by R top (Out a) (Exact b) = ⊥
In_by R top (Out a) (Out b) = R a b
In_by R top (Out a) (In b) = ⊥
In_by R top (Out a) Star = Unit {0}
In_by R top (In a) (Exact b) = ⊥
In_by R top (In a) (Out b) = R top b
In_by R top (In a) (In b) = R b a
In_by R top (In a) Star = Unit {0}
In_by R top Star (Exact b) = ⊥
In_by R top Star (Out b) = R top b
In_by R top Star (In b) = ⊥
In_by R top Star Star = Unit {0}

abbrev pub All_by : (Ty → Ty → Type 0) → (HeadParam → Ty) → List HeadParam → Args → Args → Type 0
All_by R all [] none none = Unit {0}
All_by R all (p ∷ ps) (more a xs) (more b ys) = In_by R (all p) (read p.variance a) (read p.variance b) × All_by R all ps xs ys
All_by R all [] none (more b ys) = ⊥
All_by R all [] (more a xs) ys = ⊥
All_by R all (p ∷ ps) none ys = ⊥
All_by R all (p ∷ ps) (more a xs) none = ⊥

-- arguments as their parameter's variance has them
abbrev pub Firm : (Ty → Ty → Type 0) → Variance → Ty → Arg → Arg → Type 0
Firm R Invariant top (Exact a) (Exact b) = R a b × R b a
Firm R Invariant top (Exact a) (Out b) = R a b
Firm R Invariant top (Exact a) (In b) = R b a × R a top
Firm R Invariant top (Exact a) Star = R a top
Firm R Invariant top (Out a) (Exact b) = ⊥
Firm R Invariant top (Out a) (Out b) = R a b
Firm R Invariant top (Out a) (In b) = ⊥
Firm R Invariant top (Out a) Star = R a top
Firm R Invariant top (In a) (Exact b) = ⊥
Firm R Invariant top (In a) (Out b) = ⊥
Firm R Invariant top (In a) (In b) = R b a
Firm R Invariant top (In a) Star = Unit {0}
Firm R Invariant top Star (Exact b) = ⊥
Firm R Invariant top Star (Out b) = ⊥
Firm R Invariant top Star (In b) = ⊥
Firm R Invariant top Star Star = Unit {0}
Firm R Covariant top (Exact a) (Exact b) = R a b
Firm R Covariant top (Exact a) (Out b) = ⊥
Firm R Covariant top (Exact a) (In b) = ⊥
Firm R Covariant top (Exact a) Star = R a top
Firm R Covariant top (Out a) b = ⊥
Firm R Covariant top (In a) b = ⊥
Firm R Covariant top Star (Exact b) = ⊥
Firm R Covariant top Star (Out b) = ⊥
Firm R Covariant top Star (In b) = ⊥
Firm R Covariant top Star Star = Unit {0}
Firm R Contravariant top (Exact a) (Exact b) = R b a
Firm R Contravariant top (Exact a) (Out b) = ⊥
Firm R Contravariant top (Exact a) (In b) = ⊥
Firm R Contravariant top (Exact a) Star = Unit {0}
Firm R Contravariant top (Out a) b = ⊥
Firm R Contravariant top (In a) b = ⊥
Firm R Contravariant top Star (Exact b) = ⊥
Firm R Contravariant top Star (Out b) = ⊥
Firm R Contravariant top Star (In b) = ⊥
Firm R Contravariant top Star Star = Unit {0}

abbrev pub Firms : (Ty → Ty → Type 0) → (HeadParam → Ty) → List HeadParam → Args → Args → Type 0
Firms R all [] none none = Unit {0}
Firms R all (p ∷ ps) (more a xs) (more b ys) = Firm R p.variance (all p) (reduced p.variance a) (reduced p.variance b) × Firms R all ps xs ys
Firms R all [] none (more b ys) = ⊥
Firms R all [] (more a xs) ys = ⊥
Firms R all (p ∷ ps) none ys = ⊥
Firms R all (p ∷ ps) (more a xs) none = ⊥

-- ---- what is firmly contained is contained
pub firm_in : (R : Ty → Ty → Type 0) (v : Variance) (top : Ty) (a b : Arg) → Firm R v top (reduced v a) (reduced v b) → In_by R top (read v a) (read v b)
firm_in R Invariant top (Exact x) (Exact y) r = r
firm_in R Invariant top (Exact x) (Out y) r = r
firm_in R Invariant top (Exact x) (In y) r = r.0
firm_in R Invariant top (Exact x) Star r = tt
firm_in R Invariant top (Out x) (Exact y) r = absurd r
firm_in R Invariant top (Out x) (Out y) r = r
firm_in R Invariant top (Out x) (In y) r = absurd r
firm_in R Invariant top (Out x) Star r = tt
firm_in R Invariant top (In x) (Exact y) r = absurd r
firm_in R Invariant top (In x) (Out y) r = absurd r
firm_in R Invariant top (In x) (In y) r = r
firm_in R Invariant top (In x) Star r = tt
firm_in R Invariant top Star (Exact y) r = absurd r
firm_in R Invariant top Star (Out y) r = absurd r
firm_in R Invariant top Star (In y) r = absurd r
firm_in R Invariant top Star Star r = tt
firm_in R Covariant top (Exact x) (Exact y) r = r
firm_in R Covariant top (Exact x) (Out y) r = r
firm_in R Covariant top (Exact x) (In y) r = tt
firm_in R Covariant top (Exact x) Star r = tt
firm_in R Covariant top (Out x) (Exact y) r = r
firm_in R Covariant top (Out x) (Out y) r = r
firm_in R Covariant top (Out x) (In y) r = tt
firm_in R Covariant top (Out x) Star r = tt
firm_in R Covariant top (In x) (Exact y) r = absurd r
firm_in R Covariant top (In x) (Out y) r = absurd r
firm_in R Covariant top (In x) (In y) r = tt
firm_in R Covariant top (In x) Star r = tt
firm_in R Covariant top Star (Exact y) r = absurd r
firm_in R Covariant top Star (Out y) r = absurd r
firm_in R Covariant top Star (In y) r = tt
firm_in R Covariant top Star Star r = tt
firm_in R Contravariant top (Exact x) (Exact y) r = r
firm_in R Contravariant top (Exact x) (Out y) r = tt
firm_in R Contravariant top (Exact x) (In y) r = r
firm_in R Contravariant top (Exact x) Star r = tt
firm_in R Contravariant top (Out x) (Exact y) r = absurd r
firm_in R Contravariant top (Out x) (Out y) r = tt
firm_in R Contravariant top (Out x) (In y) r = absurd r
firm_in R Contravariant top (Out x) Star r = tt
firm_in R Contravariant top (In x) (Exact y) r = r
firm_in R Contravariant top (In x) (Out y) r = tt
firm_in R Contravariant top (In x) (In y) r = r
firm_in R Contravariant top (In x) Star r = tt
firm_in R Contravariant top Star (Exact y) r = absurd r
firm_in R Contravariant top Star (Out y) r = tt
firm_in R Contravariant top Star (In y) r = absurd r
firm_in R Contravariant top Star Star r = tt

pub firms_in : (R : Ty → Ty → Type 0) (all : HeadParam → Ty) (ps : List HeadParam) (xs ys : Args) → Firms R all ps xs ys → All_by R all ps xs ys
firms_in R all [] none none r = tt
firms_in R all (p ∷ ps) (more a xs) (more b ys) r = (firm_in R p.variance (all p) a b r.0, firms_in R all ps xs ys r.1)
firms_in R all [] none (more b ys) r = absurd r
firms_in R all [] (more a xs) ys r = absurd r
firms_in R all (p ∷ ps) none ys r = absurd r
firms_in R all (p ∷ ps) (more a xs) none r = absurd r

-- ---- one after the other
pub firm_through : (h : Heads) (v : Variance) (top : Ty) (a b c : Arg) → Firm (Rel h) v top a b → Firm (Rel h) v top b c → Firm (Rel h) v top a c
firm_through h Invariant top (Exact x) (Exact y) (Exact z) r q = (rel_through h x y z r.0 q.0, rel_through h z y x q.1 r.1)
firm_through h Invariant top (Exact x) (Exact y) (Out z) r q = rel_through h x y z r.0 q
firm_through h Invariant top (Exact x) (Exact y) (In z) r q = (rel_through h z y x q.0 r.1, rel_through h x y top r.0 q.1)
firm_through h Invariant top (Exact x) (Exact y) Star r q = rel_through h x y top r.0 q
firm_through h Invariant top (Exact x) (Out y) (Exact z) r q = absurd q
firm_through h Invariant top (Exact x) (Out y) (Out z) r q = rel_through h x y z r q
firm_through h Invariant top (Exact x) (Out y) (In z) r q = absurd q
firm_through h Invariant top (Exact x) (Out y) Star r q = rel_through h x y top r q
firm_through h Invariant top (Exact x) (In y) (Exact z) r q = absurd q
firm_through h Invariant top (Exact x) (In y) (Out z) r q = absurd q
firm_through h Invariant top (Exact x) (In y) (In z) r q = (rel_through h z y x q r.0, r.1)
firm_through h Invariant top (Exact x) (In y) Star r q = r.1
firm_through h Invariant top (Exact x) Star (Exact z) r q = absurd q
firm_through h Invariant top (Exact x) Star (Out z) r q = absurd q
firm_through h Invariant top (Exact x) Star (In z) r q = absurd q
firm_through h Invariant top (Exact x) Star Star r q = r
firm_through h Invariant top (Out x) (Exact y) c r q = absurd r
firm_through h Invariant top (Out x) (Out y) (Exact z) r q = absurd q
firm_through h Invariant top (Out x) (Out y) (Out z) r q = rel_through h x y z r q
firm_through h Invariant top (Out x) (Out y) (In z) r q = absurd q
firm_through h Invariant top (Out x) (Out y) Star r q = rel_through h x y top r q
firm_through h Invariant top (Out x) (In y) c r q = absurd r
firm_through h Invariant top (Out x) Star (Exact z) r q = absurd q
firm_through h Invariant top (Out x) Star (Out z) r q = absurd q
firm_through h Invariant top (Out x) Star (In z) r q = absurd q
firm_through h Invariant top (Out x) Star Star r q = r
firm_through h Invariant top (In x) (Exact y) c r q = absurd r
firm_through h Invariant top (In x) (Out y) c r q = absurd r
firm_through h Invariant top (In x) (In y) (Exact z) r q = absurd q
firm_through h Invariant top (In x) (In y) (Out z) r q = absurd q
firm_through h Invariant top (In x) (In y) (In z) r q = rel_through h z y x q r
firm_through h Invariant top (In x) (In y) Star r q = tt
firm_through h Invariant top (In x) Star (Exact z) r q = absurd q
firm_through h Invariant top (In x) Star (Out z) r q = absurd q
firm_through h Invariant top (In x) Star (In z) r q = absurd q
firm_through h Invariant top (In x) Star Star r q = tt
firm_through h Invariant top Star (Exact y) c r q = absurd r
firm_through h Invariant top Star (Out y) c r q = absurd r
firm_through h Invariant top Star (In y) c r q = absurd r
firm_through h Invariant top Star Star (Exact z) r q = absurd q
firm_through h Invariant top Star Star (Out z) r q = absurd q
firm_through h Invariant top Star Star (In z) r q = absurd q
firm_through h Invariant top Star Star Star r q = tt
firm_through h Covariant top (Exact x) (Exact y) (Exact z) r q = rel_through h x y z r q
firm_through h Covariant top (Exact x) (Exact y) (Out z) r q = absurd q
firm_through h Covariant top (Exact x) (Exact y) (In z) r q = absurd q
firm_through h Covariant top (Exact x) (Exact y) Star r q = rel_through h x y top r q
firm_through h Covariant top (Exact x) (Out y) c r q = absurd r
firm_through h Covariant top (Exact x) (In y) c r q = absurd r
firm_through h Covariant top (Exact x) Star (Exact z) r q = absurd q
firm_through h Covariant top (Exact x) Star (Out z) r q = absurd q
firm_through h Covariant top (Exact x) Star (In z) r q = absurd q
firm_through h Covariant top (Exact x) Star Star r q = r
firm_through h Covariant top (Out x) b c r q = absurd r
firm_through h Covariant top (In x) b c r q = absurd r
firm_through h Covariant top Star (Exact y) c r q = absurd r
firm_through h Covariant top Star (Out y) c r q = absurd r
firm_through h Covariant top Star (In y) c r q = absurd r
firm_through h Covariant top Star Star (Exact z) r q = absurd q
firm_through h Covariant top Star Star (Out z) r q = absurd q
firm_through h Covariant top Star Star (In z) r q = absurd q
firm_through h Covariant top Star Star Star r q = tt
firm_through h Contravariant top (Exact x) (Exact y) (Exact z) r q = rel_through h z y x q r
firm_through h Contravariant top (Exact x) (Exact y) (Out z) r q = absurd q
firm_through h Contravariant top (Exact x) (Exact y) (In z) r q = absurd q
firm_through h Contravariant top (Exact x) (Exact y) Star r q = tt
firm_through h Contravariant top (Exact x) (Out y) c r q = absurd r
firm_through h Contravariant top (Exact x) (In y) c r q = absurd r
firm_through h Contravariant top (Exact x) Star (Exact z) r q = absurd q
firm_through h Contravariant top (Exact x) Star (Out z) r q = absurd q
firm_through h Contravariant top (Exact x) Star (In z) r q = absurd q
firm_through h Contravariant top (Exact x) Star Star r q = tt
firm_through h Contravariant top (Out x) b c r q = absurd r
firm_through h Contravariant top (In x) b c r q = absurd r
firm_through h Contravariant top Star (Exact y) c r q = absurd r
firm_through h Contravariant top Star (Out y) c r q = absurd r
firm_through h Contravariant top Star (In y) c r q = absurd r
firm_through h Contravariant top Star Star (Exact z) r q = absurd q
firm_through h Contravariant top Star Star (Out z) r q = absurd q
firm_through h Contravariant top Star Star (In z) r q = absurd q
firm_through h Contravariant top Star Star Star r q = tt

pub firms_through : (h : Heads) (all : HeadParam → Ty) (ps : List HeadParam) (xs ys zs : Args) → Firms (Rel h) all ps xs ys → Firms (Rel h) all ps ys zs → Firms (Rel h) all ps xs zs
firms_through h all [] none none none r q = tt
firms_through h all (p ∷ ps) (more a xs) (more b ys) (more c zs) r q =
    (firm_through h p.variance (all p) (reduced p.variance a) (reduced p.variance b) (reduced p.variance c) r.0 q.0, firms_through h all ps xs ys zs r.1 q.1)
firms_through h all [] none none (more c zs) r q = absurd q
firms_through h all [] none (more b ys) zs r q = absurd r
firms_through h all [] (more a xs) ys zs r q = absurd r
firms_through h all (p ∷ ps) none ys zs r q = absurd r
firms_through h all (p ∷ ps) (more a xs) none zs r q = absurd r
firms_through h all (p ∷ ps) (more a xs) (more b ys) none r q = absurd q

-- ---- by choices what is contained is firmly so
record Chosen (h : Heads) (v : Variance) (top : Ty) (a b : Arg) : Type 0 where
  one : Arg
  there : IsIn Arg one (options v top a)
  firm : Firm (Rel h) v top (reduced v one) (reduced v b)

chosen : (h : Heads) (v : Variance) (top : Ty) (a b : Arg) → Formed h top → In_by (Rel h) top (read v a) (read v b) → Chosen h v top a b
chosen h Invariant top (Exact x) (Exact y) k r = record { one = Exact x; there = here; firm = r }
chosen h Invariant top (Exact x) (Out y) k r = record { one = Exact x; there = here; firm = r }
chosen h Invariant top (Exact x) (In y) k r = record { one = In x; there = later here; firm = r }
chosen h Invariant top (Exact x) Star k r = record { one = Out top; there = later (later here); firm = rel_same h top k }
chosen h Invariant top (Out x) (Exact y) k r = absurd r
chosen h Invariant top (Out x) (Out y) k r = record { one = Out x; there = here; firm = r }
chosen h Invariant top (Out x) (In y) k r = absurd r
chosen h Invariant top (Out x) Star k r = record { one = Out top; there = later here; firm = rel_same h top k }
chosen h Invariant top (In x) (Exact y) k r = absurd r
chosen h Invariant top (In x) (Out y) k r = record { one = Out top; there = later here; firm = r }
chosen h Invariant top (In x) (In y) k r = record { one = In x; there = here; firm = r }
chosen h Invariant top (In x) Star k r = record { one = In x; there = here; firm = tt }
chosen h Invariant top Star (Exact y) k r = absurd r
chosen h Invariant top Star (Out y) k r = record { one = Out top; there = later here; firm = r }
chosen h Invariant top Star (In y) k r = absurd r
chosen h Invariant top Star Star k r = record { one = Star; there = here; firm = tt }
chosen h Covariant top (Exact x) (Exact y) k r = record { one = Exact x; there = here; firm = r }
chosen h Covariant top (Exact x) (Out y) k r = record { one = Exact x; there = here; firm = r }
chosen h Covariant top (Exact x) (In y) k r = record { one = Out top; there = later here; firm = rel_same h top k }
chosen h Covariant top (Exact x) Star k r = record { one = Out top; there = later here; firm = rel_same h top k }
chosen h Covariant top (Out x) (Exact y) k r = record { one = Out x; there = here; firm = r }
chosen h Covariant top (Out x) (Out y) k r = record { one = Out x; there = here; firm = r }
chosen h Covariant top (Out x) (In y) k r = record { one = Out top; there = later here; firm = rel_same h top k }
chosen h Covariant top (Out x) Star k r = record { one = Out top; there = later here; firm = rel_same h top k }
chosen h Covariant top (In x) (Exact y) k r = record { one = Out top; there = later here; firm = r }
chosen h Covariant top (In x) (Out y) k r = record { one = Out top; there = later here; firm = r }
chosen h Covariant top (In x) (In y) k r = record { one = In x; there = here; firm = tt }
chosen h Covariant top (In x) Star k r = record { one = In x; there = here; firm = tt }
chosen h Covariant top Star (Exact y) k r = record { one = Out top; there = later here; firm = r }
chosen h Covariant top Star (Out y) k r = record { one = Out top; there = later here; firm = r }
chosen h Covariant top Star (In y) k r = record { one = Star; there = here; firm = tt }
chosen h Covariant top Star Star k r = record { one = Star; there = here; firm = tt }
chosen h Contravariant top (Exact x) (Exact y) k r = record { one = Exact x; there = here; firm = r }
chosen h Contravariant top (Exact x) (Out y) k r = record { one = Exact x; there = here; firm = tt }
chosen h Contravariant top (Exact x) (In y) k r = record { one = Exact x; there = here; firm = r }
chosen h Contravariant top (Exact x) Star k r = record { one = Exact x; there = here; firm = tt }
chosen h Contravariant top (Out x) (Exact y) k r = absurd r
chosen h Contravariant top (Out x) (Out y) k r = record { one = Out x; there = here; firm = tt }
chosen h Contravariant top (Out x) (In y) k r = absurd r
chosen h Contravariant top (Out x) Star k r = record { one = Out x; there = here; firm = tt }
chosen h Contravariant top (In x) (Exact y) k r = record { one = In x; there = here; firm = r }
chosen h Contravariant top (In x) (Out y) k r = record { one = In x; there = here; firm = tt }
chosen h Contravariant top (In x) (In y) k r = record { one = In x; there = here; firm = r }
chosen h Contravariant top (In x) Star k r = record { one = In x; there = here; firm = tt }
chosen h Contravariant top Star (Exact y) k r = absurd r
chosen h Contravariant top Star (Out y) k r = record { one = Star; there = here; firm = tt }
chosen h Contravariant top Star (In y) k r = absurd r
chosen h Contravariant top Star Star k r = record { one = Star; there = here; firm = tt }

-- a choice of the second is followed by one of the first
top_option : (v : Variance) (top : Ty) (a : Arg) → (IsIn Arg (Out top) (options Invariant top a)) × (IsIn Arg (Out top) (options Covariant top a))
top_option v top (Exact x) = (later (later here), later here)
top_option v top (Out x) = (later here, later here)
top_option v top (In x) = (later here, later here)
top_option v top Star = (later here, later here)

followed : (h : Heads) (v : Variance) (top : Ty) (a b c : Arg) → Formed h top → Firm (Rel h) v top (reduced v a) (reduced v b) → IsIn Arg c (options v top b) → Chosen h v top a c
followed h Contravariant top a b c k r here = record { one = a; there = here; firm = r }
followed h Contravariant top a b c k r (later i) = elim i [ ]
followed h Covariant top a b c k r here = record { one = a; there = here; firm = r }
followed h Covariant top a b c k r (later here) = record { one = Out top; there = later here; firm = rel_same h top k }
followed h Covariant top a b c k r (later (later i)) = elim i [ ]
followed h Invariant top a (Exact y) c k r here = record { one = a; there = option_itself Invariant top a; firm = r }
followed h Invariant top (Exact x) (Exact y) c k r (later here) = record { one = In x; there = later here; firm = r.1 }
followed h Invariant top (Out x) (Exact y) c k r (later here) = absurd r
followed h Invariant top (In x) (Exact y) c k r (later here) = absurd r
followed h Invariant top Star (Exact y) c k r (later here) = absurd r
followed h Invariant top a (Exact y) c k r (later (later here)) = record { one = Out top; there = (top_option Invariant top a).0; firm = rel_same h top k }
followed h Invariant top a (Exact y) c k r (later (later (later i))) = elim i [ ]
followed h Invariant top a (Out y) c k r here = record { one = a; there = option_itself Invariant top a; firm = r }
followed h Invariant top a (Out y) c k r (later here) = record { one = Out top; there = (top_option Invariant top a).0; firm = rel_same h top k }
followed h Invariant top a (Out y) c k r (later (later i)) = elim i [ ]
followed h Invariant top a (In y) c k r here = record { one = a; there = option_itself Invariant top a; firm = r }
followed h Invariant top a (In y) c k r (later here) = record { one = Out top; there = (top_option Invariant top a).0; firm = rel_same h top k }
followed h Invariant top a (In y) c k r (later (later i)) = elim i [ ]
followed h Invariant top a Star c k r here = record { one = a; there = option_itself Invariant top a; firm = r }
followed h Invariant top a Star c k r (later here) = record { one = Out top; there = (top_option Invariant top a).0; firm = rel_same h top k }
followed h Invariant top a Star c k r (later (later i)) = elim i [ ]

-- the bounds as stars read them are formed
abbrev pub Tops : Heads → (HeadParam → Ty) → List HeadParam → Type 0
Tops h all ps = (p : HeadParam) → IsIn HeadParam p ps → Formed h (all p)

-- a choice of the first list, firmly contained in the second
pub record Firmly (h : Heads) (all : HeadParam → Ty) (ps : List HeadParam) (xs ys : Args) : Type 0 where
  pub args : Args
  pub there : IsIn Args args (choices all ps xs)
  pub firm : Firms (Rel h) all ps args ys

firmly_more : (h : Heads) (all : HeadParam → Ty) (p : HeadParam) (ps : List HeadParam) (a b : Arg) (xs ys : Args) → Chosen h p.variance (all p) a b → Firmly h all ps xs ys → Firmly h all (p ∷ ps) (more a xs) (more b ys)
firmly_more h all p ps a b xs ys c f = record {
  args = more c.one f.args;
  there = made_in c.one (options p.variance (all p) a) f.args (choices all ps xs) c.there f.there;
  firm = (c.firm, f.firm);
}

pub all_chosen : (h : Heads) (all : HeadParam → Ty) (ps : List HeadParam) (xs ys : Args) → Tops h all ps → All_by (Rel h) all ps xs ys → Firmly h all ps xs ys
all_chosen h all [] none none k r = record { args = none; there = here; firm = tt }
all_chosen h all (p ∷ ps) (more a xs) (more b ys) k r =
    firmly_more h all p ps a b xs ys (chosen h p.variance (all p) a b (k p here) r.0) (all_chosen h all ps xs ys (λ q i. k q (later i)) r.1)
all_chosen h all [] none (more b ys) k r = absurd r
all_chosen h all [] (more a xs) ys k r = absurd r
all_chosen h all (p ∷ ps) none ys k r = absurd r
all_chosen h all (p ∷ ps) (more a xs) none k r = absurd r

pub all_followed : (h : Heads) (all : HeadParam → Ty) (ps : List HeadParam) (xs ys zs : Args) → Tops h all ps → Firms (Rel h) all ps xs ys → IsIn Args zs (choices all ps ys) → Firmly h all ps xs zs
all_followed h all [] none none zs k r here = record { args = none; there = here; firm = tt }
all_followed h all [] none none zs k r (later i) = elim i [ ]
all_followed h all (p ∷ ps) (more a xs) (more b ys) zs k r i =
    let top : Ty = all p in
    let m = made (options p.variance top b) (choices all ps ys) zs i in
    subst (λ us. Firmly h all (p ∷ ps) (more a xs) us) (sym m.is)
    (firmly_more h all p ps a m.a xs m.xs (followed h p.variance top a b m.a (k p here) r.0 m.first_in) (all_followed h all ps xs ys m.xs (λ q j. k q (later j)) r.1 m.rest_in))
all_followed h all [] none (more b ys) zs k r i = absurd r
all_followed h all [] (more a xs) ys zs k r i = absurd r
all_followed h all (p ∷ ps) none ys zs k r i = absurd r
all_followed h all (p ∷ ps) (more a xs) none zs k r i = absurd r

-- ---- from the rules' lists
pub read_formed : (h : Heads) (v : Variance) (a : Arg) → Arg_formed h a → Arg_formed h (read v a)
read_formed h Invariant (Exact t) k = k
read_formed h Invariant (Out t) k = k
read_formed h Invariant (In t) k = k
read_formed h Invariant Star k = tt
read_formed h Covariant (Exact t) k = k
read_formed h Covariant (Out t) k = k
read_formed h Covariant (In t) k = tt
read_formed h Covariant Star k = tt
read_formed h Contravariant (Exact t) k = k
read_formed h Contravariant (Out t) k = tt
read_formed h Contravariant (In t) k = k
read_formed h Contravariant Star k = tt

in_star : (R : Ty → Ty → Type 0) (top : Ty) (a : Arg) → In_by R top a Star
in_star R top (Exact t) = tt
in_star R top (Out t) = tt
in_star R top (In t) = tt
in_star R top Star = tt

pub in_by : (h : Heads) {top : Ty} {a b : Arg} → FormedIn h top a b → Formed h top → Arg_formed h a → Arg_formed h b → In_by (Rel h) top a b
in_by h (star {top = top} {a = a}) t k l = in_star (Rel h) top a
in_by h (out_exact d) t k l = (k, l, d)
in_by h (out_out d) t k l = (k, l, d)
in_by h (out_in d) t k l = (t, l, d)
in_by h (out_star d) t k l = (t, l, d)
in_by h (in_exact d) t k l = (l, k, d)
in_by h (in_in d) t k l = (l, k, d)
in_by h (exact d e) t k l = ((k, l, d), (l, k, e))

pub all_by : (h : Heads) {all : HeadParam → Ty} {ps : List HeadParam} {xs ys : Args} → FormedAll h all ps xs ys → Tops h all ps → Args_formed h ps xs → Args_formed h ps ys → All_by (Rel h) all ps xs ys
all_by h end t k l = tt
all_by h (next {p = p} {a = a} {b = b} d ds) t k l = (in_by h d (t p here) (read_formed h p.variance a k.0) (read_formed h p.variance b l.0), all_by h ds (λ q i. t q (later i)) k.1 l.1)

-- ---- what it says of projections, of types taken, and of the argument alone
pub firm_unprojected : (R : Ty → Ty → Type 0) (v : Variance) (top : Ty) (a b : Arg) → Firm R v top a b → is_projection b ≡ false → is_projection a ≡ false
firm_unprojected R Invariant top (Exact x) (Exact y) r e = refl
firm_unprojected R Invariant top (Exact x) (Out y) r e = refl
firm_unprojected R Invariant top (Exact x) (In y) r e = refl
firm_unprojected R Invariant top (Exact x) Star r e = refl
firm_unprojected R Invariant top (Out x) (Exact y) r e = absurd r
firm_unprojected R Invariant top (Out x) (Out y) r e = e
firm_unprojected R Invariant top (Out x) (In y) r e = absurd r
firm_unprojected R Invariant top (Out x) Star r e = e
firm_unprojected R Invariant top (In x) (Exact y) r e = absurd r
firm_unprojected R Invariant top (In x) (Out y) r e = absurd r
firm_unprojected R Invariant top (In x) (In y) r e = e
firm_unprojected R Invariant top (In x) Star r e = e
firm_unprojected R Invariant top Star (Exact y) r e = absurd r
firm_unprojected R Invariant top Star (Out y) r e = absurd r
firm_unprojected R Invariant top Star (In y) r e = absurd r
firm_unprojected R Invariant top Star Star r e = e
firm_unprojected R Covariant top (Exact x) (Exact y) r e = refl
firm_unprojected R Covariant top (Exact x) (Out y) r e = absurd r
firm_unprojected R Covariant top (Exact x) (In y) r e = absurd r
firm_unprojected R Covariant top (Exact x) Star r e = refl
firm_unprojected R Covariant top (Out x) b r e = absurd r
firm_unprojected R Covariant top (In x) b r e = absurd r
firm_unprojected R Covariant top Star (Exact y) r e = absurd r
firm_unprojected R Covariant top Star (Out y) r e = absurd r
firm_unprojected R Covariant top Star (In y) r e = absurd r
firm_unprojected R Covariant top Star Star r e = e
firm_unprojected R Contravariant top (Exact x) (Exact y) r e = refl
firm_unprojected R Contravariant top (Exact x) (Out y) r e = absurd r
firm_unprojected R Contravariant top (Exact x) (In y) r e = absurd r
firm_unprojected R Contravariant top (Exact x) Star r e = refl
firm_unprojected R Contravariant top (Out x) b r e = absurd r
firm_unprojected R Contravariant top (In x) b r e = absurd r
firm_unprojected R Contravariant top Star (Exact y) r e = absurd r
firm_unprojected R Contravariant top Star (Out y) r e = absurd r
firm_unprojected R Contravariant top Star (In y) r e = absurd r
firm_unprojected R Contravariant top Star Star r e = e

abbrev pub value_of : Ty → Arg → Ty
value_of top (Exact t) = t
value_of top (Out t) = t
value_of top (In t) = top
value_of top Star = top

-- ---- by a class's choices
exact_firm : (R : Ty → Ty → Type 0) (v : Variance) (top a b : Ty) → In_by R top (read v (Exact a)) (read v (Exact b)) → Firm R v top (reduced v (Exact a)) (reduced v (Exact b))
exact_firm R Invariant top a b r = r
exact_firm R Covariant top a b r = r
exact_firm R Contravariant top a b r = r

exact_firms : (R : Ty → Ty → Type 0) (all : HeadParam → Ty) (ps : List HeadParam) (xs ys : Args) → Exact_args xs → Exact_args ys → All_by R all ps xs ys → Firms R all ps xs ys
exact_firms R all [] none none e f r = tt
exact_firms R all (p ∷ ps) (more (Exact a) xs) (more (Exact b) ys) e f r = (exact_firm R p.variance (all p) a b r.0, exact_firms R all ps xs ys e f r.1)
exact_firms R all (p ∷ ps) (more (Exact a) xs) (more (Out b) ys) e f r = absurd f
exact_firms R all (p ∷ ps) (more (Exact a) xs) (more (In b) ys) e f r = absurd f
exact_firms R all (p ∷ ps) (more (Exact a) xs) (more Star ys) e f r = absurd f
exact_firms R all (p ∷ ps) (more (Out a) xs) (more b ys) e f r = absurd e
exact_firms R all (p ∷ ps) (more (In a) xs) (more b ys) e f r = absurd e
exact_firms R all (p ∷ ps) (more Star xs) (more b ys) e f r = absurd e
exact_firms R all [] none (more b ys) e f r = absurd r
exact_firms R all [] (more a xs) ys e f r = absurd r
exact_firms R all (p ∷ ps) none ys e f r = absurd r
exact_firms R all (p ∷ ps) (more a xs) none e f r = absurd r

pub record Firmly_chosen (h : Heads) (v : Bool) (all : HeadParam → Ty) (ps : List HeadParam) (xs ys : Args) : Type 0 where
  pub args : Args
  pub there : IsIn Args args (choices_by v all ps xs)
  pub firm : Firms (Rel h) all ps args ys

pub class_chosen : (h : Heads) (v : Bool) (all : HeadParam → Ty) (ps : List HeadParam) (xs ys : Args) → Tops h all ps → (v ≡ true → Exact_args xs) → (v ≡ true → Exact_args ys) → All_by (Rel h) all ps xs ys → Firmly_chosen h v all ps xs ys
class_chosen h true all ps xs ys k e f r = record { args = xs; there = here; firm = exact_firms (Rel h) all ps xs ys (e refl) (f refl) r }
class_chosen h false all ps xs ys k e f r = let c = all_chosen h all ps xs ys k r in record { args = c.args; there = c.there; firm = c.firm }

pub class_followed : (h : Heads) (v : Bool) (all : HeadParam → Ty) (ps : List HeadParam) (xs ys zs : Args) → Tops h all ps → Firms (Rel h) all ps xs ys → IsIn Args zs (choices_by v all ps ys) → Firmly_chosen h v all ps xs zs
class_followed h true all ps xs ys zs k r here = record { args = xs; there = here; firm = r }
class_followed h true all ps xs ys zs k r (later i) = elim i [ ]
class_followed h false all ps xs ys zs k r i = let c = all_followed h all ps xs ys zs k r i in record { args = c.args; there = c.there; firm = c.firm }
