-- What the recursion accepts at one height it accepts at each greater one.
use Rattle.std.proofs.Common.{◌≡◌, ℕ, zero, suc, ◌≤◌, Bool, true, false, nat_eq, List, [], ◌∷◌, ◌&&◌, ◌||◌, refl, ⊎_elim, arith}
use Rattle.std.proofs.lemmas.Bool.{and_parts, or_cases}
use Rattle.kc_types.specs.Types.{Ty, Class, Param, Nothing, Nullable, Arg, Exact, Out, In, Star, Args, none, more, HeadParam, Heads, Given, up, star_bound, class_given}
use Rattle.kc_types.specs.Supertypes.{above, is_class}
use Rattle.kc_types.specs.Subtype.{read, contains_with, all_with, above_with, fits_with, any_fits, class_choices, class_with, is_empty, is_param, is_anything, null_with, layer, below}

no : {A : Type 0} → false ≡ true → A
no e = absurd (cc)

pub and_true : (a b : Bool) → a ≡ true → b ≡ true → (a && b) ≡ true
and_true true b e f = f
and_true false b e f = no e

pub or_left : (a b : Bool) → a ≡ true → (a || b) ≡ true
or_left true b e = refl
or_left false b e = no e

pub or_right : (a b : Bool) → b ≡ true → (a || b) ≡ true
or_right true b e = refl
or_right false b e = e

module _ (h : Heads) (go more_of : Ty → Ty → Bool) (f : (a b : Ty) → go a b ≡ true → more_of a b ≡ true) where
  pub contains_grows : (top : Ty) (a b : Arg) → contains_with go top a b ≡ true → contains_with more_of top a b ≡ true
  contains_grows top (Exact a) Star e = refl
  contains_grows top (Out a) Star e = refl
  contains_grows top (In a) Star e = refl
  contains_grows top Star Star e = refl
  contains_grows top (Exact a) (Out b) e = f a b e
  contains_grows top (Out a) (Out b) e = f a b e
  contains_grows top (In a) (Out b) e = f top b e
  contains_grows top Star (Out b) e = f top b e
  contains_grows top (Exact a) (In b) e = f b a e
  contains_grows top (In a) (In b) e = f b a e
  contains_grows top (Out a) (In b) e = no e
  contains_grows top Star (In b) e = no e
  contains_grows top (Exact a) (Exact b) e = let p = and_parts (go a b) (go b a) e in and_true (more_of a b) (more_of b a) (f a b p.0) (f b a p.1)
  contains_grows top (Out a) (Exact b) e = no e
  contains_grows top (In a) (Exact b) e = no e
  contains_grows top Star (Exact b) e = no e

  pub all_grow : (all : HeadParam → Ty) (ps : List HeadParam) (xs ys : Args) → all_with go all ps xs ys ≡ true → all_with more_of all ps xs ys ≡ true
  all_grow all [] none none e = refl
  all_grow all (p ∷ ps) (more a xs) (more b ys) e =
      let q = and_parts (contains_with go (all p) (read p.variance a) (read p.variance b)) (all_with go all ps xs ys) e in
      and_true (contains_with more_of (all p) (read p.variance a) (read p.variance b)) (all_with more_of all ps xs ys)
      (contains_grows (all p) (read p.variance a) (read p.variance b) q.0) (all_grow all ps xs ys q.1)
  all_grow all [] (more a xs) ys e = no e
  all_grow all [] none (more b ys) e = no e
  all_grow all (p ∷ ps) none ys e = no e
  all_grow all (p ∷ ps) (more a xs) none e = no e

  step_grows : (v : Bool) (a b : Ty) → elim v [ true ↦ false | false ↦ go a b ] ≡ true → elim v [ true ↦ false | false ↦ more_of a b ] ≡ true
  step_grows true a b e = e
  step_grows false a b e = f a b e

  same_grows : (v : Bool) (all : HeadParam → Ty) (ps : List HeadParam) (xs ys : Args) → elim v [ true ↦ all_with go all ps xs ys | false ↦ false ] ≡ true → elim v [ true ↦ all_with more_of all ps xs ys | false ↦ false ] ≡ true
  same_grows true all ps xs ys e = all_grow all ps xs ys e
  same_grows false all ps xs ys e = e

  pub above_grow : (gs : List Given) (c : ℕ) (b : Ty) (ts : List Ty) → above_with go h gs c b ts ≡ true → above_with more_of h gs c b ts ≡ true
  above_grow gs c b [] e = no e
  above_grow gs c b (t ∷ ts) e =
      let here : Bool = elim (is_class c t) [ true ↦ false | false ↦ more_of (up h gs t) b ] in
      ⊎_elim
      (λ q. or_left here (above_with more_of h gs c b ts) (step_grows (is_class c t) (up h gs t) b q))
      (λ q. or_right here (above_with more_of h gs c b ts) (above_grow gs c b ts q))
      (or_cases (elim (is_class c t) [ true ↦ false | false ↦ go (up h gs t) b ]) (above_with go h gs c b ts) e)

  pub fits_grow : (c : ℕ) (xs : Args) (d : ℕ) (ys : Args) → fits_with go h c xs d ys ≡ true → fits_with more_of h c xs d ys ≡ true
  fits_grow c xs d ys e =
      let here : Bool = elim (nat_eq c d) [ true ↦ all_with more_of (star_bound h c) (h.params c) xs ys | false ↦ false ] in
      ⊎_elim
      (λ q. or_left here (above_with more_of h (class_given h c xs) c (Class d ys) (above h c)) (same_grows (nat_eq c d) (star_bound h c) (h.params c) xs ys q))
      (λ q. or_right here (above_with more_of h (class_given h c xs) c (Class d ys) (above h c)) (above_grow (class_given h c xs) c (Class d ys) (above h c) q))
      (or_cases (elim (nat_eq c d) [ true ↦ all_with go (star_bound h c) (h.params c) xs ys | false ↦ false ]) (above_with go h (class_given h c xs) c (Class d ys) (above h c)) e)

  pub any_grow : (c : ℕ) (xss : List Args) (d : ℕ) (ys : Args) → any_fits go h c xss d ys ≡ true → any_fits more_of h c xss d ys ≡ true
  any_grow c [] d ys e = no e
  any_grow c (xs ∷ xss) d ys e = ⊎_elim
      (λ q. or_left (fits_with more_of h c xs d ys) (any_fits more_of h c xss d ys) (fits_grow c xs d ys q))
      (λ q. or_right (fits_with more_of h c xs d ys) (any_fits more_of h c xss d ys) (any_grow c xss d ys q))
      (or_cases (fits_with go h c xs d ys) (any_fits go h c xss d ys) e)

  class_grows : (c : ℕ) (xs : Args) (b : Ty) → class_with go h c xs b ≡ true → class_with more_of h c xs b ≡ true
  class_grows c xs (Class d ys) e = ⊎_elim
      (λ q. or_left (nat_eq d h.any && is_empty ys) (any_fits more_of h c (class_choices h c xs) d ys) q)
      (λ q. or_right (nat_eq d h.any && is_empty ys) (any_fits more_of h c (class_choices h c xs) d ys) (any_grow c (class_choices h c xs) d ys q))
      (or_cases (nat_eq d h.any && is_empty ys) (any_fits go h c (class_choices h c xs) d ys) e)
  class_grows c xs (Param x) e = no e
  class_grows c xs Nothing e = no e
  class_grows c xs (Nullable b) e = f (Class c xs) b e

  null_grows : (a b : Ty) → null_with go a b ≡ true → null_with more_of a b ≡ true
  null_grows a (Nullable b) e = f a (Nullable b) e
  null_grows a (Class c xs) e = no e
  null_grows a (Param x) e = no e
  null_grows a Nothing e = no e

  pub layer_grows : (a b : Ty) → layer go h a b ≡ true → layer more_of h a b ≡ true
  layer_grows Nothing b e = refl
  layer_grows (Nullable a) b e = null_grows a b e
  layer_grows (Param x) b e = ⊎_elim
      (λ q. or_left (is_param x b) (more_of (h.bound_of x) b) q)
      (λ q. or_right (is_param x b) (more_of (h.bound_of x) b) (f (h.bound_of x) b q))
      (or_cases (is_param x b) (go (h.bound_of x) b) e)
  layer_grows (Class c xs) b e = class_grows c xs b e

pub below_grows : (h : Heads) (n m : ℕ) → n ≤ m → (a b : Ty) → below n h a b ≡ true → below m h a b ≡ true
below_grows h zero m le a b e = no e
below_grows h (suc n) zero le a b e = absurd (omega (arith, le))
below_grows h (suc n) (suc m) le a b e = ⊎_elim
    (λ q. or_left (is_anything h b) (layer (below m h) h a b) q)
    (λ q. or_right (is_anything h b) (layer (below m h) h a b) (layer_grows h (below n h) (below m h) (below_grows h n m (omega (arith, le))) a b q))
    (or_cases (is_anything h b) (layer (below n h) h a b) e)
