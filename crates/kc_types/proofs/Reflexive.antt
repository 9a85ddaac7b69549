-- The recursion takes each formed type as below itself, and a class type as below its instance; choices compose.
use Rattle.std.proofs.Common.{◌≡◌, ℕ, zero, suc, max, Bool, true, false, nat_eq, List, [], ◌∷◌, map, Option, Some, None, cond, ◌&&◌, refl, sym, ap, subst, ◌∙◌, eqb-true, eq-eqb, arith}
use Rattle.kc_types.specs.Types.{Ty, Class, Param, Nothing, Nullable, Arg, Exact, Out, In, Star, Args, none, more, Variance, Invariant, Covariant, Contravariant, HeadParam, Heads, Given, given, is_own, value_up, value_down, alone, flat, unless_against, up, up_args, star_bound, given_all, class_given, reduced, reduced_args}
use Rattle.kc_types.specs.Supertypes.{IsIn, here, later, own_args, own_type, at_class, above_at, above, is_class, instance}
use Rattle.kc_types.specs.Subtype.{read, contains_with, all_with, above_with, fits_with, any_fits, options, each_first, choices, choices_by, class_choices, is_empty, is_anything, below}
use Rattle.kc_types.specs.Formed.{Different, Exact_args, Formed, Arg_formed, Args_formed}
use Rattle.kc_types.specs.Laws.{BelowGrows, BelowIsReflexive, BelowHasInstances, ChoicesCompose}
use Rattle.kc_types.proofs.Sound.{made}
use Rattle.kc_types.proofs.Listed.{in_left, in_right, map_in}
use Rattle.kc_types.proofs.Exacts.{flat_same, kept, read_reduced, reduced_exact}
use Rattle.kc_types.proofs.Supertypes.{at_class_in}
use Rattle.kc_types.proofs.CoreInWhole.{either_false, turned}
use Rattle.kc_types.proofs.Grows.{and_true, or_left, or_right, contains_grows, all_grow, below_grows}

no : {A : Type 0} → false ≡ true → A
no e = absurd (cc)

pub both_more : {a b : Arg} {xs ys : Args} → a ≡ b → xs ≡ ys → more a xs ≡ more b ys
both_more e f = cc (e, f)

-- ---- choices
pub made_in : (a : Arg) (first : List Arg) (xs : Args) (xss : List Args) → IsIn Arg a first → IsIn Args xs xss → IsIn Args (more a xs) (each_first first xss)
made_in a [] xs xss i j = elim i [ ]
made_in a (b ∷ first) xs xss here j = in_left (more a xs) (map (λ ys. more a ys) xss) (each_first first xss) (map_in (λ ys. more a ys) xs xss j)
made_in a (b ∷ first) xs xss (later i) j = in_right (more a xs) (map (λ ys. more b ys) xss) (each_first first xss) (made_in a first xs xss i j)

pub option_itself : (v : Variance) (top : Ty) (a : Arg) → IsIn Arg a (options v top a)
option_itself Invariant top (Exact t) = here
option_itself Invariant top (Out t) = here
option_itself Invariant top (In t) = here
option_itself Invariant top Star = here
option_itself Covariant top a = here
option_itself Contravariant top a = here

options_compose : (v : Variance) (top : Ty) (a b c : Arg) → IsIn Arg b (options v top a) → IsIn Arg c (options v top b) → IsIn Arg c (options v top a)
options_compose Contravariant top a b c here j = j
options_compose Contravariant top a b c (later i) j = elim i [ ]
options_compose Covariant top a b c here j = j
options_compose Covariant top a b c (later here) here = later here
options_compose Covariant top a b c (later here) (later here) = later here
options_compose Covariant top a b c (later here) (later (later j)) = elim j [ ]
options_compose Covariant top a b c (later (later i)) j = elim i [ ]
options_compose Invariant top (Exact t) b c here j = j
options_compose Invariant top (Exact t) b c (later here) here = later here
options_compose Invariant top (Exact t) b c (later here) (later here) = later (later here)
options_compose Invariant top (Exact t) b c (later here) (later (later j)) = elim j [ ]
options_compose Invariant top (Exact t) b c (later (later here)) here = later (later here)
options_compose Invariant top (Exact t) b c (later (later here)) (later here) = later (later here)
options_compose Invariant top (Exact t) b c (later (later here)) (later (later j)) = elim j [ ]
options_compose Invariant top (Exact t) b c (later (later (later i))) j = elim i [ ]
options_compose Invariant top (Out t) b c here j = j
options_compose Invariant top (Out t) b c (later here) here = later here
options_compose Invariant top (Out t) b c (later here) (later here) = later here
options_compose Invariant top (Out t) b c (later here) (later (later j)) = elim j [ ]
options_compose Invariant top (Out t) b c (later (later i)) j = elim i [ ]
options_compose Invariant top (In t) b c here j = j
options_compose Invariant top (In t) b c (later here) here = later here
options_compose Invariant top (In t) b c (later here) (later here) = later here
options_compose Invariant top (In t) b c (later here) (later (later j)) = elim j [ ]
options_compose Invariant top (In t) b c (later (later i)) j = elim i [ ]
options_compose Invariant top Star b c here j = j
options_compose Invariant top Star b c (later here) here = later here
options_compose Invariant top Star b c (later here) (later here) = later here
options_compose Invariant top Star b c (later here) (later (later j)) = elim j [ ]
options_compose Invariant top Star b c (later (later i)) j = elim i [ ]

pub only_none : (xs : Args) → IsIn Args xs (none ∷ []) → xs ≡ none
only_none xs here = refl
only_none xs (later i) = elim i [ ]

pub choices_compose : ChoicesCompose
choices_compose all [] none ys zs i j = subst (λ us. IsIn Args zs (choices all [] us)) (only_none ys i) j
choices_compose all [] (more a xs) ys zs i j = elim i [ ]
choices_compose all (p ∷ ps) none ys zs i j = elim i [ ]
choices_compose all (p ∷ ps) (more a xs) ys zs i j =
    let m = made (options p.variance (all p) a) (choices all ps xs) ys i in
    let k : IsIn Args zs (choices all (p ∷ ps) (more m.a m.xs)) = subst (λ us. IsIn Args zs (choices all (p ∷ ps) us)) m.is j in
    let n = made (options p.variance (all p) m.a) (choices all ps m.xs) zs k in
    subst (λ us. IsIn Args us (choices all (p ∷ ps) (more a xs))) (sym n.is)
    (made_in n.a (options p.variance (all p) a) n.xs (choices all ps xs)
    (options_compose p.variance (all p) a m.a n.a m.first_in n.first_in) (choices_compose all ps xs m.xs n.xs m.rest_in n.rest_in))

pub chosen_twice : (v : Bool) (all : HeadParam → Ty) (ps : List HeadParam) (xs ys zs : Args) → IsIn Args ys (choices_by v all ps xs) → IsIn Args zs (choices_by v all ps ys) → IsIn Args zs (choices_by v all ps xs)
chosen_twice true all ps xs ys zs here j = j
chosen_twice true all ps xs ys zs (later i) j = elim i [ ]
chosen_twice false all ps xs ys zs i j = choices_compose all ps xs ys zs i j

-- ---- a class at itself
pub other_class : (v g : Bool) → v ≡ false → g ≡ true → elim v [ true ↦ false | false ↦ g ] ≡ true
other_class true g n e = no (sym n)
other_class false g n e = e

pub its_class : (v g : Bool) → v ≡ true → g ≡ true → elim v [ true ↦ g | false ↦ false ] ≡ true
its_class true g n e = e
its_class false g n e = no n

both_true : {a b c d : Bool} → a ≡ b → c ≡ d → (a && c) ≡ (b && d)
both_true e f = cc (e, f)

-- what is of one class is of no other
not_at : (c d : ℕ) (t : Ty) → nat_eq c d ≡ false → is_class d t ≡ true → is_class c t ≡ false
not_at c d (Class e xs) n q = subst (λ k. nat_eq k c ≡ false) (sym (eqb-true e d q)) (turned c d n)
not_at c d (Param x) n q = no q
not_at c d Nothing n q = no q
not_at c d (Nullable t) n q = no q

pub one_formed : (h : Heads) (v : Variance) (a : Arg) → Arg_formed h a → Arg_formed h (reduced v a)
one_formed h Invariant a k = k
one_formed h Covariant (Exact t) k = k
one_formed h Covariant (Out t) k = k
one_formed h Covariant (In t) k = tt
one_formed h Covariant Star k = tt
one_formed h Contravariant (Exact t) k = k
one_formed h Contravariant (Out t) k = tt
one_formed h Contravariant (In t) k = k
one_formed h Contravariant Star k = tt

chosen : (b : Bool) (g : Given) (o : Option Given) → b ≡ true → cond b (Some g) o ≡ Some g
chosen true g o e = refl
chosen false g o e = no e

passed_over : (b : Bool) (g : Given) (o : Option Given) → b ≡ false → cond b (Some g) o ≡ o
passed_over false g o e = refl
passed_over true g o e = no (sym e)

-- what an argument that is a parameter alone becomes
abbrev own_one : Bool → Variance → ℕ → Option Given → Arg
own_one f v x o = unless_against v (Exact (Param x)) (cond f (flat v (value_up x o) (value_down x o)) (alone x o))

own_one_is : (f : Bool) (v : Variance) (x y : ℕ) (a : Arg) (top : Ty) → (f ≡ true → Exact_args (more a none)) → own_one f v x (Some (record { var = y; arg = a; top = top })) ≡ a
own_one_is false v x y a top e = kept v (Param x) a
own_one_is true v x y (Exact t) top e = kept v (Param x) (flat v t t) ∙ flat_same v t t t refl refl
own_one_is true v x y (Out t) top e = absurd (e refl)
own_one_is true v x y (In t) top e = absurd (e refl)
own_one_is true v x y Star top e = absurd (e refl)

exact_first : (a : Arg) (xs : Args) → Exact_args (more a xs) → Exact_args (more a none)
exact_first (Exact t) xs e = tt
exact_first (Out t) xs e = e
exact_first (In t) xs e = e
exact_first Star xs e = e

exact_rest : (a : Arg) (xs : Args) → Exact_args (more a xs) → Exact_args xs
exact_rest (Exact t) xs e = e
exact_rest (Out t) xs e = absurd e
exact_rest (In t) xs e = absurd e
exact_rest Star xs e = absurd e

module _ (h : Heads) where
  skip : (f : Bool) (g : Given) (gs : List Given) (qs : List HeadParam) → is_own qs g.var ≡ false → up_args h (g ∷ gs) f qs (own_args qs) ≡ up_args h gs f qs (own_args qs)
  skip f g gs [] e = refl
  skip f g gs (q ∷ qs) e =
      let p = either_false (nat_eq q.var g.var) (is_own qs g.var) e in
      both_more (ap (λ o. own_one f q.variance q.var o) (passed_over (nat_eq g.var q.var) g (given gs q.var) (turned q.var g.var p.0))) (skip f g gs qs p.1)

  pub own_up : (f : Bool) (all : HeadParam → Ty) (ps : List HeadParam) (xs : Args) → Args_formed h ps xs → (f ≡ true → Exact_args xs) → Different ps → up_args h (given_all all ps xs) f ps (own_args ps) ≡ xs
  own_up f all [] none k e d = refl
  own_up f all (p ∷ ps) (more a xs) k e d =
      let g : Given = record { var = p.var; arg = a; top = all p } in
      both_more
      (ap (λ o. own_one f p.variance p.var o) (chosen (nat_eq p.var p.var) g (given (given_all all ps xs) p.var) (eq-eqb p.var p.var refl)) ∙ own_one_is f p.variance p.var p.var a (all p) (λ q. exact_first a xs (e q)))
      (skip f g (given_all all ps xs) ps d.0 ∙ own_up f all ps xs k.1 (λ q. exact_rest a xs (e q)) d.1)
  own_up f all [] (more a xs) k e d = absurd k
  own_up f all (p ∷ ps) none k e d = absurd k

  pub itself_in : (all : HeadParam → Ty) (ps : List HeadParam) (xs : Args) → Args_formed h ps xs → IsIn Args xs (choices all ps xs)
  itself_in all [] none k = here
  itself_in all (p ∷ ps) (more a xs) k =
      made_in a (options p.variance (all p) a) xs (choices all ps xs) (option_itself p.variance (all p) a) (itself_in all ps xs k.1)
  itself_in all [] (more a xs) k = absurd k
  itself_in all (p ∷ ps) none k = absurd k

  pub itself_chosen : (v : Bool) (all : HeadParam → Ty) (ps : List HeadParam) (xs : Args) → Args_formed h ps xs → IsIn Args xs (choices_by v all ps xs)
  itself_chosen true all ps xs k = here
  itself_chosen false all ps xs k = itself_in all ps xs k

  picked : (b : Bool) (s : Ty) (o : Option Ty) → b ≡ true → cond b (Some s) o ≡ Some s
  picked true s o e = refl
  picked false s o e = no e

  first_at : (n c : ℕ) (xs : Args) → at_class c (above_at n h c xs) ≡ Some (Class c xs)
  first_at zero c xs = picked (nat_eq c c) (Class c xs) None (eq-eqb c c refl)
  first_at (suc n) c xs = picked (nat_eq c c) (Class c xs) _ (eq-eqb c c refl)

  own_instance : (c : ℕ) → instance h c c ≡ Some (own_type h c)
  own_instance c = first_at h.classes c (own_args (h.params c))

  pub any_in : (go : Ty → Ty → Bool) (c : ℕ) (xs : Args) (xss : List Args) (d : ℕ) (ys : Args) → IsIn Args xs xss → fits_with go h c xs d ys ≡ true → any_fits go h c xss d ys ≡ true
  any_in go c xs [] d ys i e = elim i [ ]
  any_in go c xs (zs ∷ xss) d ys here e = or_left (fits_with go h c xs d ys) (any_fits go h c xss d ys) e
  any_in go c xs (zs ∷ xss) d ys (later i) e = or_right (fits_with go h c zs d ys) (any_fits go h c xss d ys) (any_in go c xs xss d ys i e)

  above_in : (go : Ty → Ty → Bool) (gs : List Given) (c : ℕ) (b : Ty) (ts : List Ty) (t : Ty) → IsIn Ty t ts → is_class c t ≡ false → go (up h gs t) b ≡ true → above_with go h gs c b ts ≡ true
  above_in go gs c b [] t i n e = elim i [ ]
  above_in go gs c b (s ∷ ts) t here n e = or_left (elim (is_class c t) [ true ↦ false | false ↦ go (up h gs t) b ]) (above_with go h gs c b ts) (other_class (is_class c t) (go (up h gs t) b) n e)
  above_in go gs c b (s ∷ ts) t (later i) n e = or_right (elim (is_class c s) [ true ↦ false | false ↦ go (up h gs s) b ]) (above_with go h gs c b ts) (above_in go gs c b ts t i n e)

  -- yes by its own arguments
  pub same_fits : (go : Ty → Ty → Bool) (c : ℕ) (xs ys : Args) → all_with go (star_bound h c) (h.params c) xs ys ≡ true → fits_with go h c xs c ys ≡ true
  same_fits go c xs ys e =
      or_left (elim (nat_eq c c) [ true ↦ all_with go (star_bound h c) (h.params c) xs ys | false ↦ false ]) (above_with go h (class_given h c xs) c (Class c ys) (above h c))
      (its_class (nat_eq c c) (all_with go (star_bound h c) (h.params c) xs ys) (eq-eqb c c refl) e)

  pub super_fits : (go : Ty → Ty → Bool) (c : ℕ) (xs : Args) (d : ℕ) (ys : Args) (t : Ty) → IsIn Ty t (above h c) → is_class c t ≡ false → go (up h (class_given h c xs) t) (Class d ys) ≡ true → fits_with go h c xs d ys ≡ true
  super_fits go c xs d ys t i n e =
      or_right (elim (nat_eq c d) [ true ↦ all_with go (star_bound h c) (h.params c) xs ys | false ↦ false ]) (above_with go h (class_given h c xs) c (Class d ys) (above h c))
      (above_in go (class_given h c xs) c (Class d ys) (above h c) t i n e)

  abbrev Yes : Ty → Ty → Type 0
  Yes a b = (n : ℕ) × (below n h a b ≡ true)

  abbrev All_yes : (HeadParam → Ty) → List HeadParam → Args → Type 0
  All_yes all ps xs = (n : ℕ) × (all_with (below n h) all ps xs xs ≡ true)

  by_choice : (n c : ℕ) (xs : Args) (d : ℕ) (ys : Args) → Args_formed h (h.params c) xs → fits_with (below n h) h c xs d ys ≡ true → Yes (Class c xs) (Class d ys)
  by_choice n c xs d ys k e =
      (suc n, or_right (nat_eq d h.any && is_empty ys) (any_fits (below n h) h c (class_choices h c xs) d ys) (any_in (below n h) c xs (class_choices h c xs) d ys (itself_chosen (h.is_function c) (star_bound h c) (h.params c) xs k) e))

  all_reduced : (go : Ty → Ty → Bool) (all : HeadParam → Ty) (ps : List HeadParam) (xs ys : Args) → all_with go all ps (reduced_args ps xs) ys ≡ all_with go all ps xs ys
  all_reduced go all [] xs ys = refl
  all_reduced go all (p ∷ ps) none ys = refl
  all_reduced go all (p ∷ ps) (more a xs) none = refl
  all_reduced go all (p ∷ ps) (more a xs) (more b ys) =
      both_true (ap (λ c. contains_with go (all p) c (read p.variance b)) (read_reduced p.variance a)) (all_reduced go all ps xs ys)

  pub reduced_formed : (ps : List HeadParam) (xs : Args) → Args_formed h ps xs → Args_formed h ps (reduced_args ps xs)
  reduced_formed [] none k = tt
  reduced_formed [] (more a xs) k = absurd k
  reduced_formed (p ∷ ps) none k = absurd k
  reduced_formed (p ∷ ps) (more a xs) k = (one_formed h p.variance a k.0, reduced_formed ps xs k.1)

  module _ (different : (c : ℕ) → Different (h.params c)) where
    -- a class's own type, taken upwards
    pub own_reduced : (c : ℕ) (xs : Args) → Formed h (Class c xs) → up h (class_given h c xs) (own_type h c) ≡ Class c (reduced_args (h.params c) xs)
    own_reduced c xs k =
        ap (λ us. Class c us) (own_up (h.is_function c) (star_bound h c) (h.params c) (reduced_args (h.params c) xs) (reduced_formed (h.params c) xs k.1)
        (λ f. subst (λ us. Exact_args us) (sym (reduced_exact (h.params c) xs (k.0 f))) (k.0 f)) (different c))

    own_yes : (c : ℕ) (xs : Args) → Formed h (Class c xs) → All_yes (star_bound h c) (h.params c) xs → Yes (Class c xs) (Class c xs)
    own_yes c xs k r = by_choice r.0 c xs c xs k.1 (same_fits (below r.0 h) c xs xs r.1)

    -- at the class itself the instance has the arguments as their variance has them
    own_instance_yes : (c d : ℕ) (xs ys : Args) (t : Ty) → c ≡ d → instance h c d ≡ Some t → up h (class_given h c xs) t ≡ Class d ys → Formed h (Class c xs) → All_yes (star_bound h d) (h.params d) ys → Yes (Class c xs) (Class d ys)
    own_instance_yes c d xs ys t s e u k r =
        let own : Some (own_type h c) ≡ Some t = sym (own_instance c) ∙ subst (λ q. instance h c q ≡ Some t) (sym s) e in
        let is : own_type h c ≡ t = cc in
        let at : Class c (reduced_args (h.params c) xs) ≡ Class d ys = sym (own_reduced c xs k) ∙ ap (λ q. up h (class_given h c xs) q) is ∙ u in
        let args : reduced_args (h.params c) xs ≡ ys = cc in
        let mine : all_with (below r.0 h) (star_bound h c) (h.params c) ys ys ≡ true = subst (λ q. all_with (below r.0 h) (star_bound h q) (h.params q) ys ys ≡ true) (sym s) r.1 in
        let all : all_with (below r.0 h) (star_bound h c) (h.params c) xs ys ≡ true =
        sym (all_reduced (below r.0 h) (star_bound h c) (h.params c) xs ys) ∙ subst (λ us. all_with (below r.0 h) (star_bound h c) (h.params c) us ys ≡ true) (sym args) mine in
        subst (λ q. Yes (Class c xs) (Class q ys)) s (by_choice r.0 c xs c ys k.1 (same_fits (below r.0 h) c xs ys all))

    super_yes : (c d : ℕ) (xs ys : Args) (t : Ty) → nat_eq c d ≡ false → instance h c d ≡ Some t → up h (class_given h c xs) t ≡ Class d ys → Args_formed h (h.params c) xs → Yes (Class d ys) (Class d ys) → Yes (Class c xs) (Class d ys)
    super_yes c d xs ys t n e u k r =
        let i = at_class_in d (above h c) t e in
        by_choice r.0 c xs d ys k (super_fits (below r.0 h) c xs d ys t i.0 (not_at c d t n i.1) (subst (λ w. below r.0 h w (Class d ys) ≡ true) (sym u) r.1))

    null_yes : (c : ℕ) (xs : Args) → Yes (Class c xs) (Class c xs) → Yes (Nullable (Class c xs)) (Nullable (Class c xs))
    null_yes c xs r = (suc (suc r.0), or_right (is_anything h (Nullable (Class c xs))) (below (suc r.0) h (Class c xs) (Nullable (Class c xs))) (or_right (is_anything h (Nullable (Class c xs))) (below r.0 h (Class c xs) (Class c xs)) r.1))

    next_yes : (all : HeadParam → Ty) (ps : List HeadParam) (p : HeadParam) (a : Arg) (xs : Args) → (n : ℕ) × (contains_with (below n h) (all p) (read p.variance a) (read p.variance a) ≡ true) → All_yes all ps xs → All_yes all (p ∷ ps) (more a xs)
    next_yes all ps p a xs r q = (
      max r.0 q.0,
      and_true (contains_with (below (max r.0 q.0) h) (all p) (read p.variance a) (read p.variance a)) (all_with (below (max r.0 q.0) h) all ps xs xs)
          (contains_grows h (below r.0 h) (below (max r.0 q.0) h) (below_grows h r.0 (max r.0 q.0) (omega arith)) (all p) (read p.variance a) (read p.variance a) r.1)
          (all_grow h (below q.0 h) (below (max r.0 q.0) h) (below_grows h q.0 (max r.0 q.0) (omega arith)) all ps xs xs q.1),
    )

    mutual
      pub reflexive : (a : Ty) → Formed h a → Yes a a
      reflexive (Class c xs) k = own_yes c xs k (all_reflexive (star_bound h c) (h.params c) xs k.1)
      reflexive (Param x) k = (suc zero, or_left (nat_eq x x) false (eq-eqb x x refl))
      reflexive Nothing k = (suc zero, refl)
      reflexive (Nullable (Class c xs)) k = null_yes c xs (reflexive (Class c xs) k.1)
      reflexive (Nullable (Param x)) k = (suc (suc zero), or_left (nat_eq x x) (below zero h (h.bound_of x) (Nullable (Param x))) (eq-eqb x x refl))
      reflexive (Nullable Nothing) k = (suc (suc zero), refl)
      reflexive (Nullable (Nullable t)) k = absurd k.0

      all_reflexive : (all : HeadParam → Ty) (ps : List HeadParam) (xs : Args) → Args_formed h ps xs → All_yes all ps xs
      all_reflexive all [] none k = (zero, refl)
      all_reflexive all (p ∷ ps) (more a xs) k = next_yes all ps p a xs (arg_reflexive p.variance (all p) a k.0) (all_reflexive all ps xs k.1)
      all_reflexive all [] (more a xs) k = absurd k
      all_reflexive all (p ∷ ps) none k = absurd k

      arg_reflexive : (v : Variance) (top : Ty) (a : Arg) → Arg_formed h a → (n : ℕ) × (contains_with (below n h) top (read v a) (read v a) ≡ true)
      arg_reflexive Invariant top (Exact t) k = let r = reflexive t k in (r.0, and_true (below r.0 h t t) (below r.0 h t t) r.1 r.1)
      arg_reflexive Covariant top (Exact t) k = reflexive t k
      arg_reflexive Contravariant top (Exact t) k = reflexive t k
      arg_reflexive Invariant top (Out t) k = reflexive t k
      arg_reflexive Covariant top (Out t) k = reflexive t k
      arg_reflexive Contravariant top (Out t) k = (zero, refl)
      arg_reflexive Invariant top (In t) k = reflexive t k
      arg_reflexive Covariant top (In t) k = (zero, refl)
      arg_reflexive Contravariant top (In t) k = reflexive t k
      arg_reflexive Invariant top Star k = (zero, refl)
      arg_reflexive Covariant top Star k = (zero, refl)
      arg_reflexive Contravariant top Star k = (zero, refl)

pub is_reflexive : BelowIsReflexive
is_reflexive h different a k = reflexive h different a k

instance_cases : (h : Heads) (different : (c : ℕ) → Different (h.params c)) (c d : ℕ) (xs ys : Args) (t : Ty) → instance h c d ≡ Some t → up h (class_given h c xs) t ≡ Class d ys → Formed h (Class c xs) → Formed h (Class d ys) →
    (v : Bool) → nat_eq c d ≡ v → Yes h (Class c xs) (Class d ys)
instance_cases h different c d xs ys t e u k l true q = own_instance_yes h different c d xs ys t (eqb-true c d q) e u k (all_reflexive h different (star_bound h d) (h.params d) ys l.1)
instance_cases h different c d xs ys t e u k l false q = super_yes h different c d xs ys t q e u k.1 (reflexive h different (Class d ys) l)

pub has_instances : BelowHasInstances
has_instances h different c d xs ys t e u k l = instance_cases h different c d xs ys t e u k l (nat_eq c d) refl

pub grows : BelowGrows
grows h n m a b le e = below_grows h n m le a b e
