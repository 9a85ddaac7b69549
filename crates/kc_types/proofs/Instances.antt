-- A class type whose arguments are types that keep their bounds, at each of its superclasses, has an instance there that is contained
-- in whatever it is below of that class.
use Rattle.std.proofs.Common.{◌≡◌, ℕ, zero, suc, ◌<◌, Bool, true, false, nat_eq, List, [], ◌∷◌, Option, Some, cond, ◌||◌, refl, sym, ap, subst, ◌∙◌, ◌⊎◌, inl, inr, eq-eqb, arith}
use Rattle.kc_types.specs.Types.{Ty, Class, Param, Nothing, Nullable, Arg, Exact, Out, In, Star, Args, none, more, Variance, Invariant, Covariant, Contravariant, HeadParam, Heads, Given, nullable, given, is_given_projection, names, names_arg, names_args, value_up, variance_at, rest_of, unless_against, up, down, up_arg, up_args, is_own, star_bound, given_all, class_given, reduced, reduced_args}
use Rattle.kc_types.specs.Supertypes.{IsIn, here, later, Supertype, put, put_arg, put_args, put_in, is_class, own_args, own_type, RanksBelow}
use Rattle.kc_types.specs.Supertypes.Supertype.{own, next}
use Rattle.kc_types.specs.Subtype.{read, options, choices, choices_by, class_choices}
use Rattle.kc_types.specs.Formed.{Different, Exact_args, Formed, Args_formed}
use Rattle.kc_types.specs.FormedSub.{Over, Arg_over, All_over, ValidHeads, Kept, Keeps}
use Rattle.kc_types.proofs.Exacts.{neither, kept, reduced_type, reduced_exact, given_exact}
use Rattle.kc_types.proofs.Upwards.{one_way, up_unnamed}
use Rattle.kc_types.proofs.CoreInWhole.{twice, put_nullable, either_false, turned}
use Rattle.kc_types.proofs.Supertypes.{above_only}
use Rattle.kc_types.proofs.Sound.{made}
use Rattle.kc_types.proofs.Reflexive.{own_reduced, only_none, both_more}
use Rattle.kc_types.proofs.Placed.{placed}
use Rattle.kc_types.proofs.Firm.{Rel, rel_same, rel_through, In_by, All_by, Firm, Firms}
use Rattle.kc_types.proofs.Outermost.{Way, Fits, Unfolded, on_from_lower, own_there, raised_super, class_formed, outermost}
use Rattle.kc_types.proofs.Outermost.Way.{by_args, by_super}

no : {A : Type 0} → true ≡ false → A
no e = absurd (cc)

-- ---- where each parameter stands for a type
module _ (h : Heads) (gs : List Given) (typed : (x : ℕ) → is_given_projection (given gs x) ≡ false) where
  mutual
    pub unnamed : (t : Ty) → names gs t ≡ false
    unnamed (Class c xs) = unnamed_args xs
    unnamed (Param x) = typed x
    unnamed Nothing = refl
    unnamed (Nullable t) = unnamed t

    unnamed_arg : (a : Arg) → names_arg gs a ≡ false
    unnamed_arg (Exact t) = unnamed t
    unnamed_arg (Out t) = unnamed t
    unnamed_arg (In t) = unnamed t
    unnamed_arg Star = refl

    unnamed_args : (xs : Args) → names_args gs xs ≡ false
    unnamed_args none = refl
    unnamed_args (more a xs) = neither (names_arg gs a) (names_args gs xs) (unnamed_arg a) (unnamed_args xs)

  pub same_ways : (t : Ty) → up h gs t ≡ down h gs t
  same_ways t = one_way h gs t (unnamed t)

  pub exact_is : (f : Bool) (v : Variance) (t : Ty) → unless_against v (Exact t) (up_arg h gs f (Exact t) v) ≡ Exact (up h gs t)
  exact_is f v t = kept v t (up_arg h gs f (Exact t) v) ∙ up_unnamed h gs f v t (unnamed t) (same_ways t)

  pub exact_args : (f : Bool) (ps : List HeadParam) (xs : Args) → Exact_args xs → Exact_args (up_args h gs f ps xs)
  exact_args f ps none e = tt
  exact_args f ps (more (Exact t) xs) e =
      subst (λ a. Exact_args (more a (up_args h gs f (rest_of ps) xs))) (sym (exact_is f (variance_at ps) t)) (exact_args f (rest_of ps) xs e)
  exact_args f ps (more (Out t) xs) e = absurd e
  exact_args f ps (more (In t) xs) e = absurd e
  exact_args f ps (more Star xs) e = absurd e

  up_nullable : (t : Ty) → up h gs (nullable t) ≡ nullable (up h gs t)
  up_nullable (Class c xs) = refl
  up_nullable (Param x) = refl
  up_nullable Nothing = refl
  up_nullable (Nullable t) = twice (up h gs t)

  -- what a parameter stands for, by the arguments taken upwards
  place : (b c : Bool) (x y : ℕ) (t w top : Ty) (a : Arg) (o : Option Given) → a ≡ Exact (up h gs t) → (c ≡ true → up h gs w ≡ value_up x o) → (b || c) ≡ true →
      up h gs (cond b t w) ≡ value_up x (cond b (Some (record { var = y; arg = a; top = top })) o)
  place true c x y t w top a o e f q = subst (λ r. up h gs t ≡ value_up x (Some (record { var = y; arg = r; top = top }))) (sym e) refl
  place false c x y t w top a o e f q = f q

  places : (f : Bool) (all : HeadParam → Ty) (ps : List HeadParam) (zs : Args) → Exact_args zs → Args_formed h ps zs → (x : ℕ) → is_own ps x ≡ true → up h gs (put_in ps zs x) ≡ value_up x (given (given_all all ps (reduced_args ps (up_args h gs f ps zs))) x)
  places f all [] none e k x q = no (sym q)
  places f all (p ∷ ps) (more (Exact t) zs) e k x q =
      place (nat_eq p.var x) (is_own ps x) x p.var t (put_in ps zs x) (all p) (reduced p.variance (unless_against p.variance (Exact t) (up_arg h gs f (Exact t) p.variance)))
      (given (given_all all ps (reduced_args ps (up_args h gs f ps zs))) x) (ap (reduced p.variance) (exact_is f p.variance t) ∙ reduced_type p.variance (up h gs t)) (places f all ps zs e k.1 x) q
  places f all (p ∷ ps) (more (Out t) zs) e k x q = absurd e
  places f all (p ∷ ps) (more (In t) zs) e k x q = absurd e
  places f all (p ∷ ps) (more Star zs) e k x q = absurd e
  places f all [] (more a zs) e k x q = absurd k
  places f all (p ∷ ps) none e k x q = absurd k

-- ---- one after the other
module _ (h : Heads) (gs ks : List Given) (typed : (x : ℕ) → is_given_projection (given gs x) ≡ false) (typed_too : (x : ℕ) → is_given_projection (given ks x) ≡ false)
    (ps : List HeadParam) (s : ℕ → Ty) (is : (x : ℕ) → is_own ps x ≡ true → up h gs (s x) ≡ value_up x (given ks x)) where
  mutual
    pub joined : (t : Ty) → Over ps t → up h gs (put s t) ≡ up h ks t
    joined (Class c xs) o = ap (λ us. Class c us) (joined_args (h.is_function c) (h.params c) xs o)
    joined (Param x) o = is x o
    joined Nothing o = refl
    joined (Nullable t) o = up_nullable h gs typed (put s t) ∙ ap nullable (joined t o)

    joined_arg : (f : Bool) (v : Variance) (a : Arg) → Arg_over ps a → unless_against v (put_arg s a) (up_arg h gs f (put_arg s a) v) ≡ unless_against v a (up_arg h ks f a v)
    joined_arg f v (Exact t) o = exact_is h gs typed f v (put s t) ∙ ap (λ u. Exact u) (joined t o) ∙ sym (exact_is h ks typed_too f v t)
    joined_arg f Invariant (Out t) o = ap (λ u. Out u) (joined t o)
    joined_arg f Covariant (Out t) o = ap (λ u. Out u) (joined t o)
    joined_arg f Contravariant (Out t) o = refl
    joined_arg f Invariant (In t) o = ap (λ u. In u) (sym (same_ways h gs typed (put s t)) ∙ joined t o ∙ same_ways h ks typed_too t)
    joined_arg f Covariant (In t) o = refl
    joined_arg f Contravariant (In t) o = ap (λ u. In u) (sym (same_ways h gs typed (put s t)) ∙ joined t o ∙ same_ways h ks typed_too t)
    joined_arg f Invariant Star o = refl
    joined_arg f Covariant Star o = refl
    joined_arg f Contravariant Star o = refl

    joined_args : (f : Bool) (rs : List HeadParam) (xs : Args) → All_over ps xs → up_args h gs f rs (put_args s xs) ≡ up_args h ks f rs xs
    joined_args f rs none o = refl
    joined_args f rs (more a xs) o = both_more (joined_arg f (variance_at rs) a o.0) (joined_args f (rest_of rs) xs o.1)

-- ---- types put in twice
place_put : (b c : Bool) (s : ℕ → Ty) (t w u : Ty) → (c ≡ true → put s w ≡ u) → (b || c) ≡ true → put s (cond b t w) ≡ cond b (put s t) u
place_put true c s t w u f q = refl
place_put false c s t w u f q = f q

places_put : (h : Heads) (s : ℕ → Ty) (ps : List HeadParam) (xs : Args) → Exact_args xs → Args_formed h ps xs → (x : ℕ) → is_own ps x ≡ true → put s (put_in ps xs x) ≡ put_in ps (put_args s xs) x
places_put h s [] none e k x q = no (sym q)
places_put h s (p ∷ ps) (more (Exact t) xs) e k x q = place_put (nat_eq p.var x) (is_own ps x) s t (put_in ps xs x) (put_in ps (put_args s xs) x) (places_put h s ps xs e k.1 x) q
places_put h s (p ∷ ps) (more (Out t) xs) e k x q = absurd e
places_put h s (p ∷ ps) (more (In t) xs) e k x q = absurd e
places_put h s (p ∷ ps) (more Star xs) e k x q = absurd e
places_put h s [] (more a xs) e k x q = absurd k
places_put h s (p ∷ ps) none e k x q = absurd k

module _ (s r q : ℕ → Ty) (ps : List HeadParam) (is : (x : ℕ) → is_own ps x ≡ true → put s (r x) ≡ q x) where
  mutual
    put_put : (t : Ty) → Over ps t → put s (put r t) ≡ put q t
    put_put (Class c xs) o = ap (λ us. Class c us) (put_put_args xs o)
    put_put (Param x) o = is x o
    put_put Nothing o = refl
    put_put (Nullable t) o = put_nullable s (put r t) ∙ ap nullable (put_put t o)

    put_put_arg : (a : Arg) → Arg_over ps a → put_arg s (put_arg r a) ≡ put_arg q a
    put_put_arg (Exact t) o = ap (λ u. Exact u) (put_put t o)
    put_put_arg (Out t) o = ap (λ u. Out u) (put_put t o)
    put_put_arg (In t) o = ap (λ u. In u) (put_put t o)
    put_put_arg Star o = refl

    put_put_args : (xs : Args) → All_over ps xs → put_args s (put_args r xs) ≡ put_args q xs
    put_put_args none o = refl
    put_put_args (more a xs) o = both_more (put_put_arg a o.0) (put_put_args xs o.1)

chosen_one : (b : Bool) (t u : Ty) → b ≡ true → cond b t u ≡ t
chosen_one true t u e = refl
chosen_one false t u e = no (sym e)

passed_one : (b : Bool) (t u : Ty) → b ≡ false → cond b t u ≡ u
passed_one false t u e = refl
passed_one true t u e = no e

skipped : (p : HeadParam) (t : Ty) (ps : List HeadParam) (xs : Args) (qs : List HeadParam) → is_own qs p.var ≡ false → put_args (put_in (p ∷ ps) (more (Exact t) xs)) (own_args qs) ≡ put_args (put_in ps xs) (own_args qs)
skipped p t ps xs [] e = refl
skipped p t ps xs (q ∷ qs) e =
    let f = either_false (nat_eq q.var p.var) (is_own qs p.var) e in
    both_more (ap (λ u. Exact u) (passed_one (nat_eq p.var q.var) t (put_in ps xs q.var) (turned q.var p.var f.0))) (skipped p t ps xs qs f.1)

stays : (h : Heads) (ps : List HeadParam) (xs : Args) → Different ps → Exact_args xs → Args_formed h ps xs → put_args (put_in ps xs) (own_args ps) ≡ xs
stays h [] none d e k = refl
stays h (p ∷ ps) (more (Exact t) xs) d e k =
    both_more (ap (λ u. Exact u) (chosen_one (nat_eq p.var p.var) t (put_in ps xs p.var) (eq-eqb p.var p.var refl))) (skipped p t ps xs ps d.0 ∙ stays h ps xs d.1 e k.1)
stays h (p ∷ ps) (more (Out t) xs) d e k = absurd e
stays h (p ∷ ps) (more (In t) xs) d e k = absurd e
stays h (p ∷ ps) (more Star xs) d e k = absurd e
stays h [] (more a xs) d e k = absurd k
stays h (p ∷ ps) none d e k = absurd k

-- ---- choices of arguments that keep their bounds
module _ (h : Heads) where
  option_firm : (v : Variance) (top x : Ty) (a : Arg) → Rel h x top → IsIn Arg a (options v top (Exact x)) → Firm (Rel h) v top (reduced v (Exact x)) (reduced v a)
  option_firm Contravariant top x a r here = rel_same h x r.0
  option_firm Contravariant top x a r (later i) = elim i [ ]
  option_firm Covariant top x a r here = rel_same h x r.0
  option_firm Covariant top x a r (later here) = r
  option_firm Covariant top x a r (later (later i)) = elim i [ ]
  option_firm Invariant top x a r here = (rel_same h x r.0, rel_same h x r.0)
  option_firm Invariant top x a r (later here) = (rel_same h x r.0, r)
  option_firm Invariant top x a r (later (later here)) = r
  option_firm Invariant top x a r (later (later (later i))) = elim i [ ]

  choice_firm : (all : HeadParam → Ty) (ps : List HeadParam) (xs ys : Args) → Exact_args xs → Kept h all ps xs → IsIn Args ys (choices all ps xs) → Firms (Rel h) all ps xs ys
  choice_firm all [] none ys e k i = subst (λ us. Firms (Rel h) all [] none us) (sym (only_none ys i)) tt
  choice_firm all [] (more a xs) ys e k i = elim i [ ]
  choice_firm all (p ∷ ps) none ys e k i = elim i [ ]
  choice_firm all (p ∷ ps) (more (Exact t) xs) ys e k i =
      let m = made (options p.variance (all p) (Exact t)) (choices all ps xs) ys i in
      subst (λ us. Firms (Rel h) all (p ∷ ps) (more (Exact t) xs) us) (sym m.is) (option_firm p.variance (all p) t m.a k.0 m.first_in, choice_firm all ps xs m.xs e k.1 m.rest_in)
  choice_firm all (p ∷ ps) (more (Out t) xs) ys e k i = absurd e
  choice_firm all (p ∷ ps) (more (In t) xs) ys e k i = absurd e
  choice_firm all (p ∷ ps) (more Star xs) ys e k i = absurd e

  exact_firm_same : (v : Variance) (top x : Ty) → Formed h x → Firm (Rel h) v top (reduced v (Exact x)) (reduced v (Exact x))
  exact_firm_same Invariant top x k = (rel_same h x k, rel_same h x k)
  exact_firm_same Covariant top x k = rel_same h x k
  exact_firm_same Contravariant top x k = rel_same h x k

  same_firm : (all : HeadParam → Ty) (ps : List HeadParam) (xs : Args) → Exact_args xs → Args_formed h ps xs → Firms (Rel h) all ps xs xs
  same_firm all [] none e k = tt
  same_firm all (p ∷ ps) (more (Exact t) xs) e k = (exact_firm_same p.variance (all p) t k.0, same_firm all ps xs e k.1)
  same_firm all (p ∷ ps) (more (Out t) xs) e k = absurd e
  same_firm all (p ∷ ps) (more (In t) xs) e k = absurd e
  same_firm all (p ∷ ps) (more Star xs) e k = absurd e
  same_firm all [] (more a xs) e k = absurd k
  same_firm all (p ∷ ps) none e k = absurd k

  choice_by_firm : (v : Bool) (all : HeadParam → Ty) (ps : List HeadParam) (xs ys : Args) → Exact_args xs → Args_formed h ps xs → Kept h all ps xs → IsIn Args ys (choices_by v all ps xs) → Firms (Rel h) all ps xs ys
  choice_by_firm true all ps xs ys e k q here = same_firm all ps xs e k
  choice_by_firm true all ps xs ys e k q (later i) = elim i [ ]
  choice_by_firm false all ps xs ys e k q i = choice_firm all ps xs ys e q i

  -- what contains a choice contains the arguments
  contains_first : (v : Variance) (top x : Ty) (a b : Arg) → Firm (Rel h) v top (reduced v (Exact x)) (reduced v a) → In_by (Rel h) top (read v a) (read v b) → In_by (Rel h) top (read v (Exact x)) (read v b)
  contains_first Invariant top x (Exact y) (Exact z) f r = (rel_through h x y z f.0 r.0, rel_through h z y x r.1 f.1)
  contains_first Invariant top x (Exact y) (Out z) f r = rel_through h x y z f.0 r
  contains_first Invariant top x (Exact y) (In z) f r = rel_through h z y x r f.1
  contains_first Invariant top x (Exact y) Star f r = tt
  contains_first Invariant top x (Out y) (Exact z) f r = absurd r
  contains_first Invariant top x (Out y) (Out z) f r = rel_through h x y z f r
  contains_first Invariant top x (Out y) (In z) f r = absurd r
  contains_first Invariant top x (Out y) Star f r = tt
  contains_first Invariant top x (In y) (Exact z) f r = absurd r
  contains_first Invariant top x (In y) (Out z) f r = rel_through h x top z f.1 r
  contains_first Invariant top x (In y) (In z) f r = rel_through h z y x r f.0
  contains_first Invariant top x (In y) Star f r = tt
  contains_first Invariant top x Star (Exact z) f r = absurd r
  contains_first Invariant top x Star (Out z) f r = rel_through h x top z f r
  contains_first Invariant top x Star (In z) f r = absurd r
  contains_first Invariant top x Star Star f r = tt
  contains_first Covariant top x (Exact y) (Exact z) f r = rel_through h x y z f r
  contains_first Covariant top x (Exact y) (Out z) f r = rel_through h x y z f r
  contains_first Covariant top x (Exact y) (In z) f r = tt
  contains_first Covariant top x (Exact y) Star f r = tt
  contains_first Covariant top x (Out y) (Exact z) f r = rel_through h x y z f r
  contains_first Covariant top x (Out y) (Out z) f r = rel_through h x y z f r
  contains_first Covariant top x (Out y) (In z) f r = tt
  contains_first Covariant top x (Out y) Star f r = tt
  contains_first Covariant top x (In y) (Exact z) f r = rel_through h x top z f r
  contains_first Covariant top x (In y) (Out z) f r = rel_through h x top z f r
  contains_first Covariant top x (In y) (In z) f r = tt
  contains_first Covariant top x (In y) Star f r = tt
  contains_first Covariant top x Star (Exact z) f r = rel_through h x top z f r
  contains_first Covariant top x Star (Out z) f r = rel_through h x top z f r
  contains_first Covariant top x Star (In z) f r = tt
  contains_first Covariant top x Star Star f r = tt
  contains_first Contravariant top x (Exact y) (Exact z) f r = rel_through h z y x r f
  contains_first Contravariant top x (Exact y) (Out z) f r = tt
  contains_first Contravariant top x (Exact y) (In z) f r = rel_through h z y x r f
  contains_first Contravariant top x (Exact y) Star f r = tt
  contains_first Contravariant top x (Out y) (Exact z) f r = absurd r
  contains_first Contravariant top x (Out y) (Out z) f r = tt
  contains_first Contravariant top x (Out y) (In z) f r = absurd r
  contains_first Contravariant top x (Out y) Star f r = tt
  contains_first Contravariant top x (In y) (Exact z) f r = rel_through h z y x r f
  contains_first Contravariant top x (In y) (Out z) f r = tt
  contains_first Contravariant top x (In y) (In z) f r = rel_through h z y x r f
  contains_first Contravariant top x (In y) Star f r = tt
  contains_first Contravariant top x Star (Exact z) f r = absurd r
  contains_first Contravariant top x Star (Out z) f r = tt
  contains_first Contravariant top x Star (In z) f r = absurd r
  contains_first Contravariant top x Star Star f r = tt

  all_first : (all : HeadParam → Ty) (ps : List HeadParam) (xs us ys : Args) → Exact_args xs → Firms (Rel h) all ps xs us → All_by (Rel h) all ps us ys → All_by (Rel h) all ps xs ys
  all_first all [] none none none e f r = tt
  all_first all (p ∷ ps) (more (Exact t) xs) (more a us) (more b ys) e f r =
      (contains_first p.variance (all p) t a b f.0 r.0, all_first all ps xs us ys e f.1 r.1)
  all_first all (p ∷ ps) (more (Out t) xs) us ys e f r = absurd e
  all_first all (p ∷ ps) (more (In t) xs) us ys e f r = absurd e
  all_first all (p ∷ ps) (more Star xs) us ys e f r = absurd e
  all_first all [] none none (more b ys) e f r = absurd r
  all_first all [] none (more a us) ys e f r = absurd f
  all_first all [] (more a xs) us ys e f r = absurd f
  all_first all (p ∷ ps) none us ys e f r = absurd f
  all_first all (p ∷ ps) (more (Exact t) xs) none ys e f r = absurd f
  all_first all (p ∷ ps) (more (Exact t) xs) (more a us) none e f r = absurd r

-- ---- the instance
pub typed_given : (h : Heads) (c : ℕ) (xs : Args) → Exact_args xs → (x : ℕ) → is_given_projection (given (class_given h c xs) x) ≡ false
typed_given h c xs e = subst (λ ys. (x : ℕ) → is_given_projection (given (given_all (star_bound h c) (h.params c) ys) x) ≡ false) (sym (reduced_exact (h.params c) xs e)) (given_exact (star_bound h c) (h.params c) xs e)

-- a class's arguments at a superclass
abbrev pub args_at : Heads → ℕ → Args → ℕ → Args → Args
args_at h e xs d zs = up_args h (class_given h e xs) (h.is_function d) (h.params d) zs

pub record Contained (h : Heads) (e : ℕ) (xs : Args) (d : ℕ) (ys : Args) : Type 0 where
  pub args : Args
  pub there : Supertype h e (Class d args)
  pub all : All_by (Rel h) (star_bound h d) (h.params d) (args_at h e xs d args) ys

module _ (h : Heads) (valid : ValidHeads h) where
  pub exact_at : (e : ℕ) (xs : Args) (d : ℕ) (zs : Args) → Exact_args xs → Supertype h e (Class d zs) → Exact_args (args_at h e xs d zs)
  exact_at e xs d zs k st = exact_args h (class_given h e xs) (typed_given h e xs k) (h.is_function d) (h.params d) zs (placed h valid st).types

  -- the instance of an instance
  pub at_twice : (e : ℕ) (xs : Args) (b : ℕ) (zs : Args) (t : Ty) → Exact_args xs → Supertype h e (Class b zs) → Over (h.params b) t →
      up h (class_given h e xs) (put (put_in (h.params b) zs) t) ≡ up h (class_given h b (args_at h e xs b zs)) t
  at_twice e xs b zs t k st o =
      let gs : List Given = class_given h e xs in
      let p = placed h valid st in
      joined h gs (class_given h b (args_at h e xs b zs)) (typed_given h e xs k) (typed_given h b (args_at h e xs b zs) (exact_at e xs b zs k st)) (h.params b) (put_in (h.params b) zs)
      (places h gs (typed_given h e xs k) (h.is_function b) (star_bound h b) (h.params b) zs p.types p.formed.1) t o

  pub super_joins : {e b : ℕ} {zs : Args} {t : Ty} → Supertype h e (Class b zs) → Supertype h b t → Supertype h e (put (put_in (h.params b) zs) t)
  super_joins {e = e} {b = b} {zs = zs} st own =
      let p = placed h valid st in
      subst (λ us. Supertype h e (Class b us)) (sym (stays h (h.params b) zs (valid.different b) p.types p.formed.1)) st
  super_joins {e = e} {b = b} {zs = zs} st (next {d = d} {xs = xs} {s = s} sd i) =
      let p = placed h valid sd in
      subst (λ u. Supertype h e u)
      (sym (put_put (put_in (h.params b) zs) (put_in (h.params d) xs) (put_in (h.params d) (put_args (put_in (h.params b) zs) xs)) (h.params d) (places_put h (put_in (h.params b) zs) (h.params d) xs p.types p.formed.1) s (valid.over d s i)))
      (next (super_joins st sd) i)

  keeps_on : (e : ℕ) (xs : Args) (b : ℕ) (zs : Args) → Exact_args xs → Supertype h e (Class b zs) → Keeps h e xs → Keeps h b (args_at h e xs b zs)
  keeps_on e xs b zs k st q d ws sd =
      let is : Class d (args_at h e xs d (put_args (put_in (h.params b) zs) ws)) ≡ Class d (args_at h b (args_at h e xs b zs) d ws) = at_twice e xs b zs (Class d ws) k st (placed h valid sd).over in
      let args : args_at h e xs d (put_args (put_in (h.params b) zs) ws) ≡ args_at h b (args_at h e xs b zs) d ws = cc in
      subst (λ us. Kept h (star_bound h d) (h.params d) us) args (q d (put_args (put_in (h.params b) zs) ws) (super_joins st sd))

  pub own_at : (e : ℕ) (xs : Args) → Exact_args xs → Formed h (Class e xs) → args_at h e xs e (own_args (h.params e)) ≡ xs
  own_at e xs k f =
      let is : Class e (args_at h e xs e (own_args (h.params e))) ≡ Class e (reduced_args (h.params e) xs) = own_reduced h valid.different e xs f in
      let args : args_at h e xs e (own_args (h.params e)) ≡ reduced_args (h.params e) xs = cc in
      args ∙ reduced_exact (h.params e) xs k

  firm_choice : (e : ℕ) (xs ys : Args) → Exact_args xs → Formed h (Class e xs) → Keeps h e xs → IsIn Args ys (class_choices h e xs) → Firms (Rel h) (star_bound h e) (h.params e) xs ys
  firm_choice e xs ys k f q i =
      choice_by_firm h (h.is_function e) (star_bound h e) (h.params e) xs ys k f.1 (subst (λ us. Kept h (star_bound h e) (h.params e) us) (own_at e xs k f) (q e (own_args (h.params e)) own)) i

  abbrev pub Found : ℕ → Args → ℕ → Args → Type 0
  Found e xs d ys = ((d ≡ h.any) × (ys ≡ none)) ⊎ Contained h e xs d ys

  abbrev Finds : ℕ → Type 0
  Finds n = (e : ℕ) → valid.acyclic.rank e < n → (xs : Args) → Exact_args xs → Keeps h e xs → (d : ℕ) (ys : Args) → Rel h (Class e xs) (Class d ys) → Found e xs d ys

  found_on : (e : ℕ) (xs : Args) (b : ℕ) (zs : Args) (d : ℕ) (ys : Args) → Exact_args xs → Supertype h e (Class b zs) → Found b (args_at h e xs b zs) d ys → Found e xs d ys
  found_on e xs b zs d ys k st (inl q) = inl q
  found_on e xs b zs d ys k st (inr c) =
      let is : Class d (args_at h e xs d (put_args (put_in (h.params b) zs) c.args)) ≡ Class d (args_at h b (args_at h e xs b zs) d c.args) = at_twice e xs b zs (Class d c.args) k st (placed h valid c.there).over in
      let args : args_at h e xs d (put_args (put_in (h.params b) zs) c.args) ≡ args_at h b (args_at h e xs b zs) d c.args = cc in
      inr (record { args = put_args (put_in (h.params b) zs) c.args; there = super_joins st c.there; all = subst (λ us. All_by (Rel h) (star_bound h d) (h.params d) us ys) (sym args) c.all })

  found_above : (n : ℕ) → Finds n → (e : ℕ) → valid.acyclic.rank e < suc n → (xs : Args) → Exact_args xs → Keeps h e xs → (d : ℕ) (ys : Args) → (t : Ty) → Supertype h e t → RanksBelow valid.acyclic.rank (valid.acyclic.rank e) t →
      Rel h (up h (class_given h e xs) t) (Class d ys) → Found e xs d ys
  found_above n go e le xs k q d ys (Class b zs) st low r = found_on e xs b zs d ys k st (go b (omega (arith, le, low)) (args_at h e xs b zs) (exact_at e xs b zs k st) (keeps_on e xs b zs k st q) d ys r)
  found_above n go e le xs k q d ys (Param x) st low r = absurd low
  found_above n go e le xs k q d ys Nothing st low r = absurd low
  found_above n go e le xs k q d ys (Nullable t) st low r = absurd low

  found_super : (n : ℕ) → Finds n → (e : ℕ) → valid.acyclic.rank e < suc n → (xs : Args) → Exact_args xs → Keeps h e xs → (d : ℕ) (ys : Args) → {t : Ty} → Supertype h e t → is_class e t ≡ false → Rel h (up h (class_given h e xs) t) (Class d ys) → Found e xs d ys
  found_super n go e le xs k q d ys own nc r = absurd (own_there h valid e (own_type h e) refl nc)
  found_super n go e le xs k q d ys (next {d = b} {xs = zs} {s = s} st i) nc r = found_above n go e le xs k q d ys (put (put_in (h.params b) zs) s) (next st i) (on_from_lower h valid.acyclic st i) r

  found_way : (n : ℕ) → Finds n → (e : ℕ) → valid.acyclic.rank e < suc n → (xs us : Args) → Exact_args xs → Formed h (Class e xs) → Keeps h e xs → (d : ℕ) (ys : Args) → IsIn Args us (class_choices h e xs) → Way h e us d ys → Found e xs d ys
  found_way n go e le xs us k f q d ys i (by_args s all) =
      subst (λ z. Found e xs z ys) s
      (inr (record {
        args = own_args (h.params e);
        there = own;
        all = subst (λ vs. All_by (Rel h) (star_bound h e) (h.params e) vs ys) (sym (own_at e xs k f)) (all_first h (star_bound h e) (h.params e) xs us ys k (firm_choice e xs us k f q i) all);
      }))
  found_way n go e le xs us k f q d ys i (by_super t j nc r) =
      found_super n go e le xs k q d ys (above_only h e t j) nc
      (rel_through h (up h (class_given h e xs) t) (up h (class_given h e us) t) (Class d ys) (raised_super h valid e xs us t (above_only h e t j) f.1 (class_formed h valid e xs us f i).1 (firm_choice e xs us k f q i)) r)

  found_fits : (n : ℕ) → Finds n → (e : ℕ) → valid.acyclic.rank e < suc n → (xs : Args) → Exact_args xs → Formed h (Class e xs) → Keeps h e xs → (d : ℕ) (ys : Args) → Fits h e xs d ys → Found e xs d ys
  found_fits n go e le xs k f q d ys (inl a) = inl a
  found_fits n go e le xs k f q d ys (inr w) = found_way n go e le xs w.args k f q d ys w.there w.way

  found_next : (n : ℕ) → Finds n → (e : ℕ) → valid.acyclic.rank e < suc n → (xs : Args) → Exact_args xs → Formed h (Class e xs) → Keeps h e xs → (d : ℕ) (ys : Args) → Unfolded h (Class e xs) (Class d ys) → Found e xs d ys
  found_next n go e le xs k f q d ys (inl a) = no (sym a)
  found_next n go e le xs k f q d ys (inr o) = found_fits n go e le xs k f q d ys o.1

  find : (n : ℕ) → Finds n
  find zero e le xs k q d ys r = absurd (omega (arith, le))
  find (suc n) e le xs k q d ys r = found_next n (find n) e le xs k r.0 q d ys (outermost h valid r.2 r.0 r.1)

  pub found : (e : ℕ) (xs : Args) → Exact_args xs → Keeps h e xs → (d : ℕ) (ys : Args) → Rel h (Class e xs) (Class d ys) → Found e xs d ys
  found e xs k q d ys r = find (suc (valid.acyclic.rank e)) e (omega arith) xs k q d ys r
