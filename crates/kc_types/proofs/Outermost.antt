-- What is below has, in its outermost layer, the form that the recursion looks for, with what is below inside.
use Rattle.std.proofs.Common.{◌≡◌, ℕ, ◌<◌, ◌≤◌, Bool, true, false, nat_eq, List, [], ◌∷◌, refl, sym, ap, subst, ◌∙◌, ◌⊎◌, inl, inr, eqb-true, eq-eqb, arith}
use Rattle.kc_types.specs.Types.{Ty, Class, Param, Nothing, Nullable, Arg, Exact, Out, In, Star, Args, none, more, Variance, Invariant, Covariant, Contravariant, HeadParam, Heads, given, star_bound, given_all, up, class_given, reduced_args}
use Rattle.kc_types.specs.Supertypes.{IsIn, here, later, Supertype, put, put_in, above, is_class, own_type, RanksBelow, Acyclic}
use Rattle.kc_types.specs.Supertypes.Supertype.{own, next as on_from}
use Rattle.kc_types.specs.Subtype.{read, options, choices, choices_by, class_choices, is_param, is_anything}
use Rattle.kc_types.specs.Formed.{Exact_args, Formed, Arg_formed, Args_formed, Unmarked}
use Rattle.kc_types.specs.Positions.{variance_in}
use Rattle.kc_types.proofs.Exacts.{read_reduced}
use Rattle.kc_types.specs.FormedSub.{FormedSub, ValidHeads}
use Rattle.kc_types.specs.FormedSub.FormedSub.{same, through, nothing, any, null, nulls, object, super, arguments, bound}
use Rattle.kc_types.proofs.Sound.{made}
use Rattle.kc_types.proofs.Listed.{all_listed}
use Rattle.kc_types.proofs.Supertypes.{above_only}
use Rattle.kc_types.proofs.Reflexive.{itself_chosen, chosen_twice, own_reduced, reduced_formed, only_none}
use Rattle.kc_types.proofs.Placed.{placed}
use Rattle.kc_types.proofs.FormedUp.{Given_formed, given_picked, up_formed}
use Rattle.kc_types.proofs.Stars.{star_formed}
use Rattle.kc_types.proofs.Firm.{Rel, rel_same, rel_through, In_by, All_by, Firms, Firmly_chosen, Tops, firms_in, firms_through, class_chosen, class_followed, all_by}
use Rattle.kc_types.proofs.Monotone.{raised, firm_pairs}

no : {A : Type 0} → true ≡ false → A
no e = absurd (cc)

nowhere : {A : Type 0} (x : Ty) → IsIn Ty x [] → A
nowhere x i = elim i [ ]

-- ---- ranks
module _ (h : Heads) (ordered : Acyclic h) where
  put_ranks : (s : ℕ → Ty) (n m : ℕ) (t : Ty) → n ≤ m → RanksBelow ordered.rank n t → RanksBelow ordered.rank m (put s t)
  put_ranks s n m (Class d xs) le r = omega (arith, le, r)
  put_ranks s n m (Param x) le r = absurd r
  put_ranks s n m Nothing le r = absurd r
  put_ranks s n m (Nullable t) le r = absurd r

  -- each supertype but the class's own type ranks lower
  at_most : {c : ℕ} {t : Ty} → Supertype h c t → (d : ℕ) (xs : Args) → t ≡ Class d xs → ordered.rank d ≤ ordered.rank c
  at_most {c = c} own d xs e = let q : c ≡ d = cc e in let r : ordered.rank c ≡ ordered.rank d = ap ordered.rank q in omega (arith, r)
  at_most {c = c} (on_from {d = b} {xs = ys} {s = s} st i) d xs e =
      let low : RanksBelow ordered.rank (ordered.rank c) (put (put_in (h.params b) ys) s) = put_ranks (put_in (h.params b) ys) (ordered.rank b) (ordered.rank c) s (at_most st b ys refl) (ordered.lower b s i) in
      let lower : ordered.rank d < ordered.rank c = subst (λ t. RanksBelow ordered.rank (ordered.rank c) t) e low in
      omega (arith, lower)

  pub on_from_lower : {c b : ℕ} {ys : Args} {s : Ty} → Supertype h c (Class b ys) → IsIn Ty s (h.supers b) → RanksBelow ordered.rank (ordered.rank c) (put (put_in (h.params b) ys) s)
  on_from_lower {c = c} {b = b} {ys = ys} {s = s} st i = put_ranks (put_in (h.params b) ys) (ordered.rank b) (ordered.rank c) s (at_most st b ys refl) (ordered.lower b s i)

  other_class : (c : ℕ) (t : Ty) (v : Bool) → is_class c t ≡ v → RanksBelow ordered.rank (ordered.rank c) t → v ≡ false
  other_class c (Class d xs) true e low = let q : ordered.rank d ≡ ordered.rank c = ap ordered.rank (eqb-true d c e) in absurd (omega (arith, q, low))
  other_class c t false e low = refl
  other_class c (Param x) true e low = absurd low
  other_class c Nothing true e low = absurd low
  other_class c (Nullable t) true e low = absurd low

-- ---- the outermost layer
module _ (h : Heads) where
  -- from a choice of the arguments: by these, or on from a supertype
  pub data Way (c : ℕ) (xs : Args) (d : ℕ) (ys : Args) : Type 0 where
    by_args : c ≡ d → All_by (Rel h) (star_bound h c) (h.params c) xs ys → Way c xs d ys
    by_super : (t : Ty) → IsIn Ty t (above h c) → is_class c t ≡ false → Rel h (up h (class_given h c xs) t) (Class d ys) → Way c xs d ys

  pub record Chosen_way (c : ℕ) (xs : Args) (d : ℕ) (ys : Args) : Type 0 where
    pub args : Args
    pub there : IsIn Args args (class_choices h c xs)
    pub way : Way c args d ys

  abbrev pub Fits : ℕ → Args → ℕ → Args → Type 0
  Fits c xs d ys = ((d ≡ h.any) × (ys ≡ none)) ⊎ Chosen_way c xs d ys

  abbrev pub Of_class : ℕ → Args → Ty → Type 0
  Of_class c xs (Class d ys) = Rel h (Class c xs) (Class d ys) × Fits c xs d ys
  Of_class c xs (Nullable b) = Of_class c xs b
  Of_class c xs (Param x) = ⊥
  Of_class c xs Nothing = ⊥

  abbrev pub Marked : Ty → Type 0
  Marked (Nullable t) = Unit {0}
  Marked (Class c xs) = ⊥
  Marked (Param x) = ⊥
  Marked Nothing = ⊥

  abbrev pub Of : Ty → Ty → Type 0
  Of Nothing b = Unit {0}
  Of (Param x) b = (is_param x b ≡ true) ⊎ Rel h (h.bound_of x) b
  Of (Class c xs) b = Of_class c xs b
  Of (Nullable a) b = Marked b × Of a b

  abbrev pub Unfolded : Ty → Ty → Type 0
  Unfolded a b = (is_anything h b ≡ true) ⊎ Of a b

-- ---- what is formed
option_formed : (h : Heads) (v : Variance) (top : Ty) (a b : Arg) → Formed h top → Arg_formed h a → IsIn Arg b (options v top a) → Arg_formed h b
option_formed h Contravariant top a b t k here = k
option_formed h Contravariant top a b t k (later i) = elim i [ ]
option_formed h Covariant top a b t k here = k
option_formed h Covariant top a b t k (later here) = t
option_formed h Covariant top a b t k (later (later i)) = elim i [ ]
option_formed h Invariant top (Exact x) b t k here = k
option_formed h Invariant top (Exact x) b t k (later here) = k
option_formed h Invariant top (Exact x) b t k (later (later here)) = t
option_formed h Invariant top (Exact x) b t k (later (later (later i))) = elim i [ ]
option_formed h Invariant top (Out x) b t k here = k
option_formed h Invariant top (Out x) b t k (later here) = t
option_formed h Invariant top (Out x) b t k (later (later i)) = elim i [ ]
option_formed h Invariant top (In x) b t k here = k
option_formed h Invariant top (In x) b t k (later here) = t
option_formed h Invariant top (In x) b t k (later (later i)) = elim i [ ]
option_formed h Invariant top Star b t k here = k
option_formed h Invariant top Star b t k (later here) = t
option_formed h Invariant top Star b t k (later (later i)) = elim i [ ]

choice_formed : (h : Heads) (all : HeadParam → Ty) (ps : List HeadParam) (xs ys : Args) → Tops h all ps → Args_formed h ps xs → IsIn Args ys (choices all ps xs) → Args_formed h ps ys
choice_formed h all [] none ys t k i = subst (λ us. Args_formed h [] us) (sym (only_none ys i)) tt
choice_formed h all [] (more a xs) ys t k i = absurd k
choice_formed h all (p ∷ ps) none ys t k i = absurd k
choice_formed h all (p ∷ ps) (more a xs) ys t k i =
    let m = made (options p.variance (all p) a) (choices all ps xs) ys i in
    subst (λ us. Args_formed h (p ∷ ps) us) (sym m.is)
    (option_formed h p.variance (all p) a m.a (t p here) k.0 m.first_in, choice_formed h all ps xs m.xs (λ q j. t q (later j)) k.1 m.rest_in)

by_formed : (h : Heads) (v : Bool) (all : HeadParam → Ty) (ps : List HeadParam) (xs ys : Args) → Tops h all ps → (v ≡ true → Exact_args xs) → Args_formed h ps xs → IsIn Args ys (choices_by v all ps xs) → (v ≡ true → Exact_args ys) × Args_formed h ps ys
by_formed h true all ps xs ys t e k here = (e, k)
by_formed h true all ps xs ys t e k (later i) = elim i [ ]
by_formed h false all ps xs ys t e k i = (λ f. no (sym f), choice_formed h all ps xs ys t k i)

given_formed : (h : Heads) (all : HeadParam → Ty) (ps : List HeadParam) (xs : Args) → Tops h all ps → Args_formed h ps xs → (x : ℕ) → Given_formed h (given (given_all all ps xs) x)
given_formed h all [] none t k x = tt
given_formed h all (p ∷ ps) (more a xs) t k x =
    given_picked h (nat_eq p.var x) (record { var = p.var; arg = a; top = all p }) (given (given_all all ps xs) x) (k.0, t p here) (given_formed h all ps xs (λ q j. t q (later j)) k.1 x)
given_formed h all [] (more a xs) t k x = absurd k
given_formed h all (p ∷ ps) none t k x = absurd k

-- ---- the same on both sides
in_same : (h : Heads) (v : Variance) (top : Ty) (a : Arg) → Arg_formed h a → In_by (Rel h) top (read v a) (read v a)
in_same h Invariant top (Exact t) k = (rel_same h t k, rel_same h t k)
in_same h Invariant top (Out t) k = rel_same h t k
in_same h Invariant top (In t) k = rel_same h t k
in_same h Invariant top Star k = tt
in_same h Covariant top (Exact t) k = rel_same h t k
in_same h Covariant top (Out t) k = rel_same h t k
in_same h Covariant top (In t) k = tt
in_same h Covariant top Star k = tt
in_same h Contravariant top (Exact t) k = rel_same h t k
in_same h Contravariant top (Out t) k = tt
in_same h Contravariant top (In t) k = rel_same h t k
in_same h Contravariant top Star k = tt

all_same : (h : Heads) (all : HeadParam → Ty) (ps : List HeadParam) (xs : Args) → Args_formed h ps xs → All_by (Rel h) all ps xs xs
all_same h all [] none k = tt
all_same h all (p ∷ ps) (more a xs) k = (in_same h p.variance (all p) a k.0, all_same h all ps xs k.1)
all_same h all [] (more a xs) k = absurd k
all_same h all (p ∷ ps) none k = absurd k

all_same_reduced : (h : Heads) (all : HeadParam → Ty) (ps : List HeadParam) (xs : Args) → Args_formed h ps xs → All_by (Rel h) all ps xs (reduced_args ps xs)
all_same_reduced h all [] none k = tt
all_same_reduced h all (p ∷ ps) (more a xs) k = (
  subst (λ b. In_by (Rel h) (all p) (read p.variance a) b) (sym (read_reduced p.variance a)) (in_same h p.variance (all p) a k.0),
  all_same_reduced h all ps xs k.1,
)
all_same_reduced h all [] (more a xs) k = absurd k
all_same_reduced h all (p ∷ ps) none k = absurd k

no_args : (R : Ty → Ty → Type 0) (all : HeadParam → Ty) (ps : List HeadParam) (xs ys : Args) → ps ≡ [] → All_by R all ps xs ys → ys ≡ none
no_args R all [] none none e r = refl
no_args R all [] none (more b ys) e r = absurd r
no_args R all [] (more a xs) ys e r = absurd r
no_args R all (p ∷ ps) xs ys e r = absurd (cc)

module _ (h : Heads) (valid : ValidHeads h) where
  pub tops : (c : ℕ) → Tops h (star_bound h c) (h.params c)
  tops c p i = star_formed h valid.plain c (valid.class_bounds c) p i

  pub givens : (c : ℕ) (xs : Args) → Args_formed h (h.params c) xs → (x : ℕ) → Given_formed h (given (class_given h c xs) x)
  givens c xs k x = given_formed h (star_bound h c) (h.params c) (reduced_args (h.params c) xs) (tops c) (reduced_formed h (h.params c) xs k) x

  pub class_formed : (c : ℕ) (xs ys : Args) → Formed h (Class c xs) → IsIn Args ys (class_choices h c xs) → Formed h (Class c ys)
  class_formed c xs ys k i = by_formed h (h.is_function c) (star_bound h c) (h.params c) xs ys (tops c) k.0 k.1 i

  -- over firmly contained arguments a supertype is below
  pub raised_super : (c : ℕ) (xs ys : Args) (t : Ty) → Supertype h c t → Args_formed h (h.params c) xs → Args_formed h (h.params c) ys → Firms (Rel h) (star_bound h c) (h.params c) xs ys →
      Rel h (up h (class_given h c xs) t) (up h (class_given h c ys) t)
  raised_super c xs ys t st k l r = (
    up_formed h (class_given h c xs) (givens c xs k) t (placed h valid st).formed,
    up_formed h (class_given h c ys) (givens c ys l) t (placed h valid st).formed,
    raised h valid.functions (variance_in (h.params c)) (class_given h c xs) (class_given h c ys) (givens c xs k) (givens c ys l) (firm_pairs h (star_bound h c) (h.params c) xs ys r) t (placed h valid st).formed (placed h valid st).stand,
  )

  -- ---- one after the other
  twice : (c : ℕ) (xs ys zs : Args) → IsIn Args ys (class_choices h c xs) → IsIn Args zs (class_choices h c ys) → IsIn Args zs (class_choices h c xs)
  twice c xs ys zs i j = chosen_twice (h.is_function c) (star_bound h c) (h.params c) xs ys zs i j

  firmly : (c : ℕ) (xs ys : Args) → Formed h (Class c xs) → Formed h (Class c ys) → All_by (Rel h) (star_bound h c) (h.params c) xs ys → Firmly_chosen h (h.is_function c) (star_bound h c) (h.params c) xs ys
  firmly c xs ys k l r = class_chosen h (h.is_function c) (star_bound h c) (h.params c) xs ys (tops c) k.0 l.0 r

  follow : (c : ℕ) (xs ys zs : Args) → Firms (Rel h) (star_bound h c) (h.params c) xs ys → IsIn Args zs (class_choices h c ys) → Firmly_chosen h (h.is_function c) (star_bound h c) (h.params c) xs zs
  follow c xs ys zs r i = class_followed h (h.is_function c) (star_bound h c) (h.params c) xs ys zs (tops c) r i

  by_last : (c : ℕ) (xs gs vs : Args) (e : ℕ) (zs : Args) → Formed h (Class c gs) → Formed h (Class c vs) → Formed h (Class e zs) → IsIn Args gs (class_choices h c xs) → Firms (Rel h) (star_bound h c) (h.params c) gs vs →
      Way h c vs e zs → Chosen_way h c xs e zs
  by_last c xs gs vs e zs k l z i r (by_args s all) =
      let f = firmly c vs zs l (subst (λ q. Formed h (Class q zs)) (sym s) z) all in
      let g = follow c gs vs f.args r f.there in
      record {
        args = g.args;
        there = twice c xs gs g.args i g.there;
        way = by_args s (firms_in (Rel h) (star_bound h c) (h.params c) g.args zs (firms_through h (star_bound h c) (h.params c) g.args f.args zs g.firm f.firm));
      }
  by_last c xs gs vs e zs k l z i r (by_super t j n q) = record {
    args = gs;
    there = i;
    way = by_super t j n (rel_through h (up h (class_given h c gs) t) (up h (class_given h c vs) t) (Class e zs) (raised_super c gs vs t (above_only h c t j) k.1 l.1 r) q);
  }

  at_same : (c : ℕ) (xs us ys : Args) (e : ℕ) (zs : Args) → Formed h (Class c xs) → Formed h (Class c ys) → Formed h (Class e zs) → IsIn Args us (class_choices h c xs) → All_by (Rel h) (star_bound h c) (h.params c) us ys →
      Chosen_way h c ys e zs → Chosen_way h c xs e zs
  at_same c xs us ys e zs k l z i all w =
      let f = firmly c us ys (class_formed c xs us k i) l all in
      let g = follow c f.args ys w.args f.firm w.there in
      let j : IsIn Args g.args (class_choices h c xs) = twice c xs f.args g.args (twice c xs us f.args i f.there) g.there in
      by_last c xs g.args w.args e zs (class_formed c xs g.args k j) (class_formed c ys w.args l w.there) z j g.firm w.way

  way_through : (c : ℕ) (xs us : Args) (d : ℕ) (ys : Args) (e : ℕ) (zs : Args) → Formed h (Class c xs) → IsIn Args us (class_choices h c xs) → Rel h (Class d ys) (Class e zs) →
      Way h c us d ys → Chosen_way h d ys e zs → Chosen_way h c xs e zs
  way_through c xs us d ys e zs k i r (by_args s all) w =
      at_same c xs us ys e zs k (subst (λ q. Formed h (Class q ys)) (sym s) r.0) r.1 i all (subst (λ q. Chosen_way h q ys e zs) (sym s) w)
  way_through c xs us d ys e zs k i r (by_super t j n q) w = record { args = us; there = i; way = by_super t j n (rel_through h (up h (class_given h c us) t) (Class d ys) (Class e zs) q r) }

  -- nothing but itself is above the class of all objects
  pub nothing_above : {c : ℕ} {t : Ty} → Supertype h c t → c ≡ h.any → t ≡ own_type h c
  nothing_above own e = refl
  nothing_above {c = c} (on_from {d = b} {xs = ys} {s = s} st i) e =
      let q : Class b ys ≡ own_type h c = nothing_above st e in
      let f : b ≡ c = cc q in
      nowhere s (subst (λ ss. IsIn Ty s ss) (ap h.supers (f ∙ e) ∙ valid.alone) i)

  pub own_there : (c : ℕ) (t : Ty) → t ≡ own_type h c → is_class c t ≡ false → ⊥
  own_there c t e n = no (sym (eq-eqb c c refl) ∙ subst (λ u. is_class c u ≡ false) e n)

  any_way : (d : ℕ) (us : Args) (e : ℕ) (zs : Args) → d ≡ h.any → Way h d us e zs → (e ≡ h.any) × (zs ≡ none)
  any_way d us e zs q (by_args s all) = (sym s ∙ q, no_args (Rel h) (star_bound h d) (h.params d) us zs (ap h.params q ∙ valid.plain) all)
  any_way d us e zs q (by_super t i n r) = absurd (own_there d t (nothing_above (above_only h d t i) q) n)

  any_only : (d : ℕ) (ys : Args) (e : ℕ) (zs : Args) → d ≡ h.any → Fits h d ys e zs → (e ≡ h.any) × (zs ≡ none)
  any_only d ys e zs q (inl f) = f
  any_only d ys e zs q (inr w) = any_way d w.args e zs q w.way

  fits_through : (c : ℕ) (xs : Args) (d : ℕ) (ys : Args) (e : ℕ) (zs : Args) → Formed h (Class c xs) → Rel h (Class d ys) (Class e zs) → Fits h c xs d ys → Fits h d ys e zs → Fits h c xs e zs
  fits_through c xs d ys e zs k r f (inl q) = inl q
  fits_through c xs d ys e zs k r (inl f) (inr w) = inl (any_only d ys e zs f.0 (inr w))
  fits_through c xs d ys e zs k r (inr v) (inr w) = inr (way_through c xs v.args d ys e zs k v.there r v.way w)

  class_through : (c : ℕ) (xs : Args) (d : ℕ) (ys : Args) (b : Ty) → Rel h (Class c xs) (Class d ys) → Fits h c xs d ys → Of_class h d ys b → Of_class h c xs b
  class_through c xs d ys (Class e zs) r f o = (rel_through h (Class c xs) (Class d ys) (Class e zs) r o.0, fits_through c xs d ys e zs r.0 o.0 f o.1)
  class_through c xs d ys (Nullable b) r f o = class_through c xs d ys b r f o
  class_through c xs d ys (Param x) r f o = absurd o
  class_through c xs d ys Nothing r f o = absurd o

  of_class_through : (c : ℕ) (xs : Args) (m b : Ty) → Of_class h c xs m → Of h m b → Of_class h c xs b
  of_class_through c xs (Class d ys) b o q = class_through c xs d ys b o.0 o.1 q
  of_class_through c xs (Nullable m) b o q = of_class_through c xs m b o q.1
  of_class_through c xs (Param x) b o q = absurd o
  of_class_through c xs Nothing b o q = absurd o

  marked_through : (m b : Ty) → Marked h m → Of h m b → Marked h b
  marked_through (Nullable m) b o q = q.0
  marked_through (Class c xs) b o q = absurd o
  marked_through (Param x) b o q = absurd o
  marked_through Nothing b o q = absurd o

  param_through : (x : ℕ) (m b : Ty) → is_param x m ≡ true → Of h m b → Of h (Param x) b
  param_through x (Param y) b e q = subst (λ z. Of h (Param z) b) (sym (eqb-true x y e)) q
  param_through x (Nullable (Param y)) b e q = subst (λ z. Of h (Param z) b) (sym (eqb-true x y e)) q.1
  param_through x (Nullable (Class c xs)) b e q = no (sym e)
  param_through x (Nullable Nothing) b e q = no (sym e)
  param_through x (Nullable (Nullable t)) b e q = no (sym e)
  param_through x (Class c xs) b e q = no (sym e)
  param_through x Nothing b e q = no (sym e)

  of_through : (a m b : Ty) → Rel h m b → Of h a m → Of h m b → Of h a b
  of_through Nothing m b r o q = tt
  of_through (Param x) m b r (inl e) q = param_through x m b e q
  of_through (Param x) m b r (inr s) q = inr (rel_through h (h.bound_of x) m b s r)
  of_through (Class c xs) m b r o q = of_class_through c xs m b o q
  of_through (Nullable a) m b r o q = (marked_through m b o.0 q, of_through a m b r o.1 q)

  any_on : (c : ℕ) (b : Ty) → c ≡ h.any → Formed h b → Marked h b → Of_class h c none b → is_anything h b ≡ true
  any_on c (Nullable (Class e zs)) s k m o =
      let q = any_only c none e zs s o.1 in
      subst (λ us. is_anything h (Nullable (Class e us)) ≡ true) (sym q.1) (eq-eqb e h.any q.0)
  any_on c (Nullable (Nullable t)) s k m o = absurd k.0
  any_on c (Nullable (Param x)) s k m o = absurd o
  any_on c (Nullable Nothing) s k m o = absurd o
  any_on c (Class e zs) s k m o = absurd m
  any_on c (Param x) s k m o = absurd m
  any_on c Nothing s k m o = absurd m

  anything_on : (m b : Ty) → is_anything h m ≡ true → Formed h b → Of h m b → is_anything h b ≡ true
  anything_on (Nullable (Class c none)) b e k o = any_on c b (eqb-true c h.any e) k o.0 o.1
  anything_on (Nullable (Class c (more a xs))) b e k o = no (sym e)
  anything_on (Nullable (Nullable t)) b e k o = no (sym e)
  anything_on (Nullable (Param x)) b e k o = no (sym e)
  anything_on (Nullable Nothing) b e k o = no (sym e)
  anything_on (Class c xs) b e k o = no (sym e)
  anything_on (Param x) b e k o = no (sym e)
  anything_on Nothing b e k o = no (sym e)

  unfolded_through : (a m b : Ty) → Rel h m b → Unfolded h a m → Unfolded h m b → Unfolded h a b
  unfolded_through a m b r p (inl e) = inl e
  unfolded_through a m b r (inl e) (inr q) = inl (anything_on m b e r.1 q)
  unfolded_through a m b r (inr p) (inr q) = inr (of_through a m b r p q)

  -- ---- each rule
  same_class : (c : ℕ) (xs : Args) → Formed h (Class c xs) → Of_class h c xs (Class c xs)
  same_class c xs k =
      (rel_same h (Class c xs) k, inr (record { args = xs; there = itself_chosen h (h.is_function c) (star_bound h c) (h.params c) xs k.1; way = by_args refl (all_same h (star_bound h c) (h.params c) xs k.1) }))

  of_mark : (a : Ty) → Unmarked a → Formed h a → Of h a (Nullable a)
  of_mark Nothing u k = tt
  of_mark (Param x) u k = inl (eq-eqb x x refl)
  of_mark (Class c xs) u k = same_class c xs k
  of_mark (Nullable a) u k = absurd u

  of_same : (a : Ty) → Formed h a → Of h a a
  of_same Nothing k = tt
  of_same (Param x) k = inl (eq-eqb x x refl)
  of_same (Class c xs) k = same_class c xs k
  of_same (Nullable a) k = (tt, of_mark a k.0 k.1)

  of_own : (c : ℕ) (xs : Args) → Formed h (Class c xs) → Formed h (up h (class_given h c xs) (own_type h c)) → Of_class h c xs (up h (class_given h c xs) (own_type h c))
  of_own c xs k l =
      let e = own_reduced h valid.different c xs k in
      subst (λ t. Of_class h c xs t) (sym e) (
        (k, subst (λ t. Formed h t) e l, subst (λ t. FormedSub h (Class c xs) t) e (super own)),
        inr (record { args = xs; there = itself_chosen h (h.is_function c) (star_bound h c) (h.params c) xs k.1; way = by_args refl (all_same_reduced h (star_bound h c) (h.params c) xs k.1) }),
      )

  of_other : (c : ℕ) (xs : Args) (t : Ty) → Supertype h c t → RanksBelow valid.acyclic.rank (valid.acyclic.rank c) t → Formed h (Class c xs) → Formed h (up h (class_given h c xs) t) → Of_class h c xs (up h (class_given h c xs) t)
  of_other c xs (Class d ws) st low k l = (
    (k, l, super st),
    inr (record {
      args = xs;
      there = itself_chosen h (h.is_function c) (star_bound h c) (h.params c) xs k.1;
      way = by_super (Class d ws) (all_listed h valid.acyclic c (Class d ws) st) (other_class h valid.acyclic c (Class d ws) (is_class c (Class d ws)) refl low) (rel_same h (up h (class_given h c xs) (Class d ws)) l);
    }),
  )
  of_other c xs (Param x) st low k l = absurd low
  of_other c xs Nothing st low k l = absurd low
  of_other c xs (Nullable t) st low k l = absurd low

  of_super : (c : ℕ) (xs : Args) {t : Ty} → Supertype h c t → Formed h (Class c xs) → Formed h (up h (class_given h c xs) t) → Of_class h c xs (up h (class_given h c xs) t)
  of_super c xs own k l = of_own c xs k l
  of_super c xs (on_from {d = b} {xs = ys} {s = s} st i) k l = of_other c xs (put (put_in (h.params b) ys) s) (on_from st i) (on_from_lower h valid.acyclic st i) k l

  after_mark : (a b : Ty) → Unfolded h a (Nullable b) → Unfolded h (Nullable a) (Nullable b)
  after_mark a b (inl e) = inl e
  after_mark a b (inr o) = inr (tt, o)

  pub outermost : {a b : Ty} → FormedSub h a b → Formed h a → Formed h b → Unfolded h a b
  outermost (same {a = a}) k l = inr (of_same a k)
  outermost (through {a = a} {m = m} {b = b} f d e) k l = unfolded_through a m b (f, l, e) (outermost d k f) (outermost e f l)
  outermost nothing k l = inr tt
  outermost any k l = inl (eq-eqb h.any h.any refl)
  outermost (null {a = a}) k l = inr (of_mark a l.0 k)
  outermost (nulls {a = a} {b = b} d) k l = after_mark a b (outermost d k.1 l)
  outermost (object {c = c} {xs = xs}) k l = inr ((k, l, object), inl (refl, refl))
  outermost (super {c = c} {xs = xs} st) k l = inr (of_super c xs st k l)
  outermost (arguments {c = c} {xs = xs} {ys = ys} ds) k l =
      inr ((k, l, arguments ds), inr (record { args = xs; there = itself_chosen h (h.is_function c) (star_bound h c) (h.params c) xs k.1; way = by_args refl (all_by h ds (tops c) k.1 l.1) }))
  outermost (bound {x = x}) k l = inr (inr (rel_same h (h.bound_of x) l))
