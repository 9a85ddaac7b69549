-- A value of a declared type has the view of that type.
use Rattle.std.proofs.Common.{◌≡◌, ℕ, zero, suc, ◌+◌, Bool, true, false, List, [], ◌∷◌, Option, Some, None, cond, refl, sym, subst, inl, inr, eqb-true}
use Rattle.kc_types.specs.Types.{Ty, Class, Param, Nothing, Nullable, Arg, Exact, Out, In, Star, Args, none, more, Variance, Invariant, Covariant, Contravariant, HeadParam, Heads, Given, given, is_given_projection, unless_against, up, up_arg, up_args, star_bound, class_given}
use Rattle.kc_types.specs.Supertypes.{Supertype, put_args, put_in, is_class, instance, own_args}
use Rattle.kc_types.specs.Subtype.{read}
use Rattle.kc_types.specs.View.{is_alone, arguments_at, first_exact, first_out, first_in, chosen, view_args, viewed, view_by, view_from, view}
use Rattle.kc_types.specs.Formed.{Exact_args, Formed}
use Rattle.kc_types.specs.FormedSub.{FormedSub, FormedAll, FormedIn, ValidHeads, Keeps, OneInstance}
use Rattle.kc_types.specs.FormedSub.FormedSub.{through, object, super, arguments}
use Rattle.kc_types.specs.FormedSub.FormedAll.{end, next}
use Rattle.kc_types.specs.FormedSub.FormedIn.{star, out_exact, out_out, out_in, out_star, in_exact, in_in, exact}
use Rattle.kc_types.specs.Laws.{ViewIsSound}
use Rattle.kc_types.proofs.Supertypes.{instance_is}
use Rattle.kc_types.proofs.Placed.{placed}
use Rattle.kc_types.proofs.FormedUp.{up_formed}
use Rattle.kc_types.proofs.Firm.{Rel, In_by, All_by}
use Rattle.kc_types.proofs.Outermost.{Unfolded, givens, outermost}
use Rattle.kc_types.proofs.Instances.{exact_is, typed_given, args_at, exact_at, at_twice, super_joins, own_at, Found, found}

no : {A : Type 0} → true ≡ false → A
no e = absurd (cc)

-- ---- lists as the rules have them
module _ (h : Heads) where
  in_data : (top : Ty) (a b : Arg) → In_by (Rel h) top a b → FormedIn h top a b
  in_data top (Exact a) (Exact b) r = exact r.0.2 r.1.2
  in_data top (Exact a) (Out b) r = out_exact r.2
  in_data top (Exact a) (In b) r = in_exact r.2
  in_data top (Exact a) Star r = star
  in_data top (Out a) (Exact b) r = absurd r
  in_data top (Out a) (Out b) r = out_out r.2
  in_data top (Out a) (In b) r = absurd r
  in_data top (Out a) Star r = star
  in_data top (In a) (Exact b) r = absurd r
  in_data top (In a) (Out b) r = out_in r.2
  in_data top (In a) (In b) r = in_in r.2
  in_data top (In a) Star r = star
  in_data top Star (Exact b) r = absurd r
  in_data top Star (Out b) r = out_star r.2
  in_data top Star (In b) r = absurd r
  in_data top Star Star r = star

  all_data : (all : HeadParam → Ty) (ps : List HeadParam) (xs ys : Args) → All_by (Rel h) all ps xs ys → FormedAll h all ps xs ys
  all_data all [] none none r = end
  all_data all (p ∷ ps) (more a xs) (more b ys) r = next (in_data (all p) (read p.variance a) (read p.variance b) r.0) (all_data all ps xs ys r.1)
  all_data all [] none (more b ys) r = absurd r
  all_data all [] (more a xs) ys r = absurd r
  all_data all (p ∷ ps) none ys r = absurd r
  all_data all (p ∷ ps) (more a xs) none r = absurd r

  -- ---- what contains a type
  abbrev Good : Ty → Arg → Type 0
  Good u (Exact t) = Rel h u t × Rel h t u
  Good u (Out t) = Rel h u t
  Good u (In t) = Rel h t u
  Good u Star = Unit {0}

  abbrev All_good : Ty → List Arg → Type 0
  All_good u [] = Unit {0}
  All_good u (a ∷ xs) = Good u a × All_good u xs

  in_good : (v : Variance) (top u : Ty) (b : Arg) → In_by (Rel h) top (read v (Exact u)) (read v b) → Good u (read v b)
  in_good Invariant top u (Exact t) r = r
  in_good Invariant top u (Out t) r = r
  in_good Invariant top u (In t) r = r
  in_good Invariant top u Star r = r
  in_good Covariant top u (Exact t) r = r
  in_good Covariant top u (Out t) r = r
  in_good Covariant top u (In t) r = r
  in_good Covariant top u Star r = r
  in_good Contravariant top u (Exact t) r = r
  in_good Contravariant top u (Out t) r = r
  in_good Contravariant top u (In t) r = r
  in_good Contravariant top u Star r = r

  good_in : (v : Variance) (top u : Ty) (a : Arg) → Good u a → In_by (Rel h) top (read v (Exact u)) (read v (unless_against v a a))
  good_in Invariant top u (Exact t) r = r
  good_in Invariant top u (Out t) r = r
  good_in Invariant top u (In t) r = r
  good_in Invariant top u Star r = tt
  good_in Covariant top u (Exact t) r = r.0
  good_in Covariant top u (Out t) r = r
  good_in Covariant top u (In t) r = tt
  good_in Covariant top u Star r = tt
  good_in Contravariant top u (Exact t) r = r.1
  good_in Contravariant top u (Out t) r = tt
  good_in Contravariant top u (In t) r = r
  good_in Contravariant top u Star r = tt

  exact_good : (u : Ty) (xs : List Arg) (a : Arg) → All_good u xs → Good u a → Good u (first_exact xs a)
  exact_good u [] a g k = k
  exact_good u (Exact t ∷ xs) a g k = g.0
  exact_good u (Out t ∷ xs) a g k = exact_good u xs a g.1 k
  exact_good u (In t ∷ xs) a g k = exact_good u xs a g.1 k
  exact_good u (Star ∷ xs) a g k = exact_good u xs a g.1 k

  out_good : (u : Ty) (xs : List Arg) (a : Arg) → All_good u xs → Good u a → Good u (first_out xs a)
  out_good u [] a g k = k
  out_good u (Exact t ∷ xs) a g k = out_good u xs a g.1 k
  out_good u (Out t ∷ xs) a g k = g.0
  out_good u (In t ∷ xs) a g k = out_good u xs a g.1 k
  out_good u (Star ∷ xs) a g k = out_good u xs a g.1 k

  first_in_good : (u : Ty) (xs : List Arg) → All_good u xs → Good u (first_in xs)
  first_in_good u [] g = tt
  first_in_good u (Exact t ∷ xs) g = first_in_good u xs g.1
  first_in_good u (Out t ∷ xs) g = first_in_good u xs g.1
  first_in_good u (In t ∷ xs) g = g.0
  first_in_good u (Star ∷ xs) g = first_in_good u xs g.1

  chosen_in : (v : Variance) (top u : Ty) (xs : List Arg) → All_good u xs → In_by (Rel h) top (read v (Exact u)) (read v (chosen v xs))
  chosen_in v top u xs g = good_in v top u (first_exact xs (first_out xs (first_in xs))) (exact_good u xs (first_out xs (first_in xs)) g (out_good u xs (first_in xs) g (first_in_good u xs g)))

-- ---- at the places where the class's instance has just one of its parameters
module _ (h : Heads) (gs : List Given) (typed : (x : ℕ) → is_given_projection (given gs x) ≡ false) where
  good_picked : (x : ℕ) (b : Bool) (a : Arg) (as_is : List Arg) → (b ≡ true → Good h (up h gs (Param x)) a) → All_good h (up h gs (Param x)) as_is → All_good h (up h gs (Param x)) (cond b (a ∷ as_is) as_is)
  good_picked x true a xs f g = (f refl, g)
  good_picked x false a xs f g = g

  good_alone : (f : Bool) (x : ℕ) (v : Variance) (top : Ty) (z a : Arg) → In_by (Rel h) top (read v (unless_against v z (up_arg h gs f z v))) (read v a) → is_alone x z ≡ true → Good h (up h gs (Param x)) (read v a)
  good_alone f x v top (Exact (Param y)) a r e =
      let q : Good h (up h gs (Param y)) (read v a) = in_good h v top (up h gs (Param y)) a (subst (λ b. In_by (Rel h) top (read v b) (read v a)) (exact_is h gs typed f v (Param y)) r) in
      subst (λ z. Good h (up h gs (Param z)) (read v a)) (sym (eqb-true x y e)) q
  good_alone f x v top (Exact (Class c zs)) a r e = no (sym e)
  good_alone f x v top (Exact Nothing) a r e = no (sym e)
  good_alone f x v top (Exact (Nullable t)) a r e = no (sym e)
  good_alone f x v top (Out t) a r e = no (sym e)
  good_alone f x v top (In t) a r e = no (sym e)
  good_alone f x v top Star a r e = no (sym e)

  goods : (f : Bool) (x : ℕ) (all : HeadParam → Ty) (ps : List HeadParam) (zs xs : Args) → All_by (Rel h) all ps (up_args h gs f ps zs) xs → All_good h (up h gs (Param x)) (arguments_at x ps zs xs)
  goods f x all [] none none r = tt
  goods f x all (p ∷ ps) (more z zs) (more a xs) r =
      good_picked x (is_alone x z) (read p.variance a) (arguments_at x ps zs xs) (good_alone f x p.variance (all p) z a r.0) (goods f x all ps zs xs r.1)
  goods f x all [] none (more a xs) r = absurd r
  goods f x all [] (more z zs) xs r = absurd r
  goods f x all (p ∷ ps) none xs r = absurd r
  goods f x all (p ∷ ps) (more z zs) none r = absurd r

  views : (f : Bool) (all : HeadParam → Ty) (ps ds : List HeadParam) (zs xs : Args) → ((x : ℕ) → All_good h (up h gs (Param x)) (arguments_at x ds zs xs)) → All_by (Rel h) all ps (up_args h gs f ps (own_args ps)) (view_args ps ds zs xs)
  views f all [] ds zs xs g = tt
  views f all (p ∷ ps) ds zs xs g = (
    subst (λ b. In_by (Rel h) (all p) (read p.variance b) (read p.variance (chosen p.variance (arguments_at p.var ds zs xs)))) (sym (exact_is h gs typed f p.variance (Param p.var)))
        (chosen_in h p.variance (all p) (up h gs (Param p.var)) (arguments_at p.var ds zs xs) (g p.var)),
    views f all ps ds zs xs g,
  )

nothing_at : (h : Heads) (u : Ty) (x : ℕ) (ds : List HeadParam) (zs : Args) → All_good h u (arguments_at x ds zs none)
nothing_at h u x ds none = tt
nothing_at h u x ds (more z zs) = tt

module _ (h : Heads) (valid : ValidHeads h) (only : OneInstance h) (e : ℕ) (xs : Args) (k : Exact_args xs) (f : Formed h (Class e xs)) (q : Keeps h e xs) where
  abbrev here_at : ℕ → Args → Args
  here_at c cs = args_at h e xs c cs

  instance_formed : (c : ℕ) (cs : Args) → Supertype h e (Class c cs) → Formed h (Class c (here_at c cs))
  instance_formed c cs st = up_formed h (class_given h e xs) (givens h valid e xs f.1) (Class c cs) (placed h valid st).formed

  -- by lists of what contains each parameter's argument
  by_goods : (c : ℕ) (cs : Args) → Supertype h e (Class c cs) → (ds : List HeadParam) (zs ys : Args) → ((x : ℕ) → All_good h (up h (class_given h c (here_at c cs)) (Param x)) (arguments_at x ds zs ys)) →
      FormedSub h (Class e xs) (Class c (view_args (h.params c) ds zs ys))
  by_goods c cs st ds zs ys g =
      let us : Args = here_at c cs in
      let l : Formed h (Class c us) = instance_formed c cs st in
      let typed : Exact_args us = exact_at h valid e xs c cs k st in
      let all : All_by (Rel h) (star_bound h c) (h.params c) us (view_args (h.params c) ds zs ys) =
      subst (λ vs. All_by (Rel h) (star_bound h c) (h.params c) vs (view_args (h.params c) ds zs ys)) (own_at h valid c us typed l) (views h (class_given h c us) (typed_given h c us typed) (h.is_function c) (star_bound h c) (h.params c) ds zs ys g) in
      through l (super st) (arguments (all_data h (star_bound h c) (h.params c) us (view_args (h.params c) ds zs ys) all))

  by_instance : (c : ℕ) (cs : Args) → Supertype h e (Class c cs) → (d : ℕ) (zs ys : Args) → Supertype h c (Class d zs) → Found h valid e xs d ys → FormedSub h (Class e xs) (Class c (view_args (h.params c) (h.params d) zs ys))
  by_instance c cs st d zs ys sd (inl a) =
      by_goods c cs st (h.params d) zs ys (λ x. subst (λ vs. All_good h (up h (class_given h c (here_at c cs)) (Param x)) (arguments_at x (h.params d) zs vs)) (sym a.1) (nothing_at h (up h (class_given h c (here_at c cs)) (Param x)) x (h.params d) zs))
  by_instance c cs st d zs ys sd (inr r) =
      let us : Args = here_at c cs in
      let same : r.args ≡ put_args (put_in (h.params c) cs) zs = only e d r.args (put_args (put_in (h.params c) cs) zs) r.there (super_joins h valid st sd) in
      let is : Class d (args_at h e xs d (put_args (put_in (h.params c) cs) zs)) ≡ Class d (args_at h c us d zs) = at_twice h valid e xs c cs (Class d zs) k st (placed h valid sd).over in
      let args : args_at h e xs d (put_args (put_in (h.params c) cs) zs) ≡ args_at h c us d zs = cc in
      let all : All_by (Rel h) (star_bound h d) (h.params d) (args_at h c us d zs) ys =
      subst (λ vs. All_by (Rel h) (star_bound h d) (h.params d) vs ys) args (subst (λ vs. All_by (Rel h) (star_bound h d) (h.params d) (args_at h e xs d vs) ys) same r.all) in
      by_goods c cs st (h.params d) zs ys (λ x. goods h (class_given h c us) (typed_given h c us (exact_at h valid e xs c cs k st)) (h.is_function d) x (star_bound h d) (h.params d) zs ys all)

  by_none : (c : ℕ) (cs : Args) → Supertype h e (Class c cs) → (ds : List HeadParam) (ys : Args) → FormedSub h (Class e xs) (Class c (view_args (h.params c) ds none ys))
  by_none c cs st ds ys = by_goods c cs st ds none ys (λ x. tt)

  by_viewed : (c : ℕ) (cs : Args) → Supertype h e (Class c cs) → (d : ℕ) (ys : Args) → Found h valid e xs d ys → (o : Option Ty) → instance h c d ≡ o → FormedSub h (Class e xs) (Class c (viewed (h.params c) (h.params d) ys o))
  by_viewed c cs st d ys r (Some (Class b zs)) i =
      let s = instance_is h c d (Class b zs) i in
      by_instance c cs st d zs ys (subst (λ z. Supertype h c (Class z zs)) (eqb-true b d s.1) s.0) r
  by_viewed c cs st d ys r (Some (Param x)) i = by_none c cs st (h.params d) ys
  by_viewed c cs st d ys r (Some Nothing) i = by_none c cs st (h.params d) ys
  by_viewed c cs st d ys r (Some (Nullable t)) i = by_none c cs st (h.params d) ys
  by_viewed c cs st d ys r None i = by_none c cs st (h.params d) ys

  unless_function : (b : Bool) (w t : Ty) → FormedSub h (Class e xs) w → cond b None (Some w) ≡ Some t → FormedSub h (Class e xs) t
  unless_function true w t d i = absurd (cc)
  unless_function false w t d i = let s : w ≡ t = cc in subst (λ z. FormedSub h (Class e xs) z) s d

  by_class : (c : ℕ) (cs : Args) → Supertype h e (Class c cs) → (d : ℕ) (ys : Args) (t : Ty) → Rel h (Class e xs) (Class d ys) → (o : Option Ty) → instance h d c ≡ o → view_by h d ys c o ≡ Some t → FormedSub h (Class e xs) t
  by_class c cs st d ys t r (Some w) i v =
      let s : up h (class_given h d ys) w ≡ t = cc in
      subst (λ z. FormedSub h (Class e xs) z) s (through r.1 r.2 (super (instance_is h d c w i).0))
  by_class c cs st d ys t r None i v =
      unless_function (h.is_function c) (Class c (viewed (h.params c) (h.params d) ys (instance h c d))) t (by_viewed c cs st d ys (found h valid e xs k q d ys r) (instance h c d) refl) v

  -- a class type that is not null is below the type without its mark
  unmarked : (t : Ty) → Formed h (Nullable t) → Unfolded h (Class e xs) (Nullable t) → Rel h (Class e xs) t
  unmarked (Class d none) l (inl a) = (f, l.1, subst (λ z. FormedSub h (Class e xs) (Class z none)) (sym (eqb-true d h.any a)) object)
  unmarked (Class d (more b ys)) l (inl a) = no (sym a)
  unmarked (Param x) l (inl a) = no (sym a)
  unmarked Nothing l (inl a) = no (sym a)
  unmarked (Nullable t) l u = absurd l.0
  unmarked (Class d ys) l (inr o) = o.0
  unmarked (Param x) l (inr o) = absurd o
  unmarked Nothing l (inr o) = absurd o

  not_param : (x : ℕ) → Unfolded h (Class e xs) (Param x) → ⊥
  not_param x (inl a) = no (sym a)
  not_param x (inr o) = o

  viewed_from : (n c : ℕ) (cs : Args) → Supertype h e (Class c cs) → (declared t : Ty) → Rel h (Class e xs) declared → view_from n h declared c ≡ Some t → FormedSub h (Class e xs) t
  viewed_from n c cs st (Class d ys) t r v = by_class c cs st d ys t r (instance h d c) refl v
  viewed_from n c cs st Nothing t r v = absurd (cc)
  viewed_from n c cs st (Param x) t r v = absurd (not_param x (outermost h valid r.2 r.0 r.1))
  viewed_from zero c cs st (Nullable d) t r v = absurd (cc)
  viewed_from (suc n) c cs st (Nullable d) t r v = viewed_from n c cs st d t (unmarked d r.1 (outermost h valid r.2 r.0 r.1)) v

  at_class : (c : ℕ) (u declared t : Ty) → Supertype h e u → is_class c u ≡ true → Rel h (Class e xs) declared → view h declared c ≡ Some t → FormedSub h (Class e xs) t
  at_class c (Class b cs) declared t st s r v = viewed_from (suc (h.vars + h.vars)) c cs (subst (λ z. Supertype h e (Class z cs)) (eqb-true b c s) st) declared t r v
  at_class c (Param x) declared t st s r v = no (sym s)
  at_class c Nothing declared t st s r v = no (sym s)
  at_class c (Nullable w) declared t st s r v = no (sym s)

pub view_sound : ViewIsSound
view_sound h valid only e xs k f q declared l d c u t i v =
    let s = instance_is h e c u i in
    at_class h valid only e xs k f q c u declared t s.0 s.1 (f, l, d) v
