-- A parameter's bound as a star reads it is formed, and above each argument that keeps the bound as it is written.
use Rattle.std.proofs.Common.{◌≡◌, ℕ, zero, suc, Bool, true, false, nat_eq, List, [], ◌∷◌, Option, Some, None, cond, ◌||◌, length, refl, sym, ap, subst, ◌∙◌}
use Rattle.kc_types.specs.Types.{Ty, Class, Param, Nothing, Nullable, Arg, Exact, Out, In, Star, Args, none, more, Variance, Invariant, Covariant, Contravariant, HeadParam, Heads, Given, anything, nullable, given, is_given_projection, names, names_arg, value_down, alone, variance_at, rest_of, unless_against, down_arg, blocked, up, down, up_arg, up_args, down_args, each_up, each_down, is_own, bare, or_alone, read_alone, bared, bared_arg, bared_args, bound_in, lead, led, stars, star_at, star_bound}
use Rattle.kc_types.specs.Supertypes.{IsIn, here, later, put, put_arg, put_args, put_in, type_in}
use Rattle.kc_types.specs.Subtype.{read, Sub, All, In_arg}
use Rattle.kc_types.specs.Subtype.Sub.{same, through, nothing, any, arguments}
use Rattle.kc_types.specs.Subtype.All.{end, next}
use Rattle.kc_types.specs.Subtype.In_arg.{star, out_out, in_in, exact}
use Rattle.kc_types.specs.Formed.{Exact_args, Unmarked, Formed, Arg_formed, Args_formed}
use Rattle.kc_types.specs.Positions.{Varies, FunctionsVary, Bounded, Within}
use Rattle.kc_types.specs.Laws.{StarsAreAbove}
use Rattle.kc_types.proofs.Exacts.{kept}
use Rattle.kc_types.proofs.CoreInWhole.{either_false, second_of, put_nullable}
use Rattle.kc_types.proofs.FormedUp.{Given_formed, given_picked, nullable_formed, up_formed}
use Rattle.kc_types.proofs.Upwards.{Related, Needed, one_way, projected_in, alone_at, above_value, below_value, reads_same, nullables, unless_blocked}

no : {A : Type 0} → false ≡ true → A
no e = absurd (cc)

-- ---- formed
module _ (h : Heads) where
  anything_formed : h.params h.any ≡ [] → Formed h (anything h)
  anything_formed e = (tt, (λ f. tt, subst (λ ps. Args_formed h ps none) (sym e) tt))

  stars_formed : (tops : HeadParam → Ty) (ps : List HeadParam) → ((p : HeadParam) → IsIn HeadParam p ps → Formed h (tops p)) → (x : ℕ) → Given_formed h (given (stars tops ps) x)
  stars_formed tops [] k x = tt
  stars_formed tops (p ∷ ps) k x =
      given_picked h (nat_eq p.var x) (record { var = p.var; arg = Star; top = tops p }) (given (stars tops ps) x) (tt, k p here) (stars_formed tops ps (λ q i. k q (later i)) x)

  or_alone_formed : (o : Option ℕ) (a : Arg) → Arg_formed h a → Arg_formed h (or_alone o a)
  or_alone_formed None a k = k
  or_alone_formed (Some x) a k = tt

  or_alone_exact : (o : Option ℕ) (t : Ty) (xs : Args) → Exact_args xs → Exact_args (more (or_alone o (Exact t)) xs)
  or_alone_exact None t xs e = e
  or_alone_exact (Some x) t xs e = e

  module _ (ps : List HeadParam) where
    bared_exact : (f : Bool) (qs : List HeadParam) (xs : Args) → Exact_args xs → Exact_args (bared_args h ps f qs xs)
    bared_exact f qs none e = tt
    bared_exact f qs (more (Exact t) xs) e = or_alone_exact (read_alone f (variance_at qs) ps t) (bared h ps t) (bared_args h ps f (rest_of qs) xs) (bared_exact f (rest_of qs) xs e)
    bared_exact f qs (more (Out t) xs) e = absurd e
    bared_exact f qs (more (In t) xs) e = absurd e
    bared_exact f qs (more Star xs) e = absurd e

    bared_unmarked : (t : Ty) → Unmarked t → Unmarked (bared h ps t)
    bared_unmarked (Class c xs) u = tt
    bared_unmarked (Param x) u = tt
    bared_unmarked Nothing u = tt
    bared_unmarked (Nullable t) u = absurd u

    mutual
      bared_formed : (t : Ty) → Formed h t → Formed h (bared h ps t)
      bared_formed (Class c xs) k = (λ f. bared_exact (h.is_function c) (h.params c) xs (k.0 f), bared_args_formed (h.is_function c) (h.params c) xs k.1)
      bared_formed (Param x) k = tt
      bared_formed Nothing k = tt
      bared_formed (Nullable t) k = (bared_unmarked t k.0, bared_formed t k.1)

      bared_arg_formed : (f : Bool) (v : Variance) (a : Arg) → Arg_formed h a → Arg_formed h (bared_arg h ps f v a)
      bared_arg_formed f v (Exact t) k = or_alone_formed (read_alone f v ps t) (Exact (bared h ps t)) (bared_formed t k)
      bared_arg_formed f v (Out t) k = or_alone_formed (read_alone f v ps t) (Out (bared h ps t)) (bared_formed t k)
      bared_arg_formed f v (In t) k = bared_formed t k
      bared_arg_formed f v Star k = tt

      bared_args_formed : (f : Bool) (qs : List HeadParam) (xs : Args) → Args_formed h qs xs → Args_formed h qs (bared_args h ps f qs xs)
      bared_args_formed f [] none k = tt
      bared_args_formed f (q ∷ qs) (more a xs) k = (bared_arg_formed f q.variance a k.0, bared_args_formed f qs xs k.1)
      bared_args_formed f [] (more a xs) k = absurd k
      bared_args_formed f (q ∷ qs) none k = absurd k

  abbrev Bounds_formed : List HeadParam → Type 0
  Bounds_formed ps = (p : HeadParam) → IsIn HeadParam p ps → Formed h p.bound

  bound_picked : (b : Bool) (t u : Ty) → Formed h t → Formed h u → Formed h (cond b t u)
  bound_picked true t u k l = k
  bound_picked false t u k l = l

  bound_formed : (ps : List HeadParam) → Bounds_formed ps → (x : ℕ) → Formed h (bound_in ps x)
  bound_formed [] k x = tt
  bound_formed (p ∷ ps) k x = bound_picked (nat_eq p.var x) p.bound (bound_in ps x) (k p here) (bound_formed ps (λ q i. k q (later i)) x)

  lead_formed : (ps : List HeadParam) → Bounds_formed ps → (t : Ty) → Formed h t → Formed h (lead ps t)
  lead_formed ps k (Class c xs) l = l
  lead_formed ps k (Param x) l = bound_formed ps k x
  lead_formed ps k Nothing l = tt
  lead_formed ps k (Nullable t) l = nullable_formed h (lead ps t) (lead_formed ps k t l.1)

  led_formed : (n : ℕ) (ps : List HeadParam) → Bounds_formed ps → (t : Ty) → Formed h t → Formed h (led n ps t)
  led_formed zero ps k t l = l
  led_formed (suc n) ps k t l = led_formed n ps k (lead ps t) (lead_formed ps k t l)

  module _ (plain : h.params h.any ≡ []) (c : ℕ) (k : Bounds_formed (h.params c)) where
    star_at_formed : (n : ℕ) (p : HeadParam) → IsIn HeadParam p (h.params c) → Formed h (star_at n h c p)
    star_at_formed zero p i = anything_formed plain
    star_at_formed (suc n) p i =
        up_formed h (stars (star_at n h c) (h.params c)) (stars_formed (star_at n h c) (h.params c) (star_at_formed n)) (bared h (h.params c) (led (length (h.params c)) (h.params c) p.bound))
        (bared_formed (h.params c) (led (length (h.params c)) (h.params c) p.bound) (led_formed (length (h.params c)) (h.params c) k p.bound (k p i)))

  pub star_formed : h.params h.any ≡ [] → (c : ℕ) → Bounds_formed (h.params c) → (p : HeadParam) → IsIn HeadParam p (h.params c) → Formed h (star_bound h c p)
  star_formed e c k p i = star_at_formed e c k (length (h.params c)) p i

-- ---- what a star stands for
abbrev There : Option Given → Type 0
There o = (y : ℕ) × (t : Ty) × (o ≡ Some (record { var = y; arg = Star; top = t }))

there_picked : (b c : Bool) (y : ℕ) (t : Ty) (o : Option Given) → (c ≡ true → There o) → (b || c) ≡ true → There (cond b (Some (record { var = y; arg = Star; top = t })) o)
there_picked true c y t o f e = (y, t, refl)
there_picked false c y t o f e = f e

star_there : (tops : HeadParam → Ty) (ps : List HeadParam) (x : ℕ) → is_own ps x ≡ true → There (given (stars tops ps) x)
star_there tops [] x e = no e
star_there tops (p ∷ ps) x e = there_picked (nat_eq p.var x) (is_own ps x) p.var (tops p) (given (stars tops ps) x) (λ q. star_there tops ps x q) e

-- a type is below what a star in its place stands for, where it is below the star's bound
related_picked : (h : Heads) (b : Bool) (t u top : Ty) (x y : ℕ) (o : Option Given) → Sub h t top → Related h Invariant u x o → Related h Invariant (cond b t u) x (cond b (Some (record { var = y; arg = Star; top = top })) o)
related_picked h true t u top x y o d r = (star, d)
related_picked h false t u top x y o d r = r

related_stars : (h : Heads) (s : ℕ → Ty) (tops : HeadParam → Ty) (ps : List HeadParam) (xs : Args) → Bounded h s ps xs → Within h tops ps xs → (x : ℕ) → Related h Invariant (put_in ps xs x) x (given (stars tops ps) x)
related_stars h s tops [] none b w x = refl
related_stars h s tops (p ∷ ps) (more (Exact t) xs) b w x =
    related_picked h (nat_eq p.var x) t (put_in ps xs x) (tops p) x p.var (given (stars tops ps) x) w.0 (related_stars h s tops ps xs b.1 w.1 x)
related_stars h s tops (p ∷ ps) (more (Out t) xs) b w x = absurd b
related_stars h s tops (p ∷ ps) (more (In t) xs) b w x = absurd b
related_stars h s tops (p ∷ ps) (more Star xs) b w x = absurd b
related_stars h s tops [] (more a xs) b w x = absurd b
related_stars h s tops (p ∷ ps) none b w x = absurd b

own_if : (ps : List HeadParam) (b : Bool) (x y : ℕ) → is_own ps y ≡ b → cond b (Some y) None ≡ Some x → is_own ps x ≡ true
own_if ps true x y e f = let q : y ≡ x = cc in subst (λ z. is_own ps z ≡ true) q e
own_if ps false x y e f = absurd (cc)

bare_own : (ps : List HeadParam) (t : Ty) (x : ℕ) → bare ps t ≡ Some x → is_own ps x ≡ true
bare_own ps (Param y) x e = own_if ps (is_own ps y) x y refl e
bare_own ps (Nullable (Param y)) x e = own_if ps (is_own ps y) x y refl e
bare_own ps (Nullable (Class c xs)) x e = absurd (cc)
bare_own ps (Nullable Nothing) x e = absurd (cc)
bare_own ps (Nullable (Nullable t)) x e = absurd (cc)
bare_own ps (Class c xs) x e = absurd (cc)
bare_own ps Nothing x e = absurd (cc)

read_own : (f : Bool) (v : Variance) (ps : List HeadParam) (t : Ty) (x : ℕ) → read_alone f v ps t ≡ Some x → is_own ps x ≡ true
read_own true v ps t x e = absurd (cc)
read_own false Contravariant ps t x e = absurd (cc)
read_own false Covariant ps t x e = bare_own ps t x e
read_own false Invariant ps t x e = bare_own ps t x e

-- nothing in a function type and no argument of an `in` parameter is read as the parameter alone
no_function : {A : Type 0} (v : Variance) (ps : List HeadParam) (t : Ty) (x : ℕ) → read_alone true v ps t ≡ Some x → A
no_function v ps t x e = absurd (cc)

no_in : {A : Type 0} (f : Bool) (ps : List HeadParam) (t : Ty) (x : ℕ) → read_alone f Contravariant ps t ≡ Some x → A
no_in true ps t x e = absurd (cc)
no_in false ps t x e = absurd (cc)

first_exact : (a : Arg) (xs : Args) → Exact_args (more a xs) → Exact_args (more a none)
first_exact (Exact t) xs e = tt
first_exact (Out t) xs e = e
first_exact (In t) xs e = e
first_exact Star xs e = e

rest_exact : (a : Arg) (xs : Args) → Exact_args (more a xs) → Exact_args xs
rest_exact (Exact t) xs e = e
rest_exact (Out t) xs e = absurd e
rest_exact (In t) xs e = absurd e
rest_exact Star xs e = absurd e

abbrev if_invariant : Variance → Bool → Bool
if_invariant v b = elim v [ Invariant ↦ b | Covariant ↦ false | Contravariant ↦ false ]

-- ---- a bound taken upwards with stars is above it with any arguments, and downwards below
module _ (h : Heads) (vary : FunctionsVary h) (ps : List HeadParam) (own : HeadParam → Ty) (s : ℕ → Ty) (related : (x : ℕ) → Related h Invariant (s x) x (given (stars own ps) x)) where
  abbrev gs : List Given
  gs = stars own ps

  down_value : (x : ℕ) → is_own ps x ≡ true → value_down x (given gs x) ≡ Nothing
  down_value x e = let r = star_there own ps x e in ap (λ o. value_down x o) r.2

  alone_value : (x : ℕ) → is_own ps x ≡ true → alone x (given gs x) ≡ Star
  alone_value x e = let r = star_there own ps x e in ap (λ o. alone x o) r.2

  projection : (x : ℕ) → is_own ps x ≡ true → is_given_projection (given gs x) ≡ true
  projection x e = let r = star_there own ps x e in ap (λ o. is_given_projection o) r.2

  -- a parameter alone contains anything
  in_alone : (v : Variance) (top : Ty) (a : Arg) (x : ℕ) → is_own ps x ≡ true → In_arg h top (read v a) (read v (alone x (given gs x)))
  in_alone v top a x e = subst (λ b. In_arg h top (read v a) (read v b)) (sym (alone_value x e)) (in_star v top a)
    where
      in_star : (v : Variance) (top : Ty) (a : Arg) → In_arg h top (read v a) (read v Star)
      in_star Invariant top a = star
      in_star Covariant top a = star
      in_star Contravariant top a = star

  exact_at : (f : Bool) (v : Variance) (top : Ty) (t : Ty) → (f ≡ true → ¬ (v ≡ Invariant)) → Needed h v (put s t) (up h gs (bared h ps t)) (down h gs (bared h ps t)) →
      In_arg h top (read v (Exact (put s t))) (read v (up_arg h gs f (Exact (bared h ps t)) v))
  exact_at true Covariant top t n r = out_out r
  exact_at true Contravariant top t n r = in_in r
  exact_at true Invariant top t n r = absurd (n refl refl)
  exact_at false v top (Param x) n r = alone_at h Invariant v top (s x) x (given gs x) (related x) tt
  exact_at false v top (Class c xs) n r =
      projected_in h (names gs (bared h ps (Class c xs))) v top (put s (Class c xs)) (up h gs (bared h ps (Class c xs))) (down h gs (bared h ps (Class c xs))) (λ e. one_way h gs (bared h ps (Class c xs)) e) r
  exact_at false v top Nothing n r = reads_same h v top Nothing
  exact_at false v top (Nullable t) n r =
      projected_in h (names gs (bared h ps t)) v top (put s (Nullable t)) (up h gs (Nullable (bared h ps t))) (down h gs (Nullable (bared h ps t))) (λ e. one_way h gs (Nullable (bared h ps t)) e) r

  exact_in : (f : Bool) (v : Variance) (top : Ty) (t : Ty) (o : Option ℕ) → read_alone f v ps t ≡ o → (f ≡ true → ¬ (v ≡ Invariant)) → Needed h v (put s t) (up h gs (bared h ps t)) (down h gs (bared h ps t)) →
      In_arg h top (read v (Exact (put s t))) (read v (unless_against v (or_alone o (Exact (bared h ps t))) (up_arg h gs f (or_alone o (Exact (bared h ps t))) v)))
  exact_in f v top t None q n r =
      subst (λ b. In_arg h top (read v (Exact (put s t))) (read v b)) (sym (kept v (bared h ps t) (up_arg h gs f (Exact (bared h ps t)) v))) (exact_at f v top t n r)
  exact_in true v top t (Some x) q n r = no_function v ps t x q
  exact_in false v top t (Some x) q n r =
      subst (λ b. In_arg h top (read v (Exact (put s t))) (read v b)) (sym (kept v (Param x) (up_arg h gs false (Exact (Param x)) v))) (in_alone v top (Exact (put s t)) x (read_own false v ps t x q))

  out_in : (f : Bool) (v : Variance) (top : Ty) (t : Ty) (o : Option ℕ) → read_alone f v ps t ≡ o → (f ≡ true → ⊥) → Sub h (put s t) (up h gs (bared h ps t)) →
      In_arg h top (read v (Out (put s t))) (read v (unless_against v (or_alone o (Out (bared h ps t))) (up_arg h gs f (or_alone o (Out (bared h ps t))) v)))
  out_in true v top t o q e r = absurd (e refl)
  out_in false Invariant top t None q e r = out_out r
  out_in false Covariant top t None q e r = out_out r
  out_in false Contravariant top t None q e r = star
  out_in false v top t (Some x) q e r =
      subst (λ b. In_arg h top (read v (Out (put s t))) (read v b)) (sym (kept v (Param x) (alone x (given gs x)))) (in_alone v top (Out (put s t)) x (read_own false v ps t x q))

  exact_below : (f : Bool) (v : Variance) (top : Ty) (t : Ty) (o : Option ℕ) → read_alone f v ps t ≡ o →
      if_invariant v (names_arg gs (or_alone o (Exact (bared h ps t)))) ≡ false → Sub h (put s t) (up h gs (bared h ps t)) → Sub h (down h gs (bared h ps t)) (put s t) →
      In_arg h top (read v (unless_against v (or_alone o (Exact (bared h ps t))) (down_arg v (each_up h gs (or_alone o (Exact (bared h ps t)))) (each_down h gs (or_alone o (Exact (bared h ps t))))))) (read v (Exact (put s t)))
  exact_below f Covariant top t None q e u d = out_out d
  exact_below f Contravariant top t None q e u d = in_in u
  exact_below f Invariant top t None q e u d = exact d (subst (λ w. Sub h (put s t) w) (one_way h gs (bared h ps t) e) u)
  exact_below f Covariant top t (Some x) q e u d = out_out (subst (λ w. Sub h w (put s t)) (sym (down_value x (read_own f Covariant ps t x q))) nothing)
  exact_below f Contravariant top t (Some x) q e u d = no_in f ps t x q
  exact_below f Invariant top t (Some x) q e u d = let p = projection x (read_own f Invariant ps t x q) in absurd (cc)

  out_below : (f : Bool) (v : Variance) (top : Ty) (t : Ty) (o : Option ℕ) → read_alone f v ps t ≡ o →
      if_invariant v (names_arg gs (or_alone o (Out (bared h ps t)))) ≡ false → Sub h (down h gs (bared h ps t)) (put s t) →
      In_arg h top (read v (unless_against v (or_alone o (Out (bared h ps t))) (down_arg v (each_up h gs (or_alone o (Out (bared h ps t)))) (each_down h gs (or_alone o (Out (bared h ps t))))))) (read v (Out (put s t)))
  out_below f Covariant top t None q e d = out_out d
  out_below f Contravariant top t None q e d = star
  out_below f Invariant top t None q e d = out_out d
  out_below f Covariant top t (Some x) q e d = out_out (subst (λ w. Sub h w (put s t)) (sym (down_value x (read_own f Covariant ps t x q))) nothing)
  out_below f Contravariant top t (Some x) q e d = no_in f ps t x q
  out_below f Invariant top t (Some x) q e d = let p = projection x (read_own f Invariant ps t x q) in absurd (cc)

  mutual
    above_put : (t : Ty) → Formed h t → Sub h (put s t) (up h gs (bared h ps t))
    above_put (Class c xs) k = arguments (above_args (h.is_function c) (star_bound h c) (h.params c) xs (λ f. vary c f) k.0 k.1)
    above_put (Param x) k = above_value h Invariant (s x) x (given gs x) (related x) tt
    above_put Nothing k = same
    above_put (Nullable t) k = nullables h (put s t) (up h gs (bared h ps t)) (above_put t k.1)

    above_args : (f : Bool) (tops : HeadParam → Ty) (qs : List HeadParam) (xs : Args) → (f ≡ true → Varies qs) → (f ≡ true → Exact_args xs) → Args_formed h qs xs →
        All h tops qs (put_args s xs) (up_args h gs f qs (bared_args h ps f qs xs))
    above_args f tops [] none n e k = end
    above_args f tops (q ∷ qs) (more a xs) n e k =
        next (above_arg f q.variance (tops q) a (λ r. (n r).0) (λ r. first_exact a xs (e r)) k.0) (above_args f tops qs xs (λ r. (n r).1) (λ r. rest_exact a xs (e r)) k.1)
    above_args f tops [] (more a xs) n e k = absurd k
    above_args f tops (q ∷ qs) none n e k = absurd k

    above_arg : (f : Bool) (v : Variance) (top : Ty) (a : Arg) → (f ≡ true → ¬ (v ≡ Invariant)) → (f ≡ true → Exact_args (more a none)) → Arg_formed h a →
        In_arg h top (read v (put_arg s a)) (read v (unless_against v (bared_arg h ps f v a) (up_arg h gs f (bared_arg h ps f v a) v)))
    above_arg f Covariant top (Exact t) n e k = exact_in f Covariant top t (read_alone f Covariant ps t) refl n (above_put t k)
    above_arg f Contravariant top (Exact t) n e k = exact_in f Contravariant top t (read_alone f Contravariant ps t) refl n (below_put t k)
    above_arg f Invariant top (Exact t) n e k = exact_in f Invariant top t (read_alone f Invariant ps t) refl n (above_put t k, below_put t k)
    above_arg f v top (Out t) n e k = out_in f v top t (read_alone f v ps t) refl e (above_put t k)
    above_arg f Covariant top (In t) n e k = star
    above_arg f Contravariant top (In t) n e k = in_in (below_put t k)
    above_arg f Invariant top (In t) n e k = in_in (below_put t k)
    above_arg f Covariant top Star n e k = star
    above_arg f Contravariant top Star n e k = star
    above_arg f Invariant top Star n e k = star

    below_put : (t : Ty) → Formed h t → Sub h (down h gs (bared h ps t)) (put s t)
    below_put (Class c xs) k = let ys = bared_args h ps (h.is_function c) (h.params c) xs in
        unless_blocked h (blocked gs (h.params c) ys) (Class c (down_args h gs (h.params c) ys)) (Class c (put_args s xs)) (λ e. arguments (below_args (h.is_function c) (star_bound h c) (h.params c) xs e k.1))
    below_put (Param x) k = below_value h Invariant (s x) x (given gs x) (related x) tt
    below_put Nothing k = same
    below_put (Nullable t) k = nullables h (down h gs (bared h ps t)) (put s t) (below_put t k.1)

    below_args : (f : Bool) (tops : HeadParam → Ty) (qs : List HeadParam) (xs : Args) → blocked gs qs (bared_args h ps f qs xs) ≡ false → Args_formed h qs xs →
        All h tops qs (down_args h gs qs (bared_args h ps f qs xs)) (put_args s xs)
    below_args f tops [] none e k = end
    below_args f tops (q ∷ qs) (more a xs) e k =
        let r = either_false (if_invariant q.variance (names_arg gs (bared_arg h ps f q.variance a))) (blocked gs qs (bared_args h ps f qs xs)) e in
        next (below_arg f q.variance (tops q) a r.0 k.0) (below_args f tops qs xs r.1 k.1)
    below_args f tops [] (more a xs) e k = absurd k
    below_args f tops (q ∷ qs) none e k = absurd k

    below_arg : (f : Bool) (v : Variance) (top : Ty) (a : Arg) → if_invariant v (names_arg gs (bared_arg h ps f v a)) ≡ false → Arg_formed h a →
        In_arg h top (read v (unless_against v (bared_arg h ps f v a) (down_arg v (each_up h gs (bared_arg h ps f v a)) (each_down h gs (bared_arg h ps f v a))))) (read v (put_arg s a))
    below_arg f v top (Exact t) e k = exact_below f v top t (read_alone f v ps t) refl e (above_put t k) (below_put t k)
    below_arg f v top (Out t) e k = out_below f v top t (read_alone f v ps t) refl e (below_put t k)
    below_arg f Covariant top (In t) e k = star
    below_arg f Contravariant top (In t) e k = in_in (above_put t k)
    below_arg f Invariant top (In t) e k = in_in (subst (λ u. Sub h (put s t) u) (one_way h gs (bared h ps t) e) (above_put t k))
    below_arg f Covariant top Star e k = star
    below_arg f Contravariant top Star e k = star
    below_arg f Invariant top Star e k = star

-- ---- bounds that lead on
put_apart : (ps : List HeadParam) (xs : Args) (x : ℕ) → is_own ps x ≡ false → put_in ps xs x ≡ Param x
put_apart [] xs x e = refl
put_apart (p ∷ ps) none x e = refl
put_apart (p ∷ ps) (more a xs) x e =
    let q = either_false (nat_eq p.var x) (is_own ps x) e in
    second_of (nat_eq p.var x) (type_in x a) (put_in ps xs x) q.0 ∙ put_apart ps xs x q.1

module _ (h : Heads) (s : ℕ → Ty) where
  at_picked : (b c : Bool) (x : ℕ) (t u v w : Ty) → Sub h t (put s v) → ((c ≡ false → s x ≡ Param x) → Sub h u (put s w)) → ((b || c) ≡ false → s x ≡ Param x) → Sub h (cond b t u) (put s (cond b v w))
  at_picked true c x t u v w d f e = d
  at_picked false c x t u v w d f e = f e

  bounded_at : (ps : List HeadParam) (xs : Args) → Bounded h s ps xs → (x : ℕ) → (is_own ps x ≡ false → s x ≡ Param x) → Sub h (put_in ps xs x) (put s (bound_in ps x))
  bounded_at [] none b x e = subst (λ t. Sub h (Param x) t) (sym (e refl)) same
  bounded_at (p ∷ ps) (more (Exact t) xs) b x e = at_picked (nat_eq p.var x) (is_own ps x) x t (put_in ps xs x) p.bound (bound_in ps x) b.0 (λ f. bounded_at ps xs b.1 x f) e
  bounded_at (p ∷ ps) (more (Out t) xs) b x e = absurd b
  bounded_at (p ∷ ps) (more (In t) xs) b x e = absurd b
  bounded_at (p ∷ ps) (more Star xs) b x e = absurd b
  bounded_at [] (more a xs) b x e = absurd b
  bounded_at (p ∷ ps) none b x e = absurd b

  module _ (ps : List HeadParam) (leads : (x : ℕ) → Sub h (s x) (put s (bound_in ps x))) where
    lead_above : (t : Ty) → Sub h (put s t) (put s (lead ps t))
    lead_above (Class c xs) = same
    lead_above (Param x) = leads x
    lead_above Nothing = same
    lead_above (Nullable t) = subst (λ u. Sub h (nullable (put s t)) u) (sym (put_nullable s (lead ps t))) (nullables h (put s t) (put s (lead ps t)) (lead_above t))

    led_above : (n : ℕ) (t : Ty) → Sub h (put s t) (put s (led n ps t))
    led_above zero t = same
    led_above (suc n) t = through (lead_above t) (led_above n (lead ps t))

module _ (h : Heads) (s : ℕ → Ty) where
  -- arguments below their bounds as written are below other bounds, where each of these is above the written one
  all_within : (tops : HeadParam → Ty) (ps : List HeadParam) (xs : Args) → Bounded h s ps xs → ((p : HeadParam) → IsIn HeadParam p ps → Sub h (put s p.bound) (tops p)) → Within h tops ps xs
  all_within tops [] xs b over = tt
  all_within tops (p ∷ ps) (more (Exact t) xs) b over = (through b.0 (over p here), all_within tops ps xs b.1 (λ q i. over q (later i)))
  all_within tops (p ∷ ps) (more (Out t) xs) b over = absurd b
  all_within tops (p ∷ ps) (more (In t) xs) b over = absurd b
  all_within tops (p ∷ ps) (more Star xs) b over = absurd b
  all_within tops (p ∷ ps) none b over = absurd b

  all_any : (ps : List HeadParam) (xs : Args) → Bounded h s ps xs → Within h (λ p. anything h) ps xs
  all_any [] xs b = tt
  all_any (p ∷ ps) (more (Exact t) xs) b = (any, all_any ps xs b.1)
  all_any (p ∷ ps) (more (Out t) xs) b = absurd b
  all_any (p ∷ ps) (more (In t) xs) b = absurd b
  all_any (p ∷ ps) (more Star xs) b = absurd b
  all_any (p ∷ ps) none b = absurd b

leads_of : (h : Heads) (c : ℕ) (xs : Args) → Bounded h (put_in (h.params c) xs) (h.params c) xs → (x : ℕ) → Sub h (put_in (h.params c) xs x) (put (put_in (h.params c) xs) (bound_in (h.params c) x))
leads_of h c xs b x = bounded_at h (put_in (h.params c) xs) (h.params c) xs b x (put_apart (h.params c) xs x)

module _ (h : Heads) (vary : FunctionsVary h) (c : ℕ) (formed : (p : HeadParam) → IsIn HeadParam p (h.params c) → Formed h p.bound) (s : ℕ → Ty) (leads : (x : ℕ) → Sub h (s x) (put s (bound_in (h.params c) x))) where
  bound_above : (own : HeadParam → Ty) → ((x : ℕ) → Related h Invariant (s x) x (given (stars own (h.params c)) x)) → (t : Ty) → Formed h t → (n : ℕ) →
      Sub h (put s t) (up h (stars own (h.params c)) (bared h (h.params c) (led n (h.params c) t)))
  bound_above own related t k n = through (led_above h s (h.params c) leads n t) (above_put h vary (h.params c) own s related (led n (h.params c) t) (led_formed h n (h.params c) formed t k))

-- by the number of times that bounds are followed
steps_within : (h : Heads) → FunctionsVary h → (c : ℕ) → ((p : HeadParam) → IsIn HeadParam p (h.params c) → Formed h p.bound) → (xs : Args) → Bounded h (put_in (h.params c) xs) (h.params c) xs → (n : ℕ) →
    Within h (star_at n h c) (h.params c) xs
steps_within h vary c formed xs b zero = all_any h (put_in (h.params c) xs) (h.params c) xs b
steps_within h vary c formed xs b (suc n) =
    let related = related_stars h (put_in (h.params c) xs) (star_at n h c) (h.params c) xs b (steps_within h vary c formed xs b n) in
    all_within h (put_in (h.params c) xs) (star_at (suc n) h c) (h.params c) xs b
    (λ p i. bound_above h vary c formed (put_in (h.params c) xs) (leads_of h c xs b) (star_at n h c) related p.bound (formed p i) (length (h.params c)))

pub stars_above : StarsAreAbove
stars_above h vary c formed xs b = steps_within h vary c formed xs b (length (h.params c))
