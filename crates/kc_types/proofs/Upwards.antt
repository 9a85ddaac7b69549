-- A type taken upwards is above what it is with any arguments that are contained, and downwards below.
use Rattle.std.proofs.Common.{◌≡◌, ℕ, Bool, true, false, nat_eq, List, [], ◌∷◌, Option, Some, None, cond, refl, sym, ap, subst, ◌∙◌}
use Rattle.kc_types.specs.Types.{Ty, Class, Param, Nothing, Nullable, Arg, Exact, Out, In, Star, Args, none, more, Variance, Invariant, Covariant, Contravariant, HeadParam, Heads, Given, nullable, given, names, names_arg, names_args, value_up, value_down, alone, variance_at, rest_of, projected, exact_up, down_arg, unless_against, blocked, up, down, up_arg, up_args, down_args, each_up, each_down, star_bound, given_all, class_given, reduced, reduced_args}
use Rattle.kc_types.specs.Supertypes.{put, put_arg, put_args, put_in}
use Rattle.kc_types.specs.Subtype.{read, Sub, All, In_arg}
use Rattle.kc_types.specs.Subtype.Sub.{same, through, nothing, arguments}
use Rattle.kc_types.specs.Subtype.All.{end, next}
use Rattle.kc_types.specs.Subtype.In_arg.{star, out_exact, out_out, in_exact, in_in, exact}
use Rattle.kc_types.specs.Positions.{position, May, Stands, Arg_stands, All_stand, variance_in, Varies, FunctionsVary, Within}
use Rattle.kc_types.specs.Laws.{UpwardsIsAbove, DownwardsIsBelow}
use Rattle.kc_types.proofs.Exacts.{neither, unprojected, unblocked, flat_same, down_same, kept, same_value, alone_exact, blocked_at, read_reduced}
use Rattle.kc_types.proofs.CoreInWhole.{either_false, null_in, nulls_in}

-- ---- where no parameter that stands for a projection is named, upwards and downwards are one
module _ (h : Heads) (gs : List Given) where
  exact_unnamed : (v : Variance) (t : Ty) → names gs t ≡ false → exact_up gs v t (up h gs t) (down h gs t) ≡ Exact (up h gs t)
  exact_unnamed v (Param x) e = alone_exact x (given gs x) e
  exact_unnamed v (Class c xs) e = unprojected (names_args gs xs) v (up h gs (Class c xs)) (down h gs (Class c xs)) e
  exact_unnamed v Nothing e = refl
  exact_unnamed v (Nullable t) e = unprojected (names gs t) v (up h gs (Nullable t)) (down h gs (Nullable t)) e

  pub up_unnamed : (f : Bool) (v : Variance) (t : Ty) → names gs t ≡ false → up h gs t ≡ down h gs t → up_arg h gs f (Exact t) v ≡ Exact (up h gs t)
  up_unnamed true v t e q = flat_same v (up h gs t) (down h gs t) (up h gs t) refl (sym q)
  up_unnamed false v t e q = exact_unnamed v t e

  unnamed_unblocked : (ps : List HeadParam) (xs : Args) → names_args gs xs ≡ false → blocked gs ps xs ≡ false
  unnamed_unblocked ps none e = refl
  unnamed_unblocked ps (more a xs) e =
      let q = either_false (names_arg gs a) (names_args gs xs) e in
      neither (elim (variance_at ps) [ Invariant ↦ names_arg gs a | Covariant ↦ false | Contravariant ↦ false ]) (blocked gs (rest_of ps) xs)
      (blocked_at (variance_at ps) (names_arg gs a) q.0) (unnamed_unblocked (rest_of ps) xs q.1)

  exact_one : (f : Bool) (v : Variance) (t : Ty) → names gs t ≡ false → up h gs t ≡ down h gs t →
      unless_against v (Exact t) (up_arg h gs f (Exact t) v) ≡ unless_against v (Exact t) (down_arg v (each_up h gs (Exact t)) (each_down h gs (Exact t)))
  exact_one f v t e q =
      kept v t (up_arg h gs f (Exact t) v) ∙ up_unnamed f v t e q ∙
      sym (kept v t (down_arg v (each_up h gs (Exact t)) (each_down h gs (Exact t))) ∙ down_same v (up h gs t) (down h gs t) (up h gs t) refl (sym q))

  mutual
    pub one_way : (t : Ty) → names gs t ≡ false → up h gs t ≡ down h gs t
    one_way (Class c xs) e =
        ap (λ us. Class c us) (one_way_args (h.is_function c) (h.params c) xs e) ∙
        sym (unblocked (blocked gs (h.params c) xs) (Class c (down_args h gs (h.params c) xs)) (unnamed_unblocked (h.params c) xs e))
    one_way (Param x) e = sym (same_value x (given gs x) e)
    one_way Nothing e = refl
    one_way (Nullable t) e = ap nullable (one_way t e)

    one_way_arg : (f : Bool) (v : Variance) (a : Arg) → names_arg gs a ≡ false →
        unless_against v a (up_arg h gs f a v) ≡ unless_against v a (down_arg v (each_up h gs a) (each_down h gs a))
    one_way_arg f v (Exact t) e = exact_one f v t e (one_way t e)
    one_way_arg f Invariant (Out t) e = ap (λ u. Out u) (one_way t e)
    one_way_arg f Covariant (Out t) e = ap (λ u. Out u) (one_way t e)
    one_way_arg f Contravariant (Out t) e = refl
    one_way_arg f Invariant (In t) e = refl
    one_way_arg f Covariant (In t) e = refl
    one_way_arg f Contravariant (In t) e = ap (λ u. In u) (sym (one_way t e))
    one_way_arg f Invariant Star e = refl
    one_way_arg f Covariant Star e = refl
    one_way_arg f Contravariant Star e = refl

    one_way_args : (f : Bool) (ps : List HeadParam) (xs : Args) → names_args gs xs ≡ false → up_args h gs f ps xs ≡ down_args h gs ps xs
    one_way_args f ps none e = refl
    one_way_args f ps (more a xs) e =
        let q = either_false (names_arg gs a) (names_args gs xs) e in
        cc (one_way_arg f (variance_at ps) a q.0, one_way_args f (rest_of ps) xs q.1)

-- ---- what may stand in any position
may_weaken : (v q : Variance) → May v Invariant → May v q
may_weaken Invariant q m = tt
may_weaken Covariant q m = absurd m
may_weaken Contravariant q m = absurd m

module _ (h : Heads) (variance : ℕ → Variance) where
  mutual
    pub weaken : (q : Variance) (t : Ty) → Stands h variance Invariant t → Stands h variance q t
    weaken q (Class c xs) w = weaken_args q (h.params c) xs w
    weaken q (Param x) w = may_weaken (variance x) q w
    weaken q Nothing w = tt
    weaken q (Nullable t) w = weaken q t w

    weaken_arg : (q v : Variance) (a : Arg) → Arg_stands h variance Invariant v a → Arg_stands h variance q v a
    weaken_arg q v (Exact t) w = weaken (position q v) t w
    weaken_arg q v (Out t) w = weaken q t w
    weaken_arg q v (In t) w = weaken (position q Contravariant) t w
    weaken_arg q v Star w = tt

    weaken_args : (q : Variance) (ps : List HeadParam) (xs : Args) → All_stand h variance Invariant ps xs → All_stand h variance q ps xs
    weaken_args q [] none w = tt
    weaken_args q (p ∷ ps) (more a xs) w = (weaken_arg q p.variance a w.0, weaken_args q ps xs w.1)
    weaken_args q [] (more a xs) w = absurd w
    weaken_args q (p ∷ ps) none w = absurd w

-- ---- a parameter's type and what it stands for
module _ (h : Heads) where
  in_out : {top a b : Ty} → In_arg h top (Out a) (Out b) → Sub h a b
  in_out (out_out d) = d

  exact_in_out : {top a b : Ty} → In_arg h top (Exact a) (Out b) → Sub h a b
  exact_in_out (out_exact d) = d

  in_in_in : {top a b : Ty} → In_arg h top (In a) (In b) → Sub h b a
  in_in_in (in_in d) = d

  exact_in_in : {top a b : Ty} → In_arg h top (Exact a) (In b) → Sub h b a
  exact_in_in (in_exact d) = d

  exact_both : {top a b : Ty} → In_arg h top (Exact a) (Exact b) → Sub h a b × Sub h b a
  exact_both (exact d e) = (d, e)

  -- as the parameter itself is contained, so it is as an argument of a parameter in a position where it may stand
  alone_in : (v w : Variance) (top upper a : Ty) (b : Arg) → May v w → In_arg h top (read v (Exact a)) (read v b) → In_arg h upper (read w (Exact a)) (read w b)
  alone_in Invariant Invariant top upper a (Exact b) m d = let e = exact_both d in exact e.0 e.1
  alone_in Invariant Invariant top upper a (Out b) m d = out_exact (exact_in_out d)
  alone_in Invariant Invariant top upper a (In b) m d = in_exact (exact_in_in d)
  alone_in Invariant Invariant top upper a Star m d = star
  alone_in Invariant Covariant top upper a (Exact b) m d = let e = exact_both d in out_out e.0
  alone_in Invariant Covariant top upper a (Out b) m d = out_out (exact_in_out d)
  alone_in Invariant Covariant top upper a (In b) m d = star
  alone_in Invariant Covariant top upper a Star m d = star
  alone_in Invariant Contravariant top upper a (Exact b) m d = let e = exact_both d in in_in e.1
  alone_in Invariant Contravariant top upper a (Out b) m d = star
  alone_in Invariant Contravariant top upper a (In b) m d = in_in (exact_in_in d)
  alone_in Invariant Contravariant top upper a Star m d = star
  alone_in Covariant Covariant top upper a (Exact b) m d = out_out (in_out d)
  alone_in Covariant Covariant top upper a (Out b) m d = out_out (in_out d)
  alone_in Covariant Covariant top upper a (In b) m d = star
  alone_in Covariant Covariant top upper a Star m d = star
  alone_in Covariant Contravariant top upper a b m d = absurd m
  alone_in Covariant Invariant top upper a b m d = absurd m
  alone_in Contravariant Contravariant top upper a (Exact b) m d = in_in (in_in_in d)
  alone_in Contravariant Contravariant top upper a (Out b) m d = star
  alone_in Contravariant Contravariant top upper a (In b) m d = in_in (in_in_in d)
  alone_in Contravariant Contravariant top upper a Star m d = star
  alone_in Contravariant Covariant top upper a b m d = absurd m
  alone_in Contravariant Invariant top upper a b m d = absurd m

  value_above : (v : Variance) (a top : Ty) (b : Arg) → In_arg h top (read v (Exact a)) (read v b) → Sub h a top → May v Covariant → Sub h a (elim b [ Exact t ↦ t | Out t ↦ t | In t ↦ top | Star ↦ top ])
  value_above Invariant a top (Exact b) d w m = (exact_both d).0
  value_above Invariant a top (Out b) d w m = exact_in_out d
  value_above Invariant a top (In b) d w m = w
  value_above Invariant a top Star d w m = w
  value_above Covariant a top (Exact b) d w m = in_out d
  value_above Covariant a top (Out b) d w m = in_out d
  value_above Covariant a top (In b) d w m = w
  value_above Covariant a top Star d w m = w
  value_above Contravariant a top b d w m = absurd m

  value_below : (v : Variance) (a top : Ty) (b : Arg) → In_arg h top (read v (Exact a)) (read v b) → May v Contravariant → Sub h (elim b [ Exact t ↦ t | Out t ↦ Nothing | In t ↦ t | Star ↦ Nothing ]) a
  value_below Invariant a top (Exact b) d m = (exact_both d).1
  value_below Invariant a top (Out b) d m = nothing
  value_below Invariant a top (In b) d m = exact_in_in d
  value_below Invariant a top Star d m = nothing
  value_below Contravariant a top (Exact b) d m = in_in_in d
  value_below Contravariant a top (Out b) d m = nothing
  value_below Contravariant a top (In b) d m = in_in_in d
  value_below Contravariant a top Star d m = nothing
  value_below Covariant a top b d m = absurd m

  pub reads_same : (v : Variance) (top a : Ty) → In_arg h top (read v (Exact a)) (read v (Exact a))
  reads_same Invariant top a = exact same same
  reads_same Covariant top a = out_out same
  reads_same Contravariant top a = in_in same

  -- what an argument needs of a type, of it taken upwards and of it taken downwards
  abbrev pub Needed : Variance → Ty → Ty → Ty → Type 0
  Needed Covariant a u d = Sub h a u
  Needed Contravariant a u d = Sub h d a
  Needed Invariant a u d = Sub h a u × Sub h d a

  pub projected_in : (b : Bool) (v : Variance) (top a u d : Ty) → (b ≡ false → u ≡ d) → Needed v a u d → In_arg h top (read v (Exact a)) (read v (projected b v u d))
  projected_in true Covariant top a u d e r = out_out r
  projected_in true Contravariant top a u d e r = in_in r
  projected_in true Invariant top a u d e r = out_exact r.0
  projected_in false Covariant top a u d e r = out_out r
  projected_in false Contravariant top a u d e r = in_in (subst (λ x. Sub h x a) (sym (e refl)) r)
  projected_in false Invariant top a u d e r = exact r.0 (subst (λ x. Sub h x a) (sym (e refl)) r.1)

  -- a type, and what its parameter stands for
  abbrev pub Related : Variance → Ty → ℕ → Option Given → Type 0
  Related v a x None = a ≡ Param x
  Related v a x (Some g) = In_arg h g.top (read v (Exact a)) (read v g.arg) × Sub h a g.top

  pub alone_at : (v w : Variance) (upper a : Ty) (x : ℕ) (o : Option Given) → Related v a x o → May v w → In_arg h upper (read w (Exact a)) (read w (alone x o))
  alone_at v w upper a x None r m = subst (λ b. In_arg h upper (read w (Exact a)) (read w (Exact b))) r (reads_same w upper a)
  alone_at v w upper a x (Some g) r m = alone_in v w g.top upper a g.arg m r.0

  pub above_value : (v : Variance) (a : Ty) (x : ℕ) (o : Option Given) → Related v a x o → May v Covariant → Sub h a (value_up x o)
  above_value v a x None r m = subst (λ b. Sub h a b) r same
  above_value v a x (Some g) r m = value_above v a g.top g.arg r.0 r.1 m

  pub below_value : (v : Variance) (a : Ty) (x : ℕ) (o : Option Given) → Related v a x o → May v Contravariant → Sub h (value_down x o) a
  below_value v a x None r m = subst (λ b. Sub h b a) r same
  below_value v a x (Some g) r m = value_below v a g.top g.arg r.0 m

  pub unless_blocked : (b : Bool) (t u : Ty) → (b ≡ false → Sub h t u) → Sub h (cond b Nothing t) u
  unless_blocked true t u f = nothing
  unless_blocked false t u f = f refl

  pub nullables : (a b : Ty) → Sub h a b → Sub h (nullable a) (nullable b)
  nullables a b d = nulls_in h a b (through d (null_in h b))

module _ (h : Heads) (vary : FunctionsVary h) (variance : ℕ → Variance) (gs : List Given) (s : ℕ → Ty) (related : (x : ℕ) → Related h (variance x) (s x) x (given gs x)) where
  exact_at : (f : Bool) (v : Variance) (top : Ty) (t : Ty) → (f ≡ true → ¬ (v ≡ Invariant)) → Stands h variance v t → Needed h v (put s t) (up h gs t) (down h gs t) →
      In_arg h top (read v (Exact (put s t))) (read v (up_arg h gs f (Exact t) v))
  exact_at true Covariant top t n w r = out_out r
  exact_at true Contravariant top t n w r = in_in r
  exact_at true Invariant top t n w r = absurd (n refl refl)
  exact_at false v top (Param x) n w r = alone_at h (variance x) v top (s x) x (given gs x) (related x) w
  exact_at false v top (Class c xs) n w r = projected_in h (names_args gs xs) v top (put s (Class c xs)) (up h gs (Class c xs)) (down h gs (Class c xs)) (λ e. one_way h gs (Class c xs) e) r
  exact_at false v top Nothing n w r = reads_same h v top Nothing
  exact_at false v top (Nullable t) n w r = projected_in h (names gs t) v top (put s (Nullable t)) (up h gs (Nullable t)) (down h gs (Nullable t)) (λ e. one_way h gs (Nullable t) e) r

  exact_in : (f : Bool) (v : Variance) (top : Ty) (t : Ty) → (f ≡ true → ¬ (v ≡ Invariant)) → Stands h variance v t → Needed h v (put s t) (up h gs t) (down h gs t) →
      In_arg h top (read v (Exact (put s t))) (read v (unless_against v (Exact t) (up_arg h gs f (Exact t) v)))
  exact_in f v top t n w r = subst (λ b. In_arg h top (read v (Exact (put s t))) (read v b)) (sym (kept v t (up_arg h gs f (Exact t) v))) (exact_at f v top t n w r)

  mutual
    pub above_put : (t : Ty) → Stands h variance Covariant t → Sub h (put s t) (up h gs t)
    above_put (Class c xs) w = arguments (above_args (h.is_function c) (star_bound h c) (h.params c) xs (λ e. vary c e) w)
    above_put (Param x) w = above_value h (variance x) (s x) x (given gs x) (related x) w
    above_put Nothing w = same
    above_put (Nullable t) w = nullables h (put s t) (up h gs t) (above_put t w)

    above_args : (f : Bool) (all : HeadParam → Ty) (ps : List HeadParam) (xs : Args) → (f ≡ true → Varies ps) → All_stand h variance Covariant ps xs → All h all ps (put_args s xs) (up_args h gs f ps xs)
    above_args f all [] none n w = end
    above_args f all (p ∷ ps) (more a xs) n w = next (above_arg f p.variance (all p) a (λ e. (n e).0) w.0) (above_args f all ps xs (λ e. (n e).1) w.1)
    above_args f all [] (more a xs) n w = absurd w
    above_args f all (p ∷ ps) none n w = absurd w

    above_arg : (f : Bool) (v : Variance) (top : Ty) (a : Arg) → (f ≡ true → ¬ (v ≡ Invariant)) → Arg_stands h variance Covariant v a →
        In_arg h top (read v (put_arg s a)) (read v (unless_against v a (up_arg h gs f a v)))
    above_arg f Covariant top (Exact t) n w = exact_in f Covariant top t n w (above_put t w)
    above_arg f Contravariant top (Exact t) n w = exact_in f Contravariant top t n w (below_put t w)
    above_arg f Invariant top (Exact t) n w = exact_in f Invariant top t n w (above_put t (weaken h variance Covariant t w), below_put t (weaken h variance Contravariant t w))
    above_arg f Covariant top (Out t) n w = out_out (above_put t w)
    above_arg f Contravariant top (Out t) n w = star
    above_arg f Invariant top (Out t) n w = out_out (above_put t w)
    above_arg f Covariant top (In t) n w = star
    above_arg f Contravariant top (In t) n w = in_in (below_put t w)
    above_arg f Invariant top (In t) n w = in_in (below_put t w)
    above_arg f Covariant top Star n w = star
    above_arg f Contravariant top Star n w = star
    above_arg f Invariant top Star n w = star

    pub below_put : (t : Ty) → Stands h variance Contravariant t → Sub h (down h gs t) (put s t)
    below_put (Class c xs) w = unless_blocked h (blocked gs (h.params c) xs) (Class c (down_args h gs (h.params c) xs)) (Class c (put_args s xs)) (λ e. arguments (below_args (star_bound h c) (h.params c) xs e w))
    below_put (Param x) w = below_value h (variance x) (s x) x (given gs x) (related x) w
    below_put Nothing w = same
    below_put (Nullable t) w = nullables h (down h gs t) (put s t) (below_put t w)

    below_args : (all : HeadParam → Ty) (ps : List HeadParam) (xs : Args) → blocked gs ps xs ≡ false → All_stand h variance Contravariant ps xs → All h all ps (down_args h gs ps xs) (put_args s xs)
    below_args all [] none e w = end
    below_args all (p ∷ ps) (more a xs) e w =
        let q = either_false (elim p.variance [ Invariant ↦ names_arg gs a | Covariant ↦ false | Contravariant ↦ false ]) (blocked gs ps xs) e in
        next (below_arg p.variance (all p) a q.0 w.0) (below_args all ps xs q.1 w.1)
    below_args all [] (more a xs) e w = absurd w
    below_args all (p ∷ ps) none e w = absurd w

    below_arg : (v : Variance) (top : Ty) (a : Arg) → elim v [ Invariant ↦ names_arg gs a | Covariant ↦ false | Contravariant ↦ false ] ≡ false → Arg_stands h variance Contravariant v a →
        In_arg h top (read v (unless_against v a (down_arg v (each_up h gs a) (each_down h gs a)))) (read v (put_arg s a))
    below_arg Covariant top (Exact t) e w = out_out (below_put t w)
    below_arg Covariant top (Out t) e w = out_out (below_put t w)
    below_arg Covariant top (In t) e w = star
    below_arg Covariant top Star e w = star
    below_arg Contravariant top (Exact t) e w = in_in (above_put t w)
    below_arg Contravariant top (Out t) e w = star
    below_arg Contravariant top (In t) e w = in_in (above_put t w)
    below_arg Contravariant top Star e w = star
    below_arg Invariant top (Exact t) e w = exact (below_put t (weaken h variance Contravariant t w)) (subst (λ u. Sub h (put s t) u) (one_way h gs t e) (above_put t (weaken h variance Covariant t w)))
    below_arg Invariant top (Out t) e w = out_out (below_put t w)
    below_arg Invariant top (In t) e w = in_in (subst (λ u. Sub h (put s t) u) (one_way h gs t e) (above_put t w))
    below_arg Invariant top Star e w = star

-- ---- from the lists of arguments
module _ (h : Heads) where
  related_picked : (b : Bool) (v w : Variance) (t u : Ty) (x : ℕ) (g : Given) (o : Option Given) → Related h v t x (Some g) → Related h w u x o → Related h (cond b v w) (cond b t u) x (cond b (Some g) o)
  related_picked true v w t u x g o r q = r
  related_picked false v w t u x g o r q = q

  abbrev At : (HeadParam → Ty) → List HeadParam → Args → Args → ℕ → Type 0
  At all ps xs ys x = Related h (variance_in ps x) (put_in ps xs x) x (given (given_all all ps (reduced_args ps ys)) x)

  related_next : (all : HeadParam → Ty) (p : HeadParam) (ps : List HeadParam) (a b : Arg) (xs ys : Args) → In_arg h (all p) (read p.variance a) (read p.variance b) →
      Within h all (p ∷ ps) (more a xs) → (x : ℕ) → (Within h all ps xs → At all ps xs ys x) → At all (p ∷ ps) (more a xs) (more b ys) x
  related_next all p ps (Exact t) b xs ys d w x rest =
      related_picked (nat_eq p.var x) p.variance (variance_in ps x) t (put_in ps xs x) x (record { var = p.var; arg = reduced p.variance b; top = all p }) (given (given_all all ps (reduced_args ps ys)) x)
      (subst (λ c. In_arg h (all p) (read p.variance (Exact t)) c) (sym (read_reduced p.variance b)) d, w.0) (rest w.1)
  related_next all p ps (Out t) b xs ys d w x rest = absurd w
  related_next all p ps (In t) b xs ys d w x rest = absurd w
  related_next all p ps Star b xs ys d w x rest = absurd w

  related_all : {all : HeadParam → Ty} {ps : List HeadParam} {xs ys : Args} → All h all ps xs ys → Within h all ps xs → (x : ℕ) → At all ps xs ys x
  related_all end w x = refl
  related_all (next {tops = all} {p = p} {ps = ps} {a = a} {b = b} {xs = xs} {ys = ys} d ds) w x = related_next all p ps a b xs ys d w x (λ r. related_all ds r x)

pub upwards_above : UpwardsIsAbove
upwards_above h vary c xs ys w d t q = above_put h vary (variance_in (h.params c)) (class_given h c ys) (put_in (h.params c) xs) (related_all h d w) t q

pub downwards_below : DownwardsIsBelow
downwards_below h vary c xs ys w d t q = below_put h vary (variance_in (h.params c)) (class_given h c ys) (put_in (h.params c) xs) (related_all h d w) t q
