-- Where no argument is a projection, to take a type upwards or downwards is to put the arguments in.
use Rattle.std.proofs.Common.{◌≡◌, ℕ, Bool, true, false, nat_eq, List, [], ◌∷◌, Option, Some, None, cond, ◌||◌, refl, ap, ◌∙◌}
use Rattle.kc_types.specs.Types.{Ty, Class, Param, Nothing, Nullable, Arg, Exact, Out, In, Star, Args, none, more, Variance, Invariant, Covariant, Contravariant, HeadParam, Heads, Given, nullable, is_projection, given, is_given_projection, names, names_arg, names_args, value_up, value_down, alone, variance_at, rest_of, projected, exact_up, flat, down_arg, unless_against, blocked, up, down, up_arg, up_args, down_args, each_up, each_down, given_all, class_given, reduced, reduced_args, star_bound}
use Rattle.kc_types.specs.Formed.{Exact_args}
use Rattle.kc_types.specs.Supertypes.{put, put_arg, put_args, put_in}
use Rattle.kc_types.specs.Subtype.{read}

-- types without projections
abbrev mutual
  pub Plain : Ty → Type 0
  Plain (Class c xs) = Plain_args xs
  Plain (Param x) = Unit {0}
  Plain Nothing = Unit {0}
  Plain (Nullable t) = Plain t

  pub Plain_arg : Arg → Type 0
  Plain_arg (Exact t) = Plain t
  Plain_arg (Out t) = ⊥
  Plain_arg (In t) = ⊥
  Plain_arg Star = ⊥

  pub Plain_args : Args → Type 0
  Plain_args none = Unit {0}
  Plain_args (more a xs) = Plain_arg a × Plain_args xs

pub neither : (a b : Bool) → a ≡ false → b ≡ false → (a || b) ≡ false
neither false b e f = f
neither true b e f = absurd cc

pub unprojected : (b : Bool) (v : Variance) (u d : Ty) → b ≡ false → projected b v u d ≡ Exact u
unprojected false v u d e = refl
unprojected true v u d e = absurd cc

pub unblocked : (b : Bool) (t : Ty) → b ≡ false → cond b Nothing t ≡ t
unblocked false t e = refl
unblocked true t e = absurd cc

pub flat_same : (v : Variance) (u d w : Ty) → u ≡ w → d ≡ w → flat v u d ≡ Exact w
flat_same Invariant u d w e f = ap (λ t. Exact t) e
flat_same Covariant u d w e f = ap (λ t. Exact t) e
flat_same Contravariant u d w e f = ap (λ t. Exact t) f

pub down_same : (v : Variance) (u d w : Ty) → u ≡ w → d ≡ w → down_arg v (Exact u) (Exact d) ≡ Exact w
down_same Invariant u d w e f = ap (λ t. Exact t) f
down_same Covariant u d w e f = ap (λ t. Exact t) f
down_same Contravariant u d w e f = ap (λ t. Exact t) e

pub kept : (v : Variance) (t : Ty) (b : Arg) → unless_against v (Exact t) b ≡ b
kept Invariant t b = refl
kept Covariant t b = refl
kept Contravariant t b = refl

-- what a parameter stands for, where that is a type
down_value : (x y : ℕ) (a : Arg) (top : Ty) → is_projection a ≡ false → value_down x (Some (record { var = y; arg = a; top = top })) ≡ value_up x (Some (record { var = y; arg = a; top = top }))
down_value x y (Exact t) top e = refl
down_value x y (Out t) top e = absurd cc
down_value x y (In t) top e = absurd cc
down_value x y Star top e = absurd cc

pub same_value : (x : ℕ) (o : Option Given) → is_given_projection o ≡ false → value_down x o ≡ value_up x o
same_value x None e = refl
same_value x (Some g) e = down_value x g.var g.arg g.top e

alone_value : (x y : ℕ) (a : Arg) (top : Ty) → is_projection a ≡ false → a ≡ Exact (value_up x (Some (record { var = y; arg = a; top = top })))
alone_value x y (Exact t) top e = refl
alone_value x y (Out t) top e = absurd cc
alone_value x y (In t) top e = absurd cc
alone_value x y Star top e = absurd cc

pub alone_exact : (x : ℕ) (o : Option Given) → is_given_projection o ≡ false → alone x o ≡ Exact (value_up x o)
alone_exact x None e = refl
alone_exact x (Some g) e = alone_value x g.var g.arg g.top e

pub blocked_at : (v : Variance) (b : Bool) → b ≡ false → elim v [ Invariant ↦ b | Covariant ↦ false | Contravariant ↦ false ] ≡ false
blocked_at Invariant b e = e
blocked_at Covariant b e = refl
blocked_at Contravariant b e = refl

module _ (h : Heads) (gs : List Given) (e : (x : ℕ) → is_given_projection (given gs x) ≡ false) (s : ℕ → Ty) (is : (x : ℕ) → value_up x (given gs x) ≡ s x) where
  mutual
    plain_names : (t : Ty) → Plain t → names gs t ≡ false
    plain_names (Class c xs) p = plain_names_args xs p
    plain_names (Param x) p = e x
    plain_names Nothing p = refl
    plain_names (Nullable t) p = plain_names t p

    plain_names_arg : (a : Arg) → Plain_arg a → names_arg gs a ≡ false
    plain_names_arg (Exact t) p = plain_names t p
    plain_names_arg (Out t) p = absurd p
    plain_names_arg (In t) p = absurd p
    plain_names_arg Star p = absurd p

    plain_names_args : (xs : Args) → Plain_args xs → names_args gs xs ≡ false
    plain_names_args none p = refl
    plain_names_args (more a xs) p = neither (names_arg gs a) (names_args gs xs) (plain_names_arg a p.0) (plain_names_args xs p.1)

  not_blocked : (ps : List HeadParam) (xs : Args) → Plain_args xs → blocked gs ps xs ≡ false
  not_blocked ps none p = refl
  not_blocked ps (more a xs) p = neither
      (elim (variance_at ps) [ Invariant ↦ names_arg gs a | Covariant ↦ false | Contravariant ↦ false ])
      (blocked gs (rest_of ps) xs)
      (blocked_at (variance_at ps) (names_arg gs a) (plain_names_arg a p.0))
      (not_blocked (rest_of ps) xs p.1)

  exact_same : (v : Variance) (t u d : Ty) → Plain t → u ≡ put s t → exact_up gs v t u d ≡ Exact (put s t)
  exact_same v (Param x) u d p q = alone_exact x (given gs x) (e x) ∙ ap (λ t. Exact t) (is x)
  exact_same v (Class c xs) u d p q = unprojected (names_args gs xs) v u d (plain_names_args xs p) ∙ ap (λ t. Exact t) q
  exact_same v Nothing u d p q = refl
  exact_same v (Nullable t) u d p q = unprojected (names gs t) v u d (plain_names t p) ∙ ap (λ w. Exact w) q

  up_exact : (f : Bool) (v : Variance) (t u d : Ty) → Plain t → u ≡ put s t → d ≡ put s t → cond f (flat v u d) (exact_up gs v t u d) ≡ Exact (put s t)
  up_exact true v t u d p q r = flat_same v u d (put s t) q r
  up_exact false v t u d p q r = exact_same v t u d p q

  mutual
    pub up_plain : (t : Ty) → Plain t → up h gs t ≡ put s t
    up_plain (Class c xs) p = ap (λ us. Class c us) (up_plain_args (h.is_function c) (h.params c) xs p)
    up_plain (Param x) p = is x
    up_plain Nothing p = refl
    up_plain (Nullable t) p = ap nullable (up_plain t p)

    down_plain : (t : Ty) → Plain t → down h gs t ≡ put s t
    down_plain (Class c xs) p =
        unblocked (blocked gs (h.params c) xs) (Class c (down_args h gs (h.params c) xs)) (not_blocked (h.params c) xs p) ∙ ap (λ us. Class c us) (down_plain_args (h.params c) xs p)
    down_plain (Param x) p = same_value x (given gs x) (e x) ∙ is x
    down_plain Nothing p = refl
    down_plain (Nullable t) p = ap nullable (down_plain t p)

    up_plain_arg : (f : Bool) (v : Variance) (a : Arg) → Plain_arg a → unless_against v a (up_arg h gs f a v) ≡ put_arg s a
    up_plain_arg f v (Exact t) p = kept v t (up_arg h gs f (Exact t) v) ∙ up_exact f v t (up h gs t) (down h gs t) p (up_plain t p) (down_plain t p)
    up_plain_arg f v (Out t) p = absurd p
    up_plain_arg f v (In t) p = absurd p
    up_plain_arg f v Star p = absurd p

    down_plain_arg : (v : Variance) (a : Arg) → Plain_arg a → unless_against v a (down_arg v (each_up h gs a) (each_down h gs a)) ≡ put_arg s a
    down_plain_arg v (Exact t) p =
        kept v t (down_arg v (each_up h gs (Exact t)) (each_down h gs (Exact t))) ∙ down_same v (up h gs t) (down h gs t) (put s t) (up_plain t p) (down_plain t p)
    down_plain_arg v (Out t) p = absurd p
    down_plain_arg v (In t) p = absurd p
    down_plain_arg v Star p = absurd p

    pub up_plain_args : (f : Bool) (ps : List HeadParam) (xs : Args) → Plain_args xs → up_args h gs f ps xs ≡ put_args s xs
    up_plain_args f ps none p = refl
    up_plain_args f ps (more a xs) p = cc (up_plain_arg f (variance_at ps) a p.0, up_plain_args f (rest_of ps) xs p.1)

    down_plain_args : (ps : List HeadParam) (xs : Args) → Plain_args xs → down_args h gs ps xs ≡ put_args s xs
    down_plain_args ps none p = refl
    down_plain_args ps (more a xs) p = cc (down_plain_arg (variance_at ps) a p.0, down_plain_args (rest_of ps) xs p.1)

given_picked : (b : Bool) (g : Given) (o : Option Given) → is_projection g.arg ≡ false → is_given_projection o ≡ false → is_given_projection (cond b (Some g) o) ≡ false
given_picked true g o e f = e
given_picked false g o e f = f

pub given_exact : (all : HeadParam → Ty) (ps : List HeadParam) (xs : Args) → Exact_args xs → (x : ℕ) → is_given_projection (given (given_all all ps xs) x) ≡ false
given_exact all [] xs e x = refl
given_exact all (p ∷ ps) none e x = refl
given_exact all (p ∷ ps) (more (Exact t) xs) e x = given_picked (nat_eq p.var x) (record { var = p.var; arg = Exact t; top = _ }) (given (given_all all ps xs) x) refl (given_exact all ps xs e x)
given_exact all (p ∷ ps) (more (Out t) xs) e x = absurd e
given_exact all (p ∷ ps) (more (In t) xs) e x = absurd e
given_exact all (p ∷ ps) (more Star xs) e x = absurd e

value_picked : (b : Bool) (x y : ℕ) (t top : Ty) (o : Option Given) (w : Ty) → value_up x o ≡ w → value_up x (cond b (Some (record { var = y; arg = Exact t; top = top })) o) ≡ cond b t w
value_picked true x y t top o w e = refl
value_picked false x y t top o w e = e

value_put : (all : HeadParam → Ty) (ps : List HeadParam) (xs : Args) → Exact_args xs → (x : ℕ) → value_up x (given (given_all all ps xs) x) ≡ put_in ps xs x
value_put all [] xs e x = refl
value_put all (p ∷ ps) none e x = refl
value_put all (p ∷ ps) (more (Exact t) xs) e x = value_picked (nat_eq p.var x) x p.var t _ (given (given_all all ps xs) x) (put_in ps xs x) (value_put all ps xs e x)
value_put all (p ∷ ps) (more (Out t) xs) e x = absurd e
value_put all (p ∷ ps) (more (In t) xs) e x = absurd e
value_put all (p ∷ ps) (more Star xs) e x = absurd e

-- ---- arguments as their variance has them
pub read_reduced : (v : Variance) (a : Arg) → read v (reduced v a) ≡ read v a
read_reduced Invariant a = refl
read_reduced Covariant (Exact t) = refl
read_reduced Covariant (Out t) = refl
read_reduced Covariant (In t) = refl
read_reduced Covariant Star = refl
read_reduced Contravariant (Exact t) = refl
read_reduced Contravariant (Out t) = refl
read_reduced Contravariant (In t) = refl
read_reduced Contravariant Star = refl

pub reduced_type : (v : Variance) (t : Ty) → reduced v (Exact t) ≡ Exact t
reduced_type Invariant t = refl
reduced_type Covariant t = refl
reduced_type Contravariant t = refl

pub reduced_exact : (ps : List HeadParam) (xs : Args) → Exact_args xs → reduced_args ps xs ≡ xs
reduced_exact [] xs e = refl
reduced_exact (p ∷ ps) none e = refl
reduced_exact (p ∷ ps) (more (Exact t) xs) e = cc (reduced_type p.variance t, reduced_exact ps xs e)
reduced_exact (p ∷ ps) (more (Out t) xs) e = absurd e
reduced_exact (p ∷ ps) (more (In t) xs) e = absurd e
reduced_exact (p ∷ ps) (more Star xs) e = absurd e

-- upwards from arguments that are types
pub up_is_put : (h : Heads) (c : ℕ) (xs : Args) → Exact_args xs → (t : Ty) → Plain t → up h (class_given h c xs) t ≡ put (put_in (h.params c) xs) t
up_is_put h c xs e t p =
    ap (λ ys. up h (given_all (star_bound h c) (h.params c) ys) t) (reduced_exact (h.params c) xs e) ∙
    up_plain h (given_all (star_bound h c) (h.params c) xs) (given_exact (star_bound h c) (h.params c) xs e) (put_in (h.params c) xs) (value_put (star_bound h c) (h.params c) xs e) t p
