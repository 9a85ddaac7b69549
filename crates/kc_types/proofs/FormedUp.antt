-- Formed types taken upwards and downwards are formed.
use Rattle.std.proofs.Common.{◌≡◌, ℕ, Bool, true, false, List, [], ◌∷◌, Option, Some, None, cond}
use Rattle.kc_types.specs.Types.{Ty, Class, Param, Nothing, Nullable, Arg, Exact, Out, In, Star, Args, none, more, Variance, Invariant, Covariant, Contravariant, HeadParam, Heads, Given, nullable, given, names, names_args, value_up, value_down, alone, variance_at, rest_of, projected, exact_up, flat, down_arg, unless_against, blocked, up, down, up_arg, up_args, down_args, each_up, each_down}
use Rattle.kc_types.specs.Formed.{Exact_args, Formed, Arg_formed, Args_formed}

pub nullable_formed : (h : Heads) (t : Ty) → Formed h t → Formed h (nullable t)
nullable_formed h (Class c xs) k = (tt, k)
nullable_formed h (Param x) k = (tt, k)
nullable_formed h Nothing k = (tt, k)
nullable_formed h (Nullable t) k = k

abbrev pub Given_formed : Heads → Option Given → Type 0
Given_formed h None = Unit {0}
Given_formed h (Some g) = Arg_formed h g.arg × Formed h g.top

pub given_picked : (h : Heads) (b : Bool) (g : Given) (o : Option Given) → Given_formed h (Some g) → Given_formed h o → Given_formed h (cond b (Some g) o)
given_picked h true g o k l = k
given_picked h false g o k l = l

value_up_arg : (h : Heads) (a : Arg) (top : Ty) → Arg_formed h a → Formed h top → Formed h (elim a [ Exact t ↦ t | Out t ↦ t | In t ↦ top | Star ↦ top ])
value_up_arg h (Exact t) top k l = k
value_up_arg h (Out t) top k l = k
value_up_arg h (In t) top k l = l
value_up_arg h Star top k l = l

value_down_arg : (h : Heads) (a : Arg) → Arg_formed h a → Formed h (elim a [ Exact t ↦ t | Out t ↦ Nothing | In t ↦ t | Star ↦ Nothing ])
value_down_arg h (Exact t) k = k
value_down_arg h (Out t) k = tt
value_down_arg h (In t) k = k
value_down_arg h Star k = tt

value_up_formed : (h : Heads) (x : ℕ) (o : Option Given) → Given_formed h o → Formed h (value_up x o)
value_up_formed h x None k = tt
value_up_formed h x (Some g) k = value_up_arg h g.arg g.top k.0 k.1

value_down_formed : (h : Heads) (x : ℕ) (o : Option Given) → Given_formed h o → Formed h (value_down x o)
value_down_formed h x None k = tt
value_down_formed h x (Some g) k = value_down_arg h g.arg k.0

alone_formed : (h : Heads) (x : ℕ) (o : Option Given) → Given_formed h o → Arg_formed h (alone x o)
alone_formed h x None k = tt
alone_formed h x (Some g) k = k.0

projected_formed : (h : Heads) (b : Bool) (v : Variance) (u d : Ty) → Formed h u → Formed h d → Arg_formed h (projected b v u d)
projected_formed h false v u d k l = k
projected_formed h true Contravariant u d k l = l
projected_formed h true Invariant u d k l = k
projected_formed h true Covariant u d k l = k

flat_formed : (h : Heads) (v : Variance) (u d : Ty) → Formed h u → Formed h d → Arg_formed h (flat v u d)
flat_formed h Contravariant u d k l = l
flat_formed h Covariant u d k l = k
flat_formed h Invariant u d k l = k

against_formed : (h : Heads) (v : Variance) (a b : Arg) → Arg_formed h b → Arg_formed h (unless_against v a b)
against_formed h Invariant a b k = k
against_formed h Covariant (Exact t) b k = k
against_formed h Covariant (Out t) b k = k
against_formed h Covariant (In t) b k = tt
against_formed h Covariant Star b k = k
against_formed h Contravariant (Exact t) b k = k
against_formed h Contravariant (Out t) b k = tt
against_formed h Contravariant (In t) b k = k
against_formed h Contravariant Star b k = k

down_arg_formed : (h : Heads) (v : Variance) (a b : Arg) → Arg_formed h a → Arg_formed h b → Arg_formed h (down_arg v a b)
down_arg_formed h Covariant a b k l = l
down_arg_formed h Contravariant a b k l = k
down_arg_formed h Invariant a b k l = l

unless_formed : (h : Heads) (b : Bool) (t : Ty) → Formed h t → Formed h (cond b Nothing t)
unless_formed h true t k = tt
unless_formed h false t k = k

-- types stay types in a function type
flat_exact : (v : Variance) (t u d : Ty) (xs : Args) → Exact_args xs → Exact_args (more (unless_against v (Exact t) (flat v u d)) xs)
flat_exact Contravariant t u d xs e = e
flat_exact Covariant t u d xs e = e
flat_exact Invariant t u d xs e = e

down_exact : (v : Variance) (t u d : Ty) (xs : Args) → Exact_args xs → Exact_args (more (unless_against v (Exact t) (down_arg v (Exact u) (Exact d))) xs)
down_exact Contravariant t u d xs e = e
down_exact Covariant t u d xs e = e
down_exact Invariant t u d xs e = e

module _ (h : Heads) (gs : List Given) where
  up_args_exact : (f : Bool) → f ≡ true → (ps : List HeadParam) (xs : Args) → Exact_args xs → Exact_args (up_args h gs f ps xs)
  up_args_exact f e ps none k = tt
  up_args_exact true e ps (more (Exact t) xs) k = flat_exact (variance_at ps) t (up h gs t) (down h gs t) (up_args h gs true (rest_of ps) xs) (up_args_exact true e (rest_of ps) xs k)
  up_args_exact false e ps (more (Exact t) xs) k = absurd (cc)
  up_args_exact f e ps (more (Out t) xs) k = absurd k
  up_args_exact f e ps (more (In t) xs) k = absurd k
  up_args_exact f e ps (more Star xs) k = absurd k

  down_args_exact : (ps : List HeadParam) (xs : Args) → Exact_args xs → Exact_args (down_args h gs ps xs)
  down_args_exact ps none k = tt
  down_args_exact ps (more (Exact t) xs) k = down_exact (variance_at ps) t (up h gs t) (down h gs t) (down_args h gs (rest_of ps) xs) (down_args_exact (rest_of ps) xs k)
  down_args_exact ps (more (Out t) xs) k = absurd k
  down_args_exact ps (more (In t) xs) k = absurd k
  down_args_exact ps (more Star xs) k = absurd k

module _ (h : Heads) (gs : List Given) (fine : (x : ℕ) → Given_formed h (given gs x)) where
  exact_up_formed : (v : Variance) (t : Ty) → Formed h (up h gs t) → Formed h (down h gs t) → Arg_formed h (exact_up gs v t (up h gs t) (down h gs t))
  exact_up_formed v (Param x) k l = alone_formed h x (given gs x) (fine x)
  exact_up_formed v (Class c xs) k l = projected_formed h (names_args gs xs) v (up h gs (Class c xs)) (down h gs (Class c xs)) k l
  exact_up_formed v Nothing k l = tt
  exact_up_formed v (Nullable t) k l = projected_formed h (names gs t) v (up h gs (Nullable t)) (down h gs (Nullable t)) k l

  exact_formed : (f : Bool) (v : Variance) (t : Ty) → Formed h (up h gs t) → Formed h (down h gs t) → Arg_formed h (up_arg h gs f (Exact t) v)
  exact_formed true v t k l = flat_formed h v (up h gs t) (down h gs t) k l
  exact_formed false v t k l = exact_up_formed v t k l

  mutual
    pub up_formed : (t : Ty) → Formed h t → Formed h (up h gs t)
    up_formed (Class c xs) k = (λ f. up_args_exact h gs (h.is_function c) f (h.params c) xs (k.0 f), up_args_formed (h.is_function c) (h.params c) xs k.1)
    up_formed (Param x) k = value_up_formed h x (given gs x) (fine x)
    up_formed Nothing k = tt
    up_formed (Nullable t) k = nullable_formed h (up h gs t) (up_formed t k.1)

    pub down_formed : (t : Ty) → Formed h t → Formed h (down h gs t)
    down_formed (Class c xs) k =
        unless_formed h (blocked gs (h.params c) xs) (Class c (down_args h gs (h.params c) xs)) (λ f. down_args_exact h gs (h.params c) xs (k.0 f), down_args_formed (h.params c) xs k.1)
    down_formed (Param x) k = value_down_formed h x (given gs x) (fine x)
    down_formed Nothing k = tt
    down_formed (Nullable t) k = nullable_formed h (down h gs t) (down_formed t k.1)

    up_arg_formed : (f : Bool) (v : Variance) (a : Arg) → Arg_formed h a → Arg_formed h (up_arg h gs f a v)
    up_arg_formed f v (Exact t) k = exact_formed f v t (up_formed t k) (down_formed t k)
    up_arg_formed f v (Out t) k = up_formed t k
    up_arg_formed f v (In t) k = down_formed t k
    up_arg_formed f v Star k = tt

    each_up_formed : (a : Arg) → Arg_formed h a → Arg_formed h (each_up h gs a)
    each_up_formed (Exact t) k = up_formed t k
    each_up_formed (Out t) k = up_formed t k
    each_up_formed (In t) k = up_formed t k
    each_up_formed Star k = tt

    each_down_formed : (a : Arg) → Arg_formed h a → Arg_formed h (each_down h gs a)
    each_down_formed (Exact t) k = down_formed t k
    each_down_formed (Out t) k = down_formed t k
    each_down_formed (In t) k = down_formed t k
    each_down_formed Star k = tt

    up_args_formed : (f : Bool) (ps : List HeadParam) (xs : Args) → Args_formed h ps xs → Args_formed h ps (up_args h gs f ps xs)
    up_args_formed f [] none k = tt
    up_args_formed f (p ∷ ps) (more a xs) k = (against_formed h p.variance a (up_arg h gs f a p.variance) (up_arg_formed f p.variance a k.0), up_args_formed f ps xs k.1)
    up_args_formed f [] (more a xs) k = absurd k
    up_args_formed f (p ∷ ps) none k = absurd k

    down_args_formed : (ps : List HeadParam) (xs : Args) → Args_formed h ps xs → Args_formed h ps (down_args h gs ps xs)
    down_args_formed [] none k = tt
    down_args_formed (p ∷ ps) (more a xs) k = (
      against_formed h p.variance a (down_arg p.variance (each_up h gs a) (each_down h gs a)) (down_arg_formed h p.variance (each_up h gs a) (each_down h gs a) (each_up_formed a k.0) (each_down_formed a k.0)),
      down_args_formed ps xs k.1,
    )
    down_args_formed [] (more a xs) k = absurd k
    down_args_formed (p ∷ ps) none k = absurd k
