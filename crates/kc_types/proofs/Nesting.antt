-- How deep a type goes into `in`, and how deep what it hands over to the other side does: a supertype hands over no more than the class type.
use Rattle.std.proofs.Common.{◌≡◌, ℕ, suc, ◌≤◌, Bool, true, false, nat_eq, List, [], ◌∷◌, Option, Some, None, cond, max, refl, sym, subst, arith}
use Rattle.kc_types.specs.Types.{Ty, Class, Param, Nothing, Nullable, Arg, Exact, Out, In, Star, Args, none, more, Variance, Invariant, Covariant, Contravariant, HeadParam, Heads, Given, nullable, is_projection, given, is_given_projection, names, names_arg, names_args, value_up, value_down, alone, variance_at, rest_of, projected, flat, unless_against, up, down, up_arg, up_args, given_all, reduced, reduced_args}
use Rattle.kc_types.specs.Supertypes.{IsIn, here, later}
use Rattle.kc_types.specs.Subtype.{options, choices, choices_by}
use Rattle.kc_types.specs.Formed.{Formed, Arg_formed, Args_formed}
use Rattle.kc_types.specs.Positions.{May, Stands, Arg_stands, All_stand, variance_in, Varies, FunctionsVary}
use Rattle.kc_types.specs.Ending.{Not_in, Simple, Without_in, Arg_without_in, Args_without_in, Limited_arg, Limited_args, Limited}
use Rattle.kc_types.proofs.Exacts.{kept}
use Rattle.kc_types.proofs.CoreInWhole.{either_false}
use Rattle.kc_types.proofs.Sound.{made}
use Rattle.kc_types.proofs.Reflexive.{only_none}
use Rattle.kc_types.proofs.Upwards.{up_unnamed, one_way, weaken}

abbrev one_more : Variance → ℕ → ℕ
one_more Invariant n = n
one_more Covariant n = n
one_more Contravariant n = suc n

abbrev by_variance : Variance → ℕ → ℕ → ℕ
by_variance Invariant n m = m
by_variance Covariant n m = n
by_variance Contravariant n m = m

module _ (h : Heads) where
  abbrev mutual
    pub nest : Ty → ℕ
    nest (Class c xs) = nests (h.params c) xs
    nest (Param x) = 0
    nest Nothing = 0
    nest (Nullable t) = nest t

    pub nest_arg : Variance → Arg → ℕ
    nest_arg v (Exact t) = one_more v (nest t)
    nest_arg v (Out t) = nest t
    nest_arg v (In t) = suc (nest t)
    nest_arg v Star = 0

    pub nests : List HeadParam → Args → ℕ
    nests ps none = 0
    nests ps (more a xs) = max (nest_arg (variance_at ps) a) (nests (rest_of ps) xs)

module _ (h : Heads) where
  -- what stands on the left hands over
  abbrev mutual
    pub hand : Ty → ℕ
    hand (Class c xs) = hands (h.params c) xs
    hand (Param x) = 0
    hand Nothing = 0
    hand (Nullable t) = hand t

    pub hand_arg : Variance → Arg → ℕ
    hand_arg v (Exact t) = by_variance v (hand t) (nest h t)
    hand_arg v (Out t) = hand t
    hand_arg v (In t) = nest h t
    hand_arg v Star = 0

    pub hands : List HeadParam → Args → ℕ
    hands ps none = 0
    hands ps (more a xs) = max (hand_arg (variance_at ps) a) (hands (rest_of ps) xs)

  pub at_most_both : (a b n : ℕ) → a ≤ n → b ≤ n → max a b ≤ n
  at_most_both a b n p q = omega (arith, p, q)

  max_grows : (a b c d : ℕ) → a ≤ c → b ≤ d → max a b ≤ max c d
  max_grows a b c d p q = omega (arith, p, q)

  by_less : (v : Variance) (n m : ℕ) → n ≤ m → by_variance v n m ≤ one_more v m
  by_less Invariant n m p = omega arith
  by_less Covariant n m p = p
  by_less Contravariant n m p = omega arith

  mutual
    pub hand_nest : (t : Ty) → hand t ≤ nest h t
    hand_nest (Class c xs) = hands_nests (h.params c) xs
    hand_nest (Param x) = omega arith
    hand_nest Nothing = omega arith
    hand_nest (Nullable t) = hand_nest t

    hand_nest_arg : (v : Variance) (a : Arg) → hand_arg v a ≤ nest_arg h v a
    hand_nest_arg v (Exact t) = by_less v (hand t) (nest h t) (hand_nest t)
    hand_nest_arg v (Out t) = hand_nest t
    hand_nest_arg v (In t) = omega arith
    hand_nest_arg v Star = omega arith

    hands_nests : (ps : List HeadParam) (xs : Args) → hands ps xs ≤ nests h ps xs
    hands_nests ps none = omega arith
    hands_nests ps (more a xs) = max_grows (hand_arg (variance_at ps) a) (hands (rest_of ps) xs) (nest_arg h (variance_at ps) a) (nests h (rest_of ps) xs) (hand_nest_arg (variance_at ps) a) (hands_nests (rest_of ps) xs)

  nest_nullable : (t : Ty) → nest h (nullable t) ≡ nest h t
  nest_nullable (Class c xs) = refl
  nest_nullable (Param x) = refl
  nest_nullable Nothing = refl
  nest_nullable (Nullable t) = refl

  hand_nullable : (t : Ty) → hand (nullable t) ≡ hand t
  hand_nullable (Class c xs) = refl
  hand_nullable (Param x) = refl
  hand_nullable Nothing = refl
  hand_nullable (Nullable t) = refl

  -- ---- types without `in` go into none
  mutual
    without_nest : (t : Ty) → Without_in h t → Formed h t → nest h t ≤ 0
    without_nest (Class c xs) w k = without_nests (h.params c) xs w k.1
    without_nest (Param x) w k = omega arith
    without_nest Nothing w k = omega arith
    without_nest (Nullable t) w k = without_nest t w k.1

    without_nest_arg : (v : Variance) (a : Arg) → Not_in v → Arg_without_in h a → Arg_formed h a → nest_arg h v a ≤ 0
    without_nest_arg Invariant (Exact t) n w k = without_nest t w k
    without_nest_arg Covariant (Exact t) n w k = without_nest t w k
    without_nest_arg Contravariant (Exact t) n w k = absurd n
    without_nest_arg v (Out t) n w k = without_nest t w k
    without_nest_arg v (In t) n w k = absurd w
    without_nest_arg v Star n w k = omega arith

    without_nests : (ps : List HeadParam) (xs : Args) → Args_without_in h ps xs → Args_formed h ps xs → nests h ps xs ≤ 0
    without_nests [] none w k = omega arith
    without_nests (p ∷ ps) (more a xs) w k = at_most_both (nest_arg h p.variance a) (nests h ps xs) 0 (without_nest_arg p.variance a w.0 w.1 k.0) (without_nests ps xs w.2 k.1)
    without_nests [] (more a xs) w k = absurd k
    without_nests (p ∷ ps) none w k = absurd k

  hand_by : (v : Variance) (t : Ty) → Not_in v → nest h t ≤ 0 → hand_arg v (Exact t) ≤ 0
  hand_by Invariant t n e = e
  hand_by Covariant t n e = let p = hand_nest t in omega (arith, p, e)
  hand_by Contravariant t n e = absurd n

  without_hand : (v : Variance) (a : Arg) → Not_in v → Arg_without_in h a → Arg_formed h a → hand_arg v a ≤ 0
  without_hand v (Exact t) n w k = hand_by v t n (without_nest t w k)
  without_hand v (Out t) n w k = let p = hand_nest t in let q = without_nest t w k in omega (arith, p, q)
  without_hand v (In t) n w k = absurd w
  without_hand v Star n w k = omega arith

  simple_hand : (a : Arg) → Simple a → hand_arg Contravariant a ≤ 0
  simple_hand (Exact (Param x)) s = omega arith
  simple_hand (Exact (Class c none)) s = omega arith
  simple_hand (Exact (Class c (more a xs))) s = absurd s
  simple_hand (Exact Nothing) s = absurd s
  simple_hand (Exact (Nullable t)) s = absurd s
  simple_hand (Out t) s = absurd s
  simple_hand (In t) s = absurd s
  simple_hand Star s = omega arith

  limited_arg_hand : (v : Variance) (a : Arg) → Limited_arg h v a → Arg_formed h a → hand_arg v a ≤ 0
  limited_arg_hand Contravariant a l k = simple_hand a l
  limited_arg_hand Covariant a l k = without_hand Covariant a tt l k
  limited_arg_hand Invariant a l k = without_hand Invariant a tt l k

  limited_hands : (ps : List HeadParam) (xs : Args) → Limited_args h ps xs → Args_formed h ps xs → hands ps xs ≤ 0
  limited_hands [] none l k = omega arith
  limited_hands (p ∷ ps) (more a xs) l k = at_most_both (hand_arg p.variance a) (hands ps xs) 0 (limited_arg_hand p.variance a l.0 k.0) (limited_hands ps xs l.1 k.1)
  limited_hands [] (more a xs) l k = absurd k
  limited_hands (p ∷ ps) none l k = absurd k

  pub limited_hand : (t : Ty) → Limited h t → Formed h t → hand t ≤ 0
  limited_hand (Class c xs) l k = limited_hands (h.params c) xs l k.1
  limited_hand (Param x) l k = omega arith
  limited_hand Nothing l k = omega arith
  limited_hand (Nullable t) l k = limited_hand t l k.1

  -- ---- a type taken upwards
  abbrev pub Room : ℕ → Variance → Option Given → Type 0
  Room n v None = Unit {0}
  Room n v (Some g) = (hand_arg v g.arg ≤ n) × (hand g.top ≤ n)

  value_nest : (n : ℕ) (v : Variance) (a : Arg) (top : Ty) → hand_arg v a ≤ n → May v Invariant → is_projection a ≡ false → nest h (elim a [ Exact t ↦ t | Out t ↦ t | In t ↦ top | Star ↦ top ]) ≤ n
  value_nest n Invariant (Exact t) top r m e = r
  value_nest n Invariant (Out t) top r m e = absurd (cc)
  value_nest n Invariant (In t) top r m e = absurd (cc)
  value_nest n Invariant Star top r m e = absurd (cc)
  value_nest n Covariant a top r m e = absurd m
  value_nest n Contravariant a top r m e = absurd m

  given_nest : (n : ℕ) (v : Variance) (x : ℕ) (o : Option Given) → Room n v o → May v Invariant → is_given_projection o ≡ false → nest h (value_up x o) ≤ n
  given_nest n v x None r m e = omega arith
  given_nest n v x (Some g) r m e = value_nest n v g.arg g.top r.0 m e

  value_hand : (n : ℕ) (v : Variance) (a : Arg) (top : Ty) → hand_arg v a ≤ n → hand top ≤ n → May v Covariant → hand (elim a [ Exact t ↦ t | Out t ↦ t | In t ↦ top | Star ↦ top ]) ≤ n
  value_hand n Invariant (Exact t) top r q m = let p = hand_nest t in omega (arith, p, r)
  value_hand n Covariant (Exact t) top r q m = r
  value_hand n Contravariant a top r q m = absurd m
  value_hand n v (Out t) top r q m = r
  value_hand n v (In t) top r q m = q
  value_hand n v Star top r q m = q

  given_hand : (n : ℕ) (v : Variance) (x : ℕ) (o : Option Given) → Room n v o → May v Covariant → hand (value_up x o) ≤ n
  given_hand n v x None r m = omega arith
  given_hand n v x (Some g) r m = value_hand n v g.arg g.top r.0 r.1 m

  lower_nest : (n : ℕ) (v : Variance) (a : Arg) → hand_arg v a ≤ n → May v Contravariant → nest h (elim a [ Exact t ↦ t | Out t ↦ Nothing | In t ↦ t | Star ↦ Nothing ]) ≤ n
  lower_nest n Invariant (Exact t) r m = r
  lower_nest n Contravariant (Exact t) r m = r
  lower_nest n Covariant a r m = absurd m
  lower_nest n v (Out t) r m = omega arith
  lower_nest n v (In t) r m = r
  lower_nest n v Star r m = omega arith

  given_lower : (n : ℕ) (v : Variance) (x : ℕ) (o : Option Given) → Room n v o → May v Contravariant → nest h (value_down x o) ≤ n
  given_lower n v x None r m = omega arith
  given_lower n v x (Some g) r m = lower_nest n v g.arg r.0 m

  alone_arg : (n : ℕ) (v w : Variance) (a : Arg) → hand_arg v a ≤ n → May v w → hand_arg w a ≤ n
  alone_arg n Invariant Invariant a r m = r
  alone_arg n Invariant Covariant (Exact t) r m = let p = hand_nest t in omega (arith, p, r)
  alone_arg n Invariant Covariant (Out t) r m = r
  alone_arg n Invariant Covariant (In t) r m = r
  alone_arg n Invariant Covariant Star r m = r
  alone_arg n Invariant Contravariant (Exact t) r m = r
  alone_arg n Invariant Contravariant (Out t) r m = r
  alone_arg n Invariant Contravariant (In t) r m = r
  alone_arg n Invariant Contravariant Star r m = r
  alone_arg n Covariant Covariant a r m = r
  alone_arg n Covariant Invariant a r m = absurd m
  alone_arg n Covariant Contravariant a r m = absurd m
  alone_arg n Contravariant Contravariant a r m = r
  alone_arg n Contravariant Invariant a r m = absurd m
  alone_arg n Contravariant Covariant a r m = absurd m

  own_hand : (n : ℕ) (w : Variance) (x : ℕ) → hand_arg w (Exact (Param x)) ≤ n
  own_hand n Invariant x = omega arith
  own_hand n Covariant x = omega arith
  own_hand n Contravariant x = omega arith

  alone_hand : (n : ℕ) (v w : Variance) (x : ℕ) (o : Option Given) → Room n v o → May v w → hand_arg w (alone x o) ≤ n
  alone_hand n v w x None r m = own_hand n w x
  alone_hand n v w x (Some g) r m = alone_arg n v w g.arg r.0 m

module _ (h : Heads) (vary : FunctionsVary h) (variance : ℕ → Variance) (gs : List Given) (n : ℕ) (room : (x : ℕ) → Room h n (variance x) (given gs x)) where
  nest_exact : (v : Variance) (t : Ty) → Not_in v → nest h t ≤ n → nest_arg h v (Exact t) ≤ n
  nest_exact Invariant t i e = e
  nest_exact Covariant t i e = e
  nest_exact Contravariant t i e = absurd i

  nest_one : (f : Bool) (v : Variance) (t : Ty) → Not_in v → names gs t ≡ false → nest h (up h gs t) ≤ n → nest_arg h v (unless_against v (Exact t) (up_arg h gs f (Exact t) v)) ≤ n
  nest_one f v t i e r = subst (λ b. nest_arg h v b ≤ n) (sym (kept v t (up_arg h gs f (Exact t) v)))
      (subst (λ b. nest_arg h v b ≤ n) (sym (up_unnamed h gs f v t e (one_way h gs t e))) (nest_exact v (up h gs t) i r))

  out_nest : (v : Variance) (t u : Ty) → Not_in v → nest h u ≤ n → nest_arg h v (unless_against v (Out t) (Out u)) ≤ n
  out_nest Invariant t u i r = r
  out_nest Covariant t u i r = r
  out_nest Contravariant t u i r = absurd i

  star_nest : (v : Variance) → nest_arg h v (unless_against v Star Star) ≤ n
  star_nest Invariant = omega arith
  star_nest Covariant = omega arith
  star_nest Contravariant = omega arith

  -- in a position for neither side alone, where no projection is named
  mutual
    nest_up : (t : Ty) → Without_in h t → Stands h variance Invariant t → names gs t ≡ false → nest h (up h gs t) ≤ n
    nest_up (Class c xs) w s e = nests_up (h.is_function c) (h.params c) xs w s e
    nest_up (Param x) w s e = given_nest h n (variance x) x (given gs x) (room x) s e
    nest_up Nothing w s e = omega arith
    nest_up (Nullable t) w s e = subst (λ m. m ≤ n) (sym (nest_nullable h (up h gs t))) (nest_up t w s e)

    nest_up_arg : (f : Bool) (v : Variance) (a : Arg) → Not_in v → Arg_without_in h a → Arg_stands h variance Invariant v a → names_arg gs a ≡ false → nest_arg h v (unless_against v a (up_arg h gs f a v)) ≤ n
    nest_up_arg f v (Exact t) i w s e = nest_one f v t i e (nest_up t w s e)
    nest_up_arg f v (Out t) i w s e = out_nest v t (up h gs t) i (nest_up t w s e)
    nest_up_arg f v (In t) i w s e = absurd w
    nest_up_arg f v Star i w s e = star_nest v

    nests_up : (f : Bool) (ps : List HeadParam) (xs : Args) → Args_without_in h ps xs → All_stand h variance Invariant ps xs → names_args gs xs ≡ false → nests h ps (up_args h gs f ps xs) ≤ n
    nests_up f [] none w s e = omega arith
    nests_up f (p ∷ ps) (more a xs) w s e =
        let q = either_false (names_arg gs a) (names_args gs xs) e in
        at_most_both h (nest_arg h p.variance (unless_against p.variance a (up_arg h gs f a p.variance))) (nests h ps (up_args h gs f ps xs)) n (nest_up_arg f p.variance a w.0 w.1 s.0 q.0) (nests_up f ps xs w.2 s.1 q.1)
    nests_up f [] (more a xs) w s e = absurd s
    nests_up f (p ∷ ps) none w s e = absurd s

  -- in a position that gives
  hand_flat : (v : Variance) (u d : Ty) → Not_in v → ¬ (v ≡ Invariant) → hand h u ≤ n → hand_arg h v (flat v u d) ≤ n
  hand_flat Invariant u d i f r = absurd (f refl)
  hand_flat Covariant u d i f r = r
  hand_flat Contravariant u d i f r = absurd i

  hand_projected : (b : Bool) (v : Variance) (u d : Ty) → Not_in v → hand h u ≤ n → (v ≡ Invariant → b ≡ false → nest h u ≤ n) → hand_arg h v (projected b v u d) ≤ n
  hand_projected true Invariant u d i r q = r
  hand_projected true Covariant u d i r q = r
  hand_projected false Invariant u d i r q = q refl refl
  hand_projected false Covariant u d i r q = r
  hand_projected b Contravariant u d i r q = absurd i

  invariant_stands : (v : Variance) (t : Ty) → v ≡ Invariant → Stands h variance v t → Stands h variance Invariant t
  invariant_stands v t e s = subst (λ q. Stands h variance q t) e s

  hand_exact : (f : Bool) (v : Variance) (t : Ty) → Not_in v → (f ≡ true → ¬ (v ≡ Invariant)) → Without_in h t → Stands h variance v t → hand h (up h gs t) ≤ n → hand_arg h v (up_arg h gs f (Exact t) v) ≤ n
  hand_exact true v t i f w s r = hand_flat v (up h gs t) (down h gs t) i (f refl) r
  hand_exact false v (Param x) i f w s r = alone_hand h n (variance x) v x (given gs x) (room x) s
  hand_exact false v (Class c xs) i f w s r = hand_projected (names_args gs xs) v (up h gs (Class c xs)) (down h gs (Class c xs)) i r (λ q e. nest_up (Class c xs) w (invariant_stands v (Class c xs) q s) e)
  hand_exact false v Nothing i f w s r = nothing_hand v
    where
      nothing_hand : (v : Variance) → hand_arg h v (Exact Nothing) ≤ n
      nothing_hand Invariant = omega arith
      nothing_hand Covariant = omega arith
      nothing_hand Contravariant = omega arith
  hand_exact false v (Nullable t) i f w s r = hand_projected (names gs t) v (up h gs (Nullable t)) (down h gs (Nullable t)) i r (λ q e. nest_up (Nullable t) w (invariant_stands v (Nullable t) q s) e)

  hand_one : (f : Bool) (v : Variance) (t : Ty) → Not_in v → (f ≡ true → ¬ (v ≡ Invariant)) → Without_in h t → Stands h variance v t → hand h (up h gs t) ≤ n →
      hand_arg h v (unless_against v (Exact t) (up_arg h gs f (Exact t) v)) ≤ n
  hand_one f v t i q w s r = subst (λ b. hand_arg h v b ≤ n) (sym (kept v t (up_arg h gs f (Exact t) v))) (hand_exact f v t i q w s r)

  out_hand : (v : Variance) (t u : Ty) → Not_in v → hand h u ≤ n → hand_arg h v (unless_against v (Out t) (Out u)) ≤ n
  out_hand Invariant t u i r = r
  out_hand Covariant t u i r = r
  out_hand Contravariant t u i r = absurd i

  star_hand : (v : Variance) → hand_arg h v (unless_against v Star Star) ≤ n
  star_hand Invariant = omega arith
  star_hand Covariant = omega arith
  star_hand Contravariant = omega arith

  gives : (v : Variance) (t : Ty) → Not_in v → Stands h variance v t → Stands h variance Covariant t
  gives Invariant t i s = weaken h variance Covariant t s
  gives Covariant t i s = s
  gives Contravariant t i s = absurd i

  mutual
    hand_up : (t : Ty) → Without_in h t → Stands h variance Covariant t → hand h (up h gs t) ≤ n
    hand_up (Class c xs) w s = hands_up (h.is_function c) (h.params c) xs (λ e. vary c e) w s
    hand_up (Param x) w s = given_hand h n (variance x) x (given gs x) (room x) s
    hand_up Nothing w s = omega arith
    hand_up (Nullable t) w s = subst (λ m. m ≤ n) (sym (hand_nullable h (up h gs t))) (hand_up t w s)

    hand_up_arg : (f : Bool) (v : Variance) (a : Arg) → Not_in v → (f ≡ true → ¬ (v ≡ Invariant)) → Arg_without_in h a → Arg_stands h variance Covariant v a → hand_arg h v (unless_against v a (up_arg h gs f a v)) ≤ n
    hand_up_arg f v (Exact t) i q w s = hand_one f v t i q w s (hand_up t w (gives v t i s))
    hand_up_arg f v (Out t) i q w s = out_hand v t (up h gs t) i (hand_up t w s)
    hand_up_arg f v (In t) i q w s = absurd w
    hand_up_arg f v Star i q w s = star_hand v

    hands_up : (f : Bool) (ps : List HeadParam) (xs : Args) → (f ≡ true → Varies ps) → Args_without_in h ps xs → All_stand h variance Covariant ps xs → hands h ps (up_args h gs f ps xs) ≤ n
    hands_up f [] none q w s = omega arith
    hands_up f (p ∷ ps) (more a xs) q w s =
        at_most_both h (hand_arg h p.variance (unless_against p.variance a (up_arg h gs f a p.variance))) (hands h ps (up_args h gs f ps xs)) n (hand_up_arg f p.variance a w.0 (λ e. (q e).0) w.1 s.0) (hands_up f ps xs (λ e. (q e).1) w.2 s.1)
    hands_up f [] (more a xs) q w s = absurd s
    hands_up f (p ∷ ps) none q w s = absurd s

  -- ---- a supertype
  simple_up : (f : Bool) (a : Arg) → Simple a → Arg_stands h variance Covariant Contravariant a → hand_arg h Contravariant (unless_against Contravariant a (up_arg h gs f a Contravariant)) ≤ n
  simple_up true (Exact (Param x)) l s = given_lower h n (variance x) x (given gs x) (room x) s
  simple_up false (Exact (Param x)) l s = alone_hand h n (variance x) Contravariant x (given gs x) (room x) s
  simple_up true (Exact (Class c none)) l s = omega arith
  simple_up false (Exact (Class c none)) l s = omega arith
  simple_up f (Exact (Class c (more a xs))) l s = absurd l
  simple_up f (Exact Nothing) l s = absurd l
  simple_up f (Exact (Nullable t)) l s = absurd l
  simple_up f (Out t) l s = absurd l
  simple_up f (In t) l s = absurd l
  simple_up f Star l s = omega arith

  limited_up_arg : (f : Bool) (v : Variance) (a : Arg) → (f ≡ true → ¬ (v ≡ Invariant)) → Limited_arg h v a → Arg_stands h variance Covariant v a → hand_arg h v (unless_against v a (up_arg h gs f a v)) ≤ n
  limited_up_arg f Contravariant a q l s = simple_up f a l s
  limited_up_arg f Covariant a q l s = hand_up_arg f Covariant a tt q l s
  limited_up_arg f Invariant a q l s = hand_up_arg f Invariant a tt q l s

  limited_up : (f : Bool) (ps : List HeadParam) (xs : Args) → (f ≡ true → Varies ps) → Limited_args h ps xs → All_stand h variance Covariant ps xs → hands h ps (up_args h gs f ps xs) ≤ n
  limited_up f [] none q l s = omega arith
  limited_up f (p ∷ ps) (more a xs) q l s =
      at_most_both h (hand_arg h p.variance (unless_against p.variance a (up_arg h gs f a p.variance))) (hands h ps (up_args h gs f ps xs)) n (limited_up_arg f p.variance a (λ e. (q e).0) l.0 s.0) (limited_up f ps xs (λ e. (q e).1) l.1 s.1)
  limited_up f [] (more a xs) q l s = absurd s
  limited_up f (p ∷ ps) none q l s = absurd s

  pub super_hand : (d : ℕ) (xs : Args) → Limited h (Class d xs) → Stands h variance Covariant (Class d xs) → hand h (up h gs (Class d xs)) ≤ n
  super_hand d xs l s = limited_up (h.is_function d) (h.params d) xs (λ e. vary d e) l s

-- ---- from the arguments of a class type
module _ (h : Heads) (n : ℕ) where
  abbrev pub Low : (HeadParam → Ty) → List HeadParam → Type 0
  Low tops ps = (p : HeadParam) → IsIn HeadParam p ps → hand h (tops p) ≤ n

  reduced_hand : (v : Variance) (a : Arg) → hand_arg h v a ≤ n → hand_arg h v (reduced v a) ≤ n
  reduced_hand Invariant a r = r
  reduced_hand Covariant (Exact t) r = r
  reduced_hand Covariant (Out t) r = r
  reduced_hand Covariant (In t) r = omega arith
  reduced_hand Covariant Star r = r
  reduced_hand Contravariant (Exact t) r = r
  reduced_hand Contravariant (Out t) r = omega arith
  reduced_hand Contravariant (In t) r = r
  reduced_hand Contravariant Star r = r

  first_of : (a b : ℕ) → max a b ≤ n → a ≤ n
  first_of a b r = omega (arith, r)

  second_of : (a b : ℕ) → max a b ≤ n → b ≤ n
  second_of a b r = omega (arith, r)

  room_picked : (b : Bool) (v w : Variance) (g : Given) (o : Option Given) → Room h n v (Some g) → Room h n w o → Room h n (cond b v w) (cond b (Some g) o)
  room_picked true v w g o r q = r
  room_picked false v w g o r q = q

  pub rooms : (tops : HeadParam → Ty) (ps : List HeadParam) (us : Args) → Low tops ps → hands h ps us ≤ n → (x : ℕ) → Room h n (variance_in ps x) (given (given_all tops ps (reduced_args ps us)) x)
  rooms tops [] us l r x = tt
  rooms tops (p ∷ ps) none l r x = tt_in (cond (nat_eq p.var x) p.variance (variance_in ps x))
    where
      tt_in : (v : Variance) → Room h n v None
      tt_in v = tt
  rooms tops (p ∷ ps) (more a us) l r x =
      room_picked (nat_eq p.var x) p.variance (variance_in ps x) (record { var = p.var; arg = reduced p.variance a; top = tops p }) (given (given_all tops ps (reduced_args ps us)) x)
      (reduced_hand p.variance a (first_of (hand_arg h p.variance a) (hands h ps us) r), l p here) (rooms tops ps us (λ q i. l q (later i)) (second_of (hand_arg h p.variance a) (hands h ps us) r) x)

  -- a choice hands over no more
  option_hand : (v : Variance) (top : Ty) (a b : Arg) → hand h top ≤ n → hand_arg h v a ≤ n → IsIn Arg b (options v top a) → hand_arg h v b ≤ n
  option_hand Contravariant top a b t r here = r
  option_hand Contravariant top a b t r (later i) = elim i [ ]
  option_hand Covariant top a b t r here = r
  option_hand Covariant top a b t r (later here) = t
  option_hand Covariant top a b t r (later (later i)) = elim i [ ]
  option_hand Invariant top (Exact x) b t r here = r
  option_hand Invariant top (Exact x) b t r (later here) = r
  option_hand Invariant top (Exact x) b t r (later (later here)) = t
  option_hand Invariant top (Exact x) b t r (later (later (later i))) = elim i [ ]
  option_hand Invariant top (Out x) b t r here = r
  option_hand Invariant top (Out x) b t r (later here) = t
  option_hand Invariant top (Out x) b t r (later (later i)) = elim i [ ]
  option_hand Invariant top (In x) b t r here = r
  option_hand Invariant top (In x) b t r (later here) = t
  option_hand Invariant top (In x) b t r (later (later i)) = elim i [ ]
  option_hand Invariant top Star b t r here = r
  option_hand Invariant top Star b t r (later here) = t
  option_hand Invariant top Star b t r (later (later i)) = elim i [ ]

  choice_hands : (tops : HeadParam → Ty) (ps : List HeadParam) (xs us : Args) → Low tops ps → hands h ps xs ≤ n → IsIn Args us (choices tops ps xs) → hands h ps us ≤ n
  choice_hands tops [] none us l r i = subst (λ zs. hands h [] zs ≤ n) (sym (only_none us i)) r
  choice_hands tops [] (more a xs) us l r i = elim i [ ]
  choice_hands tops (p ∷ ps) none us l r i = elim i [ ]
  choice_hands tops (p ∷ ps) (more a xs) us l r i =
      let m = made (options p.variance (tops p) a) (choices tops ps xs) us i in
      subst (λ zs. hands h (p ∷ ps) zs ≤ n) (sym m.is)
      (at_most_both h (hand_arg h p.variance m.a) (hands h ps m.xs) n (option_hand p.variance (tops p) a m.a (l p here) (first_of (hand_arg h p.variance a) (hands h ps xs) r) m.first_in)
      (choice_hands tops ps xs m.xs (λ q j. l q (later j)) (second_of (hand_arg h p.variance a) (hands h ps xs) r) m.rest_in))

  pub chosen_hands : (f : Bool) (tops : HeadParam → Ty) (ps : List HeadParam) (xs us : Args) → Low tops ps → hands h ps xs ≤ n → IsIn Args us (choices_by f tops ps xs) → hands h ps us ≤ n
  chosen_hands true tops ps xs us l r here = r
  chosen_hands true tops ps xs us l r (later i) = elim i [ ]
  chosen_hands false tops ps xs us l r i = choice_hands tops ps xs us l r i
