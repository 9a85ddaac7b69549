-- What supertypes keep, in valid heads.
use Rattle.std.proofs.Common.{◌≡◌, ℕ, zero, suc, List, [], ◌∷◌, Some, refl, sym, ap, subst, ◌∙◌}
use Rattle.kc_types.specs.Supertypes.{IsIn}
use Rattle.kc_types.specs.Core.{Ty, Class, Hole, Nothing, Nullable, Args, none, more, Variance, Inv, Cov, Contra, Super, Heads, put, puts, at, Each, Alg, compose, Under, Unders, first, rest, next_place, own_args, Supertype, variance_at, May, Stand, Stand_all, Kinded, All_kinded, Valid}
use Rattle.kc_types.specs.Core.Supertype.{own, next}
use Rattle.kc_types.proofs.CoreCut.{puts_puts, under_weaken, Lawful}
use Rattle.kc_types.proofs.CoreLaws.{Selfish}

compose_both : (p q v : Variance) → compose (compose p q) v ≡ compose p (compose q v)
compose_both Cov q v = refl
compose_both Inv q v = refl
compose_both Contra Inv v = refl
compose_both Contra Cov v = refl
compose_both Contra Contra Inv = refl
compose_both Contra Contra Cov = refl
compose_both Contra Contra Contra = refl

compose_cov : (p : Variance) → compose p Cov ≡ p
compose_cov Cov = refl
compose_cov Inv = refl
compose_cov Contra = refl

compose_inv : (p : Variance) → compose p Inv ≡ Inv
compose_inv Cov = refl
compose_inv Inv = refl
compose_inv Contra = refl

mutual
  put_shift : (s : ℕ → Ty) (w : Ty) → put s (put next_place w) ≡ put (λ k. s (suc k)) w
  put_shift s (Class c xs) = ap (λ us. Class c us) (puts_shift s xs)
  put_shift s (Hole k) = refl
  put_shift s Nothing = refl
  put_shift s (Nullable w) = ap (λ u. Nullable u) (put_shift s w)

  puts_shift : (s : ℕ → Ty) (ws : Args) → puts s (puts next_place ws) ≡ puts (λ k. s (suc k)) ws
  puts_shift s none = refl
  puts_shift s (more w ws) = cc (put_shift s w, puts_shift s ws)

module _ (h : Heads) (R : Ty → Ty → Type 0) where
  mutual
    under_shift : (s t : ℕ → Ty) (p : Variance) (g : Ty) → Under h R (λ k. s (suc k)) (λ k. t (suc k)) p g → Under h R s t p (put next_place g)
    under_shift s t p (Class c gs) u = unders_shift s t p (h.vars c) gs u
    under_shift s t p (Hole k) u = u
    under_shift s t p Nothing u = tt
    under_shift s t p (Nullable g) u = under_shift s t p g u

    unders_shift : (s t : ℕ → Ty) (p : Variance) (vs : List Variance) (gs : Args) → Unders h R (λ k. s (suc k)) (λ k. t (suc k)) p vs gs → Unders h R s t p vs (puts next_place gs)
    unders_shift s t p vs none u = tt
    unders_shift s t p vs (more g gs) u = (under_shift s t (compose p (first vs)) g u.0, unders_shift s t p (rest vs) gs u.1)

  -- arguments that are related as the parameters say
  each_own : (vs : List Variance) (us bs : Args) → Each R vs us bs → Unders h R (at us) (at bs) Cov vs (own_args vs)
  each_own [] us bs r = tt
  each_own (v ∷ vs) (more a us) (more b bs) r = (r.0, unders_shift (at (more a us)) (at (more b bs)) Cov vs (own_args vs) (each_own vs us bs r.1))
  each_own (v ∷ vs) none ys r = absurd r
  each_own (v ∷ vs) (more a us) none r = absurd r

  module _ (s t : ℕ → Ty) (p : Variance) where
    own_keeps : (vs : List Variance) (gs : Args) → Unders h R s t p vs gs → Unders h R s t p vs (puts (at gs) (own_args vs))
    own_keeps [] gs u = tt
    own_keeps (v ∷ vs) none u = (tt, subst (λ ws. Unders h R s t p vs ws) (sym (puts_shift (at none) (own_args vs))) (own_keeps vs none tt))
    own_keeps (v ∷ vs) (more g gs) u = (u.0, subst (λ ws. Unders h R s t p vs ws) (sym (puts_shift (at (more g gs)) (own_args vs))) (own_keeps vs gs u.1))

    allowed : (v q : Variance) (g : Ty) → Under h R s t (compose p v) g → May (Some v) q → Under h R s t (compose p q) g
    allowed Inv q g u m = under_weaken h R s t (compose p q) g (subst (λ z. Under h R s t z g) (compose_inv p) u)
    allowed Cov Cov g u m = u
    allowed Cov Contra g u m = absurd m
    allowed Cov Inv g u m = absurd m
    allowed Contra Contra g u m = u
    allowed Contra Cov g u m = absurd m
    allowed Contra Inv g u m = absurd m

    place : (vs : List Variance) (gs : Args) (k : ℕ) (q : Variance) → Unders h R s t p vs gs → May (variance_at vs k) q → Under h R s t (compose p q) (at gs k)
    place [] gs k q u m = absurd m
    place (v ∷ vs) none k q u m = tt
    place (v ∷ vs) (more g gs) zero q u m = allowed v q g u.0 m
    place (v ∷ vs) (more g gs) (suc k) q u m = place vs gs k q u.1 m

    -- what stands where variance lets it keeps what its arguments keep
    mutual
      stand_keeps : (vs : List Variance) (gs : Args) → Unders h R s t p vs gs → (q : Variance) (w : Ty) → Stand h vs q w → Under h R s t (compose p q) (put (at gs) w)
      stand_keeps vs gs u q (Class c xs) m = stands_keep vs gs u q (h.vars c) xs m
      stand_keeps vs gs u q (Hole k) m = place vs gs k q u m
      stand_keeps vs gs u q Nothing m = tt
      stand_keeps vs gs u q (Nullable w) m = stand_keeps vs gs u q w m

      stands_keep : (vs : List Variance) (gs : Args) → Unders h R s t p vs gs → (q : Variance) (cs : List Variance) (xs : Args) → Stand_all h vs q cs xs → Unders h R s t (compose p q) cs (puts (at gs) xs)
      stands_keep vs gs u q cs none m = tt
      stands_keep vs gs u q cs (more x xs) m =
          (subst (λ z. Under h R s t z (put (at gs) x)) (sym (compose_both p q (first cs))) (stand_keeps vs gs u (compose q (first cs)) x m.0), stands_keep vs gs u q (rest cs) xs m.1)

    module _ (valid : Valid h) where
      direct_keeps : (d : ℕ) (x : Super) → IsIn Super x (h.supers d) → (gs : Args) → Unders h R s t p (h.vars d) gs → Unders h R s t p (h.vars x.class) (puts (at gs) x.args)
      direct_keeps d x i gs u = subst (λ z. Unders h R s t z (h.vars x.class) (puts (at gs) x.args)) (compose_cov p) (stands_keep (h.vars d) gs u Cov (h.vars x.class) x.args (valid.stand d x i))

      supers_keep : {c e : ℕ} {ws : Args} → Supertype h c e ws → (gs : Args) → Unders h R s t p (h.vars c) gs → Unders h R s t p (h.vars e) (puts (at gs) ws)
      supers_keep {c = c} own gs u = own_keeps (h.vars c) gs u
      supers_keep (next {d = d} {zs = zs} {s = x} st i) gs u =
          subst (λ ws. Unders h R s t p (h.vars x.class) ws) (sym (puts_puts (at gs) zs x.args)) (direct_keeps d x i (puts (at gs) zs) (supers_keep st gs u))

      supers_fit : {d e : ℕ} {ws : Args} → Supertype h d e ws → Unders h R s t p (h.vars d) (own_args (h.vars d)) → Unders h R s t p (h.vars e) ws
      supers_fit own u = u
      supers_fit (next {d = d} {zs = zs} {s = x} st i) u = direct_keeps d x i zs (supers_fit st u)

nowhere : {A : Type 0} (x : Super) → IsIn Super x [] → A
nowhere x i = elim i [ ]

-- ---- as many arguments as parameters
module _ (h : Heads) where
  at_kinded : (vs : List Variance) (xs : Args) (k : ℕ) → All_kinded h vs xs → Kinded h (at xs k)
  at_kinded [] none k a = tt
  at_kinded [] (more x xs) k a = absurd a
  at_kinded (v ∷ vs) none k a = absurd a
  at_kinded (v ∷ vs) (more x xs) zero a = a.0
  at_kinded (v ∷ vs) (more x xs) (suc k) a = at_kinded vs xs k a.1

  mutual
    pub put_kinded : (s : ℕ → Ty) → ((k : ℕ) → Kinded h (s k)) → (w : Ty) → Kinded h w → Kinded h (put s w)
    put_kinded s f (Class c xs) a = puts_kinded s f (h.vars c) xs a
    put_kinded s f (Hole k) a = f k
    put_kinded s f Nothing a = tt
    put_kinded s f (Nullable w) a = put_kinded s f w a

    puts_kinded : (s : ℕ → Ty) → ((k : ℕ) → Kinded h (s k)) → (vs : List Variance) (ws : Args) → All_kinded h vs ws → All_kinded h vs (puts s ws)
    puts_kinded s f [] none a = tt
    puts_kinded s f [] (more w ws) a = absurd a
    puts_kinded s f (v ∷ vs) none a = absurd a
    puts_kinded s f (v ∷ vs) (more w ws) a = (put_kinded s f w a.0, puts_kinded s f vs ws a.1)

  own_kinded : (vs : List Variance) → All_kinded h vs (own_args vs)
  own_kinded [] = tt
  own_kinded (v ∷ vs) = (tt, puts_kinded next_place (λ k. tt) vs (own_args vs) (own_kinded vs))

  stays : (vs : List Variance) (xs : Args) → All_kinded h vs xs → puts (at xs) (own_args vs) ≡ xs
  stays [] none a = refl
  stays [] (more x xs) a = absurd a
  stays (v ∷ vs) none a = absurd a
  stays (v ∷ vs) (more x xs) a = ap (λ us. more x us) (puts_shift (at (more x xs)) (own_args vs) ∙ stays vs xs a.1)

  module _ (valid : Valid h) where
    pub super_kinded : {c e : ℕ} {ws : Args} → Supertype h c e ws → All_kinded h (h.vars e) ws
    super_kinded {c = c} own = own_kinded (h.vars c)
    super_kinded (next {d = d} {zs = zs} {s = x} st i) = puts_kinded (at zs) (λ k. at_kinded (h.vars d) zs k (super_kinded st)) (h.vars x.class) x.args (valid.kinded d x i)

    pub instance_kinded : (c d : ℕ) (xs zs : Args) → h.above c d ≡ Some zs → All_kinded h (h.vars c) xs → All_kinded h (h.vars d) (puts (at xs) zs)
    instance_kinded c d xs zs e a = puts_kinded (at xs) (λ k. at_kinded (h.vars c) xs k a) (h.vars d) zs (super_kinded (valid.found c d zs e))

    super_joins : {c d e : ℕ} {zs ws : Args} → Supertype h c d zs → Supertype h d e ws → Supertype h c e (puts (at zs) ws)
    super_joins {c = c} {d = d} {zs = zs} st own = subst (λ us. Supertype h c d us) (sym (stays (h.vars d) zs (super_kinded st))) st
    super_joins {c = c} {zs = zs} st (next {d = d} {zs = us} {s = x} sd i) =
        subst (λ ws. Supertype h c x.class ws) (sym (puts_puts (at zs) us x.args)) (next (super_joins st sd) i)

    -- nothing is above the class of all objects
    only_itself : {e : ℕ} {zs : Args} → Supertype h h.any e zs → (e ≡ h.any) × (zs ≡ none)
    only_itself own = (refl, ap own_args valid.plain)
    only_itself (next {d = d} {zs = zs} {s = x} st i) =
        let same = (only_itself st).0 in
        nowhere x (subst (λ ss. IsIn Super x ss) (ap h.supers same ∙ valid.alone) i)

    pub lawful : Lawful h
    lawful = record {
      joins = λ c d e zs ws f g. valid.one c e (puts (at zs) ws) (super_joins (valid.found c d zs f) (valid.found d e ws g));
      alone = λ e zs f. only_itself (valid.found h.any e zs f);
      plain = valid.plain;
      keeps = λ n s t p c e ws gs f u. supers_keep h (Alg n h) s t p valid (valid.found c e ws f) gs u;
      fits = λ n d e ws us bs f r. supers_fit h (Alg n h) (at us) (at bs) Cov valid (valid.found d e ws f) (each_own h (Alg n h) (h.vars d) us bs r);
    }

    pub selfish : Selfish h
    selfish = record {
      own = λ c. own_args (h.vars c);
      is = λ c. valid.one c c (own_args (h.vars c)) own;
      stays = λ c xs a. stays (h.vars c) xs a;
    }
