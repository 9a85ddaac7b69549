-- The relation without a rule of transitivity is transitive.
use Rattle.std.proofs.Common.{◌≡◌, ℕ, zero, suc, ◌+◌, ◌≤◌, max, List, [], ◌∷◌, Some, refl, sym, ap, subst, ◌∙◌, arith, inl, inr}
use Rattle.kc_types.specs.Core.{Ty, Class, Hole, Nothing, Nullable, Args, none, more, Variance, Inv, Cov, Contra, Heads, put, puts, at, By, Each, Step, Alg, Below, compose, Under, Unders, first, rest}

-- ---- what holds of a relation holds of a greater one
by_map : (R S : Ty → Ty → Type 0) → ((a b : Ty) → R a b → S a b) → (v : Variance) (a b : Ty) → By R v a b → By S v a b
by_map R S f Cov a b r = f a b r
by_map R S f Contra a b r = f b a r
by_map R S f Inv a b r = (f a b r.0, f b a r.1)

each_map : (R S : Ty → Ty → Type 0) → ((a b : Ty) → R a b → S a b) → (vs : List Variance) (xs ys : Args) → Each R vs xs ys → Each S vs xs ys
each_map R S f [] none none r = tt
each_map R S f (v ∷ vs) (more a xs) (more b ys) r = (by_map R S f v a b r.0, each_map R S f vs xs ys r.1)
each_map R S f [] none (more b ys) r = absurd r
each_map R S f [] (more a xs) ys r = absurd r
each_map R S f (v ∷ vs) none ys r = absurd r
each_map R S f (v ∷ vs) (more a xs) none r = absurd r

step_map : (h : Heads) (R S : Ty → Ty → Type 0) → ((a b : Ty) → R a b → S a b) → (a b : Ty) → Step h R a b → Step h S a b
step_map h R S f Nothing b r = tt
step_map h R S f (Nullable a) (Nullable b) r = f a (Nullable b) r
step_map h R S f (Nullable a) (Class d ys) r = absurd r
step_map h R S f (Nullable a) (Hole j) r = absurd r
step_map h R S f (Nullable a) Nothing r = absurd r
step_map h R S f (Hole k) (Hole j) r = r
step_map h R S f (Hole k) (Nullable b) r = elim r [ inl x ↦ inl (f (Hole k) b x) | inr e ↦ inr e ]
step_map h R S f (Hole k) (Class d ys) r = absurd r
step_map h R S f (Hole k) Nothing r = absurd r
step_map h R S f (Class c xs) (Class d ys) r = (r.0, r.1, each_map R S f (h.vars d) (puts (at xs) r.0) ys r.2)
step_map h R S f (Class c xs) (Nullable b) r = f (Class c xs) b r
step_map h R S f (Class c xs) (Hole j) r = absurd r
step_map h R S f (Class c xs) Nothing r = absurd r

pub higher : (h : Heads) (n m : ℕ) → n ≤ m → (a b : Ty) → Alg n h a b → Alg m h a b
higher h zero m le a b d = absurd d
higher h (suc n) zero le a b d = absurd (omega arith)
higher h (suc n) (suc m) le a b d = step_map h (Alg n h) (Alg m h) (higher h n m (omega arith)) a b d

-- relations at each argument have a common height
pub by_height : (h : Heads) (v : Variance) (a b : Ty) → By (Below h) v a b → (n : ℕ) × By (Alg n h) v a b
by_height h Cov a b r = r
by_height h Contra a b r = r
by_height h Inv a b r = (max r.0.0 r.1.0, (higher h r.0.0 (max r.0.0 r.1.0) (omega arith) a b r.0.1, higher h r.1.0 (max r.0.0 r.1.0) (omega arith) b a r.1.1))

pub each_height : (h : Heads) (vs : List Variance) (xs ys : Args) → Each (Below h) vs xs ys → (n : ℕ) × Each (Alg n h) vs xs ys
each_height h [] none none r = (zero, tt)
each_height h (v ∷ vs) (more a xs) (more b ys) r =
    let p = by_height h v a b r.0 in let q = each_height h vs xs ys r.1 in (
      max p.0 q.0,
      (
        by_map (Alg p.0 h) (Alg (max p.0 q.0) h) (higher h p.0 (max p.0 q.0) (omega arith)) v a b p.1,
        each_map (Alg q.0 h) (Alg (max p.0 q.0) h) (higher h q.0 (max p.0 q.0) (omega arith)) vs xs ys q.1,
      ),
    )
each_height h [] none (more b ys) r = absurd r
each_height h [] (more a xs) ys r = absurd r
each_height h (v ∷ vs) none ys r = absurd r
each_height h (v ∷ vs) (more a xs) none r = absurd r

-- ---- substitution
put_at : (t : ℕ → Ty) (gs : Args) (k : ℕ) → put t (at gs k) ≡ at (puts t gs) k
put_at t none k = refl
put_at t (more g gs) zero = refl
put_at t (more g gs) (suc k) = put_at t gs k

mutual
  pub put_put : (t : ℕ → Ty) (gs : Args) (w : Ty) → put t (put (at gs) w) ≡ put (at (puts t gs)) w
  put_put t gs (Class c ws) = ap (λ us. Class c us) (puts_puts t gs ws)
  put_put t gs (Hole k) = put_at t gs k
  put_put t gs Nothing = refl
  put_put t gs (Nullable w) = ap (λ u. Nullable u) (put_put t gs w)

  pub puts_puts : (t : ℕ → Ty) (gs ws : Args) → puts t (puts (at gs) ws) ≡ puts (at (puts t gs)) ws
  puts_puts t gs none = refl
  puts_puts t gs (more w ws) = cc (put_put t gs w, puts_puts t gs ws)

-- ---- polarity
by_weaken : (R : Ty → Ty → Type 0) (v : Variance) (a b : Ty) → By R Inv a b → By R v a b
by_weaken R Cov a b r = r.0
by_weaken R Contra a b r = r.1
by_weaken R Inv a b r = r

abbrev turn : Variance → Variance
turn Cov = Contra
turn Contra = Cov
turn Inv = Inv

by_turn : (R : Ty → Ty → Type 0) (v : Variance) (a b : Ty) → By R v a b → By R (turn v) b a
by_turn R Cov a b r = r
by_turn R Contra a b r = r
by_turn R Inv a b r = (r.1, r.0)

compose_turn : (p v : Variance) → compose (turn p) v ≡ turn (compose p v)
compose_turn Cov Cov = refl
compose_turn Cov Contra = refl
compose_turn Cov Inv = refl
compose_turn Contra Cov = refl
compose_turn Contra Contra = refl
compose_turn Contra Inv = refl
compose_turn Inv v = refl

module _ (h : Heads) (R : Ty → Ty → Type 0) where
  mutual
    under_turn : (s t : ℕ → Ty) (p : Variance) (g : Ty) → Under h R s t p g → Under h R t s (turn p) g
    under_turn s t p (Class c gs) u = unders_turn s t p (h.vars c) gs u
    under_turn s t p (Hole k) u = by_turn R p (s k) (t k) u
    under_turn s t p Nothing u = tt
    under_turn s t p (Nullable g) u = under_turn s t p g u

    unders_turn : (s t : ℕ → Ty) (p : Variance) (vs : List Variance) (gs : Args) → Unders h R s t p vs gs → Unders h R t s (turn p) vs gs
    unders_turn s t p vs none u = tt
    unders_turn s t p vs (more g gs) u = (subst (λ q. Under h R t s q g) (sym (compose_turn p (first vs))) (under_turn s t (compose p (first vs)) g u.0), unders_turn s t p (rest vs) gs u.1)

  mutual
    pub under_weaken : (s t : ℕ → Ty) (p : Variance) (g : Ty) → Under h R s t Inv g → Under h R s t p g
    under_weaken s t p (Class c gs) u = unders_weaken s t p (h.vars c) gs u
    under_weaken s t p (Hole k) u = by_weaken R p (s k) (t k) u
    under_weaken s t p Nothing u = tt
    under_weaken s t p (Nullable g) u = under_weaken s t p g u

    pub unders_weaken : (s t : ℕ → Ty) (p : Variance) (vs : List Variance) (gs : Args) → Unders h R s t Inv vs gs → Unders h R s t p vs gs
    unders_weaken s t p vs none u = tt
    unders_weaken s t p vs (more g gs) u = (under_weaken s t (compose p (first vs)) g u.0, unders_weaken s t p (rest vs) gs u.1)

-- ---- replacing what stands at the places of one side, where those can be cut
pub record Lawful (h : Heads) : Type 0 where
  -- a supertype's supertype is one
  pub joins : (c d e : ℕ) (zs ws : Args) → h.above c d ≡ Some zs → h.above d e ≡ Some ws → h.above c e ≡ Some (puts (at zs) ws)
  -- supertypes keep to declared variance
  pub keeps : (n : ℕ) (s t : ℕ → Ty) (p : Variance) (c e : ℕ) (ws gs : Args) → h.above c e ≡ Some ws → Unders h (Alg n h) s t p (h.vars c) gs → Unders h (Alg n h) s t p (h.vars e) (puts (at gs) ws)
  -- nothing is above the class of all objects, which has no parameters
  pub alone : (e : ℕ) (zs : Args) → h.above h.any e ≡ Some zs → (e ≡ h.any) × (zs ≡ none)
  pub plain : h.vars h.any ≡ []
  pub fits : (n : ℕ) (d e : ℕ) (ws us bs : Args) → h.above d e ≡ Some ws → Each (Alg n h) (h.vars d) us bs → Unders h (Alg n h) (at us) (at bs) Cov (h.vars e) ws

pub deeper : {h : Heads} {a b : Ty} → Below h a b → (n : ℕ) × Alg n h a b
deeper d = d

-- what is above `Any?` is above a place
module _ (h : Heads) (law : Lawful h) where
  abbrev Any : Ty
  Any = Class h.any none

  no_more : (R : Ty → Ty → Type 0) (cs : Args) → Each R [] none cs → cs ≡ none
  no_more R none r = refl
  no_more R (more c cs) r = absurd r

  above_any : (m : ℕ) (c : Ty) → Alg m h Any c → (k : ℕ) → Below h (Hole k) (Nullable c)
  above_any zero c d k = absurd d
  above_any (suc m) (Class e cs) d k =
      let a = law.alone e d.0 d.1 in
      let vars : h.vars e ≡ [] = ap h.vars a.0 ∙ law.plain in
      let each : Each (Alg m h) (h.vars e) none cs = subst (λ us. Each (Alg m h) (h.vars e) us cs) (ap (puts (at none)) a.1) d.2 in
      let rest : cs ≡ none = no_more (Alg m h) cs (subst (λ vs. Each (Alg m h) vs none cs) vars each) in
      (suc zero, inr (cc (a.0, rest)))
  above_any (suc m) (Nullable b) d k = let r = deeper (above_any m b d k) in (suc r.0, inl r.1)
  above_any (suc m) (Hole j) d k = absurd d
  above_any (suc m) Nothing d k = absurd d

  above_top : (m : ℕ) (c : Ty) → Alg m h (Nullable Any) (Nullable c) → (k : ℕ) → Below h (Hole k) (Nullable c)
  above_top zero c d k = absurd d
  above_top (suc zero) c d k = absurd d
  above_top (suc (suc m)) c d k = above_any m c d k

  none_of : (s : ℕ → Ty) (gs : Args) → puts s gs ≡ none → gs ≡ none
  none_of s none e = refl
  none_of s (more g gs) e = absurd cc

  any_under : (n : ℕ) (s t : ℕ → Ty) (g : Ty) → Under h (Alg n h) s t Cov g → put s g ≡ Any → (j : ℕ) → Below h (Hole j) (Nullable (put t g))
  any_under n s t (Class c gs) u e j =
      let f : c ≡ h.any = cc in
      let g : puts s gs ≡ none = cc in
      let k : gs ≡ none = none_of s gs g in
      (suc zero, inr (cc (f, ap (puts t) k)))
  any_under n s t (Hole k) u e j = above_any n (t k) (subst (λ x. Alg n h x (t k)) e u) j
  any_under n s t Nothing u e j = absurd cc
  any_under n s t (Nullable g) u e j = absurd cc

module _ (h : Heads) (law : Lawful h) (n : ℕ) where
  abbrev Leaves : ℕ → Type 0
  Leaves m = (k : ℕ) → k ≤ m → (a b c : Ty) → (Alg n h a b → Alg k h b c → Below h a c) × (Alg k h a b → Alg n h b c → Below h a c)

  abbrev Ups : ℕ → Type 0
  Ups m = (s t : ℕ → Ty) (g c : Ty) → Under h (Alg n h) s t Cov g → Alg m h (put t g) c → Below h (put s g) c

  abbrev Downs : ℕ → Type 0
  Downs m = (s t : ℕ → Ty) (g c : Ty) → Under h (Alg n h) s t Cov g → Alg m h c (put s g) → Below h c (put t g)

  module _ (m : ℕ) (ups : Ups m) (downs : Downs m) where
    by_up : (s t : ℕ → Ty) (v : Variance) (w c : Ty) → Under h (Alg n h) s t v w → By (Alg m h) v (put t w) c → By (Below h) v (put s w) c
    by_up s t Cov w c u f = ups s t w c u f
    by_up s t Contra w c u f = downs t s w c (under_turn h (Alg n h) s t Contra w u) f
    by_up s t Inv w c u f = (ups s t w c (under_weaken h (Alg n h) s t Cov w u) f.0, downs t s w c (under_turn h (Alg n h) s t Contra w (under_weaken h (Alg n h) s t Contra w u)) f.1)

    each_up : (s t : ℕ → Ty) (vs : List Variance) (ws cs : Args) → Unders h (Alg n h) s t Cov vs ws → Each (Alg m h) vs (puts t ws) cs → Each (Below h) vs (puts s ws) cs
    each_up s t [] none none u f = tt
    each_up s t (v ∷ vs) (more w ws) (more c cs) u f = (by_up s t v w c u.0 f.0, each_up s t vs ws cs u.1 f.1)
    each_up s t [] none (more c cs) u f = absurd f
    each_up s t [] (more w ws) cs u f = absurd f
    each_up s t (v ∷ vs) none cs u f = absurd f
    each_up s t (v ∷ vs) (more w ws) none u f = absurd f

    by_down : (s t : ℕ → Ty) (v : Variance) (w c : Ty) → Under h (Alg n h) s t v w → By (Alg m h) v c (put s w) → By (Below h) v c (put t w)
    by_down s t Cov w c u f = downs s t w c u f
    by_down s t Contra w c u f = ups t s w c (under_turn h (Alg n h) s t Contra w u) f
    by_down s t Inv w c u f = (downs s t w c (under_weaken h (Alg n h) s t Cov w u) f.0, ups t s w c (under_turn h (Alg n h) s t Contra w (under_weaken h (Alg n h) s t Contra w u)) f.1)

    each_down : (s t : ℕ → Ty) (vs : List Variance) (cs ws : Args) → Unders h (Alg n h) s t Cov vs ws → Each (Alg m h) vs cs (puts s ws) → Each (Below h) vs cs (puts t ws)
    each_down s t [] none none u f = tt
    each_down s t (v ∷ vs) (more c cs) (more w ws) u f = (by_down s t v w c u.0 f.0, each_down s t vs cs ws u.1 f.1)
    each_down s t [] (more c cs) ws u f = absurd f
    each_down s t [] none (more w ws) u f = absurd f
    each_down s t (v ∷ vs) none ws u f = absurd f
    each_down s t (v ∷ vs) (more c cs) none u f = absurd f

    up_next : Leaves (suc m) → Ups (suc m)
    up_next cut s t (Hole k) c u d = (cut (suc m) (omega arith) (s k) (t k) c).0 u d
    up_next cut s t Nothing c u d = (suc zero, tt)
    up_next cut s t (Nullable g) (Nullable c) u d = let r = deeper (ups s t g (Nullable c) u d) in (suc r.0, r.1)
    up_next cut s t (Nullable g) (Class e cs) u d = absurd d
    up_next cut s t (Nullable g) (Hole j) u d = absurd d
    up_next cut s t (Nullable g) Nothing u d = absurd d
    up_next cut s t (Class g gs) (Class e cs) u d =
        let f = each_up s t (h.vars e) (puts (at gs) d.0) cs (law.keeps n s t Cov g e d.0 gs d.1 u)
        (subst (λ us. Each (Alg m h) (h.vars e) us cs) (sym (puts_puts t gs d.0)) d.2) in
        let r = each_height h (h.vars e) (puts (at (puts s gs)) d.0) cs (subst (λ us. Each (Below h) (h.vars e) us cs) (puts_puts s gs d.0) f) in
        (suc r.0, (d.0, d.1, r.1))
    up_next cut s t (Class g gs) (Nullable c) u d = let r = deeper (ups s t (Class g gs) c u d) in (suc r.0, r.1)
    up_next cut s t (Class g gs) (Hole j) u d = absurd d
    up_next cut s t (Class g gs) Nothing u d = absurd d

    down_next : Leaves (suc m) → Downs (suc m)
    down_next cut s t (Hole k) c u d = (cut (suc m) (omega arith) c (s k) (t k)).1 d u
    down_next cut s t (Nullable g) Nothing u d = (suc zero, tt)
    down_next cut s t (Nullable g) (Nullable c) u d = let r = deeper (downs s t (Nullable g) c u d) in (suc r.0, r.1)
    down_next cut s t (Nullable g) (Hole j) u d = elim d [
      | inl x ↦ let r = deeper (downs s t g (Hole j) u x) in (suc r.0, inl r.1)
      | inr e ↦ any_under h law n s t g u e j
    ]
    down_next cut s t (Nullable g) (Class c cs) u d = let r = deeper (downs s t g (Class c cs) u d) in (suc r.0, r.1)
    down_next cut s t Nothing Nothing u d = (suc zero, tt)
    down_next cut s t Nothing (Nullable c) u d = absurd d
    down_next cut s t Nothing (Hole j) u d = absurd d
    down_next cut s t Nothing (Class c cs) u d = absurd d
    down_next cut s t (Class g gs) Nothing u d = (suc zero, tt)
    down_next cut s t (Class g gs) (Nullable c) u d = absurd d
    down_next cut s t (Class g gs) (Hole j) u d = absurd d
    down_next cut s t (Class g gs) (Class c cs) u d =
        let r = each_height h (h.vars g) (puts (at cs) d.0) (puts t gs) (each_down s t (h.vars g) (puts (at cs) d.0) gs u d.2) in
        (suc r.0, (d.0, d.1, r.1))

  both : (m : ℕ) → Leaves m → Ups m × Downs m
  both zero cut = (λ s t g c u d. absurd d, λ s t g c u d. absurd d)
  both (suc m) cut = let b = both m (λ k le. cut k (omega arith)) in (up_next m b.0 b.1 cut, down_next m b.0 b.1 cut)

-- ---- the cut
module _ (h : Heads) (law : Lawful h) where
  abbrev Cuts : ℕ → Type 0
  Cuts top = (n m : ℕ) → n + m ≤ top → (a b c : Ty) → Alg n h a b → Alg m h b c → Below h a c

  cut_next : (top : ℕ) → Cuts top → (n m : ℕ) → suc n + suc m ≤ suc top → (a b c : Ty) → Alg (suc n) h a b → Alg (suc m) h b c → Below h a c
  cut_next top cut n m le Nothing b c d e = (suc zero, tt)
  cut_next top cut n m le (Nullable a) (Nullable b) (Nullable c) d e = let r = deeper (cut n (suc m) (omega arith) a (Nullable b) (Nullable c) d e) in (suc r.0, r.1)
  cut_next top cut n m le (Nullable a) (Nullable b) (Class k xs) d e = absurd e
  cut_next top cut n m le (Nullable a) (Nullable b) (Hole j) d e = absurd e
  cut_next top cut n m le (Nullable a) (Nullable b) Nothing d e = absurd e
  cut_next top cut n m le (Nullable a) (Class k xs) c d e = absurd d
  cut_next top cut n m le (Nullable a) (Hole j) c d e = absurd d
  cut_next top cut n m le (Nullable a) Nothing c d e = absurd d
  cut_next top cut n m le (Hole k) (Hole j) c d e = (suc m, subst (λ i. Alg (suc m) h (Hole i) c) (sym d) e)
  cut_next top cut n m le (Hole k) (Nullable b) (Nullable c) d e = elim d [
    | inl x ↦ cut n m (omega arith) (Hole k) b (Nullable c) x e
    | inr f ↦ above_top h law (suc m) c (subst (λ x. Alg (suc m) h (Nullable x) (Nullable c)) f e) k
  ]
  cut_next top cut n m le (Hole k) (Nullable b) (Class i xs) d e = absurd e
  cut_next top cut n m le (Hole k) (Nullable b) (Hole j) d e = absurd e
  cut_next top cut n m le (Hole k) (Nullable b) Nothing d e = absurd e
  cut_next top cut n m le (Hole k) (Class i xs) c d e = absurd d
  cut_next top cut n m le (Hole k) Nothing c d e = absurd d
  cut_next top cut n m le (Class k xs) (Nullable b) (Nullable c) d e = cut n m (omega arith) (Class k xs) b (Nullable c) d e
  cut_next top cut n m le (Class k xs) (Nullable b) (Class i ys) d e = absurd e
  cut_next top cut n m le (Class k xs) (Nullable b) (Hole j) d e = absurd e
  cut_next top cut n m le (Class k xs) (Nullable b) Nothing d e = absurd e
  cut_next top cut n m le (Class k xs) (Hole j) c d e = absurd d
  cut_next top cut n m le (Class k xs) Nothing c d e = absurd d
  cut_next top cut n m le (Class k xs) (Class i ys) (Nullable c) d e = let r = deeper (cut (suc n) m (omega arith) (Class k xs) (Class i ys) c d e) in (suc r.0, r.1)
  cut_next top cut n m le (Class k xs) (Class i ys) (Hole j) d e = absurd e
  cut_next top cut n m le (Class k xs) (Class i ys) Nothing d e = absurd e
  cut_next top cut n m le (Class k xs) (Class i ys) (Class j zs) d e =
      let b = both h law n m (λ q ql x y z. (cut n q (omega arith) x y z, cut q n (omega arith) x y z)) in
      let f = each_up h law n m b.0 b.1 (at (puts (at xs) d.0)) (at ys) (h.vars j) e.0 zs (law.fits n i j e.0 (puts (at xs) d.0) ys e.1 d.2) e.2 in
      let r = each_height h (h.vars j) (puts (at xs) (puts (at d.0) e.0)) zs (subst (λ us. Each (Below h) (h.vars j) us zs) (sym (puts_puts (at xs) d.0 e.0)) f) in
      (suc r.0, (puts (at d.0) e.0, law.joins k i j d.0 e.0 d.1 e.1, r.1))

  cuts : (top : ℕ) → Cuts top
  cuts top zero m le a b c d e = absurd d
  cuts top (suc n) zero le a b c d e = absurd e
  cuts zero (suc n) (suc m) le a b c d e = absurd (omega arith)
  cuts (suc top) (suc n) (suc m) le a b c d e = cut_next top (cuts top) n m le a b c d e

  pub transitive : (a b c : Ty) → Below h a b → Below h b c → Below h a c
  transitive a b c d e = cuts (d.0 + e.0) d.0 e.0 (omega arith) a b c d.1 e.1
