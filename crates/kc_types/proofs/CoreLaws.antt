-- Reflexivity, instances, and substitution.
use Rattle.std.proofs.Common.{◌≡◌, ℕ, zero, suc, List, [], ◌∷◌, Some, refl, sym, subst, inl, inr}
use Rattle.kc_types.specs.Core.{Ty, Class, Hole, Nothing, Nullable, Args, none, more, Variance, Inv, Cov, Contra, Heads, put, puts, at, By, Each, Alg, Below}
use Rattle.kc_types.specs.Core.{Kinded, All_kinded}
use Rattle.kc_types.proofs.CoreCut.{each_height, deeper, puts_puts}

by_self : (h : Heads) (v : Variance) (a : Ty) → Below h a a → By (Below h) v a a
by_self h Cov a r = r
by_self h Contra a r = r
by_self h Inv a r = (r, r)

null_of : (h : Heads) (n : ℕ) (a b : Ty) → Alg n h a b → Below h a (Nullable b)
null_of h zero a b r = absurd r
null_of h (suc n) Nothing b r = (suc zero, tt)
null_of h (suc n) (Class c xs) b r = (suc (suc n), r)
null_of h (suc n) (Hole k) b r = (suc (suc n), inl r)
null_of h (suc n) (Nullable a) (Nullable b) r = let q = deeper (null_of h n a (Nullable b) r) in (suc q.0, q.1)
null_of h (suc n) (Nullable a) (Class c xs) r = absurd r
null_of h (suc n) (Nullable a) (Hole k) r = absurd r
null_of h (suc n) (Nullable a) Nothing r = absurd r

pub to_null : (h : Heads) (a b : Ty) → Below h a b → Below h a (Nullable b)
to_null h a b r = null_of h r.0 a b r.1

-- a class is its own superclass, with its own arguments
pub record Selfish (h : Heads) : Type 0 where
  pub own : ℕ → Args
  pub is : (c : ℕ) → h.above c c ≡ Some (own c)
  pub stays : (c : ℕ) (xs : Args) → All_kinded h (h.vars c) xs → puts (at xs) (own c) ≡ xs

module _ (h : Heads) (self : Selfish h) where
  mutual
    pub reflexive : (a : Ty) → Kinded h a → Below h a a
    reflexive (Class c xs) k =
        let r = each_height h (h.vars c) xs xs (each_reflexive (h.vars c) xs k) in
        (suc r.0, (self.own c, self.is c, subst (λ us. Each (Alg r.0 h) (h.vars c) us xs) (sym (self.stays c xs k)) r.1))
    reflexive (Hole j) k = (suc zero, refl)
    reflexive Nothing k = (suc zero, tt)
    reflexive (Nullable a) k = let r = deeper (to_null h a a (reflexive a k)) in (suc r.0, r.1)

    each_reflexive : (vs : List Variance) (xs : Args) → All_kinded h vs xs → Each (Below h) vs xs xs
    each_reflexive [] none k = tt
    each_reflexive (v ∷ vs) (more a xs) k = (by_self h v a (reflexive a k.0), each_reflexive vs xs k.1)
    each_reflexive [] (more a xs) k = absurd k
    each_reflexive (v ∷ vs) none k = absurd k

  -- a class type is below its instance at a superclass
  pub instance_above : (c d : ℕ) (xs zs : Args) → h.above c d ≡ Some zs → All_kinded h (h.vars d) (puts (at xs) zs) → Below h (Class c xs) (Class d (puts (at xs) zs))
  instance_above c d xs zs e k = let r = each_height h (h.vars d) (puts (at xs) zs) (puts (at xs) zs) (each_reflexive (h.vars d) (puts (at xs) zs) k) in (suc r.0, (zs, e, r.1))

-- everything is below `Any?`
module _ (h : Heads) (top : (c : ℕ) → h.above c h.any ≡ Some none) (plain : h.vars h.any ≡ []) where
  pub below_any : (a : Ty) → Below h a (Nullable (Class h.any none))
  below_any Nothing = (suc zero, tt)
  below_any (Hole k) = (suc zero, inr refl)
  below_any (Class c xs) = (suc (suc zero), (none, top c, subst (λ vs. Each (Alg zero h) vs none none) (sym plain) tt))
  below_any (Nullable a) = let r = deeper (below_any a) in (suc r.0, r.1)

-- the relation is closed under substitution for places
module _ (h : Heads) (s : ℕ → Ty) (same : (k : ℕ) → Below h (s k) (s k)) (tops : (k : ℕ) → Below h (s k) (Nullable (Class h.any none))) where
  by_put : (n : ℕ) → ((a b : Ty) → Alg n h a b → Below h (put s a) (put s b)) → (v : Variance) (a b : Ty) → By (Alg n h) v a b → By (Below h) v (put s a) (put s b)
  by_put n f Cov a b r = f a b r
  by_put n f Contra a b r = f b a r
  by_put n f Inv a b r = (f a b r.0, f b a r.1)

  each_put : (n : ℕ) → ((a b : Ty) → Alg n h a b → Below h (put s a) (put s b)) → (vs : List Variance) (xs ys : Args) → Each (Alg n h) vs xs ys → Each (Below h) vs (puts s xs) (puts s ys)
  each_put n f [] none none r = tt
  each_put n f (v ∷ vs) (more a xs) (more b ys) r = (by_put n f v a b r.0, each_put n f vs xs ys r.1)
  each_put n f [] none (more b ys) r = absurd r
  each_put n f [] (more a xs) ys r = absurd r
  each_put n f (v ∷ vs) none ys r = absurd r
  each_put n f (v ∷ vs) (more a xs) none r = absurd r

  step_put : (n : ℕ) → ((a b : Ty) → Alg n h a b → Below h (put s a) (put s b)) → (a b : Ty) → Alg (suc n) h a b → Below h (put s a) (put s b)
  step_put n f Nothing b r = (suc zero, tt)
  step_put n f (Nullable a) (Nullable b) r = let q = deeper (f a (Nullable b) r) in (suc q.0, q.1)
  step_put n f (Nullable a) (Class d ys) r = absurd r
  step_put n f (Nullable a) (Hole j) r = absurd r
  step_put n f (Nullable a) Nothing r = absurd r
  step_put n f (Hole k) (Hole j) r = subst (λ i. Below h (s k) (s i)) r (same k)
  step_put n f (Hole k) (Nullable b) r = elim r [
    | inl x ↦ to_null h (s k) (put s b) (f (Hole k) b x)
    | inr e ↦ subst (λ x. Below h (s k) (Nullable (put s x))) (sym e) (tops k)
  ]
  step_put n f (Hole k) (Class d ys) r = absurd r
  step_put n f (Hole k) Nothing r = absurd r
  step_put n f (Class c xs) (Class d ys) r =
      let q = each_height h (h.vars d) (puts (at (puts s xs)) r.0) (puts s ys)
      (subst (λ us. Each (Below h) (h.vars d) us (puts s ys)) (puts_puts s xs r.0) (each_put n f (h.vars d) (puts (at xs) r.0) ys r.2)) in
      (suc q.0, (r.0, r.1, q.1))
  step_put n f (Class c xs) (Nullable b) r = to_null h (Class c (puts s xs)) (put s b) (f (Class c xs) b r)
  step_put n f (Class c xs) (Hole j) r = absurd r
  step_put n f (Class c xs) Nothing r = absurd r

  pub substituted : (n : ℕ) (a b : Ty) → Alg n h a b → Below h (put s a) (put s b)
  substituted zero a b r = absurd r
  substituted (suc n) a b r = step_put n (substituted n) a b r
