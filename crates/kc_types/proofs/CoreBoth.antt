-- The core's relation and its recursion agree.
use Rattle.std.proofs.Common.{◌≡◌, ℕ, zero, suc, List, [], ◌∷◌, Some, sym, subst, inl, inr}
use Rattle.kc_types.specs.Core.{Ty, Class, Hole, Nothing, Nullable, Args, none, more, Variance, Inv, Cov, Contra, Heads, puts, at, Each, Alg, Below}
use Rattle.kc_types.specs.Core.{Kinded, All_kinded, Sub, All, Supertype}
use Rattle.kc_types.specs.Core.Sub.{same, through, nothing, any, null, nulls, super, arguments}
use Rattle.kc_types.specs.Core.All.{end, out_next, in_next, both_next}
use Rattle.kc_types.proofs.CoreCut.{Lawful, transitive, each_height, deeper}
use Rattle.kc_types.proofs.CoreLaws.{Selfish, reflexive, instance_above, to_null}

-- ---- every rule is in the recursion
module _ (h : Heads) (law : Lawful h) (self : Selfish h) (found : (c d : ℕ) (zs : Args) → h.above c d ≡ Some zs → Supertype h c d zs) (one : (c d : ℕ) (zs : Args) → Supertype h c d zs → h.above c d ≡ Some zs) (instance_kinded : (c d : ℕ) (xs zs : Args) → h.above c d ≡ Some zs → All_kinded h (h.vars c) xs → All_kinded h (h.vars d) (puts (at xs) zs)) (top : (a : Ty) → Below h a (Nullable (Class h.any none))) where
  mutual
    pub complete : {a b : Ty} → Sub h a b → Below h a b
    complete (same {a = a} k) = reflexive h self a k
    complete (through {a = a} {m = m} {b = b} d e) = transitive h law a m b (complete d) (complete e)
    complete nothing = (suc zero, tt)
    complete (any {a = a} k) = top a
    complete (null {a = a} k) = to_null h a a (reflexive h self a k)
    complete (nulls d) = let r = deeper (complete d) in (suc r.0, r.1)
    complete (super {c = c} {d = d} {xs = xs} {zs = zs} e k) = instance_above h self c d xs zs (one c d zs e) (instance_kinded c d xs zs (one c d zs e) k)
    complete (arguments {c = c} {xs = xs} {ys = ys} k d) =
        let r = each_height h (h.vars c) xs ys (all_complete d) in
        (suc r.0, (self.own c, self.is c, subst (λ us. Each (Alg r.0 h) (h.vars c) us ys) (sym (self.stays c xs k)) r.1))

    all_complete : {vs : List Variance} {xs ys : Args} → All h vs xs ys → Each (Below h) vs xs ys
    all_complete end = tt
    all_complete (out_next d ds) = (complete d, all_complete ds)
    all_complete (in_next d ds) = (complete d, all_complete ds)
    all_complete (both_next d e ds) = ((complete d, complete e), all_complete ds)

-- ---- what the recursion has is in the relation, for types with as many arguments as parameters
module _ (h : Heads) (found : (c d : ℕ) (zs : Args) → h.above c d ≡ Some zs → Supertype h c d zs) (instance_kinded : (c d : ℕ) (xs zs : Args) → h.above c d ≡ Some zs → All_kinded h (h.vars c) xs → All_kinded h (h.vars d) (puts (at xs) zs)) where
  abbrev Sounds : ℕ → Type 0
  Sounds n = (a b : Ty) → Kinded h a → Kinded h b → Alg n h a b → Sub h a b

  each_sound : (n : ℕ) → Sounds n → (vs : List Variance) (xs ys : Args) → All_kinded h vs xs → All_kinded h vs ys → Each (Alg n h) vs xs ys → All h vs xs ys
  each_sound n f [] none none k l d = end
  each_sound n f (Cov ∷ vs) (more a xs) (more b ys) k l d = out_next (f a b k.0 l.0 d.0) (each_sound n f vs xs ys k.1 l.1 d.1)
  each_sound n f (Contra ∷ vs) (more a xs) (more b ys) k l d = in_next (f b a l.0 k.0 d.0) (each_sound n f vs xs ys k.1 l.1 d.1)
  each_sound n f (Inv ∷ vs) (more a xs) (more b ys) k l d = both_next (f a b k.0 l.0 d.0.0) (f b a l.0 k.0 d.0.1) (each_sound n f vs xs ys k.1 l.1 d.1)
  each_sound n f [] none (more b ys) k l d = absurd d
  each_sound n f [] (more a xs) ys k l d = absurd k
  each_sound n f (v ∷ vs) none ys k l d = absurd k
  each_sound n f (v ∷ vs) (more a xs) none k l d = absurd l

  step_sound : (n : ℕ) → Sounds n → Sounds (suc n)
  step_sound n f Nothing b k l d = nothing
  step_sound n f (Nullable a) (Nullable b) k l d = nulls (f a (Nullable b) k l d)
  step_sound n f (Nullable a) (Class c xs) k l d = absurd d
  step_sound n f (Nullable a) (Hole j) k l d = absurd d
  step_sound n f (Nullable a) Nothing k l d = absurd d
  step_sound n f (Hole i) (Hole j) k l d = subst (λ q. Sub h (Hole i) (Hole q)) d (same tt)
  step_sound n f (Hole i) (Nullable b) k l d = elim d [
    | inl x ↦ through (f (Hole i) b k l x) (null l)
    | inr e ↦ subst (λ x. Sub h (Hole i) (Nullable x)) (sym e) (any tt)
  ]
  step_sound n f (Hole i) (Class c xs) k l d = absurd d
  step_sound n f (Hole i) Nothing k l d = absurd d
  step_sound n f (Class c xs) (Class e ys) k l d =
      let i = instance_kinded c e xs d.0 d.1 k in
      through (super (found c e d.0 d.1) k) (arguments i (each_sound n f (h.vars e) (puts (at xs) d.0) ys i l d.2))
  step_sound n f (Class c xs) (Nullable b) k l d = through (f (Class c xs) b k l d) (null l)
  step_sound n f (Class c xs) (Hole j) k l d = absurd d
  step_sound n f (Class c xs) Nothing k l d = absurd d

  pub sound : (n : ℕ) → Sounds n
  sound zero a b k l d = absurd d
  sound (suc n) a b k l d = step_sound n (sound n) a b k l d
