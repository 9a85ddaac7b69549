-- Where no class leads back to itself, the list of a class's supertypes has them all.
use Rattle.std.proofs.Common.{◌≡◌, ℕ, zero, suc, ◌<◌, ◌≤◌, List, [], ◌∷◌, ◌++◌, map, refl, sym, subst, ⊎_elim, arith}
use Rattle.kc_types.specs.Types.{Ty, Class, Param, Nothing, Nullable, Args, Heads}
use Rattle.kc_types.specs.Supertypes.{IsIn, here, later, Supertype, put, put_in, all_above, above_at, above, own_args, RanksBelow, Acyclic}
use Rattle.kc_types.specs.Supertypes.Supertype.{own, next}
use Rattle.kc_types.proofs.Supertypes.{in_append, in_map}

pub in_left : {A : Type 0} (x : A) (us vs : List A) → IsIn A x us → IsIn A x (us ++ vs)
in_left x [] vs i = elim i [ ]
in_left x (u ∷ us) vs here = here
in_left x (u ∷ us) vs (later i) = later (in_left x us vs i)

pub in_right : {A : Type 0} (x : A) (us vs : List A) → IsIn A x vs → IsIn A x (us ++ vs)
in_right x [] vs i = i
in_right x (u ∷ us) vs i = later (in_right x us vs i)

pub map_in : {A B : Type 0} (f : A → B) (x : A) (xs : List A) → IsIn A x xs → IsIn B (f x) (map f xs)
map_in f x [] i = elim i [ ]
map_in f x (y ∷ xs) here = here
map_in f x (y ∷ xs) (later i) = later (map_in f x xs i)

module _ (go : ℕ → Args → List Ty) where
  into_all : (ts : List Ty) (d : ℕ) (xs : Args) (t : Ty) → IsIn Ty (Class d xs) ts → IsIn Ty t (go d xs) → IsIn Ty t (all_above go ts)
  into_all [] d xs t i j = elim i [ ]
  into_all (Class e ys ∷ ts) d xs t here j = in_left t (go d xs) (all_above go ts) j
  into_all (Class e ys ∷ ts) d xs t (later i) j = in_right t (go e ys) (all_above go ts) (into_all ts d xs t i j)
  into_all (Param x ∷ ts) d xs t (later i) j = later (into_all ts d xs t i j)
  into_all (Nothing ∷ ts) d xs t (later i) j = later (into_all ts d xs t i j)
  into_all (Nullable u ∷ ts) d xs t (later i) j = later (into_all ts d xs t i j)

  record From (ts : List Ty) (t : Ty) : Type 0 where
    class : ℕ
    args : Args
    there : IsIn Ty (Class class args) ts
    inside : IsIn Ty t (go class args)

  deeper_from : (s : Ty) (ts : List Ty) (t : Ty) → From ts t → From (s ∷ ts) t
  deeper_from s ts t f = record { class = f.class; args = f.args; there = later f.there; inside = f.inside }

  module _ (rank : ℕ → ℕ) (n : ℕ) where
    from_all : (ts : List Ty) (t : Ty) → ((s : Ty) → IsIn Ty s ts → RanksBelow rank n s) → IsIn Ty t (all_above go ts) → From ts t
    from_all [] t f i = elim i [ ]
    from_all (Class d xs ∷ ts) t f i = ⊎_elim
        (λ l. record { class = d; args = xs; there = here; inside = l })
        (λ r. deeper_from (Class d xs) ts t (from_all ts t (λ s j. f s (later j)) r))
        (in_append t (go d xs) (all_above go ts) i)
    from_all (Param x ∷ ts) t f i = absurd (f (Param x) here)
    from_all (Nothing ∷ ts) t f i = absurd (f Nothing here)
    from_all (Nullable u ∷ ts) t f i = absurd (f (Nullable u) here)

module _ (h : Heads) (ordered : Acyclic h) where
  abbrev directs : ℕ → Args → List Ty
  directs d xs = map (λ s. put (put_in (h.params d) xs) s) (h.supers d)

  ranks_put : (s : ℕ → Ty) (n : ℕ) (t : Ty) → RanksBelow ordered.rank n t → RanksBelow ordered.rank n (put s t)
  ranks_put s n (Class d xs) r = r
  ranks_put s n (Param x) r = absurd r
  ranks_put s n Nothing r = absurd r
  ranks_put s n (Nullable t) r = absurd r

  directs_lower : (d : ℕ) (xs : Args) (t : Ty) → IsIn Ty t (directs d xs) → RanksBelow ordered.rank (ordered.rank d) t
  directs_lower d xs t i =
      let m = in_map (λ s. put (put_in (h.params d) xs) s) (h.supers d) t i in
      subst (λ u. RanksBelow ordered.rank (ordered.rank d) u) (sym m.is) (ranks_put (put_in (h.params d) xs) (ordered.rank d) m.x (ordered.lower d m.x m.there))

  first_there : (n d : ℕ) (xs : Args) → IsIn Ty (Class d xs) (above_at n h d xs)
  first_there zero d xs = here
  first_there (suc n) d xs = here

  -- a direct supertype of the first class is there
  direct_there : (n d : ℕ) (xs : Args) (s : Ty) → ordered.rank d ≤ n → (u : Ty) → put (put_in (h.params d) xs) s ≡ u → RanksBelow ordered.rank (ordered.rank d) u → IsIn Ty s (h.supers d) → IsIn Ty u (above_at n h d xs)
  direct_there zero d xs s le (Class e ys) is low i = absurd (omega (arith, le, low))
  direct_there (suc n) d xs s le (Class e ys) is low i =
      later (into_all (λ f zs. above_at n h f zs) (directs d xs) e ys (Class e ys)
      (subst (λ u. IsIn Ty u (directs d xs)) is (map_in (λ t. put (put_in (h.params d) xs) t) s (h.supers d) i)) (first_there n e ys))
  direct_there n d xs s le (Param x) is low i = absurd low
  direct_there n d xs s le Nothing is low i = absurd low
  direct_there n d xs s le (Nullable t) is low i = absurd low

  -- the list is closed under direct supertypes
  closed : (n e : ℕ) (ys : Args) → ordered.rank e ≤ n → (d : ℕ) (xs : Args) (s : Ty) → IsIn Ty (Class d xs) (above_at n h e ys) → IsIn Ty s (h.supers d) → IsIn Ty (put (put_in (h.params d) xs) s) (above_at n h e ys)
  closed zero e ys le d xs s here j = direct_there zero d xs s le (put (put_in (h.params d) xs) s) refl (ranks_put (put_in (h.params d) xs) (ordered.rank d) s (ordered.lower d s j)) j
  closed zero e ys le d xs s (later i) j = elim i [ ]
  closed (suc n) e ys le d xs s here j = direct_there (suc n) d xs s le (put (put_in (h.params d) xs) s) refl (ranks_put (put_in (h.params d) xs) (ordered.rank d) s (ordered.lower d s j)) j
  closed (suc n) e ys le d xs s (later i) j =
      let go : ℕ → Args → List Ty = λ f zs. above_at n h f zs in
      let f = from_all go ordered.rank (ordered.rank e) (directs e ys) (Class d xs) (directs_lower e ys) i in
      let low : ordered.rank f.class < ordered.rank e = directs_lower e ys (Class f.class f.args) f.there in
      later (into_all go (directs e ys) f.class f.args (put (put_in (h.params d) xs) s) f.there (closed n f.class f.args (omega (arith, le, low)) d xs s f.inside j))

  pub all_listed : (c : ℕ) (t : Ty) → Supertype h c t → IsIn Ty t (above h c)
  all_listed c t own = first_there h.classes c (own_args (h.params c))
  all_listed c t (next {d = d} {xs = xs} {s = s} st i) = closed h.classes c (own_args (h.params c)) (ordered.within c) d xs s (all_listed c (Class d xs) st) i
