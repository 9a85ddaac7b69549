-- The list of a class's supertypes has supertypes only.
use Rattle.std.proofs.Common.{◌≡◌, ℕ, zero, suc, Bool, true, false, List, [], ◌∷◌, ◌++◌, map, Some, cond, refl, sym, subst, ◌⊎◌, inl, inr, ⊎_elim}
use Rattle.kc_types.specs.Types.{Ty, Class, Param, Nothing, Nullable, Args, Heads}
use Rattle.kc_types.specs.Supertypes.{IsIn, here, later, Supertype, put, put_in, all_above, above_at, above, is_class, at_class, instance, own_args}
use Rattle.kc_types.specs.Supertypes.Supertype.{own, next}

pub in_append : {A : Type 0} (x : A) (us vs : List A) → IsIn A x (us ++ vs) → IsIn A x us ⊎ IsIn A x vs
in_append x [] vs i = inr i
in_append x (u ∷ us) vs here = inl here
in_append x (u ∷ us) vs (later i) = ⊎_elim (λ l. inl (later l)) (λ r. inr r) (in_append x us vs i)

-- a member of a mapped list
pub record Mapped {A B : Type 0} (f : A → B) (xs : List A) (y : B) : Type 0 where
  pub x : A
  pub there : IsIn A x xs
  pub is : y ≡ f x

pub in_map : {A B : Type 0} (f : A → B) (xs : List A) (y : B) → IsIn B y (map f xs) → Mapped f xs y
in_map f [] y i = elim i [ ]
in_map f (x ∷ xs) y here = record { x = x; there = here; is = refl }
in_map f (x ∷ xs) y (later i) = let m = in_map f xs y i in record { x = m.x; there = later m.there; is = m.is }

module _ (h : Heads) (c : ℕ) where
  abbrev Only : List Ty → Type 0
  Only ts = (t : Ty) → IsIn Ty t ts → Supertype h c t

  all_only : (go : ℕ → Args → List Ty) → ((d : ℕ) (xs : Args) → Supertype h c (Class d xs) → Only (go d xs)) → (ts : List Ty) → Only ts → Only (all_above go ts)
  all_only go f [] o t i = elim i [ ]
  all_only go f (Class d xs ∷ ts) o t i = ⊎_elim (λ l. f d xs (o (Class d xs) here) t l) (λ r. all_only go f ts (λ u j. o u (later j)) t r) (in_append t (go d xs) (all_above go ts) i)
  all_only go f (Param x ∷ ts) o t here = o (Param x) here
  all_only go f (Param x ∷ ts) o t (later i) = all_only go f ts (λ u j. o u (later j)) t i
  all_only go f (Nothing ∷ ts) o t here = o Nothing here
  all_only go f (Nothing ∷ ts) o t (later i) = all_only go f ts (λ u j. o u (later j)) t i
  all_only go f (Nullable s ∷ ts) o t here = o (Nullable s) here
  all_only go f (Nullable s ∷ ts) o t (later i) = all_only go f ts (λ u j. o u (later j)) t i

  direct_only : (d : ℕ) (xs : Args) → Supertype h c (Class d xs) → Only (map (λ s. put (put_in (h.params d) xs) s) (h.supers d))
  direct_only d xs s t i = let m = in_map (λ s. put (put_in (h.params d) xs) s) (h.supers d) t i in subst (λ u. Supertype h c u) (sym m.is) (next s m.there)

  above_at_only : (n d : ℕ) (xs : Args) → Supertype h c (Class d xs) → Only (above_at n h d xs)
  above_at_only zero d xs s t here = s
  above_at_only zero d xs s t (later i) = elim i [ ]
  above_at_only (suc n) d xs s t here = s
  above_at_only (suc n) d xs s t (later i) = all_only (λ e ys. above_at n h e ys) (λ e ys. above_at_only n e ys) (map (λ s. put (put_in (h.params d) xs) s) (h.supers d)) (direct_only d xs s) t i

  pub above_only : Only (above h c)
  above_only t i = above_at_only h.classes c (own_args (h.params c)) own t i

found_in : (d : ℕ) (s : Ty) (ts : List Ty) (t : Ty) → ((at_class d ts ≡ Some t) → IsIn Ty t ts × (is_class d t ≡ true)) →
    (v : Bool) → is_class d s ≡ v → cond v (Some s) (at_class d ts) ≡ Some t → IsIn Ty t (s ∷ ts) × (is_class d t ≡ true)
found_in d s ts t deeper true q f = let g : s ≡ t = cc in (subst (λ r. IsIn Ty t (r ∷ ts)) (sym g) here, subst (λ r. is_class d r ≡ true) g q)
found_in d s ts t deeper false q f = let r = deeper f in (later r.0, r.1)

-- a supertype found is a supertype
pub at_class_in : (d : ℕ) (ts : List Ty) (t : Ty) → at_class d ts ≡ Some t → IsIn Ty t ts × (is_class d t ≡ true)
at_class_in d [] t e = absurd (cc)
at_class_in d (s ∷ ts) t e = found_in d s ts t (at_class_in d ts t) (is_class d s) refl e

pub instance_is : (h : Heads) (c d : ℕ) (t : Ty) → instance h c d ≡ Some t → Supertype h c t × (is_class d t ≡ true)
instance_is h c d t e = let i = at_class_in d (above h c) t e in (above_only h c t i.0, i.1)
