-- What is below is refused at no height.
use Rattle.std.proofs.Common.{◌≡◌, ℕ, zero, suc, Bool, true, nat_eq, List, [], ◌∷◌, ◌&&◌, refl, sym, subst, eq-eqb, inl, inr}
use Rattle.kc_types.specs.Types.{Ty, Class, Param, Nothing, Nullable, Arg, Exact, Out, In, Star, Args, none, more, HeadParam, Heads, up, star_bound, class_given}
use Rattle.kc_types.specs.Subtype.{read, contains_with, all_with, fits_with, any_fits, class_choices, class_with, is_empty, is_param, is_anything, layer, perhaps}
use Rattle.kc_types.specs.FormedSub.{ValidHeads}
use Rattle.kc_types.specs.Laws.{SubIsPerhaps}
use Rattle.kc_types.proofs.Grows.{and_true, or_left, or_right}
use Rattle.kc_types.proofs.Reflexive.{any_in, same_fits, super_fits}
use Rattle.kc_types.proofs.Firm.{Rel, In_by, All_by}
use Rattle.kc_types.proofs.Outermost.{Way, Fits, Of, Unfolded, outermost}
use Rattle.kc_types.proofs.Outermost.Way.{by_args, by_super}

module _ (h : Heads) (go : Ty → Ty → Bool) (yes : (a b : Ty) → Rel h a b → go a b ≡ true) where
  contains_true : (top : Ty) (a b : Arg) → In_by (Rel h) top a b → contains_with go top a b ≡ true
  contains_true top (Exact a) (Exact b) r = and_true (go a b) (go b a) (yes a b r.0) (yes b a r.1)
  contains_true top (Exact a) (Out b) r = yes a b r
  contains_true top (Exact a) (In b) r = yes b a r
  contains_true top (Exact a) Star r = refl
  contains_true top (Out a) (Exact b) r = absurd r
  contains_true top (Out a) (Out b) r = yes a b r
  contains_true top (Out a) (In b) r = absurd r
  contains_true top (Out a) Star r = refl
  contains_true top (In a) (Exact b) r = absurd r
  contains_true top (In a) (Out b) r = yes top b r
  contains_true top (In a) (In b) r = yes b a r
  contains_true top (In a) Star r = refl
  contains_true top Star (Exact b) r = absurd r
  contains_true top Star (Out b) r = yes top b r
  contains_true top Star (In b) r = absurd r
  contains_true top Star Star r = refl

  all_true : (all : HeadParam → Ty) (ps : List HeadParam) (xs ys : Args) → All_by (Rel h) all ps xs ys → all_with go all ps xs ys ≡ true
  all_true all [] none none r = refl
  all_true all (p ∷ ps) (more a xs) (more b ys) r =
      and_true (contains_with go (all p) (read p.variance a) (read p.variance b)) (all_with go all ps xs ys)
      (contains_true (all p) (read p.variance a) (read p.variance b) r.0) (all_true all ps xs ys r.1)
  all_true all [] none (more b ys) r = absurd r
  all_true all [] (more a xs) ys r = absurd r
  all_true all (p ∷ ps) none ys r = absurd r
  all_true all (p ∷ ps) (more a xs) none r = absurd r

  way_true : (c : ℕ) (us : Args) (d : ℕ) (ys : Args) → Way h c us d ys → fits_with go h c us d ys ≡ true
  way_true c us d ys (by_args s all) = subst (λ q. fits_with go h c us q ys ≡ true) s (same_fits h go c us ys (all_true (star_bound h c) (h.params c) us ys all))
  way_true c us d ys (by_super t i n r) = super_fits h go c us d ys t i n (yes (up h (class_given h c us) t) (Class d ys) r)

  any_true : (d : ℕ) (ys : Args) → d ≡ h.any → ys ≡ none → (nat_eq d h.any && is_empty ys) ≡ true
  any_true d ys e f = and_true (nat_eq d h.any) (is_empty ys) (eq-eqb d h.any e) (subst (λ us. is_empty us ≡ true) (sym f) refl)

  fits_true : (c : ℕ) (xs : Args) (d : ℕ) (ys : Args) → Fits h c xs d ys → class_with go h c xs (Class d ys) ≡ true
  fits_true c xs d ys (inl q) = or_left (nat_eq d h.any && is_empty ys) (any_fits go h c (class_choices h c xs) d ys) (any_true d ys q.0 q.1)
  fits_true c xs d ys (inr w) =
      or_right (nat_eq d h.any && is_empty ys) (any_fits go h c (class_choices h c xs) d ys)
      (any_in h go c w.args (class_choices h c xs) d ys w.there (way_true c w.args d ys w.way))

module _ (h : Heads) (valid : ValidHeads h) where
  abbrev Never : ℕ → Type 0
  Never n = (a b : Ty) → Unfolded h a b → perhaps n h a b ≡ true

  layer_true : (n : ℕ) → Never n → (a b : Ty) → Of h a b → layer (perhaps n h) h a b ≡ true
  layer_true n f Nothing b o = refl
  layer_true n f (Param x) b (inl e) = or_left (is_param x b) (perhaps n h (h.bound_of x) b) e
  layer_true n f (Param x) b (inr r) = or_right (is_param x b) (perhaps n h (h.bound_of x) b) (f (h.bound_of x) b (outermost h valid r.2 r.0 r.1))
  layer_true n f (Class c xs) (Class d ys) o = fits_true h (perhaps n h) (λ a b r. f a b (outermost h valid r.2 r.0 r.1)) c xs d ys o.1
  layer_true n f (Class c xs) (Nullable b) o = f (Class c xs) b (inr o)
  layer_true n f (Class c xs) (Param x) o = absurd o
  layer_true n f (Class c xs) Nothing o = absurd o
  layer_true n f (Nullable a) (Nullable b) o = f a (Nullable b) (inr o.1)
  layer_true n f (Nullable a) (Class c xs) o = absurd o.0
  layer_true n f (Nullable a) (Param x) o = absurd o.0
  layer_true n f (Nullable a) Nothing o = absurd o.0

  next_true : (n : ℕ) → Never n → Never (suc n)
  next_true n f a b (inl e) = or_left (is_anything h b) (layer (perhaps n h) h a b) e
  next_true n f a b (inr o) = or_right (is_anything h b) (layer (perhaps n h) h a b) (layer_true n f a b o)

  never : (n : ℕ) → Never n
  never zero a b u = refl
  never (suc n) a b u = next_true n (never n) a b u

pub sub_is_perhaps : SubIsPerhaps
sub_is_perhaps h valid a b k l d n = never h valid n a b (outermost h valid d k l)
