-- Questions that are settled by the ranks of classes, and those about types without classes.
use Rattle.std.proofs.Common.{◌≡◌, ℕ, zero, suc, ◌<◌, ◌≤◌, true, false, List, refl, ap, ◌⊎◌, inl, inr, ⊎_elim, arith}
use Rattle.kc_types.specs.Types.{Ty, Class, Param, Nothing, Nullable, Args, none, Heads, Given, up, up_args, class_given}
use Rattle.kc_types.specs.Supertypes.{IsIn, Supertype, above, is_class, own_type, RanksBelow}
use Rattle.kc_types.specs.Supertypes.Supertype.{own, next as on_from}
use Rattle.kc_types.specs.Subtype.{is_param}
use Rattle.kc_types.specs.FormedSub.{ValidHeads}
use Rattle.kc_types.specs.Ending.{Less_deep, Ending}
use Rattle.kc_types.proofs.Supertypes.{above_only}
use Rattle.kc_types.proofs.Outermost.{on_from_lower, own_there}
use Rattle.kc_types.proofs.Settled.{Ask, Holds, constant, either, asked, class_settled, Way_holds, class_holds}

no : {A : Type 0} → false ≡ true → A
no e = absurd (cc)

module _ (h : Heads) (valid : ValidHeads h) where
  abbrev pub rank : ℕ → ℕ
  rank c = valid.acyclic.rank c

  lower : {c : ℕ} {t : Ty} → Supertype h c t → is_class c t ≡ false → RanksBelow valid.acyclic.rank (rank c) t
  lower {c = c} own e = absurd (own_there h valid c (own_type h c) refl e)
  lower (on_from st i) e = on_from_lower h valid.acyclic st i

  pub lower_there : (c : ℕ) (t : Ty) → IsIn Ty t (above h c) → is_class c t ≡ false → RanksBelow valid.acyclic.rank (rank c) t
  lower_there c t i e = lower (above_only h c t i) e

  -- ---- a class is below those of at most its rank, and the class of all objects
  abbrev pub At_most : ℕ → ℕ → Args → Type 0
  At_most c d ys = ((d ≡ h.any) × (ys ≡ none)) ⊎ (rank d ≤ rank c)

  abbrev Climbs : ℕ → Type 0
  Climbs r = (e : ℕ) (us : Args) (d : ℕ) (ys : Args) → rank e < r → Holds h (Class e us) (Class d ys) → At_most e d ys

  climbs_on : (r c d : ℕ) (ys : Args) (gs : List Given) → Climbs r → rank c ≤ r → (t : Ty) → RanksBelow valid.acyclic.rank (rank c) t → Holds h (up h gs t) (Class d ys) → At_most c d ys
  climbs_on r c d ys gs f le (Class e zs) low s = ⊎_elim (λ q. inl q) (λ q. inr (omega (arith, q, low))) (f e (up_args h gs (h.is_function e) (h.params e) zs) d ys (omega (arith, low, le)) s)
  climbs_on r c d ys gs f le (Param x) low s = absurd low
  climbs_on r c d ys gs f le Nothing low s = absurd low
  climbs_on r c d ys gs f le (Nullable t) low s = absurd low

  climbs_way : (r c : ℕ) (us : Args) (d : ℕ) (ys : Args) → Climbs r → rank c ≤ r → Way_holds h c us d ys → At_most c d ys
  climbs_way r c us d ys f le (inl w) = let e : rank c ≡ rank d = ap valid.acyclic.rank w.0 in inr (omega (arith, e))
  climbs_way r c us d ys f le (inr w) = climbs_on r c d ys (class_given h c us) f le w.0 (lower_there c w.0 w.1 w.2) w.3

  climbs_step : (r : ℕ) → Climbs r → Climbs (suc r)
  climbs_step r f c xs d ys lt s = ⊎_elim (λ q. inl q) (λ q. climbs_way r c q.args d ys f (omega (arith, lt)) q.way) (class_holds h c xs d ys s)

  climbs : (r : ℕ) → Climbs r
  climbs zero e us d ys lt s = absurd (omega (arith, lt))
  climbs (suc r) e us d ys lt s = climbs_step r (climbs r) e us d ys lt s

  pub at_most : (c : ℕ) (xs : Args) (d : ℕ) (ys : Args) → Holds h (Class c xs) (Class d ys) → At_most c d ys
  at_most c xs d ys s = climbs (suc (rank c)) c xs d ys (omega arith) s

  -- ---- so whether one is below another one of higher rank is settled
  abbrev Refused : ℕ → Type 0
  Refused r = (c : ℕ) (xs : Args) (d : ℕ) (ys : Args) → rank c < r → rank c < rank d → Ask h (Class c xs) (Class d ys)

  refused_on : (r c d : ℕ) (ys : Args) (gs : List Given) → Refused r → rank c ≤ r → rank c < rank d → (t : Ty) → RanksBelow valid.acyclic.rank (rank c) t → Ask h (up h gs t) (Class d ys)
  refused_on r c d ys gs f le lt (Class e zs) low = f e (up_args h gs (h.is_function e) (h.params e) zs) d ys (omega (arith, low, le)) (omega (arith, low, lt))
  refused_on r c d ys gs f le lt (Param x) low = absurd low
  refused_on r c d ys gs f le lt Nothing low = absurd low
  refused_on r c d ys gs f le lt (Nullable t) low = absurd low

  not_same : {A : Type 0} (c d : ℕ) → rank c < rank d → c ≡ d → A
  not_same c d lt e = let q : rank c ≡ rank d = ap valid.acyclic.rank e in absurd (omega (arith, lt, q))

  refused_step : (r : ℕ) → Refused r → Refused (suc r)
  refused_step r f c xs d ys le lt =
      class_settled h c xs d ys (λ us i. (λ e. not_same c d lt e, λ t j n. refused_on r c d ys (class_given h c us) f (omega (arith, le)) lt t (lower_there c t j n)))

  refuses : (r : ℕ) → Refused r
  refuses zero c xs d ys le lt = absurd (omega (arith, le))
  refuses (suc r) c xs d ys le lt = refused_step r (refuses r) c xs d ys le lt

  pub refused : (c : ℕ) (xs : Args) (d : ℕ) (ys : Args) → rank c < rank d → Ask h (Class c xs) (Class d ys)
  refused c xs d ys lt = refuses (suc (rank c)) c xs d ys (omega arith) lt

  -- ---- what is below a type without classes is settled
  abbrev pub No_class : Ty → Type 0
  No_class Nothing = Unit {0}
  No_class (Param x) = Unit {0}
  No_class (Nullable Nothing) = Unit {0}
  No_class (Nullable (Param x)) = Unit {0}
  No_class (Nullable (Class c xs)) = ⊥
  No_class (Nullable (Nullable t)) = ⊥
  No_class (Class c xs) = ⊥

  class_to_none : (c : ℕ) (xs : Args) (b : Ty) → No_class b → Ask h (Class c xs) b
  class_to_none c xs Nothing p = asked h (Class c xs) Nothing (constant h false)
  class_to_none c xs (Param x) p = asked h (Class c xs) (Param x) (constant h false)
  class_to_none c xs (Nullable Nothing) p = asked h (Class c xs) (Nullable Nothing) (asked h (Class c xs) Nothing (constant h false))
  class_to_none c xs (Nullable (Param x)) p = asked h (Class c xs) (Nullable (Param x)) (asked h (Class c xs) (Param x) (constant h false))
  class_to_none c xs (Nullable (Class d ys)) p = absurd p
  class_to_none c xs (Nullable (Nullable t)) p = absurd p
  class_to_none c xs (Class d ys) p = absurd p

  null_to_none : (a b : Ty) → No_class b → Ask h a b → Ask h (Nullable a) b
  null_to_none a (Nullable b) p s = asked h (Nullable a) (Nullable b) s
  null_to_none a Nothing p s = asked h (Nullable a) Nothing (constant h false)
  null_to_none a (Param x) p s = asked h (Nullable a) (Param x) (constant h false)
  null_to_none a (Class d ys) p s = absurd p

  module _ (ending : Ending h) where
    param_to_none : (x : ℕ) (b : Ty) → Ask h (h.bound_of x) b → Ask h (Param x) b
    param_to_none x b s = asked h (Param x) b (either h (λ go. is_param x b) (λ go. go (h.bound_of x) b) (λ go more_of f e. e) (λ go more_of f e. f (h.bound_of x) b e) (constant h (is_param x b)) s)

    abbrev To_none : ℕ → Type 0
    To_none n = (a b : Ty) → Less_deep ending.depth n a → No_class b → Ask h a b

    to_none_step : (n : ℕ) → To_none n → To_none (suc n)
    to_none_step n f Nothing b l p = asked h Nothing b (constant h true)
    to_none_step n f (Class c xs) b l p = class_to_none c xs b p
    to_none_step n f (Param x) b l p = param_to_none x b (f (h.bound_of x) b (deeper ending.depth (ending.depth x) n (h.bound_of x) (omega (arith, l)) (ending.less_deep x)) p)
      where
        deeper : (depth : ℕ → ℕ) (m n : ℕ) (t : Ty) → m ≤ n → Less_deep depth m t → Less_deep depth n t
        deeper depth m n (Param y) le d = omega (arith, le, d)
        deeper depth m n (Nullable t) le d = deeper depth m n t le d
        deeper depth m n (Class c xs) le d = tt
        deeper depth m n Nothing le d = tt
    to_none_step n f (Nullable a) b l p = null_to_none a b p (to_none_step n f a b l p)

    to_none_all : (n : ℕ) → To_none n
    to_none_all zero Nothing b l p = asked h Nothing b (constant h true)
    to_none_all zero (Class c xs) b l p = class_to_none c xs b p
    to_none_all zero (Param x) b l p = absurd (omega (arith, l))
    to_none_all zero (Nullable a) b l p = null_to_none a b p (to_none_all zero a b l p)
    to_none_all (suc n) a b l p = to_none_step n (to_none_all n) a b l p

    abbrev depth_of : Ty → ℕ
    depth_of (Param x) = suc (ending.depth x)
    depth_of (Nullable t) = depth_of t
    depth_of (Class c xs) = 0
    depth_of Nothing = 0

    deep_enough : (t : Ty) → Less_deep ending.depth (depth_of t) t
    deep_enough (Param x) = omega arith
    deep_enough (Nullable t) = deep_enough t
    deep_enough (Class c xs) = tt
    deep_enough Nothing = tt

    pub to_none : (a b : Ty) → No_class b → Ask h a b
    to_none a b p = to_none_all (depth_of a) a b (deep_enough a) p
