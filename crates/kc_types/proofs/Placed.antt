-- All supertypes of a class of valid heads are formed, over its parameters, and these stand in them where their variance lets them.
use Rattle.std.proofs.Common.{◌≡◌, ℕ, Bool, true, false, nat_eq, List, [], ◌∷◌, cond, ◌||◌, refl, sym, ◌∙◌, eq-eqb}
use Rattle.kc_types.specs.Types.{Ty, Class, Param, Nothing, Nullable, Arg, Exact, Out, In, Star, Args, none, more, Variance, Invariant, Covariant, Contravariant, HeadParam, Heads, nullable, is_own}
use Rattle.kc_types.specs.Supertypes.{IsIn, Supertype, put, put_arg, put_args, put_in, own_args}
use Rattle.kc_types.specs.Supertypes.Supertype.{own, next}
use Rattle.kc_types.specs.Formed.{Different, Exact_args, Formed, Arg_formed, Args_formed}
use Rattle.kc_types.specs.Positions.{position, May, Stands, Arg_stands, All_stand, variance_in}
use Rattle.kc_types.specs.FormedSub.{Over, Arg_over, All_over, Of_types, ValidHeads}
use Rattle.kc_types.proofs.CoreInWhole.{either_false, turned}
use Rattle.kc_types.proofs.Upwards.{weaken}
use Rattle.kc_types.proofs.FormedUp.{nullable_formed}

no : {A : Type 0} → false ≡ true → A
no e = absurd (cc)

-- ---- types put in for parameters
nullable_stands : (h : Heads) (variance : ℕ → Variance) (q : Variance) (t : Ty) → Stands h variance q t → Stands h variance q (nullable t)
nullable_stands h variance q (Class c xs) w = w
nullable_stands h variance q (Param x) w = w
nullable_stands h variance q Nothing w = w
nullable_stands h variance q (Nullable t) w = w

nullable_over : (ps : List HeadParam) (t : Ty) → Over ps t → Over ps (nullable t)
nullable_over ps (Class c xs) o = o
nullable_over ps (Param x) o = o
nullable_over ps Nothing o = o
nullable_over ps (Nullable t) o = o

put_exact : (s : ℕ → Ty) (xs : Args) → Exact_args xs → Exact_args (put_args s xs)
put_exact s none e = tt
put_exact s (more (Exact t) xs) e = put_exact s xs e
put_exact s (more (Out t) xs) e = absurd e
put_exact s (more (In t) xs) e = absurd e
put_exact s (more Star xs) e = absurd e

may_stand : (h : Heads) (variance : ℕ → Variance) (v q : Variance) (t : Ty) → May v q → Stands h variance v t → Stands h variance q t
may_stand h variance Invariant q t m w = weaken h variance q t w
may_stand h variance Covariant Covariant t m w = w
may_stand h variance Covariant Contravariant t m w = absurd m
may_stand h variance Covariant Invariant t m w = absurd m
may_stand h variance Contravariant Contravariant t m w = w
may_stand h variance Contravariant Covariant t m w = absurd m
may_stand h variance Contravariant Invariant t m w = absurd m

-- what is known of a type at the place of a parameter
pub record Good (h : Heads) (variance : ℕ → Variance) (qs : List HeadParam) (v : Variance) (t : Ty) : Type 0 where
  pub formed : Formed h t
  pub over : Over qs t
  pub stands : Stands h variance v t

module _ (h : Heads) (variance : ℕ → Variance) (qs ps : List HeadParam) (s : ℕ → Ty) (good : (x : ℕ) → is_own ps x ≡ true → Good h variance qs (variance_in ps x) (s x)) where
  mutual
    put_formed : (t : Ty) → Formed h t → Over ps t → Formed h (put s t)
    put_formed (Class c xs) k o = (λ f. put_exact s xs (k.0 f), put_args_formed (h.params c) xs k.1 o)
    put_formed (Param x) k o = (good x o).formed
    put_formed Nothing k o = tt
    put_formed (Nullable t) k o = nullable_formed h (put s t) (put_formed t k.1 o)

    put_arg_formed : (a : Arg) → Arg_formed h a → Arg_over ps a → Arg_formed h (put_arg s a)
    put_arg_formed (Exact t) k o = put_formed t k o
    put_arg_formed (Out t) k o = put_formed t k o
    put_arg_formed (In t) k o = put_formed t k o
    put_arg_formed Star k o = tt

    put_args_formed : (rs : List HeadParam) (xs : Args) → Args_formed h rs xs → All_over ps xs → Args_formed h rs (put_args s xs)
    put_args_formed [] none k o = tt
    put_args_formed (r ∷ rs) (more a xs) k o = (put_arg_formed a k.0 o.0, put_args_formed rs xs k.1 o.1)
    put_args_formed [] (more a xs) k o = absurd k
    put_args_formed (r ∷ rs) none k o = absurd k

  mutual
    put_over : (t : Ty) → Over ps t → Over qs (put s t)
    put_over (Class c xs) o = put_args_over xs o
    put_over (Param x) o = (good x o).over
    put_over Nothing o = tt
    put_over (Nullable t) o = nullable_over qs (put s t) (put_over t o)

    put_arg_over : (a : Arg) → Arg_over ps a → Arg_over qs (put_arg s a)
    put_arg_over (Exact t) o = put_over t o
    put_arg_over (Out t) o = put_over t o
    put_arg_over (In t) o = put_over t o
    put_arg_over Star o = tt

    put_args_over : (xs : Args) → All_over ps xs → All_over qs (put_args s xs)
    put_args_over none o = tt
    put_args_over (more a xs) o = (put_arg_over a o.0, put_args_over xs o.1)

  mutual
    put_stands : (q : Variance) (t : Ty) → Stands h (variance_in ps) q t → Over ps t → Stands h variance q (put s t)
    put_stands q (Class c xs) w o = put_args_stand q (h.params c) xs w o
    put_stands q (Param x) w o = may_stand h variance (variance_in ps x) q (s x) w (good x o).stands
    put_stands q Nothing w o = tt
    put_stands q (Nullable t) w o = nullable_stands h variance q (put s t) (put_stands q t w o)

    put_arg_stands : (q v : Variance) (a : Arg) → Arg_stands h (variance_in ps) q v a → Arg_over ps a → Arg_stands h variance q v (put_arg s a)
    put_arg_stands q v (Exact t) w o = put_stands (position q v) t w o
    put_arg_stands q v (Out t) w o = put_stands q t w o
    put_arg_stands q v (In t) w o = put_stands (position q Contravariant) t w o
    put_arg_stands q v Star w o = tt

    put_args_stand : (q : Variance) (rs : List HeadParam) (xs : Args) → All_stand h (variance_in ps) q rs xs → All_over ps xs → All_stand h variance q rs (put_args s xs)
    put_args_stand q [] none w o = tt
    put_args_stand q (r ∷ rs) (more a xs) w o = (put_arg_stands q r.variance a w.0 o.0, put_args_stand q rs xs w.1 o.1)
    put_args_stand q [] (more a xs) w o = absurd w
    put_args_stand q (r ∷ rs) none w o = absurd w

-- ---- the arguments of a supertype are good at their places
module _ (h : Heads) (variance : ℕ → Variance) (qs : List HeadParam) where
  abbrev Good_if : Variance → Ty → Bool → Type 0
  Good_if v t b = b ≡ true → Good h variance qs v t

  good_picked : (b c : Bool) (v w : Variance) (t u : Ty) → Good h variance qs v t → Good_if w u c → Good_if (cond b v w) (cond b t u) (b || c)
  good_picked true c v w t u g f e = g
  good_picked false c v w t u g f e = f e

  good_args : (ps : List HeadParam) (xs : Args) → Exact_args xs → Args_formed h ps xs → All_over qs xs → All_stand h variance Covariant ps xs → (x : ℕ) → Good_if (variance_in ps x) (put_in ps xs x) (is_own ps x)
  good_args [] none e k o w x = λ q. no q
  good_args (p ∷ ps) (more (Exact t) xs) e k o w x =
      good_picked (nat_eq p.var x) (is_own ps x) p.variance (variance_in ps x) t (put_in ps xs x) (record { formed = k.0; over = o.0; stands = w.0 }) (good_args ps xs e k.1 o.1 w.1 x)
  good_args (p ∷ ps) (more (Out t) xs) e k o w x = absurd e
  good_args (p ∷ ps) (more (In t) xs) e k o w x = absurd e
  good_args (p ∷ ps) (more Star xs) e k o w x = absurd e
  good_args [] (more a xs) e k o w x = absurd k
  good_args (p ∷ ps) none e k o w x = absurd k

-- ---- a class's own type
own_exact : (ps : List HeadParam) → Exact_args (own_args ps)
own_exact [] = tt
own_exact (p ∷ ps) = own_exact ps

own_formed : (h : Heads) (ps : List HeadParam) → Args_formed h ps (own_args ps)
own_formed h [] = tt
own_formed h (p ∷ ps) = (tt, own_formed h ps)

-- the parameters of a part of the list are parameters, each of its variance
abbrev Part : List HeadParam → List HeadParam → Type 0
Part qs [] = Unit {0}
Part qs (p ∷ ps) = (is_own qs p.var ≡ true) × (variance_in qs p.var ≡ p.variance) × Part qs ps

either_true : (a b : Bool) → b ≡ true → (a || b) ≡ true
either_true true b e = refl
either_true false b e = e

first_true : (a b : Bool) → a ≡ true → (a || b) ≡ true
first_true true b e = refl
first_true false b e = no e

first_variance : (b : Bool) (v w : Variance) → b ≡ true → cond b v w ≡ v
first_variance true v w e = refl
first_variance false v w e = no e

second_variance : (b : Bool) (v w : Variance) → b ≡ false → cond b v w ≡ w
second_variance false v w e = refl
second_variance true v w e = no (sym e)

part_later : (q : HeadParam) (qs ps : List HeadParam) → is_own ps q.var ≡ false → Part qs ps → Part (q ∷ qs) ps
part_later q qs [] e r = tt
part_later q qs (p ∷ ps) e r =
    let f = either_false (nat_eq p.var q.var) (is_own ps q.var) e in
    (either_true (nat_eq q.var p.var) (is_own qs p.var) r.0, second_variance (nat_eq q.var p.var) q.variance (variance_in qs p.var) (turned p.var q.var f.0) ∙ r.1, part_later q qs ps f.1 r.2)

part_itself : (ps : List HeadParam) → Different ps → Part ps ps
part_itself [] d = tt
part_itself (p ∷ ps) d = (
  first_true (nat_eq p.var p.var) (is_own ps p.var) (eq-eqb p.var p.var refl),
  first_variance (nat_eq p.var p.var) p.variance (variance_in ps p.var) (eq-eqb p.var p.var refl),
  part_later p ps ps d.0 (part_itself ps d.1),
)

own_over : (qs ps : List HeadParam) → Part qs ps → All_over qs (own_args ps)
own_over qs [] r = tt
own_over qs (p ∷ ps) r = (r.0, own_over qs ps r.2)

may_itself : (v w : Variance) → v ≡ w → May v w
may_itself Invariant w e = tt
may_itself Covariant Covariant e = tt
may_itself Covariant Invariant e = absurd (cc)
may_itself Covariant Contravariant e = absurd (cc)
may_itself Contravariant Contravariant e = tt
may_itself Contravariant Invariant e = absurd (cc)
may_itself Contravariant Covariant e = absurd (cc)

own_stand : (h : Heads) (qs ps : List HeadParam) → Part qs ps → All_stand h (variance_in qs) Covariant ps (own_args ps)
own_stand h qs [] r = tt
own_stand h qs (p ∷ ps) r = (may_itself (variance_in qs p.var) p.variance r.1, own_stand h qs ps r.2)

-- ---- all supertypes
pub record Placed (h : Heads) (c : ℕ) (t : Ty) : Type 0 where
  pub formed : Formed h t
  pub types : Of_types t
  pub over : Over (h.params c) t
  pub stand : Stands h (variance_in (h.params c)) Covariant t

module _ (h : Heads) (valid : ValidHeads h) where
  types_put : (s : ℕ → Ty) (t : Ty) → Of_types t → Of_types (put s t)
  types_put s (Class c xs) e = put_exact s xs e
  types_put s (Param x) e = absurd e
  types_put s Nothing e = absurd e
  types_put s (Nullable t) e = absurd e

  placed_next : (c d : ℕ) (xs : Args) (s : Ty) → Placed h c (Class d xs) → IsIn Ty s (h.supers d) → Placed h c (put (put_in (h.params d) xs) s)
  placed_next c d xs s p i =
      let good : (x : ℕ) → is_own (h.params d) x ≡ true → Good h (variance_in (h.params c)) (h.params c) (variance_in (h.params d) x) (put_in (h.params d) xs x) =
      good_args h (variance_in (h.params c)) (h.params c) (h.params d) xs p.types p.formed.1 p.over p.stand in
      record {
        formed = put_formed h (variance_in (h.params c)) (h.params c) (h.params d) (put_in (h.params d) xs) good s (valid.formed d s i) (valid.over d s i);
        types = types_put (put_in (h.params d) xs) s (valid.types d s i);
        over = put_over h (variance_in (h.params c)) (h.params c) (h.params d) (put_in (h.params d) xs) good s (valid.over d s i);
        stand = put_stands h (variance_in (h.params c)) (h.params c) (h.params d) (put_in (h.params d) xs) good Covariant s (valid.stand d s i) (valid.over d s i);
      }

  pub placed : {c : ℕ} {t : Ty} → Supertype h c t → Placed h c t
  placed {c = c} own = record {
    formed = (λ f. own_exact (h.params c), own_formed h (h.params c));
    types = own_exact (h.params c);
    over = own_over (h.params c) (h.params c) (part_itself (h.params c) (valid.different c));
    stand = own_stand h (h.params c) (h.params c) (part_itself (h.params c) (valid.different c));
  }
  placed {c = c} (next {d = d} {xs = xs} {s = s} st i) = placed_next c d xs s (placed st) i
