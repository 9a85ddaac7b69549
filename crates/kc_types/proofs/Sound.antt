-- What the recursion accepts is in the relation.
use Rattle.std.proofs.Common.{◌≡◌, ℕ, zero, suc, Bool, true, false, nat_eq, List, [], ◌∷◌, ◌&&◌, map, refl, sym, subst, ⊎_elim, eqb-true}
use Rattle.std.proofs.lemmas.Bool.{and_parts, or_cases}
use Rattle.kc_types.specs.Types.{Ty, Class, Param, Nothing, Nullable, Arg, Exact, Out, In, Star, Args, none, more, Variance, Invariant, Covariant, Contravariant, HeadParam, Heads, star_bound, up, class_given}
use Rattle.kc_types.specs.Supertypes.{IsIn, here, later, Supertype, above, is_class}
use Rattle.kc_types.specs.Subtype.{read, Sub, All, In_arg, contains_with, all_with, above_with, fits_with, any_fits, options, choices, choices_by, class_choices, each_first, class_with, is_empty, is_param, is_anything, null_with, layer, below}
use Rattle.kc_types.specs.Subtype.Sub.{same, through, nothing, any, null, nulls, object, super, arguments, bound}
use Rattle.kc_types.specs.Subtype.All.{end, next}
use Rattle.kc_types.specs.Laws.{HasInstances}
use Rattle.kc_types.proofs.Supertypes.{in_append, instance_is, above_only}
use Rattle.kc_types.specs.Subtype.In_arg.{star, out_exact, out_out, out_in, out_star, in_exact, in_in, exact}

no : {A : Type 0} → false ≡ true → A
no e = absurd (cc)

pub another : (v g : Bool) → elim v [ true ↦ false | false ↦ g ] ≡ true → (v ≡ false) × (g ≡ true)
another true g e = no e
another false g e = (refl, e)

pub one_class : (v g : Bool) → elim v [ true ↦ g | false ↦ false ] ≡ true → (v ≡ true) × (g ≡ true)
one_class true g e = (refl, e)
one_class false g e = no e

in_map : (a : Arg) (y : Args) (xss : List Args) → IsIn Args y (map (λ xs. more a xs) xss) → (xs : Args) × (y ≡ more a xs) × IsIn Args xs xss
in_map a y [] i = elim i [ ]
in_map a y (xs ∷ xss) here = (xs, refl, here)
in_map a y (xs ∷ xss) (later i) = let r = in_map a y xss i in (r.0, r.1, later r.2)

-- a list of arguments made of one of each
pub record Made (first : List Arg) (xss : List Args) (y : Args) : Type 0 where
  pub a : Arg
  pub xs : Args
  pub is : y ≡ more a xs
  pub first_in : IsIn Arg a first
  pub rest_in : IsIn Args xs xss

pub made : (first : List Arg) (xss : List Args) (y : Args) → IsIn Args y (each_first first xss) → Made first xss y
made [] xss y i = elim i [ ]
made (a ∷ first) xss y i = ⊎_elim
    (λ l. let r = in_map a y xss l in record { a = a; xs = r.0; is = r.1; first_in = here; rest_in = r.2 })
    (λ l. let m = made first xss y l in record { a = m.a; xs = m.xs; is = m.is; first_in = later m.first_in; rest_in = m.rest_in })
    (in_append y (map (λ xs. more a xs) xss) (each_first first xss) i)

-- by way of stars
record By_stars (h : Heads) (all : HeadParam → Ty) (ps : List HeadParam) (xs ys : Args) : Type 0 where
  mid : Args
  to_mid : All h all ps xs mid
  from_mid : All h all ps mid ys

in_same : (h : Heads) (top : Ty) (a : Arg) → In_arg h top a a
in_same h top (Exact t) = exact same same
in_same h top (Out t) = out_out same
in_same h top (In t) = in_in same
in_same h top Star = star

record One_by_star (h : Heads) (v : Variance) (top : Ty) (a b : Arg) : Type 0 where
  one : Arg
  to_one : In_arg h top (read v a) (read v one)
  from_one : In_arg h top (read v one) (read v b)

option_by_star : (h : Heads) (v : Variance) (top : Ty) (a b : Arg) → IsIn Arg b (options v top a) → One_by_star h v top a b
option_by_star h Invariant top (Exact t) b here = record { one = Exact t; to_one = in_same h top (Exact t); from_one = in_same h top (Exact t) }
option_by_star h Invariant top (Exact t) b (later here) = record { one = Exact t; to_one = in_same h top (Exact t); from_one = in_exact same }
option_by_star h Invariant top (Exact t) b (later (later here)) = record { one = Star; to_one = star; from_one = out_star same }
option_by_star h Invariant top (Exact t) b (later (later (later i))) = elim i [ ]
option_by_star h Invariant top (Out t) b here = record { one = Out t; to_one = in_same h top (Out t); from_one = in_same h top (Out t) }
option_by_star h Invariant top (Out t) b (later here) = record { one = Star; to_one = star; from_one = out_star same }
option_by_star h Invariant top (Out t) b (later (later i)) = elim i [ ]
option_by_star h Invariant top (In t) b here = record { one = In t; to_one = in_same h top (In t); from_one = in_same h top (In t) }
option_by_star h Invariant top (In t) b (later here) = record { one = Star; to_one = star; from_one = out_star same }
option_by_star h Invariant top (In t) b (later (later i)) = elim i [ ]
option_by_star h Invariant top Star b here = record { one = Star; to_one = in_same h top Star; from_one = in_same h top Star }
option_by_star h Invariant top Star b (later here) = record { one = Star; to_one = star; from_one = out_star same }
option_by_star h Invariant top Star b (later (later i)) = elim i [ ]
option_by_star h Covariant top a b here = record { one = a; to_one = in_same h top (read Covariant a); from_one = in_same h top (read Covariant a) }
option_by_star h Covariant top a b (later here) = record { one = Star; to_one = star; from_one = out_star same }
option_by_star h Covariant top a b (later (later i)) = elim i [ ]
option_by_star h Contravariant top a b here = record { one = a; to_one = in_same h top (read Contravariant a); from_one = in_same h top (read Contravariant a) }
option_by_star h Contravariant top a b (later i) = elim i [ ]

choice_by_stars : (h : Heads) (all : HeadParam → Ty) (ps : List HeadParam) (xs ys : Args) → IsIn Args ys (choices all ps xs) → By_stars h all ps xs ys
choice_by_stars h all [] none ys here = record { mid = none; to_mid = end; from_mid = end }
choice_by_stars h all [] none ys (later i) = elim i [ ]
choice_by_stars h all [] (more a xs) ys i = elim i [ ]
choice_by_stars h all (p ∷ ps) none ys i = elim i [ ]
choice_by_stars h all (p ∷ ps) (more a xs) ys i =
    let m = made (options p.variance (all p) a) (choices all ps xs) ys i in
    let b = choice_by_stars h all ps xs m.xs m.rest_in in
    let o = option_by_star h p.variance (all p) a m.a m.first_in in
    record { mid = more o.one b.mid; to_mid = next o.to_one b.to_mid; from_mid = subst (λ zs. All h all (p ∷ ps) (more o.one b.mid) zs) (sym m.is) (next o.from_one b.from_mid) }

choice_sound : (h : Heads) (c : ℕ) (v : Bool) (xs ys : Args) → IsIn Args ys (choices_by v (star_bound h c) (h.params c) xs) → Sub h (Class c xs) (Class c ys)
choice_sound h c true xs ys here = same
choice_sound h c true xs ys (later i) = elim i [ ]
choice_sound h c false xs ys i = let b = choice_by_stars h (star_bound h c) (h.params c) xs ys i in through (arguments b.to_mid) (arguments b.from_mid)

module _ (h : Heads) (go : Ty → Ty → Bool) (is : (a b : Ty) → go a b ≡ true → Sub h a b) where
  contains_sound : (top : Ty) (a b : Arg) → contains_with go top a b ≡ true → In_arg h top a b
  contains_sound top a Star e = star
  contains_sound top (Exact a) (Out b) e = out_exact (is a b e)
  contains_sound top (Out a) (Out b) e = out_out (is a b e)
  contains_sound top (In a) (Out b) e = out_in (is top b e)
  contains_sound top Star (Out b) e = out_star (is top b e)
  contains_sound top (Exact a) (In b) e = in_exact (is b a e)
  contains_sound top (In a) (In b) e = in_in (is b a e)
  contains_sound top (Out a) (In b) e = no e
  contains_sound top Star (In b) e = no e
  contains_sound top (Exact a) (Exact b) e = let p = and_parts (go a b) (go b a) e in exact (is a b p.0) (is b a p.1)
  contains_sound top (Out a) (Exact b) e = no e
  contains_sound top (In a) (Exact b) e = no e
  contains_sound top Star (Exact b) e = no e

  all_sound : (all : HeadParam → Ty) (ps : List HeadParam) (xs ys : Args) → all_with go all ps xs ys ≡ true → All h all ps xs ys
  all_sound all [] none none e = end
  all_sound all (p ∷ ps) (more a xs) (more b ys) e =
      let q = and_parts (contains_with go (all p) (read p.variance a) (read p.variance b)) (all_with go all ps xs ys) e in
      next (contains_sound (all p) (read p.variance a) (read p.variance b) q.0) (all_sound all ps xs ys q.1)
  all_sound all [] (more a xs) ys e = no e
  all_sound all [] none (more b ys) e = no e
  all_sound all (p ∷ ps) none ys e = no e
  all_sound all (p ∷ ps) (more a xs) none e = no e

  above_sound : (c : ℕ) (xs : Args) (b : Ty) (ts : List Ty) → ((t : Ty) → IsIn Ty t ts → Supertype h c t) → above_with go h (class_given h c xs) c b ts ≡ true → Sub h (Class c xs) b
  above_sound c xs b [] f e = no e
  above_sound c xs b (t ∷ ts) f e = ⊎_elim
      (λ q. through (super (f t here)) (is (up h (class_given h c xs) t) b (another (is_class c t) (go (up h (class_given h c xs) t) b) q).1))
      (λ q. above_sound c xs b ts (λ s i. f s (later i)) q)
      (or_cases (elim (is_class c t) [ true ↦ false | false ↦ go (up h (class_given h c xs) t) b ]) (above_with go h (class_given h c xs) c b ts) e)

  same_sound : (c : ℕ) (xs : Args) (d : ℕ) (ys : Args) → elim (nat_eq c d) [ true ↦ all_with go (star_bound h c) (h.params c) xs ys | false ↦ false ] ≡ true → Sub h (Class c xs) (Class d ys)
  same_sound c xs d ys e =
      let q = one_class (nat_eq c d) (all_with go (star_bound h c) (h.params c) xs ys) e in
      subst (λ k. Sub h (Class c xs) (Class k ys)) (eqb-true c d q.0) (arguments (all_sound (star_bound h c) (h.params c) xs ys q.1))

  fits_sound : (c : ℕ) (xs : Args) (d : ℕ) (ys : Args) → fits_with go h c xs d ys ≡ true → Sub h (Class c xs) (Class d ys)
  fits_sound c xs d ys e = ⊎_elim (same_sound c xs d ys) (above_sound c xs (Class d ys) (above h c) (above_only h c))
      (or_cases (elim (nat_eq c d) [ true ↦ all_with go (star_bound h c) (h.params c) xs ys | false ↦ false ]) (above_with go h (class_given h c xs) c (Class d ys) (above h c)) e)

  any_sound : (c : ℕ) (xs : Args) (xss : List Args) (d : ℕ) (ys : Args) → ((zs : Args) → IsIn Args zs xss → Sub h (Class c xs) (Class c zs)) → any_fits go h c xss d ys ≡ true → Sub h (Class c xs) (Class d ys)
  any_sound c xs [] d ys w e = no e
  any_sound c xs (zs ∷ xss) d ys w e = ⊎_elim
      (λ q. through (w zs here) (fits_sound c zs d ys q))
      (λ q. any_sound c xs xss d ys (λ us i. w us (later i)) q)
      (or_cases (fits_with go h c zs d ys) (any_fits go h c xss d ys) e)

  object_sound : (c : ℕ) (xs : Args) (d : ℕ) (ys : Args) → nat_eq d h.any ≡ true → is_empty ys ≡ true → Sub h (Class c xs) (Class d ys)
  object_sound c xs d none q e = subst (λ k. Sub h (Class c xs) (Class k none)) (sym (eqb-true d h.any q)) object
  object_sound c xs d (more a ys) q e = no e

  class_sound : (c : ℕ) (xs : Args) (b : Ty) → class_with go h c xs b ≡ true → Sub h (Class c xs) b
  class_sound c xs (Class d ys) e = ⊎_elim
      (λ q. let p = and_parts (nat_eq d h.any) (is_empty ys) q in object_sound c xs d ys p.0 p.1)
      (λ q. any_sound c xs (class_choices h c xs) d ys (choice_sound h c (h.is_function c) xs) q)
      (or_cases (nat_eq d h.any && is_empty ys) (any_fits go h c (class_choices h c xs) d ys) e)
  class_sound c xs (Param x) e = no e
  class_sound c xs Nothing e = no e
  class_sound c xs (Nullable b) e = through (is (Class c xs) b e) null

  null_sound : (a b : Ty) → null_with go a b ≡ true → Sub h (Nullable a) b
  null_sound a (Nullable b) e = nulls (is a (Nullable b) e)
  null_sound a (Class c xs) e = no e
  null_sound a (Param x) e = no e
  null_sound a Nothing e = no e

  param_sound : (x : ℕ) (b : Ty) → is_param x b ≡ true → Sub h (Param x) b
  param_sound x (Param y) e = subst (λ k. Sub h (Param x) (Param k)) (eqb-true x y e) same
  param_sound x (Nullable (Param y)) e = subst (λ k. Sub h (Param x) (Nullable (Param k))) (eqb-true x y e) null
  param_sound x (Nullable (Class c xs)) e = no e
  param_sound x (Nullable Nothing) e = no e
  param_sound x (Nullable (Nullable t)) e = no e
  param_sound x (Class c xs) e = no e
  param_sound x Nothing e = no e

  layer_sound : (a b : Ty) → layer go h a b ≡ true → Sub h a b
  layer_sound Nothing b e = nothing
  layer_sound (Nullable a) b e = null_sound a b e
  layer_sound (Param x) b e = ⊎_elim (λ q. param_sound x b q) (λ q. through bound (is (h.bound_of x) b q)) (or_cases (is_param x b) (go (h.bound_of x) b) e)
  layer_sound (Class c xs) b e = class_sound c xs b e

anything_sound : (h : Heads) (a b : Ty) → is_anything h b ≡ true → Sub h a b
anything_sound h a (Nullable (Class c none)) e = subst (λ k. Sub h a (Nullable (Class k none))) (sym (eqb-true c h.any e)) any
anything_sound h a (Nullable (Class c (more x xs))) e = no e
anything_sound h a (Nullable (Nullable t)) e = no e
anything_sound h a (Nullable (Param x)) e = no e
anything_sound h a (Nullable Nothing) e = no e
anything_sound h a (Class c xs) e = no e
anything_sound h a (Param x) e = no e
anything_sound h a Nothing e = no e

-- what is accepted with any fuel is in the relation
pub below_sound : (n : ℕ) (h : Heads) (a b : Ty) → below n h a b ≡ true → Sub h a b
below_sound zero h a b e = no e
below_sound (suc n) h a b e = ⊎_elim (λ q. anything_sound h a b q) (λ q. layer_sound h (below n h) (below_sound n h) a b q) (or_cases (is_anything h b) (layer (below n h) h a b) e)

-- a class type is below its instance
pub has_instances : HasInstances
has_instances h c d xs t e = super (instance_is h c d t e).0
