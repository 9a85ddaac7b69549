-- What the recursion accepts of formed types is below by way of formed types.
use Rattle.std.proofs.Common.{◌≡◌, ℕ, zero, suc, Bool, true, false, nat_eq, List, [], ◌∷◌, ◌&&◌, refl, sym, subst, ◌∙◌, ⊎_elim, eqb-true}
use Rattle.std.proofs.lemmas.Bool.{and_parts, or_cases}
use Rattle.kc_types.specs.Types.{Ty, Class, Param, Nothing, Nullable, Arg, Exact, Out, In, Star, Args, none, more, Variance, Invariant, Covariant, Contravariant, HeadParam, Heads, star_bound, up, class_given}
use Rattle.kc_types.specs.Supertypes.{IsIn, here, later, Supertype, above, is_class}
use Rattle.kc_types.specs.Subtype.{Sub, All, In_arg, read, contains_with, all_with, above_with, fits_with, any_fits, options, choices, choices_by, class_choices, class_with, is_empty, is_param, is_anything, null_with, layer, below}
use Rattle.kc_types.specs.Subtype.Sub.{same as sub_same, through as sub_through, nothing as sub_nothing, any as sub_any, null as sub_null, nulls as sub_nulls, object as sub_object, super as sub_super, arguments as sub_arguments, bound as sub_bound}
use Rattle.kc_types.specs.Subtype.All.{end as all_end, next as all_next}
use Rattle.kc_types.specs.Subtype.In_arg.{star as in_star, out_exact as in_out_exact, out_out as in_out_out, out_in as in_out_in, out_star as in_out_star, in_exact as in_in_exact, in_in as in_in_in, exact as in_exactly}
use Rattle.kc_types.specs.Formed.{Formed, Arg_formed, Args_formed}
use Rattle.kc_types.specs.FormedSub.{FormedSub, FormedAll, FormedIn, ValidHeads}
use Rattle.kc_types.specs.FormedSub.FormedSub.{same, through, nothing, any, null, nulls, object, super, arguments, bound}
use Rattle.kc_types.specs.FormedSub.FormedAll.{end, next}
use Rattle.kc_types.specs.FormedSub.FormedIn.{star, out_exact, out_out, out_in, out_star, in_exact, in_in, exact}
use Rattle.kc_types.specs.Laws.{FormedIsSub, BelowIsFormed, BelowComposes}
use Rattle.kc_types.proofs.Sound.{made, another, one_class}
use Rattle.kc_types.proofs.Supertypes.{above_only}
use Rattle.kc_types.proofs.Placed.{placed}
use Rattle.kc_types.proofs.FormedUp.{up_formed}
use Rattle.kc_types.proofs.Firm.{Tops, read_formed}
use Rattle.kc_types.proofs.Outermost.{tops, givens, class_formed}
use Rattle.kc_types.proofs.Perhaps.{sub_is_perhaps}

no : {A : Type 0} → false ≡ true → A
no e = absurd (cc)

-- ---- choices, by way of stars
record One (h : Heads) (v : Variance) (top : Ty) (a b : Arg) : Type 0 where
  mid : Arg
  formed : Arg_formed h mid
  to_mid : FormedIn h top (read v a) (read v mid)
  from_mid : FormedIn h top (read v mid) (read v b)

in_same : (h : Heads) (top : Ty) (a : Arg) → FormedIn h top a a
in_same h top (Exact t) = exact same same
in_same h top (Out t) = out_out same
in_same h top (In t) = in_in same
in_same h top Star = star

itself : (h : Heads) (v : Variance) (top : Ty) (a : Arg) → Arg_formed h a → One h v top a a
itself h v top a k = record { mid = a; formed = k; to_mid = in_same h top (read v a); from_mid = in_same h top (read v a) }

by_star : (h : Heads) (v : Variance) (top : Ty) (a b : Arg) → Arg_formed h a → IsIn Arg b (options v top a) → One h v top a b
by_star h Contravariant top a b k here = itself h Contravariant top a k
by_star h Contravariant top a b k (later i) = elim i [ ]
by_star h Covariant top a b k here = itself h Covariant top a k
by_star h Covariant top a b k (later here) = record { mid = Star; formed = tt; to_mid = star; from_mid = out_star same }
by_star h Covariant top a b k (later (later i)) = elim i [ ]
by_star h Invariant top (Exact t) b k here = itself h Invariant top (Exact t) k
by_star h Invariant top (Exact t) b k (later here) = record { mid = Exact t; formed = k; to_mid = exact same same; from_mid = in_exact same }
by_star h Invariant top (Exact t) b k (later (later here)) = record { mid = Star; formed = tt; to_mid = star; from_mid = out_star same }
by_star h Invariant top (Exact t) b k (later (later (later i))) = elim i [ ]
by_star h Invariant top (Out t) b k here = itself h Invariant top (Out t) k
by_star h Invariant top (Out t) b k (later here) = record { mid = Star; formed = tt; to_mid = star; from_mid = out_star same }
by_star h Invariant top (Out t) b k (later (later i)) = elim i [ ]
by_star h Invariant top (In t) b k here = itself h Invariant top (In t) k
by_star h Invariant top (In t) b k (later here) = record { mid = Star; formed = tt; to_mid = star; from_mid = out_star same }
by_star h Invariant top (In t) b k (later (later i)) = elim i [ ]
by_star h Invariant top Star b k here = itself h Invariant top Star k
by_star h Invariant top Star b k (later here) = record { mid = Star; formed = tt; to_mid = star; from_mid = out_star same }
by_star h Invariant top Star b k (later (later i)) = elim i [ ]

record By_stars (h : Heads) (all : HeadParam → Ty) (ps : List HeadParam) (xs ys : Args) : Type 0 where
  mid : Args
  formed : Args_formed h ps mid
  to_mid : FormedAll h all ps xs mid
  from_mid : FormedAll h all ps mid ys

stars_between : (h : Heads) (all : HeadParam → Ty) (ps : List HeadParam) (xs ys : Args) → Args_formed h ps xs → IsIn Args ys (choices all ps xs) → By_stars h all ps xs ys
stars_between h all [] none ys k here = record { mid = none; formed = tt; to_mid = end; from_mid = end }
stars_between h all [] none ys k (later i) = elim i [ ]
stars_between h all [] (more a xs) ys k i = absurd k
stars_between h all (p ∷ ps) none ys k i = absurd k
stars_between h all (p ∷ ps) (more a xs) ys k i =
    let m = made (options p.variance (all p) a) (choices all ps xs) ys i in
    let b = stars_between h all ps xs m.xs k.1 m.rest_in in
    let o = by_star h p.variance (all p) a m.a k.0 m.first_in in
    record { mid = more o.mid b.mid; formed = (o.formed, b.formed); to_mid = next o.to_mid b.to_mid; from_mid = subst (λ zs. FormedAll h all (p ∷ ps) (more o.mid b.mid) zs) (sym m.is) (next o.from_mid b.from_mid) }

choice_formed : (h : Heads) (c : ℕ) (v : Bool) (xs ys : Args) → h.is_function c ≡ v → Args_formed h (h.params c) xs → IsIn Args ys (choices_by v (star_bound h c) (h.params c) xs) → FormedSub h (Class c xs) (Class c ys)
choice_formed h c true xs ys e k here = same
choice_formed h c true xs ys e k (later i) = elim i [ ]
choice_formed h c false xs ys e k i =
    let b = stars_between h (star_bound h c) (h.params c) xs ys k i in
    through (λ f. no (sym e ∙ f), b.formed) (arguments b.to_mid) (arguments b.from_mid)

module _ (h : Heads) (valid : ValidHeads h) (go : Ty → Ty → Bool) (is : (a b : Ty) → Formed h a → Formed h b → go a b ≡ true → FormedSub h a b) where
  contained : (top : Ty) (a b : Arg) → Formed h top → Arg_formed h a → Arg_formed h b → contains_with go top a b ≡ true → FormedIn h top a b
  contained top a Star t k l e = star
  contained top (Exact a) (Out b) t k l e = out_exact (is a b k l e)
  contained top (Out a) (Out b) t k l e = out_out (is a b k l e)
  contained top (In a) (Out b) t k l e = out_in (is top b t l e)
  contained top Star (Out b) t k l e = out_star (is top b t l e)
  contained top (Exact a) (In b) t k l e = in_exact (is b a l k e)
  contained top (In a) (In b) t k l e = in_in (is b a l k e)
  contained top (Out a) (In b) t k l e = no e
  contained top Star (In b) t k l e = no e
  contained top (Exact a) (Exact b) t k l e = let p = and_parts (go a b) (go b a) e in exact (is a b k l p.0) (is b a l k p.1)
  contained top (Out a) (Exact b) t k l e = no e
  contained top (In a) (Exact b) t k l e = no e
  contained top Star (Exact b) t k l e = no e

  all_contained : (all : HeadParam → Ty) (ps : List HeadParam) (xs ys : Args) → Tops h all ps → Args_formed h ps xs → Args_formed h ps ys → all_with go all ps xs ys ≡ true → FormedAll h all ps xs ys
  all_contained all [] none none t k l e = end
  all_contained all (p ∷ ps) (more a xs) (more b ys) t k l e =
      let q = and_parts (contains_with go (all p) (read p.variance a) (read p.variance b)) (all_with go all ps xs ys) e in
      next (contained (all p) (read p.variance a) (read p.variance b) (t p here) (read_formed h p.variance a k.0) (read_formed h p.variance b l.0) q.0) (all_contained all ps xs ys (λ r i. t r (later i)) k.1 l.1 q.1)
  all_contained all [] (more a xs) ys t k l e = no e
  all_contained all [] none (more b ys) t k l e = no e
  all_contained all (p ∷ ps) none ys t k l e = no e
  all_contained all (p ∷ ps) (more a xs) none t k l e = no e

  above_formed : (c : ℕ) (xs : Args) (b : Ty) (ts : List Ty) → Formed h (Class c xs) → Formed h b → ((t : Ty) → IsIn Ty t ts → Supertype h c t) → above_with go h (class_given h c xs) c b ts ≡ true → FormedSub h (Class c xs) b
  above_formed c xs b [] k l f e = no e
  above_formed c xs b (t ∷ ts) k l f e = ⊎_elim
      (λ q.
      let u : Formed h (up h (class_given h c xs) t) = up_formed h (class_given h c xs) (givens h valid c xs k.1) t (placed h valid (f t here)).formed in
      through u (super (f t here)) (is (up h (class_given h c xs) t) b u l (another (is_class c t) (go (up h (class_given h c xs) t) b) q).1))
      (λ q. above_formed c xs b ts k l (λ s i. f s (later i)) q)
      (or_cases (elim (is_class c t) [ true ↦ false | false ↦ go (up h (class_given h c xs) t) b ]) (above_with go h (class_given h c xs) c b ts) e)

  same_formed : (c : ℕ) (xs : Args) (d : ℕ) (ys : Args) → Formed h (Class c xs) → Formed h (Class d ys) → elim (nat_eq c d) [ true ↦ all_with go (star_bound h c) (h.params c) xs ys | false ↦ false ] ≡ true → FormedSub h (Class c xs) (Class d ys)
  same_formed c xs d ys k l e =
      let q = one_class (nat_eq c d) (all_with go (star_bound h c) (h.params c) xs ys) e in
      let s : c ≡ d = eqb-true c d q.0 in
      let m : Formed h (Class c ys) = subst (λ x. Formed h (Class x ys)) (sym s) l in
      subst (λ x. FormedSub h (Class c xs) (Class x ys)) s (arguments (all_contained (star_bound h c) (h.params c) xs ys (tops h valid c) k.1 m.1 q.1))

  fits_formed : (c : ℕ) (xs : Args) (d : ℕ) (ys : Args) → Formed h (Class c xs) → Formed h (Class d ys) → fits_with go h c xs d ys ≡ true → FormedSub h (Class c xs) (Class d ys)
  fits_formed c xs d ys k l e = ⊎_elim (same_formed c xs d ys k l) (above_formed c xs (Class d ys) (above h c) k l (above_only h c))
      (or_cases (elim (nat_eq c d) [ true ↦ all_with go (star_bound h c) (h.params c) xs ys | false ↦ false ]) (above_with go h (class_given h c xs) c (Class d ys) (above h c)) e)

  any_formed : (c : ℕ) (xs : Args) (xss : List Args) (d : ℕ) (ys : Args) → Formed h (Class d ys) → ((zs : Args) → IsIn Args zs xss → Formed h (Class c zs) × FormedSub h (Class c xs) (Class c zs)) → any_fits go h c xss d ys ≡ true → FormedSub h (Class c xs) (Class d ys)
  any_formed c xs [] d ys l w e = no e
  any_formed c xs (zs ∷ xss) d ys l w e = ⊎_elim
      (λ q. through (w zs here).0 (w zs here).1 (fits_formed c zs d ys (w zs here).0 l q))
      (λ q. any_formed c xs xss d ys l (λ us i. w us (later i)) q)
      (or_cases (fits_with go h c zs d ys) (any_fits go h c xss d ys) e)

  object_formed : (c : ℕ) (xs : Args) (d : ℕ) (ys : Args) → nat_eq d h.any ≡ true → is_empty ys ≡ true → FormedSub h (Class c xs) (Class d ys)
  object_formed c xs d none q e = subst (λ x. FormedSub h (Class c xs) (Class x none)) (sym (eqb-true d h.any q)) object
  object_formed c xs d (more a ys) q e = no e

  class_below : (c : ℕ) (xs : Args) (b : Ty) → Formed h (Class c xs) → Formed h b → class_with go h c xs b ≡ true → FormedSub h (Class c xs) b
  class_below c xs (Class d ys) k l e = ⊎_elim
      (λ q. let p = and_parts (nat_eq d h.any) (is_empty ys) q in object_formed c xs d ys p.0 p.1)
      (λ q. any_formed c xs (class_choices h c xs) d ys l (λ zs i. (class_formed h valid c xs zs k i, choice_formed h c (h.is_function c) xs zs refl k.1 i)) q)
      (or_cases (nat_eq d h.any && is_empty ys) (any_fits go h c (class_choices h c xs) d ys) e)
  class_below c xs (Param x) k l e = no e
  class_below c xs Nothing k l e = no e
  class_below c xs (Nullable b) k l e = through l.1 (is (Class c xs) b k l.1 e) null

  null_below : (a b : Ty) → Formed h (Nullable a) → Formed h b → null_with go a b ≡ true → FormedSub h (Nullable a) b
  null_below a (Nullable b) k l e = nulls (is a (Nullable b) k.1 l e)
  null_below a (Class c xs) k l e = no e
  null_below a (Param x) k l e = no e
  null_below a Nothing k l e = no e

  param_below : (x : ℕ) (b : Ty) → is_param x b ≡ true → FormedSub h (Param x) b
  param_below x (Param y) e = subst (λ z. FormedSub h (Param x) (Param z)) (eqb-true x y e) same
  param_below x (Nullable (Param y)) e = subst (λ z. FormedSub h (Param x) (Nullable (Param z))) (eqb-true x y e) null
  param_below x (Nullable (Class c xs)) e = no e
  param_below x (Nullable Nothing) e = no e
  param_below x (Nullable (Nullable t)) e = no e
  param_below x (Class c xs) e = no e
  param_below x Nothing e = no e

  layer_below : (a b : Ty) → Formed h a → Formed h b → layer go h a b ≡ true → FormedSub h a b
  layer_below Nothing b k l e = nothing
  layer_below (Nullable a) b k l e = null_below a b k l e
  layer_below (Param x) b k l e = ⊎_elim (λ q. param_below x b q) (λ q. through (valid.bounds x) bound (is (h.bound_of x) b (valid.bounds x) l q)) (or_cases (is_param x b) (go (h.bound_of x) b) e)
  layer_below (Class c xs) b k l e = class_below c xs b k l e

anything_below : (h : Heads) (a b : Ty) → is_anything h b ≡ true → FormedSub h a b
anything_below h a (Nullable (Class c none)) e = subst (λ x. FormedSub h a (Nullable (Class x none))) (sym (eqb-true c h.any e)) any
anything_below h a (Nullable (Class c (more x xs))) e = no e
anything_below h a (Nullable (Nullable t)) e = no e
anything_below h a (Nullable (Param x)) e = no e
anything_below h a (Nullable Nothing) e = no e
anything_below h a (Class c xs) e = no e
anything_below h a (Param x) e = no e
anything_below h a Nothing e = no e

below_formed : (h : Heads) → ValidHeads h → (n : ℕ) (a b : Ty) → Formed h a → Formed h b → below n h a b ≡ true → FormedSub h a b
below_formed h valid zero a b k l e = no e
below_formed h valid (suc n) a b k l e = ⊎_elim (λ q. anything_below h a b q) (λ q. layer_below h valid (below n h) (below_formed h valid n) a b k l q) (or_cases (is_anything h b) (layer (below n h) h a b) e)

pub is_formed : BelowIsFormed
is_formed h valid n a b k l e = below_formed h valid n a b k l e

pub composes : BelowComposes
composes h valid a b c ka kb kc n m e f k = sub_is_perhaps h valid a c ka kc (through kb (below_formed h valid n a b ka kb e) (below_formed h valid m b c kb kc f)) k

-- ---- without the condition on what is in the middle
mutual
  forget : (h : Heads) {a b : Ty} → FormedSub h a b → Sub h a b
  forget h same = sub_same
  forget h (through f d e) = sub_through (forget h d) (forget h e)
  forget h nothing = sub_nothing
  forget h any = sub_any
  forget h null = sub_null
  forget h (nulls d) = sub_nulls (forget h d)
  forget h object = sub_object
  forget h (super st) = sub_super st
  forget h (arguments ds) = sub_arguments (forget_all h ds)
  forget h bound = sub_bound

  forget_all : (h : Heads) {all : HeadParam → Ty} {ps : List HeadParam} {xs ys : Args} → FormedAll h all ps xs ys → All h all ps xs ys
  forget_all h end = all_end
  forget_all h (next d ds) = all_next (forget_in h d) (forget_all h ds)

  forget_in : (h : Heads) {top : Ty} {a b : Arg} → FormedIn h top a b → In_arg h top a b
  forget_in h star = in_star
  forget_in h (out_exact d) = in_out_exact (forget h d)
  forget_in h (out_out d) = in_out_out (forget h d)
  forget_in h (out_in d) = in_out_in (forget h d)
  forget_in h (out_star d) = in_out_star (forget h d)
  forget_in h (in_exact d) = in_in_exact (forget h d)
  forget_in h (in_in d) = in_in_in (forget h d)
  forget_in h (exact d e) = in_exactly (forget h d) (forget h e)

pub is_sub : FormedIsSub
is_sub h a b d = forget h d
