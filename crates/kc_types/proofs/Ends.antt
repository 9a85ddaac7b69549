-- Each question comes to an end: what is asked next goes less deep into `in`, or has a smaller type on the right, or takes a step up on the left.
-- The second half of an invariant comparison is asked only where the first one holds.
use Rattle.std.proofs.Common.{ℕ, zero, suc, ◌<◌, ◌≤◌, ◌+◌, ◌*◌, true, false, List, [], ◌∷◌, sym, subst, arith}
use Rattle.kc_types.specs.Types.{Ty, Class, Param, Nothing, Nullable, Arg, Exact, Out, In, Star, Args, none, more, Variance, Invariant, Covariant, Contravariant, HeadParam, Heads, Given, up, star_bound, class_given}
use Rattle.kc_types.specs.Supertypes.{IsIn, here, later, Supertype, RanksBelow}
use Rattle.kc_types.specs.Subtype.{read, contains_with, is_param}
use Rattle.kc_types.specs.Formed.{Formed, Arg_formed, Args_formed}
use Rattle.kc_types.specs.Positions.{variance_in}
use Rattle.kc_types.specs.FormedSub.{ValidHeads}
use Rattle.kc_types.specs.Ending.{Loose, Less_deep, Ending}
use Rattle.kc_types.specs.Decided.{QuestionsEnd, SubIsBelow, BelowIsTransitive}
use Rattle.kc_types.proofs.Supertypes.{above_only}
use Rattle.kc_types.proofs.Placed.{placed}
use Rattle.kc_types.proofs.FormedUp.{up_formed}
use Rattle.kc_types.proofs.Firm.{read_formed}
use Rattle.kc_types.proofs.Outermost.{tops, givens, class_formed}
use Rattle.kc_types.proofs.Agreeing.{is_exact, is_transitive}
use Rattle.kc_types.proofs.Settled.{Settled, Ask, constant, both, either, asked, decided, Each_settled, class_settled}
use Rattle.kc_types.proofs.Climbs.{rank, lower_there}
use Rattle.kc_types.proofs.Sizes.{size, size_arg, sizes, size_as_read}
use Rattle.kc_types.proofs.Loose.{loose_settled}
use Rattle.kc_types.proofs.Turned.{turned}
use Rattle.kc_types.proofs.Nesting.{nest, nest_arg, nests, hand, hand_arg, hands, hand_nest, limited_hand, super_hand, Low, rooms, chosen_hands}

module _ (h : Heads) (valid : ValidHeads h) (ending : Ending h) where
  -- the steps up
  abbrev steps : Ty → ℕ
  steps (Class c xs) = rank h valid c
  steps (Param x) = h.classes + 2 + 2 * ending.depth x
  steps Nothing = 0
  steps (Nullable t) = suc (steps t)

  bound_steps : (n : ℕ) (t : Ty) → Formed h t → Less_deep ending.depth n t → steps t < h.classes + 2 + 2 * n
  bound_steps n (Class c xs) k l = let p : rank h valid c ≤ h.classes = valid.acyclic.within c in omega (arith, p)
  bound_steps n (Param y) k l = omega (arith, l)
  bound_steps n Nothing k l = omega arith
  bound_steps n (Nullable (Class c xs)) k l = let p : rank h valid c ≤ h.classes = valid.acyclic.within c in omega (arith, p)
  bound_steps n (Nullable (Param y)) k l = omega (arith, l)
  bound_steps n (Nullable Nothing) k l = omega arith
  bound_steps n (Nullable (Nullable t)) k l = absurd k.0

  -- a bound hands nothing over
  low : (n c : ℕ) → Low h n (star_bound h c) (h.params c)
  low n c p i = let q = limited_hand h (star_bound h c p) (ending.star_limited c p i) (tops h valid c p i) in omega (arith, q)

  -- arguments as their parameters' variances have them
  abbrev hand_read : Arg → ℕ
  hand_read (Exact t) = nest h t
  hand_read (Out t) = hand h t
  hand_read (In t) = nest h t
  hand_read Star = 0

  abbrev nest_read : Arg → ℕ
  nest_read (Exact t) = nest h t
  nest_read (Out t) = nest h t
  nest_read (In t) = suc (nest h t)
  nest_read Star = 0

  hand_as_read : (v : Variance) (a : Arg) → hand_read (read v a) ≤ hand_arg h v a
  hand_as_read Invariant (Exact t) = omega arith
  hand_as_read Invariant (Out t) = omega arith
  hand_as_read Invariant (In t) = omega arith
  hand_as_read Invariant Star = omega arith
  hand_as_read Covariant (Exact t) = omega arith
  hand_as_read Covariant (Out t) = omega arith
  hand_as_read Covariant (In t) = omega arith
  hand_as_read Covariant Star = omega arith
  hand_as_read Contravariant (Exact t) = omega arith
  hand_as_read Contravariant (Out t) = omega arith
  hand_as_read Contravariant (In t) = omega arith
  hand_as_read Contravariant Star = omega arith

  nest_as_read : (v : Variance) (a : Arg) → nest_read (read v a) ≤ nest_arg h v a
  nest_as_read Invariant (Exact t) = omega arith
  nest_as_read Invariant (Out t) = omega arith
  nest_as_read Invariant (In t) = omega arith
  nest_as_read Invariant Star = omega arith
  nest_as_read Covariant (Exact t) = omega arith
  nest_as_read Covariant (Out t) = omega arith
  nest_as_read Covariant (In t) = omega arith
  nest_as_read Covariant Star = omega arith
  nest_as_read Contravariant (Exact t) = omega arith
  nest_as_read Contravariant (Out t) = omega arith
  nest_as_read Contravariant (In t) = omega arith
  nest_as_read Contravariant Star = omega arith

  -- questions that go less deep, and those that go as deep at most and have a smaller type on the right, are settled
  abbrev Less_nest : ℕ → Type 0
  Less_nest m = (a b : Ty) → Formed h a → Formed h b → hand h a + nest h b < m → Ask h a b

  abbrev Less_size : ℕ → ℕ → Type 0
  Less_size m s = (a b : Ty) → Formed h a → Formed h b → hand h a + nest h b ≤ m → size b < s → Ask h a b

  abbrev Less_steps : ℕ → ℕ → ℕ → Type 0
  Less_steps m s r = (a b : Ty) → Formed h a → Formed h b → hand h a + nest h b ≤ m → size b ≤ s → steps a < r → Ask h a b

  module _ (m s : ℕ) (less_nest : Less_nest m) (less_size : Less_size m s) where
    one_settled : (top : Ty) (a b : Arg) → Loose h top → Arg_formed h a → Arg_formed h b → hand_read a + nest_read b ≤ m → size_arg b < s → Settled h (λ go. contains_with go top a b)
    one_settled top (Exact a) (Exact b) p k l n z =
        let f = hand_nest h a in
        both h (λ go. go a b) (λ go. go b a) (λ go more_of g e. g a b e) (λ go more_of g e. g b a e) (less_size a b k l (omega (arith, n, f)) z) (λ q. turned h valid ending a b k l q)
    one_settled top (Exact a) (Out b) p k l n z = let f = hand_nest h a in less_size a b k l (omega (arith, n, f)) z
    one_settled top (Exact a) (In b) p k l n z = let f = hand_nest h b in less_nest b a l k (omega (arith, n, f))
    one_settled top (Exact a) Star p k l n z = constant h true
    one_settled top (Out a) (Exact b) p k l n z = constant h false
    one_settled top (Out a) (Out b) p k l n z = less_size a b k l n z
    one_settled top (Out a) (In b) p k l n z = constant h false
    one_settled top (Out a) Star p k l n z = constant h true
    one_settled top (In a) (Exact b) p k l n z = constant h false
    one_settled top (In a) (Out b) p k l n z = loose_settled h valid ending.star_loose top b p
    one_settled top (In a) (In b) p k l n z = let f = hand_nest h b in less_nest b a l k (omega (arith, n, f))
    one_settled top (In a) Star p k l n z = constant h true
    one_settled top Star (Exact b) p k l n z = constant h false
    one_settled top Star (Out b) p k l n z = loose_settled h valid ending.star_loose top b p
    one_settled top Star (In b) p k l n z = constant h false
    one_settled top Star Star p k l n z = constant h true

    arg_settled : (v : Variance) (top : Ty) (a b : Arg) → Loose h top → Arg_formed h a → Arg_formed h b → hand_arg h v a + nest_arg h v b ≤ m → size_arg b < s → Settled h (λ go. contains_with go top (read v a) (read v b))
    arg_settled v top a b p k l n z =
        let f = hand_as_read v a in
        let g = nest_as_read v b in
        let q = size_as_read v b in
        one_settled top (read v a) (read v b) p (read_formed h v a k) (read_formed h v b l) (omega (arith, n, f, g)) (omega (arith, z, q))

    args_settled : (tops : HeadParam → Ty) (ps : List HeadParam) (us ys : Args) → ((p : HeadParam) → IsIn HeadParam p ps → Loose h (tops p)) → Args_formed h ps us → Args_formed h ps ys → hands h ps us + nests h ps ys ≤ m → sizes ys < s →
        Each_settled h tops ps us ys
    args_settled tops [] none none p k l n z = tt
    args_settled tops (q ∷ ps) (more a us) (more b ys) p k l n z = (
      arg_settled q.variance (tops q) a b (p q here) k.0 l.0 (omega (arith, n)) (omega (arith, z)),
      args_settled tops ps us ys (λ r i. p r (later i)) k.1 l.1 (omega (arith, n)) (omega (arith, z)),
    )
    args_settled tops [] (more a us) ys p k l n z = absurd k
    args_settled tops [] none (more b ys) p k l n z = absurd l
    args_settled tops (q ∷ ps) none ys p k l n z = absurd k
    args_settled tops (q ∷ ps) (more a us) none p k l n z = absurd l

    module _ (r : ℕ) (less_steps : Less_steps m s r) where
      super_settled : (c d : ℕ) (us ys : Args) → Formed h (Class c us) → Formed h (Class d ys) → hands h (h.params c) us + nests h (h.params d) ys ≤ m → suc (sizes ys) ≤ s → rank h valid c ≤ r →
          (t : Ty) → Supertype h c t → RanksBelow valid.acyclic.rank (rank h valid c) t → Ask h (up h (class_given h c us) t) (Class d ys)
      super_settled c d us ys k l n z le (Class e zs) st below =
          let gs : List Given = class_given h c us in
          let p = placed h valid st in
          let q = super_hand h valid.functions (variance_in (h.params c)) gs (hands h (h.params c) us) (rooms h (hands h (h.params c) us) (star_bound h c) (h.params c) us (low (hands h (h.params c) us) c) (omega arith)) e zs (ending.limited c (Class e zs) st) p.stand in
          less_steps (up h gs (Class e zs)) (Class d ys) (up_formed h gs (givens h valid c us k.1) (Class e zs) p.formed) l (omega (arith, n, q)) z (omega (arith, below, le))
      super_settled c d us ys k l n z le (Param x) st below = absurd below
      super_settled c d us ys k l n z le Nothing st below = absurd below
      super_settled c d us ys k l n z le (Nullable t) st below = absurd below

      classes_settled : (c : ℕ) (xs : Args) (d : ℕ) (ys : Args) → Formed h (Class c xs) → Formed h (Class d ys) → hands h (h.params c) xs + nests h (h.params d) ys ≤ m → suc (sizes ys) ≤ s → rank h valid c ≤ r → Ask h (Class c xs) (Class d ys)
      classes_settled c xs d ys k l n z le = class_settled h c xs d ys (λ us i.
          let f : Formed h (Class c us) = class_formed h valid c xs us k i in
          let q : hands h (h.params c) us ≤ hands h (h.params c) xs =
          chosen_hands h (hands h (h.params c) xs) (h.is_function c) (star_bound h c) (h.params c) xs us (low (hands h (h.params c) xs) c) (omega arith) i in (
            λ e. args_settled (star_bound h c) (h.params c) us ys (ending.star_loose c) f.1 (subst (λ x. Args_formed h (h.params x) ys) (sym e) l.1)
                (subst (λ x. hands h (h.params c) us + nests h (h.params x) ys ≤ m) (sym e) (omega (arith, n, q))) (omega (arith, z)),
            λ t j g. super_settled c d us ys f l (omega (arith, n, q)) z le t (above_only h c t j) (lower_there h valid c t j g),
          ))

      type_settled : (a b : Ty) → Formed h a → Formed h b → hand h a + nest h b ≤ m → size b ≤ s → steps a ≤ r → Ask h a b
      type_settled Nothing b k l n z le = asked h Nothing b (constant h true)
      type_settled (Param x) b k l n z le =
          let f = limited_hand h (h.bound_of x) (ending.bound_limited x) (valid.bounds x) in
          let g = bound_steps (ending.depth x) (h.bound_of x) (valid.bounds x) (ending.less_deep x) in
          asked h (Param x) b (either h (λ go. is_param x b) (λ go. go (h.bound_of x) b) (λ go more_of w e. e) (λ go more_of w e. w (h.bound_of x) b e) (constant h (is_param x b))
          (less_steps (h.bound_of x) b (valid.bounds x) l (omega (arith, n, f)) z (omega (arith, g, le))))
      type_settled (Nullable a) (Nullable b) k l n z le = asked h (Nullable a) (Nullable b) (less_steps a (Nullable b) k.1 l n z (omega (arith, le)))
      type_settled (Nullable a) (Class d ys) k l n z le = asked h (Nullable a) (Class d ys) (constant h false)
      type_settled (Nullable a) (Param y) k l n z le = asked h (Nullable a) (Param y) (constant h false)
      type_settled (Nullable a) Nothing k l n z le = asked h (Nullable a) Nothing (constant h false)
      type_settled (Class c xs) (Nullable b) k l n z le = asked h (Class c xs) (Nullable b) (less_size (Class c xs) b k l.1 n (omega (arith, z)))
      type_settled (Class c xs) (Class d ys) k l n z le = classes_settled c xs d ys k l n z le
      type_settled (Class c xs) (Param y) k l n z le = asked h (Class c xs) (Param y) (constant h false)
      type_settled (Class c xs) Nothing k l n z le = asked h (Class c xs) Nothing (constant h false)

    by_steps : (r : ℕ) → Less_steps m s r
    by_steps zero a b k l n z lt = absurd (omega (arith, lt))
    by_steps (suc r) a b k l n z lt = type_settled r (by_steps r) a b k l n z (omega (arith, lt))

  by_size : (m : ℕ) → Less_nest m → (s : ℕ) → Less_size m s
  by_size m f zero a b k l n lt = absurd (omega (arith, lt))
  by_size m f (suc s) a b k l n lt = by_steps m s f (by_size m f s) (suc (steps a)) a b k l n (omega (arith, lt)) (omega arith)

  by_nest : (m : ℕ) → Less_nest m
  by_nest zero a b k l lt = absurd (omega (arith, lt))
  by_nest (suc m) a b k l lt = by_size m (by_nest m) (suc (size b)) a b k l (omega (arith, lt)) (omega arith)

  settled : (a b : Ty) → Formed h a → Formed h b → Ask h a b
  settled a b k l = by_nest (suc (hand h a + nest h b)) a b k l (omega arith)

pub ends : QuestionsEnd
ends h valid ending a b k l = decided h a b (settled h valid ending a b k l)

pub sub_is_below : SubIsBelow
sub_is_below h valid ending a b k l d = let e = ends h valid ending a b k l in (e.0, (is_exact h valid a b k l e.0 e.1).0 d)

pub transitive : BelowIsTransitive
transitive h valid ending a b c ka kb kc n m p q = let e = ends h valid ending a c ka kc in (e.0, is_transitive h valid a b c ka kb kc n m p q e.0 e.1)
