-- What is below a type: whether that is below it in turn is settled. The classes are the same then, or it isn't, and so on inside.
use Rattle.std.proofs.Common.{◌≡◌, ℕ, zero, suc, ◌≤◌, ◌+◌, Bool, true, false, List, [], ◌∷◌, refl, sym, subst, ⊎_elim, inl, inr, arith}
use Rattle.std.proofs.lemmas.Bool.{and_parts, or_cases}
use Rattle.kc_types.specs.Types.{Ty, Class, Param, Nothing, Nullable, Arg, Exact, Out, In, Star, Args, none, more, Variance, Invariant, Covariant, Contravariant, HeadParam, Heads, Given, up, up_args, star_bound, class_given}
use Rattle.kc_types.specs.Supertypes.{IsIn, here, later, RanksBelow}
use Rattle.kc_types.specs.Subtype.{read, contains_with, all_with, options, choices, choices_by, class_choices, is_anything, below}
use Rattle.kc_types.specs.Formed.{Formed, Arg_formed, Args_formed}
use Rattle.kc_types.specs.FormedSub.{ValidHeads}
use Rattle.kc_types.specs.Ending.{Loose, Ending}
use Rattle.kc_types.proofs.Sound.{made}
use Rattle.kc_types.proofs.Reflexive.{only_none, itself_in}
use Rattle.kc_types.proofs.Settled.{Yes, Settled, Ask, Holds, constant, both, asked, Each_settled, class_settled, Way_holds, class_holds}
use Rattle.kc_types.proofs.Sizes.{size, size_arg, sizes}
use Rattle.kc_types.proofs.Climbs.{rank, lower_there, at_most, refused, to_none}
use Rattle.kc_types.proofs.Loose.{object_loose, anything_loose, loose_settled, loose_above}

no : {A : Type 0} → false ≡ true → A
no e = absurd (cc)

module _ (h : Heads) (valid : ValidHeads h) (ending : Ending h) (m : ℕ) (turn : (a b : Ty) → Formed h a → Formed h b → size a + size b ≤ m → Holds h a b → Ask h b a) where
  -- ---- one argument: from a choice of the first, contained in the second, whether a choice of the second is contained in the first
  abbrev Contains : Ty → Arg → Arg → Type 0
  Contains top a b = Yes h (λ go. contains_with go top a b)

  abbrev Asks : Ty → Arg → Arg → Type 0
  Asks top a b = Settled h (λ go. contains_with go top a b)

  never : {A : Type 0} → Yes h (λ go. false) → A
  never s = no s.1

  -- from `out`, or from the bound in its place
  out_turned : (top x y : Ty) → Loose h top → Formed h x → Formed h y → size x + size y ≤ m → (u : Arg) → IsIn Arg u (Out x ∷ Out top ∷ []) → Contains top u (Out y) → Ask h y x
  out_turned top x y p k l le u here s = turn x y k l le s
  out_turned top x y p k l le u (later here) s = loose_settled h valid ending.star_loose y x (loose_above h valid ending.star_loose top y p s)
  out_turned top x y p k l le u (later (later i)) s = elim i [ ]

  no_exact : {A : Type 0} (top x y : Ty) (u : Arg) → IsIn Arg u (Out x ∷ Out top ∷ []) → Contains top u (Exact y) → A
  no_exact top x y u here s = never s
  no_exact top x y u (later here) s = never s
  no_exact top x y u (later (later i)) s = elim i [ ]

  in_no_exact : {A : Type 0} (top x y : Ty) (u : Arg) → IsIn Arg u (In x ∷ Out top ∷ []) → Contains top u (Exact y) → A
  in_no_exact top x y u here s = never s
  in_no_exact top x y u (later here) s = never s
  in_no_exact top x y u (later (later i)) s = elim i [ ]

  in_turned : (top x y : Ty) → Formed h x → Formed h y → size x + size y ≤ m → (u : Arg) → IsIn Arg u (In x ∷ Out top ∷ []) → Contains top u (In y) → Ask h x y
  in_turned top x y k l le u here s = turn y x l k (omega (arith, le)) s
  in_turned top x y k l le u (later here) s = never s
  in_turned top x y k l le u (later (later i)) s = elim i [ ]

  exact_turned : (top x y : Ty) (u : Arg) → IsIn Arg u (Exact x ∷ In x ∷ Out top ∷ []) → Contains top u (Exact y) → Asks top (Exact y) (Exact x)
  exact_turned top x y u here s = let q = and_parts (below s.0 h x y) (below s.0 h y x) s.1 in both h (λ go. go y x) (λ go. go x y) (λ go more_of f e. f y x e) (λ go more_of f e. f x y e) (inl (s.0, q.1)) (λ r. inl (s.0, q.0))
  exact_turned top x y u (later here) s = never s
  exact_turned top x y u (later (later here)) s = never s
  exact_turned top x y u (later (later (later i))) s = elim i [ ]

  -- of an invariant parameter: by what the choice of the second is
  to_exact : (top x : Ty) (y u w : Arg) → IsIn Arg u (options Invariant top (Exact x)) → IsIn Arg w (options Invariant top y) → Contains top u y → Asks top w (Exact x)
  to_exact top x (Exact y) u w i here s = exact_turned top x y u i s
  to_exact top x (Exact y) u w i (later here) s = constant h false
  to_exact top x (Exact y) u w i (later (later here)) s = constant h false
  to_exact top x (Exact y) u w i (later (later (later j))) s = elim j [ ]
  to_exact top x (Out y) u w i here s = constant h false
  to_exact top x (Out y) u w i (later here) s = constant h false
  to_exact top x (Out y) u w i (later (later j)) s = elim j [ ]
  to_exact top x (In y) u w i here s = constant h false
  to_exact top x (In y) u w i (later here) s = constant h false
  to_exact top x (In y) u w i (later (later j)) s = elim j [ ]
  to_exact top x Star u w i here s = constant h false
  to_exact top x Star u w i (later here) s = constant h false
  to_exact top x Star u w i (later (later j)) s = elim j [ ]

  to_out : (top x : Ty) (y u w : Arg) → Loose h top → Formed h x → Arg_formed h y → size x + size_arg y ≤ m → IsIn Arg u (options Invariant top (Out x)) → IsIn Arg w (options Invariant top y) → Contains top u y → Asks top w (Out x)
  to_out top x (Exact y) u w p k l le i j s = no_exact top x y u i s
  to_out top x (Out y) u w p k l le i here s = out_turned top x y p k l le u i s
  to_out top x (Out y) u w p k l le i (later here) s = loose_settled h valid ending.star_loose top x p
  to_out top x (Out y) u w p k l le i (later (later j)) s = elim j [ ]
  to_out top x (In y) u w p k l le i here s = loose_settled h valid ending.star_loose top x p
  to_out top x (In y) u w p k l le i (later here) s = loose_settled h valid ending.star_loose top x p
  to_out top x (In y) u w p k l le i (later (later j)) s = elim j [ ]
  to_out top x Star u w p k l le i here s = loose_settled h valid ending.star_loose top x p
  to_out top x Star u w p k l le i (later here) s = loose_settled h valid ending.star_loose top x p
  to_out top x Star u w p k l le i (later (later j)) s = elim j [ ]

  to_in : (top x : Ty) (y u w : Arg) → Formed h x → Arg_formed h y → size x + size_arg y ≤ m → IsIn Arg u (options Invariant top (In x)) → IsIn Arg w (options Invariant top y) → Contains top u y → Asks top w (In x)
  to_in top x (Exact y) u w k l le i j s = in_no_exact top x y u i s
  to_in top x (Out y) u w k l le i here s = constant h false
  to_in top x (Out y) u w k l le i (later here) s = constant h false
  to_in top x (Out y) u w k l le i (later (later j)) s = elim j [ ]
  to_in top x (In y) u w k l le i here s = in_turned top x y k l le u i s
  to_in top x (In y) u w k l le i (later here) s = constant h false
  to_in top x (In y) u w k l le i (later (later j)) s = elim j [ ]
  to_in top x Star u w k l le i here s = constant h false
  to_in top x Star u w k l le i (later here) s = constant h false
  to_in top x Star u w k l le i (later (later j)) s = elim j [ ]

  to_star : (top : Ty) (w : Arg) → Asks top w Star
  to_star top (Exact t) = constant h true
  to_star top (Out t) = constant h true
  to_star top (In t) = constant h true
  to_star top Star = constant h true

  invariant : (top : Ty) (x y u w : Arg) → Loose h top → Arg_formed h x → Arg_formed h y → size_arg x + size_arg y ≤ m → IsIn Arg u (options Invariant top x) → IsIn Arg w (options Invariant top y) → Contains top u y → Asks top w x
  invariant top (Exact x) y u w p k l le i j s = to_exact top x y u w i j s
  invariant top (Out x) y u w p k l le i j s = to_out top x y u w p k l le i j s
  invariant top (In x) y u w p k l le i j s = to_in top x y u w k l le i j s
  invariant top Star y u w p k l le i j s = to_star top w

  -- of an `out` parameter
  read_out : (top x : Ty) (y u w : Arg) → Loose h top → Formed h x → Arg_formed h y → size x + size_arg y ≤ m → (v : Arg) → v ≡ read Covariant u → IsIn Arg v (Out x ∷ Out top ∷ []) → IsIn Arg w (options Covariant top y) →
      Contains top (read Covariant u) (read Covariant y) → Asks top (read Covariant w) (Out x)
  read_out top x (Exact y) u w p k l le v e i here s = out_turned top x y p k l le v i (subst (λ z. Contains top z (Out y)) (sym e) s)
  read_out top x (Out y) u w p k l le v e i here s = out_turned top x y p k l le v i (subst (λ z. Contains top z (Out y)) (sym e) s)
  read_out top x (In y) u w p k l le v e i here s = loose_settled h valid ending.star_loose top x p
  read_out top x Star u w p k l le v e i here s = loose_settled h valid ending.star_loose top x p
  read_out top x y u w p k l le v e i (later here) s = loose_settled h valid ending.star_loose top x p
  read_out top x y u w p k l le v e i (later (later j)) s = elim j [ ]

  covariant : (top : Ty) (x y u w : Arg) → Loose h top → Arg_formed h x → Arg_formed h y → size_arg x + size_arg y ≤ m → IsIn Arg u (options Covariant top x) → IsIn Arg w (options Covariant top y) →
      Contains top (read Covariant u) (read Covariant y) → Asks top (read Covariant w) (read Covariant x)
  covariant top (Exact x) y u w p k l le here j s = read_out top x y (Exact x) w p k l le (Out x) refl here j s
  covariant top (Exact x) y u w p k l le (later here) j s = read_out top x y (Out top) w p k l le (Out top) refl (later here) j s
  covariant top (Exact x) y u w p k l le (later (later i)) j s = elim i [ ]
  covariant top (Out x) y u w p k l le here j s = read_out top x y (Out x) w p k l le (Out x) refl here j s
  covariant top (Out x) y u w p k l le (later here) j s = read_out top x y (Out top) w p k l le (Out top) refl (later here) j s
  covariant top (Out x) y u w p k l le (later (later i)) j s = elim i [ ]
  covariant top (In x) y u w p k l le i j s = to_star top (read Covariant w)
  covariant top Star y u w p k l le i j s = to_star top (read Covariant w)

  -- of an `in` parameter
  from_in : (top x : Ty) (y : Arg) → Formed h x → Arg_formed h y → size x + size_arg y ≤ m → Contains top (In x) (read Contravariant y) → Asks top (read Contravariant y) (In x)
  from_in top x (Exact y) k l le s = turn y x l k (omega (arith, le)) s
  from_in top x (Out y) k l le s = constant h false
  from_in top x (In y) k l le s = turn y x l k (omega (arith, le)) s
  from_in top x Star k l le s = constant h false

  contravariant : (top : Ty) (x y u w : Arg) → Arg_formed h x → Arg_formed h y → size_arg x + size_arg y ≤ m → IsIn Arg u (options Contravariant top x) → IsIn Arg w (options Contravariant top y) →
      Contains top (read Contravariant u) (read Contravariant y) → Asks top (read Contravariant w) (read Contravariant x)
  contravariant top (Exact x) y u w k l le here here s = from_in top x y k l le s
  contravariant top (Out x) y u w k l le here here s = to_star top (read Contravariant y)
  contravariant top (In x) y u w k l le here here s = from_in top x y k l le s
  contravariant top Star y u w k l le here here s = to_star top (read Contravariant y)
  contravariant top x y u w k l le (later i) j s = elim i [ ]
  contravariant top x y u w k l le here (later j) s = elim j [ ]

  one_turned : (v : Variance) (top : Ty) (x y u w : Arg) → Loose h top → Arg_formed h x → Arg_formed h y → size_arg x + size_arg y ≤ m → IsIn Arg u (options v top x) → IsIn Arg w (options v top y) →
      Contains top (read v u) (read v y) → Asks top (read v w) (read v x)
  one_turned Invariant top x y u w p k l le i j s = invariant top x y u w p k l le i j s
  one_turned Covariant top x y u w p k l le i j s = covariant top x y u w p k l le i j s
  one_turned Contravariant top x y u w p k l le i j s = contravariant top x y u w k l le i j s

  all_turned : (tops : HeadParam → Ty) (ps : List HeadParam) (xs ys us ws : Args) → ((p : HeadParam) → IsIn HeadParam p ps → Loose h (tops p)) → Args_formed h ps xs → Args_formed h ps ys → sizes xs + sizes ys ≤ m →
      IsIn Args us (choices tops ps xs) → IsIn Args ws (choices tops ps ys) → Yes h (λ go. all_with go tops ps us ys) → Each_settled h tops ps ws xs
  all_turned tops [] none none us ws p k l le i j s = subst (λ zs. Each_settled h tops [] zs none) (sym (only_none ws j)) tt
  all_turned tops (q ∷ ps) (more x xs) (more y ys) us ws p k l le i j s =
      let f = made (options q.variance (tops q) x) (choices tops ps xs) us i in
      let g = made (options q.variance (tops q) y) (choices tops ps ys) ws j in
      let e : all_with (below s.0 h) tops (q ∷ ps) (more f.a f.xs) (more y ys) ≡ true = subst (λ zs. all_with (below s.0 h) tops (q ∷ ps) zs (more y ys) ≡ true) f.is s.1 in
      let r = and_parts (contains_with (below s.0 h) (tops q) (read q.variance f.a) (read q.variance y)) (all_with (below s.0 h) tops ps f.xs ys) e in
      subst (λ zs. Each_settled h tops (q ∷ ps) zs (more x xs)) (sym g.is) (
        one_turned q.variance (tops q) x y f.a g.a (p q here) k.0 l.0 (omega (arith, le)) f.first_in g.first_in (s.0, r.0),
        all_turned tops ps xs ys f.xs g.xs (λ z n. p z (later n)) k.1 l.1 (omega (arith, le)) f.rest_in g.rest_in (s.0, r.1),
      )
  all_turned tops [] (more x xs) ys us ws p k l le i j s = absurd k
  all_turned tops [] none (more y ys) us ws p k l le i j s = absurd l
  all_turned tops (q ∷ ps) none ys us ws p k l le i j s = absurd k
  all_turned tops (q ∷ ps) (more x xs) none us ws p k l le i j s = absurd l

  -- ---- classes
  chosen_in : (f : Bool) (tops : HeadParam → Ty) (ps : List HeadParam) (xs us : Args) → Args_formed h ps xs → IsIn Args us (choices_by f tops ps xs) → IsIn Args us (choices tops ps xs)
  chosen_in true tops ps xs us k here = itself_in h tops ps xs k
  chosen_in true tops ps xs us k (later i) = elim i [ ]
  chosen_in false tops ps xs us k i = i

  refused_super : (c : ℕ) (xs : Args) (gs : List Given) (t : Ty) → RanksBelow valid.acyclic.rank (rank h valid c) t → Ask h (up h gs t) (Class c xs)
  refused_super c xs gs (Class e zs) low = refused h valid e (up_args h gs (h.is_function e) (h.params e) zs) c xs low
  refused_super c xs gs (Param x) low = absurd low
  refused_super c xs gs Nothing low = absurd low
  refused_super c xs gs (Nullable t) low = absurd low

  -- the second class ranks lower
  by_super : (c : ℕ) (xs : Args) (d : ℕ) (ys : Args) (gs : List Given) (t : Ty) → RanksBelow valid.acyclic.rank (rank h valid c) t → Holds h (up h gs t) (Class d ys) → Ask h (Class d ys) (Class c xs)
  by_super c xs d ys gs (Class e zs) low s = ⊎_elim
      (λ q. loose_settled h valid ending.star_loose (Class d ys) (Class c xs) (object_loose h valid d ys q.0 q.1))
      (λ q. refused h valid d ys c xs (omega (arith, q, low)))
      (at_most h valid e (up_args h gs (h.is_function e) (h.params e) zs) d ys s)
  by_super c xs d ys gs (Param x) low s = absurd low
  by_super c xs d ys gs Nothing low s = absurd low
  by_super c xs d ys gs (Nullable t) low s = absurd low

  same_class : (c : ℕ) (xs ys us : Args) → Formed h (Class c xs) → Formed h (Class c ys) → sizes xs + sizes ys ≤ m → IsIn Args us (class_choices h c xs) → Yes h (λ go. all_with go (star_bound h c) (h.params c) us ys) →
      Ask h (Class c ys) (Class c xs)
  same_class c xs ys us k l le i s = class_settled h c ys c xs (λ ws j. (
    λ e. all_turned (star_bound h c) (h.params c) xs ys us ws (ending.star_loose c) k.1 l.1 le (chosen_in (h.is_function c) (star_bound h c) (h.params c) xs us k.1 i)
        (chosen_in (h.is_function c) (star_bound h c) (h.params c) ys ws l.1 j) s,
    λ t n e. refused_super c xs (class_given h c ws) t (lower_there h valid c t n e),
  ))

  by_way : (c : ℕ) (xs : Args) (d : ℕ) (ys us : Args) → Formed h (Class c xs) → Formed h (Class d ys) → sizes xs + sizes ys ≤ m → IsIn Args us (class_choices h c xs) → Way_holds h c us d ys → Ask h (Class d ys) (Class c xs)
  by_way c xs d ys us k l le i (inl w) =
      subst (λ q. Ask h (Class q ys) (Class c xs)) w.0 (same_class c xs ys us k (subst (λ q. Formed h (Class q ys)) (sym w.0) l) le i w.1)
  by_way c xs d ys us k l le i (inr w) = by_super c xs d ys (class_given h c us) w.0 (lower_there h valid c w.0 w.1 w.2) w.3

  class_turned : (c : ℕ) (xs : Args) (d : ℕ) (ys : Args) → Formed h (Class c xs) → Formed h (Class d ys) → sizes xs + sizes ys ≤ m → Holds h (Class c xs) (Class d ys) → Ask h (Class d ys) (Class c xs)
  class_turned c xs d ys k l le s = ⊎_elim
      (λ q. loose_settled h valid ending.star_loose (Class d ys) (Class c xs) (object_loose h valid d ys q.0 q.1))
      (λ q. by_way c xs d ys q.args k l le q.there q.way)
      (class_holds h c xs d ys s)

  -- ---- types
  class_to : (n c : ℕ) (xs : Args) (b : Ty) → Formed h (Class c xs) → Formed h b → size (Class c xs) + size b ≤ suc m → below n h (Class c xs) b ≡ true → Ask h b (Class c xs)
  class_to zero c xs b k l le e = no e
  class_to (suc n) c xs (Class d ys) k l le e = class_turned c xs d ys k l (omega (arith, le)) (suc n, e)
  class_to (suc n) c xs (Param x) k l le e = no e
  class_to (suc n) c xs Nothing k l le e = no e
  class_to (suc n) c xs (Nullable b) k l le e = asked h (Nullable b) (Class c xs) (constant h false)

  -- behind both marks
  null_asked : (n c : ℕ) (xs : Args) (b : Ty) → Formed h (Class c xs) → Formed h (Nullable b) → size (Class c xs) + size b ≤ suc m → below n h (Class c xs) b ≡ true → Ask h b (Nullable (Class c xs))
  null_asked zero c xs b k l le e = no e
  null_asked (suc n) c xs (Class d ys) k l le e = asked h (Class d ys) (Nullable (Class c xs)) (class_turned c xs d ys k l.1 (omega (arith, le)) (suc n, e))
  null_asked (suc n) c xs (Param x) k l le e = no e
  null_asked (suc n) c xs Nothing k l le e = no e
  null_asked (suc n) c xs (Nullable b) k l le e = absurd l.0

  nulls_asked : (n c : ℕ) (xs : Args) (b : Ty) → Formed h (Class c xs) → Formed h (Nullable b) → size (Class c xs) + size b ≤ suc m → below n h (Class c xs) (Nullable b) ≡ true → Ask h (Nullable b) (Nullable (Class c xs))
  nulls_asked zero c xs b k l le e = no e
  nulls_asked (suc n) c xs b k l le e = ⊎_elim
      (λ q. loose_settled h valid ending.star_loose (Nullable b) (Nullable (Class c xs)) (anything_loose h valid (Nullable b) q))
      (λ q. asked h (Nullable b) (Nullable (Class c xs)) (null_asked n c xs b k l le q))
      (or_cases (is_anything h (Nullable b)) (below n h (Class c xs) b) e)

  null_to : (n c : ℕ) (xs : Args) (b : Ty) → Formed h (Class c xs) → Formed h b → size (Nullable (Class c xs)) + size b ≤ suc m → below n h (Nullable (Class c xs)) b ≡ true → Ask h b (Nullable (Class c xs))
  null_to zero c xs b k l le e = no e
  null_to (suc n) c xs (Class d ys) k l le e = no e
  null_to (suc n) c xs (Param x) k l le e = no e
  null_to (suc n) c xs Nothing k l le e = no e
  null_to (suc n) c xs (Nullable b) k l le e = ⊎_elim
      (λ q. loose_settled h valid ending.star_loose (Nullable b) (Nullable (Class c xs)) (anything_loose h valid (Nullable b) q))
      (λ q. nulls_asked n c xs b k l (omega (arith, le)) q)
      (or_cases (is_anything h (Nullable b)) (below n h (Class c xs) (Nullable b)) e)

  turned_next : (a b : Ty) → Formed h a → Formed h b → size a + size b ≤ suc m → Holds h a b → Ask h b a
  turned_next (Class c xs) b k l le s = class_to s.0 c xs b k l le s.1
  turned_next (Param x) b k l le s = to_none h valid ending b (Param x) tt
  turned_next Nothing b k l le s = to_none h valid ending b Nothing tt
  turned_next (Nullable (Class c xs)) b k l le s = null_to s.0 c xs b k.1 l le s.1
  turned_next (Nullable (Param x)) b k l le s = to_none h valid ending b (Nullable (Param x)) tt
  turned_next (Nullable Nothing) b k l le s = to_none h valid ending b (Nullable Nothing) tt
  turned_next (Nullable (Nullable t)) b k l le s = absurd k.0

module _ (h : Heads) (valid : ValidHeads h) (ending : Ending h) where
  positive : (a : Ty) → 1 ≤ size a
  positive (Class c xs) = omega arith
  positive (Param x) = omega arith
  positive Nothing = omega arith
  positive (Nullable t) = omega arith

  all_sizes : (m : ℕ) (a b : Ty) → Formed h a → Formed h b → size a + size b ≤ m → Holds h a b → Ask h b a
  all_sizes zero a b k l le s = absurd (omega (arith, le, positive a))
  all_sizes (suc m) a b k l le s = turned_next h valid ending m (all_sizes m) a b k l le s

  pub turned : (a b : Ty) → Formed h a → Formed h b → Holds h a b → Ask h b a
  turned a b k l s = all_sizes (size a + size b) a b k l (omega arith) s
