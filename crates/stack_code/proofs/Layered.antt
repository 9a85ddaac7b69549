-- What a walk passes of tests, choices and loops.
use Rattle.std.proofs.Common.{append-nil, append_assoc, ◌≡◌, ℕ, ◌+◌, List, [], ◌∷◌, ◌++◌, Option, Some, None, Bool, true, false, refl, sym, ap, ◌∙◌, subst}
use Rattle.std.specs.Prelude.{◌&&◌, ◌||◌, not, pos, if◌then◌else◌}
use Rattle.std.proofs.lemmas.List.{drop-drop}
use Rattle.kc_core.specs.declared.tree.TypeTree.{TypeTree}
use Rattle.kc_core.specs.declared.tree.TypeTree.TheVariants as type_is
use Rattle.kc_core.specs.declared.tree.Local.{Local}
use Rattle.kc_core.specs.declared.tree.UnaryOp.{UnaryOp}
use Rattle.kc_core.specs.declared.tree.UnaryOp.TheVariants as unary
use Rattle.kc_core.specs.declared.tree.Native.{Native}
use Rattle.kc_core.specs.declared.tree.Native.TheVariants as native
use Rattle.kc_core.specs.declared.tree.Core.{Core}
use Rattle.kc_core.specs.declared.tree.Kind.{Kind, out-Kind}
use Rattle.kc_core.specs.declared.tree.Kind.TheOpen.{Kind-F}
use Rattle.kc_core.specs.declared.tree.Kind.TheFolds.{map-Kind}
use Rattle.kc_core.specs.Formed.{Assigned}
use Rattle.class_file.specs.declared.class.VType.{VType}
use Rattle.class_file.specs.declared.row.Test.{Test}
use Rattle.class_file.specs.Typing.{same}
use Rattle.stack_code.specs.declared.frames.Walk.{Walk}
use Rattle.stack_code.specs.declared.frames.Branch.{Branch}
use Rattle.stack_code.specs.declared.constants.Helper.TheVariants as helper
use Rattle.stack_code.specs.Code.{Operation, PushInt, Jump, JumpCompare, Call, bytes_of, bytes, kept, truth, testing, compared, negated, short, decided, two_bytes, two_ops, condition, condition_size, over, over_size, either_ops, body_size, returns, back, discards}
use Rattle.stack_code.specs.Frames.{Known, text_type, pushed, popped, in_line, kept_known, both, meeting, with_assigned, with_value, Traced, behind, testing_traced, truth_known, compared_traced, two_known, negated_traced, short_traced, held, condition_known, over_known, either_known, returns_known, traced_kind, traced_of}
use Rattle.stack_code.specs.Walking.{set_of, known_of, Moves, Walks, WalksOne, Does, DoesLine, DoesOne, DoesKind, DoesCompared, DoesEither, Tests, TestsKind, TestsCondition, LooksAtValue, PassesTruth, short_layer, minus_layer, native_layer, if_layer, if_else_layer, declare_layer, choice_layer, while_layer}
use Rattle.stack_code.proofs.Traces.{TracedKind, traced_of_kind, traced_opened}
use Rattle.stack_code.proofs.Passing.{off, walks_then, walks_next, moves_before, moves_after}

-- a test of such a node looks at its value
abbrev pub is_plain : Kind-F Kind Core → Bool
is_plain (Kind-F.NumCompare op a b) = false
is_plain (Kind-F.Equal a b) = false
is_plain (Kind-F.Not a) = false
is_plain (Kind-F.And a b) = false
is_plain (Kind-F.Or a b) = false
is_plain _ = true

plain_kind : (y : Kind-F Kind Core) → is_plain y ≡ true → (ty : TypeTree) → LooksAtValue (traced_kind (map-Kind Kind Core TracedKind Traced traced_of_kind traced_of y) ty)
plain_kind (Kind-F.IntLit n) p ty = record { exits = λ w. refl; passed = λ w. refl; jumped = λ w. refl; test = λ w n. refl; known_test = λ w k. refl }
plain_kind (Kind-F.StrLit t) p ty = record { exits = λ w. refl; passed = λ w. refl; jumped = λ w. refl; test = λ w n. refl; known_test = λ w k. refl }
plain_kind (Kind-F.BoolLit b) p ty = record { exits = λ w. refl; passed = λ w. refl; jumped = λ w. refl; test = λ w n. refl; known_test = λ w k. refl }
plain_kind (Kind-F.LocalRead x) p ty = record { exits = λ w. refl; passed = λ w. refl; jumped = λ w. refl; test = λ w n. refl; known_test = λ w k. refl }
plain_kind (Kind-F.LocalWrite x e) p ty = record { exits = λ w. refl; passed = λ w. refl; jumped = λ w. refl; test = λ w n. refl; known_test = λ w k. refl }
plain_kind (Kind-F.Declare x None) p ty = record { exits = λ w. refl; passed = λ w. refl; jumped = λ w. refl; test = λ w n. refl; known_test = λ w k. refl }
plain_kind (Kind-F.Declare x (Some e)) p ty = record { exits = λ w. refl; passed = λ w. refl; jumped = λ w. refl; test = λ w n. refl; known_test = λ w k. refl }
plain_kind (Kind-F.NumBinary op a b) p ty = record { exits = λ w. refl; passed = λ w. refl; jumped = λ w. refl; test = λ w n. refl; known_test = λ w k. refl }
plain_kind (Kind-F.NumUnary unary.Minus a) p ty = record { exits = λ w. refl; passed = λ w. refl; jumped = λ w. refl; test = λ w n. refl; known_test = λ w k. refl }
plain_kind (Kind-F.NumCompare op a b) p ty = absurd cc
plain_kind (Kind-F.Equal a b) p ty = absurd cc
plain_kind (Kind-F.Not a) p ty = absurd cc
plain_kind (Kind-F.And a b) p ty = absurd cc
plain_kind (Kind-F.Or a b) p ty = absurd cc
plain_kind (Kind-F.Concat es) p ty = record { exits = λ w. refl; passed = λ w. refl; jumped = λ w. refl; test = λ w n. refl; known_test = λ w k. refl }
plain_kind (Kind-F.CallNative native.ConsoleWrite es) p ty = record { exits = λ w. refl; passed = λ w. refl; jumped = λ w. refl; test = λ w n. refl; known_test = λ w k. refl }
plain_kind (Kind-F.Block es) p ty = record { exits = λ w. refl; passed = λ w. refl; jumped = λ w. refl; test = λ w n. refl; known_test = λ w k. refl }
plain_kind (Kind-F.If c a None) p ty = record { exits = λ w. refl; passed = λ w. refl; jumped = λ w. refl; test = λ w n. refl; known_test = λ w k. refl }
plain_kind (Kind-F.If c a (Some b)) p ty = record { exits = λ w. refl; passed = λ w. refl; jumped = λ w. refl; test = λ w n. refl; known_test = λ w k. refl }
plain_kind (Kind-F.While label c a) p ty = record { exits = λ w. refl; passed = λ w. refl; jumped = λ w. refl; test = λ w n. refl; known_test = λ w k. refl }

pub plain_node : (e : Core) (y : Kind-F Kind Core) → out-Kind e.kind ≡ y → is_plain y ≡ true → LooksAtValue (traced_of e)
plain_node e y is p = subst LooksAtValue (sym (traced_opened e y e.ty is refl)) (plain_kind y p e.ty)

module _ (locals : List Local) (entry : ℕ → Bool) where
  abbrev pub W : Bool → Walk → Walk → List Operation → List Known → Known → Type 0
  W l s t os ks k = Walks locals entry l s t os ks k

  pub one_on : (l : Bool) (s t u : Walk) (os : List Operation) (ks : List Known) (k : Known) (n : ℕ) → W l s t os ks k → WalksOne locals entry l t u n → (o : Operation) → bytes_of o ≡ n → W l s u (os ++ o ∷ []) (ks ++ k ∷ []) k
  one_on l s t u os ks k n v w o is = walks_next locals entry l s t u os (o ∷ []) ks (k ∷ []) k k v (subst (λ (m : Known). W l t u (o ∷ []) (m ∷ []) m) v.known (w o is))

  pub moved_on : (l : Bool) (s t u : Walk) (os : List Operation) (ks : List Known) (k : Known) (f : Known → Known) → W l s t os ks k → Moves t u (f (known_of t)) → W l s u os ks (f k)
  moved_on l s t u os ks k f v m = moves_after locals entry l s t u os ks k (f k) v (record { at = m.at; frames = m.frames; known = m.known ∙ ap f v.known })

  pub join_passed : (l : Bool) (s t1 t2 t3 t4 : Walk) → WalksOne locals entry l s t1 3 → Moves t1 t2 (off locals entry 1 (known_of t1)) → Moves t2 t3 (off locals entry 1 (known_of t2)) → Moves t3 t4 (with_value type_is.String (known_of t3).assigned (known_of t3)) → W l s t4 (Call helper.TextsConcat ∷ []) (known_of s ∷ []) (pushed text_type (popped 2 (known_of s)))
  join_passed l s t1 t2 t3 t4 w m2 m3 m4 =
      subst (λ (types : List VType). W l s t4 os ks (record { assigned = (known_of s).assigned; stack = text_type ∷ types })) (drop-drop 1 1 (known_of s).stack)
      (moved_on l s t3 t4 os ks (off locals entry 1 (off locals entry 1 (known_of s))) (λ k. with_value type_is.String k.assigned k)
      (moved_on l s t2 t3 os ks (off locals entry 1 (known_of s)) (off locals entry 1)
      (moved_on l s t1 t2 os ks (known_of s) (off locals entry 1) (w (Call helper.TextsConcat) refl) m2) m3) m4)
    where
      os : List Operation
      os = Call helper.TextsConcat ∷ []

      ks : List Known
      ks = known_of s ∷ []

  pub truth_passed : (l : Bool) (s t1 t2 t3 t4 t5 t6 t7 : Walk) (J P : Assigned) → WalksOne locals entry l s t1 1 → Moves t1 t2 (with_value type_is.Boolean (known_of t1).assigned (known_of t1)) → WalksOne locals entry l t2 t3 3 → Moves t3 t4 (off locals entry 1 (known_of t3)) → Moves t4 t5 (with_assigned J (known_of t4)) → P ≡ (known_of t4).assigned → WalksOne locals entry l t5 t6 1 → Moves t6 t7 (with_assigned (meeting true P (known_of t6).assigned) (known_of t6)) → PassesTruth locals entry l s t7 J
  truth_passed l s t1 t2 t3 t4 t5 t6 t7 J P w1 m2 w3 m4 m5 p w6 m7 =
      let a2 = moved_on l s t1 t2 _ _ (known_of s) (λ k. with_value type_is.Boolean k.assigned k) (w1 (PushInt (pos 1)) refl) m2 in
      let a3 = one_on l s t2 t3 _ _ _ 3 a2 w3 (Jump (pos 4)) refl in
      let a4 = moved_on l s t3 t4 _ _ _ (off locals entry 1) a3 m4 in
      let a5 = moved_on l s t4 t5 _ _ _ (with_assigned J) a4 m5 in
      let a6 = one_on l s t5 t6 _ _ _ 1 a5 w6 (PushInt (pos 0)) refl in
      let a7 = moved_on l s t6 t7 _ _ _ (λ k. with_assigned (both P k.assigned) k) a6 m7 in
      subst (λ (q : Assigned). W l s t7 truth (truth_known (known_of s) (with_assigned J (known_of s))) (with_assigned (both q J) (known_of s))) (p ∙ ap (λ (k : Known). k.assigned) a4.known) a7

  -- a test, and the value made of what it comes to
  pub tested_value : (ty : TypeTree) (nodes : ℕ) (goes : Bool) (size : Bool → ℕ) (test : Bool → ℕ → List Operation) (exits : Bool → Bool) (passed jumped : Bool → Assigned → Assigned) (known_test : Bool → Known → List Known) (l g : Bool) (s t u : Walk) (r : Branch) →
      Tests locals entry l s t (testing_traced (testing ty nodes goes size test) exits passed jumped known_test) false r → g ≡ r.goes → PassesTruth locals entry (l && r.goes) t u (set_of r.jumped.items) → Does locals entry l s u (testing_traced (testing ty nodes goes size test) exits passed jumped known_test) g
  tested_value ty nodes goes size test exits passed jumped known_test l g s t u r x e p = record {
    goes_is = e ∙ x.goes_is;
    walks = walks_then locals entry l goes s t u (test false 4) truth (known_test false K) (truth_known H (with_assigned J K)) H (with_assigned (both (passed false K.assigned) J) K) (x.walks 4)
        (subst (λ b. W (l && b) t u truth (truth_known H (with_assigned J K)) (with_assigned (both (passed false K.assigned) J) K)) x.goes_is
        (subst (λ (j : Assigned). W (l && r.goes) t u truth (truth_known H (with_assigned j K)) (with_assigned (both (passed false K.assigned) j) K)) x.jumped_is
        (subst (λ (k : Known). W (l && r.goes) t u truth (truth_known k (with_assigned (set_of r.jumped.items) k)) (with_assigned (both k.assigned (set_of r.jumped.items)) k)) (x.walks 4).known p)));
  }
    where
      K : Known
      K = known_of s

      H : Known
      H = with_assigned (passed false K.assigned) K

      J : Assigned
      J = jumped false K.assigned

  pub compared_does : (a b : Traced) (test : Bool → Test) (ty : TypeTree) (l g : Bool) (s t u : Walk) (r : Branch) → DoesCompared locals entry l s t a b r → g ≡ r.goes → PassesTruth locals entry (l && r.goes) t u (set_of r.jumped.items) → Does locals entry l s u (compared_traced (compared a.emitted b.emitted test ty) a b) g
  compared_does a b test ty l g s t u r x e p =
      tested_value ty (1 + a.emitted.nodes + b.emitted.nodes) (a.emitted.goes_on && b.emitted.goes_on) (λ w. two_bytes a.emitted b.emitted 3) (λ w n. two_ops a.emitted b.emitted (JumpCompare (test w) (n + 3) ∷ []))
      (λ w. a.emitted.goes_on && b.emitted.goes_on) (λ w s. b.after (a.after s)) (λ w s. b.after (a.after s)) (λ w. two_known a b) l g s t u r (x test ty false) e p

  pub negated_tests : (a : Traced) (ty : TypeTree) (when : Bool) (l : Bool) (s t : Walk) (r : Branch) → Tests locals entry l s t a (not when) r → Tests locals entry l s t (negated_traced (negated a.emitted ty) a) when r
  negated_tests a ty when l s t r x = record { goes_is = x.goes_is; exits_is = x.exits_is; jumped_is = x.jumped_is; walks = x.walks }

  pub negated_does : (a : Traced) (ty : TypeTree) (l g : Bool) (s t u : Walk) (r : Branch) → Tests locals entry l s t a true r → g ≡ r.goes → PassesTruth locals entry (l && r.goes) t u (set_of r.jumped.items) → Does locals entry l s u (negated_traced (negated a.emitted ty) a) g
  negated_does a ty l g s t u r x e p =
      tested_value ty (1 + a.emitted.nodes) a.emitted.goes_on (λ w. a.emitted.test_size (not w)) (λ w. a.emitted.test (not w)) (λ w. a.exits (not w)) (λ w. a.passed (not w)) (λ w. a.jumped (not w)) (λ w. a.known_test (not w)) l g s t u r (negated_tests a ty false l s t r x) e p

  pub short_does : (d : Bool) (a b : Traced) (ty : TypeTree) (l g : Bool) (s t u : Walk) (r : Branch) → Tests locals entry l s t (short_traced (short d a.emitted b.emitted ty) d a b) false r → g ≡ r.goes → PassesTruth locals entry (l && r.goes) t u (set_of r.jumped.items) → Does locals entry l s u (short_traced (short d a.emitted b.emitted ty) d a b) g
  short_does d a b ty l g s t u r x e p =
      tested_value ty (1 + a.emitted.nodes + b.emitted.nodes) a.emitted.goes_on (short d a.emitted b.emitted ty).test_size (short d a.emitted b.emitted ty).test
      (short_traced (short d a.emitted b.emitted ty) d a b).exits (short_traced (short d a.emitted b.emitted ty) d a b).passed (short_traced (short d a.emitted b.emitted ty) d a b).jumped (short_traced (short d a.emitted b.emitted ty) d a b).known_test l g s t u r x e p

  short_made : (d w : Bool) (a b : Traced) (ty : TypeTree) (l lf p q : Bool) (s t1 t2 t3 : Walk) (r1 r2 r : Branch) → Tests locals entry l s t1 a d r1 → lf ≡ (l && r1.goes) → Tests locals entry lf t1 t2 b w r2 →
      p ≡ (not (same w d) && r1.exits) → Moves t2 t3 (with_assigned (meeting p (set_of r1.jumped.items) (known_of t2).assigned) (known_of t2)) →
      r.goes ≡ r1.goes → r.exits ≡ ((same w d && r1.exits) || (r1.goes && r2.exits)) → q ≡ (same w d && r1.exits) → set_of r.jumped.items ≡ meeting q (set_of r1.jumped.items) (set_of r2.jumped.items) → Tests locals entry l s t3 (short_traced (short d a.emitted b.emitted ty) d a b) w r
  short_made d w a b ty l lf p q s t1 t2 t3 r1 r2 r x1 e x2 pe m g ex qe j = record {
    goes_is = g ∙ x1.goes_is;
    exits_is = ex ∙ ap (λ y. (same w d && y) || (r1.goes && r2.exits)) x1.exits_is ∙ ap (λ y. (same w d && a.exits d) || (y && r2.exits)) x1.goes_is ∙ ap (λ y. (same w d && a.exits d) || (a.emitted.goes_on && y)) x2.exits_is;
    jumped_is = j ∙ ap (λ y. meeting y (set_of r1.jumped.items) (set_of r2.jumped.items)) (qe ∙ ap (λ y. same w d && y) x1.exits_is)
        ∙ ap (λ (y : Assigned). meeting (same w d && a.exits d) y (set_of r2.jumped.items)) x1.jumped_is
        ∙ ap (λ (y : Assigned). meeting (same w d && a.exits d) (a.jumped d K.assigned) y) (x2.jumped_is ∙ ap (λ (k : Known). b.jumped w k.assigned) here);
    walks = λ n.
        subst (λ (y : Assigned). W l s t3 (a.emitted.test d (b.emitted.test_size w + decided d w n) ++ kept a.emitted.goes_on (b.emitted.test w n)) (a.known_test d K ++ kept_known a.emitted.goes_on (b.known_test w H)) (with_assigned y K)) meets
        (moves_after locals entry l s t2 t3 _ _ _ _ (walks_then locals entry l a.emitted.goes_on s t1 t2 _ (b.emitted.test w n) (a.known_test d K) (b.known_test w H) H B (x1.walks (b.emitted.test_size w + decided d w n)) (second n))
        (record { at = m.at; frames = m.frames; known = m.known ∙ ap (λ (k : Known). with_assigned (meeting p (set_of r1.jumped.items) k.assigned) k) (second n).known }));
  }
    where
      K : Known
      K = known_of s

      H : Known
      H = with_assigned (a.passed d K.assigned) K

      B : Known
      B = with_assigned (b.passed w H.assigned) H

      here : known_of t1 ≡ H
      here = (x1.walks 0).known

      second : (n : ℕ) → W (l && a.emitted.goes_on) t1 t2 (b.emitted.test w n) (b.known_test w H) B
      second n = subst (λ g. W (l && g) t1 t2 (b.emitted.test w n) (b.known_test w H) B) x1.goes_is (subst (λ g. W g t1 t2 (b.emitted.test w n) (b.known_test w H) B) e (subst (λ (k : Known). W lf t1 t2 (b.emitted.test w n) (b.known_test w k) (with_assigned (b.passed w k.assigned) k)) here (x2.walks n)))

      meets : meeting p (set_of r1.jumped.items) (b.passed w (a.passed d K.assigned)) ≡ meeting (not (same w d) && a.exits d) (a.jumped d K.assigned) (b.passed w (a.passed d K.assigned))
      meets = ap (λ y. meeting y (set_of r1.jumped.items) (b.passed w (a.passed d K.assigned))) (pe ∙ ap (λ y. not (same w d) && y) x1.exits_is) ∙ ap (λ (y : Assigned). meeting (not (same w d) && a.exits d) y (b.passed w (a.passed d K.assigned))) x1.jumped_is

  pub short_tests : (d w : Bool) (a b : Traced) (l lf p q : Bool) (s t1 t2 t3 : Walk) (r1 r2 r : Branch) → Tests locals entry l s t1 a d r1 → lf ≡ (l && r1.goes) → Tests locals entry lf t1 t2 b w r2 →
      p ≡ (not (same w d) && r1.exits) → Moves t2 t3 (with_assigned (meeting p (set_of r1.jumped.items) (known_of t2).assigned) (known_of t2)) →
      r.goes ≡ r1.goes → r.exits ≡ ((same w d && r1.exits) || (r1.goes && r2.exits)) → q ≡ (same w d && r1.exits) → set_of r.jumped.items ≡ meeting q (set_of r1.jumped.items) (set_of r2.jumped.items) → TestsKind locals entry l s t3 (short_layer d a b) w r
  short_tests true w a b l lf p q s t1 t2 t3 r1 r2 r x1 e x2 pe m g ex qe j ty = short_made true w a b ty l lf p q s t1 t2 t3 r1 r2 r x1 e x2 pe m g ex qe j
  short_tests false w a b l lf p q s t1 t2 t3 r1 r2 r x1 e x2 pe m g ex qe j ty = short_made false w a b ty l lf p q s t1 t2 t3 r1 r2 r x1 e x2 pe m g ex qe j

  -- ---- conditions

  pub condition_true : (l : Bool) (s : Walk) (c : Traced) (r : Branch) → c.emitted.always ≡ true → c.emitted.goes_on ≡ true → r.goes ≡ true → r.exits ≡ false → r.jumped.items ≡ s.assigned.items → Walks locals entry l s s [] [] (known_of s) → TestsCondition locals entry l s s c r
  condition_true l s c r always on g e j none = record {
    goes_is = g ∙ sym on;
    exits_is = e ∙ ap (λ b. not b && c.exits false) (sym always);
    jumped_is = ap set_of j ∙ ap (λ b. if b then (known_of s).assigned else c.jumped false (known_of s).assigned) (sym always);
    walks = λ n. subst (λ b. W l s s (if b then [] else c.emitted.test false n) (if b then [] else c.known_test false (known_of s)) (with_assigned (if b then (known_of s).assigned else c.passed false (known_of s).assigned) (known_of s))) (sym always) none;
  }

  pub condition_false : (l : Bool) (s t : Walk) (c : Traced) (r : Branch) → c.emitted.always ≡ false → Tests locals entry l s t c false r → TestsCondition locals entry l s t c r
  condition_false l s t c r not_always x = record {
    goes_is = x.goes_is;
    exits_is = x.exits_is ∙ ap (λ b. not b && c.exits false) (sym not_always);
    jumped_is = x.jumped_is ∙ ap (λ b. if b then (known_of s).assigned else c.jumped false (known_of s).assigned) (sym not_always);
    walks = λ n. subst (λ b. W l s t (if b then [] else c.emitted.test false n) (if b then [] else c.known_test false (known_of s)) (with_assigned (if b then (known_of s).assigned else c.passed false (known_of s).assigned) (known_of s))) (sym not_always) (x.walks n);
  }

  there_meets : (always e : Bool) (here jumped behind : Assigned) → meeting (not always && e) (if always then here else jumped) behind ≡ meeting (not always && e) jumped behind
  there_meets true e here jumped behind = refl
  there_meets false e here jumped behind = refl

  -- a child behind a condition
  held_then : (l lg : Bool) (s t1 t2 : Walk) (c a : Traced) (r : Branch) (os : List Operation) (ks : Known → List Known) (h : Assigned → Assigned) (n : ℕ) → TestsCondition locals entry l s t1 c r → lg ≡ (l && r.goes) → W lg t1 t2 os (ks (known_of t1)) (with_assigned (h (known_of t1).assigned) (known_of t1)) →
      W l s t2 (condition c.emitted n ++ kept c.emitted.goes_on os) (condition_known c (known_of s) ++ kept_known c.emitted.goes_on (ks (with_assigned (held c (known_of s).assigned) (known_of s)))) (with_assigned (h (held c (known_of s).assigned)) (known_of s))
  held_then l lg s t1 t2 c a r os ks h n x e w =
      walks_then locals entry l c.emitted.goes_on s t1 t2 (condition c.emitted n) os (condition_known c (known_of s)) (ks H) H (with_assigned (h H.assigned) H) (x.walks n)
      (subst (λ g. W (l && g) t1 t2 os (ks H) (with_assigned (h H.assigned) H)) x.goes_is (subst (λ g. W g t1 t2 os (ks H) (with_assigned (h H.assigned) H)) e (subst (λ (k : Known). W lg t1 t2 os (ks k) (with_assigned (h k.assigned) k)) (x.walks n).known w)))
    where
      H : Known
      H = with_assigned (held c (known_of s).assigned) (known_of s)

  pub if_does : (l lg g goes is : Bool) (s t1 t2 t3 : Walk) (c a : Traced) (r : Branch) → TestsCondition locals entry l s t1 c r → lg ≡ (l && r.goes) → Does locals entry lg t1 t2 a g → Moves t2 t3 (with_assigned (meeting r.exits (set_of r.jumped.items) (known_of t2).assigned) (known_of t2)) → is ≡ c.emitted.always → goes ≡ (if is then g else r.goes) → DoesKind locals entry l s t3 (if_layer c a) goes
  if_does l lg g goes is s t1 t2 t3 c a r x e d m always ge ty = record {
    goes_is = ge ∙ ap (λ b. if b then g else r.goes) always ∙ ap (λ b. if c.emitted.always then b else r.goes) d.goes_is ∙ ap (λ b. if c.emitted.always then a.emitted.goes_on else b) x.goes_is;
    walks =
        subst (λ (y : Assigned). W l s t3 (condition c.emitted a.emitted.size ++ kept c.emitted.goes_on a.emitted.code) (condition_known c K ++ kept_known c.emitted.goes_on (a.known (with_assigned (held c K.assigned) K))) (with_assigned y K)) meets
        (moved_on l s t2 t3 _ _ (with_assigned (a.after (held c K.assigned)) K) (λ k. with_assigned (meeting r.exits (set_of r.jumped.items) k.assigned) k) (held_then l lg s t1 t2 c a r a.emitted.code a.known a.after a.emitted.size x e d.walks) m);
  }
    where
      K : Known
      K = known_of s

      meets : meeting r.exits (set_of r.jumped.items) (a.after (held c K.assigned)) ≡ meeting (not c.emitted.always && c.exits false) (c.jumped false K.assigned) (a.after (held c K.assigned))
      meets =
          ap (λ y. meeting y (set_of r.jumped.items) (a.after (held c K.assigned))) x.exits_is
          ∙ ap (λ (y : Assigned). meeting (not c.emitted.always && c.exits false) y (a.after (held c K.assigned))) x.jumped_is
          ∙ there_meets c.emitted.always (c.exits false) K.assigned (c.jumped false K.assigned) (a.after (held c K.assigned))

  pub either_does : (l lg lg2 f g goes : Bool) (s t1 t2 t3 t4 t5 : Walk) (P : Assigned) (c a b : Traced) (r : Branch) → Tests locals entry l s t1 c false r → lg ≡ (l && r.goes) → DoesOne locals entry lg t1 t2 a 3 f → Moves t2 t3 (with_assigned (set_of r.jumped.items) (known_of t2)) → P ≡ (known_of t2).assigned → lg2 ≡ (l && r.goes) → Does locals entry lg2 t3 t4 b g →
      Moves t4 t5 (with_assigned (meeting f P (known_of t4).assigned) (known_of t4)) → goes ≡ (r.goes && (f || g)) → DoesEither locals entry l s t5 c a b goes
  either_does l lg lg2 f g goes s t1 t2 t3 t4 t5 P c a b r x e da m1 p e2 db m2 ge = record {
    goes_is = ge ∙ ap (λ y. y && (f || g)) x.goes_is ∙ ap (λ y. c.emitted.goes_on && (y || g)) (da (Jump (pos 3)) refl).goes_is ∙ ap (λ y. c.emitted.goes_on && (a.emitted.goes_on || y)) db.goes_is;
    walks = walks_then locals entry l c.emitted.goes_on s t1 t5 _ (a.emitted.code ++ (over a.emitted b.emitted.size ++ b.emitted.code)) _ (a.known H ++ (over_known a H ++ b.known I)) H (with_assigned (meeting a.emitted.goes_on (a.after H.assigned) (b.after I.assigned)) K) (x.walks (a.emitted.size + over_size a.emitted))
        (subst (λ y. W (l && y) t1 t5 (a.emitted.code ++ (over a.emitted b.emitted.size ++ b.emitted.code)) (a.known H ++ (over_known a H ++ b.known I)) (with_assigned (meeting a.emitted.goes_on (a.after H.assigned) (b.after I.assigned)) K)) x.goes_is ways);
  }
    where
      K : Known
      K = known_of s

      H : Known
      H = with_assigned (c.passed false K.assigned) K

      I : Known
      I = with_assigned (c.jumped false K.assigned) K

      L : Bool
      L = l && r.goes

      J : Operation
      J = Jump (pos (b.emitted.size + 3))

      here : known_of t1 ≡ H
      here = (x.walks 0).known

      first : W L t1 t2 (a.emitted.code ++ over a.emitted b.emitted.size) (a.known H ++ over_known a H) (with_assigned (a.after H.assigned) H)
      first = subst (λ y. W y t1 t2 (a.emitted.code ++ over a.emitted b.emitted.size) (a.known H ++ over_known a H) (with_assigned (a.after H.assigned) H)) e
          (subst (λ (k : Known). W lg t1 t2 (a.emitted.code ++ over a.emitted b.emitted.size) (a.known k ++ over_known a k) (with_assigned (a.after k.assigned) k)) here (da J refl).walks)

      there : known_of t3 ≡ I
      there = m1.known ∙ ap (λ (k : Known). with_assigned (set_of r.jumped.items) k) first.known ∙ ap (λ (y : Assigned). with_assigned y K) x.jumped_is

      second : W L t2 t4 b.emitted.code (b.known I) (with_assigned (b.after I.assigned) I)
      second = moves_before locals entry L t2 t3 t4 _ _ _ _ m1 (subst (λ y. W y t3 t4 b.emitted.code (b.known I) (with_assigned (b.after I.assigned) I)) e2 (subst (λ (k : Known). W lg2 t3 t4 b.emitted.code (b.known k) (with_assigned (b.after k.assigned) k)) there db.walks))

      joined : W L t1 t5 ((a.emitted.code ++ over a.emitted b.emitted.size) ++ b.emitted.code) ((a.known H ++ over_known a H) ++ b.known I) (with_assigned (meeting f P (b.after I.assigned)) K)
      joined = moved_on L t1 t4 t5 _ _ (with_assigned (b.after I.assigned) I) (λ k. with_assigned (meeting f P k.assigned) k) (walks_next locals entry L t1 t2 t4 _ _ _ _ _ _ first second) m2

      ways : W L t1 t5 (a.emitted.code ++ (over a.emitted b.emitted.size ++ b.emitted.code)) (a.known H ++ (over_known a H ++ b.known I)) (with_assigned (meeting a.emitted.goes_on (a.after H.assigned) (b.after I.assigned)) K)
      ways = subst (λ y. W L t1 t5 (a.emitted.code ++ (over a.emitted b.emitted.size ++ b.emitted.code)) (a.known H ++ (over_known a H ++ b.known I)) (with_assigned (meeting y (a.after H.assigned) (b.after I.assigned)) K)) (da J refl).goes_is
          (subst (λ (y : Assigned). W L t1 t5 (a.emitted.code ++ (over a.emitted b.emitted.size ++ b.emitted.code)) (a.known H ++ (over_known a H ++ b.known I)) (with_assigned (meeting f y (b.after I.assigned)) K)) (p ∙ ap (λ (k : Known). k.assigned) first.known)
          (subst (λ os. W L t1 t5 os (a.known H ++ (over_known a H ++ b.known I)) (with_assigned (meeting f P (b.after I.assigned)) K)) (append_assoc a.emitted.code (over a.emitted b.emitted.size) b.emitted.code)
          (subst (λ ks. W L t1 t5 ((a.emitted.code ++ over a.emitted b.emitted.size) ++ b.emitted.code) ks (with_assigned (meeting f P (b.after I.assigned)) K)) (append_assoc (a.known H) (over_known a H) (b.known I)) joined)))

  pub always_does : (l g : Bool) (s t : Walk) (c a b : Traced) → c.emitted.always ≡ true → Does locals entry l s t a g → DoesKind locals entry l s t (if_else_layer c a b) g
  always_does l g s t c a b always d ty = record {
    goes_is = d.goes_is ∙ ap (λ y. if y then a.emitted.goes_on else c.emitted.goes_on && (a.emitted.goes_on || b.emitted.goes_on)) (sym always);
    walks = subst (λ y. W l s t (if y then a.emitted.code else either_ops c.emitted a.emitted b.emitted) (if y then a.known K else either_known c a b K) (with_assigned (if y then a.after K.assigned else meeting a.emitted.goes_on (a.after (c.passed false K.assigned)) (b.after (c.jumped false K.assigned))) K)) (sym always) d.walks;
  }
    where
      K : Known
      K = known_of s

  pub sometimes_does : (l g : Bool) (s t : Walk) (c a b : Traced) → c.emitted.always ≡ false → DoesEither locals entry l s t c a b g → DoesKind locals entry l s t (if_else_layer c a b) g
  sometimes_does l g s t c a b always d ty = record {
    goes_is = d.goes_is ∙ ap (λ y. if y then a.emitted.goes_on else c.emitted.goes_on && (a.emitted.goes_on || b.emitted.goes_on)) (sym always);
    walks = subst (λ y. W l s t (if y then a.emitted.code else either_ops c.emitted a.emitted b.emitted) (if y then a.known K else either_known c a b K) (with_assigned (if y then a.after K.assigned else meeting a.emitted.goes_on (a.after (c.passed false K.assigned)) (b.after (c.jumped false K.assigned))) K)) (sym always) d.walks;
  }
    where
      K : Known
      K = known_of s

  regroup : (g : Bool) (a b d : List Operation) → (a ++ kept g b) ++ kept g d ≡ a ++ kept g (b ++ d)
  regroup true a b d = append_assoc a b d
  regroup false a b d = append-nil (a ++ [])

  regroup_known : (g : Bool) (a b d : List Known) → (a ++ kept_known g b) ++ kept_known g d ≡ a ++ kept_known g (b ++ d)
  regroup_known true a b d = append_assoc a b d
  regroup_known false a b d = append-nil (a ++ [])

  jump_line : (ty : TypeTree) (A : Assigned) (k : Known) → in_line (discards ty) (with_value ty A k) ++ with_assigned A k ∷ [] ≡ in_line (discards ty ++ Jump (pos 0) ∷ []) (with_value ty A k)
  jump_line type_is.Int A k = refl
  jump_line type_is.Boolean A k = refl
  jump_line type_is.String A k = refl
  jump_line type_is.Unit A k = refl

  -- a loop's body, and the jump back
  returned : (l lg g : Bool) (s t1 t2 : Walk) (a : Traced) (ty : TypeTree) (d : ℕ) → a.emitted.ty ≡ ty → DoesLine locals entry l s t1 a (discards ty) (in_line (discards ty)) g → lg ≡ (l && g) → WalksOne locals entry lg t1 t2 3 →
      W l s t2 (a.emitted.code ++ returns a.emitted d) (a.known (known_of s) ++ returns_known a (known_of s)) (with_assigned (a.after (known_of s).assigned) (known_of s))
  returned l lg g s t1 t2 a ty d is x e w =
      subst (λ os. W l s t2 os (a.known K ++ returns_known a K) M) (regroup a.emitted.goes_on a.emitted.code (discards a.emitted.ty) (Jump (back d) ∷ []))
      (subst (λ ks. W l s t2 ((a.emitted.code ++ kept a.emitted.goes_on (discards a.emitted.ty)) ++ kept a.emitted.goes_on (Jump (back d) ∷ [])) ks M)
      (regroup_known a.emitted.goes_on (a.known K) (in_line (discards a.emitted.ty) (behind a K)) (M ∷ []) ∙ ap (λ ks. a.known K ++ kept_known a.emitted.goes_on ks) (jump_line a.emitted.ty (a.after K.assigned) K))
      (walks_then locals entry l a.emitted.goes_on s t1 t2 _ (Jump (back d) ∷ []) _ (M ∷ []) M M first last))
    where
      K : Known
      K = known_of s

      M : Known
      M = with_assigned (a.after K.assigned) K

      first : W l s t1 (a.emitted.code ++ kept a.emitted.goes_on (discards a.emitted.ty)) (a.known K ++ kept_known a.emitted.goes_on (in_line (discards a.emitted.ty) (behind a K))) M
      first = subst (λ (v : TypeTree). W l s t1 (a.emitted.code ++ kept a.emitted.goes_on (discards v)) (a.known K ++ kept_known a.emitted.goes_on (in_line (discards v) (behind a K))) M) (sym is) x.walks

      last : W (l && a.emitted.goes_on) t1 t2 (Jump (back d) ∷ []) (M ∷ []) M
      last = subst (λ y. W (l && y) t1 t2 (Jump (back d) ∷ []) (M ∷ []) M) x.goes_is (subst (λ y. W y t1 t2 (Jump (back d) ∷ []) (M ∷ []) M) e (subst (λ (k : Known). W lg t1 t2 (Jump (back d) ∷ []) (k ∷ []) k) first.known (w (Jump (back d)) refl)))

  pub while_does : (l on lg g goes not_is : Bool) (s t1 t2 t3 t4 : Walk) (c a : Traced) (ty : TypeTree) (r : Branch) → TestsCondition locals entry l s t1 c r → on ≡ (l && r.goes) → a.emitted.ty ≡ ty → DoesLine locals entry on t1 t2 a (discards ty) (in_line (discards ty)) g → lg ≡ (on && g) → WalksOne locals entry lg t2 t3 3 →
      Moves t3 t4 (with_assigned (set_of r.jumped.items) (known_of t3)) → not_is ≡ not c.emitted.always → goes ≡ (r.goes && not_is) → DoesKind locals entry l s t4 (while_layer c a) goes
  while_does l on lg g goes not_is s t1 t2 t3 t4 c a ty r x e is d e2 w m ne ge any = record {
    goes_is = ge ∙ ap (λ y. r.goes && y) ne ∙ ap (λ y. y && not c.emitted.always) x.goes_is;
    walks =
        subst (λ (y : Assigned). W l s t4 (condition c.emitted (body_size a.emitted) ++ kept c.emitted.goes_on (a.emitted.code ++ returns a.emitted n)) (condition_known c K ++ kept_known c.emitted.goes_on (a.known (with_assigned (held c K.assigned) K) ++ returns_known a (with_assigned (held c K.assigned) K))) (with_assigned y K)) x.jumped_is
        (moved_on l s t3 t4 _ _ (with_assigned (a.after (held c K.assigned)) K) (with_assigned (set_of r.jumped.items))
        (held_then l on s t1 t3 c a r (a.emitted.code ++ returns a.emitted n) (λ k. a.known k ++ returns_known a k) a.after (body_size a.emitted) x e (returned on lg g t1 t2 t3 a ty n is d e2 w)) m);
  }
    where
      K : Known
      K = known_of s

      n : ℕ
      n = condition_size c.emitted + a.emitted.size + bytes (discards a.emitted.ty)

  -- ---- nodes

  pub node_does : (e : Core) (y : Kind-F Kind Core) (l g : Bool) (s t : Walk) → out-Kind e.kind ≡ y → DoesKind locals entry l s t (map-Kind Kind Core TracedKind Traced traced_of_kind traced_of y) g → Does locals entry l s t (traced_of e) g
  node_does e y l g s t is d = subst (λ (x : Traced). Does locals entry l s t x g) (sym (traced_opened e y e.ty is refl)) (d e.ty)

  pub node_tests : (e : Core) (y : Kind-F Kind Core) (l when : Bool) (s t : Walk) (r : Branch) → out-Kind e.kind ≡ y → TestsKind locals entry l s t (map-Kind Kind Core TracedKind Traced traced_of_kind traced_of y) when r → Tests locals entry l s t (traced_of e) when r
  node_tests e y l when s t r is d = subst (λ (x : Traced). Tests locals entry l s t x when r) (sym (traced_opened e y e.ty is refl)) (d e.ty)

  pub minus_any : (l g : Bool) (s t : Walk) (e : Traced) (op : UnaryOp) → DoesKind locals entry l s t (minus_layer e) g → DoesKind locals entry l s t (Kind-F.NumUnary op e) g
  minus_any l g s t e unary.Minus d = d

  pub native_any : (l g : Bool) (s t : Walk) (es : List Traced) (n : Native) → DoesKind locals entry l s t (native_layer es) g → DoesKind locals entry l s t (Kind-F.CallNative n es) g
  native_any l g s t es native.ConsoleWrite d = d

  pub declared_any : (l g : Bool) (s t : Walk) (x : ℕ) (o : Option Core) → DoesKind locals entry l s t (declare_layer x o) g → DoesKind locals entry l s t (map-Kind Kind Core TracedKind Traced traced_of_kind traced_of (Kind-F.Declare x o)) g
  declared_any l g s t x None d = d
  declared_any l g s t x (Some e) d = d

  pub choice_any : (l g : Bool) (s t : Walk) (c a : Core) (o : Option Core) → DoesKind locals entry l s t (choice_layer (traced_of c) (traced_of a) o) g → DoesKind locals entry l s t (map-Kind Kind Core TracedKind Traced traced_of_kind traced_of (Kind-F.If c a o)) g
  choice_any l g s t c a None d = d
  choice_any l g s t c a (Some b) d = d

  pub undeclared : (l : Bool) (s : Walk) (x : ℕ) → Walks locals entry l s s [] [] (known_of s) → DoesKind locals entry l s s (declare_layer x None) true
  undeclared l s x w ty = record { goes_is = refl; walks = record { even = w.even; at = w.at; frames = w.frames; known = w.known } }
