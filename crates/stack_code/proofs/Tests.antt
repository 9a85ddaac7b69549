-- Tests: both forms of their code do what they do.
use Rattle.std.proofs.Common.{◌≡◌, ℕ, suc, ◌+◌, ◌≤◌, List, [], ◌∷◌, ◌++◌, Option, Some, Bool, true, false, refl, sym, ap, ◌∙◌, subst, arith}
use Rattle.std.specs.Prelude.{ℤ, pos, not, ◌&&◌, if◌then◌else◌}
use Rattle.kc_core.specs.declared.tree.TypeTree.{TypeTree}
use Rattle.kc_core.specs.declared.tree.Span.{Span}
use Rattle.kc_core.specs.Values.{Value, Int, Boolean, Text, UnitValue, has_type}
use Rattle.kc_core.specs.Meaning.{State, Completion, Gives, Throws, Stops, Breaks, then_do, enter, checked, if_typed, on_int, on_boolean, either}
use Rattle.class_file.specs.declared.value.Value.{Value as Slot}
use Rattle.class_file.specs.declared.value.Value.TheVariants as slot
use Rattle.class_file.specs.declared.row.Test.{Test}
use Rattle.class_file.specs.declared.row.Test.TheVariants as test_is
use Rattle.class_file.specs.declared.class.Set.{Set}
use Rattle.class_file.specs.Natives.{Object}
use Rattle.class_file.specs.Machine.{Next, Over, Threw, on_from, holds}
use Rattle.stack_code.specs.Code.{Operation, PushInt, JumpIf, JumpCompare, bytes_of, bytes, bit, truth_test, truth, kept, kept_bytes, two_ops, two_bytes, Emitted, plain, testing, leaf, truth_code, compared, negated, decided, short}
use Rattle.stack_code.specs.Implements.{Held, Activation}
use Rattle.stack_code.proofs.Runs.{grows_none, Represents, represents_on, Typed, On, live, At, HasAt, has_front, has_back, written, kept_all, kept_size, both_on, Sized, factor, Rep, Reaches, reaches_on, reaches_weak, hangs_weak, Owed, RunTo, Run, run_to_on, run_weak, bind_to, evident, never, own, Prepared, Ready, Follows, Inside, with_check, entered, enters, lands, aim_of, Nothing, True, Tests, Sure, Acts}
use Rattle.stack_code.proofs.Steps.{push_int, jump, jump_if, jump_compare}
use Rattle.stack_code.proofs.Lists.{bytes_append}
use Rattle.stack_code.proofs.Single.{behind}

pub plain_sized : (ty : TypeTree) (size nodes : ℕ) (goes : Bool) (code : List Operation) → bytes code ≡ size → Sized (plain ty size nodes goes code)
plain_sized ty size nodes goes code e = record {
  whole = e;
  test = λ w n.
      let r = bytes_append code (kept goes (JumpIf (truth_test w) (n + 3) ∷ [])) in
      let k = kept_size goes (JumpIf (truth_test w) (n + 3) ∷ []) in
      omega (arith, r, e, k);
}

pub testing_sized : (ty : TypeTree) (nodes : ℕ) (goes : Bool) (test_size : Bool → ℕ) (test : Bool → ℕ → List Operation) → ((w : Bool) (n : ℕ) → bytes (test w n) ≡ test_size w) → Sized (testing ty nodes goes test_size test)
testing_sized ty nodes goes test_size test e = record {
  whole = let r = bytes_append (test false 4) (kept goes truth) in let q = e false 4 in let k = kept_size goes truth in omega (arith, r, q, k);
  test = e;
}

pub two_size : (a b : Emitted) (tail : List Operation) → Sized a → Sized b → bytes (two_ops a b tail) ≡ two_bytes a b (bytes tail)
two_size a b tail za zb =
    let r = bytes_append a.code (kept a.goes_on (b.code ++ kept b.goes_on tail)) in
    let k = kept_size a.goes_on (b.code ++ kept b.goes_on tail) in
    let e = ap (kept_bytes a.goes_on) (rest b.goes_on) in
    omega (arith, r, k, e, za.whole)
  where
    rest : (goes : Bool) → bytes (b.code ++ kept goes tail) ≡ b.size + kept_bytes goes (bytes tail)
    rest goes = let q = bytes_append b.code (kept goes tail) in let l = kept_size goes tail in omega (arith, q, l, zb.whole)

pub short_size : (k : Bool) (a b : Emitted) → Sized a → Sized b → (w : Bool) (n : ℕ) → bytes (a.test k (b.test_size w + decided k w n) ++ kept a.goes_on (b.test w n)) ≡ a.test_size k + kept_bytes a.goes_on (b.test_size w)
short_size k a b za zb w n =
    let r = bytes_append (a.test k (b.test_size w + decided k w n)) (kept a.goes_on (b.test w n)) in
    let p = za.test k (b.test_size w + decided k w n) in
    let l = kept_size a.goes_on (b.test w n) in
    let e = ap (kept_bytes a.goes_on) (zb.test w n) in
    omega (arith, r, p, l, e)

-- no value but a Boolean is given
abbrev pub GivesTruth : Completion → Type 0
GivesTruth (Gives (Int z) s) = ⊥
GivesTruth (Gives (Boolean b) s) = Unit {0}
GivesTruth (Gives (Text t) s) = ⊥
GivesTruth (Gives UnitValue s) = ⊥
GivesTruth (Throws x s) = Unit {0}
GivesTruth (Stops s) = Unit {0}
GivesTruth (Breaks at s) = Unit {0}

pub truth_then : (r : Completion) (go : Value → State → Completion) → ((v : Value) (s : State) → GivesTruth (go v s)) → GivesTruth (then_do r go)
truth_then (Gives v s) go h = h v s
truth_then (Throws x s) go h = tt
truth_then (Stops s) go h = tt
truth_then (Breaks at s) go h = tt

pub truth_int : (at : Span) (v : Value) (go : ℤ → State → Completion) (s : State) → ((z : ℤ) → GivesTruth (go z s)) → GivesTruth (on_int at v go s)
truth_int at (Int z) go s h = h z
truth_int at (Boolean b) go s h = tt
truth_int at (Text t) go s h = tt
truth_int at UnitValue go s h = tt

pub truth_boolean : (at : Span) (v : Value) (go : Bool → State → Completion) (s : State) → ((b : Bool) → GivesTruth (go b s)) → GivesTruth (on_boolean at v go s)
truth_boolean at (Int z) go s h = tt
truth_boolean at (Boolean b) go s h = h b
truth_boolean at (Text t) go s h = tt
truth_boolean at UnitValue go s h = tt

-- whether a test of one form goes on behind its end
abbrev pub same : Bool → Bool → Bool
same true b = b
same false b = not b

pub same_lands : (w b : Bool) (to end : ℕ) → (if same w b then to else end) ≡ lands w to end b
same_lands true true to end = refl
same_lands true false to end = refl
same_lands false true to end = refl
same_lands false false to end = refl

module _ (set : Set) (S : ℕ) where
  -- up to other names of the same places
  pub test_at : (o : Activation) (rep : Rep set S) (c : Next) (h : List Object) (u A B : ℕ) (ls : List Slot) (w : Bool) (to1 to end1 end : ℕ) (st : List Slot) (r : Completion) → to1 ≡ to → end1 ≡ end → RunTo set S o rep c h u A B ls (aim_of w to1 end1) st r → RunTo set S o rep c h u A B ls (aim_of w to end) st r
  test_at o rep c h u A B ls w to1 to end1 end st r e f g =
      subst (λ m. RunTo set S o rep c h u A B ls (aim_of w m end) st r) e (subst (λ m. RunTo set S o rep c h u A B ls (aim_of w to1 m) st r) f g)

  -- a jump by a Boolean on the stack
  branches : (o : Activation) (at : ℕ) (ls st : List Slot) (h : List Object) (s : State) (w b : Bool) (n : ℕ) → At set o at (JumpIf (truth_test w) (n + 3)) → on_from set 1 (live o at ls (slot.Int (bit b) ∷ st) h s) ≡ live o (lands w (at + 3 + n) (at + 3) b) ls st h s
  branches o at ls st h s true true n a = jump_if set o at ls st h s test_is.Ne (n + 3) (pos 1) true a refl ∙ ap (λ m. live o m ls st h s) (let e : at + (n + 3) ≡ at + 3 + n = omega arith in e)
  branches o at ls st h s true false n a = jump_if set o at ls st h s test_is.Ne (n + 3) (pos 0) false a refl
  branches o at ls st h s false true n a = jump_if set o at ls st h s test_is.Eq (n + 3) (pos 1) false a refl
  branches o at ls st h s false false n a = jump_if set o at ls st h s test_is.Eq (n + 3) (pos 0) true a refl ∙ ap (λ m. live o m ls st h s) (let e : at + (n + 3) ≡ at + 3 + n = omega arith in e)

  -- a value, and a jump by it
  plain_test_on : (o : Activation) (c : Next) (h : List Object) (u B at : ℕ) (ls st : List Slot) (ty : TypeTree) (w : Bool) (n : ℕ) → At set o at (JumpIf (truth_test w) (n + 3)) → (r : Completion) → Run set S o (Typed ty) c h u 0 B ls at st r → RunTo set S o Nothing c h u 1 B ls (aim_of w (at + 3 + n) (at + 3)) st r
  plain_test_on o c h u B at ls st ty w n a (Gives (Int z) s) r = tt
  plain_test_on o c h u B at ls st ty w n a (Gives (Boolean b) s) r =
      reaches_on set S c h u 1 B 0 B 3 0 ls s s (λ h' xs. Typed ty h' (Boolean b) xs) (λ h' xs. xs ≡ []) (λ ls' h' xs. live o at ls' (xs ++ st) h' s) (λ ls' h' xs. live o (lands w (at + 3 + n) (at + 3) b) ls' (xs ++ st) h' s) r (omega arith) (omega arith)
      (own set S 1 (live o at r.ls' (r.xs ++ st) r.h' s) r.h' 3 0 r.ls' r.ls' r.h' [] (λ h' xs. xs ≡ []) s (λ ls' h' xs. live o (lands w (at + 3 + n) (at + 3) b) ls' (xs ++ st) h' s) (omega arith)
      (ap (λ ys. on_from set 1 (live o at r.ls' (ys ++ st) r.h' s)) r.is.1 ∙ branches o at r.ls' st r.h' s w b n a) refl (grows_none r.h') r.held refl)
  plain_test_on o c h u B at ls st ty w n a (Gives (Text t) s) r = tt
  plain_test_on o c h u B at ls st ty w n a (Gives UnitValue s) r = tt
  plain_test_on o c h u B at ls st ty w n a (Throws x s) r = reaches_weak set S c h u 1 B 0 B ls s (λ h' xs. Unit {0}) (λ ls' h' xs. Over (Threw x.class x.message) s.out) (omega arith) (omega arith) r
  plain_test_on o c h u B at ls st ty w n a (Stops s) r = record { j = r.j; c' = r.c'; runs = r.runs; going = r.going; says = r.says; units = r.units; most = omega (arith, r.most); least = r.least }
  plain_test_on o c h u B at ls st ty w n a (Breaks span s) r = tt

  plain_test : (o : Activation) (c : Next) (h : List Object) (u B at : ℕ) (ls st : List Slot) (ty : TypeTree) (w : Bool) (n : ℕ) (goes : Bool) → HasAt set o at (kept goes (JumpIf (truth_test w) (n + 3) ∷ [])) → (r : Completion) → Run set S o (On goes (Typed ty)) c h u 0 B ls at st r → RunTo set S o (On goes Nothing) c h u 1 B ls (aim_of w (at + kept_bytes goes 3 + n) (at + kept_bytes goes 3)) st r
  plain_test o c h u B at ls st ty w n true a r run =
      evident set S o Nothing (aim_of w (at + 3 + n) (at + 3)) st c h u 1 B ls true refl r
      (plain_test_on o c h u B at ls st ty w n a.0 r (run_weak set S o (Typed ty) (On true (Typed ty)) (λ v. Some at) st c h u 0 B 0 B ls (omega arith) (omega arith) (λ h' v xs is. is.1) r run))
  plain_test o c h u B at ls st ty w n false a r run = never set S o (On false Nothing) (Typed ty) (aim_of w (at + 0 + n) (at + 0)) at st st c h u 1 B 0 B ls (omega arith) (omega arith) r run

  no_literal : false ≡ true → ⊥
  no_literal e = cc

  -- code that leaves its value, and with a jump by it behind
  pub plain_acts : (d : ℕ) (ty : TypeTree) (size nodes : ℕ) (goes : Bool) (code : List Operation) (f : State → Completion) → bytes code ≡ size → Follows set S d (plain ty size nodes goes code) f → Acts set S d (plain ty size nodes goes code) f
  plain_acts d ty size nodes goes code f e follows = record { value = follows; test = tests; sure = λ l. absurd (no_literal l) }
    where
      jump_by : Bool → ℕ → List Operation
      jump_by w n = kept goes (JumpIf (truth_test w) (n + 3) ∷ [])

      tests : Tests set S d (plain ty size nodes goes code) f
      tests w n s o at ls st h ready =
          test_at o (On goes Nothing) (live o at ls st h s) h s.units 1 nodes ls w (at + size + kept_bytes goes 3 + n) (at + (size + kept_bytes goes 3) + n) (at + size + kept_bytes goes 3) (at + (size + kept_bytes goes 3)) st (f s) (omega arith) (omega arith)
          (plain_test o (live o at ls st h s) h s.units nodes (at + size) ls st ty w n goes tail (f s) (follows s o at ls st h
          (record { deep = ready.deep; small = ready.small; code = has_front set o at code (jump_by w n) ready.code; held = ready.held; quiet = ready.quiet })))
        where
          tail : HasAt set o (at + size) (jump_by w n)
          tail = subst (λ m. HasAt set o (at + m) (jump_by w n)) e (has_back set o at code (jump_by w n) ready.code)

  -- the second form behind the node's own unit
  abbrev pub TestInside : ℕ → ℕ → Emitted → (State → Completion) → Type 0
  TestInside d b x g = (w : Bool) (n : ℕ) (s : State) (o : Activation) (at : ℕ) (ls st : List Slot) (h : List Object) → Prepared set S d x (x.test w n) s o at ls h → RunTo set S o (On x.goes_on Nothing) (live o at ls st h s) h s.units 12 b ls (aim_of w (at + x.test_size w + n) (at + x.test_size w)) st (g s)

  -- a test's value is checked against the node's type
  if_typed_test : (o : Activation) (rep : Rep set S) (c : Next) (h : List Object) (u A B : ℕ) (ls : List Slot) (aim : Value → Option ℕ) (st : List Slot) (span : Span) (v : Value) (s : State) (b : Bool) → RunTo set S o rep c h u A B ls aim st (Gives v s) → RunTo set S o rep c h u A B ls aim st (if_typed b span v s)
  if_typed_test o rep c h u A B ls aim st span v s true r = r
  if_typed_test o rep c h u A B ls aim st span v s false r = tt

  checked_test : (o : Activation) (rep : Rep set S) (c : Next) (h : List Object) (u A B : ℕ) (ls : List Slot) (aim : Value → Option ℕ) (st : List Slot) (span : Span) (ty : TypeTree) (r : Completion) → RunTo set S o rep c h u A B ls aim st r → RunTo set S o rep c h u A B ls aim st (then_do r (checked span ty))
  checked_test o rep c h u A B ls aim st span ty (Gives v s) r = if_typed_test o rep c h u A B ls aim st span v s (has_type v ty) r
  checked_test o rep c h u A B ls aim st span ty (Throws x s) r = r
  checked_test o rep c h u A B ls aim st span ty (Stops s) r = r
  checked_test o rep c h u A B ls aim st span ty (Breaks at s) r = r

  -- a test, and the value made of it
  valued_on : (o : Activation) (c : Next) (h : List Object) (u b at : ℕ) (ls st : List Slot) → HasAt set o at truth → (r : Completion) → GivesTruth r → RunTo set S o Nothing c h u 12 b ls (aim_of false (at + 4) at) st r → Run set S o Represents c h u factor b ls (at + 5) st r
  valued_on o c h u b at ls st code (Gives (Int z) s) t r = absurd t
  valued_on o c h u b at ls st code (Gives (Boolean true) s) t r =
      reaches_on set S c h u factor b 12 b 4 0 ls s s (λ h' xs. xs ≡ []) (λ h' xs. Represents h' (Boolean true) xs) (λ ls' h' xs. live o at ls' (xs ++ st) h' s) (λ ls' h' xs. live o (at + 5) ls' (xs ++ st) h' s) r (omega arith) (omega arith)
      (own set S 2 (live o at r.ls' (r.xs ++ st) r.h' s) r.h' 4 0 r.ls' r.ls' r.h' (slot.Int (pos 1) ∷ []) (λ h' xs. Represents h' (Boolean true) xs) s (λ ls' h' xs. live o (at + 5) ls' (xs ++ st) h' s) (omega arith)
      (ap (λ ys. on_from set 2 (live o at r.ls' (ys ++ st) r.h' s)) r.is ∙ ap (on_from set 1) (push_int set o at r.ls' st r.h' s (pos 1) code.0)
      ∙ jump set o (at + 1) r.ls' (slot.Int (pos 1) ∷ st) r.h' s (pos 4) (at + 5) code.1.0 (let e : at + 1 + 4 ≡ at + 5 = omega arith in e)) refl (grows_none r.h') r.held refl)
  valued_on o c h u b at ls st code (Gives (Boolean false) s) t r =
      reaches_on set S c h u factor b 12 b 4 0 ls s s (λ h' xs. xs ≡ []) (λ h' xs. Represents h' (Boolean false) xs) (λ ls' h' xs. live o (at + 4) ls' (xs ++ st) h' s) (λ ls' h' xs. live o (at + 5) ls' (xs ++ st) h' s) r (omega arith) (omega arith)
      (own set S 1 (live o (at + 4) r.ls' (r.xs ++ st) r.h' s) r.h' 4 0 r.ls' r.ls' r.h' (slot.Int (pos 0) ∷ []) (λ h' xs. Represents h' (Boolean false) xs) s (λ ls' h' xs. live o (at + 5) ls' (xs ++ st) h' s) (omega arith)
      (ap (λ ys. on_from set 1 (live o (at + 4) r.ls' (ys ++ st) r.h' s)) r.is ∙ ap (λ n. on_from set 1 (live o n r.ls' st r.h' s)) (let e : at + 4 ≡ at + 1 + 3 = omega arith in e)
      ∙ push_int set o (at + 1 + 3) r.ls' st r.h' s (pos 0) code.1.1.0 ∙ ap (λ n. live o n r.ls' (slot.Int (pos 0) ∷ st) r.h' s) (let e : at + 1 + 3 + 1 ≡ at + 5 = omega arith in e)) refl (grows_none r.h') r.held refl)
  valued_on o c h u b at ls st code (Gives (Text x) s) t r = absurd t
  valued_on o c h u b at ls st code (Gives UnitValue s) t r = absurd t
  valued_on o c h u b at ls st code (Throws x s) t r = reaches_weak set S c h u factor b 12 b ls s (λ h' xs. Unit {0}) (λ ls' h' xs. Over (Threw x.class x.message) s.out) (omega arith) (omega arith) r
  valued_on o c h u b at ls st code (Stops s) t r = record { j = r.j; c' = r.c'; runs = r.runs; going = r.going; says = r.says; units = r.units; most = omega (arith, r.most); least = r.least }
  valued_on o c h u b at ls st code (Breaks span s) t r = tt

  valued : (o : Activation) (c : Next) (h : List Object) (u b at : ℕ) (ls st : List Slot) (goes : Bool) → HasAt set o at (kept goes truth) → (r : Completion) → GivesTruth r → RunTo set S o (On goes Nothing) c h u 12 b ls (aim_of false (at + 4) at) st r → Run set S o (On goes Represents) c h u factor b ls (at + kept_bytes goes 5) st r
  valued o c h u b at ls st true code r t run =
      evident set S o Represents (λ v. Some (at + 5)) st c h u factor b ls true refl r
      (valued_on o c h u b at ls st code r t (run_weak set S o Nothing (On true Nothing) (aim_of false (at + 4) at) st c h u 12 b 12 b ls (omega arith) (omega arith) (λ h' v xs is. is.1) r run))
  valued o c h u b at ls st false code (Gives (Int z) s) t run = absurd t
  valued o c h u b at ls st false code (Gives (Boolean x) s) t run = absurd (no_literal run.is.0)
  valued o c h u b at ls st false code (Gives (Text x) s) t run = absurd t
  valued o c h u b at ls st false code (Gives UnitValue s) t run = absurd t
  valued o c h u b at ls st false code (Throws x s) t r = reaches_weak set S c h u factor b 12 b ls s (λ h' xs. Unit {0}) (λ ls' h' xs. Over (Threw x.class x.message) s.out) (omega arith) (omega arith) r
  valued o c h u b at ls st false code (Stops s) t r = hangs_weak set S c u factor b 12 b s (omega arith) (omega arith) r
  valued o c h u b at ls st false code (Breaks span s) t r = tt

  -- where the second form does what a node does, both forms do
  pub testing_acts : (d b : ℕ) (ty : TypeTree) (nodes : ℕ) (goes : Bool) (test_size : Bool → ℕ) (test : Bool → ℕ → List Operation) (span : Span) (g : State → Completion) → b + 1 ≤ nodes → ((w : Bool) (n : ℕ) → bytes (test w n) ≡ test_size w) → ((s : State) → GivesTruth (g s)) → TestInside d b (testing ty nodes goes test_size test) g → Acts set S (suc d) (testing ty nodes goes test_size test) (λ s. enter s.units s (λ s1. then_do (g s1) (checked span ty)))
  testing_acts d b ty nodes goes test_size test span g le sized truths inside = record { value = entered set S d b x _ le (with_check set S d b x span g values); test = tests; sure = λ l. absurd (no_literal l) }
    where
      x : Emitted
      x = testing ty nodes goes test_size test

      values : Inside set S d b x g
      values s o at ls st h ready =
          subst (λ m. Run set S o (On goes Represents) (live o at ls st h s) h s.units factor b ls m st (g s)) (let e : at + test_size false + kept_bytes goes 5 ≡ at + (test_size false + kept_bytes goes 5) = omega arith in e)
          (valued o (live o at ls st h s) h s.units b (at + test_size false) ls st goes
          (subst (λ m. HasAt set o (at + m) (kept goes truth)) (sized false 4) (has_back set o at (test false 4) (kept goes truth) ready.code)) (g s) (truths s)
          (inside false 4 s o at ls st h (record { deep = ready.deep; small = ready.small; code = has_front set o at (test false 4) (kept goes truth) ready.code; held = ready.held; quiet = ready.quiet })))

      tests : Tests set S (suc d) x (λ s. enter s.units s (λ s1. then_do (g s1) (checked span ty)))
      tests w n s o at ls st h ready =
          run_weak set S o (On goes Nothing) (On goes Nothing) aim st (live o at ls st h s) h s.units 1 nodes 0 nodes ls (omega arith) (omega arith) (λ h' v xs is. is) (enter s.units s (λ s1. then_do (g s1) (checked span ty)))
          (enters set S d b x (test w n) (On goes Nothing) (λ s1. then_do (g s1) (checked span ty)) le s o at ls st h aim
          (λ s1 r1. checked_test o (On goes Nothing) (live o at ls st h s1) h s1.units factor b ls aim st span ty (g s1)
          (run_weak set S o (On goes Nothing) (On goes Nothing) aim st (live o at ls st h s1) h s1.units factor b 12 b ls (omega arith) (omega arith) (λ h' v xs is. is) (g s1) (inside w n s1 o at ls st h r1))) ready)
        where
          aim : Value → Option ℕ
          aim = aim_of w (at + test_size w + n) (at + test_size w)

  -- NOT
  turned : (o : Activation) (c : Next) (h : List Object) (u B : ℕ) (ls st : List Slot) (goes w b : Bool) (to end : ℕ) (s : State) → Owed set S o (On goes Nothing) c h u 1 B ls (Some (lands (not w) to end b)) st (Boolean b) s → Owed set S o (On goes Nothing) c h u 12 B ls (Some (lands w to end (not b))) st (Boolean (not b)) s
  turned o c h u B ls st goes true true to end s r = reaches_weak set S c h u 12 B 1 B ls s (λ h' xs. (goes ≡ true) × (xs ≡ [])) (λ ls' h' xs. live o end ls' (xs ++ st) h' s) (omega arith) (omega arith) r
  turned o c h u B ls st goes true false to end s r = reaches_weak set S c h u 12 B 1 B ls s (λ h' xs. (goes ≡ true) × (xs ≡ [])) (λ ls' h' xs. live o to ls' (xs ++ st) h' s) (omega arith) (omega arith) r
  turned o c h u B ls st goes false true to end s r = reaches_weak set S c h u 12 B 1 B ls s (λ h' xs. (goes ≡ true) × (xs ≡ [])) (λ ls' h' xs. live o to ls' (xs ++ st) h' s) (omega arith) (omega arith) r
  turned o c h u B ls st goes false false to end s r = reaches_weak set S c h u 12 B 1 B ls s (λ h' xs. (goes ≡ true) × (xs ≡ [])) (λ ls' h' xs. live o end ls' (xs ++ st) h' s) (omega arith) (omega arith) r

  pub negated_acts : (d : ℕ) (ty : TypeTree) (span : Span) (a : Emitted) (fa : State → Completion) → Sized a → Acts set S d a fa → Acts set S (suc d) (negated a ty) (λ s. enter s.units s (λ s1. then_do (then_do (fa s1) (λ v. on_boolean span v (λ t. Gives (Boolean (not t))))) (checked span ty)))
  negated_acts d ty span a fa za ra =
      testing_acts d a.nodes ty (1 + a.nodes) a.goes_on (λ w. a.test_size (not w)) (λ w. a.test (not w)) span g (omega arith) (λ w n. za.test (not w) n)
      (λ s. truth_then (fa s) _ (λ v s1. truth_boolean span v _ s1 (λ b. tt))) inside
    where
      g : State → Completion
      g s = then_do (fa s) (λ v. on_boolean span v (λ t. Gives (Boolean (not t))))

      inside : TestInside d a.nodes (negated a ty) g
      inside w n s o at ls st h ready =
          bind_to set S o (On a.goes_on Nothing) (On a.goes_on Nothing) (aim_of (not w) to end) (aim_of w to end) st st c h s.units 12 a.nodes 1 a.nodes ls (omega arith) (omega arith) (λ v. on_boolean span v (λ t. Gives (Boolean (not t)))) last (fa s)
          (ra.test (not w) n s o at ls st h (record { deep = ready.deep; small = omega (arith, ready.small); code = ready.code; held = ready.held; quiet = ready.quiet }))
        where
          c : Next
          c = live o at ls st h s

          to : ℕ
          to = at + a.test_size (not w) + n

          end : ℕ
          end = at + a.test_size (not w)

          last : (v : Value) (s1 : State) → Owed set S o (On a.goes_on Nothing) c h s.units 1 a.nodes ls (aim_of (not w) to end v) st v s1 → RunTo set S o (On a.goes_on Nothing) c h s.units 12 a.nodes ls (aim_of w to end) st (on_boolean span v (λ t. Gives (Boolean (not t))) s1)
          last (Int z) s1 r = tt
          last (Boolean b) s1 r = turned o c h s.units a.nodes ls st a.goes_on w b to end s1 r
          last (Text t) s1 r = tt
          last UnitValue s1 r = tt

  -- COMPARISONS
  compare_tail : (span : Span) (w : Bool) (n : ℕ) (test : Bool → Test) (op : ℤ → ℤ → Bool) → ((w : Bool) (p q : ℤ) → holds (test w) p q ≡ same w (op p q)) → (x y : Value) (xs ys : List Slot) (s : State) (o : Activation) (at : ℕ) (ls st : List Slot) (h : List Object) → At set o at (JumpCompare (test w) (n + 3)) → Held h ls s.locals → Represents h x xs → Represents h y ys → RunTo set S o Nothing (live o at ls (ys ++ (xs ++ st)) h s) h s.units 16 0 ls (aim_of w (at + 3 + n) (at + 3)) st (on_int span x (λ p. on_int span y (λ q. Gives (Boolean (op p q)))) s)
  compare_tail span w n test op holds_so (Int p) (Int q) xs ys s o at ls st h code held isx isy =
      own set S 1 (live o at ls (ys ++ (xs ++ st)) h s) h 16 0 ls ls h [] (λ h' zs. zs ≡ []) s (λ ls' h' zs. live o (lands w (at + 3 + n) (at + 3) (op p q)) ls' (zs ++ st) h' s) (omega arith)
      (ap (λ zs. on_from set 1 (live o at ls zs h s)) (ap (λ zs. zs ++ (xs ++ st)) isy ∙ ap (λ zs. slot.Int q ∷ (zs ++ st)) isx)
      ∙ jump_compare set o at ls st h s (test w) (n + 3) p q (same w (op p q)) code (holds_so w p q)
      ∙ ap (λ m. live o (if same w (op p q) then m else at + 3) ls st h s) (let e : at + (n + 3) ≡ at + 3 + n = omega arith in e)
      ∙ ap (λ m. live o m ls st h s) (same_lands w (op p q) (at + 3 + n) (at + 3))) refl (grows_none h) held refl
  compare_tail span w n test op holds_so (Int p) (Boolean b) xs ys s o at ls st h code held isx isy = tt
  compare_tail span w n test op holds_so (Int p) (Text t) xs ys s o at ls st h code held isx isy = tt
  compare_tail span w n test op holds_so (Int p) UnitValue xs ys s o at ls st h code held isx isy = tt
  compare_tail span w n test op holds_so (Boolean b) y xs ys s o at ls st h code held isx isy = tt
  compare_tail span w n test op holds_so (Text t) y xs ys s o at ls st h code held isx isy = tt
  compare_tail span w n test op holds_so UnitValue y xs ys s o at ls st h code held isx isy = tt

  abbrev Two : Span → (ℤ → ℤ → Bool) → (State → Completion) → (State → Completion) → State → Completion
  Two span op fa fb s = then_do (fa s) (λ x s1. then_do (fb s1) (λ y. on_int span x (λ p. on_int span y (λ q. Gives (Boolean (op p q))))))

  pub compared_acts : (d : ℕ) (ty : TypeTree) (span : Span) (a b : Emitted) (test : Bool → Test) (op : ℤ → ℤ → Bool) (fa fb : State → Completion) → ((w : Bool) (p q : ℤ) → holds (test w) p q ≡ same w (op p q)) → Sized a → Sized b → Follows set S d a fa → Follows set S d b fb → Acts set S (suc d) (compared a b test ty) (λ s. enter s.units s (λ s1. then_do (Two span op fa fb s1) (checked span ty)))
  compared_acts d ty span a b test op fa fb holds_so za zb ra rb =
      testing_acts d (a.nodes + b.nodes) ty (1 + a.nodes + b.nodes) (a.goes_on && b.goes_on) (λ w. two_bytes a b 3) (λ w n. two_ops a b (JumpCompare (test w) (n + 3) ∷ [])) span (Two span op fa fb) (omega arith) sizes
      (λ s. truth_then (fa s) _ (λ x s1. truth_then (fb s1) _ (λ y s2. truth_int span x _ s2 (λ p. truth_int span y _ s2 (λ q. tt))))) inside
    where
      sizes : (w : Bool) (n : ℕ) → bytes (two_ops a b (JumpCompare (test w) (n + 3) ∷ [])) ≡ two_bytes a b 3
      sizes w n = two_size a b (JumpCompare (test w) (n + 3) ∷ []) za zb

      inside : TestInside d (a.nodes + b.nodes) (compared a b test ty) (Two span op fa fb)
      inside w n s o at ls st h ready =
          bind_to set S o (On a.goes_on (Typed a.ty)) (On both Nothing) (λ v. Some (at + a.size)) aim st st c h s.units 12 (a.nodes + b.nodes) 0 a.nodes ls (omega arith) (omega arith) (λ x s1. then_do (fb s1) (then' x)) second (fa s) (ra s o at ls st h ready_a)
        where
          both : Bool
          both = a.goes_on && b.goes_on

          tail : List Operation
          tail = JumpCompare (test w) (n + 3) ∷ []

          c : Next
          c = live o at ls st h s

          to : ℕ
          to = at + two_bytes a b 3 + n

          end : ℕ
          end = at + two_bytes a b 3

          aim : Value → Option ℕ
          aim = aim_of w to end

          then' : Value → Value → State → Completion
          then' x y = on_int span x (λ p. on_int span y (λ q. Gives (Boolean (op p q))))

          ready_a : Ready set S d a s o at ls h
          ready_a = record { deep = ready.deep; small = omega (arith, ready.small); code = has_front set o at a.code _ ready.code; held = ready.held; quiet = ready.quiet }

          second : (x : Value) (s1 : State) → Reaches set S c h s.units 0 a.nodes ls (λ h' xs. On a.goes_on (Typed a.ty) h' x xs) s1 (λ ls' h' xs. live o (at + a.size) ls' (xs ++ st) h' s1) → RunTo set S o (On both Nothing) c h s.units 12 (a.nodes + b.nodes) ls aim st (then_do (fb s1) (then' x))
          second x s1 g =
              run_to_on set S o (On both Nothing) aim st c h s.units 12 (a.nodes + b.nodes) 0 a.nodes 14 b.nodes ls s1 (λ h' xs. On a.goes_on (Typed a.ty) h' x xs) (λ ls' h' xs. live o (at + a.size) ls' (xs ++ st) h' s1) g (omega arith) (omega arith) (then_do (fb s1) (then' x))
              (bind_to set S o (On b.goes_on (Typed b.ty)) (On both Nothing) (λ v. Some (at + a.size + b.size)) aim (g.xs ++ st) st c1 g.h' s1.units 14 b.nodes 0 b.nodes g.ls' (omega arith) (omega arith) (then' x) last (fb s1) (rb s1 o (at + a.size) g.ls' (g.xs ++ st) g.h' ready_b))
            where
              c1 : Next
              c1 = live o (at + a.size) g.ls' (g.xs ++ st) g.h' s1

              at_b : HasAt set o (at + a.size) (b.code ++ kept b.goes_on tail)
              at_b = written set o (at + a.size) a.goes_on (b.code ++ kept b.goes_on tail) g.is.0 (behind set o a za at (kept a.goes_on (b.code ++ kept b.goes_on tail)) ready.code)

              ready_b : Ready set S d b s1 o (at + a.size) g.ls' g.h'
              ready_b = record { deep = omega (arith, g.units, ready.deep); small = omega (arith, ready.small); code = has_front set o (at + a.size) b.code (kept b.goes_on tail) at_b; held = g.held; quiet = ready.quiet }

              last : (y : Value) (s2 : State) → Reaches set S c1 g.h' s1.units 0 b.nodes g.ls' (λ h' ys. On b.goes_on (Typed b.ty) h' y ys) s2 (λ ls' h' ys. live o (at + a.size + b.size) ls' (ys ++ (g.xs ++ st)) h' s2) → RunTo set S o (On both Nothing) c1 g.h' s1.units 14 b.nodes g.ls' aim st (then' x y s2)
              last y s2 g2 =
                  let e = kept_all a.goes_on (b.size + kept_bytes b.goes_on 3) g.is.0 in
                  let f = kept_all b.goes_on 3 g2.is.0 in
                  evident set S o Nothing aim st c1 g.h' s1.units 14 b.nodes g.ls' both (both_on a.goes_on b.goes_on g.is.0 g2.is.0) (then' x y s2)
                  (run_to_on set S o Nothing aim st c1 g.h' s1.units 14 b.nodes 0 b.nodes 16 0 g.ls' s2 (λ h' ys. On b.goes_on (Typed b.ty) h' y ys) (λ ls' h' ys. live o (at + a.size + b.size) ls' (ys ++ (g.xs ++ st)) h' s2) g2 (omega arith) (omega arith) (then' x y s2)
                  (test_at o Nothing (live o (at + a.size + b.size) g2.ls' (g2.xs ++ (g.xs ++ st)) g2.h' s2) g2.h' s2.units 16 0 g2.ls' w (at + a.size + b.size + 3 + n) to (at + a.size + b.size + 3) end st (then' x y s2) (omega (arith, e, f)) (omega (arith, e, f))
                  (compare_tail span w n test op holds_so x y g.xs g2.xs s2 o (at + a.size + b.size) g2.ls' st g2.h' (written set o (at + a.size + b.size) b.goes_on tail g2.is.0 (behind set o b zb (at + a.size) (kept b.goes_on tail) at_b)).0 g2.held (represents_on g.h' g2.h' x g.xs g2.grows g.is.1.1) g2.is.1.1)))

  -- AND, OR
  abbrev pub Sides : Span → Bool → (State → Completion) → (State → Completion) → State → Completion
  Sides span false fa fb s = then_do (fa s) (λ v. on_boolean span v (λ t. either t (λ s1. then_do (fb s1) (λ v. on_boolean span v (λ t. Gives (Boolean t)))) (Gives (Boolean false))))
  Sides span true fa fb s = then_do (fa s) (λ v. on_boolean span v (λ t. either t (Gives (Boolean true)) (λ s1. then_do (fb s1) (λ v. on_boolean span v (λ t. Gives (Boolean t))))))

  truth_either : (t : Bool) (f g : State → Completion) (s : State) → GivesTruth (f s) → GivesTruth (g s) → GivesTruth (either t f g s)
  truth_either true f g s a b = a
  truth_either false f g s a b = b

  sides_truth : (span : Span) (k : Bool) (fa fb : State → Completion) (s : State) → GivesTruth (Sides span k fa fb s)
  sides_truth span false fa fb s = truth_then (fa s) _ (λ v s1. truth_boolean span v _ s1 (λ t. truth_either t _ _ s1 (truth_then (fb s1) _ (λ u s2. truth_boolean span u _ s2 (λ b. tt))) tt))
  sides_truth span true fa fb s = truth_then (fa s) _ (λ v s1. truth_boolean span v _ s1 (λ t. truth_either t _ _ s1 tt (truth_then (fb s1) _ (λ u s2. truth_boolean span u _ s2 (λ b. tt)))))

  -- the first side decides: where it goes on
  decides : (k w : Bool) (n at first second : ℕ) → at + first + (second + decided k w n) ≡ lands w (at + (first + second) + n) (at + (first + second)) k
  decides true true n at first second = omega arith
  decides true false n at first second = omega arith
  decides false true n at first second = omega arith
  decides false false n at first second = omega arith

  decides_on : (goes k w : Bool) (n at first second : ℕ) → goes ≡ true → at + first + (second + decided k w n) ≡ lands w (at + (first + kept_bytes goes second) + n) (at + (first + kept_bytes goes second)) k
  decides_on goes k w n at first second e = subst (λ m. at + first + (second + decided k w n) ≡ lands w (at + (first + m) + n) (at + (first + m)) k) (sym (kept_all goes second e)) (decides k w n at first second)

  pub short_acts : (d : ℕ) (ty : TypeTree) (span : Span) (k : Bool) (a b : Emitted) (fa fb : State → Completion) → Sized a → Sized b → Acts set S d a fa → Acts set S d b fb → Acts set S (suc d) (short k a b ty) (λ s. enter s.units s (λ s1. then_do (Sides span k fa fb s1) (checked span ty)))
  short_acts d ty span k a b fa fb za zb ra rb =
      testing_acts d (a.nodes + b.nodes) ty (1 + a.nodes + b.nodes) a.goes_on (λ w. a.test_size k + kept_bytes a.goes_on (b.test_size w)) (λ w n. a.test k (b.test_size w + decided k w n) ++ kept a.goes_on (b.test w n)) span (Sides span k fa fb) (omega arith)
      (λ w n. short_size k a b za zb w n) (sides_truth span k fa fb) inside
    where
      inside : TestInside d (a.nodes + b.nodes) (short k a b ty) (Sides span k fa fb)
      inside w n s o at ls st h ready = by_side k refl
        where
          rep : Rep set S
          rep = On a.goes_on Nothing

          more : ℕ
          more = b.test_size w + decided k w n

          c : Next
          c = live o at ls st h s

          to : ℕ
          to = at + (a.test_size k + kept_bytes a.goes_on (b.test_size w)) + n

          end : ℕ
          end = at + (a.test_size k + kept_bytes a.goes_on (b.test_size w))

          aim : Value → Option ℕ
          aim = aim_of w to end

          code_b : HasAt set o (at + a.test_size k) (kept a.goes_on (b.test w n))
          code_b = subst (λ m. HasAt set o (at + m) (kept a.goes_on (b.test w n))) (za.test k more) (has_back set o at (a.test k more) (kept a.goes_on (b.test w n)) ready.code)

          first : RunTo set S o rep c h s.units 1 a.nodes ls (aim_of k (at + a.test_size k + more) (at + a.test_size k)) st (fa s)
          first = ra.test k more s o at ls st h (record { deep = ready.deep; small = omega (arith, ready.small); code = has_front set o at (a.test k more) (kept a.goes_on (b.test w n)) ready.code; held = ready.held; quiet = ready.quiet })

          -- the first side is k
          decided_run : (s1 : State) → Owed set S o rep c h s.units 1 a.nodes ls (Some (at + a.test_size k + more)) st (Boolean k) s1 → RunTo set S o rep c h s.units 12 (a.nodes + b.nodes) ls aim st (Gives (Boolean k) s1)
          decided_run s1 r =
              subst (λ m. Owed set S o rep c h s.units 12 (a.nodes + b.nodes) ls (Some m) st (Boolean k) s1) (decides_on a.goes_on k w n at (a.test_size k) (b.test_size w) r.is.0)
              (reaches_weak set S c h s.units 12 (a.nodes + b.nodes) 1 a.nodes ls s1 (λ h' xs. (a.goes_on ≡ true) × (xs ≡ [])) (λ ls' h' xs. live o (at + a.test_size k + more) ls' (xs ++ st) h' s1) (omega arith) (omega arith) r)

          turn : (v : Value) (s2 : State) (c1 : Next) (h1 : List Object) (ls1 : List Slot) (u : ℕ) → a.goes_on ≡ true → Owed set S o (On b.goes_on Nothing) c1 h1 u 1 b.nodes ls1 (aim v) st v s2 → RunTo set S o rep c1 h1 u 13 b.nodes ls1 aim st (on_boolean span v (λ t. Gives (Boolean t)) s2)
          turn (Int z) s2 c1 h1 ls1 u e r = tt
          turn (Boolean t) s2 c1 h1 ls1 u e r = run_weak set S o rep (On b.goes_on Nothing) aim st c1 h1 u 13 b.nodes 1 b.nodes ls1 (omega arith) (omega arith) (λ h' v xs is. (e, is.1)) (Gives (Boolean t) s2) r
          turn (Text t) s2 c1 h1 ls1 u e r = tt
          turn UnitValue s2 c1 h1 ls1 u e r = tt

          -- the first side is not k
          second_run : (s1 : State) (t : Bool) → Owed set S o rep c h s.units 1 a.nodes ls (Some (at + a.test_size k)) st (Boolean t) s1 → RunTo set S o rep c h s.units 12 (a.nodes + b.nodes) ls aim st (then_do (fb s1) (λ v. on_boolean span v (λ t. Gives (Boolean t))))
          second_run s1 t g =
              let f = kept_all a.goes_on (b.test_size w) g.is.0 in
              run_to_on set S o rep aim st c h s.units 12 (a.nodes + b.nodes) 1 a.nodes 13 b.nodes ls s1 (λ h' xs. (a.goes_on ≡ true) × (xs ≡ [])) (λ ls' h' xs. live o (at + a.test_size k) ls' (xs ++ st) h' s1) g (omega arith) (omega arith) (then_do (fb s1) (λ v. on_boolean span v (λ t. Gives (Boolean t))))
              (subst (λ ys. RunTo set S o rep (live o (at + a.test_size k) g.ls' (ys ++ st) g.h' s1) g.h' s1.units 13 b.nodes g.ls' aim st (then_do (fb s1) (λ v. on_boolean span v (λ t. Gives (Boolean t))))) (sym g.is.1)
              (bind_to set S o (On b.goes_on Nothing) rep aim aim st st c1 g.h' s1.units 13 b.nodes 1 b.nodes g.ls' (omega arith) (omega arith) (λ v. on_boolean span v (λ t. Gives (Boolean t))) (λ v s2 r. turn v s2 c1 g.h' g.ls' s1.units g.is.0 r) (fb s1)
              (test_at o (On b.goes_on Nothing) c1 g.h' s1.units 1 b.nodes g.ls' w (at + a.test_size k + b.test_size w + n) to (at + a.test_size k + b.test_size w) end st (fb s1) (omega (arith, f)) (omega (arith, f))
              (rb.test w n s1 o (at + a.test_size k) g.ls' st g.h' (record { deep = omega (arith, g.units, ready.deep); small = omega (arith, ready.small); code = written set o (at + a.test_size k) a.goes_on (b.test w n) g.is.0 code_b; held = g.held; quiet = ready.quiet })))))
            where
              c1 : Next
              c1 = live o (at + a.test_size k) g.ls' st g.h' s1

          by_side : (l : Bool) → k ≡ l → RunTo set S o rep c h s.units 12 (a.nodes + b.nodes) ls aim st (Sides span l fa fb s)
          by_side false e = bind_to set S o rep rep (aim_of k (at + a.test_size k + more) (at + a.test_size k)) aim st st c h s.units 12 (a.nodes + b.nodes) 1 a.nodes ls (omega arith) (omega arith) _ last (fa s) first
            where
              last : (v : Value) (s1 : State) → Owed set S o rep c h s.units 1 a.nodes ls (aim_of k (at + a.test_size k + more) (at + a.test_size k) v) st v s1 → RunTo set S o rep c h s.units 12 (a.nodes + b.nodes) ls aim st (on_boolean span v (λ t. either t (λ s1. then_do (fb s1) (λ v. on_boolean span v (λ t. Gives (Boolean t)))) (Gives (Boolean false))) s1)
              last (Int z) s1 r = tt
              last (Boolean true) s1 r = second_run s1 true (subst (λ l. Owed set S o rep c h s.units 1 a.nodes ls (Some (lands l (at + a.test_size k + more) (at + a.test_size k) true)) st (Boolean true) s1) e r)
              last (Boolean false) s1 r =
                  subst (λ l. RunTo set S o rep c h s.units 12 (a.nodes + b.nodes) ls aim st (Gives (Boolean l) s1)) e
                  (decided_run s1 (subst (λ l. Owed set S o rep c h s.units 1 a.nodes ls (Some (at + a.test_size k + more)) st (Boolean l) s1) (sym e)
                  (subst (λ l. Owed set S o rep c h s.units 1 a.nodes ls (Some (lands l (at + a.test_size k + more) (at + a.test_size k) false)) st (Boolean false) s1) e r)))
              last (Text t) s1 r = tt
              last UnitValue s1 r = tt
          by_side true e = bind_to set S o rep rep (aim_of k (at + a.test_size k + more) (at + a.test_size k)) aim st st c h s.units 12 (a.nodes + b.nodes) 1 a.nodes ls (omega arith) (omega arith) _ last (fa s) first
            where
              last : (v : Value) (s1 : State) → Owed set S o rep c h s.units 1 a.nodes ls (aim_of k (at + a.test_size k + more) (at + a.test_size k) v) st v s1 → RunTo set S o rep c h s.units 12 (a.nodes + b.nodes) ls aim st (on_boolean span v (λ t. either t (Gives (Boolean true)) (λ s1. then_do (fb s1) (λ v. on_boolean span v (λ t. Gives (Boolean t))))) s1)
              last (Int z) s1 r = tt
              last (Boolean false) s1 r = second_run s1 false (subst (λ l. Owed set S o rep c h s.units 1 a.nodes ls (Some (lands l (at + a.test_size k + more) (at + a.test_size k) false)) st (Boolean false) s1) e r)
              last (Boolean true) s1 r =
                  subst (λ l. RunTo set S o rep c h s.units 12 (a.nodes + b.nodes) ls aim st (Gives (Boolean l) s1)) e
                  (decided_run s1 (subst (λ l. Owed set S o rep c h s.units 1 a.nodes ls (Some (at + a.test_size k + more)) st (Boolean l) s1) (sym e)
                  (subst (λ l. Owed set S o rep c h s.units 1 a.nodes ls (Some (lands l (at + a.test_size k + more) (at + a.test_size k) true)) st (Boolean true) s1) e r)))
              last (Text t) s1 r = tt
              last UnitValue s1 r = tt

  bit_byte : (b : Bool) → bytes_of (PushInt (bit b)) ≡ 1
  bit_byte true = refl
  bit_byte false = refl

  -- a literal
  truth_follows : (d : ℕ) (ty : TypeTree) (span : Span) (b : Bool) → Follows set S (suc d) (leaf (PushInt (bit b) ∷ []) ty) (λ s. enter s.units s (λ s1. then_do (Gives (Boolean b) s1) (checked span ty)))
  truth_follows d ty span b = entered set S d 0 x _ (omega arith) (with_check set S d 0 x span (Gives (Boolean b)) inside)
    where
      x : Emitted
      x = leaf (PushInt (bit b) ∷ []) ty

      inside : Inside set S d 0 x (Gives (Boolean b))
      inside s o at ls st h ready =
          own set S 1 (live o at ls st h s) h factor 0 ls ls h (slot.Int (bit b) ∷ []) (λ h' xs. On true Represents h' (Boolean b) xs) s (λ ls' h' xs. live o (at + bytes (PushInt (bit b) ∷ [])) ls' (xs ++ st) h' s) (omega arith)
          (push_int set o at ls st h s (bit b) ready.code.0 ∙ (let e : at + bytes_of (PushInt (bit b)) ≡ at + (bytes_of (PushInt (bit b)) + 0) = omega arith in ap (λ n. live o n ls (slot.Int (bit b) ∷ st) h s) e))
          (refl, refl) (grows_none h) ready.held refl

  pub truth_acts : (d : ℕ) (ty : TypeTree) (span : Span) (b : Bool) → Acts set S (suc d) (truth_code b ty) (λ s. enter s.units s (λ s1. then_do (Gives (Boolean b) s1) (checked span ty)))
  truth_acts d ty span b = record { value = λ s o at ls st h ready. of_leaf.value s o at ls st h (again x.code s o at ls h ready); test = λ w n s o at ls st h ready. of_leaf.test w n s o at ls st h (again (x.test w n) s o at ls h ready); sure = surely }
    where
      x : Emitted
      x = truth_code b ty

      y : Emitted
      y = leaf (PushInt (bit b) ∷ []) ty

      of_leaf : Acts set S (suc d) y (λ s. enter s.units s (λ s1. then_do (Gives (Boolean b) s1) (checked span ty)))
      of_leaf = plain_acts (suc d) ty (bytes (PushInt (bit b) ∷ [])) 1 true (PushInt (bit b) ∷ []) _ refl (truth_follows d ty span b)

      again : (ops : List Operation) (s : State) (o : Activation) (at : ℕ) (ls : List Slot) (h : List Object) → Prepared set S (suc d) x ops s o at ls h → Prepared set S (suc d) y ops s o at ls h
      again ops s o at ls h r = record { deep = r.deep; small = r.small; code = r.code; held = r.held; quiet = r.quiet }

      surely : Sure set S (suc d) x (λ s. enter s.units s (λ s1. then_do (Gives (Boolean b) s1) (checked span ty)))
      surely e s o at ls st h ready =
          enters set S d 0 x [] (On true True) (λ s1. then_do (Gives (Boolean b) s1) (checked span ty)) (omega arith) s o at ls st h (λ v. Some at)
          (λ s1 r1. checked_test o (On true True) (live o at ls st h s1) h s1.units factor 0 ls (λ v. Some at) st span ty (Gives (Boolean b) s1)
          (own set S 0 (live o at ls st h s1) h factor 0 ls ls h [] (λ h' xs. On true True h' (Boolean b) xs) s1 (λ ls' h' xs. live o at ls' (xs ++ st) h' s1) (omega arith) refl (refl, (ap Boolean e, refl)) (grows_none h) r1.held refl)) ready
