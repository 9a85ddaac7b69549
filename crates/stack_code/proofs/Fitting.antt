-- What is known in a node's code is right: nodes with one child or two.
use Rattle.std.proofs.Common.{◌≡◌, ℕ, ◌+◌, List, [], ◌∷◌, ◌++◌, length, Option, Some, Bool, true, false, not, refl, sym, subst, arith}
use Rattle.std.specs.Prelude.{◌&&◌, ◌||◌, pos}
use Rattle.kc_core.specs.declared.tree.TypeTree.{TypeTree}
use Rattle.kc_core.specs.declared.tree.TypeTree.TheVariants as type_is
use Rattle.kc_core.specs.declared.tree.Local.{Local}
use Rattle.kc_core.specs.Formed.{Assigned, Among}
use Rattle.class_file.specs.declared.class.VType.{VType}
use Rattle.class_file.specs.declared.class.VType.TheVariants.{Integer}
use Rattle.class_file.specs.Typing.{same}
use Rattle.stack_code.specs.Code.{Operation, PushInt, Compute, Jump, JumpIf, JumpCompare, bytes_of, bytes, kept, kept_bytes, Emitted, plain, testing, truth, truth_test, then_code, two_ops, two_bytes, two_code, compared, negated, decided, short}
use Rattle.stack_code.specs.Frames.{Known, value_types, in_line, both, kept_known, with_assigned, with_value, Traced, behind, plain_traced, testing_traced, truth_known, pushed, then_traced, two_known, two_traced, compared_traced, negated_traced, short_traced, meeting}
use Rattle.class_file.specs.declared.row.Test.{Test}
use Rattle.class_file.specs.declared.row.Operator.{Operator}
use Rattle.stack_code.proofs.Lists.{bytes_append}
use Rattle.stack_code.proofs.Runs.{Sized, kept_all, kept_size, both_on}
use Rattle.stack_code.proofs.Tests.{plain_sized, testing_sized, two_size, short_size}
use Rattle.stack_code.proofs.Flowing.{Below, Flows, Good, Run, Stands, Within, flows_at, flows_here, flows_more, in_turn, join, no_jump, single, split}
use Rattle.stack_code.proofs.Flowing.{kept_even, even_both, even_line}

module _ (locals : List Local) (there : ℕ → Option Known) (named : ℕ → Bool) where
  -- ---- nodes

  -- What is known in a node's code is right, where the locals in a are assigned before it and those in b behind it: what is assigned
  -- stays so, and is at least what b says; both forms of the code go well.
  pub record Fits (x : Traced) (a b : Assigned) : Type 0 where
    pub sized : Sized x.emitted
    pub even : (k : Known) → length x.emitted.code ≡ length (x.known k)
    pub even_test : (w : Bool) (n : ℕ) (k : Known) → length (x.emitted.test w n) ≡ length (x.known_test w k)
    pub grows : (s : Assigned) → Within locals there named s (x.after s)
    pub grows_passed : (w : Bool) (s : Assigned) → Within locals there named s (x.passed w s)
    pub grows_jumped : (w : Bool) (s : Assigned) → Within locals there named s (x.jumped w s)
    pub covers : (s : Assigned) → Within locals there named a s → Within locals there named b (x.after s)
    pub covers_passed : (w : Bool) (s : Assigned) → Within locals there named a s → Within locals there named b (x.passed w s)
    pub covers_jumped : (w : Bool) (s : Assigned) → Within locals there named a s → Within locals there named b (x.jumped w s)
    pub sure : x.emitted.always ≡ true → (s : Assigned) → Within locals there named a s → Within locals there named b s
    pub lives : x.emitted.always ≡ true → x.emitted.goes_on ≡ true
    pub on : (w : Bool) → x.exits w ≡ true → x.emitted.goes_on ≡ true
    pub names : (w : Bool) (n at : ℕ) (k : Known) → Stands locals there named at (x.emitted.test w n) (x.known_test w k) → x.exits w ≡ true → named (at + x.emitted.test_size w + n) ≡ true
    pub run : (at : ℕ) (k : Known) → Within locals there named a k.assigned → Run locals there named at x.emitted.code (x.known k) k x.emitted.goes_on (behind x k)
    pub run_test : x.emitted.ty ≡ type_is.Boolean → (w : Bool) (n at : ℕ) (k : Known) → Within locals there named a k.assigned → (x.exits w ≡ true → Flows locals there named (with_assigned (x.jumped w k.assigned) k) (at + x.emitted.test_size w + n)) → Run locals there named at (x.emitted.test w n) (x.known_test w k) k x.emitted.goes_on (with_assigned (x.passed w k.assigned) k)

  -- operations behind code, where it goes on
  pub tail : (at : ℕ) (a b : List Operation) (ka kb : List Known) (k l m : Known) (goes : Bool) → length a ≡ length ka → Run locals there named at a ka k goes l → (goes ≡ true → Run locals there named (at + bytes a) b kb l true m) → Run locals there named at (a ++ kept goes b) (ka ++ kept_known goes kb) k goes m
  tail at a b ka kb k l m true e ra rb = in_turn locals there named at a b ka kb k l m true true e ra rb
  tail at a b ka kb k l m false e ra rb = in_turn locals there named at a b ka kb k l m false true e ra rb

  pub place_is : (m n : ℕ) → (let o : Option ℕ = Some m in o) ≡ Some n → m ≡ n
  place_is m n e = cc

  -- a jump on a Boolean
  pub test_jump : (ty : TypeTree) → ty ≡ type_is.Boolean → (s : Assigned) (S : List VType) (t : Test) (n at : ℕ) → Flows locals there named (record { assigned = s; stack = S }) (at + n) → Run locals there named at (JumpIf t n ∷ []) (record { assigned = s; stack = value_types ty ++ S } ∷ []) (record { assigned = s; stack = value_types ty ++ S }) true (record { assigned = s; stack = S })
  test_jump ty e s S t n at f =
      subst (λ (ty : TypeTree). Run locals there named at (JumpIf t n ∷ []) (record { assigned = s; stack = value_types ty ++ S } ∷ []) (record { assigned = s; stack = value_types ty ++ S }) true (record { assigned = s; stack = S })) (sym e)
      (single locals there named at (JumpIf t n) (record { assigned = s; stack = Integer ∷ S }) (S, refl) (λ to q. flows_at locals there named (record { assigned = s; stack = S }) (at + n) to (place_is (at + n) to q) f))

  pub jump_named : (goes : Bool) (at n : ℕ) (t : Test) (k : Known) → goes ≡ true → Stands locals there named at (kept goes (JumpIf t n ∷ [])) (kept_known goes (k ∷ [])) → named (at + n) ≡ true
  jump_named true at n t k e h = h.1 (at + n) refl
  jump_named false at n t k e h = absurd cc

  pub plain_fits : (ty : TypeTree) (size nodes : ℕ) (goes : Bool) (code : List Operation) (after : Assigned → Assigned) (known : Known → List Known) (a b : Assigned) → bytes code ≡ size → ((k : Known) → length code ≡ length (known k)) → ((s : Assigned) → Within locals there named s (after s)) → ((s : Assigned) → Within locals there named a s → Within locals there named b (after s)) → ((at : ℕ) (k : Known) → Within locals there named a k.assigned → Run locals there named at code (known k) k goes (with_value ty (after k.assigned) k)) → Fits (plain_traced (plain ty size nodes goes code) after known) a b
  plain_fits ty size nodes goes code after known a b z even grows covers run = record {
    sized = plain_sized ty size nodes goes code z;
    even = even;
    even_test = λ w n k. even_both code (kept goes (JumpIf (truth_test w) (n + 3) ∷ [])) (known k) (kept_known goes (with_value ty (after k.assigned) k ∷ [])) (even k) (kept_even goes (JumpIf (truth_test w) (n + 3) ∷ []) (with_value ty (after k.assigned) k ∷ []) refl);
    grows = grows;
    grows_passed = λ w. grows;
    grows_jumped = λ w. grows;
    covers = covers;
    covers_passed = λ w. covers;
    covers_jumped = λ w. covers;
    sure = λ e. absurd cc;
    lives = λ e. absurd cc;
    on = λ w e. e;
    names = λ w n at k h e.
        let s = split locals there named code (kept goes (JumpIf (truth_test w) (n + 3) ∷ [])) (known k) (kept_known goes (with_value ty (after k.assigned) k ∷ [])) at (even k) h in
        subst (λ p. named p ≡ true) (let f = kept_all goes 3 e in let i : at + bytes code + (n + 3) ≡ at + (size + kept_bytes goes 3) + n = omega (arith, f, z) in i) (jump_named goes (at + bytes code) (n + 3) (truth_test w) (with_value ty (after k.assigned) k) e s.1);
    run = run;
    run_test = λ t w n at k in_a f.
        tail at code (JumpIf (truth_test w) (n + 3) ∷ []) (known k) (with_value ty (after k.assigned) k ∷ []) k (with_value ty (after k.assigned) k) (with_assigned (after k.assigned) k) goes (even k) (run at k in_a)
        (λ e. test_jump ty t (after k.assigned) k.stack (truth_test w) (n + 3) (at + bytes code)
        (flows_at locals there named (with_assigned (after k.assigned) k) (at + (size + kept_bytes goes 3) + n) (at + bytes code + (n + 3)) (let f = kept_all goes 3 e in omega (arith, f, z)) (f e)));
  }

  pub within_both : (a b c : Assigned) → Within locals there named c a → Within locals there named c b → Within locals there named c (both a b)
  within_both a b c f g x i on = by (a x) (b x) (f x i on) (g x i on)
    where
      by : (p q : Bool) → p ≡ true → q ≡ true → (p && q) ≡ true
      by true q e f = f
      by false q e f = absurd cc

  pub both_first : (a b : Assigned) → Within locals there named (both a b) a
  both_first a b x i on = by (a x) on
    where
      by : (p : Bool) → (p && b x) ≡ true → p ≡ true
      by true e = refl
      by false e = absurd cc

  pub both_second : (a b : Assigned) → Within locals there named (both a b) b
  both_second a b x i on = by (a x) on
    where
      by : (p : Bool) → (p && b x) ≡ true → b x ≡ true
      by true e = e
      by false e = absurd cc

  -- what flows to a place where ways meet
  pub below_first : (a b : Assigned) (S : List VType) → Below locals there named (record { assigned = a; stack = S }) (record { assigned = both a b; stack = S })
  below_first a b S = record { fits = both_first a b; stack = refl }

  pub below_second : (a b : Assigned) (S : List VType) → Below locals there named (record { assigned = b; stack = S }) (record { assigned = both a b; stack = S })
  below_second a b S = record { fits = both_second a b; stack = refl }

  pub more_stands : (at : ℕ) (o : Operation) (os : List Operation) (k : Known) (ks : List Known) → Stands locals there named at (o ∷ os) (k ∷ ks) → Stands locals there named (at + bytes_of o) os ks
  more_stands at o os k ks h = h.2

  -- the values of a test that goes on 4 bytes behind its end where it is false
  pub truth_run : (at : ℕ) (os : List Operation) (ks : List Known) (k : Known) (p j : Assigned) (S : List VType) → length os ≡ length ks → (goes exits : Bool) → (exits ≡ true → goes ≡ true) →
      ((exits ≡ true → Flows locals there named (record { assigned = j; stack = S }) (at + bytes os + 4)) → Run locals there named at os ks k goes (record { assigned = p; stack = S })) →
      Run locals there named at (os ++ kept goes truth) (ks ++ kept_known goes (truth_known (record { assigned = p; stack = S }) (record { assigned = j; stack = S }))) k goes (record { assigned = both p j; stack = Integer ∷ S })
  truth_run at os ks k p j S even true exits on run = λ h f.
      let s = split locals there named os truth ks (truth_known P J) at even h in
      let h1 = more_stands q (PushInt (pos 1)) (Jump (pos 4) ∷ PushInt (pos 0) ∷ []) P (pushed Integer P ∷ J ∷ []) s.1 in
      let h2 = more_stands (q + 1) (Jump (pos 4)) (PushInt (pos 0) ∷ []) (pushed Integer P) (J ∷ []) h1 in
      let n : named (q + 1 + 4) ≡ true = h1.1 (q + 1 + 4) refl in
      let end : Flows locals there named M (q + 1 + 4) = flows_at locals there named M (at + bytes (os ++ truth)) (q + 1 + 4) (let z = bytes_append os truth in omega (arith, z)) (f refl) in
      let g1 : Good locals there named q (PushInt (pos 1)) P = record { takes = tt; jumps = λ to e. absurd (no_jump locals there named to e); goes = λ e. flows_here locals there named (pushed Integer P) (q + 1) h1.0 } in
      let g2 : Good locals there named (q + 1) (Jump (pos 4)) (pushed Integer P) = record {
        takes = tt;
        jumps = λ to e. flows_at locals there named (pushed Integer P) (q + 1 + 4) to (place_is (q + 1 + 4) to e) (flows_more locals there named (pushed Integer P) M (q + 1 + 4) n (below_first p j (Integer ∷ S)) end);
        goes = λ e. absurd cc;
      } in
      let g3 : Good locals there named (q + 1 + 3) (PushInt (pos 0)) J = record { takes = tt; jumps = λ to e. absurd (no_jump locals there named to e); goes = λ e. flows_at locals there named (pushed Integer J) (q + 1 + 4) (q + 1 + 3 + 1) (omega arith) (flows_more locals there named (pushed Integer J) M (q + 1 + 4) n (below_second p j (Integer ∷ S)) end) } in
      let r = run (λ e. flows_at locals there named J (q + 1 + 3) (q + 4) (omega arith) (flows_here locals there named J (q + 1 + 3) h2.0)) s.0 (λ e. flows_here locals there named P q s.1.0) in
      (join locals there named os truth ks (truth_known P J) at r.0 (g1, (g2, (g3, tt))), r.1)
    where
      q : ℕ
      q = at + bytes os

      P : Known
      P = record { assigned = p; stack = S }

      J : Known
      J = record { assigned = j; stack = S }

      M : Known
      M = record { assigned = both p j; stack = Integer ∷ S }
  truth_run at os ks k p j S even false exits on run = λ h f.
      let s = split locals there named os [] ks [] at even h in
      let r = run (λ e. absurd (let q = on e in cc)) s.0 (λ e. absurd cc) in
      (join locals there named os [] ks [] at r.0 tt, r.1)

  -- code that tests
  pub testing_fits : (nodes : ℕ) (goes : Bool) (test_size : Bool → ℕ) (test : Bool → ℕ → List Operation) (exits : Bool → Bool) (passed jumped : Bool → Assigned → Assigned) (known_test : Bool → Known → List Known) (a b : Assigned) →
      ((w : Bool) (n : ℕ) → bytes (test w n) ≡ test_size w) → ((w : Bool) (n : ℕ) (k : Known) → length (test w n) ≡ length (known_test w k)) → ((w : Bool) (s : Assigned) → Within locals there named s (passed w s)) → ((w : Bool) (s : Assigned) → Within locals there named s (jumped w s)) →
      ((w : Bool) (s : Assigned) → Within locals there named a s → Within locals there named b (passed w s)) → ((w : Bool) (s : Assigned) → Within locals there named a s → Within locals there named b (jumped w s)) → ((w : Bool) → exits w ≡ true → goes ≡ true) →
      ((w : Bool) (n at : ℕ) (k : Known) → Stands locals there named at (test w n) (known_test w k) → exits w ≡ true → named (at + test_size w + n) ≡ true) →
      ((w : Bool) (n at : ℕ) (k : Known) → Within locals there named a k.assigned → (exits w ≡ true → Flows locals there named (with_assigned (jumped w k.assigned) k) (at + test_size w + n)) → Run locals there named at (test w n) (known_test w k) k goes (with_assigned (passed w k.assigned) k)) →
      Fits (testing_traced (testing type_is.Boolean nodes goes test_size test) exits passed jumped known_test) a b
  testing_fits nodes goes test_size test exits passed jumped known_test a b z even grows_p grows_j covers_p covers_j on names run = record {
    sized = testing_sized type_is.Boolean nodes goes test_size test z;
    even = λ k. even_both (test false 4) (kept goes truth) (known_test false k) (kept_known goes (truth_known (held k) (failed k))) (even false 4 k) (kept_even goes truth (truth_known (held k) (failed k)) refl);
    even_test = even;
    grows = λ s. within_both (passed false s) (jumped false s) s (grows_p false s) (grows_j false s);
    grows_passed = grows_p;
    grows_jumped = grows_j;
    covers = λ s i. within_both (passed false s) (jumped false s) b (covers_p false s i) (covers_j false s i);
    covers_passed = covers_p;
    covers_jumped = covers_j;
    sure = λ e. absurd cc;
    lives = λ e. absurd cc;
    on = on;
    names = names;
    run = valued;
    run_test = λ t. run;
  }
    where
      held : Known → Known
      held k = with_assigned (passed false k.assigned) k

      failed : Known → Known
      failed k = with_assigned (jumped false k.assigned) k

      valued : (at : ℕ) (k : Known) → Within locals there named a k.assigned → Run locals there named at (test false 4 ++ kept goes truth) (known_test false k ++ kept_known goes (truth_known (held k) (failed k))) k goes (with_value type_is.Boolean (both (passed false k.assigned) (jumped false k.assigned)) k)
      valued at k in_a =
          truth_run at (test false 4) (known_test false k) k (passed false k.assigned) (jumped false k.assigned) k.stack (even false 4 k) goes (exits false) (on false)
          (λ f. run false 4 at k in_a (λ e. flows_at locals there named (failed k) (at + bytes (test false 4) + 4) (at + test_size false + 4) (let q = z false 4 in omega (arith, q)) (f e)))

  -- ---- the kinds

  pub within_same : (a b : Assigned) → Among b a → (s : Assigned) → Within locals there named a s → Within locals there named b s
  within_same a b h s i x c on = i x c (h x on)

  pub within_trans : (a b c : Assigned) → Within locals there named a b → Within locals there named b c → Within locals there named a c
  within_trans a b c f g x i on = g x i (f x i on)

  -- a child, and operations that take its value
  pub then_fits : (e : Traced) (tail_ops : List Operation) (mark : Assigned → Assigned) (ty : TypeTree) (a b c : Assigned) → Fits e a b → ((s : Assigned) → Within locals there named s (mark s)) → ((s : Assigned) → Within locals there named b s → Within locals there named c (mark s)) →
      ((at : ℕ) (s : Assigned) (S : List VType) → Run locals there named at tail_ops (in_line tail_ops (record { assigned = s; stack = value_types e.emitted.ty ++ S })) (record { assigned = s; stack = value_types e.emitted.ty ++ S }) true (record { assigned = mark s; stack = value_types ty ++ S })) →
      Fits (then_traced (then_code e.emitted tail_ops ty) e tail_ops mark) a c
  then_fits e tail_ops mark ty a b c fe grows covers run =
      plain_fits ty (e.emitted.size + kept_bytes e.emitted.goes_on (bytes tail_ops)) (1 + e.emitted.nodes) e.emitted.goes_on (e.emitted.code ++ kept e.emitted.goes_on tail_ops) (λ s. mark (e.after s)) (λ k. e.known k ++ kept_known e.emitted.goes_on (in_line tail_ops (behind e k))) a c
      (let r = bytes_append e.emitted.code (kept e.emitted.goes_on tail_ops) in let k = kept_size e.emitted.goes_on tail_ops in omega (arith, r, k, fe.sized.whole))
      (λ k. even_both e.emitted.code (kept e.emitted.goes_on tail_ops) (e.known k) (kept_known e.emitted.goes_on (in_line tail_ops (behind e k))) (fe.even k) (kept_even e.emitted.goes_on tail_ops (in_line tail_ops (behind e k)) (even_line tail_ops (behind e k))))
      (λ s. within_trans s (e.after s) (mark (e.after s)) (fe.grows s) (grows (e.after s)))
      (λ s i. covers (e.after s) (fe.covers s i))
      (λ at k i. tail at e.emitted.code tail_ops (e.known k) (in_line tail_ops (behind e k)) k (behind e k) (with_value ty (mark (e.after k.assigned)) k) e.emitted.goes_on (fe.even k) (fe.run at k i) (λ on. run (at + bytes e.emitted.code) (e.after k.assigned) k.stack))

  -- two children, and an operation that takes their values
  abbrev pub second : Traced → Traced → Known → Known
  second a b k = behind b (behind a k)

  pub two_even : (a b : Traced) (o : Operation) (s1 s2 s3 : Assigned) → Fits a s1 s2 → Fits b s2 s3 → (k : Known) → length (two_ops a.emitted b.emitted (o ∷ [])) ≡ length (two_known a b k)
  two_even a b o s1 s2 s3 fa fb k =
      even_both a.emitted.code (kept a.emitted.goes_on (b.emitted.code ++ kept b.emitted.goes_on (o ∷ []))) (a.known k) (kept_known a.emitted.goes_on (b.known (behind a k) ++ kept_known b.emitted.goes_on (second a b k ∷ []))) (fa.even k)
      (kept_even a.emitted.goes_on (b.emitted.code ++ kept b.emitted.goes_on (o ∷ [])) (b.known (behind a k) ++ kept_known b.emitted.goes_on (second a b k ∷ []))
      (even_both b.emitted.code (kept b.emitted.goes_on (o ∷ [])) (b.known (behind a k)) (kept_known b.emitted.goes_on (second a b k ∷ [])) (fb.even (behind a k)) (kept_even b.emitted.goes_on (o ∷ []) (second a b k ∷ []) refl)))

  pub two_run : (a b : Traced) (o : Operation) (s1 s2 s3 : Assigned) → Fits a s1 s2 → Fits b s2 s3 → (at : ℕ) (k : Known) (l : Known) → Within locals there named s1 k.assigned →
      (a.emitted.goes_on ≡ true → b.emitted.goes_on ≡ true → Run locals there named (at + bytes a.emitted.code + bytes b.emitted.code) (o ∷ []) (second a b k ∷ []) (second a b k) true l) → Run locals there named at (two_ops a.emitted b.emitted (o ∷ [])) (two_known a b k) k (a.emitted.goes_on && b.emitted.goes_on) l
  two_run a b o s1 s2 s3 fa fb at k l i run =
      in_turn locals there named at a.emitted.code (b.emitted.code ++ kept b.emitted.goes_on (o ∷ [])) (a.known k) (b.known (behind a k) ++ kept_known b.emitted.goes_on (second a b k ∷ [])) k (behind a k) l a.emitted.goes_on b.emitted.goes_on (fa.even k) (fa.run at k i)
      (λ on. tail (at + bytes a.emitted.code) b.emitted.code (o ∷ []) (b.known (behind a k)) (second a b k ∷ []) (behind a k) (second a b k) l b.emitted.goes_on (fb.even (behind a k)) (fb.run (at + bytes a.emitted.code) (behind a k) (fa.covers k.assigned i)) (run on))

  abbrev pub two_ints : Assigned → List VType → Known
  two_ints s S = record { assigned = s; stack = Integer ∷ Integer ∷ S }

  -- the two values are Ints
  pub ints_run : (ta tb : TypeTree) (o : Operation) (at : ℕ) (s : Assigned) (S : List VType) (l : Known) → ta ≡ type_is.Int → tb ≡ type_is.Int → Run locals there named at (o ∷ []) (two_ints s S ∷ []) (two_ints s S) true l → Run locals there named at (o ∷ []) (record { assigned = s; stack = value_types tb ++ (value_types ta ++ S) } ∷ []) (record { assigned = s; stack = value_types tb ++ (value_types ta ++ S) }) true l
  ints_run ta tb o at s S l ea eb run =
      subst (λ (t : TypeTree). Run locals there named at (o ∷ []) (record { assigned = s; stack = value_types t ++ (value_types ta ++ S) } ∷ []) (record { assigned = s; stack = value_types t ++ (value_types ta ++ S) }) true l) (sym eb)
      (subst (λ (t : TypeTree). Run locals there named at (o ∷ []) (record { assigned = s; stack = Integer ∷ value_types t ++ S } ∷ []) (record { assigned = s; stack = Integer ∷ value_types t ++ S }) true l) (sym ea) run)

  pub two_fits : (a b : Traced) (o : Operator) (s1 s2 s3 : Assigned) → Fits a s1 s2 → Fits b s2 s3 → a.emitted.ty ≡ type_is.Int → b.emitted.ty ≡ type_is.Int → Fits (two_traced (two_code a.emitted b.emitted (Compute o ∷ []) type_is.Int) a b) s1 s3
  two_fits a b o s1 s2 s3 fa fb ea eb =
      plain_fits type_is.Int (two_bytes a.emitted b.emitted 1) (1 + a.emitted.nodes + b.emitted.nodes) (a.emitted.goes_on && b.emitted.goes_on) (two_ops a.emitted b.emitted (Compute o ∷ [])) (λ s. b.after (a.after s)) (two_known a b) s1 s3
      (two_size a.emitted b.emitted (Compute o ∷ []) fa.sized fb.sized)
      (two_even a b (Compute o) s1 s2 s3 fa fb)
      (λ s. within_trans s (a.after s) (b.after (a.after s)) (fa.grows s) (fb.grows (a.after s)))
      (λ s i. fb.covers (a.after s) (fa.covers s i))
      (λ at k i. two_run a b (Compute o) s1 s2 s3 fa fb at k (with_value type_is.Int (b.after (a.after k.assigned)) k) i
      (λ on more. ints_run a.emitted.ty b.emitted.ty (Compute o) (at + bytes a.emitted.code + bytes b.emitted.code) (b.after (a.after k.assigned)) k.stack (with_value type_is.Int (b.after (a.after k.assigned)) k) ea eb
      (single locals there named (at + bytes a.emitted.code + bytes b.emitted.code) (Compute o) (two_ints (b.after (a.after k.assigned)) k.stack) (k.stack, refl) (λ to e. absurd (no_jump locals there named to e)))))

  pub goes_first : (a b : Bool) → (a && b) ≡ true → a ≡ true
  goes_first true b e = refl
  goes_first false b e = absurd cc

  pub goes_second : (a b : Bool) → (a && b) ≡ true → b ≡ true
  goes_second true b e = e
  goes_second false b e = absurd cc

  pub compare_named : (goes : Bool) (at n : ℕ) (t : Test) (k : Known) → goes ≡ true → Stands locals there named at (kept goes (JumpCompare t n ∷ [])) (kept_known goes (k ∷ [])) → named (at + n) ≡ true
  compare_named true at n t k e h = h.1 (at + n) refl
  compare_named false at n t k e h = absurd cc

  pub kept_stands : (goes : Bool) (at : ℕ) (os : List Operation) (ks : List Known) → goes ≡ true → Stands locals there named at (kept goes os) (kept_known goes ks) → Stands locals there named at os ks
  kept_stands true at os ks e h = h
  kept_stands false at os ks e h = absurd cc

  pub both_bytes : (a b : Emitted) (n : ℕ) → (a.goes_on && b.goes_on) ≡ true → two_bytes a b n ≡ a.size + b.size + n
  both_bytes a b n e = let f = kept_all a.goes_on (b.size + kept_bytes b.goes_on n) (goes_first a.goes_on b.goes_on e) in let g = kept_all b.goes_on n (goes_second a.goes_on b.goes_on e) in omega (arith, f, g)

  pub compared_fits : (a b : Traced) (test : Bool → Test) (s1 s2 s3 : Assigned) → Fits a s1 s2 → Fits b s2 s3 → a.emitted.ty ≡ type_is.Int → b.emitted.ty ≡ type_is.Int → Fits (compared_traced (compared a.emitted b.emitted test type_is.Boolean) a b) s1 s3
  compared_fits a b test s1 s2 s3 fa fb ea eb =
      testing_fits (1 + a.emitted.nodes + b.emitted.nodes) goes (λ w. two_bytes a.emitted b.emitted 3) (λ w n. two_ops a.emitted b.emitted (JumpCompare (test w) (n + 3) ∷ [])) (λ w. goes) (λ w s. b.after (a.after s)) (λ w s. b.after (a.after s)) (λ w. two_known a b) s1 s3
      (λ w n. two_size a.emitted b.emitted (JumpCompare (test w) (n + 3) ∷ []) fa.sized fb.sized)
      (λ w n. two_even a b (JumpCompare (test w) (n + 3)) s1 s2 s3 fa fb)
      (λ w. grows) (λ w. grows) (λ w. covers) (λ w. covers) (λ w e. e)
      names
      (λ w n at k i f. two_run a b (JumpCompare (test w) (n + 3)) s1 s2 s3 fa fb at k (with_assigned (b.after (a.after k.assigned)) k) i
      (λ on more. ints_run a.emitted.ty b.emitted.ty (JumpCompare (test w) (n + 3)) (at + bytes a.emitted.code + bytes b.emitted.code) (b.after (a.after k.assigned)) k.stack (with_assigned (b.after (a.after k.assigned)) k) ea eb
      (single locals there named (at + bytes a.emitted.code + bytes b.emitted.code) (JumpCompare (test w) (n + 3)) (two_ints (b.after (a.after k.assigned)) k.stack) (k.stack, refl)
      (λ to e. flows_at locals there named (with_assigned (b.after (a.after k.assigned)) k) (at + two_bytes a.emitted b.emitted 3 + n) to
      (let z = both_bytes a.emitted b.emitted 3 (both_on a.emitted.goes_on b.emitted.goes_on on more) in let q = place_is (at + bytes a.emitted.code + bytes b.emitted.code + (n + 3)) to e in omega (arith, z, q, fa.sized.whole, fb.sized.whole))
      (f (both_on a.emitted.goes_on b.emitted.goes_on on more))))))
    where
      goes : Bool
      goes = a.emitted.goes_on && b.emitted.goes_on

      grows : (s : Assigned) → Within locals there named s (b.after (a.after s))
      grows s = within_trans s (a.after s) (b.after (a.after s)) (fa.grows s) (fb.grows (a.after s))

      covers : (s : Assigned) → Within locals there named s1 s → Within locals there named s3 (b.after (a.after s))
      covers s i = fb.covers (a.after s) (fa.covers s i)

      names : (w : Bool) (n at : ℕ) (k : Known) → Stands locals there named at (two_ops a.emitted b.emitted (JumpCompare (test w) (n + 3) ∷ [])) (two_known a b k) → goes ≡ true → named (at + two_bytes a.emitted b.emitted 3 + n) ≡ true
      names w n at k h e =
          let s = split locals there named a.emitted.code (kept a.emitted.goes_on (b.emitted.code ++ kept b.emitted.goes_on (JumpCompare (test w) (n + 3) ∷ []))) (a.known k) (kept_known a.emitted.goes_on (b.known (behind a k) ++ kept_known b.emitted.goes_on (second a b k ∷ []))) at (fa.even k) h in
          let t = split locals there named b.emitted.code (kept b.emitted.goes_on (JumpCompare (test w) (n + 3) ∷ [])) (b.known (behind a k)) (kept_known b.emitted.goes_on (second a b k ∷ [])) (at + bytes a.emitted.code) (fb.even (behind a k))
          (kept_stands a.emitted.goes_on (at + bytes a.emitted.code) (b.emitted.code ++ kept b.emitted.goes_on (JumpCompare (test w) (n + 3) ∷ [])) (b.known (behind a k) ++ kept_known b.emitted.goes_on (second a b k ∷ [])) (goes_first a.emitted.goes_on b.emitted.goes_on e) s.1) in
          subst (λ p. named p ≡ true) (let z = both_bytes a.emitted b.emitted 3 e in let q : at + bytes a.emitted.code + bytes b.emitted.code + (n + 3) ≡ at + two_bytes a.emitted b.emitted 3 + n = omega (arith, z, fa.sized.whole, fb.sized.whole) in q)
          (compare_named b.emitted.goes_on (at + bytes a.emitted.code + bytes b.emitted.code) (n + 3) (test w) (second a b k) (goes_second a.emitted.goes_on b.emitted.goes_on e) t.1)

  pub negated_fits : (a : Traced) (s1 s2 : Assigned) → a.emitted.ty ≡ type_is.Boolean → Fits a s1 s2 → Fits (negated_traced (negated a.emitted type_is.Boolean) a) s1 s2
  negated_fits a s1 s2 t fa =
      testing_fits (1 + a.emitted.nodes) a.emitted.goes_on (λ w. a.emitted.test_size (not w)) (λ w. a.emitted.test (not w)) (λ w. a.exits (not w)) (λ w. a.passed (not w)) (λ w. a.jumped (not w)) (λ w. a.known_test (not w)) s1 s2
      (λ w. fa.sized.test (not w)) (λ w. fa.even_test (not w)) (λ w. fa.grows_passed (not w)) (λ w. fa.grows_jumped (not w)) (λ w. fa.covers_passed (not w)) (λ w. fa.covers_jumped (not w)) (λ w. fa.on (not w)) (λ w. fa.names (not w)) (λ w. fa.run_test t (not w))

  -- ---- two sides

  pub meets : (X : Bool) (p q : Assigned) (S : List VType) (to : ℕ) → (X ≡ true → named to ≡ true) → Flows locals there named (record { assigned = meeting X p q; stack = S }) to → Flows locals there named (record { assigned = q; stack = S }) to
  meets true p q S to n f = flows_more locals there named (record { assigned = q; stack = S }) (record { assigned = both p q; stack = S }) to (n refl) (below_second p q S) f
  meets false p q S to n f = f

  pub meets_first : (X : Bool) (p q : Assigned) (S : List VType) (to : ℕ) → X ≡ true → named to ≡ true → Flows locals there named (record { assigned = meeting X p q; stack = S }) to → Flows locals there named (record { assigned = p; stack = S }) to
  meets_first true p q S to e n f = flows_more locals there named (record { assigned = p; stack = S }) (record { assigned = both p q; stack = S }) to n (below_first p q S) f
  meets_first false p q S to e n f = absurd cc

  pub within_meeting : (X : Bool) (p q c : Assigned) → Within locals there named c p → Within locals there named c q → Within locals there named c (meeting X p q)
  within_meeting true p q c f g = within_both p q c f g
  within_meeting false p q c f g = g

  pub not_same : (w d : Bool) (n : ℕ) → not (same w d) ≡ true → decided d w n ≡ 0
  not_same true true n e = absurd cc
  not_same false false n e = absurd cc
  not_same true false n e = refl
  not_same false true n e = refl

  pub is_same : (w d : Bool) (n : ℕ) → same w d ≡ true → decided d w n ≡ n
  is_same true true n e = refl
  is_same false false n e = refl
  is_same true false n e = absurd cc
  is_same false true n e = absurd cc

  pub or_first : (a b : Bool) → a ≡ true → (a || b) ≡ true
  or_first true b e = refl
  or_first false b e = absurd cc

  pub or_second : (a b : Bool) → b ≡ true → (a || b) ≡ true
  or_second true b e = refl
  or_second false b e = e

  pub or_either : {C : Type 0} (a b : Bool) → (a || b) ≡ true → (a ≡ true → C) → (b ≡ true → C) → C
  or_either true b e f g = f refl
  or_either false b e f g = g e

  pub not_true : (b : Bool) → b ≡ false → not b ≡ true
  not_true true e = absurd cc
  not_true false e = refl

  pub short_fits : (d : Bool) (a b : Traced) (s1 s2 s3 after : Assigned) → a.emitted.ty ≡ type_is.Boolean → b.emitted.ty ≡ type_is.Boolean → Fits a s1 s2 → Fits b s2 s3 → Among after s2 → Among after s3 → Fits (short_traced (short d a.emitted b.emitted type_is.Boolean) d a b) s1 after
  short_fits d a b s1 s2 s3 after ta tb fa fb la lb =
      testing_fits (1 + a.emitted.nodes + b.emitted.nodes) a.emitted.goes_on (λ w. a.emitted.test_size d + kept_bytes a.emitted.goes_on (b.emitted.test_size w)) (λ w n. a.emitted.test d (b.emitted.test_size w + decided d w n) ++ kept a.emitted.goes_on (b.emitted.test w n))
      exits passed jumped known s1 after
      (λ w n. short_size d a.emitted b.emitted fa.sized fb.sized w n)
      even
      (λ w s. within_meeting (not (same w d) && a.exits d) (a.jumped d s) (b.passed w (a.passed d s)) s (fa.grows_jumped d s) (within_trans s (a.passed d s) (b.passed w (a.passed d s)) (fa.grows_passed d s) (fb.grows_passed w (a.passed d s))))
      (λ w s. within_meeting (same w d && a.exits d) (a.jumped d s) (b.jumped w (a.passed d s)) s (fa.grows_jumped d s) (within_trans s (a.passed d s) (b.jumped w (a.passed d s)) (fa.grows_passed d s) (fb.grows_jumped w (a.passed d s))))
      (λ w s i. within_meeting (not (same w d) && a.exits d) (a.jumped d s) (b.passed w (a.passed d s)) after (within_same s2 after la (a.jumped d s) (fa.covers_jumped d s i)) (within_same s3 after lb (b.passed w (a.passed d s)) (fb.covers_passed w (a.passed d s) (fa.covers_passed d s i))))
      (λ w s i. within_meeting (same w d && a.exits d) (a.jumped d s) (b.jumped w (a.passed d s)) after (within_same s2 after la (a.jumped d s) (fa.covers_jumped d s i)) (within_same s3 after lb (b.jumped w (a.passed d s)) (fb.covers_jumped w (a.passed d s) (fa.covers_passed d s i))))
      (λ w e. or_either (same w d && a.exits d) (a.emitted.goes_on && b.exits w) e (λ q. fa.on d (goes_second (same w d) (a.exits d) q)) (λ q. goes_first a.emitted.goes_on (b.exits w) q))
      names
      run
    where
      exits : Bool → Bool
      exits w = (same w d && a.exits d) || (a.emitted.goes_on && b.exits w)

      passed : Bool → Assigned → Assigned
      passed w s = meeting (not (same w d) && a.exits d) (a.jumped d s) (b.passed w (a.passed d s))

      jumped : Bool → Assigned → Assigned
      jumped w s = meeting (same w d && a.exits d) (a.jumped d s) (b.jumped w (a.passed d s))

      middle : Known → Known
      middle k = with_assigned (a.passed d k.assigned) k

      known : Bool → Known → List Known
      known w k = a.known_test d k ++ kept_known a.emitted.goes_on (b.known_test w (middle k))

      over : Bool → ℕ → ℕ
      over w n = b.emitted.test_size w + decided d w n

      first : Bool → ℕ → List Operation
      first w n = a.emitted.test d (over w n)

      size : Bool → ℕ
      size w = a.emitted.test_size d + kept_bytes a.emitted.goes_on (b.emitted.test_size w)

      even : (w : Bool) (n : ℕ) (k : Known) → length (first w n ++ kept a.emitted.goes_on (b.emitted.test w n)) ≡ length (known w k)
      even w n k =
          even_both (first w n) (kept a.emitted.goes_on (b.emitted.test w n)) (a.known_test d k) (kept_known a.emitted.goes_on (b.known_test w (middle k))) (fa.even_test d (over w n) k)
          (kept_even a.emitted.goes_on (b.emitted.test w n) (b.known_test w (middle k)) (fb.even_test w n (middle k)))

      parts : (w : Bool) (n at : ℕ) (k : Known) → Stands locals there named at (first w n ++ kept a.emitted.goes_on (b.emitted.test w n)) (known w k) → Stands locals there named at (first w n) (a.known_test d k) × Stands locals there named (at + bytes (first w n)) (kept a.emitted.goes_on (b.emitted.test w n)) (kept_known a.emitted.goes_on (b.known_test w (middle k)))
      parts w n at k h = split locals there named (first w n) (kept a.emitted.goes_on (b.emitted.test w n)) (a.known_test d k) (kept_known a.emitted.goes_on (b.known_test w (middle k))) at (fa.even_test d (over w n) k) h

      -- where the first side jumps
      first_to : (w : Bool) (n at : ℕ) (k : Known) → Stands locals there named at (first w n ++ kept a.emitted.goes_on (b.emitted.test w n)) (known w k) → a.exits d ≡ true → named (at + size w + decided d w n) ≡ true
      first_to w n at k h e =
          subst (λ p. named p ≡ true) (let z = kept_all a.emitted.goes_on (b.emitted.test_size w) (fa.on d e) in let q : at + a.emitted.test_size d + over w n ≡ at + size w + decided d w n = omega (arith, z) in q)
          (fa.names d (over w n) at k (parts w n at k h).0 e)

      same_to : (w : Bool) (n at : ℕ) (k : Known) → Stands locals there named at (first w n ++ kept a.emitted.goes_on (b.emitted.test w n)) (known w k) → (same w d && a.exits d) ≡ true → named (at + size w + n) ≡ true
      same_to w n at k h e =
          subst (λ p. named p ≡ true) (let z = is_same w d n (goes_first (same w d) (a.exits d) e) in let q : at + size w + decided d w n ≡ at + size w + n = omega (arith, z) in q)
          (first_to w n at k h (goes_second (same w d) (a.exits d) e))

      end_to : (w : Bool) (n at : ℕ) (k : Known) → Stands locals there named at (first w n ++ kept a.emitted.goes_on (b.emitted.test w n)) (known w k) → (not (same w d) && a.exits d) ≡ true → named (at + size w) ≡ true
      end_to w n at k h e =
          subst (λ p. named p ≡ true) (let z = not_same w d n (goes_first (not (same w d)) (a.exits d) e) in let q : at + size w + decided d w n ≡ at + size w = omega (arith, z) in q)
          (first_to w n at k h (goes_second (not (same w d)) (a.exits d) e))

      names : (w : Bool) (n at : ℕ) (k : Known) → Stands locals there named at (first w n ++ kept a.emitted.goes_on (b.emitted.test w n)) (known w k) → exits w ≡ true → named (at + size w + n) ≡ true
      names w n at k h e = or_either (same w d && a.exits d) (a.emitted.goes_on && b.exits w) e (λ q. same_to w n at k h q) (λ q.
          let on = goes_first a.emitted.goes_on (b.exits w) q in
          subst (λ p. named p ≡ true) (let z = kept_all a.emitted.goes_on (b.emitted.test_size w) on in let y = fa.sized.test d (over w n) in let i : at + bytes (first w n) + b.emitted.test_size w + n ≡ at + size w + n = omega (arith, z, y) in i)
          (fb.names w n (at + bytes (first w n)) (middle k) (kept_stands a.emitted.goes_on (at + bytes (first w n)) (b.emitted.test w n) (b.known_test w (middle k)) on (parts w n at k h).1) (goes_second a.emitted.goes_on (b.exits w) q)))

      eager : (os : List Operation) (ks : List Known) (at : ℕ) (k l : Known) (more : Bool) → Run locals there named at os ks k (a.emitted.goes_on && more) l → Run locals there named at os ks k a.emitted.goes_on l
      eager os ks at k l more r = λ h f. r h (λ e. f (goes_first a.emitted.goes_on more e))

      run : (w : Bool) (n at : ℕ) (k : Known) → Within locals there named s1 k.assigned → (exits w ≡ true → Flows locals there named (with_assigned (jumped w k.assigned) k) (at + size w + n)) → Run locals there named at (first w n ++ kept a.emitted.goes_on (b.emitted.test w n)) (known w k) k a.emitted.goes_on (with_assigned (passed w k.assigned) k)
      run w n at k i f = λ h end.
          eager (first w n ++ kept a.emitted.goes_on (b.emitted.test w n)) (known w k) at k (with_assigned (b.passed w (a.passed d k.assigned)) k) b.emitted.goes_on
          (in_turn locals there named at (first w n) (b.emitted.test w n) (a.known_test d k) (b.known_test w (middle k)) k (middle k) (with_assigned (b.passed w (a.passed d k.assigned)) k) a.emitted.goes_on b.emitted.goes_on (fa.even_test d (over w n) k)
          (fa.run_test ta d (over w n) at k i (λ e. first_flows e (same w d) refl h end))
          (λ on. fb.run_test tb w n (at + bytes (first w n)) (middle k) (fa.covers_passed d k.assigned i)
          (λ e. flows_at locals there named (with_assigned (b.jumped w (a.passed d k.assigned)) k) (at + size w + n) (at + bytes (first w n) + b.emitted.test_size w + n) (let z = kept_all a.emitted.goes_on (b.emitted.test_size w) on in let y = fa.sized.test d (over w n) in omega (arith, z, y))
          (meets (same w d && a.exits d) (a.jumped d k.assigned) (b.jumped w (a.passed d k.assigned)) k.stack (at + size w + n) (same_to w n at k h) (f (or_second (same w d && a.exits d) (a.emitted.goes_on && b.exits w) (both_on a.emitted.goes_on (b.exits w) on e)))))))
          h
          (λ on. flows_at locals there named (with_assigned (b.passed w (a.passed d k.assigned)) k) (at + size w) (at + bytes (first w n ++ kept a.emitted.goes_on (b.emitted.test w n))) (let z = short_size d a.emitted b.emitted fa.sized fb.sized w n in omega (arith, z))
          (meets (not (same w d) && a.exits d) (a.jumped d k.assigned) (b.passed w (a.passed d k.assigned)) k.stack (at + size w) (end_to w n at k h) (ended on end)))
        where
          ops : List Operation
          ops = first w n ++ kept a.emitted.goes_on (b.emitted.test w n)

          ended : a.emitted.goes_on ≡ true → (a.emitted.goes_on ≡ true → Flows locals there named (with_assigned (passed w k.assigned) k) (at + bytes ops)) → Flows locals there named (with_assigned (passed w k.assigned) k) (at + size w)
          ended on end = flows_at locals there named (with_assigned (passed w k.assigned) k) (at + bytes ops) (at + size w) (let z = short_size d a.emitted b.emitted fa.sized fb.sized w n in omega (arith, z)) (end on)

          first_flows : a.exits d ≡ true → (t : Bool) → same w d ≡ t → Stands locals there named at ops (known w k) → (a.emitted.goes_on ≡ true → Flows locals there named (with_assigned (passed w k.assigned) k) (at + bytes ops)) → Flows locals there named (with_assigned (a.jumped d k.assigned) k) (at + a.emitted.test_size d + over w n)
          first_flows e true q h end =
              let x = both_on (same w d) (a.exits d) q e in
              flows_at locals there named (with_assigned (a.jumped d k.assigned) k) (at + size w + n) (at + a.emitted.test_size d + over w n) (let z = kept_all a.emitted.goes_on (b.emitted.test_size w) (fa.on d e) in let y = is_same w d n q in omega (arith, z, y))
              (meets_first (same w d && a.exits d) (a.jumped d k.assigned) (b.jumped w (a.passed d k.assigned)) k.stack (at + size w + n) x (same_to w n at k h x) (f (or_first (same w d && a.exits d) (a.emitted.goes_on && b.exits w) x)))
          first_flows e false q h end =
              let x = both_on (not (same w d)) (a.exits d) (not_true (same w d) q) e in
              flows_at locals there named (with_assigned (a.jumped d k.assigned) k) (at + size w) (at + a.emitted.test_size d + over w n) (let z = kept_all a.emitted.goes_on (b.emitted.test_size w) (fa.on d e) in let y = not_same w d n (not_true (same w d) q) in omega (arith, z, y))
              (meets_first (not (same w d) && a.exits d) (a.jumped d k.assigned) (b.passed w (a.passed d k.assigned)) k.stack (at + size w) x (end_to w n at k h x) (ended (fa.on d e) end))
