-- What a walk passes, one stretch of code behind another.
use Rattle.std.proofs.Common.{append-nil, append_assoc, ◌≡◌, ℕ, ◌+◌, ◌*◌, ◌≤◌, ◌<◌, max, List, [], ◌∷◌, ◌++◌, length, drop, Bool, true, false, refl, sym, ap, ◌∙◌, subst, arith}
use Rattle.std.proofs.Math.Nat.{le-max_left, le-max_right, max-le}
use Rattle.std.specs.Prelude.{◌&&◌, if◌then◌else◌}
use Rattle.kc_core.specs.declared.tree.TypeTree.{TypeTree}
use Rattle.kc_core.specs.declared.tree.TypeTree.TheVariants as type_is
use Rattle.kc_core.specs.declared.tree.BinaryOp.{BinaryOp}
use Rattle.kc_core.specs.declared.tree.Local.{Local}
use Rattle.kc_core.specs.Formed.{Assigned, marked}
use Rattle.class_file.specs.declared.class.VType.{VType}
use Rattle.class_file.specs.declared.class.Frame.{Frame}
use Rattle.stack_code.specs.declared.frames.Walk.{Walk}
use Rattle.stack_code.specs.declared.frames.Branch.{Branch}
use Rattle.stack_code.specs.Code.{Operation, PushInt, bit, Compute, Negate, JumpIf, JumpCompare, bytes_of, bytes, kept, truth_test, stores, operator_of}
use Rattle.stack_code.specs.Frames.{Known, value_types, frame_at, frames_from, in_line, kept_known, both, with_assigned, with_value, Traced, behind}
use Rattle.stack_code.specs.Walking.{set_of, known_of, Moves, Walks, WalksOne, Does, DoesLine, DoesOne, DoesTwo, DoesKind, DoesCompared, TestsPlain, write_layer, minus_layer, binary_layer}
use Rattle.stack_code.proofs.Lists.{bytes_append}
use Rattle.stack_code.proofs.Flowing.{kept_even, even_both}

kept_both : (l g : Bool) (os : List Operation) → kept (l && g) os ≡ kept l (kept g os)
kept_both true g os = refl
kept_both false g os = refl

and_true : (l : Bool) → (l && true) ≡ l
and_true true = refl
and_true false = refl

pub and_and : (a b c : Bool) → ((a && b) && c) ≡ (a && (b && c))
and_and true b c = refl
and_and false b c = refl

-- the ways of a choice are smaller than the choice
pub wider : (a b c d n : ℕ) → c ≤ d → 8 * max a (max b d) + 6 ≡ n → 8 * max a (max b c) + 5 < n
wider a b c d n le e =
    let inner : max b c ≤ max b d = max-le (le-max_left b d) (let r = le-max_right b d in omega (arith, le, r)) in
    let outer : max a (max b c) ≤ max a (max b d) = max-le (le-max_left a (max b d)) (let r = le-max_right a (max b d) in omega (arith, inner, r)) in
    omega (arith, outer, e)

pub bit_bytes : (b : Bool) → bytes_of (PushInt (bit b)) ≡ 1
bit_bytes true = refl
bit_bytes false = refl

module _ (locals : List Local) (entry : ℕ → Bool) where
  abbrev F : ℕ → List Operation → List Known → List Frame
  F at os ks = frames_from locals entry at os ks

  frames_append : (at : ℕ) (os more : List Operation) (ks ls : List Known) → length os ≡ length ks → F at (os ++ more) (ks ++ ls) ≡ F at os ks ++ F (at + bytes os) more ls
  frames_append at [] more [] ls e = ap (λ p. F p more ls) (let z : at ≡ at + 0 = omega arith in z)
  frames_append at [] more (k ∷ ks) ls e = absurd (omega (arith, e))
  frames_append at (o ∷ os) more [] ls e = absurd (omega (arith, e))
  frames_append at (o ∷ os) more (k ∷ ks) ls e = by (frames_append (at + bytes_of o) os more ks ls (omega (arith, e))) (entry at)
    where
      by : F (at + bytes_of o) (os ++ more) (ks ++ ls) ≡ F (at + bytes_of o) os ks ++ F (at + bytes_of o + bytes os) more ls → (b : Bool) →
          (if b then frame_at locals at k ∷ F (at + bytes_of o) (os ++ more) (ks ++ ls) else F (at + bytes_of o) (os ++ more) (ks ++ ls))
          ≡ (if b then frame_at locals at k ∷ F (at + bytes_of o) os ks else F (at + bytes_of o) os ks) ++ F (at + bytes (o ∷ os)) more ls
      by rest true = ap (λ w. frame_at locals at k ∷ w) (rest ∙ ap (λ p. F (at + bytes_of o) os ks ++ F p more ls) (let z : at + bytes_of o + bytes os ≡ at + bytes (o ∷ os) = omega arith in z))
      by rest false = rest ∙ ap (λ p. F (at + bytes_of o) os ks ++ F p more ls) (let z : at + bytes_of o + bytes os ≡ at + bytes (o ∷ os) = omega arith in z)

  -- nothing is passed
  pub walks_none : (l : Bool) (s t : Walk) (k : Known) → Moves s t k → Walks locals entry l s t [] [] k
  walks_none true s t k m = record { even = refl; at = m.at ∙ (let z : s.at ≡ s.at + 0 = omega arith in z); frames = m.frames ∙ sym (append-nil s.frames.items); known = m.known }
  walks_none false s t k m = record { even = refl; at = m.at ∙ (let z : s.at ≡ s.at + 0 = omega arith in z); frames = m.frames ∙ sym (append-nil s.frames.items); known = m.known }

  pub moves_before : (l : Bool) (s t u : Walk) (os : List Operation) (ks : List Known) (k m : Known) → Moves s t k → Walks locals entry l t u os ks m → Walks locals entry l s u os ks m
  moves_before l s t u os ks k m v w = record {
    even = w.even;
    at = w.at ∙ ap (λ p. p + bytes (kept l os)) v.at;
    frames = w.frames ∙ ap (λ f. f ++ F t.at (kept l os) (kept_known l ks)) v.frames ∙ ap (λ p. s.frames.items ++ F p (kept l os) (kept_known l ks)) v.at;
    known = w.known;
  }

  pub moves_after : (l : Bool) (s t u : Walk) (os : List Operation) (ks : List Known) (k m : Known) → Walks locals entry l s t os ks k → Moves t u m → Walks locals entry l s u os ks m
  moves_after l s t u os ks k m v w = record { even = v.even; at = w.at ∙ v.at; frames = w.frames ∙ v.frames; known = w.known }

  -- one stretch behind another, where that goes on
  pub walks_then : (l g : Bool) (s t u : Walk) (os more : List Operation) (ks ls : List Known) (k m : Known) → Walks locals entry l s t os ks k → Walks locals entry (l && g) t u more ls m → Walks locals entry l s u (os ++ kept g more) (ks ++ kept_known g ls) m
  walks_then l g s t u os more ks ls k m v w = by l g v w
    where
      even : (l g : Bool) → Walks locals entry l s t os ks k → Walks locals entry (l && g) t u more ls m → length (os ++ kept g more) ≡ length (ks ++ kept_known g ls)
      even l g v w = even_both os (kept g more) ks (kept_known g ls) v.even (kept_even g more ls w.even)

      by : (l g : Bool) → Walks locals entry l s t os ks k → Walks locals entry (l && g) t u more ls m → Walks locals entry l s u (os ++ kept g more) (ks ++ kept_known g ls) m
      by true true v w = record {
        even = even true true v w;
        at = let b = bytes_append os more in omega (arith, v.at, w.at, b);
        frames = w.frames ∙ ap (λ p. t.frames.items ++ F p more ls) v.at ∙ ap (λ f. f ++ F (s.at + bytes os) more ls) v.frames
            ∙ append_assoc s.frames.items (F s.at os ks) (F (s.at + bytes os) more ls) ∙ ap (λ f. s.frames.items ++ f) (sym (frames_append s.at os more ks ls v.even));
        known = w.known;
      }
      by true false v w = record {
        even = even true false v w;
        at = let b = bytes_append os [] in omega (arith, v.at, w.at, b);
        frames = w.frames ∙ append-nil t.frames.items ∙ v.frames ∙ ap (λ o. s.frames.items ++ F s.at o ks) (sym (append-nil os)) ∙ ap (λ q. s.frames.items ++ F s.at (os ++ []) q) (sym (append-nil ks));
        known = w.known;
      }
      by false g v w = record {
        even = even false g v w;
        at = omega (arith, v.at, w.at);
        frames = w.frames ∙ append-nil t.frames.items ∙ v.frames;
        known = w.known;
      }

  pub walks_next : (l : Bool) (s t u : Walk) (os more : List Operation) (ks ls : List Known) (k m : Known) → Walks locals entry l s t os ks k → Walks locals entry l t u more ls m → Walks locals entry l s u (os ++ more) (ks ++ ls) m
  walks_next l s t u os more ks ls k m v w = walks_then l true s t u os more ks ls k m v (subst (λ b. Walks locals entry b t u more ls m) (sym (and_true l)) w)

  -- one operation, where the walk is live
  pub one_live : (s t u : Walk) (n : ℕ) → t.at ≡ s.at → known_of t ≡ known_of s → t.frames.items ≡ s.frames.items ++ (if entry s.at then frame_at locals s.at (known_of s) ∷ [] else []) → u.at ≡ t.at + n → known_of u ≡ known_of t → u.frames.items ≡ t.frames.items → WalksOne locals entry true s u n
  one_live s t u n a b c d e f o is = record {
    even = refl;
    at = omega (arith, a, d, is);
    frames = f ∙ c ∙ by (entry s.at);
    known = e ∙ b;
  }
    where
      by : (b : Bool) → (let old : List Frame = s.frames.items in old) ++ (if b then frame_at locals s.at (known_of s) ∷ [] else []) ≡ s.frames.items ++ (if b then frame_at locals s.at (known_of s) ∷ [] else [])
      by b = refl

  pub one_dead : (s : Walk) (n : ℕ) → WalksOne locals entry false s s n
  one_dead s n o is = record { even = refl; at = omega arith; frames = sym (append-nil s.frames.items); known = refl }

  popped_back : (ty : TypeTree) (types : List VType) → drop (length (value_types ty)) (value_types ty ++ types) ≡ types
  popped_back type_is.Int types = refl
  popped_back type_is.Boolean types = refl
  popped_back type_is.String types = refl
  popped_back type_is.Unit types = refl

  abbrev pub off : ℕ → Known → Known
  off n k = record { assigned = k.assigned; stack = drop n k.stack }

  -- A node's code, and what stands behind it while its value is on the stack, which changes what is assigned.
  pub with_tail : (l goes lg : Bool) (s t1 t2 t3 t4 : Walk) (e : Traced) (ty : TypeTree) (os : List Operation) (ks : Known → List Known) (h : Assigned → Assigned) →
      Does locals entry l s t1 e goes → e.emitted.ty ≡ ty → Moves t1 t2 (with_value ty (known_of t1).assigned (known_of t1)) → lg ≡ (l && goes) → Walks locals entry lg t2 t3 os (ks (known_of t2)) (with_assigned (h (known_of t2).assigned) (known_of t2)) → Moves t3 t4 (off (length (value_types ty)) (known_of t3)) →
      Walks locals entry l s t4 (e.emitted.code ++ kept e.emitted.goes_on os) (e.known (known_of s) ++ kept_known e.emitted.goes_on (ks (behind e (known_of s)))) (with_assigned (h (e.after (known_of s).assigned)) (known_of s))
  with_tail l goes lg s t1 t2 t3 t4 e ty os ks h d is m1 both w m3 =
      subst (λ (v : TypeTree). Walks locals entry l s t4 (e.emitted.code ++ kept e.emitted.goes_on os) (e.known K ++ kept_known e.emitted.goes_on (ks (with_value v A K))) (with_assigned (h A) K)) (sym is)
      (moves_after l s t3 t4 _ _ _ _ (walks_then l e.emitted.goes_on s t1 t3 e.emitted.code os (e.known K) (ks B) (with_assigned A K) (with_assigned (h A) B) d.walks (moves_before (l && e.emitted.goes_on) t1 t2 t3 os (ks B) _ (with_assigned (h A) B) m1 behind_it))
      (record { at = m3.at; frames = m3.frames; known = m3.known ∙ ap (off (length (value_types ty))) behind_it.known ∙ ap (λ types. record { assigned = h A; stack = types }) (popped_back ty K.stack) }))
    where
      K : Known
      K = known_of s

      A : Assigned
      A = e.after K.assigned

      B : Known
      B = with_value ty A K

      here : known_of t2 ≡ B
      here = m1.known ∙ ap (λ (k : Known). with_value ty k.assigned k) d.walks.known

      behind_it : Walks locals entry (l && e.emitted.goes_on) t2 t3 os (ks B) (with_assigned (h A) B)
      behind_it = subst (λ g. Walks locals entry (l && g) t2 t3 os (ks B) (with_assigned (h A) B)) d.goes_is (subst (λ b. Walks locals entry b t2 t3 os (ks B) (with_assigned (h A) B)) both (subst (λ (k : Known). Walks locals entry lg t2 t3 os (ks k) (with_assigned (h k.assigned) k)) here w))

  pub with_one : (l goes lg : Bool) (s t1 t2 t3 t4 : Walk) (e : Traced) (ty : TypeTree) (n : ℕ) → Does locals entry l s t1 e goes → e.emitted.ty ≡ ty → Moves t1 t2 (with_value ty (known_of t1).assigned (known_of t1)) → lg ≡ (l && goes) → WalksOne locals entry lg t2 t3 n → Moves t3 t4 (off (length (value_types ty)) (known_of t3)) → DoesOne locals entry l s t4 e n goes
  with_one l goes lg s t1 t2 t3 t4 e ty n d is m1 q w m3 o size = record { goes_is = d.goes_is; walks = with_tail l goes lg s t1 t2 t3 t4 e ty (o ∷ []) (λ k. k ∷ []) (λ a. a) d is m1 q (w o size) m3 }

  pub stored : (l goes lg : Bool) (s t1 t2 t3 t4 t5 : Walk) (e : Traced) (ty : TypeTree) (x : ℕ) → Does locals entry l s t1 e goes → e.emitted.ty ≡ ty → Moves t1 t2 (with_value ty (known_of t1).assigned (known_of t1)) → lg ≡ (l && goes) → Walks locals entry lg t2 t3 (stores ty x) (in_line (stores ty x) (known_of t2)) (known_of t2) → Moves t3 t4 (off (length (value_types ty)) (known_of t3)) →
      Moves t4 t5 (with_assigned (marked x true (known_of t4).assigned) (known_of t4)) → DoesKind locals entry l s t5 (write_layer x e) goes
  stored l goes lg s t1 t2 t3 t4 t5 e ty x d is m1 q w m3 m4 any = record {
    goes_is = d.goes_is;
    walks = subst (λ (v : TypeTree). Walks locals entry l s t5 (e.emitted.code ++ kept e.emitted.goes_on (stores v x)) (e.known K ++ kept_known e.emitted.goes_on (in_line (stores v x) (behind e K))) (with_assigned (marked x true (e.after K.assigned)) K)) (sym is)
        (moves_after l s t4 t5 _ _ _ _ front (record { at = m4.at; frames = m4.frames; known = m4.known ∙ ap (λ (k : Known). with_assigned (marked x true k.assigned) k) front.known }));
  }
    where
      K : Known
      K = known_of s

      front : Walks locals entry l s t4 (e.emitted.code ++ kept e.emitted.goes_on (stores ty x)) (e.known K ++ kept_known e.emitted.goes_on (in_line (stores ty x) (behind e K))) (with_assigned (e.after K.assigned) K)
      front = with_tail l goes lg s t1 t2 t3 t4 e ty (stores ty x) (in_line (stores ty x)) (λ a. a) d is m1 q w m3

  pub negated_value : (l goes : Bool) (s t : Walk) (e : Traced) → DoesOne locals entry l s t e 1 goes → DoesKind locals entry l s t (minus_layer e) goes
  negated_value l goes s t e d any = let r = d Negate refl in record { goes_is = r.goes_is; walks = r.walks }

  -- two nodes, and an operation
  pub with_two : (l f g lf r : Bool) (s t1 t2 t3 t4 : Walk) (a b : Traced) (ty : TypeTree) (n : ℕ) → Does locals entry l s t1 a f → a.emitted.ty ≡ ty → Moves t1 t2 (with_value ty (known_of t1).assigned (known_of t1)) → lf ≡ (l && f) → DoesOne locals entry lf t2 t3 b n g → Moves t3 t4 (off (length (value_types ty)) (known_of t3)) → r ≡ (f && g) → DoesTwo locals entry l s t4 a b n r
  with_two l f g lf r s t1 t2 t3 t4 a b ty n d is m1 q w m3 e o size = record {
    goes_is = e ∙ ap (λ x. x && g) d.goes_is ∙ ap (λ y. a.emitted.goes_on && y) (w o size).goes_is;
    walks = with_tail l f lf s t1 t2 t3 t4 a ty (b.emitted.code ++ kept b.emitted.goes_on (o ∷ [])) (λ k. b.known k ++ kept_known b.emitted.goes_on (behind b k ∷ [])) b.after d is m1 q (w o size).walks m3;
  }

  pub binary_value : (l goes : Bool) (s t : Walk) (a b : Traced) → DoesTwo locals entry l s t a b 1 goes → (op : BinaryOp) → DoesKind locals entry l s t (binary_layer op a b) goes
  binary_value l goes s t a b d op any = let r = d (Compute (operator_of op)) refl in record { goes_is = r.goes_is; walks = r.walks }

  pub compared_value : (l goes : Bool) (s t : Walk) (a b : Traced) (r : Branch) → DoesTwo locals entry l s t a b 3 goes → r.goes ≡ goes → r.exits ≡ goes → r.jumped.items ≡ t.assigned.items → DoesCompared locals entry l s t a b r
  compared_value l goes s t a b r d e f j test ty when = let m = d (JumpCompare (test when) 3) refl in record {
    goes_is = e ∙ m.goes_is;
    exits_is = f ∙ m.goes_is;
    jumped_is = ap set_of j ∙ ap (λ (k : Known). k.assigned) m.walks.known;
    walks = λ n. (d (JumpCompare (test when) (n + 3)) refl).walks;
  }

  pub plain_value : (l goes : Bool) (s t : Walk) (x : Traced) (r : Branch) → DoesOne locals entry l s t x 3 goes → r.goes ≡ goes → r.exits ≡ goes → r.jumped.items ≡ t.assigned.items → TestsPlain locals entry l s t x r
  plain_value l goes s t x r d e f j p when = record {
    goes_is = e ∙ (d (JumpIf (truth_test when) 3) refl).goes_is;
    exits_is = f ∙ (d (JumpIf (truth_test when) 3) refl).goes_is ∙ sym (p.exits when);
    jumped_is = ap set_of j ∙ ap (λ (k : Known). k.assigned) (d (JumpIf (truth_test when) 3) refl).walks.known ∙ ap (λ (h : Assigned → Assigned). h (known_of s).assigned) (sym (p.jumped when));
    walks = λ n.
        subst (λ os. Walks locals entry l s t os (x.known_test when (known_of s)) (with_assigned (x.passed when (known_of s).assigned) (known_of s))) (sym (p.test when n))
        (subst (λ ks. Walks locals entry l s t (x.emitted.code ++ kept x.emitted.goes_on (JumpIf (truth_test when) (n + 3) ∷ [])) ks (with_assigned (x.passed when (known_of s).assigned) (known_of s))) (sym (p.known_test when (known_of s)))
        (subst (λ (h : Assigned → Assigned). Walks locals entry l s t (x.emitted.code ++ kept x.emitted.goes_on (JumpIf (truth_test when) (n + 3) ∷ [])) (x.known (known_of s) ++ kept_known x.emitted.goes_on (behind x (known_of s) ∷ [])) (with_assigned (h (known_of s).assigned) (known_of s))) (sym (p.passed when))
        (d (JumpIf (truth_test when) (n + 3)) refl).walks));
  }

  -- a node's code, and operations that take its value
  pub with_line : (l goes lg : Bool) (s t1 t2 t3 t4 : Walk) (e : Traced) (ty : TypeTree) (os : List Operation) → Does locals entry l s t1 e goes → e.emitted.ty ≡ ty → Moves t1 t2 (with_value ty (known_of t1).assigned (known_of t1)) → lg ≡ (l && goes) → Walks locals entry lg t2 t3 os (in_line os (known_of t2)) (known_of t2) → Moves t3 t4 (off (length (value_types ty)) (known_of t3)) → DoesLine locals entry l s t4 e os (in_line os) goes
  with_line l goes lg s t1 t2 t3 t4 e ty os d is m1 q w m3 = record { goes_is = d.goes_is; walks = with_tail l goes lg s t1 t2 t3 t4 e ty os (in_line os) (λ a. a) d is m1 q w m3 }
