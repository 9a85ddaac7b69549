-- No stack of a node's code is higher than the node's operands.
use Rattle.std.proofs.Common.{◌≡◌, ℕ, zero, suc, ◌+◌, ◌≤◌, List, [], ◌∷◌, ◌++◌, length, map, Some, None, Bool, true, false, not, refl, sym, ap, ◌∙◌, subst, arith, append-nil}
use Rattle.std.specs.Prelude.{max, drop, pos, ◌&&◌, if◌then◌else◌, ℤ}
use Rattle.kc_core.specs.declared.tree.TypeTree.{TypeTree}
use Rattle.kc_core.specs.declared.tree.TypeTree.TheVariants as type_is
use Rattle.kc_core.specs.declared.tree.UnaryOp.TheVariants as unary
use Rattle.kc_core.specs.declared.tree.Native.TheVariants as native_kind
use Rattle.kc_core.specs.declared.tree.Function.{Function}
use Rattle.kc_core.specs.declared.tree.Core.{Core}
use Rattle.kc_core.specs.declared.tree.Kind.{Kind}
use Rattle.kc_core.specs.declared.tree.Kind.TheOpen.{Kind-F, Core-F}
use Rattle.kc_core.specs.declared.tree.Kind.TheViews.{roll-Kind}
use Rattle.kc_core.specs.declared.tree.Kind.TheFolds.{map-Kind, fold-Kind, fold_out-Core, fold-roll-Kind, ind-Core}
use Rattle.kc_core.specs.Formed.{Assigned, marked}
use Rattle.kc_core.specs.RoomLaws.{layer_twice}
use Rattle.class_file.specs.declared.class.VType.{VType}
use Rattle.class_file.specs.declared.class.VType.TheVariants as vtype
use Rattle.class_file.specs.declared.row.Test.{Test}
use Rattle.class_file.specs.declared.row.Operator.{Operator}
use Rattle.class_file.specs.Typing.{width, widths}
use Rattle.stack_code.specs.declared.constants.Helper.TheVariants as helper
use Rattle.stack_code.specs.Code.{Operation, PushInt, PushText, Compute, Negate, Call, JumpIf, JumpCompare, Jump, Leave, bytes, kept, Emitted, plain, testing, truth, truth_test, truth_code, bit, leaf, loads, stores, to_text, discards, then_code, two_ops, two_bytes, two_code, compared, negated, decided, short, operator_of, test_of, equal_test, back, condition, condition_size, if_code, over, over_size, either_ops, if_else_code, returns, body_size, while_code, Several, nothing, followed, further_texts, texts, values, in_turn, whole}
use Rattle.stack_code.specs.Frames.{Known, value_types, effect, in_line, behind_line, kept_known, with_value, with_assigned, Traced, behind, plain_traced, testing_traced, truth_known, leaf_traced, then_traced, two_known, two_traced, compared_traced, negated_traced, short_traced, TracedSeveral, nothing_traced, followed_traced, further_texts_traced, texts_traced, values_traced, in_turn_traced, held, condition_known, if_traced, over_known, either_known, if_else_traced, returns_known, while_traced, traced_kind, traced_core, traced_of, nothing_known, body_known, highest, stack_of}
use Rattle.stack_code.specs.Depth.{most, piled, kind_depth, core_depth, depth_of}
use Rattle.stack_code.proofs.Flowing.{kept_even, even_both, even_line}
use Rattle.stack_code.proofs.Traces.{TracedKind, traced_of_kind, emitted_is, type_of_traced}

-- lists one behind the other
pub bound_both : (n : ℕ) (a b : List Operation) (ka kb : List Known) → length a ≡ length ka → highest a ka ≤ n → highest b kb ≤ n → highest (a ++ b) (ka ++ kb) ≤ n
bound_both n [] b [] kb e h g = g
bound_both n [] b (k ∷ ka) kb e h g = absurd (omega (arith, e))
bound_both n (o ∷ a) b [] kb e h g = absurd (omega (arith, e))
bound_both n (o ∷ a) b (k ∷ ka) kb e h g =
    let r = bound_both n a b ka kb (omega (arith, e)) (omega (arith, h)) g in
    omega (arith, h, r)

pub bound_kept : (n : ℕ) (goes : Bool) (os : List Operation) (ks : List Known) → highest os ks ≤ n → highest (kept goes os) (kept_known goes ks) ≤ n
bound_kept n true os ks h = h
bound_kept n false os ks h = omega arith

pub one_value : (ty : TypeTree) (S : List VType) → widths (value_types ty ++ S) ≤ 1 + widths S
one_value type_is.Int S = omega arith
one_value type_is.Boolean S = omega arith
one_value type_is.String S = omega arith
one_value type_is.Unit S = omega arith

drop_one : (S : List VType) → 1 + widths (drop 1 S) ≤ 1 + widths S
drop_one [] = omega arith
drop_one (t ∷ S) = omega arith

at_least : (t : VType) → 1 ≤ width t
at_least vtype.Top = omega arith
at_least vtype.Integer = omega arith
at_least vtype.Long = omega arith
at_least vtype.Null = omega arith
at_least vtype.UninitializedThis = omega arith
at_least (vtype.Object c) = omega arith
at_least (vtype.Uninitialized p) = omega arith

-- a value of one place in place of one, and of two
one_for_one : (S : List VType) → 1 + widths (drop 1 S) ≤ max 1 (widths S)
one_for_one [] = omega arith
one_for_one (t ∷ S) = let p = at_least t in omega (arith, p)

one_for_two : (S : List VType) → 1 + widths (drop 2 S) ≤ max 1 (widths S)
one_for_two [] = omega arith
one_for_two (t ∷ []) = omega arith
one_for_two (t ∷ u ∷ S) = let p = at_least t in omega (arith, p)

drops : (n : ℕ) (S : List VType) → widths (drop n S) ≤ widths S
drops zero S = omega arith
drops (suc n) [] = omega arith
drops (suc n) (t ∷ S) = let r = drops n S in omega (arith, r)

-- No stack of a node's code is higher than n places above what is there.
pub record High (n : ℕ) (x : Traced) : Type 0 where
  pub some : 1 ≤ n
  pub even : (k : Known) → length x.emitted.code ≡ length (x.known k)
  pub even_test : (w : Bool) (m : ℕ) (k : Known) → length (x.emitted.test w m) ≡ length (x.known_test w k)
  pub value : (k : Known) → highest x.emitted.code (x.known k) ≤ widths k.stack + n
  pub test : (w : Bool) (m : ℕ) (k : Known) → highest (x.emitted.test w m) (x.known_test w k) ≤ widths k.stack + n

one_op : (o : Operation) (k : Known) (n : ℕ) → widths k.stack ≤ n → widths (effect o k).stack ≤ n → highest (o ∷ []) (k ∷ []) ≤ n
one_op o k n a b = omega (arith, a, b)

plain_high : (ty : TypeTree) (size nodes : ℕ) (goes : Bool) (code : List Operation) (after : Assigned → Assigned) (known : Known → List Known) (n : ℕ) → 1 ≤ n → ((k : Known) → length code ≡ length (known k)) → ((k : Known) → highest code (known k) ≤ widths k.stack + n) → High n (plain_traced (plain ty size nodes goes code) after known)
plain_high ty size nodes goes code after known n s even value = record {
  some = s;
  even = even;
  even_test = λ w m k. even_both code (kept goes (JumpIf (truth_test w) (m + 3) ∷ [])) (known k) (kept_known goes (with_value ty (after k.assigned) k ∷ [])) (even k) (kept_even goes (JumpIf (truth_test w) (m + 3) ∷ []) (with_value ty (after k.assigned) k ∷ []) refl);
  value = value;
  test = λ w m k.
      bound_both (widths k.stack + n) code (kept goes (JumpIf (truth_test w) (m + 3) ∷ [])) (known k) (kept_known goes (with_value ty (after k.assigned) k ∷ [])) (even k) (value k)
      (bound_kept (widths k.stack + n) goes (JumpIf (truth_test w) (m + 3) ∷ []) (with_value ty (after k.assigned) k ∷ [])
      (let a = one_value ty k.stack in let b = drops 1 (value_types ty ++ k.stack) in one_op (JumpIf (truth_test w) (m + 3)) (with_value ty (after k.assigned) k) (widths k.stack + n) (omega (arith, a, s)) (omega (arith, a, b, s))));
}

testing_high : (ty : TypeTree) (nodes : ℕ) (goes : Bool) (test_size : Bool → ℕ) (test : Bool → ℕ → List Operation) (exits : Bool → Bool) (passed jumped : Bool → Assigned → Assigned) (known_test : Bool → Known → List Known) (n : ℕ) → 1 ≤ n → ((w : Bool) (m : ℕ) (k : Known) → length (test w m) ≡ length (known_test w k)) → ((w : Bool) (m : ℕ) (k : Known) → highest (test w m) (known_test w k) ≤ widths k.stack + n) → High n (testing_traced (testing ty nodes goes test_size test) exits passed jumped known_test)
testing_high ty nodes goes test_size test exits passed jumped known_test n s even high = record {
  some = s;
  even = λ k. even_both (test false 4) (kept goes truth) (known_test false k) (kept_known goes (values k)) (even false 4 k) (kept_even goes truth (values k) refl);
  even_test = even;
  value = λ k. bound_both (widths k.stack + n) (test false 4) (kept goes truth) (known_test false k) (kept_known goes (values k)) (even false 4 k) (high false 4 k) (bound_kept (widths k.stack + n) goes truth (values k) (omega (arith, s)));
  test = high;
}
  where
    values : Known → List Known
    values k = truth_known (with_assigned (passed false k.assigned) k) (with_assigned (jumped false k.assigned) k)

-- a child, and operations that take its value
then_high : (e : Traced) (os : List Operation) (mark : Assigned → Assigned) (ty : TypeTree) (n : ℕ) → High n e → ((k : Known) → highest os (in_line os (behind e k)) ≤ 1 + widths k.stack) → High n (then_traced (then_code e.emitted os ty) e os mark)
then_high e os mark ty n h low =
    plain_high ty _ _ e.emitted.goes_on (e.emitted.code ++ kept e.emitted.goes_on os) (λ s. mark (e.after s)) (λ k. e.known k ++ kept_known e.emitted.goes_on (in_line os (behind e k))) n h.some
    (λ k. even_both e.emitted.code (kept e.emitted.goes_on os) (e.known k) (kept_known e.emitted.goes_on (in_line os (behind e k))) (h.even k) (kept_even e.emitted.goes_on os (in_line os (behind e k)) (even_line os (behind e k))))
    (λ k. bound_both (widths k.stack + n) e.emitted.code (kept e.emitted.goes_on os) (e.known k) (kept_known e.emitted.goes_on (in_line os (behind e k))) (h.even k) (h.value k)
    (bound_kept (widths k.stack + n) e.emitted.goes_on os (in_line os (behind e k)) (let l = low k in let s = h.some in omega (arith, l, s))))

stores_low : (ty : TypeTree) (x : ℕ) (a : Assigned) (S : List VType) → highest (stores ty x) (in_line (stores ty x) (record { assigned = a; stack = value_types ty ++ S })) ≤ 1 + widths S
stores_low type_is.Int x a S = omega arith
stores_low type_is.Boolean x a S = omega arith
stores_low type_is.String x a S = omega arith
stores_low type_is.Unit x a S = omega arith

negate_low : (ty : TypeTree) (a : Assigned) (S : List VType) → highest (Negate ∷ []) (in_line (Negate ∷ []) (record { assigned = a; stack = value_types ty ++ S })) ≤ 1 + widths S
negate_low type_is.Int a S = omega arith
negate_low type_is.Boolean a S = omega arith
negate_low type_is.String a S = omega arith
negate_low type_is.Unit a S = let r = drop_one S in omega (arith, r)

-- two children, and an operation that takes their values
second_low : (a b : Traced) (k : Known) → widths (behind b (behind a k)).stack ≤ 2 + widths k.stack
second_low a b k = let p = one_value a.emitted.ty k.stack in let q = one_value b.emitted.ty (value_types a.emitted.ty ++ k.stack) in omega (arith, p, q)

two_even' : (a b : Traced) (o : Operation) (n m : ℕ) → High n a → High m b → (k : Known) → length (two_ops a.emitted b.emitted (o ∷ [])) ≡ length (two_known a b k)
two_even' a b o n m fa fb k =
    even_both a.emitted.code (kept a.emitted.goes_on (b.emitted.code ++ kept b.emitted.goes_on (o ∷ []))) (a.known k) (kept_known a.emitted.goes_on (b.known (behind a k) ++ kept_known b.emitted.goes_on (behind b (behind a k) ∷ []))) (fa.even k)
    (kept_even a.emitted.goes_on (b.emitted.code ++ kept b.emitted.goes_on (o ∷ [])) (b.known (behind a k) ++ kept_known b.emitted.goes_on (behind b (behind a k) ∷ []))
    (even_both b.emitted.code (kept b.emitted.goes_on (o ∷ [])) (b.known (behind a k)) (kept_known b.emitted.goes_on (behind b (behind a k) ∷ [])) (fb.even (behind a k)) (kept_even b.emitted.goes_on (o ∷ []) (behind b (behind a k) ∷ []) refl)))

two_low : (a b : Traced) (o : Operation) (n m : ℕ) → High n a → High m b → ((k : Known) → widths (effect o (behind b (behind a k))).stack ≤ 2 + widths k.stack) → (k : Known) → highest (two_ops a.emitted b.emitted (o ∷ [])) (two_known a b k) ≤ widths k.stack + max n (m + 1)
two_low a b o n m fa fb low k =
    let s = fb.some in
    let v = fa.value k in
    let p = one_value a.emitted.ty k.stack in
    let u = fb.value (behind a k) in
    let r = second_low a b k in
    let l = low k in
    bound_both (widths k.stack + max n (m + 1)) a.emitted.code (kept a.emitted.goes_on (b.emitted.code ++ kept b.emitted.goes_on (o ∷ []))) (a.known k) (kept_known a.emitted.goes_on (b.known (behind a k) ++ kept_known b.emitted.goes_on (behind b (behind a k) ∷ []))) (fa.even k) (omega (arith, v))
    (bound_kept (widths k.stack + max n (m + 1)) a.emitted.goes_on (b.emitted.code ++ kept b.emitted.goes_on (o ∷ [])) (b.known (behind a k) ++ kept_known b.emitted.goes_on (behind b (behind a k) ∷ []))
    (bound_both (widths k.stack + max n (m + 1)) b.emitted.code (kept b.emitted.goes_on (o ∷ [])) (b.known (behind a k)) (kept_known b.emitted.goes_on (behind b (behind a k) ∷ [])) (fb.even (behind a k)) (omega (arith, u, p))
    (bound_kept (widths k.stack + max n (m + 1)) b.emitted.goes_on (o ∷ []) (behind b (behind a k) ∷ []) (one_op o (behind b (behind a k)) (widths k.stack + max n (m + 1)) (omega (arith, r, s)) (omega (arith, l, s))))))

compute_low : (a b : Traced) (o : Operator) (k : Known) → widths (effect (Compute o) (behind b (behind a k))).stack ≤ 2 + widths k.stack
compute_low a b o k = let r = second_low a b k in let o = one_for_two (behind b (behind a k)).stack in omega (arith, r, o)

compare_low : (a b : Traced) (t : Test) (n : ℕ) (k : Known) → widths (effect (JumpCompare t n) (behind b (behind a k))).stack ≤ 2 + widths k.stack
compare_low a b t n k = let r = second_low a b k in let d = drops 2 (behind b (behind a k)).stack in omega (arith, r, d)

two_high : (a b : Traced) (o : Operator) (ty : TypeTree) (n m : ℕ) → High n a → High m b → High (max n (m + 1)) (two_traced (two_code a.emitted b.emitted (Compute o ∷ []) ty) a b)
two_high a b o ty n m fa fb =
    plain_high ty _ _ (a.emitted.goes_on && b.emitted.goes_on) (two_ops a.emitted b.emitted (Compute o ∷ [])) (λ s. b.after (a.after s)) (two_known a b) (max n (m + 1)) (let s = fa.some in omega (arith, s))
    (two_even' a b (Compute o) n m fa fb) (two_low a b (Compute o) n m fa fb (compute_low a b o))

compared_high : (a b : Traced) (test : Bool → Test) (ty : TypeTree) (n m : ℕ) → High n a → High m b → High (max n (m + 1)) (compared_traced (compared a.emitted b.emitted test ty) a b)
compared_high a b test ty n m fa fb =
    testing_high ty _ (a.emitted.goes_on && b.emitted.goes_on) (λ w. two_bytes a.emitted b.emitted 3) (λ w j. two_ops a.emitted b.emitted (JumpCompare (test w) (j + 3) ∷ [])) (λ w. a.emitted.goes_on && b.emitted.goes_on) (λ w s. b.after (a.after s)) (λ w s. b.after (a.after s)) (λ w. two_known a b) (max n (m + 1)) (let s = fa.some in omega (arith, s))
    (λ w j. two_even' a b (JumpCompare (test w) (j + 3)) n m fa fb) (λ w j. two_low a b (JumpCompare (test w) (j + 3)) n m fa fb (compare_low a b (test w) (j + 3)))

negated_high : (a : Traced) (ty : TypeTree) (n : ℕ) → High n a → High n (negated_traced (negated a.emitted ty) a)
negated_high a ty n fa = testing_high ty _ a.emitted.goes_on (λ w. a.emitted.test_size (not w)) (λ w. a.emitted.test (not w)) (λ w. a.exits (not w)) (λ w. a.passed (not w)) (λ w. a.jumped (not w)) (λ w. a.known_test (not w)) n fa.some (λ w. fa.even_test (not w)) (λ w. fa.test (not w))

short_high : (d : Bool) (a b : Traced) (ty : TypeTree) (n m : ℕ) → High n a → High m b → High (max n m) (short_traced (short d a.emitted b.emitted ty) d a b)
short_high d a b ty n m fa fb =
    testing_high ty _ a.emitted.goes_on _ (λ w j. first w j ++ kept a.emitted.goes_on (b.emitted.test w j)) _ _ _ (λ w k. a.known_test d k ++ kept_known a.emitted.goes_on (b.known_test w (middle k))) (max n m) (let s = fa.some in omega (arith, s))
    (λ w j k. even_both (first w j) (kept a.emitted.goes_on (b.emitted.test w j)) (a.known_test d k) (kept_known a.emitted.goes_on (b.known_test w (middle k))) (fa.even_test d (over w j) k) (kept_even a.emitted.goes_on (b.emitted.test w j) (b.known_test w (middle k)) (fb.even_test w j (middle k))))
    (λ w j k. bound_both (widths k.stack + max n m) (first w j) (kept a.emitted.goes_on (b.emitted.test w j)) (a.known_test d k) (kept_known a.emitted.goes_on (b.known_test w (middle k))) (fa.even_test d (over w j) k) (let v = fa.test d (over w j) k in omega (arith, v))
    (bound_kept (widths k.stack + max n m) a.emitted.goes_on (b.emitted.test w j) (b.known_test w (middle k)) (let v = fb.test w j (middle k) in omega (arith, v))))
  where
    over : Bool → ℕ → ℕ
    over w j = b.emitted.test_size w + decided d w j

    first : Bool → ℕ → List Operation
    first w j = a.emitted.test d (over w j)

    middle : Known → Known
    middle k = with_assigned (a.passed d k.assigned) k

-- ---- several children

-- No stack of several children's code is higher than n places above what is there, or above these places if they are more.
record HighAll (least n : ℕ) (x : Several) (t : TracedSeveral) : Type 0 where
  even : (k : Known) → length x.code ≡ length (t.known k)
  value : (k : Known) → highest x.code (t.known k) ≤ max least (widths k.stack) + n

none_high : (least n : ℕ) → HighAll least n nothing nothing_traced
none_high least n = record { even = λ k. refl; value = λ k. omega arith }

followed_high : (e : Traced) (between : List Operation) (more : Several) (t : TracedSeveral) (least inner n m p : ℕ) → High n e → HighAll inner m more t → n ≤ p → ((k : Known) → highest between (in_line between (behind e k)) ≤ max least (widths k.stack) + p) → ((k : Known) → max inner (widths (behind_line between (behind e k)).stack) + m ≤ max least (widths k.stack) + p) → HighAll least p (followed e.emitted between more) (followed_traced e between t)
followed_high e between more t least inner n m p he hm le low after = record {
  even = λ k. even_both e.emitted.code (kept e.emitted.goes_on (between ++ more.code)) (e.known k) (kept_known e.emitted.goes_on (rest k)) (he.even k) (kept_even e.emitted.goes_on (between ++ more.code) (rest k) (rest_even k));
  value = λ k. let v = he.value k in
      bound_both (max least (widths k.stack) + p) e.emitted.code (kept e.emitted.goes_on (between ++ more.code)) (e.known k) (kept_known e.emitted.goes_on (rest k)) (he.even k) (omega (arith, v, le))
      (bound_kept (max least (widths k.stack) + p) e.emitted.goes_on (between ++ more.code) (rest k)
      (bound_both (max least (widths k.stack) + p) between more.code (in_line between (behind e k)) (t.known (behind_line between (behind e k))) (even_line between (behind e k)) (low k) (let u = hm.value (behind_line between (behind e k)) in let a = after k in omega (arith, u, a))));
}
  where
    rest : Known → List Known
    rest k = in_line between (behind e k) ++ t.known (behind_line between (behind e k))

    rest_even : (k : Known) → length (between ++ more.code) ≡ length (rest k)
    rest_even k = even_both between more.code (in_line between (behind e k)) (t.known (behind_line between (behind e k))) (even_line between (behind e k)) (hm.even (behind_line between (behind e k)))

-- a value becomes its text
text_low : (ty : TypeTree) (a : Assigned) (S : List VType) → highest (to_text ty) (in_line (to_text ty) (record { assigned = a; stack = value_types ty ++ S })) ≤ 1 + widths S
text_low type_is.Int a S = omega arith
text_low type_is.Boolean a S = omega arith
text_low type_is.String a S = omega arith
text_low type_is.Unit a S = omega arith

text_behind : (ty : TypeTree) (a : Assigned) (S : List VType) → widths (behind_line (to_text ty) (record { assigned = a; stack = value_types ty ++ S })).stack ≤ 1 + widths S
text_behind type_is.Int a S = omega arith
text_behind type_is.Boolean a S = omega arith
text_behind type_is.String a S = omega arith
text_behind type_is.Unit a S = omega arith

-- the text goes behind the one below it
joined_low : (ty : TypeTree) (a : Assigned) (S : List VType) → highest (to_text ty ++ Call helper.TextsConcat ∷ []) (in_line (to_text ty ++ Call helper.TextsConcat ∷ []) (record { assigned = a; stack = value_types ty ++ S })) ≤ 1 + widths S
joined_low type_is.Int a S = let d = drops 1 S in omega (arith, d)
joined_low type_is.Boolean a S = let d = drops 1 S in omega (arith, d)
joined_low type_is.String a S = let d = drops 1 S in omega (arith, d)
joined_low type_is.Unit a S = let d = drops 1 S in omega (arith, d)

joined_behind : (ty : TypeTree) (a : Assigned) (S : List VType) → widths (behind_line (to_text ty ++ Call helper.TextsConcat ∷ []) (record { assigned = a; stack = value_types ty ++ S })).stack ≤ max 1 (widths S)
joined_behind type_is.Int a S = one_for_one S
joined_behind type_is.Boolean a S = one_for_one S
joined_behind type_is.String a S = one_for_one S
joined_behind type_is.Unit a S = one_for_one S

discards_low : (ty : TypeTree) (a : Assigned) (S : List VType) → highest (discards ty) (in_line (discards ty) (record { assigned = a; stack = value_types ty ++ S })) ≤ 1 + widths S
discards_low type_is.Int a S = omega arith
discards_low type_is.Boolean a S = omega arith
discards_low type_is.String a S = omega arith
discards_low type_is.Unit a S = omega arith

discards_behind : (ty : TypeTree) (a : Assigned) (S : List VType) → widths (behind_line (discards ty) (record { assigned = a; stack = value_types ty ++ S })).stack ≤ widths S
discards_behind type_is.Int a S = omega arith
discards_behind type_is.Boolean a S = omega arith
discards_behind type_is.String a S = omega arith
discards_behind type_is.Unit a S = omega arith

some_most : (ns : List ℕ) → 1 ≤ most ns
some_most [] = omega arith
some_most (n ∷ ns) = let r = some_most ns in omega (arith, r)

module _ (B : Type 0) (f : B → Traced) (n : B → ℕ) (high : (b : B) → High (n b) (f b)) where
  further_high : (es : List B) → HighAll 1 (most (map n es)) (further_texts (map (λ (x : Traced). x.emitted) (map f es))) (further_texts_traced (map f es))
  further_high [] = none_high 1 1
  further_high (e ∷ es) =
      followed_high (f e) (to_text (f e).emitted.ty ++ Call helper.TextsConcat ∷ []) (further_texts (map (λ (x : Traced). x.emitted) (map f es))) (further_texts_traced (map f es)) 1 1 (n e) (most (map n es)) (max (n e) (most (map n es))) (high e) (further_high es) (omega arith)
      (λ k. let l = joined_low (f e).emitted.ty ((f e).after k.assigned) k.stack in let s = some_most (map n es) in omega (arith, l, s))
      (λ k. let b = joined_behind (f e).emitted.ty ((f e).after k.assigned) k.stack in omega (arith, b))

  texts_high : (es : List B) → HighAll 0 (most (map n es) + 1) (texts (map (λ (x : Traced). x.emitted) (map f es))) (texts_traced (map f es))
  texts_high [] = record { even = λ k. refl; value = λ k. omega arith }
  texts_high (e ∷ es) =
      followed_high (f e) (to_text (f e).emitted.ty) (further_texts (map (λ (x : Traced). x.emitted) (map f es))) (further_texts_traced (map f es)) 0 1 (n e) (most (map n es)) (max (n e) (most (map n es)) + 1) (high e) (further_high es) (omega arith)
      (λ k. let l = text_low (f e).emitted.ty ((f e).after k.assigned) k.stack in omega (arith, l))
      (λ k. let b = text_behind (f e).emitted.ty ((f e).after k.assigned) k.stack in omega (arith, b))

  values_high : (es : List B) → HighAll 0 (piled (map n es)) (values (map (λ (x : Traced). x.emitted) (map f es))) (values_traced (map f es))
  values_high [] = none_high 0 0
  values_high (e ∷ es) =
      followed_high (f e) [] (values (map (λ (x : Traced). x.emitted) (map f es))) (values_traced (map f es)) 0 0 (n e) (piled (map n es)) (max (n e) (1 + piled (map n es))) (high e) (values_high es) (omega arith)
      (λ k. omega arith)
      (λ k. let b = one_value (f e).emitted.ty k.stack in omega (arith, b))

  turns_high : (es : List B) → HighAll 0 (most (map n es)) (in_turn (map (λ (x : Traced). x.emitted) (map f es))) (in_turn_traced (map f es))
  turns_high [] = none_high 0 1
  turns_high (e ∷ []) =
      followed_high (f e) [] nothing nothing_traced 0 0 (n e) 0 (max (n e) 1) (high e) (none_high 0 0) (omega arith)
      (λ k. omega arith)
      (λ k. let b = one_value (f e).emitted.ty k.stack in omega (arith, b))
  turns_high (e ∷ d ∷ es) =
      followed_high (f e) (discards (f e).emitted.ty) (in_turn (map (λ (x : Traced). x.emitted) (map f (d ∷ es)))) (in_turn_traced (map f (d ∷ es))) 0 0 (n e) (most (map n (d ∷ es))) (max (n e) (most (map n (d ∷ es)))) (high e) (turns_high (d ∷ es)) (omega arith)
      (λ k. let l = discards_low (f e).emitted.ty ((f e).after k.assigned) k.stack in let s = (high e).some in omega (arith, l, s))
      (λ k. let b = discards_behind (f e).emitted.ty ((f e).after k.assigned) k.stack in omega (arith, b))

-- a node that is several children, with nothing behind them
alone_high : (x : Several) (t : TracedSeveral) (ty : TypeTree) (n : ℕ) → 1 ≤ n → HighAll 0 n x t → High n (plain_traced (whole x [] ty) t.after t.known)
alone_high x t ty n s h =
    plain_high ty _ _ x.goes_on (x.code ++ kept x.goes_on []) t.after t.known n s
    (λ k. subst (λ (os : List Operation). length os ≡ length (t.known k)) (sym (without x.goes_on x.code)) (h.even k))
    (λ k. subst (λ (os : List Operation). highest os (t.known k) ≤ widths k.stack + n) (sym (without x.goes_on x.code)) (let v = h.value k in omega (arith, v)))
  where
    without : (goes : Bool) (os : List Operation) → os ++ kept goes [] ≡ os
    without true os = append-nil os
    without false os = append-nil os

written_high : (x : Several) (t : TracedSeveral) (ty : TypeTree) (n : ℕ) → HighAll 0 n x t → High (max n 1) (plain_traced (whole x (Call helper.ConsoleWrite ∷ []) ty) t.after (λ k. t.known k ++ kept_known x.goes_on (with_value type_is.String (t.after k.assigned) k ∷ [])))
written_high x t ty n h =
    plain_high ty _ _ x.goes_on (x.code ++ kept x.goes_on (Call helper.ConsoleWrite ∷ [])) t.after (λ k. t.known k ++ kept_known x.goes_on (with_value type_is.String (t.after k.assigned) k ∷ [])) (max n 1) (omega arith)
    (λ k. even_both x.code (kept x.goes_on (Call helper.ConsoleWrite ∷ [])) (t.known k) (kept_known x.goes_on (with_value type_is.String (t.after k.assigned) k ∷ [])) (h.even k) (kept_even x.goes_on (Call helper.ConsoleWrite ∷ []) (with_value type_is.String (t.after k.assigned) k ∷ []) refl))
    (λ k. let v = h.value k in
    bound_both (widths k.stack + max n 1) x.code (kept x.goes_on (Call helper.ConsoleWrite ∷ [])) (t.known k) (kept_known x.goes_on (with_value type_is.String (t.after k.assigned) k ∷ [])) (h.even k) (omega (arith, v))
    (bound_kept (widths k.stack + max n 1) x.goes_on (Call helper.ConsoleWrite ∷ []) (with_value type_is.String (t.after k.assigned) k ∷ []) (omega arith)))

-- ---- choices and loops

condition_even : (c : Traced) (n : ℕ) → High n c → (t : Bool) (m : ℕ) (k : Known) → length (if t then [] else c.emitted.test false m) ≡ length (if t then [] else c.known_test false k)
condition_even c n fc true m k = refl
condition_even c n fc false m k = fc.even_test false m k

condition_low : (c : Traced) (n : ℕ) → High n c → (t : Bool) (m : ℕ) (k : Known) → highest (if t then [] else c.emitted.test false m) (if t then [] else c.known_test false k) ≤ widths k.stack + n
condition_low c n fc true m k = omega arith
condition_low c n fc false m k = fc.test false m k

if_high : (c a : Traced) (ty : TypeTree) (n m : ℕ) → High n c → High m a → High (max n m) (if_traced (if_code c.emitted a.emitted ty) c a)
if_high c a ty n m fc fa =
    plain_high ty _ _ _ (condition c.emitted a.emitted.size ++ kept c.emitted.goes_on a.emitted.code) _ (λ k. condition_known c k ++ kept_known c.emitted.goes_on (a.known (on k))) (max n m) (let s = fc.some in omega (arith, s))
    (λ k. even_both (condition c.emitted a.emitted.size) (kept c.emitted.goes_on a.emitted.code) (condition_known c k) (kept_known c.emitted.goes_on (a.known (on k))) (condition_even c n fc c.emitted.always a.emitted.size k) (kept_even c.emitted.goes_on a.emitted.code (a.known (on k)) (fa.even (on k))))
    (λ k. bound_both (widths k.stack + max n m) (condition c.emitted a.emitted.size) (kept c.emitted.goes_on a.emitted.code) (condition_known c k) (kept_known c.emitted.goes_on (a.known (on k))) (condition_even c n fc c.emitted.always a.emitted.size k) (let v = condition_low c n fc c.emitted.always a.emitted.size k in omega (arith, v))
    (bound_kept (widths k.stack + max n m) c.emitted.goes_on a.emitted.code (a.known (on k)) (let v = fa.value (on k) in omega (arith, v))))
  where
    on : Known → Known
    on k = with_assigned (held c k.assigned) k

if_else_high : (c a b : Traced) (ty : TypeTree) (n m p : ℕ) → High n c → High m a → High p b → High (max n (max m p)) (if_else_traced (if_else_code c.emitted a.emitted b.emitted ty) c a b)
if_else_high c a b ty n m p fc fa fb =
    plain_high ty _ _ _ (if c.emitted.always then a.emitted.code else either_ops c.emitted a.emitted b.emitted) _ (λ k. if c.emitted.always then a.known k else either_known c a b k) (max n (max m p)) (let s = fc.some in omega (arith, s))
    (λ k. even c.emitted.always k) (λ k. low c.emitted.always k)
  where
    far : ℕ
    far = a.emitted.size + over_size a.emitted

    P : Known → Known
    P k = with_assigned (c.passed false k.assigned) k

    J : Known → Known
    J k = with_assigned (c.jumped false k.assigned) k

    ways : List Operation
    ways = a.emitted.code ++ (over a.emitted b.emitted.size ++ b.emitted.code)

    ways_known : Known → List Known
    ways_known k = a.known (P k) ++ (over_known a (P k) ++ b.known (J k))

    even : (t : Bool) (k : Known) → length (if t then a.emitted.code else either_ops c.emitted a.emitted b.emitted) ≡ length (if t then a.known k else either_known c a b k)
    even true k = fa.even k
    even false k =
        even_both (c.emitted.test false far) (kept c.emitted.goes_on ways) (c.known_test false k) (kept_known c.emitted.goes_on (ways_known k)) (fc.even_test false far k)
        (kept_even c.emitted.goes_on ways (ways_known k)
        (even_both a.emitted.code (over a.emitted b.emitted.size ++ b.emitted.code) (a.known (P k)) (over_known a (P k) ++ b.known (J k)) (fa.even (P k))
        (even_both (over a.emitted b.emitted.size) b.emitted.code (over_known a (P k)) (b.known (J k)) (kept_even a.emitted.goes_on (Jump (pos (b.emitted.size + 3)) ∷ []) (behind a (P k) ∷ []) refl) (fb.even (J k)))))

    low : (t : Bool) (k : Known) → highest (if t then a.emitted.code else either_ops c.emitted a.emitted b.emitted) (if t then a.known k else either_known c a b k) ≤ widths k.stack + max n (max m p)
    low true k = let v = fa.value k in omega (arith, v)
    low false k =
        let t = fc.test false far k in
        let v = fa.value (P k) in
        let u = fb.value (J k) in
        let o = one_value a.emitted.ty k.stack in
        let s = fa.some in
        bound_both (widths k.stack + max n (max m p)) (c.emitted.test false far) (kept c.emitted.goes_on ways) (c.known_test false k) (kept_known c.emitted.goes_on (ways_known k)) (fc.even_test false far k) (omega (arith, t))
        (bound_kept (widths k.stack + max n (max m p)) c.emitted.goes_on ways (ways_known k)
        (bound_both (widths k.stack + max n (max m p)) a.emitted.code (over a.emitted b.emitted.size ++ b.emitted.code) (a.known (P k)) (over_known a (P k) ++ b.known (J k)) (fa.even (P k)) (omega (arith, v))
        (bound_both (widths k.stack + max n (max m p)) (over a.emitted b.emitted.size) b.emitted.code (over_known a (P k)) (b.known (J k)) (kept_even a.emitted.goes_on (Jump (pos (b.emitted.size + 3)) ∷ []) (behind a (P k) ∷ []) refl)
        (bound_kept (widths k.stack + max n (max m p)) a.emitted.goes_on (Jump (pos (b.emitted.size + 3)) ∷ []) (behind a (P k) ∷ []) (one_op (Jump (pos (b.emitted.size + 3))) (behind a (P k)) (widths k.stack + max n (max m p)) (omega (arith, o, s)) (omega (arith, o, s))))
        (omega (arith, u)))))

returns_low : (ty : TypeTree) (z : ℤ) (a : Assigned) (S : List VType) → highest (discards ty ++ Jump z ∷ []) (in_line (discards ty ++ Jump (pos 0) ∷ []) (record { assigned = a; stack = value_types ty ++ S })) ≤ 1 + widths S
returns_low type_is.Int z a S = omega arith
returns_low type_is.Boolean z a S = omega arith
returns_low type_is.String z a S = omega arith
returns_low type_is.Unit z a S = omega arith

returns_even : (ty : TypeTree) (z : ℤ) (k : Known) → length (discards ty ++ Jump z ∷ []) ≡ length (in_line (discards ty ++ Jump (pos 0) ∷ []) k)
returns_even type_is.Int z k = refl
returns_even type_is.Boolean z k = refl
returns_even type_is.String z k = refl
returns_even type_is.Unit z k = refl

while_high : (c a : Traced) (ty : TypeTree) (n m : ℕ) → High n c → High m a → High (max n m) (while_traced (while_code c.emitted a.emitted ty) c a)
while_high c a ty n m fc fa =
    plain_high ty _ _ _ (condition c.emitted turn ++ kept c.emitted.goes_on ops) _ (λ k. condition_known c k ++ kept_known c.emitted.goes_on (ops_known k)) (max n m) (let s = fc.some in omega (arith, s))
    (λ k. even_both (condition c.emitted turn) (kept c.emitted.goes_on ops) (condition_known c k) (kept_known c.emitted.goes_on (ops_known k)) (condition_even c n fc c.emitted.always turn k)
    (kept_even c.emitted.goes_on ops (ops_known k) (even_both a.emitted.code (returns a.emitted far) (a.known (on k)) (returns_known a (on k)) (fa.even (on k)) (back_even k))))
    (λ k.
    let v = condition_low c n fc c.emitted.always turn k in
    let u = fa.value (on k) in
    let l = returns_low a.emitted.ty (back far) (a.after (on k).assigned) k.stack in
    let s = fa.some in
    bound_both (widths k.stack + max n m) (condition c.emitted turn) (kept c.emitted.goes_on ops) (condition_known c k) (kept_known c.emitted.goes_on (ops_known k)) (condition_even c n fc c.emitted.always turn k) (omega (arith, v))
    (bound_kept (widths k.stack + max n m) c.emitted.goes_on ops (ops_known k)
    (bound_both (widths k.stack + max n m) a.emitted.code (returns a.emitted far) (a.known (on k)) (returns_known a (on k)) (fa.even (on k)) (omega (arith, u))
    (bound_kept (widths k.stack + max n m) a.emitted.goes_on (discards a.emitted.ty ++ Jump (back far) ∷ []) (in_line (discards a.emitted.ty ++ Jump (pos 0) ∷ []) (behind a (on k))) (omega (arith, l, s))))))
  where
    turn : ℕ
    turn = body_size a.emitted

    far : ℕ
    far = condition_size c.emitted + a.emitted.size + bytes (discards a.emitted.ty)

    on : Known → Known
    on k = with_assigned (held c k.assigned) k

    ops : List Operation
    ops = a.emitted.code ++ returns a.emitted far

    ops_known : Known → List Known
    ops_known k = a.known (on k) ++ returns_known a (on k)

    back_even : (k : Known) → length (returns a.emitted far) ≡ length (returns_known a (on k))
    back_even k = kept_even a.emitted.goes_on (discards a.emitted.ty ++ Jump (back far) ∷ []) (in_line (discards a.emitted.ty ++ Jump (pos 0) ∷ []) (behind a (on k))) (returns_even a.emitted.ty (back far) (behind a (on k)))

-- ---- every node

leaf_high : (os : List Operation) (ty : TypeTree) → ((k : Known) → highest os (in_line os k) ≤ widths k.stack + 1) → High 1 (leaf_traced (leaf os ty))
leaf_high os ty low = plain_high ty (bytes os) 1 true os (λ a. a) (in_line os) 1 (omega arith) (even_line os) low

loads_low : (ty : TypeTree) (x : ℕ) (k : Known) → highest (loads ty x) (in_line (loads ty x) k) ≤ widths k.stack + 1
loads_low type_is.Int x k = omega arith
loads_low type_is.Boolean x k = omega arith
loads_low type_is.String x k = omega arith
loads_low type_is.Unit x k = omega arith

truth_high : (b : Bool) (ty : TypeTree) → High 1 (leaf_traced (truth_code b ty))
truth_high b ty = let h = leaf_high (PushInt (bit b) ∷ []) ty (λ k. omega arith) in record { some = h.some; even = h.even; even_test = h.even_test; value = h.value; test = h.test }

layer_high : (A B : Type 0) (g : A → TracedKind) (p : A → ℕ) (f : B → Traced) (n : B → ℕ) → ((b : B) → High (n b) (f b)) → (y : Kind-F A B) (ty : TypeTree) → High (kind_depth (map-Kind A B ℕ ℕ p n y)) (traced_kind (map-Kind A B TracedKind Traced g f y) ty)
layer_high A B g p f n h (Kind-F.IntLit z) ty = leaf_high (PushInt z ∷ []) ty (λ k. omega arith)
layer_high A B g p f n h (Kind-F.StrLit t) ty = leaf_high (PushText t ∷ []) ty (λ k. omega arith)
layer_high A B g p f n h (Kind-F.BoolLit b) ty = truth_high b ty
layer_high A B g p f n h (Kind-F.LocalRead x) ty = leaf_high (loads ty x) ty (loads_low ty x)
layer_high A B g p f n h (Kind-F.LocalWrite x e) ty = then_high (f e) (stores (f e).emitted.ty x) (marked x true) ty (n e) (h e) (λ k. stores_low (f e).emitted.ty x ((f e).after k.assigned) k.stack)
layer_high A B g p f n h (Kind-F.Declare x None) ty = leaf_high [] ty (λ k. omega arith)
layer_high A B g p f n h (Kind-F.Declare x (Some e)) ty = then_high (f e) (stores (f e).emitted.ty x) (marked x true) ty (n e) (h e) (λ k. stores_low (f e).emitted.ty x ((f e).after k.assigned) k.stack)
layer_high A B g p f n h (Kind-F.NumBinary op a b) ty = two_high (f a) (f b) (operator_of op) ty (n a) (n b) (h a) (h b)
layer_high A B g p f n h (Kind-F.NumUnary unary.Minus a) ty = then_high (f a) (Negate ∷ []) (λ s. s) ty (n a) (h a) (λ k. negate_low (f a).emitted.ty ((f a).after k.assigned) k.stack)
layer_high A B g p f n h (Kind-F.NumCompare order a b) ty = compared_high (f a) (f b) (λ w. test_of w order) ty (n a) (n b) (h a) (h b)
layer_high A B g p f n h (Kind-F.Equal a b) ty = compared_high (f a) (f b) equal_test ty (n a) (n b) (h a) (h b)
layer_high A B g p f n h (Kind-F.Not a) ty = negated_high (f a) ty (n a) (h a)
layer_high A B g p f n h (Kind-F.And a b) ty = short_high false (f a) (f b) ty (n a) (n b) (h a) (h b)
layer_high A B g p f n h (Kind-F.Or a b) ty = short_high true (f a) (f b) ty (n a) (n b) (h a) (h b)
layer_high A B g p f n h (Kind-F.Concat es) ty = alone_high (texts (map (λ (x : Traced). x.emitted) (map f es))) (texts_traced (map f es)) ty (most (map n es) + 1) (omega arith) (texts_high B f n h es)
layer_high A B g p f n h (Kind-F.CallNative native_kind.ConsoleWrite es) ty = written_high (values (map (λ (x : Traced). x.emitted) (map f es))) (values_traced (map f es)) ty (piled (map n es)) (values_high B f n h es)
layer_high A B g p f n h (Kind-F.Block es) ty = alone_high (in_turn (map (λ (x : Traced). x.emitted) (map f es))) (in_turn_traced (map f es)) ty (most (map n es)) (some_most (map n es)) (turns_high B f n h es)
layer_high A B g p f n h (Kind-F.If c a None) ty = if_high (f c) (f a) ty (n c) (n a) (h c) (h a)
layer_high A B g p f n h (Kind-F.If c a (Some b)) ty = if_else_high (f c) (f a) (f b) ty (n c) (n a) (n b) (h c) (h a) (h b)
layer_high A B g p f n h (Kind-F.While label c a) ty = while_high (f c) (f a) ty (n c) (n a) (h c) (h a)

abbrev pub depth_of_kind : Kind → ℕ
depth_of_kind k = fold-Kind ℕ ℕ kind_depth core_depth k

abbrev pub KindHigh : Kind → Type 0
KindHigh k = (ty : TypeTree) → High (depth_of_kind k) (traced_of_kind k ty)

pub high : (e : Core) → High (depth_of e) (traced_of e)
high e = ind-Core KindHigh (λ e. High (depth_of e) (traced_of e))
    (λ x y is. subst (λ z. KindHigh (roll-Kind z)) is
    (λ ty. subst (λ (w : TracedKind). High (depth_of_kind (roll-Kind (map-Kind _ _ Kind Core (λ a. a.0) (λ b. b.0) y))) (w ty))
    (sym (fold-roll-Kind TracedKind Traced traced_kind traced_core (map-Kind _ _ Kind Core (λ a. a.0) (λ b. b.0) y) ∙ ap traced_kind (layer_twice _ _ Kind Core TracedKind Traced (λ a. a.0) (λ b. b.0) traced_of_kind traced_of y)))
    (subst (λ (n : ℕ). High n (traced_kind (map-Kind _ _ TracedKind Traced (λ a. traced_of_kind a.0) (λ b. traced_of b.0) y) ty))
    (sym (fold-roll-Kind ℕ ℕ kind_depth core_depth (map-Kind _ _ Kind Core (λ a. a.0) (λ b. b.0) y) ∙ ap kind_depth (layer_twice _ _ Kind Core ℕ ℕ (λ a. a.0) (λ b. b.0) depth_of_kind depth_of y)))
    (layer_high _ _ (λ a. traced_of_kind a.0) (λ a. depth_of_kind a.0) (λ b. traced_of b.0) (λ b. depth_of b.0) (λ b. b.1) y ty))))
    (λ x y is. subst (λ (z : Core-F Kind Core). High (depth_of (record { span = z.span; ty = z.ty; kind = z.kind })) (traced_of (record { span = z.span; ty = z.ty; kind = z.kind }))) is
    (subst (λ (w : Traced). High (depth_of (record { span = y.span; ty = y.ty; kind = y.kind.0 })) w) (sym (fold_out-Core TracedKind Traced traced_kind traced_core (record { span = y.span; ty = y.ty; kind = y.kind.0 })))
    (subst (λ (n : ℕ). High n (traced_of_kind y.kind.0 y.ty)) (sym (fold_out-Core ℕ ℕ kind_depth core_depth (record { span = y.span; ty = y.ty; kind = y.kind.0 }))) (y.kind.1 y.ty))))
    e

-- ---- a whole body

leaves_low : (ty : TypeTree) (a : Assigned) → highest (discards ty ++ Leave ∷ []) (in_line (discards ty ++ Leave ∷ []) (record { assigned = a; stack = value_types ty ++ [] })) ≤ 1
leaves_low type_is.Int a = omega arith
leaves_low type_is.Boolean a = omega arith
leaves_low type_is.String a = omega arith
leaves_low type_is.Unit a = omega arith

-- a function's stack is no higher than its body's operands
pub stack_bound : (f : Function) → stack_of f ≤ depth_of f.body
stack_bound f =
    subst (λ (x : Emitted). highest (x.code ++ kept x.goes_on last) (body_known f.body) ≤ depth_of f.body) (emitted_is f.body)
    (bound_both (depth_of f.body) t.emitted.code (kept t.emitted.goes_on last) (t.known nothing_known) (kept_known t.emitted.goes_on (in_line last (behind t nothing_known))) (h.even nothing_known) (let v = h.value nothing_known in omega (arith, v))
    (bound_kept (depth_of f.body) t.emitted.goes_on last (in_line last (behind t nothing_known)) (let l = leaves in let s = h.some in omega (arith, l, s))))
  where
    last : List Operation
    last = discards f.body.ty ++ Leave ∷ []

    t : Traced
    t = traced_of f.body

    h : High (depth_of f.body) t
    h = high f.body

    leaves : highest last (in_line last (behind t nothing_known)) ≤ 1
    leaves = subst (λ (ty : TypeTree). highest last (in_line last (record { assigned = t.after nothing_known.assigned; stack = value_types ty ++ [] })) ≤ 1) (sym (type_of_traced f.body)) (leaves_low f.body.ty (t.after nothing_known.assigned))
