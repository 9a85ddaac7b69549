-- In the code of a node that has little room each operation has an instruction.
use Rattle.std.proofs.Common.{◌≡◌, ℕ, zero, suc, ◌+◌, ◌<◌, ◌≤◌, List, [], ◌∷◌, ◌++◌, length, map, Some, None, Bool, true, false, refl, sym, ap, ◌∙◌, subst, arith}
use Rattle.std.specs.Prelude.{pos, not, slice_get, if◌then◌else◌, ⊤}
use Rattle.kc_core.specs.declared.tree.TypeTree.{TypeTree}
use Rattle.kc_core.specs.declared.tree.TypeTree.TheVariants as type_is
use Rattle.kc_core.specs.declared.tree.UnaryOp.TheVariants as unary
use Rattle.kc_core.specs.declared.tree.Native.TheVariants as native_kind
use Rattle.kc_core.specs.declared.tree.Local.{Local}
use Rattle.kc_core.specs.declared.tree.Function.{Function}
use Rattle.kc_core.specs.declared.tree.Core.{Core}
use Rattle.kc_core.specs.declared.tree.Kind.{Kind, out-Kind}
use Rattle.kc_core.specs.declared.tree.Kind.TheOpen.{Kind-F}
use Rattle.kc_core.specs.declared.tree.Kind.TheFolds.{map-Kind, fold_out-Core, fold_out-Kind}
use Rattle.kc_core.specs.Formed.{Assigned, Formed, FormedAll}
use Rattle.kc_core.specs.Room.{Room, plain_room, testing_room, room_of_each, kind_room, core_room, room_of}
use Rattle.kc_core.specs.RoomLaws.{room_of_kind, within}
use Rattle.class_file.specs.declared.row.Test.{Test}
use Rattle.class_file.specs.Pools.{Slots}
use Rattle.stack_code.specs.declared.constants.Helper.TheVariants as helper
use Rattle.stack_code.specs.Code.{Operation, PushInt, PushText, Compute, Negate, Call, Jump, JumpIf, JumpCompare, Leave, bytes, back, Emitted, kept, operator_of, test_of, equal_test, truth_test, loads, stores, to_text, discards, plain, testing, truth, two_ops, decided, followed, Several, further_texts, texts, values, in_turn, condition, condition_size, over, over_size, either_ops, body_size, returns, kind_code, code_of, body_code}
use Rattle.stack_code.specs.declared.operations.CodeBuffer.{CodeBuffer}
use Rattle.stack_code.specs.Depth.{depth_of}
use Rattle.stack_code.specs.Emission.{Emits, IsNear, HaveInstructions, HasRoom}
use Rattle.stack_code.specs.Small.{IsSmall}
use Rattle.stack_code.proofs.Lists as lists
use Rattle.stack_code.proofs.Nodes.{Coded, code_of_kind, coded}
use Rattle.stack_code.proofs.Low.{depth_low}
use Rattle.stack_code.proofs.Room.{Fits, fits, kept_few, discards_few, condition_few, body_fits}

have_both : (a b : List Operation) → HaveInstructions a → HaveInstructions b → HaveInstructions (a ++ b)
have_both [] b h k = k
have_both (o ∷ a) b h k = (h.0, have_both a b h.1 k)

have_kept : (goes : Bool) (a : List Operation) → HaveInstructions a → HaveInstructions (kept goes a)
have_kept true a h = h
have_kept false a h = tt

have_then : (goes : Bool) (a b : List Operation) → HaveInstructions a → HaveInstructions b → HaveInstructions (a ++ kept goes b)
have_then goes a b h k = have_both a (kept goes b) h (have_kept goes b k)

loads_have : (ty : TypeTree) (x : ℕ) → x < 65536 → HaveInstructions (loads ty x)
loads_have type_is.Int x h = (h, tt)
loads_have type_is.Boolean x h = (h, tt)
loads_have type_is.String x h = (h, tt)
loads_have type_is.Unit x h = tt

stores_have : (ty : TypeTree) (x : ℕ) → x < 65536 → HaveInstructions (stores ty x)
stores_have type_is.Int x h = (h, tt)
stores_have type_is.Boolean x h = (h, tt)
stores_have type_is.String x h = (h, tt)
stores_have type_is.Unit x h = tt

discards_have : (ty : TypeTree) → HaveInstructions (discards ty)
discards_have type_is.Int = (tt, tt)
discards_have type_is.Boolean = (tt, tt)
discards_have type_is.String = (tt, tt)
discards_have type_is.Unit = tt

text_have : (ty : TypeTree) → HaveInstructions (to_text ty)
text_have type_is.Int = (tt, tt)
text_have type_is.Boolean = (tt, tt)
text_have type_is.String = tt
text_have type_is.Unit = (tt, tt)

back_near : (n : ℕ) → n < 32768 → IsNear (back n)
back_near zero h = h
back_near (suc n) h = h

-- Both forms of a node's code have instructions, if its room is small; and the second one, if the place where it goes on is near too.
record Near (x : Emitted) (r : Room) : Type 0 where
  pub value : r.value ≤ 32767 → HaveInstructions x.code
  pub test : (w : Bool) (n : ℕ) → r.branch + n ≤ 32767 → HaveInstructions (x.test w n)

plain_near : (ty : TypeTree) (size nodes : ℕ) (goes : Bool) (code : List Operation) (n : ℕ) → (n ≤ 32767 → HaveInstructions code) → Near (plain ty size nodes goes code) (plain_room n)
plain_near ty size nodes goes code n h = record {
  value = h;
  test = λ w k le. have_then goes code (JumpIf (truth_test w) (k + 3) ∷ []) (h (omega (arith, le))) (omega (arith, le), tt);
}

testing_near : (ty : TypeTree) (nodes : ℕ) (goes : Bool) (test_size : Bool → ℕ) (test : Bool → ℕ → List Operation) (n : ℕ) → ((w : Bool) (k : ℕ) → n + k ≤ 32767 → HaveInstructions (test w k)) → Near (testing ty nodes goes test_size test) (testing_room n)
testing_near ty nodes goes test_size test n h = record {
  value = λ le. have_then goes (test false 4) truth (h false 4 (omega (arith, le))) (tt, (omega arith, (tt, tt)));
  test = h;
}

two_have : (a b : Emitted) (r s : Room) (tail : List Operation) (n : ℕ) → Near a r → Near b s → r.value + s.value + n ≤ 32767 → HaveInstructions tail → HaveInstructions (two_ops a b tail)
two_have a b r s tail n na nb le t =
    have_then a.goes_on a.code (b.code ++ kept b.goes_on tail) (na.value (omega (arith, le))) (have_then b.goes_on b.code tail (nb.value (omega (arith, le))) t)

compared_near : (a b : Emitted) (r s : Room) (test : Bool → Test) (ty : TypeTree) (nodes : ℕ) (goes : Bool) (test_size : Bool → ℕ) → Near a r → Near b s → Near (testing ty nodes goes test_size (λ w n. two_ops a b (JumpCompare (test w) (n + 3) ∷ []))) (testing_room (r.value + s.value + 8))
compared_near a b r s test ty nodes goes test_size na nb =
    testing_near ty nodes goes test_size _ (r.value + s.value + 8) (λ w k le. two_have a b r s (JumpCompare (test w) (k + 3) ∷ []) 8 na nb (omega (arith, le)) (omega (arith, le), tt))

decided_few : (d w : Bool) (n : ℕ) → decided d w n ≤ n
decided_few true true n = omega arith
decided_few true false n = omega arith
decided_few false true n = omega arith
decided_few false false n = omega arith

short_near : (d : Bool) (a b : Emitted) (r s : Room) (ty : TypeTree) (nodes : ℕ) (goes : Bool) (test_size : Bool → ℕ) → Near a r → Near b s → Fits b s → Near (testing ty nodes goes test_size (λ w n. a.test d (b.test_size w + decided d w n) ++ kept a.goes_on (b.test w n))) (testing_room (r.branch + s.branch))
short_near d a b r s ty nodes goes test_size na nb fb =
    testing_near ty nodes goes test_size _ (r.branch + s.branch)
    (λ w n le. have_then a.goes_on (a.test d (b.test_size w + decided d w n)) (b.test w n) (let u = fb.branch w in let v = decided_few d w n in na.test d (b.test_size w + decided d w n) (omega (arith, le, u, v))) (nb.test w n (omega (arith, le))))

condition_have : (c : Emitted) (r : Room) (n : ℕ) → Near c r → r.branch + n ≤ 32767 → HaveInstructions (condition c n)
condition_have c r n nc le = by_case c.always
  where
    by_case : (b : Bool) → HaveInstructions (if b then [] else c.test false n)
    by_case true = tt
    by_case false = nc.test false n le

if_have : (c a : Emitted) (r s : Room) → Near c r → Near a s → Fits a s → r.branch + s.value ≤ 32767 → HaveInstructions (condition c a.size ++ kept c.goes_on a.code)
if_have c a r s nc na fa le =
    let u = fa.value in
    have_then c.goes_on (condition c a.size) a.code (condition_have c r a.size nc (omega (arith, le, u))) (na.value (omega (arith, le)))

either_have : (c a b : Emitted) (r s t : Room) → Near c r → Near a s → Near b t → Fits a s → Fits b t → r.branch + s.value + 5 + t.value ≤ 32767 → HaveInstructions (either_ops c a b)
either_have c a b r s t nc na nb fa fb le =
    let u = fa.value in
    let v = fb.value in
    let k = kept_few a.goes_on 3 in
    have_then c.goes_on (c.test false (a.size + over_size a)) (a.code ++ (over a b.size ++ b.code)) (nc.test false (a.size + over_size a) (omega (arith, le, u, k)))
    (have_both a.code (over a b.size ++ b.code) (na.value (omega (arith, le)))
    (have_both (over a b.size) b.code (have_kept a.goes_on (Jump (pos (b.size + 3)) ∷ []) (omega (arith, le, v), tt)) (nb.value (omega (arith, le)))))

if_else_have : (c a b : Emitted) (r s t : Room) → Near c r → Near a s → Near b t → Fits a s → Fits b t → r.branch + s.value + 5 + t.value ≤ 32767 → HaveInstructions (if c.always then a.code else either_ops c a b)
if_else_have c a b r s t nc na nb fa fb le = by_case c.always
  where
    by_case : (x : Bool) → HaveInstructions (if x then a.code else either_ops c a b)
    by_case true = na.value (omega (arith, le))
    by_case false = either_have c a b r s t nc na nb fa fb le

while_have : (c a : Emitted) (r s : Room) → Near c r → Near a s → Fits c r → Fits a s → r.branch + s.value + 1 + 5 ≤ 32767 → HaveInstructions (condition c (body_size a) ++ kept c.goes_on (a.code ++ returns a (condition_size c + a.size + bytes (discards a.ty))))
while_have c a r s nc na fc fa le =
    let i = discards_few a.ty in
    let k = kept_few a.goes_on (bytes (discards a.ty) + 3) in
    let u = condition_few c r fc in
    let v = fa.value in
    let n = condition_size c + a.size + bytes (discards a.ty) in
    have_then c.goes_on (condition c (body_size a)) (a.code ++ returns a n) (condition_have c r (body_size a) nc (omega (arith, le, i, k, v)))
    (have_then a.goes_on a.code (discards a.ty ++ Jump (back n) ∷ []) (na.value (omega (arith, le)))
    (have_both (discards a.ty) (Jump (back n) ∷ []) (discards_have a.ty) (back_near n (omega (arith, le, i, u, v)), tt)))

-- ---- several children

abbrev AllNear : List Core → Type 0
AllNear [] = ⊤
AllNear (e ∷ es) = Near (code_of e) (room_of e) × AllNear es

followed_have : (e : Emitted) (between : List Operation) (more : Several) → HaveInstructions e.code → HaveInstructions between → HaveInstructions more.code → HaveInstructions (followed e between more).code
followed_have e between more h b m = have_then e.goes_on e.code (between ++ more.code) h (have_both between more.code b m)

further_have : (es : List Core) → AllNear es → room_of_each 6 (map room_of es) ≤ 32767 → HaveInstructions (further_texts (map code_of es)).code
further_have [] h le = tt
further_have (e ∷ es) h le =
    followed_have (code_of e) (to_text (code_of e).ty ++ Call helper.TextsConcat ∷ []) (further_texts (map code_of es)) (h.0.value (omega (arith, le))) (have_both (to_text (code_of e).ty) (Call helper.TextsConcat ∷ []) (text_have (code_of e).ty) (tt, tt)) (further_have es h.1 (omega (arith, le)))

texts_have : (es : List Core) → AllNear es → 3 + room_of_each 6 (map room_of es) ≤ 32767 → HaveInstructions (texts (map code_of es)).code
texts_have [] h le = (tt, tt)
texts_have (e ∷ es) h le = followed_have (code_of e) (to_text (code_of e).ty) (further_texts (map code_of es)) (h.0.value (omega (arith, le))) (text_have (code_of e).ty) (further_have es h.1 (omega (arith, le)))

values_have : (es : List Core) → AllNear es → room_of_each 0 (map room_of es) ≤ 32767 → HaveInstructions (values (map code_of es)).code
values_have [] h le = tt
values_have (e ∷ es) h le = followed_have (code_of e) [] (values (map code_of es)) (h.0.value (omega (arith, le))) tt (values_have es h.1 (omega (arith, le)))

turn_have : (es : List Core) → AllNear es → room_of_each 1 (map room_of es) ≤ 32767 → HaveInstructions (in_turn (map code_of es)).code
turn_have [] h le = tt
turn_have (e ∷ []) h le = followed_have (code_of e) [] (record { size = 0; nodes = 0; goes_on = true; code = [] }) (h.0.value (omega (arith, le))) tt tt
turn_have (e ∷ d ∷ es) h le = followed_have (code_of e) (discards (code_of e).ty) (in_turn (map code_of (d ∷ es))) (h.0.value (omega (arith, le))) (discards_have (code_of e).ty) (turn_have (d ∷ es) h.1 (omega (arith, le)))

-- ---- each node

by_kind : (e : Core) (x : Kind-F Kind Core) → out-Kind e.kind ≡ x → Near (kind_code (map-Kind Kind Core Coded Emitted code_of_kind code_of x) e.ty) (kind_room (map-Kind Kind Core Room Room room_of_kind room_of x)) → Near (code_of e) (room_of e)
by_kind e x k h =
    subst (λ (r : Room). Near (code_of e) r) (sym (fold_out-Core Room Room kind_room core_room e ∙ fold_out-Kind Room Room kind_room core_room e.kind ∙ ap (λ y. kind_room (map-Kind Kind Core Room Room room_of_kind room_of y)) k))
    (subst (λ (c : Emitted). Near c (kind_room (map-Kind Kind Core Room Room room_of_kind room_of x))) (sym (coded e e.kind x refl k)) h)

module _ (locals : List Local) (few : length locals ≤ 65535) where
  small_number : (x : ℕ) (l : Local) → slice_get locals x ≡ Some l → x < 65536
  small_number x l g = let w = lists.within locals x l g in omega (arith, w, few)

  mutual
    near : (e : Core) (a b : Assigned) → Formed locals e a b → Near (code_of e) (room_of e)
    near e a b (Formed.IntLit _ n _ k t) = by_kind e (Kind-F.IntLit n) k (plain_near e.ty _ _ _ (PushInt n ∷ []) 3 (λ le. (tt, tt)))
    near e a b (Formed.StrLit _ u _ k t) = by_kind e (Kind-F.StrLit u) k (plain_near e.ty _ _ _ (PushText u ∷ []) 3 (λ le. (tt, tt)))
    near e a b (Formed.BoolLit _ u _ k t) = by_kind e (Kind-F.BoolLit u) k (record { value = λ le. (tt, tt); test = λ w n le. (tt, (omega (arith, le), tt)) })
    near e a b (Formed.LocalRead _ x l _ k g t on) = by_kind e (Kind-F.LocalRead x) k (plain_near e.ty _ _ _ (loads e.ty x) 4 (λ le. loads_have e.ty x (small_number x l g)))
    near e a b (Formed.LocalWrite _ x l v _ c k g is_var t u f) =
        by_kind e (Kind-F.LocalWrite x v) k (plain_near e.ty _ _ _ _ ((room_of v).value + 4) (λ le. have_then (code_of v).goes_on (code_of v).code (stores (code_of v).ty x) ((near v a c f).value (omega (arith, le))) (stores_have (code_of v).ty x (small_number x l g))))
    near e a b (Formed.DeclareUnset _ x l _ k g t) = by_kind e (Kind-F.Declare x None) k (plain_near e.ty _ _ _ [] 0 (λ le. tt))
    near e a b (Formed.Declare _ x l v _ c k g t u f) =
        by_kind e (Kind-F.Declare x (Some v)) k (plain_near e.ty _ _ _ _ ((room_of v).value + 4) (λ le. have_then (code_of v).goes_on (code_of v).code (stores (code_of v).ty x) ((near v a c f).value (omega (arith, le))) (stores_have (code_of v).ty x (small_number x l g))))
    near e a d (Formed.NumBinary _ op left right _ c _ k t tl tz f g) =
        by_kind e (Kind-F.NumBinary op left right) k
        (plain_near e.ty _ _ _ _ ((room_of left).value + (room_of right).value + 1) (λ le. two_have (code_of left) (code_of right) (room_of left) (room_of right) (Compute (operator_of op) ∷ []) 1 (near left a c f) (near right c d g) le (tt, tt)))
    near e a c (Formed.NumUnary _ unary.Minus v _ _ k t u f) =
        by_kind e (Kind-F.NumUnary unary.Minus v) k (plain_near e.ty _ _ _ _ ((room_of v).value + 1) (λ le. have_then (code_of v).goes_on (code_of v).code (Negate ∷ []) ((near v a c f).value (omega (arith, le))) (tt, tt)))
    near e a d (Formed.NumCompare _ order left right _ c _ k t tl tz f g) =
        by_kind e (Kind-F.NumCompare order left right) k (compared_near (code_of left) (code_of right) (room_of left) (room_of right) (λ w. test_of w order) e.ty _ _ _ (near left a c f) (near right c d g))
    near e a d (Formed.Equal _ left right _ c _ k t tl tz f g) =
        by_kind e (Kind-F.Equal left right) k (compared_near (code_of left) (code_of right) (room_of left) (room_of right) equal_test e.ty _ _ _ (near left a c f) (near right c d g))
    near e a c (Formed.Not _ v _ _ k t u f) = by_kind e (Kind-F.Not v) k (testing_near e.ty _ _ _ _ (room_of v).branch (λ w n le. (near v a c f).test (not w) n le))
    near e a after (Formed.And _ left right _ c d _ k t tl tz f g lc ld) =
        by_kind e (Kind-F.And left right) k (short_near false (code_of left) (code_of right) (room_of left) (room_of right) e.ty _ _ _ (near left a c f) (near right c d g) (fits right))
    near e a after (Formed.Or _ left right _ c d _ k t tl tz f g lc ld) =
        by_kind e (Kind-F.Or left right) k (short_near true (code_of left) (code_of right) (room_of left) (room_of right) e.ty _ _ _ (near left a c f) (near right c d g) (fits right))
    near e a c (Formed.Concat _ parts _ _ k t f) =
        by_kind e (Kind-F.Concat parts) k
        (plain_near e.ty _ _ _ _ (3 + room_of_each 6 (map room_of parts)) (λ le. have_then (texts (map code_of parts)).goes_on (texts (map code_of parts)).code [] (texts_have parts (all_near parts a c f) le) tt))
    near e a c (Formed.CallNative _ native_kind.ConsoleWrite args _ _ k t u f) =
        by_kind e (Kind-F.CallNative native_kind.ConsoleWrite args) k
        (plain_near e.ty _ _ _ _ (3 + room_of_each 0 (map room_of args)) (λ le. have_then (values (map code_of args)).goes_on (values (map code_of args)).code (Call helper.ConsoleWrite ∷ []) (values_have args (all_near args a c f) (omega (arith, le))) (tt, tt)))
    near e a c (Formed.Block _ parts _ _ k t f) =
        by_kind e (Kind-F.Block parts) k
        (plain_near e.ty _ _ _ _ (room_of_each 1 (map room_of parts)) (λ le. have_then (in_turn (map code_of parts)).goes_on (in_turn (map code_of parts)).code [] (turn_have parts (all_near parts a c f) le) tt))
    near e a after (Formed.IfHeld _ test first _ c d _ k t tt' th f g lc ld) =
        by_kind e (Kind-F.If test first None) k
        (plain_near e.ty _ _ _ _ ((room_of test).branch + (room_of first).value) (λ le. if_have (code_of test) (code_of first) (room_of test) (room_of first) (near test a c f) (near first c d g) (fits first) le))
    near e a after (Formed.If _ test first other _ c d d' _ k tt' th tf f g h ld ld') =
        by_kind e (Kind-F.If test first (Some other)) k
        (plain_near e.ty _ _ _ _ ((room_of test).branch + (room_of first).value + 5 + (room_of other).value)
        (λ le. if_else_have (code_of test) (code_of first) (code_of other) (room_of test) (room_of first) (room_of other) (near test a c f) (near first c d g) (near other c d' h) (fits first) (fits other) le))
    near e a c (Formed.While _ label test body _ loop _ d k t tt' tb la f g lc) =
        by_kind e (Kind-F.While label test body) k
        (plain_near e.ty _ _ _ _ ((room_of test).branch + (room_of body).value + 1 + 5)
        (λ le. while_have (code_of test) (code_of body) (room_of test) (room_of body) (near test loop c f) (near body c d g) (fits test) (fits body) le))

    all_near : (es : List Core) (a b : Assigned) → FormedAll locals es a b → AllNear es
    all_near [] a b (FormedAll.NoMore _) = tt
    all_near (e ∷ es) a b (FormedAll.Next _ _ _ c _ f g) = (near e a c f, all_near es c b g)

-- ---- a whole body

body_have : (constants : Slots) (f : Function) → IsSmall constants f → HaveInstructions (body_code f.body)
body_have constants f small =
    let x = code_of f.body in
    let w = within f in
    let s = small.weight in
    have_then x.goes_on x.code (discards f.body.ty ++ Leave ∷ []) ((near f.locals small.locals f.body _ _ small.formed.body).value (omega (arith, w, s)))
    (have_both (discards f.body.ty) (Leave ∷ []) (discards_have f.body.ty) (tt, tt))

body_room : (constants : Slots) (f : Function) → IsSmall constants f → HasRoom constants (body_code f.body)
body_room constants f small = let b = (body_fits f).1 in let r = small.room in omega (arith, b, r)

-- so a small function is never too large
pub small_fits : (constants after : Slots) (f : Function) (old new : CodeBuffer) → IsSmall constants f → old.fits ≡ true → Emits old new constants after (body_code f.body) → new.fits ≡ true
small_fits constants after f old new small on e = e.fits on (body_have constants f small) (body_room constants f small)

pub too_large : (constants after : Slots) (f : Function) (old new : CodeBuffer) (length_of locals deepest : ℕ) (room : Bool) → old.fits ≡ true → Emits old new constants after (body_code f.body) → length_of ≡ bytes (body_code f.body) → locals ≡ length f.locals → deepest ≡ depth_of f.body → (new.fits ≡ true → length_of ≤ 65535 → locals ≤ 65535 → deepest ≤ 65535 → room ≡ true) → room ≡ false → IsSmall constants f → ⊥
too_large constants after f old new length_of locals deepest room on e l n d big off small =
    let b = (body_fits f).1 in
    let w = small.weight in
    let v = small.locals in
    let low = depth_low f.body in
    let yes = big (small_fits constants after f old new small on e) (omega (arith, l, b, w)) (omega (arith, n, v)) (omega (arith, d, low, w)) in
    absurd (let clash = sym yes ∙ off in cc)
