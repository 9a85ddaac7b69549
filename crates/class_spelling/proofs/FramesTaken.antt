-- Frames that are read are spelled.
use Rattle.std.proofs.Common.{◌≡◌, ℕ, zero, suc, ◌+◌, ◌-◌, ◌^◌, ◌<◌, ◌≤◌, Bool, true, false, ltb, eqb, List, [], ◌∷◌, ◌++◌, length, take, drop, refl, sym, ap, ap₂, subst, ◌∙◌, append-nil, arith, length-append, length-drop, inl, inr}
use Rattle.std.specs.Prelude.{◌||◌, ◌&&◌}
use Rattle.std.proofs.lemmas.Bool.{eqb-true, eqb-false, ltb-true, ltb-false, lt-ltb, cases_lt}
use Rattle.std.proofs.lemmas.List.{take-append-drop, nil_from_length}
use Rattle.class_file.specs.declared.class.VType.{VType}
use Rattle.class_file.specs.declared.class.VType.TheVariants as type
use Rattle.class_file.specs.declared.class.Frame.{Frame}
use Rattle.class_file.specs.Pools.{Slots}
use Rattle.class_file.specs.InstrBytes.{u1}
use Rattle.class_file.specs.ClassBytes.{◌⌢◌, Is, U2, Each, Table, TypeIs, TypeNameIs, Before, place_behind, is_unset, FrameIs, FormIs, FramesAre, StackMapIs, behind_frame}
use Rattle.class_file.specs.ClassBytes as form
use Rattle.class_file.specs.Inputs.{◌>>=◌, read, table}
use Rattle.class_file.specs.FormatFaults.{type_at, object_at, uninitialized_at, frame, one_item, full_frame, more_locals, long_form, frame_at, frames_at, stack_map_at}
use Rattle.class_spelling.proofs.Takes.{Takes, take_then, take_given, take_last, take_as, take_if, take_fault, take_nothing, read_is, read8, take_number, take_number2, take_each, take_table}
use Rattle.class_spelling.proofs.AttributesTaken.{take_type_name}

-- ---- verification types

-- behind its tag
abbrev TypeBehind : Slots → ℕ → VType → List ℕ → Type 0
TypeBehind slots tag t bytes = TypeIs slots t (tag ∷ bytes)

plain_type : (slots : Slots) (t : VType) (tag n : ℕ) → eqb tag n ≡ true → TypeIs slots t (n ∷ []) → Takes (λ j. read t j) (TypeBehind slots tag)
plain_type slots t tag n e is = take_as (TypeBehind slots tag) (take_nothing t) (λ u bytes r. subst (λ (v : VType). TypeIs slots v (tag ∷ bytes)) (sym r.0) (subst (λ (b : List ℕ). TypeIs slots t b) (sym (ap₂ (λ x xs. x ∷ xs) (eqb-true tag n e) r.1)) is))

object_type : (slots : Slots) (tag : ℕ) → eqb tag 7 ≡ true → Takes (object_at slots) (TypeBehind slots tag)
object_type slots tag e = take_as (TypeBehind slots tag) (take_last (λ i name. read (type.Object name.value) name.rest) (λ name t. t ≡ type.Object name) (take_type_name slots) (λ i j name y f. read_is (type.Object name) j y f))
    (λ t bytes r. subst (λ (v : VType). TypeIs slots v (tag ∷ bytes)) (sym r.1) (u1 tag, bytes, refl, ap u1 (eqb-true tag 7 e), r.2))

uninitialized_type : (slots : Slots) (tag : ℕ) → eqb tag 8 ≡ true → Takes uninitialized_at (TypeBehind slots tag)
uninitialized_type slots tag e = take_as (TypeBehind slots tag) (take_last (λ i n. read (type.Uninitialized n.value) n.rest) (λ n t. t ≡ type.Uninitialized n) take_number2 (λ i j n y f. read_is (type.Uninitialized n) j y f))
    (λ t bytes r. subst (λ (v : VType). TypeIs slots v (tag ∷ bytes)) (sym r.1) (u1 tag, bytes, refl, ap u1 (eqb-true tag 8 e), r.2))

pub take_type : (slots : Slots) → Takes (type_at slots) (TypeIs slots)
unfolding type_at
take_type slots = take_as (TypeIs slots)
    (take_then _ (TypeBehind slots) (take_number read8) (λ i tag. let B = TypeBehind slots tag in
    take_if _ _ B (eqb tag 0) (λ e. plain_type slots type.Top tag 0 e refl) (λ _.
    take_if _ _ B (eqb tag 1) (λ e. plain_type slots type.Integer tag 1 e refl) (λ _.
    take_if _ _ B (eqb tag 2 || eqb tag 3) (λ _. take_fault _ B) (λ _.
    take_if _ _ B (eqb tag 4) (λ e. plain_type slots type.Long tag 4 e refl) (λ _.
    take_if _ _ B (eqb tag 5) (λ e. plain_type slots type.Null tag 5 e refl) (λ _.
    take_if _ _ B (eqb tag 6) (λ e. plain_type slots type.UninitializedThis tag 6 e refl) (λ _.
    take_if _ _ B (eqb tag 7) (λ e. object_type slots tag e) (λ _.
    take_if _ _ B (eqb tag 8) (λ e. uninitialized_type slots tag e) (λ _. take_fault _ B))))))))))
    (λ t bytes r. let s = r.1 in subst (TypeIs slots t) (sym (s.2 ∙ ap (λ (f : List ℕ). f ++ s.1) s.3.1)) s.4)

-- ---- frames

-- behind its tag
abbrev FrameBehind : Slots → Before → ℕ → Frame → List ℕ → Type 0
FrameBehind slots before tag f bytes = FrameIs slots before f (tag ∷ bytes)

abbrev few : Before → Type 0
few before = length before.locals < 2 ^ 16

framed : (slots : Slots) (before : Before) (delta : ℕ) (locals stack : List VType) (bytes : List ℕ) (f : Frame) → f ≡ frame before delta locals stack → length locals < 2 ^ 16
    → FormIs slots before (frame before delta locals stack) bytes → FrameIs slots before f bytes
framed slots before delta locals stack bytes f e lt is = subst (λ (f : Frame). FrameIs slots before f bytes) (sym e) (refl, lt, is)

take_same : (slots : Slots) (before : Before) (tag : ℕ) → few before → ltb tag 64 ≡ true → Takes (λ i. read (frame before tag before.locals []) i) (FrameBehind slots before tag)
take_same slots before tag lt e = take_as (FrameBehind slots before tag) (take_nothing (frame before tag before.locals [])) (λ f bytes r.
    framed slots before tag before.locals [] (tag ∷ bytes) f r.0 lt (form.same tag (ltb-true tag 64 e) refl refl refl (ap (λ (b : List ℕ). tag ∷ b) r.1)))

take_item : (slots : Slots) (before : Before) (delta : ℕ) → Takes (one_item slots before delta) (λ f bytes. (item : VType) × (f ≡ frame before delta before.locals (item ∷ [])) × TypeIs slots item bytes)
take_item slots before delta = take_last (λ i item. read (frame before delta before.locals (item.value ∷ [])) item.rest) (λ item f. f ≡ frame before delta before.locals (item ∷ [])) (take_type slots) (λ i j item y e. read_is (frame before delta before.locals (item ∷ [])) j y e)

take_short_item : (slots : Slots) (before : Before) (tag : ℕ) → few before → ltb tag 64 ≡ false → ltb tag 128 ≡ true → Takes (one_item slots before (tag - 64)) (FrameBehind slots before tag)
take_short_item slots before tag lt e e' = let le = ltb-false tag 64 e in let lt' = ltb-true tag 128 e' in take_as (FrameBehind slots before tag) (take_item slots before (tag - 64)) (λ f bytes r.
    framed slots before (tag - 64) before.locals (r.0 ∷ []) (tag ∷ bytes) f r.1 lt (form.one_item (tag - 64) r.0 (omega arith) refl refl refl (u1 tag, bytes, refl, ap u1 (back tag le), r.2)))
  where
    back : (n : ℕ) → 64 ≤ n → n ≡ 64 + (n - 64)
    back n le = omega arith

-- in a form with the difference in two bytes
abbrev LongBehind : Slots → Before → ℕ → ℕ → Frame → List ℕ → Type 0
LongBehind slots before tag delta f bytes = (first : List ℕ) → U2 delta first → FrameIs slots before f (tag ∷ (first ++ bytes))

take_chop : (slots : Slots) (before : Before) (tag delta : ℕ) → few before → 247 < tag → ltb tag 252 ≡ true → 251 - tag ≤ length before.locals
    → Takes (λ i. read (frame before delta (take (length before.locals - (251 - tag)) before.locals) []) i) (LongBehind slots before tag delta)
take_chop slots before tag delta lt above e room = take_as (LongBehind slots before tag delta) (take_nothing (frame before delta (take (length before.locals - (251 - tag)) before.locals) [])) (λ f bytes r first is. by_tag (eqb tag 251) refl f bytes r.0 r.1 first is)
  where
    front : List VType
    front = take (length before.locals - (251 - tag)) before.locals

    gone : List VType
    gone = drop (length before.locals - (251 - tag)) before.locals

    parts : before.locals ≡ front ++ gone
    parts = sym (take-append-drop (length before.locals - (251 - tag)) before.locals)

    counts : length gone ≡ 251 - tag
    counts = omega (arith, length-drop (length before.locals - (251 - tag)) before.locals)

    small : length front < 2 ^ 16
    small = omega (arith, ap length parts, length-append front gone)

    by_tag : (b : Bool) → eqb tag 251 ≡ b → (f : Frame) (bytes : List ℕ) → f ≡ frame before delta front [] → bytes ≡ [] → (first : List ℕ) → U2 delta first → FrameIs slots before f (tag ∷ (first ++ bytes))
    by_tag true e' f bytes r s first is =
        let same = eqb-true tag 251 e' in
        let none : gone ≡ [] = nil_from_length gone (omega (arith, counts)) in
        framed slots before delta front [] (tag ∷ (first ++ bytes)) f r small (form.same_extended delta refl (sym (parts ∙ ap (λ (g : List VType). front ++ g) none ∙ append-nil front)) refl (u1 tag, first ++ bytes, refl, ap u1 same, subst (U2 delta) (sym (ap (λ (b : List ℕ). first ++ b) s ∙ append-nil first)) is))
    by_tag false e' f bytes r s first is =
        let ne = eqb-false tag 251 e' in let lt' = ltb-true tag 252 e in
        framed slots before delta front [] (tag ∷ (first ++ bytes)) f r small (form.chop delta gone (omega (arith, counts, ne)) (omega (arith, counts)) refl parts refl
        (u1 tag, first ++ bytes, refl, ap u1 (let g : tag ≡ 251 - length gone = omega (arith, counts) in g), subst (U2 delta) (sym (ap (λ (b : List ℕ). first ++ b) s ∙ append-nil first)) is))

take_more : (slots : Slots) (before : Before) (tag delta : ℕ) → ltb tag 252 ≡ false → ltb tag 255 ≡ true → length before.locals + (tag - 251) ≤ 65535 → Takes (more_locals slots before delta (tag - 251)) (LongBehind slots before tag delta)
take_more slots before tag delta e e' room = let le = ltb-false tag 252 e in let lt = ltb-true tag 255 e' in
    take_as (LongBehind slots before tag delta) (take_last (λ i more. read (frame before delta (before.locals ++ more.value) []) more.rest) (λ more f. f ≡ frame before delta (before.locals ++ more) []) (take_each (take_type slots) (tag - 251)) (λ i j more y g. read_is (frame before delta (before.locals ++ more) []) j y g)) (λ f bytes r first is.
    let count = r.2.0 in
    framed slots before delta (before.locals ++ r.0) [] (tag ∷ (first ++ bytes)) f r.1 (omega (arith, length-append before.locals r.0))
    (form.append delta r.0 (omega arith) (omega arith) refl refl refl (u1 tag, first ++ bytes, refl, ap u1 (let g : tag ≡ 251 + length r.0 = omega arith in g), (first, bytes, refl, is, r.2.1))))

take_full : (slots : Slots) (before : Before) (tag delta : ℕ) → tag ≡ 255 → Takes (full_frame slots before delta) (LongBehind slots before tag delta)
take_full slots before tag delta e = take_as (LongBehind slots before tag delta)
    (take_then (λ i locals. table (type_at slots) locals.rest >>= λ stack. read (frame before delta locals.value stack.value) stack.rest) (λ locals f bytes. (stack : List VType) × (f ≡ frame before delta locals stack) × Table (TypeIs slots) stack bytes) (take_table (take_type slots))
    (λ i locals. take_last (λ j stack. read (frame before delta locals stack.value) stack.rest) (λ stack f. f ≡ frame before delta locals stack) (take_table (take_type slots)) (λ i j stack y g. read_is (frame before delta locals stack) j y g)))
    (λ f bytes r first is. let s = r.1 in let u = s.4 in
    framed slots before delta r.0 u.0 (tag ∷ (first ++ bytes)) f u.1 s.3.3.0 (form.full delta refl (u1 tag, first ++ bytes, refl, ap u1 e, (first, bytes, refl, is, (s.0, s.1, s.2, s.3, u.2)))))

take_long_item : (slots : Slots) (before : Before) (tag delta : ℕ) → few before → tag ≡ 247 → Takes (one_item slots before delta) (LongBehind slots before tag delta)
take_long_item slots before tag delta lt e = take_as (LongBehind slots before tag delta) (take_item slots before delta) (λ f bytes r first is.
    framed slots before delta before.locals (r.0 ∷ []) (tag ∷ (first ++ bytes)) f r.1 lt (form.one_item_extended delta r.0 refl refl refl (u1 tag, first ++ bytes, refl, ap u1 e, (first, bytes, refl, is, r.2))))

abbrev is_bad : Before → ℕ → Bool
is_bad before tag = ltb tag 247 || (ltb 247 tag && ltb tag 251 && ltb (length before.locals) (251 - tag)) || (ltb 251 tag && ltb tag 255 && ltb 65535 (length before.locals + (tag - 251)))

-- what a good tag says
record Good (before : Before) (tag : ℕ) : Type 0 where
  from : 247 ≤ tag
  chops : 247 < tag → tag < 251 → 251 - tag ≤ length before.locals
  appends : 251 < tag → tag < 255 → length before.locals + (tag - 251) ≤ 65535

good : (before : Before) (tag : ℕ) → is_bad before tag ≡ false → Good before tag
good before tag e =
    let n = none_of (ltb tag 247) (ltb 247 tag && ltb tag 251 && ltb (length before.locals) (251 - tag)) (ltb 251 tag && ltb tag 255 && ltb 65535 (length before.locals + (tag - 251))) e in
    record {
      from = ltb-false tag 247 n.0;
      chops = λ lt lt'. ltb-false (length before.locals) (251 - tag) (third (ltb 247 tag) (ltb tag 251) (ltb (length before.locals) (251 - tag)) n.1 (lt-ltb 247 tag lt) (lt-ltb tag 251 lt'));
      appends = λ lt lt'. ltb-false 65535 (length before.locals + (tag - 251)) (third (ltb 251 tag) (ltb tag 255) (ltb 65535 (length before.locals + (tag - 251))) n.2 (lt-ltb 251 tag lt) (lt-ltb tag 255 lt'));
    }
  where
    none_of : (a b c : Bool) → (a || b || c) ≡ false → (a ≡ false) × (b ≡ false) × (c ≡ false)
    none_of false false false e = (refl, refl, refl)
    none_of false false true e = absurd cc
    none_of false true c e = absurd cc
    none_of true b c e = absurd cc

    third : (a b c : Bool) → (a && b && c) ≡ false → a ≡ true → b ≡ true → c ≡ false
    third true true c e f g = e
    third true false c e f g = absurd cc
    third false b c e f g = absurd cc

room_of : (before : Before) (tag : ℕ) → Good before tag → 247 < tag → 251 - tag ≤ length before.locals
room_of before tag good lt = elim (cases_lt tag 251) [ inl below ↦ good.chops lt below | inr above ↦ omega arith ]

take_long : (slots : Slots) (before : Before) (tag delta : ℕ) → few before → tag < 256 → Good before tag → Takes (long_form slots before tag delta) (LongBehind slots before tag delta)
take_long slots before tag delta lt small good = take_if _ _ (LongBehind slots before tag delta) (eqb tag 247) (λ e. take_long_item slots before tag delta lt (eqb-true tag 247 e)) (λ e. let ne = eqb-false tag 247 e in let from = good.from in
    take_if _ _ (LongBehind slots before tag delta) (ltb tag 252) (λ f. take_chop slots before tag delta lt (omega (arith, ne)) f (room_of before tag good (omega (arith, ne)))) (λ f. let le = ltb-false tag 252 f in
    take_if _ _ (LongBehind slots before tag delta) (ltb tag 255) (λ g. take_more slots before tag delta f g (good.appends (omega arith) (ltb-true tag 255 g))) (λ g. let le' = ltb-false tag 255 g in take_full slots before tag delta (omega arith))))

pub take_frame : (slots : Slots) (before : Before) → few before → Takes (frame_at slots before) (FrameIs slots before)
unfolding frame_at
take_frame slots before lt = take_as (FrameIs slots before)
    (take_given _ (FrameBehind slots before) (take_number read8) (λ i tag piece is. let B = FrameBehind slots before tag in
    take_if _ _ B (ltb tag 64) (λ e. take_same slots before tag lt e) (λ e.
    take_if _ _ B (ltb tag 128) (λ e'. take_short_item slots before tag lt e e') (λ e'.
    take_if _ _ B (is_bad before tag) (λ _. take_fault _ B) (λ f.
    take_as B (take_then (λ i delta. long_form slots before tag delta.value delta.rest) (LongBehind slots before tag) take_number2 (λ j delta. take_long slots before tag delta lt is.0 (good before tag f)))
    (λ g bytes r. let s = r.1 in subst (λ (b : List ℕ). FrameIs slots before g (tag ∷ b)) (sym s.2) (s.4 s.0 s.3)))))))
    (λ f bytes r. let s = r.1 in subst (FrameIs slots before f) (sym (s.2 ∙ ap (λ (g : List ℕ). g ++ s.1) s.3.1)) s.4)

take_frames : (slots : Slots) (before : Before) (n : ℕ) → few before → Takes (frames_at slots n before) (λ fs bytes. (length fs ≡ n) × FramesAre slots before fs bytes)
unfolding frames_at
take_frames slots before zero lt = take_as (λ fs bytes. (length fs ≡ 0) × FramesAre slots before fs bytes) (take_nothing []) (λ fs bytes t. subst (λ (gs : List Frame). (length gs ≡ 0) × FramesAre slots before gs bytes) (sym t.0) (refl, t.1))
take_frames slots before (suc n) lt = take_as (λ fs bytes. (length fs ≡ suc n) × FramesAre slots before fs bytes)
    (take_given (λ i first. frames_at slots n (behind_frame first.value) first.rest >>= λ others. read (first.value ∷ others.value) others.rest)
    (λ x ys bytes. (xs : List Frame) × (ys ≡ x ∷ xs) × ((length xs ≡ n) × FramesAre slots (behind_frame x) xs bytes)) (take_frame slots before lt)
    (λ i x piece is. take_last (λ j others. read (x ∷ others.value) others.rest) (λ xs ys. ys ≡ x ∷ xs) (take_frames slots (behind_frame x) n is.1) (λ i j xs y e. read_is (x ∷ xs) j y e)))
    (λ ys bytes t. let s = t.1 in let m = s.4 in subst (λ (zs : List Frame). (length zs ≡ suc n) × FramesAre slots before zs bytes) (sym m.1) (ap suc m.2.0, (s.0, s.1, s.2, s.3, m.2.1)))

pub take_stack_map : (slots : Slots) (before : Before) → few before → Takes (stack_map_at slots before) (StackMapIs slots before)
unfolding stack_map_at
take_stack_map slots before lt = take_as (StackMapIs slots before) (take_then (λ i n. frames_at slots n.value before n.rest) (λ n fs bytes. (length fs ≡ n) × FramesAre slots before fs bytes) take_number2 (λ i n. take_frames slots before n lt))
    (λ fs bytes t. let s = t.1 in (s.0, s.1, s.2, subst (λ (n : ℕ). U2 n s.0) (sym s.4.0) s.3, s.4.1))
