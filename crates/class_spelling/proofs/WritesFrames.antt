-- Where any bytes are a frame's, those that are written are, and they are no more.
use Rattle.std.proofs.Common.{◌≡◌, ℕ, ◌+◌, ◌-◌, ◌^◌, ◌<◌, ◌≤◌, Bool, true, false, cond, ltb, List, [], ◌∷◌, ◌++◌, length, Option, Some, None, refl, sym, ap, ap₂, subst, ◌∙◌, append-nil, arith, inl, inr, length-append, eq-eqb}
use Rattle.std.specs.Prelude.{◌⊎◌}
use Rattle.std.specs.List.{flat_map}
use Rattle.std.proofs.lemmas.Bool.{cases_lt, le-ltb, lt-ltb, ltb-true, eqb-true}
use Rattle.class_file.specs.declared.class.VType.{VType}
use Rattle.class_file.specs.declared.class.VType.TheVariants as type
use Rattle.class_file.specs.declared.class.Frame.{Frame}
use Rattle.class_file.specs.Pools.{Slots}
use Rattle.class_file.specs.InstrBytes.{u1, u2}
use Rattle.class_file.specs.ClassBytes.{◌⌢◌, Is, U2, Each, Table, TypeIs, Before, place_behind, FrameIs, FormIs, FramesAre, StackMapIs, behind_frame, Stands}
use Rattle.class_file.specs.ClassBytes as form
use Rattle.class_file.specs.WrittenClass.{type_bytes, behind, delta_of, same_bytes, item_bytes, full_bytes, longer_bytes, shorter_bytes, no_stack_bytes, one_item_bytes, form_bytes, frame_bytes, frames_bytes}
use Rattle.class_file.specs.Fronts.{is_type}
use Rattle.class_spelling.proofs.Texts.{same_text, text_is_itself}
use Rattle.class_spelling.proofs.Writes.{Writes, write_exact, write_then, write_number2, write_each, write_type_name}

pub write_type : (slots : Slots) (t : VType) → Writes (TypeIs slots t) (type_bytes slots t)
write_type slots type.Top = write_exact (u1 0)
write_type slots type.Integer = write_exact (u1 1)
write_type slots type.Long = write_exact (u1 4)
write_type slots type.Null = write_exact (u1 5)
write_type slots type.UninitializedThis = write_exact (u1 6)
write_type slots (type.Object name) = write_then (write_exact (u1 7)) (write_type_name slots name)
write_type slots (type.Uninitialized at) = write_then (write_exact (u1 8)) (write_number2 at)

-- ---- what stands behind

pub type_is_itself : (t : VType) → is_type t t ≡ true
type_is_itself type.Top = refl
type_is_itself type.Integer = refl
type_is_itself type.Long = refl
type_is_itself type.Null = refl
type_is_itself type.UninitializedThis = refl
type_is_itself (type.Object name) = text_is_itself name
type_is_itself (type.Uninitialized at) = eq-eqb at at refl

pub same_type : (t u : VType) → is_type t u ≡ true → t ≡ u
same_type type.Top type.Top e = refl
same_type type.Integer type.Integer e = refl
same_type type.Long type.Long e = refl
same_type type.Null type.Null e = refl
same_type type.UninitializedThis type.UninitializedThis e = refl
same_type (type.Object b) (type.Object c) e = ap type.Object (same_text b c e)
same_type (type.Uninitialized p) (type.Uninitialized q) e = ap type.Uninitialized (eqb-true p q e)
same_type t u e = absurd cc

behind_found : (ts more : List VType) → behind ts (ts ++ more) ≡ Some more
behind_found [] more = refl
behind_found (t ∷ ts) more = ap (λ (b : Bool). cond b (behind ts (ts ++ more)) None) (type_is_itself t) ∙ behind_found ts more

behind_is : (ts us more : List VType) → behind ts us ≡ Some more → us ≡ ts ++ more
behind_is [] us more e = cc
behind_is (t ∷ ts) [] more e = absurd cc
behind_is (t ∷ ts) (u ∷ us) more e = by (is_type t u) refl e (behind_is ts us more)
  where
    by : (b : Bool) → is_type t u ≡ b → cond b (behind ts us) None ≡ Some more → (behind ts us ≡ Some more → us ≡ ts ++ more) → u ∷ us ≡ t ∷ (ts ++ more)
    by true f e more = ap₂ (λ x xs. x ∷ xs) (sym (same_type t u f)) (more e)
    by false f e more = absurd cc

behind_none : (ts gone : List VType) → 0 < length gone → behind (ts ++ gone) ts ≡ None
behind_none [] [] some = absurd (omega arith)
behind_none [] (g ∷ gone) some = refl
behind_none (t ∷ ts) gone some = ap (λ (b : Bool). cond b (behind (ts ++ gone) ts) None) (type_is_itself t) ∙ behind_none ts gone some

-- ---- forms

delta_is : (at : Option ℕ) (delta place : ℕ) → place ≡ place_behind at delta → delta_of at place ≡ delta
delta_is None delta place e = e
delta_is (Some at) delta place e = omega (arith, e)

-- what is written is a form, and is no longer
abbrev Fine : Slots → Before → Frame → List ℕ → List ℕ → Type 0
Fine slots before f bytes w = FormIs slots before f w × (length w ≤ length bytes)

two : (n : ℕ) (b : List ℕ) → length (u2 n ++ b) ≡ 2 + length b
two n b = omega (arith, length-append (u2 n) b)

same_fine : (slots : Slots) (before : Before) (f : Frame) (bytes : List ℕ) (delta : ℕ) → delta < 2 ^ 16 → Stands before delta f → f.locals ≡ before.locals → f.stack ≡ [] → (delta < 64) ⊎ (3 ≤ length bytes) → 0 < length bytes → Fine slots before f bytes (same_bytes delta)
same_fine slots before f bytes delta lt stands locals stack short some = elim (cases_lt delta 64) [
  | inl small ↦ subst (Fine slots before f bytes) (sym (ap (λ (b : Bool). cond b (u1 delta) (u1 251 ++ u2 delta)) (lt-ltb delta 64 small))) (form.same delta small stands locals stack refl, omega arith)
  | inr large ↦ subst (Fine slots before f bytes) (sym (ap (λ (b : Bool). cond b (u1 delta) (u1 251 ++ u2 delta)) (le-ltb delta 64 large)))
      (form.same_extended delta stands locals stack (u1 251, u2 delta, refl, refl, (lt, refl)), elim short [ inl small ↦ absurd (omega arith) | inr long ↦ long ])
]

item_fine : (slots : Slots) (before : Before) (f : Frame) (bytes rest : List ℕ) (delta : ℕ) (item : VType) → delta < 2 ^ 16 → Stands before delta f → f.locals ≡ before.locals → f.stack ≡ item ∷ [] → TypeIs slots item rest
    → (delta < 64) ⊎ (3 + length rest ≤ length bytes) → 1 + length rest ≤ length bytes → Fine slots before f bytes (item_bytes slots delta item)
item_fine slots before f bytes rest delta item lt stands locals stack is short some =
    let x = (write_type slots item).writes rest is in let le = x.1 in let w = type_bytes slots item in
    elim (cases_lt delta 64) [
      | inl small ↦ subst (λ (b : List ℕ). Fine slots before f bytes (b ++ w)) (sym (ap (λ (b : Bool). cond b (u1 (64 + delta)) (u1 247 ++ u2 delta)) (lt-ltb delta 64 small)))
          (form.one_item delta item small stands locals stack (u1 (64 + delta), w, refl, refl, x.0), omega arith)
      | inr large ↦ subst (λ (b : List ℕ). Fine slots before f bytes (b ++ w)) (sym (ap (λ (b : Bool). cond b (u1 (64 + delta)) (u1 247 ++ u2 delta)) (le-ltb delta 64 large)))
          (form.one_item_extended delta item stands locals stack (u1 247, u2 delta ++ w, refl, refl, (u2 delta, w, refl, (lt, refl), x.0)), elim short [ inl small ↦ absurd (omega arith) | inr long ↦ omega (arith, two delta w) ])
    ]

append_fine : (slots : Slots) (before : Before) (f : Frame) (bytes rest : List ℕ) (delta : ℕ) (more : List VType) → delta < 2 ^ 16 → 0 < length more → length more < 4 → Stands before delta f → f.locals ≡ before.locals ++ more → f.stack ≡ []
    → Each (TypeIs slots) more rest → 3 + length rest ≤ length bytes → Fine slots before f bytes (u1 (251 + length more) ++ u2 delta ++ flat_map (type_bytes slots) more)
append_fine slots before f bytes rest delta more lt some most stands locals stack is long =
    let x = (write_each (type_bytes slots) (write_type slots) more).writes rest is in let le = x.1 in let w = flat_map (type_bytes slots) more in
    (form.append delta more some most stands locals stack (u1 (251 + length more), u2 delta ++ w, refl, refl, (u2 delta, w, refl, (lt, refl), x.0)), omega (arith, two delta w))

chop_fine : (slots : Slots) (before : Before) (f : Frame) (bytes : List ℕ) (delta : ℕ) (gone : List VType) → delta < 2 ^ 16 → 0 < length gone → length gone < 4 → Stands before delta f → before.locals ≡ f.locals ++ gone → f.stack ≡ []
    → 3 ≤ length bytes → Fine slots before f bytes (u1 (251 - length gone) ++ u2 delta)
chop_fine slots before f bytes delta gone lt some most stands locals stack long = (form.chop delta gone some most stands locals stack (u1 (251 - length gone), u2 delta, refl, refl, (lt, refl)), omega arith)

-- the whole frame
record Whole (slots : Slots) (f : Frame) (bytes : List ℕ) (delta : ℕ) : Type 0 where
  locals : List ℕ
  stack : List ℕ
  are_locals : Each (TypeIs slots) f.locals locals
  are_stack : Each (TypeIs slots) f.stack stack
  few : length f.locals < 2 ^ 16
  low : length f.stack < 2 ^ 16
  long : length bytes ≡ 7 + (length locals + length stack)

full_fine : (slots : Slots) (before : Before) (f : Frame) (bytes : List ℕ) (delta : ℕ) → delta < 2 ^ 16 → Stands before delta f → Whole slots f bytes delta → Fine slots before f bytes (full_bytes slots delta f)
full_fine slots before f bytes delta lt stands w =
    let x = (write_each (type_bytes slots) (write_type slots) f.locals).writes w.locals w.are_locals in
    let y = (write_each (type_bytes slots) (write_type slots) f.stack).writes w.stack w.are_stack in
    let l = flat_map (type_bytes slots) f.locals in let s = flat_map (type_bytes slots) f.stack in
    let le = x.1 in let le' = y.1 in (
      form.full delta stands (
        u1 255,
        u2 delta ++ ((u2 (length f.locals) ++ l) ++ (u2 (length f.stack) ++ s)),
        refl,
        refl,
        (
          u2 delta,
          (u2 (length f.locals) ++ l) ++ (u2 (length f.stack) ++ s),
          refl,
          (lt, refl),
          (u2 (length f.locals) ++ l, u2 (length f.stack) ++ s, refl, (u2 (length f.locals), l, refl, (w.few, refl), x.0), (u2 (length f.stack), s, refl, (w.low, refl), y.0)),
        ),
      ),
      omega (arith, w.long, length-append l (u2 (length f.stack) ++ s), two (length f.stack) s),
    )

-- which bytes are written
to_delta : (slots : Slots) (before : Before) (f : Frame) (delta : ℕ) → Stands before delta f → frame_bytes slots before f ≡ form_bytes slots delta f before.locals f.stack
to_delta slots before f delta stands = ap (λ (d : ℕ). form_bytes slots d f before.locals f.stack) (delta_is before.at delta f.at stands)

no_stack : (slots : Slots) (before : Before) (f : Frame) (delta : ℕ) (o : Option (List VType)) → Stands before delta f → f.stack ≡ [] → behind before.locals f.locals ≡ o → frame_bytes slots before f ≡ no_stack_bytes slots delta f before.locals o
no_stack slots before f delta o stands stack e = to_delta slots before f delta stands ∙ ap (form_bytes slots delta f before.locals) stack ∙ ap (no_stack_bytes slots delta f before.locals) e

one_item : (slots : Slots) (before : Before) (f : Frame) (delta : ℕ) (item : VType) (o : Option (List VType)) → Stands before delta f → f.stack ≡ item ∷ [] → behind before.locals f.locals ≡ o → frame_bytes slots before f ≡ one_item_bytes slots delta f item o
one_item slots before f delta item o stands stack e = to_delta slots before f delta stands ∙ ap (form_bytes slots delta f before.locals) stack ∙ ap (one_item_bytes slots delta f item) e

same_locals : (before : Before) (f : Frame) → f.locals ≡ before.locals → behind before.locals f.locals ≡ Some []
same_locals before f e = ap (behind before.locals) (e ∙ sym (append-nil before.locals)) ∙ behind_found before.locals []

each_suffix : {A : Type 0} (P : A → List ℕ → Type 0) (xs ys : List A) (bytes : List ℕ) → Each P (xs ++ ys) bytes → (rest : List ℕ) × Each P ys rest × (length rest ≤ length bytes)
each_suffix P [] ys bytes e = (bytes, e, omega arith)
each_suffix P (x ∷ xs) ys bytes e = let r = each_suffix P xs ys e.1 e.4 in let le = r.2 in (r.0, r.1, omega (arith, ap length e.2, length-append e.0 e.1))

longer_fine : (slots : Slots) (before : Before) (f : Frame) (bytes : List ℕ) (delta : ℕ) (more : List VType) → delta < 2 ^ 16 → Stands before delta f → Whole slots f bytes delta → f.stack ≡ [] → f.locals ≡ before.locals ++ more → Fine slots before f bytes (longer_bytes slots delta f more)
longer_fine slots before f bytes delta [] lt stands w stack locals = same_fine slots before f bytes delta lt stands (locals ∙ append-nil before.locals) stack (inr (omega (arith, w.long))) (omega (arith, w.long))
longer_fine slots before f bytes delta (t ∷ ts) lt stands w stack locals = by (ltb (length (t ∷ ts)) 4) refl
  where
    by : (b : Bool) → ltb (length (t ∷ ts)) 4 ≡ b → Fine slots before f bytes (cond b (u1 (251 + length (t ∷ ts)) ++ u2 delta ++ flat_map (type_bytes slots) (t ∷ ts)) (full_bytes slots delta f))
    by true e =
        let r = each_suffix (TypeIs slots) before.locals (t ∷ ts) w.locals (subst (λ (l : List VType). Each (TypeIs slots) l w.locals) locals w.are_locals) in let le = r.2 in
        append_fine slots before f bytes r.0 delta (t ∷ ts) lt (omega arith) (ltb-true (length (t ∷ ts)) 4 e) stands locals stack r.1 (omega (arith, w.long))
    by false e = full_fine slots before f bytes delta lt stands w

shorter_fine : (slots : Slots) (before : Before) (f : Frame) (bytes : List ℕ) (delta : ℕ) (o : Option (List VType)) → delta < 2 ^ 16 → Stands before delta f → Whole slots f bytes delta → f.stack ≡ [] → behind before.locals f.locals ≡ None → behind f.locals before.locals ≡ o
    → Fine slots before f bytes (shorter_bytes slots delta f o)
shorter_fine slots before f bytes delta None lt stands w stack none e = full_fine slots before f bytes delta lt stands w
shorter_fine slots before f bytes delta (Some gone) lt stands w stack none e = by (ltb (length gone) 4) refl
  where
    some : (gone : List VType) → behind f.locals before.locals ≡ Some gone → 0 < length gone
    some [] e = let g = same_locals before f (sym (behind_is f.locals before.locals [] e ∙ append-nil f.locals)) in absurd cc
    some (t ∷ ts) e = omega arith

    by : (b : Bool) → ltb (length gone) 4 ≡ b → Fine slots before f bytes (cond b (u1 (251 - length gone) ++ u2 delta) (full_bytes slots delta f))
    by true g = chop_fine slots before f bytes delta gone lt (some gone e) (ltb-true (length gone) 4 g) stands (behind_is f.locals before.locals gone e) stack (omega (arith, w.long))
    by false g = full_fine slots before f bytes delta lt stands w

one_item_fine : (slots : Slots) (before : Before) (f : Frame) (bytes : List ℕ) (delta : ℕ) (item : VType) (o : Option (List VType)) → delta < 2 ^ 16 → Stands before delta f → Whole slots f bytes delta → f.stack ≡ item ∷ [] → behind before.locals f.locals ≡ o
    → Fine slots before f bytes (one_item_bytes slots delta f item o)
one_item_fine slots before f bytes delta item (Some []) lt stands w stack e =
    let s : Each (TypeIs slots) (item ∷ []) w.stack = subst (λ (l : List VType). Each (TypeIs slots) l w.stack) stack w.are_stack in
    let n = length-append s.0 s.1 in
    item_fine slots before f bytes s.0 delta item lt stands (behind_is before.locals f.locals [] e ∙ append-nil before.locals) stack s.3 (inr (omega (arith, w.long, ap length s.2))) (omega (arith, w.long, ap length s.2))
one_item_fine slots before f bytes delta item (Some (t ∷ ts)) lt stands w stack e = full_fine slots before f bytes delta lt stands w
one_item_fine slots before f bytes delta item None lt stands w stack e = full_fine slots before f bytes delta lt stands w

-- from a full frame
from_full : (slots : Slots) (before : Before) (f : Frame) (bytes : List ℕ) (delta : ℕ) → delta < 2 ^ 16 → Stands before delta f → Whole slots f bytes delta → Fine slots before f bytes (frame_bytes slots before f)
from_full slots before f bytes delta lt stands w = by f.stack refl
  where
    by_behind : (o : Option (List VType)) → f.stack ≡ [] → behind before.locals f.locals ≡ o → Fine slots before f bytes (no_stack_bytes slots delta f before.locals o)
    by_behind (Some more) stack e = longer_fine slots before f bytes delta more lt stands w stack (behind_is before.locals f.locals more e)
    by_behind None stack e = shorter_fine slots before f bytes delta (behind f.locals before.locals) lt stands w stack e refl

    by : (stack : List VType) → f.stack ≡ stack → Fine slots before f bytes (frame_bytes slots before f)
    by [] e = subst (Fine slots before f bytes) (sym (no_stack slots before f delta (behind before.locals f.locals) stands e refl)) (by_behind (behind before.locals f.locals) e refl)
    by (item ∷ []) e = subst (Fine slots before f bytes) (sym (one_item slots before f delta item (behind before.locals f.locals) stands e refl)) (one_item_fine slots before f bytes delta item (behind before.locals f.locals) lt stands w e refl)
    by (item ∷ more ∷ items) e = subst (Fine slots before f bytes) (sym (to_delta slots before f delta stands ∙ ap (form_bytes slots delta f before.locals) e)) (full_fine slots before f bytes delta lt stands w)

form_fine : (slots : Slots) (before : Before) (f : Frame) (bytes : List ℕ) → FormIs slots before f bytes → Fine slots before f bytes (frame_bytes slots before f)
form_fine slots before f bytes (form.same delta small stands locals stack is) =
    subst (Fine slots before f bytes) (sym (no_stack slots before f delta (Some []) stands stack (same_locals before f locals))) (same_fine slots before f bytes delta (omega arith) stands locals stack (inl small) (omega (arith, ap length is)))
form_fine slots before f bytes (form.one_item delta item small stands locals stack is) =
    subst (Fine slots before f bytes) (sym (one_item slots before f delta item (Some []) stands stack (same_locals before f locals))) (item_fine slots before f bytes is.1 delta item (omega arith) stands locals stack is.4 (inl small) (omega (arith, ap length is.2, length-append is.0 is.1, ap length is.3)))
form_fine slots before f bytes (form.one_item_extended delta item stands locals stack is) =
    let t = is.4 in
    subst (Fine slots before f bytes) (sym (one_item slots before f delta item (Some []) stands stack (same_locals before f locals)))
    (let n : length bytes ≡ 3 + length t.1 = omega (arith, ap length is.2, length-append is.0 is.1, ap length is.3, ap length t.2, length-append t.0 t.1, ap length t.3.1) in
    item_fine slots before f bytes t.1 delta item t.3.0 stands locals stack t.4 (inr (omega (arith, n))) (omega (arith, n)))
form_fine slots before f bytes (form.chop delta gone some most stands locals stack is) =
    let none : behind before.locals f.locals ≡ None = ap (λ (b : List VType). behind b f.locals) locals ∙ behind_none f.locals gone some in
    let found : behind f.locals before.locals ≡ Some gone = ap (behind f.locals) locals ∙ behind_found f.locals gone in
    let written : frame_bytes slots before f ≡ u1 (251 - length gone) ++ u2 delta = no_stack slots before f delta None stands stack none ∙ ap (shorter_bytes slots delta f) found ∙ ap (λ (b : Bool). cond b (u1 (251 - length gone) ++ u2 delta) (full_bytes slots delta f)) (lt-ltb (length gone) 4 most) in
    subst (Fine slots before f bytes) (sym written) (chop_fine slots before f bytes delta gone is.4.0 some most stands locals stack (omega (arith, ap length is.2, length-append is.0 is.1, ap length is.3, ap length is.4.1)))
form_fine slots before f bytes (form.same_extended delta stands locals stack is) =
    let n : length bytes ≡ 3 = omega (arith, ap length is.2, length-append is.0 is.1, ap length is.3, ap length is.4.1) in
    subst (Fine slots before f bytes) (sym (no_stack slots before f delta (Some []) stands stack (same_locals before f locals))) (same_fine slots before f bytes delta is.4.0 stands locals stack (inr (omega (arith, n))) (omega (arith, n)))
form_fine slots before f bytes (form.append delta [] some most stands locals stack is) = absurd (omega (arith, some))
form_fine slots before f bytes (form.append delta (g ∷ more) some most stands locals stack is) =
    let t = is.4 in
    let n : length bytes ≡ 3 + length t.1 = omega (arith, ap length is.2, length-append is.0 is.1, ap length is.3, ap length t.2, length-append t.0 t.1, ap length t.3.1) in
    let written : frame_bytes slots before f ≡ u1 (251 + length (g ∷ more)) ++ u2 delta ++ flat_map (type_bytes slots) (g ∷ more) =
    no_stack slots before f delta (Some (g ∷ more)) stands stack (ap (behind before.locals) locals ∙ behind_found before.locals (g ∷ more))
    ∙ ap (λ (b : Bool). cond b (u1 (251 + length (g ∷ more)) ++ u2 delta ++ flat_map (type_bytes slots) (g ∷ more)) (full_bytes slots delta f)) (lt-ltb (length (g ∷ more)) 4 most) in
    subst (Fine slots before f bytes) (sym written) (append_fine slots before f bytes t.1 delta (g ∷ more) t.3.0 some most stands locals stack t.4 (omega (arith, n)))
form_fine slots before f bytes (form.full delta stands is) =
    let t = is.4 in let u = t.4 in
    from_full slots before f bytes delta t.3.0 stands (record {
      locals = u.3.1;
      stack = u.4.1;
      are_locals = u.3.4;
      are_stack = u.4.4;
      few = u.3.3.0;
      low = u.4.3.0;
      long = omega (arith, ap length is.2, length-append is.0 is.1, ap length is.3, ap length t.2, length-append t.0 t.1, ap length t.3.1, ap length u.2, length-append u.0 u.1, ap length u.3.2, length-append u.3.0 u.3.1, ap length u.3.3.1, ap length u.4.2, length-append u.4.0 u.4.1, ap length u.4.3.1);
    })

pub write_frame : (slots : Slots) (before : Before) (f : Frame) → Writes (FrameIs slots before f) (frame_bytes slots before f)
write_frame slots before f = record { writes = λ bytes t. let x = form_fine slots before f bytes t.2 in ((t.0, t.1, x.0), x.1) }

pub write_frames : (slots : Slots) (before : Before) (fs : List Frame) → Writes (FramesAre slots before fs) (frames_bytes slots before fs)
write_frames slots before [] = write_exact []
write_frames slots before (f ∷ fs) = write_then (write_frame slots before f) (write_frames slots (behind_frame f) fs)

pub write_stack_map : (slots : Slots) (before : Before) (fs : List Frame) → Writes (StackMapIs slots before fs) (u2 (length fs) ++ frames_bytes slots before fs)
write_stack_map slots before fs = write_then (write_number2 (length fs)) (write_frames slots before fs)
