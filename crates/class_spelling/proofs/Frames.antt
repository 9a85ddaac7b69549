-- Frames that are spelled are read.
use Rattle.std.proofs.Common.{◌≡◌, ℕ, ◌+◌, ◌-◌, ◌^◌, ◌<◌, ◌≤◌, Bool, false, ltb, List, [], ◌∷◌, ◌++◌, length, take, refl, sym, ap, subst, ◌∙◌, append-nil, arith, length-append}
use Rattle.std.specs.Prelude.{◌||◌}
use Rattle.std.specs.List.{list_any}
use Rattle.std.proofs.lemmas.Bool.{le-ltb, lt-ltb}
use Rattle.std.proofs.Math.Seq.{take-append_seam}
use Rattle.class_file.specs.declared.class.VType.{VType}
use Rattle.class_file.specs.declared.class.VType.TheVariants as type
use Rattle.class_file.specs.declared.class.Frame.{Frame}
use Rattle.class_file.specs.Pools.{Slots}
use Rattle.class_file.specs.ClassBytes.{◌⌢◌, Is, U2, Each, Table, TypeIs, Before, place_behind, is_unset, FrameIs, FormIs, FramesAre, StackMapIs, behind_frame}
use Rattle.class_file.specs.ClassBytes as form
use Rattle.class_file.specs.Inputs.{Input, Reading}
use Rattle.class_file.specs.FormatFaults.{type_at, frame, one_item, full_frame, more_locals, frame_at, frames_at, stack_map_at}
use Rattle.class_spelling.proofs.Gives.{Gives, then, last, number2, byte, at_piece, nothing_read, without_end, by_else, by_then, each_gives, table_gives}
use Rattle.class_spelling.proofs.Attributes.{type_name_gives}

pub type_gives : (slots : Slots) (t : VType) → Gives (type_at slots) (TypeIs slots t) t
unfolding type_at
type_gives slots type.Top = last _ (byte 0) (λ i j. refl)
type_gives slots type.Integer = last _ (byte 1) (λ i j. refl)
type_gives slots type.Long = last _ (byte 4) (λ i j. refl)
type_gives slots type.Null = last _ (byte 5) (λ i j. refl)
type_gives slots type.UninitializedThis = last _ (byte 6) (λ i j. refl)
type_gives slots (type.Object name) = then _ (byte 7) (λ i. last _ (type_name_gives slots name) (λ i j. refl))
type_gives slots (type.Uninitialized at) = then _ (byte 8) (λ i. last _ (number2 at) (λ i j. refl))

-- a frame that is spelled is the one that its form makes
made : (before : Before) (f : Frame) (delta : ℕ) (locals stack : List VType) → f.unset ≡ list_any is_unset f.locals → f.at ≡ place_behind before.at delta → f.locals ≡ locals → f.stack ≡ stack → frame before delta locals stack ≡ f
made before f delta locals stack unset stands l s =
    ap (λ (x : List VType). frame before delta x stack) (sym l) ∙ ap (λ (x : List VType). frame before delta f.locals x) (sym s)
    ∙ ap (λ (at : ℕ). record { at = at; locals = f.locals; stack = f.stack; unset = list_any is_unset f.locals }) (sym stands)
    ∙ ap (λ (u : Bool). record { at = f.at; locals = f.locals; stack = f.stack; unset = u }) (sym unset)

to_frame : {r : Input → Reading Frame} {P : List ℕ → Type 0} {x : Frame} (f : Frame) → x ≡ f → Gives r P x → Gives r P f
to_frame {r = r} {P = P} f e gives = subst (λ (x : Frame). Gives r P x) e gives

-- what stands behind the tag and the difference of the places
item_gives : (slots : Slots) (before : Before) (delta : ℕ) (item : VType) → Gives (one_item slots before delta) (TypeIs slots item) (frame before delta before.locals (item ∷ []))
item_gives slots before delta item = last _ (type_gives slots item) (λ i j. refl)

full_gives : (slots : Slots) (before : Before) (delta : ℕ) (locals stack : List VType) → Gives (full_frame slots before delta) (Table (TypeIs slots) locals ⌢ Table (TypeIs slots) stack) (frame before delta locals stack)
full_gives slots before delta locals stack = then _ (table_gives (type_gives slots) locals) (λ i. last _ (table_gives (type_gives slots) stack) (λ i j. refl))

more_gives : (slots : Slots) (before : Before) (delta n : ℕ) (more : List VType) → n ≡ length more → Gives (more_locals slots before delta n) (Each (TypeIs slots) more) (frame before delta (before.locals ++ more) [])
more_gives slots before delta n more e = subst (λ (n : ℕ). Gives (more_locals slots before delta n) (Each (TypeIs slots) more) (frame before delta (before.locals ++ more) [])) (sym e) (last _ (each_gives (type_gives slots) more) (λ i j. refl))

-- the locals that a form that takes some away leaves
left : (before locals gone : List VType) (n : ℕ) → n ≡ length gone → before ≡ locals ++ gone → locals ≡ take (length before - n) before
left before locals gone n e is =
    let count : length before - n ≡ length locals = omega (arith, ap length is, length-append locals gone) in
    sym (ap (λ (m : ℕ). take m before) count ∙ ap (take (length locals)) is ∙ take-append_seam locals gone)

reaches : (before locals gone : List VType) (n : ℕ) → n ≡ length gone → before ≡ locals ++ gone → n ≤ length before
reaches before locals gone n e is = omega (arith, ap length is, length-append locals gone)

chops : (m n : ℕ) → n ≤ m → (ltb m n || false) ≡ false
chops m n le = ap (λ (b : Bool). b || false) (le-ltb m n le)

appends : (before locals more : List VType) (n : ℕ) → n ≡ length more → locals ≡ before ++ more → length locals < 2 ^ 16 → ltb 65535 (length before + n) ≡ false
appends before locals more n e is few = le-ltb 65535 (length before + n) (omega (arith, ap length is, length-append before more))

form_gives : (slots : Slots) (before : Before) (f : Frame) (bytes : List ℕ) → f.unset ≡ list_any is_unset f.locals → length f.locals < 2 ^ 16 → FormIs slots before f bytes → Gives (frame_at slots before) (Is bytes) f
unfolding frame_at
form_gives slots before f bytes unset few (form.same delta small stands locals stack is) =
    to_frame f (made before f delta before.locals [] unset stands locals stack) (at_piece (without_end (then _ (byte delta) (λ i. by_then _ _ (ltb delta 64) (lt-ltb delta 64 small) (nothing_read (frame before delta before.locals []))))) bytes is)
form_gives slots before f bytes unset few (form.one_item delta item small stands locals stack is) =
    to_frame f (made before f delta before.locals (item ∷ []) unset stands locals stack) (at_piece (then _ (byte (64 + delta)) (λ i. by_else _ _ (ltb (64 + delta) 64) (le-ltb (64 + delta) 64 (omega arith))
    (by_then _ _ (ltb (64 + delta) 128) (lt-ltb (64 + delta) 128 (omega arith)) (subst (λ (d : ℕ). Gives (one_item slots before d) (TypeIs slots item) (frame before delta before.locals (item ∷ []))) (back delta) (item_gives slots before delta item))))) bytes is)
  where
    back : (d : ℕ) → d ≡ 64 + d - 64
    back d = omega arith
form_gives slots before f bytes unset few (form.one_item_extended delta item stands locals stack is) =
    to_frame f (made before f delta before.locals (item ∷ []) unset stands locals stack) (at_piece (then _ (byte 247) (λ i. then _ (number2 delta) (λ j. item_gives slots before delta item))) bytes is)
form_gives slots before f bytes unset few (form.chop delta [] some most stands locals stack is) = absurd (omega (arith, some))
form_gives slots before f bytes unset few (form.chop delta (g ∷ []) some most stands locals stack is) =
    to_frame f (made before f delta (take (length before.locals - 1) before.locals) [] unset stands (left before.locals f.locals (g ∷ []) 1 refl locals) stack)
    (at_piece (then _ (byte 250) (λ i. by_else _ _ _ (chops (length before.locals) 1 (reaches before.locals f.locals (g ∷ []) 1 refl locals)) (last _ (number2 delta) (λ j k. refl)))) bytes is)
form_gives slots before f bytes unset few (form.chop delta (g ∷ h ∷ []) some most stands locals stack is) =
    to_frame f (made before f delta (take (length before.locals - 2) before.locals) [] unset stands (left before.locals f.locals (g ∷ h ∷ []) 2 refl locals) stack)
    (at_piece (then _ (byte 249) (λ i. by_else _ _ _ (chops (length before.locals) 2 (reaches before.locals f.locals (g ∷ h ∷ []) 2 refl locals)) (last _ (number2 delta) (λ j k. refl)))) bytes is)
form_gives slots before f bytes unset few (form.chop delta (g ∷ h ∷ l ∷ []) some most stands locals stack is) =
    to_frame f (made before f delta (take (length before.locals - 3) before.locals) [] unset stands (left before.locals f.locals (g ∷ h ∷ l ∷ []) 3 refl locals) stack)
    (at_piece (then _ (byte 248) (λ i. by_else _ _ _ (chops (length before.locals) 3 (reaches before.locals f.locals (g ∷ h ∷ l ∷ []) 3 refl locals)) (last _ (number2 delta) (λ j k. refl)))) bytes is)
form_gives slots before f bytes unset few (form.chop delta (g ∷ h ∷ l ∷ m ∷ gone) some most stands locals stack is) = absurd (omega (arith, most))
form_gives slots before f bytes unset few (form.same_extended delta stands locals stack is) =
    to_frame f (made before f delta (take (length before.locals - 0) before.locals) [] unset stands (left before.locals f.locals [] 0 refl (sym locals ∙ sym (append-nil f.locals))) stack)
    (at_piece (then _ (byte 251) (λ i. last _ (number2 delta) (λ j k. refl))) bytes is)
form_gives slots before f bytes unset few (form.append delta [] some most stands locals stack is) = absurd (omega (arith, some))
form_gives slots before f bytes unset few (form.append delta (g ∷ []) some most stands locals stack is) =
    to_frame f (made before f delta (before.locals ++ g ∷ []) [] unset stands locals stack)
    (at_piece (then _ (byte 252) (λ i. by_else _ _ _ (appends before.locals f.locals (g ∷ []) 1 refl locals few) (then _ (number2 delta) (λ j. more_gives slots before delta 1 (g ∷ []) refl)))) bytes is)
form_gives slots before f bytes unset few (form.append delta (g ∷ h ∷ []) some most stands locals stack is) =
    to_frame f (made before f delta (before.locals ++ g ∷ h ∷ []) [] unset stands locals stack)
    (at_piece (then _ (byte 253) (λ i. by_else _ _ _ (appends before.locals f.locals (g ∷ h ∷ []) 2 refl locals few) (then _ (number2 delta) (λ j. more_gives slots before delta 2 (g ∷ h ∷ []) refl)))) bytes is)
form_gives slots before f bytes unset few (form.append delta (g ∷ h ∷ l ∷ []) some most stands locals stack is) =
    to_frame f (made before f delta (before.locals ++ g ∷ h ∷ l ∷ []) [] unset stands locals stack)
    (at_piece (then _ (byte 254) (λ i. by_else _ _ _ (appends before.locals f.locals (g ∷ h ∷ l ∷ []) 3 refl locals few) (then _ (number2 delta) (λ j. more_gives slots before delta 3 (g ∷ h ∷ l ∷ []) refl)))) bytes is)
form_gives slots before f bytes unset few (form.append delta (g ∷ h ∷ l ∷ m ∷ more) some most stands locals stack is) = absurd (omega (arith, most))
form_gives slots before f bytes unset few (form.full delta stands is) =
    to_frame f (made before f delta f.locals f.stack unset stands refl refl) (at_piece (then _ (byte 255) (λ i. then _ (number2 delta) (λ j. full_gives slots before delta f.locals f.stack))) bytes is)

pub frame_gives : (slots : Slots) (before : Before) (f : Frame) → Gives (frame_at slots before) (FrameIs slots before f) f
frame_gives slots before f = record { gives = λ at piece rest is. (form_gives slots before f piece is.0 is.1 is.2).gives at piece rest refl }

frames_give : (slots : Slots) (before : Before) (fs : List Frame) → Gives (frames_at slots (length fs) before) (FramesAre slots before fs) fs
unfolding frames_at
frames_give slots before [] = nothing_read []
frames_give slots before (f ∷ fs) = then _ (frame_gives slots before f) (λ i. last _ (frames_give slots (behind_frame f) fs) (λ i j. refl))

pub stack_map_gives : (slots : Slots) (before : Before) (fs : List Frame) → Gives (stack_map_at slots before) (StackMapIs slots before fs) fs
unfolding stack_map_at
stack_map_gives slots before fs = then _ (number2 (length fs)) (λ i. frames_give slots before fs)
