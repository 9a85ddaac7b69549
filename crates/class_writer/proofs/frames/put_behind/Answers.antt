use Rattle.std.proofs.Common.{◌≡◌, ◌++◌, ◌∷◌, ℕ, ◌+◌, ◌-◌, List, drop, take, length, sym, ap, ◌∙◌, append_assoc}
use Rattle.std.proofs.lemmas.List.{take_rest}
use Rattle.class_file.specs.declared.class.Frame.{Frame}
use Rattle.class_file.specs.Pools.{Slots}
use Rattle.class_file.specs.ClassBytes.{behind_frame}
use Rattle.class_file.specs.Fronts.{fronts_behind}
use Rattle.class_file.specs.WrittenClass.{delta_of, form_bytes, frames_bytes}
use Rattle.std.proofs.Common.{Some}
use Rattle.class_writer.specs.Indexes.{slots_of}
use Rattle.class_writer.proofs.Spelled.{left_is, first_fits, first_behind, rest_spelled}
use Rattle.class_writer.proofs.frames.put_behind.Invariants.{Left}
use Rattle.class_writer.proofs.frames.put_behind.Goals as goal

fronts_left : (fronts : List ℕ) (before f : Frame) (rest left : List Frame) → left ≡ f ∷ rest → fronts ≡ fronts_behind before.locals left → take (length fronts - 1) (drop 1 fronts) ≡ fronts_behind f.locals rest
fronts_left fronts before f rest left e is = take_rest fronts 1 ∙ ap (drop 1) is ∙ ap (λ (fs : List Frame). drop 1 (fronts_behind before.locals fs)) e

next_left : (slots : Slots) (out new old : List ℕ) (before first f : Frame) (rest left frames : List Frame) (fronts : List ℕ) (delta : ℕ) → left ≡ f ∷ rest → Left slots out old before first left frames fronts → new ≡ out ++ form_bytes slots delta f before.locals f.stack → delta ≡ delta_of (Some before.at) f.at → Left slots new old f first rest frames (take (length fronts - 1) (drop 1 fronts))
next_left slots out new old before first f rest left frames fronts delta e l put is =
    let written = frames_bytes slots (behind_frame f) rest in
    record {
      written =
          ap (λ (n : List ℕ). n ++ written) put
          ∙ append_assoc out (form_bytes slots delta f before.locals f.stack) written
          ∙ ap (λ (d : ℕ). out ++ (form_bytes slots d f before.locals f.stack ++ written)) is
          ∙ ap (λ (fs : List Frame). out ++ frames_bytes slots (behind_frame before) fs) (sym e)
          ∙ l.written;
      small = (first_fits slots (behind_frame before) left rest f e l.spelled l.small).0.1;
      spelled = rest_spelled slots (behind_frame before) left rest f e l.spelled;
      in_common = fronts_left fronts before f rest left e l.in_common;
    }

pub delta_of-delta-requires : goal.delta_of-delta-requires
delta_of-delta-requires c =
    first_behind (slots_of c.args.names.now) (behind_frame c.loop-frame.before.now) (drop c.loop-frame.frame-index c.args.frames.now) (drop (c.loop-frame.frame-index + 1) c.args.frames.now) c.frame-item.result (left_is c.args.frames.now c.loop-frame.frame-index c.frame-item.result c.loop-frame-test.true c.frame-item.is) c.loop-frame.invariant.spelled

pub put_form-requires-clause-fits : goal.put_form-requires-clause-fits
put_form-requires-clause-fits c =
    first_fits (slots_of c.args.names.now) (behind_frame c.loop-frame.before.now) (drop c.loop-frame.frame-index c.args.frames.now) (drop (c.loop-frame.frame-index + 1) c.args.frames.now) c.frame-item.result (left_is c.args.frames.now c.loop-frame.frame-index c.frame-item.result c.loop-frame-test.true c.frame-item.is) c.loop-frame.invariant.spelled c.loop-frame.invariant.small

pub loop-frame-preserved : goal.loop-frame-preserved
loop-frame-preserved c =
    next_left (slots_of c.args.names.now) c.loop-frame.out.items c.put_form.new.out.items c.args.out.now.items c.loop-frame.before.now c.args.first.now c.frame-item.result (drop (c.loop-frame.frame-index + 1) c.args.frames.now) (drop c.loop-frame.frame-index c.args.frames.now) c.args.frames.now c.loop-frame.left.now c.delta_of-delta.result (left_is c.args.frames.now c.loop-frame.frame-index c.frame-item.result c.loop-frame-test.true c.frame-item.is) c.loop-frame.invariant c.in_ok-put_form-in-len1-up.ensures c.delta_of-delta.ensures
