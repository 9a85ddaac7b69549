use Rattle.std.proofs.Common.{◌≡◌, ◌-◌, ◌<◌, ℕ, List, length, Option, None, Some, get_or, sym, ap, ◌∙◌, arith}
use Rattle.std.specs.Prelude.{slice_get}
use Rattle.class_file.specs.declared.class.Frame.{Frame}
use Rattle.class_file.specs.declared.class.Method.{Method}
use Rattle.verifier.specs.Flags.{frame_for, frame_number, HasFrames}
use Rattle.verifier.proofs.FrameTable.{get_any, no_frame, a_frame}
use Rattle.verifier.proofs.tabled.TabledMethod.frame_at.Goals as goal

-- what stands in the table
number_is : (table : List (Option ℕ)) (fs : List Frame) (pc : ℕ) (x o : Option ℕ) → HasFrames table fs → pc < length table → x ≡ get_or table pc x → x ≡ o → frame_number 0 fs pc ≡ o
number_is table fs pc x o has h at is = sym (has.holds pc h) ∙ get_any table pc None x h ∙ sym at ∙ is

pub returns-in-None : goal.returns-in-None
returns-in-None c =
    let m = c.self.inside.method.now in
    let n = number_is c.self.inside.frames.items m.frames c.args.pc c.index.result.now None c.self.invariant.frames_are (omega (arith, c.len.ensures, c.if-pc-len.true)) c.index.ensures c.in-None.is in
    sym (no_frame 0 m.frames c.args.pc n) ∙ ap (λ (x : Method). frame_for x.frames c.args.pc) c.self.view_is

pub returns-in-Some : goal.returns-in-Some
returns-in-Some c =
    let m = c.self.inside.method.now in
    let n = c.in-Some.number in
    let o : Option ℕ = Some n in
    let found = a_frame 0 m.frames c.args.pc n (number_is c.self.inside.frames.items m.frames c.args.pc c.index.result.now o c.self.invariant.frames_are (omega (arith, c.len.ensures, c.if-pc-len.true)) c.index.ensures c.in-Some.is) in
    let same : n ≡ n - 0 = omega arith in
    c.frame_numbered.ensures ∙ ap (λ (l : List Frame). slice_get l n) c.as_slice-frames.ensures ∙ ap (slice_get m.frames) same ∙ found.is
    ∙ ap (λ (x : Method). frame_for x.frames c.args.pc) c.self.view_is
