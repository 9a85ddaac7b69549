use Rattle.std.proofs.Common.{◌≡◌, List, Bool, true, refl, ap, subst, map, reverse, ◌∙◌}
use Rattle.kc_core.specs.declared.tree.Local.{Local}
use Rattle.kc_core.specs.Formed.{Assigned, none_assigned}
use Rattle.stack_code.specs.declared.frames.Walk.{Walk}
use Rattle.stack_code.specs.declared.frames.Operand.{Operand}
use Rattle.stack_code.specs.Code.{discards}
use Rattle.stack_code.specs.Frames.{Known, traced_of, in_line, nothing_known}
use Rattle.stack_code.specs.Walking.{operand_type, set_of, known_of, DoesLine, WalksOne}
use Rattle.stack_code.proofs.Entering.{blank_is, body_frames}
use Rattle.stack_code.proofs.method.frames_of.Goals as goal

pub returns : goal.returns
returns c =
    let s : Walk = record { at = 0; assigned = c.in_ok-blank.field-0; stack = c.new.result; frames = c.new-2.result } in
    let f = c.args.function.now in
    let flags = c.in_ok-entries.entries.items in
    let start : known_of s ≡ nothing_known = ap (λ (a : Assigned). let k : Known = record { assigned = a; stack = map operand_type (reverse c.new.result.items) } in k) (blank_is _ c.in_ok-blank.field-0.items c.in_ok-blank.ensures) ∙ ap (λ (xs : List Operand). let k : Known = record { assigned = none_assigned; stack = map operand_type (reverse xs) } in k) c.new.ensures.items in
    let d = subst (λ (ls : List Local). DoesLine ls (set_of flags) true s c.walk_discarded.new.walk (traced_of f.body) (discards f.body.ty) (in_line (discards f.body.ty)) c.in_ok-goes.goes) c.as_slice-locals.ensures
    (subst (λ (fl : List Bool). DoesLine c.as_slice-locals.result.now (set_of fl) true s c.walk_discarded.new.walk (traced_of f.body) (discards f.body.ty) (in_line (discards f.body.ty)) c.in_ok-goes.goes) c.deref.ensures.value c.in_ok-goes.ensures) in
    let w = subst (λ (ls : List Local). WalksOne ls (set_of flags) c.in_ok-goes.goes c.walk_discarded.new.walk c.pass.new.walk 1) c.as_slice-locals.ensures
    (subst (λ (fl : List Bool). WalksOne c.as_slice-locals.result.now (set_of fl) c.in_ok-goes.goes c.walk_discarded.new.walk c.pass.new.walk 1) c.deref-2.ensures.value c.in_ok-pass.ensures) in
    body_frames f flags c.args.code.now c.args.count c.in_ok-goes.goes s c.walk_discarded.new.walk c.pass.new.walk c.in_ok-entries.ensures c.requires.bytes refl c.new-2.ensures.items start d w
