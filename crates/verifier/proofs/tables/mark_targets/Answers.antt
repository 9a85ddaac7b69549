use Rattle.std.proofs.Common.{ℕ, ◌+◌, drop, arith, subst, sym, ap, ◌∙◌}
use Rattle.class_file.specs.Verification.{jump_of}
use Rattle.verifier.specs.Flags.{marked, MarksTargets}
use Rattle.verifier.proofs.Marks.{blank_targets, one_target, all_targets}
use Rattle.verifier.proofs.tables.mark_targets.Goals as goal

pub loop-instr-init : goal.loop-instr-init
loop-instr-init c = record { short = omega arith; marks = blank_targets c.args.count c.args.flags.now.items c.args.code.now c.requires.blank }

pub loop-instr-preserved : goal.loop-instr-preserved
loop-instr-preserved c =
    let flags = c.loop-instr.flags.items in
    let new = c.mark.new.flags.items in
    let code = c.args.code.now in
    let k = c.loop-instr.instr-index in
    let at = c.loop-instr.at in
    record {
      short = omega (arith, c.length_of-at.ensures.small, c.loop-instr.invariant.short);
      marks = subst (λ (n : ℕ). MarksTargets new code (at + n) (drop (k + 1) code)) (sym c.length_of-at.ensures.exact)
          (one_target flags new code at k (c.mark.ensures ∙ ap (marked flags) (c.jump_of.ensures ∙ ap jump_of c.row_of.ensures)) c.loop-instr-test.true c.loop-instr.invariant.marks);
    }

pub returns : goal.returns
returns c = all_targets c.loop-instr.flags.items c.args.code.now c.loop-instr.at c.loop-instr.instr-index c.loop-instr-test.false c.loop-instr.invariant.marks
