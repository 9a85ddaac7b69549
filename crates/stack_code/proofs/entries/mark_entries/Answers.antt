use Rattle.std.proofs.Common.{ℕ, ◌+◌, drop, get_or, arith, subst, sym, ap, refl, ◌∙◌}
use Rattle.std.specs.Prelude.{if◌then◌else◌, Option, Some, None, Bool}
use Rattle.class_file.specs.Rows.{row_of}
use Rattle.class_file.specs.declared.instr.Instr.TheVariants.{Nop}
use Rattle.class_file.specs.Verification.{jump_of, goes_on}
use Rattle.stack_code.specs.Walking.{flagged, HasEntries}
use Rattle.stack_code.proofs.Entering.{no_entries, one_entry, all_entries}
use Rattle.stack_code.proofs.entries.mark_entries.Goals as goal

pub loop-instr-init : goal.loop-instr-init
loop-instr-init c = record { short = omega arith; marks = no_entries c.args.count c.args.flags.now.items c.args.code.now c.requires.blank }

pub loop-instr-preserved : goal.loop-instr-preserved
loop-instr-preserved c =
    let flags = c.loop-instr.flags.items in
    let mid = c.mark.new.flags.items in
    let new = c.mark-in-loop-instr.new.flags.items in
    let code = c.args.code.now in
    let k = c.loop-instr.instr-index in
    let at = c.loop-instr.at in
    let i = get_or code k Nop in
    let behind = λ (goes : Bool) (n : ℕ). let o : Option ℕ = if goes then None else Some (at + n) in o in
    record {
      short = omega (arith, c.length_of-at.ensures.small, c.loop-instr.invariant.short);
      marks = subst (λ (n : ℕ). HasEntries new code c.args.count (at + n) (drop (k + 1) code)) (sym c.length_of-at.ensures.exact)
          (one_entry flags mid new code c.args.count at k i Nop refl (c.mark.ensures ∙ ap (flagged flags) (c.jump_of.ensures ∙ ap jump_of c.row_of-in-loop-instr.ensures))
          (c.mark-in-loop-instr.ensures ∙ ap (flagged mid) (c.place_behind.ensures ∙ ap (λ b. behind b c.length_of-at.result) (c.goes_on-goes.ensures ∙ ap goes_on c.row_of.ensures) ∙ ap (behind (goes_on (row_of at i))) c.length_of-at.ensures.exact)) c.loop-instr-test.true c.loop-instr.invariant.marks);
    }

pub returns : goal.returns
returns c = all_entries c.loop-instr.flags.items c.args.code.now c.args.count c.loop-instr.at c.loop-instr.instr-index c.loop-instr-test.false c.loop-instr.invariant.marks
