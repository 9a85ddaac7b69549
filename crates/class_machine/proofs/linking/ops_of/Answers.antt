use Rattle.std.proofs.Common.{◌≡◌, ℕ, refl, ◌+◌, ◌++◌, length, get_or, ap, ◌∙◌, arith, length-append}
use Rattle.std.proofs.Math.ListN.{replicate}
use Rattle.std.proofs.lemmas.List.{length-replicate}
use Rattle.class_file.specs.declared.instr.Instr.TheVariants.{Nop}
use Rattle.class_file.specs.Rows.{length_of}
use Rattle.class_machine.specs.Links.{op_of}
use Rattle.class_machine.proofs.Linked.{one_more}
use Rattle.class_machine.proofs.linking.ops_of.Goals as goal

pub loop-instr-preserved : goal.loop-instr-preserved
loop-instr-preserved c =
    let code = c.args.code.now in
    let k = c.loop-instr.instr-index in
    let i = get_or code k Nop in
    let old = c.loop-instr.ops.items in
    let new = c.put.new.ops.items in
    let p : c.len-at.result ≡ length old = omega (arith, c.len-at.ensures) in
    let is : new ≡ old ++ replicate (length_of i) (op_of (length old) i) = c.in_ok-put.ensures ∙ rw (c.row_of.ensures, c.length_of-times.ensures.exact, p) refl in
    let len : length new ≡ length old + length_of i = ap length is ∙ length-append old _ ∙ ap (λ (n : ℕ). length old + n) (length-replicate (length_of i) (op_of (length old) i)) in
    record {
      all = one_more code k Nop old new _ c.loop-instr-test.true is c.loop-instr.invariant.all;
      short = omega (arith, len, c.length_of-times.ensures.exact, c.length_of-times.ensures.small, c.loop-instr.invariant.short);
    }
