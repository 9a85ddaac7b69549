use Rattle.std.proofs.Common.{ℕ, ◌+◌, suc, ap, sym, refl, ◌∙◌, arith}
use Rattle.std.proofs.Common.{◌≡◌}
use Rattle.class_machine.specs.Plain.{moved_times}
use Rattle.class_machine.specs.Stacks.{shown}
use Rattle.class_machine.proofs.Moving.{once_more, goes_here, stops_here}
use Rattle.class_machine.proofs.frames.move_on.Goals as goal

pub loop-made-init : goal.loop-made-init
loop-made-init c = record { moved = refl; same = record { class_is = refl; method_is = refl; starts_is = refl } }

pub op_in-op-requires : goal.op_in-op-requires
op_in-op-requires c = let h = c.requires.row_after c.loop-made.made (shown c.loop-made.f) c.loop-made.invariant.moved in record { op = h.op; is = h.is }

pub plain-requires-clause-goes : goal.plain-requires-clause-goes
plain-requires-clause-goes c =
    goes_here c.args.ops.now (shown c.loop-made.f) c.op_in-op.result (c.requires.row_after c.loop-made.made (shown c.loop-made.f) c.loop-made.invariant.moved) c.op_in-op.ensures

pub returns-else-is_plain-clause-stops : goal.returns-else-is_plain-clause-stops
returns-else-is_plain-clause-stops c = λ lt o e.
    stops_here c.args.ops.now c.loop-made.f.at c.op_in-op.result o c.op_in-op.ensures (sym c.is_plain.ensures ∙ c.if-is_plain.false) e

pub loop-made-preserved : goal.loop-made-preserved
loop-made-preserved c =
    let i : c.loop-made.made + 1 ≡ suc c.loop-made.made = omega arith in
    let d = c.in_ok-plain.ensures in
    let s = c.loop-made.invariant.same in
    record {
      moved = ap (λ (k : ℕ). moved_times c.args.ops.now k (shown c.args.f.now)) i ∙ once_more c.args.ops.now c.loop-made.made (shown c.args.f.now) c.op_in-op.result c.loop-made.f c.plain.new.f c.loop-made.invariant.moved c.op_in-op.ensures d;
      same = record { class_is = d.1.class_is ∙ s.class_is; method_is = d.1.method_is ∙ s.method_is; starts_is = d.1.starts_is ∙ s.starts_is };
    }
