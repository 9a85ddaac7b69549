use Rattle.std.proofs.Common.{◌+◌, ◌<◌, ◌≤◌, Bool, length, drop, map, sym, ap, ◌∙◌, arith}
use Rattle.std.specs.Prelude.{◌&&◌}
use Rattle.class_file.specs.Typing.{all_assignable}
use Rattle.verifier_types.specs.declared.types.VerificationType.TheVariants.{Top}
use Rattle.verifier_types.specs.Seen.{type_of}
use Rattle.verifier.proofs.Fitting.{other_length, next_types, no_types, stack_is}
use Rattle.verifier.proofs.given.stack_fits.Goals as goal

pub returns-then-stack-types : goal.returns-then-stack-types
returns-then-stack-types c = sym (other_length c.args.set.now c.args.stack.now c.args.types.now c.if-stack-types.true)

pub returns-then-not-assignable : goal.returns-then-not-assignable
returns-then-not-assignable c =
    let lt : c.loop-at.at < length c.args.stack.now = omega arith in
    sym (next_types c.args.set.now c.args.stack.now c.args.types.now c.loop-at.at Top c.index-types-at.result c.given.result c.assignable.result lt c.loop-at.invariant.lengths c.index-types-at.is c.given.ensures c.assignable.ensures
    ∙ ap (λ (b : Bool). b && all_assignable c.args.set.now (drop (c.loop-at.at + 1) (map type_of c.args.stack.now)) (drop (c.loop-at.at + 1) c.args.types.now)) c.if-not-assignable.true)
    ∙ c.loop-at.invariant.same ∙ sym (stack_is c.args.set.now c.args.stack.now c.args.types.now)

pub loop-at-preserved : goal.loop-at-preserved
loop-at-preserved c =
    let lt : c.loop-at.at < length c.args.stack.now = omega arith in
    record {
      lengths = c.loop-at.invariant.lengths;
      same =
          sym (next_types c.args.set.now c.args.stack.now c.args.types.now c.loop-at.at Top c.index-types-at.result c.given.result c.assignable.result lt c.loop-at.invariant.lengths c.index-types-at.is c.given.ensures c.assignable.ensures
          ∙ ap (λ (b : Bool). b && all_assignable c.args.set.now (drop (c.loop-at.at + 1) (map type_of c.args.stack.now)) (drop (c.loop-at.at + 1) c.args.types.now)) c.if-not-assignable.false)
          ∙ c.loop-at.invariant.same;
    }

pub returns : goal.returns
returns c =
    let le : length c.args.stack.now ≤ c.loop-at.at = omega arith in
    sym (no_types c.args.set.now c.args.stack.now c.args.types.now c.loop-at.at le c.loop-at.invariant.lengths) ∙ c.loop-at.invariant.same ∙ sym (stack_is c.args.set.now c.args.stack.now c.args.types.now)
