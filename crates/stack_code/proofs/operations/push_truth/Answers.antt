use Rattle.std.proofs.Common.{◌∷◌, [], pos}
use Rattle.stack_code.specs.Code.{PushInt, Jump}
use Rattle.stack_code.proofs.Emitting.{emits_then}
use Rattle.stack_code.proofs.operations.push_truth.Goals as goal

pub returns : goal.returns
returns c pool =
    emits_then c.args.code.now c.push_bool.new.code c.push_bool-2.new.code pool pool pool (PushInt (pos 1) ∷ []) (Jump (pos 4) ∷ PushInt (pos 0) ∷ []) (c.in_ok-push_bool.ensures pool)
    (emits_then c.push_bool.new.code c.jump.new.code c.push_bool-2.new.code pool pool pool (Jump (pos 4) ∷ []) (PushInt (pos 0) ∷ []) (c.in_ok-jump.ensures pool) (c.in_ok-push_bool-2.ensures pool))
