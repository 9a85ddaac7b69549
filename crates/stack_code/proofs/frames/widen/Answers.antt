use Rattle.std.proofs.Common.{false, [], ◌∷◌, length, ap, ◌∙◌, arith}
use Rattle.std.proofs.lemmas.List.{length-append}
use Rattle.stack_code.specs.Walking.{set_of}
use Rattle.stack_code.proofs.Walks.{unset_behind}
use Rattle.stack_code.proofs.frames.widen.Goals as goal

pub loop-preserved : goal.loop-preserved
loop-preserved c =
    let l = ap length c.in_ok-push.ensures.items in
    let m = length-append c.loop.flags.items (false ∷ []) in
    (omega (arith, l, m, c.loop.invariant.0), ap set_of c.in_ok-push.ensures.items ∙ unset_behind c.loop.flags.items ∙ c.loop.invariant.1)
