use Rattle.std.proofs.Common.{◌++◌, ◌∷◌, [], sym, ◌∙◌}
use Rattle.stack_code.specs.Code.{code_of, discards, Leave}
use Rattle.stack_code.proofs.Emitting.{emits_then, emits_kept}
use Rattle.stack_code.proofs.method.emit_body.Goals as goal

pub returns-in_ok-leave : goal.returns-in_ok-leave
returns-in_ok-leave c =
    let body = c.args.body.now in
    let x = code_of body in
    emits_kept c.args.code.now c.emit.new.code c.leave.new.code c.args.pool.now c.emit.new.pool c.emit.new.pool x.goes_on x.code (discards body.ty ++ Leave ∷ []) (sym c.in_ok-emit.ensures.goes ∙ c.if-branch.true) c.in_ok-emit.ensures.emits
    (emits_then c.emit.new.code c.discard.new.code c.leave.new.code c.emit.new.pool c.emit.new.pool c.emit.new.pool (discards body.ty) (Leave ∷ []) (c.in_ok-discard.ensures c.emit.new.pool) (c.in_ok-leave.ensures c.emit.new.pool))
