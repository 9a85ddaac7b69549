use Rattle.std.proofs.Common.{sym, ◌∙◌}
use Rattle.kt_suffixes.proofs.Runs.{starts_as, leads_as}
use Rattle.kt_suffixes.specs.declared.moves.Move.TheVariants as move
use Rattle.kt_suffixes.proofs.table.look_at.Goals as goal

pub returns-in-Stop : goal.returns-in-Stop
returns-in-Stop c = sym (starts_as c.args.tokens.now c.args.endings.now c.args.at c.new-frames.result (move.Stop c.in-Stop.look) c.new-frames.ensures c.in_ok-look.ensures c.in-Stop.is c.requires)

pub returns-in-Stop-2 : goal.returns-in-Stop-2
returns-in-Stop-2 c =
    sym (starts_as c.args.tokens.now c.args.endings.now c.args.at c.new-frames.result (move.To c.in-To.place c.in-To.next) c.new-frames.ensures c.in_ok-look.ensures c.in-To.is c.requires
    ∙ leads_as c.args.tokens.now c.args.endings.now c.in-To.next c.in-To.place (move.Stop c.in-Stop-2.look) c.in_ok-look-2.ensures c.in-Stop-2.is c.requires)
