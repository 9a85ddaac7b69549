use Rattle.std.proofs.Common.{length, sym, ◌∙◌, arith}
use Rattle.kc_types.proofs.Nodes.{node_is}
use Rattle.kc_types.proofs.Growth.{parts_up}
use Rattle.kc_types.proofs.table.TypeTable.view.Goals as goal

pub returns-clause-only : goal.returns-clause-only
returns-clause-only c ty node e =
    let parts = parts_up c.args.id.0 (length c.args.self.now) (omega (arith, c.requires)) c.at.result.0.now c.at.ensures.stands.parts in
    node_is c.args.self.now c.at.ensures.different c.at.result.0.now ty parts node.parts (sym c.at.ensures.stands.tree ∙ c.at.ensures.is ∙ e)
