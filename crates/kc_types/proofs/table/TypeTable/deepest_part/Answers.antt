use Rattle.std.proofs.Common.{◌∙◌, arith}
use Rattle.kc_types.specs.Trees.{depth_of}
use Rattle.kc_types.specs.Tables.{tree_at}
use Rattle.kc_types.proofs.Tables.{deepest_more, larger}
use Rattle.kc_types.proofs.table.TypeTable.deepest_part.Goals as goal

pub loop-part-preserved : goal.loop-part-preserved
loop-part-preserved c =
    let e = deepest_more (λ t. depth_of (tree_at c.args.self.now t)) c.args.parts.now c.loop-part.part-index (record { 0 = 0 }) c.loop-part-test.true in
    let g = c.depth_at.ensures.exact in
    let h = c.max-depth.ensures ∙ larger c.loop-part.depth c.depth_at.result in
    let i = c.loop-part.invariant in
    let s = c.depth_at.ensures.small in
    (omega (arith, e, g, h, i.0), omega (arith, h, i.1, s))
