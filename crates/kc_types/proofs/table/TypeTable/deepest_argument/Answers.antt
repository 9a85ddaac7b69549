use Rattle.std.proofs.Common.{◌∙◌, arith}
use Rattle.kc_types.specs.declared.types.TyArg.TheVariants as argument
use Rattle.kc_types.specs.Trees.{depth_of_argument}
use Rattle.kc_types.specs.Tables.{argument_at}
use Rattle.kc_types.proofs.Tables.{deepest_more, larger}
use Rattle.kc_types.proofs.table.TypeTable.deepest_argument.Goals as goal

pub loop-argument-preserved : goal.loop-argument-preserved
loop-argument-preserved c =
    let e = deepest_more (λ a. depth_of_argument (argument_at c.args.self.now a)) c.args.arguments.now c.loop-argument.argument-index (argument.Exact (record { 0 = 0 })) c.loop-argument-test.true in
    let g = c.argument_depth.ensures.exact in
    let h = c.max-depth.ensures ∙ larger c.loop-argument.depth c.argument_depth.result in
    let i = c.loop-argument.invariant in
    let s = c.argument_depth.ensures.small in
    (omega (arith, e, g, h, i.0), omega (arith, h, i.1, s))
