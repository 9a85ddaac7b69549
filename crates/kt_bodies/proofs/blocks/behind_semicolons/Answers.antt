use Rattle.kt_bodies.proofs.Sequences.{skips, skips_more, skipped}
use Rattle.kt_bodies.proofs.blocks.behind_semicolons.Goals as goal

pub loop-next-init : goal.loop-next-init
loop-next-init c = skips c.requires

pub loop-next-preserved : goal.loop-next-preserved
loop-next-preserved c = skips_more c.loop-next.invariant c.in-Some.ensures

pub returns : goal.returns
returns c = skipped c.loop-next.invariant c.in_default.ensures
