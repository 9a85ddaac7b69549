use Rattle.kt_grammar.proofs.PrefixRows.{run_none, run_more, run_end}
use Rattle.kt_grammar.proofs.prefixes.behind_prefixes.Goals as goal

pub loop-behind-init : goal.loop-behind-init
loop-behind-init c = run_none c.requires

pub loop-behind-preserved : goal.loop-behind-preserved
loop-behind-preserved c = run_more c.loop-behind.invariant c.in-Some.ensures

pub returns : goal.returns
returns c = run_end c.loop-behind.invariant c.in_default.ensures
