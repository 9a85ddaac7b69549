use Rattle.kt_calls.proofs.SuffixRows.{no_more_indexes, more_from}
use Rattle.kt_calls.proofs.endings.more_indexes.Goals as goal

pub returns-in_default : goal.returns-in_default
returns-in_default g c = no_more_indexes c.args.before c.requires.within c.in_default.ensures

pub returns : goal.returns
returns g c = more_from c.args.before c.requires.within c.in-Some.ensures c.expressions.result c.expressions.ensures
