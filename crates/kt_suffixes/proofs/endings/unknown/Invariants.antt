use Rattle.kt_suffixes.proofs.Runs.{NoneKnown}
use Rattle.kt_suffixes.proofs.endings.unknown.Given as goal

abbrev pub invariant-loop : goal.invariant-loop
invariant-loop l = NoneKnown l.all
