use Rattle.std.proofs.Common.{◌<◌, length}
use Rattle.kc_types.proofs.tests.refuses_depth_17.Given as goal

abbrev pub invariant-loop : goal.invariant-loop
invariant-loop g l = l.ty.0 < length l.table
