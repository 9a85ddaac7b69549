use Rattle.std.proofs.Common.{◌≤◌, length}
use Rattle.kc_io.specs.Told.{GainsAllBut}
use Rattle.kc_io.proofs.sinks.write_all.Given as goal

-- the sink has taken what is no longer left
abbrev pub invariant-loop-rest : goal.invariant-loop-rest
invariant-loop-rest g l =
    record {
      gains : GainsAllBut (g.S.Sink.taken l.initial.sink) (g.S.Sink.taken l.sink) l.bytes l.rest;
      faults : g.S.Sink.faults l.initial.sink ≤ g.S.Sink.faults l.sink;
    }

abbrev pub decreases-loop-rest : goal.decreases-loop-rest
decreases-loop-rest g l = length l.rest
