use Rattle.std.proofs.Common.{drop}
use Rattle.verifier.specs.Flags.{PlacesFrames}
use Rattle.verifier.proofs.tables.place_frames.Given as goal

abbrev pub invariant-loop-number : goal.invariant-loop-number
invariant-loop-number l = PlacesFrames l.table.items l.frames l.number (drop l.number l.frames)
