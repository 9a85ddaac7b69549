use Rattle.std.proofs.Common.{◌≡◌, take}
use Rattle.class_file.specs.Machine.{spread}
use Rattle.class_machine.proofs.calls.spread_out.Given as goal

abbrev pub invariant-loop-v : goal.invariant-loop-v
invariant-loop-v l = l.locals.items ≡ spread (take l.v-index l.args)
