use Rattle.stack_code.specs.Walking.{set_of}
use Rattle.stack_code.proofs.Walks.{met_both}
use Rattle.stack_code.proofs.frames.both.Goals as goal

pub returns : goal.returns
returns c = met_both c.in_ok-flags.flags.items c.args.one.now (set_of c.args.other.now) c.in_ok-flags.ensures
