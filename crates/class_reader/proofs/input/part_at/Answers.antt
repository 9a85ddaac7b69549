use Rattle.std.proofs.Common.{arith}
use Rattle.class_reader.proofs.Prefix.{part_is}
use Rattle.class_reader.proofs.input.part_at.Goals as goal

pub returns : goal.returns
returns c = part_is c.args.input.front.now c.args.input.at c.args.count (omega arith)
