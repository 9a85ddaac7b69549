use Rattle.std.proofs.Common.{arith}
use Rattle.verifier_types.proofs.Spelling.{array_spelled_at}
use Rattle.verifier_types.proofs.descriptors.+array_length.Goals as goal

pub returns-in_ok-more-in-len1-up-2 : goal.returns-in_ok-more-in-len1-up-2
returns-in_ok-more-in-len1-up-2 t c =
    array_spelled_at c.args.units.now c.in_ok-more-in-len1-up-2.more (omega arith) c.if-first-eq91.false c.if-first-ne76.false c.in_ok-more-in-len1-up-2.ensures
