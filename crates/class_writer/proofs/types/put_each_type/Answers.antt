use Rattle.std.proofs.lemmas.List.Elements.{All-from_recursion, All-get_or}
use Rattle.class_writer.specs.Fits.{IsSmall}
use Rattle.class_writer.proofs.types.put_each_type.Goals as goal

pub put_type-requires-clause-small : goal.put_type-requires-clause-small
put_type-requires-clause-small c =
    rw c.kept-item.is (All-get_or IsSmall c.args.types.now c.loop-kept.kept-index _ c.loop-kept-test.true (All-from_recursion IsSmall c.args.types.now c.requires.small))
