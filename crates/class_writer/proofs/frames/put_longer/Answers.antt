use Rattle.std.proofs.Common.{drop, arith}
use Rattle.std.proofs.lemmas.List.{length-drop}
use Rattle.class_writer.specs.Indexes.{slots_of}
use Rattle.class_writer.proofs.Behind.{too_much_longer}
use Rattle.class_writer.proofs.frames.put_longer.Goals as goal

pub returns : goal.returns
returns c =
    let locals = c.args.frame.now.locals in
    let more = drop c.args.front locals in
    rw (too_much_longer (slots_of c.args.names.now) c.args.delta c.args.frame.now more (omega (arith, length-drop c.args.front locals, c.if-more-lt4.false, c.len.ensures))) c.put_full.ensures
