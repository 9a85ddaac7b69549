use Rattle.std.specs.Option.{option_copied}
use Rattle.std.proofs.Common.{sym, ◌∙◌, ap}
use Rattle.class_writer.proofs.Slots.{entry_asks}
use Rattle.class_writer.proofs.pool.put_slot.Goals as goal

pub put_entry-requires : goal.put_entry-requires
put_entry-requires c = (c.args.pool.now, entry_asks c.args.pool.now c.args.index c.in-Some.entry.now c.requires.pool c.requires.within (sym c.get.ensures ∙ ap option_copied c.in-Some.is))
