use Rattle.std.proofs.Common.{◌+◌, get_or, drop, sym, ◌∙◌}
use Rattle.class_reader.specs.declared.uses.Use.{Use}
use Rattle.class_reader.specs.declared.uses.Wanted.TheVariants as wanted
use Rattle.class_reader.specs.Pools.{noted, uses_of}
use Rattle.class_reader.proofs.Entries.{at_use, use_fails, use_passes, over}
use Rattle.class_reader.proofs.uses.judged_uses.Goals as goal

abbrev no_use : Use
no_use = record { at = 0; index = 0; wanted = wanted.Text }

pub returns-in-Some : goal.returns-in-Some
returns-in-Some c =
    rw c.fault.ensures (sym c.loop-of.invariant
    ∙ at_use c.args.pool.now c.args.count c.args.uses.now c.loop-of.of-index no_use c.loop-of-test.true
    ∙ use_fails c.args.pool.now c.args.count (noted (get_or c.args.uses.now c.loop-of.of-index no_use)) (uses_of (drop (c.loop-of.of-index + 1) c.args.uses.now)) c.in-Some.code (sym c.in-Some.ensures))

pub loop-of-preserved : goal.loop-of-preserved
loop-of-preserved c =
    sym (at_use c.args.pool.now c.args.count c.args.uses.now c.loop-of.of-index no_use c.loop-of-test.true
    ∙ use_passes c.args.pool.now c.args.count (noted (get_or c.args.uses.now c.loop-of.of-index no_use)) (uses_of (drop (c.loop-of.of-index + 1) c.args.uses.now)) (sym c.in_default.ensures))
    ∙ c.loop-of.invariant

pub returns : goal.returns
returns c = sym c.loop-of.invariant ∙ over c.args.pool.now c.args.count c.args.uses.now c.loop-of.of-index c.loop-of-test.false
