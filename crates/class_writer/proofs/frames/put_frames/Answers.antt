use Rattle.std.proofs.Common.{None, drop, sym, ◌∙◌, arith}
use Rattle.class_writer.specs.Indexes.{slots_of}
use Rattle.class_writer.specs.Fits.{before_of}
use Rattle.class_writer.proofs.Spelled.{left_is, first_fits}
use Rattle.class_writer.proofs.frames.put_frames.Goals as goal

pub put_form-requires-clause-fits : goal.put_form-requires-clause-fits
put_form-requires-clause-fits c =
    let frames = c.as_slice.result.now in
    let first = c.first-item.result in
    let is = sym c.as_slice.ensures ∙ left_is frames 0 first (omega (arith, c.in-len1-up.len_at_least)) c.first-item.is in
    first_fits (slots_of c.args.names.now) (before_of None c.args.start.now) c.args.frames.now (drop 1 frames) first is c.requires.spelled c.requires.small

pub put_behind-requires-clause-small : goal.put_behind-requires-clause-small
put_behind-requires-clause-small c =
    let frames = c.as_slice.result.now in
    let first = c.first-item.result in
    let is = sym c.as_slice.ensures ∙ left_is frames 0 first (omega (arith, c.in-len1-up.len_at_least)) c.first-item.is in
    (first_fits (slots_of c.args.names.now) (before_of None c.args.start.now) c.args.frames.now (drop 1 frames) first is c.requires.spelled c.requires.small).0.1
