use Rattle.std.proofs.lemmas.Result.{err_from_is_err_and}
use Rattle.class_reader.specs.Reads.{input_of}
use Rattle.class_reader.proofs.Pieces.{err_first, err_second, ok_both}
use Rattle.class_reader.proofs.pool.indexes_at.Goals as goal

pub returns-in_err-first : goal.returns-in_err-first
returns-in_err-first c =
    let p = err_from_is_err_and c.from_residual.result c.from_residual.ensures.1 in
    rw (p.1, p.2) (err_first c.in_err-first.field-0.0 c.args.uses.now.items c.index_at.new.uses.items c.args.wanted c.args.other (input_of c.args.input) c.in_err-first.ensures)

pub returns-in_err-second : goal.returns-in_err-second
returns-in_err-second c =
    let p = err_from_is_err_and c.from_residual-in_err-second.result c.from_residual-in_err-second.ensures.1 in
    rw (p.1, p.2) (err_second c.in_err-second.field-0.0 c.in_ok-first.first c.in_ok-first.rest c.args.uses.now.items c.index_at.new.uses.items c.index_at-2.new.uses.items c.args.wanted c.args.other (input_of c.args.input) c.in_ok-first.ensures c.in_err-second.ensures)

pub returns : goal.returns
returns c =
    ok_both c.in_ok-first.first c.in_ok-second.second c.in_ok-first.rest c.in_ok-second.rest c.args.uses.now.items c.index_at.new.uses.items c.index_at-2.new.uses.items c.args.wanted c.args.other (input_of c.args.input) c.in_ok-first.ensures c.in_ok-second.ensures
