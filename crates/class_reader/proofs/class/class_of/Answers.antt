use Rattle.std.proofs.lemmas.Result.{err_from_is_err_and}
use Rattle.class_reader.specs.Reads.{input_of}
use Rattle.class_reader.proofs.Ending.{not_ended}
use Rattle.class_reader.proofs.class.class_of.Goals as goal

pub returns-in_err-ended : goal.returns-in_err-ended
returns-in_err-ended c =
    let p = err_from_is_err_and c.from_residual-in_err-ended.result c.from_residual-in_err-ended.ensures.1 in
    rw (p.1, p.2) (not_ended c.in_ok-class.class (input_of c.in_ok-class.rest) _ c.in_err-ended.field-0.0 c.in_ok-class.ensures c.in_err-ended.ensures)
