use Rattle.std.proofs.lemmas.Result.{err_from_is_err_and}
use Rattle.kt_grammar.specs.Rows as rows
use Rattle.kt_grammar.proofs.Advances.{halts_first, halts_second}
use Rattle.kt_classes.proofs.ClassRows.{has_heritage, heritage_as, halts_heritage, constructed_from}
use Rattle.kt_classes.proofs.classes.from_constructor.Goals as goal

pub returns-in_err-primary : goal.returns-in_err-primary
returns-in_err-primary c = let p = err_from_is_err_and c.from_residual.result c.from_residual.ensures.1 in rw (p.1, p.2) (halts_first (has_heritage (rows.body_of_class c.args.is_enum)) c.in_err-primary.ensures)

pub returns-in_err-heritage : goal.returns-in_err-heritage
returns-in_err-heritage c = let p = err_from_is_err_and c.from_residual-in_err-heritage.result c.from_residual-in_err-heritage.ensures.1 in rw (p.1, p.2) (let x = c.in_ok-primary.ensures in halts_second x.read x.so_far (halts_heritage c.class_form.ensures c.in_err-heritage.ensures))

pub returns : goal.returns
returns c = constructed_from (rows.body_of_class c.args.is_enum) c.in_ok-primary.ensures (heritage_as c.class_form.ensures c.in_ok-heritage.ensures)
