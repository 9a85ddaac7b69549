use Rattle.std.proofs.lemmas.Result.{err_from_is_err_and}
use Rattle.form_elaboration.proofs.Forms.{nothing_written, form_reads, if_formed, if_main}
use Rattle.form_elaboration.proofs.form.read_form.Goals as goal

pub returns-in_err-source-clause-reads : goal.returns-in_err-source-clause-reads
returns-in_err-source-clause-reads c =
    let p = err_from_is_err_and c.from_residual.result c.from_residual.ensures.1 in
    rw (p.1, p.2) (nothing_written c.args.file c.args.bytes.now _ c.in_err-source.ensures.reads)

pub returns-clause-reads : goal.returns-clause-reads
returns-clause-reads c = form_reads c.args.file c.args.bytes.now c.in_ok-source.source c.in_ok-source.ensures.reads c.elaborate.result c.elaborate.ensures

pub returns-clause-formed : goal.returns-clause-formed
returns-clause-formed c = if_formed c.args.file c.args.bytes.now c.in_ok-source.source c.elaborate.result c.elaborate.ensures

pub returns-clause-main : goal.returns-clause-main
returns-clause-main c = if_main c.args.file c.args.bytes.now c.in_ok-source.source c.elaborate.result c.elaborate.ensures
