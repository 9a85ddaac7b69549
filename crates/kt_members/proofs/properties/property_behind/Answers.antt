use Rattle.std.proofs.lemmas.Result.{err_from_is_err_and}
use Rattle.kt_grammar.specs.Built as built
use Rattle.kt_grammar.specs.Rows as rows
use Rattle.kt_grammar.proofs.Advances.{halts_first, halts_after}
use Rattle.kt_grammar.proofs.OperandRows.{from_near}
use Rattle.kt_functions.specs.Sites.{site_of}
use Rattle.kt_members.proofs.PropertyRows.{has_property_value, has_behind_name, has_behind_word, behind_from}
use Rattle.kt_members.proofs.properties.property_behind.Goals as goal

pub returns-in_err-next : goal.returns-in_err-next
returns-in_err-next c = let p = err_from_is_err_and c.from_residual.result c.from_residual.ensures.1 in rw (p.1, p.2) (halts_first (has_behind_word c.args.is_var c.args.is_abstract (site_of c.args.site)) c.in_err-next.ensures)

pub returns-in_err-name : goal.returns-in_err-name
returns-in_err-name c = let p = err_from_is_err_and c.from_residual-in_err-name.result c.from_residual-in_err-name.ensures.1 in rw (p.1, p.2) (let o = c.in_ok-next.ensures in halts_after o.taken o.so_far (halts_first (has_behind_name c.args.is_var c.args.is_abstract (site_of c.args.site)) c.in_err-name.ensures))

pub returns-in_err-ty : goal.returns-in_err-ty
returns-in_err-ty c = let p = err_from_is_err_and c.from_residual-in_err-ty.result c.from_residual-in_err-ty.ensures.1 in rw (p.1, p.2) (let o = c.in_ok-next.ensures in let n = c.in_ok-name.ensures in halts_after o.taken o.so_far (halts_after n.taken n.so_far
    (halts_first (has_property_value c.args.is_var c.args.is_abstract (site_of c.args.site)) (from_near rows.colon_type built.written_type c.args.tokens.now c.in_ok-name.mid c.colon_type.result _ c.in_err-ty.ensures c.colon_type.ensures))))

pub returns : goal.returns
returns c = behind_from c.args.keyword c.args.is_var c.args.is_abstract (site_of c.args.site) c.in_ok-next.ensures c.in_ok-name.ensures
    (from_near rows.colon_type built.written_type c.args.tokens.now c.in_ok-name.mid c.colon_type.result _ c.in_ok-ty.ensures c.colon_type.ensures) c.property_value.result c.property_value.ensures
