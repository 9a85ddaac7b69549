use Rattle.std.proofs.Common.{sym, ◌∙◌, true≢false, eq-eqb, rules, tests}
use Rattle.std.proofs.lemmas.Result.{err_from_is_err_and}
use Rattle.form_parser.specs.Parsed.{refuted}
use Rattle.form_parser.proofs.Readings.{fails_by}
use Rattle.form_parser.proofs.Trees.{first_of, behind_token, source_parts, block_can, nothing_behind, file_derives}
use Rattle.form_parser.proofs.parser.parse.Goals as goal

pub returns-in_err-_fun : goal.returns-in_err-_fun
returns-in_err-_fun c =
    let p = err_from_is_err_and c.from_residual.result c.from_residual.ensures.1 in
    rw (p.1, p.2) (fails_by (λ w. first_of (source_parts w).parts) c.in_err-_fun.ensures.expects)

pub returns-in_err-main : goal.returns-in_err-main
returns-in_err-main c =
    let p = err_from_is_err_and c.from_residual-in_err-main.result c.from_residual-in_err-main.ensures.1 in
    rw (p.1, p.2) (fails_by (λ w. first_of (behind_token c.in_ok-_fun.ensures.expects (source_parts w).parts)) c.in_err-main.ensures.expects)

pub returns-in_err-_open : goal.returns-in_err-_open
returns-in_err-_open c =
    let p = err_from_is_err_and c.from_residual-in_err-_open.result c.from_residual-in_err-_open.ensures.1 in
    rw (p.1, p.2) (fails_by (λ w. first_of (behind_token c.in_ok-main.ensures.expects (behind_token c.in_ok-_fun.ensures.expects (source_parts w).parts))) c.in_err-_open.ensures.expects)

pub returns-in_err-_close : goal.returns-in_err-_close
returns-in_err-_close c =
    let p = err_from_is_err_and c.from_residual-in_err-_close.result c.from_residual-in_err-_close.ensures.1 in
    rw (p.1, p.2) (fails_by (λ w. first_of (behind_token c.in_ok-_open.ensures.expects (behind_token c.in_ok-main.ensures.expects (behind_token c.in_ok-_fun.ensures.expects (source_parts w).parts)))) c.in_err-_close.ensures.expects)

pub returns-in_err-brace : goal.returns-in_err-brace
returns-in_err-brace c =
    let p = err_from_is_err_and c.from_residual-in_err-brace.result c.from_residual-in_err-brace.ensures.1 in
    rw (p.1, p.2) (fails_by (λ w. first_of (behind_token c.in_ok-_close.ensures.expects (behind_token c.in_ok-_open.ensures.expects (behind_token c.in_ok-main.ensures.expects (behind_token c.in_ok-_fun.ensures.expects (source_parts w).parts))))) c.in_err-brace.ensures.expects)

pub returns-in_err-block : goal.returns-in_err-block
returns-in_err-block c =
    let p = err_from_is_err_and c.from_residual-in_err-block.result c.from_residual-in_err-block.ensures.1 in
    rw (p.1, p.2) (fails_by (λ w. block_can c.new-done.ensures (behind_token c.in_ok-brace.ensures.expects (behind_token c.in_ok-_close.ensures.expects (behind_token c.in_ok-_open.ensures.expects (behind_token c.in_ok-main.ensures.expects (behind_token c.in_ok-_fun.ensures.expects (source_parts w).parts)))))) c.in_err-block.ensures.parses)

pub returns-then-not-is_empty : goal.returns-then-not-is_empty
returns-then-not-is_empty c =
    refuted (λ w.
    let n = nothing_behind c.in_ok-block.ensures.parses (behind_token c.in_ok-brace.ensures.expects (behind_token c.in_ok-_close.ensures.expects (behind_token c.in_ok-_open.ensures.expects (behind_token c.in_ok-main.ensures.expects (behind_token c.in_ok-_fun.ensures.expects (source_parts w).parts))))) in
    true≢false (sym (eq-eqb _ _ n) ∙ sym c.is_empty.ensures ∙ c.if-not-is_empty.true))

pub returns : goal.returns
returns c =
    file_derives c.in_ok-_fun.ensures.expects c.in_ok-main.ensures.expects c.in_ok-_open.ensures.expects c.in_ok-_close.ensures.expects c.in_ok-brace.ensures.expects c.new-done.ensures c.in_ok-block.ensures.parses
    (search (rules, tests))
