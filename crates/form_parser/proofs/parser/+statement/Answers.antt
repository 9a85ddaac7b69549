use Rattle.std.proofs.Common.{sym, ◌∙◌, true≢false, refl}
use Rattle.std.proofs.lemmas.Result.{err_from_is_err_and}
use Rattle.form_parser.specs.Parsed.{refuted, no_memory}
use Rattle.form_parser.proofs.Readings.{fails_by}
use Rattle.form_parser.proofs.Trees.{first_of, behind_test, behind_body, choice_parts, repetition_parts, if_read, if_else_read, while_read, statement_takes, no_statement, answers_along, block_ends, statement_alone, alone_read, statements_take, block_closes, may_be_separated, separated_ends, may_be_begun, another_ends, another_reads, statement_ends}
use Rattle.form_parser.proofs.parser.+statement.Goals as goal

pub choice-returns-in_err-test-clause-parses : goal.choice-returns-in_err-test-clause-parses
choice-returns-in_err-test-clause-parses t c =
    let p = err_from_is_err_and c.from_residual.result c.from_residual.ensures.1 in
    rw (p.1, p.2) (fails_by (λ w. first_of (choice_parts c.requires w).parts) c.in_err-test.ensures.parses)

pub choice-returns-in_err-held-clause-parses : goal.choice-returns-in_err-held-clause-parses
choice-returns-in_err-held-clause-parses t c =
    let p = err_from_is_err_and c.from_residual-in_err-held.result c.from_residual-in_err-held.ensures.1 in
    rw (p.1, p.2) (fails_by (λ w. first_of (behind_test c.in_ok-test.ensures.parses (choice_parts c.requires w).parts)) c.in_err-held.ensures.parses)

pub choice-returns-in_default-clause-parses : goal.choice-returns-in_default-clause-parses
choice-returns-in_default-clause-parses t c =
    rw c.joined-place.ensures (if_read c.requires c.in_ok-test.ensures.parses c.in_ok-held.ensures.parses c.in_default.ensures.lefts)

pub choice-returns-in_err-other-clause-parses : goal.choice-returns-in_err-other-clause-parses
choice-returns-in_err-other-clause-parses t c =
    let p = err_from_is_err_and c.from_residual-in_err-other.result c.from_residual-in_err-other.ensures.1 in
    rw (p.1, p.2) (fails_by (λ w. behind_body c.in_ok-held.ensures.parses (behind_test c.in_ok-test.ensures.parses (choice_parts c.requires w).parts) _ c.in-Some.ensures.lefts) c.in_err-other.ensures.parses)

pub choice-returns-in_err-new-clause-parses : goal.choice-returns-in_err-new-clause-parses
choice-returns-in_err-new-clause-parses t c =
    let p = err_from_is_err_and c.from_residual-in_err-new.result c.from_residual-in_err-new.ensures.1 in
    rw (p.1, p.2) no_memory

pub choice-returns-clause-parses : goal.choice-returns-clause-parses
choice-returns-clause-parses t c =
    rw (c.joined-place-2.ensures, c.in_ok-new.ensures) (if_else_read c.requires c.in_ok-test.ensures.parses c.in_ok-held.ensures.parses c.in-Some.ensures.lefts c.in_ok-other.ensures.parses)

pub repetition-returns-in_err-test-clause-parses : goal.repetition-returns-in_err-test-clause-parses
repetition-returns-in_err-test-clause-parses t c =
    let p = err_from_is_err_and c.from_residual.result c.from_residual.ensures.1 in
    rw (p.1, p.2) (fails_by (λ w. first_of (repetition_parts c.requires w).parts) c.in_err-test.ensures.parses)

pub repetition-returns-in_err-body-clause-parses : goal.repetition-returns-in_err-body-clause-parses
repetition-returns-in_err-body-clause-parses t c =
    let p = err_from_is_err_and c.from_residual-in_err-body.result c.from_residual-in_err-body.ensures.1 in
    rw (p.1, p.2) (fails_by (λ w. behind_test c.in_ok-test.ensures.parses (repetition_parts c.requires w).parts) c.in_err-body.ensures.parses)

pub repetition-returns-clause-parses : goal.repetition-returns-clause-parses
repetition-returns-clause-parses t c = rw c.joined-place.ensures (while_read c.requires c.in_ok-test.ensures.parses c.in_ok-body.ensures.parses)

pub statement-returns-in_default-clause-parses : goal.statement-returns-in_default-clause-parses
statement-returns-in_default-clause-parses t c = refuted (statement_takes c.args.tokens.now c.in_default.ensures.cases)

pub statement-returns-in-Val-clause-parses : goal.statement-returns-in-Val-clause-parses
statement-returns-in-Val-clause-parses t c = answers_along c.in-Some.ensures.cases.0 c.declaration.result c.declaration.ensures.parses

pub statement-returns-in-Var-clause-parses : goal.statement-returns-in-Var-clause-parses
statement-returns-in-Var-clause-parses t c = answers_along c.in-Some.ensures.cases.0 c.declaration-in-Var.result c.declaration-in-Var.ensures.parses

pub statement-returns-in-Name-clause-parses : goal.statement-returns-in-Name-clause-parses
statement-returns-in-Name-clause-parses t c = answers_along c.in-Some.ensures.cases.0 c.assignment.result c.assignment.ensures.parses

pub statement-returns-in-Println-clause-parses : goal.statement-returns-in-Println-clause-parses
statement-returns-in-Println-clause-parses t c = answers_along c.in-Some.ensures.cases.0 c.print_statement.result c.print_statement.ensures.parses

pub statement-returns-in-If-clause-parses : goal.statement-returns-in-If-clause-parses
statement-returns-in-If-clause-parses t c = answers_along c.in-Some.ensures.cases.0 c.choice.result c.choice.ensures.parses

pub statement-returns-in-While-clause-parses : goal.statement-returns-in-While-clause-parses
statement-returns-in-While-clause-parses t c = answers_along c.in-Some.ensures.cases.0 c.repetition.result c.repetition.ensures.parses

pub statement-returns-in_default-kind : goal.statement-returns-in_default-kind
statement-returns-in_default-kind t c = record {
  parses = refuted (no_statement c.in-Some.ensures.cases.0 c.in_default-kind.not-Val c.in_default-kind.not-Var c.in_default-kind.not-Name c.in_default-kind.not-Println c.in_default-kind.not-If c.in_default-kind.not-While);
  shorter = tt;
}

pub body-returns-in-Some-clause-parses : goal.body-returns-in-Some-clause-parses
body-returns-in-Some-clause-parses t c = block_ends c.in-Some.ensures.takes c.new.ensures c.statements.result c.statements.ensures.parses

pub body-returns-in_err-only-in-None-clause-parses : goal.body-returns-in_err-only-in-None-clause-parses
body-returns-in_err-only-in-None-clause-parses t c =
    let p = err_from_is_err_and c.from_residual.result c.from_residual.ensures.1 in
    rw (p.1, p.2) (fails_by (statement_alone c.args.tokens.now c.in-None.ensures.takes) c.in_err-only-in-None.ensures.parses)

pub body-returns-in_err-alone-in-None-clause-parses : goal.body-returns-in_err-alone-in-None-clause-parses
body-returns-in_err-alone-in-None-clause-parses t c =
    let p = err_from_is_err_and c.from_residual-in_err-alone-in-None.result c.from_residual-in_err-alone-in-None.ensures.1 in
    rw (p.1, p.2) no_memory

pub body-returns-in_ok-alone-in-None-clause-parses : goal.body-returns-in_ok-alone-in-None-clause-parses
body-returns-in_ok-alone-in-None-clause-parses t c = alone_read c.in_ok-only-in-None.ensures.parses c.in_ok-alone-in-None.ensures

pub statements-returns-in_default-clause-parses : goal.statements-returns-in_default-clause-parses
statements-returns-in_default-clause-parses t c = refuted (statements_take c.args.tokens.now c.in_default.ensures.cases)

pub statements-returns-in-CloseBrace-clause-parses : goal.statements-returns-in-CloseBrace-clause-parses
statements-returns-in-CloseBrace-clause-parses t c = block_closes c.args.begin c.args.done c.in-Some.ensures.cases.0 c.in-CloseBrace.is c.joined-place.ensures refl

pub statements-returns-then-not-may_separate-clause-parses : goal.statements-returns-then-not-may_separate-clause-parses
statements-returns-then-not-may_separate-clause-parses t c =
    refuted (λ w. true≢false (sym (may_be_separated c.in-Some.ensures.cases.0 c.in-Semicolon.is w) ∙ sym c.may_separate.ensures ∙ c.if-not-may_separate.true))

pub statements-returns-else-not-may_separate-clause-parses : goal.statements-returns-else-not-may_separate-clause-parses
statements-returns-else-not-may_separate-clause-parses t c =
    separated_ends c.args.begin c.args.standing c.args.done c.in-Some.ensures.cases.0 c.in-Semicolon.is (sym c.may_separate.ensures ∙ c.if-not-may_separate.false) c.statements.result c.statements.ensures.parses

pub statements-returns-then-not-may_begin-clause-parses : goal.statements-returns-then-not-may_begin-clause-parses
statements-returns-then-not-may_begin-clause-parses t c =
    refuted (λ w. true≢false (sym (may_be_begun c.in-Some.ensures.cases.0 c.in_default-kind.not-CloseBrace c.in_default-kind.not-Semicolon w) ∙ sym c.may_begin.ensures ∙ c.if-not-may_begin.true))

pub statements-returns-else-not-may_begin : goal.statements-returns-else-not-may_begin
statements-returns-else-not-may_begin t c = record {
  parses = another_ends c.args.begin c.args.standing c.args.done c.in-Some.ensures.cases.0 c.in_default-kind.not-CloseBrace c.in_default-kind.not-Semicolon (sym c.may_begin.ensures ∙ c.if-not-may_begin.false) c.another.result c.another.ensures.parses;
  shorter = c.another.ensures.shorter;
}

pub another-returns-in_err-read-clause-parses : goal.another-returns-in_err-read-clause-parses
another-returns-in_err-read-clause-parses t c =
    let p = err_from_is_err_and c.from_residual.result c.from_residual.ensures.1 in
    rw (p.1, p.2) (fails_by another_reads c.in_err-read.ensures.parses)

pub another-returns-in_err-push-clause-parses : goal.another-returns-in_err-push-clause-parses
another-returns-in_err-push-clause-parses t c =
    let p = err_from_is_err_and c.from_residual-in_err-push.result c.from_residual-in_err-push.ensures.1 in
    rw (p.1, p.2) no_memory

pub another-returns-clause-parses : goal.another-returns-clause-parses
another-returns-clause-parses t c =
    statement_ends c.args.begin c.args.done c.push.new.self c.in_ok-read.ensures.parses c.in_ok-push.ensures.ok c.statements.result c.statements.ensures.parses
