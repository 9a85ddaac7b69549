use Rattle.std.proofs.Common.{sym, ◌∙◌}
use Rattle.form_parser.proofs.Readings.{kind_found, other_token, no_token, kind_missed}
use Rattle.form_parser.proofs.expressions.take.Goals as goal

pub returns-then-is_kind-clause-takes : goal.returns-then-is_kind-clause-takes
returns-then-is_kind-clause-takes c =
    record { here = c.in-Some.ensures.cases.0; kind_is = kind_found c.args.expected c.in-Some.first.now.kind (sym c.is_kind.ensures ∙ c.if-is_kind.true) }

pub returns-in_default-clause-takes : goal.returns-in_default-clause-takes
returns-in_default-clause-takes c = λ w. no_token c.args.tokens.now c.in_default.ensures.cases w

pub returns-clause-takes : goal.returns-clause-takes
returns-clause-takes c = λ w. other_token c.in-Some.ensures.cases.0 (kind_missed c.args.expected c.in-Some.first.now.kind (sym c.is_kind.ensures ∙ c.if-is_kind.false)) w
