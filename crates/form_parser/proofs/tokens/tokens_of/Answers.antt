use Rattle.std.proofs.Common.{◌+◌, false, List, arith, rules, sym, ◌∙◌, add-one, subst}
use Rattle.form_parser.proofs.Cuts.{Resumes, on_blank, on_line, on_token, on_nothing, on_end, token_counts, token_fits}
use Rattle.form_parser.specs.declared.tokens.Token.{Token}
use Rattle.form_parser.specs.Pieces.{IsToken, IsNothing}
use Rattle.form_parser.proofs.tokens.tokens_of.Goals as goal

pub pieces-preserved-in-Blank : goal.pieces-preserved-in-Blank
pieces-preserved-in-Blank c = let p = c.in-Blank.ensures in rw add-one (on_blank c.pieces.invariant (sym c.text_from.ensures ∙ p.2) p.3)

pub pieces-preserved-in-LineEnd : goal.pieces-preserved-in-LineEnd
pieces-preserved-in-LineEnd c = let p = c.in-LineEnd.ensures in rw add-one (on_line c.pieces.invariant (sym c.text_from.ensures ∙ p.2) p.3)

pub overflow_add-end : goal.overflow_add-end
overflow_add-end c =
    let here = subst (λ t. IsToken c.in-Token.kind c.in-Token.length t) c.text_from.ensures c.in-Token.ensures in
    let fits = token_fits c.args.text.now c.pieces.invariant.within here in
    search rules

pub pieces-smaller : goal.pieces-smaller
pieces-smaller c =
    let here = subst (λ t. IsToken c.in-Token.kind c.in-Token.length t) c.text_from.ensures c.in-Token.ensures in
    let fits = token_fits c.args.text.now c.pieces.invariant.within here in
    let some = (token_counts here).some in
    omega (arith, fits, some)

pub pieces-preserved : goal.pieces-preserved
pieces-preserved c =
    let here = subst (λ t. IsToken c.in-Token.kind c.in-Token.length t) c.text_from.ensures c.in-Token.ensures in
    let P : List Token → Type 0 = Resumes c.args.text.now (c.pieces.at + c.in-Token.length) false in
    subst P (sym c.in_ok-push-in-Token.ensures.ok) (on_token c.pieces.invariant here)

pub returns-in-Nothing : goal.returns-in-Nothing
returns-in-Nothing c = on_nothing c.pieces.invariant (subst (λ t. IsNothing t) c.text_from.ensures c.in-Nothing.ensures)

pub returns-in-End : goal.returns-in-End
returns-in-End c = on_end c.pieces.invariant (sym c.text_from.ensures ∙ c.in-End.ensures)
