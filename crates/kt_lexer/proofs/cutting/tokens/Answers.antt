use Rattle.std.proofs.Common.{[], ◌∷◌, ◌++◌, ◌≡◌, ◌+◌, ◌-◌, ◌<◌, ◌≤◌, ℕ, List, length, drop, sym, ap, subst, ◌∙◌, arith, rules}
use Rattle.kt_lexer.specs.declared.places.Place.{Place}
use Rattle.kt_lexer.specs.declared.token.Token.{Token}
use Rattle.kt_lexer.specs.declared.pieces.Piece.{Piece}
use Rattle.kt_lexer.specs.Cut.{front, IsToken}
use Rattle.kt_lexer.proofs.Cuts.{Resumes, gap_ahead, token_ahead, on_gap, on_line, on_token, on_bad, on_unclosed, on_end, no_cut_of, keep_along}
use Rattle.kt_lexer.proofs.cutting.tokens.Goals as goal

-- the piece in front of the text that is left
at_place : (p : Place) {text units rest : List ℕ} {q : Piece} → units ≡ text → rest ≡ drop p.at units → q ≡ front p rest → front p (drop p.at text) ≡ q
at_place p e d i = sym (i ∙ ap (front p) (d ∙ ap (drop p.at) e))

pub pass_gap-requires : goal.pass_gap-requires
pass_gap-requires c =
    let e = at_place c.pieces.place c.units-units.ensures c.text_from-rest.ensures c.in-Gap.ensures in
    let a = gap_ahead c.pieces.invariant.0 e in
    let within = a.within in
    search rules

pub pieces-smaller-in-Gap : goal.pieces-smaller-in-Gap
pieces-smaller-in-Gap c =
    let e = at_place c.pieces.place c.units-units.ensures c.text_from-rest.ensures c.in-Gap.ensures in
    let a = gap_ahead c.pieces.invariant.0 e in
    let at : c.pass_gap.new.self.at ≡ c.pieces.place.at + c.in-Gap.length = ap (λ p. p.at) c.pass_gap.ensures in
    let h : length c.args.text.now - c.pass_gap.new.self.at < length c.args.text.now - c.pieces.place.at = omega (arith, a.some, a.within, at) in
    h

pub pieces-preserved-in-Gap : goal.pieces-preserved-in-Gap
pieces-preserved-in-Gap c =
    let e = at_place c.pieces.place c.units-units.ensures c.text_from-rest.ensures c.in-Gap.ensures in
    let P : Place → Type 0 = λ p. Resumes c.pieces.names c.args.file c.args.text.now p c.pieces.tokens in
    (subst P (sym c.pass_gap.ensures) (on_gap c.pieces.invariant.0 e), c.pieces.invariant.1)

pub pieces-preserved-in-LineEnd : goal.pieces-preserved-in-LineEnd
pieces-preserved-in-LineEnd c =
    let e = at_place c.pieces.place c.units-units.ensures c.text_from-rest.ensures c.in-LineEnd.ensures in
    let P : Place → Type 0 = λ p. Resumes c.pieces.names c.args.file c.args.text.now p c.pieces.tokens in
    (subst P (sym c.pass_line.ensures) (on_line c.pieces.invariant.0 e), c.pieces.invariant.1)

pub token_of-requires-clause-some : goal.token_of-requires-clause-some
token_of-requires-clause-some c =
    let e = at_place c.pieces.place c.units-units.ensures c.text_from-rest.ensures c.in-Token.ensures in
    let a = token_ahead c.pieces.invariant.0 e in
    a.some

pub token_of-requires-clause-within : goal.token_of-requires-clause-within
token_of-requires-clause-within c =
    let e = at_place c.pieces.place c.units-units.ensures c.text_from-rest.ensures c.in-Token.ensures in
    let a = token_ahead c.pieces.invariant.0 e in
    let rest = c.text_from-rest.ensures ∙ ap (drop c.pieces.place.at) c.units-units.ensures in
    subst (λ us. c.in-Token.count ≤ length us) (sym rest) a.here

pub token_of-requires-clause-fits : goal.token_of-requires-clause-fits
token_of-requires-clause-fits c =
    let e = at_place c.pieces.place c.units-units.ensures c.text_from-rest.ensures c.in-Token.ensures in
    let a = token_ahead c.pieces.invariant.0 e in
    let within = a.within in
    search rules

pub pass_token-requires : goal.pass_token-requires
pass_token-requires c =
    let e = at_place c.pieces.place c.units-units.ensures c.text_from-rest.ensures c.in-Token.ensures in
    let a = token_ahead c.pieces.invariant.0 e in
    let within = a.within in
    search rules

pub returns-in_err-token-in-Token-clause-keeps : goal.returns-in_err-token-in-Token-clause-keeps
returns-in_err-token-in-Token-clause-keeps c =
    keep_along c.args.names.now c.pieces.names c.token_of.new.names c.pieces.invariant.1 c.token_of.ensures.keeps

pub returns-in_err-push-in-Token-clause-keeps : goal.returns-in_err-push-in-Token-clause-keeps
returns-in_err-push-in-Token-clause-keeps c =
    keep_along c.args.names.now c.pieces.names c.token_of.new.names c.pieces.invariant.1 c.token_of.ensures.keeps

pub returns-in_err-pass_token-in-Token-clause-keeps : goal.returns-in_err-pass_token-in-Token-clause-keeps
returns-in_err-pass_token-in-Token-clause-keeps c =
    keep_along c.args.names.now c.pieces.names c.token_of.new.names c.pieces.invariant.1 c.token_of.ensures.keeps

pub pieces-smaller : goal.pieces-smaller
pieces-smaller c =
    let e = at_place c.pieces.place c.units-units.ensures c.text_from-rest.ensures c.in-Token.ensures in
    let a = token_ahead c.pieces.invariant.0 e in
    let at : c.pass_token.new.self.at ≡ c.pieces.place.at + c.in-Token.count = ap (λ p. p.at) c.in_ok-pass_token-in-Token.ensures in
    let h : length c.args.text.now - c.pass_token.new.self.at < length c.args.text.now - c.pieces.place.at = omega (arith, a.some, a.within, at) in
    h

pub pieces-preserved : goal.pieces-preserved
pieces-preserved c =
    let e = at_place c.pieces.place c.units-units.ensures c.text_from-rest.ensures c.in-Token.ensures in
    let rest = c.text_from-rest.ensures ∙ ap (drop c.pieces.place.at) c.units-units.ensures in
    let is = subst (λ us. IsToken c.token_of.new.names c.args.file c.pieces.place us c.in-Token.shape c.in-Token.count c.in_ok-token-in-Token.token) rest c.in_ok-token-in-Token.ensures.token in
    let r = on_token c.pieces.invariant.0 e c.token_of.ensures.keeps is in
    let P : Place → List Token → Type 0 = λ p ts. Resumes c.token_of.new.names c.args.file c.args.text.now p ts in
    let q = subst (λ p. P p (c.pieces.tokens ++ c.in_ok-token-in-Token.token ∷ [])) (sym c.in_ok-pass_token-in-Token.ensures) r in
    (subst (λ ts. P c.pass_token.new.self ts) (sym c.in_ok-push-in-Token.ensures.ok) q, keep_along c.args.names.now c.pieces.names c.token_of.new.names c.pieces.invariant.1 c.token_of.ensures.keeps)

pub returns-in-Bad-clause-fault : goal.returns-in-Bad-clause-fault
returns-in-Bad-clause-fault c =
    let e = at_place c.pieces.place c.units-units.ensures c.text_from-rest.ensures c.in-Bad.ensures in
    on_bad c.pieces.invariant.0 e

pub returns-in-Bad-clause-no_cut : goal.returns-in-Bad-clause-no_cut
returns-in-Bad-clause-no_cut c =
    let e = at_place c.pieces.place c.units-units.ensures c.text_from-rest.ensures c.in-Bad.ensures in
    no_cut_of c.args.text.now c.in-Bad.fault (on_bad c.pieces.invariant.0 e)

pub returns-in-Some-clause-fault : goal.returns-in-Some-clause-fault
returns-in-Some-clause-fault c =
    let e = at_place c.pieces.place c.units-units.ensures c.text_from-rest.ensures c.in-End.ensures in
    on_unclosed c.pieces.invariant.0 e (sym c.in-Some.ensures)

pub returns-in-Some-clause-no_cut : goal.returns-in-Some-clause-no_cut
returns-in-Some-clause-no_cut c =
    let e = at_place c.pieces.place c.units-units.ensures c.text_from-rest.ensures c.in-End.ensures in
    no_cut_of c.args.text.now c.in-Some.fault (on_unclosed c.pieces.invariant.0 e (sym c.in-Some.ensures))

pub returns-in-None-clause-ok : goal.returns-in-None-clause-ok
returns-in-None-clause-ok c =
    let e = at_place c.pieces.place c.units-units.ensures c.text_from-rest.ensures c.in-End.ensures in
    on_end c.pieces.invariant.0 e (sym c.in-None.ensures)
