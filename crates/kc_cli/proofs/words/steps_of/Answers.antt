use Rattle.std.proofs.Common.{◌≡◌, ◌<◌, ◌≤◌, ◌^◌, ℕ, decimal, sym, ap, ◌∙◌, subst, arith, Result, Ok, true≢false}
use Rattle.std.proofs.lemmas.Fmt.{parse-decimal}
use Rattle.std.proofs.lemmas.Bool.Decides.{Decides-eqb}
use Rattle.std.proofs.lemmas.Slice.Eq.{slice_eq-Decides}
use Rattle.kc_cli.proofs.Commands.{is_small}
use Rattle.kc_cli.proofs.words.steps_of.Goals as goal
use Rattle.kc_cli.proofs.words.steps_of.Goals.{else-steps-gt0-via-then-steps-gt0+then-steps-le-MOST_STEPS+else-eq, else-steps-gt0-via-then-steps-gt0+else-steps-le-MOST_STEPS, else-steps-gt0-via-else-steps-gt0}

ok_same : {E : Type 0} (r : Result ℕ E) (m n : ℕ) → r ≡ Ok m → r ≡ Ok n → m ≡ n
ok_same r m n h k = cc

pub returns-in_default-clause-none : goal.returns-in_default-clause-none
returns-in_default-clause-none c = λ steps is. c.in_default.not-Ok steps (parse-decimal 64 steps c.args.word.now c.parse.result (is_small steps is.2) (is_small steps is.2) is.0 c.parse.ensures.value.0)

pub returns-else-steps-gt0-clause-none : goal.returns-else-steps-gt0-clause-none
returns-else-steps-gt0-clause-none c = λ steps is.
    let parsed : c.parse.result ≡ Ok steps = parse-decimal 64 steps c.args.word.now c.parse.result (is_small steps is.2) (is_small steps is.2) is.0 c.parse.ensures.value.0 in
    let same : c.in-Ok.steps ≡ steps = ok_same c.parse.result c.in-Ok.steps steps c.in-Ok.is parsed in
    elim c.else-steps-gt0.branch [
      | else-steps-gt0-via-then-steps-gt0+then-steps-le-MOST_STEPS+else-eq w ↦ true≢false (sym ((slice_eq-Decides Decides-eqb w.format.result.now c.args.word.now w.eq.result w.eq.ensures).1 (w.format.ensures.text ∙ ap decimal same ∙ sym is.0)) ∙ w.if-eq.false)
      | else-steps-gt0-via-then-steps-gt0+else-steps-le-MOST_STEPS w ↦ let more = w.if-steps-le-MOST_STEPS.false in omega (arith, same, is.2, more)
      | else-steps-gt0-via-else-steps-gt0 w ↦ let none = w.if-steps-gt0.false in omega (arith, same, is.1, none)
    ]
