use Rattle.std.proofs.Common.{◌∙◌, ap, ℕ, not, nat_eq, arith}
use Rattle.std.proofs.lemmas.List.{take_rest}
use Rattle.kc_cli.proofs.ClassNames.{drop-last_part}
use Rattle.kc_cli.proofs.file_class.last_part.Goals as goal
use Rattle.kc_cli.proofs.file_class.last_part.Goals.{then-loop-start-test+else-file-start-ne47, else-loop-start-test}

pub returns : goal.returns
returns c =
    take_rest c.args.file.now c.loop-start.start
    ∙ drop-last_part c.args.file.now c.loop-start.start c.loop-start.invariant.0 c.loop-start.invariant.1 (
    elim c.loop-start-test.branch [
      | then-loop-start-test+else-file-start-ne47 w ↦ λ some. ap (λ (byte : ℕ). not (nat_eq byte 47)) w.if-file-start-ne47.false
      | else-loop-start-test w ↦ λ some. absurd (omega arith)
    ]
    )
