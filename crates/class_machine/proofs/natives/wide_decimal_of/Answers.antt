use Rattle.std.proofs.Common.{◌≡◌, List, ℕ, rules, subst}
use Rattle.std.specs.Prelude.{IfOk}
use Rattle.std.specs.Fmt.{signed_decimal}
use Rattle.class_machine.proofs.Texts.{all_ascii}
use Rattle.class_machine.proofs.natives.wide_decimal_of.Goals as goal

pub returns : goal.returns
returns c =
    let t : c.format.result.now ≡ signed_decimal c.args.number = search rules in
    let P : List ℕ → Type 0 = λ s. IfOk c.from_str.result (λ text. text ≡ s) in
    subst P t (c.from_str.ensures.ascii (all_ascii c.format.result.now c.format.ensures.ascii))
