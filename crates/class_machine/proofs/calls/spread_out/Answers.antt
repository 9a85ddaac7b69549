use Rattle.std.proofs.Common.{◌++◌, ◌∷◌, [], List, take, get_or, ap, sym, ◌∙◌}
use Rattle.std.proofs.lemmas.List.{take_more}
use Rattle.class_file.specs.declared.value.Value.{Value}
use Rattle.class_file.specs.declared.value.Value.TheVariants.{Nothing}
use Rattle.class_file.specs.Machine.{spread}
use Rattle.class_machine.proofs.Spread.{spread_append}
use Rattle.class_machine.proofs.calls.spread_out.Goals as goal

pub loop-v-preserved : goal.loop-v-preserved
loop-v-preserved c =
    let xs = c.args.args.now in
    let i = c.loop-v.v-index in
    let x : Value = get_or xs i Nothing in
    c.in_ok-put_local.ensures ∙ ap (λ (s : List Value). s ++ spread (x ∷ [])) c.loop-v.invariant ∙ sym (spread_append (take i xs) (x ∷ [])) ∙ ap spread (sym (take_more xs i Nothing c.loop-v-test.true))
