use Rattle.std.proofs.Common.{Bor, subst, sym, ◌∙◌, ap, arith}
use Rattle.std.proofs.lemmas.List.{length-map, get_or-map}
use Rattle.std.proofs.lemmas.List.Elements.{All-from_recursion, All-get_or}
use Rattle.class_file.specs.declared.class.VType.{VType}
use Rattle.class_writer.specs.Fits.{IsSmall}
use Rattle.class_writer.proofs.Behind.{seen}
use Rattle.class_writer.proofs.types.put_each_local.Goals as goal

pub put_type-requires-clause-small : goal.put_type-requires-clause-small
put_type-requires-clause-small c =
    let locals = c.args.locals.now in
    let kept = c.kept-item.result in
    let here = All-get_or IsSmall (seen locals) c.loop-kept.kept-index kept.now (omega (arith, c.loop-kept-test.true, length-map locals (λ (k : Bor VType). k.now))) (All-from_recursion IsSmall (seen locals) c.requires.small) in
    subst IsSmall (get_or-map (λ (k : Bor VType). k.now) locals c.loop-kept.kept-index kept kept.now c.loop-kept-test.true ∙ ap (λ (k : Bor VType). k.now) (sym c.kept-item.is)) here
