use Rattle.std.proofs.Common.{List, map, ap, ◌∙◌}
use Rattle.std.specs.Prelude.{reverse}
use Rattle.class_file.specs.declared.class.VType.{VType}
use Rattle.class_file.specs.Typing.{misuses}
use Rattle.verifier_types.specs.Seen.{type_of}
use Rattle.verifier_types.proofs.Lists.{map_reverse}
use Rattle.verifier_types.proofs.rows.argument_fault.Goals as goal

pub returns : goal.returns
returns c =
    let stack = map type_of (reverse c.as_slice.result.now) in
    c.misuses.ensures ∙ ap (λ (ws : List VType). misuses c.args.set.now ws stack) (map_reverse c.args.params.now)
    ∙ ap (misuses c.args.set.now (reverse (map type_of c.args.params.now))) c.as_slice.ensures
