use Rattle.std.proofs.Common.{◌≡◌, ◌<◌, List, [], reverse, map, length, sym, ap, ◌∙◌, arith}
use Rattle.std.proofs.lemmas.List.{nil_from_length}
use Rattle.class_file.specs.declared.class.VType.{VType}
use Rattle.class_file.specs.Typing.{misuses}
use Rattle.verifier_types.specs.declared.types.VerificationType.TheVariants.{Top}
use Rattle.verifier_types.specs.declared.types.VerificationType.{VerificationType}
use Rattle.verifier_types.specs.Seen.{type_of}
use Rattle.verifier_types.proofs.Lists.{below_top}
use Rattle.verifier_types.proofs.use_types.+misuses.Goals as goal

pub returns-in-empty-stack : goal.returns-in-empty-stack
returns-in-empty-stack t c =
    let wanted = c.args.wanted.now in
    let some : 0 < length wanted = omega arith in
    let none : c.args.stack.now ≡ [] = nil_from_length c.args.stack.now (omega arith) in
    sym (ap (λ (s : List VerificationType). misuses c.args.set.now (map type_of (reverse wanted)) (map type_of (reverse s))) none
    ∙ ap (λ (ws : List VType). misuses c.args.set.now ws []) (below_top wanted Top some))
