use Rattle.std.proofs.Common.{◌≡◌, length, ap, sym, ◌∙◌, arith}
use Rattle.std.proofs.lemmas.List.{length-map}
use Rattle.class_file.specs.Members.{Call}
use Rattle.verifier_types.specs.Seen.{type_of}
use Rattle.class_machine.specs.Links.{count_of}
use Rattle.class_machine.proofs.linking.count_of.Goals as goal

pub returns : goal.returns
returns c =
    let e : length c.in_ok-call.call.params.items ≡ count_of c.args.descriptor.now = sym (length-map c.in_ok-call.call.params.items type_of) ∙ ap (λ (k : Call). length k.params) c.in_ok-call.ensures in
    omega (arith, e, c.len.ensures)
