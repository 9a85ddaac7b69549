use Rattle.std.proofs.Common.{◌-◌, ◌∷◌, [], List, map, ap, ◌∙◌, arith}
use Rattle.std.proofs.lemmas.List.{map-append}
use Rattle.class_file.specs.declared.class.VType.{VType}
use Rattle.class_file.specs.Descriptors.{parameters}
use Rattle.verifier_types.specs.Seen.{type_of}
use Rattle.verifier_types.specs.Calls.{prefixed, read_seen}
use Rattle.verifier_types.proofs.Spelling.{parameter_read}
use Rattle.verifier_types.proofs.descriptors.parameters.Goals as goal

pub loop-rest-preserved : goal.loop-rest-preserved
loop-rest-preserved c =
    let old = c.loop-rest.params.items in
    let read = c.in-Some.read in
    let grown = ap (map type_of) c.in_ok-push.ensures.items ∙ map-append type_of old (read.kind ∷ []) in
    ap (λ (ts : List VType). prefixed ts (parameters (c.loop-rest.left - 1) read.rest.now)) grown
    ∙ parameter_read (map type_of old) c.loop-rest.left c.loop-rest.rest.now (read_seen read) (omega arith) c.if-first-eq41.false c.if-left-eq0.false c.in-Some.ensures
    ∙ c.loop-rest.invariant
