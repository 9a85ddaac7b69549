use Rattle.std.proofs.Common.{sym, ap, ◌∙◌, refl}
use Rattle.std.specs.Option.{is_some}
use Rattle.std.specs.Prelude.{slice_get, ◌-◌}
use Rattle.verifier_types.specs.Places.{is_static_named}
use Rattle.verifier_types.proofs.Chains.{own_among}
use Rattle.verifier_types.proofs.Positions.{is_found}
use Rattle.verifier_types.proofs.names.has_own_static.Goals as goal

pub returns-in-Some : goal.returns-in-Some
returns-in-Some c =
    let set = c.args.set.now in
    let methods = c.in-Some.statics.now in
    c.is_some.ensures ∙ ap is_some c.place.ensures ∙ is_found (is_static_named c.args.name.now c.args.descriptor.now) methods
    ∙ sym (own_among set c.args.number c.args.name.now c.args.descriptor.now methods (slice_get set.classes (c.args.number - 37)) c.if-number-lt-BUILT_IN_COUNT.false refl c.in-Some.ensures)
