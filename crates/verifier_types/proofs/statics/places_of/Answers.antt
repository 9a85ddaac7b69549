use Rattle.std.proofs.Common.{ℕ, Option, sym, ap, ◌∙◌}
use Rattle.verifier_types.specs.Places.{is_static_named, or_place, place_if}
use Rattle.verifier_types.proofs.Positions.{more}
use Rattle.verifier_types.proofs.statics.places_of.Goals as goal

pub loop-place-preserved : goal.loop-place-preserved
loop-place-preserved c = record {
  holds = λ t.
      c.in_ok-note_static.ensures t ∙ ap (λ (o : Option ℕ). or_place o (place_if (is_static_named t.name.now t.descriptor.now c.index-methods-place.result) c.loop-place.place)) (c.loop-place.invariant.holds t)
      ∙ sym (more (is_static_named t.name.now t.descriptor.now) c.args.methods.now c.loop-place.place c.index-methods-place.result c.index-methods-place.is c.loop-place-test.true);
}
