use Rattle.std.proofs.Common.{ℕ, List, Option, sym, ap₂, ◌∙◌}
use Rattle.class_file.specs.Pools.{is_text}
use Rattle.verifier_types.specs.Places.{or_place, place_if}
use Rattle.verifier_types.proofs.Positions.{more}
use Rattle.verifier_types.proofs.named_set.places_of.Goals as goal

pub loop-place-preserved : goal.loop-place-preserved
loop-place-preserved c = record {
  holds = λ t.
      let k = c.loop-place.place in
      c.in_ok-note.ensures t ∙ ap₂ (λ (old : Option ℕ) (name : List ℕ). or_place old (place_if (is_text name t.now) k)) (c.loop-place.invariant.holds t) c.units.ensures
      ∙ sym (more (λ d. is_text d.this_name t.now) c.args.classes.now k c.index-classes-place.result c.index-classes-place.is c.loop-place-test.true);
}
