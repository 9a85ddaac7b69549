use Rattle.std.proofs.Common.{sym, subst, ◌∙◌}
use Rattle.class_file.specs.Pools.{Slots}
use Rattle.class_file.specs.Indexing.{StandsAt}
use Rattle.class_file.proofs.Entries.{entry_eq, same_entry, entry_laws}
use Rattle.class_file.proofs.Indexing.{found, not_there}
use Rattle.class_file.proofs.pool.Pool.append.Goals as goal

pub add-requires-clause-new : goal.add-requires-clause-new
add-requires-clause-new c = not_there entry_eq same_entry c.self.inside.entries.entries c.self.inside.places.items c.self.invariant c.args.entry entry_laws c.args.self.now c.self.view_is (sym c.get.ensures.value ∙ sym c.copied.ensures ∙ c.in-None.is)

pub add_again-requires-clause-at : goal.add_again-requires-clause-at
add_again-requires-clause-at c =
    subst (λ (s : Slots). StandsAt s (c.args.entry, c.in-Some.index)) c.self.view_is
    (found entry_eq same_entry c.self.inside.entries.entries c.self.inside.places.items c.self.invariant c.args.entry c.in-Some.index (sym c.get.ensures.value ∙ sym c.copied.ensures ∙ c.in-Some.is))
