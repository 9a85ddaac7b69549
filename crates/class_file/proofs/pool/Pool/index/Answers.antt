use Rattle.std.proofs.Common.{◌≡◌, refl, ap, sym, subst, ◌∙◌, arith, inl, inr, length, suc}
use Rattle.std.specs.Map.{keys_of}
use Rattle.std.proofs.lemmas.List.{length-map}
use Rattle.class_file.specs.Pools.{Slots}
use Rattle.class_file.specs.Indexing.{StandsAt, slot_of}
use Rattle.class_file.proofs.Entries.{entry_eq, same_entry, entry_laws}
use Rattle.class_file.proofs.Indexing.{found, not_there, standing}
use Rattle.class_file.proofs.pool.Pool.index.Goals as goal

-- what was found stands where its index says
there : (c : goal.Joined-entry) → StandsAt c.args.self.now (c.args.entry, c.in-Some.index)
there c =
    subst (λ (s : Slots). StandsAt s (c.args.entry, c.in-Some.index)) c.self.view_is
    (found entry_eq same_entry c.self.inside.entries.entries c.self.inside.places.items c.self.invariant c.args.entry c.in-Some.index (sym c.get.ensures.value ∙ sym c.copied.ensures ∙ c.in-Some.is))

pub returns-in-Some-clause-at : goal.returns-in-Some-clause-at
returns-in-Some-clause-at c = there c

pub returns-in-Some-clause-ok : goal.returns-in-Some-clause-ok
returns-in-Some-clause-ok c = inl (standing c.args.self.now c.in-Some.index c.args.entry (there c).1, refl)

pub returns-in-Some-clause-room : goal.returns-in-Some-clause-room
returns-in-Some-clause-room c = λ full. full.0 (standing c.args.self.now c.in-Some.index c.args.entry (there c).1)

pub returns-then-len-places_of-gt-MOST-clause-full : goal.returns-then-len-places_of-gt-MOST-clause-full
returns-then-len-places_of-gt-MOST-clause-full c =
    let size = length-map c.self.inside.places.items (slot_of (keys_of c.self.inside.entries.entries)) in
    let all : length c.args.self.now ≡ suc (length c.self.inside.places.items) = ap length (sym c.self.view_is) ∙ ap suc size in
    (not_there entry_eq same_entry c.self.inside.entries.entries c.self.inside.places.items c.self.invariant c.args.entry entry_laws c.args.self.now c.self.view_is (sym c.get.ensures.value ∙ sym c.copied.ensures ∙ c.in_default.is), omega (arith, all))

pub add-requires-clause-new : goal.add-requires-clause-new
add-requires-clause-new c = not_there entry_eq same_entry c.self.inside.entries.entries c.self.inside.places.items c.self.invariant c.args.entry entry_laws c.args.self.now c.self.view_is (sym c.get.ensures.value ∙ sym c.copied.ensures ∙ c.in_default.is)

pub returns-clause-ok : goal.returns-clause-ok
returns-clause-ok c = inr (not_there entry_eq same_entry c.self.inside.entries.entries c.self.inside.places.items c.self.invariant c.args.entry entry_laws c.args.self.now c.self.view_is (sym c.get.ensures.value ∙ sym c.copied.ensures ∙ c.in_default.is), c.in_ok-add.ensures.ok)
