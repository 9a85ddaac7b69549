use Rattle.std.proofs.Common.{◌≡◌, ◌++◌, ◌∷◌, ◌+◌, [], List, Option, Some, None, ℕ, ap, sym, ◌∙◌, arith, append_assoc, subst, length, ◌≤◌, Contains}
use Rattle.class_file.specs.Pools.{Slots}
use Rattle.class_file.specs.Indexing.{places_of, added}
use Rattle.indexmap.proofs.CallerLemmas.{insert_entry-new}
use Rattle.class_file.proofs.Entries.{entry_eq, same_entry}
use Rattle.class_file.proofs.Indexing.{adding, Added, new_entry, places_added-one, places_added-two}
use Rattle.class_file.proofs.pool.Pool.add.Goals as goal

-- a new entry that takes one index
one : (c : goal.Else-count-eq2) → Added c.self.inside.entries.entries c.insert.new.self.entries c.self.inside.places.items c.push.new.self.items c.args.entry (c.len.result + 1)
one c =
    let es = c.self.inside.entries.entries in
    let none = new_entry entry_eq same_entry es c.self.inside.places.items c.self.invariant c.args.entry (subst (λ (s : Slots). ¬ (Contains s (Some c.args.entry))) (sym c.self.view_is) c.requires.new) in
    let grew : c.push.new.self.items ≡ c.self.inside.places.items ++ Some c.len-place.result ∷ [] = c.in_ok-push.ensures.items ∙ ap (λ (s : List (Option ℕ)). s ++ Some c.len-place.result ∷ []) c.reserve.ensures.items in
    adding es c.insert.new.self.entries c.self.inside.places.items c.push.new.self.items c.args.entry c.len-place.result (c.len.result + 1) c.self.invariant
    (c.in_ok-insert.ensures.entries ∙ insert_entry-new entry_eq c.self.inside.entries c.args.entry (c.len.result + 1) none)
    c.len-place.ensures.len
    (grew ∙ ap (λ (s : List (Option ℕ)). c.self.inside.places.items ++ s) (sym (places_added-one (Some c.len-place.result) c.args.entry (λ two. c.if-count-eq2.false (c.places_of-count.ensures.exact ∙ two)))))
    (omega (arith, c.len.ensures))
    (subst (λ (s : Slots). length s + places_of c.args.entry ≤ 65535) (sym c.self.view_is) c.requires.room)

pub invariant_of-self-else-count-eq2 : goal.invariant_of-self-else-count-eq2
invariant_of-self-else-count-eq2 c = (one c).index

pub returns-else-count-eq2-clause-at : goal.returns-else-count-eq2-clause-at
returns-else-count-eq2-clause-at c = (one c).at

pub returns-else-count-eq2-clause-ok : goal.returns-else-count-eq2-clause-ok
returns-else-count-eq2-clause-ok c = (one c).slots ∙ ap (λ (s : Slots). s ++ added c.args.entry) c.self.view_is

-- a new Long, and nothing behind it
two : (c : goal.In_ok-push-2) → Added c.self.inside.entries.entries c.insert.new.self.entries c.self.inside.places.items c.push-then-count-eq2.new.self.items c.args.entry (c.len.result + 1)
two c =
    let es = c.self.inside.entries.entries in
    let none = new_entry entry_eq same_entry es c.self.inside.places.items c.self.invariant c.args.entry (subst (λ (s : Slots). ¬ (Contains s (Some c.args.entry))) (sym c.self.view_is) c.requires.new) in
    let grew : c.push-then-count-eq2.new.self.items ≡ c.self.inside.places.items ++ Some c.len-place.result ∷ None ∷ [] =
    c.in_ok-push-2.ensures.items ∙ ap (λ (s : List (Option ℕ)). s ++ None ∷ []) (c.in_ok-push.ensures.items ∙ ap (λ (s : List (Option ℕ)). s ++ Some c.len-place.result ∷ []) c.reserve.ensures.items) ∙ append_assoc c.self.inside.places.items (Some c.len-place.result ∷ []) (None ∷ []) in
    adding es c.insert.new.self.entries c.self.inside.places.items c.push-then-count-eq2.new.self.items c.args.entry c.len-place.result (c.len.result + 1) c.self.invariant
    (c.in_ok-insert.ensures.entries ∙ insert_entry-new entry_eq c.self.inside.entries c.args.entry (c.len.result + 1) none)
    c.len-place.ensures.len
    (grew ∙ ap (λ (s : List (Option ℕ)). c.self.inside.places.items ++ s) (sym (places_added-two (Some c.len-place.result) c.args.entry (sym c.places_of-count.ensures.exact ∙ c.if-count-eq2.true))))
    (omega (arith, c.len.ensures))
    (subst (λ (s : Slots). length s + places_of c.args.entry ≤ 65535) (sym c.self.view_is) c.requires.room)

pub invariant_of-self-in-Continue-branch-4 : goal.invariant_of-self-in-Continue-branch-4
invariant_of-self-in-Continue-branch-4 c = (two c).index

pub returns-in_ok-push-2-clause-at : goal.returns-in_ok-push-2-clause-at
returns-in_ok-push-2-clause-at c = (two c).at

pub returns-in_ok-push-2-clause-ok : goal.returns-in_ok-push-2-clause-ok
returns-in_ok-push-2-clause-ok c = (two c).slots ∙ ap (λ (s : Slots). s ++ added c.args.entry) c.self.view_is
