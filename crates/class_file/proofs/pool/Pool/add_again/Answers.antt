use Rattle.std.proofs.Common.{◌≡◌, ◌++◌, ◌∷◌, ◌+◌, ◌-◌, ◌≤◌, [], List, Option, None, ℕ, ap, sym, ◌∙◌, append_assoc, subst, length, get_or}
use Rattle.std.specs.Map.{keys_of}
use Rattle.class_file.specs.Pools.{Slots}
use Rattle.class_file.specs.Indexing.{places_of, added, StandsAt}
use Rattle.class_file.proofs.Indexing.{place_at, adding_again, Again, places_added-one, places_added-two}
use Rattle.class_file.proofs.pool.Pool.add_again.Goals as goal
use Rattle.class_file.proofs.pool.Pool.add_again.Goals.{Else-count-eq2, In_ok-push-2}

-- an entry that takes one index
one : (c : Else-count-eq2) → Again (keys_of c.self.inside.entries.entries) c.self.inside.entries.entries c.self.inside.places.items c.push.new.self.items c.args.entry.now
one c =
    let es = c.self.inside.entries.entries in
    let places = c.self.inside.places.items in
    let p = c.index-place.result.now in
    let is : p ≡ get_or places (c.args.index - 1) p = c.index-place.ensures ∙ ap (λ (s : List (Option ℕ)). get_or s (c.args.index - 1) p) c.reserve.ensures.items in
    let there = place_at (keys_of es) places c.args.index p c.args.entry.now (subst (λ (s : Slots). StandsAt s (c.args.entry.now, c.args.index)) (sym c.self.view_is) c.requires.at) is in
    adding_again (keys_of es) es places c.args.entry.now p c.self.invariant there
    (subst (λ (s : Slots). length s + places_of c.args.entry.now ≤ 65535) (sym c.self.view_is) c.requires.room)
    c.push.new.self.items
    (c.in_ok-push.ensures.items ∙ ap (λ (s : List (Option ℕ)). s ++ p ∷ []) c.reserve.ensures.items
    ∙ ap (λ (s : List (Option ℕ)). places ++ s) (sym (places_added-one p c.args.entry.now (λ two. c.if-count-eq2.false (c.places_of-count.ensures.exact ∙ two)))))

pub invariant_of-self-else-count-eq2 : goal.invariant_of-self-else-count-eq2
invariant_of-self-else-count-eq2 c = (one c).index

pub returns-else-count-eq2-clause-ok : goal.returns-else-count-eq2-clause-ok
returns-else-count-eq2-clause-ok c = (one c).slots ∙ ap (λ (s : Slots). s ++ added c.args.entry.now) c.self.view_is

-- a Long, and nothing behind it
two : (c : In_ok-push-2) → Again (keys_of c.self.inside.entries.entries) c.self.inside.entries.entries c.self.inside.places.items c.push-then-count-eq2.new.self.items c.args.entry.now
two c =
    let es = c.self.inside.entries.entries in
    let places = c.self.inside.places.items in
    let p = c.index-place.result.now in
    let is : p ≡ get_or places (c.args.index - 1) p = c.index-place.ensures ∙ ap (λ (s : List (Option ℕ)). get_or s (c.args.index - 1) p) c.reserve.ensures.items in
    let there = place_at (keys_of es) places c.args.index p c.args.entry.now (subst (λ (s : Slots). StandsAt s (c.args.entry.now, c.args.index)) (sym c.self.view_is) c.requires.at) is in
    adding_again (keys_of es) es places c.args.entry.now p c.self.invariant there
    (subst (λ (s : Slots). length s + places_of c.args.entry.now ≤ 65535) (sym c.self.view_is) c.requires.room)
    c.push-then-count-eq2.new.self.items
    (c.in_ok-push-2.ensures.items ∙ ap (λ (s : List (Option ℕ)). s ++ None ∷ []) (c.in_ok-push.ensures.items ∙ ap (λ (s : List (Option ℕ)). s ++ p ∷ []) c.reserve.ensures.items) ∙ append_assoc places (p ∷ []) (None ∷ [])
    ∙ ap (λ (s : List (Option ℕ)). places ++ s) (sym (places_added-two p c.args.entry.now (sym c.places_of-count.ensures.exact ∙ c.if-count-eq2.true))))

pub invariant_of-self-in-Continue-branch-3 : goal.invariant_of-self-in-Continue-branch-3
invariant_of-self-in-Continue-branch-3 c = (two c).index

pub returns-in_ok-push-2-clause-ok : goal.returns-in_ok-push-2-clause-ok
returns-in_ok-push-2-clause-ok c = (two c).slots ∙ ap (λ (s : Slots). s ++ added c.args.entry.now) c.self.view_is
