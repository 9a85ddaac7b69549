-- The slots of a pool, one by one.
use Rattle.std.proofs.Common.{◌≡◌, ℕ, suc, ◌+◌, ◌<◌, Bool, true, false, cond, [], ◌∷◌, ◌++◌, length, get_or, take, Option, Some, None, refl, sym, ap, ap₂, ◌∙◌, arith, subst, length-take-le}
use Rattle.std.specs.Prelude.{IfSome}
use Rattle.std.specs.List.{flat_map}
use Rattle.std.proofs.lemmas.List.{take_more}
use Rattle.std.proofs.lemmas.List.Elements.{All-get_or}
use Rattle.std.proofs.lemmas.Option.{slice_get-get_or}
use Rattle.class_file.specs.declared.pool.Entry.{Entry}
use Rattle.class_file.specs.Pools.{Slots, entry_at, flat}
use Rattle.class_file.specs.ClassBytes.{IsPool, IsEntry, slot_bytes}
use Rattle.class_file.specs.WrittenClass.{index_from}
use Rattle.class_writer.specs.Indexes.{first_of, only_if}
use Rattle.class_writer.proofs.Grammar.{flat_map_more}

flat_slot : (slot : Option Entry) → flat (Some slot) ≡ slot
flat_slot None = refl
flat_slot (Some e) = refl

pub slot_at : (slots : Slots) (i : ℕ) → i < length slots → entry_at slots i ≡ get_or slots i None
slot_at slots i lt = ap flat (slice_get-get_or slots i None lt) ∙ flat_slot (get_or slots i None)

-- what a pool's entry asks for
pub entry_asks : (slots : Slots) (i : ℕ) (e : Entry) → IsPool slots → i < length slots → entry_at slots i ≡ Some e → IsEntry slots e
entry_asks slots i e pool lt is =
    subst (λ slot. IfSome slot (IsEntry slots)) (sym (slot_at slots i lt) ∙ is) (All-get_or (λ slot. IfSome slot (IsEntry slots)) slots i None lt pool.each)

pub slots_more : (slots : Slots) (i : ℕ) → i < length slots → flat_map slot_bytes (take (i + 1) slots) ≡ flat_map slot_bytes (take i slots) ++ slot_bytes (entry_at slots i)
slots_more slots i lt = flat_map_more slot_bytes slots i None lt ∙ ap (λ slot. flat_map slot_bytes (take i slots) ++ slot_bytes slot) (sym (slot_at slots i lt))

index_push : (k : ℕ) (test : Option Entry → Bool) (slots : Slots) (slot : Option Entry) → index_from k test (slots ++ slot ∷ []) ≡ first_of (index_from k test slots) (only_if (test slot) (k + length slots))
index_push k test [] slot = let e : k + 0 ≡ k = omega arith in rw e (last (test slot))
  where
    last : (b : Bool) → cond b (Some k) None ≡ only_if b k
    last true = refl
    last false = refl
index_push k test (s ∷ slots) slot =
    let e : k + 1 + length slots ≡ k + suc (length slots) = omega arith in
    by (test s) (index_push (k + 1) test slots slot ∙ ap (λ n. first_of (index_from (k + 1) test slots) (only_if (test slot) n)) e)
  where
    by : (b : Bool) → index_from (k + 1) test (slots ++ slot ∷ []) ≡ first_of (index_from (k + 1) test slots) (only_if (test slot) (k + suc (length slots))) → cond b (Some k) (index_from (k + 1) test (slots ++ slot ∷ [])) ≡ first_of (cond b (Some k) (index_from (k + 1) test slots)) (only_if (test slot) (k + suc (length slots)))
    by true ih = refl
    by false ih = ih

-- the first index in one slot more
pub index_more : (test : Option Entry → Bool) (slots : Slots) (i : ℕ) → i < length slots → index_from 0 test (take (i + 1) slots) ≡ first_of (index_from 0 test (take i slots)) (only_if (test (entry_at slots i)) i)
index_more test slots i lt =
    let n : 0 + length (take i slots) ≡ i = omega (arith, length-take-le i slots) in
    ap (index_from 0 test) (take_more slots i None lt)
    ∙ index_push 0 test (take i slots) (get_or slots i None)
    ∙ ap₂ (λ slot m. first_of (index_from 0 test (take i slots)) (only_if (test slot) m)) (sym (slot_at slots i lt)) n
