-- Adding an entry to a constant pool.
use Rattle.std.specs.Prelude.{◌≡◌, ℕ, ◌<◌, ◌≤◌, ◌+◌, length, List, [], ◌∷◌, ◌++◌, Option, Some, None, slice_get, map, All, ◌⊎◌, Contains}
use Rattle.class_file.specs.declared.pool.Entry.{Entry}
use Rattle.class_file.specs.declared.pool.Entry.TheVariants.{Long}
use Rattle.class_file.specs.Pools.{Slots, entry_at}

-- how many indexes an entry takes
abbrev pub places_of : Entry → ℕ
places_of (Long n) = 2
places_of _ = 1

-- what a new entry adds to the slots: itself, and nothing behind a Long
abbrev pub added : Entry → Slots
added (Long n) = Some (Long n) ∷ None ∷ []
added e = Some e ∷ []

-- the entry stood there already and the slots stay, or the slots gain it at their end
abbrev pub IndexesOnce : Slots → Slots → Entry → Type 0
IndexesOnce old new entry = (Contains old (Some entry) × (new ≡ old)) ⊎ (¬ (Contains old (Some entry)) × (new ≡ old ++ added entry))

-- the entry is new, and the pool's count would pass 65,535
abbrev pub HasNoRoom : Slots → Entry → Type 0
HasNoRoom slots entry = ¬ (Contains slots (Some entry)) × (65535 < length slots + places_of entry)

-- the entry in a list of different entries that stands at a slot by its place
abbrev pub slot_of : List Entry → Option ℕ → Option Entry
slot_of keys None = None
slot_of keys (Some place) = slice_get keys place

-- the slots that a list of places stands for
abbrev pub slots_of : List Entry → List (Option ℕ) → Slots
slots_of keys places = None ∷ map (slot_of keys) places

-- an entry with the index where it stands
abbrev pub StandsAt : Slots → Entry × ℕ → Type 0
StandsAt slots e = (0 < e.1) × (entry_at slots e.1 ≡ Some e.0)

-- more entries change nothing at the slots that there are, and each entry stands where its number says
pub record IsIndex (keys : List Entry) (entries : List (Entry × ℕ)) (places : List (Option ℕ)) : Type 0 where
  pub small : length places ≤ 65534
  pub stays : (more : List Entry) → map (slot_of (keys ++ more)) places ≡ map (slot_of keys) places
  pub stand : All (StandsAt (slots_of keys places)) entries
