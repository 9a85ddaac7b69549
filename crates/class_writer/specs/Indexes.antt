-- The first indexes of the texts and the classes of a pool, kept by name.
use Rattle.std.specs.Prelude.{◌≡◌, ℕ, List, Option, Some, None, Bool, if◌then◌else◌, nat_eq}
use Rattle.std.specs.Cmp.Lexicographic.{pointwise}
use Rattle.indexmap.specs.IndexMap.{get}
use Rattle.class_file.specs.Pools.{Slots}
use Rattle.class_file.specs.WrittenClass.{index_from, has_text, has_name}
use Rattle.class_writer.specs.declared.names.Names.{Names}

abbrev pub first_of : Option ℕ → Option ℕ → Option ℕ
first_of (Some index) other = Some index
first_of None other = other

abbrev pub only_if : Bool → ℕ → Option ℕ
only_if holds index = if holds then Some index else None

-- the pool
abbrev pub slots_of : Names → Slots
slots_of names = names.pool.now

-- each text's and each class's first index is kept under its name
pub record AreFirst (names : Names) : Type 0 where
  pub texts : (t : List ℕ) → get (pointwise nat_eq) names.texts t ≡ index_from 0 (has_text t) (slots_of names)
  pub classes : (t : List ℕ) → get (pointwise nat_eq) names.classes t ≡ index_from 0 (has_name (slots_of names) t) (slots_of names)
