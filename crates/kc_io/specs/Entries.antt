-- The entries of a folder in memory: names and contents, in written order.
use Rattle.std.specs.Prelude.{ℕ, List, [], ◌∷◌, map, String, cond}
use Rattle.std.specs.Global.{Global, Vec}
use Rattle.std.specs.String.{string_bytes}
use Rattle.std.specs.Str.{bytes_eq}
use Rattle.std.specs.FinMap.{from_entries}
use Rattle.kc_io.specs.Files.{Files}

-- a name and its contents
abbrev pub entry_of : String Global × Vec ℕ → List ℕ × List ℕ
entry_of file = (string_bytes file.0, file.1.items)

abbrev pub entries_of : List (String Global × Vec ℕ) → List (List ℕ × List ℕ)
entries_of files = map entry_of files

-- the files; of a name that stands twice the first entry counts
abbrev pub files_of : List (List ℕ × List ℕ) → Files
files_of entries = from_entries entries

-- a write replaces the first entry of the name, or adds one at the end
abbrev pub with_entry : List (List ℕ × List ℕ) → List ℕ → List ℕ → List (List ℕ × List ℕ)
with_entry [] name bytes = (name, bytes) ∷ []
with_entry (entry ∷ entries) name bytes =
    cond (bytes_eq name entry.0) ((entry.0, bytes) ∷ entries) (entry ∷ with_entry entries name bytes)
