-- The files of a folder: a finite map of names to bytes.
use Rattle.std.specs.Prelude.{◌≡◌, ℕ, ◌<◌, List, Option, None, Some, ⊤}
use Rattle.std.specs.Ordering.{nat_cmp}
use Rattle.std.specs.Cmp.Lexicographic.{slice_cmp}
use Rattle.std.specs.FinMap.{FinMap, get, insert, remove}
use Rattle.kc_io.specs.declared.folders.FolderRead.{FolderRead}
use Rattle.kc_io.specs.declared.folders.FolderRead.TheVariants.{Bytes, Missing, Failed, Memory}

-- names, as their bytes, to the files' bytes
abbrev pub Files : Type 0
Files = FinMap (slice_cmp nat_cmp) (List ℕ)

-- what is told after this file was set
abbrev pub with_file : Option Files → List ℕ → List ℕ → Option Files
with_file None name bytes = None
with_file (Some files) name bytes = Some (insert files name bytes)

-- what is told of all files but this one
abbrev pub without_file : Option Files → List ℕ → Option Files
without_file None name = None
without_file (Some files) name = Some (remove files name)

-- A read of this name may answer so, by what is told of the files and the faults before and after.
abbrev pub Answers : Option Files → ℕ → ℕ → List ℕ → FolderRead → Type 0
Answers None before after name (Bytes bytes) = ⊤
Answers (Some files) before after name (Bytes bytes) = get files name ≡ Some bytes.items
Answers None before after name Missing = before < after
Answers (Some files) before after name Missing = get files name ≡ None
Answers told before after name Failed = before < after
Answers told before after name Memory = ⊤
