-- The form that the name of a source file has.
use Rattle.std.specs.Prelude.{◌≡◌, ◌≤◌, ℕ, Bool, false, ◌||◌, List, [], ◌∷◌, ◌++◌, length, All, codes, nat_eq}
use Rattle.std.specs.List.{AllPass}
use Rattle.std.specs.Char.{is_ascii_alphanumeric, is_ascii_digit}

-- an ASCII letter, an ASCII digit or `_`
abbrev pub is_word_byte : ℕ → Bool
is_word_byte byte = is_ascii_alphanumeric byte || nat_eq byte 95

-- the name of a folder: letters, digits and `_`, at least one of them
abbrev pub IsFolderName : List ℕ → Type 0
IsFolderName [] = ⊥
IsFolderName (first ∷ rest) = AllPass is_word_byte (first ∷ rest)

-- the name of a source file without its ending: such a name that doesn't begin with a digit
abbrev pub IsBaseName : List ℕ → Type 0
IsBaseName [] = ⊥
IsBaseName (first ∷ rest) = (is_ascii_digit first ≡ false) × AllPass is_word_byte (first ∷ rest)

-- the path to a file in these folders, each followed by `/`
abbrev pub path_of : List (List ℕ) → List ℕ
path_of [] = []
path_of (folder ∷ folders) = folder ++ (47 ∷ path_of folders)

-- the file is the one of this base name in these folders
pub record HasParts (file : List ℕ) (folders : List (List ℕ)) (base : List ℕ) : Type 0 where
  pub each_folder : All IsFolderName folders
  pub named : IsBaseName base
  pub spelled : file ≡ path_of folders ++ (base ++ codes ".kt")

-- the name of a source file: folders, a base name and `.kt`, at most 200 bytes
pub record IsSourceFile (file : List ℕ) : Type 0 where
  pub short : length file ≤ 200
  pub folders : List (List ℕ)
  pub base : List ℕ
  pub parts : HasParts file folders base
