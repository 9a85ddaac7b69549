-- The class that holds a source file's functions.
use Rattle.std.specs.Prelude.{ℕ, ◌-◌, List, [], ◌∷◌, ◌++◌, length, take, codes, nat_eq}
use Rattle.std.specs.List.{after_last}
use Rattle.std.specs.Char.{to_ascii_uppercase}

-- the text with its first letter in upper case, where that is an ASCII letter
abbrev pub capitalized : List ℕ → List ℕ
capitalized [] = []
capitalized (first ∷ rest) = to_ascii_uppercase first ∷ rest

-- what stands behind the last `/`
abbrev pub last_part_of : List ℕ → List ℕ
last_part_of file = after_last (λ byte. nat_eq byte 47) file

-- the text without its last three bytes
abbrev pub without_ending : List ℕ → List ℕ
without_ending name = take (length name - 3) name

-- the name of the file's class: `OneKt` for `one.kt`, in whatever folders the file stands
abbrev pub class_name_of : List ℕ → List ℕ
class_name_of file = capitalized (without_ending (last_part_of file)) ++ codes "Kt"
