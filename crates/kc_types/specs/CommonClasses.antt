-- The most specific common class of two classes, or the class of all objects where none is that alone (Kotlin Language Specification
-- 1.9, "Least upper bound", by classes alone).
use Rattle.std.specs.Prelude.{ℕ, Bool, true, false, nat_eq, not, ◌||◌, ◌&&◌, List, [], ◌∷◌, Option, Some, None, cond, filter}
use Rattle.kc_types.specs.Types.{Ty, Class, Param, Nothing, Nullable, Heads}
use Rattle.kc_types.specs.Supertypes.{above, instance}

abbrev pub is_there : Option Ty → Bool
is_there (Some t) = true
is_there None = false

-- the first class is the second, or below it
abbrev pub is_subclass : Heads → ℕ → ℕ → Bool
is_subclass h c d = is_there (instance h c d)

abbrev pub classes_of : List Ty → List ℕ
classes_of [] = []
classes_of (Class c xs ∷ ts) = c ∷ classes_of ts
classes_of (Param x ∷ ts) = classes_of ts
classes_of (Nothing ∷ ts) = classes_of ts
classes_of (Nullable t ∷ ts) = classes_of ts

-- the classes above both, in the order of those above the first, where one may stand several times
abbrev pub common_classes : Heads → ℕ → ℕ → List ℕ
common_classes h a b = filter (λ c. is_subclass h b c) (classes_of (above h a))

-- no other class of the list is below it
abbrev pub is_lowest : Heads → List ℕ → ℕ → Bool
is_lowest h [] c = true
is_lowest h (d ∷ ds) c = (nat_eq d c || not (is_subclass h d c)) && is_lowest h ds c

abbrev pub all_are : ℕ → List ℕ → Bool
all_are c [] = true
all_are c (d ∷ ds) = nat_eq d c && all_are c ds

-- the class of all objects where there isn't one alone
abbrev pub only_class : Heads → List ℕ → ℕ
only_class h [] = h.any
only_class h (c ∷ cs) = cond (all_are c cs) c h.any

abbrev pub common_class : Heads → ℕ → ℕ → ℕ
common_class h a b = only_class h (filter (λ c. is_lowest h (common_classes h a b) c) (common_classes h a b))
