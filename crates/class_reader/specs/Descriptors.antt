-- Descriptors, read for what is behind each type.
use Rattle.std.specs.Prelude.{ℕ, zero, suc, List, [], ◌∷◌, length, Option, Some, None, Bool, true, false, ◌&&◌, ◌||◌, ◌==◌, if◌then◌else◌, codes}
use Rattle.std.specs.List.{list_any}
use Rattle.class_file.specs.Pools.{is_text}
use Rattle.class_file.specs.Descriptors.{Name, Typed, is_class_name, up_to_semicolon, first_type}
use Rattle.class_file.specs.DescriptorFaults.{behind_type, goes_on}
use Rattle.class_reader.specs.declared.descriptors.Types.{Types}
use Rattle.class_reader.specs.declared.descriptors.Types.TheVariants as types

-- whether a part of a class's name has begun behind one more unit, or that it is no name
abbrev pub name_step : Bool → ℕ → Option Bool
name_step begun u =
    if u == 47 then (if begun then Some false else None) else (if u == 46 || u == 91 then None else Some true)

-- what is behind the rest of a class's name
abbrev pub name_behind : Bool → Option Name → Option (List ℕ)
name_behind begun None = None
name_behind begun (Some n) = if is_class_name begun n.units then Some n.rest else None

abbrev pub rest_of : Option Typed → Option (List ℕ)
rest_of None = None
rest_of (Some t) = Some t.rest

-- behind the elements of an array of the profile
abbrev pub elements_behind : List ℕ → Option (List ℕ)
elements_behind [] = None
elements_behind (u ∷ us) =
    if u == 91 then elements_behind us else (if u == 76 then name_behind false (up_to_semicolon us) else None)

abbrev pub is_base : ℕ → Bool
is_base u = list_any (λ v. u == v) (codes "BCDFIJSZ")

-- what is behind the first type
abbrev pub behind_first : Types → List ℕ → Option (List ℕ)
behind_first types.Profile units = rest_of (first_type units)
behind_first types.Standard units = behind_type units

abbrev pub is_nothing : Option (List ℕ) → Bool
is_nothing (Some []) = true
is_nothing _ = false

-- one type alone
abbrev pub is_whole : Types → List ℕ → Bool
is_whole types units = is_nothing (behind_first types units)

abbrev pub is_result : Types → List ℕ → Bool
is_result types units = is_text units (codes "V") || is_whole types units

abbrev pub is_open : Types → ℕ → List ℕ → Bool
is_open types n [] = false
is_open types zero (u ∷ us) = u == 41 && is_result types us
is_open types (suc n) (u ∷ us) = if u == 41 then is_result types us else goes_on (behind_first types (u ∷ us)) (is_open types n)

abbrev pub is_method : Types → List ℕ → Bool
is_method types [] = false
is_method types (u ∷ us) = u == 40 && is_open types (length us) us
