-- What is wrong with a text that stands in place of a descriptor (Java Virtual Machine Specification SE 8, 4.3).
use Rattle.std.specs.Prelude.{ℕ, zero, suc, List, [], ◌∷◌, length, Option, Some, None, Bool, true, false, ◌&&◌, ◌||◌, ◌==◌, if◌then◌else◌, codes}
use Rattle.std.specs.List.{list_any}
use Rattle.class_file.specs.declared.format_fault.FormatCode.{FormatCode}
use Rattle.class_file.specs.declared.format_fault.FormatCode.TheVariants.{BadDescriptor, OutOfProfile}
use Rattle.class_file.specs.Pools.{is_text}
use Rattle.class_file.specs.Descriptors.{Name, up_to_semicolon, is_class_name}
use Rattle.class_file.specs.ClassBytes.{is_field_descriptor, is_method_descriptor, is_type_name}

-- ---- descriptors as the standard has them (4.3), also those that the profile leaves out

abbrev is_base_type : ℕ → Bool
is_base_type u = list_any (λ v. u == v) (codes "BCDFIJSZ")

abbrev behind_class : Option Name → Option (List ℕ)
behind_class None = None
behind_class (Some n) = if is_class_name false n.units then Some n.rest else None

-- what is left behind a type
abbrev pub behind_type : List ℕ → Option (List ℕ)
behind_type [] = None
behind_type (u ∷ us) =
    if is_base_type u then Some us
    else (if u == 76 then behind_class (up_to_semicolon us) else (if u == 91 then behind_type us else None))

abbrev is_end : Option (List ℕ) → Bool
is_end (Some []) = true
is_end _ = false

abbrev pub is_any_field_descriptor : List ℕ → Bool
is_any_field_descriptor units = is_end (behind_type units)

abbrev pub is_result : List ℕ → Bool
is_result units = is_text units (codes "V") || is_any_field_descriptor units

abbrev pub goes_on : Option (List ℕ) → (List ℕ → Bool) → Bool
goes_on None more = false
goes_on (Some rest) more = more rest

abbrev pub is_behind_open : ℕ → List ℕ → Bool
is_behind_open n [] = false
is_behind_open zero (u ∷ us) = u == 41 && is_result us
is_behind_open (suc n) (u ∷ us) = if u == 41 then is_result us else goes_on (behind_type (u ∷ us)) (is_behind_open n)

abbrev pub is_any_method_descriptor : List ℕ → Bool
is_any_method_descriptor [] = false
is_any_method_descriptor (u ∷ us) = u == 40 && is_behind_open (length us) us

abbrev pub unless : Bool → Bool → Option FormatCode
unless in_profile in_standard = if in_profile then None else (if in_standard then Some OutOfProfile else Some BadDescriptor)

abbrev pub field_descriptor_fault : List ℕ → Option FormatCode
field_descriptor_fault t = unless (is_field_descriptor t) (is_any_field_descriptor t)

abbrev pub method_descriptor_fault : List ℕ → Option FormatCode
method_descriptor_fault t = unless (is_method_descriptor t) (is_any_method_descriptor t)

abbrev pub descriptor_fault : List ℕ → Option FormatCode
descriptor_fault t = unless (is_field_descriptor t || is_method_descriptor t) (is_any_field_descriptor t || is_any_method_descriptor t)

abbrev pub type_name_fault : List ℕ → Option FormatCode
type_name_fault t = unless (is_type_name t) (is_any_field_descriptor t)
