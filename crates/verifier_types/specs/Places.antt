-- Maps that keep places by name.
use Rattle.std.specs.Prelude.{◌≡◌, ℕ, List, Option, Some, None, Bool, if◌then◌else◌, nat_eq, ◌&&◌}
use Rattle.std.specs.Cmp.Lexicographic.{pointwise}
use Rattle.std.proofs.Common.{Bor}
use Rattle.indexmap.specs.IndexMap.{get, IndexMap}
use Rattle.class_file.specs.declared.class.ClassFile.{ClassFile}
use Rattle.class_file.specs.declared.class.Method.{Method}
use Rattle.class_file.specs.Classes.{class_named, is_static_flag}
use Rattle.class_file.specs.Lots.{static_named}
use Rattle.class_file.specs.Pools.{is_text}
use Rattle.verifier_types.specs.declared.statics.Signature.{Signature}

abbrev pub are_same : Bor (List ℕ) → Bor (List ℕ) → Bool
are_same a b = pointwise nat_eq a.now b.now

abbrev pub have_same : Signature → Signature → Bool
have_same a b = are_same a.name b.name && are_same a.descriptor b.descriptor

abbrev pub or_place : Option ℕ → Option ℕ → Option ℕ
or_place (Some place) other = Some place
or_place None other = other

abbrev pub place_if : Bool → ℕ → Option ℕ
place_if holds place = if holds then Some place else None

-- the place of the first class of each name is kept
pub record PlacesAre {S : Type 0} (places : IndexMap (Bor (List ℕ)) ℕ S) (classes : List ClassFile) : Type 0 where
  pub holds : (t : Bor (List ℕ)) → get are_same places t ≡ class_named t.now classes

-- a static method of this name and descriptor
abbrev pub is_static_named : List ℕ → List ℕ → Method → Bool
is_static_named name descriptor m = is_static_flag m.flags && (is_text m.name name && is_text m.descriptor descriptor)

-- the place of the first static method of each name and descriptor is kept
pub record StaticsAre {S : Type 0} (places : IndexMap Signature ℕ S) (methods : List Method) : Type 0 where
  pub holds : (t : Signature) → get have_same places t ≡ static_named t.name.now t.descriptor.now methods
