-- What is looked at before a set runs, as tests.
use Rattle.std.specs.Prelude.{ℕ, ◌+◌, List, [], ◌∷◌, length, slice_get, Option, Some, None, Bool, true, false, not, ◌&&◌, ◌||◌, ◌==◌, nat_eq, nat_lt, nat_le, codes, if◌then◌else◌}
use Rattle.std.specs.List.{list_all, starts_with}
use Rattle.class_file.specs.declared.class.ClassFile.{ClassFile}
use Rattle.class_file.specs.declared.class.Method.{Method}
use Rattle.class_file.specs.declared.class.Set.{Set}
use Rattle.class_file.specs.Pools.{is_text}
use Rattle.class_file.specs.Descriptors.{is_array_name}
use Rattle.class_file.specs.Classes.{is_abstract_flag, is_interface_flag, object_name, class_named}
use Rattle.class_file.specs.Lots.{static_named}

-- the name is of a package that is kept for the built-in classes
abbrev pub is_reserved : List ℕ → Bool
is_reserved name = starts_with nat_eq name (codes "java/") || (starts_with nat_eq name (codes "kprof/") || starts_with nat_eq name (codes "kotlin/"))

-- a method that is not abstract has instructions, and an initialiser, which goes by this name, is not abstract
abbrev pub method_is_whole : List ℕ → Method → Bool
method_is_whole initialiser m = if is_abstract_flag m.flags then not (is_text m.name initialiser) else not (length m.code == 0)

-- no array has the class's name, an interface is right below Object, which goes by this name, and the methods are whole
abbrev pub class_is_whole : List ℕ → List ℕ → ClassFile → Bool
class_is_whole initialiser object c =
    not (is_array_name c.this_name)
    && ((not (is_interface_flag c.flags) || is_text c.super_name object) && list_all (method_is_whole initialiser) c.methods)

abbrev pub is_whole : ClassFile → Bool
is_whole c = class_is_whole (codes "<clinit>") object_name c

-- ---- main

abbrev pub has_code : Option Method → Bool
has_code (Some m) = not (is_abstract_flag m.flags)
has_code None = false

abbrev pub has_code_at : List Method → Option ℕ → Bool
has_code_at ms (Some place) = has_code (slice_get ms place)
has_code_at ms None = false

abbrev pub main_in : Option ClassFile → Bool
main_in (Some c) = has_code_at c.methods (static_named (codes "main") (codes "()V") c.methods)
main_in None = false

abbrev pub main_at : List ClassFile → Option ℕ → Bool
main_at classes (Some class) = main_in (slice_get classes class)
main_at classes None = false

-- main is a method with code that the main class has itself
abbrev pub main_is_own : Set → Bool
main_is_own set = not (is_reserved set.main) && main_at set.classes (class_named set.main set.classes)

-- ---- ranks

abbrev pub rank_in : Option ℕ → ℕ
rank_in (Some rank) = rank
rank_in None = 0

abbrev pub rank_of : List ℕ → ℕ → ℕ
rank_of ranks class = rank_in (slice_get ranks class)

abbrev pub is_higher : List ℕ → ℕ → Option ℕ → Bool
is_higher ranks class (Some above) = nat_lt (rank_of ranks above) (rank_of ranks class)
is_higher ranks class None = true

-- classes that are numbered from a number on rank above their superclasses
abbrev pub are_higher : Set → List ℕ → ℕ → List ClassFile → Bool
are_higher set ranks n [] = true
are_higher set ranks n (c ∷ cs) = is_higher ranks n (class_named c.super_name set.classes) && are_higher set ranks (n + 1) cs

-- no class ranks higher than there are classes
abbrev pub are_ranked : Set → List ℕ → Bool
are_ranked set ranks = are_higher set ranks 0 set.classes && list_all (λ rank. nat_le rank (length set.classes)) ranks

abbrev pub set_is_whole : Set → List ℕ → Bool
set_is_whole set ranks = main_is_own set && (list_all is_whole set.classes && are_ranked set ranks)
