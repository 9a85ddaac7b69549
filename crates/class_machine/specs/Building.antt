-- For which sets the machine is built, as tests.
use Rattle.std.specs.Prelude.{ℕ, List, length, map, slice_get, Option, Some, None, Bool, true, false, not, ◌&&◌, ◌||◌, ◌==◌, codes}
use Rattle.std.specs.List.{list_all}
use Rattle.class_file.specs.declared.row.Row.{Row}
use Rattle.class_file.specs.declared.row.Row.TheVariants as row
use Rattle.class_file.specs.declared.pool.Entry.{Entry}
use Rattle.class_file.specs.declared.instr.Instr.{Instr}
use Rattle.class_file.specs.declared.class.ClassFile.{ClassFile}
use Rattle.class_file.specs.declared.class.Handler.{Handler}
use Rattle.class_file.specs.declared.class.Method.{Method}
use Rattle.class_file.specs.declared.class.Set.{Set}
use Rattle.class_file.specs.Rows.{row_of}
use Rattle.class_file.specs.Pools.{Slots, Member, Named, named_in, name_in, entry_at, is_text}
use Rattle.class_file.specs.Classes.{class_named, is_interface_flag, is_special_name, object_name}
use Rattle.class_file.specs.Members.{described, is_there}
use Rattle.class_file.specs.Lots.{static_named}
use Rattle.verifier.specs.Whole.{is_reserved, has_code_at}
use Rattle.class_machine.specs.declared.links.Caught.{Caught}
use Rattle.class_machine.specs.declared.links.Caught.TheVariants as caught
use Rattle.class_machine.specs.Links.{native_named, caught_in}
use Rattle.class_machine.specs.Lot.{is_built}

-- ---- calls

-- the text is a descriptor: it has parameters or a result, or says that there is none of either
abbrev pub is_signed : List ℕ → Bool
is_signed d = not (length (described d).params == 0) || (is_there (described d).result || is_text d (codes "()V"))

-- a class right below Object has the static method itself, with code
abbrev pub owns_in : Member → Option ClassFile → Bool
owns_in m (Some c) =
    not (is_interface_flag c.flags) && (is_text c.super_name object_name && has_code_at c.methods (static_named m.name m.descriptor c.methods))
owns_in m None = false

abbrev pub owns_at : List ClassFile → Member → Option ℕ → Bool
owns_at classes m (Some class) = owns_in m (slice_get classes class)
owns_at classes m None = false

-- the class of the set that is named has the static method itself
abbrev pub is_own_call : Set → Member → Bool
is_own_call set m =
    not (is_reserved m.owner) && (not (is_special_name m.name) && (is_signed m.descriptor && owns_at set.classes m (class_named m.owner set.classes)))

abbrev pub is_call_of : Set → Option Named → Bool
is_call_of set (Some n) = not n.is_interface && (is_there (native_named n.member) || is_own_call set n.member)
is_call_of set None = false

-- a static call by an entry of the pool is built
abbrev pub is_call : Set → Slots → Option Entry → Bool
is_call set pool slot = is_call_of set (named_in pool slot)

-- ---- methods

abbrev pub is_set : Option Bool → Bool
is_set (Some b) = b
is_set None = false

-- given for each entry of the pool whether a call by it is built
abbrev pub row_is_built : List Bool → Row → Bool
row_is_built calls (row.InvokeStatic i) = is_set (slice_get calls i)
row_is_built calls r = is_built r

abbrev pub instr_is_built : List Bool → Instr → Bool
instr_is_built calls i = row_is_built calls (row_of 0 i)

abbrev pub catches : Caught → Bool
catches caught.All = true
catches (caught.Class n) = true
catches caught.Nothing = false

abbrev pub handler_is_built : Slots → Handler → Bool
handler_is_built pool h = catches (caught_in (h.catch_type == 0) (name_in pool (entry_at pool h.catch_type)))

abbrev pub method_is_built : List Bool → Slots → Method → Bool
method_is_built calls pool m = list_all (instr_is_built calls) m.code && list_all (handler_is_built pool) m.handlers

abbrev pub main_member : Set → Member
main_member set = record { owner = set.main; name = codes "main"; descriptor = codes "()V" }

abbrev pub class_is_built : Set → ClassFile → Bool
class_is_built set c = list_all (method_is_built (map (is_call set c.pool) c.pool) c.pool) c.methods

abbrev pub set_is_built : Set → Bool
set_is_built set = is_own_call set (main_member set) && list_all (class_is_built set) set.classes
