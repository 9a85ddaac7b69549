-- The class of `public interface M { static void main() {} }`, with the pool in the order that javac gives it.
use Rattle.std.specs.Prelude.{[], ◌∷◌, Option, Some, None, Bool, true, false, not, ◌&&◌, ◌==◌, codes}
use Rattle.class_file.specs.declared.pool.Entry.{Entry}
use Rattle.class_file.specs.declared.pool.Entry.TheVariants.{Utf8, Class}
use Rattle.class_file.specs.declared.instr.Instr.TheVariants.{Return}
use Rattle.class_file.specs.declared.class.Method.{Method}
use Rattle.class_file.specs.declared.class.ClassFile.{ClassFile}
use Rattle.class_file.specs.Pools.{Slots, is_text}

-- whether a slot can't hold an entry, a text or a class
abbrev pub differs : Entry → Option Entry → Bool
differs e None = true
differs (Utf8 t) (Some (Utf8 u)) = not (is_text t u)
differs (Utf8 t) (Some (Class n)) = true
differs (Class n) (Some (Utf8 t)) = true
differs (Class n) (Some (Class m)) = not (n == m)
differs e slot = false

abbrev pub is_new : Slots → Entry → Bool
is_new [] e = true
is_new (slot ∷ slots) e = differs e slot && is_new slots e

abbrev pub main_pool : Slots
main_pool =
    None ∷ Some (Class 2) ∷ Some (Utf8 (codes "M")) ∷ Some (Class 4) ∷ Some (Utf8 (codes "java/lang/Object")) ∷ Some (Utf8 (codes "main"))
    ∷ Some (Utf8 (codes "()V")) ∷ Some (Utf8 (codes "Code")) ∷ []

abbrev pub main_method : Method
main_method = record {
  flags = 9;
  name = codes "main";
  descriptor = codes "()V";
  max_stack = 0;
  max_locals = 0;
  code = Return ∷ [];
  handlers = [];
  frames = [];
  code_others = [];
  others = [];
}

abbrev pub main_class : ClassFile
main_class = record {
  pool = main_pool;
  flags = 0x601;
  this_name = codes "M";
  super_name = codes "java/lang/Object";
  interfaces = [];
  fields = [];
  methods = main_method ∷ [];
  others = [];
}
