-- The heap as the definition sees it.
use Rattle.std.specs.Prelude.{List, map}
use Rattle.class_file.specs.Natives.{Object, TextObject, Instance, TextArgument, IsText, IsNull, NoText}
use Rattle.class_machine.specs.declared.heap.Object.{Object as Kept}
use Rattle.class_machine.specs.declared.heap.Object.TheVariants as kept
use Rattle.class_machine.specs.declared.heap.TextArgument.{TextArgument as Found}
use Rattle.class_machine.specs.declared.heap.TextArgument.TheVariants as found

abbrev pub object_of : Kept → Object
object_of (kept.Text units) = TextObject units
object_of (kept.Instance class fields) = Instance class fields.items

abbrev pub objects_of : List Kept → List Object
objects_of kept = map object_of kept

abbrev pub argument_of : Found → TextArgument
argument_of (found.Text units) = IsText units.now
argument_of found.Null = IsNull
argument_of found.NoText = NoText
