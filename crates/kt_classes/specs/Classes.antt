-- Parts of classes, from one of them on to the end, and what is built of them.
use Rattle.std.specs.Prelude.{List, [], Option, None}
use Rattle.grammars.specs.Grammar.{Part, both, Cst, pair}
use Rattle.kc_tree.specs.declared.decl.Class.{Class}
use Rattle.kc_tree.specs.declared.decl.ClassForm.TheVariants as form
use Rattle.kc_tree.specs.declared.decl.ClassParam.{ClassParam}
use Rattle.kc_tree.specs.declared.decl.Super.{Super}
use Rattle.kc_tree.specs.declared.types.TypeParam.{TypeParam}
use Rattle.kc_tree.specs.declared.types.Word.{Word}
use Rattle.kt_classes.specs.declared.nodes.BodyParts.{BodyParts}
use Rattle.kt_classes.specs.declared.nodes.Heritage.{Heritage}
use Rattle.kt_classes.specs.declared.nodes.Constructed.{Constructed}
use Rattle.kt_classes.specs.declared.nodes.Generic.{Generic}
use Rattle.kt_classes.specs.declared.nodes.Inherited.{Inherited}
use Rattle.kt_classes.specs.Bodies.{body_parts}
use Rattle.kt_lexer.specs.declared.token.Token.{Token}
use Rattle.kt_grammar.specs.DeclarationsBuilt as built
use Rattle.kt_grammar.specs.Rows as rows
use Rattle.kt_grammar.specs.Rows.{Row}

-- supertypes and a body of the row
abbrev pub heritage : Row → Part Row Token
heritage n = both rows.supers (rows.a_body n)

abbrev pub heritage_with : List Super → BodyParts → Heritage
heritage_with ss b = record { supers = ss; body = b }

abbrev pub heritage_of : Cst Token → Heritage
heritage_of (pair ss b) = heritage_with (built.supers_of ss) (body_parts b)
heritage_of x = heritage_with [] (body_parts x)

-- from the primary constructor on
abbrev pub constructed : Row → Part Row Token
constructed n = both rows.primary_constructor (heritage n)

abbrev pub constructed_with : Option (List ClassParam) → Heritage → Constructed
constructed_with p h = record { primary = p; heritage = h }

abbrev pub constructed_of : Cst Token → Constructed
constructed_of (pair p x) = constructed_with (built.primary_of_class p) (heritage_of x)
constructed_of x = constructed_with None (heritage_of x)

-- from the type parameters of a class on
abbrev pub generic : Row → Part Row Token
generic n = both rows.parameters_of_type (constructed n)

abbrev pub generic_with : List TypeParam → Constructed → Generic
generic_with ps k = record { params = ps; constructed = k }

abbrev pub generic_of : Cst Token → Generic
generic_of (pair ps x) = generic_with (built.parameters_of_type_of ps) (constructed_of x)
generic_of x = generic_with [] (constructed_of x)

-- from the type parameters of an interface on
abbrev pub inherited : Row → Part Row Token
inherited n = both rows.parameters_of_type (heritage n)

abbrev pub inherited_with : List TypeParam → Heritage → Inherited
inherited_with ps h = record { params = ps; heritage = h }

abbrev pub inherited_of : Cst Token → Inherited
inherited_of (pair ps x) = inherited_with (built.parameters_of_type_of ps) (heritage_of x)
inherited_of x = inherited_with [] (heritage_of x)

-- ---- the whole from its name and what stands behind it

abbrev pub class_with : Word → Generic → Class
class_with n g = record {
  form = form.Class;
  name = n;
  params = g.params;
  primary = g.constructed.primary;
  supers = g.constructed.heritage.supers;
  constants = g.constructed.heritage.body.constants;
  members = g.constructed.heritage.body.members;
}

abbrev pub interface_with : Word → Inherited → Class
interface_with n i = record { form = form.Interface; name = n; params = i.params; primary = None; supers = i.heritage.supers; constants = i.heritage.body.constants; members = i.heritage.body.members }

abbrev pub object_with : Word → Heritage → Class
object_with n h = record { form = form.Object; name = n; params = []; primary = None; supers = h.supers; constants = h.body.constants; members = h.body.members }
