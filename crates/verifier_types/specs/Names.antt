-- What names stand for, as the code keeps it.
use Rattle.class_file.specs.Classes.{Element}
use Rattle.verifier_types.specs.declared.names.NamedType.{NamedType}

abbrev pub element_seen : NamedType → Element
element_seen n = record { class = n.class; dimensions = n.dimensions }
