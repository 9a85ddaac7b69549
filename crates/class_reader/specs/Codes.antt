-- Code and attributes as the reader keeps them.
use Rattle.std.specs.Option.{option_map}
use Rattle.class_file.specs.FormatFaults.{Code, Attributes}
use Rattle.class_reader.specs.declared.code.Code as kept_code
use Rattle.class_reader.specs.declared.code.Attributes as kept_attributes

abbrev pub code_of : kept_code.Code → Code
code_of c = record {
  max_stack = c.max_stack;
  max_locals = c.max_locals;
  instrs = c.instrs;
  handlers = c.handlers;
  frames = c.frames;
  others = c.others;
}

abbrev pub among_of : {A : Type 0} → kept_attributes.Attributes A → Attributes A
among_of a = record { known = a.known; others = a.others }

abbrev pub among_by : {A B : Type 0} → (A → B) → kept_attributes.Attributes A → Attributes B
among_by f a = record { known = option_map f a.known; others = a.others }
