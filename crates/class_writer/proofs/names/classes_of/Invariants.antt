use Rattle.std.proofs.Common.{◌≡◌, ℕ, List, take, nat_eq}
use Rattle.std.specs.Cmp.Lexicographic.{pointwise}
use Rattle.indexmap.specs.IndexMap.{get}
use Rattle.class_file.specs.WrittenClass.{index_from, has_name}
use Rattle.class_writer.proofs.names.classes_of.Given as goal

abbrev pub invariant-loop-index : goal.invariant-loop-index
invariant-loop-index l = (t : List ℕ) → get (pointwise nat_eq) l.classes t ≡ index_from 0 (has_name l.pool t) (take l.index l.pool)
