-- What is known against what a given frame says.
use Rattle.std.specs.Prelude.{ℕ, ◌+◌, List, length, Bool, nat_le, ◌&&◌, slice_index_or}
use Rattle.class_file.specs.declared.class.VType.{VType}
use Rattle.class_file.specs.declared.class.VType.TheVariants.{Top}
use Rattle.class_file.specs.declared.class.Set.{Set}
use Rattle.class_file.specs.Members.{assignable}
use Rattle.class_file.specs.Typing.{width}

-- the local variable at a place may be used as a type, and there are as many places as that takes
abbrev pub fits_at : Set → List VType → ℕ → VType → Bool
fits_at set locals at t = nat_le (at + width t) (length locals) && assignable set (slice_index_or locals at Top) t
