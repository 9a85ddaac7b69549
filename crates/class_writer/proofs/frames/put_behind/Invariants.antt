use Rattle.std.proofs.Common.{◌≡◌, ◌++◌, ℕ, List, drop}
use Rattle.std.specs.List.{AllByRecursion}
use Rattle.class_file.specs.declared.class.Frame.{Frame}
use Rattle.class_file.specs.Pools.{Slots}
use Rattle.class_file.specs.ClassBytes.{FramesAre, behind_frame}
use Rattle.class_file.specs.Fronts.{fronts_behind}
use Rattle.class_file.specs.WrittenClass.{frames_bytes}
use Rattle.class_writer.specs.Indexes.{slots_of}
use Rattle.class_writer.specs.Fits.{IsSmall}
use Rattle.class_writer.proofs.frames.put_behind.Given as goal

-- what is written and what is left are all frames, what is left is spelled, and its fronts are left
pub record Left (slots : Slots) (out old : List ℕ) (before first : Frame) (left frames : List Frame) (fronts : List ℕ) : Type 0 where
  pub written : out ++ frames_bytes slots (behind_frame before) left ≡ old ++ frames_bytes slots (behind_frame first) frames
  pub small : AllByRecursion IsSmall before.locals
  pub spelled : (bytes : List ℕ) × FramesAre slots (behind_frame before) left bytes
  pub in_common : fronts ≡ fronts_behind before.locals left

abbrev pub invariant-loop-frame : goal.invariant-loop-frame
invariant-loop-frame l = Left (slots_of l.names) l.out.items l.fn.out.items l.before l.first (drop l.frame-index l.frames) l.frames l.left
