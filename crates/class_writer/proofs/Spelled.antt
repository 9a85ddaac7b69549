-- Frames of which some bytes are the spelling: the first one fits, and the others are spelled behind it.
use Rattle.std.proofs.Common.{◌≡◌, ◌∷◌, ℕ, ◌+◌, ◌<◌, List, drop, get_or, length, sym, ap, subst, ◌∙◌}
use Rattle.std.proofs.lemmas.List.{drop_more}
use Rattle.std.specs.List.{AllByRecursion}
use Rattle.class_file.specs.declared.class.Frame.{Frame}
use Rattle.class_file.specs.Pools.{Slots}
use Rattle.class_file.specs.ClassBytes.{FramesAre, Before, behind_frame}
use Rattle.class_writer.specs.Fits.{IsSmall, FrameFits, IsBehind}
use Rattle.class_writer.proofs.Fitting.{frame_fits, frame_behind}

abbrev pub AreSpelled : Slots → Before → List Frame → Type 0
AreSpelled slots before frames = (bytes : List ℕ) × FramesAre slots before frames bytes

-- what is left at a place that is within the list
pub left_is : (frames : List Frame) (i : ℕ) (f : Frame) → i < length frames → f ≡ get_or frames i f → drop i frames ≡ f ∷ drop (i + 1) frames
left_is frames i f lt is = drop_more frames i f lt ∙ ap (λ (g : Frame). g ∷ drop (i + 1) frames) (sym is)

module _ (slots : Slots) (before : Before) (left rest : List Frame) (f : Frame) (e : left ≡ f ∷ rest) (spelled : AreSpelled slots before left) where
  all : AreSpelled slots before (f ∷ rest)
  all = subst (AreSpelled slots before) e spelled

  pub first_fits : AllByRecursion IsSmall before.locals → FrameFits f
  first_fits small = let s = all in frame_fits slots before f s.1.0 small s.1.3

  pub first_behind : IsBehind before.at f.at
  first_behind = let s = all in frame_behind slots before f s.1.0 s.1.3

  pub rest_spelled : AreSpelled slots (behind_frame f) rest
  rest_spelled = let s = all in (s.1.1, s.1.4)
