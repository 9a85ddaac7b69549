-- For each byte of a code whether an instruction starts there.
use Rattle.std.specs.Prelude.{◌≡◌, ℕ, ◌+◌, ◌-◌, ◌^◌, ◌<◌, List, [], ◌∷◌, ◌++◌, length, replicate, slice_set, slice_get, Bool, true, false, ◌||◌, Option, Some, None, ◌==◌, if◌then◌else◌}
use Rattle.std.proofs.Common.{get_or}
use Rattle.class_file.specs.declared.class.Handler.{Handler}
use Rattle.class_file.specs.declared.class.Method.{Method}
use Rattle.class_file.specs.Verification.{is_target, is_handler, needs_frame}
use Rattle.std.specs.List.{find}
use Rattle.class_file.specs.declared.class.Frame.{Frame}
use Rattle.class_file.specs.declared.instr.Instr.{Instr}
use Rattle.class_file.specs.Rows.{length_of}

-- those of an instruction's bytes
abbrev pub instr_flags : ℕ → List Bool
instr_flags count = true ∷ replicate (count - 1) false

abbrev pub flags_of : List Instr → List Bool
flags_of [] = []
flags_of (i ∷ is) = instr_flags (length_of i) ++ flags_of is

-- the frame that is given for a place
abbrev pub frame_for : List Frame → ℕ → Option Frame
frame_for fs pc = find (λ f. f.at == pc) fs

-- the table with a place marked, if there is one
abbrev pub marked : List Bool → Option ℕ → List Bool
marked flags None = flags
marked flags (Some to) = slice_set flags to true

-- a table that says for each of its places whether a frame must be given there
pub record IsMarked (flags : List Bool) (m : Method) : Type 0 where
  pub holds : (pc : ℕ) → pc < length flags → get_or flags pc false ≡ needs_frame m pc

-- the table has the targets that were met, and the others are in the rest, which begins at a place
pub record MarksTargets (flags : List Bool) (code : List Instr) (at : ℕ) (rest : List Instr) : Type 0 where
  pub holds : (pc : ℕ) → pc < length flags → (get_or flags pc false || is_target at rest pc) ≡ is_target 0 code pc

pub record HasTargets (flags : List Bool) (code : List Instr) : Type 0 where
  pub holds : (pc : ℕ) → pc < length flags → get_or flags pc false ≡ is_target 0 code pc

-- the table has the targets and the handlers that were met, and the others are in the rest
pub record MarksHandlers (flags : List Bool) (code : List Instr) (handlers rest : List Handler) : Type 0 where
  pub holds : (pc : ℕ) → pc < length flags → (get_or flags pc false || is_handler rest pc) ≡ (is_target 0 code pc || is_handler handlers pc)

pub record HasHandlers (flags : List Bool) (code : List Instr) (handlers : List Handler) : Type 0 where
  pub holds : (pc : ℕ) → pc < length flags → get_or flags pc false ≡ (is_target 0 code pc || is_handler handlers pc)

-- ---- frames by their places

-- the number of the first frame that is given for a place, where the frames are numbered from a number on
abbrev pub frame_number : ℕ → List Frame → ℕ → Option ℕ
frame_number n [] pc = None
frame_number n (f ∷ fs) pc = if f.at == pc then Some n else frame_number (n + 1) fs pc

abbrev pub or_number : Option ℕ → Option ℕ → Option ℕ
or_number (Some n) o = Some n
or_number None o = o

abbrev pub is_free : Option (Option ℕ) → Bool
is_free (Some None) = true
is_free (Some (Some n)) = false
is_free None = false

-- the table with a number at a place, if there is none yet
abbrev pub placed : List (Option ℕ) → ℕ → ℕ → List (Option ℕ)
placed table at n = if is_free (slice_get table at) then slice_set table at (Some n) else table

-- the table has the frames that were met, and the others are in the rest, which is numbered from a number on
pub record PlacesFrames (table : List (Option ℕ)) (frames : List Frame) (n : ℕ) (rest : List Frame) : Type 0 where
  pub holds : (pc : ℕ) → pc < length table → or_number (get_or table pc None) (frame_number n rest pc) ≡ frame_number 0 frames pc

pub record HasFrames (table : List (Option ℕ)) (frames : List Frame) : Type 0 where
  pub holds : (pc : ℕ) → pc < length table → get_or table pc None ≡ frame_number 0 frames pc

-- tables that are of a method
pub record IsTabled (starts marks : List Bool) (frames : List (Option ℕ)) (m : Method) : Type 0 where
  pub short : length m.code < 2 ^ 28
  pub starts_are : starts ≡ flags_of m.code
  pub marks_are : IsMarked marks m
  pub frames_are : HasFrames frames m.frames
