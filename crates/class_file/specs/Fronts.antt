-- How many locals a method's frames have in common, each with the frame before it.
use Rattle.std.specs.Prelude.{ℕ, ◌+◌, List, [], ◌∷◌, Bool, true, false, ◌==◌, if◌then◌else◌}
use Rattle.class_file.specs.declared.class.VType.{VType}
use Rattle.class_file.specs.declared.class.VType.TheVariants as type
use Rattle.class_file.specs.declared.class.Frame.{Frame}
use Rattle.class_file.specs.Pools.{is_text}

abbrev pub is_type : VType → VType → Bool
is_type type.Top type.Top = true
is_type type.Integer type.Integer = true
is_type type.Long type.Long = true
is_type type.Null type.Null = true
is_type type.UninitializedThis type.UninitializedThis = true
is_type (type.Object b) (type.Object c) = is_text b c
is_type (type.Uninitialized p) (type.Uninitialized q) = p == q
is_type _ _ = false

-- how many types both lists begin with
abbrev pub common_front : List VType → List VType → ℕ
common_front [] us = 0
common_front (t ∷ ts) [] = 0
common_front (t ∷ ts) (u ∷ us) = if is_type t u then common_front ts us + 1 else 0

-- for each frame, how many locals it has in common with the one before; the first one is behind these locals
abbrev pub fronts_behind : List VType → List Frame → List ℕ
fronts_behind before [] = []
fronts_behind before (f ∷ fs) = common_front before f.locals ∷ fronts_behind f.locals fs

-- the locals of the last frame, or these, behind which there is none
abbrev pub last_locals : List VType → List Frame → List VType
last_locals before [] = before
last_locals before (f ∷ fs) = last_locals f.locals fs
