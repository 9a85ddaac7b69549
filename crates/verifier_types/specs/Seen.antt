-- Types as the verifier keeps them, and those that they stand for.
use Rattle.std.specs.Prelude.{◌≡◌, List, [], ◌∷◌, Option, Some, None}
use Rattle.class_file.specs.declared.class.VType.{VType}
use Rattle.class_file.specs.declared.class.VType.TheVariants as vtype
use Rattle.verifier_types.specs.declared.types.VerificationType.{VerificationType}
use Rattle.verifier_types.specs.declared.types.VerificationType.TheVariants as kept

abbrev pub type_of : VerificationType → VType
type_of kept.Top = vtype.Top
type_of kept.Integer = vtype.Integer
type_of kept.Long = vtype.Long
type_of kept.Null = vtype.Null
type_of kept.UninitializedThis = vtype.UninitializedThis
type_of (kept.Object name) = vtype.Object name.now
type_of (kept.Uninitialized at) = vtype.Uninitialized at

-- the top came off
abbrev pub Popped : Option VerificationType → List VType → List VType → Type 0
Popped None old new = (old ≡ []) × (new ≡ [])
Popped (Some t) old new = old ≡ type_of t ∷ new
