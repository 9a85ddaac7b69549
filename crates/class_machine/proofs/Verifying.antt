-- What the machine is built for is what the law of verified sets is of.
use Rattle.std.proofs.Common.{◌≡◌, true, refl}
use Rattle.class_file.specs.declared.row.Row.{Row}
use Rattle.class_file.specs.declared.row.Row.TheVariants as row
use Rattle.class_file.specs.declared.class.Set.{Set}
use Rattle.class_file.specs.Rows.{row_of}
use Rattle.class_file.specs.Verification.{Verifies}
use Rattle.class_soundness.specs.Soundness.{IsCovered, IsLoaded, VerifiedIsNeverStuck, is_covered}
use Rattle.class_machine.specs.Core.{NeverStuck, first_core}
use Rattle.class_machine.specs.Lot.{IsBuilt, is_built}

covered : (r : Row) → is_built r ≡ true → is_covered r ≡ true
covered row.Nop e = refl
covered row.DupX1 e = refl
covered row.Dup2 e = refl
covered (row.Increment i n) e = refl
covered (row.GetStatic i) e = refl
covered (row.PutStatic i) e = refl
covered _ e = e

is_covered_set : (set : Set) → IsBuilt set → IsCovered set
is_covered_set set b class method at i e = covered (row_of at i) (b.rows class method at i e)

pub never_stuck : (set : Set) → VerifiedIsNeverStuck → IsBuilt set → IsLoaded set → Verifies set → NeverStuck set (first_core set)
never_stuck set law built loaded verifies input n out = law set loaded (is_covered_set set built) verifies input n out
