-- Functions that the emitter never finds too large for a class file (Java Virtual Machine Specification SE 8, 4.7.3, 4.11 and 6.5). How long
-- their texts are is not asked.
use Rattle.std.specs.Prelude.{◌+◌, ◌*◌, ◌≤◌, length}
use Rattle.kc_core.specs.declared.tree.Function.{Function}
use Rattle.kc_core.specs.Formed.{FormedMain}
use Rattle.kc_core.specs.Room.{function_weight}
use Rattle.class_file.specs.Pools.{Slots}

-- A function that is well formed, beside the constants that there are. It weighs so little that no jump in its code is longer than an
-- operand of 16 bits says, and that its constants have room, of which code adds at most two for each byte. Where the pool has no
-- entries yet, a function of the weight 32,767 is small.
pub record IsSmall (constants : Slots) (f : Function) : Type 0 where
  pub formed : FormedMain f
  pub weight : function_weight f ≤ 32767
  pub locals : length f.locals ≤ 65535
  pub room : length constants + 2 * function_weight f ≤ 65535
