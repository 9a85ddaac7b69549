use Rattle.kc_core.specs.RoomLaws.{within}
use Rattle.kc_core.proofs.room_is_within_weight.Goals as goal

pub returns : goal.returns
returns c = within
