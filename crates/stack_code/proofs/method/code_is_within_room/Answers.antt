use Rattle.stack_code.proofs.Room.{body_fits}
use Rattle.stack_code.proofs.method.code_is_within_room.Goals as goal

pub returns : goal.returns
returns c = body_fits
