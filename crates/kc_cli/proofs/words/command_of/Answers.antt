use Rattle.std.proofs.Common.{map, string_bytes}
use Rattle.kc_cli.proofs.Commands.{same_command}
use Rattle.kc_cli.proofs.words.command_of.Goals as goal

pub returns-in-len4-clause-one : goal.returns-in-len4-clause-one
returns-in-len4-clause-one c = same_command (map string_bytes c.args.words.now)
