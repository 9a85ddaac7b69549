use Rattle.std.proofs.Common.{◌≡◌, drop}
use Rattle.kc_cli.specs.Scan.{reads}
use Rattle.kc_cli.specs.declared.source_file.Part.TheVariants.{Begins}
use Rattle.kc_cli.proofs.source_file.is_path.Given as goal

-- what is left decides as the whole path does
abbrev pub invariant-loop-byte : goal.invariant-loop-byte
invariant-loop-byte l = reads (drop l.byte-index l.path) l.part ≡ reads l.path Begins
