use Rattle.std.proofs.Common.{ℕ, List, length, ◌≤◌, sym, subst, ap, ◌∙◌}
use Rattle.class_file.specs.ClassBytes.{Spells}
use Rattle.class_file.specs.FormatFaults.{class_of}
use Rattle.class_spelling.proofs.Written.{written_spells, written_is_no_longer}
use Rattle.class_spelling.proofs.Corollaries.{written_is_read}
use Rattle.class_writer.proofs.class.write_class.Goals as goal

pub returns-clause-spells : goal.returns-clause-spells
returns-clause-spells c = subst (Spells c.args.class.now) (sym c.in_ok-bytes.ensures) (written_spells c.args.class.now c.requires.0 c.requires.1)

pub returns-clause-shortest : goal.returns-clause-shortest
returns-clause-shortest c = subst (λ (bytes : List ℕ). (others : List ℕ) → Spells c.args.class.now others → length bytes ≤ length others) (sym c.in_ok-bytes.ensures) (λ others spells. written_is_no_longer c.args.class.now others spells)

pub returns-clause-read : goal.returns-clause-read
returns-clause-read c = ap class_of c.in_ok-bytes.ensures ∙ written_is_read c.args.class.now c.requires.0 c.requires.1
