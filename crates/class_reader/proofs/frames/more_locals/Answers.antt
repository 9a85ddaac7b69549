use Rattle.std.proofs.Common.{List, [], sym, ap, ◌∙◌}
use Rattle.class_file.specs.declared.class.VType.{VType}
use Rattle.class_file.specs.Inputs.{◌>>=◌, Reading, read, each}
use Rattle.class_file.specs.FormatFaults.{frame, type_at}
use Rattle.class_reader.specs.Frames.{before}
use Rattle.class_reader.specs.Reads.{input_of}
use Rattle.class_reader.proofs.Fronts.{front_of_read}
use Rattle.class_reader.proofs.Unset.{made}
use Rattle.class_reader.proofs.frames.more_locals.Goals as goal

pub returns-clause-exact : goal.returns-clause-exact
returns-clause-exact c =
    let b = before c.args.first c.args.locals.now in
    let of = λ (ts : List VType). frame b c.args.delta ts [] in
    rw (c.in_ok-frame.ensures, c.new.ensures)
    (made of c.args.locals.now (each (type_at c.args.pool.now) c.args.count (input_of c.args.input))
    ∙ ap (λ (r : Reading (List VType)). r >>= λ x. read (of x.value) x.rest) c.in_ok-rest.ensures)

pub returns-clause-front : goal.returns-clause-front
returns-clause-front c =
    let given = each (type_at c.args.pool.now) c.args.count (input_of c.args.input) in
    rw c.in_ok-frame.ensures (c.len-front.ensures ∙ sym (front_of_read c.args.locals.now _ given _ c.in_ok-rest.ensures))
