use Rattle.std.proofs.Common.{List, ap}
use Rattle.std.specs.Prelude.{reverse}
use Rattle.class_file.specs.declared.value.Value.{Value}
use Rattle.class_machine.proofs.Calling.{entered_is}
use Rattle.class_machine.proofs.calls.enter.Goals as goal

pub returns : goal.returns
returns c =
    entered_is c.args.target c.args.frames.now.items c.take_from_top.new.frames.items c.push.new.self.items c.in_ok-locals.locals.items _ c.in_ok-push.ensures.items
    (ap (λ (vs : List Value). record { class = c.args.target.class; method = c.args.target.method; at = 0; locals = c.in_ok-locals.locals.items; stack = reverse vs; starts = _ }) c.new.ensures.items) c.in_ok-locals.ensures
