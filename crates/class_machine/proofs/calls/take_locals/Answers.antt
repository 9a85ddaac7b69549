use Rattle.std.proofs.Common.{◌≡◌, length, take, ◌-◌, ap, sym, subst, ◌∙◌, arith, List}
use Rattle.std.specs.Prelude.{reverse}
use Rattle.class_file.specs.declared.value.Value.{Value}
use Rattle.class_file.specs.Machine.{first_locals}
use Rattle.class_machine.specs.Runs.{Taken}
use Rattle.class_machine.proofs.Args.{taking, enough_to_take, tail_is}
use Rattle.class_machine.proofs.calls.take_locals.Goals as goal

pub overflow_sub-from : goal.overflow_sub-from
overflow_sub-from c = let e = enough_to_take c.args.params c.args.stack.now.items c.requires in omega (arith, e, c.len.ensures)

pub returns : goal.returns
returns c =
    let items = c.args.stack.now.items in
    let e = enough_to_take c.args.params items c.requires in
    let cut : c.truncate.new.self.items ≡ take (length items - c.args.params) items = c.truncate.ensures.items ∙ ap (λ (k : _). take k items) (omega (arith, c.len.ensures)) in
    subst (λ (rest : List Value). Taken c.args.params c.args.max (reverse items) c.in_ok-locals.locals.items (reverse rest)) (sym cut)
    (taking c.args.params c.args.max items c.in_ok-locals.locals.items c.requires
    (c.in_ok-locals.ensures ∙ ap (first_locals c.args.max) (tail_is _ _ items c.deref.result.now c.deref.ensures.value e (omega (arith, c.len.ensures)))))
