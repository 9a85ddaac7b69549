use Rattle.std.proofs.Common.{◌≢◌, [], length, ap, sym, refl, arith}
use Rattle.std.specs.Prelude.{vec_len}
use Rattle.std.proofs.lemmas.Bool.{eqb-true, eqb-false}
use Rattle.class_machine.specs.Core.{core_of}
use Rattle.class_machine.proofs.Calling.{topmost}
use Rattle.class_machine.proofs.Stepping.{no_frames}
use Rattle.class_machine.proofs.Moving.{top_moves_on, top_moved, top_stops, none_stops}
use Rattle.class_machine.proofs.steps.move_on.Goals as goal

pub move_top_on-requires : goal.move_top_on-requires
move_top_on-requires c =
    let ne = eqb-false (vec_len c.args.run.now.frames) 0 (sym c.if-is_empty.ensures) in
    let some : c.args.run.now.frames.items ≢ [] = λ h. let n = ap length h in ne (omega (arith, n)) in
    let t = topmost c.args.run.now.frames.items some in
    top_moves_on c.args.set.now c.args.links.now (core_of c.args.run.now) c.args.run.now.frames.items refl c.requires.linked c.requires.built c.requires.safe t.0 t.1 t.2

pub returns-then-is_empty-clause-stops : goal.returns-then-is_empty-clause-stops
returns-then-is_empty-clause-stops c = λ lt.
    none_stops c.args.links.now c.args.run.now.frames.items (no_frames c.args.run.now.frames.items (let z = eqb-true (vec_len c.args.run.now.frames) 0 (sym c.if-is_empty.ensures) in omega (arith, z)))

pub returns-clause-stops : goal.returns-clause-stops
returns-clause-stops c = top_stops c.args.links.now c.in_ok-made.made c.args.most c.args.run.now.frames.items c.move_top_on.new.frames.items c.in_ok-made.ensures.moved

pub returns-clause-moved : goal.returns-clause-moved
returns-clause-moved c =
    top_moved c.args.set.now c.args.links.now (core_of c.args.run.now) c.in_ok-made.made c.args.most c.args.run.now.frames.items c.move_top_on.new.frames.items refl c.requires.linked c.requires.built c.requires.safe c.in_ok-made.ensures.moved
