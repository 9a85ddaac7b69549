use Rattle.std.proofs.Common.{refl, ap, sym, subst, ◌∙◌}
use Rattle.std.specs.Prelude.{reverse}
use Rattle.class_file.specs.Machine.{Invokes, Static}
use Rattle.class_machine.specs.Core.{core_of}
use Rattle.class_machine.specs.Heaps.{objects_of}
use Rattle.class_machine.specs.Runs.{Applied, needing, NativeCut}
use Rattle.class_machine.specs.declared.run.StepEnd.TheVariants as «end»
use Rattle.class_machine.proofs.Stepping.{on_err, cut_nothing, wrote_nothing, comes_same, call_keeps, can_native, ran, stands_still, jumped_frames, call_made, call_wrote, call_threw, call_cut}
use Rattle.class_machine.proofs.steps.call_native.Goals as goal

pub native_top-requires-clause-can : goal.native_top-requires-clause-can
native_top-requires-clause-can g c =
    let n = c.requires.native in
    can_native c.args.set.now (core_of c.args.run.now) n.top n.below n.is c.args.i c.args.next c.args.id n.names c.args.run.now.frames.items _ n.is (ap objects_of c.deref.ensures.value) c.requires.can

pub returns-in_err-text-clause-err : goal.returns-in_err-text-clause-err
returns-in_err-text-clause-err g c =
    let n = c.requires.native in
    let e = c.in_err-text.ensures.err in
    let r = ran c.args.set.now (core_of c.args.run.now) n.top n.below n.is c.args.i c.args.next c.args.id n.names (objects_of c.deref.result.now) c.args.run.now.frames.items c.args.run.now.frames.items e.top e.top e.below (ap objects_of c.deref.ensures.value) n.is e.is e.is (stands_still e.top) in
    on_err _ _ (call_cut c.args.set.now (core_of c.args.run.now) n.top n.below n.is c.args.i c.args.next c.args.id n.names _ _
    (subst (λ (a : Applied). NativeCut a.effect (g.O.Sink.taken c.args.out.now) (g.O.Sink.taken c.native_top.new.out)) (sym r.done_is) e.cut))

pub returns-in_err-make-in-Made-clause-err : goal.returns-in_err-make-in-Made-clause-err
returns-in_err-make-in-Made-clause-err g c =
    let n = c.requires.native in
    let d = rw c.in-Made.is at c.in_ok-text.ensures.ok.did in
    on_err _ _ (cut_nothing _ _ _ d.2 (call_keeps c.args.set.now (core_of c.args.run.now) n.top n.below c.args.next c.args.i n.is))

pub returns-in_err-throw-in-Threw-clause-err : goal.returns-in_err-throw-in-Threw-clause-err
returns-in_err-throw-in-Threw-clause-err g c =
    let n = c.requires.native in
    let d = rw c.in-Threw.is at c.in_ok-text.ensures.ok.did in
    on_err _ _ (cut_nothing _ _ _ d.1 (call_keeps c.args.set.now (core_of c.args.run.now) n.top n.below c.args.next c.args.i n.is))

pub returns-in_ok-make-in-Made-clause-ok : goal.returns-in_ok-make-in-Made-clause-ok
returns-in_ok-make-in-Made-clause-ok g c =
    let n = c.requires.native in
    let k = c.in_ok-text.ensures.ok in
    let d = rw c.in-Made.is at k.did in
    let r = ran c.args.set.now (core_of c.args.run.now) n.top n.below n.is c.args.i c.args.next c.args.id n.names (objects_of c.deref.result.now) c.args.run.now.frames.items c.native_top.new.frames.items k.first k.last k.below (ap objects_of c.deref.ensures.value) n.is k.old_is k.new_is k.stands in
    wrote_nothing c.args.set.now _ _ (needing c.args.set.now (core_of c.args.run.now) c.args.next (Invokes Static c.args.i)) «end».On (core_of c.make.new.run) d.2
    (call_made c.args.set.now (core_of c.args.run.now) n.top n.below n.is c.args.i c.args.next c.args.id n.names c.in-Made.text (reverse k.last.stack.items) (core_of (record c.args.run.now { frames = c.native_top.new.frames })) (core_of c.make.new.run)
    (ap (λ (a : Applied). a.effect) r.done_is ∙ d.0) (ap (λ (a : Applied). a.rest) r.done_is ∙ d.1) r.mid_is refl refl c.in_ok-make-in-Made.ensures)

pub returns-in-Wrote-clause-ok : goal.returns-in-Wrote-clause-ok
returns-in-Wrote-clause-ok g c =
    let n = c.requires.native in
    let k = c.in_ok-text.ensures.ok in
    let d = rw c.in-Wrote.is at k.did in
    let r = ran c.args.set.now (core_of c.args.run.now) n.top n.below n.is c.args.i c.args.next c.args.id n.names (objects_of c.deref.result.now) c.args.run.now.frames.items c.native_top.new.frames.items k.first k.last k.below (ap objects_of c.deref.ensures.value) n.is k.old_is k.new_is k.stands in
    record {
      said = d.0.bytes;
      taken = d.0.taken;
      so = call_wrote c.args.set.now (core_of c.args.run.now) n.top n.below n.is c.args.i c.args.next c.args.id n.names d.0.bytes (reverse k.last.stack.items) (core_of (record c.args.run.now { frames = c.jump_top.new.frames }))
          (ap (λ (a : Applied). a.effect) r.done_is ∙ d.0.is) (ap (λ (a : Applied). a.rest) r.done_is ∙ d.1)
          (jumped_frames c.native_top.new.frames.items c.jump_top.new.frames.items c.args.next _ n.below r.mid_is c.jump_top.ensures) refl refl;
    }

pub returns-in_ok-throw-in-Threw-clause-ok : goal.returns-in_ok-throw-in-Threw-clause-ok
returns-in_ok-throw-in-Threw-clause-ok g c =
    let n = c.requires.native in
    let k = c.in_ok-text.ensures.ok in
    let d = rw c.in-Threw.is at k.did in
    let r = ran c.args.set.now (core_of c.args.run.now) n.top n.below n.is c.args.i c.args.next c.args.id n.names (objects_of c.deref.result.now) c.args.run.now.frames.items c.native_top.new.frames.items k.first k.last k.below (ap objects_of c.deref.ensures.value) n.is k.old_is k.new_is k.stands in
    wrote_nothing c.args.set.now _ _ (needing c.args.set.now (core_of c.args.run.now) c.args.next (Invokes Static c.args.i)) c.in_ok-throw-in-Threw.field-0 (core_of c.throw.new.run) d.1
    (λ input out. comes_same c.args.set.now _ _ c.in_ok-throw-in-Threw.field-0 (core_of c.throw.new.run) input out
    (call_threw c.args.set.now (core_of c.args.run.now) n.top n.below n.is c.args.i c.args.next c.args.id n.names c.in-Threw.exception (reverse k.last.stack.items) (core_of (record c.args.run.now { frames = c.native_top.new.frames }))
    (ap (λ (a : Applied). a.effect) r.done_is ∙ d.0) r.mid_is refl refl input out)
    (c.in_ok-throw-in-Threw.ensures input out))
