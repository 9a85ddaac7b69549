use Rattle.std.proofs.Common.{Vec, Global, Bool, ap, ◌∙◌, [], ◌∷◌, refl, arith, sym}
use Rattle.std.specs.Prelude.{vec_len}
use Rattle.std.proofs.lemmas.Bool.{eqb-true}
use Rattle.class_file.specs.Machine.{Going, LoadsConstant, LoadsLong, Invokes, Static, step}
use Rattle.class_machine.specs.declared.heap.Object.{Object as Kept}
use Rattle.class_machine.specs.declared.run.StepEnd.TheVariants as «end»
use Rattle.class_machine.specs.Core.{core_of, state_of, frames_of}
use Rattle.class_machine.specs.Heaps.{objects_of}
use Rattle.class_machine.proofs.Running.{nonempty}
use Rattle.class_machine.proofs.Moving.{running_stops}
use Rattle.class_machine.proofs.Stepping.{on_err, cut_nothing, cut_same, wrote_nothing, wrote_same, comes_same, step_keeps, running_op, running_goes, no_frames, top_needs, top_can, top_built, top_call, top_on, top_threw, top_returned, top_can_return, top_compared}
use Rattle.class_machine.proofs.steps.step.Goals as goal

abbrev Heap : Type 0
Heap = Vec Kept Global

abbrev Marks : Type 0
Marks = Vec Bool Global

pub begin-requires-clause-first : goal.begin-requires-clause-first
begin-requires-clause-first g c =
    no_frames c.args.run.now.frames.items (let z = eqb-true (vec_len c.args.run.now.frames) 0 (sym c.if-is_empty.ensures) in omega (arith, z))

pub op_at-op-requires : goal.op_at-op-requires
op_at-op-requires g c =
    running_op c.args.set.now c.args.links.now (core_of c.args.run.now) c.args.run.now.frames.items c.deref.result.now c.running-frame.result.now refl c.deref.ensures.value c.running-frame.ensures c.requires.linked c.requires.built c.requires.can

pub in_top-requires-clause-other : goal.in_top-requires-clause-other
in_top-requires-clause-other g c =
    running_stops c.args.links.now c.args.run.now.frames.items c.deref.result.now c.running-frame.result.now c.op_at-op.result c.requires.stopped c.deref.ensures.value c.running-frame.ensures c.op_at-op.ensures

pub in_top-requires-clause-goes : goal.in_top-requires-clause-goes
in_top-requires-clause-goes g c =
    running_goes c.args.set.now c.args.links.now (core_of c.args.run.now) c.args.run.now.frames.items c.deref.result.now c.running-frame.result.now refl c.deref.ensures.value c.running-frame.ensures c.requires.linked c.requires.built c.requires.can c.op_at-op.result c.op_at-op.ensures

pub load-requires-clause-can : goal.load-requires-clause-can
load-requires-clause-can g c =
    let t = rw c.in-Loads.is at c.in_ok-in_top.ensures in
    top_can c.args.set.now c.args.links.now c.args.run.now.frames.items c.in_top.new.frames.items (objects_of c.args.run.now.heap.items) c.args.run.now.started.items c.requires.linked c.requires.built c.requires.can c.op_at-op.result _ t c.running-frame.result.now c.deref.result.now c.deref.ensures.value c.running-frame.ensures c.op_at-op.ensures (LoadsConstant c.in-Loads.i) t.did.0 t.did.1

pub load_wide-requires-clause-can : goal.load_wide-requires-clause-can
load_wide-requires-clause-can g c =
    let t = rw c.in-LoadsWide.is at c.in_ok-in_top.ensures in
    top_can c.args.set.now c.args.links.now c.args.run.now.frames.items c.in_top.new.frames.items (objects_of c.args.run.now.heap.items) c.args.run.now.started.items c.requires.linked c.requires.built c.requires.can c.op_at-op.result _ t c.running-frame.result.now c.deref.result.now c.deref.ensures.value c.running-frame.ensures c.op_at-op.ensures (LoadsLong c.in-LoadsWide.i) t.did.0 t.did.1

pub compare-requires : goal.compare-requires
compare-requires g c =
    let t = rw c.in-Compares.is at c.in_ok-in_top.ensures in
    nonempty c.in_top.new.frames.items t.after t.below t.new_is

pub invoke-requires-clause-call : goal.invoke-requires-clause-call
invoke-requires-clause-call g c =
    let t = rw c.in-Calls.is at c.in_ok-in_top.ensures in
    top_call c.args.set.now c.args.links.now c.args.run.now.frames.items c.in_top.new.frames.items (objects_of c.args.run.now.heap.items) c.args.run.now.started.items c.requires.linked c.requires.built c.requires.can c.op_at-op.result _ t c.running-frame.result.now c.deref.result.now c.deref.ensures.value c.running-frame.ensures c.op_at-op.ensures c.in-Calls.i t.did.2 t.did.1

pub invoke-requires-clause-can : goal.invoke-requires-clause-can
invoke-requires-clause-can g c =
    let t = rw c.in-Calls.is at c.in_ok-in_top.ensures in
    top_can c.args.set.now c.args.links.now c.args.run.now.frames.items c.in_top.new.frames.items (objects_of c.args.run.now.heap.items) c.args.run.now.started.items c.requires.linked c.requires.built c.requires.can c.op_at-op.result _ t c.running-frame.result.now c.deref.result.now c.deref.ensures.value c.running-frame.ensures c.op_at-op.ensures (Invokes Static c.in-Calls.i) t.did.0 t.did.1

pub hand_back-requires-clause-can : goal.hand_back-requires-clause-can
hand_back-requires-clause-can g c =
    let t = rw c.in-Returned.is at c.in_ok-in_top.ensures in
    top_can_return c.args.set.now c.args.links.now c.args.run.now.frames.items c.in_top.new.frames.items (objects_of c.args.run.now.heap.items) c.args.run.now.started.items c.requires.linked c.requires.built c.requires.can c.op_at-op.result _ t c.running-frame.result.now c.deref.result.now c.deref.ensures.value c.running-frame.ensures c.op_at-op.ensures [] t.did.0 t.did.1

pub hand_back-requires-in-ReturnedValue-clause-can : goal.hand_back-requires-in-ReturnedValue-clause-can
hand_back-requires-in-ReturnedValue-clause-can g c =
    let t = rw c.in-ReturnedValue.is at c.in_ok-in_top.ensures in
    top_can_return c.args.set.now c.args.links.now c.args.run.now.frames.items c.in_top.new.frames.items (objects_of c.args.run.now.heap.items) c.args.run.now.started.items c.requires.linked c.requires.built c.requires.can c.op_at-op.result _ t c.running-frame.result.now c.deref.result.now c.deref.ensures.value c.running-frame.ensures c.op_at-op.ensures (c.in-ReturnedValue.value ∷ []) t.did.0 t.did.1

pub unreachable-requires : goal.unreachable-requires
unreachable-requires g c =
    let t = rw c.in-NotBuilt.is at c.in_ok-in_top.ensures in
    let b = top_built c.args.set.now c.args.links.now c.args.run.now.frames.items c.in_top.new.frames.items (objects_of c.args.run.now.heap.items) c.args.run.now.started.items c.requires.linked c.requires.built c.requires.can c.op_at-op.result _ t c.running-frame.result.now c.deref.result.now c.deref.ensures.value c.running-frame.ensures c.op_at-op.ensures in cc (t.did, b)

pub returns-in-On-clause-ok : goal.returns-in-On-clause-ok
returns-in-On-clause-ok g c =
    let t = rw c.in-On.is at c.in_ok-in_top.ensures in
    wrote_nothing c.args.set.now _ _ (λ input earlier. step c.args.set.now (state_of c.args.set.now (core_of c.args.run.now) input earlier)) «end».On (core_of (record c.args.run.now { frames = c.in_top.new.frames })) refl
    (top_on c.args.set.now c.args.links.now c.args.run.now.frames.items c.in_top.new.frames.items (objects_of c.args.run.now.heap.items) c.args.run.now.started.items c.requires.linked c.requires.built c.requires.can c.op_at-op.result _ t c.running-frame.result.now c.deref.result.now c.deref.ensures.value c.running-frame.ensures c.op_at-op.ensures t.did.0 t.did.1)

pub returns-in_ok-throw-in-Threw-clause-ok : goal.returns-in_ok-throw-in-Threw-clause-ok
returns-in_ok-throw-in-Threw-clause-ok g c =
    let t = rw c.in-Threw.is at c.in_ok-in_top.ensures in
    wrote_nothing c.args.set.now _ _ (λ input earlier. step c.args.set.now (state_of c.args.set.now (core_of c.args.run.now) input earlier)) c.in_ok-throw-in-Threw.field-0 (core_of c.throw.new.run) refl
    (λ input out. comes_same c.args.set.now _ _ c.in_ok-throw-in-Threw.field-0 (core_of c.throw.new.run) input out
    (top_threw c.args.set.now c.args.links.now c.args.run.now.frames.items c.in_top.new.frames.items (objects_of c.args.run.now.heap.items) c.args.run.now.started.items c.requires.linked c.requires.built c.requires.can c.op_at-op.result _ t c.running-frame.result.now c.deref.result.now c.deref.ensures.value c.running-frame.ensures c.op_at-op.ensures c.in-Threw.exception t.did.0 t.did.1 input out) (c.in_ok-throw-in-Threw.ensures input out))

pub returns-in_ok-load-in-Loads-clause-ok : goal.returns-in_ok-load-in-Loads-clause-ok
returns-in_ok-load-in-Loads-clause-ok g c =
    let t = rw c.in-Loads.is at c.in_ok-in_top.ensures in
    wrote_nothing c.args.set.now _ _ (λ input earlier. step c.args.set.now (state_of c.args.set.now (core_of c.args.run.now) input earlier)) «end».On (core_of c.load.new.run) refl
    (λ input out. comes_same c.args.set.now _ _ «end».On (core_of c.load.new.run) input out
    (top_needs c.args.set.now c.args.links.now c.args.run.now.frames.items c.in_top.new.frames.items (objects_of c.args.run.now.heap.items) c.args.run.now.started.items c.requires.linked c.requires.built c.requires.can c.op_at-op.result _ t c.running-frame.result.now c.deref.result.now c.deref.ensures.value c.running-frame.ensures c.op_at-op.ensures (LoadsConstant c.in-Loads.i) t.did.0 t.did.1 input out) (c.in_ok-load-in-Loads.ensures input out))

pub returns-in_ok-load_wide-in-LoadsWide-clause-ok : goal.returns-in_ok-load_wide-in-LoadsWide-clause-ok
returns-in_ok-load_wide-in-LoadsWide-clause-ok g c =
    let t = rw c.in-LoadsWide.is at c.in_ok-in_top.ensures in
    wrote_nothing c.args.set.now _ _ (λ input earlier. step c.args.set.now (state_of c.args.set.now (core_of c.args.run.now) input earlier)) «end».On (core_of c.load_wide.new.run) refl
    (λ input out. comes_same c.args.set.now _ _ «end».On (core_of c.load_wide.new.run) input out
    (top_needs c.args.set.now c.args.links.now c.args.run.now.frames.items c.in_top.new.frames.items (objects_of c.args.run.now.heap.items) c.args.run.now.started.items c.requires.linked c.requires.built c.requires.can c.op_at-op.result _ t c.running-frame.result.now c.deref.result.now c.deref.ensures.value c.running-frame.ensures c.op_at-op.ensures (LoadsLong c.in-LoadsWide.i) t.did.0 t.did.1 input out) (c.in_ok-load_wide-in-LoadsWide.ensures input out))

pub returns-in-Compares-clause-ok : goal.returns-in-Compares-clause-ok
returns-in-Compares-clause-ok g c =
    let t = rw c.in-Compares.is at c.in_ok-in_top.ensures in
    let s = state_of c.args.set.now (core_of c.args.run.now) in
    wrote_nothing c.args.set.now _ _ (λ input earlier. step c.args.set.now (state_of c.args.set.now (core_of c.args.run.now) input earlier)) «end».On (core_of c.compare.new.run) refl
    (λ input out.
    top_compared c.args.set.now c.args.links.now c.args.run.now.frames.items c.in_top.new.frames.items (objects_of c.args.run.now.heap.items) c.args.run.now.started.items c.requires.linked c.requires.built c.requires.can c.op_at-op.result _ t c.running-frame.result.now c.deref.result.now c.deref.ensures.value c.running-frame.ensures c.op_at-op.ensures c.in-Compares.wanted c.in-Compares.to c.in-Compares.first c.in-Compares.second c.compare.new.run.frames.items t.did.0 t.did.1 c.compare.ensures.jumped input out
    ∙ ap (λ (h : Heap). Going (record (s input out) { frames = frames_of c.compare.new.run.frames.items; heap = objects_of h.items })) (sym c.compare.ensures.heap)
    ∙ ap (λ (m : Marks). Going (record (s input out) { frames = frames_of c.compare.new.run.frames.items; heap = objects_of c.compare.new.run.heap.items; started = m.items })) (sym c.compare.ensures.started))

pub returns-in_ok-invoke-in-Calls-clause-ok : goal.returns-in_ok-invoke-in-Calls-clause-ok
returns-in_ok-invoke-in-Calls-clause-ok g c =
    let t = rw c.in-Calls.is at c.in_ok-in_top.ensures in
    wrote_same c.args.set.now _ _ (λ input earlier. step c.args.set.now (state_of c.args.set.now (core_of c.args.run.now) input earlier)) _ c.in_ok-invoke-in-Calls.field-0 (core_of c.invoke.new.run)
    (top_needs c.args.set.now c.args.links.now c.args.run.now.frames.items c.in_top.new.frames.items (objects_of c.args.run.now.heap.items) c.args.run.now.started.items c.requires.linked c.requires.built c.requires.can c.op_at-op.result _ t c.running-frame.result.now c.deref.result.now c.deref.ensures.value c.running-frame.ensures c.op_at-op.ensures (Invokes Static c.in-Calls.i) t.did.0 t.did.1) c.in_ok-invoke-in-Calls.ensures.ok

pub returns-in_err-invoke-in-Calls-clause-err : goal.returns-in_err-invoke-in-Calls-clause-err
returns-in_err-invoke-in-Calls-clause-err g c =
    let t = rw c.in-Calls.is at c.in_ok-in_top.ensures in
    on_err _ _ (cut_same _ _ (λ input earlier. step c.args.set.now (state_of c.args.set.now (core_of c.args.run.now) input earlier)) _
    (top_needs c.args.set.now c.args.links.now c.args.run.now.frames.items c.in_top.new.frames.items (objects_of c.args.run.now.heap.items) c.args.run.now.started.items c.requires.linked c.requires.built c.requires.can c.op_at-op.result _ t c.running-frame.result.now c.deref.result.now c.deref.ensures.value c.running-frame.ensures c.op_at-op.ensures (Invokes Static c.in-Calls.i) t.did.0 t.did.1) c.in_err-invoke-in-Calls.ensures.err)

pub returns-in_ok-hand_back-in-Returned-clause-ok : goal.returns-in_ok-hand_back-in-Returned-clause-ok
returns-in_ok-hand_back-in-Returned-clause-ok g c =
    let t = rw c.in-Returned.is at c.in_ok-in_top.ensures in
    wrote_nothing c.args.set.now _ _ (λ input earlier. step c.args.set.now (state_of c.args.set.now (core_of c.args.run.now) input earlier)) c.in_ok-hand_back-in-Returned.field-0 (core_of c.hand_back.new.run) refl
    (λ input out. comes_same c.args.set.now _ _ c.in_ok-hand_back-in-Returned.field-0 (core_of c.hand_back.new.run) input out
    (top_returned c.args.set.now c.args.links.now c.args.run.now.frames.items c.in_top.new.frames.items (objects_of c.args.run.now.heap.items) c.args.run.now.started.items c.requires.linked c.requires.built c.requires.can c.op_at-op.result _ t c.running-frame.result.now c.deref.result.now c.deref.ensures.value c.running-frame.ensures c.op_at-op.ensures [] t.did.0 t.did.1 input out) (c.in_ok-hand_back-in-Returned.ensures input out))

pub returns-in_ok-hand_back-in-ReturnedValue-clause-ok : goal.returns-in_ok-hand_back-in-ReturnedValue-clause-ok
returns-in_ok-hand_back-in-ReturnedValue-clause-ok g c =
    let t = rw c.in-ReturnedValue.is at c.in_ok-in_top.ensures in
    wrote_nothing c.args.set.now _ _ (λ input earlier. step c.args.set.now (state_of c.args.set.now (core_of c.args.run.now) input earlier)) c.in_ok-hand_back-in-ReturnedValue.field-0 (core_of c.hand_back-in-ReturnedValue.new.run) refl
    (λ input out. comes_same c.args.set.now _ _ c.in_ok-hand_back-in-ReturnedValue.field-0 (core_of c.hand_back-in-ReturnedValue.new.run) input out
    (top_returned c.args.set.now c.args.links.now c.args.run.now.frames.items c.in_top.new.frames.items (objects_of c.args.run.now.heap.items) c.args.run.now.started.items c.requires.linked c.requires.built c.requires.can c.op_at-op.result _ t c.running-frame.result.now c.deref.result.now c.deref.ensures.value c.running-frame.ensures c.op_at-op.ensures (c.in-ReturnedValue.value ∷ []) t.did.0 t.did.1 input out) (c.in_ok-hand_back-in-ReturnedValue.ensures input out))

pub returns-in_err-begin-clause-err : goal.returns-in_err-begin-clause-err
returns-in_err-begin-clause-err g c =
    on_err _ _ (cut_nothing _ _ _ refl (step_keeps c.args.set.now (core_of c.args.run.now)))

pub returns-in_err-in_top-clause-err : goal.returns-in_err-in_top-clause-err
returns-in_err-in_top-clause-err g c =
    on_err _ _ (cut_nothing _ _ _ refl (step_keeps c.args.set.now (core_of c.args.run.now)))

pub returns-in_err-throw-in-Threw-clause-err : goal.returns-in_err-throw-in-Threw-clause-err
returns-in_err-throw-in-Threw-clause-err g c =
    on_err _ _ (cut_nothing _ _ _ refl (step_keeps c.args.set.now (core_of c.args.run.now)))

pub returns-in_err-load-in-Loads-clause-err : goal.returns-in_err-load-in-Loads-clause-err
returns-in_err-load-in-Loads-clause-err g c =
    on_err _ _ (cut_nothing _ _ _ refl (step_keeps c.args.set.now (core_of c.args.run.now)))

pub returns-in_err-load_wide-in-LoadsWide-clause-err : goal.returns-in_err-load_wide-in-LoadsWide-clause-err
returns-in_err-load_wide-in-LoadsWide-clause-err g c =
    on_err _ _ (cut_nothing _ _ _ refl (step_keeps c.args.set.now (core_of c.args.run.now)))

pub returns-in_err-hand_back-in-Returned-clause-err : goal.returns-in_err-hand_back-in-Returned-clause-err
returns-in_err-hand_back-in-Returned-clause-err g c =
    on_err _ _ (cut_nothing _ _ _ refl (step_keeps c.args.set.now (core_of c.args.run.now)))

pub returns-in_err-hand_back-in-ReturnedValue-clause-err : goal.returns-in_err-hand_back-in-ReturnedValue-clause-err
returns-in_err-hand_back-in-ReturnedValue-clause-err g c =
    on_err _ _ (cut_nothing _ _ _ refl (step_keeps c.args.set.now (core_of c.args.run.now)))

pub returns-then-is_empty-clause-ok : goal.returns-then-is_empty-clause-ok
returns-then-is_empty-clause-ok g c =
    wrote_nothing c.args.set.now _ _ (λ input earlier. step c.args.set.now (state_of c.args.set.now (core_of c.args.run.now) input earlier)) «end».On (core_of c.begin.new.run) refl c.in_ok-begin.ensures
