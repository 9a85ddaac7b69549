-- The initialisation of classes, and the call of main.
use Rattle.std.proofs.Common.{◌≡◌, ◌≢◌, ℕ, ◌-◌, List, [], ◌∷◌, Option, Some, None, Bool, true, false, refl, sym, ap, subst, ◌∙◌, arith, get_or, if◌then◌else◌}
use Rattle.std.specs.Prelude.{slice_get, slice_set, position, reverse, replicate, codes, ◌&&◌, ◌||◌, not}
use Rattle.std.specs.List.{filter, find}
use Rattle.std.specs.Option.{option_map}
use Rattle.std.proofs.lemmas.List.Quantifiers.{position-Some}
use Rattle.std.proofs.lemmas.Option.{slice_get-get_or}
use Rattle.class_file.specs.declared.value.Value.TheVariants.{Nothing}
use Rattle.class_file.specs.declared.class.Set.{Set}
use Rattle.class_file.specs.declared.class.ClassFile.{ClassFile}
use Rattle.class_file.specs.declared.class.Method.{Method}
use Rattle.class_file.specs.Pools.{is_text}
use Rattle.class_file.specs.Classes.{Body, Coded, NoBody, ClassView, FoundMethod, MethodView, built_in_count, number_of_place, is_static_flag, is_abstract_flag, method_view, methods_in, is_method}
use Rattle.class_file.specs.Natives.{Object}
use Rattle.class_file.specs.Lots.{static_named}
use Rattle.class_file.specs.Machine.{State, Active, Next, Going, Over, Stuck, step, begin, main_method, with, with_started, starting, unstarted, is_started, is_marked, marked, run_clinit, started_with, first_frame, clinit, begun, entered, first_locals, methods_of, method_at}
use Rattle.class_file.specs.Machine as machine
use Rattle.class_machine.specs.declared.links.Target.{Target}
use Rattle.class_machine.specs.declared.links.Links.{Links}
use Rattle.class_machine.specs.Core.{Core, state_of}
use Rattle.class_machine.specs.Links.{IsLinked, plain_target, target_at, locals_of, main_target, main_in}
use Rattle.class_machine.specs.Lot.{CanStart, MainIsBuilt}
use Rattle.class_machine.specs.Runs.{starting_class}
use Rattle.class_soundness.proofs.Named.{seen_at, own_seen, not_built_in, place_of_number, view_there}

pub clinit_seen : (set : Set) (class : ℕ) (c : ClassFile) → slice_get set.classes class ≡ Some c → clinit set (number_of_place class) ≡ seen_at class c.methods (static_named (codes "<clinit>") (codes "()V") c.methods)
clinit_seen set class c e =
    ap (λ (o : Option ClassView). find (is_method true (codes "<clinit>") (codes "()V")) (methods_in o)) (view_there set class c e)
    ∙ own_seen (codes "<clinit>") (codes "()V") class c.methods

test_there : (test : Method → Bool) (ms : List Method) (p : ℕ) → position test ms ≡ Some p → (m : Method) × (slice_get ms p ≡ Some m)
test_there test [] p e = absurd cc
test_there test (m ∷ ms) p e = let lt = (position-Some test (m ∷ ms) p m e).0 in (get_or (m ∷ ms) p m, slice_get-get_or (m ∷ ms) p m lt)

there_at : (ms : List Method) (p : ℕ) (name descriptor : List ℕ) → static_named name descriptor ms ≡ Some p → (m : Method) × (slice_get ms p ≡ Some m)
there_at ms p name descriptor e = test_there (λ (m : Method). is_static_flag m.flags && (is_text m.name name && is_text m.descriptor descriptor)) ms p e

-- ---- starting a class

module _ (set : Set) (core : Core) (class : ℕ) (c : ClassFile) (there : slice_get set.classes class ≡ Some c) (can : CanStart set class) where
  abbrev number : ℕ
  number = number_of_place class

  abbrev frames : List Active
  frames = core.frames

  mark_is : (started : List Bool) (b : Bool) → is_marked (slice_get started class) ≡ b → is_started started number ≡ b
  mark_is started b e =
      ap (λ (t : Bool). t || is_marked (slice_get started (number - built_in_count))) (not_built_in class)
      ∙ ap (λ (k : ℕ). is_marked (slice_get started k)) (place_of_number class) ∙ e

  -- a class that is started
  pub goes : is_marked (slice_get core.started class) ≡ true → (go : State → Next) (input out : List ℕ) → starting_class set core class go input out ≡ go (state_of set core input out)
  goes e go input out =
      let s = state_of set core input out in
      ap (λ (b : Bool). if b then go s else starting set s frames (unstarted set s number) go) (mark_is core.started true e)

  abbrev marks : List Bool
  marks = slice_set core.started class true

  module _ (fresh : is_marked (slice_get core.started class) ≡ false) where
    by_clinit : (go : State → Next) (input out : List ℕ) → starting_class set core class go input out
        ≡ elim (clinit set number) as (λ _. Next) [ Some v ↦ run_clinit set (state_of set core input out) number frames v.body | None ↦ go (record (state_of set core input out) { started = marked number core.started }) ]
    by_clinit go input out =
        let s = state_of set core input out in
        ap (λ (b : Bool). if b then go s else starting set s frames (unstarted set s number) go) (mark_is core.started false fresh)
        ∙ ap (λ (ns : List ℕ). starting set s frames (filter (λ n. not (is_started core.started n)) (reverse ns)) go) can.above
        ∙ ap (λ (b : Bool). starting set s frames (if not b then number ∷ [] else []) go) (mark_is core.started false fresh)

    marked_is : marked number core.started ≡ marks
    marked_is = ap (λ (k : ℕ). slice_set core.started k true) (place_of_number class)

    -- a class without an initialiser
    pub quiet : static_named (codes "<clinit>") (codes "()V") c.methods ≡ None → (go : State → Next) (input out : List ℕ) → starting_class set core class go input out ≡ go (record (state_of set core input out) { started = marks })
    quiet e go input out =
        let s = state_of set core input out in
        by_clinit go input out
        ∙ ap (λ (o : Option MethodView). elim o as (λ _. Next) [ Some v ↦ run_clinit set s number frames v.body | None ↦ go (record s { started = marked number core.started }) ]) (clinit_seen set class c there ∙ ap (seen_at class c.methods) e)
        ∙ ap (λ (ms : List Bool). go (record s { started = ms })) marked_is

    -- what runs first where there is one
    abbrev initialised : List ℕ → List ℕ → ℕ → ℕ → Next
    initialised input out place max =
        Going (record (state_of set core input out) { frames = record { class = class; method = place; at = 0; locals = replicate max Nothing; stack = []; starts = true } ∷ frames; started = marks })

    pub runs : (place : ℕ) → static_named (codes "<clinit>") (codes "()V") c.methods ≡ Some place → (go : State → Next) (input out : List ℕ) → starting_class set core class go input out ≡ initialised input out place (locals_of (slice_get c.methods place))
    runs place e go input out =
        let t = there_at c.methods place (codes "<clinit>") (codes "()V") e in
        by_clinit go input out
        ∙ ap (λ (o : Option MethodView). elim o as (λ _. Next) [ Some v ↦ run_clinit set (state_of set core input out) number frames v.body | None ↦ go (record (state_of set core input out) { started = marked number core.started }) ]) (seen (Some t.0) t.1)
        ∙ enters t.0 t.1 (is_abstract_flag t.0.flags) refl
        ∙ ap (λ (o : Option Method). initialised input out place (locals_of o)) (sym t.1)
      where
        seen : (o : Option Method) → slice_get c.methods place ≡ o → clinit set number ≡ option_map (method_view class place) o
        seen o k = clinit_seen set class c there ∙ ap (seen_at class c.methods) e ∙ ap (option_map (method_view class place)) k

        method_is : (m : Method) → slice_get c.methods place ≡ Some m → method_at set class place ≡ Some m
        method_is m k = ap (λ (o : Option ClassFile). slice_get (methods_of o) place) there ∙ k

        body : Method → Bool → Body
        body m abstract = if abstract then NoBody else Coded class place

        enters : (m : Method) → slice_get c.methods place ≡ Some m → (b : Bool) → is_abstract_flag m.flags ≡ b → run_clinit set (state_of set core input out) number frames (body m (is_abstract_flag m.flags)) ≡ initialised input out place m.max_locals
        enters m k true a = absurd (can.coded (method_view class place m) (seen (Some m) k) (ap (body m) a))
        enters m k false a =
            ap (λ (b : Bool). run_clinit set (state_of set core input out) number frames (body m b)) a
            ∙ ap (started_with (state_of set core input out) number frames class place) (method_is m k)
            ∙ ap (λ (ms : List Bool). Going (record (state_of set core input out) { frames = first_frame true class place m ∷ frames; started = ms })) marked_is

    abbrev initialiser : Option ℕ → Option Target
    initialiser o = target_at class c.methods 0 o

    -- the initialiser runs
    pub starts_with : (target : Target) (new : Core) → plain_target class (codes "<clinit>") c.methods ≡ Some target
        → new.frames ≡ record { class = target.class; method = target.method; at = 0; locals = replicate target.max_locals Nothing; stack = []; starts = true } ∷ core.frames → new.heap ≡ core.heap → new.started ≡ marks
        → (go : State → Next) (input out : List ℕ) → starting_class set core class go input out ≡ Going (state_of set new input out)
    starts_with target new is fs heap started go input out = by (static_named (codes "<clinit>") (codes "()V") c.methods) refl is
      where
        same : (a b : Target) → (let o : Option Target = Some a in o) ≡ Some b → a ≡ b
        same a b e = cc

        by : (o : Option ℕ) → static_named (codes "<clinit>") (codes "()V") c.methods ≡ o → initialiser o ≡ Some target → starting_class set core class go input out ≡ Going (state_of set new input out)
        by None k e = absurd cc
        by (Some place) k e =
            runs place k go input out
            ∙ ap (λ (t : Target). Going (record (state_of set core input out) { frames = record { class = t.class; method = t.method; at = 0; locals = replicate t.max_locals Nothing; stack = []; starts = true } ∷ frames; started = marks })) (same _ target e)
            ∙ ap (λ (gs : List Active). Going (record (state_of set core input out) { frames = gs; started = marks })) (sym fs)
            ∙ ap (λ (ms : List Bool). Going (record (state_of set core input out) { frames = new.frames; started = ms })) (sym started)
            ∙ ap (λ (h : List Object). Going (record (state_of set core input out) { frames = new.frames; heap = h; started = new.started })) (sym heap)

    -- there is none
    pub starts_without : (new : Core) → plain_target class (codes "<clinit>") c.methods ≡ None → new.frames ≡ core.frames → new.heap ≡ core.heap → new.started ≡ marks
        → (go : State → Next) (input out : List ℕ) → starting_class set core class go input out ≡ go (state_of set new input out)
    starts_without new is fs heap started go input out = by (static_named (codes "<clinit>") (codes "()V") c.methods) refl is
      where
        by : (o : Option ℕ) → static_named (codes "<clinit>") (codes "()V") c.methods ≡ o → initialiser o ≡ None → starting_class set core class go input out ≡ go (state_of set new input out)
        by (Some place) k e = absurd cc
        by None k e =
            quiet k go input out
            ∙ ap (λ (gs : List Active). go (record (state_of set core input out) { frames = gs; started = marks })) (sym fs)
            ∙ ap (λ (ms : List Bool). go (record (state_of set core input out) { frames = new.frames; started = ms })) (sym started)
            ∙ ap (λ (h : List Object). go (record (state_of set core input out) { frames = new.frames; heap = h; started = new.started })) (sym heap)

-- ---- the call of main

some_target : (a b : Target) → (let o : Option Target = Some a in o) ≡ Some b → a ≡ b
some_target a b e = cc

module _ (set : Set) (main : MainIsBuilt set) where
  target_is : main_target set ≡ Some (record { class = main.class; method = main.place; params = 0; max_locals = main.method.max_locals })
  target_is =
      ap (main_in set.classes) main.class_is
      ∙ ap (target_at main.class (methods_of (slice_get set.classes main.class)) 0) main.place_is
      ∙ ap (λ (o : Option Method). Some (record { class = main.class; method = main.place; params = 0; max_locals = locals_of o })) main.method_is

  pub main_there : (links : Links) → IsLinked set links → links.main ≢ None
  main_there links linked e = let h = sym linked.main ∙ e in let k = sym target_is ∙ h in cc

  module _ (links : Links) (linked : IsLinked set links) (target : Target) (e : links.main ≡ Some target) where
    same : target ≡ record { class = main.class; method = main.place; params = 0; max_locals = main.method.max_locals }
    same = some_target target _ (sym e ∙ linked.main ∙ target_is)

    pub class_same : target.class ≡ main.class
    class_same = ap (λ (t : Target). t.class) same

    pub main_file : (c : ClassFile) × (slice_get set.classes target.class ≡ Some c)
    main_file = by (slice_get set.classes main.class) refl main.method_is
      where
        by : (o : Option ClassFile) → slice_get set.classes main.class ≡ o → slice_get (methods_of o) main.place ≡ Some main.method → (c : ClassFile) × (slice_get set.classes target.class ≡ Some c)
        by None k h = absurd cc
        by (Some c) k h = (c, ap (slice_get set.classes) class_same ∙ k)

    pub can_start : CanStart set target.class
    can_start = subst (CanStart set) (sym class_same) main.starts

    -- what goes on once main's class is started
    abbrev pub main_runs : State → Next
    main_runs s = begun set s main.view.body

    pub begins : (core : Core) → core.frames ≡ [] → (input out : List ℕ) → step set (state_of set core input out) ≡ starting_class set core target.class main_runs input out
    unfolding step begin
    begins core none input out =
        let s = state_of set core input out in
        ap (λ (fs : List Active). machine.running set s fs) none
        ∙ ap (λ (o : Option FoundMethod). with s o (λ m. with_started set s [] m.class (λ t. begun set t m.method.body))) main.found
        ∙ ap (λ (k : ℕ). with_started set s [] (number_of_place k) main_runs) (sym class_same)
        ∙ ap (λ (fs : List Active). with_started set s fs (number_of_place target.class) main_runs) (sym none)

    pub main_entered : (s : State) → main_runs s ≡ Going (record s { frames = record { class = target.class; method = target.method; at = 0; locals = replicate target.max_locals Nothing; stack = []; starts = false } ∷ [] })
    main_entered s =
        let z : main.method.max_locals - 0 ≡ main.method.max_locals = omega arith in
        ap (begun set s) main.body
        ∙ ap (entered s [] main.class main.place []) main.method_is
        ∙ ap (λ (n : ℕ). Going (record s { frames = record { class = main.class; method = main.place; at = 0; locals = replicate n Nothing; stack = []; starts = false } ∷ [] })) z
        ∙ ap (λ (t : Target). Going (record s { frames = record { class = t.class; method = t.method; at = 0; locals = replicate t.max_locals Nothing; stack = []; starts = false } ∷ [] })) (sym same)
