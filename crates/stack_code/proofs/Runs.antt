-- How stretches of a run of the machine are put together, beside the meaning of what they run.
use Rattle.std.proofs.Common.{◌≡◌, ℕ, zero, suc, ◌+◌, ◌*◌, ◌≤◌, List, [], ◌∷◌, ◌++◌, length, Option, Some, None, Bool, true, false, refl, ap, ◌∙◌, subst, arith}
use Rattle.std.specs.Prelude.{slice_get, ◌&&◌}
use Rattle.kc_core.specs.declared.tree.TypeTree.{TypeTree}
use Rattle.kc_core.specs.declared.tree.Span.{Span}
use Rattle.kc_core.specs.Values.{Value, Int, Boolean, Text, UnitValue, has_type}
use Rattle.kc_core.specs.Meaning.{State, Completion, Gives, Throws, Stops, Breaks, then_do, enter, checked, if_typed}
use Rattle.class_file.specs.declared.value.Value.{Value as Slot}
use Rattle.class_file.specs.declared.value.Value.TheVariants as slot
use Rattle.class_file.specs.declared.class.Set.{Set}
use Rattle.class_file.specs.declared.instr.Instr.{Instr}
use Rattle.class_file.specs.Rows.{length_of}
use Rattle.class_file.specs.Natives.{Object, TextObject}
use Rattle.class_file.specs.Machine.{Next, Going, Over, Threw, on_from, fetch, class_pool, handlers_of, method_at}
use Rattle.class_file.specs.Runs.{on_add}
use Rattle.stack_code.specs.Code.{Operation, bytes_of, bytes, StandsFor, Emitted, bit, kept, kept_bytes}
use Rattle.stack_code.specs.Implements.{Activation, Unhandled, state_at, Grows, Holds, Held, IsGoing, printed, method_factor}

pub grows_none : (h : List Object) → Grows h h
grows_none h = record { stays = λ r ob e. e }

pub grows_on : (a b c : List Object) → Grows a b → Grows b c → Grows a c
grows_on a b c f g = record { stays = λ r ob e. g.stays r ob (f.stays r ob e) }

-- these slots, on the stack, are the value: Unit takes none
abbrev pub Represents : List Object → Value → List Slot → Type 0
Represents h (Int z) xs = xs ≡ slot.Int z ∷ []
Represents h (Boolean b) xs = xs ≡ slot.Int (bit b) ∷ []
Represents h (Text t) xs = (r : ℕ) × (xs ≡ slot.Ref r ∷ []) × (slice_get h r ≡ Some (TextObject t))
Represents h UnitValue xs = xs ≡ []

-- the same of a value that has a type
abbrev pub Typed : TypeTree → List Object → Value → List Slot → Type 0
Typed ty h v xs = (has_type v ty ≡ true) × Represents h v xs

-- the same behind code that goes on
abbrev pub On : Bool → (List Object → Value → List Slot → Type 0) → List Object → Value → List Slot → Type 0
On goes rep h v xs = (goes ≡ true) × rep h v xs

pub holds_on : (h h' : List Object) (v : Value) (o : Option Slot) → Grows h h' → Holds h v o → Holds h' v o
holds_on h h' (Int z) o g e = e
holds_on h h' (Boolean b) o g e = e
holds_on h h' (Text t) o g e = (e.0, e.1, g.stays e.0 (TextObject t) e.2)
holds_on h h' UnitValue o g e = tt

pub represents_on : (h h' : List Object) (v : Value) (xs : List Slot) → Grows h h' → Represents h v xs → Represents h' v xs
represents_on h h' (Int z) xs g e = e
represents_on h h' (Boolean b) xs g e = e
represents_on h h' (Text t) xs g e = (e.0, e.1, g.stays e.0 (TextObject t) e.2)
represents_on h h' UnitValue xs g e = e

pub held_on : (h h' : List Object) (ls : List Slot) (locals : List (Option Value)) → Grows h h' → Held h ls locals → Held h' ls locals
held_on h h' ls locals g held = record { room = held.room; same = λ x v e. holds_on h h' v (slice_get ls x) g (held.same x v e) }

-- neither the frame nor one below it has handlers
abbrev pub Quiet : Set → Activation → Type 0
Quiet set o = (handlers_of (method_at set o.class o.method) ≡ []) × Unhandled set o.rest

abbrev pub live : Activation → ℕ → List Slot → List Slot → List Object → State → Next
live o at ls st h s = Going (state_at o at ls st h s)

-- at a place of the method stands an instruction for the operation
pub record At (set : Set) (o : Activation) (at : ℕ) (op : Operation) : Type 0 where
  pub instr : Instr
  pub fetched : fetch set o.class o.method at ≡ Some instr
  pub long : length_of instr ≡ bytes_of op
  pub stands : StandsFor (class_pool set o.class) at instr op

abbrev pub HasAt : Set → Activation → ℕ → List Operation → Type 0
HasAt set o at [] = Unit {0}
HasAt set o at (x ∷ xs) = At set o at x × HasAt set o (at + bytes_of x) xs

pub has_front : (set : Set) (o : Activation) (at : ℕ) (a b : List Operation) → HasAt set o at (a ++ b) → HasAt set o at a
has_front set o at [] b h = tt
has_front set o at (x ∷ a) b h = (h.0, has_front set o (at + bytes_of x) a b h.1)

pub has_back : (set : Set) (o : Activation) (at : ℕ) (a b : List Operation) → HasAt set o at (a ++ b) → HasAt set o (at + bytes a) b
has_back set o at [] b h = let e : at ≡ at + 0 = omega arith in subst (λ n. HasAt set o n b) e h
has_back set o at (x ∷ a) b h =
    let e : at + bytes_of x + bytes a ≡ at + (bytes_of x + bytes a) = omega arith in
    subst (λ n. HasAt set o n b) e (has_back set o (at + bytes_of x) a b h.1)

-- what stands behind code that goes on is there
pub written : (set : Set) (o : Activation) (at : ℕ) (goes : Bool) (os : List Operation) → goes ≡ true → HasAt set o at (kept goes os) → HasAt set o at os
written set o at goes os e h = subst (λ g. HasAt set o at (kept g os)) e h

pub kept_all : (goes : Bool) (n : ℕ) → goes ≡ true → kept_bytes goes n ≡ n
kept_all goes n e = ap (λ g. kept_bytes g n) e

pub kept_size : (goes : Bool) (os : List Operation) → bytes (kept goes os) ≡ kept_bytes goes (bytes os)
kept_size true os = refl
kept_size false os = refl

pub kept_none : (goes : Bool) → kept_bytes goes 0 ≡ 0
kept_none true = refl
kept_none false = refl

pub both_on : (a b : Bool) → a ≡ true → b ≡ true → (a && b) ≡ true
both_on a b e f = ap (λ g. g && b) e ∙ f

-- a node's sizes are those of its code
pub record Sized (x : Emitted) : Type 0 where
  pub whole : bytes x.code ≡ x.size
  pub test : (w : Bool) (n : ℕ) → bytes (x.test w n) ≡ x.test_size w

-- the steps that a unit of the meaning pays for
abbrev pub factor : ℕ
factor = method_factor

-- where a test goes on
abbrev pub lands : Bool → (to end : ℕ) → Bool → ℕ
lands true to end true = to
lands false to end false = to
lands _ to end _ = end

abbrev pub aim_of : Bool → (to end : ℕ) → Value → Option ℕ
aim_of w to end (Int z) = None
aim_of w to end (Boolean b) = Some (lands w to end b)
aim_of w to end (Text t) = None
aim_of w to end UnitValue = None

-- a test leaves nothing on the stack
abbrev pub Nothing : List Object → Value → List Slot → Type 0
Nothing h v xs = xs ≡ []

-- the value is true, and nothing is on the stack
abbrev pub True : List Object → Value → List Slot → Type 0
True h v xs = (v ≡ Boolean true) × (xs ≡ [])

-- S bounds the nodes of the body
module _ (set : Set) (S : ℕ) where
  -- The machine comes from c, with u units of the meaning left, to a target in the meaning's state s, in j steps for k units.
  -- A is what the steps may cost beyond the units' price, less 2; B is how many units may have taken no step.
  pub record Reaches (c : Next) (h : List Object) (u A B : ℕ) (ls : List Slot) (ok : List Object → List Slot → Type 0) (s : State) (target : List Slot → List Object → List Slot → Next) : Type 0 where
    pub j : ℕ
    pub k : ℕ
    pub ls' : List Slot
    pub h' : List Object
    pub xs : List Slot
    pub runs : on_from set j c ≡ target ls' h' xs
    pub is : ok h' xs
    pub grows : Grows h h'
    pub held : Held h' ls' s.locals
    pub long : length ls' ≡ length ls
    pub units : s.units + k ≡ u
    pub most : j + 2 ≤ factor * k + A
    pub least : k ≤ B + S * j

  -- the units have run out, and the machine is still on its way
  pub record Hangs (c : Next) (u A B : ℕ) (s : State) : Type 0 where
    pub j : ℕ
    pub c' : Next
    pub runs : on_from set j c ≡ c'
    pub going : IsGoing c'
    pub says : printed c' ≡ s.out
    pub units : s.units ≡ 0
    pub most : j ≤ factor * u + A
    pub least : u ≤ B + S * j

  abbrev pub Rep : Type 1
  Rep = List Object → Value → List Slot → Type 0

  -- what is owed for a value: that the machine comes to a place with the value's slots put on the stack st, or nothing
  abbrev pub Owed : Activation → Rep → Next → List Object → (u A B : ℕ) → List Slot → Option ℕ → List Slot → Value → State → Type 0
  Owed o rep c h u A B ls (Some end) st v s = Reaches c h u A B ls (λ h' xs. rep h' v xs) s (λ ls' h' xs. live o end ls' (xs ++ st) h' s)
  Owed o rep c h u A B ls None st v s = Unit {0}

  -- the machine does what the meaning came to, with a place for each value
  abbrev pub RunTo : Activation → Rep → Next → List Object → (u A B : ℕ) → List Slot → (aim : Value → Option ℕ) → List Slot → Completion → Type 0
  RunTo o rep c h u A B ls aim st (Gives v s) = Owed o rep c h u A B ls (aim v) st v s
  RunTo o rep c h u A B ls aim st (Throws x s) = Reaches c h u A B ls (λ h' xs. Unit {0}) s (λ ls' h' xs. Over (Threw x.class x.message) s.out)
  RunTo o rep c h u A B ls aim st (Stops s) = Hangs c u A B s
  RunTo o rep c h u A B ls aim st (Breaks at s) = Unit {0}

  -- the same with one place
  abbrev pub Run : Activation → Rep → Next → List Object → (u A B : ℕ) → List Slot → (end : ℕ) → List Slot → Completion → Type 0
  Run o rep c h u A B ls end st r = RunTo o rep c h u A B ls (λ v. Some end) st r

  -- behind one stretch, another
  pub reaches_on : (c : Next) (h : List Object) (u A B A1 B1 A2 B2 : ℕ) (ls : List Slot) (s1 s : State) (ok1 ok : List Object → List Slot → Type 0) (tg1 tg : List Slot → List Object → List Slot → Next) (g : Reaches c h u A1 B1 ls ok1 s1 tg1) → A1 + A2 ≤ A + 2 → B1 + B2 ≤ B → Reaches (tg1 g.ls' g.h' g.xs) g.h' s1.units A2 B2 g.ls' ok s tg → Reaches c h u A B ls ok s tg
  reaches_on c h u A B A1 B1 A2 B2 ls s1 s ok1 ok tg1 tg g a b r = record {
    j = g.j + r.j;
    k = g.k + r.k;
    ls' = r.ls';
    h' = r.h';
    xs = r.xs;
    is = r.is;
    grows = grows_on h g.h' r.h' g.grows r.grows;
    runs = on_add set g.j r.j c ∙ ap (on_from set r.j) g.runs ∙ r.runs;
    held = r.held;
    long = r.long ∙ g.long;
    units = omega (arith, g.units, r.units);
    most = omega (arith, g.most, r.most);
    least = omega (arith, g.least, r.least);
  }

  pub hangs_on : (c : Next) (h : List Object) (u A B A1 B1 A2 B2 : ℕ) (ls : List Slot) (s1 s : State) (ok1 : List Object → List Slot → Type 0) (tg1 : List Slot → List Object → List Slot → Next) (g : Reaches c h u A1 B1 ls ok1 s1 tg1) → A1 + A2 ≤ A + 2 → B1 + B2 ≤ B → Hangs (tg1 g.ls' g.h' g.xs) s1.units A2 B2 s → Hangs c u A B s
  hangs_on c h u A B A1 B1 A2 B2 ls s1 s ok1 tg1 g a b r = record {
    j = g.j + r.j;
    c' = r.c';
    runs = on_add set g.j r.j c ∙ ap (on_from set r.j) g.runs ∙ r.runs;
    going = r.going;
    says = r.says;
    units = r.units;
    most = omega (arith, g.units, g.most, r.most);
    least = omega (arith, g.units, g.least, r.least);
  }

  owed_on : (o : Activation) (rep : Rep) (aim : Option ℕ) (st : List Slot) (c : Next) (h : List Object) (u A B A1 B1 A2 B2 : ℕ) (ls : List Slot) (s1 : State) (ok1 : List Object → List Slot → Type 0) (tg1 : List Slot → List Object → List Slot → Next) (g : Reaches c h u A1 B1 ls ok1 s1 tg1) → A1 + A2 ≤ A + 2 → B1 + B2 ≤ B → (v : Value) (s : State) → Owed o rep (tg1 g.ls' g.h' g.xs) g.h' s1.units A2 B2 g.ls' aim st v s → Owed o rep c h u A B ls aim st v s
  owed_on o rep (Some end) st c h u A B A1 B1 A2 B2 ls s1 ok1 tg1 g a b v s r = reaches_on c h u A B A1 B1 A2 B2 ls s1 s ok1 _ tg1 _ g a b r
  owed_on o rep None st c h u A B A1 B1 A2 B2 ls s1 ok1 tg1 g a b v s r = tt

  -- a run behind a stretch
  pub run_to_on : (o : Activation) (rep : Rep) (aim : Value → Option ℕ) (st : List Slot) (c : Next) (h : List Object) (u A B A1 B1 A2 B2 : ℕ) (ls : List Slot) (s1 : State) (ok1 : List Object → List Slot → Type 0) (tg1 : List Slot → List Object → List Slot → Next) (g : Reaches c h u A1 B1 ls ok1 s1 tg1) → A1 + A2 ≤ A + 2 → B1 + B2 ≤ B → (r : Completion) → RunTo o rep (tg1 g.ls' g.h' g.xs) g.h' s1.units A2 B2 g.ls' aim st r → RunTo o rep c h u A B ls aim st r
  run_to_on o rep aim st c h u A B A1 B1 A2 B2 ls s1 ok1 tg1 g a b (Gives v s) r = owed_on o rep (aim v) st c h u A B A1 B1 A2 B2 ls s1 ok1 tg1 g a b v s r
  run_to_on o rep aim st c h u A B A1 B1 A2 B2 ls s1 ok1 tg1 g a b (Throws x s) r = reaches_on c h u A B A1 B1 A2 B2 ls s1 s ok1 _ tg1 _ g a b r
  run_to_on o rep aim st c h u A B A1 B1 A2 B2 ls s1 ok1 tg1 g a b (Stops s) r = hangs_on c h u A B A1 B1 A2 B2 ls s1 s ok1 tg1 g a b r
  run_to_on o rep aim st c h u A B A1 B1 A2 B2 ls s1 ok1 tg1 g a b (Breaks at s) r = tt

  pub run_on : (o : Activation) (rep : Rep) (end : ℕ) (st : List Slot) (c : Next) (h : List Object) (u A B A1 B1 A2 B2 : ℕ) (ls : List Slot) (s1 : State) (ok1 : List Object → List Slot → Type 0) (tg1 : List Slot → List Object → List Slot → Next) (g : Reaches c h u A1 B1 ls ok1 s1 tg1) → A1 + A2 ≤ A + 2 → B1 + B2 ≤ B → (r : Completion) → Run o rep (tg1 g.ls' g.h' g.xs) g.h' s1.units A2 B2 g.ls' end st r → Run o rep c h u A B ls end st r
  run_on o rep end st c h u A B A1 B1 A2 B2 ls s1 ok1 tg1 g a b r rest = run_to_on o rep (λ v. Some end) st c h u A B A1 B1 A2 B2 ls s1 ok1 tg1 g a b r rest

  pub reaches_weak : (c : Next) (h : List Object) (u A B A1 B1 : ℕ) (ls : List Slot) (s : State) (ok : List Object → List Slot → Type 0) (tg : List Slot → List Object → List Slot → Next) → A1 ≤ A → B1 ≤ B → Reaches c h u A1 B1 ls ok s tg → Reaches c h u A B ls ok s tg
  reaches_weak c h u A B A1 B1 ls s ok tg a b r = record {
    j = r.j;
    k = r.k;
    ls' = r.ls';
    h' = r.h';
    xs = r.xs;
    runs = r.runs;
    is = r.is;
    grows = r.grows;
    held = r.held;
    long = r.long;
    units = r.units;
    most = omega (arith, r.most);
    least = omega (arith, r.least);
  }

  pub hangs_weak : (c : Next) (u A B A1 B1 : ℕ) (s : State) → A1 ≤ A → B1 ≤ B → Hangs c u A1 B1 s → Hangs c u A B s
  hangs_weak c u A B A1 B1 s a b r = record {
    j = r.j;
    c' = r.c';
    runs = r.runs;
    going = r.going;
    says = r.says;
    units = r.units;
    most = omega (arith, r.most);
    least = omega (arith, r.least);
  }

  owed_weak : (o : Activation) (rep rep1 : Rep) (aim : Option ℕ) (st : List Slot) (c : Next) (h : List Object) (u A B A1 B1 : ℕ) (ls : List Slot) → A1 ≤ A → B1 ≤ B → (v : Value) (s : State) → ((h' : List Object) (xs : List Slot) → rep1 h' v xs → rep h' v xs) → Owed o rep1 c h u A1 B1 ls aim st v s → Owed o rep c h u A B ls aim st v s
  owed_weak o rep rep1 (Some end) st c h u A B A1 B1 ls a b v s f r = record {
    j = r.j;
    k = r.k;
    ls' = r.ls';
    h' = r.h';
    xs = r.xs;
    runs = r.runs;
    is = f r.h' r.xs r.is;
    grows = r.grows;
    held = r.held;
    long = r.long;
    units = r.units;
    most = omega (arith, r.most);
    least = omega (arith, r.least);
  }
  owed_weak o rep rep1 None st c h u A B A1 B1 ls a b v s f r = tt

  -- with more to spend
  pub run_weak : (o : Activation) (rep rep1 : Rep) (aim : Value → Option ℕ) (st : List Slot) (c : Next) (h : List Object) (u A B A1 B1 : ℕ) (ls : List Slot) → A1 ≤ A → B1 ≤ B → ((h' : List Object) (v : Value) (xs : List Slot) → rep1 h' v xs → rep h' v xs) → (r : Completion) → RunTo o rep1 c h u A1 B1 ls aim st r → RunTo o rep c h u A B ls aim st r
  run_weak o rep rep1 aim st c h u A B A1 B1 ls a b f (Gives v s) r = owed_weak o rep rep1 (aim v) st c h u A B A1 B1 ls a b v s (λ h' xs. f h' v xs) r
  run_weak o rep rep1 aim st c h u A B A1 B1 ls a b f (Throws x s) r = reaches_weak c h u A B A1 B1 ls s _ _ a b r
  run_weak o rep rep1 aim st c h u A B A1 B1 ls a b f (Stops s) r = hangs_weak c u A B A1 B1 s a b r
  run_weak o rep rep1 aim st c h u A B A1 B1 ls a b f (Breaks at s) r = tt

  -- a node's part first, and then what its value is for
  pub bind_to : (o : Activation) (rep1 rep : Rep) (aim1 aim : Value → Option ℕ) (st1 st : List Slot) (c : Next) (h : List Object) (u A B A1 B1 : ℕ) (ls : List Slot) → A1 ≤ A → B1 ≤ B → (go : Value → State → Completion) → ((v : Value) (s1 : State) → Owed o rep1 c h u A1 B1 ls (aim1 v) st1 v s1 → RunTo o rep c h u A B ls aim st (go v s1)) → (r : Completion) → RunTo o rep1 c h u A1 B1 ls aim1 st1 r → RunTo o rep c h u A B ls aim st (then_do r go)
  bind_to o rep1 rep aim1 aim st1 st c h u A B A1 B1 ls a b go then' (Gives v s) r = then' v s r
  bind_to o rep1 rep aim1 aim st1 st c h u A B A1 B1 ls a b go then' (Throws x s) r = reaches_weak c h u A B A1 B1 ls s _ _ a b r
  bind_to o rep1 rep aim1 aim st1 st c h u A B A1 B1 ls a b go then' (Stops s) r = hangs_weak c u A B A1 B1 s a b r
  bind_to o rep1 rep aim1 aim st1 st c h u A B A1 B1 ls a b go then' (Breaks at s) r = tt

  pub bind : (o : Activation) (rep1 rep : Rep) (end1 end : ℕ) (st1 st : List Slot) (c : Next) (h : List Object) (u A B A1 B1 : ℕ) (ls : List Slot) → A1 ≤ A → B1 ≤ B → (go : Value → State → Completion) → ((v : Value) (s1 : State) → Reaches c h u A1 B1 ls (λ h' xs. rep1 h' v xs) s1 (λ ls' h' xs. live o end1 ls' (xs ++ st1) h' s1) → Run o rep c h u A B ls end st (go v s1)) → (r : Completion) → Run o rep1 c h u A1 B1 ls end1 st1 r → Run o rep c h u A B ls end st (then_do r go)
  bind o rep1 rep end1 end st1 st c h u A B A1 B1 ls a b go then' r part = bind_to o rep1 rep (λ v. Some end1) (λ v. Some end) st1 st c h u A B A1 B1 ls a b go then' r part

  -- the code goes on
  pub evident : (o : Activation) (rep : Rep) (aim : Value → Option ℕ) (st : List Slot) (c : Next) (h : List Object) (u A B : ℕ) (ls : List Slot) (goes : Bool) → goes ≡ true → (r : Completion) → RunTo o rep c h u A B ls aim st r → RunTo o (On goes rep) c h u A B ls aim st r
  evident o rep aim st c h u A B ls goes e r run = run_weak o (On goes rep) rep aim st c h u A B A B ls (omega arith) (omega arith) (λ h' v xs is. (e, is)) r run

  -- the code does not go on, and so gives no value
  pub never : (o : Activation) (rep rep1 : Rep) (aim : Value → Option ℕ) (end : ℕ) (st st1 : List Slot) (c : Next) (h : List Object) (u A B A1 B1 : ℕ) (ls : List Slot) → A1 ≤ A → B1 ≤ B → (r : Completion) → Run o (On false rep1) c h u A1 B1 ls end st1 r → RunTo o rep c h u A B ls aim st r
  never o rep rep1 aim end st st1 c h u A B A1 B1 ls a b (Gives v s) r = absurd (let q = r.is.0 in cc)
  never o rep rep1 aim end st st1 c h u A B A1 B1 ls a b (Throws x s) r = reaches_weak c h u A B A1 B1 ls s _ _ a b r
  never o rep rep1 aim end st st1 c h u A B A1 B1 ls a b (Stops s) r = hangs_weak c u A B A1 B1 s a b r
  never o rep rep1 aim end st st1 c h u A B A1 B1 ls a b (Breaks at s) r = tt

  -- m steps of the machine for which no unit is taken
  pub own : (m : ℕ) (c : Next) (h : List Object) (A B : ℕ) (ls ls' : List Slot) (h' : List Object) (xs : List Slot) (ok : List Object → List Slot → Type 0) (s : State) (tg : List Slot → List Object → List Slot → Next) → m + 2 ≤ A → on_from set m c ≡ tg ls' h' xs → ok h' xs → Grows h h' → Held h' ls' s.locals → length ls' ≡ length ls → Reaches c h s.units A B ls ok s tg
  own m c h A B ls ls' h' xs ok s tg le runs is grows held long = record {
    j = m;
    k = 0;
    ls' = ls';
    h' = h';
    xs = xs;
    runs = runs;
    is = is;
    grows = grows;
    held = held;
    long = long;
    units = omega arith;
    most = omega arith;
    least = omega arith;
  }

  -- a run behind m steps for which no unit is taken; each step makes room for S units without one
  pub run_paid : (m : ℕ) (o : Activation) (rep : Rep) (aim : Value → Option ℕ) (st : List Slot) (c c1 : Next) (h h1 : List Object) (A A2 B B2 : ℕ) (ls ls1 : List Slot) (s : State) → m + A2 ≤ A → B2 ≤ B + S * m → on_from set m c ≡ c1 → Grows h h1 → Held h1 ls1 s.locals → length ls1 ≡ length ls → (r : Completion) → RunTo o rep c1 h1 s.units A2 B2 ls1 aim st r → RunTo o rep c h s.units A B ls aim st r
  run_paid m o rep aim st c c1 h h1 A A2 B B2 ls ls1 s a b runs grows held long r rest = by_case r rest
    where
      paid : (s' : State) (ok : List Object → List Slot → Type 0) (tg : List Slot → List Object → List Slot → Next) → Reaches c1 h1 s.units A2 B2 ls1 ok s' tg → Reaches c h s.units A B ls ok s' tg
      paid s' ok tg r = record {
        j = m + r.j;
        k = r.k;
        ls' = r.ls';
        h' = r.h';
        xs = r.xs;
        is = r.is;
        grows = grows_on h h1 r.h' grows r.grows;
        runs = on_add set m r.j c ∙ ap (on_from set r.j) runs ∙ r.runs;
        held = r.held;
        long = r.long ∙ long;
        units = r.units;
        most = omega (arith, r.most);
        least = omega (arith, r.least);
      }

      owed : (aim : Option ℕ) (v : Value) (s' : State) → Owed o rep c1 h1 s.units A2 B2 ls1 aim st v s' → Owed o rep c h s.units A B ls aim st v s'
      owed (Some end) v s' r = paid s' _ _ r
      owed None v s' r = tt

      by_case : (r : Completion) → RunTo o rep c1 h1 s.units A2 B2 ls1 aim st r → RunTo o rep c h s.units A B ls aim st r
      by_case (Gives v s') r = owed (aim v) v s' r
      by_case (Throws x s') r = paid s' _ _ r
      by_case (Stops s') r = record {
        j = m + r.j;
        c' = r.c';
        runs = on_add set m r.j c ∙ ap (on_from set r.j) runs ∙ r.runs;
        going = r.going;
        says = r.says;
        units = r.units;
        most = omega (arith, r.most);
        least = omega (arith, r.least);
      }
      by_case (Breaks at s') r = tt

  pub run_own : (m : ℕ) (o : Activation) (rep : Rep) (end : ℕ) (st : List Slot) (c c1 : Next) (h h1 : List Object) (A A2 B : ℕ) (ls ls1 : List Slot) (s : State) → m + A2 ≤ A → on_from set m c ≡ c1 → Grows h h1 → Held h1 ls1 s.locals → length ls1 ≡ length ls → (r : Completion) → Run o rep c1 h1 s.units A2 B ls1 end st r → Run o rep c h s.units A B ls end st r
  run_own m o rep end st c c1 h h1 A A2 B ls ls1 s le runs grows held long r rest =
      run_paid m o rep (λ v. Some end) st c c1 h h1 A A2 B B ls ls1 s le (omega arith) runs grows held long r rest

  pub ends_at : (o : Activation) (rep : Rep) (c : Next) (h : List Object) (u A B : ℕ) (ls : List Slot) (end1 end : ℕ) (st : List Slot) (r : Completion) → end1 ≡ end → Run o rep c h u A B ls end1 st r → Run o rep c h u A B ls end st r
  ends_at o rep c h u A B ls end1 end st r e g = subst (λ x. Run o rep c h u A B ls x st r) e g

  -- with more to spend, up to another name of the same place
  pub wider : (o : Activation) (rep : Rep) (end1 end : ℕ) (c : Next) (h : List Object) (u A1 A B : ℕ) (ls st : List Slot) (r : Completion) → A1 ≤ A → end1 ≡ end → Run o rep c h u A1 B ls end1 st r → Run o rep c h u A B ls end st r
  wider o rep end1 end c h u A1 A B ls st r le e g = ends_at o rep c h u A B ls end1 end st r e (run_weak o rep rep (λ v. Some end1) st c h u A B A1 B ls le (omega arith) (λ h' v xs is. is) r g)

  -- what a node finds whose code is this
  pub record Prepared (d : ℕ) (x : Emitted) (ops : List Operation) (s : State) (o : Activation) (at : ℕ) (ls : List Slot) (h : List Object) : Type 0 where
    pub deep : s.units ≤ d
    pub small : x.nodes ≤ S
    pub code : HasAt set o at ops
    pub held : Held h ls s.locals
    pub quiet : Quiet set o

  abbrev pub Ready : (d : ℕ) (x : Emitted) (s : State) (o : Activation) (at : ℕ) (ls : List Slot) (h : List Object) → Type 0
  Ready d x s o at ls h = Prepared d x x.code s o at ls h

  -- the code does what the node does
  abbrev pub Follows : ℕ → Emitted → (State → Completion) → Type 0
  Follows d x f = (s : State) (o : Activation) (at : ℕ) (ls st : List Slot) (h : List Object) → Ready d x s o at ls h → Run o (On x.goes_on (Typed x.ty)) (live o at ls st h s) h s.units 0 x.nodes ls (at + x.size) st (f s)

  -- the same behind the node's own unit, and before its value is checked
  abbrev pub Inside : ℕ → ℕ → Emitted → (State → Completion) → Type 0
  Inside d b x g = (s : State) (o : Activation) (at : ℕ) (ls st : List Slot) (h : List Object) → Ready d x s o at ls h → Run o (On x.goes_on Represents) (live o at ls st h s) h s.units factor b ls (at + x.size) st (g s)

  unit_reaches : (c : Next) (h : List Object) (u u1 b B : ℕ) (ls : List Slot) (s : State) (ok : List Object → List Slot → Type 0) (tg : List Slot → List Object → List Slot → Next) → u ≡ suc u1 → b + 1 ≤ B → Reaches c h u1 factor b ls ok s tg → Reaches c h u 0 B ls ok s tg
  unit_reaches c h u u1 b B ls s ok tg e le r = record {
    j = r.j;
    k = r.k + 1;
    ls' = r.ls';
    h' = r.h';
    xs = r.xs;
    runs = r.runs;
    is = r.is;
    grows = r.grows;
    held = r.held;
    long = r.long;
    units = omega (arith, r.units);
    most = omega (arith, r.most);
    least = omega (arith, r.least);
  }

  unit_hangs : (c : Next) (u u1 b B : ℕ) (s : State) → u ≡ suc u1 → b + 1 ≤ B → Hangs c u1 factor b s → Hangs c u 0 B s
  unit_hangs c u u1 b B s e le r = record {
    j = r.j;
    c' = r.c';
    runs = r.runs;
    going = r.going;
    says = r.says;
    units = r.units;
    most = omega (arith, r.most);
    least = omega (arith, r.least);
  }

  unit_owed : (o : Activation) (rep : Rep) (aim : Option ℕ) (st : List Slot) (c : Next) (h : List Object) (u u1 b B : ℕ) (ls : List Slot) → u ≡ suc u1 → b + 1 ≤ B → (v : Value) (s : State) → Owed o rep c h u1 factor b ls aim st v s → Owed o rep c h u 0 B ls aim st v s
  unit_owed o rep (Some end) st c h u u1 b B ls e le v s r = unit_reaches c h u u1 b B ls s _ _ e le r
  unit_owed o rep None st c h u u1 b B ls e le v s r = tt

  -- a unit is taken
  unit_run : (o : Activation) (rep : Rep) (aim : Value → Option ℕ) (st : List Slot) (c : Next) (h : List Object) (u u1 b B : ℕ) (ls : List Slot) → u ≡ suc u1 → b + 1 ≤ B → (r : Completion) → RunTo o rep c h u1 factor b ls aim st r → RunTo o rep c h u 0 B ls aim st r
  unit_run o rep aim st c h u u1 b B ls e le (Gives v s) r = unit_owed o rep (aim v) st c h u u1 b B ls e le v s r
  unit_run o rep aim st c h u u1 b B ls e le (Throws x s) r = unit_reaches c h u u1 b B ls s _ _ e le r
  unit_run o rep aim st c h u u1 b B ls e le (Stops s) r = unit_hangs c u u1 b B s e le r
  unit_run o rep aim st c h u u1 b B ls e le (Breaks at s) r = tt

  retyped : (c : Next) (h : List Object) (u A B : ℕ) (ls : List Slot) (s : State) (ok ok1 : List Object → List Slot → Type 0) (tg : List Slot → List Object → List Slot → Next) → ((h' : List Object) (xs : List Slot) → ok h' xs → ok1 h' xs) → Reaches c h u A B ls ok s tg → Reaches c h u A B ls ok1 s tg
  retyped c h u A B ls s ok ok1 tg f r = record {
    j = r.j;
    k = r.k;
    ls' = r.ls';
    h' = r.h';
    xs = r.xs;
    runs = r.runs;
    is = f r.h' r.xs r.is;
    grows = r.grows;
    held = r.held;
    long = r.long;
    units = r.units;
    most = r.most;
    least = r.least;
  }

  if_typed_run : (o : Activation) (goes : Bool) (ty : TypeTree) (span : Span) (c : Next) (h : List Object) (u A B : ℕ) (ls : List Slot) (end : ℕ) (st : List Slot) (v : Value) (s : State) (b : Bool) → has_type v ty ≡ b → Run o (On goes Represents) c h u A B ls end st (Gives v s) → Run o (On goes (Typed ty)) c h u A B ls end st (if_typed b span v s)
  if_typed_run o goes ty span c h u A B ls end st v s true e r = retyped c h u A B ls s _ _ _ (λ h' xs is. (is.0, (e, is.1))) r
  if_typed_run o goes ty span c h u A B ls end st v s false e r = tt

  -- a value is checked against the node's type
  checked_run : (o : Activation) (goes : Bool) (ty : TypeTree) (span : Span) (c : Next) (h : List Object) (u A B : ℕ) (ls : List Slot) (end : ℕ) (st : List Slot) (r : Completion) → Run o (On goes Represents) c h u A B ls end st r → Run o (On goes (Typed ty)) c h u A B ls end st (then_do r (checked span ty))
  checked_run o goes ty span c h u A B ls end st (Gives v s) r = if_typed_run o goes ty span c h u A B ls end st v s (has_type v ty) refl r
  checked_run o goes ty span c h u A B ls end st (Throws x s) r = r
  checked_run o goes ty span c h u A B ls end st (Stops s) r = r
  checked_run o goes ty span c h u A B ls end st (Breaks at s) r = tt

  -- the same with the check
  abbrev pub Checked : ℕ → ℕ → Emitted → (State → Completion) → Type 0
  Checked d b x f = (s : State) (o : Activation) (at : ℕ) (ls st : List Slot) (h : List Object) → Ready d x s o at ls h → Run o (On x.goes_on (Typed x.ty)) (live o at ls st h s) h s.units factor b ls (at + x.size) st (f s)

  pub with_check : (d b : ℕ) (x : Emitted) (span : Span) (g : State → Completion) → Inside d b x g → Checked d b x (λ s. then_do (g s) (checked span x.ty))
  with_check d b x span g inside s o at ls st h ready =
      checked_run o x.goes_on x.ty span (live o at ls st h s) h s.units factor b ls (at + x.size) st (g s) (inside s o at ls st h ready)

  -- the node's own unit, before code of any form
  pub enters : (d b : ℕ) (x : Emitted) (ops : List Operation) (rep : Rep) (f : State → Completion) → b + 1 ≤ x.nodes → (s : State) (o : Activation) (at : ℕ) (ls st : List Slot) (h : List Object) (aim : Value → Option ℕ) → ((s1 : State) → Prepared d x ops s1 o at ls h → RunTo o rep (live o at ls st h s1) h s1.units factor b ls aim st (f s1)) → Prepared (suc d) x ops s o at ls h → RunTo o rep (live o at ls st h s) h s.units 0 x.nodes ls aim st (enter s.units s f)
  enters d b x ops rep f le s o at ls st h aim inside ready = by_units s.units refl
    where
      c : Next
      c = live o at ls st h s

      by_units : (u : ℕ) → s.units ≡ u → RunTo o rep c h s.units 0 x.nodes ls aim st (enter u s f)
      by_units zero e = record { j = 0; c' = c; runs = refl; going = tt; says = refl; units = e; most = omega arith; least = omega (arith, e) }
      by_units (suc u) e =
          unit_run o rep aim st c h s.units u b x.nodes ls e le _
          (inside (record s { units = u })
          (record { deep = omega (arith, e, ready.deep); small = ready.small; code = ready.code; held = ready.held; quiet = ready.quiet }))

  pub entered : (d b : ℕ) (x : Emitted) (f : State → Completion) → b + 1 ≤ x.nodes → Checked d b x f → Follows (suc d) x (λ s. enter s.units s f)
  entered d b x f le inside s o at ls st h ready =
      enters d b x x.code (On x.goes_on (Typed x.ty)) f le s o at ls st h (λ v. Some (at + x.size)) (λ s1 r1. inside s1 o at ls st h r1) ready

  -- no depth is left, and so no unit
  pub hangs_none : (x : Emitted) (ops : List Operation) (A : ℕ) (s : State) (o : Activation) (at : ℕ) (ls st : List Slot) (h : List Object) → Prepared zero x ops s o at ls h → Hangs (live o at ls st h s) s.units A x.nodes s
  hangs_none x ops A s o at ls st h ready =
      record { j = 0; c' = live o at ls st h s; runs = refl; going = tt; says = refl; units = omega (arith, ready.deep); most = omega arith; least = omega (arith, ready.deep) }

  -- the second form of the code goes on where the node's value says
  abbrev pub Tests : ℕ → Emitted → (State → Completion) → Type 0
  Tests d x f = (w : Bool) (n : ℕ) (s : State) (o : Activation) (at : ℕ) (ls st : List Slot) (h : List Object) → Prepared d x (x.test w n) s o at ls h → RunTo o (On x.goes_on Nothing) (live o at ls st h s) h s.units 1 x.nodes ls (aim_of w (at + x.test_size w + n) (at + x.test_size w)) st (f s)

  -- the literal true: nothing is run for it
  abbrev pub Sure : ℕ → Emitted → (State → Completion) → Type 0
  Sure d x f = x.always ≡ true → (s : State) (o : Activation) (at : ℕ) (ls st : List Slot) (h : List Object) → Prepared d x [] s o at ls h → Run o (On x.goes_on True) (live o at ls st h s) h s.units 0 x.nodes ls at st (f s)

  -- what the code of a node does, in each of its forms
  pub record Acts (d : ℕ) (x : Emitted) (f : State → Completion) : Type 0 where
    pub value : Follows d x f
    pub test : Tests d x f
    pub sure : Sure d x f

  pub acts_none : (x : Emitted) → Acts zero x (λ s. Stops s)
  acts_none x = record {
    value = λ s o at ls st h ready. hangs_none x x.code 0 s o at ls st h ready;
    test = λ w n s o at ls st h ready. hangs_none x (x.test w n) 1 s o at ls st h ready;
    sure = λ e s o at ls st h ready. hangs_none x [] 0 s o at ls st h ready;
  }
