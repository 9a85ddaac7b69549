-- A set verifies exactly where no method has a fault.
use Rattle.std.proofs.Common.{◌≡◌, ◌≢◌, ℕ, zero, suc, ◌+◌, ◌-◌, ◌<◌, Bool, true, false, cond, eqb, List, [], ◌∷◌, Option, Some, None, Result, Ok, Err, refl, sym, ap, subst, ◌∙◌, arith}
use Rattle.std.specs.Prelude.{slice_get, ◌&&◌, ◌||◌, not}
use Rattle.std.proofs.lemmas.Bool.{eqb-true, eqb-false}
use Rattle.class_file.specs.declared.instr.Instr.{Instr}
use Rattle.class_file.specs.declared.row.Row.{Row}
use Rattle.class_file.specs.declared.class.Handler.{Handler}
use Rattle.class_file.specs.declared.class.Method.{Method}
use Rattle.class_file.specs.declared.class.ClassFile.{ClassFile}
use Rattle.class_file.specs.declared.class.Set.{Set}
use Rattle.class_file.specs.declared.verify_code.VerifyCode.{VerifyCode}
use Rattle.class_file.specs.declared.verify_code.VerifyCode.TheVariants.{MissingFrame, WrongFrame, BadTarget, BadHandler, FallsOff, AbstractNew}
use Rattle.class_file.specs.declared.verify_code.VerifyFault.{VerifyFault}
use Rattle.class_file.specs.Rows.{length_of, row_of, instr_at}
use Rattle.class_file.specs.Members.{cannot_be_made}
use Rattle.class_file.specs.Typing.{Types, types_assignable, stepped}
use Rattle.class_file.specs.Verification.{given_at, needs_frame, is_target, is_handler, is_place, first_types, jump_of, goes_on, has, starts, is_good_row, is_caught, EachRow, Enters, Passes, Begins, IsTyped, MethodVerifies, Verifies, or_else, unless, fits_given, frame_fault, jump_frame_fault, next_frame_fault, target_fault, all_rows, rows_fault, all_caught, fall_fault, start_fault, flow_fault, verdict_fault, fault_of, leaves, left_by, entering, entering_at, PlaceFault, scan, method_fault, fault_in, methods_fault, classes_fault, first_fault}
use Rattle.verifier.proofs.Places.{positive, not_zero, Here, Later, found_at, nothing_at, first_at, instr_past}

abbrev none : Types
none = record { locals = []; stack = []; unset = false }

abbrev or_none : Option Types → Types
or_none (Some t) = t
or_none None = none

abbrev NoCode : Option VerifyCode → Type 0
NoCode o = o ≡ None

some_code : (c : VerifyCode) → (let o : Option VerifyCode = Some c in o) ≢ None
some_code c e = cc

both_none : (a b : Option VerifyCode) → or_else a b ≡ None → (a ≡ None) × (b ≡ None)
both_none None b e = (refl, e)
both_none (Some c) b e = absurd (some_code c e)

from_both : (a b : Option VerifyCode) → a ≡ None → b ≡ None → or_else a b ≡ None
from_both a b e f = ap (λ (x : Option VerifyCode). or_else x b) e ∙ f

unless_none : (b : Bool) (c : VerifyCode) → unless b c ≡ None → b ≡ true
unless_none true c e = refl
unless_none false c e = absurd (some_code c e)

unless_true : (b : Bool) (c : VerifyCode) → b ≡ true → unless b c ≡ None
unless_true b c e = ap (λ (x : Bool). unless x c) e

not_not : (b : Bool) → not b ≡ true → b ≡ false
not_not true e = absurd cc
not_not false e = refl

both_true : (a b : Bool) → (a && b) ≡ true → (a ≡ true) × (b ≡ true)
both_true true b e = (refl, e)
both_true false b e = absurd cc

or_right : (a b : Bool) → a ≡ true → (not a || b) ≡ true → b ≡ true
or_right true b e h = h
or_right false b e h = absurd cc

or_of : (a b : Bool) → (a ≡ true → b ≡ true) → (not a || b) ≡ true
or_of true b h = h refl
or_of false b h = refl

or_left : (a b : Bool) → a ≡ true → (a || b) ≡ true
or_left a b e = ap (λ (x : Bool). x || b) e

or_true : (a b : Bool) → b ≡ true → (a || b) ≡ true
or_true true b e = refl
or_true false b e = e

same_eqb : (n : ℕ) → eqb n n ≡ true
same_eqb n = by (eqb n n) refl
  where
    by : (b : Bool) → eqb n n ≡ b → b ≡ true
    by true k = refl
    by false k = absurd (eqb-false n n k refl)

some_types : (x y : Types) → (let o : Option Types = Some x in o) ≡ Some y → x ≡ y
some_types x y e = cc

none_types : (y : Types) → (let o : Option Types = None in o) ≡ Some y → ⊥
none_types y e = cc

record Instruction (m : Method) (pc : ℕ) : Type 0 where
  i : Instr
  is : instr_at m.code pc ≡ Some i

an_instruction : (m : Method) (pc : ℕ) → starts m pc ≡ true → Instruction m pc
an_instruction m pc e = by (instr_at m.code pc) refl e
  where
    by : (o : Option Instr) → instr_at m.code pc ≡ o → has o ≡ true → Instruction m pc
    by None k h = absurd cc
    by (Some i) k h = record { i = i; is = k }

module _ (set : Set) (c : ClassFile) (m : Method) where
  -- ---- lists of handlers
  rows_all : (hs : List Handler) → all_rows set c m hs ≡ true → EachRow (λ h. is_good_row set c m h ≡ true) hs
  rows_all [] e = tt
  rows_all (h ∷ hs) e = let b = both_true (is_good_row set c m h) (all_rows set c m hs) e in (b.0, rows_all hs b.1)

  all_rows_from : (hs : List Handler) → EachRow (λ h. is_good_row set c m h ≡ true) hs → all_rows set c m hs ≡ true
  all_rows_from [] a = refl
  all_rows_from (h ∷ hs) a = ap (λ (b : Bool). b && all_rows set c m hs) a.0 ∙ all_rows_from hs a.1

  caught_all : (pc : ℕ) (t u : Types) (hs : List Handler) → t ≡ u → all_caught set c m pc t hs ≡ true → EachRow (λ h. is_caught set c m pc u h ≡ true) hs
  caught_all pc t u [] e a = tt
  caught_all pc t u (h ∷ hs) e a =
      let b = both_true (is_caught set c m pc t h) (all_caught set c m pc t hs) a in
      (ap (λ (x : Types). is_caught set c m pc x h) (sym e) ∙ b.0, caught_all pc t u hs e b.1)

  all_caught_from : (pc : ℕ) (t : Types) (hs : List Handler) → EachRow (λ h. is_caught set c m pc t h ≡ true) hs → all_caught set c m pc t hs ≡ true
  all_caught_from pc t [] a = refl
  all_caught_from pc t (h ∷ hs) a = ap (λ (b : Bool). b && all_caught set c m pc t hs) a.0 ∙ all_caught_from pc t hs a.1

  -- ---- frames where the flow goes
  given_fits : (after : Types) (o : Option Types) → fits_given set after o ≡ true → (g : Types) → o ≡ Some g → types_assignable set after g ≡ true
  given_fits after None e g h = absurd (none_types g h)
  given_fits after (Some x) e g h = ap (λ (t : Types). types_assignable set after t) (sym (some_types x g h)) ∙ e

  fits_from : (after : Types) (o : Option Types) → ((g : Types) → o ≡ Some g → types_assignable set after g ≡ true) → fits_given set after o ≡ true
  fits_from after None k = refl
  fits_from after (Some x) k = k x refl

  frame_fits : (after : Types) (to : ℕ) → starts m to ≡ true → frame_fault set m after to ≡ None → (g : Types) → given_at m to ≡ Some g → types_assignable set after g ≡ true
  frame_fits after to s e = given_fits after (given_at m to) (or_right (starts m to) (fits_given set after (given_at m to)) s (unless_none (not (starts m to) || fits_given set after (given_at m to)) WrongFrame e))

  no_frame_fault : (after : Types) (to : ℕ) → ((g : Types) → given_at m to ≡ Some g → types_assignable set after g ≡ true) → frame_fault set m after to ≡ None
  no_frame_fault after to k = unless_true (not (starts m to) || fits_given set after (given_at m to)) WrongFrame (or_of (starts m to) (fits_given set after (given_at m to)) (λ s. fits_from after (given_at m to) k))

  -- ---- the frame before an instruction
  enters_given : (o : Option Types) (b : Bool) (t : Types) → entering o b None ≡ Some t → has o ≡ true
  enters_given None true t e = absurd (none_types t e)
  enters_given None false t e = absurd (none_types t e)
  enters_given (Some g) b t e = refl

  enters_framed : (o : Option Types) (b : Bool) (flow : Option Types) (t : Types) → entering o b flow ≡ Some t → b ≡ true → has o ≡ true
  enters_framed None true flow t e h = absurd (none_types t e)
  enters_framed None false flow t e h = absurd cc
  enters_framed (Some g) b flow t e h = refl

  enters_carried : (o : Option Types) (b : Bool) (after t : Types) → entering o b (Some after) ≡ Some t → o ≡ None → t ≡ after
  enters_carried None true after t e h = absurd (none_types t e)
  enters_carried None false after t e h = sym (some_types after t e)
  enters_carried (Some g) b after t e h = absurd (none_types g (sym h))

  abbrev before_or : Option Types → Types → Types
  before_or (Some g) x = g
  before_or None x = x

  before_of : (o : Option Types) (b : Bool) (flow : Option Types) (t x : Types) → entering o b flow ≡ Some t → x ≡ or_none (entering o b flow) → before_or o x ≡ t
  before_of (Some g) b flow t x e h = some_types g t e
  before_of None b flow t x e h = h ∙ ap or_none e

  before_given : (o : Option Types) (x g : Types) → o ≡ Some g → before_or o x ≡ g
  before_given (Some y) x g e = some_types y g e
  before_given None x g e = absurd (none_types g e)

  abbrev left : ℕ → Instr → Option Types → Option Types
  left pc i (Some t) = left_by set c m pc i t
  left pc i None = None

  -- ---- no fault, so typed

  -- the types before the instruction so many bytes on
  unfoldable types_at : List Instr → ℕ → Option Types → ℕ → Types
  types_at [] pc flow q = none
  types_at (i ∷ is) pc flow q =
      cond (eqb q 0) (or_none (entering_at m pc flow)) (types_at is (pc + length_of i) (left pc i (entering_at m pc flow)) (q - length_of i))

  at_start : (i : Instr) (is : List Instr) (pc : ℕ) (flow : Option Types) → types_at (i ∷ is) pc flow 0 ≡ or_none (entering_at m pc flow)
  unfolding types_at
  at_start i is pc flow = refl

  past : (i : Instr) (is : List Instr) (pc : ℕ) (flow : Option Types) (q : ℕ) → types_at (i ∷ is) pc flow (length_of i + q) ≡ types_at is (pc + length_of i) (left pc i (entering_at m pc flow)) q
  unfolding types_at
  past i is pc flow q =
      let p : 0 < length_of i = positive i in
      let no : eqb (length_of i + q) 0 ≡ false = not_zero (length_of i + q) (omega arith) in
      let back : length_of i + q - length_of i ≡ q = omega arith in
      ap (λ (b : Bool). cond b (or_none (entering_at m pc flow)) (types_at is (pc + length_of i) (left pc i (entering_at m pc flow)) (length_of i + q - length_of i))) no
      ∙ ap (λ (n : ℕ). types_at is (pc + length_of i) (left pc i (entering_at m pc flow)) n) back

  abbrev raw : ℕ → Types
  raw q = types_at m.code 0 (Some (first_types c m)) q

  abbrev before : ℕ → Types
  before pc = before_or (given_at m pc) (raw pc)

  record Tail (is : List Instr) (pc : ℕ) (flow : Option Types) : Type 0 where
    code : (q : ℕ) → instr_at m.code (pc + q) ≡ instr_at is q
    types : (q : ℕ) → raw (pc + q) ≡ types_at is pc flow q

  next_tail : (i : Instr) (is : List Instr) (pc : ℕ) (flow : Option Types) → Tail (i ∷ is) pc flow → Tail is (pc + length_of i) (left pc i (entering_at m pc flow))
  next_tail i is pc flow t = record {
    code = λ q. let e : pc + length_of i + q ≡ pc + (length_of i + q) = omega arith in ap (instr_at m.code) e ∙ t.code (length_of i + q) ∙ instr_past i is q;
    types = λ q. let e : pc + length_of i + q ≡ pc + (length_of i + q) = omega arith in ap raw e ∙ t.types (length_of i + q) ∙ past i is pc flow q;
  }

  record Clean (i : Instr) (is : List Instr) (pc : ℕ) (flow : Option Types) : Type 0 where
    t : Types
    enters_is : entering_at m pc flow ≡ Some t
    no_code : fault_of set c m pc i t ≡ None
    rest : scan set c m is (pc + length_of i) (left_by set c m pc i t) ≡ None

  abbrev NoFault : Option PlaceFault → Type 0
  NoFault o = o ≡ None

  some_fault : (p : PlaceFault) → (let o : Option PlaceFault = Some p in o) ≢ None
  some_fault p e = cc

  abbrev after_code : (i : Instr) (is : List Instr) (pc : ℕ) (t : Types) → Option VerifyCode → Option PlaceFault
  after_code i is pc t o = elim o [ Some code ↦ Some (record { at = pc; code = code }) | None ↦ scan set c m is (pc + length_of i) (left_by set c m pc i t) ]

  abbrev after_enter : (i : Instr) (is : List Instr) (pc : ℕ) → Option Types → Option PlaceFault
  after_enter i is pc o = elim o [ None ↦ Some (record { at = pc; code = MissingFrame }) | Some t ↦ after_code i is pc t (fault_of set c m pc i t) ]

  clean_in : (i : Instr) (is : List Instr) (pc : ℕ) (flow : Option Types) (t : Types) (o : Option VerifyCode) → entering_at m pc flow ≡ Some t → fault_of set c m pc i t ≡ o → NoFault (after_code i is pc t o) → Clean i is pc flow
  clean_in i is pc flow t (Some code) e h f = absurd (some_fault (record { at = pc; code = code }) f)
  clean_in i is pc flow t None e h f = record { t = t; enters_is = e; no_code = h; rest = f }

  clean_of : (i : Instr) (is : List Instr) (pc : ℕ) (flow o : Option Types) → entering_at m pc flow ≡ o → NoFault (after_enter i is pc o) → Clean i is pc flow
  clean_of i is pc flow None e f = absurd (some_fault (record { at = pc; code = MissingFrame }) f)
  clean_of i is pc flow (Some t) e f = clean_in i is pc flow t (fault_of set c m pc i t) e refl f

  clean : (i : Instr) (is : List Instr) (pc : ℕ) (flow : Option Types) → scan set c m (i ∷ is) pc flow ≡ None → Clean i is pc flow
  unfolding scan
  clean i is pc flow f = clean_of i is pc flow (entering_at m pc flow) refl f

  -- the types at the start of a rest that is not empty
  record Head (pc : ℕ) (flow : Option Types) : Type 0 where
    t : Types
    enters_is : entering_at m pc flow ≡ Some t
    before_is : before pc ≡ t

  head : (is : List Instr) (pc : ℕ) (flow : Option Types) → Tail is pc flow → scan set c m is pc flow ≡ None → starts m pc ≡ true → Head pc flow
  head [] pc flow tail f s =
      let i = an_instruction m pc s in
      let z : pc + 0 ≡ pc = omega arith in
      absurd (nothing_at 0 i.i (sym (tail.code 0) ∙ ap (instr_at m.code) z ∙ i.is))
  head (j ∷ is) pc flow tail f s =
      let k = clean j is pc flow f in
      let z : pc + 0 ≡ pc = omega arith in
      let raw_is : raw pc ≡ or_none (entering_at m pc flow) = sym (ap raw z) ∙ tail.types 0 ∙ at_start j is pc flow in
      record { t = k.t; enters_is = k.enters_is; before_is = before_of (given_at m pc) (needs_frame m pc) flow k.t (raw pc) k.enters_is raw_is }

  -- an instruction's flow without a fault
  record Flows (pc : ℕ) (r : Row) (next : ℕ) (safe : Bool) (after : Types) : Type 0 where
    jump_frame : jump_frame_fault set m after (jump_of r) ≡ None
    next_frame : next_frame_fault set m after (goes_on r) next ≡ None
    target : target_fault m (jump_of r) ≡ None
    rows : rows_fault set c m pc ≡ None
    is_safe : safe ≡ true
    falls : fall_fault m (goes_on r) next ≡ None
    makes : cannot_be_made set c r ≡ false

  flows : (pc : ℕ) (r : Row) (next : ℕ) (safe : Bool) (after : Types) → flow_fault set c m pc r next safe after ≡ None → Flows pc r next safe after
  flows pc r next safe after e =
      let last = unless (not (cannot_be_made set c r)) AbstractNew in
      let o6 = or_else (fall_fault m (goes_on r) next) last in
      let o5 = or_else (unless safe BadHandler) o6 in
      let o4 = or_else (rows_fault set c m pc) o5 in
      let o3 = or_else (target_fault m (jump_of r)) o4 in
      let o2 = or_else (next_frame_fault set m after (goes_on r) next) o3 in
      let a = both_none (jump_frame_fault set m after (jump_of r)) o2 e in
      let b = both_none (next_frame_fault set m after (goes_on r) next) o3 a.1 in
      let d = both_none (target_fault m (jump_of r)) o4 b.1 in
      let f = both_none (rows_fault set c m pc) o5 d.1 in
      let g = both_none (unless safe BadHandler) o6 f.1 in
      let h = both_none (fall_fault m (goes_on r) next) last g.1 in
      record {
        jump_frame = a.0;
        next_frame = b.0;
        target = d.0;
        rows = f.0;
        is_safe = unless_none safe BadHandler g.0;
        falls = h.0;
        makes = not_not (cannot_be_made set c r) (unless_none (not (cannot_be_made set c r)) AbstractNew h.1);
      }

  flow_from : (pc : ℕ) (r : Row) (next : ℕ) (safe : Bool) (after : Types) → Flows pc r next safe after → flow_fault set c m pc r next safe after ≡ None
  flow_from pc r next safe after f =
      let last = unless (not (cannot_be_made set c r)) AbstractNew in
      let o6 = or_else (fall_fault m (goes_on r) next) last in
      let o5 = or_else (unless safe BadHandler) o6 in
      let o4 = or_else (rows_fault set c m pc) o5 in
      let o3 = or_else (target_fault m (jump_of r)) o4 in
      let o2 = or_else (next_frame_fault set m after (goes_on r) next) o3 in
      from_both (jump_frame_fault set m after (jump_of r)) o2 f.jump_frame
      (from_both (next_frame_fault set m after (goes_on r) next) o3 f.next_frame
      (from_both (target_fault m (jump_of r)) o4 f.target
      (from_both (rows_fault set c m pc) o5 f.rows
      (from_both (unless safe BadHandler) o6 (unless_true safe BadHandler f.is_safe)
      (from_both (fall_fault m (goes_on r) next) last f.falls
      (unless_true (not (cannot_be_made set c r)) AbstractNew (ap not f.makes)))))))

  -- an instruction without a fault
  record Steps (pc : ℕ) (i : Instr) (t : Types) : Type 0 where
    start : start_fault set c m pc ≡ None
    after : Types
    is : stepped set c m pc (row_of pc i) t ≡ Ok after
    flow : Flows pc (row_of pc i) (pc + length_of i) (all_caught set c m pc t m.handlers) after

  steps_by : (pc : ℕ) (i : Instr) (t : Types) (v : Result Types VerifyCode) → stepped set c m pc (row_of pc i) t ≡ v → start_fault set c m pc ≡ None → verdict_fault set c m pc (row_of pc i) (pc + length_of i) (all_caught set c m pc t m.handlers) v ≡ None → Steps pc i t
  steps_by pc i t (Err code) e s f = absurd (some_code code f)
  steps_by pc i t (Ok after) e s f = record { start = s; after = after; is = e; flow = flows pc (row_of pc i) (pc + length_of i) (all_caught set c m pc t m.handlers) after f }

  steps : (pc : ℕ) (i : Instr) (t : Types) → fault_of set c m pc i t ≡ None → Steps pc i t
  steps pc i t f =
      let b = both_none (start_fault set c m pc) (verdict_fault set c m pc (row_of pc i) (pc + length_of i) (all_caught set c m pc t m.handlers) (stepped set c m pc (row_of pc i) t)) f in
      steps_by pc i t (stepped set c m pc (row_of pc i) t) refl b.0 b.1

  -- a jump
  jump_enters : (after : Types) (j : Option ℕ) (to : ℕ) → j ≡ Some to → jump_frame_fault set m after j ≡ None → target_fault m j ≡ None → (given_at m to ≡ None → before to ≡ after) → Enters set m before after to
  jump_enters after None to e f g k = absurd cc
  jump_enters after (Some n) to e f g k =
      let same : n ≡ to = cc in
      let s : starts m to ≡ true = ap (starts m) (sym same) ∙ unless_none (starts m n) BadTarget g in
      record { start = s; given = frame_fits after to s (ap (frame_fault set m after) (sym same) ∙ f); carried = k }

  next_enters : (after : Types) (g : Bool) (to : ℕ) → g ≡ true → next_frame_fault set m after g to ≡ None → fall_fault m g to ≡ None → (starts m to ≡ true → given_at m to ≡ None → before to ≡ after) → Enters set m before after to
  next_enters after false to e f h k = absurd cc
  next_enters after true to e f h k =
      let s = unless_none (starts m to) FallsOff h in
      record { start = s; given = frame_fits after to s f; carried = k s }

  -- a target needs a frame
  target_here : (is : List Instr) (pc q : ℕ) (i : Instr) (to : ℕ) → instr_at is q ≡ Some i → jump_of (row_of (pc + q) i) ≡ Some to → is_target pc is to ≡ true
  target_here [] pc q i to e j = absurd (nothing_at q i e)
  target_here (i0 ∷ is) pc q i to e j =
      elim (found_at i0 i is q e) [
        | Here z same ↦
            let here : pc + q ≡ pc = omega arith in
            let jump : jump_of (row_of pc i0) ≡ Some to = ap (λ (x : Instr). jump_of (row_of pc x)) same ∙ ap (λ (n : ℕ). jump_of (row_of n i)) (sym here) ∙ j in
            ap (λ (o : Option ℕ). is_place o to || is_target (pc + length_of i0) is to) jump ∙ ap (λ (b : Bool). b || is_target (pc + length_of i0) is to) (same_eqb to)
        | Later le e1 ↦
            let there : pc + length_of i0 + (q - length_of i0) ≡ pc + q = omega arith in
            or_true (is_place (jump_of (row_of pc i0)) to) (is_target (pc + length_of i0) is to) (target_here is (pc + length_of i0) (q - length_of i0) i to e1 (ap (λ (n : ℕ). jump_of (row_of n i)) there ∙ j))
      ]

  framed_in : (is : List Instr) (pc : ℕ) (flow : Option Types) → scan set c m is pc flow ≡ None → (q : ℕ) (i : Instr) → instr_at is q ≡ Some i → needs_frame m (pc + q) ≡ true → has (given_at m (pc + q)) ≡ true
  framed_in [] pc flow f q i e h = absurd (nothing_at q i e)
  framed_in (i0 ∷ is) pc flow f q i e h =
      let k = clean i0 is pc flow f in
      elim (found_at i0 i is q e) [
        | Here z same ↦
            let here : pc + q ≡ pc = omega arith in
            ap (λ (n : ℕ). has (given_at m n)) here ∙ enters_framed (given_at m pc) (needs_frame m pc) flow k.t k.enters_is (ap (needs_frame m) (sym here) ∙ h)
        | Later le e1 ↦
            let there : pc + length_of i0 + (q - length_of i0) ≡ pc + q = omega arith in
            ap (λ (n : ℕ). has (given_at m n)) (sym there) ∙ framed_in is (pc + length_of i0) (left_by set c m pc i0 k.t) k.rest (q - length_of i0) i e1 (ap (needs_frame m) there ∙ h)
      ]

  framed : scan set c m m.code 0 (Some (first_types c m)) ≡ None → (pc : ℕ) → starts m pc ≡ true → needs_frame m pc ≡ true → has (given_at m pc) ≡ true
  framed f pc s h =
      let i = an_instruction m pc s in
      let z : 0 + pc ≡ pc = omega arith in
      ap (λ (n : ℕ). has (given_at m n)) (sym z) ∙ framed_in m.code 0 (Some (first_types c m)) f pc i.i i.is (ap (needs_frame m) z ∙ h)

  no_has : (o : Option Types) → o ≡ None → has o ≡ true → ⊥
  no_has None e h = cc
  no_has (Some g) e h = none_types g (sym e)

  leaves_on : (b : Bool) (after : Types) → b ≡ true → leaves b (Ok after) ≡ Some after
  leaves_on true after e = refl
  leaves_on false after e = absurd cc

  leaves_off : (b : Bool) (after : Types) → b ≡ false → leaves b (Ok after) ≡ None
  leaves_off false after e = refl
  leaves_off true after e = absurd cc

  module _ (whole : scan set c m m.code 0 (Some (first_types c m)) ≡ None) where
    one_ok : (is : List Instr) (pc : ℕ) (i : Instr) (flow : Option Types) (t : Types) → instr_at m.code pc ≡ Some i → entering_at m pc flow ≡ Some t → before pc ≡ t → fault_of set c m pc i t ≡ None
        → Tail is (pc + length_of i) (left_by set c m pc i t) → scan set c m is (pc + length_of i) (left_by set c m pc i t) ≡ None → Passes set c m before pc i
    one_ok is pc i flow t here enters b f tail rest =
        let s = steps pc i t f in
        let next = pc + length_of i in
        let r = row_of pc i in
        let left_is : left_by set c m pc i t ≡ leaves (goes_on r) (Ok s.after) = ap (leaves (goes_on r)) s.is in
        record {
          framed = λ h. enters_framed (given_at m pc) (needs_frame m pc) flow t enters h;
          after = s.after;
          is = ap (stepped set c m pc r) b ∙ s.is;
          jumps = λ to j. jump_enters s.after (jump_of r) to j s.flow.jump_frame s.flow.target
              (λ g. absurd (no_has (given_at m to) g (framed whole to (starts_jump to j s.flow.target) (or_left (is_target 0 m.code to) (is_handler m.handlers to) (target_here m.code 0 pc i to here (ap (λ (n : ℕ). jump_of (row_of n i)) zero_plus ∙ j))))));
          goes = λ g. next_enters s.after (goes_on r) next g s.flow.next_frame s.flow.falls
              (λ st none_given.
              let out : left_by set c m pc i t ≡ Some s.after = left_is ∙ leaves_on (goes_on r) s.after g in
              let h = head is next (left_by set c m pc i t) tail rest st in
              h.before_is ∙ enters_carried (given_at m next) (needs_frame m next) s.after h.t (ap (λ (o : Option Types). entering_at m next o) (sym out) ∙ h.enters_is) none_given);
          stops = λ g st.
              let out : left_by set c m pc i t ≡ None = left_is ∙ leaves_off (goes_on r) s.after g in
              let h = head is next (left_by set c m pc i t) tail rest st in
              enters_given (given_at m next) (needs_frame m next) h.t (ap (λ (o : Option Types). entering_at m next o) (sym out) ∙ h.enters_is);
          caught = caught_all pc t (before pc) m.handlers (sym b) s.flow.is_safe;
          makes = s.flow.makes;
        }
      where
        zero_plus : {pc : ℕ} → 0 + pc ≡ pc
        zero_plus = omega arith

        starts_jump : {o : Option ℕ} (to : ℕ) → o ≡ Some to → target_fault m o ≡ None → starts m to ≡ true
        starts_jump {o} to j e = by o j e
          where
            by : (o : Option ℕ) → o ≡ Some to → target_fault m o ≡ None → starts m to ≡ true
            by None j e = absurd cc
            by (Some n) j e = let same : n ≡ to = cc in ap (starts m) (sym same) ∙ unless_none (starts m n) BadTarget e

    all_ok : (is : List Instr) (pc : ℕ) (flow : Option Types) → Tail is pc flow → scan set c m is pc flow ≡ None → (q : ℕ) (i : Instr) → instr_at is q ≡ Some i → Passes set c m before (pc + q) i
    all_ok [] pc flow tail f q i e = absurd (nothing_at q i e)
    all_ok (i0 ∷ is) pc flow tail f q i e =
        let k = clean i0 is pc flow f in
        let out : left pc i0 (entering_at m pc flow) ≡ left_by set c m pc i0 k.t = ap (left pc i0) k.enters_is in
        let next : Tail is (pc + length_of i0) (left_by set c m pc i0 k.t) = subst (λ (o : Option Types). Tail is (pc + length_of i0) o) out (next_tail i0 is pc flow tail) in
        elim (found_at i0 i is q e) [
          | Here z same ↦
              let here : pc ≡ pc + q = omega arith in
              let z0 : pc + 0 ≡ pc = omega arith in
              let at : instr_at m.code pc ≡ Some i0 = ap (instr_at m.code) (sym z0) ∙ tail.code 0 ∙ first_at i0 is in
              let h = head (i0 ∷ is) pc flow tail f (ap has at) in
              let same_t : h.t ≡ k.t = some_types h.t k.t (sym h.enters_is ∙ k.enters_is) in
              let ok = one_ok is pc i0 flow k.t at k.enters_is (h.before_is ∙ same_t) k.no_code next k.rest in
              subst (λ (n : ℕ). Passes set c m before n i) here (subst (λ (j : Instr). Passes set c m before pc j) same ok)
          | Later le e1 ↦
              let there : pc + length_of i0 + (q - length_of i0) ≡ pc + q = omega arith in
              subst (λ (n : ℕ). Passes set c m before n i) there (all_ok is (pc + length_of i0) (left_by set c m pc i0 k.t) next k.rest (q - length_of i0) i e1)
        ]

    whole_tail : Tail m.code 0 (Some (first_types c m))
    whole_tail = record {
      code = λ q. let e : 0 + q ≡ q = omega arith in ap (instr_at m.code) e;
      types = λ q. let e : 0 + q ≡ q = omega arith in ap raw e;
    }

    begins_by : (is : List Instr) → m.code ≡ is → starts m 0 ≡ true → Begins set c m before
    begins_by [] e s = let i = an_instruction m 0 s in absurd (nothing_at 0 i.i (ap (λ (is : List Instr). instr_at is 0) (sym e) ∙ i.is))
    begins_by (i ∷ is) e s =
        let k = clean i is 0 (Some (first_types c m)) (ap (λ (is : List Instr). scan set c m is 0 (Some (first_types c m))) (sym e) ∙ whole) in
        let st = steps 0 i k.t k.no_code in
        let h = head m.code 0 (Some (first_types c m)) whole_tail whole s in
        record {
          enters = record {
            start = s;
            given = frame_fits (first_types c m) 0 s st.start;
            carried = λ g. h.before_is ∙ enters_carried (given_at m 0) (needs_frame m 0) (first_types c m) h.t h.enters_is g;
          };
          rows = rows_all m.handlers (unless_none (all_rows set c m m.handlers) BadHandler st.flow.rows);
        }

    is_typed : IsTyped set c m before
    is_typed = record {
      given = λ pc g e. before_given (given_at m pc) (raw pc) g e;
      begins = begins_by m.code refl;
      each = λ pc i e. let z : 0 + pc ≡ pc = omega arith in subst (λ (n : ℕ). Passes set c m before n i) z (all_ok m.code 0 (Some (first_types c m)) whole_tail whole pc i e);
    }

  pub method_verifies : method_fault set c m ≡ None → MethodVerifies set c m
  method_verifies f = record { before = before; typed = is_typed f }

  -- ---- typed, so no fault
  module _ (known : ℕ → Types) (typed : IsTyped set c m known) where
    no_jump_frame : (pc : ℕ) (i : Instr) (p : Passes set c m known pc i) (j : Option ℕ) → jump_of (row_of pc i) ≡ j → jump_frame_fault set m p.after j ≡ None
    no_jump_frame pc i p None e = refl
    no_jump_frame pc i p (Some to) e = no_frame_fault p.after to ((p.jumps to e).given)

    no_target : (pc : ℕ) (i : Instr) (p : Passes set c m known pc i) (j : Option ℕ) → jump_of (row_of pc i) ≡ j → target_fault m j ≡ None
    no_target pc i p None e = refl
    no_target pc i p (Some to) e = unless_true (starts m to) BadTarget ((p.jumps to e).start)

    no_next_frame : (pc : ℕ) (i : Instr) (p : Passes set c m known pc i) (g : Bool) → goes_on (row_of pc i) ≡ g → next_frame_fault set m p.after g (pc + length_of i) ≡ None
    no_next_frame pc i p true e = no_frame_fault p.after (pc + length_of i) ((p.goes e).given)
    no_next_frame pc i p false e = refl

    no_fall : (pc : ℕ) (i : Instr) (p : Passes set c m known pc i) (g : Bool) → goes_on (row_of pc i) ≡ g → fall_fault m g (pc + length_of i) ≡ None
    no_fall pc i p true e = unless_true (starts m (pc + length_of i)) FallsOff ((p.goes e).start)
    no_fall pc i p false e = refl

    begun : (pc : ℕ) → starts m pc ≡ true → pc ≡ 0 → Begins set c m known
    begun pc s z = typed.begins (ap (starts m) (sym z) ∙ s)

    no_rows : (pc : ℕ) → starts m pc ≡ true → rows_fault set c m pc ≡ None
    no_rows pc s = by (eqb pc 0) refl
      where
        by : (b : Bool) → eqb pc 0 ≡ b → cond b (unless (all_rows set c m m.handlers) BadHandler) None ≡ None
        by true e = unless_true (all_rows set c m m.handlers) BadHandler (all_rows_from m.handlers (begun pc s (eqb-true pc 0 e)).rows)
        by false e = refl

    no_start : (pc : ℕ) → starts m pc ≡ true → start_fault set c m pc ≡ None
    no_start pc s = by (eqb pc 0) refl
      where
        by : (b : Bool) → eqb pc 0 ≡ b → cond b (frame_fault set m (first_types c m) 0) None ≡ None
        by true e = no_frame_fault (first_types c m) 0 ((begun pc s (eqb-true pc 0 e)).enters.given)
        by false e = refl

    no_code : (pc : ℕ) (i : Instr) → instr_at m.code pc ≡ Some i → Passes set c m known pc i → fault_of set c m pc i (known pc) ≡ None
    no_code pc i e p =
        let r = row_of pc i in
        let next = pc + length_of i in
        let s : starts m pc ≡ true = ap has e in
        let safe = all_caught set c m pc (known pc) m.handlers in
        from_both (start_fault set c m pc) (verdict_fault set c m pc r next safe (stepped set c m pc r (known pc))) (no_start pc s)
        (ap (verdict_fault set c m pc r next safe) p.is ∙ flow_from pc r next safe p.after (record {
          jump_frame = no_jump_frame pc i p (jump_of r) refl;
          next_frame = no_next_frame pc i p (goes_on r) refl;
          target = no_target pc i p (jump_of r) refl;
          rows = no_rows pc s;
          is_safe = all_caught_from pc (known pc) m.handlers p.caught;
          falls = no_fall pc i p (goes_on r) refl;
          makes = p.makes;
        }))

    -- the frame before the next instruction
    enters_next : (pc next : ℕ) (o : Option Types) (b : Bool) (flow : Option Types) → ((g : Types) → o ≡ Some g → known next ≡ g) → (b ≡ true → has o ≡ true) → (o ≡ None → flow ≡ Some (known next)) → entering o b flow ≡ Some (known next)
    enters_next pc next (Some g) b flow k f h = ap (λ (t : Types). Some t) (sym (k g refl))
    enters_next pc next None true flow k f h = absurd (let e = f refl in cc)
    enters_next pc next None false flow k f h = h refl

    flow_next : (pc : ℕ) (i j : Instr) (p : Passes set c m known pc i) → instr_at m.code (pc + length_of i) ≡ Some j → (g : Bool) → goes_on (row_of pc i) ≡ g → given_at m (pc + length_of i) ≡ None → leaves g (Ok p.after) ≡ Some (known (pc + length_of i))
    flow_next pc i j p e true h none_given = ap (λ (t : Types). Some t) (sym ((p.goes h).carried none_given))
    flow_next pc i j p e false h none_given = absurd (no_has (given_at m (pc + length_of i)) none_given (p.stops h (ap has e)))

    abbrev Onward : List Instr → ℕ → Option Types → Type 0
    Onward [] pc flow = Unit {0}
    Onward (i ∷ is) pc flow = entering_at m pc flow ≡ Some (known pc)

    record CodeTail (is : List Instr) (pc : ℕ) : Type 0 where
      code : (q : ℕ) → instr_at m.code (pc + q) ≡ instr_at is q

    at_pc : (i : Instr) (is : List Instr) (pc : ℕ) → CodeTail (i ∷ is) pc → instr_at m.code pc ≡ Some i
    at_pc i is pc t = let z : pc + 0 ≡ pc = omega arith in ap (instr_at m.code) (sym z) ∙ t.code 0 ∙ first_at i is

    next_code : (i : Instr) (is : List Instr) (pc : ℕ) → CodeTail (i ∷ is) pc → CodeTail is (pc + length_of i)
    next_code i is pc t = record { code = λ q. let e : pc + length_of i + q ≡ pc + (length_of i + q) = omega arith in ap (instr_at m.code) e ∙ t.code (length_of i + q) ∙ instr_past i is q }

    onward : (i : Instr) (is : List Instr) (pc : ℕ) → instr_at m.code pc ≡ Some i → CodeTail is (pc + length_of i) → Onward is (pc + length_of i) (left_by set c m pc i (known pc))
    onward i [] pc e t = tt
    onward i (j ∷ is) pc e t =
        let p = typed.each pc i e in
        let next = pc + length_of i in
        let at = at_pc j is next t in
        let q = typed.each next j at in
        let left_is : left_by set c m pc i (known pc) ≡ leaves (goes_on (row_of pc i)) (Ok p.after) = ap (leaves (goes_on (row_of pc i))) p.is in
        enters_next pc next (given_at m next) (needs_frame m next) (left_by set c m pc i (known pc)) (typed.given next) q.framed (λ g. left_is ∙ flow_next pc i j p at (goes_on (row_of pc i)) refl g)

    scan_none : (is : List Instr) (pc : ℕ) (flow : Option Types) → CodeTail is pc → Onward is pc flow → scan set c m is pc flow ≡ None
    unfolding scan
    scan_none [] pc flow t o = refl
    scan_none (i ∷ is) pc flow t o =
        let e = at_pc i is pc t in
        let next = next_code i is pc t in
        ap (after_enter i is pc) o ∙ ap (after_code i is pc (known pc)) (no_code pc i e (typed.each pc i e))
        ∙ scan_none is (pc + length_of i) (left_by set c m pc i (known pc)) next (onward i is pc e next)

    first_onward : (is : List Instr) → m.code ≡ is → Onward is 0 (Some (first_types c m))
    first_onward [] e = tt
    first_onward (i ∷ is) e =
        let at : instr_at m.code 0 ≡ Some i = ap (λ (is : List Instr). instr_at is 0) e ∙ first_at i is in
        let b = typed.begins (ap has at) in
        enters_next 0 0 (given_at m 0) (needs_frame m 0) (Some (first_types c m)) (typed.given 0) ((typed.each 0 i at).framed) (λ g. ap (λ (t : Types). Some t) (sym (b.enters.carried g)))

    no_method_fault : method_fault set c m ≡ None
    no_method_fault = scan_none m.code 0 (Some (first_types c m)) (record { code = λ q. let e : 0 + q ≡ q = omega arith in ap (instr_at m.code) e }) (first_onward m.code refl)

  pub method_clean : MethodVerifies set c m → method_fault set c m ≡ None
  method_clean v = no_method_fault v.before v.typed

-- ---- methods and classes
abbrev IsClean : Option VerifyFault → Type 0
IsClean o = o ≡ None

some_method : (x y : Method) → (let o : Option Method = Some x in o) ≡ Some y → x ≡ y
some_method x y e = cc

no_method : (y : Method) → (let o : Option Method = None in o) ≡ Some y → ⊥
no_method y e = cc

some_class : (x y : ClassFile) → (let o : Option ClassFile = Some x in o) ≡ Some y → x ≡ y
some_class x y e = cc

no_class : (y : ClassFile) → (let o : Option ClassFile = None in o) ≡ Some y → ⊥
no_class y e = cc

module _ (set : Set) where
  abbrev fault_then : ℕ → ClassFile → ℕ → List Method → Option PlaceFault → Option VerifyFault
  fault_then class c n ms o = elim o [ Some p ↦ Some (fault_in class n p) | None ↦ methods_fault set class c (n + 1) ms ]

  record Passed (class : ℕ) (c : ClassFile) (n : ℕ) (m : Method) (ms : List Method) : Type 0 where
    this : method_fault set c m ≡ None
    rest : methods_fault set class c (n + 1) ms ≡ None

  passed : (class : ℕ) (c : ClassFile) (n : ℕ) (m : Method) (ms : List Method) (o : Option PlaceFault) → method_fault set c m ≡ o → IsClean (fault_then class c n ms o) → Passed class c n m ms
  passed class c n m ms None e h = record { this = e; rest = h }
  passed class c n m ms (Some p) e h = absurd cc

  clean_methods : (class : ℕ) (c : ClassFile) (n : ℕ) (ms : List Method) (k : ℕ) (m : Method) → methods_fault set class c n ms ≡ None → slice_get ms k ≡ Some m → method_fault set c m ≡ None
  clean_methods class c n [] k m h e = absurd (no_method m e)
  clean_methods class c n (m0 ∷ ms) zero m h e = let p = passed class c n m0 ms (method_fault set c m0) refl h in ap (method_fault set c) (sym (some_method m0 m e)) ∙ p.this
  clean_methods class c n (m0 ∷ ms) (suc k) m h e = let p = passed class c n m0 ms (method_fault set c m0) refl h in clean_methods class c (n + 1) ms k m p.rest e

  methods_clean : (class : ℕ) (c : ClassFile) (n : ℕ) (ms : List Method) → ((k : ℕ) (m : Method) → slice_get ms k ≡ Some m → method_fault set c m ≡ None) → methods_fault set class c n ms ≡ None
  methods_clean class c n [] h = refl
  methods_clean class c n (m ∷ ms) h = ap (fault_then class c n ms) (h 0 m refl) ∙ methods_clean class c (n + 1) ms (λ k x e. h (suc k) x e)

  abbrev class_then : ℕ → List ClassFile → Option VerifyFault → Option VerifyFault
  class_then n cs o = elim o [ Some f ↦ Some f | None ↦ classes_fault set (n + 1) cs ]

  record ClassPassed (n : ℕ) (c : ClassFile) (cs : List ClassFile) : Type 0 where
    this : methods_fault set n c 0 c.methods ≡ None
    rest : classes_fault set (n + 1) cs ≡ None

  class_passed : (n : ℕ) (c : ClassFile) (cs : List ClassFile) (o : Option VerifyFault) → methods_fault set n c 0 c.methods ≡ o → IsClean (class_then n cs o) → ClassPassed n c cs
  class_passed n c cs None e h = record { this = e; rest = h }
  class_passed n c cs (Some f) e h = absurd cc

  record CleanClass (c : ClassFile) : Type 0 where
    class : ℕ
    clean : methods_fault set class c 0 c.methods ≡ None

  clean_classes : (n : ℕ) (cs : List ClassFile) (k : ℕ) (c : ClassFile) → classes_fault set n cs ≡ None → slice_get cs k ≡ Some c → CleanClass c
  clean_classes n [] k c h e = absurd (no_class c e)
  clean_classes n (c0 ∷ cs) zero c h e = let p = class_passed n c0 cs (methods_fault set n c0 0 c0.methods) refl h in subst (λ (x : ClassFile). CleanClass x) (some_class c0 c e) (record { class = n; clean = p.this })
  clean_classes n (c0 ∷ cs) (suc k) c h e = let p = class_passed n c0 cs (methods_fault set n c0 0 c0.methods) refl h in clean_classes (n + 1) cs k c p.rest e

  classes_clean : (n : ℕ) (cs : List ClassFile) → ((k : ℕ) (c : ClassFile) → slice_get cs k ≡ Some c → (class : ℕ) → methods_fault set class c 0 c.methods ≡ None) → classes_fault set n cs ≡ None
  classes_clean n [] h = refl
  classes_clean n (c ∷ cs) h = ap (class_then n cs) (h 0 c refl n) ∙ classes_clean (n + 1) cs (λ k x e. h (suc k) x e)

  pub verifies : first_fault set ≡ None → Verifies set
  unfolding first_fault
  verifies h = record {
    methods = λ class c method m e k.
        let p = clean_classes 0 set.classes class c h e in
        method_verifies set c m (clean_methods p.class c 0 c.methods method m p.clean k);
  }

  pub is_clean : Verifies set → first_fault set ≡ None
  unfolding first_fault
  is_clean v = classes_clean 0 set.classes (λ class c e number. methods_clean number c 0 c.methods (λ method m k. method_clean set c m (v.methods class c method m e k)))
