-- What is thrown comes to a handler whose frame it fits, or ends the run.
use Rattle.std.proofs.Common.{◌≡◌, ℕ, zero, suc, Bool, true, false, List, [], ◌∷◌, ◌++◌, length, Option, Some, None, refl, sym, subst, eqb, eq-eqb}
use Rattle.std.specs.Prelude.{slice_get, ◌&&◌, ◌||◌, not, nat_lt, nat_le, codes}
use Rattle.std.specs.List.{find}
use Rattle.class_file.specs.declared.value.Value.{Value}
use Rattle.class_file.specs.declared.value.Value.TheVariants as value
use Rattle.class_file.specs.declared.value.BuiltIn.{BuiltIn}
use Rattle.class_file.specs.declared.class.VType.{VType}
use Rattle.class_file.specs.declared.class.VType.TheVariants as vtype
use Rattle.class_file.specs.declared.class.ClassFile.{ClassFile}
use Rattle.class_file.specs.declared.class.Handler.{Handler}
use Rattle.class_file.specs.declared.class.Method.{Method}
use Rattle.class_file.specs.declared.class.Set.{Set}
use Rattle.class_file.specs.declared.instr.Instr.{Instr}
use Rattle.class_file.specs.Rows.{instr_at}
use Rattle.class_file.specs.Classes.{exception_number}
use Rattle.class_file.specs.Natives.{Object}
use Rattle.class_file.specs.Machine.{Active, State, Next, goes_on, handlers_of, handler, catches, class_pool, unwound, thrown, with_exception, exception_reference, exception_objects, exception_fields, message}
use Rattle.class_file.specs.Members.{reference_below}
use Rattle.class_file.specs.Typing.{Types, types_assignable}
use Rattle.class_file.specs.Verification.{Verifies, IsTyped, EachRow, given_at, starts, has, is_handler, is_target, needs_frame, covers, caught, is_throwable, is_good_row, is_caught, fits_handler, thrown_types}
use Rattle.class_soundness.specs.Soundness.{IsLoaded}
use Rattle.class_soundness.proofs.Tests.{both_true}
use Rattle.class_soundness.proofs.Found.{Finds, finds}
use Rattle.class_soundness.proofs.Chains.{thrown_no_text, or_right}
use Rattle.class_soundness.proofs.Fits.{Fits, Fits-assign, grows_by}
use Rattle.class_soundness.proofs.Stores.{Stored, stored_grows}
use Rattle.class_soundness.proofs.Frames.{Fine, Below, Runs, Placed, Starts, starting_at, before, gives, parts, below_grow, method_there}

each_at : (P : Handler → Type 0) (hs : List Handler) (k : ℕ) (h : Handler) → EachRow P hs → slice_get hs k ≡ Some h → P h
each_at P [] k h e at = absurd cc
each_at P (x ∷ hs) zero h e at = subst P (some_row x h at) e.0
  where
    some_row : (x y : Handler) → (let o : Option Handler = Some x in o) ≡ Some y → x ≡ y
    some_row x y e = cc
each_at P (x ∷ hs) (suc k) h e at = each_at P hs k h e.1 at

handler_there : (hs : List Handler) (k : ℕ) (h : Handler) → slice_get hs k ≡ Some h → is_handler hs h.at ≡ true
handler_there [] k h at = absurd cc
handler_there (x ∷ hs) zero h at = subst (λ (y : Handler). (eqb x.at y.at || is_handler hs y.at) ≡ true) (some_row x h at) (first (eqb x.at x.at) (is_handler hs x.at) (eq-eqb x.at x.at refl))
  where
    some_row : (x y : Handler) → (let o : Option Handler = Some x in o) ≡ Some y → x ≡ y
    some_row x y e = cc

    first : (a b : Bool) → a ≡ true → (a || b) ≡ true
    first true b e = refl
    first false b e = absurd cc
handler_there (x ∷ hs) (suc k) h at = or_right (eqb x.at h.at) (is_handler hs h.at) (handler_there hs k h at)

begins_there : (m : Method) (at : ℕ) (i : Instr) → instr_at m.code at ≡ Some i → starts m 0 ≡ true
unfolding instr_at
begins_there m at i e = by m.code e
  where
    nothing : (i : Instr) → (let o : Option Instr = None in o) ≡ Some i → ⊥
    nothing i e = cc

    by : (is : List Instr) → instr_at is at ≡ Some i → has (instr_at is 0) ≡ true
    by [] e = absurd (nothing i e)
    by (j ∷ is) e = refl

-- what the frame of a handler takes
pub record Catches (set : Set) (t : Types) (name : Option (List ℕ)) (given : Option Types) : Type 0 where
  pub class : List ℕ
  pub class_is : name ≡ Some class
  pub throwable : reference_below set class (codes "java/lang/Throwable") ≡ true
  pub frame : Types
  pub frame_is : given ≡ Some frame
  pub fits : types_assignable set (thrown_types t class) frame ≡ true

catching : (set : Set) (t : Types) (name : Option (List ℕ)) (given : Option Types) → is_throwable set name ≡ true → has given ≡ true → fits_handler set t name given ≡ true → Catches set t name given
catching set t None given e h f = absurd cc
catching set t (Some class) None e h f = absurd cc
catching set t (Some class) (Some g) e h f = record { class = class; class_is = refl; throwable = e; frame = g; frame_is = refl; fits = f }

implied : (a b : Bool) → a ≡ true → (not a || b) ≡ true → b ≡ true
implied true b h e = e
implied false b h e = absurd cc

module _ (set : Set) (loaded : IsLoaded set) (ver : Verifies set) where
  -- a frame whose local variables are as they were before its instruction
  pub record Held (heap : List Object) (f : Active) : Type 0 where
    pub placed : Placed set loaded ver f
    pub start : Starts placed.m f.at
    pub locals : Fits set heap f.locals (before set loaded ver f placed f.at).locals

  module _ (heap : List Object) (f : Active) (held : Held heap f) (class r : ℕ) (h : Handler) where
    abbrev pub c : ClassFile
    c = held.placed.c

    abbrev pub m : Method
    m = held.placed.m

    abbrev pub typing : IsTyped set c m (before set loaded ver f held.placed)
    typing = (ver.methods f.class c f.method m held.placed.class_is held.placed.method_is).typed

    pub record Handles : Type 0 where
      pub start : Starts m h.at
      pub catches : Catches set (before set loaded ver f held.placed f.at) (caught c h) (given_at m h.at)

    handles : Finds (catches set (class_pool set f.class) class f.at) m.handlers h → Handles
    handles found =
        let good = each_at (λ x. is_good_row set c m x ≡ true) m.handlers found.place h (typing.begins (begins_there m f.at held.start.instr held.start.here)).rows found.at in
        let g1 = both_true (nat_lt h.start h.end && starts m h.start) _ good in
        let g2 = both_true _ (starts m h.at && is_throwable set (caught c h)) g1.1 in
        let g3 = both_true (starts m h.at) (is_throwable set (caught c h)) g2.1 in
        let at = starting_at m h.at g3.0 in
        let needed : needs_frame m h.at ≡ true = or_right (is_target 0 m.code h.at) (is_handler m.handlers h.at) (handler_there m.handlers found.place h found.at) in
        let framed = (typing.each h.at at.instr at.here).framed needed in
        let held_so = each_at (λ x. is_caught set c m f.at (before set loaded ver f held.placed f.at) x ≡ true) m.handlers found.place h (typing.each f.at held.start.instr held.start.here).caught found.at in
        let covered : covers h f.at ≡ true = (both_true (nat_le h.start f.at && nat_lt f.at h.end) _ found.passes).0 in
        record { start = at; catches = catching set (before set loaded ver f held.placed f.at) (caught c h) (given_at m h.at) g3.1 framed (implied (covers h f.at) _ covered held_so) }

    unfoldable pub comes_there : Handles → Runs set loaded ver heap (record f { at = h.at; stack = value.Ref r ∷ [] })
    comes_there k =
        let t = before set loaded ver f held.placed f.at in
        let p = parts set loaded ver (thrown_types t k.catches.class) k.catches.frame k.catches.fits in
        let at = typing.given h.at k.catches.frame k.catches.frame_is in
        record {
          placed = record { c = c; m = m; class_is = held.placed.class_is; method_is = held.placed.method_is; room = held.placed.room };
          start = k.start;
          locals = subst (λ (x : Types). Fits set heap f.locals x.locals) (sym at) (Fits-assign set loaded heap f.locals t.locals k.catches.frame.locals p.0 held.locals);
          stack = subst (λ (x : Types). Fits set heap (value.Ref r ∷ []) x.stack) (sym at)
              (Fits-assign set loaded heap (value.Ref r ∷ []) (vtype.Object k.catches.class ∷ []) k.catches.frame.stack p.1 ((λ e. absurd (thrown_no_text set loaded k.catches.class k.catches.throwable e)), tt));
        }

  abbrev passed_on : State → ℕ → ℕ → List Value → Active → List Active → Option Handler → Next
  passed_on s r class fields f fs o = elim o [ Some h ↦ goes_on s f fs h.at (value.Ref r ∷ []) | None ↦ unwound set s r class fields fs ]

  at_frame : (s : State) (st : Stored set s.heap s.statics) (r class : ℕ) (fields : List Value) (f : Active) (fs : List Active) (held : Held s.heap f) → Below set loaded ver s.heap (gives set loaded ver f held.placed) f.starts fs → Fine set loaded ver (unwound set s r class fields fs)
      → (o : Option Handler) → find (catches set (class_pool set f.class) class f.at) held.placed.m.handlers ≡ o → Fine set loaded ver (passed_on s r class fields f fs o)
  unfolding comes_there
  at_frame s st r class fields f fs held b more None e = more
  at_frame s st r class fields f fs held b more (Some h) e =
      ((comes_there s.heap f held class r h (handles s.heap f held class r h (finds (catches set (class_pool set f.class) class f.at) held.placed.m.handlers h e)), b), st)

  through_frame : (s : State) (st : Stored set s.heap s.statics) (r class : ℕ) (fields : List Value) (f : Active) (fs : List Active) (held : Held s.heap f) → Below set loaded ver s.heap (gives set loaded ver f held.placed) f.starts fs → Fine set loaded ver (unwound set s r class fields fs)
      → Fine set loaded ver (passed_on s r class fields f fs (handler set class f))
  through_frame s st r class fields f fs held b more =
      let there = method_there set loaded ver f.class held.placed.c f.method held.placed.m held.placed.class_is held.placed.method_is in
      subst (λ (o : Option Method). Fine set loaded ver (passed_on s r class fields f fs (find (catches set (class_pool set f.class) class f.at) (handlers_of o)))) (sym there)
      (at_frame s st r class fields f fs held b more (find (catches set (class_pool set f.class) class f.at) held.placed.m.handlers) refl)

  unwinds : (s : State) (st : Stored set s.heap s.statics) (r class : ℕ) (fields : List Value) (result : Option VType) (first : Bool) (fs : List Active) → Below set loaded ver s.heap result first fs → Fine set loaded ver (unwound set s r class fields fs)
  unwinds s st r class fields result first [] b = tt
  unwinds s st r class fields result true (f ∷ fs) b =
      let held : Held s.heap f = record { placed = b.1.0.placed; start = b.1.0.start; locals = b.1.0.locals } in
      through_frame s st r class fields f fs held b.1.1 (unwinds s st r class fields (gives set loaded ver f b.1.0.placed) f.starts fs b.1.1)
  unwinds s st r class fields result false (f ∷ fs) b =
      let held : Held s.heap f = record { placed = b.0.placed; start = b.0.start; locals = b.0.held } in
      through_frame s st r class fields f fs held b.1 (unwinds s st r class fields (gives set loaded ver f b.0.placed) f.starts fs b.1)

  -- an exception of the machine's own is thrown through frames below one that gives this result, or that are to go on
  pub throws_fine : (x : BuiltIn) (s : State) (st : Stored set s.heap s.statics) (result : Option VType) (first : Bool) (fs : List Active) → Below set loaded ver s.heap result first fs → Fine set loaded ver (thrown set x s fs)
  throws_fine x s st result first fs b =
      unwinds (with_exception x s) (stored_grows set s.heap (s.heap ++ exception_objects (length s.heap) (exception_number x) (message x)) (grows_by s.heap (exception_objects (length s.heap) (exception_number x) (message x))) s.statics st) (exception_reference x s) (exception_number x) (exception_fields (length s.heap) (message x)) result first fs
      (below_grow set loaded ver s.heap (s.heap ++ exception_objects (length s.heap) (exception_number x) (message x)) (grows_by s.heap (exception_objects (length s.heap) (exception_number x) (message x))) result first fs b)
