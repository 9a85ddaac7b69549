-- Texts that are put together, and calls of natives: their code does what they do.
use Rattle.std.proofs.Common.{◌≡◌, ℕ, suc, ◌+◌, List, [], ◌∷◌, ◌++◌, length, map, Some, true, refl, ap, ◌∙◌, subst, arith}
use Rattle.std.specs.Prelude.{slice_get, codes, ◌&&◌}
use Rattle.std.specs.Fmt.{signed_decimal}
use Rattle.kc_text.specs.Unicode.{utf8_of}
use Rattle.kc_core.specs.declared.tree.TypeTree.{TypeTree}
use Rattle.kc_core.specs.declared.tree.TypeTree.TheVariants as type_is
use Rattle.kc_core.specs.declared.tree.Native.TheVariants as native_kind
use Rattle.kc_core.specs.declared.tree.Span.{Span}
use Rattle.kc_core.specs.declared.tree.Core.{Core}
use Rattle.kc_core.specs.Values.{Value, Int, Boolean, Text, UnitValue, truth_text, text_of}
use Rattle.kc_core.specs.Meaning.{State, Completion, then_do, enter, checked, joined, operands, native}
use Rattle.class_file.specs.declared.value.Value.{Value as Slot}
use Rattle.class_file.specs.declared.value.Value.TheVariants as slot
use Rattle.stack_code.specs.declared.constants.Helper.TheVariants as helper
use Rattle.class_file.specs.declared.class.Set.{Set}
use Rattle.class_file.specs.Natives.{Object, TextObject}
use Rattle.class_file.specs.Machine.{Next, on_from}
use Rattle.stack_code.specs.Code.{Operation, Call, bytes, Several, further_texts, texts, values, whole, to_text, code_of, kept, kept_bytes}
use Rattle.stack_code.specs.Implements.{Grows, Held, Activation}
use Rattle.stack_code.proofs.Runs.{grows_none, grows_on, Represents, represents_on, Typed, On, held_on, live, HasAt, has_front, has_back, written, kept_all, kept_none, both_on, Sized, factor, Rep, Reaches, Run, run_on, run_weak, run_own, bind, evident, own, ends_at, wider, Follows, Inside, with_check, entered}
use Rattle.stack_code.proofs.Steps.{push_text, call_of_int, call_of_boolean, call_concat, call_write}
use Rattle.stack_code.proofs.Lists.{bytes_append, get_new, grows_more}
use Rattle.stack_code.proofs.Several.{AllSized, Readies, first_ready, between_at, more_ready, Does}

-- these values stand on the stack, over another one
abbrev pub Stacked : List Object → List Value → List Slot → List Slot → Type 0
Stacked h [] below st = st ≡ below
Stacked h (v ∷ vs) below st = (xs : List Slot) × Represents h v xs × Stacked h vs (xs ++ below) st

module _ (set : Set) (S : ℕ) (d : ℕ) (ev : Core → State → Completion) (sized : (e : Core) → Sized (code_of e)) (ih : (e : Core) → Follows set S d (code_of e) (ev e)) where
  -- what the texts behind the first one do, over the text so far
  abbrev Further : Several → (List ℕ → State → Completion) → Type 0
  Further x f = (text : List ℕ) (r : ℕ) (s : State) (o : Activation) (at : ℕ) (ls st : List Slot) (h : List Object) → slice_get h r ≡ Some (TextObject text) → Readies set S d ev sized ih x s o at ls h → Run set S o (On x.goes_on Represents) (live o at ls (slot.Ref r ∷ st) h s) h s.units 2 x.nodes ls (at + x.size) st (f text s)

  -- one step makes a text
  made : (o : Activation) (rep : Rep set S) (to end : ℕ) (ls st below : List Slot) (h : List Object) (s : State) (B A : ℕ) (c : Next) (text : List ℕ) (r : Completion) → on_from set 1 c ≡ live o to ls (slot.Ref (length h) ∷ st) (h ++ TextObject text ∷ []) s → Held h ls s.locals → ((h1 : List Object) (q : ℕ) → Grows h h1 → Held h1 ls s.locals → slice_get h1 q ≡ Some (TextObject text) → Run set S o rep (live o to ls (slot.Ref q ∷ st) h1 s) h1 s.units A B ls end below r) → Run set S o rep c h s.units (A + 1) B ls end below r
  made o rep to end ls st below h s B A c text r runs held rest =
      run_own set S 1 o rep end below c (live o to ls (slot.Ref (length h) ∷ st) h1 s) h h1 (A + 1) A B ls ls s (omega arith) runs grown held1 refl r
      (rest h1 (length h) grown held1 (get_new h (TextObject text)))
    where
      h1 : List Object
      h1 = h ++ TextObject text ∷ []

      grown : Grows h h1
      grown = grows_more h (TextObject text)

      held1 : Held h1 ls s.locals
      held1 = held_on h h1 ls s.locals grown held

  -- a value becomes its text
  turned : (o : Activation) (rep : Rep set S) (at end : ℕ) (ls st below : List Slot) (h : List Object) (s : State) (B : ℕ) (ty : TypeTree) (v : Value) (xs : List Slot) (r : Completion) → HasAt set o at (to_text ty) → Typed ty h v xs → Held h ls s.locals → ((h1 : List Object) (q : ℕ) → Grows h h1 → Held h1 ls s.locals → slice_get h1 q ≡ Some (TextObject (text_of v)) → Run set S o rep (live o (at + bytes (to_text ty)) ls (slot.Ref q ∷ st) h1 s) h1 s.units 3 B ls end below r) → Run set S o rep (live o at ls (xs ++ st) h s) h s.units 4 B ls end below r
  turned o rep at end ls st below h s B type_is.Int (Int z) xs r code is held rest =
      made o rep (at + 3) end ls st below h s B 3 (live o at ls (xs ++ st) h s) (signed_decimal z) r
      (ap (λ ys. on_from set 1 (live o at ls (ys ++ st) h s)) is.1 ∙ call_of_int set o at ls st h s z code.0) held rest
  turned o rep at end ls st below h s B type_is.Boolean (Boolean b) xs r code is held rest =
      made o rep (at + 3) end ls st below h s B 3 (live o at ls (xs ++ st) h s) (truth_text b) r
      (ap (λ ys. on_from set 1 (live o at ls (ys ++ st) h s)) is.1 ∙ call_of_boolean set o at ls st h s b code.0) held rest
  turned o rep at end ls st below h s B type_is.String (Text t) xs r code is held rest =
      run_own set S 0 o rep end below (live o at ls (xs ++ st) h s) (live o (at + 0) ls (slot.Ref is.1.0 ∷ st) h s) h h 4 3 B ls ls s (omega arith)
      (let e : at ≡ at + 0 = omega arith in ap (λ ys. live o at ls (ys ++ st) h s) is.1.1 ∙ ap (λ n. live o n ls (slot.Ref is.1.0 ∷ st) h s) e)
      (grows_none h) held refl r (rest h is.1.0 (grows_none h) held is.1.2)
  turned o rep at end ls st below h s B type_is.Unit UnitValue xs r code is held rest =
      made o rep (at + 3) end ls st below h s B 3 (live o at ls (xs ++ st) h s) (codes "kotlin.Unit") r
      (ap (λ ys. on_from set 1 (live o at ls (ys ++ st) h s)) is.1 ∙ push_text set o at ls st h s (codes "kotlin.Unit") code.0) held rest
  turned o rep at end ls st below h s B type_is.Int (Boolean b) xs r code is held rest = absurd (let q = is.0 in cc)
  turned o rep at end ls st below h s B type_is.Int (Text t) xs r code is held rest = absurd (let q = is.0 in cc)
  turned o rep at end ls st below h s B type_is.Int UnitValue xs r code is held rest = absurd (let q = is.0 in cc)
  turned o rep at end ls st below h s B type_is.Boolean (Int z) xs r code is held rest = absurd (let q = is.0 in cc)
  turned o rep at end ls st below h s B type_is.Boolean (Text t) xs r code is held rest = absurd (let q = is.0 in cc)
  turned o rep at end ls st below h s B type_is.Boolean UnitValue xs r code is held rest = absurd (let q = is.0 in cc)
  turned o rep at end ls st below h s B type_is.String (Int z) xs r code is held rest = absurd (let q = is.0 in cc)
  turned o rep at end ls st below h s B type_is.String (Boolean b) xs r code is held rest = absurd (let q = is.0 in cc)
  turned o rep at end ls st below h s B type_is.String UnitValue xs r code is held rest = absurd (let q = is.0 in cc)
  turned o rep at end ls st below h s B type_is.Unit (Int z) xs r code is held rest = absurd (let q = is.0 in cc)
  turned o rep at end ls st below h s B type_is.Unit (Boolean b) xs r code is held rest = absurd (let q = is.0 in cc)
  turned o rep at end ls st below h s B type_is.Unit (Text t) xs r code is held rest = absurd (let q = is.0 in cc)

  -- a value becomes its text and comes behind the text below it
  appended : (o : Activation) (rep : Rep set S) (at end : ℕ) (ls st : List Slot) (h : List Object) (s : State) (B : ℕ) (ty : TypeTree) (v : Value) (xs : List Slot) (q : ℕ) (text : List ℕ) (r : Completion) → HasAt set o at (to_text ty ++ Call helper.TextsConcat ∷ []) → Typed ty h v xs → Held h ls s.locals → slice_get h q ≡ Some (TextObject text) → ((h1 : List Object) (p : ℕ) → Held h1 ls s.locals → slice_get h1 p ≡ Some (TextObject (text ++ text_of v)) → Run set S o rep (live o (at + bytes (to_text ty ++ Call helper.TextsConcat ∷ [])) ls (slot.Ref p ∷ st) h1 s) h1 s.units 2 B ls end st r) → Run set S o rep (live o at ls (xs ++ (slot.Ref q ∷ st)) h s) h s.units 4 B ls end st r
  appended o rep at end ls st h s B ty v xs q text r code is held there rest =
      turned o rep at end ls (slot.Ref q ∷ st) st h s B ty v xs r (has_front set o at (to_text ty) (Call helper.TextsConcat ∷ []) code) is held
      (λ h1 p grown held1 found.
      made o rep (at + bytes (to_text ty ++ Call helper.TextsConcat ∷ [])) end ls st st h1 s B 2 (live o (at + bytes (to_text ty)) ls (slot.Ref p ∷ slot.Ref q ∷ st) h1 s) (text ++ text_of v) r
      (call_concat set o (at + bytes (to_text ty)) ls st h1 s q p text (text_of v) (has_back set o at (to_text ty) (Call helper.TextsConcat ∷ []) code).0 (grown.stays q (TextObject text) there) found
      ∙ ap (λ n. live o n ls (slot.Ref (length h1) ∷ st) (h1 ++ TextObject (text ++ text_of v) ∷ []) s) (let e = bytes_append (to_text ty) (Call helper.TextsConcat ∷ []) in let i : at + bytes (to_text ty) + 3 ≡ at + bytes (to_text ty ++ Call helper.TextsConcat ∷ []) = omega (arith, e) in i))
      held1 (λ h2 m grown2 held2 found2. rest h2 m held2 found2))

  further_follow : (es : List Core) → Further (further_texts (map code_of es)) (joined ev es)
  further_follow [] text r s o at ls st h there ready =
      own set S 0 (live o at ls (slot.Ref r ∷ st) h s) h 2 0 ls ls h (slot.Ref r ∷ []) (λ h' ys. On true Represents h' (Text text) ys) s (λ ls' h' ys. live o (at + 0) ls' (ys ++ st) h' s) (omega arith)
      (let e : at ≡ at + 0 = omega arith in ap (λ n. live o n ls (slot.Ref r ∷ st) h s) e) (refl, (r, refl, there)) (grows_none h) ready.held refl
  further_follow (e ∷ es) text r s o at ls st h there ready =
      bind set S o (On (code_of e).goes_on (Typed (code_of e).ty)) both (at + (code_of e).size) end (slot.Ref r ∷ st) st (live o at ls (slot.Ref r ∷ st) h s) h s.units 2 ((code_of e).nodes + more.nodes) 0 (code_of e).nodes ls (omega arith) (omega arith) (λ v. joined ev es (text ++ text_of v)) (last (further_follow es)) (ev e s)
      (ih e s o at ls (slot.Ref r ∷ st) h (first_ready set S d ev sized ih e between more s o at ls h ready))
    where
      more : Several
      more = further_texts (map code_of es)

      both : Rep set S
      both = On ((code_of e).goes_on && more.goes_on) Represents

      between : List Operation
      between = to_text (code_of e).ty ++ Call helper.TextsConcat ∷ []

      end : ℕ
      end = at + ((code_of e).size + kept_bytes (code_of e).goes_on (bytes between + more.size))

      next : ℕ
      next = at + (code_of e).size + bytes between

      last : Further (further_texts (map code_of es)) (joined ev es) → (v : Value) (s1 : State) → Reaches set S (live o at ls (slot.Ref r ∷ st) h s) h s.units 0 (code_of e).nodes ls (λ h' xs. On (code_of e).goes_on (Typed (code_of e).ty) h' v xs) s1 (λ ls' h' xs. live o (at + (code_of e).size) ls' (xs ++ (slot.Ref r ∷ st)) h' s1) → Run set S o both (live o at ls (slot.Ref r ∷ st) h s) h s.units 2 ((code_of e).nodes + more.nodes) ls end st (joined ev es (text ++ text_of v) s1)
      last again v s1 g =
          let i = kept_all (code_of e).goes_on (bytes between + more.size) g.is.0 in
          run_on set S o both end st (live o at ls (slot.Ref r ∷ st) h s) h s.units 2 ((code_of e).nodes + more.nodes) 0 (code_of e).nodes 4 more.nodes ls s1 (λ h' xs. On (code_of e).goes_on (Typed (code_of e).ty) h' v xs) (λ ls' h' xs. live o (at + (code_of e).size) ls' (xs ++ (slot.Ref r ∷ st)) h' s1) g (omega arith) (omega arith) (joined ev es (text ++ text_of v) s1)
          (appended o both (at + (code_of e).size) end g.ls' st g.h' s1 more.nodes (code_of e).ty v g.xs r text (joined ev es (text ++ text_of v) s1) (has_front set o (at + (code_of e).size) between more.code (between_at set S d ev sized ih e between more s o at ls h ready g.is.0)) g.is.1 g.held (g.grows.stays r (TextObject text) there)
          (λ h1 q held1 there1.
          ends_at set S o both (live o next g.ls' (slot.Ref q ∷ st) h1 s1) h1 s1.units 2 more.nodes g.ls' (next + more.size) end st (joined ev es (text ++ text_of v) s1) (omega (arith, i))
          (run_weak set S o both (On more.goes_on Represents) (λ v. Some (next + more.size)) st (live o next g.ls' (slot.Ref q ∷ st) h1 s1) h1 s1.units 2 more.nodes 2 more.nodes g.ls' (omega arith) (omega arith) (λ h' v xs is. (both_on (code_of e).goes_on more.goes_on g.is.0 is.0, is.1)) (joined ev es (text ++ text_of v) s1)
          (again (text ++ text_of v) q s1 o next g.ls' st h1 there1 (more_ready set S d ev sized ih e between more s s1 o at next ls g.ls' h h1 ready g.is.0 (omega (arith, g.units)) held1 refl)))))

  texts_follow : (e : Core) (es : List Core) → Does set S d ev sized ih (texts (map code_of (e ∷ es))) (joined ev (e ∷ es) [])
  texts_follow e es s o at ls st h ready =
      bind set S o (On (code_of e).goes_on (Typed (code_of e).ty)) both (at + (code_of e).size) end st st (live o at ls st h s) h s.units 2 ((code_of e).nodes + more.nodes) 0 (code_of e).nodes ls (omega arith) (omega arith) (λ v. joined ev es (text_of v)) last (ev e s)
      (ih e s o at ls st h (first_ready set S d ev sized ih e between more s o at ls h ready))
    where
      more : Several
      more = further_texts (map code_of es)

      both : Rep set S
      both = On ((code_of e).goes_on && more.goes_on) Represents

      between : List Operation
      between = to_text (code_of e).ty

      end : ℕ
      end = at + ((code_of e).size + kept_bytes (code_of e).goes_on (bytes between + more.size))

      next : ℕ
      next = at + (code_of e).size + bytes between

      last : (v : Value) (s1 : State) → Reaches set S (live o at ls st h s) h s.units 0 (code_of e).nodes ls (λ h' xs. On (code_of e).goes_on (Typed (code_of e).ty) h' v xs) s1 (λ ls' h' xs. live o (at + (code_of e).size) ls' (xs ++ st) h' s1) → Run set S o both (live o at ls st h s) h s.units 2 ((code_of e).nodes + more.nodes) ls end st (joined ev es (text_of v) s1)
      last v s1 g =
          let i = kept_all (code_of e).goes_on (bytes between + more.size) g.is.0 in
          run_on set S o both end st (live o at ls st h s) h s.units 2 ((code_of e).nodes + more.nodes) 0 (code_of e).nodes 4 more.nodes ls s1 (λ h' xs. On (code_of e).goes_on (Typed (code_of e).ty) h' v xs) (λ ls' h' xs. live o (at + (code_of e).size) ls' (xs ++ st) h' s1) g (omega arith) (omega arith) (joined ev es (text_of v) s1)
          (turned o both (at + (code_of e).size) end g.ls' st st g.h' s1 more.nodes (code_of e).ty v g.xs (joined ev es (text_of v) s1) (has_front set o (at + (code_of e).size) between more.code (between_at set S d ev sized ih e between more s o at ls h ready g.is.0)) g.is.1 g.held
          (λ h1 q grown1 held1 there1.
          wider set S o both (next + more.size) end (live o next g.ls' (slot.Ref q ∷ st) h1 s1) h1 s1.units 2 3 more.nodes g.ls' st (joined ev es (text_of v) s1) (omega arith) (omega (arith, i))
          (run_weak set S o both (On more.goes_on Represents) (λ v. Some (next + more.size)) st (live o next g.ls' (slot.Ref q ∷ st) h1 s1) h1 s1.units 2 more.nodes 2 more.nodes g.ls' (omega arith) (omega arith) (λ h' v xs is. (both_on (code_of e).goes_on more.goes_on g.is.0 is.0, is.1)) (joined ev es (text_of v) s1)
          (further_follow es (text_of v) q s1 o next g.ls' st h1 there1 (more_ready set S d ev sized ih e between more s s1 o at next ls g.ls' h h1 ready g.is.0 (omega (arith, g.units)) held1 refl)))))

  pub concat_follows : (ty : TypeTree) (span : Span) (es : List Core) → Follows set S (suc d) (whole (texts (map code_of es)) [] ty) (λ s. enter s.units s (λ s1. then_do (joined ev es [] s1) (checked span ty)))
  concat_follows ty span es = entered set S d (texts (map code_of es)).nodes (whole (texts (map code_of es)) [] ty) _ (omega arith) (with_check set S d (texts (map code_of es)).nodes (whole (texts (map code_of es)) [] ty) span (joined ev es []) (inside es))
    where
      inside : (es : List Core) → Inside set S d (texts (map code_of es)).nodes (whole (texts (map code_of es)) [] ty) (joined ev es [])
      inside [] s o at ls st h ready =
          own set S 1 (live o at ls st h s) h factor 0 ls ls (h ++ TextObject [] ∷ []) (slot.Ref (length h) ∷ []) (λ h' ys. On true Represents h' (Text []) ys) s (λ ls' h' ys. live o (at + 3) ls' (ys ++ st) h' s) (omega arith)
          (push_text set o at ls st h s [] ready.code.0) (refl, (length h, refl, get_new h (TextObject []))) (grows_more h (TextObject [])) (held_on h (h ++ TextObject [] ∷ []) ls s.locals (grows_more h (TextObject [])) ready.held) refl
      inside (e ∷ es) s o at ls st h ready = wider set S o (On x.goes_on Represents) (at + x.size) (at + (x.size + kept_bytes x.goes_on 0)) (live o at ls st h s) h s.units 2 factor x.nodes ls st (joined ev (e ∷ es) [] s) (omega arith) (let k = kept_none x.goes_on in omega (arith, k)) (texts_follow e es s o at ls st h
          (record { deep = ready.deep; small = omega (arith, ready.small); code = has_front set o at x.code (kept x.goes_on []) ready.code; held = ready.held; quiet = ready.quiet }))
        where
          x : Several
          x = texts (map code_of (e ∷ es))

  -- what comes after the values of operands, which stand on the stack, over a stack
  abbrev After : Several → (rep : Rep set S) → Activation → (at end : ℕ) → (st st0 : List Slot) → List Object → (List Value → State → Completion) → Type 0
  After x rep o at end st st0 h go = x.goes_on ≡ true → (vs : List Value) (s : State) (ls1 st1 : List Slot) (h1 : List Object) → Grows h h1 → Stacked h1 vs st st1 → Held h1 ls1 s.locals → Run set S o rep (live o (at + x.size) ls1 st1 h1 s) h1 s.units factor 0 ls1 end st0 (go vs s)

  values_follow : (rep : Rep set S) (es : List Core) (go : List Value → State → Completion) (s : State) (o : Activation) (at end : ℕ) (ls st st0 : List Slot) (h : List Object) → Readies set S d ev sized ih (values (map code_of es)) s o at ls h → After (values (map code_of es)) rep o at end st st0 h go → Run set S o rep (live o at ls st h s) h s.units factor (values (map code_of es)).nodes ls end st0 (operands ev es go s)
  values_follow rep [] go s o at end ls st st0 h ready then' =
      subst (λ n. Run set S o rep (live o n ls st h s) h s.units factor 0 ls end st0 (go [] s)) (let e : at + 0 ≡ at = omega arith in e) (then' refl [] s ls st h (grows_none h) refl ready.held)
  values_follow rep (e ∷ es) go s o at end ls st st0 h ready then' =
      bind set S o (On (code_of e).goes_on (Typed (code_of e).ty)) rep (at + (code_of e).size) end st st0 (live o at ls st h s) h s.units factor ((code_of e).nodes + more.nodes) 0 (code_of e).nodes ls (omega arith) (omega arith) (λ v. operands ev es (λ vs. go (v ∷ vs))) (last (λ go1 s1 ls1 st1 h1. values_follow rep es go1 s1 o next end ls1 st1 st0 h1)) (ev e s)
      (ih e s o at ls st h (first_ready set S d ev sized ih e [] more s o at ls h ready))
    where
      more : Several
      more = values (map code_of es)

      next : ℕ
      next = at + (code_of e).size + 0

      last : ((go1 : List Value → State → Completion) (s1 : State) (ls1 st1 : List Slot) (h1 : List Object) → Readies set S d ev sized ih more s1 o next ls1 h1 → After more rep o next end st1 st0 h1 go1 → Run set S o rep (live o next ls1 st1 h1 s1) h1 s1.units factor more.nodes ls1 end st0 (operands ev es go1 s1)) →
          (v : Value) (s1 : State) → Reaches set S (live o at ls st h s) h s.units 0 (code_of e).nodes ls (λ h' xs. On (code_of e).goes_on (Typed (code_of e).ty) h' v xs) s1 (λ ls' h' xs. live o (at + (code_of e).size) ls' (xs ++ st) h' s1) → Run set S o rep (live o at ls st h s) h s.units factor ((code_of e).nodes + more.nodes) ls end st0 (operands ev es (λ vs. go (v ∷ vs)) s1)
      last again v s1 g =
          let f = kept_all (code_of e).goes_on (0 + more.size) g.is.0 in
          run_on set S o rep end st0 (live o at ls st h s) h s.units factor ((code_of e).nodes + more.nodes) 0 (code_of e).nodes factor more.nodes ls s1 (λ h' xs. On (code_of e).goes_on (Typed (code_of e).ty) h' v xs) (λ ls' h' xs. live o (at + (code_of e).size) ls' (xs ++ st) h' s1) g (omega arith) (omega arith) (operands ev es (λ vs. go (v ∷ vs)) s1)
          (subst (λ n. Run set S o rep (live o n g.ls' (g.xs ++ st) g.h' s1) g.h' s1.units factor more.nodes g.ls' end st0 (operands ev es (λ vs. go (v ∷ vs)) s1)) (let i : next ≡ at + (code_of e).size = omega arith in i)
          (again (λ vs. go (v ∷ vs)) s1 g.ls' (g.xs ++ st) g.h' (more_ready set S d ev sized ih e [] more s s1 o at next ls g.ls' h g.h' ready g.is.0 (omega (arith, g.units)) g.held refl)
          (λ on vs s2 ls2 st2 h2 grown stacked held2.
          subst (λ n. Run set S o rep (live o n ls2 st2 h2 s2) h2 s2.units factor 0 ls2 end st0 (go (v ∷ vs) s2)) (let i : at + ((code_of e).size + kept_bytes (code_of e).goes_on (0 + more.size)) ≡ next + more.size = omega (arith, f) in i)
          (then' (both_on (code_of e).goes_on more.goes_on g.is.0 on) (v ∷ vs) s2 ls2 st2 h2 (grows_on h g.h' h2 g.grows grown) (g.xs, represents_on g.h' h2 v g.xs grown g.is.1.1, stacked) held2))))

  write_tail : (span : Span) (vs : List Value) (s : State) (o : Activation) (at : ℕ) (ls st st1 : List Slot) (h : List Object) → HasAt set o at (Call helper.ConsoleWrite ∷ []) → Stacked h vs st st1 → Held h ls s.locals → Run set S o Represents (live o at ls st1 h s) h s.units factor 0 ls (at + 3) st (native span native_kind.ConsoleWrite vs s)
  write_tail span (Text t ∷ []) s o at ls st st1 h code stacked held =
      own set S 1 (live o at ls st1 h s) h factor 0 ls ls h [] (λ h' ys. Represents h' UnitValue ys) s' (λ ls' h' ys. live o (at + 3) ls' (ys ++ st) h' s') (omega arith)
      (ap (λ ys. on_from set 1 (live o at ls ys h s)) (stacked.2 ∙ ap (λ zs. zs ++ st) stacked.1.1) ∙ call_write set o at ls st h s stacked.1.0 t code.0 stacked.1.2)
      refl (grows_none h) held refl
    where
      s' : State
      s' = record s { out = s.out ++ utf8_of t }
  write_tail span [] s o at ls st st1 h code stacked held = tt
  write_tail span (Text t ∷ v ∷ vs) s o at ls st st1 h code stacked held = tt
  write_tail span (Int z ∷ vs) s o at ls st st1 h code stacked held = tt
  write_tail span (Boolean b ∷ vs) s o at ls st st1 h code stacked held = tt
  write_tail span (UnitValue ∷ vs) s o at ls st st1 h code stacked held = tt

  pub write_follows : (ty : TypeTree) (span : Span) (es : List Core) → AllSized (values (map code_of es)) → Follows set S (suc d) (whole (values (map code_of es)) (Call helper.ConsoleWrite ∷ []) ty) (λ s. enter s.units s (λ s1. then_do (operands ev es (native span native_kind.ConsoleWrite) s1) (checked span ty)))
  write_follows ty span es za = entered set S d x.nodes (whole x tail ty) _ (omega arith) (with_check set S d x.nodes (whole x tail ty) span (operands ev es (native span native_kind.ConsoleWrite)) inside)
    where
      x : Several
      x = values (map code_of es)

      tail : List Operation
      tail = Call helper.ConsoleWrite ∷ []

      inside : Inside set S d x.nodes (whole x tail ty) (operands ev es (native span native_kind.ConsoleWrite))
      inside s o at ls st h ready =
          values_follow (On x.goes_on Represents) es (native span native_kind.ConsoleWrite) s o at end ls st st h
          (record { deep = ready.deep; small = omega (arith, ready.small); code = has_front set o at x.code (kept x.goes_on tail) ready.code; held = ready.held; quiet = ready.quiet })
          (λ on vs s1 ls1 st1 h1 grown stacked held1.
          let f = kept_all x.goes_on 3 on in
          evident set S o Represents (λ v. Some end) st (live o (at + x.size) ls1 st1 h1 s1) h1 s1.units factor 0 ls1 x.goes_on on (native span native_kind.ConsoleWrite vs s1)
          (ends_at set S o Represents (live o (at + x.size) ls1 st1 h1 s1) h1 s1.units factor 0 ls1 (at + x.size + 3) end st (native span native_kind.ConsoleWrite vs s1) (omega (arith, f))
          (write_tail span vs s1 o (at + x.size) ls1 st st1 h1 (written set o (at + x.size) x.goes_on tail on (subst (λ n. HasAt set o (at + n) (kept x.goes_on tail)) za (has_back set o at x.code (kept x.goes_on tail) ready.code))) stacked held1)))
        where
          end : ℕ
          end = at + (x.size + kept_bytes x.goes_on 3)
