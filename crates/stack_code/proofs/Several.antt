-- Nodes with a list of children: their code does what they do.
use Rattle.std.proofs.Common.{◌≡◌, ℕ, suc, ◌+◌, ◌≤◌, List, [], ◌∷◌, ◌++◌, map, Some, true, refl, sym, ap, ◌∙◌, subst, arith}
use Rattle.std.specs.Prelude.{◌&&◌}
use Rattle.kc_core.specs.declared.tree.TypeTree.{TypeTree}
use Rattle.kc_core.specs.declared.tree.TypeTree.TheVariants as type_is
use Rattle.kc_core.specs.declared.tree.Span.{Span}
use Rattle.kc_core.specs.declared.tree.Core.{Core}
use Rattle.kc_core.specs.Values.{Value, Int, Boolean, Text, UnitValue}
use Rattle.kc_core.specs.Meaning.{State, Completion, Gives, then_do, enter, checked, in_order}
use Rattle.class_file.specs.declared.value.Value.{Value as Slot}
use Rattle.class_file.specs.declared.value.Value.TheVariants as slot
use Rattle.stack_code.specs.declared.constants.Helper.TheVariants as helper
use Rattle.class_file.specs.declared.class.Set.{Set}
use Rattle.class_file.specs.Natives.{Object}
use Rattle.class_file.specs.Machine.{on_from}
use Rattle.stack_code.specs.Code.{Operation, Call, bytes, Emitted, Several, nothing, followed, further_texts, texts, values, in_turn, whole, to_text, discards, code_of, bit, kept, kept_bytes}
use Rattle.stack_code.specs.Implements.{Held, Activation}
use Rattle.stack_code.proofs.Runs.{grows_none, Represents, Typed, On, Quiet, live, HasAt, has_front, has_back, written, kept_all, kept_none, kept_size, both_on, Sized, factor, Reaches, Run, Rep, run_on, run_weak, run_own, bind, own, ends_at, wider, Ready, Follows, Inside, with_check, entered}
use Rattle.stack_code.proofs.Steps.{discard}
use Rattle.stack_code.proofs.Lists.{bytes_append}
use Rattle.stack_code.proofs.Single.{behind}

abbrev pub AllSized : Several → Type 0
AllSized s = bytes s.code ≡ s.size

pub followed_sized : (e : Emitted) (between : List Operation) (more : Several) → Sized e → AllSized more → AllSized (followed e between more)
followed_sized e between more a b =
    let p = bytes_append e.code (kept e.goes_on (between ++ more.code)) in
    let k = kept_size e.goes_on (between ++ more.code) in
    let f = ap (kept_bytes e.goes_on) (let q = bytes_append between more.code in let i : bytes (between ++ more.code) ≡ bytes between + more.size = omega (arith, q, b) in i) in
    omega (arith, p, k, f, a.whole)

module _ (A : Type 0) (f : A → Emitted) (sized : (a : A) → Sized (f a)) where
  pub further_sized : (es : List A) → AllSized (further_texts (map f es))
  further_sized [] = refl
  further_sized (e ∷ es) = followed_sized (f e) (to_text (f e).ty ++ Call helper.TextsConcat ∷ []) (further_texts (map f es)) (sized e) (further_sized es)

  pub texts_sized : (es : List A) → AllSized (texts (map f es))
  texts_sized [] = refl
  texts_sized (e ∷ es) = followed_sized (f e) (to_text (f e).ty) (further_texts (map f es)) (sized e) (further_sized es)

  pub values_sized : (es : List A) → AllSized (values (map f es))
  values_sized [] = refl
  values_sized (e ∷ es) = followed_sized (f e) [] (values (map f es)) (sized e) (values_sized es)

  pub turns_sized : (es : List A) → AllSized (in_turn (map f es))
  turns_sized [] = refl
  turns_sized (e ∷ []) = followed_sized (f e) [] nothing (sized e) refl
  turns_sized (e ∷ g ∷ es) = followed_sized (f e) (discards (f e).ty) (in_turn (map f (g ∷ es))) (sized e) (turns_sized (g ∷ es))

pub whole_size : (s : Several) (tail : List Operation) → AllSized s → bytes (s.code ++ kept s.goes_on tail) ≡ s.size + kept_bytes s.goes_on (bytes tail)
whole_size s tail a = let p = bytes_append s.code (kept s.goes_on tail) in let k = kept_size s.goes_on tail in omega (arith, p, k, a)

module _ (set : Set) (S : ℕ) where
  -- a value of a type goes off the stack
  pub discarded : (o : Activation) (rep : Rep set S) (at end : ℕ) (ls st st0 : List Slot) (h : List Object) (s : State) (B : ℕ) (ty : TypeTree) (v : Value) (xs : List Slot) → HasAt set o at (discards ty) → Typed ty h v xs → Held h ls s.locals → (r : Completion) → Run set S o rep (live o (at + bytes (discards ty)) ls st h s) h s.units 2 B ls end st0 r → Run set S o rep (live o at ls (xs ++ st) h s) h s.units 4 B ls end st0 r
  discarded o rep at end ls st st0 h s B type_is.Int (Int z) xs code is held r run =
      run_own set S 1 o rep end st0 (live o at ls (xs ++ st) h s) (live o (at + 1) ls st h s) h h 4 2 B ls ls s (omega arith)
      (ap (λ ys. on_from set 1 (live o at ls (ys ++ st) h s)) is.1 ∙ discard set o at ls st h s (slot.Int z) code.0 refl) (grows_none h) held refl r run
  discarded o rep at end ls st st0 h s B type_is.Boolean (Boolean b) xs code is held r run =
      run_own set S 1 o rep end st0 (live o at ls (xs ++ st) h s) (live o (at + 1) ls st h s) h h 4 2 B ls ls s (omega arith)
      (ap (λ ys. on_from set 1 (live o at ls (ys ++ st) h s)) is.1 ∙ discard set o at ls st h s (slot.Int (bit b)) code.0 refl) (grows_none h) held refl r run
  discarded o rep at end ls st st0 h s B type_is.String (Text t) xs code is held r run =
      run_own set S 1 o rep end st0 (live o at ls (xs ++ st) h s) (live o (at + 1) ls st h s) h h 4 2 B ls ls s (omega arith)
      (ap (λ ys. on_from set 1 (live o at ls (ys ++ st) h s)) is.1.1 ∙ discard set o at ls st h s (slot.Ref is.1.0) code.0 refl) (grows_none h) held refl r run
  discarded o rep at end ls st st0 h s B type_is.Unit UnitValue xs code is held r run =
      run_own set S 0 o rep end st0 (live o at ls (xs ++ st) h s) (live o (at + 0) ls st h s) h h 4 2 B ls ls s (omega arith)
      (let e : at ≡ at + 0 = omega arith in ap (λ ys. live o at ls (ys ++ st) h s) is.1 ∙ ap (λ n. live o n ls st h s) e) (grows_none h) held refl r run
  discarded o rep at end ls st st0 h s B type_is.Int (Boolean b) xs code is held r run = absurd (let q = is.0 in cc)
  discarded o rep at end ls st st0 h s B type_is.Int (Text t) xs code is held r run = absurd (let q = is.0 in cc)
  discarded o rep at end ls st st0 h s B type_is.Int UnitValue xs code is held r run = absurd (let q = is.0 in cc)
  discarded o rep at end ls st st0 h s B type_is.Boolean (Int z) xs code is held r run = absurd (let q = is.0 in cc)
  discarded o rep at end ls st st0 h s B type_is.Boolean (Text t) xs code is held r run = absurd (let q = is.0 in cc)
  discarded o rep at end ls st st0 h s B type_is.Boolean UnitValue xs code is held r run = absurd (let q = is.0 in cc)
  discarded o rep at end ls st st0 h s B type_is.String (Int z) xs code is held r run = absurd (let q = is.0 in cc)
  discarded o rep at end ls st st0 h s B type_is.String (Boolean b) xs code is held r run = absurd (let q = is.0 in cc)
  discarded o rep at end ls st st0 h s B type_is.String UnitValue xs code is held r run = absurd (let q = is.0 in cc)
  discarded o rep at end ls st st0 h s B type_is.Unit (Int z) xs code is held r run = absurd (let q = is.0 in cc)
  discarded o rep at end ls st st0 h s B type_is.Unit (Boolean b) xs code is held r run = absurd (let q = is.0 in cc)
  discarded o rep at end ls st st0 h s B type_is.Unit (Text t) xs code is held r run = absurd (let q = is.0 in cc)

module _ (set : Set) (S : ℕ) (d : ℕ) (ev : Core → State → Completion) (sized : (e : Core) → Sized (code_of e)) (ih : (e : Core) → Follows set S d (code_of e) (ev e)) where
  -- what several children find
  pub record Readies (x : Several) (s : State) (o : Activation) (at : ℕ) (ls : List Slot) (h : List Object) : Type 0 where
    pub deep : s.units ≤ d
    pub small : x.nodes ≤ S
    pub code : HasAt set o at x.code
    pub held : Held h ls s.locals
    pub quiet : Quiet set o

  pub first_ready : (e : Core) (between : List Operation) (more : Several) (s : State) (o : Activation) (at : ℕ) (ls : List Slot) (h : List Object) → Readies (followed (code_of e) between more) s o at ls h → Ready set S d (code_of e) s o at ls h
  first_ready e between more s o at ls h r =
      record { deep = r.deep; small = omega (arith, r.small); code = has_front set o at (code_of e).code (kept (code_of e).goes_on (between ++ more.code)) r.code; held = r.held; quiet = r.quiet }

  pub between_at : (e : Core) (between : List Operation) (more : Several) (s : State) (o : Activation) (at : ℕ) (ls : List Slot) (h : List Object) → Readies (followed (code_of e) between more) s o at ls h → (code_of e).goes_on ≡ true → HasAt set o (at + (code_of e).size) (between ++ more.code)
  between_at e between more s o at ls h r on =
      written set o (at + (code_of e).size) (code_of e).goes_on (between ++ more.code) on (behind set o (code_of e) (sized e) at (kept (code_of e).goes_on (between ++ more.code)) r.code)

  pub more_ready : (e : Core) (between : List Operation) (more : Several) (s s1 : State) (o : Activation) (at n : ℕ) (ls ls1 : List Slot) (h h1 : List Object) → Readies (followed (code_of e) between more) s o at ls h → (code_of e).goes_on ≡ true → s1.units ≤ s.units → Held h1 ls1 s1.locals → n ≡ at + (code_of e).size + bytes between → Readies more s1 o n ls1 h1
  more_ready e between more s s1 o at n ls ls1 h h1 r on less held i = record {
    deep = omega (arith, less, r.deep);
    small = omega (arith, r.small);
    code = subst (λ m. HasAt set o m more.code) (sym i) (has_back set o (at + (code_of e).size) between more.code (between_at e between more s o at ls h r on));
    held = held;
    quiet = r.quiet;
  }

  -- PARTS IN TURN
  -- several children do what a function of the state does
  abbrev pub Does : Several → (State → Completion) → Type 0
  Does x f = (s : State) (o : Activation) (at : ℕ) (ls st : List Slot) (h : List Object) → Readies x s o at ls h → Run set S o (On x.goes_on Represents) (live o at ls st h s) h s.units 2 x.nodes ls (at + x.size) st (f s)

  turns_follow : (e : Core) (es : List Core) (v0 : Value) → Does (in_turn (map code_of (e ∷ es))) (in_order ev (e ∷ es) v0)
  turns_follow e [] v0 s o at ls st h ready =
      bind set S o (On (code_of e).goes_on (Typed (code_of e).ty)) (On ((code_of e).goes_on && true) Represents) (at + (code_of e).size) end st st (live o at ls st h s) h s.units 2 ((code_of e).nodes + 0) 0 (code_of e).nodes ls (omega arith) (omega arith) (in_order ev []) last (ev e s) (ih e s o at ls st h (first_ready e [] nothing s o at ls h ready))
    where
      end : ℕ
      end = at + ((code_of e).size + kept_bytes (code_of e).goes_on (0 + 0))

      last : (v : Value) (s1 : State) → Reaches set S (live o at ls st h s) h s.units 0 (code_of e).nodes ls (λ h' xs. On (code_of e).goes_on (Typed (code_of e).ty) h' v xs) s1 (λ ls' h' xs. live o (at + (code_of e).size) ls' (xs ++ st) h' s1) → Run set S o (On ((code_of e).goes_on && true) Represents) (live o at ls st h s) h s.units 2 ((code_of e).nodes + 0) ls end st (Gives v s1)
      last v s1 g = record {
        j = g.j;
        k = g.k;
        ls' = g.ls';
        h' = g.h';
        xs = g.xs;
        is = (both_on (code_of e).goes_on true g.is.0 refl, g.is.1.1);
        grows = g.grows;
        held = g.held;
        long = g.long;
        units = g.units;
        runs = g.runs ∙ (let f = kept_all (code_of e).goes_on (0 + 0) g.is.0 in let i : at + (code_of e).size ≡ end = omega (arith, f) in ap (λ n. live o n g.ls' (g.xs ++ st) g.h' s1) i);
        most = omega (arith, g.most);
        least = omega (arith, g.least);
      }
  turns_follow e (f ∷ es) v0 s o at ls st h ready =
      bind set S o (On (code_of e).goes_on (Typed (code_of e).ty)) (On ((code_of e).goes_on && more.goes_on) Represents) (at + (code_of e).size) end st st (live o at ls st h s) h s.units 2 ((code_of e).nodes + more.nodes) 0 (code_of e).nodes ls (omega arith) (omega arith) (in_order ev (f ∷ es)) (last (turns_follow f es)) (ev e s) (ih e s o at ls st h (first_ready e (discards (code_of e).ty) more s o at ls h ready))
    where
      more : Several
      more = in_turn (map code_of (f ∷ es))

      both : Rep set S
      both = On ((code_of e).goes_on && more.goes_on) Represents

      end : ℕ
      end = at + ((code_of e).size + kept_bytes (code_of e).goes_on (bytes (discards (code_of e).ty) + more.size))

      next : ℕ
      next = at + (code_of e).size + bytes (discards (code_of e).ty)

      last : ((v0 : Value) → Does (in_turn (map code_of (f ∷ es))) (in_order ev (f ∷ es) v0)) → (v : Value) (s1 : State) → Reaches set S (live o at ls st h s) h s.units 0 (code_of e).nodes ls (λ h' xs. On (code_of e).goes_on (Typed (code_of e).ty) h' v xs) s1 (λ ls' h' xs. live o (at + (code_of e).size) ls' (xs ++ st) h' s1) → Run set S o (On ((code_of e).goes_on && more.goes_on) Represents) (live o at ls st h s) h s.units 2 ((code_of e).nodes + more.nodes) ls end st (in_order ev (f ∷ es) v s1)
      last again v s1 g =
          let i = kept_all (code_of e).goes_on (bytes (discards (code_of e).ty) + more.size) g.is.0 in
          run_on set S o both end st (live o at ls st h s) h s.units 2 ((code_of e).nodes + more.nodes) 0 (code_of e).nodes 4 more.nodes ls s1 (λ h' xs. On (code_of e).goes_on (Typed (code_of e).ty) h' v xs) (λ ls' h' xs. live o (at + (code_of e).size) ls' (xs ++ st) h' s1) g (omega arith) (omega arith) (in_order ev (f ∷ es) v s1)
          (discarded set S o both (at + (code_of e).size) end g.ls' st st g.h' s1 more.nodes (code_of e).ty v g.xs (has_front set o (at + (code_of e).size) (discards (code_of e).ty) more.code (between_at e (discards (code_of e).ty) more s o at ls h ready g.is.0)) g.is.1 g.held (in_order ev (f ∷ es) v s1)
          (ends_at set S o both (live o next g.ls' st g.h' s1) g.h' s1.units 2 more.nodes g.ls' (next + more.size) end st (in_order ev (f ∷ es) v s1) (omega (arith, i))
          (run_weak set S o both (On more.goes_on Represents) (λ v. Some (next + more.size)) st (live o next g.ls' st g.h' s1) g.h' s1.units 2 more.nodes 2 more.nodes g.ls' (omega arith) (omega arith) (λ h' v xs is. (both_on (code_of e).goes_on more.goes_on g.is.0 is.0, is.1)) (in_order ev (f ∷ es) v s1)
          (again v s1 o next g.ls' st g.h' (more_ready e (discards (code_of e).ty) more s s1 o at next ls g.ls' h g.h' ready g.is.0 (omega (arith, g.units)) g.held refl)))))

  pub block_follows : (ty : TypeTree) (span : Span) (es : List Core) → Follows set S (suc d) (whole (in_turn (map code_of es)) [] ty) (λ s. enter s.units s (λ s1. then_do (in_order ev es UnitValue s1) (checked span ty)))
  block_follows ty span es = entered set S d (in_turn (map code_of es)).nodes (whole (in_turn (map code_of es)) [] ty) _ (omega arith) (with_check set S d (in_turn (map code_of es)).nodes (whole (in_turn (map code_of es)) [] ty) span (in_order ev es UnitValue) (inside es))
    where
      inside : (es : List Core) → Inside set S d (in_turn (map code_of es)).nodes (whole (in_turn (map code_of es)) [] ty) (in_order ev es UnitValue)
      inside [] s o at ls st h ready =
          own set S 0 (live o at ls st h s) h factor 0 ls ls h [] (λ h' ys. On true Represents h' UnitValue ys) s (λ ls' h' ys. live o (at + 0) ls' (ys ++ st) h' s) (omega arith)
          (let e : at ≡ at + 0 = omega arith in ap (λ n. live o n ls st h s) e) (refl, refl) (grows_none h) ready.held refl
      inside (e ∷ es) s o at ls st h ready = wider set S o (On x.goes_on Represents) (at + x.size) (at + (x.size + kept_bytes x.goes_on 0)) (live o at ls st h s) h s.units 2 factor x.nodes ls st (in_order ev (e ∷ es) UnitValue s) (omega arith) (let k = kept_none x.goes_on in omega (arith, k)) (turns_follow e es UnitValue s o at ls st h
          (record { deep = ready.deep; small = omega (arith, ready.small); code = has_front set o at x.code (kept x.goes_on []) ready.code; held = ready.held; quiet = ready.quiet }))
        where
          x : Several
          x = in_turn (map code_of (e ∷ es))
