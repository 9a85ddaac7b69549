-- What is known in a node's code is right: lists of children, every node, and a whole body.
use Rattle.std.proofs.Common.{append-nil, append_assoc, map, ◌≡◌, ℕ, ◌+◌, List, [], ◌∷◌, ◌++◌, length, Option, Some, None, Bool, true, false, refl, sym, ap, ◌∙◌, subst}
use Rattle.std.specs.Prelude.{nat_eq, cond, codes}
use Rattle.kc_core.specs.declared.tree.TypeTree.{TypeTree}
use Rattle.kc_core.specs.declared.tree.TypeTree.TheVariants as type_is
use Rattle.kc_core.specs.declared.tree.Local.{Local}
use Rattle.kc_core.specs.declared.tree.UnaryOp.TheVariants as unary
use Rattle.kc_core.specs.declared.tree.Native.TheVariants as native_kind
use Rattle.kc_core.specs.declared.tree.Core.{Core}
use Rattle.kc_core.specs.declared.tree.Kind.{Kind, out-Kind}
use Rattle.kc_core.specs.declared.tree.Kind.TheOpen.{Kind-F}
use Rattle.kc_core.specs.declared.tree.Kind.TheFolds.{map-Kind}
use Rattle.kc_core.specs.Formed.{Assigned, none_assigned, marked, last_type, Formed, FormedAll}
use Rattle.stack_code.proofs.Traces.{TracedKind, traced_of_kind, traced_opened, emitted_is, type_of_traced}
use Rattle.class_file.specs.declared.class.VType.{VType}
use Rattle.class_file.specs.declared.class.VType.TheVariants.{Integer}
use Rattle.stack_code.specs.declared.constants.Helper.TheVariants as helper
use Rattle.stack_code.specs.Code.{Operation, PushInt, PushText, Negate, Discard, Call, Leave, bytes, kept, kept_bytes, Emitted, Several, nothing, followed, further_texts, texts, values, in_turn as turn_code, whole, leaf, truth_code, bit, operator_of, test_of, equal_test, body_code, loads, stores, to_text, discards}
use Rattle.stack_code.specs.Frames.{Known, text_type, value_types, effect, in_line, behind_line, kept_known, with_value, Traced, behind, plain_traced, TracedSeveral, nothing_traced, followed_traced, further_texts_traced, texts_traced, values_traced, in_turn_traced, leaf_traced, traced_kind, traced_of, nothing_known, body_known}
use Rattle.stack_code.proofs.Several.{AllSized, followed_sized, whole_size}
use Rattle.stack_code.proofs.Flowing.{AllGood, Flows, Good, Line, Run, Stands, Within, flows_here, idle, in_turn, line, loaded, mark_within, no_jump, stored, two, within_marked}
use Rattle.stack_code.proofs.Fitting.{Fits, compared_fits, goes_second, more_stands, negated_fits, plain_fits, short_fits, tail, then_fits, two_fits, within_trans}
use Rattle.stack_code.proofs.Ways.{discard_good, if_else_fits, if_fits, valued, while_fits}
use Rattle.stack_code.proofs.Flowing.{counts_in, kept_even, even_both, even_line}

module _ (locals : List Local) (there : ℕ → Option Known) (named : ℕ → Bool) where
  -- ---- several children

  -- what is known in several children is right, over stacks with these values on top before and behind them
  pub record FitsAll (x : Several) (t : TracedSeveral) (a b : Assigned) (from to : List VType) : Type 0 where
    pub sized : AllSized x
    pub even : (k : Known) → length x.code ≡ length (t.known k)
    pub grows : (s : Assigned) → Within locals there named s (t.after s)
    pub covers : (s : Assigned) → Within locals there named a s → Within locals there named b (t.after s)
    pub run : (at : ℕ) (s : Assigned) (S : List VType) → Within locals there named a s → Run locals there named at x.code (t.known (record { assigned = s; stack = from ++ S })) (record { assigned = s; stack = from ++ S }) x.goes_on (record { assigned = t.after s; stack = to ++ S })

  -- nothing more
  nothing_fits : (a : Assigned) (top : List VType) → FitsAll nothing nothing_traced a a top top
  nothing_fits a top = record {
    sized = refl;
    even = λ k. refl;
    grows = λ s x i on. on;
    covers = λ s i. i;
    run = λ at s S i. idle locals there named at (record { assigned = s; stack = top ++ S });
  }

  -- what stands between children: operations without jumps, from these values to those
  pub record Between (os : List Operation) (from to : List VType) : Type 0 where
    pub run : (at : ℕ) (s : Assigned) (S : List VType) → Run locals there named at os (in_line os (record { assigned = s; stack = from ++ S })) (record { assigned = s; stack = from ++ S }) true (record { assigned = s; stack = to ++ S })
    pub ends : (s : Assigned) (S : List VType) → behind_line os (record { assigned = s; stack = from ++ S }) ≡ record { assigned = s; stack = to ++ S }

  followed_fits : (e : Traced) (between : List Operation) (more : Several) (t : TracedSeveral) (a b c : Assigned) (from mid to : List VType) → Fits locals there named e a b → Between between (value_types e.emitted.ty ++ from) mid → FitsAll more t b c mid to → FitsAll (followed e.emitted between more) (followed_traced e between t) a c from to
  followed_fits e between more t a b c from mid to fe fb fm = record {
    sized = followed_sized e.emitted between more fe.sized fm.sized;
    even = λ k. even_both e.emitted.code (kept e.emitted.goes_on (between ++ more.code)) (e.known k) (kept_known e.emitted.goes_on (in_line between (behind e k) ++ t.known (behind_line between (behind e k)))) (fe.even k)
        (kept_even e.emitted.goes_on (between ++ more.code) (in_line between (behind e k) ++ t.known (behind_line between (behind e k))) (even_both between more.code (in_line between (behind e k)) (t.known (behind_line between (behind e k))) (even_line between (behind e k)) (fm.even (behind_line between (behind e k)))));
    grows = λ s. within_trans locals there named s (e.after s) (t.after (e.after s)) (fe.grows s) (fm.grows (e.after s));
    covers = λ s i. fm.covers (e.after s) (fe.covers s i);
    run = λ at s S i.
        let k : Known = record { assigned = s; stack = from ++ S } in
        in_turn locals there named at e.emitted.code (between ++ more.code) (e.known k) (in_line between (behind e k) ++ t.known (behind_line between (behind e k))) k (behind e k) (record { assigned = t.after (e.after s); stack = to ++ S }) e.emitted.goes_on more.goes_on (fe.even k) (fe.run at k i)
        (λ on. rest (at + bytes e.emitted.code) (e.after s) S (fe.covers s i));
  }
    where
      rest : (at : ℕ) (s : Assigned) (S : List VType) → Within locals there named b s → Run locals there named at (between ++ more.code) (in_line between (record { assigned = s; stack = value_types e.emitted.ty ++ (from ++ S) }) ++ t.known (behind_line between (record { assigned = s; stack = value_types e.emitted.ty ++ (from ++ S) }))) (record { assigned = s; stack = value_types e.emitted.ty ++ (from ++ S) }) more.goes_on (record { assigned = t.after s; stack = to ++ S })
      rest at s S i =
          subst (λ (vs : List VType). Run locals there named at (between ++ more.code) (in_line between (record { assigned = s; stack = vs }) ++ t.known (behind_line between (record { assigned = s; stack = vs }))) (record { assigned = s; stack = vs }) more.goes_on (record { assigned = t.after s; stack = to ++ S })) (append_assoc (value_types e.emitted.ty) from S)
          (subst (λ (k : Known). Run locals there named at (between ++ more.code) (in_line between (record { assigned = s; stack = (value_types e.emitted.ty ++ from) ++ S }) ++ t.known k) (record { assigned = s; stack = (value_types e.emitted.ty ++ from) ++ S }) more.goes_on (record { assigned = t.after s; stack = to ++ S })) (sym (fb.ends s S))
          (two locals there named at between more.code (in_line between (record { assigned = s; stack = (value_types e.emitted.ty ++ from) ++ S })) (t.known (record { assigned = s; stack = mid ++ S })) (record { assigned = s; stack = (value_types e.emitted.ty ++ from) ++ S }) (record { assigned = s; stack = mid ++ S }) (record { assigned = t.after s; stack = to ++ S }) more.goes_on
          (even_line between (record { assigned = s; stack = (value_types e.emitted.ty ++ from) ++ S })) (fb.run at s S) (fm.run (at + bytes between) s S i)))

  -- of operations without jumps, behind which this is known
  line_between : (os : List Operation) (from to : List VType) → ((s : Assigned) (S : List VType) → Line locals there named os (record { assigned = s; stack = from ++ S })) → ((s : Assigned) (S : List VType) → behind_line os (record { assigned = s; stack = from ++ S }) ≡ record { assigned = s; stack = to ++ S }) → Between os from to
  line_between os from to l e = record {
    run = λ at s S. subst (λ (m : Known). Run locals there named at os (in_line os (record { assigned = s; stack = from ++ S })) (record { assigned = s; stack = from ++ S }) true m) (e s S) (line locals there named os at (record { assigned = s; stack = from ++ S }) (l s S));
    ends = e;
  }

  nothing_between : (top : List VType) → Between [] top top
  nothing_between top = line_between [] top top (λ s S. tt) (λ s S. refl)

  discards_between : (ty : TypeTree) → Between (discards ty) (value_types ty ++ []) []
  discards_between type_is.Int = line_between (Discard ∷ []) (Integer ∷ []) [] (λ s S. ((Integer, S, refl, refl), refl, λ at. refl, tt)) (λ s S. refl)
  discards_between type_is.Boolean = line_between (Discard ∷ []) (Integer ∷ []) [] (λ s S. ((Integer, S, refl, refl), refl, λ at. refl, tt)) (λ s S. refl)
  discards_between type_is.String = line_between (Discard ∷ []) (text_type ∷ []) [] (λ s S. ((text_type, S, refl, refl), refl, λ at. refl, tt)) (λ s S. refl)
  discards_between type_is.Unit = nothing_between []

  text_between : (ty : TypeTree) → Between (to_text ty) (value_types ty ++ []) (text_type ∷ [])
  text_between type_is.Int = line_between (Call helper.TextsOfInt ∷ []) (Integer ∷ []) (text_type ∷ []) (λ s S. ((S, refl), refl, λ at. refl, tt)) (λ s S. refl)
  text_between type_is.Boolean = line_between (Call helper.TextsOfBoolean ∷ []) (Integer ∷ []) (text_type ∷ []) (λ s S. ((S, refl), refl, λ at. refl, tt)) (λ s S. refl)
  text_between type_is.String = nothing_between (text_type ∷ [])
  text_between type_is.Unit = line_between (PushText (codes "kotlin.Unit") ∷ []) [] (text_type ∷ []) (λ s S. (tt, refl, λ at. refl, tt)) (λ s S. refl)

  -- a text behind another
  concat_between : (ty : TypeTree) → Between (to_text ty ++ Call helper.TextsConcat ∷ []) (value_types ty ++ text_type ∷ []) (text_type ∷ [])
  concat_between type_is.Int = line_between (Call helper.TextsOfInt ∷ Call helper.TextsConcat ∷ []) (Integer ∷ text_type ∷ []) (text_type ∷ []) (λ s S. ((text_type ∷ S, refl), refl, λ at. refl, ((S, refl), refl, λ at. refl, tt))) (λ s S. refl)
  concat_between type_is.Boolean = line_between (Call helper.TextsOfBoolean ∷ Call helper.TextsConcat ∷ []) (Integer ∷ text_type ∷ []) (text_type ∷ []) (λ s S. ((text_type ∷ S, refl), refl, λ at. refl, ((S, refl), refl, λ at. refl, tt))) (λ s S. refl)
  concat_between type_is.String = line_between (Call helper.TextsConcat ∷ []) (text_type ∷ text_type ∷ []) (text_type ∷ []) (λ s S. ((S, refl), refl, λ at. refl, tt)) (λ s S. refl)
  concat_between type_is.Unit = line_between (PushText (codes "kotlin.Unit") ∷ Call helper.TextsConcat ∷ []) (text_type ∷ []) (text_type ∷ []) (λ s S. (tt, refl, λ at. refl, ((S, refl), refl, λ at. refl, tt))) (λ s S. refl)

  -- each of several children, from one to the next
  abbrev pub EachFits : List Traced → Assigned → Assigned → Type 0
  EachFits [] a b = a ≡ b
  EachFits (e ∷ es) a b = (c : Assigned) × Fits locals there named e a c × EachFits es c b

  abbrev pub emitted : Traced → Emitted
  emitted x = x.emitted

  ends_so : (x : Several) (t : TracedSeveral) (a b c : Assigned) (from to : List VType) → b ≡ c → FitsAll x t a b from to → FitsAll x t a c from to
  ends_so x t a b c from to e f = subst (λ (s : Assigned). FitsAll x t a s from to) e f

  further_fit : (es : List Traced) (a b : Assigned) → EachFits es a b → FitsAll (further_texts (map emitted es)) (further_texts_traced es) a b (text_type ∷ []) (text_type ∷ [])
  further_fit [] a b h = ends_so nothing nothing_traced a a b (text_type ∷ []) (text_type ∷ []) h (nothing_fits a (text_type ∷ []))
  further_fit (e ∷ es) a b h =
      followed_fits e (to_text e.emitted.ty ++ Call helper.TextsConcat ∷ []) (further_texts (map emitted es)) (further_texts_traced es) a h.0 b (text_type ∷ []) (text_type ∷ []) (text_type ∷ []) h.1 (concat_between e.emitted.ty) (further_fit es h.0 b h.2)

  pub texts_fit : (es : List Traced) (a b : Assigned) → EachFits es a b → FitsAll (texts (map emitted es)) (texts_traced es) a b [] (text_type ∷ [])
  texts_fit [] a b h = ends_so (texts []) (texts_traced []) a a b [] (text_type ∷ []) h (record {
    sized = refl;
    even = λ k. refl;
    grows = λ s x i on. on;
    covers = λ s i. i;
    run = λ at s S i. line locals there named (PushText [] ∷ []) at (record { assigned = s; stack = S }) (tt, refl, λ at. refl, tt);
  })
  texts_fit (e ∷ es) a b h =
      followed_fits e (to_text e.emitted.ty) (further_texts (map emitted es)) (further_texts_traced es) a h.0 b [] (text_type ∷ []) (text_type ∷ []) h.1 (text_between e.emitted.ty) (further_fit es h.0 b h.2)

  abbrev pub last_of : TypeTree → List Traced → TypeTree
  last_of ty [] = ty
  last_of ty (e ∷ es) = last_of e.emitted.ty es

  no_more : (top : List VType) → top ++ [] ≡ top
  no_more top = append-nil top

  last_fits : (e : Traced) (a b : Assigned) → Fits locals there named e a b → FitsAll (followed e.emitted [] nothing) (followed_traced e [] nothing_traced) a b [] (value_types e.emitted.ty)
  last_fits e a b fe =
      subst (λ (to : List VType). FitsAll (followed e.emitted [] nothing) (followed_traced e [] nothing_traced) a b [] to) (no_more (value_types e.emitted.ty))
      (followed_fits e [] nothing nothing_traced a b b [] (value_types e.emitted.ty ++ []) (value_types e.emitted.ty ++ []) fe (nothing_between (value_types e.emitted.ty ++ [])) (nothing_fits b (value_types e.emitted.ty ++ [])))

  pub turns_fit : (es : List Traced) (a b : Assigned) → EachFits es a b → FitsAll (turn_code (map emitted es)) (in_turn_traced es) a b [] (value_types (last_of type_is.Unit es))
  turns_fit [] a b h = ends_so nothing nothing_traced a a b [] [] h (nothing_fits a [])
  turns_fit (e ∷ []) a b h = ends_so (followed e.emitted [] nothing) (followed_traced e [] nothing_traced) a h.0 b [] (value_types e.emitted.ty) h.2 (last_fits e a h.0 h.1)
  turns_fit (e ∷ f ∷ es) a b h =
      followed_fits e (discards e.emitted.ty) (turn_code (map emitted (f ∷ es))) (in_turn_traced (f ∷ es)) a h.0 b [] [] (value_types (last_of type_is.Unit (f ∷ es))) h.1 (discards_between e.emitted.ty) (turns_fit (f ∷ es) h.0 b h.2)

  -- children alone
  without : (goes : Bool) (os : List Operation) → os ++ kept goes [] ≡ os
  without true os = append-nil os
  without false os = append-nil os

  pub alone_fits : (x : Several) (t : TracedSeveral) (ty : TypeTree) (a b : Assigned) → FitsAll x t a b [] (value_types ty) → Fits locals there named (plain_traced (whole x [] ty) t.after t.known) a b
  alone_fits x t ty a b f =
      plain_fits locals there named ty (x.size + kept_bytes x.goes_on 0) (1 + x.nodes) x.goes_on (x.code ++ kept x.goes_on []) t.after t.known a b
      (whole_size x [] f.sized)
      (λ k. ap length (without x.goes_on x.code) ∙ f.even k)
      f.grows f.covers
      (λ at k i. subst (λ (os : List Operation). Run locals there named at os (t.known k) k x.goes_on (with_value ty (t.after k.assigned) k)) (sym (without x.goes_on x.code)) (f.run at k.assigned k.stack i))

  -- one text is written
  pub written_fits : (e : Traced) (a b : Assigned) → e.emitted.ty ≡ type_is.String → Fits locals there named e a b →
      Fits locals there named (plain_traced (whole (values (e.emitted ∷ [])) (Call helper.ConsoleWrite ∷ []) type_is.Unit) (values_traced (e ∷ [])).after (λ k. (values_traced (e ∷ [])).known k ++ kept_known (values (e.emitted ∷ [])).goes_on (with_value type_is.String ((values_traced (e ∷ [])).after k.assigned) k ∷ []))) a b
  written_fits e a b t fe =
      plain_fits locals there named type_is.Unit (x.size + kept_bytes x.goes_on 3) (1 + x.nodes) x.goes_on (x.code ++ kept x.goes_on (Call helper.ConsoleWrite ∷ [])) y.after (λ k. y.known k ++ kept_known x.goes_on (with_value type_is.String (y.after k.assigned) k ∷ [])) a b
      (whole_size x (Call helper.ConsoleWrite ∷ []) f.sized)
      (λ k. even_both x.code (kept x.goes_on (Call helper.ConsoleWrite ∷ [])) (y.known k) (kept_known x.goes_on (with_value type_is.String (y.after k.assigned) k ∷ [])) (f.even k) (kept_even x.goes_on (Call helper.ConsoleWrite ∷ []) (with_value type_is.String (y.after k.assigned) k ∷ []) refl))
      f.grows f.covers
      (λ at k i. tail locals there named at x.code (Call helper.ConsoleWrite ∷ []) (y.known k) (with_value type_is.String (y.after k.assigned) k ∷ []) k (with_value type_is.String (y.after k.assigned) k) (with_value type_is.Unit (y.after k.assigned) k) x.goes_on (f.even k) (f.run at k.assigned k.stack i)
      (λ on. line locals there named (Call helper.ConsoleWrite ∷ []) (at + bytes x.code) (with_value type_is.String (y.after k.assigned) k) ((k.stack, refl), refl, λ at. refl, tt)))
    where
      x : Several
      x = values (e.emitted ∷ [])

      y : TracedSeveral
      y = values_traced (e ∷ [])

      f : FitsAll (values (e.emitted ∷ [])) (values_traced (e ∷ [])) a b [] (text_type ∷ [])
      f = subst (λ (ty : TypeTree). FitsAll (values (e.emitted ∷ [])) (values_traced (e ∷ [])) a b [] (value_types ty)) t (last_fits e a b fe)

  -- ---- nodes without children

  leaf_fits : (os : List Operation) (ty : TypeTree) (a b : Assigned) → ((s : Assigned) → Within locals there named a s → Within locals there named b s) → ((at : ℕ) (k : Known) → Within locals there named a k.assigned → Run locals there named at os (in_line os k) k true (with_value ty k.assigned k)) → Fits locals there named (leaf_traced (leaf os ty)) a b
  leaf_fits os ty a b covers run = plain_fits locals there named ty (bytes os) 1 true os (λ s. s) (in_line os) a b refl (even_line os) (λ s x i on. on) covers run

  literal_fits : (o : Operation) (ty : TypeTree) (a : Assigned) → ((k : Known) → Line locals there named (o ∷ []) k) → ((k : Known) → effect o k ≡ with_value ty k.assigned k) → Fits locals there named (leaf_traced (leaf (o ∷ []) ty)) a a
  literal_fits o ty a l e = leaf_fits (o ∷ []) ty a a (λ s i. i) (λ at k i. subst (λ (m : Known). Run locals there named at (o ∷ []) (k ∷ []) k true m) (e k) (line locals there named (o ∷ []) at k (l k)))

  truth_fits : (b : Bool) (a : Assigned) → Fits locals there named (leaf_traced (truth_code b type_is.Boolean)) a a
  truth_fits b a =
      let f = literal_fits (PushInt (bit b)) type_is.Boolean a (λ k. (tt, refl, λ at. refl, tt)) (λ k. refl) in
      record {
        sized = record { whole = f.sized.whole; test = f.sized.test };
        even = f.even;
        even_test = f.even_test;
        grows = f.grows;
        grows_passed = f.grows_passed;
        grows_jumped = f.grows_jumped;
        covers = f.covers;
        covers_passed = f.covers_passed;
        covers_jumped = f.covers_jumped;
        sure = λ e s i. i;
        lives = λ e. refl;
        on = f.on;
        names = f.names;
        run = f.run;
        run_test = f.run_test;
      }

  unset_within : (x : ℕ) (a s : Assigned) → Within locals there named a s → Within locals there named (marked x false a) s
  unset_within x a s i y c on = by_same (nat_eq y x) on
    where
      by_same : (t : Bool) → cond t false (a y) ≡ true → s y ≡ true
      by_same true e = absurd cc
      by_same false e = i y c e

  -- ---- every node

  type_so : (e : Core) (ty : TypeTree) → e.ty ≡ ty → (traced_of e).emitted.ty ≡ ty
  type_so e ty h = type_of_traced e ∙ h

  last_so : (ty ty' : TypeTree) (es : List Core) → ty ≡ ty' → last_of ty (map traced_of es) ≡ last_type ty' es
  last_so ty ty' [] h = h
  last_so ty ty' (e ∷ es) h = last_so (traced_of e).emitted.ty e.ty es (type_of_traced e)

  by_kind : (e : Core) (y : Kind-F Kind Core) (ty : TypeTree) (a b : Assigned) → out-Kind e.kind ≡ y → e.ty ≡ ty → Fits locals there named (traced_kind (map-Kind Kind Core TracedKind Traced traced_of_kind traced_of y) ty) a b → Fits locals there named (traced_of e) a b
  by_kind e y ty a b h t f = subst (λ (x : Traced). Fits locals there named x a b) (sym (traced_opened e y ty h t)) f

  one_string : (v : Core) → v.ty ∷ [] ≡ type_is.String ∷ [] → v.ty ≡ type_is.String
  one_string v e = cc

  negates : (ty : TypeTree) → ty ≡ type_is.Int → (at : ℕ) (s : Assigned) (S : List VType) → Run locals there named at (Negate ∷ []) (in_line (Negate ∷ []) (valued locals there named ty s S)) (valued locals there named ty s S) true (valued locals there named type_is.Int s S)
  negates ty e at s S = subst (λ (t : TypeTree). Run locals there named at (Negate ∷ []) (in_line (Negate ∷ []) (valued locals there named t s S)) (valued locals there named t s S) true (valued locals there named type_is.Int s S)) (sym e) (line locals there named (Negate ∷ []) at (valued locals there named type_is.Int s S) ((S, refl), refl, λ at. refl, tt))

  mutual
    pub traced : (e : Core) (a b : Assigned) → Formed locals e a b → Fits locals there named (traced_of e) a b
    traced e a b (Formed.IntLit _ n _ k t) = by_kind e (Kind-F.IntLit n) type_is.Int a a k t (literal_fits (PushInt n) type_is.Int a (λ k. (tt, refl, λ at. refl, tt)) (λ k. refl))
    traced e a b (Formed.StrLit _ u _ k t) = by_kind e (Kind-F.StrLit u) type_is.String a a k t (literal_fits (PushText u) type_is.String a (λ k. (tt, refl, λ at. refl, tt)) (λ k. refl))
    traced e a b (Formed.BoolLit _ u _ k t) = by_kind e (Kind-F.BoolLit u) type_is.Boolean a a k t (truth_fits u a)
    traced e a b (Formed.LocalRead _ x l _ k g t on) = by_kind e (Kind-F.LocalRead x) l.ty a a k t (leaf_fits (loads l.ty x) l.ty a a (λ s i. i) (λ at k i. loaded locals there named at x l k g (λ q. i x (ap counts_in g ∙ q) on)))
    traced e a b (Formed.LocalWrite _ x l v _ c k g is_var t u f) =
        by_kind e (Kind-F.LocalWrite x v) type_is.Unit a (marked x true c) k t
        (then_fits locals there named (traced_of v) (stores (traced_of v).emitted.ty x) (marked x true) type_is.Unit a c (marked x true c) (traced v a c f) (within_marked locals there named x) (λ s i. mark_within locals there named x c s i) (λ at s S. stored locals there named at x l (traced_of v).emitted.ty s S g (type_so v l.ty u)))
    traced e a b (Formed.DeclareUnset _ x l _ k g t) = by_kind e (Kind-F.Declare x None) type_is.Unit a (marked x false a) k t (leaf_fits [] type_is.Unit a (marked x false a) (λ s i. unset_within x a s i) (λ at k i. idle locals there named at k))
    traced e a b (Formed.Declare _ x l v _ c k g t u f) =
        by_kind e (Kind-F.Declare x (Some v)) type_is.Unit a (marked x true c) k t
        (then_fits locals there named (traced_of v) (stores (traced_of v).emitted.ty x) (marked x true) type_is.Unit a c (marked x true c) (traced v a c f) (within_marked locals there named x) (λ s i. mark_within locals there named x c s i) (λ at s S. stored locals there named at x l (traced_of v).emitted.ty s S g (type_so v l.ty u)))
    traced e a d (Formed.NumBinary _ op left right _ c _ k t tl tz f g) =
        by_kind e (Kind-F.NumBinary op left right) type_is.Int a d k t (two_fits locals there named (traced_of left) (traced_of right) (operator_of op) a c d (traced left a c f) (traced right c d g) (type_so left type_is.Int tl) (type_so right type_is.Int tz))
    traced e a c (Formed.NumUnary _ unary.Minus v _ _ k t u f) =
        by_kind e (Kind-F.NumUnary unary.Minus v) type_is.Int a c k t (then_fits locals there named (traced_of v) (Negate ∷ []) (λ s. s) type_is.Int a c c (traced v a c f) (λ s x i on. on) (λ s i. i) (negates (traced_of v).emitted.ty (type_so v type_is.Int u)))
    traced e a d (Formed.NumCompare _ order left right _ c _ k t tl tz f g) =
        by_kind e (Kind-F.NumCompare order left right) type_is.Boolean a d k t (compared_fits locals there named (traced_of left) (traced_of right) (λ w. test_of w order) a c d (traced left a c f) (traced right c d g) (type_so left type_is.Int tl) (type_so right type_is.Int tz))
    traced e a d (Formed.Equal _ left right _ c _ k t tl tz f g) =
        by_kind e (Kind-F.Equal left right) type_is.Boolean a d k t (compared_fits locals there named (traced_of left) (traced_of right) equal_test a c d (traced left a c f) (traced right c d g) (type_so left type_is.Int tl) (type_so right type_is.Int tz))
    traced e a c (Formed.Not _ v _ _ k t u f) = by_kind e (Kind-F.Not v) type_is.Boolean a c k t (negated_fits locals there named (traced_of v) a c (type_so v type_is.Boolean u) (traced v a c f))
    traced e a after (Formed.And _ left right _ c d _ k t tl tz f g lc ld) =
        by_kind e (Kind-F.And left right) type_is.Boolean a after k t (short_fits locals there named false (traced_of left) (traced_of right) a c d after (type_so left type_is.Boolean tl) (type_so right type_is.Boolean tz) (traced left a c f) (traced right c d g) lc ld)
    traced e a after (Formed.Or _ left right _ c d _ k t tl tz f g lc ld) =
        by_kind e (Kind-F.Or left right) type_is.Boolean a after k t (short_fits locals there named true (traced_of left) (traced_of right) a c d after (type_so left type_is.Boolean tl) (type_so right type_is.Boolean tz) (traced left a c f) (traced right c d g) lc ld)
    traced e a c (Formed.Concat _ parts _ _ k t f) =
        by_kind e (Kind-F.Concat parts) type_is.String a c k t (alone_fits (texts (map emitted (map traced_of parts))) (texts_traced (map traced_of parts)) type_is.String a c (texts_fit (map traced_of parts) a c (traced_all parts a c f)))
    traced e a c (Formed.CallNative _ native_kind.ConsoleWrite [] _ _ k t u f) = absurd cc
    traced e a c (Formed.CallNative _ native_kind.ConsoleWrite (v ∷ []) _ _ k t u f) =
        let h = traced_all (v ∷ []) a c f in
        by_kind e (Kind-F.CallNative native_kind.ConsoleWrite (v ∷ [])) type_is.Unit a c k t (written_fits (traced_of v) a c (type_so v type_is.String (one_string v u)) (subst (λ (s : Assigned). Fits locals there named (traced_of v) a s) h.2 h.1))
    traced e a c (Formed.CallNative _ native_kind.ConsoleWrite (v ∷ w ∷ vs) _ _ k t u f) = absurd cc
    traced e a c (Formed.Block _ parts _ _ k t f) =
        by_kind e (Kind-F.Block parts) (last_type type_is.Unit parts) a c k t (alone_fits (turn_code (map emitted (map traced_of parts))) (in_turn_traced (map traced_of parts)) (last_type type_is.Unit parts) a c
        (subst (λ (ty : TypeTree). FitsAll (turn_code (map emitted (map traced_of parts))) (in_turn_traced (map traced_of parts)) a c [] (value_types ty)) (last_so type_is.Unit type_is.Unit parts refl) (turns_fit (map traced_of parts) a c (traced_all parts a c f))))
    traced e a after (Formed.IfHeld _ test first _ c d _ k t tt' th f g lc ld) =
        by_kind e (Kind-F.If test first None) type_is.Unit a after k t (if_fits locals there named (traced_of test) (traced_of first) a c d after (type_so test type_is.Boolean tt') (type_so first type_is.Unit th) (traced test a c f) (traced first c d g) lc ld)
    traced e a after (Formed.If _ test first other _ c d d' _ k tt' th tf f g h ld ld') =
        by_kind e (Kind-F.If test first (Some other)) e.ty a after k refl (if_else_fits locals there named e.ty (traced_of test) (traced_of first) (traced_of other) a c d d' after (type_so test type_is.Boolean tt') (type_so first e.ty th) (type_so other e.ty tf) (traced test a c f) (traced first c d g) (traced other c d' h) ld ld')
    traced e a c (Formed.While _ label test body _ loop _ d k t tt' tb la f g lc) =
        by_kind e (Kind-F.While label test body) type_is.Unit a c k t (while_fits locals there named (traced_of test) (traced_of body) a loop c d (type_so test type_is.Boolean tt') la (traced test loop c f) (traced body c d g))

    pub traced_all : (es : List Core) (a b : Assigned) → FormedAll locals es a b → EachFits (map traced_of es) a b
    traced_all [] a b (FormedAll.NoMore _) = refl
    traced_all (e ∷ es) a b (FormedAll.Next _ _ _ c _ f g) = (c, traced e a c f, traced_all es c b g)

  -- ---- a whole body

  leave_good : (at : ℕ) (s : Assigned) → Good locals there named at Leave (record { assigned = s; stack = [] })
  leave_good at s = record { takes = tt; jumps = λ to q. absurd (no_jump locals there named to q); goes = λ q. absurd cc }

  leaves : (ty : TypeTree) (at : ℕ) (s : Assigned) → Run locals there named at (discards ty ++ Leave ∷ []) (in_line (discards ty ++ Leave ∷ []) (valued locals there named ty s [])) (valued locals there named ty s []) false (record { assigned = s; stack = [] })
  leaves type_is.Int at s = λ h f. let h1 = more_stands locals there named at Discard (Leave ∷ []) (valued locals there named type_is.Int s []) (record { assigned = s; stack = [] } ∷ []) h in ((discard_good locals there named at Integer s [] refl h1.0, (leave_good (at + 1) s, tt)), flows_here locals there named (valued locals there named type_is.Int s []) at h.0)
  leaves type_is.Boolean at s = λ h f. let h1 = more_stands locals there named at Discard (Leave ∷ []) (valued locals there named type_is.Boolean s []) (record { assigned = s; stack = [] } ∷ []) h in ((discard_good locals there named at Integer s [] refl h1.0, (leave_good (at + 1) s, tt)), flows_here locals there named (valued locals there named type_is.Boolean s []) at h.0)
  leaves type_is.String at s = λ h f. let h1 = more_stands locals there named at Discard (Leave ∷ []) (valued locals there named type_is.String s []) (record { assigned = s; stack = [] } ∷ []) h in ((discard_good locals there named at text_type s [] refl h1.0, (leave_good (at + 1) s, tt)), flows_here locals there named (valued locals there named type_is.String s []) at h.0)
  leaves type_is.Unit at s = λ h f. ((leave_good at s, tt), flows_here locals there named (valued locals there named type_is.Unit s []) at h.0)

  -- something is known at each operation of a body's code
  pub body_even : (body : Core) (b : Assigned) → Formed locals body none_assigned b → length (body_code body) ≡ length (body_known body)
  body_even body b f =
      subst (λ (x : Emitted). length (x.code ++ kept x.goes_on (discards body.ty ++ Leave ∷ [])) ≡ length (body_known body)) (emitted_is body)
      (let t = traced_of body in
      even_both t.emitted.code (kept t.emitted.goes_on (discards body.ty ++ Leave ∷ [])) (t.known nothing_known) (kept_known t.emitted.goes_on (in_line (discards body.ty ++ Leave ∷ []) (behind t nothing_known)))
      ((traced body none_assigned b f).even nothing_known) (kept_even t.emitted.goes_on (discards body.ty ++ Leave ∷ []) (in_line (discards body.ty ++ Leave ∷ []) (behind t nothing_known)) (even_line (discards body.ty ++ Leave ∷ []) (behind t nothing_known))))

  -- what is known in a body's code is right
  pub body_good : (body : Core) (b : Assigned) → Formed locals body none_assigned b → Stands locals there named 0 (body_code body) (body_known body) → AllGood locals there named 0 (body_code body) (body_known body) × Flows locals there named nothing_known 0
  body_good body b f h =
      subst (λ (x : Emitted). Stands locals there named 0 (x.code ++ kept x.goes_on last) (body_known body) → AllGood locals there named 0 (x.code ++ kept x.goes_on last) (body_known body) × Flows locals there named nothing_known 0) (emitted_is body) good h
    where
      last : List Operation
      last = discards body.ty ++ Leave ∷ []

      t : Traced
      t = traced_of body

      fits : Fits locals there named t none_assigned b
      fits = traced body none_assigned b f

      good : Stands locals there named 0 (t.emitted.code ++ kept t.emitted.goes_on last) (body_known body) → AllGood locals there named 0 (t.emitted.code ++ kept t.emitted.goes_on last) (body_known body) × Flows locals there named nothing_known 0
      good h =
          in_turn locals there named 0 t.emitted.code last (t.known nothing_known) (in_line last (behind t nothing_known)) nothing_known (behind t nothing_known) (record { assigned = t.after none_assigned; stack = [] }) t.emitted.goes_on false (fits.even nothing_known) (fits.run 0 nothing_known (λ x i on. on))
          (λ on. subst (λ (ty : TypeTree). Run locals there named (0 + bytes t.emitted.code) last (in_line last (valued locals there named ty (t.after none_assigned) [])) (valued locals there named ty (t.after none_assigned) []) false (record { assigned = t.after none_assigned; stack = [] })) (sym (type_of_traced body)) (leaves body.ty (0 + bytes t.emitted.code) (t.after none_assigned)))
          h (λ on. absurd (let q = goes_second locals there named t.emitted.goes_on false on in cc))
