-- What a walk passes of several nodes, one after the other.
use Rattle.std.proofs.Common.{append-nil, append_assoc, ◌≡◌, ℕ, ◌+◌, ◌-◌, ◌<◌, ◌≤◌, List, [], ◌∷◌, ◌++◌, length, map, drop, get_or, length-append, length-drop, Bool, true, false, refl, sym, ap, ◌∙◌, subst, arith, ⊎_elim}
use Rattle.std.specs.Prelude.{◌&&◌}
use Rattle.std.proofs.lemmas.Bool.{cases_lt}
use Rattle.std.proofs.lemmas.List.{drop_at}
use Rattle.kc_core.specs.declared.tree.TypeTree.{TypeTree}
use Rattle.kc_core.specs.declared.tree.TypeTree.TheVariants as type_is
use Rattle.kc_core.specs.declared.tree.Local.{Local}
use Rattle.kc_core.specs.declared.tree.Core.{Core}
use Rattle.kc_core.specs.Formed.{Assigned}
use Rattle.class_file.specs.declared.class.VType.{VType}
use Rattle.stack_code.specs.declared.constants.Helper.TheVariants as helper
use Rattle.stack_code.specs.declared.frames.Walk.{Walk}
use Rattle.stack_code.specs.Code.{Operation, PushText, Call, kept, discards, to_text, Emitted, Several, nothing, followed, values, in_turn, texts}
use Rattle.stack_code.specs.Emission.{after_part, texts_from}
use Rattle.stack_code.specs.Frames.{Known, text_type, value_types, in_line, behind_line, kept_known, with_assigned, with_value, Traced, behind, TracedSeveral, nothing_traced, followed_traced, traced_kind, values_traced, in_turn_traced, texts_traced, traced_of}
use Rattle.stack_code.specs.Walking.{known_of, Moves, Walks, WalksOne, Does, DoesLine, DoesKind, DoesValue, DoesValues, DoesText, PartlyWalks, emitted_all, joined, with_text, texts_stack, texts_traced_from, texts_layer, native_layer, block_layer}
use Rattle.stack_code.proofs.Traces.{type_of_traced}
use Rattle.stack_code.proofs.Passing.{off, and_and, walks_none, walks_then, moves_before, moves_after}
use Rattle.stack_code.proofs.Layered.{moved_on}
use Rattle.stack_code.proofs.Walks.{next_item}

regroup : (on g : Bool) (f e b d : List Operation) → (f ++ kept on (e ++ kept g b)) ++ kept (on && g) d ≡ f ++ kept on (e ++ kept g (b ++ d))
regroup true true f e b d = append_assoc f (e ++ b) d ∙ ap (λ w. f ++ w) (append_assoc e b d)
regroup true false f e b d = append-nil (f ++ (e ++ []))
regroup false g f e b d = append-nil (f ++ [])

regroup_known : (on g : Bool) (f e b d : List Known) → (f ++ kept_known on (e ++ kept_known g b)) ++ kept_known (on && g) d ≡ f ++ kept_known on (e ++ kept_known g (b ++ d))
regroup_known true true f e b d = append_assoc f (e ++ b) d ∙ ap (λ w. f ++ w) (append_assoc e b d)
regroup_known true false f e b d = append-nil (f ++ (e ++ []))
regroup_known false g f e b d = append-nil (f ++ [])

kept_nothing : (on : Bool) (os : List Operation) → os ++ kept on [] ≡ os
kept_nothing true os = append-nil os
kept_nothing false os = append-nil os

known_nothing : (on : Bool) (ks : List Known) → ks ++ kept_known on [] ≡ ks
known_nothing true ks = append-nil ks
known_nothing false ks = append-nil ks

-- ---- what is left, by its first part

abbrev es_of : List Core → List Emitted
es_of es = emitted_all (map traced_of es)

abbrev ts_of : List Core → List Traced
ts_of es = map traced_of es

turn_first : (e : Core) (rest : List Core) (last : Bool) → (last ≡ true → rest ≡ []) → (last ≡ false → 0 < length rest) →
    (in_turn (es_of (e ∷ rest)) ≡ followed (traced_of e).emitted (after_part last (traced_of e).emitted.ty) (in_turn (es_of rest))) × (in_turn_traced (ts_of (e ∷ rest)) ≡ followed_traced (traced_of e) (after_part last (traced_of e).emitted.ty) (in_turn_traced (ts_of rest)))
turn_first e [] true f g = (refl, refl)
turn_first e [] false f g = absurd (let h = g refl in omega (arith, h))
turn_first e (x ∷ rest) true f g = absurd (let h = f refl in cc)
turn_first e (x ∷ rest) false f g = (refl, refl)

not_equal : (n m : ℕ) → (n ≡ m → ⊥) → n ≤ m → n < m
not_equal n m k q = ⊎_elim (λ a. a) (λ a. absurd (k (omega arith))) (cases_lt n m)

none_left : (es : List Core) (i : ℕ) → length es ≤ i → drop i es ≡ []
none_left es i h = by (drop i es) (let l = length-drop i es in omega (arith, l, h))
  where
    by : (w : List Core) → length w ≡ 0 → w ≡ []
    by [] e = refl
    by (x ∷ w) e = absurd (omega (arith, e))

module _ (locals : List Local) (entry : ℕ → Bool) where
  abbrev V : Bool → Walk → Walk → List Operation → List Known → Known → Type 0
  V l s t os ks k = Walks locals entry l s t os ks k

  abbrev P : Bool → Bool → Walk → Walk → Several → Several → TracedSeveral → TracedSeveral → Type 0
  P l on s t rest total left whole = PartlyWalks locals entry l on s t rest total left whole

  pub partly_start : (l : Bool) (s : Walk) (total : Several) (whole : TracedSeveral) → P l true s s total total whole whole
  partly_start l s total whole = record {
    front = [];
    front_known = [];
    walks = walks_none locals entry l s s (known_of s) (record { at = refl; frames = refl; known = refl });
    code = refl;
    known = refl;
    after = refl;
    goes = refl;
  }

  partly_step : (l on g lon on2 : Bool) (s t u : Walk) (e : Traced) (between : List Operation) (more total : Several) (left whole : TracedSeveral) → P l on s t (followed e.emitted between more) total (followed_traced e between left) whole → lon ≡ (l && on) →
      V lon t u (e.emitted.code ++ kept e.emitted.goes_on between) (e.known (known_of t) ++ kept_known e.emitted.goes_on (in_line between (behind e (known_of t)))) (known_of u) → g ≡ e.emitted.goes_on → on2 ≡ (on && g) →
      left.known (behind_line between (behind e (known_of t))) ≡ left.known (known_of u) → (known_of u).assigned ≡ e.after (known_of t).assigned → P l on2 s u more total left whole
  partly_step l on g lon on2 s t u e between more total left whole p q w ge oe same_known same_after = record {
    front = p.front ++ kept on (e.emitted.code ++ kept e.emitted.goes_on between);
    front_known = p.front_known ++ kept_known on (e.known (known_of t) ++ kept_known e.emitted.goes_on (in_line between (behind e (known_of t))));
    walks = walks_then locals entry l on s t u p.front (e.emitted.code ++ kept e.emitted.goes_on between) p.front_known (e.known (known_of t) ++ kept_known e.emitted.goes_on (in_line between (behind e (known_of t)))) (known_of t) (known_of u) p.walks
        (subst (λ b. V b t u (e.emitted.code ++ kept e.emitted.goes_on between) (e.known (known_of t) ++ kept_known e.emitted.goes_on (in_line between (behind e (known_of t)))) (known_of u)) q w);
    code = ap (λ b. (p.front ++ kept on (e.emitted.code ++ kept e.emitted.goes_on between)) ++ kept b more.code) is ∙ regroup on e.emitted.goes_on p.front e.emitted.code between more.code ∙ p.code;
    known = ap (λ b. (p.front_known ++ kept_known on (e.known (known_of t) ++ kept_known e.emitted.goes_on (in_line between (behind e (known_of t))))) ++ kept_known b (left.known (known_of u))) is
        ∙ ap (λ ks. (p.front_known ++ kept_known on (e.known (known_of t) ++ kept_known e.emitted.goes_on (in_line between (behind e (known_of t))))) ++ kept_known (on && e.emitted.goes_on) ks) (sym same_known)
        ∙ regroup_known on e.emitted.goes_on p.front_known (e.known (known_of t)) (in_line between (behind e (known_of t))) (left.known (behind_line between (behind e (known_of t)))) ∙ p.known;
    after = ap left.after same_after ∙ p.after;
    goes = ap (λ b. b && more.goes_on) is ∙ and_and on e.emitted.goes_on more.goes_on ∙ p.goes;
  }
    where
      is : on2 ≡ (on && e.emitted.goes_on)
      is = oe ∙ ap (λ b. on && b) ge

  -- nothing is left
  partly_all : (l on : Bool) (s t : Walk) (rest total : Several) (left whole : TracedSeveral) → rest ≡ nothing → left ≡ nothing_traced → P l on s t rest total left whole → V l s t total.code (whole.known (known_of s)) (known_of t) × ((known_of t).assigned ≡ whole.after (known_of s).assigned) × (on ≡ total.goes_on)
  partly_all l on s t rest total left whole re le p = by (subst (λ (r : Several). P l on s t r total nothing_traced whole) re (subst (λ (r : TracedSeveral). P l on s t rest total r whole) le p))
    where
      on_only : (b : Bool) → (b && true) ≡ b
      on_only true = refl
      on_only false = refl

      by : P l on s t nothing total nothing_traced whole → V l s t total.code (whole.known (known_of s)) (known_of t) × ((known_of t).assigned ≡ whole.after (known_of s).assigned) × (on ≡ total.goes_on)
      by p = (
        subst (λ os. V l s t os (whole.known (known_of s)) (known_of t)) (sym (kept_nothing on p.front) ∙ p.code) (subst (λ ks. V l s t p.front ks (known_of t)) (sym (known_nothing on p.front_known) ∙ p.known) p.walks),
        p.after,
        sym (on_only on) ∙ p.goes,
      )

  -- ---- blocks

  line_discards : (ty : TypeTree) (A : Assigned) (k : Known) → behind_line (discards ty) (with_value ty A k) ≡ with_assigned A k
  line_discards type_is.Int A k = refl
  line_discards type_is.Boolean A k = refl
  line_discards type_is.String A k = refl
  line_discards type_is.Unit A k = refl

  pub last_turn : (l g : Bool) (s t : Walk) (e : Traced) → Does locals entry l s t e g → DoesLine locals entry l s t e [] (in_line []) g
  last_turn l g s t e d = record {
    goes_is = d.goes_is;
    walks = subst (λ os. V l s t os (e.known (known_of s) ++ kept_known e.emitted.goes_on []) (with_assigned (e.after (known_of s).assigned) (known_of s))) (sym (kept_nothing e.emitted.goes_on e.emitted.code))
        (subst (λ ks. V l s t e.emitted.code ks (with_assigned (e.after (known_of s).assigned) (known_of s))) (sym (known_nothing e.emitted.goes_on (e.known (known_of s)))) d.walks);
  }

  pub turn_on : (l on g lon on2 : Bool) (s t u : Walk) (es : List Core) (i : ℕ) (e : Core) (last : Bool) (total : Several) (whole : TracedSeveral) → i < length es → e ≡ get_or es i e → (last ≡ true → i + 1 ≡ length es) → (last ≡ false → i + 1 ≡ length es → ⊥) →
      P l on s t (in_turn (es_of (drop i es))) total (in_turn_traced (ts_of (drop i es))) whole × ((known_of t).stack ≡ (known_of s).stack) → lon ≡ (l && on) → DoesLine locals entry lon t u (traced_of e) (after_part last e.ty) (in_line (after_part last e.ty)) g → on2 ≡ (on && g) →
      P l on2 s u (in_turn (es_of (drop (i + 1) es))) total (in_turn_traced (ts_of (drop (i + 1) es))) whole × ((known_of u).stack ≡ (known_of s).stack)
  turn_on l on g lon on2 s t u es i e last total whole lt h f k p q d oe = (
    partly_step l on g lon on2 s t u x between (in_turn (es_of rest)) total (in_turn_traced (ts_of rest)) whole
        (subst (λ (r : Several). P l on s t r total (followed_traced x between (in_turn_traced (ts_of rest))) whole) (ap (λ w. in_turn (es_of w)) left ∙ first.0)
        (subst (λ (r : TracedSeveral). P l on s t (in_turn (es_of (drop i es))) total r whole) (ap (λ w. in_turn_traced (ts_of w)) left ∙ first.1) p.0))
        q (record { even = walked.even; at = walked.at; frames = walked.frames; known = refl }) d.goes_is oe (same_known last refl) (ap (λ (k : Known). k.assigned) walked.known),
    ap (λ (k : Known). k.stack) walked.known ∙ p.1,
  )
    where
      x : Traced
      x = traced_of e

      between : List Operation
      between = after_part last x.emitted.ty

      rest : List Core
      rest = drop (i + 1) es

      K : Known
      K = known_of t

      left : drop i es ≡ e ∷ rest
      left = next_item es i e lt h

      first : (in_turn (es_of (e ∷ rest)) ≡ followed x.emitted between (in_turn (es_of rest))) × (in_turn_traced (ts_of (e ∷ rest)) ≡ followed_traced x between (in_turn_traced (ts_of rest)))
      first = turn_first e rest last (λ t. none_left es (i + 1) (let b = f t in omega (arith, b))) (λ t. (let l = length-drop (i + 1) es in let m = not_equal (i + 1) (length es) (k t) (omega (arith, lt)) in omega (arith, l, m)))

      walked : V lon t u (x.emitted.code ++ kept x.emitted.goes_on between) (x.known K ++ kept_known x.emitted.goes_on (in_line between (behind x K))) (with_assigned (x.after K.assigned) K)
      walked = subst (λ (v : TypeTree). V lon t u (x.emitted.code ++ kept x.emitted.goes_on (after_part last v)) (x.known K ++ kept_known x.emitted.goes_on (in_line (after_part last v) (behind x K))) (with_assigned (x.after K.assigned) K)) (sym (type_of_traced e)) d.walks

      same_known : (b : Bool) → last ≡ b → (in_turn_traced (ts_of rest)).known (behind_line between (behind x K)) ≡ (in_turn_traced (ts_of rest)).known (known_of u)
      same_known true is = subst (λ (w : List Core). (in_turn_traced (ts_of w)).known (behind_line between (behind x K)) ≡ (in_turn_traced (ts_of w)).known (known_of u)) (sym (none_left es (i + 1) (let b = f is in omega (arith, b)))) refl
      same_known false is = ap (in_turn_traced (ts_of rest)).known (ap (λ b. behind_line (after_part b x.emitted.ty) (behind x K)) is ∙ line_discards x.emitted.ty (x.after K.assigned) K ∙ sym walked.known)

  pub block_does : (l on : Bool) (s t : Walk) (es : List Core) (i : ℕ) → length es ≤ i → P l on s t (in_turn (es_of (drop i es))) (in_turn (es_of es)) (in_turn_traced (ts_of (drop i es))) (in_turn_traced (ts_of es)) × ((known_of t).stack ≡ (known_of s).stack) → DoesKind locals entry l s t (block_layer (ts_of es)) on
  block_does l on s t es i le p ty =
      let a = partly_all l on s t _ (in_turn (es_of es)) _ (in_turn_traced (ts_of es)) (ap (λ w. in_turn (es_of w)) (none_left es i le)) (ap (λ w. in_turn_traced (ts_of w)) (none_left es i le)) p.0 in
      record {
        goes_is = a.2;
        walks = subst (λ os. V l s t os ((in_turn_traced (ts_of es)).known (known_of s)) (with_assigned ((in_turn_traced (ts_of es)).after (known_of s).assigned) (known_of s))) (sym (kept_nothing (in_turn (es_of es)).goes_on (in_turn (es_of es)).code))
            (moves_after locals entry l s t t _ _ _ _ a.0 (record { at = refl; frames = refl; known = ap (λ (A : Assigned). record { assigned = A; stack = (known_of t).stack }) a.1 ∙ ap (λ types. record { assigned = (in_turn_traced (ts_of es)).after (known_of s).assigned; stack = types }) p.1 }));
      }

  -- ---- values

  pub value_does : (l g : Bool) (s t u : Walk) (e : Traced) (ty : TypeTree) → e.emitted.ty ≡ ty → Does locals entry l s t e g → Moves t u (with_value ty (known_of t).assigned (known_of t)) → DoesValue locals entry l s u e g
  value_does l g s t u e ty is d m = record {
    goes_is = d.goes_is;
    walks = subst (λ (v : TypeTree). V l s u e.emitted.code (e.known (known_of s)) (with_value v (e.after (known_of s).assigned) (known_of s))) (sym is)
        (moved_on locals entry l s t u e.emitted.code (e.known (known_of s)) (with_assigned (e.after (known_of s).assigned) (known_of s)) (λ k. with_value ty k.assigned k) d.walks m);
  }

  pub value_on : (l on g lon on2 : Bool) (s t u : Walk) (es : List Core) (i : ℕ) (e : Core) (total : Several) (whole : TracedSeveral) → i < length es → e ≡ get_or es i e →
      P l on s t (values (es_of (drop i es))) total (values_traced (ts_of (drop i es))) whole × ((types : List VType) × ((known_of t).stack ≡ types ++ (known_of s).stack)) → lon ≡ (l && on) → DoesValue locals entry lon t u (traced_of e) g → on2 ≡ (on && g) →
      P l on2 s u (values (es_of (drop (i + 1) es))) total (values_traced (ts_of (drop (i + 1) es))) whole × ((types : List VType) × ((known_of u).stack ≡ types ++ (known_of s).stack))
  value_on l on g lon on2 s t u es i e total whole lt h p q d oe = (
    partly_step l on g lon on2 s t u x [] (values (es_of rest)) total (values_traced (ts_of rest)) whole
        (subst (λ (r : Several). P l on s t r total (followed_traced x [] (values_traced (ts_of rest))) whole) (ap (λ w. values (es_of w)) left)
        (subst (λ (r : TracedSeveral). P l on s t (values (es_of (drop i es))) total r whole) (ap (λ w. values_traced (ts_of w)) left) p.0))
        q walked d.goes_is oe (ap (values_traced (ts_of rest)).known (sym d.walks.known)) (ap (λ (k : Known). k.assigned) d.walks.known),
    (value_types x.emitted.ty ++ p.1.0, ap (λ (k : Known). k.stack) d.walks.known ∙ ap (λ types. value_types x.emitted.ty ++ types) p.1.1 ∙ sym (append_assoc (value_types x.emitted.ty) p.1.0 (known_of s).stack)),
  )
    where
      x : Traced
      x = traced_of e

      rest : List Core
      rest = drop (i + 1) es

      K : Known
      K = known_of t

      left : drop i es ≡ e ∷ rest
      left = next_item es i e lt h

      walked : V lon t u (x.emitted.code ++ kept x.emitted.goes_on []) (x.known K ++ kept_known x.emitted.goes_on []) (known_of u)
      walked = subst (λ os. V lon t u os (x.known K ++ kept_known x.emitted.goes_on []) (known_of u)) (sym (kept_nothing x.emitted.goes_on x.emitted.code))
          (subst (λ ks. V lon t u x.emitted.code ks (known_of u)) (sym (known_nothing x.emitted.goes_on (x.known K))) (record { even = d.walks.even; at = d.walks.at; frames = d.walks.frames; known = refl }))

  pub values_do : (l on : Bool) (s t u : Walk) (es : List Core) (i height : ℕ) → length es ≤ i → P l on s t (values (es_of (drop i es))) (values (es_of es)) (values_traced (ts_of (drop i es))) (values_traced (ts_of es)) × ((types : List VType) × ((known_of t).stack ≡ types ++ (known_of s).stack)) →
      height ≡ length (known_of s).stack → Moves t u (record { assigned = (known_of t).assigned; stack = drop (length (known_of t).stack - height) (known_of t).stack }) → DoesValues locals entry l s u (ts_of es) on
  values_do l on s t u es i height le p he m =
      let a = partly_all l on s t _ (values (es_of es)) _ (values_traced (ts_of es)) (ap (λ w. values (es_of w)) (none_left es i le)) (ap (λ w. values_traced (ts_of w)) (none_left es i le)) p.0 in
      record {
        goes_is = a.2;
        walks = moves_after locals entry l s t u _ _ _ _ a.0 (record { at = m.at; frames = m.frames; known = m.known ∙ ap (λ (A : Assigned). record { assigned = A; stack = drop (length (known_of t).stack - height) (known_of t).stack }) a.1 ∙ ap (λ types. record { assigned = (values_traced (ts_of es)).after (known_of s).assigned; stack = types }) back });
      }
    where
      S : List VType
      S = (known_of s).stack

      back : drop (length (known_of t).stack - height) (known_of t).stack ≡ S
      back = ap (λ types. drop (length types - height) types) p.1.1 ∙ drop_at p.1.0 S (length (p.1.0 ++ S) - height) (let n = length-append p.1.0 S in omega (arith, n, he))

  pub native_does : (l lg g : Bool) (s t u v w : Walk) (es : List Traced) → DoesValues locals entry l s t es g → Moves t u (with_value type_is.String (known_of t).assigned (known_of t)) → lg ≡ (l && g) → WalksOne locals entry lg u v 3 → Moves v w (off locals entry 1 (known_of v)) → DoesKind locals entry l s w (native_layer es) g
  native_does l lg g s t u v w es d m1 q one m3 ty = record {
    goes_is = d.goes_is;
    walks = moves_after locals entry l s v w _ _ _ _ (walks_then locals entry l x.goes_on s t v x.code (Call helper.ConsoleWrite ∷ []) (y.known K) (B ∷ []) (with_assigned A K) B d.walks (moves_before locals entry (l && x.goes_on) t u v (Call helper.ConsoleWrite ∷ []) (B ∷ []) _ B m1 called))
        (record { at = m3.at; frames = m3.frames; known = m3.known ∙ ap (off locals entry 1) called.known });
  }
    where
      x : Several
      x = values (emitted_all es)

      y : TracedSeveral
      y = values_traced es

      K : Known
      K = known_of s

      A : Assigned
      A = y.after K.assigned

      B : Known
      B = with_value type_is.String A K

      here : known_of u ≡ B
      here = m1.known ∙ ap (λ (k : Known). with_value type_is.String k.assigned k) d.walks.known

      called : V (l && x.goes_on) u v (Call helper.ConsoleWrite ∷ []) (B ∷ []) B
      called = subst (λ b. V (l && b) u v (Call helper.ConsoleWrite ∷ []) (B ∷ []) B) d.goes_is (subst (λ b. V b u v (Call helper.ConsoleWrite ∷ []) (B ∷ []) B) q (subst (λ (k : Known). V lg u v (Call helper.ConsoleWrite ∷ []) (k ∷ []) k) here (one (Call helper.ConsoleWrite) refl)))

  -- ---- texts

  text_line : (ty : TypeTree) (first : Bool) (A : Assigned) (k : Known) → in_line (to_text ty) (with_value ty A k) ++ in_line (joined first) (record { assigned = A; stack = text_type ∷ k.stack }) ≡ in_line (to_text ty ++ joined first) (with_value ty A k)
  text_line type_is.Int true A k = refl
  text_line type_is.Int false A k = refl
  text_line type_is.Boolean true A k = refl
  text_line type_is.Boolean false A k = refl
  text_line type_is.String true A k = refl
  text_line type_is.String false A k = refl
  text_line type_is.Unit true A k = refl
  text_line type_is.Unit false A k = refl

  joined_line : (first : Bool) (A : Assigned) (types : List VType) → behind_line (joined first) (record { assigned = A; stack = text_type ∷ types }) ≡ (let k : Known = record { assigned = A; stack = with_text first types } in k)
  joined_line true A types = refl
  joined_line false A types = refl

  text_behind : (ty : TypeTree) (first : Bool) (A : Assigned) (k : Known) → behind_line (to_text ty ++ joined first) (with_value ty A k) ≡ (let m : Known = record { assigned = A; stack = with_text first k.stack } in m)
  text_behind type_is.Int true A k = refl
  text_behind type_is.Int false A k = refl
  text_behind type_is.Boolean true A k = refl
  text_behind type_is.Boolean false A k = refl
  text_behind type_is.String true A k = refl
  text_behind type_is.String false A k = refl
  text_behind type_is.Unit true A k = refl
  text_behind type_is.Unit false A k = refl

  regroup_two : (g : Bool) (a b d : List Operation) → (a ++ kept g b) ++ kept g d ≡ a ++ kept g (b ++ d)
  regroup_two true a b d = append_assoc a b d
  regroup_two false a b d = append-nil (a ++ [])

  regroup_two_known : (g : Bool) (a b d : List Known) → (a ++ kept_known g b) ++ kept_known g d ≡ a ++ kept_known g (b ++ d)
  regroup_two_known true a b d = append_assoc a b d
  regroup_two_known false a b d = append-nil (a ++ [])

  pub text_does : (l lg g : Bool) (s t u v : Walk) (e : Traced) (ty : TypeTree) (first : Bool) → e.emitted.ty ≡ ty → DoesLine locals entry l s t e (to_text ty) (in_line (to_text ty)) g → Moves t u (with_value type_is.String (known_of t).assigned (known_of t)) → lg ≡ (l && g) →
      V lg u v (joined first) (in_line (joined first) (known_of u)) (behind_line (joined first) (known_of u)) → DoesText locals entry l s v e first ty g
  text_does l lg g s t u v e ty first is d m q w = record {
    goes_is = d.goes_is;
    walks =
        subst (λ (k : Known). V l s v (e.emitted.code ++ kept e.emitted.goes_on (to_text ty ++ joined first)) (e.known K ++ kept_known e.emitted.goes_on (in_line (to_text ty ++ joined first) (behind e K))) k) (joined_line first A K.stack)
        (subst (λ os. V l s v os (e.known K ++ kept_known e.emitted.goes_on (in_line (to_text ty ++ joined first) (behind e K))) (behind_line (joined first) T)) (regroup_two e.emitted.goes_on e.emitted.code (to_text ty) (joined first))
        (subst (λ ks. V l s v ((e.emitted.code ++ kept e.emitted.goes_on (to_text ty)) ++ kept e.emitted.goes_on (joined first)) ks (behind_line (joined first) T))
        (regroup_two_known e.emitted.goes_on (e.known K) (in_line (to_text ty) (behind e K)) (in_line (joined first) T) ∙ ap (λ ks. e.known K ++ kept_known e.emitted.goes_on ks) line)
        (walks_then locals entry l e.emitted.goes_on s t v _ (joined first) _ (in_line (joined first) T) (with_assigned A K) (behind_line (joined first) T) d.walks (moves_before locals entry (l && e.emitted.goes_on) t u v (joined first) (in_line (joined first) T) T (behind_line (joined first) T) (record { at = m.at; frames = m.frames; known = here }) last))));
  }
    where
      K : Known
      K = known_of s

      A : Assigned
      A = e.after K.assigned

      T : Known
      T = record { assigned = A; stack = text_type ∷ K.stack }

      here : known_of u ≡ T
      here = m.known ∙ ap (λ (k : Known). with_value type_is.String k.assigned k) d.walks.known

      line : in_line (to_text ty) (behind e K) ++ in_line (joined first) T ≡ in_line (to_text ty ++ joined first) (behind e K)
      line = subst (λ (v : TypeTree). in_line (to_text v) (behind e K) ++ in_line (joined first) T ≡ in_line (to_text v ++ joined first) (behind e K)) is (text_line e.emitted.ty first A K)

      last : V (l && e.emitted.goes_on) u v (joined first) (in_line (joined first) T) (behind_line (joined first) T)
      last = subst (λ b. V (l && b) u v (joined first) (in_line (joined first) T) (behind_line (joined first) T)) d.goes_is (subst (λ b. V b u v (joined first) (in_line (joined first) T) (behind_line (joined first) T)) q (subst (λ (k : Known). V lg u v (joined first) (in_line (joined first) k) (behind_line (joined first) k)) here w))

  text_first : (e : Core) (rest : List Core) (first : Bool) →
      (texts_from first (es_of (e ∷ rest)) ≡ followed (traced_of e).emitted (to_text (traced_of e).emitted.ty ++ joined first) (texts_from false (es_of rest))) × (texts_traced_from first (ts_of (e ∷ rest)) ≡ followed_traced (traced_of e) (to_text (traced_of e).emitted.ty ++ joined first) (texts_traced_from false (ts_of rest)))
  text_first e rest true = (
    ap (λ os. followed (traced_of e).emitted os (texts_from false (es_of rest))) (sym (append-nil (to_text (traced_of e).emitted.ty))),
    ap (λ os. followed_traced (traced_of e) os (texts_traced_from false (ts_of rest))) (sym (append-nil (to_text (traced_of e).emitted.ty))),
  )
  text_first e rest false = (refl, refl)

  with_text_is : (first : Bool) (types : List VType) → with_text first (texts_stack first types) ≡ text_type ∷ types
  with_text_is true types = refl
  with_text_is false types = refl

  pub text_on : (l on g lon on2 : Bool) (s t u : Walk) (es : List Core) (i : ℕ) (e : Core) (first : Bool) (total : Several) (whole : TracedSeveral) → i < length es → e ≡ get_or es i e →
      P l on s t (texts_from first (es_of (drop i es))) total (texts_traced_from first (ts_of (drop i es))) whole × ((known_of t).stack ≡ texts_stack first (known_of s).stack) → lon ≡ (l && on) → DoesText locals entry lon t u (traced_of e) first e.ty g → on2 ≡ (on && g) →
      P l on2 s u (texts_from false (es_of (drop (i + 1) es))) total (texts_traced_from false (ts_of (drop (i + 1) es))) whole × ((known_of u).stack ≡ texts_stack false (known_of s).stack)
  text_on l on g lon on2 s t u es i e first total whole lt h p q d oe = (
    partly_step l on g lon on2 s t u x between (texts_from false (es_of rest)) total (texts_traced_from false (ts_of rest)) whole
        (subst (λ (r : Several). P l on s t r total (followed_traced x between (texts_traced_from false (ts_of rest))) whole) (ap (λ w. texts_from first (es_of w)) left ∙ (text_first e rest first).0)
        (subst (λ (r : TracedSeveral). P l on s t (texts_from first (es_of (drop i es))) total r whole) (ap (λ w. texts_traced_from first (ts_of w)) left ∙ (text_first e rest first).1) p.0))
        q (record { even = walked.even; at = walked.at; frames = walked.frames; known = refl }) d.goes_is oe
        (ap (texts_traced_from false (ts_of rest)).known (text_behind x.emitted.ty first (x.after K.assigned) K ∙ sym walked.known)) (ap (λ (k : Known). k.assigned) walked.known),
    ap (λ (k : Known). k.stack) walked.known ∙ ap (with_text first) p.1 ∙ with_text_is first (known_of s).stack,
  )
    where
      x : Traced
      x = traced_of e

      between : List Operation
      between = to_text x.emitted.ty ++ joined first

      rest : List Core
      rest = drop (i + 1) es

      K : Known
      K = known_of t

      left : drop i es ≡ e ∷ rest
      left = next_item es i e lt h

      walked : V lon t u (x.emitted.code ++ kept x.emitted.goes_on between) (x.known K ++ kept_known x.emitted.goes_on (in_line between (behind x K))) (record { assigned = x.after K.assigned; stack = with_text first K.stack })
      walked = subst (λ (v : TypeTree). V lon t u (x.emitted.code ++ kept x.emitted.goes_on (to_text v ++ joined first)) (x.known K ++ kept_known x.emitted.goes_on (in_line (to_text v ++ joined first) (behind x K))) (record { assigned = x.after K.assigned; stack = with_text first K.stack })) (sym (type_of_traced e)) d.walks

  pub texts_do : (l on : Bool) (s t u : Walk) (es : List Core) (i : ℕ) (first : Bool) → length es ≤ i → first ≡ false → P l on s t (texts_from first (es_of (drop i es))) (texts (es_of es)) (texts_traced_from first (ts_of (drop i es))) (texts_traced (ts_of es)) × ((known_of t).stack ≡ texts_stack first (known_of s).stack) →
      Moves t u (off locals entry 1 (known_of t)) → DoesKind locals entry l s u (texts_layer (ts_of es)) on
  texts_do l on s t u es i first le later p m ty =
      let a = partly_all l on s t _ (texts (es_of es)) _ (texts_traced (ts_of es)) (ap (λ w. texts_from first (es_of w)) (none_left es i le) ∙ ap (λ b. texts_from b []) later) (ap (λ w. texts_traced_from first (ts_of w)) (none_left es i le) ∙ ap (λ b. texts_traced_from b []) later) p.0 in
      record {
        goes_is = a.2;
        walks = subst (λ os. V l s u os ((texts_traced (ts_of es)).known (known_of s)) (with_assigned ((texts_traced (ts_of es)).after (known_of s).assigned) (known_of s))) (sym (kept_nothing (texts (es_of es)).goes_on (texts (es_of es)).code))
            (moves_after locals entry l s t u _ _ _ _ a.0 (record { at = m.at; frames = m.frames; known = m.known ∙ ap (λ (A : Assigned). record { assigned = A; stack = drop 1 (known_of t).stack }) a.1 ∙ ap (λ types. record { assigned = (texts_traced (ts_of es)).after (known_of s).assigned; stack = drop 1 types }) (p.1 ∙ ap (λ b. texts_stack b (known_of s).stack) later) }));
      }

  pub no_texts : (l : Bool) (s t : Walk) (es : List Core) → es ≡ [] → WalksOne locals entry l s t 3 → DoesKind locals entry l s t (texts_layer (ts_of es)) true
  no_texts l s t es none w ty = subst (λ (es : List Core). Does locals entry l s t (traced_kind (texts_layer (ts_of es)) ty) true) (sym none) (let r = w (PushText []) refl in record { goes_is = refl; walks = record { even = r.even; at = r.at; frames = r.frames; known = r.known } })
