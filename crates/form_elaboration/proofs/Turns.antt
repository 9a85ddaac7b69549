-- Statements in order: what is elaborated so far, and what is left.
use Rattle.std.proofs.Common.{◌≡◌, ℕ, zero, suc, ◌<◌, ◌≤◌, List, [], ◌∷◌, ◌++◌, ◌+◌, length, get_or, drop, Option, Some, None, refl, sym, ap, subst, ◌∙◌, arith, add-one, append_assoc, append-nil, drop-cons}
use Rattle.std.specs.Option.{option_map}
use Rattle.std.specs.Prelude.{option_and_then}
use Rattle.kc_core.specs.declared.tree.Core.{Core}
use Rattle.form_parser.specs.declared.surface.Statement.{Statement}
use Rattle.form_elaboration.specs.declared.scope.Scope.{Scope}
use Rattle.form_elaboration.specs.Statements.{Step, step, Several, all_stepped, followed, statement_of, statements_of}

-- these nodes before the others
abbrev pub behind : List Core → Several → Several
behind parts more = record { parts = parts ++ more.parts; scope = more.scope }

pub record Turning (file : ℕ) (text : List ℕ) (all : List Statement) (at : ℕ) (parts : List Core) (before now : Scope) : Type 0 where
  pub so_far : statements_of file text all before ≡ option_map (behind parts) (statements_of file text (drop at all) now)

same_map : (o : Option Several) → o ≡ option_map (behind []) o
same_map None = refl
same_map (Some s) = refl

pub turning_none : (file : ℕ) (text : List ℕ) (all : List Statement) (parts : List Core) (s : Scope) → parts ≡ [] → Turning file text all 0 parts s s
turning_none file text all parts s e = subst (λ ps. Turning file text all 0 ps s s) (sym e) (record { so_far = same_map (statements_of file text all s) })

-- the statement at a place, and those behind it
pub turn_here : (all : List Statement) (at : ℕ) (s : Statement) → at < length all → s ≡ get_or all at s → drop at all ≡ s ∷ drop (at + 1) all
turn_here all at s h e = rw add-one (drop-cons all at s h ∙ ap (λ x. x ∷ drop (suc at) all) (sym e))

pub drop_end : {A : Type 0} (xs : List A) (n : ℕ) → length xs ≤ n → drop n xs ≡ []
drop_end [] zero h = refl
drop_end [] (suc n) h = refl
drop_end (x ∷ xs) zero h = absurd (omega arith)
drop_end (x ∷ xs) (suc n) h = drop_end xs n (omega arith)

joined : (parts : List Core) (e : Core) (o : Option Several) → option_map (behind parts) (option_map (followed e) o) ≡ option_map (behind (parts ++ e ∷ [])) o
joined parts e None = refl
joined parts e (Some s) = ap (λ (l : List Core). Some (let r : Several = record { parts = l; scope = s.scope } in r)) (sym (append_assoc parts (e ∷ []) s.parts))

pub turning_one : {file : ℕ} {text : List ℕ} {all : List Statement} {at : ℕ} {parts more : List Core} {before now next : Scope} {s : Statement} {e : Core}
    → Turning file text all at parts before now → drop at all ≡ s ∷ drop (at + 1) all → Some (step e next) ≡ statement_of file text s now → more ≡ parts ++ e ∷ []
    → Turning file text all (at + 1) more before next
turning_one {file = file} {text = text} {all = all} {at = at} {parts = parts} {more = more} {now = now} {next = next} {s = s} {e = e} v d h m = record {
  so_far = v.so_far
      ∙ ap (λ l. option_map (behind parts) (statements_of file text l now)) d
      ∙ ap (λ o. option_map (behind parts) (option_and_then (λ (x : Step). option_map (followed x.node) (statements_of file text (drop (at + 1) all) x.scope)) o)) (sym h)
      ∙ joined parts e (statements_of file text (drop (at + 1) all) next)
      ∙ ap (λ l. option_map (behind l) (statements_of file text (drop (at + 1) all) next)) (sym m);
}

pub turning_all : {file : ℕ} {text : List ℕ} {all : List Statement} {at : ℕ} {parts : List Core} {before now : Scope}
    → Turning file text all at parts before now → drop at all ≡ [] → all_stepped (Some parts) now ≡ statements_of file text all before
turning_all {file = file} {text = text} {parts = parts} {now = now} v d =
    sym (v.so_far ∙ ap (λ l. option_map (behind parts) (statements_of file text l now)) d
    ∙ ap (λ (l : List Core). Some (let r : Several = record { parts = l; scope = now } in r)) (append-nil parts))
