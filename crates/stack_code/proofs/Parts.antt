-- A list of nodes, one after the other: where one goes on, the others stand behind it, and where it does not, nothing does.
use Rattle.std.proofs.Common.{append_assoc, ◌≡◌, ℕ, ◌+◌, ◌<◌, ◌≤◌, List, [], ◌∷◌, ◌++◌, length, map, drop, Bool, true, false, refl, sym, ap, ◌∙◌, arith, get_or, length-drop, ⊎_elim}
use Rattle.std.specs.Prelude.{◌&&◌}
use Rattle.std.proofs.lemmas.Bool.{cases_lt}
use Rattle.kc_core.specs.declared.tree.Core.{Core}
use Rattle.stack_code.specs.Code.{Operation, bytes, kept, kept_bytes, Emitted, Several, followed, code_of, values, in_turn}
use Rattle.stack_code.specs.Emission.{after_part, after_text, texts_from}
use Rattle.stack_code.proofs.Nodes.{type_of_code}
use Rattle.stack_code.proofs.Runs.{kept_all}
use Rattle.stack_code.proofs.Emitting.{next_part, nothing_left}

-- where the first part goes on
pub on_size : (e : Emitted) (between : List Operation) (more : Several) → e.goes_on ≡ true → (followed e between more).size ≡ e.size + bytes between + more.size
on_size e between more on = let f = kept_all e.goes_on (bytes between + more.size) on in omega (arith, f)

pub on_code : (e : Emitted) (between : List Operation) (more : Several) → e.goes_on ≡ true → (followed e between more).code ≡ (e.code ++ between) ++ more.code
on_code e between more on = ap (λ g. e.code ++ kept g (between ++ more.code)) on ∙ sym (append_assoc e.code between more.code)

pub on_goes : (e : Emitted) (between : List Operation) (more : Several) → e.goes_on ≡ true → (followed e between more).goes_on ≡ more.goes_on
on_goes e between more on = ap (λ g. g && more.goes_on) on

-- where it does not
pub off_size : (e : Emitted) (between : List Operation) (more : Several) → e.goes_on ≡ false → (followed e between more).size ≡ e.size
off_size e between more off = ap (λ g. e.size + kept_bytes g (bytes between + more.size)) off ∙ (let r : e.size + 0 ≡ e.size = omega arith in r)

pub off_code : (e : Emitted) (between : List Operation) (more : Several) → e.goes_on ≡ false → (followed e between more).code ≡ e.code ++ []
off_code e between more off = ap (λ g. e.code ++ kept g (between ++ more.code)) off

pub off_goes : (e : Emitted) (between : List Operation) (more : Several) → e.goes_on ≡ false → (followed e between more).goes_on ≡ false
off_goes e between more off = ap (λ g. g && more.goes_on) off

-- what is left, by its first part
pub values_is : (es : List Core) (i : ℕ) (e : Core) → i < length es → e ≡ get_or es i e → values (map code_of (drop i es)) ≡ followed (code_of e) [] (values (map code_of (drop (i + 1) es)))
values_is es i e lt h = ap (λ w. values (map code_of w)) (next_part es i e lt h)

pub values_end : (es : List Core) (i : ℕ) → length es ≤ i → values (map code_of (drop i es)) ≡ values []
values_end es i h = ap (λ w. values (map code_of w)) (nothing_left es i h)

turn_first : (e : Core) (rest : List Core) (last : Bool) → (last ≡ true → rest ≡ []) → (last ≡ false → 0 < length rest) → in_turn (map code_of (e ∷ rest)) ≡ followed (code_of e) (after_part last (code_of e).ty) (in_turn (map code_of rest))
turn_first e [] true f g = refl
turn_first e [] false f g = absurd (let h = g refl in omega arith)
turn_first e (x ∷ rest) true f g = absurd (let h = f refl in cc)
turn_first e (x ∷ rest) false f g = refl

pub turn_is : (es : List Core) (i : ℕ) (e : Core) (last : Bool) → i < length es → e ≡ get_or es i e → (last ≡ true → i + 1 ≡ length es) → (last ≡ false → i + 1 ≡ length es → ⊥) → in_turn (map code_of (drop i es)) ≡ followed (code_of e) (after_part last e.ty) (in_turn (map code_of (drop (i + 1) es)))
turn_is es i e last lt h f g =
    ap (λ w. in_turn (map code_of w)) (next_part es i e lt h)
    ∙ turn_first e (drop (i + 1) es) last (λ t. nothing_left es (i + 1) (let k = f t in omega arith)) (λ t. (let k = g t in let l = length-drop (i + 1) es in let m = not_equal (i + 1) (length es) k lt (omega arith) in omega (arith, l, m)))
    ∙ ap (λ ty. followed (code_of e) (after_part last ty) (in_turn (map code_of (drop (i + 1) es)))) (type_of_code e)
  where
    not_equal : (n m : ℕ) → (n ≡ m → ⊥) → i < m → n ≤ m → n < m
    not_equal n m k l q = ⊎_elim (λ a. a) (λ a. absurd (k (omega arith))) (cases_lt n m)

pub turn_end : (es : List Core) (i : ℕ) → length es ≤ i → in_turn (map code_of (drop i es)) ≡ in_turn []
turn_end es i h = ap (λ w. in_turn (map code_of w)) (nothing_left es i h)

text_first : (e : Core) (rest : List Core) (first : Bool) → texts_from first (map code_of (e ∷ rest)) ≡ followed (code_of e) (after_text first (code_of e).ty) (texts_from false (map code_of rest))
text_first e rest true = refl
text_first e rest false = refl

pub text_is : (es : List Core) (i : ℕ) (e : Core) (first : Bool) → i < length es → e ≡ get_or es i e → texts_from first (map code_of (drop i es)) ≡ followed (code_of e) (after_text first e.ty) (texts_from false (map code_of (drop (i + 1) es)))
text_is es i e first lt h =
    ap (λ w. texts_from first (map code_of w)) (next_part es i e lt h) ∙ text_first e (drop (i + 1) es) first
    ∙ ap (λ ty. followed (code_of e) (after_text first ty) (texts_from false (map code_of (drop (i + 1) es)))) (type_of_code e)

pub text_end : (es : List Core) (i : ℕ) → length es ≤ i → texts_from false (map code_of (drop i es)) ≡ texts_from false []
text_end es i h = ap (λ w. texts_from false (map code_of w)) (nothing_left es i h)
