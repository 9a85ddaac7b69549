-- The steps of the functions that read modifiers.
use Rattle.std.proofs.Common.{◌≡◌, ℕ, suc, ◌+◌, max, ◌||◌, Bool, true, false, if◌then◌else◌, List, [], ◌∷◌, ◌++◌, drop, Option, Some, None, Result, Ok, Err, refl, sym, ap, subst, ◌∙◌, arith, append_assoc, append-nil, true≢false}
use Rattle.grammars.specs.Automata.{Step, go, stop, accepts, goes}
use Rattle.grammars.specs.Grammar.{one, Cst, none, leaf, pair, first, test, d_one, d_done, Reads, r_one, Productive}
use Rattle.grammars.proofs.Later.{begun_here, begun_read}
use Rattle.kc_text.specs.declared.errors.Fail.{Fail}
use Rattle.kc_tree.specs.declared.types.Mod.{Mod}
use Rattle.kt_bodies.specs.Looks.{Looked}
use Rattle.kt_bodies.proofs.Looking.{Says, looked_turn, looked_stop, halts_looked_more}
use Rattle.kt_functions.specs.Modifiers.{goes_on, ModifierAt, ModifierMoved, modifier_of}
use Rattle.kt_lexer.specs.declared.token.Token.{Token}
use Rattle.kt_lexer.specs.declared.token.Keyword.TheVariants as keyword
use Rattle.kt_grammar.specs.declared.cursor.Cursor.{Cursor}
use Rattle.kt_grammar.specs.DeclarationsBuilt as built
use Rattle.kt_grammar.specs.Lookahead as tests
use Rattle.kt_grammar.specs.Lookahead.{modifier_step, no_modifier, modifier_follows}
use Rattle.kt_grammar.specs.Parsed.{Advanced, Advances, Taken}
use Rattle.kt_grammar.specs.Rows.{grammar, modifiers}
use Rattle.kt_grammar.specs.Tokens.{is_word, is_modifier, is_modifier_name}
use Rattle.kt_grammar.proofs.SingleTokens.{word_token}
use Rattle.kt_grammar.proofs.Steps.{BegunAt, takes_one, read_one}

-- ---- what the test says

abbrev said : Step tests.Word → List Token → Bool
said k r = elim k as (λ _. Bool) [ go s ↦ accepts modifier_step no_modifier r s | stop b ↦ b ]

abbrev gone : Step tests.Word → List Token → ℕ
gone k r = elim k as (λ _. ℕ) [ go s ↦ suc (goes modifier_step no_modifier r s) | stop b ↦ 0 ]

-- what the first state makes of `in`, and of another word
abbrev by_word : Bool → Bool → Step tests.Word
by_word a b = if a then stop true else if b then go tests.modifier else stop false

in_says : (us : List Token) → test (is_word keyword.In) (first us) ≡ true → accepts modifier_step no_modifier us tests.begun ≡ true
in_says [] h = absurd (true≢false (sym h))
in_says (t ∷ us) h = ap (λ a. said (by_word a (is_modifier_name t)) us) h

in_goes : (us : List Token) → test (is_word keyword.In) (first us) ≡ true → goes modifier_step no_modifier us tests.begun ≡ 0
in_goes [] h = absurd (true≢false (sym h))
in_goes (t ∷ us) h = ap (λ a. gone (by_word a (is_modifier_name t)) us) h

pub says_in : {ts : List Token} {at : ℕ} → test (is_word keyword.In) (first (drop at ts)) ≡ true → Says modifier_follows ts at true at
says_in {ts = ts} {at = at} h = record { is = sym (in_says (drop at ts) h); far = omega (arith, in_goes (drop at ts) h) }

other_says : (us : List Token) → test (is_word keyword.In) (first us) ≡ false → test is_modifier_name (first us) ≡ false → accepts modifier_step no_modifier us tests.begun ≡ false
other_says [] h k = refl
other_says (t ∷ us) h k = ap (λ a. said (by_word a (is_modifier_name t)) us) h ∙ ap (λ b. said (by_word false b) us) k

other_goes : (us : List Token) → test (is_word keyword.In) (first us) ≡ false → test is_modifier_name (first us) ≡ false → goes modifier_step no_modifier us tests.begun ≡ 0
other_goes [] h k = refl
other_goes (t ∷ us) h k = ap (λ a. gone (by_word a (is_modifier_name t)) us) h ∙ ap (λ b. gone (by_word false b) us) k

pub says_other : {ts : List Token} {at : ℕ} → test (is_word keyword.In) (first (drop at ts)) ≡ false → test is_modifier_name (first (drop at ts)) ≡ false → Says modifier_follows ts at false at
says_other {ts = ts} {at = at} h k = record { is = sym (other_says (drop at ts) h k); far = omega (arith, other_goes (drop at ts) h k) }

behind_says : (us : List Token) → accepts modifier_step no_modifier us tests.modifier ≡ test goes_on (first us)
behind_says [] = refl
behind_says (t ∷ us) = refl

behind_goes : (us : List Token) → goes modifier_step no_modifier us tests.modifier ≡ 0
behind_goes [] = refl
behind_goes (t ∷ us) = refl

-- the test of the token that is taken
of_token : (g : Token → Bool) {f : Token → Bool} {ts : List Token} {at next : ℕ} {b : Bool} (o : Taken f ts at next) → test g (first (drop at ts)) ≡ b → g o.token ≡ b
of_token g o h = sym (ap (λ us. test g (first us)) o.here) ∙ h

name_says : {ts : List Token} {at next : ℕ} (o : Taken is_modifier_name ts at next) → test (is_word keyword.In) (first (drop at ts)) ≡ false
    → accepts modifier_step no_modifier (drop at ts) tests.begun ≡ test goes_on (first (drop next ts))
name_says {ts = ts} {next = next} o h =
    ap (λ us. accepts modifier_step no_modifier us tests.begun) o.here ∙ ap (λ a. said (by_word a (is_modifier_name o.token)) (drop next ts)) (of_token (is_word keyword.In) o h)
    ∙ ap (λ b. said (by_word false b) (drop next ts)) o.is_so ∙ behind_says (drop next ts)

name_goes : {ts : List Token} {at next : ℕ} (o : Taken is_modifier_name ts at next) → test (is_word keyword.In) (first (drop at ts)) ≡ false
    → goes modifier_step no_modifier (drop at ts) tests.begun ≡ 1
name_goes {ts = ts} {next = next} o h =
    ap (λ us. goes modifier_step no_modifier us tests.begun) o.here ∙ ap (λ a. gone (by_word a (is_modifier_name o.token)) (drop next ts)) (of_token (is_word keyword.In) o h)
    ∙ ap (λ b. gone (by_word false b) (drop next ts)) o.is_so ∙ ap suc (behind_goes (drop next ts))

pub says_name : {ts : List Token} {at next : ℕ} {b : Bool} (o : Taken is_modifier_name ts at next) → test (is_word keyword.In) (first (drop at ts)) ≡ false → b ≡ test goes_on (first (drop next ts))
    → Says modifier_follows ts at b next
says_name o h e = record { is = e ∙ sym (name_says o h); far = omega (arith, o.next, name_goes o h) }

-- ---- what it has gone over begins a modifier

pub has_modifier : Productive grammar (one is_modifier)
has_modifier = (word_token keyword.In ∷ [], leaf (word_token keyword.In), d_one refl)

a_modifier : {ts : List Token} {at next : ℕ} → Taken is_modifier_name ts at next → test (is_word keyword.In) (first (drop at ts)) ≡ false → Taken is_modifier ts at next
a_modifier o h = record {
  token = o.token;
  is_so = ap (λ a. a || is_modifier_name o.token) (of_token (is_word keyword.In) o h) ∙ o.is_so;
  here = o.here;
  next = o.next;
  within = o.within;
}

pub begun_name : {ts : List Token} {at next : ℕ} → Taken is_modifier_name ts at next → test (is_word keyword.In) (first (drop at ts)) ≡ false → BegunAt (one is_modifier) ts at next
begun_name o h = begun_read grammar (read_one (a_modifier o h)).reads

pub begun_here_at : (ts : List Token) (at : ℕ) → BegunAt (one is_modifier) ts at at
begun_here_at ts at = begun_here grammar (drop at ts) has_modifier

-- ---- one modifier

mod_first : (o : Option Token) (m : Mod) → ModifierAt o (Some m) → test is_modifier o ≡ true
mod_first None m h = absurd h
mod_first (Some t) m h = h.0

mod_same : (o : Option Token) (t : Token) (m : Mod) → o ≡ Some t → ModifierAt o (Some m) → m ≡ built.mod_of t
mod_same None t m e h = absurd h
mod_same (Some u) t m e h = let i : u ≡ t = cc in h.1 ∙ ap built.mod_of i

pub modifier_moved : {ts : List Token} {start : Cursor} {m : Mod} (end : Cursor) → ModifierAt (first (drop start.at ts)) (Some m) → end ≡ record { at = start.at + 1; looked = start.looked } → ModifierMoved ts start end m
modifier_moved {ts = ts} {start = start} {m = m} end h e = subst (λ (c : Cursor). ModifierMoved ts start c m) (sym e)
    (let k = takes_one is_modifier ts start.at (mod_first (first (drop start.at ts)) m h) in record { taken = k; so_far = refl; same = mod_same (first (drop start.at ts)) k.token m (ap first k.here) h })

pub modifier_from : (xs ys : List Mod) {ts : List Token} {start end : Cursor} {m : Mod} → ModifierMoved ts start end m → ys ≡ xs ++ m ∷ [] → Advanced (one is_modifier) (λ c. xs ++ modifier_of c) ts start end ys
modifier_from xs ys o e = record {
  tree = leaf o.taken.token;
  looked = 0;
  read = read_one o.taken;
  builds = e ∙ ap (λ m. xs ++ m ∷ []) o.same;
  so_far = omega (arith, o.so_far);
}

-- ---- all of them

pub has_modifiers : Productive grammar modifiers
has_modifiers = ([], none, d_done)

turn_built : {ts r : List Token} {c : Cst Token} (d : Cst Token) → Reads grammar (one is_modifier) ts c r → modifier_of c ++ built.modifiers_of d ≡ built.modifiers_of (pair c d)
turn_built d (r_one h) = refl

pub modifiers_turn : (xs ys : List Mod) {ts : List Token} {start mid next : Cursor} → Looked modifier_follows (one is_modifier) ts start mid true → Advanced (one is_modifier) (λ c. xs ++ modifier_of c) ts mid next ys
    → (r : Result (List Mod × Cursor) (Fail ℕ)) → Advances modifiers (λ c. ys ++ built.modifiers_of c) ts next r → Advances modifiers (λ c. xs ++ built.modifiers_of c) ts start r
modifiers_turn xs ys k p (Ok m) q = record {
  tree = pair p.tree q.tree;
  looked = max (max _ p.looked) q.looked;
  read = looked_turn k p.read q.read;
  builds = q.builds ∙ ap (λ zs. zs ++ built.modifiers_of q.tree) p.builds ∙ append_assoc xs (modifier_of p.tree) (built.modifiers_of q.tree) ∙ ap (λ zs. xs ++ zs) (turn_built q.tree p.read.reads);
  so_far = omega (arith, k.so_far, p.so_far, q.so_far);
}
modifiers_turn xs ys k p (Err x) q = halts_looked_more k p.read p.so_far q

pub modifiers_end : (xs : List Mod) {ts : List Token} {start mid : Cursor} → Looked modifier_follows (one is_modifier) ts start mid false → Advanced modifiers (λ c. xs ++ built.modifiers_of c) ts start mid xs
modifiers_end xs k = record { tree = none; looked = _; read = looked_stop k; builds = sym (append-nil xs); so_far = k.so_far }
