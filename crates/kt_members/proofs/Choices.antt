-- The steps of functions that choose by the next token and hand on.
use Rattle.std.proofs.Common.{◌≡◌, ℕ, ◌≤◌, Bool, true, false, List, length, drop, Result, Ok, Err, sym, subst, ◌∙◌}
use Rattle.grammars.specs.Grammar.{Part, next, row, choose, Cst, node, left, right, first, test, Reads}
use Rattle.kc_text.specs.declared.errors.Fail.{Fail}
use Rattle.kt_lexer.specs.declared.token.Token.{Token}
use Rattle.kt_grammar.specs.declared.cursor.Cursor.{Cursor}
use Rattle.kt_grammar.specs.Parsed.{Read, Halts, Advanced, Advances}
use Rattle.kt_grammar.specs.Rows.{Row, grammar}
use Rattle.kt_grammar.proofs.Advances.{halts_row, halts_left, halts_right}
use Rattle.kt_grammar.proofs.Steps.{read_row, read_first, read_second}

-- what a derivation of a part is built to, by two definitions
abbrev pub BuiltAlike : {X : Type 0} → Part Row Token → (Cst Token → X) → (Cst Token → X) → Type 0
BuiltAlike a of whole = (us rest : List Token) (c : Cst Token) → Reads grammar a us c rest → of c ≡ whole c

-- the first part, where the test holds
pub taken_left : {X : Type 0} (f : Token → Bool) (a b : Part Row Token) (of whole : Cst Token → X) → BuiltAlike a of (λ c. whole (left c)) → (ts : List Token) (start : Cursor) → start.at ≤ length ts
    → test f (first (drop start.at ts)) ≡ true → (r : Result (X × Cursor) (Fail ℕ)) → Advances a of ts start r → Advances (choose (next f) a b) whole ts start r
taken_left f a b of whole law ts start w h (Ok k) p = record { tree = left p.tree; looked = p.looked; read = read_first h p.read; builds = p.builds ∙ law _ _ p.tree p.read.reads; so_far = p.so_far }
taken_left f a b of whole law ts start w h (Err e) p = halts_left w h p

-- the second one, where it doesn't
pub taken_right : {X : Type 0} (f : Token → Bool) (a b : Part Row Token) (of whole : Cst Token → X) → BuiltAlike b of (λ c. whole (right c)) → (ts : List Token) (start : Cursor) → start.at ≤ length ts
    → test f (first (drop start.at ts)) ≡ false → (r : Result (X × Cursor) (Fail ℕ)) → Advances b of ts start r → Advances (choose (next f) a b) whole ts start r
taken_right f a b of whole law ts start w h (Ok k) p = record { tree = right p.tree; looked = p.looked; read = read_second h p.read; builds = p.builds ∙ law _ _ p.tree p.read.reads; so_far = p.so_far }
taken_right f a b of whole law ts start w h (Err e) p = halts_right w h p

pub of_row : {X : Type 0} (n : Row) (part : Part Row Token) → grammar n ≡ part → (of whole : Cst Token → X) → BuiltAlike part of (λ c. whole (node c)) → (ts : List Token) (start : Cursor)
    → (r : Result (X × Cursor) (Fail ℕ)) → Advances part of ts start r → Advances (row n) whole ts start r
of_row n part is of whole law ts start (Ok k) p = record {
  tree = node p.tree;
  looked = p.looked;
  read = read_row (subst (λ b. Read b ts start.at k.1.at p.looked p.tree) (sym is) p.read);
  builds = p.builds ∙ law _ _ p.tree p.read.reads;
  so_far = p.so_far;
}
of_row n part is of whole law ts start (Err e) p = halts_row (subst (λ b. Halts b ts start e) (sym is) p)

-- the same part with another definition of what is built
pub built_alike : {X : Type 0} (a : Part Row Token) (of whole : Cst Token → X) → BuiltAlike a of whole → (ts : List Token) (start : Cursor) → (r : Result (X × Cursor) (Fail ℕ))
    → Advances a of ts start r → Advances a whole ts start r
built_alike a of whole law ts start (Ok k) p = record { tree = p.tree; looked = p.looked; read = p.read; builds = p.builds ∙ law _ _ p.tree p.read.reads; so_far = p.so_far }
built_alike a of whole law ts start (Err e) p = p
