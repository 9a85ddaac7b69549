-- The steps of the functions that read things one behind another: a mark or `;` stands between them, and `;` may stand behind the last.
use Rattle.std.proofs.Common.{◌≡◌, ℕ, ◌≤◌, max, ◌||◌, Bool, true, false, List, [], ◌++◌, length, drop, Result, Ok, Err, Option, Some, None, sym, ap, subst, ◌∙◌, arith, append_assoc, append-nil}
use Rattle.grammars.specs.Grammar.{Part, next, row, both, choose, guard, Cst, none, leaf, node, pair, left, right, first, test, Derives, d_row, d_right, d_nothing, Reads, r_both, Productive}
use Rattle.grammars.specs.Tables.{is_empty}
use Rattle.kc_text.specs.declared.errors.Fail.{Fail}
use Rattle.kt_lexer.specs.declared.token.Token.{Token}
use Rattle.kt_lexer.specs.declared.token.Operator.TheVariants as operator
use Rattle.kt_grammar.specs.declared.cursor.Cursor.{Cursor}
use Rattle.kt_grammar.specs.Moves.{Moved}
use Rattle.kt_grammar.specs.Parsed.{Read, Advanced, Halts, Advances}
use Rattle.kt_grammar.specs.Rows.{Row, grammar, op, maybe}
use Rattle.kt_grammar.specs.Tokens.{is_op}
use Rattle.kt_grammar.proofs.Advances.{refused_guard, read_guard, halts_as, halts_row, halts_left, halts_right, halts_first, halts_second, halts_after}
use Rattle.kt_grammar.proofs.Progress.{empty}
use Rattle.kt_grammar.proofs.Steps.{standing, read_one, read_both, read_row, read_first, read_second, read_nothing}
use Rattle.kt_bodies.specs.Statements.{Semicolons, no_more, one_more, AllSemicolons, Follows, at_once, behind_semicolon}

abbrev pub is_semicolon : Token → Bool
is_semicolon = is_op operator.Semicolon

-- one of them, and what follows it
abbrev pub turn_part : Row → Row → Part Row Token
turn_part m after = both (row m) (row after)

-- `;` and what follows it
abbrev pub again : Row → Part Row Token
again more = both (op operator.Semicolon) (row more)

-- The row `n` is a list of those of row `m`, each of which begins with a token that `f` holds of, and at once behind another one with a token
-- that `g` holds of. Their tree is their list.
pub record IsSequence {X : Type 0} (n more after m : Row) (f g : Token → Bool) (item all more_all behind : Cst Token → List X) : Type 0 where
  pub rule : grammar n ≡ maybe f (turn_part m after)
  pub rule_more : grammar more ≡ maybe (λ t. is_semicolon t || f t) (choose (next is_semicolon) (again more) (turn_part m after))
  pub rule_after : grammar after ≡ maybe (λ t. is_semicolon t || g t) (choose (next is_semicolon) (again more) (guard (next g) (turn_part m after)))
  pub takes : is_empty empty (turn_part m after) ≡ false
  pub productive : Productive grammar (guard (next g) (turn_part m after))
  pub none_is : all (node (right none)) ≡ []
  pub some_is : (c d : Cst Token) → all (node (left (pair c d))) ≡ item c ++ behind d
  pub more_none : more_all (node (right none)) ≡ []
  pub more_again : (s d : Cst Token) → more_all (node (left (left (pair s d)))) ≡ more_all d
  pub more_some : (c d : Cst Token) → more_all (node (left (right (pair c d)))) ≡ item c ++ behind d
  pub behind_none : behind (node (right none)) ≡ []
  pub behind_again : (s d : Cst Token) → behind (node (left (left (pair s d)))) ≡ more_all d
  pub behind_some : (c d : Cst Token) → behind (node (left (right (node (pair c d))))) ≡ item c ++ behind d

-- what one and those behind it are
abbrev pub turn_of : {X : Type 0} (item behind : Cst Token → List X) → Cst Token → List X
turn_of item behind (pair c d) = item c ++ behind d
turn_of item behind _ = []

or_first : (f g : Token → Bool) (o : Option Token) → test f o ≡ true → test (λ t. f t || g t) o ≡ true
or_first f g None h = h
or_first f g (Some t) h = ap (λ b. b || g t) h

or_second : (f g : Token → Bool) (o : Option Token) (b : Bool) → test f o ≡ false → test g o ≡ b → test (λ t. f t || g t) o ≡ b
or_second f g None b h k = k
or_second f g (Some t) b h k = ap (λ c. c || g t) h ∙ k

pub semicolons_ahead : {ts : List Token} {start end : Cursor} → Semicolons ts start end → start.at ≤ end.at
semicolons_ahead (no_more w) = omega arith
semicolons_ahead (one_more o q) = omega (arith, o.taken.next, semicolons_ahead q)

pub semicolons_within : {ts : List Token} {start end : Cursor} → Semicolons ts start end → end.at ≤ length ts
semicolons_within (no_more w) = w
semicolons_within (one_more o q) = semicolons_within q

pub follows_ahead : {f g : Token → Bool} {ts : List Token} {start end : Cursor} {b : Bool} → Follows f g ts start end b → start.at ≤ end.at
follows_ahead (at_once w h e) = omega arith
follows_ahead (behind_semicolon o q e) = omega (arith, o.taken.next, semicolons_ahead q.all)

pub follows_within : {f g : Token → Bool} {ts : List Token} {start end : Cursor} {b : Bool} → Follows f g ts start end b → end.at ≤ length ts
follows_within (at_once w h e) = w
follows_within (behind_semicolon o q e) = semicolons_within q.all

pub follows_so : {f g : Token → Bool} {ts : List Token} {start end : Cursor} {b d : Bool} → b ≡ d → Follows f g ts start end b → Follows f g ts start end d
follows_so {f = f} {g = g} {ts = ts} {start = start} {end = end} e k = subst (λ b. Follows f g ts start end b) e k

-- what the loop over them has passed
pub record Skips (ts : List Token) (start at : Cursor) : Type 0 where
  pub within : at.at ≤ length ts
  pub whole : (end : Cursor) → Semicolons ts at end → Semicolons ts start end

pub skips : {ts : List Token} {start : Cursor} → start.at ≤ length ts → Skips ts start start
skips w = record { within = w; whole = λ end q. q }

pub skips_more : {ts : List Token} {start at next : Cursor} → Skips ts start at → Moved is_semicolon ts at next → Skips ts start next
skips_more k o = record { within = o.taken.within; whole = λ end q. k.whole end (one_more o q) }

pub skipped : {ts : List Token} {start at : Cursor} → Skips ts start at → test is_semicolon (first (drop at.at ts)) ≡ false → AllSemicolons ts start at
skipped {at = at} k h = record { all = k.whole at (no_more k.within); last = h }

-- a turn that cannot be gone on with, where it has to begin with certain tokens
halts_guard : {f : Token → Bool} {a : Part Row Token} {ts : List Token} {start : Cursor} {e : Fail ℕ} → start.at ≤ length ts → test f (first (drop start.at ts)) ≡ true → Productive grammar (guard (next f) a)
    → Halts a ts start e → Halts (guard (next f) a) ts start e
halts_guard w h p k = halts_as (λ place r. refused_guard w h p r) k

module _ {X : Type 0} {n more after m : Row} {f g : Token → Bool} {item all more_all behind : Cst Token → List X} (l : IsSequence n more after m f g item all more_all behind) where
  abbrev turn_is : Cst Token → List X
  turn_is = turn_of item behind

  pub has_after : Productive grammar (row after)
  has_after = ([], node (right none), d_row (subst (λ b. Derives grammar b [] (right none) []) (sym l.rule_after) (d_right d_nothing)))

  -- ---- behind `;`

  abbrev more_choice : Part Row Token
  more_choice = choose (next is_semicolon) (again more) (turn_part m after)

  pub more_end : (xs : List X) {ts : List Token} {start end : Cursor} → Semicolons ts start end → test is_semicolon (first (drop end.at ts)) ≡ false → test f (first (drop end.at ts)) ≡ false
      → Advanced (row more) (λ c. xs ++ more_all c) ts start end xs
  more_end xs {ts = ts} {start = start} (no_more w) h k = record {
    tree = node (right none);
    looked = 0;
    read = read_row (subst (λ b. Read b ts start.at start.at 0 (right none)) (sym l.rule_more) (read_second (or_second is_semicolon f (first (drop start.at ts)) false h k) (read_nothing w)));
    builds = sym (append-nil xs) ∙ ap (λ ys. xs ++ ys) (sym l.more_none);
    so_far = omega arith;
  }
  more_end xs {ts = ts} {start = start} {end = end} (one_more o q) h k =
      let p = more_end xs q h k in
      record {
        tree = node (left (left (pair (leaf o.taken.token) p.tree)));
        looked = max 0 p.looked;
        read = read_row (subst (λ b. Read b ts start.at end.at (max 0 p.looked) (left (left (pair (leaf o.taken.token) p.tree)))) (sym l.rule_more)
            (read_first (or_first is_semicolon f (first (drop start.at ts)) (standing o.taken)) (read_first (standing o.taken) (read_both (read_one o.taken) p.read))));
        builds = p.builds ∙ ap (λ ys. xs ++ ys) (sym (l.more_again (leaf o.taken.token) p.tree));
        so_far = omega (arith, o.so_far, p.so_far);
      }

  more_built : {ts r : List Token} {c : Cst Token} → Reads grammar (turn_part m after) ts c r → turn_is c ≡ more_all (node (left (right c)))
  more_built (r_both {x = x} {y = y} d e) = sym (l.more_some x y)

  behind_built : {ts r : List Token} {c : Cst Token} → Reads grammar (turn_part m after) ts c r → turn_is c ≡ behind (node (left (right (node c))))
  behind_built (r_both {x = x} {y = y} d e) = sym (l.behind_some x y)

  first_built : {ts r : List Token} {c : Cst Token} → Reads grammar (turn_part m after) ts c r → turn_is c ≡ all (node (left c))
  first_built (r_both {x = x} {y = y} d e) = sym (l.some_is x y)

  more_turn : (xs : List X) {ts : List Token} {start end : Cursor} → Semicolons ts start end → test is_semicolon (first (drop end.at ts)) ≡ false → test f (first (drop end.at ts)) ≡ true
      → (r : Result (List X × Cursor) (Fail ℕ)) → Advances (turn_part m after) (λ c. xs ++ turn_is c) ts end r → Advances (row more) (λ c. xs ++ more_all c) ts start r
  more_turn xs {ts = ts} {start = start} (no_more w) h k (Ok p) q = record {
    tree = node (left (right q.tree));
    looked = q.looked;
    read = read_row (subst (λ b. Read b ts start.at p.1.at q.looked (left (right q.tree))) (sym l.rule_more) (read_first (or_second is_semicolon f (first (drop start.at ts)) true h k) (read_second h q.read)));
    builds = q.builds ∙ ap (λ ys. xs ++ ys) (more_built q.read.reads);
    so_far = q.so_far;
  }
  more_turn xs {ts = ts} {start = start} (no_more w) h k (Err e) q =
      halts_row (subst (λ b. Halts b ts start e) (sym l.rule_more) (halts_left w (or_second is_semicolon f (first (drop start.at ts)) true h k) (halts_right w h q)))
  more_turn xs {ts = ts} {start = start} (one_more o s) h k (Ok p) q =
      let i = more_turn xs s h k (Ok p) q in
      record {
        tree = node (left (left (pair (leaf o.taken.token) i.tree)));
        looked = max 0 i.looked;
        read = read_row (subst (λ b. Read b ts start.at p.1.at (max 0 i.looked) (left (left (pair (leaf o.taken.token) i.tree)))) (sym l.rule_more)
            (read_first (or_first is_semicolon f (first (drop start.at ts)) (standing o.taken)) (read_first (standing o.taken) (read_both (read_one o.taken) i.read))));
        builds = i.builds ∙ ap (λ ys. xs ++ ys) (sym (l.more_again (leaf o.taken.token) i.tree));
        so_far = omega (arith, o.so_far, i.so_far);
      }
  more_turn xs {ts = ts} {start = start} (one_more {mid = mid} o s) h k (Err e) q =
      let w : start.at ≤ length ts = omega (arith, o.taken.next, o.taken.within) in
      halts_row (subst (λ b. Halts b ts start e) (sym l.rule_more) (halts_left w (or_first is_semicolon f (first (drop start.at ts)) (standing o.taken))
      (halts_left w (standing o.taken) (halts_after o.taken o.so_far (more_turn xs s h k (Err e) q)))))

  -- ---- behind one

  pub sequence_end : (xs : List X) {ts : List Token} {start end : Cursor} → Follows f g ts start end false → Advanced (row after) (λ c. xs ++ behind c) ts start end xs
  sequence_end xs {ts = ts} {start = start} (at_once w h e) = record {
    tree = node (right none);
    looked = 0;
    read = read_row (subst (λ b. Read b ts start.at start.at 0 (right none)) (sym l.rule_after) (read_second (or_second is_semicolon g (first (drop start.at ts)) false h (sym e)) (read_nothing w)));
    builds = sym (append-nil xs) ∙ ap (λ ys. xs ++ ys) (sym l.behind_none);
    so_far = omega arith;
  }
  sequence_end xs {ts = ts} {start = start} {end = end} (behind_semicolon o s e) =
      let p = more_end xs s.all s.last (sym e) in
      record {
        tree = node (left (left (pair (leaf o.taken.token) p.tree)));
        looked = max 0 p.looked;
        read = read_row (subst (λ b. Read b ts start.at end.at (max 0 p.looked) (left (left (pair (leaf o.taken.token) p.tree)))) (sym l.rule_after)
            (read_first (or_first is_semicolon g (first (drop start.at ts)) (standing o.taken)) (read_first (standing o.taken) (read_both (read_one o.taken) p.read))));
        builds = p.builds ∙ ap (λ ys. xs ++ ys) (sym (l.behind_again (leaf o.taken.token) p.tree));
        so_far = omega (arith, o.so_far, p.so_far);
      }

  pub sequence_more : (xs : List X) {ts : List Token} {start end : Cursor} → Follows f g ts start end true
      → (r : Result (List X × Cursor) (Fail ℕ)) → Advances (turn_part m after) (λ c. xs ++ turn_is c) ts end r → Advances (row after) (λ c. xs ++ behind c) ts start r
  sequence_more xs {ts = ts} {start = start} (at_once w h e) (Ok p) q = record {
    tree = node (left (right (node q.tree)));
    looked = q.looked;
    read = read_row (subst (λ b. Read b ts start.at p.1.at q.looked (left (right (node q.tree)))) (sym l.rule_after)
        (read_first (or_second is_semicolon g (first (drop start.at ts)) true h (sym e)) (read_second h (read_guard l.takes (sym e) q.read))));
    builds = q.builds ∙ ap (λ ys. xs ++ ys) (behind_built q.read.reads);
    so_far = q.so_far;
  }
  sequence_more xs {ts = ts} {start = start} (at_once w h e) (Err x) q =
      halts_row (subst (λ b. Halts b ts start x) (sym l.rule_after) (halts_left w (or_second is_semicolon g (first (drop start.at ts)) true h (sym e)) (halts_right w h (halts_guard w (sym e) l.productive q))))
  sequence_more xs {ts = ts} {start = start} (behind_semicolon o s e) (Ok p) q =
      let i = more_turn xs s.all s.last (sym e) (Ok p) q in
      record {
        tree = node (left (left (pair (leaf o.taken.token) i.tree)));
        looked = max 0 i.looked;
        read = read_row (subst (λ b. Read b ts start.at p.1.at (max 0 i.looked) (left (left (pair (leaf o.taken.token) i.tree)))) (sym l.rule_after)
            (read_first (or_first is_semicolon g (first (drop start.at ts)) (standing o.taken)) (read_first (standing o.taken) (read_both (read_one o.taken) i.read))));
        builds = i.builds ∙ ap (λ ys. xs ++ ys) (sym (l.behind_again (leaf o.taken.token) i.tree));
        so_far = omega (arith, o.so_far, i.so_far);
      }
  sequence_more xs {ts = ts} {start = start} (behind_semicolon o s e) (Err x) q =
      let w : start.at ≤ length ts = omega (arith, o.taken.next, o.taken.within) in
      halts_row (subst (λ b. Halts b ts start x) (sym l.rule_after) (halts_left w (or_first is_semicolon g (first (drop start.at ts)) (standing o.taken))
      (halts_left w (standing o.taken) (halts_after o.taken o.so_far (more_turn xs s.all s.last (sym e) (Err x) q)))))

  -- ---- one, and what follows it

  pub turn_from : (xs ys : List X) {ts : List Token} {start mid : Cursor} → Advanced (row m) (λ c. xs ++ item c) ts start mid ys
      → (r : Result (List X × Cursor) (Fail ℕ)) → Advances (row after) (λ c. ys ++ behind c) ts mid r → Advances (turn_part m after) (λ c. xs ++ turn_is c) ts start r
  turn_from xs ys p (Ok k) q = record {
    tree = pair p.tree q.tree;
    looked = max p.looked q.looked;
    read = read_both p.read q.read;
    builds = q.builds ∙ ap (λ zs. zs ++ behind q.tree) p.builds ∙ append_assoc xs (item p.tree) (behind q.tree);
    so_far = omega (arith, p.so_far, q.so_far);
  }
  turn_from xs ys p (Err e) q = halts_second p.read p.so_far q

  pub turn_halts : {ts : List Token} {start : Cursor} {e : Fail ℕ} → Halts (row m) ts start e → Halts (turn_part m after) ts start e
  turn_halts k = halts_first has_after k

  -- ---- the list

  pub sequence_none : (xs : List X) {ts : List Token} {start : Cursor} → start.at ≤ length ts → test f (first (drop start.at ts)) ≡ false → xs ≡ [] → Advanced (row n) all ts start start xs
  sequence_none xs {ts = ts} {start = start} w h e = record {
    tree = node (right none);
    looked = 0;
    read = read_row (subst (λ b. Read b ts start.at start.at 0 (right none)) (sym l.rule) (read_second h (read_nothing w)));
    builds = e ∙ sym l.none_is;
    so_far = omega arith;
  }

  pub sequence_some : (xs : List X) (ts : List Token) (start : Cursor) → start.at ≤ length ts → test f (first (drop start.at ts)) ≡ true → xs ≡ []
      → (r : Result (List X × Cursor) (Fail ℕ)) → Advances (turn_part m after) (λ c. xs ++ turn_is c) ts start r → Advances (row n) all ts start r
  sequence_some xs ts start w h e (Ok p) q = record {
    tree = node (left q.tree);
    looked = q.looked;
    read = read_row (subst (λ b. Read b ts start.at p.1.at q.looked (left q.tree)) (sym l.rule) (read_first h q.read));
    builds = q.builds ∙ ap (λ ys. ys ++ turn_is q.tree) e ∙ first_built q.read.reads;
    so_far = q.so_far;
  }
  sequence_some xs ts start w h e (Err x) q = halts_row (subst (λ b. Halts b ts start x) (sym l.rule) (halts_left w h q))
