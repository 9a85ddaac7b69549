-- The steps of the functions that read a list: elements with commas between them, perhaps none, and perhaps a comma behind the last.
use Rattle.std.proofs.Common.{◌≡◌, ℕ, ◌≤◌, max, Bool, true, false, List, [], ◌++◌, length, drop, Result, Ok, Err, sym, ap, subst, ◌∙◌, arith, append_assoc, append-nil}
use Rattle.grammars.specs.Grammar.{Part, row, both, Cst, none, leaf, node, pair, left, right, first, test, d_nothing, d_right, Productive}
use Rattle.kc_text.specs.declared.errors.Fail.{Fail}
use Rattle.kt_lexer.specs.declared.token.Token.{Token}
use Rattle.kt_lexer.specs.declared.token.Operator.TheVariants as operator
use Rattle.kt_grammar.specs.declared.cursor.Cursor.{Cursor}
use Rattle.kt_grammar.specs.Moves.{Moved}
use Rattle.kt_grammar.specs.Parsed.{Read, Taken, Advanced, Halts, Advances}
use Rattle.kt_grammar.specs.Rows.{Row, grammar, op, maybe}
use Rattle.kt_grammar.specs.Tokens.{is_op}
use Rattle.kt_grammar.proofs.Advances.{halts_row, halts_left, halts_first, halts_second, halts_after}
use Rattle.kt_grammar.proofs.Steps.{standing, read_one, read_both, read_row, read_first, read_second, read_nothing}

-- behind an element: a comma and the rest, or nothing
abbrev pub more : Row → Part Row Token
more n = maybe (is_op operator.Comma) (both (op operator.Comma) (row n))

-- the row is a list of the other row's elements, each of which begins with a token that the test holds of, and its tree is their list
pub record IsList {X : Type 0} (n m : Row) (f : Token → Bool) (item all : Cst Token → List X) : Type 0 where
  pub rule : grammar n ≡ maybe f (both (row m) (more n))
  pub none_is : all (node (right none)) ≡ []
  pub last_is : (c : Cst Token) → all (node (left (pair c (right none)))) ≡ item c
  pub more_is : (c t d : Cst Token) → all (node (left (pair c (left (pair t d))))) ≡ item c ++ all d

pub has_more : (n : Row) → Productive grammar (more n)
has_more n = ([], right none, d_right d_nothing)

module _ {X : Type 0} {n m : Row} {f : Token → Bool} {item all : Cst Token → List X} (l : IsList n m f item all) where
  -- ---- readings

  pub no_element : {ts : List Token} {at : ℕ} → at ≤ length ts → test f (first (drop at ts)) ≡ false
      → Read (row n) ts at at 0 (node (right none))
  no_element {ts = ts} {at = at} w h = read_row (subst (λ b. Read b ts at at 0 (right none)) (sym l.rule) (read_second h (read_nothing w)))

  pub last_element : {ts : List Token} {at end k : ℕ} {x : Cst Token} → test f (first (drop at ts)) ≡ true
      → Read (row m) ts at end k x → test (is_op operator.Comma) (first (drop end ts)) ≡ false → Read (row n) ts at end (max k 0) (node (left (pair x (right none))))
  last_element {ts = ts} {at = at} {end = end} {k = k} {x = x} h p j =
      read_row (subst (λ b. Read b ts at end (max k 0) (left (pair x (right none)))) (sym l.rule) (read_first h (read_both p (read_second j (read_nothing p.within)))))

  pub element_and_more : {ts : List Token} {at mid next end k j : ℕ} {x y : Cst Token}
      → test f (first (drop at ts)) ≡ true → Read (row m) ts at mid k x → (o : Taken (is_op operator.Comma) ts mid next) → Read (row n) ts next end j y
      → Read (row n) ts at end (max k (max 0 j)) (node (left (pair x (left (pair (leaf o.token) y)))))
  element_and_more {ts = ts} {at = at} {end = end} {k = k} {j = j} {x = x} {y = y} h p o q =
      read_row (subst (λ b. Read b ts at end (max k (max 0 j)) (left (pair x (left (pair (leaf o.token) y))))) (sym l.rule)
      (read_first h (read_both p (read_first (standing o) (read_both (read_one o) q)))))

  -- ---- what is built of them, behind what is there already

  pub adds_none : (xs : List X) → xs ≡ xs ++ all (node (right none))
  adds_none xs = sym (append-nil xs) ∙ ap (λ ys. xs ++ ys) (sym l.none_is)

  pub adds_last : (xs ys : List X) (c : Cst Token) → ys ≡ xs ++ item c
      → ys ≡ xs ++ all (node (left (pair c (right none))))
  adds_last xs ys c e = e ∙ ap (λ zs. xs ++ zs) (sym (l.last_is c))

  pub adds_more : (xs ys zs : List X) (c t d : Cst Token) → ys ≡ xs ++ item c → zs ≡ ys ++ all d
      → zs ≡ xs ++ all (node (left (pair c (left (pair t d)))))
  adds_more xs ys zs c t d e g = g ∙ ap (λ us. us ++ all d) e ∙ append_assoc xs (item c) (all d) ∙ ap (λ us. xs ++ us) (sym (l.more_is c t d))

  -- ---- with how far tests have looked

  pub list_end : (xs : List X) {ts : List Token} {start : Cursor} → start.at ≤ length ts
      → test f (first (drop start.at ts)) ≡ false → Advanced (row n) (λ c. xs ++ all c) ts start start xs
  list_end xs w h = record { tree = node (right none); looked = 0; read = no_element w h; builds = adds_none xs; so_far = omega arith }

  pub list_last : (xs ys : List X) {ts : List Token} {start end : Cursor}
      → test f (first (drop start.at ts)) ≡ true → Advanced (row m) (λ c. xs ++ item c) ts start end ys → test (is_op operator.Comma) (first (drop end.at ts)) ≡ false
      → Advanced (row n) (λ c. xs ++ all c) ts start end ys
  list_last xs ys h p j = record {
    tree = node (left (pair p.tree (right none)));
    looked = max p.looked 0;
    read = last_element h p.read j;
    builds = adds_last xs ys p.tree p.builds;
    so_far = omega (arith, p.so_far);
  }

  pub list_more : (xs ys : List X) {ts : List Token} {start mid next : Cursor} → start.at ≤ length ts
      → test f (first (drop start.at ts)) ≡ true → Advanced (row m) (λ c. xs ++ item c) ts start mid ys → Moved (is_op operator.Comma) ts mid next → (r : Result (List X × Cursor) (Fail ℕ))
      → Advances (row n) (λ c. ys ++ all c) ts next r → Advances (row n) (λ c. xs ++ all c) ts start r
  list_more xs ys w h p o (Ok k) q = record {
    tree = node (left (pair p.tree (left (pair (leaf o.taken.token) q.tree))));
    looked = max p.looked (max 0 q.looked);
    read = element_and_more h p.read o.taken q.read;
    builds = adds_more xs ys k.0 p.tree (leaf o.taken.token) q.tree p.builds q.builds;
    so_far = omega (arith, p.so_far, o.so_far, q.so_far);
  }
  list_more xs ys {ts = ts} {start = start} w h p o (Err e) q =
      halts_row (subst (λ b. Halts b ts start e) (sym l.rule) (halts_left w h (halts_second p.read p.so_far (halts_left p.read.within (standing o.taken) (halts_after o.taken o.so_far q)))))

  pub list_halts : {ts : List Token} {start : Cursor} {e : Fail ℕ} → start.at ≤ length ts
      → test f (first (drop start.at ts)) ≡ true → Halts (row m) ts start e → Halts (row n) ts start e
  list_halts {ts = ts} {start = start} {e = e} w h q = halts_row (subst (λ b. Halts b ts start e) (sym l.rule) (halts_left w h (halts_first (has_more n) q)))
