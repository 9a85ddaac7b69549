-- Operators and words are the longest possible.
use Rattle.std.proofs.Common.{◌≡◌, ℕ, zero, suc, ◌+◌, ◌≤◌, nat_le, ◌&&◌, Bool, true, false, if◌then◌else◌, List, [], ◌∷◌, ◌++◌, length, drop, Option, Some, None, refl, sym, ap, subst, ◌∙◌, arith, true≢false}
use Rattle.std.proofs.lemmas.List.{drop-drop, length-drop}
use Rattle.kt_lexer.specs.declared.token.Operator.{Operator}
use Rattle.kt_lexer.specs.Characters.{is_front, part_length, word_length}
use Rattle.kt_lexer.specs.Operators.{find_front, with_length, of_three, assignments, other_pairs, signs, brackets}
use Rattle.kt_lexer.specs.Laws.{NoLonger, LongestOperator, Run, no_more, one_more, IsLongestRun, LongestWord}
use Rattle.kt_lexer.proofs.Runs.{word_step}

-- ---- operators

first_of : (b c : Bool) → (b && c) ≡ true → b ≡ true
first_of true c e = refl
first_of false c e = absurd (true≢false (sym e))

second_of : (b c : Bool) → (b && c) ≡ true → c ≡ true
second_of true c e = e
second_of false c e = absurd (true≢false (sym e))

-- no spelling of a table is longer
abbrev at_most : ℕ → List (List ℕ × Operator) → Bool
at_most n [] = true
at_most n (e ∷ es) = nat_le (length e.0) n && at_most n es

below : (m n : ℕ) → nat_le m n ≡ true → m ≤ n
below m n e = grind (arith, e)

short_table : (text : List ℕ) (n m : ℕ) (table : List (List ℕ × Operator)) → at_most m table ≡ true → m ≤ n → NoLonger text n table
short_table text n m [] e h = tt
short_table text n m (x ∷ xs) e h =
    let l = below (length x.0) m (first_of (nat_le (length x.0) m) (at_most m xs) e) in
    (λ i. omega (arith, l, h), short_table text n m xs (second_of (nat_le (length x.0) m) (at_most m xs) e) h)

join_tables : (text : List ℕ) (n : ℕ) (a b : List (List ℕ × Operator)) → NoLonger text n a → NoLonger text n b → NoLonger text n (a ++ b)
join_tables text n [] b h k = k
join_tables text n (x ∷ xs) b h k = (h.0, join_tables text n xs b h.1 k)

some_is_none : {A : Type 0} {x : A} → Some x ≡ None → ⊥
some_is_none e = cc

if_none : (b : Bool) (k : Operator) (o : Option Operator) → (if b then Some k else o) ≡ None → (b ≡ false) × (o ≡ None)
if_none true k o e = absurd (some_is_none e)
if_none false k o e = (refl, e)

not_in_front : (text : List ℕ) (n : ℕ) (table : List (List ℕ × Operator)) → find_front text table ≡ None → NoLonger text n table
not_in_front text n [] e = tt
not_in_front text n (x ∷ xs) e =
    let s = if_none (is_front x.0 text) x.1 (find_front text xs) e in
    (λ i. absurd (true≢false (sym i ∙ s.0)), not_in_front text n xs s.1)

same_pair : {p q : Operator × ℕ} → Some p ≡ Some q → p ≡ q
same_pair e = cc

same_count : (k l : Operator) (n m : ℕ) → ◌≡◌ {A = Option (Operator × ℕ)} (Some (k, n)) (Some (l, m)) → n ≡ m
same_count k l n m e = ap (λ p. p.1) (same_pair e)

-- what one table finds, or the other ones
data Found (n m : ℕ) (o : Option Operator) (other : Option (Operator × ℕ)) (k : Operator) : Type 0 where
  by_this : m ≡ n → Found n m o other k
  by_other : o ≡ None → other ≡ Some (k, n) → Found n m o other k

found : (n m : ℕ) (o : Option Operator) (other : Option (Operator × ℕ)) (k : Operator) → with_length m o other ≡ Some (k, n) → Found n m o other k
found n m (Some l) other k e = by_this (same_count l k m n e)
found n m None other k e = by_other refl e

-- a table of spellings of one length, in front of tables of spellings that are no longer
longest_of : (text : List ℕ) (k : Operator) (n m : ℕ) (table rest : List (List ℕ × Operator)) (other : Option (Operator × ℕ)) → at_most m table ≡ true → at_most m rest ≡ true → (other ≡ Some (k, n) → NoLonger text n rest) → with_length m (find_front text table) other ≡ Some (k, n) → NoLonger text n (table ++ rest)
longest_of text k n m table rest other s r f e = by_case (found n m (find_front text table) other k e)
  where
    by_case : Found n m (find_front text table) other k → NoLonger text n (table ++ rest)
    by_case (by_this i) = join_tables text n table rest (short_table text n m table s (omega (arith, i))) (short_table text n m rest r (omega (arith, i)))
    by_case (by_other i j) = join_tables text n table rest (not_in_front text n table i) (f j)

none_is_some : {A : Type 0} {x : A} → None ≡ Some x → ⊥
none_is_some e = cc

pub longest_operator : LongestOperator
longest_operator text k n e =
    longest_of text k n 3 of_three (assignments ++ (other_pairs ++ (signs ++ brackets))) _ refl refl (λ e.
    longest_of text k n 2 assignments (other_pairs ++ (signs ++ brackets)) _ refl refl (λ e.
    longest_of text k n 2 other_pairs (signs ++ brackets) _ refl refl (λ e.
    longest_of text k n 1 signs brackets _ refl refl (λ e. last_table e) e) e) e) e
  where
    last_table : with_length 1 (find_front text brackets) None ≡ Some (k, n) → NoLonger text n brackets
    last_table e = by_case (found n 1 (find_front text brackets) None k e)
      where
        by_case : Found n 1 (find_front text brackets) None k → NoLonger text n brackets
        by_case (by_this i) = short_table text n 1 brackets refl (omega (arith, i))
        by_case (by_other i j) = absurd (none_is_some j)

-- ---- words

step : (text : List ℕ) (n : ℕ) → part_length text ≡ n → ((k : ℕ) → n ≡ suc k → IsLongestRun (drop n text) (word_length (drop n text))) → IsLongestRun text (word_length text)
step text zero e f =
    let w = (word_step text).stops e in
    record {
      run = subst (λ (k : ℕ). Run text k) (sym w) no_more;
      ends = ap (λ k. part_length (drop k text)) w ∙ e;
    }
step text (suc k) e f =
    let g = (word_step text).goes (omega (arith, e)) in
    let w : word_length text ≡ suc k + word_length (drop (suc k) text) = g ∙ ap (λ m. m + word_length (drop m text)) e in
    let r = f k refl in
    record {
      run = subst (λ (m : ℕ). Run text m) (sym w) (one_more (omega arith) e r.run);
      ends = ap (λ m. part_length (drop m text)) w ∙ ap part_length (sym (drop-drop (word_length (drop (suc k) text)) (suc k) text)) ∙ r.ends;
    }

nothing_left : (text : List ℕ) (n k : ℕ) → length text ≤ 0 → part_length text ≡ n → n ≡ suc k → ⊥
nothing_left text n k h e i = let w = (word_step text).within in omega (arith, h, e, i, w)

longest_by : (fuel : ℕ) (text : List ℕ) → length text ≤ fuel → IsLongestRun text (word_length text)
longest_by zero text h = step text (part_length text) refl (λ k i. absurd (nothing_left text (part_length text) k h refl i))
longest_by (suc fuel) text h = step text (part_length text) refl (λ k i. longest_by fuel (drop (part_length text) text) (omega (arith, h, i, length-drop (part_length text) text)))

pub longest_word : LongestWord
longest_word text = longest_by (length text) text (omega arith)
