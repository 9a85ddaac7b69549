-- The rows of an exception table from left to right.
use Rattle.std.proofs.Common.{◌≡◌, ℕ, ◌+◌, ◌<◌, ◌≤◌, Bool, true, false, cond, List, [], ◌∷◌, ◌++◌, length, drop, drop-cons, drop_of_length-le, append_assoc, add-one, get_or, refl, sym, ap, ◌∙◌, arith, length-drop, get_or-drop}
use Rattle.std.specs.Prelude.{◌&&◌, ◌||◌, not, nat_lt, nat_le, filter}
use Rattle.std.specs.List.{list_all, list_any}
use Rattle.std.specs.List.Sorted.{IsNonDecreasingBy, IsPermutation}
use Rattle.std.proofs.lemmas.Bool.{ltb-false, le-ltb, lt-leb}
use Rattle.std.proofs.lemmas.List.Sorted.{list_any-IsPermutation, IsNonDecreasingBy-drop}
use Rattle.class_file.specs.declared.class.Handler.{Handler}
use Rattle.class_file.specs.declared.class.Method.{Method}
use Rattle.class_file.specs.declared.class.ClassFile.{ClassFile}
use Rattle.class_file.specs.declared.class.Set.{Set}
use Rattle.class_file.specs.Typing.{Types}
use Rattle.class_file.specs.Verification.{covers, caught, given_at, fits_handler, all_caught}
use Rattle.verifier.specs.Sweeping.{all_covering, HasCovering, IsSwept, IsSweptTo}
use Rattle.verifier.specs.declared.sweep.HandlerSweep.{HandlerSweep}

-- a row that does not cover a place counts for nothing there
abbrev counts : (Handler → Bool) → ℕ → Handler → Bool
counts test pc h = not (covers h pc) || test h

or_true : (b : Bool) → b ≡ false → (t : Bool) → (not b || t) ≡ true
or_true b e t = ap (λ (x : Bool). not x || t) e

and_false : (b : Bool) → (b && false) ≡ false
and_false true = refl
and_false false = refl

ended_counts : (test : Handler → Bool) (at pc : ℕ) (h : Handler) → at ≤ pc → nat_lt at h.end ≡ false → counts test pc h ≡ true
ended_counts test at pc h le e =
    let past : h.end ≤ pc = omega (arith, le, ltb-false at h.end e) in
    or_true (covers h pc) (ap (λ (b : Bool). nat_le h.start pc && b) (le-ltb pc h.end past) ∙ and_false (nat_le h.start pc)) (test h)

later_counts : (test : Handler → Bool) (pc : ℕ) (h : Handler) → pc < h.start → counts test pc h ≡ true
later_counts test pc h lt = or_true (covers h pc) (ap (λ (b : Bool). b && nat_lt pc h.end) (lt-leb h.start pc lt)) (test h)

-- what has ended is dropped
ended : (test : Handler → Bool) (at pc : ℕ) (hs rest : List Handler) → at ≤ pc → all_covering test pc (filter (λ h. nat_lt at h.end) hs ++ rest) ≡ all_covering test pc (hs ++ rest)
ended test at pc [] rest le = refl
ended test at pc (h ∷ hs) rest le = by (nat_lt at h.end) refl (ended test at pc hs rest le)
  where
    kept : List Handler
    kept = filter (λ h. nat_lt at h.end) hs

    by : (b : Bool) → nat_lt at h.end ≡ b → all_covering test pc (kept ++ rest) ≡ all_covering test pc (hs ++ rest) → all_covering test pc (cond b (h ∷ kept) kept ++ rest) ≡ (counts test pc h && all_covering test pc (hs ++ rest))
    by true k more = ap (λ (b : Bool). counts test pc h && b) more
    by false k more = more ∙ sym (ap (λ (b : Bool). b && all_covering test pc (hs ++ rest)) (ended_counts test at pc h le k))

-- what begins later is not asked
later : (test : Handler → Bool) (pc : ℕ) (hs : List Handler) → IsNonDecreasingBy (λ h. h.start) hs → (0 < length hs → (d : Handler) → pc < (get_or hs 0 d).start) → all_covering test pc hs ≡ true
later test pc [] up first = refl
later test pc (h ∷ hs) up first =
    let begins : pc < h.start = first (omega arith) h in
    ap (λ (b : Bool). b && all_covering test pc hs) (later_counts test pc h begins)
    ∙ later test pc hs (IsNonDecreasingBy-drop (λ (x : Handler). x.start) 1 (h ∷ hs) up) (λ some d. omega (arith, begins, up 0 1 d (omega arith) (omega arith)))

front_alone : (test : Handler → Bool) (pc : ℕ) (hs rest : List Handler) → all_covering test pc rest ≡ true → all_covering test pc (hs ++ rest) ≡ all_covering test pc hs
front_alone test pc [] rest e = e
front_alone test pc (h ∷ hs) rest e = ap (λ (b : Bool). counts test pc h && b) (front_alone test pc hs rest e)

none_fails : (p : Handler → Bool) (hs : List Handler) → list_all p hs ≡ not (list_any (λ h. not (p h)) hs)
none_fails p [] = refl
none_fails p (h ∷ hs) = by (p h) (none_fails p hs)
  where
    by : (b : Bool) → list_all p hs ≡ not (list_any (λ h. not (p h)) hs) → (b && list_all p hs) ≡ not (not b || list_any (λ h. not (p h)) hs)
    by true e = e
    by false e = refl

all_same : (p : Handler → Bool) (xs ys : List Handler) → IsPermutation xs ys → list_all p ys ≡ list_all p xs
all_same p xs ys same = none_fails p ys ∙ ap not (sym (list_any-IsPermutation (λ (h : Handler). not (p h)) xs ys same)) ∙ sym (none_fails p xs)

pub new_sweep : (table : List Handler) (s : HandlerSweep) → s.covering.items ≡ [] → s.next ≡ 0 → IsPermutation table s.sorted.items → IsNonDecreasingBy (λ h. h.start) s.sorted.items → IsSwept table 0 s
new_sweep table s none first same up = record {
  sorted = up;
  holds = λ pc le. record {
    holds = λ test.
        ap (λ (hs : List Handler). all_covering test pc (hs ++ drop s.next s.sorted.items)) none ∙ ap (λ (n : ℕ). all_covering test pc (drop n s.sorted.items)) first
        ∙ all_same (counts test pc) table s.sorted.items same;
  };
}

pub advanced : (table : List Handler) (at pc : ℕ) (old new : HandlerSweep) (kept : List Handler) → at ≤ pc → kept ≡ filter (λ h. nat_lt pc h.end) old.covering.items → new.sorted.items ≡ old.sorted.items → new.covering.items ++ drop new.next old.sorted.items ≡ kept ++ drop old.next old.sorted.items → (new.next < length old.sorted.items → (d : Handler) → pc < (get_or old.sorted.items new.next d).start) → IsSwept table at old → IsSweptTo table pc new
advanced table at pc old new kept le is sorted moved first s = record { swept = swept; covering = record { holds = λ test. sym (alone test) ∙ (swept.holds pc (omega arith)).holds test } }
  where
    up : IsNonDecreasingBy (λ h. h.start) new.sorted.items
    up = rw sorted s.sorted

    rest : List Handler
    rest = drop new.next new.sorted.items

    same : new.covering.items ++ rest ≡ filter (λ h. nat_lt pc h.end) old.covering.items ++ drop old.next old.sorted.items
    same = ap (λ (l : List Handler). new.covering.items ++ drop new.next l) sorted ∙ moved ∙ ap (λ (l : List Handler). l ++ drop old.next old.sorted.items) is

    swept : IsSwept table pc new
    swept = record {
      sorted = up;
      holds = λ p h. record {
        holds = λ test.
            ap (all_covering test p) same ∙ ended test pc p old.covering.items (drop old.next old.sorted.items) h ∙ (s.holds p (omega (arith, le, h))).holds test;
      };
    }

    begins : 0 < length rest → (d : Handler) → pc < (get_or rest 0 d).start
    begins some d =
        let here : get_or rest 0 d ≡ get_or old.sorted.items new.next d = get_or-drop new.next new.sorted.items 0 d ∙ ap (λ (n : ℕ). get_or new.sorted.items n d) (omega arith) ∙ ap (λ (l : List Handler). get_or l new.next d) sorted in
        let within : new.next < length old.sorted.items = omega (arith, some, length-drop new.next new.sorted.items, ap length sorted) in
        rw here (first within d)

    alone : (test : Handler → Bool) → all_covering test pc (new.covering.items ++ rest) ≡ all_covering test pc new.covering.items
    alone test = front_alone test pc new.covering.items rest (later test pc rest (IsNonDecreasingBy-drop (λ (h : Handler). h.start) new.next new.sorted.items up) begins)

-- one row begins
pub taken : (hs sorted : List Handler) (i : ℕ) (d : Handler) → i < length sorted → (hs ++ get_or sorted i d ∷ []) ++ drop (i + 1) sorted ≡ hs ++ drop i sorted
taken hs sorted i d lt =
    append_assoc hs (get_or sorted i d ∷ []) (drop (i + 1) sorted) ∙ ap (λ (n : ℕ). hs ++ get_or sorted i d ∷ drop n sorted) (add-one i)
    ∙ ap (λ (l : List Handler). hs ++ l) (sym (drop-cons sorted i d lt))

pub all_taken : (hs sorted : List Handler) (i : ℕ) → length sorted ≤ i → hs ++ drop (length sorted) sorted ≡ hs ++ drop i sorted
all_taken hs sorted i le =
    let whole : drop (length sorted) sorted ≡ [] = drop_of_length-le sorted (omega arith) in
    let past : drop i sorted ≡ [] = drop_of_length-le sorted le in
    ap (λ (l : List Handler). hs ++ l) (whole ∙ sym past)

-- a later place
pub swept_on : (table : List Handler) (at to : ℕ) (s : HandlerSweep) → at ≤ to → IsSwept table at s → IsSwept table to s
swept_on table at to s le swept = record { sorted = swept.sorted; holds = λ pc h. swept.holds pc (omega (arith, le, h)) }

module _ (set : Set) (c : ClassFile) (m : Method) (pc : ℕ) (t : Types) where
  abbrev fits : Handler → Bool
  fits h = fits_handler set t (caught c h) (given_at m h.at)

  as_covering : (hs : List Handler) → all_caught set c m pc t hs ≡ all_covering fits pc hs
  as_covering [] = refl
  as_covering (h ∷ hs) = ap (λ (b : Bool). counts fits pc h && b) (as_covering hs)

  -- what is thrown is caught by those that cover the place, if by all
  pub same_caught : (table rows : List Handler) → HasCovering table pc rows → all_caught set c m pc t rows ≡ all_caught set c m pc t table
  same_caught table rows has = as_covering rows ∙ has.holds fits ∙ sym (as_covering table)
