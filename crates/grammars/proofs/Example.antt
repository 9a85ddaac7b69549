-- The small grammar is fair.
use Rattle.std.proofs.Common.{◌≡◌, Bool, true, false, ◌||◌, List, [], ◌∷◌, refl, sym}
use Rattle.grammars.specs.Grammar.{Test, next, Part, nothing, one, row, both, choose, Derives, d_nothing, d_one, d_row, d_both, d_left, d_right, Reads, r_nothing, r_one, r_row, r_both, r_left, r_right}
use Rattle.grammars.specs.Tables.{begins, IsEmptyTable, IsBeginTable}
use Rattle.grammars.specs.Fair.{o_maybe, Edge, e_maybe, e_left, e_right, e_row, e_second, e_first, OfferedBy, Fair, f_one, f_row, f_both, f_choose, IsFair}
use Rattle.grammars.specs.Example.{Word, if_, else_, name, is_if, is_else, is_name, Row, statement, else_part, grammar, a_name, with_else, without_else, words, ElseIsInner}
use Rattle.grammars.proofs.Readings.{never, derives}
use Rattle.grammars.proofs.Starts.{picks_next, leaves_next, fair_maybe}
use Rattle.grammars.proofs.Order.{preferred}

abbrev no_row : Row → Bool
no_row n = false

abbrev begin : Row → Word → Bool
begin n t = is_if t || is_name t

empties : IsEmptyTable grammar no_row
empties statement e = e

starts : IsBeginTable grammar no_row begin
starts statement if_ e = refl
starts statement else_ e = e
starts statement name e = refl

-- the one loop that may stand last in a statement
data IsElsePart : Bool → Test Word → Part Row Word → Type 0 where
  it_is : IsElsePart false (next is_else) else_part

last : {c : Bool} {g : Test Word} {q : Part Row Word} → Edge grammar no_row c (row statement) g q → IsElsePart c g q
last (e_row {r = statement} (e_left (e_second (e_second (e_maybe z))))) = it_is
last (e_row {r = statement} (e_left (e_second (e_second (e_left (e_second i)))))) = last i
last (e_row {r = statement} (e_left (e_second (e_second (e_left (e_first z i)))))) = never z refl
last (e_row {r = statement} (e_left (e_second (e_second (e_right i))))) = elim i [ ]
last (e_row {r = statement} (e_left (e_second (e_first z i)))) = last i
last (e_row {r = statement} (e_left (e_first z i))) = elim i [ ]
last (e_row {r = statement} (e_right i)) = elim i [ ]
last (e_row {r = statement} (e_maybe z)) = never z refl

offered : {c : Bool} {g : Test Word} {q : Part Row Word} → IsElsePart c g q → OfferedBy grammar no_row c (choose (next is_else) else_part nothing) g q
offered it_is K o = o_maybe (o refl)

no_edge : {f : Word → Bool} {c : Bool} {g : Test Word} {q b : Part Row Word} → Edge grammar no_row c (one f) g q → OfferedBy grammar no_row c b g q
no_edge i = elim i [ ]

if_is_picked : (t : Word) → begins no_row begin (both (one is_if) (both (row statement) (choose (next is_else) else_part nothing))) t ≡ true → is_if t ≡ true
if_is_picked if_ e = refl
if_is_picked else_ e = e
if_is_picked name e = e

else_is_picked : (t : Word) → begins no_row begin else_part t ≡ true → is_else t ≡ true
else_is_picked if_ e = e
else_is_picked else_ e = refl
else_is_picked name e = e

name_is_no_if : (t : Word) → begins no_row begin (one is_name) t ≡ true → is_if t ≡ false
name_is_no_if if_ e = sym e
name_is_no_if else_ e = refl
name_is_no_if name e = refl

is_fair : IsFair grammar no_row
is_fair = record { empties = empties; fair = fair }
  where
    fair : (n : Row) → Fair grammar no_row (grammar n)
    fair statement =
        f_choose
        (f_both f_one (f_both f_row (fair_maybe grammar no_row (f_both f_one f_row (λ c g q i. no_edge i)) (picks_next grammar no_row begin empties starts refl else_is_picked)) (λ c g q i. offered (last i))) (λ c g q i. no_edge i))
        f_one (picks_next grammar no_row begin empties starts refl if_is_picked) (leaves_next grammar no_row begin empties starts name_is_no_if)

name_read : {r : List Word} → Reads grammar (row statement) (name ∷ r) a_name r
name_read = r_row (r_right refl (r_one refl))

inner_read : Reads grammar (row statement) words (without_else (with_else a_name a_name)) []
inner_read = r_row (r_left refl (r_both (r_one refl) (r_both
    (r_row (r_left refl (r_both (r_one refl) (r_both name_read (r_left refl (r_both (r_one refl) name_read))))))
    (r_right refl r_nothing))))

outer_derived : Derives grammar (row statement) words (with_else (without_else a_name) a_name) []
outer_derived = d_row (d_left (d_both (d_one refl) (d_both
    (d_row (d_left (d_both (d_one refl) (d_both (derives grammar name_read) (d_right d_nothing)))))
    (d_left (d_both (d_one refl) (derives grammar name_read))))))

pub else_is_inner : ElseIsInner
else_is_inner = (derives grammar inner_read, outer_derived, λ y d. preferred grammar no_row is_fair inner_read d)
