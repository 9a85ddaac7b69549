-- An entry takes no more indexes than are left where it is read.
use Rattle.std.proofs.Common.{◌≡◌, ℕ, ℤ, ◌≤◌, [], Bool, true, false, cond, nat_lt, eqb, Option, Some, None, List, Result, Ok, Err, refl, subst, arith, ltb-false}
use Rattle.std.specs.Int.{w8, w16, w32, w64}
use Rattle.class_file.specs.declared.format_fault.FormatFault.{FormatFault}
use Rattle.class_file.specs.declared.format_fault.FormatCode.TheVariants.{BadPool}
use Rattle.class_file.specs.declared.pool.Entry.{Entry}
use Rattle.class_file.specs.declared.pool.Entry.TheVariants as entry
use Rattle.class_file.specs.Indexing.{places_of}
use Rattle.class_file.specs.Inputs.{◌>>=◌, Input, Read, Reading, read, fault, bytes_at, number_at, signed_at, text_of_modified}
use Rattle.class_file.specs.PoolFaults.{Wanted, Use, Piece, piece, AText, ATypeName, ADescriptor, AClass, AFieldsType, AMethodsType, one_index, second_index, two_indexes, use_of, text_entry, utf8_at, long_at, tagged_at, piece_behind, piece_at}

abbrev taken : Reading Entry → ℕ
taken (Ok x) = places_of x.value
taken (Err f) = 0

then_taken : {A : Type 0} (left : ℕ) (r : Result A FormatFault) (f : A → Reading Entry) → ((a : A) → taken (f a) ≤ left) → taken (r >>= f) ≤ left
then_taken left (Ok x) f h = h x
then_taken left (Err e) f h = omega arith

text_taken : (left at : ℕ) (rest : Input) (t : Option (List ℕ)) → 1 ≤ left → taken (text_entry at rest t) ≤ left
text_taken left at rest None h = omega arith
text_taken left at rest (Some t) h = h

utf8_taken : (left : ℕ) (i : Input) → 1 ≤ left → taken (utf8_at i) ≤ left
utf8_taken left i h =
    then_taken left (number_at w16 i) (λ (n : Read ℕ). bytes_at n.value n.rest >>= λ (b : Read (List ℕ)). text_entry n.rest.at b.rest (text_of_modified b.value))
    (λ n. then_taken left (bytes_at n.value n.rest) (λ (b : Read (List ℕ)). text_entry n.rest.at b.rest (text_of_modified b.value))
    (λ b. text_taken left n.rest.at b.rest (text_of_modified b.value) h))

module _ (left : ℕ) (wanted : Wanted) (make : ℕ → Entry) (h : (n : ℕ) → places_of (make n) ≤ left) where
  one_taken : (i : Input) (r : Reading ℕ) → taken (one_index wanted make i r).end ≤ left
  one_taken i (Err f) = omega arith
  one_taken i (Ok n) = h n.value

  second_taken : (first : Use) (i : Input) (r : Reading ℕ) → taken (second_index first wanted make i r).end ≤ left
  second_taken first i (Err f) = omega arith
  second_taken first i (Ok n) = h n.value

two_taken : (left : ℕ) (wanted other : Wanted) (make : ℕ → ℕ → Entry) → ((n m : ℕ) → places_of (make n m) ≤ left) → (i : Input) (r : Reading ℕ) → taken (two_indexes wanted other make i r).end ≤ left
two_taken left wanted other make h i (Err f) = omega arith
two_taken left wanted other make h i (Ok n) = second_taken left other (make n.value) (h n.value) (use_of i n.value wanted) n.rest (number_at w16 n.rest)

by_test : (left : ℕ) (b : Bool) (x y : Piece) → taken x.end ≤ left → taken y.end ≤ left → taken (cond b x y).end ≤ left
by_test left true x y h k = h
by_test left false x y h k = k

long_taken : (left at : ℕ) (i : Input) → taken (cond (nat_lt left 2) (piece [] (fault BadPool at)) (piece [] (long_at i))).end ≤ left
long_taken left at i = by (nat_lt left 2) refl
  where
    by : (b : Bool) → nat_lt left 2 ≡ b → taken (cond b (piece [] (fault BadPool at)) (piece [] (long_at i))).end ≤ left
    by true e = omega arith
    by false e = let h : 2 ≤ left = omega (arith, ltb-false left 2 e) in then_taken left (signed_at w64 i) (λ (n : Read ℤ). read (entry.Long n.value) n.rest) (λ n. h)

tagged_taken : (left at tag : ℕ) (i : Input) → 1 ≤ left → taken (tagged_at left at tag i).end ≤ left
unfolding tagged_at
tagged_taken left at tag i h =
    by_test left (eqb tag 1) _ _ (utf8_taken left i h)
    (by_test left (eqb tag 3) _ _ (then_taken left (signed_at w32 i) (λ (n : Read ℤ). read (entry.Integer n.value) n.rest) (λ n. h))
    (by_test left (eqb tag 5) _ _ (long_taken left at i)
    (by_test left (eqb tag 7) _ _ (one_taken left ATypeName entry.Class (λ n. h) i (number_at w16 i))
    (by_test left (eqb tag 8) _ _ (one_taken left AText entry.Str (λ n. h) i (number_at w16 i))
    (by_test left (eqb tag 9) _ _ (two_taken left AClass AFieldsType entry.FieldRef (λ n m. h) i (number_at w16 i))
    (by_test left (eqb tag 10) _ _ (two_taken left AClass AMethodsType entry.MethodRef (λ n m. h) i (number_at w16 i))
    (by_test left (eqb tag 11) _ _ (two_taken left AClass AMethodsType entry.InterfaceMethodRef (λ n m. h) i (number_at w16 i))
    (by_test left (eqb tag 12) _ _ (two_taken left AText ADescriptor entry.NameAndType (λ n m. h) i (number_at w16 i))
    (omega arith)))))))))

piece_taken : (left : ℕ) (i : Input) → 1 ≤ left → taken (piece_at left i).end ≤ left
piece_taken left i h = by (number_at w8 i)
  where
    by : (r : Reading ℕ) → taken (piece_behind left i.at r).end ≤ left
    by (Err f) = omega arith
    by (Ok n) = tagged_taken left i.at n.value n.rest h

pub fits : (left : ℕ) (i rest : Input) (e : Entry) → 1 ≤ left → (piece_at left i).end ≡ read e rest → places_of e ≤ left
fits left i rest e h is = subst (λ (r : Reading Entry). taken r ≤ left) is (piece_taken left i h)
