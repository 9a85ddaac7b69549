-- A part of the input, kept with the front of the file that it ends.
use Rattle.std.proofs.Common.{◌≡◌, ℕ, ◌+◌, ◌≤◌, false, List, length, take, drop, nat_lt, refl}
use Rattle.std.proofs.lemmas.Bool.{le-ltb}
use Rattle.std.proofs.lemmas.List.{drop-take, drop-drop}
use Rattle.class_file.specs.Inputs.{Input, read}
use Rattle.class_reader.specs.Reads.{opened}

abbrev input : ℕ → List ℕ → Input
input at bytes = record { at = at; bytes = bytes }

pub part_is : (front : List ℕ) (at n : ℕ) → n ≤ length (drop at front) → opened n (input at (drop at front)) ≡ read (input at (drop at (take (at + n) front))) (input (at + n) (drop (at + n) front))
part_is front at n le =
    let enough : nat_lt (length (drop at front)) n ≡ false = le-ltb _ _ le in
    let rest : drop n (drop at front) ≡ drop (at + n) front = drop-drop n at front in
    rw (enough, drop-take at n front, rest) refl
