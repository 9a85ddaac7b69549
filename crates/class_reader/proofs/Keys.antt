-- The members that are read, in the order of the set that keeps them.
use Rattle.std.proofs.Common.{◌≡◌, List, [], ◌∷◌, Bool, map, refl, sym, ap, ◌∙◌}
use Rattle.std.specs.Prelude.{reverse, ◌||◌}
use Rattle.std.specs.List.{list_any}
use Rattle.std.proofs.lemmas.List.Sorted.{list_any-IsPermutation, IsPermutation-reverse}
use Rattle.class_file.specs.ClassBytes.{Key}
use Rattle.class_file.specs.FormatFaults.{is_key}
use Rattle.class_reader.specs.declared.seen.Member.{Member}
use Rattle.class_reader.specs.Members.{key_of}

mapped : (k : Key) (ms : List Member) → list_any (is_key k) (map key_of ms) ≡ list_any (λ m. is_key k (key_of m)) ms
mapped k [] = refl
mapped k (m ∷ ms) = ap (λ (b : Bool). is_key k (key_of m) || b) (mapped k ms)

pub any_seen : (k : Key) (ms : List Member) → list_any (is_key k) (map key_of (reverse ms)) ≡ list_any (λ m. is_key k (key_of m)) ms
any_seen k ms = mapped k (reverse ms) ∙ sym (list_any-IsPermutation (λ (m : Member). is_key k (key_of m)) ms (reverse ms) (IsPermutation-reverse ms))
