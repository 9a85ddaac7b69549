-- The part of a file's name behind the last `/`, and the class that it gives.
use Rattle.std.proofs.Common.{◌≡◌, ◌≤◌, ◌<◌, ◌-◌, ℕ, Bool, true, false, not, ◌⊎◌, inl, inr, List, [], ◌∷◌, ◌++◌, length, get_or, drop, nat_eq, refl, sym, ◌∙◌, ap, append_assoc, codes, arith, length-append}
use Rattle.std.proofs.lemmas.Bool.Decides.{eqb_tells}
use Rattle.std.proofs.lemmas.List.{take_at, drop_at, get_or_at, get_or-append_right}
use Rattle.std.proofs.lemmas.List.Elements.{All-nil, All-cons, All-append, All-weaker, All-get_or}
use Rattle.std.proofs.lemmas.List.Sums.{suffix_len_is}
use Rattle.std.specs.List.{AllPass, suffix_len}
use Rattle.kc_cli.specs.ClassName.{last_part_of, without_ending, capitalized, class_name_of}
use Rattle.kc_cli.specs.SourceFile.{is_word_byte, path_of, IsBaseName, HasParts}

abbrev is_no_slash : ℕ → Bool
is_no_slash byte = not (nat_eq byte 47)

-- the part that begins behind a `/` or at the front, and that has none
pub drop-last_part : (file : List ℕ) (start : ℕ) → start ≤ length file → ((k : ℕ) → start ≤ k → k < length file → not (nat_eq (get_or file k 0) 47) ≡ true) → (0 < start → not (nat_eq (get_or file (start - 1) 0) 47) ≡ false) → drop start file ≡ last_part_of file
drop-last_part file start bound behind before =
    let found : suffix_len is_no_slash file ≡ length file - start = suffix_len_is is_no_slash file start 0 bound behind before in
    let same : start ≡ length file - suffix_len is_no_slash file = omega arith in
    ap (λ (n : ℕ). drop n file) same

-- folders end with `/`
path-cases : (folders : List (List ℕ)) → (path_of folders ≡ []) ⊎ ((front : List ℕ) × (path_of folders ≡ front ++ (47 ∷ [])))
path-cases [] = inl refl
path-cases (folder ∷ folders) =
    elim (path-cases folders) [
      | inl none ↦ inr (folder, ap (λ (rest : List ℕ). folder ++ (47 ∷ rest)) none)
      | inr some ↦ inr (folder ++ (47 ∷ some.0), ap (λ (rest : List ℕ). folder ++ (47 ∷ rest)) some.1 ∙ sym (append_assoc folder (47 ∷ some.0) (47 ∷ [])))
    ]

behind : (path tail : List ℕ) → AllPass is_no_slash tail → (k : ℕ) → length path ≤ k → k < length (path ++ tail) → is_no_slash (get_or (path ++ tail) k 0) ≡ true
behind path tail clear k from to =
    ap is_no_slash (get_or-append_right path tail (length path) k 0 refl from)
    ∙ All-get_or (λ (byte : ℕ). is_no_slash byte ≡ true) tail (k - length path) 0 (omega (arith, length-append path tail)) clear

before : (path tail : List ℕ) → (path ≡ []) ⊎ ((front : List ℕ) × (path ≡ front ++ (47 ∷ []))) → 0 < length path → is_no_slash (get_or (path ++ tail) (length path - 1) 0) ≡ false
before path tail (inl none) some = absurd (omega (arith, ap length none))
before path tail (inr it) some =
    ap (λ (whole : List ℕ). is_no_slash (get_or whole (length path - 1) 0)) (ap (λ (front : List ℕ). front ++ tail) it.1 ∙ append_assoc it.0 (47 ∷ []) tail)
    ∙ ap is_no_slash (get_or_at it.0 47 tail 0 (length path - 1) (omega (arith, ap length it.1, length-append it.0 (47 ∷ []))))

last_part-append : (path tail : List ℕ) → (path ≡ []) ⊎ ((front : List ℕ) × (path ≡ front ++ (47 ∷ []))) → AllPass is_no_slash tail → last_part_of (path ++ tail) ≡ tail
last_part-append path tail cases clear =
    sym (drop-last_part (path ++ tail) (length path) (omega (arith, length-append path tail)) (behind path tail clear) (before path tail cases))
    ∙ drop_at path tail (length path) refl

word-is_no_slash : (byte : ℕ) → is_word_byte byte ≡ true → is_no_slash byte ≡ true
word-is_no_slash byte word =
    elim (eqb_tells byte 47) [
      | inl it ↦ (let no : is_word_byte byte ≡ false = ap is_word_byte it.1 in cc)
      | inr it ↦ ap not it.0
    ]

base-clear : (base : List ℕ) → IsBaseName base → AllPass is_no_slash base
base-clear [] named = absurd named
base-clear (first ∷ rest) named =
    All-weaker (λ (byte : ℕ). is_word_byte byte ≡ true) (λ (byte : ℕ). is_no_slash byte ≡ true) word-is_no_slash (first ∷ rest) named.1

ending-clear : AllPass is_no_slash (codes ".kt")
ending-clear =
    let P : ℕ → Type 0 = λ byte. is_no_slash byte ≡ true in
    All-cons P 46 (107 ∷ (116 ∷ [])) refl (All-cons P 107 (116 ∷ []) refl (All-cons P 116 [] refl (All-nil P)))

pub last_part-of_parts : (file : List ℕ) (folders : List (List ℕ)) (base : List ℕ) → HasParts file folders base → last_part_of file ≡ base ++ codes ".kt"
last_part-of_parts file folders base parts =
    ap last_part_of parts.spelled
    ∙ last_part-append (path_of folders) (base ++ codes ".kt") (path-cases folders) (All-append (λ (byte : ℕ). is_no_slash byte ≡ true) base (codes ".kt") (base-clear base parts.named) ending-clear)

pub class_name-of_parts : (file : List ℕ) (folders : List (List ℕ)) (base : List ℕ) → HasParts file folders base → class_name_of file ≡ capitalized base ++ codes "Kt"
class_name-of_parts file folders base parts =
    let size : length base ≡ length (base ++ codes ".kt") - 3 = omega (arith, length-append base (codes ".kt")) in
    let bare : without_ending (last_part_of file) ≡ base =
    ap without_ending (last_part-of_parts file folders base parts) ∙ take_at base (codes ".kt") (length (base ++ codes ".kt") - 3) size in
    ap (λ (name : List ℕ). capitalized name ++ codes "Kt") bare
