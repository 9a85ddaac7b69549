-- A path is read to its end exactly where it is folders, each followed by `/`, and a base name.
use Rattle.std.proofs.Common.{◌≡◌, ◌≤◌, ℕ, Bool, true, false, ◌⊎◌, inl, inr, List, [], ◌∷◌, ◌++◌, length, Option, Some, None, nat_eq, if◌then◌else◌, refl, sym, ◌∙◌, ap, append_assoc, codes}
use Rattle.std.proofs.lemmas.Bool.{eqb-true}
use Rattle.std.proofs.lemmas.List.Elements.{All-nil, All-cons, All-head, All-tail}
use Rattle.std.proofs.lemmas.List.{append_cancel_right}
use Rattle.std.specs.List.{All, AllPass}
use Rattle.std.specs.Char.{is_ascii_digit}
use Rattle.std.specs.Option.{option_map_or}
use Rattle.kc_cli.specs.SourceFile.{is_word_byte, path_of, IsFolderName, IsBaseName, IsSourceFile}
use Rattle.kc_cli.specs.Scan.{reads}
use Rattle.kc_cli.specs.declared.source_file.Part.{Part}
use Rattle.kc_cli.specs.declared.source_file.Part.TheVariants.{Begins, Folder, Base}

-- folders and a base name
pub record IsPath (bytes : List ℕ) : Type 0 where
  pub folders : List (List ℕ)
  pub base : List ℕ
  pub each_folder : All IsFolderName folders
  pub named : IsBaseName base
  pub spelled : bytes ≡ path_of folders ++ base

-- the rest of a folder's name, `/` and a path
record EndsFolder (bytes : List ℕ) : Type 0 where
  rest : List ℕ
  after : List ℕ
  words : AllPass is_word_byte rest
  spelled : bytes ≡ rest ++ (47 ∷ after)
  path : IsPath after

-- what the bytes are that are read to their end from inside this part
abbrev Meant : Part → List ℕ → Type 0
Meant Begins bytes = IsPath bytes
Meant Folder bytes = EndsFolder bytes
Meant Base bytes = EndsFolder bytes ⊎ AllPass is_word_byte bytes

-- the facts of a list by its first byte and the others
no_words : AllPass is_word_byte []
no_words = All-nil (λ (byte : ℕ). is_word_byte byte ≡ true)

one_more : (byte : ℕ) (rest : List ℕ) → is_word_byte byte ≡ true → AllPass is_word_byte rest → AllPass is_word_byte (byte ∷ rest)
one_more = All-cons (λ (byte : ℕ). is_word_byte byte ≡ true)

the_first : (byte : ℕ) (rest : List ℕ) → AllPass is_word_byte (byte ∷ rest) → is_word_byte byte ≡ true
the_first = All-head (λ (byte : ℕ). is_word_byte byte ≡ true)

the_others : (byte : ℕ) (rest : List ℕ) → AllPass is_word_byte (byte ∷ rest) → AllPass is_word_byte rest
the_others = All-tail (λ (byte : ℕ). is_word_byte byte ≡ true)

longer : (byte : ℕ) (bytes : List ℕ) → is_word_byte byte ≡ true → EndsFolder bytes → EndsFolder (byte ∷ bytes)
longer byte bytes word ends = record {
  rest = byte ∷ ends.rest;
  after = ends.after;
  words = one_more byte ends.rest word ends.words;
  spelled = ap (λ (more : List ℕ). byte ∷ more) ends.spelled;
  path = ends.path;
}

at_slash : (byte : ℕ) (bytes : List ℕ) → nat_eq byte 47 ≡ true → IsPath bytes → EndsFolder (byte ∷ bytes)
at_slash byte bytes slash path = record {
  rest = [];
  after = bytes;
  words = no_words;
  spelled = ap (λ (first : ℕ). first ∷ bytes) (eqb-true byte 47 slash);
  path = path;
}

joined : (rest path base after bytes : List ℕ) → bytes ≡ rest ++ (47 ∷ after) → after ≡ path ++ base → bytes ≡ (rest ++ (47 ∷ path)) ++ base
joined rest path base after bytes whole behind = let e = append_assoc rest (47 ∷ path) base in cc

with_folder : (byte : ℕ) (bytes : List ℕ) → is_word_byte byte ≡ true → EndsFolder bytes → IsPath (byte ∷ bytes)
with_folder byte bytes word ends = record {
  folders = (byte ∷ ends.rest) ∷ ends.path.folders;
  base = ends.path.base;
  each_folder = All-cons IsFolderName (byte ∷ ends.rest) ends.path.folders (one_more byte ends.rest word ends.words) ends.path.each_folder;
  named = ends.path.named;
  spelled = ap (λ (more : List ℕ). byte ∷ more) (joined ends.rest (path_of ends.path.folders) ends.path.base ends.after bytes ends.spelled ends.path.spelled);
}

from_begin : (word digit : Bool) (byte : ℕ) (bytes : List ℕ) → is_word_byte byte ≡ word → is_ascii_digit byte ≡ digit → ((part : Part) → reads bytes part ≡ true → Meant part bytes) → option_map_or (reads bytes) (if word then Some (if digit then Folder else Base) else None) false ≡ true → IsPath (byte ∷ bytes)
from_begin true true byte bytes word digit sound read = with_folder byte bytes word (sound Folder read)
from_begin true false byte bytes word digit sound read =
    elim (sound Base read) [
      | inl ends ↦ with_folder byte bytes word ends
      | inr words ↦ record { folders = []; base = byte ∷ bytes; each_folder = All-nil IsFolderName; named = (digit, one_more byte bytes word words); spelled = refl }
    ]
from_begin false digit byte bytes word _ sound read = cc

from_folder : (word slash : Bool) (byte : ℕ) (bytes : List ℕ) → is_word_byte byte ≡ word → nat_eq byte 47 ≡ slash → ((part : Part) → reads bytes part ≡ true → Meant part bytes) → option_map_or (reads bytes) (if word then Some Folder else (if slash then Some Begins else None)) false ≡ true → EndsFolder (byte ∷ bytes)
from_folder true slash byte bytes word _ sound read = longer byte bytes word (sound Folder read)
from_folder false true byte bytes _ slash sound read = at_slash byte bytes slash (sound Begins read)
from_folder false false byte bytes _ slash sound read = cc

from_base : (word slash : Bool) (byte : ℕ) (bytes : List ℕ) → is_word_byte byte ≡ word → nat_eq byte 47 ≡ slash → ((part : Part) → reads bytes part ≡ true → Meant part bytes) → option_map_or (reads bytes) (if word then Some Base else (if slash then Some Begins else None)) false ≡ true → Meant Base (byte ∷ bytes)
from_base true slash byte bytes word _ sound read =
    elim (sound Base read) [ inl ends ↦ inl (longer byte bytes word ends) | inr words ↦ inr (one_more byte bytes word words) ]
from_base false true byte bytes _ slash sound read = inl (at_slash byte bytes slash (sound Begins read))
from_base false false byte bytes _ slash sound read = cc

sound : (bytes : List ℕ) (part : Part) → reads bytes part ≡ true → Meant part bytes
sound [] Begins read = cc
sound [] Folder read = cc
sound [] Base read = inr no_words
sound (byte ∷ bytes) Begins read = from_begin (is_word_byte byte) (is_ascii_digit byte) byte bytes refl refl (sound bytes) read
sound (byte ∷ bytes) Folder read = from_folder (is_word_byte byte) (nat_eq byte 47) byte bytes refl refl (sound bytes) read
sound (byte ∷ bytes) Base read = from_base (is_word_byte byte) (nat_eq byte 47) byte bytes refl refl (sound bytes) read

-- the next part inside one, where the byte is a letter, a digit or `_`, or isn't
abbrev inside : Part → ℕ → Bool → Option Part
inside part byte word = if word then Some part else (if nat_eq byte 47 then Some Begins else None)

reads-folder : (digit : Bool) (rest after : List ℕ) → AllPass is_word_byte rest → reads (rest ++ (47 ∷ after)) (if digit then Folder else Base) ≡ reads after Begins
reads-folder true [] after words = refl
reads-folder false [] after words = refl
reads-folder true (byte ∷ rest) after words =
    ap (λ (word : Bool). option_map_or (reads (rest ++ (47 ∷ after))) (inside Folder byte word) false) (the_first byte rest words) ∙ reads-folder true rest after (the_others byte rest words)
reads-folder false (byte ∷ rest) after words =
    ap (λ (word : Bool). option_map_or (reads (rest ++ (47 ∷ after))) (inside Base byte word) false) (the_first byte rest words) ∙ reads-folder false rest after (the_others byte rest words)

reads-base : (rest : List ℕ) → AllPass is_word_byte rest → reads rest Base ≡ true
reads-base [] words = refl
reads-base (byte ∷ rest) words =
    ap (λ (word : Bool). option_map_or (reads rest) (inside Base byte word) false) (the_first byte rest words) ∙ reads-base rest (the_others byte rest words)

-- the first part, by what its first byte is
abbrev first_part : Bool → Bool → Option Part
first_part word digit = if word then Some (if digit then Folder else Base) else None

reads-path : (folders : List (List ℕ)) (base : List ℕ) → All IsFolderName folders → IsBaseName base → reads (path_of folders ++ base) Begins ≡ true
reads-path [] [] each named = absurd named
reads-path [] (byte ∷ rest) each named =
    ap (λ (word : Bool). option_map_or (reads rest) (first_part word (is_ascii_digit byte)) false) (the_first byte rest named.1)
    ∙ ap (λ (digit : Bool). option_map_or (reads rest) (first_part true digit) false) named.0
    ∙ reads-base rest (the_others byte rest named.1)
reads-path ([] ∷ folders) base each named = absurd (All-head IsFolderName [] folders each)
reads-path ((byte ∷ rest) ∷ folders) base each named =
    let words : AllPass is_word_byte (byte ∷ rest) = All-head IsFolderName (byte ∷ rest) folders each in
    ap (λ (word : Bool). option_map_or (reads ((rest ++ (47 ∷ path_of folders)) ++ base)) (first_part word (is_ascii_digit byte)) false) (the_first byte rest words)
    ∙ ap (λ (bytes : List ℕ). reads bytes (if is_ascii_digit byte then Folder else Base)) (append_assoc rest (47 ∷ path_of folders) base)
    ∙ reads-folder (is_ascii_digit byte) rest (path_of folders ++ base) (the_others byte rest words)
    ∙ reads-path folders base (All-tail IsFolderName (byte ∷ rest) folders each) named

-- a file of at most 200 bytes that ends with `.kt` is a source file where what stands before is a path
pub source_file-of_path : (file path : List ℕ) → file ≡ path ++ codes ".kt" → length file ≤ 200 → reads path Begins ≡ true → IsSourceFile file
source_file-of_path file path ending short read =
    let it : IsPath path = sound path Begins read in
    record {
      short = short;
      folders = it.folders;
      base = it.base;
      parts = record {
        each_folder = it.each_folder;
        named = it.named;
        spelled = ending ∙ ap (λ (front : List ℕ). front ++ codes ".kt") it.spelled ∙ append_assoc (path_of it.folders) it.base (codes ".kt");
      };
    }

-- and only there
pub path-of_source_file : (file path : List ℕ) → file ≡ path ++ codes ".kt" → IsSourceFile file → reads path Begins ≡ true
path-of_source_file file path ending it =
    let whole : path ++ codes ".kt" ≡ (path_of it.folders ++ it.base) ++ codes ".kt" =
    sym ending ∙ it.parts.spelled ∙ sym (append_assoc (path_of it.folders) it.base (codes ".kt")) in
    let front : path ≡ path_of it.folders ++ it.base = append_cancel_right path (path_of it.folders ++ it.base) (codes ".kt") whole in
    ap (λ (bytes : List ℕ). reads bytes Begins) front ∙ reads-path it.folders it.base it.parts.each_folder it.parts.named
