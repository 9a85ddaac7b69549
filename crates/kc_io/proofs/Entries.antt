-- On the entries of a folder in memory.
use Rattle.std.proofs.Common.{◌≡◌, ℕ, ◌+◌, ◌<◌, ◌≤◌, suc, Bool, true, false, not, cond, nat_lt, Option, Some, None, List, [], ◌∷◌, ◌++◌, length, get_or, refl, sym, ap, subst, ◌∙◌, arith}
use Rattle.std.specs.Prelude.{String, slice_set}
use Rattle.std.specs.Global.{Global, Vec}
use Rattle.std.specs.List.{position_or_len, position}
use Rattle.std.specs.String.{string_bytes}
use Rattle.std.specs.Str.{bytes_eq}
use Rattle.std.specs.Ordering.{nat_cmp, eq_by_cmp}
use Rattle.std.specs.Cmp.Lexicographic.{slice_cmp, nat_list_cmp_total}
use Rattle.std.specs.FinMap.{find, get, insert, same_map, get-insert, get-from_entries, slice_cmp-IsAntisymmetric, nat_cmp-IsAntisymmetric}
use Rattle.std.proofs.lemmas.Bool.Decides.{nat_tests}
use Rattle.std.proofs.lemmas.Map.Text.{is_eq-slice_cmp}
use Rattle.std.proofs.lemmas.Slice.Eq.{bytes_eq-Decides}
use Rattle.kc_io.specs.Entries.{entry_of, entries_of, files_of, with_entry}

-- a file has this name
abbrev pub is_named : List ℕ → String Global × Vec ℕ → Bool
is_named name file = bytes_eq name (string_bytes file.0)

-- the contents that the first entry of a name has
abbrev contents_at : List ℕ → List (List ℕ × List ℕ) → Option (List ℕ)
contents_at name entries = find (slice_cmp nat_cmp) name entries

-- the search goes by the bytes
contents_at-step : (name : List ℕ) (entry : List ℕ × List ℕ) (entries : List (List ℕ × List ℕ)) → contents_at name (entry ∷ entries) ≡ cond (bytes_eq name entry.0) (Some entry.1) (contents_at name entries)
contents_at-step name entry entries = ap (λ b. cond b (Some entry.1) (contents_at name entries)) (is_eq-slice_cmp name entry.0)

found : (files : List (String Global × Vec ℕ)) (name : List ℕ) (other : String Global × Vec ℕ) → position_or_len (is_named name) files < length files → contents_at name (entries_of files) ≡ Some (get_or files (position_or_len (is_named name) files) other).1.items
found [] name other h = absurd (omega arith)
found (file ∷ files) name other h =
    contents_at-step name (entry_of file) (entries_of files)
    ∙ elim (is_named name file) as (λ b. cond (not b) (1 + position_or_len (is_named name) files) 0 < suc (length files) → cond b (Some file.1.items) (contents_at name (entries_of files)) ≡ Some (get_or (file ∷ files) (cond (not b) (1 + position_or_len (is_named name) files) 0) other).1.items) [
      | true ↦ λ g. refl
      | false ↦ λ g.
          let next : 1 + position_or_len (is_named name) files ≡ suc (position_or_len (is_named name) files) = omega arith in
          found files name other (omega arith) ∙ ap (λ n. Some (get_or (file ∷ files) n other).1.items) (sym next)
    ] h

not_found : (files : List (String Global × Vec ℕ)) (name : List ℕ) → length files ≤ position_or_len (is_named name) files → contents_at name (entries_of files) ≡ None
not_found [] name h = refl
not_found (file ∷ files) name h =
    contents_at-step name (entry_of file) (entries_of files)
    ∙ elim (is_named name file) as (λ b. suc (length files) ≤ cond (not b) (1 + position_or_len (is_named name) files) 0 → cond b (Some file.1.items) (contents_at name (entries_of files)) ≡ None) [
      | true ↦ λ g. absurd (omega arith)
      | false ↦ λ g. not_found files name (omega arith)
    ] h

replaced : (files : List (String Global × Vec ℕ)) (name : List ℕ) (other new : String Global × Vec ℕ) → position_or_len (is_named name) files < length files → new.0 ≡ (get_or files (position_or_len (is_named name) files) other).0 → entries_of (slice_set files (position_or_len (is_named name) files) new) ≡ with_entry (entries_of files) name new.1.items
replaced [] name other new h e = absurd (omega arith)
replaced (file ∷ files) name other new h e =
    elim (is_named name file) as (λ b. cond (not b) (1 + position_or_len (is_named name) files) 0 < suc (length files) → new.0 ≡ (get_or (file ∷ files) (cond (not b) (1 + position_or_len (is_named name) files) 0) other).0 → entries_of (slice_set (file ∷ files) (cond (not b) (1 + position_or_len (is_named name) files) 0) new) ≡ cond b ((string_bytes file.0, new.1.items) ∷ entries_of files) (entry_of file ∷ with_entry (entries_of files) name new.1.items)) [
      | true ↦ λ g d. ap (λ key. (string_bytes key, new.1.items) ∷ entries_of files) d
      | false ↦ λ g d.
          let next : 1 + position_or_len (is_named name) files ≡ suc (position_or_len (is_named name) files) = omega arith in
          ap (λ n. entries_of (slice_set (file ∷ files) n new)) next ∙ ap (λ entries. entry_of file ∷ entries) (replaced files name other new (omega arith) (d ∙ ap (λ n. (get_or (file ∷ files) n other).0) next))
    ] h e

pushed : (files : List (String Global × Vec ℕ)) (name : List ℕ) (new : String Global × Vec ℕ) → length files ≤ position_or_len (is_named name) files → string_bytes new.0 ≡ name → entries_of (files ++ new ∷ []) ≡ with_entry (entries_of files) name new.1.items
pushed [] name new h e = ap (λ key. (key, new.1.items) ∷ []) e
pushed (file ∷ files) name new h e =
    elim (is_named name file) as (λ b. suc (length files) ≤ cond (not b) (1 + position_or_len (is_named name) files) 0 → entry_of file ∷ entries_of (files ++ new ∷ []) ≡ cond b ((string_bytes file.0, new.1.items) ∷ entries_of files) (entry_of file ∷ with_entry (entries_of files) name new.1.items)) [
      | true ↦ λ g. absurd (omega arith)
      | false ↦ λ g. ap (λ entries. entry_of file ∷ entries) (pushed files name new (omega arith) e)
    ] h

placed : (p : String Global × Vec ℕ → Bool) (files : List (String Global × Vec ℕ)) (place : ℕ) → Some place ≡ position p files → (position_or_len p files < length files) × (place ≡ position_or_len p files)
placed p files place h =
    elim (nat_lt (position_or_len p files) (length files)) as (λ b. nat_lt (position_or_len p files) (length files) ≡ b → Some place ≡ cond b (Some (position_or_len p files)) None → (position_or_len p files < length files) × (place ≡ position_or_len p files)) [
      | true ↦ λ t e. (grind (arith, nat_tests), cc)
      | false ↦ λ t e. absurd (cc)
    ] refl h

unplaced : (p : String Global × Vec ℕ → Bool) (files : List (String Global × Vec ℕ)) → None ≡ position p files → length files ≤ position_or_len p files
unplaced p files h =
    elim (nat_lt (position_or_len p files) (length files)) as (λ b. nat_lt (position_or_len p files) (length files) ≡ b → None ≡ cond b (Some (position_or_len p files)) None → length files ≤ position_or_len p files) [
      | true ↦ λ t e. absurd (cc)
      | false ↦ λ t e. grind (arith, nat_tests)
    ] refl h

-- the contents at the place of a name
pub contents_found : (files : List (String Global × Vec ℕ)) (name : List ℕ) (place : ℕ) (other : String Global × Vec ℕ) → Some place ≡ position (is_named name) files → get (files_of (entries_of files)) name ≡ Some (get_or files place other).1.items
contents_found files name place other h =
    let at = placed (is_named name) files place h in
    get-from_entries nat_list_cmp_total (entries_of files) name ∙ found files name other at.0 ∙ ap (λ n. Some (get_or files n other).1.items) (sym at.1)

pub contents_missing : (files : List (String Global × Vec ℕ)) (name : List ℕ) → None ≡ position (is_named name) files → get (files_of (entries_of files)) name ≡ None
contents_missing files name h =
    get-from_entries nat_list_cmp_total (entries_of files) name ∙ not_found files name (unplaced (is_named name) files h)

-- new contents at the place of a name
pub entries_replaced : (files : List (String Global × Vec ℕ)) (name : List ℕ) (place : ℕ) (other new : String Global × Vec ℕ) → Some place ≡ position (is_named name) files → new.0 ≡ (get_or files place other).0 → entries_of (slice_set files place new) ≡ with_entry (entries_of files) name new.1.items
entries_replaced files name place other new h e =
    let at = placed (is_named name) files place h in
    ap (λ n. entries_of (slice_set files n new)) at.1 ∙ replaced files name other new at.0 (e ∙ ap (λ n. (get_or files n other).0) at.1)

-- a name that has no place yet
pub entries_pushed : (files : List (String Global × Vec ℕ)) (name : List ℕ) (new : String Global × Vec ℕ) → None ≡ position (is_named name) files → string_bytes new.0 ≡ name → entries_of (files ++ new ∷ []) ≡ with_entry (entries_of files) name new.1.items
entries_pushed files name new h e = pushed files name new (unplaced (is_named name) files h) e

shadowed : {A : Type 0} (b : Bool) (x y z : A) → cond b x z ≡ cond b x (cond b y z)
shadowed true x y z = refl
shadowed false x y z = refl

swapped : {A : Type 0} (a b : Bool) (x y z : A) → (a ≡ true → b ≡ true → ⊥) → cond a x (cond b y z) ≡ cond b y (cond a x z)
swapped true true x y z apart = absurd (apart refl refl)
swapped true false x y z apart = refl
swapped false true x y z apart = refl
swapped false false x y z apart = refl

same_name : (name other : List ℕ) → eq_by_cmp (slice_cmp nat_cmp) name other ≡ true → name ≡ other
same_name name other h = (bytes_eq-Decides name other).0 (sym (is_eq-slice_cmp name other) ∙ h)

contents_at-with_entry : (entries : List (List ℕ × List ℕ)) (name bytes other : List ℕ) → contents_at other (with_entry entries name bytes) ≡ cond (eq_by_cmp (slice_cmp nat_cmp) other name) (Some bytes) (contents_at other entries)
contents_at-with_entry [] name bytes other = refl
contents_at-with_entry (entry ∷ entries) name bytes other =
    elim (bytes_eq name entry.0) as (λ b. bytes_eq name entry.0 ≡ b → contents_at other (cond b ((entry.0, bytes) ∷ entries) (entry ∷ with_entry entries name bytes)) ≡ cond (eq_by_cmp (slice_cmp nat_cmp) other name) (Some bytes) (contents_at other (entry ∷ entries))) [
      | true ↦ λ t.
          subst (λ (key : List ℕ). contents_at other ((entry.0, bytes) ∷ entries) ≡ cond (eq_by_cmp (slice_cmp nat_cmp) other key) (Some bytes) (contents_at other (entry ∷ entries)))
          (sym ((bytes_eq-Decides name entry.0).0 t))
          (shadowed (eq_by_cmp (slice_cmp nat_cmp) other entry.0) (Some bytes) (Some entry.1) (contents_at other entries))
      | false ↦ λ f.
          ap (cond (eq_by_cmp (slice_cmp nat_cmp) other entry.0) (Some entry.1)) (contents_at-with_entry entries name bytes other)
          ∙ swapped _ _ _ _ _ (λ a b. let same : bytes_eq name entry.0 ≡ true = (bytes_eq-Decides name entry.0).1 (sym (same_name other name b) ∙ same_name other entry.0 a) in cc)
    ] refl

-- a write sets that file and no other
pub files_of-with_entry : (entries : List (List ℕ × List ℕ)) (name bytes : List ℕ) → files_of (with_entry entries name bytes) ≡ insert (files_of entries) name bytes
files_of-with_entry entries name bytes =
    same_map nat_list_cmp_total (slice_cmp-IsAntisymmetric nat_cmp-IsAntisymmetric) _ _ (λ other.
    get-from_entries nat_list_cmp_total (with_entry entries name bytes) other
    ∙ contents_at-with_entry entries name bytes other
    ∙ sym (get-insert nat_list_cmp_total (files_of entries) name bytes other ∙ ap (cond (eq_by_cmp (slice_cmp nat_cmp) other name) (Some bytes)) (get-from_entries nat_list_cmp_total entries other))
    )
