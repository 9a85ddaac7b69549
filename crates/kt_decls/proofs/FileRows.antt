-- What follows from the reading of a file that ends before the last token, and from a refusal.
use Rattle.std.proofs.Common.{◌≡◌, ℕ, zero, suc, ◌+◌, ◌<◌, ◌≤◌, max, List, [], ◌∷◌, ◌++◌, length, length-append, length-drop, drop, Option, Some, None, Result, Ok, Err, refl, sym, ap, subst, ◌∙◌, arith}
use Rattle.std.proofs.lemmas.List.{append_cancel_right}
use Rattle.grammars.specs.Grammar.{row, Cst, first, Reads}
use Rattle.grammars.proofs.Readings.{Carried, carry, Same, one_reading, along}
use Rattle.kc_text.specs.declared.errors.Fail.{Fail}
use Rattle.kc_text.specs.declared.errors.Fail.TheVariants.{Found, Memory}
use Rattle.kc_tree.specs.declared.decl.File.{File}
use Rattle.kt_decls.specs.Files.{begin, Whole, Unread, ReadsWhole}
use Rattle.kt_lexer.specs.declared.token.Token.{Token}
use Rattle.kt_grammar.specs.declared.cursor.Cursor.{Cursor}
use Rattle.kt_grammar.specs.DeclarationsBuilt as built
use Rattle.kt_grammar.specs.Parsed.{Read, Refused, Advanced, Halts, halt, halt_memory}
use Rattle.kt_grammar.specs.Rows as rows
use Rattle.kt_grammar.specs.Rows.{Row, grammar}

-- ---- lists

cut : (n m : ℕ) (ts : List Token) → n ≤ m → (front : List Token) × (drop n ts ≡ front ++ drop m ts)
cut zero zero ts h = ([], refl)
cut zero (suc m) [] h = ([], refl)
cut zero (suc m) (t ∷ ts) h = let k = cut zero m ts (omega arith) in (t ∷ k.0, ap (λ us. t ∷ us) k.1)
cut (suc n) zero ts h = absurd (omega (arith, h))
cut (suc n) (suc m) [] h = ([], refl)
cut (suc n) (suc m) (t ∷ ts) h = cut n m ts (omega (arith, h))

none_left : (us : List Token) → first us ≡ None → length us ≡ 0
none_left [] e = refl
none_left (u ∷ us) e = absurd (cc)

all_left : (ts : List Token) (n : ℕ) → length (drop n ts) ≡ 0 → length ts ≤ n → drop n ts ≡ []
all_left ts n e h = nothing_in (drop n ts) e
  where
    nothing_in : (us : List Token) → length us ≡ 0 → us ≡ []
    nothing_in [] e = refl
    nothing_in (u ∷ us) e = absurd (omega (arith, e))

-- ---- a refusal

refused : {ts : List Token} {place : ℕ} → Refused (row rows.file) ts 0 place → Unread ts place
refused r = record {
  before = r.stuck.before;
  split = r.stuck.split;
  within = r.within;
  begins = r.stuck.begins;
  no_more = λ s x w d. r.stuck.no_more s [] x w d;
}

pub from_halts : {ts : List Token} {e : Fail ℕ} → Halts (row rows.file) ts begin e → ReadsWhole ts (Err e)
from_halts {ts = ts} (halt {place = place} {n = n} r i) = let same : place ≡ n = omega (arith, i) in subst (λ m. Unread ts m) same (refused r)
from_halts halt_memory = tt

-- ---- a file that ends before the last token

-- no list goes on with more tokens than one that is read to its end
no_more_left : (ts back s : List Token) (end place : ℕ) → end < length ts → drop end ts ≡ back ++ drop place ts → first s ≡ first (drop place ts) → back ++ s ≡ [] → ⊥
no_more_left ts back [] end place h split w e =
    let none : length (drop place ts) ≡ 0 = none_left (drop place ts) (sym w) in
    omega (arith, h, none, ap length split, ap length e, length-append back [], length-append back (drop place ts), length-drop end ts)
no_more_left ts back (u ∷ s) end place h split w e = omega (arith, ap length e, length-append back (u ∷ s))

pub left_over : {ts : List Token} {end : Cursor} {f : File} {e : Fail ℕ} → Advanced (row rows.file) built.file_of ts begin end f → end.at < length ts
    → e ≡ (let x : Fail ℕ = Found (max end.looked end.at) in x) → ReadsWhole ts (Err e)
left_over {ts = ts} {end = end} p h i =
    let place : max end.at p.looked ≡ max end.looked end.at = omega (arith, p.so_far) in
    subst (λ x. ReadsWhole ts (Err x)) (sym i) (subst (λ m. Unread ts m) place whole)
  where
    far : ℕ
    far = max end.at p.looked

    behind : (front : List Token) × (drop end.at ts ≡ front ++ drop far ts)
    behind = cut end.at far ts (omega arith)

    none : (s : List Token) (x : Cst Token) → first s ≡ first (drop far ts) → Reads grammar (row rows.file) (p.read.begun.before ++ s) x [] → ⊥
    none s x w d =
        let u = carry grammar p.read.reads behind.0 (drop far ts) s behind.1 p.read.settled (sym w) in
        let same : u.before ≡ p.read.begun.before = append_cancel_right u.before p.read.begun.before (drop far ts) (sym u.split ∙ p.read.begun.split) in
        let again = one_reading grammar (along grammar (ap (λ m. m ++ s) same) u.reads) d in
        no_more_left ts behind.0 s end.at far h behind.1 w again.rest

    whole : Unread ts far
    whole = record {
      before = p.read.begun.before;
      split = p.read.begun.split;
      within = omega (arith, p.read.within, p.read.seen);
      begins = p.read.begun.begins;
      no_more = none;
    }

-- ---- a file that all tokens are

pub all_read : {ts : List Token} {end : Cursor} {f : File} → Advanced (row rows.file) built.file_of ts begin end f → length ts ≤ end.at → Whole ts f
all_read {ts = ts} {end = end} p h =
    let size : length (drop end.at ts) ≡ 0 = omega (arith, h, length-drop end.at ts) in
    record { tree = p.tree; reads = subst (λ us. Reads grammar (row rows.file) ts p.tree us) (all_left ts end.at size h) p.read.reads; builds = p.builds }
