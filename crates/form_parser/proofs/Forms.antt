-- A file is of the form in one way at most, and how its reading follows from those of the layers.
use Rattle.std.proofs.Common.{◌≡◌, ℕ, ◌≤◌, false, List, [], length, Result, Ok, Err, sym, subst}
use Rattle.kc_text.specs.declared.errors.Fail.{Fail}
use Rattle.kc_text.specs.Fail.{IfCause}
use Rattle.form_parser.specs.declared.tokens.NotBuilt.{NotBuilt}
use Rattle.form_parser.specs.declared.tokens.Token.{Token}
use Rattle.form_parser.specs.declared.surface.Source.{Source}
use Rattle.form_parser.specs.Cut.{Cut}
use Rattle.form_parser.specs.Grammar.{Derives}
use Rattle.form_parser.specs.Form.{Form, ReadsForm, SourceIsDetermined}
use Rattle.form_parser.specs.Pieces.{Scanned}
use Rattle.form_parser.specs.Parsed.{Fails, refuted, no_memory, CanDerive, ParsesSource}
use Rattle.form_parser.proofs.Cuts.{one_cut}
use Rattle.form_parser.proofs.Trees.{one_source}

-- the form's derivation is one of these tokens
derived : {bytes : List ℕ} {source : Source} {ts : List Token} → Cut 0 false bytes ts → Form bytes source → Derives ts source
derived {source = source} c f = subst (λ l. Derives l source) (one_cut f.cut c) f.derives

pub one_tree : SourceIsDetermined
one_tree bytes s z f g = one_source f.derives (derived f.cut g)

cut_of : {bytes : List ℕ} {ts : List Token} → Scanned 0 false bytes [] ts → Cut 0 false bytes ts
cut_of {bytes = bytes} s = subst (λ l. Cut 0 false bytes l) (sym s.whole) s.cut

no_derivation : {bytes : List ℕ} {ts : List Token} {cause : Fail NotBuilt} → Cut 0 false bytes ts → Fails (CanDerive ts) cause → IfCause cause (λ _. (source : Source) → ¬ Form bytes source)
no_derivation c (refuted never) = λ source f. never (record { value = source; derives = derived c f })
no_derivation c no_memory = tt

answers : {bytes : List ℕ} {ts : List Token} → length bytes ≤ 256 → Cut 0 false bytes ts → (r : Result Source (Fail NotBuilt)) → ParsesSource ts r → ReadsForm bytes r
answers {ts = ts} short c (Ok source) d = record { tokens = ts; short = short; cut = c; derives = d }
answers short c (Err cause) d = no_derivation c d

pub form_reads : {bytes : List ℕ} {ts us : List Token} → length bytes ≤ 256 → Scanned 0 false bytes [] ts → us ≡ ts → (r : Result Source (Fail NotBuilt)) → ParsesSource us r → ReadsForm bytes r
form_reads short s e r d = answers short (cut_of s) r (subst (λ l. ParsesSource l r) e d)
