-- What a function of the parser answers.
use Rattle.std.specs.Prelude.{◌≡◌, ℕ, suc, ◌≤◌, max, Bool, true, false, List, ◌∷◌, length, drop, Result, Ok, Err, Option, Some, None}
use Rattle.grammars.specs.Grammar.{Part, one, Cst, Reads, Settled, Begun, Stuck, first, test}
use Rattle.kc_text.specs.declared.errors.Fail.{Fail}
use Rattle.kc_text.specs.declared.errors.Fail.TheVariants.{Found, Memory}
use Rattle.kc_tree.specs.declared.types.Word.{Word}
use Rattle.kt_lexer.specs.declared.token.Token.{Token}
use Rattle.kt_lexer.specs.declared.token.Operator.{Operator}
use Rattle.kt_grammar.specs.declared.cursor.Cursor.{Cursor}
use Rattle.kt_grammar.specs.Lookahead.{out_type}
use Rattle.kt_grammar.specs.Rows.{Row, grammar}
use Rattle.kt_grammar.specs.Tokens.{is_op, is_name, is_out}
use Rattle.kt_grammar.specs.TypesBuilt.{word_of}

-- The part has this reading from one place to another. No test has looked at a token behind the place `looked`, or behind the next token
-- where that is farther; and the tokens before that place begin a list with a derivation.
pub record Read (a : Part Row Token) (ts : List Token) (start end looked : ℕ) (x : Cst Token) : Type 0 where
  pub reads : Reads grammar a (drop start ts) x (drop end ts)
  pub settled : Settled (length (drop (max end looked) ts)) reads
  pub begun : Begun grammar a (drop start ts) (drop (max end looked) ts)
  pub ahead : start ≤ end
  pub within : end ≤ length ts
  pub seen : looked ≤ length ts

-- what is read with no test that looked behind the next token, and the value that is built of it
pub record Parsed {X : Type 0} (a : Part Row Token) (build : Cst Token → X) (ts : List Token) (start end : ℕ) (x : X) : Type 0 where
  pub tree : Cst Token
  pub read : Read a ts start end 0 tree
  pub builds : x ≡ build tree

-- no reading goes on with the token at the place
pub record Refused (a : Part Row Token) (ts : List Token) (start place : ℕ) : Type 0 where
  pub stuck : Stuck grammar a (drop start ts) (drop place ts)
  pub within : place ≤ length ts

pub data Fails (a : Part Row Token) (ts : List Token) (start : ℕ) : Fail ℕ → Type 0 where
  found : {place : ℕ} → Refused a ts start place → Fails a ts start (Found place)
  no_memory : Fails a ts start Memory

abbrev pub Parses : {X : Type 0} → Part Row Token → (Cst Token → X) → List Token → ℕ → Result (X × ℕ) (Fail ℕ) → Type 0
Parses a build ts start (Ok p) = Parsed a build ts start p.1 p.0
Parses a build ts start (Err e) = Fails a ts start e

-- ---- with tests that look farther

-- what is read from one place to another, with how far tests have looked
pub record Advanced {X : Type 0} (a : Part Row Token) (build : Cst Token → X) (ts : List Token) (start end : Cursor) (x : X) : Type 0 where
  pub tree : Cst Token
  pub looked : ℕ
  pub read : Read a ts start.at end.at looked tree
  pub builds : x ≡ build tree
  pub so_far : end.looked ≡ max start.looked looked

-- the place of a refusal is never before one that a test has looked at
pub data Halts (a : Part Row Token) (ts : List Token) (start : Cursor) : Fail ℕ → Type 0 where
  halt : {place n : ℕ} → Refused a ts start.at place → n ≡ max start.looked place → Halts a ts start (Found n)
  halt_memory : Halts a ts start Memory

abbrev pub Advances : {X : Type 0} → Part Row Token → (Cst Token → X) → List Token → Cursor → Result (X × Cursor) (Fail ℕ) → Type 0
Advances a build ts start (Ok p) = Advanced a build ts start p.1 p.0
Advances a build ts start (Err e) = Halts a ts start e

-- ---- loops

-- what comes of the rest of a loop from one place is what comes of the whole
pub record Resumes {X : Type 0} (a : Part Row Token) (all_of : X → Cst Token → X) (ts : List Token) (start : ℕ) (x : X) (at : ℕ) (y : X) : Type 0 where
  pub ahead : start ≤ at
  pub within : at ≤ length ts
  pub whole : (r : Result (X × ℕ) (Fail ℕ)) → Parses a (all_of y) ts at r → Parses a (all_of x) ts start r

-- the same with how far tests have looked
pub record ResumesOn {X : Type 0} (a : Part Row Token) (all_of : X → Cst Token → X) (ts : List Token) (start : Cursor) (x : X) (at : Cursor) (y : X) : Type 0 where
  pub ahead : start.at ≤ at.at
  pub within : at.at ≤ length ts
  pub whole : (r : Result (X × Cursor) (Fail ℕ)) → Advances a (all_of y) ts at r → Advances a (all_of x) ts start r

-- ---- single tokens

-- a token that the test holds of stands at the place
pub record Taken (f : Token → Bool) (ts : List Token) (start end : ℕ) : Type 0 where
  pub token : Token
  pub is_so : f token ≡ true
  pub here : drop start ts ≡ token ∷ drop end ts
  pub next : end ≡ suc start
  pub within : end ≤ length ts

abbrev pub Eats : (Token → Bool) → List Token → ℕ → Option ℕ → Type 0
Eats f ts start (Some end) = Taken f ts start end
Eats f ts start None = test f (first (drop start ts)) ≡ false

abbrev pub Expects : Operator → List Token → ℕ → Result ℕ (Fail ℕ) → Type 0
Expects k ts start (Ok end) = Taken (is_op k) ts start end
Expects k ts start (Err e) = Fails (one (is_op k)) ts start e

-- the name that a token is
abbrev pub WordAt : Option Token → Option Word → Type 0
WordAt o None = test is_name o ≡ false
WordAt None (Some w) = ⊥
WordAt (Some t) (Some w) = (is_name t ≡ true) × (w ≡ word_of t)

pub record NameTaken (ts : List Token) (start end : ℕ) (w : Word) : Type 0 where
  pub taken : Taken is_name ts start end
  pub word : w ≡ word_of taken.token

abbrev pub ExpectsName : List Token → ℕ → Result (Word × ℕ) (Fail ℕ) → Type 0
ExpectsName ts start (Ok p) = NameTaken ts start p.1 p.0
ExpectsName ts start (Err e) = Fails (one is_name) ts start e

-- `out` before a type
pub record OutTaken (ts : List Token) (start end : ℕ) : Type 0 where
  pub taken : Taken is_out ts start end
  pub holds : out_type.holds (drop start ts) ≡ true

abbrev pub EatsOut : List Token → ℕ → Option ℕ → Type 0
EatsOut ts start (Some end) = OutTaken ts start end
EatsOut ts start None = out_type.holds (drop start ts) ≡ false
