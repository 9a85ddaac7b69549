-- What the parser of files answers.
use Rattle.std.specs.Prelude.{◌≡◌, ℕ, ◌≤◌, List, [], ◌++◌, length, drop, Result, Ok, Err, ⊤}
use Rattle.grammars.specs.Grammar.{row, Cst, first, Derives, Reads}
use Rattle.kc_text.specs.declared.errors.Fail.{Fail}
use Rattle.kc_text.specs.declared.errors.Fail.TheVariants as fails
use Rattle.kc_tree.specs.declared.decl.File.{File}
use Rattle.kt_decls.specs.declared.files.ParseFault.{ParseFault}
use Rattle.kt_decls.specs.declared.files.ParseFault.TheVariants as faults
use Rattle.kt_decls.specs.Levels.{NoneDeep, FirstDeep}
use Rattle.kt_lexer.specs.declared.token.Token.{Token}
use Rattle.kt_grammar.specs.declared.cursor.Cursor.{Cursor}
use Rattle.kt_grammar.specs.DeclarationsBuilt as built
use Rattle.kt_grammar.specs.Rows as rows
use Rattle.kt_grammar.specs.Rows.{grammar}

abbrev pub begin : Cursor
begin = record { at = 0; looked = 0 }

-- the whole list has this reading
pub record Whole (ts : List Token) (f : File) : Type 0 where
  pub tree : Cst Token
  pub reads : Reads grammar (row rows.file) ts tree []
  pub builds : f ≡ built.file_of tree

-- The tokens before the place begin a file. With the next token, or the end, no list of tokens is read as one.
pub record Unread (ts : List Token) (place : ℕ) : Type 0 where
  pub before : List Token
  pub split : ts ≡ before ++ drop place ts
  pub within : place ≤ length ts
  pub begins : (c : List Token) × (x : Cst Token) × Derives grammar (row rows.file) (before ++ c) x []
  pub no_more : (s : List Token) (x : Cst Token) → first s ≡ first (drop place ts) → Reads grammar (row rows.file) (before ++ s) x [] → ⊥

abbrev pub ReadsWhole : List Token → Result File (Fail ℕ) → Type 0
ReadsWhole ts (Ok f) = Whole ts f
ReadsWhole ts (Err (fails.Found place)) = Unread ts place
ReadsWhole ts (Err fails.Memory) = ⊤

-- The first token that is nested too deep comes first.
abbrev pub Faulty : List Token → ParseFault → Type 0
Faulty ts (faults.NestingTooDeep found) = FirstDeep ts 256 found
Faulty ts (faults.Syntax place) = NoneDeep ts 256 (length ts) × Unread ts place

abbrev pub ParsesFile : List Token → Result File (Fail ParseFault) → Type 0
ParsesFile ts (Ok f) = NoneDeep ts 256 (length ts) × Whole ts f
ParsesFile ts (Err (fails.Found e)) = Faulty ts e
ParsesFile ts (Err fails.Memory) = ⊤
