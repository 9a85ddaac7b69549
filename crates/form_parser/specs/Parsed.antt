-- What the parser's functions answer.
use Rattle.std.specs.Prelude.{◌≡◌, Bool, false, List, [], ◌∷◌, ◌++◌, Option, Some, None, Result, Ok, Err}
use denote.Ref.{Bor}
use Rattle.kc_text.specs.declared.errors.Fail.{Fail}
use Rattle.kc_text.specs.declared.errors.Fail.TheVariants.{Found, Memory}
use Rattle.form_parser.specs.declared.tokens.NotBuilt.{NotBuilt}
use Rattle.form_parser.specs.declared.tokens.TokenKind.{TokenKind}
use Rattle.form_parser.specs.declared.tokens.TokenKind.TheVariants as kind
use Rattle.form_parser.specs.declared.tokens.Token.{Token}
use Rattle.form_parser.specs.declared.tokens.Place.{Place}
use Rattle.form_parser.specs.declared.operators.Level.{Level}
use Rattle.form_parser.specs.declared.operators.Operator.{Operator}
use Rattle.form_parser.specs.declared.operators.Prefix.{Prefix}
use Rattle.form_parser.specs.declared.operators.Prefix.TheVariants as sign
use Rattle.form_parser.specs.declared.parser.Standing.{Standing}
use Rattle.form_parser.specs.declared.parser.Standing.TheVariants as standing
use Rattle.form_parser.specs.declared.surface.Expression.{Expression}
use Rattle.form_parser.specs.declared.surface.Body.{Body}
use Rattle.form_parser.specs.declared.surface.Statement.{Statement}
use Rattle.form_parser.specs.declared.surface.Source.{Source}
use Rattle.form_parser.specs.Grammar.{joined, operator_at, first_operator, prefix_of, least, ReadsStatement, ReadsStatements, Derives}

-- what was found refutes P
pub data Fails (P : Type 0) : Fail NotBuilt → Type 0 where
  refuted : {cause : NotBuilt} → (P → ⊥) → Fails P (Found cause)
  no_memory : Fails P Memory

-- something is read from these tokens, and others are left
pub record Can {V : Type 0} (P : List Token → V → List Token → Type 0) (ts : List Token) : Type 0 where
  pub value : V
  pub rest : List Token
  pub reads : P ts value rest

-- what is read, with the tokens that are left; or nothing can be read
abbrev pub Answers : {V : Type 0} → (List Token → V → List Token → Type 0) → List Token → Result (V × Bor (List Token)) (Fail NotBuilt) → Type 0
Answers P ts (Ok p) = P ts p.0 p.1.now
Answers P ts (Err cause) = Fails (Can P ts) cause

abbrev pub Tries : {V : Type 0} → (List Token → V → List Token → Type 0) → List Token → Option (V × Bor (List Token)) → Type 0
Tries P ts (Some p) = P ts p.0 p.1.now
Tries P ts None = Can P ts → ⊥

-- a token of the kind stands first
pub record Stands (k : TokenKind) (ts : List Token) (t : Token) (us : List Token) : Type 0 where
  pub here : ts ≡ t ∷ us
  pub kind_is : t.kind ≡ k

-- the same, on the line of the token before
pub record StandsUnmarked (k : TokenKind) (ts : List Token) (t : Token) (us : List Token) : Type 0 where
  pub here : ts ≡ t ∷ us
  pub kind_is : t.kind ≡ k
  pub unmarked : t.marked ≡ false

pub record IsOperator (l : Level) (inside : Bool) (ts : List Token) (o : Operator) (us : List Token) : Type 0 where
  pub token : Token
  pub here : ts ≡ token ∷ us
  pub operator_is : operator_at l inside token ≡ Some o

abbrev pub TakesOperator : Level → Bool → List Token → Option (Operator × Bor (List Token)) → Type 0
TakesOperator l inside ts (Some p) = IsOperator l inside ts p.0 p.1.now
TakesOperator l inside ts None = first_operator l inside ts ≡ None

-- a prefix operator stands first, as this token
pub record IsPrefix (ts : List Token) (p : Token × Prefix) (us : List Token) : Type 0 where
  pub here : ts ≡ p.0 ∷ us
  pub prefix_is : prefix_of p.0.kind ≡ Some p.1

-- the widest number stands first, behind this minus
pub record IsLeast (sign_token : Token) (o : Prefix) (ts : List Token) (a : Expression) (us : List Token) : Type 0 where
  pub token : Token
  pub here : ts ≡ token ∷ us
  pub wide : token.kind ≡ kind.Number 2147483648
  pub minus : o ≡ sign.Minus
  pub value : a ≡ least sign_token token

-- the tokens that are left are those of an option
abbrev pub Lefts : Option (List Token) → Option (Bor (List Token)) → Type 0
Lefts o (Some r) = o ≡ Some r.now
Lefts o None = o ≡ None

-- statements of a block that are put behind those before them
pub record Collects (begin : Place) (st : Standing) (before : List Statement) (ts : List Token) (body : Body) (us : List Token) : Type 0 where
  pub values : List Statement
  pub close : Place
  pub reads : ReadsStatements st ts values close us
  pub place_is : body.place ≡ joined begin close
  pub whole : body.statements ≡ before ++ values

-- one statement, and those behind it
pub record CollectsAnother (begin : Place) (before : List Statement) (ts : List Token) (body : Body) (us : List Token) : Type 0 where
  pub statement : Statement
  pub behind : List Token
  pub first : ReadsStatement ts statement behind
  pub others : Collects begin standing.Behind (before ++ statement ∷ []) behind body us

pub record CanDerive (ts : List Token) : Type 0 where
  pub value : Source
  pub derives : Derives ts value

abbrev pub ParsesSource : List Token → Result Source (Fail NotBuilt) → Type 0
ParsesSource ts (Ok source) = Derives ts source
ParsesSource ts (Err cause) = Fails (CanDerive ts) cause
