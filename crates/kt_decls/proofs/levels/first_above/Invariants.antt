use Rattle.std.proofs.Common.{ℕ, ◌≤◌, List, take, reverse}
use Rattle.kt_lexer.specs.declared.token.Token.{Token}
use Rattle.kt_decls.specs.Levels.{NoneDeep}
use Rattle.kt_decls.specs.Nesting.{State, state_of, Stands}
use Rattle.kt_decls.proofs.levels.first_above.Given as goal

-- what the tokens so far have made of the places, and none of them is too deep
pub record SoFar (ts : List Token) (most at : ℕ) (s : State) : Type 0 where
  pub stands : Stands (reverse (take at ts)) s
  pub small : s.level ≤ most
  pub none : NoneDeep ts most at

abbrev pub invariant-loop-at : goal.invariant-loop-at
invariant-loop-at l = SoFar l.tokens l.most l.at (state_of l.nesting)
