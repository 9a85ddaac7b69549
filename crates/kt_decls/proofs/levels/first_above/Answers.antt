use Rattle.std.proofs.Common.{ℕ, ◌+◌, ◌≤◌, List, inl, inr, sym, subst, arith}
use Rattle.std.proofs.lemmas.Bool.Decides.{eqb_tells}
use Rattle.kt_lexer.specs.declared.token.Token.{Token}
use Rattle.kt_decls.specs.Levels.{NoneDeep, level_at}
use Rattle.kt_decls.specs.Nesting.{state_of}
use Rattle.std.specs.Prelude.{take, reverse}
use Rattle.kt_decls.proofs.Scanning.{gone_on, within_level}
use Rattle.kt_decls.proofs.levels.first_above.Goals as goal

one_more : (ts : List Token) (most at : ℕ) → NoneDeep ts most at → level_at ts at ≤ most → NoneDeep ts most (at + 1)
one_more ts most at none here j lt =
    elim (eqb_tells j at) [ inl h ↦ subst (λ (i : ℕ). level_at ts i ≤ most) (sym h.1) here | inr h ↦ none j (omega (arith, lt, h.1)) ]

pub pass-requires-clause-fits : goal.pass-requires-clause-fits
pass-requires-clause-fits c = within_level (reverse (take c.loop-at.at c.args.tokens.now)) (state_of c.loop-at.nesting) c.loop-at.invariant.stands

pub returns-then-level-most : goal.returns-then-level-most
returns-then-level-most c =
    let s = gone_on c.args.tokens.now c.loop-at.at c.index-tokens-at.result (state_of c.loop-at.nesting) (state_of c.pass.new.self) c.loop-at-test.true c.index-tokens-at.is c.loop-at.invariant.stands c.in_ok-pass.ensures in
    record { within = c.loop-at-test.true; none = c.loop-at.invariant.none; exact = s.level; deep = c.if-level-most.true }

pub loop-at-preserved : goal.loop-at-preserved
loop-at-preserved c =
    let s = gone_on c.args.tokens.now c.loop-at.at c.index-tokens-at.result (state_of c.loop-at.nesting) (state_of c.pass.new.self) c.loop-at-test.true c.index-tokens-at.is c.loop-at.invariant.stands c.in_ok-pass.ensures in
    record { stands = s; small = omega (arith, c.if-level-most.false); none = one_more c.args.tokens.now c.args.most c.loop-at.at c.loop-at.invariant.none (omega (arith, s.level, c.if-level-most.false)) }
