use Rattle.std.proofs.Common.{sym, ◌∙◌, ◌+◌, arith}
use Rattle.kt_suffixes.proofs.Runs.{first_stands, gives_as, ahead_as, stands_closed}
use Rattle.kt_suffixes.specs.declared.moves.Move.TheVariants as move
use Rattle.kt_suffixes.proofs.endings.ending.Goals as goal

pub loop-at-init : goal.loop-at-init
loop-at-init c = first_stands c.args.tokens.now c.args.start (c.args.start + 1) c.in_ok-place.place (omega arith) c.in_ok-place.ensures

pub returns-in-Stop : goal.returns-in-Stop
returns-in-Stop c = gives_as c.args.tokens.now c.args.endings.now c.args.start c.loop-at.at c.loop-at.place (move.Stop c.in-Stop.look) c.in_ok-look.ensures c.in-Stop.is c.requires.known c.loop-at.invariant

pub returns-then-is_closed : goal.returns-then-is_closed
returns-then-is_closed c =
    stands_closed (gives_as c.args.tokens.now c.args.endings.now c.args.start c.loop-at.at c.loop-at.place (move.To c.in-To.next c.in-To.behind) c.in_ok-look.ensures c.in-To.is c.requires.known c.loop-at.invariant)
    (sym c.is_closed.ensures ∙ c.if-is_closed.true)

pub loop-at-smaller : goal.loop-at-smaller
loop-at-smaller c =
    let l = ahead_as c.args.tokens.now c.args.endings.now c.loop-at.at c.loop-at.place (move.To c.in-To.next c.in-To.behind) c.in_ok-look.ensures c.in-To.is in
    omega (arith, l, c.loop-at-test.true)

pub loop-at-preserved : goal.loop-at-preserved
loop-at-preserved c = (
  gives_as c.args.tokens.now c.args.endings.now c.args.start c.loop-at.at c.loop-at.place (move.To c.in-To.next c.in-To.behind) c.in_ok-look.ensures c.in-To.is c.requires.known c.loop-at.invariant,
  sym c.is_closed.ensures ∙ c.if-is_closed.false,
)
