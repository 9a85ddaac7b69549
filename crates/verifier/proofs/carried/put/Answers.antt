use Rattle.std.proofs.Common.{◌+◌, List, sym, subst, arith}
use Rattle.class_file.specs.declared.class.VType.{VType}
use Rattle.verifier_types.specs.Seen.{type_of}
use Rattle.verifier.specs.Carrying.{Laying}
use Rattle.verifier.proofs.Carries.{laid_within}
use Rattle.verifier.proofs.carried.put.Goals as goal

pub returns-then-at-len : goal.returns-then-at-len
returns-then-at-len c max rest whole l =
    subst (λ (ls : List VType). Laying max (c.args.at + 1) ls rest whole) (sym c.set.ensures)
    (laid_within max c.args.at c.args.locals.now (type_of c.args.t) rest whole (omega (arith, c.if-at-len.true, c.len.ensures)) l)
