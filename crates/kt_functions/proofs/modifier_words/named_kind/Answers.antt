use Rattle.std.proofs.Common.{Some, None, arith, nat_lt, ◌≡◌, false}
use Rattle.kt_functions.proofs.KindRows.{kind_is}
use Rattle.kt_functions.proofs.modifier_words.named_kind.Goals as goal

pub returns-in-Some : goal.returns-in-Some
returns-in-Some c = let h : nat_lt c.args.name 8 ≡ false = grind (arith, c.if-name-lt8.false) in kind_is c.args.name (Some c.in-Some.kind) h c.in-Some.ensures.lookup

pub returns-in-None : goal.returns-in-None
returns-in-None c = let h : nat_lt c.args.name 8 ≡ false = grind (arith, c.if-name-lt8.false) in kind_is c.args.name None h c.in-None.ensures.lookup
