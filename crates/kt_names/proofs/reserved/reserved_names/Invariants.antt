use Rattle.std.proofs.Common.{◌≡◌, take}
use Rattle.kt_grammar.specs.Reserved.{reserved}
use Rattle.kt_names.proofs.reserved.reserved_names.Given as goal

abbrev pub invariant-loop-number : goal.invariant-loop-number
invariant-loop-number l = l.names ≡ take l.number reserved
