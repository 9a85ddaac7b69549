-- How large types are.
use Rattle.std.proofs.Common.{ℕ, suc, ◌≤◌, ◌+◌, arith}
use Rattle.kc_types.specs.Types.{Ty, Class, Param, Nothing, Nullable, Arg, Exact, Out, In, Star, Args, none, more, Variance, Invariant, Covariant, Contravariant}
use Rattle.kc_types.specs.Subtype.{read}

abbrev mutual
  pub size : Ty → ℕ
  size (Class c xs) = suc (sizes xs)
  size (Param x) = 1
  size Nothing = 1
  size (Nullable t) = suc (size t)

  pub size_arg : Arg → ℕ
  size_arg (Exact t) = size t
  size_arg (Out t) = size t
  size_arg (In t) = size t
  size_arg Star = 0

  pub sizes : Args → ℕ
  sizes none = 0
  sizes (more a xs) = size_arg a + sizes xs

pub size_as_read : (v : Variance) (a : Arg) → size_arg (read v a) ≤ size_arg a
size_as_read Invariant a = omega arith
size_as_read Covariant (Exact t) = omega arith
size_as_read Covariant (Out t) = omega arith
size_as_read Covariant (In t) = omega arith
size_as_read Covariant Star = omega arith
size_as_read Contravariant (Exact t) = omega arith
size_as_read Contravariant (Out t) = omega arith
size_as_read Contravariant (In t) = omega arith
size_as_read Contravariant Star = omega arith
