-- How many bytes a body's code takes.
use Rattle.std.proofs.Common.{◌≡◌, ℕ, ◌+◌, ◌≤◌, List, [], ◌∷◌, ◌++◌, length, ap, arith}
use Rattle.kc_core.specs.declared.tree.Core.{Core}
use Rattle.class_file.specs.declared.instr.Instr.{Instr}
use Rattle.class_file.specs.Pools.{Slots}
use Rattle.stack_code.specs.Code.{Operation, Leave, bytes_of, bytes, kept, kept_bytes, discards, Spells, code_of, body_code}
use Rattle.stack_code.proofs.Runs.{kept_size}
use Rattle.stack_code.proofs.Lists.{bytes_append}
use Rattle.stack_code.proofs.Nodes.{sized}
use Rattle.stack_code.proofs.Verified.{positive}

pub body_bytes : (body : Core) → bytes (body_code body) ≡ (code_of body).size + kept_bytes (code_of body).goes_on (bytes (discards body.ty) + 1)
body_bytes body =
    let x = code_of body in
    let r = bytes_append x.code (kept x.goes_on (discards body.ty ++ Leave ∷ [])) in
    let k = kept_size x.goes_on (discards body.ty ++ Leave ∷ []) in
    let l = ap (kept_bytes x.goes_on) (bytes_append (discards body.ty) (Leave ∷ [])) in
    omega (arith, r, k, l, (sized body).whole)

-- code has no more instructions than bytes
pub no_longer : (pool : Slots) (at : ℕ) (is : List Instr) (ops : List Operation) → Spells pool at is ops → length is ≤ bytes ops
no_longer pool at [] ops h = omega arith
no_longer pool at (i ∷ is) [] h = absurd h
no_longer pool at (i ∷ is) (o ∷ ops) h = let r = no_longer pool (at + bytes_of o) is ops h.2 in let p = positive o in omega (arith, r, p)
