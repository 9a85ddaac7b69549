use Rattle.std.proofs.Common.{◌≡◌, ◌<◌, ◌-◌, ℕ, suc, List, reverse, map, drop, length, sym, ap, ◌∙◌, arith}
use Rattle.class_file.specs.declared.class.VType.{VType}
use Rattle.class_file.specs.Typing.{widths}
use Rattle.verifier_types.specs.declared.types.VerificationType.TheVariants.{Top}
use Rattle.verifier_types.specs.Seen.{type_of}
use Rattle.verifier_types.proofs.Lists.{below_top}
use Rattle.verifier_types.proofs.stack.+width_below.Goals as goal

pub returns-in-len1-up : goal.returns-in-len1-up
returns-in-len1-up t c =
    let types = c.args.types.now in
    let some : 0 < length types = omega arith in
    let back : c.args.count ≡ suc (c.args.count - 1) = omega arith in
    c.width_below.ensures
    ∙ sym (ap (λ (n : ℕ). widths (drop n (map type_of (reverse types)))) back ∙ ap (λ (s : List VType). widths (drop (suc (c.args.count - 1)) s)) (below_top types Top some))
