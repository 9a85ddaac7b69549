use Rattle.std.proofs.Common.{sym, ◌∙◌, subst}
use Rattle.class_file.specs.Pools.{Slots}
use Rattle.stack_code.specs.Agrees.{IsCodeOf, IsOwnName}
use Rattle.kc_cli.proofs.Compiled.{compiles}
use Rattle.kc_cli.proofs.compile.compile.Goals as goal

pub returns-clause-compiled : goal.returns-clause-compiled
returns-clause-compiled c =
    let class = c.in_ok-class.class in
    compiles c.args.program.now c.as_slice-functions.result.now c.index-functions-0.result c.requires.main.main class c.in-Ok.method c.in_ok-main.main c.in_ok-classes.classes
    c.in_ok-classes.ensures c.as_slice-functions.ensures c.index-functions-0.is c.requires.main.is c.requires.main.named
    (subst IsOwnName (sym c.in_ok-main.ensures) c.requires.own)
    (record { name_is = c.in_ok-class.ensures.name ∙ sym c.in_ok-main.ensures; super_is = c.in_ok-class.ensures.above; methods_are = c.in_ok-class.ensures.methods })
    (record { name_is = c.in-Ok.ensures.name; descriptor_is = c.in-Ok.ensures.descriptor; flags_are = c.in-Ok.ensures.flags })
    (subst (λ (p : Slots). IsCodeOf p c.in-Ok.method c.index-functions-0.result) (sym c.in_ok-class.ensures.pool) c.in-Ok.ensures.code)
    (record { frames = c.in-Ok.ensures.frames; deep = c.in-Ok.ensures.deep })
