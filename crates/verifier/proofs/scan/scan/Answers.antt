use Rattle.std.proofs.Common.{ℕ, List, ◌+◌, drop, get_or, sym, ap, ◌∙◌, arith}
use Rattle.class_file.specs.declared.instr.Instr.{Instr}
use Rattle.class_file.specs.declared.instr.Instr.TheVariants.{Nop}
use Rattle.class_file.specs.Verification.{scan}
use Rattle.verifier.specs.Carrying.{flow_of}
use Rattle.verifier.proofs.Loop.{fails, flows, cut, over}
use Rattle.verifier.proofs.Sweeps.{swept_on}
use Rattle.verifier.proofs.scan.scan.Goals as goal

pub returns-in-Some : goal.returns-in-Some
returns-in-Some c =
    let set = c.args.set.now in
    let class = c.args.class.now in
    let m = c.args.method.now in
    let code = c.args.code.now in
    let k = c.loop-instr.instr-index in
    let pc = c.loop-instr.pc in
    let flow = flow_of c.loop-instr.carried in
    let known = flow_of c.in_ok-carried.carried in
    let left = flow_of c.one_instruction.new.carried in
    sym (fails set class m pc (get_or code k Nop) (drop (k + 1) code) flow known left c.in-Some.code c.in_ok-carried.ensures.flow (rw c.in-Some.is at c.in_ok-code.ensures.turn))
    ∙ ap (λ (is : List Instr). scan set class m is pc flow) (sym (cut code k c.loop-instr-test.true)) ∙ c.loop-instr.invariant.same

pub loop-instr-preserved : goal.loop-instr-preserved
loop-instr-preserved c =
    let set = c.args.set.now in
    let class = c.args.class.now in
    let m = c.args.method.now in
    let code = c.args.code.now in
    let k = c.loop-instr.instr-index in
    let pc = c.loop-instr.pc in
    let flow = flow_of c.loop-instr.carried in
    let known = flow_of c.in_ok-carried.carried in
    let left = flow_of c.one_instruction.new.carried in
    let step = flows set class m pc (get_or code k Nop) (drop (k + 1) code) flow known left c.in_ok-carried.ensures.flow (rw c.in_default.is at c.in_ok-code.ensures.turn) in
    record {
      short = omega (arith, c.length_of-pc.ensures.small, c.loop-instr.invariant.short);
      swept = swept_on m.handlers pc (pc + c.length_of-pc.result) c.advance.new.self (omega arith) (c.in_ok-advance.ensures m.handlers pc (omega arith) c.loop-instr.invariant.swept).swept;
      tracked = c.in_ok-code.ensures.tracked c.in_default.is c.in_ok-carried.ensures.tracked;
      same = ap (λ (n : ℕ). scan set class m (drop (k + 1) code) (pc + n) left) c.length_of-pc.ensures.exact ∙ sym step
          ∙ ap (λ (is : List Instr). scan set class m is pc flow) (sym (cut code k c.loop-instr-test.true)) ∙ c.loop-instr.invariant.same;
    }

pub returns : goal.returns
returns c = sym (over c.args.set.now c.args.class.now c.args.method.now c.args.code.now c.loop-instr.instr-index c.loop-instr.pc (flow_of c.loop-instr.carried) c.loop-instr-test.false) ∙ c.loop-instr.invariant.same
