use Rattle.std.proofs.Common.{◌≡◌, ◌<◌, ℕ, List, ap, ◌∙◌, arith, get_or, length-append}
use Rattle.std.specs.Prelude.{length}
use Rattle.class_file.specs.declared.class.ClassFile.{ClassFile}
use Rattle.class_machine.specs.Links.{parts, parts_of}
use Rattle.class_machine.proofs.Linked.{one_class}
use Rattle.class_machine.proofs.linking.link_classes.Goals as goal

pub loop-class-preserved : goal.loop-class-preserved
loop-class-preserved c =
    let k = c.loop-class.class-index in
    let classes = c.args.set.now.classes in
    let item = c.class-item.result in
    let same = c.classes_of-classes.ensures in
    let place : c.len-place.result ≡ k = omega (arith, c.len-place.ensures, c.loop-class.invariant.count) in
    let item_is : item ≡ get_or classes k item = c.class-item.is ∙ ap (λ (cs : List ClassFile). get_or cs k item) same in
    let within : k < length classes = let n = ap length same in omega (arith, n, c.loop-class-test.true) in
    let is : parts c.in_ok-link_class.field-0 ≡ parts_of classes k (get_or classes k item) = c.in_ok-link_class.ensures ∙ ap (λ (j : ℕ). parts_of classes j item) place ∙ ap (parts_of classes k) item_is in
    record {
      done = one_class classes c.loop-class.linked.items c.push.new.self.items c.in_ok-link_class.field-0 k item within c.in_ok-push.ensures.items is c.loop-class.invariant.done;
      count = ap length c.in_ok-push.ensures.items ∙ length-append c.loop-class.linked.items _ ∙ omega (arith, c.loop-class.invariant.count);
    }
