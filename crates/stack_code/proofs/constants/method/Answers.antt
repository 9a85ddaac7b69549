use Rattle.stack_code.proofs.Emitting.{named_method}
use Rattle.stack_code.proofs.constants.method.Goals as goal

pub returns-clause-at : goal.returns-clause-at
returns-clause-at c =
    named_method c.class.new.pool c.name_and_type.new.pool c.add.new.pool c.in_ok-method.method c.in_ok-owner.owner c.in_ok-member.member c.args.owner.now c.args.name.now c.args.descriptor.now
    c.name_and_type.ensures.kept c.add.ensures.kept c.in_ok-owner.ensures.at c.in_ok-member.ensures.at c.in_ok-method.ensures.at
