use Rattle.std.proofs.Common.{sym, ◌∙◌}
use Rattle.kt_functions.specs.Sites.{site_of}
use Rattle.kt_members.proofs.MemberRows.{member_init, member_modified}
use Rattle.kt_members.proofs.class_members.member.Goals as goal

pub returns-then-is_init_at : goal.returns-then-is_init_at
returns-then-is_init_at c = member_init (site_of c.args.site) c.args.tokens.now c.args.at c.requires.within (sym c.is_init_at.ensures ∙ c.if-is_init_at.true) c.init_block.result c.init_block.ensures

pub returns : goal.returns
returns c = member_modified (site_of c.args.site) c.args.tokens.now c.args.at c.requires.within (sym c.is_init_at.ensures ∙ c.if-is_init_at.false) c.modified_member.result c.modified_member.ensures
