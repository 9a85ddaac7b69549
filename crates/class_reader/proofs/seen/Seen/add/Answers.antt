use Rattle.std.proofs.Common.{ℕ, List, sym, ap, ◌∙◌}
use Rattle.std.specs.Prelude.{not}
use Rattle.std.specs.List.{list_any}
use Rattle.class_file.specs.ClassBytes.{Key}
use Rattle.class_file.specs.FormatFaults.{is_key}
use Rattle.class_reader.specs.Members.{key}
use Rattle.class_reader.proofs.Keys.{any_seen}
use Rattle.class_reader.proofs.seen.Seen.add.Goals as goal

pub returns-clause-new : goal.returns-clause-new
returns-clause-new c =
    c.in_ok-new.ensures.added
    ∙ ap not (sym (any_seen (key c.in_ok-name.name c.in_ok-descriptor.descriptor) c.self.inside.members.keys))
    ∙ ap (λ (ks : List Key). not (list_any (is_key (key c.in_ok-name.name c.in_ok-descriptor.descriptor)) ks)) c.self.view_is
    ∙ ap (λ (n : List ℕ). not (list_any (is_key (key n c.in_ok-descriptor.descriptor)) c.args.self.now)) c.in_ok-name.ensures
    ∙ ap (λ (d : List ℕ). not (list_any (is_key (key c.args.name.now d)) c.args.self.now)) c.in_ok-descriptor.ensures
