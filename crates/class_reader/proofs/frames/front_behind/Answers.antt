use Rattle.std.proofs.Common.{◌≡◌, List, length, ap, ◌∙◌}
use Rattle.class_file.specs.declared.class.VType.{VType}
use Rattle.class_file.specs.Fronts.{common_front}
use Rattle.class_reader.proofs.Fronts.{some_is_last}
use Rattle.class_reader.proofs.frames.front_behind.Goals as goal

pub returns-else-len-eq0 : goal.returns-else-len-eq0
returns-else-len-eq0 c =
    let fs = c.args.frames.now in
    let g = c.args.given.now in
    λ start e. e ∙ ap (λ (ts : List VType). common_front ts g.frame.locals) (some_is_last start fs (λ (none : length fs ≡ 0). c.if-len-eq0.false (c.len.ensures ∙ none)))
