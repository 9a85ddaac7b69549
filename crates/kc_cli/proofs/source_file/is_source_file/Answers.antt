use Rattle.std.proofs.Common.{◌≡◌, ◌≢◌, ◌++◌, ℕ, List, codes, Some, None, sym, ◌∙◌}
use Rattle.std.proofs.lemmas.Bool.Decides.{Decides-eqb}
use Rattle.std.proofs.lemmas.Slice.Eq.{strip_suffix_is}
use Rattle.std.proofs.Common.{append_assoc}
use Rattle.kc_cli.specs.SourceFile.{path_of}
use Rattle.kc_cli.proofs.Paths.{source_file-of_path, path-of_source_file}
use Rattle.kc_cli.proofs.source_file.is_source_file.Goals as goal

pub returns-in-Some : goal.returns-in-Some
returns-in-Some c =
    let ending : c.args.file.now ≡ c.in-Some.path.now ++ codes ".kt" =
    strip_suffix_is Decides-eqb c.args.file.now (codes ".kt") (Some c.in-Some.path) c.in-Some.ensures.cases in (
      λ found. source_file-of_path c.args.file.now c.in-Some.path.now ending c.if-file-gt-LONGEST_NAME.false (sym c.is_path.ensures ∙ found),
      λ it. c.is_path.ensures ∙ path-of_source_file c.args.file.now c.in-Some.path.now ending it,
    )

pub returns-in-None : goal.returns-in-None
returns-in-None c =
    let other : (front : List ℕ) → c.args.file.now ≢ front ++ codes ".kt" =
    strip_suffix_is Decides-eqb c.args.file.now (codes ".kt") None c.in-None.ensures.cases in (
      λ never. cc,
      λ it. absurd (other (path_of it.folders ++ it.base) (it.parts.spelled ∙ sym (append_assoc (path_of it.folders) it.base (codes ".kt")))),
    )
