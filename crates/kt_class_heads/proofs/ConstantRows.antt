-- The steps of the functions that read constants.
use Rattle.std.proofs.Common.{◌≡◌, max, List, [], ◌∷◌, ◌++◌, Option, refl, ap, ◌∙◌, arith}
use Rattle.grammars.specs.Grammar.{row, leaf, node, pair}
use Rattle.kc_tree.specs.declared.decl.Constant.{Constant}
use Rattle.kc_tree.specs.declared.expr.Arg.{Arg}
use Rattle.kc_tree.specs.declared.fault.Span.{Span}
use Rattle.kc_tree.specs.declared.types.Word.{Word}
use Rattle.kt_bodies.specs.Terminals.{NameMoved}
use Rattle.kt_lexer.specs.declared.token.Token.{Token}
use Rattle.kt_grammar.specs.declared.cursor.Cursor.{Cursor}
use Rattle.kt_grammar.specs.DeclarationsBuilt as built
use Rattle.kt_grammar.specs.Parsed.{Advanced}
use Rattle.kt_grammar.specs.Rows as rows
use Rattle.kt_grammar.specs.Tokens.{is_name}
use Rattle.kt_grammar.proofs.Extents.{between_is}
use Rattle.kt_grammar.proofs.ListRows.{IsList}
use Rattle.kt_grammar.proofs.Progress.{goes_on}
use Rattle.kt_grammar.proofs.Steps.{read_one, read_both, read_row}
use Rattle.kt_grammar.proofs.TypeRows.{stretch}

pub constants_list : IsList rows.constants rows.constant is_name built.constant_of built.constants_of
constants_list = record { rule = refl; none_is = refl; last_is = λ c. refl; more_is = λ c t d. refl }

constant_alike : {s u : Span} {w v : Word} {x y : Option (List Arg)} → s ≡ u → w ≡ v → x ≡ y → (let c : Constant = record { span = s; name = w; args = x } in c) ≡ record { span = u; name = v; args = y }
constant_alike f g h = cc

pub constant_from : (xs ys : List Constant) {ts : List Token} {start mid end : Cursor} {s : Span} {w : Word} {x : Option (List Arg)} → NameMoved ts start mid w → Advanced rows.written_arguments built.written_arguments_of ts mid end x
    → s ≡ stretch ts start.at end.at → ys ≡ xs ++ record { span = s; name = w; args = x } ∷ [] → Advanced (row rows.constant) (λ c. xs ++ built.constant_of c) ts start end ys
constant_from xs ys o p f g =
    let whole = read_both (read_one o.taken) p.read in
    record {
      tree = node (pair (leaf o.taken.token) p.tree);
      looked = max 0 p.looked;
      read = read_row whole;
      builds = g ∙ ap (λ c. xs ++ c ∷ []) (constant_alike (f ∙ between_is (goes_on refl whole) whole (goes_on refl whole) whole) o.word p.builds);
      so_far = omega (arith, o.so_far, p.so_far);
    }
