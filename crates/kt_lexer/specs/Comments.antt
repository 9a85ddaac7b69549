-- Comments.
use Rattle.std.specs.Prelude.{ℕ, zero, suc, ◌+◌, not, if◌then◌else◌, List, [], ◌∷◌, length, take_while, Option, Some, None, option_map, codes}
use Rattle.kt_lexer.specs.declared.comments.Mark.{Mark}
use Rattle.kt_lexer.specs.declared.comments.Mark.TheVariants as mark
use Rattle.kt_lexer.specs.Characters.{is_line_end, is_front}

-- how many units stand before the next line's end
abbrev pub line_length : List ℕ → ℕ
line_length text = length (take_while (λ u. not (is_line_end u)) text)

-- this many units and those behind them
abbrev pub and_units : ℕ → Option ℕ → Option ℕ
and_units n more = option_map (λ m. n + m) more

-- behind `*/`: the comment's end, or one comment fewer
abbrev pub closed : ℕ → (ℕ → Option ℕ) → Option ℕ
closed zero further = Some 2
closed (suc fewer) further = and_units 2 (further fewer)

-- How many units there are up to the end of the comment, from within it and so many further comments that are nested in it.
abbrev pub close : ℕ → List ℕ → Option ℕ
close depth [] = None
close depth (u ∷ []) = None
close depth (u ∷ v ∷ text) =
    if is_front (codes "*/") (u ∷ v ∷ text) then closed depth (λ d. close d text) else
    if is_front (codes "/*") (u ∷ v ∷ text) then and_units 2 (close (suc depth) text) else
    and_units 1 (close depth (v ∷ text))

-- what stands in front within a comment
abbrev pub in_front : List ℕ → Mark
in_front text =
    if is_front (codes "*/") text then mark.Closes else
    if is_front (codes "/*") text then mark.Opens else mark.Plain

abbrev pub mark_of : List ℕ → Mark
mark_of [] = mark.End
mark_of (u ∷ []) = mark.End
mark_of (u ∷ v ∷ text) = in_front (u ∷ v ∷ text)
