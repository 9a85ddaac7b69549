-- Single tokens that stand for operators.
use Rattle.std.proofs.Common.{◌≡◌, ◌+◌, Bool, true, List, drop, Option, Some, None, refl, sym, ap, subst, ◌∙◌}
use denote.Ref.{Bor}
use Rattle.grammars.specs.Grammar.{first, test}
use Rattle.kt_lexer.specs.declared.token.Token.{Token}
use Rattle.kt_grammar.specs.declared.cursor.Cursor.{Cursor}
use Rattle.kt_grammar.specs.Signs.{TokenAt, TokenTaken}
use Rattle.kt_grammar.proofs.Steps.{takes_one}

stands : (f : Token → Bool) (o : Option Token) (t : Bor Token) → TokenAt f o (Some t) → test f o ≡ true
stands f None t h = absurd h
stands f (Some u) t h = h.0

is_first : (f : Token → Bool) (o : Option Token) (u : Token) (t : Bor Token) → o ≡ Some u → TokenAt f o (Some t) → t.now ≡ u
is_first f None u t e h = absurd h
is_first f (Some v) u t e h = let i : v ≡ u = cc in h.1 ∙ i

pub takes_token : (f : Token → Bool) (ts : List Token) (start end : Cursor) (t : Bor Token) → end ≡ record { at = start.at + 1; looked = start.looked } → TokenAt f (first (drop start.at ts)) (Some t)
    → TokenTaken f ts start end t.now
takes_token f ts start end t e h =
    let k = takes_one f ts start.at (stands f (first (drop start.at ts)) t h) in
    subst (λ (c : Cursor). TokenTaken f ts start c t.now) (sym e) (record { taken = k; so_far = refl; same = is_first f (first (drop start.at ts)) k.token t (ap first k.here) h })
