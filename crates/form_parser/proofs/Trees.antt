-- Readings of statements, blocks and files: there is one at most, and how they follow from those of the parts.
use Rattle.std.proofs.Common.{◌≡◌, ℕ, ◌==◌, Bool, true, false, true≢false, List, [], ◌∷◌, ◌++◌, length, Some, None, Result, Ok, Err, refl, sym, ap, subst, ◌∙◌, arith, append_assoc, append-nil}
use Rattle.std.proofs.lemmas.Bool.{eqb-false}
use denote.Ref.{Bor}
use Rattle.kc_text.specs.declared.errors.Fail.{Fail}
use Rattle.form_parser.specs.declared.tokens.NotBuilt.{NotBuilt}
use Rattle.form_parser.specs.declared.tokens.TokenKind.{TokenKind}
use Rattle.form_parser.specs.declared.tokens.TokenKind.TheVariants as kind
use Rattle.form_parser.specs.declared.tokens.Token.{Token}
use Rattle.form_parser.specs.declared.tokens.Place.{Place}
use Rattle.form_parser.specs.declared.operators.Level.TheVariants as level
use Rattle.form_parser.specs.declared.parser.Standing.{Standing}
use Rattle.form_parser.specs.declared.parser.Standing.TheVariants as standing
use Rattle.form_parser.specs.declared.surface.Expression.{Expression}
use Rattle.form_parser.specs.declared.surface.Body.{Body}
use Rattle.form_parser.specs.declared.surface.Statement.{Statement}
use Rattle.form_parser.specs.declared.surface.Statement.TheVariants as statement
use Rattle.form_parser.specs.declared.surface.Source.{Source}
use Rattle.form_parser.specs.Grammar.{joined, chain, Reads, is_var, behind_else, alone_in, block_of, may_begin, may_separate, ReadsTest, a_test, ReadsStatement, a_declaration, an_assignment, a_print, an_if, an_if_else, a_while, ReadsBody, a_block, alone, ReadsStatements, closed, separated, another, Derives, one}
use Rattle.form_parser.specs.Parsed.{Can, Answers, Stands, StandsUnmarked, Collects, CollectsAnother, CanDerive}
use Rattle.form_parser.proofs.Readings.{fails_by, Both, same_head, same_tail, same_some, none_or_some, one_reading, one_stands, one_unmarked}

-- ---- kinds that differ

abbrev tag : TokenKind → ℕ
tag kind.Name = 1
tag kind.Println = 2
tag kind.If = 3
tag kind.While = 4
tag kind.OpenBrace = 5
tag kind.CloseBrace = 6
tag kind.Semicolon = 7
tag _ = 0

apart : {k a b : TokenKind} → k ≡ a → k ≡ b → (tag a == tag b) ≡ false → ⊥
apart {a = a} {b = b} p q n = eqb-false (tag a) (tag b) n (ap tag (sym p ∙ q))

not_var : {k c : TokenKind} {v : Bool} → is_var k ≡ Some v → k ≡ c → is_var c ≡ None → ⊥
not_var h e n = none_or_some (ap is_var e ∙ n) h

-- the kinds of token that begin a statement
abbrev begins : TokenKind → Bool
begins kind.Val = true
begins kind.Var = true
begins kind.Name = true
begins kind.Println = true
begins kind.If = true
begins kind.While = true
begins _ = false

var_begins : (k : TokenKind) {v : Bool} → is_var k ≡ Some v → begins k ≡ true
var_begins kind.Val h = refl
var_begins kind.Var h = refl
var_begins _ h = absurd (none_or_some refl h)

statement_begins : {t : Token} {ts us : List Token} {s : Statement} → ReadsStatement (t ∷ ts) s us → begins t.kind ≡ true
statement_begins {t = t} (a_declaration h k l d) = var_begins t.kind h
statement_begins (an_assignment h k l d) = ap begins h
statement_begins (a_print h k l d e) = ap begins h
statement_begins (an_if h d b n) = ap begins h
statement_begins (an_if_else h d b n f) = ap begins h
statement_begins (a_while h d b) = ap begins h

cannot_begin : {t : Token} {c : TokenKind} {ts us : List Token} {s : Statement} → t.kind ≡ c → ReadsStatement (t ∷ ts) s us → begins c ≡ false → ⊥
cannot_begin h d n = true≢false (sym (statement_begins d) ∙ ap begins h ∙ n)

pub no_statement : {t : Token} {ts us : List Token} → ts ≡ t ∷ us → (t.kind ≡ kind.Val → ⊥) → (t.kind ≡ kind.Var → ⊥) → (t.kind ≡ kind.Name → ⊥) → (t.kind ≡ kind.Println → ⊥)
    → (t.kind ≡ kind.If → ⊥) → (t.kind ≡ kind.While → ⊥) → Can ReadsStatement ts → ⊥
no_statement {t = t} e f1 f2 f3 f4 f5 f6 w =
    by t.kind (statement_begins (subst (λ l. ReadsStatement l w.value w.rest) e w.reads)) f1 f2 f3 f4 f5 f6
  where
    by : (k : TokenKind) → begins k ≡ true → (k ≡ kind.Val → ⊥) → (k ≡ kind.Var → ⊥) → (k ≡ kind.Name → ⊥) → (k ≡ kind.Println → ⊥) → (k ≡ kind.If → ⊥) → (k ≡ kind.While → ⊥) → ⊥
    by kind.Val b g1 g2 g3 g4 g5 g6 = g1 refl
    by kind.Var b g1 g2 g3 g4 g5 g6 = g2 refl
    by kind.Name b g1 g2 g3 g4 g5 g6 = g3 refl
    by kind.Println b g1 g2 g3 g4 g5 g6 = g4 refl
    by kind.If b g1 g2 g3 g4 g5 g6 = g5 refl
    by kind.While b g1 g2 g3 g4 g5 g6 = g6 refl
    by _ b g1 g2 g3 g4 g5 g6 = true≢false (sym b)

-- ---- there is one reading at most

pub one_test : {ts us us' : List Token} {a a' : Expression} → ReadsTest ts a us → ReadsTest ts a' us' → Both a a' us us'
one_test (a_test h d k) (a_test h' d' k') = let r = one_reading d d' in (r.0, same_tail r.1)

same_declaration : (t n : Token) {v v' : Bool} {a a' : Expression} → v ≡ v' → a ≡ a' → statement.Declare (joined t.place a.place) v n.place a ≡ statement.Declare (joined t.place a'.place) v' n.place a'
same_declaration t n p q = cc

same_assignment : (t : Token) {a a' : Expression} → a ≡ a' → statement.Assign (joined t.place a.place) t.place a ≡ statement.Assign (joined t.place a'.place) t.place a'
same_assignment t p = ap (λ (x : Expression). statement.Assign (joined t.place x.place) t.place x) p

same_print : (t : Token) {u u' : Token} {a a' : Expression} → a ≡ a' → u ≡ u' → statement.Print (joined t.place u.place) a ≡ statement.Print (joined t.place u'.place) a'
same_print t p q = cc

same_if : (t : Token) {a a' : Expression} {b b' : Body} → a ≡ a' → b ≡ b' → statement.If (joined t.place b.place) a b None ≡ statement.If (joined t.place b'.place) a' b' None
same_if t p q = cc

same_if_else : (t : Token) {a a' : Expression} {b b' c c' : Body} → a ≡ a' → b ≡ b' → c ≡ c' → statement.If (joined t.place c.place) a b (Some c) ≡ statement.If (joined t.place c'.place) a' b' (Some c')
same_if_else t p q r = cc

same_while : (t : Token) {a a' : Expression} {b b' : Body} → a ≡ a' → b ≡ b' → statement.While (joined t.place b.place) a b ≡ statement.While (joined t.place b'.place) a' b'
same_while t p q = cc

same_block : (t : Token) {ss ss' : List Statement} {close close' : Place} → ss ≡ ss' → close ≡ close' → block_of t ss close ≡ block_of t ss' close'
same_block t p q = cc

same_list : {s s' : Statement} {ss ss' : List Statement} → s ≡ s' → ss ≡ ss' → s ∷ ss ≡ s' ∷ ss'
same_list p q = cc

body_from : {us us' vs : List Token} {b : Body} → us ≡ us' → ReadsBody us' b vs → ReadsBody us b vs
body_from {vs = vs} {b = b} e d = subst (λ l. ReadsBody l b vs) (sym e) d

statements_from : {st : Standing} {us us' vs : List Token} {ss : List Statement} {close : Place} → us ≡ us' → ReadsStatements st us' ss close vs → ReadsStatements st us ss close vs
statements_from {st = st} {vs = vs} {ss = ss} {close = close} e d = subst (λ l. ReadsStatements st l ss close vs) (sym e) d

mutual
  pub one_statement : {ts us us' : List Token} {s s' : Statement} → ReadsStatement ts s us → ReadsStatement ts s' us' → Both s s' us us'
  one_statement (a_declaration {t = t} {n = n} h k l d) (a_declaration h' k' l' d') = let r = one_reading d d' in (same_declaration t n (same_some h h') r.0, r.1)
  one_statement (a_declaration h k l d) (an_assignment h' k' l' d') = absurd (not_var h h' refl)
  one_statement (a_declaration h k l d) (a_print h' k' l' d' e') = absurd (not_var h h' refl)
  one_statement (a_declaration h k l d) (an_if h' d' b' n') = absurd (not_var h h' refl)
  one_statement (a_declaration h k l d) (an_if_else h' d' b' n' f') = absurd (not_var h h' refl)
  one_statement (a_declaration h k l d) (a_while h' d' b') = absurd (not_var h h' refl)
  one_statement (an_assignment h k l d) (a_declaration h' k' l' d') = absurd (not_var h' h refl)
  one_statement (an_assignment {t = t} h k l d) (an_assignment h' k' l' d') = let r = one_reading d d' in (same_assignment t r.0, r.1)
  one_statement (an_assignment h k l d) (a_print h' k' l' d' e') = absurd (apart h h' refl)
  one_statement (an_assignment h k l d) (an_if h' d' b' n') = absurd (apart h h' refl)
  one_statement (an_assignment h k l d) (an_if_else h' d' b' n' f') = absurd (apart h h' refl)
  one_statement (an_assignment h k l d) (a_while h' d' b') = absurd (apart h h' refl)
  one_statement (a_print h k l d e) (a_declaration h' k' l' d') = absurd (not_var h' h refl)
  one_statement (a_print h k l d e) (an_assignment h' k' l' d') = absurd (apart h h' refl)
  one_statement (a_print {t = t} h k l d e) (a_print h' k' l' d' e') = let r = one_reading d d' in (same_print t r.0 (same_head r.1), same_tail r.1)
  one_statement (a_print h k l d e) (an_if h' d' b' n') = absurd (apart h h' refl)
  one_statement (a_print h k l d e) (an_if_else h' d' b' n' f') = absurd (apart h h' refl)
  one_statement (a_print h k l d e) (a_while h' d' b') = absurd (apart h h' refl)
  one_statement (an_if h d b n) (a_declaration h' k' l' d') = absurd (not_var h' h refl)
  one_statement (an_if h d b n) (an_assignment h' k' l' d') = absurd (apart h h' refl)
  one_statement (an_if h d b n) (a_print h' k' l' d' e') = absurd (apart h h' refl)
  one_statement (an_if {t = t} h d b n) (an_if h' d' b' n') =
      let r = one_test d d' in
      let q = one_body b (body_from r.1 b') in
      (same_if t r.0 q.0, q.1)
  one_statement (an_if h d b n) (an_if_else h' d' b' n' f') =
      let r = one_test d d' in
      let q = one_body b (body_from r.1 b') in
      absurd (none_or_some n (ap behind_else q.1 ∙ n'))
  one_statement (an_if h d b n) (a_while h' d' b') = absurd (apart h h' refl)
  one_statement (an_if_else h d b n f) (a_declaration h' k' l' d') = absurd (not_var h' h refl)
  one_statement (an_if_else h d b n f) (an_assignment h' k' l' d') = absurd (apart h h' refl)
  one_statement (an_if_else h d b n f) (a_print h' k' l' d' e') = absurd (apart h h' refl)
  one_statement (an_if_else h d b n f) (an_if h' d' b' n') =
      let r = one_test d d' in
      let q = one_body b (body_from r.1 b') in
      absurd (none_or_some n' (ap behind_else (sym q.1) ∙ n))
  one_statement (an_if_else {t = t} h d b n f) (an_if_else h' d' b' n' f') =
      let r = one_test d d' in
      let q = one_body b (body_from r.1 b') in
      let e = same_some n (ap behind_else q.1 ∙ n') in
      let g = one_body f (body_from e f') in
      (same_if_else t r.0 q.0 g.0, g.1)
  one_statement (an_if_else h d b n f) (a_while h' d' b') = absurd (apart h h' refl)
  one_statement (a_while h d b) (a_declaration h' k' l' d') = absurd (not_var h' h refl)
  one_statement (a_while h d b) (an_assignment h' k' l' d') = absurd (apart h h' refl)
  one_statement (a_while h d b) (a_print h' k' l' d' e') = absurd (apart h h' refl)
  one_statement (a_while h d b) (an_if h' d' b' n') = absurd (apart h h' refl)
  one_statement (a_while h d b) (an_if_else h' d' b' n' f') = absurd (apart h h' refl)
  one_statement (a_while {t = t} h d b) (a_while h' d' b') =
      let r = one_test d d' in
      let q = one_body b (body_from r.1 b') in
      (same_while t r.0 q.0, q.1)

  pub one_body : {ts us us' : List Token} {b b' : Body} → ReadsBody ts b us → ReadsBody ts b' us' → Both b b' us us'
  one_body (a_block {t = t} h r) (a_block h' r') = let q = one_statements r r' in (same_block t q.0 q.1, q.2)
  one_body (a_block h r) (alone d') = absurd (cannot_begin h d' refl)
  one_body (alone d) (a_block h' r') = absurd (cannot_begin h' d refl)
  one_body (alone d) (alone d') = let q = one_statement d d' in (ap alone_in q.0, q.1)

  pub one_statements : {st : Standing} {ts us us' : List Token} {ss ss' : List Statement} {close close' : Place} → ReadsStatements st ts ss close us → ReadsStatements st ts ss' close' us' → (ss ≡ ss') × (close ≡ close') × (us ≡ us')
  one_statements (closed h) (closed h') = (refl, refl, refl)
  one_statements (closed h) (separated h' m' r') = absurd (apart h h' refl)
  one_statements (closed h) (another m' d' r') = absurd (cannot_begin h d' refl)
  one_statements (separated h m r) (closed h') = absurd (apart h h' refl)
  one_statements (separated h m r) (separated h' m' r') = one_statements r r'
  one_statements (separated h m r) (another m' d' r') = absurd (cannot_begin h d' refl)
  one_statements (another m d r) (closed h') = absurd (cannot_begin h' d refl)
  one_statements (another m d r) (separated h' m' r') = absurd (cannot_begin h' d refl)
  one_statements (another m d r) (another m' d' r') =
      let k = one_statement d d' in
      let l = one_statements r (statements_from k.1 r') in
      (same_list k.0 l.0, l.1, l.2)

-- ---- one part behind another

pub record Then {V : Type 0} (P : List Token → V → List Token → Type 0) (Q : V → List Token → Type 0) (ts : List Token) : Type 0 where
  pub value : V
  pub rest : List Token
  pub first : P ts value rest
  pub others : Q value rest

-- the first part can be read
pub first_of : {V : Type 0} {P : List Token → V → List Token → Type 0} {Q : V → List Token → Type 0} {ts : List Token} → Then P Q ts → Can P ts
first_of w = record { value = w.value; rest = w.rest; reads = w.first }

-- behind a first part that was read stand the others
others_of : {V : Type 0} {P : List Token → V → List Token → Type 0} {Q : V → List Token → Type 0} {ts us : List Token} {v : V}
    → (w : Then P Q ts) → Both v w.value us w.rest → Q v us
others_of {V = V} {Q = Q} {us = us} w e = subst (λ (x : V). Q x us) (sym e.0) (subst (λ l. Q w.value l) (sym e.1) w.others)

pub behind_token : {k : TokenKind} {Q : Token → List Token → Type 0} {ts us : List Token} {t : Token} → Stands k ts t us → Then (Stands k) Q ts → Q t us
behind_token p w = others_of w (one_stands p w.first)

pub behind_unmarked : {k : TokenKind} {Q : Token → List Token → Type 0} {ts us : List Token} {t : Token} → StandsUnmarked k ts t us → Then (StandsUnmarked k) Q ts → Q t us
behind_unmarked p w = others_of w (one_unmarked p w.first)

pub behind_expression : {i : Bool} {Q : Expression → List Token → Type 0} {ts us : List Token} {a : Expression} → Reads i (chain level.Or) ts a us → Then (Reads i (chain level.Or)) Q ts → Q a us
behind_expression p w = others_of w (one_reading p w.first)

pub behind_test : {Q : Expression → List Token → Type 0} {ts us : List Token} {a : Expression} → ReadsTest ts a us → Then ReadsTest Q ts → Q a us
behind_test p w = others_of w (one_test p w.first)

pub behind_body : {Q : Body → List Token → Type 0} {ts us : List Token} {b : Body} → ReadsBody ts b us → Then ReadsBody Q ts → Q b us
behind_body p w = others_of w (one_body p w.first)

-- ---- what stands behind the first token of a statement

pub record DeclarationRest (ts : List Token) : Type 0 where
  pub parts : Then (Stands kind.Name) (λ n us. Then (Stands kind.Assign) (λ e vs. Can (Reads false (chain level.Or)) vs) us) ts

pub record AssignmentRest (ts : List Token) : Type 0 where
  pub parts : Then (StandsUnmarked kind.Assign) (λ e us. Can (Reads false (chain level.Or)) us) ts

pub record PrintRest (ts : List Token) : Type 0 where
  pub parts : Then (StandsUnmarked kind.OpenRound) (λ o us. Then (Reads true (chain level.Or)) (λ a vs. Can (Stands kind.CloseRound) vs) us) ts

pub record TestRest (ts : List Token) : Type 0 where
  pub parts : Then (Stands kind.OpenRound) (λ o us. Then (Reads true (chain level.Or)) (λ a vs. Can (Stands kind.CloseRound) vs) us) ts

abbrev pub ElseRest : List Token → Type 0
ElseRest vs = (ws : List Token) → behind_else vs ≡ Some ws → Can ReadsBody ws

pub record ChoiceRest (ts : List Token) : Type 0 where
  pub parts : Then ReadsTest (λ a us. Then ReadsBody (λ held vs. ElseRest vs) us) ts

pub record RepetitionRest (ts : List Token) : Type 0 where
  pub parts : Then ReadsTest (λ a us. Can ReadsBody us) ts

declaration_of : {t : Token} {ts us : List Token} {s : Statement} {v : Bool} → is_var t.kind ≡ Some v → ReadsStatement (t ∷ ts) s us → DeclarationRest ts
declaration_of h (a_declaration k0 k l d) = record { parts = record { value = _; rest = _; first = record { here = refl; kind_is = k }; others = record { value = _; rest = _; first = record { here = refl; kind_is = l }; others = record { value = _; rest = _; reads = d } } } }
declaration_of h (an_assignment h' k l d) = absurd (not_var h h' refl)
declaration_of h (a_print h' k l d e) = absurd (not_var h h' refl)
declaration_of h (an_if h' d b n) = absurd (not_var h h' refl)
declaration_of h (an_if_else h' d b n f) = absurd (not_var h h' refl)
declaration_of h (a_while h' d b) = absurd (not_var h h' refl)

pub declaration_parts : {t : Token} {ts : List Token} {v : Bool} → is_var t.kind ≡ Some v → Can ReadsStatement (t ∷ ts) → DeclarationRest ts
declaration_parts h w = declaration_of h w.reads

assignment_of : {t : Token} {ts us : List Token} {s : Statement} → t.kind ≡ kind.Name → ReadsStatement (t ∷ ts) s us → AssignmentRest ts
assignment_of h (a_declaration h' k l d) = absurd (not_var h' h refl)
assignment_of h (an_assignment k0 k l d) = record { parts = record { value = _; rest = _; first = record { here = refl; kind_is = k; unmarked = l }; others = record { value = _; rest = _; reads = d } } }
assignment_of h (a_print h' k l d e) = absurd (apart h h' refl)
assignment_of h (an_if h' d b n) = absurd (apart h h' refl)
assignment_of h (an_if_else h' d b n f) = absurd (apart h h' refl)
assignment_of h (a_while h' d b) = absurd (apart h h' refl)

pub assignment_parts : {t : Token} {ts : List Token} → t.kind ≡ kind.Name → Can ReadsStatement (t ∷ ts) → AssignmentRest ts
assignment_parts h w = assignment_of h w.reads

print_of : {t : Token} {ts us : List Token} {s : Statement} → t.kind ≡ kind.Println → ReadsStatement (t ∷ ts) s us → PrintRest ts
print_of h (a_declaration h' k l d) = absurd (not_var h' h refl)
print_of h (an_assignment h' k l d) = absurd (apart h h' refl)
print_of h (a_print {u = u} {us = us} k0 k l d e) = record { parts = record { value = _; rest = _; first = record { here = refl; kind_is = k; unmarked = l }; others = record { value = _; rest = u ∷ us; first = d; others = record { value = u; rest = us; reads = record { here = refl; kind_is = e } } } } }
print_of h (an_if h' d b n) = absurd (apart h h' refl)
print_of h (an_if_else h' d b n f) = absurd (apart h h' refl)
print_of h (a_while h' d b) = absurd (apart h h' refl)

pub print_parts : {t : Token} {ts : List Token} → t.kind ≡ kind.Println → Can ReadsStatement (t ∷ ts) → PrintRest ts
print_parts h w = print_of h w.reads

choice_of : {t : Token} {ts us : List Token} {s : Statement} → t.kind ≡ kind.If → ReadsStatement (t ∷ ts) s us → ChoiceRest ts
choice_of h (a_declaration h' k l d) = absurd (not_var h' h refl)
choice_of h (an_assignment h' k l d) = absurd (apart h h' refl)
choice_of h (a_print h' k l d e) = absurd (apart h h' refl)
choice_of h (an_if k0 d b n) = record { parts = record { value = _; rest = _; first = d; others = record { value = _; rest = _; first = b; others = λ ws e. absurd (none_or_some n e) } } }
choice_of h (an_if_else {ws = ws} {xs = xs} {failed = failed} k0 d b n f) = record { parts = record { value = _; rest = _; first = d; others = record { value = _; rest = _; first = b; others = λ ws2 e. record { value = failed; rest = xs; reads = body_from (same_some e n) f } } } }
choice_of h (a_while h' d b) = absurd (apart h h' refl)

pub choice_parts : {t : Token} {ts : List Token} → t.kind ≡ kind.If → Can ReadsStatement (t ∷ ts) → ChoiceRest ts
choice_parts h w = choice_of h w.reads

repetition_of : {t : Token} {ts us : List Token} {s : Statement} → t.kind ≡ kind.While → ReadsStatement (t ∷ ts) s us → RepetitionRest ts
repetition_of h (a_declaration h' k l d) = absurd (not_var h' h refl)
repetition_of h (an_assignment h' k l d) = absurd (apart h h' refl)
repetition_of h (a_print h' k l d e) = absurd (apart h h' refl)
repetition_of h (an_if h' d b n) = absurd (apart h h' refl)
repetition_of h (an_if_else h' d b n f) = absurd (apart h h' refl)
repetition_of h (a_while k0 d b) = record { parts = record { value = _; rest = _; first = d; others = record { value = _; rest = _; reads = b } } }

pub repetition_parts : {t : Token} {ts : List Token} → t.kind ≡ kind.While → Can ReadsStatement (t ∷ ts) → RepetitionRest ts
repetition_parts h w = repetition_of h w.reads

test_of : {ts us : List Token} {a : Expression} → ReadsTest ts a us → TestRest ts
test_of (a_test {u = u} {us = us} h d k) = record { parts = record { value = _; rest = _; first = record { here = refl; kind_is = h }; others = record { value = _; rest = u ∷ us; first = d; others = record { value = u; rest = us; reads = record { here = refl; kind_is = k } } } } }

pub test_parts : {ts : List Token} → Can ReadsTest ts → TestRest ts
test_parts w = test_of w.reads

-- ---- statements from their parts

statement_along : {ts ts' us : List Token} {s : Statement} → ts ≡ ts' → ReadsStatement ts s us → ReadsStatement ts' s us
statement_along {us = us} {s = s} e d = subst (λ l. ReadsStatement l s us) e d

reads_to : {i : Bool} {ts us us' : List Token} {a : Expression} → us ≡ us' → Reads i (chain level.Or) ts a us → Reads i (chain level.Or) ts a us'
reads_to {i = i} {ts = ts} {a = a} e d = subst (λ l. Reads i (chain level.Or) ts a l) e d

pub test_read : {ts us vs ws : List Token} {o u : Token} {a : Expression} → Stands kind.OpenRound ts o us → Reads true (chain level.Or) us a vs → Stands kind.CloseRound vs u ws → ReadsTest ts a ws
test_read {ws = ws} {a = a} p d q = subst (λ l. ReadsTest l a ws) (sym p.here) (a_test p.kind_is (reads_to q.here d) q.kind_is)

pub declaration_read : {t n e : Token} {v : Bool} {ts us vs ws : List Token} {a : Expression} → is_var t.kind ≡ Some v → Stands kind.Name ts n us → Stands kind.Assign us e vs → Reads false (chain level.Or) vs a ws
    → ReadsStatement (t ∷ ts) (statement.Declare (joined t.place a.place) v n.place a) ws
declaration_read {t = t} {n = n} h k l d =
    statement_along (sym (ap (λ x. t ∷ x) (k.here ∙ ap (λ x. n ∷ x) l.here))) (a_declaration h k.kind_is l.kind_is d)

pub assignment_read : {t e : Token} {ts us vs : List Token} {a : Expression} → t.kind ≡ kind.Name → StandsUnmarked kind.Assign ts e us → Reads false (chain level.Or) us a vs
    → ReadsStatement (t ∷ ts) (statement.Assign (joined t.place a.place) t.place a) vs
assignment_read {t = t} h k d = statement_along (sym (ap (λ x. t ∷ x) k.here)) (an_assignment h k.kind_is k.unmarked d)

pub print_read : {t o u : Token} {ts us vs ws : List Token} {a : Expression} → t.kind ≡ kind.Println → StandsUnmarked kind.OpenRound ts o us → Reads true (chain level.Or) us a vs → Stands kind.CloseRound vs u ws
    → ReadsStatement (t ∷ ts) (statement.Print (joined t.place u.place) a) ws
print_read {t = t} h k d c = statement_along (sym (ap (λ x. t ∷ x) k.here)) (a_print h k.kind_is k.unmarked (reads_to c.here d) c.kind_is)

pub if_read : {t : Token} {ts us vs : List Token} {a : Expression} {b : Body} → t.kind ≡ kind.If → ReadsTest ts a us → ReadsBody us b vs → behind_else vs ≡ None
    → ReadsStatement (t ∷ ts) (statement.If (joined t.place b.place) a b None) vs
if_read h d b n = an_if h d b n

pub if_else_read : {t : Token} {ts us vs ws xs : List Token} {a : Expression} {b c : Body} → t.kind ≡ kind.If → ReadsTest ts a us → ReadsBody us b vs → behind_else vs ≡ Some ws → ReadsBody ws c xs
    → ReadsStatement (t ∷ ts) (statement.If (joined t.place c.place) a b (Some c)) xs
if_else_read h d b n f = an_if_else h d b n f

pub while_read : {t : Token} {ts us vs : List Token} {a : Expression} {b : Body} → t.kind ≡ kind.While → ReadsTest ts a us → ReadsBody us b vs
    → ReadsStatement (t ∷ ts) (statement.While (joined t.place b.place) a b) vs
while_read h d b = a_while h d b

no_tokens : {ts us : List Token} {s : Statement} → length ts ≡ 0 → ReadsStatement ts s us → ⊥
no_tokens e (a_declaration h k l d) = absurd (omega (arith, e))
no_tokens e (an_assignment h k l d) = absurd (omega (arith, e))
no_tokens e (a_print h k l d f) = absurd (omega (arith, e))
no_tokens e (an_if h d b n) = absurd (omega (arith, e))
no_tokens e (an_if_else h d b n f) = absurd (omega (arith, e))
no_tokens e (a_while h d b) = absurd (omega (arith, e))

pub statement_takes : (ts : List Token) → length ts ≡ 0 → Can ReadsStatement ts → ⊥
statement_takes ts e w = no_tokens e w.reads

-- an answer for the same tokens, written otherwise
pub answers_along : {ts ts' : List Token} → ts' ≡ ts → (r : Result (Statement × Bor (List Token)) (Fail NotBuilt)) → Answers ReadsStatement ts r → Answers ReadsStatement ts' r
answers_along e r d = subst (λ l. Answers ReadsStatement l r) (sym e) d

-- ---- bodies

abbrev body_with : Place → List Statement → Body
body_with p ss = record { place = p; statements = ss }

same_body : (b : Body) {p : Place} {ss : List Statement} → b.place ≡ p → b.statements ≡ ss → b ≡ body_with p ss
same_body b {p = p} e f = ap (λ (x : Place). body_with x b.statements) e ∙ ap (body_with p) f

block_body : {t : Token} {ts us vs : List Token} (b : Body) → ts ≡ t ∷ us → t.kind ≡ kind.OpenBrace → Collects t.place standing.First [] us b vs → ReadsBody ts b vs
block_body {t = t} {us = us} {vs = vs} b e h w =
    subst (λ l. ReadsBody l b vs) (sym e) (subst (λ (x : Body). ReadsBody (t ∷ us) x vs) (sym (same_body b w.place_is w.whole)) (a_block h w.reads))

-- behind a brace stand the statements of a block
block_collects : {t : Token} {ts us vs : List Token} {b : Body} → ts ≡ t ∷ us → t.kind ≡ kind.OpenBrace → ReadsBody ts b vs → Can (Collects t.place standing.First []) us
block_collects {t = t} e h (a_block {ss = ss} {close = close} h' r) = record {
  value = body_with (joined t.place close) ss;
  rest = _;
  reads = record { values = ss; close = close; reads = statements_from (sym (same_tail e)) r; place_is = refl; whole = refl };
}
block_collects e h (alone d) = absurd (cannot_begin h (statement_along e d) refl)

block_answers : {t : Token} {ts us : List Token} → Stands kind.OpenBrace ts t us → (r : Result (Body × Bor (List Token)) (Fail NotBuilt))
    → Answers (Collects t.place standing.First []) us r → Answers ReadsBody ts r
block_answers h (Ok p) d = block_body p.0 h.here h.kind_is d
block_answers h (Err cause) d = fails_by (λ w. block_collects h.here h.kind_is w.reads) d

pub block_ends : {t : Token} {ts us : List Token} → Stands kind.OpenBrace ts t us → {before : List Statement} → before ≡ [] → (r : Result (Body × Bor (List Token)) (Fail NotBuilt))
    → Answers (Collects t.place standing.First before) us r → Answers ReadsBody ts r
block_ends {t = t} {us = us} h n r d = block_answers h r (subst (λ x. Answers (Collects t.place standing.First x) us r) n d)

alone_statement : {ts us : List Token} {b : Body} → (Can (Stands kind.OpenBrace) ts → ⊥) → ReadsBody ts b us → Can ReadsStatement ts
alone_statement never (a_block {t = t} {ts = ts} h r) = absurd (never (record { value = t; rest = ts; reads = record { here = refl; kind_is = h } }))
alone_statement never (alone d) = record { value = _; rest = _; reads = d }

pub statement_alone : (ts : List Token) → (Can (Stands kind.OpenBrace) ts → ⊥) → Can ReadsBody ts → Can ReadsStatement ts
statement_alone ts never w = alone_statement never w.reads

pub alone_read : {ts us : List Token} {s : Statement} {b : Body} → ReadsStatement ts s us → b ≡ alone_in s → ReadsBody ts b us
alone_read {ts = ts} {us = us} d e = subst (λ x. ReadsBody ts x us) (sym e) (alone d)

-- ---- statements in order

nothing_first : {st : Standing} {ts us : List Token} {ss : List Statement} {close : Place} → length ts ≡ 0 → ReadsStatements st ts ss close us → ⊥
nothing_first e (closed h) = absurd (omega (arith, e))
nothing_first e (separated h m r) = absurd (omega (arith, e))
nothing_first e (another m d r) = absurd (omega (arith, e))

pub statements_take : {begin : Place} {st : Standing} {before : List Statement} (ts : List Token) → length ts ≡ 0 → Can (Collects begin st before) ts → ⊥
statements_take ts e w = nothing_first e w.reads.reads

pub block_closes : {st : Standing} {t : Token} {ts us : List Token} (begin : Place) (before : List Statement) {b : Body} → ts ≡ t ∷ us → t.kind ≡ kind.CloseBrace → b.place ≡ joined begin t.place → b.statements ≡ before
    → Collects begin st before ts b us
block_closes {st = st} {t = t} {us = us} begin before e h p q = record {
  values = [];
  close = t.place;
  reads = subst (λ l. ReadsStatements st l [] t.place us) (sym e) (closed h);
  place_is = p;
  whole = q ∙ sym (append-nil before);
}

behind_semicolon : {st : Standing} {t : Token} {ts us vs : List Token} {ss : List Statement} {close : Place} → ts ≡ t ∷ us → t.kind ≡ kind.Semicolon → ReadsStatements st ts ss close vs
    → (may_separate st ≡ true) × ReadsStatements standing.Separated us ss close vs
behind_semicolon e h (closed k) = absurd (apart (subst (λ (x : Token). x.kind ≡ kind.CloseBrace) (same_head e) k) h refl)
behind_semicolon e h (separated k m r) = (m, statements_from (sym (same_tail e)) r)
behind_semicolon e h (another m d r) = absurd (cannot_begin h (statement_along e d) refl)

pub may_be_separated : {begin : Place} {st : Standing} {before : List Statement} {t : Token} {ts us : List Token} → ts ≡ t ∷ us → t.kind ≡ kind.Semicolon → Can (Collects begin st before) ts → may_separate st ≡ true
may_be_separated e h w = (behind_semicolon e h w.reads.reads).0

pub separated_ends : (begin : Place) (st : Standing) (before : List Statement) {t : Token} {ts us : List Token} → ts ≡ t ∷ us → t.kind ≡ kind.Semicolon → may_separate st ≡ true
    → (r : Result (Body × Bor (List Token)) (Fail NotBuilt)) → Answers (Collects begin standing.Separated before) us r → Answers (Collects begin st before) ts r
separated_ends begin st before e h m (Ok p) d = record {
  values = d.values;
  close = d.close;
  reads = subst (λ l. ReadsStatements st l d.values d.close p.1.now) (sym e) (separated h m d.reads);
  place_is = d.place_is;
  whole = d.whole;
}
separated_ends begin st before e h m (Err cause) d = fails_by (λ w. record {
  value = w.value;
  rest = w.rest;
  reads = record {
    values = w.reads.values;
    close = w.reads.close;
    reads = (behind_semicolon e h w.reads.reads).1;
    place_is = w.reads.place_is;
    whole = w.reads.whole;
  };
}) d

record Goes (st : Standing) (t : Token) (ts : List Token) (ss : List Statement) (close : Place) (vs : List Token) : Type 0 where
  statement : Statement
  behind : List Token
  others : List Statement
  may : may_begin st t ≡ true
  split : ss ≡ statement ∷ others
  first : ReadsStatement ts statement behind
  rest : ReadsStatements standing.Behind behind others close vs

goes_on : {st : Standing} {t : Token} {ts us vs : List Token} {ss : List Statement} {close : Place} → ts ≡ t ∷ us → (t.kind ≡ kind.CloseBrace → ⊥) → (t.kind ≡ kind.Semicolon → ⊥) → ReadsStatements st ts ss close vs
    → Goes st t ts ss close vs
goes_on e f g (closed k) = absurd (f (subst (λ (x : Token). x.kind ≡ kind.CloseBrace) (same_head e) k))
goes_on e f g (separated k m r) = absurd (g (subst (λ (x : Token). x.kind ≡ kind.Semicolon) (same_head e) k))
goes_on {st = st} e f g (another {us = us} {s = s} {ss = ss} m d r) = record {
  statement = s;
  behind = us;
  others = ss;
  may = ap (may_begin st) (sym (same_head e)) ∙ m;
  split = refl;
  first = d;
  rest = r;
}

pub may_be_begun : {begin : Place} {st : Standing} {before : List Statement} {t : Token} {ts us : List Token} → ts ≡ t ∷ us → (t.kind ≡ kind.CloseBrace → ⊥) → (t.kind ≡ kind.Semicolon → ⊥)
    → Can (Collects begin st before) ts → may_begin st t ≡ true
may_be_begun e f g w = (goes_on e f g w.reads.reads).may

collects_another : {begin : Place} {st : Standing} {before : List Statement} {t : Token} {ts us : List Token} → ts ≡ t ∷ us → (t.kind ≡ kind.CloseBrace → ⊥) → (t.kind ≡ kind.Semicolon → ⊥)
    → Can (Collects begin st before) ts → Can (CollectsAnother begin before) ts
collects_another {before = before} e f g w =
    let k = goes_on e f g w.reads.reads in
    record {
      value = w.value;
      rest = w.rest;
      reads = record {
        statement = k.statement;
        behind = k.behind;
        first = k.first;
        others = record {
          values = k.others;
          close = w.reads.close;
          reads = k.rest;
          place_is = w.reads.place_is;
          whole = w.reads.whole ∙ ap (λ l. before ++ l) k.split ∙ sym (append_assoc before (k.statement ∷ []) k.others);
        };
      };
    }

pub another_ends : (begin : Place) (st : Standing) (before : List Statement) {t : Token} {ts us : List Token} → ts ≡ t ∷ us → (t.kind ≡ kind.CloseBrace → ⊥) → (t.kind ≡ kind.Semicolon → ⊥) → may_begin st t ≡ true
    → (r : Result (Body × Bor (List Token)) (Fail NotBuilt)) → Answers (CollectsAnother begin before) ts r → Answers (Collects begin st before) ts r
another_ends begin st before e f g m (Ok p) d =
    let values : List Statement = d.statement ∷ d.others.values in
    record {
      values = values;
      close = d.others.close;
      reads = subst (λ l. ReadsStatements st l values d.others.close p.1.now) (sym e) (another m (statement_along e d.first) d.others.reads);
      place_is = d.others.place_is;
      whole = d.others.whole ∙ append_assoc before (d.statement ∷ []) d.others.values;
    }
another_ends begin st before e f g m (Err cause) d = fails_by (collects_another e f g) d

pub another_reads : {begin : Place} {before : List Statement} {ts : List Token} → Can (CollectsAnother begin before) ts → Can ReadsStatement ts
another_reads w = record { value = w.reads.statement; rest = w.reads.behind; reads = w.reads.first }

collects_behind : {begin : Place} {before : List Statement} {ts us : List Token} {s : Statement} → ReadsStatement ts s us → Can (CollectsAnother begin before) ts → Can (Collects begin standing.Behind (before ++ s ∷ [])) us
collects_behind {begin = begin} {before = before} {us = us} {s = s} d w =
    let e = one_statement d w.reads.first in
    let P : Statement → List Token → Type 0 = λ x l. Collects begin standing.Behind (before ++ x ∷ []) l w.value w.rest in
    record {
      value = w.value;
      rest = w.rest;
      reads = subst (λ (x : Statement). P x us) (sym e.0) (subst (P w.reads.statement) (sym e.1) w.reads.others);
    }

another_answers : (begin : Place) (before : List Statement) {ts us : List Token} {s : Statement} → ReadsStatement ts s us → (r : Result (Body × Bor (List Token)) (Fail NotBuilt))
    → Answers (Collects begin standing.Behind (before ++ s ∷ [])) us r → Answers (CollectsAnother begin before) ts r
another_answers begin before {us = us} {s = s} h (Ok p) d = record { statement = s; behind = us; first = h; others = d }
another_answers begin before h (Err cause) d = fails_by (collects_behind h) d

pub statement_ends : (begin : Place) (before after : List Statement) {ts us : List Token} {s : Statement} → ReadsStatement ts s us → after ≡ before ++ s ∷ [] → (r : Result (Body × Bor (List Token)) (Fail NotBuilt))
    → Answers (Collects begin standing.Behind after) us r → Answers (CollectsAnother begin before) ts r
statement_ends begin before after {us = us} h e r d = another_answers begin before h r (subst (λ x. Answers (Collects begin standing.Behind x) us r) e d)

-- ---- a file

pub record BlockRest (ts : List Token) : Type 0 where
  pub statements : List Statement
  pub close : Place
  pub reads : ReadsStatements standing.First ts statements close []

pub record SourceRest (ts : List Token) : Type 0 where
  pub parts : Then (Stands kind.Fun) (λ a t1. Then (Stands kind.Main) (λ b t2. Then (Stands kind.OpenRound) (λ c t3. Then (Stands kind.CloseRound) (λ d t4. Then (Stands kind.OpenBrace) (λ e t5. BlockRest t5) t4) t3) t2) t1) ts

source_of : {ts : List Token} {s : Source} → Derives ts s → SourceRest ts
source_of (one {ss = ss} {close = close} h1 h2 h3 h4 h5 r) = record {
  parts = record {
    value = _;
    rest = _;
    first = record { here = refl; kind_is = h1 };
    others =
        record {
          value = _;
          rest = _;
          first = record { here = refl; kind_is = h2 };
          others =
              record {
                value = _;
                rest = _;
                first = record { here = refl; kind_is = h3 };
                others =
                    record {
                      value = _;
                      rest = _;
                      first = record { here = refl; kind_is = h4 };
                      others =
                          record {
                            value = _;
                            rest = _;
                            first = record { here = refl; kind_is = h5 };
                            others =
                                record { statements = ss; close = close; reads = r };
                          };
                    };
              };
        };
  };
}

pub source_parts : {ts : List Token} → CanDerive ts → SourceRest ts
source_parts w = source_of w.derives

pub block_can : {begin : Place} {ts : List Token} {before : List Statement} → before ≡ [] → BlockRest ts → Can (Collects begin standing.First before) ts
block_can {begin = begin} n w = record {
  value = body_with (joined begin w.close) w.statements;
  rest = [];
  reads = record { values = w.statements; close = w.close; reads = w.reads; place_is = refl; whole = ap (λ l. l ++ w.statements) (sym n) };
}

pub nothing_behind : {begin : Place} {ts us : List Token} {before : List Statement} {b : Body} → Collects begin standing.First before ts b us → BlockRest ts → length us ≡ 0
nothing_behind d w = ap length (one_statements d.reads w.reads).2

nil_of : {A : Type 0} (xs : List A) → length xs ≡ 0 → xs ≡ []
nil_of [] e = refl
nil_of (x ∷ xs) e = absurd (omega (arith, e))

same_source : (name : Place) {p p' : Place} {ss ss' : List Statement} → p ≡ p' → ss ≡ ss'
    → (let s : Source = record { name = name; body = p; statements = ss } in s) ≡ (record { name = name; body = p'; statements = ss' })
same_source name p q = cc

pub file_derives : {ts t1 t2 t3 t4 t5 t6 : List Token} {a b c d e : Token} {body : Body} {before : List Statement} → Stands kind.Fun ts a t1 → Stands kind.Main t1 b t2 → Stands kind.OpenRound t2 c t3
    → Stands kind.CloseRound t3 d t4 → Stands kind.OpenBrace t4 e t5 → before ≡ [] → Collects e.place standing.First before t5 body t6 → length t6 ≡ 0
    → Derives ts (record { name = b.place; body = body.place; statements = body.statements })
file_derives {ts = ts} {t5 = t5} {t6 = t6} {a = a} {b = b} {c = c} {d = d} {e = e} {body = body} p q r s v n w z =
    let whole : ts ≡ a ∷ b ∷ c ∷ d ∷ e ∷ t5 = p.here ∙ ap (λ l. a ∷ l) (q.here ∙ ap (λ l. b ∷ l) (r.here ∙ ap (λ l. c ∷ l) (s.here ∙ ap (λ l. d ∷ l) v.here))) in
    let reads = subst (λ l. ReadsStatements standing.First t5 w.values w.close l) (nil_of t6 z) w.reads in
    subst (λ x. Derives ts x) (sym (same_source b.place w.place_is (w.whole ∙ ap (λ l. l ++ w.values) n)))
    (subst (λ l. Derives l (record { name = b.place; body = joined e.place w.close; statements = w.values })) (sym whole)
    (one p.kind_is q.kind_is r.kind_is s.kind_is v.kind_is reads))

-- a list of tokens has one derivation at most
pub one_source : {ts : List Token} {s s' : Source} → Derives ts s → Derives ts s' → s ≡ s'
one_source (one {b = b} {e = e} h1 h2 h3 h4 h5 r) (one k1 k2 k3 k4 k5 r') =
    let l = one_statements r r' in
    same_source b.place (ap (joined e.place) l.1) l.0
