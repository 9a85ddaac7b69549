-- Readings of expressions: there is one at most, and how they follow from those of the parts.
use Rattle.std.proofs.Common.{◌≡◌, ℕ, Bool, true, false, true≢false, List, ◌∷◌, length, Option, Some, None, Result, Ok, Err, refl, sym, ap, subst, ◌∙◌, arith}
use Rattle.std.proofs.lemmas.Bool.{eqb-true}
use denote.Ref.{Bor}
use Rattle.kc_text.specs.declared.errors.Fail.{Fail}
use Rattle.form_parser.specs.declared.tokens.NotBuilt.{NotBuilt}
use Rattle.form_parser.specs.declared.tokens.TokenKind.{TokenKind}
use Rattle.form_parser.specs.declared.tokens.TokenKind.TheVariants as kind
use Rattle.form_parser.specs.declared.tokens.Token.{Token}
use Rattle.form_parser.specs.declared.expressions.Expected.{Expected}
use Rattle.form_parser.specs.declared.expressions.Expected.TheVariants as expected
use Rattle.form_parser.specs.declared.operators.Level.{Level}
use Rattle.form_parser.specs.declared.operators.Level.TheVariants as level
use Rattle.form_parser.specs.declared.operators.Operator.{Operator}
use Rattle.form_parser.specs.declared.operators.Prefix.{Prefix}
use Rattle.form_parser.specs.declared.operators.Prefix.TheVariants as sign
use Rattle.form_parser.specs.declared.surface.Expression.{Expression}
use Rattle.form_parser.specs.Grammar.{kind_of, is_kind, is_widest, operator_at, first_operator, prefix_of, leaf, leaf_of, Row, chain, more, prefix, primary, operand, behind, binary, prefixed, least, bracketed, Reads, a_chain, one_more, no_more, ended, a_prefix, the_least, unsigned, a_leaf, brackets}
use Rattle.form_parser.specs.Parsed.{Fails, refuted, no_memory, Can, Answers, Stands, StandsUnmarked, IsOperator, IsPrefix, IsLeast}

-- ---- the measures of the rows

abbrev pub operand_rank : Level → ℕ
operand_rank level.Or = 13
operand_rank level.And = 11
operand_rank level.Equality = 9
operand_rank level.Comparison = 7
operand_rank level.Additive = 5
operand_rank level.Multiplicative = 3

abbrev pub chain_rank : Level → ℕ
chain_rank level.Or = 14
chain_rank level.And = 12
chain_rank level.Equality = 10
chain_rank level.Comparison = 8
chain_rank level.Additive = 6
chain_rank level.Multiplicative = 4

-- ---- general

pub fails_by : {P Q : Type 0} {cause : Fail NotBuilt} → (P → Q) → Fails Q cause → Fails P cause
fails_by f (refuted never) = refuted (λ p. never (f p))
fails_by f no_memory = no_memory

abbrev pub Both : {A B : Type 0} → A → A → B → B → Type 0
Both a a' b b' = (a ≡ a') × (b ≡ b')

pub same_head : {A : Type 0} {x y : A} {xs ys : List A} → x ∷ xs ≡ y ∷ ys → x ≡ y
same_head e = cc

pub same_tail : {A : Type 0} {x y : A} {xs ys : List A} → x ∷ xs ≡ y ∷ ys → xs ≡ ys
same_tail e = cc

pub same_some : {A : Type 0} {o : Option A} {a b : A} → o ≡ Some a → o ≡ Some b → a ≡ b
same_some p q = cc

pub none_or_some : {A : Type 0} {o : Option A} {a : A} → o ≡ None → o ≡ Some a → ⊥
none_or_some p q = cc

-- ---- kinds that differ

prefix_or_leaf : (t : Token) {o : Prefix} {a : Expression} → prefix_of t.kind ≡ Some o → leaf_of t ≡ Some a → ⊥
prefix_or_leaf t {a = a} p q = by t.kind p q
  where
    by : (k : TokenKind) {o : Prefix} → prefix_of k ≡ Some o → leaf t.place k ≡ Some a → ⊥
    by kind.Minus p q = none_or_some refl q
    by kind.Not p q = none_or_some refl q
    by _ p q = none_or_some refl p

prefix_or_open : {k : TokenKind} {o : Prefix} → prefix_of k ≡ Some o → k ≡ kind.OpenRound → ⊥
prefix_or_open p q = none_or_some (ap prefix_of q) p

leaf_or_open : (t : Token) {a : Expression} → leaf_of t ≡ Some a → t.kind ≡ kind.OpenRound → ⊥
leaf_or_open t p q = none_or_some (ap (leaf t.place) q) p

minus_is_prefix : {k : TokenKind} {o : Prefix} → k ≡ kind.Minus → prefix_of k ≡ Some o → o ≡ sign.Minus
minus_is_prefix p q = same_some q (ap prefix_of p)

wide_or_prefix : {k : TokenKind} {o : Prefix} → k ≡ kind.Number 2147483648 → prefix_of k ≡ Some o → ⊥
wide_or_prefix p q = none_or_some (ap prefix_of p) q

wide_or_minus : {k : TokenKind} → k ≡ kind.Number 2147483648 → k ≡ kind.Minus → ⊥
wide_or_minus p q = cc

wide_or_leaf : (t : Token) {a : Expression} → t.kind ≡ kind.Number 2147483648 → leaf_of t ≡ Some a → ⊥
wide_or_leaf t p q = none_or_some (ap (leaf t.place) p) q

wide_or_open : {k : TokenKind} → k ≡ kind.Number 2147483648 → k ≡ kind.OpenRound → ⊥
wide_or_open p q = cc

-- ---- there is one reading at most

-- no primary begins with a prefix operator
no_prefix : {i : Bool} {t : Token} {ts us : List Token} {a : Expression} {o : Prefix} → prefix_of t.kind ≡ Some o → Reads i primary (t ∷ ts) a us → ⊥
no_prefix {t = t} h (a_leaf k) = prefix_or_leaf t h k
no_prefix h (brackets k d l) = prefix_or_open h k

no_minus : {i : Bool} {t : Token} {ts us : List Token} {a : Expression} → t.kind ≡ kind.Minus → Reads i primary (t ∷ ts) a us → ⊥
no_minus h d = no_prefix (ap prefix_of h) d

-- the widest number is nothing by itself
too_wide : {i : Bool} {t : Token} {ts us : List Token} {a : Expression} → t.kind ≡ kind.Number 2147483648 → Reads i primary (t ∷ ts) a us → ⊥
too_wide {t = t} h (a_leaf k) = wide_or_leaf t h k
too_wide h (brackets k d l) = wide_or_open h k

too_wide_signed : {i : Bool} {t : Token} {ts us : List Token} {a : Expression} → t.kind ≡ kind.Number 2147483648 → Reads i prefix (t ∷ ts) a us → ⊥
too_wide_signed h (a_prefix k d) = wide_or_prefix h k
too_wide_signed h (the_least k l) = wide_or_minus h k
too_wide_signed h (unsigned d) = too_wide h d

moved_behind : {i : Bool} (l : Level) {o o' : Operator} (a : Expression) {b b' c : Expression} {us us' vs : List Token} → o ≡ o' → b ≡ b' → us ≡ us'
    → Reads i (behind l (binary o' a b')) us' c vs → Reads i (behind l (binary o a b)) us c vs
moved_behind {i = i} l {o = o} {o' = o'} a {b = b} {b' = b'} {c = c} {us = us} {us' = us'} {vs = vs} p q r d =
    subst (λ x. Reads i (behind l (binary x a b)) us c vs) (sym p)
    (subst (λ x. Reads i (behind l (binary o' a x)) us c vs) (sym q) (subst (λ x. Reads i (behind l (binary o' a b')) x c vs) (sym r) d))

moved_rest : {i : Bool} {l : Level} {a a' c : Expression} {us us' vs : List Token} → a ≡ a' → us ≡ us'
    → Reads i (more l a') us' c vs → Reads i (more l a) us c vs
moved_rest {i = i} {l = l} {a = a} {a' = a'} {c = c} {us = us} {us' = us'} {vs = vs} q r d =
    subst (λ x. Reads i (more l x) us c vs) (sym q) (subst (λ x. Reads i (more l a') x c vs) (sym r) d)

same_bracketed : (t : Token) {u u' : Token} {a a' : Expression} → a ≡ a' → u ≡ u' → bracketed t a u ≡ bracketed t a' u'
same_bracketed t p q = cc

same_prefixed : (t : Token) {o o' : Prefix} {a a' : Expression} → o ≡ o' → a ≡ a' → prefixed t o a ≡ prefixed t o' a'
same_prefixed t {o = o} {a' = a'} p q = ap (prefixed t o) q ∙ ap (λ x. prefixed t x a') p

pub one_reading : {i : Bool} {row : Row} {ts us us' : List Token} {a a' : Expression} → Reads i row ts a us → Reads i row ts a' us' → Both a a' us us'
one_reading (a_chain d e) (a_chain d' e') = let k = one_reading d d' in one_reading e (moved_rest k.0 k.1 e')
one_reading (one_more {l = l} {a = a} o d e) (one_more o' d' e') = let k = one_reading d d' in one_reading e (moved_behind l a (same_some o o') k.0 k.1 e')
one_reading (one_more o d e) (no_more n) = absurd (none_or_some n o)
one_reading (no_more n) (one_more o d e) = absurd (none_or_some n o)
one_reading (no_more n) (no_more n') = (refl, refl)
one_reading ended ended = (refl, refl)
one_reading (a_prefix {t = t} h d) (a_prefix h' d') = let k = one_reading d d' in (same_prefixed t (same_some h h') k.0, k.1)
one_reading (a_prefix h d) (the_least h' w) = absurd (too_wide_signed w d)
one_reading (a_prefix h d) (unsigned d') = absurd (no_prefix h d')
one_reading (the_least h w) (a_prefix h' d) = absurd (too_wide_signed w d)
one_reading (the_least h w) (the_least h' w') = (refl, refl)
one_reading (the_least h w) (unsigned d') = absurd (no_minus h d')
one_reading (unsigned d) (a_prefix h' d') = absurd (no_prefix h' d)
one_reading (unsigned d) (the_least h' w') = absurd (no_minus h' d)
one_reading (unsigned d) (unsigned d') = one_reading d d'
one_reading (a_leaf h) (a_leaf h') = (same_some h h', refl)
one_reading (a_leaf {t = t} h) (brackets h' d' c') = absurd (leaf_or_open t h h')
one_reading (brackets h d c) (a_leaf {t = t} h') = absurd (leaf_or_open t h' h)
one_reading (brackets {t = t} h d c) (brackets h' d' c') = let k = one_reading d d' in (same_bracketed t k.0 (same_head k.1), same_tail k.1)

-- ---- one token

-- the test of a kind
pub kind_found : (x : Expected) (k : TokenKind) → is_kind x k ≡ true → k ≡ kind_of x
kind_found expected.Fun kind.Fun e = refl
kind_found expected.Fun _ e = absurd (true≢false (sym e))
kind_found expected.Main kind.Main e = refl
kind_found expected.Main _ e = absurd (true≢false (sym e))
kind_found expected.Name kind.Name e = refl
kind_found expected.Name _ e = absurd (true≢false (sym e))
kind_found expected.Assign kind.Assign e = refl
kind_found expected.Assign _ e = absurd (true≢false (sym e))
kind_found expected.OpenRound kind.OpenRound e = refl
kind_found expected.OpenRound _ e = absurd (true≢false (sym e))
kind_found expected.CloseRound kind.CloseRound e = refl
kind_found expected.CloseRound _ e = absurd (true≢false (sym e))
kind_found expected.OpenBrace kind.OpenBrace e = refl
kind_found expected.OpenBrace _ e = absurd (true≢false (sym e))

pub kind_missed : (x : Expected) (k : TokenKind) → is_kind x k ≡ false → k ≡ kind_of x → ⊥
kind_missed x k e p = true≢false (sym (of_kind x) ∙ ap (is_kind x) (sym p) ∙ e)
  where
    of_kind : (x : Expected) → is_kind x (kind_of x) ≡ true
    of_kind expected.Fun = refl
    of_kind expected.Main = refl
    of_kind expected.Name = refl
    of_kind expected.Assign = refl
    of_kind expected.OpenRound = refl
    of_kind expected.CloseRound = refl
    of_kind expected.OpenBrace = refl

pub widest_found : (k : TokenKind) → is_widest k ≡ true → k ≡ kind.Number 2147483648
widest_found (kind.Number n) e = ap kind.Number (eqb-true n 2147483648 e)
widest_found _ e = absurd (true≢false (sym e))

pub widest_missed : {k : TokenKind} → is_widest k ≡ false → k ≡ kind.Number 2147483648 → ⊥
widest_missed e p = true≢false (sym (ap is_widest p) ∙ e)

pub no_token : {k : TokenKind} (ts : List Token) → length ts ≡ 0 → Can (Stands k) ts → ⊥
no_token ts e w = omega (arith, e, ap length w.reads.here)

pub one_stands : {k : TokenKind} {ts us us' : List Token} {t t' : Token} → Stands k ts t us → Stands k ts t' us' → Both t t' us us'
one_stands p q = let e = sym p.here ∙ q.here in (same_head e, same_tail e)

pub other_token : {k : TokenKind} {ts us : List Token} {t : Token} → ts ≡ t ∷ us → (t.kind ≡ k → ⊥) → Can (Stands k) ts → ⊥
other_token {k = k} e differs w = differs (subst (λ (x : Token). x.kind ≡ k) (same_head (sym w.reads.here ∙ e)) w.reads.kind_is)

pub without_mark : {k : TokenKind} {ts : List Token} → Can (StandsUnmarked k) ts → Can (Stands k) ts
without_mark w = record { value = w.value; rest = w.rest; reads = record { here = w.reads.here; kind_is = w.reads.kind_is } }

pub marked_fails : {k : TokenKind} {ts us : List Token} {t : Token} → Stands k ts t us → t.marked ≡ true → Can (StandsUnmarked k) ts → ⊥
marked_fails p m w =
    let same = same_head (sym p.here ∙ w.reads.here) in
    true≢false (sym m ∙ ap (λ (x : Token). x.marked) same ∙ w.reads.unmarked)

pub unmarked_stands : {k : TokenKind} {ts us : List Token} {t : Token} → Stands k ts t us → t.marked ≡ false → StandsUnmarked k ts t us
unmarked_stands p m = record { here = p.here; kind_is = p.kind_is; unmarked = m }

pub one_unmarked : {k : TokenKind} {ts us us' : List Token} {t t' : Token} → StandsUnmarked k ts t us → StandsUnmarked k ts t' us' → Both t t' us us'
one_unmarked p q = let e = sym p.here ∙ q.here in (same_head e, same_tail e)

-- ---- the least number

pub not_minus : {t : Token} {o : Prefix} {ts : List Token} → o ≡ sign.Not → Can (IsLeast t o) ts → ⊥
not_minus e w = minus_or_not w.reads.minus e
  where
    minus_or_not : {o : Prefix} → o ≡ sign.Minus → o ≡ sign.Not → ⊥
    minus_or_not p q = cc

pub no_least : {t : Token} {o : Prefix} (ts : List Token) → length ts ≡ 0 → Can (IsLeast t o) ts → ⊥
no_least ts e w = omega (arith, e, ap length w.reads.here)

pub other_least : {t u : Token} {o : Prefix} {ts us : List Token} → ts ≡ u ∷ us → (u.kind ≡ kind.Number 2147483648 → ⊥) → Can (IsLeast t o) ts → ⊥
other_least e differs w = differs (subst (λ (x : Token). x.kind ≡ kind.Number 2147483648) (same_head (sym w.reads.here ∙ e)) w.reads.wide)

along : {i : Bool} {row : Row} {ts ts' us : List Token} {a : Expression} → ts ≡ ts' → Reads i row ts a us → Reads i row ts' a us
along {i = i} {row = row} {us = us} {a = a} e d = subst (λ l. Reads i row l a us) e d

makes : {i : Bool} {row : Row} {ts us : List Token} {a a' : Expression} → a' ≡ a → Reads i row ts a us → Reads i row ts a' us
makes {i = i} {row = row} {ts = ts} {us = us} e d = subst (λ x. Reads i row ts x us) (sym e) d

-- ---- chains

first_read : {i : Bool} {l : Level} {ts vs : List Token} {c : Expression} → Reads i (chain l) ts c vs → Can (Reads i (operand l)) ts
first_read (a_chain d e) = record { value = _; rest = _; reads = d }

pub first_of_chain : (i : Bool) (l : Level) (ts : List Token) → Can (Reads i (chain l)) ts → Can (Reads i (operand l)) ts
first_of_chain i l ts w = first_read w.reads

behind_first : {i : Bool} (l : Level) {ts us vs : List Token} {a c : Expression} → Reads i (operand l) ts a us → Reads i (chain l) ts c vs → Reads i (more l a) us c vs
behind_first l d (a_chain d' e) = let k = one_reading d d' in moved_rest k.0 k.1 e

pub chain_ends : {i : Bool} (l : Level) {ts us : List Token} {a : Expression} → Reads i (operand l) ts a us
    → (r : Result (Expression × Bor (List Token)) (Fail NotBuilt)) → Answers (Reads i (more l a)) us r → Answers (Reads i (chain l)) ts r
chain_ends l d (Ok p) e = a_chain d e
chain_ends l d (Err cause) e = fails_by (λ w. record { value = w.value; rest = w.rest; reads = behind_first l d w.reads }) e

turn_read : {i : Bool} {l : Level} {ts us vs : List Token} {a c : Expression} {o : Operator} {t : Token} → ts ≡ t ∷ us → operator_at l i t ≡ Some o
    → Reads i (more l a) ts c vs → Can (Reads i (operand l)) us
turn_read {i = i} {l = l} e h (one_more o d r) = record { value = _; rest = _; reads = along (same_tail e) d }
turn_read {i = i} {l = l} e h (no_more n) = absurd (none_or_some (ap (first_operator l i) (sym e) ∙ n) h)

pub operand_of_turn : {i : Bool} {l : Level} {ts us : List Token} {a : Expression} {o : Operator} → IsOperator l i ts o us → Can (Reads i (more l a)) ts → Can (Reads i (operand l)) us
operand_of_turn h w = turn_read h.here h.operator_is w.reads

behind_turn : {i : Bool} {l : Level} {ts us vs ws : List Token} (a : Expression) {b c : Expression} {o : Operator} {t : Token} → ts ≡ t ∷ us → operator_at l i t ≡ Some o
    → Reads i (operand l) us b vs → Reads i (more l a) ts c ws → Reads i (behind l (binary o a b)) vs c ws
behind_turn {i = i} {l = l} a e h d (one_more o' d' r) =
    let k = one_reading d (along (same_tail e) d') in
    moved_behind l a (same_some h (ap (operator_at l i) (sym (same_head e)) ∙ o')) k.0 k.1 r
behind_turn {i = i} {l = l} a e h d (no_more n) = absurd (none_or_some (ap (first_operator l i) (sym e) ∙ n) h)

pub turn_ends : {i : Bool} {l : Level} {ts us vs : List Token} (a : Expression) {b s : Expression} {o : Operator} → IsOperator l i ts o us → Reads i (operand l) us b vs → s ≡ binary o a b
    → (r : Result (Expression × Bor (List Token)) (Fail NotBuilt)) → Answers (Reads i (behind l s)) vs r → Answers (Reads i (more l a)) ts r
turn_ends {i = i} {l = l} {vs = vs} a h d e (Ok p) m =
    along (sym h.here) (one_more h.operator_is d (subst (λ x. Reads i (behind l x) vs p.0 p.1.now) e m))
turn_ends {i = i} {l = l} {vs = vs} a h d e (Err cause) m =
    fails_by (λ w. record { value = w.value; rest = w.rest; reads = subst (λ x. Reads i (behind l x) vs w.value w.rest) (sym e) (behind_turn a h.here h.operator_is d w.reads) }) m

-- a comparison is joined to no other one
pub compared : (i : Bool) (l : Level) (a : Expression) (ts : List Token) → l ≡ level.Comparison → Reads i (behind l a) ts a ts
compared i l a ts e = subst (λ x. Reads i (behind x a) ts a ts) (sym e) ended

-- ---- prefix operators

unsigned_read : {i : Bool} {ts us : List Token} {a : Expression} → (Can IsPrefix ts → ⊥) → Reads i prefix ts a us → Can (Reads i primary) ts
unsigned_read never (a_prefix {t = t} {ts = ts} {o = o} h d) = absurd (never (record { value = (t, o); rest = ts; reads = record { here = refl; prefix_is = h } }))
unsigned_read never (the_least {t = t} {u = u} {ts = ts} h w) = absurd (never (record { value = (t, sign.Minus); rest = u ∷ ts; reads = record { here = refl; prefix_is = ap prefix_of h } }))
unsigned_read never (unsigned d) = record { value = _; rest = _; reads = d }

pub without_prefix : (i : Bool) (ts : List Token) → (Can IsPrefix ts → ⊥)
    → (r : Result (Expression × Bor (List Token)) (Fail NotBuilt)) → Answers (Reads i primary) ts r → Answers (Reads i prefix) ts r
without_prefix i ts never (Ok p) d = unsigned d
without_prefix i ts never (Err cause) d = fails_by (λ w. unsigned_read never w.reads) d

is_minus : (t : Token) {o : Prefix} → prefix_of t.kind ≡ Some o → o ≡ sign.Minus → t.kind ≡ kind.Minus
is_minus t p q = by t.kind (p ∙ ap Some q)
  where
    by : (k : TokenKind) → prefix_of k ≡ Some sign.Minus → k ≡ kind.Minus
    by kind.Minus e = refl
    by kind.Not e = absurd (cc)
    by _ e = absurd (none_or_some refl e)

pub least_read : {i : Bool} {ts us vs : List Token} {t : Token} {o : Prefix} {a : Expression} → IsPrefix ts (t, o) us → IsLeast t o us a vs → Reads i prefix ts a vs
least_read {i = i} {ts = ts} {us = us} {vs = vs} {t = t} h k =
    along (sym h.here) (along (ap (λ l. t ∷ l) (sym k.here)) (makes k.value (the_least (is_minus t h.prefix_is k.minus) k.wide)))

pub prefixed_read : {i : Bool} {ts us vs : List Token} {t : Token} {o : Prefix} {a s : Expression} → IsPrefix ts (t, o) us → Reads i prefix us a vs → s ≡ prefixed t o a → Reads i prefix ts s vs
prefixed_read h d e = along (sym h.here) (makes e (a_prefix h.prefix_is d))

signed_read : {i : Bool} {ts us vs : List Token} {t : Token} {o : Prefix} {a : Expression} → ts ≡ t ∷ us → prefix_of t.kind ≡ Some o → (Can (IsLeast t o) us → ⊥) → Reads i prefix ts a vs → Can (Reads i prefix) us
signed_read e h never (a_prefix k d) = record { value = _; rest = _; reads = along (same_tail e) d }
signed_read {t = t} {o = o} e h never (the_least {u = u} {ts = ts} k w) = absurd (never (record {
  value = least t u;
  rest = ts;
  reads = record {
    token = u;
    here = sym (same_tail e);
    wide = w;
    minus = minus_is_prefix (subst (λ (x : Token). x.kind ≡ kind.Minus) (same_head e) k) h;
    value = refl;
  };
}))
signed_read e h never (unsigned d) = absurd (no_prefix h (along e d))

pub behind_prefix : {i : Bool} {ts us : List Token} {t : Token} {o : Prefix} → IsPrefix ts (t, o) us → (Can (IsLeast t o) us → ⊥) → Can (Reads i prefix) ts → Can (Reads i prefix) us
behind_prefix h never w = signed_read h.here h.prefix_is never w.reads

-- ---- primaries

pub leaf_read : (i : Bool) {t : Token} {ts us : List Token} {a : Expression} → ts ≡ t ∷ us → leaf_of t ≡ Some a → Reads i primary ts a us
leaf_read i e h = along (sym e) (a_leaf h)

no_tokens : {i : Bool} {ts us : List Token} {a : Expression} → length ts ≡ 0 → Reads i primary ts a us → ⊥
no_tokens e (a_leaf h) = absurd (omega (arith, e))
no_tokens e (brackets k d l) = absurd (omega (arith, e))

pub primary_takes : (i : Bool) (ts : List Token) → length ts ≡ 0 → Can (Reads i primary) ts → ⊥
primary_takes i ts e w = no_tokens e w.reads

no_leaf : {i : Bool} {t : Token} {ts us vs : List Token} {a : Expression} → ts ≡ t ∷ us → leaf_of t ≡ None → (t.kind ≡ kind.OpenRound → ⊥) → Reads i primary ts a vs → ⊥
no_leaf {t = t} e n differs (a_leaf h) = none_or_some n (ap leaf_of (sym (same_head e)) ∙ h)
no_leaf e n differs (brackets h d c) = differs (subst (λ (x : Token). x.kind ≡ kind.OpenRound) (same_head e) h)

pub nothing_begins : (i : Bool) {t : Token} {ts us : List Token} → ts ≡ t ∷ us → leaf_of t ≡ None → (t.kind ≡ kind.OpenRound → ⊥) → Can (Reads i primary) ts → ⊥
nothing_begins i {t = t} e n differs w = no_leaf {t = t} e n differs w.reads

pub moved_to : (i : Bool) (row : Row) {ts ts' : List Token} → ts' ≡ ts → (r : Result (Expression × Bor (List Token)) (Fail NotBuilt)) → Answers (Reads i row) ts r → Answers (Reads i row) ts' r
moved_to i row e r d = subst (λ l. Answers (Reads i row) l r) (sym e) d

inner_read : {i : Bool} {t : Token} {ts vs : List Token} {a : Expression} → t.kind ≡ kind.OpenRound → Reads i primary (t ∷ ts) a vs
    → (b : Expression) × (u : Token) × (us : List Token) × Reads true (chain level.Or) ts b (u ∷ us) × (u.kind ≡ kind.CloseRound)
inner_read {t = t} h (a_leaf k) = absurd (leaf_or_open t k h)
inner_read h (brackets k d l) = (_, _, _, d, l)

pub within_brackets : (i : Bool) {t : Token} {ts : List Token} → t.kind ≡ kind.OpenRound → Can (Reads i primary) (t ∷ ts) → Can (Reads true (chain level.Or)) ts
within_brackets i h w = let k = inner_read h w.reads in record { value = k.0; rest = k.1 ∷ k.2; reads = k.3 }

-- behind an expression in brackets stands the closing one
pub closing : (i : Bool) {t : Token} {ts us : List Token} {a : Expression} → t.kind ≡ kind.OpenRound → Reads true (chain level.Or) ts a us → Can (Reads i primary) (t ∷ ts) → Can (Stands kind.CloseRound) us
closing i h d w =
    let k = inner_read h w.reads in
    record { value = k.1; rest = k.2; reads = record { here = (one_reading d k.3).1; kind_is = k.4 } }

pub brackets_read : (i : Bool) {t u : Token} {ts us vs : List Token} {a : Expression} → t.kind ≡ kind.OpenRound → Reads true (chain level.Or) ts a us → Stands kind.CloseRound us u vs → Reads i primary (t ∷ ts) (bracketed t a u) vs
brackets_read i {ts = ts} {a = a} h d c = brackets h (subst (λ l. Reads true (chain level.Or) ts a l) c.here d) c.kind_is
