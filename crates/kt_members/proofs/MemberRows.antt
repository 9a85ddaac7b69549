-- The steps of the functions that read members.
use Rattle.std.proofs.Common.{◌≡◌, ℕ, ◌≤◌, max, Bool, true, false, List, [], ◌∷◌, ◌++◌, length, drop, Result, Ok, Err, Option, Some, None, refl, sym, ap, ◌∙◌, arith, true≢false}
use Rattle.grammars.specs.Grammar.{Part, next, row, both, choose, guard, Cst, none, leaf, node, pair, left, right, first, test, Derives, d_nothing, d_one, d_row, d_both, d_right, d_guard, Reads, r_row, Productive}
use Rattle.kc_text.specs.declared.errors.Fail.{Fail}
use Rattle.kc_tree.specs.declared.decl.Member.{Member}
use Rattle.kc_tree.specs.declared.decl.MemberKind.TheVariants as member_kind
use Rattle.kc_tree.specs.declared.expr.Expr.{Expr}
use Rattle.kc_tree.specs.declared.fault.Span.{Span}
use Rattle.kt_bodies.proofs.Sequences.{IsSequence, turn_part}
use Rattle.kt_lexer.specs.declared.token.Token.{Token}
use Rattle.kt_lexer.specs.declared.token.TokenKind.TheVariants as kind
use Rattle.kt_lexer.specs.declared.token.Keyword.TheVariants as keyword
use Rattle.kt_lexer.specs.declared.token.Operator.TheVariants as operator
use Rattle.kt_members.specs.Members.{begins_init, init_block, init_of, to_brace, before_brace, members_in}
use Rattle.kt_members.proofs.Choices.{taken_left, taken_right, of_row}
use Rattle.kt_members.proofs.PropertyRows.{has_behind_word}
use Rattle.kt_grammar.specs.declared.cursor.Cursor.{Cursor}
use Rattle.kt_grammar.specs.Built as expressions
use Rattle.kt_grammar.specs.DeclarationsBuilt as built
use Rattle.kt_grammar.specs.Moves.{Moved}
use Rattle.kt_grammar.specs.Parsed.{Advanced, Advances}
use Rattle.kt_grammar.specs.Rows as rows
use Rattle.kt_grammar.specs.Rows.{Row, grammar, op}
use Rattle.kt_grammar.specs.Tokens.{is_op, is_init, marked}
use Rattle.kt_grammar.specs.TypesBuilt.{no_span}
use Rattle.kt_grammar.proofs.Extents.{between_is}
use Rattle.kt_grammar.proofs.Progress.{goes_on}
use Rattle.kt_grammar.proofs.Steps.{has_both, read_one, read_both, read_row}
use Rattle.kt_grammar.proofs.TypeRows.{stretch, has_op}

-- ---- an `init` block

init_alike : {s u : Span} {xs ys : List Expr} → s ≡ u → xs ≡ ys → (let m : Member = record { span = s; mods = []; kind = member_kind.Init xs } in m) ≡ record { span = u; mods = []; kind = member_kind.Init ys }
init_alike f g = cc

pub init_from : {ts : List Token} {start mid end : Cursor} {s : Span} {xs : List Expr} {y : Member} → Moved is_init ts start mid → Advanced (row rows.block) expressions.block_statements ts mid end xs → s ≡ stretch ts start.at end.at
    → y ≡ record { span = s; mods = []; kind = member_kind.Init xs } → Advanced init_block init_of ts start end y
init_from o p f i =
    let whole = read_both (read_one o.taken) p.read in
    record {
      tree = pair (leaf o.taken.token) p.tree;
      looked = max 0 p.looked;
      read = whole;
      builds = i ∙ init_alike (f ∙ between_is (goes_on refl whole) whole (goes_on refl whole) whole) p.builds;
      so_far = omega (arith, o.so_far, p.so_far);
    }

-- ---- a member

no_init : (o : Option Token) → test (begins_init rows.in_interface) o ≡ true → ⊥
no_init None h = true≢false (sym h)
no_init (Some t) h = true≢false (sym h)

abbrev in_body : Cst Token → Member
in_body c = built.member_of (node c)

pub member_init : (site : rows.Site) (ts : List Token) (start : Cursor) → start.at ≤ length ts → test (begins_init site) (first (drop start.at ts)) ≡ true → (r : Result (Member × Cursor) (Fail ℕ))
    → Advances init_block init_of ts start r → Advances (row (rows.member site)) built.member_of ts start r
member_init rows.top_level ts start w h r p =
    of_row (rows.member rows.top_level) (choose (next is_init) init_block (row (rows.modified_member false rows.top_level))) refl in_body built.member_of (λ us rest c d. refl) ts start r
    (taken_left is_init init_block (row (rows.modified_member false rows.top_level)) init_of in_body (λ us rest c d. refl) ts start w h r p)
member_init rows.in_class ts start w h r p =
    of_row (rows.member rows.in_class) (choose (next is_init) init_block (row (rows.modified_member false rows.in_class))) refl in_body built.member_of (λ us rest c d. refl) ts start r
    (taken_left is_init init_block (row (rows.modified_member false rows.in_class)) init_of in_body (λ us rest c d. refl) ts start w h r p)
member_init rows.in_interface ts start w h r p = absurd (no_init (first (drop start.at ts)) h)

modified_is : (us rest : List Token) (c : Cst Token) → Reads grammar (row (rows.modified_member false rows.in_interface)) us c rest → built.modified_of c ≡ in_body c
modified_is us rest _ (r_row d) = refl

pub member_modified : (site : rows.Site) (ts : List Token) (start : Cursor) → start.at ≤ length ts → test (begins_init site) (first (drop start.at ts)) ≡ false → (r : Result (Member × Cursor) (Fail ℕ))
    → Advances (row (rows.modified_member false site)) built.modified_of ts start r → Advances (row (rows.member site)) built.member_of ts start r
member_modified rows.top_level ts start w h r p =
    of_row (rows.member rows.top_level) (choose (next is_init) init_block (row (rows.modified_member false rows.top_level))) refl in_body built.member_of (λ us rest c d. refl) ts start r
    (taken_right is_init init_block (row (rows.modified_member false rows.top_level)) built.modified_of in_body (λ us rest c d. refl) ts start w h r p)
member_modified rows.in_class ts start w h r p =
    of_row (rows.member rows.in_class) (choose (next is_init) init_block (row (rows.modified_member false rows.in_class))) refl in_body built.member_of (λ us rest c d. refl) ts start r
    (taken_right is_init init_block (row (rows.modified_member false rows.in_class)) built.modified_of in_body (λ us rest c d. refl) ts start w h r p)
member_modified rows.in_interface ts start w h r p =
    of_row (rows.member rows.in_interface) (row (rows.modified_member false rows.in_interface)) refl built.modified_of built.member_of modified_is ts start r p

-- ---- the list

-- `val` behind a line's end
abbrev val_token : Token
val_token = record { kind = kind.Word keyword.Val; span = no_span; marked = true }

-- a derivation that begins with it
abbrev BeginsLine : Part Row Token → Type 0
BeginsLine a = (us : List Token) × (c : Cst Token) × Derives grammar a (val_token ∷ us) c []

a_property : (site : rows.Site) → BeginsLine (row (rows.property false site))
a_property site = let k = has_behind_word false false site in (k.0, node (right (pair (leaf val_token) k.1)), d_row (d_right (d_both (d_one refl) k.2)))

a_modified : (site : rows.Site) → BeginsLine (row (rows.modified_member false site))
a_modified site = let k = a_property site in (k.0, node (right (right (right k.1))), d_row (d_right (d_right (d_right k.2))))

a_member : (site : rows.Site) → BeginsLine (row (rows.member site))
a_member rows.top_level = let k = a_modified rows.top_level in (k.0, node (right k.1), d_row (d_right k.2))
a_member rows.in_class = let k = a_modified rows.in_class in (k.0, node (right k.1), d_row (d_right k.2))
a_member rows.in_interface = let k = a_modified rows.in_interface in (k.0, node k.1, d_row k.2)

val_begins : (site : rows.Site) → marked (rows.begins_member site) val_token ≡ true
val_begins rows.top_level = refl
val_begins rows.in_class = refl
val_begins rows.in_interface = refl

has_marked_turn : (site : rows.Site) → Productive grammar (guard (next (marked (rows.begins_member site))) (turn_part (rows.member site) (rows.after_member site)))
has_marked_turn site = let k = a_member site in (val_token ∷ k.0, node (pair k.1 (node (right none))), d_guard (val_begins site) (d_both k.2 (d_row (d_right d_nothing))) (omega arith))

pub members_list : (site : rows.Site) → IsSequence (rows.members site) (rows.more_members site) (rows.after_member site) (rows.member site) (rows.begins_member site) (marked (rows.begins_member site))
    (λ c. built.member_of c ∷ []) built.members_of built.more_members_of built.members_behind
members_list site = record {
  rule = refl;
  rule_more = refl;
  rule_after = refl;
  takes = refl;
  productive = has_marked_turn site;
  none_is = refl;
  some_is = λ c d. refl;
  more_none = refl;
  more_again = λ s d. refl;
  more_some = λ c d. refl;
  behind_none = refl;
  behind_again = λ s d. refl;
  behind_some = λ c d. refl;
}

-- a member at the list's end
pub member_more : (site : rows.Site) (xs ys : List Member) {ts : List Token} {start end : Cursor} {x : Member} → Advanced (row (rows.member site)) built.member_of ts start end x → ys ≡ xs ++ x ∷ []
    → Advanced (row (rows.member site)) (λ c. xs ++ built.member_of c ∷ []) ts start end ys
member_more site xs ys p i = record { tree = p.tree; looked = p.looked; read = p.read; builds = i ∙ ap (λ (x : Member). xs ++ x ∷ []) p.builds; so_far = p.so_far }

-- ---- braces

pub has_to_brace : (site : rows.Site) → Productive grammar (to_brace site)
has_to_brace site = has_both {a = row (rows.members site)} ([], node (right none), d_row (d_right d_nothing)) (has_op operator.CloseBrace)

pub closed_by : (site : rows.Site) {ts : List Token} {start mid end : Cursor} {xs : List Member} → Advanced (row (rows.members site)) built.members_of ts start mid xs → Moved (is_op operator.CloseBrace) ts mid end
    → Advanced (to_brace site) before_brace ts start end xs
closed_by site p o = record { tree = pair p.tree (leaf o.taken.token); looked = max p.looked 0; read = read_both p.read (read_one o.taken); builds = p.builds; so_far = omega (arith, p.so_far, o.so_far) }

pub in_braces : (site : rows.Site) {ts : List Token} {start next end : Cursor} {xs : List Member} → Moved (is_op operator.OpenBrace) ts start next → Advanced (to_brace site) before_brace ts next end xs
    → Advanced (row (rows.class_body site)) members_in ts start end xs
in_braces site o p = record {
  tree = node (pair (leaf o.taken.token) p.tree);
  looked = max 0 p.looked;
  read = read_row {n = rows.class_body site} (read_both (read_one o.taken) p.read);
  builds = p.builds;
  so_far = omega (arith, o.so_far, p.so_far);
}
