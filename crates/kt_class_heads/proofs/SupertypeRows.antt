-- The steps of the functions that read supertypes.
use Rattle.std.proofs.Common.{◌≡◌, ℕ, ◌≤◌, max, Bool, true, false, List, [], ◌∷◌, ◌++◌, length, drop, Result, Ok, Err, Option, refl, sym, ap, ◌∙◌, arith, append_assoc, append-nil}
use Rattle.grammars.specs.Grammar.{Part, next, row, guard, Cst, none, leaf, node, pair, left, right, first, test, d_nothing, d_one, d_row, d_both, d_right, d_done, d_guard, Reads, r_nothing, r_both, r_left, r_right, Productive}
use Rattle.kc_text.specs.declared.errors.Fail.{Fail}
use Rattle.kc_tree.specs.declared.decl.Super.{Super}
use Rattle.kc_tree.specs.declared.expr.Arg.{Arg}
use Rattle.kc_tree.specs.declared.fault.Span.{Span}
use Rattle.kc_tree.specs.declared.types.«Type».{«Type»}
use Rattle.kt_class_heads.specs.Supertypes.{behind_comma, behind_comma_of, some_supertypes, some_supertypes_of}
use Rattle.kt_lexer.specs.declared.token.Token.{Token}
use Rattle.kt_lexer.specs.declared.token.Operator.TheVariants as operator
use Rattle.kt_grammar.specs.declared.cursor.Cursor.{Cursor}
use Rattle.kt_grammar.specs.DeclarationsBuilt as built
use Rattle.kt_grammar.specs.Moves.{Moved}
use Rattle.kt_grammar.specs.Parsed.{Advanced, Halts, Advances}
use Rattle.kt_grammar.specs.Rows as rows
use Rattle.kt_grammar.specs.Rows.{Row, grammar, begins_supertype}
use Rattle.kt_grammar.specs.Tokens.{is_op}
use Rattle.kt_grammar.specs.TypesBuilt as types_built
use Rattle.kt_grammar.proofs.Advances.{read_guard, refused_guard, halts_as, halts_row, halts_left, halts_first, halts_second, halts_after}
use Rattle.kt_grammar.proofs.Extents.{between_is}
use Rattle.kt_grammar.proofs.Progress.{goes_on}
use Rattle.kt_grammar.proofs.SingleTokens.{a_name}
use Rattle.kt_grammar.proofs.Steps.{standing, read_one, read_both, read_row, read_first, read_second, read_nothing}
use Rattle.kt_grammar.proofs.TypeRows.{stretch}

pub has_no_comma : Productive grammar behind_comma
has_no_comma = ([], right none, d_right d_nothing)

super_alike : {s u : Span} {x y : «Type»} {a b : Option (List Arg)} → s ≡ u → x ≡ y → a ≡ b → (let c : Super = record { span = s; ty = x; args = a } in c) ≡ record { span = u; ty = y; args = b }
super_alike f g h = cc

pub supertype_from : (xs ys : List Super) {ts : List Token} {start mid end : Cursor} {s : Span} {x : «Type»} {a : Option (List Arg)} → Advanced (row rows.type_) types_built.type_of ts start mid x
    → Advanced rows.written_arguments built.written_arguments_of ts mid end a → s ≡ stretch ts start.at end.at → ys ≡ xs ++ record { span = s; ty = x; args = a } ∷ []
    → Advanced (row rows.supertype) (λ c. xs ++ built.supertype_of c) ts start end ys
supertype_from xs ys p q f g =
    let whole = read_both p.read q.read in
    record {
      tree = node (pair p.tree q.tree);
      looked = max p.looked q.looked;
      read = read_row whole;
      builds = g ∙ ap (λ c. xs ++ c ∷ []) (super_alike (f ∙ between_is (goes_on refl whole) whole (goes_on refl whole) whole) p.builds q.builds);
      so_far = omega (arith, p.so_far, q.so_far);
    }

-- ---- further ones

halts_guard : {f : Token → Bool} {a : Part Row Token} {ts : List Token} {start : Cursor} {e : Fail ℕ} → start.at ≤ length ts → test f (first (drop start.at ts)) ≡ true → Productive grammar (guard (next f) a)
    → Halts a ts start e → Halts (guard (next f) a) ts start e
halts_guard w h p k = halts_as (λ place r. refused_guard w h p r) k

abbrev name_super : Cst Token
name_super = node (pair (node (pair (right (pair (node (pair (leaf a_name) none)) (right none))) none)) (right none))

has_further : Productive grammar (guard (next begins_supertype) some_supertypes)
has_further = (a_name ∷ [], node (pair name_super (right none)), d_guard refl (d_both (d_row (d_both (d_row (d_both (d_right (d_both (d_row (d_both (d_one refl) d_done)) (d_right d_nothing))) d_done)) (d_right d_nothing))) (d_right d_nothing)) (omega arith))

pub further_end : (xs : List Super) {ts : List Token} {start : Cursor} → start.at ≤ length ts → test begins_supertype (first (drop start.at ts)) ≡ false → Advanced (row rows.supertypes) (λ c. xs ++ built.supertypes_of c) ts start start xs
further_end xs w h = record { tree = node (right none); looked = 0; read = read_row (read_second h (read_nothing w)); builds = sym (append-nil xs); so_far = omega arith }

pub further_last : (xs ys : List Super) {ts : List Token} {start end : Cursor} → test begins_supertype (first (drop start.at ts)) ≡ true → Advanced (row rows.supertype) (λ c. xs ++ built.supertype_of c) ts start end ys
    → test (is_op operator.Comma) (first (drop end.at ts)) ≡ false → Advanced (row rows.supertypes) (λ c. xs ++ built.supertypes_of c) ts start end ys
further_last xs ys h p j = record {
  tree = node (left (node (pair p.tree (right none))));
  looked = max p.looked 0;
  read = read_row (read_first h (read_guard {a = some_supertypes} refl h (read_both p.read (read_second j (read_nothing p.read.within)))));
  builds = p.builds;
  so_far = omega (arith, p.so_far);
}

pub further_more : (xs ys : List Super) {ts : List Token} {start mid next : Cursor} → start.at ≤ length ts → test begins_supertype (first (drop start.at ts)) ≡ true → Advanced (row rows.supertype) (λ c. xs ++ built.supertype_of c) ts start mid ys
    → Moved (is_op operator.Comma) ts mid next → (r : Result (List Super × Cursor) (Fail ℕ)) → Advances (row rows.supertypes) (λ c. ys ++ built.supertypes_of c) ts next r
    → Advances (row rows.supertypes) (λ c. xs ++ built.supertypes_of c) ts start r
further_more xs ys w h p o (Ok k) q = record {
  tree = node (left (node (pair p.tree (left (pair (leaf o.taken.token) q.tree)))));
  looked = max p.looked (max 0 q.looked);
  read = read_row (read_first h (read_guard {a = some_supertypes} refl h (read_both p.read (read_first (standing o.taken) (read_both (read_one o.taken) q.read)))));
  builds = q.builds ∙ ap (λ us. us ++ built.supertypes_of q.tree) p.builds ∙ append_assoc xs (built.supertype_of p.tree) (built.supertypes_of q.tree);
  so_far = omega (arith, p.so_far, o.so_far, q.so_far);
}
further_more xs ys w h p o (Err e) q =
    halts_row (halts_left w h (halts_guard w h has_further (halts_second p.read p.so_far (halts_left p.read.within (standing o.taken) (halts_after o.taken o.so_far q)))))

pub further_halts : {ts : List Token} {start : Cursor} {e : Fail ℕ} → start.at ≤ length ts → test begins_supertype (first (drop start.at ts)) ≡ true → Halts (row rows.supertype) ts start e → Halts (row rows.supertypes) ts start e
further_halts w h q = halts_row (halts_left w h (halts_guard w h has_further (halts_first has_no_comma q)))

-- ---- behind the first one

pub no_comma : (xs : List Super) {ts : List Token} {start : Cursor} → start.at ≤ length ts → test (is_op operator.Comma) (first (drop start.at ts)) ≡ false → Advanced behind_comma (λ c. xs ++ behind_comma_of c) ts start start xs
no_comma xs w h = record { tree = right none; looked = 0; read = read_second h (read_nothing w); builds = sym (append-nil xs); so_far = omega arith }

pub comma_from : (xs : List Super) {ts : List Token} {start mid : Cursor} → start.at ≤ length ts → Moved (is_op operator.Comma) ts start mid → (r : Result (List Super × Cursor) (Fail ℕ))
    → Advances (row rows.supertypes) (λ c. xs ++ built.supertypes_of c) ts mid r → Advances behind_comma (λ c. xs ++ behind_comma_of c) ts start r
comma_from xs w o (Ok k) q = record {
  tree = left (pair (leaf o.taken.token) q.tree);
  looked = max 0 q.looked;
  read = read_first (standing o.taken) (read_both (read_one o.taken) q.read);
  builds = q.builds;
  so_far = omega (arith, o.so_far, q.so_far);
}
comma_from xs w o (Err e) q = halts_left w (standing o.taken) (halts_after o.taken o.so_far q)

pub some_from : (xs ys : List Super) {ts : List Token} {start mid : Cursor} → xs ≡ [] → Advanced (row rows.supertype) (λ c. xs ++ built.supertype_of c) ts start mid ys → (r : Result (List Super × Cursor) (Fail ℕ))
    → Advances behind_comma (λ c. ys ++ behind_comma_of c) ts mid r → Advances some_supertypes some_supertypes_of ts start r
some_from xs ys e p (Ok k) q = record {
  tree = pair p.tree q.tree;
  looked = max p.looked q.looked;
  read = read_both p.read q.read;
  builds = q.builds ∙ ap (λ us. us ++ behind_comma_of q.tree) (p.builds ∙ ap (λ us. us ++ built.supertype_of p.tree) e);
  so_far = omega (arith, p.so_far, q.so_far);
}
some_from xs ys e p (Err x) q = halts_second p.read p.so_far q

-- ---- all of them

some_built : {ts r : List Token} {c : Cst Token} (t : Cst Token) → Reads grammar some_supertypes ts c r → some_supertypes_of c ≡ built.supers_of (left (pair t c))
some_built t (r_both {x = x} d (r_left h (r_both e f))) = refl
some_built t (r_both {x = x} d (r_right h r_nothing)) = append-nil (built.supertype_of x)

pub no_supers : (xs : List Super) {ts : List Token} {start : Cursor} → start.at ≤ length ts → test (is_op operator.Colon) (first (drop start.at ts)) ≡ false → xs ≡ [] → Advanced rows.supers built.supers_of ts start start xs
no_supers xs w h e = record { tree = right none; looked = 0; read = read_second h (read_nothing w); builds = e; so_far = omega arith }

pub supers_from : {ts : List Token} {start mid : Cursor} → start.at ≤ length ts → Moved (is_op operator.Colon) ts start mid → (r : Result (List Super × Cursor) (Fail ℕ))
    → Advances some_supertypes some_supertypes_of ts mid r → Advances rows.supers built.supers_of ts start r
supers_from w o (Ok k) q = record {
  tree = left (pair (leaf o.taken.token) q.tree);
  looked = max 0 q.looked;
  read = read_first (standing o.taken) (read_both (read_one o.taken) q.read);
  builds = q.builds ∙ some_built (leaf o.taken.token) q.read.reads;
  so_far = omega (arith, o.so_far, q.so_far);
}
supers_from w o (Err e) q = halts_left w (standing o.taken) (halts_after o.taken o.so_far q)
