-- The steps of the functions that read what stands behind the modifiers of a declaration.
use Rattle.std.proofs.Common.{◌≡◌, ℕ, ◌≤◌, Bool, true, false, List, [], length, drop, Result, Ok, Err, refl, sym, ap, ◌∙◌, append-nil, true≢false}
use Rattle.grammars.specs.Grammar.{Part, row, Cst, node, right, first, test, Reads, r_row, r_left, r_right}
use Rattle.kc_text.specs.declared.errors.Fail.{Fail}
use Rattle.kc_tree.specs.declared.decl.Decl.{Decl}
use Rattle.kc_tree.specs.declared.decl.DeclKind.{DeclKind}
use Rattle.kc_tree.specs.declared.fault.Span.{Span}
use Rattle.kc_tree.specs.declared.types.Mod.{Mod}
use Rattle.kt_files.specs.declared.modified.Modified.{Modified}
use Rattle.kt_files.specs.Unmodified.{class_kind, interface_kind, object_kind, function_kind, property_kind, no_interface, no_interface_of, no_class, no_class_of, unmodified, unmodified_of, with_mods, modified_behind}
use Rattle.kt_files.proofs.ModifierRows.{not_abstract, not_enum, not_plain, modified_alike}
use Rattle.kt_lexer.specs.declared.token.Token.{Token}
use Rattle.kt_lexer.specs.declared.token.Keyword.TheVariants as keyword
use Rattle.kt_members.proofs.Choices.{built_alike}
use Rattle.kt_grammar.specs.declared.cursor.Cursor.{Cursor}
use Rattle.kt_grammar.specs.DeclarationsBuilt as built
use Rattle.kt_grammar.specs.Parsed.{Advanced, Advances}
use Rattle.kt_grammar.specs.Rows as rows
use Rattle.kt_grammar.specs.Rows.{Row, grammar, function_or_property}
use Rattle.kt_grammar.specs.Tokens.{is_modifier, is_word}
use Rattle.kt_grammar.proofs.Advances.{chosen_first, chosen_second, halts_row, halts_right}
use Rattle.kt_grammar.proofs.Extents.{between_is}
use Rattle.kt_grammar.proofs.Progress.{goes_on}
use Rattle.kt_grammar.proofs.Steps.{read_row, read_second}
use Rattle.kt_grammar.proofs.TypeRows.{stretch}

-- the value, as a case of a larger one
pub kept_as : {X Y : Type 0} (f : X → Y) {a : Part Row Token} {of : Cst Token → X} {ts : List Token} {start end : Cursor} {x : X} → Advanced a of ts start end x → Advanced a (λ c. f (of c)) ts start end (f x)
kept_as f p = record { tree = p.tree; looked = p.looked; read = p.read; builds = ap f p.builds; so_far = p.so_far }

-- ---- functions and properties

function_alike : (us rest : List Token) (c : Cst Token) → Reads grammar (row (rows.function true rows.top_level)) us c rest → function_kind c ≡ built.function_or_property_of c
function_alike us rest _ (r_row d) = refl

pub abstract_function : (b : Bool) → b ≡ true → (ts : List Token) (start : Cursor) → (r : Result (DeclKind × Cursor) (Fail ℕ)) → Advances (row (rows.function true rows.top_level)) function_kind ts start r
    → Advances (function_or_property b) built.function_or_property_of ts start r
abstract_function true e ts start r q = built_alike (row (rows.function true rows.top_level)) function_kind built.function_or_property_of function_alike ts start r q
abstract_function false e ts start r q = absurd (true≢false (sym e))

pub concrete_one : (b : Bool) → b ≡ false → (ts : List Token) (start : Cursor) → (r : Result (DeclKind × Cursor) (Fail ℕ)) → Advances (function_or_property false) built.function_or_property_of ts start r
    → Advances (function_or_property b) built.function_or_property_of ts start r
concrete_one false e ts start r q = q
concrete_one true e ts start r q = absurd (true≢false e)

module _ (ts : List Token) (start : Cursor) (w : start.at ≤ length ts) where
  pub function_chosen : test (is_word keyword.Fun) (first (drop start.at ts)) ≡ true → (r : Result (DeclKind × Cursor) (Fail ℕ)) → Advances (row (rows.function false rows.top_level)) function_kind ts start r
      → Advances (function_or_property false) built.function_or_property_of ts start r
  function_chosen h r q = chosen_first (is_word keyword.Fun) (row (rows.function false rows.top_level)) (row (rows.property false rows.top_level)) function_kind built.function_or_property_of (λ c. refl) ts start w h r q

  pub property_chosen : test (is_word keyword.Fun) (first (drop start.at ts)) ≡ false → (r : Result (DeclKind × Cursor) (Fail ℕ)) → Advances (row (rows.property false rows.top_level)) property_kind ts start r
      → Advances (function_or_property false) built.function_or_property_of ts start r
  property_chosen h r q = chosen_second (is_word keyword.Fun) (row (rows.function false rows.top_level)) (row (rows.property false rows.top_level)) property_kind built.function_or_property_of (λ c. refl) ts start w h r q

  -- ---- classes, interfaces and objects

  pub object_chosen : (b : Bool) → test (is_word keyword.Object) (first (drop start.at ts)) ≡ true → (r : Result (DeclKind × Cursor) (Fail ℕ)) → Advances (row rows.object_) object_kind ts start r
      → Advances (no_interface b) no_interface_of ts start r
  object_chosen b h r q = chosen_first (is_word keyword.Object) (row rows.object_) (function_or_property b) object_kind no_interface_of (λ c. refl) ts start w h r q

  pub object_passed : (b : Bool) → test (is_word keyword.Object) (first (drop start.at ts)) ≡ false → (r : Result (DeclKind × Cursor) (Fail ℕ)) → Advances (function_or_property b) built.function_or_property_of ts start r
      → Advances (no_interface b) no_interface_of ts start r
  object_passed b h r q = chosen_second (is_word keyword.Object) (row rows.object_) (function_or_property b) built.function_or_property_of no_interface_of (λ c. refl) ts start w h r q

  pub interface_chosen : (b : Bool) → test (is_word keyword.Interface) (first (drop start.at ts)) ≡ true → (r : Result (DeclKind × Cursor) (Fail ℕ)) → Advances (row rows.interface_) interface_kind ts start r
      → Advances (no_class b) no_class_of ts start r
  interface_chosen b h r q = chosen_first (is_word keyword.Interface) (row rows.interface_) (no_interface b) interface_kind no_class_of (λ c. refl) ts start w h r q

  pub interface_passed : (b : Bool) → test (is_word keyword.Interface) (first (drop start.at ts)) ≡ false → (r : Result (DeclKind × Cursor) (Fail ℕ)) → Advances (no_interface b) no_interface_of ts start r
      → Advances (no_class b) no_class_of ts start r
  interface_passed b h r q = chosen_second (is_word keyword.Interface) (row rows.interface_) (no_interface b) no_interface_of no_class_of (λ c. refl) ts start w h r q

  pub class_chosen : (b e : Bool) → test (is_word keyword.Class) (first (drop start.at ts)) ≡ true → (r : Result (DeclKind × Cursor) (Fail ℕ)) → Advances (row (rows.class_ e)) class_kind ts start r
      → Advances (unmodified b e) unmodified_of ts start r
  class_chosen b e h r q = chosen_first (is_word keyword.Class) (row (rows.class_ e)) (no_class b) class_kind unmodified_of (λ c. refl) ts start w h r q

  pub class_passed : (b e : Bool) → test (is_word keyword.Class) (first (drop start.at ts)) ≡ false → (r : Result (DeclKind × Cursor) (Fail ℕ)) → Advances (no_class b) no_class_of ts start r
      → Advances (unmodified b e) unmodified_of ts start r
  class_passed b e h r q = chosen_second (is_word keyword.Class) (row (rows.class_ e)) (no_class b) no_class_of unmodified_of (λ c. refl) ts start w h r q

-- ---- behind all modifiers

pub mods_kept : (b e : Bool) (xs : List Mod) {ts : List Token} {start end : Cursor} {k : DeclKind} → Advanced (unmodified b e) unmodified_of ts start end k
    → Advanced (unmodified b e) (with_mods xs) ts start end (record { mods = xs; kind = k })
mods_kept b e xs p = record { tree = p.tree; looked = p.looked; read = p.read; builds = ap (λ (k : DeclKind). (let m : Modified = record { mods = xs; kind = k } in m)) p.builds; so_far = p.so_far }

unmodified_built : (b e : Bool) (xs : List Mod) (us rest : List Token) (c : Cst Token) → Reads grammar (unmodified b e) us c rest → with_mods xs c ≡ modified_behind xs (node (right (right (right c))))
unmodified_built b e xs us rest _ (r_left {x = c} h d) = modified_alike (class_kind c) (sym (append-nil xs))
unmodified_built b e xs us rest _ (r_right h (r_left {x = c} i d)) = modified_alike (interface_kind c) (sym (append-nil xs))
unmodified_built b e xs us rest _ (r_right h (r_right i (r_left {x = c} j d))) = modified_alike (object_kind c) (sym (append-nil xs))
unmodified_built b e xs us rest _ (r_right h (r_right i (r_right {x = c} j d))) = modified_alike (built.function_or_property_of c) (sym (append-nil xs))

pub modifiers_end : (b e : Bool) (xs : List Mod) (ts : List Token) (start : Cursor) → start.at ≤ length ts → test is_modifier (first (drop start.at ts)) ≡ false → (r : Result (Modified × Cursor) (Fail ℕ))
    → Advances (unmodified b e) (with_mods xs) ts start r → Advances (row (rows.declaration b e)) (modified_behind xs) ts start r
modifiers_end b e xs ts start w h (Ok k) q = record {
  tree = node (right (right (right q.tree)));
  looked = q.looked;
  read = read_row {n = rows.declaration b e} (read_second (not_abstract (first (drop start.at ts)) h) (read_second (not_enum (first (drop start.at ts)) h) (read_second (not_plain (first (drop start.at ts)) h) q.read)));
  builds = q.builds ∙ unmodified_built b e xs _ _ q.tree q.read.reads;
  so_far = q.so_far;
}
modifiers_end b e xs ts start w h (Err x) q =
    halts_row {n = rows.declaration b e} (halts_right w (not_abstract (first (drop start.at ts)) h) (halts_right w (not_enum (first (drop start.at ts)) h) (halts_right w (not_plain (first (drop start.at ts)) h) q)))

-- ---- the declaration

placed_alike : {s u : Span} {m n : Modified} → s ≡ u → m ≡ n → (let x : Decl = record { span = s; mods = m.mods; kind = m.kind } in x) ≡ record { span = u; mods = n.mods; kind = n.kind }
placed_alike {s = s} {u = u} {m = m} {n = n} f g =
    ap (λ (t : Span). (let x : Decl = record { span = t; mods = m.mods; kind = m.kind } in x)) f ∙ ap (λ (o : Modified). (let x : Decl = record { span = u; mods = o.mods; kind = o.kind } in x)) g

pub declaration_placed : {ts : List Token} {start end : Cursor} {s : Span} {m : Modified} {y : Decl} → Advanced (row (rows.declaration false false)) (modified_behind []) ts start end m → s ≡ stretch ts start.at end.at
    → y ≡ record { span = s; mods = m.mods; kind = m.kind } → Advanced (row (rows.declaration false false)) built.declaration_of ts start end y
declaration_placed p f i = record {
  tree = p.tree;
  looked = p.looked;
  read = p.read;
  builds = i ∙ placed_alike (f ∙ between_is (goes_on refl p.read) p.read (goes_on refl p.read) p.read) p.builds;
  so_far = p.so_far;
}
