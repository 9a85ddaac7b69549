-- The steps of the functions that read members with their modifiers.
use Rattle.std.proofs.Common.{◌≡◌, ℕ, ◌+◌, ◌≤◌, max, ◌==◌, nat_lt, Bool, true, false, not, ◌&&◌, ◌||◌, List, [], ◌∷◌, ◌++◌, length, drop, Result, Ok, Err, Option, Some, None, refl, sym, ap, subst, ◌∙◌, arith, append_assoc, append-nil, true≢false}
use Rattle.std.proofs.lemmas.Bool.{eqb-true}
use Rattle.grammars.specs.Grammar.{Part, next, row, Cst, leaf, node, pair, left, right, first, test, Reads, r_left, r_right}
use Rattle.kc_text.specs.declared.errors.Fail.{Fail}
use Rattle.kc_tree.specs.declared.decl.Fun.{Fun}
use Rattle.kc_tree.specs.declared.decl.Member.{Member}
use Rattle.kc_tree.specs.declared.decl.MemberKind.{MemberKind}
use Rattle.kc_tree.specs.declared.decl.MemberKind.TheVariants as member_kind
use Rattle.kc_tree.specs.declared.decl.Prop.{Prop}
use Rattle.kc_tree.specs.declared.fault.Span.{Span}
use Rattle.kc_tree.specs.declared.types.Mod.{Mod}
use Rattle.kt_lexer.specs.declared.token.Token.{Token}
use Rattle.kt_lexer.specs.declared.token.Keyword.TheVariants as keyword
use Rattle.kt_members.specs.declared.modified.Modified.{Modified}
use Rattle.kt_members.specs.Members.{unmodified, unmodified_of, function_kind, property_kind, with_mods, modified_behind}
use Rattle.kt_members.specs.Modifiers.{ModifierAt, ModifierMoved}
use Rattle.kt_members.proofs.Choices.{taken_left, taken_right}
use Rattle.kt_grammar.specs.declared.cursor.Cursor.{Cursor}
use Rattle.kt_grammar.specs.DeclarationsBuilt as built
use Rattle.kt_grammar.specs.Parsed.{Advanced, Advances, Taken}
use Rattle.kt_grammar.specs.Rows as rows
use Rattle.kt_grammar.specs.Rows.{Row, grammar, is_plain_of_member}
use Rattle.kt_grammar.specs.Tokens.{class_of, is_modifier, is_abstract, is_word}
use Rattle.kt_grammar.proofs.Advances.{halts_row, halts_right, halts_left, halts_after}
use Rattle.kt_grammar.proofs.Extents.{between_is}
use Rattle.kt_grammar.proofs.Progress.{goes_on}
use Rattle.kt_grammar.proofs.Steps.{takes_one, read_one, read_both, read_row, read_first, read_second}
use Rattle.kt_grammar.proofs.TypeRows.{stretch}

-- ---- single tokens

abbrev modifier_class : ℕ → Bool
modifier_class n = n == 54 || (n == 86 || (nat_lt 91 n && nat_lt n 110))

no_abstract : (n : ℕ) (b : Bool) → (n == 97) ≡ b → modifier_class n ≡ false → b ≡ false
no_abstract n true e h = let k : modifier_class 97 ≡ false = subst (λ m. modifier_class m ≡ false) (eqb-true n 97 e) h in absurd (true≢false k)
no_abstract n false e h = refl

not_abstract : (o : Option Token) → test is_modifier o ≡ false → test is_abstract o ≡ false
not_abstract None h = refl
not_abstract (Some t) h = no_abstract (class_of t.kind) (class_of t.kind == 97) refl h

not_plain : (o : Option Token) → test is_modifier o ≡ false → test is_plain_of_member o ≡ false
not_plain None h = refl
not_plain (Some t) h = ap (λ b. b && not (is_abstract t)) h

both_so : (b c : Bool) → b ≡ true → c ≡ false → (b && not c) ≡ true
both_so true false e f = refl
both_so true true e f = absurd (cc)
both_so false c e f = absurd (cc)

modifier_first : (o : Option Token) (m : Mod) → ModifierAt o (Some m) → test is_modifier o ≡ true
modifier_first None m h = absurd h
modifier_first (Some t) m h = h.0

modifier_is : (o : Option Token) (t : Token) (m : Mod) → o ≡ Some t → ModifierAt o (Some m) → m ≡ built.mod_of t
modifier_is None t m e h = absurd h
modifier_is (Some u) t m e h = let i : u ≡ t = cc in h.1 ∙ ap built.mod_of i

pub modifier_moved : {ts : List Token} {start : Cursor} {m : Mod} (end : Cursor) → ModifierAt (first (drop start.at ts)) (Some m) → end ≡ record { at = start.at + 1; looked = start.looked } → ModifierMoved ts start end m
modifier_moved {ts = ts} {start = start} {m = m} end h e =
    let k = takes_one is_modifier ts start.at (modifier_first (first (drop start.at ts)) m h) in
    subst (λ (c : Cursor). ModifierMoved ts start c m) (sym e) (record { taken = k; so_far = refl; same = modifier_is (first (drop start.at ts)) k.token m (ap first k.here) h })

stands : (f : Token → Bool) {g : Token → Bool} {ts : List Token} {at end : ℕ} (o : Taken g ts at end) → test f (first (drop at ts)) ≡ f o.token
stands f o = ap (λ us. test f (first us)) o.here

-- ---- a modifier, and what follows it

modified_alike : {xs ys : List Mod} (k : MemberKind) → xs ≡ ys → (let m : Modified = record { mods = xs; kind = k } in m) ≡ record { mods = ys; kind = k }
modified_alike k e = cc

more_mods : (xs ys zs : List Mod) {m n : Mod} → m ≡ n → ys ≡ xs ++ m ∷ [] → ys ++ zs ≡ xs ++ n ∷ zs
more_mods xs ys zs {m = m} e g = ap (λ us. us ++ zs) g ∙ append_assoc xs (m ∷ []) zs ∙ ap (λ (z : Mod). xs ++ z ∷ zs) e

module _ (site : rows.Site) where
  behind_abstract : (b : Bool) (xs ys : List Mod) {m : Mod} {ts : List Token} {start next : Cursor} → start.at ≤ length ts → ModifierMoved ts start next m → test is_abstract (first (drop start.at ts)) ≡ true → ys ≡ xs ++ m ∷ []
      → (r : Result (Modified × Cursor) (Fail ℕ)) → Advances (row (rows.modified_member true site)) (modified_behind ys) ts next r → Advances (row (rows.modified_member b site)) (modified_behind xs) ts start r
  behind_abstract b xs ys {ts = ts} {start = start} {next = mid} w o h g (Ok k) q =
      let t : Taken is_abstract ts start.at mid.at = record { token = o.taken.token; is_so = sym (stands is_abstract o.taken) ∙ h; here = o.taken.here; next = o.taken.next; within = o.taken.within } in
      record {
        tree = node (left (pair (leaf o.taken.token) q.tree));
        looked = max 0 q.looked;
        read = read_row {n = rows.modified_member b site} (read_first h (read_both (read_one t) q.read));
        builds = q.builds ∙ modified_alike (built.modified_kind q.tree) (more_mods xs ys (built.modified_mods q.tree) o.same g);
        so_far = omega (arith, o.so_far, q.so_far);
      }
  behind_abstract b xs ys {ts = ts} {start = start} {next = mid} w o h g (Err e) q =
      let t : Taken is_abstract ts start.at mid.at = record { token = o.taken.token; is_so = sym (stands is_abstract o.taken) ∙ h; here = o.taken.here; next = o.taken.next; within = o.taken.within } in
      halts_row {n = rows.modified_member b site} (halts_left w h (halts_after t o.so_far q))

  plain_first : {ts : List Token} {at end : ℕ} (o : Taken is_modifier ts at end) → test is_abstract (first (drop at ts)) ≡ false → is_plain_of_member o.token ≡ true
  plain_first o h = both_so (is_modifier o.token) (is_abstract o.token) o.is_so (sym (stands is_abstract o) ∙ h)

  behind_plain : (b : Bool) (xs ys : List Mod) {m : Mod} {ts : List Token} {start next : Cursor} → start.at ≤ length ts → ModifierMoved ts start next m → test is_abstract (first (drop start.at ts)) ≡ false → ys ≡ xs ++ m ∷ []
      → (r : Result (Modified × Cursor) (Fail ℕ)) → Advances (row (rows.modified_member b site)) (modified_behind ys) ts next r → Advances (row (rows.modified_member b site)) (modified_behind xs) ts start r
  behind_plain b xs ys {ts = ts} {start = start} {next = mid} w o h g (Ok k) q =
      let t : Taken is_plain_of_member ts start.at mid.at = record { token = o.taken.token; is_so = plain_first o.taken h; here = o.taken.here; next = o.taken.next; within = o.taken.within } in
      record {
        tree = node (right (left (pair (leaf o.taken.token) q.tree)));
        looked = max 0 q.looked;
        read = read_row {n = rows.modified_member b site} (read_second h (read_first (stands is_plain_of_member o.taken ∙ plain_first o.taken h) (read_both (read_one t) q.read)));
        builds = q.builds ∙ modified_alike (built.modified_kind q.tree) (more_mods xs ys (built.modified_mods q.tree) o.same g);
        so_far = omega (arith, o.so_far, q.so_far);
      }
  behind_plain b xs ys {ts = ts} {start = start} {next = mid} w o h g (Err e) q =
      let t : Taken is_plain_of_member ts start.at mid.at = record { token = o.taken.token; is_so = plain_first o.taken h; here = o.taken.here; next = o.taken.next; within = o.taken.within } in
      halts_row {n = rows.modified_member b site} (halts_right w h (halts_left w (stands is_plain_of_member o.taken ∙ plain_first o.taken h) (halts_after t o.so_far q)))

  behind_modifier : (a b d : Bool) (xs ys : List Mod) {m : Mod} {ts : List Token} {start next : Cursor} → start.at ≤ length ts → ModifierMoved ts start next m → test is_abstract (first (drop start.at ts)) ≡ a → d ≡ (a || b) → ys ≡ xs ++ m ∷ []
      → (r : Result (Modified × Cursor) (Fail ℕ)) → Advances (row (rows.modified_member d site)) (modified_behind ys) ts next r → Advances (row (rows.modified_member b site)) (modified_behind xs) ts start r
  behind_modifier true b d xs ys {ts = ts} {next = mid} w o h e g r q = behind_abstract b xs ys w o h g r (subst (λ x. Advances (row (rows.modified_member x site)) (modified_behind ys) ts mid r) e q)
  behind_modifier false b d xs ys {ts = ts} {next = mid} w o h e g r q = behind_plain b xs ys w o h g r (subst (λ x. Advances (row (rows.modified_member x site)) (modified_behind ys) ts mid r) e q)

  -- what the loop over modifiers has read
  pub record Modifies (ts : List Token) (start at : Cursor) (ms : List Mod) (abstract : Bool) : Type 0 where
    pub ahead : start.at ≤ at.at
    pub within : at.at ≤ length ts
    pub whole : (r : Result (Modified × Cursor) (Fail ℕ)) → Advances (row (rows.modified_member abstract site)) (modified_behind ms) ts at r
        → Advances (row (rows.modified_member false site)) (modified_behind []) ts start r

  pub modifies : (xs : List Mod) (ts : List Token) (start : Cursor) → start.at ≤ length ts → xs ≡ [] → Modifies ts start start xs false
  modifies xs ts start w e = record { ahead = omega arith; within = w; whole = λ r q. subst (λ ys. Advances (row (rows.modified_member false site)) (modified_behind ys) ts start r) e q }

  pub modifies_more : {xs ys : List Mod} {b d : Bool} {m : Mod} {ts : List Token} {start at next : Cursor} → Modifies ts start at xs b → ModifierMoved ts at next m
      → d ≡ (test is_abstract (first (drop at.at ts)) || b) → ys ≡ xs ++ m ∷ [] → Modifies ts start next ys d
  modifies_more {xs = xs} {ys = ys} {b = b} {d = d} {ts = ts} {at = at} k o e g = record {
    ahead = omega (arith, k.ahead, o.taken.next);
    within = o.taken.within;
    whole = λ r q. k.whole r (behind_modifier (test is_abstract (first (drop at.at ts))) b d xs ys k.within o refl e g r q);
  }

  -- ---- behind all modifiers

  unmodified_built : (b : Bool) (xs : List Mod) (us rest : List Token) (c : Cst Token) → Reads grammar (unmodified b site) us c rest → with_mods xs c ≡ modified_behind xs (node (right (right c)))
  unmodified_built b xs us rest _ (r_left {x = c} h d) = modified_alike (member_kind.Fun (built.function_of c)) (sym (append-nil xs))
  unmodified_built b xs us rest _ (r_right {x = c} h d) = modified_alike (member_kind.Prop (built.property_of c)) (sym (append-nil xs))

  pub modifiers_end : (b : Bool) (xs : List Mod) (ts : List Token) (start : Cursor) → start.at ≤ length ts → test is_modifier (first (drop start.at ts)) ≡ false → (r : Result (Modified × Cursor) (Fail ℕ))
      → Advances (unmodified b site) (with_mods xs) ts start r → Advances (row (rows.modified_member b site)) (modified_behind xs) ts start r
  modifiers_end b xs ts start w h (Ok k) q = record {
    tree = node (right (right q.tree));
    looked = q.looked;
    read = read_row {n = rows.modified_member b site} (read_second (not_abstract (first (drop start.at ts)) h) (read_second (not_plain (first (drop start.at ts)) h) q.read));
    builds = q.builds ∙ unmodified_built b xs _ _ q.tree q.read.reads;
    so_far = q.so_far;
  }
  modifiers_end b xs ts start w h (Err e) q =
      halts_row {n = rows.modified_member b site} (halts_right w (not_abstract (first (drop start.at ts)) h) (halts_right w (not_plain (first (drop start.at ts)) h) q))

  pub function_kept : (b : Bool) {ts : List Token} {start end : Cursor} {f : Fun} → Advanced (row (rows.function b site)) built.function_of ts start end f → Advanced (row (rows.function b site)) function_kind ts start end (member_kind.Fun f)
  function_kept b p = record { tree = p.tree; looked = p.looked; read = p.read; builds = ap member_kind.Fun p.builds; so_far = p.so_far }

  pub property_kept : (b : Bool) {ts : List Token} {start end : Cursor} {f : Prop} → Advanced (row (rows.property b site)) built.property_of ts start end f → Advanced (row (rows.property b site)) property_kind ts start end (member_kind.Prop f)
  property_kept b p = record { tree = p.tree; looked = p.looked; read = p.read; builds = ap member_kind.Prop p.builds; so_far = p.so_far }

  pub function_chosen : (b : Bool) (ts : List Token) (start : Cursor) → start.at ≤ length ts → test (is_word keyword.Fun) (first (drop start.at ts)) ≡ true → (r : Result (MemberKind × Cursor) (Fail ℕ))
      → Advances (row (rows.function b site)) function_kind ts start r → Advances (unmodified b site) unmodified_of ts start r
  function_chosen b ts start w h r p = taken_left (is_word keyword.Fun) (row (rows.function b site)) (row (rows.property b site)) function_kind unmodified_of (λ us rest c d. refl) ts start w h r p

  pub property_chosen : (b : Bool) (ts : List Token) (start : Cursor) → start.at ≤ length ts → test (is_word keyword.Fun) (first (drop start.at ts)) ≡ false → (r : Result (MemberKind × Cursor) (Fail ℕ))
      → Advances (row (rows.property b site)) property_kind ts start r → Advances (unmodified b site) unmodified_of ts start r
  property_chosen b ts start w h r p = taken_right (is_word keyword.Fun) (row (rows.function b site)) (row (rows.property b site)) property_kind unmodified_of (λ us rest c d. refl) ts start w h r p

  pub mods_kept : (b : Bool) (xs : List Mod) {ts : List Token} {start end : Cursor} {k : MemberKind} → Advanced (unmodified b site) unmodified_of ts start end k
      → Advanced (unmodified b site) (with_mods xs) ts start end (record { mods = xs; kind = k })
  mods_kept b xs p = record { tree = p.tree; looked = p.looked; read = p.read; builds = ap (λ (k : MemberKind). (let m : Modified = record { mods = xs; kind = k } in m)) p.builds; so_far = p.so_far }

  placed_alike : {s u : Span} {m n : Modified} → s ≡ u → m ≡ n → (let x : Member = record { span = s; mods = m.mods; kind = m.kind } in x) ≡ record { span = u; mods = n.mods; kind = n.kind }
  placed_alike {s = s} {u = u} {m = m} {n = n} f g =
      ap (λ (t : Span). (let x : Member = record { span = t; mods = m.mods; kind = m.kind } in x)) f ∙ ap (λ (o : Modified). (let x : Member = record { span = u; mods = o.mods; kind = o.kind } in x)) g

  pub member_placed : {ts : List Token} {start end : Cursor} {s : Span} {m : Modified} {y : Member} → Advanced (row (rows.modified_member false site)) (modified_behind []) ts start end m → s ≡ stretch ts start.at end.at
      → y ≡ record { span = s; mods = m.mods; kind = m.kind } → Advanced (row (rows.modified_member false site)) built.modified_of ts start end y
  member_placed p f i = record {
    tree = p.tree;
    looked = p.looked;
    read = p.read;
    builds = i ∙ placed_alike (f ∙ between_is (goes_on refl p.read) p.read (goes_on refl p.read) p.read) p.builds;
    so_far = p.so_far;
  }
