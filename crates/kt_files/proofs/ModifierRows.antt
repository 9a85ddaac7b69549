-- The steps of the function that reads the modifiers of a declaration.
use Rattle.std.proofs.Common.{◌≡◌, ℕ, ◌≤◌, max, ◌==◌, nat_lt, Bool, true, false, not, ◌&&◌, ◌||◌, List, [], ◌∷◌, ◌++◌, length, drop, Result, Ok, Err, Option, Some, None, refl, sym, ap, subst, ◌∙◌, arith, append_assoc, true≢false}
use Rattle.std.proofs.lemmas.Bool.{eqb-true}
use Rattle.grammars.specs.Grammar.{row, leaf, node, pair, left, right, first, test}
use Rattle.kc_text.specs.declared.errors.Fail.{Fail}
use Rattle.kc_tree.specs.declared.decl.DeclKind.{DeclKind}
use Rattle.kc_tree.specs.declared.types.Mod.{Mod}
use Rattle.kt_files.specs.declared.modified.Modified.{Modified}
use Rattle.kt_files.specs.Unmodified.{modified_behind}
use Rattle.kt_lexer.specs.declared.token.Token.{Token}
use Rattle.kt_members.specs.Modifiers.{ModifierMoved}
use Rattle.kt_grammar.specs.declared.cursor.Cursor.{Cursor}
use Rattle.kt_grammar.specs.DeclarationsBuilt as built
use Rattle.kt_grammar.specs.Parsed.{Advances, Taken}
use Rattle.kt_grammar.specs.Rows as rows
use Rattle.kt_grammar.specs.Rows.{is_plain}
use Rattle.kt_grammar.specs.Tokens.{class_of, is_modifier, is_abstract, is_enum}
use Rattle.kt_grammar.proofs.Advances.{halts_row, halts_right, halts_left, halts_after}
use Rattle.kt_grammar.proofs.Steps.{read_one, read_both, read_row, read_first, read_second}

-- ---- single tokens

abbrev modifier_class : ℕ → Bool
modifier_class n = n == 54 || (n == 86 || (nat_lt 91 n && nat_lt n 110))

none_of : (k : ℕ) → modifier_class k ≡ true → (n : ℕ) (b : Bool) → (n == k) ≡ b → modifier_class n ≡ false → b ≡ false
none_of k m n true e h = absurd (true≢false (sym m ∙ subst (λ i. modifier_class i ≡ false) (eqb-true n k e) h))
none_of k m n false e h = refl

pub not_abstract : (o : Option Token) → test is_modifier o ≡ false → test is_abstract o ≡ false
not_abstract None h = refl
not_abstract (Some t) h = none_of 97 refl (class_of t.kind) (class_of t.kind == 97) refl h

pub not_enum : (o : Option Token) → test is_modifier o ≡ false → test is_enum o ≡ false
not_enum None h = refl
not_enum (Some t) h = none_of 100 refl (class_of t.kind) (class_of t.kind == 100) refl h

pub not_plain : (o : Option Token) → test is_modifier o ≡ false → test is_plain o ≡ false
not_plain None h = refl
not_plain (Some t) h = ap (λ b. b && not (is_abstract t || is_enum t)) h

-- `abstract` is not `enum`
no_enum : (n : ℕ) → (n == 97) ≡ true → (n == 100) ≡ false
no_enum n h = subst (λ i. (i == 100) ≡ false) (sym (eqb-true n 97 h)) refl

only_abstract : (o : Option Token) → test is_abstract o ≡ true → test is_enum o ≡ false
only_abstract None h = refl
only_abstract (Some t) h = no_enum (class_of t.kind) h

plain_so : (b c d : Bool) → b ≡ true → c ≡ false → d ≡ false → (b && not (c || d)) ≡ true
plain_so true false false e f g = refl
plain_so true false true e f g = absurd (true≢false g)
plain_so true true d e f g = absurd (true≢false f)
plain_so false c d e f g = absurd (true≢false (sym e))

stands : (f : Token → Bool) {g : Token → Bool} {ts : List Token} {at end : ℕ} (o : Taken g ts at end) → test f (first (drop at ts)) ≡ f o.token
stands f o = ap (λ us. test f (first us)) o.here

plain_first : {ts : List Token} {at end : ℕ} (o : Taken is_modifier ts at end) → test is_abstract (first (drop at ts)) ≡ false → test is_enum (first (drop at ts)) ≡ false → is_plain o.token ≡ true
plain_first o h i = plain_so (is_modifier o.token) (is_abstract o.token) (is_enum o.token) o.is_so (sym (stands is_abstract o) ∙ h) (sym (stands is_enum o) ∙ i)

-- the same token, by another test
abbrev taken_by : (f : Token → Bool) {g : Token → Bool} {ts : List Token} {at end : ℕ} (o : Taken g ts at end) → f o.token ≡ true → Taken f ts at end
taken_by f o h = record { token = o.token; is_so = h; here = o.here; next = o.next; within = o.within }

-- ---- a modifier, and what follows it

pub modified_alike : {xs ys : List Mod} (k : DeclKind) → xs ≡ ys → (let m : Modified = record { mods = xs; kind = k } in m) ≡ record { mods = ys; kind = k }
modified_alike k e = cc

more_mods : (xs ys zs : List Mod) {m n : Mod} → m ≡ n → ys ≡ xs ++ m ∷ [] → ys ++ zs ≡ xs ++ n ∷ zs
more_mods xs ys zs {m = m} e g = ap (λ us. us ++ zs) g ∙ append_assoc xs (m ∷ []) zs ∙ ap (λ (z : Mod). xs ++ z ∷ zs) e

-- what comes behind a modifier is what comes of the whole
abbrev Behind : Bool → Bool → Bool → Bool → List Mod → List Mod → List Token → Cursor → Cursor → Type 0
Behind a d b e xs ys ts start next = (r : Result (Modified × Cursor) (Fail ℕ)) → Advances (row (rows.declaration a d)) (modified_behind ys) ts next r → Advances (row (rows.declaration b e)) (modified_behind xs) ts start r

module _ (xs ys : List Mod) {m : Mod} {ts : List Token} {start next : Cursor} (w : start.at ≤ length ts) (o : ModifierMoved ts start next m) (g : ys ≡ xs ++ m ∷ []) where
  abbrev abstract_taken : test is_abstract (first (drop start.at ts)) ≡ true → Taken is_abstract ts start.at next.at
  abstract_taken h = taken_by is_abstract o.taken (sym (stands is_abstract o.taken) ∙ h)

  abbrev enum_taken : test is_enum (first (drop start.at ts)) ≡ true → Taken is_enum ts start.at next.at
  enum_taken h = taken_by is_enum o.taken (sym (stands is_enum o.taken) ∙ h)

  abbrev plain_taken : test is_abstract (first (drop start.at ts)) ≡ false → test is_enum (first (drop start.at ts)) ≡ false → Taken is_plain ts start.at next.at
  plain_taken h i = taken_by is_plain o.taken (plain_first o.taken h i)

  plain_stands : test is_abstract (first (drop start.at ts)) ≡ false → test is_enum (first (drop start.at ts)) ≡ false → test is_plain (first (drop start.at ts)) ≡ true
  plain_stands h i = stands is_plain o.taken ∙ plain_first o.taken h i

  behind_abstract : (b e : Bool) → test is_abstract (first (drop start.at ts)) ≡ true → Behind true e b e xs ys ts start next
  behind_abstract b e h (Ok k) q = record {
    tree = node (left (pair (leaf o.taken.token) q.tree));
    looked = max 0 q.looked;
    read = read_row {n = rows.declaration b e} (read_first h (read_both (read_one (abstract_taken h)) q.read));
    builds = q.builds ∙ modified_alike (built.declaration_kind q.tree) (more_mods xs ys (built.declaration_mods q.tree) o.same g);
    so_far = omega (arith, o.so_far, q.so_far);
  }
  behind_abstract b e h (Err x) q = halts_row {n = rows.declaration b e} (halts_left w h (halts_after (abstract_taken h) o.so_far q))

  behind_enum : (b e : Bool) → test is_abstract (first (drop start.at ts)) ≡ false → test is_enum (first (drop start.at ts)) ≡ true → Behind b true b e xs ys ts start next
  behind_enum b e h i (Ok k) q = record {
    tree = node (right (left (pair (leaf o.taken.token) q.tree)));
    looked = max 0 q.looked;
    read = read_row {n = rows.declaration b e} (read_second h (read_first i (read_both (read_one (enum_taken i)) q.read)));
    builds = q.builds ∙ modified_alike (built.declaration_kind q.tree) (more_mods xs ys (built.declaration_mods q.tree) o.same g);
    so_far = omega (arith, o.so_far, q.so_far);
  }
  behind_enum b e h i (Err x) q = halts_row {n = rows.declaration b e} (halts_right w h (halts_left w i (halts_after (enum_taken i) o.so_far q)))

  behind_plain : (b e : Bool) → test is_abstract (first (drop start.at ts)) ≡ false → test is_enum (first (drop start.at ts)) ≡ false → Behind b e b e xs ys ts start next
  behind_plain b e h i (Ok k) q = record {
    tree = node (right (right (left (pair (leaf o.taken.token) q.tree))));
    looked = max 0 q.looked;
    read = read_row {n = rows.declaration b e} (read_second h (read_second i (read_first (plain_stands h i) (read_both (read_one (plain_taken h i)) q.read))));
    builds = q.builds ∙ modified_alike (built.declaration_kind q.tree) (more_mods xs ys (built.declaration_mods q.tree) o.same g);
    so_far = omega (arith, o.so_far, q.so_far);
  }
  behind_plain b e h i (Err x) q = halts_row {n = rows.declaration b e} (halts_right w h (halts_right w i (halts_left w (plain_stands h i) (halts_after (plain_taken h i) o.so_far q))))

  behind_either : (a d b e : Bool) → test is_abstract (first (drop start.at ts)) ≡ a → test is_enum (first (drop start.at ts)) ≡ d → Behind (a || b) (d || e) b e xs ys ts start next
  behind_either true true b e h i = absurd (true≢false (sym i ∙ only_abstract (first (drop start.at ts)) h))
  behind_either true false b e h i = behind_abstract b e h
  behind_either false true b e h i = behind_enum b e h i
  behind_either false false b e h i = behind_plain b e h i

  pub behind_modifier : (b e c f : Bool) → c ≡ (test is_abstract (first (drop start.at ts)) || b) → f ≡ (test is_enum (first (drop start.at ts)) || e) → Behind c f b e xs ys ts start next
  behind_modifier b e c f h i r q = behind_either (test is_abstract (first (drop start.at ts))) (test is_enum (first (drop start.at ts))) b e refl refl r
      (subst (λ x. Advances (row (rows.declaration x (test is_enum (first (drop start.at ts)) || e))) (modified_behind ys) ts next r) h
      (subst (λ x. Advances (row (rows.declaration c x)) (modified_behind ys) ts next r) i q))

-- what the loop over modifiers has read
pub record Modifies (ts : List Token) (start at : Cursor) (ms : List Mod) (abstract enum : Bool) : Type 0 where
  pub ahead : start.at ≤ at.at
  pub within : at.at ≤ length ts
  pub whole : Behind abstract enum false false [] ms ts start at

pub modifies : (xs : List Mod) (ts : List Token) (start : Cursor) → start.at ≤ length ts → xs ≡ [] → Modifies ts start start xs false false
modifies xs ts start w e = record { ahead = omega arith; within = w; whole = λ r q. subst (λ ys. Advances (row (rows.declaration false false)) (modified_behind ys) ts start r) e q }

pub modifies_more : {xs ys : List Mod} {b e c f : Bool} {m : Mod} {ts : List Token} {start at next : Cursor} → Modifies ts start at xs b e → ModifierMoved ts at next m
    → c ≡ (test is_abstract (first (drop at.at ts)) || b) → f ≡ (test is_enum (first (drop at.at ts)) || e) → ys ≡ xs ++ m ∷ [] → Modifies ts start next ys c f
modifies_more {xs = xs} {ys = ys} {b = b} {e = e} {c = c} {f = f} k o h i g = record {
  ahead = omega (arith, k.ahead, o.taken.next);
  within = o.taken.within;
  whole = λ r q. k.whole r (behind_modifier xs ys k.within o g b e c f h i r q);
}
