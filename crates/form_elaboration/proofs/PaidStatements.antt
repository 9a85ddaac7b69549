-- What is counted in an elaborated statement is paid by its tokens, as are the locals that it declares.
use Rattle.std.proofs.Common.{◌≡◌, ℕ, ◌+◌, ◌*◌, ◌≤◌, Bool, true, false, List, [], ◌∷◌, ◌++◌, map, length, Option, Some, None, refl, sym, ap, subst, ◌∙◌, arith}
use Rattle.std.specs.Option.{option_map}
use Rattle.std.specs.Prelude.{option_and_then, is_some, if◌then◌else◌}
use Rattle.kc_core.specs.declared.tree.TypeTree.TheVariants as type_is
use Rattle.kc_core.specs.declared.tree.Native.TheVariants as native_is
use Rattle.kc_core.specs.declared.tree.Core.{Core}
use Rattle.kc_core.specs.declared.tree.Kind.TheVariants as core
use Rattle.kc_core.specs.declared.tree.Kind.TheOpen.{Kind-F}
use Rattle.kc_core.specs.declared.tree.Kind.TheViews.{outs-StrLit, outs-LocalWrite, outs-Declare, outs-Concat, outs-CallNative, outs-Block, outs-If, outs-While}
use Rattle.kc_core.specs.Sizes.{total}
use Rattle.form_parser.specs.declared.tokens.Place.{Place}
use Rattle.form_parser.specs.declared.surface.Expression.{Expression}
use Rattle.form_parser.specs.declared.surface.Body.{Body}
use Rattle.form_parser.specs.declared.surface.Statement.{Statement}
use Rattle.form_parser.specs.declared.surface.Statement.TheOpen.{Statement-F}
use Rattle.form_parser.specs.declared.surface.Statement.TheFolds.{map-Statement, map-Body, fold-roll-Statement, fold-roll-Body, ind-Statement}
use Rattle.form_parser.specs.declared.surface.Statement.TheViews.{roll-Statement, roll-Body}
use Rattle.form_parser.specs.Sizes.{expression_size, statement_layer_size, body_layer_size, statement_size, body_size}
use Rattle.form_parser.proofs.Sizes.{some_token}
use Rattle.form_elaboration.specs.declared.scope.Visible.{Visible}
use Rattle.form_elaboration.specs.declared.scope.Scope.{Scope}
use Rattle.form_elaboration.specs.Names.{found}
use Rattle.form_elaboration.specs.Nodes.{node, line_feed, line, printing}
use Rattle.form_elaboration.specs.Expressions.{of_type, expression_of}
use Rattle.form_elaboration.specs.Statements.{Elaborated, Step, step, stepped, declaring, declaration_of, assigning, assignment_of, condition_of, choosing, other_way, choice_of, in_loop, repeating, repetition_of, statement_layer, Several, followed, in_turn, closing, statement_of, body_of}
use Rattle.form_elaboration.proofs.Fits.{same_value, none_or_some, mapped, chained, of_typed}
use Rattle.form_elaboration.proofs.FormedStatements.{statement_rolled, body_rolled}
use Rattle.form_elaboration.proofs.Layers.{map_twice, statement_twice}
use Rattle.form_elaboration.proofs.Counts.{Count, counted, counted_node, ExpressionsPay, StatementsPay}
use Rattle.form_elaboration.proofs.PaidExpressions.{expression_pays}

-- R relates the node's count to the tokens, and each new local takes four of them
pub record Paid (m : Count) (R : ℕ → ℕ → Type 0) (before : Scope) (at : Step) (n : ℕ) : Type 0 where
  pub counts : R (counted m at.node) n
  pub locals : 4 * length at.scope.locals ≤ 4 * length before.locals + n

abbrev pub Pays : Count → (ℕ → ℕ → Type 0) → Elaborated → ℕ → Type 0
Pays m R r n = (s : Scope) (at : Step) → r s ≡ Some at → Paid m R s at n

pub record PaidAll (m : Count) (P : List ℕ → ℕ → Type 0) (before : Scope) (more : Several) (n : ℕ) : Type 0 where
  pub counts : P (map (counted m) more.parts) n
  pub locals : 4 * length more.scope.locals ≤ 4 * length before.locals + n

one_longer : {A : Type 0} (xs : List A) (x : A) → length (xs ++ x ∷ []) ≡ 1 + length xs
one_longer [] x = refl
one_longer (y ∷ xs) x = let e = one_longer xs x in omega arith

module _ (file : ℕ) (text : List ℕ) (m : Count) (E S B : ℕ → ℕ → Type 0) (P : List ℕ → ℕ → Type 0) (expressions : ExpressionsPay m E) (pays : StatementsPay m E S B P) where
  -- ---- statements without bodies

  value_pays : (s : Scope) (a : Expression) (e : Core) → expression_of file text s.visible a ≡ Some e → E (counted m e) (expression_size a)
  value_pays s a e h = expression_pays file text s.visible m E expressions a e h

  declaring_paid : (p : Place) (is_var : Bool) (name : Place) (s : Scope) (a : Expression) (e : Core) → expression_of file text s.visible a ≡ Some e
      → Paid m S s (declaring file p is_var name s e) (3 + expression_size a)
  declaring_paid p is_var name s a e h =
      let x = length s.locals in
      let paid = pays.declare x (counted m e) (expression_size a) (value_pays s a e h) in
      let longer = one_longer s.locals (record { name = x; ty = e.ty; is_var = is_var }) in
      let some = some_token a in
      record {
        counts = subst (λ c. S c (3 + expression_size a)) (sym (counted_node m file p type_is.Unit (core.Declare x (Some e)) (Kind-F.Declare x (Some e)) (outs-Declare x (Some e)))) paid;
        locals = omega arith;
      }

  declaration_pays : (p : Place) (is_var : Bool) (name : Place) (a : Expression) → Pays m S (declaration_of file text p is_var name a) (3 + expression_size a)
  declaration_pays p is_var name a s at h = by (is_some (found text s.visible name)) h
    where
      by : (b : Bool) → (if b then None else option_map (declaring file p is_var name s) (expression_of file text s.visible a)) ≡ Some at → Paid m S s at (3 + expression_size a)
      by true k = none_or_some k
      by false k =
          let d = mapped (declaring file p is_var name s) (expression_of file text s.visible a) k in
          subst (λ x. Paid m S s x (3 + expression_size a)) (sym d.is_it) (declaring_paid p is_var name s a d.value d.was)

  -- a node that leaves the scope as it is
  staying : (s : Scope) (o : Option Core) (n : ℕ) → ((e : Core) → o ≡ Some e → S (counted m e) n) → (at : Step) → stepped o s ≡ Some at → Paid m S s at n
  staying s o n f at h =
      let k = mapped (λ (e : Core). step e s) o h in
      let paid = f k.value k.was in
      subst (λ x. Paid m S s x n) (sym k.is_it) (record { counts = paid; locals = omega arith })

  assigned_pays : (p : Place) (s : Scope) (a : Expression) (v : Visible) (e : Core)
      → (if v.is_var then option_map (assigning file p v) (of_type v.ty (expression_of file text s.visible a)) else None) ≡ Some e → S (counted m e) (2 + expression_size a)
  assigned_pays p s a v e h = by v.is_var h
    where
      by : (b : Bool) → (if b then option_map (assigning file p v) (of_type v.ty (expression_of file text s.visible a)) else None) ≡ Some e → S (counted m e) (2 + expression_size a)
      by true k =
          let d = mapped (assigning file p v) (of_type v.ty (expression_of file text s.visible a)) k in
          let t = of_typed v.ty (expression_of file text s.visible a) d.value d.was in
          let x = v.local in
          subst (λ (c : Core). S (counted m c) (2 + expression_size a)) (sym d.is_it)
          (subst (λ c. S c (2 + expression_size a)) (sym (counted_node m file p type_is.Unit (core.LocalWrite x d.value) (Kind-F.LocalWrite x d.value) (outs-LocalWrite x d.value)))
          (pays.assign x (counted m d.value) (expression_size a) (value_pays s a d.value t.was)))
      by false k = none_or_some k

  assignment_pays : (p name : Place) (a : Expression) → Pays m S (λ s. stepped (assignment_of file text p name a s.visible) s) (2 + expression_size a)
  assignment_pays p name a s at h =
      let write : Visible → Option Core = λ v. if v.is_var then option_map (assigning file p v) (of_type v.ty (expression_of file text s.visible a)) else None in
      staying s (assignment_of file text p name a s.visible) (2 + expression_size a)
      (λ e k. let c = chained write (found text s.visible name) k in assigned_pays p s a c.value e c.is_it) at h

  printing_counted : (p : Place) (v : Core) → counted m (printing file p v) ≡ m (Kind-F.CallNative native_is.ConsoleWrite (m (Kind-F.Concat (counted m v ∷ m (Kind-F.StrLit (10 ∷ [])) ∷ [])) ∷ []))
  printing_counted p v =
      let feed = counted_node m file p type_is.String (core.StrLit (10 ∷ [])) (Kind-F.StrLit (10 ∷ [])) (outs-StrLit (10 ∷ [])) in
      let all = counted_node m file p type_is.String (core.Concat (v ∷ line_feed file p ∷ [])) (Kind-F.Concat (v ∷ line_feed file p ∷ [])) (outs-Concat (v ∷ line_feed file p ∷ [])) in
      counted_node m file p type_is.Unit (core.CallNative native_is.ConsoleWrite (line file p v ∷ [])) (Kind-F.CallNative native_is.ConsoleWrite (line file p v ∷ [])) (outs-CallNative native_is.ConsoleWrite (line file p v ∷ []))
      ∙ ap (λ (c : ℕ). m (Kind-F.CallNative native_is.ConsoleWrite (c ∷ []))) (all ∙ ap (λ (c : ℕ). m (Kind-F.Concat (counted m v ∷ c ∷ []))) feed)

  print_pays : (p : Place) (a : Expression) → Pays m S (λ s. stepped (option_map (printing file p) (expression_of file text s.visible a)) s) (3 + expression_size a)
  print_pays p a s at h =
      staying s (option_map (printing file p) (expression_of file text s.visible a)) (3 + expression_size a)
      (λ e k.
      let d = mapped (printing file p) (expression_of file text s.visible a) k in
      subst (λ (c : Core). S (counted m c) (3 + expression_size a)) (sym d.is_it)
      (subst (λ c. S c (3 + expression_size a)) (sym (printing_counted p d.value))
      (pays.print (counted m d.value) (expression_size a) (value_pays s a d.value d.was))))
      at h

  -- ---- choices and loops

  condition_pays : (s : Scope) (a : Expression) (e : Core) → condition_of file text a s ≡ Some e → E (counted m e) (expression_size a)
  condition_pays s a e h = value_pays s a e (of_typed type_is.Boolean (expression_of file text s.visible a) e h).was

  held_pays : (p : Place) (a : Expression) (held : Elaborated) (t : ℕ) → Pays m B held t → Pays m S (choice_of file text p a held None) (3 + expression_size a + t)
  held_pays p a held t first s at h =
      let c = chained (λ (e : Core). option_and_then (other_way file p None e) (held s)) (condition_of file text a s) h in
      let d = chained (other_way file p None c.value) (held s) c.is_it in
      let e = c.value in
      let b = d.value.node in
      let one = first s d.value d.was in
      let one_locals = one.locals in
      let paid = pays.held (counted m e) (counted m b) (expression_size a) t (condition_pays s a e c.was) one.counts in
      subst (λ x. Paid m S s x (3 + expression_size a + t)) (same_value d.is_it) (record {
        counts = subst (λ n. S n (3 + expression_size a + t)) (sym (counted_node m file p type_is.Unit (core.If e b None) (Kind-F.If e b None) (outs-If e b None))) paid;
        locals = omega arith;
      })

  either_pays : (p : Place) (a : Expression) (held failed : Elaborated) (t u : ℕ) → Pays m B held t → Pays m B failed u → Pays m S (choice_of file text p a held (Some failed)) (4 + expression_size a + t + u)
  either_pays p a held failed t u first second s at h =
      let c = chained (λ (e : Core). option_and_then (other_way file p (Some failed) e) (held s)) (condition_of file text a s) h in
      let d = chained (other_way file p (Some failed) c.value) (held s) c.is_it in
      let e = c.value in
      let b = d.value.node in
      let make : Step → Step = λ other. step (choosing file p e b (Some other.node)) other.scope in
      let k = mapped make (failed d.value.scope) d.is_it in
      let o = k.value.node in
      let one = first s d.value d.was in
      let one_locals = one.locals in
      let two = second d.value.scope k.value k.was in
      let two_locals = two.locals in
      let paid = pays.either (counted m e) (counted m b) (counted m o) (expression_size a) t u (condition_pays s a e c.was) one.counts two.counts in
      subst (λ x. Paid m S s x (4 + expression_size a + t + u)) (sym k.is_it) (record {
        counts = subst (λ n. S n (4 + expression_size a + t + u)) (sym (counted_node m file p type_is.Unit (core.If e b (Some o)) (Kind-F.If e b (Some o)) (outs-If e b (Some o)))) paid;
        locals = omega arith;
      })

  repetition_pays : (p : Place) (a : Expression) (body : Elaborated) (t : ℕ) → Pays m B body t → Pays m S (repetition_of file text p a body) (3 + expression_size a + t)
  repetition_pays p a body t inside s at h =
      let label = length s.loops in
      let c = chained (λ (e : Core). option_map (repeating file p label e) (body (in_loop p s))) (condition_of file text a s) h in
      let k = mapped (repeating file p label c.value) (body (in_loop p s)) c.is_it in
      let e = c.value in
      let b = k.value.node in
      let one = inside (in_loop p s) k.value k.was in
      let one_locals = one.locals in
      let paid = pays.repeated label (counted m e) (counted m b) (expression_size a) t (condition_pays s a e c.was) one.counts in
      subst (λ x. Paid m S s x (3 + expression_size a + t)) (sym k.is_it) (record {
        counts = subst (λ n. S n (3 + expression_size a + t)) (sym (counted_node m file p type_is.Unit (core.While label e b) (Kind-F.While label e b) (outs-While label e b))) paid;
        locals = omega arith;
      })

  -- ---- bodies

  pub in_turn_pays : (A : Type 0) (f : A → Elaborated) (n : A → ℕ) → ((a : A) → Pays m S (f a) (n a)) → (xs : List A) (s : Scope) (more : Several) → in_turn (map f xs) s ≡ Some more → PaidAll m P s more (total (map n xs))
  in_turn_pays A f n each [] s more h = subst (λ x. PaidAll m P s x 0) (same_value h) (record { counts = pays.none; locals = omega arith })
  in_turn_pays A f n each (a ∷ xs) s more h =
      let c = chained (λ (e : Step). option_map (followed e.node) (in_turn (map f xs) e.scope)) (f a s) h in
      let k = mapped (followed c.value.node) (in_turn (map f xs) c.value.scope) c.is_it in
      let first = each a s c.value c.was in
      let first_locals = first.locals in
      let rest = in_turn_pays A f n each xs c.value.scope k.value k.was in
      let rest_locals = rest.locals in
      subst (λ x. PaidAll m P s x (n a + total (map n xs))) (sym k.is_it) (record {
        counts = pays.next (counted m c.value.node) (map (counted m) k.value.parts) (n a) (total (map n xs)) first.counts rest.counts;
        locals = omega arith;
      })

  pub block_pays : (p : Place) (parts : List Core) (n : ℕ) → P (map (counted m) parts) n → B (counted m (node file p type_is.Unit (core.Block parts))) n
  block_pays p parts n paid = subst (λ c. B c n) (sym (counted_node m file p type_is.Unit (core.Block parts) (Kind-F.Block parts) (outs-Block parts))) (pays.body (map (counted m) parts) n paid)

  body_pays : (p : Place) (A : Type 0) (f : A → Elaborated) (n : A → ℕ) → ((a : A) → Pays m S (f a) (n a)) → (xs : List A) → Pays m B (λ s. option_map (closing file p s) (in_turn (map f xs) s)) (total (map n xs))
  body_pays p A f n each xs s at h =
      let k = mapped (closing file p s) (in_turn (map f xs) s) h in
      let all = in_turn_pays A f n each xs s k.value k.was in
      subst (λ x. Paid m B s x (total (map n xs))) (sym k.is_it) (record { counts = block_pays p k.value.parts (total (map n xs)) all.counts; locals = all.locals })

  -- ---- every statement

  layer_pays : (A C : Type 0) (g : A → Elaborated) (f : C → Elaborated) (r : A → ℕ) (n : C → ℕ) → ((c : C) → Pays m B (f c) (n c)) → (y : Statement-F A C)
      → Pays m S (statement_layer file text (map-Statement A C Elaborated Elaborated g f y)) (statement_layer_size (map-Statement A C ℕ ℕ r n y))
  layer_pays A C g f r n each (Statement-F.Declare p is_var name value) = declaration_pays p is_var name value
  layer_pays A C g f r n each (Statement-F.Assign p name value) = assignment_pays p name value
  layer_pays A C g f r n each (Statement-F.Print p value) = print_pays p value
  layer_pays A C g f r n each (Statement-F.If p test held None) = held_pays p test (f held) (n held) (each held)
  layer_pays A C g f r n each (Statement-F.If p test held (Some failed)) = either_pays p test (f held) (f failed) (n held) (n failed) (each held) (each failed)
  layer_pays A C g f r n each (Statement-F.While p test body) = repetition_pays p test (f body) (n body) (each body)

  pub every_statement : (s : Statement) → Pays m S (statement_of file text s) (statement_size s)
  every_statement s = ind-Statement (λ s. Pays m S (statement_of file text s) (statement_size s)) (λ b. Pays m B (body_of file text b) (body_size b))
      (λ x y is. subst (λ z. Pays m S (statement_of file text (roll-Statement z)) (statement_size (roll-Statement z))) is
      (subst (λ r. Pays m S r (statement_size (roll-Statement (map-Statement _ _ Statement Body (λ a. a.0) (λ b. b.0) y))))
      (sym (statement_rolled file text (map-Statement _ _ Statement Body (λ a. a.0) (λ b. b.0) y)
      ∙ ap (statement_layer file text) (statement_twice _ _ Statement Body Elaborated Elaborated (λ a. a.0) (λ b. b.0) (statement_of file text) (body_of file text) y)))
      (subst (λ (n : ℕ). Pays m S (statement_layer file text (map-Statement _ _ Elaborated Elaborated (λ a. statement_of file text a.0) (λ b. body_of file text b.0) y)) n)
      (sym (fold-roll-Statement ℕ ℕ statement_layer_size body_layer_size (map-Statement _ _ Statement Body (λ a. a.0) (λ b. b.0) y)
      ∙ ap statement_layer_size (statement_twice _ _ Statement Body ℕ ℕ (λ a. a.0) (λ b. b.0) statement_size body_size y)))
      (layer_pays _ _ (λ a. statement_of file text a.0) (λ b. body_of file text b.0) (λ a. statement_size a.0) (λ b. body_size b.0) (λ b. b.1) y))))
      (λ x y is. subst (λ z. Pays m B (body_of file text (roll-Body z)) (body_size (roll-Body z))) is
      (subst (λ r. Pays m B r (body_size (roll-Body (map-Body _ _ Statement Body (λ a. a.0) (λ b. b.0) y))))
      (sym (body_rolled file text (map-Body _ _ Statement Body (λ a. a.0) (λ b. b.0) y)
      ∙ ap (λ (l : List Elaborated). λ (s : Scope). option_map (closing file y.place s) (in_turn l s)) (map_twice _ Statement Elaborated (statement_of file text) (λ a. a.0) y.statements)))
      (subst (λ (n : ℕ). Pays m B (λ (s : Scope). option_map (closing file y.place s) (in_turn (map (λ a. statement_of file text a.0) y.statements) s)) n)
      (sym (fold-roll-Body ℕ ℕ statement_layer_size body_layer_size (map-Body _ _ Statement Body (λ a. a.0) (λ b. b.0) y)
      ∙ ap total (map_twice _ Statement ℕ statement_size (λ a. a.0) y.statements)))
      (body_pays y.place _ (λ a. statement_of file text a.0) (λ a. statement_size a.0) (λ a. a.1) y.statements))))
      s
