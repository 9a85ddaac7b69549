-- An elaborated statement is well formed where what is in scope before it is assigned; and behind it so is what is in scope then.
use Rattle.std.proofs.Common.{◌≡◌, ℕ, Bool, true, false, List, [], ◌∷◌, map, length, Option, Some, None, refl, sym, ap, subst, ◌∙◌}
use Rattle.std.specs.Option.{option_map}
use Rattle.std.specs.Prelude.{option_and_then, is_some, if◌then◌else◌}
use Rattle.kc_core.specs.declared.tree.TypeTree.{TypeTree}
use Rattle.kc_core.specs.declared.tree.TypeTree.TheVariants as type_is
use Rattle.kc_core.specs.declared.tree.Native.TheVariants as native_is
use Rattle.kc_core.specs.declared.tree.Core.{Core}
use Rattle.kc_core.specs.declared.tree.Kind.TheVariants as core
use Rattle.kc_core.specs.declared.tree.Kind.TheViews.{outs-StrLit, outs-LocalWrite, outs-Declare, outs-Concat, outs-CallNative, outs-Block, outs-If, outs-While}
use Rattle.kc_core.specs.declared.tree.Local.{Local}
use Rattle.kc_core.specs.Formed.{Assigned, marked, Among, last_type, Formed, FormedAll, NoMore, Next}
use Rattle.kc_core.specs.Formed as formed
use Rattle.form_parser.specs.declared.tokens.Place.{Place}
use Rattle.form_parser.specs.declared.surface.Expression.{Expression}
use Rattle.form_parser.specs.declared.surface.Body.{Body}
use Rattle.form_parser.specs.declared.surface.Statement.{Statement}
use Rattle.form_parser.specs.declared.surface.Statement.TheOpen.{Statement-F, Body-F}
use Rattle.form_parser.specs.declared.surface.Statement.TheFolds.{map-Statement, map-Body, fold-roll-Statement, fold-roll-Body, ind-Statement}
use Rattle.form_parser.specs.declared.surface.Statement.TheViews.{roll-Statement, roll-Body}
use Rattle.form_elaboration.specs.declared.scope.Visible.{Visible}
use Rattle.form_elaboration.specs.declared.scope.Scope.{Scope}
use Rattle.form_elaboration.specs.Names.{same_spelling, found}
use Rattle.form_elaboration.specs.Nodes.{node, line_feed, line, printing}
use Rattle.form_elaboration.specs.Expressions.{of_type, expression_of}
use Rattle.form_elaboration.specs.Statements.{Elaborated, Step, step, stepped, declaring, declaration_of, assigning, assignment_of, condition_of, choosing, other_way, choice_of, in_loop, repeating, repetition_of, statement_layer, Several, followed, in_turn, closing, body_layer, statement_of, body_of}
use Rattle.form_elaboration.proofs.Layers.{map_twice, statement_twice}
use Rattle.form_elaboration.proofs.Fits.{same_value, none_or_some, mapped, chained, of_typed, among_same, among_trans, marked_grows, marked_on, Front, front_same, front_trans, declared_there, local_of, Fits, found_fits, fits_more, fits_append}
use Rattle.form_elaboration.proofs.FormedExpressions.{expression_formed}

-- ---- what is shown

-- among these locals, behind a step where those in a were assigned
pub record After (locals : List Local) (at : Step) (a : Assigned) : Type 0 where
  pub assigned : Assigned
  pub formed : Formed locals at.node a assigned
  pub typed : at.node.ty ≡ type_is.Unit
  pub grown : Among a assigned
  pub fits : Fits locals assigned at.scope.visible

pub record Sound (before : Scope) (at : Step) : Type 0 where
  pub grows : Front before.locals at.scope.locals
  pub after : (locals : List Local) → Front at.scope.locals locals → (a : Assigned) → Fits locals a before.visible → After locals at a

abbrev pub Sounds : Elaborated → Type 0
Sounds r = (s : Scope) (at : Step) → r s ≡ Some at → Sound s at

-- behind a body the same names are in scope as before it
pub record BodySound (before : Scope) (at : Step) : Type 0 where
  pub sound : Sound before at
  pub same : at.scope.visible ≡ before.visible

abbrev pub BodySounds : Elaborated → Type 0
BodySounds r = (s : Scope) (at : Step) → r s ≡ Some at → BodySound s at

pub record AfterAll (locals : List Local) (more : Several) (a : Assigned) : Type 0 where
  pub assigned : Assigned
  pub formed : FormedAll locals more.parts a assigned
  pub typed : last_type type_is.Unit more.parts ≡ type_is.Unit
  pub grown : Among a assigned

pub record SoundAll (before : Scope) (more : Several) : Type 0 where
  pub grows : Front before.locals more.scope.locals
  pub after : (locals : List Local) → Front more.scope.locals locals → (a : Assigned) → Fits locals a before.visible → AfterAll locals more a

-- ---- statements without bodies

-- a node is well formed where what is in scope is assigned, and assigns nothing
abbrev Stays : Scope → Core → Type 0
Stays s e = (locals : List Local) (a : Assigned) → Fits locals a s.visible → Formed locals e a a

declaring_sound : (file : ℕ) (p : Place) (is_var : Bool) (name : Place) (s : Scope) (value : Core) → Stays s value → Sound s (declaring file p is_var name s value)
declaring_sound file p is_var name s value stays =
    let x = length s.locals in
    let v : Visible = record { name = name; local = x; ty = value.ty; is_var = is_var } in
    let l = local_of v in
    let e = node file p type_is.Unit (core.Declare x (Some value)) in
    record {
      grows = record { more = l ∷ []; is = refl };
      after = λ locals front a fits.
          let there = declared_there s.locals locals l front in
          record {
            assigned = marked x true a;
            formed = formed.Declare e x l value a a (outs-Declare x (Some value)) there refl refl (stays locals a fits);
            typed = refl;
            grown = marked_grows x a;
            fits = fits_append locals (marked x true a) s.visible v (fits_more locals a (marked x true a) s.visible (marked_grows x a) fits) (record { there = there; on = marked_on x a });
          };
    }

declaration_sound : (file : ℕ) (text : List ℕ) (p : Place) (is_var : Bool) (name : Place) (value : Expression) → Sounds (declaration_of file text p is_var name value)
declaration_sound file text p is_var name value s at h = by (is_some (found text s.visible name)) h
  where
    by : (b : Bool) → (if b then None else option_map (declaring file p is_var name s) (expression_of file text s.visible value)) ≡ Some at → Sound s at
    by true k = none_or_some k
    by false k =
        let m = mapped (declaring file p is_var name s) (expression_of file text s.visible value) k in
        subst (Sound s) (sym m.is_it) (declaring_sound file p is_var name s m.value (λ locals a fits. expression_formed file text s.visible locals a fits value m.value m.was))

-- a node that leaves the scope as it is
staying_sound : (s : Scope) (e : Core) → ((locals : List Local) (a : Assigned) → Fits locals a s.visible → After locals (step e s) a) → Sound s (step e s)
staying_sound s e f = record { grows = front_same s.locals; after = λ locals front a fits. f locals a fits }

stepped_sound : (s : Scope) (o : Option Core) (at : Step) → ((e : Core) → o ≡ Some e → Sound s (step e s)) → stepped o s ≡ Some at → Sound s at
stepped_sound s o at f h = let m = mapped (λ (e : Core). step e s) o h in subst (Sound s) (sym m.is_it) (f m.value m.was)

assigning_sound : (file : ℕ) (text : List ℕ) (p name : Place) (s : Scope) (v : Visible) (value : Core) → found text s.visible name ≡ Some v → v.is_var ≡ true → value.ty ≡ v.ty → Stays s value
    → Sound s (step (assigning file p v value) s)
assigning_sound file text p name s v value is var typed stays =
    staying_sound s (assigning file p v value) (λ locals a fits.
    let fit = found_fits locals a (λ (one : Visible). same_spelling text one.name name) s.visible v fits is in
    record {
      assigned = marked v.local true a;
      formed = formed.LocalWrite (assigning file p v value) v.local (local_of v) value a a (outs-LocalWrite v.local value) fit.there var refl typed (stays locals a fits);
      typed = refl;
      grown = marked_grows v.local a;
      fits = fits_more locals a (marked v.local true a) s.visible (marked_grows v.local a) fits;
    })

assigned_sound : (file : ℕ) (text : List ℕ) (p name : Place) (value : Expression) (s : Scope) (v : Visible) (e : Core) → found text s.visible name ≡ Some v
    → (if v.is_var then option_map (assigning file p v) (of_type v.ty (expression_of file text s.visible value)) else None) ≡ Some e → Sound s (step e s)
assigned_sound file text p name value s v e is h = by v.is_var refl h
  where
    by : (b : Bool) → v.is_var ≡ b → (if b then option_map (assigning file p v) (of_type v.ty (expression_of file text s.visible value)) else None) ≡ Some e → Sound s (step e s)
    by true var k =
        let m = mapped (assigning file p v) (of_type v.ty (expression_of file text s.visible value)) k in
        let t = of_typed v.ty (expression_of file text s.visible value) m.value m.was in
        subst (λ (c : Core). Sound s (step c s)) (sym m.is_it)
        (assigning_sound file text p name s v m.value is var t.typed (λ locals a fits. expression_formed file text s.visible locals a fits value m.value t.was))
    by false var k = none_or_some k

assignment_sound : (file : ℕ) (text : List ℕ) (p name : Place) (value : Expression) → Sounds (λ s. stepped (assignment_of file text p name value s.visible) s)
assignment_sound file text p name value s at h =
    stepped_sound s (assignment_of file text p name value s.visible) at
    (λ e k.
    let write : Visible → Option Core = λ v. if v.is_var then option_map (assigning file p v) (of_type v.ty (expression_of file text s.visible value)) else None in
    let c = chained write (found text s.visible name) k in
    assigned_sound file text p name value s c.value e c.was c.is_it)
    h

printing_formed : (file : ℕ) (p : Place) (v : Core) (locals : List Local) (a : Assigned) → Formed locals v a a → Formed locals (printing file p v) a a
printing_formed file p v locals a f =
    formed.CallNative (printing file p v) native_is.ConsoleWrite (line file p v ∷ []) a a (outs-CallNative native_is.ConsoleWrite (line file p v ∷ [])) refl refl
    (Next (line file p v) [] a a a
    (formed.Concat (line file p v) (v ∷ line_feed file p ∷ []) a a (outs-Concat (v ∷ line_feed file p ∷ [])) refl
    (Next v (line_feed file p ∷ []) a a a f
    (Next (line_feed file p) [] a a a (formed.StrLit (line_feed file p) (10 ∷ []) a (outs-StrLit (10 ∷ [])) refl) (NoMore a))))
    (NoMore a))

print_sound : (file : ℕ) (text : List ℕ) (p : Place) (value : Expression) → Sounds (λ s. stepped (option_map (printing file p) (expression_of file text s.visible value)) s)
print_sound file text p value s at h =
    stepped_sound s (option_map (printing file p) (expression_of file text s.visible value)) at
    (λ e k.
    let m = mapped (printing file p) (expression_of file text s.visible value) k in
    subst (λ (c : Core). Sound s (step c s)) (sym m.is_it)
    (staying_sound s (printing file p m.value) (λ locals a fits. record {
      assigned = a;
      formed = printing_formed file p m.value locals a (expression_formed file text s.visible locals a fits value m.value m.was);
      typed = refl;
      grown = among_same a;
      fits = fits;
    })))
    h

-- ---- choices and loops

record Condition (s : Scope) (e : Core) : Type 0 where
  formed : Stays s e
  typed : e.ty ≡ type_is.Boolean

condition_holds : (file : ℕ) (text : List ℕ) (test : Expression) (s : Scope) (e : Core) → condition_of file text test s ≡ Some e → Condition s e
condition_holds file text test s e h =
    let t = of_typed type_is.Boolean (expression_of file text s.visible test) e h in
    record { formed = λ locals a fits. expression_formed file text s.visible locals a fits test e t.was; typed = t.typed }

held_sound : (file : ℕ) (p : Place) (s : Scope) (test : Core) (held : Step) → Condition s test → BodySound s held → Sound s (step (choosing file p test held.node None) held.scope)
held_sound file p s test held c b = record {
  grows = b.sound.grows;
  after = λ locals front a fits.
      let k = b.sound.after locals front a fits in
      record {
        assigned = a;
        formed = formed.IfHeld (choosing file p test held.node None) test held.node a a k.assigned a (outs-If test held.node None) refl c.typed k.typed (c.formed locals a fits) k.formed (among_same a) k.grown;
        typed = refl;
        grown = among_same a;
        fits = subst (Fits locals a) (sym b.same) fits;
      };
}

either_sound : (file : ℕ) (p : Place) (s : Scope) (test : Core) (held other : Step) → Condition s test → BodySound s held → BodySound held.scope other
    → Sound s (step (choosing file p test held.node (Some other.node)) other.scope)
either_sound file p s test held other c b d = record {
  grows = front_trans s.locals held.scope.locals other.scope.locals b.sound.grows d.sound.grows;
  after = λ locals front a fits.
      let k = b.sound.after locals (front_trans held.scope.locals other.scope.locals locals d.sound.grows front) a fits in
      let m = d.sound.after locals front a (subst (Fits locals a) (sym b.same) fits) in
      record {
        assigned = a;
        formed = formed.If (choosing file p test held.node (Some other.node)) test held.node other.node a a k.assigned m.assigned a (outs-If test held.node (Some other.node)) c.typed k.typed m.typed
            (c.formed locals a fits) k.formed m.formed k.grown m.grown;
        typed = refl;
        grown = among_same a;
        fits = subst (Fits locals a) (sym (d.same ∙ b.same)) fits;
      };
}

other_sound : (file : ℕ) (p : Place) (failed : Option Elaborated) (s : Scope) (test : Core) (held at : Step) → ((r : Elaborated) → failed ≡ Some r → BodySounds r) → Condition s test → BodySound s held
    → other_way file p failed test held ≡ Some at → Sound s at
other_sound file p None s test held at sound c b h = subst (Sound s) (same_value h) (held_sound file p s test held c b)
other_sound file p (Some r) s test held at sound c b h =
    let make : Step → Step = λ other. step (choosing file p test held.node (Some other.node)) other.scope in
    let m = mapped make (r held.scope) h in
    subst (Sound s) (sym m.is_it) (either_sound file p s test held m.value c b (sound r refl held.scope m.value m.was))

choice_sound : (file : ℕ) (text : List ℕ) (p : Place) (test : Expression) (held : Elaborated) (failed : Option Elaborated) → BodySounds held → ((r : Elaborated) → failed ≡ Some r → BodySounds r)
    → Sounds (choice_of file text p test held failed)
choice_sound file text p test held failed first second s at h =
    let c = chained (λ (t : Core). option_and_then (other_way file p failed t) (held s)) (condition_of file text test s) h in
    let d = chained (other_way file p failed c.value) (held s) c.is_it in
    other_sound file p failed s c.value d.value at second (condition_holds file text test s c.value c.was) (first s d.value d.was) d.is_it

repeating_sound : (file : ℕ) (p : Place) (label : ℕ) (s : Scope) (test : Core) (body : Step) → Condition s test → BodySound (in_loop p s) body → Sound s (repeating file p label test body)
repeating_sound file p label s test body c b = record {
  grows = b.sound.grows;
  after = λ locals front a fits.
      let k = b.sound.after locals front a fits in
      record {
        assigned = a;
        formed = formed.While (node file p type_is.Unit (core.While label test body.node)) label test body.node a a a k.assigned (outs-While label test body.node) refl c.typed k.typed
            (among_same a) (c.formed locals a fits) k.formed k.grown;
        typed = refl;
        grown = among_same a;
        fits = subst (Fits locals a) (sym b.same) fits;
      };
}

repetition_sound : (file : ℕ) (text : List ℕ) (p : Place) (test : Expression) (body : Elaborated) → BodySounds body → Sounds (repetition_of file text p test body)
repetition_sound file text p test body sound s at h =
    let c = chained (λ (t : Core). option_map (repeating file p (length s.loops) t) (body (in_loop p s))) (condition_of file text test s) h in
    let m = mapped (repeating file p (length s.loops) c.value) (body (in_loop p s)) c.is_it in
    subst (Sound s) (sym m.is_it) (repeating_sound file p (length s.loops) s c.value m.value (condition_holds file text test s c.value c.was) (sound (in_loop p s) m.value m.was))

-- ---- bodies

pub in_turn_sound : (B : Type 0) (f : B → Elaborated) → ((b : B) → Sounds (f b)) → (bs : List B) (s : Scope) (more : Several) → in_turn (map f bs) s ≡ Some more → SoundAll s more
in_turn_sound B f sound [] s more h = subst (SoundAll s) (same_value h) (record {
  grows = front_same s.locals;
  after = λ locals front a fits. record { assigned = a; formed = NoMore a; typed = refl; grown = among_same a };
})
in_turn_sound B f sound (b ∷ bs) s more h =
    let c = chained (λ (e : Step). option_map (followed e.node) (in_turn (map f bs) e.scope)) (f b s) h in
    let m = mapped (followed c.value.node) (in_turn (map f bs) c.value.scope) c.is_it in
    let first = sound b s c.value c.was in
    let rest = in_turn_sound B f sound bs c.value.scope m.value m.was in
    subst (SoundAll s) (sym m.is_it) (record {
      grows = front_trans s.locals c.value.scope.locals m.value.scope.locals first.grows rest.grows;
      after = λ locals front a fits.
          let k = first.after locals (front_trans c.value.scope.locals m.value.scope.locals locals rest.grows front) a fits in
          let l = rest.after locals front k.assigned k.fits in
          record {
            assigned = l.assigned;
            formed = Next c.value.node m.value.parts a k.assigned l.assigned k.formed l.formed;
            typed = ap (λ (t : TypeTree). last_type t m.value.parts) k.typed ∙ l.typed;
            grown = among_trans a k.assigned l.assigned k.grown l.grown;
          };
    })

closing_sound : (file : ℕ) (p : Place) (s : Scope) (more : Several) → SoundAll s more → BodySound s (closing file p s more)
closing_sound file p s more all = record {
  sound = record {
    grows = all.grows;
    after = λ locals front a fits.
        let k = all.after locals front a fits in
        record {
          assigned = k.assigned;
          formed = formed.Block (node file p type_is.Unit (core.Block more.parts)) more.parts a k.assigned (outs-Block more.parts) (sym k.typed) k.formed;
          typed = refl;
          grown = k.grown;
          fits = fits_more locals a k.assigned s.visible k.grown fits;
        };
  };
  same = refl;
}

body_sound : (file : ℕ) (p : Place) (B : Type 0) (f : B → Elaborated) → ((b : B) → Sounds (f b)) → (bs : List B) → BodySounds (λ s. option_map (closing file p s) (in_turn (map f bs) s))
body_sound file p B f sound bs s at h =
    let m = mapped (closing file p s) (in_turn (map f bs) s) h in
    subst (BodySound s) (sym m.is_it) (closing_sound file p s m.value (in_turn_sound B f sound bs s m.value m.was))

-- ---- every statement

no_way : (B : Type 0) (f : B → Elaborated) (r : Elaborated) → None ≡ Some r → BodySounds r
no_way B f r e = none_or_some e

layer_sound : (file : ℕ) (text : List ℕ) (A B : Type 0) (g : A → Elaborated) (f : B → Elaborated) → ((b : B) → BodySounds (f b)) → (y : Statement-F A B)
    → Sounds (statement_layer file text (map-Statement A B Elaborated Elaborated g f y))
layer_sound file text A B g f sound (Statement-F.Declare p is_var name value) = declaration_sound file text p is_var name value
layer_sound file text A B g f sound (Statement-F.Assign p name value) = assignment_sound file text p name value
layer_sound file text A B g f sound (Statement-F.Print p value) = print_sound file text p value
layer_sound file text A B g f sound (Statement-F.If p test held None) = choice_sound file text p test (f held) None (sound held) (no_way B f)
layer_sound file text A B g f sound (Statement-F.If p test held (Some failed)) =
    choice_sound file text p test (f held) (Some (f failed)) (sound held) (λ r e. subst BodySounds (same_value e) (sound failed))
layer_sound file text A B g f sound (Statement-F.While p test body) = repetition_sound file text p test (f body) (sound body)

pub statement_rolled : (file : ℕ) (text : List ℕ) (y : Statement-F Statement Body)
    → statement_of file text (roll-Statement y) ≡ statement_layer file text (map-Statement Statement Body Elaborated Elaborated (statement_of file text) (body_of file text) y)
unfolding statement_of body_of
statement_rolled file text y = fold-roll-Statement Elaborated Elaborated (statement_layer file text) (body_layer file) y

pub body_rolled : (file : ℕ) (text : List ℕ) (y : Body-F Statement Body)
    → body_of file text (roll-Body y) ≡ body_layer file (map-Body Statement Body Elaborated Elaborated (statement_of file text) (body_of file text) y)
unfolding statement_of body_of
body_rolled file text y = fold-roll-Body Elaborated Elaborated (statement_layer file text) (body_layer file) y

pub every_statement : (file : ℕ) (text : List ℕ) (s : Statement) → Sounds (statement_of file text s)
every_statement file text s = ind-Statement (λ s. Sounds (statement_of file text s)) (λ b. BodySounds (body_of file text b))
    (λ x y is. subst (λ z. Sounds (statement_of file text (roll-Statement z))) is
    (subst Sounds
    (sym (statement_rolled file text (map-Statement _ _ Statement Body (λ a. a.0) (λ b. b.0) y) ∙ ap (statement_layer file text) (statement_twice _ _ Statement Body Elaborated Elaborated (λ a. a.0) (λ b. b.0) (statement_of file text) (body_of file text) y)))
    (layer_sound file text _ _ (λ a. statement_of file text a.0) (λ b. body_of file text b.0) (λ b. b.1) y)))
    (λ x y is. subst (λ z. BodySounds (body_of file text (roll-Body z))) is
    (subst BodySounds
    (sym (body_rolled file text (map-Body _ _ Statement Body (λ a. a.0) (λ b. b.0) y)
    ∙ ap (λ (l : List Elaborated). λ (s : Scope). option_map (closing file y.place s) (in_turn l s)) (map_twice _ Statement Elaborated (statement_of file text) (λ a. a.0) y.statements)))
    (body_sound file y.place _ (λ a. statement_of file text a.0) (λ a. a.1) y.statements)))
    s
