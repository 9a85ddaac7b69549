-- The scan from a place on, and a step that jumps over what is known.
use Rattle.std.proofs.Common.{◌≡◌, ℕ, zero, suc, ◌+◌, ◌<◌, nat_lt, Bool, true, false, if◌then◌else◌, List, [], ◌∷◌, ◌++◌, drop, get_or, set, refl, sym, ap, subst, ◌∙◌, arith}
use Rattle.std.specs.Prelude.{⊤}
use Rattle.std.proofs.lemmas.Bool.{ltb-true}
use Rattle.grammars.specs.Automata.{Step, go, stop, accepts, goes}
use Rattle.kt_lexer.specs.declared.token.Token.{Token}
use Rattle.kt_grammar.specs.Lookahead.{step, step_in, at, at_end, is_closed}
use Rattle.kt_grammar.specs.declared.lookahead.Frame.{Frame}
use Rattle.kt_grammar.specs.declared.lookahead.Frame.TheVariants as frame
use Rattle.kt_grammar.specs.declared.lookahead.Goal.TheVariants as goal
use Rattle.kt_grammar.specs.declared.lookahead.Look.{Look}
use Rattle.kt_grammar.specs.declared.lookahead.Mode.{Mode}
use Rattle.kt_grammar.specs.declared.lookahead.Mode.TheVariants as mode
use Rattle.kt_grammar.specs.declared.lookahead.Place.{Place}
use Rattle.kt_suffixes.specs.declared.moves.Ending.{Ending}
use Rattle.kt_suffixes.specs.declared.moves.Ending.TheVariants as ending
use Rattle.kt_suffixes.specs.declared.moves.Move.{Move}
use Rattle.kt_suffixes.specs.declared.moves.Move.TheVariants as move
use Rattle.kt_suffixes.specs.Moves.{enter, behind, closed, skip, over, jump_in, jump, after, advance}
use Rattle.kt_suffixes.specs.Suffixes.{look_from, opened, suffix, IsEnding, AreEndings}
use Rattle.kt_suffixes.proofs.Within.{is_inner, Within, goes_on, closes, fails, step_within}

-- ---- one step of the scan

abbrev pub look : Bool → ℕ → Look
look b n = record { holds = b; end = n }

abbrev pub place : List Frame → Mode → Place
place fs m = record { frames = fs; mode = m }

same_look : {a b : Bool} {m n : ℕ} → a ≡ b → m ≡ n → look a m ≡ look b n
same_look {a = a} {b = b} {m = m} {n = n} e f = ap (λ x. look x m) e ∙ ap (look b) f

abbrev look_of : List Token → ℕ → Place → Look
look_of us at p = look (accepts (step goal.BeforeCall) (at_end goal.BeforeCall) us p) (at + goes (step goal.BeforeCall) (at_end goal.BeforeCall) us p)

abbrev outcome : ℕ → List Token → Step Place → Look
outcome at us (go q) = look_of us (suc at) q
outcome at us (stop b) = look b at

abbrev says : List Token → Step Place → Bool
says us k = elim k as (λ _. Bool) [ go q ↦ accepts (step goal.BeforeCall) (at_end goal.BeforeCall) us q | stop b ↦ b ]

abbrev far : List Token → Step Place → ℕ
far us k = elim k as (λ _. ℕ) [ go q ↦ suc (goes (step goal.BeforeCall) (at_end goal.BeforeCall) us q) | stop b ↦ 0 ]

outcome_is : (at : ℕ) (us : List Token) (k : Step Place) → look (says us k) (at + far us k) ≡ outcome at us k
outcome_is at us (go q) = same_look refl (omega arith)
outcome_is at us (stop b) = same_look refl (omega arith)

drop_tail : (at : ℕ) (ts us : List Token) (t : Token) → drop at ts ≡ t ∷ us → drop (suc at) ts ≡ us
drop_tail zero [] us t e = absurd (cc)
drop_tail zero (x ∷ ts) us t e = cc
drop_tail (suc n) [] us t e = absurd (cc)
drop_tail (suc n) (x ∷ ts) us t e = drop_tail n ts us t e

-- the scan after a token, by what the step does
steps : (ts us : List Token) (at : ℕ) (t : Token) (p : Place) (k : Step Place) → drop at ts ≡ t ∷ us → step goal.BeforeCall p t ≡ k → look_from ts at p ≡ outcome at us k
steps ts us at t p k e f = ap (λ vs. look_of vs at p) e ∙ outcome_is at us (step goal.BeforeCall p t) ∙ ap (outcome at us) f

pub look_on : (ts us : List Token) (at : ℕ) (t : Token) (p q : Place) → drop at ts ≡ t ∷ us → step goal.BeforeCall p t ≡ go q → look_from ts at p ≡ look_from ts (suc at) q
look_on ts us at t p q e f = steps ts us at t p (go q) e f ∙ ap (λ vs. look_of vs (suc at) q) (sym (drop_tail at ts us t e))

pub look_stop : (ts us : List Token) (at : ℕ) (t : Token) (p : Place) (b : Bool) → drop at ts ≡ t ∷ us → step goal.BeforeCall p t ≡ stop b → look_from ts at p ≡ look b at
look_stop ts us at t p b e f = steps ts us at t p (stop b) e f

pub look_end : (ts : List Token) (at : ℕ) (p : Place) → drop at ts ≡ [] → look_from ts at p ≡ look false at
look_end ts at p e = ap (λ vs. look_of vs at p) e ∙ same_look refl (omega arith)

-- ---- what a move leads to

-- the scan that says `l` goes on where the move leads
abbrev pub Leads : List Token → Look → Move → Type 0
Leads ts l (move.To p n) = l ≡ look_from ts n p
Leads ts l (move.Stop r) = l ≡ r

leads_on : (ts : List Token) {l r : Look} (m : Move) → l ≡ r → Leads ts r m → Leads ts l m
leads_on ts (move.To p n) e k = e ∙ k
leads_on ts (move.Stop x) e k = e ∙ k

choose : (P : Move → Type 0) (m n : Move) (b : Bool) → P m → P n → P (if b then m else n)
choose P m n true x y = x
choose P m n false x y = y

skip_leads : (ts : List Token) (at : ℕ) (fs : List Frame) (e : Ending) → IsEnding ts at e → Leads ts (look_from ts (suc at) (opened fs)) (skip fs e (suc at))
skip_leads ts at fs ending.Unknown k = refl
skip_leads ts at fs (ending.Fails end) k = k fs
skip_leads ts at fs (ending.Closes end) k = choose (Leads ts (look_from ts (suc at) (opened fs))) (closed fs end) (enter fs frame.Angle (suc at)) (nat_lt (suc at) end) (k fs) refl

over_leads : (ts : List Token) (at : ℕ) (fs : List Frame) (e : Ending) → IsEnding ts at e → Leads ts (look_from ts (suc at) (place fs (mode.Argument false))) (over fs e (suc at))
over_leads ts at [] e k = refl
over_leads ts at (frame.Angle ∷ fs) e k = skip_leads ts at fs e k
over_leads ts at (frame.Round ∷ fs) e k = refl
over_leads ts at (frame.List ∷ fs) e k = refl

jump_leads : (ts : List Token) (at : ℕ) (fs : List Frame) (m : Mode) (e : Ending) → IsEnding ts at e → Leads ts (look_from ts (suc at) (place fs m)) (jump_in fs m e (suc at))
jump_leads ts at fs mode.Operand e k = refl
jump_leads ts at fs mode.Arrow e k = refl
jump_leads ts at fs (mode.Argument true) e k = refl
jump_leads ts at fs (mode.Argument false) e k = over_leads ts at fs e k
jump_leads ts at fs mode.Projected e k = refl
jump_leads ts at fs mode.Wanted e k = refl
jump_leads ts at fs mode.Item e k = refl
jump_leads ts at fs mode.Part e k = refl
jump_leads ts at fs mode.Named e k = refl
jump_leads ts at fs mode.Complete e k = refl
jump_leads ts at fs mode.Star e k = refl
jump_leads ts at fs mode.Grouped e k = refl
jump_leads ts at fs mode.Listed e k = refl
jump_leads ts at fs mode.Closed e k = refl

after_leads : (ts us : List Token) (at : ℕ) (t : Token) (p : Place) (e : Ending) (k : Step Place) → drop at ts ≡ t ∷ us → step goal.BeforeCall p t ≡ k → IsEnding ts at e
    → Leads ts (look_from ts at p) (after k e at (suc at))
after_leads ts us at t p e (go q) d f k = leads_on ts (jump q e (suc at)) (look_on ts us at t p q d f) (jump_leads ts at q.frames q.mode e k)
after_leads ts us at t p e (stop b) d f k = look_stop ts us at t p b d f

advance_from : (ts : List Token) (es : List Ending) (at : ℕ) (p : Place) (us : List Token) → drop at ts ≡ us → AreEndings ts es → Leads ts (look_from ts at p) (advance es p at us)
advance_from ts es at p [] d k = look_end ts at p d
advance_from ts es at p (t ∷ us) d k = after_leads ts us at t p (get_or es at ending.Unknown) (step goal.BeforeCall p t) d refl (k at)

pub advance_leads : (ts : List Token) (es : List Ending) (at : ℕ) (p : Place) → AreEndings ts es → Leads ts (look_from ts at p) (advance es p at (drop at ts))
advance_leads ts es at p k = advance_from ts es at p (drop at ts) refl k

-- ---- a move goes on to the right

abbrev pub Ahead : ℕ → Move → Type 0
Ahead at (move.To p n) = at < n
Ahead at (move.Stop r) = ⊤

choose_ahead : (at : ℕ) (m n : Move) (b : Bool) → (b ≡ true → Ahead at m) → Ahead at n → Ahead at (if b then m else n)
choose_ahead at m n true x y = x refl
choose_ahead at m n false x y = y

skip_ahead : (at next : ℕ) (fs : List Frame) (e : Ending) → at < next → Ahead at (skip fs e next)
skip_ahead at next fs ending.Unknown l = l
skip_ahead at next fs (ending.Fails end) l = tt
skip_ahead at next fs (ending.Closes end) l = choose_ahead at (closed fs end) (enter fs frame.Angle next) (nat_lt next end) (λ h. let g = ltb-true next end h in omega (arith, l, g)) l

over_ahead : (at next : ℕ) (fs : List Frame) (e : Ending) → at < next → Ahead at (over fs e next)
over_ahead at next [] e l = l
over_ahead at next (frame.Angle ∷ fs) e l = skip_ahead at next fs e l
over_ahead at next (frame.Round ∷ fs) e l = l
over_ahead at next (frame.List ∷ fs) e l = l

jump_ahead : (at next : ℕ) (fs : List Frame) (m : Mode) (e : Ending) → at < next → Ahead at (jump_in fs m e next)
jump_ahead at next fs mode.Operand e l = l
jump_ahead at next fs mode.Arrow e l = l
jump_ahead at next fs (mode.Argument true) e l = l
jump_ahead at next fs (mode.Argument false) e l = over_ahead at next fs e l
jump_ahead at next fs mode.Projected e l = l
jump_ahead at next fs mode.Wanted e l = l
jump_ahead at next fs mode.Item e l = l
jump_ahead at next fs mode.Part e l = l
jump_ahead at next fs mode.Named e l = l
jump_ahead at next fs mode.Complete e l = l
jump_ahead at next fs mode.Star e l = l
jump_ahead at next fs mode.Grouped e l = l
jump_ahead at next fs mode.Listed e l = l
jump_ahead at next fs mode.Closed e l = l

after_ahead : (at : ℕ) (k : Step Place) (e : Ending) → Ahead at (after k e at (suc at))
after_ahead at (go q) e = jump_ahead at (suc at) q.frames q.mode e (omega arith)
after_ahead at (stop b) e = tt

pub advance_ahead : (es : List Ending) (at : ℕ) (p : Place) (us : List Token) → Ahead at (advance es p at us)
advance_ahead es at p [] = tt
advance_ahead es at p (t ∷ us) = after_ahead at (step goal.BeforeCall p t) (get_or es at ending.Unknown)

-- ---- inside `<`

-- Behind the `<` at `start` the scan goes on at `at`, with the brackets `us` inside the `<` and any around it; or the type arguments are
-- closed there.
pub data Stands (ts : List Token) (start at : ℕ) (p : Place) : Type 0 where
  inside : (us : List Frame) → p.frames ≡ us ++ frame.Angle ∷ [] → is_inner p.mode ≡ true
      → ((fs : List Frame) → look_from ts (suc start) (opened fs) ≡ look_from ts at (place (us ++ frame.Angle ∷ fs) p.mode)) → Stands ts start at p
  done : p.mode ≡ mode.Closed → ((fs : List Frame) → look_from ts (suc start) (opened fs) ≡ look_from ts at (place fs (behind fs))) → Stands ts start at p

abbrev pub Gives : List Token → ℕ → Move → Type 0
Gives ts start (move.To p n) = Stands ts start n p
Gives ts start (move.Stop r) = IsEnding ts start (ending.Fails r.end)

-- the scan behind the `<` at `start` goes on at a place
abbrev Same : List Token → ℕ → ℕ → List Frame → Mode → Type 0
Same ts start at us m = (fs : List Frame) → look_from ts (suc start) (opened fs) ≡ look_from ts at (place (us ++ frame.Angle ∷ fs) m)

stays : (ts : List Token) (start at : ℕ) (us : List Frame) (m : Mode) → is_inner m ≡ true → Same ts start at us m → Stands ts start at (place (us ++ frame.Angle ∷ []) m)
stays ts start at us m i h = inside us refl i h

closed_gives : (ts : List Token) (start at end : ℕ) (us : List Frame)
    → ((fs : List Frame) → look_from ts (suc at) (opened fs) ≡ look_from ts end (place fs (behind fs)))
    → Same ts start (suc at) (frame.Angle ∷ us) (mode.Argument false) → Gives ts start (closed (us ++ frame.Angle ∷ []) end)
closed_gives ts start at end [] k h = stays ts start end [] mode.Complete refl (λ fs. h fs ∙ k (frame.Angle ∷ fs))
closed_gives ts start at end (u ∷ us) k h = stays ts start end (u ∷ us) mode.Complete refl (λ fs. h fs ∙ k ((u ∷ us) ++ frame.Angle ∷ fs))

skip_gives : (ts : List Token) (start at : ℕ) (us : List Frame) (e : Ending) → IsEnding ts at e → Same ts start (suc at) (frame.Angle ∷ us) (mode.Argument false)
    → Gives ts start (skip (us ++ frame.Angle ∷ []) e (suc at))
skip_gives ts start at us ending.Unknown k h = stays ts start (suc at) (frame.Angle ∷ us) (mode.Argument false) refl h
skip_gives ts start at us (ending.Fails end) k h = λ fs. h fs ∙ k (us ++ frame.Angle ∷ fs)
skip_gives ts start at us (ending.Closes end) k h = choose (Gives ts start) (closed (us ++ frame.Angle ∷ []) end) (enter (us ++ frame.Angle ∷ []) frame.Angle (suc at)) (nat_lt (suc at) end) (closed_gives ts start at end us k h) (stays ts start (suc at) (frame.Angle ∷ us) (mode.Argument false) refl h)

last_gives : (ts : List Token) (start at : ℕ) (e : Ending) → IsEnding ts at e → Same ts start (suc at) [] (mode.Argument false) → Gives ts start (skip [] e (suc at))
last_gives ts start at ending.Unknown k h = stays ts start (suc at) [] (mode.Argument false) refl h
last_gives ts start at (ending.Fails end) k h = λ fs. h fs ∙ k fs
last_gives ts start at (ending.Closes end) k h = choose (Gives ts start) (closed [] end) (enter [] frame.Angle (suc at)) (nat_lt (suc at) end) (done refl (λ fs. h fs ∙ k fs)) (stays ts start (suc at) [] (mode.Argument false) refl h)

over_gives : (ts : List Token) (start at : ℕ) (us : List Frame) (e : Ending) → IsEnding ts at e → Same ts start (suc at) us (mode.Argument false)
    → Gives ts start (jump_in (us ++ frame.Angle ∷ []) (mode.Argument false) e (suc at))
over_gives ts start at [] e k h = last_gives ts start at e k h
over_gives ts start at (frame.Angle ∷ us) e k h = skip_gives ts start at us e k h
over_gives ts start at (frame.Round ∷ us) e k h = stays ts start (suc at) (frame.Round ∷ us) (mode.Argument false) refl h
over_gives ts start at (frame.List ∷ us) e k h = stays ts start (suc at) (frame.List ∷ us) (mode.Argument false) refl h

jump_gives : (ts : List Token) (start at : ℕ) (us : List Frame) (m : Mode) (e : Ending) → is_inner m ≡ true → IsEnding ts at e → Same ts start (suc at) us m
    → Gives ts start (jump_in (us ++ frame.Angle ∷ []) m e (suc at))
jump_gives ts start at us mode.Operand e i k h = absurd (cc)
jump_gives ts start at us mode.Arrow e i k h = stays ts start (suc at) us mode.Arrow i h
jump_gives ts start at us (mode.Argument true) e i k h = stays ts start (suc at) us (mode.Argument true) i h
jump_gives ts start at us (mode.Argument false) e i k h = over_gives ts start at us e k h
jump_gives ts start at us mode.Projected e i k h = stays ts start (suc at) us mode.Projected i h
jump_gives ts start at us mode.Wanted e i k h = stays ts start (suc at) us mode.Wanted i h
jump_gives ts start at us mode.Item e i k h = stays ts start (suc at) us mode.Item i h
jump_gives ts start at us mode.Part e i k h = stays ts start (suc at) us mode.Part i h
jump_gives ts start at us mode.Named e i k h = stays ts start (suc at) us mode.Named i h
jump_gives ts start at us mode.Complete e i k h = stays ts start (suc at) us mode.Complete i h
jump_gives ts start at us mode.Star e i k h = stays ts start (suc at) us mode.Star i h
jump_gives ts start at us mode.Grouped e i k h = stays ts start (suc at) us mode.Grouped i h
jump_gives ts start at us mode.Listed e i k h = stays ts start (suc at) us mode.Listed i h
jump_gives ts start at us mode.Closed e i k h = absurd (cc)

gives_so : (ts : List Token) (start at : ℕ) (e : Ending) {s r : Step Place} → s ≡ r → Gives ts start (after r e at (suc at)) → Gives ts start (after s e at (suc at))
gives_so ts start at e f g = subst (λ x. Gives ts start (after x e at (suc at))) (sym f) g

-- what a step inside `<` gives, by what it does with any brackets around
within_gives : (ts us : List Token) (start at : ℕ) (t : Token) (e : Ending) (vs : List Frame) (m : Mode) (s : Step Place) → drop at ts ≡ t ∷ us → IsEnding ts at e → Same ts start at vs m
    → Within (λ fs. step_in goal.BeforeCall (vs ++ frame.Angle ∷ fs) m t) s → Gives ts start (after s e at (suc at))
within_gives ts us start at t e vs m s d k h (goes_on ws n i f g) =
    gives_so ts start at e f (jump_gives ts start at ws n e i k (λ fs. h fs ∙ look_on ts us at t (place (vs ++ frame.Angle ∷ fs) m) (place (ws ++ frame.Angle ∷ fs) n) d (g fs)))
within_gives ts us start at t e vs m s d k h (closes f g) =
    gives_so ts start at e f (done refl (λ fs. h fs ∙ look_on ts us at t (place (vs ++ frame.Angle ∷ fs) m) (place fs (behind fs)) d (g fs)))
within_gives ts us start at t e vs m s d k h (fails f g) =
    gives_so ts start at e f (λ fs. h fs ∙ look_stop ts us at t (place (vs ++ frame.Angle ∷ fs) m) false d (g fs))

inside_gives : (ts : List Token) (es : List Ending) (start at : ℕ) (vs : List Frame) (m : Mode) (us : List Token) → drop at ts ≡ us → AreEndings ts es → is_inner m ≡ true → Same ts start at vs m
    → Gives ts start (advance es (place (vs ++ frame.Angle ∷ []) m) at us)
inside_gives ts es start at vs m [] d k i h = λ fs. h fs ∙ look_end ts at (place (vs ++ frame.Angle ∷ fs) m) d
inside_gives ts es start at vs m (t ∷ us) d k i h =
    within_gives ts us start at t (get_or es at ending.Unknown) vs m (step_in goal.BeforeCall (vs ++ frame.Angle ∷ []) m t) d (k at) h (step_within vs m t i)

pub stands_gives : (ts : List Token) (es : List Ending) (start at : ℕ) (p : Place) → AreEndings ts es → Stands ts start at p → is_closed p.mode ≡ false
    → Gives ts start (advance es p at (drop at ts))
stands_gives ts es start at p k (inside vs f i h) c =
    subst (λ fs. Gives ts start (advance es (place fs p.mode) at (drop at ts))) (sym f) (inside_gives ts es start at vs p.mode (drop at ts) refl k i h)
stands_gives ts es start at p k (done f h) c = let e : true ≡ false = ap is_closed (sym f) ∙ c in absurd (cc)

not_both : (m : Mode) → is_inner m ≡ true → is_closed m ≡ true → false ≡ true
not_both mode.Operand i c = i
not_both mode.Arrow i c = c
not_both (mode.Argument b) i c = c
not_both mode.Projected i c = c
not_both mode.Wanted i c = c
not_both mode.Item i c = c
not_both mode.Part i c = c
not_both mode.Named i c = c
not_both mode.Complete i c = c
not_both mode.Star i c = c
not_both mode.Grouped i c = c
not_both mode.Listed i c = c
not_both mode.Closed i c = i

pub stands_closed : {ts : List Token} {start at : ℕ} {p : Place} → Stands ts start at p → is_closed p.mode ≡ true → IsEnding ts start (ending.Closes at)
stands_closed {p = p} (inside vs f i h) c = let e = not_both p.mode i c in absurd (cc)
stands_closed (done f h) c = h

pub stands_end : {ts : List Token} {start at : ℕ} {p : Place} → Stands ts start at p → is_closed p.mode ≡ false → drop at ts ≡ [] → IsEnding ts start (ending.Fails at)
stands_end {ts = ts} {at = at} {p = p} (inside vs f i h) c d = λ fs. h fs ∙ look_end ts at (place (vs ++ frame.Angle ∷ fs) p.mode) d
stands_end (done f h) c d = let e : true ≡ false = ap is_closed (sym f) ∙ c in absurd (cc)

pub stands_first : (ts : List Token) (start : ℕ) → Stands ts start (suc start) (opened [])
stands_first ts start = inside [] refl refl (λ fs. refl)

-- ---- the table of endings

set_keeps : (P : ℕ → Ending → Type 0) (es : List Ending) (i : ℕ) (e : Ending) → ((j : ℕ) → P j (get_or es j ending.Unknown)) → P i e → (j : ℕ) → P j (get_or (set es i e) j ending.Unknown)
set_keeps P [] i e h k j = h j
set_keeps P (x ∷ es) zero e h k zero = k
set_keeps P (x ∷ es) zero e h k (suc j) = h (suc j)
set_keeps P (x ∷ es) (suc i) e h k zero = h zero
set_keeps P (x ∷ es) (suc i) e h k (suc j) = set_keeps (λ n. P (suc n)) es i e (λ n. h (suc n)) k j

pub set_known : (ts : List Token) (es : List Ending) (i : ℕ) (e : Ending) → AreEndings ts es → IsEnding ts i e → AreEndings ts (set es i e)
set_known ts es i e h k = set_keeps (IsEnding ts) es i e h k

-- nothing is known
abbrev pub NoneKnown : List Ending → Type 0
NoneKnown es = (j : ℕ) → get_or es j ending.Unknown ≡ ending.Unknown

pub none_pushed : (es : List Ending) → NoneKnown es → NoneKnown (es ++ ending.Unknown ∷ [])
none_pushed [] h zero = refl
none_pushed [] h (suc j) = refl
none_pushed (x ∷ es) h zero = h zero
none_pushed (x ∷ es) h (suc j) = none_pushed es (λ n. h (suc n)) j

pub none_known : (ts : List Token) (es : List Ending) → NoneKnown es → AreEndings ts es
none_known ts es h j = subst (IsEnding ts j) (sym (h j)) tt

-- ---- what the code has of a move

pub first_stands : (ts : List Token) (start at : ℕ) (p : Place) → at ≡ suc start → p ≡ opened [] → Stands ts start at p × (is_closed p.mode ≡ false)
first_stands ts start at p e f = subst (λ n. Stands ts start n p × (is_closed p.mode ≡ false)) (sym e) (subst (λ q. Stands ts start (suc start) q × (is_closed q.mode ≡ false)) (sym f) (stands_first ts start, refl))

pub gives_as : (ts : List Token) (es : List Ending) (start at : ℕ) (p : Place) (n : Move) {m : Move} → m ≡ advance es p at (drop at ts) → m ≡ n → AreEndings ts es → Stands ts start at p × (is_closed p.mode ≡ false) → Gives ts start n
gives_as ts es start at p n e f k v = subst (Gives ts start) (sym e ∙ f) (stands_gives ts es start at p k v.0 v.1)

pub ahead_as : (ts : List Token) (es : List Ending) (at : ℕ) (p : Place) (n : Move) {m : Move} → m ≡ advance es p at (drop at ts) → m ≡ n → Ahead at n
ahead_as ts es at p n e f = subst (Ahead at) (sym e ∙ f) (advance_ahead es at p (drop at ts))

pub leads_as : (ts : List Token) (es : List Ending) (at : ℕ) (p : Place) (n : Move) {m : Move} → m ≡ advance es p at (drop at ts) → m ≡ n → AreEndings ts es → Leads ts (look_from ts at p) n
leads_as ts es at p n e f k = subst (Leads ts (look_from ts at p)) (sym e ∙ f) (advance_leads ts es at p k)

-- the scan that the table is about
pub starts_as : (ts : List Token) (es : List Ending) (at : ℕ) (fs : List Frame) (n : Move) {m : Move} → fs ≡ [] → m ≡ advance es (place fs mode.Operand) at (drop at ts) → m ≡ n → AreEndings ts es
    → Leads ts (suffix ts at) n
starts_as ts es at fs n e f g k = subst (λ us. Leads ts (look_from ts at (place us mode.Operand)) n) e (leads_as ts es at (place fs mode.Operand) n f g k)
