-- What is known in a node's code is right: choices and loops.
use Rattle.std.proofs.Common.{◌≡◌, ℕ, ◌+◌, List, [], ◌∷◌, ◌++◌, length, Option, Some, Bool, true, false, not, refl, sym, ap, ◌∙◌, subst, arith}
use Rattle.std.specs.Prelude.{◌&&◌, ◌||◌, if◌then◌else◌, pos}
use Rattle.kc_core.specs.declared.tree.TypeTree.{TypeTree}
use Rattle.kc_core.specs.declared.tree.TypeTree.TheVariants as type_is
use Rattle.kc_core.specs.declared.tree.Local.{Local}
use Rattle.kc_core.specs.Formed.{Assigned, Among}
use Rattle.class_file.specs.declared.class.VType.{VType}
use Rattle.class_file.specs.declared.class.VType.TheVariants.{Integer}
use Rattle.class_file.specs.Typing.{takes_one}
use Rattle.stack_code.specs.Code.{Operation, Discard, Jump, bytes, kept, kept_bytes, plain, back, condition, condition_size, if_code, over, over_size, either_ops, either_bytes, if_else_code, returns, body_size, while_code, discards}
use Rattle.stack_code.specs.Frames.{Known, text_type, value_types, in_line, both, kept_known, with_assigned, with_value, Traced, behind, plain_traced, meeting, condition_known, if_traced, over_known, either_known, if_else_traced, returns_known, while_traced}
use Rattle.stack_code.proofs.Lists.{bytes_append}
use Rattle.stack_code.proofs.Runs.{kept_all, kept_size, both_on}
use Rattle.stack_code.proofs.Choices.{back_to, if_size, either_size, while_size}
use Rattle.class_file.specs.Rows.{target}
use Rattle.stack_code.proofs.Flowing.{AllGood, Flows, Good, Run, Stands, Within, flows_at, flows_here, flows_more, in_turn, join, no_jump, split}
use Rattle.stack_code.proofs.Fitting.{Fits, below_first, below_second, goes_first, goes_second, meets, meets_first, more_stands, place_is, plain_fits, within_meeting, within_same, within_trans}
use Rattle.stack_code.proofs.Flowing.{kept_even, even_both}

module _ (locals : List Local) (there : ℕ → Option Known) (named : ℕ → Bool) where
  -- ---- choices and loops

  -- a child whose type is known
  pub typed_run : (x : Traced) (s1 s2 : Assigned) (ty : TypeTree) → x.emitted.ty ≡ ty → Fits locals there named x s1 s2 → (at : ℕ) (k : Known) → Within locals there named s1 k.assigned → Run locals there named at x.emitted.code (x.known k) k x.emitted.goes_on (with_value ty (x.after k.assigned) k)
  typed_run x s1 s2 ty e fx at k i = subst (λ (t : TypeTree). Run locals there named at x.emitted.code (x.known k) k x.emitted.goes_on (with_value t (x.after k.assigned) k)) e (fx.run at k i)

  pub idle_on : (goes : Bool) (at : ℕ) (k : Known) → goes ≡ true → Run locals there named at [] [] k goes k
  idle_on goes at k e = λ h f. (tt, flows_at locals there named k (at + 0) at (omega arith) (f e))

  -- a condition, and code behind it
  pub cond_run : (c : Traced) (s1 s2 : Assigned) → Fits locals there named c s1 s2 → c.emitted.ty ≡ type_is.Boolean → (t : Bool) → c.emitted.always ≡ t → (n at : ℕ) (k : Known) → Within locals there named s1 k.assigned →
      (t ≡ false → c.exits false ≡ true → Flows locals there named (with_assigned (c.jumped false k.assigned) k) (at + c.emitted.test_size false + n)) →
      Run locals there named at (if t then [] else c.emitted.test false n) (if t then [] else c.known_test false k) k c.emitted.goes_on (with_assigned (if t then k.assigned else c.passed false k.assigned) k)
  cond_run c s1 s2 fc tc true e n at k i f = idle_on c.emitted.goes_on at k (fc.lives e)
  cond_run c s1 s2 fc tc false e n at k i f = fc.run_test tc false n at k i (f refl)

  pub cond_even : (c : Traced) (s1 s2 : Assigned) → Fits locals there named c s1 s2 → (t : Bool) (n : ℕ) (k : Known) → length (if t then [] else c.emitted.test false n) ≡ length (if t then [] else c.known_test false k)
  cond_even c s1 s2 fc true n k = refl
  cond_even c s1 s2 fc false n k = fc.even_test false n k

  -- what is assigned where a condition holds
  abbrev pub held_by : Traced → Bool → Assigned → Assigned
  held_by c t s = if t then s else c.passed false s

  pub held_grows : (c : Traced) (s1 s2 : Assigned) → Fits locals there named c s1 s2 → (t : Bool) (s : Assigned) → Within locals there named s (held_by c t s)
  held_grows c s1 s2 fc true s = λ x i on. on
  held_grows c s1 s2 fc false s = fc.grows_passed false s

  pub held_covers : (c : Traced) (s1 s2 : Assigned) → Fits locals there named c s1 s2 → (t : Bool) → c.emitted.always ≡ t → (s : Assigned) → Within locals there named s1 s → Within locals there named s2 (held_by c t s)
  held_covers c s1 s2 fc true e s i = fc.sure e s i
  held_covers c s1 s2 fc false e s i = fc.covers_passed false s i

  -- code that runs where a condition holds
  pub if_fits : (c a : Traced) (s1 s2 s3 after : Assigned) → c.emitted.ty ≡ type_is.Boolean → a.emitted.ty ≡ type_is.Unit → Fits locals there named c s1 s2 → Fits locals there named a s2 s3 → Among after s2 → Among after s3 → Fits locals there named (if_traced (if_code c.emitted a.emitted type_is.Unit) c a) s1 after
  if_fits c a s1 s2 s3 after tc ta fc fa lc la =
      plain_fits locals there named type_is.Unit (condition_size c.emitted + kept_bytes c.emitted.goes_on a.emitted.size) (1 + c.emitted.nodes + a.emitted.nodes) (if c.emitted.always then a.emitted.goes_on else c.emitted.goes_on) (condition c.emitted a.emitted.size ++ kept c.emitted.goes_on a.emitted.code) (ends c.emitted.always) (known c.emitted.always) s1 after
      (if_size c.emitted a.emitted fc.sized fa.sized)
      (λ k. even_both (condition c.emitted a.emitted.size) (kept c.emitted.goes_on a.emitted.code) (condition_known c k) (kept_known c.emitted.goes_on (a.known (H c.emitted.always k))) (cond_even c s1 s2 fc c.emitted.always a.emitted.size k) (kept_even c.emitted.goes_on a.emitted.code (a.known (H c.emitted.always k)) (fa.even (H c.emitted.always k))))
      (λ s. within_meeting locals there named (not c.emitted.always && c.exits false) (c.jumped false s) (a.after (held_by c c.emitted.always s)) s (fc.grows_jumped false s) (within_trans locals there named s (held_by c c.emitted.always s) (a.after (held_by c c.emitted.always s)) (held_grows c s1 s2 fc c.emitted.always s) (fa.grows (held_by c c.emitted.always s))))
      (λ s i. within_meeting locals there named (not c.emitted.always && c.exits false) (c.jumped false s) (a.after (held_by c c.emitted.always s)) after (within_same locals there named s2 after lc (c.jumped false s) (fc.covers_jumped false s i)) (within_same locals there named s3 after la (a.after (held_by c c.emitted.always s)) (fa.covers (held_by c c.emitted.always s) (held_covers c s1 s2 fc c.emitted.always refl s i))))
      (λ at k i. run c.emitted.always refl at k i)
    where
      H : Bool → Known → Known
      H t k = with_assigned (held_by c t k.assigned) k

      ends : Bool → Assigned → Assigned
      ends t s = meeting (not t && c.exits false) (c.jumped false s) (a.after (held_by c t s))

      known : Bool → Known → List Known
      known t k = (if t then [] else c.known_test false k) ++ kept_known c.emitted.goes_on (a.known (H t k))

      ops : Bool → List Operation
      ops t = (if t then [] else c.emitted.test false a.emitted.size) ++ kept c.emitted.goes_on a.emitted.code

      both_run : (t : Bool) → c.emitted.always ≡ t → (at : ℕ) (k : Known) → Within locals there named s1 k.assigned → (t ≡ false → c.exits false ≡ true → Flows locals there named (with_assigned (c.jumped false k.assigned) k) (at + c.emitted.test_size false + a.emitted.size)) → Run locals there named at (ops t) (known t k) k (c.emitted.goes_on && a.emitted.goes_on) (with_assigned (a.after (held_by c t k.assigned)) k)
      both_run t e at k i f =
          in_turn locals there named at (if t then [] else c.emitted.test false a.emitted.size) a.emitted.code (if t then [] else c.known_test false k) (a.known (H t k)) k (H t k) (with_assigned (a.after (held_by c t k.assigned)) k) c.emitted.goes_on a.emitted.goes_on (cond_even c s1 s2 fc t a.emitted.size k)
          (cond_run c s1 s2 fc tc t e a.emitted.size at k i f)
          (λ on. typed_run a s2 s3 type_is.Unit ta fa (at + bytes (if t then [] else c.emitted.test false a.emitted.size)) (H t k) (held_covers c s1 s2 fc t e k.assigned i))

      run : (t : Bool) → c.emitted.always ≡ t → (at : ℕ) (k : Known) → Within locals there named s1 k.assigned → Run locals there named at (ops t) (known t k) k (if t then a.emitted.goes_on else c.emitted.goes_on) (with_assigned (ends t k.assigned) k)
      run true e at k i = λ h end. both_run true e at k i (λ q. absurd cc) h (λ on. end (goes_second locals there named c.emitted.goes_on a.emitted.goes_on on))
      run false e at k i = λ h end.
          both_run false e at k i
          (λ q x. flows_at locals there named (with_assigned (c.jumped false k.assigned) k) (at + bytes (ops false)) (at + c.emitted.test_size false + a.emitted.size) (place (fc.on false x))
          (meets_first locals there named (c.exits false) (c.jumped false k.assigned) (a.after (c.passed false k.assigned)) k.stack (at + bytes (ops false)) x (end_named h x) (end (fc.on false x))))
          h
          (λ on. meets locals there named (c.exits false) (c.jumped false k.assigned) (a.after (c.passed false k.assigned)) k.stack (at + bytes (ops false)) (end_named h) (end (goes_first locals there named c.emitted.goes_on a.emitted.goes_on on)))
        where
          place : c.emitted.goes_on ≡ true → at + bytes (ops false) ≡ at + c.emitted.test_size false + a.emitted.size
          place on =
              let r = bytes_append (c.emitted.test false a.emitted.size) (kept c.emitted.goes_on a.emitted.code) in
              let q = kept_size c.emitted.goes_on a.emitted.code in
              let g = kept_all c.emitted.goes_on (bytes a.emitted.code) on in
              let y = fc.sized.test false a.emitted.size in
              omega (arith, r, q, g, y, fa.sized.whole)

          end_named : Stands locals there named at (ops false) (known false k) → c.exits false ≡ true → named (at + bytes (ops false)) ≡ true
          end_named h x =
              let s = split locals there named (c.emitted.test false a.emitted.size) (kept c.emitted.goes_on a.emitted.code) (c.known_test false k) (kept_known c.emitted.goes_on (a.known (H false k))) at (fc.even_test false a.emitted.size k) h in
              subst (λ p. named p ≡ true) (sym (place (fc.on false x))) (fc.names false a.emitted.size at k s.0 x)

  abbrev pub jump_over : Bool → ℕ → List Operation
  jump_over goes n = kept goes (Jump (pos (n + 3)) ∷ [])

  -- two ways, of which the first one jumps over the second
  pub ways_run : (at : ℕ) (t a b : List Operation) (kt ka kb : List Known) (k P J : Known) (p q : Assigned) (S : List VType) (goes ga gb exits : Bool) (n : ℕ) → length t ≡ length kt → length a ≡ length ka → n ≡ bytes b → (exits ≡ true → goes ≡ true) →
      ((exits ≡ true → Flows locals there named J (at + bytes t + bytes a + bytes (jump_over ga n))) → Run locals there named at t kt k goes P) → ((at : ℕ) → Run locals there named at a ka P ga (record { assigned = p; stack = S })) → ((at : ℕ) → Run locals there named at b kb J gb (record { assigned = q; stack = S })) →
      Run locals there named at (t ++ kept goes (a ++ (jump_over ga n ++ b))) (kt ++ kept_known goes (ka ++ (kept_known ga (record { assigned = p; stack = S } ∷ []) ++ kb))) k (goes && (ga || gb)) (record { assigned = meeting ga p q; stack = S })
  ways_run at t a b kt ka kb k P J p q S false ga gb exits n et ea e on rt ra rb = λ h end.
      let s = split locals there named t [] kt [] at et h in
      let r = rt (λ x. absurd (let z = on x in cc)) s.0 (λ x. absurd cc) in
      (join locals there named t [] kt [] at r.0 tt, r.1)
  ways_run at t a b kt ka kb k P J p q S true true gb exits n et ea e on rt ra rb = λ h end.
      let s1 = split locals there named t (a ++ (Jump (pos (n + 3)) ∷ b)) kt (ka ++ (A ∷ kb)) at et h in
      let s2 = split locals there named a (Jump (pos (n + 3)) ∷ b) ka (A ∷ kb) (at + bytes t) ea s1.1 in
      let sb = more_stands locals there named m (Jump (pos (n + 3))) b A kb s2.1 in
      let name : named (m + (n + 3)) ≡ true = s2.1.1 (m + (n + 3)) refl in
      let z : at + bytes (t ++ (a ++ (Jump (pos (n + 3)) ∷ b))) ≡ m + (n + 3) = (let u = bytes_append t (a ++ (Jump (pos (n + 3)) ∷ b)) in let v = bytes_append a (Jump (pos (n + 3)) ∷ b) in omega (arith, u, v, e)) in
      let f : Flows locals there named M (m + (n + 3)) = flows_at locals there named M (at + bytes (t ++ (a ++ (Jump (pos (n + 3)) ∷ b)))) (m + (n + 3)) z (end refl) in
      let gb = rb (m + 3) sb (λ x. flows_at locals there named B (m + (n + 3)) (m + 3 + bytes b) (omega (arith, e)) (flows_more locals there named B M (m + (n + 3)) name (below_second locals there named p q S) f)) in
      let g : Good locals there named m (Jump (pos (n + 3))) A = record { takes = tt; jumps = λ to y. flows_at locals there named A (m + (n + 3)) to (place_is locals there named (m + (n + 3)) to y) (flows_more locals there named A M (m + (n + 3)) name (below_first locals there named p q S) f); goes = λ y. absurd cc } in
      let ga = ra (at + bytes t) s2.0 (λ x. flows_here locals there named A m s2.1.0) in
      let gt = rt (λ x. flows_at locals there named J (m + 3) (m + (3 + 0)) (omega arith) gb.1) s1.0 (λ x. ga.1) in
      (join locals there named t (a ++ (Jump (pos (n + 3)) ∷ b)) kt (ka ++ (A ∷ kb)) at gt.0 (join locals there named a (Jump (pos (n + 3)) ∷ b) ka (A ∷ kb) (at + bytes t) ga.0 (g, gb.0)), gt.1)
    where
      m : ℕ
      m = at + bytes t + bytes a

      A : Known
      A = record { assigned = p; stack = S }

      B : Known
      B = record { assigned = q; stack = S }

      M : Known
      M = record { assigned = both p q; stack = S }
  ways_run at t a b kt ka kb k P J p q S true false gb exits n et ea e on rt ra rb = λ h end.
      let s1 = split locals there named t (a ++ b) kt (ka ++ kb) at et h in
      let s2 = split locals there named a b ka kb (at + bytes t) ea s1.1 in
      let z : at + bytes (t ++ (a ++ b)) ≡ m + bytes b = (let u = bytes_append t (a ++ b) in let v = bytes_append a b in omega (arith, u, v)) in
      let gb = rb m s2.1 (λ x. flows_at locals there named B (at + bytes (t ++ (a ++ b))) (m + bytes b) z (end x)) in
      let ga = ra (at + bytes t) s2.0 (λ x. absurd cc) in
      let gt = rt (λ x. flows_at locals there named J m (m + 0) (omega arith) gb.1) s1.0 (λ x. ga.1) in
      (join locals there named t (a ++ b) kt (ka ++ kb) at gt.0 (join locals there named a b ka kb (at + bytes t) ga.0 gb.0), gt.1)
    where
      m : ℕ
      m = at + bytes t + bytes a

      B : Known
      B = record { assigned = q; stack = S }

  pub if_else_fits : (ty : TypeTree) (c a b : Traced) (s1 s2 s3 s4 after : Assigned) → c.emitted.ty ≡ type_is.Boolean → a.emitted.ty ≡ ty → b.emitted.ty ≡ ty → Fits locals there named c s1 s2 → Fits locals there named a s2 s3 → Fits locals there named b s2 s4 → Among after s3 → Among after s4 → Fits locals there named (if_else_traced (if_else_code c.emitted a.emitted b.emitted ty) c a b) s1 after
  if_else_fits ty c a b s1 s2 s3 s4 after tc ta tb fc fa fb la lb = by_case c.emitted.always refl
    where
      nodes : ℕ
      nodes = 1 + c.emitted.nodes + a.emitted.nodes + b.emitted.nodes

      either_goes : Bool
      either_goes = c.emitted.goes_on && (a.emitted.goes_on || b.emitted.goes_on)

      ends : Assigned → Assigned
      ends s = meeting a.emitted.goes_on (a.after (c.passed false s)) (b.after (c.jumped false s))

      over_bytes : ℕ
      over_bytes = a.emitted.size + over_size a.emitted

      even : (k : Known) → length (either_ops c.emitted a.emitted b.emitted) ≡ length (either_known c a b k)
      even k =
          let P = with_assigned (c.passed false k.assigned) k in
          let J = with_assigned (c.jumped false k.assigned) k in
          even_both (c.emitted.test false over_bytes) (kept c.emitted.goes_on (a.emitted.code ++ (over a.emitted b.emitted.size ++ b.emitted.code))) (c.known_test false k) (kept_known c.emitted.goes_on (a.known P ++ (over_known a P ++ b.known J))) (fc.even_test false over_bytes k)
          (kept_even c.emitted.goes_on (a.emitted.code ++ (over a.emitted b.emitted.size ++ b.emitted.code)) (a.known P ++ (over_known a P ++ b.known J))
          (even_both a.emitted.code (over a.emitted b.emitted.size ++ b.emitted.code) (a.known P) (over_known a P ++ b.known J) (fa.even P)
          (even_both (over a.emitted b.emitted.size) b.emitted.code (over_known a P) (b.known J) (kept_even a.emitted.goes_on (Jump (pos (b.emitted.size + 3)) ∷ []) (behind a P ∷ []) refl) (fb.even J))))

      grows : (s : Assigned) → Within locals there named s (ends s)
      grows s =
          within_meeting locals there named a.emitted.goes_on (a.after (c.passed false s)) (b.after (c.jumped false s)) s
          (within_trans locals there named s (c.passed false s) (a.after (c.passed false s)) (fc.grows_passed false s) (fa.grows (c.passed false s)))
          (within_trans locals there named s (c.jumped false s) (b.after (c.jumped false s)) (fc.grows_jumped false s) (fb.grows (c.jumped false s)))

      covers : (s : Assigned) → Within locals there named s1 s → Within locals there named after (ends s)
      covers s i =
          within_meeting locals there named a.emitted.goes_on (a.after (c.passed false s)) (b.after (c.jumped false s)) after
          (within_same locals there named s3 after la (a.after (c.passed false s)) (fa.covers (c.passed false s) (fc.covers_passed false s i)))
          (within_same locals there named s4 after lb (b.after (c.jumped false s)) (fb.covers (c.jumped false s) (fc.covers_jumped false s i)))

      -- the known before the jump over is by the child's own type
      same_value : (s : Assigned) (k : Known) → with_value a.emitted.ty s k ≡ with_value ty s k
      same_value s k = ap (λ (t : TypeTree). with_value t s k) ta

      run : (at : ℕ) (k : Known) → Within locals there named s1 k.assigned → Run locals there named at (either_ops c.emitted a.emitted b.emitted) (either_known c a b k) k either_goes (with_value ty (ends k.assigned) k)
      run at k i =
          let P = with_assigned (c.passed false k.assigned) k in
          let J = with_assigned (c.jumped false k.assigned) k in
          subst (λ (v : Known). Run locals there named at (either_ops c.emitted a.emitted b.emitted) (c.known_test false k ++ kept_known c.emitted.goes_on (a.known P ++ (kept_known a.emitted.goes_on (v ∷ []) ++ b.known J))) k either_goes (with_value ty (ends k.assigned) k)) (sym (same_value (a.after (c.passed false k.assigned)) P))
          (ways_run at (c.emitted.test false over_bytes) a.emitted.code b.emitted.code (c.known_test false k) (a.known P) (b.known J) k P J (a.after (c.passed false k.assigned)) (b.after (c.jumped false k.assigned)) (value_types ty ++ k.stack) c.emitted.goes_on a.emitted.goes_on b.emitted.goes_on (c.exits false) b.emitted.size
          (fc.even_test false over_bytes k) (fa.even P) (sym fb.sized.whole) (fc.on false)
          (λ f. fc.run_test tc false over_bytes at k i (λ x. flows_at locals there named J (at + bytes (c.emitted.test false over_bytes) + bytes a.emitted.code + bytes (jump_over a.emitted.goes_on b.emitted.size)) (at + c.emitted.test_size false + over_bytes)
          (let y = fc.sized.test false over_bytes in let w = kept_size a.emitted.goes_on (Jump (pos (b.emitted.size + 3)) ∷ []) in omega (arith, y, w, fa.sized.whole)) (f x)))
          (λ at. typed_run a s2 s3 ty ta fa at P (fc.covers_passed false k.assigned i))
          (λ at. typed_run b s2 s4 ty tb fb at J (fc.covers_jumped false k.assigned i)))

      by_case : (t : Bool) → c.emitted.always ≡ t → Fits locals there named (plain_traced (plain ty (if t then a.emitted.size else either_bytes c.emitted a.emitted b.emitted) nodes (if t then a.emitted.goes_on else either_goes) (if t then a.emitted.code else either_ops c.emitted a.emitted b.emitted)) (λ s. if t then a.after s else ends s) (λ k. if t then a.known k else either_known c a b k)) s1 after
      by_case true e =
          plain_fits locals there named ty a.emitted.size nodes a.emitted.goes_on a.emitted.code a.after a.known s1 after fa.sized.whole fa.even fa.grows
          (λ s i. within_same locals there named s3 after la (a.after s) (fa.covers s (fc.sure e s i)))
          (λ at k i. typed_run a s2 s3 ty ta fa at k (fc.sure e k.assigned i))
      by_case false e =
          plain_fits locals there named ty (either_bytes c.emitted a.emitted b.emitted) nodes either_goes (either_ops c.emitted a.emitted b.emitted) ends (either_known c a b) s1 after
          (either_size c.emitted a.emitted b.emitted fc.sized fa.sized fb.sized) even grows covers run

  -- ---- the jump back of a loop

  abbrev pub returning : TypeTree → ℕ → List Operation
  returning ty n = discards ty ++ Jump (back n) ∷ []

  abbrev pub returning_known : TypeTree → Known → List Known
  returning_known ty k = in_line (discards ty ++ Jump (pos 0) ∷ []) k

  abbrev pub valued : TypeTree → Assigned → List VType → Known
  valued ty s S = record { assigned = s; stack = value_types ty ++ S }

  pub returning_even : (ty : TypeTree) (n : ℕ) (k : Known) → length (returning ty n) ≡ length (returning_known ty k)
  returning_even type_is.Int n k = refl
  returning_even type_is.Boolean n k = refl
  returning_even type_is.String n k = refl
  returning_even type_is.Unit n k = refl

  pub returning_first : (ty : TypeTree) (n at : ℕ) (s : Assigned) (S : List VType) → Stands locals there named at (returning ty n) (returning_known ty (valued ty s S)) → Flows locals there named (valued ty s S) at
  returning_first type_is.Int n at s S h = flows_here locals there named (valued type_is.Int s S) at h.0
  returning_first type_is.Boolean n at s S h = flows_here locals there named (valued type_is.Boolean s S) at h.0
  returning_first type_is.String n at s S h = flows_here locals there named (valued type_is.String s S) at h.0
  returning_first type_is.Unit n at s S h = flows_here locals there named (valued type_is.Unit s S) at h.0

  pub back_good : (at n to : ℕ) (s s0 : Assigned) (S : List VType) → target at (back n) ≡ to → Within locals there named s0 s → Flows locals there named (record { assigned = s0; stack = S }) to → Stands locals there named at (Jump (back n) ∷ []) (record { assigned = s; stack = S } ∷ []) → AllGood locals there named at (Jump (back n) ∷ []) (record { assigned = s; stack = S } ∷ [])
  back_good at n to s s0 S e w f h = (
    record {
      takes = tt;
      jumps = λ t q. flows_at locals there named K to t (sym e ∙ place_is locals there named (target at (back n)) t q) (flows_more locals there named K (record { assigned = s0; stack = S }) to (h.1 to (ap (λ (m : ℕ). let o : Option ℕ = Some m in o) e)) (record { fits = w; stack = refl }) f);
      goes = λ q. absurd cc;
    },
    tt,
  )
    where
      K : Known
      K = record { assigned = s; stack = S }

  pub discard_good : (at : ℕ) (t : VType) (s : Assigned) (S : List VType) → takes_one t ≡ true → there (at + 1) ≡ Some (record { assigned = s; stack = S }) → Good locals there named at Discard (record { assigned = s; stack = t ∷ S })
  discard_good at t s S e h = record { takes = (t, S, e, refl); jumps = λ to q. absurd (no_jump locals there named to q); goes = λ q. flows_here locals there named (record { assigned = s; stack = S }) (at + 1) h }

  pub returning_good : (ty : TypeTree) (n at to : ℕ) (s s0 : Assigned) (S : List VType) → target (at + bytes (discards ty)) (back n) ≡ to → Within locals there named s0 s → Flows locals there named (record { assigned = s0; stack = S }) to → Stands locals there named at (returning ty n) (returning_known ty (valued ty s S)) → AllGood locals there named at (returning ty n) (returning_known ty (valued ty s S))
  returning_good type_is.Int n at to s s0 S e w f h = let h1 = more_stands locals there named at Discard (Jump (back n) ∷ []) (valued type_is.Int s S) (record { assigned = s; stack = S } ∷ []) h in (discard_good at Integer s S refl h1.0, back_good (at + 1) n to s s0 S e w f h1)
  returning_good type_is.Boolean n at to s s0 S e w f h = let h1 = more_stands locals there named at Discard (Jump (back n) ∷ []) (valued type_is.Boolean s S) (record { assigned = s; stack = S } ∷ []) h in (discard_good at Integer s S refl h1.0, back_good (at + 1) n to s s0 S e w f h1)
  returning_good type_is.String n at to s s0 S e w f h = let h1 = more_stands locals there named at Discard (Jump (back n) ∷ []) (valued type_is.String s S) (record { assigned = s; stack = S } ∷ []) h in (discard_good at text_type s S refl h1.0, back_good (at + 1) n to s s0 S e w f h1)
  returning_good type_is.Unit n at to s s0 S e w f h = back_good at n to s s0 S (let z : at + 0 ≡ at = omega arith in ap (λ (m : ℕ). target m (back n)) (sym z) ∙ e) w f h

  -- the turns of a loop
  pub loop_run : (at : ℕ) (c a : List Operation) (kc ka : List Known) (s p q : Assigned) (S : List VType) (ty : TypeTree) (goes ga : Bool) (n : ℕ) → length c ≡ length kc → length a ≡ length ka → n ≡ bytes c + bytes a + bytes (discards ty) → Within locals there named s q →
      Run locals there named at c kc (record { assigned = s; stack = S }) goes (record { assigned = p; stack = S }) → ((at : ℕ) → Run locals there named at a ka (record { assigned = p; stack = S }) ga (valued ty q S)) →
      Stands locals there named at (c ++ kept goes (a ++ kept ga (returning ty n))) (kc ++ kept_known goes (ka ++ kept_known ga (returning_known ty (valued ty q S)))) →
      AllGood locals there named at (c ++ kept goes (a ++ kept ga (returning ty n))) (kc ++ kept_known goes (ka ++ kept_known ga (returning_known ty (valued ty q S)))) × Flows locals there named (record { assigned = s; stack = S }) at
  loop_run at c a kc ka s p q S ty false ga n ec ea e w rc ra h =
      let s1 = split locals there named c [] kc [] at ec h in
      let r = rc s1.0 (λ x. absurd cc) in
      (join locals there named c [] kc [] at r.0 tt, r.1)
  loop_run at c a kc ka s p q S ty true false n ec ea e w rc ra h =
      let s1 = split locals there named c (a ++ []) kc (ka ++ []) at ec h in
      let s2 = split locals there named a [] ka [] (at + bytes c) ea s1.1 in
      let ga = ra (at + bytes c) s2.0 (λ x. absurd cc) in
      let gc = rc s1.0 (λ x. ga.1) in
      (join locals there named c (a ++ []) kc (ka ++ []) at gc.0 (join locals there named a [] ka [] (at + bytes c) ga.0 tt), gc.1)
  loop_run at c a kc ka s p q S ty true true n ec ea e w rc ra h =
      let s1 = split locals there named c (a ++ returning ty n) kc (ka ++ returning_known ty (valued ty q S)) at ec h in
      let s2 = split locals there named a (returning ty n) ka (returning_known ty (valued ty q S)) (at + bytes c) ea s1.1 in
      let ga = ra (at + bytes c) s2.0 (λ x. returning_first ty n (at + bytes c + bytes a) q S s2.1) in
      let gc = rc s1.0 (λ x. ga.1) in
      let z : at + bytes c + bytes a + bytes (discards ty) ≡ at + n = omega (arith, e) in (
        join locals there named c (a ++ returning ty n) kc (ka ++ returning_known ty (valued ty q S)) at gc.0
            (join locals there named a (returning ty n) ka (returning_known ty (valued ty q S)) (at + bytes c) ga.0
            (returning_good ty n (at + bytes c + bytes a) at q s S (ap (λ (m : ℕ). target m (back n)) z ∙ back_to at n) w gc.1 s2.1)),
        gc.1,
      )

  pub while_fits : (c a : Traced) (s1 loop s2 s3 : Assigned) → c.emitted.ty ≡ type_is.Boolean → Among loop s1 → Fits locals there named c loop s2 → Fits locals there named a s2 s3 → Fits locals there named (while_traced (while_code c.emitted a.emitted type_is.Unit) c a) s1 s2
  while_fits c a s1 loop s2 s3 tc li fc fa =
      plain_fits locals there named type_is.Unit (condition_size c.emitted + kept_bytes c.emitted.goes_on (body_size a.emitted)) (1 + c.emitted.nodes + a.emitted.nodes) (c.emitted.goes_on && not c.emitted.always) (condition c.emitted (body_size a.emitted) ++ kept c.emitted.goes_on (a.emitted.code ++ returns a.emitted n)) (ends c.emitted.always) (known c.emitted.always) s1 s2
      (while_size c.emitted a.emitted fc.sized fa.sized)
      even
      (grows c.emitted.always)
      (λ s i. covers c.emitted.always refl s i)
      (λ at k i. run c.emitted.always refl at k i)
    where
      n : ℕ
      n = condition_size c.emitted + a.emitted.size + bytes (discards a.emitted.ty)

      H : Bool → Known → Known
      H t k = with_assigned (held_by c t k.assigned) k

      ends : Bool → Assigned → Assigned
      ends t s = if t then s else c.jumped false s

      known : Bool → Known → List Known
      known t k = (if t then [] else c.known_test false k) ++ kept_known c.emitted.goes_on (a.known (H t k) ++ returns_known a (H t k))

      ops : Bool → List Operation
      ops t = (if t then [] else c.emitted.test false (body_size a.emitted)) ++ kept c.emitted.goes_on (a.emitted.code ++ returns a.emitted n)

      even : (k : Known) → length (condition c.emitted (body_size a.emitted) ++ kept c.emitted.goes_on (a.emitted.code ++ returns a.emitted n)) ≡ length (known c.emitted.always k)
      even k =
          let h = H c.emitted.always k in
          even_both (condition c.emitted (body_size a.emitted)) (kept c.emitted.goes_on (a.emitted.code ++ returns a.emitted n)) (condition_known c k) (kept_known c.emitted.goes_on (a.known h ++ returns_known a h)) (cond_even c loop s2 fc c.emitted.always (body_size a.emitted) k)
          (kept_even c.emitted.goes_on (a.emitted.code ++ returns a.emitted n) (a.known h ++ returns_known a h)
          (even_both a.emitted.code (returns a.emitted n) (a.known h) (returns_known a h) (fa.even h) (kept_even a.emitted.goes_on (returning a.emitted.ty n) (returning_known a.emitted.ty (behind a h)) (returning_even a.emitted.ty n (behind a h)))))

      grows : (t : Bool) (s : Assigned) → Within locals there named s (ends t s)
      grows true s = λ x i on. on
      grows false s = fc.grows_jumped false s

      covers : (t : Bool) → c.emitted.always ≡ t → (s : Assigned) → Within locals there named s1 s → Within locals there named s2 (ends t s)
      covers true e s i = fc.sure e s (within_same locals there named s1 loop li s i)
      covers false e s i = fc.covers_jumped false s (within_same locals there named s1 loop li s i)

      size_is : (t : Bool) → c.emitted.always ≡ t → bytes (if t then [] else c.emitted.test false (body_size a.emitted)) ≡ condition_size c.emitted
      size_is t e = condition_by t ∙ ap (λ (b : Bool). if b then 0 else c.emitted.test_size false) (sym e)
        where
          condition_by : (t : Bool) → bytes (if t then [] else c.emitted.test false (body_size a.emitted)) ≡ (if t then 0 else c.emitted.test_size false)
          condition_by true = refl
          condition_by false = fc.sized.test false (body_size a.emitted)

      run : (t : Bool) → c.emitted.always ≡ t → (at : ℕ) (k : Known) → Within locals there named s1 k.assigned → Run locals there named at (ops t) (known t k) k (c.emitted.goes_on && not t) (with_assigned (ends t k.assigned) k)
      run t e at k i = λ h end.
          loop_run at (if t then [] else c.emitted.test false (body_size a.emitted)) a.emitted.code (if t then [] else c.known_test false k) (a.known (H t k)) k.assigned (held_by c t k.assigned) (a.after (held_by c t k.assigned)) k.stack a.emitted.ty c.emitted.goes_on a.emitted.goes_on n
          (cond_even c loop s2 fc t (body_size a.emitted) k) (fa.even (H t k)) (let z = size_is t e in omega (arith, z, fa.sized.whole))
          (within_trans locals there named k.assigned (held_by c t k.assigned) (a.after (held_by c t k.assigned)) (held_grows c loop s2 fc t k.assigned) (fa.grows (held_by c t k.assigned)))
          (cond_run c loop s2 fc tc t e (body_size a.emitted) at k j (exit t e at k end))
          (λ at. fa.run at (H t k) (held_covers c loop s2 fc t e k.assigned j))
          h
        where
          j : Within locals there named loop k.assigned
          j = within_same locals there named s1 loop li k.assigned i

          exit : (t : Bool) → c.emitted.always ≡ t → (at : ℕ) (k : Known) → ((c.emitted.goes_on && not t) ≡ true → Flows locals there named (with_assigned (ends t k.assigned) k) (at + bytes (ops t))) → t ≡ false → c.exits false ≡ true → Flows locals there named (with_assigned (c.jumped false k.assigned) k) (at + c.emitted.test_size false + body_size a.emitted)
          exit true e at k end q x = absurd cc
          exit false e at k end q x =
              flows_at locals there named (with_assigned (c.jumped false k.assigned) k) (at + bytes (ops false)) (at + c.emitted.test_size false + body_size a.emitted) (place (fc.on false x)) (end (both_on c.emitted.goes_on true (fc.on false x) refl))
            where
              place : c.emitted.goes_on ≡ true → at + bytes (ops false) ≡ at + c.emitted.test_size false + body_size a.emitted
              place on =
                  let r = while_size c.emitted a.emitted fc.sized fa.sized in
                  let g = kept_all c.emitted.goes_on (body_size a.emitted) on in
                  let y = ap (λ (b : Bool). bytes ((if b then [] else c.emitted.test false (body_size a.emitted)) ++ kept c.emitted.goes_on (a.emitted.code ++ returns a.emitted n))) e in
                  let u = ap (λ (b : Bool). if b then 0 else c.emitted.test_size false) e in
                  omega (arith, r, g, y, u)
