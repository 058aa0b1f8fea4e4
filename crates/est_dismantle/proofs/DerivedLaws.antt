-- Inner: what some derived statements do, on steps.
use Rattle.std.proofs.Common.{◌≡◌, ◌⊎◌, inl, inr, ℕ, ◌+◌, ◌≤◌, ◌==◌, ◌||◌, max, Bool, true, false, cond, List, [], ◌∷◌, Option, Some, None}
use Rattle.std.proofs.Common.{refl, sym, ◌∙◌, ap, arith}
use Rattle.std.proofs.lemmas.Bool.{eqb-true, eqb-false}
use Rattle.std.specs.Prelude.{option_and_then}
use Rattle.base_facts.proofs.Tests.{or-false}
use Rattle.base_types.specs.declared.place.Span.{Span}
use Rattle.est_kernel.specs.Laws.{left_by_step, left_after}
use Rattle.est_kernel.specs.Statuses.{Status, Plus, Minus, Unknown, Environment, value}
use Rattle.est_kernel.specs.Steps.{Step, ended, left_by, leaving, leaves, chosen_step, then_step, sequence_step, loop_step, parallel_step, trap_code, trap_step}
use Rattle.est_kernel.specs.Steps.{step}
use Rattle.est_kernel.specs.Terms as terms
use Rattle.est_kernel.specs.Terms.{Term, Expression}
use Rattle.est_kernel.proofs.Exports.{left_whole, trap_code-one, same_step}
use Rattle.est_ast.specs.FlatTrees.{Plain, Immediate}
use Rattle.est_dismantle.specs.Kernels.{expression, halting, watching, aborting, kernel}
use Rattle.est_ast.specs.NewSignals.{new_by, new_in}
use Rattle.est_dismantle.specs.Laws.{ImmediateAbortionsRunTheirRest, ImmediateAwaitsEndAtOnce, RepetitionsAreSequences, SustainedSignalsStay}
use Rattle.est_dismantle.specs.Laws.{LoopsEachStartAnew}

-- nothing was done before it
then-none : (o : Option Step) → then_step (record { emitted = λ t. false; code = 0; residual = terms.Nothing }) o ≡ o
then-none None = refl
then-none (Some a) = refl

-- ---- abort p when immediate e do q end

sequence-part : (q : Term) (v : Status) (a b : Option Step) → v ≡ Plus → sequence_step q (trap_step (chosen_step v (Some (ended 2)) a)) b ≡ b
sequence-part q Plus a b h = then-none b
sequence-part q Minus a b h = cc
sequence-part q Unknown a b h = cc

pub immediate-abortion : ImmediateAbortionsRunTheirRest
immediate-abortion traps x at p q e E h =
    let rest = kernel (false ∷ traps) (x + new_by (Immediate e) + new_in p) q in
    let body = aborting at (expression e) 3 (kernel (false ∷ (false ∷ traps)) (x + new_by (Immediate e)) p) in
    ap trap_step (sequence-part rest (value (expression e) E) (step body E) (step rest E) h)

-- ---- await immediate e

immediate-end : (whole last : Term) (v : Status) (b : Option Step) → v ≡ Plus →
    trap_step (loop_step whole (sequence_step last (chosen_step v (Some (ended 2)) (Some (ended 0))) b)) ≡ Some (ended 0)
immediate-end whole last Plus b h = refl
immediate-end whole last Minus b h = cc
immediate-end whole last Unknown b h = cc

pub immediate-await : ImmediateAwaitsEndAtOnce
immediate-await traps x at e E h =
    immediate-end (terms.Loop at (terms.Seq (terms.Present (expression e) (terms.Exit 2) terms.Nothing) terms.Pause)) terms.Pause (value (expression e) E)
    (Some (ended 1)) h

-- ---- repeat 2 times p end

pub two-copies : RepetitionsAreSequences
two-copies = record {
  twice = λ traps x at place p. refl;
  in_source = λ traps x at place p none. ap (λ y. terms.Seq (kernel traps x p) (kernel traps y p)) (let e : x ≡ x + new_in p = omega (arith, none) in e);
}

-- ---- sustain s

abbrev sustaining : Span → ℕ → Term
sustaining at s = terms.Loop at (terms.Seq (terms.Emit s) terms.Pause)

-- the term at its start and later
data Stays (at : Span) (s : ℕ) (r : Term) : Type 0 where
  Starts : (is : r ≡ sustaining at s) → Stays at s r
  Resumes : (is : r ≡ terms.Seq terms.Nothing (sustaining at s)) → Stays at s r

-- its step
abbrev sustained : Span → ℕ → Step
sustained at s = record { emitted = λ t. (t == s) || false; code = 1; residual = terms.Seq terms.Nothing (sustaining at s) }

stays-step : (at : Span) (s : ℕ) (r : Term) (E : Environment) → Stays at s r → step r E ≡ Some (sustained at s)
stays-step at s r E (Starts is) = ap (λ q. step q E) is
stays-step at s r E (Resumes is) = ap (λ q. step q E) is

stays-after : (at : Span) (s : ℕ) (r : Term) (instants : List Environment) → Stays at s r → (q : Term) × (left_after r instants ≡ Some q) × Stays at s q
stays-after at s r [] h = (r, refl, h)
stays-after at s r (E ∷ rest) h =
    let next = stays-after at s (terms.Seq terms.Nothing (sustaining at s)) rest (Resumes refl) in
    (next.0, ap (λ o. option_and_then (λ q. left_after q rest) (left_by_step o)) (stays-step at s r E h) ∙ next.1, next.2)

pub sustained-signals : SustainedSignalsStay
sustained-signals traps x at s instants E =
    let found = stays-after at s (sustaining at s) instants (Starts refl) in
    (found.0, sustained at s, found.1, stays-step at s found.0 E found.2, record { signals = λ t. or-false (t == s); pauses = refl })

-- ---- loop p each e

-- what a step that pauses left behind
record Paused (f : Term → Term) (o : Option Step) (a : Step) : Type 0 where
  part : Step
  is : o ≡ Some part
  code : part.code ≡ 1
  residual : a.residual ≡ f part.residual

same-term : (a b : Term) → Some a ≡ Some b → a ≡ b
same-term a b h = cc

no-step : (a : Step) → None ≡ Some a → ⊥
no-step a h = cc

no-term : (a : Term) → None ≡ Some a → ⊥
no-term a h = cc

loop-paused : (whole : Term) (o : Option Step) (a : Step) → loop_step whole o ≡ Some a → a.code ≡ 1 → Paused (λ r. terms.Seq r whole) o a
loop-paused whole None a h one = absurd (no-step a h)
loop-paused whole (Some b) a h one = go (b.code == 0) refl where
  go : (t : Bool) → (b.code == 0) ≡ t → Paused (λ r. terms.Seq r whole) (Some b) a
  go true e = absurd (no-step a (ap (λ u. cond u None (Some (leaving (λ r. terms.Seq r whole) b))) (sym e) ∙ h))
  go false e =
      let same = same_step (leaving (λ r. terms.Seq r whole) b) a (ap (λ u. cond u None (Some (leaving (λ r. terms.Seq r whole) b))) (sym e) ∙ h) in
      let code : b.code ≡ 1 = ap (λ (s : Step). s.code) same ∙ one in
      record { part = b; is = refl; code = code; residual = sym (ap (λ (s : Step). s.residual) same) ∙ left_whole b.code (terms.Seq b.residual whole) code }

trap-paused : (o : Option Step) (a : Step) → trap_step o ≡ Some a → a.code ≡ 1 → Paused terms.Trap o a
trap-paused None a h one = absurd (no-step a h)
trap-paused (Some b) a h one =
    let same = same_step (record { emitted = b.emitted; code = trap_code b.code; residual = left_by (trap_code b.code) (terms.Trap b.residual) }) a h in
    let code : trap_code b.code ≡ 1 = ap (λ (s : Step). s.code) same ∙ one in
    record {
      part = b;
      is = refl;
      code = trap_code-one b.code code;
      residual = sym (ap (λ (s : Step). s.residual) same)
          ∙ left_whole (trap_code b.code) (terms.Trap b.residual) code;
    }

leaves-paused : (f : Term → Term) (o : Option Step) (a : Step) → leaves f o ≡ Some a → a.code ≡ 1 → Paused f o a
leaves-paused f None a h one = absurd (no-step a h)
leaves-paused f (Some b) a h one =
    let same = same_step (leaving f b) a h in
    let code : b.code ≡ 1 = ap (λ (s : Step). s.code) same ∙ one in
    record { part = b; is = refl; code = code; residual = sym (ap (λ (s : Step). s.residual) same) ∙ left_whole b.code (f b.residual) code }

record BothPaused (o q : Option Step) (a : Step) : Type 0 where
  left : Step
  right : Step
  is_left : o ≡ Some left
  is_right : q ≡ Some right
  left_code : left.code ≤ 1
  right_code : right.code ≤ 1
  residual : a.residual ≡ terms.Par left.residual right.residual

parallel-paused : (o q : Option Step) (a : Step) → parallel_step o q ≡ Some a → a.code ≡ 1 → BothPaused o q a
parallel-paused None q a h one = absurd (no-step a h)
parallel-paused (Some b) None a h one = absurd (no-step a h)
parallel-paused (Some b) (Some c) a h one =
    let same = same_step (record {
      emitted = λ t. b.emitted t || c.emitted t;
      code = max b.code c.code;
      residual = left_by (max b.code c.code) (terms.Par b.residual c.residual);
    }) a h in
    let code : max b.code c.code ≡ 1 = ap (λ (s : Step). s.code) same ∙ one in
    record {
      left = b;
      right = c;
      is_left = refl;
      is_right = refl;
      left_code = omega (arith, code);
      right_code = omega (arith, code);
      residual = sym (ap (λ (s : Step). s.residual) same) ∙ left_whole (max b.code c.code) (terms.Par b.residual c.residual) code;
    }

-- before an exit: the first part paused
exit-paused : (o : Option Step) (a : Step) → sequence_step (terms.Exit 2) o (Some (ended 2)) ≡ Some a → a.code ≤ 1 →
    Paused (λ r. terms.Seq r (terms.Exit 2)) o a
exit-paused None a h low = absurd (no-step a h)
exit-paused (Some b) a h low = go (b.code == 0) refl where
  go : (t : Bool) → (b.code == 0) ≡ t → Paused (λ r. terms.Seq r (terms.Exit 2)) (Some b) a
  go true e =
      let two = ap (λ u. cond u (then_step b (Some (ended 2))) (Some (leaving (λ r. terms.Seq r (terms.Exit 2)) b))) (sym e) ∙ h in
      let same = same_step (record { emitted = λ t. b.emitted t || false; code = 2; residual = terms.Nothing }) a two in
      let code : 2 ≡ a.code = ap (λ (s : Step). s.code) same in absurd (omega (arith, code, low))
  go false e =
      let on = ap (λ u. cond u (then_step b (Some (ended 2))) (Some (leaving (λ r. terms.Seq r (terms.Exit 2)) b))) (sym e) ∙ h in
      let same = same_step (leaving (λ r. terms.Seq r (terms.Exit 2)) b) a on in
      let below : b.code ≡ a.code = ap (λ (s : Step). s.code) same in
      let some : b.code ≡ 0 → ⊥ = eqb-false b.code 0 e in
      let code : b.code ≡ 1 = omega (arith, below, low, some) in
      record {
        part = b;
        is = refl;
        code = code;
        residual = sym (ap (λ (s : Step). s.residual) same)
            ∙ left_whole b.code (terms.Seq b.residual (terms.Exit 2)) code;
      }

-- a sequence: the first part paused, or it ended and the second part paused
record WentOn (s : Option Step) (a : Step) : Type 0 where
  second : Step
  is : s ≡ Some second
  code : second.code ≡ 1
  residual : a.residual ≡ second.residual

sequence-paused : (q : Term) (o s : Option Step) (a : Step) → sequence_step q o s ≡ Some a → a.code ≡ 1 → Paused (λ r. terms.Seq r q) o a ⊎ WentOn s a
sequence-paused q None s a h one = absurd (no-step a h)
sequence-paused q (Some b) s a h one = go (b.code == 0) refl where
  ended-then : (s : Option Step) → then_step b s ≡ Some a → WentOn s a
  ended-then None g = absurd (no-step a g)
  ended-then (Some c) g =
      let same = same_step (record { emitted = λ t. b.emitted t || c.emitted t; code = c.code; residual = c.residual }) a g in
      record { second = c; is = refl; code = ap (λ (x : Step). x.code) same ∙ one; residual = sym (ap (λ (x : Step). x.residual) same) }

  go : (t : Bool) → (b.code == 0) ≡ t → Paused (λ r. terms.Seq r q) (Some b) a ⊎ WentOn s a
  go true e = inr (ended-then s (ap (λ u. cond u (then_step b s) (Some (leaving (λ r. terms.Seq r q) b))) (sym e) ∙ h))
  go false e =
      let same = same_step (leaving (λ r. terms.Seq r q) b) a (ap (λ u. cond u (then_step b s) (Some (leaving (λ r. terms.Seq r q) b))) (sym e) ∙ h) in
      let code : b.code ≡ 1 = ap (λ (x : Step). x.code) same ∙ one in
      inl (record { part = b; is = refl; code = code; residual = sym (ap (λ (x : Step). x.residual) same) ∙ left_whole b.code (terms.Seq b.residual q) code })

-- the loop of a term, what watches in it later, and what is left of it when the term went on as p
abbrev each : Span → Expression → Term → Term
each at e p = terms.Loop at (terms.Trap (aborting at e 2 p))

abbrev watching_on : Span → Expression → Term
watching_on at e = terms.Seq (terms.Seq terms.Nothing (terms.Present e (terms.Exit 2) terms.Nothing)) (watching at e)

abbrev resumed : Span → Expression → Term → Term → Term
resumed at e whole p = terms.Seq (terms.Trap (terms.Par (terms.Seq (terms.Awake e p) (terms.Exit 2)) (watching_on at e))) whole

record Left (at : Span) (e : Expression) (whole r : Term) : Type 0 where
  body : Term
  is : r ≡ resumed at e whole body

abbrev watched : Span → Expression → Step
watched at e = record { emitted = λ t. false; code = 1; residual = watching_on at e }

put-together : (at : Span) (e : Expression) (whole : Term) (a b c d : Step) (left right p : Term)
    → a.residual ≡ terms.Seq b.residual whole → b.residual ≡ terms.Trap c.residual → c.residual ≡ terms.Par left right →
    left ≡ terms.Seq d.residual (terms.Exit 2)
    → d.residual ≡ terms.Awake e p → right ≡ watching_on at e → a.residual ≡ resumed at e whole p
put-together at e whole a b c d left right p h1 h2 h3 h4 h5 h6 = cc

first-left : (at : Span) (e : Expression) (p : Term) (E : Environment) (a : Step) → step (each at e p) E ≡ Some a → a.code ≡ 1 →
    Left at e (each at e p) a.residual
first-left at e p E a h one =
    let whole = each at e p in
    let body = sequence_step (terms.Exit 2) (leaves (λ r. terms.Awake e r) (step p E)) (Some (ended 2)) in
    let l = loop-paused whole (trap_step (parallel_step body (Some (watched at e)))) a h one in
    let t = trap-paused (parallel_step body (Some (watched at e))) l.part l.is l.code in
    let b = parallel-paused body (Some (watched at e)) t.part t.is t.code in
    let d = exit-paused (leaves (λ r. terms.Awake e r) (step p E)) b.left b.is_left b.left_code in
    let k = leaves-paused (λ r. terms.Awake e r) (step p E) d.part d.is d.code in
    record {
      body = k.part.residual;
      is = put-together at e whole a l.part t.part d.part b.left.residual b.right.residual k.part.residual l.residual t.residual b.residual d.residual
          k.residual
          (sym (ap (λ (s : Step). s.residual) (same_step (watched at e) b.right b.is_right)));
    }

-- the two branches later, by the event's value
abbrev branches : Span → Expression → Term → Option Step → Status → Option Step
branches at e p o v =
    parallel_step (sequence_step (terms.Exit 2) (chosen_step v (Some (record { emitted = λ t. false; code = 1; residual = terms.Awake e p }))
    (leaves (λ r. terms.Awake e r) o)) (Some (ended 2)))
    (sequence_step (watching at e) (sequence_step (terms.Present e (terms.Exit 2) terms.Nothing) (Some (ended 0))
    (chosen_step v (Some (ended 2)) (Some (ended 0)))) (Some (watched at e)))

branches-left : (at : Span) (e : Expression) (whole p : Term) (o : Option Step) (v : Status) (a b c : Step) → branches at e p o v ≡ Some c → c.code ≡ 1
    → a.residual ≡ terms.Seq b.residual whole → b.residual ≡ terms.Trap c.residual → Left at e whole a.residual
branches-left at e whole p o Plus a b c h one outer trap =
    let k = parallel-paused (Some (record { emitted = λ t. false; code = 1; residual = terms.Seq (terms.Awake e p) (terms.Exit 2) }))
    (Some (ended 2)) c h one in
    let two : 2 ≡ k.right.code = ap (λ (s : Step). s.code) (same_step (ended 2) k.right k.is_right) in absurd (omega (arith, two, k.right_code))
branches-left at e whole p o Unknown a b c h one outer trap = absurd (no-step c h)
branches-left at e whole p o Minus a b c h one outer trap =
    let body = sequence_step (terms.Exit 2) (leaves (λ r. terms.Awake e r) o) (Some (ended 2)) in
    let k = parallel-paused body (Some (watched at e)) c h one in
    let d = exit-paused (leaves (λ r. terms.Awake e r) o) k.left k.is_left k.left_code in
    let m = leaves-paused (λ r. terms.Awake e r) o d.part d.is d.code in
    record {
      body = m.part.residual;
      is = put-together at e whole a b c d.part k.left.residual k.right.residual m.part.residual outer trap k.residual d.residual m.residual
          (sym (ap (λ (s : Step). s.residual) (same_step (watched at e) k.right k.is_right)));
    }

later-left : (at : Span) (e : Expression) (p q : Term) (E : Environment) (a : Step) → step (resumed at e (each at e p) q) E ≡ Some a → a.code ≡ 1 →
    Left at e (each at e p) a.residual
later-left at e p q E a h one = go (sequence-paused (each at e p) (trap_step (branches at e q (step q E) (value e E))) (step (each at e p) E) a h one) where
  go : Paused (λ r. terms.Seq r (each at e p)) (trap_step (branches at e q (step q E) (value e E))) a ⊎ WentOn (step (each at e p) E) a →
      Left at e (each at e p) a.residual
  go (inl k) =
      let t = trap-paused (branches at e q (step q E) (value e E)) k.part k.is k.code in
      branches-left at e (each at e p) q (step q E) (value e E) a k.part t.part t.is t.code k.residual t.residual
  go (inr k) =
      let l = first-left at e p E k.second k.is k.code in record { body = l.body; is = k.residual ∙ l.is }

-- a step that goes on
record GoesOn (o : Option Step) (rest : List Environment) (q : Term) : Type 0 where
  at : Step
  is : o ≡ Some at
  code : at.code ≡ 1
  later : left_after at.residual rest ≡ Some q

goes-on : (o : Option Step) (rest : List Environment) (q : Term) → option_and_then (λ r. left_after r rest) (left_by_step o) ≡ Some q → GoesOn o rest q
goes-on None rest q h = absurd (no-term q h)
goes-on (Some a) rest q h = go (a.code == 1) refl where
  go : (t : Bool) → (a.code == 1) ≡ t → GoesOn (Some a) rest q
  go true e =
      record {
        at = a;
        is = refl;
        code = eqb-true a.code 1 e;
        later = ap (λ u. option_and_then (λ r. left_after r rest) (cond u (Some a.residual) None)) (sym e)
            ∙ h;
      }
  go false e = absurd (no-term q (ap (λ u. option_and_then (λ r. left_after r rest) (cond u (Some a.residual) None)) (sym e) ∙ h))

each-left : (at : Span) (e : Expression) (p r q : Term) (rest : List Environment) → Left at e (each at e p) r → left_after r rest ≡ Some q →
    Left at e (each at e p) q
each-left at e p r q [] l h = record { body = l.body; is = same-term q r (sym h) ∙ l.is }
each-left at e p r q (E ∷ rest) l h =
    let k = goes-on (step r E) rest q h in
    each-left at e p k.at.residual q rest (later-left at e p l.body E k.at (ap (λ t. step t E) (sym l.is) ∙ k.is) k.code) k.later

anew : (at : Span) (e : Expression) (whole p : Term) (o s : Option Step) (v : Status) → v ≡ Plus → sequence_step whole (trap_step (branches at e p o v)) s ≡ s
anew at e whole p o s Plus h = then-none s
anew at e whole p o s Minus h = cc
anew at e whole p o s Unknown h = cc

pub loops-each : LoopsEachStartAnew
loops-each traps x at p e first instants r E left h =
    let body = terms.Seq (kernel (false ∷ traps) (x + new_by (Plain e)) p) (halting at) in
    let k = goes-on (step (each at (expression e) body) first) instants r left in
    let l = each-left at (expression e) body k.at.residual r instants (first-left at (expression e) body first k.at k.is k.code) k.later in
    ap (λ t. step t E) l.is ∙ anew at (expression e) (each at (expression e) body) l.body (step l.body E) (step (each at (expression e) body) E)
    (value (expression e) E) h
