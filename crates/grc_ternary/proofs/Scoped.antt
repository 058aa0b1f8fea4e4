-- Signals in scope: what is tested has a value, and what is emitted a status wire. Those that fit a program are.
use Rattle.std.proofs.Common.{◌≡◌, ℕ, ◌<◌, ◌≤◌, Bool, true, false, ◌==◌, ltb, refl, ap, arith}
use Rattle.std.proofs.lemmas.Bool.{cond_both, ltb-true}
use Rattle.base_facts.proofs.Tests.{or-other}
use Rattle.est_kernel.specs.Terms.{Expression, Tick, Sig, Not, And, Or, Term, Nothing, Pause, Emit, Exit, Present, Suspend, Seq, Loop, Par, Trap, Local, Awake}
use Rattle.est_kernel.specs.WellFormed.{TestsVisible, SignalsFit, with_signal}
use Rattle.grc_graph.specs.Scopes.{Binding, Entering, Outgoing, BoundAt, Unbound, Scope, bind, program_scope}
use Rattle.grc_solutions_laws.proofs.Exports.{InPart, scope_part, enters, goes_out, unbound}

-- what is tested has a value, and what is emitted a status wire
abbrev pub has_value : Binding → Bool
has_value Unbound = false
has_value b = true

abbrev pub has_status : Binding → Bool
has_status Outgoing = true
has_status (BoundAt b) = true
has_status _ = false

abbrev pub TestInScope : Scope → Expression → Type 0
TestInScope B Tick = Unit {0}
TestInScope B (Sig s) = has_value (B s) ≡ true
TestInScope B (Not a) = TestInScope B a
TestInScope B (And a b) = TestInScope B a × TestInScope B b
TestInScope B (Or a b) = TestInScope B a × TestInScope B b

abbrev pub InScope : Scope → Term → Type 0
InScope B (Emit s) = has_status (B s) ≡ true
InScope B (Present e p q) = TestInScope B e × InScope B p × InScope B q
InScope B (Suspend e p) = TestInScope B e × InScope B p
InScope B (Seq p q) = InScope B p × InScope B q
InScope B (Loop at p) = InScope B p
InScope B (Par p q) = InScope B p × InScope B q
InScope B (Trap p) = InScope B p
InScope B (Local s p) = (m : ℕ) → InScope (bind B s m) p
InScope B _ = Unit {0}

record Sighted (inputs : ℕ) (B : Scope) (visible : ℕ → Bool) : Type 0 where
  pub value : (s : ℕ) → visible s ≡ true → has_value (B s) ≡ true
  pub status : (s : ℕ) → visible s ≡ true → inputs ≤ s → has_status (B s) ≡ true

sighted_more : {inputs : ℕ} {B : Scope} {visible : ℕ → Bool} (s m : ℕ) → Sighted inputs B visible → Sighted inputs (bind B s m) (with_signal s visible)
sighted_more {inputs} {B} {visible} s m k =
    record {
      value = λ t h. cond_both (t == s) (BoundAt m) (B t) (λ b. has_value b ≡ true) (λ e. refl) (λ e. k.value t (or-other (t == s) (visible t) e h));
      status = λ t h l. cond_both (t == s) (BoundAt m) (B t) (λ b. has_status b ≡ true) (λ e. refl) (λ e. k.status t (or-other (t == s) (visible t) e h) l);
    }

test_scope : {inputs : ℕ} {B : Scope} {visible : ℕ → Bool} (e : Expression) → Sighted inputs B visible → TestsVisible visible e → TestInScope B e
test_scope Tick k h = tt
test_scope (Sig s) k h = k.value s h
test_scope (Not a) k h = test_scope a k h
test_scope (And a b) k h = (test_scope a k h.0, test_scope b k h.1)
test_scope (Or a b) k h = (test_scope a k h.0, test_scope b k h.1)

term_scope : (inputs interface all : ℕ) (t : Term) (B : Scope) (visible : ℕ → Bool) → Sighted inputs B visible → SignalsFit inputs interface all visible t →
    InScope B t
term_scope n i a (Emit s) B u k h = k.status s h.0 h.1
term_scope n i a (Present e p q) B u k h = (test_scope e k h.0, term_scope n i a p B u k h.1, term_scope n i a q B u k h.2)
term_scope n i a (Suspend e p) B u k h = (test_scope e k h.0, term_scope n i a p B u k h.1)
term_scope n i a (Seq p q) B u k h = (term_scope n i a p B u k h.0, term_scope n i a q B u k h.1)
term_scope n i a (Loop at p) B u k h = term_scope n i a p B u k h
term_scope n i a (Par p q) B u k h = (term_scope n i a p B u k h.0, term_scope n i a q B u k h.1)
term_scope n i a (Trap p) B u k h = term_scope n i a p B u k h
term_scope n i a (Local s p) B u k h = λ m. term_scope n i a p (bind B s m) (with_signal s u) (sighted_more s m k) h.2
term_scope n i a _ B u k h = tt

sighted_top : (inputs interface : ℕ) → inputs ≤ interface → Sighted inputs (program_scope inputs interface) (λ s. ltb s interface)
sighted_top inputs interface u =
    record {
      value = λ s h. value s (ltb-true s interface h) (scope_part inputs interface s u);
      status = λ s h l. status s (ltb-true s interface h) l (scope_part inputs interface s u);
    }
  where
    value : (s : ℕ) → s < interface → InPart inputs interface s (program_scope inputs interface s) → has_value (program_scope inputs interface s) ≡ true
    value s h (enters l e) = ap has_value e
    value s h (goes_out l k e) = ap has_value e
    value s h (unbound l e) = absurd (omega arith)

    status : (s : ℕ) → s < interface → inputs ≤ s → InPart inputs interface s (program_scope inputs interface s) →
        has_status (program_scope inputs interface s) ≡ true
    status s h i (enters l e) = absurd (omega arith)
    status s h i (goes_out l k e) = ap has_status e
    status s h i (unbound l e) = absurd (omega arith)

pub fit_scope : (inputs interface all : ℕ) (t : Term) → inputs ≤ interface → SignalsFit inputs interface all (λ s. ltb s interface) t →
    InScope (program_scope inputs interface) t
fit_scope inputs interface all t u h = term_scope inputs interface all t (program_scope inputs interface) (λ s. ltb s interface)
    (sighted_top inputs interface u) h
