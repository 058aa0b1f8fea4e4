-- Written by hand: witnesses of the definitions that no call computes: the plain forms of Rust trees, what is well formed and what is not, clause by
-- clause, and which lists are the codes of a body.
use Rattle.std.specs.Prelude.{◌≡◌, zero, suc, ◌<◌, ◌≤◌, true, false, [], ◌∷◌, map, length, nat_lt, All, IsTrue}
use Rattle.std.proofs.Common.{refl, arith, Box, Global}
use Rattle.std.proofs.lemmas.Bool.{false≢true}
use Rattle.std.proofs.lemmas.List.Elements.{All-cons, All-nil}
use Rattle.base_types.specs.declared.place.Span.{Span}
use Rattle.base_types.specs.declared.interface.InputRelation.TheVariants as relations_of_inputs
use Rattle.base_types.specs.Codes.{only}
use Rattle.base_types.specs.CodeSet.{members}
use Rattle.base_types.specs.Relations.{relation_of, Implies, Excludes, Meets, MeetsAll}
use Rattle.base_types.specs.Names.{is_name}
use Rattle.est_kernel.specs.declared.code_lists.Codes.{Codes}
use Rattle.est_kernel.specs.declared.programs.KernelProgram.{KernelProgram}
use Rattle.est_kernel.specs.declared.signal_tests.Test.TheVariants as tests
use Rattle.est_kernel.specs.declared.statements.Kernel.TheVariants as kernels
use Rattle.est_kernel.specs.Terms.{Tick, Sig, Not, And, Or, Term, Nothing, Pause, Emit, Exit, Present, Suspend, Seq, Loop, Par, Trap, Local, Awake}
use Rattle.est_kernel.specs.Plain.{expression_of, term_of, Program, program_of, given_count, outgoing_count, interface_count, interface_of, given_names}
use Rattle.est_kernel.specs.Plain.{outgoing_names}
use Rattle.est_kernel.specs.CodeLists.{AreCodesOf}
use Rattle.est_kernel.specs.Sizes.{size_of, height_of, trap_depth}
use Rattle.est_kernel.specs.WellFormed.{IsKernel, ExitsStandInTraps, KeepsLimits, TestsVisible, SignalsFit, RelatesGiven, IsWellFormed, HasNames}

-- ---- plain forms

module _ (a b : Box (Unit {0}) Global) where
  negation_plain : expression_of (tests.Not' a tests.Tick) ≡ Not Tick
  negation_plain = refl

  conjunction_plain : expression_of (tests.And' a (tests.Sig (record { 0 = 3 })) b tests.Tick) ≡ And (Sig 3) Tick
  conjunction_plain = refl

  disjunction_plain : expression_of (tests.Or' a (tests.Sig (record { 0 = 3 })) b tests.Tick) ≡ Or (Sig 3) Tick
  disjunction_plain = refl

  nothing_plain : term_of kernels.Nothing ≡ Nothing
  nothing_plain = refl

  emission_plain : term_of (kernels.Emit (record { 0 = 4 })) ≡ Emit 4
  emission_plain = refl

  exit_plain : term_of (kernels.Exit 5) ≡ Exit 5
  exit_plain = refl

  choice_plain : term_of (kernels.Present' tests.Tick a (kernels.Exit 2) b kernels.Pause) ≡ Present Tick (Exit 2) Pause
  choice_plain = refl

  suspension_plain : term_of (kernels.Suspend' tests.Tick a kernels.Pause) ≡ Suspend Tick Pause
  suspension_plain = refl

  sequence_plain : term_of (kernels.Seq' a (kernels.Exit 2) b kernels.Pause) ≡ Seq (Exit 2) Pause
  sequence_plain = refl

  loop_plain : term_of (kernels.Loop' (record { start = 3; end = 9 }) a kernels.Pause) ≡ Loop (record { start = 3; end = 9 }) Pause
  loop_plain = refl

  parallel_plain : term_of (kernels.Par' a (kernels.Exit 2) b kernels.Pause) ≡ Par (Exit 2) Pause
  parallel_plain = refl

  trap_plain : term_of (kernels.Trap' a kernels.Pause) ≡ Trap Pause
  trap_plain = refl

  local_plain : term_of (kernels.Local' (record { 0 = 7 }) a kernels.Pause) ≡ Local 7 Pause
  local_plain = refl

implication_plain : relation_of (relations_of_inputs.Implies (record { 0 = 3 }) (record { 0 = 5 })) ≡ Implies 3 5
implication_plain = refl

program_plain : (p : KernelProgram) → program_of p
    ≡ record {
      name = p.name;
      signals = map (λ s. s.name) p.signals.items;
      inputs = p.inputs;
      both = p.both;
      outputs = p.outputs;
      relations = map relation_of p.relations.items;
      body = term_of p.body;
    }
program_plain p = refl

-- two elements that are both such
two_all : {X : Type 0} (P : X → Type 0) (x y : X) → P x → P y → All P (x ∷ y ∷ [])
two_all P x y f g = All-cons P x (y ∷ []) f (All-cons P y [] g (All-nil P))

-- ---- a program that is well formed

-- input A; inputoutput X; output O; relation A => X, A # X;
-- signal S in trap T in emit X; present [A and S] then exit T else emit O end; pause end end
abbrev worked : Program
worked = record {
  name = 77 ∷ [];
  signals = (65 ∷ []) ∷ (88 ∷ []) ∷ (79 ∷ []) ∷ (83 ∷ []) ∷ [];
  inputs = 1;
  both = 1;
  outputs = 1;
  relations = Implies 0 1 ∷ Excludes (0 ∷ 1 ∷ []) ∷ [];
  body = Local 3 (Trap (Seq (Emit 1) (Seq (Present (And (Sig 0) (Sig 3)) (Exit 2) (Emit 2)) Pause)));
}

worked_counts : given_count worked ∷ outgoing_count worked ∷ interface_count worked ∷ [] ≡ 2 ∷ 2 ∷ 3 ∷ []
worked_counts = refl

worked_interface : interface_of worked ≡ record { inputs = 1; outgoing = 1 ∷ 2 ∷ [] }
worked_interface = refl

worked_given_names : given_names worked ≡ (65 ∷ []) ∷ (88 ∷ []) ∷ []
worked_given_names = refl

worked_outgoing_names : outgoing_names worked ≡ (88 ∷ []) ∷ (79 ∷ []) ∷ []
worked_outgoing_names = refl

worked_limits : KeepsLimits worked.body
worked_limits = record { size = omega arith; height = omega arith; traps = omega arith; exits = (tt, (((omega arith, omega arith), tt), tt)) }

worked_is_well_formed : IsWellFormed worked
worked_is_well_formed = record {
  body = worked_limits;
  at_most = omega arith;
  interface = omega arith;
  signals = (omega arith, omega arith, ((refl, omega arith), (((refl, refl), tt, (refl, omega arith)), tt)));
  relations = two_all (RelatesGiven 2) (Implies 0 1) (Excludes (0 ∷ 1 ∷ [])) (omega arith, omega arith) (two_all (λ s. s < 2) 0 1 (omega arith) (omega arith));
}

worked_has_names : HasNames worked
worked_has_names = record {
  name = refl;
  interface = All-cons (λ n. IsTrue (is_name n)) (65 ∷ []) ((88 ∷ []) ∷ (79 ∷ []) ∷ []) refl (two_all (λ n. IsTrue (is_name n)) (88 ∷ []) (79 ∷ []) refl refl);
  differ = refl;
}

-- ---- what is not well formed: each clause of its own

-- the limits are met up to their numbers, and no further
limits_met : (p : Term) → size_of p ≡ 65536 → height_of p ≡ 1024 → trap_depth p ≡ 60 → ExitsStandInTraps 0 p → KeepsLimits p
limits_met p s h t e = record { size = omega (arith, s); height = omega (arith, h); traps = omega (arith, t); exits = e }

too_large : (p : Term) → size_of p ≡ 65537 → KeepsLimits p → ⊥
too_large p s k = omega (arith, s, k.size)

too_high : (p : Term) → height_of p ≡ 1025 → KeepsLimits p → ⊥
too_high p h k = omega (arith, h, k.height)

too_many_traps : (p : Term) → trap_depth p ≡ 61 → KeepsLimits p → ⊥
too_many_traps p t k = omega (arith, t, k.traps)

exits_kept : KeepsLimits (Exit 2) → ⊥
exits_kept k = omega (arith, k.exits.1)

too_many_signals : (p : Program) → length p.signals ≡ 4097 → IsWellFormed p → ⊥
too_many_signals p n w = omega (arith, n, w.at_most)

signals_met : (p : Program) → length p.signals ≡ 4096 → length p.signals ≤ 4096
signals_met p n = omega (arith, n)

interface_without_signals : IsWellFormed (record worked { outputs = 3 }) → ⊥
interface_without_signals w = omega (arith, w.interface)

body_not_kept : IsWellFormed (record worked { body = Exit 2 }) → ⊥
body_not_kept w = exits_kept w.body

input_emitted : IsWellFormed (record worked { body = Emit 0 }) → ⊥
input_emitted w = omega (arith, w.signals.1)

inputoutput_emitted : IsWellFormed (record worked { body = Emit 1 })
inputoutput_emitted = record {
  body = record { size = omega arith; height = omega arith; traps = omega arith; exits = tt };
  at_most = omega arith;
  interface = omega arith;
  signals = (refl, omega arith);
  relations = worked_is_well_formed.relations;
}

local_outside : IsWellFormed (record worked { body = Emit 3 }) → ⊥
local_outside w = false≢true w.signals.0

interface_bound : IsWellFormed (record worked { body = Local 2 Nothing }) → ⊥
interface_bound w = omega (arith, w.signals.0)

unknown_bound : IsWellFormed (record worked { body = Local 4 Nothing }) → ⊥
unknown_bound w = omega (arith, w.signals.1)

output_related : IsWellFormed (record worked { relations = Implies 0 2 ∷ [] }) → ⊥
output_related w = omega (arith, (w.relations 0 (Implies 0 0) (omega arith)).1)

output_related_first : IsWellFormed (record worked { relations = Implies 2 0 ∷ [] }) → ⊥
output_related_first w = omega (arith, (w.relations 0 (Implies 0 0) (omega arith)).0)

output_excluded : IsWellFormed (record worked { relations = Excludes (0 ∷ 2 ∷ []) ∷ [] }) → ⊥
output_excluded w = omega (arith, w.relations 0 (Implies 0 0) (omega arith) 1 0 (omega arith))

name_missing : HasNames (record worked { name = [] }) → ⊥
name_missing n = false≢true n.name

digit_first : HasNames (record worked { signals = (49 ∷ []) ∷ (88 ∷ []) ∷ (79 ∷ []) ∷ [] }) → ⊥
digit_first n = false≢true (n.interface 0 [] (omega arith))

name_twice : HasNames (record worked { signals = (65 ∷ []) ∷ (88 ∷ []) ∷ (65 ∷ []) ∷ [] }) → ⊥
name_twice n = false≢true n.differ

-- ---- form by form

abbrev here : Span
here = record { start = 0; end = 0 }

trap_in_then : trap_depth (Present Tick (Trap Nothing) Nothing) ≡ 1
trap_in_then = refl

trap_in_else : trap_depth (Present Tick Nothing (Trap Nothing)) ≡ 1
trap_in_else = refl

trap_in_suspension : trap_depth (Suspend Tick (Trap Nothing)) ≡ 1
trap_in_suspension = refl

trap_in_first : trap_depth (Seq (Trap Nothing) Nothing) ≡ 1
trap_in_first = refl

trap_in_second : trap_depth (Seq Nothing (Trap Nothing)) ≡ 1
trap_in_second = refl

trap_in_loop : trap_depth (Loop here (Trap Nothing)) ≡ 1
trap_in_loop = refl

trap_in_left : trap_depth (Par (Trap Nothing) Nothing) ≡ 1
trap_in_left = refl

trap_in_right : trap_depth (Par Nothing (Trap Nothing)) ≡ 1
trap_in_right = refl

trap_in_trap : trap_depth (Trap (Trap Nothing)) ≡ 2
trap_in_trap = refl

trap_in_local : trap_depth (Local 3 (Trap Nothing)) ≡ 1
trap_in_local = refl

trap_in_awake : trap_depth (Awake Tick (Trap Nothing)) ≡ 1
trap_in_awake = refl

-- an exit that leaves more traps than stand around it

exit_out_of_then : ExitsStandInTraps 0 (Present Tick (Exit 2) Nothing) → ⊥
exit_out_of_then h = omega (arith, h.0.1)

exit_out_of_else : ExitsStandInTraps 0 (Present Tick Nothing (Exit 2)) → ⊥
exit_out_of_else h = omega (arith, h.1.1)

exit_out_of_suspension : ExitsStandInTraps 0 (Suspend Tick (Exit 2)) → ⊥
exit_out_of_suspension h = omega (arith, h.1)

exit_out_of_first : ExitsStandInTraps 0 (Seq (Exit 2) Nothing) → ⊥
exit_out_of_first h = omega (arith, h.0.1)

exit_out_of_second : ExitsStandInTraps 0 (Seq Nothing (Exit 2)) → ⊥
exit_out_of_second h = omega (arith, h.1.1)

exit_out_of_loop : ExitsStandInTraps 0 (Loop here (Exit 2)) → ⊥
exit_out_of_loop h = omega (arith, h.1)

exit_out_of_left : ExitsStandInTraps 0 (Par (Exit 2) Nothing) → ⊥
exit_out_of_left h = omega (arith, h.0.1)

exit_out_of_right : ExitsStandInTraps 0 (Par Nothing (Exit 2)) → ⊥
exit_out_of_right h = omega (arith, h.1.1)

exit_out_of_trap : ExitsStandInTraps 0 (Trap (Exit 3)) → ⊥
exit_out_of_trap h = omega (arith, h.1)

exit_out_of_local : ExitsStandInTraps 0 (Local 3 (Exit 2)) → ⊥
exit_out_of_local h = omega (arith, h.1)

exit_out_of_awake : ExitsStandInTraps 0 (Awake Tick (Exit 2)) → ⊥
exit_out_of_awake h = omega (arith, h.1)

-- an exit of a code below 2

exit_of_a_pause : ExitsStandInTraps 3 (Exit 1) → ⊥
exit_of_a_pause h = omega (arith, h.0)

-- an input emitted: inputs, interface signals and all signals are 1, 2 and 4

abbrev Fits : Term → Type 0
Fits p = SignalsFit 1 2 4 (λ s. nat_lt s 2) p

input_in_then : Fits (Present Tick (Emit 0) Nothing) → ⊥
input_in_then h = omega (arith, h.1.1)

input_in_else : Fits (Present Tick Nothing (Emit 0)) → ⊥
input_in_else h = omega (arith, h.2.1)

input_in_suspension : Fits (Suspend Tick (Emit 0)) → ⊥
input_in_suspension h = omega (arith, h.1.1)

input_in_first : Fits (Seq (Emit 0) Nothing) → ⊥
input_in_first h = omega (arith, h.0.1)

input_in_second : Fits (Seq Nothing (Emit 0)) → ⊥
input_in_second h = omega (arith, h.1.1)

input_in_loop : Fits (Loop here (Emit 0)) → ⊥
input_in_loop h = omega (arith, h.1)

input_in_left : Fits (Par (Emit 0) Nothing) → ⊥
input_in_left h = omega (arith, h.0.1)

input_in_right : Fits (Par Nothing (Emit 0)) → ⊥
input_in_right h = omega (arith, h.1.1)

input_in_trap : Fits (Trap (Emit 0)) → ⊥
input_in_trap h = omega (arith, h.1)

input_in_local : Fits (Local 3 (Emit 0)) → ⊥
input_in_local h = omega (arith, h.2.1)

input_in_awake : Fits (Awake Tick (Emit 0)) → ⊥
input_in_awake h = omega (arith, h.1.1)

-- what goes on is no kernel statement

awake_in_then : IsKernel (Present Tick (Awake Tick Nothing) Nothing) → ⊥
awake_in_then h = absurd h.0

awake_in_else : IsKernel (Present Tick Nothing (Awake Tick Nothing)) → ⊥
awake_in_else h = absurd h.1

awake_in_suspension : IsKernel (Suspend Tick (Awake Tick Nothing)) → ⊥
awake_in_suspension h = absurd h

awake_in_first : IsKernel (Seq (Awake Tick Nothing) Nothing) → ⊥
awake_in_first h = absurd h.0

awake_in_second : IsKernel (Seq Nothing (Awake Tick Nothing)) → ⊥
awake_in_second h = absurd h.1

awake_in_loop : IsKernel (Loop here (Awake Tick Nothing)) → ⊥
awake_in_loop h = absurd h

awake_in_left : IsKernel (Par (Awake Tick Nothing) Nothing) → ⊥
awake_in_left h = absurd h.0

awake_in_right : IsKernel (Par Nothing (Awake Tick Nothing)) → ⊥
awake_in_right h = absurd h.1

awake_in_trap : IsKernel (Trap (Awake Tick Nothing)) → ⊥
awake_in_trap h = absurd h

awake_in_local : IsKernel (Local 3 (Awake Tick Nothing)) → ⊥
awake_in_local h = absurd h

-- tests of signals that are not visible
test_of_a_choice : Fits (Present (Sig 3) Nothing Nothing) → ⊥
test_of_a_choice h = false≢true h.0

test_of_a_suspension : Fits (Suspend (Sig 3) Nothing) → ⊥
test_of_a_suspension h = false≢true h.0

test_of_what_goes_on : Fits (Awake (Sig 3) Nothing) → ⊥
test_of_what_goes_on h = false≢true h.0

negated : TestsVisible (λ s. nat_lt s 2) (Not (Sig 3)) → ⊥
negated h = false≢true h

left_of_and : TestsVisible (λ s. nat_lt s 2) (And (Sig 3) Tick) → ⊥
left_of_and h = false≢true h.0

right_of_and : TestsVisible (λ s. nat_lt s 2) (And Tick (Sig 3)) → ⊥
right_of_and h = false≢true h.1

left_of_or : TestsVisible (λ s. nat_lt s 2) (Or (Sig 3) Tick) → ⊥
left_of_or h = false≢true h.0

right_of_or : TestsVisible (λ s. nat_lt s 2) (Or Tick (Sig 3)) → ⊥
right_of_or h = false≢true h.1

-- ---- lists of codes

pause_codes : (codes : Codes) → map members codes.started.items ≡ only 1 ∷ [] → map members codes.resumed.items ≡ only 0 ∷ [] → AreCodesOf codes Pause
pause_codes codes s r = record { started = s; resumed = r }

no_other_codes : (codes : Codes) → AreCodesOf codes Pause → (map members codes.started.items ≡ only 1 ∷ []) × (map members codes.resumed.items ≡ only 0 ∷ [])
no_other_codes codes a = (a.started, a.resumed)

-- ---- relations of a list

relations_met : MeetsAll worked.relations (false ∷ true ∷ [])
relations_met = two_all (Meets (false ∷ true ∷ [])) (Implies 0 1) (Excludes (0 ∷ 1 ∷ [])) (λ h. absurd (false≢true h)) exclusion_met
  where
    exclusion_met : Meets (false ∷ true ∷ []) (Excludes (0 ∷ 1 ∷ []))
    exclusion_met zero b i j n x y = absurd (false≢true x)
    exclusion_met (suc zero) zero i j n x y = absurd (false≢true y)
    exclusion_met (suc zero) (suc zero) i j n x y = absurd (n refl)
    exclusion_met (suc zero) (suc (suc b)) i j n x y = absurd (false≢true y)
    exclusion_met (suc (suc a)) b i j n x y = absurd (false≢true x)

relations_broken : MeetsAll worked.relations (true ∷ false ∷ []) → ⊥
relations_broken m = false≢true (m 0 (Implies 0 0) (omega arith) refl)

second_relation_broken : MeetsAll worked.relations (true ∷ true ∷ []) → ⊥
second_relation_broken m = m 1 (Implies 0 0) (omega arith) 0 1 (0, omega arith, refl) (1, omega arith, refl) (λ e. omega arith) refl refl
