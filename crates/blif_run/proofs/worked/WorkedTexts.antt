-- Worked texts, by hand: which fault is the first, a combinational cycle, and a text that can be run.
use Rattle.std.proofs.Common.{◌≡◌, ◌+◌, ◌<◌, ℕ, zero, suc, List, [], ◌∷◌, ◌++◌, Result, Err, codes, refl, sym, subst, arith, Vec, Global}
use Rattle.std.specs.Prelude.{flat_map}
use Rattle.net_ir.specs.Netlists.{Netlist}
use Rattle.blif_text.specs.Circuits.{Circuit}
use Rattle.blif_text.specs.Circuits as circuits
use Rattle.blif_text.specs.declared.circuit.Cell.TheVariants.{One}
use Rattle.run_steps.specs.Equations.{NeedsName, name_at}
use Rattle.blif_read.specs.declared.fault.BlifFault.TheVariants.{Line, TwoDrivers, NoDriver, NoPause, Loop}
use Rattle.blif_run.specs.Loops.{IsLoop, HasNoLoop, LoopFault, equation_of, equations_of}
use Rattle.blif_run.specs.Texts.{IsTextFault, ReadsCircuit, IsWritten}

-- the lines of a text behind `.model m` and before `.end`
abbrev text : List (List ℕ) → List ℕ
text lines = flat_map (λ l. l ++ 10 ∷ []) (codes ".model m" ∷ (lines ++ codes ".end" ∷ []))

-- ---- faults of the reader

abbrev fault : ℕ → Result Circuit circuits.CircuitFault
fault line = Err (circuits.Line line)

abbrev without : List ℕ → Result Circuit circuits.CircuitFault
without name = Err (circuits.NoDriver name)

abbrev twice : List ℕ → Result Circuit circuits.CircuitFault
twice name = Err (circuits.TwoDrivers name)

a_row_without_a_table : IsTextFault (text (codes "1" ∷ [])) (Line 2)
a_row_without_a_table = refl

not_the_next_line : IsTextFault (text (codes "1" ∷ [])) (Line 3) → ⊥
not_the_next_line h = differ h
  where
    differ : fault 2 ≡ fault 3 → ⊥
    differ e = cc

driven_twice : IsTextFault (text (codes ".inputs a" ∷ codes ".names a" ∷ [])) (TwoDrivers (codes "a"))
driven_twice = refl

not_driven : IsTextFault (text (codes ".outputs b" ∷ [])) (NoDriver (codes "b"))
not_driven = refl

no_other_is_not_driven : IsTextFault (text (codes ".outputs b" ∷ [])) (NoDriver []) → ⊥
no_other_is_not_driven h = differ h
  where
    differ : without (codes "b") ≡ without [] → ⊥
    differ e = cc

no_other_is_driven_twice : IsTextFault (text (codes ".inputs a" ∷ codes ".names a" ∷ [])) (TwoDrivers []) → ⊥
no_other_is_driven_twice h = differ h
  where
    differ : twice (codes "a") ≡ twice [] → ⊥
    differ e = cc

-- ---- a cycle of two tables

-- a is the value of b, and b that of a
abbrev turning : List ℕ
turning = text (codes ".names b a" ∷ codes "1 1" ∷ codes ".names a b" ∷ codes "1 1" ∷ [])

abbrev turning_circuit : Circuit
turning_circuit = record {
  name = codes "m";
  inputs = [];
  outputs = [];
  latches = [];
  tables = record { inputs = codes "b" ∷ []; output = codes "a"; rows = (One ∷ []) ∷ [] }
      ∷ record { inputs = codes "a" ∷ []; output = codes "b"; rows = (One ∷ []) ∷ [] } ∷ [];
}

abbrev around : List (List ℕ)
around = codes "a" ∷ codes "b" ∷ []

it_turns : IsLoop turning_circuit around
it_turns = record {
  some_name = omega arith;
  steps = first;
  closes = record {
    equation = equation_of (record { inputs = codes "a" ∷ []; output = codes "b"; rows = (One ∷ []) ∷ [] });
    stands = (1, omega arith, refl);
    drives = refl;
    reads = (0, omega arith, refl);
  };
}
  where
    first : (k : ℕ) → k + 1 < 2 → NeedsName (equations_of turning_circuit) (name_at around k) (name_at around (k + 1))
    first zero h = record {
      equation = equation_of (record { inputs = codes "b" ∷ []; output = codes "a"; rows = (One ∷ []) ∷ [] });
      stands = (0, omega arith, refl);
      drives = refl;
      reads = (0, omega arith, refl);
    }
    first (suc k) h = absurd (omega (arith, h))

a_cycle : (names : Vec (List ℕ) Global) → names.items ≡ around → IsTextFault turning (Loop names)
a_cycle names is = (turning_circuit, refl, subst (IsLoop turning_circuit) (sym is) it_turns)

-- the table of b has no other reading
no_cycle_of_another_text : (names : Vec (List ℕ) Global) → IsTextFault (text (codes "1" ∷ [])) (Loop names) → ⊥
no_cycle_of_another_text names h = let read = h.1 in cc

of_a_runner : (names : Vec (List ℕ) Global) → names.items ≡ around → LoopFault turning_circuit (Loop names)
of_a_runner names is = subst (IsLoop turning_circuit) (sym is) it_turns

of_no_other_cause : (LoopFault turning_circuit (Line 2) → ⊥) × (IsTextFault turning NoPause → ⊥)
of_no_other_cause = (λ h. h, λ h. h)

-- ---- texts that can be run

abbrev still : Circuit
still = record { name = codes "m"; inputs = codes "a" ∷ []; outputs = []; latches = []; tables = [] }

nothing_turns : HasNoLoop still
nothing_turns names loop = let low = loop.closes.stands.1 in omega (arith, low)

it_can_be_run : ReadsCircuit (text (codes ".inputs a" ∷ [])) still
it_can_be_run = record { is_read = refl; acyclic = nothing_turns }

a_cycle_is_not_run : ReadsCircuit turning turning_circuit → ⊥
a_cycle_is_not_run h = h.acyclic around it_turns

a_faulty_text_is_not_run : (circuit : Circuit) → ReadsCircuit (text (codes "1" ∷ [])) circuit → ⊥
a_faulty_text_is_not_run circuit h = let read = h.is_read in cc

no_text_of_a_net_is_empty : (net : Netlist) → IsWritten [] net → ⊥
no_text_of_a_net_is_empty net h = empty h.spelled
  where
    empty : {xs : List ℕ} → [] ≡ 46 ∷ xs → ⊥
    empty e = cc
