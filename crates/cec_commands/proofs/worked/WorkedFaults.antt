-- Worked lines of texts that are not run, by hand, of each language, of cycles, and of instants that are not constructive; and their statuses.
use Rattle.std.proofs.Common.{◌≡◌, ◌++◌, ℕ, List, [], ◌∷◌, None, map, codes, refl, ap, Vec, Global}
use Rattle.std.specs.Fmt.{digits}
use Rattle.blif_read.specs.declared.fault.BlifFault.TheVariants as circuits
use Rattle.cec_compile.specs.Cycles.{cycle_text}
use Rattle.cec_compile.specs.declared.cycles.Cycle.{Cycle}
use Rattle.cec_compile.specs.declared.refusal.Refusal.TheVariants as refusals
use Rattle.cec_commands.specs.declared.outcome.Outcome.TheVariants.{BadText, Cyclic}
use Rattle.cec_commands.specs.declared.text_faults.TextFault.{TextFault}
use Rattle.cec_commands.specs.declared.text_faults.TextFault.TheVariants as texts
use Rattle.cec_commands.specs.Lines.{Subject, line_of, said_of, text_fault_text}
use Rattle.cec_text_io.specs.ErrorLines.{joined_names}
use Rattle.cec_compile.specs.Sources.{IsRefusedSource}
use Rattle.cec_commands.specs.Outcomes.{ExecutesIn, MakesOn}
use Rattle.cec_commands.specs.Statuses.{status_of, outcome_of}
use Rattle.csub_read.specs.declared.refusal.CFault.TheVariants as programs
use Rattle.grc_graph.specs.PlainWireNames.{wire_name_of}
use Rattle.csub_guard_read.specs.declared.refusal.GuardedFault.TheVariants as guardeds
use Rattle.vlog_read.specs.declared.refusal.VlogFault.TheVariants as modules

abbrev subject : Subject
subject = record { name = codes "p.blif"; trace = codes "t.txt"; main = []; source = [] }

abbrev line : TextFault → List ℕ
line fault = line_of subject (BadText fault)

of_circuits : map (λ fault. line (texts.Blif fault)) (circuits.Line 12 ∷ circuits.TwoDrivers (codes "a") ∷ circuits.NoDriver (codes "a") ∷ [])
    ≡ codes "cec: line 12: not in the profile\n" ∷ codes "cec: two drivers: a\n" ∷ codes "cec: no driver: a\n" ∷ []
unfolding digits
of_circuits = refl

of_loops : (names : Vec (List ℕ) Global) → names.items ≡ codes "a" ∷ codes "b" ∷ []
    → text_fault_text (texts.Blif (circuits.Loop names)) ≡ codes "loop: a -> b"
of_loops names is = ap (λ names. codes "loop: " ++ joined_names names) is

of_loops_of_modules : (names : Vec (List ℕ) Global) → names.items ≡ codes "a" ∷ codes "b" ∷ []
    → text_fault_text (texts.Verilog (modules.Loop names)) ≡ codes "loop: a -> b"
of_loops_of_modules names is = ap (λ names. codes "loop: " ++ joined_names names) is

of_programs : map (λ fault. line (texts.C fault))
    (programs.Syntax 12 ∷ programs.Twice (codes "a") ∷ programs.Undeclared (codes "a") ∷ programs.Unset (codes "a") ∷ [])
    ≡ codes "cec: byte 12: syntax\n" ∷ codes "cec: declared twice: a\n" ∷ codes "cec: undeclared: a\n" ∷ codes "cec: unset: a\n" ∷ []
unfolding digits
of_programs = refl

of_guarded_programs : map (λ fault. line (texts.Guard fault)) (guardeds.Syntax 12 ∷ guardeds.Twice (codes "a") ∷ guardeds.Undeclared (codes "a")
    ∷ guardeds.Again (codes "a") ∷ guardeds.Unset (codes "a") ∷ [])
    ≡ codes "cec: byte 12: syntax\n" ∷ codes "cec: declared twice: a\n" ∷ codes "cec: undeclared: a\n" ∷ codes "cec: assigned twice: a\n"
    ∷ codes "cec: unset: a\n" ∷ []
unfolding digits
of_guarded_programs = refl

of_modules : map (λ fault. line (texts.Verilog fault))
    (modules.Syntax 12 ∷ modules.Twice (codes "a") ∷ modules.Port (codes "a") ∷ modules.Undeclared (codes "a")
    ∷ modules.TwoDrivers (codes "a") ∷ modules.NoDriver (codes "a") ∷ [])
    ≡ codes "cec: byte 12: syntax\n" ∷ codes "cec: declared twice: a\n" ∷ codes "cec: bad port: a\n" ∷ codes "cec: undeclared: a\n"
    ∷ codes "cec: two drivers: a\n" ∷ codes "cec: no driver: a\n" ∷ []
unfolding digits
of_modules = refl

of_cycles : (cycle : Cycle) → said_of subject (Cyclic cycle) ≡ codes "cyclic: " ++ cycle_text (map wire_name_of cycle.wires.items)
of_cycles cycle = refl

statuses : (cycle : Cycle) (fault : TextFault) → status_of (Cyclic cycle) ∷ status_of (BadText fault) ∷ [] ≡ 5 ∷ 7 ∷ []
statuses cycle fault = refl

of_refusals : (cycle : Cycle) → outcome_of (refusals.Cyclic cycle) ≡ Cyclic cycle
of_refusals cycle = refl

-- a text with a fault is not too long
of_a_fault : (runnable : List ℕ → Type 0) (faulty : List ℕ → TextFault → Type 0) (fault : TextFault) (bytes : List ℕ)
    → ExecutesIn runnable faulty (BadText fault) bytes → faulty bytes fault
of_a_fault runnable faulty fault bytes h = h.1

of_a_cycle : (cycle : Cycle) (bytes : List ℕ) → MakesOn None (Cyclic cycle) bytes → IsRefusedSource None (refusals.Cyclic cycle) bytes
of_a_cycle cycle bytes h = h
