-- To believe: what a claim that holds of a program says of the texts that are made of it.
use Rattle.std.specs.Prelude.{◌≡◌, ℕ, Bool, true, false, List, Option, Some, None, IsTrue, slice_index_or}
use Rattle.std.specs.List.{AllByRecursion, list_all}
use Rattle.base_types.specs.Items.{Item}
use Rattle.base_machines.specs.Machines.{Machine, IsRun}
use Rattle.est_kernel.specs.Plain.{Program}
use Rattle.blif_text.specs.Runs.{circuit_machine}
use Rattle.csub_text.specs.Machine.{program_machine}
use Rattle.vlog_text.specs.Machine.{vlog_machine}
use Rattle.cec_compile.specs.Meaning.{AreItems, Seen, TextKeeps, CTextKeeps, VerilogTextKeeps}
use Rattle.cec_compile.specs.Meaning.{circuit_seen, call_seen, module_seen}
use Rattle.cec_prove_sources.specs.Claims.{claimed}
use Rattle.cec_prove_sources.specs.declared.questions.Claim.{Claim}

-- whether the outgoing signal with this place is seen
abbrev pub is_seen : ℕ → Seen → Bool
is_seen place s = slice_index_or s.outputs place false

-- whether the outgoing signal that is assumed is seen, if one is assumed
abbrev pub sees_assumed : Option ℕ → Seen → Bool
sees_assumed None s = true
sees_assumed (Some place) s = is_seen place s

-- In each run of a machine over the items of a program: where the signal that is assumed is seen in all instants, the
-- signal of the claim is seen as claimed in each.
abbrev pub ShowsClaim : {X : Type 0} → Machine X → (X → Seen) → Program → Claim → (place : ℕ) → (assumed : Option ℕ)
    → Type 0
ShowsClaim {X} M see p claim place assumed = (items : List Item) → AreItems p items → (xs : List X) → IsRun M items xs
    → IsTrue (list_all (λ x. sees_assumed assumed (see x)) xs)
    → AllByRecursion (λ x. is_seen place (see x) ≡ claimed claim) xs

-- Each BLIF text, C text and Verilog text that keeps what the program means shows the claim: `blif_of`, `c_of` and
-- `verilog_of` of cec_compile make such texts.
pub record TextsShow (p : Program) (claim : Claim) (place : ℕ) (assumed : Option ℕ) : Type 0 where
  pub blif : (text : List ℕ) (keeps : TextKeeps text p)
      → ShowsClaim (circuit_machine keeps.circuit) (circuit_seen p) p claim place assumed
  pub c : (text : List ℕ) (keeps : CTextKeeps text p)
      → ShowsClaim (program_machine keeps.program) (call_seen keeps.program) p claim place assumed
  pub verilog : (text : List ℕ) (keeps : VerilogTextKeeps text p)
      → ShowsClaim (vlog_machine keeps.design) (module_seen p) p claim place assumed
