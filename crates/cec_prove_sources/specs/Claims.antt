-- To believe: what is claimed of an outgoing signal of a kernel program, and what refutes it.
use Rattle.std.specs.Prelude.{◌≡◌, ℕ, Bool, true, false, not, List, map, Option, Some, None, IsTrue, slice_index_or}
use Rattle.std.specs.List.{AllByRecursion, list_all}
use Rattle.base_types.specs.Items.{Item}
use Rattle.est_kernel.specs.Plain.{Program}
use Rattle.est_kernel.specs.Reactions.{Answer, run_of}
use Rattle.net_never.specs.Reached.{items_of, last_or}
use Rattle.cec_compile.specs.Meaning.{AreItems}
use Rattle.cec_prove_sources.specs.declared.questions.Claim.{Claim}
use Rattle.cec_prove_sources.specs.declared.questions.Claim.TheVariants.{Never, Always}

-- whether the signal of a claim is present
abbrev pub claimed : Claim → Bool
claimed Never = false
claimed Always = true

-- whether the outgoing signal with this place is present in an answer
abbrev pub is_present : ℕ → Answer → Bool
is_present place a = slice_index_or a.outputs place false

-- whether the outgoing signal that is assumed is present in an answer, if one is assumed
abbrev pub meets_assumed : Option ℕ → Answer → Bool
meets_assumed None a = true
meets_assumed (Some place) a = is_present place a

-- Over every list of items, events that meet the program's relations and resets, its reactions are constructive. Where
-- the signal that is assumed is present in all of them, the signal of the claim is as claimed in each.
abbrev pub ClaimHolds : Program → Claim → (place : ℕ) → (assumed : Option ℕ) → Type 0
ClaimHolds p claim place assumed = (items : List Item) → AreItems p items
    → (answers : List Answer) × (run_of p items ≡ Some answers)
    × (IsTrue (list_all (meets_assumed assumed) answers)
    → AllByRecursion (λ a. is_present place a ≡ claimed claim) answers)

-- These events meet the program's relations, the signal that is assumed is present in each reaction to them, and in the
-- last one the signal of the claim is not as claimed.
pub record IsBroken (p : Program) (claim : Claim) (place : ℕ) (assumed : Option ℕ) (events : List (List Bool)) :
    Type 0 where
  pub items_fit : AreItems p (items_of events)
  pub answers : List Answer
  pub runs : run_of p (items_of events) ≡ Some answers
  pub assumes : IsTrue (list_all (meets_assumed assumed) answers)
  pub breaks : last_or (claimed claim) (map (is_present place) answers) ≡ not (claimed claim)
