-- Inner: the records of a plan in code. Most lookups are gates, which read two slots.
use Rattle.std.specs.Prelude.{◌≡◌, ℕ, ◌/◌, ◌%◌, ◌^◌, ◌<◌, ◌≤◌, ◌==◌, Bool, List, [], ◌∷◌, ◌++◌}
use Rattle.std.specs.Prelude.{All, length, map, flat_map, slice_set}
use Rattle.run_steps.specs.declared.term.Term.{Term}
use Rattle.run_steps.specs.declared.gate.Gate.{Gate}
use Rattle.run_steps.specs.declared.gate.NarrowGate.{NarrowGate}
use Rattle.run_steps.specs.declared.lookup.Lookup.{Lookup as CodeLookup}
use Rattle.run_steps.specs.declared.plan.Stretch.{Stretch}
use Rattle.run_steps.specs.declared.plan.Plan.TheInside.{Inside}
use Rattle.run_steps.specs.declared.gates.Gates.TheInside.{Inside as GatesInside}
use Rattle.run_steps.specs.Slots.{value_at}
use Rattle.run_steps.specs.Plans.{number_of, digits, Lookup, Planned, Listed, lookup_made}

-- the four values of a term, in the order of their places
abbrev pub term_truth : Term → List Bool
term_truth t = t.neither ∷ t.first ∷ t.second ∷ t.both ∷ []

-- a binary digit of a number
abbrev pub digit_at : ℕ → ℕ → Bool
digit_at n k = n / 2 ^ k % 2 == 1

-- the digit that the values of the two slots lead to
abbrev pub gate_value : Gate → List Bool → Bool
gate_value g values = digit_at g.truth (number_of (value_at values g.left ∷ value_at values g.right ∷ []))

-- the gate that a record of 16 bytes stands for
abbrev pub widened : NarrowGate → Gate
widened n = record { output = n.output; left = n.left; right = n.right; truth = n.truth }

abbrev pub gate_lookup : Gate → Lookup
gate_lookup g = record { output = g.output; reads = g.left ∷ g.right ∷ []; truth = digits 4 g.truth }

abbrev pub plain_lookup : CodeLookup → Lookup
plain_lookup l = record { output = l.output; reads = l.reads.items; truth = l.truth.items }

-- a gate among so many slots
pub record GateFits (slots : ℕ) (g : Gate) : Type 0 where
  pub output_low : g.output < slots
  pub left_low : g.left < slots
  pub right_low : g.right < slots

-- a lookup among so many slots
pub record LookupFits (slots : ℕ) (l : Lookup) : Type 0 where
  pub output_low : l.output < slots
  pub reads_low : All (λ slot. slot < slots) l.reads
  pub each_place : length l.truth ≡ 2 ^ length l.reads
  pub few : length l.reads ≤ 8

pub record StretchFits (slots : ℕ) (s : Stretch) : Type 0 where
  pub gates_fit : All (GateFits slots) s.gates
  pub last_fits : LookupFits slots (plain_lookup s.last)

-- ---- what the code does

abbrev pub gates_made : List Gate → List Bool → List Bool
gates_made [] values = values
gates_made (g ∷ gates) values = gates_made gates (slice_set values g.output (gate_value g values))

abbrev pub stretches_made : List Stretch → List Bool → List Bool
stretches_made [] values = values
stretches_made (s ∷ stretches) values =
    stretches_made stretches (lookup_made (plain_lookup s.last) (gates_made s.gates values))

-- ---- the plan that callers see

abbrev pub stretch_lookups : Stretch → List Lookup
stretch_lookups s = map gate_lookup s.gates ++ plain_lookup s.last ∷ []

abbrev pub plan_of : Inside → Planned
plan_of p = record {
  named = p.named;
  free = p.free;
  slots = p.slots;
  lookups = flat_map stretch_lookups p.stretches.items ++ map gate_lookup p.gates;
  tables = length p.stretches.items;
}

-- every record reads and writes slots that there are
pub record AreWithin (p : Inside) : Type 0 where
  pub named_low : p.named < p.free
  pub free_low : p.free ≤ p.slots
  pub stretches_fit : All (StretchFits p.slots) p.stretches.items
  pub gates_fit : All (GateFits p.slots) p.gates

-- ---- the gates that callers see

abbrev pub gates_of : GatesInside → Listed
gates_of g = record { slots = g.slots; lookups = map gate_lookup g.gates }

abbrev pub AreFitting : GatesInside → Type 0
AreFitting g = All (GateFits g.slots) g.gates
