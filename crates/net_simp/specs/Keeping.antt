-- Inner: gates that stand for others.
use Rattle.std.specs.Prelude.{⊤, ◌≡◌, ℕ, ◌+◌, ◌<◌, ◌≤◌, Bool, List, length}
use Rattle.net_ir.specs.declared.netlist.Gate.{Gate}
use Rattle.net_ir.specs.Gates.{ReadsLower, value_in, gate_values, carried}
use Rattle.net_simp.specs.SameRuns.{carried_values}

-- Each of the old nets that are asked for has the value of the new one that stands for it, whatever the inputs and the
-- latches have. The gates that carry a wire are the same, in the same order, with the same values.
pub record KeepsValues (first : ℕ) (old new : List Gate) (f : ℕ → ℕ) (Asked : ℕ → Type 0) : Type 0 where
  pub low : (n : ℕ) → n < first + length old → Asked n → f n < first + length new
  pub same : (v : List Bool) (n : ℕ) → length v ≡ first → n < first + length old → Asked n
      → value_in (gate_values v new) (f n) ≡ value_in (gate_values v old) n
  pub reads_lower : ReadsLower first new
  pub carries : carried new ≡ carried old
  pub carrier_values : (v : List Bool) → length v ≡ first
      → carried_values first new (gate_values v new) ≡ carried_values first old (gate_values v old)
  pub fewer : length new ≤ length old

-- every net is asked for
abbrev pub Any : ℕ → Type 0
Any n = ⊤
