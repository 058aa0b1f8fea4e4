-- Inner: what the formulas of a graph mean by the numbers of its wires, and the gates that are made of them.
use Rattle.std.specs.Prelude.{◌≡◌, ℕ, ◌+◌, ◌-◌, ◌<◌, ◌^◌, Bool, true, false, ◌==◌, if◌then◌else◌, List}
use Rattle.std.specs.Prelude.{[], ◌∷◌, length}
use Rattle.std.specs.Prelude.{slice_index, slice_index_or}
use Rattle.base_types.specs.declared.indices.WireId.{WireId}
use Rattle.est_kernel.specs.Statuses.{Minus, Unknown, known, opposite, conjunction, disjunction}
use Rattle.grc_graph.specs.declared.formulas.Formula.{Formula}
use Rattle.grc_graph.specs.declared.formulas.Formula.TheVariants as formulas
use Rattle.grc_graph.specs.declared.graph.Graph.{Graph}
use Rattle.grc_formulas.specs.declared.table.Words.{Words}
use Rattle.grc_ternary_run.specs.declared.numbers.Counts.{Counts}
use Rattle.grc_formulas.specs.WordLaws.{AreWordsOf, ends_upto, first_end}
use Rattle.grc_ternary_gates.specs.declared.gates.Gate.{Gate}
use Rattle.grc_ternary_gates.specs.declared.gates.Gate.TheVariants as gates
use Rattle.grc_ternary_gates.specs.Tables.{Extends, GateSays, Meaning, NodeSays, Shape}
use Rattle.grc_ternary_run.specs.declared.formulas.Making.{Making}
use Rattle.grc_ternary_run.specs.Chains.{IsRun, any_status}
use Rattle.grc_ternary_run.specs.Numbers.{input_number, selected_number, shape}

-- the or of wires, to the right
abbrev pub any_meaning : List WireId → Meaning
any_meaning [] = λ S T. Minus
any_meaning (v ∷ []) = λ S T. T v.0
any_meaning (v ∷ (u ∷ vs)) = λ S T. disjunction (T v.0) (any_meaning (u ∷ vs) S T)

abbrev pub source_meaning : ℕ → Meaning
source_meaning k = λ S T. known (slice_index_or S k false)

-- an instance ends with at most a code
abbrev pub upto_in : Graph → Words → (i k : ℕ) → Meaning
upto_in g w i k = λ S T. any_status T (first_end w i) (ends_upto g w i k)

-- What a formula means by numbers. The words of the next state are in no equation.
abbrev pub meaning_in : Graph → Words → Counts → Formula → Meaning
meaning_in g w c (formulas.Const b) = λ S T. known b
meaning_in g w c formulas.Boot = source_meaning 2
meaning_in g w c (formulas.Input s) = source_meaning (input_number c s.0)
meaning_in g w c (formulas.Wire v) = λ S T. T v.0
meaning_in g w c (formulas.Selected p) = source_meaning (selected_number c p.0)
meaning_in g w c (formulas.Upto i k) = upto_in g w i.0 k
meaning_in g w c (formulas.Kept i) = λ S T. Unknown
meaning_in g w c (formulas.Held i) = λ S T. Unknown
meaning_in g w c (formulas.Not' _ a) = λ S T. opposite (meaning_in g w c a S T)
meaning_in g w c (formulas.And' _ a _ b) = λ S T. conjunction (meaning_in g w c a S T) (meaning_in g w c b S T)
meaning_in g w c (formulas.Or' _ a _ b) = λ S T. disjunction (meaning_in g w c a S T) (meaning_in g w c b S T)
meaning_in g w c (formulas.AnyOf v) = any_meaning v.items

abbrev pub upto_meaning : Making → (i k : ℕ) → Meaning
upto_meaning m i k = upto_in m.graph.now m.words.now i k

abbrev pub meaning_of : Making → Formula → Meaning
meaning_of m f = meaning_in m.graph.now m.words.now m.counts f

abbrev pub constant_gate : Bool → Gate
constant_gate true = gates.Source 1
constant_gate false = gates.Source 0

-- the last of the ends with at most a code, if there are any
abbrev pub upto_gate : Making → (i k : ℕ) → Gate
upto_gate m i k =
    if ends_upto m.graph.now m.words.now i k == 0 then gates.Source 0
    else gates.Same (slice_index m.chains.now (first_end m.words.now i + ends_upto m.graph.now m.words.now i k - 1))

abbrev pub shape_of : Making → Shape
shape_of m = shape m.graph.now m.counts

-- gates can be made over a table
pub record Ready (m : Making) (table : List Gate) : Type 0 where
  pub words : AreWordsOf m.graph.now m.words.now
  pub small : 3 + m.counts.given + m.counts.statements < 2 ^ 64
  pub some : 0 < m.counts.statements
  pub each : length m.chains.now ≡ length m.graph.now.wires.items
  pub extends : Extends (shape_of m) table table
  pub chains : (i v : ℕ) → v < length m.graph.now.wires.items → IsRun m.graph.now m.words.now i v
      → NodeSays (shape_of m) table (slice_index m.chains.now v)
      (λ S T. any_status T (first_end m.words.now i) (v + 1 - first_end m.words.now i))

-- a gate, a node, and two nodes that were made
pub record GateMade (m : Making) (old new : List Gate) (g : Gate) (f : Meaning) : Type 0 where
  pub extends : Extends (shape_of m) old new
  pub says : GateSays (shape_of m) new g f

pub record NodeMade (m : Making) (old new : List Gate) (n : ℕ) (f : Meaning) : Type 0 where
  pub extends : Extends (shape_of m) old new
  pub says : NodeSays (shape_of m) new n f

pub record PairMade (m : Making) (old new : List Gate) (n o : ℕ) (f h : Meaning) : Type 0 where
  pub extends : Extends (shape_of m) old new
  pub left : NodeSays (shape_of m) new n f
  pub right : NodeSays (shape_of m) new o h
