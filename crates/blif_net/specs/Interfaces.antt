-- To believe: which circuits have a netlist, and why another has none.
use Rattle.std.specs.Prelude.{◌≡◌, ℕ, ◌<◌, ◌^◌, false, List, [], ◌∷◌, ◌++◌, Some, None, All, IsTrue}
use Rattle.base_types.specs.Names.{is_name}
use Rattle.net_ir.specs.NameLists.{first_again}
use Rattle.blif_text.specs.Circuits.{Circuit}
use Rattle.blif_text.specs.OutputNames.{output_word}
use Rattle.blif_run.specs.CircuitAnswers.{tells_pause, listed_names}
use Rattle.blif_run.specs.Loops.{IsLoop, HasNoLoop}
use Rattle.blif_read.specs.declared.fault.BlifFault.{BlifFault}
use Rattle.blif_read.specs.declared.fault.BlifFault.TheVariants.{NoPause, Model, Input, Output, Again, Loop}
use Rattle.blif_read.specs.declared.fault.BlifFault.TheVariants.{TooManyNets}
use Rattle.blif_net.specs.Sizes.{nets_at_most}

-- a word is that of an output of a netlist with these inputs
abbrev pub HasName : List (List ℕ) → List ℕ → Type 0
HasName inputs word = (name : List ℕ) × IsTrue (is_name name) × (output_word inputs name ≡ word)

-- the first element of a list of which P does not hold
pub record IsFirstWithout {X : Type 0} (P : X → Type 0) (xs : List X) (x : X) : Type 0 where
  pub before : List X
  pub after : List X
  pub splits : xs ≡ before ++ x ∷ after
  pub fit : All P before
  pub lacks : P x → ⊥

-- the last output is `_paused`, and the names of the model and of the inputs are those of netlists
pub record NamesFit (c : Circuit) : Type 0 where
  pub pauses : IsTrue (tells_pause c.outputs)
  pub model : IsTrue (is_name c.name)
  pub inputs : All (λ name. IsTrue (is_name name)) c.inputs

-- and the other outputs are words of outputs, of which none stands twice
pub record IsFit (c : Circuit) : Type 0 where
  pub names : NamesFit c
  pub outputs : All (HasName c.inputs) (listed_names c.outputs)
  pub once : first_again [] (listed_names c.outputs) ≡ None

-- The model's name is the first fault: the last output is `_paused`.
pub record IsModelFault (c : Circuit) (name : List ℕ) : Type 0 where
  pub pauses : IsTrue (tells_pause c.outputs)
  pub model : c.name ≡ name
  pub lacks : is_name name ≡ false

pub record IsInputFault (c : Circuit) (name : List ℕ) : Type 0 where
  pub pauses : IsTrue (tells_pause c.outputs)
  pub model : IsTrue (is_name c.name)
  pub first : IsFirstWithout (λ input. IsTrue (is_name input)) c.inputs name

pub record IsOutputFault (c : Circuit) (word : List ℕ) : Type 0 where
  pub names : NamesFit c
  pub first : IsFirstWithout (HasName c.inputs) (listed_names c.outputs) word

pub record IsAgainFault (c : Circuit) (word : List ℕ) : Type 0 where
  pub names : NamesFit c
  pub outputs : All (HasName c.inputs) (listed_names c.outputs)
  pub again : first_again [] (listed_names c.outputs) ≡ Some word

pub record IsLoopFault (c : Circuit) (names : List (List ℕ)) : Type 0 where
  pub fits : IsFit c
  pub cycle : IsLoop c names

pub record IsLargeFault (c : Circuit) : Type 0 where
  pub fits : IsFit c
  pub acyclic : HasNoLoop c
  pub large : 2 ^ 32 < nets_at_most c

-- the first fault of a circuit
abbrev pub IsCircuitFault : Circuit → BlifFault → Type 0
IsCircuitFault c NoPause = tells_pause c.outputs ≡ false
IsCircuitFault c (Model name) = IsModelFault c name
IsCircuitFault c (Input name) = IsInputFault c name
IsCircuitFault c (Output word) = IsOutputFault c word
IsCircuitFault c (Again word) = IsAgainFault c word
IsCircuitFault c (Loop names) = IsLoopFault c names.items
IsCircuitFault c TooManyNets = IsLargeFault c
IsCircuitFault c others = ⊥
