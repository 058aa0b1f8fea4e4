-- Inner: the netlist of a source that a text of a form is written of.
use Rattle.std.specs.Prelude.{◌≡◌, ℕ, Bool, false, List, Option}
use Rattle.est_kernel.specs.Plain.{Program, program_of}
use Rattle.net_ir.specs.Netlists.{Netlist}
use Rattle.net_ir.specs.Runs.{netlist_of}
use Rattle.cec_compile.specs.Compiling.{StandsForNet}
use Rattle.cec_compile.specs.EncodedTexts.{IsEncoded}
use Rattle.cec_compile.specs.Following.{FollowsGraph}
use Rattle.cec_compile.specs.WireGroups.{SharesWires, is_shared}
use Rattle.cec_compile.specs.declared.passes.Compiled.{Compiled}
use Rattle.cec_compile.specs.declared.forms.TextForm.{TextForm}
use Rattle.cec_compile.specs.declared.forms.TextForm.TheVariants.{EncodedBlif, Guarded}
use Rattle.cec_compile.specs.declared.made.Made.{Made}

-- the program's own netlist, or one whose latches hold the state in a code
abbrev pub IsNetIn : TextForm → Compiled → Program → Netlist → Type 0
IsNetIn EncodedBlif c p net = IsEncoded c p net
IsNetIn others c p net = net ≡ netlist_of c.net

-- the wires of a guarded text are those of the program's graph; those of other texts are shared where they can be
abbrev pub IsSharedIn : TextForm → Program → Bool → Type 0
IsSharedIn Guarded p shared = shared ≡ false
IsSharedIn others p shared = SharesWires p shared

-- The bytes stand for the program, and the netlist is made of it in a form.
pub record IsMade (form : TextForm) (bytes : List ℕ) (main : Option (List ℕ)) (made : Made) : Type 0 where
  pub compiled : Compiled
  pub source : StandsForNet bytes main compiled
  pub shares : IsSharedIn form source.program (is_shared compiled.graph)
  pub follows : FollowsGraph compiled
  pub program : program_of made.program ≡ source.program
  pub net : IsNetIn form compiled source.program (netlist_of made.net)

-- a text that is written so of such a netlist
pub record IsWrittenOf (form : TextForm) (writes : List ℕ → Netlist → Type 0) (bytes : List ℕ) (main : Option (List ℕ))
    (text : List ℕ) : Type 0 where
  pub made : Made
  pub is_made : IsMade form bytes main made
  pub written : writes text (netlist_of made.net)
