-- To believe: which nets have an embedded text under a name, and why one has none.
use Rattle.std.specs.Prelude.{◌≡◌, ℕ, true, false, List, ◌++◌, find, Some}
use Rattle.std.specs.List.{list_any}
use Rattle.base_types.specs.Names.{is_name}
use Rattle.net_ir.specs.Netlists.{Netlist, output_names}
use Rattle.csub_embed.specs.Names.{is_reserved, is_type}
use Rattle.csub_embed.specs.declared.fault.EmbedFault.{EmbedFault}
use Rattle.csub_embed.specs.declared.fault.EmbedFault.TheVariants as faults

-- the names of the signals, those of inputs first
abbrev pub signals : Netlist → List (List ℕ)
signals net = net.inputs ++ output_names net

-- NAME_t is no type of the library, where NAME is the name of the net, and no signal is a word of C or of C++
pub record IsEmbeddable (net : Netlist) : Type 0 where
  pub type_free : is_type net.name ≡ false
  pub signals_free : list_any is_reserved (signals net) ≡ false

-- the net under this name
abbrev pub under_name : List ℕ → Netlist → Netlist
under_name name net = record net { name = name }

-- The name is none; or NAME_t is a type of the library; or this is the first of these signals that is a word of C or of
-- C++.
abbrev pub IsEmbedFault : List ℕ → List (List ℕ) → EmbedFault → Type 0
IsEmbedFault name names faults.NoName = is_name name ≡ false
IsEmbedFault name names faults.TypeTaken = (is_name name ≡ true) × (is_type name ≡ true)
IsEmbedFault name names (faults.Reserved word) =
    (is_name name ≡ true) × (is_type name ≡ false) × (find is_reserved names ≡ Some word)
