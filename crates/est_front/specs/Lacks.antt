-- Contract: what the bytes of a refused source lack, pass by pass. Where memory runs out, nothing is said.
use Rattle.std.specs.Prelude.{ℕ, ⊤, List, Option}
use Rattle.est_ast.specs.Trees as source
use Rattle.est_ast.specs.FlatTrees.{Flat}
use Rattle.est_kernel.specs.Plain.{Program}
use Rattle.est_front.specs.declared.refusal.SourceRefusal.{SourceRefusal}
use Rattle.est_front.specs.declared.refusal.SourceRefusal.TheVariants.{NoMemory}
use Rattle.est_front.specs.Sources.{SourceReadsAs, Flattens, Expands}

abbrev pub HasNoTree : List ℕ → SourceRefusal → Type 0
HasNoTree text NoMemory = ⊤
HasNoTree text others = (tree : source.SourceProgram) → SourceReadsAs text tree → ⊥

abbrev pub HasNoFlat : List ℕ → Option (List ℕ) → SourceRefusal → Type 0
HasNoFlat text main NoMemory = ⊤
HasNoFlat text main others = (flat : Flat) → Flattens text main flat → ⊥

abbrev pub HasNoExpansion : List ℕ → Option (List ℕ) → SourceRefusal → Type 0
HasNoExpansion text main NoMemory = ⊤
HasNoExpansion text main others = (p : Program) → Expands text main p → ⊥
