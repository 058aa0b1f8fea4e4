-- To believe: what a command on a source writes.
use Rattle.std.specs.Prelude.{◌≡◌, ℕ, List, [], ◌∷◌, length, Option, codes, decimal}
use Rattle.std.specs.List.{concat}
use Rattle.est_kernel.specs.Plain.{Program}
use Rattle.est_kernel.specs.Sizes.{size_of}
use Rattle.grc_graph.specs.GraphRuns.{program_wires}
use Rattle.grc_graph.specs.Instances.{body_instances}
use Rattle.grc_graph.specs.SelectionTrees.{body_leaves}
use Rattle.grc_list.specs.Listings.{program_listing}
use Rattle.est_front.specs.Sources.{StandsFor}
use Rattle.cec_compile.specs.SourceTexts.{IsSourceText}
use Rattle.cec_compile.specs.Refusals.{Compiles}
use Rattle.cec_commands.specs.declared.jobs.Task.{Task}
use Rattle.cec_commands.specs.declared.jobs.Task.TheVariants.{Text, Grc, Check}

-- The name of a program, and how many nodes its kernel body, leaves its selection tree, live instances and wires its
-- graph has.
abbrev pub counts_line : Program → List ℕ
counts_line p = concat (p.name ∷ codes ": " ∷ decimal (size_of p.body) ∷ codes " nodes, "
    ∷ decimal (length (body_leaves p.body)) ∷ codes " pauses, "
    ∷ decimal (length (body_instances p.body)) ∷ codes " instances, "
    ∷ decimal (length (program_wires p)) ∷ codes " wires\n" ∷ [])

-- The bytes stand for a program that compiles, and this is its listing, or its line of counts.
pub record StandsForListing (bytes : List ℕ) (main : Option (List ℕ)) (text : List ℕ) : Type 0 where
  pub program : Program
  pub source : StandsFor bytes main program
  pub compiles : Compiles program
  pub listing : text ≡ program_listing program

pub record StandsForCounts (bytes : List ℕ) (main : Option (List ℕ)) (text : List ℕ) : Type 0 where
  pub program : Program
  pub source : StandsFor bytes main program
  pub compiles : Compiles program
  pub counts : text ≡ counts_line program

-- What a task writes of the source in these bytes, by the main module's name where there is one.
abbrev pub IsAnswer : Task → Option (List ℕ) → List ℕ → List ℕ → Type 0
IsAnswer (Text form) main source text = IsSourceText form main source text
IsAnswer Grc main source text = StandsForListing source main text
IsAnswer Check main source text = StandsForCounts source main text
