-- Inner: what a search for components keeps. Nothing rests on which components it finds.
use Rattle.std.specs.Prelude.{◌≡◌, ℕ, ◌<◌, Option, Some, None, length, All, ⊤}
use Rattle.grc_ternary_schedule.specs.declared.parts.Marks.{Marks}
use Rattle.grc_ternary_schedule.specs.declared.search.Search.{Search}

-- each table has an entry for each node, and the lists have nodes alone
pub record IsSearch (nodes : ℕ) (s : Search) : Type 0 where
  pub met : length s.met.items ≡ nodes
  pub low : length s.low.items ≡ nodes
  pub part : length s.part.items ≡ nodes
  pub depth : length s.depth.items ≡ nodes
  pub stacked : length s.stacked.items ≡ nodes
  pub stack : All (λ n. n < nodes) s.stack.items
  pub path : All (λ x. x.node < nodes) s.path.items
  pub order : All (λ n. n < nodes) s.order.items

-- a node, if it is one
abbrev pub IsNode : ℕ → Option ℕ → Type 0
IsNode nodes None = ⊤
IsNode nodes (Some n) = n < nodes

-- a mark for each node
pub record AreMarks (nodes : ℕ) (m : Marks) : Type 0 where
  pub place : length m.place.items ≡ nodes
  pub cut : length m.cut.items ≡ nodes
