-- Inner: for each statement of a body how many loop bodies stand above it, and how many at or above it.
use Rattle.std.specs.Prelude.{◌≡◌, ℕ, ◌<◌, List, length, slice_index_or, MatchOption, Option, Vec, ⊤}
use Rattle.std.specs.Global.{Global}
use Rattle.est_kernel.specs.Preorder.{statement_count}
use Rattle.est_kernel.specs.Terms.{Term}
use Rattle.grc_graph.specs.declared.loops.LoopBodies.{LoopBodies}
use Rattle.grc_graph.specs.LoopKeys.{loops_above, loops_at}

-- the counts of the first statements of a body
pub record AreLoopCounts (body : Term) (list : List LoopBodies) : Type 0 where
  pub above : (n : ℕ) (d : LoopBodies) → n < length list
      → (slice_index_or list n d).above ≡ loops_above 0 0 body 0 n
  pub inside : (n : ℕ) (d : LoopBodies) → n < length list → (slice_index_or list n d).inside ≡ loops_at 0 body 0 n

-- a table of them, if there is one, is that of all statements of a body
abbrev pub KeepsLoops : Option (Vec LoopBodies Global) → Term → Type 0
KeepsLoops table body =
    MatchOption table (⊤)
    (λ loops. (length loops.items ≡ statement_count body)
    × ((n : ℕ) (d : LoopBodies) → n < length loops.items
    → ((slice_index_or loops.items n d).above ≡ loops_above 0 0 body 0 n)
    × ((slice_index_or loops.items n d).inside ≡ loops_at 0 body 0 n)))
