-- Contract: the statements of a body by number, each with what a graph says of it: in which layers it is live, the
-- scope, and what lets it run. So the live instances, their wires and their equations are read from one flat list.
use Rattle.std.specs.Prelude.{ℕ, ◌+◌, Bool, false, ◌==◌, List, [], ◌∷◌, ◌++◌, map, slice_index_or}
use Rattle.std.specs.List.{list_any}
use Rattle.est_kernel.specs.Terms.{Term, Nothing, Pause, Emit, Exit, Present, Suspend, Seq, Loop, Par, Trap, Local}
use Rattle.est_kernel.specs.Terms.{Awake}
use Rattle.est_kernel.specs.Plain.{Program, interface_count}
use Rattle.est_kernel.specs.Preorder.{statement_count}
use Rattle.grc_graph.specs.Layers.{Layer, Resumed, Started, Liveness, body_liveness, part_liveness, second_liveness}
use Rattle.grc_graph.specs.Layers.{loop_liveness}
use Rattle.grc_graph.specs.Instances.{Instance}
use Rattle.grc_graph.specs.Scopes.{Scope, bind, program_scope, Unbound}
use Rattle.grc_graph.specs.Formulas.{Formula, Negation}
use Rattle.grc_graph.specs.Spots.{Spot, test_formula, body_entry, part_entry, branch_entry, tested_entry}
use Rattle.grc_graph.specs.Spots.{suspended_entry, second_entry, loop_entry}
use Rattle.grc_graph.specs.Statements.{Entry, Body, Part, Branch, Then, Else, Suspended, Second, Looped, Listed}
use Rattle.grc_graph.specs.Statements.{signals_of}

pub record Row : Type 0 where
  pub statement : Term
  pub entry : Entry
  pub second : ℕ
  pub scope : Scope
  pub live : Liveness

-- the second part has the number m, or there is none
abbrev pub row : Liveness → Scope → Entry → Term → ℕ → Row
row a B x t m = record { statement = t; entry = x; second = m; scope = B; live = a }

-- the number of the second part of a statement at n; 0 where there is none
abbrev pub second_of : Term → ℕ → ℕ
second_of Nothing n = 0
second_of Pause n = 0
second_of (Emit s) n = 0
second_of (Exit k) n = 0
second_of (Present e p q) n = n + 1 + statement_count p
second_of (Suspend e p) n = 0
second_of (Seq p q) n = n + 1 + statement_count p
second_of (Loop at p) n = 0
second_of (Par p q) n = n + 1 + statement_count p
second_of (Trap p) n = 0
second_of (Local s p) n = 0
second_of (Awake e p) n = 0

-- what the list of statements has of it
abbrev pub listed_row : Row → Listed
listed_row r = record {
  statement = r.statement;
  entry = r.entry;
  second = r.second;
  signals = map r.scope (signals_of r.statement);
}

-- a statement at n and all in it, in preorder
abbrev pub rows : Liveness → Scope → Entry → Term → ℕ → List Row
rows a B x Nothing n = row a B x Nothing 0 ∷ []
rows a B x Pause n = row a B x Pause 0 ∷ []
rows a B x (Emit s) n = row a B x (Emit s) 0 ∷ []
rows a B x (Exit k) n = row a B x (Exit k) 0 ∷ []
rows a B x (Present e p q) n =
    row a B x (Present e p q) (n + 1 + statement_count p)
    ∷ (rows (part_liveness a p) B (Then n e) p (n + 1)
    ++ rows (part_liveness a q) B (Else n e) q (n + 1 + statement_count p))
rows a B x (Suspend e p) n = row a B x (Suspend e p) 0 ∷ rows (part_liveness a p) B (Suspended n e) p (n + 1)
rows a B x (Seq p q) n =
    row a B x (Seq p q) (n + 1 + statement_count p)
    ∷ (rows (part_liveness a p) B (Branch n) p (n + 1)
    ++ rows (second_liveness a p q (n + 1 + statement_count p)) B (Second n) q (n + 1 + statement_count p))
rows a B x (Loop at p) n = row a B x (Loop at p) 0 ∷ rows (loop_liveness a p (n + 1)) B (Looped n) p (n + 1)
rows a B x (Par p q) n =
    row a B x (Par p q) (n + 1 + statement_count p)
    ∷ (rows (part_liveness a p) B (Branch n) p (n + 1)
    ++ rows (part_liveness a q) B (Branch n) q (n + 1 + statement_count p))
rows a B x (Trap p) n = row a B x (Trap p) 0 ∷ rows (part_liveness a p) B (Part n) p (n + 1)
rows a B x (Local s p) n = row a B x (Local s p) 0 ∷ rows (part_liveness a p) (bind B s n) (Part n) p (n + 1)
rows a B x (Awake e p) n = row a B x (Awake e p) 0 ∷ rows (part_liveness a p) B (Part n) p (n + 1)

-- the statements of a program
abbrev pub program_rows : Program → List Row
program_rows p = rows (body_liveness p.body) (program_scope p.inputs (interface_count p)) Body p.body 0

-- the statement with a number; a number that is out of range, which nothing asks for, is read as one that is not live
abbrev pub row_at : List Row → ℕ → Row
row_at W n = slice_index_or W n (row (record { resumed = false; roots = [] }) (λ s. Unbound) Body Nothing 0)

-- what lets the statement with the number c run
abbrev pub entry_formula : Scope → Entry → ℕ → Layer → Formula
entry_formula B Body c l = body_entry l
entry_formula B (Part n) c l = part_entry n l
entry_formula B (Branch n) c l = branch_entry n c l
entry_formula B (Then n e) c l = tested_entry n c (test_formula B e) l
entry_formula B (Else n e) c l = tested_entry n c (λ j. Negation (test_formula B e j)) l
entry_formula B (Suspended n e) c l = suspended_entry n (test_formula B e) l
entry_formula B (Second n) c l = second_entry n c l
entry_formula B (Looped n) c l = loop_entry n l

-- an instance, with what its statement's row says
abbrev pub spot_at : List Row → Instance → Spot
spot_at W x = record {
  statement = (row_at W x.path).statement;
  path = x.path;
  layer = x.layer;
  scope = (row_at W x.path).scope;
  entry = entry_formula (row_at W x.path).scope (row_at W x.path).entry x.path x.layer;
}

-- whether a statement that is live so has an instance in a layer
abbrev pub live_in : Liveness → Layer → Bool
live_in a Resumed = a.resumed
live_in a (Started r) = list_any (λ q. q == r) a.roots
