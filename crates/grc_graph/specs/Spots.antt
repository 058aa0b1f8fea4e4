-- To believe: the live instances of a body in order, each with what its wires' equations need.
--
-- Instances are in the preorder of their statements, and at one statement resumed first, then started by ascending
-- roots. The layers of each statement are a function L of its number.
use Rattle.std.specs.Prelude.{ℕ, ◌+◌, true, false, ◌==◌, if◌then◌else◌, List, ◌++◌, map}
use Rattle.est_kernel.specs.Terms.{Expression, Tick, Sig, Not, And, Or, Term, Nothing, Pause, Emit, Exit, Present}
use Rattle.est_kernel.specs.Terms.{Suspend, Seq, Loop, Par, Trap, Local, Awake}
use Rattle.est_kernel.specs.Preorder.{statement_count}
use Rattle.grc_graph.specs.Layers.{Layer, Resumed, Started, layer_above}
use Rattle.grc_graph.specs.Scopes.{Binding, Entering, Outgoing, BoundAt, Unbound, Scope, bind}
use Rattle.grc_graph.specs.Wires.{Out, Go, StatusOf, End}
use Rattle.grc_graph.specs.Formulas.{Formula, Const, Boot, Input, Value, Selected, Negation, Conjunction, Disjunction}

-- the status of a signal with this binding, as seen from a place in this layer
abbrev pub status_formula : Binding → ℕ → Layer → Formula
status_formula Entering s l = Input s
status_formula Outgoing s l = Value (Out s)
status_formula (BoundAt b) s l = Value (StatusOf b (layer_above b l))
status_formula Unbound s l = Const false

-- a test, as seen from a place in this layer
abbrev pub test_formula : Scope → Expression → Layer → Formula
test_formula B Tick l = Const true
test_formula B (Sig s) l = status_formula (B s) s l
test_formula B (Not a) l = Negation (test_formula B a l)
test_formula B (And a b) l = Conjunction (test_formula B a l) (test_formula B b l)
test_formula B (Or a b) l = Disjunction (test_formula B a l) (test_formula B b l)

-- What lets an instance run, for each layer in which it is live: the body in the first instant, or where a pause is
-- selected.
abbrev pub body_entry : Layer → Formula
body_entry Resumed = Selected 0
body_entry (Started r) = Boot

-- the part of a statement at n that runs whenever the statement runs
abbrev pub part_entry : ℕ → Layer → Formula
part_entry n l = Value (Go n l)

-- a part at c that is resumed only where it holds a selected pause
abbrev pub branch_entry : ℕ → ℕ → Layer → Formula
branch_entry n c Resumed = Conjunction (Value (Go n Resumed)) (Selected c)
branch_entry n c (Started r) = Value (Go n (Started r))

-- a branch of a test: started where this formula is true
abbrev pub tested_entry : ℕ → ℕ → (Layer → Formula) → Layer → Formula
tested_entry n c f Resumed = Conjunction (Value (Go n Resumed)) (Selected c)
tested_entry n c f (Started r) = Conjunction (Value (Go n (Started r))) (f (Started r))

-- the body of a suspension: its test f does not count at the start
abbrev pub suspended_entry : ℕ → (Layer → Formula) → Layer → Formula
suspended_entry n f Resumed = Conjunction (Value (Go n Resumed)) (Negation (f Resumed))
suspended_entry n f (Started r) = Value (Go n (Started r))

-- the second part of a sequence, with the number m: started where the first part ends, and at its own root where the
-- resumed first part ends
abbrev pub second_entry : ℕ → ℕ → Layer → Formula
second_entry n m Resumed = Conjunction (Value (Go n Resumed)) (Selected m)
second_entry n m (Started r) = Value (End (n + 1) (if r == m then Resumed else Started r) 0)

-- the body of a loop: at its own root where the resumed body ends
abbrev pub loop_entry : ℕ → Layer → Formula
loop_entry n Resumed = Value (Go n Resumed)
loop_entry n (Started r) = Value (if r == n + 1 then End (n + 1) Resumed 0 else Go n (Started r))

-- a live instance: its statement with the number and the scope, its layer, and what lets it run
pub record Spot : Type 0 where
  pub statement : Term
  pub path : ℕ
  pub layer : Layer
  pub scope : Scope
  pub entry : Formula

-- the live instances of one statement
abbrev pub spots_at : (ℕ → List Layer) → Scope → (Layer → Formula) → Term → ℕ → List Spot
spots_at L B entry t n =
    map (λ l. record { statement = t; path = n; layer = l; scope = B; entry = entry l }) (L n)

-- the live instances of a statement at n and of all statements in it
abbrev pub spots : (ℕ → List Layer) → Scope → (Layer → Formula) → Term → ℕ → List Spot
spots L B entry Nothing n = spots_at L B entry Nothing n
spots L B entry Pause n = spots_at L B entry Pause n
spots L B entry (Emit s) n = spots_at L B entry (Emit s) n
spots L B entry (Exit k) n = spots_at L B entry (Exit k) n
spots L B entry (Present e p q) n =
    spots_at L B entry (Present e p q) n
    ++ (spots L B (tested_entry n (n + 1) (test_formula B e)) p (n + 1)
    ++ spots L B (tested_entry n (n + 1 + statement_count p) (λ l. Negation (test_formula B e l))) q
    (n + 1 + statement_count p))
spots L B entry (Suspend e p) n =
    spots_at L B entry (Suspend e p) n ++ spots L B (suspended_entry n (test_formula B e)) p (n + 1)
spots L B entry (Seq p q) n =
    spots_at L B entry (Seq p q) n
    ++ (spots L B (branch_entry n (n + 1)) p (n + 1)
    ++ spots L B (second_entry n (n + 1 + statement_count p)) q (n + 1 + statement_count p))
spots L B entry (Loop at p) n = spots_at L B entry (Loop at p) n ++ spots L B (loop_entry n) p (n + 1)
spots L B entry (Par p q) n =
    spots_at L B entry (Par p q) n
    ++ (spots L B (branch_entry n (n + 1)) p (n + 1)
    ++ spots L B (branch_entry n (n + 1 + statement_count p)) q (n + 1 + statement_count p))
spots L B entry (Trap p) n = spots_at L B entry (Trap p) n ++ spots L B (part_entry n) p (n + 1)
spots L B entry (Local s p) n = spots_at L B entry (Local s p) n ++ spots L (bind B s n) (part_entry n) p (n + 1)
spots L B entry (Awake e p) n = spots_at L B entry (Awake e p) n ++ spots L B (part_entry n) p (n + 1)

-- the live instances of a program's body
abbrev pub body_spots : (ℕ → List Layer) → Scope → Term → List Spot
body_spots L B body = spots L B body_entry body 0
