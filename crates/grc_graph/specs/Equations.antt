-- To believe: the equations of a graph, one formula per wire, and the formulas of the next state.
--
-- They are Berry's circuit of the program ("The Constructive Semantics of Pure Esterel"), with an instance of its own
-- for each layer in which a statement is live. A wire that does not exist counts as false.
use Rattle.std.specs.Prelude.{ℕ, zero, suc, ◌+◌, Bool, false, ◌==◌, nat_lt, if◌then◌else◌, List, [], ◌∷◌, ◌++◌, map}
use Rattle.std.specs.Prelude.{Option, Some, None}
use Rattle.std.specs.List.{flat_map}
use Rattle.base_types.specs.Codes.{except}
use Rattle.est_kernel.specs.Terms.{Term, Nothing, Pause, Emit, Exit, Present, Suspend, Seq, Loop, Par, Trap, Local}
use Rattle.est_kernel.specs.Terms.{Awake}
use Rattle.est_kernel.specs.Preorder.{statement_count}
use Rattle.est_kernel.specs.StaticCodes.{codes_if, has_code, started_codes, resumed_codes}
use Rattle.grc_graph.specs.Layers.{Layer, Resumed, Started, can_pass}
use Rattle.grc_graph.specs.Scopes.{Scope}
use Rattle.grc_graph.specs.Wires.{Wire, Out, Go, StatusOf, End, same_wire, listed, instance_codes, instance_wires}
use Rattle.grc_graph.specs.Wires.{status_wire}
use Rattle.grc_graph.specs.Formulas.{Formula, Input, Value, Selected, Upto, Kept, Held, Negation, Conjunction, any_of}
use Rattle.grc_graph.specs.Spots.{Spot, test_formula}

-- the end of a part at c with code k, where the part has the code
abbrev pub part_end : (ℕ → Bool) → ℕ → Layer → ℕ → List Formula
part_end A c l k = if A k then Value (End c l k) ∷ [] else []

-- a body that a trap encloses: codes 0 and 2 become 0, 1 stays, k above 2 becomes k - 1
abbrev pub trapped_ends : (ℕ → Bool) → ℕ → Layer → ℕ → List Formula
trapped_ends A c l zero = part_end A c l 0 ++ part_end A c l 2
trapped_ends A c l (suc zero) = part_end A c l 1
trapped_ends A c l (suc (suc k)) = part_end A c l (suc (suc (suc k)))

-- A parallel with branches at c and d, started, ends with code k where both branches end with at most k, and one of
-- them with k.
abbrev pub started_parallel : (A C : ℕ → Bool) (c d : ℕ) (l : Layer) (k : ℕ) → Formula
started_parallel A C c d l k =
    Conjunction (Upto c l k) (Conjunction (Upto d l k) (any_of (part_end A c l k ++ part_end C d l k)))

-- a branch at c of a resumed parallel at n that holds no selected pause has ended before, and counts as code 0
abbrev pub branch_over : ℕ → ℕ → Formula
branch_over n c = Conjunction (Negation (Selected c)) (Value (Go n Resumed))

-- a branch of a resumed parallel ends with at most k
abbrev pub branch_upto : (A : ℕ → Bool) (n c k : ℕ) → Formula
branch_upto A n c k =
    any_of ((if has_code A then Conjunction (Selected c) (Upto c Resumed k) ∷ [] else []) ++ branch_over n c ∷ [])

-- a branch of a resumed parallel ends with k
abbrev pub branch_end : (A : ℕ → Bool) (n c k : ℕ) → List Formula
branch_end A n c k =
    (if A k then Conjunction (Selected c) (Value (End c Resumed k)) ∷ [] else [])
    ++ (if k == 0 then branch_over n c ∷ [] else [])

abbrev pub resumed_parallel : (A C : ℕ → Bool) (n c d k : ℕ) → Formula
resumed_parallel A C n c d k =
    Conjunction (branch_upto A n c k) (Conjunction (branch_upto C n d k)
    (any_of (branch_end A n c k ++ branch_end C n d k)))

-- The formula of `end k` of a statement at n in a layer, for each of its codes k.
abbrev pub end_formula : Scope → Term → ℕ → Layer → ℕ → Formula
end_formula B Nothing n l k = Value (Go n l)
end_formula B Pause n l k = Value (Go n l)
end_formula B (Emit s) n l k = Value (Go n l)
end_formula B (Exit c) n l k = Value (Go n l)
end_formula B (Present e p q) n l k =
    any_of (part_end (instance_codes p l) (n + 1) l k
    ++ part_end (instance_codes q l) (n + 1 + statement_count p) l k)
end_formula B (Suspend e p) n Resumed k =
    any_of (part_end (resumed_codes p) (n + 1) Resumed k
    ++ (if k == 1 then Conjunction (Value (Go n Resumed)) (test_formula B e Resumed) ∷ [] else []))
end_formula B (Suspend e p) n (Started r) k = any_of (part_end (started_codes p) (n + 1) (Started r) k)
end_formula B (Seq p q) n Resumed k =
    let m = n + 1 + statement_count p in
    any_of (part_end (except 0 (resumed_codes p)) (n + 1) Resumed k
    ++ (part_end (codes_if (can_pass p) (resumed_codes q)) m Resumed k
    ++ part_end (codes_if (resumed_codes p 0) (started_codes q)) m (Started m) k))
end_formula B (Seq p q) n (Started r) k =
    any_of (part_end (except 0 (started_codes p)) (n + 1) (Started r) k
    ++ part_end (codes_if (started_codes p 0) (started_codes q)) (n + 1 + statement_count p) (Started r) k)
end_formula B (Loop at p) n Resumed k =
    any_of (part_end (except 0 (resumed_codes p)) (n + 1) Resumed k
    ++ part_end (codes_if (resumed_codes p 0) (except 0 (started_codes p))) (n + 1) (Started (n + 1)) k)
end_formula B (Loop at p) n (Started r) k = any_of (part_end (except 0 (started_codes p)) (n + 1) (Started r) k)
end_formula B (Par p q) n Resumed k =
    resumed_parallel (resumed_codes p) (resumed_codes q) n (n + 1) (n + 1 + statement_count p) k
end_formula B (Par p q) n (Started r) k =
    started_parallel (started_codes p) (started_codes q) (n + 1) (n + 1 + statement_count p) (Started r) k
end_formula B (Trap p) n l k = any_of (trapped_ends (instance_codes p l) (n + 1) l k)
end_formula B (Local s p) n l k = any_of (part_end (instance_codes p l) (n + 1) l k)
end_formula B (Awake e p) n l k = any_of (part_end (instance_codes p l) (n + 1) l k)

-- a wire and its formula
pub record Equation : Type 0 where
  pub wire : Wire
  pub formula : Formula

-- whether an instance emits on this status wire: it is an Emit whose signal has the wire as seen from there
abbrev pub is_wire : Option Wire → Wire → Bool
is_wire None w = false
is_wire (Some v) w = same_wire v w

abbrev pub emits_on : Wire → Term → Scope → Layer → Bool
emits_on w (Emit s) B l = is_wire (status_wire (B s) s l) w
emits_on w t B l = false

-- the emissions on a status wire: the `go` of each instance that emits on it
abbrev pub emissions : Wire → List Spot → List Formula
emissions w [] = []
emissions w (x ∷ xs) =
    if emits_on w x.statement x.scope x.layer then Value (Go x.path x.layer) ∷ emissions w xs else emissions w xs

-- The equations of an instance, in the order of its wires. A Local's status wire is true where one of the emissions
-- on it, among all instances, is.
abbrev pub instance_status : List Spot → Term → ℕ → Layer → List Equation
instance_status all (Local s p) n l = record { wire = StatusOf n l; formula = any_of (emissions (StatusOf n l) all) } ∷
    []
instance_status all t n l = []

abbrev pub instance_equations : List Spot → Spot → List Equation
instance_equations all x =
    record { wire = Go x.path x.layer; formula = x.entry }
    ∷ (instance_status all x.statement x.path x.layer
    ++ map (λ k. record {
      wire = End x.path x.layer k;
      formula = end_formula x.scope x.statement x.path x.layer k;
    }) (listed (instance_codes x.statement x.layer)))

-- the equation of an outgoing signal: it is present where one of its emissions is, or, if it is also an input (its
-- number is below `given`), where the event gives it
abbrev pub output_equation : ℕ → List Spot → ℕ → Equation
output_equation given all s = record {
  wire = Out s;
  formula = any_of ((if nat_lt s given then Input s ∷ [] else []) ++ emissions (Out s) all);
}

-- The equations of a graph, one per wire, in order: the outgoing signals, then the instances. So many signals are
-- given by the event, and these go out.
abbrev pub equations : ℕ → List ℕ → List Spot → List Equation
equations given outgoing all =
    map (output_equation given all) outgoing ++ flat_map (instance_equations all) all

-- the wires of a graph, in the same order
abbrev pub wires : List ℕ → List Spot → List Wire
wires outgoing all = map Out outgoing ++ flat_map (λ x. instance_wires x.statement x.path x.layer) all

-- a start of a pause that is kept
abbrev pub kept_start : ℕ → Layer → List Formula
kept_start n Resumed = []
kept_start n (Started r) = Conjunction (Value (Go n (Started r))) (Kept n (Started r)) ∷ []

-- The next state: a pause at n with these layers is selected in the next instant where one of its starts runs and is
-- kept, or where it is selected and held.
abbrev pub next_formula : ℕ → List Layer → Formula
next_formula n layers = any_of (flat_map (kept_start n) layers ++ (Conjunction (Selected n) (Held n Resumed) ∷ []))
