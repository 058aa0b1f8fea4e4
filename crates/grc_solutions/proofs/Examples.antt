-- Small programs at the edge of the laws: one whose equations have no solution, one that has two, and one whose edges go
-- up in a rank.
use Rattle.std.proofs.Common.{◌≡◌, ℕ, ◌<◌, Bool, true, false, not, ◌&&◌, ltb, List, [], ◌∷◌, refl, sym, ap, ◌∙◌, arith}
use Rattle.std.specs.Prelude.{slice_index}
use Rattle.std.specs.List.{list_all, position_or_len}
use Rattle.std.proofs.lemmas.Bool.{and_parts, ltb-true, false≢true}
use Rattle.base_facts.proofs.Lists.{Every, all-of-every}
use Rattle.est_kernel.specs.Plain.{Program}
use Rattle.est_kernel.specs.Terms.{Sig, Term, Nothing, Pause, Emit, Present, Seq, Local}
use Rattle.grc_graph.specs.Layers.{Layer, Started}
use Rattle.grc_graph.specs.Wires.{Wire, Out, StatusOf, same_wire, listed, codes_below}
use Rattle.grc_graph.specs.Formulas.{Boot}
use Rattle.grc_graph.specs.Equations.{Equation}
use Rattle.grc_graph.specs.Edges.{Edge}
use Rattle.grc_graph.specs.Orders.{GoUp}
use Rattle.grc_graph.specs.Walk.{State, Initial}
use Rattle.grc_graph.specs.Readings.{Valuation}
use Rattle.grc_graph.specs.GraphRuns.{SolvesGraph, graph_of, formula_value}
use Rattle.grc_solutions.specs.GraphWires.{equation_wires, program_wires, program_edges}
use Rattle.grc_solutions.specs.Solutions.{HasOneSolution}
use Rattle.grc_solutions.specs.Evaluations.{valuation_of}
use Rattle.grc_solutions.proofs.Lists.{every_at}
use Rattle.grc_solutions.proofs.Evaluated.{value_off, unnamed}
use Rattle.grc_solutions.proofs.OneRun.{graphs_have_one_solution_lem}

abbrev pub program : ℕ → Term → Program
program n body = record {
  name = [];
  signals = [];
  inputs = 0;
  both = 0;
  outputs = n;
  relations = [];
  body = body;
}

abbrev pub start : Layer
start = Started 0

-- signal S in present S else emit S end end
abbrev pub no_status : Program
no_status = program 0 (Local 0 (Present (Sig 0) Nothing (Emit 0)))

not_itself : (b : Bool) → b ≡ not b → ⊥
not_itself true e = false≢true (sym e)
not_itself false e = false≢true e

pub no_solution : (V : Valuation) → SolvesGraph (graph_of no_status) Initial [] V → ⊥
unfolding listed codes_below
no_solution V s =
    let d : Equation = record { wire = Out 0; formula = Boot } in
    not_itself (V (StatusOf 0 start))
    (s.met 1 d (omega arith) ∙ s.met 7 d (omega arith)
    ∙ ap (λ b. b && not (V (StatusOf 0 start))) (s.met 3 d (omega arith) ∙ s.met 0 d (omega arith)))

-- signal S in present S then emit S end end
abbrev pub two_statuses : Program
two_statuses = program 0 (Local 0 (Present (Sig 0) (Emit 0) Nothing))

-- the values of a program's wires, in order, and how they solve its graph
abbrev pub by_values : Program → List Bool → Valuation
by_values p values = valuation_of (equation_wires (graph_of p).equations) values

pub solved_by : (p : Program) (q : State) (event values : List Bool)
    → Every (λ e. by_values p values e.wire ≡ formula_value (graph_of p) q event (by_values p values) e.formula) (graph_of p).equations
    → SolvesGraph (graph_of p) q event (by_values p values)
solved_by p q event values h = record {
  met = all-of-every (λ e. by_values p values e.wire ≡ formula_value (graph_of p) q event (by_values p values) e.formula) (graph_of p).equations h;
  others = λ w e. value_off (equation_wires (graph_of p).equations) values w (unnamed (graph_of p).equations w e);
}

-- S is present, and the emission runs; or S is absent, and the other branch runs
abbrev pub present : List Bool
present = true ∷ true ∷ true ∷ true ∷ true ∷ true ∷ true ∷ false ∷ false ∷ []

abbrev absent : List Bool
absent = true ∷ false ∷ true ∷ true ∷ true ∷ false ∷ false ∷ true ∷ true ∷ []

pub solves_present : SolvesGraph (graph_of two_statuses) Initial [] (by_values two_statuses present)
unfolding listed codes_below
solves_present = solved_by two_statuses Initial [] present (refl, (refl, (refl, (refl, (refl, (refl, (refl, (refl, (refl, tt)))))))))

solves_absent : SolvesGraph (graph_of two_statuses) Initial [] (by_values two_statuses absent)
unfolding listed codes_below
solves_absent = solved_by two_statuses Initial [] absent (refl, (refl, (refl, (refl, (refl, (refl, (refl, (refl, (refl, tt)))))))))

two_solutions : ((w : Wire) → by_values two_statuses present w ≡ by_values two_statuses absent w) → ⊥
unfolding listed codes_below
two_solutions h = false≢true (sym (h (StatusOf 0 start)))

-- in neither do the edges go up in a rank
no_rank : (rank : Wire → ℕ) → GoUp rank (program_edges no_status) → ⊥
no_rank rank up =
    let s = (graphs_have_one_solution_lem no_status rank (tt, tt) up Initial []).0 in no_solution s.0 s.1

no_rank_either : (rank : Wire → ℕ) → GoUp rank (program_edges two_statuses) → ⊥
no_rank_either rank up =
    two_solutions
    ((graphs_have_one_solution_lem two_statuses rank (tt, tt) up Initial []).1
    (by_values two_statuses present) (by_values two_statuses absent) solves_present solves_absent)

-- the rank of a wire, by its place
abbrev pub rank_in : Program → List ℕ → Wire → ℕ
rank_in p ranks w = slice_index ranks (position_or_len (same_wire w) (program_wires p))

abbrev pub all_up : (Wire → ℕ) → List Edge → Bool
all_up rank es = list_all (λ e. ltb (rank e.from) (rank e.to)) es

each_up : (rank : Wire → ℕ) (es : List Edge) → all_up rank es ≡ true → Every (λ e. rank e.from < rank e.to) es
each_up rank [] h = tt
each_up rank (e ∷ es) h =
    let p = and_parts (ltb (rank e.from) (rank e.to)) (all_up rank es) h in
    (ltb-true (rank e.from) (rank e.to) p.0, each_up rank es p.1)

pub go_up : (p : Program) (ranks : List ℕ) → all_up (rank_in p ranks) (program_edges p) ≡ true → GoUp (rank_in p ranks) (program_edges p)
go_up p ranks h e c =
    every_at (λ x. rank_in p ranks x.from < rank_in p ranks x.to) (program_edges p)
    (each_up (rank_in p ranks) (program_edges p) h) e c

-- output S; signal T in emit T; pause; present T then emit S end end: the edges go up, in the order of a list
abbrev straight : Program
straight = program 1 (Local 1 (Seq (Emit 1) (Seq Pause (Present (Sig 1) (Emit 0) Nothing))))

-- ranks from an independent implementation, in the order of the wires
abbrev ranks : List ℕ
ranks =
    7 ∷ 0 ∷ 0 ∷ 11 ∷ 0 ∷ 3 ∷ 9 ∷ 1 ∷ 10 ∷ 1 ∷ 8 ∷ 2 ∷ 3 ∷ 2 ∷ 9 ∷ 4 ∷ 7 ∷ 3 ∷ 4 ∷ 5 ∷ 6 ∷ 5 ∷ 8 ∷ 6 ∷ 7 ∷ 6 ∷ 7 ∷ []

abbrev rank_of : Wire → ℕ
rank_of = rank_in straight ranks

straight_up : GoUp rank_of (program_edges straight)
unfolding listed codes_below
straight_up = go_up straight ranks refl

one_solution_there : HasOneSolution (graph_of straight)
one_solution_there = graphs_have_one_solution_lem straight rank_of (tt, (tt, (tt, tt))) straight_up
