-- The graph of a program's shared wires needs at most 15 gates for each of these and each live test node of its instances.
use Rattle.std.proofs.Common.{◌≡◌, ℕ, ◌+◌, ◌*◌, ◌<◌, ◌≤◌, ◌==◌, ◌&&◌, Bool, true, false, not, cond, List, [], ◌∷◌, ◌++◌, length, map, refl, sym, ap, ◌∙◌}
use Rattle.std.proofs.Common.{subst, ⊎_elim, arith, Vec, Option, None, Some}
use Rattle.std.specs.Global.{Global}
use Rattle.std.specs.List.{flat_map, range_with_len, sum_by}
use Rattle.std.specs.Prelude.{Contains, filter, if◌then◌else◌, is_some}
use Rattle.std.proofs.lemmas.Bool.{cases_Bool, eq-eqb, false≢true}
use Rattle.std.proofs.lemmas.List.{length-map}
use Rattle.std.proofs.lemmas.List.Elements.{filter-append}
use Rattle.std.proofs.lemmas.List.Filters.{length-filter_both}
use Rattle.std.proofs.lemmas.List.FromFn.{length-map-range_with_len}
use Rattle.std.proofs.lemmas.List.Sums.{get_or-le-sum_by, sum_by-append, sum_by-cons, sum_by-le-sum_by}
use Rattle.base_facts.proofs.Lists.{sum-flat_map}
use Rattle.base_types.specs.declared.bounds.TheConstants.Limits.{WIRES}
use Rattle.est_kernel.specs.Plain.{Program, interface_count, outgoing_count, program_of}
use Rattle.est_kernel.specs.Preorder.{statement_count}
use Rattle.est_kernel.specs.WellFormed.{IsKernel, KeepsLimits}
use Rattle.est_kernel.proofs.Exports.{statement_count-pos, trees_are_kernels_lem}
use Rattle.grc_graph.specs.declared.formulas.Formula.{Formula}
use Rattle.grc_graph.specs.declared.graph.Graph.{Graph}
use Rattle.grc_graph.specs.declared.loops.LoopBodies.{LoopBodies}
use Rattle.grc_graph.specs.Equations.{Equation, next_formula}
use Rattle.grc_graph.specs.FewGates.{HasFewGates}
use Rattle.grc_graph.specs.GateCosts.{cost_of}
use Rattle.grc_graph.specs.GraphRuns.{PlainGraph, program_spots, program_wires}
use Rattle.grc_graph.specs.GraphSizes.{graph_size, live_tests}
use Rattle.grc_graph.specs.Instances.{Instance, body_instances, instances_at}
use Rattle.grc_graph.specs.Layers.{Layer, Resumed, Started, Liveness, body_layers, body_liveness, layers_of, same_layer}
use Rattle.grc_graph.specs.PlainGraphs.{equations_of, formula_of, instances_of, names_of, plain_graph, wire_of}
use Rattle.grc_graph.specs.RowCosts.{rows_over, selection_rows}
use Rattle.grc_graph.specs.Rows.{Row, program_rows, row_at, spot_at}
use Rattle.grc_graph.specs.Scopes.{program_scope}
use Rattle.grc_graph.specs.SelectionTrees.{body_leaves}
use Rattle.grc_graph.specs.Spots.{Spot}
use Rattle.grc_graph.specs.Statements.{Body}
use Rattle.grc_graph.specs.Wires.{Wire, Out, Go, End, instance_codes, listed, own_status, same_wire}
use Rattle.grc_graph.proofs.Exports.{StandsAt, at_layer, body_by_row, length-program_rows, outs_of, program_spots_by_row, program_wires_by_row, row_instances}
use Rattle.grc_graph.proofs.Exports.{row_read, row_wires, stands_head, stands_tail, stands_whole, sum_both, sum_mapped}
use Rattle.grc_build.proofs.Exports.{Choice, Measure, by_instance, equations_cost, formula_gates, gates_of, gathered, instance_gates, kept_rows, layers_by}
use Rattle.grc_build.proofs.Exports.{list_cost, next_counts, program_leaves, program_within, resumed_rows, row_sum, run_counts, selected_few, sizes}
use Rattle.grc_build.proofs.Exports.{some_instance, spare_gates, where_started}
use Rattle.grc_share.specs.SharedGraphs.{is_least, names_itself, shared_equations, shared_graph, shared_instances}
use Rattle.grc_share.specs.SharedInstances.{Sharing, body_sharing}
use Rattle.grc_share.specs.SharedSizes.{shared_size}
use Rattle.grc_share.specs.SharedWires.{first_root, shared_layer, shared_layers, shared_wire, shared_wires}
use Rattle.grc_share.proofs.RowsLive.{program_gives}
use Rattle.grc_share.proofs.SharedCosts.{shared_equation_gates, shared_equations_within, sum_filter, sum_filtered}

pub filtered_length : {X : Type 0} (test : X → Bool) (xs : List X) → length (filter test xs) ≤ length xs
filtered_length test xs = omega (arith, length-filter_both test (λ x. not (test x)) (λ x. refl) xs)

length-sum : {X : Type 0} (xs : List X) → length xs ≡ sum_by (λ x. 1) xs
length-sum [] = refl
length-sum (x ∷ xs) = omega (arith, sum_by-cons (λ y. 1) x xs, length-sum xs)

-- ---- the layers that name shared instances

-- a shared instance takes a row more, to say what it sees of the end of a parallel around it
abbrev shared_rows : Measure
shared_rows t x l = kept_rows t x l + 1

-- what is left over is enough
shared_spare : (l : Layer) → where_started 3 l + 1 + where_started 3 l ≤ spare_gates l
shared_spare Resumed = omega arith
shared_spare (Started r) = omega arith

module _ (p : Program) where
  abbrev K : Sharing
  K = body_sharing p.body

  abbrev W : List Row
  W = program_rows p

  -- whether a root is the first with its key
  abbrev is_first : List ℕ → ℕ → Bool
  is_first roots r = first_root K.root roots r == r

  abbrev firsts : Choice
  firsts roots = filter (is_first roots) roots

  -- the roots of starts, and whether a layer is of one that is the first, or of what is resumed
  abbrev starts_of : List Layer → List ℕ
  starts_of [] = []
  starts_of (Resumed ∷ ls) = starts_of ls
  starts_of (Started r ∷ ls) = r ∷ starts_of ls

  abbrev names_layer : List ℕ → Layer → Bool
  names_layer roots Resumed = true
  names_layer roots (Started r) = is_first roots r

  abbrev chosen : List Layer → List Layer
  chosen ls = filter (names_layer (starts_of ls)) ls

  starts_only : (rs : List ℕ) → starts_of (map Started rs) ≡ rs
  starts_only [] = refl
  starts_only (r ∷ rs) = ap (λ qs. r ∷ qs) (starts_only rs)

  kept_starts : (roots rs : List ℕ) → filter (names_layer roots) (map Started rs) ≡ map Started (filter (is_first roots) rs)
  kept_starts roots [] = refl
  kept_starts roots (r ∷ rs) = by (is_first roots r) (kept_starts roots rs)
    where
      by : (b : Bool) → filter (names_layer roots) (map Started rs) ≡ map Started (filter (is_first roots) rs)
          → cond b (Started r ∷ filter (names_layer roots) (map Started rs)) (filter (names_layer roots) (map Started rs))
          ≡ map Started (cond b (r ∷ filter (is_first roots) rs) (filter (is_first roots) rs))
      by true e = ap (λ ls. Started r ∷ ls) e
      by false e = e

  kept_layers : (b : Bool) (rs : List ℕ) → filter (names_layer rs) ((if b then Resumed ∷ [] else []) ++ map Started rs)
      ≡ (if b then Resumed ∷ [] else []) ++ map Started (firsts rs)
  kept_layers true rs = ap (λ ls. Resumed ∷ ls) (kept_starts rs rs)
  kept_layers false rs = kept_starts rs rs

  starts_in : (b : Bool) (rs : List ℕ) → starts_of ((if b then Resumed ∷ [] else []) ++ map Started rs) ≡ rs
  starts_in true rs = starts_only rs
  starts_in false rs = starts_only rs

  chosen_layers : (a : Liveness) → chosen (layers_of a) ≡ layers_by firsts a
  chosen_layers a = ap (λ qs. filter (names_layer qs) (layers_of a)) (starts_in a.resumed a.roots) ∙ kept_layers a.resumed a.roots

  same_tests : (n : ℕ) (ls : List Layer) → filter (names_itself K n) ls ≡ filter (names_layer (K.live n).roots) ls
  same_tests n [] = refl
  same_tests n (Resumed ∷ ls) = ap (λ js. Resumed ∷ js) (same_tests n ls)
  same_tests n (Started r ∷ ls) = ap (λ js. cond (is_first (K.live n).roots r) (Started r ∷ js) js) (same_tests n ls)

  shared_chosen : (n : ℕ) → shared_layers K n ≡ layers_by firsts (K.live n)
  shared_chosen n = same_tests n (layers_of (K.live n)) ∙ kept_layers (K.live n).resumed (K.live n).roots

  -- ---- what is counted of shared instances

  abbrev named : Instance → Bool
  named y = names_itself K y.path y.layer

  abbrev own : Wire → Bool
  own w = same_wire (shared_wire K w) w

  abbrev one : Wire → ℕ
  one w = if own w then 1 else 0

  module _ (kernel : IsKernel p.body) where
    live-same : (n : ℕ) → n < statement_count p.body → (row_at W n).live ≡ K.live n
    live-same n h = program_gives p kernel n (omega arith) (omega (arith, h))

    row_counted : (F : Measure) (r : Row) (n : ℕ) → row_at W n ≡ r → n < statement_count p.body
        → sum_by (by_instance p F) (filter named (instances_at r.live n)) ≡ row_sum firsts F r
    row_counted F r n h low =
        let f = by_instance p F in
        let e : r.live ≡ K.live n = sym (ap (λ (s : Row). s.live) h) ∙ live-same n low in
        let layers : filter (names_itself K n) (layers_of r.live) ≡ layers_by firsts r.live
        = ap (λ a. filter (names_itself K n) (layers_of a)) e ∙ shared_chosen n ∙ ap (layers_by firsts) (sym e) in
        sum_filter named f (instances_at r.live n)
        ∙ sum_mapped (λ (y : Instance). if named y then f y else 0) (at_layer n) (layers_of r.live)
        ∙ sym (sum_filter (names_itself K n) (λ l. f (at_layer n l)) (layers_of r.live))
        ∙ ap (sum_by (λ l. f (at_layer n l))) layers
        ∙ ap (λ (s : Row). sum_by (λ l. F s.statement s.entry l) (layers_by firsts r.live)) h

    rows_counted : (F : Measure) (rs : List Row) (n : ℕ) → StandsAt W n rs → n + length rs ≤ statement_count p.body
        → sum_by (by_instance p F) (filter named (row_instances rs n)) ≡ sum_by (row_sum firsts F) rs
    rows_counted F [] n h low = refl
    rows_counted F (r ∷ rs) n h low =
        ap (sum_by (by_instance p F)) (filter-append named (instances_at r.live n) (row_instances rs (n + 1)))
        ∙ sum_by-append (by_instance p F) (filter named (instances_at r.live n)) (filter named (row_instances rs (n + 1)))
        ∙ (λ i. row_counted F r n (stands_head W n r _ rs h) (omega (arith, low)) i
        + rows_counted F rs (n + 1) (stands_tail W n r rs h) (omega (arith, low)) i)
        ∙ sym (sum_by-cons (row_sum firsts F) r rs)

    shared_counted : (F : Measure) → sum_by (by_instance p F) (shared_instances p) ≡ sum_by (row_sum firsts F) W
    shared_counted F =
        ap (λ xs. sum_by (by_instance p F) (filter named xs)) (body_by_row p)
        ∙ rows_counted F W 0 (stands_whole W) (omega (arith, length-program_rows p))

    -- the start of the body names its shared instance
    start_named : names_itself K 0 (Started 0) ≡ true
    start_named =
        let r = row_read W (body_liveness p.body) (program_scope p.inputs (interface_count p)) Body p.body 0 (stands_whole W) in
        let live : K.live 0 ≡ body_liveness p.body
        = sym (live-same 0 (statement_count-pos p.body)) ∙ ap (λ (s : Row). s.live) r.same in
        ap (λ (a : Liveness). first_root K.root a.roots 0 == 0) live ∙ ap (λ b. cond b 0 0 == 0) (eq-eqb (K.root 0) (K.root 0) refl)

    -- each shared instance has its wires, but for a status
    run_kept : (y : Instance) → (if named y then by_instance p run_counts y else 0) ≤ sum_by one (row_wires W y)
    run_kept y =
        let n = y.path in
        let l = y.layer in
        let t = (row_at W n).statement in
        let ends : List Wire = map (End n l) (listed (instance_codes t l)) in
        let self = eq-eqb n n refl in
        ⊎_elim
        (λ h.
        let kept : (if named y then by_instance p run_counts y else 0) ≡ by_instance p run_counts y
        = ap (λ b. if b then by_instance p run_counts y else 0) h in
        let go : one (Go n l) ≡ 1 = λ i. if self i && h i then 1 else 0 in
        let each : sum_by (λ k. one (End n l k)) (listed (instance_codes t l)) ≡ sum_by (λ k. 1) (listed (instance_codes t l))
        = λ i. sum_by (λ k. if self i && (h i && eq-eqb k k refl i) then 1 else 0) (listed (instance_codes t l)) in
        omega (
          arith,
          kept,
          go,
          sum_by-cons one (Go n l) (own_status t n l ++ ends),
          sum_by-append one (own_status t n l) ends,
          sum_mapped one (End n l) (listed (instance_codes t l)),
          each,
          length-sum (listed (instance_codes t l)),
        ))
        (λ h.
        let none : (if named y then by_instance p run_counts y else 0) ≡ 0 = ap (λ b. if b then by_instance p run_counts y else 0) h in
        omega (arith, none)) (cases_Bool (named y))

    wires_kept : outgoing_count p + sum_by (by_instance p run_counts) (shared_instances p) ≤ length (shared_wires p)
    wires_kept =
        let insts = body_instances p.body in
        let kept : Instance → ℕ = λ y. if named y then by_instance p run_counts y else 0 in
        let outs = range_with_len p.inputs (outgoing_count p) in
        let out : sum_by (λ s. one (Out s)) outs ≡ sum_by (λ s. 1) outs = λ i. sum_by (λ s. if eq-eqb s s refl i then 1 else 0) outs in
        let all = sum_filter own (λ w. 1) (program_wires p) in
        let rows = ap (sum_by one) (program_wires_by_row p kernel) in
        let both = sum_by-append one (outs_of p) (flat_map (row_wires W) insts) in
        omega (
          arith,
          length-sum (shared_wires p),
          all,
          rows,
          both,
          sum_mapped one Out outs,
          out,
          length-sum outs,
          length-map outs Out,
          length-map-range_with_len Out p.inputs (outgoing_count p),
          sum-flat_map one (row_wires W) insts,
          sum_by-le-sum_by kept (λ y. sum_by one (row_wires W y)) insts run_kept,
          sum_filter named (by_instance p run_counts) insts,
        )

    -- the live test nodes of shared instances
    abbrev tests : Measure
    tests t x l = live_tests t l

    tests_counted : sum_by (λ x. live_tests x.statement x.layer) (filter (is_least K) (program_spots p)) ≡ sum_by (by_instance p tests) (shared_instances p)
    tests_counted =
        let T : Spot → ℕ = λ x. live_tests x.statement x.layer in
        let B : Spot → ℕ = λ x. if is_least K x then T x else 0 in
        sum_filter (is_least K) T (program_spots p) ∙ ap (sum_by B) (program_spots_by_row p kernel)
        ∙ sum_mapped B (spot_at W) (body_instances p.body) ∙ sym (sum_filter named (by_instance p tests) (body_instances p.body))

    -- ---- all together

    next_few : sum_by gates_of (shared_graph p).next ≤ sum_by (row_sum firsts next_counts) W
    next_few =
        let made = sum_mapped gates_of (λ n. next_formula n (shared_layers K n)) (body_leaves p.body) in
        let same : (n : ℕ) → shared_layers K n ≡ chosen (body_layers p.body n) = λ n. shared_chosen n ∙ sym (chosen_layers (K.live n)) in
        let each : sum_by (λ n. gates_of (next_formula n (shared_layers K n))) (body_leaves p.body)
        ≡ sum_by (λ n. gates_of (next_formula n (chosen (body_layers p.body n)))) (body_leaves p.body)
        = λ i. sum_by (λ n. gates_of (next_formula n (same n i))) (body_leaves p.body) in
        omega (arith, made, each, program_leaves firsts chosen chosen_layers p)

    instances_few : 2 * sum_by (by_instance p run_counts) (shared_instances p) + sum_by (by_instance p shared_equation_gates) (shared_instances p)
        + sum_by (by_instance p shared_rows) (shared_instances p) + sum_by (row_sum firsts resumed_rows) W + sum_by (row_sum firsts next_counts) W + 3
        ≤ 15 * (sum_by (by_instance p run_counts) (shared_instances p) + sum_by (by_instance p tests) (shared_instances p))
    instances_few =
        let insts = shared_instances p in
        let there = some_instance p in
        let start : Instance = record { path = 0; layer = Started 0 } in
        let left : Instance → ℕ = λ y. where_started 3 y.layer in
        let kept : Instance → ℕ = λ y. if named y then left y else 0 in
        let sum = gathered (by_instance p run_counts) (by_instance p shared_equation_gates) (by_instance p shared_rows) (by_instance p resumed_rows)
        (by_instance p next_counts) left (by_instance p instance_gates) (λ y. omega (arith, shared_spare y.layer)) insts in
        let first : kept start ≡ 3 = ap (λ b. if b then 3 else 0) start_named in
        let spare = get_or-le-sum_by kept (body_instances p.body) there.0 start there.1 in
        omega (
          arith,
          sum,
          first,
          spare,
          ap kept (there.2),
          sum_filter named left (body_instances p.body),
          shared_counted instance_gates,
          shared_counted sizes,
          shared_counted resumed_rows,
          shared_counted next_counts,
          program_within firsts p,
          sum_both (by_instance p run_counts) (by_instance p tests) insts,
        )

  -- the gates of a graph of shared wires, by its lists
  pub shared_gates : IsKernel p.body → KeepsLimits p.body → (loops : Vec LoopBodies Global) (equations next : List Formula)
      → length equations ≡ length (shared_wires p) → equations_of (shared_instances p) (shared_wires p) equations ≡ shared_equations p
      → map (formula_of (shared_instances p) (shared_wires p)) next ≡ (shared_graph p).next
      → 2 + 2 * length (shared_wires p) + rows_over p (shared_instances p) (Some loops) + sum_by cost_of equations + sum_by cost_of next
      ≤ 15 * shared_size p
  shared_gates kernel limits loops equations next all formed after =
      let insts = shared_instances p in
      let names = shared_wires p in
      let costs = equations_cost insts names equations all ∙ ap (sum_by (λ (e : Equation). gates_of e.formula)) formed in
      let later = list_cost insts names next ∙ ap (sum_by gates_of) after in
      omega (
        arith,
        wires_kept kernel,
        tests_counted kernel,
        selected_few firsts p,
        costs,
        shared_equations_within p kernel limits,
        later,
        next_few kernel,
        instances_few kernel,
      )

  -- it is no larger than the program's own graph
  size_few : shared_size p ≤ graph_size p
  size_few =
      let T : Spot → ℕ = λ x. live_tests x.statement x.layer in
      omega (arith, filtered_length own (program_wires p), sum_filtered (is_least K) T (program_spots p))

-- so the graph keeps the limit whose equations and formulas of the next state are the shared ones
pub shared_few : (p : Program) → IsKernel p.body → KeepsLimits p.body → graph_size p ≤ WIRES
    → (loops : Vec LoopBodies Global) (equations next : List Formula) → length equations ≡ length (shared_wires p)
    → equations_of (shared_instances p) (shared_wires p) equations ≡ shared_equations p
    → map (formula_of (shared_instances p) (shared_wires p)) next ≡ (shared_graph p).next
    → HasFewGates p (shared_instances p) (Some loops) (length (shared_wires p)) equations next
shared_few p kernel limits size loops equations next all formed after = record {
  size = size;
  gates = omega (arith, shared_gates p kernel limits loops equations next all formed after, size_few p);
}

-- ---- a graph of shared wires

own_graph_gates : (g : Graph) → instances_of g ≡ shared_instances (program_of g.program) → names_of g ≡ shared_wires (program_of g.program)
    → plain_graph g ≡ shared_graph (program_of g.program) → is_some g.loops ≡ true
    → 2 + 2 * length g.wires.items + rows_over (program_of g.program) (instances_of g) g.loops + sum_by cost_of g.equations.items
    + sum_by cost_of g.next.items ≤ 15 * shared_size (program_of g.program)
own_graph_gates g insts names graph some = by g.loops refl some
  where
    by : (o : Option (Vec LoopBodies Global)) → g.loops ≡ o → is_some o ≡ true
        → 2 + 2 * length g.wires.items + rows_over (program_of g.program) (instances_of g) g.loops + sum_by cost_of g.equations.items
        + sum_by cost_of g.next.items ≤ 15 * shared_size (program_of g.program)
    by None e h = absurd (false≢true h)
    by (Some loops) e h =
        let p = program_of g.program in
        let many : length g.wires.items ≡ length (shared_wires p)
        = sym (length-map g.wires.items (wire_of (instances_of g))) ∙ ap length names in
        let equations : equations_of (shared_instances p) (shared_wires p) g.equations.items ≡ shared_equations p
        = (λ i. equations_of (sym insts i) (sym names i) g.equations.items) ∙ ap (λ (x : PlainGraph). x.equations) graph in
        let next : map (formula_of (shared_instances p) (shared_wires p)) g.next.items ≡ (shared_graph p).next
        = (λ i. map (formula_of (sym insts i) (sym names i)) g.next.items) ∙ ap (λ (x : PlainGraph). x.next) graph in
        let rows : rows_over p (instances_of g) g.loops ≡ rows_over p (shared_instances p) (Some loops) = λ i. rows_over p (insts i) (e i) in
        omega (
          arith,
          many,
          rows,
          shared_gates p (trees_are_kernels_lem g.program.body) g.laid_out.formed.body loops g.equations.items g.next.items
              (g.indices.equations_all ∙ many) equations next,
        )

pub graph_gates : (g : Graph) (p : Program) → program_of g.program ≡ p → instances_of g ≡ shared_instances p → names_of g ≡ shared_wires p
    → plain_graph g ≡ shared_graph p → is_some g.loops ≡ true
    → 2 + 2 * length g.wires.items + rows_over (program_of g.program) (instances_of g) g.loops + sum_by cost_of g.equations.items
    + sum_by cost_of g.next.items ≤ 15 * shared_size p
graph_gates g p program =
    subst (λ q. instances_of g ≡ shared_instances q → names_of g ≡ shared_wires q → plain_graph g ≡ shared_graph q → is_some g.loops ≡ true
    → 2 + 2 * length g.wires.items + rows_over (program_of g.program) (instances_of g) g.loops + sum_by cost_of g.equations.items
    + sum_by cost_of g.next.items ≤ 15 * shared_size q) program (own_graph_gates g)
