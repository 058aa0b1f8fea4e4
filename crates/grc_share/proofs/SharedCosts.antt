-- How many gates the equations of shared wires need.
use Rattle.std.proofs.Common.{◌≡◌, ℕ, suc, ◌+◌, ◌<◌, ◌≤◌, ◌==◌, ◌&&◌, Bool, true, false, not, cond, List, [], ◌∷◌, ◌++◌, length, map, get_or}
use Rattle.std.proofs.Common.{refl, sym, ap, ◌∙◌, subst, ⊎_elim, arith, append_assoc, Option, Some, None}
use Rattle.std.specs.Prelude.{All, Contains, filter, if◌then◌else◌, nat_lt, option_map}
use Rattle.std.specs.List.{flat_map, list_any, sum_by}
use Rattle.std.proofs.lemmas.Bool.{and_parts, cases_Bool, cases_order, eq-eqb, eqb-true, false≢true, or_cases}
use Rattle.std.proofs.lemmas.List.{get_or-map, length-map}
use Rattle.std.proofs.lemmas.List.Concat.{flat_map-cons}
use Rattle.std.proofs.lemmas.List.Elements.{All-head, All-tail}
use Rattle.std.proofs.lemmas.List.Filters.{sum_by-filter_both}
use Rattle.std.proofs.lemmas.List.Sums.{sum_by-append, sum_by-cons, sum_by-le-sum_by}
use Rattle.base_facts.proofs.Lists.{contains-later, sum-flat_map}
use Rattle.est_kernel.specs.Plain.{Program, given_count, interface_of}
use Rattle.est_kernel.specs.Preorder.{statement_count}
use Rattle.est_kernel.specs.Terms.{Term, Nothing, Pause, Emit, Exit, Present, Suspend, Seq, Loop, Par, Trap, Local, Awake}
use Rattle.est_kernel.specs.WellFormed.{IsKernel, KeepsLimits}
use Rattle.grc_graph.specs.Equations.{Equation, emissions, end_formula, instance_equations, instance_status, is_wire, output_equation}
use Rattle.grc_graph.specs.Formulas.{Formula, Const, Input, Value, Negation, Conjunction, Disjunction, any_of}
use Rattle.grc_graph.specs.GraphRuns.{graph_of, program_spots, program_wires}
use Rattle.grc_graph.specs.Instances.{Instance, body_instances}
use Rattle.grc_graph.specs.Layers.{Layer, Resumed, Started, same_layer}
use Rattle.grc_graph.specs.Nodes.{node_at, spot_node}
use Rattle.grc_graph.specs.Rows.{Row, live_in, program_rows, row_at, spot_at}
use Rattle.grc_graph.specs.Scopes.{Scope}
use Rattle.grc_graph.specs.Spots.{Spot}
use Rattle.grc_graph.specs.Statements.{Entry, Then, Else}
use Rattle.grc_graph.specs.Wires.{Wire, Out, Go, StatusOf, End, instance_codes, listed, own_status, same_wire, status_wire}
use Rattle.grc_graph.proofs.Exports.{Entered, PartOf, program_placed, length-program_rows, live_instance, program_spots_by_row, same_layer-true, sum_both}
use Rattle.grc_graph.proofs.Exports.{sum_mapped, sum_none, sum_swap}
use Rattle.grc_solutions.specs.GraphWires.{Differ, equation_wires}
use Rattle.grc_solutions.proofs.Exports.{wires_differ_lem}
use Rattle.grc_build.proofs.Exports.{dear_once, once_at_most, one_if, status_wires, statuses_apart, equation_gates, listed_cost, any_gates, any_within}
use Rattle.grc_build.proofs.Exports.{dear_code, dear_gates, end_gates, entry_gates, entry_tests, gates_of, joined, loop_gates, sequence_gates, where_started}
use Rattle.grc_build.proofs.Exports.{by_instance, emit_gates, Measure}
use Rattle.grc_share.specs.SharedGraphs.{emits_on, emitted_on, formula_for, go_value, has_own, is_guarded, is_least, renamed, shared_emissions, shared_end}
use Rattle.grc_share.specs.SharedGraphs.{shared_equations, shared_formula, shared_go, names_itself, shared_instances}
use Rattle.grc_share.specs.SharedInstances.{Sharing, body_sharing}
use Rattle.grc_share.specs.SharedWires.{shared_wire, shared_wires}
use Rattle.grc_share.proofs.EquationLists.{formula_for-at}
use Rattle.grc_share.proofs.SharedNumbering.{body_codes}

-- ---- sums

-- sums compared place by place
sum_at : {X : Type 0} (f g : X → ℕ) (xs : List X) → ((k : ℕ) (d : X) → k < length xs → f (get_or xs k d) ≤ g (get_or xs k d))
    → sum_by f xs ≤ sum_by g xs
sum_at f g [] h = omega arith
sum_at f g (x ∷ xs) h =
    omega (arith, sum_by-cons f x xs, sum_by-cons g x xs, h 0 x (omega arith), sum_at f g xs (λ k d l. h (suc k) d (omega (arith, l))))

-- what is left out counts nothing
pub sum_filter : {X : Type 0} (test : X → Bool) (f : X → ℕ) (xs : List X) → sum_by f (filter test xs) ≡ sum_by (λ x. if test x then f x else 0) xs
sum_filter test f [] = refl
sum_filter test f (x ∷ xs) =
    by (test x) ∙ ap (λ n. (if test x then f x else 0) + n) (sum_filter test f xs) ∙ sym (sum_by-cons (λ y. if test y then f y else 0) x xs)
  where
    by : (b : Bool) → sum_by f (cond b (x ∷ filter test xs) (filter test xs)) ≡ (if b then f x else 0) + sum_by f (filter test xs)
    by true = sum_by-cons f x (filter test xs)
    by false = omega arith

pub sum_filtered : {X : Type 0} (test : X → Bool) (f : X → ℕ) (xs : List X) → sum_by f (filter test xs) ≤ sum_by f xs
sum_filtered test f xs = omega (arith, sum_by-filter_both test (λ x. not (test x)) (λ x. refl) f xs)

-- ---- formulas

-- a renamed formula needs as many gates
renamed_gates : (K : Sharing) (f : Formula) → gates_of (renamed K f) ≡ gates_of f
renamed_gates K (Negation a) = ap (λ n. n + 1) (renamed_gates K a)
renamed_gates K (Conjunction a b) = λ i. renamed_gates K a i + renamed_gates K b i + 1
renamed_gates K (Disjunction a b) = λ i. renamed_gates K a i + renamed_gates K b i + 1
renamed_gates K _ = refl

-- the gate that joins the end of a sequence or of a loop to its `go`
abbrev guard_gates : Term → ℕ
guard_gates t = if is_guarded t then 1 else 0

shared_end_gates : (p : Program) (n : ℕ) (l : Layer) (f : Formula)
    → gates_of (shared_end p n l f) ≡ gates_of f + guard_gates (row_at (program_rows p) n).statement
shared_end_gates p n l f = by (is_guarded (row_at (program_rows p) n).statement)
  where
    by : (b : Bool) → gates_of (if b then Conjunction (Value (Go n l)) (renamed (body_sharing p.body) f) else renamed (body_sharing p.body) f)
        ≡ gates_of f + (if b then 1 else 0)
    by true = omega (arith, renamed_gates (body_sharing p.body) f)
    by false = omega (arith, renamed_gates (body_sharing p.body) f)

guarded_gates : (B : Scope) (t : Term) (n : ℕ) (l : Layer) (k : ℕ)
    → gates_of (end_formula B t n l k) + guard_gates t ≤ 13 + (if k == dear_code t then dear_gates t l else 0)
guarded_gates B (Seq p q) n l k = omega (arith, sequence_gates B p q n l k)
guarded_gates B (Loop at p) n l k = omega (arith, loop_gates B at p n l k)
guarded_gates B Nothing n l k = omega (arith, end_gates B Nothing n l k)
guarded_gates B Pause n l k = omega (arith, end_gates B Pause n l k)
guarded_gates B (Emit s) n l k = omega (arith, end_gates B (Emit s) n l k)
guarded_gates B (Exit c) n l k = omega (arith, end_gates B (Exit c) n l k)
guarded_gates B (Present e p q) n l k = omega (arith, end_gates B (Present e p q) n l k)
guarded_gates B (Suspend e p) n l k = omega (arith, end_gates B (Suspend e p) n l k)
guarded_gates B (Par p q) n l k = omega (arith, end_gates B (Par p q) n l k)
guarded_gates B (Trap p) n l k = omega (arith, end_gates B (Trap p) n l k)
guarded_gates B (Local s p) n l k = omega (arith, end_gates B (Local s p) n l k)
guarded_gates B (Awake e p) n l k = omega (arith, end_gates B (Awake e p) n l k)

-- what an instance needs for the equations of shared wires
abbrev pub shared_equation_gates : Measure
shared_equation_gates t x l = equation_gates t x l + where_started 3 l

-- ---- the start of a statement by itself

-- a root among these, none of which is above m
among_within : (n m : ℕ) (rs : List ℕ) → All (λ r. r ≤ m) rs → list_any (λ q. q == n) rs ≡ true → n ≤ m
among_within n m [] h e = absurd (false≢true e)
among_within n m (r ∷ rs) h e =
    ⊎_elim (λ q. omega (arith, eqb-true r n q, All-head (λ r. r ≤ m) r rs h)) (λ q. among_within n m rs (All-tail (λ r. r ≤ m) r rs h) q)
    (or_cases (r == n) (list_any (λ q. q == n) rs) e)

module _ (p : Program) where
  abbrev W : List Row
  W = program_rows p

  -- what starts with the statement around it has no start of its own
  no_own_start : (n m : ℕ) → PartOf W n m → live_in (row_at W n).live (Started n) ≡ true → ⊥
  no_own_start n m part live =
      let low : m < statement_count p.body = omega (arith, part.within, length-program_rows p) in
      let roots = (program_placed p m low).roots in
      let there = subst (λ a. live_in a (Started n) ≡ true) part.live live in
      omega (arith, part.before, among_within n m (row_at W m).live.roots roots.within there)

  own_tests : (n : ℕ) (x : Entry) → Entered W n x → live_in (row_at W n).live (Started n) ≡ true → entry_tests x (Started n) ≤ 0
  own_tests n (Then m e) h live = absurd (no_own_start n m h.part live)
  own_tests n (Else m e) h live = absurd (no_own_start n m h.part live)
  own_tests n _ h live = omega arith

  own_entry : (y : Instance) → Contains (body_instances p.body) y → y.layer ≡ Started y.path → gates_of (spot_at W y).entry ≤ 2
  own_entry y there own =
      let n = y.path in
      let r = row_at W n in
      let at = live_instance p n y.layer there in
      let tests = own_tests n r.entry (program_placed p n at.within).entered (subst (λ l. live_in r.live l ≡ true) own at.live) in
      let tests-here = subst (λ l. entry_tests r.entry l ≤ 0) (sym own) tests in
      omega (arith, entry_gates r.scope r.entry n y.layer, tests-here)

  -- the equation of a `go` is among those of the instances
  ends_skip : (f : ℕ → Formula) (a : ℕ) (j : Layer) (n : ℕ) (l : Layer) (ks : List ℕ) (rest : List Equation)
      → formula_for (map (λ k. record { wire = End a j k; formula = f k }) ks ++ rest) (Go n l) ≡ formula_for rest (Go n l)
  ends_skip f a j n l [] rest = refl
  ends_skip f a j n l (k ∷ ks) rest = ends_skip f a j n l ks rest

  status_skip : (all : List Spot) (t : Term) (a : ℕ) (j : Layer) (n : ℕ) (l : Layer) (rest : List Equation)
      → formula_for (instance_status all t a j ++ rest) (Go n l) ≡ formula_for rest (Go n l)
  status_skip all (Local s q) a j n l rest = refl
  status_skip all _ a j n l rest = refl

  outs_skip : (all : List Spot) (given n : ℕ) (l : Layer) (ss : List ℕ) (rest : List Equation)
      → formula_for (map (output_equation given all) ss ++ rest) (Go n l) ≡ formula_for rest (Go n l)
  outs_skip all given n l [] rest = refl
  outs_skip all given n l (s ∷ ss) rest = outs_skip all given n l ss rest

  spot_skip : (all : List Spot) (x : Spot) (n : ℕ) (l : Layer) (rest : List Equation)
      → formula_for (instance_equations all x ++ rest) (Go n l)
      ≡ cond (x.path == n && same_layer x.layer l) x.entry (formula_for rest (Go n l))
  spot_skip all x n l rest =
      let f : ℕ → Formula = λ k. end_formula x.scope x.statement x.path x.layer k in
      let status = instance_status all x.statement x.path x.layer in
      let ks = listed (instance_codes x.statement x.layer) in
      let ends = map {B = Equation} (λ k. record { wire = End x.path x.layer k; formula = f k }) ks in
      ap (λ g. cond (x.path == n && same_layer x.layer l) x.entry g)
      (ap (λ es. formula_for es (Go n l)) (append_assoc status ends rest)
      ∙ status_skip all x.statement x.path x.layer n l (ends ++ rest) ∙ ends_skip f x.path x.layer n l ks rest)

  go_found : (all : List Spot) (P : Formula → Type 0) (n : ℕ) (l : Layer) → P (Const false) → (ys : List Instance)
      → ((y : Instance) → Contains ys y → y.path ≡ n → y.layer ≡ l → P (spot_at W y).entry)
      → P (formula_for (flat_map (instance_equations all) (map (spot_at W) ys)) (Go n l))
  go_found all P n l none [] h = none
  go_found all P n l none (y ∷ ys) h =
      let x = spot_at W y in
      let rest = flat_map (instance_equations all) (map (spot_at W) ys) in
      let is = ap (λ es. formula_for es (Go n l)) (flat_map-cons (instance_equations all) x (map (spot_at W) ys)) ∙ spot_skip all x n l rest in
      subst P (sym is) (by (y.path == n && same_layer y.layer l) refl (go_found all P n l none ys (λ z c. h z (contains-later y z ys c))))
    where
      by : (b : Bool) → (y.path == n && same_layer y.layer l) ≡ b
          → P (formula_for (flat_map (instance_equations all) (map (spot_at W) ys)) (Go n l))
          → P (cond b (spot_at W y).entry (formula_for (flat_map (instance_equations all) (map (spot_at W) ys)) (Go n l)))
      by true e rest =
          let both = and_parts (y.path == n) (same_layer y.layer l) e in
          h y (0, omega arith, refl) (eqb-true y.path n both.0) (same_layer-true y.layer l both.1)
      by false e rest = rest

  module _ (kernel : IsKernel p.body) where
    own_gates : (n : ℕ) → gates_of (formula_for (graph_of p).equations (Go n (Started n))) ≤ 2
    own_gates n =
        let all = program_spots p in
        let insts = body_instances p.body in
        let found : gates_of (formula_for (flat_map (instance_equations all) (map (spot_at W) insts)) (Go n (Started n))) ≤ 2
        = go_found all (λ f. gates_of f ≤ 2) n (Started n) (omega arith) insts
        (λ y there path layer. own_entry y there (layer ∙ ap Started (sym path))) in
        subst (λ f. gates_of f ≤ 2)
        (sym (outs_skip all (given_count p) n (Started n) (interface_of p).outgoing (flat_map (instance_equations all) all)
        ∙ ap (λ xs. formula_for (flat_map (instance_equations all) xs) (Go n (Started n))) (program_spots_by_row p kernel))) found

    shared_go_gates : (n : ℕ) (l : Layer) (f : Formula) → gates_of (shared_go p n l f) ≤ gates_of f + where_started 3 l
    shared_go_gates n Resumed f = omega (arith, renamed_gates (body_sharing p.body) f)
    shared_go_gates n (Started r) f = by (has_own (body_sharing p.body) n r)
      where
        own : Formula
        own = formula_for (graph_of p).equations (Go n (Started n))

        by : (b : Bool) → gates_of (if b then Disjunction (renamed (body_sharing p.body) f) (renamed (body_sharing p.body) own)
            else renamed (body_sharing p.body) f) ≤ gates_of f + 3
        by true = omega (arith, renamed_gates (body_sharing p.body) f, renamed_gates (body_sharing p.body) own, own_gates n)
        by false = omega (arith, renamed_gates (body_sharing p.body) f)

    -- ---- emissions

    abbrev K : Sharing
    K = body_sharing p.body

    abbrev emitters : Wire → ℕ
    emitters w = sum_by (λ x. one_if (emits_on K w x)) (program_spots p)

    values_joined : (test : Spot → Bool) (xs : List Spot) → joined (map go_value (filter test xs)) ≡ sum_by (λ x. one_if (test x)) xs
    values_joined test [] = refl
    values_joined test (x ∷ xs) =
        by (test x) ∙ ap (λ n. one_if (test x) + n) (values_joined test xs) ∙ sym (sum_by-cons (λ y. one_if (test y)) x xs)
      where
        by : (b : Bool) → joined (map go_value (cond b (x ∷ filter test xs) (filter test xs))) ≡ one_if b + joined (map go_value (filter test xs))
        by true = omega arith
        by false = omega arith

    emissions_within : (w : Wire) → gates_of (any_of (shared_emissions p w)) ≤ emitters w
    emissions_within w = omega (arith, any_within (shared_emissions p w), values_joined (emits_on K w) (program_spots p))

    output_within : (s : ℕ) (f : Formula) → gates_of (shared_formula p (Out s) f) ≤ emitters (Out s)
    output_within s f = by (nat_lt s (given_count p))
      where
        fs : List Formula
        fs = shared_emissions p (Out s)

        by : (b : Bool) → gates_of (any_of ((if b then Input s ∷ [] else []) ++ fs)) ≤ emitters (Out s)
        by true = omega (arith, any_gates (Input s) fs, values_joined (emits_on K (Out s)) (program_spots p))
        by false = emissions_within (Out s)

    -- each instance emits on one shared wire at most
    module _ (ws : List Wire) (once : once_at_most ws) where
      never : sum_by (λ w. one_if false) ws ≤ 0
      never = omega (arith, sum_none ws)

      on_one : (o : Option Wire) → sum_by (λ w. one_if (is_wire (option_map (shared_wire K) o) w)) ws ≤ 1
      on_one None = omega (arith, never)
      on_one (Some v) = once (shared_wire K v)

      node_once : (t : Term) (B : Scope) (n : ℕ) (l : Layer)
          → sum_by (λ w. one_if (is_wire (option_map (shared_wire K) (emitted_on (node_at B t n l))) w)) ws ≤ emit_gates t
      node_once Nothing B n l = never
      node_once Pause B n Resumed = never
      node_once Pause B n (Started r) = never
      node_once (Emit s) B n l = on_one (status_wire (B s) s l)
      node_once (Exit k) B n l = never
      node_once (Present e q r) B n Resumed = never
      node_once (Present e q r) B n (Started s) = never
      node_once (Suspend e q) B n Resumed = never
      node_once (Suspend e q) B n (Started r) = never
      node_once (Seq q r) B n Resumed = never
      node_once (Seq q r) B n (Started s) = never
      node_once (Loop at q) B n l = never
      node_once (Par q r) B n Resumed = never
      node_once (Par q r) B n (Started s) = never
      node_once (Trap q) B n l = never
      node_once (Local s q) B n l = never
      node_once (Awake e q) B n l = never

      spot_once : (x : Spot) → sum_by (λ w. one_if (emits_on K w x)) ws ≤ (if is_least K x then emit_gates x.statement else 0)
      spot_once x = by (is_least K x)
        where
          by : (b : Bool) → sum_by (λ w. one_if (b && is_wire (option_map (shared_wire K) (emitted_on (spot_node x))) w)) ws
              ≤ (if b then emit_gates x.statement else 0)
          by true = node_once x.statement x.scope x.path x.layer
          by false = omega (arith, never)

      emitters_once : sum_by emitters ws ≤ sum_by (λ x. if is_least K x then emit_gates x.statement else 0) (program_spots p)
      emitters_once =
          let swap : sum_by (λ w. sum_by (λ x. one_if (emits_on K w x)) (program_spots p)) ws
          ≡ sum_by (λ x. sum_by (λ w. one_if (emits_on K w x)) ws) (program_spots p)
          = sum_swap (λ w x. one_if (emits_on K w x)) ws (program_spots p) in
          let each = sum_by-le-sum_by (λ (x : Spot). sum_by (λ w. one_if (emits_on K w x)) ws) (λ x. if is_least K x then emit_gates x.statement else 0)
          (program_spots p) spot_once in
          omega (arith, swap, each)

    -- ---- all equations

    -- what the equation of a shared wire needs, from that of its least member
    abbrev shared_cost : Equation → ℕ
    shared_cost e = gates_of (shared_formula p e.wire e.formula)

    abbrev ends_sum : Scope → Term → ℕ → Layer → ℕ
    ends_sum B t n l = sum_by (λ k. gates_of (end_formula B t n l k) + guard_gates t) (listed (instance_codes t l))

    abbrev spot_cost : Spot → ℕ
    spot_cost x = gates_of x.entry + where_started 3 x.layer + ends_sum x.scope x.statement x.path x.layer

    status_within : (all : List Spot) (t : Term) (n : ℕ) (l : Layer)
        → sum_by shared_cost (instance_status all t n l) ≤ sum_by emitters (own_status t n l)
    status_within all (Local s q) n l =
        let w = StatusOf n l in
        let e : Equation = record { wire = w; formula = any_of (emissions w all) } in
        omega (arith, sum_by-cons shared_cost e [], sum_by-cons emitters w [], emissions_within w)
    status_within all _ n l = omega arith

    named_within : (all : List Spot) (y : Instance)
        → sum_by shared_cost (instance_equations all (spot_at W y))
        ≤ sum_by emitters (own_status (spot_at W y).statement y.path y.layer) + spot_cost (spot_at W y)
    named_within all y =
        let x = spot_at W y in
        let f : ℕ → Equation = λ k. record {
          wire = End x.path x.layer k;
          formula = end_formula x.scope x.statement x.path x.layer k;
        } in
        let go : Equation = record { wire = Go x.path x.layer; formula = x.entry } in
        let status = instance_status all x.statement x.path x.layer in
        let codes = listed (instance_codes x.statement x.layer) in
        let each : sum_by (λ k. shared_cost (f k)) codes ≡ ends_sum x.scope x.statement x.path x.layer
        = λ i. sum_by (λ k. shared_end_gates p x.path x.layer (end_formula x.scope x.statement x.path x.layer k) i) codes in
        omega (
          arith,
          sum_by-cons shared_cost go (status ++ map f codes),
          sum_by-append shared_cost status (map f codes),
          sum_mapped shared_cost f codes,
          each,
          status_within all x.statement x.path x.layer,
          shared_go_gates x.path x.layer x.entry,
        )

    -- an equation whose wire names its shared one
    abbrev own : Wire → Bool
    own w = same_wire (shared_wire K w) w

    abbrev own_cost : Equation → ℕ
    own_cost e = if own e.wire then shared_cost e else 0

    own_few : (es : List Equation) → sum_by own_cost es ≤ sum_by shared_cost es
    own_few es = sum_by-le-sum_by own_cost shared_cost es (λ e. dear_once (own e.wire) (shared_cost e))

    -- an instance that does not name its shared instance has no such equation, but for its status
    other_within : (all : List Spot) (y : Instance) → names_itself K y.path y.layer ≡ false
        → sum_by own_cost (instance_equations all (spot_at W y)) ≤ sum_by emitters (own_status (spot_at W y).statement y.path y.layer)
    other_within all y other =
        let x = spot_at W y in
        let f : ℕ → Equation = λ k. record {
          wire = End x.path x.layer k;
          formula = end_formula x.scope x.statement x.path x.layer k;
        } in
        let go : Equation = record { wire = Go x.path x.layer; formula = x.entry } in
        let status = instance_status all x.statement x.path x.layer in
        let codes = listed (instance_codes x.statement x.layer) in
        let self = eq-eqb y.path y.path refl in
        let none : own_cost go ≡ 0 = (λ i. if self i && other i then shared_cost go else 0) in
        let ends : sum_by (λ k. own_cost (f k)) codes ≡ sum_by (λ k. 0) codes
        = λ i. sum_by (λ k. if self i && (other i && k == k) then shared_cost (f k) else 0) codes in
        omega (
          arith,
          sum_by-cons own_cost go (status ++ map f codes),
          sum_by-append own_cost status (map f codes),
          sum_mapped own_cost f codes,
          none,
          ends,
          sum_none codes,
          own_few status,
          status_within all x.statement x.path x.layer,
        )

    spot_within : (all : List Spot) (y : Instance)
        → sum_by own_cost (instance_equations all (spot_at W y))
        ≤ sum_by emitters (own_status (spot_at W y).statement y.path y.layer)
        + (if names_itself K y.path y.layer then spot_cost (spot_at W y) else 0)
    spot_within all y =
        ⊎_elim
        (λ h.
        let n : (if names_itself K y.path y.layer then spot_cost (spot_at W y) else 0) ≡ spot_cost (spot_at W y)
        = ap (λ b. if b then spot_cost (spot_at W y) else 0) h in
        omega (arith, n, own_few (instance_equations all (spot_at W y)), named_within all y))
        (λ h.
        let n : (if names_itself K y.path y.layer then spot_cost (spot_at W y) else 0) ≡ 0
        = ap (λ b. if b then spot_cost (spot_at W y) else 0) h in
        omega (arith, n, other_within all y h)) (cases_Bool (names_itself K y.path y.layer))

    instance_within : (y : Instance) → emit_gates (row_at W y.path).statement + spot_cost (spot_at W y) ≤ by_instance p shared_equation_gates y
    instance_within y =
        let r = row_at W y.path in
        omega (
          arith,
          entry_gates r.scope r.entry y.path y.layer,
          listed_cost (λ k. gates_of (end_formula r.scope r.statement y.path y.layer k) + guard_gates r.statement) (dear_code r.statement)
              (dear_gates r.statement y.layer) (guarded_gates r.scope r.statement y.path y.layer) (instance_codes r.statement y.layer),
        )

    abbrev named : Instance → Bool
    named y = names_itself K y.path y.layer

    both_named : (y : Instance) → (if named y then emit_gates (row_at W y.path).statement else 0) + (if named y then spot_cost (spot_at W y) else 0)
        ≤ (if named y then by_instance p shared_equation_gates y else 0)
    both_named y = by (named y)
      where
        by : (b : Bool) → (if b then emit_gates (row_at W y.path).statement else 0) + (if b then spot_cost (spot_at W y) else 0)
            ≤ (if b then by_instance p shared_equation_gates y else 0)
        by true = instance_within y
        by false = omega arith

    equations_within : sum_by own_cost (graph_of p).equations ≤ sum_by (by_instance p shared_equation_gates) (shared_instances p)
    equations_within =
        let all = program_spots p in
        let insts = body_instances p.body in
        let outgoing = (interface_of p).outgoing in
        let output : ℕ → Equation = output_equation (given_count p) all in
        let statuses : Spot → List Wire = λ x. own_status x.statement x.path x.layer in
        let status : Instance → ℕ = λ y. sum_by emitters (statuses (spot_at W y)) in
        let cost : Instance → ℕ = λ y. if named y then spot_cost (spot_at W y) else 0 in
        let emit : Instance → ℕ = λ y. if named y then emit_gates (row_at W y.path).statement else 0 in
        let made : Spot → ℕ = λ x. sum_by own_cost (instance_equations all x) in
        let least : Spot → ℕ = λ x. if is_least K x then emit_gates x.statement else 0 in
        let split = sum_by-append own_cost (map output outgoing) (flat_map (instance_equations all) all) in
        let outs = sum_mapped own_cost output outgoing in
        let outs_few = sum_by-le-sum_by (λ s. own_cost (output s)) (λ s. emitters (Out s)) outgoing
        (λ s. omega (arith, dear_once (own (Out s)) (shared_cost (output s)), output_within s (output s).formula)) in
        let outs_named = sum_mapped emitters Out outgoing in
        let each = sum-flat_map own_cost (instance_equations all) all in
        let rows : sum_by made all ≡ sum_by (λ y. made (spot_at W y)) insts
        = ap (sum_by made) (program_spots_by_row p kernel) ∙ sum_mapped made (spot_at W) insts in
        let each_few = sum_by-le-sum_by (λ y. made (spot_at W y)) (λ y. status y + cost y) insts (spot_within all) in
        let apart = sum_both status cost insts in
        let status_rows : sum_by (λ x. sum_by emitters (statuses x)) all ≡ sum_by status insts
        = ap (sum_by (λ x. sum_by emitters (statuses x))) (program_spots_by_row p kernel)
        ∙ sum_mapped (λ x. sum_by emitters (statuses x)) (spot_at W) insts in
        let flat = sum-flat_map emitters statuses all in
        let wires = sum_by-append emitters (map Out outgoing) (flat_map statuses all) in
        let emit_rows : sum_by least all ≡ sum_by emit insts
        = ap (sum_by least) (program_spots_by_row p kernel) ∙ sum_mapped least (spot_at W) insts in
        let both = sum_both emit cost insts in
        let whole = sum_by-le-sum_by (λ y. emit y + cost y) (λ y. if named y then by_instance p shared_equation_gates y else 0) insts both_named in
        omega (
          arith,
          split,
          outs,
          outs_few,
          outs_named,
          each,
          rows,
          each_few,
          apart,
          status_rows,
          flat,
          wires,
          emitters_once (status_wires outgoing all) (statuses_apart p kernel),
          emit_rows,
          both,
          whole,
          sum_filter named (by_instance p shared_equation_gates) insts,
        )

    module _ (limits : KeepsLimits p.body) where
      pub shared_equations_within : sum_by (λ e. gates_of e.formula) (shared_equations p)
          ≤ sum_by (by_instance p shared_equation_gates) (shared_instances p)
      shared_equations_within =
          let es = (graph_of p).equations in
          let C : Wire → ℕ = λ w. gates_of (shared_formula p w (formula_for es w)) in
          let made = sum_mapped (λ (e : Equation). gates_of e.formula)
          (λ w. record { wire = w; formula = shared_formula p w (formula_for es w) }) (shared_wires p) in
          let kept = sum_filter own C (program_wires p) in
          let names = (wires_differ_lem p (body_codes p kernel limits)).0 in
          let D : Wire → ℕ = λ w. if own w then C w else 0 in
          let by_equation : sum_by D (program_wires p) ≡ sum_by (λ (e : Equation). D e.wire) es
          = ap (sum_by D) (sym names) ∙ sum_mapped D (λ (e : Equation). e.wire) es in
          let each = sum_at (λ (e : Equation). D e.wire) own_cost es
          (λ k d l. omega (arith, ap (λ n. if own (get_or es k d).wire then n else 0) (at k d l))) in
          omega (arith, made, kept, by_equation, each, equations_within)
        where
          differ : (i j : ℕ) (d : Equation) → i < length (graph_of p).equations → j < length (graph_of p).equations
              → (get_or (graph_of p).equations i d).wire ≡ (get_or (graph_of p).equations j d).wire → i ≡ j
          differ i j d l m e =
              let es = (graph_of p).equations in
              let law = wires_differ_lem p (body_codes p kernel limits) in
              let apart : Differ (equation_wires es) = subst Differ (sym law.0) law.1 in
              let many = length-map es (λ (e : Equation). e.wire) in
              let u : get_or (equation_wires es) i d.wire ≡ (get_or es i d).wire = get_or-map (λ (e : Equation). e.wire) es i d d.wire l in
              let w : get_or (equation_wires es) j d.wire ≡ (get_or es j d).wire = get_or-map (λ (e : Equation). e.wire) es j d d.wire m in
              ⊎_elim (λ q. q) (λ o. ⊎_elim (λ a. absurd (apart i j d.wire a (omega (arith, m, many)) (u ∙ e ∙ sym w)))
              (λ a. absurd (apart j i d.wire a (omega (arith, l, many)) (w ∙ sym e ∙ sym u))) o) (cases_order i j)

          at : (k : ℕ) (d : Equation) → k < length (graph_of p).equations
              → gates_of (shared_formula p (get_or (graph_of p).equations k d).wire
              (formula_for (graph_of p).equations (get_or (graph_of p).equations k d).wire))
              ≡ shared_cost (get_or (graph_of p).equations k d)
          at k d l = ap (λ f. gates_of (shared_formula p (get_or (graph_of p).equations k d).wire f)) (formula_for-at (graph_of p).equations k d l differ)
