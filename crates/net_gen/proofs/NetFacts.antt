-- A netlist around a whole circuit: that it is a net, and what its values are on an occasion.
use Rattle.std.proofs.Common.{◌≡◌, ℕ, ◌+◌, ◌<◌, ◌≤◌, ◌^◌, zero, suc, Bool, true, false, ◌&&◌, ◌==◌, List, [], ◌∷◌, ◌++◌, length, map, take, drop}
use Rattle.std.proofs.Common.{slice_index_or, refl, sym, ap, ◌∙◌, subst, arith, Option, Some, None, IsTrue, All, nat_eq}
use Rattle.std.proofs.lemmas.Bool.{and_parts}
use Rattle.std.proofs.lemmas.List.{length-map, get_or-map, get_or_default, take-append-drop, take-take, drop-take, length-take-le}
use Rattle.std.proofs.lemmas.List.Elements.{All-take, All-drop}
use Rattle.base_types.specs.Distinct.{all_differ, none_shared}
use Rattle.base_types.specs.Names.{is_name, is_same_name}
use Rattle.base_types.specs.declared.indices.NetId.{NetId}
use Rattle.base_types.specs.declared.indices.WireId.{WireId}
use Rattle.est_kernel.specs.Plain.{Program, program_of, interface_count, given_count, outgoing_count, given_names, outgoing_names}
use Rattle.est_kernel.specs.WellFormed.{HasNames}
use Rattle.grc_graph.specs.declared.formulas.Formula.{Formula}
use Rattle.grc_graph.specs.declared.formulas.Formula.TheVariants as formulas
use Rattle.grc_graph.specs.declared.graph.Graph.{Graph}
use Rattle.grc_graph.specs.Formulas as plain
use Rattle.grc_graph.specs.GraphRuns.{SolvesGraph, formula_value}
use Rattle.grc_graph.specs.GraphRuns as graphs
use Rattle.grc_graph.specs.PlainGraphs.{formula_of, instances_of, names_of, plain_graph, wire_at}
use Rattle.grc_graph.specs.Reads.{IsReadingOrder}
use Rattle.grc_formulas.specs.declared.table.Source.{Source}
use Rattle.grc_formulas.specs.declared.table.Source.TheVariants as sources
use Rattle.grc_formulas.specs.declared.table.Words.{Words}
use Rattle.grc_formulas.specs.Occasions.{Occasion, state_in}
use Rattle.grc_formulas.specs.WordLaws.{AreWordsOf, value_of}
use Rattle.net_ir.specs.declared.netlist.Gate.{Gate}
use Rattle.net_ir.specs.declared.netlist.Latch.{Latch}
use Rattle.net_ir.specs.declared.netlist.NetOut.{NetOut}
use Rattle.net_ir.specs.Gates.{ReadsLower, carried, value_in, gate_values}
use Rattle.net_ir.specs.Netlists.{Netlist, IsNet, first_gate, net_count, output_names}
use Rattle.net_ir.specs.Runs.{Shown, shown, net_values, next_latches}
use Rattle.net_ir.proofs.Exports.{all_differ-append}
use Rattle.net_gen.specs.Assembled.{IsAround, boot_latch, leaf_latch}
use Rattle.net_gen.specs.Drawings.{Drawing, next_number}
use Rattle.net_gen.specs.Generated.{HasInterfaceOf, Carries, ReactsAs, FollowsInstants, shown_as}
use Rattle.net_gen.specs.Making.{CircuitMade}
use Rattle.net_gen.specs.Readiness.{SourceReady, source_net}
use Rattle.net_gen.specs.Senses.{Instant, Sense, Sound, Stands, start_of, first_of, net_sense, wire_sense, form_sense, source_sense}
use Rattle.net_gen.proofs.GraphValues.{false-off_wires}
use Rattle.net_gen.proofs.Reading.{source-late}
use Rattle.net_gen.proofs.Standing.{differ-once}
use Rattle.net_gen.proofs.Wording.{stands-source}

-- two lists that agree at each index
maps-same : {X Y Z : Type 0} (f : X → Z) (h : Y → Z) (xs : List X) (ys : List Y) (x : X) (y : Y) → length xs ≡ length ys
    → ((k : ℕ) → k < length xs → f (slice_index_or xs k x) ≡ h (slice_index_or ys k y)) → map f xs ≡ map h ys
maps-same f h [] [] x y len same = refl
maps-same f h [] (b ∷ ys) x y len same = absurd (omega arith)
maps-same f h (a ∷ xs) [] x y len same = absurd (omega arith)
maps-same f h (a ∷ xs) (b ∷ ys) x y len same =
    let here : f a ≡ h b = same zero (omega arith) in
    let rest = maps-same f h xs ys x y (omega arith) (λ k low. same (suc k) (omega arith)) in
    cc

pub outputs-ready : (g : Graph) (w : Words) (order : List WireId) (d : Drawing) (nets : List NetId) → AreWordsOf g w → CircuitMade g w order d nets
    → All (λ (s : Source). SourceReady d s) w.outputs.items
outputs-ready g w order d nets a m = λ k x h. source-late g w d (slice_index_or w.outputs.items k x) m.sound m.wires m.rows (a.fit.outputs k x h)

pub paused-ready : (g : Graph) (w : Words) (order : List WireId) (d : Drawing) (nets : List NetId) → AreWordsOf g w → CircuitMade g w order d nets
    → SourceReady d w.paused
paused-ready g w order d nets a m = source-late g w d w.paused m.sound m.wires m.rows a.fit.paused

-- the number of the first gate, and of all nets
given-many : (p : Program) → interface_count p ≤ length p.signals → length (given_names p) ≡ given_count p
given-many p h = length-take-le (given_count p) p.signals (omega arith)

first-gate : (g : Graph) (w : Words) (order : List WireId) (d : Drawing) (nets : List NetId) (net : Netlist)
    → interface_count (program_of g.program) ≤ length (program_of g.program).signals → CircuitMade g w order d nets → IsAround g w d nets net
    → first_gate net ≡ d.first
first-gate g w order d nets net h m r =
    let inputs = ap length r.inputs in
    let given = given-many (program_of g.program) h in
    let latches = ap length r.latches in
    let leaves = length-map nets leaf_latch in
    omega (arith, m.sound.first, m.many)

net-many : (g : Graph) (w : Words) (order : List WireId) (d : Drawing) (nets : List NetId) (net : Netlist)
    → interface_count (program_of g.program) ≤ length (program_of g.program).signals → CircuitMade g w order d nets → IsAround g w d nets net
    → net_count net ≡ next_number d
net-many g w order d nets net h m r = omega (arith, first-gate g w order d nets net h m r, ap length r.gates)

-- names
pub differ-take : (n : ℕ) (names : List (List ℕ)) → IsTrue (all_differ is_same_name names) → IsTrue (all_differ is_same_name (take n names))
differ-take n names e =
    let split = all_differ-append is_same_name (take n names) (drop n names) in
    let whole = ap (all_differ is_same_name) (take-append-drop n names) in
    let all : (all_differ is_same_name (take n names) && none_shared is_same_name (take n names) (drop n names) && all_differ is_same_name (drop n names)) ≡
    true =
    sym split ∙ whole ∙ e in
    (and_parts _ _ (and_parts _ _ all).0).0

pub differ-drop : (n : ℕ) (names : List (List ℕ)) → IsTrue (all_differ is_same_name names) → IsTrue (all_differ is_same_name (drop n names))
differ-drop n names e =
    let split = all_differ-append is_same_name (take n names) (drop n names) in
    let whole = ap (all_differ is_same_name) (take-append-drop n names) in
    let all : (all_differ is_same_name (take n names) && none_shared is_same_name (take n names) (drop n names) && all_differ is_same_name (drop n names)) ≡
    true =
    sym split ∙ whole ∙ e in
    (and_parts _ _ all).1

pub given-names : (p : Program) → take (given_count p) (take (interface_count p) p.signals) ≡ given_names p
given-names p = take-take (given_count p) (interface_count p) p.signals (omega arith)

pub outgoing-of : (p : Program) → drop p.inputs (take (interface_count p) p.signals) ≡ outgoing_names p
outgoing-of p = drop-take p.inputs (outgoing_count p) p.signals

-- a list of outputs by their names
pub names-fit : (outs : List NetOut) (names : List (List ℕ)) → map (λ (o : NetOut). o.name) outs ≡ names → All (λ n. IsTrue (is_name n)) names
    → All (λ (o : NetOut). IsTrue (is_name o.name)) outs
names-fit outs names e fit = λ k o h.
    let at = get_or-map (λ (x : NetOut). x.name) outs k o o.name h in
    let many = length-map outs (λ (x : NetOut). x.name) in
    let there : slice_index_or names k o.name ≡ (slice_index_or outs k o).name = ap (λ xs. slice_index_or xs k o.name) (sym e) ∙ at in
    subst (λ n. IsTrue (is_name n)) there (fit k o.name (omega (arith, ap length e)))

-- the nets of the outputs
out-net : (g : Graph) (w : Words) (d : Drawing) (nets : List NetId) (net : Netlist) → IsAround g w d nets net → (k : ℕ) (o : NetOut) (x : Source)
    → k < length net.outputs → (slice_index_or net.outputs k o).net ≡ source_net d (slice_index_or w.outputs.items k x)
out-net g w d nets net r k o x h =
    let N = λ (y : NetOut). y.net in
    let many = length-map net.outputs N in
    let sources = length-map w.outputs.items (source_net d) in
    sym (get_or-map N net.outputs k o o.net h) ∙ ap (λ xs. slice_index_or xs k o.net) r.output_nets
    ∙ get_or-map (source_net d) w.outputs.items k x o.net (omega (arith, ap length r.output_nets))

out-many : (g : Graph) (w : Words) (d : Drawing) (nets : List NetId) (net : Netlist) → IsAround g w d nets net → length net.outputs ≡ length w.outputs.items
out-many g w d nets net r =
    sym (length-map net.outputs (λ (y : NetOut). y.net)) ∙ ap length r.output_nets ∙ length-map w.outputs.items (source_net d)

-- what a source of an output says
out-stands : (g : Graph) (w : Words) (order : List WireId) (d : Drawing) (nets : List NetId) (net : Netlist) → AreWordsOf g w → CircuitMade g w order d nets
    → IsAround g w d nets net → (k : ℕ) (o : NetOut) (x : Source) → k < length net.outputs
    → Stands g d (slice_index_or net.outputs k o).net.0 (source_sense g w (slice_index_or w.outputs.items k x))
out-stands g w order d nets net a m r k o x h =
    let many = out-many g w d nets net r in
    let s = slice_index_or w.outputs.items k x in
    subst (λ (n : NetId). Stands g d n.0 (source_sense g w s)) (sym (out-net g w d nets net r k o x h))
    (stands-source g w d s m.sound (outputs-ready g w order d nets a m k x (omega arith)))

-- the latches read nets that there are
latch-below : (g : Graph) (w : Words) (order : List WireId) (d : Drawing) (nets : List NetId) → CircuitMade g w order d nets
    → All (λ (l : Latch). l.from.0 < next_number d) (boot_latch d.no ∷ map leaf_latch nets)
latch-below g w order d nets m zero l h = m.sound.no.below
latch-below g w order d nets m (suc k) l h =
    let many = length-map nets leaf_latch in
    let low : k < length nets = omega arith in
    let is = get_or-map leaf_latch nets k d.no l low in
    let below = (m.says k d.no (formulas.Const true) (omega (arith, m.many))).below in
    subst (λ (x : Latch). x.from.0 < next_number d) (sym is) below

-- a netlist around a whole circuit is a net
pub is-net : (g : Graph) (w : Words) (forms : List plain.Formula) (order : List WireId) (d : Drawing) (nets : List NetId) (net : Netlist)
    → interface_count (program_of g.program) ≤ length (program_of g.program).signals → HasNames (program_of g.program)
    → IsReadingOrder (names_of g) forms order → AreWordsOf g w → CircuitMade g w order d nets → IsAround g w d nets net → IsNet net
is-net g w forms order d nets net h names o a m r =
    let p = program_of g.program in
    let first = first-gate g w order d nets net h m r in
    let all = net-many g w order d nets net h m r in
    let F = λ (n : List ℕ). IsTrue (is_name n) in
    let inputs_fit = subst (All F) (given-names p) (All-take F (given_count p) (take (interface_count p) p.signals) names.interface) in
    let outputs_fit = subst (All F) (outgoing-of p) (All-drop F p.inputs (take (interface_count p) p.signals) names.interface) in
    let inputs_differ = subst (λ xs. IsTrue (all_differ is_same_name xs)) (given-names p)
    (differ-take (given_count p) (take (interface_count p) p.signals) names.differ) in
    let outputs_differ = subst (λ xs. IsTrue (all_differ is_same_name xs)) (outgoing-of p)
    (differ-drop p.inputs (take (interface_count p) p.signals) names.differ) in
    let paused = stands-source g w d w.paused m.sound (paused-ready g w order d nets a m) in
    record {
      name_fits = subst F (sym r.name) names.name;
      input_names_fit = subst (All F) (sym r.inputs) inputs_fit;
      output_names_fit = names-fit net.outputs (outgoing_names p) r.outputs outputs_fit;
      inputs_differ = subst (λ xs. IsTrue (all_differ is_same_name xs)) (sym r.inputs) inputs_differ;
      outputs_differ = subst (λ xs. IsTrue (all_differ is_same_name xs)) (sym r.outputs) outputs_differ;
      numbered = omega (arith, all, m.sound.numbered);
      outputs_in_range = λ k o low. omega (arith, all, (out-stands g w order d nets net a m r k o (sources.Const true) low).below);
      paused_in_range = omega (arith, all, r.paused, paused.below);
      latches_in_range = subst (λ n. All (λ (l : Latch). l.from.0 < n) net.latches) (sym all)
          (subst (All (λ (l : Latch). l.from.0 < next_number d)) (sym r.latches) (latch-below g w order d nets m));
      reads_lower = subst (λ n. ReadsLower n net.gates) (sym first) (subst (ReadsLower d.first) (sym r.gates) m.sound.reads);
      carries_once = subst (λ gs. IsTrue (all_differ nat_eq (carried gs))) (sym r.gates) (subst (λ ws. IsTrue (all_differ nat_eq ws)) (sym m.carries)
          (differ-once order (length (names_of g)) o.in_range (λ v low. omega (arith, o.each_once v low))));
    }

pub has-interface : (g : Graph) (w : Words) (order : List WireId) (d : Drawing) (nets : List NetId) (net : Netlist) → CircuitMade g w order d nets
    → IsAround g w d nets net → HasInterfaceOf g net
has-interface g w order d nets net m r =
    let I = λ (l : Latch). l.init in
    let leaves : map I (map leaf_latch nets) ≡ map (λ (f : Formula). false) g.next.items =
    maps-same I (λ (f : Formula). false) (map leaf_latch nets) g.next.items (leaf_latch d.no) (formulas.Const true)
    (omega (arith, length-map nets leaf_latch, m.many))
    (λ k low. ap I (get_or-map leaf_latch nets k d.no (leaf_latch d.no) (omega (arith, length-map nets leaf_latch)))) in
    record {
      name = r.name;
      inputs = r.inputs;
      outputs = r.outputs;
      latches = ap (map I) r.latches ∙ ap (λ bs. true ∷ bs) leaves;
    }

-- what a net says has its value
value-says : (g : Graph) (d : Drawing) (n : ℕ) (m : Sense g) → Stands g d n m → (t : Instant g) → value_in (gate_values (start_of g t.occasion) d.gates) n ≡ m t
unfolding net_sense
value-says g d n m s t = ap (λ (f : Sense g). f t) s.says

source-says : (g : Graph) (w : Words) (d : Drawing) (n : ℕ) (x : Source) → Stands g d n (source_sense g w x) → (t : Instant g)
    → value_in (gate_values (start_of g t.occasion) d.gates) n ≡ value_of g w t.occasion x
unfolding source_sense
source-says g w d n x s t = value-says g d n _ s t

form-says : (g : Graph) (d : Drawing) (n : ℕ) (f : Formula) → Stands g d n (form_sense g f) → (t : Instant g)
    → value_in (gate_values (start_of g t.occasion) d.gates) n
    ≡ formula_value (plain_graph g) (state_in g t.occasion) t.occasion.event t.occasion.valuation (formula_of (instances_of g) (names_of g) f)
unfolding form_sense
form-says g d n f s t = value-says g d n _ s t

wire-says : (g : Graph) (w : Words) (d : Drawing) → Sound g w d → (t : Instant g) → (k : ℕ) (x : Gate) (v : WireId) → k < length d.gates
    → (slice_index_or d.gates k x).wire ≡ Some v
    → value_in (gate_values (start_of g t.occasion) d.gates) (d.first + k) ≡ t.occasion.valuation (wire_at (names_of g) v.0)
unfolding net_sense wire_sense
wire-says g w d s t k x v h e = ap (λ (f : Sense g). f t) (s.carrying k x v h e)

-- on an occasion on which the wires solve the equations
reacts : (g : Graph) (w : Words) (order : List WireId) (d : Drawing) (nets : List NetId) (net : Netlist)
    → interface_count (program_of g.program) ≤ length (program_of g.program).signals → AreWordsOf g w → CircuitMade g w order d nets
    → IsAround g w d nets net → (t : Instant g) → ReactsAs g net t.occasion (gate_values (start_of g t.occasion) d.gates)
reacts g w order d nets net h a m r t =
    let values = gate_values (start_of g t.occasion) d.gates in
    let off = false-off_wires g t in
    let first = first-gate g w order d nets net h m r in
    let fv = formula_value (plain_graph g) (state_in g t.occasion) t.occasion.event t.occasion.valuation in
    let F = formula_of (instances_of g) (names_of g) in
    let paused = stands-source g w d w.paused m.sound (paused-ready g w order d nets a m) in
    let outputs = maps-same (λ (o : NetOut). value_in values o.net.0) (value_of g w t.occasion) net.outputs w.outputs.items
    (record { name = []; net = d.no }) (sources.Const true) (out-many g w d nets net r)
    (λ k low. source-says g w d _ (slice_index_or w.outputs.items k (sources.Const true))
    (out-stands g w order d nets net a m r k (record { name = []; net = d.no }) (sources.Const true) low) t) in
    let leaves = length-map nets leaf_latch in
    let forms = length-map g.next.items F in
    let next : map (λ (l : Latch). value_in values l.from.0) (map leaf_latch nets) ≡ map fv (map F g.next.items) =
    maps-same (λ (l : Latch). value_in values l.from.0) fv (map leaf_latch nets) (map F g.next.items) (leaf_latch d.no) (F (formulas.Const true))
    (omega (arith, m.many))
    (λ k low.
    let here : k < length nets = omega arith in
    let there : k < length g.next.items = omega (arith, m.many) in
    let latch = get_or-map leaf_latch nets k d.no (leaf_latch d.no) here in
    let form = get_or-map F g.next.items k (formulas.Const true) (F (formulas.Const true)) there in
    ap (λ (l : Latch). value_in values l.from.0) latch
    ∙ form-says g d _ (slice_index_or g.next.items k (formulas.Const true)) (m.says k d.no (formulas.Const true) there) t
    ∙ ap fv (sym form)) in
    record {
      carries = λ k x v low e.
          let gates = r.gates in
          let below : k < length d.gates = omega (arith, ap length r.gates) in
          let wire = ap (λ gs. (slice_index_or gs k x).wire) (sym r.gates) ∙ e in
          ap (λ n. value_in values (n + k)) first ∙ wire-says g w d m.sound t k x v below wire;
      shows = λ i. record {
        outputs = (outputs ∙ a.outputs t.occasion off) i;
        paused = (ap (value_in values) r.paused ∙ source-says g w d _ w.paused paused t ∙ a.paused t.occasion off) i;
      };
      next = ap (map (λ (l : Latch). value_in values l.from.0)) r.latches ∙ ap (λ b. b ∷ map (λ (l : Latch). value_in values l.from.0) (map leaf_latch nets))
          (value-says g d _ _ m.sound.no t) ∙ ap (λ bs. false ∷ bs) next;
    }

pub follows-instants : (g : Graph) (w : Words) (order : List WireId) (d : Drawing) (nets : List NetId) (net : Netlist)
    → interface_count (program_of g.program) ≤ length (program_of g.program).signals → AreWordsOf g w → CircuitMade g w order d nets
    → IsAround g w d nets net → FollowsInstants g net
follows-instants g w order d nets net h a m r = λ t solves.
    let I : Instant g = record { occasion = t; solves = solves } in
    subst (λ gs. ReactsAs g net t (gate_values (start_of g t) gs)) (sym r.gates) (reacts g w order d nets net h a m r I)
