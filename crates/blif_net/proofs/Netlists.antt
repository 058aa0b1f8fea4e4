-- The netlist of a circuit whose tables are drawn: that it is one, and what it shows.
use Rattle.std.proofs.Common.{◌≡◌, ℕ, ◌+◌, ◌-◌, ◌<◌, Bool, true, false, ◌&&◌, List, [], ◌∷◌, ◌++◌, length, map, take, get_or}
use Rattle.std.proofs.Common.{refl, sym, ap, ◌∙◌, subst, arith, All, IsTrue, nat_eq, replicate}
use Rattle.std.specs.List.{AllByRecursion}
use Rattle.std.proofs.Math.Seq.{get_or-append_seam}
use Rattle.std.proofs.lemmas.Bool.{and_parts}
use Rattle.std.proofs.lemmas.List.{length-map, length-append, length-replicate, get_or-map, take_more, take_all, take_at, map-append}
use Rattle.std.proofs.lemmas.List.Elements.{All-from_recursion}
use Rattle.base_facts.proofs.Lists.{all-unmapped, map-twice}
use Rattle.base_machines.specs.Machines.{Follows}
use Rattle.base_types.specs.declared.indices.NetId.{NetId}
use Rattle.base_types.specs.Distinct.{all_differ, none_shared}
use Rattle.base_types.specs.Names.{is_name, is_same_name}
use Rattle.base_types.proofs.Exports.{same_name-is}
use Rattle.net_ir.specs.declared.netlist.Gate.{Gate}
use Rattle.net_ir.specs.declared.netlist.Latch.{Latch}
use Rattle.net_ir.specs.declared.netlist.NetOut.{NetOut}
use Rattle.net_ir.specs.Gates.{gate_values, value_in, ReadsLower}
use Rattle.net_ir.specs.NameLists.{is_among}
use Rattle.net_ir.specs.Netlists.{Netlist, IsNet, first_gate, net_count}
use Rattle.net_ir.specs.Runs.{net_machine, next_latches}
use Rattle.net_ir.proofs.Exports.{all_differ-append, found-low, found-at}
use Rattle.blif_text.specs.Circuits.{Circuit, CircuitLatch, Table}
use Rattle.blif_text.specs.OutputNames.{output_word, paused_word}
use Rattle.blif_text.specs.Runs.{IsInstant, circuit_machine, driven_names}
use Rattle.blif_text.specs.Written.{output_words}
use Rattle.blif_text.proofs.Exports.{IsSound}
use Rattle.run_steps.specs.Slots.{slot_in, value_at, memory_in}
use Rattle.run_steps.specs.Steps.{settled, AreSolved, driven}
use Rattle.run_steps.specs.Order.{IsEvaluationOrder}
use Rattle.run_steps.specs.Solvers.{ordered_steps, equation_edges}
use Rattle.run_steps.proofs.Exports.{all-made, driven-count, solved}
use Rattle.blif_run.specs.CircuitAnswers.{tells_pause, listed_count, listed_names}
use Rattle.blif_run.specs.Loops.{equations_of}
use Rattle.blif_run.specs.Plans.{given_names, all_names}
use Rattle.blif_run.proofs.Exports.{names-are, given-count, sound-equations, IsOnly, only-instant}
use Rattle.blif_net.specs.declared.assembling.Named.{Named}
use Rattle.blif_net.specs.Depths.{HasDepth, gate_depths, greatest}
use Rattle.blif_net.specs.Sizes.{gates_of}
use Rattle.blif_net.specs.Conversions.{FitsCircuit, ShowsCircuit, SameLatches, IsNetOf}
use Rattle.blif_net.specs.Drawings.{IsDrawing, read_values}
use Rattle.blif_net.specs.Interfaces.{IsFit}
use Rattle.blif_net.specs.Tables.{Settles, IsNamed, net_with, net_named, latch_named}
use Rattle.blif_net.proofs.Words.{names-differ}

abbrev none : NetId
none = record { 0 = 0 }

-- the outputs of a circuit are those that are listed, and `_paused`
pub outputs-split : (outputs : List (List ℕ)) → tells_pause outputs ≡ true → outputs ≡ listed_names outputs ++ paused_word ∷ []
outputs-split outputs is =
    let last = get_or outputs (length outputs - 1) [] in
    let named : paused_word ≡ last = same_name-is paused_word last is in
    let some : 0 < length outputs =
    elim outputs as (λ o. paused_word ≡ get_or o (length o - 1) [] → 0 < length o)
    [ [] ↦ λ e. absurd (no-word e) | o ∷ more ↦ λ e. omega arith ] named in
    let count : listed_count outputs ≡ length outputs - 1 = rw is refl in
    let all : length outputs - 1 + 1 ≡ length outputs = omega arith in
    sym (take_all (length outputs) outputs (omega arith)) ∙ ap (λ n. take n outputs) (sym all)
    ∙ take_more outputs (length outputs - 1) [] (omega arith)
    ∙ ap (λ n. take n outputs ++ last ∷ []) (sym count) ∙ ap (λ w. listed_names outputs ++ w ∷ []) (sym named)
  where
    no-word : paused_word ≡ [] → ⊥
    no-word e = let n : length paused_word ≡ 0 = ap length e in absurd (omega (arith, n))

-- where `_paused` stands
pub paused-at : (outputs : List (List ℕ)) → tells_pause outputs ≡ true → (d : List ℕ) → get_or outputs (listed_count outputs) d ≡ paused_word
paused-at outputs is d =
    let split = outputs-split outputs is in
    let one : length (listed_names outputs) + 1 ≡ length outputs = sym (ap length split ∙ length-append (listed_names outputs) (paused_word ∷ [])) in
    let count : listed_count outputs ≡ length outputs - 1 = rw is refl in
    let place : listed_count outputs ≡ length (listed_names outputs) = omega (arith, one, count) in
    ap (λ n. get_or outputs n d) place ∙ ap (λ l. get_or l (length (listed_names outputs)) d) split
    ∙ get_or-append_seam (listed_names outputs) paused_word [] d

map-alike : {X Y : Type 0} (f g : X → Y) (xs : List X) → AllByRecursion (λ x. f x ≡ g x) xs → map f xs ≡ map g xs
map-alike f g [] all = refl
map-alike f g (x ∷ xs) all = rw (all.0, map-alike f g xs all.1) refl

all-left : {X : Type 0} (P : X → Type 0) (xs ys : List X) → AllByRecursion P (xs ++ ys) → AllByRecursion P xs
all-left P [] ys all = tt
all-left P (x ∷ xs) ys all = (all.0, all-left P xs ys all.1)

all-right : {X : Type 0} (P : X → Type 0) (xs ys : List X) → AllByRecursion P (xs ++ ys) → AllByRecursion P ys
all-right P [] ys all = all
all-right P (x ∷ xs) ys all = all-right P xs ys all.1

all-weaker : {X : Type 0} (P Q : X → Type 0) (xs : List X) → ((x : X) → P x → Q x) → AllByRecursion P xs → AllByRecursion Q xs
all-weaker P Q [] more all = tt
all-weaker P Q (x ∷ xs) more all = (more x all.0, all-weaker P Q xs more all.1)

-- what is so of names that have a value is so of the listed outputs, of `_paused`, and of the sources of latches
module _ (c : Circuit) (sound : IsSound c) (pauses : tells_pause c.outputs ≡ true) where
  abbrev names : List (List ℕ)
  names = driven_names c

  abbrev IsDriven : List ℕ → Type 0
  IsDriven x = is_among x names ≡ true

  split-driven : AllByRecursion IsDriven (listed_names c.outputs ++ paused_word ∷ [])
  split-driven = subst (AllByRecursion IsDriven) (outputs-split c.outputs pauses) sound.driven.outputs

  pub listed-driven : AllByRecursion IsDriven (listed_names c.outputs)
  listed-driven = all-left IsDriven (listed_names c.outputs) (paused_word ∷ []) split-driven

  pub paused-driven : IsDriven paused_word
  paused-driven = (all-right IsDriven (listed_names c.outputs) (paused_word ∷ []) split-driven).0

  pub listed-slots : All (λ word. slot_in names word < length names) (listed_names c.outputs)
  listed-slots =
      All-from_recursion (λ word. slot_in names word < length names) (listed_names c.outputs)
      (all-weaker IsDriven (λ word. slot_in names word < length names) (listed_names c.outputs) (λ x driven. found-low x names driven) listed-driven)

  pub source-slots : All (λ (l : CircuitLatch). slot_in names l.source < length names) c.latches
  source-slots =
      All-from_recursion (λ (l : CircuitLatch). slot_in names l.source < length names) c.latches
      (all-weaker (λ (l : CircuitLatch). IsDriven l.source) (λ l. slot_in names l.source < length names) c.latches
      (λ l driven. found-low l.source names driven) sound.driven.sources)

  pub paused-slot : slot_in names paused_word < length names
  paused-slot = found-low paused_word names paused-driven

  module _ (nets : List NetId) (bound : ℕ) (each : length nets ≡ length names) (low : All (λ n. n.0 < bound) nets) where
    net-low : (x : List ℕ) → IsDriven x → (net_named names nets x).0 < bound
    net-low x driven = low (slot_in names x) none (omega (arith, found-low x names driven, each))

    pub outputs-low : (outputs : List NetOut) → map (λ (o : NetOut). o.net) outputs ≡ map (net_named names nets) (listed_names c.outputs)
        → All (λ (o : NetOut). o.net.0 < bound) outputs
    outputs-low outputs are =
        all-unmapped (λ (n : NetId). n.0 < bound) (λ (o : NetOut). o.net) outputs
        (subst (λ l. All (λ (n : NetId). n.0 < bound) l) (sym are)
        (All-from_recursion (λ (n : NetId). n.0 < bound) (map (net_named names nets) (listed_names c.outputs))
        (all-made (λ (n : NetId). n.0 < bound) (net_named names nets) (listed_names c.outputs)
        (all-weaker IsDriven (λ x. (net_named names nets x).0 < bound) (listed_names c.outputs) net-low listed-driven))))

    pub latches-low : (latches : List Latch) → latches ≡ map (latch_named names nets) c.latches → All (λ (l : Latch). l.from.0 < bound) latches
    latches-low latches are =
        subst (λ l. All (λ (l : Latch). l.from.0 < bound) l) (sym are)
        (All-from_recursion (λ (l : Latch). l.from.0 < bound) (map (latch_named names nets) c.latches)
        (all-made (λ (l : Latch). l.from.0 < bound) (latch_named names nets) c.latches
        (all-weaker (λ (l : CircuitLatch). IsDriven l.source) (λ l. (net_named names nets l.source).0 < bound) c.latches
        (λ l. net-low l.source) sound.driven.sources)))

-- ---- that it is a netlist

pub named-net : (c : Circuit) → IsSound c → IsFit c → (gates : List Gate) (nets : List NetId) (named : Named) → IsNamed c nets named
    → IsDrawing (length (given_names c)) gates → length nets ≡ length (driven_names c)
    → All (λ n. n.0 < length (given_names c) + length gates) nets → IsNet (net_with named gates)
named-net c sound fit gates nets named n d each low =
    let inputs : length named.names.inputs.items ≡ length c.inputs = ap length n.inputs in
    let latches : length named.latches.items ≡ length c.latches = ap length n.latches ∙ length-map c.latches (latch_named (driven_names c) nets) in
    let first : length named.names.inputs.items + length named.latches.items ≡ length (given_names c) =
    omega (arith, inputs, latches, given-count c) in
    let count : net_count (net_with named gates) ≡ length (given_names c) + length gates = ap (λ m. m + length gates) first in
    let bound : ℕ = length (given_names c) + length gates in
    let others = map (λ (l : CircuitLatch). l.target) c.latches ++ map (λ (t : Table). t.output) c.tables in
    let both = and_parts (all_differ is_same_name c.inputs && none_shared is_same_name c.inputs others) (all_differ is_same_name others)
    (sym (all_differ-append is_same_name c.inputs others) ∙ sound.differ) in
    let parts = and_parts (all_differ is_same_name c.inputs) (none_shared is_same_name c.inputs others) both.0 in
    record {
      name_fits = ap is_name n.name ∙ fit.names.model;
      input_names_fit = subst (λ l. All (λ name. IsTrue (is_name name)) l) (sym n.inputs) fit.names.inputs;
      output_names_fit = n.fit;
      inputs_differ = ap (all_differ is_same_name) n.inputs ∙ parts.0;
      outputs_differ = names-differ c.inputs (map (λ (o : NetOut). o.name) named.outputs.items) (listed_names c.outputs)
          (map-twice (output_word c.inputs) (λ (o : NetOut). o.name) named.outputs.items ∙ n.words) fit.once;
      numbered = omega (arith, d.few, count);
      outputs_in_range = subst (λ m. All (λ (o : NetOut). o.net.0 < m) named.outputs.items) (sym count)
          (outputs-low c sound fit.names.pauses nets bound each low named.outputs.items n.nets_are);
      paused_in_range = subst (λ m. named.paused.0 < m) (sym count) (ap-low n.paused
          (net-low c sound fit.names.pauses nets bound each low paused_word (paused-driven c sound fit.names.pauses)));
      latches_in_range = subst (λ m. All (λ (l : Latch). l.from.0 < m) named.latches.items) (sym count)
          (latches-low c sound fit.names.pauses nets bound each low named.latches.items n.latches);
      reads_lower = subst (λ m. ReadsLower m gates) (sym first) d.reads_lower;
      carries_once = subst (λ wires. IsTrue (all_differ nat_eq wires)) (sym d.silent) refl;
    }
  where
    ap-low : {m n : NetId} {bound : ℕ} → m ≡ n → n.0 < bound → m.0 < bound
    ap-low {m} {n} {bound} is low = subst (λ (k : NetId). k.0 < bound) (sym is) low

-- ---- what it shows

module _ (c : Circuit) (sound : IsSound c) (fit : IsFit c) (order : List ℕ)
    (is : IsEvaluationOrder (length (equations_of c)) (equation_edges (given_names c) (equations_of c)) order) (gates : List Gate) (nets : List NetId)
    (s : Settles (length (given_names c)) (length (equations_of c)) gates nets (ordered_steps (given_names c) (equations_of c) order))
    (drawn : length gates ≡ gates_of c)
    (deep : HasDepth c (greatest (gate_depths (replicate (length (given_names c)) 0) gates))) (named : Named) (n : IsNamed c nets named) where
  abbrev net : Netlist
  net = net_with named gates

  abbrev all : List (List ℕ)
  all = driven_names c

  pub each-net : length nets ≡ length all
  each-net = s.each_slot ∙ sym (ap length (sym (names-are c)) ∙ driven-count (given_names c) (equations_of c))

  module _ (latches inputs : List Bool) (kept : length latches ≡ length c.latches) (wide : length inputs ≡ length c.inputs) where
    abbrev begins : List Bool
    begins = inputs ++ latches

    width : length begins ≡ length (given_names c)
    width = omega (arith, length-append inputs latches, given-count c, kept, wide)

    abbrev start : List Bool
    start = begins ++ replicate (length (equations_of c)) false

    abbrev after : List Bool
    after = settled (ordered_steps (given_names c) (equations_of c) order) start

    abbrev v : List ℕ → Bool
    v = memory_in (all_names c) after

    front : take (length (given_names c)) start ≡ begins
    front = take_at begins (replicate (length (equations_of c)) false) (length (given_names c)) width

    start-count : length start ≡ length (all_names c)
    start-count =
        let a = length-append begins (replicate (length (equations_of c)) false) in
        let b = length-replicate (length (equations_of c)) false in
        omega (arith, a, b, width, driven-count (given_names c) (equations_of c))

    pub only : IsOnly c latches inputs v
    only =
        only-instant c latches inputs v wide
        (subst (λ l. AreSolved (given_names c) (equations_of c) l v) front
        (solved (given_names c) (equations_of c) (sound-equations c sound) order is start start-count))

    values-are : read_values nets (gate_values begins gates) ≡ after
    values-are = s.says begins width

    -- the net of a name has its value
    net-value : (x : List ℕ) → is_among x all ≡ true → value_in (gate_values begins gates) (net_named all nets x).0 ≡ v x
    net-value x driven =
        let slot = slot_in all x in
        let inside : slot < length nets = omega (arith, found-low x all driven, each-net) in
        sym (get_or-map (λ (n : NetId). value_in (gate_values begins gates) n.0) nets slot none false inside)
        ∙ ap (λ l. value_at l slot) values-are ∙ ap (λ ns. value_at after (slot_in ns x)) (sym (names-are c))

    -- so in each instant of the circuit
    module _ (u : List ℕ → Bool) (instant : IsInstant c latches inputs u) where
      agrees : (x : List ℕ) → is_among x all ≡ true → value_in (gate_values begins gates) (net_named all nets x).0 ≡ u x
      agrees x driven =
          let slot = slot_in all x in
          let low = found-low x all driven in
          let same : v (get_or all slot []) ≡ u (get_or all slot []) =
          sym (get_or-map v all slot [] false low) ∙ ap (λ l. get_or l slot false) (sym (only.only u instant)) ∙ get_or-map u all slot [] false low in
          net-value x driven ∙ sym (ap v (found-at x all driven)) ∙ same ∙ ap u (found-at x all driven)

      mapped : (xs : List (List ℕ)) → AllByRecursion (λ x. is_among x all ≡ true) xs
          → map (λ (n : NetId). value_in (gate_values begins gates) n.0) (map (net_named all nets) xs) ≡ map u xs
      mapped [] driven = refl
      mapped (x ∷ xs) driven = rw (agrees x driven.0, mapped xs driven.1) refl

      sources : (ls : List CircuitLatch) → AllByRecursion (λ l. is_among l.source all ≡ true) ls
          → map (λ (l : Latch). value_in (gate_values begins gates) l.from.0) (map (latch_named all nets) ls) ≡ map (λ l. u l.source) ls
      sources [] driven = refl
      sources (l ∷ ls) driven = rw (agrees l.source driven.0, sources ls driven.1) refl

      shows : ShowsCircuit net c (gate_values begins gates) u
      shows =
          let values = gate_values begins gates in
          let listed : map u (listed_names c.outputs) ≡ map (λ (o : NetOut). value_in values o.net.0) named.outputs.items =
          sym (mapped (listed_names c.outputs) (listed-driven c sound fit.names.pauses))
          ∙ ap (map (λ (n : NetId). value_in values n.0)) (sym n.nets_are)
          ∙ map-twice (λ (n : NetId). value_in values n.0) (λ (o : NetOut). o.net) named.outputs.items in
          let paused : u paused_word ≡ value_in values named.paused.0 =
          sym (agrees paused_word (paused-driven c sound fit.names.pauses)) ∙ ap (λ (n : NetId). value_in values n.0) (sym n.paused) in
          ap (map u) (outputs-split c.outputs fit.names.pauses) ∙ map-append u (listed_names c.outputs) (paused_word ∷ [])
          ∙ (λ i. listed i ++ paused i ∷ [])

      next : next_latches net (gate_values begins gates) ≡ map (λ l. u l.source) c.latches
      next = ap (map (λ (l : Latch). value_in (gate_values begins gates) l.from.0)) n.latches ∙ sources c.latches sound.driven.sources

  pub net-follows : Follows (net_machine net) (circuit_machine c) (FitsCircuit c) (ShowsCircuit net c) (SameLatches c)
  net-follows = record {
    agrees = record {
      starts = record {
        same = ap (map (λ (l : Latch). l.init)) n.latches ∙ map-twice (λ (l : Latch). l.init) (latch_named all nets) c.latches;
        each_latch = length-map named.latches.items (λ (l : Latch). l.init) ∙ ap length n.latches ∙ length-map c.latches (latch_named all nets);
      };
      steps = λ latches kept inputs values u m wide own instant.
          let here : IsInstant c latches inputs u = subst (λ l. IsInstant c l inputs u) (sym m.same) instant in
          let same : ShowsCircuit net c values u = subst (λ vs. ShowsCircuit net c vs u) (sym own) (shows latches inputs m.each_latch wide u here) in
          let after : SameLatches c (next_latches net values) (map (λ (l : CircuitLatch). u l.source) c.latches) = record {
            same = ap (next_latches net) own ∙ next latches inputs m.each_latch wide u here;
            each_latch = length-map named.latches.items (λ (l : Latch). value_in values l.from.0) ∙ ap length n.latches
                ∙ length-map c.latches (latch_named all nets);
          } in
          (same, after);
    };
    moves = λ latches kept inputs values m wide own.
        let u : List ℕ → Bool = v latches inputs m.each_latch wide in
        (u, subst (λ l. IsInstant c l inputs u) m.same (only latches inputs m.each_latch wide).instant);
  }

  pub net-is : IsNetOf c net
  net-is = record {
    name = n.name;
    inputs = n.inputs;
    outputs = words;
    silent = s.drawing.silent;
    gates = drawn;
    deep = subst (λ first. HasDepth c (greatest (gate_depths (replicate first 0) gates))) (sym first-is) deep;
    follows = net-follows;
  }
    where
      first-is : first_gate net ≡ length (given_names c)
      first-is =
          let inputs : length named.names.inputs.items ≡ length c.inputs = ap length n.inputs in
          let latches : length named.latches.items ≡ length c.latches = ap length n.latches ∙ length-map c.latches (latch_named (driven_names c) nets) in
          omega (arith, inputs, latches, given-count c)

      words : output_words net ≡ c.outputs
      words =
          ap (λ l. l ++ paused_word ∷ []) (ap (λ ins. map (λ (o : NetOut). output_word ins o.name) named.outputs.items) n.inputs ∙ n.words)
          ∙ sym (outputs-split c.outputs fit.names.pauses)
