-- Inner: the runs of a net's module over steps: there is one, and it shows what the net shows.
use Rattle.std.proofs.Common.{◌≡◌, ℕ, ◌+◌, ◌&&◌, Bool, true, false, List, [], ◌∷◌, ◌++◌, length, map, refl, sym, ap, ◌∙◌, subst, append_assoc, inl, inr}
use Rattle.std.specs.Prelude.{◌⊎◌, if◌then◌else◌}
use Rattle.std.specs.List.{AllByRecursion}
use Rattle.std.proofs.lemmas.List.{map-append, length-append, length-map}
use Rattle.base_facts.proofs.Lists.{map-composed, same-parts}
use Rattle.base_facts.proofs.Tests.{and-false}
use Rattle.base_types.specs.Items.{Item, Event, Reset}
use Rattle.net_ir.specs.declared.netlist.Gate.{Gate}
use Rattle.net_ir.specs.declared.netlist.Latch.{Latch}
use Rattle.net_ir.specs.Netlists.{Netlist}
use Rattle.net_ir.specs.Numbered.{numbered}
use Rattle.net_ir.specs.Runs.{Shown, initial_latches, net_run, net_values, net_values_run, next_latches, shown}
use Rattle.net_ir.specs.Writing.{IsWritable}
use Rattle.net_ir.proofs.Exports.{length-numbered, looked_up, map-looked_up, map-numbered, told-values, told_from}
use Rattle.net_expressions.specs.NetNames.{gate_name, gate_names, state_name}
use Rattle.net_expressions.proofs.Exports.{state_names}
use Rattle.vlog_text.specs.Machine.{IsInstant, driven_names, initial_registers}
use Rattle.vlog_text.specs.Names.{paused_name}
use Rattle.vlog_text.specs.Trees.{Assign, Register}
use Rattle.vlog_text.specs.Written as plain
use Rattle.vlog_text.proofs.Exports.{Holds, Holds-from_instant, all_driven, initial-module, input_words as plain_inputs, instant_exists, names-differ}
use Rattle.vlog_text.proofs.Exports.{next_latches-module, output_words as plain_outputs, shown-module}
use Rattle.vlog_reset.specs.Faults.{IsResettable, outer_names, own_names}
use Rattle.vlog_reset.specs.Machine.{Begins, BeginsReset, Edge, HasWidth, IsEdgeRun, Pulse, ClockStep, is_active, step_items, registers_after, registers_at}
use Rattle.vlog_reset.specs.Machine.{registers_pulsed, seen_by}
use Rattle.vlog_reset.specs.Options.{ModuleOptions}
use Rattle.vlog_reset.specs.Trees.{ResetModule}
use Rattle.vlog_reset.specs.Written.{gate_assign, gate_word, gate_words, input_name, input_words, module_name, net_assigns, net_design, net_register}
use Rattle.vlog_reset.specs.Written.{net_words, output_assign, output_name, output_words, paused_assign, reset_module, state_word, state_words}
use Rattle.vlog_reset.proofs.NetInstants.{Agree, agree-nets, instant-here, instant-plainly, next-here}
use Rattle.vlog_reset.proofs.NetNames.{differ-all}

-- ---- to each valuation of the one module one of the other agrees

split-maps : (v w : List ℕ → Bool) (xs ys zs : List (List ℕ)) (rest : List Bool) → length xs ≡ length zs → map v (xs ++ ys) ≡ map w zs ++ rest
    → (map v xs ≡ map w zs) × (map v ys ≡ rest)
split-maps v w xs ys zs rest len same =
    same-parts (map v xs) (map v ys) (map w zs) rest (length-map xs v ∙ len ∙ sym (length-map zs w)) (sym (map-append v xs ys) ∙ same)

-- the number of names
record SameLengths (o : ModuleOptions) (net : Netlist) : Type 0 where
  inputs : length (input_words o net) ≡ length (plain_inputs net)
  states : length (state_words net) ≡ length (state_names net)
  gates : length (gate_words net) ≡ length (gate_names net)
  outputs : length (output_words o net) ≡ length (plain.net_outputs net)

same-lengths : (o : ModuleOptions) (net : Netlist) → SameLengths o net
same-lengths o net = record {
  inputs = length-map net.inputs (input_name o) ∙ sym (length-map net.inputs plain.input_name);
  states = length-numbered (λ j (x : Latch). state_word j) 0 net.latches ∙ sym (length-numbered (λ j (x : Latch). state_name j) 0 net.latches);
  gates = length-numbered (λ k (x : Gate). gate_word k) 0 net.gates ∙ sym (length-numbered (λ k (x : Gate). gate_name k x.wire) 0 net.gates);
  outputs = length-append (map (output_name o) net.outputs) (paused_name ∷ [])
      ∙ ap (λ n. n + 1) (length-map net.outputs (output_name o) ∙ sym (length-map net.outputs plain.output_name))
      ∙ sym (length-append (plain_outputs net) (paused_name ∷ []));
}

four-lengths : (v : List ℕ → Bool) (es bs cs ds xs ys zs us : List (List ℕ)) → length es ≡ length xs → length bs ≡ length ys → length cs ≡ length zs
    → length ds ≡ length us → length (xs ++ (ys ++ (zs ++ us))) ≡ length (map v es ++ (map v bs ++ (map v cs ++ map v ds)))
four-lengths v es bs cs ds xs ys zs us a b c d = simp (length-append, length-map) (rw (a, b, c, d) refl)

-- the values of vlog_text's names, where those of the module are given
pub plain-agrees : (o : ModuleOptions) (net : Netlist) → IsWritable net → (v : List ℕ → Bool) → (w : List ℕ → Bool) × Agree o net v w
plain-agrees o net is v =
    let n = same-lengths o net in
    let outs = map v (output_words o net) in
    let rest2 = map v (gate_words net) ++ outs in
    let rest1 = map v (state_words net) ++ rest2 in
    let values = map v (input_words o net) ++ rest1 in
    let w = looked_up (all_driven net) values in
    let given = map-looked_up (all_driven net) values (names-differ net is) (four-lengths v (input_words o net) (state_words net) (gate_words net)
    (output_words o net) (plain_inputs net) (state_names net) (gate_names net) (plain.net_outputs net) n.inputs n.states n.gates n.outputs) in
    let a = split-maps w v (plain_inputs net) (state_names net ++ (gate_names net ++ plain.net_outputs net)) (input_words o net) rest1 (sym n.inputs) given in
    let b = split-maps w v (state_names net) (gate_names net ++ plain.net_outputs net) (state_words net) rest2 (sym n.states) a.1 in
    let c = split-maps w v (gate_names net) (plain.net_outputs net) (gate_words net) outs (sym n.gates) b.1 in
    (w, record { inputs = sym a.0; states = sym b.0; gates = sym c.0; outputs = sym c.1 })

-- the values of the module's names, where those of vlog_text's are given
pub here-agrees : (o : ModuleOptions) (net : Netlist) → IsWritable net → IsResettable o net → (w : List ℕ → Bool) → (v : List ℕ → Bool) × Agree o net v w
here-agrees o net is fits w =
    let n = same-lengths o net in
    let names = outer_names o net ++ own_names net in
    let ports = map w (plain_inputs net) ++ map w (plain.net_outputs net) in
    let own = map w (state_names net) ++ map w (gate_names net) in
    let values = (false ∷ false ∷ ports) ++ (false ∷ own) in
    let v = looked_up names values in
    let given : map v names ≡ values = map-looked_up names values (differ-all o net is fits)
    (long (input_words o net) (output_words o net) (state_words net) (gate_words net) (plain_inputs net) (plain.net_outputs net) (state_names net)
    (gate_names net) n.inputs n.outputs n.states n.gates) in
    let whole = same-parts (map v (outer_names o net)) (map v (own_names net)) (false ∷ false ∷ ports) (false ∷ own)
    (short (input_words o net) (output_words o net) (plain_inputs net) (plain.net_outputs net) n.inputs n.outputs v)
    (sym (map-append v (outer_names o net) (own_names net)) ∙ given) in
    let faces : map v (input_words o net ++ output_words o net) ≡ ports = cc whole.0 in
    let owned : map v (state_words net ++ gate_words net) ≡ own = cc whole.1 in
    let a = split-maps v w (input_words o net) (output_words o net) (plain_inputs net) (map w (plain.net_outputs net)) n.inputs faces in
    let b = split-maps v w (state_words net) (gate_words net) (state_names net) (map w (gate_names net)) n.states owned in
    (v, record { inputs = a.0; states = b.0; gates = b.1; outputs = a.1 })
  where
    long : (is os ss gs xs ys zs us : List (List ℕ)) → length is ≡ length xs → length os ≡ length ys → length ss ≡ length zs → length gs ≡ length us
        → length ((module_name o net ∷ o.reset ∷ (is ++ os)) ++ (plain.clock_name ∷ (ss ++ gs)))
        ≡ length ((false ∷ false ∷ (map w xs ++ map w ys)) ++ (false ∷ (map w zs ++ map w us)))
    long is os ss gs xs ys zs us a b c d = simp (length-append, length-map) (rw (a, b, c, d) refl)

    short : (is os xs ys : List (List ℕ)) → length is ≡ length xs → length os ≡ length ys → (v : List ℕ → Bool)
        → length (map v (module_name o net ∷ o.reset ∷ (is ++ os))) ≡ length (false ∷ false ∷ (map w xs ++ map w ys))
    short is os xs ys a b v = simp (length-append, length-map) (rw (a, b) refl)

-- ---- one instant

-- what holds in an instant of the module
record Knows (o : ModuleOptions) (net : Netlist) (latches inputs : List Bool) (v : List ℕ → Bool) : Type 0 where
  plainly : List ℕ → Bool
  agree : Agree o net v plainly
  holds : Holds net latches inputs plainly

pub targets-here : (o : ModuleOptions) (net : Netlist) → map (λ (a : Assign _). a.target) (net_assigns o net) ≡ gate_words net ++ output_words o net
targets-here o net =
    map-append (λ (a : Assign _). a.target) (numbered (gate_assign o net) 0 net.gates) (map (output_assign o net) net.outputs ++ paused_assign o net ∷ [])
    ∙ ap (λ l. l ++ map (λ (a : Assign _). a.target) (map (output_assign o net) net.outputs ++ paused_assign o net ∷ []))
    (map-numbered (λ (a : Assign _). a.target) (gate_assign o net) 0 net.gates)
    ∙ ap (λ l. gate_words net ++ l) (map-append (λ (a : Assign _). a.target) (map (output_assign o net) net.outputs) (paused_assign o net ∷ [])
    ∙ ap (λ l. l ++ paused_name ∷ []) (sym (map-composed (λ (a : Assign _). a.target) (output_assign o net) net.outputs)))

driven-here : (o : ModuleOptions) (net : Netlist) → driven_names (net_design o net) ≡ net_words o net ++ output_words o net
driven-here o net =
    ap (λ l. input_words o net ++ (l ++ map (λ (a : Assign _). a.target) (net_assigns o net)))
    (map-numbered (λ (r : Register). r.name) (net_register o net) 0 net.latches)
    ∙ ap (λ l. input_words o net ++ (state_words net ++ l)) (targets-here o net)
    ∙ grouped (input_words o net) (state_words net) (gate_words net) (output_words o net)
  where
    grouped : (a b c d : List (List ℕ)) → a ++ (b ++ (c ++ d)) ≡ (a ++ (b ++ c)) ++ d
    grouped a b c d = simp append_assoc refl

initial-here : (o : ModuleOptions) (net : Netlist) → initial_registers (net_design o net) ≡ initial_latches net
initial-here o net =
    map-numbered (λ (r : Register). r.init) (net_register o net) 0 net.latches
    ∙ sym (map-numbered (λ (r : Register). r.init) (plain.net_register net) 0 net.latches) ∙ initial-module net

abbrev row : Netlist → List Bool → List Bool
row net values = (shown net values).outputs ++ (shown net values).paused ∷ []

module _ (o : ModuleOptions) (net : Netlist) (is : IsWritable net) where
  knows : (latches inputs : List Bool) (v : List ℕ → Bool) → IsInstant (net_design o net) latches inputs v → Knows o net latches inputs v
  knows latches inputs v instant =
      let other = plain-agrees o net is v in
      record {
        plainly = other.0;
        agree = other.1;
        holds = Holds-from_instant net is latches inputs other.0 (instant-plainly o net is v other.0 other.1 latches inputs instant);
      }

  next : (latches inputs : List Bool) (v : List ℕ → Bool) → IsInstant (net_design o net) latches inputs v
      → map (λ (r : Register). v r.from) (net_design o net).registers ≡ next_latches net (net_values net latches inputs)
  next latches inputs v instant =
      let k = knows latches inputs v instant in
      next-here o net is v k.plainly k.agree ∙ next_latches-module net is latches inputs k.plainly k.holds

  shown-here : (latches inputs : List Bool) (v : List ℕ → Bool) → IsInstant (net_design o net) latches inputs v
      → map v (output_words o net) ≡ row net (net_values net latches inputs)
  shown-here latches inputs v instant =
      let k = knows latches inputs v instant in k.agree.outputs ∙ shown-module net latches inputs k.plainly k.holds

  all-here : (latches inputs : List Bool) (v : List ℕ → Bool) → IsInstant (net_design o net) latches inputs v
      → map v (driven_names (net_design o net)) ≡ net_values net latches inputs ++ row net (net_values net latches inputs)
  all-here latches inputs v instant =
      let k = knows latches inputs v instant in
      ap (map v) (driven-here o net) ∙ map-append v (net_words o net) (output_words o net)
      ∙ rw (agree-nets o net v k.plainly k.agree, k.holds.nets, shown-here latches inputs v instant) refl

  exists : IsResettable o net → (latches inputs : List Bool) → length latches ≡ length net.latches → length inputs ≡ length net.inputs
      → (v : List ℕ → Bool) × IsInstant (net_design o net) latches inputs v
  exists fits latches inputs l i =
      let other = instant_exists net is latches inputs l i in
      let here = here-agrees o net is fits other.0 in
      (here.0, instant-here o net is here.0 other.0 here.1 latches inputs other.1)

  -- ---- steps

  abbrev m : ResetModule
  m = reset_module o net

  either-long : (b : Bool) (xs ys : List Bool) → length xs ≡ length net.latches → length ys ≡ length net.latches
      → length (if b then xs else ys) ≡ length net.latches
  either-long true xs ys x y = x
  either-long false xs ys x y = y

  length-initial : length (initial_registers (net_design o net)) ≡ length net.latches
  length-initial = ap length (initial-here o net) ∙ length-map net.latches (λ (l : Latch). l.init)

  length-next_registers : (v : List ℕ → Bool) → length (map (λ (r : Register). v r.from) (net_design o net).registers) ≡ length net.latches
  length-next_registers v = length-map (net_design o net).registers (λ (r : Register). v r.from) ∙ length-numbered (net_register o net) 0 net.latches

  pub runs-from : IsResettable o net → (registers : List Bool) (steps : List ClockStep) → length registers ≡ length net.latches
      → AllByRecursion (HasWidth (length net.inputs)) steps → (vs : List (List ℕ → Bool)) × IsEdgeRun m registers steps vs
  runs-from fits registers [] l wide = ([], tt)
  runs-from fits registers (Edge level given ∷ steps) l wide =
      let active = is_active o.manner level in
      let here = exists fits (registers_at m active registers) given
      (either-long (o.manner.is_asynchronous && active) (initial_registers (net_design o net)) registers length-initial l) wide.0 in
      let rest = runs-from fits (registers_after m active here.0) steps
      (either-long active (initial_registers (net_design o net)) _ length-initial (length-next_registers here.0)) wide.1 in
      (here.0 ∷ rest.0, (here.1, rest.1))
  runs-from fits registers (Pulse ∷ steps) l wide =
      runs-from fits (registers_pulsed m registers) steps
      (either-long o.manner.is_asynchronous (initial_registers (net_design o net)) registers length-initial l) wide.1

  -- what is so of each instant is so of each edge without a reset, where the latches' values are known or the first item is a reset
  module _ {X : Type 0} (see : (List ℕ → Bool) → X) (g : List Bool → List Bool → X)
      (each : (latches inputs : List Bool) (v : List ℕ → Bool) → IsInstant (net_design o net) latches inputs v → see v ≡ g latches inputs) where
    abbrev KnownFrom : List Bool → List Bool → List Item → Type 0
    KnownFrom latches registers items = (registers ≡ latches) ⊎ BeginsReset items

    abbrev Told : List ClockStep → List (List ℕ → Bool) → Type 0
    Told steps vs = (latches registers : List Bool) → KnownFrom latches registers (step_items o.manner steps) → IsEdgeRun m registers steps vs
        → seen_by see o.manner steps vs ≡ told_from net g latches (step_items o.manner steps)

    edge : (b : Bool) (given : List Bool) (v : List ℕ → Bool) (steps : List ClockStep) (vs : List (List ℕ → Bool)) → Told steps vs
        → (latches registers : List Bool) → KnownFrom latches registers ((if b then Reset else Event given) ∷ step_items o.manner steps)
        → IsInstant (net_design o net) (registers_at m b registers) given v → IsEdgeRun m (registers_after m b v) steps vs
        → (if b then seen_by see o.manner steps vs else see v ∷ seen_by see o.manner steps vs)
        ≡ told_from net g latches ((if b then Reset else Event given) ∷ step_items o.manner steps)
    edge true given v steps vs later latches registers known instant run =
        later (initial_latches net) (initial_registers (net_design o net)) (inl (initial-here o net)) run
    edge false given v steps vs later latches registers (inl same) instant run =
        let here : IsInstant (net_design o net) latches given v =
        subst (λ l. IsInstant (net_design o net) l given v) (ap (λ b. if b then initial_registers (net_design o net) else registers)
        (and-false o.manner.is_asynchronous) ∙ same) instant in
        let rest = later (next_latches net (net_values net latches given)) (map (λ (r : Register). v r.from) (net_design o net).registers)
        (inl (next latches given v here)) run in
        ap (λ x. x ∷ seen_by see o.manner steps vs) (each latches given v here) ∙ ap (λ l. g latches given ∷ l) rest
    edge false given v steps vs later latches registers (inr reset) instant run = absurd reset

    pulse : (b : Bool) (steps : List ClockStep) (vs : List (List ℕ → Bool)) → Told steps vs → (latches registers : List Bool)
        → KnownFrom latches registers (if b then Reset ∷ step_items o.manner steps else step_items o.manner steps)
        → IsEdgeRun m (if b then initial_registers (net_design o net) else registers) steps vs
        → seen_by see o.manner steps vs ≡ told_from net g latches (if b then Reset ∷ step_items o.manner steps else step_items o.manner steps)
    pulse true steps vs later latches registers known run =
        later (initial_latches net) (initial_registers (net_design o net)) (inl (initial-here o net)) run
    pulse false steps vs later latches registers known run = later latches registers known run

    pub seen-told : (steps : List ClockStep) (vs : List (List ℕ → Bool)) → Told steps vs
    seen-told [] [] latches registers known run = refl
    seen-told [] (v ∷ vs) latches registers known run = absurd run
    seen-told (Edge level given ∷ steps) [] latches registers known run = absurd run
    seen-told (Edge level given ∷ steps) (v ∷ vs) latches registers known run =
        edge (is_active o.manner level) given v steps vs (seen-told steps vs) latches registers known run.0 run.1
    seen-told (Pulse ∷ steps) vs latches registers known run =
        pulse o.manner.is_asynchronous steps vs (seen-told steps vs) latches registers known run

    -- from the start of a run on
    pub told-begun : (registers : List Bool) (steps : List ClockStep) (vs : List (List ℕ → Bool)) → Begins m registers steps → IsEdgeRun m registers steps vs
        → seen_by see o.manner steps vs ≡ told_from net g (initial_latches net) (step_items o.manner steps)
    told-begun registers steps vs (inl reset) run = seen-told steps vs (initial_latches net) registers (inr reset) run
    told-begun registers steps vs (inr begun) run = seen-told steps vs (initial_latches net) registers (inl (begun.1 ∙ initial-here o net)) run

  pub shows-net : (registers : List Bool) (steps : List ClockStep) (vs : List (List ℕ → Bool)) → Begins m registers steps → IsEdgeRun m registers steps vs
      → seen_by (λ v. map v (output_words o net)) o.manner steps vs ≡ map (λ s. s.outputs ++ s.paused ∷ []) (net_run net (step_items o.manner steps))
  shows-net registers steps vs begins run =
      told-begun (λ v. map v (output_words o net)) (λ latches inputs. row net (net_values net latches inputs)) shown-here registers steps vs begins run
      ∙ told-values net (row net) (initial_latches net) (step_items o.manner steps)
      ∙ map-composed (λ (s : Shown). s.outputs ++ s.paused ∷ []) (shown net) (net_values_run net (step_items o.manner steps))

  pub one-run : (registers others : List Bool) (steps : List ClockStep) (us vs : List (List ℕ → Bool)) → Begins m registers steps → Begins m others steps
      → IsEdgeRun m registers steps us → IsEdgeRun m others steps vs
      → seen_by (λ u. map u (driven_names (net_design o net))) o.manner steps us ≡ seen_by (λ v. map v (driven_names (net_design o net))) o.manner steps vs
  one-run registers others steps us vs begins begun run other =
      let see : (List ℕ → Bool) → List Bool = λ v. map v (driven_names (net_design o net)) in
      let g : List Bool → List Bool → List Bool = λ latches inputs. net_values net latches inputs ++ row net (net_values net latches inputs) in
      told-begun see g all-here registers steps us begins run ∙ sym (told-begun see g all-here others steps vs begun other)
