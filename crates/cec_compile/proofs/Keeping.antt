-- The netlist of a program's graph keeps what the program means, and so do the texts that are written of it.
use Rattle.std.proofs.Common.{◌≡◌, ℕ, ◌-◌, ◌≤◌, ◌==◌, Bool, false, List, [], ◌∷◌, ◌++◌, map, length, take, get_or, Some, refl, sym, ap, ap₂, ◌∙◌, subst}
use Rattle.std.proofs.Common.{arith}
use Rattle.std.proofs.lemmas.List.{length-take, length-append, map-append}
use Rattle.std.proofs.lemmas.Simd.{map-map}
use Rattle.std.proofs.Math.Seq.{take-append_seam, get_or-append_seam}
use Rattle.base_types.specs.Items.{Item, Event, Reset, EachEvent}
use Rattle.est_kernel.specs.Plain.{Program, given_count, given_names, outgoing_names}
use Rattle.est_kernel.specs.Reactions.{Answer, run_of}
use Rattle.base_machines.proofs.Exports.{shows-computed}
use Rattle.est_kernel.specs.WellFormed as programs
use Rattle.est_kernel.specs.WellFormed.{IsWellFormed}
use Rattle.grc_graph.specs.declared.graph.Graph.{Graph}
use Rattle.grc_graph.specs.GraphRuns.{PlainGraph, shown}
use Rattle.grc_graph.specs.PlainGraphs.{plain_graph}
use Rattle.grc_graph.specs.Readings.{Valuation}
use Rattle.grc_graph.specs.Walk.{Initial}
use Rattle.grc_solutions_laws.specs.GraphWalks.{shown_answer}
use Rattle.grc_solutions_laws.proofs.Exports.{program_kernel}
use Rattle.grc_solutions.proofs.Exports.{graph_runs_exist_lem}
use Rattle.net_gen.specs.Generated.{HasInterfaceOf, FollowsRuns, shown_as}
use Rattle.net_ir.specs.declared.netlist.NetOut.{NetOut}
use Rattle.net_ir.specs.Netlists.{Netlist}
use Rattle.net_ir.specs.Runs.{Shown}
use Rattle.blif_text.specs.Runs.{IsCircuitRun}
use Rattle.blif_text.specs.Written.{Means, output_word, paused_word}
use Rattle.csub_text.specs.Machine as c_machine
use Rattle.csub_text.specs.Written as meant
use Rattle.csub_text.specs.Written.{input_variable, output_variable, shown_by_call}
use Rattle.vlog_text.specs.Written as v_meant
use Rattle.vlog_text.specs.Written.{input_name, output_name}
use Rattle.std.specs.Prelude.{codes}
use Rattle.cec_compile.specs.Cycles.{IsAcyclic}
use Rattle.cec_compile.specs.Meaning.{AreItems, Seen, seen_of, outgoing_words, circuit_seen, TextKeeps, call_seen, CTextKeeps}
use Rattle.cec_compile.specs.Meaning.{output_wires, VerilogTextKeeps}
use Rattle.cec_compile.specs.NetMeaning.{net_seen, NetKeeps}
use Rattle.cec_compile.proofs.GraphsRead.{ReadsIn}

-- each event has a truth value per given signal
pub widths : (p : Program) (n : ℕ) → given_count p ≡ n → (items : List Item) → AreItems p items → EachEvent (λ event. length event ≡ n) items
widths p n is [] fits = tt
widths p n is (Event event ∷ items) fits = (fits.0.wide ∙ is, widths p n is items fits.1)
widths p n is (Reset ∷ items) fits = widths p n is items fits

-- what is seen of an answer is what a netlist shows that follows it
seen-shown : (answers : List Answer) → map shown_as (map shown_answer answers) ≡ map net_seen answers
seen-shown [] = refl
seen-shown (a ∷ answers) = ap (λ l. net_seen a ∷ l) (seen-shown answers)

shown-all : (g : PlainGraph) (Vs : List Valuation) → map (λ V. shown_as (shown g V)) Vs ≡ map shown_as (map (λ V. shown g V) Vs)
shown-all g [] = refl
shown-all g (V ∷ Vs) = ap (λ l. shown_as (shown g V) ∷ l) (shown-all g Vs)

-- A netlist that has the interface of a program's graph, own or shared, and follows its runs keeps what the program
-- means, where the dependencies have no cycle.
pub net_keeps : {shared : Bool} (g : Graph) (p : Program) (net : Netlist) → IsWellFormed p → programs.IsKernel p.body → ReadsIn shared g p → IsAcyclic p
    → HasInterfaceOf g net → FollowsRuns g net → NetKeeps net p
net_keeps g p net formed kernel reads acyclic interface follows = record {
  name = interface.name ∙ ap (λ q. q.name) reads.states.program;
  inputs = interface.inputs ∙ ap given_names reads.states.program;
  outputs = interface.outputs ∙ ap outgoing_names reads.states.program;
  runs = λ items fits.
      let wide = widths p (given_count p) refl items fits in
      let one = graph_runs_exist_lem p acyclic.rank (program_kernel p formed kernel) acyclic.up Initial items in
      let run = one.0.1 in
      let found = reads.answers items one.0.0 wide run in
      let followed =
      follows items (map reads.read one.0.0) (subst (λ q. EachEvent (λ event. length event ≡ given_count q) items) (sym reads.states.program) wide)
      (reads.runs items one.0.0 wide run) in (
        found.0,
        found.1,
        followed.shows ∙ shown-all (plain_graph g) (map reads.read one.0.0) ∙ ap (map shown_as) (sym found.2) ∙ seen-shown found.0,
      );
}

-- ---- BLIF texts

map-words : (inputs : List (List ℕ)) (outputs : List NetOut) → map (λ o. output_word inputs o.name) outputs ≡
    map (output_word inputs) (map (λ o. o.name) outputs)
map-words inputs [] = refl
map-words inputs (o ∷ outputs) = ap (λ l. output_word inputs o.name ∷ l) (map-words inputs outputs)

-- what is seen of a row of values, of which the last is that of `_paused`
abbrev row_seen : List Bool → Seen
row_seen row = record { outputs = take (length row - 1) row; paused = get_or row (length row - 1) false }

row-seen : (outputs : List Bool) (paused : Bool) → row_seen (outputs ++ paused ∷ []) ≡ record { outputs = outputs; paused = paused }
row-seen outputs paused =
    let place : length (outputs ++ paused ∷ []) - 1 ≡ length outputs = omega (arith, length-append outputs (paused ∷ [])) in
    let first : take (length (outputs ++ paused ∷ []) - 1) (outputs ++ paused ∷ []) ≡ outputs =
    ap (λ k. take k (outputs ++ paused ∷ [])) place ∙ take-append_seam outputs (paused ∷ []) in
    let last : get_or (outputs ++ paused ∷ []) (length (outputs ++ paused ∷ []) - 1) false ≡ paused =
    ap (λ k. get_or (outputs ++ paused ∷ []) k false) place ∙ get_or-append_seam outputs paused [] false in
    rw (first, last) refl

-- what is seen by these names
abbrev names_seen : List (List ℕ) → List ℕ → (List ℕ → Bool) → Seen
names_seen names last v = record { outputs = map v names; paused = v last }

-- the rows of a run, as what is seen
rows-names : (names : List (List ℕ)) (last : List ℕ) (vs : List (List ℕ → Bool)) → map row_seen (map (λ v. map v (names ++ last ∷ [])) vs)
    ≡ map (names_seen names last) vs
rows-names names last [] = refl
rows-names names last (v ∷ vs) =
    ap (λ s. s ∷ map row_seen (map (λ w. map w (names ++ last ∷ [])) vs))
    (ap row_seen (map-append v names (last ∷ [])) ∙ row-seen (map v names) (v last))
    ∙ ap (λ l. names_seen names last v ∷ l) (rows-names names last vs)

rows-answers : (answers : List Answer) → map row_seen (map (λ (s : Shown). s.outputs ++ s.paused ∷ []) (map net_seen answers)) ≡ map seen_of answers
rows-answers [] = refl
rows-answers (a ∷ answers) =
    ap (λ s. s ∷ map row_seen (map (λ (s : Shown). s.outputs ++ s.paused ∷ []) (map net_seen answers))) (row-seen a.outputs (a.code == 1))
    ∙ ap (λ l. seen_of a ∷ l) (rows-answers answers)

-- a text that means a net which keeps what a program means keeps it too
pub text_keeps : (text : List ℕ) (net : Netlist) (p : Program) → given_count p ≤ length p.signals → NetKeeps net p → Means text net → TextKeeps text p
text_keeps text net p few keeps means =
    let outputs : means.circuit.outputs ≡ outgoing_words p ++ paused_word ∷ [] = means.outputs
    ∙ ap (λ l. l ++ paused_word ∷ []) (map-words net.inputs net.outputs ∙ ap₂ (λ i o. map (output_word i) o) keeps.inputs keeps.outputs) in
    record {
      circuit = means.circuit;
      reads = means.reads;
      name = means.name ∙ keeps.name;
      inputs = means.inputs ∙ keeps.inputs;
      outputs = outputs;
      keeps = record {
        runs = λ items fits.
            let found = keeps.runs items fits in
            let wide : given_count p ≡ length net.inputs = sym (ap length keeps.inputs ∙ omega (arith, length-take (given_count p) p.signals)) in (
              found.0,
              found.1,
              record {
                some_run = means.runs items (widths p (length net.inputs) wide items fits);
                each_run = λ vs run.
                    sym (rows-answers found.0) ∙ ap (λ l. map row_seen (map (λ (s : Shown). s.outputs ++ s.paused ∷ []) l)) (sym found.2)
                    ∙ ap (map row_seen) (sym (means.shows items vs run)) ∙ ap (λ o. map row_seen (map (λ v. map v o) vs)) outputs
                    ∙ rows-names (outgoing_words p) paused_word vs;
              },
            );
      };
      one_run = λ items fits. means.one_run items;
    }

-- each row of a run has the values of the answer: the outgoing signals, and then whether the code is 1
pub rows_told : (text : List ℕ) (p : Program) → (keeps : TextKeeps text p) → (items : List Item) → AreItems p items → (vs : List (List ℕ → Bool))
    → IsCircuitRun keeps.circuit items vs → (answers : List Answer) × (run_of p items ≡ Some answers)
    × (map (λ v. map v keeps.circuit.outputs) vs ≡ map (λ a. a.outputs ++ (a.code == 1) ∷ []) answers)
rows_told text p keeps items fits vs run =
    let found = keeps.keeps.runs items fits in
    let seen = found.2.each_run vs run in (
      found.0,
      found.1,
      ap (λ o. map (λ v. map v o) vs) keeps.outputs ∙ circuit-rows p vs ∙ ap (map (λ (s : Seen). s.outputs ++ s.paused ∷ [])) (sym seen)
          ∙ answers-rows found.0,
    )
  where
    circuit-rows : (q : Program) (us : List (List ℕ → Bool)) → map (λ v. map v (outgoing_words q ++ paused_word ∷ [])) us
        ≡ map (λ (s : Seen). s.outputs ++ s.paused ∷ []) (map (circuit_seen q) us)
    circuit-rows q [] = refl
    circuit-rows q (u ∷ us) =
        ap (λ r. r ∷ map (λ v. map v (outgoing_words q ++ paused_word ∷ [])) us) (map-append u (outgoing_words q) (paused_word ∷ []))
        ∙ ap (λ l. (map u (outgoing_words q) ++ u paused_word ∷ []) ∷ l) (circuit-rows q us)

    answers-rows : (answers : List Answer) → map (λ (s : Seen). s.outputs ++ s.paused ∷ []) (map seen_of answers)
        ≡ map (λ a. a.outputs ++ (a.code == 1) ∷ []) answers
    answers-rows [] = refl
    answers-rows (a ∷ answers) = ap (λ l. (a.outputs ++ (a.code == 1) ∷ []) ∷ l) (answers-rows answers)

-- ---- the C text

pub map-variables : (outputs : List NetOut) → map output_variable outputs ≡ map (λ name. codes "O_" ++ name) (map (λ o. o.name) outputs)
map-variables [] = refl
map-variables (o ∷ outputs) = ap (λ l. (codes "O_" ++ o.name) ∷ l) (map-variables outputs)

-- what is seen of a call
abbrev pub called : c_machine.SeenCall → Seen
called s = record { outputs = s.outputs; paused = s.answer }

pub calls-seen : (answers : List Answer) → map called (map shown_by_call (map net_seen answers)) ≡ map seen_of answers
calls-seen [] = refl
calls-seen (a ∷ answers) = ap (λ l. seen_of a ∷ l) (calls-seen answers)

-- a C text that means a net which keeps what a program means keeps it too
pub c_text_keeps : (text : List ℕ) (net : Netlist) (p : Program) → given_count p ≤ length p.signals → NetKeeps net p → meant.Means text net
    → CTextKeeps text p
c_text_keeps text net p few keeps means = record {
  program = means.program;
  describes = means.describes;
  inputs = means.inputs ∙ ap (map input_variable) keeps.inputs;
  outputs = means.outputs ∙ map-variables net.outputs ∙ ap (map (λ name. codes "O_" ++ name)) keeps.outputs;
  keeps = record {
    runs = λ items fits.
        let c = means.program in
        let found = keeps.runs items fits in
        let wide : given_count p ≡ length net.inputs = sym (ap length keeps.inputs ∙ omega (arith, length-take (given_count p) p.signals)) in
        let calls = means.shows items (widths p (length net.inputs) wide items fits) in
        let told = sym (calls-seen found.0) ∙ ap (λ l. map called (map shown_by_call l)) (sym found.2) ∙ ap (map called) (sym calls)
        ∙ map-map called (c_machine.seen c) (c_machine.memories c items) in
        let all = shows-computed (c_machine.first_memory c.states) (λ m inputs. c_machine.call c inputs m) (λ m inputs behind. behind) (call_seen c)
        (c_machine.first_memory c.states) items in (
          found.0,
          found.1,
          record { some_run = all.some_run; each_run = λ ms run. told ∙ all.each_run ms run },
        );
  };
}

-- ---- the Verilog text

map-wires : (outputs : List NetOut) → map output_name outputs ≡ map (λ name. codes "o_" ++ name) (map (λ o. o.name) outputs)
map-wires [] = refl
map-wires (o ∷ outputs) = ap (λ l. (codes "o_" ++ o.name) ∷ l) (map-wires outputs)

-- a Verilog text that means a net which keeps what a program means keeps it too
pub verilog_text_keeps : (text : List ℕ) (net : Netlist) (p : Program) → given_count p ≤ length p.signals → NetKeeps net p → v_meant.Means text net
    → VerilogTextKeeps text p
verilog_text_keeps text net p few keeps means =
    let outputs : means.design.outputs ≡ output_wires p ++ codes "paused" ∷ [] = means.outputs
    ∙ ap (λ l. l ++ codes "paused" ∷ []) (map-wires net.outputs ∙ ap (map (λ name. codes "o_" ++ name)) keeps.outputs) in
    record {
      design = means.design;
      describes = means.describes;
      name = means.name ∙ ap (λ name. codes "m_" ++ name) keeps.name;
      inputs = means.inputs ∙ ap (λ names. codes "clk" ∷ map input_name names) keeps.inputs;
      outputs = outputs;
      keeps = record {
        runs = λ items fits.
            let found = keeps.runs items fits in
            let wide : given_count p ≡ length net.inputs = sym (ap length keeps.inputs ∙ omega (arith, length-take (given_count p) p.signals)) in (
              found.0,
              found.1,
              record {
                some_run = means.runs items (widths p (length net.inputs) wide items fits);
                each_run = λ vs run.
                    sym (rows-answers found.0) ∙ ap (λ l. map row_seen (map (λ (s : Shown). s.outputs ++ s.paused ∷ []) l)) (sym found.2)
                    ∙ ap (map row_seen) (sym (means.shows items vs run)) ∙ ap (λ o. map row_seen (map (λ v. map v o) vs)) outputs
                    ∙ rows-names (output_wires p) (codes "paused") vs;
              },
            );
      };
      one_run = λ items fits. means.one_run items;
    }
