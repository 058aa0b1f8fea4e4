-- What a call of a net's component leaves: the values of the nets.
use Rattle.std.proofs.Common.{◌≡◌, ℕ, ◌+◌, ◌-◌, ◌<◌, Bool, false, List, [], ◌∷◌, ◌++◌, length, map, get_or, refl, sym, ap}
use Rattle.std.proofs.Common.{◌∙◌, subst, arith, inl, inr}
use Rattle.std.proofs.lemmas.Bool.{cases_lt}
use Rattle.std.proofs.lemmas.List.{length-append, length-map, get_or-map, get_or_append_left, get_or-append-add}
use Rattle.base_facts.proofs.Lists.{map-composed}
use Rattle.base_types.specs.Distinct.{all_differ}
use Rattle.base_types.specs.Names.{is_same_name}
use Rattle.net_ir.specs.Gates.{value_in}
use Rattle.net_ir.specs.NameLists.{is_among}
use Rattle.net_ir.specs.Netlists.{Netlist, first_gate, net_count, output_names}
use Rattle.net_ir.specs.Numbered.{numbered}
use Rattle.net_ir.specs.Runs.{net_values}
use Rattle.net_ir.specs.Writing.{IsWritable}
use Rattle.net_ir.proofs.Exports.{get_or-numbered, length-numbered, map-numbered, net_cases}
use Rattle.net_expressions.proofs.Exports.{any_gate, any_latch, any_output}
use Rattle.csub_text.specs.Machine.{Memory}
use Rattle.csub_embed.specs.Machine.{Frame, place_value, run_locals, run_shown, run_kept, run_body, with_given}
use Rattle.csub_embed.specs.Names.{name_of_local}
use Rattle.csub_embed.specs.Trees.{Local, LocalValue, Transfer}
use Rattle.csub_embed.specs.Written.{state_word, gate_word, next_word, running_word, place_of, gate_local, next_local, running_local, output_store, state_store}
use Rattle.csub_embed.specs.Written.{net_locals, net_component}
use Rattle.csub_embed.proofs.Frames.{Past, place-past, locals-append, local-other, locals-copy, members, shown-place, shown-set, kept-shown, kept-local}
use Rattle.csub_embed.proofs.Frames.{kept-set}
use Rattle.csub_embed.proofs.Frames.{given-at}
use Rattle.csub_embed.proofs.NetFrames.{Has, gates-run, place-input, place-state, place-gate}
use Rattle.csub_embed.proofs.NetNames.{next_words, state_words, differ-nexts, differ-states, gate-no_next}

-- the state of an instance has the values of the latches
abbrev pub Keeps : Netlist → Memory → List Bool → Type 0
Keeps net m latches = (j : ℕ) → j < length net.latches → m (state_word j) ≡ get_or latches j false

-- what a call leaves for the next one and shows
pub record Leaves (net : Netlist) (values : List Bool) (f : Frame) : Type 0 where
  pub states : (j : ℕ) → j < length net.latches → f.state (state_word j) ≡ value_in values (get_or net.latches j any_latch).from.0
  pub outputs : (k : ℕ) → k < length net.outputs → f.shown (get_or net.outputs k any_output).name ≡ value_in values (get_or net.outputs k any_output).net.0
  pub answer : f.local running_word ≡ value_in values net.paused

abbrev nexts : Netlist → List LocalValue
nexts net = numbered (next_local net) 0 net.latches

next_names : (net : Netlist) → map name_of_local (nexts net) ≡ next_words net
next_names net = map-numbered name_of_local (next_local net) 0 net.latches

-- the places of nets keep their values behind the locals that follow those of the gates
past-nexts : (net : Netlist) (n : ℕ) → n < net_count net → Past (nexts net) (place_of net n)
past-nexts net n h = net_cases net n h
    (λ low. subst (Past (nexts net)) (sym (place-input net n low)) tt)
    (λ j low e. subst (Past (nexts net)) (sym (ap (place_of net) e ∙ place-state net j low)) tt)
    (λ k low e. subst (Past (nexts net)) (sym (ap (place_of net) e ∙ place-gate net k low)) (ap (is_among (gate_word k)) (next_names net) ∙ gate-no_next net k))

past-running : (net : Netlist) (n : ℕ) → n < net_count net → Past (running_local net ∷ []) (place_of net n)
past-running net n h = net_cases net n h
    (λ low. subst (Past (running_local net ∷ [])) (sym (place-input net n low)) tt)
    (λ j low e. subst (Past (running_local net ∷ [])) (sym (ap (place_of net) e ∙ place-state net j low)) tt)
    (λ k low e. subst (Past (running_local net ∷ [])) (sym (ap (place_of net) e ∙ place-gate net k low)) refl)

-- the inputs and the states before the gates
has-first : (net : Netlist) → IsWritable net → (latches inputs : List Bool) (f : Frame) (m : Memory) → length latches ≡ length net.latches
    → length inputs ≡ length net.inputs → Keeps net f.state latches → f.given ≡ with_given net.inputs inputs m
    → Has net (first_gate net) f (inputs ++ latches)
has-first net is latches inputs f m wide_l wide_i keeps given i h = elim (cases_lt i (length net.inputs)) [
  | inl low ↦
      ap (place_value f) (place-input net i low) ∙ ap (λ g. g (get_or net.inputs i [])) given
      ∙ given-at net.inputs inputs m is.is_net.inputs_differ wide_i i low
      ∙ sym (get_or_append_left inputs latches false i (omega arith))
  | inr high ↦
      let j = i - length net.inputs in
      let e : i ≡ length net.inputs + j = omega arith in
      let g : i ≡ length inputs + j = omega arith in
      ap (place_value f) (ap (place_of net) e ∙ place-state net j (omega arith)) ∙ keeps j (omega arith)
      ∙ sym (get_or-append-add inputs latches j false) ∙ ap (λ k. get_or (inputs ++ latches) k false) (sym g)
]

pub call-leaves : (net : Netlist) → IsWritable net → (latches inputs : List Bool) (f : Frame) (m : Memory) → length latches ≡ length net.latches
    → length inputs ≡ length net.inputs → Keeps net f.state latches → f.given ≡ with_given net.inputs inputs m
    → Leaves net (net_values net latches inputs) (run_body (net_component net) f)
call-leaves net is latches inputs f m wide_l wide_i keeps given =
    let values = net_values net latches inputs in
    let gates = numbered (gate_local net) 0 net.gates in
    let running = running_local net ∷ [] in
    let shown = map (output_store net) net.outputs in
    let kept = numbered state_store 0 net.latches in
    let f1 = run_locals gates f in
    let f2 = run_locals (nexts net) f1 in
    let f3 = run_locals running f2 in
    let f4 = run_shown shown f3 in
    let f5 = run_kept kept f4 in
    let whole : run_locals (net_locals net) f ≡ f3 = locals-append gates (nexts net ++ running) f ∙ locals-append (nexts net) running f1 in
    let body : run_body (net_component net) f ≡ f5 = ap (λ g. run_kept kept (run_shown shown g)) whole in
    let joined = length-append inputs latches in
    let has1 : Has net (net_count net) f1 values = λ i h.
    gates-run net is 0 net.gates f (inputs ++ latches) (λ k low. let z : k ≡ 0 + k = omega arith in ap (λ n. get_or net.gates n any_gate) z) (omega arith)
    (omega arith) (λ i low. has-first net is latches inputs f m wide_l wide_i keeps given i (omega arith)) i (omega arith) in
    let has3 : Has net (net_count net) f3 values = λ i h.
    place-past running f2 (place_of net i) (past-running net i h) ∙ place-past (nexts net) f1 (place_of net i) (past-nexts net i h) ∙ has1 i h in
    let d : LocalValue = running_local net in
    let n2 = length-numbered (next_local net) 0 net.latches in
    let next3 : (j : ℕ) → j < length net.latches → f3.local (next_word j) ≡ value_in values (get_or net.latches j any_latch).from.0 = λ j h.
    let z : 0 + j ≡ j = omega arith in
    let latch = get_or net.latches j any_latch in
    let range = is.is_net.latches_in_range j any_latch h in
    let at : get_or (nexts net) j d ≡ next_local net j latch = get_or-numbered (next_local net) 0 net.latches j d any_latch h
    ∙ ap (λ k. next_local net k latch) z in
    local-other running f2 (next_word j) refl
    ∙ ap (λ (l : LocalValue). f2.local l.name) (sym at)
    ∙ locals-copy (nexts net) f1 (ap (all_differ is_same_name) (next_names net) ∙ differ-nexts net is) j d (place_of net latch.from.0) (omega arith)
    (ap (λ (l : LocalValue). l.value) at) (past-nexts net latch.from.0 range)
    ∙ has1 latch.from.0 range in
    let e : Transfer = record { member = []; from = Local [] } in
    let n4 = length-map net.outputs (output_store net) in
    let n5 = length-numbered state_store 0 net.latches in
    let t4 : members shown ≡ output_names net = sym (map-composed (λ (s : Transfer). s.member) (output_store net) net.outputs) in
    let t5 : members kept ≡ state_words net = map-numbered (λ (s : Transfer). s.member) state_store 0 net.latches in
    record {
      states = λ j h.
          let z : 0 + j ≡ j = omega arith in
          let latch = get_or net.latches j any_latch in
          let at : get_or kept j e ≡ state_store j latch = get_or-numbered state_store 0 net.latches j e any_latch h ∙ ap (λ k. state_store k latch) z in
          ap (λ (g : Frame). g.state (state_word j)) body ∙ ap (λ (s : Transfer). f5.state s.member) (sym at)
          ∙ kept-set kept f4 (ap (all_differ is_same_name) t5 ∙ differ-states net is) j e (next_word j) (omega arith) (ap (λ (s : Transfer). s.from) at)
          ∙ shown-place shown f3 (Local (next_word j)) ∙ next3 j h;
      outputs = λ k h.
          let output = get_or net.outputs k any_output in
          let range = is.is_net.outputs_in_range k any_output h in
          let at : get_or shown k e ≡ output_store net output = get_or-map (output_store net) net.outputs k any_output e h in
          ap (λ (g : Frame). g.shown output.name) body ∙ ap (λ g. g output.name) (kept-shown kept f4) ∙ ap (λ (s : Transfer). f4.shown s.member) (sym at)
          ∙ shown-set shown f3 (ap (all_differ is_same_name) t4 ∙ is.is_net.outputs_differ) k e (omega arith)
          ∙ ap (λ (s : Transfer). place_value f3 s.from) at ∙ has3 output.net.0 range;
      answer =
          ap (λ (g : Frame). g.local running_word) body ∙ ap (λ g. g running_word) (kept-local kept f4) ∙ shown-place shown f3 (Local running_word)
          ∙ locals-copy running f2 refl 0 d (place_of net net.paused) (omega arith) refl (past-running net net.paused is.is_net.paused_in_range)
          ∙ place-past (nexts net) f1 (place_of net net.paused) (past-nexts net net.paused is.is_net.paused_in_range)
          ∙ has1 net.paused is.is_net.paused_in_range;
    }
