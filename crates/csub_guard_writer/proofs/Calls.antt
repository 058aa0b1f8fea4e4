-- A call of a netlist's guarded program shows what the netlist shows, and runs all assignments but those of skipped gates.
use Rattle.std.proofs.Common.{◌≡◌, ℕ, ◌+◌, ◌-◌, ◌<◌, Bool, false, List, [], ◌∷◌, ◌++◌, length, map, get_or}
use Rattle.std.proofs.Common.{Option, Some, refl, sym, ap, ◌∙◌, subst, arith}
use Rattle.std.specs.Prelude.{All, count_by}
use Rattle.std.proofs.lemmas.List.{length-append, length-map}
use Rattle.std.proofs.lemmas.List.Elements.{All-head, All-tail}
use Rattle.base_types.specs.Items.{Item, Event, Reset, EachEvent}
use Rattle.base_types.specs.Names.{is_same_name}
use Rattle.base_machines.specs.Machines.{run_from}
use Rattle.net_ir.specs.Gates.{value_in}
use Rattle.net_ir.specs.Netlists.{Netlist, first_gate}
use Rattle.net_ir.specs.Numbered.{numbered}
use Rattle.net_ir.specs.Runs.{net_values, initial_latches, next_latches, values_from}
use Rattle.net_ir.specs.Writing.{IsWritable}
use Rattle.net_ir.proofs.Exports.{length-next, length-numbered, value_in-gate_values, Solves-gate_values}
use Rattle.csub_text.specs.Machine.{Memory, with_inputs, first_memory}
use Rattle.csub_text.specs.Written.{gate_name, input_assign, gate_assign, net_body, net_name}
use Rattle.csub_text.proofs.Exports.{Keeps, Shows, Serves, before_gates, behind_gates, inputs-run, behind-shows, gate-new, begins-kept, kept-next, inputs-net}
use Rattle.csub_text.proofs.Exports.{given_variables}
use Rattle.net_expressions.proofs.Exports.{any_gate, any_latch, any_output}
use Rattle.csub_guard.specs.Machine.{Counted, run_pieces, call}
use Rattle.csub_guard.specs.Trees.{One}
use Rattle.csub_guard.proofs.Exports.{plain-run, pieces-append}
use Rattle.csub_guard_blocks.specs.Blocks.{groups, group_piece, head_of, head_name, guarded_program}
use Rattle.csub_guard_blocks.specs.Owners.{Free, owners}
use Rattle.csub_guard_writer.specs.Meaning.{is_skipped}
use Rattle.csub_guard_writer.proofs.BlockRuns.{groups-run}
use Rattle.csub_guard_writer.proofs.GateRuns.{Has, head-net, gates-run, ran-all}
use Rattle.csub_guard_writer.proofs.OwnerFits.{HeadsFit, many, fits, head-facts, latch-shown, output-shown, paused-shown}

module _ (net : Netlist) (is : IsWritable net) (region : ℕ → Option ℕ) (heads : HeadsFit net region) where
  abbrev pub QuietGates : List Bool → Type 0
  QuietGates values = (k h : ℕ) → k < length net.gates → region k ≡ Some h → value_in values (first_gate net + h) ≡ false
      → value_in values (first_gate net + k) ≡ false

  -- what a call leaves
  pub record Called (values : List Bool) (c : Counted) : Type 0 where
    pub shows : Shows net values c.memory
    pub count : c.count ≡ length (net_body net) - count_by (is_skipped net values) (owners net region)

  pub call_does : (latches inputs : List Bool) (m : Memory) → length latches ≡ length net.latches → length inputs ≡ length net.inputs → Keeps net m latches
      → QuietGates (net_values net latches inputs) → Called (net_values net latches inputs) (call (guarded_program net (owners net region)) inputs m)
  call_does latches inputs m wide_l wide_i keeps quiet =
      let os = owners net region in
      let values = net_values net latches inputs in
      let b1 = before_gates net in
      let bh = behind_gates net in
      let blocks = map (group_piece net) (groups 0 net.gates os) in
      let c0 : Counted = record { memory = with_inputs (given_variables net) inputs m; count = 0 } in
      let c1 = run_pieces (map One b1) c0 in
      let c2 = run_pieces blocks c1 in
      let c3 = run_pieces (map One bh) c2 in
      let first = plain-run b1 c0 in
      let last = plain-run bh c2 in
      let whole : call (guarded_program net os) inputs m ≡ c3
      = ap (λ names. run_pieces (guarded_program net os).body (record { memory = with_inputs names inputs m; count = 0 })) (inputs-net net)
      ∙ pieces-append (map One b1) (blocks ++ map One bh) c0 ∙ pieces-append blocks (map One bh) c1 in
      let joined = length-append inputs latches in
      let has1 : Has net is os values (first_gate net + 0) c1.memory = λ i low seen.
      let below : i < first_gate net = omega (arith, low) in
      ap (λ f. f (net_name net i)) first.memory ∙ inputs-run net is latches inputs m wide_l wide_i keeps i below
      ∙ sym (value_in-gate_values (inputs ++ latches) net.gates i (omega (arith, below, joined, wide_l, wide_i))) in
      let apart : (i h : ℕ) → i < length net.gates → head_of (get_or os i Free) ≡ Some h
      → is_same_name (head_name net h) (gate_name (0 + i) (get_or net.gates i any_gate).wire) ≡ false = λ i h low e.
      let head = head-facts net is region heads i h e in
      let z : 0 + i ≡ i = omega arith in
      ap (λ n. is_same_name (head_name net h) (gate_name n (get_or net.gates i any_gate).wire)) z
      ∙ ap (λ x. is_same_name x (gate_name i (get_or net.gates i any_gate).wire)) (sym (head-net net h (omega (arith, head.0, low))))
      ∙ gate-new net is i (first_gate net + h) low (omega (arith, head.0)) in
      let solves = Solves-gate_values (first_gate net) (inputs ++ latches) net.gates (omega (arith, joined, wide_l, wide_i)) is.is_net.reads_lower in
      let fit = fits net is region heads values quiet in
      let wide = many net is region heads in
      let same : (k : ℕ) → k < length net.gates → get_or net.gates k any_gate ≡ get_or net.gates (0 + k) any_gate = λ k low.
      let z : k ≡ 0 + k = omega arith in ap (λ j. get_or net.gates j any_gate) z in
      let own : (k : ℕ) → k < length net.gates → get_or os k Free ≡ get_or os (0 + k) Free = λ k low.
      let z : k ≡ 0 + k = omega arith in ap (λ j. get_or os j Free) z in
      let ran = gates-run net is os values fit solves 0 net.gates os c1 wide (omega arith) same own has1 in
      let run = groups-run net 0 net.gates os c1 apart in
      let has2 : Has net is os values (first_gate net + length net.gates) c2.memory
      = subst (λ c. Has net is os values (first_gate net + length net.gates) c.memory) (sym run) ran.memory in
      let serves : Serves net values c2.memory = record {
        latches = λ j low. has2 (get_or net.latches j any_latch).from.0 (is.is_net.latches_in_range j any_latch low)
            (latch-shown net is region heads values quiet j low);
        outputs = λ j low. has2 (get_or net.outputs j any_output).net.0 (is.is_net.outputs_in_range j any_output low)
            (output-shown net is region heads values quiet j low);
        answer = has2 net.paused is.is_net.paused_in_range (paused-shown net is region heads values quiet);
      } in
      let n1 = length-numbered input_assign 0 net.inputs in
      let n2 = length-numbered (gate_assign net) 0 net.gates in
      let all = length-append b1 (numbered (gate_assign net) 0 net.gates ++ bh) in
      let later = length-append (numbered (gate_assign net) 0 net.gates) bh in
      let count2 : c2.count ≡ c1.count + _ = ap (λ (c : Counted). c.count) run ∙ ran.count in
      record {
        shows = subst (λ (c : Counted). Shows net values c.memory) (sym whole)
            (subst (Shows net values) (sym last.memory) (behind-shows net is values c2.memory serves));
        count = ap (λ (c : Counted). c.count) whole
            ∙ omega (arith, first.count, last.count, count2, all, later, n2, wide, ran-all net is os values fit solves os);
      }

  -- ---- over items

  abbrev pub calls_from : Memory → List Item → List Counted
  calls_from m items =
      run_from (first_memory (guarded_program net (owners net region)).states) (λ m inputs. call (guarded_program net (owners net region)) inputs m)
      (λ m inputs behind. behind.memory) m items

  -- what is so behind every call of the values of its nets is so of all calls
  pub runs-called : {X : Type 0} (f : Counted → X) (g : List Bool → X) → ((values : List Bool) (c : Counted) → Called values c → f c ≡ g values)
      → (items : List Item) (latches : List Bool) (m : Memory) → length latches ≡ length net.latches → Keeps net m latches
      → EachEvent (λ inputs. length inputs ≡ length net.inputs) items → All QuietGates (values_from net latches items)
      → map f (calls_from m items) ≡ map g (values_from net latches items)
  runs-called f g each [] latches m wide keeps widths quiet = refl
  runs-called f g each (Event inputs ∷ items) latches m wide keeps widths quiet =
      let os = owners net region in
      let values = net_values net latches inputs in
      let here = call_does latches inputs m wide widths.0 keeps (All-head QuietGates values _ quiet) in
      let behind = call (guarded_program net os) inputs m in
      let later = runs-called f g each items (next_latches net values) behind.memory (length-next net values)
      (kept-next net values behind.memory here.shows) widths.1 (All-tail QuietGates values _ quiet) in
      ap (λ x. x ∷ map f (calls_from behind.memory items)) (each values behind here) ∙ ap (λ l. g values ∷ l) later
  runs-called f g each (Reset ∷ items) latches m wide keeps widths quiet =
      runs-called f g each items (initial_latches net) (first_memory (guarded_program net (owners net region)).states)
      (length-map net.latches (λ l. l.init)) (begins-kept net is) widths quiet
