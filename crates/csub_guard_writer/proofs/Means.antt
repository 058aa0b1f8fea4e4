-- The guarded text of a netlist means it.
use Rattle.std.proofs.Common.{◌≡◌, ℕ, zero, suc, ◌+◌, ◌-◌, ◌<◌, ◌≤◌, ◌^◌, Bool, true, false, List, [], ◌∷◌, ◌++◌, length, map, get_or, All}
use Rattle.std.proofs.Common.{Option, Some, None, refl, sym, ap, ◌∙◌, subst, arith}
use Rattle.std.specs.Prelude.{codes, decimal, filter, if◌then◌else◌}
use Rattle.std.proofs.lemmas.List.{length-map}
use Rattle.std.proofs.lemmas.List.Elements.{All-append, All-map, All-weaker}
use Rattle.base_facts.proofs.Lists.{map-composed}
use Rattle.base_types.specs.declared.indices.WireId.{WireId}
use Rattle.base_types.specs.Items.{Item}
use Rattle.net_ir.specs.declared.netlist.Gate.{Gate}
use Rattle.net_ir.specs.Netlists.{Netlist, first_gate, net_count}
use Rattle.net_ir.specs.Numbered.{numbered}
use Rattle.net_ir.specs.Runs.{initial_latches, net_values_run, shown}
use Rattle.net_ir.specs.Writing.{IsWritable}
use Rattle.net_ir.proofs.Exports.{All-numbered, net_cases}
use Rattle.net_expressions.proofs.Exports.{any_gate, any_latch, any_output, gate-low, op-names, digits-decimal, no-word}
use Rattle.csub_text.specs.Trees.{Assign}
use Rattle.csub_text.specs.Machine.{first_memory}
use Rattle.csub_text.specs.Written.{answer_name, gate_name, gate_assign, input_name, state_name, next_name, input_variable, output_variable, net_state}
use Rattle.csub_text.specs.Written.{net_body}
use Rattle.csub_text.specs.Written.{gate_names, net_name, shown_by_call}
use Rattle.csub_text.proofs.Exports.{IsVariable, before_gates, behind_gates, IsReadable, assigns-readable, framed-net, begins-kept, seen-net, inputs-net}
use Rattle.csub_text.proofs.Exports.{outputs-net, net-variable, EachAssign, each-assign, declared_once, net_name-input, net_name-state, net_name-gate}
use Rattle.csub_guard.specs.Machine.{seen}
use Rattle.csub_guard.specs.Names.{name_fault}
use Rattle.csub_guard.specs.Texts.{Describes}
use Rattle.csub_guard.specs.Trees.{Piece, One, If, Program}
use Rattle.csub_guard_blocks.specs.Blocks.{Member, Group, Single, Run, groups, group_piece, member_assign, zero_assign, head_name, guarded_program}
use Rattle.csub_guard_blocks.specs.Blocks.{guarded_text}
use Rattle.csub_guard_blocks.specs.Owners.{Owner, Free, owners}
use Rattle.csub_guard_blocks.specs.Resting.{AreAtRest}
use Rattle.csub_guard_writer.specs.Meaning.{GuardedMeans, skipped}
use Rattle.csub_guard_writer.specs.Regions.{region_by}
use Rattle.csub_guard_writer.proofs.Calls.{QuietGates, runs-called}
use Rattle.csub_guard_writer.proofs.Declared.{none-undeclared, all-parts, first-head}
use Rattle.csub_guard_writer.proofs.Described.{AreMembers, AreGroups, gate_count, groups-all, count-groups}
use Rattle.csub_guard_writer.proofs.GateRegions.{heads-fit, quiet-gates}
use Rattle.csub_guard_writer.proofs.GateRuns.{head-net}
use Rattle.csub_guard_writer.proofs.OwnerFits.{HeadsFit, many, head-facts}
use Rattle.csub_guard_writer.proofs.Spelled.{NoWord, Wordless, WordlessPiece, Readable, IsSpelled, written_program, meant-written, spells-text, nesting-text}
use Rattle.csub_guard_writer.proofs.TopNames.{none-again, none-unset}

-- ---- names that are no words

no-input : (j : ℕ) → j < 2 ^ 64 → NoWord (input_name j)
no-input j small = record { no_if = no-word (decimal j) (codes "f") (digits-decimal j small) refl; no_else = refl }

no-state : (j : ℕ) → NoWord (state_name j)
no-state j = record { no_if = refl; no_else = refl }

no-next : (j : ℕ) → NoWord (next_name j)
no-next j = record { no_if = refl; no_else = refl }

no-gate : (k : ℕ) (wire : Option WireId) → NoWord (gate_name k wire)
no-gate k None = record { no_if = refl; no_else = refl }
no-gate k (Some w) = record { no_if = refl; no_else = refl }

no-net : (net : Netlist) → IsWritable net → (n : ℕ) → n < net_count net → NoWord (net_name net n)
no-net net is n h =
    let few = is.is_net.numbered in
    net_cases net n h
    (λ low. subst NoWord (sym (net_name-input net n low)) (no-input n (omega arith)))
    (λ j low e. subst NoWord (sym (ap (net_name net) e ∙ net_name-state net j low)) (no-state j))
    (λ k low e. subst NoWord (sym (ap (net_name net) e ∙ net_name-gate net k any_gate low)) (no-gate k (get_or net.gates k any_gate).wire))

assigns-wordless : (net : Netlist) → IsWritable net → EachAssign Wordless net
assigns-wordless net is =
    let few = is.is_net.numbered in
    record {
      inputs = λ j h. record { target = no-input j (omega arith); value = (record { no_if = refl; no_else = refl }, tt) };
      gates = λ k h. record {
        target = no-gate k (get_or net.gates k any_gate).wire;
        value = op-names NoWord (net_name net) (get_or net.gates k any_gate).op (net_count net) (omega (arith, gate-low net is k h)) (no-net net is);
      };
      nexts = λ j h. record {
        target = no-next j;
        value = (
          no-net net is (get_or net.latches j any_latch).from.0
              (is.is_net.latches_in_range j any_latch h),
          tt,
        );
      };
      outputs = λ j h. record {
        target = record { no_if = refl; no_else = refl };
        value = (no-net net is (get_or net.outputs j any_output).net.0 (is.is_net.outputs_in_range j any_output h), tt);
      };
      answer = record { target = record { no_if = refl; no_else = refl }; value = (no-net net is net.paused is.is_net.paused_in_range, tt) };
      states = λ j h. record { target = no-state j; value = (no-next j, tt) };
    }

-- ---- what holds of assignments holds of pieces

-- an assignment and a test
record Piecewise (P : Assign → Type 0) (N : List ℕ → Type 0) (net : Netlist) : Type 0 where
  gate : (k : ℕ) → k < length net.gates → P (gate_assign net k (get_or net.gates k any_gate))
  zero_of : (k : ℕ) → k < length net.gates → P (zero_assign (record { place = k; gate = get_or net.gates k any_gate; shown = true }))
  test : (h : ℕ) → h < length net.gates → N (gate_name h (get_or net.gates h any_gate).wire)

abbrev EachOf : (Assign → Type 0) → (List ℕ → Type 0) → Piece → Type 0
EachOf P N (One a) = P a
EachOf P N (If test first second) = N test × All P first × All P second

module _ (net : Netlist) (is : IsWritable net) (region : ℕ → Option ℕ) (heads : HeadsFit net region) (P : Assign → Type 0) (N : List ℕ → Type 0)
    (each_of : Piecewise P N net) where
  abbrev gate : ℕ → Gate
  gate k = get_or net.gates k any_gate

  abbrev owner : ℕ → Owner
  owner k = get_or (owners net region) k Free

  none : All P []
  none k d low = absurd (omega (arith, low))

  more : (a : Assign) (xs : List Assign) → P a → All P xs → All P (a ∷ xs)
  more a xs h all zero d low = h
  more a xs h all (suc k) d low = all k d (omega (arith, low))

  members-each : (h k : ℕ) (ms : List Member) → k + length ms ≤ length net.gates → AreMembers gate owner h k ms → All P (map (member_assign net) ms)
  members-each h k [] few are = none
  members-each h k (m ∷ ms) few are =
      let here : member_assign net m ≡ gate_assign net k (gate k) = ap (λ j. gate_assign net j m.gate) are.0 ∙ ap (gate_assign net k) are.1 in
      more (member_assign net m) (map (member_assign net) ms) (subst P (sym here) (each_of.gate k (omega (arith, few))))
      (members-each h (k + 1) ms (omega (arith, few)) are.3)

  zeros-each : (h k : ℕ) (ms : List Member) → k + length ms ≤ length net.gates → AreMembers gate owner h k ms
      → All P (map zero_assign (filter (λ m. m.shown) ms))
  zeros-each h k [] few are = none
  zeros-each h k (m ∷ ms) few are = by (zeros-each h (k + 1) ms (omega (arith, few)) are.3) m.shown refl
    where
      by : All P (map zero_assign (filter (λ m. m.shown) ms)) → (c : Bool) → m.shown ≡ c → All P (map zero_assign (filter (λ m. m.shown) (m ∷ ms)))
      by rest false e = subst (λ c. All P (map zero_assign (if c then m ∷ filter (λ m. m.shown) ms else filter (λ m. m.shown) ms))) (sym e) rest
      by rest true e =
          let here : zero_assign m ≡ zero_assign (record { place = k; gate = gate k; shown = true })
          = ap (λ i. zero_assign (record { place = i; gate = m.gate; shown = true })) are.0
          ∙ ap (λ g. zero_assign (record { place = k; gate = g; shown = true })) are.1 in
          subst (λ c. All P (map zero_assign (if c then m ∷ filter (λ m. m.shown) ms else filter (λ m. m.shown) ms))) (sym e)
          (more (zero_assign m) _ (subst P (sym here) (each_of.zero_of k (omega (arith, few)))) rest)

  groups-each : (k : ℕ) (gs : List Group) → AreGroups gate owner k gs → k + gate_count gs ≤ length net.gates → All (EachOf P N) (map (group_piece net) gs)
  groups-each k [] are few i d low = absurd (omega (arith, low))
  groups-each k (Single j g ∷ gs) are few zero d low =
      subst P (sym (ap (λ i. gate_assign net i g) are.0 ∙ ap (gate_assign net k) are.1)) (each_of.gate k (omega (arith, few)))
  groups-each k (Single j g ∷ gs) are few (suc i) d low = groups-each (k + 1) gs are.3 (omega (arith, few)) i d (omega (arith, low))
  groups-each k (Run h ms ∷ gs) are few zero d low =
      let head = head-facts net is region heads k h (first-head net is region heads h k ms are.0 are.1) in
      let below : h < length net.gates = omega (arith, head.0, few, are.0) in
      let name : head_name net h ≡ gate_name h (gate h).wire = sym (head-net net h below) ∙ net_name-gate net h any_gate below in
      (subst N (sym name) (each_of.test h below), members-each h k ms (omega (arith, few)) are.1, zeros-each h k ms (omega (arith, few)) are.1)
  groups-each k (Run h ms ∷ gs) are few (suc i) d low = groups-each (k + length ms) gs are.2 (omega (arith, few)) i d (omega (arith, low))

  ones-each : (xs : List Assign) → All P xs → All (EachOf P N) (map One xs)
  ones-each [] all k d low = absurd (omega (arith, low))
  ones-each (a ∷ xs) all zero d low = all 0 a (omega arith)
  ones-each (a ∷ xs) all (suc k) d low = ones-each xs (λ i e l. all (suc i) e (omega (arith, l))) k d (omega (arith, low))

  body-each : All P (net_body net) → All (EachOf P N) (guarded_program net (owners net region)).body
  body-each all =
      let b1 = before_gates net in
      let b2 = numbered (gate_assign net) 0 net.gates in
      let bh = behind_gates net in
      let wide = many net is region heads in
      let gs = groups 0 net.gates (owners net region) in
      All-append (EachOf P N) (map One b1) _ (ones-each b1 (all-parts P b1 (b2 ++ bh) all).0)
      (All-append (EachOf P N) (map (group_piece net) gs) (map One bh)
      (groups-each 0 gs (groups-all net.gates (owners net region) wide)
      (omega (arith, count-groups 0 net.gates (owners net region) wide)))
      (ones-each bh (all-parts P b2 bh (all-parts P b1 (b2 ++ bh) all).1).1))

-- ---- the whole

module _ (net : Netlist) (is : IsWritable net) (regions : List (Option WireId)) where
  abbrev region : ℕ → Option ℕ
  region = region_by net regions

  fit : HeadsFit net region
  fit = heads-fit net regions

  abbrev p : Program
  p = guarded_program net (owners net region)

  spelled : IsSpelled p
  spelled =
      let few = is.is_net.numbered in
      let readable = each-assign IsReadable net (assigns-readable net is) in
      let wordless = each-assign Wordless net (assigns-wordless net is) in
      record {
        frame = framed-net net is;
        lines = by-piece p.body (body-each net is region fit IsReadable IsVariable (record {
          gate = λ k low. (assigns-readable net is).gates k low;
          zero_of = λ k low. record { target = gate-variable k low; value = tt };
          test = gate-variable;
        }) readable);
        states = All-numbered (λ s. NoWord s.name) net_state 0 net.latches (λ k d h. no-state (0 + k));
        globals = All-append NoWord (map input_variable net.inputs) (map output_variable net.outputs)
            (All-map NoWord input_variable net.inputs (λ k d h. record { no_if = refl; no_else = refl }))
            (All-map NoWord output_variable net.outputs (λ k d h. record { no_if = refl; no_else = refl }));
        locals = All-append NoWord (numbered (λ j name. input_name j) 0 net.inputs) _
            (All-numbered NoWord (λ j name. input_name j) 0 net.inputs (λ k d h. no-input (0 + k) (omega arith)))
            (All-append NoWord (gate_names net) _
            (All-numbered NoWord (λ k gate. gate_name k gate.wire) 0 net.gates (λ k d h. no-gate (0 + k) (get_or net.gates k d).wire))
            (All-append NoWord (numbered (λ j latch. next_name j) 0 net.latches) (answer_name ∷ [])
            (All-numbered NoWord (λ j latch. next_name j) 0 net.latches (λ k d h. no-next (0 + k)))
            (last NoWord answer_name (record { no_if = refl; no_else = refl }))));
        answer = (record { no_if = refl; no_else = refl }, tt);
        words = by-word p.body (body-each net is region fit Wordless NoWord (record {
          gate = λ k low. (assigns-wordless net is).gates k low;
          zero_of = λ k low. record { target = no-gate k (get_or net.gates k any_gate).wire; value = tt };
          test = λ h low. no-gate h (get_or net.gates h any_gate).wire;
        }) wordless);
      }
    where
      gate-variable : (k : ℕ) → k < length net.gates → IsVariable (gate_name k (get_or net.gates k any_gate).wire)
      gate-variable k low = subst IsVariable (net_name-gate net k any_gate low) (net-variable net is (first_gate net + k) (omega arith))

      by-piece : (xs : List Piece) → All (EachOf IsReadable IsVariable) xs → All Readable xs
      by-piece xs all = All-weaker (EachOf IsReadable IsVariable) Readable (λ x h. read x h) xs all
        where
          read : (x : Piece) → EachOf IsReadable IsVariable x → Readable x
          read (One a) h = h
          read (If test first second) h = h

      by-word : (xs : List Piece) → All (EachOf Wordless NoWord) xs → All WordlessPiece xs
      by-word xs all = All-weaker (EachOf Wordless NoWord) WordlessPiece (λ x h. read x h) xs all
        where
          read : (x : Piece) → EachOf Wordless NoWord x → WordlessPiece x
          read (One a) h = h
          read (If test first second) h = h

      last : (P : List ℕ → Type 0) (x : List ℕ) → P x → All P (x ∷ [])
      last P x h zero d low = h
      last P x h (suc k) d low = absurd (omega (arith, low))

  fits-names : name_fault p ≡ None
  fits-names = rw (declared_once net is, none-undeclared net is region fit, none-again net is region fit, none-unset net is region fit) refl

  describes : Describes (guarded_text net (owners net region)) p
  describes = record {
    written = written_program p;
    spelled = (spells-text p spelled, omega (arith, nesting-text p spelled));
    means = meant-written p;
    names_fit = fits-names;
  }

  pub means-guarded : GuardedMeans (guarded_text net (owners net region)) net regions
  means-guarded =
      let wide = length-map net.latches (λ l. l.init) in
      record {
        program = p;
        describes = describes;
        inputs = inputs-net net;
        outputs = outputs-net net;
        states = refl;
        shows = λ items widths rests.
            runs-called net is region fit (seen p) (λ values. shown_by_call (shown net values)) (λ values c here. seen-net net values c.memory here.shows)
            items (initial_latches net) (first_memory p.states) wide (begins-kept net is) widths (quiet items rests)
            ∙ map-composed shown_by_call (shown net) (net_values_run net items);
        counts = λ items widths rests.
            runs-called net is region fit (λ c. c.count) (λ values. length (net_body net) - skipped net regions values) (λ values c here. here.count)
            items (initial_latches net) (first_memory p.states) wide (begins-kept net is) widths (quiet items rests);
      }
    where
      quiet : (items : List Item) → All (AreAtRest regions net) (net_values_run net items) → All (QuietGates net is region fit) (net_values_run net items)
      quiet items rests = All-weaker (AreAtRest regions net) (QuietGates net is region fit) (λ values. quiet-gates net regions values)
          (net_values_run net items) rests
