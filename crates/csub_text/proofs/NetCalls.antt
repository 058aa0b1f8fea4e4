-- What a call of a net's program leaves in the memory: the values of the nets.
use Rattle.std.proofs.Common.{◌≡◌, ℕ, ◌+◌, ◌-◌, ◌<◌, ◌≤◌, ◌==◌, zero, suc, Bool, true, false, not, List, [], ◌∷◌, ◌++◌, length, map, get_or}
use Rattle.std.proofs.Common.{refl, sym, ap, ◌∙◌, subst, arith, Some, None, inl, inr}
use Rattle.std.specs.Prelude.{if◌then◌else◌}
use Rattle.std.specs.List.{list_all}
use Rattle.std.proofs.lemmas.Bool.{and_parts, or_parts, not-true, cases_lt}
use Rattle.std.proofs.lemmas.List.{length-map, get_or-map, length-append, get_or_append_left, get_or-append-add, get_or_push}
use Rattle.std.proofs.lemmas.List.{length_push}
use Rattle.base_types.specs.Names.{is_same_name}
use Rattle.base_types.specs.Distinct.{all_differ}
use Rattle.base_types.proofs.Exports.{same_name-self}
use Rattle.net_ir.specs.declared.netlist.Gate.{Gate}
use Rattle.net_ir.specs.declared.netlist.NetOut.{NetOut}
use Rattle.net_ir.specs.Gates.{operand_end, op_value, value_in, gate_values}
use Rattle.net_ir.specs.Netlists.{Netlist, first_gate, net_count}
use Rattle.net_ir.specs.Runs.{net_values}
use Rattle.net_ir.proofs.Exports.{op_value-same, any-none, differ-at, length-numbered, get_or-numbered, differ-by, net_cases}
use Rattle.csub_text.specs.Trees.{Name, Assign}
use Rattle.net_ir.specs.NameLists.{is_among}
use Rattle.csub_text.specs.Machine.{Memory, with_value, value_of, run_body, with_inputs}
use Rattle.csub_text.specs.Written.{input_name, state_name, gate_name, next_name, answer_name, net_name, input_variable, output_variable}
use Rattle.csub_text.specs.Written.{gate_names}
use Rattle.csub_text.specs.Written.{op_expr, input_assign, gate_assign, next_assign, output_assign, answer_assign, state_assign, net_body}
use Rattle.net_expressions.proofs.Exports.{op-expr-value, mark, state_names, marks-states, marks-gates, differ-states, differ-gates, any_gate, any_latch}
use Rattle.net_expressions.proofs.Exports.{any_output, gate-low}
use Rattle.csub_text.proofs.NetNames.{input_names}
use Rattle.csub_text.proofs.NetNames.{next_names, given_variables, shown_variables, marks-inputs, marks-nexts, marks-given}
use Rattle.csub_text.proofs.NetNames.{marks-shown}
use Rattle.csub_text.proofs.NetNames.{differ-inputs, differ-nexts, differ-given, differ-shown}
use Rattle.net_ir.specs.Numbered.{numbered}
use Rattle.net_ir.specs.Writing.{IsWritable}
use Rattle.csub_text.proofs.NetRules.{net_name-input, net_name-state, net_name-gate}

-- ---- assignments one after another

abbrev targets : List Assign → List (List ℕ)
targets body = map (λ a. a.target) body

pub run-append : (xs ys : List Assign) (m : Memory) → run_body (xs ++ ys) m ≡ run_body ys (run_body xs m)
run-append [] ys m = refl
run-append (a ∷ xs) ys m = run-append xs ys (with_value a.target (value_of m a.value) m)

-- a variable that is not assigned
pub run-other : (body : List Assign) (m : Memory) (x : List ℕ) → is_among x (targets body) ≡ false → run_body body m x ≡ m x
run-other [] m x none = refl
run-other (a ∷ body) m x none =
    let parts = or_parts (is_same_name x a.target) (is_among x (targets body)) none in
    run-other body (with_value a.target (value_of m a.value) m) x parts.1 ∙ rw parts.0 refl

-- a variable that is assigned once, to one that is not
run-copies : (body : List Assign) (m : Memory) → all_differ is_same_name (targets body) ≡ true → (k : ℕ) (d : Assign) (y : List ℕ) → k < length body
    → (get_or body k d).value ≡ Name y → is_among y (targets body) ≡ false → run_body body m (get_or body k d).target ≡ m y
run-copies [] m differ k d y h is none = absurd (omega arith)
run-copies (a ∷ body) m differ zero d y h is none =
    let parts = and_parts (not (is_among a.target (targets body))) (all_differ is_same_name (targets body)) differ in
    run-other body (with_value a.target (value_of m a.value) m) a.target (not-true (is_among a.target (targets body)) parts.0)
    ∙ rw (same_name-self a.target) (ap (value_of m) is)
run-copies (a ∷ body) m differ (suc k) d y h is none =
    let parts = and_parts (not (is_among a.target (targets body))) (all_differ is_same_name (targets body)) differ in
    let other = or_parts (is_same_name y a.target) (is_among y (targets body)) none in
    run-copies body (with_value a.target (value_of m a.value) m) parts.1 k d y (omega arith) is other.1 ∙ rw other.0 refl

-- each input gets its value
inputs-other : (names : List (List ℕ)) (values : List Bool) (m : Memory) (x : List ℕ) → is_among x names ≡ false → with_inputs names values m x ≡ m x
inputs-other [] values m x none = refl
inputs-other (n ∷ names) [] m x none = refl
inputs-other (n ∷ names) (v ∷ values) m x none =
    let parts = or_parts (is_same_name x n) (is_among x names) none in
    inputs-other names values (with_value n v m) x parts.1 ∙ rw parts.0 refl

inputs-given : (names : List (List ℕ)) (values : List Bool) (m : Memory) → all_differ is_same_name names ≡ true → length values ≡ length names
    → (k : ℕ) (d : List ℕ) → k < length names → with_inputs names values m (get_or names k d) ≡ get_or values k false
inputs-given [] values m differ wide k d h = absurd (omega arith)
inputs-given (n ∷ names) [] m differ wide k d h = absurd (omega arith)
inputs-given (n ∷ names) (v ∷ values) m differ wide zero d h =
    let parts = and_parts (not (is_among n names)) (all_differ is_same_name names) differ in
    inputs-other names values (with_value n v m) n (not-true (is_among n names) parts.0) ∙ rw (same_name-self n) refl
inputs-given (n ∷ names) (v ∷ values) m differ wide (suc k) d h =
    let parts = and_parts (not (is_among n names)) (all_differ is_same_name names) differ in
    inputs-given names values (with_value n v m) parts.1 (omega arith) k d (omega arith)

gate-at : (net : Netlist) (k : ℕ) → k < length net.gates → get_or (gate_names net) k [] ≡ gate_name k (get_or net.gates k any_gate).wire
gate-at net k h =
    let z : 0 + k ≡ k = omega arith in
    get_or-numbered (λ k gate. gate_name k gate.wire) 0 net.gates k [] any_gate h ∙ ap (λ m. gate_name m (get_or net.gates k any_gate).wire) z

alone : (x y : List ℕ) → is_among x (y ∷ []) ≡ false → is_same_name x y ≡ false
alone x y none = (or_parts (is_same_name x y) false none).0

-- no net before a gate has the gate's name
pub gate-new : (net : Netlist) → IsWritable net → (n i : ℕ) → n < length net.gates → i < first_gate net + n
    → is_same_name (net_name net i) (gate_name n (get_or net.gates n any_gate).wire) ≡ false
gate-new net is n i low h =
    let g = gate_name n (get_or net.gates n any_gate).wire in
    let wide = length-numbered (λ k (gate : Gate). gate_name k gate.wire) 0 net.gates in
    net_cases net i (omega arith)
    (λ input. ap (λ x. is_same_name x g) (net_name-input net i input)
    ∙ ap (λ y. is_same_name (input_name i) y) (sym (gate-at net n low))
    ∙ any-none (is_same_name (input_name i)) (gate_names net) (differ-by mark (λ m. m == 105) (input_name i) (gate_names net) refl
    (marks-gates net (λ m. not (m == 105)) refl refl)) n [] (omega arith))
    (λ j state e. ap (λ x. is_same_name x g) (ap (net_name net) e ∙ net_name-state net j state)
    ∙ ap (λ y. is_same_name (state_name j) y) (sym (gate-at net n low))
    ∙ any-none (is_same_name (state_name j)) (gate_names net) (differ-by mark (λ m. m == 115) (state_name j) (gate_names net) refl
    (marks-gates net (λ m. not (m == 115)) refl refl)) n [] (omega arith))
    (λ k gate e. ap (λ x. is_same_name x g) (ap (net_name net) e ∙ net_name-gate net k any_gate gate)
    ∙ ap (λ x. is_same_name x g) (sym (gate-at net k gate)) ∙ ap (λ y. is_same_name (get_or (gate_names net) k []) y) (sym (gate-at net n low))
    ∙ differ-at (gate_names net) (differ-gates net is) k n (omega arith) (omega arith))

-- ---- gates one after another

-- the memory has the values of the nets below a number
abbrev pub Has : Netlist → ℕ → Memory → List Bool → Type 0
Has net end m values = (i : ℕ) → i < end → m (net_name net i) ≡ value_in values i

gates-run : (net : Netlist) → IsWritable net → (n : ℕ) (gates : List Gate) (m : Memory) (values : List Bool)
    → ((k : ℕ) → k < length gates → get_or gates k any_gate ≡ get_or net.gates (n + k) any_gate) → n + length gates ≡ length net.gates
    → length values ≡ first_gate net + n → Has net (first_gate net + n) m values
    → Has net (first_gate net + n + length gates) (run_body (numbered (gate_assign net) n gates) m) (gate_values values gates)
gates-run net is n [] m values same all wide has i h = has i (omega arith)
gates-run net is n (g ∷ gates) m values same all wide has i h =
    let z : n + 0 ≡ n = omega arith in
    let here : g ≡ get_or net.gates n any_gate = same 0 (omega arith) ∙ ap (λ k. get_or net.gates k any_gate) z in
    let low : n < length net.gates = omega arith in
    let target = gate_name n g.wire in
    let value = value_of m (op_expr (net_name net) g.op) in
    let v = op_value (value_in values) g.op in
    let reads : operand_end g.op ≤ first_gate net + n = subst (λ (g : Gate). operand_end g.op ≤ first_gate net + n) (sym here) (gate-low net is n low) in
    let is-v : value ≡ v = op-expr-value m (net_name net) g.op ∙ op_value-same (λ i. m (net_name net i)) (value_in values) g.op
    (first_gate net + n) reads has in
    let longer = length_push values v in
    let next : Has net (first_gate net + (n + 1)) (with_value target value m) (values ++ v ∷ []) = λ i h. elim (cases_lt i (first_gate net + n)) [
      | inl below ↦
          let new : is_same_name (net_name net i) target ≡ false = ap (λ (g : Gate). is_same_name (net_name net i) (gate_name n g.wire)) here
          ∙ gate-new net is n i low below in
          ap (λ b. if b then value else m (net_name net i)) new ∙ has i below ∙ sym (get_or_append_left values (v ∷ []) false i (omega arith))
      | inr last ↦
          let e : i ≡ first_gate net + n = omega arith in
          let name : net_name net i ≡ target = ap (net_name net) e ∙ net_name-gate net n any_gate low ∙ ap (λ (g : Gate). gate_name n g.wire) (sym here) in
          let it : is_same_name (net_name net i) target ≡ true = ap (λ x. is_same_name x target) name ∙ same_name-self target in
          ap (λ b. if b then value else m (net_name net i)) it ∙ is-v ∙ sym (get_or_push values v false i (wide ∙ sym e))
    ] in
    let rest = gates-run net is (n + 1) gates (with_value target value m) (values ++ v ∷ [])
    (λ k h. let s : n + suc k ≡ n + 1 + k = omega arith in same (suc k) (omega arith) ∙ ap (λ j. get_or net.gates j any_gate) s) (omega arith)
    (omega arith) next in
    rest i (omega arith)

-- ---- one call

abbrev pub Keeps : Netlist → Memory → List Bool → Type 0
Keeps net m latches = (j : ℕ) → j < length net.latches → m (state_name j) ≡ get_or latches j false

-- what a call leaves for the next one and shows
pub record Shows (net : Netlist) (values : List Bool) (m : Memory) : Type 0 where
  pub states : (j : ℕ) → j < length net.latches → m (state_name j) ≡ value_in values (get_or net.latches j any_latch).from.0
  pub outputs : (k : ℕ) → k < length net.outputs → m (output_variable (get_or net.outputs k any_output)) ≡
      value_in values (get_or net.outputs k any_output).net.0
  pub answer : m answer_name ≡ value_in values net.paused

-- what a call leaves
pub record Leaves (net : Netlist) (values : List Bool) (m : Memory) : Type 0 where
  pub gates : (k : ℕ) → k < length net.gates → m (gate_name k (get_or net.gates k any_gate).wire) ≡ value_in values (first_gate net + k)
  pub shows : Shows net values m

-- the memory has the values of the nets that are used behind the gates
pub record Serves (net : Netlist) (values : List Bool) (m : Memory) : Type 0 where
  pub latches : (j : ℕ) → j < length net.latches → m (net_name net (get_or net.latches j any_latch).from.0)
      ≡ value_in values (get_or net.latches j any_latch).from.0
  pub outputs : (k : ℕ) → k < length net.outputs → m (net_name net (get_or net.outputs k any_output).net.0)
      ≡ value_in values (get_or net.outputs k any_output).net.0
  pub answer : m (net_name net net.paused) ≡ value_in values net.paused

-- the assignments before the gates, and those behind them
abbrev pub before_gates : Netlist → List Assign
before_gates net = numbered input_assign 0 net.inputs

abbrev pub behind_gates : Netlist → List Assign
behind_gates net =
    numbered (next_assign net) 0 net.latches ++ (map (output_assign net) net.outputs
    ++ ((answer_assign net ∷ []) ++ numbered state_assign 0 net.latches))

targets-numbered : {X : Type 0} (f : ℕ → X → Assign) (g : ℕ → X → List ℕ) (n : ℕ) (xs : List X) → ((k : ℕ) (x : X) → (f k x).target ≡ g k x)
    → targets (numbered f n xs) ≡ numbered g n xs
targets-numbered f g n [] same = refl
targets-numbered f g n (x ∷ xs) same = rw (same n x, targets-numbered f g (n + 1) xs same) refl

targets-outputs : (net : Netlist) (outputs : List NetOut) → targets (map (output_assign net) outputs) ≡ map output_variable outputs
targets-outputs net [] = refl
targets-outputs net (o ∷ outputs) = ap (λ l. output_variable o ∷ l) (targets-outputs net outputs)

-- a variable by its first byte
not_target : (p : ℕ → Bool) (x : List ℕ) (body : List Assign) (names : List (List ℕ)) → targets body ≡ names → p (mark x) ≡ true
    → list_all (λ y. not (p (mark y))) names ≡ true → is_among x (targets body) ≡ false
not_target p x body names same here others = ap (is_among x) same ∙ differ-by mark p x names here others

net-mark : (p : ℕ → Bool) (net : Netlist) (n : ℕ) → n < net_count net → p 105 ≡ true → p 115 ≡ true → p 103 ≡ true → p 119 ≡ true →
    p (mark (net_name net n)) ≡ true
net-mark p net n h i s g w =
    net_cases net n h
    (λ low. ap (λ x. p (mark x)) (net_name-input net n low) ∙ i)
    (λ j low e. ap (λ x. p (mark x)) (ap (net_name net) e ∙ net_name-state net j low) ∙ s)
    (λ k low e. ap (λ x. p (mark x)) (ap (net_name net) e ∙ net_name-gate net k any_gate low) ∙ go p k (get_or net.gates k any_gate).wire g w)
  where
    go : (p : ℕ → Bool) (k : ℕ) (wire : _) → p 103 ≡ true → p 119 ≡ true → p (mark (gate_name k wire)) ≡ true
    go p k None g w = g
    go p k (Some wire) g w = w

-- the inputs and the states before the gates
pub inputs-run : (net : Netlist) → IsWritable net → (latches inputs : List Bool) (m : Memory) → length latches ≡ length net.latches
    → length inputs ≡ length net.inputs → Keeps net m latches
    → Has net (first_gate net) (run_body (before_gates net) (with_inputs (given_variables net) inputs m)) (inputs ++ latches)
inputs-run net is latches inputs m wide_l wide_i keeps =
    let b1 = numbered input_assign 0 net.inputs in
    let t1 : targets b1 ≡ input_names net = targets-numbered input_assign (λ j name. input_name j) 0 net.inputs (λ k x. refl) in
    let m0 = with_inputs (given_variables net) inputs m in
    let m1 = run_body b1 m0 in
    let n1 = length-numbered input_assign 0 net.inputs in
    let ng = length-map net.inputs input_variable in
    let d = answer_assign net in
    λ i h. elim (cases_lt i (length net.inputs)) [
      | inl low ↦
          let z : 0 + i ≡ i = omega arith in
          let at : get_or b1 i d ≡ input_assign i (get_or net.inputs i []) = get_or-numbered input_assign 0 net.inputs i d [] low
          ∙ ap (λ k. input_assign k (get_or net.inputs i [])) z in
          let given = input_variable (get_or net.inputs i []) in
          let copied = run-copies b1 m0 (ap (all_differ is_same_name) t1 ∙ differ-inputs net is) i d given (omega arith) (ap (λ (a : Assign). a.value) at)
          (not_target (λ c. c == 73) given b1 (input_names net) t1 refl (marks-inputs net (λ c. not (c == 73)) refl)) in
          ap m1 (net_name-input net i low ∙ ap (λ (a : Assign). a.target) (sym at)) ∙ copied
          ∙ ap m0 (sym (get_or-map input_variable net.inputs i [] [] low))
          ∙ inputs-given (given_variables net) inputs m (differ-given net is) (omega arith) i [] (omega arith)
          ∙ sym (get_or_append_left inputs latches false i (omega arith))
      | inr high ↦
          let j = i - length net.inputs in
          let e : i ≡ length net.inputs + j = omega arith in
          let f : i ≡ length inputs + j = omega arith in
          ap m1 (ap (net_name net) e ∙ net_name-state net j (omega arith))
          ∙ run-other b1 m0 (state_name j) (not_target (λ c. c == 115) (state_name j) b1 (input_names net) t1 refl
          (marks-inputs net (λ c. not (c == 115)) refl))
          ∙ inputs-other (given_variables net) inputs m (state_name j)
          (differ-by mark (λ c. c == 115) (state_name j) (given_variables net) refl (marks-given net (λ c. not (c == 115)) refl))
          ∙ keeps j (omega arith) ∙ sym (get_or-append-add inputs latches j false) ∙ ap (λ k. get_or (inputs ++ latches) k false) (sym f)
    ]

-- no net is a target of the first parts behind the gates
past-nexts : (net : Netlist) (m : Memory) (i : ℕ) → i < net_count net
    → run_body (numbered (next_assign net) 0 net.latches) m (net_name net i) ≡ m (net_name net i)
past-nexts net m i h =
    let b3 = numbered (next_assign net) 0 net.latches in
    let t3 : targets b3 ≡ next_names net = targets-numbered (next_assign net) (λ j latch. next_name j) 0 net.latches (λ k x. refl) in
    run-other b3 m (net_name net i) (not_target (λ c. not (c == 116)) (net_name net i) b3 (next_names net) t3
    (net-mark (λ c. not (c == 116)) net i h refl refl refl refl)
    (marks-nexts net (λ c. not (not (c == 116))) refl))

past-outputs : (net : Netlist) (m : Memory) (i : ℕ) → i < net_count net → run_body (map (output_assign net) net.outputs) m (net_name net i) ≡ m (net_name net i)
past-outputs net m i h =
    let b4 = map (output_assign net) net.outputs in
    run-other b4 m (net_name net i) (not_target (λ c. not (c == 79)) (net_name net i) b4 (shown_variables net) (targets-outputs net net.outputs)
    (net-mark (λ c. not (c == 79)) net i h refl refl refl refl)
    (marks-shown net (λ c. not (not (c == 79))) refl))

-- what the assignments behind the gates leave, where the memory has what they use
pub behind-shows : (net : Netlist) → IsWritable net → (values : List Bool) (m : Memory) → Serves net values m
    → Shows net values (run_body (behind_gates net) m)
behind-shows net is values m2 serves =
    let b3 = numbered (next_assign net) 0 net.latches in
    let b4 = map (output_assign net) net.outputs in
    let b5 = answer_assign net ∷ [] in
    let b6 = numbered state_assign 0 net.latches in
    let t3 : targets b3 ≡ next_names net = targets-numbered (next_assign net) (λ j latch. next_name j) 0 net.latches (λ k x. refl) in
    let t4 : targets b4 ≡ shown_variables net = targets-outputs net net.outputs in
    let t6 : targets b6 ≡ state_names net = targets-numbered state_assign (λ j latch. state_name j) 0 net.latches (λ k x. refl) in
    let m3 = run_body b3 m2 in
    let m4 = run_body b4 m3 in
    let m5 = run_body b5 m4 in
    let m6 = run_body b6 m5 in
    let whole : run_body (behind_gates net) m2 ≡ m6 = run-append b3 (b4 ++ (b5 ++ b6)) m2 ∙ run-append b4 (b5 ++ b6) m3 ∙ run-append b5 b6 m4 in
    let n3 = length-numbered (next_assign net) 0 net.latches in
    let n4 = length-map net.outputs (output_assign net) in
    let n6 = length-numbered state_assign 0 net.latches in
    let d = answer_assign net in
    let next3 : (j : ℕ) → j < length net.latches → m3 (next_name j) ≡ value_in values (get_or net.latches j any_latch).from.0 = λ j h.
    let z : 0 + j ≡ j = omega arith in
    let latch = get_or net.latches j any_latch in
    let range = is.is_net.latches_in_range j any_latch h in
    let at : get_or b3 j d ≡ next_assign net j latch = get_or-numbered (next_assign net) 0 net.latches j d any_latch h ∙ ap (λ k. next_assign net k latch) z in
    ap m3 (ap (λ (a : Assign). a.target) (sym at))
    ∙ run-copies b3 m2 (ap (all_differ is_same_name) t3 ∙ differ-nexts net is) j d (net_name net latch.from.0) (omega arith) (ap (λ (a : Assign). a.value) at)
    (not_target (λ c. not (c == 116)) (net_name net latch.from.0) b3 (next_names net) t3
    (net-mark (λ c. not (c == 116)) net latch.from.0 range refl refl refl refl)
    (marks-nexts net (λ c. not (not (c == 116))) refl))
    ∙ serves.latches j h in
    let output4 : (k : ℕ) → k < length net.outputs → m4 (output_variable (get_or net.outputs k any_output)) ≡
    value_in values (get_or net.outputs k any_output).net.0 = λ k h.
    let output = get_or net.outputs k any_output in
    let range = is.is_net.outputs_in_range k any_output h in
    let at : get_or b4 k d ≡ output_assign net output = get_or-map (output_assign net) net.outputs k any_output d h in
    ap m4 (ap (λ (a : Assign). a.target) (sym at))
    ∙ run-copies b4 m3 (ap (all_differ is_same_name) t4 ∙ differ-shown net is) k d (net_name net output.net.0) (omega arith) (ap (λ (a : Assign). a.value) at)
    (not_target (λ c. not (c == 79)) (net_name net output.net.0) b4 (shown_variables net) t4
    (net-mark (λ c. not (c == 79)) net output.net.0 range refl refl refl refl)
    (marks-shown net (λ c. not (not (c == 79))) refl))
    ∙ past-nexts net m2 output.net.0 range ∙ serves.outputs k h in
    let own6 : (x : List ℕ) → (mark x == 115) ≡ false → m6 x ≡ m5 x = λ x h.
    run-other b6 m5 x (not_target (λ c. not (c == 115)) x b6 (state_names net) t6 (ap not h) (marks-states net (λ c. not (not (c == 115))) refl)) in
    record {
      states = λ j h.
          let z : 0 + j ≡ j = omega arith in
          let latch = get_or net.latches j any_latch in
          let at : get_or b6 j d ≡ state_assign j latch = get_or-numbered state_assign 0 net.latches j d any_latch h ∙ ap (λ k. state_assign k latch) z in
          ap (λ f. f (state_name j)) whole ∙ ap m6 (ap (λ (a : Assign). a.target) (sym at))
          ∙ run-copies b6 m5 (ap (all_differ is_same_name) t6 ∙ differ-states net is) j d (next_name j) (omega arith) (ap (λ (a : Assign). a.value) at)
          (not_target (λ c. c == 116) (next_name j) b6 (state_names net) t6 refl (marks-states net (λ c. not (c == 116)) refl))
          ∙ run-other b5 m4 (next_name j) refl
          ∙ run-other b4 m3 (next_name j) (not_target (λ c. c == 116) (next_name j) b4 (shown_variables net) t4 refl
          (marks-shown net (λ c. not (c == 116)) refl))
          ∙ next3 j h;
      outputs = λ k h.
          let name = output_variable (get_or net.outputs k any_output) in
          ap (λ f. f name) whole ∙ own6 name refl ∙ run-other b5 m4 name refl ∙ output4 k h;
      answer =
          ap (λ f. f answer_name) whole ∙ own6 answer_name refl ∙ past-outputs net m3 net.paused is.is_net.paused_in_range
          ∙ past-nexts net m2 net.paused is.is_net.paused_in_range ∙ serves.answer;
    }

-- gates are as they were
behind-gates : (net : Netlist) (m : Memory) (k : ℕ) → k < length net.gates
    → run_body (behind_gates net) m (gate_name k (get_or net.gates k any_gate).wire) ≡ m (gate_name k (get_or net.gates k any_gate).wire)
behind-gates net m2 k h =
    let b3 = numbered (next_assign net) 0 net.latches in
    let b4 = map (output_assign net) net.outputs in
    let b5 = answer_assign net ∷ [] in
    let b6 = numbered state_assign 0 net.latches in
    let t6 : targets b6 ≡ state_names net = targets-numbered state_assign (λ j latch. state_name j) 0 net.latches (λ k x. refl) in
    let m3 = run_body b3 m2 in
    let m4 = run_body b4 m3 in
    let m5 = run_body b5 m4 in
    let name = gate_name k (get_or net.gates k any_gate).wire in
    let own : (mark name == 115) ≡ false = gate-mark (get_or net.gates k any_gate).wire k in
    ap (λ f. f name) (run-append b3 (b4 ++ (b5 ++ b6)) m2 ∙ run-append b4 (b5 ++ b6) m3 ∙ run-append b5 b6 m4)
    ∙ run-other b6 m5 name (not_target (λ c. not (c == 115)) name b6 (state_names net) t6 (ap not own) (marks-states net (λ c. not (not (c == 115))) refl))
    ∙ run-other b5 m4 name (gate-no_answer (get_or net.gates k any_gate).wire k)
    ∙ ap m4 (sym (net_name-gate net k any_gate h)) ∙ past-outputs net m3 (first_gate net + k) (omega arith)
    ∙ past-nexts net m2 (first_gate net + k) (omega arith)
    ∙ ap m2 (net_name-gate net k any_gate h)
  where
    gate-mark : (wire : _) (k : ℕ) → (mark (gate_name k wire) == 115) ≡ false
    gate-mark None k = refl
    gate-mark (Some w) k = refl

    gate-no_answer : (wire : _) (k : ℕ) → is_among (gate_name k wire) (answer_name ∷ []) ≡ false
    gate-no_answer None k = refl
    gate-no_answer (Some w) k = refl

pub call-leaves : (net : Netlist) → IsWritable net → (latches inputs : List Bool) (m : Memory) → length latches ≡ length net.latches
    → length inputs ≡ length net.inputs → Keeps net m latches
    → Leaves net (net_values net latches inputs) (run_body (net_body net) (with_inputs (given_variables net) inputs m))
call-leaves net is latches inputs m wide_l wide_i keeps =
    let values = net_values net latches inputs in
    let b1 = before_gates net in
    let b2 = numbered (gate_assign net) 0 net.gates in
    let m0 = with_inputs (given_variables net) inputs m in
    let m1 = run_body b1 m0 in
    let m2 = run_body b2 m1 in
    let whole : run_body (net_body net) m0 ≡ run_body (behind_gates net) m2
    = run-append b1 (b2 ++ behind_gates net) m0 ∙ run-append b2 (behind_gates net) m1 in
    let has1 = inputs-run net is latches inputs m wide_l wide_i keeps in
    let joined = length-append inputs latches in
    -- all nets behind the gates
    let has2 : Has net (net_count net) m2 values = λ i h.
    gates-run net is 0 net.gates m1 (inputs ++ latches) (λ k low. let z : k ≡ 0 + k = omega arith in ap (λ n. get_or net.gates n any_gate) z) (omega arith)
    (omega arith)
    (λ i low. has1 i (omega arith)) i (omega arith) in
    let serves : Serves net values m2 = record {
      latches = λ j h. has2 (get_or net.latches j any_latch).from.0 (is.is_net.latches_in_range j any_latch h);
      outputs = λ k h. has2 (get_or net.outputs k any_output).net.0 (is.is_net.outputs_in_range k any_output h);
      answer = has2 net.paused is.is_net.paused_in_range;
    } in
    record {
      gates = λ k h. ap (λ f. f (gate_name k (get_or net.gates k any_gate).wire)) whole ∙ behind-gates net m2 k h
          ∙ ap m2 (sym (net_name-gate net k any_gate h)) ∙ has2 (first_gate net + k) (omega arith);
      shows = subst (Shows net values) (sym whole) (behind-shows net is values m2 serves);
    }
