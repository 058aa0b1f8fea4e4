-- No local of a net's program is read before it is assigned; so the program keeps all rules on names.
use Rattle.std.proofs.Common.{◌≡◌, ℕ, ◌+◌, ◌-◌, ◌<◌, ◌≤◌, ◌==◌, zero, suc, Bool, true, false, not, ◌&&◌, List, [], ◌∷◌, ◌++◌, length, map, get_or, All}
use Rattle.std.proofs.Common.{refl, sym, ap, ◌∙◌}
use Rattle.std.proofs.Common.{subst, arith, None, inl, inr}
use Rattle.std.specs.List.{AllByRecursion}
use Rattle.std.proofs.lemmas.Bool.{or_left, or_right, cases_lt}
use Rattle.base_types.specs.Names.{is_same_name}
use Rattle.net_ir.specs.declared.netlist.Gate.{Gate}
use Rattle.net_ir.specs.Gates.{operand_end}
use Rattle.net_ir.specs.Netlists.{Netlist, first_gate, net_count}
use Rattle.std.proofs.lemmas.List.{length-map, get_or-map, append-nil}
use Rattle.base_types.proofs.Exports.{same_name-self}
use Rattle.csub_text.specs.Trees.{Expr, Name, Assign}
use Rattle.net_ir.specs.NameLists.{is_among}
use Rattle.csub_text.specs.Names.{names_in, unset, name_fault}
use Rattle.csub_text.specs.Written.{state_name, gate_name, next_name, answer_name, net_name, input_variable, net_locals}
use Rattle.csub_text.specs.Written.{input_assign, gate_assign, next_assign, output_assign, answer_assign, state_assign, net_body, net_program}
use Rattle.csub_text.proofs.NetNames.{marks-locals}
use Rattle.net_ir.proofs.Exports.{length-numbered, get_or-numbered, differ-by}
use Rattle.net_ir.specs.Numbered.{numbered}
use Rattle.net_ir.specs.Writing.{IsWritable}
use Rattle.csub_text.proofs.NetRules.{Known, Covered, unset-covered, net_name-input, net_name-state, net_name-gate}
use Rattle.net_expressions.proofs.Exports.{op-names, mark, any_gate, any_latch, any_output, gate-low}
use Rattle.csub_text.proofs.NetRules.{numbered-assigns, declared_once, undeclared_none}

-- ---- what is assigned

-- what is assigned behind some assignments
targets-behind : List (List ℕ) → List Assign → List (List ℕ)
targets-behind before [] = before
targets-behind before (a ∷ body) = targets-behind (a.target ∷ before) body

known-more : (locals before : List (List ℕ)) (t x : List ℕ) → Known locals before x → Known locals (t ∷ before) x
known-more locals before t x (inl none) = inl none
known-more locals before t x (inr old) = inr (or_right (is_same_name x t) (is_among x before) old)

all-more : (locals before : List (List ℕ)) (t : List ℕ) (xs : List (List ℕ)) → AllByRecursion (Known locals before) xs →
    AllByRecursion (Known locals (t ∷ before)) xs
all-more locals before t [] all = tt
all-more locals before t (x ∷ xs) all = (known-more locals before t x all.0, all-more locals before t xs all.1)

known-behind : (locals before : List (List ℕ)) (body : List Assign) (x : List ℕ) → Known locals before x → Known locals (targets-behind before body) x
unfolding targets-behind
known-behind locals before [] x known = known
known-behind locals before (a ∷ body) x known = known-behind locals (a.target ∷ before) body x (known-more locals before a.target x known)

among-behind : (before : List (List ℕ)) (body : List Assign) (x : List ℕ) → is_among x before ≡ true → is_among x (targets-behind before body) ≡ true
unfolding targets-behind
among-behind before [] x old = old
among-behind before (a ∷ body) x old = among-behind (a.target ∷ before) body x (or_right (is_same_name x a.target) (is_among x before) old)

target-behind : (before : List (List ℕ)) (body : List Assign) (k : ℕ) (d : Assign) → k < length body →
    is_among (get_or body k d).target (targets-behind before body) ≡ true
unfolding targets-behind
target-behind before [] k d h = absurd (omega arith)
target-behind before (a ∷ body) zero d h =
    among-behind (a.target ∷ before) body a.target (or_left (is_same_name a.target a.target) (is_among a.target before) (same_name-self a.target))
target-behind before (a ∷ body) (suc k) d h = target-behind (a.target ∷ before) body k d (omega arith)

-- assignments that read what is known before all of them
covered-block : (locals before : List (List ℕ)) (xs rest : List Assign) (answer : Expr) → All (λ a. AllByRecursion (Known locals before) (names_in a.value)) xs
    → Covered locals (targets-behind before xs) rest answer → Covered locals before (xs ++ rest) answer
unfolding targets-behind
covered-block locals before [] rest answer all covered = covered
covered-block locals before (a ∷ xs) rest answer all covered = (
  all 0 a (omega arith),
  covered-block locals (a.target ∷ before) xs rest answer
      (λ k d h. all-more locals before a.target (names_in (get_or xs k d).value) (all (suc k) d (omega arith))) covered,
)

-- gates, each of which reads nets that are known
covered-gates : (net : Netlist) (before : List (List ℕ)) (n : ℕ) (gates : List Gate) (rest : List Assign) (answer : Expr)
    → ((k : ℕ) → k < length gates → net_name net (first_gate net + (n + k)) ≡ gate_name (n + k) (get_or gates k any_gate).wire)
    → ((k : ℕ) → k < length gates → operand_end (get_or gates k any_gate).op ≤ first_gate net + (n + k))
    → ((m : ℕ) → m < first_gate net + n → Known (net_locals net) before (net_name net m))
    → (((m : ℕ) → m < first_gate net + n + length gates → Known (net_locals net) (targets-behind before (numbered (gate_assign net) n gates)) (net_name net m))
    → Covered (net_locals net) (targets-behind before (numbered (gate_assign net) n gates)) rest answer)
    → Covered (net_locals net) before (numbered (gate_assign net) n gates ++ rest) answer
unfolding targets-behind
covered-gates net before n [] rest answer named low known go = go (λ m h. known m (omega arith))
covered-gates net before n (g ∷ gates) rest answer named low known go =
    let target = gate_name n g.wire in
    let z : n + 0 ≡ n = omega arith in
    let here : net_name net (first_gate net + n) ≡ target =
    ap (λ m. net_name net (first_gate net + m)) (sym z) ∙ named 0 (omega arith) ∙ ap (λ m. gate_name m g.wire) z in
    let lowest = low 0 (omega arith) in (
      op-names (Known (net_locals net) before) (net_name net) g.op (first_gate net + n) (omega arith) known,
      covered-gates net (target ∷ before) (n + 1) gates rest answer
          (λ k h. let s : n + suc k ≡ n + 1 + k = omega arith in
          subst (λ m. net_name net (first_gate net + m) ≡ gate_name m (get_or gates k any_gate).wire) s (named (suc k) (omega arith)))
          (λ k h. let more = low (suc k) (omega arith) in omega arith)
          (λ m h. elim (cases_lt m (first_gate net + n)) [
            | inl below ↦ known-more (net_locals net) before target (net_name net m) (known m below)
            | inr last ↦
                let e : m ≡ first_gate net + n = omega arith in
                inr (ap (λ x. is_among x (target ∷ before)) (ap (net_name net) e ∙ here)
                ∙ or_left (is_same_name target target) (is_among target before) (same_name-self target))
          ])
          (λ all. go (λ m h. all m (omega arith))),
    )

-- ---- the whole body

pub no_local-state : (net : Netlist) (j : ℕ) → is_among (state_name j) (net_locals net) ≡ false
no_local-state net j = differ-by mark (λ m. m == 115) (state_name j) (net_locals net) refl (marks-locals net (λ m. not (m == 115)) refl refl refl refl refl)

pub no_local-given : (net : Netlist) (name : List ℕ) → is_among (input_variable name) (net_locals net) ≡ false
no_local-given net name = differ-by mark (λ m. m == 73) (input_variable name) (net_locals net) refl
    (marks-locals net (λ m. not (m == 73)) refl refl refl refl refl)

covered-net : (net : Netlist) → IsWritable net → Covered (net_locals net) [] (net_body net) (Name answer_name)
covered-net net is =
    let locals = net_locals net in
    let inputs = numbered input_assign 0 net.inputs in
    let gates = numbered (gate_assign net) 0 net.gates in
    let nexts = numbered (next_assign net) 0 net.latches in
    let outputs = map (output_assign net) net.outputs in
    let states = numbered state_assign 0 net.latches in
    let b1 = targets-behind [] inputs in
    let b2 = targets-behind b1 gates in
    let b3 = targets-behind b2 nexts in
    let b4 = targets-behind b3 outputs in
    let b5 = targets-behind b4 (answer_assign net ∷ []) in
    let first : (m : ℕ) → m < first_gate net + 0 → Known locals b1 (net_name net m) = λ m h. elim (cases_lt m (length net.inputs)) [
      | inl low ↦
          let n = length-numbered input_assign 0 net.inputs in
          let z : 0 + m ≡ m = omega arith in
          let d : Assign = record { target = []; value = Name [] } in
          let at = get_or-numbered input_assign 0 net.inputs m d [] low ∙ ap (λ i. input_assign i (get_or net.inputs m [])) z in
          inr (ap (λ x. is_among x b1) (net_name-input net m low ∙ ap (λ (a : Assign). a.target) (sym at)) ∙ target-behind [] inputs m d (omega arith))
      | inr high ↦
          let j = m - length net.inputs in
          let e : m ≡ length net.inputs + j = omega arith in
          inl (ap (λ x. is_among x locals) (ap (net_name net) e ∙ net_name-state net j (omega arith)) ∙ no_local-state net j)
    ] in
    covered-block locals [] inputs _ (Name answer_name)
    (numbered-assigns (λ a. AllByRecursion (Known locals []) (names_in a.value)) input_assign net.inputs []
    (λ j h. (inl (no_local-given net (get_or net.inputs j [])), tt)))
    (covered-gates net b1 0 net.gates _ (Name answer_name)
    (λ k h. let z : 0 + k ≡ k = omega arith in subst (λ m. net_name net (first_gate net + m) ≡ gate_name m (get_or net.gates k any_gate).wire) (sym z)
    (net_name-gate net k any_gate h))
    (λ k h. let low = gate-low net is k h in omega arith)
    first
    (λ known.
    let nets : (m : ℕ) → m < net_count net → Known locals b2 (net_name net m) = λ m h. known m (omega arith) in
    covered-block locals b2 nexts _ (Name answer_name)
    (numbered-assigns (λ a. AllByRecursion (Known locals b2) (names_in a.value)) (next_assign net) net.latches any_latch
    (λ j h. (nets (get_or net.latches j any_latch).from.0 (is.is_net.latches_in_range j any_latch h), tt)))
    (covered-block locals b3 outputs _ (Name answer_name)
    (λ k d h. let n = length-map net.outputs (output_assign net) in
    subst (λ (a : Assign). AllByRecursion (Known locals b3) (names_in a.value))
    (sym (get_or-map (output_assign net) net.outputs k any_output d (omega arith))) (
      known-behind locals b2 nexts (net_name net (get_or net.outputs k any_output).net.0)
          (nets (get_or net.outputs k any_output).net.0 (is.is_net.outputs_in_range k any_output (omega arith))),
      tt,
    ))
    (covered-block locals b4 (answer_assign net ∷ []) states (Name answer_name) (one-known net is b2 nexts outputs nets)
    (states-covered net b2 b5 (λ x. answer-last net b2 nexts outputs x)
    (λ x old. among-behind b4 (answer_assign net ∷ []) x (among-behind b3 outputs x old)))))))
  where
    one-known : (net : Netlist) → IsWritable net → (b2 : List (List ℕ)) (nexts outputs : List Assign)
        → ((m : ℕ) → m < net_count net → Known (net_locals net) b2 (net_name net m))
        → All (λ a. AllByRecursion (Known (net_locals net) (targets-behind (targets-behind b2 nexts) outputs)) (names_in a.value)) (answer_assign net ∷ [])
    one-known net is b2 nexts outputs nets zero d h = (
      known-behind (net_locals net) (targets-behind b2 nexts) outputs (net_name net net.paused)
          (known-behind (net_locals net) b2 nexts (net_name net net.paused) (nets net.paused is.is_net.paused_in_range)),
      tt,
    )
    one-known net is b2 nexts outputs nets (suc k) d h = absurd (omega arith)

    answer-last : (net : Netlist) (b2 : List (List ℕ)) (nexts outputs : List Assign) → Unit {0}
        → is_among answer_name (targets-behind (targets-behind (targets-behind b2 nexts) outputs) (answer_assign net ∷ [])) ≡ true
    answer-last net b2 nexts outputs x = target-behind (targets-behind (targets-behind b2 nexts) outputs) (answer_assign net ∷ []) 0 (answer_assign net)
        (omega arith)

    states-covered : (net : Netlist) (b2 b5 : List (List ℕ)) → (Unit {0} → is_among answer_name b5 ≡ true)
        → ((x : List ℕ) → is_among x (targets-behind b2 (numbered (next_assign net) 0 net.latches)) ≡ true → is_among x b5 ≡ true)
        → Covered (net_locals net) b5 (numbered state_assign 0 net.latches) (Name answer_name)
    states-covered net b2 b5 last later =
        let states = numbered state_assign 0 net.latches in
        let nexts = numbered (next_assign net) 0 net.latches in
        let next : (j : ℕ) → j < length net.latches → is_among (next_name j) b5 ≡ true = λ j h.
        let n = length-numbered (next_assign net) 0 net.latches in
        let z : 0 + j ≡ j = omega arith in
        let at = get_or-numbered (next_assign net) 0 net.latches j (answer_assign net) any_latch h
        ∙ ap (λ i. next_assign net i (get_or net.latches j any_latch)) z in
        later (next_name j) (ap (λ x. is_among x (targets-behind b2 nexts)) (ap (λ (a : Assign). a.target) (sym at))
        ∙ target-behind b2 nexts j (answer_assign net) (omega arith)) in
        subst (λ body. Covered (net_locals net) b5 body (Name answer_name)) (append-nil states)
        (covered-block (net_locals net) b5 states [] (Name answer_name)
        (numbered-assigns (λ a. AllByRecursion (Known (net_locals net) b5) (names_in a.value)) state_assign net.latches any_latch (λ j h. (inr (next j h), tt)))
        (known-behind (net_locals net) b5 states answer_name (inr (last tt)), tt))

pub names-fit : (net : Netlist) → IsWritable net → name_fault (net_program net) ≡ None
names-fit net is =
    let set : unset (net_program net) ≡ None = unset-covered (net_locals net) [] (net_locals net)
    (record { are = λ x. sym (and-true (is_among x (net_locals net))) })
    (net_body net) (Name answer_name) (covered-net net is) in
    rw (declared_once net is, undeclared_none net is, set) refl
  where
    and-true : (b : Bool) → (b && true) ≡ b
    and-true true = refl
    and-true false = refl
