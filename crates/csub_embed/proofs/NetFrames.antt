-- The frames of a call of a net's component: where the values of the nets are.
use Rattle.std.proofs.Common.{◌≡◌, ℕ, ◌+◌, ◌-◌, ◌<◌, ◌≤◌, suc, Bool, false, List, [], ◌∷◌, ◌++◌, length, get_or, refl}
use Rattle.std.proofs.Common.{sym, ap, ◌∙◌, subst, arith, inl, inr}
use Rattle.std.specs.Prelude.{if◌then◌else◌}
use Rattle.std.proofs.lemmas.Bool.{cases_lt, lt-ltb, le-ltb}
use Rattle.std.proofs.lemmas.List.{length_push, get_or_append_left, get_or_push}
use Rattle.base_types.specs.Names.{is_same_name}
use Rattle.base_types.proofs.Exports.{same_name-self}
use Rattle.net_ir.specs.declared.netlist.Gate.{Gate}
use Rattle.net_ir.specs.declared.netlist.Op.{Op}
use Rattle.net_ir.specs.declared.netlist.Op.TheVariants as ops
use Rattle.net_ir.specs.Gates.{operand_end, op_value, value_in, gate_values}
use Rattle.net_ir.specs.Netlists.{Netlist, first_gate}
use Rattle.net_ir.specs.Numbered.{numbered}
use Rattle.net_ir.specs.Writing.{IsWritable}
use Rattle.net_ir.proofs.Exports.{differ-decimal, net_cases, op_value-same}
use Rattle.net_expressions.proofs.Exports.{any_gate, gate-low}
use Rattle.csub_text.specs.Machine.{with_value}
use Rattle.csub_embed.specs.Machine.{Frame, place_value, value_at, run_locals}
use Rattle.csub_embed.specs.Trees.{Place, State, Given, Local}
use Rattle.csub_embed.specs.Written.{state_word, gate_word, place_of, op_value_of, gate_local}

-- ---- the place of a net

pub place-input : (net : Netlist) (n : ℕ) → n < length net.inputs → place_of net n ≡ Given (get_or net.inputs n [])
place-input net n h = rw (lt-ltb n (length net.inputs) h) refl

pub place-state : (net : Netlist) (j : ℕ) → j < length net.latches → place_of net (length net.inputs + j) ≡ State (state_word j)
place-state net j h =
    let e : length net.inputs + j - length net.inputs ≡ j = omega arith in
    rw (
      le-ltb (length net.inputs + j) (length net.inputs) (omega arith),
      lt-ltb (length net.inputs + j) (length net.inputs + length net.latches) (omega arith),
    ) (ap (λ i. State (state_word i)) e)

pub place-gate : (net : Netlist) (k : ℕ) → k < length net.gates → place_of net (first_gate net + k) ≡ Local (gate_word k)
place-gate net k h =
    let e : first_gate net + k - first_gate net ≡ k = omega arith in
    rw (le-ltb (first_gate net + k) (length net.inputs) (omega arith), le-ltb (first_gate net + k) (first_gate net) (omega arith))
    (ap (λ i. Local (gate_word i)) e)

-- ---- gates

-- the frame has the values of the nets below a number
abbrev pub Has : Netlist → ℕ → Frame → List Bool → Type 0
Has net end f values = (i : ℕ) → i < end → place_value f (place_of net i) ≡ value_in values i

pub op-value-at : (f : Frame) (place : ℕ → Place) (op : Op) → value_at f (op_value_of place op) ≡ op_value (λ n. place_value f (place n)) op
op-value-at f place (ops.Const value) = refl
op-value-at f place (ops.Copy n) = refl
op-value-at f place (ops.Not n) = refl
op-value-at f place (ops.And m n) = refl
op-value-at f place (ops.Or m n) = refl

-- a gate's local changes the value of no other place of a net
place-kept : (net : Netlist) → IsWritable net → (n : ℕ) → n < length net.gates → (f : Frame) (value : Bool) (i : ℕ) → i < first_gate net + n
    → place_value (record f { local = with_value (gate_word n) value f.local }) (place_of net i) ≡ place_value f (place_of net i)
place-kept net is n low f value i h =
    let few = is.is_net.numbered in
    let g : Frame = record f { local = with_value (gate_word n) value f.local } in
    net_cases net i (omega arith)
    (λ input. ap (place_value g) (place-input net i input) ∙ ap (place_value f) (sym (place-input net i input)))
    (λ j state e.
    let at : place_of net i ≡ State (state_word j) = ap (place_of net) e ∙ place-state net j state in ap (place_value g) at ∙ ap (place_value f) (sym at))
    (λ k gate e.
    let at : place_of net i ≡ Local (gate_word k) = ap (place_of net) e ∙ place-gate net k gate in
    let other : is_same_name (gate_word k) (gate_word n) ≡ false = differ-decimal k n (omega arith) (omega arith) (λ same. let l : k < n =
    omega arith in absurd (omega (arith, l, same))) in
    ap (place_value g) at ∙ ap (λ b. if b then value else f.local (gate_word k)) other ∙ ap (place_value f) (sym at))

pub gates-run : (net : Netlist) → IsWritable net → (n : ℕ) (gates : List Gate) (f : Frame) (values : List Bool)
    → ((k : ℕ) → k < length gates → get_or gates k any_gate ≡ get_or net.gates (n + k) any_gate) → n + length gates ≡ length net.gates
    → length values ≡ first_gate net + n → Has net (first_gate net + n) f values
    → Has net (first_gate net + n + length gates) (run_locals (numbered (gate_local net) n gates) f) (gate_values values gates)
gates-run net is n [] f values same all wide has i h = has i (omega arith)
gates-run net is n (g ∷ gates) f values same all wide has i h =
    let z : n + 0 ≡ n = omega arith in
    let here : g ≡ get_or net.gates n any_gate = same 0 (omega arith) ∙ ap (λ k. get_or net.gates k any_gate) z in
    let low : n < length net.gates = omega arith in
    let value = value_at f (op_value_of (place_of net) g.op) in
    let v = op_value (value_in values) g.op in
    let reads : operand_end g.op ≤ first_gate net + n = subst (λ (g : Gate). operand_end g.op ≤ first_gate net + n) (sym here) (gate-low net is n low) in
    let is-v : value ≡ v = op-value-at f (place_of net) g.op ∙ op_value-same (λ i. place_value f (place_of net i)) (value_in values) g.op
    (first_gate net + n) reads has in
    let next : Frame = record f { local = with_value (gate_word n) value f.local } in
    let longer = length_push values v in
    let more : Has net (first_gate net + (n + 1)) next (values ++ v ∷ []) = λ i h. elim (cases_lt i (first_gate net + n)) [
      | inl below ↦ place-kept net is n low f value i below ∙ has i below ∙ sym (get_or_append_left values (v ∷ []) false i (omega arith))
      | inr last ↦
          let e : i ≡ first_gate net + n = omega arith in
          ap (place_value next) (ap (place_of net) e ∙ place-gate net n low)
          ∙ ap (λ b. if b then value else f.local (gate_word n)) (same_name-self (gate_word n)) ∙ is-v ∙ sym (get_or_push values v false i (wide ∙ sym e))
    ] in
    let rest = gates-run net is (n + 1) gates next (values ++ v ∷ [])
    (λ k h. let s : n + suc k ≡ n + 1 + k = omega arith in same (suc k) (omega arith) ∙ ap (λ j. get_or net.gates j any_gate) s) (omega arith)
    (omega arith) more in
    rest i (omega arith)
