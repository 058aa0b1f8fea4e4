-- Inner: the name of a net, by what drives it.
use Rattle.std.proofs.Common.{◌≡◌, ℕ, ◌+◌, ◌-◌, ◌<◌, ◌≤◌, [], ◌++◌, length, get_or, sym, ap, ◌∙◌, arith}
use Rattle.std.proofs.lemmas.List.{length-map, get_or-map, get_or_append_left, get_or-append-add}
use Rattle.net_ir.specs.declared.netlist.Gate.{Gate}
use Rattle.net_ir.specs.declared.netlist.Latch.{Latch}
use Rattle.net_ir.specs.Netlists.{Netlist, first_gate}
use Rattle.net_ir.proofs.Exports.{get_or-numbered, length-numbered}
use Rattle.net_expressions.proofs.Exports.{any_gate, any_latch}
use Rattle.vlog_reset.specs.Options.{ModuleOptions}
use Rattle.vlog_reset.specs.Written.{input_name, state_word, gate_word, input_words, state_words, gate_words, net_word}

pub word-input : (o : ModuleOptions) (net : Netlist) (n k : ℕ) → n < length net.inputs → k ≡ n → net_word o net n ≡ input_name o (get_or net.inputs k [])
word-input o net n k h is =
    let wide = length-map net.inputs (input_name o) in
    get_or_append_left (input_words o net) (state_words net ++ gate_words net) [] n (omega arith) ∙ get_or-map (input_name o) net.inputs n [] [] h
    ∙ ap (λ i. input_name o (get_or net.inputs i [])) (sym is)

pub word-state : (o : ModuleOptions) (net : Netlist) (n k : ℕ) → length net.inputs ≤ n → n < first_gate net → k ≡ n - length net.inputs
    → net_word o net n ≡ state_word k
word-state o net n k low high is =
    let wide = length-map net.inputs (input_name o) in
    let deep = length-numbered (λ j (x : Latch). state_word j) 0 net.latches in
    let at : n ≡ length (input_words o net) + k = omega arith in
    let z : 0 + k ≡ k = omega arith in
    ap (net_word o net) at ∙ get_or-append-add (input_words o net) (state_words net ++ gate_words net) k []
    ∙ get_or_append_left (state_words net) (gate_words net) [] k (omega arith)
    ∙ get_or-numbered (λ j (x : Latch). state_word j) 0 net.latches k [] any_latch (omega arith) ∙ ap state_word z

pub word-gate : (o : ModuleOptions) (net : Netlist) (n k : ℕ) → first_gate net ≤ n → k < length net.gates → k ≡ n - first_gate net
    → net_word o net n ≡ gate_word k
word-gate o net n k low high is =
    let wide = length-map net.inputs (input_name o) in
    let deep = length-numbered (λ j (x : Latch). state_word j) 0 net.latches in
    let at : n ≡ length (input_words o net) + (length (state_words net) + k) = omega arith in
    let z : 0 + k ≡ k = omega arith in
    ap (net_word o net) at ∙ get_or-append-add (input_words o net) (state_words net ++ gate_words net) (length (state_words net) + k) []
    ∙ get_or-append-add (state_words net) (gate_words net) k []
    ∙ get_or-numbered (λ j (x : Gate). gate_word j) 0 net.gates k [] any_gate high ∙ ap gate_word z

pub ruleset word_rules = (word-input, word-state, word-gate)
