-- The variables of a net's program: what they are, and that no two are one.
use Rattle.std.proofs.Common.{◌≡◌, ℕ, ◌==◌, Bool, true, not, ◌||◌, List, [], ◌∷◌, ◌++◌}
use Rattle.std.proofs.Common.{map, refl, ap, ◌∙◌, arith}
use Rattle.std.specs.List.{list_all}
use Rattle.std.proofs.lemmas.Bool.{and_from}
use Rattle.std.proofs.lemmas.List.{map-id}
use Rattle.net_ir.specs.declared.netlist.NetOut.{NetOut}
use Rattle.base_types.specs.Distinct.{all_differ}
use Rattle.base_types.specs.Names.{is_same_name}
use Rattle.net_ir.specs.Netlists.{Netlist}
use Rattle.csub_text.specs.Written.{input_name, next_name, answer_name, input_variable, output_variable}
use Rattle.csub_text.specs.Written.{net_globals, net_locals, gate_names}
use Rattle.net_ir.specs.Numbered.{numbered}
use Rattle.net_ir.proofs.Exports.{apart-by, differ-decimal, joined-differ, numbered-differ}
use Rattle.net_ir.specs.Writing.{IsWritable}
use Rattle.net_expressions.proofs.Exports.{mark, state_names, all-numbered, all-mapped, marks-states, marks-gates, differ-states, differ-gates, marked-differ}
use Rattle.net_expressions.proofs.Exports.{in-front, all-both}

-- ---- the first byte tells the kinds of names apart

-- the lists of variables
abbrev pub input_names : Netlist → List (List ℕ)
input_names net = numbered (λ j name. input_name j) 0 net.inputs

abbrev pub next_names : Netlist → List (List ℕ)
next_names net = numbered (λ j latch. next_name j) 0 net.latches

abbrev pub given_variables : Netlist → List (List ℕ)
given_variables net = map input_variable net.inputs

abbrev pub shown_variables : Netlist → List (List ℕ)
shown_variables net = map output_variable net.outputs

pub marks-inputs : (net : Netlist) (p : ℕ → Bool) → p 105 ≡ true → list_all (λ x. p (mark x)) (input_names net) ≡ true
marks-inputs net p holds = all-numbered (λ x. p (mark x)) (λ j name. input_name j) 0 net.inputs (λ k x. holds)

pub marks-nexts : (net : Netlist) (p : ℕ → Bool) → p 116 ≡ true → list_all (λ x. p (mark x)) (next_names net) ≡ true
marks-nexts net p holds = all-numbered (λ x. p (mark x)) (λ j latch. next_name j) 0 net.latches (λ k x. holds)

pub marks-given : (net : Netlist) (p : ℕ → Bool) → p 73 ≡ true → list_all (λ x. p (mark x)) (given_variables net) ≡ true
marks-given net p holds = all-mapped (λ x. p (mark x)) input_variable net.inputs (λ x. holds)

pub marks-shown : (net : Netlist) (p : ℕ → Bool) → p 79 ≡ true → list_all (λ x. p (mark x)) (shown_variables net) ≡ true
marks-shown net p holds = all-mapped (λ x. p (mark x)) output_variable net.outputs (λ x. holds)

-- ---- in each list the names differ

pub differ-inputs : (net : Netlist) → IsWritable net → all_differ is_same_name (input_names net) ≡ true
differ-inputs net is =
    let few = is.is_net.numbered in numbered-differ input_name differ-decimal 0 net.inputs (omega arith)

pub differ-nexts : (net : Netlist) → IsWritable net → all_differ is_same_name (next_names net) ≡ true
differ-nexts net is =
    let few = is.is_net.numbered in numbered-differ next_name differ-decimal 0 net.latches (omega arith)

pub differ-given : (net : Netlist) → IsWritable net → all_differ is_same_name (given_variables net) ≡ true
differ-given net is = marked-differ 73 95 (λ name. name) net.inputs refl refl ∙ ap (all_differ is_same_name) (map-id net.inputs) ∙ is.is_net.inputs_differ

pub differ-shown : (net : Netlist) → IsWritable net → all_differ is_same_name (shown_variables net) ≡ true
differ-shown net is = marked-differ 79 95 (λ (o : NetOut). o.name) net.outputs refl refl ∙ is.is_net.outputs_differ

-- ---- all together

pub differ-globals : (net : Netlist) → IsWritable net → all_differ is_same_name (net_globals net) ≡ true
differ-globals net is = joined-differ (given_variables net) (shown_variables net) (differ-given net is)
    (apart-by mark (λ m. m == 73) (given_variables net) (shown_variables net) (marks-given net (λ m. m == 73) refl) (marks-shown net (λ m. not (m == 73)) refl))
    (differ-shown net is)

pub marks-locals : (net : Netlist) (p : ℕ → Bool) → p 105 ≡ true → p 103 ≡ true → p 119 ≡ true → p 116 ≡ true → p 114 ≡ true
    → list_all (λ x. p (mark x)) (net_locals net) ≡ true
marks-locals net p i g w t r =
    all-both (λ x. p (mark x)) (input_names net) (gate_names net ++ (next_names net ++ (answer_name ∷ []))) (marks-inputs net p i)
    (all-both (λ x. p (mark x)) (gate_names net) (next_names net ++ (answer_name ∷ [])) (marks-gates net p g w)
    (all-both (λ x. p (mark x)) (next_names net) (answer_name ∷ []) (marks-nexts net p t) (and_from (p 114) true r refl)))

pub differ-locals : (net : Netlist) → IsWritable net → all_differ is_same_name (net_locals net) ≡ true
differ-locals net is =
    let tails = in-front (λ m. m == 116) (next_names net) (answer_name ∷ []) (differ-nexts net is) (marks-nexts net (λ m. m == 116) refl) refl refl in
    let gates = in-front (λ m. m == 103 || m == 119) (gate_names net) (next_names net ++ (answer_name ∷ [])) (differ-gates net is)
    (marks-gates net (λ m. m == 103 || m == 119) refl refl)
    (all-both (λ x. not (mark x == 103 || mark x == 119)) (next_names net) (answer_name ∷ []) (marks-nexts net (λ m. not (m == 103 || m == 119)) refl) refl)
    tails in
    in-front (λ m. m == 105) (input_names net) (gate_names net ++ (next_names net ++ (answer_name ∷ []))) (differ-inputs net is)
    (marks-inputs net (λ m. m == 105) refl)
    (all-both (λ x. not (mark x == 105)) (gate_names net) (next_names net ++ (answer_name ∷ [])) (marks-gates net (λ m. not (m == 105)) refl refl)
    (all-both (λ x. not (mark x == 105)) (next_names net) (answer_name ∷ []) (marks-nexts net (λ m. not (m == 105)) refl) refl)) gates

pub differ-declared : (net : Netlist) → IsWritable net → all_differ is_same_name (state_names net ++ (net_globals net ++ net_locals net)) ≡ true
differ-declared net is =
    let globals = in-front (λ m. m == 73 || m == 79) (net_globals net) (net_locals net) (differ-globals net is)
    (all-both (λ x. mark x == 73 || mark x == 79) (given_variables net) (shown_variables net) (marks-given net (λ m. m == 73 || m == 79) refl)
    (marks-shown net (λ m. m == 73 || m == 79) refl))
    (marks-locals net (λ m. not (m == 73 || m == 79)) refl refl refl refl refl) (differ-locals net is) in
    in-front (λ m. m == 115) (state_names net) (net_globals net ++ net_locals net) (differ-states net is) (marks-states net (λ m. m == 115) refl)
    (all-both (λ x. not (mark x == 115)) (net_globals net) (net_locals net)
    (all-both (λ x. not (mark x == 115)) (given_variables net) (shown_variables net) (marks-given net (λ m. not (m == 115)) refl)
    (marks-shown net (λ m. not (m == 115)) refl))
    (marks-locals net (λ m. not (m == 115)) refl refl refl refl refl)) globals
