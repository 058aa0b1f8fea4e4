-- Inner: the parts of a net's text, one behind another, are the text.
use Rattle.std.proofs.Common.{◌≡◌, ℕ, ◌^◌, ◌<◌, List, [], ◌∷◌, ◌++◌, length, map, drop, refl, ◌∙◌, arith, append_assoc}
use Rattle.std.specs.Prelude.{flat_map}
use Rattle.std.proofs.lemmas.List.{append-nil}
use Rattle.std.proofs.lemmas.List.Concat.{flat_map-append}
use Rattle.net_ir.specs.declared.netlist.Gate.{Gate}
use Rattle.net_ir.specs.declared.netlist.Latch.{Latch}
use Rattle.net_ir.specs.Netlists.{Netlist}
use Rattle.net_ir.specs.Numbered.{numbered}
use Rattle.net_writer.specs.Parts.{joined}
use Rattle.net_writer.proofs.Exports.{joined-numbered, joined-mapped, joined-one, joined-last}
use Rattle.csub_text.specs.Trees.{Name}
use Rattle.csub_text.specs.Written.{input_name, gate_name, next_name, answer_name, input_variable, output_variable, net_state, input_assign}
use Rattle.csub_text.specs.Written.{gate_assign, next_assign, output_assign, answer_assign, state_assign, gate_names, state_line, declaration, assign_line}
use Rattle.csub_text.specs.Written.{head_line, last_lines, written}
use Rattle.csub_text.specs.Parts.{parts_in}
use Rattle.csub_text.specs.declared.parts.TheConstants.{SECTIONS}

whole-parts : {S A : Type 0} (state : S → List ℕ) (declared : List ℕ → List ℕ) (assign : A → List ℕ) (head last : List ℕ)
    (s : List S) (a b c d e : List (List ℕ)) (r : List ℕ) (v w x y z : List A) (t : A)
    → flat_map state s ++ (flat_map declared a ++ (flat_map declared b ++ (head ++ (flat_map declared c ++ (flat_map declared d ++ (flat_map declared e
    ++ (declared r ++ (flat_map assign v ++ (flat_map assign w ++ (flat_map assign x ++ (flat_map assign y ++ (assign t ++ (flat_map assign z
    ++ last)))))))))))))
    ≡ flat_map state s ++ (flat_map declared (a ++ b) ++ (head ++ (flat_map declared (c ++ (d ++ (e ++ (r ∷ []))))
    ++ (flat_map assign (v ++ (w ++ (x ++ (y ++ ((t ∷ []) ++ z))))) ++ last))))
whole-parts state declared assign head last s a b c d e r v w x y z t = simp (flat_map-append, append_assoc, append-nil) refl

pub written-joined : (net : Netlist) → joined (flat_map (parts_in net) SECTIONS) ≡ written net
written-joined net =
    let from : ℕ → List (List ℕ) = λ n. flat_map (parts_in net) (drop n SECTIONS) in
    joined-numbered state_line net_state 0 net.latches (from 1)
    (joined-mapped declaration input_variable net.inputs (from 2)
    (joined-mapped declaration output_variable net.outputs (from 3)
    (joined-one head_line (from 4)
    (joined-numbered declaration (λ j (name : List ℕ). input_name j) 0 net.inputs (from 5)
    (joined-numbered declaration (λ k (gate : Gate). gate_name k gate.wire) 0 net.gates (from 6)
    (joined-numbered declaration (λ j (latch : Latch). next_name j) 0 net.latches (from 7)
    (joined-one (declaration answer_name) (from 8)
    (joined-numbered assign_line input_assign 0 net.inputs (from 9)
    (joined-numbered assign_line (gate_assign net) 0 net.gates (from 10)
    (joined-numbered assign_line (next_assign net) 0 net.latches (from 11)
    (joined-mapped assign_line (output_assign net) net.outputs (from 12)
    (joined-one (assign_line (answer_assign net)) (from 13)
    (joined-numbered assign_line state_assign 0 net.latches (from 14)
    (joined-last (last_lines (Name answer_name))))))))))))))))
    ∙ whole-parts state_line declaration assign_line head_line (last_lines (Name answer_name)) (numbered net_state 0 net.latches)
    (map input_variable net.inputs) (map output_variable net.outputs) (numbered (λ j name. input_name j) 0 net.inputs) (gate_names net)
    (numbered (λ j latch. next_name j) 0 net.latches) answer_name (numbered input_assign 0 net.inputs) (numbered (gate_assign net) 0 net.gates)
    (numbered (next_assign net) 0 net.latches) (map (output_assign net) net.outputs) (numbered state_assign 0 net.latches) (answer_assign net)
