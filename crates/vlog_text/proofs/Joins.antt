-- Inner: the parts of a net's text, one behind another, are the text.
use Rattle.std.proofs.Common.{◌≡◌, ℕ, ◌^◌, ◌<◌, List, [], ◌∷◌, ◌++◌, length, map, drop, refl, sym, ap, ◌∙◌, arith, append_assoc}
use Rattle.std.specs.Prelude.{flat_map}
use Rattle.std.proofs.lemmas.List.{append-nil, map-append}
use Rattle.std.proofs.lemmas.List.Concat.{flat_map-append}
use Rattle.net_ir.specs.declared.netlist.Gate.{Gate}
use Rattle.net_ir.specs.declared.netlist.Latch.{Latch}
use Rattle.net_ir.specs.Netlists.{Netlist}
use Rattle.net_ir.specs.Numbered.{numbered}
use Rattle.net_expressions.specs.NetNames.{state_name, gate_name}
use Rattle.net_writer.specs.Parts.{joined}
use Rattle.net_writer.proofs.Exports.{joined-numbered, joined-mapped, joined-one, joined-last}
use Rattle.vlog_text.specs.Trees.{Input, Output, Reg, Wire}
use Rattle.vlog_text.specs.Names.{paused_name}
use Rattle.vlog_text.specs.Parts.{parts_in}
use Rattle.vlog_text.specs.declared.parts.TheConstants.{SECTIONS}
use Rattle.vlog_text.specs.Written.{module_name, clock_name, input_name, output_name, declares, gate_assign, output_assign, paused_assign, latch_initial}
use Rattle.vlog_text.specs.Written.{latch_next, next_port, head_front, head_end, declaration_line, initial_line, assign_line, clock_line, next_line, last_lines}
use Rattle.vlog_text.specs.Written.{written}

-- a name between two pieces of a text
pub around : (text front name a b : List ℕ) → ((text ++ front) ++ name) ++ (a ++ b) ≡ text ++ ((front ++ (name ++ a)) ++ b)
around text front name a b = simp append_assoc refl

-- what is made of each element of a list in two steps
joined-twice : {X Y Z : Type 0} (line : Z → List ℕ) (f : Y → Z) (g : X → Y) (xs : List X) (ys : List (List ℕ)) {rest : List ℕ} → joined ys ≡ rest
    → joined (map (λ x. line (f (g x))) xs ++ ys) ≡ flat_map line (map f (map g xs)) ++ rest
joined-twice line f g [] ys e = e
joined-twice line f g (x ∷ xs) ys {rest} e =
    ap (λ l. line (f (g x)) ++ l) (joined-twice line f g xs ys e) ∙ sym (append_assoc (line (f (g x))) (flat_map line (map f (map g xs))) rest)

regrouped : {D I A N : Type 0} (port : List ℕ → List ℕ) (declared : D → List ℕ) (initial : I → List ℕ) (assign : A → List ℕ) (next : N → List ℕ)
    (head clock end line last p : List ℕ) (a b : List (List ℕ)) (c q : D) (u v r w : List D) (i : List I) (g o : List A) (t : A) (n : List N)
    → (head ++ clock) ++ (flat_map port a ++ (flat_map port b ++ ((port p ++ (end ++ declared c)) ++ (flat_map declared u ++ (flat_map declared v
    ++ (declared q ++ (flat_map declared r ++ (flat_map declared w ++ (flat_map initial i ++ (flat_map assign g ++ (flat_map assign o ++ ((assign t ++ line)
    ++ (flat_map next n ++ last)))))))))))))
    ≡ head ++ ((clock ++ flat_map port (a ++ (b ++ p ∷ []))) ++ (end ++ ((declared c ++ flat_map declared (u ++ ((v ++ q ∷ []) ++ (r ++ w))))
    ++ (flat_map initial i ++ (flat_map assign (g ++ (o ++ t ∷ [])) ++ (line ++ (flat_map next n ++ last)))))))
regrouped port declared initial assign next head clock end line last p a b c q u v r w i g o t n = simp (flat_map-append, append_assoc, append-nil) refl

pub written-joined : (net : Netlist) → joined (flat_map (parts_in net) SECTIONS) ≡ written net
written-joined net =
    let from : ℕ → List (List ℕ) = λ n. flat_map (parts_in net) (drop n SECTIONS) in
    let regs = numbered (λ j (latch : Latch). declares Reg (state_name j)) 0 net.latches in
    let ports_end = next_port paused_name ++ (head_end ++ declaration_line (declares Input clock_name)) in
    let begins = assign_line (paused_assign net) ++ clock_line clock_name in
    let wires = numbered (λ k (gate : Gate). declares Wire (gate_name k gate.wire)) 0 net.gates in
    joined-one (head_front (module_name net.name) ++ clock_name) (from 1)
    (joined-mapped next_port input_name net.inputs (from 2)
    (joined-mapped next_port output_name net.outputs (from 3)
    (joined-one ports_end (from 4)
    (joined-twice declaration_line (declares Input) input_name net.inputs (from 5)
    (joined-twice declaration_line (declares Output) output_name net.outputs (from 6)
    (joined-one (declaration_line (declares Output paused_name)) (from 7)
    (joined-numbered declaration_line (λ j (latch : Latch). declares Reg (state_name j)) 0 net.latches (from 8)
    (joined-numbered declaration_line (λ k (gate : Gate). declares Wire (gate_name k gate.wire)) 0 net.gates (from 9)
    (joined-numbered initial_line latch_initial 0 net.latches (from 10)
    (joined-numbered assign_line (gate_assign net) 0 net.gates (from 11)
    (joined-mapped assign_line (output_assign net) net.outputs (from 12)
    (joined-one begins (from 13)
    (joined-numbered next_line (latch_next net) 0 net.latches (from 14)
    (joined-last last_lines))))))))))))))
    ∙ regrouped next_port declaration_line initial_line assign_line next_line (head_front (module_name net.name)) clock_name head_end (clock_line clock_name)
    last_lines paused_name (map input_name net.inputs) (map output_name net.outputs) (declares Input clock_name) (declares Output paused_name)
    (map (declares Input) (map input_name net.inputs)) (map (declares Output) (map output_name net.outputs)) regs wires (numbered latch_initial 0 net.latches)
    (numbered (gate_assign net) 0 net.gates) (map (output_assign net) net.outputs) (paused_assign net) (numbered (latch_next net) 0 net.latches)
    ∙ rw (map-append (declares Output) (map output_name net.outputs) (paused_name ∷ [])) refl
