-- Inner: the parts of a net's text, one after another, are the text.
use Rattle.std.proofs.Common.{◌≡◌, ℕ, Bool, true, false, List, [], ◌∷◌, ◌++◌, map, drop, refl, ◌∙◌, append_assoc}
use Rattle.std.specs.Prelude.{flat_map, codes, if◌then◌else◌}
use Rattle.std.proofs.lemmas.List.{append-nil}
use Rattle.std.proofs.lemmas.List.Concat.{flat_map-append}
use Rattle.net_ir.specs.declared.netlist.Gate.{Gate}
use Rattle.net_ir.specs.Netlists.{Netlist}
use Rattle.net_ir.specs.Numbered.{numbered}
use Rattle.net_writer.specs.Parts.{joined}
use Rattle.net_writer.proofs.Exports.{joined-numbered, joined-mapped, joined-one, joined-last}
use Rattle.vlog_text.specs.Names.{paused_name}
use Rattle.vlog_text.specs.Trees.{Register}
use Rattle.vlog_text.specs.Written.{clock_name}
use Rattle.vlog_reset.specs.Grammar.{initial_ones, where_some}
use Rattle.vlog_reset.specs.Options.{ModuleOptions}
use Rattle.vlog_reset.specs.Parts.{end_text, front_text, parts_in, reset_head}
use Rattle.vlog_reset.specs.Texts.{first_line, last_line}
use Rattle.vlog_reset.specs.Trees.{Manner}
use Rattle.vlog_reset.specs.Written.{assign_line, clock_lines, comments, else_line, end_line, first_value_line, gate_assign, gate_word, gate_words, module_head}
use Rattle.vlog_reset.specs.Written.{initial_line, input_name, input_port, lint_lines, module_name, net_register, next_line, output_assign, output_name}
use Rattle.vlog_reset.specs.Written.{output_port, paused_assign, ports_end, reg_line, wire_declaration, written}
use Rattle.vlog_reset.specs.declared.parts.TheConstants.{SECTIONS}

-- the lists of the parts in their sections are those of the text
whole-parts : {A : Type 0} (port : List ℕ → List ℕ) (assign : A → List ℕ)
    (first comments lint head ports_end regs wires initials clock values elses nexts end closing last : List ℕ)
    (inputs : List ℕ) (outputs : List (List ℕ)) (paused_port : List ℕ) (gates shown : List A) (paused : A)
    → (first ++ (comments ++ (lint ++ head))) ++ (inputs ++ (flat_map port outputs ++ ((port paused_port ++ ports_end) ++ (regs ++ (wires ++ (initials
    ++ (flat_map assign gates ++ (flat_map assign shown ++ ((assign paused ++ clock) ++ (values ++ (elses ++ (nexts ++ (end ++ (closing ++ last))))))))))))))
    ≡ first ++ ((comments ++ (lint ++ (head ++ (inputs ++ (flat_map port (outputs ++ paused_port ∷ []) ++ (ports_end ++ (regs ++ (wires ++ (initials
    ++ (flat_map assign (gates ++ (shown ++ paused ∷ [])) ++ (clock ++ (values ++ (elses ++ (nexts ++ (end ++ closing))))))))))))))) ++ last)
whole-parts port assign first comments lint head ports_end regs wires initials clock values elses nexts end closing last inputs outputs paused_port gates shown
    paused =
    simp (flat_map-append, append_assoc, append-nil) refl

-- a list of numbered elements is empty where the other one is
some-numbered : {X Y : Type 0} (f : ℕ → X → Y) (n : ℕ) (xs : List X) (text : List ℕ) → where_some (numbered f n xs) text ≡ where_some xs text
some-numbered f n [] text = refl
some-numbered f n (x ∷ xs) text = refl

initial-numbered : {X Y : Type 0} (manner : Manner) (f : ℕ → X → Y) (xs : List X)
    → initial_ones manner (numbered f 0 xs) ≡ numbered f 0 (initial_ones manner xs)
initial-numbered manner f xs = go manner.is_initialized
  where
    go : (b : Bool) → (if b then numbered f 0 xs else []) ≡ numbered f 0 (if b then xs else [])
    go true = refl
    go false = refl

pub written-joined : (o : ModuleOptions) (net : Netlist) → joined (flat_map (parts_in o net) SECTIONS) ≡ written o net
written-joined o net =
    let from : ℕ → List (List ℕ) = λ n. flat_map (parts_in o net) (drop n SECTIONS) in
    let f = net_register o net in
    let clock = clock_lines o.manner clock_name o.reset in
    let initials = numbered f 0 (initial_ones o.manner net.latches) in
    let registers = numbered f 0 net.latches in
    let reg = λ (r : Register). reg_line r.name in
    let initial = λ (r : Register). initial_line r.name r.init in
    let value = λ (r : Register). first_value_line r.name r.init in
    let next = λ (r : Register). next_line r.name r.from in
    rw (
      some-numbered f 0 net.latches clock,
      some-numbered f 0 net.latches else_line,
      some-numbered f 0 net.latches end_line,
      initial-numbered o.manner f net.latches,
    )
    (joined-one (front_text o net) (from 1)
    (joined-mapped input_port (input_name o) net.inputs (from 2)
    (joined-mapped output_port (output_name o) net.outputs (from 3)
    (joined-one (output_port paused_name ++ ports_end) (from 4)
    (joined-numbered reg f 0 net.latches (from 5)
    (joined-numbered wire_declaration (λ k (gate : Gate). gate_word k) 0 net.gates (from 6)
    (joined-numbered initial f 0 (initial_ones o.manner net.latches) (from 7)
    (joined-numbered assign_line (gate_assign o net) 0 net.gates (from 8)
    (joined-mapped assign_line (output_assign o net) net.outputs (from 9)
    (joined-one (reset_head o net) (from 10)
    (joined-numbered value f 0 net.latches (from 11)
    (joined-one (where_some net.latches else_line) (from 12)
    (joined-numbered next f 0 net.latches (from 13)
    (joined-last (end_text net))))))))))))))
    ∙ whole-parts output_port assign_line first_line (comments (module_name o net) clock_name o.reset o.manner) lint_lines
    (module_head (module_name o net) clock_name o.reset) ports_end (flat_map reg registers) (flat_map wire_declaration (gate_words net))
    (flat_map initial initials)
    (where_some net.latches clock) (flat_map value registers) (where_some net.latches else_line) (flat_map next registers)
    (where_some net.latches end_line) (codes "endmodule\n") last_line (flat_map input_port (map (input_name o) net.inputs))
    (map (output_name o) net.outputs) paused_name (numbered (gate_assign o net) 0 net.gates) (map (output_assign o net) net.outputs) (paused_assign o net))
