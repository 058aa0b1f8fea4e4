-- Inner: the parts of a net's text, one behind another, are the text.
use Rattle.std.proofs.Common.{◌≡◌, ℕ, ◌^◌, ◌<◌, List, [], ◌∷◌, ◌++◌, length, map, drop, refl, sym, ap, ◌∙◌, arith, append_assoc}
use Rattle.std.specs.Prelude.{flat_map, codes}
use Rattle.std.proofs.lemmas.List.{append-nil}
use Rattle.std.proofs.lemmas.List.Concat.{flat_map-append}
use Rattle.net_ir.specs.declared.netlist.NetOut.{NetOut}
use Rattle.net_ir.specs.Netlists.{Netlist}
use Rattle.net_ir.specs.Numbered.{numbered}
use Rattle.net_writer.specs.Parts.{joined}
use Rattle.net_writer.proofs.Exports.{joined-numbered, joined-mapped, joined-each, joined-one, joined-last}
use Rattle.blif_text.specs.Circuits.{CircuitLatch, Table}
use Rattle.blif_text.specs.Statements.{Statement, Model, Outputs, End}
use Rattle.blif_text.specs.Spelled.{text_of, line_text, spelled, table_statements, latch_statement, inputs_statements}
use Rattle.blif_text.specs.Written.{output_word, paused_word, input_table, gate_table, output_table, copy_table, net_word, net_latch, written}
use Rattle.blif_text.specs.Parts.{spaced, latch_text, table_text, first_lines, inputs_start, inputs_end, outputs_end, last_lines, parts_in}
use Rattle.blif_text.specs.declared.parts.TheConstants.{SECTIONS}

-- ---- lists

latches-text : (latches : List CircuitLatch) → flat_map latch_text latches ≡ text_of (map latch_statement latches)
latches-text [] = refl
latches-text (l ∷ latches) = ap (λ t. latch_text l ++ t) (latches-text latches)

tables-text : (tables : List Table) → flat_map table_text tables ≡ text_of (flat_map table_statements tables)
tables-text [] = refl
tables-text (t ∷ tables) =
    ap (λ l. table_text t ++ l) (tables-text tables)
    ∙ sym (flat_map-append (λ s. line_text (spelled s)) (table_statements t) (flat_map table_statements tables))

-- ---- the beginning

-- the first lines without inputs: the line of the model, and that of the outputs in its parts
without_inputs : (model word names last feed r : List ℕ)
    → ((model ++ []) ++ []) ++ (word ++ (names ++ ((last ++ feed) ++ r))) ≡ (model ++ ((word ++ ((names ++ (last ++ [])) ++ feed)) ++ [])) ++ r
without_inputs model word names last feed r = simp (append_assoc, append-nil) refl

with_inputs : (model mark inputs word names last feed r : List ℕ)
    → ((model ++ []) ++ mark) ++ (inputs ++ ((feed ++ word) ++ (names ++ ((last ++ feed) ++ r))))
    ≡ (model ++ ((mark ++ (inputs ++ feed)) ++ ((word ++ ((names ++ (last ++ [])) ++ feed)) ++ []))) ++ r
with_inputs model mark inputs word names last feed r = simp (append_assoc, append-nil) refl

head-parts : (name : List ℕ) (inputs outputs : List (List ℕ)) (r : List ℕ)
    → (text_of (Model name ∷ []) ++ inputs_start inputs)
    ++ (flat_map spaced inputs ++ (inputs_end inputs ++ (flat_map spaced outputs ++ (outputs_end ++ r))))
    ≡ text_of ((Model name ∷ []) ++ inputs_statements inputs ++ (Outputs (outputs ++ paused_word ∷ []) ∷ [])) ++ r
head-parts name [] outputs r =
    let model = line_text (spelled (Model name)) in
    without_inputs model (codes ".outputs") (flat_map spaced outputs) (32 ∷ paused_word) (10 ∷ []) r
    ∙ ap (λ names. (model ++ ((codes ".outputs" ++ (names ++ 10 ∷ [])) ++ [])) ++ r) (sym (flat_map-append spaced outputs (paused_word ∷ [])))
head-parts name (i ∷ inputs) outputs r =
    let model = line_text (spelled (Model name)) in
    let front = line_text (codes ".inputs" ∷ i ∷ inputs) in
    with_inputs model (codes ".inputs") (flat_map spaced (i ∷ inputs)) (codes ".outputs") (flat_map spaced outputs) (32 ∷ paused_word) (10 ∷ []) r
    ∙ ap (λ names. (model ++ (front ++ ((codes ".outputs" ++ (names ++ 10 ∷ [])) ++ []))) ++ r)
    (sym (flat_map-append spaced outputs (paused_word ∷ [])))

whole-parts : (head : List Statement) (latches : List CircuitLatch) (end : List Statement) (a b c d : List Table)
    → text_of head ++ (flat_map latch_text latches ++ (flat_map table_text a ++ (flat_map table_text b
    ++ (flat_map table_text c ++ text_of (flat_map table_statements d ++ end)))))
    ≡ text_of (((head ++ map latch_statement latches) ++ flat_map table_statements (((a ++ b) ++ c) ++ d)) ++ end)
whole-parts head latches end a b c d =
    rw (latches-text latches, tables-text a, tables-text b, tables-text c) (simp (flat_map-append, append_assoc) refl)

pub written-joined : (net : Netlist) → joined (flat_map (parts_in net) SECTIONS) ≡ written net
written-joined net =
    let from : ℕ → List (List ℕ) = λ n. flat_map (parts_in net) (drop n SECTIONS) in
    let names = map (λ (o : NetOut). output_word net.inputs o.name) net.outputs in
    joined-one (first_lines net) (from 1)
    (joined-each spaced net.inputs (from 2)
    (joined-one (inputs_end net.inputs) (from 3)
    (joined-mapped spaced (λ (o : NetOut). output_word net.inputs o.name) net.outputs (from 4)
    (joined-one outputs_end (from 5)
    (joined-numbered latch_text (net_latch net) 0 net.latches (from 6)
    (joined-numbered table_text input_table 0 net.inputs (from 7)
    (joined-numbered table_text (gate_table net) 0 net.gates (from 8)
    (joined-mapped table_text (output_table net) net.outputs (from 9)
    (joined-last (last_lines net))))))))))
    ∙ head-parts net.name net.inputs names _
    ∙ whole-parts ((Model net.name ∷ []) ++ inputs_statements net.inputs ++ (Outputs (names ++ paused_word ∷ []) ∷ []))
    (numbered (net_latch net) 0 net.latches) (End ∷ []) (numbered input_table 0 net.inputs) (numbered (gate_table net) 0 net.gates)
    (map (output_table net) net.outputs) (copy_table (net_word net net.paused) paused_word ∷ [])
