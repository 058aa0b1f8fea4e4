-- Inner: the parts of a net's text, one behind another, are the text.
use Rattle.std.proofs.Common.{◌≡◌, ℕ, Bool, false, List, [], ◌∷◌, ◌++◌, map, drop, refl, sym, ap, ◌∙◌, append_assoc}
use Rattle.std.specs.Prelude.{flat_map, codes}
use Rattle.std.proofs.lemmas.List.{append-nil}
use Rattle.std.proofs.lemmas.List.Concat.{flat_map-append}
use Rattle.net_ir.specs.declared.netlist.Gate.{Gate}
use Rattle.net_ir.specs.declared.netlist.Latch.{Latch}
use Rattle.net_ir.specs.declared.netlist.NetOut.{NetOut}
use Rattle.net_ir.specs.Netlists.{Netlist, output_names}
use Rattle.net_ir.specs.Numbered.{numbered}
use Rattle.net_ir.proofs.Exports.{map-numbered}
use Rattle.net_writer.specs.Parts.{joined}
use Rattle.net_writer.proofs.Exports.{joined-numbered, joined-mapped, joined-each, joined-one, joined-last}
use Rattle.csub_embed.specs.Grammar.{self_word, out_word}
use Rattle.csub_embed.specs.Texts.{lines_before, lines_after}
use Rattle.csub_embed.specs.Trees.{Local, name_of_state}
use Rattle.csub_embed.specs.Written.{state_word, running_word, net_state, gate_local, next_local, running_local, output_store, state_store, net_ignored}
use Rattle.csub_embed.specs.Written.{comment, open_text, member_line, unused_line, close_text, prototype_text, reset_head, body_start, ignored_line}
use Rattle.csub_embed.specs.Written.{untouched_line, first_line, react_head, local_line, store_line, return_lines, structures_text, function_text}
use Rattle.csub_embed.specs.Written.{net_component, written}
use Rattle.csub_embed.specs.Parts.{sections_of, first_text, states_end, inputs_end, outputs_end, reset_text, react_text, parts_in}
use Rattle.csub_embed.specs.declared.layout.EmbedFile.{EmbedFile}
use Rattle.csub_embed.specs.declared.layout.EmbedFile.TheVariants.{Header, Declarations, Definitions}
use Rattle.csub_embed.specs.declared.layout.EmbedLayout.{EmbedLayout}
use Rattle.csub_embed.specs.declared.parts.TheConstants.{HEADER, DECLARATIONS, DEFINITIONS}

-- what is written where there is no member depends on the number of members alone
unused-states : (latches : List Latch) (n : ℕ) → unused_line (map name_of_state (numbered net_state n latches)) ≡ unused_line latches
unused-states [] n = refl
unused-states (l ∷ latches) n = refl

untouched-states : (latches : List Latch) (n : ℕ) → untouched_line (map name_of_state (numbered net_state n latches)) ≡ untouched_line latches
untouched-states [] n = refl
untouched-states (l ∷ latches) n = refl

unused-outputs : (outputs : List NetOut) → unused_line (map (λ (o : NetOut). o.name) outputs) ≡ unused_line outputs
unused-outputs [] = refl
unused-outputs (o ∷ outputs) = refl

-- ---- the structures

structure-pieces : (opened states u1 c1 inputs u2 c2 outputs u3 c3 rest : List ℕ)
    → opened ++ (states ++ ((u1 ++ (c1 ++ opened)) ++ (inputs ++ ((u2 ++ (c2 ++ opened)) ++ (outputs ++ ((u3 ++ c3) ++ rest))))))
    ≡ ((opened ++ (states ++ (u1 ++ c1))) ++ ((opened ++ (inputs ++ (u2 ++ c2))) ++ (opened ++ (outputs ++ (u3 ++ c3))))) ++ rest
structure-pieces opened states u1 c1 inputs u2 c2 outputs u3 c3 rest = simp append_assoc refl

-- the structures with these states, and these lines where there are no members
abbrev structures : Netlist → List ℕ → List ℕ → List ℕ → List ℕ
structures net states u1 u3 =
    (open_text ++ (states ++ (u1 ++ close_text (net.name ++ codes "_t"))))
    ++ ((open_text ++ (flat_map (member_line false) net.inputs ++ (unused_line net.inputs ++ close_text (net.name ++ codes "_inputs_t"))))
    ++ (open_text ++ (flat_map (member_line false) (output_names net) ++ (u3 ++ close_text (net.name ++ codes "_outputs_t")))))

structures-joined : (packed : Bool) (net : Netlist) (ys : List (List ℕ)) {rest : List ℕ} → joined ys ≡ rest
    → joined (open_text ∷ (numbered (λ j (latch : Latch). member_line packed (state_word j)) 0 net.latches ++ (states_end net
    ∷ (map (λ name. member_line false name) net.inputs ++ (inputs_end net ∷ (map (λ (o : NetOut). member_line false o.name) net.outputs
    ++ (outputs_end net ∷ ys)))))))
    ≡ structures_text packed (net_component net) ++ rest
structures-joined packed net ys {rest} e =
    let states = numbered (λ j (latch : Latch). state_word j) 0 net.latches in
    let named : states ≡ map name_of_state (net_component net).states = sym (map-numbered name_of_state net_state 0 net.latches) in
    let parts1 = outputs_end net ∷ ys in
    let parts2 = map (λ (o : NetOut). member_line false o.name) net.outputs ++ parts1 in
    let parts3 = inputs_end net ∷ parts2 in
    let parts4 = map (λ name. member_line false name) net.inputs ++ parts3 in
    let parts5 = states_end net ∷ parts4 in
    let parts6 = numbered (λ j (latch : Latch). member_line packed (state_word j)) 0 net.latches ++ parts5 in
    joined-one open_text parts6
    (joined-numbered (member_line packed) (λ j (latch : Latch). state_word j) 0 net.latches parts5
    (joined-one (states_end net) parts4
    (joined-each (member_line false) net.inputs parts3
    (joined-one (inputs_end net) parts2
    (joined-mapped (member_line false) (λ (o : NetOut). o.name) net.outputs parts1
    (joined-one (outputs_end net) ys e))))))
    ∙ structure-pieces open_text (flat_map (member_line packed) states) (unused_line net.latches) (close_text (net.name ++ codes "_t"))
    (flat_map (member_line false) net.inputs) (unused_line net.inputs) (close_text (net.name ++ codes "_inputs_t"))
    (flat_map (member_line false) (output_names net)) (unused_line net.outputs) (close_text (net.name ++ codes "_outputs_t")) rest
    ∙ ap (λ l. structures net (flat_map (member_line packed) l) (unused_line net.latches) (unused_line net.outputs) ++ rest) named
    ∙ ap (λ l. structures net (flat_map (member_line packed) (map name_of_state (net_component net).states)) l (unused_line net.outputs) ++ rest)
    (sym (unused-states net.latches 0))
    ∙ ap (λ l. structures net (flat_map (member_line packed) (map name_of_state (net_component net).states))
    (unused_line (map name_of_state (net_component net).states)) l ++ rest) (sym (unused-outputs net.outputs))

-- ---- the functions

function-pieces : {L : Type 0} (local : L → List ℕ) (line reset start firsts untouched stop react ignored shown kept answer rest : List ℕ)
    (gates nexts : List L) (running : L)
    → (line ++ (reset ++ start)) ++ (firsts ++ ((untouched ++ (stop ++ (react ++ (start ++ ignored)))) ++ (flat_map local gates ++ (flat_map local nexts
    ++ (local running ++ (shown ++ (kept ++ (answer ++ rest))))))))
    ≡ (line ++ (reset ++ (start ++ (firsts ++ (untouched ++ (stop ++ (react ++ (start ++ (ignored ++ (flat_map local (gates ++ (nexts ++ running ∷ []))
    ++ (shown ++ (kept ++ answer)))))))))))) ++ rest
function-pieces local line reset start firsts untouched stop react ignored shown kept answer rest gates nexts running =
    simp (flat_map-append, append_assoc, append-nil) refl

-- the functions with this line where there are no states
abbrev functions : EmbedFile → Netlist → List ℕ → List ℕ
functions file net untouched =
    codes "\n" ++ (reset_head file net.name ++ (body_start ++ (flat_map first_line (net_component net).states
    ++ (untouched ++ (codes "}\n\n" ++ (react_head file net.name ++ (body_start ++ (flat_map ignored_line (net_ignored net)
    ++ (flat_map local_line (net_component net).locals ++ (flat_map (store_line out_word) (net_component net).shown
    ++ (flat_map (store_line self_word) (net_component net).kept ++ return_lines (Local running_word))))))))))))

functions-joined : (file : EmbedFile) (net : Netlist) (ys : List (List ℕ)) {rest : List ℕ} → joined ys ≡ rest
    → joined (reset_text file net.name ∷ (numbered (λ j latch. first_line (net_state j latch)) 0 net.latches ++ (react_text file net
    ∷ (numbered (λ k gate. local_line (gate_local net k gate)) 0 net.gates ++ (numbered (λ j latch. local_line (next_local net j latch)) 0 net.latches
    ++ (local_line (running_local net) ∷ (map (λ o. store_line out_word (output_store net o)) net.outputs
    ++ (numbered (λ j latch. store_line self_word (state_store j latch)) 0 net.latches ++ (return_lines (Local running_word) ∷ ys)))))))))
    ≡ function_text file (net_component net) ++ rest
functions-joined file net ys {rest} e =
    let parts1 = return_lines (Local running_word) ∷ ys in
    let parts2 = numbered (λ j (latch : Latch). store_line self_word (state_store j latch)) 0 net.latches ++ parts1 in
    let parts3 = map (λ (o : NetOut). store_line out_word (output_store net o)) net.outputs ++ parts2 in
    let parts4 = local_line (running_local net) ∷ parts3 in
    let parts5 = numbered (λ j (latch : Latch). local_line (next_local net j latch)) 0 net.latches ++ parts4 in
    let parts6 = numbered (λ k (gate : Gate). local_line (gate_local net k gate)) 0 net.gates ++ parts5 in
    let parts7 = react_text file net ∷ parts6 in
    let parts8 = numbered (λ j (latch : Latch). first_line (net_state j latch)) 0 net.latches ++ parts7 in
    joined-one (reset_text file net.name) parts8
    (joined-numbered first_line net_state 0 net.latches parts7
    (joined-one (react_text file net) parts6
    (joined-numbered local_line (gate_local net) 0 net.gates parts5
    (joined-numbered local_line (next_local net) 0 net.latches parts4
    (joined-one (local_line (running_local net)) parts3
    (joined-mapped (store_line out_word) (output_store net) net.outputs parts2
    (joined-numbered (store_line self_word) state_store 0 net.latches parts1
    (joined-one (return_lines (Local running_word)) ys e))))))))
    ∙ function-pieces local_line (codes "\n") (reset_head file net.name) body_start (flat_map first_line (net_component net).states)
    (untouched_line net.latches) (codes "}\n\n") (react_head file net.name) (flat_map ignored_line (net_ignored net))
    (flat_map (store_line out_word) (net_component net).shown) (flat_map (store_line self_word) (net_component net).kept)
    (return_lines (Local running_word)) rest (numbered (gate_local net) 0 net.gates) (numbered (next_local net) 0 net.latches) (running_local net)
    ∙ ap (λ l. functions file net l ++ rest) (sym (untouched-states net.latches 0))

-- ---- the whole

two-pieces : (before comment structures functions after : List ℕ)
    → (before ++ comment) ++ (structures ++ (functions ++ after)) ≡ before ++ ((comment ++ (structures ++ functions)) ++ after)
two-pieces before comment structures functions after = simp append_assoc refl

one-piece : (before comment functions after : List ℕ) → (before ++ comment) ++ (functions ++ after) ≡ before ++ ((comment ++ functions) ++ after)
one-piece before comment functions after = simp append_assoc refl

joined-file : (file : EmbedFile) (packed : Bool) (net : Netlist)
    → joined (flat_map (parts_in (record { packed = packed; file = file }) net) (sections_of file)) ≡ written (record { packed = packed; file = file }) net
joined-file Header packed net =
    let from : ℕ → List (List ℕ) = λ n. flat_map (parts_in (record { packed = packed; file = Header }) net) (drop n HEADER) in
    let after = lines_after Header in
    joined-one (first_text Header net.name) (from 1)
    (structures-joined packed net (from 8) (functions-joined Header net (after ∷ []) (joined-last after)))
    ∙ two-pieces (lines_before Header net.name) (comment net.name) (structures_text packed (net_component net)) (function_text Header (net_component net)) after
joined-file Declarations packed net =
    let from : ℕ → List (List ℕ) = λ n. flat_map (parts_in (record { packed = packed; file = Declarations }) net) (drop n DECLARATIONS) in
    let after = lines_after Declarations in
    joined-one (first_text Declarations net.name) (from 1)
    (structures-joined packed net (from 8) (joined-one (prototype_text net.name) (after ∷ []) (joined-last after)))
    ∙ two-pieces (lines_before Declarations net.name) (comment net.name) (structures_text packed (net_component net)) (prototype_text net.name) after
joined-file Definitions packed net =
    let from : ℕ → List (List ℕ) = λ n. flat_map (parts_in (record { packed = packed; file = Definitions }) net) (drop n DEFINITIONS) in
    let after = lines_after Definitions in
    joined-one (first_text Definitions net.name) (from 1) (functions-joined Definitions net (after ∷ []) (joined-last after))
    ∙ one-piece (lines_before Definitions net.name) (comment net.name) (function_text Definitions (net_component net)) after

pub written-joined : (layout : EmbedLayout) (net : Netlist) → joined (flat_map (parts_in layout net) (sections_of layout.file)) ≡ written layout net
written-joined layout net = joined-file layout.file layout.packed net
