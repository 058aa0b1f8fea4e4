-- A text that is written of a source is no longer than can be read.
use Rattle.std.proofs.Common.{◌≡◌, ℕ, false, ◌+◌, ◌*◌, ◌^◌, ◌<◌, ◌≤◌, List, [], ◌∷◌, length, map, drop, Option, Some, None, sym, ap}
use Rattle.std.proofs.Common.{◌∙◌, subst, arith, All, refl}
use Rattle.std.specs.Prelude.{IfSome, option_map}
use Rattle.std.specs.List.{sum_by, cons_option}
use Rattle.std.proofs.lemmas.List.{length-map, length-take, length-drop}
use Rattle.std.proofs.lemmas.List.Elements.{All-nil, All-cons, All-head, All-tail, All-map, All-weaker}
use Rattle.std.proofs.lemmas.List.Sums.{sum_by-cons}
use Rattle.base_types.specs.declared.bounds.TheConstants.Limits.{SOURCE_BYTES, TEXT_BYTES, SIGNALS, KERNEL_NODES, WIRES}
use Rattle.base_types.specs.declared.indices.WireId.{WireId}
use Rattle.base_types.specs.Relations.{Relation, relation_of}
use Rattle.est_kernel.specs.Plain.{Program, given_count, outgoing_count}
use Rattle.grc_graph.specs.declared.graph.Graph.{Graph}
use Rattle.grc_graph.specs.SelectionTrees.{body_leaves, resumes}
use Rattle.grc_graph.proofs.Exports.{statement_count-le}
use Rattle.grc_layout.proofs.Exports.{length-leaf_paths}
use Rattle.net_ir.specs.declared.netlist.Gate.{Gate}
use Rattle.net_ir.specs.Gates.{carried}
use Rattle.net_ir.specs.Netlists.{Netlist, output_names}
use Rattle.net_ir.specs.Runs.{netlist_of}
use Rattle.net_ir.specs.Writing.{IsWritable}
use Rattle.blif_text.specs.Written as blif_texts
use Rattle.blif_text.proofs.TextLengths as blif_lengths
use Rattle.csub_text.specs.Written as c_texts
use Rattle.vlog_text.specs.Written as verilog_texts
use Rattle.csub_text.proofs.TextLengths as c_lengths
use Rattle.cec_compile.specs.declared.passes.Compiled.{Compiled}
use Rattle.cec_compile.specs.Graphs.{StandsForBuilt}
use Rattle.cec_compile.specs.declared.forms.TextForm.{TextForm}
use Rattle.cec_compile.specs.declared.forms.TextForm.TheVariants as forms
use Rattle.cec_compile.specs.declared.made.Made.{Made}
use Rattle.cec_compile.specs.Compiling.{IsCompiled, StandsForNet}
use Rattle.cec_compile.specs.MadeNets.{IsMade}
use Rattle.cec_commands.specs.NetTexts.{IsWritten, TextsFit}
use Rattle.cec_compile.specs.GuardedTexts.{IsGuardedOf}
use Rattle.cec_compile.specs.Sources.{WritesLongText}
use Rattle.est_front.proofs.Exports.{HasRoom, source-room, given-room, outgoing-room}

-- ---- what is counted of the netlist of a compiled program

abbrev Fits : ℕ → Type 0
Fits w = w < 2 ^ 32

first_fits : (gates : List Gate) (wire : Option WireId) → All Fits (cons_option (option_map (λ w. w.0) wire) (carried gates))
    → IfSome wire (λ w. w.0 < 2 ^ 32) × All Fits (carried gates)
first_fits gates None all = (tt, all)
first_fits gates (Some w) all = (All-head Fits w.0 (carried gates) all, All-tail Fits w.0 (carried gates) all)

wires_fit : (gates : List Gate) → All Fits (carried gates) → All (λ g. IfSome g.wire (λ w. w.0 < 2 ^ 32)) gates
wires_fit [] all = All-nil (λ g. IfSome g.wire (λ w. w.0 < 2 ^ 32))
wires_fit (g ∷ gates) all =
    let both = first_fits gates g.wire all in All-cons (λ g. IfSome g.wire (λ w. w.0 < 2 ^ 32)) g gates both.0 (wires_fit gates both.1)

-- each wire of a compiled program has one of few numbers
wires_low : (c : Compiled) (p : Program) → IsCompiled c p → All Fits (carried c.net.gates.items)
wires_low c p h =
    subst (λ l. All Fits l) (sym h.carried)
    (All-map Fits (λ (v : WireId). v.0) c.order.list.items
    (All-weaker (λ (w : WireId). w.0 < length c.graph.wires.items) (λ w. w.0 < 2 ^ 32)
    (λ w low. omega (arith, low, c.graph.few.size, c.graph.few.gates)) c.order.list.items
    h.along.order.in_range))

writable : (c : Compiled) (p : Program) → IsCompiled c p → IsWritable (netlist_of c.net)
writable c p h = record { is_net = c.net.is_net; wires_fit = wires_fit c.net.gates.items (wires_low c p h) }

-- the parts of a netlist that its text is made of
record IsSmall (net : Netlist) : Type 0 where
  name : length net.name ≤ SOURCE_BYTES
  gates : length net.gates ≤ 15 * WIRES
  latches : length net.latches ≤ KERNEL_NODES + 1
  inputs : length net.inputs ≤ SIGNALS
  outputs : length (output_names net) ≤ SIGNALS
  given : sum_by (λ n. length n) net.inputs ≤ SOURCE_BYTES
  shown : sum_by (λ n. length n) (output_names net) ≤ SOURCE_BYTES

small : (bytes : List ℕ) (c : Compiled) (p : Program) → length bytes ≤ SOURCE_BYTES → IsCompiled c p → HasRoom bytes p → IsSmall (netlist_of c.net)
small bytes c p short h room =
    let most = h.formed.at_most in
    let few = h.compiles.limits.few_wires in
    let leaves = length-leaf_paths (resumes p.body) p.body 0 in
    record {
      name = omega (arith, ap (λ (n : List ℕ). length n) h.keeps.name, room.name, short);
      gates = omega (arith, h.linear, few);
      latches = omega (
        arith,
        sym (length-map c.net.latches.items (λ l. l.init))
            ∙ ap (λ bs. length bs) h.latches,
        length-map (body_leaves p.body) (λ n. false),
        leaves,
        statement_count-le p.body,
        h.formed.body.size,
      );
      inputs = omega (arith, ap (λ (ns : List (List ℕ)). length ns) h.keeps.inputs, length-take (given_count p) p.signals, most);
      outputs = omega (
        arith,
        ap (λ (ns : List (List ℕ)). length ns) h.keeps.outputs,
        length-take (outgoing_count p) (drop p.inputs p.signals),
        length-drop p.inputs p.signals,
        most,
      );
      given = omega (arith, ap (λ ns. sum_by (λ (n : List ℕ). length n) ns) h.keeps.inputs, given-room bytes p room, short);
      shown = omega (arith, ap (λ ns. sum_by (λ (n : List ℕ). length n) ns) h.keeps.outputs, outgoing-room bytes p room, short);
    }

-- ---- its texts

-- twice the bytes of each name, and so many more
names_sum : (more : ℕ) (names : List (List ℕ)) → sum_by (λ n. 2 * length n + more) names ≡ 2 * sum_by (λ n. length n) names + length names * more
names_sum more [] = omega arith
names_sum more (n ∷ names) = omega (
  arith,
  sum_by-cons (λ (m : List ℕ). 2 * length m + more) n names,
  sum_by-cons (λ (m : List ℕ). length m) n names,
  names_sum more names,
)

blif_fits : (net : Netlist) → IsSmall net → IsWritable net → length (blif_texts.written net) ≤ TEXT_BYTES
blif_fits net s w = omega (arith, blif_lengths.length-written net w, names_sum 26 net.inputs, names_sum 34 (output_names net))

c_fits : (net : Netlist) → IsSmall net → IsWritable net → length (c_texts.written net) ≤ TEXT_BYTES
c_fits net s w = omega (arith, c_lengths.length-written net w, names_sum 26 net.inputs, names_sum 26 (output_names net))

-- so can both texts of a netlist that is made of a source be read
pub both_fit : (bytes : List ℕ) (main : Option (List ℕ)) (made : Compiled) → length bytes ≤ SOURCE_BYTES → StandsForNet bytes main made →
    TextsFit (netlist_of made.net)
both_fit bytes main made short s =
    let is = small bytes made s.program short s.compiled (source-room bytes main s.program s.source) in
    let net = writable made s.program s.compiled in
    record { circuit = blif_fits (netlist_of made.net) is net; program = c_fits (netlist_of made.net) is net }

-- and the relations of its program are few
pub made_relations_few : (form : TextForm) (bytes : List ℕ) (main : Option (List ℕ)) (made : Made) → length bytes ≤ SOURCE_BYTES → IsMade form bytes main made →
    length made.program.relations.items ≤ SOURCE_BYTES
made_relations_few form bytes main made short m =
    let room = source-room bytes main m.source.program m.source.source in
    let same : map relation_of made.program.relations.items ≡ m.source.program.relations = ap (λ (q : Program). q.relations) m.program in
    omega (arith, room.relations, short, ap (λ (rs : List Relation). length rs) same, length-map made.program.relations.items relation_of)

-- so of a source whose dependencies may go around
pub built_relations_few : (bytes : List ℕ) (main : Option (List ℕ)) (built : Graph) → length bytes ≤ SOURCE_BYTES → StandsForBuilt bytes main built →
    length built.program.relations.items ≤ SOURCE_BYTES
built_relations_few bytes main built short b =
    let room = source-room bytes main b.program b.source in
    let same : map relation_of built.program.relations.items ≡ b.program.relations = ap (λ (q : Program). q.relations) b.built.graph.program in
    omega (arith, room.relations, short, ap (λ (rs : List Relation). length rs) same, length-map built.program.relations.items relation_of)

-- a text that is too long is one whose latches hold the state in a code, a guarded one, or one in Verilog
pub long_text : (form : TextForm) (bytes : List ℕ) (main : Option (List ℕ)) (made : Made) (text : List ℕ) → length bytes ≤ SOURCE_BYTES →
    IsMade form bytes main made → IsWritten form text (netlist_of made.net) → (form ≡ forms.Guarded → IsGuardedOf bytes main text)
    → TEXT_BYTES < length text → WritesLongText form main bytes
long_text forms.Blif bytes main made text short m w guarded long =
    let both = both_fit bytes main m.compiled short m.source in
    omega (arith, long, ap (λ (t : List ℕ). length t) (w.spelled ∙ ap blif_texts.written m.net), both.circuit)
long_text forms.C bytes main made text short m w guarded long =
    let both = both_fit bytes main m.compiled short m.source in
    omega (arith, long, ap (λ (t : List ℕ). length t) (w.spelled ∙ ap c_texts.written m.net), both.program)
long_text forms.EncodedBlif bytes main made text short m w guarded long = record {
  short = short;
  text = text;
  written = record { made = m.compiled; compiled = m.source; shares = m.shares; net = netlist_of made.net; encoded = m.net; text = w.spelled };
  long = long;
}
long_text forms.Guarded bytes main made text short m w guarded long = record { short = short; text = text; written = guarded refl; long = long }
long_text forms.Verilog bytes main made text short m w guarded long = record {
  short = short;
  text = text;
  written = record { made = m.compiled; compiled = m.source; shares = m.shares; text = w.spelled ∙ ap verilog_texts.written m.net };
  long = long;
}
