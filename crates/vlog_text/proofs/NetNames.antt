-- Inner: the names that the source of a net declares: what they are, and that no two are one.
use Rattle.std.proofs.Common.{◌≡◌, ℕ, ◌==◌, Bool, true, false, not, ◌||◌, List, [], ◌∷◌, ◌++◌, map, refl, sym, ap, ◌∙◌}
use Rattle.std.specs.Prelude.{filter, if◌then◌else◌}
use Rattle.std.specs.List.{list_all}
use Rattle.std.proofs.lemmas.Bool.{and_from}
use Rattle.std.proofs.lemmas.List.{map-append, map-id, append-nil}
use Rattle.base_types.specs.Distinct.{all_differ}
use Rattle.base_types.specs.Names.{is_same_name}
use Rattle.net_ir.specs.declared.netlist.Gate.{Gate}
use Rattle.net_ir.specs.declared.netlist.Latch.{Latch}
use Rattle.net_ir.specs.declared.netlist.NetOut.{NetOut}
use Rattle.net_ir.specs.Netlists.{Netlist}
use Rattle.net_ir.specs.Numbered.{numbered}
use Rattle.net_ir.specs.Writing.{IsWritable}
use Rattle.net_ir.proofs.Exports.{map-numbered}
use Rattle.net_expressions.specs.NetNames.{state_name, gate_name, gate_names}
use Rattle.net_expressions.proofs.Exports.{mark, state_names, all-mapped, marks-states, marks-gates, differ-states, differ-gates, marked-differ, in-front}
use Rattle.net_expressions.proofs.Exports.{all-both}
use Rattle.vlog_text.specs.Trees.{Sort, Input, Output, Wire, Reg, Declaration}
use Rattle.vlog_text.specs.Names.{is_input, is_output, is_wire, is_reg, names_of, declared, paused_name}
use Rattle.vlog_text.specs.Written.{clock_name, input_name, output_name, declares, net_inputs, net_outputs, net_declarations}

-- ---- lists of declarations

pub names-append : (test : Sort → Bool) (xs ys : List Declaration) → names_of test (xs ++ ys) ≡ names_of test xs ++ names_of test ys
names-append test [] ys = refl
names-append test (d ∷ xs) ys =
    elim (test d.sort) as (λ b. map (λ (e : Declaration). e.name) (if b then d ∷ filter (λ e. test e.sort) (xs ++ ys) else filter (λ e. test e.sort) (xs ++ ys))
    ≡ map (λ (e : Declaration). e.name) (if b then d ∷ filter (λ e. test e.sort) xs else filter (λ e. test e.sort) xs) ++ names_of test ys)
    [ true ↦ ap (λ l. d.name ∷ l) (names-append test xs ys) | false ↦ names-append test xs ys ]

pub names-all : (test : Sort → Bool) (sort : Sort) (names : List (List ℕ)) → test sort ≡ true → names_of test (map (declares sort) names) ≡ names
names-all test sort [] all = refl
names-all test sort (n ∷ names) all = rw all (ap (λ l. n ∷ l) (names-all test sort names all))

pub names-no : (test : Sort → Bool) (sort : Sort) (names : List (List ℕ)) → test sort ≡ false → names_of test (map (declares sort) names) ≡ []
names-no test sort [] none = refl
names-no test sort (n ∷ names) none = rw none (names-no test sort names none)

declared-mapped : (sort : Sort) (names : List (List ℕ)) → declared (map (declares sort) names) ≡ names
declared-mapped sort [] = refl
declared-mapped sort (n ∷ names) = ap (λ l. n ∷ l) (declared-mapped sort names)

-- the declarations of a net, sort by sort
pub declarations-are : (net : Netlist) → net_declarations net ≡ map (declares Input) (net_inputs net) ++ (map (declares Output) (net_outputs net)
    ++ (map (declares Reg) (state_names net) ++ map (declares Wire) (gate_names net)))
declarations-are net =
    let regs : numbered (λ j (latch : Latch). declares Reg (state_name j)) 0 net.latches ≡ map (declares Reg) (state_names net) =
    sym (map-numbered (declares Reg) (λ j (latch : Latch). state_name j) 0 net.latches) in
    let wires : numbered (λ k (gate : Gate). declares Wire (gate_name k gate.wire)) 0 net.gates ≡ map (declares Wire) (gate_names net) =
    sym (map-numbered (declares Wire) (λ k (gate : Gate). gate_name k gate.wire) 0 net.gates) in
    ap (λ l. map (declares Input) (net_inputs net) ++ (map (declares Output) (net_outputs net) ++ (l
    ++ numbered (λ k (gate : Gate). declares Wire (gate_name k gate.wire)) 0 net.gates))) regs
    ∙ ap (λ l. map (declares Input) (net_inputs net) ++ (map (declares Output) (net_outputs net) ++ (map (declares Reg) (state_names net) ++ l))) wires

-- the names of a test, sort by sort
abbrev those : Bool → List (List ℕ) → List (List ℕ)
those true names = names
those false names = []

names-those : (test : Sort → Bool) (sort : Sort) (names : List (List ℕ)) → names_of test (map (declares sort) names) ≡ those (test sort) names
names-those test sort names = go (test sort) refl
  where
    go : (b : Bool) → test sort ≡ b → names_of test (map (declares sort) names) ≡ those b names
    go true is = names-all test sort names is
    go false is = names-no test sort names is

pub names-net : (test : Sort → Bool) (net : Netlist) → names_of test (net_declarations net)
    ≡ those (test Input) (net_inputs net) ++
    (those (test Output) (net_outputs net) ++ (those (test Reg) (state_names net) ++ those (test Wire) (gate_names net)))
names-net test net =
    let i = map (declares Input) (net_inputs net) in
    let o = map (declares Output) (net_outputs net) in
    let r = map (declares Reg) (state_names net) in
    let w = map (declares Wire) (gate_names net) in
    ap (names_of test) (declarations-are net) ∙ names-append test i (o ++ (r ++ w)) ∙ ap (λ l. names_of test i ++ l)
    (names-append test o (r ++ w) ∙ ap (λ l. names_of test o ++ l) (names-append test r w))
    ∙ rw (
      names-those test Input (net_inputs net),
      names-those test Output (net_outputs net),
      names-those test Reg (state_names net),
      names-those test Wire (gate_names net),
    ) refl

pub inputs-net : (net : Netlist) → names_of is_input (net_declarations net) ≡ net_inputs net
inputs-net net = names-net is_input net ∙ append-nil (net_inputs net)

pub outputs-net : (net : Netlist) → names_of is_output (net_declarations net) ≡ net_outputs net
outputs-net net = names-net is_output net ∙ append-nil (net_outputs net)

pub regs-net : (net : Netlist) → names_of is_reg (net_declarations net) ≡ state_names net
regs-net net = names-net is_reg net ∙ append-nil (state_names net)

pub wires-net : (net : Netlist) → names_of is_wire (net_declarations net) ≡ gate_names net
wires-net net = names-net is_wire net

pub own-net : (net : Netlist) → names_of (λ sort. is_input sort || is_reg sort) (net_declarations net) ≡ net_inputs net ++ state_names net
own-net net = names-net (λ sort. is_input sort || is_reg sort) net ∙ ap (λ l. net_inputs net ++ l) (append-nil (state_names net))

-- all names
abbrev pub all_declared : Netlist → List (List ℕ)
all_declared net = net_inputs net ++ (net_outputs net ++ (state_names net ++ gate_names net))

pub declared-net : (net : Netlist) → declared (net_declarations net) ≡ all_declared net
declared-net net =
    let i = map (declares Input) (net_inputs net) in
    let o = map (declares Output) (net_outputs net) in
    let r = map (declares Reg) (state_names net) in
    let w = map (declares Wire) (gate_names net) in
    ap declared (declarations-are net) ∙ map-append (λ (d : Declaration). d.name) i (o ++ (r ++ w)) ∙ ap (λ l. declared i ++ l)
    (map-append (λ (d : Declaration). d.name) o (r ++ w) ∙ ap (λ l. declared o ++ l) (map-append (λ (d : Declaration). d.name) r w))
    ∙ four (declared-mapped Input (net_inputs net)) (declared-mapped Output (net_outputs net)) (declared-mapped Reg (state_names net))
    (declared-mapped Wire (gate_names net))
  where
    four : {a b c d e f g h : List (List ℕ)} → a ≡ e → b ≡ f → c ≡ g → d ≡ h → a ++ (b ++ (c ++ d)) ≡ e ++ (f ++ (g ++ h))
    four {a} {b} {c} {d} {e} {f} {g} {h} p q r s =
        ap (λ l. l ++ (b ++ (c ++ d))) p
        ∙ ap (λ l. e ++ l) (ap (λ l. l ++ (c ++ d)) q ∙ ap (λ l. f ++ l) (ap (λ l. l ++ d) r ∙ ap (λ l. g ++ l) s))

-- ---- the first byte tells the sorts apart

abbrev pub input_words : Netlist → List (List ℕ)
input_words net = map input_name net.inputs

abbrev pub output_words : Netlist → List (List ℕ)
output_words net = map output_name net.outputs

pub marks-inputs : (net : Netlist) (p : ℕ → Bool) → p 105 ≡ true → list_all (λ x. p (mark x)) (input_words net) ≡ true
marks-inputs net p holds = all-mapped (λ x. p (mark x)) input_name net.inputs (λ x. holds)

pub marks-outputs : (net : Netlist) (p : ℕ → Bool) → p 111 ≡ true → list_all (λ x. p (mark x)) (output_words net) ≡ true
marks-outputs net p holds = all-mapped (λ x. p (mark x)) output_name net.outputs (λ x. holds)

pub marks-shown : (net : Netlist) (p : ℕ → Bool) → p 111 ≡ true → p 112 ≡ true → list_all (λ x. p (mark x)) (net_outputs net) ≡ true
marks-shown net p o q = all-both (λ x. p (mark x)) (output_words net) (paused_name ∷ []) (marks-outputs net p o) (and_from (p 112) true q refl)

pub differ-inputs : (net : Netlist) → IsWritable net → all_differ is_same_name (input_words net) ≡ true
differ-inputs net is = marked-differ 105 95 (λ name. name) net.inputs refl refl ∙ ap (all_differ is_same_name) (map-id net.inputs) ∙ is.is_net.inputs_differ

differ-outputs : (net : Netlist) → IsWritable net → all_differ is_same_name (output_words net) ≡ true
differ-outputs net is = marked-differ 111 95 (λ (o : NetOut). o.name) net.outputs refl refl ∙ is.is_net.outputs_differ

pub differ-shown : (net : Netlist) → IsWritable net → all_differ is_same_name (net_outputs net) ≡ true
differ-shown net is = in-front (λ m. m == 111) (output_words net) (paused_name ∷ []) (differ-outputs net is) (marks-outputs net (λ m. m == 111) refl) refl refl

-- what is assigned: gates, outputs and `paused`
pub differ-targets : (net : Netlist) → IsWritable net → all_differ is_same_name (gate_names net ++ net_outputs net) ≡ true
differ-targets net is =
    in-front (λ m. m == 103 || m == 119) (gate_names net) (net_outputs net) (differ-gates net is) (marks-gates net (λ m. m == 103 || m == 119) refl refl)
    (marks-shown net (λ m. not (m == 103 || m == 119)) refl refl) (differ-shown net is)

pub differ-own : (net : Netlist) → IsWritable net → all_differ is_same_name (state_names net ++ gate_names net) ≡ true
differ-own net is =
    in-front (λ m. m == 115) (state_names net) (gate_names net) (differ-states net is) (marks-states net (λ m. m == 115) refl)
    (marks-gates net (λ m. not (m == 115)) refl refl) (differ-gates net is)

pub differ-given : (net : Netlist) → IsWritable net → all_differ is_same_name (net_inputs net) ≡ true
differ-given net is =
    in-front (λ m. m == 99) (clock_name ∷ []) (input_words net) refl refl (marks-inputs net (λ m. not (m == 99)) refl) (differ-inputs net is)

pub differ-declared : (net : Netlist) → IsWritable net → all_differ is_same_name (all_declared net) ≡ true
differ-declared net is =
    let inner = state_names net ++ gate_names net in
    let shown = in-front (λ m. m == 111 || m == 112) (net_outputs net) inner (differ-shown net is) (marks-shown net (λ m. m == 111 || m == 112) refl refl)
    (all-both (λ x. not (mark x == 111 || mark x == 112)) (state_names net) (gate_names net)
    (marks-states net (λ m. not (m == 111 || m == 112)) refl) (marks-gates net (λ m. not (m == 111 || m == 112)) refl refl)) (differ-own net is) in
    in-front (λ m. m == 99 || m == 105) (net_inputs net) (net_outputs net ++ inner) (differ-given net is)
    (and_from true (list_all (λ x. mark x == 99 || mark x == 105) (input_words net)) refl (marks-inputs net (λ m. m == 99 || m == 105) refl))
    (all-both (λ x. not (mark x == 99 || mark x == 105)) (net_outputs net) inner (marks-shown net (λ m. not (m == 99 || m == 105)) refl refl)
    (all-both (λ x. not (mark x == 99 || mark x == 105)) (state_names net) (gate_names net)
    (marks-states net (λ m. not (m == 99 || m == 105)) refl) (marks-gates net (λ m. not (m == 99 || m == 105)) refl refl))) shown
