-- Inner: the source of a net keeps the rules on names.
use Rattle.std.proofs.Common.{◌≡◌, ℕ, ◌+◌, ◌<◌, ◌==◌, zero, suc, Bool, true, false, not, ◌&&◌, ◌||◌, List, [], ◌∷◌, ◌++◌, length}
use Rattle.std.proofs.Common.{map, get_or, All, refl, sym, ap, ◌∙◌, subst, arith, Some, None}
use Rattle.std.specs.Prelude.{flat_map, find, slice_get, if◌then◌else◌, codes}
use Rattle.std.specs.List.{list_any, list_all, AllByRecursion}
use Rattle.std.proofs.lemmas.List.Folds.{list_any-append, list_any_at}
use Rattle.std.proofs.lemmas.Bool.{and_from, or_from, not_from_true}
use Rattle.std.proofs.lemmas.List.{length-map, get_or-map, map-append}
use Rattle.std.proofs.lemmas.List.Elements.{All-append}
use Rattle.std.proofs.lemmas.Option.{slice_get-get_or}
use Rattle.base_facts.proofs.Tests.{and-false}
use Rattle.base_types.specs.Distinct.{all_differ}
use Rattle.base_types.specs.Names.{is_name, is_same_name}
use Rattle.base_types.proofs.Exports.{same_name-self}
use Rattle.net_ir.specs.declared.netlist.Gate.{Gate}
use Rattle.net_ir.specs.declared.netlist.Latch.{Latch}
use Rattle.net_ir.specs.declared.netlist.NetOut.{NetOut}
use Rattle.net_ir.specs.NameLists.{is_among, first_again}
use Rattle.net_ir.specs.Netlists.{Netlist, first_gate, net_count}
use Rattle.net_ir.specs.Numbered.{numbered}
use Rattle.net_ir.specs.Writing.{IsWritable}
use Rattle.net_ir.proofs.Exports.{find-same, once-differ, length-numbered, get_or-numbered, map-numbered, All-numbered, net_cases}
use Rattle.net_expressions.specs.Names.{names_in}
use Rattle.net_expressions.specs.NetNames.{state_name, gate_name, gate_names}
use Rattle.net_expressions.specs.Trees.{Expr}
use Rattle.net_expressions.proofs.Exports.{once-behind, mark, state_names, marks-states, marks-gates, in-front, all-both, among-numbered, among-left}
use Rattle.net_expressions.proofs.Exports.{among-right}
use Rattle.net_expressions.proofs.Exports.{any_gate, any_latch, find-none, any_output, gate-low, long-name, differ-states, op-names}
use Rattle.net_expressions.proofs.Naming as naming
use Rattle.vlog_text.specs.Trees.{Sort, Input, Output, Wire, Reg, Declaration, Initial, Assign, Next}
use Rattle.vlog_text.specs.Names.{is_input, is_output, is_reg, names_of, declared_twice, interface_names, misplaced, declaration_found, portless}
use Rattle.vlog_text.specs.Names.{is_first, is_last, has_sign, paused_name, is_ill_named, ill_named, is_clock, other_clock, wrong_port, Use, Kept, Assigned}
use Rattle.vlog_text.specs.Names.{Taken}
use Rattle.vlog_text.specs.Names.{assign_uses, next_uses, uses, is_wrong, use_found, undeclared, targets, driven_twice, is_driven, undriven, name_fault}
use Rattle.vlog_text.specs.Written.{clock_name, input_name, output_name, name_at, net_name, declares, gate_assign, output_assign, paused_assign}
use Rattle.vlog_text.specs.Written.{latch_initial, latch_next, net_inputs, net_outputs, net_declarations, net_assigns, net_source}
use Rattle.vlog_text.proofs.NetNames.{inputs-net, outputs-net, regs-net, own-net, all_declared, declared-net, declarations-are, input_words, output_words}
use Rattle.vlog_text.proofs.NetNames.{marks-inputs, marks-shown, differ-targets, differ-declared, differ-given}

-- ---- the name of a net

pub net_name-input : (net : Netlist) (n : ℕ) → n < length net.inputs → net_name net n ≡ input_name (get_or net.inputs n [])
net_name-input net n h = naming.net_name-input (λ n. name_at (slice_get net.inputs n)) net n h ∙ ap name_at (slice_get-get_or net.inputs n [] h)

pub net_name-state : (net : Netlist) (j : ℕ) → j < length net.latches → net_name net (length net.inputs + j) ≡ state_name j
net_name-state net = naming.net_name-state (λ n. name_at (slice_get net.inputs n)) net

pub net_name-gate : (net : Netlist) (k : ℕ) (d : Gate) → k < length net.gates → net_name net (first_gate net + k) ≡ gate_name k (get_or net.gates k d).wire
net_name-gate net = naming.net_name-gate (λ n. name_at (slice_get net.inputs n)) net

-- a name stands among those of its list
pub among-at : (xs : List (List ℕ)) (k : ℕ) (d : List ℕ) → k < length xs → is_among (get_or xs k d) xs ≡ true
among-at xs k d h = list_any_at (is_same_name (get_or xs k d)) xs k d h (same_name-self (get_or xs k d))

among-mapped : {X : Type 0} (f : X → List ℕ) (xs : List X) (k : ℕ) (e : X) → k < length xs → is_among (f (get_or xs k e)) (map f xs) ≡ true
among-mapped f xs k e h =
    let wide = length-map xs f in
    ap (λ x. is_among x (map f xs)) (sym (get_or-map f xs k e [] h)) ∙ among-at (map f xs) k [] (omega arith)

-- the parts of all names
input-declared : (net : Netlist) (x : List ℕ) → is_among x (net_inputs net) ≡ true → is_among x (all_declared net) ≡ true
input-declared net x h = among-left x (net_inputs net) (net_outputs net ++ (state_names net ++ gate_names net)) h

output-declared : (net : Netlist) (x : List ℕ) → is_among x (net_outputs net) ≡ true → is_among x (all_declared net) ≡ true
output-declared net x h = among-right x (net_inputs net) (net_outputs net ++ (state_names net ++ gate_names net))
    (among-left x (net_outputs net) (state_names net ++ gate_names net) h)

state-declared : (net : Netlist) (x : List ℕ) → is_among x (state_names net) ≡ true → is_among x (all_declared net) ≡ true
state-declared net x h = among-right x (net_inputs net) (net_outputs net ++ (state_names net ++ gate_names net))
    (among-right x (net_outputs net) (state_names net ++ gate_names net) (among-left x (state_names net) (gate_names net) h))

gate-declared : (net : Netlist) (x : List ℕ) → is_among x (gate_names net) ≡ true → is_among x (all_declared net) ≡ true
gate-declared net x h = among-right x (net_inputs net) (net_outputs net ++ (state_names net ++ gate_names net))
    (among-right x (net_outputs net) (state_names net ++ gate_names net) (among-right x (state_names net) (gate_names net) h))

among-state : (net : Netlist) (j : ℕ) → j < length net.latches → is_among (state_name j) (state_names net) ≡ true
among-state net j h = among-numbered (λ j (latch : Latch). state_name j) net.latches j any_latch h

among-gate : (net : Netlist) (k : ℕ) → k < length net.gates → is_among (gate_name k (get_or net.gates k any_gate).wire) (gate_names net) ≡ true
among-gate net k h = among-numbered (λ k (gate : Gate). gate_name k gate.wire) net.gates k any_gate h

-- what is so of a net's name by its kind
pub net-name : (P : List ℕ → Type 0) (net : Netlist) → ((j : ℕ) → j < length net.inputs → P (input_name (get_or net.inputs j [])))
    → ((j : ℕ) → j < length net.latches → P (state_name j)) → ((k : ℕ) → k < length net.gates → P (gate_name k (get_or net.gates k any_gate).wire))
    → (n : ℕ) → n < net_count net → P (net_name net n)
net-name P net i s g n h =
    net_cases net n h
    (λ low. subst P (sym (net_name-input net n low)) (i n low))
    (λ j low e. subst P (sym (ap (net_name net) e ∙ net_name-state net j low)) (s j low))
    (λ k low e. subst P (sym (ap (net_name net) e ∙ net_name-gate net k any_gate low)) (g k low))

pub net-declared : (net : Netlist) (n : ℕ) → n < net_count net → is_among (net_name net n) (all_declared net) ≡ true
net-declared net = net-name (λ x. is_among x (all_declared net) ≡ true) net
    (λ j h. input-declared net (input_name (get_or net.inputs j []))
    (among-right (input_name (get_or net.inputs j [])) (clock_name ∷ []) (input_words net) (among-mapped input_name net.inputs j [] h)))
    (λ j h. state-declared net (state_name j) (among-state net j h))
    (λ k h. gate-declared net (gate_name k (get_or net.gates k any_gate).wire) (among-gate net k h))

-- no net has the clock's name
pub net-no_clock : (net : Netlist) (n : ℕ) → n < net_count net → is_same_name (net_name net n) clock_name ≡ false
net-no_clock net = net-name (λ x. is_same_name x clock_name ≡ false) net (λ j h. refl) (λ j h. refl) (λ k h. go k (get_or net.gates k any_gate).wire)
  where
    go : (k : ℕ) (wire : _) → is_same_name (gate_name k wire) clock_name ≡ false
    go k None = refl
    go k (Some w) = refl

-- ---- declarations of which none is found

none-declared : (P : Declaration → Bool) (sort : Sort) (names : List (List ℕ)) → All (λ n. P (declares sort n) ≡ false) names
    → list_any P (map (declares sort) names) ≡ false
none-declared P sort [] all = refl
none-declared P sort (n ∷ names) all =
    or_from (P (declares sort n)) (list_any P (map (declares sort) names)) (all 0 n (omega arith))
    (none-declared P sort names (λ k d h. all (suc k) d (omega arith)))

record EachDeclared (P : Declaration → Bool) (net : Netlist) : Type 0 where
  inputs : All (λ n. P (declares Input n) ≡ false) (net_inputs net)
  outputs : All (λ n. P (declares Output n) ≡ false) (net_outputs net)
  regs : All (λ n. P (declares Reg n) ≡ false) (state_names net)
  wires : All (λ n. P (declares Wire n) ≡ false) (gate_names net)

none-net : (P : Declaration → Bool) (net : Netlist) → EachDeclared P net → find P (net_declarations net) ≡ None
none-net P net each =
    let i = map (declares Input) (net_inputs net) in
    let o = map (declares Output) (net_outputs net) in
    let r = map (declares Reg) (state_names net) in
    let w = map (declares Wire) (gate_names net) in
    let none : list_any P (i ++ (o ++ (r ++ w))) ≡ false =
    list_any-append P i (o ++ (r ++ w)) ∙ or_from (list_any P i) (list_any P (o ++ (r ++ w))) (none-declared P Input (net_inputs net) each.inputs)
    (list_any-append P o (r ++ w) ∙ or_from (list_any P o) (list_any P (r ++ w)) (none-declared P Output (net_outputs net) each.outputs)
    (list_any-append P r w ∙ or_from (list_any P r) (list_any P w) (none-declared P Reg (state_names net) each.regs)
    (none-declared P Wire (gate_names net) each.wires))) in
    ap (find P) (declarations-are net) ∙ find-none P (i ++ (o ++ (r ++ w))) none

-- ---- each name is declared once

declared_once : (net : Netlist) → IsWritable net → declared_twice (net_source net) ≡ None
declared_once net is = ap (first_again []) (declared-net net) ∙ once-differ (all_declared net) (differ-declared net is)

-- ---- the ports

misplaced-same : (xs : List (List ℕ)) → misplaced xs xs ≡ None
misplaced-same [] = refl
misplaced-same (x ∷ xs) = rw (same_name-self x) (misplaced-same xs)

misplaced-none : (net : Netlist) → misplaced (net_source net).ports (interface_names (net_declarations net)) ≡ None
misplaced-none net =
    ap (λ l. misplaced (net_inputs net ++ net_outputs net) (l ++ names_of is_output (net_declarations net))) (inputs-net net)
    ∙ ap (λ l. misplaced (net_inputs net ++ net_outputs net) (net_inputs net ++ l)) (outputs-net net)
    ∙ misplaced-same (net_inputs net ++ net_outputs net)

portless-none : (net : Netlist) → portless (net_source net) ≡ None
portless-none net =
    let ports = net_inputs net ++ net_outputs net in
    ap declaration_found (none-net (λ d. (is_input d.sort || is_output d.sort) && not (is_among d.name ports)) net (record {
      inputs = λ k d h. not_from_true _ (among-left (get_or (net_inputs net) k d) (net_inputs net) (net_outputs net) (among-at (net_inputs net) k d h));
      outputs = λ k d h. not_from_true _ (among-right (get_or (net_outputs net) k d) (net_inputs net) (net_outputs net) (among-at (net_outputs net) k d h));
      regs = λ k d h. refl;
      wires = λ k d h. refl;
    }))

last-behind : (xs : List (List ℕ)) (x : List ℕ) → is_last (xs ++ x ∷ []) x ≡ true
last-behind [] x = same_name-self x
last-behind (y ∷ []) x = same_name-self x
last-behind (y ∷ z ∷ xs) x = last-behind (z ∷ xs) x

sign-input : (name : List ℕ) → is_name name ≡ true → has_sign (codes "i_") (input_name name) ≡ true
sign-input name fits = long-name name fits

sign-output : (output : NetOut) → is_name output.name ≡ true → has_sign (codes "o_") (output_name output) ≡ true
sign-output output fits = long-name output.name fits

ill_named-none : (net : Netlist) → IsWritable net → ill_named (net_source net) ≡ None
ill_named-none net is =
    let decls = net_declarations net in
    ap declaration_found (none-net (λ d. is_ill_named decls d.sort d.name) net (record {
      inputs = λ k d h. given k d h;
      outputs = λ k d h. shown k d h;
      regs = λ k d h. refl;
      wires = λ k d h. refl;
    }))
  where
    given : (k : ℕ) (d : List ℕ) → k < length (net_inputs net) → is_ill_named (net_declarations net) Input (get_or (net_inputs net) k d) ≡ false
    given zero d h = ap (λ names. not (is_first names clock_name) && not (has_sign (codes "i_") clock_name)) (inputs-net net)
    given (suc k) d h =
        let wide = length-map net.inputs input_name in
        let low : k < length net.inputs = omega arith in
        let at : get_or (input_words net) k d ≡ input_name (get_or net.inputs k []) = get_or-map input_name net.inputs k [] d low in
        ap (λ n. not (is_first (names_of is_input (net_declarations net)) n) && not (has_sign (codes "i_") n)) at
        ∙ ap (λ b. not (is_first (names_of is_input (net_declarations net)) (input_name (get_or net.inputs k []))) && not b)
        (sign-input (get_or net.inputs k []) (is.is_net.input_names_fit k [] low))
        ∙ and-false (not (is_first (names_of is_input (net_declarations net)) (input_name (get_or net.inputs k []))))

    each-output : All (λ n. is_ill_named (net_declarations net) Output n ≡ false) (output_words net)
    each-output k d h =
        let wide = length-map net.outputs output_name in
        let low : k < length net.outputs = omega arith in
        let at : get_or (output_words net) k d ≡ output_name (get_or net.outputs k any_output) = get_or-map output_name net.outputs k any_output d low in
        ap (λ n. is_ill_named (net_declarations net) Output n) at
        ∙ ap (λ b. not b && not (is_last (names_of is_output (net_declarations net)) (output_name (get_or net.outputs k any_output))
        && is_same_name (output_name (get_or net.outputs k any_output)) paused_name))
        (sign-output (get_or net.outputs k any_output) (is.is_net.output_names_fit k any_output low))

    last-output : All (λ n. is_ill_named (net_declarations net) Output n ≡ false) (paused_name ∷ [])
    last-output zero d h =
        ap (λ names. not (is_last names paused_name && true)) (outputs-net net) ∙ ap (λ b. not (b && true)) (last-behind (output_words net) paused_name)
    last-output (suc k) d h = absurd (omega arith)

    shown : All (λ n. is_ill_named (net_declarations net) Output n ≡ false) (net_outputs net)
    shown = All-append (λ n. is_ill_named (net_declarations net) Output n ≡ false) (output_words net) (paused_name ∷ []) each-output last-output

other_clock-none : (net : Netlist) → other_clock (net_source net) ≡ None
other_clock-none net = ap (λ names. if is_first names clock_name then None else Some clock_name) (inputs-net net)

wrong_port-none : (net : Netlist) → IsWritable net → wrong_port (net_source net) ≡ None
wrong_port-none net is = rw (misplaced-none net, portless-none net, ill_named-none net is, other_clock-none net) refl

-- ---- each name that is used is declared

-- a use that is wrong, in the names of a net
abbrev wrong_by : Netlist → Use → Bool
wrong_by net (Kept name) = not (is_among name (state_names net))
wrong_by net (Assigned name) = not (is_among name (all_declared net))
wrong_by net (Taken name) = not (is_among name (all_declared net)) || is_same_name name clock_name

wrong-net : (net : Netlist) (u : Use) → is_wrong (net_declarations net) u ≡ wrong_by net u
wrong-net net (Kept name) = ap (λ l. not (is_among name l)) (regs-net net)
wrong-net net (Assigned name) = ap (λ l. not (is_among name l)) (declared-net net)
wrong-net net (Taken name) =
    ap (λ l. not (is_among name l) || is_clock (net_declarations net) name) (declared-net net)
    ∙ ap (λ l. not (is_among name (all_declared net)) || is_first l name) (inputs-net net)

-- a name whose value may be taken
abbrev Free : Netlist → List ℕ → Type 0
Free net x = wrong_by net (Taken x) ≡ false

net-free : (net : Netlist) (n : ℕ) → n < net_count net → Free net (net_name net n)
net-free net n h =
    or_from (not (is_among (net_name net n) (all_declared net))) (is_same_name (net_name net n) clock_name)
    (not_from_true _ (net-declared net n h)) (net-no_clock net n h)

none-taken : (net : Netlist) (xs : List (List ℕ)) → AllByRecursion (Free net) xs → list_any (wrong_by net) (map Taken xs) ≡ false
none-taken net [] all = refl
none-taken net (x ∷ xs) all = or_from (wrong_by net (Taken x)) (list_any (wrong_by net) (map Taken xs)) all.0 (none-taken net xs all.1)

record Fits (net : Netlist) (a : Assign Expr) : Type 0 where
  target : is_among a.target (all_declared net) ≡ true
  taken : AllByRecursion (Free net) (names_in a.value)

none-assigned : (net : Netlist) (assigns : List (Assign Expr)) → All (Fits net) assigns → list_any (wrong_by net) (flat_map assign_uses assigns) ≡ false
none-assigned net [] all = refl
none-assigned net (a ∷ assigns) all =
    let fits = all 0 a (omega arith) in
    list_any-append (wrong_by net) (assign_uses a) (flat_map assign_uses assigns)
    ∙ or_from (list_any (wrong_by net) (assign_uses a)) (list_any (wrong_by net) (flat_map assign_uses assigns))
    (or_from (not (is_among a.target (all_declared net))) (list_any (wrong_by net) (map Taken (names_in a.value))) (not_from_true _ fits.target)
    (none-taken net (names_in a.value) fits.taken))
    (none-assigned net assigns (λ k d h. all (suc k) d (omega arith)))

record Follows (net : Netlist) (n : Next) : Type 0 where
  kept : is_among n.target (state_names net) ≡ true
  taken : Free net n.source

none-next : (net : Netlist) (nexts : List Next) → All (Follows net) nexts → list_any (wrong_by net) (flat_map next_uses nexts) ≡ false
none-next net [] all = refl
none-next net (n ∷ nexts) all =
    let fits = all 0 n (omega arith) in
    or_from (not (is_among n.target (state_names net))) (list_any (wrong_by net) (Taken n.source ∷ flat_map next_uses nexts)) (not_from_true _ fits.kept)
    (or_from (wrong_by net (Taken n.source)) (list_any (wrong_by net) (flat_map next_uses nexts)) fits.taken
    (none-next net nexts (λ k d h. all (suc k) d (omega arith))))

none-initial : (net : Netlist) (initials : List Initial) → All (λ i. is_among i.name (state_names net) ≡ true) initials
    → list_any (wrong_by net) (map (λ i. Kept i.name) initials) ≡ false
none-initial net [] all = refl
none-initial net (i ∷ initials) all =
    or_from (not (is_among i.name (state_names net))) (list_any (wrong_by net) (map (λ i. Kept i.name) initials)) (not_from_true _ (all 0 i (omega arith)))
    (none-initial net initials (λ k d h. all (suc k) d (omega arith)))

-- what holds of each assignment of a net's source
pub record EachAssign (P : Assign Expr → Type 0) (net : Netlist) : Type 0 where
  pub gates : (k : ℕ) → k < length net.gates → P (gate_assign net k (get_or net.gates k any_gate))
  pub outputs : (k : ℕ) → k < length net.outputs → P (output_assign net (get_or net.outputs k any_output))
  pub paused : P (paused_assign net)

pub each-assign : (P : Assign Expr → Type 0) (net : Netlist) → EachAssign P net → All P (net_assigns net)
each-assign P net each =
    All-append P (numbered (gate_assign net) 0 net.gates) (map (output_assign net) net.outputs ++ paused_assign net ∷ []) (gates P net each)
    (All-append P (map (output_assign net) net.outputs) (paused_assign net ∷ []) (outputs P net each) (last P net each))
  where
    gates : (P : Assign Expr → Type 0) (net : Netlist) → EachAssign P net → All P (numbered (gate_assign net) 0 net.gates)
    gates P net each k d h =
        let n = length-numbered (gate_assign net) 0 net.gates in
        let z : 0 + k ≡ k = omega arith in
        let at : get_or (numbered (gate_assign net) 0 net.gates) k d ≡ gate_assign net k (get_or net.gates k any_gate) =
        get_or-numbered (gate_assign net) 0 net.gates k d any_gate (omega arith) ∙ ap (λ m. gate_assign net m (get_or net.gates k any_gate)) z in
        subst P (sym at) (each.gates k (omega arith))

    outputs : (P : Assign Expr → Type 0) (net : Netlist) → EachAssign P net → All P (map (output_assign net) net.outputs)
    outputs P net each k d h =
        let n = length-map net.outputs (output_assign net) in
        subst P (sym (get_or-map (output_assign net) net.outputs k any_output d (omega arith))) (each.outputs k (omega arith))

    last : (P : Assign Expr → Type 0) (net : Netlist) → EachAssign P net → All P (paused_assign net ∷ [])
    last P net each zero d h = each.paused
    last P net each (suc k) d h = absurd (omega arith)

assigns-fit : (net : Netlist) → IsWritable net → EachAssign (Fits net) net
assigns-fit net is = record {
  gates = λ k h.
      let g = get_or net.gates k any_gate in
      record {
        target = gate-declared net (gate_name k g.wire) (among-gate net k h);
        taken = op-names (Free net) (net_name net) g.op (net_count net) (omega (arith, gate-low net is k h)) (net-free net);
      };
  outputs = λ k h. record {
    target = output-declared net (output_name (get_or net.outputs k any_output))
        (among-left (output_name (get_or net.outputs k any_output)) (output_words net) (paused_name ∷ [])
        (among-mapped output_name net.outputs k any_output h));
    taken = (net-free net (get_or net.outputs k any_output).net.0 (is.is_net.outputs_in_range k any_output h), tt);
  };
  paused = record {
    target = output-declared net paused_name (among-right paused_name (output_words net) (paused_name ∷ []) refl);
    taken = (net-free net net.paused is.is_net.paused_in_range, tt);
  };
}

undeclared-none : (net : Netlist) → IsWritable net → undeclared (net_source net) ≡ None
undeclared-none net is =
    let s = net_source net in
    let initials = none-initial net s.initials
    (All-numbered (λ (i : Initial). is_among i.name (state_names net) ≡ true) latch_initial 0 net.latches
    (λ k d h. let z : 0 + k ≡ k = omega arith in ap (λ j. is_among (state_name j) (state_names net)) z ∙ among-state net k h)) in
    let assigns = none-assigned net s.assigns (each-assign (Fits net) net (assigns-fit net is)) in
    let nexts = none-next net s.nexts
    (All-numbered (Follows net) (latch_next net) 0 net.latches
    (λ k d h. let z : 0 + k ≡ k = omega arith in record {
      kept = ap (λ j. is_among (state_name j) (state_names net)) z ∙ among-state net k h;
      taken = net-free net (get_or net.latches k d).from.0 (is.is_net.latches_in_range k d h);
    })) in
    let none : list_any (wrong_by net) (uses s) ≡ false =
    list_any-append (wrong_by net) (map (λ i. Kept i.name) s.initials) (flat_map assign_uses s.assigns ++ flat_map next_uses s.nexts)
    ∙ or_from (list_any (wrong_by net) (map (λ i. Kept i.name) s.initials))
    (list_any (wrong_by net) (flat_map assign_uses s.assigns ++ flat_map next_uses s.nexts)) initials
    (list_any-append (wrong_by net) (flat_map assign_uses s.assigns) (flat_map next_uses s.nexts)
    ∙ or_from (list_any (wrong_by net) (flat_map assign_uses s.assigns)) (list_any (wrong_by net) (flat_map next_uses s.nexts)) assigns nexts) in
    ap use_found (find-same (is_wrong (net_declarations net)) (wrong_by net) (uses s) (wrong-net net) ∙ find-none (wrong_by net) (uses s) none)

-- ---- each name is driven once

initials-are : (net : Netlist) → map (λ i. i.name) (net_source net).initials ≡ state_names net
initials-are net = map-numbered (λ (i : Initial). i.name) latch_initial 0 net.latches

nexts-are : (net : Netlist) → map (λ n. n.target) (net_source net).nexts ≡ state_names net
nexts-are net = map-numbered (λ (n : Next). n.target) (latch_next net) 0 net.latches

map-map : {X Y Z : Type 0} (g : Y → Z) (f : X → Y) (h : X → Z) (xs : List X) → ((x : X) → g (f x) ≡ h x) → map g (map f xs) ≡ map h xs
map-map g f h [] same = refl
map-map g f h (x ∷ xs) same = rw (same x) (ap (λ l. h x ∷ l) (map-map g f h xs same))

pub targets-are : (net : Netlist) → targets (net_source net).assigns ≡ gate_names net ++ net_outputs net
targets-are net =
    map-append (λ (a : Assign Expr). a.target) (numbered (gate_assign net) 0 net.gates) (map (output_assign net) net.outputs ++ paused_assign net ∷ [])
    ∙ ap (λ l. l ++ map (λ (a : Assign Expr). a.target) (map (output_assign net) net.outputs ++ paused_assign net ∷ []))
    (map-numbered (λ (a : Assign Expr). a.target) (gate_assign net) 0 net.gates)
    ∙ ap (λ l. gate_names net ++ l) (map-append (λ (a : Assign Expr). a.target) (map (output_assign net) net.outputs) (paused_assign net ∷ [])
    ∙ ap (λ l. l ++ paused_name ∷ []) (map-map (λ (a : Assign Expr). a.target) (output_assign net) output_name net.outputs (λ o. refl)))

differ-own_targets : (net : Netlist) → IsWritable net
    → all_differ is_same_name ((net_inputs net ++ state_names net) ++ (gate_names net ++ net_outputs net)) ≡ true
differ-own_targets net is =
    let p : ℕ → Bool = λ m. m == 99 || (m == 105 || m == 115) in
    let first = in-front (λ m. m == 99 || m == 105) (net_inputs net) (state_names net) (differ-given net is)
    (and_from true (list_all (λ x. mark x == 99 || mark x == 105) (input_words net)) refl (marks-inputs net (λ m. m == 99 || m == 105) refl))
    (marks-states net (λ m. not (m == 99 || m == 105)) refl) (differ-states net is) in
    in-front p (net_inputs net ++ state_names net) (gate_names net ++ net_outputs net) first
    (all-both (λ x. p (mark x)) (net_inputs net) (state_names net)
    (and_from true (list_all (λ x. p (mark x)) (input_words net)) refl (marks-inputs net p refl)) (marks-states net p refl))
    (all-both (λ x. not (p (mark x))) (gate_names net) (net_outputs net) (marks-gates net (λ m. not (p m)) refl refl)
    (marks-shown net (λ m. not (p m)) refl refl))
    (differ-targets net is)

driven_twice-none : (net : Netlist) → IsWritable net → driven_twice (net_source net) ≡ None
driven_twice-none net is =
    let s = net_source net in
    let states : first_again [] (state_names net) ≡ None = once-differ (state_names net) (differ-states net is) in
    let initials : first_again [] (map (λ i. i.name) s.initials) ≡ None = ap (first_again []) (initials-are net) ∙ states in
    let nexts : first_again [] (map (λ n. n.target) s.nexts) ≡ None = ap (first_again []) (nexts-are net) ∙ states in
    let own = net_inputs net ++ state_names net in
    let all = gate_names net ++ net_outputs net in
    let assigns : first_again (names_of (λ sort. is_input sort || is_reg sort) s.declarations) (targets s.assigns) ≡ None =
    ap (λ l. first_again l (targets s.assigns)) (own-net net) ∙ ap (first_again own) (targets-are net)
    ∙ once-behind own all (once-differ (own ++ all) (differ-own_targets net is)) in
    rw (initials, assigns, nexts) refl

undriven-none : (net : Netlist) → undriven (net_source net) ≡ None
undriven-none net =
    let s = net_source net in
    ap declaration_found (none-net (λ d. not (is_driven s d.sort d.name)) net (record {
      inputs = λ k d h. refl;
      outputs = λ k d h. ap not (ap (is_among (get_or (net_outputs net) k d)) (targets-are net)
          ∙ among-right (get_or (net_outputs net) k d) (gate_names net) (net_outputs net) (among-at (net_outputs net) k d h));
      regs = λ k d h.
          let x = get_or (state_names net) k d in
          ap not (ap (λ l. is_among x l && is_among x (map (λ (n : Next). n.target) s.nexts)) (initials-are net)
          ∙ ap (λ l. is_among x (state_names net) && is_among x l) (nexts-are net)
          ∙ and_from (is_among x (state_names net)) (is_among x (state_names net)) (among-at (state_names net) k d h) (among-at (state_names net) k d h));
      wires = λ k d h. ap not (ap (is_among (get_or (gate_names net) k d)) (targets-are net)
          ∙ among-left (get_or (gate_names net) k d) (gate_names net) (net_outputs net) (among-at (gate_names net) k d h));
    }))

pub names-fit : (net : Netlist) → IsWritable net → name_fault (net_source net) ≡ None
names-fit net is = rw (declared_once net is, wrong_port-none net is, undeclared-none net is, driven_twice-none net is, undriven-none net) refl
