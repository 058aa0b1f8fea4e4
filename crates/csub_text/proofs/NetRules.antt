-- A net's program keeps the rules on names.
use Rattle.std.proofs.Common.{◌≡◌, ℕ, ◌+◌, ◌<◌, ◌==◌, zero, suc, Bool, true, false, not, ◌&&◌, ◌||◌, List, [], ◌∷◌, ◌++◌, length}
use Rattle.std.proofs.Common.{map, get_or, All, refl, sym, ap, ◌∙◌, subst, arith, Some, None, append_assoc, ◌⊎◌, inl, inr}
use Rattle.std.specs.Prelude.{flat_map, filter, find}
use Rattle.std.specs.List.{list_any, AllByRecursion}
use Rattle.std.specs.Cmp.Lexicographic.{nat_list_eq_equiv}
use Rattle.std.proofs.lemmas.List.Folds.{list_any-append, list_any_at}
use Rattle.std.proofs.lemmas.Bool.{or_from, not_from_true}
use Rattle.std.proofs.lemmas.List.{length-map, get_or-map}
use Rattle.std.proofs.lemmas.List.Elements.{All-append}
use Rattle.base_types.specs.Names.{is_same_name}
use Rattle.base_types.proofs.Exports.{same_name-self}
use Rattle.net_ir.specs.declared.netlist.Gate.{Gate}
use Rattle.net_ir.specs.declared.netlist.Latch.{Latch}
use Rattle.net_ir.specs.declared.netlist.NetOut.{NetOut}
use Rattle.net_ir.specs.Netlists.{Netlist, first_gate, net_count}
use Rattle.csub_text.specs.Trees.{Expr, Assign}
use Rattle.csub_text.specs.Grammar.{begins_input}
use Rattle.net_ir.specs.NameLists.{is_among, first_again}
use Rattle.csub_text.specs.Names.{declared, names_in, declared_twice, Taken, uses_in, uses, is_wrong}
use Rattle.csub_text.specs.Names.{name_found, undeclared, unset_from}
use Rattle.csub_text.specs.Written.{input_name, state_name, gate_name, next_name, answer_name, net_name, input_variable, output_variable}
use Rattle.csub_text.specs.Written.{net_state, net_globals, net_locals, gate_names, input_assign, gate_assign, next_assign, output_assign}
use Rattle.csub_text.specs.Written.{answer_assign, state_assign, net_body, net_program}
use Rattle.net_expressions.proofs.Exports.{op-names, mark, state_names, among-numbered, among-left, among-right, any_gate, any_latch, find-none, any_output}
use Rattle.net_expressions.proofs.Exports.{gate-low}
use Rattle.csub_text.proofs.NetNames.{input_names, next_names, given_variables}
use Rattle.csub_text.proofs.NetNames.{shown_variables}
use Rattle.csub_text.proofs.NetNames.{differ-declared}
use Rattle.net_ir.proofs.Exports.{length-numbered, get_or-numbered, map-numbered, is_among-filter, once-differ, net_cases}
use Rattle.net_ir.specs.Numbered.{numbered}
use Rattle.net_ir.specs.Writing.{IsWritable}
use Rattle.net_expressions.proofs.Naming as naming

pub declared-net : (net : Netlist) → declared (net_program net) ≡ state_names net ++ (net_globals net ++ net_locals net)
declared-net net =
    append_assoc (map (λ s. s.name) (net_program net).states) (net_globals net) (net_locals net)
    ∙ ap (λ l. l ++ (net_globals net ++ net_locals net)) (map-numbered (λ s. s.name) net_state 0 net.latches)

pub declared_once : (net : Netlist) → IsWritable net → declared_twice (net_program net) ≡ None
declared_once net is =
    ap (first_again []) (declared-net net)
    ∙ once-differ (state_names net ++ (net_globals net ++ net_locals net)) (differ-declared net is)

-- ---- the name of a net

pub net_name-input : (net : Netlist) (n : ℕ) → n < length net.inputs → net_name net n ≡ input_name n
net_name-input = naming.net_name-input input_name

pub net_name-state : (net : Netlist) (j : ℕ) → j < length net.latches → net_name net (length net.inputs + j) ≡ state_name j
net_name-state = naming.net_name-state input_name

pub net_name-gate : (net : Netlist) (k : ℕ) (d : Gate) → k < length net.gates → net_name net (first_gate net + k) ≡ gate_name k (get_or net.gates k d).wire
net_name-gate = naming.net_name-gate input_name

-- ---- each name that is used is declared

abbrev pub all_declared : Netlist → List (List ℕ)
all_declared net = state_names net ++ (net_globals net ++ net_locals net)

pub declared-local : (net : Netlist) (x : List ℕ) → is_among x (net_locals net) ≡ true → is_among x (all_declared net) ≡ true
declared-local net x h = among-right x (state_names net) (net_globals net ++ net_locals net) (among-right x (net_globals net) (net_locals net) h)

declared-global : (net : Netlist) (x : List ℕ) → is_among x (net_globals net) ≡ true → is_among x (all_declared net) ≡ true
declared-global net x h = among-right x (state_names net) (net_globals net ++ net_locals net) (among-left x (net_globals net) (net_locals net) h)

local-input : (net : Netlist) (j : ℕ) (d : List ℕ) → j < length net.inputs → is_among (input_name j) (net_locals net) ≡ true
local-input net j d h = among-left (input_name j) (input_names net) _ (among-numbered (λ j name. input_name j) net.inputs j d h)

pub local-gate : (net : Netlist) (k : ℕ) (d : Gate) → k < length net.gates → is_among (gate_name k (get_or net.gates k d).wire) (net_locals net) ≡ true
local-gate net k d h = among-right _ (input_names net) _ (among-left _ (gate_names net) _ (among-numbered (λ k gate. gate_name k gate.wire) net.gates k d h))

local-next : (net : Netlist) (j : ℕ) (d : Latch) → j < length net.latches → is_among (next_name j) (net_locals net) ≡ true
local-next net j d h =
    among-right (next_name j) (input_names net) _ (among-right (next_name j) (gate_names net) _ (among-left (next_name j) (next_names net) _
    (among-numbered (λ j latch. next_name j) net.latches j d h)))

pub local-answer : (net : Netlist) → is_among answer_name (net_locals net) ≡ true
local-answer net =
    among-right answer_name (input_names net) _ (among-right answer_name (gate_names net) _ (among-right answer_name (next_names net) (answer_name ∷ []) refl))

pub net-declared : (net : Netlist) (n : ℕ) → n < net_count net → is_among (net_name net n) (all_declared net) ≡ true
net-declared net n h =
    net_cases net n h
    (λ low. ap (λ x. is_among x (all_declared net)) (net_name-input net n low) ∙ declared-local net (input_name n) (local-input net n [] low))
    (λ j low e. ap (λ x. is_among x (all_declared net)) (ap (net_name net) e ∙ net_name-state net j low)
    ∙ among-left (state_name j) (state_names net) _ (among-numbered (λ j latch. state_name j) net.latches j any_latch low))
    (λ k low e. ap (λ x. is_among x (all_declared net)) (ap (net_name net) e ∙ net_name-gate net k any_gate low)
    ∙ declared-local net (gate_name k (get_or net.gates k any_gate).wire) (local-gate net k any_gate low))

global-given : (net : Netlist) (j : ℕ) (d : List ℕ) → j < length net.inputs → is_among (input_variable (get_or net.inputs j d)) (net_globals net) ≡ true
global-given net j d h =
    let n = length-map net.inputs input_variable in
    let at : get_or (given_variables net) j [] ≡ input_variable (get_or net.inputs j d) = get_or-map input_variable net.inputs j d [] h in
    among-left (input_variable (get_or net.inputs j d)) (given_variables net) (shown_variables net)
    (list_any_at (is_same_name (input_variable (get_or net.inputs j d))) (given_variables net) j [] (omega arith)
    (ap (is_same_name (input_variable (get_or net.inputs j d))) at ∙ same_name-self (input_variable (get_or net.inputs j d))))

global-shown : (net : Netlist) (j : ℕ) (d : NetOut) → j < length net.outputs → is_among (output_variable (get_or net.outputs j d)) (net_globals net) ≡ true
global-shown net j d h =
    let n = length-map net.outputs output_variable in
    let at : get_or (shown_variables net) j [] ≡ output_variable (get_or net.outputs j d) = get_or-map output_variable net.outputs j d [] h in
    among-right (output_variable (get_or net.outputs j d)) (given_variables net) (shown_variables net)
    (list_any_at (is_same_name (output_variable (get_or net.outputs j d))) (shown_variables net) j [] (omega arith)
    (ap (is_same_name (output_variable (get_or net.outputs j d))) at ∙ same_name-self (output_variable (get_or net.outputs j d))))

-- an assignment whose target is declared and no input, and whose names are declared
pub record Fits (names : List (List ℕ)) (a : Assign) : Type 0 where
  pub target : is_among a.target names ≡ true
  pub no_input : begins_input a.target ≡ false
  pub taken : AllByRecursion (λ x. is_among x names ≡ true) (names_in a.value)

none-taken : (names xs : List (List ℕ)) → AllByRecursion (λ x. is_among x names ≡ true) xs → list_any (is_wrong names) (map Taken xs) ≡ false
none-taken names [] all = refl
none-taken names (x ∷ xs) all = or_from (not (is_among x names)) (list_any (is_wrong names) (map Taken xs)) (not_from_true (is_among x names) all.0)
    (none-taken names xs all.1)

none-wrong : (names : List (List ℕ)) (body : List Assign) → All (Fits names) body → list_any (is_wrong names) (flat_map uses_in body) ≡ false
none-wrong names [] all = refl
none-wrong names (a ∷ body) all =
    let fits = all 0 a (omega arith) in
    list_any-append (is_wrong names) (uses_in a) (flat_map uses_in body)
    ∙ or_from (list_any (is_wrong names) (uses_in a)) (list_any (is_wrong names) (flat_map uses_in body))
    (or_from (begins_input a.target || not (is_among a.target names)) (list_any (is_wrong names) (map Taken (names_in a.value)))
    (or_from (begins_input a.target) (not (is_among a.target names)) fits.no_input (not_from_true (is_among a.target names) fits.target))
    (none-taken names (names_in a.value) fits.taken))
    (none-wrong names body (λ k d h. all (suc k) d (omega arith)))

no_input-mark : (x : List ℕ) → (mark x == 73) ≡ false → begins_input x ≡ false
no_input-mark [] h = refl
no_input-mark (c ∷ []) h = rw h refl
no_input-mark (c ∷ d ∷ cs) h = rw h refl

gate-mark : (p : ℕ → Bool) (k : ℕ) (g : Gate) → p 103 ≡ false → p 119 ≡ false → p (mark (gate_name k g.wire)) ≡ false
gate-mark p k g a b = go g.wire
  where
    go : (wire : _) → p (mark (gate_name k wire)) ≡ false
    go None = a
    go (Some w) = b

-- what holds of each assignment of a numbered list
pub numbered-assigns : {X : Type 0} (P : Assign → Type 0) (f : ℕ → X → Assign) (xs : List X) (e : X) → ((k : ℕ) → k < length xs → P (f k (get_or xs k e)))
    → All P (numbered f 0 xs)
numbered-assigns P f xs e each k d h =
    let n = length-numbered f 0 xs in
    let z : 0 + k ≡ k = omega arith in
    let at : get_or (numbered f 0 xs) k d ≡ f k (get_or xs k e) = get_or-numbered f 0 xs k d e (omega arith) ∙ ap (λ m. f m (get_or xs k e)) z in
    subst P (sym at) (each k (omega arith))

-- the assignments of a net's program
pub record EachAssign (P : Assign → Type 0) (net : Netlist) : Type 0 where
  pub inputs : (j : ℕ) → j < length net.inputs → P (input_assign j (get_or net.inputs j []))
  pub gates : (k : ℕ) → k < length net.gates → P (gate_assign net k (get_or net.gates k any_gate))
  pub nexts : (j : ℕ) → j < length net.latches → P (next_assign net j (get_or net.latches j any_latch))
  pub outputs : (j : ℕ) → j < length net.outputs → P (output_assign net (get_or net.outputs j any_output))
  pub answer : P (answer_assign net)
  pub states : (j : ℕ) → j < length net.latches → P (state_assign j (get_or net.latches j any_latch))

pub each-assign : (P : Assign → Type 0) (net : Netlist) → EachAssign P net → All P (net_body net)
each-assign P net each =
    All-append P (numbered input_assign 0 net.inputs) _ (numbered-assigns P input_assign net.inputs [] each.inputs)
    (All-append P (numbered (gate_assign net) 0 net.gates) _ (numbered-assigns P (gate_assign net) net.gates any_gate each.gates)
    (All-append P (numbered (next_assign net) 0 net.latches) _ (numbered-assigns P (next_assign net) net.latches any_latch each.nexts)
    (All-append P (map (output_assign net) net.outputs) _ (mapped-assigns P net each)
    (All-append P (answer_assign net ∷ []) (numbered state_assign 0 net.latches) (one-assign P net each)
    (numbered-assigns P state_assign net.latches any_latch each.states)))))
  where
    mapped-assigns : (P : Assign → Type 0) (net : Netlist) → EachAssign P net → All P (map (output_assign net) net.outputs)
    mapped-assigns P net each k d h =
        let n = length-map net.outputs (output_assign net) in
        subst P (sym (get_or-map (output_assign net) net.outputs k any_output d (omega arith))) (each.outputs k (omega arith))

    one-assign : (P : Assign → Type 0) (net : Netlist) → EachAssign P net → All P (answer_assign net ∷ [])
    one-assign P net each zero d h = each.answer
    one-assign P net each (suc k) d h = absurd (omega arith)

pub assigns-fit : (net : Netlist) → IsWritable net → EachAssign (Fits (all_declared net)) net
assigns-fit net is = record {
  inputs = λ j h. record {
    target = declared-local net (input_name j) (local-input net j [] h);
    no_input = refl;
    taken = (declared-global net (input_variable (get_or net.inputs j [])) (global-given net j [] h), tt);
  };
  gates = λ k h.
      let g = get_or net.gates k any_gate in
      record {
        target = declared-local net (gate_name k g.wire) (local-gate net k any_gate h);
        no_input = no_input-mark (gate_name k g.wire) (gate-mark (λ m. m == 73) k g refl refl);
        taken = op-names (λ x. is_among x (all_declared net) ≡ true) (net_name net) g.op (net_count net) (omega (arith, gate-low net is k h))
            (net-declared net);
      };
  nexts = λ j h. record {
    target = declared-local net (next_name j) (local-next net j any_latch h);
    no_input = refl;
    taken = (net-declared net (get_or net.latches j any_latch).from.0 (is.is_net.latches_in_range j any_latch h), tt);
  };
  outputs = λ j h. record {
    target = declared-global net (output_variable (get_or net.outputs j any_output)) (global-shown net j any_output h);
    no_input = refl;
    taken = (net-declared net (get_or net.outputs j any_output).net.0 (is.is_net.outputs_in_range j any_output h), tt);
  };
  answer = record {
    target = declared-local net answer_name (local-answer net);
    no_input = refl;
    taken = (net-declared net net.paused is.is_net.paused_in_range, tt);
  };
  states = λ j h. record {
    target = among-left (state_name j) (state_names net) _ (among-numbered (λ j latch. state_name j) net.latches j any_latch h);
    no_input = refl;
    taken = (declared-local net (next_name j) (local-next net j any_latch h), tt);
  };
}

pub undeclared_none : (net : Netlist) → IsWritable net → undeclared (net_program net) ≡ None
undeclared_none net is =
    let names = declared (net_program net) in
    let body = each-assign (Fits (all_declared net)) net (assigns-fit net is) in
    let wrong : list_any (is_wrong (all_declared net)) (uses (net_program net)) ≡ false =
    list_any-append (is_wrong (all_declared net)) (flat_map uses_in (net_body net)) (map Taken (answer_name ∷ []))
    ∙ or_from (list_any (is_wrong (all_declared net)) (flat_map uses_in (net_body net))) (list_any (is_wrong (all_declared net)) (map Taken (answer_name ∷ [])))
    (none-wrong (all_declared net) (net_body net) body)
    (none-taken (all_declared net) (answer_name ∷ []) (declared-local net answer_name (local-answer net), tt)) in
    ap name_found (ap (λ ns. find (is_wrong ns) (uses (net_program net))) (declared-net net)
    ∙ find-none (is_wrong (all_declared net)) (uses (net_program net)) wrong)

-- ---- no local is read before it is assigned

-- a name that may be read where these locals are not assigned yet
abbrev Ready : List (List ℕ) → List ℕ → Type 0
Ready locals x = is_among x locals ≡ false

-- each name of an expression is no local, or is assigned before
abbrev pub Known : List (List ℕ) → List (List ℕ) → List ℕ → Type 0
Known locals before x = (is_among x locals ≡ false) ⊎ (is_among x before ≡ true)

abbrev pub Covered : List (List ℕ) → List (List ℕ) → List Assign → Expr → Type 0
Covered locals before [] answer = AllByRecursion (Known locals before) (names_in answer)
Covered locals before (a ∷ body) answer = AllByRecursion (Known locals before) (names_in a.value) × Covered locals (a.target ∷ before) body answer

-- the locals that are not assigned yet
pub record Left (locals before left : List (List ℕ)) : Type 0 where
  pub are : (x : List ℕ) → is_among x left ≡ (is_among x locals && not (is_among x before))

none-left : (locals before left : List (List ℕ)) → Left locals before left → (x : List ℕ) → Known locals before x → is_among x left ≡ false
none-left locals before left l x (inl none) = l.are x ∙ rw none refl
none-left locals before left l x (inr old) = l.are x ∙ rw old (and-none (is_among x locals))
  where
    and-none : (b : Bool) → (b && false) ≡ false
    and-none true = refl
    and-none false = refl

none-found : (locals before left : List (List ℕ)) → Left locals before left → (xs : List (List ℕ)) → AllByRecursion (Known locals before) xs
    → find (λ n. is_among n left) xs ≡ None
none-found locals before left l [] all = refl
none-found locals before left l (x ∷ xs) all = rw (none-left locals before left l x all.0) (none-found locals before left l xs all.1)

left-more : (locals before left : List (List ℕ)) (t : List ℕ) → Left locals before left → Left locals (t ∷ before) (filter (λ n. not (is_same_name t n)) left)
left-more locals before left t l = record {
  are = λ x. is_among-filter (λ n. not (is_same_name t n)) x left ∙ ap (λ b. b && not (is_same_name t x)) (l.are x)
      ∙ ap (λ b. (is_among x locals && not (is_among x before)) && not b) (nat_list_eq_equiv.symm t x)
      ∙ both (is_among x locals) (is_among x before) (is_same_name x t);
}
  where
    both : (a b c : Bool) → ((a && not b) && not c) ≡ (a && not (c || b))
    both true true true = refl
    both true true false = refl
    both true false true = refl
    both true false false = refl
    both false b c = refl

pub unset-covered : (locals before left : List (List ℕ)) → Left locals before left → (body : List Assign) (answer : Expr) → Covered locals before body answer
    → unset_from left body answer ≡ None
unset-covered locals before left l [] answer covered = none-found locals before left l (names_in answer) covered
unset-covered locals before left l (a ∷ body) answer covered =
    rw (none-found locals before left l (names_in a.value) covered.0)
    (unset-covered locals (a.target ∷ before) (filter (λ n. not (is_same_name a.target n)) left)
    (left-more locals before left a.target l) body answer covered.1)
