-- The circuit of a net has no combinational cycle: its tables stand in an order in which each reads earlier ones alone.
use Rattle.std.proofs.Common.{◌≡◌, ℕ, ◌+◌, ◌<◌, ◌≤◌, zero, suc, true, None, Ok, List, [], ◌∷◌, ◌++◌, length, map, get_or, refl, sym, ap, ◌∙◌, subst, arith}
use Rattle.std.specs.Prelude.{Contains}
use Rattle.std.specs.List.{position_or_len}
use Rattle.std.proofs.lemmas.List.{length-append, length-map, get_or_append_left, get_or-append-add, get_or-map, get_or_default}
use Rattle.base_types.specs.Names.{is_same_name}
use Rattle.base_types.specs.Distinct.{all_differ}
use Rattle.net_ir.specs.declared.netlist.Op.{Op}
use Rattle.net_ir.specs.declared.netlist.Op.TheVariants.{Const, Copy, Not, And, Or}
use Rattle.net_ir.specs.declared.netlist.Gate.{Gate}
use Rattle.net_ir.specs.declared.netlist.NetOut.{NetOut}
use Rattle.net_ir.specs.declared.netlist.Latch.{Latch}
use Rattle.net_ir.specs.Gates.{operand_end}
use Rattle.net_ir.specs.Netlists.{Netlist, first_gate}
use Rattle.blif_text.specs.Circuits.{Circuit, CircuitLatch, Table}
use Rattle.blif_text.specs.Written.{input_word, output_word, latch_word, gate_word, net_word, paused_word, operands}
use Rattle.blif_text.specs.Written.{net_latch, copy_table, input_table}
use Rattle.blif_text.specs.Written.{gate_table, output_table, net_tables, net_circuit}
use Rattle.blif_text.proofs.Exports.{shown_words, input_words, latch_words, gate_words, net_words, net_word-at, driven-net, names-differ, reading-written}
use Rattle.blif_text.specs.Circuits.{reading}
use Rattle.blif_text.specs.Written.{written, Means}
use Rattle.net_ir.proofs.Exports.{length-numbered, get_or-numbered, net_cases}
use Rattle.net_ir.specs.Numbered.{numbered}
use Rattle.net_ir.specs.Writing.{IsWritable}
use Rattle.blif_run.specs.Loops.{HasNoLoop, equation_of}
use Rattle.blif_run.specs.Tracing.{IsCircuitOf}
use Rattle.run_steps.specs.Equations.{NameEquation}
use Rattle.run_steps.proofs.Exports.{place-at, IsRising, rising-no_loop}
use Rattle.blif_run.specs.Truths.{no_table}

-- a name stands among the first ones
record IsBelow (names : List (List ℕ)) (limit : ℕ) (x : List ℕ) : Type 0 where
  place : ℕ
  low : place < limit
  within : place < length names
  is : get_or names place [] ≡ x

wider : (names : List (List ℕ)) (low high : ℕ) (x : List ℕ) → low ≤ high → IsBelow names low x → IsBelow names high x
wider names low high x h b = record { place = b.place; low = omega (arith, h, b.low); within = b.within; is = b.is }

-- ---- lists

left : (xs ys : List (List ℕ)) (k : ℕ) → k < length xs → get_or (xs ++ ys) k [] ≡ get_or xs k []
left xs ys k h = get_or_append_left xs ys [] k h

right : (xs ys : List (List ℕ)) (n k : ℕ) → length xs ≡ n → get_or (xs ++ ys) (n + k) [] ≡ get_or ys k []
right xs ys n k e = ap (λ m. get_or (xs ++ ys) (m + k) []) (sym e) ∙ get_or-append-add xs ys k []

only-one : {X : Type 0} (y x : X) → Contains (y ∷ []) x → y ≡ x
only-one y x (zero, h, is) = is
only-one y x (suc k, h, is) = absurd (omega (arith, h))

-- what holds of each element and its number
abbrev Each : {X : Type 0} → (ℕ → X → Type 0) → ℕ → List X → Type 0
Each P n [] = Unit {0}
Each P n (x ∷ xs) = P n x × Each P (n + 1) xs

each-from : {X : Type 0} (P : ℕ → X → Type 0) (n : ℕ) (xs : List X) → ((k : ℕ) (d : X) → k < length xs → P (n + k) (get_or xs k d)) → Each P n xs
each-from P n [] all = tt
each-from P n (x ∷ xs) all =
    let here : n + 0 ≡ n = omega arith in (
      subst (λ m. P m x) here (all 0 x (omega arith)),
      each-from P (n + 1) xs (λ k d h. let e : n + suc k ≡ n + 1 + k = omega arith in subst (λ m. P m (get_or xs k d)) e (all (suc k) d (omega (arith, h)))),
    )

each-both : {X : Type 0} (P : ℕ → X → Type 0) (n m : ℕ) (xs ys : List X) → n + length xs ≡ m → Each P n xs → Each P m ys → Each P n (xs ++ ys)
each-both P n m [] ys e a b = let s : m ≡ n = omega (arith, e) in subst (λ k. Each P k ys) s b
each-both P n m (x ∷ xs) ys e a b = (a.0, each-both P (n + 1) m xs ys (omega (arith, e)) a.1 b)

each-at : {X : Type 0} (P : ℕ → X → Type 0) (n : ℕ) (xs : List X) (k : ℕ) (d : X) → k < length xs → Each P n xs → P (n + k) (get_or xs k d)
each-at P n [] k d h a = absurd (omega (arith, h))
each-at P n (x ∷ xs) zero d h a = let e : n ≡ n + 0 = omega arith in subst (λ m. P m x) e a.0
each-at P n (x ∷ xs) (suc k) d h a =
    let e : n + 1 + k ≡ n + suc k = omega arith in subst (λ m. P m (get_or xs k d)) e (each-at P (n + 1) xs k d (omega (arith, h)) a.1)

-- ---- where the names of a net's circuit stand

-- the names that the tables drive, and all names that are driven
abbrev behind : Netlist → List (List ℕ)
behind net = input_words net ++ gate_words net ++ shown_words net ++ paused_word ∷ []

abbrev all_names : Netlist → List (List ℕ)
all_names net = net.inputs ++ (latch_words net ++ behind net)

inputs-count : (net : Netlist) → length (input_words net) ≡ length net.inputs
inputs-count net = length-numbered (λ j (name : List ℕ). input_word j) 0 net.inputs

latches-count : (net : Netlist) → length (latch_words net) ≡ length net.latches
latches-count net = length-numbered (λ j (latch : Latch). latch_word j) 0 net.latches

gates-count : (net : Netlist) → length (gate_words net) ≡ length net.gates
gates-count net = length-numbered (λ k (gate : Gate). gate_word k gate.wire) 0 net.gates

behind-count : (net : Netlist) → length net.inputs + length net.gates ≤ length (behind net)
behind-count net =
    let i = inputs-count net in
    let g = gates-count net in
    let a = length-append (input_words net) (gate_words net) in
    let b = length-append (input_words net ++ gate_words net) (shown_words net) in
    let c = length-append (input_words net ++ gate_words net ++ shown_words net) (paused_word ∷ []) in
    omega arith

behind-input : (net : Netlist) (k : ℕ) → k < length net.inputs → get_or (behind net) k [] ≡ get_or (input_words net) k []
behind-input net k h =
    let i = inputs-count net in
    let a = length-append (input_words net) (gate_words net) in
    let b = length-append (input_words net ++ gate_words net) (shown_words net) in
    left (input_words net ++ gate_words net ++ shown_words net) (paused_word ∷ []) k (omega arith)
    ∙ left (input_words net ++ gate_words net) (shown_words net) k (omega arith)
    ∙ left (input_words net) (gate_words net) k (omega arith)

behind-gate : (net : Netlist) (k : ℕ) → k < length net.gates → get_or (behind net) (length net.inputs + k) [] ≡ get_or (gate_words net) k []
behind-gate net k h =
    let i = inputs-count net in
    let g = gates-count net in
    let a = length-append (input_words net) (gate_words net) in
    let b = length-append (input_words net ++ gate_words net) (shown_words net) in
    left (input_words net ++ gate_words net ++ shown_words net) (paused_word ∷ []) (length net.inputs + k) (omega arith)
    ∙ left (input_words net ++ gate_words net) (shown_words net) (length net.inputs + k) (omega arith)
    ∙ right (input_words net) (gate_words net) (length net.inputs) k i

all-count : (net : Netlist) → length (all_names net) ≡ length net.inputs + (length net.latches + length (behind net))
all-count net =
    length-append net.inputs (latch_words net ++ behind net)
    ∙ ap (λ n. length net.inputs + n) (length-append (latch_words net) (behind net) ∙ ap (λ n. n + length (behind net)) (latches-count net))

all-behind : (net : Netlist) (k : ℕ) → get_or (all_names net) (first_gate net + k) [] ≡ get_or (behind net) k []
all-behind net k =
    let e : first_gate net + k ≡ length net.inputs + (length net.latches + k) = omega arith in
    ap (λ m. get_or (all_names net) m []) e ∙ right net.inputs (latch_words net ++ behind net) (length net.inputs) (length net.latches + k) refl
    ∙ right (latch_words net) (behind net) (length net.latches) k (latches-count net)

all-latch : (net : Netlist) (j : ℕ) → j < length net.latches → get_or (all_names net) (length net.inputs + j) [] ≡ get_or (latch_words net) j []
all-latch net j h =
    let l = latches-count net in
    right net.inputs (latch_words net ++ behind net) (length net.inputs) j refl ∙ left (latch_words net) (behind net) j (omega arith)

-- the name of a net among those of the inputs, the latches and so many gates
word-below : (net : Netlist) (n gates : ℕ) → gates ≤ length net.gates → n < first_gate net + gates
    → IsBelow (all_names net) (first_gate net + (length net.inputs + gates)) (net_word net n)
word-below net n gates few h =
    let i = inputs-count net in
    let l = latches-count net in
    let g = gates-count net in
    let count = all-count net in
    let wide = behind-count net in
    let il = length-append (input_words net) (latch_words net) in
    let ilg = length-append (input_words net ++ latch_words net) (gate_words net) in
    net_cases net n (omega arith)
    (λ low. record {
      place = first_gate net + n;
      low = omega (arith, low);
      within = omega (arith, low);
      is = all-behind net n ∙ behind-input net n low
          ∙ sym (net_word-at net n (omega arith) ∙ left (input_words net ++ latch_words net) (gate_words net) n (omega (arith, low))
          ∙ left (input_words net) (latch_words net) n (omega (arith, low)));
    })
    (λ j low e. record {
      place = length net.inputs + j;
      low = omega (arith, low);
      within = omega (arith, low);
      is = all-latch net j low
          ∙ sym (net_word-at net n (omega arith) ∙ left (input_words net ++ latch_words net) (gate_words net) n (omega (arith, low, e))
          ∙ ap (λ m. get_or (input_words net ++ latch_words net) m []) e ∙ right (input_words net) (latch_words net) (length net.inputs) j i);
    })
    (λ k low e. record {
      place = first_gate net + (length net.inputs + k);
      low = omega (arith, low, e);
      within = omega (arith, low);
      is = all-behind net (length net.inputs + k) ∙ behind-gate net k low
          ∙ sym (net_word-at net n (omega arith) ∙ ap (λ m. get_or (net_words net) m []) e
          ∙ right (input_words net ++ latch_words net) (gate_words net) (first_gate net) k (omega arith));
    })

-- ---- what the tables read

-- the names that the table with this number reads stand before its own
abbrev ReadsBelow : Netlist → ℕ → Table → Type 0
ReadsBelow net k t = (x : List ℕ) → Contains t.inputs x → IsBelow (all_names net) (first_gate net + k) x

reads-word : (net : Netlist) (n gates k : ℕ) (output : List ℕ) → gates ≤ length net.gates → n < first_gate net + gates → length net.inputs + gates ≤ k
    → ReadsBelow net k (copy_table (net_word net n) output)
reads-word net n gates k output few h le x has =
    subst (λ y. IsBelow (all_names net) (first_gate net + k) y) (only-one (net_word net n) x has)
    (wider (all_names net) _ _ (net_word net n) (omega (arith, le)) (word-below net n gates few h))

reads-input : (net : Netlist) (k : ℕ) (d : List ℕ) → k < length net.inputs → ReadsBelow net k (input_table k (get_or net.inputs k d))
reads-input net k d h x has =
    let count = all-count net in
    record {
      place = k;
      low = omega (arith, h);
      within = omega (arith, h);
      is = left net.inputs (latch_words net ++ behind net) k h ∙ get_or_default net.inputs k [] d h ∙ only-one (get_or net.inputs k d) x has;
    }

-- a net that an operator reads is one below the end of what it reads
operand-at : (net : Netlist) (op : Op) (x : List ℕ) → Contains (map (net_word net) (operands op)) x
    → (n : ℕ) × (n < operand_end op) × (net_word net n ≡ x)
operand-at net (Const b) x has = absurd (omega (arith, has.1))
operand-at net (Copy n) x has = (n.0, omega arith, only-one (net_word net n.0) x has)
operand-at net (Not n) x has = (n.0, omega arith, only-one (net_word net n.0) x has)
operand-at net (And m n) x (zero, h, is) = (m.0, omega arith, is)
operand-at net (And m n) x (suc zero, h, is) = (n.0, omega arith, is)
operand-at net (And m n) x (suc (suc k), h, is) = absurd (omega (arith, h))
operand-at net (Or m n) x (zero, h, is) = (m.0, omega arith, is)
operand-at net (Or m n) x (suc zero, h, is) = (n.0, omega arith, is)
operand-at net (Or m n) x (suc (suc k), h, is) = absurd (omega (arith, h))

reads-gate : (net : Netlist) → IsWritable net → (k : ℕ) (d : Gate) → k < length net.gates
    → ReadsBelow net (length net.inputs + k) (gate_table net k (get_or net.gates k d))
reads-gate net is k d h x has =
    let n = operand-at net (get_or net.gates k d).op x has in
    let low : n.0 < first_gate net + k = omega (arith, n.1, is.is_net.reads_lower k d h) in
    subst (λ y. IsBelow (all_names net) (first_gate net + (length net.inputs + k)) y) n.2 (word-below net n.0 k (omega (arith, h)) low)

each-reads : (net : Netlist) → IsWritable net → Each (ReadsBelow net) 0 (net_tables net)
each-reads net is =
    let inputs = numbered input_table 0 net.inputs in
    let gates = numbered (gate_table net) 0 net.gates in
    let outputs = map (output_table net) net.outputs in
    let paused = copy_table (net_word net net.paused) paused_word in
    let i : length inputs ≡ length net.inputs = length-numbered input_table 0 net.inputs in
    let g : length gates ≡ length net.gates = length-numbered (gate_table net) 0 net.gates in
    let o : length outputs ≡ length net.outputs = length-map net.outputs (output_table net) in
    let ig = length-append inputs gates in
    let igo = length-append (inputs ++ gates) outputs in
    let all = length net.gates in
    let on_inputs = each-from (ReadsBelow net) 0 inputs (λ k d h.
    let low : k < length net.inputs = omega arith in
    let e : k ≡ 0 + k = omega arith in
    subst (λ t. ReadsBelow net (0 + k) t) (sym (get_or-numbered input_table 0 net.inputs k d [] low))
    (subst (λ m. ReadsBelow net m (input_table m (get_or net.inputs k []))) e (reads-input net k [] low)))
    in
    let on_gates = each-from (ReadsBelow net) (length net.inputs) gates (λ k d h.
    let low : k < length net.gates = omega arith in
    let any : Gate = record { op = Const true; wire = None } in
    let e : k ≡ 0 + k = omega arith in
    subst (λ t. ReadsBelow net (length net.inputs + k) t) (sym (get_or-numbered (gate_table net) 0 net.gates k d any low))
    (subst (λ m. ReadsBelow net (length net.inputs + k) (gate_table net m (get_or net.gates k any))) e (reads-gate net is k any low)))
    in
    let on_outputs = each-from (ReadsBelow net) (length net.inputs + all) outputs (λ k d h.
    let low : k < length net.outputs = omega arith in
    let any : NetOut = record { name = []; net = record { 0 = 0 } } in
    let out = get_or net.outputs k any in
    subst (λ t. ReadsBelow net (length net.inputs + all + k) t) (sym (get_or-map (output_table net) net.outputs k any d low))
    (reads-word net out.net.0 all (length net.inputs + all + k) (output_word net.inputs out.name) (omega arith)
    (is.is_net.outputs_in_range k any low) (omega arith)))
    in
    let on_paused = reads-word net net.paused all (length net.inputs + all + length net.outputs) paused_word (omega arith)
    is.is_net.paused_in_range (omega arith) in
    each-both (ReadsBelow net) 0 (length net.inputs + all + length net.outputs) (inputs ++ gates ++ outputs) (paused ∷ []) (omega arith)
    (each-both (ReadsBelow net) 0 (length net.inputs + all) (inputs ++ gates) outputs (omega arith)
    (each-both (ReadsBelow net) 0 (length net.inputs) inputs gates (omega arith) on_inputs on_gates) on_outputs) (on_paused, tt)

-- ---- the places of what the tables drive

driven-at : (net : Netlist) (m : ℕ) (d : Table) → m < length (net_tables net)
    → get_or (all_names net) (first_gate net + m) [] ≡ (get_or (net_tables net) m d).output
driven-at net m d h =
    let targets = map (λ (l : CircuitLatch). l.target) (numbered (net_latch net) 0 net.latches) in
    let outs = map (λ (t : Table). t.output) (net_tables net) in
    let t : length targets ≡ length net.latches = length-map (numbered (net_latch net) 0 net.latches) (λ (l : CircuitLatch). l.target)
    ∙ length-numbered (net_latch net) 0 net.latches in
    let e : first_gate net + m ≡ length net.inputs + (length net.latches + m) = omega arith in
    let driven : all_names net ≡ net.inputs ++ (targets ++ outs) = sym (driven-net net) in
    ap (λ names. get_or names (first_gate net + m) []) driven
    ∙ ap (λ k. get_or (net.inputs ++ (targets ++ outs)) k []) e
    ∙ right net.inputs (targets ++ outs) (length net.inputs) (length net.latches + m) refl
    ∙ right targets outs (length net.latches) m t
    ∙ get_or-map (λ (t : Table). t.output) (net_tables net) m d [] h

driven-within : (net : Netlist) (m : ℕ) → m < length (net_tables net) → first_gate net + m < length (all_names net)
driven-within net m h =
    let targets = map (λ (l : CircuitLatch). l.target) (numbered (net_latch net) 0 net.latches) in
    let outs = map (λ (t : Table). t.output) (net_tables net) in
    let t : length targets ≡ length net.latches = length-map (numbered (net_latch net) 0 net.latches) (λ (l : CircuitLatch). l.target)
    ∙ length-numbered (net_latch net) 0 net.latches in
    let o : length outs ≡ length (net_tables net) = length-map (net_tables net) (λ (t : Table). t.output) in
    let driven : all_names net ≡ net.inputs ++ (targets ++ outs) = sym (driven-net net) in
    let count = ap length driven in
    let a = length-append net.inputs (targets ++ outs) in
    let b = length-append targets outs in
    omega arith

rising-net : (net : Netlist) → IsWritable net → (k m : ℕ) (d : Table) → k < length (net_tables net) → m < length (net_tables net)
    → Contains (get_or (net_tables net) k d).inputs (get_or (net_tables net) m d).output → m < k
rising-net net is k m d low_k low_m has =
    let differ : all_differ is_same_name (all_names net) ≡ true = names-differ net is in
    let below = each-at (ReadsBelow net) 0 (net_tables net) k d low_k (each-reads net is) (get_or (net_tables net) m d).output has in
    let same : get_or (all_names net) below.place [] ≡ get_or (all_names net) (first_gate net + m) [] = below.is ∙ sym (driven-at net m d low_m) in
    let within = driven-within net m low_m in
    let here = place-at (all_names net) differ below.place below.within in
    let there = place-at (all_names net) differ (first_gate net + m) within in
    let equal : below.place ≡ first_gate net + m = sym here ∙ ap (λ x. position_or_len (is_same_name x) (all_names net)) same ∙ there in
    omega (arith, equal, below.low)

-- the same of the tables as equations
rising-equations : (net : Netlist) → IsWritable net → IsRising (map equation_of (net_tables net))
rising-equations net is k m d low_k low_m has =
    let tables = net_tables net in
    let n = length-map tables equation_of in
    let lk : k < length tables = omega (arith, low_k, n) in
    let lm : m < length tables = omega (arith, low_m, n) in
    let at-k : get_or (map equation_of tables) k d ≡ equation_of (get_or tables k no_table) = get_or-map equation_of tables k no_table d lk in
    let at-m : get_or (map equation_of tables) m d ≡ equation_of (get_or tables m no_table) = get_or-map equation_of tables m no_table d lm in
    rising-net net is k m no_table lk lm
    (subst (λ (e : NameEquation). Contains (get_or tables k no_table).inputs e.output) at-m
    (subst (λ (e : NameEquation). Contains e.reads (get_or (map equation_of tables) m d).output) at-k has))

pub net-no_loop : (net : Netlist) → IsWritable net → HasNoLoop (net_circuit net)
net-no_loop net is = rising-no_loop (map equation_of (net_tables net)) (rising-equations net is)

-- the circuit of the text that is written of a net
pub written-circuit : (net : Netlist) → IsWritable net → (text : List ℕ) (circuit : Circuit) → text ≡ written net → Means text net → reading text ≡ Ok circuit
    → IsCircuitOf net circuit
written-circuit net is text circuit spelled means reads =
    let same : net_circuit net ≡ circuit = let both = sym (reading-written net is) ∙ ap reading (sym spelled) ∙ reads in cc both in
    record { text = text; means = means; reads = reads; acyclic = subst (λ c. HasNoLoop c) same (net-no_loop net is) }
