-- The component of a net that can be embedded keeps the rules on names, and is spelled with words.
use Rattle.std.proofs.Common.{◌≡◌, ℕ, ◌+◌, ◌<◌, ◌≤◌, ◌^◌, zero, suc, Bool, true, false, List, [], ◌∷◌, ◌++◌, length, map, get_or, All, refl}
use Rattle.std.proofs.Common.{sym, ap, ◌∙◌, subst, arith, inl, inr}
use Rattle.std.specs.List.{AllByRecursion, list_any}
use Rattle.std.proofs.lemmas.Bool.{or_left, or_right, or_parts, cases_lt}
use Rattle.std.proofs.lemmas.List.{length-map, get_or-map}
use Rattle.std.proofs.lemmas.List.Elements.{All-append, All-map}
use Rattle.std.proofs.lemmas.List.Folds.{list_any_at, list_any-append}
use Rattle.base_facts.proofs.Lists.{map-composed}
use Rattle.base_types.specs.Distinct.{all_differ}
use Rattle.base_types.specs.Names.{is_name, is_same_name}
use Rattle.base_types.proofs.Exports.{same_name-self}
use Rattle.net_ir.specs.declared.netlist.Gate.{Gate}
use Rattle.net_ir.specs.declared.netlist.Latch.{Latch}
use Rattle.net_ir.specs.declared.netlist.NetOut.{NetOut}
use Rattle.net_ir.specs.declared.netlist.Op.{Op}
use Rattle.net_ir.specs.declared.netlist.Op.TheVariants as ops
use Rattle.net_ir.specs.Gates.{operand_end}
use Rattle.net_ir.specs.NameLists.{is_among}
use Rattle.net_ir.specs.Netlists.{Netlist, first_gate, net_count, output_names}
use Rattle.net_ir.specs.Numbered.{numbered}
use Rattle.net_ir.specs.Writing.{IsWritable}
use Rattle.net_ir.proofs.Exports.{All-numbered, any-none, map-numbered, net_cases}
use Rattle.net_expressions.proofs.Exports.{among-left, among-numbered, among-right, any_gate, any_latch, any_output, gate-low}
use Rattle.csub_embed.specs.Faults.{IsEmbeddable}
use Rattle.csub_embed.specs.Grammar.{self_word, in_word, out_word}
use Rattle.csub_embed.specs.Names.{IsFree, IsDeclared, ReadsDeclared, LocalsRead, IsSound, is_reserved, local_names, parameters}
use Rattle.csub_embed.specs.Trees.{LocalValue, Transfer, name_of_state}
use Rattle.csub_embed.specs.Written.{state_word, gate_word, next_word, running_word, net_state, place_of, op_value_of, gate_local, next_local, running_local}
use Rattle.csub_embed.specs.Written.{output_store, state_store, where_empty, where_unread, reads_input, net_ignored, net_locals, net_component}
use Rattle.csub_embed.proofs.Lexing.{IsSpelledWord, spelled-word}
use Rattle.csub_embed.proofs.NetFrames.{place-input, place-state, place-gate}
use Rattle.csub_embed.proofs.NetNames.{free-state, free-gate, free-next, free-running, free-signal, gate_words, next_words, state_words, local_words}
use Rattle.csub_embed.proofs.NetNames.{local_names-net, differ-states, differ-locals}
use Rattle.csub_embed.proofs.Spelling.{PlaceSpelled, ValueSpelled, LocalSpelled, StoreSpelled, IsSpelled}

-- ---- lists

all-recursive : {X : Type 0} (P : X → Type 0) (xs : List X) → All P xs → AllByRecursion P xs
all-recursive P [] all = tt
all-recursive P (x ∷ xs) all = (all 0 x (omega arith), all-recursive P xs (λ k d h. all (suc k) d (omega arith)))

-- of the parameters that nothing uses
empty-all : {X : Type 0} (P : List ℕ → Type 0) (xs : List X) (name : List ℕ) → P name → All P (where_empty xs name)
empty-all P [] name p zero d h = p
empty-all P [] name p (suc k) d h = absurd (omega arith)
empty-all P (x ∷ xs) name p k d h = absurd (omega arith)

unread-all : (P : List ℕ → Type 0) (read : Bool) → P in_word → All P (where_unread read)
unread-all P true p k d h = absurd (omega arith)
unread-all P false p zero d h = p
unread-all P false p (suc k) d h = absurd (omega arith)

ignored-all : (P : List ℕ → Type 0) (net : Netlist) → P self_word → P in_word → P out_word → All P (net_ignored net)
ignored-all P net own given shown =
    All-append P (where_empty net.latches self_word) _ (empty-all P net.latches self_word own)
    (All-append P (where_unread (reads_input net)) (where_empty net.outputs out_word) (unread-all P (reads_input net) given)
    (empty-all P net.outputs out_word shown))

states-net : (net : Netlist) → map name_of_state (net_component net).states ≡ state_words net
states-net net = map-numbered name_of_state net_state 0 net.latches

module _ (net : Netlist) (is : IsWritable net) where
  few : net_count net ≤ 2 ^ 32
  few = is.is_net.numbered

  -- ---- free words

  frees-inputs : IsEmbeddable net → All IsFree net.inputs
  frees-inputs fits k d h =
      let parts = or_parts (list_any is_reserved net.inputs) (list_any is_reserved (output_names net))
      (sym (list_any-append is_reserved net.inputs (output_names net)) ∙ fits.signals_free) in
      free-signal (get_or net.inputs k d) (is.is_net.input_names_fit k d h) (any-none is_reserved net.inputs parts.0 k d h)

  frees-outputs : IsEmbeddable net → All IsFree (output_names net)
  frees-outputs fits k d h =
      let n = length-map net.outputs (λ (o : NetOut). o.name) in
      let parts = or_parts (list_any is_reserved net.inputs) (list_any is_reserved (output_names net))
      (sym (list_any-append is_reserved net.inputs (output_names net)) ∙ fits.signals_free) in
      free-signal (get_or (output_names net) k d)
      (subst (λ x. is_name x ≡ true) (sym (get_or-map (λ (o : NetOut). o.name) net.outputs k any_output d (omega arith)))
      (is.is_net.output_names_fit k any_output (omega arith)))
      (any-none is_reserved (output_names net) parts.1 k d h)

  frees-locals : All IsFree (local_words net)
  frees-locals =
      All-append IsFree (gate_words net) _ (All-numbered IsFree (λ k (gate : Gate). gate_word k) 0 net.gates (λ k d h. free-gate (0 + k) (omega (arith, few))))
      (All-append IsFree (next_words net) (running_word ∷ [])
      (All-numbered IsFree (λ j (latch : Latch). next_word j) 0 net.latches (λ k d h. free-next (0 + k) (omega (arith, few))))
      (All-numbered IsFree (λ k (n : ℕ). running_word) 0 (0 ∷ []) (λ k d h. free-running)))

  -- ---- what is read is declared

  declared-place : (before : List (List ℕ)) (n : ℕ) → n < net_count net
      → ((k : ℕ) → k < length net.gates → n ≡ first_gate net + k → is_among (gate_word k) before ≡ true)
      → IsDeclared (net_component net) before (place_of net n)
  declared-place before n h gates = net_cases net n h
      (λ low. subst (IsDeclared (net_component net) before) (sym (place-input net n low))
      (list_any_at (is_same_name (get_or net.inputs n [])) net.inputs n [] low (same_name-self (get_or net.inputs n []))))
      (λ j low e. subst (IsDeclared (net_component net) before) (sym (ap (place_of net) e ∙ place-state net j low))
      (ap (is_among (state_word j)) (states-net net) ∙ among-numbered (λ j latch. state_word j) net.latches j any_latch low))
      (λ k low e. subst (IsDeclared (net_component net) before) (sym (ap (place_of net) e ∙ place-gate net k low)) (gates k low e))

  reads-op : (before : List (List ℕ)) (op : Op) (end : ℕ) → operand_end op ≤ end
      → ((n : ℕ) → n < end → IsDeclared (net_component net) before (place_of net n)) → ReadsDeclared (net_component net) before (op_value_of (place_of net) op)
  reads-op before (ops.Const value) end low all = tt
  reads-op before (ops.Copy n) end low all = all n.0 (omega arith)
  reads-op before (ops.Not n) end low all = all n.0 (omega arith)
  reads-op before (ops.And m n) end low all = (all m.0 (omega arith), all n.0 (omega arith))
  reads-op before (ops.Or m n) end low all = (all m.0 (omega arith), all n.0 (omega arith))

  -- the gates, and what follows them
  gates-read : (before : List (List ℕ)) (n : ℕ) (gates : List Gate) (rest : List LocalValue)
      → ((k : ℕ) → k < length gates → get_or gates k any_gate ≡ get_or net.gates (n + k) any_gate) → n + length gates ≡ length net.gates
      → ((k : ℕ) → k < n → is_among (gate_word k) before ≡ true)
      → ((behind : List (List ℕ)) → ((k : ℕ) → k < length net.gates → is_among (gate_word k) behind ≡ true) → LocalsRead (net_component net) behind rest)
      → LocalsRead (net_component net) before (numbered (gate_local net) n gates ++ rest)
  gates-read before n [] rest same all known go = go before (λ k h. known k (omega arith))
  gates-read before n (g ∷ gates) rest same all known go =
      let z : n + 0 ≡ n = omega arith in
      let here : g ≡ get_or net.gates n any_gate = same 0 (omega arith) ∙ ap (λ k. get_or net.gates k any_gate) z in
      let low : operand_end g.op ≤ first_gate net + n = subst (λ (g : Gate). operand_end g.op ≤ first_gate net + n) (sym here)
      (gate-low net is n (omega arith)) in (
        reads-op before g.op (first_gate net + n) low (λ m h. declared-place before m (omega arith) (λ k h' e. known k (omega arith))),
        gates-read (gate_word n ∷ before) (n + 1) gates rest
            (λ k h. let s : n + suc k ≡ n + 1 + k = omega arith in same (suc k) (omega arith) ∙ ap (λ j. get_or net.gates j any_gate) s) (omega arith)
            (λ k h. elim (cases_lt k n) [
              | inl below ↦ or_right (is_same_name (gate_word k) (gate_word n)) (is_among (gate_word k) before) (known k below)
              | inr last ↦
                  let e : k ≡ n = omega arith in
                  or_left (is_same_name (gate_word k) (gate_word n)) (is_among (gate_word k) before)
                  (ap (λ i. is_same_name (gate_word i) (gate_word n)) e ∙ same_name-self (gate_word n))
            ])
            go,
      )

  nexts-read : (before : List (List ℕ)) (n : ℕ) (latches : List Latch) (rest : List LocalValue) → All (λ l. l.from.0 < net_count net) latches
      → ((k : ℕ) → k < length net.gates → is_among (gate_word k) before ≡ true)
      → ((behind : List (List ℕ)) → ((k : ℕ) → k < length net.gates → is_among (gate_word k) behind ≡ true) → LocalsRead (net_component net) behind rest)
      → LocalsRead (net_component net) before (numbered (next_local net) n latches ++ rest)
  nexts-read before n [] rest range known go = go before known
  nexts-read before n (l ∷ latches) rest range known go = (
    declared-place before l.from.0 (range 0 l (omega arith)) (λ k h e. known k h),
    nexts-read (next_word n ∷ before) (n + 1) latches rest (λ k d h. range (suc k) d (omega arith))
        (λ k h. or_right (is_same_name (gate_word k) (next_word n)) (is_among (gate_word k) before) (known k h)) go,
  )

  locals-read : LocalsRead (net_component net) [] (net_locals net)
  locals-read =
      gates-read [] 0 net.gates _ (λ k low. let z : k ≡ 0 + k = omega arith in ap (λ n. get_or net.gates n any_gate) z) (omega arith)
      (λ k h. absurd (omega arith))
      (λ behind known. nexts-read behind 0 net.latches (running_local net ∷ []) is.is_net.latches_in_range known
      (λ last gates. (declared-place last net.paused is.is_net.paused_in_range (λ k h e. gates k h), tt)))

  gate-declared : (k : ℕ) → k < length net.gates → is_among (gate_word k) (local_names (net_component net)) ≡ true
  gate-declared k h = ap (is_among (gate_word k)) (local_names-net net)
      ∙ among-left (gate_word k) (gate_words net) _ (among-numbered (λ k gate. gate_word k) net.gates k any_gate h)

  next-declared : (j : ℕ) → j < length net.latches → is_among (next_word j) (local_names (net_component net)) ≡ true
  next-declared j h = ap (is_among (next_word j)) (local_names-net net)
      ∙ among-right (next_word j) (gate_words net) _
      (among-left (next_word j) (next_words net) _ (among-numbered (λ j latch. next_word j) net.latches j any_latch h))

  running-declared : is_among running_word (local_names (net_component net)) ≡ true
  running-declared = ap (is_among running_word) (local_names-net net)
      ∙ among-right running_word (gate_words net) _ (among-right running_word (next_words net) (running_word ∷ []) refl)

  shown-read : All (λ s. IsDeclared (net_component net) (local_names (net_component net)) s.from) (map (output_store net) net.outputs)
  shown-read = All-map (λ s. IsDeclared (net_component net) (local_names (net_component net)) s.from) (output_store net) net.outputs
      (λ k d h. declared-place (local_names (net_component net)) (get_or net.outputs k d).net.0 (is.is_net.outputs_in_range k d h)
      (λ i low e. gate-declared i low))

  kept-read : All (λ s. IsDeclared (net_component net) (local_names (net_component net)) s.from) (numbered state_store 0 net.latches)
  kept-read = All-numbered (λ s. IsDeclared (net_component net) (local_names (net_component net)) s.from) state_store 0 net.latches
      (λ k d h. let z : 0 + k ≡ k = omega arith in
      subst (λ i. is_among (next_word i) (local_names (net_component net)) ≡ true) (sym z) (next-declared k h))

  -- ---- parameters

  ignored-known : All (λ name. is_among name parameters ≡ true) (net_ignored net)
  ignored-known = ignored-all (λ name. is_among name parameters ≡ true) net refl refl refl

  -- ---- together

  pub sound-net : IsEmbeddable net → IsSound (net_component net)
  sound-net fits = record {
    name = record { fits = is.is_net.name_fits; free = fits.type_free };
    states_free = all-recursive (λ s. IsFree (name_of_state s)) (net_component net).states
        (All-numbered (λ s. IsFree (name_of_state s)) net_state 0 net.latches (λ k d h. free-state (0 + k) (omega (arith, few))));
    inputs_free = all-recursive IsFree net.inputs (frees-inputs fits);
    outputs_free = all-recursive IsFree (output_names net) (frees-outputs fits);
    locals_free = all-recursive IsFree (local_names (net_component net)) (subst (All IsFree) (sym (local_names-net net)) frees-locals);
    states_differ = ap (all_differ is_same_name) (states-net net) ∙ differ-states net is;
    inputs_differ = is.is_net.inputs_differ;
    outputs_differ = is.is_net.outputs_differ;
    locals_differ = ap (λ l. all_differ is_same_name (parameters ++ l)) (local_names-net net) ∙ differ-locals net is;
    ignored = all-recursive (λ name. is_among name parameters ≡ true) (net_ignored net) ignored-known;
    locals_read = locals-read;
    shown_read = all-recursive (λ s. IsDeclared (net_component net) (local_names (net_component net)) s.from) (net_component net).shown shown-read;
    kept_read = all-recursive (λ s. IsDeclared (net_component net) (local_names (net_component net)) s.from) (net_component net).kept kept-read;
    answer_read = running-declared;
    outputs_set = sym (map-composed (λ (s : Transfer). s.member) (output_store net) net.outputs);
    states_set = map-numbered (λ (s : Transfer). s.member) state_store 0 net.latches ∙ sym (states-net net);
  }

  -- ---- words

  spelled-free : (name : List ℕ) → IsFree name → IsSpelledWord name
  spelled-free name free = spelled-word name free.word

  spelled-place : IsEmbeddable net → (n : ℕ) → n < net_count net → PlaceSpelled (place_of net n)
  spelled-place fits n h = net_cases net n h
      (λ low. subst PlaceSpelled (sym (place-input net n low)) (spelled-free (get_or net.inputs n []) (frees-inputs fits n [] low)))
      (λ j low e. subst PlaceSpelled (sym (ap (place_of net) e ∙ place-state net j low)) (spelled-free (state_word j) (free-state j (omega (arith, few)))))
      (λ k low e. subst PlaceSpelled (sym (ap (place_of net) e ∙ place-gate net k low)) (spelled-free (gate_word k) (free-gate k (omega (arith, few)))))

  spelled-op : (op : Op) → operand_end op ≤ net_count net → ((n : ℕ) → n < net_count net → PlaceSpelled (place_of net n))
      → ValueSpelled (op_value_of (place_of net) op)
  spelled-op (ops.Const value) low all = tt
  spelled-op (ops.Copy n) low all = all n.0 (omega arith)
  spelled-op (ops.Not n) low all = all n.0 (omega arith)
  spelled-op (ops.And m n) low all = (all m.0 (omega arith), all n.0 (omega arith))
  spelled-op (ops.Or m n) low all = (all m.0 (omega arith), all n.0 (omega arith))

  spelled-gates : IsEmbeddable net → All LocalSpelled (numbered (gate_local net) 0 net.gates)
  spelled-gates fits = All-numbered LocalSpelled (gate_local net) 0 net.gates (λ k d h. record {
    name = spelled-free (gate_word (0 + k)) (free-gate (0 + k) (omega (arith, few)));
    value = let low = is.is_net.reads_lower k d h in spelled-op (get_or net.gates k d).op (omega arith) (spelled-place fits);
  })

  spelled-nexts : IsEmbeddable net → All LocalSpelled (numbered (next_local net) 0 net.latches)
  spelled-nexts fits = All-numbered LocalSpelled (next_local net) 0 net.latches (λ k d h. record {
    name = spelled-free (next_word (0 + k)) (free-next (0 + k) (omega (arith, few)));
    value = spelled-place fits (get_or net.latches k d).from.0 (is.is_net.latches_in_range k d h);
  })

  spelled-running : IsEmbeddable net → LocalSpelled (running_local net)
  spelled-running fits = record {
    name = spelled-free running_word free-running;
    value = spelled-place fits net.paused is.is_net.paused_in_range;
  }

  spelled-ignored : All IsSpelledWord (net_ignored net)
  spelled-ignored =
      ignored-all IsSpelledWord net (spelled-word self_word refl) (spelled-word in_word refl) (spelled-word out_word refl)

  pub spelled-net : IsEmbeddable net → IsSpelled (net_component net)
  spelled-net fits = record {
    name = is.is_net.name_fits;
    states = All-numbered (λ s. IsSpelledWord s.name) net_state 0 net.latches
        (λ k d h. spelled-free (state_word (0 + k)) (free-state (0 + k) (omega (arith, few))));
    inputs = λ k d h. spelled-free (get_or net.inputs k d) (frees-inputs fits k d h);
    outputs = λ k d h. spelled-free (get_or (output_names net) k d) (frees-outputs fits k d h);
    ignored = spelled-ignored;
    locals = All-append LocalSpelled (numbered (gate_local net) 0 net.gates) _ (spelled-gates fits)
        (All-append LocalSpelled (numbered (next_local net) 0 net.latches) (running_local net ∷ []) (spelled-nexts fits)
        (All-numbered LocalSpelled (λ k (n : ℕ). running_local net) 0 (0 ∷ []) (λ k d h. spelled-running fits)));
    shown = All-map StoreSpelled (output_store net) net.outputs (λ k d h. record {
      member = spelled-free (get_or net.outputs k d).name (free-output fits k d h);
      from = spelled-place fits (get_or net.outputs k d).net.0 (is.is_net.outputs_in_range k d h);
    });
    kept = All-numbered StoreSpelled state_store 0 net.latches (λ k d h. record {
      member = spelled-free (state_word (0 + k)) (free-state (0 + k) (omega (arith, few)));
      from = spelled-free (next_word (0 + k)) (free-next (0 + k) (omega (arith, few)));
    });
    answer = spelled-free running_word free-running;
  }
    where
      free-output : IsEmbeddable net → (k : ℕ) (d : NetOut) → k < length net.outputs → IsFree (get_or net.outputs k d).name
      free-output fits k d h =
          let n = length-map net.outputs (λ (o : NetOut). o.name) in
          subst IsFree (get_or-map (λ (o : NetOut). o.name) net.outputs k d [] h) (frees-outputs fits k [] (omega arith))
