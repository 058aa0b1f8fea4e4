-- Inner: the module of a net keeps the rules on names, and is spelled with words.
use Rattle.std.proofs.Common.{◌≡◌, ℕ, ◌+◌, ◌<◌, ◌≤◌, ◌^◌, true, List, [], ◌∷◌, ◌++◌, length, map, get_or, All, refl, sym, ap, ◌∙◌, subst, arith}
use Rattle.std.proofs.Common.{⊎_elim}
use Rattle.std.proofs.lemmas.Bool.{or_cases}
use Rattle.std.proofs.lemmas.List.Elements.{recursion_from_All, All-append, All-map, All-cons, All-nil}
use Rattle.std.proofs.lemmas.List.Folds.{list_any_at, list_any-append}
use Rattle.base_types.specs.Distinct.{all_differ}
use Rattle.base_types.specs.Names.{is_same_name}
use Rattle.base_types.proofs.Exports.{same_name-self}
use Rattle.net_ir.specs.declared.netlist.Gate.{Gate}
use Rattle.net_ir.specs.declared.netlist.Latch.{Latch}
use Rattle.net_ir.specs.NameLists.{is_among}
use Rattle.net_ir.specs.Netlists.{Netlist, first_gate, net_count}
use Rattle.net_ir.specs.Numbered.{numbered}
use Rattle.net_ir.specs.Writing.{IsWritable}
use Rattle.net_ir.proofs.Exports.{All-numbered, map-numbered}
use Rattle.net_expressions.specs.Names.{names_in}
use Rattle.net_expressions.specs.Trees.{Expr}
use Rattle.net_expressions.proofs.Exports.{among-left, among-right, op-names}
use Rattle.vlog_text.specs.Names.{paused_name}
use Rattle.vlog_text.specs.Trees.{Assign}
use Rattle.vlog_text.specs.Written.{clock_name}
use Rattle.vlog_reset.specs.Faults.{IsResettable, outer_names, own_names}
use Rattle.vlog_reset.specs.Names.{IsFree, AreReadable, IsSound, is_readable, own_names_of}
use Rattle.vlog_reset.specs.Options.{ModuleOptions}
use Rattle.vlog_reset.specs.Trees.{ResetModule, name_of_register}
use Rattle.vlog_reset.specs.Written.{gate_assign, gate_word, gate_words, input_name, input_words, net_assigns, net_register, net_word, net_words}
use Rattle.vlog_reset.specs.Written.{output_assign, output_name, output_words, paused_assign, reset_module, state_word, state_words}
use Rattle.vlog_reset.proofs.Lexing.{IsSpelledWord, spelled-word}
use Rattle.vlog_reset.proofs.NetInstants.{length-words}
use Rattle.vlog_reset.proofs.NetNames.{differ-all, frees-all, input-word, output-word, free-state, free-gate}
use Rattle.vlog_reset.proofs.NetRuns.{targets-here}
use Rattle.vlog_reset.proofs.Spelling.{IsSpelled, IsSpelledAssign, IsSpelledRegister, spelled-name, spelled-op}

-- what holds of each assignment of a net's module
all-assigns : (P : Assign Expr → Type 0) (o : ModuleOptions) (net : Netlist) → All P (numbered (gate_assign o net) 0 net.gates)
    → All P (map (output_assign o net) net.outputs) → P (paused_assign o net) → All P (net_assigns o net)
all-assigns P o net gates outputs paused =
    All-append P (numbered (gate_assign o net) 0 net.gates) (map (output_assign o net) net.outputs ++ paused_assign o net ∷ []) gates
    (All-append P (map (output_assign o net) net.outputs) (paused_assign o net ∷ []) outputs (All-cons P (paused_assign o net) [] paused (All-nil P)))

-- a name among two lists with another one between them
among-wider : (x : List ℕ) (a b c : List (List ℕ)) → is_among x (a ++ b) ≡ true → is_among x (a ++ (c ++ b)) ≡ true
among-wider x a b c h =
    ⊎_elim (λ here. among-left x a (c ++ b) here) (λ there. among-right x a (c ++ b) (among-right x c b there))
    (or_cases (is_among x a) (is_among x b) (sym (list_any-append (is_same_name x) a b) ∙ h))

module _ (o : ModuleOptions) (net : Netlist) (is : IsWritable net) (fits : IsResettable o net) where
  abbrev m : ResetModule
  m = reset_module o net

  few : net_count net ≤ 2 ^ 32
  few = is.is_net.numbered

  -- ---- what is read is declared

  registers-named : map name_of_register m.design.registers ≡ state_words net
  registers-named = map-numbered name_of_register (net_register o net) 0 net.latches

  own-here : own_names_of m ≡ own_names net
  own-here = ap (λ l. clock_name ∷ (l ++ gate_words net)) registers-named

  readable-net : (n : ℕ) → n < net_count net → is_readable m (net_word o net n) ≡ true
  readable-net n h =
      let x = net_word o net n in
      let wide = length-words o net in
      let here : is_among x (net_words o net) ≡ true = list_any_at (is_same_name x) (net_words o net) n [] (omega arith) (same_name-self x) in
      ap (λ l. is_among x (input_words o net ++ (output_words o net ++ (l ++ gate_words net)))) registers-named
      ∙ among-wider x (input_words o net) (state_words net ++ gate_words net) (output_words o net) here

  reads : All (λ a. AreReadable m (names_in a.value)) (net_assigns o net)
  reads = all-assigns (λ a. AreReadable m (names_in a.value)) o net
      (All-numbered (λ a. AreReadable m (names_in a.value)) (gate_assign o net) 0 net.gates (λ k d h.
      op-names (λ x. is_readable m x ≡ true) (net_word o net) (get_or net.gates k d).op (first_gate net + k) (is.is_net.reads_lower k d h)
      (λ n low. readable-net n (omega (arith, h)))))
      (All-map (λ a. AreReadable m (names_in a.value)) (output_assign o net) net.outputs (λ k d h.
      (readable-net (get_or net.outputs k d).net.0 (is.is_net.outputs_in_range k d h), tt)))
      (readable-net net.paused is.is_net.paused_in_range, tt)

  registers-read : All (λ r. is_readable m r.from ≡ true) m.design.registers
  registers-read = All-numbered (λ r. is_readable m r.from ≡ true) (net_register o net) 0 net.latches (λ k d h.
      readable-net (get_or net.latches k d).from.0 (is.is_net.latches_in_range k d h))

  pub sound-net : IsSound m
  sound-net = record {
    free = recursion_from_All IsFree (outer_names o net ++ own_names_of m)
        (subst (λ l. All IsFree (outer_names o net ++ l)) (sym own-here) (frees-all o net is fits));
    differ = ap (λ l. all_differ is_same_name (outer_names o net ++ l)) own-here ∙ differ-all o net is fits;
    assigns_read = recursion_from_All (λ a. AreReadable m (names_in a.value)) (net_assigns o net) reads;
    registers_read = recursion_from_All (λ r. is_readable m r.from ≡ true) m.design.registers registers-read;
    assigned = targets-here o net;
  }

  -- ---- words

  spelled-inputs : All IsSpelledWord (input_words o net)
  spelled-inputs = All-map IsSpelledWord (input_name o) net.inputs (λ k d h.
      spelled-word (input_name o (get_or net.inputs k d)) (input-word o (get_or net.inputs k d) (is.is_net.input_names_fit k d h)))

  spelled-outputs : All IsSpelledWord (output_words o net)
  spelled-outputs = All-append IsSpelledWord (map (output_name o) net.outputs) (paused_name ∷ [])
      (All-map IsSpelledWord (output_name o) net.outputs (λ k d h.
      spelled-word (output_name o (get_or net.outputs k d)) (output-word o (get_or net.outputs k d) (is.is_net.output_names_fit k d h))))
      (All-cons IsSpelledWord paused_name [] (spelled-word paused_name refl) (All-nil IsSpelledWord))

  spelled-state : (k : ℕ) → k < length net.latches → IsSpelledWord (state_word (0 + k))
  spelled-state k h = spelled-word (state_word (0 + k)) (free-state (0 + k) (omega (arith, few))).word

  spelled-gate : (k : ℕ) → k < length net.gates → IsSpelledWord (gate_word (0 + k))
  spelled-gate k h = spelled-word (gate_word (0 + k)) (free-gate (0 + k) (omega (arith, few))).word

  spelled-gates : All IsSpelledWord (gate_words net)
  spelled-gates = All-numbered IsSpelledWord (λ k (gate : Gate). gate_word k) 0 net.gates (λ k d h. spelled-gate k h)

  spelled-nets : All IsSpelledWord (net_words o net)
  spelled-nets = All-append IsSpelledWord (input_words o net) (state_words net ++ gate_words net) spelled-inputs
      (All-append IsSpelledWord (state_words net) (gate_words net)
      (All-numbered IsSpelledWord (λ j (latch : Latch). state_word j) 0 net.latches (λ k d h. spelled-state k h)) spelled-gates)

  spelled-net_word : (n : ℕ) → n < net_count net → IsSpelledWord (net_word o net n)
  spelled-net_word n h = let wide = length-words o net in spelled-nets n [] (omega arith)

  spelled-assigns : All IsSpelledAssign (net_assigns o net)
  spelled-assigns = all-assigns IsSpelledAssign o net
      (All-numbered IsSpelledAssign (gate_assign o net) 0 net.gates (λ k d h. record {
        target = spelled-gate k h;
        value = spelled-op (net_word o net) (get_or net.gates k d).op (first_gate net + k) (is.is_net.reads_lower k d h)
            (λ n low. spelled-net_word n (omega (arith, h)));
      }))
      (All-map IsSpelledAssign (output_assign o net) net.outputs (λ k d h. record {
        target = spelled-word (output_name o (get_or net.outputs k d)) (output-word o (get_or net.outputs k d) (is.is_net.output_names_fit k d h));
        value = spelled-name (net_word o net (get_or net.outputs k d).net.0)
            (spelled-net_word (get_or net.outputs k d).net.0 (is.is_net.outputs_in_range k d h));
      }))
      (record {
        target = spelled-word paused_name refl;
        value = spelled-name (net_word o net net.paused) (spelled-net_word net.paused is.is_net.paused_in_range);
      })

  pub spelled-net : IsSpelled m
  spelled-net = record {
    name = fits.module_fits;
    reset = fits.reset_fits;
    clock = refl;
    inputs = spelled-inputs;
    outputs = spelled-outputs;
    registers = All-numbered IsSpelledRegister (net_register o net) 0 net.latches (λ k d h. record {
      name = spelled-state k h;
      from = spelled-net_word (get_or net.latches k d).from.0 (is.is_net.latches_in_range k d h);
    });
    wires = spelled-gates;
    assigns = spelled-assigns;
  }
