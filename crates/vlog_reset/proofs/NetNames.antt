-- Inner: the names of a net's module: that they are free words, and that no two are one.
use Rattle.std.proofs.Common.{◌≡◌, ℕ, ◌+◌, ◌<◌, ◌≤◌, ◌^◌, ◌==◌, zero, suc, Bool, true, false, not, List, [], ◌∷◌, ◌++◌, length, map, get_or, All, refl}
use Rattle.std.proofs.Common.{◌∙◌, arith, Some, None}
use Rattle.std.specs.Prelude.{codes, find, if◌then◌else◌}
use Rattle.std.specs.List.{list_all}
use Rattle.std.specs.Cmp.Lexicographic.{nat_list_eq_equiv}
use Rattle.std.proofs.lemmas.Bool.{and_parts, and_from, or_parts, or_from, not-true, not_from_false}
use Rattle.std.proofs.lemmas.List.Elements.{All-append, All-map, All-cons, All-nil}
use Rattle.base_facts.proofs.Lists.{find-first-none}
use Rattle.base_types.specs.Distinct.{all_differ, none_shared}
use Rattle.base_types.specs.Names.{is_name, is_same_name}
use Rattle.net_ir.specs.Netlists.{Netlist, net_count}
use Rattle.net_ir.specs.NameLists.{is_among, first_again}
use Rattle.net_ir.specs.Writing.{IsWritable}
use Rattle.net_ir.specs.declared.netlist.Gate.{Gate}
use Rattle.net_ir.specs.declared.netlist.Latch.{Latch}
use Rattle.net_ir.specs.declared.netlist.NetOut.{NetOut}
use Rattle.net_ir.proofs.Exports.{All-numbered, all_differ-append, differ-decimal, numbered-differ}
use Rattle.net_expressions.proofs.Exports.{all-both, all-numbered, bytes-decimal, bytes-name, in-front, mark}
use Rattle.vlog_text.specs.Names.{paused_name}
use Rattle.vlog_text.specs.Written.{clock_name}
use Rattle.vlog_reset.specs.Faults.{IsResettable, outer_names, own_names}
use Rattle.vlog_reset.specs.Names.{IsFree, is_identifier, is_reserved}
use Rattle.vlog_reset.specs.Options.{ModuleOptions}
use Rattle.vlog_reset.specs.Written.{module_name, input_name, output_name, state_word, gate_word, input_words, output_words, state_words, gate_words}
use Rattle.vlog_reset.proofs.Lexing.{word-name}

-- ---- free words

pub free-state : (j : ℕ) → j < 2 ^ 64 → IsFree (state_word j)
unfolding is_reserved
free-state j small = record { word = bytes-decimal j small; free = refl }

pub free-gate : (k : ℕ) → k < 2 ^ 64 → IsFree (gate_word k)
unfolding is_reserved
free-gate k small = record { word = bytes-decimal k small; free = refl }

free-clock : IsFree clock_name
unfolding is_reserved
free-clock = record { word = refl; free = refl }

pub input-word : (o : ModuleOptions) (name : List ℕ) → is_name name ≡ true → is_identifier (input_name o name) ≡ true
input-word o name fits = go o.has_prefixes
  where
    go : (b : Bool) → is_identifier (if b then codes "i_" ++ name else name) ≡ true
    go true = bytes-name name fits
    go false = word-name name fits

pub output-word : (o : ModuleOptions) (output : NetOut) → is_name output.name ≡ true → is_identifier (output_name o output) ≡ true
output-word o output fits = go o.has_prefixes
  where
    go : (b : Bool) → is_identifier (if b then codes "o_" ++ output.name else output.name) ≡ true
    go true = bytes-name output.name fits
    go false = word-name output.name fits

-- where no word of Verilog is found, none is one
none-found : (names : List (List ℕ)) → find is_reserved names ≡ None → (k : ℕ) (d : List ℕ) → k < length names → is_reserved (get_or names k d) ≡ false
none-found [] none k d h = absurd (omega arith)
none-found (x ∷ names) none zero d h = (find-first-none is_reserved x names none).0
none-found (x ∷ names) none (suc k) d h = none-found names (find-first-none is_reserved x names none).1 k d (omega arith)

-- ---- names of which none stands again

-- names of which none is one of some others, or of those before it
once-apart : (before names : List (List ℕ)) → first_again before names ≡ None
    → (all_differ is_same_name names ≡ true) × (none_shared is_same_name names before ≡ true)
once-apart before [] once = (refl, refl)
once-apart before (name ∷ names) once =
    elim (is_among name before) as (λ b. is_among name before ≡ b → (if b then Some name else first_again (name ∷ before) names) ≡ None
    → (all_differ is_same_name (name ∷ names) ≡ true) × (none_shared is_same_name (name ∷ names) before ≡ true)) [
      | true ↦ λ e is. cc
      | false ↦ λ e is.
          let rest = once-apart (name ∷ before) names is in
          let parts = shared-parts names name before rest.1 in (
            and_from (not (is_among name names)) (all_differ is_same_name names) (not_from_false (is_among name names) parts.0) rest.0,
            and_from (not (is_among name before)) (none_shared is_same_name names before) (not_from_false (is_among name before) e) parts.1,
          )
    ] refl once
  where
    shared-parts : (names : List (List ℕ)) (name : List ℕ) (before : List (List ℕ)) → none_shared is_same_name names (name ∷ before) ≡ true
        → (is_among name names ≡ false) × (none_shared is_same_name names before ≡ true)
    shared-parts [] name before apart = (refl, refl)
    shared-parts (x ∷ names) name before apart =
        let parts = and_parts (not (is_among x (name ∷ before))) (none_shared is_same_name names (name ∷ before)) apart in
        let here = or_parts (is_same_name x name) (is_among x before) (not-true (is_among x (name ∷ before)) parts.0) in
        let rest = shared-parts names name before parts.1 in (
          or_from (is_same_name name x) (is_among name names) (nat_list_eq_equiv.symm name x ∙ here.0) rest.0,
          and_from (not (is_among x before)) (none_shared is_same_name names before) (not_from_false (is_among x before) here.1) rest.1,
        )

module _ (o : ModuleOptions) (net : Netlist) (is : IsWritable net) (fits : IsResettable o net) where
  few : net_count net ≤ 2 ^ 32
  few = is.is_net.numbered

  words-interface : All (λ x. is_identifier x ≡ true) (outer_names o net)
  words-interface =
      let P : List ℕ → Type 0 = λ x. is_identifier x ≡ true in
      All-cons P (module_name o net) (o.reset ∷ (input_words o net ++ output_words o net)) (word-name (module_name o net) fits.module_fits)
      (All-cons P o.reset (input_words o net ++ output_words o net) (word-name o.reset fits.reset_fits)
      (All-append P (input_words o net) (output_words o net)
      (All-map P (input_name o) net.inputs (λ k d h. input-word o (get_or net.inputs k d) (is.is_net.input_names_fit k d h)))
      (All-append P (map (output_name o) net.outputs) (paused_name ∷ [])
      (All-map P (output_name o) net.outputs (λ k d h. output-word o (get_or net.outputs k d) (is.is_net.output_names_fit k d h)))
      (All-cons P paused_name [] refl (All-nil P)))))

  frees-interface : All IsFree (outer_names o net)
  frees-interface k d h = record { word = words-interface k d h; free = none-found (outer_names o net) fits.free k d h }

  frees-own : All IsFree (own_names net)
  frees-own =
      All-cons IsFree clock_name (state_words net ++ gate_words net) free-clock (All-append IsFree (state_words net) (gate_words net)
      (All-numbered IsFree (λ j (latch : Latch). state_word j) 0 net.latches (λ k d h. free-state (0 + k) (omega (arith, few))))
      (All-numbered IsFree (λ k (gate : Gate). gate_word k) 0 net.gates (λ k d h. free-gate (0 + k) (omega (arith, few)))))

  pub frees-all : All IsFree (outer_names o net ++ own_names net)
  frees-all = All-append IsFree (outer_names o net) (own_names net) frees-interface frees-own

  -- ---- no two names are one

  marks-states : (p : ℕ → Bool) → p 115 ≡ true → list_all (λ x. p (mark x)) (state_words net) ≡ true
  marks-states p holds = all-numbered (λ x. p (mark x)) (λ j (latch : Latch). state_word j) 0 net.latches (λ k x. holds)

  marks-gates : (p : ℕ → Bool) → p 103 ≡ true → list_all (λ x. p (mark x)) (gate_words net) ≡ true
  marks-gates p holds = all-numbered (λ x. p (mark x)) (λ k (gate : Gate). gate_word k) 0 net.gates (λ k x. holds)

  differ-own : all_differ is_same_name (own_names net) ≡ true
  differ-own =
      let states = numbered-differ state_word differ-decimal 0 net.latches (omega (arith, few)) in
      let gates = numbered-differ gate_word differ-decimal 0 net.gates (omega (arith, few)) in
      in-front (λ m. m == 99) (clock_name ∷ []) (state_words net ++ gate_words net) refl refl
      (all-both (λ x. not (mark x == 99)) (state_words net) (gate_words net) (marks-states (λ m. not (m == 99)) refl) (marks-gates (λ m. not (m == 99)) refl))
      (in-front (λ m. m == 115) (state_words net) (gate_words net) states (marks-states (λ m. m == 115) refl) (marks-gates (λ m. not (m == 115)) refl) gates)

  pub differ-all : all_differ is_same_name (outer_names o net ++ own_names net) ≡ true
  differ-all =
      let apart = once-apart (own_names net) (outer_names o net) fits.once in
      all_differ-append is_same_name (outer_names o net) (own_names net) ∙ rw (apart.0, apart.1, differ-own) refl
