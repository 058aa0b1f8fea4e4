-- The text in which gates stand in blocks, by the parts of the text of the C subset.
use Rattle.std.proofs.Common.{◌≡◌, ℕ, ◌+◌, ◌-◌, ◌*◌, ◌<◌, ◌≤◌, Bool, true, false, List, [], ◌∷◌, ◌++◌, length, map, drop, get_or, refl, sym, ap, ◌∙◌, arith}
use Rattle.std.proofs.Common.{append_assoc, Option, Some, None, ◌⊎◌, inl, inr}
use Rattle.std.specs.Prelude.{flat_map}
use Rattle.std.proofs.Math.ListN.{drop_of_length-le}
use Rattle.std.proofs.lemmas.List.{append-nil, length-append, drop_more, get_or-append-add, get_or_append_left}
use Rattle.std.proofs.lemmas.List.Concat.{flat_map-append}
use Rattle.net_ir.specs.declared.netlist.Gate.{Gate}
use Rattle.net_ir.specs.declared.netlist.Latch.{Latch}
use Rattle.net_ir.specs.Netlists.{Netlist}
use Rattle.net_ir.specs.Numbered.{numbered}
use Rattle.net_ir.proofs.Exports.{length-numbered, get_or-numbered}
use Rattle.net_writer.specs.Parts.{joined, PutsPart, PutsPlace}
use Rattle.net_writer.proofs.Exports.{joined-numbered, joined-mapped, joined-one, joined-last, count-numbered, count-mapped}
use Rattle.csub_text.specs.Trees.{Assign, Name}
use Rattle.csub_text.specs.Written.{input_name, gate_name, next_name, answer_name, input_variable, output_variable, net_state, input_assign}
use Rattle.csub_text.specs.Written.{gate_assign, next_assign, output_assign, answer_assign, state_assign, gate_names, state_line, declaration, assign_line}
use Rattle.csub_text.specs.Written.{head_line, last_lines}
use Rattle.csub_text.specs.Parts.{from_next_assigns, from_output_assigns, from_state_assigns, net_parts}
use Rattle.csub_guard_blocks.specs.Owners.{Owner}
use Rattle.csub_guard_blocks.specs.Pieces.{groups_from, text_from, PutsPlain}
use Rattle.csub_guard.specs.Trees.{Piece, One}
use Rattle.csub_guard_blocks.specs.Blocks.{Group, groups, groups_text, group_piece, guarded_text, piece_text, parts_before, parts_of_gates}

pub parts-split : (net : Netlist) → net_parts net ≡ parts_before net ++ (parts_of_gates net ++ from_next_assigns net)
unfolding net_parts
parts-split net = simp (append_assoc, append-nil) refl

pub count-before : (net : Netlist) → length (parts_before net)
    ≡ 2 * length net.latches + 3 * length net.inputs + length net.outputs + length net.gates + 2
count-before net =
    let last = length-numbered (λ j (name : List ℕ). assign_line (input_assign j name)) 0 net.inputs in
    simp (count-numbered, count-mapped) (omega (arith, last))

-- assignments outside of blocks
ones : (assigns : List Assign) → flat_map piece_text (map One assigns) ≡ flat_map assign_line assigns
ones [] = refl
ones (a ∷ assigns) = ap (λ l. assign_line a ++ l) (ones assigns)

whole-blocks : {S : Type 0} (state : S → List ℕ) (declared : List ℕ → List ℕ) (head last : List ℕ) (s : List S) (a b c d e : List (List ℕ)) (r : List ℕ)
    (v x y z : List Assign) (t : Assign) (w : List Piece)
    → flat_map state s ++ (flat_map declared a ++ (flat_map declared b ++ (head ++ (flat_map declared c ++ (flat_map declared d ++ (flat_map declared e
    ++ (declared r ++ (flat_map assign_line v ++ (flat_map piece_text w ++ (flat_map assign_line x ++ (flat_map assign_line y ++ (assign_line t
    ++ (flat_map assign_line z ++ last)))))))))))))
    ≡ flat_map state s ++ (flat_map declared (a ++ b) ++ (head ++ (flat_map declared (c ++ (d ++ (e ++ (r ∷ []))))
    ++ (flat_map piece_text (map One v ++ (w ++ map One (x ++ (y ++ ((t ∷ []) ++ z))))) ++ last))))
whole-blocks state declared head last s a b c d e r v x y z t w = simp (flat_map-append, append_assoc, append-nil, ones) refl

-- the parts of groups, in place of those of gates
abbrev pub group_parts : Netlist → List Owner → List (List ℕ)
group_parts net owners = map (λ x. piece_text (group_piece net x)) (groups 0 net.gates owners)

nested : (net : Netlist) (xs : List (List ℕ)) → parts_before net ++ xs
    ≡ numbered (λ j latch. state_line (net_state j latch)) 0 net.latches ++ (map (λ name. declaration (input_variable name)) net.inputs
    ++ (map (λ o. declaration (output_variable o)) net.outputs ++ head_line ∷ (numbered (λ j name. declaration (input_name j)) 0 net.inputs
    ++ (numbered (λ k gate. declaration (gate_name k gate.wire)) 0 net.gates ++ (numbered (λ j latch. declaration (next_name j)) 0 net.latches
    ++ declaration answer_name ∷ (numbered (λ j name. assign_line (input_assign j name)) 0 net.inputs ++ xs))))))
nested net xs = simp (append_assoc) refl

pub joined-blocks : (net : Netlist) (owners : List Owner)
    → joined (parts_before net ++ (group_parts net owners ++ from_next_assigns net)) ≡ guarded_text net owners
joined-blocks net owners =
    let later = group_parts net owners ++ from_next_assigns net in
    let assigns = numbered (λ j name. assign_line (input_assign j name)) 0 net.inputs ++ later in
    let nexts = numbered (λ j latch. declaration (next_name j)) 0 net.latches ++ declaration answer_name ∷ assigns in
    let gates = numbered (λ k gate. declaration (gate_name k gate.wire)) 0 net.gates ++ nexts in
    let locals = numbered (λ j name. declaration (input_name j)) 0 net.inputs ++ gates in
    let outs = map (λ o. declaration (output_variable o)) net.outputs ++ head_line ∷ locals in
    ap joined (nested net later)
    ∙ joined-numbered state_line net_state 0 net.latches (map (λ name. declaration (input_variable name)) net.inputs ++ outs)
    (joined-mapped declaration input_variable net.inputs outs
    (joined-mapped declaration output_variable net.outputs (head_line ∷ locals)
    (joined-one head_line locals
    (joined-numbered declaration (λ j (name : List ℕ). input_name j) 0 net.inputs gates
    (joined-numbered declaration (λ k (gate : Gate). gate_name k gate.wire) 0 net.gates nexts
    (joined-numbered declaration (λ j (latch : Latch). next_name j) 0 net.latches (declaration answer_name ∷ assigns)
    (joined-one (declaration answer_name) assigns
    (joined-numbered assign_line input_assign 0 net.inputs later
    (joined-mapped piece_text (group_piece net) (groups 0 net.gates owners) (from_next_assigns net)
    (joined-numbered assign_line (next_assign net) 0 net.latches (from_output_assigns net)
    (joined-mapped assign_line (output_assign net) net.outputs (assign_line (answer_assign net) ∷ from_state_assigns net)
    (joined-one (assign_line (answer_assign net)) (from_state_assigns net)
    (joined-numbered assign_line state_assign 0 net.latches (last_lines (Name answer_name) ∷ [])
    (joined-last (last_lines (Name answer_name))))))))))))))))
    ∙ whole-blocks state_line declaration head_line (last_lines (Name answer_name)) (numbered net_state 0 net.latches)
    (map input_variable net.inputs) (map output_variable net.outputs) (numbered (λ j name. input_name j) 0 net.inputs) (gate_names net)
    (numbered (λ j latch. next_name j) 0 net.latches) answer_name (numbered input_assign 0 net.inputs)
    (numbered (next_assign net) 0 net.latches) (map (output_assign net) net.outputs) (numbered state_assign 0 net.latches) (answer_assign net)
    (map (group_piece net) (groups 0 net.gates owners))

-- what is written: the parts before those of gates, the groups, and the parts behind
pub blocks-written : (net : Netlist) (owners : List Owner)
    → joined (parts_before net) ++ (groups_text net (groups 0 net.gates owners) ++ joined (from_next_assigns net)) ≡ guarded_text net owners
blocks-written net owners =
    ap (λ text. joined (parts_before net) ++ (text ++ joined (from_next_assigns net))) (grouped (groups 0 net.gates owners))
    ∙ sym (flat_map-append (λ part. part) (parts_before net) (group_parts net owners ++ from_next_assigns net)
    ∙ ap (λ l. joined (parts_before net) ++ l) (flat_map-append (λ part. part) (group_parts net owners) (from_next_assigns net)))
    ∙ joined-blocks net owners
  where
    grouped : (gs : List Group) → groups_text net gs ≡ joined (map (λ x. piece_text (group_piece net x)) gs)
    grouped [] = refl
    grouped (x ∷ gs) = ap (λ l. piece_text (group_piece net x) ++ l) (grouped gs)

-- the parts before those of gates are parts, and those of gates are too
pub gates-within : (net : Netlist) → length (parts_before net) + length net.gates ≤ length (net_parts net)
gates-within net =
    let there = length-numbered (λ k (gate : Gate). assign_line (gate_assign net k gate)) 0 net.gates in
    let whole = ap length (parts-split net) ∙ length-append (parts_before net) (parts_of_gates net ++ from_next_assigns net) in
    let behind = length-append (parts_of_gates net) (from_next_assigns net) in
    omega (arith, whole, there, behind)

-- the part of a gate is its assignment
pub gate-part : (net : Netlist) (k n : ℕ) (g : Gate) (old new : List ℕ) (more : Bool) → k < length net.gates → n ≡ length (parts_before net) + k
    → PutsPart (net_parts net) n old new more → new ≡ old ++ assign_line (gate_assign net k (get_or net.gates k g))
gate-part net k n g old new false low is puts = absurd (omega (arith, gates-within net, low, is, puts.0))
gate-part net k n g old new true low is puts =
    let z : 0 + k ≡ k = omega arith in
    let many = length-numbered (λ k (gate : Gate). assign_line (gate_assign net k gate)) 0 net.gates in
    let here : get_or (net_parts net) n [] ≡ assign_line (gate_assign net k (get_or net.gates k g))
    = ap (λ xs. get_or xs n []) (parts-split net) ∙ ap (λ m. get_or (parts_before net ++ (parts_of_gates net ++ from_next_assigns net)) m []) is
    ∙ get_or-append-add (parts_before net) (parts_of_gates net ++ from_next_assigns net) k []
    ∙ get_or_append_left (parts_of_gates net) (from_next_assigns net) [] k (omega (arith, low, many))
    ∙ get_or-numbered (λ k (gate : Gate). assign_line (gate_assign net k gate)) 0 net.gates k [] g low
    ∙ ap (λ m. assign_line (gate_assign net m (get_or net.gates k g))) z in
    puts.1 ∙ ap (λ t. old ++ t) here

-- ---- the text from a place on

module _ (net : Netlist) (owners : List Owner) where
  abbrev before : List (List ℕ)
  before = parts_before net

  abbrev behind : List (List ℕ)
  behind = from_next_assigns net

  abbrev end : ℕ
  end = length before + length net.gates

  pub text-whole : text_from net owners 0 ≡ guarded_text net owners
  text-whole =
      let none : 0 - length before ≡ 0 = omega arith in
      let none_behind : 0 - end ≡ 0 = omega arith in
      ap (λ k. joined before ++ (groups_from net owners k ++ joined (drop (0 - end) behind))) none
      ∙ ap (λ k. joined before ++ (groups_from net owners 0 ++ joined (drop k behind))) none_behind ∙ blocks-written net owners

  -- places in front of the gates
  text-before : (k : ℕ) → k ≤ length before
      → text_from net owners k ≡ joined (drop k before) ++ (groups_from net owners 0 ++ joined behind)
  text-before k low =
      let none : k - length before ≡ 0 = omega (arith, low) in
      let none_behind : k - end ≡ 0 = omega (arith, low) in
      ap (λ i. joined (drop k before) ++ (groups_from net owners i ++ joined (drop (k - end) behind))) none
      ∙ ap (λ i. joined (drop k before) ++ (groups_from net owners 0 ++ joined (drop i behind))) none_behind

  -- places of gates, and the one behind them
  text-among : (k : ℕ) → k ≤ length net.gates → text_from net owners (length before + k) ≡ groups_from net owners k ++ joined behind
  text-among k low =
      let here : length before + k - length before ≡ k = omega arith in
      let none_behind : length before + k - end ≡ 0 = omega (arith, low) in
      ap (λ l. joined l ++ (groups_from net owners (length before + k - length before) ++ joined (drop (length before + k - end) behind)))
      (drop_of_length-le before (let e : length before ≤ length before + k = omega arith in e))
      ∙ ap (λ i. groups_from net owners i ++ joined (drop (length before + k - end) behind)) here
      ∙ ap (λ i. groups_from net owners k ++ joined (drop i behind)) none_behind

  -- places behind the gates
  text-behind : (k : ℕ) → text_from net owners (end + k) ≡ joined (drop k behind)
  text-behind k =
      let i = end + k - length before in
      let here : end + k - end ≡ k = omega arith in
      let far : length net.gates ≤ i = omega arith in
      ap (λ l. joined l ++ (groups_from net owners i ++ joined (drop (end + k - end) behind)))
      (drop_of_length-le before (let e : length before ≤ end + k = omega arith in e))
      ∙ ap (λ l. groups_text net (groups i l (drop i owners)) ++ joined (drop (end + k - end) behind)) (drop_of_length-le net.gates far)
      ∙ ap (λ j. joined (drop j behind)) here

  part-before : (k : ℕ) → k < length before → get_or (net_parts net) k [] ≡ get_or before k []
  part-before k low =
      ap (λ xs. get_or xs k []) (parts-split net) ∙ get_or_append_left before (parts_of_gates net ++ behind) [] k low

  count-gates : length (parts_of_gates net) ≡ length net.gates
  count-gates = length-numbered (λ k (gate : Gate). assign_line (gate_assign net k gate)) 0 net.gates

  part-behind : (k : ℕ) → get_or (net_parts net) (end + k) [] ≡ get_or behind k []
  part-behind k =
      let e : end + k ≡ length before + (length (parts_of_gates net) + k) = omega (arith, count-gates) in
      ap (λ xs. get_or xs (end + k) []) (parts-split net) ∙ ap (λ m. get_or (before ++ (parts_of_gates net ++ behind)) m []) e
      ∙ get_or-append-add before (parts_of_gates net ++ behind) (length (parts_of_gates net) + k) []
      ∙ get_or-append-add (parts_of_gates net) behind k []

  count-all : length (net_parts net) ≡ end + length behind
  count-all =
      let all = ap length (parts-split net) ∙ length-append before (parts_of_gates net ++ behind) in
      let more = length-append (parts_of_gates net) behind in
      omega (arith, all, more, count-gates)

  -- a part of the text of the C subset, in front of the gates or behind them
  plain-more : (k : ℕ) (old new : List ℕ) (x : List ℕ) (rest text : List ℕ) → new ≡ old ++ x → text ≡ x ++ rest → new ++ rest ≡ old ++ text
  plain-more k old new x rest text is more = ap (λ l. l ++ rest) is ∙ append_assoc old x rest ∙ ap (λ l. old ++ l) (sym more)

  pub plain-puts : (k : ℕ) (old new : List ℕ) (next : Option ℕ) → (k < length before) ⊎ (end ≤ k) → PutsPlain (net_parts net) k old new next
      → PutsPlace (text_from net owners) k old new next
  plain-puts k old new None where_is puts = (ending where_is, puts.1)
    where
      ending : (k < length before) ⊎ (end ≤ k) → text_from net owners k ≡ []
      ending (inl low) = absurd (omega (arith, low, puts.0, count-all))
      ending (inr high) =
          let there : end + (k - end) ≡ k = omega (arith, high) in
          let far : length behind ≤ k - end = omega (arith, puts.0, count-all, high) in
          ap (text_from net owners) (sym there) ∙ text-behind (k - end) ∙ ap joined (drop_of_length-le behind far)
  plain-puts k old new (Some next) where_is puts = (omega (arith, puts.0), text where_is)
    where
      text : (k < length before) ⊎ (end ≤ k) → new ++ text_from net owners next ≡ old ++ text_from net owners k
      text (inl low) =
          let x = get_or before k [] in
          let tail = groups_from net owners 0 ++ joined behind in
          let to : text_from net owners next ≡ joined (drop (k + 1) before) ++ tail =
          ap (text_from net owners) puts.0 ∙ text-before (k + 1) (omega (arith, low)) in
          let from : text_from net owners k ≡ x ++ (joined (drop (k + 1) before) ++ tail) =
          text-before k (omega (arith, low)) ∙ ap (λ l. joined l ++ tail) (drop_more before k [] low) ∙ append_assoc x (joined (drop (k + 1) before)) tail in
          ap (λ l. new ++ l) to
          ∙ plain-more k old new x (joined (drop (k + 1) before) ++ tail) (text_from net owners k) (puts.1.1 ∙ ap (λ l. old ++ l) (part-before k low)) from
      text (inr high) =
          let i = k - end in
          let x = get_or behind i [] in
          let there : end + i ≡ k = omega (arith, high) in
          let after : end + (i + 1) ≡ next = omega (arith, high, puts.0) in
          let low : i < length behind = omega (arith, puts.1.0, count-all, high) in
          let to : text_from net owners next ≡ joined (drop (i + 1) behind) = ap (text_from net owners) (sym after) ∙ text-behind (i + 1) in
          let from : text_from net owners k ≡ x ++ joined (drop (i + 1) behind) =
          ap (text_from net owners) (sym there) ∙ text-behind i ∙ ap joined (drop_more behind i [] low) in
          ap (λ l. new ++ l) to
          ∙ plain-more k old new x (joined (drop (i + 1) behind)) (text_from net owners k)
          (puts.1.1 ∙ ap (λ l. old ++ l) (ap (λ m. get_or (net_parts net) m []) (sym there) ∙ part-behind i)) from

  -- gates, from one place to another
  pub group-puts : (k next : ℕ) (old new : List ℕ) → k < next → next ≤ length net.gates
      → new ++ groups_from net owners next ≡ old ++ groups_from net owners k
      → PutsPlace (text_from net owners) (length before + k) old new (Some (length before + next))
  group-puts k next old new more within is = (
    omega (arith, more),
    ap (λ l. new ++ l) (text-among next within) ∙ sym (append_assoc new (groups_from net owners next) (joined behind)) ∙ ap (λ l. l ++ joined behind) is
        ∙ append_assoc old (groups_from net owners k) (joined behind) ∙ ap (λ l. old ++ l) (sym (text-among k (omega (arith, more, within)))),
  )
