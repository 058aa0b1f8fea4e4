-- A guarded program of a netlist keeps the rules on places and on reads.
use Rattle.std.proofs.Common.{◌≡◌, ℕ, zero, suc, ◌+◌, ◌<◌, ◌⊎◌, inl, inr, true, false, not, ◌&&◌, ◌||◌, ◌==◌, List, [], ◌∷◌, ◌++◌, length, map}
use Rattle.std.proofs.Common.{get_or, All}
use Rattle.std.proofs.Common.{Option, Some, None, refl, sym, ap, ◌∙◌, subst, arith, append_assoc, ⊎_elim}
use Rattle.std.specs.Prelude.{Contains, flat_map}
use Rattle.std.specs.List.{AllByRecursion, list_any}
use Rattle.std.specs.Cmp.Lexicographic.{nat_list_eq_equiv}
use Rattle.std.proofs.lemmas.Bool.{and_parts, or_parts, not-true}
use Rattle.std.proofs.lemmas.List.{get_or-map, length-map}
use Rattle.std.proofs.lemmas.List.Concat.{flat_map-append}
use Rattle.base_types.specs.Distinct.{all_differ}
use Rattle.base_types.specs.Names.{is_same_name}
use Rattle.net_ir.specs.declared.netlist.NetOut.{NetOut}
use Rattle.net_ir.specs.Netlists.{Netlist, net_count}
use Rattle.net_ir.specs.NameLists.{is_among}
use Rattle.net_ir.specs.Numbered.{numbered}
use Rattle.net_ir.specs.Writing.{IsWritable}
use Rattle.net_ir.proofs.Exports.{any-none, length-numbered, get_or-numbered, map-numbered, differ-by}
use Rattle.net_expressions.proofs.Exports.{mark, any_gate, any_latch, any_output}
use Rattle.csub_text.specs.Names.{names_in}
use Rattle.csub_text.specs.Trees.{Assign}
use Rattle.csub_text.specs.Written.{input_name, next_name, answer_name, gate_name, net_name, net_locals, output_variable, input_assign, next_assign}
use Rattle.csub_text.specs.Written.{output_assign, answer_assign, state_assign}
use Rattle.csub_text.proofs.Exports.{before_gates, behind_gates, input_names, next_names, shown_variables, differ-inputs, differ-nexts, marks-inputs}
use Rattle.csub_text.proofs.Exports.{marks-nexts, marks-shown, marks-locals, numbered-assigns, no_local-state, no_local-given}
use Rattle.csub_guard.specs.Names.{Place, Outside, Use, Put, Taken, made_uses, is_put_elsewhere, piece_uses, all_uses, is_again}
use Rattle.csub_guard.specs.Names.{is_unset, assigned_again, unset}
use Rattle.csub_guard.specs.Trees.{Piece, One, Program}
use Rattle.csub_guard.proofs.Exports.{uses-append}
use Rattle.csub_guard_blocks.specs.Blocks.{groups, group_piece, guarded_program}
use Rattle.csub_guard_blocks.specs.Owners.{Mixed, usage_beside, owners}
use Rattle.csub_guard_writer.proofs.Described.{groups-all, gate_count, count-groups}
use Rattle.csub_guard_writer.proofs.Names.{Both, both-append, made-passes, elsewhere-taken, again-none, put-last, At, Step, net-set, groups-pass}
use Rattle.csub_guard_writer.proofs.OwnerFits.{HeadsFit, many, latch-used, output-used, paused-used, beside-inner}
use Rattle.csub_guard_writer.proofs.Uses.{passes-none, behind, behind-append, still, NoPut, clear, no-made, SetBy, set-still, taken-passes, taken-again}

-- ---- the uses of pieces

pub ones-uses : (uses : Place → Assign → List Use) (k : ℕ) (assigns : List Assign) → piece_uses uses k (map One assigns) ≡ flat_map (uses Outside) assigns
ones-uses uses k [] = refl
ones-uses uses k (a ∷ assigns) = ap (λ l. uses Outside a ++ l) (ones-uses uses (k + 1) assigns)

abbrev targets : List Assign → List (List ℕ)
targets xs = map (λ a. a.target) xs

-- ---- assignments outside of blocks

abbrev Readable : Program → List Use → Assign → Type 0
Readable p before a = AllByRecursion (λ n. (is_among n p.locals ≡ false) ⊎ SetBy n Outside before) (names_in a.value)

readable-still : (p : Program) (before uses : List Use) (names : List (List ℕ))
    → AllByRecursion (λ n. (is_among n p.locals ≡ false) ⊎ SetBy n Outside before) names
    → AllByRecursion (λ n. (is_among n p.locals ≡ false) ⊎ SetBy n Outside (behind before uses)) names
readable-still p before uses [] all = tt
readable-still p before uses (n ∷ names) all =
    (⊎_elim (λ e. inl e) (λ s. inr (set-still n Outside before uses s)) all.0, readable-still p before uses names all.1)

local-ones : (p : Program) (xs : List Assign) (before : List Use) → all_differ is_same_name (targets xs) ≡ true → All (λ a. NoPut a.target before) xs
    → All (Readable p before) xs → Both p before (flat_map (made_uses Outside) xs)
local-ones p [] before differ new reads = (tt, tt)
local-ones p (a ∷ xs) before differ new reads =
    let parts = and_parts (not (is_among a.target (targets xs))) (all_differ is_same_name (targets xs)) differ in
    let us = made_uses Outside a in
    both-append p before us (flat_map (made_uses Outside) xs)
    (made-passes p Outside a before (reads 0 a (omega arith))
    (again-none p a.target Outside (behind before (map (λ n. Taken n Outside) (names_in a.value)))
    (elsewhere-taken a.target Outside Outside (names_in a.value) before (clear a.target Outside before (new 0 a (omega arith))))))
    (local-ones p xs (behind before us) parts.1
    (λ k d low.
    let x = (get_or xs k d).target in
    let at : get_or (targets xs) k d.target ≡ x = get_or-map (λ (a : Assign). a.target) xs k d d.target low in
    no-made x Outside a before
    (ap (λ y. is_same_name y a.target) (sym at) ∙ nat_list_eq_equiv.symm (get_or (targets xs) k d.target) a.target
    ∙ any-none (is_same_name a.target) (targets xs) (not-true (is_among a.target (targets xs)) parts.0) k d.target
    (omega (arith, low, length-map xs (λ (a : Assign). a.target))))
    (new (suc k) d (omega (arith, low))))
    (λ k d low. readable-still p before us (names_in (get_or xs k d).value) (reads (suc k) d (omega (arith, low)))))

free-ones : (p : Program) (xs : List Assign) (before : List Use) → All (λ a. is_among a.target p.locals ≡ false) xs → All (Readable p before) xs
    → Both p before (flat_map (made_uses Outside) xs)
free-ones p [] before free reads = (tt, tt)
free-ones p (a ∷ xs) before free reads =
    let us = made_uses Outside a in
    both-append p before us (flat_map (made_uses Outside) xs)
    (made-passes p Outside a before (reads 0 a (omega arith))
    (ap (λ b. b && list_any (is_put_elsewhere a.target Outside) (behind before (map (λ n. Taken n Outside) (names_in a.value)))) (free 0 a (omega arith))))
    (free-ones p xs (behind before us) (λ k d low. free (suc k) d (omega (arith, low)))
    (λ k d low. readable-still p before us (names_in (get_or xs k d).value) (reads (suc k) d (omega (arith, low)))))

ones-noput : (x : List ℕ) (xs : List Assign) (before : List Use) → is_among x (targets xs) ≡ false → NoPut x before
    → NoPut x (behind before (flat_map (made_uses Outside) xs))
ones-noput x [] before none new = new
ones-noput x (a ∷ xs) before none new =
    let parts = or_parts (is_same_name x a.target) (is_among x (targets xs)) none in
    subst (NoPut x) (sym (behind-append before (made_uses Outside a) (flat_map (made_uses Outside) xs)))
    (ones-noput x xs (behind before (made_uses Outside a)) parts.1 (no-made x Outside a before parts.0 new))

ones-put : (xs : List Assign) (before : List Use) (k : ℕ) (d : Assign) → k < length xs
    → Contains (behind before (flat_map (made_uses Outside) xs)) (Put (get_or xs k d).target Outside)
ones-put [] before k d low = absurd (omega (arith, low))
ones-put (a ∷ xs) before zero d low =
    subst (λ us. Contains us (Put a.target Outside)) (sym (behind-append before (made_uses Outside a) (flat_map (made_uses Outside) xs)))
    (still (behind before (made_uses Outside a)) (flat_map (made_uses Outside) xs) (Put a.target Outside) (put-last Outside a before))
ones-put (a ∷ xs) before (suc k) d low =
    subst (λ us. Contains us (Put (get_or xs k d).target Outside)) (sym (behind-append before (made_uses Outside a) (flat_map (made_uses Outside) xs)))
    (ones-put xs (behind before (made_uses Outside a)) k d (omega (arith, low)))

module _ (net : Netlist) (is : IsWritable net) (region : ℕ → Option ℕ) (heads : HeadsFit net region) where
  abbrev p : Program
  p = guarded_program net (owners net region)

  abbrev b1 : List Assign
  b1 = before_gates net

  abbrev b3 : List Assign
  b3 = numbered (next_assign net) 0 net.latches

  abbrev b4 : List Assign
  b4 = map (output_assign net) net.outputs

  abbrev b5 : List Assign
  b5 = answer_assign net ∷ []

  abbrev b6 : List Assign
  b6 = numbered state_assign 0 net.latches

  abbrev blocks : List Piece
  blocks = map (group_piece net) (groups 0 net.gates (owners net region))

  -- ---- the inputs

  abbrev u1 : List Use
  u1 = flat_map (made_uses Outside) b1

  abbrev a1 : List Use
  a1 = behind [] u1

  targets1 : targets b1 ≡ input_names net
  targets1 = map-numbered (λ (a : Assign). a.target) input_assign 0 net.inputs

  pass1 : Both p [] u1
  pass1 = local-ones p b1 [] (ap (all_differ is_same_name) targets1 ∙ differ-inputs net is) (λ k d low. refl)
      (numbered-assigns (Readable p []) input_assign net.inputs [] (λ j low. (inl (no_local-given net (get_or net.inputs j [])), tt)))

  any_assign : Assign
  any_assign = answer_assign net

  at_begin : At net is region heads p refl 0 a1
  at_begin = record {
    fresh = λ j l low. ones-noput (gate_name j (get_or net.gates j any_gate).wire) b1 []
        (ap (is_among (gate_name j (get_or net.gates j any_gate).wire)) targets1
        ∙ differ-by mark (λ m. not (m == 105)) (gate_name j (get_or net.gates j any_gate).wire) (input_names net)
        (gate-mark (get_or net.gates j any_gate).wire j) (marks-inputs net (λ m. not (not (m == 105))) refl)) refl;
    known = λ j l. absurd (omega (arith, l));
    inputs = λ j l.
        let z : 0 + j ≡ j = omega arith in
        let at : (get_or b1 j any_assign).target ≡ input_name j
        = ap (λ (a : Assign). a.target) (get_or-numbered input_assign 0 net.inputs j any_assign [] l) ∙ ap input_name z in
        subst (λ x. Contains a1 (Put x Outside)) at (ones-put b1 [] j any_assign (omega (arith, l, length-numbered input_assign 0 net.inputs)));
    others = λ x late. ones-noput x b1 []
        (ap (is_among x) targets1 ∙ differ-by mark (λ m. m == 116 || m == 114) x (input_names net) late
        (marks-inputs net (λ m. not (m == 116 || m == 114)) refl)) refl;
  }
    where
      gate-mark : (wire : _) (k : ℕ) → not (mark (gate_name k wire) == 105) ≡ true
      gate-mark None k = refl
      gate-mark (Some w) k = refl

  -- ---- the gates

  abbrev u2 : List Use
  u2 = piece_uses made_uses (length (map One b1)) blocks

  abbrev a2 : List Use
  a2 = behind a1 u2

  all-gates : gate_count (groups 0 net.gates (owners net region)) ≡ length net.gates
  all-gates = count-groups 0 net.gates (owners net region) (many net is region heads)

  step2 : Step net is region heads p refl (0 + gate_count (groups 0 net.gates (owners net region))) a1 u2
  step2 = groups-pass net is region heads p refl 0 (length (map One b1)) (groups 0 net.gates (owners net region)) a1
      (groups-all net.gates (owners net region) (many net is region heads)) (omega (arith, all-gates)) at_begin

  at_end : At net is region heads p refl (length net.gates) a2
  at_end = subst (λ k. At net is region heads p refl k a2) (omega (arith, all-gates)) step2.at

  -- a net that something beside gates uses may be read behind them
  beside-set : (n : ℕ) → n < net_count net → usage_beside net n ≡ Mixed → (is_among (net_name net n) p.locals ≡ false) ⊎ SetBy (net_name net n) Outside a2
  beside-set n low mixed = net-set net is region heads p refl Outside (length net.gates) n a2 at_end (omega arith) low
      (λ j h e inner. absurd (beside-inner net is region heads n mixed j h e inner))

  -- ---- the next values

  abbrev u3 : List Use
  u3 = flat_map (made_uses Outside) b3

  abbrev a3 : List Use
  a3 = behind a2 u3

  targets3 : targets b3 ≡ next_names net
  targets3 = map-numbered (λ (a : Assign). a.target) (next_assign net) 0 net.latches

  pass3 : Both p a2 u3
  pass3 = local-ones p b3 a2 (ap (all_differ is_same_name) targets3 ∙ differ-nexts net is)
      (numbered-assigns (λ a. NoPut a.target a2) (next_assign net) net.latches any_latch (λ j low. at_end.others (next_name j) refl))
      (numbered-assigns (Readable p a2) (next_assign net) net.latches any_latch
      (λ j low. (beside-set (get_or net.latches j any_latch).from.0 (is.is_net.latches_in_range j any_latch low) (latch-used net j low), tt)))

  -- ---- the outputs

  abbrev u4 : List Use
  u4 = flat_map (made_uses Outside) b4

  abbrev a4 : List Use
  a4 = behind a3 u4

  no_local-shown : (o : NetOut) → is_among (output_variable o) (net_locals net) ≡ false
  no_local-shown o = differ-by mark (λ m. m == 79) (output_variable o) (net_locals net) refl (marks-locals net (λ m. not (m == 79)) refl refl refl refl refl)

  mapped : (P : Assign → Type 0) → ((k : ℕ) → k < length net.outputs → P (output_assign net (get_or net.outputs k any_output))) → All P b4
  mapped P each k d low =
      let n = length-map net.outputs (output_assign net) in
      subst P (sym (get_or-map (output_assign net) net.outputs k any_output d (omega (arith, low, n)))) (each k (omega (arith, low, n)))

  pass4 : Both p a3 u4
  pass4 = free-ones p b4 a3 (mapped (λ a. is_among a.target p.locals ≡ false) (λ k low. no_local-shown (get_or net.outputs k any_output)))
      (mapped (Readable p a3) (λ k low.
      let n = (get_or net.outputs k any_output).net.0 in
      readable-still p a2 u3 (net_name net n ∷ []) (beside-set n (is.is_net.outputs_in_range k any_output low) (output-used net k low), tt)))

  -- ---- the answer

  abbrev u5 : List Use
  u5 = flat_map (made_uses Outside) b5

  abbrev a5 : List Use
  a5 = behind a4 u5

  targets4 : (outputs : List NetOut) → targets (map (output_assign net) outputs) ≡ map output_variable outputs
  targets4 [] = refl
  targets4 (o ∷ outputs) = ap (λ l. output_variable o ∷ l) (targets4 outputs)

  new5 : NoPut answer_name a4
  new5 = ones-noput answer_name b4 a3
      (ap (is_among answer_name) (targets4 net.outputs) ∙ differ-by mark (λ m. m == 114) answer_name (shown_variables net) refl
      (marks-shown net (λ m. not (m == 114)) refl))
      (ones-noput answer_name b3 a2
      (ap (is_among answer_name) targets3 ∙ differ-by mark (λ m. m == 114) answer_name (next_names net) refl (marks-nexts net (λ m. not (m == 114)) refl))
      (at_end.others answer_name refl))

  pass5 : Both p a4 u5
  pass5 = local-ones p b5 a4 refl (one (λ a. NoPut a.target a4) new5)
      (one (Readable p a4) (readable-still p a3 u4 (net_name net net.paused ∷ [])
      (readable-still p a2 u3 (net_name net net.paused ∷ []) (beside-set net.paused is.is_net.paused_in_range (paused-used net), tt))))
    where
      one : (P : Assign → Type 0) → P (answer_assign net) → All P (answer_assign net ∷ [])
      one P h zero d low = h
      one P h (suc k) d low = absurd (omega (arith, low))

  -- ---- the states

  abbrev u6 : List Use
  u6 = flat_map (made_uses Outside) b6

  abbrev a6 : List Use
  a6 = behind a5 u6

  next-put : (j : ℕ) → j < length net.latches → Contains a3 (Put (next_name j) Outside)
  next-put j low =
      let z : 0 + j ≡ j = omega arith in
      let at : (get_or b3 j any_assign).target ≡ next_name j
      = ap (λ (a : Assign). a.target) (get_or-numbered (next_assign net) 0 net.latches j any_assign any_latch low) ∙ ap next_name z in
      subst (λ x. Contains a3 (Put x Outside)) at (ones-put b3 a2 j any_assign (omega (arith, low, length-numbered (next_assign net) 0 net.latches)))

  pass6 : Both p a5 u6
  pass6 = free-ones p b6 a5
      (numbered-assigns (λ a. is_among a.target p.locals ≡ false) state_assign net.latches any_latch (λ j low. no_local-state net j))
      (numbered-assigns (Readable p a5) state_assign net.latches any_latch
      (λ j low. (inr (inl (still a4 u5 (Put (next_name j) Outside) (still a3 u4 (Put (next_name j) Outside) (next-put j low)))), tt)))

  -- ---- what is returned

  abbrev u7 : List Use
  u7 = Taken answer_name Outside ∷ []

  pass7 : Both p a6 u7
  pass7 = (
    taken-again p Outside (answer_name ∷ []) a6,
    taken-passes p Outside (answer_name ∷ []) a6
        (inr (inl (still a5 u6 (Put answer_name Outside) (ones-put b5 a4 0 any_assign (omega arith)))), tt),
  )

  -- ---- all of it

  whole : all_uses made_uses p ≡ u1 ++ (u2 ++ ((u3 ++ (u4 ++ (u5 ++ u6))) ++ u7))
  whole =
      let bh = behind_gates net in
      let z : 0 + length (map One b1) ≡ length (map One b1) = omega arith in
      ap (λ l. l ++ u7) (uses-append made_uses 0 (map One b1) (blocks ++ map One bh)
      ∙ ap (λ n. piece_uses made_uses 0 (map One b1) ++ piece_uses made_uses n (blocks ++ map One bh)) z
      ∙ ap (λ l. l ++ piece_uses made_uses (length (map One b1)) (blocks ++ map One bh)) (ones-uses made_uses 0 b1)
      ∙ ap (λ l. u1 ++ l) (uses-append made_uses (length (map One b1)) blocks (map One bh)
      ∙ ap (λ l. u2 ++ l) (ones-uses made_uses (length (map One b1) + length blocks) bh ∙ parts)))
      ∙ append_assoc u1 (u2 ++ (u3 ++ (u4 ++ (u5 ++ u6)))) u7 ∙ ap (λ l. u1 ++ l) (append_assoc u2 (u3 ++ (u4 ++ (u5 ++ u6))) u7)
    where
      parts : flat_map (made_uses Outside) (behind_gates net) ≡ u3 ++ (u4 ++ (u5 ++ u6))
      parts = flat_map-append (made_uses Outside) b3 (b4 ++ (b5 ++ b6))
          ∙ ap (λ l. u3 ++ l) (flat_map-append (made_uses Outside) b4 (b5 ++ b6) ∙ ap (λ l. u4 ++ l) (flat_map-append (made_uses Outside) b5 b6))

  all-pass : Both p [] (all_uses made_uses p)
  all-pass =
      let last = both-append p a5 u6 u7 pass6 pass7 in
      let fifth = both-append p a4 u5 (u6 ++ u7) pass5 last in
      let fourth = both-append p a3 u4 (u5 ++ (u6 ++ u7)) pass4 fifth in
      let third = both-append p a2 u3 (u4 ++ (u5 ++ (u6 ++ u7))) pass3 fourth in
      let flat : (u3 ++ (u4 ++ (u5 ++ u6))) ++ u7 ≡ u3 ++ (u4 ++ (u5 ++ (u6 ++ u7)))
      = append_assoc u3 (u4 ++ (u5 ++ u6)) u7 ∙ ap (λ l. u3 ++ l) (append_assoc u4 (u5 ++ u6) u7 ∙ ap (λ l. u4 ++ l) (append_assoc u5 u6 u7)) in
      let second = both-append p a1 u2 ((u3 ++ (u4 ++ (u5 ++ u6))) ++ u7) step2.passes (subst (Both p a2) (sym flat) third) in
      subst (Both p []) (sym whole) (both-append p [] u1 (u2 ++ ((u3 ++ (u4 ++ (u5 ++ u6))) ++ u7)) pass1 second)

  pub none-again : assigned_again p ≡ None
  none-again = passes-none (is_again p) [] (all_uses made_uses p) all-pass.0

  pub none-unset : unset p ≡ None
  none-unset = passes-none (is_unset p) [] (all_uses made_uses p) all-pass.1
