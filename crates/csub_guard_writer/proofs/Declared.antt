-- A guarded program of a netlist uses declared names alone, and assigns no input.
use Rattle.std.proofs.Common.{◌≡◌, ℕ, suc, ◌+◌, ◌<◌, ◌≤◌, Bool, true, false, not, List, [], ◌∷◌, ◌++◌, length, map, get_or, All}
use Rattle.std.proofs.Common.{Option, Some, None, refl, sym, ap, ◌∙◌, subst, arith}
use Rattle.std.specs.Prelude.{filter, flat_map, if◌then◌else◌}
use Rattle.std.specs.List.{AllByRecursion}
use Rattle.std.proofs.lemmas.Bool.{or_from, not_from_true}
use Rattle.std.proofs.lemmas.List.{get_or-append-add, get_or_append_left, length-append}
use Rattle.net_ir.specs.declared.netlist.Gate.{Gate}
use Rattle.net_ir.specs.Netlists.{Netlist}
use Rattle.net_ir.specs.NameLists.{is_among}
use Rattle.net_ir.specs.Writing.{IsWritable}
use Rattle.net_expressions.proofs.Exports.{any_gate}
use Rattle.csub_text.specs.Grammar.{begins_input}
use Rattle.csub_text.specs.Names.{names_in}
use Rattle.csub_text.specs.Trees.{Assign}
use Rattle.csub_text.specs.Written.{answer_name, gate_name, gate_assign, net_body, net_locals}
use Rattle.csub_text.proofs.Exports.{before_gates, behind_gates, Fits, all_declared, assigns-fit, declared-net, each-assign, declared-local, local-gate}
use Rattle.csub_text.proofs.Exports.{local-answer, net_name-gate}
use Rattle.net_ir.specs.Numbered.{numbered}
use Rattle.csub_guard.specs.Names.{Place, Outside, Half, Use, Taken, written_uses, piece_uses, all_uses, declared, is_undeclared, undeclared}
use Rattle.csub_guard.specs.Trees.{One, Program}
use Rattle.csub_guard_blocks.specs.Blocks.{Member, Group, Single, Run, groups, group_piece, guarded_program, member_assign, zero_assign, head_name, head_of}
use Rattle.csub_guard_blocks.specs.Owners.{Owner, Free, owners}
use Rattle.csub_guard_writer.proofs.Described.{AreMembers, AreGroups, gate_count, groups-all, count-groups, owner_with}
use Rattle.csub_guard_writer.proofs.GateRuns.{head-net}
use Rattle.csub_guard_writer.proofs.OwnerFits.{HeadsFit, head-facts, many}
use Rattle.csub_guard.proofs.Exports.{uses-append}
use Rattle.csub_guard_writer.proofs.TopNames.{ones-uses}
use Rattle.csub_guard_writer.proofs.Uses.{Passes, passes-none}

-- uses that are no fault, whatever stands before them
abbrev Fine : Program → List Use → Type 0
Fine p uses = AllByRecursion (λ u. (before : List Use) → is_undeclared p before u ≡ false) uses

fine-append : (p : Program) (xs ys : List Use) → Fine p xs → Fine p ys → Fine p (xs ++ ys)
fine-append p [] ys a b = b
fine-append p (x ∷ xs) ys a b = (a.0, fine-append p xs ys a.1 b)

fine-passes : (p : Program) (before uses : List Use) → Fine p uses → Passes (is_undeclared p) before uses
fine-passes p before [] all = tt
fine-passes p before (u ∷ uses) all = (all.0 before, fine-passes p (u ∷ before) uses all.1)

fine-taken : (p : Program) (place : Place) (names : List (List ℕ)) → AllByRecursion (λ x. is_among x (declared p) ≡ true) names
    → Fine p (map (λ n. Taken n place) names)
fine-taken p place [] all = tt
fine-taken p place (n ∷ names) all = ((λ before. not_from_true (is_among n (declared p)) all.0), fine-taken p place names all.1)

fine-outside : (p : Program) (a : Assign) → Fits (declared p) a → Fine p (written_uses Outside a)
fine-outside p a fits = (
  (λ before. or_from (begins_input a.target) (not (is_among a.target (declared p))) fits.no_input
      (not_from_true (is_among a.target (declared p)) fits.target)),
  fine-taken p Outside (names_in a.value) fits.taken,
)

fine-half : (p : Program) (b : ℕ) (t : List ℕ) (c : Bool) (a : Assign) → is_among a.target p.locals ≡ true
    → AllByRecursion (λ x. is_among x (declared p) ≡ true) (names_in a.value) → Fine p (written_uses (Half b t c) a)
fine-half p b t c a local taken = ((λ before. not_from_true (is_among a.target p.locals) local), fine-taken p (Half b t c) (names_in a.value) taken)

fine-ones : (p : Program) (xs : List Assign) → All (Fits (declared p)) xs → Fine p (flat_map (written_uses Outside) xs)
fine-ones p [] all = tt
fine-ones p (a ∷ xs) all =
    fine-append p (written_uses Outside a) (flat_map (written_uses Outside) xs) (fine-outside p a (all 0 a (omega arith)))
    (fine-ones p xs (λ k d low. all (suc k) d (omega (arith, low))))

-- what holds of both holds of each
pub all-parts : {X : Type 0} (P : X → Type 0) (xs ys : List X) → All P (xs ++ ys) → All P xs × All P ys
all-parts P xs ys all = (
  (λ k d low. subst P (get_or_append_left xs ys d k low) (all k d (omega (arith, low, length-append xs ys)))),
  (λ k d low. subst P (get_or-append-add xs ys k d) (all (length xs + k) d (omega (arith, low, length-append xs ys)))),
)

module _ (net : Netlist) (is : IsWritable net) (region : ℕ → Option ℕ) (heads : HeadsFit net region) where
  abbrev p : Program
  p = guarded_program net (owners net region)

  abbrev gate : ℕ → Gate
  gate k = get_or net.gates k any_gate

  abbrev owner : ℕ → Owner
  owner k = get_or (owners net region) k Free

  same : declared p ≡ all_declared net
  same = declared-net net

  fit : (a : Assign) → Fits (all_declared net) a → Fits (declared p) a
  fit a h = subst (λ names. Fits names a) (sym same) h

  body : All (Fits (declared p)) (net_body net)
  body = subst (λ names. All (Fits names) (net_body net)) (sym same) (each-assign (Fits (all_declared net)) net (assigns-fit net is))

  gate-fits : (k : ℕ) → k < length net.gates → Fits (declared p) (gate_assign net k (gate k))
  gate-fits k low = fit (gate_assign net k (gate k)) ((assigns-fit net is).gates k low)

  members-fine : (b h k : ℕ) (t : List ℕ) (ms : List Member) → k + length ms ≤ length net.gates → AreMembers gate owner h k ms
      → Fine p (flat_map (written_uses (Half b t true)) (map (member_assign net) ms))
  members-fine b h k t [] few are = tt
  members-fine b h k t (m ∷ ms) few are =
      let here : member_assign net m ≡ gate_assign net k (gate k) = ap (λ j. gate_assign net j m.gate) are.0 ∙ ap (gate_assign net k) are.1 in
      let fits = gate-fits k (omega (arith, few)) in
      fine-append p (written_uses (Half b t true) (member_assign net m)) _
      (subst (λ a. Fine p (written_uses (Half b t true) a)) (sym here)
      (fine-half p b t true (gate_assign net k (gate k)) (local-gate net k any_gate (omega (arith, few))) fits.taken))
      (members-fine b h (k + 1) t ms (omega (arith, few)) are.3)

  zeros-fine : (b h k : ℕ) (t : List ℕ) (ms : List Member) → k + length ms ≤ length net.gates → AreMembers gate owner h k ms
      → Fine p (flat_map (written_uses (Half b t false)) (map zero_assign (filter (λ m. m.shown) ms)))
  zeros-fine b h k t [] few are = tt
  zeros-fine b h k t (m ∷ ms) few are = by (zeros-fine b h (k + 1) t ms (omega (arith, few)) are.3) m.shown refl
    where
      by : Fine p (flat_map (written_uses (Half b t false)) (map zero_assign (filter (λ m. m.shown) ms))) → (c : Bool) → m.shown ≡ c
          → Fine p (flat_map (written_uses (Half b t false)) (map zero_assign (filter (λ m. m.shown) (m ∷ ms))))
      by rest false e = subst (λ c. Fine p (flat_map (written_uses (Half b t false)) (map zero_assign (if c then m ∷ filter (λ m. m.shown) ms
          else filter (λ m. m.shown) ms)))) (sym e) rest
      by rest true e =
          let name : gate_name m.place m.gate.wire ≡ gate_name k (gate k).wire
          = ap (λ j. gate_name j m.gate.wire) are.0 ∙ ap (λ (g : Gate). gate_name k g.wire) are.1 in
          let local : is_among (gate_name m.place m.gate.wire) (net_locals net) ≡ true
          = ap (λ x. is_among x (net_locals net)) name ∙ local-gate net k any_gate (omega (arith, few)) in
          subst (λ c. Fine p (flat_map (written_uses (Half b t false)) (map zero_assign (if c then m ∷ filter (λ m. m.shown) ms
          else filter (λ m. m.shown) ms)))) (sym e)
          (fine-append p (written_uses (Half b t false) (zero_assign m)) _ (fine-half p b t false (zero_assign m) local tt) rest)

  pub first-head : (h k : ℕ) (ms : List Member) → 0 < length ms → AreMembers gate owner h k ms → head_of (owner k) ≡ Some h
  first-head h k [] some are = absurd (omega (arith, some))
  first-head h k (m ∷ ms) some are = ap head_of are.2 ∙ head-with m.shown
    where
      head-with : (c : Bool) → head_of (owner_with h c) ≡ Some h
      head-with true = refl
      head-with false = refl

  groups-fine : (k b : ℕ) (gs : List Group) → AreGroups gate owner k gs → k + gate_count gs ≤ length net.gates
      → Fine p (piece_uses written_uses b (map (group_piece net) gs))
  groups-fine k b [] are few = tt
  groups-fine k b (Single j g ∷ gs) are few =
      let here : gate_assign net j g ≡ gate_assign net k (gate k) = ap (λ i. gate_assign net i g) are.0 ∙ ap (gate_assign net k) are.1 in
      fine-append p (written_uses Outside (gate_assign net j g)) _
      (subst (λ a. Fine p (written_uses Outside a)) (sym here) (fine-outside p (gate_assign net k (gate k)) (gate-fits k (omega (arith, few)))))
      (groups-fine (k + 1) (b + 1) gs are.3 (omega (arith, few)))
  groups-fine k b (Run h ms ∷ gs) are few =
      let head = head-facts net is region heads k h (first-head h k ms are.0 are.1) in
      let low : h < length net.gates = omega (arith, head.0, few, are.0) in
      let local : is_among (head_name net h) (net_locals net) ≡ true
      = ap (λ x. is_among x (net_locals net)) (sym (head-net net h low) ∙ net_name-gate net h any_gate low) ∙ local-gate net h any_gate low in
      let first = flat_map (written_uses (Half b (head_name net h) true)) (map (member_assign net) ms) in
      let second = flat_map (written_uses (Half b (head_name net h) false)) (map zero_assign (filter (λ m. m.shown) ms)) in (
        (λ before. not_from_true (is_among (head_name net h) (net_locals net)) local),
        fine-append p (first ++ second) (piece_uses written_uses (b + 1) (map (group_piece net) gs))
            (fine-append p first second (members-fine b h k (head_name net h) ms (omega (arith, few)) are.1)
            (zeros-fine b h k (head_name net h) ms (omega (arith, few)) are.1))
            (groups-fine (k + length ms) (b + 1) gs are.2 (omega (arith, few))),
      )

  all-fine : Fine p (all_uses written_uses p)
  all-fine =
      let b1 = before_gates net in
      let b2 = numbered (gate_assign net) 0 net.gates in
      let bh = behind_gates net in
      let blocks = map (group_piece net) (groups 0 net.gates (owners net region)) in
      let wide = many net is region heads in
      let are = groups-all net.gates (owners net region) wide in
      let first : Fine p (piece_uses written_uses 0 (map One b1))
      = subst (Fine p) (sym (ones-uses written_uses 0 b1)) (fine-ones p b1 (all-parts (Fits (declared p)) b1 (b2 ++ bh) body).0) in
      let last : Fine p (piece_uses written_uses (length (map One b1) + length blocks) (map One bh))
      = subst (Fine p) (sym (ones-uses written_uses (length (map One b1) + length blocks) bh))
      (fine-ones p bh (all-parts (Fits (declared p)) b2 bh (all-parts (Fits (declared p)) b1 (b2 ++ bh) body).1).1) in
      let mid : Fine p (piece_uses written_uses (length (map One b1)) (blocks ++ map One bh))
      = subst (Fine p) (sym (uses-append written_uses (length (map One b1)) blocks (map One bh)))
      (fine-append p (piece_uses written_uses (length (map One b1)) blocks) _
      (groups-fine 0 (length (map One b1)) (groups 0 net.gates (owners net region)) are
      (omega (arith, count-groups 0 net.gates (owners net region) wide))) last) in
      let z : length (map One b1) ≡ 0 + length (map One b1) = omega arith in
      fine-append p (piece_uses written_uses 0 p.body) _
      (subst (Fine p) (sym (uses-append written_uses 0 (map One b1) (blocks ++ map One bh)))
      (fine-append p (piece_uses written_uses 0 (map One b1)) (piece_uses written_uses (0 + length (map One b1)) (blocks ++ map One bh)) first
      (subst (λ n. Fine p (piece_uses written_uses n (blocks ++ map One bh))) z mid)))
      (fine-taken p Outside (answer_name ∷ []) (
        subst (λ names. is_among answer_name names ≡ true) (sym same)
            (declared-local net answer_name (local-answer net)),
        tt,
      ))

  pub none-undeclared : undeclared p ≡ None
  none-undeclared = passes-none (is_undeclared p) [] (all_uses written_uses p) (fine-passes p [] (all_uses written_uses p) all-fine)
