-- The gates of a guarded program keep the rules on places and on reads.
use Rattle.std.proofs.Common.{◌≡◌, ℕ, suc, ◌+◌, ◌<◌, ◌≤◌, ◌⊎◌, inl, inr, Bool, true, false, not, ◌&&◌, ◌||◌, ◌==◌, List, [], ◌∷◌, ◌++◌, length, map}
use Rattle.std.proofs.Common.{get_or}
use Rattle.std.proofs.Common.{Option, Some, None, refl, sym, ap, ◌∙◌, subst, arith, ⊎_elim}
use Rattle.std.specs.Prelude.{Contains, filter, flat_map, if◌then◌else◌}
use Rattle.std.specs.List.{list_any, AllByRecursion}
use Rattle.std.specs.Cmp.Lexicographic.{nat_list_eq_equiv}
use Rattle.std.proofs.lemmas.Bool.{cases_lt, eq-eqb, or_from, false_from_ne_true}
use Rattle.std.proofs.lemmas.Option.{none-some, same_Some}
use Rattle.base_types.specs.Names.{is_same_name}
use Rattle.base_types.proofs.Exports.{same_name-self, same_name-is}
use Rattle.net_ir.specs.declared.netlist.Gate.{Gate}
use Rattle.net_ir.specs.Netlists.{Netlist, first_gate}
use Rattle.net_ir.specs.NameLists.{is_among}
use Rattle.net_ir.specs.Writing.{IsWritable}
use Rattle.net_ir.proofs.Exports.{net_cases}
use Rattle.net_expressions.proofs.Exports.{any_gate, gate-low, mark}
use Rattle.csub_text.specs.Names.{names_in}
use Rattle.csub_text.specs.Trees.{Assign}
use Rattle.csub_text.specs.Written.{input_name, gate_name, gate_assign, net_name, net_locals}
use Rattle.csub_text.proofs.Exports.{gate-new, net_name-input, net_name-state, net_name-gate, no_local-state}
use Rattle.csub_guard.specs.Names.{Place, Outside, Half, Use, Put, Taken, Tested, made_uses, piece_uses, is_put_elsewhere, is_put_where, is_outside}
use Rattle.csub_guard.specs.Names.{is_again, is_unset}
use Rattle.csub_guard.specs.Trees.{Program}
use Rattle.csub_guard_blocks.specs.Blocks.{Member, Group, Single, Run, member_assign, zero_assign, head_name, head_of, group_piece}
use Rattle.csub_guard_blocks.specs.Owners.{Owner, Free, Inner, Outer, owners}
use Rattle.csub_guard_writer.proofs.Described.{AreMembers, AreGroups, gate_count, owner_with}
use Rattle.csub_guard_writer.proofs.GateRuns.{head-net}
use Rattle.csub_guard_writer.proofs.OwnerFits.{HeadsFit, head-facts, inner-uses, Reads, reads-low, read-at, read-names}
use Rattle.csub_guard_writer.proofs.Uses.{Passes, behind, passes-append, behind-append, still, any-of, NoPut, clear, no-made, SetBy, taken-passes}
use Rattle.csub_guard_writer.proofs.Uses.{taken-again}

-- uses that break neither rule
abbrev pub Both : Program → List Use → List Use → Type 0
Both p before uses = Passes (is_again p) before uses × Passes (is_unset p) before uses

pub both-append : (p : Program) (before xs ys : List Use) → Both p before xs → Both p (behind before xs) ys → Both p before (xs ++ ys)
both-append p before xs ys a b = (passes-append (is_again p) before xs ys a.0 b.0, passes-append (is_unset p) before xs ys a.1 b.1)

-- one assignment: what it reads is set, and its target was put nowhere else
pub made-passes : (p : Program) (place : Place) (a : Assign) (before : List Use)
    → AllByRecursion (λ n. (is_among n p.locals ≡ false) ⊎ SetBy n place before) (names_in a.value)
    → is_again p (behind before (map (λ n. Taken n place) (names_in a.value))) (Put a.target place) ≡ false
    → Both p before (made_uses place a)
made-passes p place a before reads again =
    both-append p before (map (λ n. Taken n place) (names_in a.value)) (Put a.target place ∷ [])
    (taken-again p place (names_in a.value) before, taken-passes p place (names_in a.value) before reads)
    ((again, tt), (refl, tt))

-- places where a name was put behind names that are read
pub elsewhere-taken : (x : List ℕ) (place own : Place) (names : List (List ℕ)) (before : List Use) → list_any (is_put_elsewhere x place) before ≡ false
    → list_any (is_put_elsewhere x place) (behind before (map (λ n. Taken n own) names)) ≡ false
elsewhere-taken x place own [] before none = none
elsewhere-taken x place own (n ∷ names) before none = elsewhere-taken x place own names (Taken n own ∷ before) none

pub again-none : (p : Program) (x : List ℕ) (place : Place) (before : List Use) → list_any (is_put_elsewhere x place) before ≡ false
    → is_again p before (Put x place) ≡ false
again-none p x place before none = ap (λ b. is_among x p.locals && b) none ∙ and-no (is_among x p.locals)
  where
    and-no : (b : Bool) → (b && false) ≡ false
    and-no true = refl
    and-no false = refl

pub put-last : (place : Place) (a : Assign) (before : List Use) → Contains (behind before (made_uses place a)) (Put a.target place)
put-last place a before = subst (λ us. Contains us (Put a.target place))
    (sym (behind-append before (map (λ n. Taken n place) (names_in a.value)) (Put a.target place ∷ [])))
    (0, omega arith, refl)

-- the names of next values and of the answer
abbrev pub is_late : List ℕ → Bool
is_late x = mark x == 116 || mark x == 114

module _ (net : Netlist) (is : IsWritable net) (region : ℕ → Option ℕ) (heads : HeadsFit net region) (p : Program)
    (same_locals : p.locals ≡ net_locals net) where
  abbrev G : ℕ
  G = length net.gates

  abbrev gate : ℕ → Gate
  gate k = get_or net.gates k any_gate

  abbrev owner : ℕ → Owner
  owner k = get_or (owners net region) k Free

  abbrev name : ℕ → List ℕ
  name k = gate_name k (gate k).wire

  -- no two gates have one name
  apart : (i j : ℕ) → i < j → j < G → is_same_name (name i) (name j) ≡ false
  apart i j l low = ap (λ x. is_same_name x (name j)) (sym (net_name-gate net i any_gate (omega (arith, l, low))))
      ∙ gate-new net is j (first_gate net + i) low (omega (arith, l))

  apart-back : (i j : ℕ) → i < j → j < G → is_same_name (name j) (name i) ≡ false
  apart-back i j l low = nat_list_eq_equiv.symm (name j) (name i) ∙ apart i j l low

  -- the names of next values and of the answer, by their first byte, are no gate's
  late-apart : (x : List ℕ) (k : ℕ) → is_late x ≡ true → is_same_name x (name k) ≡ false
  late-apart x k late = false_from_ne_true (is_same_name x (name k))
      (λ same. by (gate k).wire (ap mark (sym (same_name-is x (name k) same))))
    where
      by : (w : _) → mark (gate_name k w) ≡ mark x → ⊥
      by None e = let q : (103 == 116 || 103 == 114) ≡ true = ap (λ m. m == 116 || m == 114) e ∙ late in cc
      by (Some w) e = let q : (119 == 116 || 119 == 114) ≡ true = ap (λ m. m == 116 || m == 114) e ∙ late in cc

  -- where a gate that belongs so was put
  abbrev Ready : Owner → List ℕ → List Use → Type 0
  Ready Free x before = Contains before (Put x Outside)
  Ready (Inner h) x before = (b : ℕ) × Contains before (Put x (Half b (head_name net h) true))
  Ready (Outer h) x before = (b : ℕ) × (Contains before (Put x (Half b (head_name net h) true)) × Contains before (Put x (Half b (head_name net h) false)))

  ready-still : (o : Owner) (x : List ℕ) (before uses : List Use) → Ready o x before → Ready o x (behind before uses)
  ready-still Free x before uses r = still before uses (Put x Outside) r
  ready-still (Inner h) x before uses r = (r.0, still before uses (Put x (Half r.0 (head_name net h) true)) r.1)
  ready-still (Outer h) x before uses r = (
    r.0,
    (
      still before uses (Put x (Half r.0 (head_name net h) true)) r.1.0,
      still before uses (Put x (Half r.0 (head_name net h) false)) r.1.1,
    ),
  )

  -- before the gates from place k on
  pub record At (k : ℕ) (before : List Use) : Type 0 where
    pub fresh : (j : ℕ) → k ≤ j → j < G → NoPut (name j) before
    pub known : (j : ℕ) → j < k → Ready (owner j) (name j) before
    pub inputs : (j : ℕ) → j < length net.inputs → Contains before (Put (input_name j) Outside)
    pub others : (x : List ℕ) → is_late x ≡ true → NoPut x before

  -- a net before gate k may be read at a place where its gate, if it is inner, has the head of the place
  pub net-set : (place : Place) (k i : ℕ) (before : List Use) → At k before → k ≤ G → i < first_gate net + k
      → ((j h : ℕ) → i ≡ first_gate net + j → owner j ≡ Inner h → (c : ℕ) × (place ≡ Half c (head_name net h) true))
      → (is_among (net_name net i) p.locals ≡ false) ⊎ SetBy (net_name net i) place before
  net-set place k i before at few low same =
      net_cases net i (omega (arith, low, few))
      (λ input. inr (inl (subst (λ x. Contains before (Put x Outside)) (sym (net_name-input net i input)) (at.inputs i input))))
      (λ j state e. inl (ap (λ l. is_among (net_name net i) l) same_locals
      ∙ ap (λ x. is_among x (net_locals net)) (ap (net_name net) e ∙ net_name-state net j state)
      ∙ no_local-state net j))
      (λ j g e. inr (subst (λ x. SetBy x place before) (sym (ap (net_name net) e ∙ net_name-gate net j any_gate g))
      (by j e (owner j) refl (at.known j (omega (arith, low, e))))))
    where
      by : (j : ℕ) → i ≡ first_gate net + j → (o : Owner) → owner j ≡ o → Ready (owner j) (name j) before → SetBy (name j) place before
      by j e Free q r = inl (subst (λ o. Ready o (name j) before) q r)
      by j e (Inner h) q r =
          let t = subst (λ o. Ready o (name j) before) q r in
          let c = same j h e q in
          inr (inr (t.0, (head_name net h, (c.0, (c.1, t.1)))))
      by j e (Outer h) q r =
          let t = subst (λ o. Ready o (name j) before) q r in
          inr (inl (t.0, (head_name net h, t.1)))

  -- what gate k reads may be read at its place
  gate-reads : (place : Place) (k : ℕ) (before : List Use) → k < G
      → ((i : ℕ) → i < first_gate net + k → Reads (gate k).op i → (is_among (net_name net i) p.locals ≡ false) ⊎ SetBy (net_name net i) place before)
      → AllByRecursion (λ n. (is_among n p.locals ≡ false) ⊎ SetBy n place before) (names_in (gate_assign net k (gate k)).value)
  gate-reads place k before low f = read-names (λ n. (is_among n p.locals ≡ false) ⊎ SetBy n place before) (net_name net) (gate k).op
      (λ i r. f i (reads-low (gate k).op i (first_gate net + k) (gate-low net is k low) r) r)

  -- an inner gate that gate k reads has its head
  read-inner : (k i j h : ℕ) → k < G → Reads (gate k).op i → i < first_gate net + k → i ≡ first_gate net + j → owner j ≡ Inner h → head_of (owner k) ≡ Some h
  read-inner k i j h low r below e q =
      read-at (λ i. first_gate net + j ≡ i → head_of (owner k) ≡ Some h) (gate k).op i
      ((inner-uses net is region heads j h q).0 k (omega (arith, below, e)) low) r (sym e)

  -- ---- a gate of no head

  pub record Step (k : ℕ) (before uses : List Use) : Type 0 where
    pub passes : Both p before uses
    pub at : At k (behind before uses)

  free_gate : (k : ℕ) (before : List Use) → k < G → owner k ≡ Free → At k before → Step (k + 1) before (made_uses Outside (gate_assign net k (gate k)))
  free_gate k before low free at =
      let a = gate_assign net k (gate k) in
      record {
        passes = made-passes p Outside a before
            (gate-reads Outside k before low
            (λ i below r. net-set Outside k i before at (omega (arith, low)) below
            (λ j h e q. absurd (none-some h (sym (ap head_of free) ∙ read-inner k i j h low r below e q)))))
            (again-none p (name k) Outside (behind before (map (λ n. Taken n Outside) (names_in a.value)))
            (elsewhere-taken (name k) Outside Outside (names_in a.value) before (clear (name k) Outside before (at.fresh k (omega arith) low))));
        at = record {
          fresh = λ j l m. no-made (name j) Outside a before (apart-back k j (omega (arith, l)) m) (at.fresh j (omega (arith, l)) m);
          known = λ j l. ⊎_elim (λ b. ready-still (owner j) (name j) before (made_uses Outside a) (at.known j b))
              (λ b. let e : k ≡ j = omega (arith, b, l) in
              subst (λ m. Ready (owner m) (name m) (behind before (made_uses Outside a))) e
              (subst (λ o. Ready o (name k) (behind before (made_uses Outside a))) (sym free) (put-last Outside a before)))
              (cases_lt j k);
          inputs = λ j l. still before (made_uses Outside a) (Put (input_name j) Outside) (at.inputs j l);
          others = λ x late. no-made x Outside a before (late-apart x k late) (at.others x late);
        };
      }

  -- ---- the first half of a block, of gates from place n on

  module _ (h b n : ℕ) where
    abbrev t : List ℕ
    t = head_name net h

    record Mid (k : ℕ) (before : List Use) : Type 0 where
      fresh : (j : ℕ) → k ≤ j → j < G → NoPut (name j) before
      clears : (j : ℕ) → n ≤ j → j < G → list_any (is_put_elsewhere (name j) (Half b t false)) before ≡ false
      known : (j : ℕ) → j < n → Ready (owner j) (name j) before
      part : (j : ℕ) → n ≤ j → j < k → Contains before (Put (name j) (Half b t true))
      inputs : (j : ℕ) → j < length net.inputs → Contains before (Put (input_name j) Outside)
      others : (x : List ℕ) → is_late x ≡ true → NoPut x before

    -- what was put in this half is no other place for the second half
    half-clear : (x : List ℕ) (a : Assign) (before : List Use) → list_any (is_put_elsewhere x (Half b t false)) before ≡ false
        → list_any (is_put_elsewhere x (Half b t false)) (behind before (made_uses (Half b t true) a)) ≡ false
    half-clear x a before none =
        subst (λ us. list_any (is_put_elsewhere x (Half b t false)) us ≡ false)
        (sym (behind-append before (map (λ m. Taken m (Half b t true)) (names_in a.value)) (Put a.target (Half b t true) ∷ [])))
        (or_from (is_same_name x a.target && not (b == b)) _
        (ap (λ c. is_same_name x a.target && not c) (eq-eqb b b refl) ∙ and-no (is_same_name x a.target))
        (elsewhere-taken x (Half b t false) (Half b t true) (names_in a.value) before none))
      where
        and-no : (c : Bool) → (c && false) ≡ false
        and-no true = refl
        and-no false = refl

    -- what a member reads
    member-set : (k i : ℕ) (before : List Use) → k < G → n ≤ k → head_of (owner k) ≡ Some h → Mid k before → i < first_gate net + k → Reads (gate k).op i
        → (is_among (net_name net i) p.locals ≡ false) ⊎ SetBy (net_name net i) (Half b t true) before
    member-set k i before low from mine mid below r =
        net_cases net i (omega (arith, low, below))
        (λ input. inr (inl (subst (λ x. Contains before (Put x Outside)) (sym (net_name-input net i input)) (mid.inputs i input))))
        (λ j state e. inl (ap (λ l. is_among (net_name net i) l) same_locals
        ∙ ap (λ x. is_among x (net_locals net)) (ap (net_name net) e ∙ net_name-state net j state)
        ∙ no_local-state net j))
        (λ j g e. inr (subst (λ x. SetBy x (Half b t true) before) (sym (ap (net_name net) e ∙ net_name-gate net j any_gate g))
        (⊎_elim (λ l. earlier j e (owner j) refl (mid.known j l))
        (λ l. inr (inr (b, (t, (b, (refl, mid.part j l (omega (arith, below, e)))))))) (cases_lt j n))))
      where
        earlier : (j : ℕ) → i ≡ first_gate net + j → (o : Owner) → owner j ≡ o → Ready (owner j) (name j) before → SetBy (name j) (Half b t true) before
        earlier j e Free q ready = inl (subst (λ o. Ready o (name j) before) q ready)
        earlier j e (Inner i') q ready =
            let own = subst (λ o. Ready o (name j) before) q ready in
            let same : i' ≡ h = same_Some i' h (sym (read-inner k i j i' low r below e q) ∙ mine) in
            inr (inr (own.0, (head_name net i', (b, (ap (λ m. Half b (head_name net m) true) (sym same), own.1)))))
        earlier j e (Outer i') q ready =
            let own = subst (λ o. Ready o (name j) before) q ready in
            inr (inl (own.0, (head_name net i', own.1)))

    record MidStep (k : ℕ) (before uses : List Use) : Type 0 where
      passes : Both p before uses
      mid : Mid k (behind before uses)

    member : (k : ℕ) (before : List Use) → k < G → n ≤ k → head_of (owner k) ≡ Some h → Mid k before
        → MidStep (k + 1) before (made_uses (Half b t true) (gate_assign net k (gate k)))
    member k before low from mine mid =
        let a = gate_assign net k (gate k) in
        record {
          passes = made-passes p (Half b t true) a before
              (gate-reads (Half b t true) k before low (λ i below r. member-set k i before low from mine mid below r))
              (again-none p (name k) (Half b t true) (behind before (map (λ m. Taken m (Half b t true)) (names_in a.value)))
              (elsewhere-taken (name k) (Half b t true) (Half b t true) (names_in a.value) before
              (clear (name k) (Half b t true) before (mid.fresh k (omega arith) low))));
          mid = record {
            fresh = λ j l m. no-made (name j) (Half b t true) a before (apart-back k j (omega (arith, l)) m) (mid.fresh j (omega (arith, l)) m);
            clears = λ j l m. half-clear (name j) a before (mid.clears j l m);
            known = λ j l. ready-still (owner j) (name j) before (made_uses (Half b t true) a) (mid.known j l);
            part = λ j l m. ⊎_elim (λ o. still before (made_uses (Half b t true) a) (Put (name j) (Half b t true)) (mid.part j l o))
                (λ o. let e : k ≡ j = omega (arith, o, m) in
                subst (λ i. Contains (behind before (made_uses (Half b t true) a)) (Put (name i) (Half b t true))) e (put-last (Half b t true) a before))
                (cases_lt j k);
            inputs = λ j l. still before (made_uses (Half b t true) a) (Put (input_name j) Outside) (mid.inputs j l);
            others = λ x late. no-made x (Half b t true) a before (late-apart x k late) (mid.others x late);
          };
        }

    head-with : (i : ℕ) (c : Bool) → head_of (owner_with i c) ≡ Some i
    head-with i true = refl
    head-with i false = refl

    members : (k : ℕ) (ms : List Member) (before : List Use) → k + length ms ≤ G → n ≤ k → AreMembers gate owner h k ms → Mid k before
        → MidStep (k + length ms) before (flat_map (made_uses (Half b t true)) (map (member_assign net) ms))
    members k [] before few from are mid = record { passes = (tt, tt); mid = subst (λ j. Mid j before) (omega arith) mid }
    members k (m ∷ ms) before few from are mid =
        let place = are.0 in
        let here : member_assign net m ≡ gate_assign net k (gate k) = ap (λ j. gate_assign net j m.gate) place ∙ ap (gate_assign net k) are.1 in
        let one = subst (λ a. MidStep (k + 1) before (made_uses (Half b t true) a)) (sym here)
        (member k before (omega (arith, few)) from (ap head_of are.2 ∙ head-with h m.shown) mid) in
        let us = made_uses (Half b t true) (member_assign net m) in
        let rest = members (k + 1) ms (behind before us) (omega (arith, few)) (omega (arith, from)) are.3 one.mid in
        let more = flat_map (made_uses (Half b t true)) (map (member_assign net) ms) in
        let s : k + 1 + length ms ≡ k + suc (length ms) = omega arith in
        record {
          passes = both-append p before us more one.passes rest.passes;
          mid = subst (λ j. Mid j (behind before (us ++ more))) s
              (subst (λ x. Mid (k + 1 + length ms) x) (sym (behind-append before us more)) rest.mid);
        }

    -- ---- the second half

    member-heads : (k : ℕ) (ms : List Member) → AreMembers gate owner h k ms → (j : ℕ) → k ≤ j → j < k + length ms → head_of (owner j) ≡ Some h
    member-heads k [] are j l m = absurd (omega (arith, l, m))
    member-heads k (x ∷ ms) are j l m = ⊎_elim
        (λ o. let e : k ≡ j = omega (arith, o, l) in
        subst (λ i. head_of (owner i) ≡ Some h) e (ap head_of are.2 ∙ head-with h x.shown))
        (λ o. member-heads (k + 1) ms are.3 j o (omega (arith, m)))
        (cases_lt j (k + 1))

    record Zeros (k count : ℕ) (before uses : List Use) : Type 0 where
      passes : Both p before uses
      fresh : (x : List ℕ) → ((j : ℕ) → k ≤ j → j < k + count → is_same_name x (name j) ≡ false) → NoPut x before → NoPut x (behind before uses)
      zeros : (j : ℕ) → k ≤ j → j < k + count → owner j ≡ Outer h → Contains (behind before uses) (Put (name j) (Half b t false))

    abbrev zero_uses : List Member → List Use
    zero_uses ms = flat_map (made_uses (Half b t false)) (map zero_assign (filter (λ m. m.shown) ms))

    zeros_pass : (k : ℕ) (ms : List Member) (before : List Use) → k + length ms ≤ G → AreMembers gate owner h k ms
        → ((j : ℕ) → k ≤ j → j < G → list_any (is_put_elsewhere (name j) (Half b t false)) before ≡ false)
        → Zeros k (length ms) before (zero_uses ms)
    zeros_pass k [] before few are clears = record { passes = (tt, tt); fresh = λ x f none. none; zeros = λ j l m e. absurd (omega (arith, l, m)) }
    zeros_pass k (m ∷ ms) before few are clears =
        by (λ before2 clears2. zeros_pass (k + 1) ms before2 (omega (arith, few)) are.3 clears2) m.shown refl
      where
        by : ((before2 : List Use) → ((j : ℕ) → k + 1 ≤ j → j < G → list_any (is_put_elsewhere (name j) (Half b t false)) before2 ≡ false)
            → Zeros (k + 1) (length ms) before2 (zero_uses ms)) → (c : Bool) → m.shown ≡ c → Zeros k (suc (length ms)) before (zero_uses (m ∷ ms))
        by later false e =
            let rest = later before (λ j l o. clears j (omega (arith, l)) o) in
            subst (λ c. Zeros k (suc (length ms)) before (flat_map (made_uses (Half b t false)) (map zero_assign (if c then m ∷ filter (λ m. m.shown) ms
            else filter (λ m. m.shown) ms)))) (sym e) (record {
              passes = rest.passes;
              fresh = λ x f none. rest.fresh x (λ j l o. f j (omega (arith, l)) (omega (arith, o))) none;
              zeros = λ j l o q. ⊎_elim
                  (λ d. let same : k ≡ j = omega (arith, d, l) in
                  let wrong : Inner h ≡ Outer h = sym (are.2 ∙ ap (owner_with h) e) ∙ ap owner same ∙ q in cc)
                  (λ d. rest.zeros j d (omega (arith, o)) q) (cases_lt j (k + 1));
            })
        by later true e =
            let place = Half b t false in
            let here : zero_assign m ≡ zero_assign (record { place = k; gate = gate k; shown = true })
            = ap (λ i. zero_assign (record { place = i; gate = m.gate; shown = true })) are.0
            ∙ ap (λ g. zero_assign (record { place = k; gate = g; shown = true })) are.1 in
            let next = Put (name k) place ∷ before in
            let rest = later next
            (λ j l o. or_from (is_same_name (name j) (name k) && true) _
            (and-same (is_same_name (name j) (name k)) ∙ apart-back k j (omega (arith, l)) o) (clears j (omega (arith, l)) o)) in
            subst (λ c. Zeros k (suc (length ms)) before (flat_map (made_uses place) (map zero_assign (if c then m ∷ filter (λ m. m.shown) ms
            else filter (λ m. m.shown) ms)))) (sym e)
            (subst (λ a. Zeros k (suc (length ms)) before (made_uses place a ++ zero_uses ms)) (sym here) (record {
              passes = ((again-none p (name k) place before (clears k (omega arith) (omega (arith, few))), rest.passes.0), (refl, rest.passes.1));
              fresh = λ x f none. rest.fresh x (λ j l o. f j (omega (arith, l)) (omega (arith, o)))
                  (or_from (is_same_name x (name k) && true) _ (and-same (is_same_name x (name k)) ∙ f k (omega arith) (omega arith)) none);
              zeros = λ j l o q. ⊎_elim
                  (λ d. let same : k ≡ j = omega (arith, d, l) in
                  subst (λ i. Contains (behind next (zero_uses ms)) (Put (name i) place)) same
                  (still next (zero_uses ms) (Put (name k) place) (0, omega arith, refl)))
                  (λ d. rest.zeros j d (omega (arith, o)) q) (cases_lt j (k + 1));
            }))
          where
            and-same : (c : Bool) → (c && true) ≡ c
            and-same true = refl
            and-same false = refl

    -- ---- a whole block

    abbrev block_uses : List Member → List Use
    block_uses ms = Tested t ∷ (flat_map (made_uses (Half b t true)) (map (member_assign net) ms) ++ zero_uses ms)

    block : (ms : List Member) (before : List Use) → 0 < length ms → n + length ms ≤ G → AreMembers gate owner h n ms → At n before
        → Step (n + length ms) before (block_uses ms)
    block ms before some few are at =
        let mine = member-heads n ms are n (omega arith) (omega (arith, some)) in
        let head = head-facts net is region heads n h mine in
        let put : Contains before (Put (name h) Outside) = subst (λ o. Ready o (name h) before) head.1 (at.known h head.0) in
        let same : t ≡ name h = sym (head-net net h (omega (arith, head.0, few, some))) ∙ net_name-gate net h any_gate (omega (arith, head.0, few, some)) in
        let tested : list_any (is_put_where t is_outside) before ≡ true
        = any-of (is_put_where t is_outside) before (Put (name h) Outside) put
        (ap (λ x. is_same_name x (name h) && true) same ∙ ap (λ c. c && true) (same_name-self (name h))) in
        let before1 = Tested t ∷ before in
        let mid : Mid n before1 = record {
          fresh = at.fresh;
          clears = λ j l m. clear (name j) (Half b t false) before (at.fresh j l m);
          known = λ j l. ready-still (owner j) (name j) before (Tested t ∷ []) (at.known j l);
          part = λ j l m. absurd (omega (arith, l, m));
          inputs = λ j l. still before (Tested t ∷ []) (Put (input_name j) Outside) (at.inputs j l);
          others = at.others;
        } in
        let us = flat_map (made_uses (Half b t true)) (map (member_assign net) ms) in
        let first = members n ms before1 few (omega arith) are mid in
        let before2 = behind before1 us in
        let last = zeros_pass n ms before2 few are first.mid.clears in
        let whole : behind before1 (us ++ zero_uses ms) ≡ behind before2 (zero_uses ms) = behind-append before1 us (zero_uses ms) in
        let both = both-append p before1 us (zero_uses ms) first.passes last.passes in
        record {
          passes = ((refl, both.0), (ap not tested, both.1));
          at = subst (At (n + length ms)) (sym whole) (record {
            fresh = λ j l m. last.fresh (name j) (λ i u v. apart-back i j (omega (arith, v, l)) m) (first.mid.fresh j l m);
            known = λ j l. ⊎_elim (λ o. ready-still (owner j) (name j) before2 (zero_uses ms) (first.mid.known j o))
                (λ o. ready (behind before2 (zero_uses ms)) j (owner j) refl (member-heads n ms are j o l)
                (still before2 (zero_uses ms) (Put (name j) (Half b t true)) (first.mid.part j o l)) (λ q. last.zeros j o l q))
                (cases_lt j n);
            inputs = λ j l. still before2 (zero_uses ms) (Put (input_name j) Outside) (first.mid.inputs j l);
            others = λ x late. last.fresh x (λ i u v. late-apart x i late) (first.mid.others x late);
          });
        }
      where
        ready : (us : List Use) (j : ℕ) (o : Owner) → owner j ≡ o → head_of (owner j) ≡ Some h → Contains us (Put (name j) (Half b t true))
            → (owner j ≡ Outer h → Contains us (Put (name j) (Half b t false))) → Ready (owner j) (name j) us
        ready us j Free e head first second = absurd (none-some h (sym (ap head_of e) ∙ head))
        ready us j (Inner i) e head first second =
            let same : i ≡ h = same_Some i h (sym (ap head_of e) ∙ head) in
            subst (λ o. Ready o (name j) us) (sym (e ∙ ap Inner same)) (b, first)
        ready us j (Outer i) e head first second =
            let same : i ≡ h = same_Some i h (sym (ap head_of e) ∙ head) in
            let is_outer : owner j ≡ Outer h = e ∙ ap Outer same in
            subst (λ o. Ready o (name j) us) (sym is_outer) (b, (first, second is_outer))

  -- ---- all groups

  joined : (k m c d : ℕ) (before us more : List Use) → m ≡ k + c → Step m before us → Step (m + d) (behind before us) more
      → Step (k + (c + d)) before (us ++ more)
  joined k m c d before us more e one rest =
      let s : m + d ≡ k + (c + d) = omega (arith, e) in
      record {
        passes = both-append p before us more one.passes rest.passes;
        at = subst (λ j. At j (behind before (us ++ more))) s (subst (At (m + d)) (sym (behind-append before us more)) rest.at);
      }

  pub groups-pass : (k b : ℕ) (gs : List Group) (before : List Use) → AreGroups gate owner k gs → k + gate_count gs ≤ G → At k before
      → Step (k + gate_count gs) before (piece_uses made_uses b (map (group_piece net) gs))
  groups-pass k b [] before are few at = record { passes = (tt, tt); at = subst (λ j. At j before) (omega arith) at }
  groups-pass k b (Single j g ∷ gs) before are few at =
      let here : gate_assign net j g ≡ gate_assign net k (gate k) = ap (λ i. gate_assign net i g) are.0 ∙ ap (gate_assign net k) are.1 in
      let one = subst (λ a. Step (k + 1) before (made_uses Outside a)) (sym here) (free_gate k before (omega (arith, few)) are.2 at) in
      let us = made_uses Outside (gate_assign net j g) in
      let rest = groups-pass (k + 1) (b + 1) gs (behind before us) are.3 (omega (arith, few)) one.at in
      joined k (k + 1) 1 (gate_count gs) before us (piece_uses made_uses (b + 1) (map (group_piece net) gs)) refl one rest
  groups-pass k b (Run h ms ∷ gs) before are few at =
      let one = block h b k ms before are.0 (omega (arith, few)) are.1 at in
      let us = block_uses h b k ms in
      let rest = groups-pass (k + length ms) (b + 1) gs (behind before us) are.2 (omega (arith, few)) one.at in
      let more = piece_uses made_uses (b + 1) (map (group_piece net) gs) in
      joined k (k + length ms) (length ms) (gate_count gs) before us more refl one rest
