-- The wires of a graph by number: its instances' runs, one after another, and so where the ends of each stand.
use Rattle.std.proofs.Common.{◌≡◌, ℕ, ◌+◌, ◌-◌, ◌<◌, ◌≤◌, zero, suc, Bool, true, false, not, List, [], ◌∷◌, ◌++◌, length, map, take}
use Rattle.std.proofs.Common.{refl, sym, ap, ◌∙◌, subst, arith, append_assoc}
use Rattle.std.specs.Prelude.{All, IsTrue, Contains, if◌then◌else◌}
use Rattle.std.specs.List.{flat_map, range_with_len}
use Rattle.std.proofs.lemmas.Bool.{ne_eqb, lt-ltb, ltb-true}
use Rattle.std.proofs.lemmas.List.{length-map, append-nil, map-append, take_all, take_more}
use Rattle.std.proofs.lemmas.List.Concat.{flat_map-append}
use Rattle.std.proofs.lemmas.Simd.{map-map}
use Rattle.std.proofs.lemmas.List.Elements.{All-nil, All-cons, All-head, All-tail, All-append, All-map}
use Rattle.est_kernel.specs.Plain.{Program, program_of, outgoing_count}
use Rattle.grc_graph.specs.declared.graph.Graph.{Graph}
use Rattle.grc_graph.specs.declared.wires.Wire.{Wire}
use Rattle.grc_graph.specs.declared.wires.Wire.TheVariants as wires
use Rattle.grc_graph.specs.GraphShapes.{wire_fits}
use Rattle.grc_graph.specs.Instances as plain
use Rattle.grc_graph.specs.Layers.{Resumed}
use Rattle.grc_graph.specs.Layouts.{has_status, laid_wires}
use Rattle.grc_graph.specs.PlainGraphs.{instance_at, instances_of, names_of, wire_of}
use Rattle.grc_graph.specs.PlainInstances.{instance_of}
use Rattle.grc_graph.specs.Rows.{row_at, program_rows}
use Rattle.grc_graph.specs.WireTables.{wire_run}
use Rattle.grc_graph.specs.Wires as names
use Rattle.grc_graph.specs.Wires.{listed, instance_codes}
use Rattle.grc_graph.proofs.Exports.{outs_of, place_once}
use Rattle.grc_formulas.specs.EndLists.{is_no_end_of}

-- ---- the lists that the definition has

-- the codes of an instance, and its wires
abbrev pub codes_at : Program → List plain.Instance → ℕ → ℕ → Bool
codes_at p insts i = instance_codes (row_at (program_rows p) (instance_at insts i).path).statement (instance_at insts i).layer

-- whether its status is among these wires
abbrev pub status_at : List names.Wire → List plain.Instance → ℕ → Bool
status_at ns insts i = has_status ns (instance_at insts i).path (instance_at insts i).layer

-- the outgoing signals' wires, and those of so many instances
abbrev wires_to : Program → List names.Wire → List plain.Instance → ℕ → List Wire
wires_to p ns insts zero = map (λ s. wires.Out (record { 0 = s })) (range_with_len p.inputs (outgoing_count p))
wires_to p ns insts (suc i) = wires_to p ns insts i ++ wire_run (status_at ns insts i) (codes_at p insts i) i

abbrev own_run : Bool → ℕ → List Wire
own_run b i = if b then wires.Local (record { 0 = i }) ∷ [] else []

abbrev end_run : (ℕ → Bool) → ℕ → List Wire
end_run A i = map (λ k. wires.End (record { 0 = i }) k) (listed A)

-- ---- their names

own-names : (insts : List plain.Instance) (b : Bool) (i : ℕ)
    → map (wire_of insts) (own_run b i) ≡ (if b then names.StatusOf (instance_at insts i).path (instance_at insts i).layer ∷ [] else [])
own-names insts true i = refl
own-names insts false i = refl

run-names : (p : Program) (ns : List names.Wire) (insts : List plain.Instance) (i : ℕ)
    → map (wire_of insts) (wire_run (status_at ns insts i) (codes_at p insts i) i) ≡ laid_wires p ns (instance_at insts i)
run-names p ns insts i =
    let x = instance_at insts i in
    let own = own-names insts (status_at ns insts i) i in
    let ends = map-map (wire_of insts) (λ k. wires.End (record { 0 = i }) k) (listed (codes_at p insts i)) in
    ap (λ l. names.Go x.path x.layer ∷ l)
    (map-append (wire_of insts) (own_run (status_at ns insts i) i) (end_run (codes_at p insts i) i) ∙ λ t. own t ++ ends t)

names-to : (p : Program) (ns : List names.Wire) (insts : List plain.Instance) (i : ℕ) → i ≤ length insts
    → map (wire_of insts) (wires_to p ns insts i) ≡ outs_of p ++ flat_map (laid_wires p ns) (take i insts)
names-to p ns insts zero h =
    map-map (wire_of insts) (λ s. wires.Out (record { 0 = s })) (range_with_len p.inputs (outgoing_count p)) ∙ sym (append-nil (outs_of p))
names-to p ns insts (suc i) h =
    let F = laid_wires p ns in
    let x = instance_at insts i in
    let next : i + 1 ≡ suc i = omega arith in
    let more : flat_map F (take i insts) ++ F x ≡ flat_map F (take (i + 1) insts) =
    ap (λ l. flat_map F (take i insts) ++ l) (sym (append-nil (F x))) ∙ sym (flat_map-append F (take i insts) (x ∷ []))
    ∙ ap (flat_map F) (sym (take_more insts i (record { path = 0; layer = Resumed }) (omega arith))) in
    map-append (wire_of insts) (wires_to p ns insts i) (wire_run (status_at ns insts i) (codes_at p insts i) i)
    ∙ (λ t. names-to p ns insts i (omega arith) t ++ run-names p ns insts i t)
    ∙ append_assoc (outs_of p) (flat_map F (take i insts)) (F x)
    ∙ ap (λ l. outs_of p ++ l) (more ∙ ap (λ k. flat_map F (take k insts)) next)

fits-if : (n : ℕ) (b : Bool) (i : ℕ) → i < n → All (λ w. IsTrue (wire_fits n w)) (if b then wires.Local (record { 0 = i }) ∷ [] else [])
fits-if n true i h = All-cons (λ w. IsTrue (wire_fits n w)) (wires.Local (record { 0 = i })) [] (lt-ltb i n h) (All-nil (λ w. IsTrue (wire_fits n w)))
fits-if n false i h = All-nil (λ w. IsTrue (wire_fits n w))

run-fits : (n : ℕ) (b : Bool) (A : ℕ → Bool) (i : ℕ) → i < n → All (λ w. IsTrue (wire_fits n w)) (wire_run b A i)
run-fits n b A i h =
    All-cons (λ w. IsTrue (wire_fits n w)) (wires.Go (record { 0 = i })) (own_run b i ++ end_run A i) (lt-ltb i n h)
    (All-append (λ w. IsTrue (wire_fits n w)) (own_run b i) (end_run A i) (fits-if n b i h)
    (All-map (λ w. IsTrue (wire_fits n w)) (λ k. wires.End (record { 0 = i }) k) (listed A) (λ k d low. lt-ltb i n h)))

all-fit : (p : Program) (ns : List names.Wire) (insts : List plain.Instance) (n i : ℕ) → i ≤ n → All (λ w. IsTrue (wire_fits n w)) (wires_to p ns insts i)
all-fit p ns insts n zero h =
    All-map (λ w. IsTrue (wire_fits n w)) (λ s. wires.Out (record { 0 = s })) (range_with_len p.inputs (outgoing_count p)) (λ k d low. refl)
all-fit p ns insts n (suc i) h =
    All-append (λ w. IsTrue (wire_fits n w)) (wires_to p ns insts i) (wire_run (status_at ns insts i) (codes_at p insts i) i)
    (all-fit p ns insts n i (omega arith))
    (run-fits n (status_at ns insts i) (codes_at p insts i) i (omega arith))

-- ---- a name is that of one wire

abbrev Apart : List plain.Instance → Type 0
Apart insts = (i j : ℕ) → i < length insts → j < length insts → instance_at insts i ≡ instance_at insts j → i ≡ j

same-instance : (insts : List plain.Instance) (i j : ℕ) → (instance_at insts i).path ≡ (instance_at insts j).path
    → (instance_at insts i).layer ≡ (instance_at insts j).layer → instance_at insts i ≡ instance_at insts j
same-instance insts i j p l = λ t. record { path = p t; layer = l t }

one-wire : (insts : List plain.Instance) → Apart insts → (u w : Wire) → IsTrue (wire_fits (length insts) u) → IsTrue (wire_fits (length insts) w)
    → wire_of insts u ≡ wire_of insts w → u ≡ w
one-wire insts apart (wires.Go i) (wires.Go j) f h e =
    let same = apart i.0 j.0 (ltb-true i.0 (length insts) f) (ltb-true j.0 (length insts) h) (same-instance insts i.0 j.0 (cc) (cc)) in
    λ t. wires.Go (record { 0 = same t })
one-wire insts apart (wires.Go i) (wires.End j c) f h e = absurd (cc)
one-wire insts apart (wires.Go i) (wires.Local j) f h e = absurd (cc)
one-wire insts apart (wires.Go i) (wires.Out s) f h e = absurd (cc)
one-wire insts apart (wires.End i c) (wires.Go j) f h e = absurd (cc)
one-wire insts apart (wires.End i c) (wires.End j d) f h e =
    let same = apart i.0 j.0 (ltb-true i.0 (length insts) f) (ltb-true j.0 (length insts) h) (same-instance insts i.0 j.0 (cc) (cc)) in
    let code : c ≡ d = cc in
    λ t. wires.End (record { 0 = same t }) (code t)
one-wire insts apart (wires.End i c) (wires.Local j) f h e = absurd (cc)
one-wire insts apart (wires.End i c) (wires.Out s) f h e = absurd (cc)
one-wire insts apart (wires.Local i) (wires.Go j) f h e = absurd (cc)
one-wire insts apart (wires.Local i) (wires.End j c) f h e = absurd (cc)
one-wire insts apart (wires.Local i) (wires.Local j) f h e =
    let same = apart i.0 j.0 (ltb-true i.0 (length insts) f) (ltb-true j.0 (length insts) h) (same-instance insts i.0 j.0 (cc) (cc)) in
    λ t. wires.Local (record { 0 = same t })
one-wire insts apart (wires.Local i) (wires.Out s) f h e = absurd (cc)
one-wire insts apart (wires.Out s) (wires.Go j) f h e = absurd (cc)
one-wire insts apart (wires.Out s) (wires.End j c) f h e = absurd (cc)
one-wire insts apart (wires.Out s) (wires.Local j) f h e = absurd (cc)
one-wire insts apart (wires.Out s) (wires.Out r) f h e = let same : s.0 ≡ r.0 = cc in λ t. wires.Out (record { 0 = same t })

one-list : (insts : List plain.Instance) → Apart insts → (us ws : List Wire) → All (λ w. IsTrue (wire_fits (length insts) w)) us
    → All (λ w. IsTrue (wire_fits (length insts) w)) ws → map (wire_of insts) us ≡ map (wire_of insts) ws → us ≡ ws
one-list insts apart [] [] f h e = refl
one-list insts apart [] (w ∷ ws) f h e = absurd (cc)
one-list insts apart (u ∷ us) [] f h e = absurd (cc)
one-list insts apart (u ∷ us) (w ∷ ws) f h e =
    let first : wire_of insts u ≡ wire_of insts w = cc in
    let rest : map (wire_of insts) us ≡ map (wire_of insts) ws = cc in
    let P = λ (x : Wire). IsTrue (wire_fits (length insts) x) in
    let one = one-wire insts apart u w (All-head P u us f) (All-head P w ws h) first in
    let more = one-list insts apart us ws (All-tail P u us f) (All-tail P w ws h) rest in
    λ t. one t ∷ more t

-- ---- the wires of a graph whose names are its program's

apart-of : (g : Graph) → Apart (instances_of g)
apart-of g i j low high same =
    let many = length-map g.instances.list.items instance_of in
    place_once g.instances.list.items i j g.tables.ascend (omega arith) (omega arith) same

wires-are : (g : Graph) → g.wires.items ≡ wires_to (program_of g.program) (names_of g) (instances_of g) (length (instances_of g))
wires-are g =
    let p = program_of g.program in
    let I = instances_of g in
    let N = length I in
    let ns = names_of g in
    let many = length-map g.instances.list.items instance_of in
    let fit : All (λ w. IsTrue (wire_fits N w)) g.wires.items = subst (λ n. All (λ w. IsTrue (wire_fits n w)) g.wires.items) (sym many) g.indices.wires_fit in
    let made = names-to p ns I N (omega arith) ∙ ap (λ xs. outs_of p ++ flat_map (laid_wires p ns) xs) (take_all N I (omega arith)) in
    one-list I (apart-of g) g.wires.items (wires_to p ns I N) fit (all-fit p ns I N N (omega arith)) (g.laid_out.names ∙ sym made)

-- ---- where ends stand

abbrev pub NoEndsOf : ℕ → List Wire → Type 0
NoEndsOf i ws = All (λ w. is_no_end_of i w ≡ true) ws

none-if : (i : ℕ) (b : Bool) (k : ℕ) → NoEndsOf i (if b then wires.Local (record { 0 = k }) ∷ [] else [])
none-if i true k =
    All-cons (λ w. is_no_end_of i w ≡ true) (wires.Local (record { 0 = k })) [] refl (All-nil (λ w. is_no_end_of i w ≡ true))
none-if i false k = All-nil (λ w. is_no_end_of i w ≡ true)

none-run : (i : ℕ) (b : Bool) (A : ℕ → Bool) (k : ℕ) → (k ≡ i → ⊥) → NoEndsOf i (wire_run b A k)
none-run i b A k other =
    All-cons (λ w. is_no_end_of i w ≡ true) (wires.Go (record { 0 = k })) (own_run b k ++ end_run A k) refl
    (All-append (λ w. is_no_end_of i w ≡ true) (own_run b k) (end_run A k) (none-if i b k)
    (All-map (λ w. is_no_end_of i w ≡ true) (λ c. wires.End (record { 0 = k }) c) (listed A) (λ j d low. ap not (ne_eqb k i other))))

none-before : (p : Program) (ns : List names.Wire) (insts : List plain.Instance) (i k : ℕ) → k ≤ i → NoEndsOf i (wires_to p ns insts k)
none-before p ns insts i zero h =
    All-map (λ w. is_no_end_of i w ≡ true) (λ s. wires.Out (record { 0 = s })) (range_with_len p.inputs (outgoing_count p)) (λ k d low. refl)
none-before p ns insts i (suc k) h =
    All-append (λ w. is_no_end_of i w ≡ true) (wires_to p ns insts k) (wire_run (status_at ns insts k) (codes_at p insts k) k)
    (none-before p ns insts i k (omega arith))
    (none-run i (status_at ns insts k) (codes_at p insts k) k (λ e. absurd (omega arith)))

-- the wires of later instances
record Later (p : Program) (ns : List names.Wire) (insts : List plain.Instance) (i count : ℕ) : Type 0 where
  rest : List Wire
  whole : wires_to p ns insts count ≡ wires_to p ns insts (suc i) ++ rest
  none : NoEndsOf i rest

later : (p : Program) (ns : List names.Wire) (insts : List plain.Instance) (i more count : ℕ) → count ≡ suc i + more → Later p ns insts i count
later p ns insts i zero count e =
    let same : count ≡ suc i = omega arith in
    record { rest = []; whole = ap (wires_to p ns insts) same ∙ sym (append-nil (wires_to p ns insts (suc i))); none = All-nil (λ w. is_no_end_of i w ≡ true) }
later p ns insts i (suc more) zero e = absurd (omega arith)
later p ns insts i (suc more) (suc count) e =
    let r = later p ns insts i more count (omega arith) in
    let run = wire_run (status_at ns insts count) (codes_at p insts count) count in
    record {
      rest = r.rest ++ run;
      whole = ap (λ ws. ws ++ run) r.whole ∙ append_assoc (wires_to p ns insts (suc i)) r.rest run;
      none = All-append (λ w. is_no_end_of i w ≡ true) r.rest run r.none
          (none-run i (status_at ns insts count) (codes_at p insts count) count (λ q. absurd (omega arith)));
    }

pub record EndsAt (g : Graph) (i : ℕ) : Type 0 where
  pub front : List Wire
  pub behind : List Wire
  pub whole : g.wires.items
      ≡ front ++ (map (λ c. wires.End (record { 0 = i }) c) (listed (codes_at (program_of g.program) (instances_of g) i)) ++ behind)
  pub none_before : NoEndsOf i front
  pub none_behind : NoEndsOf i behind

pub ends-at : (g : Graph) (i : ℕ) → i < length (instances_of g) → EndsAt g i
ends-at g i low =
    let p = program_of g.program in
    let I = instances_of g in
    let N = length I in
    let ns = names_of g in
    let r = later p ns I i (N - suc i) N (omega arith) in
    let b = status_at ns I i in
    let A = codes_at p I i in
    let own : List Wire = if b then wires.Local (record { 0 = i }) ∷ [] else [] in
    let ends = map (λ c. wires.End (record { 0 = i }) c) (listed A) in
    let before = wires_to p ns I i in
    let head : List Wire = wires.Go (record { 0 = i }) ∷ own in
    record {
      front = before ++ head;
      behind = r.rest;
      whole = wires-are g ∙ r.whole
          ∙ ap (λ ws. ws ++ r.rest) (sym (append_assoc before head ends)) ∙ append_assoc (before ++ head) ends r.rest;
      none_before = All-append (λ w. is_no_end_of i w ≡ true) before head (none-before p ns I i i (omega arith))
          (All-cons (λ w. is_no_end_of i w ≡ true) (wires.Go (record { 0 = i })) own refl (none-if i b i));
      none_behind = r.none;
    }

-- a wire of this name is that one
pub end-among : (g : Graph) (i c : ℕ) (w : Wire) → i < length (instances_of g)
    → Contains g.wires.items w → wire_of (instances_of g) w ≡ wire_of (instances_of g) (wires.End (record { 0 = i }) c) → w ≡ wires.End (record { 0 = i }) c
end-among g i c w low there e =
    let many = length-map g.instances.list.items instance_of in
    let fit : IsTrue (wire_fits (length g.instances.list.items) w) =
    subst (λ x. IsTrue (wire_fits (length g.instances.list.items) x)) there.2 (g.indices.wires_fit there.0 w there.1) in
    one-wire (instances_of g) (apart-of g) w (wires.End (record { 0 = i }) c)
    (subst (λ n. IsTrue (wire_fits n w)) (sym many) fit) (lt-ltb i (length (instances_of g)) low) e
