-- Where the wires of a shared graph's instances stand among its wires.
use Rattle.std.proofs.Common.{◌≡◌, ℕ, zero, suc, ◌+◌, ◌<◌, ◌≤◌, Bool, true, List, length, map, get_or, refl, sym, ap, ◌∙◌, subst, ⊎_elim, arith}
use Rattle.std.proofs.Common.{Option, Some, None}
use Rattle.std.specs.Prelude.{All, IsTrue, filter, slice_index}
use Rattle.std.proofs.lemmas.Bool.{cases_lt, eq-eqb, ltb-true}
use Rattle.std.proofs.lemmas.List.{get_or-map, length-map}
use Rattle.std.proofs.lemmas.List.Elements.{All-get_or}
use Rattle.est_kernel.specs.Plain.{program_of}
use Rattle.grc_graph.specs.declared.graph.Graph.{Graph}
use Rattle.grc_graph.specs.declared.instances.Instance as stored
use Rattle.grc_graph.specs.declared.wires.Wire as raws
use Rattle.grc_graph.specs.declared.wires.Wire.TheVariants as wires
use Rattle.grc_graph.specs.BuiltGraphs.{IsGraphOf}
use Rattle.grc_graph.specs.GraphShapes.{wire_fits}
use Rattle.grc_graph.specs.Instances.{Instance}
use Rattle.grc_graph.specs.Layers.{Resumed}
use Rattle.grc_graph.specs.PlainGraphs.{instance_at, instances_of, names_of, wire_at, wire_of}
use Rattle.grc_graph.specs.PlainInstances.{instance_of}
use Rattle.grc_graph.specs.Wires.{Wire, Out, Go, StatusOf, End}
use Rattle.grc_graph.specs.WireTables.{AreNeighbours, AreOutgoing, AreRuns, owner}
use Rattle.grc_graph.proofs.Exports.{first_instance, name_at, place_once}
use Rattle.grc_share.specs.Renamings.{is_named}
use Rattle.grc_share.specs.SharedGraphs.{shared_instances}
use Rattle.grc_share.specs.SharedInstances.{body_sharing}
use Rattle.grc_share.specs.SharedWires.{shared_wires}
use Rattle.grc_share.specs.Tables.{AreFirstWires}
use Rattle.grc_share.proofs.Ranks.{passing, rank, rank-all, rank-below, rank-few, rank-low, rank-more, rank-read, rank-rises, rank-within}
use Rattle.grc_share.proofs.SharedTables.{found, found-low, found-read, found-rises, shared-ascending, shared-few}
use Rattle.grc_share.proofs.WireRanks.{first-low, go-at, go-named, names-many, names_own, shared-filter}

-- ---- wires by name

-- the instance that a wire is of
abbrev owned : Wire → Option Instance
owned (Out s) = None
owned (Go n l) = Some (record { path = n; layer = l })
owned (StatusOf n l) = Some (record { path = n; layer = l })
owned (End n l k) = Some (record { path = n; layer = l })

owned-by : (insts : List Instance) (x : raws.Wire) (i : ℕ) → owner x ≡ Some i → owned (wire_of insts x) ≡ Some (instance_at insts i)
owned-by insts (wires.Go j) i e = let same : j.0 ≡ i = cc in ap (λ k. Some (instance_at insts k)) same
owned-by insts (wires.End j k) i e = let same : j.0 ≡ i = cc in ap (λ k. Some (instance_at insts k)) same
owned-by insts (wires.Local j) i e = let same : j.0 ≡ i = cc in ap (λ k. Some (instance_at insts k)) same
owned-by insts (wires.Out s) i e = absurd (cc)

abbrev some-or : Option Instance → Instance → Instance
some-or None d = d
some-or (Some x) d = x

record Owner (insts : List Instance) (x : raws.Wire) (y : Instance) : Type 0 where
  number : ℕ
  own : owner x ≡ Some number
  same : instance_at insts number ≡ y

owner-of : (insts : List Instance) (x : raws.Wire) (y : Instance) → owned (wire_of insts x) ≡ Some y → Owner insts x y
owner-of insts (wires.Go j) y e = record { number = j.0; own = refl; same = ap (λ o. some-or o y) e }
owner-of insts (wires.End j k) y e = record { number = j.0; own = refl; same = ap (λ o. some-or o y) e }
owner-of insts (wires.Local j) y e = record { number = j.0; own = refl; same = ap (λ o. some-or o y) e }
owner-of insts (wires.Out s) y e = absurd (cc)

record Starts (insts : List Instance) (x : raws.Wire) (y : Instance) : Type 0 where
  number : ℕ
  is : x ≡ wires.Go (record { 0 = number })
  same : instance_at insts number ≡ y

starts : (insts : List Instance) (x : raws.Wire) (y : Instance) → wire_of insts x ≡ Go y.path y.layer → Starts insts x y
starts insts (wires.Go j) y e = record { number = j.0; is = refl; same = ap instance-of e }
  where
    instance-of : Wire → Instance
    instance-of (Go n l) = record { path = n; layer = l }
    instance-of w = y
starts insts (wires.End j k) y e = absurd (cc)
starts insts (wires.Local j) y e = absurd (cc)
starts insts (wires.Out s) y e = absurd (cc)

is-out : (insts : List Instance) (x : raws.Wire) (s : ℕ) → wire_of insts x ≡ Out s → x ≡ wires.Out (record { 0 = s })
is-out insts (wires.Go j) s e = absurd (cc)
is-out insts (wires.End j k) s e = absurd (cc)
is-out insts (wires.Local j) s e = absurd (cc)
is-out insts (wires.Out t) s e = ap (λ k. wires.Out (record { 0 = k })) (number e)
  where
    number : Out t.0 ≡ Out s → t.0 ≡ s
    number e = cc

-- ---- a shared graph's wires

module _ (g : Graph) (built : IsGraphOf g (program_of g.program)) (list : List stored.Instance) (raw : List raws.Wire) (firsts : List ℕ)
    (same : map instance_of list ≡ shared_instances (program_of g.program))
    (named : map (wire_of (map instance_of list)) raw ≡ shared_wires (program_of g.program))
    (fits : All (λ w. IsTrue (wire_fits (length list) w)) raw) (h : AreFirstWires g firsts) where
  abbrev insts : List Instance
  insts = map instance_of list

  abbrev own : Wire → Bool
  own = names_own g built

  abbrev first : ℕ → ℕ
  first i = slice_index g.first_wires.items i

  many : length list ≡ length (shared_instances (program_of g.program))
  many = sym (length-map list instance_of) ∙ ap length same

  all : length raw ≡ length (shared_wires (program_of g.program))
  all = sym (length-map raw (wire_of insts)) ∙ ap length named

  all-own : length raw ≡ length (filter own (names_of g))
  all-own = all ∙ ap length (shared-filter g built)

  -- the name of a shared wire
  name-at : (k : ℕ) (d : raws.Wire) → k < length raw → wire_of insts (get_or raw k d) ≡ get_or (filter own (names_of g)) k (Go 0 Resumed)
  name-at k d l = sym (get_or-map (wire_of insts) raw k d (Go 0 Resumed) l) ∙ ap (λ us. wire_at us k) (named ∙ shared-filter g built)

  -- that of a wire of the graph
  given-name : (w : ℕ) (d : raws.Wire) → w < length (names_of g) → wire_of (instances_of g) (get_or g.wires.items w d) ≡ wire_at (names_of g) w
  given-name w d l = sym (get_or-map (wire_of (instances_of g)) g.wires.items w d (Go 0 Resumed) (omega (arith, names-many g built)))

  -- where a shared instance stands in the graph
  abbrev place : (i : ℕ) → i < length list → ℕ
  place i l = (found g built list same i l).place

  place-low : (i : ℕ) (l : i < length list) → place i l < length (instances_of g)
  place-low i l = (found g built list same i l).low

  place-same : (i : ℕ) (l : i < length list) → instance_at insts i ≡ instance_at (instances_of g) (place i l)
  place-same i l =
      name_at list i first_instance _ l ∙ found-read g built list same i l first_instance
      ∙ sym (name_at g.instances.list.items (place i l) first_instance _ (found-low g built list same i l))

  place-named : (i : ℕ) (l : i < length list) → is_named (body_sharing (program_of g.program).body) (instance_at (instances_of g) (place i l)) ≡ true
  place-named i l = (found g built list same i l).passes (record { path = 0; layer = Resumed })

  -- its first wire
  place-first : (i : ℕ) (l : i < length list) → slice_index firsts i ≡ rank own (names_of g) (first (place i l))
  place-first i l =
      ap (slice_index firsts) (sym (found g built list same i l).ranked) ∙ h.own (place i l) (place-low i l) (place-named i l)

  first-own : (i : ℕ) (l : i < length list) → own (wire_at (names_of g) (first (place i l))) ≡ true
  first-own i l = go-named g built (place i l) (place-low i l) (place-named i l)

  first-within : (i : ℕ) (l : i < length list) → first (place i l) < length (names_of g)
  first-within i l = first-low g built (place i l) (place-low i l)

  -- first wires rise with instances
  rise : (i j : ℕ) → i ≤ j → j ≤ length g.instances.list.items → first i ≤ first j
  rise i zero le l = let e : i ≡ 0 = omega arith in omega (arith, ap first e)
  rise i (suc j) le l =
      ⊎_elim (λ lt. let e : suc j ≡ j + 1 = omega arith in omega (arith, ap first e, rise i j (omega arith) (omega arith), g.tables.runs.runs j (omega arith)))
      (λ ge. let e : i ≡ suc j = omega arith in omega (arith, ap first e)) (cases_lt i (suc j))

  next-first : (i : ℕ) (l : i < length list) (m : i + 1 < length list) → first (place i l + 1) ≤ first (place (i + 1) m)
  next-first i l m =
      let up = found-rises g built list same i (i + 1) l m (omega arith) in
      rise (place i l + 1) (place (i + 1) m) (omega arith) (omega (arith, found-low g built list same (i + 1) m))

  -- the wire of a shared instance stands in the graph among those of the instance
  record OwnWire (k i : ℕ) (l : i < length list) : Type 0 where
    wire : ℕ
    low : wire < length (names_of g)
    passes : own (wire_at (names_of g) wire) ≡ true
    ranked : rank own (names_of g) wire ≡ k
    from : first (place i l) ≤ wire
    below : wire < first (place i l + 1)

  own-low : (k i : ℕ) (d : raws.Wire) → k < length raw → owner (get_or raw k d) ≡ Some i → i < length list
  own-low k i d l o = by (get_or raw k d) o (All-get_or (λ w. IsTrue (wire_fits (length list) w)) raw k d l fits)
    where
      by : (x : raws.Wire) → owner x ≡ Some i → IsTrue (wire_fits (length list) x) → i < length list
      by (wires.Go j) e f = let q : j.0 ≡ i = cc in omega (arith, ltb-true j.0 (length list) f)
      by (wires.End j c) e f = let q : j.0 ≡ i = cc in omega (arith, ltb-true j.0 (length list) f)
      by (wires.Local j) e f = let q : j.0 ≡ i = cc in omega (arith, ltb-true j.0 (length list) f)
      by (wires.Out s) e f = absurd (cc)

  own-wire : (k i : ℕ) (d : raws.Wire) (lk : k < length raw) (l : i < length list) → owner (get_or raw k d) ≡ Some i → OwnWire k i l
  own-wire k i d lk l o =
      let p = passing own (names_of g) k (omega (arith, all-own)) in
      let w = p.place in
      let read : get_or (filter own (names_of g)) k (Go 0 Resumed) ≡ wire_at (names_of g) w = p.read (Go 0 Resumed) (Go 0 Resumed) in
      let given = given-name w d p.low in
      let owns : owned (wire_of (instances_of g) (get_or g.wires.items w d)) ≡ Some (instance_at insts i) =
      ap owned (given ∙ sym read ∙ sym (name-at k d lk)) ∙ owned-by insts (get_or raw k d) i o in
      let here = owner-of (instances_of g) (get_or g.wires.items w d) (instance_at insts i) owns in
      let low : w < length g.wires.items = omega (arith, p.low, names-many g built) in
      let at : here.number ≡ place i l =
      place_once g.instances.list.items here.number (place i l) g.tables.ascend (g.tables.runs.own_in w here.number d low here.own)
      (found-low g built list same i l) (here.same ∙ place-same i l) in
      let own-at : owner (get_or g.wires.items w d) ≡ Some (place i l) = here.own ∙ ap Some at in
      record {
        wire = w;
        low = p.low;
        passes = p.passes (Go 0 Resumed);
        ranked = p.ranked;
        from = g.tables.runs.own_from w (place i l) d low own-at;
        below = g.tables.runs.own_below w (place i l) d low own-at;
      }

  -- the last instance, or another behind it
  by-next : (P : ℕ → Type 0) (i : ℕ) → i < length list → (i + 1 < length list → P (i + 1)) → P (length list) → P (i + 1)
  by-next P i l f last = ⊎_elim f (λ g. let e : length list ≡ i + 1 = omega arith in subst P e last) (cases_lt (i + 1) (length list))

  last-first : slice_index firsts (length list) ≡ length raw
  last-first = ap (slice_index firsts) many ∙ h.last ∙ sym all

  go-there : (i : ℕ) (d : raws.Wire) → i < length list → get_or raw (slice_index firsts i) d ≡ wires.Go (record { 0 = i })
  go-there i d l =
      let low : slice_index firsts i < length raw =
      omega (arith, place-first i l, rank-low own (names_of g) (first (place i l)) (Go 0 Resumed) (first-within i l) (first-own i l), all-own) in
      let x = get_or raw (slice_index firsts i) d in
      let y = instance_at insts i in
      let name : wire_of insts x ≡ Go y.path y.layer =
      name-at (slice_index firsts i) d low ∙ ap (λ k. get_or (filter own (names_of g)) k (Go 0 Resumed)) (place-first i l)
      ∙ rank-read own (names_of g) (first (place i l)) (Go 0 Resumed) (Go 0 Resumed) (first-within i l) (first-own i l)
      ∙ go-at g built (place i l) (place-low i l) ∙ sym (λ t. Go (place-same i l t).path (place-same i l t).layer) in
      let go = starts insts x y name in
      let fit : go.number < length list = own-low (slice_index firsts i) go.number d low (ap owner go.is) in
      let at : go.number ≡ i = place_once list go.number i (shared-ascending g built list same) fit l go.same in
      go.is ∙ ap (λ n. wires.Go (record { 0 = n })) at

  pub shared-runs : AreRuns (length list) raw firsts
  shared-runs = record {
    each = h.each ∙ sym (ap (λ n. n + 1) many);
    last = last-first;
    runs = λ i l.
        let low = rank-low own (names_of g) (first (place i l)) (Go 0 Resumed) (first-within i l) (first-own i l) in
        by-next (λ n. slice_index firsts i < slice_index firsts n) i l
        (λ m.
        let up = g.tables.runs.runs (place i l) (found-low g built list same i l) in
        omega (
          arith,
          place-first i l,
          place-first (i + 1) m,
          rank-below own (names_of g) (first (place i l)) (first (place (i + 1) m)) (Go 0 Resumed) (first-within i l) (first-own i l)
              (omega (arith, up, next-first i l m)),
        ))
        (omega (arith, place-first i l, low, last-first, all-own));
    within = λ i l. by-next (λ n. slice_index firsts n ≤ length raw) i l
        (λ m. omega (arith, place-first (i + 1) m, rank-within own (names_of g) (first (place (i + 1) m)), all-own)) (omega (arith, last-first));
    go = go-there;
    own_in = λ k i d l o. own-low k i d l o;
    own_from = λ k i d l o.
        let low = own-low k i d l o in
        let w = own-wire k i d l low o in
        omega (arith, place-first i low, w.ranked, rank-rises own (names_of g) (first (place i low)) w.wire w.from);
    own_below = λ k i d l o.
        let low = own-low k i d l o in
        let w = own-wire k i d l low o in
        by-next (λ n. k < slice_index firsts n) i low
        (λ m. omega (
          arith,
          place-first (i + 1) m,
          w.ranked,
          rank-below own (names_of g) w.wire (first (place (i + 1) m)) (Go 0 Resumed) w.low w.passes (omega (arith, w.below, next-first i low m)),
        ))
        (omega (arith, last-first, l));
  }

  -- ---- outgoing signals

  abbrev inputs : ℕ
  inputs = g.program.inputs

  abbrev outgoing : ℕ
  outgoing = g.program.both + g.program.outputs

  out-name : (k : ℕ) → k < outgoing → wire_at (names_of g) k ≡ Out (inputs + k)
  out-name k l =
      let d : raws.Wire = wires.Out (record { 0 = 0 }) in
      let low : k < length (names_of g) = omega (arith, g.tables.outs.within, names-many g built) in
      sym (given-name k d low) ∙ ap (wire_of (instances_of g)) (g.tables.outs.out k d l)

  out-own : (k : ℕ) → k < outgoing → own (wire_at (names_of g) k) ≡ true
  out-own k l = ap own (out-name k l) ∙ eq-eqb (inputs + k) (inputs + k) refl

  out-rank : (k : ℕ) → k ≤ outgoing → rank own (names_of g) k ≡ k
  out-rank zero l = omega (arith, rank-few own (names_of g) 0)
  out-rank (suc k) l =
      let low : k < length (names_of g) = omega (arith, g.tables.outs.within, names-many g built) in
      let e : suc k ≡ k + 1 = omega arith in
      ap (rank own (names_of g)) e ∙ rank-more own (names_of g) k (Go 0 Resumed) low (out-own k (omega arith)) ∙ ap (λ n. n + 1) (out-rank k (omega arith))
      ∙ sym e

  pub shared-outs : AreOutgoing inputs outgoing raw
  shared-outs = record {
    within = omega (arith, out-rank outgoing (omega arith), rank-within own (names_of g) outgoing, all-own);
    out = λ k d l.
        let low : k < length (names_of g) = omega (arith, g.tables.outs.within, names-many g built) in
        let here = rank-low own (names_of g) k (Go 0 Resumed) low (out-own k l) in
        let number = out-rank k (omega arith) in
        is-out insts (get_or raw k d) (inputs + k)
        (name-at k d (omega (arith, number, here, all-own)) ∙ ap (λ n. get_or (filter own (names_of g)) n (Go 0 Resumed)) (sym number)
        ∙ rank-read own (names_of g) k (Go 0 Resumed) (Go 0 Resumed) low (out-own k l) ∙ out-name k l);
    own_out = λ k s d l e.
        let p = passing own (names_of g) k (omega (arith, all-own)) in
        let name = given-name p.place d p.low ∙ sym (p.read (Go 0 Resumed) (Go 0 Resumed)) ∙ sym (name-at k d l) ∙ ap (wire_of insts) e in
        let low : p.place < length g.wires.items = omega (arith, p.low, names-many g built) in
        omega (
          arith,
          p.ranked,
          rank-few own (names_of g) p.place,
          g.tables.outs.own_out p.place s d low (is-out (instances_of g) (get_or g.wires.items p.place d) s name),
        );
  }

  pub shared-neighbours : AreNeighbours list raw firsts g.program.inputs (g.program.both + g.program.outputs)
  shared-neighbours = record {
    ascend = shared-ascending g built list same;
    few = omega (arith, all-own, rank-all own (names_of g), rank-few own (names_of g) (length (names_of g)), names-many g built, g.tables.few);
    few_instances = omega (arith, shared-few g built list same, g.tables.few_instances);
    interface = g.tables.interface;
    runs = shared-runs;
    outs = shared-outs;
  }
