-- Reads of tables of instances and wires: what a search finds, and that what it does not find is not there.
use Rattle.std.proofs.Common.{◌≡◌, ℕ, zero, suc, ◌+◌, ◌-◌, ◌<◌, ◌≤◌, ◌⊎◌, inl, inr, Bool, true, false, ◌==◌, ◌&&◌, List, [], ◌∷◌, length, map, get_or, refl}
use Rattle.std.proofs.Common.{sym, ap, ◌∙◌, subst, ⊎_elim, arith, Option, Some, None}
use Rattle.std.specs.Prelude.{nat_lt, slice_index, Contains, MatchOption, IsTrue}
use Rattle.std.specs.List.Sorted.{IsPartitionedBy}
use Rattle.std.proofs.lemmas.Bool.{cases_lt, and_parts, eq-eqb, eqb-true, lt-ltb, le-ltb, ltb-true, ltb-false, or_cases, false≢true, both_ways, cases_order}
use Rattle.std.proofs.lemmas.List.{length-map, get_or-map, get_or_default}
use Rattle.base_types.specs.declared.indices.WireId.{WireId}
use Rattle.grc_graph.specs.declared.instances.Instance.{Instance}
use Rattle.grc_graph.specs.declared.instances.Layer.TheVariants as layers
use Rattle.grc_graph.specs.declared.wires.Wire.{Wire}
use Rattle.grc_graph.specs.declared.wires.Wire.TheVariants as wires
use Rattle.grc_graph.specs.Layers.{Layer, Resumed, Started}
use Rattle.grc_graph.specs.Instances as plain
use Rattle.grc_graph.specs.Instances.{body_instances, Before, LayerBefore, Ascends}
use Rattle.grc_graph.specs.Layers.{body_liveness}
use Rattle.est_kernel.specs.Terms.{Term}
use Rattle.est_kernel.specs.Preorder.{statement_count}
use Rattle.grc_graph.proofs.LiveInstances.{instances_ascend_lem, instances_among}
use Rattle.grc_graph.specs.PlainInstances.{instance_of}
use Rattle.grc_graph.specs.PlainGraphs.{wire_of, instance_at}
use Rattle.grc_graph.specs.Wires as names
use Rattle.grc_graph.specs.GraphShapes.{wire_fits}
use Rattle.grc_graph.specs.WireTables.{IsNumberOf, HasName, layer_before, comes_before, owner, AreNeighbours, Ascending, SplitsAt}

-- ---- the order of instances

pub layer_before-self : (l : Layer) → layer_before l l ≡ false
layer_before-self Resumed = refl
layer_before-self (Started r) = le-ltb r r (omega arith)

pub comes_before-self : (x : plain.Instance) → comes_before x x ≡ false
comes_before-self x =
    let a : nat_lt x.path x.path ≡ false = le-ltb x.path x.path (omega arith) in
    let b : (x.path == x.path) ≡ true = eq-eqb x.path x.path refl in
    rw (a, b) (layer_before-self x.layer)

layer_before-trans : (k l m : Layer) → layer_before k l ≡ true → layer_before l m ≡ true → layer_before k m ≡ true
layer_before-trans Resumed Resumed m h g = absurd (false≢true h)
layer_before-trans Resumed (Started r) Resumed h g = absurd (false≢true g)
layer_before-trans Resumed (Started r) (Started s) h g = refl
layer_before-trans (Started q) Resumed m h g = absurd (false≢true h)
layer_before-trans (Started q) (Started r) Resumed h g = absurd (false≢true g)
layer_before-trans (Started q) (Started r) (Started s) h g =
    let a : q < r = ltb-true q r h in
    let b : r < s = ltb-true r s g in
    lt-ltb q s (omega arith)

layer_before-same : (k l : Layer) → layer_before k l ≡ false → layer_before l k ≡ false → k ≡ l
layer_before-same Resumed Resumed h g = refl
layer_before-same Resumed (Started r) h g = absurd (false≢true (sym h))
layer_before-same (Started q) Resumed h g = absurd (false≢true (sym g))
layer_before-same (Started q) (Started r) h g =
    let a : r ≤ q = ltb-false q r h in
    let b : q ≤ r = ltb-false r q g in
    ap Started (let e : q ≡ r = omega arith in e)

-- what it means to come before
abbrev pub Ahead : plain.Instance → plain.Instance → Type 0
Ahead x y = (x.path < y.path) ⊎ ((x.path ≡ y.path) × (layer_before x.layer y.layer ≡ true))

pub ahead : (x y : plain.Instance) → comes_before x y ≡ true → Ahead x y
ahead x y h = ⊎_elim (λ e. inl (ltb-true x.path y.path e))
    (λ e. let p = and_parts (x.path == y.path) (layer_before x.layer y.layer) e in inr (eqb-true x.path y.path p.0, p.1))
    (or_cases (nat_lt x.path y.path) (x.path == y.path && layer_before x.layer y.layer) h)

from_ahead : (x y : plain.Instance) → Ahead x y → comes_before x y ≡ true
from_ahead x y h = ⊎_elim
    (λ l. let a : nat_lt x.path y.path ≡ true = lt-ltb x.path y.path l in rw a refl)
    (λ l.
    let a : nat_lt x.path y.path ≡ false = le-ltb x.path y.path (omega (arith, l.0)) in
    let b : (x.path == y.path) ≡ true = eq-eqb x.path y.path l.0 in
    rw (a, b) l.1) h

pub comes_before-trans : (x y z : plain.Instance) → comes_before x y ≡ true → comes_before y z ≡ true → comes_before x z ≡ true
comes_before-trans x y z h g = from_ahead x z (⊎_elim
    (λ a. ⊎_elim (λ b. inl (omega (arith, a, b))) (λ b. inl (omega (arith, a, b.0))) (ahead y z g))
    (λ a. ⊎_elim (λ b. inl (omega (arith, a.0, b))) (λ b. inr (a.0 ∙ b.0, layer_before-trans x.layer y.layer z.layer a.1 b.1)) (ahead y z g))
    (ahead x y h))

not_ahead : (x y : plain.Instance) → comes_before x y ≡ false → Ahead x y → ⊥
not_ahead x y h a = both_ways (comes_before x y) h (from_ahead x y a)

pub comes_before-same : (x y : plain.Instance) → comes_before x y ≡ false → comes_before y x ≡ false → x ≡ y
comes_before-same x y h g = ⊎_elim
    (λ e.
    let k : layer_before x.layer y.layer ≡ false = to_false _ (λ t. not_ahead x y h (inr (e, t))) in
    let l : layer_before y.layer x.layer ≡ false = to_false _ (λ t. not_ahead y x g (inr (sym e, t))) in
    let m = layer_before-same x.layer y.layer k l in
    λ i. record { path = e i; layer = m i })
    (λ d. ⊎_elim (λ l. absurd (not_ahead x y h (inl l))) (λ l. absurd (not_ahead y x g (inl l))) d)
    (cases_order x.path y.path)
  where
    to_false : (b : Bool) → (b ≡ true → ⊥) → b ≡ false
    to_false true h = absurd (h refl)
    to_false false h = refl

-- ---- instances that ascend

pub name_at : (insts : List Instance) (i : ℕ) (d : Instance) (e : plain.Instance) → i < length insts →
    get_or (map instance_of insts) i e ≡ instance_of (get_or insts i d)
name_at insts i d e h = get_or-map instance_of insts i d e h

pub partitioned : (insts : List Instance) (x : plain.Instance) → Ascending insts → IsPartitionedBy (λ y. comes_before (instance_of y) x) insts
partitioned insts x up i j d l h e =
    ⊎_elim (λ lt. comes_before-trans _ _ x (up i j d lt h) e)
    (λ ge. let same : i ≡ j = omega (arith, l, ge) in subst (λ k. comes_before (instance_of (get_or insts k d)) x ≡ true) (sym same) e)
    (cases_lt i j)

abbrev pub first_instance : Instance
first_instance = record { path = record { 0 = 0 }; layer = layers.Resumed }

pub found_instance : (insts : List Instance) (x : plain.Instance) (p : ℕ)
    → SplitsAt x insts p
    → p < length insts
    → comes_before x (instance_of (get_or insts p first_instance)) ≡ false
    → IsNumberOf (map instance_of insts) p x
found_instance insts x p h l g = record {
  within = omega (arith, length-map insts instance_of);
  same = λ e. name_at insts p first_instance e l ∙ comes_before-same _ x (h.1 p first_instance (omega arith) l) g;
}

pub absent_instance : (insts : List Instance) (x : plain.Instance) (p : ℕ)
    → Ascending insts
    → SplitsAt x insts p
    → (p < length insts → comes_before x (instance_of (get_or insts p first_instance)) ≡ true)
    → Contains (map instance_of insts) x → ⊥
absent_instance insts x p up h g c =
    let k = c.0 in
    let inside : k < length insts = omega (arith, c.1, length-map insts instance_of) in
    let same : instance_of (get_or insts k first_instance) ≡ x = sym (name_at insts k first_instance x inside) ∙ c.2 in
    let not_self = λ (y : plain.Instance) (e : y ≡ x) (b : comes_before y x ≡ true). both_ways (comes_before x x) (comes_before-self x)
    (subst (λ z. comes_before z x ≡ true) e b) in
    ⊎_elim (λ lt. not_self _ same (h.0 k first_instance (omega arith) lt))
    (λ ge.
    let here : p < length insts = omega arith in
    let behind : comes_before x (instance_of (get_or insts p first_instance)) ≡ true = g here in
    ⊎_elim
    (λ lt. both_ways (comes_before (instance_of (get_or insts p first_instance)) x) (h.1 p first_instance (omega arith) here)
    (subst (λ z. comes_before (instance_of (get_or insts p first_instance)) z ≡ true) same (up p k first_instance lt inside)))
    (λ le.
    let e : p ≡ k = omega arith in
    both_ways (comes_before x x) (comes_before-self x)
    (subst (λ z. comes_before x z ≡ true) ((λ i. instance_of (get_or insts (e i) first_instance)) ∙ same) behind))
    (cases_lt p k))
    (cases_lt k p)

-- one instance stands at one place
pub place_once : (insts : List Instance) (i j : ℕ) → Ascending insts → i < length insts → j < length insts
    → instance_at (map instance_of insts) i ≡ instance_at (map instance_of insts) j → i ≡ j
place_once insts i j up li lj e =
    let same : instance_of (get_or insts i first_instance) ≡ instance_of (get_or insts j first_instance)
    = sym (name_at insts i first_instance _ li) ∙ e ∙ name_at insts j first_instance _ lj in
    ⊎_elim (λ q. q)
    (λ d. ⊎_elim
    (λ l. absurd (both_ways _ (comes_before-self (instance_of (get_or insts j first_instance)))
    (subst (λ z. comes_before z (instance_of (get_or insts j first_instance)) ≡ true) same (up i j first_instance l lj))))
    (λ l. absurd (both_ways _ (comes_before-self (instance_of (get_or insts j first_instance)))
    (subst (λ z. comes_before (instance_of (get_or insts j first_instance)) z ≡ true) same (up j i first_instance l li)))) d)
    (cases_order i j)

-- ---- wires by name

pub named : (list : List plain.Instance) (raw : List Wire) (w : ℕ) (u : Wire) → IsNumberOf raw w u → IsNumberOf (map (wire_of list) raw) w (wire_of list u)
named list raw w u h = record {
  within = omega (arith, h.within, length-map raw (wire_of list));
  same = λ e. get_or-map (wire_of list) raw w u e h.within ∙ ap (wire_of list) (h.same u);
}

end_from : (list : List plain.Instance) (r : Wire) (n : ℕ) (l : Layer) (k : ℕ) → wire_of list r ≡ names.End n l k
    → (j : ℕ) × (r ≡ wires.End (record { 0 = j }) k) × (instance_at list j ≡ record { path = n; layer = l })
end_from list (wires.Go i) n l k e = absurd (cc)
end_from list (wires.End i c) n l k e =
    let p : (instance_at list i.0).path ≡ n = cc in
    let q : (instance_at list i.0).layer ≡ l = cc in
    let r : c ≡ k = cc in
    (i.0, ap (λ k. wires.End i k) r, λ t. record { path = p t; layer = q t })
end_from list (wires.Local i) n l k e = absurd (cc)
end_from list (wires.Out s) n l k e = absurd (cc)

status_from : (list : List plain.Instance) (r : Wire) (n : ℕ) (l : Layer) → wire_of list r ≡ names.StatusOf n l
    → (j : ℕ) × (r ≡ wires.Local (record { 0 = j })) × (instance_at list j ≡ record { path = n; layer = l })
status_from list (wires.Go i) n l e = absurd (cc)
status_from list (wires.End i c) n l e = absurd (cc)
status_from list (wires.Local i) n l e =
    let p : (instance_at list i.0).path ≡ n = cc in
    let q : (instance_at list i.0).layer ≡ l = cc in
    (i.0, refl, λ t. record { path = p t; layer = q t })
status_from list (wires.Out s) n l e = absurd (cc)

out_from : (list : List plain.Instance) (r : Wire) (s : ℕ) → wire_of list r ≡ names.Out s → r ≡ wires.Out (record { 0 = s })
out_from list (wires.Go i) s e = absurd (cc)
out_from list (wires.End i c) s e = absurd (cc)
out_from list (wires.Local i) s e = absurd (cc)
out_from list (wires.Out t) s e = let p : t.0 ≡ s = cc in λ i. wires.Out (record { 0 = p i })

abbrev pub first_wire : Wire
first_wire = wires.Go (record { 0 = 0 })

-- none of the wires of instance i is this one
abbrev pub NotAmong : List Wire → List ℕ → ℕ → Wire → Type 0
NotAmong raw first i u = (w : ℕ) (d : Wire) → slice_index first i ≤ w → w < slice_index first (i + 1) → get_or raw w d ≡ u → ⊥

not_there : (insts : List Instance) (raw : List Wire) (first : List ℕ) (inputs outgoing i j w : ℕ) (u : Wire)
    → AreNeighbours insts raw first inputs outgoing
    → i < length insts
    → w < length raw
    → NotAmong raw first i u
    → get_or raw w first_wire ≡ u
    → owner u ≡ Some j
    → instance_at (map instance_of insts) i ≡ instance_at (map instance_of insts) j
    → ⊥
not_there insts raw first inputs outgoing i j w u t li lw none e o same =
    let own : owner (get_or raw w first_wire) ≡ Some j = ap owner e ∙ o in
    let lj : j < length insts = t.runs.own_in w j first_wire lw own in
    let ij : i ≡ j = place_once insts i j t.ascend li lj same in
    none w first_wire (subst (λ k. slice_index first k ≤ w) (sym ij) (t.runs.own_from w j first_wire lw own))
    (subst (λ k. w < slice_index first (k + 1)) (sym ij) (t.runs.own_below w j first_wire lw own)) e

pub absent_end : (insts : List Instance) (raw : List Wire) (first : List ℕ) (inputs outgoing i k : ℕ)
    → AreNeighbours insts raw first inputs outgoing
    → i < length insts
    → NotAmong raw first i (wires.End (record { 0 = i }) k)
    → Contains (map (wire_of (map instance_of insts)) raw) (names.End (instance_at (map instance_of insts) i).path
    (instance_at (map instance_of insts) i).layer k)
    → ⊥
absent_end insts raw first inputs outgoing i k t li none c =
    let list = map instance_of insts in
    let x = instance_at list i in
    let inside : c.0 < length raw = omega (arith, c.1, length-map raw (wire_of list)) in
    let e = sym (get_or-map (wire_of list) raw c.0 first_wire (names.End x.path x.layer k) inside) ∙ c.2 in
    let f = end_from list (get_or raw c.0 first_wire) x.path x.layer k e in
    let lj : f.0 < length insts = t.runs.own_in c.0 f.0 first_wire inside (ap owner f.1) in
    let ij : i ≡ f.0 = place_once insts i f.0 t.ascend li lj (sym f.2) in
    not_there insts raw first inputs outgoing i i c.0 (wires.End (record { 0 = i }) k) t li inside none
    (f.1 ∙ λ t. wires.End (record { 0 = sym ij t }) k) refl refl

pub absent_status : (insts : List Instance) (raw : List Wire) (first : List ℕ) (inputs outgoing i : ℕ)
    → AreNeighbours insts raw first inputs outgoing
    → i < length insts
    → NotAmong raw first i (wires.Local (record { 0 = i }))
    → Contains (map (wire_of (map instance_of insts)) raw) (names.StatusOf (instance_at (map instance_of insts) i).path
    (instance_at (map instance_of insts) i).layer)
    → ⊥
absent_status insts raw first inputs outgoing i t li none c =
    let list = map instance_of insts in
    let x = instance_at list i in
    let inside : c.0 < length raw = omega (arith, c.1, length-map raw (wire_of list)) in
    let e = sym (get_or-map (wire_of list) raw c.0 first_wire (names.StatusOf x.path x.layer) inside) ∙ c.2 in
    let f = status_from list (get_or raw c.0 first_wire) x.path x.layer e in
    let lj : f.0 < length insts = t.runs.own_in c.0 f.0 first_wire inside (ap owner f.1) in
    let ij : i ≡ f.0 = place_once insts i f.0 t.ascend li lj (sym f.2) in
    not_there insts raw first inputs outgoing i i c.0 (wires.Local (record { 0 = i })) t li inside none
    (f.1 ∙ λ t. wires.Local (record { 0 = sym ij t })) refl refl

pub absent_out : (insts : List Instance) (raw : List Wire) (first : List ℕ) (inputs outgoing s : ℕ)
    → AreNeighbours insts raw first inputs outgoing
    → (inputs ≤ s → s - inputs < outgoing → ⊥)
    → Contains (map (wire_of (map instance_of insts)) raw) (names.Out s)
    → ⊥
absent_out insts raw first inputs outgoing s t far c =
    let list = map instance_of insts in
    let inside : c.0 < length raw = omega (arith, c.1, length-map raw (wire_of list)) in
    let e = sym (get_or-map (wire_of list) raw c.0 first_wire (names.Out s) inside) ∙ c.2 in
    let f = out_from list (get_or raw c.0 first_wire) s e in
    let l : c.0 < outgoing = t.outs.own_out c.0 s first_wire inside f in
    let g : wires.Out (record { 0 = inputs + c.0 }) ≡ wires.Out (record { 0 = s }) = sym (t.outs.out c.0 first_wire l) ∙ f in
    let same : inputs + c.0 ≡ s = signal_of g in
    far (omega arith) (omega arith)
  where
    signal : Wire → ℕ
    signal (wires.Go i) = 0
    signal (wires.End i c) = 0
    signal (wires.Local i) = 0
    signal (wires.Out u) = u.0

    signal_of : {a b : ℕ} → wires.Out (record { 0 = a }) ≡ wires.Out (record { 0 = b }) → a ≡ b
    signal_of e = ap signal e

pub found_out : (insts : List Instance) (raw : List Wire) (first : List ℕ) (inputs outgoing s : ℕ)
    → AreNeighbours insts raw first inputs outgoing
    → inputs ≤ s
    → s - inputs < outgoing
    → IsNumberOf (map (wire_of (map instance_of insts)) raw) (s - inputs) (names.Out s)
found_out insts raw first inputs outgoing s t le lt =
    let e : inputs + (s - inputs) ≡ s = omega arith in
    named (map instance_of insts) raw (s - inputs) (wires.Out (record { 0 = s })) (record {
      within = omega (arith, t.outs.within);
      same = λ d. t.outs.out (s - inputs) d lt ∙ λ i. wires.Out (record { 0 = e i });
    })

pub found_go : (insts : List Instance) (raw : List Wire) (first : List ℕ) (inputs outgoing i : ℕ)
    → AreNeighbours insts raw first inputs outgoing
    → i < length insts
    → IsNumberOf (map (wire_of (map instance_of insts)) raw) (slice_index first i)
    (names.Go (instance_at (map instance_of insts) i).path (instance_at (map instance_of insts) i).layer)
found_go insts raw first inputs outgoing i t li =
    named (map instance_of insts) raw (slice_index first i) (wires.Go (record { 0 = i })) (record {
      within = omega (arith, t.runs.runs i li, t.runs.within i li);
      same = λ d. t.runs.go i d li;
    })

-- what a search among the wires of an instance says of names
pub end_or_none : (insts : List Instance) (raw : List Wire) (first : List ℕ) (inputs outgoing i k : ℕ) (r : Option WireId)
    → AreNeighbours insts raw first inputs outgoing
    → i < length insts
    → MatchOption r (NotAmong raw first i (wires.End (record { 0 = i }) k)) (λ w. IsNumberOf raw w.0 (wires.End (record { 0 = i }) k))
    → HasName (map (wire_of (map instance_of insts)) raw) r
    (names.End (instance_at (map instance_of insts) i).path (instance_at (map instance_of insts) i).layer k)
end_or_none insts raw first inputs outgoing i k None t li h = absent_end insts raw first inputs outgoing i k t li h
end_or_none insts raw first inputs outgoing i k (Some w) t li h = named (map instance_of insts) raw w.0 (wires.End (record { 0 = i }) k) h

pub status_or_none : (insts : List Instance) (raw : List Wire) (first : List ℕ) (inputs outgoing i : ℕ) (r : Option WireId)
    → AreNeighbours insts raw first inputs outgoing
    → i < length insts
    → MatchOption r (NotAmong raw first i (wires.Local (record { 0 = i }))) (λ w. IsNumberOf raw w.0 (wires.Local (record { 0 = i })))
    → HasName (map (wire_of (map instance_of insts)) raw) r
    (names.StatusOf (instance_at (map instance_of insts) i).path (instance_at (map instance_of insts) i).layer)
status_or_none insts raw first inputs outgoing i None t li h = absent_status insts raw first inputs outgoing i t li h
status_or_none insts raw first inputs outgoing i (Some w) t li h = named (map instance_of insts) raw w.0 (wires.Local (record { 0 = i })) h

pub read_instance : (insts : List Instance) (p : ℕ) (y : Instance) → y ≡ get_or insts p y → p < length insts → y ≡ get_or insts p first_instance
read_instance insts p y e l = e ∙ get_or_default insts p y first_instance l

-- ---- the instances of a body

before_by_test : (x y : plain.Instance) → Before x y → comes_before x y ≡ true
before_by_test x y h = from_ahead x y (⊎_elim (λ l. inl l) (λ l. inr (l.0, layers_by_test x.layer y.layer l.1)) h)
  where
    layers_by_test : (k l : Layer) → LayerBefore k l → layer_before k l ≡ true
    layers_by_test Resumed Resumed h = absurd h
    layers_by_test Resumed (Started r) h = refl
    layers_by_test (Started q) Resumed h = absurd h
    layers_by_test (Started q) (Started r) h = lt-ltb q r h

apart : (xs : List plain.Instance) (i j : ℕ) (d : plain.Instance) → Ascends xs → i < j → j < length xs → comes_before (get_or xs i d) (get_or xs j d) ≡ true
apart [] i j d h l g = absurd (omega arith)
apart (x ∷ xs) zero zero d h l g = absurd (omega arith)
apart (x ∷ xs) zero (suc j) d h l g = before_by_test x (get_or xs j d) (h.0 j d (omega arith))
apart (x ∷ xs) (suc i) zero d h l g = absurd (omega arith)
apart (x ∷ xs) (suc i) (suc j) d h l g = apart xs i j d h.1 (omega arith) (omega arith)

pub body_ascending : (body : Term) (insts : List Instance) → map instance_of insts ≡ body_instances body → Ascending insts
body_ascending body insts e i j d l g =
    let m : j < length (body_instances body) = omega (arith, ap length (sym e), length-map insts instance_of) in
    (λ t. comes_before (first t) (second t)) ∙ apart (body_instances body) i j (instance_of d) (instances_ascend_lem body) l m
  where
    first : instance_of (get_or insts i d) ≡ get_or (body_instances body) i (instance_of d)
    first = sym (name_at insts i d (instance_of d) (omega arith)) ∙ ap (λ l. get_or l i (instance_of d)) e

    second : instance_of (get_or insts j d) ≡ get_or (body_instances body) j (instance_of d)
    second = sym (name_at insts j d (instance_of d) g) ∙ ap (λ l. get_or l j (instance_of d)) e

pub path_within : (body : Term) (insts : List Instance) (i : ℕ) (x : Instance) → map instance_of insts ≡ body_instances body → i < length insts →
    x ≡ get_or insts i x
    → x.path.0 < statement_count body
path_within body insts i x e l h =
    let m : i < length (body_instances body) = omega (arith, ap length (sym e), length-map insts instance_of) in
    let a = instances_among (body_liveness body) body 0 i (instance_of x) m in
    let same : instance_of x ≡ get_or (body_instances body) i (instance_of x)
    = ap instance_of h ∙ sym (name_at insts i x (instance_of x) l) ∙ ap (λ l. get_or l i (instance_of x)) e in
    omega (arith, a.1, ap (λ y. y.path) same)

-- what a walk over a list of instances reads at the number i
pub record InstanceRead (body : Term) (raw : List Instance) (i : ℕ) (y : Instance) : Type 0 where
  pub inside : i < length raw
  pub within : y.path.0 < statement_count body
  pub named : instance_at (map instance_of raw) i ≡ instance_of y

pub instance_read : (body : Term) (raw items : List Instance) (i : ℕ) → map instance_of raw ≡ body_instances body → items ≡ raw → i < length items →
    InstanceRead body raw i (get_or items i first_instance)
instance_read body raw items i live value l =
    let y = get_or items i first_instance in
    let inside : i < length raw = omega (arith, ap length value) in
    let same : y ≡ get_or raw i y = ap (λ l. get_or l i first_instance) value ∙ get_or_default raw i first_instance y inside in
    record { inside = inside; within = path_within body raw i y live inside same; named = name_at raw i y _ inside ∙ ap instance_of (sym same) }

-- ---- wires of a statement in a layer

abbrev NotLive : List Instance → ℕ → Layer → Type 0
NotLive insts n l = Contains (map instance_of insts) (record { path = n; layer = l }) → ⊥

-- the instance of a wire is live
live_owner : (insts : List Instance) (j n : ℕ) (l : Layer) → j < length insts → instance_at (map instance_of insts) j ≡ record { path = n; layer = l }
    → Contains (map instance_of insts) (record { path = n; layer = l })
live_owner insts j n l h e =
    (j, omega (arith, length-map insts instance_of), get_or_default (map instance_of insts) j _ _ (omega (arith, length-map insts instance_of)) ∙ e)

pub no_end : (insts : List Instance) (raw : List Wire) (first : List ℕ) (inputs outgoing n k : ℕ) (l : Layer)
    → AreNeighbours insts raw first inputs outgoing
    → NotLive insts n l
    → Contains (map (wire_of (map instance_of insts)) raw) (names.End n l k)
    → ⊥
no_end insts raw first inputs outgoing n k l t none c =
    let list = map instance_of insts in
    let inside : c.0 < length raw = omega (arith, c.1, length-map raw (wire_of list)) in
    let f = end_from list (get_or raw c.0 first_wire) n l k (sym (get_or-map (wire_of list) raw c.0 first_wire (names.End n l k) inside) ∙ c.2) in
    none (live_owner insts f.0 n l (t.runs.own_in c.0 f.0 first_wire inside (ap owner f.1)) f.2)

pub no_status : (insts : List Instance) (raw : List Wire) (first : List ℕ) (inputs outgoing n : ℕ) (l : Layer)
    → AreNeighbours insts raw first inputs outgoing
    → NotLive insts n l
    → Contains (map (wire_of (map instance_of insts)) raw) (names.StatusOf n l)
    → ⊥
no_status insts raw first inputs outgoing n l t none c =
    let list = map instance_of insts in
    let inside : c.0 < length raw = omega (arith, c.1, length-map raw (wire_of list)) in
    let f = status_from list (get_or raw c.0 first_wire) n l (sym (get_or-map (wire_of list) raw c.0 first_wire (names.StatusOf n l) inside) ∙ c.2) in
    none (live_owner insts f.0 n l (t.runs.own_in c.0 f.0 first_wire inside (ap owner f.1)) f.2)

go_from : (list : List plain.Instance) (r : Wire) (n : ℕ) (l : Layer) → wire_of list r ≡ names.Go n l
    → (j : ℕ) × (r ≡ wires.Go (record { 0 = j })) × (instance_at list j ≡ record { path = n; layer = l })
go_from list (wires.Go i) n l e =
    let p : (instance_at list i.0).path ≡ n = cc in
    let q : (instance_at list i.0).layer ≡ l = cc in
    (i.0, refl, λ t. record { path = p t; layer = q t })
go_from list (wires.End i c) n l e = absurd (cc)
go_from list (wires.Local i) n l e = absurd (cc)
go_from list (wires.Out s) n l e = absurd (cc)

pub no_go : (insts : List Instance) (raw : List Wire) (first : List ℕ) (inputs outgoing n : ℕ) (l : Layer)
    → AreNeighbours insts raw first inputs outgoing
    → NotLive insts n l
    → Contains (map (wire_of (map instance_of insts)) raw) (names.Go n l)
    → ⊥
no_go insts raw first inputs outgoing n l t none c =
    let list = map instance_of insts in
    let inside : c.0 < length raw = omega (arith, c.1, length-map raw (wire_of list)) in
    let f = go_from list (get_or raw c.0 first_wire) n l (sym (get_or-map (wire_of list) raw c.0 first_wire (names.Go n l) inside) ∙ c.2) in
    none (live_owner insts f.0 n l (t.runs.own_in c.0 f.0 first_wire inside (ap owner f.1)) f.2)

-- the instances of the wires are there
pub wires_fit : (insts : List Instance) (raw : List Wire) (first : List ℕ) (inputs outgoing : ℕ)
    → AreNeighbours insts raw first inputs outgoing
    → (k : ℕ) (w : Wire) → k < length raw
    → IsTrue (wire_fits (length (map instance_of insts)) (get_or raw k w))
wires_fit insts raw first inputs outgoing t k w h = by_wire (get_or raw k w) refl
  where
    among : (v : Wire) (i : ℕ) → get_or raw k w ≡ v → owner v ≡ Some i → nat_lt i (length (map instance_of insts)) ≡ true
    among v i e o = lt-ltb i (length (map instance_of insts)) (omega (arith, t.runs.own_in k i w h (ap owner e ∙ o), length-map insts instance_of))

    by_wire : (v : Wire) → get_or raw k w ≡ v → IsTrue (wire_fits (length (map instance_of insts)) v)
    by_wire (wires.Go i) e = among (wires.Go i) i.0 e refl
    by_wire (wires.End i c) e = among (wires.End i c) i.0 e refl
    by_wire (wires.Local i) e = among (wires.Local i) i.0 e refl
    by_wire (wires.Out s) e = refl
