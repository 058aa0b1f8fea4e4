-- Nets of formulas.
use Rattle.std.proofs.Common.{◌≡◌, ℕ, suc, ◌+◌, ◌-◌, ◌<◌, ◌≤◌, ◌^◌, Bool, true, false, not, ◌&&◌, ◌||◌, List, [], ◌∷◌, ◌++◌, length, map, min, refl}
use Rattle.std.proofs.Common.{sym, ap, ◌∙◌, subst, arith}
use Rattle.std.proofs.Common.{IsTrue, slice_index_or, ⊎_elim}
use Rattle.std.specs.List.{list_any}
use Rattle.std.proofs.lemmas.Bool.{cases_lt, ltb-true, lt-ltb}
use Rattle.std.proofs.lemmas.List.{get_or-append-add, get_or_append_left, get_or_past, get_or_default, get_or_push, length_push}
use Rattle.std.proofs.lemmas.List.Folds.{list_any-append}
use Rattle.base_types.specs.declared.indices.NetId.{NetId}
use Rattle.base_types.specs.declared.indices.WireId.{WireId}
use Rattle.grc_graph.specs.declared.formulas.Formula.{Formula}
use Rattle.grc_graph.specs.declared.formulas.Formula.TheVariants as formulas
use Rattle.grc_graph.specs.Formulas as plain
use Rattle.grc_graph.specs.GraphRuns.{formula_value}
use Rattle.grc_graph.specs.PlainGraphs.{names_of, plain_graph, wire_at}
use Rattle.grc_formulas.specs.declared.table.Source.{Source}
use Rattle.grc_formulas.specs.declared.table.Source.TheVariants as sources
use Rattle.grc_formulas.specs.Occasions.{Occasion, state_in}
use Rattle.grc_formulas.specs.Rows.{source_fits}
use Rattle.grc_formulas.specs.WordLaws.{any_from, early_bounds, late_bounds, selected_source, value_of}
use Rattle.net_gen.specs.Senses.{first_of, start_of, wire_value}
use Rattle.net_ir.specs.declared.netlist.Op.{Op}
use Rattle.net_ir.specs.declared.netlist.Op.TheVariants as ops
use Rattle.net_ir.specs.Gates.{op_value, operand_end, value_in}
use Rattle.net_ir.proofs.Exports.{value_in-gate_values}
use Rattle.net_unroll.specs.declared.growing.Growing.{Growing}
use Rattle.net_unroll.specs.Copies.{Pushed, net_at, next_number, values_of}
use Rattle.net_unroll.proofs.Exports.{grows-both, grows-none, grows-push, grows-value, nets-stay, pushed-new, pushed-number}
use Rattle.net_cycles.specs.declared.base.Nets.{Nets}
use Rattle.net_cycles.specs.Bases.{AnySays, CarryWires, GrowsOn, IsWhole, Lowers, NextMade, RunSays, bounds_of, form_value, source_net}
use Rattle.net_cycles.proofs.RowSteps.{base-stays, carry-before, source-low, source-says}
use Rattle.net_gen.proofs.Exports.{length-start}

-- the size of a formula, which falls from a formula to its parts
abbrev pub weight : Formula → ℕ
weight (formulas.Const b) = 1
weight formulas.Boot = 1
weight (formulas.Input s) = 1
weight (formulas.Wire v) = 1
weight (formulas.Selected p) = 1
weight (formulas.Upto i k) = 1
weight (formulas.Kept i) = 1
weight (formulas.Held i) = 1
weight (formulas.Not' _ a) = weight a + 1
weight (formulas.And' _ a _ b) = weight a + weight b + 1
weight (formulas.Or' _ a _ b) = weight a + weight b + 1
weight (formulas.AnyOf v) = 1

-- ---- what stays

grown : (old now new : Growing) → GrowsOn old now → GrowsOn now new → GrowsOn old new
grown old now new a b = record { count = a.count + b.count; grows = grows-both old now new a.count b.count a.grows b.grows }

module _ (n : Nets) where
  abbrev front_at : Occasion n.graph.now → List Bool
  front_at t = start_of n.graph.now t

  abbrev Carry : Growing → Occasion n.graph.now → Type 0
  Carry d t = CarryWires n.graph.now n.wires.now d t

  pub whole-stays : (old new : Growing) → IsWhole n old → GrowsOn old new → IsWhole n new
  whole-stays old new h more =
      let k = more.count in
      let m = more.grows in
      let r = h.ready in
      record {
        ready = record {
          words = r.words;
          base = base-stays n.graph.now n.base old new k r.base m;
          wire_nets = nets-stay old new k n.wires.now m r.wire_nets;
          row_nets = record {
            nets = nets-stay old new k n.rows.now m r.row_nets.nets;
            says = λ t c i low.
                grows-value old new k (front_at t) (net_at n.rows.now i).0 m (length-start n.graph.now t ∙ sym r.base.first)
                (r.row_nets.nets i (record { 0 = 0 }) low)
                ∙ r.row_nets.says t (carry-before n.graph.now n.base n.wires.now old new k t r.base r.wire_nets m c) i low;
          };
        };
        wires = h.wires;
        rows = h.rows;
      }

  carry-after : (old new : Growing) (t : Occasion n.graph.now) → IsWhole n old → GrowsOn old new → Carry old t → Carry new t
  carry-after old new t h more c = record {
    off = c.off;
    says = λ v low.
        grows-value old new more.count (front_at t) (net_at n.wires.now v).0 more.grows (length-start n.graph.now t ∙ sym h.ready.base.first)
        (h.ready.wire_nets v (record { 0 = 0 }) low) ∙ c.says v low;
  }

  wide-at : (d : Growing) (t : Occasion n.graph.now) → IsWhole n d → length (front_at t) ≡ d.first
  wide-at d t h = length-start n.graph.now t ∙ sym h.ready.base.first

  -- a net that there is
  pub lowers-here : (d : Growing) (f : Formula) (net : ℕ) → IsWhole n d → net < next_number d
      → ((t : Occasion n.graph.now) → Carry d t → value_in (values_of d (front_at t)) net ≡ form_value n.graph.now t f) → Lowers n d d f net
  lowers-here d f net h low says = record {
    grew = record { count = 0; grows = grows-none d h.ready.base.growing };
    low = low;
    says = says;
  }

  -- ---- leaves of formulas

  pub lowers-yes : (d : Growing) (f : Formula) → IsWhole n d → ((t : Occasion n.graph.now) → true ≡ form_value n.graph.now t f) → Lowers n d d f n.base.yes.0
  lowers-yes d f h is = lowers-here d f n.base.yes.0 h h.ready.base.yes.low (λ t c. h.ready.base.yes.always (front_at t) (wide-at d t h) ∙ is t)

  pub lowers-no : (d : Growing) (f : Formula) → IsWhole n d → ((t : Occasion n.graph.now) → false ≡ form_value n.graph.now t f) → Lowers n d d f n.base.no.0
  lowers-no d f h is = lowers-here d f n.base.no.0 h h.ready.base.no.low (λ t c. h.ready.base.no.never (front_at t) (wide-at d t h) ∙ is t)

  -- a net before the gates
  front-says : (d : Growing) (k : ℕ) (t : Occasion n.graph.now) → k < first_of n.graph.now
      → value_in (values_of d (front_at t)) k ≡ slice_index_or (front_at t) k false
  front-says d k t low = let m = length-start n.graph.now t in value_in-gate_values (front_at t) d.list.items k (omega arith)

  pub lowers-boot : (d : Growing) (f : Formula) → IsWhole n d → ((t : Occasion n.graph.now) → t.boot ≡ form_value n.graph.now t f)
      → Lowers n d d f n.base.given
  lowers-boot d f h is =
      let e = h.ready.base.given in
      let first = h.ready.base.first in
      lowers-here d f n.base.given h (omega arith) (λ t c.
      let many = t.one_per_given in
      let place : n.base.given ≡ length t.event + 0 = omega arith in
      front-says d n.base.given t (omega arith) ∙ ap (λ k. slice_index_or (front_at t) k false) place
      ∙ get_or-append-add t.event (t.boot ∷ t.bits) 0 false ∙ is t)

  pub lowers-input : (d : Growing) (f : Formula) (s : ℕ) → IsWhole n d → s < n.base.given
      → ((t : Occasion n.graph.now) → slice_index_or t.event s false ≡ form_value n.graph.now t f) → Lowers n d d f s
  lowers-input d f s h low is =
      let e = h.ready.base.given in
      let first = h.ready.base.first in
      lowers-here d f s h (omega arith) (λ t c.
      let many = t.one_per_given in
      front-says d s t (omega arith) ∙ get_or_append_left t.event (t.boot ∷ t.bits) false s (omega arith) ∙ is t)

  pub lowers-silent : (d : Growing) (f : Formula) (s : ℕ) → IsWhole n d → n.base.given ≤ s
      → ((t : Occasion n.graph.now) → slice_index_or t.event s false ≡ form_value n.graph.now t f) → Lowers n d d f n.base.no.0
  lowers-silent d f s h high is = lowers-no d f h (λ t.
      let e = h.ready.base.given in
      let many = t.one_per_given in
      sym (get_or_past t.event s false (omega arith)) ∙ is t)

  pub lowers-wire : (d : Growing) (f : Formula) (v : ℕ) → IsWhole n d → v < length n.graph.now.wires.items
      → ((t : Occasion n.graph.now) → wire_value n.graph.now t v ≡ form_value n.graph.now t f) → Lowers n d d f (net_at n.wires.now v).0
  lowers-wire d f v h low is =
      let many = h.wires in
      let in_nets : v < length n.wires.now = omega arith in
      lowers-here d f (net_at n.wires.now v).0 h (h.ready.wire_nets v (record { 0 = 0 }) in_nets) (λ t c. c.says v in_nets ∙ is t)

  -- what may be read in the end
  late-fits : (d : Growing) → IsWhole n d → (s : Source) → IsTrue (source_fits (late_bounds n.graph.now (length n.words.now.rows.items)) s)
      → IsTrue (source_fits (bounds_of n.base (length n.wires.now) (length n.rows.now)) s)
  late-fits d h (sources.Const b) fits = refl
  late-fits d h (sources.Leaf k) fits = let l = ltb-true k (length n.graph.now.next.items) fits in let e = h.ready.base.leaves in lt-ltb k n.base.leaves
      (omega arith)
  late-fits d h (sources.Input s) fits = let l = ltb-true s.0 _ fits in let e = h.ready.base.given in lt-ltb s.0 n.base.given (omega arith)
  late-fits d h (sources.Wire v) fits = let l = ltb-true v.0 _ fits in let e = h.wires in lt-ltb v.0 (length n.wires.now) (omega arith)
  late-fits d h (sources.Row r) fits = let l = ltb-true r _ fits in let e = h.rows in lt-ltb r (length n.rows.now) (omega arith)

  early-fits : (s : Source) → n.words.now.early ≤ length n.words.now.rows.items → IsTrue (source_fits (early_bounds n.graph.now n.words.now.early) s)
      → IsTrue (source_fits (late_bounds n.graph.now (length n.words.now.rows.items)) s)
  early-fits (sources.Const b) few fits = refl
  early-fits (sources.Leaf k) few fits = fits
  early-fits (sources.Input s) few fits = let l = ltb-true s.0 0 fits in absurd (omega arith)
  early-fits (sources.Wire v) few fits = let l = ltb-true v.0 0 fits in absurd (omega arith)
  early-fits (sources.Row r) few fits = let l = ltb-true r n.words.now.early fits in lt-ltb r (length n.words.now.rows.items) (omega arith)

  -- the source of a statement reads what there is
  pub selected-fits : (d : Growing) (p : ℕ) → IsWhole n d
      → IsTrue (source_fits (late_bounds n.graph.now (length n.words.now.rows.items)) (selected_source n.words.now p))
  selected-fits d p h =
      let words = h.ready.words in
      let some = words.one_per_statement in
      let at = min p (length n.words.now.selected.items - 1) in
      early-fits (selected_source n.words.now p) words.fit.early (words.fit.selected at (sources.Const false) (omega arith))

  pub lowers-source : (d : Growing) (f : Formula) (s : Source) → IsWhole n d
      → IsTrue (source_fits (late_bounds n.graph.now (length n.words.now.rows.items)) s)
      → ((t : Occasion n.graph.now) → Carry d t → value_of n.graph.now n.words.now t s ≡ form_value n.graph.now t f)
      → Lowers n d d f (source_net n.base n.wires.now n.rows.now s).0
  lowers-source d f s h fits is =
      let r = h.ready in
      let here = late-fits d h s fits in
      lowers-here d f (source_net n.base n.wires.now n.rows.now s).0 h (source-low n.graph.now n.words.now n.base n.wires.now n.rows.now d r s here)
      (λ t c. source-says n.graph.now n.words.now n.base n.wires.now n.rows.now d r.base r.row_nets t c s here ∙ is t c)

  -- ---- operators

  pub lowers-push : (old now new : Growing) (f : Formula) (op : Op) (net : ℕ) → IsWhole n old → GrowsOn old now → Pushed now new op → net ≡ next_number now
      → next_number now < 2 ^ 32 → operand_end op ≤ next_number now
      → ((t : Occasion n.graph.now) → Carry old t → op_value (value_in (values_of now (front_at t))) op ≡ form_value n.graph.now t f) → Lowers n old new f net
  lowers-push old now new f op net h more p number room low is = record {
    grew = record { count = more.count + 1; grows = grows-push old now new op more.count more.grows p low room };
    low = let m = pushed-number now new op p in omega arith;
    says = λ t c. pushed-new now new op (front_at t) net p (wide-at old t h ∙ sym more.grows.first) number ∙ is t c;
  }

  pub lowers-not : (old now new : Growing) (a f : Formula) (x : NetId) (net : ℕ) → IsWhole n old → Lowers n old now a x.0 → Pushed now new (ops.Not x)
      → net ≡ next_number now → next_number now < 2 ^ 32
      → ((t : Occasion n.graph.now) → not (form_value n.graph.now t a) ≡ form_value n.graph.now t f) → Lowers n old new f net
  lowers-not old now new a f x net h la p number room is =
      let l = la.low in
      lowers-push old now new f (ops.Not x) net h la.grew p number room (omega arith) (λ t c. ap not (la.says t c) ∙ is t)

  -- the values of two parts, the second made after the first
  pub both-said : (old mid now : Growing) (a b : Formula) (x y : NetId) → IsWhole n old → Lowers n old mid a x.0 → Lowers n mid now b y.0
      → (t : Occasion n.graph.now) → Carry old t
      → (value_in (values_of now (front_at t)) x.0 ≡ form_value n.graph.now t a) × (value_in (values_of now (front_at t)) y.0 ≡ form_value n.graph.now t b)
  both-said old mid now a b x y h la lb t c = (
    grows-value mid now lb.grew.count (front_at t) x.0 lb.grew.grows (wide-at old t h ∙ sym la.grew.grows.first) la.low ∙ la.says t c,
    lb.says t (carry-after old mid t h la.grew c),
  )

  pub lowers-and : (old mid now new : Growing) (a b f : Formula) (x y : NetId) (net : ℕ) → IsWhole n old → Lowers n old mid a x.0 → Lowers n mid now b y.0
      → Pushed now new (ops.And x y) → net ≡ next_number now → next_number now < 2 ^ 32
      → ((t : Occasion n.graph.now) → (form_value n.graph.now t a && form_value n.graph.now t b) ≡ form_value n.graph.now t f) → Lowers n old new f net
  lowers-and old mid now new a b f x y net h la lb p number room is =
      let l = la.low in
      let k = lb.low in
      let m = lb.grew.grows.many in
      lowers-push old now new f (ops.And x y) net h (grown old mid now la.grew lb.grew) p number room (omega arith) (λ t c.
      let s = both-said old mid now a b x y h la lb t c in
      let u = s.0 in
      let v = s.1 in
      (λ i. u i && v i) ∙ is t)

  pub lowers-or : (old mid now new : Growing) (a b f : Formula) (x y : NetId) (net : ℕ) → IsWhole n old → Lowers n old mid a x.0 → Lowers n mid now b y.0
      → Pushed now new (ops.Or x y) → net ≡ next_number now → next_number now < 2 ^ 32
      → ((t : Occasion n.graph.now) → (form_value n.graph.now t a || form_value n.graph.now t b) ≡ form_value n.graph.now t f) → Lowers n old new f net
  lowers-or old mid now new a b f x y net h la lb p number room is =
      let l = la.low in
      let k = lb.low in
      let m = lb.grew.grows.many in
      lowers-push old now new f (ops.Or x y) net h (grown old mid now la.grew lb.grew) p number room (omega arith) (λ t c.
      let s = both-said old mid now a b x y h la lb t c in
      let u = s.0 in
      let v = s.1 in
      (λ i. u i || v i) ∙ is t)

  -- ---- several wires

  pub run-begun : (d : Growing) (first : ℕ) → IsWhole n d → RunSays n d d first 0 n.base.no.0
  run-begun d first h = record {
    grew = record { count = 0; grows = grows-none d h.ready.base.growing };
    low = h.ready.base.no.low;
    says = λ t c. h.ready.base.no.never (front_at t) (wide-at d t h);
  }

  pub run-more : (old now new : Growing) (first count : ℕ) (x : NetId) (net : ℕ) → IsWhole n old → RunSays n old now first count x.0
      → first + count < length n.wires.now → Pushed now new (ops.Or x (net_at n.wires.now (first + count))) → net ≡ next_number now → next_number now < 2 ^ 32
      → RunSays n old new first (count + 1) net
  run-more old now new first count x net h r low p number room =
      let more = r.grew in
      let l = r.low in
      let w = nets-stay old now more.count n.wires.now more.grows h.ready.wire_nets (first + count) (record { 0 = 0 }) low in
      let op = ops.Or x (net_at n.wires.now (first + count)) in
      record {
        grew = record { count = more.count + 1; grows = grows-push old now new op more.count more.grows p (omega arith) room };
        low = let m = pushed-number now new op p in omega arith;
        says = λ t c.
            let wide = wide-at old t h ∙ sym more.grows.first in
            let u = r.says t c in
            let v = (carry-after old now t h more c).says (first + count) low in
            let e : count + 1 ≡ suc count = omega arith in
            pushed-new now new op (front_at t) net p wide number ∙ (λ i. u i || v i) ∙ ap (any_from (wire_value n.graph.now t) first) (sym e);
      }

  pub any-begun : (d : Growing) → IsWhole n d → AnySays n d d [] n.base.no.0
  any-begun d h = record {
    grew = record { count = 0; grows = grows-none d h.ready.base.growing };
    low = h.ready.base.no.low;
    says = λ t c. h.ready.base.no.never (front_at t) (wide-at d t h);
  }

  or-false : (b : Bool) → (b || false) ≡ b
  or-false true = refl
  or-false false = refl

  pub any-more : (old now new : Growing) (done : List WireId) (v : WireId) (x : NetId) (net : ℕ) → IsWhole n old → AnySays n old now done x.0
      → v.0 < length n.wires.now → Pushed now new (ops.Or x (net_at n.wires.now v.0)) → net ≡ next_number now → next_number now < 2 ^ 32
      → AnySays n old new (done ++ v ∷ []) net
  any-more old now new done v x net h r low p number room =
      let more = r.grew in
      let l = r.low in
      let w = nets-stay old now more.count n.wires.now more.grows h.ready.wire_nets v.0 (record { 0 = 0 }) low in
      let op = ops.Or x (net_at n.wires.now v.0) in
      record {
        grew = record { count = more.count + 1; grows = grows-push old now new op more.count more.grows p (omega arith) room };
        low = let m = pushed-number now new op p in omega arith;
        says = λ t c.
            let wide = wide-at old t h ∙ sym more.grows.first in
            let V = λ (u : WireId). wire_value n.graph.now t u.0 in
            let a = r.says t c in
            let b = (carry-after old now t h more c).says v.0 low in
            pushed-new now new op (front_at t) net p wide number ∙ (λ i. a i || b i)
            ∙ sym (list_any-append V done (v ∷ []) ∙ ap (λ b. list_any V done || b) (or-false (V v)));
      }

  pub run-lowers : (old new : Growing) (f : Formula) (first count : ℕ) (net : ℕ) → RunSays n old new first count net
      → ((t : Occasion n.graph.now) → Carry old t → any_from (wire_value n.graph.now t) first count ≡ form_value n.graph.now t f) → Lowers n old new f net
  run-lowers old new f first count net r is = record { grew = r.grew; low = r.low; says = λ t c. r.says t c ∙ is t c }

  any-means : (R : plain.Formula → Bool) (V : WireId → Bool) (name : WireId → plain.Formula) (list : List WireId) → R (plain.Const false) ≡ false
      → ((a b : plain.Formula) → R (plain.Disjunction a b) ≡ (R a || R b)) → ((v : WireId) → V v ≡ R (name v)) → list_any V list
      ≡ R (plain.any_of (map name list))
  any-means R V name [] none either same = sym none
  any-means R V name (v ∷ []) none either same = or-false (V v) ∙ same v
  any-means R V name (v ∷ (u ∷ list)) none either same =
      let here = same v in
      let rest = any-means R V name (u ∷ list) none either same in
      (λ i. here i || rest i) ∙ sym (either (name v) (plain.any_of (map name (u ∷ list))))

  pub any-lowers : (old new : Growing) (f : Formula) (list : List WireId) (net : ℕ) → AnySays n old new list net
      → ((t : Occasion n.graph.now) → formula_value (plain_graph n.graph.now) (state_in n.graph.now t) t.event t.valuation
      (plain.any_of (map (λ (v : WireId). plain.Value (wire_at (names_of n.graph.now) v.0)) list)) ≡ form_value n.graph.now t f) → Lowers n old new f net
  any-lowers old new f list net r is = record {
    grew = r.grew;
    low = r.low;
    says = λ t c.
        r.says t c
        ∙ any-means (formula_value (plain_graph n.graph.now) (state_in n.graph.now t) t.event t.valuation) (λ (v : WireId). wire_value n.graph.now t v.0)
        (λ (v : WireId). plain.Value (wire_at (names_of n.graph.now) v.0)) list refl (λ a b. refl) (λ v. refl)
        ∙ is t;
  }

  -- ---- the next state

  pub next-begun : (d : Growing) → IsWhole n d → NextMade n d d [] 0
  next-begun d h = record {
    grew = record { count = 0; grows = grows-none d h.ready.base.growing };
    many = refl;
    low = λ i x low. absurd (omega arith);
    says = λ t c k f low. absurd (omega arith);
  }

  pub next-more : (old now new : Growing) (nets : List NetId) (k : ℕ) (f : Formula) (net : NetId) → IsWhole n old → NextMade n old now nets k
      → k < length n.graph.now.next.items → f ≡ slice_index_or n.graph.now.next.items k f → Lowers n now new f net.0
      → NextMade n old new (nets ++ net ∷ []) (k + 1)
  next-more old now new nets k f net h m low is l =
      let more = l.grew in
      let many = m.many in
      let longer = length_push nets net in
      record {
        grew = grown old now new m.grew more;
        many = omega arith;
        low = λ i x low_i. ⊎_elim
            (λ (less : i < length nets).
            let a = m.low i x less in
            let g = more.grows.many in
            subst (λ (y : NetId). y.0 < next_number new) (sym (get_or_append_left nets (net ∷ []) x i less)) (omega arith))
            (λ (last : length nets ≤ i).
            let at = get_or_push nets net x i (omega arith) in
            subst (λ (y : NetId). y.0 < next_number new) (sym at) l.low)
            (cases_lt i (length nets));
        says = λ t c j d low_j. ⊎_elim
            (λ (less : j < length nets).
            ap (λ (y : NetId). value_in (values_of new (front_at t)) y.0) (get_or_append_left nets (net ∷ []) (record { 0 = 0 }) j less)
            ∙ grows-value now new more.count (front_at t) (net_at nets j).0 more.grows (wide-at old t h ∙ sym m.grew.grows.first)
            (m.low j (record { 0 = 0 }) less)
            ∙ m.says t c j d (omega arith))
            (λ (last : length nets ≤ j).
            let same : j ≡ k = omega arith in
            let form : f ≡ slice_index_or n.graph.now.next.items j d =
            is ∙ get_or_default n.graph.now.next.items k f d low ∙ ap (λ i. slice_index_or n.graph.now.next.items i d) (sym same) in
            ap (λ (y : NetId). value_in (values_of new (front_at t)) y.0) (get_or_push nets net (record { 0 = 0 }) j (omega arith))
            ∙ l.says t (carry-after old now t h m.grew c) ∙ ap (form_value n.graph.now t) form)
            (cases_lt j (length nets));
      }
