-- The words of formulas as nets, and the formulas made of them.
use Rattle.std.proofs.Common.{◌≡◌, ℕ, ◌+◌, ◌-◌, ◌<◌, ◌≤◌, ◌^◌, zero, suc, Bool, true, false, not, ◌&&◌, ◌||◌, nat_lt, if◌then◌else◌, List, [], ◌∷◌, ◌++◌}
use Rattle.std.proofs.Common.{length, map, slice_index_or, refl, sym, ap, ◌∙◌, subst, arith, Option, Some, None, unwrap_or, inl, inr, IsTrue}
use Rattle.std.specs.List.{list_any}
use Rattle.std.proofs.lemmas.Bool.{cases_lt, lt-ltb, le-ltb}
use Rattle.std.proofs.lemmas.List.{get_or_append_left, get_or-append-add}
use Rattle.std.proofs.Math.ListN.{get_or-eq_default}
use Rattle.base_types.specs.declared.indices.NetId.{NetId}
use Rattle.base_types.specs.declared.indices.WireId.{WireId}
use Rattle.base_types.specs.declared.indices.SigId.{SigId}
use Rattle.base_types.specs.declared.indices.InstId.{InstId}
use Rattle.base_types.specs.declared.indices.PathId.{PathId}
use Rattle.grc_graph.specs.declared.formulas.Formula.{Formula}
use Rattle.grc_graph.specs.declared.formulas.Formula.TheVariants as formulas
use Rattle.grc_graph.specs.declared.graph.Graph.{Graph}
use Rattle.grc_graph.specs.Formulas as plain
use Rattle.grc_graph.specs.GraphRuns.{formula_value}
use Rattle.grc_graph.specs.PlainGraphs.{formula_of, instances_of, names_of, plain_graph, wire_at}
use Rattle.grc_graph.specs.Readings.{boolean_interpretation}
use Rattle.grc_graph.specs.Walk.{is_initial}
use Rattle.grc_graph.specs.Wires.{Wire}
use Rattle.grc_formulas.specs.declared.table.Source.{Source}
use Rattle.grc_formulas.specs.declared.table.Source.TheVariants as sources
use Rattle.grc_formulas.specs.declared.table.Words.{Words}
use Rattle.grc_formulas.specs.Occasions.{Occasion, state_of, state_in}
use Rattle.grc_formulas.specs.WordLaws.{AreWordsOf, selected_source, first_end, ends_upto}
use Rattle.net_ir.specs.declared.netlist.Op.{Op}
use Rattle.net_ir.specs.declared.netlist.Op.TheVariants.{Const, Copy, Not, And, Or}
use Rattle.net_ir.specs.Gates.{value_in, gate_values}
use Rattle.net_ir.proofs.Exports.{value_in-gate_values}
use Rattle.grc_graph.specs.GateCosts.{cost_of}
use Rattle.net_gen.specs.Drawings.{Drawing, next_number, net_at, Placed, constant_net, input_net, gates_for}
use Rattle.net_gen.specs.Growing.{Grew, Lowers, Places, spent}
use Rattle.net_gen.specs.Readiness.{SourceReady, source_net, kept_source, held_source}
use Rattle.net_gen.specs.Senses.{Instant, Sense, start_of, first_of, net_sense, op_sense, form_sense, wire_sense, any_sense, run_sense, source_sense, row_sense}
use Rattle.net_gen.specs.Senses.{wire_value, Sound, Stands, OpStands}
use Rattle.net_gen.proofs.GraphValues.{false-off_wires}
use Rattle.net_gen.proofs.Growth.{grew-refl, grew-trans}
use Rattle.net_gen.proofs.Sensing.{length-start, op-copy, op-not, op-and, op-or, op-is, stands-is}

start-at : (g : Graph) (d : Drawing) (n : ℕ) → n < first_of g → (t : Occasion g)
    → value_in (gate_values (start_of g t) d.gates) n ≡ value_in (start_of g t) n
start-at g d n low t = let many = length-start g t in value_in-gate_values (start_of g t) d.gates n (omega arith)

-- an input or a latch says its value
start-stands : (g : Graph) (w : Words) (d : Drawing) (n : ℕ) → Sound g w d → n < first_of g → Stands g d n (λ t. value_in (start_of g t.occasion) n)
unfolding net_sense
start-stands g w d n s low = record { below = omega (arith, s.first); says = λ i t. start-at g d n low t.occasion i }

boot-at : (g : Graph) (t : Occasion g) (n : ℕ) → n ≡ length t.event → value_in (start_of g t) n ≡ t.boot
boot-at g t n e =
    let f : n ≡ length t.event + 0 = omega arith in
    ap (value_in (start_of g t)) f ∙ get_or-append-add t.event (t.boot ∷ t.bits) 0 false

initial-state : (leaves : List ℕ) (b : Bool) (bits : List Bool) → is_initial (state_of leaves b bits) ≡ b
initial-state leaves true bits = refl
initial-state leaves false bits = refl

leaf-at : (g : Graph) (t : Occasion g) (n k : ℕ) → n ≡ length t.event + 1 + k → value_in (start_of g t) n ≡ slice_index_or t.bits k false
leaf-at g t n k e =
    let f : n ≡ length t.event + suc k = omega arith in
    ap (value_in (start_of g t)) f ∙ get_or-append-add t.event (t.boot ∷ t.bits) (suc k) false

input-at : (g : Graph) (t : Occasion g) (n : ℕ) → n < length t.event → value_in (start_of g t) n ≡ slice_index_or t.event n false
input-at g t n low = get_or_append_left t.event (t.boot ∷ t.bits) false n low

pub stands-boot : (g : Graph) (w : Words) (d : Drawing) → Sound g w d → Stands g d d.given (form_sense g formulas.Boot)
unfolding form_sense
stands-boot g w d s =
    stands-is g d d.given (λ t. value_in (start_of g t.occasion) d.given) (form_sense g formulas.Boot)
    (λ i t. (boot-at g t.occasion d.given (omega (arith, s.given, t.occasion.one_per_given))
    ∙ sym (initial-state (plain_graph g).leaves t.occasion.boot t.occasion.bits)) i)
    (start-stands g w d d.given s (omega (arith, s.given)))

stands-input : (g : Graph) (w : Words) (d : Drawing) (n : ℕ) → Sound g w d → n < d.given → Stands g d n (λ t. slice_index_or t.occasion.event n false)
stands-input g w d n s low =
    stands-is g d n (λ t. value_in (start_of g t.occasion) n) (λ t. slice_index_or t.occasion.event n false)
    (λ i t. input-at g t.occasion n (omega (arith, s.given, t.occasion.one_per_given)) i) (start-stands g w d n s (omega (arith, s.given)))

stands-leaf : (g : Graph) (w : Words) (d : Drawing) (n k : ℕ) → Sound g w d → n ≡ d.given + 1 + k → n < d.first
    → Stands g d n (λ t. slice_index_or t.occasion.bits k false)
stands-leaf g w d n k s e low =
    stands-is g d n (λ t. value_in (start_of g t.occasion) n) (λ t. slice_index_or t.occasion.bits k false)
    (λ i t. leaf-at g t.occasion n k (omega (arith, s.given, t.occasion.one_per_given)) i) (start-stands g w d n s (omega (arith, s.first)))

-- what stands at a filled place of a table
net_at-placed : (entries : List (Option NetId)) (k : ℕ) (n : NetId) → slice_index_or entries k None ≡ Some n → net_at entries k ≡ n
net_at-placed entries k n e = ap (λ o. unwrap_or o (record { 0 = 0 })) e

pub stands-wire : (g : Graph) (w : Words) (d : Drawing) (v : ℕ) → Sound g w d → Placed d.wires v → Stands g d (net_at d.wires v).0 (wire_sense g v)
stands-wire g w d v s p =
    let is = net_at-placed d.wires v p.0 p.1 in
    subst (λ (n : NetId). Stands g d n.0 (wire_sense g v)) (sym is) (s.wires v p.0 p.1)

stands-row : (g : Graph) (w : Words) (d : Drawing) (r : ℕ) → Sound g w d → Placed d.rows r → Stands g d (net_at d.rows r).0 (row_sense g w r)
stands-row g w d r s p =
    let is = net_at-placed d.rows r p.0 p.1 in
    subst (λ (n : NetId). Stands g d n.0 (row_sense g w r)) (sym is) (s.rows r p.0 p.1)

-- the net of a constant
pub stands-constant : (g : Graph) (w : Words) (d : Drawing) (b : Bool) → Sound g w d → Stands g d (constant_net d b).0 (λ t. b)
stands-constant g w d true s = s.yes
stands-constant g w d false s = s.no

-- the net of a source
pub stands-source : (g : Graph) (w : Words) (d : Drawing) (x : Source) → Sound g w d → SourceReady d x
    → Stands g d (source_net d x).0 (source_sense g w x)
unfolding source_sense wire_sense row_sense
stands-source g w d (sources.Const b) s ready = stands-constant g w d b s
stands-source g w d (sources.Leaf k) s ready = stands-leaf g w d (d.given + 1 + k) k s refl ready
stands-source g w d (sources.Input x) s ready = stands-input g w d x.0 s ready
stands-source g w d (sources.Wire v) s ready = stands-wire g w d v.0 s ready
stands-source g w d (sources.Row r) s ready = stands-row g w d r s ready

-- nothing is made for what is an operator already
lowers-here : (g : Graph) (w : Words) (d : Drawing) (op : Op) (m : Sense g) (cost : ℕ) → Sound g w d → OpStands g d op m → gates_for op ≤ cost
    → Lowers g w d d op m cost
lowers-here g w d op m cost s o few = record { grew = grew-refl g w d s; stands = o; within = omega arith }

-- nor for what is a net already
lowers-net : (g : Graph) (w : Words) (d : Drawing) (n : NetId) (m : Sense g) → Sound g w d → Stands g d n.0 m → Lowers g w d d (Copy n) m 0
lowers-net g w d n m s h = lowers-here g w d (Copy n) m 0 s (op-copy g d n m h) (omega arith)

pub lowers-const : (g : Graph) (w : Words) (d : Drawing) (b : Bool) → Sound g w d → Lowers g w d d (Copy (constant_net d b)) (form_sense g (formulas.Const b)) 0
unfolding form_sense
lowers-const g w d b s = lowers-net g w d (constant_net d b) _ s (stands-constant g w d b s)

pub lowers-boot : (g : Graph) (w : Words) (d : Drawing) → Sound g w d → Lowers g w d d (Copy (record { 0 = d.given })) (form_sense g formulas.Boot) 0
lowers-boot g w d s = lowers-here g w d (Copy (record { 0 = d.given })) _ 0 s (op-copy g d (record { 0 = d.given }) _ (stands-boot g w d s)) (omega arith)

absent-input : (g : Graph) (t : Occasion g) (n given : ℕ) → given ≤ n → given ≡ length t.event → false ≡ slice_index_or t.event n false
absent-input g t n given low e = let out : length t.event ≤ n = omega arith in sym (get_or-eq_default t.event false out)

stands-given : (g : Graph) (w : Words) (d : Drawing) (x : SigId) → Sound g w d → Stands g d (input_net d x.0).0 (form_sense g (formulas.Input x))
unfolding form_sense
stands-given g w d x s = elim (cases_lt x.0 d.given) [
  | inl low ↦
      let is = lt-ltb x.0 d.given low in
      rw is (stands-input g w d x.0 s low)
  | inr high ↦
      let is = le-ltb x.0 d.given high in
      rw is (stands-is g d d.no.0 (λ t. false) (form_sense g (formulas.Input x))
      (λ i t. absent-input g t.occasion x.0 d.given high (omega (arith, s.given, t.occasion.one_per_given)) i) s.no)
]

pub lowers-input : (g : Graph) (w : Words) (d : Drawing) (x : SigId) → Sound g w d → Lowers g w d d (Copy (input_net d x.0)) (form_sense g (formulas.Input x)) 0
lowers-input g w d x s = lowers-net g w d (input_net d x.0) _ s (stands-given g w d x s)

wire-form : (g : Graph) (v : WireId) → wire_sense g v.0 ≡ form_sense g (formulas.Wire v)
unfolding form_sense wire_sense
wire-form g v = refl

pub lowers-wire : (g : Graph) (w : Words) (d : Drawing) (v : WireId) (n : NetId) → Sound g w d → slice_index_or d.wires v.0 None ≡ Some n
    → Lowers g w d d (Copy n) (form_sense g (formulas.Wire v)) 0
lowers-wire g w d v n s e =
    lowers-here g w d (Copy n) _ 0 s (op-copy g d n _ (stands-is g d n.0 _ _ (wire-form g v) (s.wires v.0 n e))) (omega arith)

lowers-source : (g : Graph) (w : Words) (d : Drawing) (x : Source) (m : Sense g) → Sound g w d → SourceReady d x → source_sense g w x ≡ m
    → Lowers g w d d (Copy (source_net d x)) m 0
lowers-source g w d x m s ready e =
    lowers-net g w d (source_net d x) m s (stands-is g d (source_net d x).0 _ m e (stands-source g w d x s ready))

selected-form : (g : Graph) (w : Words) (p : PathId) → AreWordsOf g w → source_sense g w (selected_source w p.0) ≡ form_sense g (formulas.Selected p)
unfolding form_sense source_sense
selected-form g w p a = λ i t. a.selected t.occasion p.0 (false-off_wires g t) i

pub lowers-selected : (g : Graph) (w : Words) (d : Drawing) (p : PathId) → AreWordsOf g w → Sound g w d → SourceReady d (selected_source w p.0)
    → Lowers g w d d (Copy (source_net d (selected_source w p.0))) (form_sense g (formulas.Selected p)) 0
lowers-selected g w d p a s ready = lowers-source g w d (selected_source w p.0) _ s ready (selected-form g w p a)

kept-form : (g : Graph) (w : Words) (x : InstId) → AreWordsOf g w → x.0 < length g.instances.list.items
    → source_sense g w (kept_source w x.0) ≡ form_sense g (formulas.Kept x)
unfolding form_sense source_sense
kept-form g w x a h = λ i t. a.kept t.occasion x.0 (sources.Const false) (false-off_wires g t) h i

pub lowers-kept : (g : Graph) (w : Words) (d : Drawing) (x : InstId) (k : Source) → AreWordsOf g w → Sound g w d
    → x.0 < length g.instances.list.items → SourceReady d (kept_source w x.0) → k ≡ kept_source w x.0
    → Lowers g w d d (Copy (source_net d k)) (form_sense g (formulas.Kept x)) 0
lowers-kept g w d x k a s h ready e =
    subst (λ y. Lowers g w d d (Copy (source_net d y)) (form_sense g (formulas.Kept x)) 0) (sym e)
    (lowers-source g w d (kept_source w x.0) _ s ready (kept-form g w x a h))

held-form : (g : Graph) (w : Words) (x : InstId) → AreWordsOf g w → x.0 < length g.instances.list.items
    → source_sense g w (held_source w x.0) ≡ form_sense g (formulas.Held x)
unfolding form_sense source_sense
held-form g w x a h = λ i t. a.held t.occasion x.0 (sources.Const false) (false-off_wires g t) h i

pub lowers-held : (g : Graph) (w : Words) (d : Drawing) (x : InstId) (k : Source) → AreWordsOf g w → Sound g w d
    → x.0 < length g.instances.list.items → SourceReady d (held_source w x.0) → k ≡ held_source w x.0
    → Lowers g w d d (Copy (source_net d k)) (form_sense g (formulas.Held x)) 0
lowers-held g w d x k a s h ready e =
    subst (λ y. Lowers g w d d (Copy (source_net d y)) (form_sense g (formulas.Held x)) 0) (sym e)
    (lowers-source g w d (held_source w x.0) _ s ready (held-form g w x a h))

upto-form : (g : Graph) (w : Words) (x : InstId) (k : ℕ) → AreWordsOf g w → x.0 < length g.instances.list.items
    → run_sense g (first_end w x.0) (ends_upto g w x.0 k) ≡ form_sense g (formulas.Upto x k)
unfolding form_sense run_sense
upto-form g w x k a h = λ i t. a.upto t.occasion x.0 k (false-off_wires g t) h i

lowers-is : (g : Graph) (w : Words) (old new : Drawing) (op : Op) (m n : Sense g) (cost : ℕ) → m ≡ n → Lowers g w old new op m cost
    → Lowers g w old new op n cost
lowers-is g w old new op m n cost e l = record { grew = l.grew; stands = op-is g new op m n e l.stands; within = l.within }

pub lowers-upto : (g : Graph) (w : Words) (old new : Drawing) (op : Op) (x : InstId) (k : ℕ) → AreWordsOf g w → x.0 < length g.instances.list.items
    → Lowers g w old new op (run_sense g (first_end w x.0) (ends_upto g w x.0 k)) 0 → Lowers g w old new op (form_sense g (formulas.Upto x k)) 0
lowers-upto g w old new op x k a h l = lowers-is g w old new op _ _ 0 (upto-form g w x k a h) l

pub lowers-not : (g : Graph) (w : Words) (old new : Drawing) (n : NetId) (f : Formula) (m : Sense g) (cost : ℕ) →
    (λ (t : Instant g). not (m t)) ≡ form_sense g f
    → Places g w old new n.0 m cost → Lowers g w old new (Not n) (form_sense g f) (cost + 1)
lowers-not g w old new n f m cost e p = record {
  grew = p.grew;
  stands = op-is g new (Not n) _ _ e (op-not g new n m p.stands);
  within = omega (arith, p.within);
}

both-stand : (g : Graph) (w : Words) (old mid new : Drawing) (a : ℕ) (m : Sense g) → Grew g w mid new → Stands g mid a m → Stands g new a m
both-stand g w old mid new a m q s = q.stays a m s

pub lowers-and : (g : Graph) (w : Words) (old mid new : Drawing) (a b : NetId) (f : Formula) (m n : Sense g) (x y : ℕ)
    → (λ (t : Instant g). m t && n t) ≡ form_sense g f → Places g w old mid a.0 m x → Places g w mid new b.0 n y
    → Lowers g w old new (And a b) (form_sense g f) (x + y + 1)
lowers-and g w old mid new a b f m n x y e p q = record {
  grew = grew-trans g w old mid new p.grew q.grew;
  stands = op-is g new (And a b) _ _ e (op-and g new a b m n (q.grew.stays a.0 m p.stands) q.stands);
  within = omega (arith, p.within, q.within);
}

pub lowers-or : (g : Graph) (w : Words) (old mid new : Drawing) (a b : NetId) (f : Formula) (m n : Sense g) (x y : ℕ)
    → (λ (t : Instant g). m t || n t) ≡ form_sense g f → Places g w old mid a.0 m x → Places g w mid new b.0 n y
    → Lowers g w old new (Or a b) (form_sense g f) (x + y + 1)
lowers-or g w old mid new a b f m n x y e p q = record {
  grew = grew-trans g w old mid new p.grew q.grew;
  stands = op-is g new (Or a b) _ _ e (op-or g new a b m n (q.grew.stays a.0 m p.stands) q.stands);
  within = omega (arith, p.within, q.within);
}

-- the or of wires, one after another or to the right
any-values : (g : Graph) (t : Instant g) (list : List WireId)
    → list_any (λ (v : WireId). wire_value g t.occasion v.0) list
    ≡ formula_value (plain_graph g) (state_in g t.occasion) t.occasion.event t.occasion.valuation
    (plain.any_of (map (λ (v : WireId). plain.Value (wire_at (names_of g) v.0)) list))
any-values g t [] = refl
any-values g t (v ∷ []) = or-false (wire_value g t.occasion v.0) where
  or-false : (b : Bool) → (b || false) ≡ b
  or-false true = refl
  or-false false = refl
any-values g t (v ∷ (u ∷ list)) = ap (λ b. wire_value g t.occasion v.0 || b) (any-values g t (u ∷ list))

pub any-form : (g : Graph) (f : Formula) (list : List WireId) → formula_of (instances_of g) (names_of g) f ≡
    plain.any_of (map (λ (v : WireId). plain.Value (wire_at (names_of g) v.0)) list)
    → any_sense g list ≡ form_sense g f
unfolding form_sense any_sense
any-form g f list e = λ i t. (any-values g t list ∙ ap (formula_value (plain_graph g) (state_in g t.occasion) t.occasion.event t.occasion.valuation) (sym e)) i

pub lowers-any : (g : Graph) (w : Words) (old new : Drawing) (op : Op) (f : Formula) (list : List WireId) (cost : ℕ)
    → formula_of (instances_of g) (names_of g) f ≡ plain.any_of (map (λ (v : WireId). plain.Value (wire_at (names_of g) v.0)) list)
    → Lowers g w old new op (any_sense g list) cost → Lowers g w old new op (form_sense g f) cost
lowers-any g w old new op f list cost e l = lowers-is g w old new op _ _ cost (any-form g f list e) l
