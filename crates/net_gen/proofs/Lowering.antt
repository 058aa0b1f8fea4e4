-- Formulas in gates, from their parts.
use Rattle.std.proofs.Common.{◌≡◌, ℕ, ◌+◌, ◌<◌, ◌≤◌, ◌^◌, Bool, not, ◌&&◌, ◌||◌, List, length, slice_index_or, refl, sym, ap, ◌∙◌, subst, arith, Option, Some}
use Rattle.std.proofs.Common.{None, All}
use Rattle.base_types.specs.declared.indices.NetId.{NetId}
use Rattle.base_types.specs.declared.indices.WireId.{WireId}
use Rattle.grc_graph.specs.declared.formulas.Formula.{Formula}
use Rattle.grc_graph.specs.declared.formulas.Formula.TheVariants as formulas
use Rattle.grc_graph.specs.declared.graph.Graph.{Graph}
use Rattle.grc_graph.specs.Formulas.{Negation, Conjunction, Disjunction}
use Rattle.grc_graph.specs.GraphRuns.{formula_value}
use Rattle.grc_graph.specs.PlainGraphs.{formula_of, instances_of, names_of, plain_graph}
use Rattle.grc_formulas.specs.declared.table.Source.{Source}
use Rattle.grc_formulas.specs.declared.table.Source.TheVariants as sources
use Rattle.grc_formulas.specs.declared.table.Words.{Words}
use Rattle.grc_formulas.specs.Occasions.{state_in}
use Rattle.grc_formulas.specs.WordLaws.{selected_source}
use Rattle.net_ir.specs.declared.netlist.Op.{Op}
use Rattle.net_ir.specs.declared.netlist.Op.TheVariants.{Const, Copy, Not, And, Or}
use Rattle.grc_graph.specs.GateCosts.{cost_of}
use Rattle.net_gen.specs.Drawings.{Drawing, Placed, with_net, net_number}
use Rattle.net_gen.specs.Growing.{Grew, Lowers, Places}
use Rattle.net_gen.specs.Readiness.{SourceReady, FormulaReady, EndsReady, kept_source, held_source}
use Rattle.net_gen.specs.Senses.{Instant, Sense, Sound, form_sense}
use Rattle.net_gen.proofs.Growth.{places-lowered}
use Rattle.net_gen.proofs.Wording.{lowers-not, lowers-and, lowers-or}

pub placed-stays : (old new : List (Option NetId)) (k : ℕ) → new ≡ old → Placed old k → Placed new k
placed-stays old new k e p = (p.0, ap (λ xs. slice_index_or xs k None) e ∙ p.1)

-- what is ready stays so while a circuit grows
pub source-stays : (g : Graph) (w : Words) (old new : Drawing) (s : Source) → Sound g w old → Grew g w old new → SourceReady old s → SourceReady new s
source-stays g w old new (sources.Const b) sound q r = r
source-stays g w old new (sources.Leaf k) sound q r = omega (arith, sound.given, sound.first, q.sound.given, q.sound.first)
source-stays g w old new (sources.Input s) sound q r = omega (arith, sound.given, q.sound.given)
source-stays g w old new (sources.Wire v) sound q r = placed-stays old.wires new.wires v.0 q.wires r
source-stays g w old new (sources.Row k) sound q r = placed-stays old.rows new.rows k q.rows r

pub ready-stays : (g : Graph) (w : Words) (old new : Drawing) (f : Formula) → Sound g w old → Grew g w old new → FormulaReady g w old f → FormulaReady g w new f
ready-stays g w old new (formulas.Const b) sound q r = r
ready-stays g w old new formulas.Boot sound q r = r
ready-stays g w old new (formulas.Input s) sound q r = r
ready-stays g w old new (formulas.Wire v) sound q r = placed-stays old.wires new.wires v.0 q.wires r
ready-stays g w old new (formulas.Selected p) sound q r = source-stays g w old new (selected_source w p.0) sound q r
ready-stays g w old new (formulas.Upto i k) sound q r = (r.0, λ v low high. placed-stays old.wires new.wires v q.wires (r.1 v low high))
ready-stays g w old new (formulas.Kept i) sound q r = (r.0, source-stays g w old new (kept_source w i.0) sound q r.1)
ready-stays g w old new (formulas.Held i) sound q r = (r.0, source-stays g w old new (held_source w i.0) sound q r.1)
ready-stays g w old new (formulas.Not' x a) sound q r = ready-stays g w old new a sound q r
ready-stays g w old new (formulas.And' x a y b) sound q r = (ready-stays g w old new a sound q r.0, ready-stays g w old new b sound q r.1)
ready-stays g w old new (formulas.Or' x a y b) sound q r = (ready-stays g w old new a sound q r.0, ready-stays g w old new b sound q r.1)
ready-stays g w old new (formulas.AnyOf v) sound q r = λ k d h. placed-stays old.wires new.wires (slice_index_or v.items k d).0 q.wires (r k d h)

-- the same formula by another name
pub lowers-same : (g : Graph) (w : Words) (old new : Drawing) (op : Op) (f k : Formula) → f ≡ k → Lowers g w old new op (form_sense g k) (cost_of k)
    → Lowers g w old new op (form_sense g f) (cost_of f)
lowers-same g w old new op f k e l = subst (λ x. Lowers g w old new op (form_sense g x) (cost_of x)) (sym e) l

not-form : (g : Graph) (f a : Formula) → formula_of (instances_of g) (names_of g) f ≡ Negation (formula_of (instances_of g) (names_of g) a)
    → (λ (t : Instant g). not (form_sense g a t)) ≡ form_sense g f
unfolding form_sense
not-form g f a e = λ i t. formula_value (plain_graph g) (state_in g t.occasion) t.occasion.event t.occasion.valuation (sym e i)

and-form : (g : Graph) (f a b : Formula) → formula_of (instances_of g) (names_of g) f
    ≡ Conjunction (formula_of (instances_of g) (names_of g) a) (formula_of (instances_of g) (names_of g) b)
    → (λ (t : Instant g). form_sense g a t && form_sense g b t) ≡ form_sense g f
unfolding form_sense
and-form g f a b e = λ i t. formula_value (plain_graph g) (state_in g t.occasion) t.occasion.event t.occasion.valuation (sym e i)

or-form : (g : Graph) (f a b : Formula) → formula_of (instances_of g) (names_of g) f
    ≡ Disjunction (formula_of (instances_of g) (names_of g) a) (formula_of (instances_of g) (names_of g) b)
    → (λ (t : Instant g). form_sense g a t || form_sense g b t) ≡ form_sense g f
unfolding form_sense
or-form g f a b e = λ i t. formula_value (plain_graph g) (state_in g t.occasion) t.occasion.event t.occasion.valuation (sym e i)

pub not-lowered : (g : Graph) (w : Words) (old mid new : Drawing) (f a : Formula) (op : Op) (n : NetId)
    → formula_of (instances_of g) (names_of g) f ≡ Negation (formula_of (instances_of g) (names_of g) a) → cost_of f ≡ cost_of a + 1
    → Lowers g w old mid op (form_sense g a) (cost_of a) → new ≡ with_net mid op → n.0 ≡ net_number mid op → net_number mid op < 2 ^ 32
    → Lowers g w old new (Not n) (form_sense g f) (cost_of f)
not-lowered g w old mid new f a op n form cost l drawn number room =
    let p = places-lowered g w old mid new op n.0 _ (cost_of a) l drawn number room in
    subst (λ k. Lowers g w old new (Not n) (form_sense g f) k) (sym cost) (lowers-not g w old new n f _ (cost_of a) (not-form g f a form) p)

pub and-lowered : (g : Graph) (w : Words) (old one two three new : Drawing) (f a b : Formula) (x y : Op) (m n : NetId)
    → formula_of (instances_of g) (names_of g) f ≡ Conjunction (formula_of (instances_of g) (names_of g) a) (formula_of (instances_of g) (names_of g) b)
    → cost_of f ≡ cost_of a + cost_of b + 1
    → Lowers g w old one x (form_sense g a) (cost_of a) → two ≡ with_net one x → m.0 ≡ net_number one x → net_number one x < 2 ^ 32
    → Lowers g w two three y (form_sense g b) (cost_of b) → new ≡ with_net three y → n.0 ≡ net_number three y → net_number three y < 2 ^ 32
    → Lowers g w old new (And m n) (form_sense g f) (cost_of f)
and-lowered g w old one two three new f a b x y m n form cost l drawn number room k drawn2 number2 room2 =
    let p = places-lowered g w old one two x m.0 _ (cost_of a) l drawn number room in
    let q = places-lowered g w two three new y n.0 _ (cost_of b) k drawn2 number2 room2 in
    subst (λ j. Lowers g w old new (And m n) (form_sense g f) j) (sym cost)
    (lowers-and g w old two new m n f _ _ (cost_of a) (cost_of b) (and-form g f a b form) p q)

pub or-lowered : (g : Graph) (w : Words) (old one two three new : Drawing) (f a b : Formula) (x y : Op) (m n : NetId)
    → formula_of (instances_of g) (names_of g) f ≡ Disjunction (formula_of (instances_of g) (names_of g) a) (formula_of (instances_of g) (names_of g) b)
    → cost_of f ≡ cost_of a + cost_of b + 1
    → Lowers g w old one x (form_sense g a) (cost_of a) → two ≡ with_net one x → m.0 ≡ net_number one x → net_number one x < 2 ^ 32
    → Lowers g w two three y (form_sense g b) (cost_of b) → new ≡ with_net three y → n.0 ≡ net_number three y → net_number three y < 2 ^ 32
    → Lowers g w old new (Or m n) (form_sense g f) (cost_of f)
or-lowered g w old one two three new f a b x y m n form cost l drawn number room k drawn2 number2 room2 =
    let p = places-lowered g w old one two x m.0 _ (cost_of a) l drawn number room in
    let q = places-lowered g w two three new y n.0 _ (cost_of b) k drawn2 number2 room2 in
    subst (λ j. Lowers g w old new (Or m n) (form_sense g f) j) (sym cost)
    (lowers-or g w old two new m n f _ _ (cost_of a) (cost_of b) (or-form g f a b form) p q)

-- the second part is still ready when the first has its net
pub second-ready : (g : Graph) (w : Words) (old one two : Drawing) (a b : Formula) (x : Op) (m : NetId) → Sound g w old
    → Lowers g w old one x (form_sense g a) (cost_of a) → two ≡ with_net one x → m.0 ≡ net_number one x → net_number one x < 2 ^ 32
    → FormulaReady g w old b → Sound g w two × FormulaReady g w two b
second-ready g w old one two a b x m s l drawn number room r =
    let p = places-lowered g w old one two x m.0 _ (cost_of a) l drawn number room in
    (p.grew.sound, ready-stays g w old two b s p.grew r)
