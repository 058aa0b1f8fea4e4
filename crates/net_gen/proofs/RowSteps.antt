-- One more row, and what a circuit is once its rows are made.
use Rattle.std.proofs.Common.{◌≡◌, ℕ, ◌+◌, ◌<◌, ◌≤◌, ◌^◌, Bool, not, ◌&&◌, ◌||◌, List, [], ◌∷◌, ◌++◌, length, slice_index_or, slice_set, refl, sym, ap, ◌∙◌}
use Rattle.std.proofs.Common.{subst, arith, Option, Some, None, inl, inr}
use Rattle.std.proofs.lemmas.List.{length-set, length_push}
use Rattle.std.proofs.lemmas.Bool.{cases_lt}
use Rattle.base_types.specs.declared.indices.NetId.{NetId}
use Rattle.grc_graph.specs.declared.graph.Graph.{Graph}
use Rattle.grc_formulas.specs.declared.table.Source.{Source}
use Rattle.grc_formulas.specs.declared.table.Source.TheVariants as sources
use Rattle.grc_formulas.specs.declared.table.Row.{Row}
use Rattle.grc_formulas.specs.declared.table.Row.TheVariants as rows
use Rattle.grc_formulas.specs.declared.table.Words.{Words}
use Rattle.grc_formulas.specs.Occasions.{surroundings}
use Rattle.grc_formulas.specs.Rows.{row_value, row_values}
use Rattle.grc_formulas.specs.WordLaws.{WordsFit}
use Rattle.net_ir.specs.declared.netlist.Op.{Op}
use Rattle.net_ir.specs.declared.netlist.Op.TheVariants.{Not, And, Or}
use Rattle.net_gen.specs.Drawings.{Drawing, Placed, next_number, with_gate, with_row}
use Rattle.net_gen.specs.Growing.{Grew, spent}
use Rattle.net_gen.specs.Making.{RowsMade}
use Rattle.net_gen.specs.Readiness.{SourceReady, RowReady, SourceReads, RowReads, RowsPlaced, source_net, row_op}
use Rattle.net_gen.specs.Senses.{Instant, Sense, Sound, Stands, OpStands, row_sense, source_sense}
use Rattle.net_gen.proofs.GraphValues.{row-value}
use Rattle.net_gen.proofs.Growth.{grew-gate, stands-new}
use Rattle.net_gen.proofs.Lowering.{placed-stays}
use Rattle.net_gen.proofs.Sensing.{op-not, op-and, op-or, op-is}
use Rattle.net_gen.proofs.Tables.{table-set, placed-here, placed-set}
use Rattle.net_gen.proofs.Wording.{stands-source}

source-now : (g : Graph) (w : Words) (old now : Drawing) (k : ℕ) (x : Source) → Sound g w old → Sound g w now → now.wires ≡ old.wires
    → RowsPlaced now k → SourceReads old k x → SourceReady now x
source-now g w old now k (sources.Const b) s u e p r = r
source-now g w old now k (sources.Leaf n) s u e p r = omega (arith, s.given, s.first, u.given, u.first)
source-now g w old now k (sources.Input n) s u e p r = omega (arith, s.given, u.given)
source-now g w old now k (sources.Wire v) s u e p r = placed-stays old.wires now.wires v.0 e r
source-now g w old now k (sources.Row n) s u e p r = p n r

-- a row is ready once all rows before it are made
pub row-now : (g : Graph) (w : Words) (old now : Drawing) (k : ℕ) (x : Row) → Sound g w old → Sound g w now → now.wires ≡ old.wires
    → RowsPlaced now k → RowReads old k x → RowReady now x
row-now g w old now k (rows.Not a) s u e p r = source-now g w old now k a s u e p r
row-now g w old now k (rows.And a b) s u e p r = (source-now g w old now k a s u e p r.0, source-now g w old now k b s u e p r.1)
row-now g w old now k (rows.Or a b) s u e p r = (source-now g w old now k a s u e p r.0, source-now g w old now k b s u e p r.1)

not-sense : (g : Graph) (w : Words) (k : ℕ) (a : Source) → WordsFit g w → k < length w.rows.items → slice_index_or w.rows.items k (rows.Not a) ≡ rows.Not a
    → (λ (t : Instant g). not (source_sense g w a t)) ≡ row_sense g w k
unfolding source_sense row_sense
not-sense g w k a fit low e = λ i t. sym (row-value g w t.occasion k (rows.Not a) fit low
    ∙ ap (row_value (surroundings g t.occasion) (row_values (surroundings g t.occasion) [] w.rows.items)) e) i

and-sense : (g : Graph) (w : Words) (k : ℕ) (a b : Source) → WordsFit g w → k < length w.rows.items
    → slice_index_or w.rows.items k (rows.And a b) ≡ rows.And a b
    → (λ (t : Instant g). source_sense g w a t && source_sense g w b t) ≡ row_sense g w k
unfolding source_sense row_sense
and-sense g w k a b fit low e = λ i t. sym (row-value g w t.occasion k (rows.And a b) fit low
    ∙ ap (row_value (surroundings g t.occasion) (row_values (surroundings g t.occasion) [] w.rows.items)) e) i

or-sense : (g : Graph) (w : Words) (k : ℕ) (a b : Source) → WordsFit g w → k < length w.rows.items
    → slice_index_or w.rows.items k (rows.Or a b) ≡ rows.Or a b
    → (λ (t : Instant g). source_sense g w a t || source_sense g w b t) ≡ row_sense g w k
unfolding source_sense row_sense
or-sense g w k a b fit low e = λ i t. sym (row-value g w t.occasion k (rows.Or a b) fit low
    ∙ ap (row_value (surroundings g t.occasion) (row_values (surroundings g t.occasion) [] w.rows.items)) e) i

-- a row as an operator
pub op-row : (g : Graph) (w : Words) (d : Drawing) (k : ℕ) (x : Row) → Sound g w d → WordsFit g w → k < length w.rows.items
    → slice_index_or w.rows.items k x ≡ x → RowReady d x → OpStands g d (row_op d x) (row_sense g w k)
op-row g w d k (rows.Not a) s fit low e r =
    op-is g d (Not (source_net d a)) _ _ (not-sense g w k a fit low e) (op-not g d (source_net d a) _ (stands-source g w d a s r))
op-row g w d k (rows.And a b) s fit low e r =
    op-is g d (And (source_net d a) (source_net d b)) _ _ (and-sense g w k a b fit low e)
    (op-and g d (source_net d a) (source_net d b) _ _ (stands-source g w d a s r.0) (stands-source g w d b s r.1))
op-row g w d k (rows.Or a b) s fit low e r =
    op-is g d (Or (source_net d a) (source_net d b)) _ _ (or-sense g w k a b fit low e)
    (op-or g d (source_net d a) (source_net d b) _ _ (stands-source g w d a s r.0) (stands-source g w d b s r.1))

-- a row is noted
abbrev with_entry : Drawing → ℕ → NetId → Drawing
with_entry d r a = record d { rows = slice_set d.rows r (Some a) }

entry-stands : (g : Graph) (d : Drawing) (r n : ℕ) (a : NetId) (m : Sense g) → Stands g d n m → Stands g (with_entry d r a) n m
entry-stands g d r n a m s = record { below = s.below; says = s.says }

sound-entry : (g : Graph) (w : Words) (d : Drawing) (r : ℕ) (a : NetId) → Sound g w d → Stands g d a.0 (row_sense g w r) → r < length d.rows
    → Sound g w (with_entry d r a)
sound-entry g w d r a s h low =
    let table = table-set g d d.rows (row_sense g w) r a s.rows h low in
    record {
      given = s.given;
      first = s.first;
      numbered = s.numbered;
      reads = s.reads;
      no = entry-stands g d r d.no.0 a _ s.no;
      yes = entry-stands g d r d.yes.0 a _ s.yes;
      wires = λ k n e. entry-stands g d r n.0 a _ (s.wires k n e);
      ends = λ k n e. entry-stands g d r n.0 a _ (s.ends k n e);
      rows = λ k n e. entry-stands g d r n.0 a _ (table k n e);
      carrying = s.carrying;
      wires_all = s.wires_all;
      ends_all = s.ends_all;
      rows_all = length-set d.rows r (Some a) ∙ s.rows_all;
    }

pub rows-begun : (g : Graph) (w : Words) (d : Drawing) (from : ℕ) → Sound g w d → RowsPlaced d from → RowsMade g w d d from from
rows-begun g w d from s p = record { sound = s; stays = λ n m h. h; wires = refl; carries = refl; placed = p; within = omega arith }

rows-more : (g : Graph) (w : Words) (old now : Drawing) (op : Op) (from k : ℕ) → RowsMade g w old now from k → OpStands g now op (row_sense g w k)
    → k < length w.rows.items → next_number now < 2 ^ 32 → RowsMade g w old (with_row now op k) from (k + 1)
rows-more g w old now op from k m o low room =
    let s = m.sound in
    let mid = with_gate now op None in
    let grew = grew-gate g w now op s o.below room in
    let a : NetId = record { 0 = next_number now } in
    let here : k < length now.rows = omega (arith, s.rows_all) in
    let h = stands-new g now op None _ s.first o in
    let longer = length_push now.gates (record { op = op; wire = None }) in
    record {
      sound = sound-entry g w mid k a grew.sound h here;
      stays = λ n x e. entry-stands g mid k n a x (grew.stays n x (m.stays n x e));
      wires = m.wires;
      carries = grew.carries ∙ m.carries;
      placed = λ j h. elim (cases_lt j k) [
        | inl less ↦ placed-set now.rows j k a here (m.placed j less)
        | inr more ↦
            let same : j ≡ k = omega arith in
            subst (λ i. Placed (slice_set now.rows k (Some a)) i) (sym same) (placed-here now.rows k a here)
      ];
      within = omega (arith, m.within);
    }

-- one more row
pub rows-step : (g : Graph) (w : Words) (old now new : Drawing) (op : Op) (from k : ℕ) (x : Row) → RowsMade g w old now from k → WordsFit g w
    → k < length w.rows.items → slice_index_or w.rows.items k x ≡ x → RowReady now x → op ≡ row_op now x → new ≡ with_row now op k → next_number now < 2 ^ 32
    → RowsMade g w old new from (k + 1)
rows-step g w old now new op from k x m fit low e ready is drawn room =
    let o = op-row g w now k x m.sound fit low e ready in
    let made = rows-more g w old now op from k m (subst (λ y. OpStands g now y (row_sense g w k)) (sym is) o) low room in
    subst (λ d. RowsMade g w old d from (k + 1)) (sym drawn) made
