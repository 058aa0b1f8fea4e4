-- What rows and sources may read, and which nets there are.
use Rattle.std.proofs.Common.{◌≡◌, ℕ, zero, suc, ◌<◌, ◌≤◌, Bool, List, [], ◌∷◌, ◌++◌, length, map, slice_index_or, refl, sym, ◌∙◌}
use Rattle.std.proofs.Common.{subst, arith}
use Rattle.std.proofs.Common.{IsTrue}
use Rattle.std.specs.List.{range_with_len}
use Rattle.std.proofs.lemmas.Bool.{and_from, and_parts}
use Rattle.std.proofs.lemmas.List.{length-map}
use Rattle.std.proofs.lemmas.List.FromFn.{get_or-map-range_with_len, length-range_with_len}
use Rattle.base_types.specs.declared.indices.NetId.{NetId}
use Rattle.grc_formulas.specs.declared.table.Source.{Source}
use Rattle.grc_formulas.specs.declared.table.Source.TheVariants as sources
use Rattle.grc_formulas.specs.declared.table.Row.{Row}
use Rattle.grc_formulas.specs.declared.table.Row.TheVariants as rows
use Rattle.grc_formulas.specs.Rows.{Bounds, row_fits, source_fits}
use Rattle.net_unroll.specs.declared.growing.Growing.{Growing}
use Rattle.net_unroll.specs.Copies.{AreNets, Grows, next_number, values_at}
use Rattle.net_unroll.proofs.Exports.{grows-value}
use Rattle.grc_ternary_gates.proofs.Exports.{lt-more}
use Rattle.net_cycles.specs.Bases.{numbered_nets}

-- ---- bounds

pub record IsLess (B C : Bounds) : Type 0 where
  pub leaves : B.leaves ≤ C.leaves
  pub given : B.given ≤ C.given
  pub wires : B.wires ≤ C.wires
  pub rows : B.rows ≤ C.rows

pub source-more : (B C : Bounds) (s : Source) → IsLess B C → IsTrue (source_fits B s) → IsTrue (source_fits C s)
source-more B C (sources.Const c) l fits = refl
source-more B C (sources.Leaf k) l fits = lt-more k B.leaves C.leaves l.leaves fits
source-more B C (sources.Input s) l fits = lt-more s.0 B.given C.given l.given fits
source-more B C (sources.Wire v) l fits = lt-more v.0 B.wires C.wires l.wires fits
source-more B C (sources.Row r) l fits = lt-more r B.rows C.rows l.rows fits

pub row-more : (B C : Bounds) (r : Row) → IsLess B C → IsTrue (row_fits B r) → IsTrue (row_fits C r)
row-more B C (rows.Not a) l fits = source-more B C a l fits
row-more B C (rows.And a c) l fits =
    let p = and_parts (source_fits B a) (source_fits B c) fits in and_from _ _ (source-more B C a l p.0) (source-more B C c l p.1)
row-more B C (rows.Or a c) l fits =
    let p = and_parts (source_fits B a) (source_fits B c) fits in and_from _ _ (source-more B C a l p.0) (source-more B C c l p.1)

-- ---- lists of nets

pub no-nets : (d : Growing) → AreNets d []
no-nets d = λ i x low. absurd (omega arith)

pub cons-nets : (d : Growing) (n : NetId) (ns : List NetId) → n.0 < next_number d → AreNets d ns → AreNets d (n ∷ ns)
cons-nets d n ns low are zero x h = low
cons-nets d n ns low are (suc k) x h = are k x (omega arith)

pub append-nets : (d : Growing) (ns ms : List NetId) → AreNets d ns → AreNets d ms → AreNets d (ns ++ ms)
append-nets d [] ms are these = these
append-nets d (n ∷ ns) ms are these =
    cons-nets d n (ns ++ ms) (are 0 n (omega arith)) (append-nets d ns ms (λ k x h. are (suc k) x (omega arith)) these)

abbrev net_of : ℕ → NetId
net_of n = record { 0 = n }

pub length-numbered : (n : ℕ) → length (numbered_nets n) ≡ n
length-numbered n = length-map (range_with_len 0 n) net_of ∙ length-range_with_len 0 n

pub numbered-are : (d : Growing) (n : ℕ) → n ≤ next_number d → AreNets d (numbered_nets n)
numbered-are d n few = λ i x low.
    let m = length-numbered n in
    let at = get_or-map-range_with_len net_of 0 n i i x (omega arith) (omega arith) in
    subst (λ (y : NetId). y.0 < next_number d) (sym at) (omega arith)

pub mapped-are : (d : Growing) (f : Source → NetId) (ss : List Source) → ((k : ℕ) (s : Source) → k < length ss → (f (slice_index_or ss k s)).0 < next_number d)
    → AreNets d (map f ss)
mapped-are d f [] low = no-nets d
mapped-are d f (s ∷ ss) low = cons-nets d (f s) (map f ss) (low 0 s (omega arith)) (mapped-are d f ss (λ k x h. low (suc k) x (omega arith)))

-- nets keep their values
pub values-stay : (old new : Growing) (k : ℕ) (nets : List NetId) (front : List Bool) → Grows old new k → length front ≡ old.first → AreNets old nets
    → values_at new nets front ≡ values_at old nets front
values-stay old new k [] front g wide are = refl
values-stay old new k (n ∷ ns) front g wide are =
    let here = grows-value old new k front n.0 g wide (are 0 n (omega arith)) in
    let rest = values-stay old new k ns front g wide (λ i x h. are (suc i) x (omega arith)) in
    λ i. here i ∷ rest i
