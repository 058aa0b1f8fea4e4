-- The depths of the nets of slots, as tables are drawn one after another.
use Rattle.std.proofs.Common.{◌≡◌, ◌≢◌, ℕ, ◌+◌, ◌-◌, ◌<◌, ◌≤◌, max, zero, suc, List, [], ◌∷◌, ◌++◌, length, map, get_or, set, All, ◌⊎◌, inl, inr}
use Rattle.std.proofs.Common.{refl, sym, ap, ◌∙◌, arith, replicate, Some, None, false, slice_index_or, slice_index}
use Rattle.std.proofs.Common.{length-set, get_or-set_same, get_or-set_other}
use Rattle.std.proofs.lemmas.Grind.{common_steps}
use Rattle.std.proofs.lemmas.Bool.{cases_lt}
use Rattle.std.proofs.lemmas.List.{length-map, map-set, get_or-map, get_or_past}
use Rattle.base_types.specs.declared.indices.NetId.{NetId}
use Rattle.net_ir.specs.declared.netlist.Gate.{Gate}
use Rattle.net_ir.specs.declared.netlist.Op.TheVariants.{Const}
use Rattle.blif_text.specs.declared.circuit.Cell.{Cell}
use Rattle.blif_text.specs.Circuits.{Table}
use Rattle.blif_run.specs.Truths.{no_table}
use Rattle.run_steps.specs.Order.{IsEvaluationOrder, edges_from}
use Rattle.run_steps.proofs.Exports.{in-edges}
use Rattle.blif_net.specs.Depths.{gate_depths, greatest, or_constant, table_depth}
use Rattle.blif_net.specs.Drawings.{Deepens, read_depths}
use Rattle.blif_net.specs.Tables.{AddsDepth, BeginsFlat, slot_depths, slots_depth}
use Rattle.blif_net.proofs.DepthLaws.{at-most, depths-stay}
use Rattle.blif_net.proofs.OrderSums.{no-repetition}

abbrev none : NetId
none = record { 0 = 0 }

-- the depths of some nets, by the places of the nets
depths-at : (nets : List NetId) (depths slots : List ℕ) → All (λ s. s < length nets) slots
    → read_depths (map (λ s. slice_index_or nets s none) slots) depths ≡ map (λ s. slice_index_or (read_depths nets depths) s 0) slots
depths-at nets depths [] low = refl
depths-at nets depths (s ∷ slots) low =
    let here : get_or depths (get_or nets s none).0 0 ≡ get_or (read_depths nets depths) s 0 =
    sym (get_or-map (λ (n : NetId). get_or depths n.0 0) nets s none 0 (low 0 s (omega arith))) in
    rw (here, depths-at nets depths slots (λ k d h. low (suc k) d (omega (arith, h)))) refl

-- one more table
pub adds-depth : (first : ℕ) (gates more others : List Gate) (nets inputs : List NetId) (net : NetId) (reads : List ℕ) (slot : ℕ) (rows : List (List Cell))
    → All (λ n. n.0 < first + length gates) nets → All (λ s. s < length nets) reads
    → inputs ≡ map (λ s. slice_index_or nets s none) reads → more ≡ gates ++ others
    → Deepens first gates more (Some net) (λ depths. Some (table_depth rows (read_depths inputs depths)))
    → AddsDepth first gates nets more (set nets slot net) slot (slots_depth reads rows)
adds-depth first gates more others nets inputs net reads slot rows low reads_low are added d =
    record {
      deep = λ given wide.
          map-set (λ (n : NetId). get_or (gate_depths given more) n.0 0) nets slot net
          ∙ ap (λ l. set l slot (get_or (gate_depths given more) net.0 0)) (depths-stay first gates more others added given wide nets low)
          ∙ ap (set (slot_depths nets gates given) slot) (own given wide);
      top = λ given wide. d.top given wide ∙ ap (max (greatest (gate_depths given gates))) (own given wide);
    }
  where
    own : (given : List ℕ) → length given ≡ first → get_or (gate_depths given more) net.0 0 ≡ slots_depth reads rows (slot_depths nets gates given)
    own given wide =
        ap or_constant (d.deep given wide) ∙ ap (λ l. table_depth rows (read_depths l (gate_depths given gates))) are
        ∙ ap (table_depth rows) (depths-at nets (gate_depths given gates) reads reads_low)

-- before the first table
pub begins-flat : (first count : ℕ) (nets : List NetId) → length nets ≡ first + count
    → BeginsFlat first count (record { op = Const false; wire = None } ∷ []) nets
begins-flat first count nets each = record {
  each = each;
  flat = λ s. by s (cases_lt s (length nets));
  top = zeros-top first;
}
  where
    zeros : List ℕ
    zeros = replicate first 0 ++ 0 ∷ []

    zeros-top : (n : ℕ) → greatest (replicate n 0 ++ 0 ∷ []) ≡ 0
    zeros-top zero = refl
    zeros-top (suc n) = ap (λ m. max 0 m) (zeros-top n)

    at : (n : ℕ) → get_or zeros n 0 ≡ 0
    at n = omega (arith, at-most zeros n, zeros-top first)

    by : (s : ℕ) → (s < length nets) ⊎ (length nets ≤ s) → get_or (read_depths nets zeros) s 0 ≡ 0
    by s (inl low) = get_or-map (λ (n : NetId). get_or zeros n.0 0) nets s none 0 low ∙ at (get_or nets s none).0
    by s (inr high) = get_or_past (read_depths nets zeros) s 0 (omega (arith, high, length-map nets (λ (n : NetId). get_or zeros n.0 0)))

-- ---- in an order

-- tables in an order, by the place of each: each stands once, after those whose outputs it reads
pub record IsPlaced (first count : ℕ) (reads : List (List ℕ)) (order : List ℕ) (place : ℕ → ℕ) : Type 0 where
  pub nodes : (k : ℕ) → k < length order → get_or order k 0 < count
  pub places : (t : ℕ) → t < count → place t < length order
  pub stands : (t : ℕ) → t < count → get_or order (place t) 0 ≡ t
  pub own : (k : ℕ) → k < length order → place (get_or order k 0) ≡ k
  pub before : (t u j : ℕ) → t < count → u < count → j < length (get_or reads t []) → get_or (get_or reads t []) j 0 ≡ first + u → place u < place t

pub placed : (first count : ℕ) (reads : List (List ℕ)) (order : List ℕ) → length reads ≡ count
    → (is : IsEvaluationOrder count (edges_from first 0 reads) order) → IsPlaced first count reads order (λ t. length is.ranks - 1 - slice_index is.ranks t)
placed first count reads order each is =
    let ranked = is.each_node in
    let wide = is.against.each_place in
    let place : ℕ → ℕ = λ t. length is.ranks - 1 - slice_index is.ranks t in
    let inside : (t : ℕ) → t < count → place t < length order = λ t h. omega (arith, is.below t 0 (omega arith)) in
    let stands : (t : ℕ) → t < count → get_or order (place t) 0 ≡ t = λ t h. is.against.inverse t (omega arith) in
    let nodes : (k : ℕ) → k < length order → get_or order k 0 < count = λ k h. omega (arith, is.against.nodes k 0 h) in
    record {
      nodes = nodes;
      places = inside;
      stands = stands;
      own = λ k h.
          let t = get_or order k 0 in
          no-repetition count order (omega arith) (λ i low. record { place = place i; low = inside i low; there = stands i low })
          (place t) k (inside t (nodes k h)) h (stands t (nodes k h));
      before = λ t u j h low within reads_it.
          let edge = in-edges first 0 reads t u (omega (arith, h, each)) (record { at = j; low = within; is = reads_it }) in
          let z : 0 + t ≡ t = omega arith in
          let grow = rw (edge.2, z) at (is.grow edge.0 (0 + t, u) edge.1) in
          let a = is.below t 0 (omega arith) in
          let b = is.below u 0 (omega arith) in
          omega (arith, grow);
    }

-- the depths of the slots after the first tables of an order, and the greatest of all nets
pub record DepthsTo (first : ℕ) (tables : List Table) (reads : List (List ℕ)) (place : ℕ → ℕ) (i : ℕ) (depths : List ℕ) (most : ℕ) : Type 0 where
  pub wide : length depths ≡ first + length tables
  pub flat : (s : ℕ) → s < first → get_or depths s 0 ≡ 0
  pub each : (t : ℕ) → t < length tables → place t < i
      → get_or depths (first + t) 0 ≡ slots_depth (get_or reads t []) (get_or tables t no_table).rows depths
  pub low : (t : ℕ) → t < length tables → place t < i → get_or depths (first + t) 0 ≤ most
  pub some : (most ≡ 0) ⊎ ((t : ℕ) × (t < length tables) × (place t < i) × (get_or depths (first + t) 0 ≡ most))

map-at : (f g : ℕ → ℕ) (xs : List ℕ) → ((j : ℕ) → j < length xs → f (get_or xs j 0) ≡ g (get_or xs j 0)) → map f xs ≡ map g xs
map-at f g [] same = refl
map-at f g (x ∷ xs) same = let here = same 0 (omega arith) in rw (here, map-at f g xs (λ k h. same (suc k) (omega (arith, h)))) refl

pub no-depths : (first : ℕ) (tables : List Table) (reads : List (List ℕ)) (place : ℕ → ℕ) (gates : List Gate) (nets : List NetId)
    → BeginsFlat first (length tables) gates nets
    → DepthsTo first tables reads place 0 (slot_depths nets gates (replicate first 0)) (greatest (gate_depths (replicate first 0) gates))
no-depths first tables reads place gates nets b = record {
  wide = length-map nets (λ (n : NetId). get_or (gate_depths (replicate first 0) gates) n.0 0) ∙ b.each;
  flat = λ s low. b.flat s;
  each = λ t low none_yet. absurd (omega (arith, none_yet));
  low = λ t low none_yet. absurd (omega (arith, none_yet));
  some = inl b.top;
}

module _ (first : ℕ) (tables : List Table) (reads : List (List ℕ)) (order : List ℕ) (place : ℕ → ℕ) (p : IsPlaced first (length tables) reads order place)
    (i : ℕ) (low : i < length order) (depths : List ℕ) (most : ℕ) (d : DepthsTo first tables reads place i depths most) where
  abbrev u : ℕ
  u = get_or order i 0

  abbrev depth : ℕ
  depth = slots_depth (get_or reads u []) (get_or tables u no_table).rows depths

  abbrev new : List ℕ
  new = set depths (first + u) depth

  inside : first + u < length depths
  inside = omega (arith, p.nodes i low, d.wide)

  other : (s : ℕ) → s ≢ first + u → get_or new s 0 ≡ get_or depths s 0
  other s ne = get_or-set_other depths (first + u) s depth 0 ne

  apart : (t : ℕ) → place t < i → t ≢ u
  apart t earlier e = omega (arith, earlier, p.own i low, ap place e)

  last : (t : ℕ) → t < length tables → i ≤ place t → place t < i + 1 → t ≡ u
  last t h late soon =
      let at : place t ≡ i = omega (arith, late, soon) in
      sym (p.stands t h) ∙ ap (λ k. get_or order k 0) at

  same-reads : (t : ℕ) → t < length tables → place t < i + 1
      → map (λ s. get_or new s 0) (get_or reads t []) ≡ map (λ s. get_or depths s 0) (get_or reads t [])
  same-reads t h soon =
      map-at (λ s. get_or new s 0) (λ s. get_or depths s 0) (get_or reads t []) (λ j within.
      other (get_or (get_or reads t []) j 0) (λ e. omega (arith, p.before t u j h (p.nodes i low) within e, p.own i low, soon)))

  same-depth : (t : ℕ) → t < length tables → place t < i + 1
      → slots_depth (get_or reads t []) (get_or tables t no_table).rows new ≡ slots_depth (get_or reads t []) (get_or tables t no_table).rows depths
  same-depth t h soon = ap (table_depth (get_or tables t no_table).rows) (same-reads t h soon)

  at-last : get_or new (first + u) 0 ≡ depth
  at-last = get_or-set_same depths (first + u) depth 0 inside

  earlier-stays : (t : ℕ) → place t < i → get_or new (first + t) 0 ≡ get_or depths (first + t) 0
  earlier-stays t earlier = other (first + t) (λ e. apart t earlier (omega (arith, e)))

  pub next-depths : DepthsTo first tables reads place (i + 1) new (max most depth)
  next-depths = record {
    wide = length-set depths (first + u) depth ∙ d.wide;
    flat = λ s h. other s (λ e. omega (arith, e, h)) ∙ d.flat s h;
    each = λ t h soon. elim (cases_lt (place t) i) [
      | inl earlier ↦ earlier-stays t earlier ∙ d.each t h earlier ∙ sym (same-depth t h soon)
      | inr late ↦
          let e = last t h late soon in
          ap (λ k. get_or new (first + k) 0) e ∙ at-last
          ∙ ap (λ k. slots_depth (get_or reads k []) (get_or tables k no_table).rows depths) (sym e) ∙ sym (same-depth t h soon)
    ];
    low = λ t h soon. elim (cases_lt (place t) i) [
      | inl earlier ↦ grind (arith, common_steps, earlier-stays t earlier, d.low t h earlier)
      | inr late ↦ grind (arith, common_steps, ap (λ k. get_or new (first + k) 0) (last t h late soon), at-last)
    ];
    some = elim (cases_lt depth most) [
      | inl less ↦ before less d.some
      | inr more ↦
          inr (u, p.nodes i low, (omega (arith, p.own i low)), (at-last ∙ grind (arith, common_steps, more)))
    ];
  }
    where
      before : depth < most → (most ≡ 0) ⊎ ((t : ℕ) × (t < length tables) × (place t < i) × (get_or depths (first + t) 0 ≡ most))
          → (max most depth ≡ 0) ⊎ ((t : ℕ) × (t < length tables) × (place t < i + 1) × (get_or new (first + t) 0 ≡ max most depth))
      before less (inl z) = absurd (omega (arith, less, z))
      before less (inr (t, h, earlier, is)) =
          inr (t, h, (omega (arith, earlier)), (earlier-stays t earlier ∙ is ∙ grind (arith, common_steps, less)))

-- the greatest of some numbers
bounded : (xs : List ℕ) (most : ℕ) → ((k : ℕ) → k < length xs → get_or xs k 0 ≤ most) → greatest xs ≤ most
bounded [] most low = omega arith
bounded (x ∷ xs) most low =
    grind (arith, common_steps, low 0 (omega arith), bounded xs most (λ k h. low (suc k) (omega (arith, h))))

pub greatest-is : (xs : List ℕ) (most : ℕ) → ((k : ℕ) → k < length xs → get_or xs k 0 ≤ most)
    → (most ≡ 0) ⊎ ((k : ℕ) × (k < length xs) × (get_or xs k 0 ≡ most)) → most ≡ greatest xs
greatest-is xs most low (inl z) = omega (arith, z, bounded xs most low)
greatest-is xs most low (inr (k, h, is)) = omega (arith, is, at-most xs k, bounded xs most low)
