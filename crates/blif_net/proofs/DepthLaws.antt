-- The depths of gates that are drawn one after another.
use Rattle.std.proofs.Common.{◌≡◌, ℕ, ◌+◌, ◌<◌, ◌≤◌, max, zero, suc, List, [], ◌∷◌, ◌++◌, length, map, take, get_or, All}
use Rattle.std.proofs.Common.{refl, sym, ap, ◌∙◌, arith, Option, Some, None, slice_index_or, Bool, true, false, if◌then◌else◌, ◌==◌}
use Rattle.std.proofs.lemmas.Grind.{common_steps}
use Rattle.std.proofs.lemmas.List.{length_push, get_or_append_left, get_or_push, map-append, take_more}
use Rattle.base_types.specs.declared.indices.NetId.{NetId}
use Rattle.net_ir.specs.declared.netlist.Op.{Op}
use Rattle.net_ir.specs.declared.netlist.Gate.{Gate}
use Rattle.blif_text.specs.declared.circuit.Cell.{Cell}
use Rattle.blif_text.specs.declared.circuit.Cell.TheVariants.{Any, One, Zero}
use Rattle.blif_text.specs.declared.circuit.Row.{Row}
use Rattle.blif_text.specs.Plain.{plain_row}
use Rattle.blif_net.specs.Depths.{cell_depth, cells_depth, gate_depths, greatest, joined_depth, op_depth, or_constant, row_depth, row_joined, rows_depth}
use Rattle.blif_net.specs.Drawings.{Deepens, depth_at, is_low, read_depths}

pub greatest-push : (xs : List ℕ) (y : ℕ) → greatest (xs ++ y ∷ []) ≡ max (greatest xs) y
greatest-push [] y = grind (arith, common_steps)
greatest-push (x ∷ xs) y = grind (arith, common_steps, greatest-push xs y)

-- none is above the greatest
pub at-most : (xs : List ℕ) (n : ℕ) → get_or xs n 0 ≤ greatest xs
at-most [] n = omega arith
at-most (x ∷ xs) zero = grind (arith, common_steps)
at-most (x ∷ xs) (suc n) = grind (arith, common_steps, at-most xs n)

depths-append : (depths : List ℕ) (first others : List Gate) → gate_depths depths (first ++ others) ≡ gate_depths (gate_depths depths first) others
depths-append depths [] others = refl
depths-append depths (g ∷ first) others = depths-append (depths ++ op_depth (λ n. slice_index_or depths n 0) g.op ∷ []) first others

pub gate_depths-push : (depths : List ℕ) (gates : List Gate) (g : Gate)
    → gate_depths depths (gates ++ g ∷ []) ≡ gate_depths depths gates ++ op_depth (λ n. slice_index_or (gate_depths depths gates) n 0) g.op ∷ []
gate_depths-push depths gates g = depths-append depths gates (g ∷ [])

pub length-gate_depths : (depths : List ℕ) (gates : List Gate) → length (gate_depths depths gates) ≡ length depths + length gates
length-gate_depths depths [] = omega arith
length-gate_depths depths (g ∷ gates) =
    let d = op_depth (λ n. slice_index_or depths n 0) g.op in
    omega (arith, length-gate_depths (depths ++ d ∷ []) gates, length_push depths d)

depth-kept : (depths : List ℕ) (gates : List Gate) (n : ℕ) → n < length depths → get_or (gate_depths depths gates) n 0 ≡ get_or depths n 0
depth-kept depths [] n low = refl
depth-kept depths (g ∷ gates) n low =
    let d = op_depth (λ n. slice_index_or depths n 0) g.op in
    depth-kept (depths ++ d ∷ []) gates n (omega (arith, low, length_push depths d)) ∙ get_or_append_left depths (d ∷ []) 0 n low

-- one more gate
pub deepens-push : (first : ℕ) (old : List Gate) (op : Op)
    → Deepens first old (old ++ record { op = op; wire = None } ∷ []) (Some (record { 0 = first + length old }))
    (λ depths. Some (op_depth (λ n. slice_index_or depths n 0) op))
deepens-push first old op = record {
  deep = λ given wide. ap Some (own given wide);
  top = λ given wide.
      let depths = gate_depths given old in
      let depth = op_depth (λ n. slice_index_or depths n 0) op in
      ap greatest (gate_depths-push given old (record { op = op; wire = None })) ∙ greatest-push depths depth
      ∙ ap (λ d. max (greatest depths) d) (sym (own given wide));
}
  where
    own : (given : List ℕ) → length given ≡ first
        → get_or (gate_depths given (old ++ record { op = op; wire = None } ∷ [])) (first + length old) 0
        ≡ op_depth (λ n. slice_index_or (gate_depths given old) n 0) op
    own given wide =
        let depths = gate_depths given old in
        let count : length depths ≡ first + length old = length-gate_depths given old ∙ ap (λ n. n + length old) wide in
        ap (λ l. get_or l (first + length old) 0) (gate_depths-push given old (record { op = op; wire = None }))
        ∙ get_or_push depths (op_depth (λ n. slice_index_or depths n 0) op) 0 (first + length old) count

top-known : (depths : List ℕ) (net : Option NetId) → greatest depths ≡ max (greatest depths) (or_constant (depth_at net depths))
top-known depths None = grind (arith, common_steps)
top-known depths (Some n) = grind (arith, common_steps, at-most depths n.0)

-- no more gates
pub deepens-none : (first : ℕ) (gates : List Gate) (net : Option NetId) → Deepens first gates gates net (depth_at net)
deepens-none first gates net = record {
  deep = λ given wide. refl;
  top = λ given wide. top-known (gate_depths given gates) net;
}

-- the same depth
pub deepens-as : (first : ℕ) (old new : List Gate) (net : Option NetId) (f g : List ℕ → Option ℕ) → ((depths : List ℕ) → f depths ≡ g depths)
    → Deepens first old new net f → Deepens first old new net g
deepens-as first old new net f g same d = record {
  deep = λ given wide. d.deep given wide ∙ same (gate_depths given old);
  top = d.top;
}

-- a net that is there has a depth
pub deepens-whole : (first : ℕ) (old new : List Gate) (net : NetId) (f : List ℕ → Option ℕ)
    → Deepens first old new (Some net) f → Deepens first old new (Some net) (λ depths. Some (or_constant (f depths)))
deepens-whole first old new net f d = record {
  deep = λ given wide. ap (λ o. Some (or_constant o)) (d.deep given wide);
  top = d.top;
}

-- one drawing after another that joins its net
pub deepens-then : (first : ℕ) (a b c : List Gate) (m n : Option NetId) (f g h : List ℕ → Option ℕ)
    → Deepens first a b m f → Deepens first b c n g
    → ((given : List ℕ) → length given ≡ first → g (gate_depths given b) ≡ h (gate_depths given a))
    → ((given : List ℕ) → length given ≡ first → or_constant (depth_at m (gate_depths given b)) ≤ or_constant (g (gate_depths given b)))
    → Deepens first a c n h
deepens-then first a b c m n f g h one two same rises = record {
  deep = λ given wide. two.deep given wide ∙ same given wide;
  top = λ given wide.
      let later : or_constant (depth_at n (gate_depths given c)) ≡ or_constant (g (gate_depths given b)) = ap or_constant (two.deep given wide) in
      grind (arith, common_steps, one.top given wide, two.top given wide, rises given wide, later);
}

-- what is drawn stays
module _ (first : ℕ) (old new more : List Gate) (added : new ≡ old ++ more) where
  pub depth-stays : (given : List ℕ) → length given ≡ first → (n : ℕ) → n < first + length old
      → get_or (gate_depths given new) n 0 ≡ get_or (gate_depths given old) n 0
  depth-stays given wide n low =
      let count : length (gate_depths given old) ≡ first + length old = length-gate_depths given old ∙ ap (λ n. n + length old) wide in
      ap (λ gs. get_or (gate_depths given gs) n 0) added ∙ ap (λ l. get_or l n 0) (depths-append given old more)
      ∙ depth-kept (gate_depths given old) more n (omega (arith, count, low))

  pub depth_at-stays : (given : List ℕ) → length given ≡ first → (net : Option NetId) → is_low (first + length old) net
      → depth_at net (gate_depths given new) ≡ depth_at net (gate_depths given old)
  depth_at-stays given wide None low = refl
  depth_at-stays given wide (Some n) low = ap Some (depth-stays given wide n.0 low)

  pub depths-stay : (given : List ℕ) → length given ≡ first → (nets : List NetId) → All (λ n. n.0 < first + length old) nets
      → read_depths nets (gate_depths given new) ≡ read_depths nets (gate_depths given old)
  depths-stay given wide [] low = refl
  depths-stay given wide (n ∷ nets) low =
      let here = depth-stays given wide n.0 (low 0 n (omega arith)) in
      rw (here, depths-stay given wide nets (λ k d h. low (suc k) d (omega (arith, h)))) refl

-- what is joined is no less deep than its parts
pub joined-sofar : (sofar : Option ℕ) (part : ℕ) → or_constant sofar ≤ or_constant (joined_depth sofar part)
joined-sofar None part = omega arith
joined-sofar (Some d) part = grind (arith, common_steps)

pub joined-part : (sofar : Option ℕ) (part : ℕ) → part ≤ or_constant (joined_depth sofar part)
joined-part None part = omega arith
joined-part (Some d) part = grind (arith, common_steps)

pub cell-sofar : (sofar : Option ℕ) (cell : Cell) (input : ℕ) → or_constant sofar ≤ or_constant (cell_depth sofar cell input)
cell-sofar sofar Any input = omega arith
cell-sofar sofar One input = joined-sofar sofar input
cell-sofar sofar Zero input = joined-sofar sofar (input + 1)

cells-suc : (sofar : Option ℕ) (cells : List Cell) (inputs : List ℕ) (k : ℕ) (d : Cell) → k < length cells → length cells ≡ length inputs
    → cells_depth sofar (take (suc k) cells) (take (suc k) inputs)
    ≡ cell_depth (cells_depth sofar (take k cells) (take k inputs)) (get_or cells k d) (get_or inputs k 0)
cells-suc sofar [] inputs k d low same = absurd (omega (arith, low))
cells-suc sofar (c ∷ cells) [] k d low same = absurd (omega (arith, same))
cells-suc sofar (c ∷ cells) (i ∷ inputs) zero d low same = refl
cells-suc sofar (c ∷ cells) (i ∷ inputs) (suc k) d low same =
    cells-suc (cell_depth sofar c i) cells inputs k d (omega (arith, low)) (omega (arith, same))

-- one more cell
pub cells-more : (cells : List Cell) (inputs : List ℕ) (k : ℕ) (d : Cell) → k < length cells → length cells ≡ length inputs
    → cells_depth None (take (k + 1) cells) (take (k + 1) inputs)
    ≡ cell_depth (cells_depth None (take k cells) (take k inputs)) (get_or cells k d) (get_or inputs k 0)
cells-more cells inputs k d low same =
    let on : k + 1 ≡ suc k = omega arith in
    ap (λ m. cells_depth None (take m cells) (take m inputs)) on ∙ cells-suc None cells inputs k d low same

pub row-sofar : (inputs : List ℕ) (sofar : Option ℕ) (cells : List Cell) → or_constant sofar ≤ or_constant (row_joined inputs sofar cells)
row-sofar inputs sofar cells = by (length cells == length inputs)
  where
    by : (b : Bool) → or_constant sofar ≤ or_constant (if b then joined_depth sofar (row_depth cells inputs) else sofar)
    by true = joined-sofar sofar (row_depth cells inputs)
    by false = omega arith

-- one more row
rows-push : (inputs : List ℕ) (sofar : Option ℕ) (rows : List (List Cell)) (cells : List Cell)
    → rows_depth inputs sofar (rows ++ cells ∷ []) ≡ row_joined inputs (rows_depth inputs sofar rows) cells
rows-push inputs sofar [] cells = refl
rows-push inputs sofar (r ∷ rows) cells = rows-push inputs (row_joined inputs sofar r) rows cells

pub rows-next : (inputs : List ℕ) (rows : List Row) (i : ℕ) (row : Row) → i < length rows → row ≡ get_or rows i row
    → rows_depth inputs None (map plain_row (take (i + 1) rows)) ≡ row_joined inputs (rows_depth inputs None (map plain_row (take i rows))) row.cells.items
rows-next inputs rows i row low is =
    ap (λ l. rows_depth inputs None (map plain_row l)) (take_more rows i row low ∙ ap (λ r. take i rows ++ r ∷ []) (sym is))
    ∙ ap (rows_depth inputs None) (map-append plain_row (take i rows) (row ∷ []))
    ∙ rows-push inputs None (map plain_row (take i rows)) row.cells.items
