-- How many nets the tables need that are drawn in an order.
use Rattle.std.proofs.Common.{◌≡◌, ℕ, ◌+◌, ◌-◌, ◌<◌, ◌≤◌, ◌^◌, List, [], length, map, take, get_or, ap, ◌∙◌, arith}
use Rattle.std.specs.List.{sum_by}
use Rattle.std.proofs.lemmas.List.{get_or-map, length-map, take_all}
use Rattle.std.proofs.lemmas.List.Sums.{sum_by_more, sum_by_more_le}
use Rattle.blif_text.specs.Circuits.{Circuit, Table}
use Rattle.run_steps.specs.Order.{IsAgainst, IsEvaluationOrder, no_equation, slots_read}
use Rattle.run_steps.specs.Slots.{slot_in}
use Rattle.run_steps.specs.Equations.{NameEquation}
use Rattle.blif_run.specs.Loops.{equation_of, equations_of}
use Rattle.blif_run.specs.Plans.{given_names}
use Rattle.blif_run.specs.Truths.{no_table}
use Rattle.blif_run.proofs.Exports.{given-count}
use Rattle.blif_net.specs.Sizes.{gates_of, nets_at_most, table_gates, table_nets}
use Rattle.blif_net.proofs.OrderSums.{Stands, order-sum}

-- the nets of the table with this number
abbrev pub cost : Circuit → ℕ → ℕ
cost c k = table_nets (get_or c.tables k no_table).rows

-- the gates of the table with this number
abbrev pub gate_cost : Circuit → ℕ → ℕ
gate_cost c k = table_gates (length (get_or c.tables k no_table).inputs) (get_or c.tables k no_table).rows

-- the slots that a table reads are as many as its inputs
pub slots-width : (names : List (List ℕ)) (tables : List Table) (lists : List (List ℕ)) (t : ℕ) → t < length tables
    → lists ≡ slots_read names (map equation_of tables) → length (get_or lists t []) ≡ length (get_or tables t no_table).inputs
slots-width names tables lists t low is =
    let inside : t < length (map equation_of tables) = omega (arith, low, length-map tables equation_of) in
    ap (λ l. length (get_or l t [])) is
    ∙ ap length (get_or-map (λ (e : NameEquation). map (slot_in names) e.reads) (map equation_of tables) t no_equation [] inside)
    ∙ length-map (get_or (map equation_of tables) t no_equation).reads (slot_in names)
    ∙ ap (λ (e : NameEquation). length e.reads) (get_or-map equation_of tables t no_table no_equation low)

each-stands : (ranks order : List ℕ) → IsAgainst ranks order → (i : ℕ) → i < length ranks → Stands order i
each-stands ranks order against i low = record {
  place = length ranks - 1 - get_or ranks i 0;
  low = omega (arith, low, against.each_place);
  there = against.inverse i low;
}

order-along : (g : Table → ℕ) (c : Circuit) (edges : List (ℕ × ℕ)) (order : List ℕ) → IsEvaluationOrder (length (equations_of c)) edges order
    → sum_by (λ k. g (get_or c.tables k no_table)) order ≡ sum_by g c.tables
order-along g c edges order h =
    let count : length h.ranks ≡ length c.tables = h.each_node ∙ length-map c.tables equation_of in
    order-sum g c.tables no_table (length c.tables) order (omega arith) (omega (arith, h.against.each_place, count))
    (λ i low. each-stands h.ranks order h.against i (omega (arith, low, count)))
    ∙ ap (sum_by g) (take_all (length c.tables) c.tables (omega arith))

order-cost : (c : Circuit) (edges : List (ℕ × ℕ)) (order : List ℕ) → IsEvaluationOrder (length (equations_of c)) edges order
    → sum_by (cost c) order ≡ sum_by (λ t. table_nets t.rows) c.tables
order-cost c edges order h = order-along (λ t. table_nets t.rows) c edges order h

-- the gates of all tables, along an order
pub order-gates : (c : Circuit) (edges : List (ℕ × ℕ)) (order : List ℕ) → IsEvaluationOrder (length (equations_of c)) edges order
    → 1 + sum_by (gate_cost c) order ≡ gates_of c
order-gates c edges order h = ap (λ n. 1 + n) (order-along (λ t. table_gates (length t.inputs) t.rows) c edges order h)

-- there is room for the next table
pub next-room : (c : Circuit) (edges : List (ℕ × ℕ)) (order : List ℕ) (i made : ℕ) → IsEvaluationOrder (length (equations_of c)) edges order
    → nets_at_most c ≤ 2 ^ 32 → i < length order → made ≤ 1 + sum_by (cost c) (take i order)
    → length (given_names c) + made + cost c (get_or order i 0) ≤ 2 ^ 32
next-room c edges order i made h few low so =
    omega (arith, order-cost c edges order h, sum_by_more_le (cost c) order i 0 low, few, so, given-count c)

pub next-made : (c : Circuit) (order : List ℕ) (i made more : ℕ) → i < length order → made ≤ 1 + sum_by (cost c) (take i order)
    → more ≤ made + cost c (get_or order i 0) → more ≤ 1 + sum_by (cost c) (take (i + 1) order)
next-made c order i made more low so then = omega (arith, sum_by_more (cost c) order i 0 low, so, then)

pub given-few : (c : Circuit) → nets_at_most c ≤ 2 ^ 32 → length (given_names c) < 2 ^ 32
given-few c few = omega (arith, few, given-count c)
