-- The nets of slots, as tables are drawn one after another.
use Rattle.std.proofs.Common.{◌≡◌, ℕ, ◌+◌, ◌-◌, ◌<◌, ◌≤◌, ◌^◌, min, zero, suc, Bool, false, List, [], ◌∷◌, ◌++◌, length, map, take, get_or, set, All}
use Rattle.std.proofs.Common.{refl, sym, ap, ◌∙◌, subst, arith, inl, inr, Some, None, replicate, length-set, get_or-set_same, get_or-set_other, slice_index_or}
use Rattle.std.specs.List.{AllByRecursion, list_any}
use Rattle.std.proofs.lemmas.Bool.{cases_lt, cases_eq}
use Rattle.std.proofs.lemmas.List.{length-map, length-append, get_or-map, map-set, map-append, ext_get_or, length-replicate, get_or-replicate}
use Rattle.std.proofs.lemmas.List.{get_or_append_left, get_or-append-add, take_more, get_or_push}
use Rattle.base_types.specs.declared.indices.NetId.{NetId}
use Rattle.net_ir.specs.declared.netlist.Gate.{Gate}
use Rattle.net_ir.specs.declared.netlist.Op.TheVariants.{Const}
use Rattle.net_ir.specs.Gates.{operand_end, value_in, gate_values}
use Rattle.std.specs.declared.alloc.Global.{Global}
use Rattle.std.specs.declared.vec.Vec.{Vec}
use Rattle.blif_text.specs.declared.circuit.Cell.{Cell}
use Rattle.blif_text.specs.declared.circuit.Row.{Row}
use Rattle.blif_text.specs.declared.circuit.Table.{Table as CodeTable}
use Rattle.blif_text.specs.Plain.{plain_row, plain_table}
use Rattle.blif_text.specs.Circuits.{Circuit, Table}
use Rattle.blif_text.specs.Runs.{row_fits}
use Rattle.blif_text.proofs.Exports.{IsSound}
use Rattle.run_steps.specs.Slots.{slot_in, value_at, memory_in}
use Rattle.run_steps.specs.Equations.{NameEquation}
use Rattle.run_steps.specs.Steps.{Step, settled, step_made, equation_step}
use Rattle.run_steps.specs.Order.{slots_read, no_equation}
use Rattle.run_steps.specs.Solvers.{ordered_steps}
use Rattle.run_steps.proofs.Exports.{reads-at, same-step, through, output-slot}
use Rattle.blif_run.specs.Loops.{equation_of, equations_of}
use Rattle.blif_run.specs.Plans.{given_names, all_names}
use Rattle.blif_run.specs.Truths.{no_table}
use Rattle.blif_run.proofs.Exports.{sound-equations, equation-at}
use Rattle.blif_net.specs.Drawings.{Draws, read_values}
use Rattle.blif_net.specs.Tables.{Settles, AddsStep, rows_step, drawn_step}
use Rattle.blif_net.proofs.Drawings.{reads-stay, all-later}

abbrev none : NetId
none = record { 0 = 0 }

settled-push : (steps : List Step) (s : Step) (values : List Bool) → settled (steps ++ s ∷ []) values ≡ step_made s (settled steps values)
settled-push [] s values = refl
settled-push (t ∷ steps) s values = settled-push steps s (step_made t values)

-- the values of some nets, by the places of the nets
values-at : (nets : List NetId) (values : List Bool) (slots : List ℕ) → All (λ s. s < length nets) slots
    → read_values (map (λ s. slice_index_or nets s none) slots) values ≡ map (value_at (read_values nets values)) slots
values-at nets values [] low = refl
values-at nets values (s ∷ slots) low =
    let here : value_in values (get_or nets s none).0 ≡ value_at (read_values nets values) s =
    sym (get_or-map (λ (n : NetId). value_in values n.0) nets s none false (low 0 s (omega arith))) in
    rw (here, values-at nets values slots (λ k d h. low (suc k) d (omega (arith, h)))) refl

all-set : (P : ℕ → Type 0) (nets : List NetId) (slot : ℕ) (net : NetId) → slot < length nets → All (λ n. P n.0) nets → P net.0
    → All (λ n. P n.0) (set nets slot net)
all-set P nets slot net inside all here k d low =
    elim (cases_eq k slot) [
      | inl e ↦ subst (λ (n : NetId). P n.0) (sym (ap (λ j. get_or (set nets slot net) j d) e ∙ get_or-set_same nets slot net d inside)) here
      | inr ne ↦ subst (λ (n : NetId). P n.0) (sym (get_or-set_other nets slot k net d ne)) (all k d (omega (arith, low, length-set nets slot net)))
    ]

-- nets of some slots
pub nets-low : (bound : ℕ) (nets : List NetId) (slots : List ℕ) → All (λ n. n.0 < bound) nets → All (λ s. s < length nets) slots
    → All (λ n. n.0 < bound) (map (λ s. slice_index_or nets s none) slots)
nets-low bound nets [] low within k d h = absurd (omega (arith, h))
nets-low bound nets (s ∷ slots) low within zero d h = low s none (within 0 s (omega arith))
nets-low bound nets (s ∷ slots) low within (suc k) d h =
    nets-low bound nets slots low (λ j e g. within (suc j) e (omega (arith, g))) k d (omega (arith, h))

-- one more table
pub settles-table : (first : ℕ) (gates more : List Gate) (nets inputs : List NetId) (net : NetId) (reads : List ℕ) (slot : ℕ) (rows : List (List Cell))
    → All (λ n. n.0 < first + length gates) nets → All (λ s. s < length nets) reads → slot < length nets
    → inputs ≡ map (λ s. slice_index_or nets s none) reads
    → Draws first gates more (Some net) false (λ values. list_any (λ row. row_fits row (read_values inputs values)) rows)
    → AddsStep first gates nets more (set nets slot net) (rows_step slot reads rows)
settles-table first gates more nets inputs net reads slot rows low reads_low inside are d = record {
  settles = λ count steps s.
      let f : List Bool → Bool = λ values. list_any (λ row. row_fits row (read_values inputs values)) rows in
      record {
        drawing = d.drawing;
        each_slot = length-set nets slot net ∙ s.each_slot;
        low = all-set (λ n. n < first + length more) nets slot net inside (all-later first gates more (Some net) false f d nets low) d.low;
        says = λ given wide.
            let start = given ++ replicate count false in
            let old = gate_values given gates in
            let new = gate_values given more in
            let before = settled steps start in
            let stays : read_values nets new ≡ before = reads-stay first gates more (Some net) false f d given wide nets low ∙ s.says given wide in
            let read : read_values inputs old ≡ map (value_at before) reads =
            ap (λ l. read_values l old) are ∙ values-at nets old reads reads_low ∙ ap (λ l. map (value_at l) reads) (s.says given wide) in
            let own : value_in new net.0 ≡ list_any (λ row. row_fits row (map (value_at before) reads)) rows =
            d.says given wide ∙ ap (λ l. list_any (λ row. row_fits row l) rows) read in
            map-set (λ (n : NetId). value_in new n.0) nets slot net ∙ ap (λ l. set l slot (value_in new net.0)) stays ∙ ap (set before slot) own
            ∙ sym (settled-push steps (rows_step slot reads rows) start);
      };
}

-- before the first table
pub settles-none : (first count : ℕ) (nets : List NetId) → first < 2 ^ 32 → length nets ≡ first + count
    → ((k : ℕ) (d : NetId) → k < first + count → (slice_index_or nets k d).0 ≡ min k first)
    → Settles first count (record { op = Const false; wire = None } ∷ []) nets []
settles-none first count nets few each own =
    let never : Gate = record { op = Const false; wire = None } in
    record {
      drawing = record {
        few = omega (arith, few);
        reads_lower = λ k d h. lower k d (omega (arith, h));
        silent = refl;
      };
      each_slot = each;
      low = λ k d h. let is = own k d (omega (arith, h, each)) in omega (arith, is);
      says = λ given wide.
          let values = given ++ false ∷ [] in
          ext_get_or false (read_values nets values) (given ++ replicate count false)
          (omega (
            arith,
            length-map nets (λ (n : NetId). value_in values n.0),
            length-append given (replicate count false),
            length-replicate count false,
            each,
            wide,
          ))
          (λ k h.
          let inside : k < first + count = omega (arith, h, length-map nets (λ (n : NetId). value_in values n.0), each) in
          let at : get_or (read_values nets values) k false ≡ value_in values (get_or nets k none).0 =
          get_or-map (λ (n : NetId). value_in values n.0) nets k none false (omega (arith, inside, each)) in
          at ∙ ap (value_in values) (own k none inside) ∙ first-value given k first count wide inside);
    }
  where
    lower : (k : ℕ) (d : Gate) → k < 1 → operand_end (slice_index_or (record { op = Const false; wire = None } ∷ []) k d).op ≤ first + k
    lower zero d h = omega arith
    lower (suc k) d h = absurd (omega (arith, h))

    first-value : (given : List Bool) (k first count : ℕ) → length given ≡ first → k < first + count
        → value_in (given ++ false ∷ []) (min k first) ≡ get_or (given ++ replicate count false) k false
    first-value given k first count wide inside =
        elim (cases_lt k first) [
          | inl low ↦
              let m : min k first ≡ k = omega arith in
              ap (value_in (given ++ false ∷ [])) m ∙ get_or_append_left given (false ∷ []) false k (omega arith)
              ∙ sym (get_or_append_left given (replicate count false) false k (omega arith))
          | inr high ↦
              let m : min k first ≡ first = omega arith in
              let behind : k ≡ length given + (k - first) = omega arith in
              ap (value_in (given ++ false ∷ [])) m ∙ get_or_push given false false first wide
              ∙ sym (ap (λ n. get_or (given ++ replicate count false) n false) behind
              ∙ get_or-append-add given (replicate count false) (k - first) false ∙ get_or-replicate count (k - first) false false (omega arith))
        ]

-- ---- the steps of the tables of a circuit

module _ (c : Circuit) (sound : IsSound c) where
  abbrev names : List (List ℕ)
  names = all_names c

  abbrev given : List (List ℕ)
  given = given_names c

  abbrev reads : List (List ℕ)
  reads = slots_read names (equations_of c)

  table-step : (k : ℕ) → k < length c.tables → drawn_step c.tables (length given) reads k ≡ equation_step names (get_or (equations_of c) k no_equation)
  table-step k h =
      let es = equations_of c in
      let t = get_or c.tables k no_table in
      let is = equation-at c k h in
      let low : k < length es = omega (arith, h, length-map c.tables equation_of) in
      let own : get_or reads k [] ≡ map (slot_in names) t.inputs =
      reads-at given es (sound-equations c sound) k low ∙ ap (λ (e : NameEquation). map (slot_in names) e.reads) is in
      same-step (drawn_step c.tables (length given) reads k) (equation_step names (get_or es k no_equation))
      (sym (output-slot given es (sound-equations c sound).differ k low))
      (λ values.
      ap (λ l. list_any (λ row. row_fits row (map (value_at values) l)) t.rows) own
      ∙ ap (λ l. list_any (λ row. row_fits row l) t.rows) (through names values t.inputs)
      ∙ sym (ap (λ (e : NameEquation). e.value (memory_in names values)) is))

  pub table-steps : (order : List ℕ) → AllByRecursion (λ k. k < length c.tables) order
      → map (drawn_step c.tables (length given) reads) order ≡ ordered_steps given (equations_of c) order
  table-steps [] all = refl
  table-steps (k ∷ order) all = rw (table-step k all.0, table-steps order all.1) refl

-- one more table of an order
pub steps-more : (f : ℕ → Step) (order : List ℕ) (i : ℕ) (d : ℕ) → i < length order
    → map f (take (i + 1) order) ≡ map f (take i order) ++ f (get_or order i d) ∷ []
steps-more f order i d low = ap (map f) (take_more order i d low) ∙ map-append f (take i order) (get_or order i d ∷ [])

pub settles-as : (first other count number : ℕ) (gates : List Gate) (nets : List NetId) (steps others : List Step) → first ≡ other → count ≡ number
    → steps ≡ others → Settles first count gates nets steps → Settles other number gates nets others
settles-as first other count number gates nets steps others f n s settles =
    subst (λ l. Settles other number gates nets l) s (subst (λ m. Settles other m gates nets steps) n
    (subst (λ m. Settles m count gates nets steps) f settles))

-- the rows of a table of the code
pub table-rows : (tables : List CodeTable) (t : ℕ) (rows : List Row) (table : CodeTable) → t < length tables → rows ≡ table.rows.items
    → table ≡ get_or tables t table → map plain_row rows ≡ (get_or (map plain_table tables) t no_table).rows
table-rows tables t rows table inside rows_are table_is =
    ap (map plain_row) (rows_are ∙ ap (λ (k : CodeTable). k.rows.items) table_is)
    ∙ ap (λ (k : Table). k.rows) (sym (get_or-map plain_table tables t table no_table inside))

-- the step of a table of the code
pub step-is : (tables : List CodeTable) (reads : List (Vec ℕ Global)) (first t : ℕ) (own : List ℕ) (rows : List Row) (v : Vec ℕ Global) (table : CodeTable)
    → t < length reads → t < length tables → own ≡ v.items → v ≡ get_or reads t v → rows ≡ table.rows.items → table ≡ get_or tables t table
    → rows_step (first + t) own (map plain_row rows) ≡ drawn_step (map plain_table tables) first (map (λ (s : Vec ℕ Global). s.items) reads) t
step-is tables reads first t own rows v table low inside own_is v_is rows_are table_is =
    let a : own ≡ get_or (map (λ (s : Vec ℕ Global). s.items) reads) t [] =
    own_is ∙ ap (λ (s : Vec ℕ Global). s.items) v_is ∙ sym (get_or-map (λ (s : Vec ℕ Global). s.items) reads t v [] low) in
    let b = table-rows tables t rows table inside rows_are table_is in
    λ i. rows_step (first + t) (a i) (b i)
