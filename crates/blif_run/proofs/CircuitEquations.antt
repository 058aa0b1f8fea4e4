-- The tables of a sound circuit as equations, and as steps of a plan.
use Rattle.std.proofs.Common.{◌≡◌, ℕ, ◌+◌, ◌<◌, suc, Bool, true, List, [], ◌∷◌, ◌++◌, length, map, get_or, Contains}
use Rattle.std.proofs.Common.{refl, sym, ap, ◌∙◌, arith, subst, append_assoc}
use Rattle.std.specs.List.{AllByRecursion, list_any}
use Rattle.std.proofs.lemmas.List.{length-map, length-append, get_or-map}
use Rattle.base_types.specs.Distinct.{all_differ}
use Rattle.base_types.specs.Names.{is_same_name}
use Rattle.net_ir.specs.NameLists.{is_among}
use Rattle.blif_text.specs.Circuits.{Circuit, Table}
use Rattle.blif_text.specs.Runs.{driven_names, row_fits}
use Rattle.blif_text.proofs.Exports.{IsSound}
use Rattle.run_steps.specs.Slots.{slot_in, memory_in}
use Rattle.run_steps.specs.Equations.{NameEquation}
use Rattle.run_steps.specs.Steps.{equation_step, IsLocal, AreSound}
use Rattle.run_steps.specs.Order.{slots_read, no_equation}
use Rattle.run_steps.proofs.Exports.{all-made, output-slot, same-step, reads-at}
use Rattle.blif_run.specs.Loops.{equation_of, equations_of}
use Rattle.run_steps.specs.Solvers.{ordered_steps}
use Rattle.blif_run.specs.Plans.{given_names, all_names}
use Rattle.blif_run.specs.Truths.{step_at, no_table}
use Rattle.blif_run.proofs.TruthTables.{table-looked}

outputs-same : (tables : List Table) → map (λ e. e.output) (map equation_of tables) ≡ map (λ t. t.output) tables
outputs-same [] = refl
outputs-same (t ∷ tables) = ap (λ l. t.output ∷ l) (outputs-same tables)

-- the names that have a value are those that the circuit drives
pub names-are : (c : Circuit) → all_names c ≡ driven_names c
names-are c =
    append_assoc c.inputs (map (λ l. l.target) c.latches) (map (λ e. e.output) (equations_of c))
    ∙ ap (λ outs. c.inputs ++ (map (λ l. l.target) c.latches ++ outs)) (outputs-same c.tables)

pub given-count : (c : Circuit) → length (given_names c) ≡ length c.inputs + length c.latches
given-count c =
    length-append c.inputs (map (λ l. l.target) c.latches) ∙ ap (λ n. length c.inputs + n) (length-map c.latches (λ l. l.target))

pub equation-at : (c : Circuit) (k : ℕ) → k < length c.tables → get_or (equations_of c) k no_equation ≡ equation_of (get_or c.tables k no_table)
equation-at c k h = get_or-map equation_of c.tables k no_table no_equation h

-- valuations that agree on the inputs of a table give it the same
map-among : (u v : List ℕ → Bool) (names : List (List ℕ)) → ((x : List ℕ) → Contains names x → u x ≡ v x) → map u names ≡ map v names
map-among u v [] same = refl
map-among u v (x ∷ xs) same =
    let here = same x (0, omega arith, refl) in
    rw (here, map-among u v xs (λ y has. same y (suc has.0, omega (arith, has.1), has.2))) refl

table-local : (t : Table) → IsLocal (equation_of t)
table-local t u v same = ap (λ vs. list_any (λ row. row_fits row vs) t.rows) (map-among u v t.inputs same)

tables-local : (tables : List Table) → AllByRecursion IsLocal (map equation_of tables)
tables-local [] = tt
tables-local (t ∷ tables) = (table-local t, tables-local tables)

pub reads-same : (names : List (List ℕ)) (tables : List Table)
    → map (λ t. map (slot_in names) t.inputs) tables ≡ slots_read names (map equation_of tables)
reads-same names [] = refl
reads-same names (t ∷ tables) = ap (λ l. map (slot_in names) t.inputs ∷ l) (reads-same names tables)

pub sound-equations : (c : Circuit) → IsSound c → AreSound (given_names c) (equations_of c)
sound-equations c sound = record {
  differ = ap (all_differ is_same_name) (names-are c) ∙ sound.differ;
  reads_driven = all-made (λ (e : NameEquation). AllByRecursion (λ x. is_among x (all_names c) ≡ true) e.reads) equation_of c.tables
      (subst (λ names. AllByRecursion (λ t. AllByRecursion (λ x. is_among x names ≡ true) t.inputs) c.tables) (sym (names-are c)) sound.driven.inputs);
  local = tables-local c.tables;
}

-- the step of a table in the plan is that of its equation
table-step : (c : Circuit) → IsSound c → (k : ℕ) → k < length c.tables
    → step_at c.tables (length (given_names c)) (slots_read (all_names c) (equations_of c)) k
    ≡ equation_step (all_names c) (get_or (equations_of c) k no_equation)
table-step c sound k h =
    let names = all_names c in
    let es = equations_of c in
    let t = get_or c.tables k no_table in
    let reads = slots_read names es in
    let is = equation-at c k h in
    let low : k < length es = omega (arith, h, length-map c.tables equation_of) in
    let own : get_or reads k [] ≡ map (slot_in names) t.inputs =
    reads-at (given_names c) es (sound-equations c sound) k low ∙ ap (λ (e : NameEquation). map (slot_in names) e.reads) is in
    same-step (step_at c.tables (length (given_names c)) reads k) (equation_step names (get_or es k no_equation))
    (sym (output-slot (given_names c) es (sound-equations c sound).differ k low))
    (λ values. table-looked t (get_or reads k []) names values own
    ∙ sym (ap (λ (e : NameEquation). e.value (memory_in names values)) is))

pub table-steps : (c : Circuit) → IsSound c → (order : List ℕ) → AllByRecursion (λ k. k < length c.tables) order
    → map (step_at c.tables (length (given_names c)) (slots_read (all_names c) (equations_of c))) order
    ≡ ordered_steps (given_names c) (equations_of c) order
table-steps c sound [] all = refl
table-steps c sound (k ∷ order) all = rw (table-step c sound k all.0, table-steps c sound order all.1) refl
