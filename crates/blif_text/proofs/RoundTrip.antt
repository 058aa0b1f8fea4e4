-- The text of a circuit is read as that circuit.
use Rattle.std.proofs.Common.{◌≡◌, ℕ, Bool, true, not, ◌==◌, ◌&&◌, List, [], ◌∷◌, ◌++◌, length, map, refl, sym, ap, ◌∙◌, append_assoc, Some, None, Ok}
use Rattle.std.specs.Prelude.{nat_le, flat_map, find}
use Rattle.std.specs.List.{list_all}
use Rattle.std.proofs.lemmas.Bool.{and_parts, and_from, eqb-true, eq-eqb}
use Rattle.std.proofs.lemmas.List.{append-nil}
use Rattle.std.proofs.lemmas.List.Concat.{flat_map-append, flat_map_single}
use Rattle.std.proofs.lemmas.List.Folds.{list_all-append}
use Rattle.base_types.specs.Distinct.{all_differ}
use Rattle.base_types.specs.Names.{is_same_name}
use Rattle.blif_text.specs.Statements.{Cell, Statement, Model, Inputs, Outputs, Names, Row, End, is_end, row_may_follow}
use Rattle.blif_text.specs.Circuits.{Circuit, CircuitLatch, Table, leading_rows, tables_of, inputs_in, outputs_in, latches_in, circuit_of, driven_by, used_by}
use Rattle.net_ir.specs.NameLists.{is_among, first_again}
use Rattle.net_ir.proofs.Exports.{once-differ, list_all-parts}
use Rattle.blif_text.specs.Circuits.{driven_again, not_driven, reading}
use Rattle.blif_text.specs.Spelled.{inputs_statements, latch_statement, table_statements, head_statements, circuit_statements, circuit_text}
use Rattle.blif_text.specs.Runs.{driven_names}
use Rattle.blif_text.proofs.WordBytes.{is_word}
use Rattle.blif_text.proofs.ReadsBack.{spellable, accepted, reading-text_of}

-- ---- circuits that have a spelling

abbrev pub latch_fits : CircuitLatch → Bool
latch_fits l = is_word l.source && is_word l.target

abbrev pub table_fits : Table → Bool
table_fits t =
    (list_all is_word t.inputs && is_word t.output && nat_le (length t.inputs) 8) && list_all (λ row. length row == length t.inputs) t.rows

abbrev pub used_names : Circuit → List (List ℕ)
used_names c = c.outputs ++ (map (λ l. l.source) c.latches ++ flat_map (λ t. t.inputs) c.tables)

pub record HasSpelling (c : Circuit) : Type 0 where
  pub name : is_word c.name ≡ true
  pub inputs : list_all is_word c.inputs ≡ true
  pub outputs : list_all is_word c.outputs ≡ true
  pub latches : list_all latch_fits c.latches ≡ true
  pub tables : list_all table_fits c.tables ≡ true
  pub once : all_differ is_same_name (driven_names c) ≡ true
  pub driven : list_all (λ name. is_among name (driven_names c)) (used_names c) ≡ true

-- ---- each statement is spelled

spellable-inputs : (names : List (List ℕ)) → list_all is_word names ≡ true → list_all spellable (inputs_statements names) ≡ true
spellable-inputs [] fit = refl
spellable-inputs (name ∷ names) fit = and_from (list_all is_word (name ∷ names)) true fit refl

spellable-latches : (ls : List CircuitLatch) → list_all latch_fits ls ≡ true → list_all spellable (map latch_statement ls) ≡ true
spellable-latches [] fit = refl
spellable-latches (l ∷ ls) fit =
    let parts = and_parts (latch_fits l) (list_all latch_fits ls) fit in
    and_from (latch_fits l) (list_all spellable (map latch_statement ls)) parts.0 (spellable-latches ls parts.1)

spellable-rows : (rows : List (List Cell)) → list_all spellable (map Row rows) ≡ true
spellable-rows [] = refl
spellable-rows (row ∷ rows) = spellable-rows rows

spellable-tables : (ts : List Table) → list_all table_fits ts ≡ true → list_all spellable (flat_map table_statements ts) ≡ true
spellable-tables [] fit = refl
spellable-tables (t ∷ ts) fit =
    let parts = and_parts (table_fits t) (list_all table_fits ts) fit in
    let names = and_parts (list_all is_word t.inputs && is_word t.output && nat_le (length t.inputs) 8)
    (list_all (λ row. length row == length t.inputs) t.rows) parts.0 in
    list_all-append spellable (table_statements t) (flat_map table_statements ts)
    ∙ and_from (spellable (Names t.inputs t.output) && list_all spellable (map Row t.rows)) (list_all spellable (flat_map table_statements ts))
    (and_from (spellable (Names t.inputs t.output)) (list_all spellable (map Row t.rows)) names.0 (spellable-rows t.rows))
    (spellable-tables ts parts.1)

spellable-circuit : (c : Circuit) → HasSpelling c → list_all spellable (circuit_statements c) ≡ true
spellable-circuit c fits =
    let name : list_all spellable (Model c.name ∷ []) ≡ true = and_from (is_word c.name) true fits.name refl in
    let outputs : list_all spellable (Outputs c.outputs ∷ []) ≡ true = and_from (list_all is_word c.outputs) true fits.outputs refl in
    let head = list_all-parts spellable ((Model c.name ∷ []) ++ inputs_statements c.inputs) (Outputs c.outputs ∷ [])
    (list_all-parts spellable (Model c.name ∷ []) (inputs_statements c.inputs) name (spellable-inputs c.inputs fits.inputs)) outputs in
    let latches = list_all-parts spellable (head_statements c) (map latch_statement c.latches) head (spellable-latches c.latches fits.latches) in
    let tables = list_all-parts spellable (head_statements c ++ map latch_statement c.latches) (flat_map table_statements c.tables) latches
    (spellable-tables c.tables fits.tables) in
    list_all-parts spellable (head_statements c ++ map latch_statement c.latches ++ flat_map table_statements c.tables) (End ∷ []) tables refl

-- ---- each statement stands in its place: what is accepted behind every statement but `.end`

abbrev FollowsAll : List Statement → Type 0
FollowsAll ss = (before : Statement) → not (is_end before) ≡ true → accepted (Some before) ss ≡ true

follows-latches : (ls : List CircuitLatch) (rest : List Statement) → FollowsAll rest → FollowsAll (map latch_statement ls ++ rest)
follows-latches [] rest follows before o = follows before o
follows-latches (l ∷ ls) rest follows before o =
    and_from (not (is_end before)) (accepted (Some (latch_statement l)) (map latch_statement ls ++ rest)) o
    (follows-latches ls rest follows (latch_statement l) refl)

follows-rows : (width : ℕ) (rows : List (List Cell)) (rest : List Statement) (before : Statement) → not (is_end before) ≡ true
    → ((cells : List Cell) → length cells ≡ width → row_may_follow before cells ≡ true) → list_all (λ row. length row == width) rows ≡ true → FollowsAll rest
    → accepted (Some before) (map Row rows ++ rest) ≡ true
follows-rows width [] rest before o wide fit follows = follows before o
follows-rows width (row ∷ rows) rest before o wide fit follows =
    let parts = and_parts (length row == width) (list_all (λ r. length r == width) rows) fit in
    let here = eqb-true (length row) width parts.0 in
    and_from (row_may_follow before row) (accepted (Some (Row row)) (map Row rows ++ rest)) (wide row here)
    (follows-rows width rows rest (Row row) refl (λ cells e. eq-eqb (length cells) (length row) (e ∙ sym here)) parts.1 follows)

follows-tables : (ts : List Table) (rest : List Statement) → list_all table_fits ts ≡ true → FollowsAll rest → FollowsAll (flat_map table_statements ts ++ rest)
follows-tables [] rest fit follows before o = follows before o
follows-tables (t ∷ ts) rest fit follows before o =
    let parts = and_parts (table_fits t) (list_all table_fits ts) fit in
    let names = and_parts (list_all is_word t.inputs && is_word t.output && nat_le (length t.inputs) 8)
    (list_all (λ row. length row == length t.inputs) t.rows) parts.0 in
    let more = follows-rows (length t.inputs) t.rows (flat_map table_statements ts ++ rest) (Names t.inputs t.output) refl
    (λ cells e. eq-eqb (length cells) (length t.inputs) e) names.1 (follows-tables ts rest parts.1 follows) in
    and_from (not (is_end before)) (accepted (Some (Names t.inputs t.output)) (map Row t.rows ++ flat_map table_statements ts ++ rest)) o (rw append_assoc more)

follows-end : FollowsAll (End ∷ [])
follows-end before o = and_from (not (is_end before)) true o refl

accepted-head : (name : List ℕ) (inputs outputs : List (List ℕ)) (rest : List Statement) → FollowsAll rest
    → accepted (Some (Model name)) (inputs_statements inputs ++ Outputs outputs ∷ rest) ≡ true
accepted-head name [] outputs rest follows = follows (Outputs outputs) refl
accepted-head name (input ∷ inputs) outputs rest follows = follows (Outputs outputs) refl

-- the statements of a circuit, one part behind another
circuit_parts : (c : Circuit)
    → circuit_statements c ≡ Model c.name ∷ (inputs_statements c.inputs ++ Outputs c.outputs ∷
    (map latch_statement c.latches ++ (flat_map table_statements c.tables ++ End ∷ [])))
circuit_parts c = simp append_assoc

accepted-circuit : (c : Circuit) → HasSpelling c → accepted None (circuit_statements c) ≡ true
accepted-circuit c fits =
    let tables = follows-tables c.tables (End ∷ []) fits.tables follows-end in
    let latches = follows-latches c.latches (flat_map table_statements c.tables ++ End ∷ []) tables in
    ap (accepted None) (circuit_parts c)
    ∙ accepted-head c.name c.inputs c.outputs (map latch_statement c.latches ++ (flat_map table_statements c.tables ++ End ∷ [])) latches

-- ---- what the statements describe

flat_map-rows : {X : Type 0} (g : Statement → List X) → ((cells : List Cell) → g (Row cells) ≡ []) → (rows : List (List Cell)) → flat_map g (map Row rows) ≡ []
flat_map-rows g none [] = refl
flat_map-rows g none (row ∷ rows) = rw (none row, flat_map-rows g none rows) refl

flat_map-tables : {X : Type 0} (g : Statement → List X) (h : Table → List X) → ((cells : List Cell) → g (Row cells) ≡ [])
    → ((t : Table) → g (Names t.inputs t.output) ≡ h t) → (ts : List Table) → flat_map g (flat_map table_statements ts) ≡ flat_map h ts
flat_map-tables g h none names [] = refl
flat_map-tables g h none names (t ∷ ts) =
    flat_map-append g (table_statements t) (flat_map table_statements ts)
    ∙ rw (flat_map-rows g none t.rows, names t, append-nil (h t), flat_map-tables g h none names ts) refl

flat_map-none : {X Y : Type 0} (xs : List X) → flat_map {X = X} {A = Y} (λ x. []) xs ≡ []
flat_map-none [] = refl
flat_map-none (x ∷ xs) = flat_map-none xs

-- what a function of the statements gives, part by part
flat_map-circuit : {X : Type 0} (g : Statement → List X) (c : Circuit)
    → flat_map g (circuit_statements c) ≡ g (Model c.name) ++
    (flat_map g (inputs_statements c.inputs) ++ (g (Outputs c.outputs) ++
    (flat_map g (map latch_statement c.latches) ++ (flat_map g (flat_map table_statements c.tables) ++ g End))))
flat_map-circuit g c = simp (flat_map-append, append-nil, append_assoc)

inputs-inputs : (names : List (List ℕ)) → flat_map inputs_in (inputs_statements names) ≡ names
inputs-inputs [] = refl
inputs-inputs (name ∷ names) = append-nil (name ∷ names)

driven-inputs : (names : List (List ℕ)) → flat_map driven_by (inputs_statements names) ≡ names
driven-inputs [] = refl
driven-inputs (name ∷ names) = append-nil (name ∷ names)

-- a function that gives nothing of the inputs' line
silent-inputs : {X : Type 0} (g : Statement → List X) → ((names : List (List ℕ)) → g (Inputs names) ≡ []) → (names : List (List ℕ))
    → flat_map g (inputs_statements names) ≡ []
silent-inputs g none [] = refl
silent-inputs g none (name ∷ names) = rw (none (name ∷ names)) refl

-- what a function gives of each latch
flat_map-latches : {X : Type 0} (g : Statement → List X) (h : CircuitLatch → List X) → ((l : CircuitLatch) → g (latch_statement l) ≡ h l)
    → (ls : List CircuitLatch) → flat_map g (map latch_statement ls) ≡ flat_map h ls
flat_map-latches g h same [] = refl
flat_map-latches g h same (l ∷ ls) = rw (same l, flat_map-latches g h same ls) refl

latches-latches : (ls : List CircuitLatch) → flat_map latches_in (map latch_statement ls) ≡ ls
latches-latches [] = refl
latches-latches (l ∷ ls) = ap (λ x. l ∷ x) (latches-latches ls)

silent-tables : {X : Type 0} (g : Statement → List X) → ((cells : List Cell) → g (Row cells) ≡ [])
    → ((inputs : List (List ℕ)) (output : List ℕ) → g (Names inputs output) ≡ []) → (ts : List Table) → flat_map g (flat_map table_statements ts) ≡ []
silent-tables g rows names ts =
    flat_map-tables g (λ t. []) rows (λ t. names t.inputs t.output) ts ∙ flat_map-none ts

silent-latches : {X : Type 0} (g : Statement → List X) → ((l : CircuitLatch) → g (latch_statement l) ≡ []) → (ls : List CircuitLatch)
    → flat_map g (map latch_statement ls) ≡ []
silent-latches g none ls = flat_map-latches g (λ l. []) none ls ∙ flat_map-none ls

inputs-circuit : (c : Circuit) → flat_map inputs_in (circuit_statements c) ≡ c.inputs
inputs-circuit c = flat_map-circuit inputs_in c
    ∙ rw (inputs-inputs c.inputs, silent-latches inputs_in (λ l. refl) c.latches, silent-tables inputs_in (λ r. refl) (λ i o. refl) c.tables)
    (append-nil c.inputs)

outputs-circuit : (c : Circuit) → flat_map outputs_in (circuit_statements c) ≡ c.outputs
outputs-circuit c = flat_map-circuit outputs_in c
    ∙ rw (
      silent-inputs outputs_in (λ n. refl) c.inputs,
      silent-latches outputs_in (λ l. refl) c.latches,
      silent-tables outputs_in (λ r. refl) (λ i o. refl)
          c.tables,
    ) (append-nil c.outputs)

latches-circuit : (c : Circuit) → flat_map latches_in (circuit_statements c) ≡ c.latches
latches-circuit c = flat_map-circuit latches_in c
    ∙ rw (silent-inputs latches_in (λ n. refl) c.inputs, latches-latches c.latches, silent-tables latches_in (λ r. refl) (λ i o. refl) c.tables)
    (append-nil c.latches)

driven-circuit : (c : Circuit) → flat_map driven_by (circuit_statements c) ≡ driven_names c
driven-circuit c = flat_map-circuit driven_by c
    ∙ rw (
      driven-inputs c.inputs,
      flat_map-latches driven_by (λ l. l.target ∷ []) (λ l. refl) c.latches,
      flat_map_single (λ (l : CircuitLatch). l.target)
          c.latches,
      flat_map-tables driven_by (λ t. t.output ∷ []) (λ r. refl) (λ t. refl) c.tables,
      flat_map_single (λ (t : Table). t.output) c.tables,
      append-nil (map (λ (t : Table). t.output) c.tables),
    ) refl

used-circuit : (c : Circuit) → flat_map used_by (circuit_statements c) ≡ used_names c
used-circuit c = flat_map-circuit used_by c
    ∙ rw (
      silent-inputs used_by (λ n. refl) c.inputs,
      flat_map-latches used_by (λ l. l.source ∷ []) (λ l. refl) c.latches,
      flat_map_single
          (λ (l : CircuitLatch). l.source) c.latches,
      flat_map-tables used_by (λ t. t.inputs) (λ r. refl) (λ t. refl) c.tables,
      append-nil
          (flat_map (λ (t : Table). t.inputs) c.tables),
    ) refl

-- ---- the tables

leading_rows-rows : (rows : List (List Cell)) (rest : List Statement) → leading_rows rest ≡ [] → leading_rows (map Row rows ++ rest) ≡ rows
leading_rows-rows [] rest none = none
leading_rows-rows (row ∷ rows) rest none = ap (λ x. row ∷ x) (leading_rows-rows rows rest none)

tables_of-rows : (rows : List (List Cell)) (rest : List Statement) → tables_of (map Row rows ++ rest) ≡ tables_of rest
tables_of-rows [] rest = refl
tables_of-rows (row ∷ rows) rest = tables_of-rows rows rest

leading_rows-tables : (ts : List Table) (rest : List Statement) → leading_rows rest ≡ [] → leading_rows (flat_map table_statements ts ++ rest) ≡ []
leading_rows-tables [] rest none = none
leading_rows-tables (t ∷ ts) rest none = refl

tables_of-tables : (ts : List Table) (rest : List Statement) → leading_rows rest ≡ [] → tables_of (flat_map table_statements ts ++ rest) ≡ ts ++ tables_of rest
tables_of-tables [] rest none = refl
tables_of-tables (t ∷ ts) rest none =
    let more = flat_map table_statements ts ++ rest in
    let rows = leading_rows-rows t.rows more (leading_rows-tables ts rest none) in
    let others = tables_of-rows t.rows more ∙ tables_of-tables ts rest none in
    rw (append_assoc (map Row t.rows) (flat_map table_statements ts) rest, rows, others) refl

tables_of-latches : (ls : List CircuitLatch) (rest : List Statement) → tables_of (map latch_statement ls ++ rest) ≡ tables_of rest
tables_of-latches [] rest = refl
tables_of-latches (l ∷ ls) rest = tables_of-latches ls rest

tables_of-inputs : (names : List (List ℕ)) (rest : List Statement) → tables_of (inputs_statements names ++ rest) ≡ tables_of rest
tables_of-inputs [] rest = refl
tables_of-inputs (name ∷ names) rest = refl

tables-circuit : (c : Circuit) → tables_of (circuit_statements c) ≡ c.tables
tables-circuit c = ap tables_of (circuit_parts c)
    ∙ tables_of-inputs c.inputs (Outputs c.outputs ∷ (map latch_statement c.latches ++ (flat_map table_statements c.tables ++ End ∷ [])))
    ∙ tables_of-latches c.latches (flat_map table_statements c.tables ++ End ∷ [])
    ∙ tables_of-tables c.tables (End ∷ []) refl ∙ append-nil c.tables

circuit_of-circuit : (c : Circuit) → circuit_of (circuit_statements c) ≡ c
circuit_of-circuit c =
    rw (inputs-circuit c, outputs-circuit c, latches-circuit c, tables-circuit c) refl

-- ---- drivers

find-none : {X : Type 0} (p : X → Bool) (xs : List X) → list_all p xs ≡ true → find (λ x. not (p x)) xs ≡ None
find-none p [] all = refl
find-none p (x ∷ xs) all =
    let parts = and_parts (p x) (list_all p xs) all in rw parts.0 (find-none p xs parts.1)

-- ---- the reading

pub reading-circuit_text : (c : Circuit) → HasSpelling c → reading (circuit_text c) ≡ Ok c
reading-circuit_text c fits =
    let driven = driven-circuit c in
    let once : driven_again (circuit_statements c) ≡ None = ap (first_again []) driven
    ∙ once-differ (driven_names c) fits.once in
    let all : not_driven (circuit_statements c) ≡ None = rw (driven, used-circuit c)
    (find-none (λ name. is_among name (driven_names c)) (used_names c) fits.driven) in
    reading-text_of (circuit_statements c) (spellable-circuit c fits) (accepted-circuit c fits) once all ∙ ap Ok (circuit_of-circuit c)
