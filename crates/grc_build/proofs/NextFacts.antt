-- Which instances are leaves, and what selects a leaf in the next instant.
use Rattle.std.specs.Prelude.{flat_map}
use Rattle.base_types.specs.declared.indices.PathId.{PathId}
use Rattle.est_kernel.specs.Preorder.{preorder}
use Rattle.grc_graph.specs.declared.formulas.Formula.{Formula}
use Rattle.grc_graph.specs.InstanceLaws.{is_resumed, is_pause, is_resumed_pause}
use Rattle.grc_graph.specs.Selected.{HasExitCodes}
use Rattle.grc_graph.proofs.Exports.{leaves_are_resumed_pauses_lem, preorder_read}
use Rattle.grc_build.proofs.Words.{◌≡◌, ℕ, ◌+◌, ◌<◌, ◌≤◌, true, ◌&&◌, List, [], ◌∷◌, ◌++◌, length, map, get_or, refl, sym, ap, ◌∙◌, subst, arith, length-append}
use Rattle.grc_build.proofs.Words.{filter, lt-ltb, take_all, map-map, InstId, term_of, interface_count, Nothing, Statement, kept_start, next_formula, Value}
use Rattle.grc_build.proofs.Words.{Selected, Kept, Held, Conjunction, Disjunction, any_of, graph_of, Instance, Ascends, body_instances, Layer, Resumed, Started}
use Rattle.grc_build.proofs.Words.{body_liveness, body_layers, instances_in, instance_at, instance_of, program_rows, program_scope, Body, IsNumberOf, Wire, Go}
use Rattle.grc_build.proofs.Words.{program_kernel, stands_whole, instances_ascend_lem, length-program_rows, row_read, Tables, Means, layers_from, IsRun}
use Rattle.grc_build.proofs.Words.{selected_from, leaves_before, program_in, AreTables}
use Rattle.grc_graph.specs.declared.formulas.Formula.TheVariants as formulas
use Rattle.grc_graph.specs.declared.instances.Instance as stored
use Rattle.grc_build.proofs.AnyOf.{some_more}
use Rattle.grc_build.proofs.StatementRuns.{layers_of_statement, layer_more, resumed_first, run_over, is_started}
use Rattle.grc_build.proofs.StatusWires.{instance_here, own_statement, read_number}
use Rattle.grc_build.proofs.TableFacts.{kernel_of}

pub instances_ascend : (t : Tables) → AreTables t → Ascends (instances_in t.wires)
instances_ascend t h = subst Ascends (sym h.instances) (instances_ascend_lem (program_in t).body)

body_kernel : (t : Tables) → AreTables t → HasExitCodes (program_in t).body
body_kernel t h =
    let p = program_in t in
    let r = row_read (program_rows p) (body_liveness p.body) (program_scope p.inputs (interface_count p)) Body p.body 0 (stands_whole (program_rows p)) in
    subst HasExitCodes (ap (λ r. r.statement) r.same) (program_kernel p 0 (kernel_of t) h.formed.body (omega (arith, r.within, length-program_rows p)))

-- ---- leaves

-- whether an instance that was read by its number is a leaf
pub pause_read : (t : Tables) (i : ℕ) (s : Statement) (y : stored.Instance) → AreTables t → i < length (instances_in t.wires)
    → IsNumberOf (instances_in t.wires) i (instance_of y) → s ≡ get_or t.statements.items y.path.0 s
    → (instance_of y).layer ≡ Resumed
    → is_pause (term_of s.body.now) ≡ is_resumed_pause (program_in t).body (instance_at (instances_in t.wires) i)
pause_read t i s y h l n e r =
    let x = instance_at (instances_in t.wires) i in
    let k = instance_here t i h l in
    let layer : x.layer ≡ Resumed = ap (λ z. z.layer) (read_number t i y n) ∙ r in
    ap is_pause (own_statement t i s y h l n e ∙ sym (preorder_read (program_in t) x.path k.within))
    ∙ ap (λ j. is_resumed j && is_pause (get_or (preorder (program_in t).body) x.path Nothing)) (sym layer)

-- the leaves are these, in order
pub all_leaves : (t : Tables) (i : ℕ) → AreTables t → length (instances_in t.wires) ≤ i
    → leaves_before (program_in t).body (instances_in t.wires) i ≡ (graph_of (program_in t)).next
all_leaves t i h l =
    let body = (program_in t).body in
    let F = λ (n : ℕ). next_formula n (body_layers body n) in
    let leaves = λ (xs : List Instance). filter (is_resumed_pause body) xs in
    ap (λ xs. map (λ x. F x.path) (leaves xs)) (take_all i (instances_in t.wires) l ∙ h.instances)
    ∙ sym (map-map F (λ x. x.path) (leaves (body_instances body)))
    ∙ ap (map F) (sym (leaves_are_resumed_pauses_lem body (body_kernel t h)))

-- ---- one leaf

-- its starts all run from behind it
pub leaf_whole : (t : Tables) (i : ℕ) → AreTables t → i < length (instances_in t.wires) → (instance_at (instances_in t.wires) i).layer ≡ Resumed
    → any_of (selected_from (instances_in t.wires) (instance_at (instances_in t.wires) i).path (i + 1))
    ≡ next_formula (instance_at (instances_in t.wires) i).path (body_layers (program_in t).body (instance_at (instances_in t.wires) i).path)
leaf_whole t i h l e =
    let insts = instances_in t.wires in
    let body = (program_in t).body in
    let n = (instance_at insts i).path in
    let k = instance_here t i h l in
    let layers : body_layers body n ≡ Resumed ∷ layers_from insts n (i + 1)
    = sym (layers_of_statement body n (kernel_of t) k.within) ∙ ap (λ xs. layers_from xs n 0) (sym h.instances)
    ∙ resumed_first insts i (instances_ascend t h) l e in
    sym (ap (next_formula n) layers)

-- from the end of its run on there is but that it is held
pub held_alone : (insts : List Instance) (i e : ℕ) → Ascends insts → IsRun insts i e
    → any_of (selected_from insts (instance_at insts i).path e) ≡ Conjunction (Selected (instance_at insts i).path) (Held (instance_at insts i).path Resumed)
held_alone insts i e h r =
    let n = (instance_at insts i).path in
    ap (λ ls. any_of (flat_map (kept_start n) ls ++ Conjunction (Selected n) (Held n Resumed) ∷ [])) (run_over insts i e h r)

one_start : (n : ℕ) (l : Layer) → ¬ (l ≡ Resumed) → kept_start n l ≡ Conjunction (Value (Go n l)) (Kept n l) ∷ []
one_start n Resumed h = absurd (h refl)
one_start n (Started r) h = refl

-- one start more
pub start_more : (insts : List Instance) (names : List Wire) (i j e : ℕ) (f : Formula) → Ascends insts → IsRun insts i e → i < j → j < e
    → Means insts names f (Disjunction
    (Conjunction (Value (Go (instance_at insts j).path (instance_at insts j).layer)) (Kept (instance_at insts j).path (instance_at insts j).layer))
    (any_of (selected_from insts (instance_at insts i).path (j + 1))))
    → Means insts names f (any_of (selected_from insts (instance_at insts i).path j))
start_more insts names i j e f h r lt below m =
    let n = (instance_at insts i).path in
    let x = instance_at insts j in
    let held = Conjunction (Selected n) (Held n Resumed) in
    let c = Conjunction (Value (Go n x.layer)) (Kept n x.layer) in
    let l : j < length insts = omega (arith, below, r.within) in
    let of : x.path ≡ n = r.same j (omega arith) below in
    let rest = flat_map (kept_start n) (layers_from insts n (j + 1)) in
    let list : selected_from insts n j ≡ c ∷ selected_from insts n (j + 1)
    = ap (λ ls. flat_map (kept_start n) ls ++ held ∷ []) (layer_more insts n j l of)
    ∙ ap (λ ks. (ks ++ rest) ++ held ∷ []) (one_start n x.layer (is_started insts i j h lt l of)) in
    let m : Means insts names f (Disjunction c (any_of (selected_from insts n (j + 1))))
    = subst (λ q. Means insts names f (Disjunction (Conjunction (Value (Go q x.layer)) (Kept q x.layer)) (any_of (selected_from insts n (j + 1))))) of m in
    subst (λ xs. Means insts names f (any_of xs)) (sym list)
    (some_more insts names f true c (selected_from insts n (j + 1)) refl (omega (arith, length-append rest (held ∷ []))) m).means

-- ---- words of the next state

pub selected_means : (insts : List Instance) (names : List Wire) (p : PathId) (n : ℕ) → p.0 ≡ n → Means insts names (formulas.Selected p) (Selected n)
selected_means insts names p n e = record { fits = refl; same = ap Selected e }

pub held_means : (insts : List Instance) (names : List Wire) (i : InstId) → i.0 < length insts → (instance_at insts i.0).layer ≡ Resumed
    → Means insts names (formulas.Held i) (Held (instance_at insts i.0).path Resumed)
held_means insts names i l e = record { fits = lt-ltb i.0 (length insts) l; same = ap (Held (instance_at insts i.0).path) e }

pub kept_means : (insts : List Instance) (names : List Wire) (i : InstId) → i.0 < length insts
    → Means insts names (formulas.Kept i) (Kept (instance_at insts i.0).path (instance_at insts i.0).layer)
kept_means insts names i l = record { fits = lt-ltb i.0 (length insts) l; same = refl }
