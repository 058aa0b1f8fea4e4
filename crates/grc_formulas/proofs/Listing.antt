-- What the lists of a program say of an instance, and of the one around it.
use Rattle.std.proofs.Common.{◌≡◌, ℕ, ◌<◌, ◌≤◌, ◌==◌, ◌&&◌, true, false, Some, List, length, slice_index_or, refl, sym, ap, ◌∙◌, subst, arith, inl, inr}
use Rattle.std.specs.Prelude.{Contains}
use Rattle.std.proofs.lemmas.Bool.{and_parts, cases_lt, eqb-true, ne_eqb, le-ltb, false≢true}
use Rattle.std.proofs.lemmas.List.{length-map, get_or_default}
use Rattle.std.proofs.lemmas.List.Folds.{Any-from_list_any}
use Rattle.est_kernel.specs.Plain.{program_of}
use Rattle.est_kernel.specs.Preorder.{statement_count}
use Rattle.grc_graph.specs.declared.graph.Graph.{Graph}
use Rattle.grc_graph.specs.declared.instances.Instance as declared
use Rattle.grc_graph.specs.declared.instances.Layer.TheVariants as layers
use Rattle.grc_graph.specs.declared.neighbours.Neighbours.{Neighbours}
use Rattle.grc_graph.specs.declared.statements.Statement.{Statement}
use Rattle.grc_graph.specs.Instances.{Instance}
use Rattle.grc_graph.specs.Layers.{Layer, Resumed, layer_above, same_layer}
use Rattle.grc_graph.specs.Layouts.{is_among}
use Rattle.grc_graph.specs.PlainGraphs.{instances_of, instance_at}
use Rattle.grc_graph.specs.PlainInstances.{instance_of}
use Rattle.grc_graph.specs.StatementViews.{view_of}
use Rattle.grc_graph.specs.Neighbouring.{instances_in}
use Rattle.grc_graph.specs.WireTables.{comes_before, IsNumberOf}
use Rattle.grc_graph.proofs.Exports.{name_at, same_layer-true, statement_read, LiveAt}
use Rattle.grc_formulas.specs.Enclosures.{around}
use Rattle.grc_formulas.specs.Holdings.{AreListed, IsLive, StatementRead}
use Rattle.grc_formulas.specs.Sizes.{statement_row}

-- an instance by number is live
pub live-number : (g : Graph) (near : Neighbours) (list : List Statement) (i : ℕ) (x : Instance) → AreListed g near list → IsLive g i x
    → LiveAt (program_of g.program) x.path x.layer
live-number g near list i x l live =
    let low : i < length (instances_of g) = omega (arith, live.low, length-map g.instances.list.items instance_of) in
    subst (λ (y : Instance). LiveAt (program_of g.program) y.path y.layer) live.same
    (record { within = g.laid_out.within i low; live = g.laid_out.live i low })

among-has : (insts : List Instance) (n : ℕ) (l : Layer) → is_among insts n l ≡ true → Contains insts (record { path = n; layer = l })
among-has insts n l h =
    let test = λ (x : Instance). x.path == n && same_layer x.layer l in
    let a = Any-from_list_any test insts h in
    let both = and_parts (a.1.path == n) (same_layer a.1.layer l) a.4 in
    let y : Instance = record { path = n; layer = l } in
    let same : a.1 ≡ y = λ t. record { path = eqb-true a.1.path n both.0 t; layer = same_layer-true a.1.layer l both.1 t } in
    (a.0, a.2, get_or_default insts a.0 y a.1 a.2 ∙ a.3 ∙ same)

-- and so is that around it
pub enclosing-there : (g : Graph) (i n : ℕ) (x : Instance) → IsLive g i x → around (statement_row g x.path).entry ≡ Some n
    → Contains (instances_of g) (record { path = n; layer = layer_above n x.layer })
enclosing-there g i n x live is =
    let low : i < length (instances_of g) = omega (arith, live.low, length-map g.instances.list.items instance_of) in
    among-has (instances_of g) n (layer_above n x.layer)
    (subst (λ (y : Instance). around (statement_row g y.path).entry ≡ Some n → is_among (instances_of g) n (layer_above n y.layer) ≡ true) live.same
    (g.laid_out.enclosed i n low) is)

pub statement-read : (g : Graph) (near : Neighbours) (list : List Statement) (n : ℕ) (s : Statement) → AreListed g near list
    → n < statement_count (program_of g.program).body → s ≡ slice_index_or list n s → StatementRead g n (view_of s)
statement-read g near list n s l low read = record { low = low; same = statement_read (program_of g.program) list n s l.statements low read }

not-before : (x y : Instance) → y.path < x.path → comes_before x y ≡ false
not-before x y h =
    let ne : x.path ≡ y.path → ⊥ = λ e. absurd (omega arith) in
    rw (le-ltb x.path y.path (omega arith), ne_eqb x.path y.path ne) refl

-- an instance of an earlier statement has a lower number
pub instance-before : (g : Graph) (near : Neighbours) (list : List Statement) (i j : ℕ) (x y : Instance) → AreListed g near list → IsLive g i x
    → j < length g.instances.list.items → instance_at (instances_of g) j ≡ y → y.path < x.path → j < i
instance-before g near list i j x y l live low is before = elim (cases_lt j i) [
  | inl less ↦ less
  | inr more ↦ absurd (not_more more)
]
  where
    first : declared.Instance
    first = record { path = record { 0 = 0 }; layer = layers.Resumed }

    not_more : i ≤ j → ⊥
    not_more more = elim (cases_lt i j) [
      | inl less ↦
          let ascends = g.tables.ascend i j first less low in
          let a = sym (name_at g.instances.list.items i first (record { path = 0; layer = Resumed }) live.low) ∙ live.same in
          let b = sym (name_at g.instances.list.items j first (record { path = 0; layer = Resumed }) low) ∙ is in
          false≢true (sym (not-before x y before) ∙ ap (λ (z : Instance). comes_before z y) (sym a)
          ∙ ap (comes_before (instance_of (slice_index_or g.instances.list.items i first))) (sym b) ∙ ascends)
      | inr most ↦
          let same : i ≡ j = omega arith in
          let both : x ≡ y = sym live.same ∙ ap (instance_at (instances_of g)) same ∙ is in
          let paths = ap (λ (z : Instance). z.path) both in
          absurd (omega arith)
    ]

-- a number that was found is that of an instance of the graph
pub found-below : (g : Graph) (near : Neighbours) (list : List Statement) (j : ℕ) (y : Instance) → AreListed g near list → IsNumberOf (instances_in near) j y
    → j < length g.instances.list.items
found-below g near list j y l found =
    let many = length-map g.instances.list.items instance_of in
    let within : j < length (instances_of g) = subst (λ (xs : List Instance). j < length xs) l.instances found.within in
    omega arith

pub found-at : (g : Graph) (near : Neighbours) (list : List Statement) (j : ℕ) (y : Instance) → AreListed g near list → IsNumberOf (instances_in near) j y
    → instance_at (instances_of g) j ≡ y
found-at g near list j y l found = ap (λ xs. instance_at xs j) (sym l.instances) ∙ found.same (record { path = 0; layer = Resumed })
