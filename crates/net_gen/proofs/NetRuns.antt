-- Over items a net that follows each instant follows the whole run.
use Rattle.std.proofs.Common.{◌≡◌, ℕ, ◌+◌, Bool, true, false, List, [], ◌∷◌, length, map, slice_index_or, refl, sym, ap, ◌∙◌, subst, arith, IsTrue, All}
use Rattle.std.specs.Bool.{⊤}
use Rattle.std.proofs.lemmas.Bool.{false≢true}
use Rattle.std.proofs.lemmas.List.{length-map, get_or-map}
use Rattle.base_types.specs.Items.{Item, Event, Reset, EachEvent}
use Rattle.est_kernel.specs.Plain.{program_of, given_count}
use Rattle.grc_graph.specs.declared.formulas.Formula.{Formula}
use Rattle.grc_graph.specs.declared.formulas.Formula.TheVariants as formulas
use Rattle.grc_graph.specs.declared.graph.Graph.{Graph}
use Rattle.grc_graph.specs.Formulas as plain
use Rattle.grc_graph.specs.GraphRuns.{IsGraphRun, formula_value}
use Rattle.grc_graph.specs.GraphRuns as graphs
use Rattle.grc_graph.specs.PlainGraphs.{formula_of, instances_of, names_of, plain_graph}
use Rattle.grc_graph.specs.Readings.{Valuation}
use Rattle.grc_formulas.specs.Occasions.{Occasion, state_of, state_in}
use Rattle.net_ir.specs.Netlists.{Netlist}
use Rattle.net_ir.specs.Runs.{Shown, shown, net_values, initial_latches, next_latches, values_from}
use Rattle.net_gen.specs.Generated.{HasInterfaceOf, Carries, ReactsAs, FollowsInstants, FollowsRun, FollowsRuns, EachInstant, shown_as}

-- from these latch values on
record Follows (g : Graph) (net : Netlist) (latches : List Bool) (items : List Item) (Vs : List Valuation) : Type 0 where
  shows : map (shown net) (values_from net latches items) ≡ map (λ V. shown_as (graphs.shown (plain_graph g) V)) Vs
  carries : EachInstant (Carries g net) (values_from net latches items) Vs

pub leaves-false : (g : Graph) → All (λ b. b ≡ false) (map (λ (f : Formula). false) g.next.items)
leaves-false g = λ k b h.
    let many = length-map g.next.items (λ (f : Formula). false) in
    get_or-map (λ (f : Formula). false) g.next.items k (formulas.Const true) b (omega arith)

first-latches : (g : Graph) (net : Netlist) → HasInterfaceOf g net → initial_latches net ≡ true ∷ map (λ (f : Formula). false) g.next.items
first-latches g net i = i.latches

follows-event : (g : Graph) (net : Netlist) (t : Occasion g) (items : List Item) (Vs : List Valuation)
    → ReactsAs g net t (net_values net (t.boot ∷ t.bits) t.event)
    → Follows g net (next_latches net (net_values net (t.boot ∷ t.bits) t.event)) items Vs
    → Follows g net (t.boot ∷ t.bits) (Event t.event ∷ items) (t.valuation ∷ Vs)
follows-event g net t items Vs r f = record { shows = λ i. r.shows i ∷ f.shows i; carries = (r.carries, f.carries) }

pub next-many : (g : Graph) (fv : plain.Formula → Bool) → length (map fv (plain_graph g).next) ≡ length g.next.items
next-many g fv = length-map (plain_graph g).next fv ∙ length-map g.next.items (formula_of (instances_of g) (names_of g))

follows-from : (g : Graph) (net : Netlist) → HasInterfaceOf g net → FollowsInstants g net →
    (items : List Item) (Vs : List Valuation) (boot : Bool) (bits : List Bool)
    → length bits ≡ length g.next.items → (IsTrue boot → All (λ b. b ≡ false) bits)
    → EachEvent (λ event. length event ≡ given_count (program_of g.program)) items
    → IsGraphRun (plain_graph g) (state_of (plain_graph g).leaves boot bits) items Vs → Follows g net (boot ∷ bits) items Vs
follows-from g net i f [] [] boot bits many none fit run = record { shows = refl; carries = tt }
follows-from g net i f [] (V ∷ Vs) boot bits many none fit run = absurd run
follows-from g net i f (Event event ∷ items) [] boot bits many none fit run = absurd run
follows-from g net i f (Event event ∷ items) (V ∷ Vs) boot bits many none fit run =
    let t : Occasion g = record {
      boot = boot;
      bits = bits;
      event = event;
      valuation = V;
      one_per_leaf = many;
      one_per_given = fit.0;
      unselected = none;
    } in
    let r = f t run.0 in
    let next = map (formula_value (plain_graph g) (state_in g t) event V) (plain_graph g).next in
    let rest = follows-from g net i f items Vs false next (next-many g (formula_value (plain_graph g) (state_in g t) event V))
    (λ e. absurd (false≢true e)) fit.1 run.1 in
    follows-event g net t items Vs r (subst (λ latches. Follows g net latches items Vs) (sym r.next) rest)
follows-from g net i f (Reset ∷ items) Vs boot bits many none fit run =
    let leaves = map (λ (x : Formula). false) g.next.items in
    let rest = follows-from g net i f items Vs true leaves (length-map g.next.items (λ (x : Formula). false)) (λ e. leaves-false g) fit run in
    let again = subst (λ latches. Follows g net latches items Vs) (sym (first-latches g net i)) rest in
    record { shows = again.shows; carries = again.carries }

pub follows-runs : (g : Graph) (net : Netlist) → HasInterfaceOf g net → FollowsInstants g net → FollowsRuns g net
follows-runs g net i f = λ items Vs fit run.
    let leaves = map (λ (x : Formula). false) g.next.items in
    let all = follows-from g net i f items Vs true leaves (length-map g.next.items (λ (x : Formula). false)) (λ e. leaves-false g) fit run in
    let from = subst (λ latches. Follows g net latches items Vs) (sym (first-latches g net i)) all in
    record { shows = from.shows; carries = from.carries }
