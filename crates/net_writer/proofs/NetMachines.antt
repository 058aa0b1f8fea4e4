-- Inner: machines of valuations in whose instants the nets of a netlist have their values.
use Rattle.std.proofs.Common.{◌≡◌, Bool, List, [], ◌∷◌, length, map, refl, ap, ◌∙◌, subst}
use Rattle.std.proofs.lemmas.List.{length-map}
use Rattle.base_types.specs.Items.{Item, Event, Reset, EachEvent}
use Rattle.base_machines.specs.Machines.{Machine, IsRunFrom}
use Rattle.net_ir.specs.declared.netlist.Latch.{Latch}
use Rattle.net_ir.specs.Netlists.{Netlist}
use Rattle.net_ir.specs.Runs.{net_values, next_latches, initial_latches, values_from, net_values_run}
use Rattle.net_ir.proofs.Exports.{length-next, told-values, told_from}

-- over all latch values and inputs there is an instant, each one has what holds with the net's values, and its latches get the net's
pub record HasNet {V : Type 0} (net : Netlist) (start : List Bool) (instant : List Bool → List Bool → V → Type 0)
    (next : List Bool → List Bool → V → List Bool) (Holds : List Bool → List Bool → V → Type 0) : Type 0 where
  pub begins : start ≡ initial_latches net
  pub exists : (latches inputs : List Bool) → length latches ≡ length net.latches → length inputs ≡ length net.inputs → (v : V) × instant latches inputs v
  pub holds : (latches inputs : List Bool) (v : V) → instant latches inputs v → Holds latches inputs v
  pub kept : (latches inputs : List Bool) (v : V) → Holds latches inputs v → next latches inputs v ≡ next_latches net (net_values net latches inputs)

module _ {V : Type 0} {net : Netlist} {start : List Bool} {instant : List Bool → List Bool → V → Type 0} {next : List Bool → List Bool → V → List Bool}
    {Holds : List Bool → List Bool → V → Type 0} (k : HasNet net start instant next Holds) where
  abbrev pub machine : Machine V
  machine = record { State = List Bool; start = start; instant = instant; next = next }

  length-start : length start ≡ length net.latches
  length-start = ap length k.begins ∙ length-map net.latches (λ (l : Latch). l.init)

  pub runs-from : (latches : List Bool) (items : List Item) → length latches ≡ length net.latches
      → EachEvent (λ inputs. length inputs ≡ length net.inputs) items → (vs : List V) × IsRunFrom machine latches items vs
  runs-from latches [] l wide = ([], tt)
  runs-from latches (Event inputs ∷ items) l wide =
      let here = k.exists latches inputs l wide.0 in
      let kept = k.kept latches inputs here.0 (k.holds latches inputs here.0 here.1) in
      let rest = runs-from (next latches inputs here.0) items (ap length kept ∙ length-next net (net_values net latches inputs)) wide.1 in
      (here.0 ∷ rest.0, (here.1, rest.1))
  runs-from latches (Reset ∷ items) l wide = runs-from start items length-start wide

  -- there is a run
  pub runs : (items : List Item) → EachEvent (λ inputs. length inputs ≡ length net.inputs) items → (vs : List V) × IsRunFrom machine start items vs
  runs items wide = runs-from start items length-start wide

  -- what is so of every instant with the net's values is so of every run: f of the valuations is g of the values
  pub runs-are : {X : Type 0} (f : V → X) (g : List Bool → List Bool → X)
      → ((latches inputs : List Bool) (v : V) → Holds latches inputs v → f v ≡ g latches inputs)
      → (latches : List Bool) (items : List Item) (vs : List V) → IsRunFrom machine latches items vs → map f vs ≡ told_from net g latches items
  runs-are f g each latches [] [] run = refl
  runs-are f g each latches [] (v ∷ vs) run = absurd run
  runs-are f g each latches (Event inputs ∷ items) [] run = absurd run
  runs-are f g each latches (Event inputs ∷ items) (v ∷ vs) run =
      let holds = k.holds latches inputs v run.0 in
      let rest = subst (λ l. IsRunFrom machine l items vs) (k.kept latches inputs v holds) run.1 in
      ap (λ x. x ∷ map f vs) (each latches inputs v holds)
      ∙ ap (λ x. g latches inputs ∷ x) (runs-are f g each (next_latches net (net_values net latches inputs)) items vs rest)
  runs-are f g each latches (Reset ∷ items) vs run =
      runs-are f g each (initial_latches net) items vs (subst (λ l. IsRunFrom machine l items vs) k.begins run)

  -- a function of the nets' values
  pub runs-tell : {X : Type 0} (f : V → X) (h : List Bool → X)
      → ((latches inputs : List Bool) (v : V) → Holds latches inputs v → f v ≡ h (net_values net latches inputs))
      → (items : List Item) (vs : List V) → IsRunFrom machine start items vs → map f vs ≡ map h (net_values_run net items)
  runs-tell f h each items vs run =
      runs-are f (λ latches inputs. h (net_values net latches inputs)) each start items vs run ∙ told-values net h start items
      ∙ ap (λ l. map h (values_from net l items)) k.begins
