-- A netlist that holds the code of another's latches shows the same over items.
use Rattle.std.proofs.Common.{◌≡◌, Bool, List, [], ◌∷◌, length, map, refl, sym, ap, ◌∙◌, subst}
use Rattle.std.proofs.lemmas.List.{length-map}
use Rattle.base_types.specs.Items.{Item, Event, Reset, EachEvent}
use Rattle.net_ir.specs.declared.netlist.Latch.{Latch}
use Rattle.net_ir.specs.Gates.{value_in}
use Rattle.net_ir.specs.Netlists.{Netlist, first_gate}
use Rattle.net_ir.specs.Runs.{shown, net_values, initial_latches, next_latches, values_from}
use Rattle.net_simp.specs.SameRuns.{carried_values, RunsAlike}
use Rattle.net_state_enc.specs.Meeting.{LatchesMeet}
use Rattle.net_state_enc.specs.Recodings.{Recodes, RecodesInstants}

-- from these latch values on
record AlikeFrom (net new : Netlist) (latches new_latches : List Bool) (items : List Item) : Type 0 where
  shows : map (shown new) (values_from new new_latches items) ≡ map (shown net) (values_from net latches items)
  carries : map (carried_values (first_gate new) new.gates) (values_from new new_latches items)
      ≡ map (carried_values (first_gate net) net.gates) (values_from net latches items)

alike-event : (net new : Netlist) (write read : List Bool → List Bool) (latches inputs : List Bool) (items : List Item)
    → Recodes net new write read (write latches) inputs → read (write latches) ≡ latches
    → AlikeFrom net new (next_latches net (net_values net latches inputs)) (write (next_latches net (net_values net latches inputs))) items
    → AlikeFrom net new latches (write latches) (Event inputs ∷ items)
alike-event net new write read latches inputs items s back rest =
    let next : next_latches new (net_values new (write latches) inputs) ≡ write (next_latches net (net_values net latches inputs))
    = s.next ∙ ap (λ l. write (next_latches net (net_values net l inputs))) back in
    let shows = s.shows ∙ ap (λ l. shown net (net_values net l inputs)) back in
    let carries = s.carries ∙ ap (λ l. carried_values (first_gate net) net.gates (net_values net l inputs)) back in
    let later = subst (λ l. AlikeFrom net new (next_latches net (net_values net latches inputs)) l items) (sym next) rest in
    record { shows = λ i. shows i ∷ later.shows i; carries = λ i. carries i ∷ later.carries i }

alike-from : (net new : Netlist) (write read : List Bool → List Bool) → RecodesInstants net new write read
    → ((l : List Bool) → length l ≡ length net.latches → length (write l) ≡ length new.latches)
    → initial_latches new ≡ write (initial_latches net)
    → (items : List Item) (latches : List Bool) → length latches ≡ length net.latches
    → EachEvent (λ event. length event ≡ length net.inputs) items
    → LatchesMeet (λ l. read (write l) ≡ l) net latches items → AlikeFrom net new latches (write latches) items
alike-from net new write read recodes many inits [] latches len fit meets = record { shows = refl; carries = refl }
alike-from net new write read recodes many inits (Event inputs ∷ items) latches len fit meets =
    let values = net_values net latches inputs in
    alike-event net new write read latches inputs items (recodes (write latches) inputs (many latches len) fit.0) meets.0
    (alike-from net new write read recodes many inits items (next_latches net values) (length-map net.latches (λ (l : Latch). value_in values l.from.0)) fit.1
    meets.1)
alike-from net new write read recodes many inits (Reset ∷ items) latches len fit meets =
    let rest = alike-from net new write read recodes many inits items (initial_latches net) (length-map net.latches (λ (l : Latch). l.init)) fit meets in
    let again = subst (λ l. AlikeFrom net new (initial_latches net) l items) (sym inits) rest in
    record { shows = again.shows; carries = again.carries }

-- wherever the latches can be read back from their code in each instant
pub runs-alike : (net new : Netlist) (write read : List Bool → List Bool) → RecodesInstants net new write read
    → ((l : List Bool) → length l ≡ length net.latches → length (write l) ≡ length new.latches)
    → initial_latches new ≡ write (initial_latches net)
    → (items : List Item) → EachEvent (λ event. length event ≡ length net.inputs) items
    → LatchesMeet (λ l. read (write l) ≡ l) net (initial_latches net) items → RunsAlike net new items
runs-alike net new write read recodes many inits items fit meets =
    let from = alike-from net new write read recodes many inits items (initial_latches net) (length-map net.latches (λ (l : Latch). l.init)) fit meets in
    let all = subst (λ l. AlikeFrom net new (initial_latches net) l items) (sym inits) from in
    record { shows = all.shows; carries = all.carries }
