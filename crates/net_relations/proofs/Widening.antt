-- What is optimized over all events is so over those that relations allow, also with smaller gates between.
use Rattle.std.proofs.Common.{◌≡◌, List, [], ◌∷◌, length, refl, sym, ap, ◌∙◌, subst, arith, All}
use Rattle.base_types.specs.Items.{Item, Event, Reset, EachEvent}
use Rattle.base_types.specs.Relations.{Relation}
use Rattle.net_ir.specs.Netlists.{IsNet, Netlist, output_names}
use Rattle.net_opt.specs.Optimized.{Optimizes}
use Rattle.net_relations.specs.Implications.{IsKept, IsStrippedNet}
use Rattle.net_relations.specs.Under.{IsAllowed, OptimizesUnder}
use Rattle.net_relations.specs.declared.implications.Implication.{Implication}
use Rattle.net_relations.proofs.Runs.{stripped-follows}

wide_events : (old net : Netlist) (relations : List Relation) → length old.inputs ≡ length net.inputs → (items : List Item)
    → EachEvent (IsAllowed old relations) items → EachEvent (λ event. length event ≡ length net.inputs) items
wide_events old net relations same [] fits = fits
wide_events old net relations same (Event given ∷ items) fits = (fits.0.wide ∙ same, wide_events old net relations same items fits.1)
wide_events old net relations same (Reset ∷ items) fits = wide_events old net relations same items fits

allowed_events : (old net : Netlist) (relations : List Relation) → length old.inputs ≡ length net.inputs → (items : List Item)
    → EachEvent (IsAllowed old relations) items → EachEvent (IsAllowed net relations) items
allowed_events old net relations same [] fits = fits
allowed_events old net relations same (Event given ∷ items) fits =
    (record { wide = fits.0.wide ∙ same; meets = fits.0.meets }, allowed_events old net relations same items fits.1)
allowed_events old net relations same (Reset ∷ items) fits = allowed_events old net relations same items fits

pub optimizes-under : (relations : List Relation) (old new : Netlist) → Optimizes old new → OptimizesUnder relations old new
optimizes-under relations old new o = record {
  interface = o.replaces.interface;
  follows = λ items fits. o.replaces.followed.runs items (wide_events old old relations refl items fits);
  fewer_gates = o.fewer_gates;
  fewer_latches = o.fewer_latches;
}

-- a netlist is optimized, its gates read less, and it is optimized again
pub optimizes-twice : (relations : List Relation) (known : List Implication) (old small stripped new : Netlist) → IsNet small → Optimizes old small
    → All (IsKept relations (length old.inputs)) known → IsStrippedNet small known stripped → Optimizes stripped new → OptimizesUnder relations old new
optimizes-twice relations known old small stripped new is first kept less last =
    let inputs : small.inputs ≡ old.inputs = first.replaces.interface.inputs in
    let same : length old.inputs ≡ length small.inputs = ap length (sym inputs) in
    let through : length small.inputs ≡ length stripped.inputs = ap (λ (n : Netlist). length n.inputs) (sym less.same) in
    let all = subst (λ n. All (IsKept relations n) known) same kept in record {
      interface = record {
        name = last.replaces.interface.name ∙ ap (λ (n : Netlist). n.name) less.same ∙ first.replaces.interface.name;
        inputs = last.replaces.interface.inputs ∙ ap (λ (n : Netlist). n.inputs) less.same ∙ inputs;
        outputs = last.replaces.interface.outputs ∙ ap output_names less.same ∙ first.replaces.interface.outputs;
        silent = last.replaces.interface.silent;
      };
      follows = λ items fits.
          last.replaces.followed.runs items (wide_events old stripped relations (same ∙ through) items fits)
          ∙ stripped-follows relations small known stripped is.reads_lower less all items (allowed_events old small relations same items fits)
          ∙ first.replaces.followed.runs items (wide_events old old relations refl items fits);
      fewer_gates = omega (arith, last.fewer_gates, less.gates.count, first.fewer_gates);
      fewer_latches = omega (arith, last.fewer_latches, ap (λ (n : Netlist). length n.latches) less.same, first.fewer_latches);
    }
