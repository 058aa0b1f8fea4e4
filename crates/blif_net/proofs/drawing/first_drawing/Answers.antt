use Rattle.std.proofs.Common.{◌≡◌, ◌∷◌, [], List, sym, subst, ◌∙◌, ap, false, None}
use Rattle.net_ir.specs.declared.netlist.Gate.{Gate}
use Rattle.net_ir.specs.declared.netlist.Op.TheVariants.{Const}
use Rattle.blif_net.specs.Tables.{BeginsFlat, Settles}
use Rattle.blif_net.proofs.SlotDepths.{begins-flat}
use Rattle.blif_net.proofs.Slots.{settles-none}
use Rattle.blif_net.proofs.drawing.first_drawing.Goals as goal

pub returns-clause-settles : goal.returns-clause-settles
returns-clause-settles c =
    let never : Gate = record { op = Const false; wire = None } in
    let gates : c.in_ok-gates.gates.items ≡ never ∷ [] = c.in_ok-gates.ensures.items ∙ ap (λ g. g ∷ []) c.never.ensures in
    subst (λ (l : List Gate). Settles c.args.first c.args.count l c.in_ok-nets.nets.items []) (sym gates)
    (settles-none c.args.first c.args.count c.in_ok-nets.nets.items c.requires.few c.in_ok-nets.ensures.each c.in_ok-nets.ensures.own)

pub returns-clause-deep : goal.returns-clause-deep
returns-clause-deep c =
    let never : Gate = record { op = Const false; wire = None } in
    let gates : c.in_ok-gates.gates.items ≡ never ∷ [] = c.in_ok-gates.ensures.items ∙ ap (λ g. g ∷ []) c.never.ensures in
    subst (λ (l : List Gate). BeginsFlat c.args.first c.args.count l c.in_ok-nets.nets.items) (sym gates)
    (begins-flat c.args.first c.args.count c.in_ok-nets.nets.items c.in_ok-nets.ensures.each)
