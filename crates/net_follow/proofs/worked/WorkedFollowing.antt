-- Two small netlists, by hand, of which one does not follow the other; and what it means that one does.
use Rattle.std.proofs.Common.{◌≡◌, Bool, true, false, List, [], ◌∷◌, None, map, codes, refl, arith, ap}
use Rattle.base_types.specs.Items.{Item, EachEvent}
use Rattle.base_machines.specs.Machines.{Follows}
use Rattle.net_ir.specs.declared.netlist.Op.TheVariants.{Copy, Not}
use Rattle.net_ir.specs.declared.netlist.Op.{Op}
use Rattle.net_ir.specs.Netlists.{Netlist}
use Rattle.net_ir.specs.Runs.{net_machine, net_run, shown, values_from}
use Rattle.net_follow.specs.Following.{IsWide, ShowSame, AlikeFrom, IsFollowed}

-- an output that is the input, or its negation
abbrev by : Op → Netlist
by op = record {
  name = codes "T";
  inputs = codes "A" ∷ [];
  outputs = record { name = codes "O"; net = record { 0 = 1 } } ∷ [];
  paused = 0;
  latches = [];
  gates = record { op = op; wire = None } ∷ [];
}

abbrev same : Netlist
same = by (Copy (record { 0 = 0 }))

abbrev turned : Netlist
turned = by (Not (record { 0 = 0 }))

wide : IsWide same (true ∷ [])
wide = refl

not_wide : IsWide same [] → ⊥
not_wide h = omega (arith, h)

-- the nets of an instant in which the input is true, where the gate computes so
shown_alike : ShowSame same same (true ∷ true ∷ []) (true ∷ true ∷ [])
shown_alike = refl

not_shown_alike : ShowSame same turned (true ∷ true ∷ []) (true ∷ false ∷ []) → ⊥
not_shown_alike h = differ (ap (λ s. s.outputs) h)
  where
    differ : false ∷ [] ≡ true ∷ [] → ⊥
    differ e = cc

what_is_followed : (old new : Netlist) → IsFollowed old new → (items : List Item) → EachEvent (IsWide old) items → net_run new items ≡ net_run old items
what_is_followed old new h = h.runs

how_it_is_followed : (old new : Netlist) → IsFollowed old new
    → Follows (net_machine old) (net_machine new) (IsWide old) (ShowSame old new) (AlikeFrom old new)
how_it_is_followed old new h = h.follows

alike_from_states : (old new : Netlist) (s t : List Bool) → AlikeFrom old new s t → (items : List Item) → EachEvent (IsWide old) items
    → map (shown new) (values_from new t items) ≡ map (shown old) (values_from old s items)
alike_from_states old new s t h = h
