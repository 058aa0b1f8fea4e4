-- What the code finds of owners: they are those by the regions of gates, and their heads are gates.
use Rattle.std.proofs.Common.{◌≡◌, ℕ, ◌+◌, ◌<◌, ◌≤◌, List, [], ◌∷◌, length, map, get_or, Option, Some, None, All}
use Rattle.std.proofs.Common.{refl, sym, ap, ◌∙◌, arith}
use Rattle.std.proofs.lemmas.List.{length-map, get_or-map}
use Rattle.base_types.specs.declared.indices.WireId.{WireId}
use Rattle.net_ir.specs.declared.netlist.Gate.{Gate}
use Rattle.net_ir.specs.Netlists.{Netlist, first_gate}
use Rattle.net_ir.specs.Writing.{IsWritable}
use Rattle.csub_guard_blocks.specs.declared.owning.Owner.{Owner as OwnerCode}
use Rattle.csub_guard_blocks.specs.Blocks.{head_of, HasHead}
use Rattle.csub_guard_blocks.specs.Owners.{Owner, Free, Inner, Outer, Usage, in_region, owner_of, owners_from, owners, usage}
use Rattle.csub_guard_blocks.specs.Usages.{owner_in, region_in}
use Rattle.csub_guard_writer.specs.Regions.{region_by}
use Rattle.csub_guard_writer.proofs.GateRegions.{heads-fit}
use Rattle.csub_guard_writer.proofs.OwnerFits.{many, head-facts}

owner-same : (f g : ℕ → Option ℕ) (k : ℕ) (w : Option WireId) (u : Usage) → f k ≡ g k → owner_of f k w u ≡ owner_of g k w u
owner-same f g k None u e = refl
owner-same f g k (Some w) u e = ap (λ r. in_region k r u) e

from-same : (net : Netlist) (f g : ℕ → Option ℕ) (n : ℕ) (gates : List Gate) → ((k : ℕ) → n ≤ k → k < n + length gates → f k ≡ g k)
    → owners_from net f n gates ≡ owners_from net g n gates
from-same net f g n [] same = refl
from-same net f g n (x ∷ gates) same =
    let rest = from-same net f g (n + 1) gates (λ k from below. same k (omega (arith, from)) (omega (arith, below))) in
    ap (λ os. owner_of f n x.wire (usage net gates os (first_gate net + n)) ∷ os) rest
    ∙ ap (λ o. o ∷ owners_from net g (n + 1) gates)
    (owner-same f g n x.wire (usage net gates (owners_from net g (n + 1) gates) (first_gate net + n)) (same n (omega arith) (omega arith)))

owners-same : (net : Netlist) (f g : ℕ → Option ℕ) → ((k : ℕ) → k < length net.gates → f k ≡ g k) → owners net f ≡ owners net g
owners-same net f g same = from-same net f g 0 net.gates (λ k from below. same k (omega (arith, below)))

-- owners by regions that were found are those by the regions of wires
pub owners-found : (net : Netlist) (regions : List (Option WireId)) (gates given : List (Option ℕ)) (os taken : List OwnerCode)
    → ((k : ℕ) → k < length net.gates → region_in gates k ≡ region_by net regions k) → given ≡ gates
    → map owner_in os ≡ owners net (region_in given) → taken ≡ os → map owner_in taken ≡ owners net (region_by net regions)
owners-found net regions gates given os taken are same made e =
    ap (map owner_in) e ∙ made ∙ ap (λ r. owners net (region_in r)) same ∙ owners-same net (region_in gates) (region_by net regions) are

has-head : (count : ℕ) (o : Owner) → ((h : ℕ) → head_of o ≡ Some h → h < count) → HasHead count o
has-head count Free low = tt
has-head count (Inner h) low = low h refl
has-head count (Outer h) low = low h refl

pub heads-found : (net : Netlist) → IsWritable net → (regions : List (Option WireId)) (os : List OwnerCode)
    → map owner_in os ≡ owners net (region_by net regions) → All (λ o. HasHead (length net.gates) (owner_in o)) os
heads-found net is regions os same k d low =
    let fit = heads-fit net regions in
    let count = length-map os owner_in in
    let all = many net is (region_by net regions) fit in
    let many_of = ap length same in
    let at : get_or (owners net (region_by net regions)) k Free ≡ owner_in (get_or os k d)
    = ap (λ l. get_or l k Free) (sym same) ∙ get_or-map owner_in os k d Free low in
    has-head (length net.gates) (owner_in (get_or os k d))
    (λ h e. omega (arith, (head-facts net is (region_by net regions) fit k h (ap head_of at ∙ e)).0, low, count, all, many_of))
