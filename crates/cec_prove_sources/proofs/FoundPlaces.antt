-- The place of an output by its name.
use Rattle.std.proofs.Common.{◌≡◌, ◌<◌, ℕ, true, List, [], length, map, get_or, sym, subst, ◌∙◌}
use Rattle.std.proofs.lemmas.List.{get_or-map, length-map}
use Rattle.base_types.specs.Names.{is_same_name}
use Rattle.base_types.proofs.Exports.{same_name-is}
use Rattle.net_ir.specs.declared.netlist.NetOut.{NetOut}
use Rattle.cec_prove_sources.specs.Verdicts.{HasPlace}

pub found-place : (outputs : List NetOut) (k : ℕ) (d : NetOut) (name : List ℕ) → k < length outputs → is_same_name name (get_or outputs k d).name ≡ true
    → HasPlace (map (λ o. o.name) outputs) name k
found-place outputs k d name low same = record {
  low = subst (λ n. k < n) (sym (length-map outputs (λ (o : NetOut). o.name))) low;
  is = get_or-map (λ (o : NetOut). o.name) outputs k d [] low ∙ sym (same_name-is name (get_or outputs k d).name same);
}
