use Rattle.std.proofs.Common.{sym, ap, ◌∙◌, Bor, ℕ, List}
use Rattle.base_types.specs.Names.{is_same_name}
use Rattle.est_names.specs.Names.{is_among}
use Rattle.est_names.proofs.NameSets.{list_any-map}
use Rattle.est_names.proofs.name_set.NameSet.contains.Goals as goal

pub returns : goal.returns
returns c =
    c.contains.ensures ∙ sym (list_any-map (is_same_name c.args.name.now) (λ (k : Bor (List ℕ)). k.now) c.self.inside.names.keys)
    ∙ ap (is_among c.args.name.now) c.self.view_is
