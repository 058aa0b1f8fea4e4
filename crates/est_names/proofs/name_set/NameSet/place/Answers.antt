use Rattle.std.proofs.Common.{sym, ap, ◌∙◌, Bor, ℕ, List}
use Rattle.base_types.specs.Names.{is_same_name}
use Rattle.est_names.specs.Names.{place_of}
use Rattle.est_names.proofs.NameSets.{position-map}
use Rattle.est_names.proofs.name_set.NameSet.place.Goals as goal

pub returns-clause-place : goal.returns-clause-place
returns-clause-place c =
    c.get_index_of.ensures.index ∙ sym (position-map (is_same_name c.args.name.now) (λ (k : Bor (List ℕ)). k.now) c.self.inside.names.keys)
    ∙ ap (place_of c.args.name.now) c.self.view_is
