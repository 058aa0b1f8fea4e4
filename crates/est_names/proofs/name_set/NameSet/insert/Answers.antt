use Rattle.std.proofs.Common.{sym, ap, ◌∙◌, not, Bor, ℕ, List}
use Rattle.base_types.specs.Names.{is_same_name}
use Rattle.est_names.specs.Names.{is_among}
use Rattle.est_names.proofs.NameSets.{list_any-map}
use Rattle.est_names.proofs.name_set.NameSet.insert.Goals as goal

pub returns-clause-new : goal.returns-clause-new
returns-clause-new c =
    c.in_ok-insert.ensures.added
    ∙ ap not (sym (list_any-map (is_same_name c.args.name.now) (λ (k : Bor (List ℕ)). k.now) c.self.inside.names.keys)
    ∙ ap (is_among c.args.name.now) c.self.view_is)
