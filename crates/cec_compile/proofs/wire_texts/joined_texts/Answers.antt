use Rattle.std.proofs.Common.{◌++◌, map, sym, ap, ◌∙◌}
use Rattle.std.specs.List.{flat_map}
use Rattle.std.proofs.lemmas.List.Folds.{flat_map-map}
use Rattle.grc_graph.specs.PlainWireNames.{wire_name_of}
use Rattle.grc_list.specs.Listings.{wire_text}
use Rattle.cec_compile.specs.WireTexts.{joined_texts}
use Rattle.cec_compile.proofs.wire_texts.joined_texts.Goals as goal

pub returns-in_ok-put_others-in-Some : goal.returns-in_ok-put_others-in-Some
returns-in_ok-put_others-in-Some c =
    let others = c.in-Some.others.now in
    let between = c.args.between.now in
    c.in_ok-put_others-in-Some.ensures
    ∙ ap (λ t. t ++ flat_map (λ w. between ++ wire_text (wire_name_of w)) others) c.in_ok-text-in-Some.ensures
    ∙ ap (λ l. wire_text (wire_name_of c.in-Some.first.now) ++ l) (sym (flat_map-map (λ v. between ++ wire_text v) wire_name_of others))
    ∙ ap (λ ws. joined_texts between (map wire_name_of ws)) (sym c.in-Some.ensures.cases.0)
