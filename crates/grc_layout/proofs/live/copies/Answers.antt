use Rattle.std.proofs.Common.{◌≡◌, [], ◌∷◌, ◌++◌, ◌≤◌, length, map, ap, refl, ◌∙◌, arith}
use Rattle.std.proofs.lemmas.Result.{err_from_is_err_and}
use Rattle.est_kernel.specs.Plain.{term_of}
use Rattle.grc_graph.specs.Layers.{body_liveness}
use Rattle.grc_graph.specs.Instances.{body_instances}
use Rattle.grc_graph.specs.PlainInstances.{instance_of}
use Rattle.grc_graph.proofs.Exports.{codes_of_body, codes_at, statement_count-le}
use Rattle.grc_layout.specs.Copying.{Gains}
use Rattle.grc_layout.proofs.Counts.{length-gained}
use Rattle.grc_layout.proofs.Positions.{body_shows, fault_of, gains_at, too_many_at}
use Rattle.grc_layout.proofs.live.copies.Goals as goal

pub resumed_codes-requires : goal.resumed_codes-requires
resumed_codes-requires c = (codes_at _ _ 0 (codes_of_body _ _ c.requires.codes)).resumed_in

pub copy_part-requires-clause-codes : goal.copy_part-requires-clause-codes
copy_part-requires-clause-codes c = codes_of_body _ _ c.requires.codes

pub copy_part-requires-clause-fits : goal.copy_part-requires-clause-fits
copy_part-requires-clause-fits c = omega (arith, c.requires.limits.size, statement_count-le (term_of c.args.body.now))

pub returns-in_err-copy_part-clause-fault : goal.returns-in_err-copy_part-clause-fault
returns-in_err-copy_part-clause-fault c =
    let e = err_from_is_err_and c.from_residual-in_err-copy_part.result c.from_residual-in_err-copy_part.ensures.1 in
    let codes = codes_at _ _ 0 (codes_of_body _ (term_of c.args.body.now) c.requires.codes) in
    let roots = c.in_ok-push_root.ensures ∙ ap (λ l. l ++ 0 ∷ []) c.new-2.ensures.items in
    rw (e.1, e.2) (fault_of c.new.result.items (term_of c.args.body.now) _ c.new.ensures.items
    (too_many_at c.new.result.items _ c.push_root.new.roots.items _ (term_of c.args.body.now) (body_liveness (term_of c.args.body.now)) 0 _
    (body_shows c.has_some_code.result _ c.push_root.new.roots.items (term_of c.args.body.now) c.has_some_code.ensures
    (c.resumed_codes.ensures ∙ codes.resumed) roots)
    refl c.in_err-copy_part.ensures.many))

pub returns-clause-live : goal.returns-clause-live
returns-clause-live c =
    let codes = codes_at _ _ 0 (codes_of_body _ (term_of c.args.body.now) c.requires.codes) in
    let roots = c.in_ok-push_root.ensures ∙ ap (λ l. l ++ 0 ∷ []) c.new-2.ensures.items in
    let g : Gains c.new.result.items c.copy_part.new.lists.live.items (body_instances (term_of c.args.body.now))
    = gains_at c.new.result.items c.copy_part.new.lists.live.items _ c.push_root.new.roots.items _ (term_of c.args.body.now)
    (body_liveness (term_of c.args.body.now)) 0
    (body_shows c.has_some_code.result _ c.push_root.new.roots.items (term_of c.args.body.now) c.has_some_code.ensures
    (c.resumed_codes.ensures ∙ codes.resumed) roots)
    refl c.in_ok-copy_part.ensures.live
    in g.list ∙ ap (λ l. map instance_of l ++ body_instances (term_of c.args.body.now)) c.new.ensures.items

pub returns-clause-few : goal.returns-clause-few
returns-clause-few c =
    let codes = codes_at _ _ 0 (codes_of_body _ (term_of c.args.body.now) c.requires.codes) in
    let roots = c.in_ok-push_root.ensures ∙ ap (λ l. l ++ 0 ∷ []) c.new-2.ensures.items in
    let g : Gains c.new.result.items c.copy_part.new.lists.live.items (body_instances (term_of c.args.body.now))
    = gains_at c.new.result.items c.copy_part.new.lists.live.items _ c.push_root.new.roots.items _ (term_of c.args.body.now)
    (body_liveness (term_of c.args.body.now)) 0
    (body_shows c.has_some_code.result _ c.push_root.new.roots.items (term_of c.args.body.now) c.has_some_code.ensures
    (c.resumed_codes.ensures ∙ codes.resumed) roots)
    refl c.in_ok-copy_part.ensures.live
    in
    let none : length c.new.result.items ≡ 0 = ap length c.new.ensures.items in
    let few : length c.copy_part.new.lists.live.items ≤ 131072 = g.few (omega arith) in
    omega (arith, length-gained _ _ _ g)
