use Rattle.std.proofs.Common.{◌≡◌, ◌<◌, [], true, cond, length, take, get_or, sym, ap, ◌∙◌, arith}
use Rattle.std.proofs.lemmas.List.{get_or_default}
use Rattle.base_types.specs.Names.{is_same_name}
use Rattle.net_ir.specs.NameLists.{is_among}
use Rattle.net_ir.proofs.Exports.{is_among-more}
use Rattle.csub_read.proofs.names.local_set.Goals as goal

pub loop-name-preserved : goal.loop-name-preserved
loop-name-preserved c =
    let i = c.loop-name.name-index in
    let names = c.args.locals.now in
    let low : i < length names = omega arith in
    let at : c.bytes.result.now ≡ get_or names i [] = c.bytes.ensures ∙ c.name-item.is ∙ get_or_default names i _ [] low in
    λ name. c.in_ok-insert.ensures.updates.0 (record { ref_ptr = (0, 0); now = name })
    ∙ ap (λ b. cond (is_same_name c.bytes.result.now name) true b) (c.loop-name.invariant name)
    ∙ ap (λ x. cond (is_same_name x name) true (is_among name (take i names))) at ∙ sym (is_among-more name names i [] low)
