use Rattle.std.proofs.Common.{cond, true, take, sym, ap, ◌∙◌, arith}
use Rattle.base_types.specs.Names.{is_same_name}
use Rattle.net_ir.specs.NameLists.{is_among}
use Rattle.net_ir.proofs.Exports.{is_among-more}
use Rattle.blif_text.proofs.pieces.name_set.Goals as goal

-- the look-up of a name after a name is put in, by that of a key with its bytes
pub loop-name-preserved : goal.loop-name-preserved
loop-name-preserved c = λ name.
    let i = c.loop-name.name-index in
    let names = c.args.names.now in
    let last = c.name-item.result in
    let before = is_among name (take i names) in
    let here = is_among-more name names i last (omega arith) in
    c.in_ok-insert.ensures.updates.0 (record { ref_ptr = (0, 0); now = name })
    ∙ ap (λ b. cond (is_same_name c.bytes.result.now name) true b) (c.loop-name.invariant name)
    ∙ ap (λ x. cond (is_same_name x name) true before) (c.bytes.ensures ∙ c.name-item.is) ∙ sym here
