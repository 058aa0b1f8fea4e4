use Rattle.std.proofs.Common.{◌≡◌, ◌<◌, ◌++◌, ◌∷◌, [], false, length, take, slice_index_or, sym, ap, ◌∙◌, arith}
use Rattle.std.proofs.lemmas.List.{take_more, take_more_set, length-set}
use Rattle.grc_formulas.specs.declared.table.Row.TheVariants.{Not}
use Rattle.grc_formulas.specs.declared.table.Source.TheVariants.{Const}
use Rattle.grc_formulas.specs.Rows.{row_value, row_values}
use Rattle.grc_formulas.proofs.Exports.{row_values-append}
use Rattle.grc_evaluate.specs.Evaluations.{surroundings_of}
use Rattle.grc_ternary_run.proofs.room.fill_rows.Goals as goal

pub loop-k-preserved : goal.loop-k-preserved
loop-k-preserved c =
    let inv = c.loop-k.invariant in
    let k = c.loop-k.k in
    let rows = c.loop-k.rows.items in
    let table = c.args.table.now in
    let S = surroundings_of c.args.start.now c.args.wires.now in
    let x = slice_index_or table k (Not (Const false)) in
    let room = c.requires.room in
    let same = inv.len in
    let test = c.loop-k-test.true in
    let most = c.requires.to in
    let low : k < length table = omega arith in
    let v = c.row_value-value.result in
    let value : v ≡ row_value S (row_values S [] (take k table)) x =
    c.row_value-value.ensures ∙ ap (λ xs. row_value S (take k xs) x) c.deref.ensures.value ∙ ap (λ xs. row_value S xs x) inv.front in
    record {
      len = length-set rows k v ∙ same;
      front = take_more_set rows k v (omega arith) ∙ ap (λ xs. xs ++ v ∷ []) inv.front
          ∙ ap (λ b. row_values S [] (take k table) ++ b ∷ []) value
          ∙ sym (row_values-append S [] (take k table) (x ∷ []))
          ∙ ap (row_values S []) (sym (take_more table k (Not (Const false)) low));
    }
