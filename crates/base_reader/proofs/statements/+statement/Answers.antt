use Rattle.std.proofs.Common.{◌∷◌, sym, ◌∙◌, map, arith}
use Rattle.std.proofs.lemmas.List.{map-append}
use Rattle.base_reader.specs.StatementGrammar.{plain_of, semicolon}
use Rattle.base_reader.specs.StatementReading.{opening, item, inside, list_of, step}
use Rattle.base_reader.proofs.Loops.{loop-begun}
use Rattle.base_reader.proofs.Steps.{trailing-some, loop-grown}
use Rattle.base_reader.proofs.StatementLaws.{statement-is, step-advances}
use Rattle.base_reader.proofs.statements.+statement.Goals as goal

pub read_statement-loop-behind-init : goal.read_statement-loop-behind-init
read_statement-loop-behind-init t c = record {
  some = omega (arith, c.in_ok-push.ensures.len);
  whole = rw (c.in_ok-push.ensures.items, c.new-items.ensures.items)
      (loop-begun (item c.args.room (inside c.args.room)) (step c.args.room (inside c.args.room)) (λ value others. list_of (value ∷ others)) c.args.tokens.now
      (plain_of c.in_ok-item.item) c.in_ok-item.rest.now c.in_ok-item.ensures
      ∙ sym (statement-is c.args.room c.args.tokens.now));
}

pub read_statement-loop-behind-smaller : goal.read_statement-loop-behind-smaller
read_statement-loop-behind-smaller t c =
    let arm = c.in-Some in
    step-advances c.args.room _ _ _ (trailing-some semicolon opening (item c.args.room (inside c.args.room)) _ _ _ _ arm.ensures
    (sym c.is_item_next.ensures ∙ c.if-not-is_item_next.false) c.in_ok-item-2.ensures)

pub read_statement-loop-behind-preserved : goal.read_statement-loop-behind-preserved
read_statement-loop-behind-preserved t c =
    let arm = c.in-Some in
    record {
      some = omega (arith, c.in_ok-push-2.ensures.len);
      whole = rw (c.in_ok-push-2.ensures.items, map-append)
          (loop-grown (step c.args.room (inside c.args.room)) (step-advances c.args.room) list_of (map plain_of c.loop-behind.items.items) _ _ _
          (trailing-some semicolon opening (item c.args.room (inside c.args.room)) _ _ _ _ arm.ensures
          (sym c.is_item_next.ensures ∙ c.if-not-is_item_next.false) c.in_ok-item-2.ensures)
          ∙ c.loop-behind.invariant.whole);
    }
