use Rattle.std.proofs.Common.{◌≡◌, ◌∷◌, Ok, Some, sym, subst, refl, ◌∙◌, map, arith}
use Rattle.std.proofs.lemmas.List.{map-append}
use Rattle.est_ast.specs.declared.tokens.Reserved.TheVariants as words
use Rattle.est_ast.specs.declared.tokens.Mark.TheVariants as marks
use Rattle.est_ast.specs.Grammar.{word, mark}
use Rattle.est_ast.specs.Trees.{Seq, Par, cases}
use Rattle.est_ast.specs.Views.{stmt_of, case_of}
use Rattle.base_reader.specs.Readings.{picked, give, on}
use Rattle.base_reader.proofs.Exports.{loop-begun, optional_or-some, trailing-some, loop-grown}
use Rattle.est_parse.specs.Parts.{stmt_list}
use Rattle.est_parse.specs.Openings.{opening}
use Rattle.est_parse.specs.Reading.{item, line, line_step, whole_step, inside, rules, case_behind, case_step}
use Rattle.est_ast.specs.Views.{form_of}
use Rattle.est_parse.specs.declared.openings.Opening.TheVariants as openings
use Rattle.est_parse.specs.Reading.{tail}
use Rattle.est_parse.proofs.Forms.{form-opened}
use Rattle.base_reader.specs.Found.{Finds}
use Rattle.est_parse.proofs.Lists.{on-read, finished-begun, finished-grown}
use Rattle.est_parse.proofs.StmtLaws.{line-advances, whole-advances, case-advances}
use Rattle.est_parse.proofs.statements.+statements.Goals as goal

pub read_statement-loop-behind-init : goal.read_statement-loop-behind-init
read_statement-loop-behind-init t c = record {
  some = omega (arith, c.in_ok-push.ensures.len);
  whole = rw (c.in_ok-push.ensures.items, c.new-parts.ensures.items)
      (finished-begun Par (line c.args.room (inside c.args.room)) (whole_step c.args.room (inside c.args.room)) c.args.tokens.now
      (stmt_of c.in_ok-first.first) c.in_ok-first.rest.now c.in_ok-first.ensures);
}

pub read_statement-loop-behind-smaller : goal.read_statement-loop-behind-smaller
read_statement-loop-behind-smaller t c =
    whole-advances c.args.room c.loop-behind.rest.now (stmt_of c.in_ok-part.part) c.in_ok-part.behind.now
    (optional_or-some (mark marks.DoubleBar) (λ _. line c.args.room (inside c.args.room)) (give tt) c.loop-behind.rest.now tt c.in-Some.behind.now
    (stmt_of c.in_ok-part.part) c.in_ok-part.behind.now c.in-Some.ensures c.in_ok-part.ensures)

pub read_statement-loop-behind-preserved : goal.read_statement-loop-behind-preserved
read_statement-loop-behind-preserved t c = record {
  some = omega (arith, c.in_ok-push-2.ensures.len);
  whole = rw (c.in_ok-push-2.ensures.items, map-append)
      (finished-grown (whole_step c.args.room (inside c.args.room)) (whole-advances c.args.room) (stmt_list Par)
      (map stmt_of c.loop-behind.parts.items) c.args.tokens.now c.loop-behind.rest.now (stmt_of c.in_ok-part.part) c.in_ok-part.behind.now
      (optional_or-some (mark marks.DoubleBar) (λ _. line c.args.room (inside c.args.room)) (give tt) c.loop-behind.rest.now tt c.in-Some.behind.now
      (stmt_of c.in_ok-part.part) c.in_ok-part.behind.now c.in-Some.ensures c.in_ok-part.ensures)
      ∙ c.loop-behind.invariant.whole);
}

pub read_line-loop-behind-init : goal.read_line-loop-behind-init
read_line-loop-behind-init t c = record {
  some = omega (arith, c.in_ok-push.ensures.len);
  whole = rw (c.in_ok-push.ensures.items, c.new-parts.ensures.items)
      (finished-begun Seq (item c.args.room (inside c.args.room)) (line_step c.args.room (inside c.args.room)) c.args.tokens.now
      (stmt_of c.in_ok-first.first) c.in_ok-first.rest.now c.in_ok-first.ensures);
}

pub read_line-loop-behind-smaller : goal.read_line-loop-behind-smaller
read_line-loop-behind-smaller t c =
    line-advances c.args.room c.loop-behind.rest.now (stmt_of c.in_ok-part.part) c.in_ok-part.behind.now
    (trailing-some (mark marks.Semicolon) opening (item c.args.room (inside c.args.room)) c.loop-behind.rest.now c.in-Some.behind.now
    (stmt_of c.in_ok-part.part) c.in_ok-part.behind.now c.in-Some.ensures (sym c.is_item_next.ensures ∙ c.if-not-is_item_next.false) c.in_ok-part.ensures)

pub read_line-loop-behind-preserved : goal.read_line-loop-behind-preserved
read_line-loop-behind-preserved t c = record {
  some = omega (arith, c.in_ok-push-2.ensures.len);
  whole = rw (c.in_ok-push-2.ensures.items, map-append)
      (finished-grown (line_step c.args.room (inside c.args.room)) (line-advances c.args.room) (stmt_list Seq)
      (map stmt_of c.loop-behind.parts.items) c.args.tokens.now c.loop-behind.rest.now (stmt_of c.in_ok-part.part) c.in_ok-part.behind.now
      (trailing-some (mark marks.Semicolon) opening (item c.args.room (inside c.args.room)) c.loop-behind.rest.now c.in-Some.behind.now
      (stmt_of c.in_ok-part.part) c.in_ok-part.behind.now c.in-Some.ensures (sym c.is_item_next.ensures ∙ c.if-not-is_item_next.false) c.in_ok-part.ensures)
      ∙ c.loop-behind.invariant.whole);
}

pub read_cases-loop-behind-init : goal.read_cases-loop-behind-init
read_cases-loop-behind-init t c =
    rw (c.in_ok-push.ensures.items, c.new-found.ensures.items)
    (loop-begun (on (word words.Case) (λ _. case_behind (rules c.args.room))) (case_step (rules c.args.room))
    (λ value others. cases (value ∷ others)) c.args.tokens.now (case_of c.in_ok-first.first) c.in_ok-first.rest.now
    (on-read (word words.Case) (λ _. case_behind (rules c.args.room)) c.args.tokens.now tt c.in_ok-rest.rest.now
    (Ok (case_of c.in_ok-first.first, c.in_ok-first.rest.now)) c.in_ok-rest.ensures c.in_ok-first.ensures))

pub read_cases-loop-behind-smaller : goal.read_cases-loop-behind-smaller
read_cases-loop-behind-smaller t c =
    case-advances c.args.room c.loop-behind.rest.now (case_of c.in_ok-case.case) c.in_ok-case.behind.now
    (optional_or-some (word words.Case) (λ _. case_behind (rules c.args.room)) (give tt) c.loop-behind.rest.now tt c.in-Some.behind.now
    (case_of c.in_ok-case.case) c.in_ok-case.behind.now c.in-Some.ensures c.in_ok-case.ensures)

pub read_cases-loop-behind-preserved : goal.read_cases-loop-behind-preserved
read_cases-loop-behind-preserved t c =
    rw (c.in_ok-push-2.ensures.items, map-append)
    (loop-grown (case_step (rules c.args.room)) (case-advances c.args.room) cases (map case_of c.loop-behind.found.items) c.loop-behind.rest.now
    (case_of c.in_ok-case.case) c.in_ok-case.behind.now
    (optional_or-some (word words.Case) (λ _. case_behind (rules c.args.room)) (give tt) c.loop-behind.rest.now tt c.in-Some.behind.now
    (case_of c.in_ok-case.case) c.in_ok-case.behind.now c.in-Some.ensures c.in_ok-case.ensures)
    ∙ c.loop-behind.invariant)

pub read_form-returns-in_ok-room-in-Present : goal.read_form-returns-in_ok-room-in-Present
read_form-returns-in_ok-room-in-Present t c =
    subst (λ read. Finds form_of c.read_present.result read)
    (sym (form-opened openings.Present c.args.tokens.now c.in-Some.rest.now c.args.room c.in_ok-room-in-Present.room
    (subst (λ o. picked opening c.args.tokens.now ≡ Some (o, c.in-Some.rest.now)) c.in-Present.is c.in-Some.ensures) refl c.in_ok-room-in-Present.ensures))
    c.read_present.ensures

pub read_form-returns-in_ok-room-in-Block : goal.read_form-returns-in_ok-room-in-Block
read_form-returns-in_ok-room-in-Block t c =
    subst (λ read. Finds form_of c.read_block.result read)
    (sym (form-opened (openings.Block c.in-Block.block) c.args.tokens.now c.in-Some.rest.now c.args.room c.in_ok-room-in-Block.room
    (subst (λ o. picked opening c.args.tokens.now ≡ Some (o, c.in-Some.rest.now)) c.in-Block.is c.in-Some.ensures) refl c.in_ok-room-in-Block.ensures))
    c.read_block.ensures

pub read_form-returns-in_ok-room-in-Await : goal.read_form-returns-in_ok-room-in-Await
read_form-returns-in_ok-room-in-Await t c =
    subst (λ read. Finds form_of c.await_from.result read)
    (sym (form-opened openings.Await c.args.tokens.now c.in-Some.rest.now c.args.room c.in_ok-room-in-Await.room
    (subst (λ o. picked opening c.args.tokens.now ≡ Some (o, c.in-Some.rest.now)) c.in-Await.is c.in-Some.ensures) refl c.in_ok-room-in-Await.ensures))
    (c.await_from.ensures (tail words.Await (rules c.in_ok-room-in-Await.room) c.in-Some.rest.now) c.read_tail.ensures)
