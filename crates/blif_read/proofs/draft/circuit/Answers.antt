use Rattle.std.proofs.Common.{◌≡◌, ◌-◌, ◌++◌, ◌∷◌, [], map, take, sym, ap, ◌∙◌, arith, vec_len}
use Rattle.std.proofs.lemmas.List.{map-append}
use Rattle.blif_read.specs.PlainStatements.{plain_statement}
use Rattle.blif_read.specs.Drafts.{behind, draft_parts, parts_circuit}
use Rattle.blif_read.proofs.Reversals.{behind-push, parts_circuit-behind}
use Rattle.blif_read.proofs.draft.circuit.Goals as goal

pub loop-statement-preserved : goal.loop-statement-preserved
loop-statement-preserved c =
    let left = c.pop.new.self.items in
    let statement = c.in-Some.statement in
    let old = draft_parts c.loop-statement.draft in
    let popped = ap (map plain_statement) c.in-Some.ensures.items ∙ map-append plain_statement left (statement ∷ []) in
    ap (behind (map plain_statement left)) c.in_ok-put.ensures ∙ sym (behind-push (map plain_statement left) (plain_statement statement) old)
    ∙ ap (λ l. behind l old) (sym popped) ∙ c.loop-statement.invariant

pub returns : goal.returns
returns c =
    let all = map plain_statement c.args.statements.items in
    let left = c.loop-statement.statements.items in
    let zero : vec_len c.loop-statement.statements - 1 ≡ 0 = omega (arith, c.in_default.ensures.cases.0) in
    let empty : left ≡ [] = c.in_default.ensures.items ∙ ap (λ l. l ++ []) (c.in_default.ensures.rest ∙ ap (λ n. take n left) zero) in
    let none = ap (map plain_statement) empty in
    c.finished.ensures ∙ ap parts_circuit (ap (λ l. behind l (draft_parts c.loop-statement.draft)) (sym none) ∙ c.loop-statement.invariant)
    ∙ parts_circuit-behind all
