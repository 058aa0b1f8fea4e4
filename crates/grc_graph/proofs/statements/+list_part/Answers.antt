use Rattle.std.proofs.Common.{◌≡◌, ◌+◌, ◌++◌, ◌∷◌, [], map, set, ap, ◌∙◌, arith}
use Rattle.std.proofs.lemmas.List.{length-map}
use Rattle.std.proofs.lemmas.Result.{IfOk-weaker}
use Rattle.est_kernel.specs.Plain.{term_of, expression_of}
use Rattle.est_kernel.specs.Terms.{Present, Seq, Par, Local}
use Rattle.grc_graph.specs.Scopes.{bind}
use Rattle.grc_graph.specs.Statements.{Then, Else, Branch, Second, Part, listed, listed_one}
use Rattle.grc_graph.specs.StatementViews.{view_of, scope_of, entry_view}
use Rattle.grc_graph.proofs.StatementLists.{two_listed, part_behind, put_back, scope_of-set}
use Rattle.grc_graph.proofs.statements.+list_part.Goals as goal

pub returns-in_ok-next-in-Present-clause-list : goal.returns-in_ok-next-in-Present-clause-list
returns-in_ok-next-in-Present-clause-list t c =
    let B = scope_of c.args.scope.now.items in
    let n = c.args.path in
    let e = expression_of c.in-Present.test in
    let p = term_of c.in-Present.yes.value in
    let q = term_of c.in-Present.no.value in
    IfOk-weaker c.list_part-in-Present.result _ _ (λ after last. rw c.in-Present.is
    (two_listed (map view_of c.args.list.now.items) (map view_of c.push_statement.new.list.items) (map view_of c.list_part.new.list.items)
    (map view_of c.set_second.new.list.items) (map view_of c.list_part-in-Present.new.list.items) B (scope_of c.list_part.new.scope.items)
    (entry_view c.args.control) (Then n e) (Else n e) (Present e p q) p (term_of c.deref-in-Present.result.now) q (term_of c.deref-in-Present-2.result.now)
    c.len-place.result n c.in_ok-next-in-Present.next
    (omega (arith, length-map c.args.list.now.items view_of)) (ap scope_of c.in_ok-next-in-Present.ensures.scope)
    (ap term_of c.deref-in-Present.ensures) (ap term_of c.deref-in-Present-2.ensures) c.in_ok-next-in-Present.ensures.after
    (c.in_ok-push_statement.ensures ∙ λ i. map view_of c.args.list.now.items
    ++ listed_one (scope_of (c.deref.ensures.value i)) (entry_view c.args.control) (term_of (c.in-Present.is i)) 0 ∷ [])
    c.in_ok-next-in-Present.ensures.list c.set_second.ensures last)) c.list_part-in-Present.ensures.list

pub returns-in_ok-next-in-Seq-clause-list : goal.returns-in_ok-next-in-Seq-clause-list
returns-in_ok-next-in-Seq-clause-list t c =
    let B = scope_of c.args.scope.now.items in
    let n = c.args.path in
    let p = term_of c.in-Seq.first.value in
    let q = term_of c.in-Seq.second.value in
    IfOk-weaker c.list_part-in-Seq-2.result _ _ (λ after last. rw c.in-Seq.is
    (two_listed (map view_of c.args.list.now.items) (map view_of c.push_statement.new.list.items) (map view_of c.list_part-in-Seq.new.list.items)
    (map view_of c.set_second-in-Seq.new.list.items) (map view_of c.list_part-in-Seq-2.new.list.items) B (scope_of c.list_part-in-Seq.new.scope.items)
    (entry_view c.args.control) (Branch n) (Second n) (Seq p q) p (term_of c.deref-in-Seq.result.now) q (term_of c.deref-in-Seq-2.result.now)
    c.len-place.result n c.in_ok-next-in-Seq.next
    (omega (arith, length-map c.args.list.now.items view_of)) (ap scope_of c.in_ok-next-in-Seq.ensures.scope)
    (ap term_of c.deref-in-Seq.ensures) (ap term_of c.deref-in-Seq-2.ensures) c.in_ok-next-in-Seq.ensures.after
    (c.in_ok-push_statement.ensures ∙ λ i. map view_of c.args.list.now.items
    ++ listed_one (scope_of (c.deref.ensures.value i)) (entry_view c.args.control) (term_of (c.in-Seq.is i)) 0 ∷ [])
    c.in_ok-next-in-Seq.ensures.list c.set_second-in-Seq.ensures last)) c.list_part-in-Seq-2.ensures.list

pub returns-in_ok-next-in-Par-clause-list : goal.returns-in_ok-next-in-Par-clause-list
returns-in_ok-next-in-Par-clause-list t c =
    let B = scope_of c.args.scope.now.items in
    let n = c.args.path in
    let p = term_of c.in-Par.left.value in
    let q = term_of c.in-Par.right.value in
    IfOk-weaker c.list_part-in-Par-2.result _ _ (λ after last. rw c.in-Par.is
    (two_listed (map view_of c.args.list.now.items) (map view_of c.push_statement.new.list.items) (map view_of c.list_part-in-Par.new.list.items)
    (map view_of c.set_second-in-Par.new.list.items) (map view_of c.list_part-in-Par-2.new.list.items) B (scope_of c.list_part-in-Par.new.scope.items)
    (entry_view c.args.control) (Branch n) (Branch n) (Par p q) p (term_of c.deref-in-Par.result.now) q (term_of c.deref-in-Par-2.result.now)
    c.len-place.result n c.in_ok-next-in-Par.next
    (omega (arith, length-map c.args.list.now.items view_of)) (ap scope_of c.in_ok-next-in-Par.ensures.scope)
    (ap term_of c.deref-in-Par.ensures) (ap term_of c.deref-in-Par-2.ensures) c.in_ok-next-in-Par.ensures.after
    (c.in_ok-push_statement.ensures ∙ λ i. map view_of c.args.list.now.items
    ++ listed_one (scope_of (c.deref.ensures.value i)) (entry_view c.args.control) (term_of (c.in-Par.is i)) 0 ∷ [])
    c.in_ok-next-in-Par.ensures.list c.set_second-in-Par.ensures last)) c.list_part-in-Par-2.ensures.list

pub returns-in_ok-after-in-Local-clause-scope : goal.returns-in_ok-after-in-Local-clause-scope
returns-in_ok-after-in-Local-clause-scope t c =
    c.bind_signal.ensures.scope ∙ ap (λ l. set l c.in-Local.signal.0 c.bind_signal-outer.result) c.in_ok-after-in-Local.ensures.scope
    ∙ put_back c.args.scope.now.items _ _ _ _ c.bind_signal-outer.ensures.scope c.bind_signal-outer.ensures.outer

pub returns-in_ok-after-in-Local-clause-list : goal.returns-in_ok-after-in-Local-clause-list
returns-in_ok-after-in-Local-clause-list t c =
    let B = scope_of c.args.scope.now.items in
    let n = c.args.path in
    let s = c.in-Local.signal.0 in
    let p = term_of c.in-Local.part.value in
    let inner : scope_of c.bind_signal-outer.new.scope.items ≡ bind B s n
    = ap scope_of c.bind_signal-outer.ensures.scope ∙ scope_of-set c.args.scope.now.items s n (rw c.in-Local.is at c.requires.locals).0 in
    rw c.in-Local.is
    (part_behind (map view_of c.args.list.now.items) (listed (bind B s n) (Part n) p (n + 1)) (map view_of c.list_part-in-Local.new.list.items)
    (listed_one B (entry_view c.args.control) (Local s p) 0)
    (c.in_ok-after-in-Local.ensures.list
    ∙ λ i. (c.in_ok-push_statement.ensures ∙ λ i. map view_of c.args.list.now.items
    ++ listed_one (scope_of (c.deref.ensures.value i)) (entry_view c.args.control) (term_of (c.in-Local.is i)) 0 ∷ []) i
    ++ listed (inner i) (Part n) (term_of (c.deref-in-Local.ensures i)) (n + 1)))
