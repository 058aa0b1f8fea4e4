-- One answer per form and clause: the nodes of the parts stand behind the statement's own.
use Rattle.std.proofs.Common.{◌≡◌, ◌+◌, ◌<◌, ◌&&◌, ◌||◌, ◌++◌, false, length, refl, sym, ap, ◌∙◌, subst, arith, rules}
use Rattle.est_kernel.specs.Plain.{term_of}
use Rattle.est_kernel.specs.Preorder.{statement_count}
use Rattle.est_kernel.specs.StaticCodes.{has_code}
use Rattle.est_kernel.specs.Terms.{Tick, Present, Seq, Par as Branches, Trap}
use Rattle.grc_graph.specs.declared.trees.SelForm.TheVariants.{Excl, Pass, Par}
use Rattle.grc_graph.specs.CodeTables.{CodesFrom, set_at}
use Rattle.grc_graph.specs.Layers.{can_pass}
use Rattle.grc_graph.specs.SelectionTrees.{Parallel, resumes, second_resumes, subtree_if, tree_nodes, leaf_paths}
use Rattle.grc_graph.proofs.Exports.{codes_at}
use Rattle.grc_layout.proofs.Growth.{one_over, two_over, grows_at, passing_grown, two_grown, test_grown, codes_of_two}
use Rattle.grc_layout.proofs.tree.+selecting.Goals as goal

pub select_passing-part_at-requires : goal.select_passing-part_at-requires
select_passing-part_at-requires t c =
    (codes_at c.args.codes.now (term_of c.args.part.now) (c.args.whole.path + 1) c.requires.codes).resumed_in

pub select_passing-returns-clause-grown : goal.select_passing-returns-clause-grown
select_passing-returns-clause-grown t c =
    let p = term_of c.args.part.now in
    one_over c.args.draft.now c.open_node.new.draft c.select_part.new.draft c.close_node.new.draft (Trap p) c.args.whole.live (resumes p) c.part_at.result.live
    c.in_ok-place.place c.args.whole.path Pass Pass p c.in_ok-place.ensures.place c.in_ok-place.ensures.nodes c.in_ok-place.ensures.leaves
    (c.part_at.ensures.live ∙ λ i. c.args.whole.live && has_code ((codes_at c.args.codes.now p (c.args.whole.path + 1) c.requires.codes).resumed i))
    (grows_at c.open_node.new.draft c.select_part.new.draft c.part_at.result.live p p c.part_at.result.path
    (c.args.whole.path + 1) refl c.part_at.ensures.path c.in_ok-after.ensures.grown)
    c.close_node.ensures.nodes c.close_node.ensures.leaves refl refl

pub select_part-returns-in_ok-select_passing-in-Suspend-clause-grown : goal.select_part-returns-in_ok-select_passing-in-Suspend-clause-grown
select_part-returns-in_ok-select_passing-in-Suspend-clause-grown t c =
    rw c.in-Suspend.is (passing_grown c.args.draft.now c.select_passing.new.draft c.args.whole.live _ (term_of c.in-Suspend.part.value) _ c.args.whole.path
    (ap (λ k. term_of k) c.deref-in-Suspend.ensures) (λ i k. refl) refl c.in_ok-select_passing-in-Suspend.ensures.grown)

pub select_part-returns-in_ok-select_passing-in-Loop-clause-grown : goal.select_part-returns-in_ok-select_passing-in-Loop-clause-grown
select_part-returns-in_ok-select_passing-in-Loop-clause-grown t c =
    rw c.in-Loop.is (passing_grown c.args.draft.now c.select_passing-in-Loop.new.draft c.args.whole.live _ (term_of c.in-Loop.part.value) _ c.args.whole.path
    (ap (λ k. term_of k) c.deref-in-Loop.ensures) (λ i k. refl) refl c.in_ok-select_passing-in-Loop.ensures.grown)

pub select_part-returns-in_ok-select_passing-in-Trap-clause-grown : goal.select_part-returns-in_ok-select_passing-in-Trap-clause-grown
select_part-returns-in_ok-select_passing-in-Trap-clause-grown t c =
    rw c.in-Trap.is (passing_grown c.args.draft.now c.select_passing-in-Trap.new.draft c.args.whole.live _ (term_of c.in-Trap.part.value) _ c.args.whole.path
    (ap (λ k. term_of k) c.deref-in-Trap.ensures) (λ i k. refl) refl c.in_ok-select_passing-in-Trap.ensures.grown)

pub select_part-returns-in_ok-select_passing-in-Local-clause-grown : goal.select_part-returns-in_ok-select_passing-in-Local-clause-grown
select_part-returns-in_ok-select_passing-in-Local-clause-grown t c =
    rw c.in-Local.is (passing_grown c.args.draft.now c.select_passing-in-Local.new.draft c.args.whole.live _ (term_of c.in-Local.part.value) _ c.args.whole.path
    (ap (λ k. term_of k) c.deref-in-Local.ensures) (λ i k. refl) refl c.in_ok-select_passing-in-Local.ensures.grown)

pub select_test-part_at-requires : goal.select_test-part_at-requires
select_test-part_at-requires t c =
    (codes_at c.args.codes.now (term_of c.args.yes.now) (c.args.whole.path + 1) c.requires.codes.1).resumed_in

pub select_test-part_at-requires-2 : goal.select_test-part_at-requires-2
select_test-part_at-requires-2 t c =
    subst (λ n. n < length c.args.codes.now.resumed.items) (sym (c.in_ok-next.ensures.after
    ∙ λ i. c.part_at.ensures.path i + statement_count (term_of c.args.yes.now)))
    (codes_at c.args.codes.now (term_of c.args.no.now) (c.args.whole.path + 1 + statement_count (term_of c.args.yes.now)) c.requires.codes.2).resumed_in

pub select_test-select_part-requires-2 : goal.select_test-select_part-requires-2
select_test-select_part-requires-2 t c =
    let at : c.part_at-2.result.path ≡ c.args.whole.path + 1 + statement_count (term_of c.args.yes.now) = c.part_at-2.ensures.path
    ∙ (c.in_ok-next.ensures.after ∙ λ i. c.part_at.ensures.path i + statement_count (term_of c.args.yes.now)) in
    let codes = subst (λ n. CodesFrom c.args.codes.now (term_of c.args.no.now) n) (sym at) c.requires.codes.2 in
    search rules

pub select_test-returns-clause-grown : goal.select_test-returns-clause-grown
select_test-returns-clause-grown t c =
    let n = c.args.whole.path + 1 in
    let p = term_of c.args.yes.now in
    let q = term_of c.args.no.now in
    let m = n + statement_count p in
    let next = c.in_ok-next.ensures.after ∙ λ i. c.part_at.ensures.path i + statement_count p in
    two_over c.args.draft.now c.open_node.new.draft c.select_part.new.draft c.select_part-2.new.draft c.close_node.new.draft _
    c.args.whole.live (resumes p) (resumes q) c.part_at.result.live c.part_at-2.result.live
    c.in_ok-place.place c.args.whole.path m Excl Excl p q
    c.in_ok-place.ensures.place c.in_ok-place.ensures.nodes c.in_ok-place.ensures.leaves
    (c.part_at.ensures.live ∙ λ i. c.args.whole.live && has_code ((codes_at c.args.codes.now p n c.requires.codes.1).resumed i))
    (grows_at c.open_node.new.draft c.select_part.new.draft c.part_at.result.live p p c.part_at.result.path n refl c.part_at.ensures.path
    c.in_ok-next.ensures.grown)
    (c.part_at-2.ensures.live ∙ (λ i. c.args.whole.live && has_code (set_at c.args.codes.now.resumed.items (next i)))
    ∙ λ i. c.args.whole.live && has_code ((codes_at c.args.codes.now q m c.requires.codes.2).resumed i))
    (grows_at c.select_part.new.draft c.select_part-2.new.draft c.part_at-2.result.live q q c.part_at-2.result.path m refl (c.part_at-2.ensures.path ∙ next)
    c.in_ok-after.ensures.grown)
    c.close_node.ensures.nodes c.close_node.ensures.leaves refl refl

pub select_sequence-part_at-requires : goal.select_sequence-part_at-requires
select_sequence-part_at-requires t c =
    (codes_at c.args.codes.now (term_of c.args.first.now) (c.args.whole.path + 1) c.requires.codes.1).resumed_in

pub select_sequence-second_part-requires-clause-first_started : goal.select_sequence-second_part-requires-clause-first_started
select_sequence-second_part-requires-clause-first_started t c =
    (codes_at c.args.codes.now (term_of c.args.first.now) (c.args.whole.path + 1) c.requires.codes.1).started_in

pub select_sequence-second_part-requires-clause-first_resumed : goal.select_sequence-second_part-requires-clause-first_resumed
select_sequence-second_part-requires-clause-first_resumed t c =
    (codes_at c.args.codes.now (term_of c.args.first.now) (c.args.whole.path + 1) c.requires.codes.1).resumed_in

pub select_sequence-second_part-requires-clause-second_resumed : goal.select_sequence-second_part-requires-clause-second_resumed
select_sequence-second_part-requires-clause-second_resumed t c =
    subst (λ n. n < length c.args.codes.now.resumed.items) (sym (c.in_ok-next.ensures.after
    ∙ λ i. c.part_at.ensures.path i + statement_count (term_of c.args.first.now)))
    (codes_at c.args.codes.now (term_of c.args.second.now) (c.args.whole.path + 1 + statement_count (term_of c.args.first.now)) c.requires.codes.2).resumed_in

pub select_sequence-select_part-requires-2 : goal.select_sequence-select_part-requires-2
select_sequence-select_part-requires-2 t c =
    let at : c.second_part.result.path ≡ c.args.whole.path + 1 + statement_count (term_of c.args.first.now) = c.second_part.ensures.path
    ∙ (c.in_ok-next.ensures.after ∙ λ i. c.part_at.ensures.path i + statement_count (term_of c.args.first.now)) in
    let codes = subst (λ n. CodesFrom c.args.codes.now (term_of c.args.second.now) n) (sym at) c.requires.codes.2 in
    search rules

pub select_sequence-returns-clause-grown : goal.select_sequence-returns-clause-grown
select_sequence-returns-clause-grown t c =
    let n = c.args.whole.path + 1 in
    let p = term_of c.args.first.now in
    let q = term_of c.args.second.now in
    let m = n + statement_count p in
    let first = codes_at c.args.codes.now p n c.requires.codes.1 in
    let second = codes_at c.args.codes.now q m c.requires.codes.2 in
    let next = c.in_ok-next.ensures.after ∙ λ i. c.part_at.ensures.path i + statement_count p in
    two_over c.args.draft.now c.open_node.new.draft c.select_part.new.draft c.select_part-2.new.draft c.close_node.new.draft _
    c.args.whole.live (resumes p) (second_resumes p q) c.part_at.result.live c.second_part.result.live
    c.in_ok-place.place c.args.whole.path m Excl Excl p q
    c.in_ok-place.ensures.place c.in_ok-place.ensures.nodes c.in_ok-place.ensures.leaves
    (c.part_at.ensures.live ∙ λ i. c.args.whole.live && has_code (first.resumed i))
    (grows_at c.open_node.new.draft c.select_part.new.draft c.part_at.result.live p p c.part_at.result.path n refl c.part_at.ensures.path
    c.in_ok-next.ensures.grown)
    (c.second_part.ensures.live
    ∙ (λ i. c.args.whole.live && ((first.started i 0 || first.resumed i 0) && has_code (set_at c.args.codes.now.resumed.items (next i))))
    ∙ λ i. c.args.whole.live && (can_pass p && has_code (second.resumed i)))
    (grows_at c.select_part.new.draft c.select_part-2.new.draft c.second_part.result.live q q c.second_part.result.path m refl
    (c.second_part.ensures.path ∙ next) c.in_ok-after.ensures.grown)
    c.close_node.ensures.nodes c.close_node.ensures.leaves refl refl

pub select_parallel-part_at-requires : goal.select_parallel-part_at-requires
select_parallel-part_at-requires t c =
    (codes_at c.args.codes.now (term_of c.args.left.now) (c.args.whole.path + 1) c.requires.codes.1).resumed_in

pub select_parallel-part_at-requires-2 : goal.select_parallel-part_at-requires-2
select_parallel-part_at-requires-2 t c =
    subst (λ n. n < length c.args.codes.now.resumed.items) (sym (c.in_ok-next.ensures.after
    ∙ λ i. c.part_at.ensures.path i + statement_count (term_of c.args.left.now)))
    (codes_at c.args.codes.now (term_of c.args.right.now) (c.args.whole.path + 1 + statement_count (term_of c.args.left.now)) c.requires.codes.2).resumed_in

pub select_parallel-can_pass-over-requires-clause-started : goal.select_parallel-can_pass-over-requires-clause-started
select_parallel-can_pass-over-requires-clause-started t c =
    (codes_at c.args.codes.now (term_of c.args.left.now) (c.args.whole.path + 1) c.requires.codes.1).started_in

pub select_parallel-can_pass-over-requires-clause-resumed : goal.select_parallel-can_pass-over-requires-clause-resumed
select_parallel-can_pass-over-requires-clause-resumed t c =
    (codes_at c.args.codes.now (term_of c.args.left.now) (c.args.whole.path + 1) c.requires.codes.1).resumed_in

pub select_parallel-can_pass-requires-clause-started : goal.select_parallel-can_pass-requires-clause-started
select_parallel-can_pass-requires-clause-started t c =
    subst (λ n. n < length c.args.codes.now.started.items) (sym (c.in_ok-next.ensures.after
    ∙ λ i. c.part_at.ensures.path i + statement_count (term_of c.args.left.now)))
    (codes_at c.args.codes.now (term_of c.args.right.now) (c.args.whole.path + 1 + statement_count (term_of c.args.left.now)) c.requires.codes.2).started_in

pub select_parallel-can_pass-requires-clause-resumed : goal.select_parallel-can_pass-requires-clause-resumed
select_parallel-can_pass-requires-clause-resumed t c =
    subst (λ n. n < length c.args.codes.now.resumed.items) (sym (c.in_ok-next.ensures.after
    ∙ λ i. c.part_at.ensures.path i + statement_count (term_of c.args.left.now)))
    (codes_at c.args.codes.now (term_of c.args.right.now) (c.args.whole.path + 1 + statement_count (term_of c.args.left.now)) c.requires.codes.2).resumed_in

pub select_parallel-select_part-requires-2 : goal.select_parallel-select_part-requires-2
select_parallel-select_part-requires-2 t c =
    let at : c.part_at-2.result.path ≡ c.args.whole.path + 1 + statement_count (term_of c.args.left.now) = c.part_at-2.ensures.path
    ∙ (c.in_ok-next.ensures.after ∙ λ i. c.part_at.ensures.path i + statement_count (term_of c.args.left.now)) in
    let codes = subst (λ n. CodesFrom c.args.codes.now (term_of c.args.right.now) n) (sym at) c.requires.codes.2 in
    search rules

pub select_parallel-returns-clause-grown : goal.select_parallel-returns-clause-grown
select_parallel-returns-clause-grown t c =
    let n = c.args.whole.path + 1 in
    let p = term_of c.args.left.now in
    let q = term_of c.args.right.now in
    let m = n + statement_count p in
    let at = length c.args.draft.now.nodes.items in
    let leaves = c.args.draft.now.leaves in
    let first = codes_at c.args.codes.now p n c.requires.codes.1 in
    let second = codes_at c.args.codes.now q m c.requires.codes.2 in
    let next = c.in_ok-next.ensures.after ∙ λ i. c.part_at.ensures.path i + statement_count p in
    let over : c.can_pass-over.result ≡ can_pass p = c.can_pass-over.ensures ∙ λ i. first.started i 0 || first.resumed i 0 in
    let other : c.can_pass.result ≡ can_pass q = c.can_pass.ensures
    ∙ (λ i. set_at c.args.codes.now.started.items (next i) 0 || set_at c.args.codes.now.resumed.items (next i) 0)
    ∙ λ i. second.started i 0 || second.resumed i 0 in
    let before = tree_nodes (resumes p) p n (at + 1) leaves in
    two_over c.args.draft.now c.open_node.new.draft c.select_part.new.draft c.select_part-2.new.draft c.close_node.new.draft _
    c.args.whole.live (resumes p) (resumes q) c.part_at.result.live c.part_at-2.result.live
    c.in_ok-place.place c.args.whole.path m (Par false false) (Par c.can_pass-over.result c.can_pass.result) p q
    c.in_ok-place.ensures.place c.in_ok-place.ensures.nodes c.in_ok-place.ensures.leaves
    (c.part_at.ensures.live ∙ λ i. c.args.whole.live && has_code (first.resumed i))
    (grows_at c.open_node.new.draft c.select_part.new.draft c.part_at.result.live p p c.part_at.result.path n refl c.part_at.ensures.path
    c.in_ok-next.ensures.grown)
    (c.part_at-2.ensures.live ∙ (λ i. c.args.whole.live && has_code (set_at c.args.codes.now.resumed.items (next i)))
    ∙ λ i. c.args.whole.live && has_code (second.resumed i))
    (grows_at c.select_part.new.draft c.select_part-2.new.draft c.part_at-2.result.live q q c.part_at-2.result.path m refl (c.part_at-2.ensures.path ∙ next)
    c.in_ok-after.ensures.grown)
    c.close_node.ensures.nodes c.close_node.ensures.leaves
    (λ i. subtree_if c.args.whole.live c.args.whole.path at (Parallel (sym over i) (sym other i))
    (before ++ tree_nodes (resumes q) q m (at + 1 + length before) (leaves + length (leaf_paths (resumes p) p n)))) refl

pub select_part-returns-in_ok-select_test-in-Present-clause-grown : goal.select_part-returns-in_ok-select_test-in-Present-clause-grown
select_part-returns-in_ok-select_test-in-Present-clause-grown t c =
    let p = term_of c.in-Present.yes.value in
    let q = term_of c.in-Present.no.value in
    rw c.in-Present.is (test_grown c.args.draft.now c.select_test.new.draft c.args.whole.live c.args.whole.path _ p q
    (two_grown c.args.draft.now c.select_test.new.draft c.args.whole.live c.args.whole.path (Present Tick) _ _ p q
    (ap (λ k. term_of k) c.deref.ensures) (ap (λ k. term_of k) c.deref-in-Present.ensures) c.in_ok-select_test-in-Present.ensures.grown))

pub select_part-returns-in_ok-select_sequence-in-Seq-clause-grown : goal.select_part-returns-in_ok-select_sequence-in-Seq-clause-grown
select_part-returns-in_ok-select_sequence-in-Seq-clause-grown t c =
    let p = term_of c.in-Seq.first.value in
    let q = term_of c.in-Seq.second.value in
    rw c.in-Seq.is (two_grown c.args.draft.now c.select_sequence.new.draft c.args.whole.live c.args.whole.path Seq _ _ p q
    (ap (λ k. term_of k) c.deref-in-Seq.ensures) (ap (λ k. term_of k) c.deref-in-Seq-2.ensures) c.in_ok-select_sequence-in-Seq.ensures.grown)

pub select_part-select_parallel-requires : goal.select_part-select_parallel-requires
select_part-select_parallel-requires t c =
    let left = ap (λ k. term_of k) c.deref-in-Par.ensures in
    let right = ap (λ k. term_of k) c.deref-in-Par-2.ensures in
    let count = ap (λ k. statement_count (term_of k)) c.in-Par.is in
    let first = ap statement_count left in
    let second = ap statement_count right in
    let codes = codes_of_two c.args.codes.now c.args.whole.path (term_of c.deref-in-Par.result.now) (term_of c.deref-in-Par-2.result.now)
    (term_of c.in-Par.left.value) (term_of c.in-Par.right.value) left right (rw c.in-Par.is at c.requires.codes) in
    (omega arith, search rules)

pub select_part-returns-in_ok-select_parallel-in-Par-clause-grown : goal.select_part-returns-in_ok-select_parallel-in-Par-clause-grown
select_part-returns-in_ok-select_parallel-in-Par-clause-grown t c =
    let p = term_of c.in-Par.left.value in
    let q = term_of c.in-Par.right.value in
    rw c.in-Par.is (two_grown c.args.draft.now c.select_parallel.new.draft c.args.whole.live c.args.whole.path Branches _ _ p q
    (ap (λ k. term_of k) c.deref-in-Par.ensures) (ap (λ k. term_of k) c.deref-in-Par-2.ensures) c.in_ok-select_parallel-in-Par.ensures.grown)
