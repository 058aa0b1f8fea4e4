-- One answer per form and clause: the walk over a part says what the rule of its whole asks.
use Rattle.std.proofs.Common.{◌≡◌, ◌+◌, ◌<◌, ◌++◌, arith, inl, inr, length, refl, sym, ap, ◌∙◌, subst}
use Rattle.std.proofs.lemmas.Result.{IfOk-weaker, IfErr-weaker, err_from_is_err_and}
use Rattle.est_kernel.specs.Plain.{term_of}
use Rattle.est_kernel.specs.Preorder.{statement_count}
use Rattle.grc_graph.specs.Instances.{instances, instances_at}
use Rattle.grc_graph.specs.Layers.{root_if, second_liveness, loop_liveness}
use Rattle.grc_graph.proofs.Exports.{codes_at}
use Rattle.grc_layout.specs.Copying.{liveness_of, part_instances, Gains, IsTooMany}
use Rattle.grc_layout.proofs.Counts.{IsTooMany-after, Gains-append}
use Rattle.grc_layout.proofs.Positions.{part_shows, second_shows, loop_instances, gains_at, gains_then}
use Rattle.grc_layout.proofs.Positions.{too_many_at, too_many_at_first, too_many_in_first, too_many_then}
use Rattle.grc_layout.proofs.live.+copy_part.Goals as goal

-- a part that is live where its whole is
pub copy_within-part_position-at-requires : goal.copy_within-part_position-at-requires
copy_within-part_position-at-requires t c = (codes_at c.args.codes.now (term_of c.args.part.now) c.args.path c.requires.codes).resumed_in

pub copy_within-returns-clause-live : goal.copy_within-returns-clause-live
copy_within-returns-clause-live t c =
    IfOk-weaker c.copy_part.result _ _ (λ after. gains_at _ _ c.part_position-at.result c.args.lists.now.roots.items _ (term_of c.args.part.now) _ _
    (part_shows c.args.codes.now c.args.whole c.part_position-at.result c.args.lists.now.roots.items (term_of c.args.part.now) c.args.path
    c.requires.codes c.part_position-at.ensures.path c.part_position-at.ensures.base c.part_position-at.ensures.resumed) refl) c.copy_part.ensures.live

pub copy_within-returns-clause-many : goal.copy_within-returns-clause-many
copy_within-returns-clause-many t c =
    IfErr-weaker c.copy_part.result _ _ (λ fault. too_many_at _ c.part_position-at.result c.args.lists.now.roots.items _ (term_of c.args.part.now) _ _ fault
    (part_shows c.args.codes.now c.args.whole c.part_position-at.result c.args.lists.now.roots.items (term_of c.args.part.now) c.args.path
    c.requires.codes c.part_position-at.ensures.path c.part_position-at.ensures.base c.part_position-at.ensures.resumed) refl) c.copy_part.ensures.many

-- the statement itself
pub copy_part-returns-in_err-copy_instances-clause-many : goal.copy_part-returns-in_err-copy_instances-clause-many
copy_part-returns-in_err-copy_instances-clause-many t c =
    let e = err_from_is_err_and c.from_residual.result c.from_residual.ensures.1 in
    rw (e.1, e.2) (too_many_at_first c.args.lists.now.live.items (liveness_of c.args.at c.args.lists.now.roots.items)
    (term_of c.args.body.now) c.args.at.path _ c.in_err-copy_instances.ensures.many)

-- the forms with one part that is live as they are
pub copy_part-returns-in-Suspend-clause-live : goal.copy_part-returns-in-Suspend-clause-live
copy_part-returns-in-Suspend-clause-live t c =
    let at = c.args.at in
    let n = c.args.at.path in
    let a = liveness_of c.args.at c.args.lists.now.roots.items in
    let p = term_of c.deref-in-Suspend.result.now in
    let roots : c.copy_instances.new.lists.roots.items ≡ c.args.lists.now.roots.items = ap (λ v. v.items) c.in_ok-copy_instances.ensures.roots in
    let whole : instances a (term_of c.args.body.now) n ≡ instances_at a n ++ part_instances a p (n + 1) = elim c.in-Suspend.is [
      | inl h ↦ simp (h.1, c.deref-in-Suspend.ensures)
      | inr k ↦ elim k [
        | inl h ↦ simp (h, c.deref-in-Suspend.ensures)
        | inr h ↦ simp (h.1, c.deref-in-Suspend.ensures)
      ]
    ] in
    IfOk-weaker c.copy_within-in-Suspend.result _ _ (λ after. gains_then c.args.lists.now.live.items c.copy_instances.new.lists.live.items
    c.copy_within-in-Suspend.new.lists.live.items (instances_at a n) (part_instances a p (n + 1)) _ _ whole
    (λ i. part_instances (liveness_of at (roots i)) p (n + 1)) c.in_ok-copy_instances.ensures.live) c.copy_within-in-Suspend.ensures.live

pub copy_part-returns-in-Suspend-clause-many : goal.copy_part-returns-in-Suspend-clause-many
copy_part-returns-in-Suspend-clause-many t c =
    let at = c.args.at in
    let n = c.args.at.path in
    let a = liveness_of c.args.at c.args.lists.now.roots.items in
    let p = term_of c.deref-in-Suspend.result.now in
    let roots : c.copy_instances.new.lists.roots.items ≡ c.args.lists.now.roots.items = ap (λ v. v.items) c.in_ok-copy_instances.ensures.roots in
    let whole : instances a (term_of c.args.body.now) n ≡ instances_at a n ++ part_instances a p (n + 1) = elim c.in-Suspend.is [
      | inl h ↦ simp (h.1, c.deref-in-Suspend.ensures)
      | inr k ↦ elim k [
        | inl h ↦ simp (h, c.deref-in-Suspend.ensures)
        | inr h ↦ simp (h.1, c.deref-in-Suspend.ensures)
      ]
    ] in
    IfErr-weaker c.copy_within-in-Suspend.result _ _ (λ fault. too_many_then c.args.lists.now.live.items c.copy_instances.new.lists.live.items
    (instances_at a n) (part_instances a p (n + 1)) _ _ fault whole
    (λ i. part_instances (liveness_of at (roots i)) p (n + 1)) c.in_ok-copy_instances.ensures.live) c.copy_within-in-Suspend.ensures.many

-- the forms with two parts that are live as they are
pub copy_part-returns-in_ok-next-in-Present-clause-live : goal.copy_part-returns-in_ok-next-in-Present-clause-live
copy_part-returns-in_ok-next-in-Present-clause-live t c =
    let at = c.args.at in
    let n = c.args.at.path in
    let a = liveness_of c.args.at c.args.lists.now.roots.items in
    let p = term_of c.deref-in-Present.result.now in
    let q = term_of c.deref-in-Present-2.result.now in
    let roots : c.copy_instances.new.lists.roots.items ≡ c.args.lists.now.roots.items = ap (λ v. v.items) c.in_ok-copy_instances.ensures.roots in
    let whole : instances a (term_of c.args.body.now) n
    ≡ instances_at a n ++ (part_instances a p (n + 1) ++ part_instances a q (n + 1 + statement_count p)) = elim c.in-Present.is [
      | inl h ↦ simp (h.1, c.deref-in-Present.ensures, c.deref-in-Present-2.ensures)
      | inr h ↦ simp (h, c.deref-in-Present.ensures, c.deref-in-Present-2.ensures)
    ] in
    let first : Gains c.copy_instances.new.lists.live.items c.copy_within-in-Present.new.lists.live.items (part_instances a p (n + 1))
    = subst (λ l. Gains c.copy_instances.new.lists.live.items c.copy_within-in-Present.new.lists.live.items l)
    (λ i. part_instances (liveness_of at (roots i)) p (n + 1)) c.in_ok-next-in-Present.ensures.live in
    IfOk-weaker c.copy_within-in-Present-2.result _ _ (λ after second. gains_then c.args.lists.now.live.items c.copy_instances.new.lists.live.items
    c.copy_within-in-Present-2.new.lists.live.items (instances_at a n) _ _ _ whole refl c.in_ok-copy_instances.ensures.live
    (Gains-append c.copy_instances.new.lists.live.items c.copy_within-in-Present.new.lists.live.items c.copy_within-in-Present-2.new.lists.live.items
    (part_instances a p (n + 1)) (part_instances a q (n + 1 + statement_count p)) first
    (subst (λ l. Gains c.copy_within-in-Present.new.lists.live.items c.copy_within-in-Present-2.new.lists.live.items l)
    (λ i. part_instances (liveness_of at ((c.in_ok-next-in-Present.ensures.roots ∙ roots) i)) q (c.in_ok-next-in-Present.ensures.after i)) second)))
    c.copy_within-in-Present-2.ensures.live

pub copy_part-returns-in_ok-next-in-Present-clause-many : goal.copy_part-returns-in_ok-next-in-Present-clause-many
copy_part-returns-in_ok-next-in-Present-clause-many t c =
    let at = c.args.at in
    let n = c.args.at.path in
    let a = liveness_of c.args.at c.args.lists.now.roots.items in
    let p = term_of c.deref-in-Present.result.now in
    let q = term_of c.deref-in-Present-2.result.now in
    let roots : c.copy_instances.new.lists.roots.items ≡ c.args.lists.now.roots.items = ap (λ v. v.items) c.in_ok-copy_instances.ensures.roots in
    let whole : instances a (term_of c.args.body.now) n
    ≡ instances_at a n ++ (part_instances a p (n + 1) ++ part_instances a q (n + 1 + statement_count p)) = elim c.in-Present.is [
      | inl h ↦ simp (h.1, c.deref-in-Present.ensures, c.deref-in-Present-2.ensures)
      | inr h ↦ simp (h, c.deref-in-Present.ensures, c.deref-in-Present-2.ensures)
    ] in
    let first : Gains c.copy_instances.new.lists.live.items c.copy_within-in-Present.new.lists.live.items (part_instances a p (n + 1))
    = subst (λ l. Gains c.copy_instances.new.lists.live.items c.copy_within-in-Present.new.lists.live.items l)
    (λ i. part_instances (liveness_of at (roots i)) p (n + 1)) c.in_ok-next-in-Present.ensures.live in
    IfErr-weaker c.copy_within-in-Present-2.result _ _ (λ fault second. too_many_then c.args.lists.now.live.items c.copy_instances.new.lists.live.items
    (instances_at a n) _ _ _ fault whole refl c.in_ok-copy_instances.ensures.live
    (IsTooMany-after c.copy_instances.new.lists.live.items c.copy_within-in-Present.new.lists.live.items
    (part_instances a p (n + 1)) (part_instances a q (n + 1 + statement_count p)) fault first
    (subst (λ l. IsTooMany c.copy_within-in-Present.new.lists.live.items l fault)
    (λ i. part_instances (liveness_of at ((c.in_ok-next-in-Present.ensures.roots ∙ roots) i)) q (c.in_ok-next-in-Present.ensures.after i)) second)))
    c.copy_within-in-Present-2.ensures.many

pub copy_part-returns-in_err-next-in-Present-clause-many : goal.copy_part-returns-in_err-next-in-Present-clause-many
copy_part-returns-in_err-next-in-Present-clause-many t c =
    let at = c.args.at in
    let n = c.args.at.path in
    let a = liveness_of c.args.at c.args.lists.now.roots.items in
    let p = term_of c.deref-in-Present.result.now in
    let q = term_of c.in-Present.second.value in
    let roots : c.copy_instances.new.lists.roots.items ≡ c.args.lists.now.roots.items = ap (λ v. v.items) c.in_ok-copy_instances.ensures.roots in
    let whole : instances a (term_of c.args.body.now) n
    ≡ instances_at a n ++ (part_instances a p (n + 1) ++ part_instances a q (n + 1 + statement_count p)) = elim c.in-Present.is [
      | inl h ↦ simp (h.1, c.deref-in-Present.ensures)
      | inr h ↦ simp (h, c.deref-in-Present.ensures)
    ] in
    let e = err_from_is_err_and c.from_residual-in_err-next-in-Present.result c.from_residual-in_err-next-in-Present.ensures.1 in
    rw (e.1, e.2) (too_many_in_first c.args.lists.now.live.items c.copy_instances.new.lists.live.items (instances_at a n)
    (part_instances a p (n + 1)) _ (part_instances a q (n + 1 + statement_count p)) _ _ whole
    (λ i. part_instances (liveness_of at (roots i)) p (n + 1)) c.in_ok-copy_instances.ensures.live c.in_err-next-in-Present.ensures.many)

-- a sequence
pub copy_part-second_position-position-requires-clause-first_started : goal.copy_part-second_position-position-requires-clause-first_started
copy_part-second_position-position-requires-clause-first_started t c =
    (codes_at c.args.codes.now (term_of c.in-Seq.first.value) (c.args.at.path + 1) (rw c.in-Seq.is at c.requires.codes).1).started_in

pub copy_part-second_position-position-requires-clause-first_resumed : goal.copy_part-second_position-position-requires-clause-first_resumed
copy_part-second_position-position-requires-clause-first_resumed t c =
    (codes_at c.args.codes.now (term_of c.in-Seq.first.value) (c.args.at.path + 1) (rw c.in-Seq.is at c.requires.codes).1).resumed_in

pub copy_part-second_position-position-requires-clause-second_resumed : goal.copy_part-second_position-position-requires-clause-second_resumed
copy_part-second_position-position-requires-clause-second_resumed t c =
    subst (λ n. n < length c.args.codes.now.resumed.items) (sym (c.in_ok-next-in-Seq.ensures.after
    ∙ λ i. c.args.at.path + 1 + statement_count (term_of (c.deref.ensures i))))
    (codes_at c.args.codes.now (term_of c.in-Seq.second.value) (c.args.at.path + 1 + statement_count (term_of c.in-Seq.first.value))
    (rw c.in-Seq.is at c.requires.codes).2).resumed_in

pub copy_part-restarts-requires : goal.copy_part-restarts-requires
copy_part-restarts-requires t c =
    (codes_at c.args.codes.now (term_of c.in-Seq.first.value) (c.args.at.path + 1) (rw c.in-Seq.is at c.requires.codes).1).resumed_in

pub copy_part-returns-in_ok-after-in-Seq-clause-live : goal.copy_part-returns-in_ok-after-in-Seq-clause-live
copy_part-returns-in_ok-after-in-Seq-clause-live t c =
    let n = c.args.at.path in
    let a = liveness_of c.args.at c.args.lists.now.roots.items in
    let p = term_of c.in-Seq.first.value in
    let q = term_of c.in-Seq.second.value in
    let roots : c.copy_instances.new.lists.roots.items ≡ c.args.lists.now.roots.items = ap (λ v. v.items) c.in_ok-copy_instances.ensures.roots in
    let next : c.in_ok-next-in-Seq.next ≡ n + 1 + statement_count p
    = c.in_ok-next-in-Seq.ensures.after ∙ λ i. n + 1 + statement_count (term_of (c.deref.ensures i)) in
    let kept = c.in_ok-next-in-Seq.ensures.roots ∙ roots in
    let shown = second_shows c.args.codes.now c.args.at c.second_position-position.result c.args.lists.now.roots.items c.push_root.new.roots.items
    c.len-kept.result c.in_ok-next-in-Seq.next c.restarts.result p q n (n + 1 + statement_count p)
    (rw c.in-Seq.is at c.requires.codes).1 (rw c.in-Seq.is at c.requires.codes).2 refl next
    c.second_position-position.ensures.path c.second_position-position.ensures.base c.second_position-position.ensures.resumed
    (let end : c.len-kept.result ≡ length c.copy_within.new.lists.roots.items = omega arith in end ∙ ap (λ l. length l) kept)
    c.requires.base c.restarts.ensures (c.in_ok-push_root-in-Seq.ensures ∙ ap (λ l. l ++ root_if c.restarts.result c.in_ok-next-in-Seq.next) kept) in
    let first : Gains c.copy_instances.new.lists.live.items c.copy_within.new.lists.live.items (part_instances a p (n + 1))
    = subst (λ l. Gains c.copy_instances.new.lists.live.items c.copy_within.new.lists.live.items l)
    (λ i. part_instances (liveness_of c.args.at (roots i)) (term_of (c.deref.ensures i)) (n + 1)) c.in_ok-next-in-Seq.ensures.live in
    rw c.in-Seq.is (Gains-append c.args.lists.now.live.items c.copy_instances.new.lists.live.items _ _ _ c.in_ok-copy_instances.ensures.live
    (Gains-append c.copy_instances.new.lists.live.items c.copy_within.new.lists.live.items _ _ _ first
    (gains_at c.copy_within.new.lists.live.items _ c.second_position-position.result c.push_root.new.roots.items _ q _ _ shown
    (ap (λ k. term_of k) c.deref-in-Seq.ensures) c.in_ok-after-in-Seq.ensures.live)))

pub copy_part-returns-in_err-next-in-Seq-clause-many : goal.copy_part-returns-in_err-next-in-Seq-clause-many
copy_part-returns-in_err-next-in-Seq-clause-many t c =
    let n = c.args.at.path in
    let a = liveness_of c.args.at c.args.lists.now.roots.items in
    let p = term_of c.in-Seq.first.value in
    let q = term_of c.in-Seq.second.value in
    let m = n + 1 + statement_count p in
    let roots : c.copy_instances.new.lists.roots.items ≡ c.args.lists.now.roots.items = ap (λ v. v.items) c.in_ok-copy_instances.ensures.roots in
    let e = err_from_is_err_and c.from_residual-in_err-next-in-Seq.result c.from_residual-in_err-next-in-Seq.ensures.1 in
    rw (e.1, e.2) (rw c.in-Seq.is (too_many_in_first c.args.lists.now.live.items c.copy_instances.new.lists.live.items (instances_at a n)
    (part_instances a p (n + 1)) _ (instances (second_liveness a p q m) q m) _ _ refl
    (λ i. part_instances (liveness_of c.args.at (roots i)) (term_of (c.deref.ensures i)) (n + 1))
    c.in_ok-copy_instances.ensures.live c.in_err-next-in-Seq.ensures.many))

pub copy_part-returns-in_err-after-in-Seq-clause-many : goal.copy_part-returns-in_err-after-in-Seq-clause-many
copy_part-returns-in_err-after-in-Seq-clause-many t c =
    let n = c.args.at.path in
    let a = liveness_of c.args.at c.args.lists.now.roots.items in
    let p = term_of c.in-Seq.first.value in
    let q = term_of c.in-Seq.second.value in
    let roots : c.copy_instances.new.lists.roots.items ≡ c.args.lists.now.roots.items = ap (λ v. v.items) c.in_ok-copy_instances.ensures.roots in
    let next : c.in_ok-next-in-Seq.next ≡ n + 1 + statement_count p
    = c.in_ok-next-in-Seq.ensures.after ∙ λ i. n + 1 + statement_count (term_of (c.deref.ensures i)) in
    let kept = c.in_ok-next-in-Seq.ensures.roots ∙ roots in
    let shown = second_shows c.args.codes.now c.args.at c.second_position-position.result c.args.lists.now.roots.items c.push_root.new.roots.items
    c.len-kept.result c.in_ok-next-in-Seq.next c.restarts.result p q n (n + 1 + statement_count p)
    (rw c.in-Seq.is at c.requires.codes).1 (rw c.in-Seq.is at c.requires.codes).2 refl next
    c.second_position-position.ensures.path c.second_position-position.ensures.base c.second_position-position.ensures.resumed
    (let end : c.len-kept.result ≡ length c.copy_within.new.lists.roots.items = omega arith in end ∙ ap (λ l. length l) kept)
    c.requires.base c.restarts.ensures (c.in_ok-push_root-in-Seq.ensures ∙ ap (λ l. l ++ root_if c.restarts.result c.in_ok-next-in-Seq.next) kept) in
    let first : Gains c.copy_instances.new.lists.live.items c.copy_within.new.lists.live.items (part_instances a p (n + 1))
    = subst (λ l. Gains c.copy_instances.new.lists.live.items c.copy_within.new.lists.live.items l)
    (λ i. part_instances (liveness_of c.args.at (roots i)) (term_of (c.deref.ensures i)) (n + 1)) c.in_ok-next-in-Seq.ensures.live in
    let e = err_from_is_err_and c.from_residual-in_err-after-in-Seq.result c.from_residual-in_err-after-in-Seq.ensures.1 in
    rw (e.1, e.2) (rw c.in-Seq.is (IsTooMany-after c.args.lists.now.live.items c.copy_instances.new.lists.live.items _ _ _ c.in_ok-copy_instances.ensures.live
    (IsTooMany-after c.copy_instances.new.lists.live.items c.copy_within.new.lists.live.items _ _ _ first
    (too_many_at c.copy_within.new.lists.live.items c.second_position-position.result c.push_root.new.roots.items _ q _ _ _ shown
    (ap (λ k. term_of k) c.deref-in-Seq.ensures) c.in_err-after-in-Seq.ensures.many))))

-- a loop
pub copy_part-restarts-requires-in-Loop : goal.copy_part-restarts-requires-in-Loop
copy_part-restarts-requires-in-Loop t c =
    (codes_at c.args.codes.now (term_of c.in-Loop.part.value) (c.args.at.path + 1) (rw c.in-Loop.is at c.requires.codes).1).resumed_in

pub copy_part-returns-in_ok-after-in-Loop-clause-live : goal.copy_part-returns-in_ok-after-in-Loop-clause-live
copy_part-returns-in_ok-after-in-Loop-clause-live t c =
    let n = c.args.at.path in
    let p = term_of c.in-Loop.part.value in
    let roots : c.copy_instances.new.lists.roots.items ≡ c.args.lists.now.roots.items = ap (λ v. v.items) c.in_ok-copy_instances.ensures.roots in
    let body : part_instances (liveness_of c.args.at c.push_root-in-Loop.new.roots.items) (term_of c.deref-in-Loop.result.now) (n + 1)
    ≡ instances (loop_liveness (liveness_of c.args.at c.args.lists.now.roots.items) p (n + 1)) p (n + 1)
    = (λ i. part_instances (liveness_of c.args.at c.push_root-in-Loop.new.roots.items) (term_of (c.deref-in-Loop.ensures i)) (n + 1))
    ∙ loop_instances c.args.codes.now c.args.at c.args.lists.now.roots.items c.push_root-in-Loop.new.roots.items c.restarts-in-Loop.result p (n + 1)
    (rw c.in-Loop.is at c.requires.codes).1 c.requires.base c.restarts-in-Loop.ensures
    (c.in_ok-push_root-in-Loop.ensures ∙ ap (λ l. l ++ root_if c.restarts-in-Loop.result (n + 1)) roots) in
    rw c.in-Loop.is (gains_then c.args.lists.now.live.items c.copy_instances.new.lists.live.items c.copy_within-in-Loop.new.lists.live.items
    _ _ _ _ refl body c.in_ok-copy_instances.ensures.live c.in_ok-after-in-Loop.ensures.live)

pub copy_part-returns-in_err-after-in-Loop-clause-many : goal.copy_part-returns-in_err-after-in-Loop-clause-many
copy_part-returns-in_err-after-in-Loop-clause-many t c =
    let n = c.args.at.path in
    let p = term_of c.in-Loop.part.value in
    let roots : c.copy_instances.new.lists.roots.items ≡ c.args.lists.now.roots.items = ap (λ v. v.items) c.in_ok-copy_instances.ensures.roots in
    let body : part_instances (liveness_of c.args.at c.push_root-in-Loop.new.roots.items) (term_of c.deref-in-Loop.result.now) (n + 1)
    ≡ instances (loop_liveness (liveness_of c.args.at c.args.lists.now.roots.items) p (n + 1)) p (n + 1)
    = (λ i. part_instances (liveness_of c.args.at c.push_root-in-Loop.new.roots.items) (term_of (c.deref-in-Loop.ensures i)) (n + 1))
    ∙ loop_instances c.args.codes.now c.args.at c.args.lists.now.roots.items c.push_root-in-Loop.new.roots.items c.restarts-in-Loop.result p (n + 1)
    (rw c.in-Loop.is at c.requires.codes).1 c.requires.base c.restarts-in-Loop.ensures
    (c.in_ok-push_root-in-Loop.ensures ∙ ap (λ l. l ++ root_if c.restarts-in-Loop.result (n + 1)) roots) in
    let e = err_from_is_err_and c.from_residual-in_err-after-in-Loop.result c.from_residual-in_err-after-in-Loop.ensures.1 in
    rw (e.1, e.2) (rw c.in-Loop.is (too_many_then c.args.lists.now.live.items c.copy_instances.new.lists.live.items
    _ _ _ _ _ refl body c.in_ok-copy_instances.ensures.live c.in_err-after-in-Loop.ensures.many))
