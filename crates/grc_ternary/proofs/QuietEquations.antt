-- Where nothing is live, in the statement and in all that it starts again, what its equations would say holds by itself:
-- all its wires are false.
use Rattle.std.proofs.Common.{◌≡◌, ℕ, ◌+◌, ◌<◌, ◌≤◌, Bool, true, false, not, ◌==◌, inl}
use Rattle.std.proofs.Common.{sym, ap, ◌∙◌, arith}
use Rattle.est_kernel.specs.Terms.{Term, Nothing, Pause, Emit, Exit, Present, Suspend, Seq, Loop, Par, Trap, Local, Awake}
use Rattle.est_kernel.specs.Statuses.{Minus, Environment, with_status, value, opposite, conjunction, disjunction}
use Rattle.est_kernel.specs.Preorder.{statement_count}
use Rattle.grc_graph.specs.Layers.{Resumed, Started}
use Rattle.grc_graph.specs.Wires.{Go, StatusOf}
use Rattle.grc_graph.specs.Residuals.{holds}
use Rattle.grc_graph.specs.Selected.{HasExitCodes}
use Rattle.est_ternary.specs.TriWalks.{where_met, tri_maxima, tri_lowered}
use Rattle.grc_ternary.specs.LeastSolutions.{Statuses}
use Rattle.grc_ternary.proofs.Formulas.{met_absent}
use Rattle.grc_ternary.proofs.ResumedWalks.{part_go}
use Rattle.grc_ternary.proofs.StartedPlaces.{ends}
use Rattle.grc_ternary.proofs.ResumedPlaces.{over_ends, FollowsResumed}
use Rattle.grc_ternary.proofs.Quiet.{DeepQuiet, quiet_only, quiet_second, deep_only, deep_first, deep_second}
use Rattle.grc_ternary.proofs.Emitted.{deep_emits}
use Rattle.grc_ternary.proofs.StartedEquations.{minus_maxima, minus_lowered, quiet_follows}
use mathlib.Core.Path.{fun_ext}
use Rattle.est_kernel.proofs.Exports.{statement_count-some}

none_ends : (U : Statuses) (n c m : ℕ) → DeepQuiet U n c → n ≤ m → m < n + c → ends U m Resumed ≡ (λ k. Minus)
none_ends U n c m d i j = fun_ext (d.resumed.at m i j).2

over_none : (U : Statuses) (h : Bool) (n c : ℕ) → U (Go n Resumed) ≡ Minus → ends U c Resumed ≡ (λ k. Minus) → over_ends U h n c ≡ (λ k. Minus)
over_none U true n c e f = f
over_none U false n c e f = fun_ext (λ k. ap (λ v. where_met (k == 0) v) e ∙ met_absent (k == 0))

pub deep_follows : (W U : Statuses) (S : ℕ → Bool) (t : Term) (n : ℕ) (E : Environment) → HasExitCodes t → DeepQuiet W n (statement_count t) →
    DeepQuiet U n (statement_count t) → FollowsResumed W U S t n E
deep_follows W U S Pause n E k v u = λ c.
    (v.resumed.at n (omega arith) (omega arith)).2 c
    ∙ sym (ap (λ x. where_met (c == 0) x) (u.resumed.at n (omega arith) (omega arith)).0 ∙ met_absent (c == 0))
deep_follows W U S (Present e p q) n E k v u =
    let m = n + 1 + statement_count p in
    let go = (u.resumed.at n (omega arith) (omega arith)).0 in (
      (v.resumed.at (n + 1) (omega arith) (omega (arith, statement_count-some p))).0 ∙ sym (ap (λ x. part_go x S p (n + 1)) go),
      (v.resumed.at m (omega arith) (omega (arith, statement_count-some q))).0 ∙ sym (ap (λ x. part_go x S q m) go),
      (λ c. (v.resumed.at n (omega arith) (omega arith)).2 c
          ∙ sym (ap (λ x. disjunction x (ends U m Resumed c)) ((u.resumed.at (n + 1) (omega arith) (omega (arith, statement_count-some p))).2 c)
          ∙ (u.resumed.at m (omega arith) (omega (arith, statement_count-some q))).2 c)),
      deep_follows W U S p (n + 1) E k.0 (deep_first n _ _ v) (deep_first n _ _ u),
      deep_follows W U S q m E k.1 (deep_second n _ _ v) (deep_second n _ _ u),
    )
deep_follows W U S (Suspend e p) n E k v u =
    let go = (u.resumed.at n (omega arith) (omega arith)).0 in (
      (v.resumed.at (n + 1) (omega arith) (omega (arith, statement_count-some p))).0 ∙ sym (ap (λ x. conjunction x (opposite (value e E))) go),
      (λ c. (v.resumed.at n (omega arith) (omega arith)).2 c
          ∙ sym (ap (λ x. disjunction (where_met (c == 1) (conjunction x (value e E))) (ends U (n + 1) Resumed c)) go
          ∙ ap (λ x. disjunction x (ends U (n + 1) Resumed c)) (met_absent (c == 1))
          ∙ (u.resumed.at (n + 1) (omega arith) (omega (arith, statement_count-some p))).2 c)),
      deep_follows W U S p (n + 1) E k (deep_only n _ v) (deep_only n _ u),
    )
deep_follows W U S (Seq p q) n E k v u =
    let m = n + 1 + statement_count p in
    let go = (u.resumed.at n (omega arith) (omega arith)).0 in (
      (v.resumed.at (n + 1) (omega arith) (omega (arith, statement_count-some p))).0 ∙ sym (ap (λ x. part_go x S p (n + 1)) go),
      (v.resumed.at m (omega arith) (omega (arith, statement_count-some q))).0 ∙ sym (ap (λ x. part_go x S q m) go),
      ((v.own m (omega arith)).at m (omega arith) (omega (arith, statement_count-some q))).0
          ∙ sym ((u.resumed.at (n + 1) (omega arith) (omega (arith, statement_count-some p))).2 0),
      (λ c. (v.resumed.at n (omega arith) (omega arith)).2 c
          ∙ sym (ap (λ x. disjunction (disjunction (where_met (not (c == 0)) x) (ends U m (Started m) c)) (ends U m Resumed c))
          ((u.resumed.at (n + 1) (omega arith) (omega (arith, statement_count-some p))).2 c)
          ∙ ap (λ x. disjunction (disjunction x (ends U m (Started m) c)) (ends U m Resumed c)) (met_absent (not (c == 0)))
          ∙ ap (λ x. disjunction x (ends U m Resumed c)) (((u.own m (omega arith)).at m (omega arith) (omega (arith, statement_count-some q))).2 c)
          ∙ (u.resumed.at m (omega arith) (omega (arith, statement_count-some q))).2 c)),
      deep_follows W U S p (n + 1) E k.0 (deep_first n _ _ v) (deep_first n _ _ u),
      deep_follows W U S q m E k.1 (deep_second n _ _ v) (deep_second n _ _ u),
      quiet_follows W U q m (Started m) E k.1 (quiet_second n _ _ (v.own m (omega arith))) (quiet_second n _ _ (u.own m (omega arith))),
    )
deep_follows W U S (Loop at p) n E k v u = (
  (v.resumed.at (n + 1) (omega arith) (omega (arith, statement_count-some p))).0 ∙ sym (u.resumed.at n (omega arith) (omega arith)).0,
  ((v.own (n + 1) (omega arith)).at (n + 1) (omega arith) (omega (arith, statement_count-some p))).0
      ∙ sym ((u.resumed.at (n + 1) (omega arith) (omega (arith, statement_count-some p))).2 0),
  (λ c. (v.resumed.at n (omega arith) (omega arith)).2 c
      ∙ sym (ap (λ x. disjunction (where_met (not (c == 0)) x) (ends U (n + 1) (Started (n + 1)) c))
      ((u.resumed.at (n + 1) (omega arith) (omega (arith, statement_count-some p))).2 c)
      ∙ ap (λ x. disjunction x (ends U (n + 1) (Started (n + 1)) c)) (met_absent (not (c == 0)))
      ∙ ((u.own (n + 1) (omega arith)).at (n + 1) (omega arith) (omega (arith, statement_count-some p))).2 c)),
  deep_follows W U S p (n + 1) E k (deep_only n _ v) (deep_only n _ u),
  quiet_follows W U p (n + 1) (Started (n + 1)) E k (quiet_only n _ (v.own (n + 1) (omega arith))) (quiet_only n _ (u.own (n + 1) (omega arith))),
)
deep_follows W U S (Par p q) n E k v u =
    let m = n + 1 + statement_count p in
    let go = (u.resumed.at n (omega arith) (omega arith)).0 in
    let ep = none_ends U n _ (n + 1) u (omega arith) (omega (arith, statement_count-some p)) in
    let eq = none_ends U n _ m u (omega arith) (omega (arith, statement_count-some q)) in (
      (v.resumed.at (n + 1) (omega arith) (omega (arith, statement_count-some p))).0 ∙ sym (ap (λ x. part_go x S p (n + 1)) go),
      (v.resumed.at m (omega arith) (omega (arith, statement_count-some q))).0 ∙ sym (ap (λ x. part_go x S q m) go),
      (λ c. inl ((v.resumed.at n (omega arith) (omega arith)).2 c
          ∙ sym (ap (λ A. tri_maxima A (over_ends U (holds S q m) n m) c) (over_none U (holds S p (n + 1)) n (n + 1) go ep)
          ∙ ap (λ A. tri_maxima (λ j. Minus) A c) (over_none U (holds S q m) n m go eq)
          ∙ minus_maxima c))),
      deep_follows W U S p (n + 1) E k.0 (deep_first n _ _ v) (deep_first n _ _ u),
      deep_follows W U S q m E k.1 (deep_second n _ _ v) (deep_second n _ _ u),
    )
deep_follows W U S (Trap p) n E k v u = (
  (v.resumed.at (n + 1) (omega arith) (omega (arith, statement_count-some p))).0 ∙ sym (u.resumed.at n (omega arith) (omega arith)).0,
  (λ c. (v.resumed.at n (omega arith) (omega arith)).2 c
      ∙ sym (ap (λ A. tri_lowered A c) (none_ends U n _ (n + 1) u (omega arith) (omega (arith, statement_count-some p))) ∙ minus_lowered c)),
  deep_follows W U S p (n + 1) E k (deep_only n _ v) (deep_only n _ u),
)
deep_follows W U S (Local s p) n E k v u = (
  (v.resumed.at (n + 1) (omega arith) (omega (arith, statement_count-some p))).0 ∙ sym (u.resumed.at n (omega arith) (omega arith)).0,
  (λ c. (v.resumed.at n (omega arith) (omega arith)).2 c ∙ sym ((u.resumed.at (n + 1) (omega arith) (omega (arith, statement_count-some p))).2 c)),
  (v.resumed.at n (omega arith) (omega arith)).1 ∙ sym (deep_emits U p (n + 1) s (deep_only n _ u)),
  deep_follows W U S p (n + 1) (with_status E s (U (StatusOf n Resumed))) k (deep_only n _ v) (deep_only n _ u),
)
deep_follows W U S (Awake e p) n E k v u = absurd k
deep_follows W U S _ n E k v u = (v.resumed.at n (omega arith) (omega arith)).2
