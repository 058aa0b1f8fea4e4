-- Where the walk of what is left asks for nothing unknown, no wire of the resumed statement is unknown, and the other way round.
use Rattle.std.proofs.Common.{◌≡◌, ℕ, ◌+◌, Bool, true, false, not, ◌==◌, ap, ◌∙◌}
use Rattle.est_kernel.specs.Terms.{Term, Nothing, Pause, Emit, Exit, Present, Suspend, Seq, Loop, Par, Trap, Local, Awake}
use Rattle.est_kernel.specs.Statuses.{Status, Minus, Environment, with_status, value, opposite, conjunction}
use Rattle.est_kernel.specs.Preorder.{statement_count}
use Rattle.est_kernel.specs.Laws.{IsBelow, KnowsMore}
use Rattle.est_kernel.proofs.Exports.{value_below, with_status-more}
use Rattle.grc_graph.specs.Layers.{Layer, Resumed, Started}
use Rattle.grc_graph.specs.Scopes.{Scope, bind}
use Rattle.grc_graph.specs.Wires.{Wire, Go, StatusOf, End}
use Rattle.grc_graph.specs.Formulas.{Formula}
use Rattle.grc_graph.specs.Residuals.{holds}
use Rattle.grc_solutions.proofs.Exports.{EachResumed}
use Rattle.est_ternary.specs.KnownPlaces.{IsKnown}
use Rattle.est_ternary.proofs.Exports.{choice_below}
use Rattle.grc_ternary.specs.LeastSolutions.{Statuses}
use Rattle.grc_ternary.proofs.ResumedWalks.{over_codes, resumed_tri, resumed_decided, KnownResumed, resumed_go}
use Rattle.grc_ternary.proofs.StartedPlaces.{unopposed}
use Rattle.grc_ternary.proofs.StartedPlaces.{below_to, above_known}
use Rattle.grc_ternary.proofs.StartedPlaces.{known_above, known_met, known_disjunction, known_maxima, known_lowered, known_codes}
use Rattle.grc_ternary.proofs.StartedPlaces.{under_known, WiresKnown}
use Rattle.grc_ternary.proofs.ResumedPlaces.{part_stops, part_below, FollowsResumed, above_resumed, above_resumed_decided, UnderResumed}

known_over : (h : Bool) (g : Status) (A : ℕ → Status) → IsKnown g → ((k : ℕ) → IsKnown (A k)) → (k : ℕ) → IsKnown (over_codes h g A k)
known_over true g A i f k = f k
known_over false g A i f k = known_met (k == 0) g i

pub known_resumed_codes : (S : ℕ → Bool) (t : Term) (n : ℕ) (g : Status) (F : Environment) → KnownResumed S t n g F → (k : ℕ) →
    IsKnown ((resumed_tri S t n g F).codes k)
known_resumed_codes S Pause n g F k c = known_met (c == 0) g k
known_resumed_codes S (Present e p q) n g F k c =
    known_disjunction _ _ (known_resumed_codes S p (n + 1) _ F k.1 c) (known_resumed_codes S q (n + 1 + statement_count p) _ F k.2 c)
known_resumed_codes S (Suspend e p) n g F k c =
    known_disjunction _ _ (known_met (c == 1) _ (unopposed g (value e F) k.0 (resumed_go S p (n + 1) _ F k.1))) (known_resumed_codes S p (n + 1) _ F k.1 c)
known_resumed_codes S (Seq p q) n g F k c =
    known_disjunction _ _
    (known_disjunction _ _ (known_met (not (c == 0)) _ (known_resumed_codes S p (n + 1) _ F k.1 c)) (known_codes q _ F k.3 c))
    (known_resumed_codes S q (n + 1 + statement_count p) _ F k.2 c)
known_resumed_codes S (Loop at p) n g F k c =
    known_disjunction _ _ (known_met (not (c == 0)) _ (known_resumed_codes S p (n + 1) g F k.1 c)) (known_codes p _ F k.2 c)
known_resumed_codes S (Par p q) n g F k c =
    let r = n + 1 + statement_count p in
    known_maxima _ _ (known_over (holds S p (n + 1)) g _ k.0 (known_resumed_codes S p (n + 1) _ F k.1))
    (known_over (holds S q r) g _ k.0 (known_resumed_codes S q r _ F k.2)) c
known_resumed_codes S (Trap p) n g F k c = known_lowered _ (known_resumed_codes S p (n + 1) g F k.1) c
known_resumed_codes S (Local s p) n g F k c = known_resumed_codes S p (n + 1) g (with_status F s (resumed_decided S p (n + 1) g F s)) k.2 c
known_resumed_codes S _ n g F k c = tt

pub under_known_resumed : (T : Statuses) → ((w : Wire) → IsKnown (T w)) → (S : ℕ → Bool) (t : Term) (n : ℕ) (g : Status) (F : Environment) →
    UnderResumed T S t n g F → KnownResumed S t n g F
under_known_resumed T a S (Present e p q) n g F u = (
  known_above _ g (a (Go n Resumed)) u.0.0,
  under_known_resumed T a S p (n + 1) _ F u.1,
  under_known_resumed T a S q (n + 1 + statement_count p) _ F u.2,
)
under_known_resumed T a S (Suspend e p) n g F u = (known_above _ g (a (Go n Resumed)) u.0.0, under_known_resumed T a S p (n + 1) _ F u.1)
under_known_resumed T a S (Seq p q) n g F u =
    let r = n + 1 + statement_count p in (
      known_above _ g (a (Go n Resumed)) u.0.0,
      under_known_resumed T a S p (n + 1) _ F u.1,
      under_known_resumed T a S q r _ F u.2,
      under_known T a q r (Started r) _ F u.3,
    )
under_known_resumed T a S (Loop at p) n g F u = (
  known_above _ g (a (Go n Resumed)) u.0.0,
  under_known_resumed T a S p (n + 1) g F u.1,
  under_known T a p (n + 1) (Started (n + 1)) _ F u.2,
)
under_known_resumed T a S (Par p q) n g F u = (
  known_above _ g (a (Go n Resumed)) u.0.0,
  under_known_resumed T a S p (n + 1) _ F u.1,
  under_known_resumed T a S q (n + 1 + statement_count p) _ F u.2,
)
under_known_resumed T a S (Trap p) n g F u = (known_above _ g (a (Go n Resumed)) u.0.0, under_known_resumed T a S p (n + 1) g F u.1)
under_known_resumed T a S (Local s p) n g F u = (
  known_above _ g (a (Go n Resumed)) u.0.0,
  known_above _ _ (a (StatusOf n Resumed)) u.1,
  under_known_resumed T a S p (n + 1) g (with_status F s (resumed_decided S p (n + 1) g F s)) u.2,
)
under_known_resumed T a S (Awake e p) n g F u = absurd u
under_known_resumed T a S _ n g F u = known_above _ g (a (Go n Resumed)) u.0.0

-- the wires of a resumed instance other than a Local
module _ (T : Statuses) (S : ℕ → Bool) where
  ends_known : (t : Term) (n : ℕ) (g : Status) (E F : Environment) → FollowsResumed T T S t n E → (holds S t n ≡ false → T (Go n Resumed) ≡ Minus) →
      KnownResumed S t n g F → IsBelow g (T (Go n Resumed)) → KnowsMore F E → (k : ℕ) → IsKnown (T (End n Resumed k))
  ends_known t n g E F w o k b m c = known_above _ _ (known_resumed_codes S t n g F k c) ((above_resumed T S t n g E F w o b m).codes c)

  go_known : (t : Term) (n : ℕ) (g : Status) (F : Environment) → KnownResumed S t n g F → IsBelow g (T (Go n Resumed)) → IsKnown (T (Go n Resumed))
  go_known t n g F k b = known_above g _ (resumed_go S t n g F k) b

  pub above_known_resumed : (t : Term) (n : ℕ) (g : Status) (E F : Environment) (B : Scope) (f : Layer → Formula) → FollowsResumed T T S t n E →
      (holds S t n ≡ false → T (Go n Resumed) ≡ Minus) → KnownResumed S t n g F → IsBelow g (T (Go n Resumed)) → KnowsMore F E →
      EachResumed (WiresKnown T) B f t n
  above_known_resumed (Present e p q) n g E F B f w o k b m =
      let r = n + 1 + statement_count p in (
        record { go = go_known (Present e p q) n g F k b; ends = ends_known (Present e p q) n g E F w o k b m; status = tt },
        (λ z. above_known_resumed p (n + 1) _ E F B _ w.3 (part_stops _ S p (n + 1) w.0) k.1 (below_to _ (part_below S p (n + 1) g _ b) w.0) m),
        (λ z. above_known_resumed q r _ E F B _ w.4 (part_stops _ S q r w.1) k.2 (below_to _ (part_below S q r g _ b) w.1) m),
      )
  above_known_resumed (Suspend e p) n g E F B f w o k b m =
      let v = value_below e F E m in (
        record { go = go_known (Suspend e p) n g F k b; ends = ends_known (Suspend e p) n g E F w o k b m; status = tt },
        λ z. above_known_resumed p (n + 1) _ E F B _ w.2 (λ h. w.0 ∙ ap (λ y. conjunction y (opposite (value e E))) (o h)) k.1
            (below_to _ (choice_below g _ (value e F) (value e E) b v) w.0) m,
      )
  above_known_resumed (Seq p q) n g E F B f w o k b m =
      let r = n + 1 + statement_count p in
      let x = above_resumed T S p (n + 1) _ E F w.4 (part_stops _ S p (n + 1) w.0) (below_to _ (part_below S p (n + 1) g _ b) w.0) m in (
        record { go = go_known (Seq p q) n g F k b; ends = ends_known (Seq p q) n g E F w o k b m; status = tt },
        (λ z. above_known_resumed p (n + 1) _ E F B _ w.4 (part_stops _ S p (n + 1) w.0) k.1 (below_to _ (part_below S p (n + 1) g _ b) w.0) m),
        (λ z. above_known_resumed q r _ E F B _ w.5 (part_stops _ S q r w.1) k.2 (below_to _ (part_below S q r g _ b) w.1) m),
        (λ z. above_known T q r (Started r) _ E F B _ w.6 k.3 (below_to _ (x.codes 0) w.2) m),
      )
  above_known_resumed (Loop at p) n g E F B f w o k b m =
      let x = above_resumed T S p (n + 1) g E F w.3 (λ h. w.0 ∙ o h) (below_to _ b w.0) m in (
        record { go = go_known (Loop at p) n g F k b; ends = ends_known (Loop at p) n g E F w o k b m; status = tt },
        (λ z. above_known_resumed p (n + 1) g E F B _ w.3 (λ h. w.0 ∙ o h) k.1 (below_to _ b w.0) m),
        (λ z. above_known T p (n + 1) (Started (n + 1)) _ E F B _ w.4 k.2 (below_to _ (x.codes 0) w.1) m),
      )
  above_known_resumed (Par p q) n g E F B f w o k b m =
      let r = n + 1 + statement_count p in (
        record { go = go_known (Par p q) n g F k b; ends = ends_known (Par p q) n g E F w o k b m; status = tt },
        (λ z. above_known_resumed p (n + 1) _ E F B _ w.3 (part_stops _ S p (n + 1) w.0) k.1 (below_to _ (part_below S p (n + 1) g _ b) w.0) m),
        (λ z. above_known_resumed q r _ E F B _ w.4 (part_stops _ S q r w.1) k.2 (below_to _ (part_below S q r g _ b) w.1) m),
      )
  above_known_resumed (Trap p) n g E F B f w o k b m = (
    record { go = go_known (Trap p) n g F k b; ends = ends_known (Trap p) n g E F w o k b m; status = tt },
    λ z. above_known_resumed p (n + 1) g E F B _ w.2 (λ h. w.0 ∙ o h) k.1 (below_to _ b w.0) m,
  )
  above_known_resumed (Local s p) n g E F B f w o k b m =
      let c = T (StatusOf n Resumed) in
      let d = above_resumed_decided T S s p n g E F w o b m in (
        record {
          go = go_known (Local s p) n g F k b;
          ends = ends_known (Local s p) n g E F w o k b m;
          status = known_above _ _ k.1 d;
        },
        λ z. above_known_resumed p (n + 1) g (with_status E s c) (with_status F s (resumed_decided S p (n + 1) g F s)) (bind B s n) _ w.3 (λ h. w.0 ∙ o h) k.2
            (below_to _ b w.0) (with_status-more s (resumed_decided S p (n + 1) g F s) c m d),
      )
  above_known_resumed (Awake e p) n g E F B f w o k b m = absurd w
  above_known_resumed t n g E F B f w o k b m =
      record { go = go_known t n g F k b; ends = ends_known t n g E F w o k b m; status = tt }
