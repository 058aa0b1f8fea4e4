-- Where the wires of a body are those of its walk, a part runs only where what it stands in does.
use Rattle.std.proofs.Common.{◌≡◌, ℕ, ◌+◌, ◌⊎◌, Bool, true, false, ◌&&◌, cond, List, [], refl, sym, ap, ◌∙◌, subst, inl, inr}
use Rattle.std.proofs.Common.{⊎_elim, arith}
use Rattle.std.specs.Prelude.{⊤}
use Rattle.std.proofs.lemmas.Bool.{and_parts}
use Rattle.base_types.specs.declared.place.Span.{Span}
use Rattle.est_kernel.specs.Terms.{Term, Nothing, Pause, Emit, Exit, Present, Suspend, Seq, Loop, Par, Trap, Local, Awake}
use Rattle.est_kernel.specs.Preorder.{statement_count}
use Rattle.est_kernel.specs.StaticCodes.{has_code, started_codes, resumed_codes}
use Rattle.grc_graph.specs.Coherence.{StartedWalked, ResumedWalked}
use Rattle.grc_graph.specs.Layers.{Layer, Resumed, Started, Liveness, can_pass, part_liveness, second_liveness, loop_liveness, root_if}
use Rattle.grc_graph.specs.Readings.{Valuation}
use Rattle.grc_graph.specs.Residuals.{holds}
use Rattle.grc_graph.specs.Selected.{HasExitCodes}
use Rattle.grc_graph.specs.Walk.{Values, with_value}
use Rattle.grc_graph.specs.Wires.{Go, StatusOf}
use Rattle.grc_solutions.proofs.Exports.{Root, root_parts, root_if_parts}
use Rattle.grc_solutions_laws.proofs.Exports.{started_at, resumed_at}
use Rattle.grc_share.proofs.Exports.{at-only, at-first, at-second, Gives, gives-here}
use Rattle.grc_share_laws.proofs.Exclusion.{Runs, Descends, Follows, Restarts, PartsRun}

-- a layer among those of a statement
abbrev pub IsIn : Liveness → Layer → Type 0
IsIn a Resumed = a.resumed ≡ true
IsIn a (Started r) = Root r a.roots

-- ---- the walk at a statement, in each of its layers

pub record ResumedHere (V : Valuation) (S : ℕ → Bool) (t : Term) (n : ℕ) : Type 0 where
  pub values : Values
  pub runs : Bool
  pub is : ResumedWalked V S t n values runs

pub record StartedHere (V : Valuation) (t : Term) (n r : ℕ) : Type 0 where
  pub values : Values
  pub runs : Bool
  pub is : StartedWalked V t n (Started r) values runs

pub record Walked (V : Valuation) (S : ℕ → Bool) (a : Liveness) (t : Term) (n : ℕ) : Type 0 where
  pub resumed : a.resumed ≡ true → ResumedHere V S t n
  pub started : (r : ℕ) → Root r a.roots → StartedHere V t n r

-- a part at m that runs only where the statement at n does
record PartResumed (V : Valuation) (S : ℕ → Bool) (p : Term) (m n : ℕ) : Type 0 where
  pub here : ResumedHere V S p m
  pub above : here.runs ≡ true → Runs V n Resumed

record PartStarted (V : Valuation) (p : Term) (m n r : ℕ) : Type 0 where
  pub here : StartedHere V p m r
  pub above : here.runs ≡ true → Runs V n (Started r)

-- a part of a statement with its liveness, which runs as it does and is walked
abbrev WalkedPart : (V : Valuation) (S : ℕ → Bool) → Liveness → Term → (m n : ℕ) → Type 0
WalkedPart V S a p m n = Descends V m n × Walked V S a p m

-- so are the parts of a statement at n
abbrev pub PartsHere : (V : Valuation) (S : ℕ → Bool) → Liveness → Term → ℕ → Type 0
PartsHere V S a Nothing n = ⊤
PartsHere V S a Pause n = ⊤
PartsHere V S a (Emit s) n = ⊤
PartsHere V S a (Exit k) n = ⊤
PartsHere V S a (Present e p q) n =
    WalkedPart V S (part_liveness a p) p (n + 1) n × WalkedPart V S (part_liveness a q) q (n + 1 + statement_count p) n
PartsHere V S a (Suspend e p) n = WalkedPart V S (part_liveness a p) p (n + 1) n
PartsHere V S a (Seq p q) n =
    WalkedPart V S (part_liveness a p) p (n + 1) n
    × (Follows V (holds S p (n + 1)) (holds S q (n + 1 + statement_count p)) (n + 1 + statement_count p) n
    × Walked V S (second_liveness a p q (n + 1 + statement_count p)) q (n + 1 + statement_count p))
PartsHere V S a (Loop at p) n = Restarts V (n + 1) n × Walked V S (loop_liveness a p (n + 1)) p (n + 1)
PartsHere V S a (Par p q) n =
    WalkedPart V S (part_liveness a p) p (n + 1) n × WalkedPart V S (part_liveness a q) q (n + 1 + statement_count p) n
PartsHere V S a (Trap p) n = WalkedPart V S (part_liveness a p) p (n + 1) n
PartsHere V S a (Local s p) n = WalkedPart V S (part_liveness a p) p (n + 1) n
PartsHere V S a (Awake e p) n = ⊤

-- the parts of a statement at n have their liveness
abbrev pub PartsLive : (ℕ → Liveness) → Liveness → Term → ℕ → Type 0
PartsLive A a Nothing n = ⊤
PartsLive A a Pause n = ⊤
PartsLive A a (Emit s) n = ⊤
PartsLive A a (Exit k) n = ⊤
PartsLive A a (Present e p q) n = (A (n + 1) ≡ part_liveness a p) × (A (n + 1 + statement_count p) ≡ part_liveness a q)
PartsLive A a (Suspend e p) n = A (n + 1) ≡ part_liveness a p
PartsLive A a (Seq p q) n =
    (A (n + 1) ≡ part_liveness a p) × (A (n + 1 + statement_count p) ≡ second_liveness a p q (n + 1 + statement_count p))
PartsLive A a (Loop at p) n = A (n + 1) ≡ loop_liveness a p (n + 1)
PartsLive A a (Par p q) n = (A (n + 1) ≡ part_liveness a p) × (A (n + 1 + statement_count p) ≡ part_liveness a q)
PartsLive A a (Trap p) n = A (n + 1) ≡ part_liveness a p
PartsLive A a (Local s p) n = A (n + 1) ≡ part_liveness a p
PartsLive A a (Awake e p) n = ⊤

-- ---- steps

root_cond : (r : ℕ) (c : Bool) (xs : List ℕ) → Root r (cond c xs []) → (c ≡ true) × Root r xs
root_cond r true xs h = (refl, h)
root_cond r false xs h = absurd h

started-no-resumed : {X : Type 0} (r : ℕ) → Started r ≡ Resumed → X
started-no-resumed r e = absurd (cc)

descends : (V : Valuation) (A : ℕ → Liveness) (a : Liveness) (m n : ℕ) → A m ≡ a → ((l : Layer) → Runs V m l → IsIn (A m) l)
    → (a.resumed ≡ true → Runs V m Resumed → Runs V n Resumed) → ((r : ℕ) → Root r a.roots → Runs V m (Started r) → Runs V n (Started r)) → Descends V m n
descends V A a m n e live resumed started Resumed r = resumed (subst (λ x. IsIn x Resumed) e (live Resumed r)) r
descends V A a m n e live resumed started (Started s) r = started s (subst (λ x. IsIn x (Started s)) e (live (Started s) r)) r

module _ (V : Valuation) (S : ℕ → Bool) (A : ℕ → Liveness) (live : (m : ℕ) (l : Layer) → Runs V m l → IsIn (A m) l) where
  resumed-go : (p : Term) (m : ℕ) → HasExitCodes p → (h : ResumedHere V S p m) → V (Go m Resumed) ≡ h.runs
  resumed-go p m k h = (resumed_at V S p m h.values h.runs k h.is).go

  started-go : (p : Term) (m r : ℕ) → HasExitCodes p → (h : StartedHere V p m r) → V (Go m (Started r)) ≡ h.runs
  started-go p m r k h = (started_at V p m (Started r) h.values h.runs k h.is).go

  -- a part that is live where its whole is
  part-lives : (a : Liveness) (p : Term) (m n : ℕ) → HasExitCodes p → A m ≡ part_liveness a p
      → (a.resumed ≡ true → has_code (resumed_codes p) ≡ true → PartResumed V S p m n) → ((r : ℕ) → Root r a.roots → PartStarted V p m n r)
      → Descends V m n × Walked V S (part_liveness a p) p m
  part-lives a p m n k z resumed started = (
    descends V A (part_liveness a p) m n z (live m)
        (λ h g. let x = and_parts a.resumed (has_code (resumed_codes p)) h in let y = resumed x.0 x.1 in y.above (sym (resumed-go p m k y.here) ∙ g))
        (λ r i g. let y = started r i in y.above (sym (started-go p m r k y.here) ∙ g)),
    record {
      resumed = λ h. let x = and_parts a.resumed (has_code (resumed_codes p)) h in (resumed x.0 x.1).here;
      started = λ r i. (started r i).here;
    },
  )

  -- ---- parts with roots of their own

  -- the second part of a sequence, started with it or at its own root
  seq-started : (a : Liveness) (p q : Term) (n r : ℕ) → HasExitCodes (Seq p q) → Walked V S a (Seq p q) n
      → Root r (second_liveness a p q (n + 1 + statement_count p)).roots
      → StartedHere V q (n + 1 + statement_count p) r
      × (Runs V (n + 1 + statement_count p) (Started r)
      → Runs V n (Started r) ⊎ ((Started r ≡ Started (n + 1 + statement_count p)) × (Runs V n Resumed × (holds S p (n + 1) ≡ true))))
  seq-started a p q n r k w i =
      let m = n + 1 + statement_count p in
      ⊎_elim
      (λ j. let x = root_cond r (started_codes p 0) a.roots j in let y = w.started r x.1 in (
        record { values = y.values; runs = _; is = y.is.2 x.0 },
        λ g. inl (y.is.0.go ∙ (and_parts y.runs _ (sym (started_at V q m (Started r) y.values _ k.1 (y.is.2 x.0)).go ∙ g)).0),
      ))
      (λ j. let x = root_if_parts r m (a.resumed && resumed_codes p 0) j in let z = and_parts a.resumed (resumed_codes p 0) x.1 in let y = w.resumed z.0 in (
        subst (λ u. StartedHere V q m u) (sym x.0) (record { values = y.values; runs = _; is = y.is.3 z.1 }),
        λ g.
            let own = (started_at V q m (Started m) y.values _ k.1 (y.is.3 z.1)).go in
            let b = (and_parts (y.runs && holds S p (n + 1)) _ (sym own ∙ subst (λ u. Runs V m (Started u)) x.0 g)).0 in
            let c = and_parts y.runs (holds S p (n + 1)) b in
            inr (ap Started x.0, (y.is.0.go ∙ c.0, c.1)),
      ))
      (root_parts r (cond (started_codes p 0) a.roots []) (root_if (a.resumed && resumed_codes p 0) m) i)

  seq-second : (a : Liveness) (p q : Term) (n : ℕ) → HasExitCodes (Seq p q)
      → A (n + 1 + statement_count p) ≡ second_liveness a p q (n + 1 + statement_count p) → Walked V S a (Seq p q) n
      → Follows V (holds S p (n + 1)) (holds S q (n + 1 + statement_count p)) (n + 1 + statement_count p) n
      × Walked V S (second_liveness a p q (n + 1 + statement_count p)) q (n + 1 + statement_count p)
  seq-second a p q n k e w = (
    follows,
    record {
      resumed = λ h.
          let x = and_parts a.resumed (can_pass p && has_code (resumed_codes q)) h in
          let y = w.resumed x.0 in
          record { values = y.values; runs = _; is = y.is.2 x.1 };
      started = λ r i. (seq-started a p q n r k w i).0;
    },
  )
    where
      follows : Follows V (holds S p (n + 1)) (holds S q (n + 1 + statement_count p)) (n + 1 + statement_count p) n
      follows Resumed g =
          let m = n + 1 + statement_count p in
          let h = subst (λ x. IsIn x Resumed) e (live m Resumed g) in
          let x = and_parts a.resumed (can_pass p && has_code (resumed_codes q)) h in
          let y = w.resumed x.0 in
          let c = and_parts y.runs (holds S q m) (sym (resumed_at V S q m y.values _ k.1 (y.is.2 x.1)).go ∙ g) in
          inl (y.is.0.go ∙ c.0, λ z. c.1)
      follows (Started r) g =
          let m = n + 1 + statement_count p in
          let i = subst (λ x. IsIn x (Started r)) e (live m (Started r) g) in
          ⊎_elim (λ x. inl (x, λ z. started-no-resumed r z)) (λ x. inr x) ((seq-started a p q n r k w i).1 g)

  -- a loop's body, started with the loop or at its own root
  loop-started : (a : Liveness) (at : Span) (p : Term) (n r : ℕ) → HasExitCodes p → Walked V S a (Loop at p) n → Root r (loop_liveness a p (n + 1)).roots
      → StartedHere V p (n + 1) r
      × (Runs V (n + 1) (Started r) → Runs V n (Started r) ⊎ ((Started r ≡ Started (n + 1)) × Runs V n Resumed))
  loop-started a at p n r k w i =
      ⊎_elim
      (λ j. let y = w.started r j in (
        record { values = y.values; runs = y.runs; is = y.is.1 },
        λ g. inl (y.is.0.go ∙ sym (started_at V p (n + 1) (Started r) y.values _ k y.is.1).go ∙ g),
      ))
      (λ j. let x = root_if_parts r (n + 1) (a.resumed && resumed_codes p 0) j in
      let z = and_parts a.resumed (resumed_codes p 0) x.1 in
      let y = w.resumed z.0 in (
        subst (λ u. StartedHere V p (n + 1) u) (sym x.0) (record { values = y.values; runs = _; is = y.is.2 z.1 }),
        λ g.
            let own = (started_at V p (n + 1) (Started (n + 1)) y.values _ k (y.is.2 z.1)).go in
            let c = and_parts y.runs _ (sym own ∙ subst (λ u. Runs V (n + 1) (Started u)) x.0 g) in
            inr (ap Started x.0, y.is.0.go ∙ c.0),
      ))
      (root_parts r a.roots (root_if (a.resumed && resumed_codes p 0) (n + 1)) i)

  loop-body : (a : Liveness) (at : Span) (p : Term) (n : ℕ) → HasExitCodes p → A (n + 1) ≡ loop_liveness a p (n + 1) → Walked V S a (Loop at p) n
      → Restarts V (n + 1) n × Walked V S (loop_liveness a p (n + 1)) p (n + 1)
  loop-body a at p n k e w = (
    restarts,
    record {
      resumed = λ h.
          let x = and_parts a.resumed (has_code (resumed_codes p)) h in
          let y = w.resumed x.0 in
          record { values = y.values; runs = y.runs; is = y.is.1 x.1 };
      started = λ r i. (loop-started a at p n r k w i).0;
    },
  )
    where
      restarts : Restarts V (n + 1) n
      restarts Resumed g =
          let h = subst (λ x. IsIn x Resumed) e (live (n + 1) Resumed g) in
          let x = and_parts a.resumed (has_code (resumed_codes p)) h in
          let y = w.resumed x.0 in
          inl (y.is.0.go ∙ sym (resumed_at V S p (n + 1) y.values _ k (y.is.1 x.1)).go ∙ g)
      restarts (Started r) g =
          (loop-started a at p n r k w (subst (λ x. IsIn x (Started r)) e (live (n + 1) (Started r) g))).1 g

  -- ---- all statements

  -- the parts of a statement run as it does, and are walked as it is
  pub parts_here : (a : Liveness) (t : Term) (n : ℕ) → HasExitCodes t → PartsLive A a t n → Walked V S a t n → PartsHere V S a t n
  parts_here a Nothing n k z w = tt
  parts_here a Pause n k z w = tt
  parts_here a (Emit s) n k z w = tt
  parts_here a (Exit c) n k z w = tt
  parts_here a (Present e p q) n k z w =
      let m = n + 1 + statement_count p in
      let x = part-lives a p (n + 1) n k.0 z.0
      (λ h c. let y = w.resumed h in record { here = record { values = y.values; runs = _; is = y.is.1 c }; above = λ b. y.is.0.go ∙ (and_parts y.runs _ b).0 })
      (λ r i. let y = w.started r i in record {
        here = record { values = y.values; runs = _; is = y.is.1 };
        above = λ b. y.is.0.go ∙ (and_parts y.runs _ b).0;
      }) in
      let y = part-lives a q m n k.1 z.1
      (λ h c. let y = w.resumed h in record { here = record { values = y.values; runs = _; is = y.is.2 c }; above = λ b. y.is.0.go ∙ (and_parts y.runs _ b).0 })
      (λ r i. let y = w.started r i in record {
        here = record { values = y.values; runs = _; is = y.is.2 };
        above = λ b. y.is.0.go ∙ (and_parts y.runs _ b).0;
      }) in
      (x, y)
  parts_here a (Suspend e p) n k z w =
      let x = part-lives a p (n + 1) n k z
      (λ h c. let y = w.resumed h in record { here = record { values = y.values; runs = _; is = y.is.1 c }; above = λ b. y.is.0.go ∙ (and_parts y.runs _ b).0 })
      (λ r i. let y = w.started r i in record { here = record { values = y.values; runs = _; is = y.is.1 }; above = λ b. y.is.0.go ∙ b }) in
      x
  parts_here a (Seq p q) n k z w =
      let m = n + 1 + statement_count p in
      let x = part-lives a p (n + 1) n k.0 z.0
      (λ h c. let y = w.resumed h in record { here = record { values = y.values; runs = _; is = y.is.1 c }; above = λ b. y.is.0.go ∙ (and_parts y.runs _ b).0 })
      (λ r i. let y = w.started r i in record { here = record { values = y.values; runs = _; is = y.is.1 }; above = λ b. y.is.0.go ∙ b }) in
      let y = seq-second a p q n k z.1 w in
      (x, y)
  parts_here a (Loop at p) n k z w =
      let x = loop-body a at p n k z w in
      x
  parts_here a (Par p q) n k z w =
      let m = n + 1 + statement_count p in
      let x = part-lives a p (n + 1) n k.0 z.0
      (λ h c. let y = w.resumed h in record { here = record { values = y.values; runs = _; is = y.is.1 c }; above = λ b. y.is.0.go ∙ (and_parts y.runs _ b).0 })
      (λ r i. let y = w.started r i in record { here = record { values = y.values; runs = _; is = y.is.1 }; above = λ b. y.is.0.go ∙ b }) in
      let y = part-lives a q m n k.1 z.1
      (λ h c. let y = w.resumed h in record { here = record { values = y.values; runs = _; is = y.is.2 c }; above = λ b. y.is.0.go ∙ (and_parts y.runs _ b).0 })
      (λ r i. let y = w.started r i in record { here = record { values = y.values; runs = _; is = y.is.2 }; above = λ b. y.is.0.go ∙ b }) in
      (x, y)
  parts_here a (Trap p) n k z w =
      let x = part-lives a p (n + 1) n k z
      (λ h c. let y = w.resumed h in record { here = record { values = y.values; runs = _; is = y.is.1 c }; above = λ b. y.is.0.go ∙ b })
      (λ r i. let y = w.started r i in record { here = record { values = y.values; runs = _; is = y.is.1 }; above = λ b. y.is.0.go ∙ b }) in
      x
  parts_here a (Local s p) n k z w =
      let x = part-lives a p (n + 1) n k z
      (λ h c. let y = w.resumed h in record {
        here = record { values = with_value y.values s (V (StatusOf n Resumed)); runs = _; is = y.is.2 c };
        above = λ b. y.is.0.go ∙ b;
      })
      (λ r i. let y = w.started r i in record {
        here = record { values = with_value y.values s (V (StatusOf n (Started r))); runs = _; is = y.is.2 };
        above = λ b. y.is.0.go ∙ b;
      }) in
      x
  parts_here a (Awake e p) n k z w = tt

  pub parts_running : (a : Liveness) (t : Term) (n : ℕ) → HasExitCodes t → Gives A a t n → Walked V S a t n → PartsRun V S t n
  parts_running a Nothing n k g w = tt
  parts_running a Pause n k g w = tt
  parts_running a (Emit s) n k g w = tt
  parts_running a (Exit c) n k g w = tt
  parts_running a (Present e p q) n k g w =
      let m = n + 1 + statement_count p in
      let gp : Gives A (part_liveness a p) p (n + 1) = λ i l h. g i (omega arith) (omega arith) ∙ at-first i n m a _ _ (omega arith) (omega arith) in
      let gq : Gives A (part_liveness a q) q m = λ i l h. g i (omega arith) (omega arith) ∙ at-second i n m a _ _ (omega arith) (omega arith) in
      let s = parts_here a (Present e p q) n k (gives-here A _ p (n + 1) gp, gives-here A _ q m gq) w in
      (s.0.0, s.1.0, parts_running (part_liveness a p) p (n + 1) k.0 gp s.0.1, parts_running (part_liveness a q) q m k.1 gq s.1.1)
  parts_running a (Suspend e p) n k g w =
      let gp : Gives A (part_liveness a p) p (n + 1) = λ i l h. g i (omega arith) (omega arith) ∙ at-only i n a _ (omega arith) in
      let s = parts_here a (Suspend e p) n k (gives-here A _ p (n + 1) gp) w in
      (s.0, parts_running (part_liveness a p) p (n + 1) k gp s.1)
  parts_running a (Seq p q) n k g w =
      let m = n + 1 + statement_count p in
      let gp : Gives A (part_liveness a p) p (n + 1) = λ i l h. g i (omega arith) (omega arith) ∙ at-first i n m a _ _ (omega arith) (omega arith) in
      let gq : Gives A (second_liveness a p q m) q m = λ i l h. g i (omega arith) (omega arith) ∙ at-second i n m a _ _ (omega arith) (omega arith) in
      let s = parts_here a (Seq p q) n k (gives-here A _ p (n + 1) gp, gives-here A _ q m gq) w in
      (s.0.0, s.1.0, parts_running (part_liveness a p) p (n + 1) k.0 gp s.0.1, parts_running (second_liveness a p q m) q m k.1 gq s.1.1)
  parts_running a (Loop at p) n k g w =
      let gp : Gives A (loop_liveness a p (n + 1)) p (n + 1) = λ i l h. g i (omega arith) (omega arith) ∙ at-only i n a _ (omega arith) in
      let s = parts_here a (Loop at p) n k (gives-here A _ p (n + 1) gp) w in
      (s.0, parts_running (loop_liveness a p (n + 1)) p (n + 1) k gp s.1)
  parts_running a (Par p q) n k g w =
      let m = n + 1 + statement_count p in
      let gp : Gives A (part_liveness a p) p (n + 1) = λ i l h. g i (omega arith) (omega arith) ∙ at-first i n m a _ _ (omega arith) (omega arith) in
      let gq : Gives A (part_liveness a q) q m = λ i l h. g i (omega arith) (omega arith) ∙ at-second i n m a _ _ (omega arith) (omega arith) in
      let s = parts_here a (Par p q) n k (gives-here A _ p (n + 1) gp, gives-here A _ q m gq) w in
      (s.0.0, s.1.0, parts_running (part_liveness a p) p (n + 1) k.0 gp s.0.1, parts_running (part_liveness a q) q m k.1 gq s.1.1)
  parts_running a (Trap p) n k g w =
      let gp : Gives A (part_liveness a p) p (n + 1) = λ i l h. g i (omega arith) (omega arith) ∙ at-only i n a _ (omega arith) in
      let s = parts_here a (Trap p) n k (gives-here A _ p (n + 1) gp) w in
      (s.0, parts_running (part_liveness a p) p (n + 1) k gp s.1)
  parts_running a (Local s p) n k g w =
      let gp : Gives A (part_liveness a p) p (n + 1) = λ i l h. g i (omega arith) (omega arith) ∙ at-only i n a _ (omega arith) in
      let s = parts_here a (Local s p) n k (gives-here A _ p (n + 1) gp) w in
      (s.0, parts_running (part_liveness a p) p (n + 1) k gp s.1)
  parts_running a (Awake e p) n k g w = tt
