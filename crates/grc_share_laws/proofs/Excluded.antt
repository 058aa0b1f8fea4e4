-- In a solution of a program's graph no two instances of a statement run that have one key.
use Rattle.std.proofs.Common.{◌≡◌, ℕ, ◌+◌, ◌<◌, ◌≤◌, Bool, true, false, ◌==◌, cond, List, [], ◌∷◌, refl, sym, ap, ◌∙◌, subst, inl, inr, ⊎_elim, arith}
use Rattle.std.specs.Prelude.{nat_lt}
use Rattle.std.specs.List.{list_any}
use Rattle.std.proofs.lemmas.Bool.{cases_lt, cases_Bool, eqb-true, false≢true, both_ways, or_cases}
use Rattle.est_kernel.specs.Plain.{Program}
use Rattle.est_kernel.specs.Preorder.{statement_count}
use Rattle.est_kernel.specs.Terms.{Term, Nothing, Pause, Emit, Exit, Present, Suspend, Seq, Loop, Par, Trap, Local, Awake}
use Rattle.est_kernel.specs.WellFormed.{IsKernel}
use Rattle.grc_graph.specs.Layers.{Layer, Resumed, Started, Liveness, body_liveness}
use Rattle.grc_graph.specs.Readings.{Valuation}
use Rattle.grc_graph.specs.Residuals.{holds}
use Rattle.grc_graph.specs.Rows.{live_in, program_rows}
use Rattle.grc_graph.specs.Selected.{HasExitCodes, IsSelected, IsState}
use Rattle.grc_graph.specs.Walk.{State, Initial, Selecting, is_initial}
use Rattle.grc_graph.specs.Wires.{Go}
use Rattle.grc_graph.proofs.Exports.{IsGo, wire_only, holds-false}
use Rattle.grc_solutions_laws.specs.GraphWalks.{selected_of, IsWalkOf}
use Rattle.grc_solutions_laws.proofs.Exports.{started_at, resumed_at, program_kernel, equations_are_the_walk_lem}
use Rattle.grc_share_laws.specs.Laws.{KeysTellApart, MembersExcludeEachOther}
use Rattle.grc_solutions.proofs.Exports.{Root}
use Rattle.grc_share.specs.SharedInstances.{Sharing, loops_at, body_sharing, key, one_instance}
use Rattle.grc_share.proofs.Exports.{above-self, at-only, at-first, at-second, at-self, body_own_keys, gives-here, live_row, program_gives}
use Rattle.grc_share_laws.proofs.Exclusion.{Runs, layer_key, Apart, AllApart, all_apart}
use Rattle.grc_share_laws.proofs.PartsRunning.{IsIn, StartedHere, Walked, parts_running}

-- ---- a statement with a number

apart-here : (V : Valuation) (c : ℕ → ℕ) (k : ℕ) (t : Term) (n : ℕ) → AllApart V c k t n → Apart V c k n
apart-here V c k Nothing n a = a
apart-here V c k Pause n a = a
apart-here V c k (Emit s) n a = a
apart-here V c k (Exit u) n a = a
apart-here V c k (Present e p q) n a = a.0
apart-here V c k (Suspend e p) n a = a.0
apart-here V c k (Seq p q) n a = a.0
apart-here V c k (Loop at p) n a = a.0
apart-here V c k (Par p q) n a = a.0
apart-here V c k (Trap p) n a = a.0
apart-here V c k (Local s p) n a = a.0
apart-here V c k (Awake e p) n a = a

-- the statement at n, or one in a part
apart-one : (V : Valuation) (c : ℕ → ℕ) (k n m K : ℕ) → Apart V c k n → n ≤ m → (n < m → Apart V c K m) → Apart V c (cond (m == n) k K) m
apart-one V c k n m K here l part =
    ⊎_elim
    (λ h. subst (λ i. Apart V c i m) (sym (at-only m n k K h)) (part h))
    (λ h. let e : n ≡ m = omega (arith, l, h) in
    subst (λ i. Apart V c (cond (i == n) k K) i) e (subst (λ i. Apart V c i n) (sym (at-self n k K)) here))
    (cases_lt n m)

apart-two : (V : Valuation) (c : ℕ → ℕ) (k n b m K L : ℕ) → Apart V c k n → n ≤ m → (n < m → m < b → Apart V c K m) → (n < m → b ≤ m → Apart V c L m)
    → Apart V c (cond (m == n) k (cond (nat_lt m b) K L)) m
apart-two V c k n b m K L here l first second =
    ⊎_elim
    (λ h. ⊎_elim (λ g. subst (λ i. Apart V c i m) (sym (at-first m n b k K L h g)) (first h g))
    (λ g. subst (λ i. Apart V c i m) (sym (at-second m n b k K L h g)) (second h g)) (cases_lt m b))
    (λ h. let e : n ≡ m = omega (arith, l, h) in
    subst (λ i. Apart V c (cond (i == n) k (cond (nat_lt i b) K L)) i) e (subst (λ i. Apart V c i n) (sym (at-self n k _)) here))
    (cases_lt n m)

-- a leaf
apart-leaf : (V : Valuation) (c : ℕ → ℕ) (k n m : ℕ) → Apart V c k n → n ≤ m → m < n + 1 → Apart V c k m
apart-leaf V c k n m a l u = let e : n ≡ m = omega (arith, l, u) in subst (Apart V c k) e a

pub apart_at : (V : Valuation) (c : ℕ → ℕ) (k : ℕ) (t : Term) (n m : ℕ) → HasExitCodes t → AllApart V c k t n → n ≤ m → m < n + statement_count t
    → Apart V c (loops_at k t n m) m
apart_at V c k Nothing n m x a l u = apart-leaf V c k n m a l u
apart_at V c k Pause n m x a l u = apart-leaf V c k n m a l u
apart_at V c k (Emit s) n m x a l u = apart-leaf V c k n m a l u
apart_at V c k (Exit b) n m x a l u = apart-leaf V c k n m a l u
apart_at V c k (Present e p q) n m x a l u =
    apart-two V c k n (n + 1 + statement_count p) m _ _ a.0 l (λ h g. apart_at V c k p (n + 1) m x.0 a.1 (omega (arith, h)) (omega (arith, g)))
    (λ h g. apart_at V c k q (n + 1 + statement_count p) m x.1 a.2 g (omega (arith, u)))
apart_at V c k (Suspend e p) n m x a l u =
    apart-one V c k n m _ a.0 l (λ h. apart_at V c k p (n + 1) m x a.1 (omega (arith, h)) (omega (arith, u)))
apart_at V c k (Seq p q) n m x a l u =
    apart-two V c k n (n + 1 + statement_count p) m _ _ a.0 l (λ h g. apart_at V c k p (n + 1) m x.0 a.1 (omega (arith, h)) (omega (arith, g)))
    (λ h g. apart_at V c k q (n + 1 + statement_count p) m x.1 a.2 g (omega (arith, u)))
apart_at V c k (Loop at p) n m x a l u =
    apart-one V c k n m _ a.0 l (λ h. apart_at V c (k + 1) p (n + 1) m x a.1 (omega (arith, h)) (omega (arith, u)))
apart_at V c k (Par p q) n m x a l u =
    apart-two V c k n (n + 1 + statement_count p) m _ _ a.0 l (λ h g. apart_at V c k p (n + 1) m x.0 a.1 (omega (arith, h)) (omega (arith, g)))
    (λ h g. apart_at V c k q (n + 1 + statement_count p) m x.1 a.2 g (omega (arith, u)))
apart_at V c k (Trap p) n m x a l u =
    apart-one V c k n m _ a.0 l (λ h. apart_at V c k p (n + 1) m x a.1 (omega (arith, h)) (omega (arith, u)))
apart_at V c k (Local s p) n m x a l u =
    apart-one V c k n m _ a.0 l (λ h. apart_at V c k p (n + 1) m x a.1 (omega (arith, h)) (omega (arith, u)))
apart_at V c k (Awake e p) n m x a l u = absurd x

-- ---- the body

pub is_in : (a : Liveness) (l : Layer) → live_in a l ≡ true → IsIn a l
is_in a Resumed h = h
is_in a (Started r) h = among a.roots h
  where
    among : (rs : List ℕ) → list_any (λ q. q == r) rs ≡ true → Root r rs
    among [] h = absurd (false≢true h)
    among (q ∷ rs) h = ⊎_elim (λ e. inl (sym (eqb-true q r e))) (λ e. inr (among rs e)) (or_cases (q == r) (list_any (λ q. q == r) rs) h)

module _ (p : Program) (q : State) (event : List Bool) (V : Valuation) (kernel : IsKernel p.body) (codes : HasExitCodes p.body) (state : IsState q p.body)
    (walk : IsWalkOf p q event V) where
  abbrev S : ℕ → Bool
  S = selected_of q

  abbrev c : ℕ → ℕ
  c = (body_sharing p.body).root

  abbrev A : ℕ → Liveness
  A = live_row (program_rows p)

  -- what runs is live
  pub live : (m : ℕ) (l : Layer) → Runs V m l → IsIn (A m) l
  live m l h =
      is_in (A m) l (⊎_elim (λ e. e)
      (λ e. absurd (both_ways (V (Go m l)) (walk.others (Go m l) (λ w. both_ways (live_in (A m) l) e (wire_only p kernel IsGo m l w).live)) h))
      (cases_Bool (live_in (A m) l)))

  pub within : (m : ℕ) (l : Layer) → Runs V m l → m < statement_count p.body
  within m l h =
      ⊎_elim (λ e. e)
      (λ e. absurd (both_ways (V (Go m l)) (walk.others (Go m l) (λ w. omega (arith, e, (wire_only p kernel IsGo m l w).within))) h))
      (cases_lt m (statement_count p.body))

  here : A 0 ≡ body_liveness p.body
  here = gives-here A (body_liveness p.body) p.body 0 (program_gives p kernel)

  pub walked : Walked V S (body_liveness p.body) p.body 0
  walked = record {
    resumed = λ h. record { values = _; runs = _; is = walk.resumed h };
    started = λ r i. ⊎_elim (λ e. subst (λ u. StartedHere V p.body 0 u) (sym e) (record { values = _; runs = _; is = walk.started })) (λ z. absurd z) i;
  }

  selected : holds S p.body 0 ≡ true → IsSelected S p.body 0
  selected h = by q state h
    where
      by : (q : State) → IsState q p.body → holds (selected_of q) p.body 0 ≡ true → IsSelected (selected_of q) p.body 0
      by Initial s h = absurd (both_ways (holds (λ m. false) p.body 0) (holds-false p.body 0) h)
      by (Selecting S) s h = s h

  -- the body is not resumed and started at once
  never-both : Runs V 0 Resumed → Runs V 0 (Started 0) → ⊥
  never-both h g =
      let resumed = (resumed_at V S p.body 0 _ _ codes (walk.resumed (subst (λ a. a.resumed ≡ true) here (live 0 Resumed h)))).go in
      let started = (started_at V p.body 0 (Started 0) _ _ codes walk.started).go in
      by q (sym resumed ∙ h) (sym started ∙ g)
    where
      by : (q : State) → holds (selected_of q) p.body 0 ≡ true → is_initial q ≡ true → ⊥
      by Initial a b = both_ways (holds (λ m. false) p.body 0) (holds-false p.body 0) a
      by (Selecting S) a b = false≢true b

  -- the body has one root
  one-root : (r : ℕ) → Runs V 0 (Started r) → r ≡ 0
  one-root r h = ⊎_elim (λ e. e) (λ z. absurd z) (subst (λ a. Root r a.roots) here (live 0 (Started r) h))

  body-apart : Apart V c 0 0
  body-apart = record { one = one; low = low }
    where
      one : (l j : Layer) → Runs V 0 l → Runs V 0 j → layer_key c 0 l ≡ layer_key c 0 j → l ≡ j
      one Resumed Resumed g h e = refl
      one Resumed (Started s) g h e = absurd (never-both g (subst (λ u. Runs V 0 (Started u)) (one-root s h) h))
      one (Started r) Resumed g h e = absurd (never-both h (subst (λ u. Runs V 0 (Started u)) (one-root r g) g))
      one (Started r) (Started s) g h e = ap Started (one-root r g ∙ sym (one-root s h))

      low : (l : Layer) → Runs V 0 l → layer_key c 0 l ≤ 0
      low Resumed g = omega arith
      low (Started r) g = omega (arith, ap c (one-root r g), above-self 0 0 p.body 0)

  all : AllApart V c 0 p.body 0
  all =
      all_apart V S c 0 p.body 0 codes (body_own_keys p.body) selected
      (parts_running V S A live (body_liveness p.body) p.body 0 codes (program_gives p kernel) walked) body-apart

  pub excluded : (m : ℕ) (l j : Layer) → Runs V m l → Runs V m j → key (body_sharing p.body) m l ≡ key (body_sharing p.body) m j → l ≡ j
  excluded m l j g h e =
      let a = apart_at V c 0 p.body 0 m codes all (omega arith) (omega (arith, within m l g)) in
      a.one l j g h (same l ∙ e ∙ sym (same j))
    where
      same : (l : Layer) → layer_key c (loops_at 0 p.body 0 m) l ≡ key (body_sharing p.body) m l
      same Resumed = refl
      same (Started r) = refl

pub keys_tell_apart_lem : KeysTellApart
keys_tell_apart_lem p q event V formed kernel no_loop state width solves n l j g h e =
    let codes = program_kernel p formed kernel in
    let walk = (equations_are_the_walk_lem p q event V codes no_loop state width).0 solves in
    excluded p q event V kernel codes state walk n l j g h e

-- instances that are one have one key
pub one_key : (K : Sharing) (n : ℕ) (l j : Layer) → one_instance K n l j ≡ true → key K n l ≡ key K n j
one_key K n Resumed Resumed e = refl
one_key K n Resumed (Started r) e = absurd (false≢true e)
one_key K n (Started q) Resumed e = absurd (false≢true e)
one_key K n (Started q) (Started r) e = eqb-true (K.root q) (K.root r) e

pub members_exclude_each_other_lem : MembersExcludeEachOther
members_exclude_each_other_lem p q event V formed kernel no_loop state width solves n l j g h e =
    keys_tell_apart_lem p q event V formed kernel no_loop state width solves n l j g h (one_key (body_sharing p.body) n l j e)
