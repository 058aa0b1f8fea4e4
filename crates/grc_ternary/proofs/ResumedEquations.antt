-- The equations of the instances of a resumed statement, and of what it starts at roots of its own, met by new statuses
-- under old ones, are what the new ones follow from.
use Rattle.std.proofs.Common.{◌≡◌, ℕ, ◌+◌, ◌≤◌, Bool, true, false, not, ◌&&◌, ◌||◌, ◌==◌, cond, List, [], ◌∷◌, ◌++◌, inl, inr, ⊎_elim}
use Rattle.std.proofs.Common.{refl, sym, ap, ◌∙◌, arith}
use Rattle.std.proofs.lemmas.Bool.{eq-eqb, and_parts, or_cases, or_left, or_right, ne_eqb, both_ways, false_from_ne_true}
use Rattle.est_kernel.specs.Terms.{Term, Nothing, Pause, Emit, Exit, Present, Suspend, Seq, Loop, Par, Trap, Local, Awake}
use Rattle.est_kernel.specs.Statuses.{Status, Minus, Environment, with_status, known, opposite, conjunction, disjunction}
use Rattle.est_kernel.specs.Preorder.{statement_count}
use Rattle.est_kernel.specs.StaticCodes.{codes_if, has_code, started_codes, resumed_codes, branch_codes, instant_loops, NoInstantLoop}
use Rattle.est_kernel.proofs.Exports.{except-parts, upto-in, upto-parts, lowered-parts, statement_count-some}
use Rattle.base_types.specs.Codes.{except, either, lowered, maxima}
use Rattle.grc_graph.specs.Layers.{Layer, Resumed, Started, Liveness, part_liveness, second_liveness, loop_liveness, can_pass}
use Rattle.grc_graph.specs.Scopes.{Scope, bind}
use Rattle.grc_graph.specs.Wires.{Go, StatusOf, End}
use Rattle.grc_graph.specs.Formulas.{Formula, Value, Conjunction, any_of}
use Rattle.grc_graph.specs.Spots.{Spot, part_entry, test_formula}
use Rattle.grc_graph.specs.Equations.{part_end}
use Rattle.grc_graph.specs.Residuals.{holds}
use Rattle.grc_graph.specs.Walk.{State, Values}
use Rattle.grc_graph.specs.Readings.{state_holds_at}
use Rattle.grc_graph.specs.Selected.{HasExitCodes, IsSelected}
use Rattle.grc_graph.proofs.Exports.{Agrees, only_agrees, first_agrees, second_agrees}
use Rattle.grc_solutions.proofs.Exports.{EachStarted, EachResumed, Root, Above, above_more, above_bind}
use Rattle.grc_solutions_laws.proofs.Exports.{no_loops-left, no_loops-right, loop_body, resumed_live, resumed_any, emission, whole_only, whole_first}
use Rattle.grc_solutions_laws.proofs.Exports.{whole_second}
use Rattle.grc_solutions_laws.proofs.Exports.{local_own, resumed_emissions, head_started, head_resumed, own_fresh, own_shows, code_lives, Finds, finds_only}
use Rattle.grc_solutions_laws.proofs.Exports.{finds_first}
use Rattle.grc_solutions_laws.proofs.Exports.{finds_second, finds_self, low_second, root_own}
use Rattle.grc_ternary.proofs.Scoped.{InScope}
use Rattle.est_ternary.specs.TriWalks.{where_met}
use Rattle.est_ternary.specs.Laws.{sure, possible}
use Rattle.est_ternary.proofs.Exports.{IsRail, sure_rail, possible_rail, same_rails}
use Rattle.grc_ternary.specs.LeastSolutions.{Statuses}
use Rattle.grc_ternary.proofs.Formulas.{or_all, if_meaning, part_meaning, or_append, two_meaning, test_meaning, SeesStatuses, sees_more, sees_root}
use Rattle.grc_ternary.proofs.Formulas.{rail_emissions}
use Rattle.grc_ternary.proofs.ResumedWalks.{part_go, part_off}
use Rattle.grc_ternary.proofs.StartedPlaces.{ends, Follows}
use Rattle.grc_ternary.proofs.ResumedPlaces.{resumed_emits, FollowsResumed}
use Rattle.grc_ternary.proofs.Quiet.{on_part, off_part}
use Rattle.grc_ternary.proofs.Quiet.{AllMinus, Quiet, OffLayers, DeepQuiet, LowRoots, has_root}
use Rattle.grc_ternary.proofs.Quiet.{start_quiet, deep_quiet, own_root_off, own_loop_off}
use Rattle.grc_ternary.proofs.Emitted.{resumed_emitted}
use Rattle.grc_ternary.proofs.Ends.{Dead, choice_ends, only_ends, awake_ends, resumed_sequence_ends, resumed_loop_ends}
use Rattle.grc_ternary.proofs.Parallels.{parallel_value, parallel_follows}
use Rattle.grc_ternary.proofs.StartedEquations.{quiet_follows, StatusNext, Next, WholeRails, value_of, one_part, two_parts}
use Rattle.grc_ternary.proofs.StartedEquations.{trap_value, at_zero}
use Rattle.grc_ternary.proofs.StartedEquations.{follows_started}
use Rattle.grc_ternary.proofs.QuietEquations.{deep_follows}

-- ---- a part is live with the whole

code_in : (A : ℕ → Bool) → has_code A ≡ true → (j : ℕ) × (j ≤ 63) × (A j ≡ true)
code_in A h = upto-parts A 63 h

pub suspend_lives : (A : ℕ → Bool) → has_code (either A (codes_if (has_code A) (λ k. k == 1))) ≡ true → has_code A ≡ true
suspend_lives A h =
    let c = code_in (either A (codes_if (has_code A) (λ k. k == 1))) h in
    ⊎_elim (λ x. upto-in A c.0 63 x c.1) (λ x. (and_parts (has_code A) (c.0 == 1) x).0) (or_cases (A c.0) (has_code A && c.0 == 1) c.2)

pub loop_lives : (p : Term) → HasExitCodes p → has_code (resumed_codes (Loop (record { start = 0; end = 0 }) p)) ≡ true → has_code (resumed_codes p) ≡ true
loop_lives p k h =
    let c = code_in (resumed_codes (Loop (record { start = 0; end = 0 }) p)) h in
    ⊎_elim
    (λ x. code_lives p k c.0 (except-parts (resumed_codes p) 0 c.0 x).0)
    (λ x. code_lives p k 0 (and_parts (resumed_codes p 0) _ x).0)
    (or_cases (except 0 (resumed_codes p) c.0) _ c.2)

pub trap_lives : (p : Term) → HasExitCodes p → has_code (lowered (resumed_codes p)) ≡ true → has_code (resumed_codes p) ≡ true
trap_lives p k h =
    let c = code_in (lowered (resumed_codes p)) h in
    let j = lowered-parts (resumed_codes p) c.0 c.2 in
    code_lives p k j.0 j.1

pub parallel_lives : (b : Bool) (A : ℕ → Bool) → has_code (codes_if b A) ≡ true → b ≡ true
parallel_lives b A h = let c = code_in (codes_if b A) h in (and_parts b (A c.0) c.2).0

-- ---- roots that stand above a statement

pub low_roots : (rs : List ℕ) (n : ℕ) → ((r : ℕ) → Root r rs → r ≤ n) → LowRoots rs n
low_roots [] n f x i = refl
low_roots (r ∷ rs) n f x i =
    let l = f r (inl refl) in
    ap (λ b. b || has_root x rs) (ne_eqb x r (λ e. omega arith)) ∙ low_roots rs n (λ y j. f y (inr j)) x i

-- a condition that fails for the whole guard
dead_pass : (pass hc d : Bool) (v : Status) → ((pass && hc) ≡ true → Dead d v) → ((pass && hc) ≡ false → v ≡ Minus) → Dead (pass && d) v
dead_pass true true d v f g e = f refl e
dead_pass true false d v f g e = g refl
dead_pass false hc d v f g e = g refl

dead_part : (gd d : Bool) (v : Status) → (gd ≡ true → Dead d v) → (gd ≡ false → v ≡ Minus) → Dead d v
dead_part true d v f g = f refl
dead_part false d v f g = λ e. g refl

either_way : {X : Type 0} (b : Bool) → (b ≡ true → X) → (b ≡ false → X) → X
either_way true f g = f refl
either_way false f g = g refl

module _ (body : Term) (q : State) (given : Values) (W U : Statuses) (all : List Spot) (L : ℕ → List Layer) (offW : OffLayers L W) (offU : OffLayers L U)
    (S : ℕ → Bool) where
  abbrev picks : ℕ → Bool
  picks m = state_holds_at q body m

  abbrev N : Spot → Type 0
  N = Next body q given W U all

  status_rail : (f : Status → Bool) → IsRail f → (a : Liveness) (x : ℕ) (p : Term) (B : Scope) (g : Layer → Formula) (n : ℕ) → Agrees L a (Local x p) n →
      a.resumed ≡ true → ((r : ℕ) → Root r a.roots → r ≤ n) → has_code (resumed_codes p) ≡ true → HasExitCodes p → Above B n →
      WholeRails U all L B g (Local x p) n → StatusNext body q given W U all (Local x p) n Resumed →
      f (W (StatusOf n Resumed)) ≡ f (resumed_emits U p (n + 1) x)
  status_rail f rail a x p B g n ag i low live k ab w e =
      let b = part_liveness a p in
      let agp = only_agrees L a b (Local x p) p n refl (λ j. refl) ag in
      let on : b.resumed ≡ true = ap (λ z. z && has_code (resumed_codes p)) i ∙ live in
      ap f e
      ∙ rail_emissions body q given U f rail (StatusOf n Resumed) all
      ∙ local_own (λ u. f (U u)) all L x p B g n Resumed (w f)
      ∙ resumed_emissions (λ u. f (U u)) all L b x p B (part_entry n) n k ab agp low
      ∙ ap (λ z. z && resumed_any (emission (λ u. f (U u)) (StatusOf n Resumed)) (bind B x n) (part_entry n) p (n + 1)) on
      ∙ resumed_emitted f rail L U offU (StatusOf n Resumed) x true p (bind B x n) (part_entry n) (n + 1) b agp on
      (low_roots a.roots (n + 1) (λ r j. let l = low r j in omega arith)) live k (own_fresh n Resumed) (above_bind B n x ab)
      (own_shows B n x Resumed Resumed true ab refl)

  status_resumed : (a : Liveness) (x : ℕ) (p : Term) (B : Scope) (g : Layer → Formula) (n : ℕ) → Agrees L a (Local x p) n → a.resumed ≡ true →
      ((r : ℕ) → Root r a.roots → r ≤ n) → has_code (resumed_codes p) ≡ true → HasExitCodes p → Above B n →
      WholeRails U all L B g (Local x p) n → StatusNext body q given W U all (Local x p) n Resumed →
      W (StatusOf n Resumed) ≡ resumed_emits U p (n + 1) x
  status_resumed a x p B g n ag i low live k ab w e =
      same_rails _ _ (status_rail sure sure_rail a x p B g n ag i low live k ab w e) (status_rail possible possible_rail a x p B g n ag i low live k ab w e)

  -- a part that is resumed with the whole only where it holds a selected pause, and has an instance where gd says so
  module _ (n c : ℕ) (p : Term) (b : Liveness) (gd : Bool) (B : Scope) (g : Layer → Formula) (nl : NoInstantLoop p) (k : HasExitCodes p)
      (ag : Agrees L b p c) (off : gd ≡ false → b.resumed ≡ false) (low : LowRoots b.roots c) (each : gd ≡ true → EachResumed N B g p c)
      (lives : holds S p c ≡ true → gd ≡ true) (found : picks c ≡ holds S p c) where
    deepW : gd ≡ false → DeepQuiet W c (statement_count p)
    deepW z = deep_quiet L W offW b p c ag (off z) low

    deepU : gd ≡ false → DeepQuiet U c (statement_count p)
    deepU z = deep_quiet L U offU b p c ag (off z) low

    at_head : (T : Statuses) → DeepQuiet T c (statement_count p) → AllMinus T c Resumed
    at_head T d = d.resumed.at c (omega arith) (omega (arith, statement_count-some p))

    part_entered : (gd ≡ true → W (Go c Resumed) ≡ conjunction (U (Go n Resumed)) (known (picks c))) → W (Go c Resumed) ≡ part_go (U (Go n Resumed)) S p c
    part_entered f =
        either_way gd
        (λ z. f z ∙ ap (λ h. conjunction (U (Go n Resumed)) (known h)) found)
        (λ z. (at_head W (deepW z)).0 ∙ sym (part_off (U (Go n Resumed)) S p c (false_from_ne_true (holds S p c) (λ h. both_ways gd z (lives h)))))

    part_ends_at : (d : Bool) (j : ℕ) → (gd ≡ true → Dead d (U (End c Resumed j))) → Dead d (U (End c Resumed j))
    part_ends_at d j f = dead_part gd d (U (End c Resumed j)) f (λ z. (at_head U (deepU z)).2 j)

    part_dead : (j : ℕ) → Dead (resumed_codes p j) (U (End c Resumed j))
    part_dead j = part_ends_at (resumed_codes p j) j (λ z. (head_resumed N B g p c k (each z)).dead j)

    part_follows : (E : Environment) → (gd ≡ true → FollowsResumed W U S p c E) → FollowsResumed W U S p c E
    part_follows E f = either_way gd f (λ z. deep_follows W U S p c E k (deepW z) (deepU z))

  -- what is started at a root of its own, where the resumed first part can end
  module _ (c m : ℕ) (p : Term) (b : Liveness) (gd : Bool) (E : Environment) (B : Scope) (g : Layer → Formula) (k : HasExitCodes p)
      (ag : Agrees L b p m) (rootless : gd ≡ false → has_root m b.roots ≡ false) (each : gd ≡ true → EachStarted N B g p m (Started m)) where
    quietW : gd ≡ false → Quiet W (Started m) m (statement_count p)
    quietW z = start_quiet L W offW m b p m ag (rootless z) (λ i. omega arith)

    quietU : gd ≡ false → Quiet U (Started m) m (statement_count p)
    quietU z = start_quiet L U offU m b p m ag (rootless z) (λ i. omega arith)

    own_entered : Dead gd (ends U c Resumed 0) → (gd ≡ true → W (Go m (Started m)) ≡ ends U c Resumed 0) → W (Go m (Started m)) ≡ ends U c Resumed 0
    own_entered d f = either_way gd f (λ z. ((quietW z).at m (omega arith) (omega (arith, statement_count-some p))).0 ∙ sym (d z))

    own_dead : (j : ℕ) → Dead (gd && started_codes p j) (U (End m (Started m) j))
    own_dead j =
        dead_own gd (started_codes p j) (U (End m (Started m) j)) (λ z. (head_started N B g p m (Started m) k (each z)).dead j)
        (λ z. ((quietU z).at m (omega arith) (omega (arith, statement_count-some p))).2 j)
      where
        dead_own : (c d : Bool) (v : Status) → (c ≡ true → Dead d v) → (c ≡ false → v ≡ Minus) → Dead (c && d) v
        dead_own true d v f g e = f refl e
        dead_own false d v f g e = g refl

    own_follows : (gd ≡ true → Follows W U p m (Started m) E) → Follows W U p m (Started m) E
    own_follows f = either_way gd f (λ z. quiet_follows W U p m (Started m) E k (quietW z) (quietU z))

  three_parts : (A C D : ℕ → Bool) (c d e : ℕ) (l j i : Layer) (k : ℕ) →
      value_of body q given W U all (any_of (part_end A c l k ++ (part_end C d j k ++ part_end D e i k)))
      ≡ disjunction (where_met (A k) (U (End c l k))) (disjunction (where_met (C k) (U (End d j k))) (where_met (D k) (U (End e i k))))
  three_parts A C D c d e l j i k =
      two_meaning body q given U (part_end A c l k) (part_end C d j k ++ part_end D e i k)
      ∙ ap (λ v. disjunction v (or_all body q given U (part_end C d j k ++ part_end D e i k))) (part_meaning body q given U A c l k)
      ∙ ap (λ v. disjunction (where_met (A k) (U (End c l k))) v)
      (or_append body q given U (part_end C d j k) (part_end D e i k)
      ∙ ap (λ v. disjunction v (or_all body q given U (part_end D e i k))) (part_meaning body q given U C d j k)
      ∙ ap (λ v. disjunction (where_met (C k) (U (End d j k))) v) (part_meaning body q given U D e i k))

  -- the entry of a second part, and of a loop's body, at its own root
  own_second : (n m : ℕ) → U (End (n + 1) (cond (m == m) Resumed (Started m)) 0) ≡ ends U (n + 1) Resumed 0
  own_second n m = ap (λ c. U (End (n + 1) (cond c Resumed (Started m)) 0)) (eq-eqb m m refl)

  own_loop : (n : ℕ) → U (cond ((n + 1) == (n + 1)) (End (n + 1) Resumed 0) (Go n (Started (n + 1)))) ≡ ends U (n + 1) Resumed 0
  own_loop n = ap (λ c. U (cond c (End (n + 1) Resumed 0) (Go n (Started (n + 1))))) (eq-eqb (n + 1) (n + 1) refl)

  -- what follows of a part that is resumed with the whole
  record PartNext (n c : ℕ) (p : Term) (gd : Bool) (E : Environment) : Type 0 where
    entered : W (Go c Resumed) ≡ part_go (U (Go n Resumed)) S p c
    dead : (j : ℕ) → Dead (resumed_codes p j) (U (End c Resumed j))
    quiet : gd ≡ false → (j : ℕ) → U (End c Resumed j) ≡ Minus
    follows : FollowsResumed W U S p c E

  part_next : (n c : ℕ) (p : Term) (b : Liveness) (gd : Bool) (E : Environment) (B : Scope) (g : Layer → Formula) → NoInstantLoop p → HasExitCodes p →
      Agrees L b p c → (gd ≡ false → b.resumed ≡ false) → LowRoots b.roots c → (gd ≡ true → EachResumed N B g p c) → (holds S p c ≡ true → gd ≡ true) →
      picks c ≡ holds S p c → (gd ≡ true → W (Go c Resumed) ≡ conjunction (U (Go n Resumed)) (known (picks c))) →
      (gd ≡ true → FollowsResumed W U S p c E) → PartNext n c p gd E
  part_next n c p b gd E B g nl k ag off low each lives found f h = record {
    entered = part_entered n c p b gd B g nl k ag off low each lives found f;
    dead = part_dead n c p b gd B g nl k ag off low each lives found;
    quiet = λ z j. ((deepU n c p b gd B g nl k ag off low each lives found z).resumed.at c (omega arith) (omega (arith, statement_count-some p))).2 j;
    follows = part_follows n c p b gd B g nl k ag off low each lives found E h;
  }

  -- what follows of a part at its own root
  record OwnNext (c m : ℕ) (p : Term) (gd : Bool) (E : Environment) : Type 0 where
    entered : W (Go m (Started m)) ≡ ends U c Resumed 0
    dead : (j : ℕ) → Dead (gd && started_codes p j) (U (End m (Started m) j))
    follows : Follows W U p m (Started m) E

  own_next : (c m : ℕ) (p : Term) (b : Liveness) (gd : Bool) (E : Environment) (B : Scope) (g : Layer → Formula) → HasExitCodes p → Agrees L b p m →
      (gd ≡ false → has_root m b.roots ≡ false) → (gd ≡ true → EachStarted N B g p m (Started m)) → Dead gd (ends U c Resumed 0) →
      (gd ≡ true → W (Go m (Started m)) ≡ ends U c Resumed 0) → (gd ≡ true → Follows W U p m (Started m) E) → OwnNext c m p gd E
  own_next c m p b gd E B g k ag rootless each d f h = record {
    entered = own_entered c m p b gd E B g k ag rootless each d f;
    dead = own_dead c m p b gd E B g k ag rootless each;
    follows = own_follows c m p b gd E B g k ag rootless each h;
  }

  abbrev Sel : Term → ℕ → Type 0
  Sel t n = holds S t n ≡ true → IsSelected S t n

  -- roots of a part
  more : (rs : List ℕ) (n m : ℕ) → n ≤ m → ((r : ℕ) → Root r rs → r ≤ n) → (r : ℕ) → Root r rs → r ≤ m
  more rs n m l f r i = let j = f r i in omega arith

  pub follows_resumed : (a : Liveness) (t : Term) (B : Scope) (g : Layer → Formula) (n : ℕ) (E : Environment) → Agrees L a t n → a.resumed ≡ true →
      ((r : ℕ) → Root r a.roots → r ≤ n) → has_code (resumed_codes t) ≡ true → NoInstantLoop t → HasExitCodes t → InScope B t → Above B n →
      WholeRails U all L B g t n → EachResumed N B g t n → SeesStatuses body q given U B Resumed E → Sel t n → Finds picks S t n → FollowsResumed W U S t n E
  follows_resumed a (Present e p p2) B g n E ag i low live nl k sc ab w x s sel o =
      let m = n + 1 + statement_count p in
      let t = Present e p p2 in
      let b = part_liveness a p in
      let d = part_liveness a p2 in
      let agp = first_agrees L a b d t p p2 n refl (λ j. refl) ag in
      let agq = second_agrees L a b d t p p2 n refl (λ j. refl) ag in
      let np = no_loops-left (instant_loops p) (instant_loops p2) nl in
      let nq = no_loops-right (instant_loops p) (instant_loops p2) nl in
      let op = finds_first picks S t p p2 n refl (λ j. refl) o in
      let oq = finds_second picks S t p p2 n refl (λ j. refl) o in
      let selp : Sel p (n + 1) = λ h. (sel (or_left _ _ h)).1 h in
      let selq : Sel p2 m = λ h. (sel (or_right (holds S p (n + 1)) _ h)).2 h in
      let lowp = more a.roots n (n + 1) (omega arith) low in
      let lowq = more a.roots n m (omega arith) low in
      let first = part_next n (n + 1) p b (has_code (resumed_codes p)) E B _ np k.0 agp (off_part a _) (low_roots a.roots (n + 1) lowp) x.1
      (λ h. resumed_live S p (n + 1) np k.0 h (selp h)) (finds_self picks S p (n + 1) op) (λ z. (head_resumed N B _ p (n + 1) k.0 (x.1 z)).go)
      (λ z. follows_resumed b p B _ (n + 1) E agp (on_part a _ i z) lowp z np k.0 sc.1 (above_more B n (n + 1) (omega arith) ab)
      (λ f. whole_first (λ u. f (U u)) L all B g _ _ t p p2 n ab refl refl (λ j y z2. refl) (w f)) (x.1 z) s selp op) in
      let second = part_next n m p2 d (has_code (resumed_codes p2)) E B _ nq k.1 agq (off_part a _) (low_roots a.roots m lowq) x.2
      (λ h. resumed_live S p2 m nq k.1 h (selq h)) (finds_self picks S p2 m oq) (λ z. (head_resumed N B _ p2 m k.1 (x.2 z)).go)
      (λ z. follows_resumed d p2 B _ m E agq (on_part a _ i z) lowq z nq k.1 sc.2 (above_more B n m (omega arith) ab)
      (λ f. whole_second (λ u. f (U u)) L all B g _ _ t p p2 n ab refl refl (λ j y z2. refl) (w f)) (x.2 z) s selq oq) in (
        first.entered,
        second.entered,
        (λ c. x.0.ends c
            ∙ ap (λ v. where_met (resumed_codes p c || resumed_codes p2 c) v)
            (two_parts body q given W U all (resumed_codes p) (resumed_codes p2) (n + 1) m Resumed Resumed c)
            ∙ choice_ends (resumed_codes p c) (resumed_codes p2 c) _ _ (first.dead c) (second.dead c)),
        first.follows,
        second.follows,
      )
  follows_resumed a (Suspend e p) B g n E ag i low live nl k sc ab w x s sel o =
      let b = part_liveness a p in
      let agp = only_agrees L a b (Suspend e p) p n refl (λ j. refl) ag in
      let on = suspend_lives (resumed_codes p) live in
      let op = finds_only picks S (Suspend e p) p n refl (λ j. refl) o in
      let hp = head_resumed N B _ p (n + 1) k (x.1 on) in
      let test = test_meaning body q given U B e Resumed E s sc.0 in (
        hp.go ∙ ap (λ v. conjunction (U (Go n Resumed)) (opposite v)) test,
        (λ c. x.0.ends c
            ∙ ap (λ v. where_met (resumed_codes p c || (has_code (resumed_codes p) && c == 1)) v)
            (two_meaning body q given U (part_end (resumed_codes p) (n + 1) Resumed c)
            (cond (c == 1) (Conjunction (Value (Go n Resumed)) (test_formula B e Resumed) ∷ []) [])
            ∙ ap (λ v. disjunction v (or_all body q given U (cond (c == 1) (Conjunction (Value (Go n Resumed)) (test_formula B e Resumed) ∷ []) [])))
            (part_meaning body q given U (resumed_codes p) (n + 1) Resumed c)
            ∙ ap (λ v. disjunction (where_met (resumed_codes p c) (U (End (n + 1) Resumed c))) v)
            (if_meaning body q given U (c == 1) (Conjunction (Value (Go n Resumed)) (test_formula B e Resumed))
            ∙ ap (λ v. where_met (c == 1) (conjunction (U (Go n Resumed)) v)) test))
            ∙ awake_ends (resumed_codes p c) (has_code (resumed_codes p)) (c == 1) _ _ (hp.dead c) on),
        follows_resumed b p B _ (n + 1) E agp (on_part a _ i on) (more a.roots n (n + 1) (omega arith) low) on nl k sc.1
            (above_more B n (n + 1) (omega arith) ab)
            (λ f. whole_only (λ u. f (U u)) L all B B g _ (Suspend e p) p n refl refl (λ j y z2. refl) (w f)) (x.1 on) s sel op,
      )
  follows_resumed a (Seq p p2) B g n E ag i low live nl k sc ab w x s sel o =
      let m = n + 1 + statement_count p in
      let t = Seq p p2 in
      let b = part_liveness a p in
      let d = second_liveness a p p2 m in
      let agp = first_agrees L a b d t p p2 n refl (λ j. refl) ag in
      let agq = second_agrees L a b d t p p2 n refl (λ j. refl) ag in
      let np = no_loops-left (instant_loops p) (instant_loops p2) nl in
      let nq = no_loops-right (instant_loops p) (instant_loops p2) nl in
      let op = finds_first picks S t p p2 n refl (λ j. refl) o in
      let oq = finds_second picks S t p p2 n refl (λ j. refl) o in
      let selp : Sel p (n + 1) = λ h. (sel (or_left _ _ h)).1 h in
      let selq : Sel p2 m = λ h. ((sel (or_right (holds S p (n + 1)) _ h)).2 h).1 in
      let lowp = more a.roots n (n + 1) (omega arith) low in
      let lowq = low_second (started_codes p 0) (a.resumed && resumed_codes p 0) a.roots n m (omega arith) low in
      let gq = can_pass p && has_code (resumed_codes p2) in
      let am = above_more B n m (omega arith) ab in
      let first = part_next n (n + 1) p b (has_code (resumed_codes p)) E B _ np k.0 agp (off_part a _) (low_roots a.roots (n + 1) lowp) x.1
      (λ h. resumed_live S p (n + 1) np k.0 h (selp h)) (finds_self picks S p (n + 1) op) (λ z. (head_resumed N B _ p (n + 1) k.0 (x.1 z)).go)
      (λ z. follows_resumed b p B _ (n + 1) E agp (on_part a _ i z) lowp z np k.0 sc.0 (above_more B n (n + 1) (omega arith) ab)
      (λ f. whole_first (λ u. f (U u)) L all B g _ _ t p p2 n ab refl refl (λ j y z2. refl) (w f)) (x.1 z) s selp op) in
      let second = part_next n m p2 d gq E B _ nq k.1 agq (off_part a _) (low_roots d.roots m lowq) x.2
      (λ h. let u = (sel (or_right (holds S p (n + 1)) _ h)).2 h in ap (λ c. c && has_code (resumed_codes p2)) u.0 ∙ resumed_live S p2 m nq k.1 h u.1)
      (finds_self picks S p2 m oq) (λ z. (head_resumed N B _ p2 m k.1 (x.2 z)).go)
      (λ z. follows_resumed d p2 B _ m E agq (on_part a _ i z) lowq (and_parts (can_pass p) _ z).1 nq k.1 sc.1 am
      (λ f. whole_second (λ u. f (U u)) L all B g _ _ t p p2 n ab refl refl (λ j y z2. refl) (w f)) (x.2 z) s selq oq) in
      let own = own_next (n + 1) m p2 d (resumed_codes p 0) E B _ k.1 agq
      (λ z. own_root_off n m a p p2 (low_roots a.roots n low m (omega arith)) (off_part a _ z)) x.3 (first.dead 0)
      (λ z. (head_started N B _ p2 m (Started m) k.1 (x.3 z)).go ∙ own_second n m)
      (λ z. follows_started body q given W U all L offW offU d p2 B _ m m E agq
      (root_own m (a.resumed && resumed_codes p 0) (cond (started_codes p 0) a.roots []) (on_part a _ i z)) (omega arith) nq k.1 sc.1 am
      (λ f. whole_second (λ u. f (U u)) L all B g _ _ t p p2 n ab refl refl (λ j y z2. refl) (w f)) (x.3 z) (sees_root body q given U B m E am s)) in (
        first.entered,
        second.entered,
        own.entered,
        (λ c. x.0.ends c
            ∙ ap (λ v. where_met ((resumed_codes p c && not (c == 0)) || ((resumed_codes p 0 && started_codes p2 c) || (can_pass p && resumed_codes p2 c))) v)
            (three_parts (except 0 (resumed_codes p)) (codes_if (can_pass p) (resumed_codes p2)) (codes_if (resumed_codes p 0) (started_codes p2))
            (n + 1) m m Resumed Resumed (Started m) c)
            ∙ resumed_sequence_ends (resumed_codes p 0) (resumed_codes p c) (started_codes p2 c) (can_pass p) (resumed_codes p2 c) (c == 0) _ _ _
            (first.dead c) (own.dead c)
            (dead_pass (can_pass p) (has_code (resumed_codes p2)) (resumed_codes p2 c) _ (λ z. second.dead c) (λ z. second.quiet z c))),
        first.follows,
        second.follows,
        own.follows,
      )
  follows_resumed a (Loop at p) B g n E ag i low live nl k sc ab w x s sel o =
      let b = loop_liveness a p (n + 1) in
      let agp = only_agrees L a b (Loop at p) p n refl (λ j. refl) ag in
      let parts = loop_body at p nl in
      let on = loop_lives p k live in
      let op = finds_only picks S (Loop at p) p n refl (λ j. refl) o in
      let lowp = low_second true (a.resumed && resumed_codes p 0) a.roots n (n + 1) (omega arith) low in
      let am = above_more B n (n + 1) (omega arith) ab in
      let hp = head_resumed N B _ p (n + 1) k (x.1 on) in
      let whole = λ (f : Status → Bool). whole_only (λ u. f (U u)) L all B B g _ (Loop at p) p n refl refl (λ j y z2. refl) (w f) in
      let own = own_next (n + 1) (n + 1) p b (resumed_codes p 0) E B _ k agp
      (λ z. own_loop_off n a p (low_roots a.roots n low (n + 1) (omega arith)) (off_part a _ z)) x.2 (hp.dead 0)
      (λ z. (head_started N B _ p (n + 1) (Started (n + 1)) k (x.2 z)).go ∙ own_loop n)
      (λ z. follows_started body q given W U all L offW offU b p B _ (n + 1) (n + 1) E agp
      (root_own (n + 1) (a.resumed && resumed_codes p 0) a.roots (on_part a _ i z)) (omega arith) parts.1 k sc am whole (x.2 z)
      (sees_root body q given U B (n + 1) E am s)) in (
        hp.go,
        own.entered,
        (λ c. x.0.ends c
            ∙ ap (λ v. where_met ((resumed_codes p c && not (c == 0)) || (resumed_codes p 0 && (started_codes p c && not (c == 0)))) v)
            (two_parts body q given W U all (except 0 (resumed_codes p)) (codes_if (resumed_codes p 0) (except 0 (started_codes p)))
            (n + 1) (n + 1) Resumed (Started (n + 1)) c)
            ∙ resumed_loop_ends (resumed_codes p 0) (resumed_codes p c) (started_codes p c) (c == 0) _ _
            (λ z. at_zero (started_codes p) c z ∙ parts.0) (hp.dead c) (own.dead c)),
        follows_resumed b p B _ (n + 1) E agp (on_part a _ i on) lowp on parts.1 k sc am whole (x.1 on) s sel op,
        own.follows,
      )
  follows_resumed a (Par p p2) B g n E ag i low live nl k sc ab w x s sel o =
      let m = n + 1 + statement_count p in
      let t = Par p p2 in
      let b = part_liveness a p in
      let d = part_liveness a p2 in
      let agp = first_agrees L a b d t p p2 n refl (λ j. refl) ag in
      let agq = second_agrees L a b d t p p2 n refl (λ j. refl) ag in
      let np = no_loops-left (instant_loops p) (instant_loops p2) nl in
      let nq = no_loops-right (instant_loops p) (instant_loops p2) nl in
      let op = finds_first picks S t p p2 n refl (λ j. refl) o in
      let oq = finds_second picks S t p p2 n refl (λ j. refl) o in
      let selp : Sel p (n + 1) = λ h. (sel (or_left _ _ h)).2 h in
      let selq : Sel p2 m = λ h. (sel (or_right (holds S p (n + 1)) _ h)).3 h in
      let lowp = more a.roots n (n + 1) (omega arith) low in
      let lowq = more a.roots n m (omega arith) low in
      let livep = λ (h : holds S p (n + 1) ≡ true). resumed_live S p (n + 1) np k.0 h (selp h) in
      let liveq = λ (h : holds S p2 m ≡ true). resumed_live S p2 m nq k.1 h (selq h) in
      let fp = finds_self picks S p (n + 1) op in
      let fq = finds_self picks S p2 m oq in
      let first = part_next n (n + 1) p b (has_code (resumed_codes p)) E B _ np k.0 agp (off_part a _) (low_roots a.roots (n + 1) lowp) x.1
      livep fp (λ z. (head_resumed N B _ p (n + 1) k.0 (x.1 z)).go)
      (λ z. follows_resumed b p B _ (n + 1) E agp (on_part a _ i z) lowp z np k.0 sc.0 (above_more B n (n + 1) (omega arith) ab)
      (λ f. whole_first (λ u. f (U u)) L all B g _ _ t p p2 n ab refl refl (λ j y z2. refl) (w f)) (x.1 z) s selp op) in
      let second = part_next n m p2 d (has_code (resumed_codes p2)) E B _ nq k.1 agq (off_part a _) (low_roots a.roots m lowq) x.2
      liveq fq (λ z. (head_resumed N B _ p2 m k.1 (x.2 z)).go)
      (λ z. follows_resumed d p2 B _ m E agq (on_part a _ i z) lowq z nq k.1 sc.1 (above_more B n m (omega arith) ab)
      (λ f. whole_second (λ u. f (U u)) L all B g _ _ t p p2 n ab refl refl (λ j y z2. refl) (w f)) (x.2 z) s selq oq) in (
        first.entered,
        second.entered,
        (λ c. parallel_follows W U n (n + 1) m c (holds S p (n + 1)) (holds S p2 m) (has_code (resumed_codes p) || has_code (resumed_codes p2))
            (started_codes p) (resumed_codes p) (started_codes p2) (resumed_codes p2)
            (parallel_lives (has_code (resumed_codes p) || has_code (resumed_codes p2))
            (maxima (branch_codes (started_codes p) (resumed_codes p)) (branch_codes (started_codes p2) (resumed_codes p2))) live)
            (x.0.ends c
            ∙ ap (λ v. where_met ((has_code (resumed_codes p) || has_code (resumed_codes p2))
            && maxima (branch_codes (started_codes p) (resumed_codes p)) (branch_codes (started_codes p2) (resumed_codes p2)) c) v)
            (parallel_value body q given U (resumed_codes p) (resumed_codes p2) n (n + 1) m c (holds S p (n + 1)) (holds S p2 m) fp fq livep liveq
            (first.dead c) (second.dead c)))
            (λ h. let u = sel h in (
              (λ z. sym (ap (λ b. b || can_pass p) z) ∙ u.0),
              (λ z. sym (ap (λ b. b || can_pass p2) z) ∙ u.1),
            ))
            first.dead second.dead),
        first.follows,
        second.follows,
      )
  follows_resumed a (Trap p) B g n E ag i low live nl k sc ab w x s sel o =
      let b = part_liveness a p in
      let agp = only_agrees L a b (Trap p) p n refl (λ j. refl) ag in
      let on = trap_lives p k live in
      let op = finds_only picks S (Trap p) p n refl (λ j. refl) o in
      let hp = head_resumed N B _ p (n + 1) k (x.1 on) in (
        hp.go,
        (λ c. x.0.ends c ∙ trap_value body q given W U all (resumed_codes p) (n + 1) Resumed hp.dead c),
        follows_resumed b p B _ (n + 1) E agp (on_part a _ i on) (more a.roots n (n + 1) (omega arith) low) on nl k sc
            (above_more B n (n + 1) (omega arith) ab)
            (λ f. whole_only (λ u. f (U u)) L all B B g _ (Trap p) p n refl refl (λ j y z2. refl) (w f)) (x.1 on) s sel op,
      )
  follows_resumed a (Local z p) B g n E ag i low live nl k sc ab w x s sel o =
      let b = part_liveness a p in
      let agp = only_agrees L a b (Local z p) p n refl (λ j. refl) ag in
      let op = finds_only picks S (Local z p) p n refl (λ j. refl) o in
      let hp = head_resumed N (bind B z n) _ p (n + 1) k (x.1 live) in (
        hp.go,
        (λ c. x.0.ends c ∙ ap (λ v. where_met (resumed_codes p c) v) (one_part body q given W U all (resumed_codes p) (n + 1) Resumed c)
            ∙ only_ends (resumed_codes p c) _ (hp.dead c)),
        status_resumed a z p B g n ag i low live k ab w x.0.status,
        follows_resumed b p (bind B z n) _ (n + 1) (with_status E z (U (StatusOf n Resumed))) agp (on_part a _ i live)
            (more a.roots n (n + 1) (omega arith) low) live nl k (sc n) (above_bind B n z ab)
            (λ f. whole_only (λ u. f (U u)) L all B (bind B z n) g _ (Local z p) p n refl refl (λ j y z2. refl) (w f)) (x.1 live)
            (sees_more body q given U B n z Resumed E refl s) sel op,
      )
  follows_resumed a (Awake e p) B g n E ag i low live nl k sc ab w x s sel o = absurd k
  follows_resumed a _ B g n E ag i low live nl k sc ab w x s sel o = x.ends
