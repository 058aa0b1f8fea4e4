-- The equations of the instances of a started statement, met by new statuses under old ones, are what the new ones
-- follow from.
use Rattle.std.proofs.Common.{◌≡◌, ℕ, zero, suc, ◌+◌, ◌<◌, ◌≤◌, Bool, true, false, not, ◌&&◌, ◌||◌, ◌==◌, cond, List, [], ◌++◌, refl, sym, ap, ◌∙◌, arith}
use Rattle.std.proofs.lemmas.Bool.{eqb-true, ne_eqb}
use mathlib.Core.Path.{fun_ext}
use Rattle.est_kernel.specs.Terms.{Term, Nothing, Pause, Emit, Exit, Present, Suspend, Seq, Loop, Par, Trap, Local, Awake}
use Rattle.est_kernel.specs.Statuses.{Status, Minus, Environment, with_status, value, opposite, conjunction, disjunction}
use Rattle.est_kernel.specs.Preorder.{statement_count}
use Rattle.est_kernel.specs.StaticCodes.{codes_if, started_codes, instant_loops, NoInstantLoop}
use Rattle.base_types.specs.Codes.{except, either, maxima, lowered}
use Rattle.est_kernel.proofs.Exports.{statement_count-some}
use Rattle.grc_graph.specs.Layers.{Layer, Resumed, Started, Liveness, part_liveness, second_liveness, loop_liveness, same_layer}
use Rattle.grc_graph.specs.Scopes.{Scope, bind}
use Rattle.grc_graph.specs.Wires.{Go, StatusOf, End, instance_codes}
use Rattle.grc_graph.specs.Formulas.{Formula, any_of}
use Rattle.grc_graph.specs.Spots.{Spot, part_entry}
use Rattle.grc_graph.specs.Equations.{end_formula, emissions, part_end, trapped_ends, started_parallel}
use Rattle.grc_graph.specs.Walk.{State, Values}
use Rattle.grc_graph.specs.Selected.{HasExitCodes}
use Rattle.grc_graph.proofs.Exports.{Agrees, only_agrees, first_agrees, second_agrees, above_within, same_layer-self}
use Rattle.grc_solutions.proofs.Exports.{EachStarted, Root, root_left, root_given, Above, above_more, above_bind}
use Rattle.grc_solutions_laws.proofs.Exports.{no_loops-left, no_loops-right, loop_body, Whole, whole_only, whole_first, whole_second, local_own}
use Rattle.grc_solutions_laws.proofs.Exports.{started_emissions}
use Rattle.grc_solutions_laws.proofs.Exports.{head_started, own_fresh, own_shows}
use Rattle.grc_ternary.proofs.Scoped.{InScope}
use Rattle.est_ternary.specs.TriWalks.{where_met, tri_upto, tri_maxima, tri_lowered}
use Rattle.est_ternary.specs.Laws.{sure, possible}
use Rattle.est_ternary.proofs.Exports.{IsRail, sure_rail, possible_rail, same_rails}
use Rattle.grc_ternary.specs.LeastSolutions.{Statuses, upto_status}
use Rattle.grc_ternary.proofs.Formulas.{val, or_all, any_meaning, part_meaning, two_meaning, test_meaning, SeesStatuses, sees_more, rail_emissions}
use Rattle.grc_ternary.proofs.Formulas.{met_absent, upto_same}
use Rattle.grc_ternary.proofs.StartedPlaces.{emits, ends, Follows}
use Rattle.grc_ternary.proofs.Quiet.{Quiet, OffLayers, quiet_only, quiet_first, quiet_second, start_quiet, second_root_off}
use Rattle.grc_ternary.proofs.Emitted.{quiet_emits, started_emitted}
use Rattle.grc_ternary.proofs.Ends.{Dead, only_ends, choice_ends, sequence_ends, loop_ends, parallel_ends}

-- ---- where nothing is live

minus_ends : (U : Statuses) (l : Layer) (n c m : ℕ) → Quiet U l n c → n ≤ m → m < n + c → ends U m l ≡ (λ k. Minus)
minus_ends U l n c m q i j = fun_ext (q.at m i j).2

minus_upto : (k : ℕ) → tri_upto (λ j. Minus) k ≡ Minus
minus_upto zero = refl
minus_upto (suc k) = ap (λ v. disjunction v Minus) (minus_upto k)

pub minus_maxima : (k : ℕ) → tri_maxima (λ j. Minus) (λ j. Minus) k ≡ Minus
minus_maxima k = ap (λ v. conjunction v (conjunction v (disjunction Minus Minus))) (minus_upto k)

pub minus_lowered : (k : ℕ) → tri_lowered (λ j. Minus) k ≡ Minus
minus_lowered zero = refl
minus_lowered (suc zero) = refl
minus_lowered (suc (suc k)) = refl

pub quiet_follows : (W U : Statuses) (t : Term) (n : ℕ) (l : Layer) (E : Environment) → HasExitCodes t → Quiet W l n (statement_count t) →
    Quiet U l n (statement_count t) → Follows W U t n l E
quiet_follows W U Pause n l E k v u = λ c.
    (v.at n (omega arith) (omega arith)).2 c ∙ sym (ap (λ x. where_met (c == 1) x) (u.at n (omega arith) (omega arith)).0 ∙ met_absent (c == 1))
quiet_follows W U (Exit y) n l E k v u = λ c.
    (v.at n (omega arith) (omega arith)).2 c ∙ sym (ap (λ x. where_met (c == y) x) (u.at n (omega arith) (omega arith)).0 ∙ met_absent (c == y))
quiet_follows W U (Present e p q) n l E k v u =
    let m = n + 1 + statement_count p in
    let go = (u.at n (omega arith) (omega arith)).0 in
    let vp = quiet_first n _ _ v in
    let up = quiet_first n _ _ u in
    let vq = quiet_second n _ _ v in
    let uq = quiet_second n _ _ u in (
      (v.at (n + 1) (omega arith) (omega (arith, statement_count-some p))).0 ∙ sym (ap (λ x. conjunction x (value e E)) go),
      (v.at m (omega arith) (omega (arith, statement_count-some q))).0 ∙ sym (ap (λ x. conjunction x (opposite (value e E))) go),
      (λ c. (v.at n (omega arith) (omega arith)).2 c
          ∙ sym (ap (λ x. disjunction x (ends U m l c)) ((u.at (n + 1) (omega arith) (omega (arith, statement_count-some p))).2 c)
          ∙ (u.at m (omega arith) (omega (arith, statement_count-some q))).2 c)),
      quiet_follows W U p (n + 1) l E k.0 vp up,
      quiet_follows W U q m l E k.1 vq uq,
    )
quiet_follows W U (Suspend e p) n l E k v u = (
  (v.at (n + 1) (omega arith) (omega (arith, statement_count-some p))).0 ∙ sym (u.at n (omega arith) (omega arith)).0,
  (λ c. (v.at n (omega arith) (omega arith)).2 c ∙ sym ((u.at (n + 1) (omega arith) (omega (arith, statement_count-some p))).2 c)),
  quiet_follows W U p (n + 1) l E k (quiet_only n _ v) (quiet_only n _ u),
)
quiet_follows W U (Seq p q) n l E k v u =
    let m = n + 1 + statement_count p in (
      (v.at (n + 1) (omega arith) (omega (arith, statement_count-some p))).0 ∙ sym (u.at n (omega arith) (omega arith)).0,
      (v.at m (omega arith) (omega (arith, statement_count-some q))).0 ∙ sym ((u.at (n + 1) (omega arith) (omega (arith, statement_count-some p))).2 0),
      (λ c. (v.at n (omega arith) (omega arith)).2 c
          ∙ sym (ap (λ x. disjunction (where_met (not (c == 0)) x) (ends U m l c)) ((u.at (n + 1) (omega arith) (omega (arith, statement_count-some p))).2 c)
          ∙ ap (λ x. disjunction x (ends U m l c)) (met_absent (not (c == 0)))
          ∙ (u.at m (omega arith) (omega (arith, statement_count-some q))).2 c)),
      quiet_follows W U p (n + 1) l E k.0 (quiet_first n _ _ v) (quiet_first n _ _ u),
      quiet_follows W U q m l E k.1 (quiet_second n _ _ v) (quiet_second n _ _ u),
    )
quiet_follows W U (Loop at p) n l E k v u = (
  (v.at (n + 1) (omega arith) (omega (arith, statement_count-some p))).0 ∙ sym (u.at n (omega arith) (omega arith)).0,
  (λ c. (v.at n (omega arith) (omega arith)).2 c ∙ sym ((u.at (n + 1) (omega arith) (omega (arith, statement_count-some p))).2 c)),
  quiet_follows W U p (n + 1) l E k (quiet_only n _ v) (quiet_only n _ u),
)
quiet_follows W U (Par p q) n l E k v u =
    let m = n + 1 + statement_count p in (
      (v.at (n + 1) (omega arith) (omega (arith, statement_count-some p))).0 ∙ sym (u.at n (omega arith) (omega arith)).0,
      (v.at m (omega arith) (omega (arith, statement_count-some q))).0 ∙ sym (u.at n (omega arith) (omega arith)).0,
      (λ c. (v.at n (omega arith) (omega arith)).2 c
          ∙ sym (ap (λ A. tri_maxima A (ends U m l) c) (minus_ends U l n _ (n + 1) u (omega arith) (omega (arith, statement_count-some p)))
          ∙ ap (λ A. tri_maxima (λ j. Minus) A c) (minus_ends U l n _ m u (omega arith) (omega (arith, statement_count-some q)))
          ∙ minus_maxima c)),
      quiet_follows W U p (n + 1) l E k.0 (quiet_first n _ _ v) (quiet_first n _ _ u),
      quiet_follows W U q m l E k.1 (quiet_second n _ _ v) (quiet_second n _ _ u),
    )
quiet_follows W U (Trap p) n l E k v u = (
  (v.at (n + 1) (omega arith) (omega (arith, statement_count-some p))).0 ∙ sym (u.at n (omega arith) (omega arith)).0,
  (λ c. (v.at n (omega arith) (omega arith)).2 c
      ∙ sym (ap (λ A. tri_lowered A c) (minus_ends U l n _ (n + 1) u (omega arith) (omega (arith, statement_count-some p))) ∙ minus_lowered c)),
  quiet_follows W U p (n + 1) l E k (quiet_only n _ v) (quiet_only n _ u),
)
quiet_follows W U (Local s p) n l E k v u = (
  (v.at (n + 1) (omega arith) (omega (arith, statement_count-some p))).0 ∙ sym (u.at n (omega arith) (omega arith)).0,
  (λ c. (v.at n (omega arith) (omega arith)).2 c ∙ sym ((u.at (n + 1) (omega arith) (omega (arith, statement_count-some p))).2 c)),
  (v.at n (omega arith) (omega arith)).1 ∙ sym (quiet_emits U p (n + 1) l s (quiet_only n _ u)),
  quiet_follows W U p (n + 1) l (with_status E s (U (StatusOf n l))) k (quiet_only n _ v) (quiet_only n _ u),
)
quiet_follows W U (Awake e p) n l E k v u = absurd k
quiet_follows W U _ n l E k v u = λ c.
    (v.at n (omega arith) (omega arith)).2 c ∙ sym (ap (λ x. where_met (c == 0) x) (u.at n (omega arith) (omega arith)).0 ∙ met_absent (c == 0))

-- ---- the wires of an instance

-- through any test of statuses the emissions of the whole list, on the status wires that a statement binds, are its own
abbrev pub WholeRails : Statuses → List Spot → (ℕ → List Layer) → Scope → (Layer → Formula) → Term → ℕ → Type 0
WholeRails U all L B g t n = (f : Status → Bool) → Whole (λ u. f (U u)) L all B g t n

pub cond_at : (c : Bool) (A B : ℕ → Bool) (k : ℕ) → cond c A B k ≡ cond c (A k) (B k)
cond_at true A B k = refl
cond_at false A B k = refl

pub at_zero : (A : ℕ → Bool) (k : ℕ) → (k == 0) ≡ true → A k ≡ A 0
at_zero A k e = ap A (eqb-true k 0 e)

module _ (body : Term) (q : State) (given : Values) (W U : Statuses) (all : List Spot) where
  abbrev pub value_of : Formula → Status
  value_of a = val body q given U a

  -- the status wire of a Local
  abbrev pub StatusNext : Term → ℕ → Layer → Type 0
  StatusNext (Local s p) n l = W (StatusOf n l) ≡ or_all body q given U (emissions (StatusOf n l) all)
  StatusNext t n l = Unit {0}

  -- new statuses of the wires of an instance by its equations, under old ones that are absent where it has no wire
  pub record Next (x : Spot) : Type 0 where
    pub go : W (Go x.path x.layer) ≡ value_of x.entry
    pub ends : (k : ℕ) → W (End x.path x.layer k)
        ≡ where_met (instance_codes x.statement x.layer k) (value_of (end_formula x.scope x.statement x.path x.layer k))
    pub status : StatusNext x.statement x.path x.layer
    pub dead : (k : ℕ) → Dead (instance_codes x.statement x.layer k) (U (End x.path x.layer k))

  pub one_part : (A : ℕ → Bool) (c : ℕ) (l : Layer) (k : ℕ) → value_of (any_of (part_end A c l k)) ≡ where_met (A k) (U (End c l k))
  one_part A c l k = any_meaning body q given U (part_end A c l k) ∙ part_meaning body q given U A c l k

  pub two_parts : (A C : ℕ → Bool) (c d : ℕ) (l j : Layer) (k : ℕ) →
      value_of (any_of (part_end A c l k ++ part_end C d j k)) ≡ disjunction (where_met (A k) (U (End c l k))) (where_met (C k) (U (End d j k)))
  two_parts A C c d l j k =
      two_meaning body q given U (part_end A c l k) (part_end C d j k)
      ∙ ap (λ v. disjunction v (or_all body q given U (part_end C d j k))) (part_meaning body q given U A c l k)
      ∙ ap (λ v. disjunction (where_met (A k) (U (End c l k))) v) (part_meaning body q given U C d j k)

  pub trap_value : (A : ℕ → Bool) (c : ℕ) (l : Layer) → ((k : ℕ) → Dead (A k) (U (End c l k))) → (k : ℕ) →
      where_met (lowered A k) (value_of (any_of (trapped_ends A c l k))) ≡ tri_lowered (ends U c l) k
  trap_value A c l d zero = ap (λ v. where_met (A 0 || A 2) v) (two_trapped) ∙ choice_ends (A 0) (A 2) _ _ (d 0) (d 2)
    where
      two_trapped : value_of (any_of (part_end A c l 0 ++ part_end A c l 2)) ≡ disjunction (where_met (A 0) (U (End c l 0))) (where_met (A 2) (U (End c l 2)))
      two_trapped =
          two_meaning body q given U (part_end A c l 0) (part_end A c l 2)
          ∙ ap (λ v. disjunction v (or_all body q given U (part_end A c l 2))) (part_meaning body q given U A c l 0)
          ∙ ap (λ v. disjunction (where_met (A 0) (U (End c l 0))) v) (part_meaning body q given U A c l 2)
  trap_value A c l d (suc zero) = ap (λ v. where_met (A 1) v) (one_part A c l 1) ∙ only_ends (A 1) _ (d 1)
  trap_value A c l d (suc (suc k)) =
      ap (λ v. where_met (A (suc (suc (suc k)))) v) (one_part A c l (suc (suc (suc k)))) ∙ only_ends (A (suc (suc (suc k)))) _ (d (suc (suc (suc k))))

  pub par_value : (A C : ℕ → Bool) (c d : ℕ) (l : Layer) (k : ℕ) →
      value_of (started_parallel A C c d l k)
      ≡ conjunction (tri_upto (ends U c l) k) (conjunction (tri_upto (ends U d l) k)
      (disjunction (where_met (A k) (ends U c l k)) (where_met (C k) (ends U d l k))))
  par_value A C c d l k =
      ap (λ v. conjunction v (conjunction (upto_status (ends U d l) k) (value_of (any_of (part_end A c l k ++ part_end C d l k))))) (upto_same (ends U c l) k)
      ∙ ap (λ v. conjunction (tri_upto (ends U c l) k) (conjunction v (value_of (any_of (part_end A c l k ++ part_end C d l k))))) (upto_same (ends U d l) k)
      ∙ ap (λ v. conjunction (tri_upto (ends U c l) k) (conjunction (tri_upto (ends U d l) k) v)) (two_parts A C c d l l k)

  module _ (L : ℕ → List Layer) (offW : OffLayers L W) (offU : OffLayers L U) where
    -- a Local's status is what its body emits
    status_rail : (f : Status → Bool) → IsRail f → (a : Liveness) (x : ℕ) (p : Term) (B : Scope) (g : Layer → Formula) (n r : ℕ) → Agrees L a (Local x p) n →
        Root r a.roots → r ≤ n → HasExitCodes p → Above B n → WholeRails U all L B g (Local x p) n → StatusNext (Local x p) n (Started r) →
        f (W (StatusOf n (Started r))) ≡ f (emits U p (n + 1) (Started r) x)
    status_rail f rail a x p B g n r ag i l k ab w e =
        let y = Started r in
        let ap1 = part_liveness a p in
        let agp = only_agrees L a ap1 (Local x p) p n refl (λ j. refl) ag in
        ap f e
        ∙ rail_emissions body q given U f rail (StatusOf n y) all
        ∙ local_own (λ u. f (U u)) all L x p B g n y (w f)
        ∙ started_emissions (λ u. f (U u)) all L ap1 x p B (part_entry n) n r k ab agp i
        ∙ started_emitted f rail L U offU (StatusOf n y) x true p (bind B x n) (part_entry n) (n + 1) r ap1 agp (omega arith) k (own_fresh n y)
        (own_shows B n x y y true ab (ap (λ z. same_layer z y) (above_within n r l) ∙ same_layer-self y))

    status_started : (a : Liveness) (x : ℕ) (p : Term) (B : Scope) (g : Layer → Formula) (n r : ℕ) → Agrees L a (Local x p) n → Root r a.roots → r ≤ n →
        HasExitCodes p → Above B n → WholeRails U all L B g (Local x p) n → StatusNext (Local x p) n (Started r) →
        W (StatusOf n (Started r)) ≡ emits U p (n + 1) (Started r) x
    status_started a x p B g n r ag i l k ab w e =
        same_rails _ _ (status_rail sure sure_rail a x p B g n r ag i l k ab w e) (status_rail possible possible_rail a x p B g n r ag i l k ab w e)

    -- the entry of a second part, and of a loop's body, in the layer of a start above them
    second_start : (n m r : ℕ) → r < m → U (End (n + 1) (cond (r == m) Resumed (Started r)) 0) ≡ ends U (n + 1) (Started r) 0
    second_start n m r l = ap (λ c. U (End (n + 1) (cond c Resumed (Started r)) 0)) (ne_eqb r m (λ e. omega arith))

    loop_start : (n r : ℕ) → r ≤ n → U (cond (r == (n + 1)) (End (n + 1) Resumed 0) (Go n (Started r))) ≡ U (Go n (Started r))
    loop_start n r l = ap (λ c. U (cond c (End (n + 1) Resumed 0) (Go n (Started r)))) (ne_eqb r (n + 1) (λ e. omega arith))

    pub follows_started : (a : Liveness) (t : Term) (B : Scope) (g : Layer → Formula) (n r : ℕ) (E : Environment) → Agrees L a t n → Root r a.roots → r ≤ n →
        NoInstantLoop t → HasExitCodes t → InScope B t → Above B n → WholeRails U all L B g t n → EachStarted Next B g t n (Started r) →
        SeesStatuses body q given U B (Started r) E → Follows W U t n (Started r) E
    follows_started a (Present e p p2) B g n r E ag i l nl k sc ab w x s =
        let m = n + 1 + statement_count p in
        let t = Present e p p2 in
        let y = Started r in
        let b = part_liveness a p in
        let d = part_liveness a p2 in
        let hp = head_started Next B _ p (n + 1) y k.0 x.1 in
        let hq = head_started Next B _ p2 m y k.1 x.2 in
        let test = test_meaning body q given U B e y E s sc.0 in (
          hp.go ∙ ap (λ v. conjunction (U (Go n y)) v) test,
          hq.go ∙ ap (λ v. conjunction (U (Go n y)) (opposite v)) test,
          (λ c. x.0.ends c
              ∙ ap (λ v. where_met (started_codes p c || started_codes p2 c) v) (two_parts (started_codes p) (started_codes p2) (n + 1) m y y c)
              ∙ choice_ends (started_codes p c) (started_codes p2 c) _ _ (hp.dead c) (hq.dead c)),
          follows_started b p B _ (n + 1) r E (first_agrees L a b d t p p2 n refl (λ j. refl) ag) i (omega arith)
              (no_loops-left (instant_loops p) (instant_loops p2) nl) k.0 sc.1 (above_more B n (n + 1) (omega arith) ab)
              (λ f. whole_first (λ u. f (U u)) L all B g _ _ t p p2 n ab refl refl (λ j z o. refl) (w f)) x.1 s,
          follows_started d p2 B _ m r E (second_agrees L a b d t p p2 n refl (λ j. refl) ag) i (omega arith)
              (no_loops-right (instant_loops p) (instant_loops p2) nl) k.1 sc.2 (above_more B n m (omega arith) ab)
              (λ f. whole_second (λ u. f (U u)) L all B g _ _ t p p2 n ab refl refl (λ j z o. refl) (w f)) x.2 s,
        )
    follows_started a (Suspend e p) B g n r E ag i l nl k sc ab w x s =
        let y = Started r in
        let b = part_liveness a p in
        let hp = head_started Next B _ p (n + 1) y k x.1 in (
          hp.go,
          (λ c. x.0.ends c ∙ ap (λ v. where_met (started_codes p c) v) (one_part (started_codes p) (n + 1) y c)
              ∙ only_ends (started_codes p c) _ (hp.dead c)),
          follows_started b p B _ (n + 1) r E (only_agrees L a b (Suspend e p) p n refl (λ j. refl) ag) i (omega arith) nl k sc.1
              (above_more B n (n + 1) (omega arith) ab)
              (λ f. whole_only (λ u. f (U u)) L all B B g _ (Suspend e p) p n refl refl (λ j z o. refl) (w f)) x.1 s,
        )
    follows_started a (Seq p p2) B g n r E ag i l nl k sc ab w x s =
        let m = n + 1 + statement_count p in
        let t = Seq p p2 in
        let y = Started r in
        let b = part_liveness a p in
        let d = second_liveness a p p2 m in
        let agq = second_agrees L a b d t p p2 n refl (λ j. refl) ag in
        let hp = head_started Next B _ p (n + 1) y k.0 x.1 in
        let off = λ (z : started_codes p 0 ≡ false) (T : Statuses) (o : OffLayers L T). start_quiet L T o r d p2 m agq
        (second_root_off r n m a p p2 (omega arith) l z) (λ j. omega arith) in
        let at = λ (z : started_codes p 0 ≡ false) (T : Statuses) (o : OffLayers L T).
        (off z T o).at m (omega arith) (omega (arith, statement_count-some p2)) in
        let deadq : (c : ℕ) → Dead (started_codes p 0 && started_codes p2 c) (U (End m y c)) =
        λ c. dead_second (started_codes p 0) (started_codes p2 c) (U (End m y c)) (λ z. (head_started Next B _ p2 m y k.1 (x.2 z)).dead c)
        (λ z. (at z U offU).2 c) in (
          hp.go,
          go_second (started_codes p 0) refl
              (λ z. (head_started Next B _ p2 m y k.1 (x.2 z)).go ∙ second_start n m r (omega arith))
              (λ z. (at z W offW).0 ∙ sym (hp.dead 0 z)),
          (λ c. x.0.ends c
              ∙ ap (λ z. where_met z (value_of (end_formula B t n y c)))
              (cond_at (started_codes p 0) (either (except 0 (started_codes p)) (started_codes p2)) (started_codes p) c)
              ∙ ap (λ v. where_met (cond (started_codes p 0) ((started_codes p c && not (c == 0)) || started_codes p2 c) (started_codes p c)) v)
              (two_parts (except 0 (started_codes p)) (codes_if (started_codes p 0) (started_codes p2)) (n + 1) m y y c)
              ∙ sequence_ends (started_codes p 0) (started_codes p c) (started_codes p2 c) (c == 0) _ _ (at_zero (started_codes p) c) (hp.dead c) (deadq c)),
          follows_started b p B _ (n + 1) r E (first_agrees L a b d t p p2 n refl (λ j. refl) ag) i (omega arith)
              (no_loops-left (instant_loops p) (instant_loops p2) nl) k.0 sc.0 (above_more B n (n + 1) (omega arith) ab)
              (λ f. whole_first (λ u. f (U u)) L all B g _ _ t p p2 n ab refl refl (λ j z o. refl) (w f)) x.1 s,
          second_follows (started_codes p 0) refl
              (λ z. follows_started d p2 B _ m r E agq
              (root_left r (cond (started_codes p 0) a.roots []) _ (root_given r (started_codes p 0) a.roots z i)) (omega arith)
              (no_loops-right (instant_loops p) (instant_loops p2) nl) k.1 sc.1 (above_more B n m (omega arith) ab)
              (λ f. whole_second (λ u. f (U u)) L all B g _ _ t p p2 n ab refl refl (λ j z o. refl) (w f)) (x.2 z) s)
              (λ z. quiet_follows W U p2 m y E k.1 (off z W offW) (off z U offU)),
        )
      where
        go_second : (c : Bool) → started_codes p 0 ≡ c
            → (started_codes p 0 ≡ true → W (Go (n + 1 + statement_count p) (Started r)) ≡ ends U (n + 1) (Started r) 0) →
            (started_codes p 0 ≡ false → W (Go (n + 1 + statement_count p) (Started r)) ≡ ends U (n + 1) (Started r) 0) →
            W (Go (n + 1 + statement_count p) (Started r)) ≡ ends U (n + 1) (Started r) 0
        go_second true e f g = f e
        go_second false e f g = g e

        second_follows : (c : Bool) → started_codes p 0 ≡ c → (started_codes p 0 ≡ true → Follows W U p2 (n + 1 + statement_count p) (Started r) E) →
            (started_codes p 0 ≡ false → Follows W U p2 (n + 1 + statement_count p) (Started r) E) → Follows W U p2 (n + 1 + statement_count p) (Started r) E
        second_follows true e f g = f e
        second_follows false e f g = g e

        dead_second : (c d : Bool) (v : Status) → (c ≡ true → Dead d v) → (c ≡ false → v ≡ Minus) → Dead (c && d) v
        dead_second true d v f g e = f refl e
        dead_second false d v f g e = g refl
    follows_started a (Loop at p) B g n r E ag i l nl k sc ab w x s =
        let y = Started r in
        let b = loop_liveness a p (n + 1) in
        let parts = loop_body at p nl in
        let hp = head_started Next B _ p (n + 1) y k x.1 in (
          hp.go ∙ loop_start n r l,
          (λ c. x.0.ends c
              ∙ ap (λ v. where_met (started_codes p c && not (c == 0)) v) (one_part (except 0 (started_codes p)) (n + 1) y c)
              ∙ loop_ends (started_codes p c) (c == 0) _ (λ z. at_zero (started_codes p) c z ∙ parts.0) (hp.dead c)),
          follows_started b p B _ (n + 1) r E (only_agrees L a b (Loop at p) p n refl (λ j. refl) ag) (root_left r a.roots _ i) (omega arith) parts.1 k sc
              (above_more B n (n + 1) (omega arith) ab)
              (λ f. whole_only (λ u. f (U u)) L all B B g _ (Loop at p) p n refl refl (λ j z o. refl) (w f)) x.1 s,
        )
    follows_started a (Par p p2) B g n r E ag i l nl k sc ab w x s =
        let m = n + 1 + statement_count p in
        let t = Par p p2 in
        let y = Started r in
        let b = part_liveness a p in
        let d = part_liveness a p2 in
        let hp = head_started Next B _ p (n + 1) y k.0 x.1 in
        let hq = head_started Next B _ p2 m y k.1 x.2 in (
          hp.go,
          hq.go,
          (λ c. x.0.ends c
              ∙ ap (λ v. where_met (maxima (started_codes p) (started_codes p2) c) v) (par_value (started_codes p) (started_codes p2) (n + 1) m y c)
              ∙ parallel_ends (started_codes p) (started_codes p2) (ends U (n + 1) y) (ends U m y) hp.dead hq.dead c),
          follows_started b p B _ (n + 1) r E (first_agrees L a b d t p p2 n refl (λ j. refl) ag) i (omega arith)
              (no_loops-left (instant_loops p) (instant_loops p2) nl) k.0 sc.0 (above_more B n (n + 1) (omega arith) ab)
              (λ f. whole_first (λ u. f (U u)) L all B g _ _ t p p2 n ab refl refl (λ j z o. refl) (w f)) x.1 s,
          follows_started d p2 B _ m r E (second_agrees L a b d t p p2 n refl (λ j. refl) ag) i (omega arith)
              (no_loops-right (instant_loops p) (instant_loops p2) nl) k.1 sc.1 (above_more B n m (omega arith) ab)
              (λ f. whole_second (λ u. f (U u)) L all B g _ _ t p p2 n ab refl refl (λ j z o. refl) (w f)) x.2 s,
        )
    follows_started a (Trap p) B g n r E ag i l nl k sc ab w x s =
        let y = Started r in
        let b = part_liveness a p in
        let hp = head_started Next B _ p (n + 1) y k x.1 in (
          hp.go,
          (λ c. x.0.ends c ∙ trap_value (started_codes p) (n + 1) y hp.dead c),
          follows_started b p B _ (n + 1) r E (only_agrees L a b (Trap p) p n refl (λ j. refl) ag) i (omega arith) nl k sc
              (above_more B n (n + 1) (omega arith) ab)
              (λ f. whole_only (λ u. f (U u)) L all B B g _ (Trap p) p n refl refl (λ j z o. refl) (w f)) x.1 s,
        )
    follows_started a (Local z p) B g n r E ag i l nl k sc ab w x s =
        let y = Started r in
        let b = part_liveness a p in
        let hp = head_started Next (bind B z n) _ p (n + 1) y k x.1 in (
          hp.go,
          (λ c. x.0.ends c ∙ ap (λ v. where_met (started_codes p c) v) (one_part (started_codes p) (n + 1) y c)
              ∙ only_ends (started_codes p c) _ (hp.dead c)),
          status_started a z p B g n r ag i l k ab w x.0.status,
          follows_started b p (bind B z n) _ (n + 1) r (with_status E z (U (StatusOf n y))) (only_agrees L a b (Local z p) p n refl (λ j. refl) ag) i
              (omega arith) nl k (sc n) (above_bind B n z ab)
              (λ f. whole_only (λ u. f (U u)) L all B (bind B z n) g _ (Local z p) p n refl refl (λ j z2 o. refl) (w f)) x.1
              (sees_more body q given U B n z y E (above_within n r l) s),
        )
    follows_started a (Awake e p) B g n r E ag i l nl k sc ab w x s = absurd k
    follows_started a _ B g n r E ag i l nl k sc ab w x s = x.ends
