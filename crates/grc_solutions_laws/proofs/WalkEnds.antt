-- What the ends of an instance mean, where its parts are those of the walk: each code of the instance ends it as its walk
-- says, and no other.
use Rattle.std.proofs.Common.{◌≡◌, ℕ, ◌+◌, Bool, true, false, not, ◌&&◌, ◌==◌, cond, max, refl, sym, ap, ◌∙◌, subst, inl, inr, ⊎_elim}
use Rattle.std.proofs.lemmas.Bool.{and_from, and_parts, eqb-true, eqb-false, ne_eqb, false≢true, cases_Bool}
use Rattle.base_facts.proofs.Tests.{and-turned, not-false, or-other}
use Rattle.base_types.specs.Codes.{except}
use Rattle.est_kernel.specs.Terms.{Term, Nothing, Pause, Emit, Exit, Present, Suspend, Seq, Loop, Par, Trap, Local, Awake}
use Rattle.est_kernel.specs.Preorder.{statement_count}
use Rattle.est_kernel.specs.StaticCodes.{codes_if, has_code, started_codes, resumed_codes, instant_loops, NoInstantLoop}
use Rattle.est_kernel.proofs.Exports.{except-in, except-parts}
use Rattle.grc_graph.specs.Layers.{Layer, Resumed, Started, can_pass}
use Rattle.grc_graph.specs.Scopes.{Scope}
use Rattle.grc_graph.specs.Wires.{Go, StatusOf}
use Rattle.grc_graph.specs.Equations.{end_formula}
use Rattle.grc_graph.specs.Residuals.{holds}
use Rattle.grc_graph.specs.Walk.{Walk, Values, State, with_value, truth, ended, then_walk, started_walk, resumed_walk, selected_in}
use Rattle.grc_graph.specs.Selected.{HasExitCodes}
use Rattle.grc_graph.specs.Readings.{Valuation, state_holds_at}
use Rattle.grc_graph.specs.Coherence.{statuses, StartedWalked, ResumedWalked}
use Rattle.grc_solutions_laws.proofs.Residues.{no_loops-left, no_loops-right, loop_body, loop_code}
use Rattle.grc_solutions_laws.proofs.WalkCodes.{started_code, resumed_code}
use Rattle.grc_solutions_laws.proofs.WalkEmits.{Reach}
use Rattle.grc_solutions_laws.proofs.EndForms.{val, test_meaning, only_ends, choice_ends, three_ends, trap_ends, trap_ends_live, only_ends_live, parallel_ends}
use Rattle.grc_solutions_laws.proofs.EndForms.{resumed_ends, awake_ends, branch_number, branch_is}
use Rattle.grc_solutions_laws.proofs.Meets.{then_second, then_first, cond_first, cond_second, code_lives, not_both, started_at, resumed_at}
use Rattle.grc_solutions_laws.proofs.Meets.{finds_first, finds_second, finds_self, Sees, Finds}

-- the wires of the parts of a started statement
abbrev pub StartedParts : Valuation → Term → ℕ → Layer → Values → Bool → Type 0
StartedParts V (Present e p q) n l v b =
    StartedWalked V p (n + 1) l v (b && truth e v) × StartedWalked V q (n + 1 + statement_count p) l v (b && not (truth e v))
StartedParts V (Suspend e p) n l v b = StartedWalked V p (n + 1) l v b
StartedParts V (Seq p q) n l v b =
    StartedWalked V p (n + 1) l v b
    × (started_codes p 0 ≡ true
    → StartedWalked V q (n + 1 + statement_count p) l v (b && (started_walk (statuses V) p (n + 1) l v).code == 0))
StartedParts V (Loop at p) n l v b = StartedWalked V p (n + 1) l v b
StartedParts V (Par p q) n l v b = StartedWalked V p (n + 1) l v b × StartedWalked V q (n + 1 + statement_count p) l v b
StartedParts V (Trap p) n l v b = StartedWalked V p (n + 1) l v b
StartedParts V (Local s p) n l v b = StartedWalked V p (n + 1) l (with_value v s (V (StatusOf n l))) b
StartedParts V _ n l v b = Unit {0}

-- the wires of the parts of a resumed statement
abbrev pub ResumedParts : Valuation → (ℕ → Bool) → Term → ℕ → Values → Bool → Type 0
ResumedParts V S (Present e p q) n v b =
    (has_code (resumed_codes p) ≡ true → ResumedWalked V S p (n + 1) v (b && holds S p (n + 1)))
    × (has_code (resumed_codes q) ≡ true
    → ResumedWalked V S q (n + 1 + statement_count p) v (b && holds S q (n + 1 + statement_count p)))
ResumedParts V S (Suspend e p) n v b = has_code (resumed_codes p) ≡ true → ResumedWalked V S p (n + 1) v (b && not (truth e v))
ResumedParts V S (Seq p q) n v b =
    (has_code (resumed_codes p) ≡ true → ResumedWalked V S p (n + 1) v (b && holds S p (n + 1)))
    × ((can_pass p && has_code (resumed_codes q)) ≡ true
    → ResumedWalked V S q (n + 1 + statement_count p) v (b && holds S q (n + 1 + statement_count p)))
    × (resumed_codes p 0 ≡ true
    → StartedWalked V q (n + 1 + statement_count p) (Started (n + 1 + statement_count p)) v
    ((b && holds S p (n + 1)) && (resumed_walk (statuses V) S p (n + 1) v).code == 0))
ResumedParts V S (Loop at p) n v b =
    (has_code (resumed_codes p) ≡ true → ResumedWalked V S p (n + 1) v b)
    × (resumed_codes p 0 ≡ true
    → StartedWalked V p (n + 1) (Started (n + 1)) v (b && (resumed_walk (statuses V) S p (n + 1) v).code == 0))
ResumedParts V S (Par p q) n v b =
    (has_code (resumed_codes p) ≡ true → ResumedWalked V S p (n + 1) v (b && holds S p (n + 1)))
    × (has_code (resumed_codes q) ≡ true
    → ResumedWalked V S q (n + 1 + statement_count p) v (b && holds S q (n + 1 + statement_count p)))
ResumedParts V S (Trap p) n v b = has_code (resumed_codes p) ≡ true → ResumedWalked V S p (n + 1) v b
ResumedParts V S (Local s p) n v b =
    has_code (resumed_codes p) ≡ true → ResumedWalked V S p (n + 1) (with_value v s (V (StatusOf n Resumed))) b
ResumedParts V S _ n v b = Unit {0}

never : (b y : Bool) → (b ≡ true → false ≡ true) → false ≡ (b && y)
never true y f = absurd (false≢true (f refl))
never false y f = refl

module _ (B0 : Scope) (body : Term) (q : State) (given : Values) (V : Valuation) where
  -- the value of `end j`, if it is a code of the instance
  abbrev pub started_end : Scope → Term → ℕ → ℕ → ℕ → Bool
  started_end B t n r j = started_codes t j && val B0 body q given V (end_formula B t n (Started r) j)

  abbrev pub resumed_end : Scope → Term → ℕ → ℕ → Bool
  resumed_end B t n j = resumed_codes t j && val B0 body q given V (end_formula B t n Resumed j)

  pub started_mean : (t : Term) (B : Scope) (n r : ℕ) (v : Values) (b : Bool) → NoInstantLoop t → HasExitCodes t → Sees given V B (Started r) v →
      V (Go n (Started r)) ≡ b → StartedParts V t n (Started r) v b → (j : ℕ) →
      started_end B t n r j ≡ (b && j == (started_walk (statuses V) t n (Started r) v).code)
  started_mean Nothing B n r v b nl k s h w j = ap (λ x. (j == 0) && x) h ∙ and-turned (j == 0) b
  started_mean Pause B n r v b nl k s h w j = ap (λ x. (j == 1) && x) h ∙ and-turned (j == 1) b
  started_mean (Emit x) B n r v b nl k s h w j = ap (λ x. (j == 0) && x) h ∙ and-turned (j == 0) b
  started_mean (Exit c) B n r v b nl k s h w j = ap (λ x. (j == c) && x) h ∙ and-turned (j == c) b
  started_mean (Present x p p2) B n r v b nl k s h w j =
      let m = n + 1 + statement_count p in
      let t = Present x p p2 in
      let y = Started r in
      let np = no_loops-left (instant_loops p) (instant_loops p2) nl in
      let nq = no_loops-right (instant_loops p) (instant_loops p2) nl in
      let d = truth x v in
      let wp = started_walk (statuses V) p (n + 1) y v in
      let wq = started_walk (statuses V) p2 m y v in
      let i1 = started_at V p (n + 1) y v (b && d) k.0 w.0 in
      let i2 = started_at V p2 m y v (b && not d) k.1 w.1 in
      choice_ends B0 body q given V (started_codes p) (started_codes p2) (started_codes t) (n + 1) m y y (b && d) (b && not d) b wp.code wq.code
      (cond d wp wq).code
      (λ o z. i1.ends o) (λ o z. i2.ends o)
      (λ z o u u2. let c = and_parts b d z in (c.0, cond_first d wp wq c.1))
      (λ z. let c = and_parts b (not d) z in (c.0, cond_second d wp wq (not-false d c.1)))
      (λ z. started_code (statuses V) t n y v nl k)
      (λ z.
      ⊎_elim
      (λ c. inl (and_from _ _ z c, cond_first d wp wq c, started_code (statuses V) p (n + 1) y v np k.0))
      (λ c. inr (and_from _ _ z (ap not c), cond_second d wp wq c, started_code (statuses V) p2 m y v nq k.1))
      (cases_Bool d))
      j
  started_mean (Suspend x p) B n r v b nl k s h w j =
      let y = Started r in
      only_ends B0 body q given V (started_codes p) (n + 1) y b _ (started_at V p (n + 1) y v b k w).ends (λ z. started_code (statuses V) p (n + 1) y v nl k) j
  started_mean (Seq p p2) B n r v b nl k s h w j =
      let m = n + 1 + statement_count p in
      let t = Seq p p2 in
      let y = Started r in
      let np = no_loops-left (instant_loops p) (instant_loops p2) nl in
      let nq = no_loops-right (instant_loops p) (instant_loops p2) nl in
      let wp = started_walk (statuses V) p (n + 1) y v in
      let wq = started_walk (statuses V) p2 m y v in
      let i1 = started_at V p (n + 1) y v b k.0 w.0 in
      choice_ends B0 body q given V (except 0 (started_codes p)) (codes_if (started_codes p 0) (started_codes p2)) (started_codes t) (n + 1) m y y b
      (b && wp.code == 0) b wp.code wq.code (then_walk wp wq).code
      (λ o z. i1.ends o) (λ o z. (started_at V p2 m y v _ k.1 (w.1 (and_parts _ _ z).0)).ends o)
      (λ z o u u2. (z, then_first wp wq (ne_eqb wp.code 0 (λ u3. (except-parts (started_codes p) 0 o u).1 (u2 ∙ u3)))))
      (λ z. let c = and_parts b _ z in (c.0, then_second wp wq c.1))
      (λ z. started_code (statuses V) t n y v nl k)
      (λ z.
      let f1 = started_code (statuses V) p (n + 1) y v np k.0 in
      ⊎_elim
      (λ c. inr (
        and_from _ _ z c,
        then_second wp wq c,
        and_from _ _ (subst (λ u. started_codes p u ≡ true) (eqb-true wp.code 0 c) f1)
            (started_code (statuses V) p2 m y v nq k.1),
      ))
      (λ c. inl (z, then_first wp wq c, except-in (started_codes p) 0 wp.code f1 (eqb-false wp.code 0 c)))
      (cases_Bool (wp.code == 0)))
      j
  started_mean (Loop at p) B n r v b nl k s h w j =
      let y = Started r in
      only_ends B0 body q given V (except 0 (started_codes p)) (n + 1) y b _ (started_at V p (n + 1) y v b k w).ends
      (λ z. started_code (statuses V) (Loop at p) n y v nl k) j
  started_mean (Par p p2) B n r v b nl k s h w j =
      let m = n + 1 + statement_count p in
      let t = Par p p2 in
      let y = Started r in
      let np = no_loops-left (instant_loops p) (instant_loops p2) nl in
      let nq = no_loops-right (instant_loops p) (instant_loops p2) nl in
      parallel_ends B0 body q given V (started_codes p) (started_codes p2) (started_codes t) (n + 1) m y b _ _
      (started_at V p (n + 1) y v b k.0 w.0).ends (started_at V p2 m y v b k.1 w.1).ends
      (λ z. started_code (statuses V) p (n + 1) y v np k.0) (λ z. started_code (statuses V) p2 m y v nq k.1)
      (λ z. started_code (statuses V) t n y v nl k) j
  started_mean (Trap p) B n r v b nl k s h w j =
      let y = Started r in
      trap_ends B0 body q given V (started_codes p) (started_codes (Trap p)) (n + 1) y b _ (started_at V p (n + 1) y v b k w).ends
      (λ z. started_code (statuses V) p (n + 1) y v nl k) (λ z. started_code (statuses V) (Trap p) n y v nl k) j
  started_mean (Local x p) B n r v b nl k s h w j =
      let y = Started r in
      let u = with_value v x (V (StatusOf n y)) in
      only_ends B0 body q given V (started_codes p) (n + 1) y b _ (started_at V p (n + 1) y u b k w).ends (λ z. started_code (statuses V) p (n + 1) y u nl k) j
  started_mean (Awake x p) B n r v b nl k s h w j = absurd k

  abbrev pub selects : ℕ → Bool
  selects = λ m. state_holds_at q body m

  pub resumed_mean : (S : ℕ → Bool) (t : Term) (B : Scope) (n : ℕ) (v : Values) (b : Bool) → NoInstantLoop t → HasExitCodes t → Sees given V B Resumed v →
      Finds selects S t n → Reach S t n b → V (Go n Resumed) ≡ b → ResumedParts V S t n v b → (j : ℕ) →
      resumed_end B t n j ≡ (b && j == (resumed_walk (statuses V) S t n v).code)
  resumed_mean S Pause B n v b nl k s o u h w j = ap (λ x. (j == 0) && x) h ∙ and-turned (j == 0) b
  resumed_mean S (Present x p p2) B n v b nl k s o u h w j =
      let m = n + 1 + statement_count p in
      let t = Present x p p2 in
      let np = no_loops-left (instant_loops p) (instant_loops p2) nl in
      let nq = no_loops-right (instant_loops p) (instant_loops p2) nl in
      let c = holds S p (n + 1) in
      let d = holds S p2 m in
      let wp = resumed_walk (statuses V) S p (n + 1) v in
      let wq = resumed_walk (statuses V) S p2 m v in
      choice_ends B0 body q given V (resumed_codes p) (resumed_codes p2) (resumed_codes t) (n + 1) m Resumed Resumed (b && c) (b && d) b wp.code wq.code
      (cond c wp wq).code
      (λ y z. (resumed_at V S p (n + 1) v _ k.0 (w.0 (code_lives p k.0 y z))).ends y)
      (λ y z. (resumed_at V S p2 m v _ k.1 (w.1 (code_lives p2 k.1 y z))).ends y)
      (λ z y y2 y3. let z2 = and_parts b c z in (z2.0, cond_first c wp wq z2.1))
      (λ z. let z2 = and_parts b d z in (z2.0, cond_second c wp wq (not_both c d (u.selected z2.0).0 z2.1)))
      (λ z. resumed_code (statuses V) S t n v nl k (u.held z) (u.selected z))
      (λ z.
      ⊎_elim
      (λ y. inl (and_from _ _ z y, cond_first c wp wq y, resumed_code (statuses V) S p (n + 1) v np k.0 y ((u.selected z).1 y)))
      (λ y.
      let y2 = or-other c d y (u.held z) in
      inr (and_from _ _ z y2, cond_second c wp wq y, resumed_code (statuses V) S p2 m v nq k.1 y2 ((u.selected z).2 y2)))
      (cases_Bool c))
      j
  resumed_mean S (Suspend x p) B n v b nl k s o u h w j =
      let t = Suspend x p in
      let d = truth x v in
      let wp = resumed_walk (statuses V) S p (n + 1) v in
      let paused : Walk = record { signals = λ y. false; code = 1; kept = selected_in S p (n + 1) } in
      awake_ends B0 body q given V (resumed_codes p) (resumed_codes t) B x n (n + 1) b d wp.code (cond d paused wp).code h
      (test_meaning B0 body q given V B x Resumed v s.each)
      (λ y z. (resumed_at V S p (n + 1) v _ k (w (code_lives p k y z))).ends y)
      (λ z. cond_first d paused wp z) (λ z. cond_second d paused wp z)
      (λ z y. resumed_code (statuses V) S p (n + 1) v nl k (u.held z) (u.selected z))
      (λ z. resumed_code (statuses V) S t n v nl k (u.held z) (u.selected z)) j
  resumed_mean S (Seq p p2) B n v b nl k s o u h w j =
      let m = n + 1 + statement_count p in
      let t = Seq p p2 in
      let np = no_loops-left (instant_loops p) (instant_loops p2) nl in
      let nq = no_loops-right (instant_loops p) (instant_loops p2) nl in
      let c = holds S p (n + 1) in
      let d = holds S p2 m in
      let wp = resumed_walk (statuses V) S p (n + 1) v in
      let wq = resumed_walk (statuses V) S p2 m v in
      let wr = started_walk (statuses V) p2 m (Started m) v in
      let T = then_walk wp wr in
      three_ends B0 body q given V (except 0 (resumed_codes p)) (codes_if (can_pass p) (resumed_codes p2)) (codes_if (resumed_codes p 0) (started_codes p2))
      (resumed_codes t)
      (n + 1) m m Resumed Resumed (Started m) (b && c) (b && d) ((b && c) && wp.code == 0) b wp.code wq.code wr.code (cond c T wq).code
      (λ y z. (resumed_at V S p (n + 1) v _ k.0 (w.0 (code_lives p k.0 y (except-parts (resumed_codes p) 0 y z).0))).ends y)
      (λ y z. let z2 = and_parts (can_pass p) (resumed_codes p2 y) z in
      (resumed_at V S p2 m v _ k.1 (w.1 (and_from _ _ z2.0 (code_lives p2 k.1 y z2.1)))).ends y)
      (λ y z. let z2 = and_parts (resumed_codes p 0) (started_codes p2 y) z in (started_at V p2 m (Started m) v _ k.1 (w.2 z2.0)).ends y)
      (λ z y y2 y3.
      let z2 = and_parts b c z in
      (z2.0, cond_first c T wq z2.1 ∙ then_first wp wr (ne_eqb wp.code 0 (λ r. (except-parts (resumed_codes p) 0 y y2).1 (y3 ∙ r)))))
      (λ z. let z2 = and_parts b d z in (z2.0, cond_second c T wq (not_both c d (u.selected z2.0).0 z2.1)))
      (λ z. let z2 = and_parts (b && c) _ z in let z3 = and_parts b c z2.0 in (z3.0, cond_first c T wq z3.1 ∙ then_second wp wr z2.1))
      (λ z. resumed_code (statuses V) S t n v nl k (u.held z) (u.selected z))
      (λ z.
      ⊎_elim
      (λ y.
      let f1 = resumed_code (statuses V) S p (n + 1) v np k.0 y ((u.selected z).1 y) in
      ⊎_elim
      (λ r. inr (inr (
        and_from _ _ (and_from _ _ z y) r,
        cond_first c T wq y
            ∙ then_second wp wr r,
        and_from _ _ (subst (λ r2. resumed_codes p r2 ≡ true) (eqb-true wp.code 0 r) f1)
            (started_code (statuses V) p2 m (Started m) v nq k.1),
      )))
      (λ r. inl (and_from _ _ z y, cond_first c T wq y ∙ then_first wp wr r, except-in (resumed_codes p) 0 wp.code f1 (eqb-false wp.code 0 r)))
      (cases_Bool (wp.code == 0)))
      (λ y.
      let y2 = or-other c d y (u.held z) in
      let r = (u.selected z).2 y2 in
      inr (inl (and_from _ _ z y2, cond_second c T wq y, and_from _ _ r.0 (resumed_code (statuses V) S p2 m v nq k.1 y2 r.1))))
      (cases_Bool c))
      j
  resumed_mean S (Loop at p) B n v b nl k s o u h w j =
      let t = Loop at p in
      let parts = loop_body at p nl in
      let np = parts.1 in
      let wp = resumed_walk (statuses V) S p (n + 1) v in
      let wr = started_walk (statuses V) p (n + 1) (Started (n + 1)) v in
      choice_ends B0 body q given V (except 0 (resumed_codes p)) (codes_if (resumed_codes p 0) (except 0 (started_codes p))) (resumed_codes t) (n + 1)
      (n + 1) Resumed (Started (n + 1)) b (b && wp.code == 0) b wp.code wr.code (then_walk wp wr).code
      (λ y z. (resumed_at V S p (n + 1) v _ k (w.0 (code_lives p k y (except-parts (resumed_codes p) 0 y z).0))).ends y)
      (λ y z. let z2 = and_parts (resumed_codes p 0) (except 0 (started_codes p) y) z in (started_at V p (n + 1) (Started (n + 1)) v _ k (w.1 z2.0)).ends y)
      (λ z y y2 y3. (z, then_first wp wr (ne_eqb wp.code 0 (λ r. (except-parts (resumed_codes p) 0 y y2).1 (y3 ∙ r)))))
      (λ z. let z2 = and_parts b _ z in (z2.0, then_second wp wr z2.1))
      (λ z. resumed_code (statuses V) S t n v nl k (u.held z) (u.selected z))
      (λ z.
      let f1 = resumed_code (statuses V) S p (n + 1) v np k (u.held z) (u.selected z) in
      let f2 = started_code (statuses V) p (n + 1) (Started (n + 1)) v np k in
      ⊎_elim
      (λ r. inr (
        and_from _ _ z r,
        then_second wp wr r,
        and_from _ _ (subst (λ r2. resumed_codes p r2 ≡ true) (eqb-true wp.code 0 r) f1)
            (except-in (started_codes p) 0 wr.code f2 (loop_code p wr.code parts.0 f2)),
      ))
      (λ r. inl (z, then_first wp wr r, except-in (resumed_codes p) 0 wp.code f1 (eqb-false wp.code 0 r)))
      (cases_Bool (wp.code == 0)))
      j
  resumed_mean S (Par p p2) B n v b nl k s o u h w j =
      let m = n + 1 + statement_count p in
      let t = Par p p2 in
      let np = no_loops-left (instant_loops p) (instant_loops p2) nl in
      let nq = no_loops-right (instant_loops p) (instant_loops p2) nl in
      let c = holds S p (n + 1) in
      let d = holds S p2 m in
      let sp : selects (n + 1) ≡ c = finds_self selects S p (n + 1) (finds_first selects S t p p2 n refl (λ i. refl) o) in
      let sq : selects m ≡ d = finds_self selects S p2 m (finds_second selects S t p p2 n refl (λ i. refl) o) in
      let wp = resumed_walk (statuses V) S p (n + 1) v in
      let wq = resumed_walk (statuses V) S p2 m v in
      let code : max (branch_number B0 body q given V c wp.code) (branch_number B0 body q given V d wq.code) ≡
      max (cond c wp (ended 0)).code (cond d wq (ended 0)).code =
      ap (λ y. max y (branch_number B0 body q given V d wq.code)) (branch_is B0 body q given V c wp)
      ∙ ap (λ y. max (cond c wp (ended 0)).code y) (branch_is B0 body q given V d wq) in
      resumed_ends B0 body q given V (resumed_codes p) (resumed_codes p2) (resumed_codes t) n (n + 1) m b c d wp.code wq.code h sp sq
      (λ z. (resumed_at V S p (n + 1) v _ k.0 (w.0 z)).ends) (λ z. (resumed_at V S p2 m v _ k.1 (w.1 z)).ends)
      (code_lives p k.0) (code_lives p2 k.1)
      (λ z y. resumed_code (statuses V) S p (n + 1) v np k.0 y ((u.selected z).2 y))
      (λ z y. resumed_code (statuses V) S p2 m v nq k.1 y ((u.selected z).3 y))
      (λ z. subst (λ y. resumed_codes t y ≡ true) (sym code) (resumed_code (statuses V) S t n v nl k (u.held z) (u.selected z))) j
      ∙ ap (λ y. b && j == y) code
  resumed_mean S (Trap p) B n v b nl k s o u h w j =
      trap_ends_live B0 body q given V (resumed_codes p) (resumed_codes (Trap p)) (n + 1) Resumed b (resumed_walk (statuses V) S p (n + 1) v).code
      (λ y z. (resumed_at V S p (n + 1) v _ k (w (code_lives p k y z))).ends y)
      (λ z. resumed_code (statuses V) S p (n + 1) v nl k (u.held z) (u.selected z))
      (λ z. resumed_code (statuses V) S (Trap p) n v nl k (u.held z) (u.selected z)) j
  resumed_mean S (Local x p) B n v b nl k s o u h w j =
      let v2 = with_value v x (V (StatusOf n Resumed)) in
      let wp = resumed_walk (statuses V) S p (n + 1) v2 in
      only_ends_live B0 body q given V (resumed_codes p) (n + 1) Resumed b wp.code
      (λ y z. (resumed_at V S p (n + 1) v2 _ k (w (code_lives p k y z))).ends y)
      (λ z. resumed_code (statuses V) S p (n + 1) v2 nl k (u.held z) (u.selected z)) j
  resumed_mean S (Awake x p) B n v b nl k s o u h w j = absurd k
  resumed_mean S _ B n v b nl k s o u h w j = never b (j == 0) (λ z. u.held z)
