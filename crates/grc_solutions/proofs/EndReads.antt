-- What the formula of an end reads: each wire of it has an edge to the end.
use Rattle.std.proofs.Common.{◌≡◌, ℕ, zero, suc, ◌+◌, Bool, true, false, ◌==◌, cond, List, [], ◌∷◌, ◌++◌, refl, sym, subst, arith}
use Rattle.std.proofs.lemmas.Bool.{eqb-true, false≢true}
use Rattle.base_facts.proofs.Lists.{Every, every-append}
use Rattle.base_types.specs.Codes.{except}
use Rattle.est_kernel.specs.Terms.{Term, Pause, Emit, Present, Suspend, Seq, Loop, Par, Trap, Local, Awake}
use Rattle.est_kernel.specs.Preorder.{statement_count}
use Rattle.est_kernel.specs.StaticCodes.{codes_if, has_code, started_codes, resumed_codes}
use Rattle.grc_graph.specs.Layers.{Layer, Resumed, Started, can_pass}
use Rattle.grc_graph.specs.Scopes.{Scope}
use Rattle.grc_graph.specs.Wires.{Wire, Go, End, instance_codes}
use Rattle.grc_graph.specs.Formulas.{Formula, Value, Selected, Upto, Conjunction, any_of}
use Rattle.grc_graph.specs.Spots.{test_formula}
use Rattle.grc_graph.specs.Equations.{part_end, trapped_ends, started_parallel, branch_over, branch_upto, branch_end, resumed_parallel, end_formula}
use Rattle.grc_graph.specs.Reads.{ReadsOnly}
use Rattle.grc_graph.specs.Selected.{HasExitCodes}
use Rattle.grc_solutions.proofs.Rows.{Between, Passes, Branches, Trapped, RowOf}
use Rattle.grc_solutions.proofs.Contexts.{Asked, test_reads}

pub any_reads : (P : Wire → Type 0) (fs : List Formula) → Every (ReadsOnly P) fs → ReadsOnly P (any_of fs)
any_reads P [] h = tt
any_reads P (a ∷ []) h = h.0
any_reads P (a ∷ (b ∷ fs)) h = (h.0, any_reads P (b ∷ fs) h.1)

pub every_cond : {A : Type 0} (P : A → Type 0) (b : Bool) (xs : List A) → (b ≡ true → Every P xs) → Every P (cond b xs [])
every_cond P true xs f = f refl
every_cond P false xs f = tt

module _ (W : Wire → Type 0) (E : Between) where
  abbrev Q : Between
  Q = Asked W E

  -- a branch of a parallel has no ends but of its codes
  abbrev pub HasCodes : (ℕ → Bool) → ℕ → Layer → Type 0
  HasCodes A c l = (j : ℕ) → W (End c l j) → A j ≡ true

  part_reads : (A : ℕ → Bool) (c : ℕ) (j : Layer) (n : ℕ) (l : Layer) (k : ℕ) → Passes Q A c j n l → Every (ReadsOnly (λ u. Q u (End n l k))) (part_end A c j k)
  part_reads A c j n l k h = every_cond (ReadsOnly (λ u. Q u (End n l k))) (A k) (Value (End c j k) ∷ []) (λ e. (h k e, tt))

  one_part : (A : ℕ → Bool) (c : ℕ) (j : Layer) (n : ℕ) (l : Layer) (k : ℕ) → Passes Q A c j n l → ReadsOnly (λ u. Q u (End n l k)) (any_of (part_end A c j k))
  one_part A c j n l k h = any_reads (λ u. Q u (End n l k)) (part_end A c j k) (part_reads A c j n l k h)

  two_parts : (A C : ℕ → Bool) (c d : ℕ) (i j : Layer) (n : ℕ) (l : Layer) (k : ℕ) → Passes Q A c i n l → Passes Q C d j n l →
      ReadsOnly (λ u. Q u (End n l k)) (any_of (part_end A c i k ++ part_end C d j k))
  two_parts A C c d i j n l k h g =
      any_reads (λ u. Q u (End n l k)) (part_end A c i k ++ part_end C d j k)
      (every-append (ReadsOnly (λ u. Q u (End n l k))) (part_end A c i k) (part_end C d j k) (part_reads A c i n l k h) (part_reads C d j n l k g))

  trapped_part : (A : ℕ → Bool) (c n : ℕ) (l : Layer) (i k : ℕ) → ((A i ≡ true) → Q (End c l i) (End n l k)) →
      Every (ReadsOnly (λ u. Q u (End n l k))) (part_end A c l i)
  trapped_part A c n l i k h = every_cond (ReadsOnly (λ u. Q u (End n l k))) (A i) (Value (End c l i) ∷ []) (λ e. (h e, tt))

  trapped_reads : (A : ℕ → Bool) (c n : ℕ) (l : Layer) (k : ℕ) → Trapped Q A c n l → ReadsOnly (λ u. Q u (End n l k)) (any_of (trapped_ends A c l k))
  trapped_reads A c n l zero h =
      any_reads (λ u. Q u (End n l 0)) (part_end A c l 0 ++ part_end A c l 2)
      (every-append (ReadsOnly (λ u. Q u (End n l 0))) (part_end A c l 0) (part_end A c l 2) (trapped_part A c n l 0 0 (h 0)) (trapped_part A c n l 2 0 (h 2)))
  trapped_reads A c n l (suc zero) h = any_reads (λ u. Q u (End n l 1)) (part_end A c l 1) (trapped_part A c n l 1 1 (h 1))
  trapped_reads A c n l (suc (suc k)) h =
      any_reads (λ u. Q u (End n l (suc (suc k)))) (part_end A c l (suc (suc (suc k))))
      (trapped_part A c n l (suc (suc (suc k))) (suc (suc k)) (h (suc (suc (suc k)))))

  -- the ends of a branch up to a code of the parallel
  upto_reads : (A C : ℕ → Bool) (c n : ℕ) (l : Layer) (k : ℕ) → C k ≡ true → HasCodes A c l → Branches Q A C c n l →
      ReadsOnly (λ u. Q u (End n l k)) (Upto c l k)
  upto_reads A C c n l k e s h j i w = h j k (s j w) e i w

  branch_reads : (A C : ℕ → Bool) (c n : ℕ) (l : Layer) (k : ℕ) → C k ≡ true → Branches Q A C c n l →
      Every (ReadsOnly (λ u. Q u (End n l k))) (part_end A c l k)
  branch_reads A C c n l k e h = every_cond (ReadsOnly (λ u. Q u (End n l k))) (A k) (Value (End c l k) ∷ []) (λ a. (h k k a e (omega arith), tt))

  started_reads : (A D C : ℕ → Bool) (c d n : ℕ) (l : Layer) (k : ℕ) → C k ≡ true → HasCodes A c l → HasCodes D d l → Branches Q A C c n l →
      Branches Q D C d n l → ReadsOnly (λ u. Q u (End n l k)) (started_parallel A D c d l k)
  started_reads A D C c d n l k e s r h g = (
    upto_reads A C c n l k e s h,
    (
      upto_reads D C d n l k e r g,
      any_reads (λ u. Q u (End n l k)) (part_end A c l k ++ part_end D d l k)
          (every-append (ReadsOnly (λ u. Q u (End n l k))) (part_end A c l k) (part_end D d l k) (branch_reads A C c n l k e h) (branch_reads D C d n l k e g)),
    ),
  )

  resumed_upto : (A C : ℕ → Bool) (c n k : ℕ) → C k ≡ true → Q (Go n Resumed) (End n Resumed k) → HasCodes A c Resumed → Branches Q A C c n Resumed →
      ReadsOnly (λ u. Q u (End n Resumed k)) (branch_upto A n c k)
  resumed_upto A C c n k e o s h =
      let P = λ (u : Wire). Q u (End n Resumed k) in
      let own = cond (has_code A) (Conjunction (Selected c) (Upto c Resumed k) ∷ []) [] in
      any_reads P (own ++ branch_over n c ∷ [])
      (every-append (ReadsOnly P) own (branch_over n c ∷ [])
      (every_cond (ReadsOnly P) (has_code A) (Conjunction (Selected c) (Upto c Resumed k) ∷ []) (λ x. ((tt, upto_reads A C c n Resumed k e s h), tt)))
      ((tt, o), tt))

  resumed_end : (A C : ℕ → Bool) (c n k : ℕ) → C k ≡ true → Q (Go n Resumed) (End n Resumed k) → Branches Q A C c n Resumed →
      Every (ReadsOnly (λ u. Q u (End n Resumed k))) (branch_end A n c k)
  resumed_end A C c n k e o h =
      let P = λ (u : Wire). Q u (End n Resumed k) in
      let own = cond (A k) (Conjunction (Selected c) (Value (End c Resumed k)) ∷ []) [] in
      let over = cond (k == 0) (branch_over n c ∷ []) [] in
      every-append (ReadsOnly P) own over
      (every_cond (ReadsOnly P) (A k) (Conjunction (Selected c) (Value (End c Resumed k)) ∷ []) (λ a. ((tt, h k k a e (omega arith)), tt)))
      (every_cond (ReadsOnly P) (k == 0) (branch_over n c ∷ []) (λ a. ((tt, o), tt)))

  resumed_reads : (A D C : ℕ → Bool) (c d n k : ℕ) → C k ≡ true → Q (Go n Resumed) (End n Resumed k) → HasCodes A c Resumed → HasCodes D d Resumed →
      Branches Q A C c n Resumed → Branches Q D C d n Resumed → ReadsOnly (λ u. Q u (End n Resumed k)) (resumed_parallel A D n c d k)
  resumed_reads A D C c d n k e o s r h g = (
    resumed_upto A C c n k e o s h,
    (
      resumed_upto D C d n k e o r g,
      any_reads (λ u. Q u (End n Resumed k)) (branch_end A n c k ++ branch_end D n d k)
          (every-append (ReadsOnly (λ u. Q u (End n Resumed k))) (branch_end A n c k) (branch_end D n d k) (resumed_end A C c n k e o h)
          (resumed_end D C d n k e o g)),
    ),
  )

  -- the branches of a parallel have no ends but of their codes
  abbrev pub BranchCodes : Term → ℕ → Layer → Type 0
  BranchCodes (Par p q) n l =
      HasCodes (instance_codes p l) (n + 1) l × HasCodes (instance_codes q l) (n + 1 + statement_count p) l
  BranchCodes _ n l = Unit {0}

  started_end : (B : Scope) (t : Term) (n r k : ℕ) → HasExitCodes t → RowOf Q B t n (Started r) → BranchCodes t n (Started r) → started_codes t k ≡ true →
      ReadsOnly (λ u. Q u (End n (Started r) k)) (end_formula B t n (Started r) k)
  started_end B (Emit s) n r k b h c e = h.0 k e
  started_end B (Present x p q) n r k b h c e =
      two_parts (started_codes p) (started_codes q) (n + 1) (n + 1 + statement_count p) (Started r) (Started r) n (Started r) k h.4 h.5
  started_end B (Suspend x p) n r k b h c e = one_part (started_codes p) (n + 1) (Started r) n (Started r) k h.1
  started_end B (Seq p q) n r k b h c e =
      two_parts (except 0 (started_codes p)) (codes_if (started_codes p 0) (started_codes q)) (n + 1) (n + 1 + statement_count p) (Started r) (Started r) n
      (Started r) k h.2 h.3
  started_end B (Loop at p) n r k b h c e = one_part (except 0 (started_codes p)) (n + 1) (Started r) n (Started r) k h.1
  started_end B (Par p q) n r k b h c e =
      started_reads (started_codes p) (started_codes q) (started_codes (Par p q)) (n + 1) (n + 1 + statement_count p) n (Started r) k e c.0 c.1 h.2 h.3
  started_end B (Trap p) n r k b h c e = trapped_reads (started_codes p) (n + 1) n (Started r) k h.1
  started_end B (Local s p) n r k b h c e = one_part (started_codes p) (n + 1) (Started r) n (Started r) k h.1
  started_end B (Awake x p) n r k b h c e = absurd b
  started_end B _ n r k b h c e = h k e

  resumed_end_reads : (B : Scope) (t : Term) (n k : ℕ) → HasExitCodes t → RowOf Q B t n Resumed → BranchCodes t n Resumed → resumed_codes t k ≡ true →
      ReadsOnly (λ u. Q u (End n Resumed k)) (end_formula B t n Resumed k)
  resumed_end_reads B Pause n k b h c e = h k e
  resumed_end_reads B (Present x p q) n k b h c e =
      two_parts (resumed_codes p) (resumed_codes q) (n + 1) (n + 1 + statement_count p) Resumed Resumed n Resumed k h.2 h.3
  resumed_end_reads B (Suspend x p) n k b h c e =
      let P = λ (u : Wire). Q u (End n Resumed k) in
      let here = Conjunction (Value (Go n Resumed)) (test_formula B x Resumed) ∷ [] in
      any_reads P (part_end (resumed_codes p) (n + 1) Resumed k ++ cond (k == 1) here [])
      (every-append (ReadsOnly P) (part_end (resumed_codes p) (n + 1) Resumed k) (cond (k == 1) here [])
      (part_reads (resumed_codes p) (n + 1) Resumed n Resumed k h.4)
      (every_cond (ReadsOnly P) (k == 1) here (λ o. (paused (eqb-true k 1 o) e, tt))))
    where
      paused : k ≡ 1 → resumed_codes (Suspend x p) k ≡ true → ReadsOnly (λ u. Q u (End n Resumed k))
          (Conjunction (Value (Go n Resumed)) (test_formula B x Resumed))
      paused o i =
          let one = subst (λ j. resumed_codes (Suspend x p) j ≡ true) o i in
          subst (λ j. ReadsOnly (λ u. Q u (End n Resumed j)) (Conjunction (Value (Go n Resumed)) (test_formula B x Resumed))) (sym o)
          (h.1 one, test_reads Q B x Resumed (End n Resumed 1) (h.3 one))
  resumed_end_reads B (Seq p q) n k b h c e =
      let m = n + 1 + statement_count p in
      let P = λ (u : Wire). Q u (End n Resumed k) in
      let first = part_end (except 0 (resumed_codes p)) (n + 1) Resumed k in
      let second = part_end (codes_if (can_pass p) (resumed_codes q)) m Resumed k in
      let anew = part_end (codes_if (resumed_codes p 0) (started_codes q)) m (Started m) k in
      any_reads P (first ++ (second ++ anew))
      (every-append (ReadsOnly P) first (second ++ anew) (part_reads (except 0 (resumed_codes p)) (n + 1) Resumed n Resumed k h.3)
      (every-append (ReadsOnly P) second anew (part_reads (codes_if (can_pass p) (resumed_codes q)) m Resumed n Resumed k h.4)
      (part_reads (codes_if (resumed_codes p 0) (started_codes q)) m (Started m) n Resumed k h.5)))
  resumed_end_reads B (Loop at p) n k b h c e =
      two_parts (except 0 (resumed_codes p)) (codes_if (resumed_codes p 0) (except 0 (started_codes p))) (n + 1) (n + 1) Resumed
      (Started (n + 1)) n Resumed k h.2 h.3
  resumed_end_reads B (Par p q) n k b h c e =
      resumed_reads (resumed_codes p) (resumed_codes q) (resumed_codes (Par p q)) (n + 1) (n + 1 + statement_count p) n k e (h.2 k e) c.0 c.1 h.3 h.4
  resumed_end_reads B (Trap p) n k b h c e = trapped_reads (resumed_codes p) (n + 1) n Resumed k h.1
  resumed_end_reads B (Local s p) n k b h c e = one_part (resumed_codes p) (n + 1) Resumed n Resumed k h.1
  resumed_end_reads B (Awake x p) n k b h c e = absurd b
  resumed_end_reads B _ n k b h c e = absurd (false≢true e)

  pub end_reads : (B : Scope) (t : Term) (n : ℕ) (l : Layer) (k : ℕ) → HasExitCodes t → RowOf Q B t n l → BranchCodes t n l → instance_codes t l k ≡ true →
      ReadsOnly (λ u. Q u (End n l k)) (end_formula B t n l k)
  end_reads B t n Resumed k b h c e = resumed_end_reads B t n k b h c e
  end_reads B t n (Started r) k b h c e = started_end B t n r k b h c e
