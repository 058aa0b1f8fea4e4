-- Where what each edge joins is related, and what is related can be joined, the `go` of an instance is related to each of its ends.
use Rattle.std.proofs.Common.{◌≡◌, ℕ, ◌+◌, ◌<◌, ◌≤◌, ◌&&◌, ◌||◌, ◌==◌, Bool, true, false, cond, List, [], ◌∷◌, ◌++◌, map}
use Rattle.std.proofs.Common.{refl, sym, ◌∙◌, subst}
use Rattle.std.proofs.Common.{⊎_elim, arith}
use Rattle.std.specs.Prelude.{Contains, filter, nat_le}
use Rattle.std.proofs.lemmas.Bool.{and_from, and_parts, eqb-true, false≢true, le-leb, or_cases}
use Rattle.std.proofs.lemmas.List.Elements.{Contains-append_left, Contains-append_right}
use Rattle.base_facts.proofs.Lists.{contains-flat_map, contains-map}
use Rattle.base_types.specs.Codes.{either, except}
use Rattle.est_kernel.specs.Preorder.{statement_count}
use Rattle.est_kernel.specs.StaticCodes.{codes_if, has_code, started_codes, resumed_codes}
use Rattle.est_kernel.specs.Steps.{trap_code}
use Rattle.est_kernel.specs.Terms.{Term, Nothing, Pause, Emit, Exit, Present, Suspend, Seq, Loop, Par, Trap, Local, Awake}
use Rattle.est_kernel.proofs.Exports.{except-in, except-parts, lowered-parts, maxima-parts, upto-in}
use Rattle.grc_graph.specs.Edges.{Edge, edge, edges_at, edges_if, go_to_ends, ends_to_ends, branch_to_ends, trapped_to_ends, test_to, to_status}
use Rattle.grc_graph.specs.Formulas.{Formula, Negation}
use Rattle.grc_graph.specs.Layers.{Layer, Resumed, Started, can_pass}
use Rattle.grc_graph.specs.Scopes.{Scope, bind}
use Rattle.grc_graph.specs.Selected.{HasExitCodes}
use Rattle.grc_graph.specs.Spots.{Spot, branch_entry, loop_entry, part_entry, second_entry, suspended_entry, test_formula, tested_entry}
use Rattle.grc_graph.specs.Wires.{Wire, Go, End, listed, status_wire}
use Rattle.grc_graph.proofs.Exports.{resumed_below, started_below}
use Rattle.grc_solutions.proofs.Exports.{EachResumed, EachStarted, every_contained, every_listed}
use Rattle.grc_share_laws.proofs.Lists.{filter-has, listed-in}

-- what each of these edges joins is related
pub record Ups (T : Wire → Wire → Type 0) (es : List Edge) : Type 0 where
  pub up : (e : Edge) → Contains es e → T e.from e.to

left : (T : Wire → Wire → Type 0) (xs ys : List Edge) → Ups T (xs ++ ys) → Ups T xs
left T xs ys h = record { up = λ e c. h.up e (Contains-append_left xs ys e c) }

right : (T : Wire → Wire → Type 0) (xs ys : List Edge) → Ups T (xs ++ ys) → Ups T ys
right T xs ys h = record { up = λ e c. h.up e (Contains-append_right xs ys e c) }

one : (T : Wire → Wire → Type 0) (u w : Wire) → Ups T (edge u w ∷ []) → T u w
one T u w h = h.up (edge u w) (0, omega arith, refl)

one-if : (T : Wire → Wire → Type 0) (b : Bool) (u w : Wire) → Ups T (edges_if b (edge u w ∷ [])) → b ≡ true → T u w
one-if T b u w h e = one T u w (subst (λ c. Ups T (edges_if c (edge u w ∷ []))) e h)

own-end : (T : Wire → Wire → Type 0) (A : ℕ → Bool) (n : ℕ) (l : Layer) (k : ℕ) → Ups T (go_to_ends A n l) → k < 64 → A k ≡ true → T (Go n l) (End n l k)
own-end T A n l k h b e = h.up (edge (Go n l) (End n l k)) (listed-in (λ j. edge (Go n l) (End n l j)) A k b e)

part-end : (T : Wire → Wire → Type 0) (A : ℕ → Bool) (c : ℕ) (j : Layer) (n : ℕ) (l : Layer) (k : ℕ) → Ups T (ends_to_ends A c j n l) → k < 64 → A k ≡ true
    → T (End c j k) (End n l k)
part-end T A c j n l k h b e =
    h.up (edge (End c j k) (End n l k)) (listed-in (λ i. edge (End c j i) (End n l i)) A k b e)

trap-end : (T : Wire → Wire → Type 0) (A : ℕ → Bool) (c n : ℕ) (l : Layer) (k : ℕ) → Ups T (trapped_to_ends A c n l) → k < 64 → A k ≡ true
    → T (End c l k) (End n l (trap_code k))
trap-end T A c n l k h b e =
    h.up (edge (End c l k) (End n l (trap_code k))) (listed-in (λ i. edge (End c l i) (End n l (trap_code i))) A k b e)

branch-end : (T : Wire → Wire → Type 0) (A C : ℕ → Bool) (c n : ℕ) (l : Layer) (j k : ℕ) → Ups T (branch_to_ends A C c n l) → j < 64 → A j ≡ true → k < 64
    → C k ≡ true
    → j ≤ k → T (End c l j) (End n l k)
branch-end T A C c n l j k h a x b y le =
    let has : (S : ℕ → Bool) (i : ℕ) → i < 64 → S i ≡ true → Contains (listed S) i =
    λ S i low e. every_listed (λ m. Contains (listed S) m) S (every_contained (λ m. Contains (listed S) m) (listed S) (λ m d. d)) i low e in
    h.up (edge (End c l j) (End n l k))
    (contains-flat_map (λ i. map (λ m. edge (End c l i) (End n l m)) (filter (λ m. nat_le i m) (listed C))) (listed A) j (edge (End c l j) (End n l k))
    (has A j a x)
    (contains-map (λ m. edge (End c l j) (End n l m)) (filter (λ m. nat_le j m) (listed C)) k
    (filter-has (λ m. nat_le j m) (listed C) k (has C k b y) (le-leb j k le))))

-- the codes of a sequence that is started: those of its first part but 0, and where that may pass those of the second
seq-codes : {X : Type 0} (p q : Term) (k : ℕ) → started_codes (Seq p q) k ≡ true → (started_codes p k ≡ true → except 0 (started_codes p) k ≡ true → X)
    → (started_codes p 0 ≡ true → started_codes q k ≡ true → X) → X
seq-codes {X} p q k e first second = by (started_codes p 0) refl
  where
    by : (b : Bool) → started_codes p 0 ≡ b → X
    by false z =
        let a = subst (λ b. cond b (either (except 0 (started_codes p)) (started_codes q)) (started_codes p) k ≡ true) z e in
        first a (except-in (started_codes p) 0 k a (λ i. false≢true (sym z ∙ subst (λ j. started_codes p j ≡ true) i a)))
    by true z =
        let c = subst (λ b. cond b (either (except 0 (started_codes p)) (started_codes q)) (started_codes p) k ≡ true) z e in
        ⊎_elim (λ a. first (except-parts (started_codes p) 0 k a).0 a) (λ a. second z a) (or_cases (except 0 (started_codes p) k) (started_codes q k) c)

-- ---- what is started

module _ (T : Wire → Wire → Type 0) (join : (u v w : Wire) → T u v → T v w → T u w) where
  then-on : {u v w : Wire} → T u v → T v w → T u w
  then-on {u} {v} {w} a b = join u v w a b

  -- so it is of the edges at an instance
  abbrev pub Rises : Spot → Type 0
  Rises x = Ups T (edges_at x.scope x.statement x.path x.layer)

  pub started-ends : (t : Term) (B : Scope) (f : Layer → Formula) (n r : ℕ) → HasExitCodes t → EachStarted Rises B f t n (Started r)
      → (k : ℕ) → started_codes t k ≡ true → T (Go n (Started r)) (End n (Started r) k)
  started-ends Nothing B f n r x h k e = own-end T (started_codes Nothing) n (Started r) k h (started_below Nothing x k e) e
  started-ends Pause B f n r x h k e = own-end T (started_codes Pause) n (Started r) k h (started_below Pause x k e) e
  started-ends (Emit s) B f n r x h k e =
      let ends = go_to_ends (started_codes (Emit s)) n (Started r) in
      own-end T (started_codes (Emit s)) n (Started r) k (left T ends (to_status (Go n (Started r)) (status_wire (B s) s (Started r))) h)
      (started_below (Emit s) x k e) e
  started-ends (Exit c) B f n r x h k e = own-end T (started_codes (Exit c)) n (Started r) k h (started_below (Exit c) x k e) e
  started-ends (Present t p q) B f n r x h k e =
      let a0 : List Edge = edge (Go n (Started r)) (Go (n + 1) (Started r)) ∷ [] in
      let a1 : List Edge = edge (Go n (Started r)) (Go (n + 1 + statement_count p) (Started r)) ∷ [] in
      let a2 : List Edge = test_to B t (Started r) (Go (n + 1) (Started r)) in
      let a3 : List Edge = test_to B t (Started r) (Go (n + 1 + statement_count p) (Started r)) in
      let a4 : List Edge = ends_to_ends (started_codes p) (n + 1) (Started r) n (Started r) in
      let a5 : List Edge = ends_to_ends (started_codes q) (n + 1 + statement_count p) (Started r) n (Started r) in
      let s4 : List Edge = a4 ++ a5 in
      let s3 : List Edge = a3 ++ s4 in
      let s2 : List Edge = a2 ++ s3 in
      let s1 : List Edge = a1 ++ s2 in
      let u0 : Ups T a0 = left T a0 s1 h.0 in
      let v0 : Ups T s1 = right T a0 s1 h.0 in
      let u1 : Ups T a1 = left T a1 s2 v0 in
      let v1 : Ups T s2 = right T a1 s2 v0 in
      let v2 : Ups T s3 = right T a2 s3 v1 in
      let v3 : Ups T s4 = right T a3 s4 v2 in
      let u4 : Ups T a4 = left T a4 a5 v3 in
      let v4 : Ups T a5 = right T a4 a5 v3 in
      let u5 : Ups T a5 = v4 in
      ⊎_elim
      (λ a. then-on (one T (Go n (Started r)) (Go (n + 1) (Started r)) u0) (then-on (started-ends p B (tested_entry n (n + 1) (test_formula B t))
      (n + 1) r x.0 h.1 k a)
      (part-end T (started_codes p) (n + 1) (Started r) n (Started r) k u4 (started_below p x.0 k a) a)))
      (λ a. then-on (one T (Go n (Started r)) (Go (n + 1 + statement_count p) (Started r)) u1)
      (then-on (started-ends q B (tested_entry n (n + 1 + statement_count p) (λ l. Negation (test_formula B t l))) (n + 1 + statement_count p) r x.1 h.2 k a)
      (part-end T (started_codes q) (n + 1 + statement_count p) (Started r) n (Started r) k u5 (started_below q x.1 k a) a)))
      (or_cases (started_codes p k) (started_codes q k) e)
  started-ends (Suspend t p) B f n r x h k e =
      let a0 : List Edge = edge (Go n (Started r)) (Go (n + 1) (Started r)) ∷ [] in
      let a1 : List Edge = ends_to_ends (started_codes p) (n + 1) (Started r) n (Started r) in
      let u0 : Ups T a0 = left T a0 a1 h.0 in
      let v0 : Ups T a1 = right T a0 a1 h.0 in
      let u1 : Ups T a1 = v0 in
      then-on (one T (Go n (Started r)) (Go (n + 1) (Started r)) u0) (then-on (started-ends p B (suspended_entry n (test_formula B t)) (n + 1) r x h.1 k e)
      (part-end T (started_codes p) (n + 1) (Started r) n (Started r) k u1 (started_below p x k e) e))
  started-ends (Seq p q) B f n r x h k e =
      let a0 : List Edge = edge (Go n (Started r)) (Go (n + 1) (Started r)) ∷ [] in
      let a1 : List Edge = edges_if (started_codes p 0) (edge (End (n + 1) (Started r) 0) (Go (n + 1 + statement_count p) (Started r)) ∷ []) in
      let a2 : List Edge = ends_to_ends (except 0 (started_codes p)) (n + 1) (Started r) n (Started r) in
      let a3 : List Edge = ends_to_ends (codes_if (started_codes p 0) (started_codes q)) (n + 1 + statement_count p) (Started r) n (Started r) in
      let s2 : List Edge = a2 ++ a3 in
      let s1 : List Edge = a1 ++ s2 in
      let u0 : Ups T a0 = left T a0 s1 h.0 in
      let v0 : Ups T s1 = right T a0 s1 h.0 in
      let u1 : Ups T a1 = left T a1 s2 v0 in
      let v1 : Ups T s2 = right T a1 s2 v0 in
      let u2 : Ups T a2 = left T a2 a3 v1 in
      let v2 : Ups T a3 = right T a2 a3 v1 in
      let u3 : Ups T a3 = v2 in
      let first : (j : ℕ) → started_codes p j ≡ true → T (Go n (Started r)) (End (n + 1) (Started r) j) =
      λ j a. then-on (one T (Go n (Started r)) (Go (n + 1) (Started r)) u0) (started-ends p B (branch_entry n (n + 1)) (n + 1) r x.0 h.1 j a) in
      seq-codes p q k e
      (λ a b. then-on (first k a) (part-end T (except 0 (started_codes p)) (n + 1) (Started r) n (Started r) k u2 (started_below p x.0 k a) b))
      (λ a b. then-on (first 0 a) (then-on (one-if T (started_codes p 0) (End (n + 1) (Started r) 0) (Go (n + 1 + statement_count p) (Started r)) u1 a)
      (then-on (started-ends q B (second_entry n (n + 1 + statement_count p)) (n + 1 + statement_count p) r x.1 (h.2 a) k b)
      (part-end T (codes_if (started_codes p 0) (started_codes q)) (n + 1 + statement_count p) (Started r) n (Started r) k u3 (started_below q x.1 k b)
      (and_from (started_codes p 0) (started_codes q k) a b)))))
  started-ends (Loop at p) B f n r x h k e =
      let a0 : List Edge = edge (Go n (Started r)) (Go (n + 1) (Started r)) ∷ [] in
      let a1 : List Edge = ends_to_ends (except 0 (started_codes p)) (n + 1) (Started r) n (Started r) in
      let u0 : Ups T a0 = left T a0 a1 h.0 in
      let v0 : Ups T a1 = right T a0 a1 h.0 in
      let u1 : Ups T a1 = v0 in
      let a = except-parts (started_codes p) 0 k e in
      then-on (one T (Go n (Started r)) (Go (n + 1) (Started r)) u0) (then-on (started-ends p B (loop_entry n) (n + 1) r x h.1 k a.0)
      (part-end T (except 0 (started_codes p)) (n + 1) (Started r) n (Started r) k u1 (started_below p x k a.0) e))
  started-ends (Par p q) B f n r x h k e =
      let a0 : List Edge = edge (Go n (Started r)) (Go (n + 1) (Started r)) ∷ [] in
      let a1 : List Edge = edge (Go n (Started r)) (Go (n + 1 + statement_count p) (Started r)) ∷ [] in
      let a2 : List Edge = branch_to_ends (started_codes p) (started_codes (Par p q)) (n + 1) n (Started r) in
      let a3 : List Edge = branch_to_ends (started_codes q) (started_codes (Par p q)) (n + 1 + statement_count p) n (Started r) in
      let s2 : List Edge = a2 ++ a3 in
      let s1 : List Edge = a1 ++ s2 in
      let u0 : Ups T a0 = left T a0 s1 h.0 in
      let v0 : Ups T s1 = right T a0 s1 h.0 in
      let v1 : Ups T s2 = right T a1 s2 v0 in
      let u2 : Ups T a2 = left T a2 a3 v1 in
      let a = maxima-parts (started_codes p) (started_codes q) k e in
      then-on (one T (Go n (Started r)) (Go (n + 1) (Started r)) u0) (then-on (started-ends p B (branch_entry n (n + 1)) (n + 1) r x.0 h.1 a.0 a.2)
      (branch-end T (started_codes p) (started_codes (Par p q)) (n + 1) n (Started r) a.0 k u2 (started_below p x.0 a.0 a.2) a.2
      (started_below (Par p q) x k e) e (omega (arith, a.4))))
  started-ends (Trap p) B f n r x h k e =
      let a0 : List Edge = edge (Go n (Started r)) (Go (n + 1) (Started r)) ∷ [] in
      let a1 : List Edge = trapped_to_ends (started_codes p) (n + 1) n (Started r) in
      let u0 : Ups T a0 = left T a0 a1 h.0 in
      let v0 : Ups T a1 = right T a0 a1 h.0 in
      let u1 : Ups T a1 = v0 in
      let a = lowered-parts (started_codes p) k e in
      then-on (one T (Go n (Started r)) (Go (n + 1) (Started r)) u0) (then-on (started-ends p B (part_entry n) (n + 1) r x h.1 a.0 a.1)
      (subst (λ c. T (End (n + 1) (Started r) a.0) (End n (Started r) c)) (sym a.2)
      (trap-end T (started_codes p) (n + 1) n (Started r) a.0 u1 (started_below p x a.0 a.1) a.1)))
  started-ends (Local s p) B f n r x h k e =
      let a0 : List Edge = edge (Go n (Started r)) (Go (n + 1) (Started r)) ∷ [] in
      let a1 : List Edge = ends_to_ends (started_codes p) (n + 1) (Started r) n (Started r) in
      let u0 : Ups T a0 = left T a0 a1 h.0 in
      let v0 : Ups T a1 = right T a0 a1 h.0 in
      let u1 : Ups T a1 = v0 in
      then-on (one T (Go n (Started r)) (Go (n + 1) (Started r)) u0) (then-on (started-ends p (bind B s n) (part_entry n) (n + 1) r x h.1 k e)
      (part-end T (started_codes p) (n + 1) (Started r) n (Started r) k u1 (started_below p x k e) e))
  started-ends (Awake t p) B f n r x h k e = absurd x

  -- ---- what is resumed

  has : (p : Term) (k : ℕ) → HasExitCodes p → resumed_codes p k ≡ true → has_code (resumed_codes p) ≡ true
  has p k x e = upto-in (resumed_codes p) k 63 e (omega (arith, resumed_below p x k e))

  pub resumed-ends : (t : Term) (B : Scope) (f : Layer → Formula) (n : ℕ) → HasExitCodes t → EachResumed Rises B f t n
      → (k : ℕ) → resumed_codes t k ≡ true → T (Go n Resumed) (End n Resumed k)
  resumed-ends Nothing B f n x h k e = absurd (false≢true e)
  resumed-ends Pause B f n x h k e = own-end T (resumed_codes Pause) n Resumed k h (resumed_below Pause x k e) e
  resumed-ends (Emit s) B f n x h k e = absurd (false≢true e)
  resumed-ends (Exit c) B f n x h k e = absurd (false≢true e)
  resumed-ends (Present t p q) B f n x h k e =
      let a0 : List Edge = edges_if (has_code (resumed_codes p)) (edge (Go n Resumed) (Go (n + 1) Resumed) ∷ []) in
      let a1 : List Edge = edges_if (has_code (resumed_codes q)) (edge (Go n Resumed) (Go (n + 1 + statement_count p) Resumed) ∷ []) in
      let a2 : List Edge = ends_to_ends (resumed_codes p) (n + 1) Resumed n Resumed in
      let a3 : List Edge = ends_to_ends (resumed_codes q) (n + 1 + statement_count p) Resumed n Resumed in
      let s2 : List Edge = a2 ++ a3 in
      let s1 : List Edge = a1 ++ s2 in
      let u0 : Ups T a0 = left T a0 s1 h.0 in
      let v0 : Ups T s1 = right T a0 s1 h.0 in
      let u1 : Ups T a1 = left T a1 s2 v0 in
      let v1 : Ups T s2 = right T a1 s2 v0 in
      let u2 : Ups T a2 = left T a2 a3 v1 in
      let v2 : Ups T a3 = right T a2 a3 v1 in
      let u3 : Ups T a3 = v2 in
      ⊎_elim
      (λ a. let z = has p k x.0 a in then-on (one-if T (has_code (resumed_codes p)) (Go n Resumed) (Go (n + 1) Resumed) u0 (z))
      (then-on (resumed-ends p B (tested_entry n (n + 1) (test_formula B t)) (n + 1) x.0 (h.1 z) k a)
      (part-end T (resumed_codes p) (n + 1) Resumed n Resumed k u2 (resumed_below p x.0 k a) a)))
      (λ a. let z = has q k x.1 a in then-on (one-if T (has_code (resumed_codes q)) (Go n Resumed) (Go (n + 1 + statement_count p) Resumed) u1 (z))
      (then-on (resumed-ends q B (tested_entry n (n + 1 + statement_count p) (λ l. Negation (test_formula B t l))) (n + 1 + statement_count p) x.1 (h.2 z) k a)
      (part-end T (resumed_codes q) (n + 1 + statement_count p) Resumed n Resumed k u3 (resumed_below q x.1 k a) a)))
      (or_cases (resumed_codes p k) (resumed_codes q k) e)
  resumed-ends (Suspend t p) B f n x h k e =
      let a0 : List Edge = edges_if (has_code (resumed_codes p)) (edge (Go n Resumed) (Go (n + 1) Resumed) ∷ []) in
      let a1 : List Edge = edges_if (resumed_codes (Suspend t p) 1) (edge (Go n Resumed) (End n Resumed 1) ∷ []) in
      let a2 : List Edge = edges_if (has_code (resumed_codes p)) (test_to B t Resumed (Go (n + 1) Resumed)) in
      let a3 : List Edge = edges_if (resumed_codes (Suspend t p) 1) (test_to B t Resumed (End n Resumed 1)) in
      let a4 : List Edge = ends_to_ends (resumed_codes p) (n + 1) Resumed n Resumed in
      let s3 : List Edge = a3 ++ a4 in
      let s2 : List Edge = a2 ++ s3 in
      let s1 : List Edge = a1 ++ s2 in
      let u0 : Ups T a0 = left T a0 s1 h.0 in
      let v0 : Ups T s1 = right T a0 s1 h.0 in
      let u1 : Ups T a1 = left T a1 s2 v0 in
      let v1 : Ups T s2 = right T a1 s2 v0 in
      let v2 : Ups T s3 = right T a2 s3 v1 in
      let v3 : Ups T a4 = right T a3 a4 v2 in
      let u4 : Ups T a4 = v3 in
      ⊎_elim
      (λ a. let z = has p k x a in then-on (one-if T (has_code (resumed_codes p)) (Go n Resumed) (Go (n + 1) Resumed) u0 (z))
      (then-on (resumed-ends p B (suspended_entry n (test_formula B t)) (n + 1) x (h.1 z) k a)
      (part-end T (resumed_codes p) (n + 1) Resumed n Resumed k u4 (resumed_below p x k a) a)))
      (λ a. let d = and_parts (has_code (resumed_codes p)) (k == 1) a in
      let code : k ≡ 1 = eqb-true k 1 d.1 in
      subst (λ c. T (Go n Resumed) (End n Resumed c)) (sym code)
      (one-if T (resumed_codes (Suspend t p) 1) (Go n Resumed) (End n Resumed 1) u1 (subst (λ c. resumed_codes (Suspend t p) c ≡ true) code e)))
      (or_cases (resumed_codes p k) (has_code (resumed_codes p) && k == 1) e)
  resumed-ends (Seq p q) B f n x h k e =
      let a0 : List Edge = edges_if (has_code (resumed_codes p)) (edge (Go n Resumed) (Go (n + 1) Resumed) ∷ []) in
      let a1 : List Edge = edges_if (can_pass p && has_code (resumed_codes q)) (edge (Go n Resumed) (Go (n + 1 + statement_count p) Resumed) ∷ []) in
      let a2 : List Edge = edges_if (resumed_codes p 0) (edge (End (n + 1) Resumed 0) (Go (n + 1 + statement_count p) (Started
      (n + 1 + statement_count p))) ∷ []) in
      let a3 : List Edge = ends_to_ends (except 0 (resumed_codes p)) (n + 1) Resumed n Resumed in
      let a4 : List Edge = ends_to_ends (codes_if (can_pass p) (resumed_codes q)) (n + 1 + statement_count p) Resumed n Resumed in
      let a5 : List Edge = ends_to_ends (codes_if (resumed_codes p 0) (started_codes q)) (n + 1 + statement_count p) (Started
      (n + 1 + statement_count p)) n Resumed in
      let s4 : List Edge = a4 ++ a5 in
      let s3 : List Edge = a3 ++ s4 in
      let s2 : List Edge = a2 ++ s3 in
      let s1 : List Edge = a1 ++ s2 in
      let u0 : Ups T a0 = left T a0 s1 h.0 in
      let v0 : Ups T s1 = right T a0 s1 h.0 in
      let u1 : Ups T a1 = left T a1 s2 v0 in
      let v1 : Ups T s2 = right T a1 s2 v0 in
      let u2 : Ups T a2 = left T a2 s3 v1 in
      let v2 : Ups T s3 = right T a2 s3 v1 in
      let u3 : Ups T a3 = left T a3 s4 v2 in
      let v3 : Ups T s4 = right T a3 s4 v2 in
      let u4 : Ups T a4 = left T a4 a5 v3 in
      let v4 : Ups T a5 = right T a4 a5 v3 in
      let u5 : Ups T a5 = v4 in
      let first : (j : ℕ) → resumed_codes p j ≡ true → T (Go n Resumed) (End (n + 1) Resumed j) =
      λ j a. then-on (one-if T (has_code (resumed_codes p)) (Go n Resumed) (Go (n + 1) Resumed) u0 (has p j x.0 a)) (resumed-ends p B (branch_entry n
      (n + 1)) (n + 1) x.0 (h.1 (has p j x.0 a)) j a) in
      ⊎_elim
      (λ a. let b = except-parts (resumed_codes p) 0 k a in
      then-on (first k b.0) (part-end T (except 0 (resumed_codes p)) (n + 1) Resumed n Resumed k u3 (resumed_below p x.0 k b.0) a))
      (λ a. ⊎_elim
      (λ c. let d = and_parts (resumed_codes p 0) (started_codes q k) c in
      then-on (first 0 d.0) (then-on (one-if T (resumed_codes p 0) (End (n + 1) Resumed 0) (Go (n + 1 + statement_count p) (Started
      (n + 1 + statement_count p))) u2 d.0)
      (then-on (started-ends q B (second_entry n (n + 1 + statement_count p)) (n + 1 + statement_count p) (n + 1 + statement_count p) x.1 (h.3 d.0) k d.1)
      (part-end T (codes_if (resumed_codes p 0) (started_codes q)) (n + 1 + statement_count p) (Started (n + 1 + statement_count p)) n Resumed k u5
      (started_below q x.1 k d.1) c))))
      (λ c. let d = and_parts (can_pass p) (resumed_codes q k) c in
      let second = and_from (can_pass p) (has_code (resumed_codes q)) d.0 (has q k x.1 d.1) in
      then-on (one-if T (can_pass p && has_code (resumed_codes q)) (Go n Resumed) (Go (n + 1 + statement_count p) Resumed) u1 second)
      (then-on (resumed-ends q B (second_entry n (n + 1 + statement_count p)) (n + 1 + statement_count p) x.1 (h.2 second) k d.1)
      (part-end T (codes_if (can_pass p) (resumed_codes q)) (n + 1 + statement_count p) Resumed n Resumed k u4 (resumed_below q x.1 k d.1) c)))
      (or_cases (codes_if (resumed_codes p 0) (started_codes q) k) (codes_if (can_pass p) (resumed_codes q) k) a))
      (or_cases (except 0 (resumed_codes p) k) (codes_if (resumed_codes p 0) (started_codes q) k || codes_if (can_pass p) (resumed_codes q) k) e)
  resumed-ends (Loop at p) B f n x h k e =
      let a0 : List Edge = edges_if (has_code (resumed_codes p)) (edge (Go n Resumed) (Go (n + 1) Resumed) ∷ []) in
      let a1 : List Edge = edges_if (resumed_codes p 0) (edge (End (n + 1) Resumed 0) (Go (n + 1) (Started (n + 1))) ∷ []) in
      let a2 : List Edge = ends_to_ends (except 0 (resumed_codes p)) (n + 1) Resumed n Resumed in
      let a3 : List Edge = ends_to_ends (codes_if (resumed_codes p 0) (except 0 (started_codes p))) (n + 1) (Started (n + 1)) n Resumed in
      let s2 : List Edge = a2 ++ a3 in
      let s1 : List Edge = a1 ++ s2 in
      let u0 : Ups T a0 = left T a0 s1 h.0 in
      let v0 : Ups T s1 = right T a0 s1 h.0 in
      let u1 : Ups T a1 = left T a1 s2 v0 in
      let v1 : Ups T s2 = right T a1 s2 v0 in
      let u2 : Ups T a2 = left T a2 a3 v1 in
      let v2 : Ups T a3 = right T a2 a3 v1 in
      let u3 : Ups T a3 = v2 in
      let first : (j : ℕ) → resumed_codes p j ≡ true → T (Go n Resumed) (End (n + 1) Resumed j) =
      λ j a. then-on (one-if T (has_code (resumed_codes p)) (Go n Resumed) (Go (n + 1) Resumed) u0 (has p j x a)) (resumed-ends p B (loop_entry n) (n + 1) x
      (h.1 (has p j x a)) j a) in
      ⊎_elim
      (λ a. let b = except-parts (resumed_codes p) 0 k a in
      then-on (first k b.0) (part-end T (except 0 (resumed_codes p)) (n + 1) Resumed n Resumed k u2 (resumed_below p x k b.0) a))
      (λ c. let d = and_parts (resumed_codes p 0) (except 0 (started_codes p) k) c in
      let b = except-parts (started_codes p) 0 k d.1 in
      then-on (first 0 d.0) (then-on (one-if T (resumed_codes p 0) (End (n + 1) Resumed 0) (Go (n + 1) (Started (n + 1))) u1 d.0)
      (then-on (started-ends p B (loop_entry n) (n + 1) (n + 1) x (h.2 d.0) k b.0)
      (part-end T (codes_if (resumed_codes p 0) (except 0 (started_codes p))) (n + 1) (Started (n + 1)) n Resumed k u3 (started_below p x k b.0) c))))
      (or_cases (except 0 (resumed_codes p) k) (codes_if (resumed_codes p 0) (except 0 (started_codes p)) k) e)
  resumed-ends (Par p q) B f n x h k e =
      let a0 : List Edge = edges_if (has_code (resumed_codes p)) (edge (Go n Resumed) (Go (n + 1) Resumed) ∷ []) in
      let a1 : List Edge = edges_if (has_code (resumed_codes q)) (edge (Go n Resumed) (Go (n + 1 + statement_count p) Resumed) ∷ []) in
      let a2 : List Edge = go_to_ends (resumed_codes (Par p q)) n Resumed in
      let a3 : List Edge = branch_to_ends (resumed_codes p) (resumed_codes (Par p q)) (n + 1) n Resumed in
      let a4 : List Edge = branch_to_ends (resumed_codes q) (resumed_codes (Par p q)) (n + 1 + statement_count p) n Resumed in
      let s3 : List Edge = a3 ++ a4 in
      let s2 : List Edge = a2 ++ s3 in
      let s1 : List Edge = a1 ++ s2 in
      let v0 : Ups T s1 = right T a0 s1 h.0 in
      let v1 : Ups T s2 = right T a1 s2 v0 in
      let u2 : Ups T a2 = left T a2 s3 v1 in
      own-end T (resumed_codes (Par p q)) n Resumed k u2 (resumed_below (Par p q) x k e) e
  resumed-ends (Trap p) B f n x h k e =
      let a0 : List Edge = edges_if (has_code (resumed_codes p)) (edge (Go n Resumed) (Go (n + 1) Resumed) ∷ []) in
      let a1 : List Edge = trapped_to_ends (resumed_codes p) (n + 1) n Resumed in
      let u0 : Ups T a0 = left T a0 a1 h.0 in
      let v0 : Ups T a1 = right T a0 a1 h.0 in
      let u1 : Ups T a1 = v0 in
      let a = lowered-parts (resumed_codes p) k e in
      let z = has p a.0 x a.1 in
      then-on (one-if T (has_code (resumed_codes p)) (Go n Resumed) (Go (n + 1) Resumed) u0 (z)) (then-on (resumed-ends p B (part_entry n) (n + 1) x
      (h.1 z) a.0 a.1)
      (subst (λ c. T (End (n + 1) Resumed a.0) (End n Resumed c)) (sym a.2)
      (trap-end T (resumed_codes p) (n + 1) n Resumed a.0 u1 (resumed_below p x a.0 a.1) a.1)))
  resumed-ends (Local s p) B f n x h k e =
      let a0 : List Edge = edges_if (has_code (resumed_codes p)) (edge (Go n Resumed) (Go (n + 1) Resumed) ∷ []) in
      let a1 : List Edge = ends_to_ends (resumed_codes p) (n + 1) Resumed n Resumed in
      let u0 : Ups T a0 = left T a0 a1 h.0 in
      let v0 : Ups T a1 = right T a0 a1 h.0 in
      let u1 : Ups T a1 = v0 in
      let z = has p k x e in
      then-on (one-if T (has_code (resumed_codes p)) (Go n Resumed) (Go (n + 1) Resumed) u0 (z)) (then-on (resumed-ends p (bind B s n) (part_entry n)
      (n + 1) x (h.1 z) k e)
      (part-end T (resumed_codes p) (n + 1) Resumed n Resumed k u1 (resumed_below p x k e) e))
  resumed-ends (Awake t p) B f n x h k e = absurd x
