-- The edges at a live instance join wires that exist.
use Rattle.std.proofs.Common.{◌≡◌, ℕ, ◌+◌, ◌<◌, Bool, true, ◌&&◌, cond, leb, List, [], ◌∷◌, ◌++◌, map, filter, refl, ap, ◌∙◌, arith}
use Rattle.std.proofs.lemmas.Bool.{and_parts, and_from, or_left, or_right, cond_both, cond-true}
use Rattle.base_facts.proofs.Lists.{Every, every-append}
use Rattle.base_types.specs.Codes.{except, either}
use Rattle.est_kernel.specs.Terms.{Expression, Tick, Sig, Not, And, Or, Term, Emit, Present, Suspend, Seq, Loop, Par, Trap, Local, Awake}
use Rattle.est_kernel.specs.Preorder.{statement_count}
use Rattle.est_kernel.specs.Steps.{trap_code}
use Rattle.est_kernel.specs.StaticCodes.{codes_if, has_code, started_codes, resumed_codes}
use Rattle.est_kernel.proofs.Exports.{except-parts, upto-in, lowered-in}
use Rattle.grc_graph.specs.Layers.{Layer, Resumed, Started, Liveness, root_if, can_pass}
use Rattle.grc_graph.specs.Scopes.{Binding, Outgoing, BoundAt, Scope}
use Rattle.grc_graph.specs.Wires.{Wire, Go, End, status_wire, listed, instance_codes}
use Rattle.grc_graph.specs.Formulas.{Formula}
use Rattle.grc_graph.specs.Spots.{Spot}
use Rattle.grc_graph.specs.Edges.{Edge, edge, edges_if, go_to_ends, ends_to_ends, branch_to_ends, trapped_to_ends, status_to, test_to, to_status, go_to_part}
use Rattle.grc_graph.specs.Edges.{edges_at}
use Rattle.grc_solutions.proofs.Rows.{Between}
use Rattle.grc_solutions.proofs.Live.{Root, root_left, root_right, root_given, root_own}
use Rattle.grc_solutions.proofs.Pairwise.{every_mapped, every_flat, listed_every}
use Rattle.grc_solutions.proofs.Contexts.{In, Told, Context, go_wire, end_wire, then_part, else_part, suspended_part, first_part, second_part, loop_part}
use Rattle.grc_solutions.proofs.Contexts.{left_part, right_part, trap_part, local_part}
use Rattle.grc_solutions.proofs.EndReads.{every_cond}

every_kept : {A : Type 0} (P : A → Type 0) (c : A → Bool) (xs : List A) → Every P xs → Every P (filter c xs)
every_kept P c [] h = tt
every_kept P c (x ∷ xs) h = cond_both (c x) (x ∷ filter c xs) (filter c xs) (λ l. Every P l) (λ e. (h.0, every_kept P c xs h.1)) (λ e. every_kept P c xs h.1)

pub some_code : (A : ℕ → Bool) (k : ℕ) → k < 64 → A k ≡ true → has_code A ≡ true
some_code A k l e = upto-in A k 63 e (omega arith)

module _ (L : ℕ → List Layer) (g : ℕ → Term) (all : List Spot) (W : Wire → Type 0) (E : Between) (told : Told g all W E) where
  abbrev pub Joins : Edge → Type 0
  Joins e = W e.from × W e.to

  abbrev AllJoin : List Edge → Type 0
  AllJoin es = Every Joins es

  two : (xs ys : List Edge) → AllJoin xs → AllJoin ys → AllJoin (xs ++ ys)
  two xs ys h k = every-append Joins xs ys h k

  if_joins : (b : Bool) (es : List Edge) → (b ≡ true → AllJoin es) → AllJoin (edges_if b es)
  if_joins b es h = every_cond Joins b es h

  ends_join : (A : ℕ → Bool) (n : ℕ) (l : Layer) → W (Go n l) → ((k : ℕ) → A k ≡ true → W (End n l k)) → AllJoin (go_to_ends A n l)
  ends_join A n l w h = every_mapped Joins (λ k. edge (Go n l) (End n l k)) (listed A) (listed_every _ A (λ k u e. (w, h k e)))

  passes_join : (A : ℕ → Bool) (c : ℕ) (j : Layer) (n : ℕ) (l : Layer) → ((k : ℕ) → k < 64 → A k ≡ true → W (End c j k)) →
      ((k : ℕ) → A k ≡ true → W (End n l k)) → AllJoin (ends_to_ends A c j n l)
  passes_join A c j n l h k =
      every_mapped Joins (λ i. edge (End c j i) (End n l i)) (listed A) (listed_every _ A (λ i u e. (h i u e, k i e)))

  branches_join : (A C : ℕ → Bool) (c n : ℕ) (l : Layer) → ((k : ℕ) → k < 64 → A k ≡ true → W (End c l k)) → ((k : ℕ) → C k ≡ true → W (End n l k)) →
      AllJoin (branch_to_ends A C c n l)
  branches_join A C c n l h k =
      every_flat Joins (λ j. map (λ i. edge (End c l j) (End n l i)) (filter (λ i. leb j i) (listed C))) (listed A)
      (listed_every _ A
      (λ j u e.
      every_mapped Joins (λ i. edge (End c l j) (End n l i)) (filter (λ i. leb j i) (listed C))
      (every_kept _ (λ i. leb j i) (listed C) (listed_every _ C (λ i v d. (h j u e, k i d))))))

  trapped_join : (A : ℕ → Bool) (c n : ℕ) (l : Layer) → ((k : ℕ) → k < 64 → A k ≡ true → W (End c l k)) → ((k : ℕ) → A k ≡ true → W (End n l (trap_code k))) →
      AllJoin (trapped_to_ends A c n l)
  trapped_join A c n l h k =
      every_mapped Joins (λ j. edge (End c l j) (End n l (trap_code j))) (listed A) (listed_every _ A (λ j u e. (h j u e, k j e)))

  -- shorthands
  abbrev At : Liveness → Scope → (Layer → Formula) → Term → ℕ → Type 0
  At a B f t n = Context L g all W E told a B f t n

  go_of : {a : Liveness} {B : Scope} {f : Layer → Formula} {t : Term} {n : ℕ} → At a B f t n → (l : Layer) → In a l → W (Go n l)
  go_of c l i = go_wire L g all W E told c l i

  end_of : {a : Liveness} {B : Scope} {f : Layer → Formula} {t : Term} {n : ℕ} → At a B f t n → (l : Layer) → In a l → (k : ℕ) → instance_codes t l k ≡ true →
      W (End n l k)
  end_of c l i k e = end_wire L g all W E told c l i k e

  status_joins : {a : Liveness} {B : Scope} {f : Layer → Formula} {t : Term} {n : ℕ} → At a B f t n → (s : ℕ) (l : Layer) → In a l → (w : Wire) → W w →
      (b : Binding) → B s ≡ b → AllJoin (status_to (status_wire b s l) w)
  status_joins c s l i w h Outgoing e = ((c.outgoing s e, h), tt)
  status_joins c s l i w h (BoundAt d) e = ((c.bound s d l e i, h), tt)
  status_joins c s l i w h _ e = tt

  emission_joins : {a : Liveness} {B : Scope} {f : Layer → Formula} {t : Term} {n : ℕ} → At a B f t n → (s : ℕ) (l : Layer) → In a l → (w : Wire) → W w →
      (b : Binding) → B s ≡ b → AllJoin (to_status w (status_wire b s l))
  emission_joins c s l i w h Outgoing e = ((h, c.outgoing s e), tt)
  emission_joins c s l i w h (BoundAt d) e = ((h, c.bound s d l e i), tt)
  emission_joins c s l i w h _ e = tt

  test_joins : {a : Liveness} {B : Scope} {f : Layer → Formula} {t : Term} {n : ℕ} → At a B f t n → (e : Expression) (l : Layer) → In a l → (w : Wire) → W w →
      AllJoin (test_to B e l w)
  test_joins c Tick l i w h = tt
  test_joins {a} {B} c (Sig s) l i w h = status_joins c s l i w h (B s) refl
  test_joins c (Not x) l i w h = test_joins c x l i w h
  test_joins {a} {B} c (And x y) l i w h = two (test_to B x l w) (test_to B y l w) (test_joins c x l i w h) (test_joins c y l i w h)
  test_joins {a} {B} c (Or x y) l i w h = two (test_to B x l w) (test_to B y l w) (test_joins c x l i w h) (test_joins c y l i w h)

  seq_first : (p q : Term) (k : ℕ) → except 0 (started_codes p) k ≡ true → started_codes (Seq p q) k ≡ true
  seq_first p q k e =
      cond_both (started_codes p 0) (either (except 0 (started_codes p)) (started_codes q)) (started_codes p) (λ A. A k ≡ true)
      (λ z. or_left _ _ e) (λ z. (except-parts (started_codes p) 0 k e).0)

  seq_second : (p q : Term) (k : ℕ) → started_codes p 0 ≡ true → started_codes q k ≡ true → started_codes (Seq p q) k ≡ true
  seq_second p q k z e =
      ap (λ A. A k) (cond-true (started_codes p 0) (either (except 0 (started_codes p)) (started_codes q)) (started_codes p) z)
      ∙ or_right (except 0 (started_codes p) k) (started_codes q k) e

  started_joins : (a : Liveness) (B : Scope) (f : Layer → Formula) (t : Term) (n : ℕ) → At a B f t n → (r : ℕ) → Root r a.roots →
      AllJoin (edges_at B t n (Started r))
  started_joins a B f (Emit s) n c r i =
      two (go_to_ends (started_codes (Emit s)) n (Started r)) (to_status (Go n (Started r)) (status_wire (B s) s (Started r)))
      (ends_join (started_codes (Emit s)) n (Started r) (go_of c (Started r) i) (end_of c (Started r) i))
      (emission_joins c s (Started r) i (Go n (Started r)) (go_of c (Started r) i) (B s) refl)
  started_joins a B f (Present e p q) n c r i =
      let m = n + 1 + statement_count p in
      let l = Started r in
      let x = then_part L g all W E told c in
      let y = else_part L g all W E told c in
      let tp = test_to B e l (Go (n + 1) l) in
      let tq = test_to B e l (Go m l) in
      let ep = ends_to_ends (started_codes p) (n + 1) l n l in
      let eq = ends_to_ends (started_codes q) m l n l in (
        (go_of c l i, go_of x l i),
        (
          (go_of c l i, go_of y l i),
          two tp (tq ++ (ep ++ eq)) (test_joins c e l i (Go (n + 1) l) (go_of x l i))
              (two tq (ep ++ eq) (test_joins c e l i (Go m l) (go_of y l i))
              (two ep eq (passes_join (started_codes p) (n + 1) l n l (λ k u z. end_of x l i k z) (λ k z. end_of c l i k (or_left _ _ z)))
              (passes_join (started_codes q) m l n l (λ k u z. end_of y l i k z) (λ k z. end_of c l i k (or_right _ _ z))))),
        ),
      )
  started_joins a B f (Suspend e p) n c r i =
      let l = Started r in
      let x = suspended_part L g all W E told c in
      ((go_of c l i, go_of x l i), passes_join (started_codes p) (n + 1) l n l (λ k u z. end_of x l i k z) (λ k z. end_of c l i k z))
  started_joins a B f (Seq p q) n c r i =
      let m = n + 1 + statement_count p in
      let l = Started r in
      let x = first_part L g all W E told c in
      let y = second_part L g all W E told c in
      let live = λ (z : started_codes p 0 ≡ true). root_left r (cond (started_codes p 0) a.roots []) (root_if (a.resumed && resumed_codes p 0) m)
      (root_given r (started_codes p 0) a.roots z i) in
      let over = edges_if (started_codes p 0) (edge (End (n + 1) l 0) (Go m l) ∷ []) in
      let ep = ends_to_ends (except 0 (started_codes p)) (n + 1) l n l in
      let eq = ends_to_ends (codes_if (started_codes p 0) (started_codes q)) m l n l in (
        (go_of c l i, go_of x l i),
        two over (ep ++ eq) (if_joins (started_codes p 0) _ (λ z. ((end_of x l i 0 z, go_of y l (live z)), tt)))
            (two ep eq
            (passes_join (except 0 (started_codes p)) (n + 1) l n l (λ k u z. end_of x l i k (except-parts (started_codes p) 0 k z).0)
            (λ k z. end_of c l i k (seq_first p q k z)))
            (passes_join (codes_if (started_codes p 0) (started_codes q)) m l n l
            (λ k u z. let h = and_parts (started_codes p 0) (started_codes q k) z in end_of y l (live h.0) k h.1)
            (λ k z. let h = and_parts (started_codes p 0) (started_codes q k) z in end_of c l i k (seq_second p q k h.0 h.1)))),
      )
  started_joins a B f (Loop at p) n c r i =
      let l = Started r in
      let x = loop_part L g all W E told c in
      let live = root_left r a.roots (root_if (a.resumed && resumed_codes p 0) (n + 1)) i in (
        (go_of c l i, go_of x l live),
        passes_join (except 0 (started_codes p)) (n + 1) l n l
            (λ k u z. end_of x l live k (except-parts (started_codes p) 0 k z).0) (λ k z. end_of c l i k z),
      )
  started_joins a B f (Par p q) n c r i =
      let m = n + 1 + statement_count p in
      let l = Started r in
      let x = left_part L g all W E told c in
      let y = right_part L g all W E told c in
      let C = started_codes (Par p q) in (
        (go_of c l i, go_of x l i),
        (
          (go_of c l i, go_of y l i),
          two (branch_to_ends (started_codes p) C (n + 1) n l) (branch_to_ends (started_codes q) C m n l)
              (branches_join (started_codes p) C (n + 1) n l (λ k u z. end_of x l i k z) (λ k z. end_of c l i k z))
              (branches_join (started_codes q) C m n l (λ k u z. end_of y l i k z) (λ k z. end_of c l i k z)),
        ),
      )
  started_joins a B f (Trap p) n c r i =
      let l = Started r in
      let x = trap_part L g all W E told c in (
        (go_of c l i, go_of x l i),
        trapped_join (started_codes p) (n + 1) n l (λ k u z. end_of x l i k z)
            (λ k z. end_of c l i (trap_code k) (lowered-in (started_codes p) k z)),
      )
  started_joins a B f (Local s p) n c r i =
      let l = Started r in
      let x = local_part L g all W E told c in
      ((go_of c l i, go_of x l i), passes_join (started_codes p) (n + 1) l n l (λ k u z. end_of x l i k z) (λ k z. end_of c l i k z))
  started_joins a B f (Awake e p) n c r i = absurd c.kernel
  started_joins a B f t n c r i = ends_join (started_codes t) n (Started r) (go_of c (Started r) i) (end_of c (Started r) i)

  go_joins : (p : Term) (n m : ℕ) → W (Go n Resumed) → (has_code (resumed_codes p) ≡ true → W (Go m Resumed)) → AllJoin (go_to_part p n m Resumed)
  go_joins p n m w k = if_joins (has_code (resumed_codes p)) (edge (Go n Resumed) (Go m Resumed) ∷ []) (λ e. ((w, k e), tt))

  resumed_joins : (a : Liveness) (B : Scope) (f : Layer → Formula) (t : Term) (n : ℕ) → At a B f t n → a.resumed ≡ true → AllJoin (edges_at B t n Resumed)
  resumed_joins a B f (Emit s) n c i =
      two (go_to_ends (resumed_codes (Emit s)) n Resumed) (to_status (Go n Resumed) (status_wire (B s) s Resumed))
      (ends_join (resumed_codes (Emit s)) n Resumed (go_of c Resumed i) (end_of c Resumed i))
      (emission_joins c s Resumed i (Go n Resumed) (go_of c Resumed i) (B s) refl)
  resumed_joins a B f (Present e p q) n c i =
      let m = n + 1 + statement_count p in
      let x = then_part L g all W E told c in
      let y = else_part L g all W E told c in
      let ep = ends_to_ends (resumed_codes p) (n + 1) Resumed n Resumed in
      let eq = ends_to_ends (resumed_codes q) m Resumed n Resumed in
      two (go_to_part p n (n + 1) Resumed) (go_to_part q n m Resumed ++ (ep ++ eq))
      (go_joins p n (n + 1) (go_of c Resumed i) (λ z. go_of x Resumed (and_from _ _ i z)))
      (two (go_to_part q n m Resumed) (ep ++ eq) (go_joins q n m (go_of c Resumed i) (λ z. go_of y Resumed (and_from _ _ i z)))
      (two ep eq
      (passes_join (resumed_codes p) (n + 1) Resumed n Resumed (λ k u z. end_of x Resumed (and_from _ _ i (some_code (resumed_codes p) k u z)) k z)
      (λ k z. end_of c Resumed i k (or_left _ _ z)))
      (passes_join (resumed_codes q) m Resumed n Resumed (λ k u z. end_of y Resumed (and_from _ _ i (some_code (resumed_codes q) k u z)) k z)
      (λ k z. end_of c Resumed i k (or_right _ _ z)))))
  resumed_joins a B f (Suspend e p) n c i =
      let x = suspended_part L g all W E told c in
      let one = resumed_codes (Suspend e p) 1 in
      let live = has_code (resumed_codes p) in
      let g1 = edges_if one (edge (Go n Resumed) (End n Resumed 1) ∷ []) in
      let tp = edges_if live (test_to B e Resumed (Go (n + 1) Resumed)) in
      let t1 = edges_if one (test_to B e Resumed (End n Resumed 1)) in
      let ep = ends_to_ends (resumed_codes p) (n + 1) Resumed n Resumed in
      two (go_to_part p n (n + 1) Resumed) (g1 ++ (tp ++ (t1 ++ ep)))
      (go_joins p n (n + 1) (go_of c Resumed i) (λ z. go_of x Resumed (and_from _ _ i z)))
      (two g1 (tp ++ (t1 ++ ep)) (if_joins one _ (λ z. ((go_of c Resumed i, end_of c Resumed i 1 z), tt)))
      (two tp (t1 ++ ep) (if_joins live _ (λ z. test_joins c e Resumed i (Go (n + 1) Resumed) (go_of x Resumed (and_from _ _ i z))))
      (two t1 ep (if_joins one _ (λ z. test_joins c e Resumed i (End n Resumed 1) (end_of c Resumed i 1 z)))
      (passes_join (resumed_codes p) (n + 1) Resumed n Resumed (λ k u z. end_of x Resumed (and_from _ _ i (some_code (resumed_codes p) k u z)) k z)
      (λ k z. end_of c Resumed i k (or_left _ _ z))))))
  resumed_joins a B f (Seq p q) n c i =
      let m = n + 1 + statement_count p in
      let x = first_part L g all W E told c in
      let y = second_part L g all W E told c in
      let live = λ (k : ℕ) (u : k < 64) (z : resumed_codes p k ≡ true). and_from a.resumed (has_code (resumed_codes p)) i (some_code (resumed_codes p) k u z) in
      let anew = λ (z : resumed_codes p 0 ≡ true). root_right m (cond (started_codes p 0) a.roots []) (root_if (a.resumed && resumed_codes p 0) m)
      (root_own m (a.resumed && resumed_codes p 0) (and_from _ _ i z)) in
      let gq = edges_if (can_pass p && has_code (resumed_codes q)) (edge (Go n Resumed) (Go m Resumed) ∷ []) in
      let over = edges_if (resumed_codes p 0) (edge (End (n + 1) Resumed 0) (Go m (Started m)) ∷ []) in
      let ep = ends_to_ends (except 0 (resumed_codes p)) (n + 1) Resumed n Resumed in
      let eq = ends_to_ends (codes_if (can_pass p) (resumed_codes q)) m Resumed n Resumed in
      let er = ends_to_ends (codes_if (resumed_codes p 0) (started_codes q)) m (Started m) n Resumed in
      two (go_to_part p n (n + 1) Resumed) (gq ++ (over ++ (ep ++ (eq ++ er))))
      (go_joins p n (n + 1) (go_of c Resumed i) (λ z. go_of x Resumed (and_from _ _ i z)))
      (two gq (over ++ (ep ++ (eq ++ er))) (if_joins (can_pass p && has_code (resumed_codes q)) _
      (λ z. ((go_of c Resumed i, go_of y Resumed (and_from _ _ i z)), tt)))
      (two over (ep ++ (eq ++ er)) (if_joins (resumed_codes p 0) _ (λ z. ((end_of x Resumed (live 0 (omega arith) z) 0 z, go_of y (Started m) (anew z)), tt)))
      (two ep (eq ++ er)
      (passes_join (except 0 (resumed_codes p)) (n + 1) Resumed n Resumed
      (λ k u z. let h = (except-parts (resumed_codes p) 0 k z).0 in end_of x Resumed (live k u h) k h) (λ k z. end_of c Resumed i k (or_left _ _ z)))
      (two eq er
      (passes_join (codes_if (can_pass p) (resumed_codes q)) m Resumed n Resumed
      (λ k u z. let h = and_parts (can_pass p) (resumed_codes q k) z in
      end_of y Resumed (and_from _ _ i (and_from _ _ h.0 (some_code (resumed_codes q) k u h.1))) k h.1)
      (λ k z. end_of c Resumed i k (or_right _ _ (or_right _ _ z))))
      (passes_join (codes_if (resumed_codes p 0) (started_codes q)) m (Started m) n Resumed
      (λ k u z. let h = and_parts (resumed_codes p 0) (started_codes q k) z in end_of y (Started m) (anew h.0) k h.1)
      (λ k z. end_of c Resumed i k (or_right _ _ (or_left _ _ z))))))))
  resumed_joins a B f (Loop at p) n c i =
      let x = loop_part L g all W E told c in
      let live = λ (k : ℕ) (u : k < 64) (z : resumed_codes p k ≡ true). and_from a.resumed (has_code (resumed_codes p)) i (some_code (resumed_codes p) k u z) in
      let anew = λ (z : resumed_codes p 0 ≡ true). root_right (n + 1) a.roots (root_if (a.resumed && resumed_codes p 0) (n + 1))
      (root_own (n + 1) (a.resumed && resumed_codes p 0) (and_from _ _ i z)) in
      let over = edges_if (resumed_codes p 0) (edge (End (n + 1) Resumed 0) (Go (n + 1) (Started (n + 1))) ∷ []) in
      let ep = ends_to_ends (except 0 (resumed_codes p)) (n + 1) Resumed n Resumed in
      let er = ends_to_ends (codes_if (resumed_codes p 0) (except 0 (started_codes p))) (n + 1) (Started (n + 1)) n Resumed in
      two (go_to_part p n (n + 1) Resumed) (over ++ (ep ++ er)) (go_joins p n (n + 1) (go_of c Resumed i) (λ z. go_of x Resumed (and_from _ _ i z)))
      (two over (ep ++ er) (if_joins (resumed_codes p 0) _ (λ z. ((end_of x Resumed (live 0 (omega arith) z) 0 z, go_of x (Started (n + 1)) (anew z)), tt)))
      (two ep er
      (passes_join (except 0 (resumed_codes p)) (n + 1) Resumed n Resumed
      (λ k u z. let h = (except-parts (resumed_codes p) 0 k z).0 in end_of x Resumed (live k u h) k h) (λ k z. end_of c Resumed i k (or_left _ _ z)))
      (passes_join (codes_if (resumed_codes p 0) (except 0 (started_codes p))) (n + 1) (Started (n + 1)) n Resumed
      (λ k u z.
      let h = and_parts (resumed_codes p 0) (except 0 (started_codes p) k) z in
      end_of x (Started (n + 1)) (anew h.0) k (except-parts (started_codes p) 0 k h.1).0)
      (λ k z. end_of c Resumed i k (or_right _ _ z)))))
  resumed_joins a B f (Par p q) n c i =
      let m = n + 1 + statement_count p in
      let x = left_part L g all W E told c in
      let y = right_part L g all W E told c in
      let C = resumed_codes (Par p q) in
      let own = go_to_ends C n Resumed in
      let ep = branch_to_ends (resumed_codes p) C (n + 1) n Resumed in
      let eq = branch_to_ends (resumed_codes q) C m n Resumed in
      two (go_to_part p n (n + 1) Resumed) (go_to_part q n m Resumed ++ (own ++ (ep ++ eq)))
      (go_joins p n (n + 1) (go_of c Resumed i) (λ z. go_of x Resumed (and_from _ _ i z)))
      (two (go_to_part q n m Resumed) (own ++ (ep ++ eq)) (go_joins q n m (go_of c Resumed i) (λ z. go_of y Resumed (and_from _ _ i z)))
      (two own (ep ++ eq) (ends_join C n Resumed (go_of c Resumed i) (end_of c Resumed i))
      (two ep eq
      (branches_join (resumed_codes p) C (n + 1) n Resumed (λ k u z. end_of x Resumed (and_from _ _ i (some_code (resumed_codes p) k u z)) k z)
      (λ k z. end_of c Resumed i k z))
      (branches_join (resumed_codes q) C m n Resumed (λ k u z. end_of y Resumed (and_from _ _ i (some_code (resumed_codes q) k u z)) k z)
      (λ k z. end_of c Resumed i k z)))))
  resumed_joins a B f (Trap p) n c i =
      let x = trap_part L g all W E told c in
      two (go_to_part p n (n + 1) Resumed) (trapped_to_ends (resumed_codes p) (n + 1) n Resumed)
      (go_joins p n (n + 1) (go_of c Resumed i) (λ z. go_of x Resumed (and_from _ _ i z)))
      (trapped_join (resumed_codes p) (n + 1) n Resumed (λ k u z. end_of x Resumed (and_from _ _ i (some_code (resumed_codes p) k u z)) k z)
      (λ k z. end_of c Resumed i (trap_code k) (lowered-in (resumed_codes p) k z)))
  resumed_joins a B f (Local s p) n c i =
      let x = local_part L g all W E told c in
      two (go_to_part p n (n + 1) Resumed) (ends_to_ends (resumed_codes p) (n + 1) Resumed n Resumed)
      (go_joins p n (n + 1) (go_of c Resumed i) (λ z. go_of x Resumed (and_from _ _ i z)))
      (passes_join (resumed_codes p) (n + 1) Resumed n Resumed (λ k u z. end_of x Resumed (and_from _ _ i (some_code (resumed_codes p) k u z)) k z)
      (λ k z. end_of c Resumed i k z))
  resumed_joins a B f (Awake e p) n c i = absurd c.kernel
  resumed_joins a B f t n c i = ends_join (resumed_codes t) n Resumed (go_of c Resumed i) (end_of c Resumed i)

  pub edges_join : {a : Liveness} {B : Scope} {f : Layer → Formula} {t : Term} {n : ℕ} → At a B f t n → (l : Layer) → In a l → AllJoin (edges_at B t n l)
  edges_join {a} {B} {f} {t} {n} c Resumed i = resumed_joins a B f t n c i
  edges_join {a} {B} {f} {t} {n} c (Started r) i = started_joins a B f t n c r i
