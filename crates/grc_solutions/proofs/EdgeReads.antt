-- Each edge at a live instance ends at a wire whose equation reads its beginning.
use Rattle.std.proofs.Common.{◌≡◌, ℕ, zero, suc, ◌+◌, ◌<◌, ◌≤◌, Bool, true, false, ◌&&◌, ◌==◌, cond, leb, List, [], ◌∷◌, ◌++◌, length, map, get_or, refl, sym}
use Rattle.std.proofs.Common.{ap, ◌∙◌}
use Rattle.std.proofs.Common.{subst, inl, inr, ⊎_elim, arith}
use Rattle.std.specs.Prelude.{Contains, filter}
use Rattle.std.proofs.lemmas.Bool.{and_from, cond_both, cond-true, cond-false, eq-eqb, ne_eqb, leb-true, false≢true}
use Rattle.base_facts.proofs.Lists.{Every, every-append}
use Rattle.base_types.specs.Codes.{except}
use Rattle.est_kernel.specs.Terms.{Expression, Tick, Sig, Not, And, Or, Term, Emit, Exit, Present, Suspend, Seq, Loop, Par, Trap, Local, Awake}
use Rattle.est_kernel.specs.Preorder.{statement_count}
use Rattle.est_kernel.specs.Steps.{trap_code}
use Rattle.est_kernel.specs.StaticCodes.{codes_if, has_code, started_codes, resumed_codes}
use Rattle.grc_graph.specs.Layers.{Layer, Resumed, Started, Liveness, root_if, can_pass, layer_above}
use Rattle.grc_graph.specs.Scopes.{Binding, Outgoing, BoundAt, Scope}
use Rattle.grc_graph.specs.Wires.{Wire, Out, Go, StatusOf, End, status_wire, listed, instance_codes}
use Rattle.grc_graph.specs.Formulas.{Formula, Value, Selected, Upto, Conjunction, any_of}
use Rattle.grc_graph.specs.Spots.{Spot, status_formula, test_formula}
use Rattle.grc_graph.specs.Equations.{part_end, trapped_ends, branch_over, end_formula, is_wire, emits_on, emissions}
use Rattle.grc_graph.specs.Edges.{Edge, edge, edges_if, go_to_ends, ends_to_ends, branch_to_ends, trapped_to_ends, status_to, test_to, to_status, go_to_part}
use Rattle.grc_graph.specs.Edges.{edges_at}
use Rattle.grc_graph.proofs.Exports.{same_wire-self}
use Rattle.grc_solutions.specs.GraphWires.{IsRead}
use Rattle.grc_solutions.proofs.Each.{spot}
use Rattle.grc_solutions.proofs.Lists.{every_all}
use Rattle.grc_solutions.proofs.Rows.{Between}
use Rattle.grc_solutions.proofs.Live.{Root, root_left, root_right, root_given, root_own}
use Rattle.grc_solutions.proofs.Pairwise.{every_mapped, every_flat, listed_every}
use Rattle.grc_solutions.proofs.Contexts.{In, Told, Context, code_below, own, looks, then_part, else_part, suspended_part, first_part, second_part, loop_part}
use Rattle.grc_solutions.proofs.Contexts.{left_part, right_part, trap_part, local_part}
use Rattle.grc_solutions.proofs.EdgeJoins.{some_code}
use Rattle.grc_solutions.proofs.EndReads.{every_cond}

-- ---- what the or of a list reads

pub any_left : (u : Wire) (fs gs : List Formula) → IsRead u (any_of fs) → IsRead u (any_of (fs ++ gs))
any_left u [] gs h = absurd h
any_left u (a ∷ []) [] h = h
any_left u (a ∷ []) (b ∷ gs) h = inl h
any_left u (a ∷ (b ∷ fs)) gs h = ⊎_elim (λ r. inl r) (λ r. inr (any_left u (b ∷ fs) gs r)) h

pub any_right : (u : Wire) (fs gs : List Formula) → IsRead u (any_of gs) → IsRead u (any_of (fs ++ gs))
any_right u [] gs h = h
any_right u (a ∷ []) [] h = absurd h
any_right u (a ∷ []) (b ∷ gs) h = inr h
any_right u (a ∷ (b ∷ fs)) gs h = inr (any_right u (b ∷ fs) gs h)

if_read : (u : Wire) (b : Bool) (a : Formula) → b ≡ true → IsRead u a → IsRead u (any_of (cond b (a ∷ []) []))
if_read u true a e h = h
if_read u false a e h = absurd (false≢true e)

end_read : (A : ℕ → Bool) (c : ℕ) (l : Layer) (k : ℕ) → A k ≡ true → IsRead (End c l k) (any_of (part_end A c l k))
end_read A c l k e = if_read (End c l k) (A k) (Value (End c l k)) e refl

trapped_read : (A : ℕ → Bool) (c : ℕ) (l : Layer) (j : ℕ) → A j ≡ true → IsRead (End c l j) (any_of (trapped_ends A c l (trap_code j)))
trapped_read A c l zero e = any_left (End c l 0) (part_end A c l 0) (part_end A c l 2) (end_read A c l 0 e)
trapped_read A c l (suc zero) e = end_read A c l 1 e
trapped_read A c l (suc (suc zero)) e = any_right (End c l 2) (part_end A c l 0) (part_end A c l 2) (end_read A c l 2 e)
trapped_read A c l (suc (suc (suc k))) e = end_read A c l (suc (suc (suc k))) e

-- an end of a branch in what says that a resumed branch ends with at most k
branch_read : (A : ℕ → Bool) (n c j k : ℕ) → has_code A ≡ true → j ≤ k →
    IsRead (End c Resumed j) (any_of (cond (has_code A) (Conjunction (Selected c) (Upto c Resumed k) ∷ []) [] ++ branch_over n c ∷ []))
branch_read A n c j k e u =
    any_left (End c Resumed j) (cond (has_code A) (Conjunction (Selected c) (Upto c Resumed k) ∷ []) []) (branch_over n c ∷ [])
    (if_read (End c Resumed j) (has_code A) (Conjunction (Selected c) (Upto c Resumed k)) e (inr (j, u, refl)))

-- an emission in the formula of its status wire
pub emission_read : (w : Wire) (x : Spot) (xs : List Spot) → Contains xs x → emits_on w x.statement x.scope x.layer ≡ true →
    IsRead (Go x.path x.layer) (any_of (emissions w xs))
emission_read w x [] c e = absurd (omega (arith, c.1))
emission_read w x (y ∷ xs) c e = go c.0 c.1 c.2 (λ d. emission_read w x xs d e)
  where
    here : (z : Spot) → z ≡ x → IsRead (Go x.path x.layer) (any_of (cond (emits_on w z.statement z.scope z.layer) (Value (Go z.path z.layer) ∷ emissions w xs)
        (emissions w xs)))
    here z s =
        subst (λ (v : Spot). IsRead (Go x.path x.layer) (any_of (cond (emits_on w v.statement v.scope v.layer) (Value (Go v.path v.layer) ∷ emissions w xs)
        (emissions w xs)))) (sym s)
        (subst (λ fs. IsRead (Go x.path x.layer) (any_of fs))
        (sym (cond-true (emits_on w x.statement x.scope x.layer) (Value (Go x.path x.layer) ∷ emissions w xs) (emissions w xs) e))
        (any_left (Go x.path x.layer) (Value (Go x.path x.layer) ∷ []) (emissions w xs) refl))

    later : IsRead (Go x.path x.layer) (any_of (emissions w xs)) → IsRead (Go x.path x.layer) (any_of (emissions w (y ∷ xs)))
    later h =
        cond_both (emits_on w y.statement y.scope y.layer) (Value (Go y.path y.layer) ∷ emissions w xs) (emissions w xs)
        (λ fs. IsRead (Go x.path x.layer) (any_of fs)) (λ i. any_right (Go x.path x.layer) (Value (Go y.path y.layer) ∷ []) (emissions w xs) h) (λ i. h)

    go : (k : ℕ) → k < suc (length xs) → get_or (y ∷ xs) k x ≡ x → (Contains xs x → IsRead (Go x.path x.layer) (any_of (emissions w xs))) →
        IsRead (Go x.path x.layer) (any_of (emissions w (y ∷ xs)))
    go zero l s r = here y s
    go (suc k) l s r = later (r (k, omega arith, s))

-- ---- the equations of all wires

abbrev pub IsStatus : Wire → Type 0
IsStatus (Out s) = Unit {0}
IsStatus (Go n l) = ⊥
IsStatus (StatusOf n l) = Unit {0}
IsStatus (End n l k) = ⊥

-- in equations, which say the formula of each wire: the entry of each instance, its ends, and the status wires, which
-- read their emissions
pub record Stands (all : List Spot) (W : Wire → Type 0) (Is : Wire → Formula → Type 0) : Type 0 where
  pub go : (x : Spot) → Contains all x → Is (Go x.path x.layer) x.entry
  pub ends : (x : Spot) → Contains all x → (k : ℕ) → k < 64 → instance_codes x.statement x.layer k ≡ true →
      Is (End x.path x.layer k) (end_formula x.scope x.statement x.path x.layer k)
  pub status : (x : Spot) → Contains all x → (w : Wire) → W w → IsStatus w → emits_on w x.statement x.scope x.layer ≡ true →
      (f : Formula) × Is w f × IsRead (Go x.path x.layer) f

where_kept : {A : Type 0} (P : A → Type 0) (c : A → Bool) (xs : List A) → Every (λ x. c x ≡ true → P x) xs → Every P (filter c xs)
where_kept P c [] h = tt
where_kept P c (x ∷ xs) h =
    cond_both (c x) (x ∷ filter c xs) (filter c xs) (λ l. Every P l) (λ e. (h.0 e, where_kept P c xs h.1)) (λ e. where_kept P c xs h.1)

module _ (L : ℕ → List Layer) (g : ℕ → Term) (all : List Spot) (W : Wire → Type 0) (E : Between) (told : Told g all W E) (Is : Wire → Formula → Type 0)
    (stands : Stands all W Is) where
  -- the equation of the end of an edge, where the end is a wire, reads its beginning
  abbrev pub EdgeRead : Edge → Type 0
  EdgeRead e = W e.to → (f : Formula) × Is e.to f × IsRead e.from f

  abbrev AllRead : List Edge → Type 0
  AllRead es = Every EdgeRead es

  two : (xs ys : List Edge) → AllRead xs → AllRead ys → AllRead (xs ++ ys)
  two xs ys h k = every-append EdgeRead xs ys h k

  if_reads : (b : Bool) (es : List Edge) → (b ≡ true → AllRead es) → AllRead (edges_if b es)
  if_reads b es h = every_cond EdgeRead b es h

  -- shorthands
  abbrev At : Liveness → Scope → (Layer → Formula) → Term → ℕ → Type 0
  At a B f t n = Context L g all W E told a B f t n

  own_of : {a : Liveness} {B : Scope} {f : Layer → Formula} {t : Term} {n : ℕ} → At a B f t n → (l : Layer) → In a l → Contains all (spot B f t n l)
  own_of c l i = own L g all W E told c l i

  is_end : {a : Liveness} {B : Scope} {f : Layer → Formula} {t : Term} {n : ℕ} → At a B f t n → (l : Layer) → In a l → (k : ℕ) → W (End n l k) →
      Is (End n l k) (end_formula B t n l k)
  is_end {a} {B} {f} {t} {n} c l i k w =
      let e = subst (λ z. instance_codes z l k ≡ true) (looks L g all W E told c) (told.codes n l k w) in
      stands.ends (spot B f t n l) (own_of c l i) k (code_below t l c.kernel k e) e

  to_end : {a : Liveness} {B : Scope} {f : Layer → Formula} {t : Term} {n : ℕ} → At a B f t n → (l : Layer) → In a l → (u : Wire) (k : ℕ) →
      IsRead u (end_formula B t n l k) → EdgeRead (edge u (End n l k))
  to_end {a} {B} {f} {t} {n} c l i u k h w = (end_formula B t n l k, is_end c l i k w, h)

  is_go : {a : Liveness} {B : Scope} {f : Layer → Formula} {t : Term} {n : ℕ} → At a B f t n → (l : Layer) → In a l → Is (Go n l) (f l)
  is_go {a} {B} {f} {t} {n} c l i = stands.go (spot B f t n l) (own_of c l i)

  to_go : {a : Liveness} {B : Scope} {f : Layer → Formula} {t : Term} {n : ℕ} → At a B f t n → (l : Layer) → In a l → (u : Wire) → IsRead u (f l) →
      EdgeRead (edge u (Go n l))
  to_go {a} {B} {f} {t} {n} c l i u h w = (f l, is_go c l i, h)

  ends_read : {a : Liveness} {B : Scope} {f : Layer → Formula} {t : Term} {n : ℕ} → At a B f t n → (l : Layer) → In a l → (A : ℕ → Bool) →
      ((k : ℕ) → IsRead (Go n l) (end_formula B t n l k)) → AllRead (go_to_ends A n l)
  ends_read {a} {B} {f} {t} {n} c l i A h =
      every_mapped EdgeRead (λ k. edge (Go n l) (End n l k)) (listed A) (every_all _ (listed A) (λ k. to_end c l i (Go n l) k (h k)))

  passes_read : {a : Liveness} {B : Scope} {f : Layer → Formula} {t : Term} {n : ℕ} → At a B f t n → (l : Layer) → In a l → (A : ℕ → Bool) (d : ℕ) (j : Layer) →
      ((k : ℕ) → A k ≡ true → IsRead (End d j k) (end_formula B t n l k)) → AllRead (ends_to_ends A d j n l)
  passes_read {a} {B} {f} {t} {n} c l i A d j h =
      every_mapped EdgeRead (λ k. edge (End d j k) (End n l k)) (listed A) (listed_every _ A (λ k u e. to_end c l i (End d j k) k (h k e)))

  branches_read : {a : Liveness} {B : Scope} {f : Layer → Formula} {t : Term} {n : ℕ} → At a B f t n → (l : Layer) → In a l → (A C : ℕ → Bool) (d : ℕ) →
      ((j k : ℕ) → j < 64 → A j ≡ true → j ≤ k → IsRead (End d l j) (end_formula B t n l k)) → AllRead (branch_to_ends A C d n l)
  branches_read {a} {B} {f} {t} {n} c l i A C d h =
      every_flat EdgeRead (λ j. map (λ k. edge (End d l j) (End n l k)) (filter (λ k. leb j k) (listed C))) (listed A)
      (listed_every _ A
      (λ j u e.
      every_mapped EdgeRead (λ k. edge (End d l j) (End n l k)) (filter (λ k. leb j k) (listed C))
      (where_kept _ (λ k. leb j k) (listed C) (every_all _ (listed C) (λ k s. to_end c l i (End d l j) k (h j k u e (leb-true j k s)))))))

  trapped_reads : {a : Liveness} {B : Scope} {f : Layer → Formula} {t : Term} {n : ℕ} → At a B f t n → (l : Layer) → In a l → (A : ℕ → Bool) (d : ℕ) →
      ((j : ℕ) → A j ≡ true → IsRead (End d l j) (end_formula B t n l (trap_code j))) → AllRead (trapped_to_ends A d n l)
  trapped_reads {a} {B} {f} {t} {n} c l i A d h =
      every_mapped EdgeRead (λ j. edge (End d l j) (End n l (trap_code j))) (listed A)
      (listed_every _ A (λ j u e. to_end c l i (End d l j) (trap_code j) (h j e)))

  -- the status wires that a test reads, where the formula of the wire w has the test in it
  tests_read : (B : Scope) (e : Expression) (l : Layer) (w : Wire) (a : Formula) → (W w → Is w a) → ((u : Wire) → IsRead u (test_formula B e l) → IsRead u a) →
      AllRead (test_to B e l w)
  tests_read B Tick l w a is h = tt
  tests_read B (Sig s) l w a is h = go (B s) h
    where
      go : (b : Binding) → ((u : Wire) → IsRead u (status_formula b s l) → IsRead u a) → AllRead (status_to (status_wire b s l) w)
      go Outgoing h = ((λ v. (a, is v, h (Out s) refl)), tt)
      go (BoundAt d) h = ((λ v. (a, is v, h (StatusOf d (layer_above d l)) refl)), tt)
      go _ h = tt
  tests_read B (Not x) l w a is h = tests_read B x l w a is h
  tests_read B (And x y) l w a is h =
      two (test_to B x l w) (test_to B y l w) (tests_read B x l w a is (λ u r. h u (inl r))) (tests_read B y l w a is (λ u r. h u (inr r)))
  tests_read B (Or x y) l w a is h =
      two (test_to B x l w) (test_to B y l w) (tests_read B x l w a is (λ u r. h u (inl r))) (tests_read B y l w a is (λ u r. h u (inr r)))

  emitted : {a : Liveness} {B : Scope} {f : Layer → Formula} {s n : ℕ} → At a B f (Emit s) n → (l : Layer) → In a l →
      AllRead (to_status (Go n l) (status_wire (B s) s l))
  emitted {a} {B} {f} {s} {n} c l i = go (B s) refl
    where
      on : (b : Binding) → B s ≡ b → (w : Wire) → is_wire (status_wire b s l) w ≡ true → IsStatus w → EdgeRead (edge (Go n l) w)
      on b e w h t v = stands.status (spot B f (Emit s) n l) (own_of c l i) w v t (ap (λ d. is_wire (status_wire d s l) w) e ∙ h)

      go : (b : Binding) → B s ≡ b → AllRead (to_status (Go n l) (status_wire b s l))
      go Outgoing e = (on Outgoing e (Out s) (same_wire-self (Out s)) tt, tt)
      go (BoundAt d) e = (on (BoundAt d) e (StatusOf d (layer_above d l)) (same_wire-self (StatusOf d (layer_above d l))) tt, tt)
      go _ e = tt

  -- one of two or three parts that an end may come from
  one_of : {a : Liveness} {B : Scope} {f : Layer → Formula} {t : Term} {n : ℕ} → At a B f t n → (l : Layer) → In a l → (A : ℕ → Bool) (d : ℕ) (j : Layer)
      (before behind : ℕ → List Formula) → ((k : ℕ) → end_formula B t n l k ≡ any_of (before k ++ (part_end A d j k ++ behind k))) →
      AllRead (ends_to_ends A d j n l)
  one_of c l i A d j before behind e =
      passes_read c l i A d j
      (λ k z.
      subst (IsRead (End d j k)) (sym (e k))
      (any_right (End d j k) (before k) (part_end A d j k ++ behind k) (any_left (End d j k) (part_end A d j k) (behind k) (end_read A d j k z))))

  -- the last of them
  last_of : {a : Liveness} {B : Scope} {f : Layer → Formula} {t : Term} {n : ℕ} → At a B f t n → (l : Layer) → In a l → (A : ℕ → Bool) (d : ℕ) (j : Layer)
      (before : ℕ → List Formula) → ((k : ℕ) → end_formula B t n l k ≡ any_of (before k ++ part_end A d j k)) → AllRead (ends_to_ends A d j n l)
  last_of c l i A d j before e =
      passes_read c l i A d j
      (λ k z. subst (IsRead (End d j k)) (sym (e k)) (any_right (End d j k) (before k) (part_end A d j k) (end_read A d j k z)))

  -- ---- the rows of a start

  started_reads : (a : Liveness) (B : Scope) (f : Layer → Formula) (t : Term) (n : ℕ) → At a B f t n → (r : ℕ) → Root r a.roots →
      AllRead (edges_at B t n (Started r))
  started_reads a B f (Emit s) n c r i =
      let l = Started r in
      two (go_to_ends (started_codes (Emit s)) n l) (to_status (Go n l) (status_wire (B s) s l)) (ends_read c l i (started_codes (Emit s)) (λ k. refl))
      (emitted c l i)
  started_reads a B f (Exit k) n c r i = ends_read c (Started r) i (started_codes (Exit k)) (λ k. refl)
  started_reads a B f (Present e p q) n c r i =
      let m = n + 1 + statement_count p in
      let l = Started r in
      let x = then_part L g all W E told c in
      let y = else_part L g all W E told c in
      let tp = test_to B e l (Go (n + 1) l) in
      let tq = test_to B e l (Go m l) in
      let ep = ends_to_ends (started_codes p) (n + 1) l n l in
      let eq = ends_to_ends (started_codes q) m l n l in (
        to_go x l i (Go n l) (inl refl),
        (
          to_go y l i (Go n l) (inl refl),
          two tp (tq ++ (ep ++ eq)) (tests_read B e l (Go (n + 1) l) _ (λ w. is_go x l i) (λ u h. inr h))
              (two tq (ep ++ eq) (tests_read B e l (Go m l) _ (λ w. is_go y l i) (λ u h. inr h))
              (two ep eq (one_of c l i (started_codes p) (n + 1) l (λ k. []) (λ k. part_end (started_codes q) m l k) (λ k. refl))
              (last_of c l i (started_codes q) m l (λ k. part_end (started_codes p) (n + 1) l k) (λ k. refl)))),
        ),
      )
  started_reads a B f (Suspend e p) n c r i =
      let l = Started r in
      let x = suspended_part L g all W E told c in
      (to_go x l i (Go n l) refl, last_of c l i (started_codes p) (n + 1) l (λ k. []) (λ k. refl))
  started_reads a B f (Seq p q) n c r i =
      let m = n + 1 + statement_count p in
      let l = Started r in
      let x = first_part L g all W E told c in
      let y = second_part L g all W E told c in
      let live = λ (z : started_codes p 0 ≡ true). root_left r (cond (started_codes p 0) a.roots []) (root_if (a.resumed && resumed_codes p 0) m)
      (root_given r (started_codes p 0) a.roots z i) in
      let low = c.low r i in
      let over = edges_if (started_codes p 0) (edge (End (n + 1) l 0) (Go m l) ∷ []) in
      let ep = ends_to_ends (except 0 (started_codes p)) (n + 1) l n l in
      let eq = ends_to_ends (codes_if (started_codes p 0) (started_codes q)) m l n l in (
        to_go x l i (Go n l) refl,
        two over (ep ++ eq) (if_reads (started_codes p 0) _
            (λ z. (
              to_go y l (live z) (End (n + 1) l 0)
                  (ap (λ j. End (n + 1) j 0) (sym (cond-false (r == m) Resumed (Started r) (ne_eqb r m (λ s. omega arith))))),
              tt,
            )))
            (two ep eq
            (one_of c l i (except 0 (started_codes p)) (n + 1) l (λ k. []) (λ k. part_end (codes_if (started_codes p 0) (started_codes q)) m l k) (λ k. refl))
            (last_of c l i (codes_if (started_codes p 0) (started_codes q)) m l (λ k. part_end (except 0 (started_codes p)) (n + 1) l k) (λ k. refl))),
      )
  started_reads a B f (Loop at p) n c r i =
      let l = Started r in
      let x = loop_part L g all W E told c in
      let live = root_left r a.roots (root_if (a.resumed && resumed_codes p 0) (n + 1)) i in
      let low = c.low r i in (
        to_go x l live (Go n l) (sym (cond-false (r == n + 1) (End (n + 1) Resumed 0) (Go n (Started r)) (ne_eqb r (n + 1) (λ s. omega arith)))),
        last_of c l i (except 0 (started_codes p)) (n + 1) l (λ k. []) (λ k. refl),
      )
  started_reads a B f (Par p q) n c r i =
      let m = n + 1 + statement_count p in
      let l = Started r in
      let x = left_part L g all W E told c in
      let y = right_part L g all W E told c in
      let C = started_codes (Par p q) in (
        to_go x l i (Go n l) refl,
        (
          to_go y l i (Go n l) refl,
          two (branch_to_ends (started_codes p) C (n + 1) n l) (branch_to_ends (started_codes q) C m n l)
              (branches_read c l i (started_codes p) C (n + 1) (λ j k u z s. inl (j, s, refl)))
              (branches_read c l i (started_codes q) C m (λ j k u z s. inr (inl (j, s, refl)))),
        ),
      )
  started_reads a B f (Trap p) n c r i =
      let l = Started r in
      let x = trap_part L g all W E told c in
      (to_go x l i (Go n l) refl, trapped_reads c l i (started_codes p) (n + 1) (λ j z. trapped_read (started_codes p) (n + 1) l j z))
  started_reads a B f (Local s p) n c r i =
      let l = Started r in
      let x = local_part L g all W E told c in
      (to_go x l i (Go n l) refl, last_of c l i (started_codes p) (n + 1) l (λ k. []) (λ k. refl))
  started_reads a B f (Awake e p) n c r i = absurd c.kernel
  started_reads a B f t n c r i = ends_read c (Started r) i (started_codes t) (λ k. refl)

  -- ---- the rows of what is resumed

  resumed_go : {b : Liveness} {B : Scope} {f : Layer → Formula} {p : Term} {m : ℕ} (n : ℕ) → At b B f p m →
      (has_code (resumed_codes p) ≡ true → b.resumed ≡ true) → IsRead (Go n Resumed) (f Resumed) → AllRead (go_to_part p n m Resumed)
  resumed_go {b} {B} {f} {p} {m} n x live h =
      if_reads (has_code (resumed_codes p)) (edge (Go n Resumed) (Go m Resumed) ∷ []) (λ z. (to_go x Resumed (live z) (Go n Resumed) h, tt))

  resumed_reads : (a : Liveness) (B : Scope) (f : Layer → Formula) (t : Term) (n : ℕ) → At a B f t n → a.resumed ≡ true → AllRead (edges_at B t n Resumed)
  resumed_reads a B f (Emit s) n c i =
      two (go_to_ends (resumed_codes (Emit s)) n Resumed) (to_status (Go n Resumed) (status_wire (B s) s Resumed))
      (ends_read c Resumed i (resumed_codes (Emit s)) (λ k. refl)) (emitted c Resumed i)
  resumed_reads a B f (Exit k) n c i = ends_read c Resumed i (resumed_codes (Exit k)) (λ k. refl)
  resumed_reads a B f (Present e p q) n c i =
      let m = n + 1 + statement_count p in
      let x = then_part L g all W E told c in
      let y = else_part L g all W E told c in
      let ep = ends_to_ends (resumed_codes p) (n + 1) Resumed n Resumed in
      let eq = ends_to_ends (resumed_codes q) m Resumed n Resumed in
      two (go_to_part p n (n + 1) Resumed) (go_to_part q n m Resumed ++ (ep ++ eq)) (resumed_go n x (λ z. and_from _ _ i z) (inl refl))
      (two (go_to_part q n m Resumed) (ep ++ eq) (resumed_go n y (λ z. and_from _ _ i z) (inl refl))
      (two ep eq (one_of c Resumed i (resumed_codes p) (n + 1) Resumed (λ k. []) (λ k. part_end (resumed_codes q) m Resumed k) (λ k. refl))
      (last_of c Resumed i (resumed_codes q) m Resumed (λ k. part_end (resumed_codes p) (n + 1) Resumed k) (λ k. refl))))
  resumed_reads a B f (Suspend e p) n c i =
      let x = suspended_part L g all W E told c in
      let one = resumed_codes (Suspend e p) 1 in
      let live = has_code (resumed_codes p) in
      let held = Conjunction (Value (Go n Resumed)) (test_formula B e Resumed) ∷ [] in
      let g1 = edges_if one (edge (Go n Resumed) (End n Resumed 1) ∷ []) in
      let tp = edges_if live (test_to B e Resumed (Go (n + 1) Resumed)) in
      let t1 = edges_if one (test_to B e Resumed (End n Resumed 1)) in
      let ep = ends_to_ends (resumed_codes p) (n + 1) Resumed n Resumed in
      two (go_to_part p n (n + 1) Resumed) (g1 ++ (tp ++ (t1 ++ ep))) (resumed_go n x (λ z. and_from _ _ i z) (inl refl))
      (two g1 (tp ++ (t1 ++ ep))
      (if_reads one _
      (λ z. (to_end c Resumed i (Go n Resumed) 1 (any_right (Go n Resumed) (part_end (resumed_codes p) (n + 1) Resumed 1) held (inl refl)), tt)))
      (two tp (t1 ++ ep)
      (if_reads live _ (λ z. tests_read B e Resumed (Go (n + 1) Resumed) _ (λ w. is_go x Resumed (and_from _ _ i z)) (λ u h. inr h)))
      (two t1 ep
      (if_reads one _
      (λ z. tests_read B e Resumed (End n Resumed 1) _ (λ w. is_end c Resumed i 1 w)
      (λ u h. any_right u (part_end (resumed_codes p) (n + 1) Resumed 1) held (inr h))))
      (one_of c Resumed i (resumed_codes p) (n + 1) Resumed (λ k. []) (λ k. cond (k == 1) held []) (λ k. refl)))))
  resumed_reads a B f (Seq p q) n c i =
      let m = n + 1 + statement_count p in
      let x = first_part L g all W E told c in
      let y = second_part L g all W E told c in
      let anew = λ (z : resumed_codes p 0 ≡ true). root_right m (cond (started_codes p 0) a.roots []) (root_if (a.resumed && resumed_codes p 0) m)
      (root_own m (a.resumed && resumed_codes p 0) (and_from _ _ i z)) in
      let A = except 0 (resumed_codes p) in
      let C = codes_if (can_pass p) (resumed_codes q) in
      let D = codes_if (resumed_codes p 0) (started_codes q) in
      let gq = edges_if (can_pass p && has_code (resumed_codes q)) (edge (Go n Resumed) (Go m Resumed) ∷ []) in
      let over = edges_if (resumed_codes p 0) (edge (End (n + 1) Resumed 0) (Go m (Started m)) ∷ []) in
      let ep = ends_to_ends A (n + 1) Resumed n Resumed in
      let eq = ends_to_ends C m Resumed n Resumed in
      let er = ends_to_ends D m (Started m) n Resumed in
      two (go_to_part p n (n + 1) Resumed) (gq ++ (over ++ (ep ++ (eq ++ er)))) (resumed_go n x (λ z. and_from _ _ i z) (inl refl))
      (two gq (over ++ (ep ++ (eq ++ er)))
      (if_reads (can_pass p && has_code (resumed_codes q)) _ (λ z. (to_go y Resumed (and_from _ _ i z) (Go n Resumed) (inl refl), tt)))
      (two over (ep ++ (eq ++ er))
      (if_reads (resumed_codes p 0) _
      (λ z. (
        to_go y (Started m) (anew z) (End (n + 1) Resumed 0)
            (ap (λ j. End (n + 1) j 0) (sym (cond-true (m == m) Resumed (Started m) (eq-eqb m m refl)))),
        tt,
      )))
      (two ep (eq ++ er)
      (one_of c Resumed i A (n + 1) Resumed (λ k. []) (λ k. part_end C m Resumed k ++ part_end D m (Started m) k) (λ k. refl))
      (two eq er (one_of c Resumed i C m Resumed (λ k. part_end A (n + 1) Resumed k) (λ k. part_end D m (Started m) k) (λ k. refl))
      (passes_read c Resumed i D m (Started m)
      (λ k z.
      any_right (End m (Started m) k) (part_end A (n + 1) Resumed k) (part_end C m Resumed k ++ part_end D m (Started m) k)
      (any_right (End m (Started m) k) (part_end C m Resumed k) (part_end D m (Started m) k) (end_read D m (Started m) k z))))))))
  resumed_reads a B f (Loop at p) n c i =
      let x = loop_part L g all W E told c in
      let anew = λ (z : resumed_codes p 0 ≡ true). root_right (n + 1) a.roots (root_if (a.resumed && resumed_codes p 0) (n + 1))
      (root_own (n + 1) (a.resumed && resumed_codes p 0) (and_from _ _ i z)) in
      let A = except 0 (resumed_codes p) in
      let D = codes_if (resumed_codes p 0) (except 0 (started_codes p)) in
      let over = edges_if (resumed_codes p 0) (edge (End (n + 1) Resumed 0) (Go (n + 1) (Started (n + 1))) ∷ []) in
      let ep = ends_to_ends A (n + 1) Resumed n Resumed in
      let er = ends_to_ends D (n + 1) (Started (n + 1)) n Resumed in
      two (go_to_part p n (n + 1) Resumed) (over ++ (ep ++ er)) (resumed_go n x (λ z. and_from _ _ i z) refl)
      (two over (ep ++ er)
      (if_reads (resumed_codes p 0) _
      (λ z. (
        to_go x (Started (n + 1)) (anew z) (End (n + 1) Resumed 0)
            (sym (cond-true (n + 1 == n + 1) (End (n + 1) Resumed 0) (Go n (Started (n + 1))) (eq-eqb (n + 1) (n + 1) refl))),
        tt,
      )))
      (two ep er (one_of c Resumed i A (n + 1) Resumed (λ k. []) (λ k. part_end D (n + 1) (Started (n + 1)) k) (λ k. refl))
      (last_of c Resumed i D (n + 1) (Started (n + 1)) (λ k. part_end A (n + 1) Resumed k) (λ k. refl))))
  resumed_reads a B f (Par p q) n c i =
      let m = n + 1 + statement_count p in
      let x = left_part L g all W E told c in
      let y = right_part L g all W E told c in
      let C = resumed_codes (Par p q) in
      let own = go_to_ends C n Resumed in
      let ep = branch_to_ends (resumed_codes p) C (n + 1) n Resumed in
      let eq = branch_to_ends (resumed_codes q) C m n Resumed in
      two (go_to_part p n (n + 1) Resumed) (go_to_part q n m Resumed ++ (own ++ (ep ++ eq))) (resumed_go n x (λ z. and_from _ _ i z) (inl refl))
      (two (go_to_part q n m Resumed) (own ++ (ep ++ eq)) (resumed_go n y (λ z. and_from _ _ i z) (inl refl))
      (two own (ep ++ eq)
      (ends_read c Resumed i C
      (λ k. inl (any_right (Go n Resumed) (cond (has_code (resumed_codes p)) (Conjunction (Selected (n + 1)) (Upto (n + 1) Resumed k) ∷ []) [])
      (branch_over n (n + 1) ∷ []) (inr refl))))
      (two ep eq
      (branches_read c Resumed i (resumed_codes p) C (n + 1)
      (λ j k u z s. inl (branch_read (resumed_codes p) n (n + 1) j k (some_code (resumed_codes p) j u z) s)))
      (branches_read c Resumed i (resumed_codes q) C m
      (λ j k u z s. inr (inl (branch_read (resumed_codes q) n m j k (some_code (resumed_codes q) j u z) s)))))))
  resumed_reads a B f (Trap p) n c i =
      let x = trap_part L g all W E told c in
      two (go_to_part p n (n + 1) Resumed) (trapped_to_ends (resumed_codes p) (n + 1) n Resumed) (resumed_go n x (λ z. and_from _ _ i z) refl)
      (trapped_reads c Resumed i (resumed_codes p) (n + 1) (λ j z. trapped_read (resumed_codes p) (n + 1) Resumed j z))
  resumed_reads a B f (Local s p) n c i =
      let x = local_part L g all W E told c in
      two (go_to_part p n (n + 1) Resumed) (ends_to_ends (resumed_codes p) (n + 1) Resumed n Resumed) (resumed_go n x (λ z. and_from _ _ i z) refl)
      (last_of c Resumed i (resumed_codes p) (n + 1) Resumed (λ k. []) (λ k. refl))
  resumed_reads a B f (Awake e p) n c i = absurd c.kernel
  resumed_reads a B f t n c i = ends_read c Resumed i (resumed_codes t) (λ k. refl)

  pub edges_read : {a : Liveness} {B : Scope} {f : Layer → Formula} {t : Term} {n : ℕ} → At a B f t n → (l : Layer) → In a l → AllRead (edges_at B t n l)
  edges_read {a} {B} {f} {t} {n} c Resumed i = resumed_reads a B f t n c i
  edges_read {a} {B} {f} {t} {n} c (Started r) i = started_reads a B f t n c r i
