-- In a state of a program: behind the values of members is the state that is behind the solution itself.
use Rattle.std.proofs.Common.{◌≡◌, ℕ, ◌+◌, ◌<◌, ◌≤◌, Bool, true, false, ◌&&◌, ◌||◌, ◌==◌, cond, List, refl, sym, ap}
use Rattle.std.proofs.Common.{◌∙◌, subst}
use Rattle.std.proofs.Common.{⊎_elim, arith}
use Rattle.std.specs.Prelude.{Contains, nat_lt}
use Rattle.std.specs.List.{list_any}
use Rattle.std.proofs.Math.Path.{fun_ext}
use Rattle.std.proofs.lemmas.Bool.{and_from, and_parts, both_ways, cases_Bool, cases_lt, cond-false, cond-true, eq-eqb, eqb-true, false≢true}
use Rattle.std.proofs.lemmas.Bool.{false_from_ne_true, le-ltb, lt-ltb}
use Rattle.std.proofs.lemmas.Bool.{or_cases, or_left, or_right}
use Rattle.est_kernel.specs.Plain.{Program}
use Rattle.est_kernel.specs.Preorder.{statement_count}
use Rattle.est_kernel.specs.Reactions.{is_given}
use Rattle.est_kernel.specs.Terms.{Term, Nothing, Pause, Emit, Exit, Present, Suspend, Seq, Loop, Par, Trap, Local, Awake}
use Rattle.grc_graph.specs.GraphRuns.{program_wires}
use Rattle.grc_graph.specs.Layers.{Layer, Resumed, Started, Liveness, layer_above, part_liveness}
use Rattle.grc_graph.specs.Layers.{second_liveness}
use Rattle.grc_graph.specs.Layers.{loop_liveness}
use Rattle.grc_graph.specs.Readings.{Valuation, held_at, kept_at, seen_value, seen_values}
use Rattle.grc_graph.specs.Rows.{Row, program_rows, row, row_at, rows}
use Rattle.grc_graph.specs.Scopes.{Scope, Binding, Entering, Outgoing, BoundAt, Unbound, bind}
use Rattle.grc_graph.specs.Statements.{Entry, Part, Branch, Then, Else, Suspended, Second, Looped}
use Rattle.grc_graph.specs.Walk.{State, truth}
use Rattle.grc_graph.specs.Wires.{Wire, Out, Go, StatusOf, End, same_wire}
use Rattle.grc_graph.proofs.Exports.{StandsAt, above_behind, above_within, length-program_rows, length-rows, row_read, program_placed, same_wire-self}
use Rattle.grc_graph.proofs.Exports.{stands_first, stands_one, stands_second}
use Rattle.grc_graph.specs.LoopKeys.{lasting}
use Rattle.grc_share.specs.SharedInstances.{Sharing, body_sharing, key, one_instance}
use Rattle.grc_share.specs.SharedWires.{first_root, shared_layer, shared_wire, shared_wires}
use Rattle.grc_share.proofs.Exports.{Rises, first_among, first_least, first_key, first_same}
use Rattle.grc_share_laws.specs.SharedReactions.{shared_values, some_member}
use Rattle.grc_share_laws.proofs.Around.{Among, above-key, inside}
use Rattle.grc_share_laws.proofs.EndsAlike.{and-like}
use Rattle.grc_share_laws.proofs.Exclusion.{Runs}
use Rattle.base_facts.proofs.Tests.{same-tests}
use Rattle.grc_share_laws.proofs.Lists.{any-from}
use Rattle.grc_share_laws.proofs.MemberValues.{end-alone, end-some, go-alone, out-alone}
use Rattle.grc_share_laws.proofs.Settled.{Binds, In, Solution, apart, binds, ended, is-live, is-there, own-end, status-settled}
use Rattle.grc_share_laws.proofs.SharedMet.{named-there, value-named}
use Rattle.grc_share_laws.proofs.SharedThere.{row_live}

-- ---- reads of a number in a statement at n

look-one : (m n : ℕ) (d x y : Bool) → (n < m → x ≡ y) → n ≤ m → cond (m == n) d x ≡ cond (m == n) d y
look-one m n d x y f l =
    ⊎_elim (λ h. ap (λ b. cond (m == n) d b) (f h))
    (λ h. let e = eq-eqb m n (omega (arith, l, h)) in cond-true (m == n) d x e ∙ sym (cond-true (m == n) d y e)) (cases_lt n m)

look-parts : (m b : ℕ) (x y u v : Bool) → (m < b → x ≡ u) → (b ≤ m → y ≡ v) → cond (nat_lt m b) x y ≡ cond (nat_lt m b) u v
look-parts m b x y u v f g =
    ⊎_elim
    (λ k. cond-true (nat_lt m b) x y (lt-ltb m b k) ∙ f k ∙ sym (cond-true (nat_lt m b) u v (lt-ltb m b k)))
    (λ k. cond-false (nat_lt m b) x y (le-ltb m b k) ∙ g k ∙ sym (cond-false (nat_lt m b) u v (le-ltb m b k)))
    (cases_lt m b)

look-two : (m n b : ℕ) (d x y u v : Bool) → (n < m → m < b → x ≡ u) → (n < m → b ≤ m → y ≡ v) → n ≤ m
    → cond (m == n) d (cond (nat_lt m b) x y) ≡ cond (m == n) d (cond (nat_lt m b) u v)
look-two m n b d x y u v f g l =
    look-one m n d (cond (nat_lt m b) x y) (cond (nat_lt m b) u v) (λ h. look-parts m b x y u v (f h) (g h)) l

-- what lasts: of what sees its own start, and of what sees the resumed one
lasts-started : (v s u d e : Bool) → u ≡ s → s ≡ v → ((d && e) ≡ true → ⊥) → v ≡ (u || (d && e))
lasts-started v s u d e f h none =
    sym h ∙ sym f
    ∙ same-tests u (u || (d && e)) (λ i. or_left u (d && e) i) (λ i. ⊎_elim (λ j. j) (λ j. absurd (none j)) (or_cases u (d && e) i))

lasts-own : (v u d : Bool) → u ≡ v → (u || (d && u)) ≡ v
lasts-own v u d f =
    same-tests (u || (d && u)) u (λ i. ⊎_elim (λ j. j) (λ j. (and_parts d u j).1) (or_cases u (d && u) i)) (λ i. or_left u (d && u) i) ∙ f

lasts-resumed : (v u d e : Bool) → (u ≡ true → ⊥) → d ≡ true → e ≡ v → v ≡ (u || (d && e))
lasts-resumed v u d e none h f =
    sym f
    ∙ same-tests e (u || (d && e)) (λ i. or_right u (d && e) (and_from d e h i))
    (λ i. ⊎_elim (λ j. absurd (none j)) (λ j. (and_parts d e j).1) (or_cases u (d && e) i))

-- a value under a condition that is true where the condition is
pub cond-both : (b x : Bool) → cond b x false ≡ true → (b ≡ true) × (x ≡ true)
cond-both true x e = (refl, e)
cond-both false x e = absurd (false≢true e)

module _ (p : Program) (q : State) (event : List Bool) (V : Valuation) (F : Solution p q event V) where
  abbrev K : Sharing
  K = body_sharing p.body

  abbrev U : Valuation
  U = shared_values p V

  abbrev L : Valuation
  L = lasting (body_sharing p.body) (shared_values p V)

  here : (w : Wire) → V w ≡ true → Contains (program_wires p) w
  here = is-there p q event V F

  -- ---- values of wires that are one by themselves

  pub own-value : (w : Wire) → shared_wire (body_sharing p.body) w ≡ w → some_member p V w ≡ V w → shared_values p V w ≡ V w
  own-value w own alone =
      ⊎_elim
      (λ e. cond-true (list_any (same_wire w) (shared_wires p)) (some_member p V w) false e ∙ alone)
      (λ e. cond-false (list_any (same_wire w) (shared_wires p)) (some_member p V w) false e
      ∙ sym (false_from_ne_true (V w) (λ h.
      both_ways (list_any (same_wire w) (shared_wires p)) e
      (any-from (same_wire w) (shared_wires p) w
      (subst (λ u. Contains (shared_wires p) u) own (named-there p F.kernel F.limits w (here w h))) (same_wire-self w)))))
      (cases_Bool (list_any (same_wire w) (shared_wires p)))

  pub out-value : (s : ℕ) → shared_values p V (Out s) ≡ V (Out s)
  out-value s = own-value (Out s) refl (out-alone p V here s)

  go-value : (n : ℕ) → shared_values p V (Go n Resumed) ≡ V (Go n Resumed)
  go-value n = own-value (Go n Resumed) refl (go-alone p V here n)

  pub end-value : (n k : ℕ) → shared_values p V (End n Resumed k) ≡ V (End n Resumed k)
  end-value n k = own-value (End n Resumed k) refl (end-alone p V here n k)

  -- what is true of the shared wires has a member that is
  shared-end : (n : ℕ) (l : Layer) (k : ℕ) → shared_values p V (End n l k) ≡ true
      → (j : Layer) × (one_instance (body_sharing p.body) n j l ≡ true) × (V (End n j k) ≡ true)
  shared-end n l k h = end-some p V n l k (cond-both (list_any (same_wire (End n l k)) (shared_wires p)) (some_member p V (End n l k)) h).1

  -- the ends of what is resumed last as they are
  resumed-lasts : (n : ℕ) → lasting (body_sharing p.body) (shared_values p V) (End n Resumed 1) ≡ V (End n Resumed 1)
  resumed-lasts n =
      lasts-own (V (End n Resumed 1)) (shared_values p V (End n Resumed 1)) ((body_sharing p.body).resumed n == (body_sharing p.body).resumed n) (end-value n 1)

  -- ---- Held

  -- what a test of what is resumed reads
  seen-same : (B : Scope) (n : ℕ) → Binds p q event V F B n → Runs V n Resumed
      → seen_values (is_given event) V B Resumed ≡ seen_values (is_given event) (lasting (body_sharing p.body) (shared_values p V)) B Resumed
  seen-same B n around h = fun_ext (λ s. by s (B s) refl)
    where
      own : (b : ℕ) → shared_wire (body_sharing p.body) (StatusOf b Resumed) ≡ StatusOf b Resumed
      own b = ap (λ l. StatusOf b l) (either (((body_sharing p.body).live b).resumed && (body_sharing p.body).resumed b == (body_sharing p.body).resumed b))
        where
          either : (x : Bool) → cond x Resumed Resumed ≡ Resumed
          either true = refl
          either false = refl

      by : (s : ℕ) (x : Binding) → B s ≡ x
          → seen_value (is_given event) V x s Resumed ≡ seen_value (is_given event) (lasting (body_sharing p.body) (shared_values p V)) x s Resumed
      by s Entering e = refl
      by s Outgoing e = sym (out-value s)
      by s (BoundAt b) e = sym (own-value (StatusOf b Resumed) (own b) (status-settled p q event V F b n Resumed (around s b e).1 h))
      by s Unbound e = refl

  pub held-same : (a : Liveness) (B : Scope) (x : Entry) (t : Term) (n : ℕ) → StandsAt (program_rows p) n (rows a B x t n) → (m : ℕ)
      → held_at (is_given event) V B t n m Resumed ≡ held_at (is_given event) (lasting (body_sharing p.body) (shared_values p V)) B t n m Resumed
  held-same a B x Nothing n h m = refl
  held-same a B x Pause n h m = refl
  held-same a B x (Emit s) n h m = refl
  held-same a B x (Exit k) n h m = refl
  held-same a B x (Present e s t) n h m =
      let b = n + 1 + statement_count s in
      let r = row a B x (Present e s t) b in
      let ps = rows (part_liveness a s) B (Then n e) s (n + 1) in
      let qs = rows (part_liveness a t) B (Else n e) t b in
      let i = held-same (part_liveness a s) B (Then n e) s (n + 1) (stands_first (program_rows p) n r ps qs h) m in
      let j = held-same (part_liveness a t) B (Else n e) t b
      (stands_second (program_rows p) n r s ps qs (length-rows (part_liveness a s) B (Then n e) s (n + 1)) h) m in
      λ z. cond (m == n) false (cond (nat_lt m b) (i z) (j z))
  held-same a B x (Suspend e s) n h m =
      let ps = rows (part_liveness a s) B (Suspended n e) s (n + 1) in
      let i = held-same (part_liveness a s) B (Suspended n e) s (n + 1) (stands_one (program_rows p) n (row a B x (Suspend e s) 0) ps h) m in
      let read = row_read (program_rows p) a B x (Suspend e s) n h in
      let lt : n < statement_count p.body = omega (arith, read.within, length-program_rows p) in
      let around : Binds p q event V F B n = subst (λ y. Binds p q event V F y n) (ap (λ (y : Row). y.scope) read.same) (binds p q event V F n lt) in
      let test = and-like (V (Go n Resumed)) (shared_values p V (Go n Resumed))
      (truth e (seen_values (is_given event) V B Resumed))
      (truth e (seen_values (is_given event) (lasting (body_sharing p.body) (shared_values p V)) B Resumed))
      (sym (go-value n)) (λ k. ap (truth e) (seen-same B n around k)) in
      λ z. test z || cond (m == n) false (i z)
  held-same a B x (Seq s t) n h m =
      let b = n + 1 + statement_count s in
      let r = row a B x (Seq s t) b in
      let c = second_liveness a s t b in
      let ps = rows (part_liveness a s) B (Branch n) s (n + 1) in
      let qs = rows c B (Second n) t b in
      let i = held-same (part_liveness a s) B (Branch n) s (n + 1) (stands_first (program_rows p) n r ps qs h) m in
      let j = held-same c B (Second n) t b (stands_second (program_rows p) n r s ps qs (length-rows (part_liveness a s) B (Branch n) s (n + 1)) h) m in
      λ z. cond (m == n) false (cond (nat_lt m b) (i z) (j z))
  held-same a B x (Loop at s) n h m =
      let c = loop_liveness a s (n + 1) in
      let ps = rows c B (Looped n) s (n + 1) in
      let i = held-same c B (Looped n) s (n + 1) (stands_one (program_rows p) n (row a B x (Loop at s) 0) ps h) m in
      λ z. cond (m == n) false (i z)
  held-same a B x (Par s t) n h m =
      let b = n + 1 + statement_count s in
      let r = row a B x (Par s t) b in
      let ps = rows (part_liveness a s) B (Branch n) s (n + 1) in
      let qs = rows (part_liveness a t) B (Branch n) t b in
      let i = held-same (part_liveness a s) B (Branch n) s (n + 1) (stands_first (program_rows p) n r ps qs h) m in
      let j = held-same (part_liveness a t) B (Branch n) t b
      (stands_second (program_rows p) n r s ps qs (length-rows (part_liveness a s) B (Branch n) s (n + 1)) h) m in
      let own = sym (resumed-lasts n) in
      λ z. cond (m == n) false (own z && cond (nat_lt m b) (i z) (j z))
  held-same a B x (Trap s) n h m =
      let ps = rows (part_liveness a s) B (Part n) s (n + 1) in
      let i = held-same (part_liveness a s) B (Part n) s (n + 1) (stands_one (program_rows p) n (row a B x (Trap s) 0) ps h) m in
      λ z. cond (m == n) false (i z)
  held-same a B x (Local u s) n h m =
      let ps = rows (part_liveness a s) (bind B u n) (Part n) s (n + 1) in
      let i = held-same (part_liveness a s) (bind B u n) (Part n) s (n + 1) (stands_one (program_rows p) n (row a B x (Local u s) 0) ps h) m in
      λ z. cond (m == n) false (i z)
  held-same a B x (Awake e s) n h m = refl

  -- ---- Kept

  live-K : (n : ℕ) → n < statement_count p.body → (row_at (program_rows p) n).live ≡ (body_sharing p.body).live n
  live-K n lt = row_live p F.kernel F.limits n lt

  rises-K : (n : ℕ) → n < statement_count p.body → Rises ((body_sharing p.body).live n).roots
  rises-K n lt = subst (λ (a : Liveness). Rises a.roots) (live-K n lt) (program_placed p n lt).roots.rises

  to-K : (n s : ℕ) → n < statement_count p.body → Among s (row_at (program_rows p) n).live.roots → Among s ((body_sharing p.body).live n).roots
  to-K n s lt h = subst (λ (a : Liveness). Among s a.roots) (live-K n lt) h

  from-K : (n s : ℕ) → n < statement_count p.body → Among s ((body_sharing p.body).live n).roots → Among s (row_at (program_rows p) n).live.roots
  from-K n s lt h = subst (λ (a : Liveness). Among s a.roots) (sym (live-K n lt)) h

  -- the first root of a start at m, and that of the same start at a statement n around it, at or below the root
  first-above : (n m s : ℕ) → n < statement_count p.body → m < statement_count p.body → In p q event V F n m
      → Among s (row_at (program_rows p) m).live.roots → s ≤ n
      → first_root (body_sharing p.body).root ((body_sharing p.body).live n).roots s
      ≡ first_root (body_sharing p.body).root ((body_sharing p.body).live m).roots s
  first-above n m s lt in-m i h le =
      let c = (body_sharing p.body).root in
      let outer = ((body_sharing p.body).live n).roots in
      let inner = ((body_sharing p.body).live m).roots in
      let at : Among s outer = to-K n s lt (i.outer s h le) in
      let x = first_root c outer s in
      let y = first_root c inner s in
      let x-there = first_among c outer s at in
      let y-there = first_among c inner s (to-K m s in-m h) in
      let y-low = first_least c inner s (rises-K m in-m) (to-K m s in-m h) in
      let x-in = to-K m x in-m (i.all s x h le (from-K n x lt x-there)) in
      let y-out = to-K n y lt (i.outer y (from-K m y in-m y-there) (omega (arith, y-low, le))) in
      let up : y ≤ x = subst (λ z. z ≤ x) (first_same c inner x s (first_key c outer s) x-in) (first_least c inner x (rises-K m in-m) x-in) in
      let down : x ≤ y = subst (λ z. z ≤ y) (first_same c outer y s (first_key c inner s) y-out) (first_least c outer y (rises-K n lt) y-out) in
      omega (arith, up, down)

  -- a parallel at n around m, where s is the root of the start that runs at m, and r that of its shared start

  -- it sees the start of both
  par-started : (n s r : ℕ) → n < statement_count p.body → Runs V n (Started s) → Among s (row_at (program_rows p) n).live.roots
      → (body_sharing p.body).root s ≡ (body_sharing p.body).root r
      → first_root (body_sharing p.body).root ((body_sharing p.body).live n).roots s ≡ r
      → V (End n (Started s) 1) ≡ lasting (body_sharing p.body) (shared_values p V) (End n (Started r) 1)
  par-started n s r lt runs at one first =
      lasts-started (V (End n (Started s) 1)) (some_member p V (End n (Started s) 1)) (shared_values p V (End n (Started r) 1))
      ((body_sharing p.body).resumed n == (body_sharing p.body).root r) (shared_values p V (End n Resumed 1)) value settled both
    where
      value : shared_values p V (End n (Started r) 1) ≡ some_member p V (End n (Started s) 1)
      value =
          ap (λ y. shared_values p V (End n (Started y) 1)) (sym first)
          ∙ value-named p F.kernel F.limits V (is-there p q event V F) (End n (Started s) 1) (to-K n s lt at)

      settled : some_member p V (End n (Started s) 1) ≡ V (End n (Started s) 1)
      settled = own-end p q event V F n (Started s) 1 runs

      never : Resumed ≡ Started s → ⊥
      never e = cc

      both : ((body_sharing p.body).resumed n == (body_sharing p.body).root r && shared_values p V (End n Resumed 1)) ≡ true → ⊥
      both z =
          let d = and_parts ((body_sharing p.body).resumed n == (body_sharing p.body).root r) (shared_values p V (End n Resumed 1)) z in
          never (apart p q event V F n Resumed (Started s) (ended p q event V F n Resumed 1 (sym (end-value n 1) ∙ d.1)) runs
          (eqb-true ((body_sharing p.body).resumed n) ((body_sharing p.body).root r) d.0 ∙ sym one))

  -- it is resumed, and started the one that runs below it
  par-resumed : (n r : ℕ) → Runs V n Resumed → (body_sharing p.body).resumed n ≡ (body_sharing p.body).root r
      → V (End n Resumed 1) ≡ lasting (body_sharing p.body) (shared_values p V) (End n (Started r) 1)
  par-resumed n r runs keys =
      lasts-resumed (V (End n Resumed 1)) (shared_values p V (End n (Started r) 1)) ((body_sharing p.body).resumed n == (body_sharing p.body).root r)
      (shared_values p V (End n Resumed 1)) (λ z. let e = shared-end n (Started r) 1 z in never e.0 e.1 (ended p q event V F n e.0 1 e.2))
      (eq-eqb ((body_sharing p.body).resumed n) ((body_sharing p.body).root r) keys) (end-value n 1)
    where
      clash : (z : ℕ) → Resumed ≡ Started z → ⊥
      clash z e = cc

      never : (j : Layer) → one_instance (body_sharing p.body) n j (Started r) ≡ true → Runs V n j → ⊥
      never Resumed o y = false≢true o
      never (Started z) o y =
          clash z (apart p q event V F n Resumed (Started z) runs y (keys ∙ sym (eqb-true ((body_sharing p.body).root z) ((body_sharing p.body).root r) o)))

  par-same : (n m s : ℕ) → n < statement_count p.body → m < statement_count p.body → In p q event V F n m → Runs V m (Started s)
      → V (End n (layer_above n (Started s)) 1)
      ≡ lasting (body_sharing p.body) (shared_values p V)
      (End n (layer_above n (shared_layer (body_sharing p.body) m (Started s))) 1)
  par-same n m s lt in-m i h =
      ⊎_elim (λ k. behind k) (λ k. ⊎_elim (λ x. restarted k x) (λ x. started k x) (cases_lt n s)) (cases_lt n (first_root (body_sharing p.body).root
      ((body_sharing p.body).live m).roots s))
    where
      at : Among s (row_at (program_rows p) m).live.roots
      at = (is-live p q event V F m (Started s) h).live

      root : Among (first_root (body_sharing p.body).root ((body_sharing p.body).live m).roots s) (row_at (program_rows p) m).live.roots
      root =
          from-K m (first_root (body_sharing p.body).root ((body_sharing p.body).live m).roots s) in-m
          (first_among (body_sharing p.body).root ((body_sharing p.body).live m).roots s (to-K m s in-m at))

      low : first_root (body_sharing p.body).root ((body_sharing p.body).live m).roots s ≤ s
      low = first_least (body_sharing p.body).root ((body_sharing p.body).live m).roots s (rises-K m in-m) (to-K m s in-m at)

      one : (body_sharing p.body).root s ≡ (body_sharing p.body).root (first_root (body_sharing p.body).root ((body_sharing p.body).live m).roots s)
      one = sym (first_key (body_sharing p.body).root ((body_sharing p.body).live m).roots s)

      -- the layers that are seen
      seen : (l j : Layer) (y : ℕ) → layer_above n (Started s) ≡ l → layer_above n (Started y) ≡ j
          → V (End n l 1) ≡ lasting (body_sharing p.body) (shared_values p V) (End n j 1)
          → V (End n (layer_above n (Started s)) 1) ≡ lasting (body_sharing p.body) (shared_values p V) (End n (layer_above n (Started y)) 1)
      seen l j y e f same =
          ap (λ z. V (End n z 1)) e ∙ same ∙ sym (ap (λ z. lasting (body_sharing p.body) (shared_values p V) (End n z 1)) f)

      behind : n < first_root (body_sharing p.body).root ((body_sharing p.body).live m).roots s
          → V (End n (layer_above n (Started s)) 1)
          ≡ lasting (body_sharing p.body) (shared_values p V)
          (End n (layer_above n (Started (first_root (body_sharing p.body).root ((body_sharing p.body).live m).roots s))) 1)
      behind k =
          let y = first_root (body_sharing p.body).root ((body_sharing p.body).live m).roots s in
          seen Resumed Resumed y (above_behind n s (omega (arith, k, low))) (above_behind n y k) (sym (resumed-lasts n))

      started : first_root (body_sharing p.body).root ((body_sharing p.body).live m).roots s ≤ n → s ≤ n
          → V (End n (layer_above n (Started s)) 1)
          ≡ lasting (body_sharing p.body) (shared_values p V)
          (End n (layer_above n (Started (first_root (body_sharing p.body).root ((body_sharing p.body).live m).roots s))) 1)
      started k x =
          let y = first_root (body_sharing p.body).root ((body_sharing p.body).live m).roots s in
          seen (Started s) (Started y) y (above_within n s x) (above_within n y k)
          (par-started n s y lt (subst (λ j. Runs V n j) (above_within n s x) (i.runs (Started s) h)) (i.outer s at x) one (first-above n m s lt in-m i at x))

      restarted : first_root (body_sharing p.body).root ((body_sharing p.body).live m).roots s ≤ n → n < s
          → V (End n (layer_above n (Started s)) 1)
          ≡ lasting (body_sharing p.body) (shared_values p V)
          (End n (layer_above n (Started (first_root (body_sharing p.body).root ((body_sharing p.body).live m).roots s))) 1)
      restarted k x =
          let c = (body_sharing p.body).root in
          let y = first_root c ((body_sharing p.body).live m).roots s in
          let keys = above-key p q event V F.kernel F.codes F.state F.solves F.walk n m (Started s) (Started y) lt i at root (eq-eqb (c s) (c y) one) in
          let same : (body_sharing p.body).resumed n ≡ c y =
          sym (ap (key (body_sharing p.body) n) (above_behind n s x)) ∙ keys ∙ ap (key (body_sharing p.body) n) (above_within n y k) in
          seen Resumed (Started y) y (above_behind n s x) (above_within n y k)
          (par-resumed n y (subst (λ j. Runs V n j) (above_behind n s x) (i.runs (Started s) h)) same)

  pub kept-same : (m s : ℕ) → m < statement_count p.body → Runs V m (Started s) → (a : Liveness) (B : Scope) (x : Entry) (t : Term) (n : ℕ)
      → StandsAt (program_rows p) n (rows a B x t n) → n ≤ m → m < n + statement_count t
      → kept_at V t n m (Started s)
      ≡ kept_at (lasting (body_sharing p.body) (shared_values p V)) t n m (shared_layer (body_sharing p.body) m (Started s))
  kept-same m s in-m runs a B x Nothing n h le lt = refl
  kept-same m s in-m runs a B x Pause n h le lt = refl
  kept-same m s in-m runs a B x (Emit u) n h le lt = refl
  kept-same m s in-m runs a B x (Exit k) n h le lt = refl
  kept-same m s in-m runs a B x (Present e u t) n h le lt =
      let b = n + 1 + statement_count u in
      let r = row a B x (Present e u t) b in
      let ps = rows (part_liveness a u) B (Then n e) u (n + 1) in
      let qs = rows (part_liveness a t) B (Else n e) t b in
      look-two m n b true _ _ _ _
      (λ i j. kept-same m s in-m runs (part_liveness a u) B (Then n e) u (n + 1) (stands_first (program_rows p) n r ps qs h) (omega (arith, i)) j)
      (λ i j. kept-same m s in-m runs (part_liveness a t) B (Else n e) t b
      (stands_second (program_rows p) n r u ps qs (length-rows (part_liveness a u) B (Then n e) u (n + 1)) h) j (omega (arith, lt))) le
  kept-same m s in-m runs a B x (Suspend e u) n h le lt =
      let ps = rows (part_liveness a u) B (Suspended n e) u (n + 1) in
      look-one m n true _ _
      (λ i. kept-same m s in-m runs (part_liveness a u) B (Suspended n e) u (n + 1) (stands_one (program_rows p) n (row a B x (Suspend e u) 0) ps h)
      (omega (arith, i)) (omega (arith, lt))) le
  kept-same m s in-m runs a B x (Seq u t) n h le lt =
      let b = n + 1 + statement_count u in
      let r = row a B x (Seq u t) b in
      let c = second_liveness a u t b in
      let ps = rows (part_liveness a u) B (Branch n) u (n + 1) in
      let qs = rows c B (Second n) t b in
      look-two m n b true _ _ _ _
      (λ i j. kept-same m s in-m runs (part_liveness a u) B (Branch n) u (n + 1) (stands_first (program_rows p) n r ps qs h) (omega (arith, i)) j)
      (λ i j. kept-same m s in-m runs c B (Second n) t b
      (stands_second (program_rows p) n r u ps qs (length-rows (part_liveness a u) B (Branch n) u (n + 1)) h) j (omega (arith, lt))) le
  kept-same m s in-m runs a B x (Loop at u) n h le lt =
      let c = loop_liveness a u (n + 1) in
      let ps = rows c B (Looped n) u (n + 1) in
      look-one m n true _ _
      (λ i. kept-same m s in-m runs c B (Looped n) u (n + 1) (stands_one (program_rows p) n (row a B x (Loop at u) 0) ps h)
      (omega (arith, i)) (omega (arith, lt))) le
  kept-same m s in-m runs a B x (Par u t) n h le lt =
      let b = n + 1 + statement_count u in
      let r = row a B x (Par u t) b in
      let ps = rows (part_liveness a u) B (Branch n) u (n + 1) in
      let qs = rows (part_liveness a t) B (Branch n) t b in
      let read = row_read (program_rows p) a B x (Par u t) n h in
      let within : n < statement_count p.body = omega (arith, read.within, length-program_rows p) in
      let i = inside p q event V F.kernel F.codes F.state F.solves F.walk n m within le
      (omega (arith, lt, ap (λ (y : Row). statement_count y.statement) read.same)) in
      look-one m n true _ _
      (λ k.
      let own = par-same n m s within in-m i runs in
      let rest = look-parts m b _ _ _ _
      (λ j. kept-same m s in-m runs (part_liveness a u) B (Branch n) u (n + 1) (stands_first (program_rows p) n r ps qs h) (omega (arith, k)) j)
      (λ j. kept-same m s in-m runs (part_liveness a t) B (Branch n) t b
      (stands_second (program_rows p) n r u ps qs (length-rows (part_liveness a u) B (Branch n) u (n + 1)) h) j (omega (arith, lt))) in
      λ z. own z && rest z) le
  kept-same m s in-m runs a B x (Trap u) n h le lt =
      let ps = rows (part_liveness a u) B (Part n) u (n + 1) in
      look-one m n true _ _
      (λ i. kept-same m s in-m runs (part_liveness a u) B (Part n) u (n + 1) (stands_one (program_rows p) n (row a B x (Trap u) 0) ps h)
      (omega (arith, i)) (omega (arith, lt))) le
  kept-same m s in-m runs a B x (Local v u) n h le lt =
      let ps = rows (part_liveness a u) (bind B v n) (Part n) u (n + 1) in
      look-one m n true _ _
      (λ i. kept-same m s in-m runs (part_liveness a u) (bind B v n) (Part n) u (n + 1) (stands_one (program_rows p) n (row a B x (Local v u) 0) ps h)
      (omega (arith, i)) (omega (arith, lt))) le
  kept-same m s in-m runs a B x (Awake e u) n h le lt = refl
