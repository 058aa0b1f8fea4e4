-- What is kept and held of each statement follows from what is of the statement around it.
use Rattle.std.proofs.Common.{◌≡◌, ℕ, ◌+◌, ◌<◌, ◌≤◌, Bool, true, false, ◌&&◌, ◌||◌, ◌==◌, nat_lt, cond, Some, None, List, refl, sym, ap, ◌∙◌, subst}
use Rattle.std.proofs.Common.{arith}
use Rattle.std.specs.Prelude.{if◌then◌else◌, MatchOption}
use Rattle.std.proofs.lemmas.Bool.{ne_eqb, eq-eqb, lt-ltb, le-ltb}
use Rattle.base_facts.proofs.Tests.{or-false}
use Rattle.base_types.specs.declared.place.Span.{Span}
use Rattle.est_kernel.specs.Terms.{Expression, Term, Nothing, Pause, Emit, Exit, Present, Suspend, Seq, Loop, Par, Trap, Local, Awake}
use Rattle.est_kernel.specs.Plain.{Program, interface_count}
use Rattle.est_kernel.specs.Preorder.{statement_count}
use Rattle.grc_graph.specs.Layers.{Layer, Liveness, body_liveness, layer_above, part_liveness, second_liveness, loop_liveness}
use Rattle.grc_graph.specs.Readings.{Valuation, kept_at, held_at}
use Rattle.grc_graph.specs.Rows.{Row, row, rows, row_at, second_of, program_rows}
use Rattle.grc_graph.specs.Scopes.{Scope, bind, program_scope}
use Rattle.est_kernel.specs.WellFormed.{IsKernel}
use Rattle.est_kernel.proofs.Exports.{statement_count-pos}
use Rattle.grc_graph.specs.Statements.{Entry, Body, Part, Branch, Then, Else, Suspended, Second, Looped}
use Rattle.grc_graph.specs.Walk.{Values}
use Rattle.grc_graph.specs.Wires.{End}
use Rattle.grc_graph.proofs.Exports.{StandsAt, stands_whole, above_above, length-rows, stands_one, stands_first, stands_second, row_read, one_place}
use Rattle.grc_graph.proofs.Exports.{two_places}
use Rattle.grc_formulas.specs.Enclosures.{Readings, around, kept_of, held_of, lasts, suspends, IsWithin, IsOutermost, FollowsAround}

-- a statement itself
kept-self : (V : Valuation) (t : Term) (n : ℕ) (l : Layer) → kept_at V t n n l ≡ true
kept-self V Nothing n l = refl
kept-self V Pause n l = refl
kept-self V (Emit s) n l = refl
kept-self V (Exit k) n l = refl
kept-self V (Present e p q) n l = rw (eq-eqb n n refl) refl
kept-self V (Suspend e p) n l = rw (eq-eqb n n refl) refl
kept-self V (Seq p q) n l = rw (eq-eqb n n refl) refl
kept-self V (Loop at p) n l = rw (eq-eqb n n refl) refl
kept-self V (Par p q) n l = rw (eq-eqb n n refl) refl
kept-self V (Trap p) n l = rw (eq-eqb n n refl) refl
kept-self V (Local s p) n l = rw (eq-eqb n n refl) refl
kept-self V (Awake e p) n l = refl

held-self : (given : Values) (V : Valuation) (B : Scope) (t : Term) (n : ℕ) (l : Layer)
    → held_at given V B t n n l ≡ suspends given V B t n (layer_above n l)
held-self given V B Nothing n l = refl
held-self given V B Pause n l = refl
held-self given V B (Emit s) n l = refl
held-self given V B (Exit k) n l = refl
held-self given V B (Present e p q) n l = rw (eq-eqb n n refl) refl
held-self given V B (Suspend e p) n l =
    ap (λ b. suspends given V B (Suspend e p) n (layer_above n l) || cond b false (held_at given V B p (n + 1) n l)) (eq-eqb n n refl)
    ∙ or-false (suspends given V B (Suspend e p) n (layer_above n l))
held-self given V B (Seq p q) n l = rw (eq-eqb n n refl) refl
held-self given V B (Loop at p) n l = rw (eq-eqb n n refl) refl
held-self given V B (Par p q) n l = rw (eq-eqb n n refl) refl
held-self given V B (Trap p) n l = rw (eq-eqb n n refl) refl
held-self given V B (Local s p) n l = rw (eq-eqb n n refl) refl
held-self given V B (Awake e p) n l = refl

-- a part p at c, with the scope C, of a statement t at n
record Through (r : Readings) (B C : Scope) (t p : Term) (n c : ℕ) : Type 0 where
  above : n ≤ c
  kept : (m : ℕ) (l : Layer) → c ≤ m → m < c + statement_count p
      → kept_at r.wires t n m l ≡ (lasts r.wires t n (layer_above n l) && kept_at r.wires p c m l)
  held : (m : ℕ) (l : Layer) → c ≤ m → m < c + statement_count p
      → held_at r.given r.wires B t n m l
      ≡ (suspends r.given r.wires B t n (layer_above n l) || (lasts r.wires t n (layer_above n l) && held_at r.given r.wires C p c m l))

-- a statement t at n in a body: G is what is held around it
pub record Inside (r : Readings) (G : Layer → Bool) (B : Scope) (t : Term) (n : ℕ) : Type 0 where
  pub kept : (m : ℕ) (l : Layer) → n ≤ m → m < n + statement_count t
      → kept_of r m l ≡ (kept_of r n (layer_above n l) && kept_at r.wires t n m l)
  pub held : (m : ℕ) (l : Layer) → n ≤ m → m < n + statement_count t
      → held_of r m l ≡ (G (layer_above n l) || (kept_of r n (layer_above n l) && held_at r.given r.wires B t n m l))

kept-steps : (k a x : Bool) → (k && (a && x)) ≡ ((k && (a && true)) && x)
kept-steps true true x = refl
kept-steps true false x = refl
kept-steps false a x = refl

held-steps : (g k o a x : Bool) → (g || (k && (o || (a && x)))) ≡ ((g || (k && o)) || ((k && (a && true)) && x))
held-steps true k o a x = refl
held-steps false true true a x = refl
held-steps false true false true x = refl
held-steps false true false false x = refl
held-steps false false o a x = refl

same-layer_twice : (n : ℕ) (l : Layer) → layer_above n (layer_above n l) ≡ layer_above n l
same-layer_twice n l = above_above n n l (omega arith)

held-here : (r : Readings) (G : Layer → Bool) (B : Scope) (t : Term) (n : ℕ) → 0 < statement_count t → Inside r G B t n → (l : Layer)
    → held_of r n (layer_above n l) ≡ (G (layer_above n l) || (kept_of r n (layer_above n l) && suspends r.given r.wires B t n (layer_above n l)))
held-here r G B t n some i l =
    let twice = same-layer_twice n l in
    i.held n (layer_above n l) (omega arith) (omega arith)
    ∙ ap (λ j. G j || (kept_of r n j && held_at r.given r.wires B t n n (layer_above n l))) twice
    ∙ ap (λ b. G (layer_above n l) || (kept_of r n (layer_above n l) && b))
    (held-self r.given r.wires B t n (layer_above n l) ∙ ap (λ j. suspends r.given r.wires B t n j) twice)

kept-there : (r : Readings) (G : Layer → Bool) (B C : Scope) (t p : Term) (n c : ℕ) → 0 < statement_count p → c + statement_count p ≤ n + statement_count t
    → Inside r G B t n → Through r B C t p n c → (l : Layer)
    → kept_of r c l ≡ (kept_of r n (layer_above n l) && (lasts r.wires t n (layer_above n l) && true))
kept-there r G B C t p n c some within i th l =
    i.kept c l th.above (omega arith) ∙ ap (λ b. kept_of r n (layer_above n l) && b)
    (th.kept c l (omega arith) (omega arith) ∙ ap (λ b. lasts r.wires t n (layer_above n l) && b) (kept-self r.wires p c l))

inside-part : (r : Readings) (G : Layer → Bool) (B C : Scope) (t p : Term) (n c : ℕ) → 0 < statement_count p → c + statement_count p ≤ n + statement_count t
    → 0 < statement_count t → Inside r G B t n → Through r B C t p n c → Inside r (λ l. held_of r n (layer_above n l)) C p c
inside-part r G B C t p n c some within pos i th = record {
  kept = λ m l low high.
      let root = kept-there r G B C t p n c some within i th (layer_above c l) in
      let up = above_above n c l th.above in
      let at : kept_of r c (layer_above c l) ≡ (kept_of r n (layer_above n l) && (lasts r.wires t n (layer_above n l) && true)) =
      root ∙ ap (λ j. kept_of r n j && (lasts r.wires t n j && true)) up in
      i.kept m l (omega (arith, th.above)) (omega arith) ∙ ap (λ b. kept_of r n (layer_above n l) && b) (th.kept m l low high)
      ∙ kept-steps (kept_of r n (layer_above n l)) (lasts r.wires t n (layer_above n l)) (kept_at r.wires p c m l)
      ∙ ap (λ b. b && kept_at r.wires p c m l) (sym at);
  held = λ m l low high.
      let root = kept-there r G B C t p n c some within i th (layer_above c l) in
      let up = above_above n c l th.above in
      let at : kept_of r c (layer_above c l) ≡ (kept_of r n (layer_above n l) && (lasts r.wires t n (layer_above n l) && true)) =
      root ∙ ap (λ j. kept_of r n j && (lasts r.wires t n j && true)) up in
      let here = held-here r G B t n pos i l in
      let x = held_at r.given r.wires C p c m l in
      i.held m l (omega (arith, th.above)) (omega arith)
      ∙ ap (λ b. G (layer_above n l) || (kept_of r n (layer_above n l) && b)) (th.held m l low high)
      ∙ held-steps (G (layer_above n l)) (kept_of r n (layer_above n l)) (suspends r.given r.wires B t n (layer_above n l))
      (lasts r.wires t n (layer_above n l)) x
      ∙ ap (λ b. b || ((kept_of r n (layer_above n l) && (lasts r.wires t n (layer_above n l) && true)) && x)) (sym here)
      ∙ ap (λ b. held_of r n (layer_above n l) || (b && x)) (sym at)
      ∙ ap (λ j. held_of r n j || (kept_of r c (layer_above c l) && x)) (sym up);
}

and-true : (k a : Bool) → (k && (a && true)) ≡ (k && a)
and-true true true = refl
and-true true false = refl
and-true false a = refl

within-part : (r : Readings) (G : Layer → Bool) (B : Scope) (y x : Row) (n c : ℕ) → 0 < statement_count x.statement
    → c + statement_count x.statement ≤ n + statement_count y.statement → 0 < statement_count y.statement → Inside r G B y.statement n
    → Through r B x.scope y.statement x.statement n c → IsWithin r y x n c
within-part r G B y x n c some within pos i th = record {
  kept = λ l. kept-there r G B x.scope y.statement x.statement n c some within i th l
      ∙ and-true (kept_of r n (layer_above n l)) (lasts r.wires y.statement n (layer_above n l));
  held = λ l.
      let t = y.statement in
      let p = x.statement in
      let here = held-here r G B t n pos i l in
      let there = kept-there r G B x.scope t p n c some within i th l in
      let own = suspends r.given r.wires x.scope p c (layer_above c l) in
      i.held c l th.above (omega arith)
      ∙ ap (λ b. G (layer_above n l) || (kept_of r n (layer_above n l) && b)) (th.held c l (omega arith) (omega arith)
      ∙ ap (λ b. suspends r.given r.wires B t n (layer_above n l) || (lasts r.wires t n (layer_above n l) && b)) (held-self r.given r.wires x.scope p c l))
      ∙ held-steps (G (layer_above n l)) (kept_of r n (layer_above n l)) (suspends r.given r.wires B t n (layer_above n l))
      (lasts r.wires t n (layer_above n l)) own
      ∙ ap (λ b. b || ((kept_of r n (layer_above n l) && (lasts r.wires t n (layer_above n l) && true)) && own)) (sym here)
      ∙ ap (λ b. held_of r n (layer_above n l) || (b && own)) (sym there);
}

-- the choice between a statement and its parts
pub not-here : (m n : ℕ) {A : Type 0} (x y : A) → n + 1 ≤ m → (if m == n then x else y) ≡ y
not-here m n x y h = let ne : (m ≡ n → ⊥) = λ e. absurd (omega arith) in ap (λ b. if b then x else y) (ne_eqb m n ne)

in-first : (m k : ℕ) {A : Type 0} (x y : A) → m < k → (if nat_lt m k then x else y) ≡ x
in-first m k x y h = ap (λ b. if b then x else y) (lt-ltb m k h)

in-second : (m k : ℕ) {A : Type 0} (x y : A) → k ≤ m → (if nat_lt m k then x else y) ≡ y
in-second m k x y h = ap (λ b. if b then x else y) (le-ltb m k h)

pub chosen-first : (m n k : ℕ) {A : Type 0} (x y z : A) → n + 1 ≤ m → m < k → (if m == n then x else (if nat_lt m k then y else z)) ≡ y
chosen-first m n k x y z h low = not-here m n x (if nat_lt m k then y else z) h ∙ in-first m k y z low

pub chosen-second : (m n k : ℕ) {A : Type 0} (x y z : A) → n + 1 ≤ m → k ≤ m → (if m == n then x else (if nat_lt m k then y else z)) ≡ z
chosen-second m n k x y z h high = not-here m n x (if nat_lt m k then y else z) h ∙ in-second m k y z high

through-present_yes : (r : Readings) (B : Scope) (e : Expression) (p q : Term) (n : ℕ) → Through r B B (Present e p q) p n (n + 1)
through-present_yes r B e p q n = record {
  above = omega arith;
  kept = λ m l low high. chosen-first m n (n + 1 + statement_count p) _ _ _ low high;
  held = λ m l low high. chosen-first m n (n + 1 + statement_count p) _ _ _ low high;
}

through-present_no : (r : Readings) (B : Scope) (e : Expression) (p q : Term) (n : ℕ) → Through r B B (Present e p q) q n (n + 1 + statement_count p)
through-present_no r B e p q n = record {
  above = omega arith;
  kept = λ m l low high. chosen-second m n (n + 1 + statement_count p) _ _ _ (omega arith) low;
  held = λ m l low high. chosen-second m n (n + 1 + statement_count p) _ _ _ (omega arith) low;
}

through-seq_first : (r : Readings) (B : Scope) (p q : Term) (n : ℕ) → Through r B B (Seq p q) p n (n + 1)
through-seq_first r B p q n = record {
  above = omega arith;
  kept = λ m l low high. chosen-first m n (n + 1 + statement_count p) _ _ _ low high;
  held = λ m l low high. chosen-first m n (n + 1 + statement_count p) _ _ _ low high;
}

through-seq_second : (r : Readings) (B : Scope) (p q : Term) (n : ℕ) → Through r B B (Seq p q) q n (n + 1 + statement_count p)
through-seq_second r B p q n = record {
  above = omega arith;
  kept = λ m l low high. chosen-second m n (n + 1 + statement_count p) _ _ _ (omega arith) low;
  held = λ m l low high. chosen-second m n (n + 1 + statement_count p) _ _ _ (omega arith) low;
}

through-par_left : (r : Readings) (B : Scope) (p q : Term) (n : ℕ) → Through r B B (Par p q) p n (n + 1)
through-par_left r B p q n = record {
  above = omega arith;
  kept = λ m l low high. not-here m n _ _ low ∙ ap (λ b. r.wires (End n (layer_above n l) 1) && b) (in-first m (n + 1 + statement_count p) _ _ high);
  held = λ m l low high. not-here m n _ _ low ∙ ap (λ b. r.wires (End n (layer_above n l) 1) && b) (in-first m (n + 1 + statement_count p) _ _ high);
}

through-par_right : (r : Readings) (B : Scope) (p q : Term) (n : ℕ) → Through r B B (Par p q) q n (n + 1 + statement_count p)
through-par_right r B p q n = record {
  above = omega arith;
  kept = λ m l low high. not-here m n _ _ (omega arith) ∙ ap (λ b. r.wires (End n (layer_above n l) 1) && b) (in-second m (n + 1 + statement_count p) _ _ low);
  held = λ m l low high. not-here m n _ _ (omega arith) ∙ ap (λ b. r.wires (End n (layer_above n l) 1) && b) (in-second m (n + 1 + statement_count p) _ _ low);
}

through-suspend : (r : Readings) (B : Scope) (e : Expression) (p : Term) (n : ℕ) → Through r B B (Suspend e p) p n (n + 1)
through-suspend r B e p n = record {
  above = omega arith;
  kept = λ m l low high. not-here m n _ _ low;
  held = λ m l low high. ap (λ b. suspends r.given r.wires B (Suspend e p) n (layer_above n l) || b) (not-here m n _ _ low);
}

through-loop : (r : Readings) (B : Scope) (at : Span) (p : Term) (n : ℕ) → Through r B B (Loop at p) p n (n + 1)
through-loop r B at p n = record {
  above = omega arith;
  kept = λ m l low high. not-here m n _ _ low;
  held = λ m l low high. not-here m n _ _ low;
}

through-trap : (r : Readings) (B : Scope) (p : Term) (n : ℕ) → Through r B B (Trap p) p n (n + 1)
through-trap r B p n = record {
  above = omega arith;
  kept = λ m l low high. not-here m n _ _ low;
  held = λ m l low high. not-here m n _ _ low;
}

through-local : (r : Readings) (B : Scope) (s : ℕ) (p : Term) (n : ℕ) → Through r B (bind B s n) (Local s p) p n (n + 1)
through-local r B s p n = record {
  above = omega arith;
  kept = λ m l low high. not-here m n _ _ low;
  held = λ m l low high. not-here m n _ _ low;
}

-- a statement that stands in a body: what is held and kept in it, and what the statement around it says of it
pub record Stands (r : Readings) (W : List Row) (G : Layer → Bool) (a : Liveness) (B : Scope) (x : Entry) (t : Term) (n : ℕ) : Type 0 where
  pub rows_in : StandsAt W n (rows a B x t n)
  pub inside : Inside r G B t n
  pub follows : FollowsAround r W n

-- a part of a statement stands in the body too
part-stands : (r : Readings) (W : List Row) (G : Layer → Bool) (a b : Liveness) (B C : Scope) (x y : Entry) (t p : Term) (n c : ℕ) → around y ≡ Some n
    → c + statement_count p ≤ n + statement_count t → Stands r W G a B x t n → StandsAt W c (rows b C y p c) → Through r B C t p n c
    → Stands r W (λ l. held_of r n (layer_above n l)) b C y p c
part-stands r W G a b B C x y t p n c enters within s rows_in th =
    let here = row_read W a B x t n s.rows_in in
    let there = row_read W b C y p c rows_in in
    let law =
    within-part r G B (row a B x t (second_of t n)) (row b C y p (second_of p c)) n c (statement_count-pos p) within (statement_count-pos t) s.inside th in
    let around_is : IsWithin r (row_at W n) (row_at W c) n c =
    subst (λ z. IsWithin r z (row_at W c) n c) (sym here.same) (subst (λ z. IsWithin r (row a B x t (second_of t n)) z n c) (sym there.same) law) in
    let entry : around (row_at W c).entry ≡ Some n = ap (λ z. around z.entry) there.same ∙ enters in
    record {
      rows_in = rows_in;
      inside = inside-part r G B C t p n c (statement_count-pos p) within (statement_count-pos t) s.inside th;
      follows = subst (λ o. MatchOption o (IsOutermost r (row_at W c) c) (λ m. IsWithin r (row_at W m) (row_at W c) m c)) (sym entry) around_is;
    }

pub follow : (r : Readings) (W : List Row) (G : Layer → Bool) (a : Liveness) (B : Scope) (x : Entry) (t : Term) (n : ℕ) → IsKernel t → Stands r W G a B x t n
    → (m : ℕ) → n ≤ m → m < n + statement_count t → FollowsAround r W m
follow r W G a B x Nothing n kernel s m le lt = subst (FollowsAround r W) (let z : n ≡ m = omega arith in z) s.follows
follow r W G a B x Pause n kernel s m le lt = subst (FollowsAround r W) (let z : n ≡ m = omega arith in z) s.follows
follow r W G a B x (Emit k) n kernel s m le lt = subst (FollowsAround r W) (let z : n ≡ m = omega arith in z) s.follows
follow r W G a B x (Exit k) n kernel s m le lt = subst (FollowsAround r W) (let z : n ≡ m = omega arith in z) s.follows
follow r W G a B x (Present e p q) n kernel s m le lt =
    let t = Present e p q in
    let c = n + 1 + statement_count p in
    let ps = rows (part_liveness a p) B (Then n e) p (n + 1) in
    let qs = rows (part_liveness a q) B (Else n e) q c in
    let hp = stands_first W n (row a B x t c) ps qs s.rows_in in
    let hq = stands_second W n (row a B x t c) p ps qs (length-rows (part_liveness a p) B (Then n e) p (n + 1)) s.rows_in in
    let first = part-stands r W G a (part_liveness a p) B B x (Then n e) t p n (n + 1) refl (omega arith) s hp (through-present_yes r B e p q n) in
    let other = part-stands r W G a (part_liveness a q) B B x (Else n e) t q n c refl (omega arith) s hq (through-present_no r B e p q n) in
    two_places (FollowsAround r W) n (statement_count p) (statement_count q) m s.follows
    (follow r W (λ l. held_of r n (layer_above n l)) (part_liveness a p) B (Then n e) p (n + 1) kernel.0 first)
    (follow r W (λ l. held_of r n (layer_above n l)) (part_liveness a q) B (Else n e) q c kernel.1 other) le lt
follow r W G a B x (Suspend e p) n kernel s m le lt =
    let t = Suspend e p in
    let hp = stands_one W n (row a B x t 0) (rows (part_liveness a p) (B) (Suspended n e) p (n + 1)) s.rows_in in
    let first = part-stands r W G a (part_liveness a p) B (B) x (Suspended n e) t p n (n + 1) refl (omega arith) s hp (through-suspend r B e p n) in
    one_place (FollowsAround r W) n (statement_count p) m s.follows
    (follow r W (λ l. held_of r n (layer_above n l)) (part_liveness a p) (B) (Suspended n e) p (n + 1) kernel first) le lt
follow r W G a B x (Seq p q) n kernel s m le lt =
    let t = Seq p q in
    let c = n + 1 + statement_count p in
    let ps = rows (part_liveness a p) B (Branch n) p (n + 1) in
    let qs = rows (second_liveness a p q (n + 1 + statement_count p)) B (Second n) q c in
    let hp = stands_first W n (row a B x t c) ps qs s.rows_in in
    let hq = stands_second W n (row a B x t c) p ps qs (length-rows (part_liveness a p) B (Branch n) p (n + 1)) s.rows_in in
    let first = part-stands r W G a (part_liveness a p) B B x (Branch n) t p n (n + 1) refl (omega arith) s hp (through-seq_first r B p q n) in
    let other = part-stands r W G a (second_liveness a p q (n + 1 + statement_count p)) B B x (Second n) t q n c refl (omega arith) s hq
    (through-seq_second r B p q n) in
    two_places (FollowsAround r W) n (statement_count p) (statement_count q) m s.follows
    (follow r W (λ l. held_of r n (layer_above n l)) (part_liveness a p) B (Branch n) p (n + 1) kernel.0 first)
    (follow r W (λ l. held_of r n (layer_above n l)) (second_liveness a p q (n + 1 + statement_count p)) B (Second n) q c kernel.1 other) le lt
follow r W G a B x (Loop at p) n kernel s m le lt =
    let t = Loop at p in
    let hp = stands_one W n (row a B x t 0) (rows (loop_liveness a p (n + 1)) (B) (Looped n) p (n + 1)) s.rows_in in
    let first = part-stands r W G a (loop_liveness a p (n + 1)) B (B) x (Looped n) t p n (n + 1) refl (omega arith) s hp (through-loop r B at p n) in
    one_place (FollowsAround r W) n (statement_count p) m s.follows
    (follow r W (λ l. held_of r n (layer_above n l)) (loop_liveness a p (n + 1)) (B) (Looped n) p (n + 1) kernel first) le lt
follow r W G a B x (Par p q) n kernel s m le lt =
    let t = Par p q in
    let c = n + 1 + statement_count p in
    let ps = rows (part_liveness a p) B (Branch n) p (n + 1) in
    let qs = rows (part_liveness a q) B (Branch n) q c in
    let hp = stands_first W n (row a B x t c) ps qs s.rows_in in
    let hq = stands_second W n (row a B x t c) p ps qs (length-rows (part_liveness a p) B (Branch n) p (n + 1)) s.rows_in in
    let first = part-stands r W G a (part_liveness a p) B B x (Branch n) t p n (n + 1) refl (omega arith) s hp (through-par_left r B p q n) in
    let other = part-stands r W G a (part_liveness a q) B B x (Branch n) t q n c refl (omega arith) s hq (through-par_right r B p q n) in
    two_places (FollowsAround r W) n (statement_count p) (statement_count q) m s.follows
    (follow r W (λ l. held_of r n (layer_above n l)) (part_liveness a p) B (Branch n) p (n + 1) kernel.0 first)
    (follow r W (λ l. held_of r n (layer_above n l)) (part_liveness a q) B (Branch n) q c kernel.1 other) le lt
follow r W G a B x (Trap p) n kernel s m le lt =
    let t = Trap p in
    let hp = stands_one W n (row a B x t 0) (rows (part_liveness a p) (B) (Part n) p (n + 1)) s.rows_in in
    let first = part-stands r W G a (part_liveness a p) B (B) x (Part n) t p n (n + 1) refl (omega arith) s hp (through-trap r B p n) in
    one_place (FollowsAround r W) n (statement_count p) m s.follows
    (follow r W (λ l. held_of r n (layer_above n l)) (part_liveness a p) (B) (Part n) p (n + 1) kernel first) le lt
follow r W G a B x (Local k p) n kernel s m le lt =
    let t = Local k p in
    let hp = stands_one W n (row a B x t 0) (rows (part_liveness a p) (bind B k n) (Part n) p (n + 1)) s.rows_in in
    let first = part-stands r W G a (part_liveness a p) B (bind B k n) x (Part n) t p n (n + 1) refl (omega arith) s hp (through-local r B k p n) in
    one_place (FollowsAround r W) n (statement_count p) m s.follows
    (follow r W (λ l. held_of r n (layer_above n l)) (part_liveness a p) (bind B k n) (Part n) p (n + 1) kernel first) le lt
follow r W G a B x (Awake e p) n kernel s m le lt = absurd kernel

-- each statement of a program
abbrev pub program_readings : Program → Values → Valuation → Readings
program_readings p given V = record { given = given; wires = V; scope = program_scope p.inputs (interface_count p); body = p.body }

pub program_follows : (p : Program) (given : Values) (V : Valuation) (m : ℕ) → IsKernel p.body → m < statement_count p.body
    → FollowsAround (program_readings p given V) (program_rows p) m
program_follows p given V m kernel low =
    let r = program_readings p given V in
    let W = program_rows p in
    let B = program_scope p.inputs (interface_count p) in
    let stands = stands_whole W in
    let here = row_read W (body_liveness p.body) B Body p.body 0 stands in
    let outermost : IsOutermost r (row (body_liveness p.body) B Body p.body (second_of p.body 0)) 0 = record {
      kept = λ l. kept-self V p.body 0 l;
      held = λ l. held-self given V B p.body 0 l;
    } in
    let first : IsOutermost r (row_at W 0) 0 = subst (λ z. IsOutermost r z 0) (sym here.same) outermost in
    let entry : around (row_at W 0).entry ≡ None = ap (λ z. around z.entry) here.same in
    let s : Stands r W (λ l. false) (body_liveness p.body) B Body p.body 0 = record {
      rows_in = stands;
      inside = record {
        kept = λ k l h g. ap (λ b. b && kept_at V p.body 0 k l) (sym (kept-self V p.body 0 (layer_above 0 l)));
        held = λ k l h g. ap (λ b. b && held_at given V B p.body 0 k l) (sym (kept-self V p.body 0 (layer_above 0 l)));
      };
      follows = subst (λ o. MatchOption o (IsOutermost r (row_at W 0) 0) (λ n. IsWithin r (row_at W n) (row_at W 0) n 0)) (sym entry) first;
    } in
    follow r W (λ l. false) (body_liveness p.body) B Body p.body 0 kernel s m (omega arith) (omega arith)
