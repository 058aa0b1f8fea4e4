-- What a statement of a body holds, by its row in the list of statements.
use Rattle.std.proofs.Common.{◌≡◌, ℕ, ◌+◌, ◌-◌, ◌<◌, ◌≤◌, Bool, List, refl, sym, ap, ◌∙◌, subst, arith}
use Rattle.est_kernel.specs.Plain.{Program, interface_count}
use Rattle.est_kernel.specs.Terms.{Term, Nothing, Pause, Emit, Exit, Present, Suspend, Seq, Loop, Par, Trap, Local, Awake}
use Rattle.est_kernel.specs.Preorder.{statement_count}
use Rattle.est_kernel.specs.WellFormed.{IsKernel}
use Rattle.est_kernel.proofs.Exports.{statement_count-pos}
use Rattle.grc_graph.specs.Layers.{Liveness, body_liveness, part_liveness, second_liveness, loop_liveness}
use Rattle.grc_graph.specs.Readings.{holds_at}
use Rattle.grc_graph.specs.Residuals.{holds}
use Rattle.grc_graph.specs.Rows.{Row, row, rows, row_at, program_rows}
use Rattle.grc_graph.specs.Scopes.{Scope, bind, program_scope}
use Rattle.grc_graph.specs.Statements.{Entry, Body, Part, Branch, Then, Else, Suspended, Second, Looped}
use Rattle.grc_graph.proofs.Exports.{StandsAt, stands_whole, length-rows, stands_one, stands_first, stands_second, row_read, holds_at-self, one_place}
use Rattle.grc_graph.proofs.Exports.{two_places}
use Rattle.grc_formulas.proofs.Enclosed.{chosen-first, chosen-second, not-here}

-- what is said of the statement with this number is what its row says
abbrev HoldsThere : (ℕ → Bool) → List Row → Term → (n m : ℕ) → Type 0
HoldsThere S W t n m = holds_at S t n m ≡ holds S (row_at W m).statement m

here-holds : (S : ℕ → Bool) (W : List Row) (a : Liveness) (B : Scope) (x : Entry) (t : Term) (n : ℕ) → StandsAt W n (rows a B x t n) → HoldsThere S W t n n
here-holds S W a B x t n h =
    let k = row_read W a B x t n h in
    holds_at-self S t n ∙ ap (λ (r : Row). holds S r.statement n) (sym k.same)

at-here : (P : ℕ → Type 0) (n m : ℕ) → P n → n ≤ m → m < n + 1 → P m
at-here P n m h le lt = subst P (let z : n ≡ m = omega arith in z) h

there : (S : ℕ → Bool) (W : List Row) (a : Liveness) (B : Scope) (x : Entry) (t : Term) (n : ℕ) → IsKernel t → StandsAt W n (rows a B x t n)
    → (m : ℕ) → n ≤ m → m < n + statement_count t → HoldsThere S W t n m
there S W a B x Nothing n kernel h m le lt = at-here (HoldsThere S W Nothing n) n m (here-holds S W a B x Nothing n h) le lt
there S W a B x Pause n kernel h m le lt = at-here (HoldsThere S W Pause n) n m (here-holds S W a B x Pause n h) le lt
there S W a B x (Emit k) n kernel h m le lt = at-here (HoldsThere S W (Emit k) n) n m (here-holds S W a B x (Emit k) n h) le lt
there S W a B x (Exit k) n kernel h m le lt = at-here (HoldsThere S W (Exit k) n) n m (here-holds S W a B x (Exit k) n h) le lt
there S W a B x (Present e p q) n kernel h m le lt =
    let t = Present e p q in
    let c = n + 1 + statement_count p in
    let ps = rows (part_liveness a p) B (Then n e) p (n + 1) in
    let qs = rows (part_liveness a q) B (Else n e) q c in
    let hp = stands_first W n (row a B x t c) ps qs h in
    let hq = stands_second W n (row a B x t c) p ps qs (length-rows (part_liveness a p) B (Then n e) p (n + 1)) h in
    two_places (HoldsThere S W t n) n (statement_count p) (statement_count q) m (here-holds S W a B x t n h)
    (λ k low high. chosen-first k n c _ _ _ low high ∙ there S W (part_liveness a p) B (Then n e) p (n + 1) kernel.0 hp k low high)
    (λ k low high. chosen-second k n c _ _ _ (omega arith) low ∙ there S W (part_liveness a q) B (Else n e) q c kernel.1 hq k low high) le lt
there S W a B x (Suspend e p) n kernel h m le lt =
    let t = Suspend e p in
    let hp = stands_one W n (row a B x t 0) (rows (part_liveness a p) (B) (Suspended n e) p (n + 1)) h in
    one_place (HoldsThere S W t n) n (statement_count p) m (here-holds S W a B x t n h)
    (λ k low high. not-here k n _ _ low ∙ there S W (part_liveness a p) (B) (Suspended n e) p (n + 1) kernel hp k low high) le lt
there S W a B x (Seq p q) n kernel h m le lt =
    let t = Seq p q in
    let c = n + 1 + statement_count p in
    let ps = rows (part_liveness a p) B (Branch n) p (n + 1) in
    let qs = rows (second_liveness a p q (n + 1 + statement_count p)) B (Second n) q c in
    let hp = stands_first W n (row a B x t c) ps qs h in
    let hq = stands_second W n (row a B x t c) p ps qs (length-rows (part_liveness a p) B (Branch n) p (n + 1)) h in
    two_places (HoldsThere S W t n) n (statement_count p) (statement_count q) m (here-holds S W a B x t n h)
    (λ k low high. chosen-first k n c _ _ _ low high ∙ there S W (part_liveness a p) B (Branch n) p (n + 1) kernel.0 hp k low high)
    (λ k low high. chosen-second k n c _ _ _ (omega arith) low ∙ there S W (second_liveness a p q (n + 1 + statement_count p)) B
    (Second n) q c kernel.1 hq k low high) le lt
there S W a B x (Loop at p) n kernel h m le lt =
    let t = Loop at p in
    let hp = stands_one W n (row a B x t 0) (rows (loop_liveness a p (n + 1)) (B) (Looped n) p (n + 1)) h in
    one_place (HoldsThere S W t n) n (statement_count p) m (here-holds S W a B x t n h)
    (λ k low high. not-here k n _ _ low ∙ there S W (loop_liveness a p (n + 1)) (B) (Looped n) p (n + 1) kernel hp k low high) le lt
there S W a B x (Par p q) n kernel h m le lt =
    let t = Par p q in
    let c = n + 1 + statement_count p in
    let ps = rows (part_liveness a p) B (Branch n) p (n + 1) in
    let qs = rows (part_liveness a q) B (Branch n) q c in
    let hp = stands_first W n (row a B x t c) ps qs h in
    let hq = stands_second W n (row a B x t c) p ps qs (length-rows (part_liveness a p) B (Branch n) p (n + 1)) h in
    two_places (HoldsThere S W t n) n (statement_count p) (statement_count q) m (here-holds S W a B x t n h)
    (λ k low high. chosen-first k n c _ _ _ low high ∙ there S W (part_liveness a p) B (Branch n) p (n + 1) kernel.0 hp k low high)
    (λ k low high. chosen-second k n c _ _ _ (omega arith) low ∙ there S W (part_liveness a q) B (Branch n) q c kernel.1 hq k low high) le lt
there S W a B x (Trap p) n kernel h m le lt =
    let t = Trap p in
    let hp = stands_one W n (row a B x t 0) (rows (part_liveness a p) (B) (Part n) p (n + 1)) h in
    one_place (HoldsThere S W t n) n (statement_count p) m (here-holds S W a B x t n h)
    (λ k low high. not-here k n _ _ low ∙ there S W (part_liveness a p) (B) (Part n) p (n + 1) kernel hp k low high) le lt
there S W a B x (Local v p) n kernel h m le lt =
    let t = Local v p in
    let hp = stands_one W n (row a B x t 0) (rows (part_liveness a p) (bind B v n) (Part n) p (n + 1)) h in
    one_place (HoldsThere S W t n) n (statement_count p) m (here-holds S W a B x t n h)
    (λ k low high. not-here k n _ _ low ∙ there S W (part_liveness a p) (bind B v n) (Part n) p (n + 1) kernel hp k low high) le lt
there S W a B x (Awake e p) n kernel h m le lt = absurd kernel

-- each statement of a program
pub holds_at-row : (p : Program) (S : ℕ → Bool) (m : ℕ) → IsKernel p.body → m < statement_count p.body →
    holds_at S p.body 0 m ≡ holds S (row_at (program_rows p) m).statement m
holds_at-row p S m kernel low =
    there S (program_rows p) (body_liveness p.body) (program_scope p.inputs (interface_count p)) Body p.body 0 kernel (stands_whole (program_rows p)) m
    (omega arith) (omega arith)

-- what is asked of a number behind the last statement is read as of the last one
behind : (S : ℕ → Bool) (t : Term) (n m : ℕ) → n + statement_count t ≤ m → holds_at S t n m ≡ holds_at S t n (n + statement_count t - 1)
behind S Nothing n m h = refl
behind S Pause n m h = refl
behind S (Emit k) n m h = refl
behind S (Exit k) n m h = refl
behind S (Present e p q) n m h =
    let c = n + 1 + statement_count p in
    let last = n + (1 + statement_count p + statement_count q) - 1 in
    let some = statement_count-pos q in
    let e : c + statement_count q - 1 ≡ last = omega arith in
    chosen-second m n c _ _ _ (omega arith) (omega arith) ∙ behind S q c m (omega arith) ∙ ap (holds_at S q c) e
    ∙ sym (chosen-second last n c _ _ _ (omega arith) (omega arith))
behind S (Suspend e p) n m h =
    let last = n + (1 + statement_count p) - 1 in
    let some = statement_count-pos p in
    let e : n + 1 + statement_count p - 1 ≡ last = omega arith in
    not-here m n _ _ (omega arith) ∙ behind S p (n + 1) m (omega arith) ∙ ap (holds_at S p (n + 1)) e ∙ sym (not-here last n _ _ (omega arith))
behind S (Seq p q) n m h =
    let c = n + 1 + statement_count p in
    let last = n + (1 + statement_count p + statement_count q) - 1 in
    let some = statement_count-pos q in
    let e : c + statement_count q - 1 ≡ last = omega arith in
    chosen-second m n c _ _ _ (omega arith) (omega arith) ∙ behind S q c m (omega arith) ∙ ap (holds_at S q c) e
    ∙ sym (chosen-second last n c _ _ _ (omega arith) (omega arith))
behind S (Loop at p) n m h =
    let last = n + (1 + statement_count p) - 1 in
    let some = statement_count-pos p in
    let e : n + 1 + statement_count p - 1 ≡ last = omega arith in
    not-here m n _ _ (omega arith) ∙ behind S p (n + 1) m (omega arith) ∙ ap (holds_at S p (n + 1)) e ∙ sym (not-here last n _ _ (omega arith))
behind S (Par p q) n m h =
    let c = n + 1 + statement_count p in
    let last = n + (1 + statement_count p + statement_count q) - 1 in
    let some = statement_count-pos q in
    let e : c + statement_count q - 1 ≡ last = omega arith in
    chosen-second m n c _ _ _ (omega arith) (omega arith) ∙ behind S q c m (omega arith) ∙ ap (holds_at S q c) e
    ∙ sym (chosen-second last n c _ _ _ (omega arith) (omega arith))
behind S (Trap p) n m h =
    let last = n + (1 + statement_count p) - 1 in
    let some = statement_count-pos p in
    let e : n + 1 + statement_count p - 1 ≡ last = omega arith in
    not-here m n _ _ (omega arith) ∙ behind S p (n + 1) m (omega arith) ∙ ap (holds_at S p (n + 1)) e ∙ sym (not-here last n _ _ (omega arith))
behind S (Local k p) n m h =
    let last = n + (1 + statement_count p) - 1 in
    let some = statement_count-pos p in
    let e : n + 1 + statement_count p - 1 ≡ last = omega arith in
    not-here m n _ _ (omega arith) ∙ behind S p (n + 1) m (omega arith) ∙ ap (holds_at S p (n + 1)) e ∙ sym (not-here last n _ _ (omega arith))
behind S (Awake e p) n m h = refl

pub behind-last : (S : ℕ → Bool) (t : Term) (m : ℕ) → statement_count t ≤ m → holds_at S t 0 m ≡ holds_at S t 0 (statement_count t - 1)
behind-last S t m h =
    let e : 0 + statement_count t - 1 ≡ statement_count t - 1 = omega arith in
    behind S t 0 m (omega arith) ∙ ap (holds_at S t 0) e
