-- What goes from a statement to its parts is true of each statement, and of each one in a statement.
use Rattle.std.proofs.Common.{◌≡◌, ℕ, ◌+◌, ◌<◌, ◌≤◌, List, length, subst, arith}
use Rattle.std.specs.Prelude.{⊤}
use Rattle.est_kernel.specs.Plain.{Program, interface_count}
use Rattle.est_kernel.specs.Preorder.{statement_count}
use Rattle.est_kernel.specs.Terms.{Term, Nothing, Pause, Emit, Exit, Present, Suspend, Seq, Loop, Par, Trap, Local, Awake}
use Rattle.grc_graph.specs.Layers.{Liveness, body_liveness, part_liveness, second_liveness, loop_liveness}
use Rattle.grc_graph.specs.Rows.{Row, row, rows, second_of, program_rows, row_at}
use Rattle.grc_graph.specs.Scopes.{Scope, bind, program_scope}
use Rattle.grc_graph.specs.Selected.{HasExitCodes}
use Rattle.grc_graph.specs.Statements.{Entry, Body, Part, Branch, Then, Else, Suspended, Second, Looped}
use Rattle.grc_graph.proofs.Exports.{StandsAt, stands_whole, length-rows, row_read, stands_first, stands_one, stands_second, one_place, two_places}

-- the row of a part
abbrev pub Kid : List Row → ℕ → Liveness → Scope → Entry → Term → Type 0
Kid W c a B x p = row_at W c ≡ row a B x p (second_of p c)

-- the rows of the parts of a statement at n
abbrev pub Kids : List Row → Liveness → Scope → Term → ℕ → Type 0
Kids W a B Nothing n = ⊤
Kids W a B Pause n = ⊤
Kids W a B (Emit s) n = ⊤
Kids W a B (Exit k) n = ⊤
Kids W a B (Present e p q) n =
    Kid W (n + 1) (part_liveness a p) B (Then n e) p × Kid W (n + 1 + statement_count p) (part_liveness a q) B (Else n e) q
Kids W a B (Suspend e p) n = Kid W (n + 1) (part_liveness a p) B (Suspended n e) p
Kids W a B (Seq p q) n =
    Kid W (n + 1) (part_liveness a p) B (Branch n) p
    × Kid W (n + 1 + statement_count p) (second_liveness a p q (n + 1 + statement_count p)) B (Second n) q
Kids W a B (Loop at p) n = Kid W (n + 1) (loop_liveness a p (n + 1)) B (Looped n) p
Kids W a B (Par p q) n =
    Kid W (n + 1) (part_liveness a p) B (Branch n) p × Kid W (n + 1 + statement_count p) (part_liveness a q) B (Branch n) q
Kids W a B (Trap p) n = Kid W (n + 1) (part_liveness a p) B (Part n) p
Kids W a B (Local s p) n = Kid W (n + 1) (part_liveness a p) (bind B s n) (Part n) p
Kids W a B (Awake e p) n = ⊤

-- a fact of each part of a statement at n
abbrev pub Parts : (ℕ → Type 0) → Term → ℕ → Type 0
Parts P Nothing n = ⊤
Parts P Pause n = ⊤
Parts P (Emit s) n = ⊤
Parts P (Exit k) n = ⊤
Parts P (Present e p q) n = P (n + 1) × P (n + 1 + statement_count p)
Parts P (Suspend e p) n = P (n + 1)
Parts P (Seq p q) n = P (n + 1) × P (n + 1 + statement_count p)
Parts P (Loop at p) n = P (n + 1)
Parts P (Par p q) n = P (n + 1) × P (n + 1 + statement_count p)
Parts P (Trap p) n = P (n + 1)
Parts P (Local s p) n = P (n + 1)
Parts P (Awake e p) n = ⊤

-- a statement in the list of a program's statements, with its parts
pub record Site (W : List Row) (a : Liveness) (B : Scope) (x : Entry) (t : Term) (n : ℕ) : Type 0 where
  pub within : n + statement_count t ≤ length W
  pub same : row_at W n ≡ row a B x t (second_of t n)
  pub kids : Kids W a B t n
  pub codes : HasExitCodes t

-- the parts of a statement whose rows stand in the list
pub kids-of : (W : List Row) (a : Liveness) (B : Scope) (x : Entry) (t : Term) (n : ℕ) → StandsAt W n (rows a B x t n) → HasExitCodes t → Kids W a B t n
kids-of W a B x Nothing n h k = tt
kids-of W a B x Pause n h k = tt
kids-of W a B x (Emit s) n h k = tt
kids-of W a B x (Exit c) n h k = tt
kids-of W a B x (Present e p q) n h k =
    let c = n + 1 + statement_count p in
    let r = row a B x (Present e p q) c in
    let ps = rows (part_liveness a p) B (Then n e) p (n + 1) in
    let qs = rows (part_liveness a q) B (Else n e) q c in (
      (row_read W (part_liveness a p) B (Then n e) p (n + 1) (stands_first W n r ps qs h)).same,
      (row_read W (part_liveness a q) B (Else n e) q c (stands_second W n r p ps qs (length-rows (part_liveness a p) B (Then n e) p (n + 1)) h)).same,
    )
kids-of W a B x (Suspend e p) n h k =
    let ps = rows (part_liveness a p) B (Suspended n e) p (n + 1) in
    (row_read W (part_liveness a p) B (Suspended n e) p (n + 1) (stands_one W n (row a B x (Suspend e p) 0) ps h)).same
kids-of W a B x (Seq p q) n h k =
    let c = n + 1 + statement_count p in
    let r = row a B x (Seq p q) c in
    let b = second_liveness a p q c in
    let ps = rows (part_liveness a p) B (Branch n) p (n + 1) in
    let qs = rows b B (Second n) q c in (
      (row_read W (part_liveness a p) B (Branch n) p (n + 1) (stands_first W n r ps qs h)).same,
      (row_read W b B (Second n) q c (stands_second W n r p ps qs (length-rows (part_liveness a p) B (Branch n) p (n + 1)) h)).same,
    )
kids-of W a B x (Loop at p) n h k =
    let b = loop_liveness a p (n + 1) in
    let ps = rows b B (Looped n) p (n + 1) in
    (row_read W b B (Looped n) p (n + 1) (stands_one W n (row a B x (Loop at p) 0) ps h)).same
kids-of W a B x (Par p q) n h k =
    let c = n + 1 + statement_count p in
    let r = row a B x (Par p q) c in
    let ps = rows (part_liveness a p) B (Branch n) p (n + 1) in
    let qs = rows (part_liveness a q) B (Branch n) q c in (
      (row_read W (part_liveness a p) B (Branch n) p (n + 1) (stands_first W n r ps qs h)).same,
      (row_read W (part_liveness a q) B (Branch n) q c (stands_second W n r p ps qs (length-rows (part_liveness a p) B (Branch n) p (n + 1)) h)).same,
    )
kids-of W a B x (Trap p) n h k =
    let ps = rows (part_liveness a p) B (Part n) p (n + 1) in
    (row_read W (part_liveness a p) B (Part n) p (n + 1) (stands_one W n (row a B x (Trap p) 0) ps h)).same
kids-of W a B x (Local s p) n h k =
    let ps = rows (part_liveness a p) (bind B s n) (Part n) p (n + 1) in
    (row_read W (part_liveness a p) (bind B s n) (Part n) p (n + 1) (stands_one W n (row a B x (Local s p) 0) ps h)).same
kids-of W a B x (Awake e p) n h k = absurd k

abbrev pub Goes : List Row → (ℕ → Type 0) → Type 0
Goes W P = (a : Liveness) (B : Scope) (x : Entry) (t : Term) (n : ℕ) → Site W a B x t n → P n → Parts P t n

module _ (W : List Row) (P : ℕ → Type 0) (step : Goes W P) where
  site : (a : Liveness) (B : Scope) (x : Entry) (t : Term) (n : ℕ) → StandsAt W n (rows a B x t n) → HasExitCodes t → Site W a B x t n
  site a B x t n h k = record {
    within = omega (arith, h.within, length-rows a B x t n);
    same = (row_read W a B x t n h).same;
    kids = kids-of W a B x t n h k;
    codes = k;
  }

  leaf : (n m : ℕ) → P n → n ≤ m → m < n + 1 → P m
  leaf n m h le lt = subst P (let z : n ≡ m = omega arith in z) h

  pub each_part : (a : Liveness) (B : Scope) (x : Entry) (t : Term) (n : ℕ) → StandsAt W n (rows a B x t n) → HasExitCodes t → P n → (m : ℕ) → n ≤ m
      → m < n + statement_count t → P m
  each_part a B x Nothing n h k here m le lt = leaf n m here le lt
  each_part a B x Pause n h k here m le lt = leaf n m here le lt
  each_part a B x (Emit s) n h k here m le lt = leaf n m here le lt
  each_part a B x (Exit c) n h k here m le lt = leaf n m here le lt
  each_part a B x (Present e p q) n h k here m le lt =
      let c = n + 1 + statement_count p in
      let t = Present e p q in
      let ps = rows (part_liveness a p) B (Then n e) p (n + 1) in
      let hp = stands_first W n (row a B x t c) ps (rows (part_liveness a q) B (Else n e) q c) h in
      let hq = stands_second W n (row a B x t c) p ps (rows (part_liveness a q) B (Else n e) q c) (length-rows (part_liveness a p) B (Then n e) p (n + 1)) h in
      let s = step a B x t n (site a B x t n h k) here in
      two_places P n (statement_count p) (statement_count q) m here
      (each_part (part_liveness a p) B (Then n e) p (n + 1) hp k.0 s.0) (each_part (part_liveness a q) B (Else n e) q c hq k.1 s.1) le lt
  each_part a B x (Suspend e p) n h k here m le lt =
      let t = Suspend e p in
      let hp = stands_one W n (row a B x t 0) (rows (part_liveness a p) B (Suspended n e) p (n + 1)) h in
      one_place P n (statement_count p) m here
      (each_part (part_liveness a p) B (Suspended n e) p (n + 1) hp k (step a B x t n (site a B x t n h k) here)) le lt
  each_part a B x (Seq p q) n h k here m le lt =
      let c = n + 1 + statement_count p in
      let t = Seq p q in
      let b = second_liveness a p q c in
      let ps = rows (part_liveness a p) B (Branch n) p (n + 1) in
      let hp = stands_first W n (row a B x t c) ps (rows b B (Second n) q c) h in
      let hq = stands_second W n (row a B x t c) p ps (rows b B (Second n) q c) (length-rows (part_liveness a p) B (Branch n) p (n + 1)) h in
      let s = step a B x t n (site a B x t n h k) here in
      two_places P n (statement_count p) (statement_count q) m here
      (each_part (part_liveness a p) B (Branch n) p (n + 1) hp k.0 s.0) (each_part b B (Second n) q c hq k.1 s.1) le lt
  each_part a B x (Loop at p) n h k here m le lt =
      let t = Loop at p in
      let b = loop_liveness a p (n + 1) in
      let hp = stands_one W n (row a B x t 0) (rows b B (Looped n) p (n + 1)) h in
      one_place P n (statement_count p) m here
      (each_part b B (Looped n) p (n + 1) hp k (step a B x t n (site a B x t n h k) here)) le lt
  each_part a B x (Par p q) n h k here m le lt =
      let c = n + 1 + statement_count p in
      let t = Par p q in
      let ps = rows (part_liveness a p) B (Branch n) p (n + 1) in
      let hp = stands_first W n (row a B x t c) ps (rows (part_liveness a q) B (Branch n) q c) h in
      let hq = stands_second W n (row a B x t c) p ps (rows (part_liveness a q) B (Branch n) q c) (length-rows (part_liveness a p) B (Branch n) p (n + 1)) h in
      let s = step a B x t n (site a B x t n h k) here in
      two_places P n (statement_count p) (statement_count q) m here
      (each_part (part_liveness a p) B (Branch n) p (n + 1) hp k.0 s.0) (each_part (part_liveness a q) B (Branch n) q c hq k.1 s.1) le lt
  each_part a B x (Trap p) n h k here m le lt =
      let t = Trap p in
      let hp = stands_one W n (row a B x t 0) (rows (part_liveness a p) B (Part n) p (n + 1)) h in
      one_place P n (statement_count p) m here
      (each_part (part_liveness a p) B (Part n) p (n + 1) hp k (step a B x t n (site a B x t n h k) here)) le lt
  each_part a B x (Local s p) n h k here m le lt =
      let t = Local s p in
      let hp = stands_one W n (row a B x t 0) (rows (part_liveness a p) (bind B s n) (Part n) p (n + 1)) h in
      one_place P n (statement_count p) m here
      (each_part (part_liveness a p) (bind B s n) (Part n) p (n + 1) hp k (step a B x t n (site a B x t n h k) here)) le lt
  each_part a B x (Awake e p) n h k here m le lt = absurd k

-- of each statement of a program
pub each_statement : (p : Program) (P : ℕ → Type 0) → HasExitCodes p.body → Goes (program_rows p) P → P 0 → (m : ℕ) → m < statement_count p.body → P m
each_statement p P codes step here m lt =
    each_part (program_rows p) P step (body_liveness p.body) (program_scope p.inputs (interface_count p)) Body p.body 0 (stands_whole (program_rows p)) codes
    here m (omega arith) (omega (arith, lt))
