-- In a solution of a program's graph: what is true of the wires of each statement, by its number.
use Rattle.std.proofs.Common.{◌≡◌, ℕ, ◌+◌, ◌<◌, Bool, true, sym, ap, ◌∙◌, subst, inl, inr, ⊎_elim}
use Rattle.std.specs.Prelude.{Contains, List, ⊤}
use Rattle.std.proofs.lemmas.Bool.{and_parts, both_ways, cases_Bool, false≢true}
use Rattle.est_kernel.specs.Plain.{Program, interface_count}
use Rattle.est_kernel.specs.Preorder.{statement_count}
use Rattle.est_kernel.specs.Terms.{Term, Nothing, Pause, Emit, Exit, Present, Suspend, Seq, Loop, Par, Trap, Local, Awake}
use Rattle.est_kernel.specs.WellFormed.{IsKernel}
use Rattle.grc_graph.specs.Coherence.{StartedWalked, ResumedWalked}
use Rattle.grc_graph.specs.GraphRuns.{SolvesGraph, graph_of, program_wires}
use Rattle.grc_graph.specs.Layers.{Layer, Resumed, Started, Liveness, body_liveness, part_liveness, second_liveness, loop_liveness}
use Rattle.grc_graph.specs.Readings.{Valuation}
use Rattle.grc_graph.specs.Residuals.{holds}
use Rattle.grc_graph.specs.Rows.{Row, row, program_rows, row_at}
use Rattle.grc_graph.specs.Scopes.{Scope, program_scope}
use Rattle.grc_graph.specs.Selected.{HasExitCodes, IsState}
use Rattle.grc_graph.specs.Statements.{Entry, Body, Part, Branch, Then, Else, Suspended, Second, Looped}
use Rattle.grc_graph.specs.Walk.{State, Values}
use Rattle.grc_graph.specs.Wires.{Wire, StatusOf, End}
use Rattle.grc_graph.specs.WireTables.{is_local}
use Rattle.grc_graph.proofs.Exports.{IsEnd, IsStatus, wire_only, row_read, stands_whole}
use Rattle.grc_solutions_laws.specs.GraphWalks.{IsWalkOf, selected_of}
use Rattle.grc_solutions_laws.proofs.Exports.{resumed_at, started_at}
use Rattle.grc_share.proofs.Exports.{live_row}
use Rattle.grc_solutions.proofs.Exports.{equation_wires_are, given_contained, is_given}
use Rattle.grc_share_laws.proofs.Excluded.{is_in, live, walked}
use Rattle.grc_share_laws.proofs.Exclusion.{Descends, Follows, Restarts, Runs}
use Rattle.grc_share_laws.proofs.PartsRunning.{IsIn, PartsHere, PartsLive, Walked, parts_here}
use Rattle.grc_share_laws.proofs.Reached.{Kids, Parts, Site, each_statement}

-- what runs at c, which is entered so, runs in the statement around it
abbrev pub Under : Valuation → ℕ → Entry → Type 0
Under V c Body = ⊤
Under V c (Part n) = Descends V c n
Under V c (Branch n) = Descends V c n
Under V c (Then n e) = Descends V c n
Under V c (Else n e) = Descends V c n
Under V c (Suspended n e) = Descends V c n
Under V c (Second n) = Descends V (n + 1) n × Restarts V c n
Under V c (Looped n) = Restarts V c n

-- so is a statement, which is walked in each of its layers
pub record RunsAt (V : Valuation) (S : ℕ → Bool) (r : Row) (n : ℕ) : Type 0 where
  pub walked : Walked V S r.live r.statement n
  pub under : Under V n r.entry
  pub codes : HasExitCodes r.statement

-- the parts have their liveness
pub lives : (W : List Row) (a : Liveness) (B : Scope) (t : Term) (n : ℕ) → Kids W a B t n → PartsLive (live_row W) a t n
lives W a B Nothing n k = tt
lives W a B Pause n k = tt
lives W a B (Emit s) n k = tt
lives W a B (Exit c) n k = tt
lives W a B (Present e p q) n k = (ap (λ r. r.live) k.0, ap (λ r. r.live) k.1)
lives W a B (Suspend e p) n k = ap (λ r. r.live) k
lives W a B (Seq p q) n k = (ap (λ r. r.live) k.0, ap (λ r. r.live) k.1)
lives W a B (Loop at p) n k = ap (λ r. r.live) k
lives W a B (Par p q) n k = (ap (λ r. r.live) k.0, ap (λ r. r.live) k.1)
lives W a B (Trap p) n k = ap (λ r. r.live) k
lives W a B (Local s p) n k = ap (λ r. r.live) k
lives W a B (Awake e p) n k = tt

module _ (W : List Row) (V : Valuation) (S : ℕ → Bool) where
  abbrev Runs-at : ℕ → Type 0
  Runs-at n = RunsAt V S (row_at W n) n

  kid : (a : Liveness) (B : Scope) (x : Entry) (p : Term) (c k : ℕ) → row_at W c ≡ row a B x p k → Walked V S a p c → Under V c x → HasExitCodes p → Runs-at c
  kid a B x p c k e w u h = subst (λ r. RunsAt V S r c) (sym e) (record { walked = w; under = u; codes = h })

  pub restarts : (f g : Bool) (m n : ℕ) → Follows V f g m n → Restarts V m n
  restarts f g m n h l r = ⊎_elim (λ x. inl x.0) (λ x. inr (x.0, x.1.0)) (h l r)

  parts : (a : Liveness) (B : Scope) (t : Term) (n : ℕ) → Kids W a B t n → HasExitCodes t → PartsHere V S a t n → Parts Runs-at t n
  parts a B Nothing n k h w = tt
  parts a B Pause n k h w = tt
  parts a B (Emit s) n k h w = tt
  parts a B (Exit c) n k h w = tt
  parts a B (Present e p q) n k h w = (
    kid (part_liveness a p) B (Then n e) p (n + 1) _ k.0 w.0.1 w.0.0 h.0,
    kid (part_liveness a q) B (Else n e) q (n + 1 + statement_count p) _ k.1 w.1.1 w.1.0 h.1,
  )
  parts a B (Suspend e p) n k h w = kid (part_liveness a p) B (Suspended n e) p (n + 1) _ k w.1 w.0 h
  parts a B (Seq p q) n k h w =
      let m = n + 1 + statement_count p in (
        kid (part_liveness a p) B (Branch n) p (n + 1) _ k.0 w.0.1 w.0.0 h.0,
        kid (second_liveness a p q m) B (Second n) q m _ k.1 w.1.1 (w.0.0, restarts (holds S p (n + 1)) (holds S q m) m n w.1.0) h.1,
      )
  parts a B (Loop at p) n k h w = kid (loop_liveness a p (n + 1)) B (Looped n) p (n + 1) _ k w.1 w.0 h
  parts a B (Par p q) n k h w = (
    kid (part_liveness a p) B (Branch n) p (n + 1) _ k.0 w.0.1 w.0.0 h.0,
    kid (part_liveness a q) B (Branch n) q (n + 1 + statement_count p) _ k.1 w.1.1 w.1.0 h.1,
  )
  parts a B (Trap p) n k h w = kid (part_liveness a p) B (Part n) p (n + 1) _ k w.1 w.0 h
  parts a B (Local s p) n k h w = kid (part_liveness a p) _ (Part n) p (n + 1) _ k w.1 w.0 h
  parts a B (Awake e p) n k h w = tt

-- a Local whose signal is present runs
local-started : (V : Valuation) (t : Term) (n : ℕ) (l : Layer) (v : Values) (b : Bool) → is_local t ≡ true → StartedWalked V t n l v b → V (StatusOf n l) ≡ true
    → b ≡ true
local-started V (Local s p) n l v b i w h = (and_parts b _ (sym w.1 ∙ h)).0
local-started V _ n l v b i w h = absurd (false≢true i)

local-resumed : (V : Valuation) (S : ℕ → Bool) (t : Term) (n : ℕ) (v : Values) (b : Bool) → is_local t ≡ true → ResumedWalked V S t n v b
    → V (StatusOf n Resumed) ≡ true → b ≡ true
local-resumed V S (Local s p) n v b i w h = (and_parts b _ (sym w.1 ∙ h)).0
local-resumed V S _ n v b i w h = absurd (false≢true i)

module _ (p : Program) (q : State) (event : List Bool) (V : Valuation) (kernel : IsKernel p.body) (codes : HasExitCodes p.body) (state : IsState q p.body)
    (solves : SolvesGraph (graph_of p) q event V) (walk : IsWalkOf p q event V) where
  abbrev W : List Row
  W = program_rows p

  abbrev S : ℕ → Bool
  S = selected_of q

  -- what is true is a wire
  pub there : (w : Wire) → V w ≡ true → Contains (program_wires p) w
  there w h =
      let es = (graph_of p).equations in
      ⊎_elim (λ e. subst (λ ws. Contains ws w) (equation_wires_are _ _ _) (given_contained es w e))
      (λ e. absurd (both_ways (V w) (solves.others w e) h)) (cases_Bool (is_given es w))

  step : (a : Liveness) (B : Scope) (x : Entry) (t : Term) (n : ℕ) → Site (program_rows p) a B x t n → Runs-at (program_rows p) V (selected_of q) n
      → Parts (Runs-at (program_rows p) V (selected_of q)) t n
  step a B x t n site here =
      let w = subst (λ (r : Row). Walked V S r.live r.statement n) site.same here.walked in
      parts W V S a B t n site.kids site.codes
      (parts_here V S (live_row W) (live p q event V kernel codes state walk) a t n site.codes (lives W a B t n site.kids) w)

  first : Runs-at (program_rows p) V (selected_of q) 0
  first =
      let k = row_read W (body_liveness p.body) (program_scope p.inputs (interface_count p)) Body p.body 0 (stands_whole W) in
      subst (λ r. RunsAt V S r 0) (sym k.same) (record { walked = walked p q event V kernel codes state walk; under = tt; codes = codes })

  -- each statement
  pub each : (n : ℕ) → n < statement_count p.body → RunsAt V (selected_of q) (row_at (program_rows p) n) n
  each n h = each_statement p (Runs-at W V S) codes step first n h

  -- what ends runs
  pub end-runs : (n : ℕ) (l : Layer) (k : ℕ) → V (End n l k) ≡ true → Runs V n l
  end-runs n l k h = let at = wire_only p kernel (IsEnd k) n l (there (End n l k) h) in by l (is_in (row_at W n).live l at.live) (each n at.within) h
    where
      by : (l : Layer) → IsIn (row_at (program_rows p) n).live l → RunsAt V (selected_of q) (row_at (program_rows p) n) n → V (End n l k) ≡ true → Runs V n l
      by Resumed i x h =
          let y = x.walked.resumed i in
          let z = resumed_at V S (row_at W n).statement n y.values y.runs x.codes y.is in
          z.go ∙ (and_parts y.runs _ (sym (z.ends k) ∙ h)).0
      by (Started r) i x h =
          let y = x.walked.started r i in
          let z = started_at V (row_at W n).statement n (Started r) y.values y.runs x.codes y.is in
          z.go ∙ (and_parts y.runs _ (sym (z.ends k) ∙ h)).0

  -- where a Local's signal is present, the Local runs
  pub status-runs : (n : ℕ) (l : Layer) → V (StatusOf n l) ≡ true → Runs V n l
  status-runs n l h = let at = wire_only p kernel IsStatus n l (there (StatusOf n l) h) in by l (is_in (row_at W n).live l at.live) at.has (each n at.within) h
    where
      by : (l : Layer) → IsIn (row_at (program_rows p) n).live l → is_local (row_at (program_rows p) n).statement ≡ true
          → RunsAt V (selected_of q) (row_at (program_rows p) n) n → V (StatusOf n l) ≡ true → Runs V n l
      by Resumed i e x h =
          let y = x.walked.resumed i in
          let z = resumed_at V S (row_at W n).statement n y.values y.runs x.codes y.is in
          z.go ∙ local-resumed V S (row_at W n).statement n y.values y.runs e y.is h
      by (Started r) i e x h =
          let y = x.walked.started r i in
          let z = started_at V (row_at W n).statement n (Started r) y.values y.runs x.codes y.is in
          z.go ∙ local-started V (row_at W n).statement n (Started r) y.values y.runs e y.is h
