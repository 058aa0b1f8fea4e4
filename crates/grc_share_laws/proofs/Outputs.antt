-- A signal that goes out, as a statement sees it, is one of the program's outgoing ones.
use Rattle.std.proofs.Common.{◌≡◌, ℕ, ◌+◌, ◌<◌, Bool, true, false, ◌==◌, cond, List, refl, sym, ap, ◌∙◌, arith}
use Rattle.std.specs.Prelude.{Contains, nat_lt}
use Rattle.std.proofs.lemmas.Bool.{ltb-false, ltb-true}
use Rattle.est_kernel.specs.Plain.{Program, interface_count, interface_of, outgoing_count}
use Rattle.est_kernel.specs.Preorder.{statement_count}
use Rattle.est_kernel.specs.Terms.{Term, Nothing, Pause, Emit, Exit, Present, Suspend, Seq, Loop, Par, Trap, Local, Awake}
use Rattle.grc_graph.specs.Layers.{Liveness, body_liveness}
use Rattle.grc_graph.specs.Rows.{Row, row, program_rows, row_at}
use Rattle.grc_graph.specs.Scopes.{Scope, Entering, Outgoing, BoundAt, Unbound, bind, program_scope}
use Rattle.grc_graph.specs.Selected.{HasExitCodes}
use Rattle.grc_graph.specs.Statements.{Entry, Body}
use Rattle.grc_graph.proofs.Exports.{row_read, stands_whole}
use Rattle.grc_solutions.proofs.Exports.{range_has}
use Rattle.grc_share_laws.proofs.Reached.{Kids, Parts, Site, each_statement}

module _ (W : List Row) (inputs interface : ℕ) where
  -- what goes out here goes out of the program
  abbrev GoesOut : ℕ → Type 0
  GoesOut n = (s : ℕ) → (row_at W n).scope s ≡ Outgoing → program_scope inputs interface s ≡ Outgoing

  kid : (a : Liveness) (B : Scope) (x : Entry) (p : Term) (c k : ℕ) → row_at W c ≡ row a B x p k
      → ((s : ℕ) → B s ≡ Outgoing → program_scope inputs interface s ≡ Outgoing) → GoesOut c
  kid a B x p c k e h s i = h s (sym (ap (λ r. r.scope s) e) ∙ i)

  bound : (B : Scope) (u n : ℕ) → ((s : ℕ) → B s ≡ Outgoing → program_scope inputs interface s ≡ Outgoing) → (s : ℕ) → bind B u n s ≡ Outgoing
      → program_scope inputs interface s ≡ Outgoing
  bound B u n h s e = by (s == u) refl
    where
      never : BoundAt n ≡ Outgoing → ⊥
      never e = cc

      by : (b : Bool) → (s == u) ≡ b → program_scope inputs interface s ≡ Outgoing
      by true i = absurd (never (ap (λ z. cond z (BoundAt n) (B s)) (sym i) ∙ e))
      by false i = h s (ap (λ z. cond z (BoundAt n) (B s)) (sym i) ∙ e)

  step : (a : Liveness) (B : Scope) (x : Entry) (t : Term) (n : ℕ) → Site W a B x t n → GoesOut n → Parts GoesOut t n
  step a B x t n site here = by t site.kids
    where
      outside : (s : ℕ) → B s ≡ Outgoing → program_scope inputs interface s ≡ Outgoing
      outside s e = here s (ap (λ r. r.scope s) site.same ∙ e)

      by : (t : Term) → Kids W a B t n → Parts GoesOut t n
      by Nothing k = tt
      by Pause k = tt
      by (Emit s) k = tt
      by (Exit c) k = tt
      by (Present e p q) k = (kid _ B _ p (n + 1) _ k.0 outside, kid _ B _ q (n + 1 + statement_count p) _ k.1 outside)
      by (Suspend e p) k = kid _ B _ p (n + 1) _ k outside
      by (Seq p q) k = (kid _ B _ p (n + 1) _ k.0 outside, kid _ B _ q (n + 1 + statement_count p) _ k.1 outside)
      by (Loop at p) k = kid _ B _ p (n + 1) _ k outside
      by (Par p q) k = (kid _ B _ p (n + 1) _ k.0 outside, kid _ B _ q (n + 1 + statement_count p) _ k.1 outside)
      by (Trap p) k = kid _ B _ p (n + 1) _ k outside
      by (Local u p) k = kid _ (bind B u n) _ p (n + 1) _ k (bound B u n outside)
      by (Awake e p) k = tt

pub scope-out : (p : Program) (n s : ℕ) → HasExitCodes p.body → n < statement_count p.body → (row_at (program_rows p) n).scope s ≡ Outgoing
    → Contains (interface_of p).outgoing s
scope-out p n s codes lt e =
    let W = program_rows p in
    let first = (row_read W (body_liveness p.body) (program_scope p.inputs (interface_count p)) Body p.body 0 (stands_whole W)).same in
    let out = each_statement p (GoesOut W p.inputs (interface_count p)) codes (step W p.inputs (interface_count p))
    (λ s i. sym (ap (λ r. r.scope s) first) ∙ i) n lt s e in
    by (nat_lt s p.inputs) refl (nat_lt s (interface_count p)) refl out
  where
    by : (a : Bool) → nat_lt s p.inputs ≡ a → (b : Bool) → nat_lt s (interface_count p) ≡ b → cond a Entering (cond b Outgoing Unbound) ≡ Outgoing
        → Contains (interface_of p).outgoing s
    by true i b j e = absurd (let z : ⊥ = cc in z)
    by false i false j e = absurd (let z : ⊥ = cc in z)
    by false i true j e =
        range_has p.inputs (outgoing_count p) s (ltb-false s p.inputs i) (omega (arith, ltb-true s (interface_count p) j))
