-- In the scope of each statement of a program, what is outgoing is an outgoing signal, and what is emitted has a status
-- wire.
use Rattle.std.proofs.Common.{◌≡◌, ℕ, ◌+◌, ◌-◌, ◌<◌, ◌≤◌, ◌⊎◌, inl, inr, Bool, true, false, ◌==◌, ◌||◌, [], length, refl, sym, ap, ◌∙◌}
use Rattle.std.proofs.Common.{subst, ⊎_elim, arith}
use Rattle.std.specs.Prelude.{nat_lt, All, Contains, if◌then◌else◌, ⊤}
use Rattle.std.proofs.lemmas.Bool.{cases_Bool, ltb-true, ltb-false, le-ltb}
use Rattle.std.proofs.lemmas.List.Elements.{All-cons, All-nil, All-append, All-get_or, Contains-append_left}
use Rattle.std.proofs.lemmas.List.FromFn.{get_or-map-range_with_len, length-map-range_with_len}
use Rattle.est_kernel.specs.Plain.{Program, interface_count, outgoing_count}
use Rattle.est_kernel.specs.Terms.{Term, Emit, Present, Suspend, Seq, Loop, Par, Trap, Local, Awake}
use Rattle.est_kernel.specs.Preorder.{statement_count}
use Rattle.est_kernel.specs.WellFormed.{IsKernel, IsWellFormed, SignalsFit, with_signal}
use Rattle.grc_graph.specs.Layers.{Liveness, body_liveness, part_liveness, second_liveness, loop_liveness}
use Rattle.grc_graph.specs.Neighbouring.{program_wires}
use Rattle.grc_graph.specs.Scopes.{Binding, Scope, Entering, Outgoing, BoundAt, Unbound, bind, program_scope}
use Rattle.grc_graph.specs.Statements.{Entry, Body, Part, Branch, Then, Else, Suspended, Second, Looped}
use Rattle.grc_graph.specs.Rows.{Row, row, rows, program_rows, row_at}
use Rattle.grc_graph.specs.Wires.{Out}
use Rattle.grc_graph.proofs.RowReads.{length-program_rows}
use Rattle.grc_graph.proofs.WireFilling.{outs_of, program_wires_by_row}

-- a binding that has a status wire
abbrev pub HasStatus : Binding → Type 0
HasStatus b = (b ≡ Outgoing) ⊎ ((n : ℕ) × (b ≡ BoundAt n))

pub record ScopeFits (inputs interface : ℕ) (visible : ℕ → Bool) (B : Scope) : Type 0 where
  pub outs_from : (s : ℕ) → B s ≡ Outgoing → inputs ≤ s
  pub outs_below : (s : ℕ) → B s ≡ Outgoing → s < interface
  pub shown : (s : ℕ) → visible s ≡ true → inputs ≤ s → HasStatus (B s)

abbrev pub EmitShown : Term → Scope → Type 0
EmitShown (Emit s) B = HasStatus (B s)
EmitShown _ B = ⊤

pub record RowFits (inputs interface : ℕ) (r : Row) : Type 0 where
  pub outs_from : (s : ℕ) → r.scope s ≡ Outgoing → inputs ≤ s
  pub outs_below : (s : ℕ) → r.scope s ≡ Outgoing → s < interface
  pub emits : EmitShown r.statement r.scope

no_outgoing : (n : ℕ) → BoundAt n ≡ Outgoing → ⊥
no_outgoing n e = cc

bind_fits : (inputs interface : ℕ) (visible : ℕ → Bool) (B : Scope) (s n : ℕ) → ScopeFits inputs interface visible B
    → ScopeFits inputs interface (with_signal s visible) (bind B s n)
bind_fits inputs interface visible B s n h = record {
  outs_from = λ t e. outside t e (h.outs_from t);
  outs_below = λ t e. below t e (h.outs_below t);
  shown = shown;
}
  where
    outside : (t : ℕ) → bind B s n t ≡ Outgoing → (B t ≡ Outgoing → inputs ≤ t) → inputs ≤ t
    outside t e f =
        ⊎_elim (λ y. absurd (no_outgoing n (ap (λ b. if b then BoundAt n else B t) (sym y) ∙ e)))
        (λ y. f (ap (λ b. if b then BoundAt n else B t) (sym y) ∙ e)) (cases_Bool (t == s))

    below : (t : ℕ) → bind B s n t ≡ Outgoing → (B t ≡ Outgoing → t < interface) → t < interface
    below t e f =
        ⊎_elim (λ y. absurd (no_outgoing n (ap (λ b. if b then BoundAt n else B t) (sym y) ∙ e)))
        (λ y. f (ap (λ b. if b then BoundAt n else B t) (sym y) ∙ e)) (cases_Bool (t == s))

    shown : (t : ℕ) → with_signal s visible t ≡ true → inputs ≤ t → HasStatus (bind B s n t)
    shown t v le =
        ⊎_elim (λ y. inr (n, ap (λ b. if b then BoundAt n else B t) y))
        (λ y. subst (λ b. HasStatus (if b then BoundAt n else B t)) (sym y) (h.shown t (ap (λ b. b || visible t) (sym y) ∙ v) le))
        (cases_Bool (t == s))

first_fits : (inputs interface : ℕ) → ScopeFits inputs interface (λ s. nat_lt s interface) (program_scope inputs interface)
first_fits inputs interface = record {
  outs_from = λ s e. from s (nat_lt s inputs) refl (nat_lt s interface) e;
  outs_below = λ s e. below s (nat_lt s inputs) (nat_lt s interface) refl e;
  shown = λ s v le.
      let a : nat_lt s inputs ≡ false = le-ltb s inputs le in
      inl ((λ i. if a i then Entering else if v i then Outgoing else Unbound));
}
  where
    from : (s : ℕ) (x : Bool) → nat_lt s inputs ≡ x → (y : Bool) → (if x then Entering else if y then Outgoing else Unbound) ≡ Outgoing → inputs ≤ s
    from s true h y e = absurd (cc)
    from s false h y e = ltb-false s inputs h

    below : (s : ℕ) (x y : Bool) → nat_lt s interface ≡ y → (if x then Entering else if y then Outgoing else Unbound) ≡ Outgoing → s < interface
    below s true y h e = absurd (cc)
    below s false true h e = ltb-true s interface h
    below s false false h e = absurd (cc)

own_fits : (inputs interface : ℕ) (visible : ℕ → Bool) (B : Scope) (a : Liveness) (x : Entry) (t : Term) (k : ℕ) → ScopeFits inputs interface visible B →
    EmitShown t B
    → RowFits inputs interface (row a B x t k)
own_fits inputs interface visible B a x t k h e = record { outs_from = h.outs_from; outs_below = h.outs_below; emits = e }

rows_fit : (inputs interface all : ℕ) (visible : ℕ → Bool) (B : Scope) (a : Liveness) (x : Entry) (t : Term) (n : ℕ)
    → ScopeFits inputs interface visible B
    → SignalsFit inputs interface all visible t
    → All (RowFits inputs interface) (rows a B x t n)
rows_fit inputs interface all visible B a x (Emit s) n h g = All-cons (RowFits inputs interface) _ []
    (own_fits inputs interface visible B a x (Emit s) 0 h (h.shown s g.0 g.1)) (All-nil (RowFits inputs interface))
rows_fit inputs interface all visible B a x (Present e p q) n h g =
    All-cons (RowFits inputs interface) _ _ (own_fits inputs interface visible B a x (Present e p q) (n + 1 + statement_count p) h tt)
    (All-append (RowFits inputs interface) _ _ (rows_fit inputs interface all visible B (part_liveness a p) (Then n e) p (n + 1) h g.1)
    (rows_fit inputs interface all visible B (part_liveness a q) (Else n e) q (n + 1 + statement_count p) h g.2))
rows_fit inputs interface all visible B a x (Seq p q) n h g =
    All-cons (RowFits inputs interface) _ _ (own_fits inputs interface visible B a x (Seq p q) (n + 1 + statement_count p) h tt)
    (All-append (RowFits inputs interface) _ _ (rows_fit inputs interface all visible B (part_liveness a p) (Branch n) p (n + 1) h g.0)
    (rows_fit inputs interface all visible B (second_liveness a p q (n + 1 + statement_count p)) (Second n) q (n + 1 + statement_count p) h g.1))
rows_fit inputs interface all visible B a x (Par p q) n h g =
    All-cons (RowFits inputs interface) _ _ (own_fits inputs interface visible B a x (Par p q) (n + 1 + statement_count p) h tt)
    (All-append (RowFits inputs interface) _ _ (rows_fit inputs interface all visible B (part_liveness a p) (Branch n) p (n + 1) h g.0)
    (rows_fit inputs interface all visible B (part_liveness a q) (Branch n) q (n + 1 + statement_count p) h g.1))
rows_fit inputs interface all visible B a x (Suspend e p) n h g =
    All-cons (RowFits inputs interface) _ _ (own_fits inputs interface visible B a x (Suspend e p) 0 h tt)
    (rows_fit inputs interface all visible B (part_liveness a p) (Suspended n e) p (n + 1) h g.1)
rows_fit inputs interface all visible B a x (Loop at p) n h g =
    All-cons (RowFits inputs interface) _ _ (own_fits inputs interface visible B a x (Loop at p) 0 h tt)
    (rows_fit inputs interface all visible B (loop_liveness a p (n + 1)) (Looped n) p (n + 1) h g)
rows_fit inputs interface all visible B a x (Trap p) n h g =
    All-cons (RowFits inputs interface) _ _ (own_fits inputs interface visible B a x (Trap p) 0 h tt)
    (rows_fit inputs interface all visible B (part_liveness a p) (Part n) p (n + 1) h g)
rows_fit inputs interface all visible B a x (Local s p) n h g =
    All-cons (RowFits inputs interface) _ _ (own_fits inputs interface visible B a x (Local s p) 0 h tt)
    (rows_fit inputs interface all (with_signal s visible) (bind B s n) (part_liveness a p) (Part n) p (n + 1) (bind_fits inputs interface visible B s n h) g.2)
rows_fit inputs interface all visible B a x (Awake e p) n h g =
    All-cons (RowFits inputs interface) _ _ (own_fits inputs interface visible B a x (Awake e p) 0 h tt)
    (rows_fit inputs interface all visible B (part_liveness a p) (Part n) p (n + 1) h g.1)
rows_fit inputs interface all visible B a x t n h g = All-cons (RowFits inputs interface) _ [] (own_fits inputs interface visible B a x t 0 h tt)
    (All-nil (RowFits inputs interface))

pub program_fits : (p : Program) (n : ℕ) → IsWellFormed p → n < statement_count p.body → RowFits p.inputs (interface_count p) (row_at (program_rows p) n)
program_fits p n h l =
    All-get_or (RowFits p.inputs (interface_count p)) (program_rows p) n _ (omega (arith, length-program_rows p))
    (rows_fit p.inputs (interface_count p) (length p.signals) (λ s. nat_lt s (interface_count p)) (program_scope p.inputs (interface_count p))
    (body_liveness p.body) Body p.body 0 (first_fits p.inputs (interface_count p)) h.signals)

-- the wire of an outgoing signal
pub out_there : (p : Program) → IsKernel p.body → (s : ℕ) → p.inputs ≤ s → s < interface_count p → Contains (program_wires p) (Out s)
out_there p k s le lt =
    let e : p.inputs + (s - p.inputs) ≡ s = omega arith in
    let inside : s - p.inputs < outgoing_count p = omega arith in
    subst (λ ws. Contains ws (Out s)) (sym (program_wires_by_row p k))
    (Contains-append_left (outs_of p) _ (Out s) (
      s - p.inputs,
      omega (arith, length-map-range_with_len Out p.inputs (outgoing_count p)),
      get_or-map-range_with_len Out p.inputs (outgoing_count p) (s - p.inputs) s (Out s) inside e,
    ))
