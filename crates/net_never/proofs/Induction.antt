-- What an inductive invariant rules out is never so.
use Rattle.std.proofs.Common.{◌≡◌, ℕ, ◌+◌, ◌-◌, ◌<◌, ◌≤◌, Bool, true, false, not, ◌&&◌, ◌||◌, List, [], ◌∷◌, ◌++◌, length, map, refl, sym, ap, ◌∙◌}
use Rattle.std.proofs.Common.{arith}
use Rattle.std.specs.Prelude.{IsTrue, nat_le, nat_lt, if◌then◌else◌}
use Rattle.std.specs.List.{AllByRecursion, list_all}
use Rattle.std.proofs.lemmas.Bool.{and_parts, and_from, leb-true, ltb-true}
use Rattle.std.proofs.lemmas.List.{get_or-append-add, get_or-map, length-append, length-map, map-id}
use Rattle.base_types.specs.Items.{Item, Event, Reset, EachEvent}
use Rattle.net_ir.specs.declared.netlist.Latch.{Latch}
use Rattle.net_ir.specs.Gates.{value_in}
use Rattle.net_ir.specs.Netlists.{IsNet, Netlist, first_gate}
use Rattle.net_ir.specs.Runs.{initial_latches, net_values, next_latches, values_from}
use Rattle.net_ir.proofs.Exports.{Solves-gate_values, length-next, value_in-gate_values}
use Rattle.sat_kernel.specs.declared.literals.Literal.{Literal}
use Rattle.sat_kernel.specs.Clauses.{IsImplied, IsModel, clause_value, literal_value, opposite}
use Rattle.net_never.specs.GateClauses.{gate_clauses, signed}
use Rattle.net_never.specs.Inductive.{IsInductive, is_between, known_clauses, latch_values, next_clause, source_at}
use Rattle.net_never.specs.Never.{IsNever, FitsInputs}
use Rattle.net_never.proofs.GateLaws.{clauses-solved, model-both}

-- ---- clauses over other variables

-- a literal over another variable of the same value
same-signed : (v w : ℕ → Bool) (n : ℕ) (l : Literal) → v n ≡ w l.variable → literal_value v (signed n l.positive) ≡ literal_value w l
same-signed v w n l e = ap (λ b. if l.positive then b else not b) e

in-range : (first end : ℕ) (n : ℕ) → (nat_le first n && nat_lt n end) ≡ true → (first ≤ n) × (n < end)
in-range first end n e = let parts = and_parts (nat_le first n) (nat_lt n end) e in (leb-true first n parts.0, ltb-true n end parts.1)

-- a clause over other variables has the same value where they have the same values
renamed-value : (v w : ℕ → Bool) (f : ℕ → ℕ) (first end : ℕ) → ((n : ℕ) → first ≤ n → n < end → v (f n) ≡ w n) → (clause : List Literal)
    → IsTrue (is_between first end clause) → clause_value v (map (λ l. signed (f l.variable) l.positive) clause) ≡ clause_value w clause
renamed-value v w f first end same [] over = refl
renamed-value v w f first end same (l ∷ ls) over =
    let parts = and_parts (nat_le first l.variable && nat_lt l.variable end) (is_between first end ls) over in
    let low = in-range first end l.variable parts.0 in
    let here = same-signed v w (f l.variable) l (same l.variable low.0 low.1) in
    let rest = renamed-value v w f first end same ls parts.1 in
    rw (here, rest) refl

same-value : (v w : ℕ → Bool) (first end : ℕ) → ((n : ℕ) → first ≤ n → n < end → v n ≡ w n) → (clause : List Literal)
    → IsTrue (is_between first end clause) → clause_value v clause ≡ clause_value w clause
same-value v w first end same clause over =
    ap (clause_value v) (sym (map-id clause)) ∙ renamed-value v w (λ n. n) first end same clause over

same-model : (v w : ℕ → Bool) (first end : ℕ) → ((n : ℕ) → first ≤ n → n < end → v n ≡ w n) → (clauses : List (List Literal))
    → IsTrue (list_all (is_between first end) clauses) → IsModel w clauses → IsModel v clauses
same-model v w first end same [] over model = refl
same-model v w first end same (c ∷ cs) over model =
    let parts = and_parts (is_between first end c) (list_all (is_between first end) cs) over in
    let both = and_parts (clause_value w c) (list_all (clause_value w) cs) model in
    and_from _ _ (same-value v w first end same c parts.0 ∙ both.0) (same-model v w first end same cs parts.1 both.1)

-- ---- the values of an instant

module _ (net : Netlist) (inputs latches : List Bool) (wide : length inputs ≡ length net.inputs) (all : length latches ≡ length net.latches)
    (is : IsNet net) where
  front : length (inputs ++ latches) ≡ first_gate net
  front = length-append inputs latches ∙ omega arith

  abbrev values : List Bool
  values = net_values net latches inputs

  -- the net of a latch has its value
  latch-value : (n : ℕ) → length net.inputs ≤ n → n < first_gate net → value_in values n ≡ latch_values (length net.inputs) latches n
  latch-value n low high =
      let within : n < length (inputs ++ latches) = rw front high in
      let at : n ≡ length inputs + (n - length net.inputs) = omega arith in
      value_in-gate_values (inputs ++ latches) net.gates n within
      ∙ ap (value_in (inputs ++ latches)) at ∙ get_or-append-add inputs latches (n - length net.inputs) false

  gates-hold : IsModel (value_in values) (gate_clauses (first_gate net) net.gates)
  gates-hold = (clauses-solved (net_values net latches inputs) (first_gate net) net.gates).1
      (Solves-gate_values (first_gate net) (inputs ++ latches) net.gates front is.reads_lower)

-- the values of the latches after an instant are those of the nets that they read
next-value : (net : Netlist) (values : List Bool) (n : ℕ) → length net.inputs ≤ n → n < first_gate net
    → value_in values (source_at (length net.inputs) net.latches n) ≡ latch_values (length net.inputs) (next_latches net values) n
next-value net values n low high =
    let within : n - length net.inputs < length net.latches = omega arith in
    sym (get_or-map (λ (l : Latch). value_in values l.from.0) net.latches (n - length net.inputs)
    (record { init = false; from = record { 0 = 0 } }) false within)

-- what follows for each clause of the next instant holds in it
all-next : (v w : ℕ → Bool) (first end : ℕ) (latches : List Latch) (known : List (List Literal))
    → ((n : ℕ) → first ≤ n → n < end → v (source_at first latches n) ≡ w n) → IsModel v known
    → (clauses : List (List Literal)) → IsTrue (list_all (is_between first end) clauses)
    → AllByRecursion (λ c. IsImplied known (next_clause first latches c)) clauses → IsModel w clauses
all-next v w first end latches known same model [] over follows = refl
all-next v w first end latches known same model (c ∷ cs) over follows =
    let parts = and_parts (is_between first end c) (list_all (is_between first end) cs) over in
    let here = sym (renamed-value v w (source_at first latches) first end same c parts.0) ∙ follows.0 v model in
    and_from _ _ here (all-next v w first end latches known same model cs parts.1 follows.1)

-- where the negation of a literal is true, the literal is false
denied : (v : ℕ → Bool) (l : Literal) → clause_value v (opposite l ∷ []) ≡ true → literal_value v l ≡ false
denied v l e = by_sign l.positive (v l.variable) e
  where
    by_sign : (p b : Bool) → ((if not p then b else not b) || false) ≡ true → (if p then b else not b) ≡ false
    by_sign true true e = sym e
    by_sign true false e = refl
    by_sign false true e = refl
    by_sign false false e = sym e

-- ---- over items

module _ (net : Netlist) (allowed invariant : List (List Literal)) (bad : Literal) (is : IsNet net) (holds : IsInductive net allowed invariant bad) where
  never-from : (items : List Item) (latches : List Bool) → length latches ≡ length net.latches
      → IsModel (latch_values (length net.inputs) latches) invariant
      → EachEvent (FitsInputs net) items → AllByRecursion (λ values. IsModel (value_in values) allowed) (values_from net latches items)
      → AllByRecursion (λ values. literal_value (value_in values) bad ≡ false) (values_from net latches items)
  never-from [] latches all model wide allows = tt
  never-from (Event inputs ∷ items) latches all model wide allows =
      let first = length net.inputs in
      let now = net_values net latches inputs in
      let next = next_latches net now in
      let known = known_clauses net allowed invariant in
      let still = same-model (value_in now) (latch_values first latches) first (first_gate net) (latch-value net inputs latches wide.0 all is)
      invariant holds.over model in
      let met : IsModel (value_in now) known = model-both (value_in now) (gate_clauses (first_gate net) net.gates) (allowed ++ invariant)
      (gates-hold net inputs latches wide.0 all is) (model-both (value_in now) allowed invariant allows.0 still) in
      let after : IsModel (latch_values first next) invariant = all-next (value_in now) (latch_values first next) first (first_gate net) net.latches known
      (next-value net now) met invariant holds.over holds.closes.keeps in (
        denied (value_in now) bad (holds.closes.rules_out (value_in now) met),
        never-from items next (length-next net now) after wide.1 allows.1,
      )
  never-from (Reset ∷ items) latches all model wide allows =
      never-from items (initial_latches net) (length-map net.latches (λ (l : Latch). l.init)) holds.initial wide allows

  pub inductive-never : IsNever net allowed bad
  inductive-never items wide allows =
      never-from items (initial_latches net) (length-map net.latches (λ (l : Latch). l.init)) holds.initial wide allows
