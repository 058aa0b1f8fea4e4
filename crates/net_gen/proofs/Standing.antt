-- Where the wires of an order stand, and that none stands twice.
use Rattle.std.proofs.Common.{◌≡◌, ◌≢◌, ℕ, ◌+◌, ◌<◌, ◌≤◌, zero, suc, Bool, true, false, not, ◌&&◌, ◌||◌, ◌==◌, cond, nat_eq, List, [], ◌∷◌, map}
use Rattle.std.proofs.Common.{slice_index_or, refl, sym, ap, ◌∙◌, subst, arith, IsTrue, All, inl, inr}
use Rattle.std.specs.List.{list_any}
use Rattle.std.proofs.lemmas.Bool.{ne_eqb, eq-eqb}
use Rattle.std.proofs.lemmas.List.Sums.{sum_by-cons}
use Rattle.base_types.specs.Distinct.{all_differ}
use Rattle.base_types.specs.declared.indices.WireId.{WireId}
use Rattle.grc_graph.specs.WireOrders.{times}
use Rattle.net_gen.proofs.Tables.{same-or-other}

times-here : (u : WireId) (us : List WireId) (v : ℕ) → u.0 ≡ v → times (u ∷ us) v ≡ 1 + times us v
times-here u us v e =
    let whole = sum_by-cons (λ (x : WireId). cond (x.0 == v) 1 0) u us in
    let one : cond (u.0 == v) 1 0 ≡ 1 = ap (λ b. cond b 1 0) (eq-eqb u.0 v e) in
    whole ∙ ap (λ n. n + times us v) one

times-other : (u : WireId) (us : List WireId) (v : ℕ) → u.0 ≢ v → times (u ∷ us) v ≡ times us v
times-other u us v ne =
    let whole = sum_by-cons (λ (x : WireId). cond (x.0 == v) 1 0) u us in
    let none : cond (u.0 == v) 1 0 ≡ 0 = ap (λ b. cond b 1 0) (ne_eqb u.0 v ne) in
    whole ∙ ap (λ n. n + times us v) none ∙ (omega arith)

none-any : (us : List WireId) (v : ℕ) → times us v ≡ 0 → list_any (nat_eq v) (map (λ (u : WireId). u.0) us) ≡ false
none-any [] v e = refl
none-any (u ∷ us) v e = elim (same-or-other u.0 v) [
  | inl same ↦ absurd (omega (arith, times-here u us v same))
  | inr ne ↦
      let rest = none-any us v (omega (arith, times-other u us v ne)) in
      let other : v ≢ u.0 = λ q. ne (sym q) in
      rw (ne_eqb v u.0 other, rest) refl
]

-- wires of which none stands twice differ
pub differ-once : (us : List WireId) (count : ℕ) → All (λ (u : WireId). u.0 < count) us → ((v : ℕ) → v < count → times us v ≤ 1)
    → IsTrue (all_differ nat_eq (map (λ (u : WireId). u.0) us))
differ-once [] count low once = refl
differ-once (u ∷ us) count low once =
    let here : u.0 < count = low 0 u (omega arith) in
    let alone : times us u.0 ≡ 0 = omega (arith, times-here u us u.0 refl, once u.0 here) in
    let rest = differ-once us count (λ k d h. low (suc k) d (omega arith)) (λ v h.
    elim (same-or-other u.0 v) [
      | inl same ↦ omega (arith, times-here u us v same, once v h)
      | inr ne ↦ omega (arith, times-other u us v ne, once v h)
    ]) in
    rw (none-any us u.0 alone, rest) refl
