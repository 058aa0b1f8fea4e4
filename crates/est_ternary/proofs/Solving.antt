-- Outgoing signals that are decided one within another: the walk of the term with them bound round it is the walk in
-- the environment that decides them; they have the statuses that this walk gives them, and no more; and they are
-- settled where it decides each.
use Rattle.std.proofs.Common.{◌≡◌, ℕ, Bool, true, false, not, ◌==◌, cond, List, [], ◌∷◌, Option, Some, refl, sym, ap, ◌∙◌, subst}
use Rattle.std.proofs.lemmas.Bool.{ne_eqb, eq-eqb, cond-true, cond-false, eqb-true}
use Rattle.est_kernel.specs.Terms.{Term}
use Rattle.est_kernel.specs.Statuses.{Status, Plus, Minus, Unknown, Environment, with_status}
use Rattle.est_kernel.specs.Steps.{where_known}
use Rattle.est_kernel.specs.Reactions.{bound, settle}
use Rattle.est_kernel.specs.Laws.{IsBelow, KnowsMore}
use Rattle.est_kernel.proofs.Exports.{below_trans}
use Rattle.est_ternary.specs.TriWalks.{where_met, tri, tri_decided}
use Rattle.est_ternary.specs.Settled.{solved, IsNoneOf, EachOnce, EachMeets}
use Rattle.est_ternary.specs.KnownPlaces.{IsKnown}
use Rattle.est_ternary.specs.Laws.{SolvedSignalsAreEmitted, SolvedIsLeast}
use Rattle.est_ternary.proofs.Walks.{walk_decides}
use Rattle.est_ternary.proofs.Monotone.{walk_below, decided_again}

pub with_status_same : (E : Environment) (s : ℕ) (v : Status) → with_status E s v s ≡ v
with_status_same E s v = cond-true (s == s) v (E s) (eq-eqb s s refl)

pub with_status_other : (E : Environment) (s t : ℕ) (v : Status) → (t ≡ s → ⊥) → with_status E s v t ≡ E t
with_status_other E s t v n = cond-false (t == s) v (E t) (ne_eqb t s n)

-- a signal that is none of the outgoing ones keeps its status
pub solved_off : (os : List ℕ) (r : Term) (E : Environment) (t : ℕ) → IsNoneOf t os → solved os r E t ≡ E t
solved_off [] r E t n = refl
solved_off (o ∷ os) r E t n =
    let v = tri_decided (bound os r) Plus E o in
    solved_off os r (with_status E o v) t n.1 ∙ with_status_other E o t v n.0

pub bound_codes : (os : List ℕ) (r : Term) (E : Environment) (k : ℕ) → (tri (bound os r) Plus E).codes k ≡ (tri r Plus (solved os r E)).codes k
bound_codes [] r E k = refl
bound_codes (o ∷ os) r E k = bound_codes os r (with_status E o (tri_decided (bound os r) Plus E o)) k

pub bound_signals : (os : List ℕ) (r : Term) (E : Environment) (t : ℕ) → IsNoneOf t os →
    (tri (bound os r) Plus E).signals t ≡ (tri r Plus (solved os r E)).signals t
bound_signals [] r E t n = refl
bound_signals (o ∷ os) r E t n =
    let F = with_status E o (tri_decided (bound os r) Plus E o) in
    ap (λ b. where_met (not b) ((tri (bound os r) Plus F).signals t)) (ne_eqb t o n.0) ∙ bound_signals os r F t n.1

pub solved_meets : SolvedSignalsAreEmitted
solved_meets [] r E once = tt
solved_meets (o ∷ os) r E once =
    let v = tri_decided (bound os r) Plus E o in
    let F = with_status E o v in (
      solved_off os r F o once.0
          ∙ with_status_same E o v
          ∙ sym (decided_again (bound os r) Plus E o)
          ∙ bound_signals os r F o once.0,
      solved_meets os r F once.1,
    )

-- an environment that knows more than E and the status of o knows more than E with that status
with_more : {E F : Environment} (o : ℕ) (v : Status) → KnowsMore E F → IsBelow v (F o) → KnowsMore (with_status E o v) F
with_more {E} {F} o v m h = record { statuses = λ t. at t (t == o) refl }
  where
    at : (t : ℕ) (b : Bool) → (t == o) ≡ b → IsBelow (cond b v (E t)) (F t)
    at t true e = subst (λ s. IsBelow v (F s)) (sym (eqb-true t o e)) h
    at t false e = m.statuses t

pub solved_least : SolvedIsLeast
solved_least [] r E F once m h = m
solved_least (o ∷ os) r E F once m h =
    let unknown = solved_least os r (with_status E o Unknown) F once.1 (with_more o Unknown m tt) h.1 in
    let v = tri_decided (bound os r) Plus E o in
    let told : IsBelow v ((tri r Plus F).signals o) =
    subst (λ x. IsBelow x ((tri r Plus F).signals o)) (sym (bound_signals os r (with_status E o Unknown) o once.0))
    ((walk_below r Plus Plus (solved os r (with_status E o Unknown)) F refl unknown).signals o) in
    solved_least os r (with_status E o v) F once.1
    (with_more o v m (below_trans v ((tri r Plus F).signals o) (F o) told h.0)) h.1

-- ---- the outgoing signals are settled

pub known_where : {A : Type 0} (v : Status) (a : Option A) (x : A) → where_known v a ≡ Some x → IsKnown v × (a ≡ Some x)
known_where Plus a x e = (tt, e)
known_where Minus a x e = (tt, e)
known_where Unknown a x e = cc

pub where_is : {A : Type 0} (v : Status) (a : Option A) → IsKnown v → where_known v a ≡ a
where_is Plus a k = refl
where_is Minus a k = refl
where_is Unknown a k = absurd k

-- one more signal is settled as the walk decides it
settle_step : (o : ℕ) (os : List ℕ) (r : Term) (E : Environment) →
    settle (o ∷ os) r E ≡ where_known (tri_decided (bound os r) Plus E o) (settle os r (with_status E o (tri_decided (bound os r) Plus E o)))
settle_step o os r E =
    ap (λ v. where_known v (settle os r (with_status E o v))) (walk_decides (bound os r) E o)

pub settle_known : (os : List ℕ) (r : Term) (E F : Environment) → EachOnce os → settle os r E ≡ Some F →
    EachMeets (λ o. IsKnown (solved os r E o)) os × (solved os r E ≡ F)
settle_known [] r E F once e = (tt, cc)
settle_known (o ∷ os) r E F once e =
    let v = tri_decided (bound os r) Plus E o in
    let G = with_status E o v in
    let parts = known_where v (settle os r G) F (sym (settle_step o os r E) ∙ e) in
    let rest = settle_known os r G F once.1 parts.1 in
    let is : solved os r G o ≡ v = solved_off os r G o once.0 ∙ with_status_same E o v in
    ((subst IsKnown (sym is) parts.0, rest.0), rest.1)

pub settle_solved : (os : List ℕ) (r : Term) (E : Environment) → EachOnce os → EachMeets (λ o. IsKnown (solved os r E o)) os →
    settle os r E ≡ Some (solved os r E)
settle_solved [] r E once k = refl
settle_solved (o ∷ os) r E once k =
    let v = tri_decided (bound os r) Plus E o in
    let G = with_status E o v in
    let is : solved os r G o ≡ v = solved_off os r G o once.0 ∙ with_status_same E o v in
    settle_step o os r E ∙ where_is v (settle os r G) (subst IsKnown is k.0) ∙ settle_solved os r G once.1 k.1

pub settle_back : (os : List ℕ) (r : Term) (E F : Environment) → EachOnce os →
    EachMeets (λ o. IsKnown (solved os r E o)) os × (solved os r E ≡ F) → settle os r E ≡ Some F
settle_back os r E F once h = settle_solved os r E once h.0 ∙ ap (λ G. Some G) h.1
