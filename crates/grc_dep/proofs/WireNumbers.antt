-- The number of a wire by its name.
use Rattle.std.proofs.Common.{◌≡◌, ℕ, zero, suc, ◌<◌, Bool, true, false, List, [], ◌∷◌, length, get_or, refl, ap, sym, subst, ◌∙◌, arith}
use Rattle.std.proofs.Common.{Option, Some, None}
use Rattle.std.specs.Prelude.{Contains, option_map, if◌then◌else◌}
use Rattle.base_types.specs.declared.indices.WireId.{WireId}
use Rattle.grc_graph.specs.Wires.{Wire, same_wire}
use Rattle.grc_graph.specs.WireTables.{HasName}
use Rattle.grc_graph.proofs.Exports.{same_wire-self, same_wire-true}
use Rattle.grc_dep.specs.Names.{number_of, Apart}

-- ---- the same name

-- ---- numbers

apart_tail : (w : Wire) (ws : List Wire) → Apart (w ∷ ws) → Apart ws
apart_tail w ws h i j d l m e = omega (arith, h (suc i) (suc j) d (omega (arith, l)) (omega (arith, m)) e)

step : (ws : List Wire) (w u : Wire) (b : Bool) → same_wire u w ≡ b → number_of (w ∷ ws) u ≡ (if b then Some 0 else option_map (λ i. suc i) (number_of ws u))
step ws w u b e = ap (λ c. if c then Some 0 else option_map (λ i. suc i) (number_of ws u)) e

-- the number of a wire behind the first one
behind : (ws : List Wire) (w u : Wire) (r : Option ℕ) → ¬ (u ≡ w) → number_of ws u ≡ r → number_of (w ∷ ws) u ≡ option_map (λ i. suc i) r
behind ws w u r differ e = split (same_wire u w) refl
  where
    split : (b : Bool) → same_wire u w ≡ b → number_of (w ∷ ws) u ≡ option_map (λ i. suc i) r
    split true s = absurd (differ (same_wire-true u w s))
    split false s = step ws w u false s ∙ ap (option_map (λ i. suc i)) e

pub number_at : (ws : List Wire) (i : ℕ) (u d : Wire) → Apart ws → i < length ws → get_or ws i d ≡ u → number_of ws u ≡ Some i
number_at [] i u d h l e = absurd (omega (arith, l))
number_at (w ∷ ws) zero u d h l e = step ws w u true (subst (λ x. same_wire x w ≡ true) e (same_wire-self w))
number_at (w ∷ ws) (suc i) u d h l e =
    behind ws w u (Some i) (λ s. let same : 0 ≡ suc i = h 0 (suc i) d (omega arith) l (sym s ∙ sym e) in omega (arith, same))
    (number_at ws i u d (apart_tail w ws h) (omega (arith, l)) e)

pub number_none : (ws : List Wire) (u : Wire) → ¬ Contains ws u → number_of ws u ≡ None
number_none [] u h = refl
number_none (w ∷ ws) u h =
    behind ws w u None (λ s. h (0, omega arith, sym s)) (number_none ws u (λ c. h (suc c.0, omega (arith, c.1), c.2)))

-- what a look-up by name answers
pub number_found : (ws : List Wire) (r : Option WireId) (u : Wire) → Apart ws → HasName ws r u → option_map (λ w. w.0) r ≡ number_of ws u
number_found ws None u h g = sym (number_none ws u g)
number_found ws (Some w) u h g = sym (number_at ws w.0 u u h g.within (g.same u))

-- a number is that of the wire
pub record IsAt (ws : List Wire) (u : Wire) (i : ℕ) : Type 0 where
  pub within : i < length ws
  pub at : (d : Wire) → get_or ws i d ≡ u

at_first : (ws : List Wire) (w u : Wire) (i : ℕ) → Some 0 ≡ Some i → u ≡ w → IsAt (w ∷ ws) u i
at_first ws w u i e s =
    let z : 0 ≡ i = cc in
    record { within = omega (arith, z); at = λ d. ap (λ k. get_or (w ∷ ws) k d) (sym z) ∙ sym s }

at_behind : (ws : List Wire) (w u : Wire) (i : ℕ) (r : Option ℕ) → ((k : ℕ) → r ≡ Some k → IsAt ws u k) → option_map (λ i. suc i) r ≡ Some i → IsAt (w ∷ ws) u i
at_behind ws w u i None h e = cc
at_behind ws w u i (Some k) h e =
    let z : suc k ≡ i = cc in
    let x = h k refl in
    record { within = omega (arith, z, x.within); at = λ d. ap (λ m. get_or (w ∷ ws) m d) (sym z) ∙ x.at d }

pub number_is : (ws : List Wire) (u : Wire) (i : ℕ) → number_of ws u ≡ Some i → IsAt ws u i
number_is [] u i e = cc
number_is (w ∷ ws) u i e = split (number_is ws u) (same_wire u w) refl
  where
    split : ((k : ℕ) → number_of ws u ≡ Some k → IsAt ws u k) → (b : Bool) → same_wire u w ≡ b → IsAt (w ∷ ws) u i
    split h true s = at_first ws w u i (sym (step ws w u true s) ∙ e) (same_wire-true u w s)
    split h false s = at_behind ws w u i (number_of ws u) h (sym (step ws w u false s) ∙ e)
