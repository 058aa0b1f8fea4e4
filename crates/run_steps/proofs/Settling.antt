-- Steps in an order in which each one stands behind those whose outputs it reads.
use Rattle.std.proofs.Common.{◌≡◌, ◌≢◌, ℕ, ◌+◌, ◌-◌, ◌<◌, ◌≤◌, zero, suc, Bool, true, false, List, [], length, map, get_or, drop, set, Contains}
use Rattle.std.proofs.Common.{refl, sym, ap, ◌∙◌, arith, subst, get_or-set_same, get_or-set_other, length-set, inl, inr}
use Rattle.std.proofs.Math.Seq.{drop-cons}
use Rattle.std.proofs.lemmas.List.{drop_all}
use Rattle.std.proofs.lemmas.List.Elements.{All-from_recursion}
use Rattle.std.proofs.lemmas.Bool.{cases_lt, cases_eq}
use Rattle.std.specs.List.{AllByRecursion}
use Rattle.net_ir.specs.NameLists.{is_among}
use Rattle.net_ir.proofs.Exports.{found-low, found-at}
use Rattle.run_steps.specs.Slots.{slot_in, value_at, memory_in}
use Rattle.run_steps.specs.Equations.{NameEquation}
use Rattle.run_steps.specs.Steps.{Step, step_made, settled, driven, equation_step, IsLocal, AreSound}
use Rattle.run_steps.specs.Order.{no_equation}
use Rattle.run_steps.proofs.Places.{driven-count, output-name, output-slot}

-- what each step keeps, from its place to the next
settled-by : (step : ℕ → Step) (order : List ℕ) (P : ℕ → List Bool → Type 0)
    → ((k : ℕ) (values : List Bool) → k < length order → P k values → P (suc k) (step_made (step (get_or order k 0)) values))
    → (n k : ℕ) → k + n ≡ length order → (values : List Bool) → P k values → P (length order) (settled (map step (drop k order)) values)
settled-by step order P next zero k all values p =
    let none : drop k order ≡ [] = drop_all k order (omega arith) in
    let e : k ≡ length order = omega arith in
    rw none (subst (λ m. P m values) e p)
settled-by step order P next (suc n) k all values p =
    let low : k < length order = omega arith in
    rw (drop-cons order k 0 low) (settled-by step order P next n (suc k) (omega arith) (step_made (step (get_or order k 0)) values) (next k values low p))

-- equations in an order, by the place of each
pub record InOrder (given : List (List ℕ)) (equations : List NameEquation) (order : List ℕ) (place : ℕ → ℕ) : Type 0 where
  pub nodes : (k : ℕ) → k < length order → get_or order k 0 < length equations
  pub places : (t : ℕ) → t < length equations → place t < length order
  pub stands : (t : ℕ) → t < length equations → get_or order (place t) 0 ≡ t
  pub behind : (t u : ℕ) (x : List ℕ) → t < length equations → Contains (get_or equations t no_equation).reads x
      → slot_in (driven given equations) x ≡ length given + u → place u < place t

-- what an equation reads has a value
pub reads-among : (given : List (List ℕ)) (equations : List NameEquation) → AreSound given equations → (t : ℕ) (x : List ℕ) → t < length equations
    → Contains (get_or equations t no_equation).reads x → is_among x (driven given equations) ≡ true
reads-among given equations sound t x h has =
    let names = driven given equations in
    let each = All-from_recursion (λ e. AllByRecursion (λ x. is_among x names ≡ true) e.reads) equations sound.reads_driven t no_equation h in
    let own = (get_or equations t no_equation).reads in
    subst (λ y. is_among y names ≡ true) has.2 (All-from_recursion (λ x. is_among x names ≡ true) own each has.0 x has.1)

module _ (given : List (List ℕ)) (equations : List NameEquation) (sound : AreSound given equations) (order : List ℕ) (place : ℕ → ℕ)
    (is : InOrder given equations order place) where
  abbrev names : List (List ℕ)
  names = driven given equations

  abbrev first : ℕ
  first = length given

  abbrev count : ℕ
  count = length equations

  abbrev equation : ℕ → NameEquation
  equation t = get_or equations t no_equation

  abbrev step : ℕ → Step
  step t = equation_step names (equation t)

  local-at : (t : ℕ) → t < count → IsLocal (equation t)
  local-at t h = All-from_recursion IsLocal equations sound.local t no_equation h

  -- a slot behind a step that sets another
  other : (values : List Bool) (t s : ℕ) (b : Bool) → s ≢ first + t → value_at (set values (first + t) b) s ≡ value_at values s
  other values t s b ne = get_or-set_other values (first + t) s b false ne

  -- what a step makes, by its slot
  own-slot : (t : ℕ) (values : List Bool) → t < count
      → set values (first + t) ((equation t).value (memory_in names values)) ≡ step_made (step t) values
  own-slot t values h = ap (λ s. set values s ((equation t).value (memory_in names values))) (sym (output-slot given equations sound.differ t h))

  -- each equation whose place comes before the k-th holds
  record Settled (start values : List Bool) (k : ℕ) : Type 0 where
    len : length values ≡ first + count
    kept : (s : ℕ) → s < first → value_at values s ≡ value_at start s
    met : (t : ℕ) → t < count → place t < k → value_at values (first + t) ≡ (equation t).value (memory_in names values)

  settled-step : (start values : List Bool) (k : ℕ) → k < length order → Settled start values k
      → Settled start (step_made (step (get_or order k 0)) values) (suc k)
  settled-step start values k low s =
      let t = get_or order k 0 in
      let node = is.nodes k low in
      let b = (equation t).value (memory_in names values) in
      let new = set values (first + t) b in
      let here : value_at new (first + t) ≡ b = get_or-set_same values (first + t) b false (omega (arith, s.len)) in
      -- what an equation reads whose place is at most k is not changed by the step
      let keeps : (u : ℕ) → u < count → place u ≤ k → (x : List ℕ) → Contains (equation u).reads x → memory_in names values x ≡ memory_in names new x =
      λ u lowu at x has. elim (cases_eq (slot_in names x) (first + t)) [
        | inl e ↦
            let earlier : place t < place u = is.behind u t x lowu has e in
            let old = s.met t node (omega arith) in
            ap (value_at values) e ∙ old ∙ sym here ∙ ap (value_at new) (sym e)
        | inr ne ↦ sym (other values t (slot_in names x) b ne)
      ] in
      subst (λ v. Settled start v (suc k)) (own-slot t values node) (record {
        len = length-set values (first + t) b ∙ s.len;
        kept = λ x h. other values t x b (λ e. absurd (omega arith)) ∙ s.kept x h;
        met = λ u lowu at.
            let same = local-at u lowu (memory_in names values) (memory_in names new) (keeps u lowu (omega arith)) in
            elim (cases_eq u t) [
              | inl e ↦ ap (λ x. value_at new (first + x)) e ∙ here ∙ ap (λ x. (equation x).value (memory_in names values)) (sym e) ∙ same
              | inr ne ↦
                  let apart : (place u ≡ k → ⊥) = λ p. ne (sym (is.stands u lowu) ∙ ap (λ m. get_or order m 0) p) in
                  let before : place u < k = omega arith in
                  other values t (first + u) b (λ e. ne (omega arith)) ∙ s.met u lowu before ∙ same
            ];
      })

  -- behind all steps each equation holds, and the slots of what is given are as they were
  pub record AllSettled (start values : List Bool) : Type 0 where
    pub len : length values ≡ first + count
    pub kept : (s : ℕ) → s < first → value_at values s ≡ value_at start s
    pub met : (t : ℕ) → t < count → value_at values (first + t) ≡ (equation t).value (memory_in names values)

  pub all-settled : (start : List Bool) → length start ≡ first + count → AllSettled start (settled (map step order) start)
  all-settled start len =
      let s = settled-by step order (λ k values. Settled start values k) (λ k values low s. settled-step start values k low s)
      (length order) 0 (omega arith) start (record { len = len; kept = λ s h. refl; met = λ t h p. absurd (omega arith) }) in
      record { len = s.len; kept = s.kept; met = λ t h. s.met t h (is.places t h) }

  -- the values agree with a valuation in which each equation holds
  record Agrees (u : List ℕ → Bool) (values : List Bool) (k : ℕ) : Type 0 where
    len : length values ≡ first + count
    given_agree : (s : ℕ) → s < first → value_at values s ≡ u (get_or names s [])
    met : (t : ℕ) → t < count → place t < k → value_at values (first + t) ≡ u (equation t).output

  module _ (u : List ℕ → Bool) (meets : (t : ℕ) → t < count → u (equation t).output ≡ (equation t).value u) where
    agrees-step : (values : List Bool) (k : ℕ) → k < length order → Agrees u values k → Agrees u (step_made (step (get_or order k 0)) values) (suc k)
    agrees-step values k low a =
        let t = get_or order k 0 in
        let node = is.nodes k low in
        let b = (equation t).value (memory_in names values) in
        let new = set values (first + t) b in
        let here : value_at new (first + t) ≡ b = get_or-set_same values (first + t) b false (omega (arith, a.len)) in
        let reads : place t < suc k → (x : List ℕ) → Contains (equation t).reads x → memory_in names values x ≡ u x = λ soon x has.
        let among = reads-among given equations sound t x node has in
        let found = found-at x names among in
        let s = slot_in names x in
        elim (cases_lt s first) [
          | inl early ↦ a.given_agree s early ∙ ap u found
          | inr late ↦
              let y = s - first in
              let is-y : s ≡ first + y = omega arith in
              let earlier : place y < place t = is.behind t y x node has is-y in
              let inside : y < count = omega (arith, found-low x names among, driven-count given equations) in
              ap (value_at values) is-y ∙ a.met y inside (omega (arith, earlier, soon))
              ∙ ap u (sym (output-name given equations y inside) ∙ ap (λ m. get_or names m []) (sym is-y) ∙ found)
        ] in
        subst (λ v. Agrees u v (suc k)) (own-slot t values node) (record {
          len = length-set values (first + t) b ∙ a.len;
          given_agree = λ x h. other values t x b (λ e. absurd (omega arith)) ∙ a.given_agree x h;
          met = λ v lowv at.
              elim (cases_eq v t) [
                | inl e ↦
                    ap (λ x. value_at new (first + x)) e ∙ here ∙ local-at t node (memory_in names values) u (reads (subst (λ x. place x < suc k) e at))
                    ∙ sym (meets t node)
                    ∙ ap (λ x. u (equation x).output) (sym e)
                | inr ne ↦
                    let apart : (place v ≡ k → ⊥) = λ p. ne (sym (is.stands v lowv) ∙ ap (λ m. get_or order m 0) p) in
                    let before : place v < k = omega arith in
                    other values t (first + v) b (λ e. ne (omega arith)) ∙ a.met v lowv before
              ];
        })

    -- behind all steps the values are those of the valuation
    pub all-agree : (start : List Bool) → length start ≡ first + count → ((s : ℕ) → s < first → value_at start s ≡ u (get_or names s []))
        → (s : ℕ) → s < first + count → value_at (settled (map step order) start) s ≡ u (get_or names s [])
    all-agree start len begins s h =
        let a = settled-by step order (λ k values. Agrees u values k) (λ k values. agrees-step values k)
        (length order) 0 (omega arith) start (record { len = len; given_agree = begins; met = λ t h p. absurd (omega arith) }) in
        elim (cases_lt s first) [
          | inl early ↦ a.given_agree s early
          | inr late ↦
              let x = s - first in
              let is-x : s ≡ first + x = omega arith in
              let inside : x < count = omega arith in
              ap (value_at (settled (map step order) start)) is-x ∙ a.met x inside (is.places x inside)
              ∙ ap u (sym (output-name given equations x inside) ∙ ap (λ m. get_or names m []) (sym is-x))
        ]
