-- The edges between equations, and the loops of names that their closed walks are.
use Rattle.std.proofs.Common.{◌≡◌, ℕ, ◌+◌, ◌-◌, ◌<◌, ◌≤◌, zero, suc, true, false, List, [], ◌∷◌, length, map, get_or, slice_index, All, Contains}
use Rattle.std.proofs.Common.{refl, sym, ap, ◌∙◌, arith, subst, inl, inr, nat_lt}
use Rattle.std.specs.Prelude.{if◌then◌else◌}
use Rattle.std.specs.List.{AllByRecursion}
use Rattle.std.proofs.lemmas.Bool.{cases_lt}
use Rattle.std.proofs.lemmas.List.{length-map, get_or-map, get_or_default}
use Rattle.std.proofs.lemmas.List.Elements.{Contains-append_left, Contains-append_right, Contains-append_cases, Contains-get_or}
use Rattle.std.proofs.lemmas.List.Elements.{All-from_recursion, All-map, recursion_from_All}
use Rattle.base_facts.proofs.Lists.{contains-later}
use Rattle.base_digraph.specs.Walks.{HasEdge, JoinsNodes, IsClosedWalk}
use Rattle.base_digraph.proofs.Exports.{walk-within}
use Rattle.net_ir.specs.NameLists.{is_among}
use Rattle.net_ir.proofs.Exports.{found-low, found-at, place-among}
use Rattle.run_steps.specs.Slots.{slot_in}
use Rattle.run_steps.specs.Equations.{NameEquation, NeedsName, IsEquationLoop, HasNoEquationLoop, name_at}
use Rattle.run_steps.specs.Steps.{driven, AreSound}
use Rattle.run_steps.specs.Order.{slot_edges, edges_from, NoWalk, AreWalked, slots_read, no_equation}
use Rattle.run_steps.proofs.Places.{driven-count, output-name, output-slot}

-- the slot is among those that are read
pub record IsRead (slots : List ℕ) (slot : ℕ) : Type 0 where
  pub at : ℕ
  pub low : at < length slots
  pub is : get_or slots at 0 ≡ slot

read-more : (s slot : ℕ) (slots : List ℕ) → IsRead slots slot → IsRead (s ∷ slots) slot
read-more s slot slots r = record { at = suc r.at; low = omega (arith, r.low); is = r.is }

in-equation : (first source : ℕ) (slots : List ℕ) (u : ℕ) → IsRead slots (first + u) → Contains (slot_edges first source slots) (source, u)
in-equation first source [] u r = let low = r.low in absurd (omega arith)
in-equation first source (s ∷ slots) u r = go (λ q. in-equation first source slots u q) r.at r.low r.is
  where
    go : (IsRead slots (first + u) → Contains (slot_edges first source slots) (source, u))
        → (k : ℕ) → k < length (s ∷ slots) → get_or (s ∷ slots) k 0 ≡ first + u → Contains (slot_edges first source (s ∷ slots)) (source, u)
    go more zero low is =
        let late : nat_lt s first ≡ false = grind arith in
        let n : s - first ≡ u = omega arith in
        rw late (0, omega arith, ap (λ x. (source, x)) n)
    go more (suc k) low is =
        let rest = more (record { at = k; low = omega arith; is = is }) in
        elim (nat_lt s first) as (λ b. Contains (if b then slot_edges first source slots else (source, s - first) ∷ slot_edges first source slots) (source, u))
        [ true ↦ rest | false ↦ contains-later (source, s - first) (source, u) (slot_edges first source slots) rest ]

record FromEquation (first source : ℕ) (slots : List ℕ) (e : ℕ × ℕ) : Type 0 where
  node : e.0 ≡ source
  read : IsRead slots (first + e.1)

from-equation : (first source : ℕ) (slots : List ℕ) (e : ℕ × ℕ) → Contains (slot_edges first source slots) e → FromEquation first source slots e
from-equation first source [] e h = let low = h.1 in absurd (omega arith)
from-equation first source (s ∷ slots) e h =
    let rest : Contains (slot_edges first source slots) e → FromEquation first source (s ∷ slots) e =
    λ h. let r = from-equation first source slots e h in record { node = r.node; read = read-more s (first + e.1) slots r.read } in
    elim (cases_lt s first) [
      | inl early ↦ let t : nat_lt s first ≡ true = grind arith in rest (rw t at h)
      | inr late ↦ let t : nat_lt s first ≡ false = grind arith in head rest (rw t at h) late
    ]
  where
    head : (Contains (slot_edges first source slots) e → FromEquation first source (s ∷ slots) e)
        → Contains ((source, s - first) ∷ slot_edges first source slots) e → first ≤ s → FromEquation first source (s ∷ slots) e
    head rest h late = split h.0 h.1 h.2
      where
        split : (k : ℕ) → k < length ((source, s - first) ∷ slot_edges first source slots)
            → get_or ((source, s - first) ∷ slot_edges first source slots) k e ≡ e
            → FromEquation first source (s ∷ slots) e
        split zero low is =
            let n : s - first ≡ e.1 = ap (λ (x : ℕ × ℕ). x.1) is in
            record { node = sym (ap (λ (x : ℕ × ℕ). x.0) is); read = record { at = 0; low = omega arith; is = omega arith } }
        split (suc k) low is = rest (k, omega arith, is)

pub in-edges : (first base : ℕ) (reads : List (List ℕ)) (t u : ℕ) → t < length reads → IsRead (get_or reads t []) (first + u)
    → Contains (edges_from first base reads) (base + t, u)
in-edges first base [] t u low r = absurd (omega arith)
in-edges first base (slots ∷ reads) zero u low r =
    let n : base + 0 ≡ base = omega arith in
    rw n (Contains-append_left (slot_edges first base slots) (edges_from first (base + 1) reads) (base, u) (in-equation first base slots u r))
in-edges first base (slots ∷ reads) (suc t) u low r =
    let n : base + 1 + t ≡ base + suc t = omega arith in
    Contains-append_right (slot_edges first base slots) (edges_from first (base + 1) reads) (base + suc t, u)
    (subst (λ m. Contains (edges_from first (base + 1) reads) (m, u)) n (in-edges first (base + 1) reads t u (omega arith) r))

pub record FromEdges (first base : ℕ) (reads : List (List ℕ)) (e : ℕ × ℕ) : Type 0 where
  pub source : ℕ
  pub low : source < length reads
  pub node : e.0 ≡ base + source
  pub read : IsRead (get_or reads source []) (first + e.1)

pub from-edges : (first base : ℕ) (reads : List (List ℕ)) (e : ℕ × ℕ) → Contains (edges_from first base reads) e → FromEdges first base reads e
from-edges first base [] e h = let low = h.1 in absurd (omega arith)
from-edges first base (slots ∷ reads) e h =
    elim (Contains-append_cases (slot_edges first base slots) (edges_from first (base + 1) reads) e h) [
      | inl here ↦
          let r = from-equation first base slots e here in
          let n = r.node in
          record { source = 0; low = omega arith; node = omega arith; read = r.read }
      | inr there ↦
          let r = from-edges first (base + 1) reads e there in
          let n = r.node in
          let l = r.low in
          record { source = suc r.source; low = omega arith; node = omega arith; read = r.read }
    ]

-- every edge joins two equations
pub edges-join : (first : ℕ) (reads : List (List ℕ)) → All (λ slots. All (λ slot. slot < first + length reads) slots) reads
    → JoinsNodes (length reads) (edges_from first 0 reads)
edges-join first reads within k d h =
    let e = get_or (edges_from first 0 reads) k d in
    let r = from-edges first 0 reads e (Contains-get_or (edges_from first 0 reads) k d h) in
    let n = r.node in
    let l = r.low in
    let slot = within r.source [] r.low r.read.at 0 r.read.low in
    let is = r.read.is in
    (omega arith, omega arith)

-- the same where the slots are parts of other values
pub edges-join-of : {V : Type 0} (items : V → List ℕ) (first : ℕ) (vs : List V) → All (λ v. All (λ slot. slot < first + length vs) (items v)) vs
    → JoinsNodes (length vs) (edges_from first 0 (map items vs))
edges-join-of items first vs within =
    let n = length-map vs items in
    let parts = All-map (λ slots. All (λ slot. slot < first + length vs) slots) items vs within in
    subst (λ m. JoinsNodes m (edges_from first 0 (map items vs))) n
    (edges-join first (map items vs) (subst (λ m. All (λ slots. All (λ slot. slot < first + m) slots) (map items vs)) (sym n) parts))

module _ (given : List (List ℕ)) (equations : List NameEquation) (sound : AreSound given equations) where
  abbrev names : List (List ℕ)
  names = driven given equations

  abbrev first : ℕ
  first = length given

  abbrev reads : List (List ℕ)
  reads = slots_read names equations

  abbrev edges : List (ℕ × ℕ)
  edges = edges_from first 0 reads

  abbrev names_read : ℕ → List (List ℕ)
  names_read t = (get_or equations t no_equation).reads

  pub reads-count : length reads ≡ length equations
  reads-count = length-map equations (λ e. map (slot_in names) e.reads)

  pub reads-at : (t : ℕ) → t < length equations → get_or reads t [] ≡ map (slot_in names) (names_read t)
  reads-at t h = get_or-map (λ e. map (slot_in names) e.reads) equations t no_equation [] h

  pub read-driven : (t j : ℕ) → t < length equations → j < length (names_read t) → is_among (get_or (names_read t) j []) names ≡ true
  read-driven t j h low =
      All-from_recursion (λ x. is_among x names ≡ true) (names_read t)
      (All-from_recursion (λ e. AllByRecursion (λ x. is_among x names ≡ true) e.reads) equations sound.reads_driven t no_equation h) j [] low

  -- each slot that is read is one of a name
  pub reads-low : All (λ slots. All (λ slot. slot < first + length reads) slots) reads
  reads-low k d h j e low =
      let n = reads-count in
      let wide = driven-count given equations in
      let same : get_or reads k d ≡ map (slot_in names) (names_read k) =
      get_or-map (λ e. map (slot_in names) e.reads) equations k no_equation d (omega arith) in
      let lowj : j < length (names_read k) = omega (arith, low, ap length same, length-map (names_read k) (slot_in names)) in
      let is : get_or (get_or reads k d) j e ≡ slot_in names (get_or (names_read k) j []) =
      ap (λ l. get_or l j e) same ∙ get_or-map (slot_in names) (names_read k) j [] e lowj in
      omega (arith, is, found-low (get_or (names_read k) j []) names (read-driven k j (omega arith) lowj))

  abbrev output : ℕ → List ℕ
  output t = (get_or equations t no_equation).output

  output-among : (b : ℕ) → b < length equations → is_among (output b) names ≡ true
  output-among b h = place-among (output b) names (omega (arith, output-slot given equations sound.differ b h, driven-count given equations))

  -- an edge leads from an equation to one whose output it reads
  edge-needs : (a b : ℕ) → HasEdge edges a b → NeedsName equations (output a) (output b)
  edge-needs a b e =
      let r = from-edges first 0 reads (a, b) e in
      let node = r.node in
      let n : a ≡ r.source = omega arith in
      let low : r.source < length equations = omega (arith, r.low, reads-count) in
      let same = reads-at r.source low in
      let j = r.read.at in
      let lowj : j < length (names_read r.source) = omega (arith, r.read.low, ap length same, length-map (names_read r.source) (slot_in names)) in
      let y = get_or (names_read r.source) j [] in
      let slot : slot_in names y ≡ first + b = sym (get_or-map (slot_in names) (names_read r.source) j [] 0 lowj) ∙ ap (λ l. get_or l j 0) (sym same)
      ∙ r.read.is in
      let among = read-driven r.source j low lowj in
      let inside : b < length equations = omega (arith, found-low y names among, driven-count given equations) in
      let is : y ≡ output b =
      sym (found-at y names among) ∙ ap (λ k. get_or names k []) (slot ∙ sym (output-slot given equations sound.differ b inside))
      ∙ found-at (output b) names (output-among b inside) in
      record {
        equation = get_or equations r.source no_equation;
        stands = Contains-get_or equations r.source no_equation low;
        drives = ap output (sym n);
        reads = subst (Contains (names_read r.source)) is (Contains-get_or (names_read r.source) j [] lowj);
      }

  -- a walk from equation to equation is a loop of names
  pub walk-loop : (walk : List ℕ) → IsClosedWalk edges walk → IsEquationLoop equations (map output walk)
  walk-loop walk closed =
      let wide = length-map walk output in
      let at : (k : ℕ) → k < length walk → name_at (map output walk) k ≡ output (slice_index walk k) =
      λ k h. get_or-map output walk k 0 [] h in
      let some = closed.some_node in
      record {
        some_name = omega arith;
        steps = λ k h. rw (at k (omega arith), at (k + 1) (omega arith)) (edge-needs _ _ (closed.steps k (omega arith)));
        closes = rw (wide, at (length walk - 1) (omega arith), at 0 some) (edge-needs _ _ closed.closes);
      }

  -- the outputs along a walk, by the names of the slots
  along : (walk : List ℕ) → AllByRecursion (λ t. t < length equations) walk → map (λ node. get_or names (first + node) []) walk ≡ map output walk
  along [] all = refl
  along (t ∷ walk) all = rw (output-name given equations t all.0, along walk all.1) refl

  -- what is found along a closed walk is a loop of names
  pub walked-loop : (found : List (List ℕ)) → AreWalked edges names first found → IsEquationLoop equations found
  walked-loop found is =
      let joins : JoinsNodes (length reads) edges = edges-join first reads reads-low in
      let within = walk-within (length reads) edges is.walk joins is.closed in
      let low : All (λ t. t < length equations) is.walk = λ k d h. omega (arith, within k d h, reads-count) in
      rw (is.found_are, along is.walk (recursion_from_All (λ t. t < length equations) is.walk low)) (walk-loop is.walk is.closed)

  -- an equation that gives a name its value, and what it reads
  record Drives (x : List ℕ) : Type 0 where
    place : ℕ
    low : place < length equations
    slot : slot_in names x ≡ first + place

  needs-driver : (x y : List ℕ) → NeedsName equations x y → Drives x
  needs-driver x y n =
      let k = n.stands.0 in
      let at : get_or equations k no_equation ≡ n.equation = get_or_default equations k no_equation n.equation n.stands.1 ∙ n.stands.2 in
      let is : output k ≡ x = ap (λ (e : NameEquation). e.output) at ∙ n.drives in
      record { place = k; low = n.stands.1; slot = ap (slot_in names) (sym is) ∙ output-slot given equations sound.differ k n.stands.1 }

  abbrev node_of : List ℕ → ℕ
  node_of x = slot_in names x - first

  needs-edge : (x y : List ℕ) → NeedsName equations x y → Drives y → HasEdge edges (node_of x) (node_of y)
  needs-edge x y n d =
      let k = n.stands.0 in
      let at : get_or equations k no_equation ≡ n.equation = get_or_default equations k no_equation n.equation n.stands.1 ∙ n.stands.2 in
      let is : output k ≡ x = ap (λ (e : NameEquation). e.output) at ∙ n.drives in
      let slot-x : slot_in names x ≡ first + k = ap (slot_in names) (sym is) ∙ output-slot given equations sound.differ k n.stands.1 in
      let j = n.reads.0 in
      let lowj : j < length (names_read k) = omega (arith, n.reads.1, ap (λ (e : NameEquation). length e.reads) at) in
      let is-y : get_or (names_read k) j [] ≡ y =
      ap (λ (e : NameEquation). get_or e.reads j []) at ∙ get_or_default n.equation.reads j [] y n.reads.1 ∙ n.reads.2 in
      let wide = length-map (names_read k) (slot_in names) in
      let read : IsRead (get_or reads k []) (first + node_of y) = rw (reads-at k n.stands.1) (record {
        at = j;
        low = omega arith;
        is = get_or-map (slot_in names) (names_read k) j [] 0 lowj ∙ ap (slot_in names) is-y ∙ omega (arith, d.slot);
      }) in
      let low : k < length reads = omega (arith, n.stands.1, reads-count) in
      let e : 0 + k ≡ node_of x = omega arith in
      subst (λ m. Contains edges (m, node_of y)) e (in-edges first 0 reads k (node_of y) low read)

  loop-walk : (found : List (List ℕ)) → IsEquationLoop equations found → IsClosedWalk edges (map node_of found)
  loop-walk found loop =
      let wide = length-map found node_of in
      let some = loop.some_name in
      let at : (k : ℕ) → k < length found → slice_index (map node_of found) k ≡ node_of (name_at found k) = λ k h. get_or-map node_of found k [] 0 h in
      let driver : (k : ℕ) → k < length found → Drives (name_at found k) = λ k h. elim (cases_lt (k + 1) (length found)) [
        | inl low ↦ needs-driver _ _ (loop.steps k low)
        | inr last ↦ let n : length found - 1 ≡ k = omega arith in subst (λ m. Drives (name_at found m)) n (needs-driver _ _ loop.closes)
      ] in
      record {
        some_node = omega arith;
        steps = λ k h. rw (at k (omega arith), at (k + 1) (omega arith)) (needs-edge _ _ (loop.steps k (omega arith)) (driver (k + 1) (omega arith)));
        closes = rw (wide, at (length found - 1) (omega arith), at 0 some) (needs-edge _ _ loop.closes (driver 0 some));
      }

  pub no-loop : NoWalk edges → HasNoEquationLoop equations
  no-loop none found loop = none (map node_of found) (loop-walk found loop)
