-- Inner: runs of bodies are those of the machine.
use Rattle.std.proofs.Common.{◌≡◌, ℕ, ◌+◌, ◌<◌, ◌≤◌, Bool, true, false, List, [], ◌∷◌, ◌++◌, length, map, take, refl, sym, ◌∙◌, ap, arith, subst}
use Rattle.std.specs.Prelude.{flat_map, if◌then◌else◌, All}
use Rattle.std.specs.List.{AllByRecursion}
use Rattle.std.proofs.lemmas.List.{get_or-take}
use Rattle.std.proofs.lemmas.List.Elements.{recursion_from_All}
use Rattle.csub_guard.specs.Machine.{Counted, run_assigns, chosen, run_pieces}
use Rattle.csub_guard.specs.Trees.{Piece, One, If}
use Rattle.csub_guard.proofs.Exports.{plain-run, pieces-append}
use Rattle.csub_run.specs.Plans.{assign_step}
use Rattle.csub_run.proofs.Exports.{Agree, Targets, run-agree, settled-body}
use Rattle.csub_text.specs.Machine.{Memory, run_body}
use Rattle.csub_text.specs.Trees.{Assign}
use Rattle.net_ir.proofs.Exports.{place-among}
use Rattle.run_steps.specs.Plans.{made}
use Rattle.run_steps.specs.Slots.{slot_in, value_at, memory_in}
use Rattle.run_steps.specs.Steps.{settled}
use Rattle.run_steps.proofs.Exports.{length-settled, length-made}
use Rattle.csub_guard_run.specs.declared.plan.Block.{Block}
use Rattle.csub_guard_run.specs.declared.plan.Stretch.{Stretch}
use Rattle.csub_guard_run.specs.Plans.{AreLow, IsStretch, Segment, segment_pieces, IsBlock, AreBlocks}
use Rattle.csub_guard_run.specs.Runs.{BlockFits, half_of, behind_before, block_made, block_count, blocks_made, blocks_count}

-- ---- the first slots

abbrev pub steps : List (List ℕ) → List Assign → List Bool → List Bool
steps names assigns = settled (map (assign_step names) assigns)

abbrev half : List (List ℕ) → Segment → List Bool → List Assign
half names s values = if value_at values (slot_in names s.test) then s.first else s.second

abbrev segment_run : List (List ℕ) → Segment → List Bool → List Bool
segment_run names s values = steps names (half names s (steps names s.before values)) (steps names s.before values)

abbrev segment_count : List (List ℕ) → Segment → List Bool → ℕ
segment_count names s values = length s.before + length (half names s (steps names s.before values))

abbrev pub segments_run : List (List ℕ) → List Segment → List Bool → List Bool
segments_run names [] values = values
segments_run names (s ∷ segments) values = segments_run names segments (segment_run names s values)

abbrev pub segments_count : List (List ℕ) → List Segment → List Bool → ℕ
segments_count names [] values = 0
segments_count names (s ∷ segments) values = segment_count names s values + segments_count names segments (segment_run names s values)

-- ---- plans make the steps on the first slots

pub stretch-made : (names : List (List ℕ)) (assigns : List Assign) (s : Stretch) (values : List Bool) → IsStretch names assigns s
    → s.plan.slots ≤ length values → take (length names) (made s.plan.lookups values) ≡ steps names assigns (take (length names) values)
stretch-made names assigns s values is fits =
    subst (λ n. take n (made s.plan.lookups values) ≡ steps names assigns (take n values)) is.named (is.makes.made_is values fits)

record BlockRuns (names : List (List ℕ)) (s : Segment) (b : Block) (values : List Bool) : Type 0 where
  front : take (length names) (block_made b values) ≡ segment_run names s (take (length names) values)
  wide : length (block_made b values) ≡ length values
  counted : block_count b values ≡ segment_count names s (take (length names) values)

block-runs : (names : List (List ℕ)) (s : Segment) (b : Block) (values : List Bool) → IsBlock names s b → BlockFits (length values) b
    → BlockRuns names s b values
block-runs names s b values is fits = go (value_at middle b.test) refl
  where
    n : ℕ
    n = length names

    middle : List Bool
    middle = behind_before b values

    wide : length middle ≡ length values
    wide = length-made b.before.plan.lookups values

    front : take n middle ≡ steps names s.before (take n values)
    front = stretch-made names s.before b.before values is.before fits.before

    tested : value_at middle b.test ≡ value_at (steps names s.before (take n values)) (slot_in names s.test)
    tested = ap (value_at middle) is.test ∙ sym (get_or-take n middle (slot_in names s.test) false is.low) ∙ ap (λ l. value_at l (slot_in names s.test)) front

    go : (t : Bool) → value_at middle b.test ≡ t → BlockRuns names s b values
    go true at =
        let code : half_of b middle ≡ b.first = ap (λ t. if t then b.first else b.second) at in
        let plain : half names s (steps names s.before (take n values)) ≡ s.first = ap (λ t. if t then s.first else s.second) (sym tested ∙ at) in
        record {
          front = ap (λ (h : Stretch). take n (made h.plan.lookups middle)) code
              ∙ stretch-made names s.first b.first middle is.first (omega (arith, fits.first, wide))
              ∙ ap (steps names s.first) front ∙ sym (ap (λ l. steps names l (steps names s.before (take n values))) plain);
          wide = ap (λ (h : Stretch). length (made h.plan.lookups middle)) code ∙ length-made b.first.plan.lookups middle ∙ wide;
          counted = ap (λ (h : Stretch). b.before.count + h.count) code ∙ ap (λ k. k + b.first.count) is.before.counts
              ∙ ap (λ k. length s.before + k) is.first.counts ∙ sym (ap (λ l. length s.before + length l) plain);
        }
    go false at =
        let code : half_of b middle ≡ b.second = ap (λ t. if t then b.first else b.second) at in
        let plain : half names s (steps names s.before (take n values)) ≡ s.second = ap (λ t. if t then s.first else s.second) (sym tested ∙ at) in
        record {
          front = ap (λ (h : Stretch). take n (made h.plan.lookups middle)) code
              ∙ stretch-made names s.second b.second middle is.second (omega (arith, fits.second, wide))
              ∙ ap (steps names s.second) front ∙ sym (ap (λ l. steps names l (steps names s.before (take n values))) plain);
          wide = ap (λ (h : Stretch). length (made h.plan.lookups middle)) code ∙ length-made b.second.plan.lookups middle ∙ wide;
          counted = ap (λ (h : Stretch). b.before.count + h.count) code ∙ ap (λ k. k + b.second.count) is.before.counts
              ∙ ap (λ k. length s.before + k) is.second.counts ∙ sym (ap (λ l. length s.before + length l) plain);
        }

pub record BlocksRun (names : List (List ℕ)) (segments : List Segment) (blocks : List Block) (values : List Bool) : Type 0 where
  pub front : take (length names) (blocks_made blocks values) ≡ segments_run names segments (take (length names) values)
  pub wide : length (blocks_made blocks values) ≡ length values
  pub counted : blocks_count blocks values ≡ segments_count names segments (take (length names) values)

blocks-fit : (names : List (List ℕ)) (segments : List Segment) (blocks : List Block) (values : List Bool) → AreBlocks names segments blocks
    → AllByRecursion (BlockFits (length values)) blocks → BlocksRun names segments blocks values
blocks-fit names [] [] values are fits = record { front = refl; wide = refl; counted = refl }
blocks-fit names [] (b ∷ blocks) values are fits = absurd are
blocks-fit names (s ∷ segments) [] values are fits = absurd are
blocks-fit names (s ∷ segments) (b ∷ blocks) values are fits =
    let one = block-runs names s b values are.0 fits.0 in
    let more = blocks-fit names segments blocks (block_made b values) are.1
    (subst (λ n. AllByRecursion (BlockFits n) blocks) (sym one.wide) fits.1) in
    record {
      front = more.front ∙ ap (segments_run names segments) one.front;
      wide = more.wide ∙ one.wide;
      counted = ap (λ k. block_count b values + k) (more.counted ∙ ap (segments_count names segments) one.front)
          ∙ ap (λ k. k + segments_count names segments (segment_run names s (take (length names) values))) one.counted;
    }

pub blocks-run : (names : List (List ℕ)) (segments : List Segment) (blocks : List Block) (values : List Bool) → AreBlocks names segments blocks
    → All (BlockFits (length values)) blocks → BlocksRun names segments blocks values
blocks-run names segments blocks values are fits =
    blocks-fit names segments blocks values are (recursion_from_All (BlockFits (length values)) blocks fits)

-- what is tested has a slot
pub tests-low : (names : List (List ℕ)) (segments : List Segment) (blocks : List Block) → AreBlocks names segments blocks
    → AllByRecursion (λ b. b.test < length names) blocks
tests-low names [] [] are = tt
tests-low names [] (b ∷ blocks) are = absurd are
tests-low names (s ∷ segments) [] are = absurd are
tests-low names (s ∷ segments) (b ∷ blocks) are = (omega (arith, are.0.test, are.0.low), tests-low names segments blocks are.1)

-- ---- the steps are assignments

pub targets-of : (names : List (List ℕ)) (assigns : List Assign) → AreLow names assigns → Targets names assigns
targets-of names [] low = tt
targets-of names (a ∷ assigns) low = (place-among a.target names low.0, targets-of names assigns low.1)

-- a memory and a count by the values of the names
pub record Agrees (names : List (List ℕ)) (values : List Bool) (count : ℕ) (c : Counted) : Type 0 where
  pub memory : Agree (memory_in names values) c.memory
  pub wide : length values ≡ length names
  pub counted : count ≡ c.count

pub assigns-agree : (names : List (List ℕ)) (assigns : List Assign) (values : List Bool) (count : ℕ) (c : Counted) → AreLow names assigns
    → Agrees names values count c → Agrees names (steps names assigns values) (count + length assigns) (run_assigns assigns c)
assigns-agree names assigns values count c low is = record {
  memory = λ name. settled-body names assigns values is.wide (targets-of names assigns low) name
      ∙ run-agree assigns (memory_in names values) c.memory is.memory name;
  wide = length-settled (map (assign_step names) assigns) values ∙ is.wide;
  counted = ap (λ k. k + length assigns) is.counted;
}

-- the same where they stand in no block
ones-agree : (names : List (List ℕ)) (assigns : List Assign) (values : List Bool) (count : ℕ) (c d : Counted)
    → d.memory ≡ run_body assigns c.memory → d.count ≡ c.count + length assigns → AreLow names assigns → Agrees names values count c
    → Agrees names (steps names assigns values) (count + length assigns) d
ones-agree names assigns values count c d memory counted low is =
    let run = assigns-agree names assigns values count c low is in
    record {
      memory = λ name. run.memory name ∙ sym (ap (λ (m : Memory). m name) memory);
      wide = run.wide;
      counted = run.counted ∙ sym counted;
    }

pub pieces-agree : (names : List (List ℕ)) (assigns : List Assign) (values : List Bool) (count : ℕ) (c : Counted) → AreLow names assigns
    → Agrees names values count c → Agrees names (steps names assigns values) (count + length assigns) (run_pieces (map One assigns) c)
pieces-agree names assigns values count c low is =
    let plain = plain-run assigns c in
    ones-agree names assigns values count c (run_pieces (map One assigns) c) plain.memory plain.count low is

segment-agrees : (names : List (List ℕ)) (s : Segment) (b : Block) (values : List Bool) (count : ℕ) (c : Counted) → IsBlock names s b
    → Agrees names values count c
    → Agrees names (segment_run names s values) (count + segment_count names s values) (run_pieces (segment_pieces s) c)
segment-agrees names s b values count c is before =
    let first = pieces-agree names s.before values count c is.before.low before in
    let d = run_pieces (map One s.before) c in
    subst (Agrees names (segment_run names s values) (count + segment_count names s values))
    (sym (pieces-append (map One s.before) (If s.test s.first s.second ∷ []) c))
    (go d first (value_at (steps names s.before values) (slot_in names s.test)) refl)
  where
    joined : {values : List Bool} {c : Counted} (assigns : List Assign) → Agrees names values (count + length s.before + length assigns) c
        → Agrees names values (count + (length s.before + length assigns)) c
    joined {values} {c} assigns is =
        let e : count + length s.before + length assigns ≡ count + (length s.before + length assigns) = omega arith in
        subst (λ k. Agrees names values k c) e is

    go : (d : Counted) → Agrees names (steps names s.before values) (count + length s.before) d
        → (t : Bool) → value_at (steps names s.before values) (slot_in names s.test) ≡ t
        → Agrees names (segment_run names s values) (count + segment_count names s values) (run_assigns (chosen (If s.test s.first s.second) d.memory) d)
    go d first true at =
        let plain : half names s (steps names s.before values) ≡ s.first = ap (λ t. if t then s.first else s.second) at in
        let picks : chosen (If s.test s.first s.second) d.memory ≡ s.first =
        ap (λ t. if t then s.first else s.second) (sym (first.memory s.test) ∙ at) in
        rw (plain, picks) (joined s.first (assigns-agree names s.first (steps names s.before values) (count + length s.before) d is.first.low first))
    go d first false at =
        let plain : half names s (steps names s.before values) ≡ s.second = ap (λ t. if t then s.first else s.second) at in
        let picks : chosen (If s.test s.first s.second) d.memory ≡ s.second =
        ap (λ t. if t then s.first else s.second) (sym (first.memory s.test) ∙ at) in
        rw (plain, picks) (joined s.second (assigns-agree names s.second (steps names s.before values) (count + length s.before) d is.second.low first))

pub segments-agree : (names : List (List ℕ)) (segments : List Segment) (blocks : List Block) (values : List Bool) (count : ℕ) (c : Counted)
    → AreBlocks names segments blocks → Agrees names values count c
    → Agrees names (segments_run names segments values) (count + segments_count names segments values)
    (run_pieces (flat_map segment_pieces segments) c)
segments-agree names [] [] values count c are is = subst (λ k. Agrees names values k c) (let e : count ≡ count + 0 = omega arith in e) is
segments-agree names [] (b ∷ blocks) values count c are is = absurd are
segments-agree names (s ∷ segments) [] values count c are is = absurd are
segments-agree names (s ∷ segments) (b ∷ blocks) values count c are is =
    let one = segment-agrees names s b values count c are.0 is in
    let d = run_pieces (segment_pieces s) c in
    let next = segment_run names s values in
    let more = segments-agree names segments blocks next (count + segment_count names s values) d are.1 one in
    let e : count + segment_count names s values + segments_count names segments next
    ≡ count + (segment_count names s values + segments_count names segments next) = omega arith in
    subst (Agrees names (segments_run names segments next) (count + (segment_count names s values + segments_count names segments next)))
    (sym (pieces-append (segment_pieces s) (flat_map segment_pieces segments) c))
    (subst (λ k. Agrees names (segments_run names segments next) k (run_pieces (flat_map segment_pieces segments) d)) e more)

-- a whole body
pub body-agrees : (names : List (List ℕ)) (pieces : List Piece) (segments : List Segment) (blocks : List Block) (behind : List Assign)
    (values : List Bool) (c : Counted)
    → pieces ≡ flat_map segment_pieces segments ++ map One behind → AreBlocks names segments blocks → AreLow names behind
    → Agrees names values 0 c
    → Agrees names (steps names behind (segments_run names segments values)) (segments_count names segments values + length behind)
    (run_pieces pieces c)
body-agrees names pieces segments blocks behind values c split are low is =
    let e : 0 + segments_count names segments values ≡ segments_count names segments values = omega arith in
    let d = run_pieces (flat_map segment_pieces segments) c in
    let first = subst (λ k. Agrees names (segments_run names segments values) k d) e (segments-agree names segments blocks values 0 c are is) in
    subst (Agrees names (steps names behind (segments_run names segments values)) (segments_count names segments values + length behind))
    (sym (ap (λ l. run_pieces l c) split ∙ pieces-append (flat_map segment_pieces segments) (map One behind) c))
    (pieces-agree names behind (segments_run names segments values) (segments_count names segments values) d low first)
