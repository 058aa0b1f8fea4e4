-- Inner: the plan of a program. A body is cut into blocks, each with the assignments before it, and the assignments
-- after the last one.
use Rattle.std.specs.Prelude.{◌≡◌, ◌<◌, ◌≤◌, ℕ, Bool, false, List, [], ◌∷◌, ◌++◌, length, map, flat_map}
use Rattle.std.specs.List.{AllByRecursion}
use Rattle.csub_guard.specs.Machine.{inputs_of, outputs_of}
use Rattle.csub_guard.specs.Names.{declared}
use Rattle.csub_guard.specs.Trees.{Piece, One, If, Program}
use Rattle.csub_run.specs.Plans.{assign_step}
use Rattle.csub_text.specs.Machine.{value_of}
use Rattle.csub_text.specs.Trees.{Assign}
use Rattle.run_steps.specs.Plans.{Makes, Says}
use Rattle.run_steps.specs.Slots.{slot_in, memory_in}
use Rattle.run_steps.specs.declared.term.Term.{Term}
use Rattle.csub_guard_run.specs.declared.plan.Block.{Block}
use Rattle.csub_guard_run.specs.declared.plan.Body.{Body}
use Rattle.csub_guard_run.specs.declared.plan.CallPlan.{CallPlan}
use Rattle.csub_guard_run.specs.declared.plan.Stretch.{Stretch}
use Rattle.csub_guard_run.specs.Tracks.{IsTrack}

-- the values of the states, and 0 for all others
abbrev pub first_values : Program → List Bool
first_values p = (map (λ s. s.init) p.states ++ map (λ _. false) p.globals) ++ map (λ _. false) p.locals

-- what is assigned has a slot
abbrev pub AreLow : List (List ℕ) → List Assign → Type 0
AreLow names = AllByRecursion (λ a. slot_in names a.target < length names)

-- what is assigned and tested has a slot
abbrev pub PieceFits : List (List ℕ) → Piece → Type 0
PieceFits names (One a) = slot_in names a.target < length names
PieceFits names (If test first second) = (slot_in names test < length names) × AreLow names first × AreLow names second

abbrev pub AllTargets : List (List ℕ) → List Piece → Type 0
AllTargets names = AllByRecursion (PieceFits names)

-- the plan makes the assignments by gates alone, and the count is their number
pub record IsStretch (names : List (List ℕ)) (assigns : List Assign) (s : Stretch) : Type 0 where
  pub named : s.plan.named ≡ length names
  pub tables : s.plan.tables ≡ 0
  pub makes : Makes s.plan (map (assign_step names) assigns)
  pub counts : s.count ≡ length assigns
  pub low : AreLow names assigns

-- assignments, and a block after them
pub record Segment : Type 0 where
  pub before : List Assign
  pub test : List ℕ
  pub first : List Assign
  pub second : List Assign

abbrev pub segment_pieces : Segment → List Piece
segment_pieces s = map One s.before ++ If s.test s.first s.second ∷ []

pub record IsBlock (names : List (List ℕ)) (s : Segment) (b : Block) : Type 0 where
  pub before : IsStretch names s.before b.before
  pub test : b.test ≡ slot_in names s.test
  pub low : slot_in names s.test < length names
  pub first : IsStretch names s.first b.first
  pub second : IsStretch names s.second b.second

abbrev pub AreBlocks : List (List ℕ) → List Segment → List Block → Type 0
AreBlocks names [] [] = Unit {0}
AreBlocks names (s ∷ segments) (b ∷ blocks) = IsBlock names s b × AreBlocks names segments blocks
AreBlocks names others more = ⊥

-- the plans of pieces
pub record IsBody (names : List (List ℕ)) (pieces : List Piece) (b : Body) : Type 0 where
  pub segments : List Segment
  pub behind : List Assign
  pub split : pieces ≡ flat_map segment_pieces segments ++ map One behind
  pub blocks : AreBlocks names segments b.blocks.items
  pub last : IsStretch names behind b.last

-- the plan of the body, and a term of the value that is returned after it
pub record IsEnd (p : Program) (body : Body) (answer : Term) : Type 0 where
  pub makes : IsBody (declared p) p.body body
  pub named_low : body.last.plan.named < body.last.plan.slots
  pub free_low : body.last.plan.free ≤ body.last.plan.slots
  pub says : Says body.last.plan answer (λ values. value_of (memory_in (declared p) values) p.answer)

-- the plan of a program: what the plans of some body make, on one track
pub record IsPlan (p : Program) (plan : CallPlan) : Type 0 where
  pub inputs_are : plan.inputs.items ≡ map (slot_in (declared p)) (inputs_of p)
  pub outputs_are : plan.outputs.items ≡ map (slot_in (declared p)) (outputs_of p)
  pub body : Body
  pub end_is : IsEnd p body plan.answer
  pub track_is : IsTrack body plan.track
  pub initial_is : plan.initial.items ≡ first_values p
