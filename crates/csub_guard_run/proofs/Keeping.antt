-- Inner: a machine and its fields.
use Rattle.std.proofs.Common.{◌≡◌, ℕ, ◌+◌, ◌<◌, ◌≤◌, Bool, List, [], ◌∷◌, length, map, take, refl, sym, ◌∙◌, ap, arith, subst}
use Rattle.std.proofs.lemmas.List.{length-take-le}
use Rattle.std.specs.List.{AllByRecursion}
use Rattle.csub_guard.specs.Machine.{Counted, inputs_of, call}
use Rattle.csub_guard.specs.Names.{declared}
use Rattle.csub_guard.specs.Trees.{Program}
use Rattle.csub_guard.specs.Views.{program_of}
use Rattle.csub_guard.specs.declared.trees.GuardedProgram.{GuardedProgram}
use Rattle.csub_run.proofs.Exports.{Agree, first-fresh, put-inputs, wide-put, take-put, inputs-among, slots-below, shown-front}
use Rattle.csub_run.specs.Plans.{put_all}
use Rattle.csub_text.specs.Machine.{value_of, with_inputs}
use Rattle.csub_text.specs.Trees as plain
use Rattle.run_steps.specs.Plans.{made, term_value}
use Rattle.run_steps.specs.Slots.{slot_in, value_at, memory_in}
use Rattle.csub_guard_run.specs.declared.runner.GuardedRunner.TheInside.{Inside}
use Rattle.csub_guard_run.specs.declared.plan.Block.{Block}
use Rattle.csub_guard_run.specs.declared.plan.Body.{Body}
use Rattle.csub_guard_run.specs.Insides.{KeepsPlan}
use Rattle.csub_guard_run.specs.Plans.{IsPlan, IsEnd, first_values}
use Rattle.csub_guard_run.specs.Runners.{KeepsNames, Reacts, IsFresh}
use Rattle.csub_guard_run.specs.Totals.{HasRoom}
use Rattle.csub_guard_run.specs.Runs.{BodyFits, blocks_made, body_made, body_count}
use Rattle.csub_guard_run.proofs.Bodies.{names-low}
use Rattle.csub_guard_run.proofs.Runs.{tests-low, steps, segments_run, segments_count, stretch-made, blocks-run, Agrees, body-agrees}
use Rattle.run_steps.specs.declared.term.Term.{Term}

-- the program without its body: it declares the same, and has the same inputs and outputs
abbrev pub shell : Program → plain.Program
shell p = record { states = p.states; globals = p.globals; locals = p.locals; body = []; answer = p.answer }

pub fresh-by : (code : GuardedProgram) (values : List Bool) (count : ℕ) → values ≡ first_values (program_of code) → count ≡ 0
    → IsFresh (record { code = code; values = values; count = count })
fresh-by code values count is none = record {
  memory = λ name. ap (λ v. memory_in (declared (program_of code)) v name) is ∙ first-fresh (shell (program_of code)) name;
  counted = none;
}

pub keeps-by : (inside : Inside) → KeepsNames (program_of inside.program) → IsPlan (program_of inside.program) inside.plan
    → inside.plan.track.gates.slots ≤ length inside.values.items
    → inside.outputs.items ≡ map (value_at inside.values.items) inside.plan.outputs.items
    → HasRoom inside.total → KeepsPlan inside
keeps-by inside fits plan wide shown room = record {
  names_fit = fits;
  plan = plan;
  each_slot = wide;
  shown = shown ∙ shown-front (shell (program_of inside.program)) inside.plan.outputs.items inside.values.items plan.outputs_are;
  room = room;
}

-- ---- one call

pub record Called (p : Program) (body : Body) (answer : Term) (inputs values begun after : List Bool) : Type 0 where
  pub memory : (name : List ℕ) → memory_in (declared p) (take (length (declared p)) after) name
      ≡ (call p inputs (memory_in (declared p) (take (length (declared p)) values))).memory name
  pub counted : body_count body begun ≡ (call p inputs (memory_in (declared p) (take (length (declared p)) values))).count
  pub returned : term_value answer after ≡ value_of (memory_in (declared p) (take (length (declared p)) after)) p.answer

pub called-by : (p : Program) (body : Body) (answer : Term) (inputs values begun after : List Bool) → IsEnd p body answer
    → BodyFits (length begun) body → length (declared p) ≤ length values
    → begun ≡ put_all (map (slot_in (declared p)) (inputs_of p)) inputs values → after ≡ body_made body begun
    → Called p body answer inputs values begun after
called-by p body answer inputs values begun after is fits wide begins runs =
    let names = declared p in
    let n = length names in
    let slots = map (slot_in names) (inputs_of p) in
    let front = take n values in
    let m = is.makes in
    let first : take n begun ≡ put_all slots inputs front =
    ap (take n) begins ∙ take-put n slots inputs values (slots-below names (inputs_of p) (inputs-among (shell p))) in
    let narrow : length front ≡ n = length-take-le n values wide in
    let inputs-in : Agree (memory_in names (take n begun)) (with_inputs (inputs_of p) inputs (memory_in names front)) =
    λ name. ap (λ v. memory_in names v name) first ∙ put-inputs names (inputs_of p) inputs front narrow (inputs-among (shell p)) name in
    let c : Counted = record { memory = with_inputs (inputs_of p) inputs (memory_in names front); count = 0 } in
    let starts : Agrees names (take n begun) 0 c = record {
      memory = inputs-in;
      wide = ap length first ∙ wide-put slots inputs front ∙ narrow;
      counted = refl;
    } in
    let run = blocks-run names m.segments body.blocks.items begun m.blocks fits.blocks in
    let middle = blocks_made body.blocks.items begun in
    let ends : take n after ≡ steps names m.behind (segments_run names m.segments (take n begun)) =
    ap (take n) runs ∙ stretch-made names m.behind body.last middle m.last (omega (arith, fits.last, run.wide))
    ∙ ap (steps names m.behind) run.front in
    let all = body-agrees names p.body m.segments body.blocks.items m.behind (take n begun) c m.split m.blocks m.last.low starts in
    record {
      memory = λ name. ap (λ v. memory_in names v name) ends ∙ all.memory name;
      counted = ap (λ k. k + body.last.count) run.counted ∙ ap (λ k. segments_count names m.segments (take n begun) + k) m.last.counts
          ∙ all.counted;
      returned = ap (term_value answer) runs
          ∙ subst (λ k. term_value answer (made body.last.plan.lookups middle)
          ≡ value_of (memory_in names (take k (made body.last.plan.lookups middle))) p.answer) m.last.named
          (is.says.says middle (omega (arith, fits.last, run.wide)))
          ∙ ap (λ l. value_of (memory_in names (take n l)) p.answer) (sym runs);
    }

pub reacts-by : (code : GuardedProgram) (body : Body) (term : Term) (inputs values begun after items : List Bool) (before count : ℕ) (answer : Bool)
    → Called (program_of code) body term inputs values begun after → items ≡ after → count ≡ body_count body begun → answer ≡ term_value term after
    → Reacts (record { code = code; values = take (length (declared (program_of code))) values; count = before }) inputs answer
    (record { code = code; values = take (length (declared (program_of code))) items; count = count })
reacts-by code body term inputs values begun after items before count answer called same counted told =
    let p = program_of code in
    record {
      same = refl;
      memory = λ name. ap (λ l. memory_in (declared p) (take (length (declared p)) l) name) same ∙ called.memory name;
      counted = counted ∙ called.counted;
      returned = told ∙ called.returned ∙ ap (λ l. value_of (memory_in (declared p) (take (length (declared p)) l)) p.answer) (sym same);
    }

pub tests-fit : (p : Program) (body : Body) (answer : Term) (n : ℕ) → IsEnd p body answer → BodyFits n body
    → AllByRecursion (λ b. b.test < n) body.blocks.items
tests-fit p body answer n is fits = go body.blocks.items (tests-low (declared p) is.makes.segments body.blocks.items is.makes.blocks)
  where
    go : (blocks : List Block) → AllByRecursion (λ b. b.test < length (declared p)) blocks → AllByRecursion (λ b. b.test < n) blocks
    go [] low = tt
    go (b ∷ blocks) low = let names = names-low p body answer n is fits in (omega (arith, low.0, names), go blocks low.1)
