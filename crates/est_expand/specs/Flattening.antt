-- To believe: the flat form of a program, in which the body of a module stands for each `run` of it, or the first fault
-- of the walk. The walk begins at the body of the main module, takes parts in the order in which they are written, and
-- goes into the body of a module at its `run`. Modules and `run` are those of Berry, "The
-- Esterel v5 Language Primer".
use Rattle.std.specs.Prelude.{ℕ, zero, suc, ◌+◌, false, ◌||◌, nat_lt, if◌then◌else◌, List, [], ◌∷◌, map, flat_map}
use Rattle.std.specs.Prelude.{length, Option, Some, None, Result, Ok, Err}
use Rattle.std.specs.Option.{option_map, option_map_or}
use Rattle.base_types.specs.declared.place.Span.{Span}
use Rattle.base_types.specs.declared.bounds.TheConstants.Limits.{DEPTH}
use Rattle.base_types.specs.Names.{is_same_name}
use Rattle.base_types.specs.Relations as flat_relations
use Rattle.est_ast.specs.declared.trees.Name.{Name}
use Rattle.est_ast.specs.declared.trees.Rename.{Rename}
use Rattle.est_ast.specs.FlatTrees as flat
use Rattle.est_ast.specs.Trees.{Delay, Plain, Immediate, Count, Stmt, At, Form, Nothing, Pause, Halt, Emit, Sustain}
use Rattle.est_ast.specs.Trees.{Await, AwaitCase, Present, PresentCase, Loop, LoopEach, Every, Repeat, Abort, AbortCase}
use Rattle.est_ast.specs.Trees.{WeakAbort, Suspend, Trap, Exit, Signal, Run, Seq, Par, Group, Part, Missing, Written}
use Rattle.est_ast.specs.Trees.{Handler, NoHandler, Handled, Stmts, NoStmts, MoreStmts, Cases, NoCases, MoreCases}
use Rattle.est_ast.specs.Trees.{NamedRelation, Implies, Excludes, Decl, Input, InputOutput, Output, Relations, Module}
use Rattle.est_ast.specs.Trees.{SourceProgram}
use Rattle.est_names.specs.Names.{texts}
use Rattle.est_expand.specs.Faults.{FlattenFault, UnknownTrap, EmitInput, TooDeep}
use Rattle.est_expand.specs.Scopes.{NameScope, meaning, binding, interface, main_interface, main_signals, main_scope}
use Rattle.est_expand.specs.Walks.{WalkCounts, beginning, FlatWalk, on_ok, give, stop, after, knowing, meet_statement}
use Rattle.est_expand.specs.Walks.{meet_signals, meet_added}
use Rattle.est_expand.specs.Tests.{found_or, signal_of, test, awaited}
use Rattle.est_expand.specs.Runs.{module_named, chain_with, renamed, opened}

-- What stands around a statement: what names of signals mean there; the traps of its module, the nearest first; the
-- modules from the main one to its own.
pub record Around : Type 0 where
  pub scope : NameScope
  pub traps : List (List ℕ)
  pub chain : List (List ℕ)

abbrev pub in_signals : List (List ℕ) → ℕ → Around → Around
in_signals names next around = record around { scope = binding false names next around.scope }

abbrev pub in_trap : List ℕ → Around → Around
in_trap name around = record around { traps = name ∷ around.traps }

-- ---- lists and parts, where it is known what a statement in them is

abbrev pub part : (Stmt → FlatWalk flat.Stmt) → Part → FlatWalk flat.Part
part inside Missing = give flat.Missing
part inside (Written p) = after (inside p) (λ p. give (flat.Written p))

abbrev pub each : (Stmt → FlatWalk flat.Stmt) → Stmts → FlatWalk flat.Stmts
each inside NoStmts = give flat.NoStmts
each inside (MoreStmts p others) =
    after (inside p) (λ p. after (each inside others) (λ others. give (flat.MoreStmts p others)))

abbrev pub each_case : NameScope → (Stmt → FlatWalk flat.Stmt) → Cases → FlatWalk flat.Cases
each_case scope inside NoCases = give flat.NoCases
each_case scope inside (MoreCases event body others) =
    knowing (test scope event) (λ event. after (part inside body) (λ body.
    after (each_case scope inside others) (λ others. give (flat.MoreCases event body others))))

-- ---- counts, traps and what is emitted

-- an abortion by a count of 2 or more will need a signal
abbrev pub meet_delay : Delay → FlatWalk (Unit {0})
meet_delay (Plain event) = give tt
meet_delay (Immediate event) = give tt
meet_delay (Count count span event) = if nat_lt 1 count then meet_added else give tt

-- as many numbers as there are names, from this one on
abbrev pub numbers : ℕ → List (List ℕ) → List ℕ
numbers next [] = []
numbers next (name ∷ names) = next ∷ numbers (next + 1) names

-- how many traps stand between an exit and the nearest trap of this name
abbrev pub traps_between : List ℕ → List (List ℕ) → Option ℕ
traps_between name [] = None
traps_between name (trap ∷ traps) =
    if is_same_name name trap then Some 0 else option_map (λ k. k + 1) (traps_between name traps)

abbrev pub exit_of : List (List ℕ) → Name → Result ℕ FlattenFault
exit_of traps name = found_or (UnknownTrap name.span) (traps_between name.text traps)

-- the body of a handler, which stands outside the trap of this name
abbrev pub handler : (Stmt → FlatWalk flat.Stmt) → Name → Handler → FlatWalk flat.Part
handler inside name NoHandler = give flat.Missing
handler inside name (Handled handled p) =
    if is_same_name handled.text name.text then after (inside p) (λ p. give (flat.Written p))
    else stop (UnknownTrap handled.span)

-- A signal that is emitted: no input of the module in which that is written, nor of the main module, whose inputs have
-- the numbers below this one.
abbrev pub emitted : ℕ → NameScope → Name → Result ℕ FlattenFault
emitted inputs scope name =
    on_ok (signal_of scope name)
    (λ s. if s.input || nat_lt s.signal inputs then Err (EmitInput name.span) else Ok s.signal)

-- ---- statements, in a program of these modules whose main module has so many inputs

module _ (modules : SourceProgram) (inputs : ℕ) where
  -- The body of a module. It sees its formals alone, and no trap around the `run`.
  abbrev pub ran : (Around → Stmt → FlatWalk flat.Stmt) → Around → Name → List Rename → FlatWalk flat.Stmt
  ran inside around name renames =
      knowing (module_named modules name) (λ m.
      knowing (chain_with around.chain name) (λ chain.
      knowing (renamed (interface m) around.scope [] renames) (λ given.
      knowing (opened name.span around.scope given [] (interface m)) (λ scope.
      inside (record { scope = scope; traps = []; chain = chain }) m.body))))

  -- A statement that has been counted, where it is known what a statement in it is. Its own signals are counted first;
  -- then its names and its parts are taken as they are written.
  abbrev pub row : (Around → Stmt → FlatWalk flat.Stmt) → Around → Span → Form → FlatWalk flat.Stmt
  row inside around at Nothing = give (flat.At at flat.Nothing)
  row inside around at Pause = give (flat.At at flat.Pause)
  row inside around at Halt = give (flat.At at flat.Halt)
  row inside around at (Emit name) = knowing (emitted inputs around.scope name) (λ s. give (flat.At at (flat.Emit s)))
  row inside around at (Sustain name) =
      knowing (emitted inputs around.scope name) (λ s. give (flat.At at (flat.Sustain s)))
  row inside around at (Await delay q) =
      knowing (awaited around.scope delay) (λ delay. after (part (inside around) q) (λ q.
      give (flat.At at (flat.Await delay q))))
  row inside around at (AwaitCase cases) =
      after (each_case around.scope (inside around) cases) (λ cases. give (flat.At at (flat.AwaitCase cases)))
  row inside around at (Present e p q) =
      knowing (test around.scope e) (λ e. after (part (inside around) p) (λ p. after (part (inside around) q) (λ q.
      give (flat.At at (flat.Present e p q)))))
  row inside around at (PresentCase cases q) =
      after (each_case around.scope (inside around) cases) (λ cases. after (part (inside around) q) (λ q.
      give (flat.At at (flat.PresentCase cases q))))
  row inside around at (Loop p) = after (inside around p) (λ p. give (flat.At at (flat.Loop p)))
  row inside around at (LoopEach p delay) =
      after (meet_delay delay) (λ _. after (inside around p) (λ p. knowing (awaited around.scope delay) (λ delay.
      give (flat.At at (flat.LoopEach p delay)))))
  row inside around at (Every delay p) =
      after (meet_delay delay) (λ _. knowing (awaited around.scope delay) (λ delay. after (inside around p) (λ p.
      give (flat.At at (flat.Every delay p)))))
  row inside around at (Repeat count span p) =
      after (inside around p) (λ p. give (flat.At at (flat.Repeat count span p)))
  row inside around at (Abort p delay q) =
      after (meet_delay delay) (λ _. after (inside around p) (λ p. knowing (awaited around.scope delay) (λ delay.
      after (part (inside around) q) (λ q. give (flat.At at (flat.Abort p delay q))))))
  row inside around at (AbortCase p cases) =
      after (inside around p) (λ p. after (each_case around.scope (inside around) cases) (λ cases.
      give (flat.At at (flat.AbortCase p cases))))
  row inside around at (WeakAbort p delay) =
      after (inside around p) (λ p. knowing (awaited around.scope delay) (λ delay.
      give (flat.At at (flat.WeakAbort p delay))))
  row inside around at (Suspend p delay) =
      after (inside around p) (λ p. knowing (awaited around.scope delay) (λ delay.
      give (flat.At at (flat.Suspend p delay))))
  row inside around at (Trap name p handled) =
      after (inside (in_trap name.text around) p) (λ p. after (handler (inside around) name handled) (λ q.
      give (flat.At at (flat.Trap p q))))
  row inside around at (Exit name) = knowing (exit_of around.traps name) (λ k. give (flat.At at (flat.Exit k)))
  row inside around at (Signal names p) =
      after (meet_signals (texts names)) (λ next. after (inside (in_signals (texts names) next around) p) (λ p.
      give (flat.At at (flat.Signal (numbers next (texts names)) p))))
  row inside around at (Run name renames) = ran inside around name renames
  row inside around at (Seq parts) =
      after (each (inside around) parts) (λ parts. give (flat.At at (flat.Seq parts)))
  row inside around at (Par parts) =
      after (each (inside around) parts) (λ parts. give (flat.At at (flat.Par parts)))
  row inside around at (Group p) = inside around p

  -- A statement, where so many more may stand one in another. It is counted, and then its depth is tested.
  unfoldable pub flattening : ℕ → Around → Stmt → FlatWalk flat.Stmt
  flattening zero around (At at form) = after meet_statement (λ _. stop TooDeep)
  flattening (suc room) around (At at form) = after meet_statement (λ _. row (flattening room) around at form)

-- ---- programs

-- the signal that a name of a relation means; the check of names has found that it is one
abbrev pub related : NameScope → Name → ℕ
related scope name = option_map_or (λ s. s.signal) (meaning scope name.text) 0

abbrev pub relation_in : NameScope → NamedRelation → flat_relations.Relation
relation_in scope (Implies cause effect) = flat_relations.Implies (related scope cause) (related scope effect)
relation_in scope (Excludes names) = flat_relations.Excludes (map (related scope) names)

abbrev pub relations_in : Decl → List NamedRelation
relations_in (Input names) = []
relations_in (InputOutput names) = []
relations_in (Output names) = []
relations_in (Relations relations) = relations

-- around the body of the main module
abbrev pub around_main : Module → Around
around_main main = record { scope = main_scope (main_interface main); traps = []; chain = main.name.text ∷ [] }

-- Its body is in no statement. A statement may be in as many as the limit on depths says, so a chain of them may
-- have one more.
abbrev pub main_flattening : SourceProgram → Module → FlatWalk flat.Stmt
main_flattening modules main =
    flattening modules (length (main_interface main).inputs) (DEPTH + 1) (around_main main) main.body

-- its signals are counted before its body
abbrev pub main_walk : SourceProgram → Module → FlatWalk flat.Stmt
main_walk modules main =
    after (meet_signals (main_signals (main_interface main))) (λ _. main_flattening modules main)

-- the flat program of what the walk gives
abbrev pub flat_program : Module → flat.Stmt → WalkCounts → flat.Flat
flat_program main body met = record {
  name = main.name.text;
  signals = met.signals;
  inputs = length (main_interface main).inputs;
  both = length (main_interface main).both;
  outputs = length (main_interface main).outputs;
  relations = map (relation_in (main_scope (main_interface main))) (flat_map relations_in main.decls);
  body = body;
}

-- the flat form of a program with this main module
abbrev pub flattened : SourceProgram → Module → Result flat.Flat FlattenFault
flattened modules main = on_ok (main_walk modules main beginning) (λ done. Ok (flat_program main done.0 done.1))
