-- To believe: the plain forms of the Rust trees: lists in order, numbers and trees, without capacities and
-- pointers.
use Rattle.std.specs.Prelude.{ℕ, ◌+◌, List, map, take, drop}
use Rattle.std.specs.List.{range_with_len}
use Rattle.est_kernel.specs.declared.signal_tests.Test.{Test}
use Rattle.est_kernel.specs.declared.signal_tests.Test.TheVariants as tests
use Rattle.est_kernel.specs.declared.statements.Kernel.{Kernel}
use Rattle.est_kernel.specs.declared.statements.Kernel.TheVariants as kernels
use Rattle.est_kernel.specs.declared.programs.KernelProgram.{KernelProgram}
use Rattle.est_kernel.specs.Terms.{Expression, Tick, Sig, Not, And, Or, Term, Nothing, Pause, Emit, Exit, Present}
use Rattle.est_kernel.specs.Terms.{Suspend, Seq, Loop, Par, Trap, Local}
use Rattle.base_types.specs.Relations.{Relation, relation_of}

-- a test as a tree
abbrev pub expression_of : Test → Expression
expression_of tests.Tick = Tick
expression_of (tests.Sig s) = Sig s.0
expression_of (tests.Not' _ a) = Not (expression_of a)
expression_of (tests.And' _ a _ b) = And (expression_of a) (expression_of b)
expression_of (tests.Or' _ a _ b) = Or (expression_of a) (expression_of b)

-- a statement as a tree
abbrev pub term_of : Kernel → Term
term_of kernels.Nothing = Nothing
term_of kernels.Pause = Pause
term_of (kernels.Emit s) = Emit s.0
term_of (kernels.Exit k) = Exit k
term_of (kernels.Present' e _ p _ q) = Present (expression_of e) (term_of p) (term_of q)
term_of (kernels.Suspend' e _ p) = Suspend (expression_of e) (term_of p)
term_of (kernels.Seq' _ p _ q) = Seq (term_of p) (term_of q)
term_of (kernels.Loop' at _ p) = Loop at (term_of p)
term_of (kernels.Par' _ p _ q) = Par (term_of p) (term_of q)
term_of (kernels.Trap' _ p) = Trap (term_of p)
term_of (kernels.Local' s _ p) = Local s.0 (term_of p)

-- A kernel program: names are lists of bytes. The signals are numbered in this order: the inputs, the
-- signals that are input and output (`both`), the outputs, each kind as declared, and then the local ones.
pub record Program : Type 0 where
  pub name : List ℕ
  pub signals : List (List ℕ)
  pub inputs : ℕ
  pub both : ℕ
  pub outputs : ℕ
  pub relations : List Relation
  pub body : Term

abbrev pub program_of : KernelProgram → Program
program_of p = record {
  name = p.name;
  signals = map (λ s. s.name) p.signals.items;
  inputs = p.inputs;
  both = p.both;
  outputs = p.outputs;
  relations = map relation_of p.relations.items;
  body = term_of p.body;
}

-- how many signals the environment gives: the inputs and those that are input and output
abbrev pub given_count : Program → ℕ
given_count p = p.inputs + p.both

-- how many signals go out to the environment: those that are input and output, and the outputs
abbrev pub outgoing_count : Program → ℕ
outgoing_count p = p.both + p.outputs

-- how many signals the environment sees
abbrev pub interface_count : Program → ℕ
interface_count p = p.inputs + (p.both + p.outputs)

-- what a reaction must know of a program's signals: how many inputs there are, and the numbers of the
-- outgoing signals, in order
pub record Interface : Type 0 where
  pub inputs : ℕ
  pub outgoing : List ℕ

abbrev pub interface_of : Program → Interface
interface_of p = record { inputs = p.inputs; outgoing = range_with_len p.inputs (outgoing_count p) }

-- the names of the given signals, in order
abbrev pub given_names : Program → List (List ℕ)
given_names p = take (given_count p) p.signals

-- the names of the outgoing signals, in order
abbrev pub outgoing_names : Program → List (List ℕ)
outgoing_names p = take (outgoing_count p) (drop p.inputs p.signals)
