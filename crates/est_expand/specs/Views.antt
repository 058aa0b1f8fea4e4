-- Inner: the plain forms of what the walk keeps.
use Rattle.std.specs.Prelude.{ℕ, ◌+◌, ◌≤◌, length, map, Result}
use Rattle.base_types.specs.declared.bounds.TheConstants.Limits.{DEPTH}
use Rattle.base_types.specs.declared.place.Span.{Span}
use Rattle.est_ast.specs.FlatTrees as flat
use Rattle.est_ast.specs.Trees.{Expr, Stmt, Form, Part, SourceProgram}
use Rattle.est_ast.specs.Views.{module_of}
use Rattle.est_expand.specs.declared.interface.Formal.{Formal as CodeFormal}
use Rattle.est_expand.specs.declared.interface.Interface.{Interface as CodeInterface}
use Rattle.est_expand.specs.declared.met.Met.{Met as CodeMet}
use Rattle.est_expand.specs.declared.place.Around.{Around as CodeAround}
use Rattle.est_expand.specs.declared.place.Site.{Site}
use Rattle.est_expand.specs.declared.place.Source.{Source}
use Rattle.est_expand.specs.declared.refusal.ExpandFault.{ExpandFault}
use Rattle.est_expand.specs.Answers.{AnswersAsDefined}
use Rattle.est_expand.specs.Scopes.{NameScope, Formal, ModuleInterface}
use Rattle.est_expand.specs.Walks.{WalkCounts, FlatWalk, give, after, knowing}
use Rattle.est_expand.specs.Tests.{test}
use Rattle.est_expand.specs.Flattening.{Around, part, row, flattening}

abbrev pub met_of : CodeMet → WalkCounts
met_of met = record {
  statements = met.statements;
  signals = map (λ s. s.name) met.signals.items;
  added = met.added;
}

abbrev pub interface_of : CodeInterface → ModuleInterface
interface_of shown = record {
  inputs = map (λ name. name.now) shown.inputs.items;
  both = map (λ name. name.now) shown.both.items;
  outputs = map (λ name. name.now) shown.outputs.items;
}

abbrev pub around_of : CodeAround → Around
around_of around = record { scope = around.scope; traps = around.traps; chain = around.chain }

-- the traps around a place and the statements that may still are in one another there are within the limit on depths
abbrev pub TrapsFit : CodeAround → ℕ → Type 0
TrapsFit around room = length around.traps + room ≤ DEPTH + 1

abbrev pub program_in : Source → SourceProgram
program_in source = map module_of source.modules.now

-- what a statement is, where a program is walked
abbrev pub inside_of : Source → Around → Stmt → FlatWalk flat.Stmt
inside_of source = flattening (program_in source) source.inputs source.room

-- what a statement is that has been counted
abbrev pub form_walk : Source → Around → Span → Form → FlatWalk flat.Stmt
form_walk source = row (program_in source) source.inputs (inside_of source)

-- what a statement is that is walked and has been counted
abbrev pub site_walk : Site → Around → Form → FlatWalk flat.Stmt
site_walk site around = form_walk site.source around site.span

-- one case, where it is known what a statement in it is
abbrev pub one_case : NameScope → (Stmt → FlatWalk flat.Stmt) → Expr × Part → FlatWalk (flat.Expr × flat.Part)
one_case scope inside c =
    knowing (test scope c.0) (λ event. after (part inside c.1) (λ body. give (event, body)))

abbrev pub formal_of : CodeFormal → Formal
formal_of formal = record { name = formal.name.now; input = formal.input }

-- a call answers what a walk does from what was met before
abbrev pub Walks : {A B : Type 0} → (A → B) → Result A ExpandFault → CodeMet → CodeMet → FlatWalk B → Type 0
Walks view result old new walk = AnswersAsDefined (λ value. (view value, met_of new)) result (walk (met_of old))

-- a call answers what a walk does that meets nothing, whatever was met before
abbrev pub Gives : {A B : Type 0} → (A → B) → Result A ExpandFault → FlatWalk B → Type 0
Gives view result walk = (met : WalkCounts) → AnswersAsDefined (λ value. (view value, met)) result (walk met)
