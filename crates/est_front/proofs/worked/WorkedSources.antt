-- Which module is the main one, by hand, and what is asked of a source and of each refusal, field by field and row by row.
use Rattle.std.proofs.Common.{◌≡◌, ◌⊎◌, ℕ, List, [], ◌∷◌, None, Some, Option, Ok, Err, codes, refl}
use Rattle.base_types.specs.declared.place.Span.{Span}
use Rattle.est_ast.specs.Lexing.{LexesAs, Tokens}
use Rattle.est_ast.specs.Lexing as lexing
use Rattle.est_ast.specs.Nesting.{IsProgram}
use Rattle.est_ast.specs.Trees.{At, Nothing, Module, SourceProgram}
use Rattle.est_ast.specs.FlatTrees.{Flat}
use Rattle.est_dismantle.specs.Expansions.{Expanded, expansion}
use Rattle.est_dismantle.specs.Expansions as expansions
use Rattle.est_expand.specs.Faults as flattening
use Rattle.est_expand.specs.Flattening.{flattened}
use Rattle.est_expand.specs.declared.refusal.ScopeFault.TheVariants as scopes
use Rattle.est_kernel.specs.Plain as kernel
use Rattle.est_kernel.specs.StaticCodes.{NoInstantLoop, instant_loops}
use Rattle.est_codes.specs.Faults.{IsLeastSpan}
use Rattle.est_names.specs.NameFaults.{IsFirst, name_faults}
use Rattle.est_names.specs.declared.refusal.NameFault.TheVariants as naming
use Rattle.est_parse.specs.Faults.{IsFirstFault}
use Rattle.est_parse.specs.declared.refusal.ParseError.TheVariants as parsing
use Rattle.est_front.specs.Refusals.{HasFault, IsSourceRefused, Unexpanded, Unflattened, token_place}
use Rattle.est_front.specs.Sources.{SourceReadsAs, Declares, Flattens, Expands, StandsFor, main_module}
use Rattle.est_front.specs.declared.refusal.Fault.TheVariants as faults
use Rattle.est_front.specs.declared.refusal.Quantity.TheVariants as quantities
use Rattle.est_front.specs.declared.refusal.SourceRefusal.TheVariants.{Limit, NoMemory}

-- ---- the main module

abbrev span : Span
span = record { start = 0; end = 1 }

abbrev one : List ℕ → Module
one name = record { name = record { text = name; span = span }; decls = []; body = At span Nothing }

abbrev tree : SourceProgram
tree = one (codes "A") ∷ one (codes "B") ∷ one (codes "C") ∷ []

main_modules : main_module None tree ∷ main_module (Some (codes "B")) tree ∷ main_module (Some (codes "D")) tree ∷ main_module None [] ∷ []
    ≡ Some (one (codes "A")) ∷ Some (one (codes "B")) ∷ None ∷ None ∷ []
main_modules = refl

-- ---- what a source stands for

its_tree : (text : List ℕ) (tree : SourceProgram) (h : SourceReadsAs text tree) → LexesAs text (Tokens h.tokens) × IsProgram 200 tree h.tokens
its_tree text tree h = (h.lexes, h.spells)

its_names : (text : List ℕ) (main : Option (List ℕ)) (tree : SourceProgram) → Declares text main tree → SourceReadsAs text tree × (name_faults main tree ≡ [])
its_names text main tree h = (h.reads, h.names)

its_flat_form : (text : List ℕ) (main : Option (List ℕ)) (flat : Flat) (h : Flattens text main flat)
    → Declares text main h.tree × (main_module main h.tree ≡ Some h.main_one) × (flattened h.tree h.main_one ≡ Ok flat)
its_flat_form text main flat h = (h.declares, h.is_main, h.flat_form)

its_expansion : (text : List ℕ) (main : Option (List ℕ)) (p : kernel.Program) (h : Expands text main p)
    → Flattens text main h.flat × (expansion h.flat ≡ Expanded p)
its_expansion text main p h = (h.flattens, h.expands)

its_loops : (text : List ℕ) (main : Option (List ℕ)) (p : kernel.Program) → StandsFor text main p → Expands text main p × NoInstantLoop p.body
its_loops text main p h = (h.expands, h.no_instant_loop)

-- ---- faults

of_tokens : (text : List ℕ) (main : Option (List ℕ)) (place : ℕ) → (HasFault text main (faults.BadByte place) → LexesAs text (lexing.BadByte place))
    × (HasFault text main (faults.OpenComment place) → LexesAs text (lexing.OpenComment place))
    × (HasFault text main (faults.BigNumber place) → LexesAs text (lexing.BigNumber place))
of_tokens text main place = (λ h. h, λ h. h, λ h. h)

of_the_tree : (text : List ℕ) (main : Option (List ℕ)) (token place : ℕ) (h : HasFault text main (faults.Syntax token place))
    → LexesAs text (Tokens h.0.tokens) × IsFirstFault 200 h.0.tokens (parsing.Syntax token) × (place ≡ token_place text h.0.tokens token)
of_the_tree text main token place h = (h.0.lexes, h.0.first, h.1)

of_names : (text : List ℕ) (main : Option (List ℕ)) (h : HasFault text main (faults.Name naming.NoMain))
    → SourceReadsAs text h.tree × IsFirst (name_faults main h.tree) naming.NoMain
of_names text main h = (h.reads, h.first)

of_the_walk : (text : List ℕ) (main : Option (List ℕ)) (place : Span) → HasFault text main (faults.Scope (scopes.UnknownSignal place))
    → Unflattened text main (flattening.UnknownSignal place)
of_the_walk text main place h = h

where_the_walk_ends : (text : List ℕ) (main : Option (List ℕ)) (fault : flattening.FlattenFault) (h : Unflattened text main fault)
    → Declares text main h.tree × (main_module main h.tree ≡ Some h.main_one) × (flattened h.tree h.main_one ≡ Err fault)
where_the_walk_ends text main fault h = (h.declares, h.is_main, h.ends)

of_counts : (text : List ℕ) (main : Option (List ℕ)) (place : Span) (h : HasFault text main (faults.BadCount place))
    → Flattens text main h.flat × (expansion h.flat ≡ expansions.BadCount place)
of_counts text main place h = (h.flattens, h.ends)

of_loops : (text : List ℕ) (main : Option (List ℕ)) (place : Span) (h : HasFault text main (faults.InstantLoop place))
    → Expands text main h.program × IsLeastSpan (Some place) (instant_loops h.program.body)
of_loops text main place h = (h.expands, h.least)

-- ---- limits

of_nesting : (text : List ℕ) (main : Option (List ℕ)) (h : IsSourceRefused text main (Limit quantities.Nesting))
    → LexesAs text (Tokens h.1.tokens) × IsFirstFault 200 h.1.tokens (parsing.TooNested h.0)
of_nesting text main h = (h.1.lexes, h.1.first)

of_quantities : (text : List ℕ) (main : Option (List ℕ))
    → (IsSourceRefused text main (Limit quantities.Statements) → Unflattened text main flattening.TooManyStatements)
    × (IsSourceRefused text main (Limit quantities.Signals) → Unflattened text main flattening.TooManySignals)
    × (IsSourceRefused text main (Limit quantities.Height) → Unflattened text main flattening.TooDeep ⊎ Unexpanded text main expansions.TooHigh)
    × (IsSourceRefused text main (Limit quantities.Kernel) → Unexpanded text main expansions.TooLarge)
    × (IsSourceRefused text main (Limit quantities.Traps) → Unexpanded text main expansions.TooManyTraps)
of_quantities text main = (λ h. h, λ h. h, λ h. h, λ h. h, λ h. h)

want_of_memory_has_no_cause : IsSourceRefused [] None NoMemory
want_of_memory_has_no_cause = tt
