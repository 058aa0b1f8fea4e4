-- To believe: which kernel program the bytes of a source stand for.
use Rattle.std.specs.Prelude.{◌≡◌, ℕ, List, [], Option, Some, slice_get, option_and_then, Ok}
use Rattle.base_types.specs.declared.bounds.TheConstants.Limits.{NESTING}
use Rattle.est_ast.specs.declared.tokens.Token.{Token}
use Rattle.est_ast.specs.Lexing.{LexesAs, Tokens}
use Rattle.est_ast.specs.Nesting.{IsProgram}
use Rattle.est_ast.specs.Trees as source
use Rattle.est_ast.specs.FlatTrees.{Flat}
use Rattle.est_kernel.specs.Plain.{Program}
use Rattle.est_kernel.specs.StaticCodes.{NoInstantLoop}
use Rattle.est_names.specs.NameFaults.{module_names, main_place, name_faults}
use Rattle.est_expand.specs.Flattening.{flattened}
use Rattle.est_dismantle.specs.Expansions.{Expanded, expansion}

-- The bytes are cut into tokens, and these spell the tree, which is nested at most so deep as a source may be.
pub record SourceReadsAs (text : List ℕ) (tree : source.SourceProgram) : Type 0 where
  pub tokens : List Token
  pub lexes : LexesAs text (Tokens tokens)
  pub spells : IsProgram NESTING tree tokens

-- the main module: the one of this name, or the first where no name is given
abbrev pub main_module : Option (List ℕ) → source.SourceProgram → Option source.Module
main_module main tree = option_and_then (λ place. slice_get tree place) (main_place main (module_names tree))

-- The names of the tree are declared as they may be.
pub record Declares (text : List ℕ) (main : Option (List ℕ)) (tree : source.SourceProgram) : Type 0 where
  pub reads : SourceReadsAs text tree
  pub names : name_faults main tree ≡ []

-- Each `run` is replaced by the body of its module, and this is the flat program.
pub record Flattens (text : List ℕ) (main : Option (List ℕ)) (flat : Flat) : Type 0 where
  pub tree : source.SourceProgram
  pub declares : Declares text main tree
  pub main_one : source.Module
  pub is_main : main_module main tree ≡ Some main_one
  pub flat_form : flattened tree main_one ≡ Ok flat

-- Each statement is expanded into kernel statements, and this is the program of them.
pub record Expands (text : List ℕ) (main : Option (List ℕ)) (p : Program) : Type 0 where
  pub flat : Flat
  pub flattens : Flattens text main flat
  pub expands : expansion flat ≡ Expanded p

-- The bytes stand for this kernel program: it is their expansion, and none of its loops is instantaneous. A loop is so
-- where its body can terminate in the instant in which it starts.
pub record StandsFor (text : List ℕ) (main : Option (List ℕ)) (p : Program) : Type 0 where
  pub expands : Expands text main p
  pub no_instant_loop : NoInstantLoop p.body
