-- A text stands for one kernel program at most.
use Rattle.std.proofs.Common.{◌≡◌, ℕ, List, [], Option, Some, Result, Ok, Err, refl, sym, ◌∙◌, ap, subst}
use Rattle.base_types.specs.declared.bounds.TheConstants.Limits.{NESTING}
use Rattle.est_ast.specs.declared.tokens.Token.{Token}
use Rattle.est_ast.specs.Lexing.{Lexing, Tokens, BadByte, OpenComment, BigNumber}
use Rattle.est_ast.specs.Nesting.{IsProgram}
use Rattle.est_ast.specs.Trees as source
use Rattle.est_ast.specs.FlatTrees.{Flat}
use Rattle.est_ast.proofs.Exports.{at_most_one}
use Rattle.base_reader.specs.declared.faults.Fault.{Fault}
use Rattle.base_reader.specs.Exact.{Exactly}
use Rattle.base_reader.specs.Readings.{whole}
use Rattle.est_parse.specs.Reading.{program}
use Rattle.est_parse.proofs.Exports.{program-exact}
use Rattle.est_kernel.specs.Plain.{Program}
use Rattle.est_expand.specs.Flattening.{flattened}
use Rattle.est_expand.specs.Faults as flattening
use Rattle.est_dismantle.specs.Expansions.{Expanded, expansion}
use Rattle.est_front.specs.Sources.{SourceReadsAs, main_module, Flattens, StandsFor}

abbrev tokens_of : Lexing → List Token
tokens_of (Tokens tokens) = tokens
tokens_of (BadByte place) = []
tokens_of (OpenComment place) = []
tokens_of (BigNumber place) = []

abbrev flat_or : Result Flat flattening.FlattenFault → Flat → Flat
flat_or (Ok flat) other = flat
flat_or (Err fault) other = other

-- tokens spell one tree
one_spelled : (tokens : List Token) (one other : source.SourceProgram) → IsProgram NESTING one tokens → IsProgram NESTING other tokens → one ≡ other
one_spelled tokens one other first second = go (whole (program NESTING) tokens) (program-exact NESTING tokens)
  where
    go : (answer : Result source.SourceProgram Fault) → Exactly IsProgram NESTING tokens answer → one ≡ other
    go (Ok tree) exact = exact.only one first ∙ sym (exact.only other second)
    go (Err fault) exact = absurd (exact.stuck one exact.rest refl (subst (λ ts. IsProgram NESTING one ts) exact.cut first))

-- a text has one tree
pub one_tree : (text : List ℕ) (one other : source.SourceProgram) → SourceReadsAs text one → SourceReadsAs text other → one ≡ other
one_tree text one other first second =
    let same = ap tokens_of (at_most_one text (Tokens first.tokens) (Tokens second.tokens) first.lexes second.lexes) in
    one_spelled second.tokens one other (subst (λ ts. IsProgram NESTING one ts) same first.spells) second.spells

pub one_flat : (text : List ℕ) (main : Option (List ℕ)) (one other : Flat) → Flattens text main one → Flattens text main other → one ≡ other
one_flat text main one other first second =
    let tree = one_tree text first.tree second.tree first.declares.reads second.declares.reads in
    let module_is = some_same (sym first.is_main ∙ (ap (main_module main) tree ∙ second.is_main)) in
    let same = sym first.flat_form ∙ (ap (λ t. flattened t first.main_one) tree ∙ (ap (flattened second.tree) module_is ∙ second.flat_form)) in
    ap (λ answer. flat_or answer one) same
  where
    some_same : {a b : source.Module} → Some a ≡ Some b → a ≡ b
    some_same is = cc

pub one_program : (text : List ℕ) (main : Option (List ℕ)) (one other : Program) → StandsFor text main one → StandsFor text main other → one ≡ other
one_program text main one other first second =
    let flat = one_flat text main first.expands.flat second.expands.flat first.expands.flattens second.expands.flattens in
    expanded_same (sym first.expands.expands ∙ (ap expansion flat ∙ second.expands.expands))
  where
    expanded_same : {a b : Program} → Expanded a ≡ Expanded b → a ≡ b
    expanded_same is = cc
