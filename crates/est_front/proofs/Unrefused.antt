-- A text that stands for a program has none of the faults for which a text is refused.
use Rattle.std.proofs.Common.{◌≡◌, ℕ, List, [], ◌∷◌, Option, Some, refl, sym, ◌∙◌, ap, subst, arith, ⊎_elim}
use Rattle.std.specs.Prelude.{Contains}
use Rattle.base_types.specs.declared.bounds.TheConstants.Limits.{NESTING}
use Rattle.base_types.specs.declared.place.Span.{Span}
use Rattle.est_ast.specs.declared.tokens.Token.{Token}
use Rattle.est_ast.specs.Lexing.{Lexing, LexesAs, Tokens}
use Rattle.est_ast.specs.Lexing as lexing
use Rattle.est_ast.specs.Nesting.{IsProgram}
use Rattle.est_ast.specs.Trees as source
use Rattle.est_ast.specs.FlatTrees.{Flat}
use Rattle.est_ast.proofs.Exports.{at_most_one}
use Rattle.base_reader.specs.declared.faults.Fault as reading
use Rattle.base_reader.specs.Exact.{IsLeastPlace}
use Rattle.est_parse.specs.declared.refusal.ParseError.TheVariants as parsing
use Rattle.est_names.specs.NameFaults.{first, name_faults}
use Rattle.est_names.specs.declared.refusal.NameFault.{NameFault}
use Rattle.est_expand.specs.Answers.{scope_fault}
use Rattle.est_expand.specs.Faults as flattening
use Rattle.est_expand.specs.Flattening.{flattened}
use Rattle.est_kernel.specs.Plain.{Program}
use Rattle.est_kernel.specs.StaticCodes.{instant_loops}
use Rattle.est_codes.specs.Faults.{IsLeastSpan}
use Rattle.est_dismantle.specs.Expansions.{expansion}
use Rattle.est_dismantle.specs.Expansions as expansions
use Rattle.est_front.specs.declared.refusal.Fault.{Fault}
use Rattle.est_front.specs.declared.refusal.Fault.TheVariants as faults
use Rattle.est_front.specs.declared.refusal.Quantity.TheVariants as quantities
use Rattle.est_front.specs.declared.refusal.SourceRefusal.{SourceRefusal}
use Rattle.est_front.specs.declared.refusal.SourceRefusal.TheVariants.{Static, Limit, NoMemory}
use Rattle.est_front.specs.Sources.{SourceReadsAs, Declares, Flattens, Expands, StandsFor, main_module}
use Rattle.est_front.specs.Refusals.{Misspells, Misnames, Unflattened, Unexpanded, LoopsAtOnce, HasFault, IsSourceRefused}
use Rattle.est_front.proofs.OneProgram.{one_tree, one_flat}

-- ---- tokens and trees

-- tokens that spell a program have no place that no program passes
no_place : (tokens : List Token) (tree : source.SourceProgram) (fault : reading.Fault) → IsProgram NESTING tree tokens
    → IsLeastPlace IsProgram NESTING tokens fault → ⊥
no_place tokens tree fault spells least = least.stuck tree least.rest refl (subst (λ ts. IsProgram NESTING tree ts) least.cut spells)

-- a text that is read has tokens, and these alone
has_tokens : (text : List ℕ) (tree : source.SourceProgram) (other : Lexing) (r : SourceReadsAs text tree) → LexesAs text other → Tokens r.tokens ≡ other
has_tokens text tree other r lexes = at_most_one text (Tokens r.tokens) other r.lexes lexes

pub no_bad_byte : (text : List ℕ) (tree : source.SourceProgram) (place : ℕ) → SourceReadsAs text tree → LexesAs text (lexing.BadByte place) → ⊥
no_bad_byte text tree place r lexes =
    let same = has_tokens text tree (lexing.BadByte place) r lexes in
    cc

pub no_open_comment : (text : List ℕ) (tree : source.SourceProgram) (place : ℕ) → SourceReadsAs text tree → LexesAs text (lexing.OpenComment place) → ⊥
no_open_comment text tree place r lexes =
    let same = has_tokens text tree (lexing.OpenComment place) r lexes in
    cc

pub no_big_number : (text : List ℕ) (tree : source.SourceProgram) (place : ℕ) → SourceReadsAs text tree → LexesAs text (lexing.BigNumber place) → ⊥
no_big_number text tree place r lexes =
    let same = has_tokens text tree (lexing.BigNumber place) r lexes in
    cc

-- the tokens of a text that is read have no such place
all_pass : (text : List ℕ) (tree : source.SourceProgram) (tokens : List Token) (fault : reading.Fault) → SourceReadsAs text tree → LexesAs text (Tokens tokens)
    → IsLeastPlace IsProgram NESTING tokens fault → ⊥
all_pass text tree tokens fault r lexes least =
    let same : r.tokens ≡ tokens = tokens_same (has_tokens text tree (Tokens tokens) r lexes) in
    no_place tokens tree fault (subst (λ ts. IsProgram NESTING tree ts) same r.spells) least
  where
    tokens_same : {a b : List Token} → Tokens a ≡ Tokens b → a ≡ b
    tokens_same is = cc

pub no_syntax : (text : List ℕ) (tree : source.SourceProgram) (token : ℕ) → SourceReadsAs text tree → Misspells text (parsing.Syntax token) → ⊥
no_syntax text tree token r m = all_pass text tree m.tokens m.first.0 r m.lexes m.first.2

pub no_nesting : (text : List ℕ) (tree : source.SourceProgram) (token : ℕ) → SourceReadsAs text tree → Misspells text (parsing.TooNested token) → ⊥
no_nesting text tree token r m = all_pass text tree m.tokens m.first.0 r m.lexes m.first.2

-- ---- names

none_first : (all : List NameFault) (fault : NameFault) → all ≡ [] → first all ≡ Some fault → ⊥
none_first [] fault empty is = cc
none_first (f ∷ fs) fault empty is = cc

pub no_name_fault : (text : List ℕ) (main : Option (List ℕ)) (tree : source.SourceProgram) (fault : NameFault) → Declares text main tree
    → Misnames text main fault → ⊥
no_name_fault text main tree fault d m =
    none_first (name_faults main m.tree) fault (subst (λ t. name_faults main t ≡ []) (one_tree text tree m.tree d.reads m.reads) d.names) m.first

-- ---- the flat form

pub no_unflattened : (text : List ℕ) (main : Option (List ℕ)) (flat : Flat) (fault : flattening.FlattenFault)
    → Flattens text main flat → Unflattened text main fault → ⊥
no_unflattened text main flat fault f u =
    let tree = one_tree text f.tree u.tree f.declares.reads u.declares.reads in
    let module_is = some_same (sym f.is_main ∙ (ap (main_module main) tree ∙ u.is_main)) in
    let same = sym f.flat_form ∙ (ap (λ t. flattened t f.main_one) tree ∙ (ap (flattened u.tree) module_is ∙ u.ends)) in
    cc
  where
    some_same : {a b : source.Module} → Some a ≡ Some b → a ≡ b
    some_same is = cc

-- ---- the kernel program

-- the expansion of a text is its only one
one_expansion : (text : List ℕ) (main : Option (List ℕ)) (p : Program) (answer : expansions.Expansion) → Expands text main p → Unexpanded text main answer
    → expansions.Expanded p ≡ answer
one_expansion text main p answer e u = sym e.expands ∙ (ap expansion (one_flat text main e.flat u.flat e.flattens u.flattens) ∙ u.ends)

pub no_bad_count : (text : List ℕ) (main : Option (List ℕ)) (p : Program) (place : Span) → Expands text main p
    → Unexpanded text main (expansions.BadCount place) → ⊥
no_bad_count text main p place e u =
    let same = one_expansion text main p (expansions.BadCount place) e u in
    cc

pub not_too_large : (text : List ℕ) (main : Option (List ℕ)) (p : Program) → Expands text main p → Unexpanded text main expansions.TooLarge → ⊥
not_too_large text main p e u =
    let same = one_expansion text main p expansions.TooLarge e u in
    cc

pub not_too_high : (text : List ℕ) (main : Option (List ℕ)) (p : Program) → Expands text main p → Unexpanded text main expansions.TooHigh → ⊥
not_too_high text main p e u =
    let same = one_expansion text main p expansions.TooHigh e u in
    cc

pub few_traps : (text : List ℕ) (main : Option (List ℕ)) (p : Program) → Expands text main p → Unexpanded text main expansions.TooManyTraps → ⊥
few_traps text main p e u =
    let same = one_expansion text main p expansions.TooManyTraps e u in
    cc

none_least : (places : List Span) (place : Span) → places ≡ [] → IsLeastSpan (Some place) places → ⊥
none_least places place empty least = absurd (none_in_empty (subst (λ ps. Contains ps place) empty least.0))
  where
    none_in_empty : Contains [] place → ⊥
    none_in_empty c = absurd (omega (arith, c.1))

no_loop : (text : List ℕ) (main : Option (List ℕ)) (p : Program) (place : Span) → StandsFor text main p → LoopsAtOnce text main place → ⊥
no_loop text main p place s l =
    let flat = one_flat text main s.expands.flat l.expands.flat s.expands.flattens l.expands.flattens in
    let same : p ≡ l.program = expanded_same (sym s.expands.expands ∙ (ap expansion flat ∙ l.expands.expands)) in
    none_least (instant_loops l.program.body) place (subst (λ q. instant_loops q.body ≡ []) same s.no_instant_loop) l.least
  where
    expanded_same : {a b : Program} → expansions.Expanded a ≡ expansions.Expanded b → a ≡ b
    expanded_same is = cc

-- ---- refusals

pub no_fault : (text : List ℕ) (main : Option (List ℕ)) (p : Program) (fault : Fault) → StandsFor text main p → HasFault text main fault → ⊥
no_fault text main p (faults.BadByte place) s h = no_bad_byte text s.expands.flattens.tree place s.expands.flattens.declares.reads h
no_fault text main p (faults.OpenComment place) s h = no_open_comment text s.expands.flattens.tree place s.expands.flattens.declares.reads h
no_fault text main p (faults.BigNumber place) s h = no_big_number text s.expands.flattens.tree place s.expands.flattens.declares.reads h
no_fault text main p (faults.Syntax token place) s h = no_syntax text s.expands.flattens.tree token s.expands.flattens.declares.reads h.0
no_fault text main p (faults.Name fault) s h = no_name_fault text main s.expands.flattens.tree fault s.expands.flattens.declares h
no_fault text main p (faults.Scope fault) s h = no_unflattened text main s.expands.flat (scope_fault fault) s.expands.flattens h
no_fault text main p (faults.BadCount place) s h = no_bad_count text main p place s.expands h
no_fault text main p (faults.InstantLoop place) s h = no_loop text main p place s h

-- a text that stands for a program is refused for want of memory alone
pub unrefused : (text : List ℕ) (main : Option (List ℕ)) (p : Program) (refusal : SourceRefusal) → StandsFor text main p → IsSourceRefused text main refusal
    → refusal ≡ NoMemory
unrefused text main p (Static fault) s r = absurd (no_fault text main p fault s r)
unrefused text main p (Limit quantities.Nesting) s r = absurd (no_nesting text s.expands.flattens.tree r.0 s.expands.flattens.declares.reads r.1)
unrefused text main p (Limit quantities.Statements) s r =
    absurd (no_unflattened text main s.expands.flat flattening.TooManyStatements s.expands.flattens r)
unrefused text main p (Limit quantities.Signals) s r = absurd (no_unflattened text main s.expands.flat flattening.TooManySignals s.expands.flattens r)
unrefused text main p (Limit quantities.Height) s r =
    absurd (⊎_elim (no_unflattened text main s.expands.flat flattening.TooDeep s.expands.flattens) (not_too_high text main p s.expands) r)
unrefused text main p (Limit quantities.Kernel) s r = absurd (not_too_large text main p s.expands r)
unrefused text main p (Limit quantities.Traps) s r = absurd (few_traps text main p s.expands r)
unrefused text main p NoMemory s r = refl
