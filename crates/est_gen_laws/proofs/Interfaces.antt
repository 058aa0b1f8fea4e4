-- The interface of the program that a generated source stands for.
use Rattle.std.proofs.Common.{◌≡◌, ℕ, ◌+◌, ◌<◌, Bool, true, false, cond, List, [], ◌∷◌, ◌++◌, length, map, drop, Option, Some, None, Result, Ok, Err, codes}
use Rattle.std.proofs.Common.{refl, sym, ap, ◌∙◌, subst, nat_lt, flat_map}
use Rattle.std.proofs.lemmas.List.{append-nil, length-map, map-append}
use Rattle.std.specs.Fmt.{digits}
use Rattle.std.specs.List.{concat}
use Rattle.base_types.specs.declared.bounds.TheConstants.Limits.{NESTING, KERNEL_NODES, KERNEL_HEIGHT, TRAPS}
use Rattle.base_types.specs.declared.place.Span.{Span}
use Rattle.base_types.specs.Draws.{first_state}
use Rattle.est_gen.specs.Sources.{names_from, branches_text, source_text}
use Rattle.est_ast.specs.declared.tokens.Kind.{Kind}
use Rattle.est_ast.specs.declared.tokens.Kind.TheVariants as kinds
use Rattle.est_ast.specs.declared.tokens.Token.{Token}
use Rattle.est_ast.specs.declared.tokens.Reserved.TheVariants as words
use Rattle.est_ast.specs.declared.tokens.Mark.TheVariants as marks
use Rattle.est_ast.specs.declared.trees.Name.{Name}
use Rattle.est_ast.specs.FlatTrees as flat
use Rattle.est_ast.specs.Grammar.{SpellsProgram}
use Rattle.est_ast.specs.Trees.{Decl, Input, Output, Module, SourceProgram}
use Rattle.est_ast.specs.Lexing.{LexesAs, Tokens}
use Rattle.est_kernel.specs.Terms.{Term}
use Rattle.est_kernel.specs.Plain as kernel
use Rattle.est_kernel.specs.Sizes.{size_of, height_of, trap_depth}
use Rattle.est_names.specs.NameFaults.{module_names, main_place}
use Rattle.est_expand.specs.Flattening.{main_walk, flat_program, flattened, relation_in, relations_in}
use Rattle.est_expand.specs.Faults.{FlattenFault}
use Rattle.est_expand.specs.Scopes.{main_scope, main_interface, inputs_in, both_in, outputs_in}
use Rattle.est_expand.specs.Walks.{WalkCounts, beginning, on_ok}
use Rattle.est_dismantle.specs.Counts.{bad_in}
use Rattle.est_dismantle.specs.Expansions.{Expanded, TooLarge, TooHigh, TooManyTraps, kernel_body, program_in, limited, counted, expansion}
use Rattle.est_front.specs.Sources.{SourceReadsAs, main_module, StandsFor}
use Rattle.est_gen_laws.specs.Laws.{HasDrawnInterface}
use Rattle.est_gen_laws.proofs.Bits.{Bit, Blank, Word, Name as Named, Sign, written, all_fit, kinds_in, kinds_of, tokens-begin}
use Rattle.est_gen_laws.proofs.Heads.{Shows, module-shows, names_ahead, behind_ahead, first_kind}

-- ---- the front of a generated source

-- a name of a letter and a digit
abbrev lettered : ℕ → ℕ → Bit
lettered letter digit = Named (letter ∷ (48 + digit) ∷ [])

abbrev more_bits : ℕ → List ℕ → List Bit
more_bits letter [] = []
more_bits letter (digit ∷ digits) = Sign marks.Comma ∷ Blank 32 ∷ lettered letter digit ∷ more_bits letter digits

abbrev eight_bits : ℕ → List Bit
eight_bits letter = lettered letter 0 ∷ more_bits letter (1 ∷ 2 ∷ 3 ∷ 4 ∷ 5 ∷ 6 ∷ 7 ∷ [])

-- `module GEN:`, the inputs `I0` to `I7`, the outputs `O0` to `O7`, and `signal`
abbrev head_bits : List Bit
head_bits =
    Word words.Module ∷ Blank 32 ∷ Named (codes "GEN") ∷ Sign marks.Colon ∷ Blank 10
    ∷ Word words.Input ∷ Blank 32 ∷ (eight_bits 73 ++ (Sign marks.Semicolon ∷ Blank 10
    ∷ Word words.Output ∷ Blank 32 ∷ (eight_bits 79 ++ (Sign marks.Semicolon ∷ Blank 10
    ∷ Word words.Signal ∷ []))))

-- what stands behind the space behind them
abbrev behind_head : ℕ → ℕ → List ℕ
behind_head start branches =
    concat (names_from (codes "S") 0 branches ∷ codes " in\n" ∷ codes "[\n" ∷ [])
    ++ (branches_text 0 branches (first_state start) ++ codes "]\nend signal\nend module\n")

source-begins : (start branches : ℕ) → source_text start branches ≡ written head_bits (32 ∷ behind_head start branches)
unfolding digits
source-begins start branches = refl

head-fits : (behind : List ℕ) → all_fit head_bits (32 ∷ behind) ≡ true
head-fits behind = refl

-- ---- the tree

spelt-shows : (m : Module) (others : SourceProgram) (tokens : List Token) (more : List Kind) →
    kinds_of tokens ≡ kinds_in head_bits ++ more → SpellsProgram (m ∷ others) tokens → Shows m 8 8
spelt-shows m others tokens more is spelt =
    let rest = kinds_of spelt.back in
    let whole : kinds_of spelt.front ++ rest ≡ kinds_in head_bits ++ more = sym (map-append (λ (t : Token). t.kind) spelt.front spelt.back)
    ∙ sym (ap kinds_of spelt.cut) ∙ is in
    module-shows m spelt.front rest (drop 3 (kinds_in head_bits ++ more)) spelt.first (ap (drop 3) whole) refl refl refl

main-first : (tree : SourceProgram) (main : Module) → main_module None tree ≡ Some main → (others : SourceProgram) × (tree ≡ main ∷ others)
main-first [] main is = cc
main-first (m ∷ others) main is = (others, cc)

-- the main module of such a source
main-shows : (start branches : ℕ) (tree : SourceProgram) (main : Module) → SourceReadsAs (source_text start branches) tree →
    main_module None tree ≡ Some main → Shows main 8 8
main-shows start branches tree main reads is =
    let first = main-first tree main is in
    let lexes = subst (λ text. LexesAs text (Tokens reads.tokens)) (source-begins start branches) reads.lexes in
    let begins = tokens-begin head_bits (32 ∷ behind_head start branches) reads.tokens (head-fits (behind_head start branches)) lexes in
    spelt-shows main first.0 reads.tokens begins.0 begins.1 (subst (λ t. SpellsProgram t reads.tokens) first.1 reads.spells.0)

-- ---- the flat program, and the kernel program

record IsDrawnFlat (f : flat.Flat) : Type 0 where
  inputs : f.inputs ≡ 8
  both : f.both ≡ 0
  outputs : f.outputs ≡ 8
  relations : f.relations ≡ []

named-counted : (names : List Name) → length (map (λ n. n.text) names ++ []) ≡ length names
named-counted names = ap length (append-nil (map (λ n. n.text) names)) ∙ length-map names (λ n. n.text)

flat-shown : (main : Module) (body : flat.Stmt) (met : WalkCounts) → Shows main 8 8 → IsDrawnFlat (flat_program main body met)
flat-shown main body met shows = record {
  inputs = ap (λ l. length (flat_map inputs_in l)) shows.decls ∙ named-counted shows.in_names ∙ shows.in_counted;
  both = ap (λ l. length (flat_map both_in l)) shows.decls;
  outputs = ap (λ l. length (flat_map outputs_in l)) shows.decls ∙ named-counted shows.out_names ∙ shows.out_counted;
  relations = ap (λ l. map (relation_in (main_scope (main_interface main))) (flat_map relations_in l)) shows.decls;
}

same-flat : (a : flat.Flat) (r : Result flat.Flat FlattenFault) (b : flat.Flat) → r ≡ Ok a → r ≡ Ok b → a ≡ b
same-flat a r b x y = cc

flattened-shown : (tree : SourceProgram) (main : Module) (f : flat.Flat) → Shows main 8 8 → flattened tree main ≡ Ok f → IsDrawnFlat f
flattened-shown tree main f shows is = go (main_walk tree main beginning) is
  where
    go : (walked : Result (flat.Stmt × WalkCounts) FlattenFault) → on_ok walked (λ done. Ok (flat_program main done.0 done.1)) ≡ Ok f → IsDrawnFlat f
    go (Ok done) is = subst IsDrawnFlat (same-flat (flat_program main done.0 done.1) (Ok (flat_program main done.0 done.1)) f refl is)
        (flat-shown main done.0 done.1 shows)
    go (Err fault) is = cc

expanded-same : (p q : kernel.Program) → Expanded p ≡ Expanded q → p ≡ q
expanded-same p q is = cc

limited-program : (f : flat.Flat) (body : Term) (p : kernel.Program) → limited f body ≡ Expanded p → program_in f body ≡ p
limited-program f body p is =
    go (nat_lt KERNEL_NODES (size_of body)) (nat_lt KERNEL_HEIGHT (height_of body)) (nat_lt TRAPS (trap_depth body)) is
  where
    go : (a b c : Bool) → cond a TooLarge (cond b TooHigh (cond c TooManyTraps (Expanded (program_in f body)))) ≡ Expanded p → program_in f body ≡ p
    go true b c is = cc
    go false true c is = cc
    go false false true is = cc
    go false false false is = expanded-same (program_in f body) p is

counted-program : (f : flat.Flat) (bad : List Span) (p : kernel.Program) → counted f bad ≡ Expanded p → program_in f (kernel_body f) ≡ p
counted-program f [] p is = limited-program f (kernel_body f) p is
counted-program f (place ∷ places) p is = cc

drawn-program : (f : flat.Flat) (p : kernel.Program) → IsDrawnFlat f → expansion f ≡ Expanded p → HasDrawnInterface p
drawn-program f p drawn is =
    subst HasDrawnInterface (counted-program f (bad_in f.body) p is)
    (record { inputs = drawn.inputs; both = drawn.both; outputs = drawn.outputs; relations = drawn.relations })

pub drawn-interface : (start branches : ℕ) (p : kernel.Program) → StandsFor (source_text start branches) None p → HasDrawnInterface p
drawn-interface start branches p stands =
    let e = stands.expands in
    let f = e.flattens in
    drawn-program e.flat p
    (flattened-shown f.tree f.main_one e.flat (main-shows start branches f.tree f.main_one f.declares.reads f.is_main) f.flat_form) e.expands
