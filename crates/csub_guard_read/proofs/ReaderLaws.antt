-- Inner: what the answer of the reading function says of a text.
use Rattle.std.proofs.Common.{◌≡◌, ℕ, ◌≤◌, List, [], ◌∷◌, length, map, None, Ok, Err, refl, sym, ◌∙◌, ap, subst}
use Rattle.base_types.specs.declared.bounds.TheConstants.Limits.{TEXT_BYTES}
use Rattle.base_types.specs.Stops.{FaultIs}
use Rattle.base_types.specs.declared.stop.Stop.{Stop}
use Rattle.base_types.specs.declared.stop.Stop.TheVariants.{Fault as Refused, NoMemory}
use Rattle.csub_text.specs.Tokens.{Kind}
use Rattle.csub_text.specs.Texts.{nesting_limit}
use Rattle.csub_text.specs.Views.{assign_of}
use Rattle.csub_text.specs.declared.trees.Assign.{Assign as CodeAssign}
use Rattle.csub_read.specs.Reading.{expr_assign, pair_of}
use Rattle.csub_guard.specs.Grammar.{IsText, program_meant}
use Rattle.csub_guard.specs.Names.{name_fault}
use Rattle.csub_guard.specs.Tokens.{kinds}
use Rattle.csub_guard.specs.Trees as trees
use Rattle.csub_guard.specs.Trees.{Program}
use Rattle.csub_guard.specs.Views.{piece_of, program_of}
use Rattle.csub_guard.specs.declared.trees.GuardedProgram.{GuardedProgram}
use Rattle.csub_guard.specs.declared.trees.Piece.{Piece as CodePiece}
use Rattle.csub_guard.specs.declared.trees.Piece.TheVariants as pieces
use Rattle.net_expressions.specs.Spelled.{IsSpelled}
use Rattle.net_expressions.proofs.Exports.{least-meant, spelled-meant}
use Rattle.base_reader.specs.declared.faults.Fault.{Fault}
use Rattle.base_reader.specs.Readings.{whole}
use Rattle.base_reader.specs.Exact.{IsLeastPlace}
use Rattle.csub_guard_read.specs.declared.refusal.GuardedFault.{GuardedFault}
use Rattle.csub_guard_read.specs.declared.refusal.GuardedFault.TheVariants as faults
use Rattle.csub_guard_read.specs.Faults.{ReadsAs, ReadsFault}
use Rattle.csub_guard_read.specs.NameFaults.{SaysFault}
use Rattle.csub_guard_read.specs.Reading.{piece_in, program_in, written_rule, program_rule}
use Rattle.csub_guard_read.specs.Steps.{SyntaxFault, Spells}
use Rattle.csub_guard_read.proofs.Makers.{whole-meant}
use Rattle.csub_guard_read.proofs.TextLaws.{text-exact}

spells-by : (text : List ℕ) (ks : List Kind) (p : Program) → ks ≡ kinds text → whole (program_rule nesting_limit) ks ≡ Ok p → Spells text p
spells-by text ks p same is =
    subst (λ ks. IsSpelled IsText nesting_limit program_meant ks p) same
    (spelled-meant IsText nesting_limit program_meant ks (whole (program_rule nesting_limit) ks) (whole (written_rule nesting_limit) ks)
    (text-exact nesting_limit ks) (whole-meant nesting_limit ks) p is)

pub least-by : (ks : List Kind) (fault : Fault) → whole (program_rule nesting_limit) ks ≡ Err fault → IsLeastPlace IsText nesting_limit ks fault
least-by ks fault is =
    least-meant IsText nesting_limit program_meant ks (whole (program_rule nesting_limit) ks) (whole (written_rule nesting_limit) ks)
    (text-exact nesting_limit ks) (whole-meant nesting_limit ks) fault is

-- ---- programs as the rules make them

assigns-are : (assigns : List CodeAssign) → map expr_assign (map pair_of assigns) ≡ map assign_of assigns
assigns-are [] = refl
assigns-are (a ∷ assigns) = ap (λ l. assign_of a ∷ l) (assigns-are assigns)

piece-is : (piece : CodePiece) → piece_in piece ≡ piece_of piece
piece-is (pieces.One a) = refl
piece-is (pieces.If test first second) =
    ap (λ l. trees.If test l (map expr_assign (map pair_of second.items))) (assigns-are first.items)
    ∙ ap (trees.If test (map assign_of first.items)) (assigns-are second.items)

pieces-are : (body : List CodePiece) → map piece_in body ≡ map piece_of body
pieces-are [] = refl
pieces-are (piece ∷ body) = ap (λ x. x ∷ map piece_in body) (piece-is piece) ∙ ap (λ l. piece_of piece ∷ l) (pieces-are body)

program-is : (p : GuardedProgram) → program_in p ≡ program_of p
program-is p = ap (λ body. record {
  states = (program_of p).states;
  globals = (program_of p).globals;
  locals = (program_of p).locals;
  body = body;
  answer = (program_of p).answer;
}) (pieces-are p.body.items)

pub spells-program : (text : List ℕ) (ks : List Kind) (p : GuardedProgram) → ks ≡ kinds text
    → whole (program_rule nesting_limit) ks ≡ Ok (program_in p) → Spells text (program_of p)
spells-program text ks p same is = spells-by text ks (program_of p) same (is ∙ ap Ok (program-is p))

-- ---- whole texts

pub reads-as : (text : List ℕ) (p : Program) → length text ≤ TEXT_BYTES → Spells text p → name_fault p ≡ None → ReadsAs text p
reads-as text p short s fits = record {
  short = short;
  describes = record { written = s.written; spelled = s.spelled; means = s.means; names_fit = fits };
  only = λ other d. sym d.means ∙ ap program_meant (s.only d.written d.spelled) ∙ s.means;
}

pub syntax-fault : (text : List ℕ) → length text ≤ TEXT_BYTES → (e : GuardedFault) → SyntaxFault text e → ReadsFault text e
syntax-fault text short (faults.Syntax at) fault = (short, fault)
syntax-fault text short others fault = absurd fault

names-fault : (text : List ℕ) (p : Program) → length text ≤ TEXT_BYTES → Spells text p → (e : GuardedFault) → SaysFault (name_fault p) e → ReadsFault text e
names-fault text p short s (faults.Twice name) fault = (short, record { written = s.written; spelled = s.spelled; first = ap name_fault s.means ∙ fault })
names-fault text p short s (faults.Undeclared name) fault = (short, record { written = s.written; spelled = s.spelled; first = ap name_fault s.means ∙ fault })
names-fault text p short s (faults.Again name) fault = (short, record { written = s.written; spelled = s.spelled; first = ap name_fault s.means ∙ fault })
names-fault text p short s (faults.Unset name) fault = (short, record { written = s.written; spelled = s.spelled; first = ap name_fault s.means ∙ fault })
names-fault text p short s faults.TooLong fault = absurd fault
names-fault text p short s (faults.Syntax at) fault = absurd fault

pub names-stop : (text : List ℕ) (p : Program) → length text ≤ TEXT_BYTES → Spells text p → (stop : Stop GuardedFault)
    → FaultIs (SaysFault (name_fault p)) stop → FaultIs (ReadsFault text) stop
names-stop text p short s (Refused fault) says = names-fault text p short s fault says
names-stop text p short s NoMemory says = tt
