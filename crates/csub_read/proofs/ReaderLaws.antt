-- Inner: what the answer of the reading function says of a text.
use Rattle.std.proofs.Common.{◌≡◌, ℕ, ◌≤◌, List, [], ◌∷◌, length, map, None, Result, Ok, Err, refl, sym}
use Rattle.std.proofs.Common.{◌∙◌, ap, subst}
use Rattle.base_types.specs.declared.bounds.TheConstants.Limits.{TEXT_BYTES}
use Rattle.csub_text.specs.Tokens.{Kind, kinds}
use Rattle.csub_text.specs.Trees.{Program}
use Rattle.csub_text.specs.Grammar.{IsText, program_meant}
use Rattle.csub_text.specs.Names.{name_fault}
use Rattle.csub_text.specs.Texts.{nesting_limit}
use Rattle.csub_text.specs.Views.{program_of, assign_of}
use Rattle.csub_text.specs.declared.trees.CProgram.{CProgram}
use Rattle.csub_text.specs.declared.trees.Assign.{Assign as CodeAssign}
use Rattle.base_reader.specs.declared.faults.Fault.{Fault}
use Rattle.base_reader.specs.Readings.{whole}
use Rattle.base_reader.specs.Exact.{Exactly, IsLeastPlace}
use Rattle.base_types.specs.declared.stop.Stop.{Stop}
use Rattle.base_types.specs.declared.stop.Stop.TheVariants.{Fault as Refused, NoMemory}
use Rattle.base_types.specs.Stops.{FaultIs}
use Rattle.csub_read.specs.declared.refusal.CFault.{CFault}
use Rattle.csub_read.specs.declared.refusal.CFault.TheVariants as faults
use Rattle.csub_read.specs.Faults.{ReadsAs, ReadsFault}
use Rattle.csub_read.specs.Steps.{SyntaxFault, Spells}
use Rattle.csub_read.specs.NameTests.{NamesFault}
use Rattle.csub_read.specs.Reading.{Parts, makes_expr, makes_written, text_rule, written_of, expr_assign, expr_program, pair_of, parts_in}
use Rattle.csub_read.proofs.TextLaws.{text-exact}
use Rattle.csub_read.proofs.Makers.{parts_meant, whole-meant, whole-written, parts-means}
use Rattle.net_expressions.specs.Grammar.{Written}
use Rattle.net_expressions.specs.Spelled.{IsSpelled}
use Rattle.net_expressions.proofs.Exports.{made, least-meant, spelled-meant}

-- what is written is read exactly, and what it means is the program
exact-written : (ks : List Kind) → Exactly IsText nesting_limit ks (made written_of (whole (text_rule makes_written nesting_limit) ks))
exact-written ks = subst (Exactly IsText nesting_limit ks) (whole-written nesting_limit ks) (text-exact nesting_limit ks)

program-meant : (ks : List Kind) → made expr_program (whole (text_rule makes_expr nesting_limit) ks)
    ≡ made program_meant (made written_of (whole (text_rule makes_written nesting_limit) ks))
program-meant ks = ap (made expr_program) (whole-meant nesting_limit ks) ∙ same (whole (text_rule makes_written nesting_limit) ks)
  where
    same : (w : Result (Parts Written) Fault) → made expr_program (made parts_meant w) ≡ made program_meant (made written_of w)
    same (Ok p) = ap Ok (parts-means p)
    same (Err fault) = refl

pub least-by : (ks : List Kind) (fault : Fault) → whole (text_rule makes_expr nesting_limit) ks ≡ Err fault → IsLeastPlace IsText nesting_limit ks fault
least-by ks fault is =
    least-meant IsText nesting_limit program_meant ks (made expr_program (whole (text_rule makes_expr nesting_limit) ks))
    (made written_of (whole (text_rule makes_written nesting_limit) ks)) (exact-written ks) (program-meant ks) fault (ap (made expr_program) is)

program-is : (p : CProgram) → expr_program (parts_in p) ≡ program_of p
program-is p = ap (λ body. record {
  states = (parts_in p).states;
  globals = (parts_in p).globals;
  locals = (parts_in p).locals;
  body = body;
  answer = (parts_in p).answer;
}) (go p.body.items)
  where
    go : (body : List CodeAssign) → map expr_assign (map pair_of body) ≡ map assign_of body
    go [] = refl
    go (a ∷ body) = ap (λ l. assign_of a ∷ l) (go body)

pub spells-by : (text : List ℕ) (ks : List Kind) (p : CProgram) → ks ≡ kinds text → whole (text_rule makes_expr nesting_limit) ks ≡ Ok (parts_in p)
    → Spells text (program_of p)
spells-by text ks p same is =
    subst (λ ks. IsSpelled IsText nesting_limit program_meant ks (program_of p)) same
    (spelled-meant IsText nesting_limit program_meant ks (made expr_program (whole (text_rule makes_expr nesting_limit) ks))
    (made written_of (whole (text_rule makes_written nesting_limit) ks)) (exact-written ks) (program-meant ks) (program_of p)
    (ap (made expr_program) is ∙ ap Ok (program-is p)))

-- ---- whole texts

pub reads-as : (text : List ℕ) (p : Program) → length text ≤ TEXT_BYTES → Spells text p → name_fault p ≡ None → ReadsAs text p
reads-as text p short s fits = record {
  short = short;
  describes = record { written = s.written; spelled = s.spelled; means = s.means; names_fit = fits };
  only = λ other d. sym d.means ∙ ap program_meant (s.only d.written d.spelled) ∙ s.means;
}

pub syntax-fault : (text : List ℕ) → length text ≤ TEXT_BYTES → (e : CFault) → SyntaxFault text e → ReadsFault text e
syntax-fault text short (faults.Syntax at) fault = (short, fault)
syntax-fault text short _ fault = absurd fault

pub names-fault : (text : List ℕ) (p : Program) → length text ≤ TEXT_BYTES → Spells text p → (stop : Stop CFault)
    → FaultIs (NamesFault p) stop → FaultIs (ReadsFault text) stop
names-fault text p short s (Refused (faults.Twice name)) fault =
    (short, record { written = s.written; spelled = s.spelled; first = ap name_fault s.means ∙ fault })
names-fault text p short s (Refused (faults.Undeclared name)) fault =
    (short, record { written = s.written; spelled = s.spelled; first = ap name_fault s.means ∙ fault })
names-fault text p short s (Refused (faults.Unset name)) fault =
    (short, record { written = s.written; spelled = s.spelled; first = ap name_fault s.means ∙ fault })
names-fault text p short s (Refused _) fault = absurd fault
names-fault text p short s NoMemory fault = tt
