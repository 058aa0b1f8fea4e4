-- Inner: what the answer of the reading function says of a text.
use Rattle.std.proofs.Common.{◌≡◌, ℕ, ◌≤◌, List, length, None, Ok, Err, sym, ◌∙◌, ap, subst}
use Rattle.base_types.specs.declared.bounds.TheConstants.Limits.{TEXT_BYTES}
use Rattle.base_reader.specs.declared.faults.Fault.{Fault}
use Rattle.base_reader.specs.Readings.{whole}
use Rattle.base_reader.specs.Exact.{IsLeastPlace}
use Rattle.net_expressions.specs.Trees.{Expr}
use Rattle.net_expressions.specs.Reading.{makes_expr, makes_written}
use Rattle.net_expressions.specs.Spelled.{IsSpelled}
use Rattle.net_expressions.proofs.Exports.{least-meant, spelled-meant}
use Rattle.vlog_text.specs.Trees.{Source, VerilogModule}
use Rattle.vlog_text.specs.Tokens.{Kind, kinds}
use Rattle.vlog_text.specs.Grammar.{IsText, source_meant}
use Rattle.vlog_text.specs.Names.{name_fault}
use Rattle.vlog_text.specs.Texts.{nesting_limit, module_said}
use Rattle.base_types.specs.Stops.{FaultIs}
use Rattle.base_types.specs.declared.stop.Stop.{Stop}
use Rattle.base_types.specs.declared.stop.Stop.TheVariants.{Fault as Refused, NoMemory}
use Rattle.vlog_read.specs.declared.refusal.VlogFault.{VlogFault}
use Rattle.vlog_read.specs.declared.refusal.VlogFault.TheVariants as faults
use Rattle.vlog_read.specs.Faults.{ReadsAs, ReadsFault}
use Rattle.vlog_read.specs.Steps.{SyntaxFault, Spells}
use Rattle.vlog_read.specs.NameTests.{SaysFault}
use Rattle.vlog_read.specs.Reading.{text_rule}
use Rattle.vlog_read.proofs.TextLaws.{text-exact}
use Rattle.vlog_read.proofs.Makers.{whole-meant}

pub spells-by : (text : List ℕ) (ks : List Kind) (s : Source Expr) → ks ≡ kinds text → whole (text_rule makes_expr nesting_limit) ks ≡ Ok s → Spells text s
spells-by text ks s same is =
    subst (λ ks. IsSpelled IsText nesting_limit source_meant ks s) same
    (spelled-meant IsText nesting_limit source_meant ks (whole (text_rule makes_expr nesting_limit) ks)
    (whole (text_rule makes_written nesting_limit) ks) (text-exact nesting_limit ks) (whole-meant nesting_limit ks) s is)

pub least-by : (ks : List Kind) (fault : Fault) → whole (text_rule makes_expr nesting_limit) ks ≡ Err fault → IsLeastPlace IsText nesting_limit ks fault
least-by ks fault is =
    least-meant IsText nesting_limit source_meant ks (whole (text_rule makes_expr nesting_limit) ks)
    (whole (text_rule makes_written nesting_limit) ks) (text-exact nesting_limit ks) (whole-meant nesting_limit ks) fault is

-- ---- whole texts

pub reads-as : (text : List ℕ) (s : Source Expr) (design : VerilogModule) → length text ≤ TEXT_BYTES → Spells text s → name_fault s ≡ None
    → design ≡ module_said s → ReadsAs text design
reads-as text s design short spells fits is = record {
  short = short;
  describes = record {
    written = spells.written;
    spelled = spells.spelled;
    names_fit = ap name_fault spells.means ∙ fits;
    means = ap module_said spells.means ∙ sym is;
  };
  only = λ other d. sym d.means ∙ ap (λ w. module_said (source_meant w)) (spells.only d.written d.spelled) ∙ ap module_said spells.means ∙ sym is;
}

pub syntax-fault : (text : List ℕ) → length text ≤ TEXT_BYTES → (e : VlogFault) → SyntaxFault text e → ReadsFault text e
syntax-fault text short (faults.Syntax at) fault = (short, fault)
syntax-fault text short others fault = absurd fault

pub names-fault : (text : List ℕ) (s : Source Expr) → length text ≤ TEXT_BYTES → Spells text s → (e : VlogFault) → SaysFault (name_fault s) e
    → ReadsFault text e
names-fault text s short p (faults.Twice name) fault = (short, record { written = p.written; spelled = p.spelled; first = ap name_fault p.means ∙ fault })
names-fault text s short p (faults.Port name) fault = (short, record { written = p.written; spelled = p.spelled; first = ap name_fault p.means ∙ fault })
names-fault text s short p (faults.Undeclared name) fault = (short, record { written = p.written; spelled = p.spelled; first = ap name_fault p.means ∙ fault })
names-fault text s short p (faults.TwoDrivers name) fault = (short, record { written = p.written; spelled = p.spelled; first = ap name_fault p.means ∙ fault })
names-fault text s short p (faults.NoDriver name) fault = (short, record { written = p.written; spelled = p.spelled; first = ap name_fault p.means ∙ fault })
names-fault text s short p _ fault = absurd fault

pub names-stop : (text : List ℕ) (s : Source Expr) → length text ≤ TEXT_BYTES → Spells text s → (stop : Stop VlogFault)
    → FaultIs (SaysFault (name_fault s)) stop → FaultIs (ReadsFault text) stop
names-stop text s short p (Refused fault) says = names-fault text s short p fault says
names-stop text s short p NoMemory says = tt
