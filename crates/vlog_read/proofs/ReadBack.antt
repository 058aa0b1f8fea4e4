-- Inner: a text that describes a module describes no other one, and has no fault.
use Rattle.std.proofs.Common.{◌≡◌, ℕ, List, is_some, Result, Ok, Err, refl, sym, ◌∙◌, ap, subst}
use Rattle.std.proofs.lemmas.Bool.{false≢true}
use Rattle.base_reader.specs.declared.faults.Fault.{Fault}
use Rattle.base_reader.specs.Readings.{whole}
use Rattle.base_reader.specs.Exact.{Exactly, IsLeastPlace}
use Rattle.net_expressions.specs.Grammar.{Written}
use Rattle.net_expressions.specs.Reading.{makes_written}
use Rattle.vlog_text.specs.Trees.{Source, VerilogModule}
use Rattle.vlog_text.specs.Tokens.{Kind, kinds}
use Rattle.vlog_text.specs.Grammar.{IsText, source_meant}
use Rattle.vlog_text.specs.Names.{NameFault, Twice, Port, Undeclared, TwoDrivers, NoDriver, name_fault}
use Rattle.vlog_text.specs.Texts.{Describes, nesting_limit, module_said}
use Rattle.vlog_read.specs.declared.refusal.VlogFault.{VlogFault}
use Rattle.vlog_read.specs.declared.refusal.VlogFault.TheVariants as faults
use Rattle.vlog_read.specs.Faults.{ReadsFault, IsNameFault}
use Rattle.vlog_read.specs.Laws.{LacksRoom, DescribedTextsAreRead, WrittenTextsAreRead}
use Rattle.vlog_read.specs.Reading.{text_rule}
use Rattle.vlog_read.proofs.TextLaws.{text-exact}

stuck-member : (ks : List Kind) (fault : Fault) → IsLeastPlace IsText nesting_limit ks fault → (a : Source Written) → IsText nesting_limit a ks → ⊥
stuck-member ks fault least a member = least.stuck a least.rest refl (subst (IsText nesting_limit a) least.cut member)

only-written : (ks : List Kind) (a b : Source Written) → IsText nesting_limit a ks → IsText nesting_limit b ks → a ≡ b
only-written ks a b first second = go (whole (text_rule makes_written nesting_limit) ks) (text-exact nesting_limit ks)
  where
    go : (r : Result (Source Written) Fault) → Exactly IsText nesting_limit ks r → a ≡ b
    go (Ok w) exact = exact.only a first ∙ sym (exact.only b second)
    go (Err fault) exact = absurd (stuck-member ks fault exact a first)

one-module : (text : List ℕ) (p q : VerilogModule) → Describes text p → Describes text q → q ≡ p
one-module text p q d e =
    sym e.means ∙ ap (λ w. module_said (source_meant w)) (only-written (kinds text) e.written d.written e.spelled d.spelled) ∙ d.means

names-kept : (text : List ℕ) (p : VerilogModule) → Describes text p → (fault : NameFault) → IsNameFault text fault → ⊥
names-kept text p d fault is =
    let same = only-written (kinds text) d.written is.written d.spelled is.spelled in
    let found = sym d.names_fit ∙ ap (λ w. name_fault (source_meant w)) same ∙ is.first in
    false≢true (ap is_some found)

refusals : (text : List ℕ) (p : VerilogModule) → Describes text p → (fault : VlogFault) → ReadsFault text fault → LacksRoom text fault
refusals text p d faults.TooLong is = is
refusals text p d (faults.Syntax at) is = absurd (stuck-member (kinds text) is.1.fault is.1.least d.written d.spelled)
refusals text p d (faults.Twice name) is = absurd (names-kept text p d (Twice name) is.1)
refusals text p d (faults.Port name) is = absurd (names-kept text p d (Port name) is.1)
refusals text p d (faults.Undeclared name) is = absurd (names-kept text p d (Undeclared name) is.1)
refusals text p d (faults.TwoDrivers name) is = absurd (names-kept text p d (TwoDrivers name) is.1)
refusals text p d (faults.NoDriver name) is = absurd (names-kept text p d (NoDriver name) is.1)
refusals text p d (faults.Loop names) is = is

pub described-are-read : DescribedTextsAreRead
described-are-read text p d = record { only = λ other e. one-module text p other d e; refusals = refusals text p d }

pub written-are-read : WrittenTextsAreRead
written-are-read text net means = described-are-read text means.design means.describes
