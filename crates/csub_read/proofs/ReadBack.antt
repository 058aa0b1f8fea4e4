-- Inner: a text that describes a program describes no other one, and has no fault.
use Rattle.std.proofs.Common.{◌≡◌, ℕ, List, Some, is_some, Result, Ok, Err, refl, sym, ◌∙◌, ap, subst}
use Rattle.std.proofs.lemmas.Bool.{false≢true}
use Rattle.csub_text.specs.Tokens.{Kind, kinds}
use Rattle.csub_text.specs.Trees.{Program}
use Rattle.csub_text.specs.Grammar.{WrittenProgram, IsText, program_meant}
use Rattle.csub_text.specs.Names.{NameFault, Twice, Undeclared, Unset, name_fault}
use Rattle.csub_text.specs.Texts.{Describes, nesting_limit}
use Rattle.base_reader.specs.declared.faults.Fault.{Fault}
use Rattle.base_reader.specs.Readings.{whole}
use Rattle.base_reader.specs.Exact.{Exactly, IsLeastPlace}
use Rattle.csub_read.specs.declared.refusal.CFault.{CFault}
use Rattle.csub_read.specs.declared.refusal.CFault.TheVariants as faults
use Rattle.csub_read.specs.Faults.{ReadsFault, IsNameFault}
use Rattle.csub_read.specs.Laws.{LacksRoom, DescribedTextsAreRead, WrittenTextsAreRead}
use Rattle.csub_read.proofs.TextLaws.{written_rule, text-exact}

stuck-member : (ks : List Kind) (fault : Fault) → IsLeastPlace IsText nesting_limit ks fault → (a : WrittenProgram) → IsText nesting_limit a ks → ⊥
stuck-member ks fault least a member = least.stuck a least.rest refl (subst (IsText nesting_limit a) least.cut member)

only-written : (ks : List Kind) (a b : WrittenProgram) → IsText nesting_limit a ks → IsText nesting_limit b ks → a ≡ b
only-written ks a b first second = go (whole (written_rule nesting_limit) ks) (text-exact nesting_limit ks)
  where
    go : (r : Result WrittenProgram Fault) → Exactly IsText nesting_limit ks r → a ≡ b
    go (Ok w) exact = exact.only a first ∙ sym (exact.only b second)
    go (Err fault) exact = absurd (stuck-member ks fault exact a first)

one-program : (text : List ℕ) (p q : Program) → Describes text p → Describes text q → q ≡ p
one-program text p q d e = sym e.means ∙ ap program_meant (only-written (kinds text) e.written d.written e.spelled d.spelled) ∙ d.means

names-kept : (text : List ℕ) (p : Program) → Describes text p → (fault : NameFault) → IsNameFault text fault → ⊥
names-kept text p d fault is =
    let same = only-written (kinds text) d.written is.written d.spelled is.spelled in
    let found : name_fault p ≡ Some fault = sym (ap name_fault d.means) ∙ ap (λ w. name_fault (program_meant w)) same ∙ is.first in
    false≢true (ap is_some (sym d.names_fit ∙ found))

refusals : (text : List ℕ) (p : Program) → Describes text p → (fault : CFault) → ReadsFault text fault → LacksRoom text fault
refusals text p d faults.TooLong is = is
refusals text p d (faults.Syntax at) is = absurd (stuck-member (kinds text) is.1.fault is.1.least d.written d.spelled)
refusals text p d (faults.Twice name) is = absurd (names-kept text p d (Twice name) is.1)
refusals text p d (faults.Undeclared name) is = absurd (names-kept text p d (Undeclared name) is.1)
refusals text p d (faults.Unset name) is = absurd (names-kept text p d (Unset name) is.1)

pub described-are-read : DescribedTextsAreRead
described-are-read text p d = record { only = λ other e. one-program text p other d e; refusals = refusals text p d }

pub written-are-read : WrittenTextsAreRead
written-are-read text net means = described-are-read text means.program means.describes
