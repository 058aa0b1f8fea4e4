-- Written by hand: what a fault says of a text, row by row, and where the bound on texts lies.
use Rattle.std.proofs.Common.{◌≡◌, ◌≤◌, ℕ, List, length, Some, sym, ◌∙◌, arith}
use Rattle.net_expressions.specs.Lexemes.{IsFaultPlace}
use Rattle.csub_text.specs.Grammar.{WrittenProgram}
use Rattle.csub_text.specs.Tokens.{tokens, kinds}
use Rattle.csub_text.specs.Grammar.{IsText, program_meant}
use Rattle.csub_text.specs.Names as names
use Rattle.csub_text.specs.Names.{NameFault, name_fault}
use Rattle.csub_text.specs.Texts.{Describes}
use Rattle.csub_text.specs.Trees.{Program}
use Rattle.csub_read.specs.declared.refusal.CFault.TheVariants as faults
use Rattle.csub_read.specs.Faults.{ReadsAs, ReadsFault}

-- ---- the bound on texts is 256 MiB

one_byte_too_long : (text : List ℕ) → length text ≡ 268435457 → ReadsFault text faults.TooLong
one_byte_too_long text long = omega (arith, long)

not_at_the_bound : (text : List ℕ) → length text ≡ 268435456 → ReadsFault text faults.TooLong → ⊥
not_at_the_bound text whole h = omega (arith, whole, h)

read_at_the_bound : (text : List ℕ) (p : Program) → ReadsAs text p → length text ≤ 268435456
read_at_the_bound text p h = h.short

-- ---- what is read

it_is_described : (text : List ℕ) (p : Program) → ReadsAs text p → Describes text p
it_is_described text p h = h.describes

one_text_has_one_reading : (text : List ℕ) (p q : Program) → ReadsAs text p → ReadsAs text q → p ≡ q
one_text_has_one_reading text p q h k = h.only p h.describes ∙ sym (h.only q k.describes)

-- ---- faults of the grammar, and of names in what is written

syntax : (text : List ℕ) (at : ℕ) → ReadsFault text (faults.Syntax at)
    → (length text ≤ 268435456) × IsFaultPlace IsText 200 (tokens text) (length text) at
syntax text at h = h

-- a short text is something written, whose first fault of names is this
abbrev Says : List ℕ → NameFault → Type 0
Says text fault = (length text ≤ 268435456) × (written : WrittenProgram) × IsText 200 written (kinds text)
    × (name_fault (program_meant written) ≡ Some fault)

twice : (text name : List ℕ) → ReadsFault text (faults.Twice name) → Says text (names.Twice name)
twice text name (short, h) = (short, h.written, h.spelled, h.first)

undeclared : (text name : List ℕ) → ReadsFault text (faults.Undeclared name) → Says text (names.Undeclared name)
undeclared text name (short, h) = (short, h.written, h.spelled, h.first)

unset : (text name : List ℕ) → ReadsFault text (faults.Unset name) → Says text (names.Unset name)
unset text name (short, h) = (short, h.written, h.spelled, h.first)
