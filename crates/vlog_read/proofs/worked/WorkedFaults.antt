-- Written by hand: what a fault says of a text, row by row, and where the bound on texts lies.
use Rattle.std.proofs.Common.{◌≡◌, ◌≤◌, ℕ, List, length, Some, sym, ◌∙◌, arith}
use Rattle.net_expressions.specs.Lexemes.{IsFaultPlace}
use Rattle.net_expressions.specs.Grammar.{Written}
use Rattle.vlog_text.specs.Trees.{Source}
use Rattle.vlog_text.specs.Tokens.{tokens, kinds}
use Rattle.vlog_text.specs.Grammar.{IsText, source_meant}
use Rattle.vlog_text.specs.Names as names
use Rattle.vlog_text.specs.Names.{NameFault, name_fault}
use Rattle.vlog_text.specs.Texts.{Describes}
use Rattle.vlog_text.specs.Trees.{VerilogModule}
use Rattle.vlog_read.specs.declared.refusal.VlogFault.TheVariants as faults
use Rattle.vlog_read.specs.Faults.{ReadsAs, ReadsFault}

-- ---- the bound on texts is 256 MiB

one_byte_too_long : (text : List ℕ) → length text ≡ 268435457 → ReadsFault text faults.TooLong
one_byte_too_long text long = omega (arith, long)

not_at_the_bound : (text : List ℕ) → length text ≡ 268435456 → ReadsFault text faults.TooLong → ⊥
not_at_the_bound text whole h = omega (arith, whole, h)

read_at_the_bound : (text : List ℕ) (p : VerilogModule) → ReadsAs text p → length text ≤ 268435456
read_at_the_bound text p h = h.short

-- ---- what is read

it_is_described : (text : List ℕ) (p : VerilogModule) → ReadsAs text p → Describes text p
it_is_described text p h = h.describes

one_text_has_one_reading : (text : List ℕ) (p q : VerilogModule) → ReadsAs text p → ReadsAs text q → p ≡ q
one_text_has_one_reading text p q h k = h.only p h.describes ∙ sym (h.only q k.describes)

-- ---- faults of the grammar, and of names in what is written

syntax : (text : List ℕ) (at : ℕ) → ReadsFault text (faults.Syntax at)
    → (length text ≤ 268435456) × IsFaultPlace IsText 200 (tokens text) (length text) at
syntax text at h = h

-- a short text is something written, whose first fault of names is this
abbrev Says : List ℕ → NameFault → Type 0
Says text fault = (length text ≤ 268435456) × (written : Source Written) × IsText 200 written (kinds text)
    × (name_fault (source_meant written) ≡ Some fault)

twice : (text name : List ℕ) → ReadsFault text (faults.Twice name) → Says text (names.Twice name)
twice text name (short, h) = (short, h.written, h.spelled, h.first)

port : (text name : List ℕ) → ReadsFault text (faults.Port name) → Says text (names.Port name)
port text name (short, h) = (short, h.written, h.spelled, h.first)

undeclared : (text name : List ℕ) → ReadsFault text (faults.Undeclared name) → Says text (names.Undeclared name)
undeclared text name (short, h) = (short, h.written, h.spelled, h.first)

two_drivers : (text name : List ℕ) → ReadsFault text (faults.TwoDrivers name) → Says text (names.TwoDrivers name)
two_drivers text name (short, h) = (short, h.written, h.spelled, h.first)

no_driver : (text name : List ℕ) → ReadsFault text (faults.NoDriver name) → Says text (names.NoDriver name)
no_driver text name (short, h) = (short, h.written, h.spelled, h.first)
