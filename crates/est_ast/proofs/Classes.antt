-- Tests of the classes of bytes, and the longest run of bytes of a class.
use Rattle.std.proofs.Common.{◌≡◌, ℕ, Bool, true, false, ◌||◌, eqb, List, get_or, arith}
use Rattle.std.specs.List.{prefix_len}
use Rattle.std.proofs.lemmas.Bool.Decides.{nat_tests}
use Rattle.std.proofs.lemmas.List.Sums.{prefix_len-le-length, prefix_len_passes, prefix_len_stops}
use Rattle.base_types.specs.Names.{is_letter, is_digit, is_name_byte}
use Rattle.est_ast.specs.Runs.{IsRun}
use Rattle.est_ast.specs.Lexemes.{IsSpace, IsLetter, IsDigit, IsNameByte}

-- a test that tells whether a byte is of a class
pub record Tells (test : ℕ → Bool) (P : ℕ → Type 0) : Type 0 where
  pub yes : (byte : ℕ) → test byte ≡ true → P byte
  pub no : (byte : ℕ) → test byte ≡ false → ¬ P byte

abbrev pub space_test : ℕ → Bool
space_test byte = eqb byte 32 || (eqb byte 9 || (eqb byte 10 || (eqb byte 12 || eqb byte 13)))

pub space_told : Tells space_test IsSpace
space_told = record { yes = λ byte h. grind (arith, nat_tests); no = λ byte h. grind (arith, nat_tests) }

pub letter_told : Tells is_letter IsLetter
letter_told = record { yes = λ byte h. grind (arith, nat_tests); no = λ byte h. grind (arith, nat_tests) }

pub digit_told : Tells is_digit IsDigit
digit_told = record { yes = λ byte h. grind (arith, nat_tests); no = λ byte h. grind (arith, nat_tests) }

pub name_told : Tells is_name_byte IsNameByte
name_told = record { yes = λ byte h. grind (arith, nat_tests); no = λ byte h. grind (arith, nat_tests) }

pub run_of : (test : ℕ → Bool) (P : ℕ → Type 0) → Tells test P → (text : List ℕ) → IsRun P text (prefix_len test text)
run_of test P told text = record {
  within = prefix_len-le-length test text;
  passes = λ k below. told.yes (get_or text k 0) (prefix_len_passes test text k 0 below);
  stops = λ below. told.no (get_or text (prefix_len test text) 0) (prefix_len_stops test text 0 below);
}
