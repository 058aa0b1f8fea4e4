-- Worked lists of words, by hand: options that stand twice, numbers that are none, and options of other commands.
use Rattle.std.proofs.Common.{◌≡◌, ℕ, List, [], ◌∷◌, ◌++◌, codes, refl, Some, None}
use Rattle.cec_words.specs.declared.asked.Asked.TheVariants as asks
use Rattle.cec_words.specs.Readings.{asked_by}

-- ---- each option once

pick_twice : asked_by (codes "blif" ∷ codes "--pick" ∷ codes "first" ∷ codes "--pick=first" ∷ codes "a" ∷ []) ≡ None
pick_twice = refl

main_twice : asked_by (codes "c" ∷ codes "--main" ∷ codes "m" ∷ codes "a" ∷ codes "--main" ∷ codes "m" ∷ []) ≡ None
main_twice = refl

via_twice : asked_by (codes "run" ∷ codes "--via" ∷ codes "c" ∷ codes "--via" ∷ codes "c" ∷ codes "a" ∷ codes "b" ∷ []) ≡ None
via_twice = refl

-- `gen` with a start, a number of branches, and these words
abbrev gen : List (List ℕ) → List (List ℕ)
gen more = codes "gen" ∷ codes "--start" ∷ codes "7" ∷ codes "--branches" ∷ codes "1" ∷ more

start_twice : asked_by (gen (codes "--start" ∷ codes "7" ∷ [])) ≡ None
start_twice = refl

branches_twice : asked_by (gen (codes "--branches=1" ∷ [])) ≡ None
branches_twice = refl

run_twice : asked_by (gen (codes "--run" ∷ codes "5" ∷ codes "--run" ∷ codes "5" ∷ [])) ≡ None
run_twice = refl

-- ---- numbers

run_of_none : asked_by (gen (codes "--run" ∷ codes "0" ∷ [])) ≡ Some (asks.Gen 7 1 (Some 0))
run_of_none = refl

-- a value that is not a number, and one that is in a word of its own and begins with `-`
run_plus : asked_by (gen (codes "--run" ∷ codes "+7" ∷ [])) ≡ None
run_plus = refl

run_minus : asked_by (gen (codes "--run=-7" ∷ [])) ≡ None
run_minus = refl

run_blank : asked_by (gen (codes "--run= 7" ∷ [])) ≡ None
run_blank = refl

start_greatest : asked_by (codes "gen" ∷ codes "--start=18446744073709551615" ∷ codes "--branches=400" ∷ []) ≡ Some (asks.Gen 18446744073709551615 400 None)
start_greatest = refl

start_above : asked_by (codes "gen" ∷ codes "--start=18446744073709551616" ∷ codes "--branches=400" ∷ []) ≡ None
start_above = refl

start_plus : asked_by (codes "gen" ∷ codes "--start=+7" ∷ codes "--branches=1" ∷ []) ≡ None
start_plus = refl

pick_plus : asked_by (codes "blif" ∷ codes "--pick" ∷ codes "+7" ∷ codes "a" ∷ []) ≡ None
pick_plus = refl

-- ---- words that begin with `-`

lone_dash : asked_by (codes "blif" ∷ codes "-" ∷ []) ≡ None
lone_dash = refl

dash_as_value : asked_by (codes "blif" ∷ codes "--main" ∷ codes "-" ∷ codes "a" ∷ []) ≡ None
dash_as_value = refl

two_dashes : asked_by (codes "blif" ∷ codes "--" ∷ codes "a" ∷ []) ≡ None
two_dashes = refl

help_twice : asked_by (codes "--help" ∷ codes "--help" ∷ []) ≡ None
help_twice = refl

help_behind : asked_by (codes "blif" ∷ codes "--help" ∷ []) ≡ None
help_behind = refl

-- ---- options of other commands

pick_of_check : asked_by (codes "check" ∷ codes "--pick" ∷ codes "first" ∷ codes "a" ∷ []) ≡ None
pick_of_check = refl

pick_of_exec : asked_by (codes "exec" ∷ codes "--via=c" ∷ codes "--pick=first" ∷ codes "a" ∷ codes "b" ∷ []) ≡ None
pick_of_exec = refl

via_of_c : asked_by (codes "c" ∷ codes "--via=c" ∷ codes "a" ∷ []) ≡ None
via_of_c = refl

via_of_grc : asked_by (codes "grc" ∷ codes "--via=c" ∷ codes "a" ∷ []) ≡ None
via_of_grc = refl

via_of_check : asked_by (codes "check" ∷ codes "--via=c" ∷ codes "a" ∷ []) ≡ None
via_of_check = refl

start_of_blif : asked_by (codes "blif" ∷ codes "--start=7" ∷ codes "a" ∷ []) ≡ None
start_of_blif = refl

branches_of_run : asked_by (codes "run" ∷ codes "--via=c" ∷ codes "--branches=7" ∷ codes "a" ∷ codes "b" ∷ []) ≡ None
branches_of_run = refl

run_of_run : asked_by (codes "run" ∷ codes "--via=c" ∷ codes "--run=7" ∷ codes "a" ∷ codes "b" ∷ []) ≡ None
run_of_run = refl

main_of_gen : asked_by (gen (codes "--main=m" ∷ [])) ≡ None
main_of_gen = refl

pick_of_gen : asked_by (gen (codes "--pick=first" ∷ [])) ≡ None
pick_of_gen = refl

via_of_gen : asked_by (gen (codes "--via=c" ∷ [])) ≡ None
via_of_gen = refl

-- ---- the number of files

no_file_of_check : asked_by (codes "check" ∷ []) ≡ None
no_file_of_check = refl

two_files_of_check : asked_by (codes "check" ∷ codes "a" ∷ codes "b" ∷ []) ≡ None
two_files_of_check = refl

two_files_of_grc : asked_by (codes "grc" ∷ codes "a" ∷ codes "b" ∷ []) ≡ None
two_files_of_grc = refl

two_files_of_c : asked_by (codes "c" ∷ codes "a" ∷ codes "b" ∷ []) ≡ None
two_files_of_c = refl

three_files_of_run : asked_by (codes "run" ∷ codes "--via=c" ∷ codes "a" ∷ codes "b" ∷ codes "d" ∷ []) ≡ None
three_files_of_run = refl

three_files_of_exec : asked_by (codes "exec" ∷ codes "--via=c" ∷ codes "a" ∷ codes "b" ∷ codes "d" ∷ []) ≡ None
three_files_of_exec = refl
