-- To believe: what the command lines of the three programs have in common.
use Rattle.std.specs.Prelude.{ℕ, Bool, false, not, ◌==◌, ◌++◌, if◌then◌else◌, List, [], ◌∷◌, codes, Option, Some, None}
use Rattle.base_types.specs.Names.{is_same_name}
use Rattle.cec_words.specs.declared.common.About.{About}
use Rattle.cec_words.specs.declared.common.About.TheVariants.{Commands, Version}
use Rattle.cec_words.specs.declared.common.Misuse.{Misuse}

-- a file or a name: not empty, and its first byte is not `-`
abbrev pub is_plain : List ℕ → Bool
is_plain [] = false
is_plain (c ∷ cs) = not (c == 45)

-- what a word asks about the program
abbrev pub about_of : List ℕ → Option About
about_of word =
    if is_same_name word (codes "--help") then Some Commands
    else if is_same_name word (codes "--version") then Some Version
    else None

-- what is wrong with words: the fault, and the word that has it
abbrev pub misuse_is : Misuse → List ℕ
misuse_is misuse = misuse.fault.now ++ misuse.word.now
