-- To believe: the list of the commands, and the version.
use Rattle.std.specs.Prelude.{ℕ, List, [], ◌∷◌, codes}
use Rattle.std.specs.List.{concat}
use Rattle.cec_words.specs.declared.common.About.{About}
use Rattle.cec_words.specs.declared.common.About.TheVariants.{Commands, Version}

abbrev pub help_text : List ℕ
help_text =
    concat (codes "cec-prove never SIGNAL FILE    whether SIGNAL is never present\n"
    ∷ codes "cec-prove always SIGNAL FILE   whether SIGNAL is present in each instant\n"
    ∷ codes "cec-prove all FILE             when each outgoing signal is present\n"
    ∷ codes "cec-prove cover FILE           which statements and branches are ever reached\n"
    ∷ codes "cec-prove same FILE FILE       whether two sources do the same\n"
    ∷ codes "                               a source may have a cycle if it is constructive for every event\n"
    ∷ codes "    --assume SIGNAL            where this signal is present in each instant; not of same\n"
    ∷ codes "    --main M                   of the module M, not of the first one\n"
    ∷ codes "    --text                     each FILE is a BLIF file; not of cover, and not with --main\n"
    ∷ codes "    --effort N                 how long to search, from 1 to 9; without it 5\n"
    ∷ codes "cec-prove --help               writes these lines\n"
    ∷ codes "cec-prove --version            writes the program's name and version\n" ∷ [])

abbrev pub version_text : List ℕ
version_text = codes "cec-prove 0.1.0\n"

-- what the program writes about itself
abbrev pub own_text : About → List ℕ
own_text Commands = help_text
own_text Version = version_text
