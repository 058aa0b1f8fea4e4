-- To believe: the commands, their options, and what one word says.
use Rattle.std.specs.Prelude.{ℕ, ◌+◌, Bool, false, not, ◌==◌, ◌&&◌, nat_lt, nat_le, List, [], ◌∷◌, length, take}
use Rattle.std.specs.Prelude.{drop, slice_index, codes, if◌then◌else◌, Option, Some, None, option_map}
use Rattle.std.specs.Prelude.{option_and_then}
use Rattle.base_types.specs.Names.{is_same_name}
use Rattle.base_types.specs.declared.bounds.TheConstants.Limits.{BRANCHES, LOAD_INSTANTS}
use Rattle.cec_words.specs.CommonWords.{is_plain}
use Rattle.cec_words.specs.declared.asked.Via.TheVariants as vias
use Rattle.cec_words.specs.declared.asked.Pick.{Pick}
use Rattle.cec_words.specs.declared.asked.Pick.TheVariants.{First, Last, Drawn}
use Rattle.cec_words.specs.declared.asked.Value.{Value}
use Rattle.cec_words.specs.CommandNames as commands
use Rattle.cec_words.specs.CommandNames.{Command}
use Rattle.cec_words.specs.OptionNames as settings
use Rattle.cec_words.specs.OptionNames.{Setting, option_name}
use Rattle.cec_words.specs.Parts as parts
use Rattle.cec_words.specs.Parts.{Spelling, Bare, Valued, Part, WordStep, Waits, Ends, Way, Text, Tri}
use Rattle.cec_words.specs.Numbers.{number}

abbrev pub command_of : List ℕ → Option Command
command_of word =
    if is_same_name word (codes "verilog") then Some commands.Verilog
    else if is_same_name word (codes "blif") then Some commands.Blif
    else if is_same_name word (codes "c") then Some commands.C
    else if is_same_name word (codes "grc") then Some commands.Grc
    else if is_same_name word (codes "check") then Some commands.Check
    else if is_same_name word (codes "run") then Some commands.Run
    else if is_same_name word (codes "exec") then Some commands.Exec
    else if is_same_name word (codes "gen") then Some commands.Gen
    else None

-- the options of a command
abbrev pub options : Command → List Setting
options commands.Blif = settings.Main ∷ settings.Pick ∷ settings.Encode ∷ []
options commands.C = settings.Main ∷ settings.Pick ∷ settings.Guard ∷ []
options commands.Verilog = settings.Main ∷ settings.Pick ∷ []
options commands.Grc = settings.Main ∷ []
options commands.Check = settings.Main ∷ []
options commands.Run = settings.Via ∷ settings.Main ∷ settings.Pick ∷ settings.Encode ∷ []
options commands.Exec = settings.Via ∷ []
options commands.Gen = settings.Start ∷ settings.Branches ∷ settings.Run ∷ []

-- how a word spells an option: as its name alone, or as its name, a `=` and a value that is not empty
abbrev pub spelling_of : Setting → List ℕ → Option Spelling
spelling_of setting word =
    let size = length (option_name setting) in
    if is_same_name word (option_name setting) then Some (Bare setting)
    else if nat_lt (size + 1) (length word) && is_same_name (take size word) (option_name setting)
    && (slice_index word size == 61)
    then Some (Valued setting (size + 1))
    else None

-- the first of two that is there
abbrev pub or_else : Option Spelling → Option Spelling → Option Spelling
or_else None other = other
or_else (Some spelling) other = Some spelling

-- how a word spells the first option of a list that it spells
abbrev pub named : List Setting → List ℕ → Option Spelling
named [] word = None
named (setting ∷ more) word = or_else (spelling_of setting word) (named more word)

abbrev pub way_of : List ℕ → Option Way
way_of value =
    if is_same_name value (codes "verilog") then Some (Text vias.Verilog)
    else if is_same_name value (codes "blif") then Some (Text vias.Blif)
    else if is_same_name value (codes "c") then Some (Text vias.C)
    else if is_same_name value (codes "guard") then Some (Text vias.Guard)
    else if is_same_name value (codes "tri") then Some Tri
    else None

abbrev pub pick_of : List ℕ → Option Pick
pick_of value =
    if is_same_name value (codes "first") then Some First
    else if is_same_name value (codes "last") then Some Last
    else option_map Drawn (number value)

-- a number that is at least the one and at most the other
abbrev pub number_within : ℕ → ℕ → List ℕ → Option ℕ
number_within least most value =
    option_and_then (λ n. if nat_le least n && nat_le n most then Some n else None) (number value)

-- the part that an option with its value makes: the value's place, and its bytes; one option takes no value
abbrev pub part_of : Setting → Value → List ℕ → Option Part
part_of settings.Main place value = Some (parts.Main place)
part_of settings.Via place value = option_map parts.Via (way_of value)
part_of settings.Pick place value = option_map parts.Pick (pick_of value)
part_of settings.Start place value = option_map parts.Start (number value)
part_of settings.Branches place value = option_map parts.Branches (number_within 1 BRANCHES value)
part_of settings.Run place value = option_map parts.Run (number_within 0 LOAD_INSTANTS value)
part_of settings.Encode place value = None
part_of settings.Guard place value = None

-- what a word does that spells an option: except for the one that takes no value, its name alone waits for one
abbrev pub spelled_step : ℕ → List ℕ → Spelling → Option WordStep
spelled_step at word (Bare settings.Encode) = Some (Ends parts.Encode)
spelled_step at word (Bare settings.Guard) = Some (Ends parts.Guard)
spelled_step at word (Bare setting) = Some (Waits setting)
spelled_step at word (Valued setting start) =
    option_map Ends (part_of setting (record { word = at; start = start }) (drop start word))

-- What a word does at its place, where an option may wait for its value: it is the value, or a file, or it spells an
-- option of the command. Any other word has no meaning.
abbrev pub step_of : Command → Option Setting → ℕ → List ℕ → Option WordStep
step_of command (Some setting) at word =
    if is_plain word then option_map Ends (part_of setting (record { word = at; start = 0 }) word) else None
step_of command None at word =
    if is_plain word then Some (Ends (parts.File at))
    else option_and_then (spelled_step at word) (named (options command) word)
