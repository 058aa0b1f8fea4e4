-- Inner: the files and options that the reader keeps.
use Rattle.std.specs.Prelude.{◌≡◌, ℕ, Bool, true, false, List, [], ◌∷◌, ◌++◌, Option, Some, None}
use Rattle.std.specs.Prelude.{option_and_then, option_map}
use Rattle.std.specs.Option.{option_to_list}
use Rattle.cec_words.specs.declared.asked.Asked.{Asked}
use Rattle.cec_words.specs.declared.given.Files.{Files}
use Rattle.cec_words.specs.declared.given.Files.TheVariants as kept
use Rattle.cec_words.specs.declared.given.Given.{Given}
use Rattle.cec_words.specs.declared.steps.Part as code_parts
use Rattle.cec_words.specs.declared.steps.Setting as code_settings
use Rattle.cec_words.specs.declared.steps.Step as code_steps
use Rattle.cec_words.specs.CommandNames.{Command}
use Rattle.cec_words.specs.OptionNames.{Setting}
use Rattle.cec_words.specs.Views.{plain_part, plain_setting, plain_step, plain_way}
use Rattle.cec_words.specs.Readings.{Gathered, with_part, after_step, asked_once}

abbrev pub files_list : Files → List ℕ
files_list kept.None = []
files_list (kept.One a) = a ∷ []
files_list (kept.Two a b) = a ∷ b ∷ []

-- the value of an option that takes none, where it stands
abbrev pub flag_list : Bool → List Bool
flag_list true = true ∷ []
flag_list false = []

abbrev pub only_file : Files → Option ℕ
only_file (kept.One a) = Some a
only_file others = None

abbrev pub both_files : Files → Option (ℕ × ℕ)
both_files (kept.Two a b) = Some (a, b)
both_files others = None

-- what is kept, and what comes after it
abbrev pub extended : Given → Gathered → Gathered
extended g rest = record {
  files = files_list g.files ++ rest.files;
  vias = option_to_list (option_map plain_way g.via) ++ rest.vias;
  mains = option_to_list g.main ++ rest.mains;
  picks = option_to_list g.pick ++ rest.picks;
  starts = option_to_list g.start ++ rest.starts;
  branches = option_to_list g.branches ++ rest.branches;
  runs = option_to_list g.run ++ rest.runs;
  encodes = flag_list g.encode ++ rest.encodes;
  guards = flag_list g.guard ++ rest.guards;
}

abbrev pub slots : Given → Gathered
slots g = record {
  files = files_list g.files;
  vias = option_to_list (option_map plain_way g.via);
  mains = option_to_list g.main;
  picks = option_to_list g.pick;
  starts = option_to_list g.start;
  branches = option_to_list g.branches;
  runs = option_to_list g.run;
  encodes = flag_list g.encode;
  guards = flag_list g.guard;
}

-- one part more is kept
abbrev pub Fills : Given → Given → code_parts.Part → Type 0
Fills old new part = (rest : Gathered) → extended new rest ≡ extended old (with_part (plain_part part) rest)

-- whatever comes, with this part the words have no meaning
abbrev pub Overfills : Given → code_parts.Part → Type 0
Overfills old part = (command : Command) (rest : Gathered)
    → asked_once command (extended old (with_part (plain_part part) rest)) ≡ None

-- what is given and what the words that are left give ask for together
abbrev pub asked_with : Command → Given → Option Gathered → Option Asked
asked_with command given left = option_and_then (λ rest. asked_once command (extended given rest)) left

-- after this step the words have no meaning, whatever is left
abbrev pub HasNoMeaning : Given → code_steps.Step → Type 0
HasNoMeaning given step =
    (command : Command) (rest : Option Setting → Option Gathered)
    → asked_with command given (after_step rest (Some (plain_step step))) ≡ None

-- after this step this is given, and this option waits
abbrev pub Takes : Given → code_steps.Step → Given → Option code_settings.Setting → Type 0
Takes given step new waiting =
    (command : Command) (rest : Option Setting → Option Gathered)
    → asked_with command given (after_step rest (Some (plain_step step)))
    ≡ asked_with command new (rest (option_map plain_setting waiting))
