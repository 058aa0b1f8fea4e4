-- To believe: what the words of a command line ask for, or what is wrong with them.
use Rattle.std.specs.Prelude.{ℕ, ◌-◌, ◌==◌, ◌&&◌, ◌||◌, Bool, true, false, not, if◌then◌else◌, List, [], ◌∷◌, ◌++◌}
use Rattle.std.specs.Prelude.{codes, Option, Some, None, Result, Ok, Err, nat_le, option_map, is_some}
use Rattle.base_types.specs.Names.{is_same_name}
use Rattle.cec_prove_sources.specs.declared.questions.Claim.{Claim}
use Rattle.cec_prove_sources.specs.declared.questions.Claim.TheVariants.{Never, Always}
use Rattle.cec_words.specs.CommonWords.{about_of, is_plain}
use Rattle.cec_words.specs.declared.common.About.{About}

-- a command
pub data Command : Type 0 where
  -- a claim about an outgoing signal
  Asks : (claim : Claim) → Command
  -- all outgoing signals
  Surveys : Command
  -- all points
  Covers : Command
  -- two sources
  Compares : Command

-- what a command finds out about a source, or about a BLIF text
pub data Task : Type 0 where
  -- whether a claim about the outgoing signal of this name holds
  Ask : (claim : Claim) (signal : List ℕ) → Task
  -- when each outgoing signal is present
  Survey : Task
  -- which points are reached
  Cover : Task
  -- whether the source in the file of this name does the same
  Compare : (other : List ℕ) → Task
  -- whether a claim about the output of a text that has this name holds
  AskText : (claim : Claim) (signal : List ℕ) → Task
  -- when each output of a text is true
  SurveyText : Task
  -- whether the text in the file of this name does the same as another text
  CompareTexts : (other : List ℕ) → Task

-- a task about the source, or the text, in the file of this name
pub record Job : Type 0 where
  pub task : Task
  pub name : List ℕ
  pub assumed : Option (List ℕ)
  pub main : Option (List ℕ)
  pub level : Option ℕ

-- what is asked for
pub data Request : Type 0 where
  -- what the program writes about itself
  Tell : (about : About) → Request
  -- a task
  Do : (job : Job) → Request

abbrev pub command_of : List ℕ → Option Command
command_of word =
    if is_same_name word (codes "never") then Some (Asks Never)
    else if is_same_name word (codes "always") then Some (Asks Always)
    else if is_same_name word (codes "all") then Some Surveys
    else if is_same_name word (codes "cover") then Some Covers
    else if is_same_name word (codes "same") then Some Compares
    else None

-- ---- options, each at most once

-- a comparison assumes nothing
abbrev pub is_comparison : Task → Bool
is_comparison (Ask claim signal) = false
is_comparison Survey = false
is_comparison Cover = false
is_comparison (Compare other) = true
is_comparison (AskText claim signal) = false
is_comparison SurveyText = false
is_comparison (CompareTexts other) = true

-- a text has no modules
abbrev pub is_of_texts : Task → Bool
is_of_texts (Ask claim signal) = false
is_of_texts Survey = false
is_of_texts Cover = false
is_of_texts (Compare other) = false
is_of_texts (AskText claim signal) = true
is_of_texts SurveyText = true
is_of_texts (CompareTexts other) = true

-- the same task about texts; a text has no points
abbrev pub text_task : Task → Option Task
text_task (Ask claim signal) = Some (AskText claim signal)
text_task Survey = Some SurveyText
text_task Cover = None
text_task (Compare other) = Some (CompareTexts other)
text_task (AskText claim signal) = None
text_task SurveyText = None
text_task (CompareTexts other) = None

abbrev pub with_text : Job → Option Job
with_text job = if is_some job.main then None else option_map (λ task. record job { task = task }) (text_task job.task)

abbrev pub with_assumed : Job → List ℕ → Option Job
with_assumed job value =
    if is_comparison job.task || (is_some job.assumed || not (is_plain value)) then None
    else Some (record job { assumed = Some value })

abbrev pub with_main : Job → List ℕ → Option Job
with_main job value =
    if is_of_texts job.task || (is_some job.main || not (is_plain value)) then None
    else Some (record job { main = Some value })

-- one digit, from 1 to 9
abbrev pub level_of : List ℕ → Option ℕ
level_of [] = None
level_of (c ∷ []) = if nat_le 49 c && nat_le c 57 then Some (c - 48) else None
level_of (c ∷ d ∷ more) = None

abbrev pub with_level : Job → List ℕ → Option Job
with_level job value =
    if is_some job.level then None else option_map (λ level. record job { level = Some level }) (level_of value)

abbrev pub with_option : Job → (key value : List ℕ) → Option Job
with_option job key value =
    if is_same_name key (codes "--assume") then with_assumed job value
    else if is_same_name key (codes "--main") then with_main job value
    else if is_same_name key (codes "--effort") then with_level job value
    else None

-- the options that have a value
abbrev pub takes_value : List ℕ → Bool
takes_value word = is_same_name word (codes "--assume") || is_same_name word (codes "--main")
    || is_same_name word (codes "--effort")

-- the one option without a value
abbrev pub is_flag : List ℕ → Bool
is_flag word = is_same_name word (codes "--text")

-- ---- what is asked for, or what is wrong with the words

-- what is wrong with a word in the place of an option; a name is one word too many
abbrev pub bad_option : List ℕ → List ℕ
bad_option word = if is_plain word then codes "one word too many: " ++ word else codes "bad option: " ++ word

-- the same of the last word
abbrev pub last_option : List ℕ → List ℕ
last_option word = if takes_value word then codes "no value after " ++ word else bad_option word

-- goes on with the task that has one more option, unless that option is bad
abbrev pub after_option : (key : List ℕ) → (Job → Result Request (List ℕ)) → Option Job → Result Request (List ℕ)
after_option key rest None = Err (bad_option key)
after_option key rest (Some next) = rest next

-- A task with the options that follow. Each one except `--text` has a value; `waiting` is one whose value comes next.
-- The first bad option is at fault. It is unknown, occurs twice, lacks its value or does not take it, or does not go
-- with the command or with another option. A name in its place is one word too many.
abbrev pub job_asked : Job → (waiting : Option (List ℕ)) → List (List ℕ) → Result Request (List ℕ)
job_asked job None [] = Ok (Do job)
job_asked job None (word ∷ more) =
    if is_flag word then after_option word (λ next. job_asked next None more) (with_text job)
    else job_asked job (Some word) more
job_asked job (Some key) [] = Err (last_option key)
job_asked job (Some key) (value ∷ more) =
    after_option key (λ next. job_asked next None more) (with_option job key value)

-- a task without options
abbrev pub plain_job : Task → (name : List ℕ) → Job
plain_job task name = record { task = task; name = name; assumed = None; main = None; level = None }

-- after `all`, `cover` and the signal of a claim come a file and options
abbrev pub file_asked : Task → (before : List ℕ) → List (List ℕ) → Result Request (List ℕ)
file_asked task before [] = Err (codes "no file after " ++ before)
file_asked task before (name ∷ options) =
    if not (is_plain name) then Err (codes "not a file: " ++ name) else job_asked (plain_job task name) None options

-- after a claim come a signal, a file and options
abbrev pub claim_asked : Claim → (word : List ℕ) → List (List ℕ) → Result Request (List ℕ)
claim_asked claim word [] = Err (codes "no signal after " ++ word)
claim_asked claim word (signal ∷ rest) =
    if not (is_plain signal) then Err (codes "not a signal: " ++ signal) else file_asked (Ask claim signal) signal rest

-- after the first file of a comparison come a second one and options
abbrev pub second_asked : (name : List ℕ) → List (List ℕ) → Result Request (List ℕ)
second_asked name [] = Err (codes "no file after " ++ name)
second_asked name (other ∷ options) =
    if not (is_plain other) then Err (codes "not a file: " ++ other)
    else job_asked (plain_job (Compare other) name) None options

-- after `same` come two files and options
abbrev pub comparison_asked : (before : List ℕ) → List (List ℕ) → Result Request (List ℕ)
comparison_asked before [] = Err (codes "no file after " ++ before)
comparison_asked before (name ∷ rest) =
    if not (is_plain name) then Err (codes "not a file: " ++ name) else second_asked name rest

abbrev pub command_asked : Command → (word : List ℕ) → List (List ℕ) → Result Request (List ℕ)
command_asked (Asks claim) word rest = claim_asked claim word rest
command_asked Surveys word rest = file_asked Survey word rest
command_asked Covers word rest = file_asked Cover word rest
command_asked Compares word rest = comparison_asked word rest

-- after a word that asks about the program comes none
abbrev pub about_asked : About → List (List ℕ) → Result Request (List ℕ)
about_asked about [] = Ok (Tell about)
about_asked about (more ∷ others) = Err (codes "one word too many: " ++ more)

abbrev pub first_asked : (word : List ℕ) → Option Command → Option About → List (List ℕ) → Result Request (List ℕ)
first_asked word (Some command) about rest = command_asked command word rest
first_asked word None (Some about) rest = about_asked about rest
first_asked word None None rest = Err (codes "unknown word: " ++ word)

-- what the words ask for, or what is wrong with them
abbrev pub request_by : List (List ℕ) → Result Request (List ℕ)
request_by [] = Err (codes "no command")
request_by (word ∷ rest) = first_asked word (command_of word) (about_of word) rest
