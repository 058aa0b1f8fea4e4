-- To believe: what the words of a command line ask for, or what is wrong with them.
use Rattle.std.specs.Prelude.{ℕ, Bool, false, not, ◌||◌, if◌then◌else◌, List, [], ◌∷◌, ◌++◌, codes, Option, Some}
use Rattle.std.specs.Prelude.{None, is_some, option_map, ok_or, Result, Ok, Err}
use Rattle.base_types.specs.Names.{is_same_name}
use Rattle.csub_embed.specs.declared.layout.EmbedLayout.{EmbedLayout}
use Rattle.vlog_reset.specs.Options.{ModuleOptions}
use Rattle.cec_opt_sources.specs.declared.light.Coding.{Coding}
use Rattle.cec_opt_sources.specs.declared.light.Coding.TheVariants.{Lighter}
use Rattle.cec_opt_texts.specs.Related.{GivenRelation, result_then}
use Rattle.cec_words.specs.CommonWords.{about_of, is_plain}
use Rattle.cec_words.specs.declared.common.About.{About}
use Rattle.cec_opt_commands.specs.Layouts.{layout_of, no_layout, one_layout}
use Rattle.cec_opt_commands.specs.Relations.{given_by, is_relation, rest_by}
use Rattle.cec_opt_commands.specs.Resets.{Wanted, coding_of, plain_reset, wanted_by}
use Rattle.cec_opt_commands.specs.declared.words.Form.{Form}
use Rattle.cec_opt_commands.specs.declared.words.Form.TheVariants as forms

-- what is done with a text, or with a source
pub data Task : Type 0 where
  -- its optimized circuit is written, in this form
  Write : (form : Form) → Task
  -- its optimized circuit is written as embedded C, as a component of this name and in this layout
  Embed : (component : List ℕ) (layout : EmbedLayout) → Task
  -- its optimized circuit is written as Verilog with a reset, with these names; of a source this one of two
  Reset : (options : ModuleOptions) (coding : Coding) → Task
  -- the sizes of its circuit and of the optimized one are reported
  Check : Task

-- what is asked for
pub data Request : Type 0 where
  -- what the program writes about itself
  Tell : (about : About) → Request
  -- a task on the text in the file of this name, where its inputs meet these relations
  Do : (task : Task) (given : List GivenRelation) (name : List ℕ) → Request
  -- a task on the source in the file of this name, by the main module of this name
  Make : (task : Task) (name : List ℕ) (main : Option (List ℕ)) → Request

-- the task of a command
abbrev pub task_of : List ℕ → Option Task
task_of word =
    if is_same_name word (codes "verilog") then Some (Write forms.Verilog)
    else if is_same_name word (codes "blif") then Some (Write forms.Blif)
    else if is_same_name word (codes "c") then Some (Write forms.C)
    else if is_same_name word (codes "check") then Some Check
    else None

-- the command of a task
abbrev pub command_of : Task → List ℕ
command_of (Write forms.Blif) = codes "blif"
command_of (Write forms.C) = codes "c"
command_of (Write forms.Verilog) = codes "verilog"
command_of (Embed component layout) = codes "c"
command_of (Reset options coding) = codes "verilog"
command_of Check = codes "check"

-- what is wrong where neither a text nor a source is named
abbrev pub no_file : Task → List ℕ
no_file task = codes "no file after " ++ command_of task

-- ---- options of a command on a source, each at most once

pub record Options : Type 0 where
  pub source : Option (List ℕ)
  pub main : Option (List ℕ)

abbrev pub no_options : Options
no_options = record { source = None; main = None }

abbrev pub with_source : Options → List ℕ → Option Options
with_source o value =
    if is_some o.source || not (is_plain value) then None else Some (record o { source = Some value })

abbrev pub with_main : Options → List ℕ → Option Options
with_main o value = if is_some o.main || not (is_plain value) then None else Some (record o { main = Some value })

abbrev pub with_option : Options → (key value : List ℕ) → Option Options
with_option o key value =
    if is_same_name key (codes "--source") then with_source o value
    else if is_same_name key (codes "--main") then with_main o value
    else None

-- one option or none, and the words after it
abbrev pub one_option : Options → List (List ℕ) → Result (Options × List (List ℕ)) (List ℕ)
one_option o [] = Ok (o, [])
one_option o (key ∷ []) = Err (codes "no value after " ++ key)
one_option o (key ∷ value ∷ more) =
    ok_or (option_map (λ next. (next, more)) (with_option o key value)) (codes "bad option: " ++ key)

-- after the options comes no word; the source must be named
abbrev pub source_asked : Task → Options → List (List ℕ) → Result Request (List ℕ)
source_asked task o [] = ok_or (option_map (λ name. Make task name o.main) o.source) (no_file task)
source_asked task o (more ∷ others) = Err (codes "one word too many: " ++ more)

-- two options at most
abbrev pub options_asked : Task → List (List ℕ) → Result Request (List ℕ)
options_asked task words =
    result_then (λ o. result_then (λ p. source_asked task p.0 p.1) (one_option o.0 o.1)) (one_option no_options words)

-- ---- all words

-- a word that needs another one after it
abbrev pub takes_value : List ℕ → Bool
takes_value word =
    is_same_name word (codes "--source") || (is_same_name word (codes "--main") || is_relation word)

-- a task and one word, which is a file
abbrev pub text_asked : Task → List ℕ → Result Request (List ℕ)
text_asked task name =
    if is_plain name then Ok (Do task [] name)
    else if takes_value name then Err (codes "no value after " ++ name)
    else Err (codes "not a file: " ++ name)

-- one word is a file, and more are options; after a file comes no word
abbrev pub rest_asked : Task → List (List ℕ) → Result Request (List ℕ)
rest_asked task [] = Err (no_file task)
rest_asked task (name ∷ []) = text_asked task name
rest_asked task (key ∷ value ∷ more) =
    if is_plain key then Err (codes "one word too many: " ++ value) else options_asked task (key ∷ value ∷ more)

-- right after `c`
abbrev pub is_embed : Task → List ℕ → Bool
is_embed (Write forms.C) word = is_same_name word (codes "--embed")
is_embed others word = false

-- no word for the layout, one, or two; then the same words as after another command
abbrev pub laid_asked : (component : List ℕ) → List (List ℕ) → Result Request (List ℕ)
laid_asked component words =
    result_then (λ l. result_then (λ m. rest_asked (Embed component (layout_of m.0)) m.1) (one_layout l.0 l.1))
    (one_layout no_layout words)

-- the name of the component comes first
abbrev pub embed_asked : List (List ℕ) → Result Request (List ℕ)
embed_asked [] = Err (codes "no value after --embed")
embed_asked (component ∷ words) =
    if is_plain component then laid_asked component words else Err (codes "bad option: --embed")

-- right after `verilog`
abbrev pub is_reset : Task → List ℕ → Bool
is_reset (Write forms.Verilog) word = is_same_name word (codes "--reset")
is_reset others word = false

-- a text or a source must be named
abbrev pub text_wanted : Wanted → Result Request (List ℕ)
text_wanted w =
    ok_or (option_map (λ name. Do (Reset w.options Lighter) [] name) w.text) (no_file (Reset w.options Lighter))

abbrev pub file_wanted : Wanted → Option (List ℕ) → Result Request (List ℕ)
file_wanted w None = text_wanted w
file_wanted w (Some name) = Ok (Make (Reset w.options (coding_of w.is_encoded)) name w.main)

-- the name of the reset comes first
abbrev pub reset_asked : List (List ℕ) → Result Request (List ℕ)
reset_asked [] = Err (codes "no value after --reset")
reset_asked (reset ∷ words) =
    if is_plain reset then result_then (λ w. file_wanted w w.source) (wanted_by (plain_reset reset) None words)
    else Err (codes "bad option: --reset")

abbrev pub task_asked : Task → List (List ℕ) → Result Request (List ℕ)
task_asked task [] = Err (no_file task)
task_asked task (word ∷ words) =
    if is_embed task word then embed_asked words
    else if is_reset task word then reset_asked words
    else rest_asked task (word ∷ words)

-- a source has relations of its own, and takes no others, the first of which begins with this word
abbrev pub given_request : (word : List ℕ) → List GivenRelation → Request → Result Request (List ℕ)
given_request word given (Tell about) = Ok (Tell about)
given_request word given (Do task none name) = Ok (Do task given name)
given_request word [] (Make task name main) = Ok (Make task name main)
given_request word (relation ∷ more) (Make task name main) = Err (codes "a source has relations of its own: " ++ word)

-- relations come right after a command
abbrev pub related_asked : Task → List (List ℕ) → Result Request (List ℕ)
related_asked task [] = task_asked task []
related_asked task (word ∷ words) =
    result_then (given_request word (given_by (word ∷ words))) (task_asked task (rest_by (word ∷ words)))

-- after a word that asks about the program comes none
abbrev pub about_asked : About → List (List ℕ) → Result Request (List ℕ)
about_asked about [] = Ok (Tell about)
about_asked about (more ∷ others) = Err (codes "one word too many: " ++ more)

abbrev pub first_asked : (word : List ℕ) → Option Task → Option About → List (List ℕ) → Result Request (List ℕ)
first_asked word (Some task) about rest = related_asked task rest
first_asked word None (Some about) rest = about_asked about rest
first_asked word None None rest = Err (codes "unknown word: " ++ word)

-- what the words ask for, or what is wrong with them
abbrev pub request_by : List (List ℕ) → Result Request (List ℕ)
request_by [] = Err (codes "no command")
request_by (word ∷ rest) = first_asked word (task_of word) (about_of word) rest
