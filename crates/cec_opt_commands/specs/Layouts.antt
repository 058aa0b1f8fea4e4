-- To believe: the words for the layout of an embedded text.
use Rattle.std.specs.Prelude.{ℕ, Bool, true, false, ◌||◌, if◌then◌else◌, List, [], ◌∷◌, ◌++◌, codes, Option, Some, None}
use Rattle.std.specs.Prelude.{is_some, option_map, unwrap_or, ok_or, Result, Ok}
use Rattle.base_types.specs.Names.{is_same_name}
use Rattle.csub_embed.specs.declared.layout.EmbedFile.{EmbedFile}
use Rattle.csub_embed.specs.declared.layout.EmbedFile.TheVariants as files
use Rattle.csub_embed.specs.declared.layout.EmbedLayout.{EmbedLayout}
use Rattle.cec_opt_commands.specs.declared.layouts.Laid.{Laid}

-- before any such word
abbrev pub no_layout : Laid
no_layout = record { packed = false; file = None }

-- a header, where no file is asked for
abbrev pub layout_of : Laid → EmbedLayout
layout_of laid = record { packed = laid.packed; file = unwrap_or laid.file files.Header }

-- the word for a file
abbrev pub file_of : List ℕ → Option EmbedFile
file_of word =
    if is_same_name word (codes "--header") then Some files.Header
    else if is_same_name word (codes "--declarations") then Some files.Declarations
    else if is_same_name word (codes "--definitions") then Some files.Definitions
    else None

abbrev pub is_packed : List ℕ → Bool
is_packed word = is_same_name word (codes "--packed")

abbrev pub is_layout : List ℕ → Bool
is_layout word = is_packed word || is_some (file_of word)

-- each at most once, and at most one file
abbrev pub with_packed : Laid → Option Laid
with_packed laid = if laid.packed then None else Some (record laid { packed = true })

abbrev pub with_file : Laid → Option EmbedFile → Option Laid
with_file laid file = if is_some laid.file then None else Some (record laid { file = file })

abbrev pub with_layout : Laid → List ℕ → Option Laid
with_layout laid word = if is_packed word then with_packed laid else with_file laid (file_of word)

-- one word for the layout or none, and the words after it
abbrev pub one_layout : Laid → List (List ℕ) → Result (Laid × List (List ℕ)) (List ℕ)
one_layout laid [] = Ok (laid, [])
one_layout laid (word ∷ more) =
    if is_layout word
    then ok_or (option_map (λ next. (next, more)) (with_layout laid word)) (codes "bad option: " ++ word)
    else Ok (laid, word ∷ more)
