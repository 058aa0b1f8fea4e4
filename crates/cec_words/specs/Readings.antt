-- To believe: what a list of words asks for. The first word is a command, and the words after it are read from the
-- left; or it is `--help` alone.
use Rattle.std.specs.Prelude.{ℕ, ◌+◌, Bool, true, false, ◌&&◌, nat_le, List, [], ◌∷◌, length, codes}
use Rattle.std.specs.Prelude.{if◌then◌else◌, Option, Some, None, unwrap_or, option_map, option_and_then}
use Rattle.base_types.specs.Names.{is_same_name}
use Rattle.cec_words.specs.declared.asked.Via.TheVariants as vias
use Rattle.cec_words.specs.declared.asked.Pick.{Pick}
use Rattle.cec_words.specs.declared.asked.Pick.TheVariants.{First}
use Rattle.cec_words.specs.declared.asked.Value.{Value}
use Rattle.cec_words.specs.declared.asked.Source.{Source}
use Rattle.cec_words.specs.declared.asked.Asked.{Asked}
use Rattle.cec_words.specs.declared.asked.Asked.TheVariants as asks
use Rattle.cec_words.specs.CommandNames as commands
use Rattle.cec_words.specs.CommandNames.{Command}
use Rattle.cec_words.specs.OptionNames.{Setting}
use Rattle.cec_words.specs.Parts as parts
use Rattle.cec_words.specs.Parts.{Part, WordStep, Waits, Ends, Way, Text, Tri}
use Rattle.cec_words.specs.Numbers.{is_empty}
use Rattle.cec_words.specs.Commands.{command_of, step_of}

-- the files, and the values that each option has, in the order of the words; one that takes none is true where it
-- stands
pub record Gathered : Type 0 where
  pub files : List ℕ
  pub vias : List Way
  pub mains : List Value
  pub picks : List Pick
  pub starts : List ℕ
  pub branches : List ℕ
  pub runs : List ℕ
  pub encodes : List Bool
  pub guards : List Bool

abbrev pub nothing : Gathered
nothing = record {
  files = [];
  vias = [];
  mains = [];
  picks = [];
  starts = [];
  branches = [];
  runs = [];
  encodes = [];
  guards = [];
}

-- one part before those of the words after it
abbrev pub with_part : Part → Gathered → Gathered
with_part (parts.File at) g = record g { files = at ∷ g.files }
with_part (parts.Via v) g = record g { vias = v ∷ g.vias }
with_part (parts.Main v) g = record g { mains = v ∷ g.mains }
with_part (parts.Pick p) g = record g { picks = p ∷ g.picks }
with_part (parts.Start n) g = record g { starts = n ∷ g.starts }
with_part (parts.Branches n) g = record g { branches = n ∷ g.branches }
with_part (parts.Run n) g = record g { runs = n ∷ g.runs }
with_part parts.Encode g = record g { encodes = true ∷ g.encodes }
with_part parts.Guard g = record g { guards = true ∷ g.guards }

-- what a step gives, by what the words after it give, with the option that waits
abbrev pub after_step : (Option Setting → Option Gathered) → Option WordStep → Option Gathered
after_step rest None = None
after_step rest (Some (Waits setting)) = rest (Some setting)
after_step rest (Some (Ends part)) = option_map (with_part part) (rest None)

-- what the words from a place on give, where an option may wait for its value: that value must come
abbrev pub gathered : Command → Option Setting → ℕ → List (List ℕ) → Option Gathered
gathered command None at [] = Some nothing
gathered command (Some setting) at [] = None
gathered command waiting at (word ∷ words) =
    after_step (λ w. gathered command w (at + 1) words) (step_of command waiting at word)

-- the first element, where there is one
abbrev pub head : {X : Type 0} → List X → Option X
head [] = None
head (x ∷ xs) = Some x

-- no option stands twice
abbrev pub each_once : Gathered → Bool
each_once g =
    nat_le (length g.vias) 1 && nat_le (length g.mains) 1 && nat_le (length g.picks) 1
    && nat_le (length g.starts) 1 && nat_le (length g.branches) 1 && nat_le (length g.runs) 1
    && nat_le (length g.encodes) 1 && nat_le (length g.guards) 1

-- the source in a file: the first ready wire is picked, the state is not encoded, and no block is skipped, where the
-- words do not say
abbrev pub source : Gathered → ℕ → Source
source g file = record {
  file = file;
  main = head g.mains;
  pick = unwrap_or (head g.picks) First;
  encode = unwrap_or (head g.encodes) false;
  guard = unwrap_or (head g.guards) false;
}

-- a command on one file
abbrev pub on_one : (ℕ → Asked) → List ℕ → Option Asked
on_one make (file ∷ []) = Some (make file)
on_one make files = None

-- a command on two files, which may not be
abbrev pub on_two : (ℕ → ℕ → Option Asked) → List ℕ → Option Asked
on_two make (file ∷ trace ∷ []) = make file trace
on_two make files = None

-- a run of a source: by its text of a form, of which only that of BLIF has an encoded state; or by three-valued
-- reactions, which have neither a text nor an order of evaluation to choose
abbrev pub run_asked : Gathered → Way → (file trace : ℕ) → Option Asked
run_asked g (Text vias.Blif) file trace = Some (asks.Run vias.Blif (source g file) trace)
run_asked g (Text v) file trace = if (source g file).encode then None else Some (asks.Run v (source g file) trace)
run_asked g Tri file trace =
    if is_empty g.picks && is_empty g.encodes then Some (asks.RunTri (source g file) trace) else None

-- a run of a text, which is of some form
abbrev pub exec_asked : Way → (text trace : ℕ) → Option Asked
exec_asked (Text v) text trace = Some (asks.Exec v text trace)
exec_asked Tri text trace = None

-- what a command asks for
abbrev pub asked : Command → Gathered → Option Asked
asked commands.Blif g = on_one (λ f. asks.Blif (source g f)) g.files
asked commands.C g = on_one (λ f. asks.C (source g f)) g.files
asked commands.Verilog g = on_one (λ f. asks.Verilog (source g f)) g.files
asked commands.Grc g = on_one (λ f. asks.Grc (source g f)) g.files
asked commands.Check g = on_one (λ f. asks.Check (source g f)) g.files
asked commands.Run g = on_two (λ f t. option_and_then (λ w. run_asked g w f t) (head g.vias)) g.files
asked commands.Exec g = on_two (λ f t. option_and_then (λ w. exec_asked w f t) (head g.vias)) g.files
asked commands.Gen g =
    if is_empty g.files
    then option_and_then (λ s. option_map (λ b. asks.Gen s b (head g.runs)) (head g.branches)) (head g.starts)
    else None

-- what a command with these files and options asks for
abbrev pub asked_once : Command → Gathered → Option Asked
asked_once command g = if each_once g then asked command g else None

-- what the words after a command ask for
abbrev pub asked_behind : List (List ℕ) → Command → Option Asked
asked_behind words command = option_and_then (asked_once command) (gathered command None 1 words)

abbrev pub asked_by : List (List ℕ) → Option Asked
asked_by [] = None
asked_by (word ∷ words) =
    if is_same_name word (codes "--help") then (if is_empty words then Some asks.Help else None)
    else option_and_then (asked_behind words) (command_of word)
