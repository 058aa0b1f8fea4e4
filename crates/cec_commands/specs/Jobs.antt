-- To believe: what the words of a command line ask for.
use Rattle.std.specs.Prelude.{ℕ, Bool, if◌then◌else◌, List, [], drop, slice_index_or, Option, Some, None, option_map}
use Rattle.cec_words.specs.declared.asked.Asked.{Asked}
use Rattle.cec_words.specs.declared.asked.Asked.TheVariants as asks
use Rattle.cec_words.specs.declared.asked.Pick.{Pick}
use Rattle.cec_words.specs.declared.asked.Source.{Source}
use Rattle.cec_words.specs.declared.asked.Value.{Value}
use Rattle.cec_words.specs.declared.asked.Via.{Via}
use Rattle.cec_words.specs.declared.asked.Via.TheVariants as vias
use Rattle.cec_words.specs.Readings.{asked_by}
use Rattle.cec_compile.specs.declared.forms.TextForm.{TextForm}
use Rattle.cec_compile.specs.declared.forms.TextForm.TheVariants as forms
use Rattle.cec_commands.specs.declared.jobs.Task.{Task}
use Rattle.cec_commands.specs.declared.jobs.Task.TheVariants.{Text, Grc, Check}

-- a job on a source: the file with the source, the main module's name, and how the evaluation order is chosen
pub record Job : Type 0 where
  pub name : List ℕ
  pub main : Option (List ℕ)
  pub pick : Pick

-- what is asked for
pub data Request : Type 0 where
  -- the list of the commands
  Help : Request
  -- what a task makes of a source
  Make : (task : Task) (job : Job) → Request
  -- a source by the text of this form that is made of it, run over the trace in this file
  Run : (via : TextForm) (job : Job) (trace : List ℕ) → Request
  -- a source by three-valued reactions of its graph, over the trace in this file
  RunTri : (job : Job) (trace : List ℕ) → Request
  -- the text of this language in the one file, run over the trace in the other
  Exec : (via : Via) (text trace : List ℕ) → Request
  -- a generated source, by its start number and its number of branches
  Generate : (start branches : ℕ) → Request
  -- the numbers of its run over this number of random instants
  Load : (start branches instants : ℕ) → Request

-- the word at a place
abbrev pub word_at : List (List ℕ) → ℕ → List ℕ
word_at words at = slice_index_or words at []

-- the value of an option, which may be in a word after its name
abbrev pub value_in : List (List ℕ) → Value → List ℕ
value_in words v = drop v.start (word_at words v.word)

abbrev pub source_job : List (List ℕ) → Source → Job
source_job words s =
    record { name = word_at words s.file; main = option_map (value_in words) s.main; pick = s.pick }

-- the form of a source's text, by its language, and by whether its latches are to hold the state in a code
abbrev pub form_by : Via → Bool → TextForm
form_by vias.Blif encode = if encode then forms.EncodedBlif else forms.Blif
form_by vias.C encode = forms.C
form_by vias.Guard encode = forms.Guarded
form_by vias.Verilog encode = forms.Verilog

-- the form of a C text, by whether it must be guarded
abbrev pub c_form : Bool → TextForm
c_form guard = if guard then forms.Guarded else forms.C

abbrev pub request_asked : List (List ℕ) → Asked → Request
request_asked words asks.Help = Help
request_asked words (asks.Blif s) = Make (Text (form_by vias.Blif s.encode)) (source_job words s)
request_asked words (asks.C s) = Make (Text (c_form s.guard)) (source_job words s)
request_asked words (asks.Verilog s) = Make (Text forms.Verilog) (source_job words s)
request_asked words (asks.Grc s) = Make Grc (source_job words s)
request_asked words (asks.Check s) = Make Check (source_job words s)
request_asked words (asks.Run via s trace) = Run (form_by via s.encode) (source_job words s) (word_at words trace)
request_asked words (asks.RunTri s trace) = RunTri (source_job words s) (word_at words trace)
request_asked words (asks.Exec via text trace) = Exec via (word_at words text) (word_at words trace)
request_asked words (asks.Gen start branches None) = Generate start branches
request_asked words (asks.Gen start branches (Some instants)) = Load start branches instants

abbrev pub request_by : List (List ℕ) → Option Request
request_by words = option_map (request_asked words) (asked_by words)
