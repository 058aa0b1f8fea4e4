-- What commands write, by hand: lines of counts, the list of the commands, numbers of a load; and what answers are of a source, field by field.
use Rattle.std.proofs.Common.{◌≡◌, ℕ, Bool, true, false, List, [], ◌∷◌, map, Some, None, Option, codes, refl}
use Rattle.std.specs.Fmt.{digits}
use Rattle.std.specs.List.{concat}
use Rattle.base_types.specs.Draws.{first_state, state_after}
use Rattle.base_types.specs.Items.{Item, Event}
use Rattle.est_kernel.specs.Plain.{Program, outgoing_names}
use Rattle.est_kernel.specs.Reactions.{Answer, run_of}
use Rattle.est_kernel.specs.Terms.{Pause, Seq, Par, Nothing}
use Rattle.grc_graph.specs.Wires.{listed, codes_below}
use Rattle.grc_list.specs.Listings.{program_listing}
use Rattle.run_trace_io.specs.declared.lines.Word.TheVariants.{Paused, Ended}
use Rattle.run_over_traces.specs.Machines as machines
use Rattle.est_front.specs.Sources.{StandsFor}
use Rattle.cec_compile.specs.Meaning.{AreItems}
use Rattle.cec_compile.specs.Refusals.{Compiles}
use Rattle.cec_compile.specs.SourceTexts.{IsSourceText}
use Rattle.cec_compile.specs.declared.forms.TextForm.TheVariants as forms
use Rattle.cec_commands.specs.Answers.{counts_line, IsAnswer}
use Rattle.cec_commands.specs.HelpTexts.{help_text}
use Rattle.cec_commands.specs.Loads.{drawn_items, emitted_count, paused_count, summary_text, IsSummary, state_behind}
use Rattle.cec_commands.specs.Runs.{line_answer, ShowsRun}
use Rattle.cec_commands.specs.declared.jobs.Task.TheVariants.{Text, Grc, Check}

-- ---- lines of counts

-- a sequence of a pause and a parallel of a pause and nothing
abbrev program : Program
program = record { name = codes "T"; signals = []; inputs = 0; both = 0; outputs = 0; relations = []; body = Seq Pause (Par Pause Nothing) }

counts : counts_line program ≡ codes "T: 5 nodes, 2 pauses, 9 instances, 19 wires\n"
unfolding digits listed codes_below
counts = refl

the_list_of_commands : help_text
    ≡ concat (codes "cec blif [--main M] [--pick P] [--encode] FILE\ncec c [--main M] [--pick P] [--guard] FILE\n"
    ∷ codes "cec verilog [--main M] [--pick P] FILE\ncec grc [--main M] FILE\ncec check [--main M] FILE\n"
    ∷ codes "cec run --via blif|c|guard|verilog|tri [--main M] [--pick P] [--encode] FILE TRACE\n"
    ∷ codes "cec exec --via blif|c|guard|verilog TEXT TRACE\ncec gen --start N --branches N [--run N]\n" ∷ [])
the_list_of_commands = refl

-- ---- loads

abbrev event : Bool → Bool → Bool → Bool → Bool → Bool → Bool → Bool → Item
event a b c d e f g h = Event (a ∷ b ∷ c ∷ d ∷ e ∷ f ∷ g ∷ h ∷ [])

-- eight draws for each instant
one_drawn_instant : drawn_items 1 (first_state 11) ≡ event false true false true true false false false ∷ []
one_drawn_instant = refl

the_next_one : drawn_items 2 (first_state 11) ≡ event false true false true true false false false ∷ drawn_items 1 1000760707
the_next_one = refl

-- three draws for each branch
behind_the_draws : state_behind 11 2 ≡ state_after 6 11
behind_the_draws = refl

-- two instants that pause, and one that ends
abbrev answers : List Answer
answers = record { outputs = true ∷ false ∷ true ∷ []; code = 1 } ∷ record { outputs = false ∷ false ∷ false ∷ []; code = 1 }
    ∷ record { outputs = true ∷ false ∷ false ∷ []; code = 0 } ∷ []

numbers : emitted_count answers ∷ paused_count answers ∷ [] ≡ 3 ∷ 2 ∷ []
numbers = refl

summary : summary_text 3 answers ≡ codes "instants 3\nemitted 3\npaused 2\n"
unfolding digits
summary = refl

a_summary : (bytes : List ℕ) (state instants : ℕ) (text : List ℕ) (h : IsSummary bytes state instants text)
    → StandsFor bytes None h.program × Compiles h.program × AreItems h.program (drawn_items instants state)
    × (run_of h.program (drawn_items instants state) ≡ Some h.answers) × (text ≡ summary_text instants h.answers)
a_summary bytes state instants text h = (h.source, h.compiles, h.events, h.constructive, h.numbers)

-- ---- lines of runs

lines : map line_answer (record { outputs = true ∷ []; code = 0 } ∷ record { outputs = false ∷ []; code = 1 } ∷ record { outputs = true ∷ []; code = 2 } ∷ [])
    ≡ record { present = true ∷ []; word = Ended } ∷ record { present = false ∷ []; word = Paused } ∷ record { present = true ∷ []; word = Ended } ∷ []
lines = refl

a_run : (p : Program) (items : List Item) (text : List ℕ) (h : ShowsRun p items text)
    → (run_of p items ≡ Some h.answers) × (text ≡ machines.answer_lines (outgoing_names p) (map line_answer h.answers))
a_run p items text h = (h.constructive, h.lines)

-- ---- answers of tasks

a_listing : (bytes : List ℕ) (main : Option (List ℕ)) (text : List ℕ) (h : IsAnswer Grc main bytes text)
    → StandsFor bytes main h.program × Compiles h.program × (text ≡ program_listing h.program)
a_listing bytes main text h = (h.source, h.compiles, h.listing)

a_line_of_counts : (bytes : List ℕ) (main : Option (List ℕ)) (text : List ℕ) (h : IsAnswer Check main bytes text)
    → StandsFor bytes main h.program × Compiles h.program × (text ≡ counts_line h.program)
a_line_of_counts bytes main text h = (h.source, h.compiles, h.counts)

a_text : (bytes : List ℕ) (main : Option (List ℕ)) (text : List ℕ) → IsAnswer (Text forms.Verilog) main bytes text
    → IsSourceText forms.Verilog main bytes text
a_text bytes main text h = h
