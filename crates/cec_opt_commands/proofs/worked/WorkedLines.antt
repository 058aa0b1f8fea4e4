-- Worked depths, counts, lines and statuses, by hand, and what words ask for.
use Rattle.std.proofs.Common.{◌≡◌, ℕ, true, false, List, [], ◌∷◌, map, None, Some, Ok, Err, codes, refl}
use Rattle.std.specs.Fmt.{digits}
use Rattle.net_ir.specs.declared.netlist.Op.TheVariants.{Const, Copy, Not, And, Or}
use Rattle.net_ir.specs.Netlists.{Netlist}
use Rattle.blif_read.specs.declared.fault.BlifFault.TheVariants.{Line, TwoDrivers, NoDriver, NoPause, Model, Input, Output, Again, NoInput}
use Rattle.base_types.specs.declared.files.reading.FileFault.TheVariants as reading
use Rattle.cec_compile.specs.declared.refusal.Limit.TheVariants as limits
use Rattle.cec_compile.specs.declared.refusal.Refusal.TheVariants as refusing
use Rattle.csub_embed.specs.declared.fault.EmbedFault.TheVariants.{NoName, TypeTaken, Reserved}
use Rattle.csub_embed.specs.declared.layout.EmbedFile.TheVariants.{Header, Declarations, Definitions}
use Rattle.csub_embed.specs.declared.layout.EmbedLayout.{EmbedLayout}
use Rattle.cec_opt_commands.specs.Answers.{counts_line}
use Rattle.blif_net.specs.Depths.{op_depth, net_depths, greatest, depth_of}
use Rattle.cec_opt_commands.specs.Lines.{line_of, named, source_subject}
use Rattle.cec_opt_commands.specs.Statuses.{refusal_outcome, source_unread_outcome, status_of, written_of, written_outcome}
use Rattle.cec_opt_commands.specs.Words.{Do, Make, Tell, Write, Embed, Check, request_by}
use Rattle.cec_opt_commands.specs.declared.words.Form.TheVariants as forms
use Rattle.cec_words.specs.declared.common.About.TheVariants.{Commands, Version}
use Rattle.cec_opt_commands.specs.declared.outcome.OptOutcome.TheVariants.{Done, Usage, FileFault, BadText, TooLong, Refused, WriteFault}
use Rattle.cec_opt_commands.specs.declared.outcome.OptOutcome.TheVariants.{BadComponent, NoMemory}
use Rattle.cec_text_io.specs.declared.writing.Written.TheVariants as ends

-- ---- depths and counts

-- nets 0 and 1 are inputs, net 2 is a latch, and the gates have the nets from 3 on
abbrev net : Netlist
net = record {
  name = codes "T";
  inputs = codes "A" ∷ codes "B" ∷ [];
  outputs = record { name = codes "O"; net = record { 0 = 6 } } ∷ [];
  paused = 7;
  latches = record { init = true; from = record { 0 = 6 } } ∷ [];
  gates = record { op = And (record { 0 = 0 }) (record { 0 = 1 }); wire = None }
      ∷ record { op = Copy (record { 0 = 3 }); wire = None }
      ∷ record { op = Not (record { 0 = 4 }); wire = None }
      ∷ record { op = Or (record { 0 = 2 }) (record { 0 = 5 }); wire = None }
      ∷ record { op = Const true; wire = None } ∷ [];
}

depths_of_operators : map (op_depth (λ n. n)) (Const true ∷ Copy (record { 0 = 4 }) ∷ Not (record { 0 = 4 }) ∷ And (record { 0 = 4 }) (record { 0 = 2 })
    ∷ And (record { 0 = 2 }) (record { 0 = 4 }) ∷ Or (record { 0 = 4 }) (record { 0 = 2 }) ∷ Or (record { 0 = 2 }) (record { 0 = 4 }) ∷ [])
    ≡ 0 ∷ 4 ∷ 5 ∷ 5 ∷ 5 ∷ 5 ∷ 5 ∷ []
depths_of_operators = refl

depths : net_depths net ≡ 0 ∷ 0 ∷ 0 ∷ 1 ∷ 1 ∷ 2 ∷ 3 ∷ 0 ∷ []
depths = refl

greatest_ones : map greatest ([] ∷ (2 ∷ 5 ∷ 3 ∷ []) ∷ (4 ∷ []) ∷ []) ≡ 0 ∷ 5 ∷ 4 ∷ []
greatest_ones = refl

depth : depth_of net ≡ 3
depth = refl

counts : counts_line net ≡ codes "T: 2 inputs, 2 outputs, 1 latches, 5 gates, depth 3\n"
unfolding digits
counts = refl

-- ---- lines and statuses

statuses : map status_of (Done ∷ Usage ∷ FileFault ∷ BadText (Line 3) ∷ BadText (NoInput (codes "a")) ∷ BadComponent NoName ∷ TooLong ∷ WriteFault
    ∷ NoMemory ∷ [])
    ≡ 0 ∷ 2 ∷ 3 ∷ 7 ∷ 7 ∷ 14 ∷ 8 ∷ 9 ∷ 10 ∷ []
statuses = refl

lines : map (line_of (named (codes "p.blif"))) (Done ∷ Usage ∷ FileFault ∷ TooLong ∷ WriteFault ∷ NoMemory ∷ [])
    ≡ [] ∷ codes "cec-opt: p.blif, see cec-opt --help\n" ∷ codes "cec-opt: cannot read p.blif\n" ∷ codes "cec-opt: limit: text\n"
    ∷ codes "cec-opt: cannot write\n" ∷ codes "cec-opt: out of memory\n" ∷ []
lines = refl

lines_of_faults : map (λ fault. line_of (named []) (BadText fault)) (Line 12 ∷ TwoDrivers (codes "a") ∷ NoDriver (codes "a") ∷ NoPause
    ∷ Model (codes "a") ∷ Input (codes "a") ∷ Output (codes "a") ∷ Again (codes "a") ∷ NoInput (codes "a") ∷ [])
    ≡ codes "cec-opt: line 12: not in the profile\n" ∷ codes "cec-opt: two drivers: a\n" ∷ codes "cec-opt: no driver: a\n"
    ∷ codes "cec-opt: last output is not _paused\n" ∷ codes "cec-opt: bad model: a\n" ∷ codes "cec-opt: bad input: a\n" ∷ codes "cec-opt: bad output: a\n"
    ∷ codes "cec-opt: output twice: a\n" ∷ codes "cec-opt: no input: a\n" ∷ []
unfolding digits
lines_of_faults = refl

lines_of_components : map (λ fault. line_of (named []) (BadComponent fault)) (NoName ∷ TypeTaken ∷ Reserved (codes "int") ∷ [])
    ≡ codes "cec-opt: the name after --embed is not a letter followed by letters, digits and _\n"
    ∷ codes "cec-opt: the name after --embed, with _t, is a type of the library\n" ∷ codes "cec-opt: a signal is a word of C or C++: int\n" ∷ []
lines_of_components = refl

endings : map written_of (Done ∷ WriteFault ∷ NoMemory ∷ Usage ∷ FileFault ∷ TooLong ∷ [])
    ≡ Some ends.Done ∷ Some ends.WriteFault ∷ Some ends.NoMemory ∷ None ∷ None ∷ None ∷ []
endings = refl

outcomes : map written_outcome (ends.Done ∷ ends.WriteFault ∷ ends.NoMemory ∷ []) ≡ Done ∷ WriteFault ∷ NoMemory ∷ []
outcomes = refl

-- ---- words

about : map request_by ((codes "--help" ∷ []) ∷ (codes "--version" ∷ []) ∷ []) ≡ Ok (Tell Commands) ∷ Ok (Tell Version) ∷ []
about = refl

misuses : map request_by ([] ∷ (codes "check" ∷ []) ∷ (codes "run" ∷ []) ∷ (codes "check" ∷ codes "-p" ∷ []) ∷ (codes "check" ∷ [] ∷ [])
    ∷ (codes "run" ∷ codes "p" ∷ []) ∷ (codes "check" ∷ codes "p" ∷ codes "p" ∷ []) ∷ (codes "c" ∷ codes "p" ∷ codes "q" ∷ codes "r" ∷ [])
    ∷ (codes "--help" ∷ codes "p" ∷ codes "q" ∷ []) ∷ [])
    ≡ map Err (codes "no command" ∷ codes "no file after check" ∷ codes "unknown word: run" ∷ codes "not a file: -p" ∷ codes "not a file: "
    ∷ codes "unknown word: run" ∷ codes "one word too many: p" ∷ codes "one word too many: q" ∷ codes "one word too many: p" ∷ [])
misuses = refl

sources : map request_by ((codes "check" ∷ codes "--source" ∷ codes "p" ∷ [])
    ∷ (codes "c" ∷ codes "--main" ∷ codes "M" ∷ codes "--source" ∷ codes "p" ∷ [])
    ∷ (codes "blif" ∷ codes "--source" ∷ codes "p" ∷ codes "--main" ∷ codes "M" ∷ []) ∷ [])
    ≡ Ok (Make Check (codes "p") None) ∷ Ok (Make (Write forms.C) (codes "p") (Some (codes "M")))
    ∷ Ok (Make (Write forms.Blif) (codes "p") (Some (codes "M"))) ∷ []
sources = refl

abbrev plain : EmbedLayout
plain = record { packed = false; file = Header }

components : map request_by ((codes "c" ∷ codes "--embed" ∷ codes "lift" ∷ codes "p" ∷ [])
    ∷ (codes "c" ∷ codes "--embed" ∷ codes "9" ∷ codes "--source" ∷ codes "p" ∷ [])
    ∷ (codes "c" ∷ codes "--embed" ∷ codes "lift" ∷ codes "--main" ∷ codes "M" ∷ codes "--source" ∷ codes "p" ∷ []) ∷ [])
    ≡ Ok (Do (Embed (codes "lift") plain) [] (codes "p")) ∷ Ok (Make (Embed (codes "9") plain) (codes "p") None)
    ∷ Ok (Make (Embed (codes "lift") plain) (codes "p") (Some (codes "M"))) ∷ []
components = refl

misuses_of_components : map request_by ((codes "c" ∷ codes "--embed" ∷ []) ∷ (codes "c" ∷ codes "--embed" ∷ codes "lift" ∷ [])
    ∷ (codes "c" ∷ codes "--embed" ∷ codes "-l" ∷ codes "p" ∷ []) ∷ (codes "c" ∷ codes "--embed" ∷ codes "lift" ∷ codes "p" ∷ codes "q" ∷ [])
    ∷ (codes "c" ∷ codes "--embed" ∷ codes "lift" ∷ codes "--source" ∷ [])
    ∷ (codes "c" ∷ codes "--source" ∷ codes "p" ∷ codes "--embed" ∷ codes "lift" ∷ [])
    ∷ (codes "c" ∷ codes "--embed" ∷ codes "lift" ∷ codes "--embed" ∷ codes "lift" ∷ [])
    ∷ (codes "blif" ∷ codes "--embed" ∷ []) ∷ (codes "blif" ∷ codes "--embed" ∷ codes "lift" ∷ codes "p" ∷ []) ∷ [])
    ≡ map Err (codes "no value after --embed" ∷ codes "no file after c" ∷ codes "bad option: --embed" ∷ codes "one word too many: q"
    ∷ codes "no value after --source" ∷ codes "bad option: --embed" ∷ codes "bad option: --embed" ∷ codes "not a file: --embed"
    ∷ codes "bad option: --embed" ∷ [])
misuses_of_components = refl

-- the words after `c --embed lift`
abbrev lift : List (List ℕ) → List (List ℕ)
lift words = codes "c" ∷ codes "--embed" ∷ codes "lift" ∷ words

layouts : map (λ words. request_by (lift words)) ((codes "--packed" ∷ codes "p" ∷ []) ∷ (codes "--header" ∷ codes "p" ∷ [])
    ∷ (codes "--declarations" ∷ codes "--packed" ∷ codes "p" ∷ []) ∷ (codes "--packed" ∷ codes "--definitions" ∷ codes "--source" ∷ codes "p" ∷ [])
    ∷ [])
    ≡ Ok (Do (Embed (codes "lift") (record { packed = true; file = Header })) [] (codes "p")) ∷ Ok (Do (Embed (codes "lift") plain) [] (codes "p"))
    ∷ Ok (Do (Embed (codes "lift") (record { packed = true; file = Declarations })) [] (codes "p"))
    ∷ Ok (Make (Embed (codes "lift") (record { packed = true; file = Definitions })) (codes "p") None) ∷ []
layouts = refl

misuses_of_layouts : map (λ words. request_by (lift words)) ((codes "--packed" ∷ []) ∷ (codes "--packed" ∷ codes "--header" ∷ [])
    ∷ (codes "--packed" ∷ codes "--packed" ∷ codes "p" ∷ []) ∷ (codes "--declarations" ∷ codes "--definitions" ∷ codes "p" ∷ [])
    ∷ (codes "--packed" ∷ codes "--header" ∷ codes "--packed" ∷ []) ∷ (codes "--header" ∷ codes "--packed" ∷ codes "--packed" ∷ codes "p" ∷ [])
    ∷ (codes "--packed" ∷ codes "p" ∷ codes "q" ∷ []) ∷ (codes "--packed" ∷ codes "--source" ∷ []) ∷ (codes "p" ∷ codes "--packed" ∷ [])
    ∷ (codes "--header" ∷ codes "--header" ∷ codes "p" ∷ []) ∷ [])
    ≡ map Err (codes "no file after c" ∷ codes "no file after c" ∷ codes "bad option: --packed" ∷ codes "bad option: --definitions"
    ∷ codes "not a file: --packed" ∷ codes "bad option: --packed" ∷ codes "one word too many: q" ∷ codes "no value after --source"
    ∷ codes "one word too many: --packed" ∷ codes "bad option: --header" ∷ [])
misuses_of_layouts = refl

misuses_of_options : map request_by ((codes "c" ∷ codes "--source" ∷ []) ∷ (codes "c" ∷ codes "--main" ∷ codes "M" ∷ [])
    ∷ (codes "c" ∷ codes "--mine" ∷ codes "M" ∷ []) ∷ (codes "c" ∷ codes "--source" ∷ codes "p" ∷ codes "q" ∷ [])
    ∷ (codes "c" ∷ codes "--source" ∷ codes "p" ∷ codes "--source" ∷ codes "q" ∷ [])
    ∷ (codes "c" ∷ codes "--source" ∷ codes "p" ∷ codes "--main" ∷ codes "M" ∷ codes "q" ∷ [])
    ∷ (codes "c" ∷ codes "p" ∷ codes "--main" ∷ codes "M" ∷ []) ∷ (codes "c" ∷ codes "--source" ∷ codes "-p" ∷ []) ∷ [])
    ≡ map Err (codes "no value after --source" ∷ codes "no file after c" ∷ codes "bad option: --mine" ∷ codes "no value after q"
    ∷ codes "bad option: --source" ∷ codes "one word too many: q" ∷ codes "one word too many: --main" ∷ codes "bad option: --source" ∷ [])
misuses_of_options = refl

-- ---- sources

refusals_end : map (λ r. status_of (refusal_outcome r)) (refusing.Limit limits.Wires ∷ refusing.NoMemory ∷ []) ≡ 8 ∷ 10 ∷ []
refusals_end = refl

unread : map source_unread_outcome (reading.Failed ∷ reading.TooLong ∷ reading.NoMemory ∷ [])
    ≡ FileFault ∷ Refused (refusing.Limit limits.Source) ∷ NoMemory ∷ []
unread = refl

line_of_limit : line_of (source_subject (codes "p.strl") None []) (Refused (refusing.Limit limits.Source))
    ≡ codes "cec-opt: a limit is passed, see cec check p.strl\n"
line_of_limit = refl
