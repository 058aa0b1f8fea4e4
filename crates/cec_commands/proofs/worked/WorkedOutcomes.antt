-- Worked outcomes, by hand: what each says of the files, of what was read and of what is written, and what words ask for.
use Rattle.std.proofs.Common.{◌≡◌, ℕ, true, false, List, [], ◌∷◌, Some, None, map, codes, subst, refl, arith, lit≤}
use Rattle.cec_words.specs.declared.asked.Asked.TheVariants as asks
use Rattle.cec_words.specs.declared.asked.Pick.TheVariants as picks
use Rattle.cec_words.specs.declared.asked.Source.{Source}
use Rattle.cec_words.specs.declared.asked.Via.TheVariants as vias
use Rattle.cec_compile.specs.declared.forms.TextForm.TheVariants as forms
use Rattle.cec_compile.specs.declared.refusal.Limit.TheVariants as limits
use Rattle.cec_commands.specs.declared.jobs.Task.TheVariants.{Text, Grc, Check}
use Rattle.cec_commands.specs.declared.outcome.Outcome.{Outcome}
use Rattle.cec_commands.specs.declared.outcome.Outcome.TheVariants.{Done, Usage, FileFault, Trace, Limit, WriteFault, NoMemory}
use Rattle.cec_words.specs.declared.common.Which.TheVariants.{First, Second}
use Rattle.cec_commands.specs.Jobs.{Job, Help, Make, Run, RunTri, Exec, Generate, Load, c_form, form_by, request_asked, request_by, word_at}
use Rattle.cec_commands.specs.Outcomes.{IsOutcomeOf, AgreesOnFile, AgreesOnTwo, CountsFiles, ExecutesIn}
use Rattle.cec_commands.specs.Outcomes.{IsFileOf, IsLongTrace, IsWriting, MakesOn, RunsOn, written_of}
use Rattle.cec_text_io.specs.declared.writing.Written.TheVariants as ends
use Rattle.run_trace_io.specs.declared.faults.TraceFault.TheVariants as traces

-- ---- what words ask for

forms_of_texts : form_by vias.Blif false ∷ form_by vias.Blif true ∷ form_by vias.C true ∷ form_by vias.C false ∷ form_by vias.Guard true
    ∷ form_by vias.Guard false ∷ form_by vias.Verilog false ∷ []
    ≡ forms.Blif ∷ forms.EncodedBlif ∷ forms.C ∷ forms.C ∷ forms.Guarded ∷ forms.Guarded ∷ forms.Verilog ∷ []
forms_of_texts = refl

forms_of_c_texts : c_form true ∷ c_form false ∷ [] ≡ forms.Guarded ∷ forms.C ∷ []
forms_of_c_texts = refl

abbrev words : List (List ℕ)
words = codes "blif" ∷ codes "--main=M" ∷ codes "p.strl" ∷ codes "t.txt" ∷ []

-- the file is the third word, and the main module's name stands behind seven bytes of the second
abbrev source : Source
source = record { file = 2; main = Some (record { word = 1; start = 7 }); pick = picks.Last; encode = true; guard = false }

abbrev job : Job
job = record { name = codes "p.strl"; main = Some (codes "M"); pick = picks.Last }

requests : map (request_asked words) (asks.Help ∷ asks.Blif source ∷ asks.C source ∷ asks.C (record source { guard = true }) ∷ asks.Verilog source
    ∷ asks.Grc source ∷ asks.Check source
    ∷ asks.Run vias.Blif source 3 ∷ asks.RunTri source 3 ∷ asks.Exec vias.C 2 3 ∷ asks.Gen 5 6 None ∷ asks.Gen 5 6 (Some 7) ∷ [])
    ≡ Help ∷ Make (Text forms.EncodedBlif) job ∷ Make (Text forms.C) job ∷ Make (Text forms.Guarded) job ∷ Make (Text forms.Verilog) job
    ∷ Make Grc job ∷ Make Check job
    ∷ Run forms.EncodedBlif job (codes "t.txt") ∷ RunTri job (codes "t.txt") ∷ Exec vias.C (codes "p.strl") (codes "t.txt") ∷ Generate 5 6 ∷ Load 5 6 7 ∷ []
requests = refl

-- `check p.strl`
requests_by_words : request_by (codes "check" ∷ codes "p.strl" ∷ [])
    ∷ request_by (codes "check" ∷ []) ∷ []
    ≡ Some (Make Check (record { name = codes "p.strl"; main = None; pick = picks.First })) ∷ None ∷ []
requests_by_words = refl

words_at_places : word_at words 0 ∷ word_at words 4 ∷ [] ≡ codes "blif" ∷ [] ∷ []
words_at_places = refl

-- ---- files

abbrev trace : List ℕ
trace = codes "t.txt"

first_files : IsFileOf (Make Check job) First (codes "p.strl") × IsFileOf (Run forms.C job trace) First (codes "p.strl")
    × IsFileOf (RunTri job trace) First (codes "p.strl") × IsFileOf (Exec vias.C (codes "p.c") trace) First (codes "p.c")
first_files = (refl, refl, refl, refl)

second_files : IsFileOf (Run forms.C job trace) Second trace × IsFileOf (RunTri job trace) Second trace
    × IsFileOf (Exec vias.C (codes "p.c") trace) Second trace
second_files = (refl, refl, refl)

one_file_alone : IsFileOf (Make Check job) Second (codes "p.strl") → ⊥
one_file_alone h = h

no_file : IsFileOf (Generate 1 2) First [] → ⊥
no_file h = h

nothing_failed : CountsFiles None Usage 3 3 trace trace × CountsFiles (Some Help) Done 3 3 trace trace × CountsFiles (Some (RunTri job trace)) Usage
    3 3 [] []
nothing_failed = ((refl, refl), (refl, refl), (refl, refl))

a_file_failed : CountsFiles (Some (RunTri job trace)) (FileFault Second) 3 4 [] trace
a_file_failed = (record { kept = lit≤ tt; more = lit≤ tt }, refl)

no_count_of_a_failure : CountsFiles (Some (RunTri job trace)) (FileFault Second) 3 3 [] trace → ⊥
no_count_of_a_failure h = let more = h.0.more in omega (arith, more)

no_failure_without_a_file : CountsFiles (Some Help) Done 3 4 [] [] → ⊥
no_failure_without_a_file h = let e = h.0 in omega (arith, e)

-- ---- what is written

endings : map written_of (Done ∷ WriteFault ∷ NoMemory ∷ Usage ∷ FileFault First ∷ Limit limits.Text ∷ [])
    ≡ Some ends.Done ∷ Some ends.WriteFault ∷ Some ends.NoMemory ∷ None ∷ None ∷ None ∷ []
endings = refl

writings : IsWriting Done × IsWriting WriteFault × IsWriting NoMemory
writings = (tt, tt, tt)

no_writing : IsWriting Usage → ⊥
no_writing h = h

-- ---- causes

words_without_a_meaning : IsOutcomeOf None None Usage
words_without_a_meaning = refl

nothing_else_for_them : IsOutcomeOf None None Done → ⊥
nothing_else_for_them h = cc

help_is_written : IsOutcomeOf (Some Help) None WriteFault × IsOutcomeOf (Some (Generate 1 2)) None NoMemory
help_is_written = (tt, tt)

no_other_end_of_help : IsOutcomeOf (Some Help) None (FileFault First) → ⊥
no_other_end_of_help h = h

never_made : MakesOn None Usage [] → ⊥
never_made h = h

memory_was_wanting : MakesOn None NoMemory [] × RunsOn forms.C None NoMemory []
memory_was_wanting = (tt, tt)

no_long_source : MakesOn None (Limit limits.Source) (1 ∷ []) → ⊥
no_long_source h = omega (arith, h)

no_long_trace : IsLongTrace (1 ∷ []) → ⊥
no_long_trace h = omega (arith, h)

never_run : RunsOn forms.C None (FileFault First) [] → ⊥
never_run h = h

-- texts that run are empty, and a fault is that of a text of one byte
abbrev Executes : Outcome → List ℕ → Type 0
Executes = ExecutesIn (λ bytes. bytes ≡ []) (λ bytes fault. bytes ≡ 1 ∷ [])

texts_run : Executes Done [] × Executes (FileFault Second) [] × Executes (Trace (traces.OpenInstant 3)) [] × Executes (Limit limits.Trace) []
    × Executes WriteFault []
texts_run = (refl, refl, refl, refl, refl)

want_of_memory_has_no_cause : Executes NoMemory (1 ∷ 2 ∷ [])
want_of_memory_has_no_cause = tt

no_text_runs : Executes Done (1 ∷ []) → ⊥
no_text_runs h = cc

no_long_text : Executes (Limit limits.Text) (1 ∷ []) → ⊥
no_long_text h = omega (arith, h)

no_first_file : Executes (FileFault First) [] → ⊥
no_first_file h = h

-- the bytes of each file are its name
abbrev On : Outcome → List ℕ → Type 0
On outcome bytes = bytes ≡ codes "p.strl"

on_one_file : AgreesOnFile (Some (λ name. name)) (codes "p.strl") On Done × AgreesOnFile (Some (λ name. name)) [] On (FileFault First)
on_one_file = ((codes "p.strl", refl, refl), tt)

not_on_another : AgreesOnFile (Some (λ name. name)) [] On (FileFault Second) → ⊥
not_on_another (bytes, held, is) = cc

on_two_files : AgreesOnTwo (Some (λ name. name)) (codes "p.strl") trace On Done × AgreesOnTwo (Some (λ name. name)) [] trace On (FileFault First)
on_two_files = ((codes "p.strl", refl, refl), tt)

no_short_trace_is_long : AgreesOnTwo (Some (λ name. name)) (codes "p.strl") trace On (Limit limits.Trace) → ⊥
no_short_trace_is_long (first, (bytes, is, long)) = short bytes is long
  where
    no_long_name : IsLongTrace trace → ⊥
    no_long_name h = omega (arith, h)

    short : (bytes : List ℕ) → bytes ≡ trace → IsLongTrace bytes → ⊥
    short bytes e long = no_long_name (subst IsLongTrace e long)
