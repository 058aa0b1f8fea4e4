-- Written by hand: what a line speaks of, row by row: by each command the names of the files, the main module's name and the source.
use Rattle.std.proofs.Common.{◌≡◌, ℕ, List, [], ◌∷◌, Option, Some, None, codes, refl, inl}
use Rattle.cec_compile.specs.declared.forms.TextForm.{TextForm}
use Rattle.cec_commands.specs.declared.outcome.Outcome.{Outcome}
use Rattle.cec_commands.specs.declared.outcome.Outcome.TheVariants.{Usage}
use Rattle.cec_commands.specs.Jobs.{Job, Request, Help, Make, Run, RunTri, Exec, Generate, Load}
use Rattle.cec_commands.specs.Lines.{Subject, IsSourceSubject, IsSubjectOf, GainsErr, line_of}
use Rattle.cec_words.specs.declared.asked.Pick.TheVariants as picks
use Rattle.cec_words.specs.declared.asked.Via.{Via}
use Rattle.est_gen.specs.Sources.{source_text}
use Rattle.cec_text_io.specs.Contents.{Content}
use Rattle.cec_text_io.specs.ErrorLines.{GainsLine}

-- the file p holds one byte
abbrev content : Content
content = Some (λ name. 7 ∷ [])

abbrev job : Option (List ℕ) → Job
job main = record { name = codes "p"; main = main; pick = picks.First }

abbrev subject : List ℕ → List ℕ → List ℕ → List ℕ → Subject
subject name trace main source = record { name = name; trace = trace; main = main; source = source }

of_a_source : IsSourceSubject (job (Some (codes "M"))) content (subject (codes "p") [] (codes "M") (7 ∷ []))
of_a_source = (refl, refl, refl)

-- where no main module is named, no line names one
without_a_main_module : IsSourceSubject (job None) content (subject (codes "p") [] [] (7 ∷ []))
without_a_main_module = (refl, refl, refl)

not_of_another_source : IsSourceSubject (job None) content (subject (codes "p") [] [] []) → ⊥
not_of_another_source h = let e = h.2 in cc

not_of_another_file : IsSourceSubject (job None) content (subject [] [] [] (7 ∷ [])) → ⊥
not_of_another_file h = let e = h.0 in cc

not_of_another_main_module : IsSourceSubject (job None) content (subject (codes "p") [] (codes "M") (7 ∷ [])) → ⊥
not_of_another_main_module h = let e = h.1 in cc

-- ---- by commands

of_a_task : (task : _) (job : Job) (content : Content) (x : Subject) → IsSubjectOf (Some (Make task job)) content x → IsSourceSubject job content x
of_a_task task job content x h = h

of_a_run : (via : TextForm) (job : Job) (trace : List ℕ) (content : Content) (x : Subject) → IsSubjectOf (Some (Run via job trace)) content x
    → IsSourceSubject job content x × (x.trace ≡ trace)
of_a_run via job trace content x h = h

of_reactions : (job : Job) (trace : List ℕ) (content : Content) (x : Subject) → IsSubjectOf (Some (RunTri job trace)) content x
    → IsSourceSubject job content x × (x.trace ≡ trace)
of_reactions job trace content x h = h

of_a_text : (via : Via) (text trace : List ℕ) (content : Content) (x : Subject) → IsSubjectOf (Some (Exec via text trace)) content x
    → (x.name ≡ text) × (x.trace ≡ trace)
of_a_text via text trace content x h = h

of_drawn_events : (start branches instants : ℕ) (content : Content) (x : Subject) → IsSubjectOf (Some (Load start branches instants)) content x
    → (x.main ≡ []) × (x.source ≡ source_text start branches)
of_drawn_events start branches instants content x h = h

-- the other commands read no file
of_no_file : (x : Subject) → IsSubjectOf None content x × IsSubjectOf (Some Help) content x × IsSubjectOf (Some (Generate 7 1)) content x
of_no_file x = (tt, tt, tt)

what_is_gained : (asked : Option Request) (content : Content) (outcome : Outcome) (old new : Option (List ℕ)) (before now : ℕ)
    (h : GainsErr asked content outcome old new before now)
    → IsSubjectOf asked content h.subject × GainsLine old new before now (line_of h.subject outcome)
what_is_gained asked content outcome old new before now h = (h.is_subject, h.gains)

-- words without a meaning
of_usage : GainsErr None content Usage (Some []) (Some (codes "cec: usage, see cec --help\n")) 0 0
of_usage = record { subject = subject [] [] [] []; is_subject = tt; gains = inl (record { faults = refl; whole = refl }) }
