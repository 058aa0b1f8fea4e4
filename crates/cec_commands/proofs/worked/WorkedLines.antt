-- Worked lines and statuses of outcomes, by hand.
use Rattle.std.proofs.Common.{◌≡◌, ℕ, List, [], ◌∷◌, map, codes, refl}
use Rattle.std.specs.Fmt.{digits}
use Rattle.cec_compile.specs.declared.refusal.Limit.TheVariants as limits
use Rattle.cec_compile.specs.declared.refusal.Refusal.TheVariants as refusals
use Rattle.cec_commands.specs.declared.outcome.Outcome.{Outcome}
use Rattle.cec_commands.specs.declared.outcome.Outcome.TheVariants.{Done, Usage, FileFault, Trace, Limit, WriteFault, NoMemory}
use Rattle.cec_words.specs.declared.common.Which.TheVariants.{First, Second}
use Rattle.cec_commands.specs.Lines.{Subject, line_of}
use Rattle.cec_commands.specs.Statuses.{status_of, outcome_of, written_outcome}
use Rattle.cec_text_io.specs.declared.writing.Written.TheVariants as ends
use Rattle.run_trace_io.specs.declared.faults.TraceFault.TheVariants as traces

abbrev subject : Subject
subject = record { name = codes "p.strl"; trace = codes "t.txt"; main = codes "M"; source = [] }

abbrev line : Outcome → List ℕ
line = line_of subject

statuses : map status_of (Done ∷ Usage ∷ FileFault First ∷ Trace (traces.BadByte 3) ∷ Limit limits.Text ∷ WriteFault ∷ NoMemory ∷ [])
    ≡ 0 ∷ 2 ∷ 3 ∷ 6 ∷ 8 ∷ 9 ∷ 10 ∷ []
statuses = refl

lines : map line (Done ∷ Usage ∷ FileFault First ∷ FileFault Second ∷ WriteFault ∷ NoMemory ∷ [])
    ≡ [] ∷ codes "cec: usage, see cec --help\n" ∷ codes "cec: cannot read p.strl\n" ∷ codes "cec: cannot read t.txt\n" ∷ codes "cec: cannot write\n"
    ∷ codes "cec: out of memory\n" ∷ []
lines = refl

of_limits : map (λ limit. line (Limit limit)) (limits.Source ∷ limits.Trace ∷ limits.Text ∷ limits.Nesting ∷ limits.Statements ∷ limits.Signals ∷ limits.Kernel
    ∷ limits.Height ∷ limits.Traps ∷ limits.Instances ∷ limits.Wires ∷ [])
    ≡ codes "cec: limit: source\n" ∷ codes "cec: limit: trace\n" ∷ codes "cec: limit: text\n" ∷ codes "cec: limit: nesting\n" ∷ codes "cec: limit: statements\n"
    ∷ codes "cec: limit: signals\n" ∷ codes "cec: limit: kernel\n" ∷ codes "cec: limit: height\n" ∷ codes "cec: limit: traps\n" ∷ codes "cec: limit: instances\n"
    ∷ codes "cec: limit: wires\n" ∷ []
of_limits = refl

of_traces : map (λ fault. line (Trace fault)) (traces.BadByte 12 ∷ traces.UnknownInput 3 (codes "A") ∷ traces.Repeated 3 (codes "A") ∷ traces.BadReset 3
    ∷ traces.OpenInstant 3 ∷ traces.Breaks 3 0 ∷ [])
    ≡ codes "cec: byte 12: bad byte\n" ∷ codes "cec: instant 3: unknown input A\n" ∷ codes "cec: instant 3: repeated A\n" ∷ codes "cec: instant 3: bad reset\n"
    ∷ codes "cec: instant 3: open\n" ∷ codes "cec: instant 3: breaks relation 0\n" ∷ []
unfolding digits
of_traces = refl

of_endings : map written_outcome (ends.Done ∷ ends.WriteFault ∷ ends.NoMemory ∷ []) ≡ Done ∷ WriteFault ∷ NoMemory ∷ []
of_endings = refl

of_refusals : outcome_of (refusals.Limit limits.Wires) ∷ outcome_of refusals.NoMemory ∷ [] ≡ Limit limits.Wires ∷ NoMemory ∷ []
of_refusals = refl
