use Rattle.std.proofs.Common.{◌≡◌, ◌∙◌, Bool, true, false, refl, sym, ap, subst, Ok, Some}
use Rattle.std.specs.Bool.{Decides}
use Rattle.std.proofs.Math.Bool.{beq}
use Rattle.std.proofs.lemmas.Slice.Eq.{slice_eq-Decides}
use Rattle.run_trace_io.specs.Answers.{AnswersGroup, reading_of}
use Rattle.cec_prove_sources.specs.Reading.{IsNext}
use Rattle.cec_prove_sources.proofs.reading.is_next.Goals as goal

Decides-beq : (a b : Bool) → Decides (beq a b) (a ≡ b)
Decides-beq true true = (λ e. refl, λ e. refl)
Decides-beq false false = (λ e. refl, λ e. refl)
Decides-beq true false = (λ e. sym e, λ e. sym e)
Decides-beq false true = (λ e. e, λ e. e)

pub returns-in-Ok-Some-React : goal.returns-in-Ok-Some-React
returns-in-Ok-Some-React c = λ yes.
    let r = reading_of c.args.reader.now in
    let later = reading_of c.next.new.self in
    let is = c.in-Ok-Some-React.is ∙ ap Ok (c.in-Ok-Some-React.field-0-is ∙ ap Some c.in-Ok-Some-React.field-0-0-is) in
    let a = subst (λ x. AnswersGroup r x later) is c.next.ensures in
    let same = slice_eq-Decides Decides-beq c.bits.result.now c.args.event.now c.eq.result c.eq.ensures in
    subst (λ e. IsNext r e later) (sym c.bits.ensures ∙ same.0 yes) a
