-- Inner: what a machine shows and counts: a call and a reset put their item in front of what comes from then on.
use Rattle.std.proofs.Common.{◌≡◌, ℕ, ◌+◌, ◌<◌, ◌^◌, Bool, List, [], ◌∷◌, map, refl, sym, ap, ◌∙◌, subst, arith, Option, Some, None, Result, Ok, Err}
use Rattle.std.specs.Prelude.{sum, IfOk}
use Rattle.std.proofs.lemmas.List.Sums.{sum_by-cons}
use Rattle.base_types.specs.Items.{Item, Event, Reset}
use Rattle.base_machines.specs.Machines.{Shows}
use Rattle.base_machines.proofs.Exports.{shows-event, shows-reset}
use Rattle.csub_guard.specs.Machine.{Counted, outputs_of, call, guarded_machine, count_of}
use Rattle.csub_guard.specs.Views.{program_of}
use Rattle.csub_run.proofs.Exports.{same-memory}
use Rattle.csub_text.specs.Machine.{value_of, first_memory}
use Rattle.csub_guard_run.specs.ProgramAnswers.{call_answer, program_shows}
use Rattle.csub_guard_run.specs.Runners.{memory_of, outputs_shown, IsFresh, Reacts, Resets}
use Rattle.csub_guard_run.specs.Showing.{Counter, IsNew, counted_program, counter_shows, calls_from, IsSum, Summed, adds_up}
use Rattle.run_over_traces.specs.Becoming.{Passes}
use Rattle.run_over_traces.specs.Languages.{word_of, IsOfProgram}
use Rattle.run_over_traces.specs.Machines.{ShownAnswer, Answered, PutBack}

-- one call
pub answered : (old new : Counter) (inputs : List Bool) (value : Bool) → Reacts old.calls inputs value new.calls
    → Answered counter_shows old inputs (record { present = outputs_shown new.calls; word = word_of value }) new
answered old new inputs value reacts = record { in_front = in_front }
  where
    in_front : (items : List Item) (answers : List ShownAnswer) → counter_shows new items answers
        → Shows (guarded_machine (counted_program old)) (call_answer (counted_program old)) (memory_of old.calls) (Event inputs ∷ items)
        (record { present = outputs_shown new.calls; word = word_of value } ∷ answers)
    in_front items answers shows =
        let p = counted_program old in
        let behind = call p inputs (memory_of old.calls) in
        let after : memory_of new.calls ≡ behind.memory = same-memory (memory_of new.calls) behind.memory reacts.memory in
        let code : counted_program new ≡ p = ap program_of reacts.same in
        let there : Shows (guarded_machine p) (call_answer p) behind.memory items answers =
        subst (λ m. Shows (guarded_machine p) (call_answer p) m items answers) after
        (subst (λ q. Shows (guarded_machine q) (call_answer q) (memory_of new.calls) items answers) code shows) in
        let outputs : outputs_shown new.calls ≡ map behind.memory (outputs_of p) =
        ap (λ q. map (memory_of new.calls) (outputs_of q)) code ∙ ap (λ m. map m (outputs_of p)) after in
        let returned : value ≡ value_of behind.memory p.answer =
        reacts.returned ∙ ap (λ m. value_of m p.answer) after in
        let here : call_answer p behind ≡ record { present = outputs_shown new.calls; word = word_of value } =
        sym (ap (λ o. record { present = o; word = word_of value }) outputs
        ∙ ap (λ b. record { present = map behind.memory (outputs_of p); word = word_of b }) returned) in
        let each : (c : Counted) → c ≡ behind → (call_answer p c ≡ record { present = outputs_shown new.calls; word = word_of value })
        × Shows (guarded_machine p) (call_answer p) c.memory items answers = λ c is.
        (ap (call_answer p) is ∙ here, subst (λ k. Shows (guarded_machine p) (call_answer p) k.memory items answers) (sym is) there) in
        shows-event (guarded_machine p) (call_answer p) (memory_of old.calls) inputs items
        (record { present = outputs_shown new.calls; word = word_of value }) answers behind refl each

-- a fresh machine shows what its program does
pub fresh_shows : (m : Counter) → IsFresh m.calls → (items : List Item) (answers : List ShownAnswer) → counter_shows m items answers
    → program_shows (counted_program m) items answers
fresh_shows m fresh items answers shows =
    let p = counted_program m in
    subst (λ k. Shows (guarded_machine p) (call_answer p) k items answers) (same-memory (memory_of m.calls) (first_memory p.states) fresh.memory) shows

-- a reset
pub put_back : (old new : Counter) → Resets old.calls new.calls → PutBack counter_shows old new
put_back old new resets items answers shows =
    let p = counted_program old in
    let behind = subst (λ q. program_shows q items answers) (ap program_of resets.same) (fresh_shows new resets.fresh items answers shows) in
    shows-reset (guarded_machine p) (call_answer p) (memory_of old.calls) items answers behind

-- ---- counts

-- the number behind a call is that before it and the call's own
pub call_passes : (old new : Counter) (inputs : List Bool) (value : Bool) → Reacts old.calls inputs value new.calls
    → IsSum old.total new.calls.count new.total → new.calls.count < 2 ^ 128 → Passes adds_up (Event inputs) old new
call_passes old new inputs value reacts sums small items last behind =
    let p = counted_program old in
    let after = call p inputs (memory_of old.calls) in
    let memory : memory_of new.calls ≡ after.memory = same-memory (memory_of new.calls) after.memory reacts.memory in
    let calls : calls_from (counted_program new) (memory_of new.calls) items ≡ calls_from p after.memory items =
    ap (λ q. calls_from q (memory_of new.calls) items) (ap program_of reacts.same) ∙ ap (λ m. calls_from p m items) memory in (
      new.total,
      subst (λ k. IsSum old.total k new.total) reacts.counted sums,
      subst (λ l. Summed new.total l last.total) calls behind,
      subst (λ k. k < 2 ^ 128) reacts.counted small,
    )

pub reset_passes : (old new : Counter) → Resets old.calls new.calls → new.total ≡ old.total → Passes adds_up Reset old new
reset_passes old new resets same items last behind =
    let p = counted_program old in
    let memory : memory_of new.calls ≡ first_memory (counted_program new).states =
    same-memory (memory_of new.calls) (first_memory (counted_program new).states) resets.fresh.memory in
    let calls : calls_from (counted_program new) (memory_of new.calls) items ≡ calls_from p (first_memory p.states) items =
    ap (λ m. calls_from (counted_program new) m items) memory ∙ ap (λ q. calls_from q (first_memory q.states) items) (ap program_of resets.same) in
    subst (λ t. Summed t (calls_from p (first_memory p.states) items) last.total) same (subst (λ l. Summed new.total l last.total) calls behind)

none-stays : (calls : List Counted) (last : Option ℕ) → Summed None calls last → last ≡ None
none-stays [] last is = is
none-stays (c ∷ calls) last is = none-stays calls last (subst (λ t. Summed t calls last) is.1 is.2)

-- a number that a counter holds behind calls is the sum of their counts
summed-counts : (before : ℕ) (calls : List Counted) (n : ℕ) → Summed (Some before) calls (Some n)
    → n ≡ before + sum (map (λ behind. behind.count) calls)
summed-counts before [] n is = let e = some-same is in omega (arith, e)
  where
    some-same : {x y : ℕ} → Some x ≡ Some y → x ≡ y
    some-same same = cc
summed-counts before (c ∷ calls) n is = go is.0 is.1 is.2 (λ k. summed-counts k calls n)
  where
    go : (t : Option ℕ) → IsSum (Some before) c.count t → Summed t calls (Some n)
        → ((k : ℕ) → Summed (Some k) calls (Some n) → n ≡ k + sum (map (λ behind. behind.count) calls))
        → n ≡ before + sum (map (λ behind. behind.count) (c ∷ calls))
    go None sums rest further = let none = none-stays calls (Some n) rest in cc
    go (Some k) sums rest further =
        let more = further k rest in
        let here = sum_by-cons (λ x. x) c.count (map (λ (behind : Counted). behind.count) calls) in
        omega (arith, more, sums.1, here)

-- a new machine counts what the calls of its program do
pub new_counts : (m last : Counter) (items : List Item) (n : ℕ) → IsNew m → adds_up m items last → last.total ≡ Some n
    → n ≡ count_of (counted_program m) items
new_counts m last items n new adds is =
    let p = counted_program m in
    let memory : memory_of m.calls ≡ first_memory p.states = same-memory (memory_of m.calls) (first_memory p.states) new.calls.memory in
    let begun = subst (λ t. Summed t (calls_from p (memory_of m.calls) items) last.total) new.total adds in
    let ended = subst (Summed (Some 0) (calls_from p (memory_of m.calls) items)) is begun in
    let all = summed-counts 0 (calls_from p (first_memory p.states) items) n (subst (λ k. Summed (Some 0) (calls_from p k items) (Some n)) memory ended) in
    omega (arith, all)

-- a new machine shows what its program does
pub new-shows : {E : Type 0} (r : Result Counter E) → IfOk r IsNew → IfOk r (λ m. IsOfProgram counter_shows program_shows m (counted_program m))
new-shows (Ok m) new = record { told = λ items answers shows. fresh_shows m new.calls items answers shows }
new-shows (Err e) new = tt
