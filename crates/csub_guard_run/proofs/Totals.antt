-- Inner: a sum of counts in two parts: its decimal digits, and that the counts of the calls of a trace have room in it.
use Rattle.std.proofs.Common.{◌≡◌, ℕ, zero, suc, ◌+◌, ◌*◌, ◌/◌, ◌%◌, ◌^◌, ◌<◌, ◌≤◌, List, [], ◌∷◌, ◌++◌, length, drop, sym, ◌∙◌, ap, subst, arith}
use Rattle.std.proofs.Common.{Option, Some, None, append-nil, append_assoc, length-drop, Result, Ok, Err, take, ◌-◌}
use Rattle.std.specs.Prelude.{decimal, OnOk}
use Rattle.std.proofs.Math.Seq.{take_all}
use Rattle.std.proofs.lemmas.Fmt.{decimal_digit, decimal_step_wide}
use Rattle.base_types.specs.Items.{Item, Event, Reset}
use Rattle.csub_guard.specs.Machine.{Counted, call}
use Rattle.csub_guard.specs.Trees.{Program}
use Rattle.csub_text.specs.Machine.{Memory, first_memory}
use Rattle.csub_guard_run.specs.Runners.{memory_of}
use Rattle.csub_guard_run.specs.Showing.{Counter, IsNew, counted_program, calls_from, IsSum, Summed, adds_up}
use Rattle.run_trace_io.specs.Traces.{Reading}
use Rattle.run_over_traces.specs.Running.{IsTraceFront}
use Rattle.run_over_traces.proofs.Exports.{Fits, fits-next}

-- ---- digits

-- a number with this number of noughts after it
abbrev raised : ℕ → ℕ → ℕ
raised zero n = n
raised (suc k) n = raised k n * 10

-- the last digits of a number, this number of them
abbrev last_digits : ℕ → ℕ → List ℕ
last_digits zero n = []
last_digits (suc k) n = last_digits k (n / 10) ++ ((48 + n % 10) ∷ [])

some-raised : (k n : ℕ) → 0 < n → 0 < raised k n
some-raised zero n some = some
some-raised (suc k) n some = let more = some-raised k n some in omega (arith, more)

-- the digits of a number, and those behind them
digits-behind : (k high low : ℕ) → 0 < high → raised k high + low < 10 ^ 64 → low < raised k 1
    → decimal (raised k high + low) ≡ decimal high ++ last_digits k low
digits-behind zero high low some small below =
    let same : high + low ≡ high = omega (arith, below) in
    ap decimal same ∙ sym (append-nil (decimal high))
digits-behind (suc k) high low some small below =
    let x = raised k high in
    let n = x * 10 + low in
    let more = some-raised k high some in
    let front : n / 10 ≡ x + low / 10 = omega arith in
    let last : n % 10 ≡ low % 10 = omega arith in
    let behind = digits-behind k high (low / 10) some (omega (arith, small)) (omega (arith, below)) in
    decimal_step_wide n (omega (arith, more)) small
    ∙ ap (λ m. decimal m ++ ((48 + n % 10) ∷ [])) front
    ∙ ap (λ d. decimal (x + low / 10) ++ ((48 + d) ∷ [])) last
    ∙ ap (λ l. l ++ ((48 + low % 10) ∷ [])) behind
    ∙ append_assoc (decimal high) (last_digits k (low / 10)) ((48 + low % 10) ∷ [])

-- behind a one
behind-one : (low : ℕ) → low < 10 ^ 38 → decimal (10 ^ 38 + low) ≡ 49 ∷ last_digits 38 low
behind-one low below =
    let one : raised 38 1 + low ≡ 10 ^ 38 + low = omega arith in
    sym (ap decimal one) ∙ digits-behind 38 1 low (omega arith) (omega (arith, below)) (omega (arith, below))
    ∙ ap (λ l. l ++ last_digits 38 low) (decimal_digit 1 (omega arith))

pub some-digits : (low : ℕ) → low < 10 ^ 38 → 1 ≤ length (decimal (10 ^ 38 + low))
some-digits low below = let e = ap length (behind-one low below) in omega (arith, e)

pub two-parts : (high low : ℕ) → 0 < high → high < 2 ^ 64 → low < 10 ^ 38
    → decimal high ++ drop 1 (decimal (10 ^ 38 + low)) ≡ decimal (high * 10 ^ 38 + low)
two-parts high low some few below =
    let upper : raised 38 high + low ≡ high * 10 ^ 38 + low = omega arith in
    let whole = digits-behind 38 high low some (omega (arith, few, below)) (omega (arith, below)) in
    ap (λ l. decimal high ++ drop 1 l) (behind-one low below) ∙ sym whole ∙ ap decimal upper

-- the two parts, written one behind the other
pub parts-written : {E : Type 0} (r : Result (Unit {0}) E) (before middle after first second : List ℕ) (high low : ℕ)
    → 0 < high → high < 2 ^ 64 → low < 10 ^ 38
    → middle ≡ before ++ first → first ≡ decimal high → second ≡ decimal (10 ^ 38 + low)
    → OnOk r (after ≡ middle ++ take (length second - 1) (drop 1 second)) → OnOk r (after ≡ before ++ decimal (high * 10 ^ 38 + low))
parts-written (Err e) before middle after first second high low some few below front upper lower behind = tt
parts-written (Ok u) before middle after first second high low some few below front upper lower behind =
    let whole : take (length second - 1) (drop 1 second) ≡ drop 1 second = take_all (length second - 1) (drop 1 second) (omega (arith, length-drop 1 second)) in
    behind ∙ ap (λ l. middle ++ l) (whole ∙ ap (drop 1) lower)
    ∙ ap (λ l. l ++ drop 1 (decimal (10 ^ 38 + low))) (front ∙ ap (λ l. before ++ l) upper)
    ∙ append_assoc before (decimal high) (drop 1 (decimal (10 ^ 38 + low)))
    ∙ ap (λ l. before ++ l) (two-parts high low some few below)

-- ---- room

-- this number of counts has room on top of a number
pub has-room : (before : ℕ) (calls : List Counted) (last : Option ℕ) → before + length calls * 2 ^ 128 < 2 ^ 64 * 10 ^ 38
    → Summed (Some before) calls last → (n : ℕ) × (last ≡ Some n)
has-room before [] last room sums = (before, sums)
has-room before (c ∷ calls) last room sums = go sums.0 sums.1 sums.2 (λ k fits rest. has-room k calls last fits rest)
  where
    go : (t : Option ℕ) → IsSum (Some before) c.count t → Summed t calls last
        → ((k : ℕ) → k + length calls * 2 ^ 128 < 2 ^ 64 * 10 ^ 38 → Summed (Some k) calls last → (n : ℕ) × (last ≡ Some n))
        → (n : ℕ) × (last ≡ Some n)
    go None sum rest further = absurd (sum (omega (arith, room, sums.3)))
    go (Some k) sum rest further = further k (omega (arith, room, sums.3, sum.1)) rest

-- there are no more calls than items
few-calls : (p : Program) (memory : Memory) (items : List Item) → length (calls_from p memory items) ≤ length items
few-calls p memory [] = omega arith
few-calls p memory (Event inputs ∷ items) = let more = few-calls p (call p inputs memory).memory items in omega (arith, more)
few-calls p memory (Reset ∷ items) = let more = few-calls p (first_memory p.states) items in omega (arith, more)

-- and no more items than bytes
few-from : (r : Reading) (items : List Item) → r.at ≤ length r.text → IsTraceFront r items → r.at + length items ≤ length r.text
few-from r [] within front = omega (arith, within)
few-from r (Reset ∷ items) within front =
    let fits = subst (Fits r.at (length r.text) (length r.inputs)) front.1 (fits-next r within) in
    let more = few-from (record r { at = front.0 }) items fits.1 front.2 in
    omega (arith, fits.0, more)
few-from r (Event event ∷ items) within front =
    let fits = subst (Fits r.at (length r.text) (length r.inputs)) front.1 (fits-next r within) in
    let more = few-from (record r { at = front.0; instant = r.instant + 1 }) items fits.1 front.3 in
    omega (arith, fits.0, more)

-- what a new machine becomes behind the items of a trace has its number
pub trace-counted : (m last : Counter) (r : Reading) (items : List Item) → IsNew m → r.at ≤ length r.text → length r.text ≤ 2 ^ 24 → IsTraceFront r items
    → adds_up m items last → (n : ℕ) × (last.total ≡ Some n)
trace-counted m last r items new within short front adds =
    let calls = calls_from (counted_program m) (memory_of m.calls) items in
    let few = few-calls (counted_program m) (memory_of m.calls) items in
    let bytes = few-from r items within front in
    has-room 0 calls last.total (omega (arith, few, bytes, short)) (subst (λ t. Summed t calls last.total) new.total adds)
