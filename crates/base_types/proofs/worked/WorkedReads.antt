-- Worked reads and writes, by hand: what a call does to counts, names and bytes, and which call fails.
use Rattle.std.proofs.Common.{◌≡◌, ℕ, zero, suc, true, false, List, [], ◌∷◌, Some, None, Ok, Err, Vec, Global, refl, inl, inr, ⊎_elim, arith, lit<, lit≤}
use Rattle.std.proofs.lemmas.Bool.{true≢false}
use Rattle.std.specs.Prelude.{Contains}
use Rattle.base_types.specs.declared.files.entry.FileEntry.{FileEntry}
use Rattle.base_types.specs.declared.files.reading.FileFault.TheVariants as files
use Rattle.base_types.specs.declared.sinks.writing.SinkFault.TheVariants as sinks
use Rattle.base_types.specs.Distinct.{none_shared}
use Rattle.base_types.specs.Draws.{drawn}
use Rattle.base_types.specs.FileEntry.{MapState, NextFails, AnswersNext}
use Rattle.base_types.specs.Names.{is_same_name}
use Rattle.base_types.specs.Reading.{Counts}
use Rattle.base_types.specs.SinkChanges.{SinkChange, change}
use Rattle.base_types.specs.SinkState.{Kept, ListState, AnswersWrite, IsKeptWithin}
use Rattle.base_types.specs.Writing.{HoldsMore, AppendsSome}

-- ---- lists without a common element, and draws

shared : none_shared is_same_name ((1 ∷ []) ∷ (2 ∷ []) ∷ []) ((3 ∷ []) ∷ []) ∷ none_shared is_same_name ((1 ∷ []) ∷ (2 ∷ []) ∷ []) ((2 ∷ []) ∷ [])
    ∷ none_shared is_same_name ((2 ∷ []) ∷ (1 ∷ []) ∷ []) ((2 ∷ []) ∷ []) ∷ none_shared is_same_name [] ((2 ∷ []) ∷ []) ∷ []
    ≡ true ∷ false ∷ false ∷ true ∷ []
shared = refl

-- the high bits of the state are 5
draws : drawn 327687 3 ∷ drawn 327687 6 ∷ [] ≡ 2 ∷ 5 ∷ []
draws = refl

-- ---- counts of faults behind a read of the file 7

a_read_changes_nothing : (bytes : Vec ℕ Global) → Counts 4 4 (1 ∷ []) (1 ∷ []) (7 ∷ []) (Ok bytes)
a_read_changes_nothing bytes = record { faults = refl; failed = refl }

no_read_counts : (bytes : Vec ℕ Global) → Counts 4 5 (1 ∷ []) (1 ∷ []) (7 ∷ []) (Ok bytes) → ⊥
no_read_counts bytes h = let e = h.faults in omega (arith, e)

a_failure_counts : Counts 4 5 (1 ∷ []) (7 ∷ []) (7 ∷ []) (Err files.Failed)
a_failure_counts = record { faults = record { kept = lit≤ tt; more = lit≤ tt }; failed = refl }

a_failure_has_its_name : Counts 4 5 (1 ∷ []) (1 ∷ []) (7 ∷ []) (Err files.Failed) → ⊥
a_failure_has_its_name h = let e = h.failed in cc

a_failure_that_is_not_counted : Counts 4 4 (1 ∷ []) (7 ∷ []) (7 ∷ []) (Err files.Failed) → ⊥
a_failure_that_is_not_counted h = let more = h.faults.more in omega (arith, more)

no_long_file_is_noted : Counts 4 4 (1 ∷ []) (7 ∷ []) (7 ∷ []) (Err files.TooLong) → ⊥
no_long_file_is_noted h = let e = h.failed in cc

no_want_of_memory_counts : Counts 4 5 (1 ∷ []) (1 ∷ []) (7 ∷ []) (Err files.NoMemory) → ⊥
no_want_of_memory_counts h = let e = h.faults in omega (arith, e)

-- ---- bytes of writers

written_whole : HoldsMore (Some (1 ∷ [])) (Some (1 ∷ 2 ∷ 3 ∷ [])) (2 ∷ 3 ∷ []) (Ok tt)
written_whole = refl

not_written_in_part : HoldsMore (Some (1 ∷ [])) (Some (1 ∷ 2 ∷ [])) (2 ∷ 3 ∷ []) (Ok tt) → ⊥
not_written_in_part e = cc

stopped_in_part : HoldsMore (Some (1 ∷ [])) (Some (1 ∷ 2 ∷ [])) (2 ∷ 3 ∷ []) (Err sinks.Failed)
stopped_in_part = (1, refl)

some_taken : AppendsSome (Some (1 ∷ [])) (Some (1 ∷ 2 ∷ [])) (2 ∷ 3 ∷ []) (Some 1) × AppendsSome (Some (1 ∷ [])) (Some (1 ∷ [])) (2 ∷ 3 ∷ []) None
some_taken = (refl, refl)

none_taken : AppendsSome (Some (1 ∷ [])) (Some (1 ∷ 2 ∷ 3 ∷ [])) (2 ∷ 3 ∷ []) None → ⊥
none_taken e = cc

-- ---- files in memory whose second call fails

abbrev entries : List FileEntry
entries = record { name = 7 ∷ []; bytes = 1 ∷ 2 ∷ [] } ∷ []

abbrev failing : List ℕ
failing = 2 ∷ []

abbrev second_fails : ℕ → MapState
second_fails calls = record { entries = entries; failing = failing; calls = calls; faults = 0; last_failed = [] }

its_number_fails : NextFails (second_fails 1) (7 ∷ [])
its_number_fails = inl (0, lit< tt, refl)

its_name_fails : NextFails (second_fails 0) (8 ∷ [])
its_name_fails = inr refl

it_does_not_fail : NextFails (second_fails 0) (7 ∷ []) → ⊥
it_does_not_fail h = ⊎_elim one true≢false h
  where
    one : Contains failing 1 → ⊥
    one (zero, low, is) = omega (arith, is)
    one (suc k, low, is) = omega (arith, low)

answers_bytes : (bytes : Vec ℕ Global) → bytes.items ≡ 1 ∷ 2 ∷ [] → AnswersNext (second_fails 0) (7 ∷ []) 2 (Ok bytes)
answers_bytes bytes is = (it_does_not_fail, is, lit≤ tt)

answers_no_long_file : AnswersNext (second_fails 0) (7 ∷ []) 2 (Err files.TooLong) → ⊥
answers_no_long_file h = let low = h.1 in omega (arith, low)

answers_failure : AnswersNext (second_fails 1) (7 ∷ []) 2 (Err files.Failed)
answers_failure = its_number_fails

answers_no_bytes_where_it_fails : (bytes : Vec ℕ Global) → AnswersNext (second_fails 1) (7 ∷ []) 2 (Ok bytes) → ⊥
answers_no_bytes_where_it_fails bytes h = h.0 its_number_fails

-- ---- sinks in memory

abbrev kept : Kept
kept = record { bytes = []; room = 3; beyond = 0 }

abbrev sink : ℕ → ListState
sink calls = record { kept = kept; failing = 2 ∷ []; calls = calls; faults = 0 }

second_write_fails : AnswersWrite (sink 1) (Err sinks.Failed)
second_write_fails = (0, lit< tt, refl)

second_write_is_not_done : AnswersWrite (sink 1) (Ok tt) → ⊥
second_write_is_not_done h = h (0, lit< tt, refl)

within_the_room : IsKeptWithin 2 4 3 0
within_the_room = record { within = lit≤ tt; reserved = lit≤ tt; full = λ low. absurd (omega (arith, low)) }

room_is_full : IsKeptWithin 2 4 3 1 → ⊥
room_is_full h = let e = h.full (lit< tt) in omega (arith, e)

no_more_than_the_room : IsKeptWithin 4 4 3 0 → ⊥
no_more_than_the_room h = let low = h.within in omega (arith, low)

room_is_reserved : IsKeptWithin 2 2 3 0 → ⊥
room_is_reserved h = let low = h.reserved in omega (arith, low)

-- before and behind a call, of a sink that is its own number
what_changes : change (λ n. Some (n ∷ [])) (λ n. n) 3 5 ≡ record { before = Some (3 ∷ []); after = Some (5 ∷ []); faults_before = 3; faults_now = 5 }
what_changes = refl
