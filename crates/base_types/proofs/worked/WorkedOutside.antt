-- Worked values, by hand: sets of completion codes, counts of faults, files and sinks in memory, and what a write appends.
use Rattle.std.specs.Prelude.{◌≡◌, ℕ, ◌-◌, ◌^◌, Bool, List, [], ◌∷◌, filter, Some, None, Ok, Err, length}
use Rattle.std.proofs.Common.{refl, arith, lit≤}
use Rattle.base_types.specs.declared.files.entry.FileEntry.{FileEntry}
use Rattle.base_types.specs.declared.files.reading.FileFault.TheVariants as files
use Rattle.base_types.specs.declared.sinks.writing.SinkFault.TheVariants as sinks
use Rattle.base_types.specs.Codes.{no_code, only, either, except, upto, maxima, lowered}
use Rattle.base_types.specs.Faults.{one_more, Rose}
use Rattle.base_types.specs.FileEntry.{bytes_under, held, MapState, after_call, GivesWithin}
use Rattle.std.specs.Prelude.{Vec}
use Rattle.std.specs.declared.alloc.Global.{Global}
use Rattle.base_types.specs.Reading.{Reads, ReadsWhole}
use Rattle.base_types.specs.SinkChanges.{IsUntouched}
use Rattle.base_types.specs.SinkState.{Kept, told_of, after_piece, ListState, after_write}
use Rattle.base_types.specs.Writing.{Gains, GainsFront, Wrote}

-- ---- sets of codes, those below 5

abbrev codes : (ℕ → Bool) → List ℕ
codes A = filter A (0 ∷ 1 ∷ 2 ∷ 3 ∷ 4 ∷ [])

abbrev two : ℕ → ℕ → ℕ → Bool
two a b = either (only a) (only b)

sets : codes no_code ∷ codes (only 2) ∷ codes (two 1 3) ∷ codes (except 1 (two 1 3)) ∷ codes (except 2 (two 1 3)) ∷ []
    ≡ [] ∷ (2 ∷ []) ∷ (1 ∷ 3 ∷ []) ∷ (3 ∷ []) ∷ (1 ∷ 3 ∷ []) ∷ []
sets = refl

at_most : codes (upto (two 2 3)) ∷ codes (upto (only 0)) ∷ codes (upto no_code) ∷ [] ≡ (2 ∷ 3 ∷ 4 ∷ []) ∷ (0 ∷ 1 ∷ 2 ∷ 3 ∷ 4 ∷ []) ∷ [] ∷ []
at_most = refl

of_two_branches : codes (maxima (two 0 2) (only 1)) ∷ codes (maxima (only 1) (two 0 2)) ∷ codes (maxima (two 0 3) (two 1 2))
    ∷ codes (maxima no_code (two 0 1)) ∷ []
    ≡ (1 ∷ 2 ∷ []) ∷ (1 ∷ 2 ∷ []) ∷ (1 ∷ 2 ∷ 3 ∷ []) ∷ [] ∷ []
of_two_branches = refl

of_a_trap : codes (lowered (only 0)) ∷ codes (lowered (only 1)) ∷ codes (lowered (only 2)) ∷ codes (lowered (two 3 4)) ∷ []
    ≡ (0 ∷ []) ∷ (1 ∷ []) ∷ (0 ∷ []) ∷ (2 ∷ 3 ∷ []) ∷ []
of_a_trap = refl

-- ---- counts of faults

counted : one_more 4 ∷ one_more (2 ^ 64 - 2) ∷ one_more (2 ^ 64 - 1) ∷ [] ≡ 5 ∷ 18446744073709551615 ∷ 18446744073709551615 ∷ []
counted = refl

rises : Rose 4 5
rises = record { kept = lit≤ tt; more = lit≤ tt }

rises_no_more : Rose 18446744073709551615 18446744073709551615
rises_no_more = record { kept = lit≤ tt; more = lit≤ tt }

does_not_rise : Rose 4 4 → ⊥
does_not_rise h = let more = h.more in omega (arith, more)

-- ---- what a write appends

told : Gains (Some (1 ∷ [])) (Some (1 ∷ 2 ∷ 3 ∷ [])) (2 ∷ 3 ∷ [])
told = refl

told_another : Gains (Some (1 ∷ [])) (Some (2 ∷ 3 ∷ [])) (2 ∷ 3 ∷ []) → ⊥
told_another e = cc

untold_stays_untold : Gains None (Some (2 ∷ [])) (2 ∷ []) → ⊥
untold_stays_untold h = h

untold : Gains None None (2 ∷ []) × Gains (Some []) None (2 ∷ [])
untold = (tt, tt)

a_front : GainsFront (Some (1 ∷ [])) (Some (1 ∷ 2 ∷ [])) (2 ∷ 3 ∷ [])
a_front = record { taken = 1; gains = refl }

a_write_that_counts_a_fault : Wrote (Some []) (Some (1 ∷ [])) 0 1 (1 ∷ []) (Ok tt) → ⊥
a_write_that_counts_a_fault h = let e = h.faults in omega (arith, e)

a_write_of_a_front : Wrote (Some []) (Some (1 ∷ [])) 0 0 (1 ∷ 2 ∷ []) (Ok tt) → ⊥
a_write_of_a_front h = let e = h.whole in cc

a_failed_write : Wrote (Some []) (Some (1 ∷ [])) 0 1 (1 ∷ 2 ∷ []) (Err sinks.Failed)
a_failed_write = record { faults = record { kept = lit≤ tt; more = lit≤ tt }; front = record { taken = 1; gains = refl } }

-- ---- sinks in memory

abbrev room_for_3 : List ℕ → ℕ → Kept
room_for_3 bytes beyond = record { bytes = bytes; room = 3; beyond = beyond }

pieces : after_piece (room_for_3 (1 ∷ []) 0) (2 ∷ 3 ∷ []) ≡ room_for_3 (1 ∷ 2 ∷ 3 ∷ []) 0
pieces = refl

a_piece_too_long : after_piece (room_for_3 (1 ∷ []) 0) (2 ∷ 3 ∷ 4 ∷ 5 ∷ []) ≡ room_for_3 (1 ∷ 2 ∷ 3 ∷ []) 2
a_piece_too_long = refl

far_beyond : after_piece (room_for_3 (1 ∷ 2 ∷ 3 ∷ []) (2 ^ 64 - 2)) (4 ∷ 5 ∷ []) ≡ room_for_3 (1 ∷ 2 ∷ 3 ∷ []) 18446744073709551615
far_beyond = refl

tells : told_of (room_for_3 (1 ∷ []) 0) ∷ told_of (room_for_3 (1 ∷ []) 1) ∷ [] ≡ Some (1 ∷ []) ∷ None ∷ []
tells = refl

abbrev failing_twice : ListState
failing_twice = record { kept = room_for_3 (1 ∷ []) 0; failing = 2 ∷ 2 ∷ []; calls = 1; faults = 7 }

after_a_write : after_write failing_twice (2 ∷ []) (Ok tt) ≡ record { kept = room_for_3 (1 ∷ 2 ∷ []) 0; failing = 2 ∷ 2 ∷ []; calls = 2; faults = 7 }
after_a_write = refl

after_a_failed_write : after_write failing_twice (2 ∷ []) (Err sinks.Failed)
    ≡ record { kept = room_for_3 (1 ∷ []) 0; failing = 2 ∷ 2 ∷ []; calls = 2; faults = 8 }
after_a_failed_write = refl

-- ---- files in memory

abbrev entry : List ℕ → List ℕ → FileEntry
entry name bytes = record { name = name; bytes = bytes }

abbrev entries : List FileEntry
entries = entry (65 ∷ []) (1 ∷ []) ∷ entry (66 ∷ []) (2 ∷ []) ∷ entry (66 ∷ []) (3 ∷ []) ∷ []

of_name : bytes_under entries (66 ∷ []) ∷ bytes_under entries (67 ∷ []) ∷ bytes_under entries (66 ∷ 66 ∷ []) ∷ [] ≡ Some (2 ∷ []) ∷ None ∷ None ∷ []
of_name = refl

none_is_empty : held entries (65 ∷ []) ∷ held entries (67 ∷ []) ∷ [] ≡ (1 ∷ []) ∷ [] ∷ []
none_is_empty = refl

abbrev second_fails : ℕ → ℕ → List ℕ → MapState
second_fails calls faults last_failed = record { entries = entries; failing = 2 ∷ []; calls = calls; faults = faults; last_failed = last_failed }

after_a_failed_read : after_call (second_fails 1 0 []) (65 ∷ []) (Err files.Failed) ≡ second_fails 2 1 (65 ∷ [])
after_a_failed_read = refl

after_a_long_read : after_call (second_fails 1 4 (66 ∷ [])) (65 ∷ []) (Err files.TooLong) ≡ second_fails 2 4 (66 ∷ [])
after_a_long_read = refl

after_no_memory : after_call (second_fails 1 4 (66 ∷ [])) (65 ∷ []) (Err files.NoMemory) ≡ second_fails 2 4 (66 ∷ [])
after_no_memory = refl

within_its_limit : GivesWithin (1 ∷ 2 ∷ []) 2 (Err files.TooLong) → ⊥
within_its_limit low = omega (arith, low)

never_fails : GivesWithin (1 ∷ 2 ∷ []) 2 (Err files.Failed) → ⊥
never_fails h = h

read_within_its_limit : Reads (Some (λ name. 1 ∷ 2 ∷ [])) (65 ∷ []) 2 (Err files.TooLong) → ⊥
read_within_its_limit low = omega (arith, low)

read_up_to_its_limit : (bytes : Vec ℕ Global) → length bytes.items ≡ 2 → Reads None (65 ∷ []) 2 (Ok bytes)
read_up_to_its_limit bytes e = omega (arith, e)

read_beyond_its_limit : (bytes : Vec ℕ Global) → length bytes.items ≡ 3 → Reads None (65 ∷ []) 2 (Ok bytes) → ⊥
read_beyond_its_limit bytes e low = omega (arith, e, low)

whole_within_its_limit : ReadsWhole (Some (1 ∷ 2 ∷ [])) 2 None → ⊥
whole_within_its_limit low = omega (arith, low)

-- ---- a sink before and behind a call

untouched : IsUntouched (record { before = Some []; after = Some []; faults_before = 1; faults_now = 1 })
untouched = (refl, refl)

touched_by_bytes : IsUntouched (record { before = Some []; after = Some (1 ∷ []); faults_before = 1; faults_now = 1 }) → ⊥
touched_by_bytes h = let e = h.0 in cc

touched_by_a_fault : IsUntouched (record { before = Some []; after = Some []; faults_before = 1; faults_now = 2 }) → ⊥
touched_by_a_fault h = let e = h.1 in omega (arith, e)
