-- What a read of a file says of the bytes under its name.
use Rattle.std.proofs.Common.{ℕ, ◌+◌, ◌<◌, ◌≤◌, List, [], length, None, Some, Ok, Err, Vec, refl, sym, subst, arith}
use Rattle.std.proofs.lemmas.List.{length-replicate}
use Rattle.std.specs.Prelude.{⊤, replicate}
use Rattle.std.specs.declared.alloc.Global.{Global}
use Rattle.base_types.specs.declared.files.reading.FileFault.TheVariants as reading
use Rattle.base_types.specs.Faults.{Rose}
use Rattle.base_types.specs.Reading.{Reads}
use Rattle.cec_text_io.specs.Contents.{Content, IsHeld, Holds}

-- the bytes that were read are those that the file holds
pub held_read : (content : Content) (name : List ℕ) (limit : ℕ) (bytes : Vec ℕ Global) → Reads content name limit (Ok bytes)
    → IsHeld content name bytes.items
held_read None name limit bytes read = tt
held_read (Some held) name limit bytes read = read.0

-- and they are within the limit
pub short_read : (content : Content) (name : List ℕ) (limit : ℕ) (bytes : Vec ℕ Global) → Reads content name limit (Ok bytes)
    → length bytes.items ≤ limit
short_read None name limit bytes read = read
short_read (Some held) name limit bytes read = subst (λ (b : List ℕ). length b ≤ limit) (sym read.0) read.1

some_long : (limit : ℕ) → (bytes : List ℕ) × (limit < length bytes)
some_long limit = (replicate (limit + 1) 0, omega (arith, length-replicate {A = ℕ} (limit + 1) 0))

-- where a file is too long, more than the limit stand there
pub long_unread : (content : Content) (name : List ℕ) (limit : ℕ) → Reads content name limit (Err reading.TooLong)
    → Holds content name (λ bytes. limit < length bytes)
long_unread None name limit read = let long = some_long limit in (long.0, tt, long.1)
long_unread (Some held) name limit read = (held name, refl, read)

pub some_bytes : (content : Content) (name : List ℕ) → Holds content name (λ bytes. ⊤)
some_bytes None name = ([], tt, tt)
some_bytes (Some held) name = (held name, refl, tt)

-- the bytes that a file holds, where that is told
pub held_by : Content → List ℕ → List ℕ
held_by None name = []
held_by (Some held) name = held name

pub held_told : (content : Content) (name : List ℕ) → IsHeld content name (held_by content name)
unfolding held_by
held_told None name = tt
held_told (Some held) name = refl

-- ---- counts of faults

-- a count that stays did not rise
pub never_rose : Rose 0 0 → ⊥
never_rose rose = absurd (omega (arith, rose.more))
