-- To believe: what a read of a file answers, against the content that the files tell.
use Rattle.std.specs.Prelude.{◌≡◌, ℕ, ◌<◌, ◌≤◌, List, length, Option, None, Some, Result, Ok, Err, Vec}
use Rattle.std.specs.declared.alloc.Global.{Global}
use Rattle.base_types.specs.Faults.{Rose}
use Rattle.base_types.specs.declared.files.reading.FileFault.{FileFault}
use Rattle.base_types.specs.declared.files.reading.FileFault.TheVariants.{Failed, TooLong, NoMemory}

-- An answer of bytes is within the limit. Where the content is reported, it is what the file holds, and the
-- answer "too long" comes only where more than the limit is there.
abbrev pub Reads : Option (List ℕ → List ℕ) → List ℕ → ℕ → Result (Vec ℕ Global) FileFault → Type 0
Reads None name limit (Ok bytes) = length bytes.items ≤ limit
Reads None name limit (Err fault) = Unit {0}
Reads (Some held) name limit (Ok bytes) = (bytes.items ≡ held name) × (length (held name) ≤ limit)
Reads (Some held) name limit (Err TooLong) = limit < length (held name)
Reads (Some held) name limit (Err Failed) = Unit {0}
Reads (Some held) name limit (Err NoMemory) = Unit {0}

-- what a read does to the count of faults and to the name that failed last
pub record KeepsFaults (faults_before faults_now : ℕ) (failed_before failed_now : List ℕ) : Type 0 where
  pub faults : faults_now ≡ faults_before
  pub failed : failed_now ≡ failed_before

-- a failure raises the count, and its name is then the one that failed last
pub record Notes (faults_before faults_now : ℕ) (name failed_now : List ℕ) : Type 0 where
  pub faults : Rose faults_before faults_now
  pub failed : failed_now ≡ name

-- only a failure changes the count of faults and the name that failed last
abbrev pub Counts : ℕ → ℕ → List ℕ → List ℕ → List ℕ → Result (Vec ℕ Global) FileFault → Type 0
Counts before now failed_before failed_now name (Ok bytes) = KeepsFaults before now failed_before failed_now
Counts before now failed_before failed_now name (Err Failed) = Notes before now name failed_now
Counts before now failed_before failed_now name (Err TooLong) = KeepsFaults before now failed_before failed_now
Counts before now failed_before failed_now name (Err NoMemory) = KeepsFaults before now failed_before failed_now

-- how many reads failed, and the name that failed last
pub record FaultRecord : Type 0 where
  pub faults : ℕ
  pub last_failed : List ℕ

-- What a read to the end gives of the bytes that a reader has left, where the reader tells them: all of them, or
-- nothing where there are more than the limit.
abbrev pub ReadsWhole : Option (List ℕ) → ℕ → Option (Vec ℕ Global) → Type 0
ReadsWhole None limit read = Unit {0}
ReadsWhole (Some left) limit None = limit < length left
ReadsWhole (Some left) limit (Some bytes) = bytes.items ≡ left
