-- To believe: files in memory: a list of entries, where of two entries of one name the first counts.
use Rattle.std.specs.Prelude.{◌≡◌, ℕ, ◌<◌, ◌≤◌, ◌⊎◌, if◌then◌else◌, List, [], ◌∷◌, length, Option, None, Some, IsNone}
use Rattle.std.specs.Prelude.{unwrap_or, Contains, Result, Ok, Err, Vec, nat_eq}
use Rattle.std.specs.Cmp.Lexicographic.{pointwise}
use Rattle.std.specs.declared.alloc.Global.{Global}
use Rattle.base_types.specs.Faults.{one_more}
use Rattle.base_types.specs.declared.files.entry.FileEntry.{FileEntry}
use Rattle.base_types.specs.declared.files.reading.FileFault.{FileFault}
use Rattle.base_types.specs.declared.files.reading.FileFault.TheVariants.{Failed, TooLong, NoMemory}

-- the bytes of the first file of this name
abbrev pub bytes_under : List FileEntry → List ℕ → Option (List ℕ)
bytes_under [] name = None
bytes_under (e ∷ es) name = if pointwise nat_eq e.name name then Some e.bytes else bytes_under es name

-- what the files hold under each name: no bytes where no file has it
abbrev pub held : List FileEntry → List ℕ → List ℕ
held entries name = unwrap_or (bytes_under entries name) []

-- an answer that never fails: the bytes, where they are within the limit
abbrev pub GivesWithin : List ℕ → ℕ → Result (Vec ℕ Global) FileFault → Type 0
GivesWithin held limit (Ok bytes) = (bytes.items ≡ held) × (length held ≤ limit)
GivesWithin held limit (Err TooLong) = limit < length held
GivesWithin held limit (Err Failed) = ⊥
GivesWithin held limit (Err NoMemory) = Unit {0}

-- files in memory that fail at chosen calls: the entries, the numbers of the calls that fail, how
-- many calls there were, how many of them failed, and the name that failed last
pub record MapState : Type 0 where
  pub entries : List FileEntry
  pub failing : List ℕ
  pub calls : ℕ
  pub faults : ℕ
  pub last_failed : List ℕ

-- whether the next call fails, as its number is in the list or its name is not there
abbrev pub NextFails : MapState → List ℕ → Type 0
NextFails m name = Contains m.failing (one_more m.calls) ⊎ IsNone (bytes_under m.entries name)

-- the answer of the next call
abbrev pub AnswersNext : MapState → List ℕ → ℕ → Result (Vec ℕ Global) FileFault → Type 0
AnswersNext m name limit (Ok bytes) = ¬ NextFails m name × (bytes.items ≡ held m.entries name)
    × (length (held m.entries name) ≤ limit)
AnswersNext m name limit (Err TooLong) = ¬ NextFails m name × (limit < length (held m.entries name))
AnswersNext m name limit (Err Failed) = NextFails m name
AnswersNext m name limit (Err NoMemory) = Unit {0}

-- the state after a call: it is counted, and a failure is counted and noted too
abbrev pub after_call : MapState → List ℕ → Result (Vec ℕ Global) FileFault → MapState
after_call m name (Ok bytes) = record m { calls = one_more m.calls }
after_call m name (Err TooLong) = record m { calls = one_more m.calls }
after_call m name (Err Failed) = record m { calls = one_more m.calls; faults = one_more m.faults; last_failed = name }
after_call m name (Err NoMemory) = record m { calls = one_more m.calls }
