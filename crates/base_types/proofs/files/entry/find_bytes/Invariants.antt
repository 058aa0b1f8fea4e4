use Rattle.std.proofs.Common.{◌≡◌, drop}
use Rattle.base_types.specs.FileEntry.{bytes_under}
use Rattle.base_types.proofs.files.entry.find_bytes.Given as goal

-- no entry so far has the name
abbrev pub invariant-loop-entry : goal.invariant-loop-entry
invariant-loop-entry l = bytes_under (drop l.entry-index l.entries) l.name ≡ bytes_under l.initial.entries l.name
