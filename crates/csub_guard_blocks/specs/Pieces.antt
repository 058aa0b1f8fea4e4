-- Inner: the text in which the gates of a head are in blocks, from a place on. The places are the numbers of the
-- parts of the text of the C subset.
use Rattle.std.specs.Prelude.{◌≡◌, ℕ, ◌+◌, ◌-◌, true, false, List, ◌++◌, length, drop, Option, Some, None}
use Rattle.net_ir.specs.Netlists.{Netlist}
use Rattle.net_writer.specs.Parts.{joined, PutsPart}
use Rattle.csub_text.specs.Parts.{from_next_assigns}
use Rattle.csub_guard_blocks.specs.Blocks.{groups, groups_text, parts_before}
use Rattle.csub_guard_blocks.specs.Owners.{Owner}

-- the gates from this place among them on
abbrev pub groups_from : Netlist → List Owner → ℕ → List ℕ
groups_from net owners k = groups_text net (groups k (drop k net.gates) (drop k owners))

abbrev pub text_from : Netlist → List Owner → ℕ → List ℕ
text_from net owners place =
    joined (drop place (parts_before net)) ++ (groups_from net owners (place - length (parts_before net))
    ++ joined (drop (place - (length (parts_before net) + length net.gates)) (from_next_assigns net)))

-- a part was put after a text, and the answer is the number of the next one, or there is none
abbrev pub PutsPlain : List (List ℕ) → ℕ → List ℕ → List ℕ → Option ℕ → Type 0
PutsPlain parts k old new (Some next) = (next ≡ k + 1) × PutsPart parts k old new true
PutsPlain parts k old new None = PutsPart parts k old new false
