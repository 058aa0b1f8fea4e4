-- What a write of a line left in a sink.
use Rattle.std.proofs.Common.{ℕ, List, [], ◌++◌, Option, Result, Ok, Err, inl, inr, ⊎_elim, subst, append-nil}
use Rattle.base_types.specs.declared.sinks.writing.SinkFault.{SinkFault}
use Rattle.base_types.specs.Writing.{Appends, Stops, Wrote}
use Rattle.base_types.proofs.Exports.{appends-twice, stops-behind}
use Rattle.cec_text_io.specs.ErrorLines.{GainsLine}

-- what was written of a line: the whole, or a prefix after a fault
pub whole_or_front : (old new : Option (List ℕ)) (before now : ℕ) (line : List ℕ) (answer : Result (Unit {0}) SinkFault) → Wrote old new before now line answer
    → GainsLine old new before now line
whole_or_front old new before now line (Ok done) h = inl h
whole_or_front old new before now line (Err fault) h = inr h

-- after lines that were appended comes a line, or a prefix of it
pub line_after : (a b c : Option (List ℕ)) (f g h : ℕ) (x y : List ℕ) → Appends a b f g x → GainsLine b c g h y → GainsLine a c f h (x ++ y)
line_after a b c f g h x y p q =
    ⊎_elim (λ w. inl (appends-twice a b c f g h x y p w))
    (λ w. inr (subst (λ t. Stops a c f h (x ++ t)) (append-nil y) (stops-behind a b c f g h x y [] p w))) q
