-- What a group of a trace is: it ends behind its beginning, within the text, and an event has a value for each input.
use Rattle.std.proofs.Common.{◌≡◌, ℕ, ◌+◌, ◌<◌, ◌≤◌, Bool, true, false, not, ◌==◌, ◌&&◌, if◌then◌else◌, List, [], ◌∷◌, length, replicate, drop}
use Rattle.std.proofs.Common.{◌∙◌, arith, Option, Some, None, length-drop}
use Rattle.std.specs.Prelude.{slice_index_or, position}
use Rattle.std.proofs.lemmas.List.{length-replicate, length-set}
use Rattle.base_types.specs.Names.{is_same_name}
use Rattle.run_trace_io.specs.Tokens.{TraceToken, Semicolon, BadByte, Name, is_blank, is_trace_byte, begins_name, with_byte, tokens}
use Rattle.run_trace_io.specs.Traces.{Stage, Fresh, Named, Resetting, NameEffect, Faulty, Goes, is_misplaced, reset_name, has_resets, met_input, met_name}
use Rattle.run_trace_io.specs.Traces.{TraceGroup, End, Reset, Instant, Refused, behind_name, group, Reading, next_group}

-- each `;` stands between these places
abbrev IsWithin : ℕ → ℕ → List TraceToken → Type 0
IsWithin low high [] = Unit {0}
IsWithin low high (Semicolon behind ∷ more) = (low < behind) × (behind ≤ high) × IsWithin low high more
IsWithin low high (BadByte place ∷ more) = IsWithin low high more
IsWithin low high (Name name ∷ more) = IsWithin low high more

either : (low high : ℕ) (b : Bool) (x y : List TraceToken) → IsWithin low high x → IsWithin low high y → IsWithin low high (if b then x else y)
either low high true x y p q = p
either low high false x y p q = q

within-byte : (low high c : ℕ) (b : Bool) (more : List TraceToken) → IsWithin low high more → IsWithin low high (with_byte c b more)
within-byte low high c true [] w = w
within-byte low high c true (Name name ∷ more) w = w
within-byte low high c true (Semicolon behind ∷ more) w = w
within-byte low high c true (BadByte place ∷ more) w = w
within-byte low high c false more w = w

within-tokens : (low high : ℕ) (b : Bool) (at : ℕ) (text : List ℕ) → low ≤ at → at + length text ≤ high → IsWithin low high (tokens b at text)
within-tokens low high true at [] l h = tt
within-tokens low high false at [] l h = tt
within-tokens low high true at (c ∷ cs) l h = within-tokens low high (not (c == 10)) (at + 1) cs (omega (arith, l)) (omega (arith, h))
within-tokens low high false at (c ∷ cs) l h =
    let up : low ≤ at + 1 = omega (arith, l) in
    let down : at + 1 + length cs ≤ high = omega (arith, h) in
    let more = within-tokens low high false (at + 1) cs up down in
    either low high (is_blank c) _ _ more
    (either low high (c == 37) _ _ (within-tokens low high true (at + 1) cs up down)
    (either low high (c == 59) _ _ (omega (arith, l), omega (arith, h), more)
    (either low high (is_trace_byte c) _ _ (within-byte low high c (begins_name cs) _ more) more)))

-- what a name leaves has as many values as before
abbrev IsWide : ℕ → NameEffect → Type 0
IsWide wide (Faulty fault) = Unit {0}
IsWide wide (Goes stage event) = length event ≡ wide

one-of : (wide : ℕ) (b : Bool) (x y : NameEffect) → IsWide wide x → IsWide wide y → IsWide wide (if b then x else y)
one-of wide true x y p q = p
one-of wide false x y p q = q

wide-input : (wide instant : ℕ) (event : List Bool) (name : List ℕ) (place : Option ℕ) → length event ≡ wide
    → IsWide wide (met_input instant event name place)
wide-input wide instant event name None h = tt
wide-input wide instant event name (Some place) h =
    one-of wide (slice_index_or event place false) _ _ tt (length-set event place true ∙ h)

wide-name : (wide : ℕ) (inputs : List (List ℕ)) (instant : ℕ) (stage : Stage) (event : List Bool) (name : List ℕ) → length event ≡ wide
    → IsWide wide (met_name inputs instant stage event name)
wide-name wide inputs instant stage event name h =
    one-of wide (has_resets inputs && is_misplaced stage name) _ _ tt
    (one-of wide (has_resets inputs && is_same_name reset_name name) _ _ h
    (wide-input wide instant event name (position (is_same_name name) inputs) h))

-- a group that ends between these places, and whose event has this number of values
abbrev pub Fits : ℕ → ℕ → ℕ → TraceGroup → Type 0
Fits low high wide End = Unit {0}
Fits low high wide (Reset behind) = (low < behind) × (behind ≤ high)
Fits low high wide (Instant event behind) = (low < behind) × (behind ≤ high) × (length event ≡ wide)
Fits low high wide (Refused fault) = Unit {0}

fits-met : (low high wide : ℕ) (rest : Stage → List Bool → TraceGroup) (met : NameEffect) → IsWide wide met
    → ((s : Stage) (e : List Bool) → length e ≡ wide → Fits low high wide (rest s e)) → Fits low high wide (behind_name rest met)
fits-met low high wide rest (Faulty fault) w f = tt
fits-met low high wide rest (Goes stage event) w f = f stage event w

fits-group : (low high wide : ℕ) (inputs : List (List ℕ)) (instant : ℕ) (stage : Stage) (event : List Bool) (all : List TraceToken) → length event ≡ wide
    → IsWithin low high all → Fits low high wide (group inputs instant stage event all)
fits-group low high wide inputs instant Fresh event [] h w = tt
fits-group low high wide inputs instant Named event [] h w = tt
fits-group low high wide inputs instant Resetting event [] h w = tt
fits-group low high wide inputs instant stage event (BadByte place ∷ more) h w = tt
fits-group low high wide inputs instant Fresh event (Semicolon behind ∷ more) h w = (w.0, w.1, h)
fits-group low high wide inputs instant Named event (Semicolon behind ∷ more) h w = (w.0, w.1, h)
fits-group low high wide inputs instant Resetting event (Semicolon behind ∷ more) h w = (w.0, w.1)
fits-group low high wide inputs instant stage event (Name name ∷ more) h w =
    fits-met low high wide (λ s e. group inputs instant s e more) (met_name inputs instant stage event name)
    (wide-name wide inputs instant stage event name h)
    (λ s e l. fits-group low high wide inputs instant s e more l w)

pub fits-next : (r : Reading) → r.at ≤ length r.text → Fits r.at (length r.text) (length r.inputs) (next_group r)
fits-next r h =
    fits-group r.at (length r.text) (length r.inputs) r.inputs r.instant Fresh (replicate (length r.inputs) false)
    (tokens false r.at (drop r.at r.text)) (length-replicate (length r.inputs) false)
    (within-tokens r.at (length r.text) false r.at (drop r.at r.text) (omega arith) (omega (arith, length-drop r.at r.text)))
