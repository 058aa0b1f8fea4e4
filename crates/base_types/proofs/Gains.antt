-- Writes one after another: what several writes appended, together.
use Rattle.std.proofs.Common.{◌≡◌, ℕ, suc, ◌+◌, ◌-◌, ◌<◌, min, List, [], ◌∷◌, ◌++◌, length, get_or, take, drop, Option, None, Some, refl, sym, ap, ◌∙◌, subst}
use Rattle.std.proofs.Common.{append_assoc, append-nil, Result, Ok, Err, arith}
use Rattle.std.proofs.Math.Seq.{take-append-add, take-add, drop-cons}
use Rattle.std.proofs.lemmas.Grind.{flat_map-append, common_steps}
use Rattle.std.proofs.lemmas.List.{take_min, take-append-le, take-append-drop}
use Rattle.std.specs.List.{flat_map}
use Rattle.base_types.specs.Faults.{Rose}
use Rattle.base_types.specs.Writing.{Gains, Stops, Appends, Wrote}
use Rattle.base_types.specs.declared.sinks.writing.SinkFault.{SinkFault}

pub gains-nothing : (a : Option (List ℕ)) → Gains a a []
gains-nothing None = tt
gains-nothing (Some xs) = sym (append-nil xs)

pub gains-twice : (a b c : Option (List ℕ)) (x y : List ℕ) → Gains a b x → Gains b c y → Gains a c (x ++ y)
gains-twice None None None x y p q = tt
gains-twice None None (Some c) x y p q = q
gains-twice None (Some b) c x y p q = absurd p
gains-twice (Some a) None None x y p q = tt
gains-twice (Some a) None (Some c) x y p q = absurd q
gains-twice (Some a) (Some b) None x y p q = tt
gains-twice (Some a) (Some b) (Some c) x y p q = q ∙ ap (λ t. t ++ y) p ∙ append_assoc a x y

-- nothing was written so far
pub appends-nothing : (a : Option (List ℕ)) (f : ℕ) → Appends a a f f []
appends-nothing a f = record { faults = refl; whole = gains-nothing a }

-- a text was appended, and another behind it
pub appends-twice : (a b c : Option (List ℕ)) (f g h : ℕ) (x y : List ℕ) → Appends a b f g x → Appends b c g h y → Appends a c f h (x ++ y)
appends-twice a b c f g h x y p q = record { faults = q.faults ∙ p.faults; whole = gains-twice a b c x y p.whole q.whole }

-- a text was appended, then a write of another stopped: the text of both, and of what would have
-- come, was written up to there
pub stops-behind : (a b c : Option (List ℕ)) (f g h : ℕ) (x y z : List ℕ) → Appends a b f g x → Stops b c g h y → Stops a c f h (x ++ (y ++ z))
stops-behind a b c f g h x y z p q =
    let t : ℕ = min q.front.taken (length y) in
    let same : take t (y ++ z) ≡ take q.front.taken y = take-append-le t y z (omega arith) ∙ take_min q.front.taken y in
    let front : take (length x + t) (x ++ (y ++ z)) ≡ x ++ take q.front.taken y = take-append-add x (y ++ z) t ∙ ap (λ s. x ++ s) same in
    record {
      faults = subst (λ n. Rose n h) p.faults q.faults;
      front = record { taken = length x + t; gains = rw front (gains-twice a b c x (take q.front.taken y) p.whole q.front.gains) };
    }

-- a text from a place on: the piece there, and the rest
pub text_at : (start len : ℕ) (text : List ℕ) → take start text ++ (take (start + len - start) (drop start text) ++ drop len (drop start text)) ≡ text
text_at start len text =
    let same : start + len - start ≡ len = omega arith in
    rw (same, take-append-drop len (drop start text)) (take-append-drop start text)

-- the pieces from a place on: the piece there, and the others
pub pieces_at : {X : Type 0} (f : X → List ℕ) (i : ℕ) (xs : List X) (d : X) → i < length xs →
    flat_map f (take i xs) ++ (f (get_or xs i d) ++ flat_map f (drop (suc i) xs)) ≡ flat_map f xs
pieces_at f i xs d within =
    let here : drop i xs ≡ get_or xs i d ∷ drop (suc i) xs = drop-cons xs i d within in
    ap (λ t. flat_map f (take i xs) ++ t) (sym (ap (flat_map f) here)) ∙ sym (flat_map-append f (take i xs) (drop i xs))
    ∙ ap (flat_map f) (take-append-drop i xs)

-- a text up to the end of a piece: what stands before the piece, and the piece
pub take_piece : (start len : ℕ) (text : List ℕ) → take (start + len) text ≡ take start text ++ take (start + len - start) (drop start text)
take_piece start len text = let same : start + len - start ≡ len = omega arith in rw same (take-add start len text)

-- a first text was appended; what a write of another text did, it did of both
pub wrote-behind : (a b c : Option (List ℕ)) (f g h : ℕ) (x y : List ℕ) (answer : Result (Unit {0}) SinkFault) → Appends a b f g x → Wrote b c g h y answer →
    Wrote a c f h (x ++ y) answer
wrote-behind a b c f g h x y (Ok done) p q = appends-twice a b c f g h x y p q
wrote-behind a b c f g h x y (Err fault) p q =
    subst (λ t. Stops a c f h (x ++ t)) (append-nil y) (stops-behind a b c f g h x y [] p q)

-- a write of a text stopped, so a write of the text and of more would have
pub stops-early : (a b : Option (List ℕ)) (f g : ℕ) (x y : List ℕ) → Stops a b f g x → Stops a b f g (x ++ y)
stops-early a b f g x y s = stops-behind a a b f f g [] x y (appends-nothing a f) s

-- a line, in the parts in which it is written
pub regroup : (a b c d : List ℕ) → a ++ ((b ++ c) ++ d) ≡ (a ++ b) ++ (c ++ d)
regroup a b c d = grind (arith, common_steps)
