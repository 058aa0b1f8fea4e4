-- Texts that are written piece by piece, and what was written of them.
use Rattle.std.proofs.Common.{◌≡◌, ℕ, List, [], ◌++◌, length, take, drop, Option, None, Some, inl, inr, refl, sym, ap, ◌∙◌, subst, ⊎_elim}
use Rattle.std.proofs.Common.{append_assoc, append-nil}
use Rattle.std.proofs.lemmas.List.{take-append-drop}
use Rattle.std.proofs.Math.Seq.{take-append_seam}
use Rattle.base_types.specs.SinkChanges.{SinkChange}
use Rattle.base_types.specs.Writing.{Gains, Appends, Stops}
use Rattle.base_types.proofs.Exports.{appends-nothing, appends-twice, stops-behind}
use Rattle.cec_text_io.specs.Writings.{LeavesText, LeavesPieces}
use Rattle.cec_text_io.specs.declared.writing.Written.{Written}
use Rattle.cec_text_io.specs.declared.writing.Written.TheVariants.{Done, WriteFault, NoMemory}

abbrev pub sinks : Option (List ℕ) → Option (List ℕ) → ℕ → ℕ → SinkChange
sinks before after faults_before faults_now = record { before = before; after = after; faults_before = faults_before; faults_now = faults_now }

-- ---- the pieces of a text

-- the pieces so far were appended, and the rest is still to come
pub record PiecesSoFar (whole rest : List ℕ) (s : SinkChange) : Type 0 where
  pub given : List ℕ
  pub join : given ++ rest ≡ whole
  pub came : Appends s.before s.after s.faults_before s.faults_now given

pub no_piece : (whole : List ℕ) (a : Option (List ℕ)) (f : ℕ) → PiecesSoFar whole whole (sinks a a f f)
no_piece whole a f = record { given = []; join = refl; came = appends-nothing a f }

-- what was given, the piece that is due, and what comes behind it
with_piece : (n : ℕ) (whole given rest piece : List ℕ) → given ++ rest ≡ whole → piece ≡ take n rest → given ++ (piece ++ drop n rest) ≡ whole
with_piece n whole given rest piece join is =
    ap (λ l. given ++ l) (ap (λ l. l ++ drop n rest) is ∙ take-append-drop n rest) ∙ join

pub one_piece_more : (n : ℕ) (whole rest piece new : List ℕ) (a b c : Option (List ℕ)) (f g h : ℕ) → PiecesSoFar whole rest (sinks a b f g)
    → piece ≡ take n rest → new ≡ drop n rest → Appends b c g h piece → PiecesSoFar whole new (sinks a c f h)
one_piece_more n whole rest piece new a b c f g h so is behind came = record {
  given = so.given ++ piece;
  join = ap (λ l. (so.given ++ piece) ++ l) behind ∙ append_assoc so.given piece (drop n rest) ∙ with_piece n whole so.given rest piece so.join is;
  came = appends-twice a b c f g h so.given piece so.came came;
}

pub all_pieces : (whole rest : List ℕ) (s : SinkChange) → PiecesSoFar whole rest s → rest ≡ [] → LeavesPieces (λ text. text ≡ whole) s (Some Done)
all_pieces whole rest s so none =
    let all : so.given ≡ whole = sym (append-nil so.given) ∙ ap (λ l. so.given ++ l) (sym none) ∙ so.join in
    (so.given, all, so.came)

pub piece_stops : (n : ℕ) (whole rest piece : List ℕ) (a b c : Option (List ℕ)) (f g h : ℕ) → PiecesSoFar whole rest (sinks a b f g) → piece ≡ take n rest
    → Stops b c g h piece → LeavesPieces (λ text. text ≡ whole) (sinks a c f h) (Some WriteFault)
piece_stops n whole rest piece a b c f g h so is stops =
    (so.given ++ (piece ++ drop n rest), with_piece n whole so.given rest piece so.join is, stops-behind a b c f g h so.given piece (drop n rest) so.came stops)

pub piece_lacks : (whole rest : List ℕ) (s : SinkChange) → PiecesSoFar whole rest s → LeavesPieces (λ text. text ≡ whole) s (Some NoMemory)
piece_lacks whole rest s so =
    let front : take (length so.given) whole ≡ so.given = sym (ap (take (length so.given)) so.join) ∙ take-append_seam so.given rest in
    inr (whole, refl, so.came.faults, record { taken = length so.given; gains = subst (Gains s.before s.after) (sym front) so.came.whole })

-- ---- what a text is

pub text_as : (P Q : List ℕ → Type 0) (s : SinkChange) (ended : Option Written) → ((text : List ℕ) → P text → Q text) → LeavesText P s ended
    → LeavesText Q s ended
text_as P Q s None f l = l
text_as P Q s (Some Done) f l = (l.0, f l.0 l.1, l.2)
text_as P Q s (Some WriteFault) f l = (l.0, f l.0 l.1, l.2)
text_as P Q s (Some NoMemory) f l = l

pub pieces_as : (P Q : List ℕ → Type 0) (s : SinkChange) (ended : Option Written) → ((text : List ℕ) → P text → Q text) → LeavesPieces P s ended
    → LeavesPieces Q s ended
pieces_as P Q s None f l = l
pieces_as P Q s (Some Done) f l = (l.0, f l.0 l.1, l.2)
pieces_as P Q s (Some WriteFault) f l = (l.0, f l.0 l.1, l.2)
pieces_as P Q s (Some NoMemory) f l = ⊎_elim inl (λ x. inr (x.0, f x.0 x.1, x.2, x.3)) l

-- where nothing was written, nothing came
pub nothing_written : (P : List ℕ → Type 0) (s : SinkChange) → Appends s.before s.after s.faults_before s.faults_now [] → LeavesPieces P s (Some NoMemory)
nothing_written P s a = inl a
