-- Inner: the plans of pieces, one piece more.
use Rattle.std.proofs.Common.{◌≡◌, ℕ, ◌+◌, ◌<◌, ◌≤◌, List, [], ◌∷◌, ◌++◌, length, map, take, get_or, refl, sym, ◌∙◌, ap, arith, subst}
use Rattle.std.specs.Prelude.{flat_map}
use Rattle.std.specs.List.{AllByRecursion}
use Rattle.std.proofs.lemmas.Grind.{flat_map-append}
use Rattle.std.proofs.lemmas.List.{append_assoc, append-nil, get_or-map, length-append, length-map, map-append, map_more}
use Rattle.std.proofs.lemmas.List.Elements.{All-from_recursion}
use Rattle.csub_guard.specs.Names.{declared}
use Rattle.csub_guard.specs.Trees.{Piece, One, If, Program}
use Rattle.csub_guard.specs.Views.{piece_of}
use Rattle.csub_guard.specs.declared.trees.Piece.{Piece as CodePiece}
use Rattle.csub_text.specs.Trees.{Assign}
use Rattle.run_steps.specs.Slots.{slot_in}
use Rattle.run_steps.specs.declared.term.Term.{Term}
use Rattle.csub_guard_run.specs.declared.plan.Block.{Block}
use Rattle.csub_guard_run.specs.declared.plan.Body.{Body}
use Rattle.csub_guard_run.specs.Plans.{IsStretch, Segment, segment_pieces, IsBlock, AreBlocks, IsBody, IsEnd, PieceFits, AllTargets}
use Rattle.csub_guard_run.specs.Runs.{BodyFits}
use Rattle.csub_guard_run.specs.Tracks.{BlockGates, BodyGates}

-- an assignment more
pub body-one : (names : List (List ℕ)) (pieces : List Piece) (old new : Body) (a : Assign) → (is : IsBody names pieces old)
    → new.blocks.items ≡ old.blocks.items → ((assigns : List Assign) → IsStretch names assigns old.last → IsStretch names (assigns ++ a ∷ []) new.last)
    → IsBody names (pieces ++ One a ∷ []) new
body-one names pieces old new a is same more = record {
  segments = is.segments;
  behind = is.behind ++ a ∷ [];
  split = ap (λ l. l ++ One a ∷ []) is.split ∙ append_assoc (flat_map segment_pieces is.segments) (map One is.behind) (One a ∷ [])
      ∙ ap (λ l. flat_map segment_pieces is.segments ++ l) (sym (map-append One is.behind (a ∷ [])));
  blocks = subst (AreBlocks names is.segments) (sym same) is.blocks;
  last = more is.behind is.last;
}

blocks-more : (names : List (List ℕ)) (segments : List Segment) (blocks : List Block) (s : Segment) (b : Block) → AreBlocks names segments blocks
    → IsBlock names s b → AreBlocks names (segments ++ s ∷ []) (blocks ++ b ∷ [])
blocks-more names [] [] s b are is = (is, tt)
blocks-more names [] (c ∷ blocks) s b are is = absurd are
blocks-more names (t ∷ segments) [] s b are is = absurd are
blocks-more names (t ∷ segments) (c ∷ blocks) s b are is = (are.0, blocks-more names segments blocks s b are.1 is)

-- a block more
pub body-block : (names : List (List ℕ)) (pieces : List Piece) (old new : Body) (b : Block) (test : List ℕ) (first second : List Assign)
    → (is : IsBody names pieces old) → new.blocks.items ≡ old.blocks.items ++ b ∷ []
    → b.before ≡ old.last → b.test ≡ slot_in names test → slot_in names test < length names → IsStretch names first b.first → IsStretch names second b.second
    → IsStretch names [] new.last → IsBody names (pieces ++ If test first second ∷ []) new
body-block names pieces old new b test first second is same before tests low one two none =
    let s : Segment = record { before = is.behind; test = test; first = first; second = second } in
    let flat = flat_map segment_pieces is.segments in
    record {
      segments = is.segments ++ s ∷ [];
      behind = [];
      split = ap (λ l. l ++ If test first second ∷ []) is.split ∙ append_assoc flat (map One is.behind) (If test first second ∷ [])
          ∙ ap (λ l. flat ++ l) (sym (append-nil (segment_pieces s))) ∙ sym (flat_map-append segment_pieces is.segments (s ∷ []))
          ∙ sym (append-nil (flat_map segment_pieces (is.segments ++ s ∷ [])));
      blocks = subst (AreBlocks names (is.segments ++ s ∷ [])) (sym same) (blocks-more names is.segments old.blocks.items s b is.blocks (record {
        before = subst (IsStretch names is.behind) (sym before) is.last;
        test = tests;
        low = low;
        first = one;
        second = two;
      }));
      last = none;
    }

pub body-none : (names : List (List ℕ)) (b : Body) → b.blocks.items ≡ [] → IsStretch names [] b.last → IsBody names [] b
body-none names b none last = record {
  segments = [];
  behind = [];
  split = refl;
  blocks = subst (AreBlocks names []) (sym none) tt;
  last = last;
}

-- ---- all plans are of gates alone

blocks-gates : (names : List (List ℕ)) (segments : List Segment) (blocks : List Block) → AreBlocks names segments blocks → AllByRecursion BlockGates blocks
blocks-gates names [] [] are = tt
blocks-gates names [] (b ∷ blocks) are = absurd are
blocks-gates names (s ∷ segments) [] are = absurd are
blocks-gates names (s ∷ segments) (b ∷ blocks) are =
    (record { before = are.0.before.tables; first = are.0.first.tables; second = are.0.second.tables }, blocks-gates names segments blocks are.1)

pub body-gates : (names : List (List ℕ)) (pieces : List Piece) (b : Body) → IsBody names pieces b → BodyGates b
body-gates names pieces b is = record {
  blocks = All-from_recursion BlockGates b.blocks.items (blocks-gates names is.segments b.blocks.items is.blocks);
  last = is.last.tables;
}

-- the assignments behind the last block are pieces
pub body-few : (names : List (List ℕ)) (pieces : List Piece) (b : Body) → IsBody names pieces b → b.last.count ≤ length pieces
body-few names pieces b is =
    let all = ap length is.split ∙ length-append (flat_map segment_pieces is.segments) (map One is.behind) in
    omega (arith, all, length-map is.behind One, is.last.counts)

-- there are slots for all names
pub names-low : (p : Program) (body : Body) (answer : Term) (n : ℕ) → IsEnd p body answer → BodyFits n body → length (declared p) < n
names-low p body answer n is fits = omega (arith, is.makes.last.named, is.named_low, fits.last)

-- ---- pieces in code

-- what is asked of a piece, where it is asked of all
pub piece-at : (names : List (List ℕ)) (pieces : List CodePiece) (i : ℕ) (x : CodePiece) → i < length pieces → x ≡ get_or pieces i x
    → AllTargets names (map piece_of pieces) → PieceFits names (piece_of x)
piece-at names pieces i x low at all =
    let own = All-from_recursion (PieceFits names) (map piece_of pieces) all i (piece_of x) (omega (arith, low, length-map pieces piece_of)) in
    subst (PieceFits names) (get_or-map piece_of pieces i x (piece_of x) low ∙ ap piece_of (sym at)) own

pub pieces-more : (names : List (List ℕ)) (pieces : List CodePiece) (i : ℕ) (x : CodePiece) (b : Body) → i < length pieces → x ≡ get_or pieces i x
    → IsBody names (map piece_of (take i pieces) ++ piece_of x ∷ []) b → IsBody names (map piece_of (take (i + 1) pieces)) b
pieces-more names pieces i x b low at is =
    let more = map_more piece_of pieces i x low ∙ ap (λ y. map piece_of (take i pieces) ++ piece_of y ∷ []) (sym at) in
    subst (λ l. IsBody names l b) (sym more) is
