-- To believe: the rules on names of guarded programs. All declared names differ; each name that is used is declared,
-- and no input is assigned; a block tests a local, and in a block only locals are assigned. A local is assigned at one
-- place, or once in each half of one block. A local is read only after it was assigned outside of blocks, or in both
-- halves of one block. In a half, an assignment in the same kind of half under the same test also counts. The local of
-- a test was assigned outside of blocks. The first rule that is broken counts, at its first place in the text.
use Rattle.std.specs.Prelude.{ℕ, ◌+◌, ◌==◌, Bool, true, false, not, ◌&&◌, ◌||◌, List, [], ◌∷◌, ◌++◌, map, flat_map}
use Rattle.std.specs.Prelude.{Option, Some, None, if◌then◌else◌}
use Rattle.std.specs.List.{list_any}
use Rattle.base_types.specs.Names.{is_same_name}
use Rattle.net_ir.specs.NameLists.{is_among, first_again}
use Rattle.csub_text.specs.Grammar.{begins_input}
use Rattle.csub_text.specs.Names.{names_in}
use Rattle.csub_text.specs.Trees.{Assign}
use Rattle.csub_guard.specs.Trees.{Piece, One, If, Program}

abbrev pub declared : Program → List (List ℕ)
declared p = map (λ s. s.name) p.states ++ p.globals ++ p.locals

-- ---- the uses of names, in the order of the text

-- where a name is used: outside of blocks, or in a half of the block with this number and this test, the first or not
pub data Place : Type 0 where
  Outside : Place
  Half : (block : ℕ) (test : List ℕ) (first : Bool) → Place

-- a name that is assigned, one that is read, or one that a block tests
pub data Use : Type 0 where
  Put : (name : List ℕ) (place : Place) → Use
  Taken : (name : List ℕ) (place : Place) → Use
  Tested : (name : List ℕ) → Use

abbrev pub used_name : Use → List ℕ
used_name (Put name place) = name
used_name (Taken name place) = name
used_name (Tested name) = name

-- the names in an assignment: as they are in the text, and as they are used
abbrev pub written_uses : Place → Assign → List Use
written_uses place a = Put a.target place ∷ map (λ n. Taken n place) (names_in a.value)

abbrev pub made_uses : Place → Assign → List Use
made_uses place a = map (λ n. Taken n place) (names_in a.value) ++ Put a.target place ∷ []

-- those of pieces, whose blocks are numbered from this number on
abbrev pub piece_uses : (Place → Assign → List Use) → ℕ → List Piece → List Use
piece_uses uses k [] = []
piece_uses uses k (One a ∷ pieces) = uses Outside a ++ piece_uses uses (k + 1) pieces
piece_uses uses k (If test first second ∷ pieces) =
    Tested test ∷ flat_map (uses (Half k test true)) first ++ flat_map (uses (Half k test false)) second
    ++ piece_uses uses (k + 1) pieces

abbrev pub all_uses : (Place → Assign → List Use) → Program → List Use
all_uses uses p = piece_uses uses 0 p.body ++ map (λ n. Taken n Outside) (names_in p.answer)

-- the name of the first use that breaks a rule, which may ask for the uses before it
abbrev pub first_breaking : (List Use → Use → Bool) → List Use → List Use → Option (List ℕ)
first_breaking breaks before [] = None
first_breaking breaks before (u ∷ uses) =
    if breaks before u then Some (used_name u) else first_breaking breaks (u ∷ before) uses

-- ---- each name that is used is declared

-- a name that is not declared, an input that is assigned, and in a block what is assigned or tested and no local
abbrev pub is_undeclared : Program → List Use → Use → Bool
is_undeclared p before (Put name Outside) = begins_input name || not (is_among name (declared p))
is_undeclared p before (Put name (Half block test first)) = not (is_among name p.locals)
is_undeclared p before (Taken name place) = not (is_among name (declared p))
is_undeclared p before (Tested name) = not (is_among name p.locals)

abbrev pub undeclared : Program → Option (List ℕ)
undeclared p = first_breaking (is_undeclared p) [] (all_uses written_uses p)

-- ---- each local is assigned at one place

-- the second half of a block whose first half is the other place
abbrev pub are_halves : Place → Place → Bool
are_halves (Half block test true) (Half other own false) = block == other
are_halves others more = false

-- a name that is assigned, and not in the first half of this block alone
abbrev pub is_put_elsewhere : List ℕ → Place → Use → Bool
is_put_elsewhere name place (Put other before) = is_same_name name other && not (are_halves before place)
is_put_elsewhere name place others = false

abbrev pub is_again : Program → List Use → Use → Bool
is_again p before (Put name place) = is_among name p.locals && list_any (is_put_elsewhere name place) before
is_again p before others = false

abbrev pub assigned_again : Program → Option (List ℕ)
assigned_again p = first_breaking (is_again p) [] (all_uses made_uses p)

-- ---- each local is assigned before it is read

abbrev pub is_outside : Place → Bool
is_outside Outside = true
is_outside others = false

-- whether two places are the same kind of half under the same test
abbrev pub are_alike : Place → Place → Bool
are_alike (Half block test true) (Half other own true) = is_same_name test own
are_alike (Half block test false) (Half other own false) = is_same_name test own
are_alike others more = false

abbrev pub is_put_where : List ℕ → (Place → Bool) → Use → Bool
is_put_where name test (Put other place) = is_same_name name other && test place
is_put_where name test others = false

-- a second half of a block in whose first half the name is assigned too
abbrev pub completes : List ℕ → List Use → Place → Bool
completes name before place = list_any (is_put_where name (λ other. are_halves other place)) before

-- whether a name is set at a place, where these uses stand before
abbrev pub is_set : List ℕ → Place → List Use → Bool
is_set name place before =
    list_any (is_put_where name (λ other. is_outside other || (are_alike other place || completes name before other)))
    before

abbrev pub is_unset : Program → List Use → Use → Bool
is_unset p before (Put name place) = false
is_unset p before (Taken name place) = is_among name p.locals && not (is_set name place before)
is_unset p before (Tested name) = not (list_any (is_put_where name is_outside) before)

abbrev pub unset : Program → Option (List ℕ)
unset p = first_breaking (is_unset p) [] (all_uses made_uses p)

-- ---- the first fault

-- why a program breaks the rules on names
pub data NameFault : Type 0 where
  Twice : (name : List ℕ) → NameFault
  Undeclared : (name : List ℕ) → NameFault
  Again : (name : List ℕ) → NameFault
  Unset : (name : List ℕ) → NameFault

abbrev pub fault_by : (List ℕ → NameFault) → Option (List ℕ) → Option NameFault → Option NameFault
fault_by fault None later = later
fault_by fault (Some name) later = Some (fault name)

-- the first fault, in the order of the rules
abbrev pub name_fault : Program → Option NameFault
name_fault p =
    fault_by Twice (first_again [] (declared p)) (fault_by Undeclared (undeclared p)
    (fault_by Again (assigned_again p) (fault_by Unset (unset p) None)))
