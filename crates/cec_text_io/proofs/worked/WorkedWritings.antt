-- Worked writings, by hand: what a sink may have gained, by how the writing ended, and names in a line.
use Rattle.std.proofs.Common.{◌≡◌, ℕ, List, [], ◌∷◌, None, Some, codes, refl, inl, inr, arith, lit≤}
use Rattle.base_types.specs.SinkChanges.{SinkChange}
use Rattle.cec_text_io.specs.declared.writing.Written.TheVariants.{Done, WriteFault, NoMemory}
use Rattle.cec_text_io.specs.Contents.{IsHeld}
use Rattle.cec_text_io.specs.ErrorLines.{joined_names}
use Rattle.cec_text_io.specs.Writings.{LeavesText, LeavesPieces}

-- the text is 1 and 2
abbrev IsText : List ℕ → Type 0
IsText text = text ≡ 1 ∷ 2 ∷ []

-- a sink of nothing that gains these bytes, and counts so many faults more
abbrev gains : List ℕ → ℕ → SinkChange
gains bytes faults = record { before = Some []; after = Some bytes; faults_before = 0; faults_now = faults }

the_whole_text : LeavesText IsText (gains (1 ∷ 2 ∷ []) 0) (Some Done)
the_whole_text = (1 ∷ 2 ∷ [], refl, record { faults = refl; whole = refl })

no_fault_is_done : LeavesText IsText (gains (1 ∷ 2 ∷ []) 1) (Some Done) → ⊥
no_fault_is_done h = let e = h.2.faults in omega (arith, e)

a_prefix : LeavesText IsText (gains (1 ∷ []) 1) (Some WriteFault)
a_prefix = (1 ∷ 2 ∷ [], refl, record { faults = record { kept = lit≤ tt; more = lit≤ tt }; front = record { taken = 1; gains = refl } })

no_prefix_for_want_of_memory : LeavesText IsText (gains (1 ∷ []) 0) (Some NoMemory) → ⊥
no_prefix_for_want_of_memory h = let e = h.whole in cc

nothing_written : LeavesText IsText (gains [] 0) None
nothing_written = record { faults = refl; whole = refl }

a_prefix_of_pieces : LeavesPieces IsText (gains (1 ∷ []) 0) (Some NoMemory)
a_prefix_of_pieces = inr (1 ∷ 2 ∷ [], refl, refl, record { taken = 1; gains = refl })

nothing_of_pieces : LeavesPieces IsText (gains [] 0) (Some NoMemory)
nothing_of_pieces = inl (record { faults = refl; whole = refl })

what_is_held : IsHeld (Some (λ name. name)) (codes "A") (codes "A")
what_is_held = refl

what_is_not_held : IsHeld (Some (λ name. [])) (codes "A") (codes "A") → ⊥
what_is_not_held e = cc

names : joined_names [] ∷ joined_names (codes "A" ∷ []) ∷ joined_names (codes "A" ∷ codes "B" ∷ codes "C" ∷ []) ∷ [] ≡ [] ∷ codes "A" ∷ codes "A -> B -> C" ∷ []
names = refl
