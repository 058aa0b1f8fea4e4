-- Inner: written by hand: programs, what inlining makes of them, and the flat forms of that. The flat forms are those that the reference
-- implementation gives the programs. The inlined trees are from another implementation, which is not in the repository.
use Rattle.std.proofs.Common.{◌≡◌, ℕ, List, [], ◌∷◌, Result, Ok, Err, codes, refl}
use Rattle.std.specs.Prelude.{slice_index_or}
use Rattle.base_types.specs.Relations as flat_relations
use Rattle.est_ast.specs.FlatTrees as flat
use Rattle.est_ast.specs.Trees.{Tick, Sig, Not, And, Or, Round, Square, NoExprs, MoreExprs, Plain, Immediate, Count, At, Nothing, Pause, Halt, Emit, Sustain}
use Rattle.est_ast.specs.Trees.{Await, AwaitCase, Present, PresentCase, Loop, LoopEach, Every, Repeat, Abort, AbortCase, WeakAbort, Suspend, Trap, Exit}
use Rattle.est_ast.specs.Trees.{Signal, Run, Seq, Par, Group, Missing, Written, NoHandler, Handled, NoStmts, MoreStmts, NoCases, MoreCases, Implies, Excludes}
use Rattle.est_ast.specs.Trees.{Input, InputOutput, Output, Relations, Module, SourceProgram}
use Rattle.est_names.proofs.worked.PlainTrees.{at, n, modul, as_}
use Rattle.est_expand.specs.Faults.{FlattenFault, UnknownModule, UnknownSignal, UnknownTrap}
use Rattle.est_expand.specs.Flattening.{flattening, flattened}
use Rattle.est_expand.specs.Walks.{on_ok}
use Rattle.est_expand_laws.specs.Inlining.{inlining, inlined}
use Rattle.est_expand_laws.specs.Laws.{with_source_names}

abbrev made : List ℕ → List (List ℕ) → ℕ → ℕ → ℕ → List flat_relations.Relation → flat.Stmt → flat.Flat
made name signals inputs both outputs relations body = record {
  name = name;
  signals = signals;
  inputs = inputs;
  both = both;
  outputs = outputs;
  relations = relations;
  body = body;
}

-- the first module is the main one
abbrev inlined_first : SourceProgram → Module
inlined_first modules = inlined modules (slice_index_or modules 0 (modul (n [] 0 0) [] (At (at 0 0) Nothing)))

-- its flat form by itself, with the names of the source
abbrev flat_alone : Module → Result flat.Flat FlattenFault
flat_alone main = on_ok (flattened [] main) (λ alone. Ok (with_source_names alone))

-- A local signal of the caller goes in as a formal. The module has a local signal of the same name, which does not capture it.
--     module M: output O; signal X in run N [signal X/S]; present X then emit O end end end module module N: output S; signal X in emit X;
--     emit S end end module
abbrev program_0 : SourceProgram
program_0 = (modul (n (codes "M") 7 8) ((Output ((n (codes "O") 17 18) ∷ [])) ∷ []) (At (at 20 81) (Signal ((n (codes "X") 27 28) ∷ []) (At
    (at 32 77) (Seq (MoreStmts (At (at 32 50) (Run (n (codes "N") 36 37) ((as_ (n (codes "X") 46 47) (n (codes "S") 48 49)) ∷ [])))
    (MoreStmts (At (at 52 77) (Present (Sig (n (codes "X") 60 61)) (Written (At (at 67 73) (Emit (n (codes "O") 72 73)))) Missing))
    NoStmts))))))) ∷ (modul (n (codes "N") 100 101) ((Output ((n (codes "S") 110 111) ∷ [])) ∷ []) (At (at 113 143) (Signal ((n (codes "X")
    120 121) ∷ []) (At (at 125 139) (Seq (MoreStmts (At (at 125 131) (Emit (n (codes "X") 130 131))) (MoreStmts (At (at 133 139) (Emit (n
    (codes "S") 138 139))) NoStmts))))))) ∷ []

abbrev alone_0 : Module
alone_0 = modul (n (codes "M") 7 8) ((Output ((n (0 ∷ codes "O") 17 18) ∷ [])) ∷ []) (At (at 20 81) (Signal ((n (0 ∷ codes "X") 27 28) ∷ [])
    (At (at 32 77) (Seq (MoreStmts (At (at 32 50) (Group (At (at 113 143) (Signal ((n (1 ∷ codes "X") 120 121) ∷ []) (At (at 125 139) (Seq
    (MoreStmts (At (at 125 131) (Emit (n (1 ∷ codes "X") 130 131))) (MoreStmts (At (at 133 139) (Emit (n (0 ∷ codes "X") 138 139)))
    NoStmts)))))))) (MoreStmts (At (at 52 77) (Present (Sig (n (0 ∷ codes "X") 60 61)) (Written (At (at 67 73) (Emit (n (0 ∷ codes "O") 72
    73)))) Missing)) NoStmts))))))

inlined_0 : inlined_first program_0 ≡ alone_0
unfolding inlining
inlined_0 = refl

flat_0 : flat_alone alone_0 ≡ Ok (made (codes "M") ((codes "O") ∷ (codes "X") ∷ (codes "X") ∷ []) 0 0 1 [] (flat.At (at 20 81) (flat.Signal
    (1 ∷ []) (flat.At (at 32 77) (flat.Seq (flat.MoreStmts (flat.At (at 113 143) (flat.Signal (2 ∷ []) (flat.At (at 125 139) (flat.Seq
    (flat.MoreStmts (flat.At (at 125 131) (flat.Emit 2)) (flat.MoreStmts (flat.At (at 133 139) (flat.Emit 1)) flat.NoStmts))))))
    (flat.MoreStmts (flat.At (at 52 77) (flat.Present (flat.Sig 1) (flat.Written (flat.At (at 67 73) (flat.Emit 0))) flat.Missing))
    flat.NoStmts)))))))
unfolding flattening
flat_0 = refl

-- Formals have the names of one another's actuals: an actual is looked up where the `run` stands.
--     module M: output O, P; run N [signal O/P, P/O] end module module N: output O, P; emit O; emit P end module
abbrev program_1 : SourceProgram
program_1 = (modul (n (codes "M") 7 8) ((Output ((n (codes "O") 17 18) ∷ (n (codes "P") 20 21) ∷ [])) ∷ []) (At (at 23 46) (Run (n (codes
    "N") 27 28) ((as_ (n (codes "O") 37 38) (n (codes "P") 39 40)) ∷ (as_ (n (codes "P") 42 43) (n (codes "O") 44 45)) ∷ [])))) ∷ (modul (n
    (codes "N") 65 66) ((Output ((n (codes "O") 75 76) ∷ (n (codes "P") 78 79) ∷ [])) ∷ []) (At (at 81 95) (Seq (MoreStmts (At (at 81 87)
    (Emit (n (codes "O") 86 87))) (MoreStmts (At (at 89 95) (Emit (n (codes "P") 94 95))) NoStmts))))) ∷ []

abbrev alone_1 : Module
alone_1 = modul (n (codes "M") 7 8) ((Output ((n (0 ∷ codes "O") 17 18) ∷ (n (0 ∷ codes "P") 20 21) ∷ [])) ∷ []) (At (at 23 46) (Group (At
    (at 81 95) (Seq (MoreStmts (At (at 81 87) (Emit (n (0 ∷ codes "P") 86 87))) (MoreStmts (At (at 89 95) (Emit (n (0 ∷ codes "O") 94 95)))
    NoStmts))))))

inlined_1 : inlined_first program_1 ≡ alone_1
unfolding inlining
inlined_1 = refl

flat_1 : flat_alone alone_1 ≡ Ok (made (codes "M") ((codes "O") ∷ (codes "P") ∷ []) 0 0 2 [] (flat.At (at 81 95) (flat.Seq (flat.MoreStmts
    (flat.At (at 81 87) (flat.Emit 1)) (flat.MoreStmts (flat.At (at 89 95) (flat.Emit 0)) flat.NoStmts)))))
unfolding flattening
flat_1 = refl

-- A formal that is not renamed means what its name means at the `run`, and a local signal of the module hides a formal.
--     module M: output O; signal S in run N end; emit O end module module N: output S; emit S; signal S in emit S end; emit S end module
abbrev program_2 : SourceProgram
program_2 = (modul (n (codes "M") 7 8) ((Output ((n (codes "O") 17 18) ∷ [])) ∷ []) (At (at 20 49) (Seq (MoreStmts (At (at 20 41) (Signal
    ((n (codes "S") 27 28) ∷ []) (At (at 32 37) (Run (n (codes "N") 36 37) [])))) (MoreStmts (At (at 43 49) (Emit (n (codes "O") 48 49)))
    NoStmts))))) ∷ (modul (n (codes "N") 68 69) ((Output ((n (codes "S") 78 79) ∷ [])) ∷ []) (At (at 81 119) (Seq (MoreStmts (At (at 81 87)
    (Emit (n (codes "S") 86 87))) (MoreStmts (At (at 89 111) (Signal ((n (codes "S") 96 97) ∷ []) (At (at 101 107) (Emit (n (codes "S") 106
    107))))) (MoreStmts (At (at 113 119) (Emit (n (codes "S") 118 119))) NoStmts)))))) ∷ []

abbrev alone_2 : Module
alone_2 = modul (n (codes "M") 7 8) ((Output ((n (0 ∷ codes "O") 17 18) ∷ [])) ∷ []) (At (at 20 49) (Seq (MoreStmts (At (at 20 41) (Signal
    ((n (0 ∷ codes "S") 27 28) ∷ []) (At (at 32 37) (Group (At (at 81 119) (Seq (MoreStmts (At (at 81 87) (Emit (n (0 ∷ codes "S") 86 87)))
    (MoreStmts (At (at 89 111) (Signal ((n (1 ∷ codes "S") 96 97) ∷ []) (At (at 101 107) (Emit (n (1 ∷ codes "S") 106 107))))) (MoreStmts
    (At (at 113 119) (Emit (n (0 ∷ codes "S") 118 119))) NoStmts))))))))) (MoreStmts (At (at 43 49) (Emit (n (0 ∷ codes "O") 48 49)))
    NoStmts))))

inlined_2 : inlined_first program_2 ≡ alone_2
unfolding inlining
inlined_2 = refl

flat_2 : flat_alone alone_2 ≡ Ok (made (codes "M") ((codes "O") ∷ (codes "S") ∷ (codes "S") ∷ []) 0 0 1 [] (flat.At (at 20 49) (flat.Seq
    (flat.MoreStmts (flat.At (at 20 41) (flat.Signal (1 ∷ []) (flat.At (at 81 119) (flat.Seq (flat.MoreStmts (flat.At (at 81 87) (flat.Emit
    1)) (flat.MoreStmts (flat.At (at 89 111) (flat.Signal (2 ∷ []) (flat.At (at 101 107) (flat.Emit 2)))) (flat.MoreStmts (flat.At (at 113
    119) (flat.Emit 1)) flat.NoStmts))))))) (flat.MoreStmts (flat.At (at 43 49) (flat.Emit 0)) flat.NoStmts)))))
unfolding flattening
flat_2 = refl

-- Each trap is its module's own, and a handler stands outside its trap.
--     module M: output O; trap T in run N; exit T handle T do emit O end end module module N: output O; trap T in trap U in exit T || exit
--     U end handle T do exit V end end module
abbrev program_3 : SourceProgram
program_3 = (modul (n (codes "M") 7 8) ((Output ((n (codes "O") 17 18) ∷ [])) ∷ []) (At (at 20 66) (Trap (n (codes "T") 25 26) (At (at 30
    43) (Seq (MoreStmts (At (at 30 35) (Run (n (codes "N") 34 35) [])) (MoreStmts (At (at 37 43) (Exit (n (codes "T") 42 43))) NoStmts))))
    (Handled (n (codes "T") 51 52) (At (at 56 62) (Emit (n (codes "O") 61 62))))))) ∷ (modul (n (codes "N") 85 86) ((Output ((n (codes "O")
    95 96) ∷ [])) ∷ []) (At (at 98 161) (Trap (n (codes "T") 103 104) (At (at 108 138) (Trap (n (codes "U") 113 114) (At (at 118 134) (Par
    (MoreStmts (At (at 118 124) (Exit (n (codes "T") 123 124))) (MoreStmts (At (at 128 134) (Exit (n (codes "U") 133 134))) NoStmts))))
    NoHandler)) (Handled (n (codes "T") 146 147) (At (at 151 157) (Exit (n (codes "V") 156 157))))))) ∷ []

abbrev alone_3 : Module
alone_3 = modul (n (codes "M") 7 8) ((Output ((n (0 ∷ codes "O") 17 18) ∷ [])) ∷ []) (At (at 20 66) (Trap (n (0 ∷ codes "T") 25 26) (At (at
    30 43) (Seq (MoreStmts (At (at 30 35) (Group (At (at 98 161) (Trap (n (1 ∷ codes "T") 103 104) (At (at 108 138) (Trap (n (1 ∷ codes "U")
    113 114) (At (at 118 134) (Par (MoreStmts (At (at 118 124) (Exit (n (1 ∷ codes "T") 123 124))) (MoreStmts (At (at 128 134) (Exit (n (1 ∷
    codes "U") 133 134))) NoStmts)))) NoHandler)) (Handled (n (1 ∷ codes "T") 146 147) (At (at 151 157) (Exit (n (1 ∷ codes "V") 156
    157)))))))) (MoreStmts (At (at 37 43) (Exit (n (0 ∷ codes "T") 42 43))) NoStmts)))) (Handled (n (0 ∷ codes "T") 51 52) (At (at 56 62)
    (Emit (n (0 ∷ codes "O") 61 62))))))

inlined_3 : inlined_first program_3 ≡ alone_3
unfolding inlining
inlined_3 = refl

flat_3 : flat_alone alone_3 ≡ Err (UnknownTrap (at 156 157))
unfolding flattening
flat_3 = refl

-- A trap of the caller is not seen in the module.
--     module M: trap T in run N end end module module N: exit T end module
abbrev program_4 : SourceProgram
program_4 = (modul (n (codes "M") 7 8) [] (At (at 10 29) (Trap (n (codes "T") 15 16) (At (at 20 25) (Run (n (codes "N") 24 25) []))
    NoHandler))) ∷ (modul (n (codes "N") 48 49) [] (At (at 51 57) (Exit (n (codes "T") 56 57)))) ∷ []

abbrev alone_4 : Module
alone_4 = modul (n (codes "M") 7 8) [] (At (at 10 29) (Trap (n (0 ∷ codes "T") 15 16) (At (at 20 25) (Group (At (at 51 57) (Exit (n (1 ∷
    codes "T") 56 57))))) NoHandler))

inlined_4 : inlined_first program_4 ≡ alone_4
unfolding inlining
inlined_4 = refl

flat_4 : flat_alone alone_4 ≡ Err (UnknownTrap (at 56 57))
unfolding flattening
flat_4 = refl

-- A signal of the caller is not seen in the module.
--     module M: output O; signal S in run N end end module module N: output O; emit O; present S then emit O end end module
abbrev program_5 : SourceProgram
program_5 = (modul (n (codes "M") 7 8) ((Output ((n (codes "O") 17 18) ∷ [])) ∷ []) (At (at 20 41) (Signal ((n (codes "S") 27 28) ∷ []) (At
    (at 32 37) (Run (n (codes "N") 36 37) []))))) ∷ (modul (n (codes "N") 60 61) ((Output ((n (codes "O") 70 71) ∷ [])) ∷ []) (At (at 73
    106) (Seq (MoreStmts (At (at 73 79) (Emit (n (codes "O") 78 79))) (MoreStmts (At (at 81 106) (Present (Sig (n (codes "S") 89 90))
    (Written (At (at 96 102) (Emit (n (codes "O") 101 102)))) Missing)) NoStmts))))) ∷ []

abbrev alone_5 : Module
alone_5 = modul (n (codes "M") 7 8) ((Output ((n (0 ∷ codes "O") 17 18) ∷ [])) ∷ []) (At (at 20 41) (Signal ((n (0 ∷ codes "S") 27 28) ∷ [])
    (At (at 32 37) (Group (At (at 73 106) (Seq (MoreStmts (At (at 73 79) (Emit (n (0 ∷ codes "O") 78 79))) (MoreStmts (At (at 81 106)
    (Present (Sig (n (1 ∷ codes "S") 89 90)) (Written (At (at 96 102) (Emit (n (0 ∷ codes "O") 101 102)))) Missing)) NoStmts))))))))

inlined_5 : inlined_first program_5 ≡ alone_5
unfolding inlining
inlined_5 = refl

flat_5 : flat_alone alone_5 ≡ Err (UnknownSignal (at 89 90))
unfolding flattening
flat_5 = refl

-- A module that two modules run: a formal is handed down, and what stands in one `run` more is apart.
--     module M: input A; output O; signal X in run N [signal X/Y]; run K [signal X/A] end end module module N: output Y, O; signal X in run
--     K [signal X/A, Y/O]; emit X end end module module K: input A; output O; signal X in present A then emit X; emit O end end end module
abbrev program_6 : SourceProgram
program_6 = (modul (n (codes "M") 7 8) ((Input ((n (codes "A") 16 17) ∷ [])) ∷ (Output ((n (codes "O") 26 27) ∷ [])) ∷ []) (At (at 29 83)
    (Signal ((n (codes "X") 36 37) ∷ []) (At (at 41 79) (Seq (MoreStmts (At (at 41 59) (Run (n (codes "N") 45 46) ((as_ (n (codes "X") 55
    56) (n (codes "Y") 57 58)) ∷ []))) (MoreStmts (At (at 61 79) (Run (n (codes "K") 65 66) ((as_ (n (codes "X") 75 76) (n (codes "A") 77
    78)) ∷ []))) NoStmts))))))) ∷ (modul (n (codes "N") 102 103) ((Output ((n (codes "Y") 112 113) ∷ (n (codes "O") 115 116) ∷ [])) ∷ [])
    (At (at 118 165) (Signal ((n (codes "X") 125 126) ∷ []) (At (at 130 161) (Seq (MoreStmts (At (at 130 153) (Run (n (codes "K") 134 135)
    ((as_ (n (codes "X") 144 145) (n (codes "A") 146 147)) ∷ (as_ (n (codes "Y") 149 150) (n (codes "O") 151 152)) ∷ []))) (MoreStmts (At
    (at 155 161) (Emit (n (codes "X") 160 161))) NoStmts))))))) ∷ (modul (n (codes "K") 184 185) ((Input ((n (codes "A") 193 194) ∷ [])) ∷
    (Output ((n (codes "O") 203 204) ∷ [])) ∷ []) (At (at 206 255) (Signal ((n (codes "X") 213 214) ∷ []) (At (at 218 251) (Present (Sig (n
    (codes "A") 226 227)) (Written (At (at 233 247) (Seq (MoreStmts (At (at 233 239) (Emit (n (codes "X") 238 239))) (MoreStmts (At (at 241
    247) (Emit (n (codes "O") 246 247))) NoStmts))))) Missing))))) ∷ []

abbrev alone_6 : Module
alone_6 = modul (n (codes "M") 7 8) ((Input ((n (0 ∷ codes "A") 16 17) ∷ [])) ∷ (Output ((n (0 ∷ codes "O") 26 27) ∷ [])) ∷ []) (At (at 29
    83) (Signal ((n (0 ∷ codes "X") 36 37) ∷ []) (At (at 41 79) (Seq (MoreStmts (At (at 41 59) (Group (At (at 118 165) (Signal ((n (1 ∷
    codes "X") 125 126) ∷ []) (At (at 130 161) (Seq (MoreStmts (At (at 130 153) (Group (At (at 206 255) (Signal ((n (2 ∷ codes "X") 213 214)
    ∷ []) (At (at 218 251) (Present (Sig (n (1 ∷ codes "X") 226 227)) (Written (At (at 233 247) (Seq (MoreStmts (At (at 233 239) (Emit (n (2
    ∷ codes "X") 238 239))) (MoreStmts (At (at 241 247) (Emit (n (0 ∷ codes "X") 246 247))) NoStmts))))) Missing)))))) (MoreStmts (At (at
    155 161) (Emit (n (1 ∷ codes "X") 160 161))) NoStmts)))))))) (MoreStmts (At (at 61 79) (Group (At (at 206 255) (Signal ((n (1 ∷ codes
    "X") 213 214) ∷ []) (At (at 218 251) (Present (Sig (n (0 ∷ codes "X") 226 227)) (Written (At (at 233 247) (Seq (MoreStmts (At (at 233
    239) (Emit (n (1 ∷ codes "X") 238 239))) (MoreStmts (At (at 241 247) (Emit (n (0 ∷ codes "O") 246 247))) NoStmts))))) Missing))))))
    NoStmts))))))

inlined_6 : inlined_first program_6 ≡ alone_6
unfolding inlining
inlined_6 = refl

flat_6 : flat_alone alone_6 ≡ Ok (made (codes "M") ((codes "A") ∷ (codes "O") ∷ (codes "X") ∷ (codes "X") ∷ (codes "X") ∷ (codes "X") ∷ [])
    1 0 1 [] (flat.At (at 29 83) (flat.Signal (2 ∷ []) (flat.At (at 41 79) (flat.Seq (flat.MoreStmts (flat.At (at 118 165) (flat.Signal (3 ∷
    []) (flat.At (at 130 161) (flat.Seq (flat.MoreStmts (flat.At (at 206 255) (flat.Signal (4 ∷ []) (flat.At (at 218 251) (flat.Present
    (flat.Sig 3) (flat.Written (flat.At (at 233 247) (flat.Seq (flat.MoreStmts (flat.At (at 233 239) (flat.Emit 4)) (flat.MoreStmts (flat.At
    (at 241 247) (flat.Emit 2)) flat.NoStmts))))) flat.Missing)))) (flat.MoreStmts (flat.At (at 155 161) (flat.Emit 3)) flat.NoStmts))))))
    (flat.MoreStmts (flat.At (at 206 255) (flat.Signal (5 ∷ []) (flat.At (at 218 251) (flat.Present (flat.Sig 2) (flat.Written (flat.At (at
    233 247) (flat.Seq (flat.MoreStmts (flat.At (at 233 239) (flat.Emit 5)) (flat.MoreStmts (flat.At (at 241 247) (flat.Emit 1))
    flat.NoStmts))))) flat.Missing)))) flat.NoStmts)))))))
unfolding flattening
flat_6 = refl

-- The relations and the interface of the main module have the names of its own.
--     module M: output O; input A, B; relation A # B, A => A; inputoutput V; run N [signal V/A, O/P] end module module N: inputoutput A;
--     output P; relation A => A; emit A; emit P end module
abbrev program_7 : SourceProgram
program_7 = (modul (n (codes "M") 7 8) ((Output ((n (codes "O") 17 18) ∷ [])) ∷ (Input ((n (codes "A") 26 27) ∷ (n (codes "B") 29 30) ∷ []))
    ∷ (Relations ((Excludes ((n (codes "A") 41 42) ∷ (n (codes "B") 45 46) ∷ [])) ∷ (Implies (n (codes "A") 48 49) (n (codes "A") 53 54)) ∷
    [])) ∷ (InputOutput ((n (codes "V") 68 69) ∷ [])) ∷ []) (At (at 71 94) (Run (n (codes "N") 75 76) ((as_ (n (codes "V") 85 86) (n (codes
    "A") 87 88)) ∷ (as_ (n (codes "O") 90 91) (n (codes "P") 92 93)) ∷ [])))) ∷ (modul (n (codes "N") 113 114) ((InputOutput ((n (codes "A")
    128 129) ∷ [])) ∷ (Output ((n (codes "P") 138 139) ∷ [])) ∷ (Relations ((Implies (n (codes "A") 150 151) (n (codes "A") 155 156)) ∷ []))
    ∷ []) (At (at 158 172) (Seq (MoreStmts (At (at 158 164) (Emit (n (codes "A") 163 164))) (MoreStmts (At (at 166 172) (Emit (n (codes "P")
    171 172))) NoStmts))))) ∷ []

abbrev alone_7 : Module
alone_7 = modul (n (codes "M") 7 8) ((Output ((n (0 ∷ codes "O") 17 18) ∷ [])) ∷ (Input ((n (0 ∷ codes "A") 26 27) ∷ (n (0 ∷ codes "B") 29
    30) ∷ [])) ∷ (Relations ((Excludes ((n (0 ∷ codes "A") 41 42) ∷ (n (0 ∷ codes "B") 45 46) ∷ [])) ∷ (Implies (n (0 ∷ codes "A") 48 49) (n
    (0 ∷ codes "A") 53 54)) ∷ [])) ∷ (InputOutput ((n (0 ∷ codes "V") 68 69) ∷ [])) ∷ []) (At (at 71 94) (Group (At (at 158 172) (Seq
    (MoreStmts (At (at 158 164) (Emit (n (0 ∷ codes "V") 163 164))) (MoreStmts (At (at 166 172) (Emit (n (0 ∷ codes "O") 171 172)))
    NoStmts))))))

inlined_7 : inlined_first program_7 ≡ alone_7
unfolding inlining
inlined_7 = refl

flat_7 : flat_alone alone_7 ≡ Ok (made (codes "M") ((codes "A") ∷ (codes "B") ∷ (codes "V") ∷ (codes "O") ∷ []) 2 1 1
    ((flat_relations.Excludes (0 ∷ 1 ∷ [])) ∷ (flat_relations.Implies 0 0) ∷ []) (flat.At (at 158 172) (flat.Seq (flat.MoreStmts (flat.At
    (at 158 164) (flat.Emit 2)) (flat.MoreStmts (flat.At (at 166 172) (flat.Emit 3)) flat.NoStmts)))))
unfolding flattening
flat_7 = refl

-- A `run` whose module is not there stays.
--     module M: output O; emit O; run N end module
abbrev program_8 : SourceProgram
program_8 = (modul (n (codes "M") 7 8) ((Output ((n (codes "O") 17 18) ∷ [])) ∷ []) (At (at 20 33) (Seq (MoreStmts (At (at 20 26) (Emit (n
    (codes "O") 25 26))) (MoreStmts (At (at 28 33) (Run (n (codes "N") 32 33) [])) NoStmts))))) ∷ []

abbrev alone_8 : Module
alone_8 = modul (n (codes "M") 7 8) ((Output ((n (0 ∷ codes "O") 17 18) ∷ [])) ∷ []) (At (at 20 33) (Seq (MoreStmts (At (at 20 26) (Emit (n
    (0 ∷ codes "O") 25 26))) (MoreStmts (At (at 28 33) (Run (n (codes "N") 32 33) [])) NoStmts))))

inlined_8 : inlined_first program_8 ≡ alone_8
unfolding inlining
inlined_8 = refl

flat_8 : flat_alone alone_8 ≡ Err (UnknownModule (at 32 33))
unfolding flattening
flat_8 = refl

-- A `run` in each form.
--     module M: input A; output O; await 2 A do run N end; await case A do run N case tick end; present A then run N else run N end;
--     present case A do run N else run N end; trap T in loop run N; exit T end handle T do run N end || loop run N each 3 A || every
--     immediate A do run N end || repeat 2 times run N end; abort run N when 2 A do run N end; abort run N when case A do run N end; weak
--     abort run N when A; suspend [run N] when immediate [not A and (A or tick)]; sustain O; halt; nothing end module module N: output O;
--     emit O; pause end module
abbrev program_9 : SourceProgram
program_9 = (modul (n (codes "M") 7 8) ((Input ((n (codes "A") 16 17) ∷ [])) ∷ (Output ((n (codes "O") 26 27) ∷ [])) ∷ []) (At (at 29 486)
    (Par (MoreStmts (At (at 29 221) (Seq (MoreStmts (At (at 29 51) (Await (Count 2 (at 35 36) (Sig (n (codes "A") 37 38))) (Written (At (at
    42 47) (Run (n (codes "N") 46 47) []))))) (MoreStmts (At (at 53 88) (AwaitCase (MoreCases (Sig (n (codes "A") 64 65)) (Written (At (at
    69 74) (Run (n (codes "N") 73 74) []))) (MoreCases (Tick (at 80 84)) Missing NoCases)))) (MoreStmts (At (at 90 125) (Present (Sig (n
    (codes "A") 98 99)) (Written (At (at 105 110) (Run (n (codes "N") 109 110) []))) (Written (At (at 116 121) (Run (n (codes "N") 120 121)
    []))))) (MoreStmts (At (at 127 165) (PresentCase (MoreCases (Sig (n (codes "A") 140 141)) (Written (At (at 145 150) (Run (n (codes "N")
    149 150) []))) NoCases) (Written (At (at 156 161) (Run (n (codes "N") 160 161) []))))) (MoreStmts (At (at 167 221) (Trap (n (codes "T")
    172 173) (At (at 177 199) (Loop (At (at 182 195) (Seq (MoreStmts (At (at 182 187) (Run (n (codes "N") 186 187) [])) (MoreStmts (At (at
    189 195) (Exit (n (codes "T") 194 195))) NoStmts)))))) (Handled (n (codes "T") 207 208) (At (at 212 217) (Run (n (codes "N") 216 217)
    []))))) NoStmts))))))) (MoreStmts (At (at 225 244) (LoopEach (At (at 230 235) (Run (n (codes "N") 234 235) [])) (Count 3 (at 241 242)
    (Sig (n (codes "A") 243 244))))) (MoreStmts (At (at 248 278) (Every (Immediate (Sig (n (codes "A") 264 265))) (At (at 269 274) (Run (n
    (codes "N") 273 274) [])))) (MoreStmts (At (at 282 486) (Seq (MoreStmts (At (at 282 306) (Repeat 2 (at 289 290) (At (at 297 302) (Run (n
    (codes "N") 301 302) [])))) (MoreStmts (At (at 308 341) (Abort (At (at 314 319) (Run (n (codes "N") 318 319) [])) (Count 2 (at 325 326)
    (Sig (n (codes "A") 327 328))) (Written (At (at 332 337) (Run (n (codes "N") 336 337) []))))) (MoreStmts (At (at 343 379) (AbortCase (At
    (at 349 354) (Run (n (codes "N") 353 354) [])) (MoreCases (Sig (n (codes "A") 365 366)) (Written (At (at 370 375) (Run (n (codes "N")
    374 375) []))) NoCases))) (MoreStmts (At (at 381 404) (WeakAbort (At (at 392 397) (Run (n (codes "N") 396 397) [])) (Plain (Sig (n
    (codes "A") 403 404))))) (MoreStmts (At (at 406 460) (Suspend (At (at 414 421) (Group (At (at 415 420) (Run (n (codes "N") 419 420)
    [])))) (Immediate (Square (And (MoreExprs (Not (Sig (n (codes "A") 442 443))) (MoreExprs (Round (Or (MoreExprs (Sig (n (codes "A") 449
    450)) (MoreExprs (Tick (at 454 458)) NoExprs)))) NoExprs))))))) (MoreStmts (At (at 462 471) (Sustain (n (codes "O") 470 471)))
    (MoreStmts (At (at 473 477) Halt) (MoreStmts (At (at 479 486) Nothing) NoStmts)))))))))) NoStmts))))))) ∷ (modul (n (codes "N") 505 506)
    ((Output ((n (codes "O") 515 516) ∷ [])) ∷ []) (At (at 518 531) (Seq (MoreStmts (At (at 518 524) (Emit (n (codes "O") 523 524)))
    (MoreStmts (At (at 526 531) Pause) NoStmts))))) ∷ []

abbrev alone_9 : Module
alone_9 = modul (n (codes "M") 7 8) ((Input ((n (0 ∷ codes "A") 16 17) ∷ [])) ∷ (Output ((n (0 ∷ codes "O") 26 27) ∷ [])) ∷ []) (At (at 29
    486) (Par (MoreStmts (At (at 29 221) (Seq (MoreStmts (At (at 29 51) (Await (Count 2 (at 35 36) (Sig (n (0 ∷ codes "A") 37 38))) (Written
    (At (at 42 47) (Group (At (at 518 531) (Seq (MoreStmts (At (at 518 524) (Emit (n (0 ∷ codes "O") 523 524))) (MoreStmts (At (at 526 531)
    Pause) NoStmts))))))))) (MoreStmts (At (at 53 88) (AwaitCase (MoreCases (Sig (n (0 ∷ codes "A") 64 65)) (Written (At (at 69 74) (Group
    (At (at 518 531) (Seq (MoreStmts (At (at 518 524) (Emit (n (0 ∷ codes "O") 523 524))) (MoreStmts (At (at 526 531) Pause) NoStmts)))))))
    (MoreCases (Tick (at 80 84)) Missing NoCases)))) (MoreStmts (At (at 90 125) (Present (Sig (n (0 ∷ codes "A") 98 99)) (Written (At (at
    105 110) (Group (At (at 518 531) (Seq (MoreStmts (At (at 518 524) (Emit (n (0 ∷ codes "O") 523 524))) (MoreStmts (At (at 526 531) Pause)
    NoStmts))))))) (Written (At (at 116 121) (Group (At (at 518 531) (Seq (MoreStmts (At (at 518 524) (Emit (n (0 ∷ codes "O") 523 524)))
    (MoreStmts (At (at 526 531) Pause) NoStmts))))))))) (MoreStmts (At (at 127 165) (PresentCase (MoreCases (Sig (n (0 ∷ codes "A") 140
    141)) (Written (At (at 145 150) (Group (At (at 518 531) (Seq (MoreStmts (At (at 518 524) (Emit (n (0 ∷ codes "O") 523 524))) (MoreStmts
    (At (at 526 531) Pause) NoStmts))))))) NoCases) (Written (At (at 156 161) (Group (At (at 518 531) (Seq (MoreStmts (At (at 518 524) (Emit
    (n (0 ∷ codes "O") 523 524))) (MoreStmts (At (at 526 531) Pause) NoStmts))))))))) (MoreStmts (At (at 167 221) (Trap (n (0 ∷ codes "T")
    172 173) (At (at 177 199) (Loop (At (at 182 195) (Seq (MoreStmts (At (at 182 187) (Group (At (at 518 531) (Seq (MoreStmts (At (at 518
    524) (Emit (n (0 ∷ codes "O") 523 524))) (MoreStmts (At (at 526 531) Pause) NoStmts)))))) (MoreStmts (At (at 189 195) (Exit (n (0 ∷
    codes "T") 194 195))) NoStmts)))))) (Handled (n (0 ∷ codes "T") 207 208) (At (at 212 217) (Group (At (at 518 531) (Seq (MoreStmts (At
    (at 518 524) (Emit (n (0 ∷ codes "O") 523 524))) (MoreStmts (At (at 526 531) Pause) NoStmts))))))))) NoStmts))))))) (MoreStmts (At (at
    225 244) (LoopEach (At (at 230 235) (Group (At (at 518 531) (Seq (MoreStmts (At (at 518 524) (Emit (n (0 ∷ codes "O") 523 524)))
    (MoreStmts (At (at 526 531) Pause) NoStmts)))))) (Count 3 (at 241 242) (Sig (n (0 ∷ codes "A") 243 244))))) (MoreStmts (At (at 248 278)
    (Every (Immediate (Sig (n (0 ∷ codes "A") 264 265))) (At (at 269 274) (Group (At (at 518 531) (Seq (MoreStmts (At (at 518 524) (Emit (n
    (0 ∷ codes "O") 523 524))) (MoreStmts (At (at 526 531) Pause) NoStmts)))))))) (MoreStmts (At (at 282 486) (Seq (MoreStmts (At (at 282
    306) (Repeat 2 (at 289 290) (At (at 297 302) (Group (At (at 518 531) (Seq (MoreStmts (At (at 518 524) (Emit (n (0 ∷ codes "O") 523
    524))) (MoreStmts (At (at 526 531) Pause) NoStmts)))))))) (MoreStmts (At (at 308 341) (Abort (At (at 314 319) (Group (At (at 518 531)
    (Seq (MoreStmts (At (at 518 524) (Emit (n (0 ∷ codes "O") 523 524))) (MoreStmts (At (at 526 531) Pause) NoStmts)))))) (Count 2 (at 325
    326) (Sig (n (0 ∷ codes "A") 327 328))) (Written (At (at 332 337) (Group (At (at 518 531) (Seq (MoreStmts (At (at 518 524) (Emit (n (0 ∷
    codes "O") 523 524))) (MoreStmts (At (at 526 531) Pause) NoStmts))))))))) (MoreStmts (At (at 343 379) (AbortCase (At (at 349 354) (Group
    (At (at 518 531) (Seq (MoreStmts (At (at 518 524) (Emit (n (0 ∷ codes "O") 523 524))) (MoreStmts (At (at 526 531) Pause) NoStmts))))))
    (MoreCases (Sig (n (0 ∷ codes "A") 365 366)) (Written (At (at 370 375) (Group (At (at 518 531) (Seq (MoreStmts (At (at 518 524) (Emit (n
    (0 ∷ codes "O") 523 524))) (MoreStmts (At (at 526 531) Pause) NoStmts))))))) NoCases))) (MoreStmts (At (at 381 404) (WeakAbort (At (at
    392 397) (Group (At (at 518 531) (Seq (MoreStmts (At (at 518 524) (Emit (n (0 ∷ codes "O") 523 524))) (MoreStmts (At (at 526 531) Pause)
    NoStmts)))))) (Plain (Sig (n (0 ∷ codes "A") 403 404))))) (MoreStmts (At (at 406 460) (Suspend (At (at 414 421) (Group (At (at 415 420)
    (Group (At (at 518 531) (Seq (MoreStmts (At (at 518 524) (Emit (n (0 ∷ codes "O") 523 524))) (MoreStmts (At (at 526 531) Pause)
    NoStmts)))))))) (Immediate (Square (And (MoreExprs (Not (Sig (n (0 ∷ codes "A") 442 443))) (MoreExprs (Round (Or (MoreExprs (Sig (n (0 ∷
    codes "A") 449 450)) (MoreExprs (Tick (at 454 458)) NoExprs)))) NoExprs))))))) (MoreStmts (At (at 462 471) (Sustain (n (0 ∷ codes "O")
    470 471))) (MoreStmts (At (at 473 477) Halt) (MoreStmts (At (at 479 486) Nothing) NoStmts)))))))))) NoStmts))))))

inlined_9 : inlined_first program_9 ≡ alone_9
unfolding inlining
inlined_9 = refl

flat_9 : flat_alone alone_9 ≡ Ok (made (codes "M") ((codes "A") ∷ (codes "O") ∷ []) 1 0 1 [] (flat.At (at 29 486) (flat.Par (flat.MoreStmts
    (flat.At (at 29 221) (flat.Seq (flat.MoreStmts (flat.At (at 29 51) (flat.Await (flat.Count 2 (at 35 36) (flat.Sig 0)) (flat.Written
    (flat.At (at 518 531) (flat.Seq (flat.MoreStmts (flat.At (at 518 524) (flat.Emit 1)) (flat.MoreStmts (flat.At (at 526 531) flat.Pause)
    flat.NoStmts))))))) (flat.MoreStmts (flat.At (at 53 88) (flat.AwaitCase (flat.MoreCases (flat.Sig 0) (flat.Written (flat.At (at 518 531)
    (flat.Seq (flat.MoreStmts (flat.At (at 518 524) (flat.Emit 1)) (flat.MoreStmts (flat.At (at 526 531) flat.Pause) flat.NoStmts)))))
    (flat.MoreCases (flat.Tick (at 80 84)) flat.Missing flat.NoCases)))) (flat.MoreStmts (flat.At (at 90 125) (flat.Present (flat.Sig 0)
    (flat.Written (flat.At (at 518 531) (flat.Seq (flat.MoreStmts (flat.At (at 518 524) (flat.Emit 1)) (flat.MoreStmts (flat.At (at 526 531)
    flat.Pause) flat.NoStmts))))) (flat.Written (flat.At (at 518 531) (flat.Seq (flat.MoreStmts (flat.At (at 518 524) (flat.Emit 1))
    (flat.MoreStmts (flat.At (at 526 531) flat.Pause) flat.NoStmts))))))) (flat.MoreStmts (flat.At (at 127 165) (flat.PresentCase
    (flat.MoreCases (flat.Sig 0) (flat.Written (flat.At (at 518 531) (flat.Seq (flat.MoreStmts (flat.At (at 518 524) (flat.Emit 1))
    (flat.MoreStmts (flat.At (at 526 531) flat.Pause) flat.NoStmts))))) flat.NoCases) (flat.Written (flat.At (at 518 531) (flat.Seq
    (flat.MoreStmts (flat.At (at 518 524) (flat.Emit 1)) (flat.MoreStmts (flat.At (at 526 531) flat.Pause) flat.NoStmts)))))))
    (flat.MoreStmts (flat.At (at 167 221) (flat.Trap (flat.At (at 177 199) (flat.Loop (flat.At (at 182 195) (flat.Seq (flat.MoreStmts
    (flat.At (at 518 531) (flat.Seq (flat.MoreStmts (flat.At (at 518 524) (flat.Emit 1)) (flat.MoreStmts (flat.At (at 526 531) flat.Pause)
    flat.NoStmts)))) (flat.MoreStmts (flat.At (at 189 195) (flat.Exit 0)) flat.NoStmts)))))) (flat.Written (flat.At (at 518 531) (flat.Seq
    (flat.MoreStmts (flat.At (at 518 524) (flat.Emit 1)) (flat.MoreStmts (flat.At (at 526 531) flat.Pause) flat.NoStmts)))))))
    flat.NoStmts))))))) (flat.MoreStmts (flat.At (at 225 244) (flat.LoopEach (flat.At (at 518 531) (flat.Seq (flat.MoreStmts (flat.At (at
    518 524) (flat.Emit 1)) (flat.MoreStmts (flat.At (at 526 531) flat.Pause) flat.NoStmts)))) (flat.Count 3 (at 241 242) (flat.Sig 0))))
    (flat.MoreStmts (flat.At (at 248 278) (flat.Every (flat.Immediate (flat.Sig 0)) (flat.At (at 518 531) (flat.Seq (flat.MoreStmts (flat.At
    (at 518 524) (flat.Emit 1)) (flat.MoreStmts (flat.At (at 526 531) flat.Pause) flat.NoStmts)))))) (flat.MoreStmts (flat.At (at 282 486)
    (flat.Seq (flat.MoreStmts (flat.At (at 282 306) (flat.Repeat 2 (at 289 290) (flat.At (at 518 531) (flat.Seq (flat.MoreStmts (flat.At (at
    518 524) (flat.Emit 1)) (flat.MoreStmts (flat.At (at 526 531) flat.Pause) flat.NoStmts)))))) (flat.MoreStmts (flat.At (at 308 341)
    (flat.Abort (flat.At (at 518 531) (flat.Seq (flat.MoreStmts (flat.At (at 518 524) (flat.Emit 1)) (flat.MoreStmts (flat.At (at 526 531)
    flat.Pause) flat.NoStmts)))) (flat.Count 2 (at 325 326) (flat.Sig 0)) (flat.Written (flat.At (at 518 531) (flat.Seq (flat.MoreStmts
    (flat.At (at 518 524) (flat.Emit 1)) (flat.MoreStmts (flat.At (at 526 531) flat.Pause) flat.NoStmts))))))) (flat.MoreStmts (flat.At (at
    343 379) (flat.AbortCase (flat.At (at 518 531) (flat.Seq (flat.MoreStmts (flat.At (at 518 524) (flat.Emit 1)) (flat.MoreStmts (flat.At
    (at 526 531) flat.Pause) flat.NoStmts)))) (flat.MoreCases (flat.Sig 0) (flat.Written (flat.At (at 518 531) (flat.Seq (flat.MoreStmts
    (flat.At (at 518 524) (flat.Emit 1)) (flat.MoreStmts (flat.At (at 526 531) flat.Pause) flat.NoStmts))))) flat.NoCases))) (flat.MoreStmts
    (flat.At (at 381 404) (flat.WeakAbort (flat.At (at 518 531) (flat.Seq (flat.MoreStmts (flat.At (at 518 524) (flat.Emit 1))
    (flat.MoreStmts (flat.At (at 526 531) flat.Pause) flat.NoStmts)))) (flat.Plain (flat.Sig 0)))) (flat.MoreStmts (flat.At (at 406 460)
    (flat.Suspend (flat.At (at 518 531) (flat.Seq (flat.MoreStmts (flat.At (at 518 524) (flat.Emit 1)) (flat.MoreStmts (flat.At (at 526 531)
    flat.Pause) flat.NoStmts))))
    (flat.Immediate
    (flat.And
    (flat.MoreExprs (flat.Not (flat.Sig 0))
    (flat.MoreExprs (flat.Or (flat.MoreExprs (flat.Sig 0) (flat.MoreExprs (flat.Tick (at 454 458)) flat.NoExprs))) flat.NoExprs)))))) (flat.MoreStmts
    (flat.At (at 462 471) (flat.Sustain 1)) (flat.MoreStmts (flat.At (at 473 477) flat.Halt) (flat.MoreStmts (flat.At (at 479 486)
    flat.Nothing) flat.NoStmts)))))))))) flat.NoStmts)))))))
unfolding flattening
flat_9 = refl

-- Drawn.
--     module M: input A, B; output O, P, Q; every O do run N1 [signal P/V]; abort await case B and (B or P) case Q do emit P case B and (Q)
--     do pause end when immediate B end every end module module N0: input A; output O, P, Q; inputoutput V, W; weak abort pause || pause
--     when immediate Q . module N1: input A, B; output O; inputoutput V; run N0 [signal O/W, O/P, O/Q] || loop emit V each O end module
abbrev program_10 : SourceProgram
program_10 = (modul (n (codes "M") 7 8) ((Input ((n (codes "A") 16 17) ∷ (n (codes "B") 19 20) ∷ [])) ∷ (Output ((n (codes "O") 29 30) ∷ (n
    (codes "P") 32 33) ∷ (n (codes "Q") 35 36) ∷ [])) ∷ []) (At (at 38 173) (Every (Plain (Sig (n (codes "O") 44 45))) (At (at 49 163) (Seq
    (MoreStmts (At (at 49 68) (Run (n (codes "N1") 53 55) ((as_ (n (codes "P") 64 65) (n (codes "V") 66 67)) ∷ []))) (MoreStmts (At (at 70
    163) (Abort (At (at 76 146) (AwaitCase (MoreCases (And (MoreExprs (Sig (n (codes "B") 87 88)) (MoreExprs (Round (Or (MoreExprs (Sig (n
    (codes "B") 94 95)) (MoreExprs (Sig (n (codes "P") 99 100)) NoExprs)))) NoExprs))) Missing (MoreCases (Sig (n (codes "Q") 107 108))
    (Written (At (at 112 118) (Emit (n (codes "P") 117 118)))) (MoreCases (And (MoreExprs (Sig (n (codes "B") 124 125)) (MoreExprs (Round
    (Sig (n (codes "Q") 131 132))) NoExprs))) (Written (At (at 137 142) Pause)) NoCases))))) (Immediate (Sig (n (codes "B") 162 163)))
    Missing)) NoStmts))))))) ∷ (modul (n (codes "N0") 192 194) ((Input ((n (codes "A") 202 203) ∷ [])) ∷ (Output ((n (codes "O") 212 213) ∷
    (n (codes "P") 215 216) ∷ (n (codes "Q") 218 219) ∷ [])) ∷ (InputOutput ((n (codes "V") 233 234) ∷ (n (codes "W") 236 237) ∷ [])) ∷ [])
    (At (at 239 281) (WeakAbort (At (at 250 264) (Par (MoreStmts (At (at 250 255) Pause) (MoreStmts (At (at 259 264) Pause) NoStmts))))
    (Immediate (Sig (n (codes "Q") 280 281)))))) ∷ (modul (n (codes "N1") 291 293) ((Input ((n (codes "A") 301 302) ∷ (n (codes "B") 304
    305) ∷ [])) ∷ (Output ((n (codes "O") 314 315) ∷ [])) ∷ (InputOutput ((n (codes "V") 329 330) ∷ [])) ∷ []) (At (at 332 383) (Par
    (MoreStmts (At (at 332 361) (Run (n (codes "N0") 336 338) ((as_ (n (codes "O") 347 348) (n (codes "W") 349 350)) ∷ (as_ (n (codes "O")
    352 353) (n (codes "P") 354 355)) ∷ (as_ (n (codes "O") 357 358) (n (codes "Q") 359 360)) ∷ []))) (MoreStmts (At (at 365 383) (LoopEach
    (At (at 370 376) (Emit (n (codes "V") 375 376))) (Plain (Sig (n (codes "O") 382 383))))) NoStmts))))) ∷ []

abbrev alone_10 : Module
alone_10 = modul (n (codes "M") 7 8) ((Input ((n (0 ∷ codes "A") 16 17) ∷ (n (0 ∷ codes "B") 19 20) ∷ [])) ∷ (Output ((n (0 ∷ codes "O") 29
    30) ∷ (n (0 ∷ codes "P") 32 33) ∷ (n (0 ∷ codes "Q") 35 36) ∷ [])) ∷ []) (At (at 38 173) (Every (Plain (Sig (n (0 ∷ codes "O") 44 45)))
    (At (at 49 163) (Seq (MoreStmts (At (at 49 68) (Group (At (at 332 383) (Par (MoreStmts (At (at 332 361) (Group (At (at 239 281)
    (WeakAbort (At (at 250 264) (Par (MoreStmts (At (at 250 255) Pause) (MoreStmts (At (at 259 264) Pause) NoStmts)))) (Immediate (Sig (n (0
    ∷ codes "O") 280 281))))))) (MoreStmts (At (at 365 383) (LoopEach (At (at 370 376) (Emit (n (0 ∷ codes "P") 375 376))) (Plain (Sig (n (0
    ∷ codes "O") 382 383))))) NoStmts)))))) (MoreStmts (At (at 70 163) (Abort (At (at 76 146) (AwaitCase (MoreCases (And (MoreExprs (Sig (n
    (0 ∷ codes "B") 87 88)) (MoreExprs (Round (Or (MoreExprs (Sig (n (0 ∷ codes "B") 94 95)) (MoreExprs (Sig (n (0 ∷ codes "P") 99 100))
    NoExprs)))) NoExprs))) Missing (MoreCases (Sig (n (0 ∷ codes "Q") 107 108)) (Written (At (at 112 118) (Emit (n (0 ∷ codes "P") 117
    118)))) (MoreCases (And (MoreExprs (Sig (n (0 ∷ codes "B") 124 125)) (MoreExprs (Round (Sig (n (0 ∷ codes "Q") 131 132))) NoExprs)))
    (Written (At (at 137 142) Pause)) NoCases))))) (Immediate (Sig (n (0 ∷ codes "B") 162 163))) Missing)) NoStmts))))))

inlined_10 : inlined_first program_10 ≡ alone_10
unfolding inlining
inlined_10 = refl

flat_10 : flat_alone alone_10 ≡ Ok (made (codes "M") ((codes "A") ∷ (codes "B") ∷ (codes "O") ∷ (codes "P") ∷ (codes "Q") ∷ []) 2 0 3 []
    (flat.At (at 38 173) (flat.Every (flat.Plain (flat.Sig 2)) (flat.At (at 49 163) (flat.Seq (flat.MoreStmts (flat.At (at 332 383)
    (flat.Par (flat.MoreStmts (flat.At (at 239 281) (flat.WeakAbort (flat.At (at 250 264) (flat.Par (flat.MoreStmts (flat.At (at 250 255)
    flat.Pause) (flat.MoreStmts (flat.At (at 259 264) flat.Pause) flat.NoStmts)))) (flat.Immediate (flat.Sig 2)))) (flat.MoreStmts (flat.At
    (at 365 383) (flat.LoopEach (flat.At (at 370 376) (flat.Emit 3)) (flat.Plain (flat.Sig 2)))) flat.NoStmts)))) (flat.MoreStmts (flat.At
    (at 70 163) (flat.Abort (flat.At (at 76 146) (flat.AwaitCase (flat.MoreCases (flat.And (flat.MoreExprs (flat.Sig 1) (flat.MoreExprs
    (flat.Or (flat.MoreExprs (flat.Sig 1) (flat.MoreExprs (flat.Sig 3) flat.NoExprs))) flat.NoExprs))) flat.Missing
    (flat.MoreCases (flat.Sig 4) (flat.Written (flat.At (at 112 118) (flat.Emit 3))) (flat.MoreCases (flat.And (flat.MoreExprs (flat.Sig 1)
    (flat.MoreExprs (flat.Sig 4) flat.NoExprs))) (flat.Written (flat.At (at 137 142) flat.Pause)) flat.NoCases)))))
    (flat.Immediate (flat.Sig 1)) flat.Missing)) flat.NoStmts)))))))
unfolding flattening
flat_10 = refl

-- Drawn.
--     module M: input A, B; output O, P; relation A => B; await 2 P do run N0 [signal B/A, B/B, O/V, P/W, O/O, O/P, P/Q] end await; run N0
--     [signal O/V, P/W, O/Q] . module N0: input A, B; output O, P, Q; inputoutput V, W; relation B # V, B => B; nothing; await P end module
abbrev program_11 : SourceProgram
program_11 = (modul (n (codes "M") 7 8) ((Input ((n (codes "A") 16 17) ∷ (n (codes "B") 19 20) ∷ [])) ∷ (Output ((n (codes "O") 29 30) ∷ (n
    (codes "P") 32 33) ∷ [])) ∷ (Relations ((Implies (n (codes "A") 44 45) (n (codes "B") 49 50)) ∷ [])) ∷ []) (At (at 52 155) (Seq
    (MoreStmts (At (at 52 124) (Await (Count 2 (at 58 59) (Sig (n (codes "P") 60 61))) (Written (At (at 65 114) (Run (n (codes "N0") 69 71)
    ((as_ (n (codes "B") 80 81) (n (codes "A") 82 83)) ∷ (as_ (n (codes "B") 85 86) (n (codes "B") 87 88)) ∷ (as_ (n (codes "O") 90 91) (n
    (codes "V") 92 93)) ∷ (as_ (n (codes "P") 95 96) (n (codes "W") 97 98)) ∷ (as_ (n (codes "O") 100 101) (n (codes "O") 102 103)) ∷ (as_
    (n (codes "O") 105 106) (n (codes "P") 107 108)) ∷ (as_ (n (codes "P") 110 111) (n (codes "Q") 112 113)) ∷ [])))))) (MoreStmts (At (at
    126 155) (Run (n (codes "N0") 130 132) ((as_ (n (codes "O") 141 142) (n (codes "V") 143 144)) ∷ (as_ (n (codes "P") 146 147) (n (codes
    "W") 148 149)) ∷ (as_ (n (codes "O") 151 152) (n (codes "Q") 153 154)) ∷ []))) NoStmts))))) ∷ (modul (n (codes "N0") 165 167) ((Input
    ((n (codes "A") 175 176) ∷ (n (codes "B") 178 179) ∷ [])) ∷ (Output ((n (codes "O") 188 189) ∷ (n (codes "P") 191 192) ∷ (n (codes "Q")
    194 195) ∷ [])) ∷ (InputOutput ((n (codes "V") 209 210) ∷ (n (codes "W") 212 213) ∷ [])) ∷ (Relations ((Excludes ((n (codes "B") 224
    225) ∷ (n (codes "V") 228 229) ∷ [])) ∷ (Implies (n (codes "B") 231 232) (n (codes "B") 236 237)) ∷ [])) ∷ []) (At (at 239 255) (Seq
    (MoreStmts (At (at 239 246) Nothing) (MoreStmts (At (at 248 255) (Await (Plain (Sig (n (codes "P") 254 255))) Missing)) NoStmts))))) ∷
    []

abbrev alone_11 : Module
alone_11 = modul (n (codes "M") 7 8) ((Input ((n (0 ∷ codes "A") 16 17) ∷ (n (0 ∷ codes "B") 19 20) ∷ [])) ∷ (Output ((n (0 ∷ codes "O") 29
    30) ∷ (n (0 ∷ codes "P") 32 33) ∷ [])) ∷ (Relations ((Implies (n (0 ∷ codes "A") 44 45) (n (0 ∷ codes "B") 49 50)) ∷ [])) ∷ []) (At (at
    52 155) (Seq (MoreStmts (At (at 52 124) (Await (Count 2 (at 58 59) (Sig (n (0 ∷ codes "P") 60 61))) (Written (At (at 65 114) (Group (At
    (at 239 255) (Seq (MoreStmts (At (at 239 246) Nothing) (MoreStmts (At (at 248 255) (Await (Plain (Sig (n (0 ∷ codes "O") 254 255)))
    Missing)) NoStmts))))))))) (MoreStmts (At (at 126 155) (Group (At (at 239 255) (Seq (MoreStmts (At (at 239 246) Nothing) (MoreStmts (At
    (at 248 255) (Await (Plain (Sig (n (0 ∷ codes "P") 254 255))) Missing)) NoStmts)))))) NoStmts))))

inlined_11 : inlined_first program_11 ≡ alone_11
unfolding inlining
inlined_11 = refl

flat_11 : flat_alone alone_11 ≡ Ok (made (codes "M") ((codes "A") ∷ (codes "B") ∷ (codes "O") ∷ (codes "P") ∷ []) 2 0 2
    ((flat_relations.Implies 0 1) ∷ []) (flat.At (at 52 155) (flat.Seq (flat.MoreStmts (flat.At (at 52 124) (flat.Await (flat.Count 2 (at 58
    59) (flat.Sig 3)) (flat.Written (flat.At (at 239 255) (flat.Seq (flat.MoreStmts (flat.At (at 239 246) flat.Nothing) (flat.MoreStmts
    (flat.At (at 248 255) (flat.Await (flat.Plain (flat.Sig 2)) flat.Missing)) flat.NoStmts))))))) (flat.MoreStmts (flat.At (at 239 255)
    (flat.Seq (flat.MoreStmts (flat.At (at 239 246) flat.Nothing) (flat.MoreStmts (flat.At (at 248 255) (flat.Await (flat.Plain (flat.Sig
    3)) flat.Missing)) flat.NoStmts)))) flat.NoStmts)))))
unfolding flattening
flat_11 = refl

-- Drawn.
--     module M: input A, B; output O, P, Q; inputoutput V; weak abort weak abort run N0 [signal V/B, P/W]; present not (P) and V or O else
--     emit Q end when immediate A when [V and [not A]] || abort abort run N1 [signal Q/C, O/O, V/R] when B when Q do signal X in pause end
--     end . module N0: input A, B; output O; inputoutput V, W; relation A # B # V; present A and B or W then emit O end present end module
--     module N1: input A, B, C; output O, P, Q, R; inputoutput V; relation B # A # C; run N0 [signal A/A, Q/B, R/W] end module
abbrev program_12 : SourceProgram
program_12 = (modul (n (codes "M") 7 8) ((Input ((n (codes "A") 16 17) ∷ (n (codes "B") 19 20) ∷ [])) ∷ (Output ((n (codes "O") 29 30) ∷ (n
    (codes "P") 32 33) ∷ (n (codes "Q") 35 36) ∷ [])) ∷ (InputOutput ((n (codes "V") 50 51) ∷ [])) ∷ []) (At (at 53 269) (Par (MoreStmts (At
    (at 53 181) (WeakAbort (At (at 64 160) (WeakAbort (At (at 75 143) (Seq (MoreStmts (At (at 75 99) (Run (n (codes "N0") 79 81) ((as_ (n
    (codes "V") 90 91) (n (codes "B") 92 93)) ∷ (as_ (n (codes "P") 95 96) (n (codes "W") 97 98)) ∷ []))) (MoreStmts (At (at 101 143)
    (Present (Or (MoreExprs (And (MoreExprs (Not (Round (Sig (n (codes "P") 114 115)))) (MoreExprs (Sig (n (codes "V") 121 122)) NoExprs)))
    (MoreExprs (Sig (n (codes "O") 126 127)) NoExprs))) Missing (Written (At (at 133 139) (Emit (n (codes "Q") 138 139)))))) NoStmts))))
    (Immediate (Sig (n (codes "A") 159 160))))) (Plain (Square (And (MoreExprs (Sig (n (codes "V") 167 168)) (MoreExprs (Square (Not (Sig (n
    (codes "A") 178 179)))) NoExprs))))))) (MoreStmts (At (at 185 269) (Abort (At (at 191 233) (Abort (At (at 197 226) (Run (n (codes "N1")
    201 203) ((as_ (n (codes "Q") 212 213) (n (codes "C") 214 215)) ∷ (as_ (n (codes "O") 217 218) (n (codes "O") 219 220)) ∷ (as_ (n (codes
    "V") 222 223) (n (codes "R") 224 225)) ∷ []))) (Plain (Sig (n (codes "B") 232 233))) Missing)) (Plain (Sig (n (codes "Q") 239 240)))
    (Written (At (at 244 265) (Signal ((n (codes "X") 251 252) ∷ []) (At (at 256 261) Pause)))))) NoStmts))))) ∷ (modul (n (codes "N0") 279
    281) ((Input ((n (codes "A") 289 290) ∷ (n (codes "B") 292 293) ∷ [])) ∷ (Output ((n (codes "O") 302 303) ∷ [])) ∷ (InputOutput ((n
    (codes "V") 317 318) ∷ (n (codes "W") 320 321) ∷ [])) ∷ (Relations ((Excludes ((n (codes "A") 332 333) ∷ (n (codes "B") 336 337) ∷ (n
    (codes "V") 340 341) ∷ [])) ∷ [])) ∷ []) (At (at 343 387) (Present (Or (MoreExprs (And (MoreExprs (Sig (n (codes "A") 351 352))
    (MoreExprs (Sig (n (codes "B") 357 358)) NoExprs))) (MoreExprs (Sig (n (codes "W") 362 363)) NoExprs))) (Written (At (at 369 375) (Emit
    (n (codes "O") 374 375)))) Missing))) ∷ (modul (n (codes "N1") 406 408) ((Input ((n (codes "A") 416 417) ∷ (n (codes "B") 419 420) ∷ (n
    (codes "C") 422 423) ∷ [])) ∷ (Output ((n (codes "O") 432 433) ∷ (n (codes "P") 435 436) ∷ (n (codes "Q") 438 439) ∷ (n (codes "R") 441
    442) ∷ [])) ∷ (InputOutput ((n (codes "V") 456 457) ∷ [])) ∷ (Relations ((Excludes ((n (codes "B") 468 469) ∷ (n (codes "A") 472 473) ∷
    (n (codes "C") 476 477) ∷ [])) ∷ [])) ∷ []) (At (at 479 508) (Run (n (codes "N0") 483 485) ((as_ (n (codes "A") 494 495) (n (codes "A")
    496 497)) ∷ (as_ (n (codes "Q") 499 500) (n (codes "B") 501 502)) ∷ (as_ (n (codes "R") 504 505) (n (codes "W") 506 507)) ∷ [])))) ∷ []

abbrev alone_12 : Module
alone_12 = modul (n (codes "M") 7 8) ((Input ((n (0 ∷ codes "A") 16 17) ∷ (n (0 ∷ codes "B") 19 20) ∷ [])) ∷ (Output ((n (0 ∷ codes "O") 29
    30) ∷ (n (0 ∷ codes "P") 32 33) ∷ (n (0 ∷ codes "Q") 35 36) ∷ [])) ∷ (InputOutput ((n (0 ∷ codes "V") 50 51) ∷ [])) ∷ []) (At (at 53
    269) (Par (MoreStmts (At (at 53 181) (WeakAbort (At (at 64 160) (WeakAbort (At (at 75 143) (Seq (MoreStmts (At (at 75 99) (Group (At (at
    343 387) (Present (Or (MoreExprs (And (MoreExprs (Sig (n (0 ∷ codes "A") 351 352)) (MoreExprs (Sig (n (0 ∷ codes "V") 357 358))
    NoExprs))) (MoreExprs (Sig (n (0 ∷ codes "P") 362 363)) NoExprs))) (Written (At (at 369 375) (Emit (n (0 ∷ codes "O") 374 375))))
    Missing)))) (MoreStmts (At (at 101 143) (Present (Or (MoreExprs (And (MoreExprs (Not (Round (Sig (n (0 ∷ codes "P") 114 115))))
    (MoreExprs (Sig (n (0 ∷ codes "V") 121 122)) NoExprs))) (MoreExprs (Sig (n (0 ∷ codes "O") 126 127)) NoExprs))) Missing (Written (At (at
    133 139) (Emit (n (0 ∷ codes "Q") 138 139)))))) NoStmts)))) (Immediate (Sig (n (0 ∷ codes "A") 159 160))))) (Plain (Square (And
    (MoreExprs (Sig (n (0 ∷ codes "V") 167 168)) (MoreExprs (Square (Not (Sig (n (0 ∷ codes "A") 178 179)))) NoExprs))))))) (MoreStmts (At
    (at 185 269) (Abort (At (at 191 233) (Abort (At (at 197 226) (Group (At (at 479 508) (Group (At (at 343 387) (Present (Or (MoreExprs
    (And (MoreExprs (Sig (n (0 ∷ codes "A") 351 352)) (MoreExprs (Sig (n (0 ∷ codes "Q") 357 358)) NoExprs))) (MoreExprs (Sig (n (0 ∷ codes
    "V") 362 363)) NoExprs))) (Written (At (at 369 375) (Emit (n (0 ∷ codes "O") 374 375)))) Missing)))))) (Plain (Sig (n (0 ∷ codes "B")
    232 233))) Missing)) (Plain (Sig (n (0 ∷ codes "Q") 239 240))) (Written (At (at 244 265) (Signal ((n (0 ∷ codes "X") 251 252) ∷ []) (At
    (at 256 261) Pause)))))) NoStmts))))

inlined_12 : inlined_first program_12 ≡ alone_12
unfolding inlining
inlined_12 = refl

flat_12 : flat_alone alone_12 ≡ Ok (made (codes "M") ((codes "A") ∷ (codes "B") ∷ (codes "V") ∷ (codes "O") ∷ (codes "P") ∷ (codes "Q") ∷
    (codes "X") ∷ []) 2 1 3 [] (flat.At (at 53 269) (flat.Par (flat.MoreStmts (flat.At (at 53 181) (flat.WeakAbort (flat.At (at 64 160)
    (flat.WeakAbort (flat.At (at 75 143) (flat.Seq (flat.MoreStmts (flat.At (at 343 387) (flat.Present (flat.Or (flat.MoreExprs (flat.And
    (flat.MoreExprs (flat.Sig 0) (flat.MoreExprs (flat.Sig 2) flat.NoExprs))) (flat.MoreExprs (flat.Sig 4) flat.NoExprs))) (flat.Written
    (flat.At (at 369 375) (flat.Emit 3))) flat.Missing)) (flat.MoreStmts (flat.At (at 101 143) (flat.Present (flat.Or (flat.MoreExprs
    (flat.And (flat.MoreExprs (flat.Not (flat.Sig 4)) (flat.MoreExprs (flat.Sig 2) flat.NoExprs))) (flat.MoreExprs (flat.Sig 3)
    flat.NoExprs))) flat.Missing (flat.Written (flat.At (at 133 139) (flat.Emit 5))))) flat.NoStmts)))) (flat.Immediate (flat.Sig 0))))
    (flat.Plain (flat.And (flat.MoreExprs (flat.Sig 2) (flat.MoreExprs (flat.Not (flat.Sig 0))
    flat.NoExprs)))))) (flat.MoreStmts (flat.At (at 185 269) (flat.Abort (flat.At (at 191 233) (flat.Abort (flat.At (at 343 387)
    (flat.Present (flat.Or (flat.MoreExprs (flat.And (flat.MoreExprs (flat.Sig 0) (flat.MoreExprs (flat.Sig 5) flat.NoExprs)))
    (flat.MoreExprs (flat.Sig 2) flat.NoExprs))) (flat.Written (flat.At (at 369 375) (flat.Emit 3))) flat.Missing)) (flat.Plain (flat.Sig
    1)) flat.Missing)) (flat.Plain (flat.Sig 5)) (flat.Written (flat.At (at 244 265) (flat.Signal (6 ∷ []) (flat.At (at 256 261)
    flat.Pause)))))) flat.NoStmts)))))
unfolding flattening
flat_12 = refl

-- Drawn.
--     module M: input A, B, C, D; output O, P; signal S1 in loop pause end end || loop run N1 [signal C/A, P/V, O/O] end loop || trap U in
--     pause; emit O; sustain O handle U do emit P end trap end module module N0: output O, P, Q, R; inputoutput V; abort pause || pause ||
--     emit R when case R do emit Q end end module module N1: input A, B; output O, P; inputoutput V; relation V => B, V # B # A; run N0
--     [signal V/P, P/Q, O/R] end module
abbrev program_13 : SourceProgram
program_13 = (modul (n (codes "M") 7 8) ((Input ((n (codes "A") 16 17) ∷ (n (codes "B") 19 20) ∷ (n (codes "C") 22 23) ∷ (n (codes "D") 25
    26) ∷ [])) ∷ (Output ((n (codes "O") 35 36) ∷ (n (codes "P") 38 39) ∷ [])) ∷ []) (At (at 41 185) (Par (MoreStmts (At (at 41 72) (Signal
    ((n (codes "S1") 48 50) ∷ []) (At (at 54 68) (Loop (At (at 59 64) Pause))))) (MoreStmts (At (at 76 119) (Loop (At (at 81 110) (Run (n
    (codes "N1") 85 87) ((as_ (n (codes "C") 96 97) (n (codes "A") 98 99)) ∷ (as_ (n (codes "P") 101 102) (n (codes "V") 103 104)) ∷ (as_ (n
    (codes "O") 106 107) (n (codes "O") 108 109)) ∷ []))))) (MoreStmts (At (at 123 185) (Trap (n (codes "U") 128 129) (At (at 133 157) (Seq
    (MoreStmts (At (at 133 138) Pause) (MoreStmts (At (at 140 146) (Emit (n (codes "O") 145 146))) (MoreStmts (At (at 148 157) (Sustain (n
    (codes "O") 156 157))) NoStmts))))) (Handled (n (codes "U") 165 166) (At (at 170 176) (Emit (n (codes "P") 175 176)))))) NoStmts)))))) ∷
    (modul (n (codes "N0") 204 206) ((Output ((n (codes "O") 215 216) ∷ (n (codes "P") 218 219) ∷ (n (codes "Q") 221 222) ∷ (n (codes "R")
    224 225) ∷ [])) ∷ (InputOutput ((n (codes "V") 239 240) ∷ [])) ∷ []) (At (at 242 298) (AbortCase (At (at 248 272) (Par (MoreStmts (At
    (at 248 253) Pause) (MoreStmts (At (at 257 262) Pause) (MoreStmts (At (at 266 272) (Emit (n (codes "R") 271 272))) NoStmts)))))
    (MoreCases (Sig (n (codes "R") 283 284)) (Written (At (at 288 294) (Emit (n (codes "Q") 293 294)))) NoCases)))) ∷ (modul (n (codes "N1")
    317 319) ((Input ((n (codes "A") 327 328) ∷ (n (codes "B") 330 331) ∷ [])) ∷ (Output ((n (codes "O") 340 341) ∷ (n (codes "P") 343 344)
    ∷ [])) ∷ (InputOutput ((n (codes "V") 358 359) ∷ [])) ∷ (Relations ((Implies (n (codes "V") 370 371) (n (codes "B") 375 376)) ∷
    (Excludes ((n (codes "V") 378 379) ∷ (n (codes "B") 382 383) ∷ (n (codes "A") 386 387) ∷ [])) ∷ [])) ∷ []) (At (at 389 418) (Run (n
    (codes "N0") 393 395) ((as_ (n (codes "V") 404 405) (n (codes "P") 406 407)) ∷ (as_ (n (codes "P") 409 410) (n (codes "Q") 411 412)) ∷
    (as_ (n (codes "O") 414 415) (n (codes "R") 416 417)) ∷ [])))) ∷ []

abbrev alone_13 : Module
alone_13 = modul (n (codes "M") 7 8) ((Input ((n (0 ∷ codes "A") 16 17) ∷ (n (0 ∷ codes "B") 19 20) ∷ (n (0 ∷ codes "C") 22 23) ∷ (n (0 ∷
    codes "D") 25 26) ∷ [])) ∷ (Output ((n (0 ∷ codes "O") 35 36) ∷ (n (0 ∷ codes "P") 38 39) ∷ [])) ∷ []) (At (at 41 185) (Par (MoreStmts
    (At (at 41 72) (Signal ((n (0 ∷ codes "S1") 48 50) ∷ []) (At (at 54 68) (Loop (At (at 59 64) Pause))))) (MoreStmts (At (at 76 119) (Loop
    (At (at 81 110) (Group (At (at 389 418) (Group (At (at 242 298) (AbortCase (At (at 248 272) (Par (MoreStmts (At (at 248 253) Pause)
    (MoreStmts (At (at 257 262) Pause) (MoreStmts (At (at 266 272) (Emit (n (0 ∷ codes "O") 271 272))) NoStmts))))) (MoreCases (Sig (n (0 ∷
    codes "O") 283 284)) (Written (At (at 288 294) (Emit (n (0 ∷ codes "P") 293 294)))) NoCases))))))))) (MoreStmts (At (at 123 185) (Trap
    (n (0 ∷ codes "U") 128 129) (At (at 133 157) (Seq (MoreStmts (At (at 133 138) Pause) (MoreStmts (At (at 140 146) (Emit (n (0 ∷ codes
    "O") 145 146))) (MoreStmts (At (at 148 157) (Sustain (n (0 ∷ codes "O") 156 157))) NoStmts))))) (Handled (n (0 ∷ codes "U") 165 166) (At
    (at 170 176) (Emit (n (0 ∷ codes "P") 175 176)))))) NoStmts)))))

inlined_13 : inlined_first program_13 ≡ alone_13
unfolding inlining
inlined_13 = refl

flat_13 : flat_alone alone_13 ≡ Ok (made (codes "M") ((codes "A") ∷ (codes "B") ∷ (codes "C") ∷ (codes "D") ∷ (codes "O") ∷ (codes "P") ∷
    (codes "S1") ∷ []) 4 0 2 [] (flat.At (at 41 185) (flat.Par (flat.MoreStmts (flat.At (at 41 72) (flat.Signal (6 ∷ []) (flat.At (at 54 68)
    (flat.Loop (flat.At (at 59 64) flat.Pause))))) (flat.MoreStmts (flat.At (at 76 119) (flat.Loop (flat.At (at 242 298) (flat.AbortCase
    (flat.At (at 248 272) (flat.Par (flat.MoreStmts (flat.At (at 248 253) flat.Pause) (flat.MoreStmts (flat.At (at 257 262) flat.Pause)
    (flat.MoreStmts (flat.At (at 266 272) (flat.Emit 4)) flat.NoStmts))))) (flat.MoreCases (flat.Sig 4) (flat.Written (flat.At (at 288 294)
    (flat.Emit 5))) flat.NoCases))))) (flat.MoreStmts (flat.At (at 123 185) (flat.Trap (flat.At (at 133 157) (flat.Seq (flat.MoreStmts
    (flat.At (at 133 138) flat.Pause) (flat.MoreStmts (flat.At (at 140 146) (flat.Emit 4)) (flat.MoreStmts (flat.At (at 148 157)
    (flat.Sustain 4)) flat.NoStmts))))) (flat.Written (flat.At (at 170 176) (flat.Emit 5))))) flat.NoStmts))))))
unfolding flattening
flat_13 = refl

-- Drawn.
--     module M: input A; output O, P; positive repeat 3 times abort run N0 [signal P/O, O/P, P/Q] when case (not [A]) or O or P do sustain
--     P case O end end repeat; trap T in every P do present tick then nothing; exit T else run N0 [signal P/Q] end present end every end .
--     module N0: input A; output O, P, Q; present O else nothing end end module
abbrev program_14 : SourceProgram
program_14 = (modul (n (codes "M") 7 8) ((Input ((n (codes "A") 16 17) ∷ [])) ∷ (Output ((n (codes "O") 26 27) ∷ (n (codes "P") 29 30) ∷
    [])) ∷ []) (At (at 32 263) (Seq (MoreStmts (At (at 32 156) (Repeat 3 (at 48 49) (At (at 56 145) (AbortCase (At (at 62 91) (Run (n (codes
    "N0") 66 68) ((as_ (n (codes "P") 77 78) (n (codes "O") 79 80)) ∷ (as_ (n (codes "O") 82 83) (n (codes "P") 84 85)) ∷ (as_ (n (codes
    "P") 87 88) (n (codes "Q") 89 90)) ∷ []))) (MoreCases (Or (MoreExprs (Round (Not (Square (Sig (n (codes "A") 108 109))))) (MoreExprs
    (Sig (n (codes "O") 115 116)) (MoreExprs (Sig (n (codes "P") 120 121)) NoExprs)))) (Written (At (at 125 134) (Sustain (n (codes "P") 133
    134)))) (MoreCases (Sig (n (codes "O") 140 141)) Missing NoCases)))))) (MoreStmts (At (at 158 263) (Trap (n (codes "T") 163 164) (At (at
    168 259) (Every (Plain (Sig (n (codes "P") 174 175))) (At (at 179 249) (Present (Tick (at 187 191)) (Written (At (at 197 212) (Seq
    (MoreStmts (At (at 197 204) Nothing) (MoreStmts (At (at 206 212) (Exit (n (codes "T") 211 212))) NoStmts))))) (Written (At (at 218 237)
    (Run (n (codes "N0") 222 224) ((as_ (n (codes "P") 233 234) (n (codes "Q") 235 236)) ∷ [])))))))) NoHandler)) NoStmts))))) ∷ (modul (n
    (codes "N0") 273 275) ((Input ((n (codes "A") 283 284) ∷ [])) ∷ (Output ((n (codes "O") 293 294) ∷ (n (codes "P") 296 297) ∷ (n (codes
    "Q") 299 300) ∷ [])) ∷ []) (At (at 302 328) (Present (Sig (n (codes "O") 310 311)) Missing (Written (At (at 317 324) Nothing))))) ∷ []

abbrev alone_14 : Module
alone_14 = modul (n (codes "M") 7 8) ((Input ((n (0 ∷ codes "A") 16 17) ∷ [])) ∷ (Output ((n (0 ∷ codes "O") 26 27) ∷ (n (0 ∷ codes "P") 29
    30) ∷ [])) ∷ []) (At (at 32 263) (Seq (MoreStmts (At (at 32 156) (Repeat 3 (at 48 49) (At (at 56 145) (AbortCase (At (at 62 91) (Group
    (At (at 302 328) (Present (Sig (n (0 ∷ codes "P") 310 311)) Missing (Written (At (at 317 324) Nothing)))))) (MoreCases (Or (MoreExprs
    (Round (Not (Square (Sig (n (0 ∷ codes "A") 108 109))))) (MoreExprs (Sig (n (0 ∷ codes "O") 115 116)) (MoreExprs (Sig (n (0 ∷ codes "P")
    120 121)) NoExprs)))) (Written (At (at 125 134) (Sustain (n (0 ∷ codes "P") 133 134)))) (MoreCases (Sig (n (0 ∷ codes "O") 140 141))
    Missing NoCases)))))) (MoreStmts (At (at 158 263) (Trap (n (0 ∷ codes "T") 163 164) (At (at 168 259) (Every (Plain (Sig (n (0 ∷ codes
    "P") 174 175))) (At (at 179 249) (Present (Tick (at 187 191)) (Written (At (at 197 212) (Seq (MoreStmts (At (at 197 204) Nothing)
    (MoreStmts (At (at 206 212) (Exit (n (0 ∷ codes "T") 211 212))) NoStmts))))) (Written (At (at 218 237) (Group (At (at 302 328) (Present
    (Sig (n (0 ∷ codes "O") 310 311)) Missing (Written (At (at 317 324) Nothing))))))))))) NoHandler)) NoStmts))))

inlined_14 : inlined_first program_14 ≡ alone_14
unfolding inlining
inlined_14 = refl

flat_14 : flat_alone alone_14 ≡ Ok (made (codes "M") ((codes "A") ∷ (codes "O") ∷ (codes "P") ∷ []) 1 0 2 [] (flat.At (at 32 263) (flat.Seq
    (flat.MoreStmts (flat.At (at 32 156) (flat.Repeat 3 (at 48 49) (flat.At (at 56 145) (flat.AbortCase (flat.At (at 302 328) (flat.Present
    (flat.Sig 2) flat.Missing (flat.Written (flat.At (at 317 324) flat.Nothing))))
    (flat.MoreCases (flat.Or (flat.MoreExprs (flat.Not (flat.Sig 0)) (flat.MoreExprs (flat.Sig 1) (flat.MoreExprs (flat.Sig 2) flat.NoExprs))))
    (flat.Written (flat.At
    (at 125 134) (flat.Sustain 2))) (flat.MoreCases (flat.Sig 1) flat.Missing flat.NoCases)))))) (flat.MoreStmts (flat.At (at 158 263)
    (flat.Trap (flat.At (at 168 259) (flat.Every (flat.Plain (flat.Sig 2)) (flat.At (at 179 249) (flat.Present (flat.Tick (at 187 191))
    (flat.Written (flat.At (at 197 212) (flat.Seq (flat.MoreStmts (flat.At (at 197 204) flat.Nothing) (flat.MoreStmts (flat.At (at 206 212)
    (flat.Exit 0)) flat.NoStmts))))) (flat.Written (flat.At (at 302 328) (flat.Present (flat.Sig 1) flat.Missing (flat.Written (flat.At (at
    317 324) flat.Nothing))))))))) flat.Missing)) flat.NoStmts)))))
unfolding flattening
flat_14 = refl

-- Drawn.
--     module M: input A, B; output O, P, Q; inputoutput V; relation V # B; present case O case not B case B do emit V else emit P end; run
--     N0 [signal P/B, O/C, V/V, V/W, O/O]; suspend present case not P do nothing case V case A do pause else nothing end when [V and not [O
--     or Q or V] and P] end module module N0: input A, B, C; output O, P, Q; inputoutput V, W; await 2 V || pause end module module N1:
--     input A, B; output O, P, Q; inputoutput V; relation A # B # V; run N0 [signal B/C, O/W, Q/O, O/Q] end module
abbrev program_15 : SourceProgram
program_15 = (modul (n (codes "M") 7 8) ((Input ((n (codes "A") 16 17) ∷ (n (codes "B") 19 20) ∷ [])) ∷ (Output ((n (codes "O") 29 30) ∷ (n
    (codes "P") 32 33) ∷ (n (codes "Q") 35 36) ∷ [])) ∷ (InputOutput ((n (codes "V") 50 51) ∷ [])) ∷ (Relations ((Excludes ((n (codes "V")
    62 63) ∷ (n (codes "B") 66 67) ∷ [])) ∷ [])) ∷ []) (At (at 69 284) (Seq (MoreStmts (At (at 69 127) (PresentCase (MoreCases (Sig (n
    (codes "O") 82 83)) Missing (MoreCases (Not (Sig (n (codes "B") 93 94))) Missing (MoreCases (Sig (n (codes "B") 100 101)) (Written (At
    (at 105 111) (Emit (n (codes "V") 110 111)))) NoCases))) (Written (At (at 117 123) (Emit (n (codes "P") 122 123)))))) (MoreStmts (At (at
    129 168) (Run (n (codes "N0") 133 135) ((as_ (n (codes "P") 144 145) (n (codes "B") 146 147)) ∷ (as_ (n (codes "O") 149 150) (n (codes
    "C") 151 152)) ∷ (as_ (n (codes "V") 154 155) (n (codes "V") 156 157)) ∷ (as_ (n (codes "V") 159 160) (n (codes "W") 161 162)) ∷ (as_ (n
    (codes "O") 164 165) (n (codes "O") 166 167)) ∷ []))) (MoreStmts (At (at 170 284) (Suspend (At (at 178 247) (PresentCase (MoreCases (Not
    (Sig (n (codes "P") 195 196))) (Written (At (at 200 207) Nothing)) (MoreCases (Sig (n (codes "V") 213 214)) Missing (MoreCases (Sig (n
    (codes "A") 220 221)) (Written (At (at 225 230) Pause)) NoCases))) (Written (At (at 236 243) Nothing)))) (Plain (Square (And (MoreExprs
    (Sig (n (codes "V") 254 255)) (MoreExprs (Not (Square (Or (MoreExprs (Sig (n (codes "O") 265 266)) (MoreExprs (Sig (n (codes "Q") 270
    271)) (MoreExprs (Sig (n (codes "V") 275 276)) NoExprs)))))) (MoreExprs (Sig (n (codes "P") 282 283)) NoExprs)))))))) NoStmts)))))) ∷
    (modul (n (codes "N0") 303 305) ((Input ((n (codes "A") 313 314) ∷ (n (codes "B") 316 317) ∷ (n (codes "C") 319 320) ∷ [])) ∷ (Output
    ((n (codes "O") 329 330) ∷ (n (codes "P") 332 333) ∷ (n (codes "Q") 335 336) ∷ [])) ∷ (InputOutput ((n (codes "V") 350 351) ∷ (n (codes
    "W") 353 354) ∷ [])) ∷ []) (At (at 356 374) (Par (MoreStmts (At (at 356 365) (Await (Count 2 (at 362 363) (Sig (n (codes "V") 364 365)))
    Missing)) (MoreStmts (At (at 369 374) Pause) NoStmts))))) ∷ (modul (n (codes "N1") 393 395) ((Input ((n (codes "A") 403 404) ∷ (n (codes
    "B") 406 407) ∷ [])) ∷ (Output ((n (codes "O") 416 417) ∷ (n (codes "P") 419 420) ∷ (n (codes "Q") 422 423) ∷ [])) ∷ (InputOutput ((n
    (codes "V") 437 438) ∷ [])) ∷ (Relations ((Excludes ((n (codes "A") 449 450) ∷ (n (codes "B") 453 454) ∷ (n (codes "V") 457 458) ∷ []))
    ∷ [])) ∷ []) (At (at 460 494) (Run (n (codes "N0") 464 466) ((as_ (n (codes "B") 475 476) (n (codes "C") 477 478)) ∷ (as_ (n (codes "O")
    480 481) (n (codes "W") 482 483)) ∷ (as_ (n (codes "Q") 485 486) (n (codes "O") 487 488)) ∷ (as_ (n (codes "O") 490 491) (n (codes "Q")
    492 493)) ∷ [])))) ∷ []

abbrev alone_15 : Module
alone_15 = modul (n (codes "M") 7 8) ((Input ((n (0 ∷ codes "A") 16 17) ∷ (n (0 ∷ codes "B") 19 20) ∷ [])) ∷ (Output ((n (0 ∷ codes "O") 29
    30) ∷ (n (0 ∷ codes "P") 32 33) ∷ (n (0 ∷ codes "Q") 35 36) ∷ [])) ∷ (InputOutput ((n (0 ∷ codes "V") 50 51) ∷ [])) ∷ (Relations
    ((Excludes ((n (0 ∷ codes "V") 62 63) ∷ (n (0 ∷ codes "B") 66 67) ∷ [])) ∷ [])) ∷ []) (At (at 69 284) (Seq (MoreStmts (At (at 69 127)
    (PresentCase (MoreCases (Sig (n (0 ∷ codes "O") 82 83)) Missing (MoreCases (Not (Sig (n (0 ∷ codes "B") 93 94))) Missing (MoreCases (Sig
    (n (0 ∷ codes "B") 100 101)) (Written (At (at 105 111) (Emit (n (0 ∷ codes "V") 110 111)))) NoCases))) (Written (At (at 117 123) (Emit
    (n (0 ∷ codes "P") 122 123)))))) (MoreStmts (At (at 129 168) (Group (At (at 356 374) (Par (MoreStmts (At (at 356 365) (Await (Count 2
    (at 362 363) (Sig (n (0 ∷ codes "V") 364 365))) Missing)) (MoreStmts (At (at 369 374) Pause) NoStmts)))))) (MoreStmts (At (at 170 284)
    (Suspend (At (at 178 247) (PresentCase (MoreCases (Not (Sig (n (0 ∷ codes "P") 195 196))) (Written (At (at 200 207) Nothing)) (MoreCases
    (Sig (n (0 ∷ codes "V") 213 214)) Missing (MoreCases (Sig (n (0 ∷ codes "A") 220 221)) (Written (At (at 225 230) Pause)) NoCases)))
    (Written (At (at 236 243) Nothing)))) (Plain (Square (And (MoreExprs (Sig (n (0 ∷ codes "V") 254 255)) (MoreExprs (Not (Square (Or
    (MoreExprs (Sig (n (0 ∷ codes "O") 265 266)) (MoreExprs (Sig (n (0 ∷ codes "Q") 270 271)) (MoreExprs (Sig (n (0 ∷ codes "V") 275 276))
    NoExprs)))))) (MoreExprs (Sig (n (0 ∷ codes "P") 282 283)) NoExprs)))))))) NoStmts)))))

inlined_15 : inlined_first program_15 ≡ alone_15
unfolding inlining
inlined_15 = refl

flat_15 : flat_alone alone_15 ≡ Ok (made (codes "M") ((codes "A") ∷ (codes "B") ∷ (codes "V") ∷ (codes "O") ∷ (codes "P") ∷ (codes "Q") ∷
    []) 2 1 3 ((flat_relations.Excludes (2 ∷ 1 ∷ [])) ∷ []) (flat.At (at 69 284) (flat.Seq (flat.MoreStmts (flat.At (at 69 127)
    (flat.PresentCase (flat.MoreCases (flat.Sig 3) flat.Missing (flat.MoreCases (flat.Not (flat.Sig 1)) flat.Missing (flat.MoreCases
    (flat.Sig 1) (flat.Written (flat.At (at 105 111) (flat.Emit 2))) flat.NoCases))) (flat.Written (flat.At (at 117 123) (flat.Emit 4)))))
    (flat.MoreStmts (flat.At (at 356 374) (flat.Par (flat.MoreStmts (flat.At (at 356 365) (flat.Await (flat.Count 2 (at 362 363) (flat.Sig
    2)) flat.Missing)) (flat.MoreStmts (flat.At (at 369 374) flat.Pause) flat.NoStmts)))) (flat.MoreStmts (flat.At (at 170 284)
    (flat.Suspend (flat.At (at 178 247) (flat.PresentCase (flat.MoreCases (flat.Not (flat.Sig 4)) (flat.Written (flat.At (at 200 207)
    flat.Nothing)) (flat.MoreCases (flat.Sig 2) flat.Missing (flat.MoreCases (flat.Sig 0) (flat.Written (flat.At (at 225 230) flat.Pause))
    flat.NoCases))) (flat.Written (flat.At (at 236 243) flat.Nothing)))) (flat.Plain (flat.And (flat.MoreExprs (flat.Sig 2)
    (flat.MoreExprs (flat.Not (flat.Or (flat.MoreExprs (flat.Sig 3) (flat.MoreExprs (flat.Sig 5) (flat.MoreExprs (flat.Sig 2)
    flat.NoExprs))))) (flat.MoreExprs (flat.Sig 4) flat.NoExprs))))))) flat.NoStmts))))))
unfolding flattening
flat_15 = refl

-- Drawn.
--     module M: input A, B; relation A => B, B => A; signal S1 in suspend run N1 [signal A/B, S1/V, S1/O, S1/P] || run N0 [signal S1/O,
--     S1/P] when S1 end signal end module module N0: output O, P; present not O then pause else pause end present end module module N1:
--     input A, B; output O, P; inputoutput V; [emit V; emit O] end module
abbrev program_16 : SourceProgram
program_16 = (modul (n (codes "M") 7 8) ((Input ((n (codes "A") 16 17) ∷ (n (codes "B") 19 20) ∷ [])) ∷ (Relations ((Implies (n (codes "A")
    31 32) (n (codes "B") 36 37)) ∷ (Implies (n (codes "B") 39 40) (n (codes "A") 44 45)) ∷ [])) ∷ []) (At (at 47 154) (Signal ((n (codes
    "S1") 54 56) ∷ []) (At (at 60 143) (Suspend (At (at 68 135) (Par (MoreStmts (At (at 68 105) (Run (n (codes "N1") 72 74) ((as_ (n (codes
    "A") 83 84) (n (codes "B") 85 86)) ∷ (as_ (n (codes "S1") 88 90) (n (codes "V") 91 92)) ∷ (as_ (n (codes "S1") 94 96) (n (codes "O") 97
    98)) ∷ (as_ (n (codes "S1") 100 102) (n (codes "P") 103 104)) ∷ []))) (MoreStmts (At (at 109 135) (Run (n (codes "N0") 113 115) ((as_ (n
    (codes "S1") 124 126) (n (codes "O") 127 128)) ∷ (as_ (n (codes "S1") 130 132) (n (codes "P") 133 134)) ∷ []))) NoStmts)))) (Plain (Sig
    (n (codes "S1") 141 143)))))))) ∷ (modul (n (codes "N0") 173 175) ((Output ((n (codes "O") 184 185) ∷ (n (codes "P") 187 188) ∷ [])) ∷
    []) (At (at 190 237) (Present (Not (Sig (n (codes "O") 202 203))) (Written (At (at 209 214) Pause)) (Written (At (at 220 225) Pause)))))
    ∷ (modul (n (codes "N1") 256 258) ((Input ((n (codes "A") 266 267) ∷ (n (codes "B") 269 270) ∷ [])) ∷ (Output ((n (codes "O") 279 280) ∷
    (n (codes "P") 282 283) ∷ [])) ∷ (InputOutput ((n (codes "V") 297 298) ∷ [])) ∷ []) (At (at 300 316) (Group (At (at 301 315) (Seq
    (MoreStmts (At (at 301 307) (Emit (n (codes "V") 306 307))) (MoreStmts (At (at 309 315) (Emit (n (codes "O") 314 315))) NoStmts))))))) ∷
    []

abbrev alone_16 : Module
alone_16 = modul (n (codes "M") 7 8) ((Input ((n (0 ∷ codes "A") 16 17) ∷ (n (0 ∷ codes "B") 19 20) ∷ [])) ∷ (Relations ((Implies (n (0 ∷
    codes "A") 31 32) (n (0 ∷ codes "B") 36 37)) ∷ (Implies (n (0 ∷ codes "B") 39 40) (n (0 ∷ codes "A") 44 45)) ∷ [])) ∷ []) (At (at 47
    154) (Signal ((n (0 ∷ codes "S1") 54 56) ∷ []) (At (at 60 143) (Suspend (At (at 68 135) (Par (MoreStmts (At (at 68 105) (Group (At (at
    300 316) (Group (At (at 301 315) (Seq (MoreStmts (At (at 301 307) (Emit (n (0 ∷ codes "S1") 306 307))) (MoreStmts (At (at 309 315) (Emit
    (n (0 ∷ codes "S1") 314 315))) NoStmts)))))))) (MoreStmts (At (at 109 135) (Group (At (at 190 237) (Present (Not (Sig (n (0 ∷ codes
    "S1") 202 203))) (Written (At (at 209 214) Pause)) (Written (At (at 220 225) Pause)))))) NoStmts)))) (Plain (Sig (n (0 ∷ codes "S1") 141
    143)))))))

inlined_16 : inlined_first program_16 ≡ alone_16
unfolding inlining
inlined_16 = refl

flat_16 : flat_alone alone_16 ≡ Ok (made (codes "M") ((codes "A") ∷ (codes "B") ∷ (codes "S1") ∷ []) 2 0 0 ((flat_relations.Implies 0 1) ∷
    (flat_relations.Implies 1 0) ∷ []) (flat.At (at 47 154) (flat.Signal (2 ∷ []) (flat.At (at 60 143) (flat.Suspend (flat.At (at 68 135)
    (flat.Par (flat.MoreStmts (flat.At (at 301 315) (flat.Seq (flat.MoreStmts (flat.At (at 301 307) (flat.Emit 2)) (flat.MoreStmts (flat.At
    (at 309 315) (flat.Emit 2)) flat.NoStmts)))) (flat.MoreStmts (flat.At (at 190 237) (flat.Present (flat.Not (flat.Sig 2)) (flat.Written
    (flat.At (at 209 214) flat.Pause)) (flat.Written (flat.At (at 220 225) flat.Pause)))) flat.NoStmts)))) (flat.Plain (flat.Sig 2)))))))
unfolding flattening
flat_16 = refl

-- Drawn.
--     module M: input A; output O, P; inputoutput V; relation A => A, A => A; run N0 [signal P/B, V/C, V/D, V/V, V/W]; signal S2 in run N0
--     [signal S2/B, S2/C, O/D, O/W] end signal end module module N0: input A, B, C, D; inputoutput V, W; await W do pause end await; signal
--     S, Y1 in pause end signal end module
abbrev program_17 : SourceProgram
program_17 = (modul (n (codes "M") 7 8) ((Input ((n (codes "A") 16 17) ∷ [])) ∷ (Output ((n (codes "O") 26 27) ∷ (n (codes "P") 29 30) ∷
    [])) ∷ (InputOutput ((n (codes "V") 44 45) ∷ [])) ∷ (Relations ((Implies (n (codes "A") 56 57) (n (codes "A") 61 62)) ∷ (Implies (n
    (codes "A") 64 65) (n (codes "A") 69 70)) ∷ [])) ∷ []) (At (at 72 173) (Seq (MoreStmts (At (at 72 111) (Run (n (codes "N0") 76 78) ((as_
    (n (codes "P") 87 88) (n (codes "B") 89 90)) ∷ (as_ (n (codes "V") 92 93) (n (codes "C") 94 95)) ∷ (as_ (n (codes "V") 97 98) (n (codes
    "D") 99 100)) ∷ (as_ (n (codes "V") 102 103) (n (codes "V") 104 105)) ∷ (as_ (n (codes "V") 107 108) (n (codes "W") 109 110)) ∷ [])))
    (MoreStmts (At (at 113 173) (Signal ((n (codes "S2") 120 122) ∷ []) (At (at 126 162) (Run (n (codes "N0") 130 132) ((as_ (n (codes "S2")
    141 143) (n (codes "B") 144 145)) ∷ (as_ (n (codes "S2") 147 149) (n (codes "C") 150 151)) ∷ (as_ (n (codes "O") 153 154) (n (codes "D")
    155 156)) ∷ (as_ (n (codes "O") 158 159) (n (codes "W") 160 161)) ∷ []))))) NoStmts))))) ∷ (modul (n (codes "N0") 192 194) ((Input ((n
    (codes "A") 202 203) ∷ (n (codes "B") 205 206) ∷ (n (codes "C") 208 209) ∷ (n (codes "D") 211 212) ∷ [])) ∷ (InputOutput ((n (codes "V")
    226 227) ∷ (n (codes "W") 229 230) ∷ [])) ∷ []) (At (at 232 292) (Seq (MoreStmts (At (at 232 258) (Await (Plain (Sig (n (codes "W") 238
    239))) (Written (At (at 243 248) Pause)))) (MoreStmts (At (at 260 292) (Signal ((n (codes "S") 267 268) ∷ (n (codes "Y1") 270 272) ∷ [])
    (At (at 276 281) Pause))) NoStmts))))) ∷ []

abbrev alone_17 : Module
alone_17 = modul (n (codes "M") 7 8) ((Input ((n (0 ∷ codes "A") 16 17) ∷ [])) ∷ (Output ((n (0 ∷ codes "O") 26 27) ∷ (n (0 ∷ codes "P") 29
    30) ∷ [])) ∷ (InputOutput ((n (0 ∷ codes "V") 44 45) ∷ [])) ∷ (Relations ((Implies (n (0 ∷ codes "A") 56 57) (n (0 ∷ codes "A") 61 62))
    ∷ (Implies (n (0 ∷ codes "A") 64 65) (n (0 ∷ codes "A") 69 70)) ∷ [])) ∷ []) (At (at 72 173) (Seq (MoreStmts (At (at 72 111) (Group (At
    (at 232 292) (Seq (MoreStmts (At (at 232 258) (Await (Plain (Sig (n (0 ∷ codes "V") 238 239))) (Written (At (at 243 248) Pause))))
    (MoreStmts (At (at 260 292) (Signal ((n (1 ∷ codes "S") 267 268) ∷ (n (1 ∷ codes "Y1") 270 272) ∷ []) (At (at 276 281) Pause)))
    NoStmts)))))) (MoreStmts (At (at 113 173) (Signal ((n (0 ∷ codes "S2") 120 122) ∷ []) (At (at 126 162) (Group (At (at 232 292) (Seq
    (MoreStmts (At (at 232 258) (Await (Plain (Sig (n (0 ∷ codes "O") 238 239))) (Written (At (at 243 248) Pause)))) (MoreStmts (At (at 260
    292) (Signal ((n (1 ∷ codes "S") 267 268) ∷ (n (1 ∷ codes "Y1") 270 272) ∷ []) (At (at 276 281) Pause))) NoStmts)))))))) NoStmts))))

inlined_17 : inlined_first program_17 ≡ alone_17
unfolding inlining
inlined_17 = refl

flat_17 : flat_alone alone_17 ≡ Ok (made (codes "M") ((codes "A") ∷ (codes "V") ∷ (codes "O") ∷ (codes "P") ∷ (codes "S") ∷ (codes "Y1") ∷
    (codes "S2") ∷ (codes "S") ∷ (codes "Y1") ∷ []) 1 1 2 ((flat_relations.Implies 0 0) ∷ (flat_relations.Implies 0 0) ∷ []) (flat.At (at 72
    173) (flat.Seq (flat.MoreStmts (flat.At (at 232 292) (flat.Seq (flat.MoreStmts (flat.At (at 232 258) (flat.Await (flat.Plain (flat.Sig
    1)) (flat.Written (flat.At (at 243 248) flat.Pause)))) (flat.MoreStmts (flat.At (at 260 292) (flat.Signal (4 ∷ 5 ∷ []) (flat.At (at 276
    281) flat.Pause))) flat.NoStmts)))) (flat.MoreStmts (flat.At (at 113 173) (flat.Signal (6 ∷ []) (flat.At (at 232 292) (flat.Seq
    (flat.MoreStmts (flat.At (at 232 258) (flat.Await (flat.Plain (flat.Sig 2)) (flat.Written (flat.At (at 243 248) flat.Pause))))
    (flat.MoreStmts (flat.At (at 260 292) (flat.Signal (7 ∷ 8 ∷ []) (flat.At (at 276 281) flat.Pause))) flat.NoStmts)))))) flat.NoStmts)))))
unfolding flattening
flat_17 = refl

-- Drawn.
--     module M: input A, B; inputoutput V, W; trap T in repeat 2 times weak abort await A do emit W end when B; run N1 [signal W/C, W/D,
--     V/V, W/O, W/P, V/Q] end handle T do abort run N1 [signal V/C, W/D, W/V, V/O, V/P, V/Q] when case B case V do halt case V and B end
--     end trap end module module N0: relation B => A; input A, B; output O, P, Q; nothing; pause; emit Q . module N1: input A, B, C, D;
--     output O, P, Q; inputoutput V, W; relation B # A # C # W # D # V; abort run N0 [signal P/A] when [not B] do pause end end module
abbrev program_18 : SourceProgram
program_18 = (modul (n (codes "M") 7 8) ((Input ((n (codes "A") 16 17) ∷ (n (codes "B") 19 20) ∷ [])) ∷ (InputOutput ((n (codes "V") 34 35)
    ∷ (n (codes "W") 37 38) ∷ [])) ∷ []) (At (at 40 270) (Trap (n (codes "T") 45 46) (At (at 50 154) (Repeat 2 (at 57 58) (At (at 65 150)
    (Seq (MoreStmts (At (at 65 104) (WeakAbort (At (at 76 97) (Await (Plain (Sig (n (codes "A") 82 83))) (Written (At (at 87 93) (Emit (n
    (codes "W") 92 93)))))) (Plain (Sig (n (codes "B") 103 104))))) (MoreStmts (At (at 106 150) (Run (n (codes "N1") 110 112) ((as_ (n
    (codes "W") 121 122) (n (codes "C") 123 124)) ∷ (as_ (n (codes "W") 126 127) (n (codes "D") 128 129)) ∷ (as_ (n (codes "V") 131 132) (n
    (codes "V") 133 134)) ∷ (as_ (n (codes "W") 136 137) (n (codes "O") 138 139)) ∷ (as_ (n (codes "W") 141 142) (n (codes "P") 143 144)) ∷
    (as_ (n (codes "V") 146 147) (n (codes "Q") 148 149)) ∷ []))) NoStmts)))))) (Handled (n (codes "T") 162 163) (At (at 167 261) (AbortCase
    (At (at 173 217) (Run (n (codes "N1") 177 179) ((as_ (n (codes "V") 188 189) (n (codes "C") 190 191)) ∷ (as_ (n (codes "W") 193 194) (n
    (codes "D") 195 196)) ∷ (as_ (n (codes "W") 198 199) (n (codes "V") 200 201)) ∷ (as_ (n (codes "V") 203 204) (n (codes "O") 205 206)) ∷
    (as_ (n (codes "V") 208 209) (n (codes "P") 210 211)) ∷ (as_ (n (codes "V") 213 214) (n (codes "Q") 215 216)) ∷ []))) (MoreCases (Sig (n
    (codes "B") 228 229)) Missing (MoreCases (Sig (n (codes "V") 235 236)) (Written (At (at 240 244) Halt)) (MoreCases (And (MoreExprs (Sig
    (n (codes "V") 250 251)) (MoreExprs (Sig (n (codes "B") 256 257)) NoExprs))) Missing NoCases))))))))) ∷ (modul (n (codes "N0") 289 291)
    ((Relations ((Implies (n (codes "B") 302 303) (n (codes "A") 307 308)) ∷ [])) ∷ (Input ((n (codes "A") 316 317) ∷ (n (codes "B") 319
    320) ∷ [])) ∷ (Output ((n (codes "O") 329 330) ∷ (n (codes "P") 332 333) ∷ (n (codes "Q") 335 336) ∷ [])) ∷ []) (At (at 338 360) (Seq
    (MoreStmts (At (at 338 345) Nothing) (MoreStmts (At (at 347 352) Pause) (MoreStmts (At (at 354 360) (Emit (n (codes "Q") 359 360)))
    NoStmts)))))) ∷ (modul (n (codes "N1") 370 372) ((Input ((n (codes "A") 380 381) ∷ (n (codes "B") 383 384) ∷ (n (codes "C") 386 387) ∷
    (n (codes "D") 389 390) ∷ [])) ∷ (Output ((n (codes "O") 399 400) ∷ (n (codes "P") 402 403) ∷ (n (codes "Q") 405 406) ∷ [])) ∷
    (InputOutput ((n (codes "V") 420 421) ∷ (n (codes "W") 423 424) ∷ [])) ∷ (Relations ((Excludes ((n (codes "B") 435 436) ∷ (n (codes "A")
    439 440) ∷ (n (codes "C") 443 444) ∷ (n (codes "W") 447 448) ∷ (n (codes "D") 451 452) ∷ (n (codes "V") 455 456) ∷ [])) ∷ [])) ∷ []) (At
    (at 458 509) (Abort (At (at 464 483) (Run (n (codes "N0") 468 470) ((as_ (n (codes "P") 479 480) (n (codes "A") 481 482)) ∷ []))) (Plain
    (Square (Not (Sig (n (codes "B") 494 495))))) (Written (At (at 500 505) Pause))))) ∷ []

abbrev alone_18 : Module
alone_18 = modul (n (codes "M") 7 8) ((Input ((n (0 ∷ codes "A") 16 17) ∷ (n (0 ∷ codes "B") 19 20) ∷ [])) ∷ (InputOutput ((n (0 ∷ codes
    "V") 34 35) ∷ (n (0 ∷ codes "W") 37 38) ∷ [])) ∷ []) (At (at 40 270) (Trap (n (0 ∷ codes "T") 45 46) (At (at 50 154) (Repeat 2 (at 57
    58) (At (at 65 150) (Seq (MoreStmts (At (at 65 104) (WeakAbort (At (at 76 97) (Await (Plain (Sig (n (0 ∷ codes "A") 82 83))) (Written
    (At (at 87 93) (Emit (n (0 ∷ codes "W") 92 93)))))) (Plain (Sig (n (0 ∷ codes "B") 103 104))))) (MoreStmts (At (at 106 150) (Group (At
    (at 458 509) (Abort (At (at 464 483) (Group (At (at 338 360) (Seq (MoreStmts (At (at 338 345) Nothing) (MoreStmts (At (at 347 352)
    Pause) (MoreStmts (At (at 354 360) (Emit (n (0 ∷ codes "V") 359 360))) NoStmts))))))) (Plain (Square (Not (Sig (n (0 ∷ codes "B") 494
    495))))) (Written (At (at 500 505) Pause)))))) NoStmts)))))) (Handled (n (0 ∷ codes "T") 162 163) (At (at 167 261) (AbortCase (At (at
    173 217) (Group (At (at 458 509) (Abort (At (at 464 483) (Group (At (at 338 360) (Seq (MoreStmts (At (at 338 345) Nothing) (MoreStmts
    (At (at 347 352) Pause) (MoreStmts (At (at 354 360) (Emit (n (0 ∷ codes "V") 359 360))) NoStmts))))))) (Plain (Square (Not (Sig (n (0 ∷
    codes "B") 494 495))))) (Written (At (at 500 505) Pause)))))) (MoreCases (Sig (n (0 ∷ codes "B") 228 229)) Missing (MoreCases (Sig (n (0
    ∷ codes "V") 235 236)) (Written (At (at 240 244) Halt)) (MoreCases (And (MoreExprs (Sig (n (0 ∷ codes "V") 250 251)) (MoreExprs (Sig (n
    (0 ∷ codes "B") 256 257)) NoExprs))) Missing NoCases))))))))

inlined_18 : inlined_first program_18 ≡ alone_18
unfolding inlining
inlined_18 = refl

flat_18 : flat_alone alone_18 ≡ Ok (made (codes "M") ((codes "A") ∷ (codes "B") ∷ (codes "V") ∷ (codes "W") ∷ []) 2 2 0 [] (flat.At (at 40
    270) (flat.Trap (flat.At (at 50 154) (flat.Repeat 2 (at 57 58) (flat.At (at 65 150) (flat.Seq (flat.MoreStmts (flat.At (at 65 104)
    (flat.WeakAbort (flat.At (at 76 97) (flat.Await (flat.Plain (flat.Sig 0)) (flat.Written (flat.At (at 87 93) (flat.Emit 3)))))
    (flat.Plain (flat.Sig 1)))) (flat.MoreStmts (flat.At (at 458 509) (flat.Abort (flat.At (at 338 360) (flat.Seq (flat.MoreStmts (flat.At
    (at 338 345) flat.Nothing) (flat.MoreStmts (flat.At (at 347 352) flat.Pause) (flat.MoreStmts (flat.At (at 354 360) (flat.Emit 2))
    flat.NoStmts))))) (flat.Plain (flat.Not (flat.Sig 1))) (flat.Written (flat.At (at 500 505) flat.Pause))))
    flat.NoStmts)))))) (flat.Written (flat.At (at 167 261) (flat.AbortCase (flat.At (at 458 509) (flat.Abort (flat.At (at 338 360) (flat.Seq
    (flat.MoreStmts (flat.At (at 338 345) flat.Nothing) (flat.MoreStmts (flat.At (at 347 352) flat.Pause) (flat.MoreStmts (flat.At (at 354
    360) (flat.Emit 2)) flat.NoStmts))))) (flat.Plain (flat.Not (flat.Sig 1))) (flat.Written (flat.At (at 500 505)
    flat.Pause)))) (flat.MoreCases (flat.Sig 1) flat.Missing (flat.MoreCases (flat.Sig 2) (flat.Written (flat.At (at 240 244) flat.Halt))
    (flat.MoreCases (flat.And (flat.MoreExprs (flat.Sig 2) (flat.MoreExprs (flat.Sig 1) flat.NoExprs))) flat.Missing flat.NoCases)))))))))
unfolding flattening
flat_18 = refl

-- Drawn.
--     module M: input A, B, C; output O; inputoutput V; relation A => C; run N0 [signal O/P, O/Q, V/R]; signal S1 in run N0 [signal S1/B,
--     S1/P, O/Q, S1/R]; run N0 [signal C/A, V/B, V/P, V/Q, V/R] end end module module N0: input A, B; output O, P, Q, R; relation A => B, A
--     # B; suspend loop [emit R]; pause end when A end module
abbrev program_19 : SourceProgram
program_19 = (modul (n (codes "M") 7 8) ((Input ((n (codes "A") 16 17) ∷ (n (codes "B") 19 20) ∷ (n (codes "C") 22 23) ∷ [])) ∷ (Output ((n
    (codes "O") 32 33) ∷ [])) ∷ (InputOutput ((n (codes "V") 47 48) ∷ [])) ∷ (Relations ((Implies (n (codes "A") 59 60) (n (codes "C") 64
    65)) ∷ [])) ∷ []) (At (at 67 193) (Seq (MoreStmts (At (at 67 96) (Run (n (codes "N0") 71 73) ((as_ (n (codes "O") 82 83) (n (codes "P")
    84 85)) ∷ (as_ (n (codes "O") 87 88) (n (codes "Q") 89 90)) ∷ (as_ (n (codes "V") 92 93) (n (codes "R") 94 95)) ∷ []))) (MoreStmts (At
    (at 98 193) (Signal ((n (codes "S1") 105 107) ∷ []) (At (at 111 189) (Seq (MoreStmts (At (at 111 148) (Run (n (codes "N0") 115 117)
    ((as_ (n (codes "S1") 126 128) (n (codes "B") 129 130)) ∷ (as_ (n (codes "S1") 132 134) (n (codes "P") 135 136)) ∷ (as_ (n (codes "O")
    138 139) (n (codes "Q") 140 141)) ∷ (as_ (n (codes "S1") 143 145) (n (codes "R") 146 147)) ∷ []))) (MoreStmts (At (at 150 189) (Run (n
    (codes "N0") 154 156) ((as_ (n (codes "C") 165 166) (n (codes "A") 167 168)) ∷ (as_ (n (codes "V") 170 171) (n (codes "B") 172 173)) ∷
    (as_ (n (codes "V") 175 176) (n (codes "P") 177 178)) ∷ (as_ (n (codes "V") 180 181) (n (codes "Q") 182 183)) ∷ (as_ (n (codes "V") 185
    186) (n (codes "R") 187 188)) ∷ []))) NoStmts)))))) NoStmts))))) ∷ (modul (n (codes "N0") 212 214) ((Input ((n (codes "A") 222 223) ∷ (n
    (codes "B") 225 226) ∷ [])) ∷ (Output ((n (codes "O") 235 236) ∷ (n (codes "P") 238 239) ∷ (n (codes "Q") 241 242) ∷ (n (codes "R") 244
    245) ∷ [])) ∷ (Relations ((Implies (n (codes "A") 256 257) (n (codes "B") 261 262)) ∷ (Excludes ((n (codes "A") 264 265) ∷ (n (codes
    "B") 268 269) ∷ [])) ∷ [])) ∷ []) (At (at 271 310) (Suspend (At (at 279 303) (Loop (At (at 284 299) (Seq (MoreStmts (At (at 284 292)
    (Group (At (at 285 291) (Emit (n (codes "R") 290 291))))) (MoreStmts (At (at 294 299) Pause) NoStmts)))))) (Plain (Sig (n (codes "A")
    309 310)))))) ∷ []

abbrev alone_19 : Module
alone_19 = modul (n (codes "M") 7 8) ((Input ((n (0 ∷ codes "A") 16 17) ∷ (n (0 ∷ codes "B") 19 20) ∷ (n (0 ∷ codes "C") 22 23) ∷ [])) ∷
    (Output ((n (0 ∷ codes "O") 32 33) ∷ [])) ∷ (InputOutput ((n (0 ∷ codes "V") 47 48) ∷ [])) ∷ (Relations ((Implies (n (0 ∷ codes "A") 59
    60) (n (0 ∷ codes "C") 64 65)) ∷ [])) ∷ []) (At (at 67 193) (Seq (MoreStmts (At (at 67 96) (Group (At (at 271 310) (Suspend (At (at 279
    303) (Loop (At (at 284 299) (Seq (MoreStmts (At (at 284 292) (Group (At (at 285 291) (Emit (n (0 ∷ codes "V") 290 291))))) (MoreStmts
    (At (at 294 299) Pause) NoStmts)))))) (Plain (Sig (n (0 ∷ codes "A") 309 310))))))) (MoreStmts (At (at 98 193) (Signal ((n (0 ∷ codes
    "S1") 105 107) ∷ []) (At (at 111 189) (Seq (MoreStmts (At (at 111 148) (Group (At (at 271 310) (Suspend (At (at 279 303) (Loop (At (at
    284 299) (Seq (MoreStmts (At (at 284 292) (Group (At (at 285 291) (Emit (n (0 ∷ codes "S1") 290 291))))) (MoreStmts (At (at 294 299)
    Pause) NoStmts)))))) (Plain (Sig (n (0 ∷ codes "A") 309 310))))))) (MoreStmts (At (at 150 189) (Group (At (at 271 310) (Suspend (At (at
    279 303) (Loop (At (at 284 299) (Seq (MoreStmts (At (at 284 292) (Group (At (at 285 291) (Emit (n (0 ∷ codes "V") 290 291)))))
    (MoreStmts (At (at 294 299) Pause) NoStmts)))))) (Plain (Sig (n (0 ∷ codes "C") 309 310))))))) NoStmts)))))) NoStmts))))

inlined_19 : inlined_first program_19 ≡ alone_19
unfolding inlining
inlined_19 = refl

flat_19 : flat_alone alone_19 ≡ Ok (made (codes "M") ((codes "A") ∷ (codes "B") ∷ (codes "C") ∷ (codes "V") ∷ (codes "O") ∷ (codes "S1") ∷
    []) 3 1 1 ((flat_relations.Implies 0 2) ∷ []) (flat.At (at 67 193) (flat.Seq (flat.MoreStmts (flat.At (at 271 310) (flat.Suspend
    (flat.At (at 279 303) (flat.Loop (flat.At (at 284 299) (flat.Seq (flat.MoreStmts (flat.At (at 285 291) (flat.Emit 3)) (flat.MoreStmts
    (flat.At (at 294 299) flat.Pause) flat.NoStmts)))))) (flat.Plain (flat.Sig 0)))) (flat.MoreStmts (flat.At (at 98 193) (flat.Signal (5 ∷
    []) (flat.At (at 111 189) (flat.Seq (flat.MoreStmts (flat.At (at 271 310) (flat.Suspend (flat.At (at 279 303) (flat.Loop (flat.At (at
    284 299) (flat.Seq (flat.MoreStmts (flat.At (at 285 291) (flat.Emit 5)) (flat.MoreStmts (flat.At (at 294 299) flat.Pause)
    flat.NoStmts)))))) (flat.Plain (flat.Sig 0)))) (flat.MoreStmts (flat.At (at 271 310) (flat.Suspend (flat.At (at 279 303) (flat.Loop
    (flat.At (at 284 299) (flat.Seq (flat.MoreStmts (flat.At (at 285 291) (flat.Emit 3)) (flat.MoreStmts (flat.At (at 294 299) flat.Pause)
    flat.NoStmts)))))) (flat.Plain (flat.Sig 2)))) flat.NoStmts)))))) flat.NoStmts)))))
unfolding flattening
flat_19 = refl

-- A trap has the name of a formal, and of a local signal: names of traps do not come from outside of their module.
--     module M: output O; signal X in trap X in run N [signal O/T]; emit X; exit X handle X do emit X end end end module module N: output
--     T; trap T in emit T; exit T handle T do emit T end end module
abbrev program_20 : SourceProgram
program_20 = (modul (n (codes "M") 7 8) ((Output ((n (codes "O") 17 18) ∷ [])) ∷ []) (At (at 20 103) (Signal ((n (codes "X") 27 28) ∷ []) (At (at
    32 99) (Trap (n (codes "X") 37 38) (At (at 42 76) (Seq (MoreStmts (At (at 42 60) (Run (n (codes "N") 46 47) ((as_ (n (codes "O") 56 57) (n
    (codes "T") 58 59)) ∷ []))) (MoreStmts (At (at 62 68) (Emit (n (codes "X") 67 68))) (MoreStmts (At (at 70 76) (Exit (n (codes "X") 75 76)))
    NoStmts))))) (Handled (n (codes "X") 84 85) (At (at 89 95) (Emit (n (codes "X") 94 95))))))))) ∷ (modul (n (codes "N") 122 123) ((Output ((n
    (codes "T") 132 133) ∷ [])) ∷ []) (At (at 135 182) (Trap (n (codes "T") 140 141) (At (at 145 159) (Seq (MoreStmts (At (at 145 151) (Emit (n
    (codes "T") 150 151))) (MoreStmts (At (at 153 159) (Exit (n (codes "T") 158 159))) NoStmts)))) (Handled (n (codes "T") 167 168) (At (at 172
    178) (Emit (n (codes "T") 177 178))))))) ∷ []

abbrev alone_20 : Module
alone_20 = modul (n (codes "M") 7 8) ((Output ((n (0 ∷ codes "O") 17 18) ∷ [])) ∷ []) (At (at 20 103) (Signal ((n (0 ∷ codes "X") 27 28) ∷ [])
    (At (at 32 99) (Trap (n (0 ∷ codes "X") 37 38) (At (at 42 76) (Seq (MoreStmts (At (at 42 60) (Group (At (at 135 182) (Trap (n (1 ∷ codes "T")
    140 141) (At (at 145 159) (Seq (MoreStmts (At (at 145 151) (Emit (n (0 ∷ codes "O") 150 151))) (MoreStmts (At (at 153 159) (Exit (n (1 ∷
    codes "T") 158 159))) NoStmts)))) (Handled (n (1 ∷ codes "T") 167 168) (At (at 172 178) (Emit (n (0 ∷ codes "O") 177 178)))))))) (MoreStmts
    (At (at 62 68) (Emit (n (0 ∷ codes "X") 67 68))) (MoreStmts (At (at 70 76) (Exit (n (0 ∷ codes "X") 75 76))) NoStmts))))) (Handled (n (0 ∷
    codes "X") 84 85) (At (at 89 95) (Emit (n (0 ∷ codes "X") 94 95))))))))

inlined_20 : inlined_first program_20 ≡ alone_20
unfolding inlining
inlined_20 = refl

flat_20 : flat_alone alone_20 ≡ Ok (made (codes "M") ((codes "O") ∷ (codes "X") ∷ []) 0 0 1 [] (flat.At (at 20 103) (flat.Signal (1 ∷ [])
    (flat.At (at 32 99) (flat.Trap (flat.At (at 42 76) (flat.Seq (flat.MoreStmts (flat.At (at 135 182) (flat.Trap (flat.At (at 145 159) (flat.Seq
    (flat.MoreStmts (flat.At (at 145 151) (flat.Emit 0)) (flat.MoreStmts (flat.At (at 153 159) (flat.Exit 0)) flat.NoStmts)))) (flat.Written
    (flat.At (at 172 178) (flat.Emit 0))))) (flat.MoreStmts (flat.At (at 62 68) (flat.Emit 1)) (flat.MoreStmts (flat.At (at 70 76) (flat.Exit 0))
    flat.NoStmts))))) (flat.Written (flat.At (at 89 95) (flat.Emit 1))))))))
unfolding flattening
flat_20 = refl
