-- Inner: written by hand: worked programs that are the same except for the names that they bind, and names that would be captured.
use Rattle.std.proofs.Common.{◌≡◌, ℕ, true, false, List, [], ◌∷◌, codes, refl, subst}
use Rattle.est_ast.specs.Trees.{Stmt, At, Emit, Signal, Run, Seq, MoreStmts, NoStmts, Output, Module, SourceProgram}
use Rattle.est_names.proofs.worked.PlainTrees.{at, n, modul, as_}
use Rattle.est_expand.specs.Flattening.{flattened}
use Rattle.est_expand.specs.Renaming.{Pairs, Binders, no_binders, are_same, is_same_formal, SameRun, BothMoreRenames, BothNoRenames, SameStmt, BothAt, BothEmit}
use Rattle.est_expand.specs.Renaming.{BothSignal, BothRun, BothSeq, BothMoreStmts, BothNoStmts, BothNoModules, BothMoreModules, SamePrograms, BothAre}
use Rattle.est_expand.specs.Renaming.{SameButForNames}
use Rattle.est_expand.proofs.SameWalks.{flattened-both}

-- A module that emits its formal behind a local signal, by the names of both.
abbrev inner : List ℕ → List ℕ → Module
inner formal hidden =
    modul (n (codes "N") 70 71) (Output (n formal 80 81 ∷ []) ∷ [])
    (At (at 83 110) (Signal (n hidden 90 91 ∷ [])
    (At (at 95 106) (Seq (MoreStmts (At (at 95 100) (Emit (n formal 99 100))) (MoreStmts (At (at 102 106) (Emit (n hidden 105 106))) NoStmts))))))

-- it is run with the local signal X
abbrev body : List ℕ → Stmt
body formal = At (at 20 60) (Signal (n (codes "X") 27 28 ∷ []) (At (at 32 50) (Run (n (codes "N") 36 37) (as_ (n (codes "X") 46 47) (n formal 48 49) ∷ []))))

abbrev main : List ℕ → Module
main formal = modul (n (codes "M") 7 8) (Output (n (codes "O") 17 18 ∷ []) ∷ []) (body formal)

abbrev program : List ℕ → List ℕ → SourceProgram
program formal hidden = main formal ∷ inner formal hidden ∷ []

-- The formal S gets the name of its actual, and the local signal T the former name of the formal.
abbrev before : SourceProgram
before = program (codes "S") (codes "T")

abbrev renamed : SourceProgram
renamed = program (codes "X") (codes "S")

bodies_same : (b : Binders) → SameStmt before renamed b (body (codes "S")) (body (codes "X"))
bodies_same b = BothAt (at 20 60) (BothSignal refl (BothAt (at 32 50) (BothRun (n (codes "N") 36 37) (λ m k first second. by m k (cc) (cc)))))
  where
    signals : Pairs
    signals = (codes "X", codes "X") ∷ b.signals

    by : (m k : Module) → inner (codes "S") (codes "T") ≡ m → inner (codes "X") (codes "S") ≡ k
        → SameRun signals m k (as_ (n (codes "X") 46 47) (n (codes "S") 48 49) ∷ []) (as_ (n (codes "X") 46 47) (n (codes "X") 48 49) ∷ [])
    by m k first second =
        subst (λ m. SameRun signals m k (as_ (n (codes "X") 46 47) (n (codes "S") 48 49) ∷ []) (as_ (n (codes "X") 46 47) (n (codes "X") 48 49) ∷ [])) first
        (subst (λ k. SameRun signals (inner (codes "S") (codes "T")) k (as_ (n (codes "X") 46 47) (n (codes "S") 48 49) ∷ [])
        (as_ (n (codes "X") 46 47) (n (codes "X") 48 49) ∷ [])) second
        (record {
          renamed = BothMoreRenames (record { place = refl; same = refl }) (record { place = refl; same = refl }) BothNoRenames;
          left = refl;
        }))

programs_same : SamePrograms before renamed
programs_same =
    BothMoreModules (record { name = refl; inputs = refl; formals = refl; body = bodies_same (record { signals = (codes "O", codes "O") ∷ []; traps = [] }) })
    (BothMoreModules (record {
      name = refl;
      inputs = refl;
      formals = refl;
      body = BothAt (at 83 110) (BothSignal refl (BothAt (at 95 106)
          (BothSeq (BothMoreStmts (BothAt (at 95 100) (BothEmit (record { place = refl; same = refl })))
          (BothMoreStmts (BothAt (at 102 106) (BothEmit (record { place = refl; same = refl }))) BothNoStmts)))));
    }) BothNoModules)

same_flat_forms : BothAre SameButForNames (flattened before (main (codes "S"))) (flattened renamed (main (codes "X")))
same_flat_forms = flattened-both before renamed (main (codes "S")) (body (codes "X")) programs_same (bodies_same no_binders)

-- A local signal that takes the name of a formal that is used inside of it would capture it.
formal_captured : are_same ((codes "T", codes "S") ∷ (codes "S", codes "S") ∷ []) (codes "S") (codes "S") ≡ false
formal_captured = refl

-- So would one that takes a name that is free inside of it.
free_captured : are_same ((codes "T", codes "O") ∷ []) (codes "O") (codes "O") ≡ false
free_captured = refl

-- Of two binders of one name the nearest one counts.
nearest_counts : are_same ((codes "T", codes "S") ∷ (codes "T", codes "U") ∷ []) (codes "T") (codes "U") ≡ false
nearest_counts = refl

-- A formal that a `run` does not rename keeps its name, unless the signals of its names are the same there.
formal_kept : is_same_formal [] [] (codes "S", codes "X") ≡ false
formal_kept = refl

formal_renamed : is_same_formal ((codes "S", codes "X") ∷ []) [] (codes "S", codes "X") ≡ true
formal_renamed = refl
