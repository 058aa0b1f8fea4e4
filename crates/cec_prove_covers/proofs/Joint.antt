-- From the signal of a point to the point.
use Rattle.std.proofs.Common.{◌≤◌, ◌-◌, ℕ, List, Option}
use Rattle.est_ast.specs.FlatTrees.{Flat}
use Rattle.est_cover.specs.Covered.{covered}
use Rattle.est_kernel.specs.Plain.{Program}
use Rattle.cec_prove_sources.specs.Verdicts.{HasPlace}
use Rattle.cec_prove_covers.specs.Coverings.{IsReach}
use Rattle.cec_prove_covers.specs.Findings.{IsSignalReach}
use Rattle.cec_prove_covers.specs.Lines.{Reach, Never, Reached, Unknown}
use Rattle.cec_prove_covers.specs.Stages.{IsCoveredProgram}

pub reach-shown : (flat : Flat) (first : ℕ) (names : List (List ℕ)) (number : ℕ) (p : Program) (signal : List ℕ) (assumed : Option (List ℕ)) (r : Reach)
    → IsCoveredProgram (covered flat first names) p → first ≤ number → HasPlace names signal (number - first) → IsSignalReach p signal assumed r
    → IsReach flat assumed number r
reach-shown flat first names number p signal assumed Never is from named h =
    record {
      program = p;
      signal = signal;
      shows = record {
        first = first;
        names = names;
        expands = is.expands;
        from = from;
        named = named;
        differ = is.names;
      };
      never = h;
    }
reach-shown flat first names number p signal assumed (Reached trace) is from named h =
    record {
      program = p;
      signal = signal;
      shows = record {
        first = first;
        names = names;
        expands = is.expands;
        from = from;
        named = named;
        differ = is.names;
      };
      starts = h;
    }
reach-shown flat first names number p signal assumed Unknown is from named h = tt
