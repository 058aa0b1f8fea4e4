-- Inner: what is read where the end of a statement is made.
use Rattle.std.specs.Prelude.{◌≡◌, ◌↔◌, ℕ, ◌<◌, Bool, true, not, ◌==◌, ◌&&◌, List, [], ◌∷◌, ◌++◌, Option}
use Rattle.grc_graph.specs.declared.formulas.Formula.{Formula}
use Rattle.grc_graph.specs.Equations.{branch_over}
use Rattle.grc_graph.specs.Formulas as plain
use Rattle.grc_graph.specs.Formulas.{Value, Selected, Upto, Conjunction, any_of}
use Rattle.grc_graph.specs.Layers.{Layer, Resumed, Started}
use Rattle.grc_graph.specs.Neighbouring.{instances_in, names_in}
use Rattle.grc_graph.specs.Wires.{Wire, Go, End}
use Rattle.grc_build.specs.declared.tables.Tables.{Tables}
use Rattle.grc_build.specs.Meanings.{MeansIf, formula_if}
use Rattle.grc_build.specs.Tabled.{AreTables, IsLive, IsThere}

-- an end that is there
pub record IsEnding (t : Tables) (n : ℕ) (l : Layer) (k : ℕ) : Type 0 where
  pub tables : AreTables t
  pub there : IsThere t (End n l k)
  pub below : k < 64

-- a condition says whether a wire is there, and whether an instance is live
abbrev pub Tells : Tables → Wire → Bool → Type 0
Tells t w b = IsThere t w ↔ (b ≡ true)

abbrev pub TellsLive : Tables → ℕ → Layer → Bool → Type 0
TellsLive t n l b = IsLive t n l ↔ (b ≡ true)

abbrev pub MeansIfIn : Tables → Option Formula → Bool → plain.Formula → Type 0
MeansIfIn t r b a = MeansIf (instances_in t.wires) (names_in t.wires) r b a

-- the end of a part where it is there
abbrev pub end_if : Bool → ℕ → Layer → ℕ → List plain.Formula
end_if b c l k = formula_if b (Value (End c l k))

-- a branch of a resumed parallel at n ends with at most k, and with k
abbrev pub held_upto : ℕ → ℕ → plain.Formula
held_upto c k = Conjunction (Selected c) (Upto c Resumed k)

abbrev pub held_end : ℕ → ℕ → plain.Formula
held_end c k = Conjunction (Selected c) (Value (End c Resumed k))

-- the ends of the parts of a sequence with the parts n and m, of a loop with the body n, and of a suspension at n, in
-- each layer; the conditions say which of them are there
abbrev pub sequence_ends : (b x y : Bool) (n m : ℕ) → Layer → ℕ → List plain.Formula
sequence_ends b x y n m Resumed k =
    end_if (b && not (k == 0)) n Resumed k ++ (end_if x m Resumed k ++ end_if y m (Started m) k)
sequence_ends b x y n m (Started r) k = end_if (b && not (k == 0)) n (Started r) k ++ end_if x m (Started r) k

abbrev pub loop_ends : (b x : Bool) (n : ℕ) → Layer → ℕ → List plain.Formula
loop_ends b x n Resumed k = end_if (b && not (k == 0)) n Resumed k ++ end_if (x && not (k == 0)) n (Started n) k
loop_ends b x n (Started r) k = end_if (b && not (k == 0)) n (Started r) k

abbrev pub suspension_ends : Bool → plain.Formula → (n c : ℕ) → Layer → ℕ → List plain.Formula
suspension_ends b f n c Resumed k = end_if b c Resumed k ++ formula_if (k == 1) (Conjunction (Value (Go n Resumed)) f)
suspension_ends b f n c (Started r) k = end_if b c (Started r) k

-- the end of a parallel at n with the branches c and d
abbrev pub parallel_formula : (a i b x : Bool) (n c d : ℕ) → Layer → ℕ → plain.Formula
parallel_formula a i b x n c d Resumed k =
    Conjunction (any_of (formula_if a (held_upto c k) ++ branch_over n c ∷ []))
    (Conjunction (any_of (formula_if i (held_upto d k) ++ branch_over n d ∷ []))
    (any_of (formula_if b (held_end c k) ++ (formula_if (k == 0) (branch_over n c)
    ++ (formula_if x (held_end d k) ++ formula_if (k == 0) (branch_over n d))))))
parallel_formula a i b x n c d (Started r) k =
    Conjunction (Upto c (Started r) k) (Conjunction (Upto d (Started r) k)
    (any_of (end_if b c (Started r) k ++ end_if x d (Started r) k)))

-- what is live and there at a parallel at n with the branches c and d
abbrev pub IsParallel : Tables → (n c d : ℕ) → Layer → Type 0
IsParallel t n c d Resumed = IsThere t (Go n Resumed)
IsParallel t n c d (Started r) = IsLive t c (Started r) × IsLive t d (Started r)
