-- The row of a sequence.
use Rattle.std.proofs.Common.{◌≡◌, ℕ, Bool, true, false, ◌||◌, sym, ◌∙◌}
use Rattle.base_types.specs.Codes.{either, except, maxima}
use Rattle.est_kernel.specs.StaticCodes.{codes_if, has_code, branch_codes}

-- the codes of a resumed sequence, from those of its parts
pub resumed_sequence : (S D T E W H N U R : ℕ → Bool) (ends : Bool)
    → W ≡ except 0 D
    → ends ≡ (S 0 || D 0)
    → H ≡ codes_if (D 0) T
    → N ≡ codes_if ends E
    → U ≡ either H N
    → R ≡ either W U
    → R ≡ either (except 0 D) (either (codes_if (D 0) T) (codes_if (S 0 || D 0) E))
resumed_sequence S D T E W H N U R ends w b h n u r =
    r ∙ λ i. either (w i) ((u ∙ λ j. either (h j) ((n ∙ λ k. codes_if (b k) E) j)) i)

-- the codes of a resumed parallel, from whether its branches have some and from their maxima
pub resumed_parallel : (A B M R : ℕ → Bool) (goes : Bool) (a b : Bool)
    → goes ≡ (a || b)
    → M ≡ maxima A B
    → R ≡ codes_if goes M
    → R ≡ codes_if (a || b) (maxima A B)
resumed_parallel A B M R goes a b g m r = r ∙ λ i. codes_if (g i) (m i)

-- a test that is `or`: by its first side, or by its second
pub test_first : (g a b : Bool) → g ≡ true → a ≡ true → g ≡ (a || b)
test_first g a b e h = e ∙ λ i. sym h i || b

pub test_second : (g a b : Bool) → g ≡ b → a ≡ false → g ≡ (a || b)
test_second g a b e h = e ∙ λ i. sym h i || b

-- a resumed parallel, with the sets of its branches replaced by equal ones
pub resumed_row : (S D T E S' D' T' E' : ℕ → Bool) → S ≡ S' → D ≡ D' → T ≡ T' → E ≡ E'
    → codes_if (has_code D || has_code E) (maxima (branch_codes S D) (branch_codes T E))
    ≡ codes_if (has_code D' || has_code E') (maxima (branch_codes S' D') (branch_codes T' E'))
resumed_row S D T E S' D' T' E' s d t e =
    λ i. codes_if (has_code (d i) || has_code (e i)) (maxima (branch_codes (s i) (d i)) (branch_codes (t i) (e i)))
