-- How many gates join parts.
use Rattle.std.proofs.Common.{◌≡◌, ℕ, zero, suc, ◌+◌, ◌<◌, List, length, Option, Some, None, if◌then◌else◌, ap, subst, arith}
use Rattle.std.proofs.lemmas.Bool.{eq-eqb}
use Rattle.base_types.specs.declared.indices.NetId.{NetId}
use Rattle.blif_text.specs.declared.circuit.Cell.{Cell}
use Rattle.blif_net.specs.Drawings.{Joins}
use Rattle.blif_net.specs.Sizes.{joining, if_wide}

pub joining-one : (n : ℕ) → 0 < n → joining n + 1 ≡ n
joining-one zero low = absurd (omega (arith, low))
joining-one (suc n) low = omega arith

-- one more part
pub joins-first : (before after parts : ℕ) (net : NetId) → Joins before after None parts → Joins before after (Some net) (parts + 1)
joins-first before after parts net j = (omega arith, omega (arith, j.0, j.1))

pub joins-one : (before after more parts : ℕ) (old net : NetId) → more ≡ after + 1 → Joins before after (Some old) parts
    → Joins before more (Some net) (parts + 1)
joins-one before after more parts old net is j = (omega arith, omega (arith, is, j.1))

-- gates that join nothing
pub joins-more : (before after k parts : ℕ) (net : Option NetId) → Joins before after net parts → Joins (before + k) (after + k) net parts
joins-more before after k parts None j = (j.0, ap (λ n. n + k) j.1)
joins-more before after k parts (Some n) j = (j.0, omega (arith, j.1))

pub joins-as : (before after parts before_is after_is parts_is : ℕ) (net : Option NetId) → before ≡ before_is → after ≡ after_is → parts ≡ parts_is
    → Joins before after net parts → Joins before_is after_is net parts_is
joins-as before after parts before_is after_is parts_is net a b c j =
    subst (λ n. Joins n after_is net parts_is) a (subst (λ n. Joins before n net parts_is) b (subst (λ n. Joins before after net n) c j))

-- a negation, and its net joined
pub joins-negated : (before after parts : ℕ) (net : NetId) → Joins (before + 1) after (Some net) (parts + 1) → Joins before after (Some net) (parts + 2)
joins-negated before after parts net j = (omega arith, omega (arith, j.1))

-- all parts are joined
pub joined-count : (before after parts : ℕ) (net : NetId) → Joins before after (Some net) parts → after ≡ before + joining parts
joined-count before after parts net j = omega (arith, j.1, joining-one parts j.0)

pub none-count : (before after parts : ℕ) → Joins before after None parts → after + 1 ≡ before + joining parts
none-count before after parts j = omega (arith, j.1, ap joining j.0)

-- a row of its table's width counts
pub wide-all : (width n : ℕ) (cells : List Cell) → length cells ≡ width → if_wide width cells n ≡ n
wide-all width n cells same = ap (λ b. if b then n else 0) (eq-eqb (length cells) width same)
