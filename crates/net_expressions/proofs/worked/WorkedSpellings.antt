-- Worked spellings, by hand, over signs themselves: what is written by each production of the grammar, and what none writes.
use Rattle.std.proofs.Common.{◌≡◌, ℕ, true, false, List, [], ◌∷◌, codes, refl}
use Rattle.net_expressions.specs.Trees as trees
use Rattle.net_expressions.specs.Signs.{Sign, NameSign, BitSign, NotSign, OpenSign, CloseSign, AndSign, OrSign}
use Rattle.net_expressions.specs.Grammar.{Written, Word, Bit, Not, Round, And, Or, Writtens, NoneWritten, MoreWritten, meant, written_nesting, Tier}
use Rattle.net_expressions.specs.Grammar.{Disjunction}
use Rattle.net_expressions.specs.Grammar.{Conjunction, Negation, SpellsExpr}

abbrev itself : Sign → Sign
itself = λ s. s

abbrev a : Written
a = Word (codes "a")

abbrev and_a : List Sign
and_a = AndSign ∷ NameSign (codes "a") ∷ []

abbrev or_not : List Sign
or_not = OrSign ∷ NotSign ∷ BitSign true ∷ []

abbrev two : Written → Written → Writtens
two d e = MoreWritten d (MoreWritten e NoneWritten)

a_name : (tier : Tier) → SpellsExpr itself tier a (NameSign (codes "a") ∷ [])
a_name tier = record { token = NameSign (codes "a"); only = refl; passes = refl }

a_bit : (tier : Tier) → SpellsExpr itself tier (Bit true) (BitSign true ∷ [])
a_bit tier = record { token = BitSign true; only = refl; passes = refl }

-- ~1
a_negation : (tier : Tier) → SpellsExpr itself tier (Not (Bit true)) (NotSign ∷ BitSign true ∷ [])
a_negation tier = record { token = NotSign; value = tt; rest = BitSign true ∷ []; cut = refl; passes = refl; behind = a_bit Negation }

-- a & a & a, as a conj and as an expr
three_parts : SpellsExpr itself Conjunction (And (MoreWritten a (MoreWritten a (MoreWritten a NoneWritten))))
    (NameSign (codes "a") ∷ AndSign ∷ NameSign (codes "a") ∷ AndSign ∷ NameSign (codes "a") ∷ [])
three_parts = record {
  front = NameSign (codes "a") ∷ [];
  back = AndSign ∷ NameSign (codes "a") ∷ and_a;
  cut = refl;
  first = a_name Negation;
  second = record {
    front = and_a;
    back = and_a;
    cut = refl;
    first = record { token = AndSign; value = tt; rest = NameSign (codes "a") ∷ []; cut = refl; passes = refl; behind = a_name Negation };
    second = record {
      front = and_a;
      back = [];
      cut = refl;
      first = record { token = AndSign; value = tt; rest = NameSign (codes "a") ∷ []; cut = refl; passes = refl; behind = a_name Negation };
      second = refl;
    };
  };
}

two_parts : (tokens : List Sign) → tokens ≡ NameSign (codes "a") ∷ and_a → SpellsExpr itself Disjunction (And (two a a)) tokens
two_parts tokens e = record {
  front = NameSign (codes "a") ∷ [];
  back = and_a;
  cut = e;
  first = a_name Negation;
  second = record {
    front = and_a;
    back = [];
    cut = refl;
    first = record { token = AndSign; value = tt; rest = NameSign (codes "a") ∷ []; cut = refl; passes = refl; behind = a_name Negation };
    second = refl;
  };
}

-- (a & a) | ~1
brackets : SpellsExpr itself Disjunction (Or (two (Round (And (two a a))) (Not (Bit true)))) (OpenSign ∷ NameSign (codes "a") ∷ AndSign ∷ NameSign (codes "a")
    ∷ CloseSign ∷ OrSign ∷ NotSign ∷ BitSign true ∷ [])
brackets = record {
  front = OpenSign ∷ NameSign (codes "a") ∷ AndSign ∷ NameSign (codes "a") ∷ CloseSign ∷ [];
  back = or_not;
  cut = refl;
  first = record {
    token = OpenSign;
    value = tt;
    rest = NameSign (codes "a") ∷ AndSign ∷ NameSign (codes "a") ∷ CloseSign ∷ [];
    cut = refl;
    passes = refl;
    behind = record {
      front = NameSign (codes "a") ∷ and_a;
      back = CloseSign ∷ [];
      cut = refl;
      first = two_parts _ refl;
      second = record { token = CloseSign; only = refl; passes = refl };
    };
  };
  second = record {
    front = or_not;
    back = [];
    cut = refl;
    first = record { token = OrSign; value = tt; rest = NotSign ∷ BitSign true ∷ []; cut = refl; passes = refl; behind = a_negation Conjunction };
    second = refl;
  };
}

-- ---- what none spells

no_or_in_a_conj : (parts : Writtens) (tokens : List Sign) → SpellsExpr itself Conjunction (Or parts) tokens → ⊥
no_or_in_a_conj parts tokens h = h

no_or_in_a_neg : (parts : Writtens) (tokens : List Sign) → SpellsExpr itself Negation (Or parts) tokens → ⊥
no_or_in_a_neg parts tokens h = h

no_and_in_a_neg : (parts : Writtens) (tokens : List Sign) → SpellsExpr itself Negation (And parts) tokens → ⊥
no_and_in_a_neg parts tokens h = h

no_and_of_none : (tokens : List Sign) → SpellsExpr itself Disjunction (And NoneWritten) tokens → ⊥
no_and_of_none tokens h = h

no_and_of_one : (e : Written) (tokens : List Sign) → SpellsExpr itself Disjunction (And (MoreWritten e NoneWritten)) tokens → ⊥
no_and_of_one e tokens h = h.second

-- ---- what it means

meaning : meant (Or (two (Round (And (two a a))) (Not (Bit true))))
    ≡ trees.Or (trees.MoreExprs (trees.And (trees.MoreExprs (trees.Name (codes "a")) (trees.MoreExprs (trees.Name (codes "a")) trees.NoExprs)))
    (trees.MoreExprs (trees.Not (trees.Const true)) trees.NoExprs))
meaning = refl

nesting : written_nesting a ∷ written_nesting (Bit false) ∷ written_nesting (Not (Round (Not a))) ∷ written_nesting (And (two (Not a) (Not (Not a))))
    ∷ written_nesting (Or (two (Round (Round a)) (Not a))) ∷ [] ≡ 0 ∷ 0 ∷ 3 ∷ 2 ∷ 2 ∷ []
nesting = refl
