-- Inner: judgements on expressions, for tokens of any kind whose signs are told, where each sign has a token.
use Rattle.std.proofs.Common.{◌≡◌, ℕ, List, [], ◌∷◌, Some, is_some, refl, ap}
use Rattle.net_expressions.specs.Signs.{Sign, NameSign, BitSign, NotSign, OpenSign, CloseSign, AndSign, OrSign, sign_number, numbered_as, signed}
use Rattle.net_expressions.specs.Signs.{name_in, bit_in, named, constant}
use Rattle.net_expressions.specs.Grammar.{Written, Word, Bit, Not, Round, And, Or, Writtens, NoneWritten, MoreWritten}
use Rattle.net_expressions.specs.Grammar.{written_nesting, all_nesting, Tier, Disjunction, Conjunction, Negation}
use Rattle.net_expressions.specs.Grammar.{SpellsExpr, SpellsExprs, SpellsNextExprs, SpellsOtherExprs}
use Rattle.net_expressions.specs.Reading.{writtens, makes_written, Leaf, NameLeaf, BitLeaf, leaf_of, opening_of, tiers_of}
use Rattle.net_expressions.proofs.Tests.{number-test}
use Rattle.base_expressions.specs.Reading.{Negates, Opens, IsLeaf, Tiers}
use Rattle.base_expressions.proofs.Exports.{Behind, IsGrammar, Kinds, KnownExprs, TellsOpenings, part-to, negation-from, bracket-from, leaf-from, IsRow, AtTier}
use Rattle.base_expressions.proofs.Exports.{IsBelow, IsNode, tier-of}
use Rattle.base_expressions.proofs.Judgements as tiers
use Rattle.base_reader.specs.Languages.{Led}
use Rattle.base_reader.proofs.Exports.{has, Test, test-of}

-- ---- what begins a part

not-passes : (s : Sign) → opening_of s ≡ Some Negates → numbered_as sign_number 2 s ≡ Some tt
not-passes NotSign takes = refl
not-passes _ takes = cc

round-passes : (s : Sign) → opening_of s ≡ Some (Opens tt) → numbered_as sign_number 3 s ≡ Some tt
round-passes OpenSign takes = refl
round-passes _ takes = cc

name-passes : (n : List ℕ) (s : Sign) → opening_of s ≡ Some (IsLeaf (NameLeaf n)) → name_in s ≡ Some n
name-passes n (NameSign m) takes = let same : m ≡ n = cc in ap Some same
name-passes n _ takes = cc

bit-passes : (b : _) (s : Sign) → opening_of s ≡ Some (IsLeaf (BitLeaf b)) → bit_in s ≡ Some b
bit-passes b (BitSign c) takes = let same : c ≡ b = cc in ap Some same
bit-passes b _ takes = cc

not-takes : (s : Sign) → numbered_as sign_number 2 s ≡ Some tt → opening_of s ≡ Some Negates
not-takes NotSign passes = refl
not-takes _ passes = cc

round-takes : (s : Sign) → numbered_as sign_number 3 s ≡ Some tt → opening_of s ≡ Some (Opens tt)
round-takes OpenSign passes = refl
round-takes _ passes = cc

name-takes : (n : List ℕ) (s : Sign) → name_in s ≡ Some n → opening_of s ≡ Some (IsLeaf (NameLeaf n))
name-takes n (NameSign m) passes = let same : m ≡ n = cc in ap (λ k. Some (IsLeaf (NameLeaf k))) same
name-takes n _ passes = cc

bit-takes : (b : _) (s : Sign) → bit_in s ≡ Some b → opening_of s ≡ Some (IsLeaf (BitLeaf b))
bit-takes b (BitSign c) passes = let same : c ≡ b = cc in ap (λ k. Some (IsLeaf (BitLeaf k))) same
bit-takes b _ passes = cc

-- the signs that begin a part
abbrev pub factor_set : List ℕ
factor_set = 0 ∷ 1 ∷ 2 ∷ 3 ∷ []

opening-agrees : (s : Sign) → is_some (opening_of s) ≡ has factor_set (sign_number s)
opening-agrees NotSign = refl
opening-agrees _ = refl

-- ---- rows of parts

writtens-of : (others : Writtens) → (es : List Written) × (writtens es ≡ others)
writtens-of NoneWritten = ([], refl)
writtens-of (MoreWritten e others) = let es = writtens-of others in (e ∷ es.0, ap (MoreWritten e) es.1)

leaf-nesting : (leaf : Leaf) → written_nesting (leaf_of makes_written leaf) ≡ 0
leaf-nesting (NameLeaf n) = refl
leaf-nesting (BitLeaf b) = refl

-- the numbers of signs as classes of tokens
abbrev pub sign_class : {K : Type 0} → (K → Sign) → K → ℕ
sign_class sign token = sign_number (sign token)

-- ---- the grammar by tiers

module _ {K : Type 0} (sign : K → Sign) (spelled : (s : Sign) → (token : K) × (sign token ≡ s)) where
  abbrev written_tiers : Tiers K (Unit {0}) Leaf Written
  written_tiers = tiers_of sign makes_written

  begins : TellsOpenings written_tiers (signed sign NotSign) (λ _. signed sign OpenSign)
  begins = record {
    negates_hit = λ token. not-passes (sign token);
    negates_sure = λ token. not-takes (sign token);
    opens_hit = λ b token. round-passes (sign token);
    opens_sure = λ b token. round-takes (sign token);
  }

  leaf-to : (leaf : Leaf) (token : K) → opening_of (sign token) ≡ Some (IsLeaf leaf) → SpellsExpr sign Negation (leaf_of makes_written leaf) (token ∷ [])
  leaf-to (NameLeaf n) token is = record { token = token; only = refl; passes = name-passes n (sign token) is }
  leaf-to (BitLeaf b) token is = record { token = token; only = refl; passes = bit-passes b (sign token) is }

  abbrev N : Written → List K → Type 0
  N = SpellsExpr sign Negation

  abbrev D : Written → List K → Type 0
  D = SpellsExpr sign Disjunction

  part-from : (v : Written) (tokens : List K) → N v tokens → Led written_tiers.opening (λ o. Behind written_tiers N D o v) tokens
  part-from (Word n) tokens one = leaf-from N D begins (named sign) n (NameLeaf n) (λ token. name-takes n (sign token)) tokens one
  part-from (Bit b) tokens one = leaf-from N D begins (constant sign) b (BitLeaf b) (λ token. bit-takes b (sign token)) tokens one
  part-from (Not e) tokens led = negation-from N D begins e tokens led
  part-from (Round e) tokens led = bracket-from N D begins tt e tokens led
  part-from (And parts) tokens member = absurd member
  part-from (Or parts) tokens member = absurd member

  row : (w : Sign) (tier : Tier) → IsRow (signed sign w) (SpellsExpr sign tier) written_nesting writtens all_nesting
      (SpellsExprs sign w tier) (SpellsNextExprs sign w tier) (SpellsOtherExprs sign w tier)
  row w tier = record { listed = writtens-of; none = (refl, refl, refl, refl); more = λ e es. (refl, refl, refl, refl) }

  conjunction : (e : Written) → AtTier N (SpellsExpr sign Conjunction) And e
  conjunction (And parts) = IsNode parts refl refl
  conjunction (Word n) = IsBelow refl
  conjunction _ = IsBelow refl

  disjunction : (e : Written) → AtTier (SpellsExpr sign Conjunction) D Or e
  disjunction (Or parts) = IsNode parts refl refl
  disjunction (Word n) = IsBelow refl
  disjunction _ = IsBelow refl

  grammar : IsGrammar written_tiers N (SpellsExpr sign Conjunction) D (sign_class sign) factor_set written_nesting
  grammar = record {
    parts = record {
      test = test-of factor_set (λ token. opening-agrees (sign token)) (spelled NotSign).0 Negates (ap opening_of (spelled NotSign).1);
      token = (spelled (NameSign [])).0;
      leaf = NameLeaf [];
      takes = ap opening_of (spelled (NameSign [])).1;
      to = part-to N D begins (λ e tokens led. led) (λ b e tokens led. led) leaf-to;
      from = part-from;
    };
    conjunctions = tier-of (row AndSign Negation) And (SpellsExpr sign Conjunction) (λ r. refl) (λ r. refl) conjunction;
    disjunctions = tier-of (row OrSign Conjunction) Or D (λ r. refl) (λ r. refl) disjunction;
    leaf_depth = leaf-nesting;
    negation_depth = λ e. refl;
    bracket_depth = λ b e. refl;
  }

  sign-test : (s : Sign) → Test (sign_class sign) (signed sign s) (sign_number s ∷ [])
  sign-test s = number-test (sign_class sign) (sign_number s) (spelled s).0 (ap sign_number (spelled s).1)

  kinds : Kinds written_tiers (sign_class sign) factor_set 5 6 (λ _. 4)
  kinds = record {
    and_test = sign-test AndSign;
    or_test = sign-test OrSign;
    closing_test = λ b. sign-test CloseSign;
    starts_in = refl;
    and_in = refl;
    or_in = refl;
    or_apart = refl;
    closing_apart = λ b. refl;
  }

  pub exprs_known : (room : ℕ) → KnownExprs written_tiers N D written_nesting (sign_class sign) factor_set 5 6 (Some room)
  exprs_known = tiers.exprs_known kinds grammar
