-- Inner: the texts of expressions with one operator at most: their tokens, and that the grammar has them.
use Rattle.std.proofs.Common.{◌≡◌, ℕ, ◌≤◌, suc, Bool, false, List, [], ◌∷◌, ◌++◌, refl, sym, ap, ◌∙◌}
use Rattle.std.proofs.Common.{subst, arith, append_assoc, All, map, Some}
use Rattle.std.specs.Prelude.{flat_map, codes}
use Rattle.std.proofs.lemmas.List.{append-nil}
use Rattle.base_types.specs.Names.{is_name_byte}
use Rattle.base_reader.specs.Languages.{One, Many}
use Rattle.net_expressions.specs.Lexemes.{Front}
use Rattle.net_expressions.specs.Signs.{Sign, NameSign, BitSign, NotSign, AndSign, OrSign, sign_number, numbered_as, signed, name_in, bit_in, named, constant}
use Rattle.net_expressions.specs.Trees.{Expr, Name, Const, Not, And, Or, Exprs, NoExprs, MoreExprs}
use Rattle.net_expressions.specs.Grammar as grammar
use Rattle.net_expressions.specs.Grammar.{Written, Word, Bit, Writtens, NoneWritten, MoreWritten, meant, all_meant, written_nesting}
use Rattle.net_expressions.specs.Grammar.{Tier, Disjunction, Conjunction, Negation, SpellsExpr, SpellsExprs}
use Rattle.net_expressions.specs.Texts.{text_of}
use Rattle.net_expressions.proofs.Saying.{Says, says-then, says-name, IsVariable, FrontsNames}

-- ---- what is written

abbrev mutual
  pub plain_written : Expr → Written
  plain_written (Name n) = Word n
  plain_written (Const value) = Bit value
  plain_written (Not e) = grammar.Not (plain_written e)
  plain_written (And parts) = grammar.And (all_written parts)
  plain_written (Or parts) = grammar.Or (all_written parts)

  all_written : Exprs → Writtens
  all_written NoExprs = NoneWritten
  all_written (MoreExprs e others) = MoreWritten (plain_written e) (all_written others)

mutual
  pub meant-plain : (e : Expr) → meant (plain_written e) ≡ e
  meant-plain (Name n) = refl
  meant-plain (Const value) = refl
  meant-plain (Not e) = ap Not (meant-plain e)
  meant-plain (And parts) = ap And (meant-all parts)
  meant-plain (Or parts) = ap Or (meant-all parts)

  meant-all : (parts : Exprs) → all_meant (all_written parts) ≡ parts
  meant-all NoExprs = refl
  meant-all (MoreExprs e others) = ap (λ x. MoreExprs x (all_meant (all_written others))) (meant-plain e) ∙ ap (MoreExprs e) (meant-all others)

-- a name, a constant, or one operator on names
abbrev pub IsPlain : (List ℕ → Type 0) → Expr → Type 0
IsPlain P (Name n) = P n
IsPlain P (Const value) = Unit {0}
IsPlain P (Not (Name n)) = P n
IsPlain P (And (MoreExprs (Name m) (MoreExprs (Name n) NoExprs))) = P m × P n
IsPlain P (Or (MoreExprs (Name m) (MoreExprs (Name n) NoExprs))) = P m × P n
IsPlain P others = ⊥

pub nesting-plain : (P : List ℕ → Type 0) (e : Expr) → IsPlain P e → written_nesting (plain_written e) ≤ 1
nesting-plain P (Name n) plain = omega arith
nesting-plain P (Const value) plain = omega arith
nesting-plain P (Not (Name n)) plain = omega arith
nesting-plain P (And (MoreExprs (Name m) (MoreExprs (Name n) NoExprs))) plain = omega arith
nesting-plain P (Or (MoreExprs (Name m) (MoreExprs (Name n) NoExprs))) plain = omega arith
nesting-plain P others plain = absurd plain

-- ---- its tokens

-- the tokens with which a language writes expressions, and what of its texts has them
pub record Writes {K : Type 0} (sign : K → Sign) (bad : K) (front : ℕ → List ℕ → Front K) (word : List ℕ → K) (negation : List ℕ)
    (bit_text : Bool → List ℕ) : Type 0 where
  pub name_kind : List ℕ → K
  pub bit_kind : Bool → K
  pub not_kind : K
  pub and_kind : K
  pub or_kind : K
  pub name_is : (n : List ℕ) → sign (name_kind n) ≡ NameSign n
  pub bit_is : (value : Bool) → sign (bit_kind value) ≡ BitSign value
  pub not_is : sign not_kind ≡ NotSign
  pub and_is : sign and_kind ≡ AndSign
  pub or_is : sign or_kind ≡ OrSign
  pub fronts : FrontsNames front word
  pub says_bit : (value : Bool) → Says bad front (bit_text value) (bit_kind value ∷ [])
  pub says_not : Says bad front negation (not_kind ∷ [])
  pub says_and : Says bad front (codes " & ") (and_kind ∷ [])
  pub says_or : Says bad front (codes " | ") (or_kind ∷ [])

pair-text : (m n mark : List ℕ) (d : ℕ) (ds : List ℕ) → (m ++ (mark ++ (n ++ []))) ++ d ∷ ds ≡ m ++ (mark ++ (n ++ d ∷ ds))
pair-text m n mark d ds = ap (λ x. (m ++ (mark ++ x)) ++ d ∷ ds) (append-nil n) ∙ append_assoc m (mark ++ n) (d ∷ ds)
    ∙ ap (λ x. m ++ x) (append_assoc mark n (d ∷ ds))

module _ {K : Type 0} (sign : K → Sign) (bad : K) (front : ℕ → List ℕ → Front K) (word : List ℕ → K) (negation : List ℕ)
    (bit_text : Bool → List ℕ) (w : Writes sign bad front word negation bit_text) where
  abbrev mutual
    pub expr_kinds : Expr → List K
    expr_kinds (Name n) = w.name_kind n ∷ []
    expr_kinds (Const value) = w.bit_kind value ∷ []
    expr_kinds (Not e) = w.not_kind ∷ expr_kinds e
    expr_kinds (And parts) = parts_kinds w.and_kind parts
    expr_kinds (Or parts) = parts_kinds w.or_kind parts

    pub parts_kinds : K → Exprs → List K
    parts_kinds mark NoExprs = []
    parts_kinds mark (MoreExprs e others) = expr_kinds e ++ others_kinds mark others

    pub others_kinds : K → Exprs → List K
    others_kinds mark NoExprs = []
    others_kinds mark (MoreExprs e others) = mark ∷ (expr_kinds e ++ others_kinds mark others)

  abbrev Plain : Expr → Type 0
  Plain = IsPlain (IsVariable word w.name_kind)

  named-says : (n : List ℕ) (d : ℕ) (ds : List ℕ) (ks : List K) → IsVariable word w.name_kind n → is_name_byte d ≡ false
      → Says bad front (d ∷ ds) ks → Says bad front (n ++ d ∷ ds) (w.name_kind n ∷ ks)
  named-says n d ds ks is stops says = says-name bad front word w.name_kind w.fronts n d ds ks is stops says

  -- an expression in front of a byte that no name has
  pub says-expr : (e : Expr) (d : ℕ) (ds : List ℕ) (ks : List K) → IsPlain (IsVariable word w.name_kind) e → is_name_byte d ≡ false
      → Says bad front (d ∷ ds) ks → Says bad front (text_of negation bit_text e ++ d ∷ ds) (expr_kinds e ++ ks)
  says-expr (Name n) d ds ks plain stops says = named-says n d ds ks plain stops says
  says-expr (Const value) d ds ks plain stops says = says-then (bit_text value) (d ∷ ds) (w.bit_kind value ∷ []) ks (w.says_bit value) says
  says-expr (Not (Name n)) d ds ks plain stops says =
      subst (λ t. Says bad front t (w.not_kind ∷ w.name_kind n ∷ ks)) (sym (append_assoc negation n (d ∷ ds)))
      (says-then negation (n ++ d ∷ ds) (w.not_kind ∷ []) (w.name_kind n ∷ ks) w.says_not (named-says n d ds ks plain stops says))
  says-expr (And (MoreExprs (Name m) (MoreExprs (Name n) NoExprs))) d ds ks plain stops says =
      subst (λ t. Says bad front t (w.name_kind m ∷ w.and_kind ∷ w.name_kind n ∷ ks)) (sym (pair-text m n (codes " & ") d ds))
      (named-says m 32 (38 ∷ 32 ∷ (n ++ d ∷ ds)) (w.and_kind ∷ w.name_kind n ∷ ks) plain.0 refl
      (says-then (codes " & ") (n ++ d ∷ ds) (w.and_kind ∷ []) (w.name_kind n ∷ ks) w.says_and (named-says n d ds ks plain.1 stops says)))
  says-expr (Or (MoreExprs (Name m) (MoreExprs (Name n) NoExprs))) d ds ks plain stops says =
      subst (λ t. Says bad front t (w.name_kind m ∷ w.or_kind ∷ w.name_kind n ∷ ks)) (sym (pair-text m n (codes " | ") d ds))
      (named-says m 32 (124 ∷ 32 ∷ (n ++ d ∷ ds)) (w.or_kind ∷ w.name_kind n ∷ ks) plain.0 refl
      (says-then (codes " | ") (n ++ d ∷ ds) (w.or_kind ∷ []) (w.name_kind n ∷ ks) w.says_or (named-says n d ds ks plain.1 stops says)))
  says-expr others d ds ks plain stops says = absurd plain

  pub one-name : (n : List ℕ) → One (named sign) n (w.name_kind n ∷ [])
  one-name n = record { token = w.name_kind n; only = refl; passes = ap name_in (w.name_is n) }

  pub one-bit : (value : Bool) → One (constant sign) value (w.bit_kind value ∷ [])
  one-bit value = record { token = w.bit_kind value; only = refl; passes = ap bit_in (w.bit_is value) }

  spells-pair : (s : Sign) (tier : Tier) (mark : K) (m n : List ℕ) → signed sign s mark ≡ Some tt → SpellsExpr sign tier (Word m) (w.name_kind m ∷ [])
      → SpellsExpr sign tier (Word n) (w.name_kind n ∷ [])
      → SpellsExprs sign s tier (MoreWritten (Word m) (MoreWritten (Word n) NoneWritten)) (w.name_kind m ∷ mark ∷ w.name_kind n ∷ [])
  spells-pair s tier mark m n is first second = record {
    front = w.name_kind m ∷ [];
    back = mark ∷ w.name_kind n ∷ [];
    cut = refl;
    first = first;
    second = record {
      front = mark ∷ w.name_kind n ∷ [];
      back = [];
      cut = refl;
      first = record { token = mark; value = tt; rest = w.name_kind n ∷ []; cut = refl; passes = is; behind = second };
      second = refl;
    };
  }

  pub spells-plain : (e : Expr) → IsPlain (IsVariable word w.name_kind) e → SpellsExpr sign Disjunction (plain_written e) (expr_kinds e)
  spells-plain (Name n) plain = one-name n
  spells-plain (Const value) plain = one-bit value
  spells-plain (Not (Name n)) plain = record {
    token = w.not_kind;
    value = tt;
    rest = w.name_kind n ∷ [];
    cut = refl;
    passes = ap (numbered_as sign_number 2) w.not_is;
    behind = one-name n;
  }
  spells-plain (And (MoreExprs (Name m) (MoreExprs (Name n) NoExprs))) plain =
      spells-pair AndSign Negation w.and_kind m n (ap (numbered_as sign_number 5) w.and_is) (one-name m) (one-name n)
  spells-plain (Or (MoreExprs (Name m) (MoreExprs (Name n) NoExprs))) plain =
      spells-pair OrSign Conjunction w.or_kind m n (ap (numbered_as sign_number 6) w.or_is) (one-name m) (one-name n)
  spells-plain others plain = absurd plain

-- ---- lists

-- a step for each element
pub spells-many : {K X Y : Type 0} (L : Y → List K → Type 0) (f : X → Y) (ks : X → List K) (xs : List X) → All (λ x. L (f x) (ks x)) xs
    → Many L (map f xs) (flat_map ks xs)
spells-many L f ks [] all = refl
spells-many L f ks (x ∷ xs) all = record {
  front = ks x;
  back = flat_map ks xs;
  cut = refl;
  first = all 0 x (omega arith);
  second = spells-many L f ks xs (λ k d h. all (suc k) d (omega arith));
}
