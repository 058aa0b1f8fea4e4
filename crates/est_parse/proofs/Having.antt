-- Inner: languages that have a value to tokens of given kinds, wherever these stand.
use Rattle.std.proofs.Common.{◌≡◌, inl, List, [], ◌∷◌, ◌++◌, map, Option, Some, refl, sym, ◌∙◌, ap, ap₂, subst}
use Rattle.std.specs.List.{All, flat_map}
use Rattle.std.proofs.lemmas.List.Elements.{All-head, All-tail}
use Rattle.est_ast.specs.declared.tokens.Token.{Token}
use Rattle.est_ast.specs.declared.tokens.Kind.{Kind}
use Rattle.est_ast.specs.declared.tokens.Kind.TheVariants as kinds
use Rattle.est_ast.specs.declared.tokens.Reserved.{Reserved}
use Rattle.est_ast.specs.declared.tokens.Reserved.TheVariants as words
use Rattle.est_ast.specs.declared.tokens.Mark.{Mark}
use Rattle.est_ast.specs.Grammar.{is_word, word, is_mark, mark, Listed, Ends}
use Rattle.base_reader.specs.Languages.{Empty, One, Then, Led, Both, Parted, Many}
use Rattle.base_reader.specs.Languages.{Loop as Steps}
use Rattle.est_parse.specs.Laws.{kinds_of}
use Rattle.est_parse.specs.OneSpelling.{listed}
use Rattle.est_parse.specs.Spellable.{IsListed}
use Rattle.est_parse.proofs.TokenKinds.{word-self, mark-self}

-- to tokens of these kinds the language gives a value with this property
pub record Has {A : Type 0} (P : A → Type 0) (L : A → List Token → Type 0) (spelling : List Kind) : Type 0 where
  pub gives : (tokens : List Token) → kinds_of tokens ≡ spelling → (v : A) × P v × L v tokens

-- the language has the tokens of these kinds
pub record HasAll (L : List Token → Type 0) (spelling : List Kind) : Type 0 where
  pub takes : (tokens : List Token) → kinds_of tokens ≡ spelling → L tokens

-- Tokens by their kinds.

record Cut (front_kinds back_kinds : List Kind) (tokens : List Token) : Type 0 where
  front : List Token
  back : List Token
  cut : tokens ≡ front ++ back
  first : kinds_of front ≡ front_kinds
  second : kinds_of back ≡ back_kinds

cut-of : (front_kinds back_kinds : List Kind) (tokens : List Token) → kinds_of tokens ≡ front_kinds ++ back_kinds → Cut front_kinds back_kinds tokens
cut-of [] back_kinds tokens is = record { front = []; back = tokens; cut = refl; first = refl; second = is }
cut-of (kind ∷ front_kinds) back_kinds [] is = cc
cut-of (kind ∷ front_kinds) back_kinds (token ∷ tokens) is =
    let whole : token.kind ∷ kinds_of tokens ≡ kind ∷ (front_kinds ++ back_kinds) = is in
    let head : token.kind ≡ kind = cc in
    let tail : kinds_of tokens ≡ front_kinds ++ back_kinds = cc in
    let behind = cut-of front_kinds back_kinds tokens tail in
    record {
      front = token ∷ behind.front;
      back = behind.back;
      cut = ap (λ ts. token ∷ ts) behind.cut;
      first = ap₂ (λ k ks. k ∷ ks) head behind.first;
      second = behind.second;
    }

record Begun (kind : Kind) (others : List Kind) (tokens : List Token) : Type 0 where
  token : Token
  rest : List Token
  cut : tokens ≡ token ∷ rest
  head : token.kind ≡ kind
  behind : kinds_of rest ≡ others

begun-of : (kind : Kind) (others : List Kind) (tokens : List Token) → kinds_of tokens ≡ kind ∷ others → Begun kind others tokens
begun-of kind others [] is = cc
begun-of kind others (token ∷ rest) is =
    let whole : token.kind ∷ kinds_of rest ≡ kind ∷ others = is in
    let head : token.kind ≡ kind = cc in
    let tail : kinds_of rest ≡ others = cc in
    record { token = token; rest = rest; cut = refl; head = head; behind = tail }

none-of : (tokens : List Token) → kinds_of tokens ≡ [] → tokens ≡ []
none-of [] is = refl
none-of (token ∷ rest) is = let whole : token.kind ∷ kinds_of rest ≡ [] = is in cc

taken-word : (w : Reserved) (token : Token) → token.kind ≡ kinds.Reserved w → word w token ≡ Some tt
taken-word w token is = ap (is_word w) is ∙ word-self w

taken-mark : (m : Mark) (token : Token) → token.kind ≡ kinds.Mark m → mark m token ≡ Some tt
taken-mark m token is = ap (is_mark m) is ∙ mark-self m

-- Languages put together, as Languages in base_reader has them.

-- one token, whose value depends on its place alone
pub one-has : {X : Type 0} {test : Token → Option X} {P : X → Type 0} {kind : Kind} →
    ((token : Token) → token.kind ≡ kind → (x : X) × P x × (test token ≡ Some x)) → Has P (One test) (kind ∷ [])
one-has {X} {test} {P} {kind} read = record { gives = go }
  where
    go : (tokens : List Token) → kinds_of tokens ≡ kind ∷ [] → (x : X) × P x × One test x tokens
    go tokens is =
        let b = begun-of kind [] tokens is in
        let x = read b.token b.head in
        (x.0, x.1, record { token = b.token; only = b.cut ∙ ap (λ ts. b.token ∷ ts) (none-of b.rest b.behind); passes = x.2 })

pub none-has : {A : Type 0} {P : A → Type 0} {L : A → List Token → Type 0} (v : A) → P v → L v [] → Has P L []
none-has {A} {P} {L} v holds member = record { gives = λ tokens is. (v, holds, subst (λ ts. L v ts) (sym (none-of tokens is)) member) }

pub both-has : {A B : Type 0} {P : A → Type 0} {Q : B → Type 0} {L : A → List Token → Type 0} {M : B → List Token → Type 0} {ks ls : List Kind} →
    Has P L ks → Has Q M ls → Has (λ (v : A × B). P v.0 × Q v.1) (Both L M) (ks ++ ls)
both-has {A} {B} {P} {Q} {L} {M} {ks} {ls} one other = record { gives = go }
  where
    go : (tokens : List Token) → kinds_of tokens ≡ ks ++ ls → (v : A × B) × (P v.0 × Q v.1) × Both L M v tokens
    go tokens is =
        let c = cut-of ks ls tokens is in
        let a = one.gives c.front c.first in
        let b = other.gives c.back c.second in
        ((a.0, b.0), (a.1, b.1), record { front = c.front; back = c.back; cut = c.cut; first = a.2; second = b.2 })

pub trail-has : {A : Type 0} {P : A → Type 0} {L : A → List Token → Type 0} {M : List Token → Type 0} {ks ls : List Kind} →
    Has P L ks → HasAll M ls → Has P (λ v. Then (L v) M) (ks ++ ls)
trail-has {A} {P} {L} {M} {ks} {ls} one other = record { gives = go }
  where
    go : (tokens : List Token) → kinds_of tokens ≡ ks ++ ls → (v : A) × P v × Then (L v) M tokens
    go tokens is =
        let c = cut-of ks ls tokens is in
        let a = one.gives c.front c.first in
        (a.0, a.1, record { front = c.front; back = c.back; cut = c.cut; first = a.2; second = other.takes c.back c.second })

-- behind a word or a mark
pub word-has : {A : Type 0} {P : A → Type 0} {L : A → List Token → Type 0} {ks : List Kind} → (w : Reserved) → Has P L ks →
    Has P (λ v. Led (word w) (λ _. L v)) (kinds.Reserved w ∷ ks)
word-has {A} {P} {L} {ks} w one = record { gives = go }
  where
    go : (tokens : List Token) → kinds_of tokens ≡ kinds.Reserved w ∷ ks → (v : A) × P v × Led (word w) (λ _. L v) tokens
    go tokens is =
        let b = begun-of (kinds.Reserved w) ks tokens is in
        let a = one.gives b.rest b.behind in
        (a.0, a.1, record { token = b.token; value = tt; rest = b.rest; cut = b.cut; passes = taken-word w b.token b.head; behind = a.2 })

pub mark-has : {A : Type 0} {P : A → Type 0} {L : A → List Token → Type 0} {ks : List Kind} → (m : Mark) → Has P L ks →
    Has P (λ v. Led (mark m) (λ _. L v)) (kinds.Mark m ∷ ks)
mark-has {A} {P} {L} {ks} m one = record { gives = go }
  where
    go : (tokens : List Token) → kinds_of tokens ≡ kinds.Mark m ∷ ks → (v : A) × P v × Led (mark m) (λ _. L v) tokens
    go tokens is =
        let b = begun-of (kinds.Mark m) ks tokens is in
        let a = one.gives b.rest b.behind in
        (a.0, a.1, record { token = b.token; value = tt; rest = b.rest; cut = b.cut; passes = taken-mark m b.token b.head; behind = a.2 })

-- words and marks alone
pub the-word : (w : Reserved) → HasAll (One (word w) tt) (kinds.Reserved w ∷ [])
the-word w = record { takes = go }
  where
    go : (tokens : List Token) → kinds_of tokens ≡ kinds.Reserved w ∷ [] → One (word w) tt tokens
    go tokens is =
        let b = begun-of (kinds.Reserved w) [] tokens is in
        record { token = b.token; only = b.cut ∙ ap (λ ts. b.token ∷ ts) (none-of b.rest b.behind); passes = taken-word w b.token b.head }

pub the-mark : (m : Mark) → HasAll (One (mark m) tt) (kinds.Mark m ∷ [])
the-mark m = record { takes = go }
  where
    go : (tokens : List Token) → kinds_of tokens ≡ kinds.Mark m ∷ [] → One (mark m) tt tokens
    go tokens is =
        let b = begun-of (kinds.Mark m) [] tokens is in
        record { token = b.token; only = b.cut ∙ ap (λ ts. b.token ∷ ts) (none-of b.rest b.behind); passes = taken-mark m b.token b.head }

pub word-then : {M : List Token → Type 0} {ks : List Kind} → (w : Reserved) → HasAll M ks → HasAll (Led (word w) (λ _. M)) (kinds.Reserved w ∷ ks)
word-then {M} {ks} w other = record { takes = go }
  where
    go : (tokens : List Token) → kinds_of tokens ≡ kinds.Reserved w ∷ ks → Led (word w) (λ _. M) tokens
    go tokens is =
        let b = begun-of (kinds.Reserved w) ks tokens is in
        record { token = b.token; value = tt; rest = b.rest; cut = b.cut; passes = taken-word w b.token b.head; behind = other.takes b.rest b.behind }

-- the word behind `end` is left out
pub ends-has : (w : Reserved) → HasAll (Ends w) (kinds.Reserved words.End ∷ [])
ends-has w = word-then words.End (record { takes = λ tokens is. inl (none-of tokens is) })

-- a value that is made of another, and spelled as that one is
pub made-has : {A B : Type 0} {P : A → Type 0} {Q : B → Type 0} {L : A → List Token → Type 0} {M : B → List Token → Type 0} {ks : List Kind} →
    Has P L ks → (f : A → B) → ((v : A) → P v → Q (f v)) → ((v : A) (tokens : List Token) → L v tokens → M (f v) tokens) → Has Q M ks
made-has {A} {B} {P} {Q} {L} {M} {ks} one f holds spells = record { gives = go }
  where
    go : (tokens : List Token) → kinds_of tokens ≡ ks → (v : B) × Q v × M v tokens
    go tokens is = let a = one.gives tokens is in (f a.0, holds a.0 a.1, spells a.0 tokens a.2)

-- Lists.

module _ {A : Type 0} (bare : A → A) (L : A → List Token → Type 0) (part : A → List Kind) (P : A → Type 0)
    (part-has : (v : A) → P v → Has (λ found. bare found ≡ bare v) L (part v)) where
  pub steps-has : (m : Mark) (values : List A) → All P values →
      Has (λ found. map bare found ≡ map bare values) (Steps (Parted (mark m) (λ _. L) Empty)) (flat_map (λ v. kinds.Mark m ∷ part v) values)
  steps-has m [] all = none-has [] refl refl
  steps-has m (v ∷ others) all =
      made-has (both-has (mark-has m (part-has v (All-head P v others all))) (steps-has m others (All-tail P v others all)))
      (λ found. found.0 ∷ found.1) (λ found same. ap₂ (λ a b. a ∷ b) same.0 same.1) (λ found tokens member. member)

  -- one part or more with the mark between them
  pub listed-has : (m : Mark) (values : List A) → IsListed values → All P values →
      Has (λ found. map bare found ≡ map bare values) (Listed (mark m) L) (listed m part values)
  listed-has m [] some all = absurd some
  listed-has m (v ∷ others) some all =
      made-has (both-has (part-has v (All-head P v others all)) (steps-has m others (All-tail P v others all)))
      (λ found. found.0 ∷ found.1) (λ found same. ap₂ (λ a b. a ∷ b) same.0 same.1) (λ found tokens member. member)

  pub many-has : (values : List A) → All P values → Has (λ found. map bare found ≡ map bare values) (Many L) (flat_map part values)
  many-has [] all = none-has [] refl refl
  many-has (v ∷ others) all =
      made-has (both-has (part-has v (All-head P v others all)) (many-has others (All-tail P v others all)))
      (λ found. found.0 ∷ found.1) (λ found same. ap₂ (λ a b. a ∷ b) same.0 same.1) (λ found tokens member. member)
