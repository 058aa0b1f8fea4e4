-- Modules that begin with a declaration of inputs and one of outputs, behind which no declaration stands.
use Rattle.std.proofs.Common.{◌≡◌, ℕ, zero, suc, ◌+◌, Bool, true, false, List, [], ◌∷◌, ◌++◌, length, map, drop, get_or, Option, Some, None}
use Rattle.std.proofs.Common.{refl, sym, ap, ◌∙◌, subst, inl, inr, arith, append_assoc}
use Rattle.std.proofs.lemmas.List.{map-append}
use Rattle.est_ast.specs.declared.tokens.Token.{Token}
use Rattle.est_ast.specs.declared.tokens.Kind.{Kind}
use Rattle.est_ast.specs.declared.tokens.Kind.TheVariants as kinds
use Rattle.est_ast.specs.declared.tokens.Reserved.{Reserved}
use Rattle.est_ast.specs.declared.tokens.Reserved.TheVariants as words
use Rattle.est_ast.specs.declared.tokens.Mark.TheVariants as marks
use Rattle.est_ast.specs.declared.trees.Name.{Name}
use Rattle.est_ast.specs.Grammar.{is_word, word, is_mark, mark, name, Listed, Level, Whole, Spells, SpellsDeclared, SpellsDecl, EndsModule, SpellsModule}
use Rattle.est_ast.specs.Trees.{Decl, Input, InputOutput, Output, Relations, Module, Stmt}
use Rattle.base_reader.specs.Languages.{Empty, One, Then, Led, Parted, Many}
use Rattle.base_reader.specs.Languages.{Loop as Steps}
use Rattle.est_gen_laws.proofs.Bits.{kinds_of}
use Rattle.est_gen_laws.proofs.Openings.{declares, mark-taken, opens, word-taken}

-- ---- declarations by the kinds of their tokens

-- names behind commas
abbrev more_kinds : List Name → List Kind
more_kinds [] = []
more_kinds (n ∷ names) = kinds.Mark marks.Comma ∷ kinds.Ident n.text ∷ more_kinds names

-- the tokens up to the next `;`, how many names are among them, and what stands behind
abbrev pub names_ahead : List Kind → ℕ
names_ahead [] = 0
names_ahead (kinds.Ident text ∷ ks) = suc (names_ahead ks)
names_ahead (kinds.Mark marks.Semicolon ∷ ks) = 0
names_ahead (_ ∷ ks) = names_ahead ks

abbrev pub behind_ahead : List Kind → List Kind
behind_ahead [] = []
behind_ahead (kinds.Mark marks.Semicolon ∷ ks) = ks
behind_ahead (_ ∷ ks) = behind_ahead ks

more-counted : (names : List Name) (ks : List Kind) → names_ahead (more_kinds names ++ (kinds.Mark marks.Semicolon ∷ ks)) ≡ length names
more-counted [] ks = refl
more-counted (n ∷ names) ks = ap suc (more-counted names ks)

more-behind : (names : List Name) (ks : List Kind) → behind_ahead (more_kinds names ++ (kinds.Mark marks.Semicolon ∷ ks)) ≡ ks
more-behind [] ks = refl
more-behind (n ∷ names) ks = more-behind names ks

name-kind : (n : Name) (token : Token) → name token ≡ Some n → token.kind ≡ kinds.Ident n.text
name-kind n token is = go token.kind refl
  where
    go : (kind : Kind) → token.kind ≡ kind → kind ≡ kinds.Ident n.text
    go (kinds.Ident text) e = let found = rw e at is in cc
    go (kinds.Reserved w) e = let found = rw e at is in cc
    go (kinds.Mark m) e = let found = rw e at is in cc
    go (kinds.Number v) e = let found = rw e at is in cc

one-name : (n : Name) (tokens : List Token) → One name n tokens → kinds_of tokens ≡ kinds.Ident n.text ∷ []
one-name n tokens one = ap kinds_of one.only ∙ ap (λ k. k ∷ []) (name-kind n one.token one.passes)

one-semicolon : (tokens : List Token) → One (mark marks.Semicolon) tt tokens → kinds_of tokens ≡ kinds.Mark marks.Semicolon ∷ []
one-semicolon tokens one = ap kinds_of one.only ∙ ap (λ k. k ∷ []) (mark-taken marks.Semicolon one.token tt one.passes)

kinds-append : (a b : List Token) → kinds_of (a ++ b) ≡ kinds_of a ++ kinds_of b
kinds-append a b = map-append (λ (t : Token). t.kind) a b

more-names : (names : List Name) (tokens : List Token) → Steps (Parted (mark marks.Comma) (λ _. One name) Empty) names tokens
    → kinds_of tokens ≡ more_kinds names
more-names [] tokens none = ap kinds_of none
more-names (n ∷ names) tokens spelt =
    let comma = spelt.first in
    let here : kinds_of spelt.front ≡ kinds.Mark marks.Comma ∷ kinds.Ident n.text ∷ [] =
    ap kinds_of comma.cut ∙ ap (λ k. k ∷ kinds_of comma.rest) (mark-taken marks.Comma comma.token comma.value comma.passes)
    ∙ ap (λ l. kinds.Mark marks.Comma ∷ l) (one-name n comma.rest comma.behind) in
    ap kinds_of spelt.cut ∙ kinds-append spelt.front spelt.back
    ∙ ap (λ l. l ++ kinds_of spelt.back) here ∙ ap (λ l. kinds.Mark marks.Comma ∷ kinds.Ident n.text ∷ l) (more-names names spelt.back spelt.second)

-- a declaration of names: its word, how many names it has, and what stands behind it
record IsDeclared (w : Reserved) (names : List Name) (ks behind : List Kind) : Type 0 where
  begins : get_or ks 0 (kinds.Number 0) ≡ kinds.Reserved w
  counted : names_ahead ks ≡ length names
  ends : behind_ahead ks ≡ behind

declared-front : (w : Reserved) (names : List Name) (tokens : List Token) (behind : List Kind) → SpellsDeclared w (One name) names tokens →
    IsDeclared w names (kinds_of tokens ++ behind) behind
declared-front w [] tokens behind spelt = absurd spelt.behind.first
declared-front w (n ∷ names) tokens behind spelt =
    let listed = spelt.behind.first in
    let semicolon = kinds.Mark marks.Semicolon in
    let all : kinds_of tokens ≡ kinds.Reserved w ∷ kinds.Ident n.text ∷ (more_kinds names ++ semicolon ∷ []) =
    ap kinds_of spelt.cut ∙ ap (λ k. k ∷ kinds_of spelt.rest) (word-taken w spelt.token spelt.value spelt.passes)
    ∙ ap (λ l. kinds.Reserved w ∷ l) (ap kinds_of spelt.behind.cut ∙ kinds-append spelt.behind.front spelt.behind.back
    ∙ ap (λ l. l ++ kinds_of spelt.behind.back) (ap kinds_of listed.cut ∙ kinds-append listed.front listed.back
    ∙ ap (λ l. l ++ kinds_of listed.back) (one-name n listed.front listed.first)
    ∙ ap (λ l. kinds.Ident n.text ∷ l) (more-names names listed.back listed.second))
    ∙ ap (λ l. kinds.Ident n.text ∷ (more_kinds names ++ l)) (one-semicolon spelt.behind.back spelt.behind.second)) in
    let whole : kinds_of tokens ++ behind ≡ kinds.Reserved w ∷ kinds.Ident n.text ∷ (more_kinds names ++ semicolon ∷ behind) =
    ap (λ l. l ++ behind) all ∙ ap (λ l. kinds.Reserved w ∷ kinds.Ident n.text ∷ l) (append_assoc (more_kinds names) (semicolon ∷ []) behind) in
    record {
      begins = ap (λ l. get_or l 0 (kinds.Number 0)) whole;
      counted = ap names_ahead whole ∙ ap suc (more-counted names behind);
      ends = ap behind_ahead whole ∙ more-behind names behind;
    }

-- ---- the declarations of a module, one after another

-- a kind that begins nothing
abbrev nothing : Kind
nothing = kinds.Number 0

abbrev pub first_kind : List Kind → Kind
first_kind ks = get_or ks 0 nothing

abbrev decl_word : Decl → Reserved
decl_word (Input names) = words.Input
decl_word (InputOutput names) = words.InputOutput
decl_word (Output names) = words.Output
decl_word (Relations relations) = words.Relation

led-begins : {L : Unit {0} → List Token → Type 0} (w : Reserved) (tokens : List Token) (behind : List Kind) → Led (word w) L tokens →
    first_kind (kinds_of tokens ++ behind) ≡ kinds.Reserved w
led-begins w tokens behind led =
    ap (λ l. first_kind (kinds_of l ++ behind)) led.cut ∙ word-taken w led.token led.value led.passes

decl-begins : (decl : Decl) (tokens : List Token) (behind : List Kind) → SpellsDecl decl tokens →
    first_kind (kinds_of tokens ++ behind) ≡ kinds.Reserved (decl_word decl)
decl-begins (Input names) tokens behind spelt = led-begins words.Input tokens behind spelt
decl-begins (InputOutput names) tokens behind spelt = led-begins words.InputOutput tokens behind spelt
decl-begins (Output names) tokens behind spelt = led-begins words.Output tokens behind spelt
decl-begins (Relations relations) tokens behind spelt = led-begins words.Relation tokens behind spelt

-- the kinds of some tokens, of more behind them, and of what stands behind
kinds-split : (front back behind : List Token) (more : List Kind) →
    kinds_of ((front ++ back) ++ behind) ++ more ≡ kinds_of front ++ (kinds_of (back ++ behind) ++ more)
kinds-split front back behind more =
    ap (λ l. kinds_of l ++ more) (append_assoc front back behind) ∙ ap (λ l. l ++ more) (kinds-append front (back ++ behind))
    ∙ append_assoc (kinds_of front) (kinds_of (back ++ behind)) more

-- where declarations are written, and behind them this
record AreBegun (make : List Name → Decl) (decls : List Decl) (behind : List Token) (more ks : List Kind) : Type 0 where
  names : List Name
  others : List Decl
  back : List Token
  is : decls ≡ make names ∷ others
  many : Many SpellsDecl others back
  kinds : kinds_of (back ++ behind) ++ more ≡ behind_ahead ks
  counted : length names ≡ names_ahead ks

-- no other declaration begins them
begun-apart : (decl : Decl) (others : List Decl) (tokens behind : List Token) (more ks : List Kind) (w : Reserved) → Many SpellsDecl (decl ∷ others) tokens →
    kinds_of (tokens ++ behind) ++ more ≡ ks → first_kind ks ≡ kinds.Reserved w → (kinds.Reserved (decl_word decl) ≡ kinds.Reserved w → ⊥) → ⊥
begun-apart decl others tokens behind more ks w many is first apart =
    let whole = ap (λ l. kinds_of (l ++ behind) ++ more) many.cut ∙ kinds-split many.front many.back behind more in
    let here = decl-begins decl many.front (kinds_of (many.back ++ behind) ++ more) many.first in
    apart (sym here ∙ ap first_kind (sym whole ∙ is) ∙ first)

-- they begin with a declaration of inputs, since what stands behind them does not
inputs-begun : (decls : List Decl) (tokens behind : List Token) (more ks : List Kind) → Many SpellsDecl decls tokens →
    kinds_of (tokens ++ behind) ++ more ≡ ks → first_kind ks ≡ kinds.Reserved words.Input →
    (first_kind (kinds_of behind ++ more) ≡ kinds.Reserved words.Input → ⊥) → AreBegun Input decls behind more ks
inputs-begun [] tokens behind more ks many is first other =
    absurd (other (ap (λ l. first_kind (kinds_of (l ++ behind) ++ more)) (sym many) ∙ ap first_kind is ∙ first))
inputs-begun (Input names ∷ others) tokens behind more ks many is first other =
    let whole = ap (λ l. kinds_of (l ++ behind) ++ more) many.cut ∙ kinds-split many.front many.back behind more in
    let here = declared-front words.Input names many.front (kinds_of (many.back ++ behind) ++ more) many.first in
    record {
      names = names;
      others = others;
      back = many.back;
      is = refl;
      many = many.second;
      kinds = sym here.ends ∙ ap behind_ahead (sym whole ∙ is);
      counted = sym here.counted ∙ ap names_ahead (sym whole ∙ is);
    }
inputs-begun (InputOutput values ∷ others) tokens behind more ks many is first other =
    absurd (begun-apart (InputOutput values) others tokens behind more ks words.Input many is first (λ e. cc))
inputs-begun (Output values ∷ others) tokens behind more ks many is first other =
    absurd (begun-apart (Output values) others tokens behind more ks words.Input many is first (λ e. cc))
inputs-begun (Relations values ∷ others) tokens behind more ks many is first other =
    absurd (begun-apart (Relations values) others tokens behind more ks words.Input many is first (λ e. cc))

-- they begin with a declaration of outputs, since what stands behind them does not
outputs-begun : (decls : List Decl) (tokens behind : List Token) (more ks : List Kind) → Many SpellsDecl decls tokens →
    kinds_of (tokens ++ behind) ++ more ≡ ks → first_kind ks ≡ kinds.Reserved words.Output →
    (first_kind (kinds_of behind ++ more) ≡ kinds.Reserved words.Output → ⊥) → AreBegun Output decls behind more ks
outputs-begun [] tokens behind more ks many is first other =
    absurd (other (ap (λ l. first_kind (kinds_of (l ++ behind) ++ more)) (sym many) ∙ ap first_kind is ∙ first))
outputs-begun (Output names ∷ others) tokens behind more ks many is first other =
    let whole = ap (λ l. kinds_of (l ++ behind) ++ more) many.cut ∙ kinds-split many.front many.back behind more in
    let here = declared-front words.Output names many.front (kinds_of (many.back ++ behind) ++ more) many.first in
    record {
      names = names;
      others = others;
      back = many.back;
      is = refl;
      many = many.second;
      kinds = sym here.ends ∙ ap behind_ahead (sym whole ∙ is);
      counted = sym here.counted ∙ ap names_ahead (sym whole ∙ is);
    }
outputs-begun (Input values ∷ others) tokens behind more ks many is first other =
    absurd (begun-apart (Input values) others tokens behind more ks words.Output many is first (λ e. cc))
outputs-begun (InputOutput values ∷ others) tokens behind more ks many is first other =
    absurd (begun-apart (InputOutput values) others tokens behind more ks words.Output many is first (λ e. cc))
outputs-begun (Relations values ∷ others) tokens behind more ks many is first other =
    absurd (begun-apart (Relations values) others tokens behind more ks words.Output many is first (λ e. cc))

-- there is none where `signal` stands
none-begun : (decls : List Decl) (tokens behind : List Token) (more ks : List Kind) → Many SpellsDecl decls tokens →
    kinds_of (tokens ++ behind) ++ more ≡ ks → first_kind ks ≡ kinds.Reserved words.Signal → decls ≡ []
none-begun [] tokens behind more ks many is first = refl
none-begun (Input values ∷ others) tokens behind more ks many is first =
    absurd (begun-apart (Input values) others tokens behind more ks words.Signal many is first (λ e. cc))
none-begun (InputOutput values ∷ others) tokens behind more ks many is first =
    absurd (begun-apart (InputOutput values) others tokens behind more ks words.Signal many is first (λ e. cc))
none-begun (Output values ∷ others) tokens behind more ks many is first =
    absurd (begun-apart (Output values) others tokens behind more ks words.Signal many is first (λ e. cc))
none-begun (Relations values ∷ others) tokens behind more ks many is first =
    absurd (begun-apart (Relations values) others tokens behind more ks words.Signal many is first (λ e. cc))

-- ---- a whole module

-- a body begins with no declaration
body-begins : (w : Reserved) → declares (kinds.Reserved w) ≡ true → (body : Stmt) (tokens : List Token) (more : List Kind) → Spells Whole body tokens →
    first_kind (kinds_of tokens ++ more) ≡ kinds.Reserved w → ⊥
body-begins w one body tokens more spelt is =
    let o = opens Whole body tokens spelt in
    let here = sym one ∙ ap declares (sym is ∙ ap (λ l. first_kind (kinds_of l ++ more)) o.cut) ∙ o.apart in
    cc

-- the declarations of a module: these inputs, and these outputs
pub record Shows (m : Module) (inputs outputs : ℕ) : Type 0 where
  pub in_names : List Name
  pub out_names : List Name
  pub decls : m.decls ≡ Input in_names ∷ Output out_names ∷ []
  pub in_counted : length in_names ≡ inputs
  pub out_counted : length out_names ≡ outputs

-- behind the head of a module
pub head-behind : (m : Module) (tokens : List Token) (more : List Kind) (spelt : SpellsModule m tokens) →
    drop 3 (kinds_of tokens ++ more) ≡ kinds_of spelt.behind.second.rest ++ more
head-behind m tokens more spelt =
    let inner = spelt.behind in
    let colon = inner.second in
    ap (λ l. drop 3 (kinds_of l ++ more)) spelt.cut ∙ ap (λ l. drop 2 (kinds_of l ++ more)) inner.cut
    ∙ ap (λ l. drop 2 (kinds_of (l ++ inner.back) ++ more)) inner.first.only ∙ ap (λ l. drop 1 (kinds_of l ++ more)) colon.cut

pub module-shows : (m : Module) (tokens : List Token) (more ks : List Kind) → SpellsModule m tokens →
    drop 3 (kinds_of tokens ++ more) ≡ ks → first_kind ks ≡ kinds.Reserved words.Input →
    first_kind (behind_ahead ks) ≡ kinds.Reserved words.Output → first_kind (behind_ahead (behind_ahead ks)) ≡ kinds.Reserved words.Signal →
    Shows m (names_ahead ks) (names_ahead (behind_ahead ks))
module-shows m tokens more ks spelt is first second third =
    let rest = spelt.behind.second.behind in
    let decls = rest.first in
    let body = rest.second in
    let shift : kinds_of rest.back ++ more ≡ kinds_of body.front ++ (kinds_of body.back ++ more) =
    ap (λ l. kinds_of l ++ more) body.cut ∙ ap (λ l. l ++ more) (kinds-append body.front body.back)
    ∙ append_assoc (kinds_of body.front) (kinds_of body.back) more in
    let whole : kinds_of (rest.front ++ rest.back) ++ more ≡ ks =
    ap (λ l. kinds_of l ++ more) (sym rest.cut) ∙ sym (head-behind m tokens more spelt) ∙ is in
    let none : (w : Reserved) → declares (kinds.Reserved w) ≡ true → first_kind (kinds_of rest.back ++ more) ≡ kinds.Reserved w → ⊥ = λ w one e.
    body-begins w one m.body body.front (kinds_of body.back ++ more) body.first (sym (ap first_kind shift) ∙ e) in
    let a = inputs-begun m.decls rest.front rest.back more ks decls whole first (none words.Input refl) in
    let b = outputs-begun a.others a.back rest.back more (behind_ahead ks) a.many a.kinds second (none words.Output refl) in
    let c = none-begun b.others b.back rest.back more (behind_ahead (behind_ahead ks)) b.many b.kinds third in
    record {
      in_names = a.names;
      out_names = b.names;
      decls = a.is ∙ ap (λ l. Input a.names ∷ l) b.is ∙ ap (λ l. Input a.names ∷ Output b.names ∷ l) c;
      in_counted = a.counted;
      out_counted = b.counted;
    }
