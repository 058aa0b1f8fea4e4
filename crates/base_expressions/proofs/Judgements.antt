-- Inner: the judgements on expressions by tiers, for a language whose grammar is given by its own words: what a part is,
-- parts with and between them, and parts with or between them.
use Rattle.std.proofs.Common.{◌≡◌, ◌⊎◌, inl, inr, ℕ, zero, suc, max, true, false, IsTrue, List, [], ◌∷◌, ◌++◌, Option, Some, None, refl, sym, ◌∙◌, ap}
use Rattle.std.proofs.Common.{subst, arith}
use Rattle.std.proofs.lemmas.List.{append-nil}
use Rattle.base_reader.specs.Languages.{Empty, One, Then, Led, Both, Loop, Parted}
use Rattle.base_reader.specs.Choice.{Made, Only, adds, fits, choose}
use Rattle.base_reader.specs.Readings.{Rule}
use Rattle.base_reader.proofs.Exports.{within, apart, Test, Below, by_room, Shape, one_shape, no_shape, then_shape, Lang, Reads, the-reads, give-reads}
use Rattle.base_reader.proofs.Exports.{both-reads, trail-reads, told-reads, made-reads, shape-reads, or_turn, step_shape, list_depth, or-steps, loop-reads}
use Rattle.base_reader.proofs.Exports.{Arm, arm, choose-lang, choose-reads}
use Rattle.base_expressions.specs.Reading.{Opening, Negates, Opens, IsLeaf, Tiers, is_deep, opened, list_of, listed, below, inside, rules_at}
use Rattle.base_expressions.specs.declared.language.Joint.TheVariants as joints

-- ---- a tier: parts with an operator between them

-- the step behind a part
abbrev pub Step : {T A : Type 0} → (T → Option (Unit {0})) → (A → List T → Type 0) → Option A → List T → Type 0
Step mark L = Parted mark (λ _. L) Empty

-- two parts or more
abbrev pub Several : {T A : Type 0} → (T → Option (Unit {0})) → (List A → A) → (A → List T → Type 0) → A → List T → Type 0
Several {T} {A} mark node L =
    Made {A = A × (A × List A)} (λ es. node (es.0 ∷ es.1.0 ∷ es.1.1)) (λ es. Both L (Loop (Step mark L)) (es.0, es.1.0 ∷ es.1.1))

-- a part, or several with the operator between them, are what the tier has, and how deep these are
pub record IsTier {T A : Type 0} (mark : T → Option (Unit {0})) (node : List A → A) (L M : A → List T → Type 0) (depth : A → ℕ) : Type 0 where
  pub one : (e : A) (tokens : List T) → L e tokens → M e tokens
  pub many : (e next : A) (others : List A) (tokens : List T) → Both L (Loop (Step mark L)) (e, next ∷ others) tokens → M (node (e ∷ next ∷ others)) tokens
  pub parts : (v : A) (tokens : List T) → M v tokens → L v tokens ⊎ Several mark node L v tokens
  pub deep : (es : List A) → depth (node es) ≡ list_depth depth es

module _ {T A : Type 0} (mark : T → Option (Unit {0})) (node : List A → A) (L M : A → List T → Type 0) (depth : A → ℕ)
    (k : IsTier mark node L M depth) where
  tier-to : (found : A × List A) (tokens : List T) → Both L (Loop (Step mark L)) found tokens → M (list_of node (found.0 ∷ found.1)) tokens
  tier-to (e, []) tokens member = k.one e tokens (subst (λ ts. L e ts)
      (sym (member.cut ∙ ap (λ b. member.front ++ b) member.second ∙ append-nil member.front)) member.first)
  tier-to (e, next ∷ others) tokens member = k.many e next others tokens member

  tier-from : (v : A) (tokens : List T) → M v tokens
      → Made {A = A × List A} (λ found. list_of node (found.0 ∷ found.1)) (Both L (Loop (Step mark L))) v tokens
  tier-from v tokens member = go (k.parts v tokens member)
    where
      go : L v tokens ⊎ Several mark node L v tokens
          → Made {A = A × List A} (λ found. list_of node (found.0 ∷ found.1)) (Both L (Loop (Step mark L))) v tokens
      go (inl one) = ((v, []), refl, record { front = tokens; back = []; cut = sym (append-nil tokens); first = one; second = refl })
      go (inr made) = ((made.0.0, made.0.1.0 ∷ made.0.1.1), made.1, made.2)

  tier-depth : (found : A × List A) → depth (list_of node (found.0 ∷ found.1)) ≡ max (depth found.0) (list_depth depth found.1)
  tier-depth (e, []) = omega arith
  tier-depth (e, next ∷ others) = k.deep (e ∷ next ∷ others)

-- the shape of a list of parts with an operator between them
abbrev tier_shape : ℕ → Shape → Shape
tier_shape m s = then_shape s (step_shape (or_turn (m ∷ []) s no_shape))

tier-reads : {T A : Type 0} {class : T → ℕ} {mark : T → Option (Unit {0})} {m : ℕ} {node : List A → A} {p : ℕ → Rule T A} {L : A → List T → Type 0}
    {depth : A → ℕ} {s : Shape} {room : Option ℕ} → (M : A → List T → Type 0) → IsTier mark node L M depth → Test class mark (m ∷ []) →
    Reads class p L depth s room → IsTrue (apart s.after (m ∷ [])) → Reads class (λ n. listed mark node (p n)) M depth (tier_shape m s) room
tier-reads {T} {A} {class} {mark} {m} {node} {p} {L} {depth} {s} {room} M k test r away =
    made-reads {A = A × List A} (λ found. list_of node (found.0 ∷ found.1)) M depth (both-reads r (loop-reads (or-steps test r give-reads refl) away) away)
    (tier-depth mark node L M depth k) (tier-to mark node L M depth k) (tier-from mark node L M depth k)

-- ---- what a language tells

-- the kinds of its tokens, as numbers
pub record Kinds {T B F A : Type 0} (t : Tiers T B F A) (class : T → ℕ) (openings : List ℕ) (ands ors : ℕ) (closings : B → ℕ) : Type 0 where
  pub and_test : Test class (t.mark joints.And) (ands ∷ [])
  pub or_test : Test class (t.mark joints.Or) (ors ∷ [])
  pub closing_test : (b : B) → Test class (t.closing b) (closings b ∷ [])
  -- each of these computes
  pub starts_in : IsTrue (within (openings ++ []) openings)
  pub and_in : IsTrue (within (ands ∷ []) (ands ∷ []))
  pub or_in : IsTrue (within (ands ∷ ors ∷ ands ∷ []) (ands ∷ ors ∷ []))
  pub or_apart : IsTrue (apart (ands ∷ []) (ors ∷ []))
  pub closing_apart : (b : B) → IsTrue (apart (ands ∷ ors ∷ []) (closings b ∷ []))

-- what stands behind the token that begins a part
abbrev pub Behind : {T B F A : Type 0} → Tiers T B F A → (A → List T → Type 0) → (A → List T → Type 0) → Opening B F → A → List T → Type 0
Behind t N D Negates = Made t.negation N
Behind t N D (Opens b) = Made (t.bracketed b) (λ e. Then (D e) (One (t.closing b) tt))
Behind t N D (IsLeaf leaf) = Only (t.leaf leaf)

-- what is spelled where some tokens begin a part, one of them a leaf
pub record IsPart {T B F A : Type 0} (t : Tiers T B F A) (N D : A → List T → Type 0) (class : T → ℕ) (opening : T → Option (Opening B F))
    (openings : List ℕ) (P : A → List T → Type 0) : Type 0 where
  pub test : Test class opening openings
  pub token : T
  pub leaf : F
  pub takes : opening token ≡ Some (IsLeaf leaf)
  pub to : (v : A) (tokens : List T) → Led opening (λ o. Behind t N D o v) tokens → P v tokens
  pub from : (v : A) (tokens : List T) → P v tokens → Led opening (λ o. Behind t N D o v) tokens

-- its grammar: parts, conjunctions and disjunctions, and how deep trees are
pub record IsGrammar {T B F A : Type 0} (t : Tiers T B F A) (N C D : A → List T → Type 0) (class : T → ℕ) (openings : List ℕ) (depth : A → ℕ) : Type 0 where
  pub parts : IsPart t N D class t.opening openings N
  pub conjunctions : IsTier (t.mark joints.And) (t.joined joints.And) N C depth
  pub disjunctions : IsTier (t.mark joints.Or) (t.joined joints.Or) C D depth
  pub leaf_depth : (leaf : F) → depth (t.leaf leaf) ≡ 0
  pub negation_depth : (e : A) → depth (t.negation e) ≡ suc (depth e)
  pub bracket_depth : (b : B) (e : A) → depth (t.bracketed b e) ≡ suc (depth e)

abbrev pub part_shape : List ℕ → Shape
part_shape openings = one_shape openings

abbrev pub conj_shape : List ℕ → ℕ → Shape
conj_shape openings ands = record { starts = openings; empty = false; after = ands ∷ [] }

abbrev pub expr_shape : List ℕ → ℕ → ℕ → Shape
expr_shape openings ands ors = record { starts = openings; empty = false; after = ands ∷ ors ∷ [] }

-- ---- the judgements

-- both kinds of rules at a room
pub record KnownExprs {T B F A : Type 0} (t : Tiers T B F A) (N D : A → List T → Type 0) (depth : A → ℕ) (class : T → ℕ) (openings : List ℕ)
    (ands ors : ℕ) (room : Option ℕ) : Type 0 where
  pub part : Reads class (λ n. (rules_at t n).part) N depth (part_shape openings) room
  pub whole : Reads class (λ n. (rules_at t n).whole) D depth (expr_shape openings ands ors) room

module _ {T B F A : Type 0} {t : Tiers T B F A} {N C D : A → List T → Type 0} {depth : A → ℕ} {class : T → ℕ} {openings : List ℕ} {ands ors : ℕ}
    {closings : B → ℕ} (kinds : Kinds t class openings ands ors closings) (grammar : IsGrammar t N C D class openings depth) where
  abbrev Known : Option ℕ → Type 0
  Known = KnownExprs t N D depth class openings ands ors

  abbrev opened_rule : Opening B F → ℕ → Rule T A
  opened_rule o n = opened t o (inside t n)

  leaf-arm : {room : Option ℕ} (leaf : F) → Arm class depth false [] (λ n. opened_rule (IsLeaf leaf) n) (Behind t N D (IsLeaf leaf)) room
  leaf-arm leaf = arm (λ _. t.leaf leaf) give-reads (λ _. grammar.leaf_depth leaf) refl

  pub opened-arms : (room : ℕ) → Known (fits true room) → (o : Opening B F) →
      Arm class depth (is_deep o) [] (λ n. opened_rule o (adds (is_deep o) n)) (Behind t N D o) (fits (is_deep o) room)
  opened-arms room k Negates = arm t.negation k.part grammar.negation_depth refl
  opened-arms room k (Opens b) =
      arm (t.bracketed b) (trail-reads k.whole (the-reads (kinds.closing_test b)) (kinds.closing_apart b)) (grammar.bracket_depth b) refl
  opened-arms room k (IsLeaf leaf) = leaf-arm leaf

  part-lang : {opening : T → Option (Opening B F)} {set : List ℕ} {P : A → List T → Type 0} → IsPart t N D class opening set P
      → Lang class (λ v. Led opening (λ o. Behind t N D o v)) depth (part_shape set)
  part-lang p = choose-lang (Behind t N D) p.test p.token (IsLeaf p.leaf) p.takes (leaf-arm {room = None} p.leaf)

  -- the rule where these tokens begin a part
  abbrev part_rule : (T → Option (Opening B F)) → ℕ → Rule T A
  part_rule opening n = choose opening is_deep n (λ o. opened_rule o n)

  part-alone : {opening : T → Option (Opening B F)} {set : List ℕ} {P : A → List T → Type 0} → IsPart t N D class opening set P
      → Reads class (part_rule opening) P depth (part_shape set) None
  part-alone {opening} {set} {P} p = told-reads P (record { lang = part-lang p; laws = tt }) p.to p.from

  part-reads : {opening : T → Option (Opening B F)} {set : List ℕ} {P : A → List T → Type 0} → IsPart t N D class opening set P → (room : ℕ)
      → Known (fits true room) → Reads class (part_rule opening) P depth (part_shape set) (Some room)
  part-reads {opening} {set} {P} p room k = told-reads P (choose-reads opened_rule (part-lang p) room (opened-arms room k)) p.to p.from

  conj-reads : {room : Option ℕ} → Reads class (λ n. (rules_at t n).part) N depth (part_shape openings) room →
      Reads class (λ n. below t joints.Or n (inside t n)) C depth (conj_shape openings ands) room
  conj-reads k =
      shape-reads (conj_shape openings ands) (tier-reads C grammar.conjunctions kinds.and_test k refl)
      kinds.starts_in refl kinds.and_in

  disj-reads : {room : Option ℕ} → Reads class (λ n. below t joints.Or n (inside t n)) C depth (conj_shape openings ands) room →
      Reads class (λ n. (rules_at t n).whole) D depth (expr_shape openings ands ors) room
  disj-reads k =
      shape-reads (expr_shape openings ands ors) (tier-reads D grammar.disjunctions kinds.or_test k kinds.or_apart)
      kinds.starts_in refl kinds.or_in

  exprs_from : {room : Option ℕ} → Reads class (λ n. (rules_at t n).part) N depth (part_shape openings) room → Known room
  exprs_from k = record { part = k; whole = disj-reads (conj-reads k) }

  pub exprs_alone : Known None
  exprs_alone = exprs_from (part-alone grammar.parts)

  exprs_below : (room : ℕ) → Below (λ n. Known (Some n)) room → Known (fits true room)
  exprs_below zero below = exprs_alone
  exprs_below (suc room) below = below

  pub exprs_known : (room : ℕ) → Known (Some room)
  exprs_known = by_room (λ n. Known (Some n)) (λ room below. exprs_from (part-reads grammar.parts room (exprs_below room below)))

  inside_known : (room : ℕ) → Known (fits true room)
  inside_known zero = exprs_alone
  inside_known (suc room) = exprs_known room

  pub part_known : {opening : T → Option (Opening B F)} {set : List ℕ} {P : A → List T → Type 0} → IsPart t N D class opening set P → (room : Option ℕ)
      → Reads class (part_rule opening) P depth (part_shape set) room
  part_known p None = part-alone p
  part_known p (Some room) = part-reads p room (inside_known room)
