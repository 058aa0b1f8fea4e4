-- Inner: how a language whose trees hold rows of parts comes to a grammar by tiers.
use Rattle.std.proofs.Common.{◌≡◌, ◌⊎◌, inl, inr, ℕ, max, List, [], ◌∷◌, Option, Some, refl, sym, ◌∙◌, ap, subst}
use Rattle.base_reader.specs.Languages.{Empty, One, Then, Led, Both, Loop}
use Rattle.base_reader.proofs.Exports.{list_depth}
use Rattle.base_expressions.specs.Reading.{Opening, Negates, Opens, IsLeaf, Tiers}
use Rattle.base_expressions.proofs.Judgements.{Step, Several, IsTier, Behind}

-- ---- parts

-- the tests of its grammar tell what a token begins
pub record TellsOpenings {T B F A : Type 0} (t : Tiers T B F A) (negates : T → Option (Unit {0})) (opens : B → T → Option (Unit {0})) : Type 0 where
  pub negates_hit : (token : T) → t.opening token ≡ Some Negates → negates token ≡ Some tt
  pub negates_sure : (token : T) → negates token ≡ Some tt → t.opening token ≡ Some Negates
  pub opens_hit : (b : B) (token : T) → t.opening token ≡ Some (Opens b) → opens b token ≡ Some tt
  pub opens_sure : (b : B) (token : T) → opens b token ≡ Some tt → t.opening token ≡ Some (Opens b)

module _ {T B F A : Type 0} {t : Tiers T B F A} {negates : T → Option (Unit {0})} {opens : B → T → Option (Unit {0})} (N D : A → List T → Type 0)
    (k : TellsOpenings t negates opens) where
  -- what stands behind the token makes a part
  pub part-to : ((e : A) (tokens : List T) → Led negates (λ _. N e) tokens → N (t.negation e) tokens) →
      ((b : B) (e : A) (tokens : List T) → Led (opens b) (λ _. Then (D e) (One (t.closing b) tt)) tokens → N (t.bracketed b e) tokens) →
      ((leaf : F) (token : T) → t.opening token ≡ Some (IsLeaf leaf) → N (t.leaf leaf) (token ∷ [])) →
      (v : A) (tokens : List T) → Led t.opening (λ o. Behind t N D o v) tokens → N v tokens
  part-to negation bracket single v tokens led = subst (N v) (sym led.cut) (go led.value led.passes led.behind)
    where
      go : (o : Opening B F) → t.opening led.token ≡ Some o → Behind t N D o v led.rest → N v (led.token ∷ led.rest)
      go Negates is made = subst (λ v. N v (led.token ∷ led.rest)) made.1 (negation made.0 (led.token ∷ led.rest)
          (record { token = led.token; value = tt; rest = led.rest; cut = refl; passes = k.negates_hit led.token is; behind = made.2 }))
      go (Opens b) is made = subst (λ v. N v (led.token ∷ led.rest)) made.1 (bracket b made.0 (led.token ∷ led.rest)
          (record { token = led.token; value = tt; rest = led.rest; cut = refl; passes = k.opens_hit b led.token is; behind = made.2 }))
      go (IsLeaf leaf) is made =
          subst (λ ts. N v (led.token ∷ ts)) (sym made.2) (subst (λ v. N v (led.token ∷ [])) made.1 (single leaf led.token is))

  -- and back, a node each
  abbrev pub negation-from : (e : A) (tokens : List T) → Led negates (λ _. N e) tokens → Led t.opening (λ o. Behind t N D o (t.negation e)) tokens
  negation-from e tokens led = record {
    token = led.token;
    value = Negates;
    rest = led.rest;
    cut = led.cut;
    passes = k.negates_sure led.token led.passes;
    behind = (e, refl, led.behind);
  }

  abbrev pub bracket-from : (b : B) (e : A) (tokens : List T) → Led (opens b) (λ _. Then (D e) (One (t.closing b) tt)) tokens
      → Led t.opening (λ o. Behind t N D o (t.bracketed b e)) tokens
  bracket-from b e tokens led = record {
    token = led.token;
    value = Opens b;
    rest = led.rest;
    cut = led.cut;
    passes = k.opens_sure b led.token led.passes;
    behind = (e, refl, led.behind);
  }

  abbrev pub leaf-from : {X : Type 0} (test : T → Option X) (x : X) (leaf : F) → ((token : T) → test token ≡ Some x → t.opening token ≡ Some (IsLeaf leaf)) →
      (tokens : List T) → One test x tokens → Led t.opening (λ o. Behind t N D o (t.leaf leaf)) tokens
  leaf-from test x leaf sure tokens one = record {
    token = one.token;
    value = IsLeaf leaf;
    rest = [];
    cut = one.only;
    passes = sure one.token one.passes;
    behind = (tt, refl, refl);
  }

-- ---- rows of parts

-- Rows as lists: a row of no part, one more part before a row, how deep they are, and how a grammar has two parts or
-- more, those behind the first, and those behind the second.
pub record IsRow {T A R : Type 0} (mark : T → Option (Unit {0})) (L : A → List T → Type 0) (depth : A → ℕ) (row : List A → R) (deep : R → ℕ)
    (All Nexts Others : R → List T → Type 0) : Type 1 where
  pub listed : (r : R) → (es : List A) × (row es ≡ r)
  pub none : (deep (row []) ≡ 0) × (Others (row []) ≡ Empty) × (All (row []) ≡ (λ _. ⊥)) × (Nexts (row []) ≡ (λ _. ⊥))
  pub more : (e : A) (es : List A) → (deep (row (e ∷ es)) ≡ max (depth e) (deep (row es))) × (All (row (e ∷ es)) ≡ Then (L e) (Nexts (row es)))
      × (Nexts (row (e ∷ es)) ≡ Then (Led mark (λ _. L e)) (Others (row es))) × (Others (row (e ∷ es)) ≡ Then (Led mark (λ _. L e)) (Others (row es)))

-- a tree is for the tier what it is below it, or it is the tier's node and nothing below it
pub data AtTier {T A R : Type 0} (L M : A → List T → Type 0) (node : R → A) (v : A) : Type 1 where
  IsBelow : (same : L v ≡ M v) → AtTier L M node v
  IsNode : (r : R) (is : node r ≡ v) (none : L v ≡ (λ _. ⊥)) → AtTier L M node v

module _ {T A R : Type 0} {mark : T → Option (Unit {0})} {L : A → List T → Type 0} {depth : A → ℕ} {row : List A → R} {deep : R → ℕ}
    {All Nexts Others : R → List T → Type 0} (k : IsRow mark L depth row deep All Nexts Others) where
  others-are : (es : List A) → Others (row es) ≡ Loop (Step mark L) es
  others-are [] = k.none.1
  others-are (e ∷ es) = (k.more e es).3 ∙ ap (λ M. Then (Led mark (λ _. L e)) M) (others-are es)

  several-are : (e next : A) (others : List A) → All (row (e ∷ next ∷ others)) ≡ Both L (Loop (Step mark L)) (e, next ∷ others)
  several-are e next others =
      (k.more e (next ∷ others)).1 ∙ ap (λ M. Then (L e) M) ((k.more next others).2 ∙ ap (λ M. Then (Led mark (λ _. L next)) M) (others-are others))

  all-parts : (node : R → A) (es : List A) (tokens : List T) → All (row es) tokens → Several mark (λ es. node (row es)) L (node (row es)) tokens
  all-parts node [] tokens member = absurd (subst (λ M. M tokens) k.none.2 member)
  all-parts node (e ∷ []) tokens member =
      let both = subst (λ M. M tokens) ((k.more e []).1 ∙ ap (λ M. Then (L e) M) k.none.3) member in absurd both.second
  all-parts node (e ∷ next ∷ others) tokens member = ((e, (next, others)), refl, subst (λ M. M tokens) (several-are e next others) member)

  list-deep : (es : List A) → deep (row es) ≡ list_depth depth es
  list-deep [] = k.none.0
  list-deep (e ∷ es) = (k.more e es).0 ∙ ap (max (depth e)) (list-deep es)

  -- a tier whose node holds a row
  pub tier-of : (node : R → A) (M : A → List T → Type 0) → ((r : R) → M (node r) ≡ All r) → ((r : R) → depth (node r) ≡ deep r)
      → ((v : A) → AtTier L M node v) → IsTier mark (λ es. node (row es)) L M depth
  tier-of node M made nests tells = record {
    one = λ e tokens. raised e tokens (tells e);
    many = λ e next others tokens member.
        subst (λ M. M tokens) (sym (several-are e next others) ∙ sym (made (row (e ∷ next ∷ others)))) member;
    parts = λ v tokens. parted v tokens (tells v);
    deep = λ es. nests (row es) ∙ list-deep es;
  }
    where
      raised : (e : A) (tokens : List T) → AtTier L M node e → L e tokens → M e tokens
      raised e tokens (IsBelow same) member = subst (λ M. M tokens) same member
      raised e tokens (IsNode r is none) member = absurd (subst (λ M. M tokens) none member)

      parted : (v : A) (tokens : List T) → AtTier L M node v → M v tokens → L v tokens ⊎ Several mark (λ es. node (row es)) L v tokens
      parted v tokens (IsBelow same) member = inl (subst (λ M. M tokens) (sym same) member)
      parted v tokens (IsNode r is none) member =
          let es = k.listed r in
          let all = subst (λ M. M tokens) (ap M (sym is) ∙ made r ∙ ap All (sym es.1)) member in
          inr (subst (λ v. Several mark (λ es. node (row es)) L v tokens) (ap node es.1 ∙ is) (all-parts node es.0 tokens all))
