-- The literals of leaves, put together: which are met, and which bits they want.
use Rattle.std.proofs.Common.{◌≡◌, ℕ, ◌<◌, ◌≤◌, ◌⊎◌, inl, inr, Bool, true, false, ◌==◌, ◌&&◌, ◌||◌, List, [], ◌∷◌, ◌++◌, map, refl, ap, sym}
use Rattle.std.proofs.Common.{◌∙◌, arith, All}
use Rattle.std.proofs.lemmas.Bool.{ne_eqb, or_parts}
use Rattle.std.proofs.Math.Bool.{and-false, and_assoc, or_assoc}
use Rattle.std.proofs.lemmas.List.Elements.{All-append, All-nil, All-cons, All-weaker, All-head, All-tail}
use Rattle.net_state_enc.specs.declared.codes.Literal.{Literal}
use Rattle.net_state_enc.specs.Codes.{LeafCode, with_front, is_met, are_met, wants, some_selected, bit_of}

-- which leaves are read as selected, and which are
abbrev pub readings : (ℕ → Bool) → List LeafCode → List Bool
readings B es = map (λ (e : LeafCode). are_met B e.needs) es

abbrev pub selections : (ℕ → Bool) → List LeafCode → List Bool
selections S es = map (λ (e : LeafCode). S e.leaf) es

abbrev pub nothing : List LeafCode → List Bool
nothing es = map (λ (e : LeafCode). false) es

-- the bits of literals lie from one place up to another
abbrev pub Within : ℕ → ℕ → List Literal → Type 0
Within lo hi ls = All (λ (l : Literal). (lo ≤ l.bit) × (l.bit < hi)) ls

abbrev pub EachWithin : ℕ → ℕ → List LeafCode → Type 0
EachWithin lo hi es = All (λ (e : LeafCode). Within lo hi e.needs) es

pub are_met-append : (B : ℕ → Bool) (xs ys : List Literal) → are_met B (xs ++ ys) ≡ (are_met B xs && are_met B ys)
are_met-append B [] ys = refl
are_met-append B (x ∷ xs) ys =
    ap (λ b. is_met B x && b) (are_met-append B xs ys) ∙ sym (and_assoc (is_met B x) (are_met B xs) (are_met B ys))

pub wants-append : (i : ℕ) (xs ys : List Literal) → wants i (xs ++ ys) ≡ (wants i xs || wants i ys)
wants-append i [] ys = refl
wants-append i (x ∷ xs) ys =
    ap (λ b. (x.value && x.bit == i) || b) (wants-append i xs ys) ∙ sym (or_assoc (x.value && x.bit == i) (wants i xs) (wants i ys))

pub some_selected-append : (S : ℕ → Bool) (xs ys : List LeafCode) → some_selected S (xs ++ ys) ≡ (some_selected S xs || some_selected S ys)
some_selected-append S [] ys = refl
some_selected-append S (x ∷ xs) ys =
    ap (λ b. S x.leaf || b) (some_selected-append S xs ys) ∙ sym (or_assoc (S x.leaf) (some_selected S xs) (some_selected S ys))

pub some_selected-front : (S : ℕ → Bool) (f : List Literal) (es : List LeafCode) → some_selected S (map (with_front f) es) ≡ some_selected S es
some_selected-front S f [] = refl
some_selected-front S f (e ∷ es) = ap (λ b. S e.leaf || b) (some_selected-front S f es)

pub bit_of-append : (S : ℕ → Bool) (xs ys : List LeafCode) (i : ℕ) → bit_of S (xs ++ ys) i ≡ (bit_of S xs i || bit_of S ys i)
bit_of-append S [] ys i = refl
bit_of-append S (x ∷ xs) ys i =
    ap (λ b. (S x.leaf && wants i x.needs) || b) (bit_of-append S xs ys i) ∙ sym (or_assoc (S x.leaf && wants i x.needs) (bit_of S xs i) (bit_of S ys i))

shuffled : (c w n o r : Bool) → ((c && (w || n)) || ((o && w) || r)) ≡ (((c || o) && w) || ((c && n) || r))
shuffled true true n o r = refl
shuffled true false n o r = ap (λ b. n || (b || r)) (and-false o)
shuffled false w n o r = refl

pub bit_of-front : (S : ℕ → Bool) (f : List Literal) (es : List LeafCode) (i : ℕ)
    → bit_of S (map (with_front f) es) i ≡ ((some_selected S es && wants i f) || bit_of S es i)
bit_of-front S f [] i = refl
bit_of-front S f (e ∷ es) i =
    ap (λ b. (S e.leaf && wants i (f ++ e.needs)) || b) (bit_of-front S f es i)
    ∙ ap (λ b. (S e.leaf && b) || ((some_selected S es && wants i f) || bit_of S es i)) (wants-append i f e.needs)
    ∙ shuffled (S e.leaf) (wants i f) (wants i e.needs) (some_selected S es) (bit_of S es i)

pub bit_of-none : (S : ℕ → Bool) (es : List LeafCode) (i : ℕ) → some_selected S es ≡ false → bit_of S es i ≡ false
bit_of-none S [] i none = refl
bit_of-none S (e ∷ es) i none =
    let both = or_parts (S e.leaf) (some_selected S es) none in
    ap (λ b. (b && wants i e.needs) || bit_of S es i) both.0 ∙ bit_of-none S es i both.1

pub selections-none : (S : ℕ → Bool) (es : List LeafCode) → some_selected S es ≡ false → selections S es ≡ nothing es
selections-none S [] none = refl
selections-none S (e ∷ es) none =
    let both = or_parts (S e.leaf) (some_selected S es) none in
    (λ i. both.0 i ∷ selections-none S es both.1 i)

pub selections-front : (S : ℕ → Bool) (f : List Literal) (es : List LeafCode) → selections S (map (with_front f) es) ≡ selections S es
selections-front S f [] = refl
selections-front S f (e ∷ es) = ap (λ bs. S e.leaf ∷ bs) (selections-front S f es)

pub nothing-front : (f : List Literal) (es : List LeafCode) → nothing (map (with_front f) es) ≡ nothing es
nothing-front f [] = refl
nothing-front f (e ∷ es) = ap (λ bs. false ∷ bs) (nothing-front f es)

pub readings-on : (B : ℕ → Bool) (f : List Literal) (es : List LeafCode) → are_met B f ≡ true → readings B (map (with_front f) es) ≡ readings B es
readings-on B f [] on = refl
readings-on B f (e ∷ es) on =
    (λ i. (are_met-append B f e.needs ∙ ap (λ b. b && are_met B e.needs) on) i ∷ readings-on B f es on i)

pub readings-off : (B : ℕ → Bool) (f : List Literal) (es : List LeafCode) → are_met B f ≡ false
    → readings B (map (with_front f) es) ≡ nothing (map (with_front f) es)
readings-off B f [] off = refl
readings-off B f (e ∷ es) off =
    (λ i. (are_met-append B f e.needs ∙ ap (λ b. b && are_met B e.needs) off) i ∷ readings-off B f es off i)

-- ---- where bits lie

pub wider : (a b c d : ℕ) (ls : List Literal) → c ≤ a → b ≤ d → Within a b ls → Within c d ls
wider a b c d ls low high w =
    All-weaker (λ (l : Literal). (a ≤ l.bit) × (l.bit < b)) (λ (l : Literal). (c ≤ l.bit) × (l.bit < d)) (λ l h. (omega (arith, h.0), omega (arith, h.1))) ls w

pub each-wider : (a b c d : ℕ) (es : List LeafCode) → c ≤ a → b ≤ d → EachWithin a b es → EachWithin c d es
each-wider a b c d es low high w =
    All-weaker (λ (e : LeafCode). Within a b e.needs) (λ (e : LeafCode). Within c d e.needs) (λ e h. wider a b c d e.needs low high h) es w

pub each-front : (lo hi : ℕ) (f : List Literal) (es : List LeafCode) → Within lo hi f → EachWithin lo hi es → EachWithin lo hi (map (with_front f) es)
each-front lo hi f [] w ws = All-nil (λ (e : LeafCode). Within lo hi e.needs)
each-front lo hi f (e ∷ es) w ws =
    All-cons (λ (x : LeafCode). Within lo hi x.needs) (with_front f e) (map (with_front f) es)
    (All-append (λ (l : Literal). (lo ≤ l.bit) × (l.bit < hi)) f e.needs w (All-head (λ (x : LeafCode). Within lo hi x.needs) e es ws))
    (each-front lo hi f es w (All-tail (λ (x : LeafCode). Within lo hi x.needs) e es ws))

pub wants-out : (lo hi i : ℕ) (ls : List Literal) → Within lo hi ls → (i < lo) ⊎ (hi ≤ i) → wants i ls ≡ false
wants-out lo hi i [] w out = refl
wants-out lo hi i (l ∷ ls) w out =
    let here = All-head (λ (x : Literal). (lo ≤ x.bit) × (x.bit < hi)) l ls w in
    let rest = wants-out lo hi i ls (All-tail (λ (x : Literal). (lo ≤ x.bit) × (x.bit < hi)) l ls w) out in
    let other : (l.bit == i) ≡ false = ne_eqb l.bit i (λ e. elim out [ inl h ↦ omega (arith, e, h, here.0) | inr h ↦ omega (arith, e, h, here.1) ]) in
    (λ j. (l.value && other j) || rest j) ∙ ap (λ b. b || false) (and-false l.value)

pub bit_of-out : (S : ℕ → Bool) (lo hi i : ℕ) (es : List LeafCode) → EachWithin lo hi es → (i < lo) ⊎ (hi ≤ i) → bit_of S es i ≡ false
bit_of-out S lo hi i [] w out = refl
bit_of-out S lo hi i (e ∷ es) w out =
    let here = wants-out lo hi i e.needs (All-head (λ (x : LeafCode). Within lo hi x.needs) e es w) out in
    let rest = bit_of-out S lo hi i es (All-tail (λ (x : LeafCode). Within lo hi x.needs) e es w) out in
    (λ j. (S e.leaf && here j) || rest j) ∙ ap (λ b. b || false) (and-false (S e.leaf))
