-- What locals, outputs and states are after statements, one after another.
use Rattle.std.proofs.Common.{◌≡◌, ℕ, ◌<◌, zero, suc, Bool, true, false, not, List, [], ◌∷◌, ◌++◌, length, map, get_or, refl, ap, ◌∙◌, arith}
use Rattle.std.specs.Prelude.{if◌then◌else◌}
use Rattle.std.proofs.lemmas.Bool.{and_parts, or_parts, or_from, not-true}
use Rattle.base_types.specs.Distinct.{all_differ}
use Rattle.base_types.specs.Names.{is_same_name}
use Rattle.base_types.proofs.Exports.{same_name-self}
use Rattle.net_ir.specs.NameLists.{is_among}
use Rattle.net_ir.proofs.Exports.{any-none}
use Rattle.std.specs.Cmp.Lexicographic.{nat_list_eq_equiv}
use Rattle.csub_text.specs.Machine.{Memory, with_value}
use Rattle.csub_embed.specs.Machine.{Frame, place_value, value_at, run_locals, run_shown, run_kept, reset, with_given}
use Rattle.csub_embed.specs.Names.{name_of_local}
use Rattle.csub_embed.specs.Trees.{StateVariable, Place, State, Given, Local, Copy, LocalValue, Transfer, name_of_state}

-- ---- locals

pub locals-append : (xs ys : List LocalValue) (f : Frame) → run_locals (xs ++ ys) f ≡ run_locals ys (run_locals xs f)
locals-append [] ys f = refl
locals-append (l ∷ xs) ys f = locals-append xs ys (record f { local = with_value l.name (value_at f l.value) f.local })

-- the members of the structures stay, and a local that is not declared again
pub record Stays (before behind : Frame) : Type 0 where
  pub state : behind.state ≡ before.state
  pub given : behind.given ≡ before.given
  pub shown : behind.shown ≡ before.shown

pub locals-stay : (locals : List LocalValue) (f : Frame) → Stays f (run_locals locals f)
locals-stay [] f = record { state = refl; given = refl; shown = refl }
locals-stay (l ∷ locals) f =
    let rest = locals-stay locals (record f { local = with_value l.name (value_at f l.value) f.local }) in
    record { state = rest.state; given = rest.given; shown = rest.shown }

pub local-other : (locals : List LocalValue) (f : Frame) (x : List ℕ) → is_among x (map name_of_local locals) ≡ false
    → (run_locals locals f).local x ≡ f.local x
local-other [] f x none = refl
local-other (l ∷ locals) f x none =
    let parts = or_parts (is_same_name x l.name) (is_among x (map name_of_local locals)) none in
    local-other locals (record f { local = with_value l.name (value_at f l.value) f.local }) x parts.1
    ∙ ap (λ b. if b then value_at f l.value else f.local x) parts.0

-- a place whose value is the same behind some locals
abbrev pub Past : List LocalValue → Place → Type 0
Past locals (State name) = Unit {0}
Past locals (Given name) = Unit {0}
Past locals (Local name) = is_among name (map name_of_local locals) ≡ false

pub place-past : (locals : List LocalValue) (f : Frame) (p : Place) → Past locals p → place_value (run_locals locals f) p ≡ place_value f p
place-past locals f (State name) past = ap (λ m. m name) (locals-stay locals f).state
place-past locals f (Given name) past = ap (λ m. m name) (locals-stay locals f).given
place-past locals f (Local name) past = local-other locals f name past

past-first : (l : LocalValue) (locals : List LocalValue) (p : Place) → Past (l ∷ locals) p → Past (l ∷ []) p
past-first l locals (State name) past = tt
past-first l locals (Given name) past = tt
past-first l locals (Local name) past =
    let parts = or_parts (is_same_name name l.name) (is_among name (map name_of_local locals)) past in or_from (is_same_name name l.name) false parts.0 refl

past-rest : (l : LocalValue) (locals : List LocalValue) (p : Place) → Past (l ∷ locals) p → Past locals p
past-rest l locals (State name) past = tt
past-rest l locals (Given name) past = tt
past-rest l locals (Local name) past = (or_parts (is_same_name name l.name) (is_among name (map name_of_local locals)) past).1

-- a local that is declared with the value of such a place
pub locals-copy : (locals : List LocalValue) (f : Frame) → all_differ is_same_name (map name_of_local locals) ≡ true → (k : ℕ) (d : LocalValue) (p : Place)
    → k < length locals → (get_or locals k d).value ≡ Copy p → Past locals p → (run_locals locals f).local (get_or locals k d).name ≡ place_value f p
locals-copy [] f differ k d p h is past = absurd (omega arith)
locals-copy (l ∷ locals) f differ zero d p h is past =
    let parts = and_parts (not (is_among l.name (map name_of_local locals))) (all_differ is_same_name (map name_of_local locals)) differ in
    local-other locals (record f { local = with_value l.name (value_at f l.value) f.local }) l.name
    (not-true (is_among l.name (map name_of_local locals)) parts.0)
    ∙ ap (λ b. if b then value_at f l.value else f.local l.name) (same_name-self l.name) ∙ ap (value_at f) is
locals-copy (l ∷ locals) f differ (suc k) d p h is past =
    let parts = and_parts (not (is_among l.name (map name_of_local locals))) (all_differ is_same_name (map name_of_local locals)) differ in
    locals-copy locals (record f { local = with_value l.name (value_at f l.value) f.local }) parts.1 k d p (omega arith) is (past-rest l locals p past)
    ∙ place-past (l ∷ []) f p (past-first l locals p past)

-- ---- outputs

-- setting outputs changes no place
pub shown-place : (stores : List Transfer) (f : Frame) (p : Place) → place_value (run_shown stores f) p ≡ place_value f p
shown-place [] f (State name) = refl
shown-place [] f (Given name) = refl
shown-place [] f (Local name) = refl
shown-place (s ∷ stores) f (State name) = shown-place stores (record f { shown = with_value s.member (place_value f s.from) f.shown }) (State name)
shown-place (s ∷ stores) f (Given name) = shown-place stores (record f { shown = with_value s.member (place_value f s.from) f.shown }) (Given name)
shown-place (s ∷ stores) f (Local name) = shown-place stores (record f { shown = with_value s.member (place_value f s.from) f.shown }) (Local name)

abbrev pub members : List Transfer → List (List ℕ)
members stores = map (λ s. s.member) stores

pub shown-other : (stores : List Transfer) (f : Frame) (x : List ℕ) → is_among x (members stores) ≡ false → (run_shown stores f).shown x ≡ f.shown x
shown-other [] f x none = refl
shown-other (s ∷ stores) f x none =
    let parts = or_parts (is_same_name x s.member) (is_among x (members stores)) none in
    shown-other stores (record f { shown = with_value s.member (place_value f s.from) f.shown }) x parts.1
    ∙ ap (λ b. if b then place_value f s.from else f.shown x) parts.0

pub shown-set : (stores : List Transfer) (f : Frame) → all_differ is_same_name (members stores) ≡ true → (k : ℕ) (d : Transfer) → k < length stores
    → (run_shown stores f).shown (get_or stores k d).member ≡ place_value f (get_or stores k d).from
shown-set [] f differ k d h = absurd (omega arith)
shown-set (s ∷ stores) f differ zero d h =
    let parts = and_parts (not (is_among s.member (members stores))) (all_differ is_same_name (members stores)) differ in
    shown-other stores (record f { shown = with_value s.member (place_value f s.from) f.shown }) s.member
    (not-true (is_among s.member (members stores)) parts.0)
    ∙ ap (λ b. if b then place_value f s.from else f.shown s.member) (same_name-self s.member)
shown-set (s ∷ stores) f differ (suc k) d h =
    let parts = and_parts (not (is_among s.member (members stores))) (all_differ is_same_name (members stores)) differ in
    let g : Frame = record f { shown = with_value s.member (place_value f s.from) f.shown } in
    shown-set stores g parts.1 k d (omega arith) ∙ shown-place (s ∷ []) f (get_or stores k d).from

-- ---- states

-- setting states changes no output, and no local
pub kept-shown : (stores : List Transfer) (f : Frame) → (run_kept stores f).shown ≡ f.shown
kept-shown [] f = refl
kept-shown (s ∷ stores) f = kept-shown stores (record f { state = with_value s.member (place_value f s.from) f.state })

pub kept-local : (stores : List Transfer) (f : Frame) → (run_kept stores f).local ≡ f.local
kept-local [] f = refl
kept-local (s ∷ stores) f = kept-local stores (record f { state = with_value s.member (place_value f s.from) f.state })

pub kept-other : (stores : List Transfer) (f : Frame) (x : List ℕ) → is_among x (members stores) ≡ false → (run_kept stores f).state x ≡ f.state x
kept-other [] f x none = refl
kept-other (s ∷ stores) f x none =
    let parts = or_parts (is_same_name x s.member) (is_among x (members stores)) none in
    kept-other stores (record f { state = with_value s.member (place_value f s.from) f.state }) x parts.1
    ∙ ap (λ b. if b then place_value f s.from else f.state x) parts.0

-- states that are set from locals
pub kept-set : (stores : List Transfer) (f : Frame) → all_differ is_same_name (members stores) ≡ true → (k : ℕ) (d : Transfer) (x : List ℕ) → k < length stores
    → (get_or stores k d).from ≡ Local x → (run_kept stores f).state (get_or stores k d).member ≡ f.local x
kept-set [] f differ k d x h is = absurd (omega arith)
kept-set (s ∷ stores) f differ zero d x h is =
    let parts = and_parts (not (is_among s.member (members stores))) (all_differ is_same_name (members stores)) differ in
    kept-other stores (record f { state = with_value s.member (place_value f s.from) f.state }) s.member
    (not-true (is_among s.member (members stores)) parts.0)
    ∙ ap (λ b. if b then place_value f s.from else f.state s.member) (same_name-self s.member) ∙ ap (place_value f) is
kept-set (s ∷ stores) f differ (suc k) d x h is =
    let parts = and_parts (not (is_among s.member (members stores))) (all_differ is_same_name (members stores)) differ in
    kept-set stores (record f { state = with_value s.member (place_value f s.from) f.state }) parts.1 k d x (omega arith) is

-- ---- inputs

pub given-at : (names : List (List ℕ)) (values : List Bool) (m : Memory) → all_differ is_same_name names ≡ true → length values ≡ length names
    → (k : ℕ) → k < length names → with_given names values m (get_or names k []) ≡ get_or values k false
given-at [] values m differ wide k h = absurd (omega arith)
given-at (n ∷ names) [] m differ wide k h = absurd (omega arith)
given-at (n ∷ names) (v ∷ values) m differ wide zero h = ap (λ b. if b then v else with_given names values m n) (same_name-self n)
given-at (n ∷ names) (v ∷ values) m differ wide (suc k) h =
    let parts = and_parts (not (is_among n names)) (all_differ is_same_name names) differ in
    let other : is_same_name (get_or names k []) n ≡ false =
    nat_list_eq_equiv.symm (get_or names k []) n
    ∙ any-none (is_same_name n) names (not-true (is_among n names) parts.0) k [] (omega arith) in
    ap (λ b. if b then v else with_given names values m (get_or names k [])) other ∙ given-at names values m parts.1 (omega arith) k (omega arith)

-- ---- the reset

pub reset-other : (states : List StateVariable) (m : Memory) (x : List ℕ) → is_among x (map name_of_state states) ≡ false → reset states m x ≡ m x
reset-other [] m x none = refl
reset-other (s ∷ states) m x none =
    let parts = or_parts (is_same_name x s.name) (is_among x (map name_of_state states)) none in
    reset-other states (with_value s.name s.init m) x parts.1 ∙ ap (λ b. if b then s.init else m x) parts.0

pub reset-set : (states : List StateVariable) (m : Memory) → all_differ is_same_name (map name_of_state states) ≡ true → (k : ℕ) (d : StateVariable)
    → k < length states → reset states m (get_or states k d).name ≡ (get_or states k d).init
reset-set [] m differ k d h = absurd (omega arith)
reset-set (s ∷ states) m differ zero d h =
    let parts = and_parts (not (is_among s.name (map name_of_state states))) (all_differ is_same_name (map name_of_state states)) differ in
    reset-other states (with_value s.name s.init m) s.name (not-true (is_among s.name (map name_of_state states)) parts.0)
    ∙ ap (λ b. if b then s.init else m s.name) (same_name-self s.name)
reset-set (s ∷ states) m differ (suc k) d h =
    let parts = and_parts (not (is_among s.name (map name_of_state states))) (all_differ is_same_name (map name_of_state states)) differ in
    reset-set states (with_value s.name s.init m) parts.1 k d (omega arith)
