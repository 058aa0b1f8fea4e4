-- Inner: what is shown in an instant of a machine, where all its valuations agree on some names.
use Rattle.std.proofs.Common.{◌≡◌, ℕ, Bool, true, false, List, [], ◌∷◌, map, get_or, refl, sym, ap, ◌∙◌, subst}
use Rattle.std.specs.List.{AllByRecursion, position_or_len}
use Rattle.std.proofs.lemmas.List.{get_or-map}
use Rattle.base_types.specs.Items.{Item, Event}
use Rattle.base_types.specs.Names.{is_same_name}
use Rattle.base_machines.specs.Machines.{Machine, Shows}
use Rattle.base_machines.proofs.Exports.{shows-event}
use Rattle.net_ir.specs.NameLists.{is_among}
use Rattle.net_ir.proofs.Exports.{found-low, found-at}

-- valuations that agree on names agree on each of them
agree-at : (v w : List ℕ → Bool) (names : List (List ℕ)) → map v names ≡ map w names → (x : List ℕ) → is_among x names ≡ true → v x ≡ w x
agree-at v w names same x among =
    let k = position_or_len (is_same_name x) names in
    let low = found-low x names among in
    let at = found-at x names among in
    ap v (sym at) ∙ sym (get_or-map v names k [] false low) ∙ ap (λ l. get_or l k false) same ∙ get_or-map w names k [] false low ∙ ap w at

agree-along : (v w : List ℕ → Bool) (names : List (List ℕ)) → map v names ≡ map w names → (xs : List (List ℕ))
    → AllByRecursion (λ x. is_among x names ≡ true) xs → map v xs ≡ map w xs
agree-along v w names same [] all = refl
agree-along v w names same (x ∷ xs) all = let here = agree-at v w names same x all.0 in rw (here, agree-along v w names same xs all.1) refl

-- what a valuation shows is told by the values of outputs, and the next state by those of sources: an event is in front
pub event-told : {V : Type 0} (M : Machine (List ℕ → Bool)) (see : (List ℕ → Bool) → V) (tell : List Bool → V) (next : List Bool → M.State)
    (names outputs sources : List (List ℕ)) (s : M.State) (inputs : List Bool) (u : List ℕ → Bool)
    → ((v : List ℕ → Bool) → see v ≡ tell (map v outputs)) → ((v : List ℕ → Bool) → M.next s inputs v ≡ next (map v sources))
    → M.instant s inputs u → ((v : List ℕ → Bool) → M.instant s inputs v → map v names ≡ map u names)
    → AllByRecursion (λ x. is_among x names ≡ true) outputs → AllByRecursion (λ x. is_among x names ≡ true) sources
    → (items : List Item) (seen : List V) → Shows M see (next (map u sources)) items seen
    → Shows M see s (Event inputs ∷ items) (tell (map u outputs) ∷ seen)
event-told {V} M see tell next names outputs sources s inputs u sees follows here only among_outputs among_sources items seen behind =
    let each : (v : List ℕ → Bool) → M.instant s inputs v → (see v ≡ tell (map u outputs)) × Shows M see (M.next s inputs v) items seen = λ v is.
    let same = only v is in (
      sees v ∙ ap tell (agree-along v u names same outputs among_outputs),
      subst (λ t. Shows M see t items seen) (sym (follows v ∙ ap next (agree-along v u names same sources among_sources))) behind,
    )
    in
    shows-event M see s inputs items (tell (map u outputs)) seen u here each
