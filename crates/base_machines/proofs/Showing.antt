-- What is seen of machines over items: through one that follows, of one that computes, and item by item.
use Rattle.std.proofs.Common.{◌≡◌, Bool, List, [], ◌∷◌, map, refl, sym, ap, ◌∙◌, subst}
use Rattle.std.specs.List.{AllZip}
use Rattle.base_types.specs.Items.{Item, Event, Reset, EachEvent}
use Rattle.base_machines.specs.Machines.{Machine, IsRunFrom, Shows, Agrees, Follows, computed, run_from}
use Rattle.base_machines.proofs.Following.{agree-from, moves-from}

-- the same is seen where what is the same is seen alike
seen-alike : {X Y V : Type 0} → (Same : X → Y → Type 0) (see : X → V) (look : Y → V) (xs : List X) (ys : List Y)
    → ((x : X) (y : Y) → Same x y → look y ≡ see x) → AllZip Same xs ys → map look ys ≡ map see xs
seen-alike Same see look [] [] alike same = refl
seen-alike Same see look [] (y ∷ ys) alike same = absurd same
seen-alike Same see look (x ∷ xs) [] alike same = absurd same
seen-alike Same see look (x ∷ xs) (y ∷ ys) alike same =
    ap (λ v. v ∷ map look ys) (alike x y same.0) ∙ ap (λ l. see x ∷ l) (seen-alike Same see look xs ys alike same.1)

-- what a machine shows is seen of each machine that follows it
pub shows-through : {X Y V : Type 0} → (A : Machine X) (B : Machine Y) (Fits : List Bool → Type 0) (Same : X → Y → Type 0)
    → (Match : A.State → B.State → Type 0) (see : X → V) (look : Y → V) → Follows A B Fits Same Match → ((x : X) (y : Y) → Same x y → look y ≡ see x)
    → (s : A.State) (t : B.State) (items : List Item) (seen : List V) → Match s t → EachEvent Fits items → Shows A see s items seen
    → Shows B look t items seen
shows-through A B Fits Same Match see look follows alike s t items seen m fits shows =
    let run = shows.some_run in record {
      some_run = moves-from A B Fits Same Match follows s t items run.0 m fits run.1;
      each_run = λ ys other.
          shows.each_run run.0 run.1
          ∙ sym (seen-alike Same see look run.0 ys alike (agree-from A B Fits Same Match follows.agrees s t items run.0 ys m fits run.1 other));
    }

-- a machine shows one thing over items
pub told-same : {X V : Type 0} → (M : Machine X) (see : X → V) (s : M.State) (items : List Item) (seen others : List V) → Shows M see s items seen
    → Shows M see s items others → others ≡ seen
told-same M see s items seen others a b = b.each_run a.some_run.0 a.some_run.1 ∙ sym (a.each_run a.some_run.0 a.some_run.1)

-- ---- a machine that computes

pub computed-runs : {S X : Type 0} → (start : S) (value : S → List Bool → X) (next : S → List Bool → X → S) (s : S) (items : List Item)
    → IsRunFrom (computed start value next) s items (run_from start value next s items)
computed-runs start value next s [] = tt
computed-runs start value next s (Event inputs ∷ items) = (refl, computed-runs start value next (next s inputs (value s inputs)) items)
computed-runs start value next s (Reset ∷ items) = computed-runs start value next start items

pub computed-only : {S X : Type 0} → (start : S) (value : S → List Bool → X) (next : S → List Bool → X → S) (s : S) (items : List Item) (xs : List X)
    → IsRunFrom (computed start value next) s items xs → xs ≡ run_from start value next s items
computed-only start value next s [] [] run = refl
computed-only start value next s [] (x ∷ xs) run = absurd run
computed-only start value next s (Event inputs ∷ items) [] run = absurd run
computed-only {S} {X} start value next s (Event inputs ∷ items) (x ∷ xs) run =
    let rest = λ (v : X). run_from start value next (next s inputs v) items in
    ap (λ l. x ∷ l) (computed-only start value next (next s inputs x) items xs run.1) ∙ ap (λ v. v ∷ rest v) run.0
computed-only start value next s (Reset ∷ items) xs run = computed-only start value next start items xs run

pub shows-computed : {S X V : Type 0} → (start : S) (value : S → List Bool → X) (next : S → List Bool → X → S) (see : X → V) (s : S) (items : List Item)
    → Shows (computed start value next) see s items (map see (run_from start value next s items))
shows-computed start value next see s items = record {
  some_run = (run_from start value next s items, computed-runs start value next s items);
  each_run = λ xs run. ap (map see) (sym (computed-only start value next s items xs run));
}

pub computed-shows : {S X V : Type 0} → (start : S) (value : S → List Bool → X) (next : S → List Bool → X → S) (see : X → V) (s : S) (items : List Item)
    → (seen : List V) → Shows (computed start value next) see s items seen → seen ≡ map see (run_from start value next s items)
computed-shows start value next see s items seen shows =
    shows.each_run (run_from start value next s items) (computed-runs start value next s items)

-- ---- item by item

pub shows-nothing : {X V : Type 0} → (M : Machine X) (see : X → V) (s : M.State) → Shows M see s [] []
shows-nothing {X} M see s = record { some_run = ([], tt); each_run = none }
  where
    none : (xs : List X) → IsRunFrom M s [] xs → [] ≡ map see xs
    none [] run = refl
    none (x ∷ xs) run = absurd run

pub shows-reset : {X V : Type 0} → (M : Machine X) (see : X → V) (s : M.State) (items : List Item) (seen : List V) → Shows M see M.start items seen
    → Shows M see s (Reset ∷ items) seen
shows-reset M see s items seen shows = record { some_run = shows.some_run; each_run = shows.each_run }

-- an event, where each instant that there may be shows the same, and so does what comes behind it
pub shows-event : {X V : Type 0} → (M : Machine X) (see : X → V) (s : M.State) (inputs : List Bool) (items : List Item) (v : V) (seen : List V)
    → (x : X) → M.instant s inputs x
    → ((y : X) → M.instant s inputs y → (see y ≡ v) × Shows M see (M.next s inputs y) items seen)
    → Shows M see s (Event inputs ∷ items) (v ∷ seen)
shows-event {X} {V} M see s inputs items v seen x is each = record {
  some_run = let more = (each x is).1.some_run in (x ∷ more.0, (is, more.1));
  each_run = by_run;
}
  where
    by_run : (xs : List X) → IsRunFrom M s (Event inputs ∷ items) xs → v ∷ seen ≡ map see xs
    by_run [] run = absurd run
    by_run (y ∷ ys) run =
        let here = each y run.0 in ap (λ w. w ∷ seen) (sym here.0) ∙ ap (λ l. see y ∷ l) (here.1.each_run ys run.1)
