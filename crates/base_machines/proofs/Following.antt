-- Runs of machines that agree, and of machines of which one follows the other.
use Rattle.std.proofs.Common.{◌≡◌, Bool, List, [], ◌∷◌, map, refl, ◌∙◌, sym}
use Rattle.std.specs.List.{AllZip}
use Rattle.base_types.specs.Items.{Item, Event, Reset, EachEvent}
use Rattle.base_machines.specs.Machines.{Machine, IsRunFrom, Agrees, Follows, within}

-- any two runs of machines that agree are the same, instant by instant
pub agree-from : {X Y : Type 0} → (A : Machine X) (B : Machine Y) (Fits : List Bool → Type 0) (Same : X → Y → Type 0)
    → (Match : A.State → B.State → Type 0) → Agrees A B Fits Same Match → (s : A.State) (t : B.State) (items : List Item) (xs : List X) (ys : List Y)
    → Match s t → EachEvent Fits items → IsRunFrom A s items xs → IsRunFrom B t items ys → AllZip Same xs ys
agree-from A B Fits Same Match agrees s t [] [] [] m fits a b = tt
agree-from A B Fits Same Match agrees s t [] [] (y ∷ ys) m fits a b = absurd b
agree-from A B Fits Same Match agrees s t [] (x ∷ xs) ys m fits a b = absurd a
agree-from A B Fits Same Match agrees s t (Event inputs ∷ items) [] ys m fits a b = absurd a
agree-from A B Fits Same Match agrees s t (Event inputs ∷ items) (x ∷ xs) [] m fits a b = absurd b
agree-from A B Fits Same Match agrees s t (Event inputs ∷ items) (x ∷ xs) (y ∷ ys) m fits a b =
    let step = agrees.steps s t inputs x y m fits.0 a.0 b.0 in
    (step.0, agree-from A B Fits Same Match agrees (A.next s inputs x) (B.next t inputs y) items xs ys step.1 fits.1 a.1 b.1)
agree-from A B Fits Same Match agrees s t (Reset ∷ items) xs ys m fits a b =
    agree-from A B Fits Same Match agrees A.start B.start items xs ys agrees.starts fits a b

-- a run of a machine gives one of each machine that follows it
pub moves-from : {X Y : Type 0} → (A : Machine X) (B : Machine Y) (Fits : List Bool → Type 0) (Same : X → Y → Type 0)
    → (Match : A.State → B.State → Type 0) → Follows A B Fits Same Match → (s : A.State) (t : B.State) (items : List Item) (xs : List X)
    → Match s t → EachEvent Fits items → IsRunFrom A s items xs → (ys : List Y) × IsRunFrom B t items ys
moves-from A B Fits Same Match follows s t [] [] m fits a = ([], tt)
moves-from A B Fits Same Match follows s t [] (x ∷ xs) m fits a = absurd a
moves-from A B Fits Same Match follows s t (Event inputs ∷ items) [] m fits a = absurd a
moves-from A B Fits Same Match follows s t (Event inputs ∷ items) (x ∷ xs) m fits a =
    let y = follows.moves s t inputs x m fits.0 a.0 in
    let step = follows.agrees.steps s t inputs x y.0 m fits.0 a.0 y.1 in
    let more = moves-from A B Fits Same Match follows (A.next s inputs x) (B.next t inputs y.0) items xs step.1 fits.1 a.1 in
    (y.0 ∷ more.0, (y.1, more.1))
moves-from A B Fits Same Match follows s t (Reset ∷ items) xs m fits a =
    moves-from A B Fits Same Match follows A.start B.start items xs follows.agrees.starts fits a

-- C follows A where B follows A, and C follows B in those instants alone of which Q holds, as it does of those that match
pub follows-within : {X Y Z : Type 0} → (A : Machine X) (B : Machine Y) (C : Machine Z) (Fits : List Bool → Type 0) (Same : X → Y → Type 0)
    → (Alike : Y → Z → Type 0) (Match : A.State → B.State → Type 0) (Q : B.State → Y → Type 0) (Meet : B.State → C.State → Type 0)
    → Follows A B Fits Same Match
    → ((s : A.State) (t : B.State) (inputs : List Bool) (x : X) (y : Y) → Match s t → Fits inputs → A.instant s inputs x → B.instant t inputs y → Q t y)
    → Follows (within B Q) C Fits Alike Meet
    → Follows A C Fits (λ x z. (y : Y) × Same x y × Alike y z) (λ s u. (t : B.State) × Match s t × Meet t u)
follows-within A B C Fits Same Alike Match Q Meet f q g = record {
  agrees = record {
    starts = (B.start, f.agrees.starts, g.agrees.starts);
    steps = λ s u inputs x z m fits a c.
        let y = f.moves s m.0 inputs x m.1 fits a in
        let one = f.agrees.steps s m.0 inputs x y.0 m.1 fits a y.1 in
        let two = g.agrees.steps m.0 u inputs y.0 z m.2 fits (y.1, q s m.0 inputs x y.0 m.1 fits a y.1) c in
        ((y.0, one.0, two.0), (B.next m.0 inputs y.0, one.1, two.1));
  };
  moves = λ s u inputs x m fits a.
      let y = f.moves s m.0 inputs x m.1 fits a in
      g.moves m.0 u inputs y.0 m.2 fits (y.1, q s m.0 inputs x y.0 m.1 fits a y.1);
}

-- following is transitive
pub follows-twice : {X Y Z : Type 0} → (A : Machine X) (B : Machine Y) (C : Machine Z) (Fits : List Bool → Type 0) (Same : X → Y → Type 0)
    → (Alike : Y → Z → Type 0) (Match : A.State → B.State → Type 0) (Meet : B.State → C.State → Type 0)
    → Follows A B Fits Same Match → Follows B C Fits Alike Meet
    → Follows A C Fits (λ x z. (y : Y) × Same x y × Alike y z) (λ s u. (t : B.State) × Match s t × Meet t u)
follows-twice A B C Fits Same Alike Match Meet f g = record {
  agrees = record {
    starts = (B.start, f.agrees.starts, g.agrees.starts);
    steps = λ s u inputs x z m fits a c.
        let y = f.moves s m.0 inputs x m.1 fits a in
        let one = f.agrees.steps s m.0 inputs x y.0 m.1 fits a y.1 in
        let two = g.agrees.steps m.0 u inputs y.0 z m.2 fits y.1 c in
        ((y.0, one.0, two.0), (B.next m.0 inputs y.0, one.1, two.1));
  };
  moves = λ s u inputs x m fits a.
      let y = f.moves s m.0 inputs x m.1 fits a in
      g.moves m.0 u inputs y.0 m.2 fits y.1;
}

-- a run of the narrower machine is one of the machine
pub runs-widen : {X : Type 0} → (M : Machine X) (Q : M.State → X → Type 0) (s : M.State) (items : List Item) (xs : List X)
    → IsRunFrom (within M Q) s items xs → IsRunFrom M s items xs
runs-widen M Q s [] [] run = tt
runs-widen M Q s [] (x ∷ xs) run = absurd run
runs-widen M Q s (Event inputs ∷ items) [] run = absurd run
runs-widen M Q s (Event inputs ∷ items) (x ∷ xs) run = (run.0.0, runs-widen M Q (M.next s inputs x) items xs run.1)
runs-widen M Q s (Reset ∷ items) xs run = runs-widen M Q M.start items xs run
