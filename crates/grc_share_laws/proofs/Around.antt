-- A statement and those around it: their layers, and the keys of these.
use Rattle.std.proofs.Common.{◌≡◌, ℕ, ◌+◌, ◌<◌, ◌≤◌, ◌⊎◌, ◌&&◌, ◌==◌, Bool, true, false, cond, List, [], ◌∷◌, ◌++◌, refl, sym, ap, ◌∙◌, subst, inl, inr}
use Rattle.std.proofs.Common.{⊎_elim, arith}
use Rattle.std.specs.Prelude.{All, nat_lt}
use Rattle.std.specs.List.{list_any}
use Rattle.std.proofs.lemmas.Bool.{and_parts, cases_lt, cases_Bool, eq-eqb, eqb-true, false≢true, or_cases, or_left, or_right}
use Rattle.std.proofs.lemmas.List.Elements.{All-head, All-tail}
use Rattle.est_kernel.specs.Plain.{Program, interface_count}
use Rattle.est_kernel.specs.Preorder.{statement_count}
use Rattle.est_kernel.specs.StaticCodes.{started_codes, resumed_codes}
use Rattle.est_kernel.specs.Terms.{Term, Nothing, Pause, Emit, Exit, Present, Suspend, Seq, Loop, Par, Trap, Local, Awake}
use Rattle.est_kernel.specs.WellFormed.{IsKernel}
use Rattle.grc_graph.specs.GraphRuns.{SolvesGraph, graph_of}
use Rattle.grc_graph.specs.Layers.{Layer, Resumed, Started, Liveness, body_liveness, layer_above, root_if}
use Rattle.grc_graph.specs.Readings.{Valuation}
use Rattle.grc_graph.specs.Rows.{Row, live_in, program_rows, row, row_at, second_of}
use Rattle.grc_graph.specs.Scopes.{Scope, BoundAt, bind, program_scope, Entering, Outgoing, Unbound}
use Rattle.grc_graph.specs.Selected.{HasExitCodes, IsState}
use Rattle.grc_graph.specs.Statements.{Entry, Body, Part, Branch, Then, Else, Suspended, Second, Looped}
use Rattle.grc_graph.specs.Walk.{State}
use Rattle.grc_graph.specs.Wires.{Go}
use Rattle.est_kernel.proofs.Exports.{statement_count-pos}
use Rattle.grc_graph.proofs.Exports.{Entered, PartOf, program_placed, IsGo, LiveAt, wire_only, RootsFit, above_behind, above_within, length-program_rows}
use Rattle.grc_graph.proofs.Exports.{row_read, stands_whole}
use Rattle.grc_solutions_laws.specs.GraphWalks.{IsWalkOf}
use Rattle.grc_share.specs.SharedInstances.{body_sharing, key, one_instance}
use Rattle.grc_share.proofs.Exports.{Told, program_tells, body_keys_rise, KeysRise, program_gives}
use Rattle.grc_share_laws.proofs.Exclusion.{Descends, Restarts, Runs}
use Rattle.grc_share_laws.proofs.Excluded.{live}
use Rattle.grc_share_laws.proofs.Reached.{Goes, Kids, Parts, Site, each_part, each_statement}
use Rattle.grc_share_laws.proofs.Running.{Under, each, there}

-- ---- lists of roots

abbrev pub Among : ℕ → List ℕ → Type 0
Among r rs = list_any (λ s. s == r) rs ≡ true

among-parts : (r : ℕ) (xs ys : List ℕ) → Among r (xs ++ ys) → Among r xs ⊎ Among r ys
among-parts r [] ys h = inr h
among-parts r (x ∷ xs) ys h =
    ⊎_elim (λ e. inl (or_left (x == r) (list_any (λ s. s == r) xs) e))
    (λ e. ⊎_elim (λ i. inl (or_right (x == r) (list_any (λ s. s == r) xs) i)) (λ i. inr i) (among-parts r xs ys e))
    (or_cases (x == r) (list_any (λ s. s == r) (xs ++ ys)) h)

pub among-left : (r : ℕ) (xs ys : List ℕ) → Among r xs → Among r (xs ++ ys)
among-left r [] ys h = absurd (false≢true h)
among-left r (x ∷ xs) ys h =
    ⊎_elim (λ e. or_left (x == r) (list_any (λ s. s == r) (xs ++ ys)) e)
    (λ e. or_right (x == r) (list_any (λ s. s == r) (xs ++ ys)) (among-left r xs ys e))
    (or_cases (x == r) (list_any (λ s. s == r) xs) h)

pub among-right : (r : ℕ) (xs ys : List ℕ) → Among r ys → Among r (xs ++ ys)
among-right r [] ys h = h
among-right r (x ∷ xs) ys h = or_right (x == r) (list_any (λ s. s == r) (xs ++ ys)) (among-right r xs ys h)

among-if : (r m : ℕ) (b : Bool) → Among r (root_if b m) → (r ≡ m) × (b ≡ true)
among-if r m true h = ⊎_elim (λ e. (sym (eqb-true m r e), refl)) (λ e. absurd (false≢true e)) (or_cases (m == r) false h)
among-if r m false h = absurd (false≢true h)

pub among-own : (m : ℕ) (b : Bool) → b ≡ true → Among m (root_if b m)
among-own m true e = or_left (m == m) false (eq-eqb m m refl)
among-own m false e = absurd (false≢true e)

among-cond : (r : ℕ) (b : Bool) (xs : List ℕ) → Among r (cond b xs []) → (b ≡ true) × Among r xs
among-cond r true xs h = (refl, h)
among-cond r false xs h = absurd (false≢true h)

pub among-given : (r : ℕ) (b : Bool) (xs : List ℕ) → b ≡ true → Among r xs → Among r (cond b xs [])
among-given r true xs e h = h
among-given r false xs e h = absurd (false≢true e)

-- the roots of a part that has a root of its own
pub own-roots : (r c : ℕ) (some own : Bool) (rs : List ℕ) → Among r (cond some rs [] ++ root_if own c)
    → ((some ≡ true) × Among r rs) ⊎ ((r ≡ c) × (own ≡ true))
own-roots r c some own rs h =
    ⊎_elim (λ e. inl (among-cond r some rs e)) (λ e. inr (among-if r c own e)) (among-parts r (cond some rs []) (root_if own c) h)

pub roots-low : (n r : ℕ) (rs : List ℕ) → RootsFit n rs → Among r rs → r ≤ n
roots-low n r rs fit h = by rs fit.within h
  where
    by : (rs : List ℕ) → All (λ s. s ≤ n) rs → Among r rs → r ≤ n
    by [] a h = absurd (false≢true h)
    by (s ∷ ss) a h =
        ⊎_elim (λ e. omega (arith, All-head (λ x. x ≤ n) s ss a, eqb-true s r e)) (λ e. by ss (All-tail (λ x. x ≤ n) s ss a) e)
        (or_cases (s == r) (list_any (λ x. x == r) ss) h)

-- the key of a root is no more than that of what is resumed
pub keys-low : (c : ℕ → ℕ) (b k : ℕ) (rs : List ℕ) (r : ℕ) → KeysRise c b k rs → Among r rs → c r ≤ k
keys-low c b k [] r h g = absurd (false≢true g)
keys-low c b k (s ∷ ss) r h g =
    ⊎_elim (λ e. omega (arith, h.1, ap c (eqb-true s r e))) (λ e. keys-low c (c s) k ss r h.2 e) (or_cases (s == r) (list_any (λ x. x == r) ss) g)

-- ---- inside of a statement

-- the statement with the number m stands in that at b, or is it
pub record Inside (W : List Row) (c d : ℕ → ℕ) (V : Valuation) (b m : ℕ) : Type 0 where
  pub before : b ≤ m
  pub deeper : d b ≤ d m
  -- a root in between has no fewer loop bodies above it than b at or above it
  pub between : (r : ℕ) → Among r (row_at W m).live.roots → b < r → d b ≤ c r
  -- the roots of starts around b are those of b, or none of them
  pub outer : (r : ℕ) → Among r (row_at W m).live.roots → r ≤ b → Among r (row_at W b).live.roots
  pub all : (r s : ℕ) → Among r (row_at W m).live.roots → r ≤ b → Among s (row_at W b).live.roots → Among s (row_at W m).live.roots
  pub resumed : (row_at W m).live.resumed ≡ true → (row_at W b).live.resumed ≡ true
  -- what runs at m runs at b
  pub runs : (l : Layer) → Runs V m l → Runs V b (layer_above b l)

-- the statement around one that is entered so
abbrev pub around : Entry → ℕ
around Body = 0
around (Part n) = n
around (Branch n) = n
around (Then n e) = n
around (Else n e) = n
around (Suspended n e) = n
around (Second n) = n
around (Looped n) = n

module _ (W : List Row) (c d : ℕ → ℕ) (V : Valuation) (b : ℕ) where
  abbrev In : ℕ → Type 0
  In m = Inside W c d V b m

  -- a part that is live with its statement
  part-in : (m n : ℕ) → PartOf W m n → d m ≡ d n → Descends V m n → In n → In m
  part-in m n part same under i =
      let roots : (row_at W m).live.roots ≡ (row_at W n).live.roots = ap (λ a. a.roots) part.live in
      record {
        before = omega (arith, i.before, part.before);
        deeper = omega (arith, i.deeper, same);
        between = λ r h l. i.between r (subst (Among r) roots h) l;
        outer = λ r h l. i.outer r (subst (Among r) roots h) l;
        all = λ r s h l g. subst (Among s) (sym roots) (i.all r s (subst (Among r) roots h) l g);
        resumed = λ e. i.resumed (and_parts (row_at W n).live.resumed _ (sym (ap (λ a. a.resumed) part.live) ∙ e)).0;
        runs = λ l h. i.runs l (under l h);
      }

  -- one that has a root of its own
  own-in : (m n : ℕ) (some own rest : Bool) → n < m → (row_at W m).live.roots ≡ cond some (row_at W n).live.roots [] ++ root_if own m
      → (row_at W m).live.resumed ≡ ((row_at W n).live.resumed && rest) → c m ≡ d n → d n ≤ d m → Restarts V m n → In n → In m
  own-in m n some own rest lt roots live at low under i = record {
    before = omega (arith, i.before, lt);
    deeper = omega (arith, i.deeper, low);
    between = λ r h l.
        ⊎_elim (λ e. i.between r e.1 l) (λ e. omega (arith, i.deeper, at, ap c e.0)) (cases r h);
    outer = λ r h l. ⊎_elim (λ e. i.outer r e.1 l) (λ e. absurd (omega (arith, e.0, l, lt, i.before))) (cases r h);
    all = λ r s h l g.
        ⊎_elim
        (λ e. subst (Among s) (sym roots) (among-left s (cond some (row_at W n).live.roots []) (root_if own m)
        (among-given s some (row_at W n).live.roots e.0 (i.all r s e.1 l g))))
        (λ e. absurd (omega (arith, e.0, l, lt, i.before))) (cases r h);
    resumed = λ e. i.resumed (and_parts (row_at W n).live.resumed rest (sym live ∙ e)).0;
    runs = λ l h.
        ⊎_elim (λ r. i.runs l r)
        (λ r. subst (λ j. Runs V b j) (sym (ap (layer_above b) r.0 ∙ above_behind b m (omega (arith, lt, i.before)))) (i.runs Resumed r.1)) (under l h);
  }
    where
      cases : (r : ℕ) → Among r (row_at W m).live.roots → ((some ≡ true) × Among r (row_at W n).live.roots) ⊎ ((r ≡ m) × (own ≡ true))
      cases r h = own-roots r m some own (row_at W n).live.roots (subst (Among r) roots h)

  kid-in : (m : ℕ) (x : Entry) → 0 < m → Entered W m x → Told c d m x → Under V m x → In (around x) → In m
  kid-in m Body h e t u i = absurd (omega (arith, h, e))
  kid-in m (Part n) h e t u i = part-in m n e (omega (arith, t.inside)) u i
  kid-in m (Branch n) h e t u i = part-in m n e (omega (arith, t.inside)) u i
  kid-in m (Then n x) h e t u i = part-in m n e.part (omega (arith, t.inside)) u i
  kid-in m (Else n x) h e t u i = part-in m n e.part (omega (arith, t.inside)) u i
  kid-in m (Suspended n x) h e t u i = part-in m n e.part (omega (arith, t.inside)) u i
  kid-in m (Second n) h e t u i =
      let p = (row_at W (n + 1)).statement in
      own-in m n (started_codes p 0) ((row_at W n).live.resumed && resumed_codes p 0) _ (omega (arith, e.before)) (ap (λ a. a.roots) e.live)
      (ap (λ a. a.resumed) e.live) t.above (omega (arith, t.inside)) u.1 i
  kid-in m (Looped n) h e t u i =
      own-in m n true ((row_at W n).live.resumed && resumed_codes (row_at W m).statement 0) _ (omega (arith, e.number)) (ap (λ a. a.roots) e.live)
      (ap (λ a. a.resumed) e.live) t.above (omega (arith, t.inside)) u i

  self-in : RootsFit b (row_at W b).live.roots → ((l : Layer) → Runs V b l → live_in (row_at W b).live l ≡ true) → In b
  self-in fit live = record {
    before = omega arith;
    deeper = omega arith;
    between = λ r h l. absurd (omega (arith, roots-low b r (row_at W b).live.roots fit h, l));
    outer = λ r h l. h;
    all = λ r s h l g. g;
    resumed = λ e. e;
    runs = here;
  }
    where
      here : (l : Layer) → Runs V b l → Runs V b (layer_above b l)
      here Resumed h = h
      here (Started r) h = subst (λ j. Runs V b j) (sym (above_within b r (roots-low b r (row_at W b).live.roots fit (live (Started r) h)))) h

-- ---- a program

-- the entries of parts name their statement
abbrev EntersFrom : List Row → ℕ → ℕ → Type 0
EntersFrom W n m = (0 < m) × (around (row_at W m).entry ≡ n)

enters : (W : List Row) (a : Liveness) (B : Scope) (t : Term) (n : ℕ) → Kids W a B t n → Parts (EntersFrom W n) t n
enters W a B Nothing n k = tt
enters W a B Pause n k = tt
enters W a B (Emit s) n k = tt
enters W a B (Exit c) n k = tt
enters W a B (Present e p q) n k = ((omega arith, ap (λ r. around r.entry) k.0), (omega arith, ap (λ r. around r.entry) k.1))
enters W a B (Suspend e p) n k = (omega arith, ap (λ r. around r.entry) k)
enters W a B (Seq p q) n k = ((omega arith, ap (λ r. around r.entry) k.0), (omega arith, ap (λ r. around r.entry) k.1))
enters W a B (Loop at p) n k = (omega arith, ap (λ r. around r.entry) k)
enters W a B (Par p q) n k = ((omega arith, ap (λ r. around r.entry) k.0), (omega arith, ap (λ r. around r.entry) k.1))
enters W a B (Trap p) n k = (omega arith, ap (λ r. around r.entry) k)
enters W a B (Local s p) n k = (omega arith, ap (λ r. around r.entry) k)
enters W a B (Awake e p) n k = tt

-- what follows for each part from where it stands
parts-map : (P Q : ℕ → Type 0) (end : ℕ) (t : Term) (n : ℕ) → ((m : ℕ) → n < m → m < end → P m → Q m) → n + statement_count t ≤ end → Parts P t n → Parts Q t n
parts-map P Q end Nothing n f l h = tt
parts-map P Q end Pause n f l h = tt
parts-map P Q end (Emit s) n f l h = tt
parts-map P Q end (Exit k) n f l h = tt
parts-map P Q end (Present e p q) n f l h = (
  f (n + 1) (omega arith) (omega (arith, l, statement_count-pos q)) h.0,
  f (n + 1 + statement_count p)
      (omega arith) (omega (arith, l, statement_count-pos q)) h.1,
)
parts-map P Q end (Suspend e p) n f l h = f (n + 1) (omega arith) (omega (arith, l, statement_count-pos p)) h
parts-map P Q end (Seq p q) n f l h = (
  f (n + 1) (omega arith) (omega (arith, l, statement_count-pos q)) h.0,
  f (n + 1 + statement_count p) (omega arith)
      (omega (arith, l, statement_count-pos q)) h.1,
)
parts-map P Q end (Loop at p) n f l h = f (n + 1) (omega arith) (omega (arith, l, statement_count-pos p)) h
parts-map P Q end (Par p q) n f l h = (
  f (n + 1) (omega arith) (omega (arith, l, statement_count-pos q)) h.0,
  f (n + 1 + statement_count p) (omega arith)
      (omega (arith, l, statement_count-pos q)) h.1,
)
parts-map P Q end (Trap p) n f l h = f (n + 1) (omega arith) (omega (arith, l, statement_count-pos p)) h
parts-map P Q end (Local s p) n f l h = f (n + 1) (omega arith) (omega (arith, l, statement_count-pos p)) h
parts-map P Q end (Awake e p) n f l h = tt

-- a statement ends no later than those that its scope's binders are
abbrev Bounded : List Row → ℕ → Type 0
Bounded W n =
    (s b : ℕ) → (row_at W n).scope s ≡ BoundAt b → n + statement_count (row_at W n).statement ≤ b + statement_count (row_at W b).statement

module _ (W : List Row) (a : Liveness) (B : Scope) (x : Entry) (t : Term) (n : ℕ) (same : row_at W n ≡ row a B x t (second_of t n)) (here : Bounded W n) where
  -- what is bound around the parts
  outside : (s b : ℕ) → B s ≡ BoundAt b → n + statement_count t ≤ b + statement_count (row_at W b).statement
  outside s b e =
      let h = here s b (ap (λ r. r.scope s) same ∙ e) in
      omega (arith, h, ap (λ r. statement_count r.statement) same)

  bounded : (b : Liveness) (y : Entry) (p : Term) (c k : ℕ) → row_at W c ≡ row b B y p k → c + statement_count p ≤ n + statement_count t → Bounded W c
  bounded b y p c k e l s i g =
      let h = outside s i (sym (ap (λ r. r.scope s) e) ∙ g) in
      omega (arith, l, h, ap (λ r. statement_count r.statement) e)

  bounded-bind : (b : Liveness) (y : Entry) (p : Term) (c k u : ℕ) → row_at W c ≡ row b (bind B u n) y p k → c + statement_count p ≤ n + statement_count t
      → Bounded W c
  bounded-bind b y p c k u e l s i g =
      ⊎_elim
      (λ z.
      let own : n ≡ i = number (ap (λ z. cond z (BoundAt n) (B s)) (sym z) ∙ bound) in
      subst (λ j. c + statement_count (row_at W c).statement ≤ j + statement_count (row_at W j).statement) own
      (omega (arith, l, ap (λ r. statement_count r.statement) e, ap (λ r. statement_count r.statement) same)))
      (λ z.
      let h = outside s i (ap (λ z. cond z (BoundAt n) (B s)) (sym z) ∙ bound) in
      omega (arith, l, h, ap (λ r. statement_count r.statement) e))
      (cases_Bool (s == u))
    where
      bound : bind B u n s ≡ BoundAt i
      bound = sym (ap (λ r. r.scope s) e) ∙ g

      number : {i j : ℕ} → BoundAt i ≡ BoundAt j → i ≡ j
      number e = cc

bounds : (W : List Row) (a : Liveness) (B : Scope) (x : Entry) (t : Term) (n : ℕ) → Site W a B x t n → Bounded W n → Parts (Bounded W) t n
bounds W a B x Nothing n site here = tt
bounds W a B x Pause n site here = tt
bounds W a B x (Emit s) n site here = tt
bounds W a B x (Exit k) n site here = tt
bounds W a B x (Present e p q) n site here =
    let t = Present e p q in (
      bounded W a B x t n site.same here _ _ p (n + 1) _ site.kids.0 (omega arith),
      bounded W a B x t n site.same here _ _ q (n + 1 + statement_count p) _ site.kids.1 (omega arith),
    )
bounds W a B x (Suspend e p) n site here = bounded W a B x (Suspend e p) n site.same here _ _ p (n + 1) _ site.kids (omega arith)
bounds W a B x (Seq p q) n site here =
    let t = Seq p q in (
      bounded W a B x t n site.same here _ _ p (n + 1) _ site.kids.0 (omega arith),
      bounded W a B x t n site.same here _ _ q (n + 1 + statement_count p) _ site.kids.1 (omega arith),
    )
bounds W a B x (Loop at p) n site here = bounded W a B x (Loop at p) n site.same here _ _ p (n + 1) _ site.kids (omega arith)
bounds W a B x (Par p q) n site here =
    let t = Par p q in (
      bounded W a B x t n site.same here _ _ p (n + 1) _ site.kids.0 (omega arith),
      bounded W a B x t n site.same here _ _ q (n + 1 + statement_count p) _ site.kids.1 (omega arith),
    )
bounds W a B x (Trap p) n site here = bounded W a B x (Trap p) n site.same here _ _ p (n + 1) _ site.kids (omega arith)
bounds W a B x (Local s p) n site here = bounded-bind W a B x (Local s p) n site.same here _ _ p (n + 1) _ s site.kids (omega arith)
bounds W a B x (Awake e p) n site here = tt

-- nothing is bound around the body
unbound : (inputs interface s b : ℕ) → program_scope inputs interface s ≡ BoundAt b → ⊥
unbound inputs interface s b e = first (nat_lt s inputs) (nat_lt s interface) e
  where
    first : (x y : Bool) → cond x Entering (cond y Outgoing Unbound) ≡ BoundAt b → ⊥
    first true y e = cc
    first false true e = cc
    first false false e = cc

module _ (p : Program) (q : State) (event : List Bool) (V : Valuation) (kernel : IsKernel p.body) (codes : HasExitCodes p.body) (state : IsState q p.body)
    (solves : SolvesGraph (graph_of p) q event V) (walk : IsWalkOf p q event V) where
  abbrev W : List Row
  W = program_rows p

  abbrev c : ℕ → ℕ
  c = (body_sharing p.body).root

  abbrev d : ℕ → ℕ
  d = (body_sharing p.body).resumed

  abbrev pub InsideOf : ℕ → ℕ → Type 0
  InsideOf b m = Inside (program_rows p) (body_sharing p.body).root (body_sharing p.body).resumed V b m

  step : (b : ℕ) → Goes (program_rows p) (InsideOf b)
  step b a B x t n site here =
      parts-map (EntersFrom W n) (InsideOf b) (statement_count p.body) t n
      (λ m lt hi e. kid-in W c d V b m (row_at W m).entry e.0 (program_placed p m hi).entered (program_tells p kernel m hi)
      (each p q event V kernel codes state solves walk m hi).under (subst (InsideOf b) (sym e.1) here))
      (omega (arith, site.within, length-program_rows p)) (enters W a B t n site.kids)

  -- what runs is live
  pub live-at : (m : ℕ) (l : Layer) → Runs V m l → LiveAt p m l
  live-at m l h =
      let at = wire_only p kernel IsGo m l (there p q event V kernel codes state solves walk (Go m l) h) in record { within = at.within; live = at.live }

  pub inside : (b m : ℕ) → b < statement_count p.body → b ≤ m → m < b + statement_count (row_at (program_rows p) b).statement → InsideOf b m
  inside b m lt le hi =
      let at = program_placed p b lt in
      let r = row_at W b in
      each_part W (InsideOf b) (step b) r.live r.scope r.entry r.statement b at.stands (each p q event V kernel codes state solves walk b lt).codes
      (self-in W c d V b at.roots (λ l h. (live-at b l h).live)) m le hi

  bound : (n : ℕ) → n < statement_count p.body → Bounded (program_rows p) n
  bound n lt =
      each_statement p (Bounded W) codes (bounds W)
      (λ s b e. absurd (unbound p.inputs (interface_count p) s b (sym (ap (λ r. r.scope s)
      (row_read W (body_liveness p.body) (program_scope p.inputs (interface_count p)) Body p.body 0 (stands_whole W)).same) ∙ e)))
      n lt

  -- a binder of a statement's scope is around it
  pub binder-around : (n s b : ℕ) → n < statement_count p.body → (row_at (program_rows p) n).scope s ≡ BoundAt b → InsideOf b n
  binder-around n s b lt e =
      let x = (program_placed p n lt).binders s b e in
      inside b n (omega (arith, x.within, length-program_rows p)) x.around (omega (arith, bound n lt s b e, statement_count-pos (row_at W n).statement))

  -- ---- keys

  key-within : (b r : ℕ) → r ≤ b → key (body_sharing p.body) b (layer_above b (Started r)) ≡ (body_sharing p.body).root r
  key-within b r h = ap (key (body_sharing p.body) b) (above_within b r h)

  key-behind : (b r : ℕ) → b < r → key (body_sharing p.body) b (layer_above b (Started r)) ≡ (body_sharing p.body).resumed b
  key-behind b r h = ap (key (body_sharing p.body) b) (above_behind b r h)

  pub root-low : (b r : ℕ) → b < statement_count p.body → Among r (row_at (program_rows p) b).live.roots
      → (body_sharing p.body).root r ≤ (body_sharing p.body).resumed b
  root-low b r lt h =
      keys-low c 0 (d b) (row_at W b).live.roots r
      (subst (λ (a : Liveness). KeysRise c 0 (d b) a.roots) (sym (program_gives p kernel b (omega arith) (omega (arith, lt)))) (body_keys_rise p.body b lt)) h

  -- members of one instance see a statement around them in layers with one key
  pub above-key : (b m : ℕ) (l j : Layer) → b < statement_count p.body → InsideOf b m → live_in (row_at (program_rows p) m).live l ≡ true
      → live_in (row_at (program_rows p) m).live j ≡ true → one_instance (body_sharing p.body) m l j ≡ true
      → key (body_sharing p.body) b (layer_above b l) ≡ key (body_sharing p.body) b (layer_above b j)
  above-key b m Resumed Resumed lt i h g e = refl
  above-key b m Resumed (Started s) lt i h g e = absurd (false≢true e)
  above-key b m (Started r) Resumed lt i h g e = absurd (false≢true e)
  above-key b m (Started r) (Started s) lt i h g e =
      let same : c r ≡ c s = eqb-true (c r) (c s) e in
      ⊎_elim
      (λ x. ⊎_elim (λ y. key-behind b r x ∙ sym (key-behind b s y))
      (λ y. let low = root-low b s lt (i.outer s g y) in let high = i.between r h x in
      key-behind b r x ∙ omega (arith, low, high, same) ∙ sym (key-within b s y)) (cases_lt b s))
      (λ x. ⊎_elim (λ y. let low = root-low b r lt (i.outer r h x) in let high = i.between s g y in
      key-within b r x ∙ omega (arith, low, high, same) ∙ sym (key-behind b s y))
      (λ y. key-within b r x ∙ same ∙ sym (key-within b s y)) (cases_lt b s))
      (cases_lt b r)
