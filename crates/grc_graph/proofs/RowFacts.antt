-- What is true of each statement's row in the list of a program: where the rows of its parts stand, and how its
-- liveness and scope come from those of the statement around it.
use Rattle.std.proofs.Common.{◌≡◌, ℕ, ◌+◌, ◌<◌, ◌≤◌, Bool, true, false, ◌==◌, List, length, refl, sym, ap, ◌∙◌, subst, ⊎_elim, arith}
use Rattle.std.specs.Prelude.{nat_lt, Contains, if◌then◌else◌}
use Rattle.std.proofs.lemmas.Bool.{cases_lt, cases_eq, cases_Bool}
use Rattle.est_kernel.specs.Plain.{Program, interface_count}
use Rattle.est_kernel.specs.Terms.{Expression, Term, Present, Suspend, Seq, Loop, Par, Trap, Local, Awake}
use Rattle.est_kernel.specs.Preorder.{statement_count}
use Rattle.est_kernel.proofs.Exports.{statement_count-pos}
use Rattle.grc_graph.specs.Layers.{Layer, Liveness, layer_above, layers_of, body_liveness, part_liveness, second_liveness, loop_liveness}
use Rattle.grc_graph.specs.Scopes.{Scope, Binding, Entering, Outgoing, BoundAt, Unbound, bind, program_scope}
use Rattle.grc_graph.specs.Statements.{Entry, Body, Part, Branch, Then, Else, Suspended, Second, Looped, signals_in, signals_of}
use Rattle.grc_graph.specs.Rows.{Row, row, rows, second_of, program_rows, row_at}
use Rattle.grc_graph.specs.WireTables.{is_local}
use Rattle.grc_graph.proofs.CodeReads.{StandsAt, stands_whole}
use Rattle.grc_graph.proofs.LiveInstances.{RootsFit, part_fits, second_fits, loop_fits, body_fits, Upwards, part_up, second_up, loop_up, above_above}
use Rattle.grc_graph.proofs.RowSpots.{length-rows, stands_one, stands_first, stands_second, row_read}

-- ---- what lets a statement run

-- c is a part of n that is live with it
pub record PartOf (W : List Row) (c n : ℕ) : Type 0 where
  pub within : n < length W
  pub before : n < c
  pub live : (row_at W c).live ≡ part_liveness (row_at W n).live (row_at W c).statement

-- the same, where what lets it run is a test of n
pub record TestedPart (W : List Row) (c n : ℕ) (e : Expression) : Type 0 where
  pub part : PartOf W c n
  pub scope : (row_at W n).scope ≡ (row_at W c).scope
  pub signals : signals_of (row_at W n).statement ≡ signals_in e

pub record SecondPart (W : List Row) (c n : ℕ) : Type 0 where
  pub within : n < length W
  pub before : n + 1 < c
  pub live : (row_at W c).live ≡ second_liveness (row_at W n).live (row_at W (n + 1)).statement (row_at W c).statement c
  pub first : PartOf W (n + 1) n
  pub roots : RootsFit n (row_at W n).live.roots

pub record LoopedPart (W : List Row) (c n : ℕ) : Type 0 where
  pub within : n < length W
  pub number : c ≡ n + 1
  pub live : (row_at W c).live ≡ loop_liveness (row_at W n).live (row_at W c).statement c
  pub roots : RootsFit n (row_at W n).live.roots

abbrev pub Entered : List Row → ℕ → Entry → Type 0
Entered W c Body = c ≡ 0
Entered W c (Part n) = PartOf W c n
Entered W c (Branch n) = PartOf W c n
Entered W c (Then n e) = TestedPart W c n e
Entered W c (Else n e) = TestedPart W c n e
Entered W c (Suspended n e) = TestedPart W c n e
Entered W c (Second n) = SecondPart W c n
Entered W c (Looped n) = LoopedPart W c n

-- ---- the binders of a scope

-- b is a Local, whose instance as seen from each layer of the statement with this liveness is live
pub record Binder (W : List Row) (b m : ℕ) (a : Liveness) : Type 0 where
  pub within : b < length W
  pub around : b ≤ m
  pub local : is_local (row_at W b).statement ≡ true
  pub live : (l : Layer) → Contains (layers_of a) l → Contains (layers_of (row_at W b).live) (layer_above b l)

abbrev pub Binders : List Row → ℕ → Scope → Liveness → Type 0
Binders W m B a = (s b : ℕ) → B s ≡ BoundAt b → Binder W b m a

binders_below : (W : List Row) (n c : ℕ) (B : Scope) (a b : Liveness) → n ≤ c → Upwards a n b → Binders W n B a → Binders W c B b
binders_below W n c B a b le u h s k e =
    let x = h s k e in
    record {
      within = x.within;
      around = omega (arith, x.around);
      local = x.local;
      live = λ l g. subst (λ j. Contains (layers_of (row_at W k).live) j) (above_above k n l x.around) (x.live (layer_above n l) (u.up l g));
    }

local_binds : (W : List Row) (n c : ℕ) (a b : Liveness) (r : Row) → n < length W → n ≤ c → row_at W n ≡ r → is_local r.statement ≡ true → r.live ≡ a →
    Upwards a n b → Binder W n c b
local_binds W n c a b r w le e k g u = record {
  within = w;
  around = le;
  local = ap (λ x. is_local x.statement) e ∙ k;
  live = λ l h. subst (λ y. Contains (layers_of y) (layer_above n l)) (sym (ap (λ x. x.live) e ∙ g)) (u.up l h);
}

bound_at : Binding → ℕ → ℕ
bound_at (BoundAt n) d = n
bound_at _ d = d

binders_bound : (W : List Row) (n c : ℕ) (B : Scope) (s : ℕ) (b : Liveness) → Binder W n c b → Binders W c B b → Binders W c (bind B s n) b
binders_bound W n c B s b own h t k e =
    ⊎_elim
    (λ y.
    let same : BoundAt n ≡ BoundAt k = ap (λ z. if z then BoundAt n else B t) (sym y) ∙ e in
    subst (λ j. Binder W j c b) (number same) own)
    (λ y. h t k (ap (λ z. if z then BoundAt n else B t) (sym y) ∙ e))
    (cases_Bool (t == s))
  where
    number : {i j : ℕ} → BoundAt i ≡ BoundAt j → i ≡ j
    number e = cc

binders_first : (W : List Row) (inputs interface : ℕ) (a : Liveness) → Binders W 0 (program_scope inputs interface) a
binders_first W inputs interface a s b e = first (nat_lt s inputs) (nat_lt s interface) e
  where
    first : (x y : Bool) → (if x then Entering else if y then Outgoing else Unbound) ≡ BoundAt b → Binder W b 0 a
    first true y e = absurd (cc)
    first false true e = absurd (cc)
    first false false e = absurd (cc)

-- ---- each statement

pub record PlacedAs (W : List Row) (m : ℕ) (r : Row) : Type 0 where
  pub within : m < length W
  pub stands : StandsAt W m (rows r.live r.scope r.entry r.statement m)
  pub second : r.second ≡ second_of r.statement m
  pub roots : RootsFit m r.live.roots
  pub entered : Entered W m r.entry
  pub binders : Binders W m r.scope r.live

abbrev pub Placed : List Row → ℕ → Type 0
Placed W m = PlacedAs W m (row_at W m)

here_placed : (W : List Row) (a : Liveness) (B : Scope) (x : Entry) (t : Term) (n : ℕ)
    → StandsAt W n (rows a B x t n)
    → RootsFit n a.roots
    → Entered W n x
    → Binders W n B a
    → Placed W n
here_placed W a B x t n h r e b =
    let k = row_read W a B x t n h in
    subst (PlacedAs W n) (sym k.same) (record { within = k.within; stands = h; second = refl; roots = r; entered = e; binders = b })

part_of : (W : List Row) (a : Liveness) (B C : Scope) (x y : Entry) (t p : Term) (k j n c : ℕ)
    → n < length W
    → n < c
    → row_at W n ≡ row a B x t k
    → row_at W c ≡ row (part_liveness a p) C y p j
    → PartOf W c n
part_of W a B C x y t p k j n c w lt e f = record {
  within = w;
  before = lt;
  live = ap (λ r. r.live) f ∙ λ i. part_liveness (sym e i).live (sym f i).statement;
}

-- a place of a statement with one part, or with two
pub one_place : (P : ℕ → Type 0) (n k m : ℕ) → P n → ((m : ℕ) → n + 1 ≤ m → m < n + 1 + k → P m) → n ≤ m → m < n + (1 + k) → P m
one_place P n k m h f le lt = ⊎_elim (λ e. subst P (sym e) h) (λ d. f m (omega (arith, d, le)) (omega arith)) (cases_eq m n)

pub two_places : (P : ℕ → Type 0) (n j k m : ℕ) → P n → ((m : ℕ) → n + 1 ≤ m → m < n + 1 + j → P m) → ((m : ℕ) → n + 1 + j ≤ m → m < n + 1 + j + k → P m)
    → n ≤ m → m < n + (1 + j + k) → P m
two_places P n j k m h f g le lt =
    ⊎_elim (λ e. subst P (sym e) h) (λ d. ⊎_elim (λ l. f m (omega (arith, d, le)) l) (λ l. g m l (omega arith)) (cases_lt m (n + 1 + j))) (cases_eq m n)

-- each statement of a list that stands in W
pub placed : (W : List Row) (a : Liveness) (B : Scope) (x : Entry) (t : Term) (n : ℕ)
    → StandsAt W n (rows a B x t n)
    → RootsFit n a.roots
    → Entered W n x
    → Binders W n B a
    → (m : ℕ) → n ≤ m → m < n + statement_count t → Placed W m
placed W a B x (Present e p q) n h r en b m le lt =
    let t = Present e p q in
    let c = n + 1 + statement_count p in
    let k = row_read W a B x t n h in
    let hp = stands_first W n (row a B x t c) (rows (part_liveness a p) B (Then n e) p (n + 1)) (rows (part_liveness a q) B (Else n e) q c) h in
    let hq = stands_second W n (row a B x t c) p (rows (part_liveness a p) B (Then n e) p (n + 1)) (rows (part_liveness a q) B (Else n e) q c)
    (length-rows (part_liveness a p) B (Then n e) p (n + 1)) h in
    let kp = row_read W (part_liveness a p) B (Then n e) p (n + 1) hp in
    let kq = row_read W (part_liveness a q) B (Else n e) q c hq in
    let pp = part_of W a B B x (Then n e) t p c (second_of p (n + 1)) n (n + 1) k.within (omega arith) k.same kp.same in
    let qq = part_of W a B B x (Else n e) t q c (second_of q c) n c k.within (omega arith) k.same kq.same in
    let g = ap (λ y. signals_of y.statement) k.same in
    let ep : TestedPart W (n + 1) n e = record { part = pp; scope = ap (λ y. y.scope) k.same ∙ sym (ap (λ y. y.scope) kp.same); signals = g } in
    let eq : TestedPart W c n e = record { part = qq; scope = ap (λ y. y.scope) k.same ∙ sym (ap (λ y. y.scope) kq.same); signals = g } in
    two_places (Placed W) n (statement_count p) (statement_count q) m (here_placed W a B x t n h r en b)
    (placed W (part_liveness a p) B (Then n e) p (n + 1) hp (part_fits a p n (n + 1) (omega arith) r) ep
    (binders_below W n (n + 1) B a (part_liveness a p) (omega arith) (part_up a p n r) b))
    (placed W (part_liveness a q) B (Else n e) q c hq (part_fits a q n c (omega arith) r) eq
    (binders_below W n c B a (part_liveness a q) (omega arith) (part_up a q n r) b)) le lt
placed W a B x (Seq p q) n h r en b m le lt =
    let t = Seq p q in
    let c = n + 1 + statement_count p in
    let k = row_read W a B x t n h in
    let hp = stands_first W n (row a B x t c) (rows (part_liveness a p) B (Branch n) p (n + 1))
    (rows (second_liveness a p q (n + 1 + statement_count p)) B (Second n) q c) h in
    let hq = stands_second W n (row a B x t c) p (rows (part_liveness a p) B (Branch n) p (n + 1))
    (rows (second_liveness a p q (n + 1 + statement_count p)) B (Second n) q c) (length-rows (part_liveness a p) B (Branch n) p (n + 1)) h in
    let kp = row_read W (part_liveness a p) B (Branch n) p (n + 1) hp in
    let kq = row_read W (second_liveness a p q (n + 1 + statement_count p)) B (Second n) q c hq in
    let pp = part_of W a B B x (Branch n) t p c (second_of p (n + 1)) n (n + 1) k.within (omega arith) k.same kp.same in
    let s : SecondPart W c n = record {
      within = k.within;
      before = omega (arith, statement_count-pos p);
      live = ap (λ y. y.live) kq.same ∙ λ i. second_liveness (sym k.same i).live (sym kp.same i).statement (sym kq.same i).statement c;
      first = pp;
      roots = subst (λ y. RootsFit n y.live.roots) (sym k.same) r;
    } in
    two_places (Placed W) n (statement_count p) (statement_count q) m (here_placed W a B x t n h r en b)
    (placed W (part_liveness a p) B (Branch n) p (n + 1) hp (part_fits a p n (n + 1) (omega arith) r) pp
    (binders_below W n (n + 1) B a (part_liveness a p) (omega arith) (part_up a p n r) b))
    (placed W (second_liveness a p q (n + 1 + statement_count p)) B (Second n) q c hq (second_fits a p q n c (omega arith) r) s
    (binders_below W n c B a (second_liveness a p q (n + 1 + statement_count p)) (omega arith) (second_up a p q n c (omega arith) r) b)) le lt
placed W a B x (Par p q) n h r en b m le lt =
    let t = Par p q in
    let c = n + 1 + statement_count p in
    let k = row_read W a B x t n h in
    let hp = stands_first W n (row a B x t c) (rows (part_liveness a p) B (Branch n) p (n + 1)) (rows (part_liveness a q) B (Branch n) q c) h in
    let hq = stands_second W n (row a B x t c) p (rows (part_liveness a p) B (Branch n) p (n + 1)) (rows (part_liveness a q) B (Branch n) q c)
    (length-rows (part_liveness a p) B (Branch n) p (n + 1)) h in
    let kp = row_read W (part_liveness a p) B (Branch n) p (n + 1) hp in
    let kq = row_read W (part_liveness a q) B (Branch n) q c hq in
    let pp = part_of W a B B x (Branch n) t p c (second_of p (n + 1)) n (n + 1) k.within (omega arith) k.same kp.same in
    let qq = part_of W a B B x (Branch n) t q c (second_of q c) n c k.within (omega arith) k.same kq.same in
    two_places (Placed W) n (statement_count p) (statement_count q) m (here_placed W a B x t n h r en b)
    (placed W (part_liveness a p) B (Branch n) p (n + 1) hp (part_fits a p n (n + 1) (omega arith) r) pp
    (binders_below W n (n + 1) B a (part_liveness a p) (omega arith) (part_up a p n r) b))
    (placed W (part_liveness a q) B (Branch n) q c hq (part_fits a q n c (omega arith) r) qq
    (binders_below W n c B a (part_liveness a q) (omega arith) (part_up a q n r) b)) le lt
placed W a B x (Suspend e p) n h r en b m le lt =
    let t = Suspend e p in
    let k = row_read W a B x t n h in
    let hp = stands_one W n (row a B x t 0) (rows (part_liveness a p) (B) (Suspended n e) p (n + 1)) h in
    let kp = row_read W (part_liveness a p) (B) (Suspended n e) p (n + 1) hp in
    let pp = part_of W a B (B) x (Suspended n e) t p 0 (second_of p (n + 1)) n (n + 1) k.within (omega arith) k.same kp.same in
    let ep : TestedPart W (n + 1) n e = record {
      part = pp;
      scope = ap (λ y. y.scope) k.same ∙ sym (ap (λ y. y.scope) kp.same);
      signals = ap (λ y. signals_of y.statement) k.same;
    } in
    one_place (Placed W) n (statement_count p) m (here_placed W a B x t n h r en b)
    (placed W (part_liveness a p) (B) (Suspended n e) p (n + 1) hp (part_fits a p n (n + 1) (omega arith) r) ep
    (binders_below W n (n + 1) B a (part_liveness a p) (omega arith) (part_up a p n r) b)) le lt
placed W a B x (Loop at p) n h r en b m le lt =
    let t = Loop at p in
    let k = row_read W a B x t n h in
    let hp = stands_one W n (row a B x t 0) (rows (loop_liveness a p (n + 1)) (B) (Looped n) p (n + 1)) h in
    let kp = row_read W (loop_liveness a p (n + 1)) (B) (Looped n) p (n + 1) hp in
    let s : LoopedPart W (n + 1) n = record {
      within = k.within;
      number = refl;
      live = ap (λ y. y.live) kp.same ∙ λ i. loop_liveness (sym k.same i).live (sym kp.same i).statement (n + 1);
      roots = subst (λ y. RootsFit n y.live.roots) (sym k.same) r;
    } in
    one_place (Placed W) n (statement_count p) m (here_placed W a B x t n h r en b)
    (placed W (loop_liveness a p (n + 1)) B (Looped n) p (n + 1) hp (loop_fits a p n (n + 1) (omega arith) r) s
    (binders_below W n (n + 1) B a (loop_liveness a p (n + 1)) (omega arith) (loop_up a p n (n + 1) (omega arith) r) b)) le lt
placed W a B x (Trap p) n h r en b m le lt =
    let t = Trap p in
    let k = row_read W a B x t n h in
    let hp = stands_one W n (row a B x t 0) (rows (part_liveness a p) (B) (Part n) p (n + 1)) h in
    let kp = row_read W (part_liveness a p) (B) (Part n) p (n + 1) hp in
    let pp = part_of W a B (B) x (Part n) t p 0 (second_of p (n + 1)) n (n + 1) k.within (omega arith) k.same kp.same in
    one_place (Placed W) n (statement_count p) m (here_placed W a B x t n h r en b)
    (placed W (part_liveness a p) (B) (Part n) p (n + 1) hp (part_fits a p n (n + 1) (omega arith) r) pp
    (binders_below W n (n + 1) B a (part_liveness a p) (omega arith) (part_up a p n r) b)) le lt
placed W a B x (Local s p) n h r en b m le lt =
    let t = Local s p in
    let k = row_read W a B x t n h in
    let hp = stands_one W n (row a B x t 0) (rows (part_liveness a p) (bind B s n) (Part n) p (n + 1)) h in
    let kp = row_read W (part_liveness a p) (bind B s n) (Part n) p (n + 1) hp in
    let pp = part_of W a B (bind B s n) x (Part n) t p 0 (second_of p (n + 1)) n (n + 1) k.within (omega arith) k.same kp.same in
    let own = local_binds W n (n + 1) a (part_liveness a p) (row a B x t 0) k.within (omega arith) k.same refl refl (part_up a p n r) in
    one_place (Placed W) n (statement_count p) m (here_placed W a B x t n h r en b)
    (placed W (part_liveness a p) (bind B s n) (Part n) p (n + 1) hp (part_fits a p n (n + 1) (omega arith) r) pp
    (binders_bound W n (n + 1) B s (part_liveness a p) own (binders_below W n (n + 1) B a (part_liveness a p) (omega arith) (part_up a p n r) b))) le lt
placed W a B x (Awake e p) n h r en b m le lt =
    let t = Awake e p in
    let k = row_read W a B x t n h in
    let hp = stands_one W n (row a B x t 0) (rows (part_liveness a p) (B) (Part n) p (n + 1)) h in
    let kp = row_read W (part_liveness a p) (B) (Part n) p (n + 1) hp in
    let pp = part_of W a B (B) x (Part n) t p 0 (second_of p (n + 1)) n (n + 1) k.within (omega arith) k.same kp.same in
    one_place (Placed W) n (statement_count p) m (here_placed W a B x t n h r en b)
    (placed W (part_liveness a p) (B) (Part n) p (n + 1) hp (part_fits a p n (n + 1) (omega arith) r) pp
    (binders_below W n (n + 1) B a (part_liveness a p) (omega arith) (part_up a p n r) b)) le lt
placed W a B x t n h r en b m le lt =
    subst (Placed W) (let z : n ≡ m = omega arith in z) (here_placed W a B x t n h r en b)

pub program_placed : (p : Program) (m : ℕ) → m < statement_count p.body → Placed (program_rows p) m
program_placed p m h =
    placed (program_rows p) (body_liveness p.body) (program_scope p.inputs (interface_count p)) Body p.body 0 (stands_whole (program_rows p))
    (body_fits p.body) refl (binders_first (program_rows p) p.inputs (interface_count p) (body_liveness p.body)) m (omega arith) (omega arith)
