-- Which ends of the parts of a live statement are there.
use Rattle.std.proofs.Common.{append_assoc}
use Rattle.std.proofs.lemmas.Bool.{and_right}
use Rattle.grc_graph.proofs.Exports.{length-rows, stands_one, stands_first, stands_second}
use Rattle.grc_build.specs.Ending.{IsParallel, TellsLive, suspension_ends, sequence_ends, loop_ends, parallel_formula}
use Rattle.grc_build.proofs.Words.{◌≡◌, ℕ, ◌+◌, ◌<◌, Bool, true, false, ◌==◌, ◌&&◌, not, [], ◌∷◌, ◌++◌, refl, sym, ap, ◌∙◌, subst, arith, get_or, and_parts}
use Rattle.grc_build.proofs.Words.{and_from, false≢true, term_of, Expression, Term, Present, Suspend, Seq, Loop, Par, Trap, Local, statement_count, codes_if}
use Rattle.grc_build.proofs.Words.{has_code, started_codes, resumed_codes, upto-in, Statement, end_formula, branch_over, Conjunction, any_of, Layer, Resumed}
use Rattle.grc_build.proofs.Words.{Started, Liveness, can_pass, part_liveness, second_liveness, loop_liveness, row, rows, second_of, program_rows, live_in}
use Rattle.grc_build.proofs.Words.{Scope, bind, test_formula, signals_of, Entry, Part, Branch, Then, Else, Suspended, Second, Looped, Go, End, instance_codes}
use Rattle.grc_build.proofs.Words.{program_kernel, codes_below-kernel, StandsAt, Placed, program_placed, row_read, IsEnd, Tables, IsEnding, Tells, end_if}
use Rattle.grc_build.proofs.Words.{held_upto, held_end, formula_if, Span, IsTestOf, program_in, row_in, AreTables, IsThere}
use Rattle.grc_build.proofs.PartLiveness.{part_live, part_resumed, second_started, second_own, second_resumed, loop_own, loop_part_live, and_true}
use Rattle.grc_build.proofs.TableFacts.{Here, here, is_live, go_there, end_there, only_there, within_rows, statement_row, kernel_of}

-- ---- what is there, by the row

pub tells_end : (t : Tables) (c k : ℕ) (l : Layer) → AreTables t → c < statement_count (program_in t).body
    → Tells t (End c l k) (live_in (row_in t c).live l && instance_codes (row_in t c).statement l k)
tells_end t c k l h w = (
  λ x. let o = only_there t (IsEnd k) c l h x in and_from _ _ o.live o.has,
  λ e.
      let o = and_parts (live_in (row_in t c).live l) (instance_codes (row_in t c).statement l k) e in
      end_there t c k l h (codes_below-kernel (row_in t c).statement l k (program_kernel (program_in t) c (kernel_of t) h.formed.body w) o.1) w o.0 o.1,
)

pub tells_live : (t : Tables) (c : ℕ) (l : Layer) → AreTables t → c < statement_count (program_in t).body → TellsLive t c l (live_in (row_in t c).live l)
tells_live t c l h w = (λ x. (here t c l h x).live, λ e. is_live t c l h w e)

-- ---- a statement whose end is made

pub ending_here : (t : Tables) (n : ℕ) (l : Layer) (k : ℕ) → IsEnding t n l k → Here t n l
ending_here t n l k h =
    let o = only_there t (IsEnd k) n l h.tables h.there in
    record { within = o.within; live = o.live; placed = program_placed (program_in t) n o.within }

-- a live instance whose statement has this form, with the number m of its second part
pub record FormAt (t : Tables) (n : ℕ) (l : Layer) (m : ℕ) (f : Term) : Type 0 where
  pub tables : AreTables t
  pub here : Here t n l
  pub statement : (row_in t n).statement ≡ f
  pub second : m ≡ second_of f n

pub form_at : {t : Tables} {n : ℕ} {l : Layer} {k : ℕ} {s : Statement} {f : Term} → IsEnding t n l k → s ≡ get_or t.statements.items n s
    → term_of s.body.now ≡ f
    → FormAt t n l s.second f
form_at {t} {n} {l} {k} {s} {f} h e g =
    let i = ending_here t n l k h in
    let v = statement_row t n s h.tables i.within e in
    let same : (row_in t n).statement ≡ f = sym (ap (λ y. y.statement) v) ∙ g in
    record { tables = h.tables; here = i; statement = same; second = ap (λ y. y.second) v ∙ i.placed.second ∙ ap (λ y. second_of y n) same }

pub go_here : {t : Tables} {n : ℕ} {l : Layer} {m : ℕ} {f : Term} → FormAt t n l m f → IsThere t (Go n l)
go_here o = go_there _ _ _ o.tables o.here.within o.here.live

-- ---- the rows of parts

pub record PartRow (t : Tables) (c : ℕ) (a : Liveness) (q : Term) : Type 0 where
  pub within : c < statement_count (program_in t).body
  pub live : (row_in t c).live ≡ a
  pub statement : (row_in t c).statement ≡ q

part_row : (t : Tables) (c k : ℕ) (a : Liveness) (B : Scope) (x : Entry) (q : Term) → StandsAt (program_rows (program_in t)) c (rows a B x q c) →
    PartRow t c a q
part_row t c k a B x q h =
    let r = row_read (program_rows (program_in t)) a B x q c h in
    record { within = within_rows t c r.within; live = ap (λ y. y.live) r.same; statement = ap (λ y. y.statement) r.same }

-- the row of a statement of this form
stands_as : (t : Tables) (n : ℕ) (s : Term) → Placed (program_rows (program_in t)) n → (row_in t n).statement ≡ s
    → StandsAt (program_rows (program_in t)) n (rows (row_in t n).live (row_in t n).scope (row_in t n).entry s n)
stands_as t n s p e = subst (λ v. StandsAt (program_rows (program_in t)) n (rows (row_in t n).live (row_in t n).scope (row_in t n).entry v n)) e p.stands

pub present_first : {t : Tables} {n : ℕ} {l : Layer} {m : ℕ} {e : Expression} {p q : Term} → FormAt t n l m (Present e p q)
    → PartRow t (n + 1) (part_liveness (row_in t n).live p) p
present_first {t} {n} {l} {m} {e} {p} {q} o =
    part_row t (n + 1) 0 (part_liveness (row_in t n).live p) (row_in t n).scope (Then n e) p
    (stands_first (program_rows (program_in t)) n (row (row_in t n).live (row_in t n).scope (row_in t n).entry (Present e p q) (n + 1 + statement_count p))
    (rows (part_liveness (row_in t n).live p) (row_in t n).scope (Then n e) p (n + 1))
    (rows (part_liveness (row_in t n).live q) (row_in t n).scope (Else n e) q (n + 1 + statement_count p))
    (stands_as t n (Present e p q) o.here.placed o.statement))

pub present_second : {t : Tables} {n : ℕ} {l : Layer} {m : ℕ} {e : Expression} {p q : Term} → FormAt t n l m (Present e p q)
    → PartRow t m (part_liveness (row_in t n).live q) q
present_second {t} {n} {l} {m} {e} {p} {q} o =
    subst (λ m. PartRow t m (part_liveness (row_in t n).live q) q) (sym o.second)
    (part_row t (n + 1 + statement_count p) 0 (part_liveness (row_in t n).live q) (row_in t n).scope (Else n e) q
    (stands_second (program_rows (program_in t)) n (row (row_in t n).live (row_in t n).scope (row_in t n).entry (Present e p q) (n + 1 + statement_count p)) p
    (rows (part_liveness (row_in t n).live p) (row_in t n).scope (Then n e) p (n + 1))
    (rows (part_liveness (row_in t n).live q) (row_in t n).scope (Else n e) q (n + 1 + statement_count p))
    (length-rows (part_liveness (row_in t n).live p) (row_in t n).scope (Then n e) p (n + 1)) (stands_as t n (Present e p q) o.here.placed o.statement)))

pub seq_first : {t : Tables} {n : ℕ} {l : Layer} {m : ℕ} {p q : Term} → FormAt t n l m (Seq p q) → PartRow t (n + 1) (part_liveness (row_in t n).live p) p
seq_first {t} {n} {l} {m} {p} {q} o =
    part_row t (n + 1) 0 (part_liveness (row_in t n).live p) (row_in t n).scope (Branch n) p
    (stands_first (program_rows (program_in t)) n (row (row_in t n).live (row_in t n).scope (row_in t n).entry (Seq p q) (n + 1 + statement_count p))
    (rows (part_liveness (row_in t n).live p) (row_in t n).scope (Branch n) p (n + 1))
    (rows (second_liveness (row_in t n).live p q (n + 1 + statement_count p)) (row_in t n).scope (Second n) q (n + 1 + statement_count p))
    (stands_as t n (Seq p q) o.here.placed o.statement))

pub seq_second : {t : Tables} {n : ℕ} {l : Layer} {m : ℕ} {p q : Term} → FormAt t n l m (Seq p q) → PartRow t m (second_liveness (row_in t n).live p q (m)) q
seq_second {t} {n} {l} {m} {p} {q} o =
    subst (λ m. PartRow t m (second_liveness (row_in t n).live p q m) q) (sym o.second)
    (part_row t (n + 1 + statement_count p) 0 (second_liveness (row_in t n).live p q (n + 1 + statement_count p)) (row_in t n).scope (Second n) q
    (stands_second (program_rows (program_in t)) n (row (row_in t n).live (row_in t n).scope (row_in t n).entry (Seq p q) (n + 1 + statement_count p)) p
    (rows (part_liveness (row_in t n).live p) (row_in t n).scope (Branch n) p (n + 1))
    (rows (second_liveness (row_in t n).live p q (n + 1 + statement_count p)) (row_in t n).scope (Second n) q (n + 1 + statement_count p))
    (length-rows (part_liveness (row_in t n).live p) (row_in t n).scope (Branch n) p (n + 1)) (stands_as t n (Seq p q) o.here.placed o.statement)))

pub par_first : {t : Tables} {n : ℕ} {l : Layer} {m : ℕ} {p q : Term} → FormAt t n l m (Par p q) → PartRow t (n + 1) (part_liveness (row_in t n).live p) p
par_first {t} {n} {l} {m} {p} {q} o =
    part_row t (n + 1) 0 (part_liveness (row_in t n).live p) (row_in t n).scope (Branch n) p
    (stands_first (program_rows (program_in t)) n (row (row_in t n).live (row_in t n).scope (row_in t n).entry (Par p q) (n + 1 + statement_count p))
    (rows (part_liveness (row_in t n).live p) (row_in t n).scope (Branch n) p (n + 1))
    (rows (part_liveness (row_in t n).live q) (row_in t n).scope (Branch n) q (n + 1 + statement_count p)) (stands_as t n (Par p q) o.here.placed o.statement))

pub par_second : {t : Tables} {n : ℕ} {l : Layer} {m : ℕ} {p q : Term} → FormAt t n l m (Par p q) → PartRow t m (part_liveness (row_in t n).live q) q
par_second {t} {n} {l} {m} {p} {q} o =
    subst (λ m. PartRow t m (part_liveness (row_in t n).live q) q) (sym o.second)
    (part_row t (n + 1 + statement_count p) 0 (part_liveness (row_in t n).live q) (row_in t n).scope (Branch n) q
    (stands_second (program_rows (program_in t)) n (row (row_in t n).live (row_in t n).scope (row_in t n).entry (Par p q) (n + 1 + statement_count p)) p
    (rows (part_liveness (row_in t n).live p) (row_in t n).scope (Branch n) p (n + 1))
    (rows (part_liveness (row_in t n).live q) (row_in t n).scope (Branch n) q (n + 1 + statement_count p))
    (length-rows (part_liveness (row_in t n).live p) (row_in t n).scope (Branch n) p (n + 1)) (stands_as t n (Par p q) o.here.placed o.statement)))

pub suspend_part : {t : Tables} {n : ℕ} {l : Layer} {m : ℕ} {e : Expression} {p : Term} → FormAt t n l m (Suspend e p)
    → PartRow t (n + 1) (part_liveness (row_in t n).live p) p
suspend_part {t} {n} {l} {m} {e} {p} o =
    part_row t (n + 1) 0 (part_liveness (row_in t n).live p) (row_in t n).scope (Suspended n e) p
    (stands_one (program_rows (program_in t)) n (row (row_in t n).live (row_in t n).scope (row_in t n).entry (Suspend e p) 0)
    (rows (part_liveness (row_in t n).live p) (row_in t n).scope (Suspended n e) p (n + 1)) (stands_as t n (Suspend e p) o.here.placed o.statement))

pub loop_part : {t : Tables} {n : ℕ} {l : Layer} {m : ℕ} {at : Span} {p : Term} → FormAt t n l m (Loop at p)
    → PartRow t (n + 1) (loop_liveness (row_in t n).live p (n + 1)) p
loop_part {t} {n} {l} {m} {at} {p} o =
    part_row t (n + 1) 0 (loop_liveness (row_in t n).live p (n + 1)) (row_in t n).scope (Looped n) p
    (stands_one (program_rows (program_in t)) n (row (row_in t n).live (row_in t n).scope (row_in t n).entry (Loop at p) 0)
    (rows (loop_liveness (row_in t n).live p (n + 1)) (row_in t n).scope (Looped n) p (n + 1)) (stands_as t n (Loop at p) o.here.placed o.statement))

pub trap_part : {t : Tables} {n : ℕ} {l : Layer} {m : ℕ} {p : Term} → FormAt t n l m (Trap p) → PartRow t (n + 1) (part_liveness (row_in t n).live p) p
trap_part {t} {n} {l} {m} {p} o =
    part_row t (n + 1) 0 (part_liveness (row_in t n).live p) (row_in t n).scope (Part n) p
    (stands_one (program_rows (program_in t)) n (row (row_in t n).live (row_in t n).scope (row_in t n).entry (Trap p) 0)
    (rows (part_liveness (row_in t n).live p) (row_in t n).scope (Part n) p (n + 1)) (stands_as t n (Trap p) o.here.placed o.statement))

pub local_part : {t : Tables} {n : ℕ} {l : Layer} {m : ℕ} {x : ℕ} {p : Term} → FormAt t n l m (Local x p)
    → PartRow t (n + 1) (part_liveness (row_in t n).live p) p
local_part {t} {n} {l} {m} {x} {p} o =
    part_row t (n + 1) 0 (part_liveness (row_in t n).live p) (bind (row_in t n).scope x n) (Part n) p
    (stands_one (program_rows (program_in t)) n (row (row_in t n).live (row_in t n).scope (row_in t n).entry (Local x p) 0)
    (rows (part_liveness (row_in t n).live p) (bind (row_in t n).scope x n) (Part n) p (n + 1)) (stands_as t n (Local x p) o.here.placed o.statement))

-- ---- conditions

part_bool : (a : Liveness) (q : Term) (l : Layer) (k : ℕ) → (instance_codes q l k ≡ true → k < 64) → live_in a l ≡ true
    → (live_in (part_liveness a q) l && instance_codes q l k) ≡ instance_codes q l k
part_bool a q l k b h = by_code (instance_codes q l k) refl
  where
    by_code : (x : Bool) → instance_codes q l k ≡ x → (live_in (part_liveness a q) l && x) ≡ x
    by_code true e = and_true (live_in (part_liveness a q) l) true (part_live a q l k (b e) h e)
    by_code false e = and_right (live_in (part_liveness a q) l) false refl

loop_bool : (a : Liveness) (q : Term) (m : ℕ) (l : Layer) (k : ℕ) → (instance_codes q l k ≡ true → k < 64) → live_in a l ≡ true
    → (live_in (loop_liveness a q m) l && instance_codes q l k) ≡ instance_codes q l k
loop_bool a q m l k b h = by_code (instance_codes q l k) refl
  where
    by_code : (x : Bool) → instance_codes q l k ≡ x → (live_in (loop_liveness a q m) l && x) ≡ x
    by_code true e = and_true (live_in (loop_liveness a q m) l) true (loop_part_live a q m l k (b e) h e)
    by_code false e = and_right (live_in (loop_liveness a q m) l) false refl

second_bool : (x : Bool) (A : ℕ → Bool) (k : ℕ) → (A k ≡ true → k < 64) → ((x && has_code A) && A k) ≡ (x && A k)
second_bool x A k b = by_code (A k) refl
  where
    by_code : (y : Bool) → A k ≡ y → ((x && has_code A) && y) ≡ (x && y)
    by_code true e = tidy x (has_code A) (upto-in A k 63 e (let z : k < 64 = b e in omega arith))
      where
        tidy : (x c : Bool) → c ≡ true → ((x && c) && true) ≡ (x && true)
        tidy true true e = refl
        tidy true false e = absurd (false≢true e)
        tidy false c e = refl
    by_code false e = none x (has_code A)
      where
        none : (x c : Bool) → ((x && c) && false) ≡ (x && false)
        none true true = refl
        none true false = refl
        none false c = refl

bounded : (t : Tables) (c : ℕ) (q : Term) (a : Liveness) (l : Layer) (k : ℕ) → AreTables t → PartRow t c a q → instance_codes q l k ≡ true → k < 64
bounded t c q a l k h r e =
    codes_below-kernel (row_in t c).statement l k (program_kernel (program_in t) c (kernel_of t) h.formed.body r.within)
    (subst (λ v. instance_codes v l k ≡ true) (sym r.statement) e)

by_row : (t : Tables) (c k : ℕ) (l : Layer) (a : Liveness) (q : Term) (b : Bool) → AreTables t → PartRow t c a q → (live_in a l && instance_codes q l k) ≡ b →
    Tells t (End c l k) b
by_row t c k l a q b h r e =
    subst (Tells t (End c l k)) ((λ i. live_in (r.live i) l && instance_codes (r.statement i) l k) ∙ e) (tells_end t c k l h r.within)

pub part_tells : {t : Tables} {n c k m : ℕ} {l : Layer} {f q : Term} → FormAt t n l m f → PartRow t c (part_liveness (row_in t n).live q) q
    → Tells t (End c l k) (instance_codes q l k)
part_tells {t} {n} {c} {k} {m} {l} {f} {q} o r =
    by_row t c k l (part_liveness (row_in t n).live q) q _ o.tables r (part_bool (row_in t n).live q l k (bounded t c q _ l k o.tables r) o.here.live)

pub loop_tells : {t : Tables} {n c k m : ℕ} {l : Layer} {f q : Term} → FormAt t n l m f → PartRow t c (loop_liveness (row_in t n).live q c) q
    → Tells t (End c l k) (instance_codes q l k)
loop_tells {t} {n} {c} {k} {m} {l} {f} {q} o r =
    by_row t c k l (loop_liveness (row_in t n).live q c) q _ o.tables r (loop_bool (row_in t n).live q c l k (bounded t c q _ l k o.tables r) o.here.live)

-- where the second part of a sequence has a code, in a layer of the sequence
abbrev pub second_code : Term → Term → Layer → ℕ → Bool
second_code p q Resumed = codes_if (can_pass p) (resumed_codes q)
second_code p q (Started r) = codes_if (started_codes p 0) (started_codes q)

pub second_tells : {t : Tables} {n m k : ℕ} {l : Layer} {p q : Term} → FormAt t n l m (Seq p q) → Tells t (End m l k) (second_code p q l k)
second_tells {t} {n} {m} {k} {l = Resumed} {p} {q} o =
    let r = seq_second o in
    by_row t m k Resumed (second_liveness (row_in t n).live p q m) q _ o.tables r
    ((λ j. second_resumed (row_in t n).live p q m o.here.live j && resumed_codes q k)
    ∙ second_bool (can_pass p) (resumed_codes q) k (bounded t m q _ Resumed k o.tables r))
second_tells {t} {n} {m} {k} {l = Started s} {p} {q} o =
    by_row t m k (Started s) (second_liveness (row_in t n).live p q m) q _ o.tables (seq_second o)
    (λ j. second_started (row_in t n).live p q n m s o.here.placed.roots (omega (arith, o.second)) o.here.live j && started_codes q k)

pub own_tells : {t : Tables} {n m k : ℕ} {l : Layer} {p q : Term} → FormAt t n l m (Seq p q) → l ≡ Resumed
    → Tells t (End m (Started m) k) (resumed_codes p 0 && started_codes q k)
own_tells {t} {n} {m} {k} {l} {p} {q} o e =
    let i = subst (Here t n) e o.here in
    by_row t m k (Started m) (second_liveness (row_in t n).live p q m) q _ o.tables (seq_second o)
    (λ j. second_own (row_in t n).live p q n m i.placed.roots (omega (arith, o.second)) i.live j && started_codes q k)

pub restart_tells : {t : Tables} {n m k : ℕ} {l : Layer} {x : Span} {p : Term} → FormAt t n l m (Loop x p) → l ≡ Resumed
    → Tells t (End (n + 1) (Started (n + 1)) k) (resumed_codes p 0 && started_codes p k)
restart_tells {t} {n} {m} {k} {l} {x} {p} o e =
    let i = subst (Here t n) e o.here in
    by_row t (n + 1) k (Started (n + 1)) (loop_liveness (row_in t n).live p (n + 1)) p _ o.tables (loop_part o)
    (λ j. loop_own (row_in t n).live p n (n + 1) i.placed.roots (omega arith) i.live j && started_codes p k)

-- ---- the lists of ends are the definition's

pub sequence_same : {t : Tables} {n m : ℕ} {l : Layer} {p q : Term} → FormAt t n l m (Seq p q) → (k : ℕ)
    → any_of (sequence_ends (instance_codes p l k) (second_code p q l k) (resumed_codes p 0 && started_codes q k) (n + 1) m l k)
    ≡ end_formula (row_in t n).scope (row_in t n).statement n l k
sequence_same {t} {n} {m} {l} {p} {q} o k =
    (λ j. any_of (sequence_ends (instance_codes p l k) (second_code p q l k) (resumed_codes p 0 && started_codes q k) (n + 1) (o.second j) l k))
    ∙ by l ∙ ap (λ v. end_formula (row_in t n).scope v n l k) (sym o.statement)
  where
    by : (l : Layer) → any_of (sequence_ends (instance_codes p l k) (second_code p q l k) (resumed_codes p 0 && started_codes q k)
        (n + 1) (n + 1 + statement_count p) l k)
        ≡ end_formula (row_in t n).scope (Seq p q) n l k
    by Resumed = refl
    by (Started r) = refl

pub loop_same : {t : Tables} {n m : ℕ} {l : Layer} {x : Span} {p : Term} → FormAt t n l m (Loop x p) → (k : ℕ)
    → any_of (loop_ends (instance_codes p l k) (resumed_codes p 0 && started_codes p k) (n + 1) l k)
    ≡ end_formula (row_in t n).scope (row_in t n).statement n l k
loop_same {t} {n} {m} {l} {x} {p} o k = by l ∙ ap (λ v. end_formula (row_in t n).scope v n l k) (sym o.statement)
  where
    assoc : (a b c : Bool) → ((a && b) && c) ≡ (a && (b && c))
    assoc true b c = refl
    assoc false b c = refl

    by : (l : Layer) → any_of (loop_ends (instance_codes p l k) (resumed_codes p 0 && started_codes p k) (n + 1) l k)
        ≡ end_formula (row_in t n).scope (Loop x p) n l k
    by Resumed =
        λ i. any_of (end_if (resumed_codes p k && not (k == 0)) (n + 1) Resumed k
        ++ end_if (assoc (resumed_codes p 0) (started_codes p k) (not (k == 0)) i) (n + 1) (Started (n + 1)) k)
    by (Started r) = refl

pub suspension_same : {t : Tables} {n m : ℕ} {l : Layer} {e : Expression} {p : Term} → FormAt t n l m (Suspend e p) → (k : ℕ)
    → any_of (suspension_ends (instance_codes p l k) (test_formula (row_in t n).scope e l) n (n + 1) l k)
    ≡ end_formula (row_in t n).scope (row_in t n).statement n l k
suspension_same {t} {n} {m} {l} {e} {p} o k = by l ∙ ap (λ v. end_formula (row_in t n).scope v n l k) (sym o.statement)
  where
    by : (l : Layer) → any_of (suspension_ends (instance_codes p l k) (test_formula (row_in t n).scope e l) n (n + 1) l k)
        ≡ end_formula (row_in t n).scope (Suspend e p) n l k
    by Resumed = refl
    by (Started r) = refl

-- the ends of the branches of a resumed parallel, grouped by branches
regroup : (a i b x : Bool) (n c d k : ℕ)
    → parallel_formula a i b x n c d Resumed k
    ≡ Conjunction (any_of (formula_if a (held_upto c k) ++ branch_over n c ∷ []))
    (Conjunction (any_of (formula_if i (held_upto d k) ++ branch_over n d ∷ []))
    (any_of ((formula_if b (held_end c k) ++ formula_if (k == 0) (branch_over n c)) ++ (formula_if x (held_end d k) ++ formula_if (k == 0) (branch_over n d)))))
regroup a i b x n c d k =
    λ j. Conjunction (any_of (formula_if a (held_upto c k) ++ branch_over n c ∷ []))
    (Conjunction (any_of (formula_if i (held_upto d k) ++ branch_over n d ∷ []))
    (any_of (sym (append_assoc (formula_if b (held_end c k)) (formula_if (k == 0) (branch_over n c))
    (formula_if x (held_end d k) ++ formula_if (k == 0) (branch_over n d))) j)))

pub parallel_same : {t : Tables} {n m : ℕ} {l : Layer} {p q : Term} → FormAt t n l m (Par p q) → (k : ℕ)
    → parallel_formula (live_in (row_in t (n + 1)).live Resumed) (live_in (row_in t m).live Resumed)
    (instance_codes p l k) (instance_codes q l k) n (n + 1) m l k
    ≡ end_formula (row_in t n).scope (row_in t n).statement n l k
parallel_same {t} {n} {m} {l} {p} {q} o k = by l o ∙ ap (λ v. end_formula (row_in t n).scope v n l k) (sym o.statement)
  where
    by : (l : Layer) → FormAt t n l m (Par p q) → parallel_formula (live_in (row_in t (n + 1)).live Resumed) (live_in (row_in t m).live Resumed)
        (instance_codes p l k) (instance_codes q l k) n (n + 1) m l k ≡ end_formula (row_in t n).scope (Par p q) n l k
    by Resumed o =
        (λ i. parallel_formula
        (((λ j. live_in ((par_first o).live j) Resumed) ∙ part_resumed (row_in t n).live p o.here.live) i)
        (((λ j. live_in ((par_second o).live j) Resumed) ∙ part_resumed (row_in t n).live q o.here.live) i)
        (resumed_codes p k) (resumed_codes q k) n (n + 1) (o.second i) Resumed k)
        ∙ regroup (has_code (resumed_codes p)) (has_code (resumed_codes q)) (resumed_codes p k) (resumed_codes q k) n (n + 1) (n + 1 + statement_count p) k
    by (Started v) o =
        λ i. parallel_formula (live_in (row_in t (n + 1)).live Resumed) (live_in (row_in t m).live Resumed) (started_codes p k) (started_codes q k) n (n + 1)
        (o.second i) (Started v) k

pub test_of : {t : Tables} {n m : ℕ} {l : Layer} {e : Expression} {p : Term} → FormAt t n l m (Suspend e p) → IsTestOf t n e l
test_of o = record {
  tables = o.tables;
  live = is_live _ _ _ o.tables o.here.within o.here.live;
  go = go_here o;
  signals = ap (λ v. signals_of v) o.statement;
}

pub is_parallel : {t : Tables} {n m : ℕ} {l : Layer} {p q : Term} → FormAt t n l m (Par p q) → IsParallel t n (n + 1) m l
is_parallel {l = Resumed} o = go_here o
is_parallel {t} {n} {m} {l = Started v} o =
    let r = par_first o in
    let s = par_second o in (
      is_live t (n + 1) (Started v) o.tables r.within (subst (λ a. live_in a (Started v) ≡ true) (sym r.live) o.here.live),
      is_live t m (Started v) o.tables s.within (subst (λ a. live_in a (Started v) ≡ true) (sym s.live) o.here.live),
    )
