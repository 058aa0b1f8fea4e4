-- What the tables say of a live instance: its row, the rows around it, and the wires that are there.
use Rattle.std.proofs.Common.{◌^◌}
use Rattle.grc_graph.proofs.Exports.{statement_count-le, PartOf, TestedPart, SecondPart, LoopedPart, Entered, Kind, IsGo, Below}
use Rattle.grc_graph.proofs.Exports.{WireAt, wire_named, wire_only, wire_there, live_instance}
use Rattle.grc_build.specs.Entering.{tested_by, suspended_by, FirstEnd, LoopStart}
use Rattle.grc_build.proofs.Words.{◌≡◌, ℕ, ◌+◌, ◌<◌, true, false, ◌==◌, length, get_or, sym, ap, ◌∙◌, subst, ⊎_elim, arith, Contains, if◌then◌else◌, cases_Bool}
use Rattle.grc_build.proofs.Words.{eqb-true, and_parts, Expression, IsKernel, statement_count, trees_are_kernels_lem, Statement, Layer, Resumed, Started}
use Rattle.grc_build.proofs.Words.{second_liveness, loop_liveness, program_rows, listed_row, entry_formula, live_in, Entry, Part, Branch, Then, Else, Suspended}
use Rattle.grc_build.proofs.Words.{Second, Looped, view_of, entry_view, Go, End, instance_codes, at_layer, Placed, program_placed, statement_read}
use Rattle.grc_build.proofs.Words.{length-statements, length-program_rows, IsEnd, instance_live, Tables, program_in, row_in, AreTables, IsLive, IsThere}
use Rattle.grc_build.proofs.Words.{IsTestOf, first_end, loop_start}
use Rattle.grc_build.proofs.PartLiveness.{part_above, second_above, second_above_own, loop_above, loop_above_own, part_live, loop_part_live}

pub kernel_of : (t : Tables) → IsKernel (program_in t).body
kernel_of t = trees_are_kernels_lem t.program.now.body

-- a live instance
pub record Here (t : Tables) (n : ℕ) (l : Layer) : Type 0 where
  pub within : n < statement_count (program_in t).body
  pub live : live_in (row_in t n).live l ≡ true
  pub placed : Placed (program_rows (program_in t)) n

pub here : (t : Tables) (n : ℕ) (l : Layer) → AreTables t → IsLive t n l → Here t n l
here t n l h k =
    let v = live_instance (program_in t) n l (subst (λ xs. Contains xs (at_layer n l)) h.instances k) in
    record { within = v.within; live = v.live; placed = program_placed (program_in t) n v.within }

pub is_live : (t : Tables) (n : ℕ) (l : Layer) → AreTables t → n < statement_count (program_in t).body → live_in (row_in t n).live l ≡ true → IsLive t n l
is_live t n l h w v = subst (λ xs. Contains xs (at_layer n l)) (sym h.instances) (instance_live (program_in t) n l w v)

-- a wire that is there
pub is_there : (t : Tables) (c : Kind) (n : ℕ) (l : Layer) → AreTables t → Below c → WireAt (program_in t) c n l → IsThere t (wire_named c n l)
is_there t c n l h b w = subst (λ ws. Contains ws (wire_named c n l)) (sym h.wires) (wire_there (program_in t) (kernel_of t) c n l b w)

pub only_there : (t : Tables) (c : Kind) (n : ℕ) (l : Layer) → AreTables t → IsThere t (wire_named c n l) → WireAt (program_in t) c n l
only_there t c n l h k = wire_only (program_in t) (kernel_of t) c n l (subst (λ ws. Contains ws (wire_named c n l)) h.wires k)

pub go_there : (t : Tables) (n : ℕ) (l : Layer) → AreTables t → n < statement_count (program_in t).body → live_in (row_in t n).live l ≡ true →
    IsThere t (Go n l)
go_there t n l h w v = is_there t IsGo n l h tt (record { within = w; live = v; has = tt })

pub end_there : (t : Tables) (n k : ℕ) (l : Layer) → AreTables t → k < 64 → n < statement_count (program_in t).body → live_in (row_in t n).live l ≡ true
    → instance_codes (row_in t n).statement l k ≡ true → IsThere t (End n l k)
end_there t n k l h b w v e = is_there t (IsEnd k) n l h b (record { within = w; live = v; has = e })

-- numbers of statements
pub number_fits : (t : Tables) (n : ℕ) → AreTables t → n < statement_count (program_in t).body → n + 1 < 2 ^ 32
number_fits t n h w = omega (arith, h.formed.body.size, statement_count-le (program_in t).body)

pub statements_within : (t : Tables) (n : ℕ) → AreTables t → n < statement_count (program_in t).body → n < length t.statements.items
statements_within t n h w = omega (arith, length-statements (program_in t) t.statements.items h.statements)

pub within_rows : (t : Tables) (n : ℕ) → n < length (program_rows (program_in t)) → n < statement_count (program_in t).body
within_rows t n h = omega (arith, length-program_rows (program_in t))

pub statement_row : (t : Tables) (n : ℕ) (s : Statement) → AreTables t → n < statement_count (program_in t).body → s ≡ get_or t.statements.items n s
    → view_of s ≡ listed_row (row_in t n)
statement_row t n s h w e = statement_read (program_in t) t.statements.items n s h.statements w e

-- ---- what lets an instance run

part_go : (t : Tables) (c n : ℕ) (l : Layer) → AreTables t → Here t c l → PartOf (program_rows (program_in t)) c n → IsThere t (Go n l)
part_go t c n l h k p =
    go_there t n l h (within_rows t n p.within)
    (part_above (row_in t n).live (row_in t c).statement l (subst (λ a. live_in a l ≡ true) p.live k.live))

part_is_live : (t : Tables) (c n : ℕ) (l : Layer) → AreTables t → Here t c l → PartOf (program_rows (program_in t)) c n → IsLive t n l
part_is_live t c n l h k p =
    is_live t n l h (within_rows t n p.within)
    (part_above (row_in t n).live (row_in t c).statement l (subst (λ a. live_in a l ≡ true) p.live k.live))

-- an entry, by the statement's row
pub record EntryAt (t : Tables) (c : ℕ) (l : Layer) (x : Entry) : Type 0 where
  pub tables : AreTables t
  pub at : Here t c l
  pub entry : (row_in t c).entry ≡ x
  pub entered : Entered (program_rows (program_in t)) c x

pub entry_at : {t : Tables} {c : ℕ} {l : Layer} {s : Statement} {x : Entry} → AreTables t → IsLive t c l → s ≡ get_or t.statements.items c s →
    entry_view s.control ≡ x → EntryAt t c l x
entry_at {t} {c} {l} {s} {x} h k e v =
    let i = here t c l h k in
    let same : (row_in t c).entry ≡ x = sym (ap (λ y. y.entry) (statement_row t c s h i.within e)) ∙ v in
    record { tables = h; at = i; entry = same; entered = subst (Entered (program_rows (program_in t)) c) same i.placed.entered }

pub part_entered : {t : Tables} {c n : ℕ} {l : Layer} → EntryAt t c l (Part n) → IsThere t (Go n l)
part_entered x = part_go _ _ _ _ x.tables x.at x.entered

pub branch_entered : {t : Tables} {c n : ℕ} {l : Layer} → EntryAt t c l (Branch n) → IsThere t (Go n l)
branch_entered x = part_go _ _ _ _ x.tables x.at x.entered

test_entered : (t : Tables) (c n : ℕ) (e : Expression) (l : Layer) → AreTables t → Here t c l → TestedPart (program_rows (program_in t)) c n e →
    IsTestOf t n e l
test_entered t c n e l h k p = record {
  tables = h;
  live = part_is_live t c n l h k p.part;
  go = part_go t c n l h k p.part;
  signals = p.signals;
}

pub then_entered : {t : Tables} {c n : ℕ} {e : Expression} {l : Layer} → EntryAt t c l (Then n e) → IsTestOf t n e l
then_entered x = test_entered _ _ _ _ _ x.tables x.at x.entered

pub else_entered : {t : Tables} {c n : ℕ} {e : Expression} {l : Layer} → EntryAt t c l (Else n e) → IsTestOf t n e l
else_entered x = test_entered _ _ _ _ _ x.tables x.at x.entered

pub suspended_entered : {t : Tables} {c n : ℕ} {e : Expression} {l : Layer} → EntryAt t c l (Suspended n e) → IsTestOf t n e l
suspended_entered x = test_entered _ _ _ _ _ x.tables x.at x.entered

pub second_entered : {t : Tables} {c n : ℕ} {l : Layer} → EntryAt t c l (Second n) → FirstEnd t n c l
second_entered {t} {c} {n} {l} x =
    let h = x.tables in
    let s = x.entered in
    let w = within_rows t n s.within in
    record { number = number_fits t n h w; there = there s l (subst (λ a. live_in a l ≡ true) s.live x.at.live) }
  where
    there : (s : SecondPart (program_rows (program_in t)) c n) (l : Layer)
        → live_in (second_liveness (row_in t n).live (row_in t (n + 1)).statement (row_in t c).statement c) l ≡ true → IsThere t (first_end n c l)
    there s Resumed v = go_there t n Resumed x.tables (within_rows t n s.within) (and_parts (row_in t n).live.resumed _ v).0
    there s (Started r) v = ⊎_elim
        (λ e.
        let z : r ≡ c = eqb-true r c e in
        let o = second_above_own (row_in t n).live (row_in t (n + 1)).statement (row_in t c).statement n c s.roots (omega (arith, s.before))
        (subst (λ q. live_in (second_liveness (row_in t n).live (row_in t (n + 1)).statement (row_in t c).statement c) (Started q) ≡ true) z v) in
        subst (λ b. IsThere t (End (n + 1) (if b then Resumed else Started r) 0)) (sym e) (first s Resumed o.0 o.1))
        (λ e.
        let o = second_above (row_in t n).live (row_in t (n + 1)).statement (row_in t c).statement c r e v in
        subst (λ b. IsThere t (End (n + 1) (if b then Resumed else Started r) 0)) (sym e) (first s (Started r) o.1 o.0))
        (cases_Bool (r == c))
      where
        first : (s : SecondPart (program_rows (program_in t)) c n) (j : Layer) → live_in (row_in t n).live j ≡ true
            → instance_codes (row_in t (n + 1)).statement j 0 ≡ true → IsThere t (End (n + 1) j 0)
        first s j v e =
            end_there t (n + 1) 0 j x.tables (omega arith) (omega (arith, s.before, x.at.within))
            (subst (λ a. live_in a j ≡ true) (sym s.first.live) (part_live (row_in t n).live (row_in t (n + 1)).statement j 0 (omega arith) v e)) e

pub looped_entered : {t : Tables} {c n : ℕ} {l : Layer} → EntryAt t c l (Looped n) → LoopStart t n l
looped_entered {t} {c} {n} {l} x =
    let h = x.tables in
    let s = x.entered in
    let w = within_rows t n s.within in
    record { number = number_fits t n h w; there = there s l (subst (λ a. live_in a l ≡ true) s.live x.at.live) }
  where
    there : (s : LoopedPart (program_rows (program_in t)) c n) (l : Layer) → live_in (loop_liveness (row_in t n).live (row_in t c).statement c) l ≡ true
        → IsThere t (loop_start n l)
    there s Resumed v = go_there t n Resumed x.tables (within_rows t n s.within) (and_parts (row_in t n).live.resumed _ v).0
    there s (Started r) v = ⊎_elim
        (λ e.
        let z : r ≡ c = eqb-true r (n + 1) e ∙ sym s.number in
        let o = loop_above_own (row_in t n).live (row_in t c).statement n c s.roots (omega (arith, s.number))
        (subst (λ q. live_in (loop_liveness (row_in t n).live (row_in t c).statement c) (Started q) ≡ true) z v) in
        let own : live_in (row_in t c).live Resumed ≡ true
        = subst (λ a. live_in a Resumed ≡ true) (sym s.live) (loop_part_live (row_in t n).live (row_in t c).statement c Resumed 0 (omega arith) o.0 o.1) in
        subst (λ b. IsThere t (if b then End (n + 1) Resumed 0 else Go n (Started r))) (sym e)
        (subst (λ m. IsThere t (End m Resumed 0)) s.number (end_there t c 0 Resumed x.tables (omega arith) x.at.within own o.1)))
        (λ e.
        subst (λ b. IsThere t (if b then End (n + 1) Resumed 0 else Go n (Started r))) (sym e)
        (go_there t n (Started r) x.tables (within_rows t n s.within)
        (loop_above (row_in t n).live (row_in t c).statement c r (subst (λ m. (r == m) ≡ false) (sym s.number) e) v)))
        (cases_Bool (r == n + 1))

-- the formulas of entries, as their statement has them
pub tested_same : {t : Tables} {c n : ℕ} {e : Expression} {l : Layer} → EntryAt t c l (Then n e)
    → tested_by (row_in t n).scope e false n c l ≡ entry_formula (row_in t c).scope (row_in t c).entry c l
tested_same {t} {c} {n} {e} {l} x =
    (λ i. entry_formula (x.entered.scope i) (Then n e) c l) ∙ λ i. entry_formula (row_in t c).scope (sym x.entry i) c l

pub negated_same : {t : Tables} {c n : ℕ} {e : Expression} {l : Layer} → EntryAt t c l (Else n e)
    → tested_by (row_in t n).scope e true n c l ≡ entry_formula (row_in t c).scope (row_in t c).entry c l
negated_same {t} {c} {n} {e} {l} x =
    (λ i. entry_formula (x.entered.scope i) (Else n e) c l) ∙ λ i. entry_formula (row_in t c).scope (sym x.entry i) c l

pub suspended_same : {t : Tables} {c n : ℕ} {e : Expression} {l : Layer} → EntryAt t c l (Suspended n e)
    → suspended_by (row_in t n).scope e n l ≡ entry_formula (row_in t c).scope (row_in t c).entry c l
suspended_same {t} {c} {n} {e} {l} x =
    (λ i. entry_formula (x.entered.scope i) (Suspended n e) c l) ∙ λ i. entry_formula (row_in t c).scope (sym x.entry i) c l

pub entry_same : {t : Tables} {c : ℕ} {l : Layer} {x : Entry} → EntryAt t c l x
    → entry_formula (row_in t c).scope x c l ≡ entry_formula (row_in t c).scope (row_in t c).entry c l
entry_same {t} {c} {l} e = λ i. entry_formula (row_in t c).scope (sym e.entry i) c l
