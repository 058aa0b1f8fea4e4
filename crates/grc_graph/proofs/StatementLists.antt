-- The list of a body's statements, as it grows, and the table of its scopes.
use Rattle.std.proofs.Common.{◌≡◌, ℕ, ◌+◌, ◌<◌, ◌≤◌, Bool, true, false, ◌==◌, List, [], ◌∷◌, ◌++◌, length, map, get_or, set, refl, sym, ap, ◌∙◌}
use Rattle.std.proofs.Common.{⊎_elim, arith, append_assoc, get_or-set_same, get_or-set_other, set-set}
use Rattle.std.specs.Prelude.{if◌then◌else◌, nat_lt}
use Rattle.std.specs.List.{range_with_len}
use Rattle.std.proofs.lemmas.Bool.{cases_lt, cases_eq, eq-eqb, ne_eqb, le-ltb}
use Rattle.std.proofs.lemmas.List.{length-map, get_or-map, map-set, get_or-append-add, set_at, set-get_or}
use Rattle.std.proofs.Math.ListN.{get_or-eq_default}
use Rattle.std.proofs.lemmas.List.FromFn.{get_or-map-range_with_len, length-map-range_with_len}
use Rattle.est_kernel.specs.Terms.{Term, Present, Suspend, Seq, Loop, Par, Trap, Local, Awake}
use Rattle.est_kernel.specs.WellFormed.{SignalsFit, with_signal}
use Rattle.grc_graph.specs.declared.statements.Binding as bindings
use Rattle.grc_graph.specs.declared.statements.Binding.TheVariants as kinds
use Rattle.grc_graph.specs.Scopes.{Scope, Entering, Outgoing, BoundAt, Unbound, bind, program_scope}
use Rattle.grc_graph.specs.Statements.{Listed, Entry, listed, listed_one, LocalsFit}
use Rattle.est_kernel.specs.Preorder.{statement_count}
use Rattle.grc_graph.specs.StatementViews.{binding_of, scope_of}

-- ---- the table of scopes

pub scope_of-in : (table : List bindings.Binding) (s : ℕ) (d : bindings.Binding) → s < length table → scope_of table s ≡ binding_of (get_or table s d)
scope_of-in table s d h = get_or-map binding_of table s d Unbound h

pub scope_of-out : (table : List bindings.Binding) (s : ℕ) → length table ≤ s → scope_of table s ≡ Unbound
scope_of-out table s h = get_or-eq_default (map binding_of table) Unbound (omega (arith, length-map table binding_of))

-- where a signal is bound anew
pub scope_of-set : (table : List bindings.Binding) (s n : ℕ) → s < length table → scope_of (set table s (kinds.Bound n)) ≡ bind (scope_of table) s n
scope_of-set table s n h = λ i t. each t i
  where
    each : (t : ℕ) → scope_of (set table s (kinds.Bound n)) t ≡ bind (scope_of table) s n t
    each t =
        ap (λ l. get_or l t Unbound) (map-set binding_of table s (kinds.Bound n))
        ∙ ⊎_elim
        (λ e.
        let here : s < length (map binding_of table) = omega (arith, length-map table binding_of) in
        let b : (t == s) ≡ true = eq-eqb t s e in
        ap (λ k. get_or (set (map binding_of table) s (BoundAt n)) k Unbound) e ∙ get_or-set_same (map binding_of table) s (BoundAt n) Unbound here
        ∙ ap (λ c. if c then BoundAt n else scope_of table t) (sym b))
        (λ d.
        let b : (t == s) ≡ false = ne_eqb t s d in
        get_or-set_other (map binding_of table) s t (BoundAt n) Unbound d ∙ ap (λ c. if c then BoundAt n else scope_of table t) (sym b))
        (cases_eq t s)

-- ---- the list

pub patched : (old ps mid new : List Listed) (x : Listed) (place m : ℕ)
    → place ≡ length old
    → mid ≡ (old ++ x ∷ []) ++ ps
    → ((l : Listed) → new ≡ set mid place (record (get_or mid place l) { second = m }))
    → new ≡ old ++ (record x { second = m }) ∷ ps
patched old ps mid new x place m e h f =
    let whole : mid ≡ old ++ x ∷ ps = h ∙ append_assoc old (x ∷ []) ps in
    let here : get_or mid place x ≡ x = (λ i. get_or (whole i) (e i) x)
    ∙ ap (λ k. get_or (old ++ x ∷ ps) k x) (let z : length old ≡ length old + 0 = omega arith in z) ∙ get_or-append-add old (x ∷ ps) 0 x in
    f x ∙ (λ i. set (whole i) (e i) (record (here i) { second = m })) ∙ set_at old x ps (record x { second = m }) (length old) refl

-- what is appended in turn
pub part_behind : (old ps new : List Listed) (x : Listed) → new ≡ (old ++ x ∷ []) ++ ps → new ≡ old ++ x ∷ ps
part_behind old ps new x e = e ∙ append_assoc old (x ∷ []) ps

pub parts_behind : (old ps qs mid new : List Listed) (x : Listed) → mid ≡ old ++ x ∷ ps → new ≡ mid ++ qs → new ≡ old ++ x ∷ (ps ++ qs)
parts_behind old ps qs mid new x e f = f ∙ ap (λ l. l ++ qs) e ∙ append_assoc old (x ∷ ps) qs

-- ---- the scope of a program's body

pub first_scope : (table : List bindings.Binding) (inputs interface all : ℕ) → inputs ≤ interface → interface ≤ all →
    map binding_of table ≡ map (program_scope inputs interface) (range_with_len 0 all)
    → scope_of table ≡ program_scope inputs interface
first_scope table inputs interface all lo le e = λ i s. each s i
  where
    each : (s : ℕ) → scope_of table s ≡ program_scope inputs interface s
    each s =
        ap (λ l. get_or l s Unbound) e
        ∙ ⊎_elim (λ l. get_or-map-range_with_len (program_scope inputs interface) 0 all s s Unbound l (omega arith))
        (λ g.
        let a : nat_lt s interface ≡ false = le-ltb s interface (omega arith) in
        let b : nat_lt s inputs ≡ false = le-ltb s inputs (omega arith) in
        get_or-eq_default (map (program_scope inputs interface) (range_with_len 0 all)) Unbound
        (omega (arith, length-map-range_with_len (program_scope inputs interface) 0 all))
        ∙ λ i. if sym b i then Entering else if sym a i then Outgoing else Unbound)
        (cases_lt s all)

-- a statement with two parts: its own entry is appended, then those of the first part; the number of the second part is
-- written into it, and the entries of the second part are appended; parts, number and last scope by another name each
pub two_listed : (old own first second new : List Listed) (B C : Scope) (control one two : Entry) (t p p' q q' : Term) (place n m : ℕ)
    → place ≡ length old
    → C ≡ B
    → p' ≡ p
    → q' ≡ q
    → m ≡ n + 1 + statement_count p'
    → own ≡ old ++ listed_one B control t 0 ∷ []
    → first ≡ own ++ listed B one p' (n + 1)
    → ((l : Listed) → second ≡ set first place (record (get_or first place l) { second = m }))
    → new ≡ second ++ listed C two q' m
    → new ≡ old ++ listed_one B control t (n + 1 + statement_count p)
    ∷ (listed B one p (n + 1) ++ listed B two q (n + 1 + statement_count p))
two_listed old own first second new B C control one two t p p' q q' place n m at b e f g o h s k =
    let after : m ≡ n + 1 + statement_count p = g ∙ ap (λ r. n + 1 + statement_count r) e in
    parts_behind old (listed B one p (n + 1)) (listed B two q (n + 1 + statement_count p)) second new
    (listed_one B control t (n + 1 + statement_count p))
    (patched old (listed B one p (n + 1)) first second (listed_one B control t 0) place (n + 1 + statement_count p) at
    (h ∙ λ i. o i ++ listed B one (e i) (n + 1))
    (λ l. s l ∙ λ i. set first place (record (get_or first place l) { second = after i })))
    (k ∙ λ i. second ++ listed (b i) two (f i) (after i))

-- where a signal is put back
pub put_back : (table bound : List bindings.Binding) (s : ℕ) (b old : bindings.Binding)
    → bound ≡ set table s b
    → old ≡ get_or table s old
    → set bound s old ≡ table
put_back table bound s b old e o =
    (λ i. set (e i) s old) ∙ set-set table s b old ∙ (λ i. set table s (o i)) ∙ set-get_or table s old

-- the signals of a well formed program fit
pub locals_fit : (inputs interface all : ℕ) (visible : ℕ → Bool) (t : Term) → SignalsFit inputs interface all visible t → LocalsFit all t
locals_fit inputs interface all visible (Present e p q) h = (locals_fit inputs interface all visible p h.1, locals_fit inputs interface all visible q h.2)
locals_fit inputs interface all visible (Suspend e p) h = locals_fit inputs interface all visible p h.1
locals_fit inputs interface all visible (Seq p q) h = (locals_fit inputs interface all visible p h.0, locals_fit inputs interface all visible q h.1)
locals_fit inputs interface all visible (Loop at p) h = locals_fit inputs interface all visible p h
locals_fit inputs interface all visible (Par p q) h = (locals_fit inputs interface all visible p h.0, locals_fit inputs interface all visible q h.1)
locals_fit inputs interface all visible (Trap p) h = locals_fit inputs interface all visible p h
locals_fit inputs interface all visible (Local s p) h = (h.1, locals_fit inputs interface all (with_signal s visible) p h.2)
locals_fit inputs interface all visible (Awake e p) h = locals_fit inputs interface all visible p h.1
locals_fit inputs interface all visible _ h = tt
