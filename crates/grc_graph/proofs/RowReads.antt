-- What lists by statement numbers have of a program: the statement, what lets it run, and its codes.
use Rattle.std.proofs.Common.{◌≡◌, ℕ, ◌+◌, ◌<◌, Bool, List, ◌∷◌, ◌++◌, length, map, get_or, refl, sym, ap, ◌∙◌, arith}
use Rattle.std.proofs.lemmas.List.{map-append, length-map, get_or-map}
use Rattle.base_types.specs.declared.code_set.CodeSet.{CodeSet}
use Rattle.base_types.specs.CodeSet.{members}
use Rattle.base_types.specs.Codes.{no_code}
use Rattle.est_kernel.specs.declared.code_lists.Codes.{Codes}
use Rattle.est_kernel.specs.CodeLists.{AreCodesOf}
use Rattle.est_kernel.specs.Plain.{Program, interface_count}
use Rattle.est_kernel.specs.Terms.{Term, Nothing, Present, Suspend, Seq, Loop, Par, Trap, Local, Awake}
use Rattle.est_kernel.specs.Preorder.{statement_count, preorder}
use Rattle.est_kernel.specs.StaticCodes.{started_codes, resumed_codes}
use Rattle.grc_graph.specs.Layers.{Layer, Resumed, Started, Liveness, body_liveness, part_liveness, second_liveness, loop_liveness}
use Rattle.grc_graph.specs.Scopes.{Scope, bind, program_scope}
use Rattle.grc_graph.specs.Wires.{instance_codes}
use Rattle.grc_graph.specs.CodeTables.{set_at, codes_at}
use Rattle.grc_graph.specs.Statements.{Entry, Body, Part, Branch, Then, Else, Suspended, Second, Looped, Listed, listed, program_listed}
use Rattle.grc_graph.specs.declared.statements.Statement.{Statement}
use Rattle.grc_graph.specs.StatementViews.{view_of}
use Rattle.grc_graph.specs.Rows.{Row, rows, listed_row, program_rows, row_at}
use Rattle.grc_graph.proofs.RowSpots.{length-rows}

-- the list of statements is that of the rows
list_one : (h : Listed) (xs : List Listed) (ys : List Row) → xs ≡ map listed_row ys → h ∷ xs ≡ h ∷ map listed_row ys
list_one h xs ys e = ap (λ l. h ∷ l) e

list_two : (h : Listed) (xs us : List Listed) (ys vs : List Row) → xs ≡ map listed_row ys → us ≡ map listed_row vs
    → h ∷ (xs ++ us) ≡ h ∷ map listed_row (ys ++ vs)
list_two h xs us ys vs e f = ap (λ l. h ∷ l) ((λ i. e i ++ f i) ∙ sym (map-append listed_row ys vs))

listed_rows : (a : Liveness) (B : Scope) (x : Entry) (t : Term) (n : ℕ) → listed B x t n ≡ map listed_row (rows a B x t n)
listed_rows a B x (Present e p q) n =
    list_two _ _ _ _ _ (listed_rows (part_liveness a p) B (Then n e) p (n + 1))
    (listed_rows (part_liveness a q) B (Else n e) q (n + 1 + statement_count p))
listed_rows a B x (Suspend e p) n = list_one _ _ _ (listed_rows (part_liveness a p) B (Suspended n e) p (n + 1))
listed_rows a B x (Seq p q) n =
    list_two _ _ _ _ _ (listed_rows (part_liveness a p) B (Branch n) p (n + 1))
    (listed_rows (second_liveness a p q (n + 1 + statement_count p)) B (Second n) q (n + 1 + statement_count p))
listed_rows a B x (Loop at p) n = list_one _ _ _ (listed_rows (loop_liveness a p (n + 1)) B (Looped n) p (n + 1))
listed_rows a B x (Par p q) n =
    list_two _ _ _ _ _ (listed_rows (part_liveness a p) B (Branch n) p (n + 1))
    (listed_rows (part_liveness a q) B (Branch n) q (n + 1 + statement_count p))
listed_rows a B x (Trap p) n = list_one _ _ _ (listed_rows (part_liveness a p) B (Part n) p (n + 1))
listed_rows a B x (Local s p) n = list_one _ _ _ (listed_rows (part_liveness a p) (bind B s n) (Part n) p (n + 1))
listed_rows a B x (Awake e p) n = list_one _ _ _ (listed_rows (part_liveness a p) B (Part n) p (n + 1))
listed_rows a B x _ n = refl

pub program_listed_rows : (p : Program) → program_listed p ≡ map listed_row (program_rows p)
program_listed_rows p = listed_rows (body_liveness p.body) (program_scope p.inputs (interface_count p)) Body p.body 0

-- the statements of rows are those of the preorder
abbrev term_of_row : Row → Term
term_of_row r = r.statement

rows_only : (t : Term) (ps : List Row) (xs : List Term) → map term_of_row ps ≡ xs → t ∷ map term_of_row ps ≡ t ∷ xs
rows_only t ps xs e = ap (λ l. t ∷ l) e

rows_both : (t : Term) (ps qs : List Row) (xs ys : List Term) → map term_of_row ps ≡ xs → map term_of_row qs ≡ ys →
    t ∷ map term_of_row (ps ++ qs) ≡ t ∷ (xs ++ ys)
rows_both t ps qs xs ys e f = ap (λ l. t ∷ l) (map-append term_of_row ps qs ∙ (λ i. e i ++ f i))

rows_in_preorder : (a : Liveness) (B : Scope) (x : Entry) (t : Term) (n : ℕ) → map term_of_row (rows a B x t n) ≡ preorder t
rows_in_preorder a B x (Present e p q) n = rows_both _ _ _ _ _ (rows_in_preorder (part_liveness a p) B (Then n e) p (n + 1))
    (rows_in_preorder (part_liveness a q) B (Else n e) q (n + 1 + statement_count p))
rows_in_preorder a B x (Suspend e p) n = rows_only _ _ _ (rows_in_preorder (part_liveness a p) B (Suspended n e) p (n + 1))
rows_in_preorder a B x (Seq p q) n = rows_both _ _ _ _ _ (rows_in_preorder (part_liveness a p) B (Branch n) p (n + 1))
    (rows_in_preorder (second_liveness a p q (n + 1 + statement_count p)) B (Second n) q (n + 1 + statement_count p))
rows_in_preorder a B x (Loop at p) n = rows_only _ _ _ (rows_in_preorder (loop_liveness a p (n + 1)) B (Looped n) p (n + 1))
rows_in_preorder a B x (Par p q) n = rows_both _ _ _ _ _ (rows_in_preorder (part_liveness a p) B (Branch n) p (n + 1))
    (rows_in_preorder (part_liveness a q) B (Branch n) q (n + 1 + statement_count p))
rows_in_preorder a B x (Trap p) n = rows_only _ _ _ (rows_in_preorder (part_liveness a p) B (Part n) p (n + 1))
rows_in_preorder a B x (Local s p) n = rows_only _ _ _ (rows_in_preorder (part_liveness a p) (bind B s n) (Part n) p (n + 1))
rows_in_preorder a B x (Awake e p) n = rows_only _ _ _ (rows_in_preorder (part_liveness a p) B (Part n) p (n + 1))
rows_in_preorder a B x _ n = refl

pub length-program_rows : (p : Program) → length (program_rows p) ≡ statement_count p.body
length-program_rows p = length-rows (body_liveness p.body) (program_scope p.inputs (interface_count p)) Body p.body 0

-- the statement with a number
pub preorder_read : (p : Program) (n : ℕ) → n < statement_count p.body → get_or (preorder p.body) n Nothing ≡ (row_at (program_rows p) n).statement
preorder_read p n h =
    let inside : n < length (program_rows p) = omega (arith, length-program_rows p) in
    ap (λ l. get_or l n Nothing) (sym (rows_in_preorder (body_liveness p.body) (program_scope p.inputs (interface_count p)) Body p.body 0))
    ∙ get_or-map term_of_row (program_rows p) n _ Nothing inside

pub length-statements : (p : Program) (list : List Statement) → map view_of list ≡ program_listed p → length list ≡ statement_count p.body
length-statements p list e =
    sym (length-map list view_of) ∙ ap length (e ∙ program_listed_rows p) ∙ length-map (program_rows p) listed_row ∙ length-program_rows p

-- what the list of statements has at a number
pub statement_read : (p : Program) (list : List Statement) (n : ℕ) (s : Statement) → map view_of list ≡ program_listed p → n < statement_count p.body
    → s ≡ get_or list n s → view_of s ≡ listed_row (row_at (program_rows p) n)
statement_read p list n s e h g =
    let inside : n < length (program_rows p) = omega (arith, length-program_rows p) in
    let here : n < length list = omega (arith, length-statements p list e) in
    ap view_of g ∙ sym (get_or-map view_of list n s (view_of s) here) ∙ ap (λ l. get_or l n (view_of s)) (e ∙ program_listed_rows p)
    ∙ get_or-map listed_row (program_rows p) n _ (view_of s) inside

-- what the lists of codes have at a number
pub record CodesRead (c : Codes) (p : Program) (n : ℕ) : Type 0 where
  pub started_in : n < length c.started.items
  pub resumed_in : n < length c.resumed.items
  pub codes : (l : Layer) → codes_at c n l ≡ instance_codes (row_at (program_rows p) n).statement l

set_read : (c : List CodeSet) (f : Term → ℕ → Bool) (p : Program) (n : ℕ) → n < statement_count p.body → map members c ≡ map f (preorder p.body)
    → set_at c n ≡ f (row_at (program_rows p) n).statement
set_read c f p n h e =
    let inside : n < length (program_rows p) = omega (arith, length-program_rows p) in
    ap (λ l. get_or l n no_code) (e ∙ ap (λ l. map f l) (sym (rows_in_preorder (body_liveness p.body)
    (program_scope p.inputs (interface_count p)) Body p.body 0)))
    ∙ get_or-map f (map term_of_row (program_rows p)) n Nothing no_code (omega (arith, length-map (program_rows p) term_of_row))
    ∙ ap f (get_or-map term_of_row (program_rows p) n _ Nothing inside)

length_sets : (c : List CodeSet) (f : Term → ℕ → Bool) (p : Program) → map members c ≡ map f (preorder p.body) → length c ≡ statement_count p.body
length_sets c f p e =
    sym (length-map c members) ∙ ap length e ∙ length-map (preorder p.body) f
    ∙ ap length (sym (rows_in_preorder (body_liveness p.body) (program_scope p.inputs (interface_count p)) Body p.body 0))
    ∙ length-map (program_rows p) term_of_row ∙ length-program_rows p

pub codes_read : (c : Codes) (p : Program) (n : ℕ) → AreCodesOf c p.body → n < statement_count p.body → CodesRead c p n
codes_read c p n a h = record {
  started_in = omega (arith, length_sets c.started.items started_codes p a.started);
  resumed_in = omega (arith, length_sets c.resumed.items resumed_codes p a.resumed);
  codes = layered;
}
  where
    layered : (l : Layer) → codes_at c n l ≡ instance_codes (row_at (program_rows p) n).statement l
    layered Resumed = set_read c.resumed.items resumed_codes p n h a.resumed
    layered (Started r) = set_read c.started.items started_codes p n h a.started
