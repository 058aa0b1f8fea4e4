-- The loop bodies around a statement, as they are counted from the statement around it.
use Rattle.std.proofs.Common.{◌≡◌, ℕ, ◌+◌, ◌<◌, ◌≤◌, List, [], ◌∷◌, ◌++◌, length, map, get_or, sym, ap, ◌∙◌, subst, ⊎_elim, arith}
use Rattle.std.proofs.Math.Seq.{get_or-append_seam}
use Rattle.std.proofs.lemmas.Bool.{cases_lt}
use Rattle.std.proofs.lemmas.List.{get_or_append_left, length-append}
use Rattle.est_kernel.specs.Plain.{Program}
use Rattle.est_kernel.specs.Preorder.{statement_count}
use Rattle.est_kernel.specs.Terms.{Term}
use Rattle.est_kernel.specs.WellFormed.{IsKernel}
use Rattle.grc_graph.specs.declared.statements.Statement.{Statement}
use Rattle.grc_graph.specs.Statements.{Entry, Body, Part, Branch, Then, Else, Suspended, Second, Looped, program_listed}
use Rattle.grc_graph.specs.StatementViews.{entry_view, view_of}
use Rattle.grc_graph.proofs.Exports.{length-statements, statement_read}
use Rattle.grc_share.specs.LoopCounts.{AreLoopCounts, Enters, counts_in, inside_at}
use Rattle.grc_share.specs.SharedInstances.{loops_above, loops_at}
use Rattle.grc_graph.specs.declared.loops.LoopBodies.{LoopBodies}
use Rattle.grc_share.proofs.LoopEntries.{Around, Told, loops-low, program_tells}

-- what is counted from the statement around it is what there is
pub record Counted (body : Term) (list : List LoopBodies) (m : ℕ) (x : Entry) : Type 0 where
  pub enters : Enters (length list) x
  pub above : (counts_in list x).above ≡ loops_above 0 0 body 0 m
  pub inside : (counts_in list x).inside ≡ loops_at 0 body 0 m

module _ (body : Term) (list : List LoopBodies) (m : ℕ) (long : length list ≡ m) (are : AreLoopCounts body list) where
  c : ℕ → ℕ
  c = loops_above 0 0 body 0

  d : ℕ → ℕ
  d = loops_at 0 body 0

  around : (n own : ℕ) → Around (loops_above 0 0 body 0) (loops_at 0 body 0) m n own
      → (n < length list) × (inside_at list n ≡ loops_above 0 0 body 0 m) × (inside_at list n + own ≡ loops_at 0 body 0 m)
  around n own t =
      let low : n < length list = omega (arith, t.before, long) in
      let e = are.inside n (record { above = 0; inside = 0 }) low in
      (low, e ∙ sym t.above, omega (arith, e, t.inside))

  part : (n : ℕ) → Around (loops_above 0 0 body 0) (loops_at 0 body 0) m n 0
      → (n < length list) × (inside_at list n ≡ loops_above 0 0 body 0 m) × (inside_at list n ≡ loops_at 0 body 0 m)
  part n t = let x = around n 0 t in (x.0, x.1, omega (arith, x.2))

  pub counted : (x : Entry) → Told (loops_above 0 0 body 0) (loops_at 0 body 0) m x → Counted body list m x
  counted Body t = record { enters = tt; above = sym t.0; inside = sym t.1 }
  counted (Part n) t = let x = part n t in record { enters = x.0; above = x.1; inside = x.2 }
  counted (Branch n) t = let x = part n t in record { enters = x.0; above = x.1; inside = x.2 }
  counted (Then n e) t = let x = part n t in record { enters = x.0; above = x.1; inside = x.2 }
  counted (Else n e) t = let x = part n t in record { enters = x.0; above = x.1; inside = x.2 }
  counted (Suspended n e) t = let x = part n t in record { enters = x.0; above = x.1; inside = x.2 }
  counted (Second n) t = let x = part n t in record { enters = x.0; above = x.1; inside = x.2 }
  counted (Looped n) t = let x = around n 1 t in record { enters = x.0; above = x.1; inside = x.2 }

  -- the counts are no greater than the numbers of the statements
  pub few : (n : ℕ) (d : LoopBodies) → n < length list → (get_or list n d).inside ≤ n
  few n d h = omega (arith, are.inside n d h, loops-low 0 body 0 n (omega arith) (omega arith))

-- the counts of a statement that is listed
pub listed-counted : (p : Program) (statements : List Statement) (s : Statement) (list : List LoopBodies) (i : ℕ)
    → IsKernel p.body
    → map view_of statements ≡ program_listed p
    → i < length statements
    → s ≡ get_or statements i s
    → length list ≡ i
    → AreLoopCounts p.body list
    → Counted p.body list i (entry_view s.control)
listed-counted p statements s list i kernel listed low is long are =
    let within : i < statement_count p.body = omega (arith, low, length-statements p statements listed) in
    let read = statement_read p statements i s listed within is in
    counted p.body list i long are (entry_view s.control)
    (subst (Told (loops_above 0 0 p.body 0) (loops_at 0 p.body 0) i) (sym (ap (λ x. x.entry) read)) (program_tells p kernel i within))

-- one more statement is counted
pub counts-more : (body : Term) (list : List LoopBodies) (i : ℕ) (x : Entry) → length list ≡ i → AreLoopCounts body list → Counted body list i x
    → AreLoopCounts body (list ++ (counts_in list x ∷ []))
counts-more body list i x long are h = record {
  above = λ n d l. by n (λ y. y.above) (loops_above 0 0 body 0) are.above h.above d l;
  inside = λ n d l. by n (λ y. y.inside) (loops_at 0 body 0) are.inside h.inside d l;
}
  where
    by : (n : ℕ) (f : LoopBodies → ℕ) (F : ℕ → ℕ) → ((n : ℕ) (d : LoopBodies) → n < length list → f (get_or list n d) ≡ F n)
        → f (counts_in list x) ≡ F i → (d : LoopBodies) → n < length (list ++ (counts_in list x ∷ [])) → f (get_or (list ++ (counts_in list x ∷ [])) n d) ≡ F n
    by n f F old new d l =
        ⊎_elim (λ a. ap f (get_or_append_left list (counts_in list x ∷ []) d n a) ∙ old n d a)
        (λ a.
        let e : n ≡ length list = omega (arith, a, l, length-append list (counts_in list x ∷ [])) in
        ap (λ k. f (get_or (list ++ (counts_in list x ∷ [])) k d)) e ∙ ap f (get_or-append_seam list (counts_in list x) [] d) ∙ new
        ∙ ap F (let g : i ≡ n = omega (arith, e, long) in g))
        (cases_lt n (length list))
