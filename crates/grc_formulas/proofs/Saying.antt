-- What sources say while rows are added.
use Rattle.std.proofs.Common.{◌≡◌, ℕ, ◌≤◌, Bool, true, false, not, ◌&&◌, ◌||◌, List, [], ◌∷◌, ◌++◌, length, slice_index_or, refl, sym, ap, ◌∙◌, subst, arith}
use Rattle.std.proofs.Common.{IsTrue, inl, inr}
use Rattle.std.proofs.Common.{append_assoc, append-nil, length-append}
use Rattle.std.proofs.lemmas.Bool.{cases_lt, cases_Bool, ltb-true, lt-ltb}
use Rattle.std.proofs.lemmas.List.{get_or_append_left, get_or_push, length_push}
use Rattle.base_facts.proofs.Tests.{and-true-at}
use Rattle.grc_graph.specs.declared.graph.Graph.{Graph}
use Rattle.grc_formulas.specs.declared.table.Source.{Source}
use Rattle.grc_formulas.specs.declared.table.Source.TheVariants as sources
use Rattle.grc_formulas.specs.declared.table.Row.{Row}
use Rattle.grc_formulas.specs.declared.table.Row.TheVariants as rows
use Rattle.grc_formulas.specs.Building.{is_constant, new_source, with_both, both_source, with_either, either_source, rows_below, RowsFit, Says, Extends}
use Rattle.grc_formulas.specs.Occasions.{Occasion, FalseOffWires, surroundings}
use Rattle.grc_formulas.specs.Rows.{Surroundings, Bounds, source_value, row_value, row_values, source_fits, row_fits}
use Rattle.grc_formulas.proofs.RowValues.{length-row_values, row_values-append, value-stays, source_value-same}

pub fits-more : (b : Bounds) (n m : ℕ) (s : Source) → n ≤ m → IsTrue (source_fits (rows_below b n) s) → IsTrue (source_fits (rows_below b m) s)
fits-more b n m (sources.Const c) h f = refl
fits-more b n m (sources.Leaf k) h f = f
fits-more b n m (sources.Input k) h f = f
fits-more b n m (sources.Wire k) h f = f
fits-more b n m (sources.Row r) h f = let low = ltb-true r n f in lt-ltb r m (omega arith)

value-more : (t : Surroundings) (b : Bounds) (rs extra : List Row) (s : Source) → IsTrue (source_fits (rows_below b (length rs)) s)
    → source_value t (row_values t [] (rs ++ extra)) s ≡ source_value t (row_values t [] rs) s
value-more t b rs extra s f =
    let many = length-row_values t [] rs in
    source_value-same t (rows_below b (length rs)) (row_values t [] (rs ++ extra)) (row_values t [] rs) s f
    (λ n h. ap (λ vs. slice_index_or vs n false) (row_values-append t [] rs extra) ∙ value-stays t (row_values t [] rs) extra n (omega arith))

-- what a source says it says in a longer table
pub says-more : (g : Graph) (b : Bounds) (old new : List Row) (s : Source) (m : Occasion g → Bool) → Extends b old new → Says g b old s m → Says g b new s m
says-more g b old new s m x h =
    let longer = ap length x.more.1 ∙ length-append old x.more.0 in
    record {
      fits = fits-more b (length old) (length new) s (omega arith) h.fits;
      value = λ t off. ap (λ rs. source_value (surroundings g t) (row_values (surroundings g t) [] rs) s) x.more.1
          ∙ value-more (surroundings g t) b old x.more.0 s h.fits ∙ h.value t off;
    }

pub extends-refl : (b : Bounds) (rs : List Row) → RowsFit b rs → Extends b rs rs
extends-refl b rs f = record { fit = f; more = ([], sym (append-nil rs)) }

pub extends-trans : (b : Bounds) (x y z : List Row) → Extends b x y → Extends b y z → Extends b x z
extends-trans b x y z p q = record {
  fit = q.fit;
  more = (p.more.0 ++ q.more.0, q.more.1 ∙ ap (λ rs. rs ++ q.more.0) p.more.1 ∙ append_assoc x p.more.0 q.more.0);
}

pub extends-push : (b : Bounds) (rs : List Row) (r : Row) → RowsFit b rs → IsTrue (row_fits (rows_below b (length rs)) r) → Extends b rs (rs ++ r ∷ [])
extends-push b rs r f h = record {
  fit = λ k d low. elim (cases_lt k (length rs)) [
    | inl less ↦ subst (λ x. IsTrue (row_fits (rows_below b k) x)) (sym (get_or_append_left rs (r ∷ []) d k less)) (f k d less)
    | inr more ↦
        let at : k ≡ length rs = omega (arith, length_push rs r) in
        subst (λ x. IsTrue (row_fits (rows_below b k) x)) (sym (get_or_push rs r d k (sym at))) (subst (λ n. IsTrue (row_fits (rows_below b n) r)) (sym at) h)
  ];
  more = (r ∷ [], refl);
}

-- the value of the last row
value-new : (t : Surroundings) (rs : List Row) (r : Row)
    → source_value t (row_values t [] (rs ++ r ∷ [])) (new_source rs) ≡ row_value t (row_values t [] rs) r
value-new t rs r =
    let many = length-row_values t [] rs in
    let at : length rs ≡ length (row_values t [] rs) = omega arith in
    ap (λ vs. slice_index_or vs (length rs) false) (row_values-append t [] rs (r ∷ []))
    ∙ get_or_push (row_values t [] rs) (row_value t (row_values t [] rs) r) false (length rs) (sym at)

and-fits : (x y : Bool) → IsTrue x → IsTrue y → IsTrue (x && y)
and-fits x y p q = rw (p, q) refl

pub says-new : (g : Graph) (b : Bounds) (rs : List Row) (r : Row) (m : Occasion g → Bool)
    → ((t : Occasion g) → FalseOffWires g t.valuation → row_value (surroundings g t) (row_values (surroundings g t) [] rs) r ≡ m t)
    → Says g b (rs ++ r ∷ []) (new_source rs) m
says-new g b rs r m v =
    let longer = length_push rs r in
    record {
      fits = lt-ltb (length rs) (length (rs ++ r ∷ [])) (omega arith);
      value = λ t off. value-new (surroundings g t) rs r ∙ v t off;
    }

-- a source that grew a table, and says this
pub record Makes (g : Graph) (b : Bounds) (old new : List Row) (s : Source) (m : Occasion g → Bool) : Type 0 where
  pub extends : Extends b old new
  pub says : Says g b new s m

pub makes-not : (g : Graph) (b : Bounds) (rs : List Row) (x : Source) (m : Occasion g → Bool) → RowsFit b rs → Says g b rs x m
    → Makes g b rs (rs ++ rows.Not x ∷ []) (new_source rs) (λ t. not (m t))
makes-not g b rs x m f h = record {
  extends = extends-push b rs (rows.Not x) f h.fits;
  says = says-new g b rs (rows.Not x) _ (λ t off. ap not (h.value t off));
}

makes-here : (g : Graph) (b : Bounds) (rs : List Row) (x : Source) (m n : Occasion g → Bool) → RowsFit b rs → Says g b rs x m
    → ((t : Occasion g) → FalseOffWires g t.valuation → m t ≡ n t) → Makes g b rs rs x n
makes-here g b rs x m n f h e = record {
  extends = extends-refl b rs f;
  says = record { fits = h.fits; value = λ t off. h.value t off ∙ e t off };
}

constant-value : (t : Surroundings) (vs : List Bool) (c : Bool) (x : Source) → is_constant c x ≡ true → source_value t vs x ≡ c
constant-value t vs true (sources.Const true) e = refl
constant-value t vs true (sources.Const false) e = absurd (cc)
constant-value t vs false (sources.Const true) e = absurd (cc)
constant-value t vs false (sources.Const false) e = refl
constant-value t vs c (sources.Leaf k) e = absurd (cc)
constant-value t vs c (sources.Input k) e = absurd (cc)
constant-value t vs c (sources.Wire k) e = absurd (cc)
constant-value t vs c (sources.Row k) e = absurd (cc)

constant-says : (g : Graph) (b : Bounds) (rs : List Row) (c : Bool) (x : Source) (m : Occasion g → Bool) → is_constant c x ≡ true → Says g b rs x m
    → (t : Occasion g) → FalseOffWires g t.valuation → m t ≡ c
constant-says g b rs c x m e h t off = sym (h.value t off) ∙ constant-value (surroundings g t) (row_values (surroundings g t) [] rs) c x e

and-true_left : (x y : Bool) → x ≡ true → y ≡ (x && y)
and-true_left x y e = rw e refl

and-false_right : (x y : Bool) → y ≡ false → y ≡ (x && y)
and-false_right true y e = refl
and-false_right false y e = e

or-false_left : (x y : Bool) → x ≡ false → y ≡ (x || y)
or-false_left x y e = rw e refl

or-false_right : (x y : Bool) → y ≡ false → x ≡ (x || y)
or-false_right true y e = refl
or-false_right false y e = sym e

-- the and of two sources
pub makes-both : (g : Graph) (b : Bounds) (rs : List Row) (x y : Source) (m n : Occasion g → Bool) → RowsFit b rs → Says g b rs x m → Says g b rs y n
    → Makes g b rs (with_both rs x y) (both_source rs x y) (λ t. m t && n t)
makes-both g b rs x y m n f h k = elim (cases_Bool (is_constant true x)) [
  | inl one ↦ rw one (makes-here g b rs y n _ f k (λ t off. and-true_left (m t) (n t) (constant-says g b rs true x m one h t off)))
  | inr not_one ↦ elim (cases_Bool (is_constant true y)) [
    | inl two ↦ rw (not_one, two) (makes-here g b rs x m _ f h (λ t off. and-true-at (m t) (n t) (constant-says g b rs true y n two k t off)))
    | inr not_two ↦ elim (cases_Bool (is_constant false y)) [
      | inl three ↦
          rw (not_one, not_two, three)
          (makes-here g b rs y n _ f k (λ t off. and-false_right (m t) (n t) (constant-says g b rs false y n three k t off)))
      | inr not_three ↦
          rw (not_one, not_two, not_three) (record {
            extends = extends-push b rs (rows.And x y) f (and-fits _ _ h.fits k.fits);
            says = says-new g b rs (rows.And x y) _ (λ t off. let p = h.value t off in let q = k.value t off in cc);
          })
    ]
  ]
]

-- the or of two sources
pub makes-either : (g : Graph) (b : Bounds) (rs : List Row) (x y : Source) (m n : Occasion g → Bool) → RowsFit b rs → Says g b rs x m → Says g b rs y n
    → Makes g b rs (with_either rs x y) (either_source rs x y) (λ t. m t || n t)
makes-either g b rs x y m n f h k = elim (cases_Bool (is_constant false x)) [
  | inl one ↦ rw one (makes-here g b rs y n _ f k (λ t off. or-false_left (m t) (n t) (constant-says g b rs false x m one h t off)))
  | inr not_one ↦ elim (cases_Bool (is_constant false y)) [
    | inl two ↦ rw (not_one, two) (makes-here g b rs x m _ f h (λ t off. or-false_right (m t) (n t) (constant-says g b rs false y n two k t off)))
    | inr not_two ↦
        rw (not_one, not_two) (record {
          extends = extends-push b rs (rows.Or x y) f (and-fits _ _ h.fits k.fits);
          says = says-new g b rs (rows.Or x y) _ (λ t off. let p = h.value t off in let q = k.value t off in cc);
        })
  ]
]

-- ---- the same of tables alone

-- a source that grew a table reads what there is
pub record Grows (b : Bounds) (old new : List Row) (s : Source) : Type 0 where
  pub extends : Extends b old new
  pub fits : IsTrue (source_fits (rows_below b (length new)) s)

grows-here : (b : Bounds) (rs : List Row) (x : Source) → RowsFit b rs → IsTrue (source_fits (rows_below b (length rs)) x) → Grows b rs rs x
grows-here b rs x f h = record { extends = extends-refl b rs f; fits = h }

grows-row : (b : Bounds) (rs : List Row) (r : Row) → RowsFit b rs → IsTrue (row_fits (rows_below b (length rs)) r) → Grows b rs (rs ++ r ∷ []) (new_source rs)
grows-row b rs r f h = record {
  extends = extends-push b rs r f h;
  fits = lt-ltb (length rs) (length (rs ++ r ∷ [])) (omega (arith, length_push rs r));
}

pub grows-not : (b : Bounds) (rs : List Row) (x : Source) → RowsFit b rs → IsTrue (source_fits (rows_below b (length rs)) x)
    → Grows b rs (rs ++ rows.Not x ∷ []) (new_source rs)
grows-not b rs x f h = grows-row b rs (rows.Not x) f h

pub grows-both : (b : Bounds) (rs : List Row) (x y : Source) → RowsFit b rs → IsTrue (source_fits (rows_below b (length rs)) x)
    → IsTrue (source_fits (rows_below b (length rs)) y) → Grows b rs (with_both rs x y) (both_source rs x y)
grows-both b rs x y f h k = elim (cases_Bool (is_constant true x)) [
  | inl one ↦ rw one (grows-here b rs y f k)
  | inr not_one ↦ elim (cases_Bool (is_constant true y)) [
    | inl two ↦ rw (not_one, two) (grows-here b rs x f h)
    | inr not_two ↦ elim (cases_Bool (is_constant false y)) [
      | inl three ↦ rw (not_one, not_two, three) (grows-here b rs y f k)
      | inr not_three ↦ rw (not_one, not_two, not_three) (grows-row b rs (rows.And x y) f (and-fits _ _ h k))
    ]
  ]
]

pub grows-either : (b : Bounds) (rs : List Row) (x y : Source) → RowsFit b rs → IsTrue (source_fits (rows_below b (length rs)) x)
    → IsTrue (source_fits (rows_below b (length rs)) y) → Grows b rs (with_either rs x y) (either_source rs x y)
grows-either b rs x y f h k = elim (cases_Bool (is_constant false x)) [
  | inl one ↦ rw one (grows-here b rs y f k)
  | inr not_one ↦ elim (cases_Bool (is_constant false y)) [
    | inl two ↦ rw (not_one, two) (grows-here b rs x f h)
    | inr not_two ↦ rw (not_one, not_two) (grows-row b rs (rows.Or x y) f (and-fits _ _ h k))
  ]
]

pub fits-grown : (b : Bounds) (old new : List Row) (s : Source) → Extends b old new → IsTrue (source_fits (rows_below b (length old)) s)
    → IsTrue (source_fits (rows_below b (length new)) s)
fits-grown b old new s x h = fits-more b (length old) (length new) s (omega (arith, ap length x.more.1, length-append old x.more.0)) h
