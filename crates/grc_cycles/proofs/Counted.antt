-- What is counted, one step of a loop after another.
use Rattle.std.proofs.Common.{◌≡◌, ℕ, ◌+◌, ◌<◌, ◌≤◌, Bool, false, ◌==◌, ◌&&◌, ◌||◌, List, [], ◌∷◌, ◌++◌, length, sym, ap, ◌∙◌, true, add-one, arith}
use Rattle.std.proofs.lemmas.List.Folds.{list_any-append}
use Rattle.std.proofs.lemmas.List.{get_or-replicate, length-replicate}
use Rattle.std.proofs.lemmas.List.FromFn.{fill_by_all, get_or-map-range_with_len, sum_by-map-range_with_len_more}
use Rattle.std.specs.Prelude.{max, slice_index, slice_index_or, map, replicate, cond}
use Rattle.std.specs.List.{range_with_len}
use Rattle.grc_graph.specs.WireOrders.{WireEdge}
use Rattle.grc_cycles.specs.Cuts.{count_below, is_back, is_cut, top_at, top_below, top_of}

max-turned : (a b c : ℕ) → max a (max b c) ≡ max (max a b) c
max-turned a b c = grind arith

-- one more edge
top_at-push : (places : List ℕ) (es : List WireEdge) (e : WireEdge) (k : ℕ)
    → top_at places (es ++ e ∷ []) k ≡ max (top_at places es k) (top_of (slice_index places e.0.0) (slice_index places e.1.0) k)
top_at-push places [] e k = grind arith
top_at-push places (d ∷ es) e k =
    ap (max (top_of (slice_index places d.0.0) (slice_index places d.1.0) k)) (top_at-push places es e k)
    ∙ max-turned (top_of (slice_index places d.0.0) (slice_index places d.1.0) k) (top_at places es k)
    (top_of (slice_index places e.0.0) (slice_index places e.1.0) k)

pub tops-more : (places old new : List ℕ) (es : List WireEdge) (e : WireEdge) → old ≡ map (top_at places es) (range_with_len 0 (length places))
    → length new ≡ length places
    → ((k : ℕ) → k < length places → slice_index new k ≡ max (slice_index old k) (top_of (slice_index places e.0.0) (slice_index places e.1.0) k))
    → new ≡ map (top_at places (es ++ e ∷ [])) (range_with_len 0 (length places))
tops-more places old new es e is long raised =
    fill_by_all (top_at places (es ++ e ∷ [])) new (length places) 0 long (λ k low.
    let before : slice_index old k ≡ top_at places es k =
    ap (λ l. slice_index l k) is ∙ get_or-map-range_with_len (top_at places es) 0 (length places) k k 0 low (omega arith) in
    raised k low ∙ ap (λ t. max t (top_of (slice_index places e.0.0) (slice_index places e.1.0) k)) before
    ∙ sym (top_at-push places es e k))

is_cut-push : (places : List ℕ) (es : List WireEdge) (e : WireEdge) (k : ℕ)
    → is_cut places (es ++ e ∷ []) k ≡ (is_cut places es k || (is_back places e && e.1.0 == k))
is_cut-push places es e k = list_any-append (λ d. is_back places d && d.1.0 == k) es (e ∷ []) ∙ grind arith

pub cuts-more : (places : List ℕ) (old new : List Bool) (es : List WireEdge) (e : WireEdge)
    → old ≡ map (is_cut places es) (range_with_len 0 (length places)) → length new ≡ length places
    → ((k : ℕ) → k < length places → slice_index_or new k false ≡ (slice_index_or old k false || (is_back places e && e.1.0 == k)))
    → new ≡ map (is_cut places (es ++ e ∷ [])) (range_with_len 0 (length places))
cuts-more places old new es e is long marked =
    fill_by_all (is_cut places (es ++ e ∷ [])) new (length places) false long (λ k low.
    let before : slice_index_or old k false ≡ is_cut places es k =
    ap (λ l. slice_index_or l k false) is ∙ get_or-map-range_with_len (is_cut places es) 0 (length places) k k false low (omega arith) in
    marked k low ∙ ap (λ b. b || (is_back places e && e.1.0 == k)) before ∙ sym (is_cut-push places es e k))

-- no edge
pub no-tops : (places : List ℕ) (n : ℕ) → replicate n 0 ≡ map (top_at places []) (range_with_len 0 n)
no-tops places n = fill_by_all (top_at places []) (replicate n 0) n 0 (length-replicate n 0) (λ k low. get_or-replicate n k 0 0 low)

pub no-cuts : (places : List ℕ) (n : ℕ) → replicate n false ≡ map (is_cut places []) (range_with_len 0 n)
no-cuts places n = fill_by_all (is_cut places []) (replicate n false) n false (length-replicate n false) (λ k low. get_or-replicate n k false false low)

-- one more number
pub count_below-more : (k : ℕ) (test : ℕ → Bool) → count_below (k + 1) test ≡ count_below k test + cond (test k) 1 0
count_below-more k test = sum_by-map-range_with_len_more (λ b. cond b 1 0) test 0 k k (omega arith)

pub at-most-one : (b : Bool) → cond b 1 0 ≤ 1
at-most-one false = omega arith
at-most-one true = omega arith

-- one more place
pub top_below-more : (places : List ℕ) (pairs : List WireEdge) (k : ℕ) → top_below places pairs (k + 1) ≡ max (top_below places pairs k) (top_at places pairs k)
top_below-more places pairs k = ap (top_below places pairs) (add-one k)
