-- Inner: tables of what stands under `initial` and beside `<=`, filled from the last to the first.
use Rattle.std.proofs.Common.{◌≡◌, ℕ, ◌+◌, ◌<◌, Bool, true, false, cond, List, [], ◌∷◌, length, map, drop, get_or, Option, Some, Bor, refl, sym, ◌∙◌, ap}
use Rattle.base_facts.proofs.Lists.{drop-at}
use Rattle.base_types.specs.Names.{is_same_name}
use Rattle.net_expressions.specs.Trees.{Expr}
use Rattle.vlog_text.specs.Texts.{initial_value, next_source, register_said}
use Rattle.vlog_text.specs.Trees.{Source}
use Rattle.vlog_read.specs.declared.modules.Tables.{Tables}
use Rattle.vlog_read.specs.Registers.{value_or, source_or, register_by}
use Rattle.vlog_read.specs.Sources.{initial_of, next_of}
use Rattle.vlog_read.specs.declared.sources.Initial.{Initial}
use Rattle.vlog_read.specs.declared.sources.Next.{Next}

pub initials-step : (xs : List Initial) (i : ℕ) (x : Initial) (n : List ℕ) (old new : Option Bool) → i < length xs → x ≡ get_or xs i x
    → value_or old ≡ initial_value (map initial_of (drop (i + 1) xs)) n → new ≡ cond (is_same_name x.name.now n) (Some x.value) old
    → value_or new ≡ initial_value (map initial_of (drop i xs)) n
initials-step xs i x n old new low at before is =
    ap value_or is ∙ either (is_same_name x.name.now n) ∙ ap (λ v. cond (is_same_name x.name.now n) x.value v) before
    ∙ sym (ap (λ l. initial_value (map initial_of l) n) (drop-at xs i x low at))
  where
    either : (b : Bool) → value_or (cond b (Some x.value) old) ≡ cond b x.value (value_or old)
    either true = refl
    either false = refl

pub nexts-step : (xs : List Next) (i : ℕ) (x : Next) (n : List ℕ) (old new : Option (Bor (List ℕ))) → i < length xs → x ≡ get_or xs i x
    → source_or old ≡ next_source (map next_of (drop (i + 1) xs)) n → new ≡ cond (is_same_name x.target.now n) (Some x.source) old
    → source_or new ≡ next_source (map next_of (drop i xs)) n
nexts-step xs i x n old new low at before is =
    ap source_or is ∙ either (is_same_name x.target.now n) ∙ ap (λ v. cond (is_same_name x.target.now n) x.source.now v) before
    ∙ sym (ap (λ l. next_source (map next_of l) n) (drop-at xs i x low at))
  where
    either : (b : Bool) → source_or (cond b (Some x.source) old) ≡ cond b x.source.now (source_or old)
    either true = refl
    either false = refl

-- the registers of some names
pub registers-said : (tables : Tables) (s : Source Expr) (names : List (List ℕ)) → ((n : List ℕ) → register_by tables n ≡ register_said s n)
    → map (register_by tables) names ≡ map (register_said s) names
registers-said tables s [] same = refl
registers-said tables s (n ∷ names) same =
    ap (λ r. r ∷ map (register_by tables) names) (same n) ∙ ap (λ l. register_said s n ∷ l) (registers-said tables s names same)
