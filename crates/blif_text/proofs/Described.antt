-- A circuit that some text describes: its names are driven once, each name that is used is driven, and no table is wide.
use Rattle.std.proofs.Common.{◌≡◌, ℕ, ◌<◌, ◌≤◌, suc, Bool, true, false, not, ◌&&◌, ◌||◌, List, [], ◌∷◌, ◌++◌, length, map, refl, sym, ap, ◌∙◌}
use Rattle.std.proofs.Common.{arith, Option, Some, None, Result, Ok, Err, append_assoc, subst}
use Rattle.std.specs.Prelude.{flat_map, filter_map, find, option_map, nat_le, if◌then◌else◌, codes}
use Rattle.std.specs.List.{AllByRecursion}
use Rattle.std.specs.Cmp.Lexicographic.{nat_list_eq_equiv}
use Rattle.std.proofs.lemmas.List.Folds.{list_any-append}
use Rattle.std.proofs.lemmas.Bool.{both_ways, and_parts, or_parts, or_from, and_from, leb-true, not-true, not_from_false, or_left, or_right}
use Rattle.base_facts.proofs.Lists.{all-split}
use Rattle.base_facts.proofs.Tests.{or-swapped}
use Rattle.base_types.specs.Names.{is_same_name}
use Rattle.base_types.specs.Distinct.{all_differ, none_shared}
use Rattle.base_types.proofs.Exports.{same_name-is, same_name-self}
use Rattle.net_ir.proofs.Exports.{all_differ-append, SameNames}
use Rattle.blif_text.specs.Lines.{Line, is_clean, words, read_lines}
use Rattle.blif_text.specs.Statements.{Statement, Model, Inputs, Outputs, Latch, Names, Row, End, Said, said, said_in, said_by, statement_of}
use Rattle.blif_text.specs.Statements.{model_of, latch_of, names_of, name_before, table_of, end_of, table_row, bit_of, cells_of}
use Rattle.net_ir.specs.NameLists.{is_among, first_again}
use Rattle.blif_text.specs.Circuits.{Circuit, CircuitLatch, circuit_of, inputs_in, outputs_in, latches_in, tables_of, driven_by, used_by}
use Rattle.blif_text.specs.Circuits.{driven_again, not_driven, reading, statements, unless, CircuitFault}
use Rattle.blif_text.specs.Runs.{driven_names}

-- ---- a list of names in which none stands again

record Once (before names : List (List ℕ)) : Type 0 where
  differ : all_differ is_same_name names ≡ true
  apart : (x : List ℕ) → is_among x before ≡ true → is_among x names ≡ false

some-none : {X : Type 0} (x : X) (Goal : Type 0) → Some x ≡ None → Goal
some-none {X} x Goal e = let P : Option X → Type 0 = λ o. elim o as (λ _. Type 0) [ None ↦ Goal | Some y ↦ Unit {0} ] in subst P e tt

once-of : (before names : List (List ℕ)) → first_again before names ≡ None → Once before names
once-of before [] none = record { differ = refl; apart = λ x h. refl }
once-of before (name ∷ names) none =
    let go : (b : Bool) → is_among name before ≡ b → (if b then Some name else first_again (name ∷ before) names) ≡ None → Once before (name ∷ names) =
    λ b. elim b as (λ b. is_among name before ≡ b → (if b then Some name else first_again (name ∷ before) names) ≡ None → Once before (name ∷ names)) [
      | true ↦ λ e n. some-none name (Once before (name ∷ names)) n
      | false ↦ λ e n.
          let rest = once-of (name ∷ before) names n in
          let new = rest.apart name (or_left (is_same_name name name) (is_among name before) (same_name-self name)) in
          record {
            differ = rw (new, rest.differ) refl;
            apart = λ x h. or_from (is_same_name x name) (is_among x names)
                (elim (is_same_name x name) as (λ s. is_same_name x name ≡ s → s ≡ false)
                [ true ↦ λ s. absurd (both_ways (is_among x before) (ap (λ y. is_among y before) (same_name-is x name s) ∙ e) h) | false ↦ λ s. refl ] refl)
                (rest.apart x (or_right (is_same_name x name) (is_among x before) h));
          }
    ] in
    go (is_among name before) refl none

-- ---- the driven names in the order of the text and in that of the circuit

-- a name in the midst stands as well in front
among-middle : (x y : List ℕ) (front behind : List (List ℕ)) → is_among x (front ++ y ∷ behind) ≡ is_among x (y ∷ front ++ behind)
among-middle x y [] behind = refl
among-middle x y (z ∷ front) behind =
    ap (λ b. is_same_name x z || b) (among-middle x y front behind) ∙ or-swapped (is_same_name x z) (is_same_name x y) (is_among x (front ++ behind))

differ-middle : (y : List ℕ) (front behind : List (List ℕ)) → all_differ is_same_name (y ∷ front ++ behind) ≡ true
    → all_differ is_same_name (front ++ y ∷ behind) ≡ true
differ-middle y [] behind h = h
differ-middle y (z ∷ front) behind h =
    let outer = and_parts (not (is_among y (z ∷ front ++ behind))) (all_differ is_same_name (z ∷ front ++ behind)) h in
    let inner = and_parts (not (is_among z (front ++ behind))) (all_differ is_same_name (front ++ behind)) outer.1 in
    let apart = or_parts (is_same_name y z) (is_among y (front ++ behind)) (not-true (is_among y (z ∷ front ++ behind)) outer.0) in
    let none : is_among z (front ++ y ∷ behind) ≡ false = among-middle z y front behind
    ∙ or_from (is_same_name z y) (is_among z (front ++ behind)) (nat_list_eq_equiv.symm z y ∙ apart.0) (not-true (is_among z (front ++ behind)) inner.0) in
    and_from (not (is_among z (front ++ y ∷ behind))) (all_differ is_same_name (front ++ y ∷ behind)) (not_from_false (is_among z (front ++ y ∷ behind)) none)
    (differ-middle y front behind (and_from (not (is_among y (front ++ behind))) (all_differ is_same_name (front ++ behind))
    (not_from_false (is_among y (front ++ behind)) apart.1) inner.1))

-- the same names, and different ones in the second list where they are in the first
record Regroups (xs ys : List (List ℕ)) : Type 0 where
  same : SameNames xs ys
  differ : all_differ is_same_name xs ≡ true → all_differ is_same_name ys ≡ true

none_shared-same : (names xs ys : List (List ℕ)) → SameNames xs ys → none_shared is_same_name names xs ≡ none_shared is_same_name names ys
none_shared-same [] xs ys same = refl
none_shared-same (name ∷ names) xs ys same = rw (same name, none_shared-same names xs ys same) refl

regroups-front : (names xs ys : List (List ℕ)) → Regroups xs ys → Regroups (names ++ xs) (names ++ ys)
regroups-front names xs ys r = record {
  same = λ x. list_any-append (is_same_name x) names xs ∙ ap (λ b. is_among x names || b) (r.same x) ∙ sym (list_any-append (is_same_name x) names ys);
  differ = λ h.
      let whole : (all_differ is_same_name names && none_shared is_same_name names xs && all_differ is_same_name xs) ≡ true = sym
      (all_differ-append is_same_name names xs) ∙ h in
      let outer = and_parts (all_differ is_same_name names && none_shared is_same_name names xs) (all_differ is_same_name xs) whole in
      let inner = and_parts (all_differ is_same_name names) (none_shared is_same_name names xs) outer.0 in
      all_differ-append is_same_name names ys ∙ rw (inner.0, sym (none_shared-same names xs ys r.same) ∙ inner.1, r.differ outer.1) refl;
}

regroups-middle : (y : List ℕ) (xs front behind : List (List ℕ)) → Regroups xs (front ++ behind) → Regroups (y ∷ xs) (front ++ y ∷ behind)
regroups-middle y xs front behind r =
    let more = regroups-front (y ∷ []) xs (front ++ behind) r in
    record {
      same = λ x. more.same x ∙ sym (among-middle x y front behind);
      differ = λ h. differ-middle y front behind (more.differ h);
    }

targets : List CircuitLatch → List (List ℕ)
targets latches = map (λ l. l.target) latches

abbrev grouped : List Statement → List (List ℕ)
grouped ss = flat_map inputs_in ss ++ (map (λ l. l.target) (flat_map latches_in ss) ++ map (λ t. t.output) (tables_of ss))

regroups : (ss : List Statement) → Regroups (flat_map driven_by ss) (grouped ss)
regroups [] = record { same = λ x. refl; differ = λ h. h }
regroups (Model name ∷ ss) = regroups ss
regroups (Outputs names ∷ ss) = regroups ss
regroups (Row cells ∷ ss) = regroups ss
regroups (End ∷ ss) = regroups ss
regroups (Inputs names ∷ ss) =
    subst (λ l. Regroups (names ++ flat_map driven_by ss) l)
    (sym (append_assoc names (flat_map inputs_in ss) (map (λ l. l.target) (flat_map latches_in ss) ++ map (λ t. t.output) (tables_of ss))))
    (regroups-front names (flat_map driven_by ss) (grouped ss) (regroups ss))
regroups (Latch source target init ∷ ss) =
    regroups-middle target (flat_map driven_by ss) (flat_map inputs_in ss) (map (λ l. l.target) (flat_map latches_in ss) ++ map (λ t. t.output)
    (tables_of ss)) (regroups ss)
regroups (Names inputs output ∷ ss) =
    let ins = flat_map inputs_in ss in
    let latches = map (λ l. l.target) (flat_map latches_in ss) in
    let outs = map (λ t. t.output) (tables_of ss) in
    subst (λ l. Regroups (output ∷ flat_map driven_by ss) l) (append_assoc ins latches (output ∷ outs))
    (regroups-middle output (flat_map driven_by ss) (ins ++ latches) outs
    (subst (λ l. Regroups (flat_map driven_by ss) l) (sym (append_assoc ins latches outs)) (regroups ss)))

-- ---- what is said of every used name holds of the outputs, the sources and what tables read

pub record AllUsed (P : List ℕ → Type 0) (c : Circuit) : Type 0 where
  pub outputs : AllByRecursion P c.outputs
  pub sources : AllByRecursion (λ l. P l.source) c.latches
  pub inputs : AllByRecursion (λ t. AllByRecursion P t.inputs) c.tables

all_joined : {X : Type 0} (P : X → Type 0) (xs ys : List X) → AllByRecursion P xs → AllByRecursion P ys → AllByRecursion P (xs ++ ys)
all_joined P [] ys a b = b
all_joined P (x ∷ xs) ys a b = (a.0, all_joined P xs ys a.1 b)

used-all : (P : List ℕ → Type 0) (ss : List Statement) → AllByRecursion P (flat_map used_by ss) → AllUsed P (circuit_of ss)
used-all P [] all = record { outputs = tt; sources = tt; inputs = tt }
used-all P (Model name ∷ ss) all = let r = used-all P ss all in record { outputs = r.outputs; sources = r.sources; inputs = r.inputs }
used-all P (Inputs names ∷ ss) all = let r = used-all P ss all in record { outputs = r.outputs; sources = r.sources; inputs = r.inputs }
used-all P (Row cells ∷ ss) all = let r = used-all P ss all in record { outputs = r.outputs; sources = r.sources; inputs = r.inputs }
used-all P (End ∷ ss) all = let r = used-all P ss all in record { outputs = r.outputs; sources = r.sources; inputs = r.inputs }
used-all P (Outputs names ∷ ss) all =
    let both = all-split P names (flat_map used_by ss) all in
    let r = used-all P ss both.1 in
    record { outputs = all_joined P names (flat_map outputs_in ss) both.0 r.outputs; sources = r.sources; inputs = r.inputs }
used-all P (Latch source target init ∷ ss) all =
    let r = used-all P ss all.1 in record { outputs = r.outputs; sources = (all.0, r.sources); inputs = r.inputs }
used-all P (Names inputs output ∷ ss) all =
    let both = all-split P inputs (flat_map used_by ss) all in
    let r = used-all P ss both.1 in
    record { outputs = r.outputs; sources = r.sources; inputs = (both.0, r.inputs) }

found-none : (p : List ℕ → Bool) (names : List (List ℕ)) → find (λ n. not (p n)) names ≡ None → AllByRecursion (λ n. p n ≡ true) names
found-none p [] none = tt
found-none p (name ∷ names) none =
    let go : (b : Bool) → p name ≡ b → (if not b then Some name else find (λ n. not (p n)) names) ≡ None → AllByRecursion (λ n. p n ≡ true) (name ∷ names) =
    λ b. elim b as (λ b. p name ≡ b → (if not b then Some name else find (λ n. not (p n)) names) ≡ None → AllByRecursion (λ n. p n ≡ true) (name ∷ names))
    [ true ↦ λ e n. (e, found-none p names n) | false ↦ λ e n. some-none name (AllByRecursion (λ n. p n ≡ true) (name ∷ names)) n ] in
    go (p name) refl none

-- ---- no table has more than eight inputs

abbrev IsNarrow : Statement → Type 0
IsNarrow (Names inputs output) = length inputs ≤ 8
IsNarrow others = Unit {0}

abbrev NarrowIfSome : Option Statement → Type 0
NarrowIfSome None = Unit {0}
NarrowIfSome (Some s) = IsNarrow s

narrow-if : (b : Bool) (x y : Option Statement) → NarrowIfSome x → NarrowIfSome y → NarrowIfSome (if b then x else y)
narrow-if true x y a b = a
narrow-if false x y a b = b

narrow-model : (ws : List (List ℕ)) → NarrowIfSome (model_of ws)
narrow-model [] = tt
narrow-model (w ∷ []) = tt
narrow-model (w ∷ x ∷ ws) = tt

narrow-latch : (ws : List (List ℕ)) → NarrowIfSome (latch_of ws)
narrow-latch [] = tt
narrow-latch (a ∷ []) = tt
narrow-latch (a ∷ b ∷ []) = tt
narrow-latch (a ∷ b ∷ c ∷ []) = elim (bit_of c) as (λ o. NarrowIfSome (option_map (Latch a b) o)) [ None ↦ tt | Some init ↦ tt ]
narrow-latch (a ∷ b ∷ c ∷ d ∷ ws) = tt

narrow-end : (ws : List (List ℕ)) → NarrowIfSome (end_of ws)
narrow-end [] = tt
narrow-end (w ∷ ws) = tt

narrow-row : (w : List ℕ) (ws : List (List ℕ)) → NarrowIfSome (table_row w ws)
narrow-row w [] = narrow-if (is_same_name w (codes "1")) (Some (Row [])) None tt tt
narrow-row w (v ∷ []) = narrow-if (is_same_name v (codes "1")) (option_map Row (cells_of w)) None
    (elim (cells_of w) as (λ o. NarrowIfSome (option_map Row o)) [ None ↦ tt | Some cells ↦ tt ]) tt
narrow-row w (v ∷ x ∷ ws) = tt

abbrev Below : ℕ → Option Statement → Type 0
Below n (Some (Names inputs output)) = length inputs < n
Below n others = Unit {0}

below-before : (n : ℕ) (name : List ℕ) (o : Option Statement) → Below n o → Below (suc n) (name_before name o)
below-before n name (Some (Names inputs output)) h = omega arith
below-before n name None h = omega arith
below-before n name (Some (Model x)) h = omega arith
below-before n name (Some (Inputs x)) h = omega arith
below-before n name (Some (Outputs x)) h = omega arith
below-before n name (Some (Latch x y z)) h = omega arith
below-before n name (Some (Row x)) h = omega arith
below-before n name (Some End) h = omega arith

below-table : (ws : List (List ℕ)) → Below (length ws) (table_of ws)
below-table [] = tt
below-table (w ∷ ws) = below-before (length ws) w (table_of ws) (below-table ws)

narrow-below : (n : ℕ) (o : Option Statement) → n ≤ 9 → Below n o → NarrowIfSome o
narrow-below n None low h = tt
narrow-below n (Some (Names inputs output)) low h = omega arith
narrow-below n (Some (Model x)) low h = tt
narrow-below n (Some (Inputs x)) low h = tt
narrow-below n (Some (Outputs x)) low h = tt
narrow-below n (Some (Latch x y z)) low h = tt
narrow-below n (Some (Row x)) low h = tt
narrow-below n (Some End) low h = tt

narrow-names : (ws : List (List ℕ)) → NarrowIfSome (names_of ws)
narrow-names ws = elim (nat_le (length ws) 9) as (λ b. nat_le (length ws) 9 ≡ b → NarrowIfSome (if b then table_of ws else None))
    [ true ↦ λ e. narrow-below (length ws) (table_of ws) (leb-true (length ws) 9 e) (below-table ws) | false ↦ λ e. tt ] refl

narrow-statement : (ws : List (List ℕ)) → NarrowIfSome (statement_of ws)
narrow-statement [] = tt
narrow-statement (w ∷ ws) =
    narrow-if (is_same_name w (codes ".model")) _ _ (narrow-model ws)
    (narrow-if (is_same_name w (codes ".inputs")) _ _ tt
    (narrow-if (is_same_name w (codes ".outputs")) _ _ tt
    (narrow-if (is_same_name w (codes ".latch")) _ _ (narrow-latch ws)
    (narrow-if (is_same_name w (codes ".names")) _ _ (narrow-names ws)
    (narrow-if (is_same_name w (codes ".end")) _ _ (narrow-end ws) (narrow-row w ws))))))

narrow-said : (said : List Said) → AllByRecursion (λ s. NarrowIfSome s.says) said → AllByRecursion IsNarrow (filter_map (λ line. line.says) said)
narrow-said [] all = tt
narrow-said (s ∷ said) all =
    let go : (o : Option Statement) → s.says ≡ o → NarrowIfSome o → AllByRecursion IsNarrow (filter_map (λ line. line.says) (s ∷ said)) =
    λ o. elim o as (λ o. s.says ≡ o → NarrowIfSome o → AllByRecursion IsNarrow (filter_map (λ line. line.says) (s ∷ said)))
    [ None ↦ λ e h. rw e (narrow-said said all.1) | Some t ↦ λ e h. rw e (h, narrow-said said all.1) ] in
    go s.says refl all.0

narrow-by : (n : ℕ) (ws : List (List ℕ)) → AllByRecursion (λ s. NarrowIfSome s.says) (said_by n ws)
narrow-by n [] = tt
narrow-by n (w ∷ ws) = (narrow-statement (w ∷ ws), tt)

narrow-line : (line : Line) → AllByRecursion (λ s. NarrowIfSome s.says) (said_in line)
narrow-line line = elim (is_clean line.bytes) as (λ b. AllByRecursion (λ s. NarrowIfSome s.says)
    (if b then said_by line.number (words line.bytes) else record { number = line.number; says = None } ∷ []))
    [ true ↦ narrow-by line.number (words line.bytes) | false ↦ (tt, tt) ]

narrow-lines : (lines : List Line) → AllByRecursion (λ s. NarrowIfSome s.says) (flat_map said_in lines)
narrow-lines [] = tt
narrow-lines (line ∷ lines) = all_joined (λ s. NarrowIfSome s.says) (said_in line) (flat_map said_in lines) (narrow-line line) (narrow-lines lines)

narrow-tables : (ss : List Statement) → AllByRecursion IsNarrow ss → AllByRecursion (λ t. length t.inputs ≤ 8) (tables_of ss)
narrow-tables [] all = tt
narrow-tables (Model name ∷ ss) all = narrow-tables ss all.1
narrow-tables (Inputs names ∷ ss) all = narrow-tables ss all.1
narrow-tables (Outputs names ∷ ss) all = narrow-tables ss all.1
narrow-tables (Latch x y z ∷ ss) all = narrow-tables ss all.1
narrow-tables (Row cells ∷ ss) all = narrow-tables ss all.1
narrow-tables (End ∷ ss) all = narrow-tables ss all.1
narrow-tables (Names inputs output ∷ ss) all = (all.0, narrow-tables ss all.1)

-- ---- together

pub record IsSound (c : Circuit) : Type 0 where
  pub differ : all_differ is_same_name (driven_names c) ≡ true
  pub driven : AllUsed (λ name. is_among name (driven_names c) ≡ true) c
  pub narrow : AllByRecursion (λ t. length t.inputs ≤ 8) c.tables

unless-ok : {F A : Type 0} (o : Option F) (fault : F → CircuitFault) (r : Result A CircuitFault) (a : A) → unless o fault r ≡ Ok a → (o ≡ None) × (r ≡ Ok a)
unless-ok None fault r a e = (refl, e)
unless-ok {F} {A} (Some f) fault r a e =
    let P : Result A CircuitFault → Type 0 = λ x. elim x as (λ _. Type 0) [ Ok y ↦ (Some f ≡ None) × (r ≡ Ok a) | Err y ↦ Unit {0} ] in
    subst P e tt

ok-is : (a b : Circuit) → (r : Result Circuit CircuitFault) → r ≡ Ok a → r ≡ Ok b → a ≡ b
ok-is a b r x y =
    let P : Result Circuit CircuitFault → Circuit = λ r. elim r as (λ _. Circuit) [ Ok z ↦ z | Err z ↦ a ] in
    ap P (sym x ∙ y)

sound-statements : (ss : List Statement) → driven_again ss ≡ None → not_driven ss ≡ None → AllByRecursion IsNarrow ss → IsSound (circuit_of ss)
sound-statements ss once driven narrow =
    let groups = regroups ss in
    let used = found-none (λ name. is_among name (flat_map driven_by ss)) (flat_map used_by ss) driven in
    record {
      differ = groups.differ (once-of [] (flat_map driven_by ss) once).differ;
      driven = used-all (λ name. is_among name (grouped ss) ≡ true) ss (along (λ name h. sym (groups.same name) ∙ h) (flat_map used_by ss) used);
      narrow = narrow-tables ss narrow;
    }
  where
    along : {P Q : List ℕ → Type 0} → ((name : List ℕ) → P name → Q name) → (names : List (List ℕ)) → AllByRecursion P names → AllByRecursion Q names
    along f [] all = tt
    along f (name ∷ names) all = (f name all.0, along f names all.1)

pub described-sound : (text : List ℕ) (c : Circuit) → reading text ≡ Ok c → IsSound c
described-sound text c is =
    let ss = statements text in
    let lines = unless-ok _ _ _ c is in
    let once = unless-ok _ _ _ c lines.1 in
    let driven = unless-ok _ _ _ c once.1 in
    subst IsSound (ok-is (circuit_of ss) c (Ok (circuit_of ss)) refl driven.1)
    (sound-statements ss once.0 driven.0 (narrow-said (said text) (narrow-lines (read_lines text))))
