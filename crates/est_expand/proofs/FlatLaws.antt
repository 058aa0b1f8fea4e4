-- Inner: the flat form of a program keeps what a flat program keeps.
use Rattle.std.proofs.Common.{◌≡◌, ℕ, ◌+◌, ◌<◌, ◌≤◌, ◌||◌, ◌&&◌, Bool, true, false, nat_lt, List, [], ◌∷◌, ◌++◌, map, length, refl, ap, sym, subst, ◌∙◌, Option}
use Rattle.std.proofs.Common.{Some, None, Result, Ok, Err, arith, length-append, take, IsTrue}
use Rattle.std.specs.Prelude.{All, IfOk, flat_map, nat_le, if◌then◌else◌}
use Rattle.std.specs.Option.{option_map_or}
use Rattle.std.proofs.lemmas.Bool.{lt-ltb, leb-true}
use Rattle.std.proofs.lemmas.Result.{IfOk-weaker, IfOk-at_ok}
use Rattle.est_ast.specs.declared.flat.Flat.{Flat as CodeFlat}
use Rattle.est_ast.specs.FlatTrees as flat
use Rattle.est_ast.specs.FlatViews.{flat_of}
use Rattle.std.proofs.Math.Seq.{take-length}
use Rattle.std.proofs.lemmas.List.{map-append, take-append-le}
use Rattle.std.proofs.lemmas.List.Elements.{All-append, All-nil, All-cons, All-map}
use Rattle.std.proofs.lemmas.List.Folds.{list_any-append}
use Rattle.base_facts.proofs.Lists.{Every, all-of-every, every-append}
use Rattle.base_facts.proofs.Tests.{or-swapped}
use Rattle.base_types.specs.declared.bounds.TheConstants.Limits.{SIGNALS, DEPTH}
use Rattle.base_types.specs.Distinct.{all_differ}
use Rattle.base_types.specs.Names.{is_name, is_same_name}
use Rattle.base_types.specs.Relations as flat_relations
use Rattle.est_ast.specs.declared.trees.Name.{Name}
use Rattle.est_ast.specs.Trees.{NamedRelation, Implies, Excludes, Decl, Input, InputOutput, Output, Relations, Module, SourceProgram}
use Rattle.est_names.specs.declared.refusal.NameFault.{NameFault}
use Rattle.est_names.specs.declared.refusal.NameFault.TheVariants.{DuplicateSignal, RelationName}
use Rattle.est_names.specs.Names.{texts, is_among}
use Rattle.est_names.specs.NameFaults.{again, declared_in, given_in, related_in, names_of_relation, not_given, decl_faults, interface_faults}
use Rattle.est_expand.specs.declared.scope.Meaning.{Meaning}
use Rattle.est_expand.specs.declared.refusal.ExpandFault.{ExpandFault}
use Rattle.est_expand.specs.Answers.{AnswersAsDefined}
use Rattle.est_expand.specs.Faults.{FlattenFault, TooManySignals}
use Rattle.est_expand.specs.Scopes.{NameScope, meaning, binding, inputs_in, both_in, outputs_in, ModuleInterface, main_interface, main_signals, main_scope}
use Rattle.est_expand.specs.Walks.{WalkCounts, beginning, meet_signals}
use Rattle.est_expand.specs.Flattening.{around_main, related, relation_in, relations_in, main_flattening, main_walk, flat_program, flattened, flattening}
use Rattle.est_ast.specs.FlatFits as fits
use Rattle.est_ast.specs.NewSignals.{new_in}
use Rattle.est_ast.specs.FlatPrograms.{RelatesGiven, IsFlat, IsNamed}
use Rattle.est_expand.specs.NamedModules.{IsNamedModule}
use Rattle.est_expand.proofs.DistinctNames.{interface-differs}
use Rattle.est_expand.proofs.FlatFitting.{on_ok-IfOk, if-IfOk, SeesNames, sees_none, sees_more, Begun, Kept, Sees, flattening-IfOk}

-- ---- the scope of the main module

-- binders of signals below a bound
sees_bound : (input : Bool) (names : List (List ℕ)) (next : ℕ) (scope : NameScope) (bound : ℕ) → next + length names ≤ bound
    → SeesNames scope (λ s. nat_lt s bound) → SeesNames (binding input names next scope) (λ s. nat_lt s bound)
sees_bound input [] next scope bound low sees = sees
sees_bound input (name ∷ names) next scope bound low sees =
    let below : ℕ → Bool = λ s. nat_lt s bound in
    sees_bound input names (next + 1) ((name, record { signal = next; input = input }) ∷ scope) bound (omega (arith, low))
    (sees_more scope below name (record { signal = next; input = input }) sees (lt-ltb next bound (omega (arith, low))))

sees_main : (i : ModuleInterface) → SeesNames (main_scope i) (λ s. nat_lt s (length i.inputs + (length i.both + length i.outputs)))
sees_main i =
    let bound = length i.inputs + (length i.both + length i.outputs) in
    sees_bound true i.inputs 0 _ bound (omega arith) (sees_bound false i.both (length i.inputs) _ bound (omega arith)
    (sees_bound false i.outputs (length i.inputs + length i.both) [] bound (omega arith) (sees_none (λ s. nat_lt s bound))))

-- a name that none of the binders has
pub binding-passes : (input : Bool) (names : List (List ℕ)) (next : ℕ) (scope : NameScope) (name : List ℕ) → is_among name names ≡ false
    → meaning (binding input names next scope) name ≡ meaning scope name
binding-passes input [] next scope name out = refl
binding-passes input (n ∷ names) next scope name out =
    let m : Meaning = record { signal = next; input = input } in
    let apart = or_false (is_same_name name n) (is_among name names) out in
    binding-passes input names (next + 1) ((n, m) ∷ scope) name apart.1 ∙ ap (λ b. if b then Some m else meaning scope name) apart.0
  where
    or_false : (a b : Bool) → (a || b) ≡ false → (a ≡ false) × (b ≡ false)
    or_false false false is = (refl, refl)
    or_false true b is = absurd (cc)
    or_false false true is = absurd (cc)

-- what a name that one of the binders has means
abbrev IsBelow : Option Meaning → ℕ → Type 0
IsBelow found bound = (m : Meaning) × (found ≡ Some m) × (m.signal < bound)

binding-found : (input : Bool) (names : List (List ℕ)) (next : ℕ) (scope : NameScope) (name : List ℕ) → is_among name names ≡ true
    → IsBelow (meaning (binding input names next scope) name) (next + length names)
binding-found input [] next scope name there = absurd (cc)
binding-found input (n ∷ names) next scope name there =
    by (is_among name names) (is_same_name name n) refl refl there (binding-found input names (next + 1)
    ((n, record { signal = next; input = input }) ∷ scope) name)
  where
    by : (b a : Bool) → is_among name names ≡ b → is_same_name name n ≡ a → (is_same_name name n || is_among name names) ≡ true
        → (is_among name names ≡ true → IsBelow (meaning (binding input names (next + 1) ((n, record { signal = next; input = input }) ∷ scope)) name)
        (next + 1 + length names))
        → IsBelow (meaning (binding input (n ∷ names) next scope) name) (next + length (n ∷ names))
    by true a among same there others = let (m, is, low) = others among in (m, is, omega (arith, low))
    by false true among same there others =
        let m : Meaning = record { signal = next; input = input } in
        (m, binding-passes input names (next + 1) ((n, m) ∷ scope) name among ∙ ap (λ b. if b then Some m else meaning scope name) same, omega arith)
    by false false among same there others = let no : (false || false) ≡ true = ap (λ b. b || false) (sym same) ∙ ap (λ b. is_same_name name n || b) (sym among)
        ∙ there in absurd (cc)

-- ---- given names

or_first : (a i b : Bool) → (a || (i || b)) ≡ ((a || i) || b)
or_first true i b = refl
or_first false i b = refl

among_texts : (name : List ℕ) (names others : List Name) → is_among name (texts (names ++ others)) ≡
    (is_among name (texts names) || is_among name (texts others))
among_texts name names others = ap (is_among name) (map-append (λ n. n.text) names others) ∙ list_any-append (is_same_name name) (texts names) (texts others)

-- a given name is that of an input or of an inputoutput
given_among : (name : List ℕ) (decls : List Decl)
    → is_among name (texts (flat_map given_in decls)) ≡ (is_among name (flat_map inputs_in decls) || is_among name (flat_map both_in decls))
given_among name [] = refl
given_among name (Input names ∷ decls) =
    among_texts name names (flat_map given_in decls) ∙ ap (λ b. is_among name (texts names) || b) (given_among name decls)
    ∙ or_first (is_among name (texts names)) (is_among name (flat_map inputs_in decls)) (is_among name (flat_map both_in decls))
    ∙ ap (λ b. b || is_among name (flat_map both_in decls)) (sym (list_any-append (is_same_name name) (texts names) (flat_map inputs_in decls)))
given_among name (InputOutput names ∷ decls) =
    among_texts name names (flat_map given_in decls) ∙ ap (λ b. is_among name (texts names) || b) (given_among name decls)
    ∙ or-swapped (is_among name (texts names)) (is_among name (flat_map inputs_in decls)) (is_among name (flat_map both_in decls))
    ∙ ap (λ b. is_among name (flat_map inputs_in decls) || b) (sym (list_any-append (is_same_name name) (texts names) (flat_map both_in decls)))
given_among name (Output names ∷ decls) = given_among name decls
given_among name (Relations relations ∷ decls) = given_among name decls

-- such a name means a given signal
main_scope-given : (i : ModuleInterface) (name : List ℕ) → (is_among name i.inputs || is_among name i.both) ≡ true
    → IsBelow (meaning (main_scope i) name) (length i.inputs + length i.both)
main_scope-given i name there = by (is_among name i.inputs) refl there
  where
    inner : NameScope
    inner = binding false i.both (length i.inputs) (binding false i.outputs (length i.inputs + length i.both) [])

    by : (b : Bool) → is_among name i.inputs ≡ b → (is_among name i.inputs || is_among name i.both) ≡ true
        → IsBelow (meaning (main_scope i) name) (length i.inputs + length i.both)
    by true among there =
        let (m, is, low) = binding-found true i.inputs 0 (binding false i.both (length i.inputs) (binding false i.outputs (length i.inputs + length i.both) []))
        name among in
        (m, is, omega (arith, low))
    by false out there =
        let (m, is, low) = binding-found false i.both (length i.inputs) (binding false i.outputs (length i.inputs + length i.both) []) name
        (ap (λ b. b || is_among name i.both) (sym out) ∙ there) in (
          m,
          binding-passes true i.inputs 0 (binding false i.both (length i.inputs) (binding false i.outputs (length i.inputs + length i.both) [])) name out
              ∙ is,
          low,
        )

-- ---- relations

each-split : {X : Type 0} (P : X → Type 0) (xs ys : List X) → Every P (xs ++ ys) → Every P xs × Every P ys
each-split P [] ys each = (tt, each)
each-split P (x ∷ xs) ys each = let (here, others) = each-split P xs ys each.1 in ((each.0, here), others)

nothing_before : {X : Type 0} (xs ys : List X) → xs ++ ys ≡ [] → (xs ≡ []) × (ys ≡ [])
nothing_before [] ys is = (refl, is)
nothing_before (x ∷ xs) ys is = absurd (cc)

abbrev Among : List (List ℕ) → Name → Type 0
Among given name = is_among name.text given ≡ true

each_given : (given : List (List ℕ)) (names : List Name) → not_given given names ≡ [] → Every (Among given) names
each_given given [] none = tt
each_given given (name ∷ names) none =
    let (here, others) = nothing_before (if is_among name.text given then [] else RelationName name.span ∷ []) (not_given given names) none in
    (by (is_among name.text given) here, each_given given names others)
  where
    by : (b : Bool) → (if b then [] else RelationName name.span ∷ []) ≡ [] → b ≡ true
    by true none = refl
    by false none = absurd (cc)

abbrev NamesAmong : List (List ℕ) → NamedRelation → Type 0
NamesAmong given r = Every (Among given) (names_of_relation r)

each_relation : (given : List (List ℕ)) (rs : List NamedRelation) → Every (Among given) (flat_map names_of_relation rs) → Every (NamesAmong given) rs
each_relation given [] each = tt
each_relation given (r ∷ rs) each =
    let (here, others) = each-split (Among given) (names_of_relation r) (flat_map names_of_relation rs) each in
    (here, each_relation given rs others)

relations_among : (given before : List (List ℕ)) (decls : List Decl) → decl_faults given before decls ≡ [] →
    Every (NamesAmong given) (flat_map relations_in decls)
relations_among given before [] none = tt
relations_among given before (decl ∷ decls) none =
    let (_, behind) = nothing_before (again DuplicateSignal before (declared_in decl))
    (not_given given (related_in decl) ++ decl_faults given (before ++ texts (declared_in decl)) decls) none in
    let (here, others) = nothing_before (not_given given (related_in decl)) (decl_faults given (before ++ texts (declared_in decl)) decls) behind in
    by decl here (relations_among given (before ++ texts (declared_in decl)) decls others)
  where
    by : (d : Decl) → not_given given (related_in d) ≡ [] → Every (NamesAmong given) (flat_map relations_in decls) →
        Every (NamesAmong given) (relations_in d ++ flat_map relations_in decls)
    by (Input names) none others = others
    by (InputOutput names) none others = others
    by (Output names) none others = others
    by (Relations rs) none others =
        every-append (NamesAmong given) rs (flat_map relations_in decls) (each_relation given rs (each_given given (flat_map names_of_relation rs) none)) others

-- a relation of given names is one of given signals
module _ (main : Module) where
  abbrev shown : ModuleInterface
  shown = main_interface main

  abbrev given : List (List ℕ)
  given = texts (flat_map given_in main.decls)

  abbrev bound : ℕ
  bound = length shown.inputs + length shown.both

  related-below : (name : Name) → Among given name → related (main_scope shown) name < bound
  related-below name among =
      let (m, is, low) = main_scope-given shown name.text (sym (given_among name.text main.decls) ∙ among) in
      subst (λ found. option_map_or (λ s. s.signal) found 0 < bound) (sym is) low

  related-all : (names : List Name) → Every (Among given) names → Every (λ s. s < bound) (map (related (main_scope shown)) names)
  related-all [] each = tt
  related-all (name ∷ names) each = (related-below name each.0, related-all names each.1)

  relation-given : (r : NamedRelation) → NamesAmong given r → RelatesGiven bound (relation_in (main_scope shown) r)
  relation-given (Implies cause effect) each = (related-below cause each.0, related-below effect each.1.0)
  relation-given (Excludes names) each = all-of-every (λ s. s < bound) (map (related (main_scope shown)) names) (related-all names each)

  relations-given : (rs : List NamedRelation) → Every (NamesAmong given) rs → All (RelatesGiven bound) (map (relation_in (main_scope shown)) rs)
  relations-given [] each = All-nil (RelatesGiven bound)
  relations-given (r ∷ rs) each =
      All-cons (RelatesGiven bound) (relation_in (main_scope shown) r) (map (relation_in (main_scope shown)) rs) (relation-given r each.0)
      (relations-given rs each.1)

  -- ---- the program

  -- the signals of the main module have been met
  record Shown (met : WalkCounts) : Type 0 where
    signals : met.signals ≡ main_signals shown
    added : met.added ≡ 0
    few : length (main_signals shown) ≤ SIGNALS

  meet_shown : IfOk (meet_signals (main_signals shown) beginning) (λ d. Shown d.1)
  meet_shown =
      let r : Result (ℕ × WalkCounts) FlattenFault = Ok (0, record beginning { signals = [] ++ main_signals shown }) in
      if-IfOk (nat_le (length (let none : List (List ℕ) = [] in none) + length (main_signals shown) + 0) SIGNALS) r TooManySignals (λ d. Shown d.1) (λ low.
      let few = leb-true (0 + length (main_signals shown) + 0) SIGNALS low in
      record { signals = refl; added = refl; few = omega (arith, few) })

  abbrev seen : ℕ
  seen = length shown.inputs + (length shown.both + length shown.outputs)

  length-shown : length (main_signals shown) ≡ seen
  length-shown =
      length-append shown.inputs (shown.both ++ shown.outputs) ∙ ap (λ n. length shown.inputs + n) (length-append shown.both shown.outputs)

  abbrev place : fits.Scope
  place = record { visible = λ s. nat_lt s seen; traps = 0 }

  -- what a walk from there keeps
  record Walked (done : flat.Stmt × WalkCounts) : Type 0 where
    interface : seen ≤ length done.1.signals
    room : length done.1.signals + new_in done.0 ≤ SIGNALS
    body : fits.Fits (length shown.inputs) seen (length done.1.signals) place done.0
    names : take seen done.1.signals ≡ main_signals shown

  walked : (modules : SourceProgram) → IfOk (main_walk modules main beginning) Walked
  walked modules =
      on_ok-IfOk (meet_signals (main_signals shown) beginning) _ (λ d. Shown d.1) Walked meet_shown (λ d met.
      let all : length d.1.signals ≡ seen = ap length met.signals ∙ length-shown in
      let begun : Begun seen d.1 = record { shown = omega (arith, all); few = omega (arith, all, length-shown, met.few, met.added) } in
      let sees : Sees (length shown.inputs) seen (around_main main) place = record { names = sees_main shown; traps = omega arith } in
      IfOk-weaker (main_flattening modules main d.1) (λ e. Kept d.1 e.1 (new_in e.0) (λ all. fits.Fits (length shown.inputs) seen all place e.0)) Walked
      (λ e kept. record {
        interface = omega (arith, kept.grows, all);
        room = omega (arith, kept.few, kept.added, met.added);
        body = kept.in_place (length e.1.signals) (omega arith);
        names = ap (take seen) (kept.begins.1 ∙ ap (λ l. l ++ kept.begins.0) met.signals)
            ∙ ap (λ n. take n (main_signals shown ++ kept.begins.0)) (sym length-shown)
            ∙ take-append-le (length (main_signals shown)) (main_signals shown) kept.begins.0 (omega arith)
            ∙ take-length (main_signals shown);
      }) (flattening-IfOk (length shown.inputs) seen modules (DEPTH + 1) (around_main main) place main.body d.1 sees begun))

  pub flattened-fits : (modules : SourceProgram) → interface_faults main.decls ≡ [] → IfOk (flattened modules main) IsFlat
  flattened-fits modules faultless =
      on_ok-IfOk (main_walk modules main beginning) _ Walked IsFlat (walked modules) (λ done is. record {
        interface = is.interface;
        room = is.room;
        body = is.body;
        relations = relations-given (flat_map relations_in main.decls) (relations_among given [] main.decls faultless);
        differ = ap (all_differ is_same_name) is.names ∙ interface-differs given main.decls faultless;
      })

  pub flattened-named : (modules : SourceProgram) → IsNamedModule main → IfOk (flattened modules main) IsNamed
  flattened-named modules named =
      on_ok-IfOk (main_walk modules main beginning) _ Walked IsNamed (walked modules) (λ done is. record {
        name = named.name;
        names = subst (All (λ n. IsTrue (is_name n))) (sym is.names) named.names;
      })

-- so an answer that is the flat form keeps it too
pub answer-named : (result : Result CodeFlat ExpandFault) (modules : SourceProgram) (main : Module) → IsNamedModule main
    → AnswersAsDefined flat_of result (flattened modules main) → IfOk result (λ flat. IsNamed (flat_of flat))
answer-named (Ok flat) modules main named is = IfOk-at_ok IsNamed is (flattened-named main modules named)
answer-named (Err error) modules main named is = tt

pub answer-fits : (result : Result CodeFlat ExpandFault) (modules : SourceProgram) (main : Module) → interface_faults main.decls ≡ []
    → AnswersAsDefined flat_of result (flattened modules main) → IfOk result (λ flat. IsFlat (flat_of flat))
answer-fits (Ok flat) modules main faultless is = IfOk-at_ok IsFlat is (flattened-fits main modules faultless)
answer-fits (Err error) modules main faultless is = tt
