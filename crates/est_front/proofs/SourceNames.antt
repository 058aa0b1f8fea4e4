-- The names of a program's interface have room in its source, one behind another, and so has one byte for each of its relations.
use Rattle.std.proofs.Common.{◌≡◌, ℕ, ◌+◌, ◌≤◌, Bool, true, false, List, [], ◌∷◌, ◌++◌, length, take, drop, Option, Some, None, Result, Ok, refl, sym, ap}
use Rattle.std.proofs.Common.{◌∙◌, subst, arith, append_assoc}
use Rattle.std.specs.Prelude.{IfOk, flat_map, slice_get, option_and_then, codes, replicate, if◌then◌else◌, nat_lt, nat_le}
use Rattle.std.specs.List.{sum_by}
use Rattle.std.proofs.lemmas.Bool.{leb-true}
use Rattle.std.proofs.lemmas.List.{length-append, length-map}
use Rattle.std.proofs.lemmas.List.Sums.{sum_by-append, sum_by-cons, get_or-le-sum_by}
use Rattle.std.proofs.lemmas.Option.{get_or_from_slice_get, slice_get_within}
use Rattle.std.proofs.lemmas.Result.{IfOk-at_ok, IfOk-weaker}
use Rattle.std.proofs.Math.Seq.{take-add, take-append_seam}
use Rattle.base_types.specs.declared.bounds.TheConstants.Limits.{DEPTH, SIGNALS, KERNEL_NODES, KERNEL_HEIGHT, TRAPS}
use Rattle.base_types.specs.declared.place.Span.{Span}
use Rattle.est_kernel.specs.Plain.{Program, given_names, outgoing_names, interface_count, given_count}
use Rattle.est_kernel.specs.Sizes.{size_of, height_of, trap_depth}
use Rattle.est_ast.specs.declared.trees.Name.{Name}
use Rattle.est_ast.specs.FlatFits as fits
use Rattle.est_ast.specs.FlatTrees as flat
use Rattle.est_ast.specs.NewSignals.{new_in}
use Rattle.est_ast.specs.Trees.{Decl, Input, InputOutput, Output, Relations, Module}
use Rattle.est_ast.specs.Trees as source
use Rattle.est_dismantle.specs.Counts.{bad_in}
use Rattle.est_dismantle.specs.Expansions.{Expanded, TooLarge, TooHigh, TooManyTraps, kernel_body, program_in, counted}
use Rattle.est_expand.specs.Faults.{FlattenFault, TooManySignals}
use Rattle.est_expand.specs.Flattening.{relations_in, relation_in, around_main, main_flattening, main_walk, flattened}
use Rattle.est_expand.specs.Scopes.{inputs_in, both_in, outputs_in, ModuleInterface, main_interface, main_signals, main_scope}
use Rattle.est_expand.specs.Walks.{WalkCounts, beginning, meet_signals}
use Rattle.est_expand.proofs.Exports.{on_ok-IfOk, if-IfOk, Begins, Kept, Sees, flattening-IfOk}
use Rattle.est_names.specs.Names.{texts}
use Rattle.est_names.specs.NameFaults.{main_place, module_names}
use Rattle.est_front.specs.Sources.{SourceReadsAs, main_module, StandsFor}
use Rattle.est_front.proofs.SourceWeights.{tokens_weigh, program_weighs, decl_weight, module_weight}

-- ---- the main module in its source

module_fits : (text : List ℕ) (tree : source.SourceProgram) (place : ℕ) (m : Module) → SourceReadsAs text tree → slice_get tree place ≡ Some m →
    module_weight m ≤ length text
module_fits text tree place m reads is =
    let at = get_or_from_slice_get tree place m m is in
    let low = slice_get_within tree place m is in
    let whole = tokens_weigh text reads.tokens reads.lexes in
    let spelled = program_weighs tree reads.tokens reads.spells.0 in
    let one = get_or-le-sum_by module_weight tree place m low in
    omega (arith, ap module_weight at)

main_fits : (text : List ℕ) (main : Option (List ℕ)) (tree : source.SourceProgram) (m : Module) → SourceReadsAs text tree → main_module main tree ≡ Some m →
    module_weight m ≤ length text
main_fits text main tree m reads is = go (main_place main (module_names tree)) is
  where
    go : (found : Option ℕ) → option_and_then (λ place. slice_get tree place) found ≡ Some m → module_weight m ≤ length text
    go None is = absurd (cc)
    go (Some place) is = module_fits text tree place m reads is

-- ---- what it declares

abbrev bytes_of : List (List ℕ) → ℕ
bytes_of names = sum_by (λ n. length n) names

bytes-texts : (names : List Name) → bytes_of (texts names) ≡ sum_by (λ n. length n.text) names
bytes-texts [] = refl
bytes-texts (n ∷ names) = omega (
  arith,
  sum_by-cons (λ (b : List ℕ). length b) n.text (texts names),
  sum_by-cons (λ (m : Name). length m.text) n names,
  bytes-texts names,
)

count-ones : {X : Type 0} (xs : List X) → sum_by (λ x. 1) xs ≡ length xs
count-ones [] = refl
count-ones (x ∷ xs) = omega (arith, sum_by-cons (λ y. 1) x xs, count-ones xs)

-- what a declaration gives to each part of the interface
abbrev declared_bytes : Decl → ℕ
declared_bytes d = bytes_of (inputs_in d) + bytes_of (both_in d) + bytes_of (outputs_in d) + length (relations_in d)

decl_bytes : (d : Decl) → declared_bytes d ≡ decl_weight d
decl_bytes (Input names) = omega (arith, bytes-texts names)
decl_bytes (InputOutput names) = omega (arith, bytes-texts names)
decl_bytes (Output names) = omega (arith, bytes-texts names)
decl_bytes (Relations relations) = omega (arith, count-ones relations)

decls_bytes : (decls : List Decl) → bytes_of (flat_map inputs_in decls) + bytes_of (flat_map both_in decls) + bytes_of (flat_map outputs_in decls)
    + length (flat_map relations_in decls) ≡ sum_by decl_weight decls
decls_bytes [] = refl
decls_bytes (d ∷ decls) = omega (
  arith,
  decl_bytes d,
  decls_bytes decls,
  sum_by-cons decl_weight d decls,
  sum_by-append (λ (b : List ℕ). length b) (inputs_in d) (flat_map inputs_in decls),
  sum_by-append (λ (b : List ℕ). length b) (both_in d) (flat_map both_in decls),
  sum_by-append (λ (b : List ℕ). length b) (outputs_in d) (flat_map outputs_in decls),
  length-append (relations_in d) (flat_map relations_in decls),
)

-- ---- the flat program

-- the flat program shows what its main module declares
record Shows (main : Module) (f : flat.Flat) : Type 0 where
  name : f.name ≡ main.name.text
  signals : Begins (main_signals (main_interface main)) f.signals
  inputs : f.inputs ≡ length (main_interface main).inputs
  both : f.both ≡ length (main_interface main).both
  outputs : f.outputs ≡ length (main_interface main).outputs
  relations : length f.relations ≡ length (flat_map relations_in main.decls)

module _ (main : Module) where
  abbrev shown : ModuleInterface
  shown = main_interface main

  record Met-shown (met : WalkCounts) : Type 0 where
    signals : met.signals ≡ main_signals shown
    few : length met.signals + met.added ≤ SIGNALS

  meet_shown : IfOk (meet_signals (main_signals shown) beginning) (λ d. Met-shown d.1)
  meet_shown =
      let none : List (List ℕ) = [] in
      let r : Result (ℕ × WalkCounts) FlattenFault = Ok (0, record beginning { signals = [] ++ main_signals shown }) in
      if-IfOk (nat_le (length none + length (main_signals shown) + 0) SIGNALS) r TooManySignals (λ d. Met-shown d.1) (λ low.
      let few = leb-true (0 + length (main_signals shown) + 0) SIGNALS low in
      record { signals = refl; few = omega (arith, few) })

  -- every name is visible
  abbrev place : fits.Scope
  place = record { visible = λ s. true; traps = 0 }

  walked : (modules : source.SourceProgram) → IfOk (main_walk modules main beginning) (λ done. Begins (main_signals shown) done.1.signals)
  walked modules =
      on_ok-IfOk (meet_signals (main_signals shown) beginning) _ (λ d. Met-shown d.1) (λ done. Begins (main_signals shown) done.1.signals) meet_shown (λ d met.
      let sees : Sees (length shown.inputs) 0 (around_main main) place = record { names = λ name m is. refl; traps = omega arith } in
      IfOk-weaker (main_flattening modules main d.1) (λ e. Kept d.1 e.1 (new_in e.0) (λ all. fits.Fits (length shown.inputs) 0 all place e.0))
      (λ e. Begins (main_signals shown) e.1.signals)
      (λ e kept. (kept.begins.0, kept.begins.1 ∙ ap (λ l. l ++ kept.begins.0) met.signals))
      (flattening-IfOk (length shown.inputs) 0 modules (DEPTH + 1) (around_main main) place main.body d.1 sees
      (record { shown = omega arith; few = met.few })))

  flattened-shows : (modules : source.SourceProgram) → IfOk (flattened modules main) (Shows main)
  flattened-shows modules =
      on_ok-IfOk (main_walk modules main beginning) _ (λ done. Begins (main_signals shown) done.1.signals) (Shows main) (walked modules) (λ done is. record {
        name = refl;
        signals = is;
        inputs = refl;
        both = refl;
        outputs = refl;
        relations = length-map (flat_map relations_in main.decls) (relation_in (main_scope shown));
      })

-- ---- the kernel program

within : (a b c : Bool) (q p : Program) → (if a then TooLarge else if b then TooHigh else if c then TooManyTraps else Expanded q) ≡ Expanded p → q ≡ p
within true b c q p h = cc
within false true c q p h = cc
within false false true q p h = cc
within false false false q p h = cc

-- the program that a flat program is expanded into has its interface
expanded : (f : flat.Flat) (bad : List Span) (p : Program) → counted f bad ≡ Expanded p → program_in f (kernel_body f) ≡ p
expanded f [] p h =
    let body = kernel_body f in
    within (nat_lt KERNEL_NODES (size_of body)) (nat_lt KERNEL_HEIGHT (height_of body)) (nat_lt TRAPS (trap_depth body)) (program_in f body) p h
expanded f (place ∷ places) p h = absurd (cc)

-- the names and the relations have room in the text
pub record HasRoom (text : List ℕ) (p : Program) : Type 0 where
  pub name : length p.name ≤ length text
  pub interface : sum_by (λ n. length n) (take (interface_count p) p.signals) ≤ length text
  pub relations : length p.relations ≤ length text

flat-room : (text : List ℕ) (main : Module) (f : flat.Flat) → Shows main f → module_weight main ≤ length text → HasRoom text (program_in f (kernel_body f))
flat-room text main f shows few =
    let i = main_interface main in
    let more = shows.signals.0 ++ replicate (new_in f.body) (codes "x") in
    let count : interface_count (program_in f (kernel_body f)) ≡ length (main_signals i) =
    omega (arith, shows.inputs, shows.both, shows.outputs, length-append i.inputs (i.both ++ i.outputs), length-append i.both i.outputs) in
    let signals : f.signals ++ replicate (new_in f.body) (codes "x") ≡ main_signals i ++ more =
    ap (λ l. l ++ replicate (new_in f.body) (codes "x")) shows.signals.1
    ∙ append_assoc (main_signals i) shows.signals.0 (replicate (new_in f.body) (codes "x")) in
    let front : take (interface_count (program_in f (kernel_body f))) (f.signals ++ replicate (new_in f.body) (codes "x"))
    ≡ main_signals i =
    ap (λ n. take n (f.signals ++ replicate (new_in f.body) (codes "x"))) count ∙ ap (take (length (main_signals i))) signals
    ∙ take-append_seam (main_signals i) more in
    let bytes = decls_bytes main.decls in
    record {
      name = omega (arith, ap (λ (n : List ℕ). length n) shows.name);
      interface = subst (λ l. bytes_of l ≤ length text) (sym front) (omega (
        arith,
        sum_by-append (λ (b : List ℕ). length b) i.inputs (i.both ++ i.outputs),
        sum_by-append (λ (b : List ℕ). length b) i.both i.outputs,
      ));
      relations = omega (arith, shows.relations);
    }

-- a program has the room that it needs in its source
pub source-room : (text : List ℕ) (main : Option (List ℕ)) (p : Program) → StandsFor text main p → HasRoom text p
source-room text main p stands =
    let e = stands.expands in
    let f = e.flattens in
    let few = main_fits text main f.tree f.main_one f.declares.reads f.is_main in
    let shows = IfOk-at_ok (Shows f.main_one) f.flat_form (flattened-shows f.main_one f.tree) in
    subst (HasRoom text) (expanded e.flat (bad_in e.flat.body) p e.expands) (flat-room text f.main_one e.flat shows few)

-- ---- the names of inputs and of outputs

pub given-room : (text : List ℕ) (p : Program) → HasRoom text p → sum_by (λ n. length n) (given_names p) ≤ length text
given-room text p room =
    let same : interface_count p ≡ given_count p + p.outputs = omega arith in
    let parts : take (interface_count p) p.signals ≡ given_names p ++ take p.outputs (drop (given_count p) p.signals) =
    ap (λ n. take n p.signals) same ∙ take-add (given_count p) p.outputs p.signals in
    omega (
      arith,
      room.interface,
      ap bytes_of parts,
      sum_by-append (λ (b : List ℕ). length b) (given_names p) (take p.outputs (drop (given_count p) p.signals)),
    )

pub outgoing-room : (text : List ℕ) (p : Program) → HasRoom text p → sum_by (λ n. length n) (outgoing_names p) ≤ length text
outgoing-room text p room =
    let parts : take (interface_count p) p.signals ≡ take p.inputs p.signals ++ outgoing_names p = take-add p.inputs (p.both + p.outputs) p.signals in
    omega (
      arith,
      room.interface,
      ap bytes_of parts,
      sum_by-append (λ (b : List ℕ). length b) (take p.inputs p.signals) (outgoing_names p),
    )
