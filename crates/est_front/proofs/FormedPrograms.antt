-- The kernel program of a source keeps what a kernel program keeps, and its names can be written.
use Rattle.std.proofs.Common.{◌≡◌, ℕ, ◌<◌, List, [], length, get_or, Option, Some, None, subst}
use Rattle.std.specs.Prelude.{slice_get, option_and_then}
use Rattle.std.proofs.lemmas.List.Elements.{All-get_or}
use Rattle.std.proofs.lemmas.Option.{get_or_from_slice_get, slice_get_within}
use Rattle.std.proofs.lemmas.Result.{IfOk-at_ok}
use Rattle.est_kernel.specs.Plain.{Program}
use Rattle.est_kernel.specs.WellFormed.{IsWellFormed, HasNames}
use Rattle.est_ast.specs.Trees as source
use Rattle.est_ast.specs.FlatPrograms.{IsFlat, IsNamed}
use Rattle.est_ast.specs.FlatTrees.{Flat}
use Rattle.est_names.specs.NameFaults.{main_place, module_names, interface_faults}
use Rattle.est_names.proofs.Exports.{faultless-interface}
use Rattle.est_expand.specs.NamedModules.{IsNamedModule}
use Rattle.est_expand.proofs.Exports.{flattened-fits, flattened-named}
use Rattle.est_dismantle.proofs.Exports.{expansion-well_formed, expansion-names}
use Rattle.est_front.specs.Sources.{main_module, Flattens, Expands}
use Rattle.est_front.proofs.Named.{modules_named}

-- the main module stands among the modules
main_stands : (main : Option (List ℕ)) (tree : source.SourceProgram) (m : source.Module) → main_module main tree ≡ Some m →
    (place : ℕ) × (slice_get tree place ≡ Some m)
main_stands main tree m is = go (main_place main (module_names tree)) is
  where
    go : (found : Option ℕ) → option_and_then (λ place. slice_get tree place) found ≡ Some m → (place : ℕ) × (slice_get tree place ≡ Some m)
    go None is = absurd (cc)
    go (Some place) is = (place, is)

-- so what holds of each module holds of it
of_main : (P : source.Module → Type 0) (main : Option (List ℕ)) (tree : source.SourceProgram) (m : source.Module) → main_module main tree ≡ Some m
    → ((k : ℕ) (d : source.Module) → k < length tree → P (get_or tree k d)) → P m
of_main P main tree m is each =
    let stands = main_stands main tree m is in
    subst P (get_or_from_slice_get tree stands.0 m m stands.1) (each stands.0 m (slice_get_within tree stands.0 m stands.1))

-- where the main module's names have no fault, the flat program keeps what one keeps, and its names can be written
pub flattens-flat : (text : List ℕ) (main : Option (List ℕ)) (flat : Flat) → Flattens text main flat → IsFlat flat
flattens-flat text main flat f =
    let m = f.main_one in
    let tree = f.tree in
    let faultless : interface_faults m.decls ≡ [] = of_main (λ m. interface_faults m.decls ≡ []) main tree m f.is_main
    (λ k d low. faultless-interface main tree k d f.declares.names low) in
    IfOk-at_ok IsFlat f.flat_form (flattened-fits m tree faultless)

pub flattens-named : (text : List ℕ) (main : Option (List ℕ)) (flat : Flat) → Flattens text main flat → IsNamed flat
flattens-named text main flat f =
    let m = f.main_one in
    let tree = f.tree in
    let written : IsNamedModule m = of_main IsNamedModule main tree m f.is_main
    (λ k d low. All-get_or IsNamedModule tree k d low (modules_named text tree f.declares.reads)) in
    IfOk-at_ok IsNamed f.flat_form (flattened-named m tree written)

pub expands-well_formed : (text : List ℕ) (main : Option (List ℕ)) (p : Program) → Expands text main p → IsWellFormed p
expands-well_formed text main p e = expansion-well_formed e.flat p (flattens-flat text main e.flat e.flattens) e.expands

pub expands-names : (text : List ℕ) (main : Option (List ℕ)) (p : Program) → Expands text main p → HasNames p
expands-names text main p e = expansion-names e.flat p (flattens-flat text main e.flat e.flattens) (flattens-named text main e.flat e.flattens) e.expands
