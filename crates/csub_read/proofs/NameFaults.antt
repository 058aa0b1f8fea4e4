-- Inner: the first fault of a program's names, by its three parts.
use Rattle.std.proofs.Common.{◌≡◌, ℕ, Bool, not, ◌||◌, ◌&&◌, List, ◌∷◌, Option, Some, None, Result, Ok, Err, sym, ap, ◌∙◌}
use Rattle.std.specs.Prelude.{find, filter}
use Rattle.base_types.specs.declared.stop.Stop.{Stop}
use Rattle.base_types.specs.declared.stop.Stop.TheVariants.{Fault, NoMemory}
use Rattle.base_types.specs.Stops.{FaultIs, IfFault}
use Rattle.csub_text.specs.Grammar.{begins_input}
use Rattle.csub_text.specs.Trees.{Expr, Assign, Program}
use Rattle.net_ir.specs.NameLists.{is_among}
use Rattle.csub_text.specs.Names.{Use, Assigned, Taken, Twice, Undeclared, Unset, declared, declared_twice, uses, undeclared, unset, is_wrong}
use Rattle.csub_text.specs.Names.{names_in, unset_from, name_found, fault_by, name_fault}
use Rattle.csub_read.specs.declared.refusal.CFault.{CFault}
use Rattle.csub_read.specs.declared.refusal.CFault.TheVariants as faults
use Rattle.csub_read.proofs.UnsetLocals.{unset-found}
use Rattle.csub_read.specs.NameTests.{wrong_use, NamesFault, UseFault, UnsetFault}

-- a test by what is known is one by the declared names
pub wrong-same : (known : List ℕ → Bool) (names : List (List ℕ)) → ((name : List ℕ) → known name ≡ is_among name names) → (u : Use) → wrong_use known u
    ≡ is_wrong names u
wrong-same known names same (Assigned name) = ap (λ b. begins_input name || not b) (same name)
wrong-same known names same (Taken name) = ap not (same name)

-- a local that an assignment reads too early
pub unset-set : (known old : List ℕ → Bool) (locals : List (List ℕ)) (a : Assign) (body : List Assign) (answer : Expr)
    → ((n : List ℕ) → known n ≡ is_among n locals)
    → (all : Option (List ℕ)) → all ≡ unset_from (filter (λ n. not (old n)) locals) (a ∷ body) answer → (stop : Stop CFault)
    → FaultIs (UnsetFault (find (λ n. known n && not (old n)) (names_in a.value))) stop → FaultIs (UnsetFault all) stop
unset-set known old locals a body answer same all left (Fault (faults.Unset name)) is = left ∙ unset-found known old locals a body answer name same is
unset-set known old locals a body answer same all left (Fault _) is = absurd is
unset-set known old locals a body answer same all left NoMemory is = tt

-- no name stands twice
first-once : (p : Program) → declared_twice p ≡ None → name_fault p ≡ fault_by Undeclared (undeclared p) (fault_by Unset (unset p) None)
first-once p once = ap (λ o. fault_by Twice o (fault_by Undeclared (undeclared p) (fault_by Unset (unset p) None))) once

first-known : (p : Program) → declared_twice p ≡ None → undeclared p ≡ None → name_fault p ≡ fault_by Unset (unset p) None
first-known p once known = first-once p once ∙ ap (λ o. fault_by Undeclared o (fault_by Unset (unset p) None)) known

pub uses-fault : (p : Program) (wrong : Use → Bool) (us : List Use) → declared_twice p ≡ None → find wrong us ≡ find (is_wrong (declared p)) (uses p)
    → (stop : Stop CFault) → FaultIs (UseFault wrong us) stop → FaultIs (NamesFault p) stop
uses-fault p wrong us once same (Fault (faults.Undeclared name)) is =
    first-once p once ∙ ap (λ o. fault_by Undeclared o (fault_by Unset (unset p) None)) (ap name_found (sym same ∙ is.1) ∙ ap Some is.2)
uses-fault p wrong us once same (Fault _) is = absurd is
uses-fault p wrong us once same NoMemory is = tt

pub reads-fault : {T : Type 0} (p : Program) → declared_twice p ≡ None → undeclared p ≡ None → (r : Result T (Stop CFault))
    → IfFault r (UnsetFault (unset p)) → IfFault r (NamesFault p)
reads-fault p once known (Ok x) is = tt
reads-fault p once known (Err (Fault (faults.Unset name))) is = first-known p once known ∙ ap (λ o. fault_by Unset o None) is
reads-fault p once known (Err (Fault _)) is = absurd is
reads-fault p once known (Err NoMemory) is = tt

pub names-fit : (p : Program) → declared_twice p ≡ None → undeclared p ≡ None → unset p ≡ None → name_fault p ≡ None
names-fit p once known set = first-known p once known ∙ ap (λ o. fault_by Unset o None) set
