-- Inner: the rules on names by what the code knows: sets of names, the first input and the last output.
use Rattle.std.proofs.Common.{◌≡◌, ℕ, ◌+◌, ◌<◌, Bool, true, false, not, ◌&&◌, ◌||◌, List, [], ◌∷◌, ◌++◌, length, map, take, get_or, refl, sym, ◌∙◌, ap}
use Rattle.std.proofs.Common.{Option, Some, None, Bor}
use Rattle.std.specs.Option.{option_or}
use Rattle.std.specs.Prelude.{find, filter, codes, if◌then◌else◌}
use Rattle.std.proofs.lemmas.List.{take_more, map-append, append-nil}
use Rattle.base_types.specs.Names.{is_same_name}
use Rattle.net_ir.specs.NameLists.{is_among, first_again}
use Rattle.net_ir.proofs.Exports.{find-same}
use Rattle.net_expressions.specs.NameTables.{again_from, name_told}
use Rattle.net_expressions.specs.Names.{or_else}
use Rattle.net_expressions.specs.Trees.{Expr}
use Rattle.net_expressions.proofs.Exports.{again-first}
use Rattle.vlog_text.specs.Trees.{Sort, Input, Output, Wire, Reg, Declaration, Source}
use Rattle.vlog_text.specs.Names.{is_input, is_output, is_reg, names_of, declared, is_first, is_last, has_sign, paused_name, is_ill_named, ill_named}
use Rattle.vlog_text.specs.Names.{declaration_found, portless, other_clock, Use, Kept, Assigned, Taken, uses, is_wrong, use_found, undeclared}
use Rattle.vlog_text.specs.Names.{targets, is_driven, undriven}
use Rattle.vlog_text.proofs.Exports.{names-append}
use Rattle.std.specs.HashSet.{contains_by}
use Rattle.vlog_read.specs.declared.drivers.Drivers.{Drivers}
use Rattle.vlog_read.specs.declared.uses.Known.{Known}
use Rattle.vlog_read.specs.NameTables.{AreKnown, wrong_in, AreDrivers, driven_in}
use Rattle.vlog_read.specs.NameTests.{lacks_port, last_name, first_of, last_of, is_told, ill_by, wrong_use, driven_by}

-- ---- the first input and the last output

pub first-is : (ds : List Declaration) (name : List ℕ) → is_first (names_of is_input ds) name ≡ is_told (first_of ds) name
first-is [] name = refl
first-is (d ∷ ds) name =
    elim (is_input d.sort) as (λ b. is_first (map (λ (e : Declaration). e.name)
    (if b then d ∷ filter (λ e. is_input e.sort) ds else filter (λ e. is_input e.sort) ds)) name
    ≡ is_told (if b then Some d.name else first_of ds) name) [ true ↦ refl | false ↦ first-is ds name ]

last-told : (names : List (List ℕ)) (name : List ℕ) → is_last names name ≡ is_told (last_name names) name
last-told [] name = refl
last-told (last ∷ []) name = refl
last-told (first ∷ next ∷ others) name = last-told (next ∷ others) name

last-append : (xs : List (List ℕ)) (x : List ℕ) → last_name (xs ++ x ∷ []) ≡ Some x
last-append [] x = refl
last-append (first ∷ []) x = refl
last-append (first ∷ next ∷ others) x = last-append (next ∷ others) x

-- one declaration more
last-with : (ds : List Declaration) (d : Declaration) → last_of (ds ++ d ∷ []) ≡ (if is_output d.sort then Some d.name else last_of ds)
last-with ds d =
    ap last_name (names-append is_output ds (d ∷ []))
    ∙ elim (is_output d.sort) as (λ b. last_name (names_of is_output ds ++ map (λ (e : Declaration). e.name) (if b then d ∷ [] else []))
    ≡ (if b then Some d.name else last_of ds))
    [ true ↦ last-append (names_of is_output ds) d.name | false ↦ ap last_name (append-nil (names_of is_output ds)) ]

pub last-more : {X : Type 0} (f : X → Declaration) (xs : List X) (i : ℕ) (x : X) → i < length xs → x ≡ get_or xs i x
    → last_of (map f (take (i + 1) xs)) ≡ (if is_output (f x).sort then Some (f x).name else last_of (map f (take i xs)))
last-more f xs i x low at =
    ap (λ l. last_of (map f l)) (take_more xs i x low ∙ ap (λ y. take i xs ++ y ∷ []) (sym at)) ∙ ap last_of (map-append f (take i xs) (x ∷ []))
    ∙ last-with (map f (take i xs)) (f x)

-- ---- the rules

ill-is : (all : List Declaration) (sort : Sort) (name : List ℕ) → ill_by (first_of all) (last_of all) sort name ≡ is_ill_named all sort name
ill-is all Input name = ap (λ b. not b && not (has_sign (codes "i_") name)) (sym (first-is all name))
ill-is all Output name =
    ap (λ b. not (has_sign (codes "o_") name) && not (b && is_same_name name paused_name)) (sym (last-told (names_of is_output all) name))
ill-is all Wire name = refl
ill-is all Reg name = refl

pub ill_named-is : (s : Source Expr)
    → declaration_found (find (λ d. ill_by (first_of s.declarations) (last_of s.declarations) d.sort d.name) s.declarations) ≡ ill_named s
ill_named-is s = ap declaration_found (find-same (λ (d : Declaration). ill_by (first_of s.declarations) (last_of s.declarations) d.sort d.name)
    (λ d. is_ill_named s.declarations d.sort d.name) s.declarations (λ d. ill-is s.declarations d.sort d.name))

pub portless-is : (s : Source Expr) (known : List ℕ → Bool) → ((n : List ℕ) → known n ≡ is_among n s.ports)
    → declaration_found (find (lacks_port known) s.declarations) ≡ portless s
portless-is s known same = ap declaration_found (find-same (lacks_port known) (λ (d : Declaration). (is_input d.sort || is_output d.sort)
    && not (is_among d.name s.ports)) s.declarations (λ d. ap (λ b. (is_input d.sort || is_output d.sort) && not b) (same d.name)))

pub other_clock-is : (s : Source Expr) → (if is_told (first_of s.declarations) s.clock then None else Some s.clock) ≡ other_clock s
other_clock-is s = ap (λ (b : Bool). if b then None else Some s.clock) (sym (first-is s.declarations s.clock))

wrong-is : (ds : List Declaration) (regs known : List ℕ → Bool) → ((n : List ℕ) → regs n ≡ is_among n (names_of is_reg ds))
    → ((n : List ℕ) → known n ≡ is_among n (declared ds)) → (place : Use) → wrong_use regs known (first_of ds) place ≡ is_wrong ds place
wrong-is ds regs known kept same (Kept name) = ap not (kept name)
wrong-is ds regs known kept same (Assigned name) = ap not (same name)
wrong-is ds regs known kept same (Taken name) =
    ap (λ b. not b || is_told (first_of ds) name) (same name) ∙ ap (λ b. not (is_among name (declared ds)) || b) (sym (first-is ds name))

pub wrong-found : (s : Source Expr) (regs known : List ℕ → Bool) → ((n : List ℕ) → regs n ≡ is_among n (names_of is_reg s.declarations))
    → ((n : List ℕ) → known n ≡ is_among n (declared s.declarations))
    → use_found (find (wrong_use regs known (first_of s.declarations)) (uses s)) ≡ undeclared s
wrong-found s regs known kept same =
    ap use_found (find-same (wrong_use regs known (first_of s.declarations)) (is_wrong s.declarations) (uses s) (wrong-is s.declarations regs known kept same))

pub wrong-known : (s : Source Expr) (known : Known) → AreKnown s.declarations known → use_found (find (wrong_in known) (uses s)) ≡ undeclared s
wrong-known s known are =
    let regs = λ (n : List ℕ). contains_by (λ (k : Bor (List ℕ)). is_same_name n k.now) known.regs in
    let all = λ (n : List ℕ). contains_by (λ (k : Bor (List ℕ)). is_same_name n k.now) known.declared in
    ap (λ c. use_found (find (wrong_use regs all c) (uses s))) are.clock ∙ wrong-found s regs all are.regs are.declared

driven-is : (s : Source Expr) (initials assigned nexts : List ℕ → Bool)
    → ((n : List ℕ) → initials n ≡ is_among n (map (λ i. i.name) s.initials)) → ((n : List ℕ) → assigned n ≡ is_among n (targets s.assigns))
    → ((n : List ℕ) → nexts n ≡ is_among n (map (λ x. x.target) s.nexts)) → (sort : Sort) (name : List ℕ)
    → driven_by initials assigned nexts sort name ≡ is_driven s sort name
driven-is s initials assigned nexts i a n Input name = refl
driven-is s initials assigned nexts i a n Output name = a name
driven-is s initials assigned nexts i a n Wire name = a name
driven-is s initials assigned nexts i a n Reg name = ap (λ b. b && nexts name) (i name) ∙ ap (λ b. is_among name (map (λ x. x.name) s.initials) && b) (n name)

pub undriven-is : (s : Source Expr) (initials assigned nexts : List ℕ → Bool)
    → ((n : List ℕ) → initials n ≡ is_among n (map (λ i. i.name) s.initials)) → ((n : List ℕ) → assigned n ≡ is_among n (targets s.assigns))
    → ((n : List ℕ) → nexts n ≡ is_among n (map (λ x. x.target) s.nexts))
    → declaration_found (find (λ d. not (driven_by initials assigned nexts d.sort d.name)) s.declarations) ≡ undriven s
undriven-is s initials assigned nexts i a n =
    ap declaration_found (find-same (λ (d : Declaration). not (driven_by initials assigned nexts d.sort d.name)) (λ d. not (is_driven s d.sort d.name))
    s.declarations (λ d. ap not (driven-is s initials assigned nexts i a n d.sort d.name)))

pub undriven-by : (s : Source Expr) (drivers : Drivers) → AreDrivers s drivers
    → declaration_found (find (λ d. not (driven_in drivers d.sort d.name)) s.declarations) ≡ undriven s
undriven-by s drivers are =
    undriven-is s (λ n. contains_by (λ k. is_same_name n k.now) drivers.initials) (λ n. contains_by (λ k. is_same_name n k.now) drivers.assigned)
    (λ n. contains_by (λ k. is_same_name n k.now) drivers.clocked) are.initials are.assigned are.clocked

-- ---- names that stand again

-- behind no names
pub again-none : (known : List ℕ → Bool) (names : List (List ℕ)) → ((n : List ℕ) → known n ≡ false) → again_from known names ≡ first_again [] names
again-none known names none = again-first known [] names none

-- the first of two faults that there is
pub first-found : (a b : Option (List ℕ)) (name : List ℕ) → a ≡ Some name → or_else a b ≡ Some name
first-found a b name is = ap (λ o. or_else o b) is

pub none-found : (a b : Option (List ℕ)) → a ≡ None → or_else a b ≡ b
none-found a b is = ap (λ o. or_else o b) is

-- the first of two names that code told
pub told-or : (a b : Option (Bor (List ℕ))) → name_told (option_or a b) ≡ or_else (name_told a) (name_told b)
told-or None b = refl
told-or (Some name) b = refl
