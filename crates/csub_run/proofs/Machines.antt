-- Inner: the values of slots are the memory of the machine.
use Rattle.std.proofs.Common.{◌≡◌, ℕ, ◌+◌, ◌<◌, zero, suc, Bool, true, false, not, cond, ◌||◌, List, [], ◌∷◌, ◌++◌, length, map, take, get_or, refl, sym}
use Rattle.std.proofs.Common.{ap, ◌∙◌, arith, subst, Option, Some, None}
use Rattle.std.proofs.Math.ListN.{set}
use Rattle.std.specs.Prelude.{slice_set, find, filter, flat_map, if◌then◌else◌}
use Rattle.std.specs.List.{AllByRecursion}
use Rattle.csub_text.specs.Grammar.{begins_input, begins_output}
use Rattle.std.proofs.lemmas.Bool.{or_parts, not-false}
use Rattle.std.proofs.lemmas.List.{length-map, length-append, get_or-set_same, get_or-set_other, length-set}
use Rattle.std.proofs.Math.Seq.{take-set-lt}
use lib.Pointwise.{bytes_decides}
use Rattle.base_types.specs.Names.{is_same_name}
use Rattle.csub_text.specs.Trees.{Expr, StateVariable, Assign, Program}
use Rattle.csub_text.specs.NameLists.{is_among, first_again}
use Rattle.csub_text.specs.Names.{names_in, declared, inputs_of, outputs_of, Use, Assigned, Taken, uses_in, uses, is_wrong, name_found, undeclared}
use Rattle.csub_text.specs.Names.{declared_twice, unset, fault_by, NameFault, Twice, Undeclared, Unset}
use Rattle.csub_text.specs.Machine.{Memory, with_value, value_of, run_body, with_inputs, first_memory, call}
use Rattle.std.proofs.Common.{All}
use Rattle.std.proofs.lemmas.List.Elements.{All-from_recursion}
use Rattle.base_facts.proofs.Lists.{find-both-none, find-first-none}
use Rattle.csub_text.specs.declared.trees.CProgram.{CProgram}
use Rattle.csub_text.specs.Views.{program_of}
use Rattle.run_steps.specs.Slots.{slot_in, value_at, memory_in}
use Rattle.run_steps.specs.declared.term.Term.{Term}
use Rattle.run_steps.specs.Plans.{Planned, made, term_value}
use Rattle.run_steps.specs.Steps.{settled}
use Rattle.run_steps.proofs.Exports.{value-local, length-settled, taken-front, through}
use Rattle.csub_run.specs.declared.runner.CRunner.TheInside.{Inside}
use Rattle.csub_run.specs.Insides.{KeepsPlan}
use Rattle.csub_run.specs.Plans.{IsBody, IsPlan, assign_step, first_values, put_all}
use Rattle.csub_run.specs.Runners.{KeepsNames, Reacts, IsFresh}
use Rattle.net_ir.proofs.Exports.{found-low, place-among, found-at}

-- memories that agree on all names
abbrev pub Agree : Memory → Memory → Type 0
Agree m n = (name : List ℕ) → m name ≡ n name

-- ---- memories that agree do the same

pub value-agree : (m n : Memory) → Agree m n → (e : Expr) → value_of m e ≡ value_of n e
value-agree m n same e = value-local m n e (λ x has. same x)

pub with-agree : (m n : Memory) → Agree m n → (x : List ℕ) (v w : Bool) → v ≡ w → Agree (with_value x v m) (with_value x w n)
with-agree m n same x v w is name = ap (λ u. if is_same_name name x then u else m name) is ∙ ap (λ u. if is_same_name name x then w else u) (same name)

pub run-agree : (body : List Assign) (m n : Memory) → Agree m n → Agree (run_body body m) (run_body body n)
run-agree [] m n same = same
run-agree (a ∷ body) m n same =
    run-agree body (with_value a.target (value_of m a.value) m) (with_value a.target (value_of n a.value) n)
    (with-agree m n same a.target (value_of m a.value) (value_of n a.value) (value-agree m n same a.value))

pub inputs-agree : (names : List (List ℕ)) (values : List Bool) (m n : Memory) → Agree m n → Agree (with_inputs names values m) (with_inputs names values n)
inputs-agree [] values m n same = same
inputs-agree (name ∷ names) [] m n same = same
inputs-agree (name ∷ names) (value ∷ values) m n same =
    inputs-agree names values (with_value name value m) (with_value name value n) (with-agree m n same name value value refl)

pub call-agree : (p : Program) (inputs : List Bool) (m n : Memory) → Agree m n → Agree (call p inputs m) (call p inputs n)
call-agree p inputs m n same =
    run-agree p.body (with_inputs (inputs_of p) inputs m) (with_inputs (inputs_of p) inputs n) (inputs-agree (inputs_of p) inputs m n same)

pub map-agree : (m n : Memory) → Agree m n → (names : List (List ℕ)) → map m names ≡ map n names
map-agree m n same [] = refl
map-agree m n same (x ∷ xs) = ap (λ b. b ∷ map m xs) (same x) ∙ ap (λ l. n x ∷ l) (map-agree m n same xs)

-- ---- the values of slots are a memory

-- the place of a name that has one is that of no other name
slot-own : (xs : List (List ℕ)) (x y : List ℕ) → slot_in xs x < length xs → slot_in xs y ≡ slot_in xs x → is_same_name y x ≡ true
slot-own xs x y low same =
    let at = found-at x xs (place-among x xs low) in
    let other = found-at y xs (place-among y xs (omega (arith, low, same))) in
    ap (is_same_name y) (sym at ∙ ap (λ k. get_or xs k []) (sym same) ∙ other) ∙ (bytes_decides y y).1 refl

-- a slot that gets a value is a variable that does
pub set-slot : (names : List (List ℕ)) (values : List Bool) → length values ≡ length names → (x : List ℕ) → is_among x names ≡ true → (v : Bool) →
    Agree (memory_in names (slice_set values (slot_in names x) v)) (with_value x v (memory_in names values))
set-slot names values wide x among v name =
    let low = found-low x names among in
    let k = slot_in names x in
    elim (is_same_name name x) as (λ b. is_same_name name x ≡ b → value_at (slice_set values k v) (slot_in names name) ≡
    (if b then v else value_at values (slot_in names name))) [
      | true ↦ λ e. ap (λ n. value_at (slice_set values k v) (slot_in names n)) ((bytes_decides name x).0 e)
          ∙ get_or-set_same values k v false (omega (arith, low, wide))
      | false ↦ λ e. get_or-set_other values k (slot_in names name) v false (λ same. let own = sym (slot-own names x name low same) ∙ e in cc)
    ] refl

abbrev pub AllAmong : List (List ℕ) → List (List ℕ) → Type 0
AllAmong names [] = Unit {0}
AllAmong names (x ∷ xs) = (is_among x names ≡ true) × AllAmong names xs

pub wide-put : (slots : List ℕ) (given values : List Bool) → length (put_all slots given values) ≡ length values
wide-put [] given values = refl
wide-put (slot ∷ slots) [] values = refl
wide-put (slot ∷ slots) (v ∷ given) values = wide-put slots given (slice_set values slot v) ∙ length-set values slot v

pub put-inputs : (names xs : List (List ℕ)) (given values : List Bool) → length values ≡ length names → AllAmong names xs →
    Agree (memory_in names (put_all (map (slot_in names) xs) given values)) (with_inputs xs given (memory_in names values))
put-inputs names [] given values wide all name = refl
put-inputs names (x ∷ xs) [] values wide all name = refl
put-inputs names (x ∷ xs) (v ∷ given) values wide all name =
    put-inputs names xs given (slice_set values (slot_in names x) v) (length-set values (slot_in names x) v ∙ wide) all.1 name
    ∙ inputs-agree xs given (memory_in names (slice_set values (slot_in names x) v)) (with_value x v (memory_in names values))
    (set-slot names values wide x all.0 v) name

abbrev pub Targets : List (List ℕ) → List Assign → Type 0
Targets names [] = Unit {0}
Targets names (a ∷ body) = (is_among a.target names ≡ true) × Targets names body

pub settled-body : (names : List (List ℕ)) (body : List Assign) (values : List Bool) → length values ≡ length names → Targets names body →
    Agree (memory_in names (settled (map (assign_step names) body) values)) (run_body body (memory_in names values))
settled-body names [] values wide all name = refl
settled-body names (a ∷ body) values wide all name =
    let m = memory_in names values in
    let v = value_of m a.value in
    let next = slice_set values (slot_in names a.target) v in
    settled-body names body next (length-set values (slot_in names a.target) v ∙ wide) all.1 name
    ∙ run-agree body (memory_in names next) (with_value a.target v m) (set-slot names values wide a.target all.0 v) name

-- ---- what the rules on names say

-- the globals are declared
pub among-front : (x : List ℕ) (xs ys : List (List ℕ)) → is_among x xs ≡ true → is_among x (xs ++ ys) ≡ true
among-front x [] ys among = cc
among-front x (z ∷ xs) ys among =
    elim (is_same_name x z) as (λ b. (b || is_among x xs) ≡ true → (b || is_among x (xs ++ ys)) ≡ true)
    [ true ↦ λ e. refl | false ↦ λ e. among-front x xs ys e ] among

pub among-back : (x : List ℕ) (xs ys : List (List ℕ)) → is_among x ys ≡ true → is_among x (xs ++ ys) ≡ true
among-back x [] ys among = among
among-back x (z ∷ xs) ys among =
    elim (is_same_name x z) as (λ b. (b || is_among x (xs ++ ys)) ≡ true)
    [ true ↦ refl | false ↦ among-back x xs ys among ]

filter-among : (p : List ℕ → Bool) (xs names : List (List ℕ)) → AllAmong names xs → AllAmong names (filter p xs)
filter-among p [] names all = tt
filter-among p (x ∷ xs) names all =
    elim (p x) as (λ b. AllAmong names (if b then x ∷ filter p xs else filter p xs))
    [ true ↦ (all.0, filter-among p xs names all.1) | false ↦ filter-among p xs names all.1 ]

among-more : (names : List (List ℕ)) (y : List ℕ) (xs : List (List ℕ)) → AllAmong names xs → AllAmong (y ∷ names) xs
among-more names y [] all = tt
among-more names y (x ∷ xs) all = (among-back x (y ∷ []) names all.0, among-more names y xs all.1)

among-self : (xs : List (List ℕ)) → AllAmong xs xs
among-self [] = tt
among-self (x ∷ xs) = (rw ((bytes_decides x x).1 refl) refl, among-more xs x xs (among-self xs))

among-widen : (before xs after : List (List ℕ)) (ys : List (List ℕ)) → AllAmong xs ys → AllAmong ((before ++ xs) ++ after) ys
among-widen before xs after [] all = tt
among-widen before xs after (y ∷ ys) all = (among-front y (before ++ xs) after (among-back y before xs all.0), among-widen before xs after ys all.1)

pub inputs-among : (p : Program) → AllAmong (declared p) (inputs_of p)
inputs-among p = filter-among begins_input p.globals (declared p) (among-widen (map (λ s. s.name) p.states) p.globals p.locals p.globals (among-self p.globals))

pub outputs-among : (p : Program) → AllAmong (declared p) (outputs_of p)
outputs-among p =
    filter-among begins_output p.globals (declared p) (among-widen (map (λ s. s.name) p.states) p.globals p.locals p.globals (among-self p.globals))

-- where no use is wrong, each target is declared
targets-among : (names : List (List ℕ)) (body : List Assign) → find (is_wrong names) (flat_map uses_in body) ≡ None → Targets names body
targets-among names [] none = tt
targets-among names (a ∷ body) none =
    let first = find-first-none (is_wrong names) (Assigned a.target) (map Taken (names_in a.value) ++ flat_map uses_in body) none in
    let known = not-false (is_among a.target names) (or_parts (begins_input a.target) (not (is_among a.target names)) first.0).1 in
    (known, targets-among names body (find-both-none (is_wrong names) (map Taken (names_in a.value)) (flat_map uses_in body) first.1).1)

fault-none : (fault : List ℕ → NameFault) (found : Option (List ℕ)) (later : Option NameFault) → fault_by fault found later ≡ None →
    (found ≡ None) × (later ≡ None)
fault-none fault None later is = (refl, is)
fault-none fault (Some name) later is = cc

found-none : (found : Option Use) → name_found found ≡ None → found ≡ None
found-none None is = refl
found-none (Some u) is = cc

pub names-once : (p : Program) → KeepsNames p → first_again [] (declared p) ≡ None
names-once p fits = (fault-none Twice (declared_twice p) (fault_by Undeclared (undeclared p) (fault_by Unset (unset p) None)) fits).0

pub targets-declared : (p : Program) → KeepsNames p → Targets (declared p) p.body
targets-declared p fits =
    let later = (fault-none Twice (declared_twice p) (fault_by Undeclared (undeclared p) (fault_by Unset (unset p) None)) fits).1 in
    let none = (fault-none Undeclared (undeclared p) (fault_by Unset (unset p) None) later).0 in
    targets-among (declared p) p.body (find-both-none (is_wrong (declared p)) (flat_map uses_in p.body) (map Taken (names_in p.answer))
    (found-none (find (is_wrong (declared p)) (uses p)) none)).0

-- ---- slots are in range

pub slots-below : (names xs : List (List ℕ)) → AllAmong names xs → AllByRecursion (λ k. k < length names) (map (slot_in names) xs)
slots-below names [] all = tt
slots-below names (x ∷ xs) all = (found-low x names all.0, slots-below names xs all.1)

pub targets-below : (names : List (List ℕ)) (body : List Assign) → Targets names body → AllByRecursion (λ a. slot_in names a.target < length names) body
targets-below names [] all = tt
targets-below names (a ∷ body) all = (found-low a.target names all.0, targets-below names body all.1)

-- ---- one call

-- the values behind a call with these inputs
abbrev pub called : Program → List Bool → List Bool → List Bool
called p inputs values = settled (map (assign_step (declared p)) p.body) (put_all (map (slot_in (declared p)) (inputs_of p)) inputs values)

pub wide-called : (p : Program) (inputs values : List Bool) → length (called p inputs values) ≡ length values
wide-called p inputs values =
    length-settled (map (assign_step (declared p)) p.body) (put_all (map (slot_in (declared p)) (inputs_of p)) inputs values)
    ∙ wide-put (map (slot_in (declared p)) (inputs_of p)) inputs values

pub called-memory : (p : Program) → KeepsNames p → (inputs values : List Bool) → length values ≡ length (declared p) →
    Agree (memory_in (declared p) (called p inputs values)) (call p inputs (memory_in (declared p) values))
called-memory p fits inputs values wide name =
    let names = declared p in
    let slots = map (slot_in names) (inputs_of p) in
    let begun = put_all slots inputs values in
    settled-body names p.body begun (wide-put slots inputs values ∙ wide) (targets-declared p fits) name
    ∙ run-agree p.body (memory_in names begun) (with_inputs (inputs_of p) inputs (memory_in names values))
    (put-inputs names (inputs_of p) inputs values wide (inputs-among p)) name

-- ---- the first values

false-at : {X Y : Type 0} (xs : List X) (ys : List Y) (k : ℕ) → value_at (map (λ _. false) xs ++ map (λ _. false) ys) k ≡ false
false-at [] [] k = refl
false-at [] (y ∷ ys) zero = refl
false-at {X = X} {Y = Y} [] (y ∷ ys) (suc k) = false-at {X = X} {Y = Y} [] ys k
false-at (x ∷ xs) ys zero = refl
false-at (x ∷ xs) ys (suc k) = false-at xs ys k

states-first : (states : List StateVariable) (globals locals : List (List ℕ)) →
    Agree (memory_in ((map (λ s. s.name) states ++ globals) ++ locals) ((map (λ s. s.init) states ++ map (λ _. false) globals) ++ map (λ _. false) locals))
    (first_memory states)
states-first [] globals locals name = false-at globals locals (slot_in (globals ++ locals) name)
states-first (s ∷ states) globals locals name =
    let names = (map (λ s. s.name) states ++ globals) ++ locals in
    let values = (map (λ s. s.init) states ++ map (λ _. false) globals) ++ map (λ _. false) locals in
    elim (is_same_name name s.name) as (λ b. value_at (s.init ∷ values) (cond (not b) (1 + slot_in names name) 0) ≡
    (if b then s.init else first_memory states name)) [
      | true ↦ refl
      | false ↦ ap (value_at (s.init ∷ values)) (let e : 1 + slot_in names name ≡ suc (slot_in names name) = omega arith in e)
          ∙ states-first states globals locals name
    ]

pub first-fresh : (p : Program) → Agree (memory_in (declared p) (first_values p)) (first_memory p.states)
first-fresh p = states-first p.states p.globals p.locals

pub wide-first : (p : Program) → length (first_values p) ≡ length (declared p)
wide-first p =
    let a = length-append (map (λ s. s.init) p.states ++ map (λ _. false) p.globals) (map (λ _. false) p.locals) in
    let b = length-append (map (λ s. s.init) p.states) (map (λ _. false) p.globals) in
    let c = length-append (map (λ s. s.name) p.states ++ p.globals) p.locals in
    let d = length-append (map (λ s. s.name) p.states) p.globals in
    let e = length-map p.states (λ s. s.init) in
    let f = length-map p.states (λ s. s.name) in
    let g = length-map {B = Bool} p.globals (λ _. false) in
    let h = length-map {B = Bool} p.locals (λ _. false) in
    omega (arith, a, b, c, d, e, f, g, h)

-- ---- a machine and its fields

pub inputs-low : (p : Program) → All (λ k. k < length (declared p)) (map (slot_in (declared p)) (inputs_of p))
inputs-low p = All-from_recursion (λ k. k < length (declared p)) (map (slot_in (declared p)) (inputs_of p))
    (slots-below (declared p) (inputs_of p) (inputs-among p))

pub outputs-low : (p : Program) → All (λ k. k < length (declared p)) (map (slot_in (declared p)) (outputs_of p))
outputs-low p = All-from_recursion (λ k. k < length (declared p)) (map (slot_in (declared p)) (outputs_of p))
    (slots-below (declared p) (outputs_of p) (outputs-among p))

pub targets-low : (p : Program) → KeepsNames p → All (λ a. slot_in (declared p) a.target < length (declared p)) p.body
targets-low p fits = All-from_recursion (λ a. slot_in (declared p) a.target < length (declared p)) p.body
    (targets-below (declared p) p.body (targets-declared p fits))

-- values given to the slots of names, among all
pub take-put : (n : ℕ) (slots : List ℕ) (given values : List Bool) → AllByRecursion (λ k. k < n) slots
    → take n (put_all slots given values) ≡ put_all slots given (take n values)
take-put n [] given values all = refl
take-put n (slot ∷ slots) [] values all = refl
take-put n (slot ∷ slots) (v ∷ given) values all =
    take-put n slots given (slice_set values slot v) all.1 ∙ ap (put_all slots given) (take-set-lt n values slot v all.0)

-- the outputs, by the values of the variables
pub shown-front : (p : Program) (slots : List ℕ) (values : List Bool) → slots ≡ map (slot_in (declared p)) (outputs_of p)
    → map (value_at values) slots ≡ map (memory_in (declared p) (take (length (declared p)) values)) (outputs_of p)
shown-front p slots values is =
    ap (map (value_at values)) is
    ∙ taken-front (length (declared p)) (map (slot_in (declared p)) (outputs_of p)) values (slots-below (declared p) (outputs_of p) (outputs-among p))
    ∙ through (declared p) (take (length (declared p)) values) (outputs_of p)

-- the variables behind a call
pub called-front : (p : Program) (slots : List ℕ) (inputs values begun after : List Bool) → slots ≡ map (slot_in (declared p)) (inputs_of p)
    → begun ≡ put_all slots inputs values
    → take (length (declared p)) after ≡ settled (map (assign_step (declared p)) p.body) (take (length (declared p)) begun)
    → take (length (declared p)) after ≡ called p inputs (take (length (declared p)) values)
called-front p slots inputs values begun after are begins makes =
    makes
    ∙ ap (settled (map (assign_step (declared p)) p.body)) (ap (take (length (declared p))) (begins ∙ ap (λ l. put_all l inputs values) are)
    ∙ take-put (length (declared p)) (map (slot_in (declared p)) (inputs_of p)) inputs values (slots-below (declared p) (inputs_of p) (inputs-among p)))

-- the plan of the body, run on all slots
pub body-made : (p : Program) (body : Planned) (answer : Term) (begun after : List Bool) → IsBody p body answer → length begun ≡ body.slots
    → after ≡ made body.lookups begun
    → take (length (declared p)) after ≡ settled (map (assign_step (declared p)) p.body) (take (length (declared p)) begun)
body-made p body answer begun after is wide runs =
    let steps = map (assign_step (declared p)) p.body in
    ap (take (length (declared p))) runs
    ∙ subst (λ n. take n (made body.lookups begun) ≡ settled steps (take n begun)) is.named_is (is.makes.made_is begun (omega (arith, wide)))

pub body-says : (p : Program) (body : Planned) (answer : Term) (begun after : List Bool) → IsBody p body answer → length begun ≡ body.slots
    → after ≡ made body.lookups begun → term_value answer after ≡ value_of (memory_in (declared p) (take (length (declared p)) after)) p.answer
body-says p body answer begun after is wide runs =
    ap (term_value answer) runs
    ∙ subst (λ n. term_value answer (made body.lookups begun) ≡ value_of (memory_in (declared p) (take n (made body.lookups begun))) p.answer) is.named_is
    (is.says.says begun (omega (arith, wide)))
    ∙ ap (λ v. value_of (memory_in (declared p) (take (length (declared p)) v)) p.answer) (sym runs)

pub reacts-by : (code : CProgram) → KeepsNames (program_of code) → (values inputs after : List Bool) (answer : Bool) →
    length values ≡ length (declared (program_of code))
    → after ≡ called (program_of code) inputs values → answer ≡ value_of (memory_in (declared (program_of code)) after) (program_of code).answer
    → Reacts (record { code = code; values = values }) inputs answer (record { code = code; values = after })
reacts-by code fits values inputs after answer wide is returned =
    let p = program_of code in
    record {
      same = refl;
      memory = λ name. ap (λ v. memory_in (declared p) v name) is ∙ called-memory p fits inputs values wide name;
      returned = returned;
    }

pub fresh-by : (code : CProgram) (values : List Bool) → values ≡ first_values (program_of code) → IsFresh (record { code = code; values = values })
fresh-by code values is name = ap (λ v. memory_in (declared (program_of code)) v name) is ∙ first-fresh (program_of code) name

pub keeps-by : (inside : Inside) → KeepsNames (program_of inside.program) → IsPlan (program_of inside.program) inside.plan
    → length inside.values.items ≡ inside.plan.body.slots →
    inside.outputs.items ≡ map (value_at inside.values.items) inside.plan.outputs.items
    → KeepsPlan inside
keeps-by inside fits plan wide shown = record {
  names_fit = fits;
  plan = plan;
  each_slot = wide;
  shown = shown ∙ shown-front (program_of inside.program) inside.plan.outputs.items inside.values.items plan.outputs_are;
}
