-- A module that some text describes: its names are driven once, each name that is read is driven, and so is each output.
use Rattle.std.proofs.Common.{◌≡◌, ℕ, Bool, true, false, not, ◌&&◌, ◌||◌, List, [], ◌∷◌, ◌++◌, length, map, take, drop}
use Rattle.std.proofs.Common.{refl, sym, ap, ◌∙◌, subst, arith, cond, Contains, Option, Some, None, ⊎_elim}
use Rattle.std.specs.Prelude.{find, flat_map, codes, nat_lt}
use Rattle.std.specs.List.{AllByRecursion}
use Rattle.std.specs.Cmp.Lexicographic.{nat_list_eq_equiv}
use Rattle.std.proofs.lemmas.Bool.{and_from, and_parts, both_ways, false_from_ne_true, not-false, not-true, not_from_false, or_from, or_left}
use Rattle.std.proofs.lemmas.Bool.{or_parts, or_right}
use Rattle.std.proofs.lemmas.List.Elements.{Contains-append_left, Contains-append_right}
use Rattle.std.proofs.lemmas.List.Folds.{list_any-append}
use Rattle.base_facts.proofs.Lists.{contains-later, find-both-none, find-first-none}
use Rattle.base_types.specs.Distinct.{all_differ}
use Rattle.base_types.specs.Names.{is_same_name}
use Rattle.base_types.proofs.Exports.{same_name-is, same_name-self}
use Rattle.net_ir.specs.NameLists.{is_among, first_again}
use Rattle.run_steps.proofs.Exports.{first-or_later, each-element, of-element, among-element, element-among, differ-both, differ-behind, in-parts, once-of}
use Rattle.net_expressions.specs.Names.{names_in, or_else}
use Rattle.net_expressions.specs.Trees.{Expr}
use Rattle.vlog_text.specs.Grammar.{source_meant}
use Rattle.vlog_text.specs.Machine.{given_inputs, driven_names}
use Rattle.vlog_text.specs.Names.{is_input, is_output, is_reg, names_of, declared, declared_twice, interface_names, misplaced, declaration_found}
use Rattle.vlog_text.specs.Names.{portless, is_first, has_sign, is_ill_named, ill_named, is_clock, other_clock, wrong_port, Use, Kept, Assigned, Taken}
use Rattle.vlog_text.specs.Names.{assign_uses, next_uses, uses, is_wrong, use_found, undeclared, targets, driven_twice, is_driven, undriven, NameFault}
use Rattle.vlog_text.specs.Names.{Twice, Port, Undeclared, TwoDrivers, NoDriver, fault_by, name_fault}
use Rattle.vlog_text.specs.Texts.{next_source, register_said, module_said, Describes}
use Rattle.vlog_text.specs.Trees.{Sort, Input, Output, Wire, Reg, Declaration, Assign, Next, Source, Register, VerilogModule}
use Rattle.vlog_run.specs.Loops.{IsDescribed}
use Rattle.vlog_run.specs.ModuleAnswers.{bare_inputs}

-- ---- where nothing is found

or_else-none : (a b : Option (List ℕ)) → or_else a b ≡ None → (a ≡ None) × (b ≡ None)
or_else-none None b e = (refl, e)
or_else-none (Some x) b e = cc

fault-none : (fault : List ℕ → NameFault) (found : Option (List ℕ)) (contains-later : Option NameFault) → fault_by fault found contains-later ≡ None
    → (found ≡ None) × (contains-later ≡ None)
fault-none fault None contains-later e = (refl, e)
fault-none fault (Some name) contains-later e = cc

declaration-none : (found : Option Declaration) → declaration_found found ≡ None → found ≡ None
declaration-none None e = refl
declaration-none (Some d) e = cc

use-none : (found : Option Use) → use_found found ≡ None → found ≡ None
use-none None e = refl
use-none (Some u) e = cc

none-passes : {X : Type 0} (p : X → Bool) (xs : List X) → find p xs ≡ None → AllByRecursion (λ x. p x ≡ false) xs
none-passes p [] e = tt
none-passes p (x ∷ xs) e = let parts = find-first-none p x xs e in (parts.0, none-passes p xs parts.1)

-- ---- declared names of some sorts

-- a declaration of a sort that the test takes, which has this name
record IsNamed (test : Sort → Bool) (ds : List Declaration) (x : List ℕ) : Type 0 where
  declaration : Declaration
  stands : Contains ds declaration
  passes : test declaration.sort ≡ true
  is : declaration.name ≡ x

more-named : (test : Sort → Bool) (d : Declaration) (ds : List Declaration) (x : List ℕ) → IsNamed test ds x → IsNamed test (d ∷ ds) x
more-named test d ds x n = record { declaration = n.declaration; stands = contains-later d n.declaration ds n.stands; passes = n.passes; is = n.is }

named-from : (test : Sort → Bool) (ds : List Declaration) (x : List ℕ) → Contains (names_of test ds) x → IsNamed test ds x
named-from test [] x has = absurd (omega (arith, has.1))
named-from test (d ∷ ds) x has = go (named-from test ds x) (test d.sort) refl
  where
    go : (Contains (names_of test ds) x → IsNamed test ds x) → (b : Bool) → test d.sort ≡ b → IsNamed test (d ∷ ds) x
    go rest true s =
        let own : Contains (d.name ∷ names_of test ds) x = rw s at has in
        ⊎_elim (λ is. record { declaration = d; stands = (0, omega arith, refl); passes = s; is = is }) (λ there. more-named test d ds x (rest there))
        (first-or_later d.name x (names_of test ds) own)
    go rest false s = let own : Contains (names_of test ds) x = rw s at has in more-named test d ds x (rest own)

named-at : (test : Sort → Bool) (ds : List Declaration) (d : Declaration) → Contains ds d → test d.sort ≡ true → Contains (names_of test ds) d.name
named-at test [] d has passes = absurd (omega (arith, has.1))
named-at test (e ∷ ds) d has passes = ⊎_elim here (λ later_one. go (named-at test ds d later_one passes) (test e.sort) refl) (first-or_later e d ds has)
  where
    here : e ≡ d → Contains (names_of test (e ∷ ds)) d.name
    here is = let own : test e.sort ≡ true = ap (λ (y : Declaration). test y.sort) is ∙ passes in
        rw own (0, omega arith, ap (λ (y : Declaration). y.name) is)

    go : Contains (names_of test ds) d.name → (b : Bool) → test e.sort ≡ b → Contains (names_of test (e ∷ ds)) d.name
    go rest true s = rw s (contains-later e.name d.name (names_of test ds) rest)
    go rest false s = rw s rest

-- a name that is declared, with its declaration
record IsDeclared (ds : List Declaration) (x : List ℕ) : Type 0 where
  declaration : Declaration
  stands : Contains ds declaration
  is : declaration.name ≡ x

declared-from : (ds : List Declaration) (x : List ℕ) → Contains (declared ds) x → IsDeclared ds x
declared-from [] x has = absurd (omega (arith, has.1))
declared-from (d ∷ ds) x has =
    ⊎_elim (λ is. record { declaration = d; stands = (0, omega arith, refl); is = is })
    (λ there.
    let rest = declared-from ds x there in
    record { declaration = rest.declaration; stands = contains-later d rest.declaration ds rest.stands; is = rest.is })
    (first-or_later d.name x (declared ds) has)

declared-at : (ds : List Declaration) (d : Declaration) → Contains ds d → Contains (declared ds) d.name
declared-at [] d has = absurd (omega (arith, has.1))
declared-at (e ∷ ds) d has =
    ⊎_elim (λ is. (0, omega arith, ap (λ (y : Declaration). y.name) is)) (λ there. contains-later e.name d.name (declared ds) (declared-at ds d there))
    (first-or_later e d ds has)

-- each name is declared once: two declarations of one name are one
one-declaration : (ds : List Declaration) → all_differ is_same_name (declared ds) ≡ true → (d e : Declaration) → Contains ds d → Contains ds e
    → d.name ≡ e.name → d ≡ e
one-declaration [] differ d e one other same = absurd (omega (arith, one.1))
one-declaration (f ∷ ds) differ d e one other same =
    let parts = and_parts (not (is_among f.name (declared ds))) (all_differ is_same_name (declared ds)) differ in
    let new = not-true (is_among f.name (declared ds)) parts.0 in
    let apart : (y : Declaration) → Contains ds y → f.name ≡ y.name → ⊥ = λ y there is.
    both_ways (is_among f.name (declared ds)) new (ap (λ x. is_among x (declared ds)) is ∙ among-element y.name (declared ds) (declared-at ds y there)) in
    ⊎_elim (λ (a : f ≡ d).
    ⊎_elim (λ (b : f ≡ e). sym a ∙ b) (λ b. absurd (apart e b (ap (λ (y : Declaration). y.name) a ∙ same))) (first-or_later f e ds other))
    (λ a. ⊎_elim (λ (b : f ≡ e). absurd (apart d a (ap (λ (y : Declaration). y.name) b ∙ sym same)))
    (λ b. one-declaration ds parts.1 d e a b same) (first-or_later f e ds other)) (first-or_later f d ds one)

-- names of some sorts differ
differ-named : (test : Sort → Bool) (ds : List Declaration) → all_differ is_same_name (declared ds) ≡ true
    → all_differ is_same_name (names_of test ds) ≡ true
differ-named test [] differ = refl
differ-named test (d ∷ ds) differ = go (differ-named test ds parts.1) (test d.sort) refl
  where
    parts : (not (is_among d.name (declared ds)) ≡ true) × (all_differ is_same_name (declared ds) ≡ true)
    parts = and_parts (not (is_among d.name (declared ds))) (all_differ is_same_name (declared ds)) differ

    new : is_among d.name (names_of test ds) ≡ false
    new = false_from_ne_true (is_among d.name (names_of test ds)) (λ among.
        let n = named-from test ds d.name (element-among d.name (names_of test ds) among) in
        both_ways (is_among d.name (declared ds)) (not-true (is_among d.name (declared ds)) parts.0)
        (among-element d.name (declared ds) (subst (Contains (declared ds)) n.is (declared-at ds n.declaration n.stands))))

    go : all_differ is_same_name (names_of test ds) ≡ true → (b : Bool) → test d.sort ≡ b → all_differ is_same_name (names_of test (d ∷ ds)) ≡ true
    go rest true s = rw s (and_from (not (is_among d.name (names_of test ds))) (all_differ is_same_name (names_of test ds))
        (not_from_false (is_among d.name (names_of test ds)) new) rest)
    go rest false s = rw s rest

-- and those of sorts of which none is of both
apart-named : (test other : Sort → Bool) → ((sort : Sort) → test sort ≡ true → other sort ≡ true → ⊥) → (ds : List Declaration)
    → all_differ is_same_name (declared ds) ≡ true → (x : List ℕ) → Contains (names_of test ds) x → is_among x (names_of other ds) ≡ false
apart-named test other disjoint ds differ x has = false_from_ne_true (is_among x (names_of other ds)) (λ among.
    let m = named-from test ds x has in
    let n = named-from other ds x (element-among x (names_of other ds) among) in
    let same = one-declaration ds differ m.declaration n.declaration m.stands n.stands (m.is ∙ sym n.is) in
    disjoint m.declaration.sort m.passes (ap (λ (y : Declaration). other y.sort) same ∙ n.passes))

wider-named : (test other : Sort → Bool) → ((sort : Sort) → test sort ≡ true → other sort ≡ true) → (ds : List Declaration) (x : List ℕ)
    → Contains (names_of test ds) x → Contains (names_of other ds) x
wider-named test other more ds x has =
    let n = named-from test ds x has in
    subst (Contains (names_of other ds)) n.is (named-at other ds n.declaration n.stands (more n.declaration.sort n.passes))

-- ---- the first of some names

drop-differ : (xs : List (List ℕ)) → all_differ is_same_name xs ≡ true → all_differ is_same_name (drop 1 xs) ≡ true
drop-differ [] differ = refl
drop-differ (x ∷ xs) differ = (and_parts (not (is_among x xs)) (all_differ is_same_name xs) differ).1

drop-element : (xs : List (List ℕ)) (x : List ℕ) → Contains (drop 1 xs) x → Contains xs x
drop-element [] x has = has
drop-element (y ∷ xs) x has = contains-later y x xs has

-- a name that is not the first is one of the others
element-drop : (xs : List (List ℕ)) (x : List ℕ) → is_first xs x ≡ false → Contains xs x → Contains (drop 1 xs) x
element-drop [] x other has = has
element-drop (y ∷ xs) x other has =
    ⊎_elim (λ is. absurd (both_ways (is_same_name x y) other (ap (is_same_name x) is ∙ same_name-self x))) (λ there. there) (first-or_later y x xs has)

drop-not_first : (xs : List (List ℕ)) → all_differ is_same_name xs ≡ true → (x : List ℕ) → Contains (drop 1 xs) x → is_first xs x ≡ false
drop-not_first [] differ x has = refl
drop-not_first (y ∷ xs) differ x has = false_from_ne_true (is_same_name x y) (λ same.
    let parts = and_parts (not (is_among y xs)) (all_differ is_same_name xs) differ in
    both_ways (is_among y xs) (not-true (is_among y xs) parts.0) (ap (λ z. is_among z xs) (sym (same_name-is x y same)) ∙ among-element x xs has))

-- a name that is among neither of two lists
apart-both : (x : List ℕ) (xs ys : List (List ℕ)) → is_among x xs ≡ false → is_among x ys ≡ false → is_among x (xs ++ ys) ≡ false
apart-both x xs ys a b = list_any-append (is_same_name x) xs ys ∙ or_from (is_among x xs) (is_among x ys) a b

-- ---- sorts

input-is : (sort : Sort) → is_input sort ≡ true → sort ≡ Input
input-is Input h = refl
input-is Output h = cc
input-is Wire h = cc
input-is Reg h = cc

output-is : (sort : Sort) → is_output sort ≡ true → sort ≡ Output
output-is Input h = cc
output-is Output h = refl
output-is Wire h = cc
output-is Reg h = cc

reg-is : (sort : Sort) → is_reg sort ≡ true → sort ≡ Reg
reg-is Input h = cc
reg-is Output h = cc
reg-is Wire h = cc
reg-is Reg h = refl

-- a name that is not the first has its sign
signed-from : (first sign : Bool) → first ≡ false → (not first && not sign) ≡ false → sign ≡ true
signed-from true sign f e = cc
signed-from false true f e = refl
signed-from false false f e = cc

-- ---- what is sound

-- the names that are driven differ, those that are read and shown are driven, and the inputs have their sign
pub record IsSound (design : VerilogModule) : Type 0 where
  pub differ : all_differ is_same_name (driven_names design) ≡ true
  pub reads : AllByRecursion (λ a. AllByRecursion (λ x. is_among x (driven_names design) ≡ true) (names_in a.value)) design.assigns
  pub sources : AllByRecursion (λ x. is_among x (driven_names design) ≡ true) (map (λ r. r.from) design.registers)
  pub outputs : AllByRecursion (λ x. is_among x (driven_names design) ≡ true) design.outputs
  pub signed : AllByRecursion (λ x. is_same_name (take 2 x) (codes "i_") ≡ true) (given_inputs design)

registers-named : (s : Source Expr) (names : List (List ℕ)) → map (λ r. r.name) (map (register_said s) names) ≡ names
registers-named s [] = refl
registers-named s (x ∷ names) = ap (λ l. x ∷ l) (registers-named s names)

taken-fine : (ds : List Declaration) (xs : List (List ℕ)) → AllByRecursion (λ u. is_wrong ds u ≡ false) (map Taken xs)
    → AllByRecursion (λ x. is_wrong ds (Taken x) ≡ false) xs
taken-fine ds [] all = tt
taken-fine ds (x ∷ xs) all = (all.0, taken-fine ds xs all.1)

assigns-fine : (ds : List Declaration) (assigns : List (Assign Expr)) → find (is_wrong ds) (flat_map assign_uses assigns) ≡ None
    → AllByRecursion (λ a. AllByRecursion (λ x. is_wrong ds (Taken x) ≡ false) (names_in a.value)) assigns
assigns-fine ds [] none = tt
assigns-fine ds (a ∷ assigns) none =
    let parts = find-both-none (is_wrong ds) (assign_uses a) (flat_map assign_uses assigns) none in
    let own = find-first-none (is_wrong ds) (Assigned a.target) (map Taken (names_in a.value)) parts.0 in
    (taken-fine ds (names_in a.value) (none-passes (is_wrong ds) (map Taken (names_in a.value)) own.1), assigns-fine ds assigns parts.1)

nexts-fine : (ds : List Declaration) (nexts : List Next) → find (is_wrong ds) (flat_map next_uses nexts) ≡ None
    → AllByRecursion (λ n. is_wrong ds (Taken n.source) ≡ false) nexts
nexts-fine ds [] none = tt
nexts-fine ds (n ∷ nexts) none =
    let parts = find-both-none (is_wrong ds) (next_uses n) (flat_map next_uses nexts) none in
    let own = find-first-none (is_wrong ds) (Kept n.target) (Taken n.source ∷ []) parts.0 in
    ((find-first-none (is_wrong ds) (Taken n.source) [] own.1).0, nexts-fine ds nexts parts.1)

-- what holds of all sources holds of the one of a name that has one
next-fine : (P : List ℕ → Type 0) (nexts : List Next) → AllByRecursion (λ n. P n.source) nexts → (x : List ℕ)
    → is_among x (map (λ n. n.target) nexts) ≡ true → P (next_source nexts x)
next-fine P [] all x among = cc
next-fine P (n ∷ nexts) all x among = go (next-fine P nexts all.1 x) (is_same_name n.target x) refl
  where
    go : (is_among x (map (λ n. n.target) nexts) ≡ true → P (next_source nexts x)) → (b : Bool) → is_same_name n.target x ≡ b
        → P (next_source (n ∷ nexts) x)
    go more true s = rw s all.0
    go more false s =
        let other : is_same_name x n.target ≡ false = nat_list_eq_equiv.symm x n.target ∙ s in
        let rest : is_among x (map (λ n. n.target) nexts) ≡ true = rw other at among in
        rw s (more rest)

module _ (s : Source Expr) (fits : name_fault s ≡ None) where
  abbrev ds : List Declaration
  ds = s.declarations

  abbrev inputs : List (List ℕ)
  inputs = names_of is_input ds

  abbrev regs : List (List ℕ)
  regs = names_of is_reg ds

  abbrev driven : List (List ℕ)
  driven = driven_names (module_said s)

  abbrev undriven_fault : Option NameFault
  undriven_fault = fault_by NoDriver (undriven s) None

  abbrev drivers_fault : Option NameFault
  drivers_fault = fault_by TwoDrivers (driven_twice s) undriven_fault

  abbrev undeclared_fault : Option NameFault
  undeclared_fault = fault_by Undeclared (undeclared s) drivers_fault

  abbrev port_fault : Option NameFault
  port_fault = fault_by Port (wrong_port s) undeclared_fault

  once : all_differ is_same_name (declared ds) ≡ true
  once = (once-of [] (declared ds) (fault-none Twice (declared_twice s) port_fault fits).0).differ

  ports : (wrong_port s ≡ None) × (undeclared_fault ≡ None)
  ports = fault-none Port (wrong_port s) undeclared_fault (fault-none Twice (declared_twice s) port_fault fits).1

  used : (undeclared s ≡ None) × (drivers_fault ≡ None)
  used = fault-none Undeclared (undeclared s) drivers_fault ports.1

  twice : (driven_twice s ≡ None) × (undriven_fault ≡ None)
  twice = fault-none TwoDrivers (driven_twice s) undriven_fault used.1

  well_named : AllByRecursion (λ d. is_ill_named ds d.sort d.name ≡ false) ds
  well_named =
      let first = or_else-none (misplaced s.ports (interface_names ds)) (or_else (portless s) (or_else (ill_named s) (other_clock s))) ports.0 in
      let second = or_else-none (portless s) (or_else (ill_named s) (other_clock s)) first.1 in
      let third = or_else-none (ill_named s) (other_clock s) second.1 in
      none-passes (λ d. is_ill_named ds d.sort d.name) ds (declaration-none (find (λ d. is_ill_named ds d.sort d.name) ds) third.0)

  all_driven : AllByRecursion (λ d. not (is_driven s d.sort d.name) ≡ false) ds
  all_driven =
      let none = (fault-none NoDriver (undriven s) None twice.1).0 in
      none-passes (λ d. not (is_driven s d.sort d.name)) ds (declaration-none (find (λ d. not (is_driven s d.sort d.name)) ds) none)

  driven-at : (d : Declaration) → Contains ds d → is_driven s d.sort d.name ≡ true
  driven-at d has = not-false (is_driven s d.sort d.name) (of-element (λ d. not (is_driven s d.sort d.name) ≡ false) ds all_driven d has)

  abbrev own : Sort → Bool
  own sort = is_input sort || is_reg sort

  assigned-once : (all_differ is_same_name (targets s.assigns) ≡ true) × ((x : List ℕ) → Contains (names_of own ds) x → is_among x (targets s.assigns) ≡ false)
  assigned-once =
      let first = or_else-none (first_again [] (map (λ i. i.name) s.initials))
      (or_else (first_again (names_of own ds) (targets s.assigns)) (first_again [] (map (λ n. n.target) s.nexts))) twice.0 in
      let second = or_else-none (first_again (names_of own ds) (targets s.assigns)) (first_again [] (map (λ n. n.target) s.nexts)) first.1 in
      let o = once-of (names_of own ds) (targets s.assigns) second.0 in
      (o.differ, λ x has. o.apart x (among-element x (names_of own ds) has))

  -- the driven names, in three parts
  driven-are : driven ≡ drop 1 inputs ++ (regs ++ targets s.assigns)
  driven-are = ap (λ l. drop 1 inputs ++ (l ++ targets s.assigns)) (registers-named s regs)

  input-not_reg : (sort : Sort) → is_input sort ≡ true → is_reg sort ≡ true → ⊥
  input-not_reg Input a b = cc
  input-not_reg Output a b = cc
  input-not_reg Wire a b = cc
  input-not_reg Reg a b = cc

  names-differ : all_differ is_same_name driven ≡ true
  names-differ =
      let behind : all_differ is_same_name (regs ++ targets s.assigns) ≡ true =
      differ-both regs (targets s.assigns) (differ-named is_reg ds once) assigned-once.0
      (λ x has. assigned-once.1 x (wider-named is_reg own (λ sort h. or_right (is_input sort) (is_reg sort) h) ds x has)) in
      ap (all_differ is_same_name) driven-are
      ∙ differ-both (drop 1 inputs) (regs ++ targets s.assigns) (drop-differ inputs (differ-named is_input ds once)) behind
      (λ x has.
      let there = drop-element inputs x has in
      apart-both x regs (targets s.assigns) (apart-named is_input is_reg input-not_reg ds once x there)
      (assigned-once.1 x (wider-named is_input own (λ sort h. or_left (is_input sort) (is_reg sort) h) ds x there)))

  -- ---- which names are driven

  input-driven : (x : List ℕ) → Contains (drop 1 inputs) x → is_among x driven ≡ true
  input-driven x has = among-element x driven (subst (λ l. Contains l x) (sym driven-are)
      (Contains-append_left (drop 1 inputs) (regs ++ targets s.assigns) x has))

  reg-driven : (x : List ℕ) → Contains regs x → is_among x driven ≡ true
  reg-driven x has = among-element x driven (subst (λ l. Contains l x) (sym driven-are)
      (Contains-append_right (drop 1 inputs) (regs ++ targets s.assigns) x (Contains-append_left regs (targets s.assigns) x has)))

  target-driven : (x : List ℕ) → is_among x (targets s.assigns) ≡ true → is_among x driven ≡ true
  target-driven x among = among-element x driven (subst (λ l. Contains l x) (sym driven-are)
      (Contains-append_right (drop 1 inputs) (regs ++ targets s.assigns) x
      (Contains-append_right regs (targets s.assigns) x (element-among x (targets s.assigns) among))))

  -- a declared name besides the clock is driven
  declared-driven : (d : Declaration) → Contains ds d → is_clock ds d.name ≡ false → is_among d.name driven ≡ true
  declared-driven d has other = go d.sort refl
    where
      go : (sort : Sort) → d.sort ≡ sort → is_among d.name driven ≡ true
      go Input is = input-driven d.name (element-drop inputs d.name other (named-at is_input ds d has (ap is_input is)))
      go Reg is = reg-driven d.name (named-at is_reg ds d has (ap is_reg is))
      go Output is = target-driven d.name (sym (ap (λ k. is_driven s k d.name) is) ∙ driven-at d has)
      go Wire is = target-driven d.name (sym (ap (λ k. is_driven s k d.name) is) ∙ driven-at d has)

  taken-driven : (x : List ℕ) → is_wrong ds (Taken x) ≡ false → is_among x driven ≡ true
  taken-driven x fine =
      let parts = or_parts (not (is_among x (declared ds))) (is_clock ds x) fine in
      let d = declared-from ds x (element-among x (declared ds) (not-false (is_among x (declared ds)) parts.0)) in
      subst (λ y. is_among y driven ≡ true) d.is
      (declared-driven d.declaration d.stands (ap (is_clock ds) d.is ∙ parts.1))

  uses-fine : (find (is_wrong ds) (flat_map assign_uses s.assigns) ≡ None) × (find (is_wrong ds) (flat_map next_uses s.nexts) ≡ None)
  uses-fine =
      let none = use-none (find (is_wrong ds) (uses s)) used.0 in
      let rest = find-both-none (is_wrong ds) (map (λ i. Kept i.name) s.initials) (flat_map assign_uses s.assigns ++ flat_map next_uses s.nexts) none in
      find-both-none (is_wrong ds) (flat_map assign_uses s.assigns) (flat_map next_uses s.nexts) rest.1

  reads-driven : AllByRecursion (λ a. AllByRecursion (λ x. is_among x driven ≡ true) (names_in a.value)) s.assigns
  reads-driven =
      let fine = assigns-fine ds s.assigns uses-fine.0 in
      each-element (λ a. AllByRecursion (λ x. is_among x driven ≡ true) (names_in a.value)) s.assigns (λ a has.
      let own = of-element (λ a. AllByRecursion (λ x. is_wrong ds (Taken x) ≡ false) (names_in a.value)) s.assigns fine a has in
      each-element (λ x. is_among x driven ≡ true) (names_in a.value) (λ x there.
      taken-driven x (of-element (λ x. is_wrong ds (Taken x) ≡ false) (names_in a.value) own x there)))

  reg-next : (x : List ℕ) → Contains regs x → is_among (next_source s.nexts x) driven ≡ true
  reg-next x has =
      let n = named-from is_reg ds x has in
      let sort : n.declaration.sort ≡ Reg = reg-is n.declaration.sort n.passes in
      let both = sym (ap (λ k. is_driven s k n.declaration.name) sort) ∙ driven-at n.declaration n.stands in
      let named = and_parts (is_among n.declaration.name (map (λ i. i.name) s.initials)) (is_among n.declaration.name (map (λ n. n.target) s.nexts)) both in
      next-fine (λ y. is_among y driven ≡ true) s.nexts
      (each-element (λ n. is_among n.source driven ≡ true) s.nexts (λ m there.
      taken-driven m.source (of-element (λ n. is_wrong ds (Taken n.source) ≡ false) s.nexts (nexts-fine ds s.nexts uses-fine.1) m there)))
      x (ap (λ y. is_among y (map (λ n. n.target) s.nexts)) (sym n.is) ∙ named.1)

  sources-driven : (names : List (List ℕ)) → ((x : List ℕ) → Contains names x → Contains regs x)
      → AllByRecursion (λ x. is_among x driven ≡ true) (map (λ r. r.from) (map (register_said s) names))
  sources-driven [] within = tt
  sources-driven (x ∷ names) within =
      (reg-next x (within x (0, omega arith, refl)), sources-driven names (λ y has. within y (contains-later x y names has)))

  outputs-driven : AllByRecursion (λ x. is_among x driven ≡ true) (names_of is_output ds)
  outputs-driven = each-element (λ x. is_among x driven ≡ true) (names_of is_output ds) (λ x has.
      let n = named-from is_output ds x has in
      let sort = output-is n.declaration.sort n.passes in
      subst (λ y. is_among y driven ≡ true) n.is
      (target-driven n.declaration.name (sym (ap (λ k. is_driven s k n.declaration.name) sort) ∙ driven-at n.declaration n.stands)))

  inputs-signed : AllByRecursion (λ x. is_same_name (take 2 x) (codes "i_") ≡ true) (drop 1 inputs)
  inputs-signed = each-element (λ x. is_same_name (take 2 x) (codes "i_") ≡ true) (drop 1 inputs) (λ x has.
      let n = named-from is_input ds x (drop-element inputs x has) in
      let sort = input-is n.declaration.sort n.passes in
      let fine = sym (ap (λ k. is_ill_named ds k n.declaration.name) sort)
      ∙ of-element (λ d. is_ill_named ds d.sort d.name ≡ false) ds well_named n.declaration n.stands in
      let own = ap (λ y. is_ill_named ds Input y) (sym n.is) ∙ fine in
      let first = drop-not_first inputs (differ-named is_input ds once) x has in
      let sign : has_sign (codes "i_") x ≡ true = signed-from (is_first inputs x) (has_sign (codes "i_") x) first own in
      (and_parts (is_same_name (take 2 x) (codes "i_")) (nat_lt 2 (length x)) sign).0)

  said-sound : IsSound (module_said s)
  said-sound = record {
    differ = names-differ;
    reads = reads-driven;
    sources = sources-driven regs (λ x has. has);
    outputs = outputs-driven;
    signed = inputs-signed;
  }

pub described-sound : (text : List ℕ) (design : VerilogModule) → Describes text design → IsSound design
described-sound text design described =
    subst IsSound described.means (said-sound (source_meant described.written) described.names_fit)

-- the inputs besides the clock differ behind their sign too
pub inputs-differ : (design : VerilogModule) → IsDescribed design → all_differ is_same_name (bare_inputs design) ≡ true
inputs-differ design described =
    let sound = described-sound described.0 design described.1 in
    let others = map (λ (r : Register). r.name) design.registers ++ map (λ (a : Assign Expr). a.target) design.assigns in
    differ-behind (codes "i_") (given_inputs design) sound.signed (in-parts (given_inputs design) others sound.differ).first
