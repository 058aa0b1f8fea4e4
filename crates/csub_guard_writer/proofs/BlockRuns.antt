-- Blocks of a head that stand one behind another do what a block for each gate does.
use Rattle.std.proofs.Common.{◌≡◌, ℕ, ◌+◌, ◌<◌, suc, Bool, true, false, ◌==◌, List, [], ◌∷◌, ◌++◌, length, map, get_or}
use Rattle.std.proofs.Common.{Some, refl, sym, ap, ◌∙◌, arith}
use Rattle.std.specs.Prelude.{if◌then◌else◌, filter}
use Rattle.std.proofs.lemmas.Bool.{eqb-true}
use Rattle.std.proofs.lemmas.List.{length-append}
use Rattle.base_types.specs.Names.{is_same_name}
use Rattle.net_ir.specs.declared.netlist.Gate.{Gate}
use Rattle.net_ir.specs.Netlists.{Netlist}
use Rattle.csub_text.specs.Machine.{value_of, run_body}
use Rattle.csub_text.specs.Trees.{Assign}
use Rattle.csub_text.specs.Written.{gate_name, gate_assign}
use Rattle.csub_text.proofs.Exports.{run-append}
use Rattle.net_expressions.proofs.Exports.{any_gate}
use Rattle.csub_guard.specs.Machine.{Counted, run_assigns, chosen, run_pieces}
use Rattle.csub_guard.proofs.Exports.{pieces-append}
use Rattle.csub_guard.specs.Trees.{Piece, One, If}
use Rattle.csub_guard_blocks.specs.Blocks.{Member, Group, Single, Run, in_run, in_front, groups, member_assign, zero_assign, head_name, group_piece, head_of}
use Rattle.csub_guard_blocks.specs.Owners.{Owner, Free, Inner, Outer}

-- ---- a block for each gate

abbrev pub gate_piece : Netlist → ℕ → Gate → Owner → Piece
gate_piece net k g Free = One (gate_assign net k g)
gate_piece net k g (Inner h) = If (head_name net h) (gate_assign net k g ∷ []) []
gate_piece net k g (Outer h) = If (head_name net h) (gate_assign net k g ∷ []) (zero_assign (record { place = k; gate = g; shown = true }) ∷ [])

abbrev pub gate_pieces : Netlist → ℕ → List Gate → List Owner → List Piece
gate_pieces net k (g ∷ gates) (o ∷ owners) = gate_piece net k g o ∷ gate_pieces net (k + 1) gates owners
gate_pieces net k others owners = []

-- ---- two blocks of one test

assigns-join : (xs ys : List Assign) (c : Counted) → run_assigns ys (run_assigns xs c) ≡ run_assigns (xs ++ ys) c
assigns-join xs ys c =
    let count : c.count + length xs + length ys ≡ c.count + length (xs ++ ys) = omega (arith, length-append xs ys) in
    ap (λ m. record { memory = m; count = c.count + length xs + length ys }) (sym (run-append xs ys c.memory))
    ∙ ap (λ n. record { memory = run_body (xs ++ ys) c.memory; count = n }) count

-- Two blocks of one test are one block, where the first leaves the test as it was.
blocks-join : (test : List ℕ) (f s g t : List Assign) (rest : List Piece) (c : Counted)
    → (run_assigns (if c.memory test then f else s) c).memory test ≡ c.memory test
    → run_pieces (If test f s ∷ If test g t ∷ rest) c ≡ run_pieces (If test (f ++ g) (s ++ t) ∷ rest) c
blocks-join test f s g t rest c same =
    ap (λ b. run_pieces rest (run_assigns (if b then g else t) (run_assigns (if c.memory test then f else s) c))) same
    ∙ ap (run_pieces rest) (by (c.memory test))
  where
    by : (b : Bool) → run_assigns (if b then g else t) (run_assigns (if b then f else s) c) ≡ run_assigns (if b then f ++ g else s ++ t) c
    by true = assigns-join f g c
    by false = assigns-join s t c

-- ---- groups

-- an assignment of another name leaves a name as it was
other-name : (a : Assign) (c : Counted) (x : List ℕ) → is_same_name x a.target ≡ false → (run_assigns (a ∷ []) c).memory x ≡ c.memory x
other-name a c x e = ap (λ b. if b then value_of c.memory a.value else c.memory x) e

-- the first block of a gate leaves its test as it was
keeps-test : (a z : Assign) (zs : List Assign) (test : List ℕ) (c : Counted) → is_same_name test a.target ≡ false → is_same_name test z.target ≡ false
    → (zs ≡ []) → (run_assigns (if c.memory test then a ∷ [] else zs) c).memory test ≡ c.memory test
keeps-test a z zs test c ea ez none = by (c.memory test)
  where
    by : (b : Bool) → (run_assigns (if b then a ∷ [] else zs) c).memory test ≡ c.memory test
    by true = other-name a c test ea
    by false = ap (λ l. (run_assigns l c).memory test) none

keeps-zero : (a z : Assign) (test : List ℕ) (c : Counted) → is_same_name test a.target ≡ false → is_same_name test z.target ≡ false
    → (run_assigns (if c.memory test then a ∷ [] else z ∷ []) c).memory test ≡ c.memory test
keeps-zero a z test c ea ez = by (c.memory test)
  where
    by : (b : Bool) → (run_assigns (if b then a ∷ [] else z ∷ []) c).memory test ≡ c.memory test
    by true = other-name a c test ea
    by false = other-name z c test ez

-- a gate in front of groups is run as it is alone
front-run : (net : Netlist) (k : ℕ) (g : Gate) (o : Owner) (gs : List Group) (c : Counted)
    → ((h : ℕ) → head_of o ≡ Some h → is_same_name (head_name net h) (gate_name k g.wire) ≡ false)
    → run_pieces (map (group_piece net) (in_front k g o gs)) c ≡ run_pieces (gate_piece net k g o ∷ map (group_piece net) gs) c
front-run net k g Free gs c apart = refl
front-run net k g (Inner h) [] c apart = refl
front-run net k g (Inner h) (Single j x ∷ gs) c apart = refl
front-run net k g (Inner h) (Run i members ∷ gs) c apart = by (h == i) refl
  where
    m : Member
    m = record { place = k; gate = g; shown = false }

    a : Assign
    a = gate_assign net k g

    by : (b : Bool) → (h == i) ≡ b → run_pieces (map (group_piece net) (in_run h m (Run i members ∷ gs))) c
        ≡ run_pieces (gate_piece net k g (Inner h) ∷ group_piece net (Run i members) ∷ map (group_piece net) gs) c
    by false e = ap (λ b. run_pieces (map (group_piece net) (if b then Run i (m ∷ members) ∷ gs else Run h (m ∷ []) ∷ Run i members ∷ gs)) c) e
    by true e =
        let same : h ≡ i = eqb-true h i e in
        ap (λ b. run_pieces (map (group_piece net) (if b then Run i (m ∷ members) ∷ gs else Run h (m ∷ []) ∷ Run i members ∷ gs)) c) e
        ∙ ap (λ j. run_pieces (group_piece net (Run j (m ∷ members)) ∷ map (group_piece net) gs) c) (sym same)
        ∙ sym (blocks-join (head_name net h) (a ∷ []) [] (map (member_assign net) members) (map zero_assign (filter (λ m. m.shown) members))
        (map (group_piece net) gs) c (keeps-test a a [] (head_name net h) c (apart h refl) (apart h refl) refl))
        ∙ ap (λ j. run_pieces (gate_piece net k g (Inner h) ∷ group_piece net (Run j members) ∷ map (group_piece net) gs) c) same
front-run net k g (Outer h) [] c apart = refl
front-run net k g (Outer h) (Single j x ∷ gs) c apart = refl
front-run net k g (Outer h) (Run i members ∷ gs) c apart = by (h == i) refl
  where
    m : Member
    m = record { place = k; gate = g; shown = true }

    a : Assign
    a = gate_assign net k g

    by : (b : Bool) → (h == i) ≡ b → run_pieces (map (group_piece net) (in_run h m (Run i members ∷ gs))) c
        ≡ run_pieces (gate_piece net k g (Outer h) ∷ group_piece net (Run i members) ∷ map (group_piece net) gs) c
    by false e = ap (λ b. run_pieces (map (group_piece net) (if b then Run i (m ∷ members) ∷ gs else Run h (m ∷ []) ∷ Run i members ∷ gs)) c) e
    by true e =
        let same : h ≡ i = eqb-true h i e in
        ap (λ b. run_pieces (map (group_piece net) (if b then Run i (m ∷ members) ∷ gs else Run h (m ∷ []) ∷ Run i members ∷ gs)) c) e
        ∙ ap (λ j. run_pieces (group_piece net (Run j (m ∷ members)) ∷ map (group_piece net) gs) c) (sym same)
        ∙ sym (blocks-join (head_name net h) (a ∷ []) (zero_assign m ∷ []) (map (member_assign net) members)
        (map zero_assign (filter (λ m. m.shown) members)) (map (group_piece net) gs) c
        (keeps-zero a (zero_assign m) (head_name net h) c (apart h refl) (apart h refl)))
        ∙ ap (λ j. run_pieces (gate_piece net k g (Outer h) ∷ group_piece net (Run j members) ∷ map (group_piece net) gs) c) same

-- So the groups do what the gates do one by one, where no gate of a head has its name.
pub groups-run : (net : Netlist) (k : ℕ) (gates : List Gate) (owners : List Owner) (c : Counted)
    → ((i h : ℕ) → i < length gates → head_of (get_or owners i Free) ≡ Some h
    → is_same_name (head_name net h) (gate_name (k + i) (get_or gates i any_gate).wire) ≡ false)
    → run_pieces (map (group_piece net) (groups k gates owners)) c ≡ run_pieces (gate_pieces net k gates owners) c
groups-run net k [] [] c apart = refl
groups-run net k [] (o ∷ owners) c apart = refl
groups-run net k (g ∷ gates) [] c apart = refl
groups-run net k (g ∷ gates) (o ∷ owners) c apart =
    let z : k + 0 ≡ k = omega arith in
    front-run net k g o (groups (k + 1) gates owners) c
    (λ h e. ap (λ n. is_same_name (head_name net h) (gate_name n g.wire)) (sym z) ∙ apart 0 h (omega arith) e)
    ∙ groups-run net (k + 1) gates owners (run_assigns (chosen (gate_piece net k g o) c.memory) c)
    (λ i h low e. let s : k + 1 + i ≡ k + suc i = omega arith in
    ap (λ n. is_same_name (head_name net h) (gate_name n (get_or gates i any_gate).wire)) s ∙ apart (suc i) h (omega (arith, low)) e)
