-- What is drawn for a netlist holds, in each instant, the code of its latches.
use Rattle.std.proofs.Common.{◌≡◌, ℕ, zero, suc, ◌+◌, ◌-◌, ◌<◌, Bool, true, false, List, [], ◌∷◌, ◌++◌, length, map, refl, sym}
use Rattle.std.proofs.Common.{ap, ◌∙◌, subst, arith, All, slice_index_or, length-append, inl, inr, IsTrue, nat_eq}
use Rattle.std.proofs.lemmas.List.{append-nil, get_or_append_left, get_or-append-add, get_or_at, length-map, get_or-map}
use Rattle.std.proofs.lemmas.List.Elements.{All-map, All-cons, All-tail}
use Rattle.std.proofs.lemmas.Simd.{map-map}
use Rattle.std.proofs.lemmas.Bool.{cases_lt}
use Rattle.base_facts.proofs.Lists.{map-equal}
use Rattle.base_types.specs.Distinct.{all_differ}
use Rattle.base_types.specs.Items.{Item, EachEvent}
use Rattle.base_types.specs.Names.{is_name, is_same_name}
use Rattle.base_types.specs.declared.indices.NetId.{NetId}
use Rattle.net_ir.specs.declared.netlist.Gate.{Gate}
use Rattle.net_ir.specs.declared.netlist.Latch.{Latch}
use Rattle.net_ir.specs.declared.netlist.NetOut.{NetOut}
use Rattle.net_ir.specs.Gates.{ReadsLower, value_in, gate_values, carried}
use Rattle.net_ir.specs.Netlists.{Netlist, IsNet, first_gate, net_count, output_names}
use Rattle.net_ir.specs.Runs.{shown, initial_latches, next_latches}
use Rattle.net_ir.proofs.Exports.{length-gate_values, gate_values-append, value_in-gate_values}
use Rattle.net_simp.specs.Renaming.{renamed_out, stand_in}
use Rattle.net_simp.specs.SameRuns.{carried_values, RunsAlike}
use Rattle.net_state_enc.specs.declared.codes.Literal.{Literal}
use Rattle.net_state_enc.specs.Codes.{are_met}
use Rattle.net_state_enc.specs.Drafts.{bits_at, wanted}
use Rattle.net_state_enc.specs.Meeting.{LatchesMeet}
use Rattle.net_state_enc.specs.Recodings.{tabulated, read_code, read_latches, write_latches, Recodes, RecodesInstants, copied, code_base, first_behind}
use Rattle.net_state_enc.specs.Recodings.{Drawn}
use Rattle.net_state_enc.specs.Recodings.{bit_latch, boot_net, coded_net}
use Rattle.net_state_enc.proofs.Copies.{Stands, copies-stand, carried-append, carried-none, carried-copied, carried_values-append, carried_values-none}
use Rattle.net_state_enc.proofs.Copies.{carried_values-copied}
use Rattle.net_state_enc.proofs.CodedRuns.{runs-alike}
use Rattle.net_state_enc.proofs.GateLaws.{values-more}

-- ---- lists

tabulated-length : (f : ℕ → Bool) (n k : ℕ) → length (tabulated f n k) ≡ n
tabulated-length f zero k = refl
tabulated-length f (suc n) k = ap suc (tabulated-length f n (k + 1))

-- a list whose elements are those of a function
tabulated-same : {X : Type 0} (h : X → Bool) (f : ℕ → Bool) (xs : List X) (n k : ℕ) → length xs ≡ n
    → ((i : ℕ) (d : X) → i < length xs → h (slice_index_or xs i d) ≡ f (k + i)) → map h xs ≡ tabulated f n k
tabulated-same h f [] zero k len same = refl
tabulated-same h f [] (suc n) k len same = absurd (omega (arith, len))
tabulated-same h f (x ∷ xs) zero k len same = absurd (omega (arith, len))
tabulated-same h f (x ∷ xs) (suc n) k len same =
    let e : k + 0 ≡ k = omega arith in
    let here : h x ≡ f k = same 0 x (omega arith) ∙ ap f e in
    let rest = tabulated-same h f xs n (k + 1) (omega (arith, len)) (λ i d low.
    let q : k + suc i ≡ k + 1 + i = omega arith in same (suc i) d (omega arith) ∙ ap f q) in
    (λ j. here j ∷ rest j)

met-same : (B C : ℕ → Bool) (ls : List Literal) → ((i : ℕ) → B i ≡ C i) → are_met B ls ≡ are_met C ls
met-same B C ls same = λ j. are_met (λ i. same i j) ls

-- ---- what is drawn

pub record Coded (net : Netlist) (boot : NetId) (leaves : List Latch) (width : ℕ) (codes : List (List Literal)) (names : List NetId) (gates : List Gate)
    (bits : List NetId) : Type 0 where
  pub is_net : IsNet net
  pub latches : net.latches ≡ record { init = true; from = boot } ∷ leaves
  pub count : length codes ≡ length leaves
  pub drawn : Drawn net (map (λ l. l.from) leaves) width codes names gates bits

module _ (net : Netlist) (boot : NetId) (leaves : List Latch) (width : ℕ) (codes : List (List Literal)) (names : List NetId) (gates : List Gate)
    (bits : List NetId) (h : Coded net boot leaves width codes names gates bits) where
  nets-before : first_gate net ≡ code_base net + length codes
  nets-before =
      let e = ap length h.latches in
      let c = h.count in
      omega arith

  -- what stands for a net of the old one is a net before those that write the code
  pub name-low : (n : ℕ) → n < net_count net → stand_in names n < first_behind net width + length h.drawn.decode + length net.gates
  name-low n low = elim (cases_lt n (first_gate net)) [
    | inl before ↦ name-first n before
    | inr after ↦
        let at : n ≡ first_gate net + (n - first_gate net) = omega arith in
        let e = ap (stand_in names) at ∙ h.drawn.step (n - first_gate net) (omega arith) in
        omega (arith, e)
  ]
    where
      name-first : (n : ℕ) → n < first_gate net → stand_in names n < first_behind net width + length h.drawn.decode + length net.gates
      name-first n before = elim (cases_lt n (code_base net)) [
        | inl given ↦ let e = h.drawn.own n given in omega (arith, e)
        | inr coded ↦
            let at : n ≡ code_base net + (n - code_base net) = omega arith in
            let e = ap (stand_in names) at in
            let l = (h.drawn.leaves (n - code_base net) (omega (arith, nets-before))).below in
            omega (arith, e, l)
      ]

  new-first : first_gate (coded_net net (stand_in names) gates bits) ≡ first_behind net width
  new-first =
      let many = length-map bits bit_latch in
      let c = h.drawn.bit_count in
      omega arith

  before : List Gate
  before = h.drawn.decode ++ map (copied (stand_in names)) net.gates

  gates-many : length gates ≡ length h.drawn.decode + length net.gates + length h.drawn.more
  gates-many =
      let e = ap length h.drawn.is in
      let a = length-append (h.drawn.decode ++ map (copied (stand_in names)) net.gates) h.drawn.more in
      let b = length-append h.drawn.decode (map (copied (stand_in names)) net.gates) in
      let c = length-map net.gates (copied (stand_in names)) in
      omega arith

  -- the carried wires stay
  pub wires-stay : carried gates ≡ carried net.gates
  wires-stay =
      let copies = map (copied (stand_in names)) net.gates in
      ap carried h.drawn.is ∙ carried-append (h.drawn.decode ++ copies) h.drawn.more
      ∙ ap (λ ws. carried (h.drawn.decode ++ copies) ++ ws) (carried-none h.drawn.more h.drawn.more_silent) ∙ append-nil (carried (h.drawn.decode ++ copies))
      ∙ carried-append h.drawn.decode copies ∙ ap (λ ws. ws ++ carried copies) (carried-none h.drawn.decode h.drawn.decode_silent)
      ∙ carried-copied (stand_in names) net.gates

  -- it is a net
  pub coded-is-net : IsNet (coded_net net (stand_in names) gates bits)
  coded-is-net =
      let n = h.is_net in
      let f = stand_in names in
      let new = coded_net net f gates bits in
      let first = new-first in
      let many = gates-many in
      let names_same : output_names new ≡ output_names net = map-map (λ (o : NetOut). o.name) (renamed_out f) net.outputs in
      let boot_low : (boot_net net.latches).0 < net_count net = subst (λ (n : NetId). n.0 < net_count net) (sym (ap boot_net h.latches)) ap-boot in
      record {
        name_fits = n.name_fits;
        input_names_fit = n.input_names_fit;
        output_names_fit = All-map (λ (o : NetOut). IsTrue (is_name o.name)) (renamed_out f) net.outputs n.output_names_fit;
        inputs_differ = n.inputs_differ;
        outputs_differ = subst (λ xs. IsTrue (all_differ is_same_name xs)) (sym names_same) n.outputs_differ;
        numbered = let e = h.drawn.fits in omega arith;
        outputs_in_range = All-map (λ (o : NetOut). o.net.0 < net_count new) (renamed_out f) net.outputs
            (λ j o low. let l = name-low (slice_index_or net.outputs j o).net.0 (n.outputs_in_range j o low) in omega (arith, first, many, l));
        paused_in_range = let l = name-low net.paused n.paused_in_range in omega (arith, first, many, l);
        latches_in_range = All-cons (λ (l : Latch). l.from.0 < net_count new) (record { init = true; from = record { 0 = f (boot_net net.latches).0 } }) (map
            bit_latch bits)
            (let l = name-low (boot_net net.latches).0 boot_low in omega (arith, first, many, l))
            (All-map (λ (l : Latch). l.from.0 < net_count new) bit_latch bits (λ j d low. let l = (h.drawn.bits_say j d low).below in omega (arith, first, l)));
        reads_lower = subst (λ k. ReadsLower k gates) (sym first) h.drawn.reads;
        carries_once = subst (λ ws. IsTrue (all_differ nat_eq ws)) (sym wires-stay) n.carries_once;
      }
    where
      ap-boot : boot.0 < net_count net
      ap-boot =
          let d : Latch = record { init = true; from = boot } in
          let low = h.is_net.latches_in_range 0 d (let e = ap length h.latches in omega arith) in
          subst (λ (ls : List Latch). (slice_index_or ls 0 d).from.0 < net_count net) h.latches low

-- ---- in an instant

-- what stands behind the first elements of a list
behind : (xs : List Bool) (b : Bool) (ys : List Bool) (i : ℕ) → value_in (xs ++ b ∷ ys) (length xs + 1 + i) ≡ value_in ys i
behind xs b ys i =
    let e : length xs + 1 + i ≡ length xs + suc i = omega arith in
    ap (value_in (xs ++ b ∷ ys)) e ∙ get_or-append-add xs (b ∷ ys) (suc i) false

-- the first elements
in-front : (xs : List Bool) (b : Bool) (ys zs : List Bool) (n : ℕ) → n < length xs + 1 → value_in (xs ++ b ∷ ys) n ≡ value_in (xs ++ b ∷ zs) n
in-front xs b ys zs n low = elim (cases_lt n (length xs)) [
  | inl before ↦ get_or_append_left xs (b ∷ ys) false n before ∙ sym (get_or_append_left xs (b ∷ zs) false n before)
  | inr after ↦
      let e : length xs ≡ n = omega arith in
      get_or_at xs b ys false n e ∙ sym (get_or_at xs b zs false n e)
]

module _ (net : Netlist) (boot : NetId) (leaves : List Latch) (width : ℕ) (codes : List (List Literal)) (names : List NetId) (gates : List Gate)
    (bits : List NetId) (h : Coded net boot leaves width codes names gates bits) (b : Bool) (c inputs : List Bool) (wide : length c ≡ width)
    (given : length inputs ≡ length net.inputs) where
  old_start : List Bool
  old_start = inputs ++ (b ∷ read_code codes c)

  new_start : List Bool
  new_start = inputs ++ (b ∷ c)

  start-many : length new_start ≡ first_behind net width
  unfolding new_start
  start-many = length-append inputs (b ∷ c) ∙ (let e : length inputs + suc (length c) ≡ length net.inputs + 1 + width = omega arith in e)

  -- each old net before the gates has its value
  decoded-same : (n : ℕ) → n < first_gate net → value_in (gate_values new_start h.drawn.decode) (stand_in names n) ≡ value_in old_start n
  unfolding new_start old_start
  decoded-same n before = elim (cases_lt n (code_base net)) [
    | inl low ↦
        ap (value_in (gate_values new_start h.drawn.decode)) (h.drawn.own n low)
        ∙ value_in-gate_values new_start h.drawn.decode n (omega (arith, start-many))
        ∙ in-front inputs b c (read_code codes c) n (omega arith)
    | inr coded ↦
        let k = n - code_base net in
        let at : n ≡ code_base net + k = omega arith in
        let place : code_base net + k ≡ length inputs + 1 + k = omega arith in
        let inside : k < length codes = omega (arith, nets-before net boot leaves width codes names gates bits h) in
        let leaf = h.drawn.leaves k inside in
        ap (λ m. value_in (gate_values new_start h.drawn.decode) (stand_in names m)) at
        ∙ leaf.says new_start start-many
        ∙ met-same (bits_at (code_base net) new_start) (value_in c) (slice_index_or codes k [])
        (λ i. (let p : code_base net + i ≡ length inputs + 1 + i = omega arith in ap (value_in new_start) p) ∙ behind inputs b c i)
        ∙ sym (get_or-map (are_met (value_in c)) codes k [] false inside)
        ∙ sym (behind inputs b (read_code codes c) k)
        ∙ ap (value_in old_start) (sym (at ∙ place))
  ]

  decoded : Stands (first_gate net) (first_behind net width + length h.drawn.decode) (stand_in names) old_start (gate_values new_start h.drawn.decode)
  unfolding new_start old_start
  decoded = record {
    old_many = length-append inputs (b ∷ read_code codes c)
        ∙ (let m = length-map codes (are_met (value_in c)) in
        let e = nets-before net boot leaves width codes names gates bits h in
        let q : length inputs + suc (length (read_code codes c)) ≡ first_gate net = omega arith in q);
    new_many = length-gate_values new_start h.drawn.decode ∙ ap (λ n. n + length h.drawn.decode) start-many;
    low = λ n before. name-early n before;
    same = decoded-same;
  }
    where
      name-early : (n : ℕ) → n < first_gate net → stand_in names n < first_behind net width + length h.drawn.decode
      name-early n before = elim (cases_lt n (code_base net)) [
        | inl low ↦ let e = h.drawn.own n low in omega (arith, e)
        | inr coded ↦
            let at : n ≡ code_base net + (n - code_base net) = omega arith in
            let e = ap (stand_in names) at in
            let l = (h.drawn.leaves (n - code_base net) (omega (arith, nets-before net boot leaves width codes names gates bits h))).below in
            omega (arith, e, l)
      ]

  copies : List Gate
  copies = map (copied (stand_in names)) net.gates

  new_before : List Bool
  new_before = gate_values new_start (h.drawn.decode ++ copies)

  old_values : List Bool
  old_values = gate_values old_start net.gates

  new_values : List Bool
  new_values = gate_values new_start gates

  copied-same : (n : ℕ) → n < net_count net → value_in new_before (stand_in names n) ≡ value_in old_values n
  unfolding new_before old_values copies
  copied-same n low =
      let whole = copies-stand (first_gate net) (first_behind net width + length h.drawn.decode) (stand_in names) old_start (gate_values new_start
      h.drawn.decode)
      net.gates h.is_net.reads_lower h.drawn.step decoded in
      ap (λ V. value_in V (stand_in names n)) (gate_values-append new_start h.drawn.decode (map (copied (stand_in names)) net.gates)) ∙ whole.same n low

  -- each old net has its value
  name-same : (n : ℕ) → n < net_count net → value_in new_values (stand_in names n) ≡ value_in old_values n
  unfolding new_values new_before copies
  name-same n low =
      let l = name-low net boot leaves width codes names gates bits h n low in
      let many = length-append h.drawn.decode (map (copied (stand_in names)) net.gates) in
      let same = length-map net.gates (copied (stand_in names)) in
      ap (λ gs. value_in (gate_values new_start gs) (stand_in names n)) h.drawn.is
      ∙ values-more new_start (h.drawn.decode ++ map (copied (stand_in names)) net.gates) h.drawn.more (stand_in names n) (omega (arith, start-many, l))
      ∙ copied-same n low

  boot-low : boot.0 < net_count net
  boot-low =
      let d : Latch = record { init = true; from = boot } in
      let low = h.is_net.latches_in_range 0 d (let e = ap length h.latches in omega arith) in
      subst (λ (ls : List Latch). (slice_index_or ls 0 d).from.0 < net_count net) h.latches low

  leaves-low : All (λ (l : Latch). l.from.0 < net_count net) leaves
  leaves-low = All-tail (λ (l : Latch). l.from.0 < net_count net) (record { init = true; from = boot }) leaves
      (subst (All (λ (l : Latch). l.from.0 < net_count net)) h.latches h.is_net.latches_in_range)

  recoded-shows : shown (coded_net net (stand_in names) gates bits) new_values ≡ shown net old_values
  recoded-shows =
      let outs = map-map (λ (o : NetOut). value_in new_values o.net.0) (renamed_out (stand_in names)) net.outputs
      ∙ map-equal (λ (o : NetOut). value_in new_values (stand_in names o.net.0)) (λ (o : NetOut). value_in old_values o.net.0) net.outputs
      (λ j o low. name-same (slice_index_or net.outputs j o).net.0 (h.is_net.outputs_in_range j o low)) in
      let active = name-same net.paused h.is_net.paused_in_range in
      λ i. record { outputs = outs i; paused = active i }

  recoded-carries : carried_values (first_behind net width) gates new_values ≡ carried_values (first_gate net) net.gates old_values
  recoded-carries =
      let first = first_behind net width in
      let f = stand_in names in
      let cs = map (copied f) net.gates in
      let decode = h.drawn.decode in
      ap (λ gs. carried_values first gs new_values) h.drawn.is
      ∙ carried_values-append first (decode ++ cs) h.drawn.more new_values
      ∙ ap (λ bs. carried_values first (decode ++ cs) new_values ++ bs)
      (carried_values-none (first + length (decode ++ cs)) h.drawn.more new_values h.drawn.more_silent)
      ∙ append-nil (carried_values first (decode ++ cs) new_values)
      ∙ carried_values-append first decode cs new_values
      ∙ ap (λ bs. bs ++ carried_values (first + length decode) cs new_values) (carried_values-none first decode new_values h.drawn.decode_silent)
      ∙ carried_values-copied f (first_gate net) (first + length decode) net.gates old_values new_values
      (λ k low. ap (value_in new_values) (sym (h.drawn.step k low)) ∙ name-same (first_gate net + k) (omega arith))

  recoded-next : next_latches (coded_net net (stand_in names) gates bits) new_values ≡ write_latches codes width (next_latches net old_values)
  unfolding new_values new_before copies
  recoded-next =
      let N = λ (l : Latch). value_in old_values l.from.0 in
      let next = map (λ (l : Latch). l.from) leaves in
      let B = gate_values new_start (h.drawn.decode ++ map (copied (stand_in names)) net.gates) in
      let leaf_values : map (λ (n : NetId). value_in B (stand_in names n.0)) next ≡ map N leaves =
      map-map (λ (n : NetId). value_in B (stand_in names n.0)) (λ (l : Latch). l.from) leaves
      ∙ map-equal (λ (l : Latch). value_in B (stand_in names l.from.0)) N leaves (λ j l low. copied-same (slice_index_or leaves j l).from.0 (leaves-low j l
      low)) in
      let many = h.drawn.bit_count in
      let codes_now : map (λ (n : NetId). value_in new_values n.0) bits ≡ tabulated (wanted codes (map N leaves)) width 0 =
      tabulated-same (λ (n : NetId). value_in new_values n.0) (wanted codes (map N leaves)) bits width 0 many
      (λ i d low. let e : i ≡ 0 + i = omega arith in
      (h.drawn.bits_say i d low).says new_start start-many ∙ ap (λ vs. wanted codes vs i) leaf_values ∙ ap (wanted codes (map N leaves)) e) in
      let first : value_in new_values (stand_in names (boot_net net.latches).0) ≡ value_in old_values boot.0
      = ap (λ (n : NetId). value_in new_values (stand_in names n.0)) (ap boot_net h.latches) ∙ name-same boot.0 boot-low in
      let all = map-map (λ (l : Latch). value_in new_values l.from.0) bit_latch bits ∙ codes_now in
      (λ i. first i ∷ all i) ∙ ap (λ ls. write_latches codes width (map N ls)) (sym h.latches)

  recoded : Recodes net (coded_net net (stand_in names) gates bits) (write_latches codes width) (read_latches codes) (b ∷ c) inputs
  unfolding new_values old_values new_start old_start
  recoded =
      let first = new-first net boot leaves width codes names gates bits h in
      record {
        shows = recoded-shows;
        carries = ap (λ n. carried_values n gates new_values) first ∙ recoded-carries;
        next = recoded-next;
      }

module _ (net : Netlist) (boot : NetId) (leaves : List Latch) (width : ℕ) (codes : List (List Literal)) (names : List NetId) (gates : List Gate)
    (bits : List NetId) (h : Coded net boot leaves width codes names gates bits) where
  pub coded-recodes : RecodesInstants net (coded_net net (stand_in names) gates bits) (write_latches codes width) (read_latches codes)
  coded-recodes [] inputs many given = absurd (let m = length-map bits bit_latch in omega arith)
  coded-recodes (b ∷ c) inputs many given =
      let m = length-map bits bit_latch in
      let e = h.drawn.bit_count in
      recoded net boot leaves width codes names gates bits h b c inputs (omega arith) given

  coded-many : (l : List Bool) → length l ≡ length net.latches
      → length (write_latches codes width l) ≡ length (coded_net net (stand_in names) gates bits).latches
  coded-many [] len = absurd (omega (arith, len, ap length h.latches))
  coded-many (b ∷ l) len =
      let m = length-map bits bit_latch in
      let e = h.drawn.bit_count in
      omega (arith, tabulated-length (wanted codes l) width 0)

  -- the code of no selected leaf is all false
  pub no-bits : (ls : List (List Literal)) (n i : ℕ) → wanted ls (map (λ (l : Latch). false) leaves) i ≡ false
  no-bits ls n i = none-wanted ls leaves i
    where
      none-wanted : (ls : List (List Literal)) (xs : List Latch) (i : ℕ) → wanted ls (map (λ (l : Latch). false) xs) i ≡ false
      none-wanted [] xs i = refl
      none-wanted (l ∷ ls) [] i = refl
      none-wanted (l ∷ ls) (x ∷ xs) i = none-wanted ls xs i

  coded-inits : map (λ (l : Latch). l.init) leaves ≡ map (λ (l : Latch). false) leaves
      → initial_latches (coded_net net (stand_in names) gates bits) ≡ write_latches codes width (initial_latches net)
  coded-inits off =
      let zeros : map (λ (l : Latch). l.init) (map bit_latch bits) ≡ tabulated (wanted codes (map (λ (l : Latch). l.init) leaves)) width 0 =
      map-map (λ (l : Latch). l.init) bit_latch bits
      ∙ tabulated-same (λ (n : NetId). false) (wanted codes (map (λ (l : Latch). l.init) leaves)) bits width 0 h.drawn.bit_count
      (λ i d low. sym (ap (λ vs. wanted codes vs (0 + i)) off ∙ no-bits codes width (0 + i))) in
      (λ i. true ∷ zeros i) ∙ ap (λ ls. write_latches codes width (map (λ (l : Latch). l.init) ls)) (sym h.latches)

  -- so it has the same runs, wherever the code gives the latches back
  pub coded-runs : map (λ (l : Latch). l.init) leaves ≡ map (λ (l : Latch). false) leaves
      → (items : List Item) → EachEvent (λ event. length event ≡ length net.inputs) items
      → LatchesMeet (λ l. read_latches codes (write_latches codes width l) ≡ l) net (initial_latches net) items
      → RunsAlike net (coded_net net (stand_in names) gates bits) items
  coded-runs off items fit meets =
      runs-alike net (coded_net net (stand_in names) gates bits) (write_latches codes width) (read_latches codes) coded-recodes coded-many
      (coded-inits off) items fit meets
