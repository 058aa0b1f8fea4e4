-- Nothing is left to simplify.
use Rattle.std.proofs.Common.{◌≡◌, ℕ, ◌+◌, ◌<◌, ◌≤◌, Bool, true, false, ◌||◌, ◌==◌, Option, None, Some, List, [], ◌∷◌, length, map, slice_index_or, refl, sym}
use Rattle.std.proofs.Common.{ap, subst, ◌∙◌, arith, inl, inr, IsTrue, All}
use Rattle.std.specs.Prelude.{◌⊎◌, is_some}
use Rattle.std.specs.List.{list_any}
use Rattle.std.proofs.lemmas.List.Folds.{list_any_at}
use Rattle.std.proofs.lemmas.Bool.{eqb-true, eq-eqb, or_cases, or_left, or_right, both_ways}
use Rattle.base_types.specs.declared.indices.NetId.{NetId}
use Rattle.net_ir.specs.declared.netlist.Op.{Op}
use Rattle.net_ir.specs.declared.netlist.Op.TheVariants.{Const, Copy, Not, And, Or}
use Rattle.net_ir.specs.declared.netlist.Gate.{Gate}
use Rattle.net_ir.specs.declared.netlist.Latch.{Latch}
use Rattle.net_ir.specs.declared.netlist.NetOut.{NetOut}
use Rattle.net_ir.specs.Gates.{value_in, gate_values}
use Rattle.net_ir.specs.Netlists.{Netlist, IsNet, first_gate}
use Rattle.net_simp.specs.SimpleNets.{EachFormOnce, EachIsReduced, turned, IsNoCopy, NoCopies, Computes, reads, ReadsComputed}
use Rattle.net_simp.specs.SimpleNets.{OperandsDiffer, ReadsNoneTwice, is_used, EachIsUsed}
use Rattle.net_simp.specs.SameRuns.{SameParts, SameInstants, SameRuns}
use Rattle.net_simp.specs.Simplified.{Simplified}
use Rattle.net_simp.specs.Renaming.{stand_in, through, renamed_op, renamed_out, renamed_latch, renamed_net}
use Rattle.net_simp.specs.Rules.{op_at, reduced_op}
use Rattle.net_simp.specs.Forms.{form_of}
use Rattle.net_simp.specs.Keeping.{KeepsValues, Any}
use Rattle.net_simp.specs.Drafts.{computes, Settled, Settles, FormsOnce, Folded}
use Rattle.net_simp.specs.Needs.{marked, ReadFrom, NeedsMet, RootMarks, Needed, Closed}
use Rattle.net_simp.specs.Packing.{rank, ComesFrom, Packed}
use Rattle.net_simp.proofs.Keeping.{keeps-trans}
use Rattle.net_simp.proofs.Operators.{renamed-reads, renamed-from, renamed-injective, reads-low}
use Rattle.net_simp.proofs.Reductions.{op_at-is}
use Rattle.net_simp.proofs.Marking.{first_marks, first-low, first-gate, first_marks-length}
use Rattle.net_simp.proofs.Ranks.{rank-injective, Lands, lands}
use Rattle.net_simp.proofs.ReducedGates.{turned-renamed, turned-reads, form-turned, ranked-reduced}
use Rattle.net_simp.proofs.SimplifiedNets.{AsksFor, first-same, is-net, same-parts, same-instants, same-runs}

-- ---- the shapes of renamed operators

renamed-no_copy : (f : ℕ → ℕ) (op : Op) → IsNoCopy op → IsNoCopy (renamed_op f op)
renamed-no_copy f (Const b) is = tt
renamed-no_copy f (Copy n) is = is
renamed-no_copy f (Not n) is = tt
renamed-no_copy f (And m n) is = tt
renamed-no_copy f (Or m n) is = tt

renamed-computes : (f : ℕ → ℕ) (op : Op) → computes (Some op) → Computes (renamed_op f op)
renamed-computes f (Const b) is = is
renamed-computes f (Copy n) is = is
renamed-computes f (Not n) is = tt
renamed-computes f (And m n) is = tt
renamed-computes f (Or m n) is = tt

renamed-differ : (first : ℕ) (gates : List Gate) (f : ℕ → ℕ) (op : Op) → Settled first gates op
    → ((m n : ℕ) → IsTrue (reads op m) → IsTrue (reads op n) → f m ≡ f n → m ≡ n) → OperandsDiffer (renamed_op f op)
renamed-differ first gates f (Const b) s apart = tt
renamed-differ first gates f (Copy n) s apart = tt
renamed-differ first gates f (Not n) s apart = tt
renamed-differ first gates f (And m n) s apart =
    λ same. s.0 (apart m.0 n.0 (or_left (m.0 == m.0) (n.0 == m.0) (eq-eqb m.0 m.0 refl)) (or_right (m.0 == n.0) (n.0 == n.0) (eq-eqb n.0 n.0 refl)) same)
renamed-differ first gates f (Or m n) s apart =
    λ same. s.0 (apart m.0 n.0 (or_left (m.0 == m.0) (n.0 == m.0) (eq-eqb m.0 m.0 refl)) (or_right (m.0 == n.0) (n.0 == n.0) (eq-eqb n.0 n.0 refl)) same)

-- what a settled operator that is no copy reads is neither a copy nor a constant
settled-reads : (first : ℕ) (gates : List Gate) (op : Op) (n : ℕ) → Settled first gates op → IsNoCopy op → IsTrue (reads op n)
    → computes (op_at first gates n)
settled-reads first gates (Const b) n s is read = absurd (both_ways false refl read)
settled-reads first gates (Copy m) n s is read = absurd is
settled-reads first gates (Not m) n s is read = subst (λ k. computes (op_at first gates k)) (eqb-true m.0 n read) s
settled-reads first gates (And l m) n s is read = elim (or_cases (l.0 == n) (m.0 == n) read) [
  | inl e ↦ subst (λ k. computes (op_at first gates k)) (eqb-true l.0 n e) s.1
  | inr e ↦ subst (λ k. computes (op_at first gates k)) (eqb-true m.0 n e) s.2
]
settled-reads first gates (Or l m) n s is read = elim (or_cases (l.0 == n) (m.0 == n) read) [
  | inl e ↦ subst (λ k. computes (op_at first gates k)) (eqb-true l.0 n e) s.1
  | inr e ↦ subst (λ k. computes (op_at first gates k)) (eqb-true m.0 n e) s.2
]

-- ---- the whole

-- what the passes made
pub record Passes (net : Netlist) (draft kept : List NetId) (mid new : List Gate) (before marks : List Bool) : Type 0 where
  pub is_net : IsNet net
  pub folds : Folded (first_gate net) net.gates mid draft
  pub roots : RootMarks net draft (first_marks (first_gate net) mid) before
  pub needs : NeedsMet (first_gate net) mid before marks 0
  pub closed : Closed (first_gate net) mid marks
  pub packs : Packed (first_gate net) marks mid new kept

-- marks that root marks give are closed
pub closed-from : (net : Netlist) (draft : List NetId) (mid : List Gate) (before marks : List Bool)
    → RootMarks net draft (first_marks (first_gate net) mid) before
    → length before ≡ first_gate net + length mid → NeedsMet (first_gate net) mid before marks 0 → Closed (first_gate net) mid marks
closed-from net draft mid before marks roots count needs =
    let first = first_gate net in
    let outs = λ (n : ℕ). list_any (λ (o : NetOut). stand_in draft o.net.0 == n) net.outputs in
    let lats = λ (n : ℕ). list_any (λ (l : Latch). stand_in draft l.from.0 == n) net.latches in
    let begun = λ (n : ℕ) (on : marked (first_marks first mid) n ≡ true). needs.stays n
    (roots n ∙ or_left ((marked (first_marks first mid) n || outs n) || lats n) (stand_in draft net.paused == n)
    (or_left (marked (first_marks first mid) n || outs n) (lats n) (or_left (marked (first_marks first mid) n) (outs n) on))) in
    record {
      count = needs.count ∙ count;
      low = λ n h. begun n (first-low first mid n h);
      carriers = λ k d h some. begun (first + k) (first-gate first mid k d h ∙ some);
      closed = λ k d n h on read. needs.closed k d n (omega arith) h on read;
    }

asks-for : (net : Netlist) (draft kept : List NetId) (mid new : List Gate) (before marks : List Bool) → Passes net draft kept mid new before marks
    → AsksFor net (λ n. IsTrue (marked marks (stand_in draft n)))
asks-for net draft kept mid new before marks p =
    let first = first_gate net in
    let begun = λ (n : ℕ). marked (first_marks first mid) n in
    let outs = λ (n : ℕ). list_any (λ (o : NetOut). stand_in draft o.net.0 == n) net.outputs in
    let lats = λ (n : ℕ). list_any (λ (l : Latch). stand_in draft l.from.0 == n) net.latches in
    let pause = λ (n : ℕ). stand_in draft net.paused == n in
    record {
      outputs = λ k d h.
          let n = stand_in draft (slice_index_or net.outputs k d).net.0 in
          p.needs.stays n (p.roots n ∙ or_left ((begun n || outs n) || lats n) (pause n) (or_left (begun n || outs n) (lats n)
          (or_right (begun n) (outs n) (list_any_at (λ (o : NetOut). stand_in draft o.net.0 == n) net.outputs k d h (eq-eqb n n refl)))));
      paused =
          let n = stand_in draft net.paused in
          p.needs.stays n (p.roots n ∙ or_right ((begun n || outs n) || lats n) (pause n) (eq-eqb n n refl));
      latches = λ k d h.
          let n = stand_in draft (slice_index_or net.latches k d).from.0 in
          p.needs.stays n (p.roots n ∙ or_left ((begun n || outs n) || lats n) (pause n) (or_right (begun n || outs n) (lats n)
          (list_any_at (λ (l : Latch). stand_in draft l.from.0 == n) net.latches k d h (eq-eqb n n refl))));
    }

keeps-same : (first : ℕ) (old new : List Gate) (f h : ℕ → ℕ) (Asked : ℕ → Type 0) → KeepsValues first old new f Asked
    → ((n : ℕ) → n < first + length old → Asked n → h n ≡ f n) → KeepsValues first old new h Asked
keeps-same first old new f h Asked k same = record {
  low = λ n low asked. let e = same n low asked in let b = k.low n low asked in omega arith;
  same = λ v n len low asked. ap (λ m. value_in (gate_values v new) m) (same n low asked) ∙ k.same v n len low asked;
  reads_lower = k.reads_lower;
  carries = k.carries;
  carrier_values = k.carrier_values;
  fewer = k.fewer;
}

-- the passes together
keeps : (net : Netlist) (draft kept : List NetId) (mid new : List Gate) (before marks : List Bool) → Passes net draft kept mid new before marks
    → KeepsValues (first_gate net) net.gates new (through draft kept) (λ n. IsTrue (marked marks (stand_in draft n)))
keeps net draft kept mid new before marks p =
    let first = first_gate net in
    keeps-same first net.gates new (λ n. rank marks (stand_in draft n)) (through draft kept) (λ n. IsTrue (marked marks (stand_in draft n)))
    (keeps-trans first net.gates mid new (stand_in draft) (rank marks) (λ n. IsTrue (marked marks n)) p.folds.keeps p.packs.keeps)
    (λ n low asked. p.packs.stand_in_is (stand_in draft n) (omega (arith, p.packs.count, p.folds.keeps.low n low tt)))

pub simplified-is-net : (net : Netlist) (draft kept : List NetId) (mid new : List Gate) (before marks : List Bool)
    → Passes net draft kept mid new before marks → IsNet (renamed_net net (through draft kept) new)
simplified-is-net net draft kept mid new before marks p =
    is-net net (through draft kept) (λ n. IsTrue (marked marks (stand_in draft n))) new p.is_net (keeps net draft kept mid new before marks p)
    (asks-for net draft kept mid new before marks p)

list_any-mapped : {X Y : Type 0} (p : X → Bool) (q : Y → Bool) (f : X → Y) (xs : List X) → ((x : X) → p x ≡ true → q (f x) ≡ true)
    → list_any p xs ≡ true → list_any q (map f xs) ≡ true
list_any-mapped p q f [] each is = is
list_any-mapped p q f (x ∷ xs) each is = elim (or_cases (p x) (list_any p xs) is) [
  | inl here ↦ or_left (q (f x)) (list_any q (map f xs)) (each x here)
  | inr later ↦ or_right (q (f x)) (list_any q (map f xs)) (list_any-mapped p q f xs each later)
]

-- ---- the points

once : (net : Netlist) (draft kept : List NetId) (mid new : List Gate) (before marks : List Bool) → Passes net draft kept mid new before marks
    → EachFormOnce (renamed_net net (through draft kept) new)
once net draft kept mid new before marks p = λ j k d hj hk sj sk same.
    let first = first_gate net in
    let a = p.packs.from j hj in
    let b = p.packs.from k hk in
    let f = rank marks in
    let x = (slice_index_or mid a.at d).op in
    let y = (slice_index_or mid b.at d).op in
    let apart = λ (m n : ℕ) (rm : reads x m ≡ true) (rn : reads y n ≡ true) (e : f m ≡ f n).
    rank-injective marks m n (p.closed.closed a.at d m a.within a.kept rm) (p.closed.closed b.at d n b.within b.kept rn) e in
    let forms : form_of x ≡ form_of y = elim same [
      | inl e ↦ ap form_of (renamed-injective f x y apart (sym (a.op d) ∙ e ∙ b.op d))
      | inr e ↦ ap form_of (renamed-injective f x (turned y) (λ m n rm rn. apart m n rm (turned-reads y n rn))
          (sym (a.op d) ∙ e ∙ ap turned (b.op d) ∙ turned-renamed f y)) ∙ form-turned y
    ] in
    let ats = p.folds.once a.at b.at d a.within b.within (sym (a.wire d) ∙ sj) (sym (b.wire d) ∙ sk) forms in
    let ranks : first + j ≡ first + k = sym a.ranked ∙ ap (λ i. rank marks (first + i)) ats ∙ b.ranked in
    omega arith

reduced : (net : Netlist) (draft kept : List NetId) (mid new : List Gate) (before marks : List Bool) → Passes net draft kept mid new before marks
    → EachIsReduced (renamed_net net (through draft kept) new)
reduced net draft kept mid new before marks p = λ j d hj sj.
    let first = first_gate net in
    let a = p.packs.from j hj in
    let op = (slice_index_or mid a.at d).op in
    let here = ranked-reduced first marks mid new kept a.at d p.closed p.packs p.folds.keeps.reads_lower a.within a.kept
    (p.folds.settles.reduced a.at d a.within) in
    ap (λ f. reduced_op f new (slice_index_or new j d).op) (first-same net (through draft kept) new)
    ∙ ap (reduced_op first new) (a.op d) ∙ here ∙ sym (a.op d)

no-copies : (net : Netlist) (draft kept : List NetId) (mid new : List Gate) (before marks : List Bool) → Passes net draft kept mid new before marks
    → NoCopies (renamed_net net (through draft kept) new)
no-copies net draft kept mid new before marks p = λ j d hj sj.
    let a = p.packs.from j hj in
    subst IsNoCopy (sym (a.op d)) (renamed-no_copy (rank marks) (slice_index_or mid a.at d).op
    (p.folds.settles.no_copies a.at d a.within (sym (a.wire d) ∙ sj)))

reads-computed : (net : Netlist) (draft kept : List NetId) (mid new : List Gate) (before marks : List Bool) → Passes net draft kept mid new before marks
    → ReadsComputed (renamed_net net (through draft kept) new)
reads-computed net draft kept mid new before marks p = λ j k d hj hk sj read.
    let first = first_gate net in
    let a = p.packs.from j hj in
    let b = p.packs.from k hk in
    let op = (slice_index_or mid a.at d).op in
    let fresh = p.folds.settles.no_copies a.at d a.within (sym (a.wire d) ∙ sj) in
    let at_net : IsTrue (reads (slice_index_or new j d).op (first + k)) =
    ap (λ f. reads (slice_index_or new j d).op (f + k)) (sym (first-same net (through draft kept) new)) ∙ read in
    let here : IsTrue (reads (renamed_op (rank marks) op) (first + k)) = ap (λ o. reads o (first + k)) (sym (a.op d)) ∙ at_net in
    subst Computes (sym (b.op d)) (renamed-computes (rank marks) (slice_index_or mid b.at d).op
    (renamed-from (rank marks) op (first + k) (λ n. n ≡ first + k → computes (Some (slice_index_or mid b.at d).op)) here
    (λ m rm e.
    let same = rank-injective marks m (first + b.at) (p.closed.closed a.at d m a.within a.kept rm) b.kept (e ∙ sym b.ranked) in
    subst computes (op_at-is first mid m b.at d same b.within) (settled-reads first mid op m (p.folds.settles.settled a.at d a.within) fresh rm))
    refl))

reads-none-twice : (net : Netlist) (draft kept : List NetId) (mid new : List Gate) (before marks : List Bool) → Passes net draft kept mid new before marks
    → ReadsNoneTwice (renamed_net net (through draft kept) new)
reads-none-twice net draft kept mid new before marks p = λ j d hj sj.
    let a = p.packs.from j hj in
    subst OperandsDiffer (sym (a.op d)) (renamed-differ (first_gate net) mid (rank marks) (slice_index_or mid a.at d).op
    (p.folds.settles.settled a.at d a.within)
    (λ m n rm rn e. rank-injective marks m n (p.closed.closed a.at d m a.within a.kept rm) (p.closed.closed a.at d n a.within a.kept rn) e))

-- what is shown by outputs, latches and `paused`, or read, under its new number
used-at : (net : Netlist) (draft kept : List NetId) (mid new : List Gate) (before marks : List Bool) → Passes net draft kept mid new before marks
    → (at place : ℕ) → at < length mid → rank marks (first_gate net + at) ≡ first_gate net + place
    → (d : Gate) → (slice_index_or mid at d).wire ≡ None → IsTrue (marked marks (first_gate net + at))
    → IsTrue (is_used (renamed_net net (through draft kept) new) (first_gate net + place))
used-at net draft kept mid new before marks p at place within ranked d silent on =
    let first = first_gate net in
    let f = through draft kept in
    let n = first + at in
    let m = first + place in
    let N = renamed_net net f new in
    let pause = N.paused == m in
    let outs = list_any (λ (o : NetOut). o.net.0 == m) N.outputs in
    let lats = list_any (λ (l : Latch). l.from.0 == m) N.latches in
    let gs = list_any (λ (g : Gate). reads g.op m) N.gates in
    let begun = marked (first_marks first mid) n in
    let old_outs = list_any (λ (o : NetOut). stand_in draft o.net.0 == n) net.outputs in
    let old_lats = list_any (λ (l : Latch). stand_in draft l.from.0 == n) net.latches in
    let old_pause = stand_in draft net.paused == n in
    let moved = λ (i : ℕ) (e : stand_in draft i ≡ n). ap (stand_in kept) e ∙ p.packs.stand_in_is n (omega (arith, p.packs.count)) ∙ ranked in
    let shown = λ (i : ℕ) (e : (stand_in draft i == n) ≡ true). eq-eqb (f i) m (moved i (eqb-true (stand_in draft i) n e)) in
    let off : begun ≡ false = first-gate first mid at d within ∙ ap is_some silent in
    elim (p.needs.needed n on) [
      | inl root ↦ elim (or_cases ((begun || old_outs) || old_lats) old_pause (sym (p.roots n) ∙ root)) [
        | inl others ↦ elim (or_cases (begun || old_outs) old_lats others) [
          | inl begun_or ↦ elim (or_cases begun old_outs begun_or) [
            | inl never ↦ absurd (both_ways begun off never)
            | inr out ↦ or_left ((pause || outs) || lats) gs (or_left (pause || outs) lats (or_right pause outs
                (list_any-mapped (λ (o : NetOut). stand_in draft o.net.0 == n) (λ (o : NetOut). o.net.0 == m) (renamed_out f) net.outputs
                (λ o e. shown o.net.0 e) out)))
          ]
          | inr latch ↦ or_left ((pause || outs) || lats) gs (or_right (pause || outs) lats
              (list_any-mapped (λ (l : Latch). stand_in draft l.from.0 == n) (λ (l : Latch). l.from.0 == m) (renamed_latch f) net.latches
              (λ l e. shown l.from.0 e) latch))
        ]
        | inr paused ↦ or_left ((pause || outs) || lats) gs (or_left (pause || outs) lats (or_left pause outs (shown net.paused paused)))
      ]
      | inr r ↦
          let l = lands first marks mid new kept r.at p.closed p.packs r.within r.kept in
          let read = renamed-reads (rank marks) (slice_index_or mid r.at d).op n (r.read d) in
          or_right ((pause || outs) || lats) gs (list_any_at (λ (g : Gate). reads g.op m) new l.place d l.within
          (ap (λ o. reads o m) (l.op d) ∙ ap (reads (renamed_op (rank marks) (slice_index_or mid r.at d).op)) (sym ranked) ∙ read))
    ]

used : (net : Netlist) (draft kept : List NetId) (mid new : List Gate) (before marks : List Bool) → Passes net draft kept mid new before marks
    → EachIsUsed (renamed_net net (through draft kept) new)
used net draft kept mid new before marks p = λ k d hk sk.
    let a = p.packs.from k hk in
    let e = first-same net (through draft kept) new in
    ap (λ first. is_used (renamed_net net (through draft kept) new) (first + k)) e
    ∙ used-at net draft kept mid new before marks p a.at k a.within a.ranked d (sym (a.wire d) ∙ sk) a.kept

pub simplified : (net : Netlist) (draft kept : List NetId) (mid new : List Gate) (before marks : List Bool)
    → Passes net draft kept mid new before marks → Simplified net (renamed_net net (through draft kept) new)
simplified net draft kept mid new before marks p =
    let f = through draft kept in
    let k = keeps net draft kept mid new before marks p in
    let asked = asks-for net draft kept mid new before marks p in
    let Asked = λ (n : ℕ). IsTrue (marked marks (stand_in draft n)) in
    let parts = same-parts net f Asked new k in
    let instants = same-instants net f Asked new p.is_net k asked in
    record {
      parts = parts;
      instants = instants;
      runs = same-runs net (renamed_net net f new) parts.latches instants;
      simple = record {
        once = once net draft kept mid new before marks p;
        reduced = reduced net draft kept mid new before marks p;
        no_copies = no-copies net draft kept mid new before marks p;
        reads_computed = reads-computed net draft kept mid new before marks p;
        reads_none_twice = reads-none-twice net draft kept mid new before marks p;
        used = used net draft kept mid new before marks p;
      };
    }

-- ---- what the calls say, put together

pub closed-of : (net : Netlist) (first : ℕ) (draft : List NetId) (mid mid_of_marks mid_of_packs : List Gate) (begun marks marks_of_packs : List Bool)
    → first ≡ first_gate net → begun ≡ first_marks first mid_of_marks → mid_of_marks ≡ mid → Needed net draft mid begun marks
    → mid_of_packs ≡ mid → marks_of_packs ≡ marks → Closed first mid_of_packs marks_of_packs
closed-of net first draft mid mid_of_marks mid_of_packs begun marks marks_of_packs first_is begun_is mid_is needed mid_again marks_again =
    let begun_whole : begun ≡ first_marks (first_gate net) mid = begun_is
    ∙ ap (λ f. first_marks f mid_of_marks) first_is ∙ ap (first_marks (first_gate net)) mid_is in
    let roots = subst (λ b. RootMarks net draft b needed.before) begun_whole needed.roots in
    let count = needed.count ∙ ap length begun_whole ∙ first_marks-length (first_gate net) mid in
    let closed = closed-from net draft mid needed.before marks roots count needed.needs in
    subst (λ ms. Closed first mid_of_packs ms) (sym marks_again)
    (subst (λ gs. Closed first gs marks) (sym mid_again) (subst (λ f. Closed f mid marks) (sym first_is) closed))

pub passes-of : (net : Netlist) (first : ℕ) (old mid mid_of_marks mid_of_packs new : List Gate) (draft kept : List NetId)
    (begun marks marks_of_packs : List Bool)
    → IsNet net → first ≡ first_gate net → old ≡ net.gates → Folded first old mid draft
    → begun ≡ first_marks first mid_of_marks → mid_of_marks ≡ mid → (needed : Needed net draft mid begun marks)
    → mid_of_packs ≡ mid → marks_of_packs ≡ marks → Packed first marks_of_packs mid_of_packs new kept
    → Passes net draft kept mid new needed.before marks
passes-of net first old mid mid_of_marks mid_of_packs new draft kept begun marks marks_of_packs is first_is old_is folds begun_is mid_is needed
    mid_again marks_again
    packs =
    let begun_whole : begun ≡ first_marks (first_gate net) mid = begun_is
    ∙ ap (λ f. first_marks f mid_of_marks) first_is ∙ ap (first_marks (first_gate net)) mid_is in
    let roots = subst (λ b. RootMarks net draft b needed.before) begun_whole needed.roots in
    let count = needed.count ∙ ap length begun_whole ∙ first_marks-length (first_gate net) mid in
    record {
      is_net = is;
      folds = subst (λ f. Folded f net.gates mid draft) first_is (subst (λ gs. Folded first gs mid draft) old_is folds);
      roots = roots;
      needs = needed.needs;
      closed = closed-from net draft mid needed.before marks roots count needed.needs;
      packs = subst (λ f. Packed f marks mid new kept) first_is (subst (λ gs. Packed first marks gs new kept) mid_again
          (subst (λ ms. Packed first ms mid_of_packs new kept) marks_again packs));
    }
