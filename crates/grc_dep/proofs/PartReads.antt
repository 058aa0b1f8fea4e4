-- The codes of statements by their numbers, and what is read of a listed statement.
use Rattle.std.proofs.Common.{◌≡◌, ℕ, ◌+◌, ◌<◌, ◌∷◌, ◌++◌, ◌∙◌, map, length, refl, ap, sym, subst, arith}
use Rattle.std.specs.Prelude.{flat_map}
use Rattle.std.proofs.lemmas.List.{length-map}
use Rattle.std.proofs.lemmas.List.Folds.{flat_map-map}
use Rattle.est_kernel.specs.declared.code_lists.Codes.{Codes}
use Rattle.est_kernel.specs.CodeLists.{AreCodesOf}
use Rattle.est_kernel.specs.Plain.{Program, term_of}
use Rattle.est_kernel.specs.Preorder.{statement_count}
use Rattle.est_kernel.specs.StaticCodes.{started_codes, resumed_codes}
use Rattle.est_kernel.specs.WellFormed.{IsKernel, KeepsLimits}
use Rattle.est_kernel.specs.Terms.{Term, Nothing, Pause, Emit, Exit, Present, Suspend, Seq, Loop, Par, Trap, Local, Awake}
use Rattle.grc_graph.specs.declared.statements.Statement.{Statement}
use Rattle.grc_graph.specs.CodeTables.{HasCodesAt}
use Rattle.grc_graph.specs.Edges.{edges_at, edges}
use Rattle.grc_graph.specs.GraphRuns.{program_spots}
use Rattle.grc_graph.specs.Instances.{body_instances}
use Rattle.grc_graph.specs.Layers.{Liveness, Resumed, Started, part_liveness, second_liveness, loop_liveness}
use Rattle.grc_graph.specs.Rows.{Row, row, rows, row_at, second_of, listed_row, program_rows, spot_at}
use Rattle.grc_graph.specs.Scopes.{Scope, bind}
use Rattle.grc_graph.specs.Spots.{Spot}
use Rattle.grc_graph.specs.Statements.{Entry, Part, Branch, Then, Else, Suspended, Second, Looped, Listed, signals_of}
use Rattle.grc_graph.specs.StatementViews.{view_of, binding_of}
use Rattle.grc_graph.proofs.Exports.{StandsAt, statement_count-le, program_placed, codes_read, length-program_rows, Read, row_read, length-rows, stands_one}
use Rattle.grc_graph.proofs.Exports.{stands_first, stands_second, program_spots_by_row}
use Rattle.grc_dep.specs.InstanceEdges.{instance_edges}
use Rattle.grc_dep.specs.PartCodes.{PartsHaveCodes, IsListed}

pub own_codes : (c : Codes) (t : Term) (n : ℕ) → PartsHaveCodes c t n → HasCodesAt c t n
own_codes c Nothing n h = h
own_codes c Pause n h = h
own_codes c (Emit s) n h = h
own_codes c (Exit k) n h = h
own_codes c _ n h = h.0

-- ---- codes by rows

of_row : (c : Codes) (p : Program) (m : ℕ) (r : Row) → AreCodesOf c p.body → Read (program_rows p) m r → HasCodesAt c r.statement m
of_row c p m r are read =
    let k = codes_read c p m are (omega (arith, read.within, length-program_rows p)) in
    record {
      started_in = k.started_in;
      resumed_in = k.resumed_in;
      started = k.codes (Started 0) ∙ ap (λ r. started_codes r.statement) read.same;
      resumed = k.codes Resumed ∙ ap (λ r. resumed_codes r.statement) read.same;
    }

has_one : (c : Codes) (p : Program) (a b : Liveness) (B C : Scope) (x y : Entry) (t q : Term) (n : ℕ) → AreCodesOf c p.body
    → StandsAt (program_rows p) n (rows a B x t n) → StandsAt (program_rows p) (n + 1) (rows b C y q (n + 1)) → HasCodesAt c t n × HasCodesAt c q (n + 1)
has_one c p a b B C x y t q n are h g = (
  of_row c p n _ are (row_read (program_rows p) a B x t n h),
  of_row c p (n + 1) _ are (row_read (program_rows p) b C y q (n + 1) g),
)

has_two : (c : Codes) (p : Program) (a b d : Liveness) (B : Scope) (x y z : Entry) (t q u : Term) (n : ℕ) → AreCodesOf c p.body
    → StandsAt (program_rows p) n (rows a B x t n)
    → rows a B x t n ≡ row a B x t (n + 1 + statement_count q) ∷ (rows b B y q (n + 1) ++ rows d B z u (n + 1 + statement_count q))
    → HasCodesAt c t n × HasCodesAt c q (n + 1) × HasCodesAt c u (n + 1 + statement_count q)
has_two c p a b d B x y z t q u n are h e =
    let W = program_rows p in
    let m = n + 1 + statement_count q in
    let g = subst (StandsAt W n) e h in (
      of_row c p n _ are (row_read W a B x t n h),
      of_row c p (n + 1) _ are (row_read W b B y q (n + 1) (stands_first W n (row a B x t m) (rows b B y q (n + 1)) (rows d B z u m) g)),
      of_row c p m _ are (row_read W d B z u m
          (stands_second W n (row a B x t m) q (rows b B y q (n + 1)) (rows d B z u m) (length-rows b B y q (n + 1)) g)),
    )

parts_of : (c : Codes) (p : Program) (a : Liveness) (B : Scope) (x : Entry) (t : Term) (n : ℕ) → AreCodesOf c p.body
    → StandsAt (program_rows p) n (rows a B x t n) → PartsHaveCodes c t n
parts_of c p a B x (Present e q u) n are h =
    has_two c p a (part_liveness a q) (part_liveness a u) B x (Then n e) (Else n e) (Present e q u) q u n are h refl
parts_of c p a B x (Suspend e q) n are h =
    has_one c p a (part_liveness a q) B B x (Suspended n e) (Suspend e q) q n are h (stands_one (program_rows p) n _ _ h)
parts_of c p a B x (Seq q u) n are h =
    has_two c p a (part_liveness a q) (second_liveness a q u (n + 1 + statement_count q)) B x (Branch n) (Second n) (Seq q u) q u n are h refl
parts_of c p a B x (Loop at q) n are h =
    has_one c p a (loop_liveness a q (n + 1)) B B x (Looped n) (Loop at q) q n are h (stands_one (program_rows p) n _ _ h)
parts_of c p a B x (Par q u) n are h =
    has_two c p a (part_liveness a q) (part_liveness a u) B x (Branch n) (Branch n) (Par q u) q u n are h refl
parts_of c p a B x (Trap q) n are h =
    has_one c p a (part_liveness a q) B B x (Part n) (Trap q) q n are h (stands_one (program_rows p) n _ _ h)
parts_of c p a B x (Local s q) n are h =
    has_one c p a (part_liveness a q) B (bind B s n) x (Part n) (Local s q) q n are h (stands_one (program_rows p) n _ _ h)
parts_of c p a B x (Awake e q) n are h =
    has_one c p a (part_liveness a q) B B x (Part n) (Awake e q) q n are h (stands_one (program_rows p) n _ _ h)
parts_of c p a B x t n are h = of_row c p n _ are (row_read (program_rows p) a B x t n h)

-- ---- a statement of the list

-- what the row of a statement says of it
pub record ReadsRow (s : Statement) (c : Codes) (r : Row) (n : ℕ) : Type 0 where
  pub listed : IsListed s n
  pub codes : PartsHaveCodes c (term_of s.body.now) n
  pub statement : term_of s.body.now ≡ r.statement
  pub signals : map binding_of s.signals.items ≡ map r.scope (signals_of (term_of s.body.now))

pub reads_row : (p : Program) (c : Codes) (s : Statement) (n : ℕ) → KeepsLimits p.body → AreCodesOf c p.body → n < statement_count p.body
    → view_of s ≡ listed_row (row_at (program_rows p) n) → ReadsRow s c (row_at (program_rows p) n) n
reads_row p c s n keeps are low e =
    let W = program_rows p in
    let r = row_at W n in
    let placed = program_placed p n low in
    let is : term_of s.body.now ≡ r.statement = ap (λ (v : Listed). v.statement) e in
    let bound : map binding_of s.signals.items ≡ map r.scope (signals_of (term_of s.body.now)) =
    ap (λ (v : Listed). v.signals) e ∙ ap (λ t. map r.scope (signals_of t)) (sym is) in
    record {
      listed = record {
        second = ap (λ (v : Listed). v.second) e ∙ placed.second ∙ ap (λ t. second_of t n) (sym is);
        signals = sym (length-map s.signals.items binding_of) ∙ ap length bound ∙ length-map (signals_of (term_of s.body.now)) r.scope;
        fits = omega (
          arith,
          placed.stands.within,
          length-rows r.live r.scope r.entry r.statement n,
          length-program_rows p,
          ap statement_count is,
          statement_count-le p.body,
          keeps.size,
        );
      };
      codes = subst (λ t. PartsHaveCodes c t n) (sym is) (parts_of c p r.live r.scope r.entry r.statement n are placed.stands);
      statement = is;
      signals = bound;
    }

-- ---- all instances

pub spots_edges : (p : Program) → IsKernel p.body → edges (program_spots p) ≡ flat_map (instance_edges (program_rows p)) (body_instances p.body)
spots_edges p k =
    ap edges (program_spots_by_row p k)
    ∙ flat_map-map (λ (x : Spot). edges_at x.scope x.statement x.path x.layer) (spot_at (program_rows p)) (body_instances p.body)
