-- What netlists that keep what two programs mean carry back to them of a comparison.
use Rattle.std.proofs.Common.{◌≡◌, ℕ, Bool, ◌==◌, List, [], ◌∷◌, ◌++◌, map, Some, refl, sym, ap, ◌∙◌, subst}
use Rattle.std.proofs.lemmas.List.{same_from_push}
use Rattle.base_types.specs.Items.{Item}
use Rattle.est_kernel.specs.Plain.{Program}
use Rattle.est_kernel.specs.Reactions.{Answer}
use Rattle.est_kernel.specs.WellFormed.{IsWellFormed}
use Rattle.net_ir.specs.Netlists.{Netlist}
use Rattle.net_never.specs.Reached.{items_of}
use Rattle.cec_compile.specs.Meaning.{AreItems, Seen, seen_of}
use Rattle.cec_compile.specs.NetMeaning.{NetKeeps, net_seen}
use Rattle.cec_prove_sources.specs.DeviceSameness.{AreDifferentDevices, AreSameDevices, IsDeviceComparison, SharesNames}
use Rattle.cec_prove_sources.specs.NetDevices.{net_device, row_of}
use Rattle.cec_prove_sources.specs.Sameness.{AreDifferent, AreSame, IsComparison, SharesInterface}
use Rattle.cec_prove_sources.specs.TraceTexts.{IsTraceOver}
use Rattle.cec_prove_sources.specs.declared.questions.Comparison.{Comparison}
use Rattle.cec_prove_sources.specs.declared.questions.Comparison.TheVariants as comparisons
use Rattle.cec_prove_sources.specs.declared.questions.Layout.TheVariants.{LinePerInstant}
use Rattle.cec_prove_sources.proofs.Joint.{fits-program, program-fits}
use Rattle.cec_prove_sources.proofs.Rendering.{fits-by}

-- ---- rows and what is seen

row-seen : (a b : Answer) → row_of (net_seen a) ≡ row_of (net_seen b) → seen_of a ≡ seen_of b
row-seen a b e =
    let parts = same_from_push a.outputs b.outputs (a.code == 1) (b.code == 1) e in
    λ i. record { outputs = parts.0 i; paused = parts.1 i }

rows-seen : (xs ys : List Answer) → map row_of (map net_seen xs) ≡ map row_of (map net_seen ys) → map seen_of xs ≡ map seen_of ys
rows-seen [] [] e = refl
rows-seen [] (y ∷ ys) e = cc
rows-seen (x ∷ xs) [] e = cc
rows-seen (x ∷ xs) (y ∷ ys) e =
    let here = row-seen x y cc in
    let rest = rows-seen xs ys cc in
    λ i. here i ∷ rest i

-- the last of these answers, whose row is the last one
pub record LastAnswer (row : List Bool) (xs : List Answer) : Type 0 where
  pub front : List Answer
  pub last : Answer
  pub is : xs ≡ front ++ last ∷ []
  pub shows : row ≡ row_of (net_seen last)

last-answer : (rows : List (List Bool)) (row : List Bool) (xs : List Answer) → rows ++ row ∷ [] ≡ map row_of (map net_seen xs) → LastAnswer row xs
last-answer [] row [] e = cc
last-answer [] row (x ∷ []) e = record { front = []; last = x; is = refl; shows = cc }
last-answer [] row (x ∷ y ∷ xs) e = cc
last-answer (r ∷ rows) row [] e = cc
last-answer (r ∷ rows) row (x ∷ xs) e =
    let l = last-answer rows row xs cc in
    record { front = x ∷ l.front; last = l.last; is = ap (λ ys. x ∷ ys) l.is; shows = l.shows }

seen-row : (a b : Answer) → seen_of a ≡ seen_of b → row_of (net_seen a) ≡ row_of (net_seen b)
seen-row a b e = ap (λ (s : Seen). s.outputs ++ s.paused ∷ []) e

-- ---- comparisons

module _ (left right : Netlist) (p q : Program) (fits-p : IsWellFormed p) (fits-q : IsWellFormed q) (keeps-p : NetKeeps left p) (keeps-q : NetKeeps right q)
  where
    shares : SharesNames (net_device p.relations left) (net_device q.relations right) → SharesInterface p q
    shares same = record {
      given = sym keeps-p.inputs ∙ same.inputs ∙ keeps-q.inputs;
      outgoing = sym keeps-p.outputs ∙ same.outputs ∙ keeps-q.outputs;
      relations = same.relations;
    }

    -- items of the first program are items of the second one
    other-items : SharesNames (net_device p.relations left) (net_device q.relations right) → (items : List Item) → AreItems p items → AreItems q items
    other-items same items are =
        fits-program right q fits-q keeps-q items
        (fits-by (net_device p.relations left) (net_device q.relations right) same.inputs same.relations items (program-fits left p fits-p keeps-p items are))

    are-same : AreSameDevices (net_device p.relations left) (net_device q.relations right) → AreSame p q
    are-same same = record {
      interface = shares same.names;
      answers = λ items are.
          let r = keeps-p.runs items are in
          let s = keeps-q.runs items (other-items same.names items are) in
          let found = same.rows items (program-fits left p fits-p keeps-p items are) in
          (r.0, s.0, r.1, s.1, rows-seen r.0 s.0 (sym (ap (map row_of) r.2) ∙ sym found.1 ∙ found.2 ∙ ap (map row_of) s.2));
    }

    are-different : (trace : List ℕ) → AreDifferentDevices (net_device p.relations left) (net_device q.relations right) trace → AreDifferent p q trace
    are-different trace a =
        let items = items_of a.events in
        let t = a.difference in
        let are = fits-program left p fits-p keeps-p items t.items_fit in
        let r = keeps-p.runs items are in
        let s = keeps-q.runs items (other-items a.names items are) in
        let x = last-answer t.left t.left_last r.0 (t.left_shows ∙ ap (map row_of) r.2) in
        let y = last-answer t.right t.right_last s.0 (t.right_shows ∙ ap (map row_of) s.2) in
        record {
          interface = shares a.names;
          events = a.events;
          difference = record {
            items_fit = are;
            left = x.front;
            left_last = x.last;
            left_runs = r.1 ∙ ap Some x.is;
            right = y.front;
            right_last = y.last;
            right_runs = s.1 ∙ ap Some y.is;
            differ = λ same. t.differ (x.shows ∙ seen-row x.last y.last same ∙ sym y.shows);
          };
          is_trace = subst (λ (names : List (List ℕ)). IsTraceOver LinePerInstant names p.relations a.events trace) keeps-p.inputs a.is_trace;
        }

    pub program-comparison : (comparison : Comparison) → IsDeviceComparison (net_device p.relations left) (net_device q.relations right) comparison
        → IsComparison p q comparison
    program-comparison comparisons.Same says = are-same says
    program-comparison (comparisons.Different trace) says = are-different trace.items says
    program-comparison (comparisons.Open depth) says = shares says
    program-comparison comparisons.OtherGiven says = λ same. says (keeps-p.inputs ∙ same ∙ sym keeps-q.inputs)
    program-comparison comparisons.OtherOutgoing says = λ same. says.1 (keeps-p.outputs ∙ same ∙ sym keeps-q.outputs)
    program-comparison comparisons.OtherRelations says = says
