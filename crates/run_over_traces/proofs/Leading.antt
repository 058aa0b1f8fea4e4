-- Items between readings, and what they drive: one list behind another.
use Rattle.std.proofs.Common.{◌≡◌, ◌+◌, List, [], ◌∷◌, ◌++◌, Some, None, sym, subst, append-nil}
use Rattle.std.proofs.lemmas.List.{append_assoc}
use Rattle.base_types.specs.Items.{Item, Event, Reset}
use Rattle.run_trace_io.specs.declared.faults.TraceFault.{TraceFault}
use Rattle.run_trace_io.specs.Traces.{Reading, next_group, End}
use Rattle.run_trace_io.specs.Answers.{IsTrace, IsFault}
use Rattle.run_over_traces.specs.Machines.{ShownAnswer}
use Rattle.run_over_traces.specs.Running.{IsTraceFront}
use Rattle.run_over_traces.specs.Steps.{Leads, Led}

pub leads-more : (r s t : Reading) (xs ys : List Item) → Leads r xs s → Leads s ys t → Leads r (xs ++ ys) t
leads-more r s t [] ys a b = subst (λ q. Leads q ys t) a b
leads-more r s t (Reset ∷ xs) ys a b = (a.0, a.1, leads-more (record r { at = a.0 }) s t xs ys a.2 b)
leads-more r s t (Event event ∷ xs) ys a b =
    (a.0, a.1, a.2, leads-more (record r { at = a.0; instant = r.instant + 1 }) s t xs ys a.3 b)

pub front-leads : (r s : Reading) (xs : List Item) → Leads r xs s → IsTraceFront r xs
front-leads r s [] a = tt
front-leads r s (Reset ∷ xs) a = (a.0, a.1, front-leads (record r { at = a.0 }) s xs a.2)
front-leads r s (Event event ∷ xs) a =
    (a.0, a.1, a.2, front-leads (record r { at = a.0; instant = r.instant + 1 }) s xs a.3)

pub whole-leads : (r s : Reading) (xs : List Item) → Leads r xs s → next_group s ≡ End → IsTrace r xs None
whole-leads r s [] a end = subst (λ q. next_group q ≡ End) a end
whole-leads r s (Reset ∷ xs) a end = (a.0, a.1, whole-leads (record r { at = a.0 }) s xs a.2 end)
whole-leads r s (Event event ∷ xs) a end =
    (a.0, a.1, a.2, whole-leads (record r { at = a.0; instant = r.instant + 1 }) s xs a.3 end)

pub fault-leads : (r s : Reading) (xs : List Item) (fault : TraceFault) → Leads r xs s → IsFault s fault → IsTrace r xs (Some fault)
fault-leads r s [] fault a is = subst (λ q. IsFault q fault) a is
fault-leads r s (Reset ∷ xs) fault a is = (a.0, a.1, fault-leads (record r { at = a.0 }) s xs fault a.2 is)
fault-leads r s (Event event ∷ xs) fault a is =
    (a.0, a.1, a.2, fault-leads (record r { at = a.0; instant = r.instant + 1 }) s xs fault a.3 is)

pub led-nowhere : {S : Type 0} (shows : S → List Item → List ShownAnswer → Type 0) (s : S) → Led shows s [] [] s
led-nowhere shows s = record { in_front = λ more behind h. h }

pub led-more : {S : Type 0} (shows : S → List Item → List ShownAnswer → Type 0) (r s t : S) (xs : List Item) (before : List ShownAnswer) (ys : List Item)
    (behind : List ShownAnswer) → Led shows r xs before s → Led shows s ys behind t → Led shows r (xs ++ ys) (before ++ behind) t
led-more shows r s t xs before ys behind a b = record {
  in_front = λ more rest h.
      let joined = a.in_front (ys ++ more) (behind ++ rest) (b.in_front more rest h) in
      subst (λ x. shows r x ((before ++ behind) ++ rest)) (sym (append_assoc xs ys more))
      (subst (λ x. shows r (xs ++ (ys ++ more)) x) (sym (append_assoc before behind rest)) joined);
}

-- where a machine shows nothing to no items, it showed these answers to the items on its way
pub led-shown : {S : Type 0} (shows : S → List Item → List ShownAnswer → Type 0) (s t : S) (items : List Item) (answers : List ShownAnswer) → shows t [] []
    → Led shows s items answers t → shows s items answers
led-shown shows s t items answers ends led =
    subst (λ x. shows s x answers) (append-nil items) (subst (λ x. shows s (items ++ []) x) (append-nil answers) (led.in_front [] [] ends))
