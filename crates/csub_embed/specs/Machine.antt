-- To believe: what calls do on any number of instances. An instance has a value for each member of its state, and a
-- call of NAME_react or NAME_reset on it changes those alone. The structures of a call do not overlap.
use Rattle.std.specs.Prelude.{ℕ, Bool, not, ◌&&◌, ◌||◌, List, [], ◌∷◌, ◌++◌, map, filter, nat_eq, if◌then◌else◌}
use Rattle.base_types.specs.Items.{Item, Event, Reset}
use Rattle.base_types.specs.Names.{is_same_name}
use Rattle.csub_text.specs.Machine.{Memory, with_value}
pub use Rattle.csub_text.specs.Machine.{SeenCall}
use Rattle.csub_embed.specs.Trees.{StateVariable, Place, State, Given, Local, Value, Const, Copy, Not, And, Or}
use Rattle.csub_embed.specs.Trees.{LocalValue, Transfer, Component}

-- ---- one call

-- the values of the members of the three structures, and those of the locals
pub record Frame : Type 0 where
  pub state : Memory
  pub given : Memory
  pub shown : Memory
  pub local : Memory

abbrev pub place_value : Frame → Place → Bool
place_value f (State name) = f.state name
place_value f (Given name) = f.given name
place_value f (Local name) = f.local name

-- In C99 `&` and `|` of two bools are their and and or. The bools become the ints 0 and 1 (6.3.1.1), whose bits are
-- combined (6.5.10, 6.5.12), and the 0 or 1 that this gives is the bool of the result (6.3.1.2).
abbrev pub value_at : Frame → Value → Bool
value_at f (Const value) = value
value_at f (Copy place) = place_value f place
value_at f (Not place) = not (place_value f place)
value_at f (And first second) = place_value f first && place_value f second
value_at f (Or first second) = place_value f first || place_value f second

-- the locals, one after another
abbrev pub run_locals : List LocalValue → Frame → Frame
run_locals [] f = f
run_locals (l ∷ locals) f =
    run_locals locals (record f { local = with_value l.name (value_at f l.value) f.local })

-- the members of the outputs are set, one after another
abbrev pub run_shown : List Transfer → Frame → Frame
run_shown [] f = f
run_shown (s ∷ stores) f = run_shown stores (record f { shown = with_value s.member (place_value f s.from) f.shown })

-- the members of the state are set, one after another
abbrev pub run_kept : List Transfer → Frame → Frame
run_kept [] f = f
run_kept (s ∷ stores) f = run_kept stores (record f { state = with_value s.member (place_value f s.from) f.state })

abbrev pub run_body : Component → Frame → Frame
run_body c f = run_kept c.kept (run_shown c.shown (run_locals c.locals f))

-- the members of the inputs have these values, in declared order
abbrev pub with_given : List (List ℕ) → List Bool → Memory → Memory
with_given (name ∷ names) (value ∷ values) memory =
    λ other. if is_same_name other name then value else with_given names values memory other
with_given others more memory = memory

-- A call of NAME_react with these inputs, on an instance with this state. What the outputs and the locals hold before
-- is `around`, of which nothing is known.
abbrev pub react : Component → List Bool → Memory → Frame → Frame
react c inputs state around =
    run_body c (record {
      state = state;
      given = with_given c.inputs inputs around.given;
      shown = around.shown;
      local = around.local;
    })

-- a call of NAME_reset, on an instance with this state
abbrev pub reset : List StateVariable → Memory → Memory
reset [] state = state
reset (s ∷ states) state = reset states (with_value s.name s.init state)

-- what is seen of a call of NAME_react: the members of the outputs in declared order, and the value returned
abbrev pub seen : Component → Frame → SeenCall
seen c f = record { outputs = map f.shown c.outputs; answer = place_value f c.answer }

-- ---- calls on instances

-- A call on the instance with this number: an event is a call of NAME_react, a reset one of NAME_reset.
pub record Call : Type 0 where
  pub instance : ℕ
  pub item : Item
  pub around : Frame

-- the states of all instances
abbrev pub InstanceStates : Type 0
InstanceStates = ℕ → Memory

-- the state of one instance is replaced, and that of no other
abbrev pub with_instance : ℕ → Memory → InstanceStates → InstanceStates
with_instance k state instances = λ other. if nat_eq k other then state else instances other

-- the state after a call, and what is seen of it: nothing where it is a reset
abbrev pub left_state : Component → Item → Frame → Memory → Memory
left_state c (Event inputs) around state = (react c inputs state around).state
left_state c Reset around state = reset c.states state

abbrev pub seen_after : Component → Item → Frame → Memory → List SeenCall
seen_after c (Event inputs) around state = seen c (react c inputs state around) ∷ []
seen_after c Reset around state = []

-- what is seen of a call, and of which instance
pub record SeenOf : Type 0 where
  pub instance : ℕ
  pub seen : SeenCall

-- what is seen of calls, one after another
abbrev pub run_calls : Component → InstanceStates → List Call → List SeenOf
run_calls c instances [] = []
run_calls c instances (x ∷ calls) =
    let state = instances x.instance in
    map (λ s. record { instance = x.instance; seen = s }) (seen_after c x.item x.around state)
    ++ run_calls c (with_instance x.instance (left_state c x.item x.around state) instances) calls

-- ---- one instance among others

-- what is seen of the calls on one instance
abbrev pub own_seen : ℕ → List SeenOf → List SeenCall
own_seen k all = map (λ s. s.seen) (filter (λ s. nat_eq s.instance k) all)

-- the items of the calls on one instance
abbrev pub own_items : ℕ → List Call → List Item
own_items k calls = map (λ x. x.item) (filter (λ x. nat_eq x.instance k) calls)

-- an instance is reset before its first event
abbrev pub BeginsReset : List Item → Type 0
BeginsReset [] = Unit {0}
BeginsReset (Event inputs ∷ items) = ⊥
BeginsReset (Reset ∷ items) = Unit {0}
