-- Inner: the reading function of the grammar, from the left with one token ahead. What it makes of an expression is
-- left open: it makes what is written, and what that means.
use Rattle.std.specs.Prelude.{ℕ, List, ◌∷◌, Option, Result}
use Rattle.std.specs.Borrow.{Bor}
use Rattle.net_expressions.specs.declared.kinds.Token.{Token}
use Rattle.net_expressions.specs.Reading as reading
use Rattle.net_expressions.specs.Reading.{Maker, FindsBy}
use Rattle.base_reader.specs.declared.faults.ReadError.{ReadError}
use Rattle.base_reader.specs.Readings.{Read, Rule, mapped, both, trail, on, the, maybe, loop, give}
use Rattle.base_reader.specs.Choice.{optional_or}
use Rattle.vlog_read.specs.declared.tokens.Kind.{Kind as CodeKind}
use Rattle.vlog_text.specs.Trees.{Declaration, Initial, Assign, Next, Source}
use Rattle.vlog_text.specs.Tokens.{Kind, ModuleWord, InitialWord, AssignWord, AlwaysWord, PosedgeWord, BeginWord}
use Rattle.vlog_text.specs.Tokens.{EndWord, EndmoduleWord, LeftParenthesis, RightParenthesis, Comma, Semicolon, Equals}
use Rattle.vlog_text.specs.Tokens.{At, Becomes}
use Rattle.vlog_text.specs.Grammar.{is, sign, name, bit, sort}
use Rattle.vlog_read.specs.Lexed.{kind_of}

-- what code returned of its tokens, seen by a view, is what a function answers on their kinds, unless memory ran out
abbrev pub FindsKinds : {X Y : Type 0} → (X → Y) → Result (X × Bor (List (Token CodeKind))) ReadError →
    Read Kind Y → Type 0
FindsKinds = FindsBy kind_of

-- expr
abbrev pub expr : {A : Type 0} → Maker A → ℕ → Rule Kind A
expr = reading.expr sign

-- ---- the head

abbrev pub port_step : Rule Kind (Option (List ℕ))
port_step = optional_or (is Comma) (λ _. the name) (give tt)

abbrev pub ports_rule : Rule Kind (List (List ℕ))
ports_rule = mapped (λ found. found.0 ∷ found.1) (both (the name) (loop port_step))

abbrev pub head_rule : Rule Kind (List ℕ × List (List ℕ))
head_rule =
    on (is ModuleWord) (λ _. both (the name) (on (is LeftParenthesis) (λ _. trail ports_rule
    (on (is RightParenthesis) (λ _. the (is Semicolon))))))

-- ---- declarations, first values and assignments

abbrev pub declaration_behind : Rule Kind (List ℕ)
declaration_behind = trail (the name) (the (is Semicolon))

abbrev pub declaration_rule : Rule Kind Declaration
declaration_rule = mapped (λ found. record { sort = found.0; name = found.1 }) (both (the sort) declaration_behind)

abbrev pub declaration_step : Rule Kind (Option Declaration)
declaration_step = maybe sort declaration_rule

-- after "initial"
abbrev pub initial_behind : Rule Kind Initial
initial_behind =
    mapped (λ found. record { name = found.0; value = found.1 })
    (both (the name) (on (is Equals) (λ _. trail (the bit) (the (is Semicolon)))))

abbrev pub initial_step : Rule Kind (Option Initial)
initial_step = maybe (is InitialWord) (on (is InitialWord) (λ _. initial_behind))

-- after "assign"
abbrev pub assign_behind : {A : Type 0} → Maker A → ℕ → Rule Kind (Assign A)
assign_behind m room =
    mapped (λ found. record { target = found.0; value = found.1 })
    (both (the name) (on (is Equals) (λ _. trail (expr m room) (the (is Semicolon)))))

abbrev pub assign_rule : {A : Type 0} → Maker A → ℕ → Rule Kind (Assign A)
assign_rule m room = on (is AssignWord) (λ _. assign_behind m room)

abbrev pub assign_step : {A : Type 0} → Maker A → ℕ → Rule Kind (Option (Assign A))
assign_step m room = maybe (is AssignWord) (assign_rule m room)

-- ---- registers

abbrev pub clock_rule : Rule Kind (List ℕ)
clock_rule =
    on (is AlwaysWord) (λ _. on (is At) (λ _. on (is LeftParenthesis) (λ _. on (is PosedgeWord) (λ _.
    trail (the name) (on (is RightParenthesis) (λ _. the (is BeginWord)))))))

-- after a name
abbrev pub next_behind : Rule Kind (List ℕ)
next_behind = on (is Becomes) (λ _. trail (the name) (the (is Semicolon)))

abbrev pub next_rule : Rule Kind Next
next_rule = mapped (λ found. record { target = found.0; source = found.1 }) (both (the name) next_behind)

abbrev pub next_step : Rule Kind (Option Next)
next_step = maybe name next_rule

abbrev pub clocked_rule : Rule Kind (List ℕ × List Next)
clocked_rule =
    both clock_rule (trail (loop next_step) (on (is EndWord) (λ _. the (is EndmoduleWord))))

-- ---- whole texts

abbrev pub Found : Type 0 → Type 0
Found A =
    (List ℕ × List (List ℕ)) × (List Declaration × (List Initial × (List (Assign A) × (List ℕ × List Next))))

abbrev pub source_of : {A : Type 0} → Found A → Source A
source_of found = record {
  name = found.0.0;
  ports = found.0.1;
  declarations = found.1.0;
  initials = found.1.1.0;
  assigns = found.1.1.1.0;
  clock = found.1.1.1.1.0;
  nexts = found.1.1.1.1.1;
}

abbrev pub found_rule : {A : Type 0} → Maker A → ℕ → Rule Kind (Found A)
found_rule m room =
    both head_rule (both (loop declaration_step) (both (loop initial_step)
    (both (loop (assign_step m room)) clocked_rule)))

abbrev pub text_rule : {A : Type 0} → Maker A → ℕ → Rule Kind (Source A)
text_rule m room = mapped source_of (found_rule m room)
