-- To believe: what a token is in an expression, and tests of one token by numbers and by signs.
use Rattle.std.specs.Prelude.{ℕ, ◌==◌, Bool, List, Option, Some, None, if◌then◌else◌}

-- a name, a constant, one of the operators and brackets, or nothing that an expression has
pub data Sign : Type 0 where
  NameSign : (name : List ℕ) → Sign
  BitSign : (value : Bool) → Sign
  NotSign : Sign
  OpenSign : Sign
  CloseSign : Sign
  AndSign : Sign
  OrSign : Sign
  OtherSign : Sign

-- a number for each, the same for all names and for both constants
abbrev pub sign_number : Sign → ℕ
sign_number (NameSign name) = 0
sign_number (BitSign value) = 1
sign_number NotSign = 2
sign_number OpenSign = 3
sign_number CloseSign = 4
sign_number AndSign = 5
sign_number OrSign = 6
sign_number OtherSign = 7

-- a token whose number is this one
abbrev pub numbered_as : {K : Type 0} → (K → ℕ) → ℕ → K → Option (Unit {0})
numbered_as number n token = if n == number token then Some tt else None

-- a token with the sign of an operator or a bracket
abbrev pub signed : {K : Type 0} → (K → Sign) → Sign → K → Option (Unit {0})
signed sign expected = numbered_as (λ token. sign_number (sign token)) (sign_number expected)

abbrev pub name_in : Sign → Option (List ℕ)
name_in (NameSign name) = Some name
name_in others = None

-- NAME
abbrev pub named : {K : Type 0} → (K → Sign) → K → Option (List ℕ)
named sign token = name_in (sign token)

abbrev pub bit_in : Sign → Option Bool
bit_in (BitSign value) = Some value
bit_in others = None

-- BIT
abbrev pub constant : {K : Type 0} → (K → Sign) → K → Option Bool
constant sign token = bit_in (sign token)
