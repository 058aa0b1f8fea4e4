use Rattle.std.proofs.Common.{◌≡◌, ◌^◌, ◌<◌, take, true}
use Rattle.std.specs.List.{list_all}
use Rattle.base_types.specs.Names.{is_digit}
use Rattle.cec_words.specs.Numbers.{decimal_value}
use Rattle.cec_words.proofs.numbers.number.Given as goal

-- the digits so far, and their value
abbrev pub invariant-loop-byte : goal.invariant-loop-byte
invariant-loop-byte l = record {
  value : l.value ≡ decimal_value (take l.byte-index l.bytes);
  fits : l.value < 2 ^ 64;
  digits : list_all is_digit (take l.byte-index l.bytes) ≡ true;
}
