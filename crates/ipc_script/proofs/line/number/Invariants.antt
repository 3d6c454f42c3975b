use Rattle.std.proofs.Common.{◌≡◌, ◌<◌, ◌^◌, take}
use Rattle.std.specs.Str.Parse.{AllDigits, digits_value}
use Rattle.ipc_script.proofs.line.number.Given as goal

-- the bytes so far are digits, and spell the number so far, which is not too large yet
abbrev pub invariant-loop-digit : goal.invariant-loop-digit
invariant-loop-digit l = record {
  digits : AllDigits 10 (take l.digit-index l.digits);
  value : l.number ≡ digits_value 10 (take l.digit-index l.digits);
  fits : l.number < 2 ^ 64;
}
