use Rattle.std.proofs.Common.{◌≡◌, ◌-◌, ◌≤◌, length}
use Rattle.qml_lex.specs.Places.{place_of}
use Rattle.qml_lex.proofs.Scanning.{ReadsOn, StaysBad}
use Rattle.qml_lex.proofs.lexer.Scanner.next_token.Given as goal

-- behind blanks alone the rest is read as all is
abbrev pub invariant-loop-len : goal.invariant-loop-len
invariant-loop-len l = record {
  unmoved : l.self ≡ l.fn.self;
  within : l.at ≤ length l.bytes;
  behind : l.initial.at ≤ l.at;
  place : l.span ≡ place_of l.bytes l.at;
  read : ReadsOn l.bytes l.initial.at l.at;
  bad : StaysBad l.bytes l.initial.at l.at;
}

abbrev pub decreases-loop-len : goal.decreases-loop-len
decreases-loop-len l = length l.bytes - l.at
