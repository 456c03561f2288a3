use Rattle.std.proofs.Common.{◌≡◌, ◌-◌, length}
use Rattle.qml_lex.specs.Reading.{first_offset}
use Rattle.qml_lex.specs.Scanning.{Stands}
use Rattle.qml_lex.proofs.Scanning.{StaysBad}
use Rattle.qml_tokens.proofs.Steps.{SoFar}
use Rattle.qml_tokens.proofs.tokens.tokens_of_text.Given as goal

-- the tokens so far and those of the rest are those of all, and what is bad in the rest is so in all
abbrev pub invariant-loop-tokens : goal.invariant-loop-tokens
invariant-loop-tokens l = record {
  text : l.scanner.bytes.now ≡ l.bytes;
  stands : Stands l.scanner;
  told : SoFar l.bytes l.scanner.at l.tokens.items;
  bad : StaysBad l.bytes (first_offset l.bytes) l.scanner.at;
}

abbrev pub decreases-loop-tokens : goal.decreases-loop-tokens
decreases-loop-tokens l = length l.bytes - l.scanner.at
