use Rattle.std.proofs.Common.{◌+◌, ◌≤◌, [], length, arith}
use Rattle.qml_lex.proofs.Steps.{within_rest, bad_here, reads_blank, bad_blank}
use Rattle.qml_lex.proofs.Scanning.{next_none, next_some, stands_still, stands_on, same_text}
use Rattle.qml_lex.proofs.lexer.Scanner.next_token.Goals as goal

-- At the end

pub returns-in-End-clause-text : goal.returns-in-End-clause-text
returns-in-End-clause-text c = same_text _ _ c.loop-len.invariant.unmoved

pub returns-in-End-clause-stands : goal.returns-in-End-clause-stands
returns-in-End-clause-stands c = stands_still _ _ c.loop-len.invariant.unmoved c.requires

pub returns-in-End-clause-next : goal.returns-in-End-clause-next
returns-in-End-clause-next c = next_none _ _ _ c.loop-len.invariant.read c.in-End.ensures.value

pub returns-in-End-clause-stays : goal.returns-in-End-clause-stays
returns-in-End-clause-stays c = c.loop-len.invariant.unmoved

-- At what is no token

pub returns-in-Bad-clause-text : goal.returns-in-Bad-clause-text
returns-in-Bad-clause-text c = same_text _ _ c.loop-len.invariant.unmoved

pub returns-in-Bad-clause-stands : goal.returns-in-Bad-clause-stands
returns-in-Bad-clause-stands c = stands_still _ _ c.loop-len.invariant.unmoved c.requires

pub returns-in-Bad-clause-bad : goal.returns-in-Bad-clause-bad
returns-in-Bad-clause-bad c = bad_here _ _ _ _ c.loop-len.invariant.bad c.in-Bad.ensures.value c.loop-len.invariant.place

pub returns-in-Bad-clause-stays : goal.returns-in-Bad-clause-stays
returns-in-Bad-clause-stays c = c.loop-len.invariant.unmoved

-- Past a blank

pub loop-len-preserved : goal.loop-len-preserved
loop-len-preserved c =
    let within : c.loop-len.at + c.in-Blank.len ≤ length c.args.self.now.bytes.now =
    within_rest c.args.self.now.bytes.now c.loop-len.at c.in-Blank.len c.loop-len.invariant.within c.in-Blank.ensures.within.1 in
    record {
      unmoved = c.loop-len.invariant.unmoved;
      within = within;
      behind = omega (arith, c.loop-len.invariant.behind);
      place = c.advance-span.ensures;
      read = reads_blank _ _ _ _ [] c.loop-len.invariant.read c.in-Blank.ensures.value (c.in-Blank.ensures.within.0, within);
      bad = bad_blank _ _ _ _ c.loop-len.invariant.bad c.in-Blank.ensures.value (c.in-Blank.ensures.within.0, within);
    }

-- At a token

pub returns-in-Lexeme-clause-text : goal.returns-in-Lexeme-clause-text
returns-in-Lexeme-clause-text c = same_text _ _ c.loop-len.invariant.unmoved

pub returns-in-Lexeme-clause-stands : goal.returns-in-Lexeme-clause-stands
returns-in-Lexeme-clause-stands c =
    let within : c.loop-len.at + c.in-Lexeme.len ≤ length c.args.self.now.bytes.now =
    within_rest c.args.self.now.bytes.now c.loop-len.at c.in-Lexeme.len c.loop-len.invariant.within c.in-Lexeme.ensures.within.1 in
    stands_on c.args.self.now _ _ _ c.loop-len.invariant.unmoved c.requires within c.advance-self.ensures

pub returns-in-Lexeme-clause-next : goal.returns-in-Lexeme-clause-next
returns-in-Lexeme-clause-next c =
    let within : c.loop-len.at + c.in-Lexeme.len ≤ length c.args.self.now.bytes.now =
    within_rest c.args.self.now.bytes.now c.loop-len.at c.in-Lexeme.len c.loop-len.invariant.within c.in-Lexeme.ensures.within.1 in
    next_some _ _ _ _ _ _ c.requires.utf8 c.loop-len.invariant.behind c.loop-len.invariant.read c.loop-len.invariant.bad c.in-Lexeme.ensures.value (c.in-Lexeme.ensures.within.0, within) c.loop-len.invariant.place
