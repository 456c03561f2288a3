use Rattle.qml_tokens.proofs.Steps.{told_more, told_all, bad_more}
use Rattle.qml_tokens.proofs.tokens.tokens_of_text.Goals as goal

pub loop-tokens-preserved : goal.loop-tokens-preserved
loop-tokens-preserved c = record {
  text = rw c.loop-tokens.invariant.text at c.in_ok-token.ensures.text;
  stands = c.in_ok-token.ensures.stands;
  told = rw c.in_ok-push.ensures.items (told_more c.args.bytes.now _ _ _ c.loop-tokens.tokens.items c.in_ok-token.field-0 c.in-Some.token c.in_ok-grammar_token.field-0 c.loop-tokens.invariant.text c.in_ok-token.ensures.next c.in-Some.is c.in_ok-grammar_token.ensures c.loop-tokens.invariant.told);
  bad = bad_more c.args.bytes.now _ _ _ _ c.in_ok-token.field-0 c.in-Some.token c.loop-tokens.invariant.text c.in_ok-token.ensures.next c.in-Some.is c.loop-tokens.invariant.bad;
}

pub returns : goal.returns
returns c = told_all c.args.bytes.now _ _ _ c.loop-tokens.tokens.items c.in_ok-token.field-0 c.loop-tokens.invariant.text c.in_ok-token.ensures.next c.in_default.is c.loop-tokens.invariant.told
