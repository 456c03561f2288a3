-- Where a statement or a member ends, and what was read since a moment.
use Rattle.std.specs.Prelude.{◌-◌, ◌||◌, not, Bool, if◌then◌else◌, List, length, slice_range, Option, Ok, Err, is_none}
use Rattle.qml_grammar.specs.Inputs.{Parser, ahead, after, refusal, pure, ◌>>=◌, ◌>>◌}
use Rattle.qml_grammar.specs.Lexemes.{Token, is_mark, last_of, same_line}
use Rattle.qml_grammar.specs.declared.mark.Mark.TheVariants.{CloseBrace, Semicolon}

-- the tokens that were read, where these were left before and now
abbrev pub since : List Token → List Token → List Token
since before now = slice_range before 0 (length before - length now)

-- no `;` is wanted between the last token and the next one
abbrev pub may_end : Option Token → Option Token → Bool
may_end last next = is_none next || is_mark CloseBrace next || not (same_line last next) || is_mark CloseBrace last || is_mark Semicolon last

-- end = ";" or nothing, behind the last token
unfoldable pub end_behind : Option Token → Parser (Unit {0})
end_behind last i = if is_mark Semicolon (ahead i) then Ok (tt, after i) else (if may_end last (ahead i) then Ok (tt, i) else Err (refusal i))

-- what the parser reads, with its end
unfoldable pub ended : {A : Type 0} → Parser A → Parser A
ended p i = (do x ← p; λ j. (do end_behind (last_of (since i.rest j.rest)); pure x) j) i
