-- What stands behind a member: the first token of another one, or a `}`, on a later line.
use Rattle.std.proofs.Common.{◌≡◌, ℕ, suc, ◌||◌, not, Bool, true, false, List, [], Option, Some, None, is_none, refl, sym, ap, subst, ◌∙◌, arith}
use Rattle.std.proofs.lemmas.Bool.{ne_eqb}
use Rattle.print_laws.proofs.Changes.{Stops}
use Rattle.print_laws.proofs.Openings.{not_it}
use Rattle.qml_ast.specs.declared.span.Span.{Span}
use Rattle.qml_grammar.specs.Lexemes.{Lexeme, plain, word, integer, decimal, text, mark, Token, is_word, is_word_lexeme, is_mark, name_of_lexeme, same_line}
use Rattle.qml_grammar.specs.Marks.{same_mark, mark_number}
use Rattle.qml_grammar.specs.Names.{upper_first}
use Rattle.qml_grammar.specs.StatementGrammar.{IsEnd, nothing}
use Rattle.qml_grammar.specs.Words.{word_text, same_word}
use Rattle.qml_grammar.specs.declared.mark.Mark.{Mark}
use Rattle.qml_grammar.specs.declared.mark.Mark.TheVariants.{OpenBrace, CloseBrace, OpenParen, Semicolon, Colon}
use Rattle.qml_grammar.specs.declared.word.Word.{Word}
use Rattle.qml_grammar.specs.declared.word.Word.TheVariants as ww

-- a line in braces may begin with it: a name, or the `}`
abbrev pub begins_line : Lexeme → Bool
begins_line (plain n) = true
begins_line (word w) = not (same_word ww.Else w)
begins_line (mark m) = same_mark CloseBrace m
begins_line _ = false

-- a token with which nothing before it goes on
pub record Starts (next : Option Token) : Type 0 where
  pub stops : Stops next
  pub no_semicolon : is_mark Semicolon next ≡ false
  pub no_brace : is_mark OpenBrace next ≡ false
  pub no_paren : is_mark OpenParen next ≡ false
  pub no_colon : is_mark Colon next ≡ false
  pub no_else : is_word ww.Else next ≡ false

mark_starts : (m : Mark) (at : Span) → same_mark CloseBrace m ≡ true → Starts (Some (record { lexeme = mark m; span = at }))
unfolding same_mark mark_number
mark_starts CloseBrace at h = record {
  stops = record { goes = refl; unset = refl; unchanged = λ last. refl };
  no_semicolon = refl;
  no_brace = refl;
  no_paren = refl;
  no_colon = refl;
  no_else = refl;
}
mark_starts _ at h = absurd cc

pub lexeme_starts : (l : Lexeme) (at : Span) → begins_line l ≡ true → Starts (Some (record { lexeme = l; span = at }))
lexeme_starts (plain n) at h = record {
  stops = record { goes = refl; unset = refl; unchanged = λ last. refl };
  no_semicolon = refl;
  no_brace = refl;
  no_paren = refl;
  no_colon = refl;
  no_else = refl;
}
lexeme_starts (word w) at h = record {
  stops = record { goes = refl; unset = refl; unchanged = λ last. refl };
  no_semicolon = refl;
  no_brace = refl;
  no_paren = refl;
  no_colon = refl;
  no_else = not_it (same_word ww.Else w) h;
}
lexeme_starts (mark m) at h = mark_starts m at h
lexeme_starts (integer n) at h = absurd cc
lexeme_starts (decimal n p) at h = absurd cc
lexeme_starts (text s) at h = absurd cc

-- likewise below the line of this place
pub record Below (end : Span) (next : Option Token) : Type 0 where
  pub starts : Starts next
  pub later : (l : Lexeme) (place : Span) → end.line ≡ place.line → same_line (Some (record { lexeme = l; span = place })) next ≡ false

pub lexeme_below : (end : Span) (l : Lexeme) (at : Span) → begins_line l ≡ true → at.line ≡ suc end.line → Below end (Some (record { lexeme = l; span = at }))
lexeme_below end l at h below = record {
  starts = lexeme_starts l at h;
  later = λ k place same. ne_eqb place.line at.line (λ e. omega arith);
}

pub below_as : (end : Span) (next : Option Token) (l : Lexeme) (at : Span) → next ≡ Some (record { lexeme = l; span = at }) → begins_line l ≡ true → at.line ≡ suc end.line → Below end next
below_as end next l at is h below = subst (Below end) (sym is) (lexeme_below end l at h below)

third_holds : (a b c d e : Bool) → c ≡ true → (a || b || c || d || e) ≡ true
third_holds true b c d e h = refl
third_holds false true c d e h = refl
third_holds false false true d e h = refl
third_holds false false false d e h = absurd cc

-- nothing is needed at the end of a member before what stands below
pub ends_before : (end : Span) (last next : Option Token) (l : Lexeme) (place : Span) → last ≡ Some (record { lexeme = l; span = place }) → end.line ≡ place.line → Below end next → IsEnd last [] next
ends_before end last next l place last_is lined b =
    let apart : same_line last next ≡ false = ap (λ t. same_line t next) last_is ∙ b.later l place lined in
    nothing refl b.starts.no_semicolon (third_holds (is_none next) (is_mark CloseBrace next) (not (same_line last next)) (is_mark CloseBrace last) (is_mark Semicolon last) (ap not apart))

-- Names

upper_word : (w : Word) → upper_first (word_text w) ≡ true → ⊥
unfolding word_text
upper_word ww.Var h = absurd cc
upper_word _ h = absurd cc

-- a token that is the name of a type is no word
pub type_no_word : (v : Word) (l : Lexeme) (n : List ℕ) → name_of_lexeme l ≡ Some n → upper_first n ≡ true → is_word_lexeme v l ≡ false
type_no_word v (word w) n h upper = absurd (upper_word w (ap upper_first (word_is w n h) ∙ upper))
  where
    word_is : (w : Word) (n : List ℕ) → ◌≡◌ {A = Option (List ℕ)} (Some (word_text w)) (Some n) → word_text w ≡ n
    word_is w n e = ap (λ (o : Option (List ℕ)). elim o [ Some x ↦ x | None ↦ n ]) e
type_no_word v _ n h upper = refl

-- a name that is not `else` begins a line
pub name_begins : (l : Lexeme) (n : List ℕ) → name_of_lexeme l ≡ Some n → is_word_lexeme ww.Else l ≡ false → begins_line l ≡ true
name_begins (plain m) n h other = refl
name_begins (word w) n h other = ap not other
name_begins (integer m) n h other = absurd cc
name_begins (decimal m p) n h other = absurd cc
name_begins (text s) n h other = absurd cc
name_begins (mark m) n h other = absurd cc
