-- No member begins with `else`.
use Rattle.std.proofs.Common.{◌≡◌, ℕ, false, List, [], ◌∷◌, ◌++◌, Option, Some, refl, ap, ◌∙◌}
use Rattle.grammar_laws.proofs.First.{Begins, begins_left}
use Rattle.print_laws.proofs.Following.{type_no_word}
use Rattle.print_laws.proofs.Openings.{no_else, follow_no_else, one_begins, word_begins, mark_no_word}
use Rattle.print_laws.proofs.Parameters.{own_no_else}
use Rattle.qml_ast.specs.declared.decl.Decl.{Decl}
use Rattle.qml_ast.specs.declared.decl.Member.{Member}
use Rattle.qml_ast.specs.declared.path.Path.{Path}
use Rattle.qml_grammar.specs.DocumentGrammar.{IsPath, one as one_name, two as two_names, IsObject, object, IsShortMember, id, property, fixed, signal, initialised, handled, IsMember, short, method, group, child, AreMembers, no_members, more_members}
use Rattle.qml_grammar.specs.ExpressionGrammar.{IsMark}
use Rattle.qml_grammar.specs.Lexemes.{Token, is_word}
use Rattle.qml_grammar.specs.StatementGrammar.{follow, IsEnd, semicolon, nothing}
use Rattle.qml_grammar.specs.Words.{word_number, same_word}
use Rattle.qml_grammar.specs.declared.mark.Mark.TheVariants.{CloseBrace, Semicolon}
use Rattle.qml_grammar.specs.declared.word.Word.TheVariants as ww

path_opens : {ts : List Token} {p : Path} → IsPath ts p → Begins no_else ts
path_opens (one_name t n ts_is p_is own is) = one_begins t [] ts_is (own_no_else t own)
path_opens (two_names t o u n m ts_is p_is own is dot second allowed) = one_begins t (o ∷ u ∷ []) ts_is (own_no_else t own)

pub object_opens : {d : ℕ} {ts : List Token} {x : Decl} → IsObject 200 d ts x → Begins no_else ts
object_opens (object c t o us z n xs d_is ts_is x_is is upper open_is are close_is) = one_begins t (o ∷ us ++ z ∷ []) ts_is (type_no_word ww.Else t.lexeme n is upper)

short_member_opens : {d : ℕ} {ts : List Token} {next : Option Token} {x : Member} → IsShortMember 200 d ts next x → Begins no_else ts
unfolding same_word word_number
short_member_opens (id t o u n ts_is x_is is colon name_is) = word_begins ww.Id t (o ∷ u ∷ []) ts_is is refl
short_member_opens (property t u v us k n y at ts_is x_is is kind no_alias name_is value) = word_begins ww.Property t (u ∷ v ∷ us) ts_is is refl
short_member_opens (fixed r t u v us k n y at ts_is x_is first is kind no_alias name_is value) = word_begins ww.ReadOnly r (t ∷ u ∷ v ∷ us) ts_is first refl
short_member_opens (signal t u us n ps ts_is x_is is name_is params) = word_begins ww.Signal t (u ∷ us) ts_is is refl
short_member_opens (initialised t us o vs p y at ts_is x_is path not_handler colon value) = begins_left (t ∷ us) (o ∷ vs) ts_is (path_opens path)
short_member_opens (handled t us o vs p y ts_is x_is path handler colon body) = begins_left (t ∷ us) (o ∷ vs) ts_is (path_opens path)

member_opens : {d : ℕ} {ts : List Token} {next : Option Token} {xs : List Member} → IsMember 200 d ts next xs → Begins no_else ts
unfolding same_word word_number
member_opens (short us es x ts_is xs_is p end) = begins_left us es ts_is (short_member_opens p)
member_opens (method t u us vs n ps ys ts_is xs_is is name_is params body) = word_begins ww.Function t (u ∷ us ++ vs) ts_is is refl
member_opens (group c t o us z n d_is ts_is own is lower open_is are close_is) = one_begins t (o ∷ us ++ z ∷ []) ts_is (own_no_else t own)
member_opens (child y xs_is p) = object_opens p

pub members_no_else : {d : ℕ} {ts : List Token} {next : Option Token} {xs : List Member} (z : Token) → IsMark z CloseBrace → AreMembers 200 d ts next xs → is_word ww.Else (follow ts (Some z)) ≡ false
members_no_else z close_is (no_members ts_is xs_is) = ap (λ ts. is_word ww.Else (follow ts (Some z))) ts_is ∙ mark_no_word CloseBrace ww.Else z.lexeme close_is
members_no_else z close_is (more_members us vs ys zs ts_is xs_is p q) = follow_no_else (Some z) (begins_left us vs ts_is (member_opens p))

pub end_no_else : {last : Option Token} {es : List Token} {next : Option Token} → IsEnd last es next → is_word ww.Else next ≡ false → is_word ww.Else (follow es next) ≡ false
end_no_else {next = next} (semicolon t ts_is is) h = ap (λ ts. is_word ww.Else (follow ts next)) ts_is ∙ mark_no_word Semicolon ww.Else t.lexeme is
end_no_else {next = next} (nothing ts_is no_semicolon may) h = ap (λ ts. is_word ww.Else (follow ts next)) ts_is ∙ h
