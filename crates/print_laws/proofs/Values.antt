-- What is shown of values, objects and members, and the canonical texts of values and objects.
use Rattle.std.proofs.Common.{◌≡◌, ℕ, suc, pred, ◌≤◌, true, List, [], ◌∷◌, ◌++◌, map, codes, Option, Some, None, refl, sym, ap, subst, ◌∙◌, arith, append-nil}
use Rattle.std.specs.Prelude.{option_map}
use Rattle.piece_laws.specs.Pieces.{Piece, token, space, pieces_text, lexeme_text, past, past_all, placed, IsLawfulLexeme}
use Rattle.print_laws.proofs.Apart.{Other, alike-Object, alike-roll}
use Rattle.print_laws.proofs.Blocks.{lines_text, Ended, Tail, empty_tail, more_tail, braced_text}
use Rattle.print_laws.proofs.Changes.{Whole}
use Rattle.print_laws.proofs.Following.{begins_line, Starts, Below, below_as, ends_before}
use Rattle.print_laws.proofs.Runs.{Run, run_of, touching, spaced_by, last_placed}
use Rattle.print_laws.proofs.Signs.{name_is_text, touches_mark}
use Rattle.qml_ast.specs.Alike.{init_apart, member_apart, decl_apart}
use Rattle.qml_ast.specs.declared.decl.Decl.{Decl, roll-Decl}
use Rattle.qml_ast.specs.declared.decl.Init.{Init}
use Rattle.qml_ast.specs.declared.decl.Init.TheVariants as ii
use Rattle.qml_ast.specs.declared.decl.Member.{Member}
use Rattle.qml_ast.specs.declared.expr.Expr.{Expr}
use Rattle.qml_ast.specs.declared.span.Span.{Span}
use Rattle.qml_grammar.specs.Canonical.{init_text, member_text, decl_text, braced, maybe_text}
use Rattle.qml_grammar.specs.DocumentGrammar.{IsObject, object, IsValue, expr, value_object, IsMaybeValue, no_value, a_value, IsShortMember, IsMember, short, AreMembers, no_members, more_members}
use Rattle.qml_grammar.specs.Documents.{value_place}
use Rattle.qml_grammar.specs.Lexemes.{Lexeme, mark, Token, name_of_lexeme, last_of}
use Rattle.qml_grammar.specs.Marks.{mark_text, mark_number, same_mark}
use Rattle.qml_grammar.specs.Names.{upper_first}
use Rattle.qml_grammar.specs.StatementGrammar.{follow}
use Rattle.qml_grammar.specs.declared.mark.Mark.TheVariants.{OpenBrace, CloseBrace, Colon}
use Rattle.qml_grammar.proofs.MemberForms.{init-Expr-lined, init-Object-lined, decl-roll-lined}

-- Claims

-- the pieces of an object at so many levels of lines, which spell one like it
pub record ObjectSpelling (d levels : ℕ) (x : Decl) : Type 0 where
  pub pieces : List Piece
  pub first : Lexeme
  pub name : List ℕ
  pub named : name_of_lexeme first ≡ Some name
  pub upper : upper_first name ≡ true
  pub run : Run first (mark CloseBrace) pieces
  pub text_is : pieces_text pieces ≡ decl_text x levels
  pub spelled : (e : ℕ) (at : Span) → d ≤ e → Other decl_apart x (IsObject 200 e (placed at pieces))

-- likewise of a value
pub record ValueSpelling (d levels : ℕ) (x : Init) : Type 0 where
  pub pieces : List Piece
  pub first : Lexeme
  pub last : Lexeme
  pub run : Run first last pieces
  pub text_is : pieces_text pieces ≡ init_text x levels
  pub spelled : (e : ℕ) (at : Span) (next : Option Token) → d ≤ e → Starts next → Other init_apart x (λ y. (place : Span) × IsValue 200 e (placed at pieces) next y place)

-- of a value that may be missing, behind a property's name
pub record MaybeValueSpelling (d levels : ℕ) (x : Option Init) : Type 0 where
  pub pieces : List Piece
  pub joins : (a b : Lexeme) (ps : List Piece) → Run a b ps → (l : Lexeme) × Run a l (ps ++ pieces)
  pub text_is : pieces_text pieces ≡ maybe_text (codes ": ") (λ (f : ℕ → List ℕ). f levels) (option_map init_text x)
  pub spelled : (e : ℕ) (at there : Span) (next : Option Token) → d ≤ e → Starts next → Other (option_map init_apart) x (λ y. (place : Span) × IsMaybeValue 200 e (placed at pieces) next y place there)

-- of a member with an end, without it
pub record ShortMemberSpelling (d levels : ℕ) (x : Member) : Type 0 where
  pub pieces : List Piece
  pub first : Lexeme
  pub last : Lexeme
  pub begins : begins_line first ≡ true
  pub run : Run first last pieces
  pub text_is : pieces_text pieces ≡ member_text x levels
  pub spelled : (e : ℕ) (at : Span) (next : Option Token) → d ≤ e → Starts next → Other member_apart x (IsShortMember 200 e (placed at pieces) next)

-- of a member, before what stands on a later line
pub record MemberSpelling (d levels : ℕ) (x : Member) : Type 0 where
  pub pieces : List Piece
  pub first : Lexeme
  pub last : Lexeme
  pub begins : begins_line first ≡ true
  pub run : Run first last pieces
  pub text_is : pieces_text pieces ≡ member_text x levels
  pub spelled : (e : ℕ) (at : Span) (next : Option Token) → d ≤ e → Below (past_all at pieces) next → Other member_apart x (λ y. IsMember 200 e (placed at pieces) next (y ∷ []))

-- of each of several members
abbrev pub MemberSpellings : ℕ → ℕ → List Member → Type 0
MemberSpellings d levels [] = Unit {0}
MemberSpellings d levels (x ∷ xs) = MemberSpelling d levels x × MemberSpellings d levels xs

pub spellings_append : (d levels : ℕ) (xs ys : List Member) → MemberSpellings d levels xs → MemberSpellings d levels ys → MemberSpellings d levels (xs ++ ys)
spellings_append d levels [] ys h k = k
spellings_append d levels (x ∷ xs) ys h k = (h.0, spellings_append d levels xs ys h.1 k)

-- with its end, which is nothing
pub member_of_short : {d levels : ℕ} {x : Member} → ShortMemberSpelling d levels x → MemberSpelling d levels x
member_of_short s = record {
  pieces = s.pieces;
  first = s.first;
  last = s.last;
  begins = s.begins;
  run = s.run;
  text_is = s.text_is;
  spelled = λ e at next le below.
      let o = s.spelled e at next le below.starts in
      let last = last_placed at s.run in
      record {
        other = o.other;
        alike = o.alike;
        is = short (placed at s.pieces) [] o.other (sym (append-nil (placed at s.pieces))) refl o.is (ends_before (past_all at s.pieces) (last_of (placed at s.pieces)) next s.last last.place last.is last.lined below);
      };
}

-- Members in braces

abbrev pub AreLikeMembers : List Member → ℕ → List Token → Option Token → Type 0
AreLikeMembers xs e ts next = Other (map member_apart) xs (AreMembers 200 e ts next)

-- the lines of members
pub record MembersTail (d levels : ℕ) (xs : List Member) : Type 0 where
  pub tail : Tail (lines_text levels (map member_text xs)) (AreLikeMembers xs) d
  pub begins : begins_line tail.first ≡ true

no_members_tail : (d levels : ℕ) → MembersTail d levels []
unfolding same_mark mark_number
no_members_tail d levels = record {
  tail = empty_tail d levels (AreLikeMembers []) (λ e next. record { other = []; alike = refl; is = no_members refl refl });
  begins = refl;
}

more_alike : (x y : Member) (xs ys : List Member) → member_apart y ≡ member_apart x → map member_apart ys ≡ map member_apart xs → map member_apart (y ∷ ys) ≡ map member_apart (x ∷ xs)
more_alike x y xs ys h k = rw (h, k) refl

more_members_tail : (d levels : ℕ) (x : Member) (xs : List Member) → MemberSpelling d (suc levels) x → MembersTail d levels xs → MembersTail d levels (x ∷ xs)
more_members_tail d levels x xs s t = record {
  tail = more_tail d levels (member_text x) (map member_text xs) (AreLikeMembers xs) (AreLikeMembers (x ∷ xs)) s.run s.text_is t.tail (λ e at us z place le close_is starts below are.
      let m = s.spelled e at (follow us (Some z)) le (below_as (past_all at s.pieces) (follow us (Some z)) t.tail.first place starts t.begins below) in
      record {
        other = m.other ∷ are.other;
        alike = more_alike x m.other xs are.other m.alike are.alike;
        is = more_members (placed at s.pieces) us (m.other ∷ []) are.other refl refl m.is are.is;
      });
  begins = s.begins;
}

pub members_tail : (d levels : ℕ) (xs : List Member) → MemberSpellings d (suc levels) xs → MembersTail d levels xs
members_tail d levels [] h = no_members_tail d levels
members_tail d levels (x ∷ xs) h = more_members_tail d levels x xs h.0 (members_tail d levels xs h.1)

-- Objects

object_text : (l : Lexeme) (n : List ℕ) (levels : ℕ) (fs : List (ℕ → List ℕ)) (ps : List Piece) → lexeme_text l ≡ n → pieces_text ps ≡ lines_text levels fs → pieces_text (token l ∷ space ∷ token (mark OpenBrace) ∷ ps) ≡ n ++ (codes " " ++ braced fs levels)
object_text l n levels fs ps h k = ap (λ s. s ++ 32 ∷ pieces_text (token (mark OpenBrace) ∷ ps)) h ∙ ap (λ s. n ++ 32 ∷ s) (braced_text levels fs ps k)

object_spelled : (c e : ℕ) (at : Span) (l : Lexeme) (n : List ℕ) (xs : List Member) (there : Span) (ps : List Piece) (first : Lexeme) → suc c ≤ e → name_of_lexeme l ≡ Some n → upper_first n ≡ true →
    Ended (AreLikeMembers xs (pred e)) first (past (past (past at (token l)) space) (token (mark OpenBrace))) (placed (past (past (past at (token l)) space) (token (mark OpenBrace))) ps) →
    Other decl_apart (roll-Decl (record { name = n; members = xs; span = there })) (IsObject 200 e (placed at (token l ∷ space ∷ token (mark OpenBrace) ∷ ps)))
unfolding same_mark mark_number
object_spelled c e at l n xs there ps first le named upper m =
    let t : Token = record { lexeme = l; span = at } in
    let o : Token = record { lexeme = mark OpenBrace; span = past (past at (token l)) space } in
    record {
      other = roll-Decl (record { name = n; members = m.is.other; span = at });
      alike = alike-roll n m.is.other xs at there m.is.alike;
      is = object (pred e) t o m.inside m.close n m.is.other (omega arith) (ap (λ ts. t ∷ o ∷ ts) m.text) refl named upper refl m.is.is m.closes;
    }

pub object_of : (c d levels : ℕ) (l : Lexeme) (n : List ℕ) (xs : List Member) (there : Span) → d ≡ suc c → IsLawfulLexeme l → name_of_lexeme l ≡ Some n → upper_first n ≡ true → MembersTail c levels xs → ObjectSpelling d levels (roll-Decl (record { name = n; members = xs; span = there }))
object_of c d levels l n xs there d_is law named upper t = record {
  pieces = token l ∷ space ∷ token (mark OpenBrace) ∷ t.tail.pieces;
  first = l;
  name = n;
  named = named;
  upper = upper;
  run = spaced_by (run_of l law) (t.tail.joins (mark OpenBrace) (mark OpenBrace) (token (mark OpenBrace) ∷ []) (run_of (mark OpenBrace) tt));
  text_is = object_text l n levels (map member_text xs) t.tail.pieces (name_is_text l n named) t.tail.text_is ∙ sym (decl-roll-lined n xs there levels);
  spelled = λ e at le. object_spelled c e at l n xs there t.tail.pieces t.tail.first (omega arith) named upper (t.tail.spelled (pred e) (past (past (past at (token l)) space) (token (mark OpenBrace))) (omega arith));
}

-- Values

begins_with_first : {a b : Lexeme} {ps : List Piece} (at : Span) (r : Run a b ps) → placed at ps ≡ record { lexeme = a; span = at } ∷ placed (past at (token a)) r.behind
begins_with_first at r = ap (placed at) r.begins

pub expr_value : (d levels : ℕ) (x : Expr) → Whole d x → ValueSpelling d levels (ii.Expr x)
expr_value d levels x p = record {
  pieces = p.pieces;
  first = p.first;
  last = p.last;
  run = p.run;
  text_is = p.text_is ∙ sym (init-Expr-lined x levels);
  spelled = λ e at next le starts. record {
    other = ii.Expr x;
    alike = refl;
    is = (value_place x (placed at p.pieces) at, expr (record { lexeme = p.first; span = at }) (placed (past at (token p.first)) p.run.behind) x (begins_with_first at p.run) refl refl (p.spelled e at le next starts.stops.goes) (λ a z names upper_a upper_z. starts.no_brace));
  };
}

pub object_value : (d levels : ℕ) (x : Decl) → ObjectSpelling d levels x → ValueSpelling d levels (ii.Object x)
object_value d levels x p = record {
  pieces = p.pieces;
  first = p.first;
  last = mark CloseBrace;
  run = p.run;
  text_is = p.text_is ∙ sym (init-Object-lined x levels);
  spelled = λ e at next le starts.
      let o = p.spelled e at le in
      record {
        other = ii.Object o.other;
        alike = alike-Object o.other x o.alike;
        is = (at, value_object (record { lexeme = p.first; span = at }) (placed (past at (token p.first)) p.run.behind) o.other (begins_with_first at p.run) refl refl o.is);
      };
}

-- with more levels
pub value_within : (c d levels : ℕ) (x : Init) → c ≤ d → ValueSpelling c levels x → ValueSpelling d levels x
value_within c d levels x le p = record {
  pieces = p.pieces;
  first = p.first;
  last = p.last;
  run = p.run;
  text_is = p.text_is;
  spelled = λ e at next fits starts. p.spelled e at next (omega arith) starts;
}

pub no_value_spelling : (d levels : ℕ) → MaybeValueSpelling d levels None
no_value_spelling d levels = record {
  pieces = [];
  joins = λ a b ps r. (b, subst (Run a b) (sym (append-nil ps)) r);
  text_is = refl;
  spelled = λ e at there next le starts. record { other = None; alike = refl; is = (there, no_value refl refl refl starts.no_colon) };
}

pub a_value_spelling : (d levels : ℕ) (x : Init) → ValueSpelling d levels x → MaybeValueSpelling d levels (Some x)
unfolding mark_text same_mark mark_number
a_value_spelling d levels x p = record {
  pieces = token (mark Colon) ∷ space ∷ p.pieces;
  joins = λ a b ps r. (p.last, touching r (spaced_by (run_of (mark Colon) tt) p.run) (touches_mark b Colon refl));
  text_is = ap (λ s. codes ": " ++ s) p.text_is;
  spelled = λ e at there next le starts.
      let on : Span = past (past at (token (mark Colon))) space in
      let o = p.spelled e on next le starts in
      record {
        other = Some o.other;
        alike = ap Some o.alike;
        is = (o.is.0, a_value (record { lexeme = mark Colon; span = at }) (placed on p.pieces) o.other refl refl refl o.is.1);
      };
}
