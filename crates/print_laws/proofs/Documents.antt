-- The canonical text of a document that tokens of a text spell is the text of pieces that spell one like it.
use Rattle.std.proofs.Common.{◌≡◌, ℕ, ◌≤◌, true, false, List, [], ◌∷◌, ◌++◌, map, flat_map, codes, decimal as decimal_text, Option, Some, None, refl, sym, ap, ◌∙◌, arith, append_assoc, append-nil}
use Rattle.piece_laws.specs.Pieces.{Piece, token, space, line, pieces_text, lexeme_text, past, past_all, placed, are_spaced, AreLawfulTokens, AreLawfulPieces, IsLawfulLexeme, start}
use Rattle.print_laws.proofs.Apart.{Other}
use Rattle.print_laws.proofs.Following.{begins_line, name_begins, type_no_word, Below, below_as, ends_before}
use Rattle.print_laws.proofs.Members.{object_spelling}
use Rattle.print_laws.proofs.Runs.{Run, text_append, placed_append, run_of, spaced_by, lined_by, spaced_append, lawful_append, follow_placed}
use Rattle.print_laws.proofs.Signs.{lawful_as, lawful_left, lawful_right, name_is_text}
use Rattle.print_laws.proofs.Values.{ObjectSpelling}
use Rattle.qml_ast.specs.Alike.{import_apart, decl_apart, IsAlike}
use Rattle.qml_ast.specs.declared.decl.Decl.{Decl}
use Rattle.qml_ast.specs.declared.document.Document.{Document}
use Rattle.qml_ast.specs.declared.document.Import.{Import}
use Rattle.qml_ast.specs.declared.span.Span.{Span}
use Rattle.qml_grammar.specs.Canonical.{new_line, decl_text, import_text, document_text}
use Rattle.qml_grammar.specs.DocumentGrammar.{IsObject, IsImport, import, AreImports, none, more, IsDocument, document}
use Rattle.qml_grammar.specs.Lexemes.{Lexeme, word, decimal, mark, Token, is_word, is_word_lexeme, name_of_lexeme}
use Rattle.qml_grammar.specs.StatementGrammar.{follow}
use Rattle.qml_grammar.specs.Words.{word_text, word_number, same_word}
use Rattle.qml_grammar.specs.declared.mark.Mark.TheVariants.{CloseBrace}
use Rattle.qml_grammar.specs.declared.word.Word.TheVariants as ww

-- Imports

-- an import of QtQuick, by the token of that name
abbrev pub qt_quick : ℕ → Span → Import
qt_quick minor at = record { «module» = codes "QtQuick"; major = 2; minor = minor; span = at }

abbrev pub import_pieces : Lexeme → ℕ → List Piece
import_pieces l minor = token (word ww.Import) ∷ space ∷ token l ∷ space ∷ token (decimal 2 minor) ∷ []

import_run : (l : Lexeme) (minor : ℕ) → IsLawfulLexeme l → minor ≤ 15 → Run (word ww.Import) (decimal 2 minor) (import_pieces l minor)
import_run l minor law few = spaced_by (run_of (word ww.Import) tt) (spaced_by (run_of l law) (run_of (decimal 2 minor) (omega arith, omega arith)))

import_end : (m s : List ℕ) → (decimal_text 2 ++ (codes "." ++ m)) ++ 10 ∷ s ≡ (decimal_text 2 ++ (codes "." ++ (m ++ 10 ∷ []))) ++ s
import_end m s = simp append_assoc

import_line_text : (l : Lexeme) (minor : ℕ) (at : Span) (ps : List Piece) → lexeme_text l ≡ codes "QtQuick" → pieces_text (import_pieces l minor ++ line 0 ∷ ps) ≡ import_text (qt_quick minor at) ++ pieces_text ps
unfolding word_text
import_line_text l minor at ps h =
    rw h (ap (λ s. codes "import QtQuick " ++ s) (import_end (decimal_text minor) (pieces_text ps)))

import_spelled : (l : Lexeme) (minor : ℕ) (at : Span) (next : Option Token) → name_of_lexeme l ≡ Some (codes "QtQuick") → minor ≤ 15 → is_word ww.As next ≡ false → Below (past_all at (import_pieces l minor)) next →
    (there : Span) × IsImport (placed at (import_pieces l minor)) next (qt_quick minor there)
unfolding same_word word_number
import_spelled l minor at next named few no_as below =
    let second : Span = past (past at (token (word ww.Import))) space in
    let third : Span = past (past second (token l)) space in
    let v : Token = record { lexeme = decimal 2 minor; span = third } in
    (second, import (record { lexeme = word ww.Import; span = at }) (record { lexeme = l; span = second }) v [] minor refl refl refl named refl few no_as (ends_before (past_all at (import_pieces l minor)) (Some v) next (decimal 2 minor) third refl refl below))

-- Documents

-- tokens that spell imports and an object like these, with the first of them
pub record Divided (ys : List Import) (x : Decl) (first : Lexeme) (at : Span) (ts : List Token) : Type 0 where
  pub front : List Token
  pub back : List Token
  pub text : ts ≡ front ++ back
  pub starts : follow front (follow back None) ≡ Some (record { lexeme = first; span = at })
  pub imports : Other (map import_apart) ys (AreImports front (follow back None))
  pub root : Other decl_apart x (IsObject 200 64 back)

-- the pieces of imports and an object, without the last line end
pub record Dividing (ys : List Import) (x : Decl) : Type 0 where
  pub pieces : List Piece
  pub first : Lexeme
  pub run : Run first (mark CloseBrace) pieces
  pub begins : begins_line first ≡ true
  pub no_as : is_word_lexeme ww.As first ≡ false
  pub text_is : pieces_text pieces ≡ flat_map import_text ys ++ decl_text x 0
  pub spelled : (at : Span) → Divided ys x first at (placed at pieces)

root_only : (x : Decl) → ObjectSpelling 64 0 x → Dividing [] x
root_only x p = record {
  pieces = p.pieces;
  first = p.first;
  run = p.run;
  begins = name_begins p.first p.name p.named (type_no_word ww.Else p.first p.name p.named p.upper);
  no_as = type_no_word ww.As p.first p.name p.named p.upper;
  text_is = p.text_is;
  spelled = λ at. record {
    front = [];
    back = placed at p.pieces;
    text = refl;
    starts = follow_placed at None p.run;
    imports = record { other = []; alike = refl; is = none refl refl };
    root = p.spelled 64 at (omega arith);
  };
}

imports_alike : (y z : Import) (ys zs : List Import) → import_apart z ≡ import_apart y → map import_apart zs ≡ map import_apart ys → map import_apart (z ∷ zs) ≡ map import_apart (y ∷ ys)
imports_alike y z ys zs h k = rw (h, k) refl

follow_import : (l : Lexeme) (minor : ℕ) (at : Span) (us : List Token) (next : Option Token) → follow (placed at (import_pieces l minor) ++ us) next ≡ Some (record { lexeme = word ww.Import; span = at })
follow_import l minor at us next = refl

one_more_import : (l : Lexeme) (minor : ℕ) (there : Span) (ys : List Import) (x : Decl) → IsLawfulLexeme l → name_of_lexeme l ≡ Some (codes "QtQuick") → minor ≤ 15 → Dividing ys x → Dividing (qt_quick minor there ∷ ys) x
unfolding same_word word_number
one_more_import l minor there ys x law named few t =
    let here : List Piece = import_pieces l minor in
    record {
      pieces = here ++ line 0 ∷ t.pieces;
      first = word ww.Import;
      run = lined_by 0 (import_run l minor law few) t.run;
      begins = refl;
      no_as = refl;
      text_is = import_line_text l minor there t.pieces (name_is_text l (codes "QtQuick") named) ∙ (ap (λ s. import_text (qt_quick minor there) ++ s) t.text_is ∙ sym (append_assoc (import_text (qt_quick minor there)) (flat_map import_text ys) (decl_text x 0)));
      spelled = λ at.
          let on : Span = past (past_all at here) (line 0) in
          let m = t.spelled on in
          let next : Option Token = follow m.front (follow m.back None) in
          let no_as : is_word ww.As next ≡ false = ap (is_word ww.As) m.starts ∙ t.no_as in
          let i = import_spelled l minor at next named few no_as (below_as (past_all at here) next t.first on m.starts t.begins refl) in
          record {
            front = placed at here ++ m.front;
            back = m.back;
            text = placed_append at here (line 0 ∷ t.pieces) ∙ (ap (λ ts. placed at here ++ ts) m.text ∙ sym (append_assoc (placed at here) m.front m.back));
            starts = follow_import l minor at m.front (follow m.back None);
            imports = record {
              other = qt_quick minor i.0 ∷ m.imports.other;
              alike = imports_alike (qt_quick minor there) (qt_quick minor i.0) ys m.imports.other refl m.imports.alike;
              is = more (placed at here) m.front (qt_quick minor i.0) m.imports.other refl refl i.1 m.imports.is;
            };
            root = m.root;
          };
    }

import_added : {ts : List Token} {next : Option Token} {y : Import} (ys : List Import) (x : Decl) → IsImport ts next y → AreLawfulTokens ts → Dividing ys x → Dividing (y ∷ ys) x
import_added ys x (import t u v es minor ts_is y_is is named v_is few no_as end) law p =
    rw y_is (one_more_import u.lexeme minor u.span ys x (lawful_as ts_is law).1.0 named few p)

imports_added : {ts : List Token} {next : Option Token} {ys : List Import} (x : Decl) → AreImports ts next ys → AreLawfulTokens ts → Dividing [] x → Dividing ys x
imports_added x (none ts_is ys_is) law p = rw ys_is p
imports_added x (more us vs y ys ts_is ys_is i is) law p =
    let laws : AreLawfulTokens (us ++ vs) = lawful_as ts_is law in
    rw ys_is (import_added ys x i (lawful_left us vs laws) (imports_added x is (lawful_right us vs laws) p))

-- the pieces of the canonical text of a document
pub record DocumentSpelling (x : Document) : Type 0 where
  pub pieces : List Piece
  pub spaced : are_spaced pieces ≡ true
  pub lawful : AreLawfulPieces pieces
  pub text_is : pieces_text pieces ≡ document_text x
  pub other : Document
  pub alike : IsAlike x other
  pub spelled : IsDocument (placed start pieces) other

spaced_end : {a b : Lexeme} {ps : List Piece} → Run a b ps → are_spaced (ps ++ line 0 ∷ []) ≡ true
spaced_end {b = b} {ps = ps} r = rw r.ends (spaced_append r.before (token b) (line 0) [] (ap are_spaced (sym r.ends) ∙ r.spaced) refl refl)

placed_end : (at : Span) (ps : List Piece) → placed at (ps ++ line 0 ∷ []) ≡ placed at ps
placed_end at ps = placed_append at ps (line 0 ∷ []) ∙ append-nil (placed at ps)

end_text : (ps : List Piece) (t s : List ℕ) → pieces_text ps ≡ t ++ s → pieces_text (ps ++ line 0 ∷ []) ≡ t ++ (s ++ new_line)
end_text ps t s h = text_append ps (line 0 ∷ []) ∙ (ap (λ u. u ++ 10 ∷ []) h ∙ append_assoc t s (10 ∷ []))

document_of : (ys : List Import) (x : Decl) → Dividing ys x → DocumentSpelling (record { imports = ys; root = x })
document_of ys x p =
    let m = p.spelled start in
    record {
      pieces = p.pieces ++ line 0 ∷ [];
      spaced = spaced_end p.run;
      lawful = lawful_append p.pieces (line 0 ∷ []) p.run.lawful (tt, tt);
      text_is = end_text p.pieces (flat_map import_text ys) (decl_text x 0) p.text_is;
      other = record { imports = m.imports.other; root = m.root.other };
      alike = (sym m.imports.alike, sym m.root.alike);
      spelled = document m.front m.back m.imports.other m.root.other (placed_end start p.pieces ∙ m.text) refl m.imports.is m.root.is;
    }

pub document_prints : {ts : List Token} {x : Document} → IsDocument ts x → AreLawfulTokens ts → DocumentSpelling x
document_prints (document us vs ys z ts_is x_is are root) law =
    let laws : AreLawfulTokens (us ++ vs) = lawful_as ts_is law in
    rw x_is (document_of ys z (imports_added z are (lawful_left us vs laws) (root_only z (object_spelling 64 0 vs z root (lawful_right us vs laws)))))
