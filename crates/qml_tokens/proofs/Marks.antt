-- A mark is told by what is written.
use Rattle.std.proofs.Common.{◌≡◌, ℕ, Bool, true, false, ◌||◌, List, [], ◌∷◌, IsTrue, refl, ap, sym, subst, ◌∙◌}
use Rattle.std.proofs.lemmas.Slice.Eq.{bytes_eq-Decides}
use Rattle.std.specs.List.{list_any, find, AllByRecursion}
use Rattle.std.specs.Prelude.{Option, Some, None, is_some, bytes_eq, cond}
use Rattle.qml_grammar.specs.Marks.{mark_text, all_marks}
use Rattle.qml_grammar.specs.declared.mark.Mark.{Mark}
use Rattle.qml_grammar.specs.declared.mark.Mark.TheVariants.{OpenBrace, CloseBrace, OpenParen, CloseParen, OpenBracket, CloseBracket, Semicolon, Colon, Comma, Dot, Question, Plus, Minus, Star, Slash, Percent, Bang, Less, Greater, LessEqual, GreaterEqual, EqualEqual, BangEqual, TripleEqual, BangDoubleEqual, DoubleAmpersand, DoubleBar, Equal, PlusEqual, MinusEqual, StarEqual, SlashEqual, DoublePlus, DoubleMinus}
use Rattle.qml_lex.specs.Marks.{marks}
use Rattle.qml_tokens.specs.Marks.{mark_of}

bytes_equal : (s t : List ℕ) → bytes_eq s t ≡ true → s ≡ t
bytes_equal s t h = (bytes_eq-Decides s t).0 h

-- Each mark is found by its text

mark_found : (m : Mark) → mark_of (mark_text m) ≡ Some m
unfolding mark_text
mark_found OpenBrace = refl
mark_found CloseBrace = refl
mark_found OpenParen = refl
mark_found CloseParen = refl
mark_found OpenBracket = refl
mark_found CloseBracket = refl
mark_found Semicolon = refl
mark_found Colon = refl
mark_found Comma = refl
mark_found Dot = refl
mark_found Question = refl
mark_found Plus = refl
mark_found Minus = refl
mark_found Star = refl
mark_found Slash = refl
mark_found Percent = refl
mark_found Bang = refl
mark_found Less = refl
mark_found Greater = refl
mark_found LessEqual = refl
mark_found GreaterEqual = refl
mark_found EqualEqual = refl
mark_found BangEqual = refl
mark_found TripleEqual = refl
mark_found BangDoubleEqual = refl
mark_found DoubleAmpersand = refl
mark_found DoubleBar = refl
mark_found Equal = refl
mark_found PlusEqual = refl
mark_found MinusEqual = refl
mark_found StarEqual = refl
mark_found SlashEqual = refl
mark_found DoublePlus = refl
mark_found DoubleMinus = refl

some_same : (m n : Mark) → Some m ≡ Some n → m ≡ n
some_same m n e = cc

pub mark_text_injective : (m n : Mark) → mark_text m ≡ mark_text n → m ≡ n
mark_text_injective m n e = some_same m n (sym (mark_found m) ∙ ap mark_of e ∙ mark_found n)

-- What is found is written so

first_or : (b : Bool) (n : Mark) (later : Option Mark) (m : Mark) (text : List ℕ) → (b ≡ true → mark_text n ≡ text) → (later ≡ Some m → mark_text m ≡ text) → cond b (Some n) later ≡ Some m → mark_text m ≡ text
first_or true n later m text here there e = subst (λ (k : Mark). mark_text k ≡ text) (some_same n m e) (here refl)
first_or false n later m text here there e = there e

first_found : (text : List ℕ) (ms : List Mark) (m : Mark) → find (λ n. bytes_eq (mark_text n) text) ms ≡ Some m → mark_text m ≡ text
first_found text [] m e = cc
first_found text (n ∷ ms) m e = first_or (bytes_eq (mark_text n) text) n (find (λ k. bytes_eq (mark_text k) text) ms) m text (bytes_equal (mark_text n) text) (first_found text ms m) e

pub written : (text : List ℕ) (m : Mark) → mark_of text ≡ Some m → text ≡ mark_text m
written text m e = sym (first_found text all_marks m e)

-- A text that is a mark is found

among_or : (b c : Bool) (s text : List ℕ) → (b ≡ true → s ≡ text) → is_some (mark_of s) ≡ true → (c ≡ true → is_some (mark_of text) ≡ true) → (b || c) ≡ true → is_some (mark_of text) ≡ true
among_or true c s text here is there e = subst (λ (t : List ℕ). is_some (mark_of t) ≡ true) (here refl) is
among_or false c s text here is there e = there e

found_among : (text : List ℕ) (texts : List (List ℕ)) → AllByRecursion (λ s. is_some (mark_of s) ≡ true) texts → list_any (λ s. bytes_eq s text) texts ≡ true → is_some (mark_of text) ≡ true
found_among text [] h e = cc
found_among text (s ∷ texts) h e = among_or (bytes_eq s text) (list_any (λ t. bytes_eq t text) texts) s text (bytes_equal s text) h.0 (found_among text texts h.1) e

pub found : (text : List ℕ) → IsTrue (list_any (λ s. bytes_eq s text) marks) → is_some (mark_of text) ≡ true
unfolding mark_text
found text h = found_among text marks (refl, (refl, (refl, (refl, (refl, (refl, (refl, (refl, (refl, (refl, (refl, (refl, (refl, (refl, (refl, (refl, (refl, (refl, (refl, (refl, (refl, (refl, (refl, (refl, (refl, (refl, (refl, (refl, (refl, (refl, (refl, (refl, (refl, (refl, tt)))))))))))))))))))))))))))))))))) h

missing : (m : Option Mark) → is_some m ≡ true → m ≡ None → ⊥
missing None h e = cc
missing (Some n) h e = cc

pub absent : (text : List ℕ) (m : Option Mark) → m ≡ mark_of text → m ≡ None → IsTrue (list_any (λ s. bytes_eq s text) marks) → ⊥
absent text m e n h = missing m (ap is_some e ∙ found text h) n
