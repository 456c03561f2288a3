-- Single tokens: their canonical texts, and what may stand beside them.
use Rattle.std.proofs.Common.{◌≡◌, ℕ, ◌&&◌, ◌||◌, ◌⊎◌, inl, inr, not, Bool, true, false, if◌then◌else◌, is_some, List, [], ◌∷◌, ◌++◌, Option, Some, None, refl, ap, subst}
use Rattle.grammar_laws.proofs.Behind.{if_true, if_false}
use Rattle.grammar_laws.proofs.First.{or_right}
use Rattle.piece_laws.specs.Pieces.{lexeme_text, is_operator_mark, is_sign, is_mark_piece, may_touch, AreLawfulTokens}
use Rattle.print_laws.proofs.Claims.{opens}
use Rattle.qml_ast.specs.declared.expr.BinOp.{BinOp}
use Rattle.qml_ast.specs.declared.expr.UnOp.{UnOp}
use Rattle.qml_ast.specs.declared.expr.UnOp.TheVariants.{Neg, Plus as Posit}
use Rattle.qml_ast.specs.declared.value.Value.{Value}
use Rattle.qml_grammar.specs.CanonicalExpressions.{literal_text, binary_text, binary_strength, unary_text, begins_with, unary_space}
use Rattle.qml_grammar.specs.Lexemes.{Lexeme, plain, word, integer, decimal, text, mark, Token, name_of_lexeme, operand_name_of_lexeme, value_of_word, value_of_lexeme, looked_up, unary_operator, product_operator, sum_operator, order_operator, equality_operator}
use Rattle.qml_grammar.specs.Marks.{mark_text, mark_number, same_mark}
use Rattle.qml_grammar.specs.Words.{word_text, is_ordinary}
use Rattle.qml_grammar.specs.declared.mark.Mark.{Mark}
use Rattle.qml_grammar.specs.declared.mark.Mark.TheVariants.{OpenParen, Dot, Plus, Minus, Star, Slash, Percent, Bang, Less, Greater, LessEqual, GreaterEqual, EqualEqual, BangEqual, TripleEqual, BangDoubleEqual}
use Rattle.qml_grammar.specs.declared.word.Word.{Word}
use Rattle.qml_grammar.specs.declared.word.Word.TheVariants.{True, False, Null, Undefined}

-- Lawful tokens

pub lawful_left : (us vs : List Token) → AreLawfulTokens (us ++ vs) → AreLawfulTokens us
lawful_left [] vs h = tt
lawful_left (t ∷ us) vs h = (h.0, lawful_left us vs h.1)

pub lawful_right : (us vs : List Token) → AreLawfulTokens (us ++ vs) → AreLawfulTokens vs
lawful_right [] vs h = h
lawful_right (t ∷ us) vs h = lawful_right us vs h.1

pub lawful_as : {ts us : List Token} → ts ≡ us → AreLawfulTokens ts → AreLawfulTokens us
lawful_as e h = subst AreLawfulTokens e h

-- Names

some_same : {n m : List ℕ} → ◌≡◌ {A = Option (List ℕ)} (Some n) (Some m) → n ≡ m
some_same {n = n} h = ap (λ (o : Option (List ℕ)). elim o [ Some x ↦ x | None ↦ n ]) h

pub name_is_text : (l : Lexeme) (n : List ℕ) → name_of_lexeme l ≡ Some n → lexeme_text l ≡ n
name_is_text (plain m) n h = some_same h
name_is_text (word w) n h = some_same h
name_is_text (integer m) n h = absurd cc
name_is_text (decimal m p) n h = absurd cc
name_is_text (text s) n h = absurd cc
name_is_text (mark m) n h = absurd cc

ordinary_name : (b : Bool) (w n : List ℕ) → ◌≡◌ {A = Option (List ℕ)} (if b then Some w else None) (Some n) → w ≡ n
ordinary_name true w n h = some_same h
ordinary_name false w n h = absurd cc

pub operand_is_text : (l : Lexeme) (n : List ℕ) → operand_name_of_lexeme l ≡ Some n → lexeme_text l ≡ n
operand_is_text (plain m) n h = some_same h
operand_is_text (word w) n h = ordinary_name (is_ordinary w) (word_text w) n h
operand_is_text (integer m) n h = absurd cc
operand_is_text (decimal m p) n h = absurd cc
operand_is_text (text s) n h = absurd cc
operand_is_text (mark m) n h = absurd cc

-- a name is no mark
pub name_no_mark : (l : Lexeme) (n : List ℕ) → name_of_lexeme l ≡ Some n → is_mark_piece l ≡ false
name_no_mark (mark m) n h = absurd cc
name_no_mark _ n h = refl

pub operand_no_mark : (l : Lexeme) (n : List ℕ) → operand_name_of_lexeme l ≡ Some n → is_mark_piece l ≡ false
operand_no_mark (mark m) n h = absurd cc
operand_no_mark _ n h = refl

pub value_no_mark : (l : Lexeme) (v : Value) → value_of_lexeme l ≡ Some v → is_mark_piece l ≡ false
value_no_mark (mark m) v h = absurd cc
value_no_mark _ v h = refl

pub no_mark_opens : (l : Lexeme) → is_mark_piece l ≡ false → opens l ≡ true
no_mark_opens (mark m) h = absurd cc
no_mark_opens _ h = refl

-- Literals

-- the text of the literal, if there is one, is this
abbrev IsTextOf : List ℕ → Option Value → Type 0
IsTextOf t None = Unit {0}
IsTextOf t (Some v) = t ≡ literal_text v

word_text_of : (w : Word) → IsTextOf (word_text w) (value_of_word w)
unfolding word_text
word_text_of True = refl
word_text_of False = refl
word_text_of Null = refl
word_text_of Undefined = refl
word_text_of _ = tt

literal_text_of : (l : Lexeme) → IsTextOf (lexeme_text l) (value_of_lexeme l)
literal_text_of (integer n) = refl
literal_text_of (text s) = refl
literal_text_of (word w) = word_text_of w
literal_text_of _ = tt

pub literal_is_text : (l : Lexeme) (v : Value) → value_of_lexeme l ≡ Some v → lexeme_text l ≡ literal_text v
literal_is_text l v h = subst (IsTextOf (lexeme_text l)) h (literal_text_of l)

-- What may stand beside marks

middle_holds : (a b c : Bool) → b ≡ true → (a || b || c) ≡ true
middle_holds true b c h = refl
middle_holds false true c h = refl
middle_holds false false c h = absurd cc

-- each token may stand directly before a mark that is no part of an operator
pub touches_mark : (l : Lexeme) (n : Mark) → is_operator_mark n ≡ false → may_touch l (mark n) ≡ true
touches_mark (mark m) n h = middle_holds (not (is_operator_mark m)) (not (is_operator_mark n)) _ (ap not h)
touches_mark _ n h = refl

pub no_mark_touches : (l : Lexeme) (n : Mark) → is_mark_piece l ≡ false → may_touch l (mark n) ≡ true
no_mark_touches (mark m) n h = absurd cc
no_mark_touches _ n h = refl

-- a mark that is neither a dot nor a part of an operator may stand directly before each token
pub plain_mark_touches : (m : Mark) (l : Lexeme) → is_operator_mark m ≡ false → same_mark m Dot ≡ false → may_touch (mark m) l ≡ true
plain_mark_touches m (mark n) h k = ap (λ b. not b || not (is_operator_mark n) || is_sign m && is_sign n && (same_mark m Bang || not (same_mark m n))) h
plain_mark_touches m (plain n) h k = ap (λ b. not (b && false)) k
plain_mark_touches m (word n) h k = ap (λ b. not (b && false)) k
plain_mark_touches m (integer n) h k = ap (λ b. not (b && true)) k
plain_mark_touches m (decimal n p) h k = ap (λ b. not (b && true)) k
plain_mark_touches m (text s) h k = ap (λ b. not (b && false)) k

pub paren_touches : (l : Lexeme) → may_touch (mark OpenParen) l ≡ true
unfolding same_mark mark_number
paren_touches l = plain_mark_touches OpenParen l refl refl

pub dot_touches : (l : Lexeme) (n : List ℕ) → name_of_lexeme l ≡ Some n → may_touch (mark Dot) l ≡ true
unfolding same_mark mark_number
dot_touches (plain m) n h = refl
dot_touches (word w) n h = refl
dot_touches (integer m) n h = absurd cc
dot_touches (decimal m p) n h = absurd cc
dot_touches (text s) n h = absurd cc
dot_touches (mark m) n h = absurd cc

-- Operators

-- an operator of this table, if it is one, has this strength and the mark's text
abbrev IsWritten : ℕ → Mark → Option BinOp → Type 0
IsWritten strength m None = Unit {0}
IsWritten strength m (Some op) = (binary_strength op ≡ strength) × (binary_text op ≡ 32 ∷ mark_text m ++ 32 ∷ [])

-- likewise for each mark
abbrev pub AreWritten : ℕ → (Mark → Option BinOp) → Type 0
AreWritten strength table = (m : Mark) → IsWritten strength m (table m)

pub products_written : AreWritten 6 product_operator
unfolding mark_text
products_written Star = (refl, refl)
products_written Slash = (refl, refl)
products_written Percent = (refl, refl)
products_written _ = tt

pub sums_written : AreWritten 5 sum_operator
unfolding mark_text
sums_written Plus = (refl, refl)
sums_written Minus = (refl, refl)
sums_written _ = tt

pub orders_written : AreWritten 4 order_operator
unfolding mark_text
orders_written Less = (refl, refl)
orders_written LessEqual = (refl, refl)
orders_written Greater = (refl, refl)
orders_written GreaterEqual = (refl, refl)
orders_written _ = tt

pub equalities_written : AreWritten 3 equality_operator
unfolding mark_text
equalities_written EqualEqual = (refl, refl)
equalities_written BangEqual = (refl, refl)
equalities_written TripleEqual = (refl, refl)
equalities_written BangDoubleEqual = (refl, refl)
equalities_written _ = tt

-- the mark of an operator, as it is written
pub record Operator (table : Mark → Option BinOp) (strength : ℕ) (op : BinOp) : Type 0 where
  pub sign : Mark
  pub is : table sign ≡ Some op
  pub strong : binary_strength op ≡ strength
  pub written : binary_text op ≡ 32 ∷ mark_text sign ++ 32 ∷ []

operator_lexeme : (table : Mark → Option BinOp) (strength : ℕ) → AreWritten strength table → (l : Lexeme) (op : BinOp) → ◌≡◌ {A = Option BinOp} (elim l [ mark m ↦ table m | _ ↦ None ]) (Some op) → Operator table strength op
operator_lexeme table strength are (mark m) op h =
    let w : IsWritten strength m (Some op) = subst (IsWritten strength m) h (are m) in
    record { sign = m; is = h; strong = w.0; written = w.1 }
operator_lexeme table strength are (plain n) op h = absurd cc
operator_lexeme table strength are (word n) op h = absurd cc
operator_lexeme table strength are (integer n) op h = absurd cc
operator_lexeme table strength are (decimal n p) op h = absurd cc
operator_lexeme table strength are (text n) op h = absurd cc

pub operator_of : (table : Mark → Option BinOp) (strength : ℕ) → AreWritten strength table → (t : Token) (op : BinOp) → looked_up table (Some t) ≡ Some op → Operator table strength op
operator_of table strength are t op h = operator_lexeme table strength are t.lexeme op h

-- Operators before an operand

-- the operand's text begins so that nothing is needed before it, or a space stands there
abbrev pub Gap : UnOp → Mark → Lexeme → List ℕ → Type 0
Gap op m l operand = ((unary_space op operand ≡ []) × (may_touch (mark m) l ≡ true)) ⊎ (unary_space op operand ≡ 32 ∷ [])

mark_minus_touches : (m : Mark) (rest : List ℕ) → opens (mark m) ≡ true → begins_with 45 (mark_text m ++ rest) ≡ false → may_touch (mark Minus) (mark m) ≡ true
unfolding same_mark mark_number mark_text
mark_minus_touches OpenParen rest h k = refl
mark_minus_touches Plus rest h k = refl
mark_minus_touches Bang rest h k = refl
mark_minus_touches Minus rest h k = absurd cc
mark_minus_touches _ rest h k = absurd cc

mark_plus_touches : (m : Mark) (rest : List ℕ) → opens (mark m) ≡ true → begins_with 43 (mark_text m ++ rest) ≡ false → may_touch (mark Plus) (mark m) ≡ true
unfolding same_mark mark_number mark_text
mark_plus_touches OpenParen rest h k = refl
mark_plus_touches Minus rest h k = refl
mark_plus_touches Bang rest h k = refl
mark_plus_touches Plus rest h k = absurd cc
mark_plus_touches _ rest h k = absurd cc

mark_bang_touches : (m : Mark) → opens (mark m) ≡ true → may_touch (mark Bang) (mark m) ≡ true
unfolding same_mark mark_number
mark_bang_touches OpenParen h = refl
mark_bang_touches Minus h = refl
mark_bang_touches Plus h = refl
mark_bang_touches Bang h = refl
mark_bang_touches _ h = absurd cc

minus_touches : (l : Lexeme) (rest : List ℕ) → opens l ≡ true → begins_with 45 (lexeme_text l ++ rest) ≡ false → may_touch (mark Minus) l ≡ true
unfolding same_mark mark_number
minus_touches (mark m) rest h k = mark_minus_touches m rest h k
minus_touches _ rest h k = refl

plus_touches : (l : Lexeme) (rest : List ℕ) → opens l ≡ true → begins_with 43 (lexeme_text l ++ rest) ≡ false → may_touch (mark Plus) l ≡ true
unfolding same_mark mark_number
plus_touches (mark m) rest h k = mark_plus_touches m rest h k
plus_touches _ rest h k = refl

bang_touches : (l : Lexeme) → opens l ≡ true → may_touch (mark Bang) l ≡ true
unfolding same_mark mark_number
bang_touches (mark m) h = mark_bang_touches m h
bang_touches _ h = refl

minus_gap : (b : Bool) (l : Lexeme) (rest : List ℕ) → opens l ≡ true → begins_with 45 (lexeme_text l ++ rest) ≡ b → Gap Neg Minus l (lexeme_text l ++ rest)
minus_gap true l rest h k = inr (if_true _ _ k refl)
minus_gap false l rest h k = inl (if_false _ _ k refl, minus_touches l rest h k)

plus_gap : (b : Bool) (l : Lexeme) (rest : List ℕ) → opens l ≡ true → begins_with 43 (lexeme_text l ++ rest) ≡ b → Gap Posit Plus l (lexeme_text l ++ rest)
plus_gap true l rest h k = inr (if_true _ _ k refl)
plus_gap false l rest h k = inl (if_false _ _ k refl, plus_touches l rest h k)

-- the operator before an operand, if it is one, has the mark's text and such a gap behind it
abbrev IsWrittenBefore : Mark → Option UnOp → Type 0
IsWrittenBefore m None = Unit {0}
IsWrittenBefore m (Some op) = (unary_text op ≡ mark_text m) × ((l : Lexeme) (rest : List ℕ) → opens l ≡ true → Gap op m l (lexeme_text l ++ rest))

signs_written : (m : Mark) → IsWrittenBefore m (unary_operator m)
unfolding mark_text
signs_written Minus = (refl, λ l rest h. minus_gap (begins_with 45 (lexeme_text l ++ rest)) l rest h refl)
signs_written Plus = (refl, λ l rest h. plus_gap (begins_with 43 (lexeme_text l ++ rest)) l rest h refl)
signs_written Bang = (refl, λ l rest h. inl (refl, bang_touches l h))
signs_written _ = tt

-- the mark of an operator before an operand, as it is written
pub record Sign (op : UnOp) : Type 0 where
  pub sign : Mark
  pub is : unary_operator sign ≡ Some op
  pub written : unary_text op ≡ mark_text sign
  pub gap : (l : Lexeme) (rest : List ℕ) → opens l ≡ true → Gap op sign l (lexeme_text l ++ rest)

sign_lexeme : (l : Lexeme) (op : UnOp) → ◌≡◌ {A = Option UnOp} (elim l [ mark m ↦ unary_operator m | _ ↦ None ]) (Some op) → Sign op
sign_lexeme (mark m) op h =
    let w : IsWrittenBefore m (Some op) = subst (IsWrittenBefore m) h (signs_written m) in
    record { sign = m; is = h; written = w.0; gap = w.1 }
sign_lexeme (plain n) op h = absurd cc
sign_lexeme (word n) op h = absurd cc
sign_lexeme (integer n) op h = absurd cc
sign_lexeme (decimal n p) op h = absurd cc
sign_lexeme (text n) op h = absurd cc

pub sign_of : (t : Token) (op : UnOp) → looked_up unary_operator (Some t) ≡ Some op → Sign op
sign_of t op h = sign_lexeme t.lexeme op h

pub sign_opens : (m : Mark) (op : UnOp) → unary_operator m ≡ Some op → opens (mark m) ≡ true
sign_opens m op h = or_right (same_mark OpenParen m) (ap is_some h)
