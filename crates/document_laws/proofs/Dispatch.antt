-- Which reading of a member the first tokens choose.
use Rattle.std.proofs.Common.{◌≡◌, ℕ, true, false, List, ◌∷◌, ◌++◌, Some, refl, sym, ap, ◌∙◌}
use Rattle.std.proofs.lemmas.Bool.{and_left, and_right}
use Rattle.qml_ast.specs.declared.path.Path.{Path}
use Rattle.qml_grammar.specs.DocumentGrammar.{IsName, is_own_word, IsPath, one, two}
use Rattle.qml_grammar.specs.Documents.{Under, id_member, property, fixed_property, signal_member, method, path_member, alone, child, grouped, begins_on, opens_or_on, named_member, other_member, member_in}
use Rattle.qml_grammar.specs.Ends.{ended}
use Rattle.qml_grammar.specs.ExpressionGrammar.{IsMark}
use Rattle.qml_grammar.specs.Inputs.{Input, ahead}
use Rattle.qml_grammar.specs.Lexemes.{Token, head, is_mark, is_word}
use Rattle.qml_grammar.specs.Marks.{same_mark, mark_number}
use Rattle.qml_grammar.specs.Names.{upper_first, lower_first, name_is, is_dotted_type, begins_object, begins_group}
use Rattle.qml_grammar.specs.StatementGrammar.{IsWord}
use Rattle.qml_grammar.specs.Words.{same_word, word_number}
use Rattle.qml_grammar.specs.declared.mark.Mark.{Mark}
use Rattle.qml_grammar.specs.declared.mark.Mark.TheVariants.{OpenBrace, Colon, Dot}
use Rattle.qml_grammar.specs.declared.word.Word.{Word}
use Rattle.qml_grammar.specs.declared.word.Word.TheVariants as ww
use Rattle.grammar_laws.proofs.Behind.{if_true, if_false}
use Rattle.document_laws.proofs.Names.{object_test, no_dots_there, dotted_ends, last_at, last_step}
use Rattle.document_laws.proofs.Tokens.{word_is, mark_is, mark_no_word, lower_not_upper, opens_or_on_mark, not_own}

module _ (d : ℕ) (v : Under) (i : Input) (t : Token) (e : ahead i ≡ Some t) where
  -- a word that the first token is not
  other : (w u : Word) → IsWord t u → same_word w u ≡ false → is_word w (ahead i) ≡ false
  other w u h differ = ap (is_word w) e ∙ (word_is w u t h ∙ differ)

  pub by_id : IsWord t ww.Id → member_in d v i ≡ alone (ended id_member) i
  unfolding member_in
  by_id h = if_true _ _ (ap (is_word ww.Id) e ∙ h) refl

  pub by_property : IsWord t ww.Property → member_in d v i ≡ alone (ended (property d v false)) i
  unfolding member_in same_word word_number
  by_property h = if_false _ _ (other ww.Id ww.Property h refl) (if_true _ _ (ap (is_word ww.Property) e ∙ h) refl)

  pub by_read_only : IsWord t ww.ReadOnly → member_in d v i ≡ alone (ended (fixed_property d v)) i
  unfolding member_in same_word word_number
  by_read_only h = if_false _ _ (other ww.Id ww.ReadOnly h refl) (if_false _ _ (other ww.Property ww.ReadOnly h refl) (if_true _ _ (ap (is_word ww.ReadOnly) e ∙ h) refl))

  pub by_signal : IsWord t ww.Signal → member_in d v i ≡ alone (ended signal_member) i
  unfolding member_in same_word word_number
  by_signal h =
      if_false _ _ (other ww.Id ww.Signal h refl) (if_false _ _ (other ww.Property ww.Signal h refl) (if_false _ _ (other ww.ReadOnly ww.Signal h refl)
      (if_true _ _ (ap (is_word ww.Signal) e ∙ h) refl)))

  pub by_function : IsWord t ww.Function → member_in d v i ≡ alone (method d) i
  unfolding member_in other_member same_word word_number
  by_function h =
      if_false _ _ (other ww.Id ww.Function h refl) (if_false _ _ (other ww.Property ww.Function h refl) (if_false _ _ (other ww.ReadOnly ww.Function h refl)
      (if_false _ _ (other ww.Signal ww.Function h refl) (if_true _ _ (ap (is_word ww.Function) e ∙ h) refl))))

  -- no word of members
  pub by_name : is_own_word (Some t) ≡ false → member_in d v i ≡ named_member d v i
  unfolding member_in other_member
  by_name h =
      let n = not_own (ahead i) (ap is_own_word e ∙ h) in
      if_false _ _ n.id (if_false _ _ n.property (if_false _ _ n.read_only (if_false _ _ n.signal (if_false _ _ n.function (if_false _ _ n.unsupported (if_false _ _ n.otherwise refl))))))

-- Names

-- what the tokens begin with is a path
record PathTests (ts : List Token) : Type 0 where
  object : begins_object ts ≡ false
  on : begins_on ts ≡ false
  dotted : is_dotted_type opens_or_on ts ≡ false
  group : begins_group ts ≡ false

mark_tests : (m : Mark) (t o : Token) (ts : List Token) → IsMark o m → same_mark OpenBrace m ≡ false → is_dotted_type opens_or_on (t ∷ o ∷ ts) ≡ false → PathTests (t ∷ o ∷ ts)
mark_tests m t o ts h other dotted =
    let brace = mark_is OpenBrace m o h ∙ other in
    record {
      object = and_right (name_is upper_first (Some t)) (is_mark OpenBrace (Some o)) brace;
      on = and_right (name_is upper_first (Some t)) (is_word ww.On (Some o)) (mark_no_word m ww.On o h);
      dotted = dotted;
      group = and_right (name_is lower_first (Some t)) (is_mark OpenBrace (Some o)) brace;
    }

path_tests : {ts : List Token} {p : Path} (c : Token) (ws : List Token) → IsPath ts p → IsMark c Colon → PathTests (ts ++ c ∷ ws)
unfolding same_mark mark_number
path_tests c ws (one t n ts_is p_is own is) colon =
    rw ts_is (mark_tests Colon t c ws colon refl (no_dots_there opens_or_on t (c ∷ ws) n is (mark_is Dot Colon c colon)))
path_tests c ws (two t o u n m ts_is p_is own first dot second may) colon =
    rw ts_is (mark_tests Dot t o (u ∷ c ∷ ws) dot refl (dotted_ends opens_or_on t (o ∷ u ∷ c ∷ ws) n (Some c) m first (last_step n m o u (c ∷ ws) dot second ∙ last_at m c ws (mark_is Dot Colon c colon)) (opens_or_on_mark Colon c colon refl)))

pub by_path : (d : ℕ) (v : Under) (i : Input) {ts : List Token} {p : Path} (c : Token) (ws : List Token) → i.rest ≡ ts ++ c ∷ ws → IsPath ts p → IsMark c Colon → named_member d v i ≡ alone (ended (path_member d v)) i
unfolding named_member
by_path d v i c ws r path_is colon =
    let t = path_tests c ws path_is colon in
    if_false _ _ (ap begins_object r ∙ t.object) (if_false _ _ (ap begins_on r ∙ t.on) (if_false _ _ (ap (is_dotted_type opens_or_on) r ∙ t.dotted) (if_false _ _ (ap begins_group r ∙ t.group) refl)))

pub by_object : (d : ℕ) (v : Under) (i : Input) (t o : Token) (ws : List Token) (n : List ℕ) → i.rest ≡ t ∷ o ∷ ws → IsName t n → upper_first n ≡ true → IsMark o OpenBrace → named_member d v i ≡ child v i
unfolding named_member
by_object d v i t o ws n r is up opens = if_true _ _ (ap begins_object r ∙ object_test t o ws n is up opens) refl

pub by_group : (d : ℕ) (v : Under) (i : Input) (t o : Token) (ws : List Token) (n : List ℕ) → i.rest ≡ t ∷ o ∷ ws → IsName t n → lower_first n ≡ true → IsMark o OpenBrace → named_member d v i ≡ grouped v i
unfolding named_member same_mark mark_number
by_group d v i t o ws n r is low opens =
    let no_upper : name_is upper_first (Some t) ≡ false = rw (name_is, is) (lower_not_upper n low) in
    let lower : begins_group (t ∷ o ∷ ws) ≡ true = rw (begins_group, name_is, is, low, opens) refl in
    if_false _ _ (ap begins_object r ∙ and_left _ (is_mark OpenBrace (Some o)) no_upper) (if_false _ _ (ap begins_on r ∙ and_left _ (is_word ww.On (Some o)) no_upper)
    (if_false _ _ (ap (is_dotted_type opens_or_on) r ∙ no_dots_there opens_or_on t (o ∷ ws) n is (mark_is Dot OpenBrace o opens)) (if_true _ _ (ap begins_group r ∙ lower) refl)))

-- the first tokens of a path
pub path_free : {ts : List Token} {p : Path} → IsPath ts p → (t : Token) (us : List Token) → ts ≡ t ∷ us → is_own_word (Some t) ≡ false
path_free (one t n ts_is p_is own is) u us e = ap (λ ts. is_own_word (head ts)) (sym e ∙ ts_is) ∙ own
path_free (two t o w n m ts_is p_is own first dot second may) u us e = ap (λ ts. is_own_word (head ts)) (sym e ∙ ts_is) ∙ own
