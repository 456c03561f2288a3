-- A member is read, or refused, by the tokens up to the next one alone, and by those of a name with dots.
use Rattle.std.proofs.Common.{◌≡◌, ℕ, ◌<◌, ◌&&◌, not, Bool, true, false, if◌then◌else◌, is_some, List, [], ◌∷◌, ◌++◌, length, Option, Some, None, Result, Ok, Err, inl, inr, refl, sym, ap, subst, ◌∙◌, codes, bytes_eq}
use Rattle.qml_ast.specs.declared.decl.Member.{Member}
use Rattle.qml_ast.specs.declared.decl.Member.TheVariants as mm
use Rattle.qml_ast.specs.declared.fault.DocFault.{DocFault}
use Rattle.qml_ast.specs.declared.fault.DocFault.TheVariants.{Unsupported}
use Rattle.qml_ast.specs.declared.param.MethodParam.{MethodParam}
use Rattle.qml_ast.specs.declared.param.SignalParam.{SignalParam}
use Rattle.qml_ast.specs.declared.path.Path.{Path}
use Rattle.qml_ast.specs.declared.span.Span.{Span}
use Rattle.qml_grammar.specs.Documents.{Under, value_in, id_member, kind, property_kind, property_value, kind_and_name, property, fixed_property, signal_param, more_signal_params, some_signal_params, signal_params, signal_member, method_param, more_method_params, some_method_params, method_params, method_block, method_behind, method, second_name, path_behind, path, handled, initialised, behind_path, path_member}
use Rattle.qml_grammar.specs.Ends.{ended}
use Rattle.qml_grammar.specs.Inputs.{Input, Parser, ahead, after, place, refusal, take_token, expect, any_name}
use Rattle.qml_grammar.specs.Lexemes.{Token, head, tail, name_of, is_name, is_mark, is_word}
use Rattle.qml_grammar.specs.Names.{upper_first, is_handler_name, is_handler_path, name_is, is_dotted_kind}
use Rattle.qml_grammar.specs.declared.mark.Mark.{Mark}
use Rattle.qml_grammar.specs.declared.mark.Mark.TheVariants.{OpenBrace, OpenParen, CloseParen, Colon, Comma, Dot}
use Rattle.qml_grammar.specs.declared.word.Word.TheVariants as ww
use Rattle.grammar_laws.specs.Laws.{Way}
use Rattle.grammar_laws.proofs.Behind.{if_false}
use Rattle.grammar_laws.proofs.Local.{followed, branch, chosen, not_chosen, chosen_in}
use Rattle.grammar_laws.proofs.Tools.{bind_ok, way_then, way_token, ahead_some, named, if_ok, same_input}
use Rattle.fault_laws.proofs.Dotted.{first_false, second_false, name_no_dot, head_same, seen_kind, settled, settled_off, settled_on}
use Rattle.fault_laws.proofs.Firm.{FirmFails, Firm, firm_of, firm_followed, firm_named, firm_placed, unless, firm_unless, sure_split, sure_as}
use Rattle.fault_laws.proofs.Grows.{Grows, grows_followed, grows_behind, grows_name}
use Rattle.fault_laws.proofs.Sure.{sure_followed, sure_branch, sure_while}
use Rattle.fault_laws.proofs.SureStatements.{sure_bodies, sure_statement}
use Rattle.fault_laws.proofs.SureTokens.{sure_refused, sure_unsupported, sure_pure, sure_after, sure_token, sure_expect, sure_name, sure_placed, sure_ended}
use Rattle.fault_laws.proofs.SureValues.{Well, upper_name, some_by, value_well}

-- Steps

pub then_well : {A B : Type 0} {p : Parser A} {f : A → Parser B} → Well p → ((x : A) → Well (f x)) → Well (followed p f)
then_well = sure_followed (Unit {0}) (Unit {0})

pub branch_well : {A : Type 0} (by : Option Token → Bool) {p q : Parser A} → Well p → Well q → Well (branch by p q)
branch_well = sure_branch (Unit {0}) (Unit {0})

pub pure_well : {A : Type 0} (x : A) → Well (λ i. Ok (x, i))
pure_well = sure_pure (Unit {0}) (Unit {0})

pub after_well : {A : Type 0} (x : A) → Well (λ i. Ok (x, after i))
after_well = sure_after (Unit {0}) (Unit {0})

pub refused_well : {A : Type 0} → Well {A = A} (λ i. Err (refusal i))
refused_well = sure_refused (Unit {0}) (Unit {0})

pub unsupported_well : {A : Type 0} → Well {A = A} (λ i. Err (Unsupported (place i)))
unsupported_well = sure_unsupported (Unit {0}) (Unit {0})

pub token_well : Well take_token
token_well = sure_token (Unit {0}) (Unit {0})

pub expect_well : (m : Mark) → Well (expect m)
expect_well = sure_expect (Unit {0}) (Unit {0})

pub name_well : Well any_name
name_well = sure_name (Unit {0}) (Unit {0})

pub placed_well : {A : Type 0} (f : Span → Parser A) → ((s : Span) → Well (f s)) → ((i : Input) (x : A) (j : Input) → f (place i) i ≡ Ok (x, j) → is_some (ahead i) ≡ true) → Well (λ i. f (place i) i)
placed_well = sure_placed (Unit {0}) (Unit {0})

pub ended_well : {A : Type 0} (p : Parser A) → Well p → Well (ended p)
ended_well = sure_ended (Unit {0}) (Unit {0})

pub named_some : (i : Input) (n : List ℕ) (j : Input) → any_name i ≡ Ok (n, j) → is_some (ahead i) ≡ true
named_some i n j h = elim (chosen_in (name_of (ahead i)) _ _ _ h) [
  | chosen m e g ↦ some_by name_of refl (ahead i) m e
  | not_chosen e g ↦ absurd cc
]

-- a name and what follows it, with the name's place
here_well : {B : Type 0} (f : Span → List ℕ → Parser B) → ((s : Span) (n : List ℕ) → Well (f s n)) → Well (λ i. followed any_name (f (place i)) i)
here_well f good = placed_well (λ s. followed any_name (f s)) (λ s. then_well name_well (good s)) (λ i x j h. let b = bind_ok (any_name i) _ _ h in named_some i b.value b.at b.first)

pub mark_some : (m : Mark) (o : Option Token) → is_mark m o ≡ true → is_some o ≡ true
mark_some m None h = absurd cc
mark_some m (Some t) h = refl

no_name_by : (f : List ℕ → Bool) (o : Option (List ℕ)) → is_some o ≡ false → elim o [ Some n ↦ f n | None ↦ false ] ≡ false
no_name_by f None h = refl
no_name_by f (Some n) h = absurd cc

pub no_name : (f : List ℕ → Bool) (o : Option Token) → is_name o ≡ false → name_is f o ≡ false
no_name f o h = no_name_by f (name_of o) h

-- Words

pub id_well : Well id_member
unfolding id_member
id_well = then_well token_well (λ u. then_well (expect_well Colon) (λ w. here_well (λ s n l. Ok (mm.Id n s, l)) (λ s n. pure_well (mm.Id n s))))

pub id_grows : Grows id_member
unfolding id_member
id_grows = grows_behind _ (λ u. (then_well (expect_well Colon) (λ w. here_well (λ s n l. Ok (mm.Id n s, l)) (λ s n. pure_well (mm.Id n s)))).local)

-- Kinds

name_next : (o : Option Token) → is_name o ≡ true → is_mark Dot o ≡ false
name_next None h = refl
name_next (Some t) h = name_no_dot t h

-- no dot follows the first token
kind_off : (t : Token) (ts : List Token) → is_name (head ts) ≡ true → is_dotted_kind (t ∷ ts) ≡ false
kind_off t ts h = first_false (is_some (name_of (head (tail ts)))) (second_false (name_is upper_first (Some t)) (name_next (head ts) h))

pub unless_then : {A B : Type 0} (b : Bool) (e : DocFault) (r : Result (A × Input) DocFault) (f : A → Parser B) → ◌≡◌ {A = Result (B × Input) DocFault} (elim (if b then Err e else r) [ Ok x ↦ f x.0 x.1 | Err g ↦ Err g ]) (if b then Err e else elim r [ Ok x ↦ f x.0 x.1 | Err g ↦ Err g ])
unless_then true e r f = refl
unless_then false e r f = refl

-- a kind is read to the end of its name only if no dot follows; so it is read together with the name behind it
module _ {B : Type 0} (f : List ℕ → Span → List ℕ → Parser B) (good : (k : List ℕ) (s : Span) (n : List ℕ) → Well (f k s n)) where
  abbrev behind_kind : List ℕ → Parser B
  behind_kind k j = followed any_name (f k (place j)) j

  behind_kind_well : (k : List ℕ) → Well (behind_kind k)
  behind_kind_well k = here_well (f k) (good k)

  two_names : Well (followed any_name behind_kind)
  two_names = then_well name_well behind_kind_well

  two_names_grow : Grows (followed any_name behind_kind)
  two_names_grow = grows_followed any_name behind_kind grows_name (λ k. (behind_kind_well k).local)

  second_name_of : (i : Input) (x : B) (j : Input) → followed any_name behind_kind i ≡ Ok (x, j) → is_name (head (tail i.rest)) ≡ true
  second_name_of i x j h =
      let a = bind_ok (any_name i) _ _ h in
      let b = bind_ok (any_name a.at) _ _ a.onward in
      let first = named i a.at a.value a.first in
      let second = named a.at b.at b.value b.first in
      let rest : i.rest ≡ first.token ∷ (second.token ∷ b.at.rest) = (first.way).rest ∙ ap (λ ts. first.token ∷ ts) (second.way).rest in
      ap (λ ts. is_name (head (tail ts))) rest ∙ ap is_some second.is

  kind_settles : (t : Token) (i : Input) (x : B) (j : Input) (n : ℕ) (us r : List Token) → followed any_name behind_kind i ≡ Ok (x, j) → Way i j n (t ∷ us) → head r ≡ head j.rest → is_dotted_kind (t ∷ (us ++ r)) ≡ is_dotted_kind (t ∷ (us ++ j.rest))
  kind_settles t i x j n us r h w same =
      let is : is_name (head (us ++ j.rest)) ≡ true = sym (ap (λ ts. is_name (head (tail ts))) w.rest) ∙ second_name_of i x j h in
      kind_off t (us ++ r) (ap is_name (head_same us j.rest r same) ∙ is) ∙ sym (kind_off t (us ++ j.rest) is)

  kind_firm : (t : Token) (i : Input) → i.rest ≡ t ∷ tail i.rest → name_is upper_first (Some t) ≡ true → Firm t (unless is_dotted_kind (followed any_name behind_kind)) i
  kind_firm t i first upper = firm_unless t is_dotted_kind (followed any_name behind_kind) i first (seen_kind t (tail i.rest)) (upper_name t upper) upper
      (firm_of t (followed any_name behind_kind) i first two_names two_names_grow (firm_named t behind_kind i first (upper_name t upper) behind_kind_well))
      (kind_settles t i)

  kind_other : (i : Input) → name_is upper_first (ahead i) ≡ false → unless is_dotted_kind (followed any_name behind_kind) i ≡ followed any_name behind_kind i
  kind_other i h = if_false _ _ (first_false (is_some (name_of (head (tail (tail i.rest))))) (first_false (is_mark Dot (head (tail i.rest))) h)) refl

  unless_well : Well (unless is_dotted_kind (followed any_name behind_kind))
  unless_well = sure_split (name_is upper_first) refl (unless is_dotted_kind (followed any_name behind_kind)) (followed any_name behind_kind) kind_firm two_names kind_other

  pub kind_well : Well (followed kind behind_kind)
  unfolding kind
  kind_well = sure_as (followed kind behind_kind) (λ i. unless_then (is_dotted_kind i.rest) (Unsupported (place i)) (any_name i) behind_kind) unless_well

  pub property_kind_well : Well (followed property_kind behind_kind)
  unfolding property_kind
  property_kind_well = sure_as (followed property_kind behind_kind) (λ i. unless_then (is_word ww.Alias (ahead i)) (Unsupported (place i)) (kind i) behind_kind) (branch_well (is_word ww.Alias) unsupported_well kind_well)

kind_some : (i : Input) (n : List ℕ) (j : Input) → kind i ≡ Ok (n, j) → is_some (ahead i) ≡ true
unfolding kind
kind_some i n j h = elim (if_ok (is_dotted_kind i.rest) _ _ _ h) [ inl a ↦ absurd (let e = a.1 in cc) | inr a ↦ named_some i n j a.1 ]

property_kind_some : (i : Input) (n : List ℕ) (j : Input) → property_kind i ≡ Ok (n, j) → is_some (ahead i) ≡ true
unfolding property_kind
property_kind_some i n j h = elim (if_ok (is_word ww.Alias (ahead i)) _ _ _ h) [ inl a ↦ absurd (let e = a.1 in cc) | inr a ↦ kind_some i n j a.1 ]

-- Signals

signal_param_well : Well signal_param
unfolding signal_param
signal_param_well = placed_well (λ s. followed kind (λ k j. followed any_name (λ n l. Ok (record { kind = k; name = n; kind_span = s; name_span = place j }, l)) j))
    (λ s. kind_well (λ k z n l. Ok (record { kind = k; name = n; kind_span = s; name_span = z }, l)) (λ k z n. pure_well _))
    (λ i x j h. let b = bind_ok (kind i) _ _ h in kind_some i b.value b.at b.first)

more_signals_well : (xs : List SignalParam) → Well (more_signal_params xs)
unfolding more_signal_params
more_signals_well xs = then_well token_well (λ u. then_well signal_param_well (λ x. pure_well (xs ++ x ∷ [])))

more_signals_less : (xs : List SignalParam) (i : Input) (ys : List SignalParam) (j : Input) → is_mark Comma (ahead i) ≡ true → more_signal_params xs i ≡ Ok (ys, j) → length j.rest < length i.rest
unfolding more_signal_params
more_signals_less xs i ys j t h = grows_behind _ (λ u. (then_well signal_param_well (λ x. pure_well (xs ++ x ∷ []))).local) i ys j (mark_some Comma (ahead i) t) h

some_signals_well : Well some_signal_params
unfolding some_signal_params
some_signals_well = then_well signal_param_well (λ x. then_well (sure_while (Unit {0}) (Unit {0}) (is_mark Comma) more_signal_params refl more_signals_well more_signals_less (x ∷ [])) (λ xs. then_well (expect_well CloseParen) (λ u. pure_well xs)))

signals_well : Well signal_params
unfolding signal_params
signals_well = branch_well (is_mark OpenParen) (then_well token_well (λ u. branch_well (is_mark CloseParen) (after_well []) some_signals_well)) (pure_well [])

pub signal_well : Well signal_member
unfolding signal_member
signal_well = then_well token_well (λ u. here_well (λ s n. followed signal_params (λ xs l. Ok (mm.Signal n xs s, l))) (λ s n. then_well signals_well (λ xs. pure_well (mm.Signal n xs s))))

pub signal_grows : Grows signal_member
unfolding signal_member
signal_grows = grows_behind _ (λ u. (here_well (λ s n. followed signal_params (λ xs l. Ok (mm.Signal n xs s, l))) (λ s n. then_well signals_well (λ xs. pure_well (mm.Signal n xs s)))).local)

-- Methods

method_param_well : Well method_param
unfolding method_param
method_param_well = here_well (λ s n l. Ok (record { name = n; span = s }, l)) (λ s n. pure_well _)

more_params_well : (xs : List MethodParam) → Well (more_method_params xs)
unfolding more_method_params
more_params_well xs = then_well token_well (λ u. then_well method_param_well (λ x. pure_well (xs ++ x ∷ [])))

more_params_less : (xs : List MethodParam) (i : Input) (ys : List MethodParam) (j : Input) → is_mark Comma (ahead i) ≡ true → more_method_params xs i ≡ Ok (ys, j) → length j.rest < length i.rest
unfolding more_method_params
more_params_less xs i ys j t h = grows_behind _ (λ u. (then_well method_param_well (λ x. pure_well (xs ++ x ∷ []))).local) i ys j (mark_some Comma (ahead i) t) h

some_params_well : Well some_method_params
unfolding some_method_params
some_params_well = then_well method_param_well (λ x. then_well (sure_while (Unit {0}) (Unit {0}) (is_mark Comma) more_method_params refl more_params_well more_params_less (x ∷ [])) (λ xs. then_well (expect_well CloseParen) (λ u. pure_well xs)))

params_well : Well method_params
unfolding method_params
params_well = then_well (expect_well OpenParen) (λ u. branch_well (is_mark CloseParen) (after_well []) some_params_well)

module _ (d : ℕ) where
  block_well : Well (method_block d)
  unfolding method_block
  block_well = branch_well (is_mark OpenBrace) (sure_bodies (Unit {0}) d).block refused_well

  method_behind_well : (n : List ℕ) (s : Span) → Well (method_behind d n s)
  unfolding method_behind
  method_behind_well n s = then_well params_well (λ ps. then_well block_well (λ xs. pure_well (mm.Method n ps xs s)))

  pub method_well : Well (method d)
  unfolding method
  method_well = then_well token_well (λ u. here_well (λ s n. method_behind d n s) (λ s n. method_behind_well n s))

  pub method_grows : Grows (method d)
  unfolding method
  method_grows = grows_behind _ (λ u. (here_well (λ s n. method_behind d n s) (λ s n. method_behind_well n s)).local)

-- Paths

second_well : (n : List ℕ) → Well (second_name n)
unfolding second_name
second_well n = branch_well (λ o. name_is is_handler_name o && not (bytes_eq n (codes "Component"))) refused_well name_well

path_behind_well : (n : List ℕ) → Well (path_behind n)
unfolding path_behind
path_behind_well n = branch_well (is_mark Dot) (then_well token_well (λ u. then_well (second_well n) (λ m. pure_well (record { first = n; second = Some m })))) (pure_well (record { first = n; second = None }))

path_well : Well path
unfolding path
path_well = then_well name_well path_behind_well

path_grows : Grows path
unfolding path
path_grows = grows_followed any_name path_behind grows_name (λ n. (path_behind_well n).local)

path_some : (i : Input) (p : Path) (j : Input) → path i ≡ Ok (p, j) → is_some (ahead i) ≡ true
unfolding path
path_some i p j h = let b = bind_ok (any_name i) _ _ h in named_some i b.value b.at b.first

path_firm_fails : (t : Token) (i : Input) → i.rest ≡ t ∷ tail i.rest → is_name (Some t) ≡ true → (e : DocFault) → path i ≡ Err e → FirmFails t path i e
unfolding path
path_firm_fails t i first is = firm_named t path_behind i first is path_behind_well

-- the tokens of a path, behind which stands no dot
pub record PathText (i k : Input) : Type 0 where
  pub token : Token
  pub others : List Token
  pub way : Way i k 0 (token ∷ others)
  pub settles : (b : Bool) (c : Token) (zs : List Token) → is_mark Dot (Some c) ≡ false → settled b (others ++ c ∷ zs) ≡ true

second_named : (n m : List ℕ) (i j : Input) → second_name n i ≡ Ok (m, j) → any_name i ≡ Ok (m, j)
unfolding second_name
second_named n m i j h = elim (if_ok (name_is is_handler_name (ahead i) && not (bytes_eq n (codes "Component"))) _ _ _ h) [ inl a ↦ absurd (let e = a.1 in cc) | inr a ↦ a.1 ]

one_text : (i k j : Input) (t : Token) → Way i k 0 (t ∷ []) → k ≡ j → PathText i j
one_text i k j t w e = record { token = t; others = []; way = subst (λ l. Way i l 0 (t ∷ [])) e w; settles = λ b c zs h. settled_off b c zs h }

path_text_by : (i k : Input) (n : List ℕ) (p : Path) (j : Input) (t : Token) → Way i k 0 (t ∷ []) → path_behind n k ≡ Ok (p, j) → PathText i j
unfolding path_behind
path_text_by i k n p j t w h = elim (if_ok (is_mark Dot (ahead k)) _ _ _ h) [
  | inl a ↦ (
      let o = ahead_some (is_mark Dot) refl k a.0 in
      let b = bind_ok (second_name n (after k)) _ _ a.1 in
      let m = named (after k) b.at b.value (second_named n b.value (after k) b.at b.first) in
      let e = same_input _ p b.at j b.onward in
      record {
        token = t;
        others = o.token ∷ m.token ∷ [];
        way = subst (λ l. Way i l 0 (t ∷ o.token ∷ m.token ∷ [])) e (way_then w (way_then (way_token {i = k} o.token o.rest) m.way));
        settles = λ q c zs g. settled_on q o.token m.token (c ∷ zs) o.is (ap is_some m.is) (settled_off q c zs g);
      })
  | inr a ↦ one_text i k j t w (same_input _ p k j a.1)
]

pub path_text : (i : Input) (p : Path) (j : Input) → path i ≡ Ok (p, j) → PathText i j
unfolding path
path_text i p j h =
    let a = bind_ok (any_name i) _ _ h in
    let t = named i a.at a.value a.first in
    path_text_by i a.at a.value p j t.token t.way a.onward

-- Members, with what stands one level further in

module _ (v : Under) (inside : Well v.members) (d : ℕ) where
  pub value_good : Well (value_in d v)
  value_good = value_well v inside d

  property_value_well : (fixed : Bool) (k : List ℕ) (s : Span) (n : List ℕ) (z : Span) → Well (property_value d v fixed k s n z)
  unfolding property_value
  property_value_well fixed k s n z = branch_well (is_mark Colon) (then_well token_well (λ u. then_well value_good (λ x. pure_well (mm.Property fixed k n (Some x.init) s x.span z)))) (pure_well (mm.Property fixed k n None s z z))

  kind_and_name_well : (fixed : Bool) → Well (kind_and_name d v fixed)
  unfolding kind_and_name
  kind_and_name_well fixed = placed_well (λ s. followed property_kind (λ k j. followed any_name (λ n. property_value d v fixed k s n (place j)) j))
      (λ s. property_kind_well (λ k z n. property_value d v fixed k s n z) (λ k z n. property_value_well fixed k s n z))
      (λ i x j h. let b = bind_ok (property_kind i) _ _ h in property_kind_some i b.value b.at b.first)

  pub property_well : (fixed : Bool) → Well (property d v fixed)
  unfolding property
  property_well fixed = then_well token_well (λ u. kind_and_name_well fixed)

  pub property_grows : (fixed : Bool) → Grows (property d v fixed)
  unfolding property
  property_grows fixed = grows_behind _ (λ u. (kind_and_name_well fixed).local)

  pub fixed_well : Well (fixed_property d v)
  unfolding fixed_property
  fixed_well = then_well token_well (λ u. branch_well (is_word ww.Property) (property_well true) refused_well)

  pub fixed_grows : Grows (fixed_property d v)
  unfolding fixed_property
  fixed_grows = grows_behind _ (λ u. (branch_well (is_word ww.Property) (property_well true) refused_well).local)

  handled_well : (p : Path) (s : Span) → Well (handled d p s)
  unfolding handled
  handled_well p s = then_well (sure_statement (Unit {0}) d) (λ x. pure_well (mm.Handler p x s))

  initialised_well : (p : Path) (s : Span) → Well (initialised d v p s)
  unfolding initialised
  initialised_well p s = then_well value_good (λ x. pure_well (mm.Init p x.init x.span s))

  pub behind_path_well : (p : Path) (s : Span) → Well (behind_path d v p s)
  unfolding behind_path
  behind_path_well p s = branch_well (λ o. is_handler_path p) (handled_well p s) (initialised_well p s)

  abbrev path_at : Span → Parser Member
  path_at s = followed path (λ p. followed (expect Colon) (λ u. behind_path d v p s))

  colon_well : (s : Span) (p : Path) → Well (followed (expect Colon) (λ u. behind_path d v p s))
  colon_well s p = then_well (expect_well Colon) (λ u. behind_path_well p s)

  pub path_member_well : Well (path_member d v)
  unfolding path_member
  path_member_well = placed_well path_at (λ s. then_well path_well (colon_well s)) (λ i x j h. let b = bind_ok (path i) _ _ h in path_some i b.value b.at b.first)

  pub path_member_grows : Grows (path_member d v)
  unfolding path_member
  path_member_grows i x j t h = grows_followed path _ path_grows (λ p. (colon_well (place i) p).local) i x j t h

  pub path_member_firm_fails : (t : Token) (i : Input) → i.rest ≡ t ∷ tail i.rest → is_name (Some t) ≡ true → (e : DocFault) → path_member d v i ≡ Err e → FirmFails t (path_member d v) i e
  unfolding path_member
  path_member_firm_fails t i first is = firm_placed t i path_at (firm_followed t path i first path_well path_grows _ (colon_well (place i)) (path_firm_fails t i first is))
