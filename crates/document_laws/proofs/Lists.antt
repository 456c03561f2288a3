-- Members and entries as lists of items, and how they begin.
use Rattle.std.proofs.Common.{◌≡◌, ℕ, List, [], ◌∷◌, ◌++◌, Option, refl, ap, ◌∙◌}
use Rattle.qml_ast.specs.declared.decl.Decl.{Decl}
use Rattle.qml_ast.specs.declared.decl.Member.{Member}
use Rattle.qml_ast.specs.declared.path.Path.{Path}
use Rattle.qml_grammar.specs.DocumentGrammar.{IsName, IsPath, one, two, IsObject, object, IsShortMember, id, property, fixed, signal, initialised, handled, IsMember, short, method, group, child, AreEntries, no_entries, more_entries, IsEntry, entry, AreMembers, no_members, more_members}
use Rattle.qml_grammar.specs.Lexemes.{Token, is_name, last_of}
use Rattle.qml_grammar.specs.StatementGrammar.{IsWord, follow, IsEnd}
use Rattle.qml_grammar.specs.Statements.{goes_on_inside}
use Rattle.qml_grammar.specs.declared.word.Word.{Word}
use Rattle.qml_grammar.specs.declared.word.Word.TheVariants as ww
use Rattle.grammar_laws.proofs.First.{Begins, begins_left}
use Rattle.statement_laws.proofs.Loops.{Items, no_item, an_item}
use Rattle.document_laws.proofs.Tokens.{word_named, named_is_name, is_name_goes_on}

-- How members begin

word_first : {ts : List Token} (w : Word) (t : Token) (us : List Token) → ts ≡ t ∷ us → IsWord t w → Begins is_name ts
word_first w t us e h = record { token = t; others = us; text = e; begins = named_is_name t (word_named w t h).1 }

name_first : {ts : List Token} {n : List ℕ} (t : Token) (us : List Token) → ts ≡ t ∷ us → IsName t n → Begins is_name ts
name_first t us e h = record { token = t; others = us; text = e; begins = named_is_name t h }

path_begins : {ts : List Token} {p : Path} → IsPath ts p → Begins is_name ts
path_begins (one t n ts_is p_is own is) = name_first t [] ts_is is
path_begins (two t o u n m ts_is p_is own first dot second may) = name_first t (o ∷ u ∷ []) ts_is first

short_begins : {d : ℕ} {ts : List Token} {next : Option Token} {x : Member} → IsShortMember 200 d ts next x → Begins is_name ts
short_begins (id t o u n ts_is x_is word_is colon is) = word_first ww.Id t (o ∷ u ∷ []) ts_is word_is
short_begins (property t u v us k n y at ts_is x_is word_is kind_is no_alias is value) = word_first ww.Property t (u ∷ v ∷ us) ts_is word_is
short_begins (fixed r t u v us k n y at ts_is x_is first_is word_is kind_is no_alias is value) = word_first ww.ReadOnly r (t ∷ u ∷ v ∷ us) ts_is first_is
short_begins (signal t u us n ps ts_is x_is word_is is params) = word_first ww.Signal t (u ∷ us) ts_is word_is
short_begins (initialised t us o vs p y at ts_is x_is path_is plain colon value) = begins_left (t ∷ us) (o ∷ vs) ts_is (path_begins path_is)
short_begins (handled t us o vs p y ts_is x_is path_is handler colon stmt) = begins_left (t ∷ us) (o ∷ vs) ts_is (path_begins path_is)

object_begins : {d : ℕ} {ts : List Token} {x : Decl} → IsObject 200 d ts x → Begins is_name ts
object_begins (object c t o us z n xs d_is ts_is x_is is up opens members closes) = name_first t (o ∷ us ++ z ∷ []) ts_is is

goes_on : {ts : List Token} → Begins is_name ts → Begins goes_on_inside ts
goes_on b = record { token = b.token; others = b.others; text = b.text; begins = is_name_goes_on b.token b.begins }

member_named : {d : ℕ} {ts : List Token} {next : Option Token} {xs : List Member} → IsMember 200 d ts next xs → Begins is_name ts
member_named (short us es x ts_is xs_is p e) = begins_left us es ts_is (short_begins p)
member_named (method t u us vs n ps ys ts_is xs_is word_is is params block) = word_first ww.Function t (u ∷ us ++ vs) ts_is word_is
member_named (group c t o us z n d_is ts_is own is low opens entries closes) = name_first t (o ∷ us ++ z ∷ []) ts_is is
member_named (child y xs_is p) = object_begins p

pub member_begins : (d : ℕ) (ts : List Token) (next : Option Token) (xs : List Member) → IsMember 200 d ts next xs → Begins goes_on_inside ts
member_begins d ts next xs p = goes_on (member_named p)

-- Members as items

pub items_members : {d : ℕ} {ts : List Token} {next : Option Token} {xs : List Member} → Items (IsMember 200 d) ts next xs → AreMembers 200 d ts next xs
items_members (no_item ts_is xs_is) = no_members ts_is xs_is
items_members (an_item us vs ys zs ts_is xs_is p ps) = more_members us vs ys zs ts_is xs_is p (items_members ps)

pub members_items : {d : ℕ} {ts : List Token} {next : Option Token} {xs : List Member} → AreMembers 200 d ts next xs → Items (IsMember 200 d) ts next xs
members_items (no_members ts_is xs_is) = no_item ts_is xs_is
members_items (more_members us vs ys zs ts_is xs_is p ps) = an_item us vs ys zs ts_is xs_is p (members_items ps)

-- Entries as items

-- an entry with its end, as a list
pub data AnEntry (d : ℕ) (n : List ℕ) : List Token → Option Token → List Member → Type 0 where
  ended_entry : {ts : List Token} {next : Option Token} {xs : List Member} (us es : List Token) (y : Member) → ts ≡ us ++ es → xs ≡ y ∷ [] → IsEntry 200 d n us (follow es next) y → IsEnd (last_of us) es next → AnEntry d n ts next xs

entry_named : {d : ℕ} {n : List ℕ} {ts : List Token} {next : Option Token} {x : Member} → IsEntry 200 d n ts next x → Begins is_name ts
entry_named (entry t o us m y at ts_is x_is is plain colon value) = name_first t (o ∷ us) ts_is is

pub entry_begins : (d : ℕ) (n : List ℕ) (ts : List Token) (next : Option Token) (xs : List Member) → AnEntry d n ts next xs → Begins goes_on_inside ts
entry_begins d n ts next xs (ended_entry us es y ts_is xs_is p e) = begins_left us es ts_is (goes_on (entry_named p))

item_more : {d : ℕ} {n : List ℕ} {ts : List Token} {next : Option Token} {xs : List Member} (us vs : List Token) (ys zs : List Member) → ts ≡ us ++ vs → xs ≡ ys ++ zs → AnEntry d n us (follow vs next) ys → AreEntries 200 d n vs next zs → AreEntries 200 d n ts next xs
item_more us vs ys zs ts_is xs_is (ended_entry ws es y us_is ys_is p e) ps =
    more_entries ws es vs y zs (ts_is ∙ ap (λ ts. ts ++ vs) us_is) (xs_is ∙ ap (λ ts. ts ++ zs) ys_is) p e ps

pub items_entries : {d : ℕ} {n : List ℕ} {ts : List Token} {next : Option Token} {xs : List Member} → Items (AnEntry d n) ts next xs → AreEntries 200 d n ts next xs
items_entries (no_item ts_is xs_is) = no_entries ts_is xs_is
items_entries (an_item us vs ys zs ts_is xs_is p ps) = item_more us vs ys zs ts_is xs_is p (items_entries ps)

pub entries_items : {d : ℕ} {n : List ℕ} {ts : List Token} {next : Option Token} {xs : List Member} → AreEntries 200 d n ts next xs → Items (AnEntry d n) ts next xs
entries_items (no_entries ts_is xs_is) = no_item ts_is xs_is
entries_items (more_entries us es vs y ys ts_is xs_is p e ps) = an_item (us ++ es) vs (y ∷ []) ys ts_is xs_is (ended_entry us es y refl refl p e) (entries_items ps)
