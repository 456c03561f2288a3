-- What is spelled as a value, a member or an object stays so with more nodes, one level more and before a `}`.
use Rattle.std.proofs.Common.{◌≡◌, ℕ, zero, suc, ◌≤◌, List, Option, Some, refl, sym, ap, subst}
use Rattle.qml_ast.specs.declared.decl.Decl.{Decl}
use Rattle.qml_ast.specs.declared.decl.Init.{Init}
use Rattle.qml_ast.specs.declared.decl.Member.{Member}
use Rattle.qml_ast.specs.declared.param.SignalParam.{SignalParam}
use Rattle.qml_ast.specs.declared.span.Span.{Span}
use Rattle.qml_grammar.specs.DocumentGrammar.{IsNoType, AreSignalParens, nothing, none, some, IsObject, object, IsValue, expr, value_object, IsMaybeValue, no_value, a_value, IsShortMember, id, property, fixed, signal, initialised, handled, IsMember, short, method, group, child, AreEntries, no_entries, more_entries, IsEntry, entry, AreMembers, no_members, more_members}
use Rattle.qml_grammar.specs.Lexemes.{Token, is_mark}
use Rattle.qml_grammar.specs.Marks.{same_mark, mark_number}
use Rattle.qml_grammar.specs.declared.mark.Mark.TheVariants.{OpenBrace, OpenParen, Colon}
use Rattle.document_laws.proofs.Steps.{no_level, one_less}
use Rattle.prefix_laws.proofs.Moved.{Becomes, same, follow_becomes, becomes_keeps, moved_end, moved_whole, moved_stmt, moved_block}

-- The token behind

moved_no_type : {ts : List Token} {next next' : Option Token} → Becomes next next' → IsNoType ts next → IsNoType ts next'
unfolding same_mark mark_number
moved_no_type w p a z names up up_last = becomes_keeps (is_mark OpenBrace) (λ s. refl) w (p a z names up up_last)

moved_parens : {ts : List Token} {next next' : Option Token} {xs : List SignalParam} → Becomes next next' → AreSignalParens ts next xs → AreSignalParens ts next' xs
unfolding same_mark mark_number
moved_parens w (nothing ts_is xs_is other) = nothing ts_is xs_is (becomes_keeps (is_mark OpenParen) (λ s. refl) w other)
moved_parens w (none o z ts_is xs_is open_is close_is) = none o z ts_is xs_is open_is close_is
moved_parens w (some o us z ts_is open_is p close_is) = some o us z ts_is open_is p close_is

module _ (most : ℕ) (enough : 200 ≤ most) where
  -- what stands in braces with so many levels stays spelled
  record MovedAt (d : ℕ) : Type 0 where
    members : (ts : List Token) (next : Option Token) (xs : List Member) → AreMembers 200 d ts next xs → AreMembers most (suc d) ts next xs
    entries : (n : List ℕ) (ts : List Token) (next : Option Token) (xs : List Member) → AreEntries 200 d n ts next xs → AreEntries most (suc d) n ts next xs

  module _ (d : ℕ) (deeper : (c : ℕ) → d ≡ suc c → MovedAt c) where
    object_moves : {ts : List Token} {x : Decl} → IsObject 200 d ts x → IsObject most (suc d) ts x
    object_moves (object c t o us z n xs d_is ts_is x_is is up opens members closes) =
        object (suc c) t o us z n xs (ap suc d_is) ts_is x_is is up opens ((deeper c d_is).members us (Some z) xs members) closes

    value_moves : {ts : List Token} {next next' : Option Token} {x : Init} {at : Span} → Becomes next next' → IsValue 200 d ts next x at → IsValue most (suc d) ts next' x at
    value_moves w (expr t us y ts_is x_is at_is p free) = expr t us y ts_is x_is at_is (moved_whole enough w p) (moved_no_type w free)
    value_moves w (value_object t us y ts_is x_is at_is p) = value_object t us y ts_is x_is at_is (object_moves p)

    maybe_moves : {ts : List Token} {next next' : Option Token} {x : Option Init} {at there : Span} → Becomes next next' → IsMaybeValue 200 d ts next x at there → IsMaybeValue most (suc d) ts next' x at there
    unfolding same_mark mark_number
    maybe_moves w (no_value ts_is x_is at_is other) = no_value ts_is x_is at_is (becomes_keeps (is_mark Colon) (λ s. refl) w other)
    maybe_moves w (a_value o us y ts_is x_is colon p) = a_value o us y ts_is x_is colon (value_moves w p)

    short_moves : {ts : List Token} {next next' : Option Token} {x : Member} → Becomes next next' → IsShortMember 200 d ts next x → IsShortMember most (suc d) ts next' x
    short_moves w (id t o u n ts_is x_is is colon name_is) = id t o u n ts_is x_is is colon name_is
    short_moves w (property t u v us k n y at ts_is x_is is kind no_alias name_is p) = property t u v us k n y at ts_is x_is is kind no_alias name_is (maybe_moves w p)
    short_moves w (fixed r t u v us k n y at ts_is x_is first is kind no_alias name_is p) = fixed r t u v us k n y at ts_is x_is first is kind no_alias name_is (maybe_moves w p)
    short_moves w (signal t u us n ps ts_is x_is is name_is p) = signal t u us n ps ts_is x_is is name_is (moved_parens w p)
    short_moves w (initialised t us o vs p y at ts_is x_is path plain colon q) = initialised t us o vs p y at ts_is x_is path plain colon (value_moves w q)
    short_moves w (handled t us o vs p y ts_is x_is path handler colon q) = handled t us o vs p y ts_is x_is path handler colon (moved_stmt enough w q)

    member_moves : {ts : List Token} {next next' : Option Token} {xs : List Member} → Becomes next next' → IsMember 200 d ts next xs → IsMember most (suc d) ts next' xs
    member_moves w (short us es x ts_is xs_is p e) = short us es x ts_is xs_is (short_moves (follow_becomes es w) p) (moved_end w e)
    member_moves w (method t u us vs n ps ys ts_is xs_is is name_is params block) = method t u us vs n ps ys ts_is xs_is is name_is params (moved_block enough block)
    member_moves {xs = xs} w (group c t o us z n d_is ts_is own is low opens entries closes) =
        group (suc c) t o us z n (ap suc d_is) ts_is own is low opens ((deeper c d_is).entries n us (Some z) xs entries) closes
    member_moves w (child y xs_is p) = child y xs_is (object_moves p)

    entry_moves : {n : List ℕ} {ts : List Token} {next next' : Option Token} {x : Member} → Becomes next next' → IsEntry 200 d n ts next x → IsEntry most (suc d) n ts next' x
    entry_moves w (entry t o us m y at ts_is x_is is plain colon p) = entry t o us m y at ts_is x_is is plain colon (value_moves w p)

    entries_move : {n : List ℕ} {ts : List Token} {next next' : Option Token} {xs : List Member} → Becomes next next' → AreEntries 200 d n ts next xs → AreEntries most (suc d) n ts next' xs
    entries_move w (no_entries ts_is xs_is) = no_entries ts_is xs_is
    entries_move w (more_entries us es vs y ys ts_is xs_is p e ps) =
        let v = follow_becomes vs w in
        more_entries us es vs y ys ts_is xs_is (entry_moves (follow_becomes es v) p) (moved_end v e) (entries_move w ps)

    members_move : {ts : List Token} {next next' : Option Token} {xs : List Member} → Becomes next next' → AreMembers 200 d ts next xs → AreMembers most (suc d) ts next' xs
    members_move w (no_members ts_is xs_is) = no_members ts_is xs_is
    members_move w (more_members us vs ys zs ts_is xs_is p ps) = more_members us vs ys zs ts_is xs_is (member_moves (follow_becomes vs w) p) (members_move w ps)

    moved_here : MovedAt d
    moved_here = record { members = λ ts next xs p. members_move (same refl) p; entries = λ n ts next xs p. entries_move (same refl) p }

  moved_at : (d : ℕ) → MovedAt d
  moved_at zero = moved_here zero (λ c e. absurd (no_level c e))
  moved_at (suc d) = moved_here (suc d) (λ c e. subst MovedAt (sym (one_less c d e)) (moved_at d))

  -- the levels further in
  moved_inside : (d c : ℕ) → d ≡ suc c → MovedAt c
  moved_inside d c e = moved_at c

-- All levels

pub moved_object : {most d : ℕ} {ts : List Token} {x : Decl} → 200 ≤ most → IsObject 200 d ts x → IsObject most (suc d) ts x
moved_object {most = most} {d = d} enough p = object_moves most enough d (moved_inside most enough d) p

pub moved_short : {most d : ℕ} {ts : List Token} {next next' : Option Token} {x : Member} → 200 ≤ most → Becomes next next' → IsShortMember 200 d ts next x → IsShortMember most (suc d) ts next' x
moved_short {most = most} {d = d} enough w p = short_moves most enough d (moved_inside most enough d) w p

pub moved_member : {most d : ℕ} {ts : List Token} {next next' : Option Token} {xs : List Member} → 200 ≤ most → Becomes next next' → IsMember 200 d ts next xs → IsMember most (suc d) ts next' xs
moved_member {most = most} {d = d} enough w p = member_moves most enough d (moved_inside most enough d) w p

pub moved_entry : {most d : ℕ} {n : List ℕ} {ts : List Token} {next next' : Option Token} {x : Member} → 200 ≤ most → Becomes next next' → IsEntry 200 d n ts next x → IsEntry most (suc d) n ts next' x
moved_entry {most = most} {d = d} enough w p = entry_moves most enough d (moved_inside most enough d) w p

pub moved_entries : {most d : ℕ} {n : List ℕ} {ts : List Token} {next next' : Option Token} {xs : List Member} → 200 ≤ most → Becomes next next' → AreEntries 200 d n ts next xs → AreEntries most (suc d) n ts next' xs
moved_entries {most = most} {d = d} enough w p = entries_move most enough d (moved_inside most enough d) w p

pub moved_members : {most d : ℕ} {ts : List Token} {next next' : Option Token} {xs : List Member} → 200 ≤ most → Becomes next next' → AreMembers 200 d ts next xs → AreMembers most (suc d) ts next' xs
moved_members {most = most} {d = d} enough w p = members_move most enough d (moved_inside most enough d) w p
