-- A text is a module, or refused as one, in one way.
use Rattle.std.proofs.Common.{◌≡◌, ℕ, List, Option, Some, None, ap, refl, subst, sym, ◌∙◌}
use Rattle.code_form.specs.declared.code.Code.{Code}
use Rattle.code_form.specs.declared.sign.PortSign.{PortSign}
use Rattle.ir_tokens.specs.Bytes.{Text}
use Rattle.ir_tokens.specs.Tokens.{HasTokens, HasFault, BadByte, OpenQuote}
use Rattle.ir_tokens.specs.declared.token.Token.{Token}
use Rattle.ir_tokens.proofs.Cut.{HasTokens-same, HasTokens-HasFault, HasFault-same}
use Rattle.ir_lexer.specs.Answer.{NamesFault}
use Rattle.ir_lexer.specs.declared.error.LexError.{LexError}
use Rattle.ir_lexer.specs.declared.error.LexError.TheVariants as lex
use Rattle.ir_tree.specs.declared.item.Item.{Item}
use Rattle.ir_grammar.specs.Lexeme.{lexemes}
use Rattle.ir_grammar.specs.Modules.{IsModule, IsUnread}
use Rattle.ir_grammar.proofs.ModuleLemmas.{module-one, unread-one, either-one}
use Rattle.ir_reader.specs.Answers.{NamesUnread}
use Rattle.ir_reader.specs.declared.error.ReadError.{ReadError}
use Rattle.ir_reader.specs.declared.error.ReadError.TheVariants as read
use Rattle.ir_rules.specs.Rules.{fault}
use Rattle.ir_rules.specs.Modules.{code_of}
use Rattle.ir_rules.specs.declared.rule.Fault.{Fault}
use Rattle.refused_lines.specs.Refusals.{unlexed_line, unread_line, broken_line}
use Rattle.command_files.specs.declared.module.Loaded.{Loaded}
use Rattle.command_files.specs.Modules.{HasItems, IsAccepted, IsRefused}
use Rattle.command_files.proofs.Same.{some-same, some-none}

-- ---- the lines

unlexed-one : (text : Text) (e f : LexError) (line other : Text) → NamesFault text e → NamesFault text f → unlexed_line text e ≡ Some line
    → unlexed_line text f ≡ Some other → line ≡ other
unlexed-one text (lex.BadByte a) (lex.BadByte b) line other h k x y =
    let same = (HasFault-same text a b BadByte BadByte h k).0 in
    some-same line other (sym x ∙ ap (λ n. unlexed_line text (lex.BadByte n)) same ∙ y)
unlexed-one text (lex.BadByte a) (lex.OpenQuote b) line other h k x y = let e = (HasFault-same text a b BadByte OpenQuote h k).1 in absurd (cc e)
unlexed-one text (lex.OpenQuote a) (lex.BadByte b) line other h k x y = let e = (HasFault-same text a b OpenQuote BadByte h k).1 in absurd (cc e)
unlexed-one text (lex.OpenQuote a) (lex.OpenQuote b) line other h k x y =
    let same = (HasFault-same text a b OpenQuote OpenQuote h k).0 in
    some-same line other (sym x ∙ ap (λ n. unlexed_line text (lex.OpenQuote n)) same ∙ y)
unlexed-one text lex.OutOfMemory f line other h k x y = absurd (some-none line x)
unlexed-one text (lex.BadByte a) lex.OutOfMemory line other h k x y = absurd (some-none other y)
unlexed-one text (lex.OpenQuote a) lex.OutOfMemory line other h k x y = absurd (some-none other y)

-- a text with tokens has no line for a lexical fault
unlexed-cut : (text : Text) (ts : List Token) (e : LexError) (line : Text) → HasTokens text ts → NamesFault text e → unlexed_line text e ≡ Some line → ⊥
unlexed-cut text ts (lex.BadByte a) line cut h x = HasTokens-HasFault text ts a BadByte cut h
unlexed-cut text ts (lex.OpenQuote a) line cut h x = HasTokens-HasFault text ts a OpenQuote cut h
unlexed-cut text ts lex.OutOfMemory line cut h x = some-none line x

unread-line-one : (text : Text) (ts us : List Token) (e f : ReadError) (line other : Text) → ts ≡ us → NamesUnread (lexemes text ts) e
    → NamesUnread (lexemes text us) f → unread_line text ts e ≡ Some line → unread_line text us f ≡ Some other → line ≡ other
unread-line-one text ts us (read.NotAnItem a) (read.NotAnItem b) line other same h k x y =
    let there = subst (λ ts. IsUnread (lexemes text ts) b) (sym same) k in
    let at = unread-one (lexemes text ts) a b h there in
    let says = subst (λ ts. unread_line text ts (read.NotAnItem b) ≡ Some other) (sym same) y in
    some-same line other (sym x ∙ ap (λ n. unread_line text ts (read.NotAnItem n)) at ∙ says)
unread-line-one text ts us read.OutOfMemory f line other same h k x y = absurd (some-none line x)
unread-line-one text ts us (read.NotAnItem a) read.OutOfMemory line other same h k x y = absurd (some-none other y)

-- the items of a text have no line for a token that isn't read
unread-items : (text : Text) (ts us : List Token) (xs : List Item) (ss : List ℕ) (e : ReadError) (line : Text) → HasTokens text ts
    → NamesUnread (lexemes text ts) e → unread_line text ts e ≡ Some line → HasItems text us xs ss → ⊥
unread-items text ts us xs ss (read.NotAnItem a) line cut h x items =
    let same = HasTokens-same text us ts items.cut cut in
    either-one (lexemes text ts) xs ss a (subst (λ ts. IsModule (lexemes text ts) xs ss) same items.whole) h
unread-items text ts us xs ss read.OutOfMemory line cut h x items = some-none line x

-- a text has one list of tokens, and they are one list of items
items-one : (text : Text) (ts us : List Token) (xs ys : List Item) (ss zs : List ℕ) → HasItems text ts xs ss → HasItems text us ys zs
    → (ts ≡ us) × (xs ≡ ys) × (ss ≡ zs)
items-one text ts us xs ys ss zs h k =
    let same = HasTokens-same text ts us h.cut k.cut in
    let both = module-one (lexemes text ts) xs ys ss zs h.whole (subst (λ ts. IsModule (lexemes text ts) ys zs) (sym same) k.whole) in
    (same, both.0, both.1)

broken-one : (text : Text) (ts us : List Token) (ss zs : List ℕ) (f g : Fault) → ts ≡ us → ss ≡ zs → f ≡ g
    → broken_line text ts ss f ≡ broken_line text us zs g
broken-one text ts us ss zs f g t s e = cc (t, s, e)

fault-one : (xs ys : List Item) (signs : List PortSign) (f g : Fault) → xs ≡ ys → fault xs signs ≡ Some f → fault ys signs ≡ Some g → f ≡ g
fault-one xs ys signs f g same h k = let e : Some f ≡ Some g = sym h ∙ ap (λ xs. fault xs signs) same ∙ k in cc e

-- ---- the laws

pub refused-one : (signs : List PortSign) (text line other : Text) → IsRefused signs text line → IsRefused signs text other → line ≡ other
refused-one signs text line other (IsRefused.unlexed e h x) (IsRefused.unlexed f k y) = unlexed-one text e f line other h k x y
refused-one signs text line other (IsRefused.unlexed e h x) (IsRefused.unread us f cut k y) = absurd (unlexed-cut text us e line cut h x)
refused-one signs text line other (IsRefused.unlexed e h x) (IsRefused.broken us ys zs g items k y) =
    absurd (unlexed-cut text us e line items.cut h x)
refused-one signs text line other (IsRefused.unread ts e cut h x) (IsRefused.unlexed f k y) = absurd (unlexed-cut text ts f other cut k y)
refused-one signs text line other (IsRefused.unread ts e cut h x) (IsRefused.unread us f there k y) =
    unread-line-one text ts us e f line other (HasTokens-same text ts us cut there) h k x y
refused-one signs text line other (IsRefused.unread ts e cut h x) (IsRefused.broken us ys zs g items k y) =
    absurd (unread-items text ts us ys zs e line cut h x items)
refused-one signs text line other (IsRefused.broken ts xs ss f items h x) (IsRefused.unlexed e k y) =
    absurd (unlexed-cut text ts e other items.cut k y)
refused-one signs text line other (IsRefused.broken ts xs ss f items h x) (IsRefused.unread us e cut k y) =
    absurd (unread-items text us ts xs ss e other cut k y items)
refused-one signs text line other (IsRefused.broken ts xs ss f items h x) (IsRefused.broken us ys zs g there k y) =
    let same = items-one text ts us xs ys ss zs items there in
    x ∙ broken-one text ts us ss zs f g same.0 same.2 (fault-one xs ys signs f g same.1 h k) ∙ sym y

pub refused-accepted : (signs : List PortSign) (text line : Text) (m : Loaded) → IsRefused signs text line → IsAccepted signs text m → ⊥
refused-accepted signs text line m (IsRefused.unlexed e h x) a = unlexed-cut text a.tokens e line a.items.cut h x
refused-accepted signs text line m (IsRefused.unread ts e cut h x) a =
    unread-items text ts a.tokens m.module.items a.starts e line cut h x a.items
refused-accepted signs text line m (IsRefused.broken ts xs ss f items h x) a =
    let same = items-one text ts a.tokens xs m.module.items ss a.starts items a.items in
    let e : None ≡ Some f = sym a.no_fault ∙ ap (λ xs. fault xs signs) (sym same.1) ∙ h in
    cc e

abbrev loaded : List Item → Code → Loaded
loaded items code = record { «module» = record { items = items }; code = code }

loaded-one : (xs ys : List Item) (c d : Code) → xs ≡ ys → c ≡ d → loaded xs c ≡ loaded ys d
loaded-one xs ys c d same e = cc (same, e)

pub accepted-one : (signs : List PortSign) (text : Text) (m n : Loaded) → IsAccepted signs text m → IsAccepted signs text n → m ≡ n
accepted-one signs text m n a b =
    let same = (items-one text a.tokens b.tokens m.module.items n.module.items a.starts b.starts a.items b.items).1 in
    loaded-one m.module.items n.module.items m.code n.code same (a.code ∙ ap (λ xs. code_of xs signs) same ∙ sym b.code)
