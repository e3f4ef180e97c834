-- A text is a list of mutants, or refused as one, in one way.
use Rattle.std.proofs.Common.{◌≡◌, ℕ, ◌+◌, List, [], ◌∷◌, ◌++◌, length, Option, Some, None, Result, Ok, Err, ap, refl, subst, sym, ◌∙◌, unwrap_or}
use Rattle.code_form.specs.declared.code.Code.{Code}
use Rattle.code_form.specs.declared.instr.Instr.{Instr}
use Rattle.code_form.specs.declared.sign.PortSign.{PortSign}
use Rattle.ir_tokens.specs.Bytes.{Text}
use Rattle.ir_tokens.specs.Tokens.{HasTokens}
use Rattle.ir_tokens.proofs.Cut.{HasTokens-same}
use Rattle.ir_tree.specs.declared.item.Item.{Item}
use Rattle.ir_tree.specs.declared.item.Item.TheVariants as tree
use Rattle.ir_tree.specs.declared.op.Op.{Op}
use Rattle.ir_grammar.specs.Instructions.{AreInstruction, IsInstruction}
use Rattle.ir_grammar.specs.Lexeme.{lexemes}
use Rattle.ir_grammar.proofs.ModuleLemmas.{item-one}
use Rattle.ir_reader.specs.Answers.{IsWholeInstruction}
use Rattle.ir_rules.specs.Replacements.{replacement_by}
use Rattle.list_records.specs.Records.{Fields, rows_of}
use Rattle.list_records.specs.Faults.{first_fault}
use Rattle.mutant_records.specs.Lists.{Reading, form_of, mutant_named, number_called, place_called, text_called, place_faults, made_of, GivesUnless, RecordGives, GoesOn, RecordsGive, Behind, ListGives}
use Rattle.mutant_records.specs.declared.error.MutantError.{MutantError}
use Rattle.mutant_records.specs.declared.list.ListForm.{ListForm}
use Rattle.mutant_records.specs.declared.list.Made.{Made}
use Rattle.mutant_records.specs.declared.list.Replacement.{Replacement}
use Rattle.mutant_records.specs.declared.list.Replacement.TheVariants.{NoInstruction, Misfit, Fits}
use Rattle.mutant_list.specs.Texts.{Reads}
use Rattle.refused_lines.specs.Refusals.{mutants_line}
use Rattle.command_files.specs.declared.module.Loaded.{Loaded}
use Rattle.command_files.specs.Mutants.{AreMutants, AreRefused}
use Rattle.command_files.proofs.Same.{some-same}

-- ---- a list gives one thing where each text is one replacement

-- in a place a text is one replacement at most
abbrev pub IsOneReading : Reading → Type 0
IsOneReading Is = (place : ℕ) (text : Text) (a b : Replacement) → Is place text a → Is place text b → a ≡ b

module _ (code : Code) (Is : Reading) (one : IsOneReading Is) where
  unless-one : (fault : Option MutantError) (mutant function place number : ℕ) (text : Text) (a b : Result Made MutantError)
      → GivesUnless fault Is mutant function place number text a → GivesUnless fault Is mutant function place number text b → a ≡ b
  unless-one None mutant function place number text a b h k =
      h.2 ∙ ap (made_of mutant function place number) (one place text h.0 k.0 h.1 k.1) ∙ sym k.2
  unless-one (Some error) mutant function place number text a b h k = h ∙ sym k

  record-one : (form : ListForm) (all : List Made) (number : ℕ) (fields : Fields) (a b : Result Made MutantError)
      → RecordGives code Is form all number fields a → RecordGives code Is form all number fields b → a ≡ b
  record-one form all number fields a b h k =
      unless-one (first_fault (place_faults code form all number fields)) (mutant_named form all number fields) (number_called code form fields)
      (unwrap_or (place_called code form fields) 0) number (text_called form fields) a b h k

  goes-one : (here : Result Made MutantError) (More : Made → Result (List Made) MutantError → Type 0)
      → ((made : Made) (a b : Result (List Made) MutantError) → More made a → More made b → a ≡ b) → (a b : Result (List Made) MutantError)
      → GoesOn here (λ made. More made a) a → GoesOn here (λ made. More made b) b → a ≡ b
  goes-one (Err error) More more a b h k = h ∙ sym k
  goes-one (Ok made) More more a b h k = more made a b h k

  records-one : (form : ListForm) (records : List Fields) (all : List Made) (a b : Result (List Made) MutantError)
      → RecordsGive code Is form all records a → RecordsGive code Is form all records b → a ≡ b
  records-one form [] all a b h k = h ∙ sym k
  records-one form (fields ∷ more) all a b h k =
      let same = record-one form all (length all + 1) fields h.0 k.0 h.1 k.1 in
      let there = subst (λ here. GoesOn here (λ made. RecordsGive code Is form (all ++ made ∷ []) more b) b) (sym same) k.2 in
      goes-one h.0 (λ made. RecordsGive code Is form (all ++ made ∷ []) more) (λ made. records-one form more (all ++ made ∷ [])) a b h.2 there

  behind-one : (form : Option ListForm) (records : List Fields) (a b : Result (List Made) MutantError) → Behind form code Is records a
      → Behind form code Is records b → a ≡ b
  behind-one (Some form) records a b h k = records-one form records [] a b h k
  behind-one None records a b h k = h ∙ sym k

  pub list-one : (rows : List Fields) (a b : Result (List Made) MutantError) → ListGives code Is rows a → ListGives code Is rows b → a ≡ b
  list-one [] a b h k = h ∙ sym k
  list-one (header ∷ records) a b h k = behind-one (form_of header) records a b h k

-- ---- a text is one replacement

whole-one : (text : Text) (o p : Op) → IsInstruction text o → IsInstruction text p → o ≡ p
whole-one text o p h k =
    let same = HasTokens-same text h.tokens k.tokens h.cut k.cut in
    let there = subst (λ ts. AreInstruction (lexemes text ts) p) (sym same) k.whole in
    let e : Some (tree.Instr None o) ≡ Some (tree.Instr None p) =
    (item-one (lexemes text h.tokens) (Some (tree.Instr None o)) (Some (tree.Instr None p)) [] [] h.whole there).0 in
    cc e

instruction-one : (text : Text) (x y : Item) → IsWholeInstruction text x → IsWholeInstruction text y → x ≡ y
instruction-one text x y h k = h.bare ∙ ap (tree.Instr None) (whole-one text h.op k.op h.whole k.whole) ∙ sym k.bare

code-one : (items : List Item) (signs : List PortSign) (place : ℕ) (text : Text) (x y : Item) (a b : Option Instr) → IsWholeInstruction text x
    → IsWholeInstruction text y → replacement_by items signs place x ≡ a → replacement_by items signs place y ≡ b → a ≡ b
code-one items signs place text x y a b h k e f = sym e ∙ ap (replacement_by items signs place) (instruction-one text x y h k) ∙ f

pub reads-one : (items : List Item) (signs : List PortSign) → IsOneReading (Reads items signs)
reads-one items signs place text NoInstruction NoInstruction h k = refl
reads-one items signs place text NoInstruction Misfit h k = absurd (h k.0 k.1)
reads-one items signs place text NoInstruction (Fits with) h k = absurd (h k.0 k.1)
reads-one items signs place text Misfit NoInstruction h k = absurd (k h.0 h.1)
reads-one items signs place text Misfit Misfit h k = refl
reads-one items signs place text Misfit (Fits with) h k =
    let e = code-one items signs place text h.0 k.0 None (Some with) h.1 k.1 h.2 k.2 in absurd (cc e)
reads-one items signs place text (Fits with) NoInstruction h k = absurd (k h.0 h.1)
reads-one items signs place text (Fits with) Misfit h k =
    let e = code-one items signs place text h.0 k.0 (Some with) None h.1 k.1 h.2 k.2 in absurd (cc e)
reads-one items signs place text (Fits with) (Fits other) h k =
    ap Fits (some-same with other (code-one items signs place text h.0 k.0 (Some with) (Some other) h.1 k.1 h.2 k.2))

-- ---- the laws

module _ (signs : List PortSign) (m : Loaded) (text : Text) where
  gives-one : (a b : Result (List Made) MutantError) → ListGives m.code (Reads m.module.items signs) (rows_of text) a
      → ListGives m.code (Reads m.module.items signs) (rows_of text) b → a ≡ b
  gives-one a b h k = list-one m.code (Reads m.module.items signs) (reads-one m.module.items signs) (rows_of text) a b h k

  pub mutants-refused-one : (line other : Text) → AreRefused signs m text line → AreRefused signs m text other → line ≡ other
  mutants-refused-one line other h k =
      let e : Err h.0 ≡ Err k.0 = gives-one (Err h.0) (Err k.0) h.1 k.1 in
      let same : h.0 ≡ k.0 = cc e in
      some-same line other (sym h.2 ∙ ap mutants_line same ∙ k.2)

  pub mutants-refused-read : (line : Text) (all : List Made) → AreRefused signs m text line → AreMutants signs m text all → ⊥
  mutants-refused-read line all h k =
      let e : Err h.0 ≡ Ok all = gives-one (Err h.0) (Ok all) h.1 k in cc e

  pub mutants-one : (all others : List Made) → AreMutants signs m text all → AreMutants signs m text others → all ≡ others
  mutants-one all others h k = let e : Ok all ≡ Ok others = gives-one (Ok all) (Ok others) h k in cc e
