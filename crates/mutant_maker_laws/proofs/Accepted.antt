-- The list of the made mutants of a module is accepted.
use Rattle.std.proofs.Common.{◌≡◌, ℕ, ◌+◌, ◌≤◌, List, [], ◌∷◌, ◌++◌, length, map, Option, Some, None, Result, Ok, Err, refl, sym, ap, subst, arith, append-nil}
use Rattle.std.proofs.Common.{append_assoc, slice_get, false}
use Rattle.std.specs.List.{All, AllPairs, AllZip}
use Rattle.std.proofs.lemmas.Bool.{le-ltb}
use Rattle.std.proofs.lemmas.List.{length-append}
use Rattle.csv.specs.Records.{field_at}
use Rattle.am_base.specs.declared.limits.TheConstants.{MAX_LISTED_MUTANTS}
use Rattle.code_form.specs.declared.code.Code.{Code}
use Rattle.code_form.specs.declared.sign.PortSign.{PortSign}
use Rattle.ir_tokens.specs.Bytes.{Text}
use Rattle.ir_tree.specs.declared.name.Name.{Name}
use Rattle.ir_tree.specs.declared.op.Op.{Op}
use Rattle.ir_tree.specs.declared.item.Item.{Item}
use Rattle.ir_tree.specs.declared.item.Item.TheVariants as item
use Rattle.ir_tree.specs.declared.item.Module.{Module}
use Rattle.ir_grammar.specs.Lexeme.{lexemes}
use Rattle.ir_text.specs.ReadBack.{PartsReadBack}
use Rattle.ir_text.proofs.ReadBack.{instruction-parts}
use Rattle.ir_rules.specs.Modules.{code_of}
use Rattle.ir_sound.specs.Whole.{AreWhole}
use Rattle.ir_sound.proofs.Lists.{Each, all-each, at-contains}
use Rattle.ir_sound.proofs.Whole.{items-whole}
use Rattle.ir_sound.proofs.Replacements.{replacement-fits}
use Rattle.mutant_records.specs.Lists.{RecordGives, RecordsGive, ListGives}
use Rattle.mutant_records.specs.Tables.{AllFit, Answers}
use Rattle.mutant_records.specs.declared.list.ListForm.TheVariants.{Plain}
use Rattle.mutant_records.specs.declared.list.MutantList.{MutantList}
use Rattle.mutant_records.specs.declared.error.MutantError.{MutantError}
use Rattle.mutant_records.specs.declared.list.Made.{Made as Asked}
use Rattle.mutant_records.specs.declared.list.Replacement.TheVariants.{Fits}
use Rattle.mutant_list.specs.Texts.{Reads}
use Rattle.mutant_maker.specs.Lists.{Made, record_of, made}
use Rattle.command_files.proofs.OneList.{list-one, reads-one}
use Rattle.mutant_maker_laws.specs.Made.{IsAsked, IsOther, IsDifferent, records, IsListable, MadeGive, MadeAnswer, HasVariant}
use Rattle.command_files.specs.declared.module.Loaded.{Loaded}
use Rattle.ir_text.specs.Texts.{AreBytes, IsTextOf}
use Rattle.ir_rules.specs.Rules.{fault}
use Rattle.mutant_maker_laws.proofs.Numbered.{list-some}
use Rattle.mutant_maker_laws.proofs.Records.{AllAsked, AreNumbered, made-asked}

module _ (items : List Item) (signs : List PortSign) (code : Code) where
  record-gives : (m : Made) (r : Asked) (done : List Asked) → IsAsked items signs code m r → r.mutant ≡ length done + 1 → length done + 1 ≤ MAX_LISTED_MUTANTS
      → RecordGives code (Reads items signs) Plain done (length done + 1) (record_of m) (Ok r)
  unfolding field_at
  record-gives m r done h e small =
      rw (h.named, h.placed) (
        Fits r.with,
        h.reads,
        rw (le-ltb MAX_LISTED_MUTANTS (length done + 1) small)
            (ap (λ (n : ℕ). Ok (record { mutant = n; function = r.function; place = r.place; with = r.with })) e),
      )

  records-give : (ms : List Made) (rs done : List Asked) → AllZip (IsAsked items signs code) ms rs → AreNumbered (length done + 1) rs
      → length done + length ms ≤ MAX_LISTED_MUTANTS → RecordsGive code (Reads items signs) Plain done (map record_of ms) (Ok (done ++ rs))
  records-give [] [] done h n small = ap Ok (append-nil done)
  records-give [] (r ∷ rs) done h n small = absurd h
  records-give (m ∷ ms) [] done h n small = absurd h
  records-give (m ∷ ms) (r ∷ rs) done (h, hs) (n, ns) small =
      let long = length-append done (r ∷ []) in
      let next = subst (λ k. AreNumbered k rs) (ap (λ k. k + 1) (sym long)) ns in
      let more = records-give ms rs (done ++ r ∷ []) hs next (omega (arith, long)) in (
        Ok r,
        record-gives m r done h n (omega arith),
        subst (λ all. RecordsGive code (Reads items signs) Plain (done ++ r ∷ []) (map record_of ms) (Ok all)) (append_assoc done (r ∷ []) rs) more,
      )

  pub list-gives : (ms : List Made) (rs : List Asked) → AllZip (IsAsked items signs code) ms rs → AreNumbered 1 rs → length ms ≤ MAX_LISTED_MUTANTS
      → ListGives code (Reads items signs) (records ms) (Ok rs)
  unfolding field_at
  list-gives ms rs h n small = records-give ms rs [] h n (omega arith)

record IsKept (text : Text) (m : Module) (signs : List PortSign) : Type 0 where
  bytes : AreBytes text
  read : IsTextOf text m.items
  faultless : fault m.items signs ≡ None
  few : length (made m (code_of m.items signs)) ≤ MAX_LISTED_MUTANTS

module _ (text : Text) (m : Module) (signs : List PortSign) (k : IsKept text m signs) where
  abbrev code : Code
  code = code_of m.items signs

  abbrev mades : List Made
  mades = made m code

  abbrev Gives : Result (List Asked) MutantError → Type 0
  Gives result = ListGives code (Reads m.items signs) (records mades) result

  whole : AreWhole false m.items
  whole = items-whole (lexemes text k.read.tokens) m.items k.read.starts k.read.whole

  parts : (i : ℕ) (r : Option Name) (o : Op) → slice_get m.items i ≡ Some (item.Instr r o) → PartsReadBack o
  parts i r o e = instruction-parts text m.items r o k.bytes k.read (at-contains m.items (item.Instr r o) i e)

  all : AllAsked m.items signs whole k.faultless parts mades
  all = made-asked m.items signs whole k.faultless parts

  fits-each : (ms : List Made) (rs : List Asked) → AllZip (IsAsked m.items signs code) ms rs → AllFit code rs
  fits-each [] [] g = tt
  fits-each [] (r ∷ rs) g = absurd g
  fits-each (x ∷ ms) [] g = absurd g
  fits-each (x ∷ ms) (r ∷ rs) (g, gs) = (replacement-fits m signs r.place.0 g.reads.0 r.with whole k.faultless g.reads.2, fits-each ms rs gs)

  gives : Gives (Ok all.asked)
  gives = list-gives m.items signs code mades all.asked all.are all.numbers k.few

  accepted-there : (asked : List Asked) × Gives (Ok asked)
  accepted-there = (all.asked, gives)

  only : (result : Result (List Asked) MutantError) → Gives result → result ≡ Ok all.asked
  only result g = list-one code (Reads m.items signs) (reads-one m.items signs) (records mades) result (Ok all.asked) g gives

  no-fault-there : (e : MutantError) → Gives (Err e) → ⊥
  no-fault-there e g = let same = only (Err e) g in cc

  module _ (asked : List Asked) (g : Gives (Ok asked)) where
    same : all.asked ≡ asked
    same = let e = only (Ok asked) g in cc

    asked-are-there : AllZip (IsAsked m.items signs code) mades asked
    asked-are-there = subst (AllZip (IsAsked m.items signs code) mades) same all.are

    asked-fit-there : AllFit code asked
    asked-fit-there = subst (AllFit code) same (fits-each mades all.asked all.are)

    asked-other-there : All (IsOther code) asked
    asked-other-there = all-each (IsOther code) asked (subst (Each (IsOther code)) same all.others)

    asked-different-there : AllPairs IsDifferent asked
    asked-different-there = subst (AllPairs IsDifferent) same all.different

  asked-numbered-there : (list : MutantList) → Answers code (Reads m.items signs) (records mades) (Ok list) → All HasVariant list.rows
  asked-numbered-there list (asked, g, l) =
      all-each HasVariant list.rows (list-some code asked list (subst (Each (IsOther code)) (same asked g) all.others) l)

-- ---- of an accepted text

module _ (signs : List PortSign) (text : Text) (m : Loaded) (h : IsListable signs text m) where
  abbrev items : List Item
  items = m.module.items

  abbrev own : Code
  own = code_of items signs

  e : m.code ≡ own
  e = h.accepted.code

  kept : IsKept text m.module signs
  kept = record {
    bytes = h.bytes;
    read = record { tokens = h.accepted.tokens; starts = h.accepted.starts; cut = h.accepted.items.cut; whole = h.accepted.items.whole };
    faultless = h.accepted.no_fault;
    few = subst (λ c. length (made m.module c) ≤ MAX_LISTED_MUTANTS) e h.few;
  }

  abbrev GivesBy : Code → Result (List Asked) MutantError → Type 0
  GivesBy c result = ListGives c (Reads items signs) (records (made m.module c)) result

  pub accepted : (asked : List Asked) × MadeGive signs m (Ok asked)
  accepted = subst (λ c. (asked : List Asked) × GivesBy c (Ok asked)) (sym e) (accepted-there text m.module signs kept)

  pub no-fault : (x : MutantError) → MadeGive signs m (Err x) → ⊥
  no-fault x g = no-fault-there text m.module signs kept x (subst (λ c. GivesBy c (Err x)) e g)

  module _ (asked : List Asked) (g : MadeGive signs m (Ok asked)) where
    there : GivesBy own (Ok asked)
    there = subst (λ c. GivesBy c (Ok asked)) e g

    pub asked-are : AllZip (IsAsked items signs m.code) (made m.module m.code) asked
    asked-are = subst (λ c. AllZip (IsAsked items signs c) (made m.module c) asked) (sym e)
        (asked-are-there text m.module signs kept asked there)

    pub asked-fit : AllFit m.code asked
    asked-fit = subst (λ c. AllFit c asked) (sym e) (asked-fit-there text m.module signs kept asked there)

    pub asked-other : All (IsOther m.code) asked
    asked-other = subst (λ c. All (IsOther c) asked) (sym e) (asked-other-there text m.module signs kept asked there)

    pub asked-different : AllPairs IsDifferent asked
    asked-different = asked-different-there text m.module signs kept asked there

  pub asked-numbered : (list : MutantList) → MadeAnswer signs m (Ok list) → All HasVariant list.rows
  asked-numbered list a = asked-numbered-there text m.module signs kept list
      (subst (λ c. Answers c (Reads items signs) (records (made m.module c)) (Ok list)) e a)
