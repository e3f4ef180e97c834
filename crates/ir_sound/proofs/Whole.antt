-- The code of a module that keeps the rules is sound, and the items that are read from a text are whole.
use Rattle.std.proofs.Common.{◌≡◌, ℕ, Bool, true, false, List, [], ◌∷◌, length, slice_get, Some, None, sym, ◌∙◌, subst, arith}
use Rattle.std.specs.List.{flat_map}
use Rattle.code_form.specs.declared.code.Func.{Func}
use Rattle.code_form.specs.declared.sign.PortSign.{PortSign}
use Rattle.code_form.specs.Sound.{IsSoundFunc, IsSound, AreLaid}
use Rattle.ir_tree.specs.declared.item.Item.{Item}
use Rattle.ir_rules.specs.Rules.{fault}
use Rattle.ir_rules.specs.Types.{type_defs}
use Rattle.ir_rules.specs.Memory.{addresses_of}
use Rattle.ir_rules.specs.Modules.{code_of, functions_from}
use Rattle.ir_grammar.specs.Lexeme.{Lexemes}
use Rattle.ir_grammar.specs.Modules.{leaves_open, Piece, Front, kept, IsModule}
use Rattle.ir_sound.specs.Whole.{AreWhole}
use Rattle.ir_sound.proofs.Walk.{function-of}
use Rattle.ir_sound.proofs.Placed.{length-instrs, length-results, code-laid}
use Rattle.ir_sound.proofs.Addresses.{memory-length, base-small, constants-from, constants-to}
use Rattle.ir_sound.proofs.Names.{names-apart, few-functions, few-instrs}
use Rattle.ir_sound.proofs.Functions.{sound-function}

module _ (items : List Item) (signs : List PortSign) (whole : AreWhole false items) (faultless : fault items signs ≡ None) where
  functions-sound : (g : ℕ) (f : Func) → slice_get (functions_from (type_defs items) 0 items) g ≡ Some f → IsSoundFunc (code_of items signs) f
  functions-sound g f e =
      let found = function-of items signs faultless whole g f e in
      let it = found.function in
      let P : Func → Type 0 = λ f. IsSoundFunc (code_of items signs) f in
      subst P (sym it.is) (sound-function items signs faultless found.h found.at it.name it.type_of it.params it.rest it.begins it.body it.keeping it.coded)

  pub code-sound : IsSound (code_of items signs)
  code-sound =
      let instrs = length-instrs items signs (addresses_of (type_defs items) items) 0 items in
      let few = few-instrs items signs faultless in
      let P : ℕ → Type 0 = λ n. AreLaid 0 (flat_map (λ (f : Func). f.blocks) (functions_from (type_defs items) 0 items)) n in
      record {
        few_funcs = few-functions items signs faultless (type_defs items);
        few_instrs = omega arith;
        results = length-results items signs 0 items ∙ sym instrs;
        memory = memory-length items signs faultless;
        base = base-small items signs faultless;
        constants_from = constants-from items signs faultless;
        constants_to = constants-to items signs faultless;
        names = names-apart items signs faultless (type_defs items);
        laid = subst P (sym instrs) (code-laid items signs faultless whole);
        funcs = functions-sound;
      }

-- ---- items that are read

read-whole : (n : ℕ) (inside : Bool) (ts : Lexemes) (ps : List Piece) (rest : Lexemes) → Front n inside ts ps false rest → AreWhole inside (kept ps)
read-whole n inside ts [] rest h = h.0
read-whole n true ts ((None, at) ∷ ps) rest h = (let no = h.2 in cc)
read-whole n false ts ((None, at) ∷ ps) rest h = read-whole n false h.0 ps rest h.4
read-whole n inside ts ((Some x, at) ∷ ps) rest h = (h.2, read-whole n (leaves_open (Some x)) h.0 ps rest h.4)

pub items-whole : (ts : Lexemes) (items : List Item) (starts : List ℕ) → IsModule ts items starts → AreWhole false items
items-whole ts items starts m =
    let P : List Item → Type 0 = λ l. AreWhole false l in
    subst P m.tree (read-whole (length ts) false ts m.pieces [] m.whole)
