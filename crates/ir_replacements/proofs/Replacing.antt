-- What is known of a module tells the instruction that an item is in a place.
use Rattle.std.proofs.Common.{◌≡◌, ◌<◌, ◌^◌, ℕ, Bool, true, false, not, ◌||◌, List, [], ◌++◌, length, Option, Some, None, slice_get, if◌then◌else◌, refl, sym, ap, subst, ◌∙◌, arith, append-nil}
use Rattle.std.specs.List.{list_any}
use Rattle.std.proofs.lemmas.List.{drop_all}
use Rattle.code_form.specs.declared.code.TyScalar.{TyScalar}
use Rattle.code_form.specs.declared.instr.Instr.{Instr}
use Rattle.code_form.specs.declared.sign.PortSign.{PortSign}
use Rattle.ir_tree.specs.declared.name.Name.{Name}
use Rattle.ir_tree.specs.declared.op.Op.{Op}
use Rattle.ir_tree.specs.declared.item.Item.{Item}
use Rattle.ir_tree.specs.declared.item.Item.TheVariants as item
use Rattle.ir_names.specs.Names.{defined, firsts}
use Rattle.ir_names.proofs.Defined.{defined-firsts}
use Rattle.ir_rules.specs.declared.entity.Entity.{Entity}
use Rattle.ir_rules.specs.declared.local.Local.{Local}
use Rattle.ir_rules.specs.Types.{TypeDefs, Kinds, type_defs, kind_of, is_large}
use Rattle.ir_rules.specs.Scopes.{scope_of}
use Rattle.ir_rules.specs.Parts.{branch_labels, types_of}
use Rattle.ir_rules.specs.Operands.{unknown_type, type_too_large, scalar_wanted}
use Rattle.ir_rules.specs.Blocks.{unknown_label}
use Rattle.ir_rules.specs.Paths.{get_path}
use Rattle.ir_rules.specs.Entities.{entities_of}
use Rattle.ir_rules.specs.Settings.{Setting, setting_of, result_of}
use Rattle.ir_rules.specs.Memory.{Addresses, addresses_of}
use Rattle.ir_rules.specs.Codes.{op_code}
use Rattle.ir_rules.specs.Replacements.{Original, original_from, stays_as_it_is, ends_otherwise, gives_otherwise, goes_elsewhere, breaks_there, fitting, replacement_for, replacement_by}
use Rattle.ir_rules.specs.declared.scope.Scope.{Scope}
use Rattle.ir_scopes.specs.Kinds.{kind_in}
use Rattle.ir_pass.specs.declared.frame.Frame.{Frame}
use Rattle.ir_op_codes.specs.Alone.{AreAlike, code_alone, function_number}
use Rattle.ir_sound.proofs.Lists.{neither}
use Rattle.ir_block_rules.specs.Alone.{locals_alone}
use Rattle.ir_type_rules.specs.Alone.{types_alone}
use Rattle.ir_type_rules.specs.Alone as types
use Rattle.ir_op_codes.specs.Settings.{OpFits}
use Rattle.ir_op_codes.proofs.Alike.{alike}
use Rattle.ir_op_codes.proofs.Fitting.{op-fits}
use Rattle.ir_replacements.specs.declared.places.Spot.{Spot}
use Rattle.ir_replacements.specs.declared.replace.Prepared.{Prepared}
use Rattle.ir_replacements.specs.Shapes.{differs}
use Rattle.ir_replacements.specs.Breaks.{either, operand_rules, call_rules, last_rules, IsAskedBy, breaks_by}
use Rattle.ir_replacements.specs.Places.{instructions_from, open_items, IsSpot}
use Rattle.ir_replacements.specs.Prepared.{IsPrepared, IsItemOf, HasFew, replaced}
use Rattle.ir_replacements.proofs.LabelSets.{all-within}
use Rattle.ir_replacements.proofs.Asked.{asked-is}
use Rattle.ir_replacements.proofs.Pass.{MaybeSpot, spot-at, original-is}
use Rattle.ir_memory.proofs.Few.{AreFew, few-locals, few-entities, few-registers, few-blocks}

either-way : {X : Type 0} (d b : Bool) (x y : X) → (if d then x else (if b then x else y)) ≡ (if (d || b) then x else y)
either-way true b x y = refl
either-way false b x y = refl

-- an instruction that keeps the rules has no type that is too large
pub fits-unless : (defs : TypeDefs) (kind : Kinds) (es : List (Name × Entity)) (signs : List PortSign) (locals : List (Name × Local)) (result : Option (Option TyScalar))
    (x : Item) (o : Op) → IsItemOf x o → breaks_by defs kind es signs locals result x o ≡ false → OpFits defs o
fits-unless defs kind es signs locals result x o is h =
    let later : Bool = operand_rules kind es locals o
    (either (unknown_label (locals_alone locals) x) (call_rules kind es signs result x (last_rules kind locals (get_path (types_alone defs) x) x))) in
    let behind : Bool = either (scalar_wanted (types.kinds_alone kind) x) later in
    let first = neither (unknown_type (types_alone defs) x) (either (type_too_large (types_alone defs) x) behind) h in
    let second = neither (type_too_large (types_alone defs) x) behind first.1 in
    op-fits defs is.0 o (ap (λ (y : Item). list_any (is_large defs) (types_of y)) (sym is.1) ∙ second.0)

-- ---- one instruction, by the tests that are asked of it

module _ (defs : TypeDefs) (k : Prepared) (f : Frame) (s : Spot) (x : Item) (o : Op) where
  abbrev unlike : Bool
  unlike = differs (kind_in k.kinds.names) s.op.now s.labels o

  abbrev broken : Bool
  broken = breaks_by defs (kind_in k.kinds.names) k.entities k.ports f.function.table f.result x o

  abbrev code : Instr
  code = op_code (code_alone defs f.function.table k.entities k.ports) k.addresses o

  pub unlike-is : unlike ≡ true → ◌≡◌ {A = Option Instr} None (replaced defs k f s x o)
  unlike-is e = ap (λ (b : Bool). if b then None else (if broken then None else Some code)) (sym e)

  pub broken-is : unlike ≡ false → broken ≡ true → ◌≡◌ {A = Option Instr} None (replaced defs k f s x o)
  broken-is e g =
      ap (λ (b : Bool). if b then None else Some code) (sym g) ∙ ap (λ (b : Bool). if b then None else (if broken then None else Some code)) (sym e)

  pub code-is : (i : Instr) → unlike ≡ false → broken ≡ false → i ≡ code → Some i ≡ replaced defs k f s x o
  code-is i e g h =
      ap (λ (i : Instr). Some i) h ∙ ap (λ (b : Bool). if b then None else Some code) (sym g)
      ∙ ap (λ (b : Bool). if b then None else (if broken then None else Some code)) (sym e)

-- ---- a module

module _ (defs : TypeDefs) (k : Prepared) (known : IsPrepared defs k) where
  abbrev items : List Item
  items = k.items.now

  abbrev kind : Kinds
  kind = kind_in k.kinds.names

  -- ---- the instruction in a place

  done-is : instructions_from 0 items ≡ known.places.done
  done-is =
      known.places.originals
      ∙ ap (λ l. known.places.done ++ instructions_from (length items) l) (drop_all (length items) items (omega arith))
      ∙ append-nil known.places.done

  there : (place : ℕ) → MaybeSpot kind items k.places.frames (slice_get k.places.spots place) (original_from 0 place items)
  there place =
      subst (λ (o : Option Original). MaybeSpot kind items k.places.frames (slice_get k.places.spots place) o)
      (sym (original-is 0 items place ∙ ap (λ l. slice_get l place) done-is))
      (spot-at kind items k.places.frames k.places.spots known.places.done place known.places.spots)

  pub no-place : (place : ℕ) (r : Option Name) (o : Op) → slice_get k.places.spots place ≡ None → replacement_by items k.ports place (item.Instr r o) ≡ None
  no-place place r o e = by (original_from 0 place items) (subst (λ (s : Option Spot). MaybeSpot kind items k.places.frames s (original_from 0 place items)) e (there place))
    where
      by : (p : Option Original) → MaybeSpot kind items k.places.frames None p → replacement_for items k.ports p o ≡ None
      by None m = refl
      by (Some p) m = absurd m

  -- ---- one spot

  module _ (s : Spot) (p : Original) (spot : IsSpot kind items k.places.frames s p) where
    abbrev here : Setting
    here = setting_of items k.ports p.at (item.Instr p.result p.instruction)

    abbrev a : Addresses
    a = addresses_of (type_defs items) items

    abbrev f : Frame
    f = spot.frame

    function-is : f.function ≡ here.function
    function-is = spot.is.function ∙ ap (λ k. scope_of k (open_items items p.at)) known.kinds

    entities-are : k.entities ≡ firsts here.entities
    entities-are = known.entities ∙ ap (λ k. firsts (entities_of k items)) known.kinds

    locals-are : f.function.table ≡ here.function.table
    locals-are = ap (λ (c : Scope). c.table) function-is

    asked : IsAskedBy here defs kind k.entities k.ports f.function.table f.result
    asked = record {
      types = known.types;
      kinds = known.kinds;
      entities = entities-are;
      signs = refl;
      locals = locals-are;
      result = spot.is.result ∙ ap (λ k. result_of k (open_items items p.at)) known.kinds;
    }

    like : AreAlike (code_alone defs f.function.table k.entities k.ports) here
    like = record {
      types = known.types;
      kinds = ap kind_of known.types;
      locals = λ n. ap (λ t. defined t n) locals-are;
      entities = λ n. ap (λ t. defined t n) entities-are ∙ defined-firsts here.entities [] n;
      signs = refl;
    }

    abbrev differs_there : Op → Bool
    differs_there o =
        stays_as_it_is p.instruction || stays_as_it_is o || ends_otherwise p.instruction o || gives_otherwise here.kind p.instruction o || goes_elsewhere p.instruction o

    differs-is : (o : Op) → differs kind s.op.now s.labels o ≡ differs_there o
    differs-is o =
        (λ i. differs (known.kinds i) (spot.op i) (spot.labels i) o)
        ∙ ap (λ (b : Bool). stays_as_it_is p.instruction || stays_as_it_is o || ends_otherwise p.instruction o || gives_otherwise here.kind p.instruction o || not b)
        (all-within (branch_labels p.instruction) (branch_labels o))

    pub fitting-is : (q : Option Name) (o : Op) → replaced defs k f s (item.Instr q o) o ≡ fitting here a p o
    fitting-is q o =
        let breaks = asked-is here defs kind k.entities k.ports f.function.table f.result asked p.result q o in
        let code = alike (code_alone defs f.function.table k.entities k.ports) here k.addresses a like known.addresses o in
        let parts : replaced defs k f s (item.Instr q o) o ≡ (if differs_there o then None else (if breaks_there here p.result o then None else Some (op_code here a o))) =
        λ i. if differs-is o i then None else (if breaks i then None else Some (code i)) in
        parts ∙ either-way (differs_there o) (breaks_there here p.result o) None (Some (op_code here a o))

    pub few : HasFew k f
    few =
        let locals : AreFew f.function = subst AreFew (sym function-is) (few-locals items k.ports known.whole known.faultless p.at) in
        record {
          registers = few-registers f.function locals;
          blocks = few-blocks f.function locals;
          functions = λ n. subst (λ es. function_number (defined es n) < 2 ^ 32) (sym entities-are) (few-entities items k.ports known.whole known.faultless n);
        }

  pub record Found (place : ℕ) (s : Spot) : Type 0 where
    pub original : Original
    pub is : original_from 0 place items ≡ Some original
    pub spot : IsSpot kind items k.places.frames s original

  pub found : (place : ℕ) (s : Spot) → slice_get k.places.spots place ≡ Some s → Found place s
  found place s e =
      by (original_from 0 place items) refl
      (subst (λ (t : Option Spot). MaybeSpot kind items k.places.frames t (original_from 0 place items)) e (there place))
    where
      by : (p : Option Original) → original_from 0 place items ≡ p → MaybeSpot kind items k.places.frames (Some s) p → Found place s
      by None g m = absurd m
      by (Some p) g m = record { original = p; is = g; spot = m }

  -- the frame of a spot that is found
  frame-is : (place : ℕ) (s : Spot) (e : slice_get k.places.spots place ≡ Some s) (f : Frame) → slice_get k.places.frames s.frame ≡ Some f → (found place s e).spot.frame ≡ f
  frame-is place s e f g =
      let there = (found place s e).spot.there in
      same-some (sym there ∙ g)
    where
      same-some : {g f : Frame} → Some g ≡ Some f → g ≡ f
      same-some e = cc

  pub some-frame : (place : ℕ) (s : Spot) → slice_get k.places.spots place ≡ Some s → slice_get k.places.frames s.frame ≡ None → ⊥
  some-frame place s e g =
      let there = (found place s e).spot.there in
      no-some _ (sym g ∙ there)
    where
      no-some : (f : Frame) → ◌≡◌ {A = Option Frame} None (Some f) → ⊥
      no-some f h = cc

  pub replaced-is : (place : ℕ) (s : Spot) (f : Frame) (q : Option Name) (o : Op) → slice_get k.places.spots place ≡ Some s → slice_get k.places.frames s.frame ≡ Some f
      → replaced defs k f s (item.Instr q o) o ≡ replacement_by items k.ports place (item.Instr q o)
  replaced-is place s f q o e g =
      let it = found place s e in
      ap (λ (f : Frame). replaced defs k f s (item.Instr q o) o) (sym (frame-is place s e f g))
      ∙ fitting-is s it.original it.spot q o
      ∙ ap (λ (p : Option Original). replacement_for items k.ports p o) (sym it.is)

  pub has-few : (place : ℕ) (s : Spot) (f : Frame) → slice_get k.places.spots place ≡ Some s → slice_get k.places.frames s.frame ≡ Some f → HasFew k f
  has-few place s f e g = let it = found place s e in subst (HasFew k) (frame-is place s e f g) (few s it.original it.spot)
