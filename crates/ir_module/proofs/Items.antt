-- What an item adds to a code.
use Rattle.std.proofs.Common.{◌≡◌, List, Result, Ok, Err, Option, OnOk, refl}
use Rattle.ir_tree.specs.declared.name.Name.{Name}
use Rattle.ir_tree.specs.declared.type_text.TyText.{TyText}
use Rattle.ir_tree.specs.declared.op.Op.{Op}
use Rattle.ir_tree.specs.declared.item.Item.{Item}
use Rattle.ir_tree.specs.declared.item.Item.TheVariants as item
use Rattle.ir_rules.specs.Types.{TypeDefs}
use Rattle.ir_pass.specs.declared.frame.Frame.{Frame}
use Rattle.ir_module.specs.declared.parts.Parts.{Parts}
use Rattle.ir_module.specs.declared.tables.Tables.{Tables}
use Rattle.ir_module.specs.Parts.{with_code}

pub on-ok : {A E : Type 0} {P Q : Type 0} (r : Result A E) → (P → Q) → OnOk r P → OnOk r Q
on-ok (Ok a) f h = f h
on-ok (Err e) f h = tt

-- an item that is neither a head nor an instruction adds nothing
pub nothing-more : (ds : TypeDefs) (t : Tables) (p : Parts) (f : Frame) (x : Item)
    → ((n : Name) (ty : TyText) (ps : List (TyText × Option Name)) → x ≡ item.Head n ty ps → ⊥) → ((r : Option Name) (o : Op) → x ≡ item.Instr r o → ⊥)
    → p ≡ with_code ds t p f x
nothing-more ds t p f (item.Head n ty ps) h i = absurd (h n ty ps refl)
nothing-more ds t p f (item.Instr r o) h i = absurd (i r o refl)
nothing-more ds t p f (item.TypeDef n ty) h i = refl
nothing-more ds t p f (item.Global n c ty v) h i = refl
nothing-more ds t p f (item.Declare n ty ts) h i = refl
nothing-more ds t p f (item.Label n) h i = refl
nothing-more ds t p f item.End h i = refl
