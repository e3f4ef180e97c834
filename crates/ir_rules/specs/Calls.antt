-- The rules on calls, returns and declarations, and what the outside functions and ports are.
use Rattle.std.specs.Prelude.{ℕ, suc, nat_eq, Bool, true, false, not, ◌&&◌, List, [], ◌∷◌, map, slice_get, Option, Some, None, is_some, codes, if◌then◌else◌}
use Rattle.std.specs.Cmp.Lexicographic.{pointwise}
use Rattle.std.specs.Option.{option_map}
use Rattle.am_base.specs.declared.word.Width.TheVariants.{W32}
use Rattle.code_form.specs.declared.code.TyScalar.{TyScalar}
use Rattle.code_form.specs.declared.code.TyScalar.TheVariants as scalar
use Rattle.code_form.specs.declared.instr.Callee.{Callee}
use Rattle.code_form.specs.declared.instr.Callee.TheVariants.{Port, PutChar, GetChar, Exit, Abort}
use Rattle.code_form.specs.declared.sign.PortSign.{PortSign}
use Rattle.ir_tree.specs.declared.name.Name.{Name}
use Rattle.ir_tree.specs.declared.op.Op.TheVariants as op
use Rattle.ir_tree.specs.declared.item.Item.{Item}
use Rattle.ir_tree.specs.declared.item.Item.TheVariants as item
use Rattle.ir_rules.specs.declared.entity.Entity.{Entity}
use Rattle.ir_rules.specs.declared.entity.Entity.TheVariants.{Declared, Defined}
use Rattle.ir_rules.specs.declared.entity.Signature.{Signature}
use Rattle.ir_rules.specs.Types.{Kinds}
use Rattle.ir_rules.specs.Parts.{Typed}
use Rattle.ir_rules.specs.Entities.{name_bytes, signature_of, same_kinds, same_result}
use Rattle.ir_rules.specs.Settings.{Setting, entity_of}

-- ---- outside functions and ports, by the bytes of their names

abbrev pub is_text : List ℕ → List ℕ → Bool
is_text name text = pointwise nat_eq name text

-- the four outside functions that every machine knows
abbrev pub outside : List ℕ → Option Callee
outside name =
    if is_text name (codes "putchar") then Some PutChar
    else (if is_text name (codes "getchar") then Some GetChar
    else (if is_text name (codes "exit") then Some Exit
    else (if is_text name (codes "abort") then Some Abort else None)))

-- the first port of this name
abbrev pub port_from : ℕ → List PortSign → List ℕ → Option Callee
port_from p [] name = None
port_from p (sign ∷ more) name = if is_text sign.name name then Some (Port p) else port_from (suc p) more name

-- a port that is handed in under the name of an outside function isn't called
abbrev pub known_callee : List PortSign → List ℕ → Option Callee
known_callee signs name = or_else (outside name)
  where
    or_else : Option Callee → Option Callee
    or_else (Some c) = Some c
    or_else None = port_from 0 signs name

-- ---- signatures

abbrev pub i32 : Option TyScalar
i32 = Some (scalar.Int W32)

-- the types of a port are integers
abbrev pub sign_signature : PortSign → Signature
sign_signature sign = record { params = map (λ w. Some (scalar.Int w)) sign.params; result = option_map (λ w. Some (scalar.Int w)) sign.result }

abbrev pub port_signature : Option PortSign → Option Signature
port_signature None = None
port_signature (Some sign) = Some (sign_signature sign)

abbrev pub callee_signature : List PortSign → Option Callee → Option Signature
callee_signature signs (Some PutChar) = Some (record { params = i32 ∷ []; result = Some i32 })
callee_signature signs (Some GetChar) = Some (record { params = []; result = Some i32 })
callee_signature signs (Some Exit) = Some (record { params = i32 ∷ []; result = None })
callee_signature signs (Some Abort) = Some (record { params = []; result = None })
callee_signature signs (Some (Port p)) = port_signature (slice_get signs p)
callee_signature signs _ = None

abbrev pub same_signature : Signature → Signature → Bool
same_signature a b = same_kinds a.params b.params && same_result a.result b.result

-- ---- UnknownCallee: the callee is neither defined, nor declared and an outside function or port

abbrev pub is_callee : List PortSign → Name → Option Entity → Bool
is_callee signs f (Some (Defined k sign)) = true
is_callee signs f (Some (Declared sign)) = is_some (known_callee signs (name_bytes f))
is_callee signs f _ = false

abbrev pub unknown_callee : Setting → Item → Bool
unknown_callee s (item.Instr r (op.Call t f xs)) = not (is_callee s.signs f (entity_of s f))
unknown_callee s _ = false

-- ---- CallDiffers: the types or the number of arguments differ from those of the callee's definition or declaration in the module

abbrev pub has_other_signature : Signature → Option Entity → Bool
has_other_signature call (Some (Defined k sign)) = not (same_signature call sign)
has_other_signature call (Some (Declared sign)) = not (same_signature call sign)
has_other_signature call _ = false

abbrev pub call_differs : Setting → Item → Bool
call_differs s (item.Instr r (op.Call t f xs)) = has_other_signature (signature_of s.kind t (map (λ (x : Typed). x.0) xs)) (entity_of s f)
call_differs s _ = false

-- ---- ReturnDiffers: a `ret` isn't of its function's type

abbrev pub returned_kind : Kinds → Option Typed → Option (Option TyScalar)
returned_kind kind None = None
returned_kind kind (Some v) = Some (kind v.0)

abbrev pub return_differs : Setting → Item → Bool
return_differs s (item.Instr r (op.Ret v)) = not (same_result s.result (returned_kind s.kind v))
return_differs s _ = false

-- ---- DeclareDiffers: a declaration of an outside function or port has another signature

abbrev pub differs_from : Signature → Option Signature → Bool
differs_from declared None = false
differs_from declared (Some sign) = not (same_signature declared sign)

abbrev pub declare_differs : Setting → Item → Bool
declare_differs s (item.Declare n t ts) = differs_from (signature_of s.kind t ts) (callee_signature s.signs (known_callee s.signs (name_bytes n)))
declare_differs s _ = false
