-- The outcomes that the tests of a list expect, as its fields spell them.
use Rattle.std.specs.Prelude.{ℕ, ◌+◌, ◌==◌, if◌then◌else◌, List, [], ◌∷◌, length, take, drop, Option, Some, None, unwrap_or, codes}
use Rattle.std.specs.List.{find, position}
use Rattle.std.specs.Option.{option_map, option_or, option_and_then}
use Rattle.std.specs.Str.{bytes_eq}
use Rattle.am_base.specs.Outcome.{trap_number}
use Rattle.am_base.specs.declared.outcome.Ending.{Ending}
use Rattle.am_base.specs.declared.outcome.Ending.TheVariants as ending
use Rattle.am_base.specs.declared.outcome.Outcome.{Outcome}
use Rattle.am_base.specs.declared.outcome.Trap.{Trap}
use Rattle.am_base.specs.declared.outcome.Trap.TheVariants as trap
use Rattle.am_base.specs.declared.word.Width.TheVariants.{W32}
use Rattle.code_form.specs.declared.code.TyScalar.{TyScalar}
use Rattle.code_form.specs.Sound.{width_of}
use Rattle.ir_tokens.specs.Bytes.{Text}
use Rattle.list_records.specs.Numbers.{number_within, word_within}

-- ---- parts of a text

-- what stands behind a word with which the text begins
unfoldable pub after : Text → Text → Option Text
after word text = if bytes_eq word (take (length word) text) then Some (drop (length word) text) else None

-- where the first of a separator stands
abbrev pub place_of : ℕ → Text → Option ℕ
place_of separator text = position (λ b. b == separator) text

-- what stands before it, and all where there is none
abbrev pub front_part : Option ℕ → Text → Text
front_part None text = text
front_part (Some at) text = take at text

-- what stands behind it, where there is one
abbrev pub back_part : Option ℕ → Text → Option Text
back_part None text = None
back_part (Some at) text = Some (drop (at + 1) text)

-- ---- endings

abbrev pub traps : List Trap
traps = trap.DivideByZero ∷ trap.DivideOverflow ∷ trap.AddressRange ∷ trap.ConstantWrite ∷ trap.UnsetRegister ∷ trap.Unreachable ∷ trap.Abort ∷ trap.DepthFull
    ∷ trap.RegistersFull ∷ trap.MemoryFull ∷ trap.OutputFull ∷ trap.PortRefused ∷ []

-- the trap with a number
abbrev pub trap_numbered : ℕ → Option Trap
trap_numbered n = find (λ t. trap_number t == n) traps

-- `return` where the function has no result, and else `return N` where N fits the result's width
abbrev pub returned : Option TyScalar → Text → Option Ending
returned None text = if bytes_eq text (codes "return") then Some (ending.Return None) else None
returned (Some ty) text = option_map (λ n. ending.Return (Some n)) (option_and_then (word_within (width_of ty)) (after (codes "return ") text))

-- `exit N` where N fits 32 bits
abbrev pub exited : Text → Option Ending
exited text = option_map ending.Exit (option_and_then (word_within W32) (after (codes "exit ") text))

-- `trap K` where a trap has the number K
abbrev pub trapped : Text → Option Ending
trapped text = option_map ending.Trap (option_and_then trap_numbered (option_and_then (number_within 12) (after (codes "trap ") text)))

-- the ending that a text spells, for a function with this result
abbrev pub ending_of : Option TyScalar → Text → Option Ending
ending_of result text = option_or (returned result text) (option_or (exited text) (trapped text))

-- ---- outcomes

-- the ending that a field expects: none where the field is empty; an ending stands before the first `:`
abbrev pub expected_ending : Option TyScalar → Text → Option (Option Ending)
expected_ending result text = if length text == 0 then Some None else option_map Some (ending_of result (front_part (place_of 58 text) text))

-- the output that a field expects: what stands behind the first `:`, and nothing where there is none
abbrev pub expected_output : Text → Text
expected_output text = unwrap_or (back_part (place_of 58 text) text) []

abbrev pub outcome_of : Text → Ending → Outcome
outcome_of output ending = record { ending = ending; output = output }
