-- The text of one mutant's run by itself: `alone,M,NAME,ENDING,LENGTH` and `output,HEX`.
use Rattle.std.specs.Prelude.{ℕ, ◌-◌, ◌^◌, nat_lt, if◌then◌else◌, List, [], ◌∷◌, ◌++◌, Option, None, Some, codes, decimal}
use Rattle.am_base.specs.Outcome.{trap_number}
use Rattle.am_base.specs.Word.{bits_of}
use Rattle.am_base.specs.declared.outcome.Ending.{Ending}
use Rattle.am_base.specs.declared.outcome.Ending.TheVariants.{Return, Exit, Trap, Budget}
use Rattle.am_base.specs.declared.outcome.Outcome.{Outcome}
use Rattle.am_base.specs.declared.word.Width.{Width}
use Rattle.am_base.specs.declared.word.Width.TheVariants.{W1, W32}
use Rattle.code_form.specs.declared.code.TyScalar.{TyScalar}
use Rattle.code_form.specs.declared.code.TyScalar.TheVariants.{Int, Ptr}
use Rattle.hex.specs.Hex.{encode_lower}

-- the signed value of a word: the word itself below half of the range, and else the word less 2 ^ w
abbrev pub signed_text : Width → ℕ → List ℕ
signed_text w a = if nat_lt a (2 ^ (bits_of w - 1)) then decimal a else (45 ∷ decimal (2 ^ bits_of w - a))

-- signed for i8 to i64, unsigned for i1 and ptr
abbrev pub value_text : Option TyScalar → ℕ → List ℕ
value_text None a = decimal a
value_text (Some Ptr) a = decimal a
value_text (Some (Int W1)) a = decimal a
value_text (Some (Int w)) a = signed_text w a

abbrev pub ending_text : Option TyScalar → Ending → List ℕ
ending_text ty (Return None) = codes "return"
ending_text ty (Return (Some a)) = codes "return " ++ value_text ty a
ending_text ty (Exit a) = codes "exit " ++ signed_text W32 a
ending_text ty (Trap t) = codes "trap " ++ decimal (trap_number t)
ending_text ty Budget = codes "budget"

abbrev pub alone_text : ℕ → List ℕ → Option TyScalar → Outcome → ℕ → List ℕ
alone_text mutant name ty outcome changes =
    codes "alone," ++ decimal mutant ++ 44 ∷ name ++ 44 ∷ ending_text ty outcome.ending ++ 44 ∷ decimal changes ++ codes "\noutput,"
    ++ encode_lower outcome.output ++ 10 ∷ []
