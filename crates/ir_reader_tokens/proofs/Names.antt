-- What a name stands for, by its parts.
use Rattle.std.proofs.Common.{◌≡◌, ℕ, true, false, Option, Some, None, IsTrue, refl}
use Rattle.std.specs.Option.{SomeIff}
use Rattle.std.specs.Str.Parse.{digits_value}
use Rattle.ir_tokens.specs.Bytes.{Text, is_quote, begins}
use Rattle.ir_tokens.specs.Names.{quoted_value}
use Rattle.ir_tokens.specs.Tokens.{IsSmallNumber, is_digits, is_small_number}
use Rattle.ir_tokens.proofs.Spelled.{is_small_number-IsSmallNumber, IsSmallNumber-is_small_number}
use Rattle.ir_tree.specs.declared.name.Name.TheVariants as name
use Rattle.ir_grammar.specs.Words.{name_of}

pub small_value : (o : Option ℕ) (s : Text) → SomeIff o (IsSmallNumber s) (digits_value 10 s) → SomeIff o (IsTrue (is_small_number s)) (digits_value 10 s)
small_value (Some n) s h = (IsSmallNumber-is_small_number s h.0, h.1)
small_value None s h = λ e. h (is_small_number-IsSmallNumber s e)

pub number_named : (s : Text) → is_small_number s ≡ true → name_of s ≡ Some (name.Number (digits_value 10 s))
unfolding name_of
number_named s e = rw e refl

pub not_named : (s : Text) → is_small_number s ≡ false → is_digits s ≡ true → name_of s ≡ None
unfolding name_of
not_named s e f = rw (e, f) refl

pub quoted_named : (s : Text) → is_small_number s ≡ false → is_digits s ≡ false → begins is_quote s ≡ true → name_of s ≡ Some (name.Text (quoted_value s))
unfolding name_of
quoted_named s e f g = rw (e, f, g) refl

pub plain_named : (s : Text) → is_small_number s ≡ false → is_digits s ≡ false → begins is_quote s ≡ false → name_of s ≡ Some (name.Text s)
unfolding name_of
plain_named s e f g = rw (e, f, g) refl
