-- The words of the arguments, one by one.
use Rattle.std.proofs.Common.{◌≡◌, ℕ, ◌<◌, length, drop, ◌∙◌, List, [], ◌∷◌, ◌++◌, Option, Some, None, refl, ap, sym, append_assoc}
use Rattle.std.proofs.Math.Seq.{drop-cons}
use Rattle.code_form.specs.declared.code.TyScalar.{TyScalar}
use Rattle.code_form.specs.declared.code.TyScalar.TheVariants.{Ptr}
use Rattle.test_suite.specs.Tests.{prepend, arguments_in}

-- words behind others
abbrev pub prefixed : List ℕ → Option (List ℕ) → Option (List ℕ)
prefixed words None = None
prefixed words (Some more) = Some (words ++ more)

pub prefixed_none : (o : Option (List ℕ)) → o ≡ prefixed [] o
prefixed_none None = refl
prefixed_none (Some more) = refl

pub prefixed_more : (words : List ℕ) (word : ℕ) (o : Option (List ℕ)) → prefixed words (prepend word o) ≡ prefixed (words ++ word ∷ []) o
prefixed_more words word None = refl
prefixed_more words word (Some more) = ap Some (sym (append_assoc words (word ∷ []) more))

-- nothing is left for a parameter
pub none_left : (types : List TyScalar) (i : ℕ) (words : List ℕ) (rest : Option (List ℕ)) (all : Option (List ℕ)) → i < length types → rest ≡ None
    → all ≡ prefixed words (arguments_in (drop i types) rest) → None ≡ all
none_left types i words rest all h none e =
    sym (e ∙ ap (λ o. prefixed words (arguments_in (drop i types) o)) none ∙ ap (λ ts. prefixed words (arguments_in ts None)) (drop-cons types i Ptr h))
