-- What a turn of a loop over a repeated part does to the reading of the whole.
use Rattle.std.proofs.Common.{◌≡◌, ◌<◌, Bool, true, false, List, [], ◌∷◌, ◌++◌, length, Option, Some, None, refl, ap, ◌∙◌}
use Rattle.ir_grammar.specs.Lexeme.{Lexemes}
use Rattle.ir_grammar.specs.Rule.{Rule, ◌>>◌, and_then, many, sign, comma_then, further, skip_many, onto}
use Rattle.ir_grammar.proofs.Exact.{Exact, Firm, firm-comma, onto-more, onto-fails, onto-none, many-more, many-none}

pub onto-empty : {A : Type 0} (o : Option (List A × Lexemes)) → onto [] o ≡ o
onto-empty None = refl
onto-empty (Some xs) = refl

module _ {A : Type 0} (begins : Lexemes → Bool) (p : Rule A) (e : Exact p) where
  abbrev through_comma : Lexemes → Option (Unit {0} × Lexemes) → Option (A × Lexemes)
  through_comma ts o = and_then o (λ y. p.parse y.1)

  pub further-goes : (front : List A) (ts : Lexemes) → comma_then begins ts ≡ true → (mid : Lexemes) (x : A) (rest : Lexemes)
      → (sign 44).parse ts ≡ Some (tt, mid) → p.parse mid ≡ Some (x, rest)
      → onto front ((further begins p).parse ts) ≡ onto (front ++ (x ∷ [])) ((further begins p).parse rest)
  further-goes front ts b mid x rest h g = onto-more (comma_then begins) (sign 44 >> p) (firm-comma p e).exact (firm-comma p e).strict front ts x rest b
      (ap (through_comma ts) h ∙ g)

  pub further-no_sign : (front : List A) (ts : Lexemes) → comma_then begins ts ≡ true → (sign 44).parse ts ≡ None → onto front ((further begins p).parse ts)
      ≡ None
  further-no_sign front ts b h = onto-fails (comma_then begins) (sign 44 >> p) (firm-comma p e).exact (firm-comma p e).strict front ts b
      (ap (through_comma ts) h)

  pub further-no_part : (front : List A) (ts : Lexemes) → comma_then begins ts ≡ true → (mid : Lexemes) → (sign 44).parse ts ≡ Some (tt, mid)
      → p.parse mid ≡ None → onto front ((further begins p).parse ts) ≡ None
  further-no_part front ts b mid h g = onto-fails (comma_then begins) (sign 44 >> p) (firm-comma p e).exact (firm-comma p e).strict front ts b
      (ap (through_comma ts) h ∙ g)

  pub further-shorter : (ts mid : Lexemes) (x : A) (rest : Lexemes) → (sign 44).parse ts ≡ Some (tt, mid) → p.parse mid ≡ Some (x, rest)
      → length rest < length ts
  further-shorter ts mid x rest h g = (firm-comma p e).strict ts x rest ((firm-comma p e).exact.sound ts x rest (ap (through_comma ts) h ∙ g))

  pub further-ends : (front : List A) (ts : Lexemes) → comma_then begins ts ≡ false → onto front ((further begins p).parse ts) ≡ Some (front, ts)
  further-ends front ts b = onto-none (comma_then begins) (sign 44 >> p) (firm-comma p e).exact (firm-comma p e).strict front ts b

-- ---- parts that are read without effect

abbrev no_value : Option (List (Unit {0}) × Lexemes) → Option (Unit {0} × Lexemes)
no_value o = and_then o (λ x. Some (tt, x.1))

no_value-onto : (x : Unit {0}) (o : Option (List (Unit {0}) × Lexemes)) → no_value (and_then o (λ xs. Some (x ∷ xs.0, xs.1))) ≡ no_value o
no_value-onto x None = refl
no_value-onto x (Some xs) = refl

module _ (begins : Lexemes → Bool) (p : Rule (Unit {0})) (a : Firm p) where
  abbrev goes_on : Option (Unit {0} × Lexemes) → Option (List (Unit {0}) × Lexemes)
  goes_on o = and_then o (λ x. and_then ((many begins p).parse x.1) (λ xs. Some (x.0 ∷ xs.0, xs.1)))

  pub skip_many-goes : (ts : Lexemes) → begins ts ≡ true → (x : Unit {0}) (mid : Lexemes) → p.parse ts ≡ Some (x, mid) → (skip_many begins p).parse ts ≡
      (skip_many begins p).parse mid
  skip_many-goes ts b x mid h = ap no_value (many-more begins p a.exact a.strict ts b ∙ ap goes_on h) ∙ no_value-onto x ((many begins p).parse mid)

  pub skip_many-fails : (ts : Lexemes) → begins ts ≡ true → p.parse ts ≡ None → (skip_many begins p).parse ts ≡ None
  skip_many-fails ts b h = ap no_value (many-more begins p a.exact a.strict ts b ∙ ap goes_on h)

  pub skip_many-ends : (ts : Lexemes) → begins ts ≡ false → (skip_many begins p).parse ts ≡ Some (tt, ts)
  skip_many-ends ts b = ap no_value (many-none begins p a.exact a.strict ts b)
