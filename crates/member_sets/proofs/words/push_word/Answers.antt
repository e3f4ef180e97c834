use Rattle.std.proofs.Common.{◌≡◌, ℕ, ◌+◌, ◌/◌, ◌^◌, ◌<◌, ◌∷◌, [], ◌++◌, List, map, ap, sym, ◌∙◌, arith, append-nil, append_assoc}
use Rattle.std.specs.Int.{trailing_zeros, w64}
use Rattle.std.proofs.lemmas.List.{map-append}
use Rattle.std.proofs.lemmas.Nat.{shr-shr}
use Rattle.std.proofs.lemmas.Nat.Bits.{bit_at-trailing_zeros}
use Rattle.member_sets.specs.Planes.{bits_below}
use Rattle.member_sets.proofs.Bits.{bits_none, next_bit, last_bit}
use Rattle.member_sets.proofs.words.push_word.Goals as goal

pub bits-init : goal.bits-init
bits-init c = record {
  small = omega arith;
  rest = omega arith;
  done = sym (append-nil _) ∙ ap (λ xs. c.args.list.now.items ++ map (λ k. c.args.base + k) xs) (sym (bits_none c.args.word));
}

-- one bit more
longer : (base n : ℕ) (old xs ys before after : List ℕ) → ys ≡ xs ++ (base + n) ∷ [] → xs ≡ old ++ map (λ k. base + k) before → after ≡ before ++ n ∷ []
    → ys ≡ old ++ map (λ k. base + k) after
longer base n old xs ys before after p e q =
    p ∙ ap (λ zs. zs ++ (base + n) ∷ []) e ∙ append_assoc old (map (λ k. base + k) before) ((base + n) ∷ [])
    ∙ ap (λ zs. old ++ zs) (sym (ap (map (λ k. base + k)) q ∙ map-append (λ k. base + k) before (n ∷ [])))

pub bits-preserved : goal.bits-preserved
bits-preserved c =
    let w = c.args.word in let at = c.bits.at in let rest = c.bits.rest in let skip = trailing_zeros w64 rest in
    let h = bit_at-trailing_zeros w64 rest (omega (arith, c.bits-test.true)) c.bits.auto.rest-fits.fits in
    let n = next_bit w at rest skip c.bits.invariant.rest c.ranges.word.fits h.0 h.1 h.2 in record {
      small = omega (arith, n.0);
      rest = ap (λ r. r / 2 ^ skip / 2) c.bits.invariant.rest ∙ ap (λ r. r / 2) (shr-shr w at skip) ∙ shr-shr w (at + skip) 1;
      done = longer c.args.base (at + skip) c.args.list.now.items c.bits.list.items c.push.new.self.items (bits_below at w) (bits_below (at + skip + 1) w)
          c.in_ok-push.ensures.items c.bits.invariant.done n.1;
    }

pub returns : goal.returns
returns c = c.bits.invariant.done ∙ ap (λ xs. c.args.list.now.items ++ map (λ k. c.args.base + k) xs)
    (sym (last_bit c.args.word c.bits.at (sym c.bits-test.false ∙ c.bits.invariant.rest) c.bits.invariant.small))

pub overflow_add-base : goal.overflow_add-base
overflow_add-base c =
    let w = c.args.word in let rest = c.bits.rest in
    let h = bit_at-trailing_zeros w64 rest (omega (arith, c.bits-test.true)) c.bits.auto.rest-fits.fits in
    let n = next_bit w c.bits.at rest (trailing_zeros w64 rest) c.bits.invariant.rest c.ranges.word.fits h.0 h.1 h.2 in
    omega (arith, n.0, c.requires)
