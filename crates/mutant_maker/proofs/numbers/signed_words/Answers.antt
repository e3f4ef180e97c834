use Rattle.std.proofs.Common.{List, ℤ, [], ◌∷◌, ◌++◌, map, take, sym, ap, ◌∙◌}
use Rattle.std.specs.Int.{w128}
use Rattle.std.proofs.lemmas.Int.{to_z-of_z}
use Rattle.std.proofs.lemmas.List.{map_more}
use Rattle.am_base.specs.Word.{signed}
use Rattle.mutant_maker.proofs.numbers.signed_words.Goals as goal

pub each-preserved : goal.each-preserved
each-preserved c =
    let words = c.as_slice-word-items.result.now in
    let so_far = map (signed c.args.w) (take c.each.word-index words) in
    c.in_ok-push.ensures.ok ∙ ap (λ (z : ℤ). c.each.numbers ++ z ∷ []) (to_z-of_z w128 c.signed.result (record { sfits = c.signed.type_inv }))
    ∙ ap (λ (zs : List ℤ). zs ++ c.signed.result ∷ []) c.each.invariant ∙ ap (λ (z : ℤ). so_far ++ z ∷ []) c.signed.ensures
    ∙ sym (map_more (signed c.args.w) words c.each.word-index _ c.each-test.true)
