use Rattle.std.proofs.Common.{◌<◌, length, sym, ◌∙◌, subst, arith}
use Rattle.code_form.specs.declared.code.Code.{Code}
use Rattle.code_form.specs.declared.code.Func.{Func}
use Rattle.function_names.proofs.Numbered.{named_within}
use Rattle.mutant_records.specs.Lists.{HasPlaces}
use Rattle.mutant_records.proofs.Places.{has_places}
use Rattle.mutant_records.proofs.records.read_record.Goals as goal

pub function_at-f-requires : goal.function_at-f-requires
function_at-f-requires g c = named_within c.args.code.now _ c.in-Some-find.function (sym (c.requires.named c.in_ok-name.name) ∙ sym c.find.ensures ∙ c.in-Some-find.is)

pub place_named-requires-clause-rising : goal.place_named-requires-clause-rising
place_named-requires-clause-rising g c =
    let within = named_within c.args.code.now _ c.in-Some-find.function (sym (c.requires.named c.in_ok-name.name) ∙ sym c.find.ensures ∙ c.in-Some-find.is) in
    (subst (λ (f : Func). HasPlaces c.args.code.now f) (sym c.function_at-f.ensures) (has_places c.args.code.now c.in-Some-find.function c.requires.sound within)).rising

pub place_named-requires-clause-few : goal.place_named-requires-clause-few
place_named-requires-clause-few g c =
    let within = named_within c.args.code.now _ c.in-Some-find.function (sym (c.requires.named c.in_ok-name.name) ∙ sym c.find.ensures ∙ c.in-Some-find.is) in
    let places : HasPlaces c.args.code.now c.function_at-f.result.now =
    subst (λ (f : Func). HasPlaces c.args.code.now f) (sym c.function_at-f.ensures) (has_places c.args.code.now c.in-Some-find.function c.requires.sound within) in
    let a = places.within in let b = places.few in omega arith

pub read_replacement-requires-clause-within : goal.read_replacement-requires-clause-within
read_replacement-requires-clause-within g c =
    let within = named_within c.args.code.now _ c.in-Some-find.function (sym (c.requires.named c.in_ok-name.name) ∙ sym c.find.ensures ∙ c.in-Some-find.is) in
    let places : HasPlaces c.args.code.now c.function_at-f.result.now =
    subst (λ (f : Func). HasPlaces c.args.code.now f) (sym c.function_at-f.ensures) (has_places c.args.code.now c.in-Some-find.function c.requires.sound within) in
    let here : c.in-Some-place_named.place < length c.args.code.now.instrs = let a = places.within in let b = c.in-Some-place_named.ensures.within in omega arith in
    subst (λ (code : Code). c.in-Some-place_named.place < length code.instrs) (sym c.requires.over) here
