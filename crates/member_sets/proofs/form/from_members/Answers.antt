use Rattle.std.proofs.Common.{◌≡◌, ℕ, ◌+◌, ◌-◌, ◌*◌, ◌/◌, ◌<◌, ◌≤◌, List, length, slice_index, get_or, ap, ◌∙◌, sym, refl, arith}
use Rattle.std.proofs.lemmas.List.{get_or_default}
use Rattle.member_sets.proofs.Parts.{rising_at}
use Rattle.member_sets.proofs.Kernels.{first_word}
use Rattle.member_sets.proofs.form.from_members.Goals as goal

pub overflow_sub-words-2 : goal.overflow_sub-words-2
overflow_sub-words-2 c =
    let xs = c.args.members.now in
    omega (arith, rising_at xs c.requires.rising 0 (length xs - 1) (omega arith) (omega (arith, c.requires.some)))

pub words_of-requires-clause-within : goal.words_of-requires-clause-within
words_of-requires-clause-within c k d l =
    let xs = c.args.members.now in let e = get_or_default xs k d 0 l in
    let low = rising_at xs c.requires.rising 0 k (omega arith) l in
    let high = rising_at xs c.requires.rising k (length xs - 1) (omega (arith, l)) (omega (arith, l)) in
    (omega (arith, e, low), omega (arith, e, low, high))

pub new-requires-clause-some : goal.new-requires-clause-some
new-requires-clause-some c =
    first_word (get_or c.args.members.now 0 0 / 64) c.in_ok-words.words.items c.args.members.now c.in_ok-words.ensures.0 c.requires.some refl
