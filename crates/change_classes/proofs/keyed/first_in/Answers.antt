use Rattle.std.proofs.Common.{◌<◌, length, arith, below_more}
use Rattle.std.proofs.lemmas.List.Elements.{All-get_or}
use Rattle.change_classes.proofs.Told.{told, at_place}
use Rattle.change_classes.proofs.Runs.{first_is, none_is}
use Rattle.change_classes.proofs.keyed.first_in.Goals as goal

pub loop-entry-preserved : goal.loop-entry-preserved
loop-entry-preserved g c = λ equal acts.
    below_more _ _ (c.loop-entry.invariant equal acts)
    (at_place (λ other. equal other c.args.item.now) c.args.items.now _ _ _ _ _
    (All-get_or (λ e. e.1 < length c.args.items.now) c.args.run.now _ (0, 0) c.loop-entry-test.true c.requires.within) c.index-items-entry.is
    (told g.F.Fn c.args.same.now _ _ _ ((g.met.F.FnMut.1.post_iff _ _ _).0 c.same.ensures) equal acts) c.if-same.false)

pub returns-then-same : goal.returns-then-same
returns-then-same g c = λ equal acts h.
    first_is (λ other. equal other c.args.item.now) c.args.items.now c.args.item.now c.args.run.now h c.loop-entry.entry-index
    (c.loop-entry.invariant equal acts) c.loop-entry-test.true c.requires.within
    (at_place (λ other. equal other c.args.item.now) c.args.items.now _ _ _ _ _
    (All-get_or (λ e. e.1 < length c.args.items.now) c.args.run.now _ (0, 0) c.loop-entry-test.true c.requires.within) c.index-items-entry.is
    (told g.F.Fn c.args.same.now _ _ _ ((g.met.F.FnMut.1.post_iff _ _ _).0 c.same.ensures) equal acts) c.if-same.true)

pub returns : goal.returns
returns g c = λ equal acts h.
    none_is (λ other. equal other c.args.item.now) c.args.items.now c.args.item.now c.args.run.now h c.loop-entry.entry-index
    (c.loop-entry.invariant equal acts) (omega (arith, c.loop-entry-test.false))
