use Rattle.std.proofs.Common.{◌≡◌, ◌∙◌, List, map, Some, None, true, false, ap, sym}
use Rattle.command_words.specs.Words.{Text, command_of, meant, texts_of, wanted}
use Rattle.command_words.proofs.Budgets.{budget_within}
use Rattle.accmut_app.specs.Commands.{has_picker, with_picker, names_asked}
use Rattle.accmut_app.proofs.Asked.{asked, unasked, names_none}
use Rattle.accmut_app.proofs.Called.{wrong_use, carried_out}
use Rattle.accmut_app.proofs.Picked.{missing, there}
use Rattle.accmut_app.proofs.call.accmut_over.Goals as goal

pub without_picker-status-requires-clause-budget : goal.without_picker-status-requires-clause-budget
without_picker-status-requires-clause-budget g c n e =
    budget_within (texts_of c.args.words.now) (meant c.in-Some.command) n (sym c.in-Some.ensures) e

pub with_picker-requires-clause-budget : goal.with_picker-requires-clause-budget
with_picker-requires-clause-budget g c n e =
    budget_within (texts_of c.args.words.now) (meant c.in-Some.command) n (sym c.in-Some.ensures) e

pub returns-in-None-clause-call : goal.returns-in-None-clause-call
returns-in-None-clause-call g c =
    let names : List Text = map (λ q. (goal.Picker-dyn g (q.vtable, q.value)).named q.value) c.args.pickers.items in
    let o = command_of (texts_of c.args.words.now) in
    let k = meant c.in-Some.command in
    let has : has_picker names (wanted k) ≡ true = ap (has_picker names) (sym c.in-None.ensures) in
    let none = c.in-None.ensures in
    let done = c.without_picker-status.ensures in
    carried_out (with_picker names o) k _ _ _ (asked names o k c.in-Some.ensures has) (done.answer c.args.meter.now)
    (λ number load. let wants = ap wanted load in absurd (cc (wants, none))) done.signs done.answers done.kept done.counts done.sink_counts

pub returns-in-None-clause-unread : goal.returns-in-None-clause-unread
returns-in-None-clause-unread g c e =
    let names : List Text = map (λ q. (goal.Picker-dyn g (q.vtable, q.value)).named q.value) c.args.pickers.items in
    let o = command_of (texts_of c.args.words.now) in
    let k = meant c.in-Some.command in
    let has : has_picker names (wanted k) ≡ true = ap (has_picker names) (sym c.in-None.ensures) in
    let load = names_none k (sym (ap names_asked (asked names o k c.in-Some.ensures has)) ∙ e) in
    let wants = ap wanted load.1 in
    let none = c.in-None.ensures in
    absurd (cc (wants, none))

pub returns-in-None-first_named-clause-call : goal.returns-in-None-first_named-clause-call
returns-in-None-first_named-clause-call g c =
    let names : List Text = map (λ q. (goal.Picker-dyn g (q.vtable, q.value)).named q.value) c.args.pickers.items in
    let o = command_of (texts_of c.args.words.now) in
    let k = meant c.in-Some.command in
    let has : has_picker names (wanted k) ≡ false =
    ap (has_picker names) (sym c.in-Some-wanted.ensures)
    ∙ missing (λ q. (goal.Picker-dyn g (q.vtable, q.value)).named q.value) c.in-Some-wanted.name.now c.args.pickers.items
    c.in-None-first_named.ensures.first in
    wrong_use (with_picker names o) _ (unasked names o k c.in-Some.ensures has)

pub returns-in-Some-first_named-clause-call : goal.returns-in-Some-first_named-clause-call
returns-in-Some-first_named-clause-call g c =
    let names : List Text = map (λ q. (goal.Picker-dyn g (q.vtable, q.value)).named q.value) c.args.pickers.items in
    let o = command_of (texts_of c.args.words.now) in
    let k = meant c.in-Some.command in
    let has : has_picker names (wanted k) ≡ true =
    ap (has_picker names) (sym c.in-Some-wanted.ensures)
    ∙ there (λ q. (goal.Picker-dyn g (q.vtable, q.value)).named q.value) c.in-Some-wanted.name.now c.args.pickers.items
    c.in-Some-first_named.picker c.in-Some-first_named.ensures.first in
    let done = c.with_picker.ensures in
    carried_out (with_picker names o) k _ _ _ (asked names o k c.in-Some.ensures has) done.answer (λ number load. (done.untouched number load).1)
    done.signs done.answers done.kept done.counts done.sink_counts

pub returns-in-Some-first_named-clause-unread : goal.returns-in-Some-first_named-clause-unread
returns-in-Some-first_named-clause-unread g c e =
    let names : List Text = map (λ q. (goal.Picker-dyn g (q.vtable, q.value)).named q.value) c.args.pickers.items in
    let o = command_of (texts_of c.args.words.now) in
    let k = meant c.in-Some.command in
    let has : has_picker names (wanted k) ≡ true =
    ap (has_picker names) (sym c.in-Some-wanted.ensures)
    ∙ there (λ q. (goal.Picker-dyn g (q.vtable, q.value)).named q.value) c.in-Some-wanted.name.now c.args.pickers.items
    c.in-Some-first_named.picker c.in-Some-first_named.ensures.first in
    let load = names_none k (sym (ap names_asked (asked names o k c.in-Some.ensures has)) ∙ e) in
    c.with_picker.ensures.unread load.0 load.1
