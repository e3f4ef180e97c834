use Rattle.std.proofs.Common.{◌≡◌, Some, None, refl, sym, ap, ◌∙◌}
use Rattle.command_words.specs.Words.{files_meant, texts_of}
use Rattle.accmut_app.specs.ViewWords.{view_command_of, view_meant}
use Rattle.accmut_app.specs.declared.view_words.ViewCommand.TheVariants.{Number, Page}
use Rattle.accmut_app.proofs.Viewed.{no_view, viewed, view_named}
use Rattle.accmut_app.proofs.view.view_over.Goals as goal

pub returns-in-Number-clause-call : goal.returns-in-Number-clause-call
returns-in-Number-clause-call g c =
    let o = view_command_of (texts_of c.args.words.now) in
    let is : o ≡ Some (Number c.in-Number.name.now) = sym c.in-Some.ensures ∙ ap (λ v. Some (view_meant v)) c.in-Number.is in
    let done = c.number_written-status.ensures in
    viewed o (Number c.in-Number.name.now) _ _ _ is (done.answer c.args.meter.now) refl refl done.kept done.counts done.sink_counts

pub returns-in-Number-clause-unread : goal.returns-in-Number-clause-unread
returns-in-Number-clause-unread g c e =
    let o = view_command_of (texts_of c.args.words.now) in
    absurd (view_named o (Number c.in-Number.name.now) (sym c.in-Some.ensures ∙ ap (λ v. Some (view_meant v)) c.in-Number.is) e)

pub returns-in-Page-clause-call : goal.returns-in-Page-clause-call
returns-in-Page-clause-call g c =
    let o = view_command_of (texts_of c.args.words.now) in
    let is : o ≡ Some (Page (files_meant c.in-Page.files)) = sym c.in-Some.ensures ∙ ap (λ v. Some (view_meant v)) c.in-Page.is in
    let done = c.page_written.ensures in
    viewed o (Page (files_meant c.in-Page.files)) _ _ _ is done.answer done.signs done.answers done.kept done.counts done.sink_counts

pub returns-in-Page-clause-unread : goal.returns-in-Page-clause-unread
returns-in-Page-clause-unread g c e =
    let o = view_command_of (texts_of c.args.words.now) in
    absurd (view_named o (Page (files_meant c.in-Page.files)) (sym c.in-Some.ensures ∙ ap (λ v. Some (view_meant v)) c.in-Page.is) e)
