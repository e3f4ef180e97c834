use Rattle.std.proofs.Common.{sym}
use Rattle.accmut_app.proofs.view.accmut_view.Goals as goal

pub returns-clause-call : goal.returns-clause-call
returns-clause-call g c = rw (sym c.replace-all.ensures.value) c.view_over-own.ensures.call

pub returns-clause-unread : goal.returns-clause-unread
returns-clause-unread g c = c.view_over-own.ensures.unread
