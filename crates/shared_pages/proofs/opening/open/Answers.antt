use Rattle.std.proofs.Common.{arith, subst, sym}
use Rattle.shared_pages.specs.Store.{Store}
use Rattle.shared_pages.specs.Opening.{IsLeft, full_count}
use Rattle.shared_pages.proofs.Openings.{opened_empty, opened_left, opened_more, opened_none}
use Rattle.shared_pages.proofs.Refused.{on_err}
use Rattle.shared_pages.proofs.opening.open.Goals as goal

pub pages-init : goal.pages-init
pages-init c = opened_none c.args.store.now c.args.id.now c.args.bytes.now c.requires.before c.requires.most

pub open_page-requires : goal.open_page-requires
open_page-requires c = record {
  long = c.requires.long;
  range = c.pages-test.true;
  known = c.pages.invariant.alive;
  before = c.pages.invariant.bytes;
  empty = opened_empty c.args.store.now c.pages.store c.args.id.now c.pages.number c.args.bytes.now c.pages.invariant c.pages-test.true;
  most = let peak = c.pages.invariant.peak in omega (arith, peak);
}

pub pages-preserved : goal.pages-preserved
pages-preserved c =
    opened_more c.args.store.now c.pages.store c.open_page.new.store c.args.id.now c.pages.number c.args.bytes.now c.pages.invariant c.pages-test.true
    c.in_ok-open_page.ensures.ok

pub returns-in_err-open_page-clause-err : goal.returns-in_err-open_page-clause-err
returns-in_err-open_page-clause-err c =
    on_err c.from_residual.result (subst (λ (s : Store). IsLeft c.args.store.now s c.args.id.now (full_count c.args.bytes.now))
    (sym c.in_err-open_page.ensures.err) (opened_left c.args.store.now c.pages.store c.args.id.now c.pages.number c.args.bytes.now c.pages.invariant))
