use Rattle.lane_ops.proofs.Pages.{rest_differs}
use Rattle.lane_ops.proofs.page.page_differs.Goals as goal

pub returns : goal.returns
returns c = rest_differs c.equal_blocks-at.result c.args.a.now c.args.b.now c.ne.result c.equal_blocks-at.ensures.equal c.ne.ensures
