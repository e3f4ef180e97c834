use Rattle.std.proofs.Common.{subst}
use Rattle.member_sets.specs.Members.{IsMemberList}
use Rattle.member_sets.proofs.Bits.{plane_list}
use Rattle.member_sets.proofs.plane.Plane.len.Goals as goal

pub returns-clause-list : goal.returns-clause-list
returns-clause-list c = subst IsMemberList c.self.view_is (plane_list c.self.inside.first c.self.inside.words.items c.self.invariant.few c.self.invariant.some)
