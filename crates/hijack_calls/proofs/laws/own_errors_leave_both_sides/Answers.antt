use Rattle.hijack_calls.proofs.OwnLaws.{own_leaves}
use Rattle.hijack_calls.proofs.laws.own_errors_leave_both_sides.Goals as goal

pub returns : goal.returns
returns g c = own_leaves g.R.Side.does g.H.Side.does
