use Rattle.std.proofs.Common.{ap}
use Rattle.client_model.specs.State.{Played}
use Rattle.link_model.proofs.Ends.{moves_end, route_ends}
use Rattle.link_model.proofs.Law.{started, moves_fine, journal_grows, journal_stands, answer_stands, connection_stays, cookies_stay, whole_again, closed_after}
use Rattle.link_model.proofs.laws.calls_by_frames_are_direct.Goals as goal

pub returns-clause-starts : goal.returns-clause-starts
returns-clause-starts c = λ asked. ap (λ (p : Played). p.0) (started asked)

pub returns-clause-fine : goal.returns-clause-fine
returns-clause-fine c = moves_fine

pub returns-clause-grows : goal.returns-clause-grows
returns-clause-grows c = journal_grows

pub returns-clause-asks : goal.returns-clause-asks
returns-clause-asks c = journal_stands

pub returns-clause-puts : goal.returns-clause-puts
returns-clause-puts c = answer_stands

pub returns-clause-stays : goal.returns-clause-stays
returns-clause-stays c = connection_stays

pub returns-clause-cookies : goal.returns-clause-cookies
returns-clause-cookies c = cookies_stay

pub returns-clause-ends : goal.returns-clause-ends
returns-clause-ends c = moves_end

pub returns-clause-whole : goal.returns-clause-whole
returns-clause-whole c = whole_again

pub returns-clause-closed : goal.returns-clause-closed
returns-clause-closed c = closed_after

pub returns-clause-arrives : goal.returns-clause-arrives
returns-clause-arrives c = route_ends
