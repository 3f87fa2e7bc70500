use Rattle.std.proofs.Common.{ap}
use Rattle.client_model.specs.State.{Played}
use Rattle.link_model.proofs.Goes.{asks_cookie, cookie_given, process_given, goes_on}
use Rattle.link_model.proofs.laws.next_programs_have_whole_links.Goals as goal

pub returns-clause-starts : goal.returns-clause-starts
returns-clause-starts c = λ going. ap (λ (p : Played). p.0) (asks_cookie going)

pub returns-clause-readies : goal.returns-clause-readies
returns-clause-readies c = cookie_given

pub returns-clause-images : goal.returns-clause-images
returns-clause-images c = process_given

pub returns-clause-goes_on : goal.returns-clause-goes_on
returns-clause-goes_on c = goes_on
