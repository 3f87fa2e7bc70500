use Rattle.link_model.proofs.Greets.{greeting_carried}
use Rattle.link_model.proofs.laws.greetings_make_links_whole.Goals as goal

pub returns : goal.returns
returns c = greeting_carried
