use Rattle.hijack_split.proofs.RoundTrip.{text_read}
use Rattle.hijack_split.proofs.laws.texts_are_read_as_views.Goals as goal

pub returns : goal.returns
returns c = text_read
