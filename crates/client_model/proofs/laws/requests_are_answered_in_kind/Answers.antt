use Rattle.client_model.proofs.InKind.{handshake_in_kind, request_in_kind}
use Rattle.client_model.proofs.laws.requests_are_answered_in_kind.Goals as goal

pub returns-clause-handshake : goal.returns-clause-handshake
returns-clause-handshake c = handshake_in_kind

pub returns-clause-request : goal.returns-clause-request
returns-clause-request c = request_in_kind
