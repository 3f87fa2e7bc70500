use denote.Param.Send.{sendable}
use Rattle.std.proofs.Crossing as heap
use Rattle.turn_lock.proofs.Crosses.{pass_send, pass_field_send, arc_send, arc_field_send}
use Rattle.turn_bench.proofs.Crosses.{counter_send}
use Rattle.turn_bench.proofs.players.start.Goals as goal

pub beside-requires-send-F : goal.beside-requires-send-F
beside-requires-send-F g c κs within = let a = counter_send in search (sendable, pass_field_send, arc_field_send, pass_send, arc_send, heap.crosses) depth 20

pub beside-requires-send-T : goal.beside-requires-send-T
beside-requires-send-T g c κs within = let a = counter_send in search (sendable, pass_field_send, pass_send) depth 20
