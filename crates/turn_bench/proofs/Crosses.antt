-- What jobs take along may cross threads.
use denote.Param.Send.{IsSend, sendable}
use Rattle.turn_bench.specs.contracts.counter.Counter as Counter

pub counter_send : IsSend Counter.the_row
counter_send = search sendable depth 20
