-- An open call that waits.
use Rattle.std.specs.Prelude.{Bool, true, false, Option, None, Some}
use Rattle.hub_model.specs.Sound.{is_waiting}
use Rattle.hub_model.specs.declared.state.OpenCall.{OpenCall}
use Rattle.hub_model.specs.declared.state.OpenCall.TheVariants.{Gathers}

-- an open call for whose next need an ask is out
abbrev pub with_ask : OpenCall → OpenCall
with_ask (Gathers call got asked) = Gathers call got true
with_ask task = task

-- there is a call, and it isn't performed yet
abbrev pub waits_in : Option OpenCall → Bool
waits_in None = false
waits_in (Some task) = is_waiting task
