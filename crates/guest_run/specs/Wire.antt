-- One direction of a link.
use Rattle.std.specs.Prelude.{◌≡◌, [], None}
use Rattle.sp_frames.specs.Framing.{Held}

-- nothing is under way on one direction of the link
pub record IsIdle (held : Held) : Type 0 where
  pub ready : held.ready ≡ []
  pub rest : held.rest ≡ []
  pub stop : held.stop ≡ None
