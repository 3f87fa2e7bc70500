-- What a call on sockets does.
use Rattle.std.specs.Prelude.{◌≡◌, ℕ, Result, Ok, Err}
use Rattle.sp_base.specs.declared.errno.Errno.{Errno}
use Rattle.socket_model.specs.declared.ruling.Ruling.{Ruling}
use Rattle.socket_model.specs.declared.ruling.Ruling.TheVariants.{Refused, Waits, Goes}
use Rattle.socket_model.specs.declared.ruling.SockFault.{SockFault}
use Rattle.socket_model.specs.declared.ruling.SockFault.TheVariants as fault
use Rattle.socket_model.specs.Socket.{Sockets}

-- what a call does: it fails and changes nothing, it waits, or it answers and leaves other sockets
pub data Does (X : Type 0) : Type 0 where
  Fails : Errno → Does X
  Waiting : Does X
  Answers : X → Sockets → Does X

module _ {X : Type 0} where
  -- by what it comes to
  abbrev pub by_ruling : Ruling → (ℕ → Does X) → Does X
  by_ruling (Refused e) go = Fails e
  by_ruling Waits go = Waiting
  by_ruling (Goes n) go = go n

  -- a function tells, and leaves, what the call does, want of memory aside, which leaves all as it was
  abbrev pub Tells : Result X SockFault → Does X → Sockets → Sockets → Type 0
  Tells (Ok x) does old new = does ≡ Answers x new
  Tells (Err (fault.Errno e)) does old new = (does ≡ Fails e) × (new ≡ old)
  Tells (Err fault.NotReady) does old new = (does ≡ Waiting) × (new ≡ old)
  Tells (Err fault.NoMemory) does old new = new ≡ old
