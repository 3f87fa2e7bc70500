-- What a call on a channel comes to, and what a poll tells of a pipe's ends.
use Rattle.std.specs.Prelude.{ℕ, ◌==◌, nat_le, Bool, false, not, length, min, Option, None, Some, if◌then◌else◌}
use Rattle.sp_base.specs.declared.errno.Errno.{Errno}
use Rattle.sp_base.specs.declared.errno.Errno.TheVariants.{Epipe}
use Rattle.socket_model.specs.declared.limits.TheConstants.{STREAM_BYTES, LETTERS, PIPE_WHOLE}
use Rattle.socket_model.specs.declared.ruling.Ready.{Ready}
use Rattle.socket_model.specs.declared.ruling.Ruling.{Ruling}
use Rattle.socket_model.specs.declared.ruling.Ruling.TheVariants.{Refused, Waits, Goes}
use Rattle.socket_model.specs.Channel.{Track, held, room}

-- what is true of how many bytes go, where some do
abbrev pub IfGoes : Ruling → (ℕ → Type 0) → Type 0
IfGoes (Refused e) holds = Unit {0}
IfGoes Waits holds = Unit {0}
IfGoes (Goes n) holds = holds n

-- an error that comes first, where there is one
abbrev pub by_refusal : Option Errno → Ruling → Ruling
by_refusal None ruling = ruling
by_refusal (Some e) ruling = Refused e

-- n bytes are to be written where `free` fit, and it waits until `least` of them do
unfoldable pub put_ruling : Bool → ℕ → ℕ → ℕ → Ruling
put_ruling unread free least n =
    if unread then Refused Epipe
    else if n == 0 then Goes 0
    else if nat_le least free then Goes (min n free)
    else Waits

-- how many of n bytes must fit before any goes into a pipe: all of them, at most as many as a pipe holds, where the
-- write may wait; else all of them up to 512, and one of more than these
unfoldable pub least_of_pipe : Bool → ℕ → ℕ
least_of_pipe may_wait n =
    if may_wait then min n STREAM_BYTES
    else if nat_le n PIPE_WHOLE then n
    else 1

-- how many of n bytes must fit before any goes into a stream: as a pipe's where the call may wait, else one
unfoldable pub least_of_stream : Bool → ℕ → ℕ
least_of_stream may_wait n =
    if may_wait then min n STREAM_BYTES
    else 1

-- at most n bytes are to be read where so many are held
unfoldable pub take_ruling : ℕ → Bool → ℕ → Ruling
take_ruling count unwritten n =
    if n == 0 then Goes 0
    else if not (count == 0) then Goes (min n count)
    else if unwritten then Goes 0
    else Waits

-- a letter of n bytes is to be put where so many are held
unfoldable pub post_ruling : ℕ → ℕ → Ruling
post_ruling count n =
    if nat_le LETTERS count then Waits
    else Goes n

-- a letter is to be taken where so many are held
unfoldable pub fetch_ruling : ℕ → Ruling
fetch_ruling count =
    if count == 0 then Waits
    else Goes 0

-- a write of n bytes to a pipe
abbrev pub pipe_put_ruling : Track ℕ → Bool → ℕ → Ruling
pipe_put_ruling t may_wait n = put_ruling t.reading_shut (room t) (least_of_pipe may_wait n) n

-- a read of at most n bytes from a pipe
abbrev pub pipe_take_ruling : Track ℕ → ℕ → Ruling
pipe_take_ruling t n = take_ruling (length (held t)) t.writing_shut n

-- what a poll tells of the end of a pipe that is read from
abbrev pub pipe_reading : Track ℕ → Ready
pipe_reading t = record { readable = not (length (held t) == 0); writable = false; error = false; hangup = t.writing_shut }

-- what a poll tells of the end of a pipe that is written to
abbrev pub pipe_writing : Track ℕ → Ready
pipe_writing t = record { readable = false; writable = nat_le PIPE_WHOLE (room t); error = t.reading_shut; hangup = false }
