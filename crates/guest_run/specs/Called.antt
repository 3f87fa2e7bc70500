-- What becomes of a call that is made over a link.
use Rattle.std.specs.Prelude.{◌≡◌, List, Some}
use Rattle.sp_base.specs.declared.call.Call.{Call}
use Rattle.sp_base.specs.declared.names.Answer.{Answer}
use Rattle.sp_copy.specs.declared.part.Part.{Part}
use Rattle.link_model.specs.Asked.{Asked, IsClosed, IsPerformed, IsWholeAgain, Stays, direct_of, journal_before}
use Rattle.link_model.specs.Link.{Link}
use Rattle.guest_run.specs.Joined.{link_of}
use Rattle.guest_run.specs.declared.calling.Called.{Called}
use Rattle.guest_run.specs.declared.calling.Called.TheVariants.{Answered, Refused}
use Rattle.guest_run.specs.declared.joined.Joined.{Joined}

-- a call is asked over the link of a client and its server, with its caller's memory
pub record IsAskedOver (joined : Joined) (call : Call) (mem : List Part) (asked : Asked) : Type 0 where
  pub over : asked.link ≡ link_of joined
  pub makes : asked.call ≡ call
  pub lends : asked.mem ≡ mem

-- the call is answered as the kernel answers it at once, and has the one entry more; the server's cookies are as they were, and no
-- connection opened; the link is whole again, and the request closed
pub record IsAnsweredOver (asked : Asked) (answer : Answer) (mem : List Part) (link : Link) : Type 0 where
  pub direct : direct_of asked ≡ Some (answer, mem)
  pub performed : IsPerformed asked link.server.journal
  pub cookies : link.server.cookies ≡ asked.link.server.cookies
  pub stays : Stays asked link
  pub whole : IsWholeAgain asked link
  pub closed : IsClosed asked link

-- the call is answered over the link; or the server refuses it, and the journal is as it was
abbrev pub Becomes : Asked → Called → Link → Type 0
Becomes asked (Answered answer mem) link = IsAnsweredOver asked answer mem link
Becomes asked Refused link = link.server.journal ≡ journal_before asked
