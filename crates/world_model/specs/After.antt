-- What is asked for after an answer came is performed after it.
use Rattle.std.specs.Prelude.{◌≡◌, ◌<◌, ℕ, List, ◌++◌}
use Rattle.sp_base.specs.declared.names.Answer.{Answer}
use Rattle.sp_base.specs.declared.names.ConnNo.{ConnNo}
use Rattle.sp_base.specs.declared.names.ReqNo.{ReqNo}
use Rattle.sp_copy.specs.declared.part.Part.{Part}
use Rattle.kern_model.specs.declared.journal.Entry.{Entry}
use Rattle.hub_law.specs.Serves.{StandsAt}
use Rattle.client_model.specs.declared.event.Reply.{Reply as ClientReply}
use Rattle.world_model.specs.Log.{Ask, IsIn, asked, told}
use Rattle.world_model.specs.Run.{History, Item}
use Rattle.world_model.specs.declared.event.Reply.TheVariants as reply

-- where a request was closed before another one was asked for, and both have entries in the rump kernel's journal, the entry of the first
-- stands before that of the second; over one connection or two, of one guest or two
abbrev pub HappensAfter : History → Type 0
HappensAfter h = (later earlier : List Item) → h.log ≡ later ++ earlier
    → (c d : ConnNo) (r q : ReqNo) (answer : ClientReply) (ask : Ask) (p place : ℕ) (e f : Entry)
    → IsIn answer (told c r.0 earlier) → IsIn ask (asked d q.0 later)
    → StandsAt h.world.rump.journal c r p e → StandsAt h.world.rump.journal d q place f → p < place

-- where the host's kernel answered before another operation was asked of it, the first one's entry stands before the second one's
abbrev pub HostedAfter : History → Type 0
HostedAfter h = (later earlier : List Item) → h.log ≡ later ++ earlier
    → (item next : Item) (answer told : Answer) (mem back : List Part) → IsIn item earlier → IsIn next later
    → item.reply ≡ reply.Hosted answer mem → next.reply ≡ reply.Hosted told back → answer.place.0 < told.place.0
