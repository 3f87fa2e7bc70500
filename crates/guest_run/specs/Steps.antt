-- How a request is brought on over a link.
use Rattle.std.specs.Prelude.{◌≡◌, Bool, true, false, List, Some}
use Rattle.sp_base.specs.declared.names.ReqNo.{ReqNo}
use Rattle.kern_model.specs.declared.journal.Entry.{Entry}
use Rattle.hub_model.specs.declared.event.Reply.TheVariants.{Done}
use Rattle.link_model.specs.Link.{Link, carried, made}
use Rattle.link_model.specs.declared.moves.Move.{Move}
use Rattle.link_model.specs.declared.moves.Move.TheVariants.{Work}

-- after some moves the journal is this one, and the request would be performed there, were there memory for it
pub record IsRefused (link : Link) (r : ReqNo) (journal : List Entry) : Type 0 where
  pub moves : List Move
  pub same : journal ≡ (carried link moves).server.journal
  pub ready : (made (carried link moves) (Work r)).server ≡ Some Done

-- a request goes on by these moves; or the server refuses it on the way
abbrev pub GoesOn : Bool → Link → ReqNo → List Move → Link → Type 0
GoesOn true old r moves new = new ≡ carried old moves
GoesOn false old r moves new = IsRefused old r new.server.journal
