-- The client hands out its oldest frame: what is under way stays the same.
use Rattle.std.proofs.Common.{◌≡◌, Bool, List, [], ◌∷◌, ◌++◌, refl, sym, ap, ◌∙◌, subst, append_assoc}
use Rattle.std.specs.FinMap.{insert}
use Rattle.sp_base.specs.declared.names.ConnNo.{ConnNo}
use Rattle.sp_frames.specs.declared.frame.Frame.{Frame}
use Rattle.tables.proofs.Maps.{get_put, get_put_other}
use Rattle.hub_model.specs.State.{Connection}
use Rattle.hub_law.specs.Frames.{numbered}
use Rattle.client_model.specs.State.{Client}
use Rattle.client_model.proofs.Steps.{take_cases}
use Rattle.world_model.specs.Machine.{from_client, played}
use Rattle.world_model.specs.Run.{History, Item}
use Rattle.world_model.specs.State.{Link, faults_of}
use Rattle.world_model.specs.declared.event.Event.{Event}
use Rattle.world_model.specs.declared.event.Event.TheVariants as event
use Rattle.world_model.specs.declared.event.Reply.TheVariants as reply
use Rattle.world_model.proofs.Kept.{Goes, IsQuietFor, Kept}
use Rattle.world_model.proofs.Lane.{Rises, Speaks, slice_of}
use Rattle.world_model.proofs.Lane.Lane.{Alive, Broken}
use Rattle.world_model.proofs.Plays.{IsAlive, IsBroken, lane_goes, moves_goes}
use Rattle.world_model.proofs.Slices.{quiet_left, quiet_speaks, rests_goes, stands_same}

module _ (memory : Bool) (h : History) (c : ConnNo) (kept : Kept h) where
  abbrev happens : Event
  happens = event.FromClient c

  -- there was no frame
  nothing_goes : Goes h c happens (reply.Nothing, h.world)
  nothing_goes = rests_goes h c happens reply.Nothing kept (record {
    quiet = λ d. record { asks = λ n. refl; tells = λ n. refl };
    fine = tt;
    lost = λ d e. absurd (cc);
  })

  abbrev item : Item
  item = record { event = happens; reply = reply.Moved }

  quiet : (d : ConnNo) → IsQuietFor d item
  quiet d = record { asks = λ n. refl; tells = λ n. refl }

  -- ---- a frame is handed out

  module _ (k : Client) (l : Link) (f : Frame) (queue : List Frame) (queued : k.queue ≡ f ∷ queue) where
    abbrev handed : Client
    handed = record k { queue = queue }

    abbrev longer : Link
    longer = record l { up = l.up ++ f ∷ [] }

    up_is : longer.up ++ queue ≡ l.up ++ k.queue
    up_is = append_assoc l.up (f ∷ []) queue ∙ ap (λ (fs : List Frame). l.up ++ fs) (sym queued)

    speaks_on : (x : Connection) → IsAlive h c k l x → Speaks c handed longer x (item ∷ h.log) h.world.rump.journal
    speaks_on x alive =
        let s = quiet_speaks c k l x item h.log h.world.rump.journal (quiet c) alive.speaks in
        record {
          each = λ n. stands_same h.world.rump.journal c n (slice_of c n k l x (item ∷ h.log)) (slice_of c n handed longer x (item ∷ h.log))
              (record { asked = refl; told = refl; request = refl; up = ap (λ (fs : List Frame). numbered n fs) up_is; task = refl; down = refl }) (s.each n);
          above = s.above;
          rises = subst (λ (fs : List Frame). Rises x.last fs k.last) (sym up_is) s.rises;
          goes_on = s.goes_on;
          takes = s.takes;
          begins = s.begins;
          ready = s.ready;
          first = s.first;
          welcome = s.welcome;
        }

    alive_out : (x : Connection) → IsAlive h c k l x
        → Goes h c happens (reply.Moved, record h.world { clients = insert h.world.clients c.0 handed; links = insert h.world.links c.0 longer })
    alive_out x alive = moves_goes h c happens reply.Moved (insert h.world.clients c.0 handed) (insert h.world.links c.0 longer) (record {
      clients = λ d ne. get_put_other h.world.clients c.0 handed d ne;
      links = λ d ne. get_put_other h.world.links c.0 longer d ne;
      faults = ap faults_of (get_put h.world.links c.0 longer) ∙ sym (ap faults_of alive.link);
      quiet = λ d ne. quiet d;
      news = λ n a is. absurd is;
      lane = Alive handed longer x (get_put h.world.clients c.0 handed) (get_put h.world.links c.0 longer) alive.there alive.opened alive.runs
          (speaks_on x alive);
      fine = tt;
      lost = λ d e. absurd (cc);
    })

    broken_out : IsBroken h c k l
        → Goes h c happens (reply.Moved, record h.world { clients = insert h.world.clients c.0 handed; links = insert h.world.links c.0 longer })
    broken_out broken = moves_goes h c happens reply.Moved (insert h.world.clients c.0 handed) (insert h.world.links c.0 longer) (record {
      clients = λ d ne. get_put_other h.world.clients c.0 handed d ne;
      links = λ d ne. get_put_other h.world.links c.0 longer d ne;
      faults = ap faults_of (get_put h.world.links c.0 longer) ∙ sym (ap faults_of broken.link);
      quiet = λ d ne. quiet d;
      news = λ n a is. absurd is;
      lane = Broken handed longer (get_put h.world.clients c.0 handed) (get_put h.world.links c.0 longer)
          broken.over broken.opened broken.gone broken.down broken.broke
          (quiet_left c k item h.log h.world.rump.journal (quiet c) broken.left);
      fine = tt;
      lost = λ d e. absurd (cc);
    })

  -- the client hands out its oldest frame
  pub from_client_goes : Goes h c happens (played memory h.world happens)
  from_client_goes = lane_goes memory h c happens kept (record {
    alive = λ k l x alive. take_cases (λ p. Goes h c happens (from_client h.world c l p)) k (record {
      nothing = nothing_goes;
      out = λ f queue queued. alive_out k l f queue queued x alive;
    });
    broken = λ k l broken. take_cases (λ p. Goes h c happens (from_client h.world c l p)) k (record {
      nothing = nothing_goes;
      out = λ f queue queued. broken_out k l f queue queued broken;
    });
  })
