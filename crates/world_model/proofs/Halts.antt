-- The server halts, where no client may send anything any more.
use Rattle.std.proofs.Common.{◌≡◌, inl, inr, ℕ, Bool, true, false, cond, ◌||◌, List, [], ◌∷◌, Option, Some, None, refl, sym, ap, ◌∙◌, subst}
use Rattle.std.specs.Prelude.{not}
use Rattle.std.specs.Ordering.{nat_cmp}
use Rattle.std.specs.FinMap.{entries, find, get, get-entries}
use Rattle.std.specs.BTreeMap.{is_at}
use Rattle.std.specs.List.{list_any}
use Rattle.sp_base.specs.declared.names.ConnNo.{ConnNo}
use Rattle.hub_model.specs.Machine.{any_speaks}
use Rattle.hub_model.specs.Machine as server
use Rattle.hub_model.specs.Run.{Exchange}
use Rattle.hub_model.specs.Sound.{IsSound}
use Rattle.hub_model.specs.State.{Connection, Machine, is_draining, speaks}
use Rattle.hub_model.specs.State as server_state
use Rattle.hub_model.specs.declared.event.Event.TheVariants as server_event
use Rattle.hub_model.specs.declared.event.Reply.{Reply as ServerReply}
use Rattle.hub_model.specs.declared.event.Reply.TheVariants as server_reply
use Rattle.hub_model.proofs.Sound.{plays_sound}
use Rattle.hub_law.proofs.Keys.{grows_same}
use Rattle.world_model.specs.Machine.{server_plays}
use Rattle.world_model.specs.Once.{IsFine, lost_on}
use Rattle.world_model.specs.Run.{History, Item, step}
use Rattle.world_model.specs.declared.event.Event.TheVariants as event
use Rattle.world_model.specs.declared.event.Reply.TheVariants as reply
use Rattle.world_model.proofs.Kept.{Kept, LostWhereBroken, logged}
use Rattle.world_model.proofs.Lane.{Lane}
use Rattle.world_model.proofs.Lane.Lane.{Absent, Alive, Broken, Closed}
use Rattle.world_model.proofs.Order.{order_step}
use Rattle.world_model.proofs.Slices.{quiet_lane}

-- ---- no connection speaks

neither : (a b : Bool) → (a || b) ≡ false → (a ≡ false) × (b ≡ false)
neither true b h = absurd (cc)
neither false b h = (refl, h)

-- what passes a test stands in no map where nothing does
none_found : {V : Type 0} (test : V → Bool) (es : List (ℕ × V)) (q : ℕ) (v : V) → find nat_cmp q es ≡ Some v → list_any (λ e. test e.1) es ≡ false
    → test v ≡ false
none_found test [] q v found none = absurd (cc)
none_found {V = V} test (e ∷ es) q v found none =
    let both = neither (test e.1) (list_any (λ e. test e.1) es) none in
    by_key (is_at (nat_cmp q) e.0) found both.0 (λ later. none_found test es q v later both.1)
  where
    by_key : (b : Bool) → cond {A = Option V} b (Some e.1) (find nat_cmp q es) ≡ Some v → test e.1 ≡ false → (find nat_cmp q es ≡ Some v → test v ≡ false)
        → test v ≡ false
    by_key true here fails rest = let same : e.1 ≡ v = cc in subst (λ (w : V). test w ≡ false) same fails
    by_key false later fails rest = rest later

-- where none speaks, each connection takes nothing more
none_speaks : (m : Machine) (c : ℕ) (x : Connection) → get m.connections c ≡ Some x → any_speaks m ≡ false → is_draining x.condition ≡ false → ⊥
none_speaks m c x there quiet speaking =
    let silent : speaks x.condition ≡ false =
    none_found (λ (y : Connection). speaks y.condition) (entries m.connections) c x (sym (get-entries m.connections c) ∙ there) quiet in
    let k : true ≡ false = sym (ap not speaking) ∙ silent in cc

-- ---- a history holds on, where the server is asked to halt

module _ (h : History) (kept : Kept h) (halted : Bool) (answer : ServerReply) (fine : IsFine (reply.Server answer))
    (sound : IsSound (record h.world.rump { halted = halted }))
    (lanes : (d : ConnNo) → Lane d h.world.rump.opened halted (get h.world.clients d.0) (get h.world.links d.0)
    (get h.world.rump.connections d.0) h.log h.world.rump.journal) where
  abbrev item : Item
  item = record { event = event.Halt; reply = reply.Server answer }

  holds_on : (exchanges : List Exchange)
      → Kept (record { world = (server_plays h.world (answer, record h.world.rump { halted = halted })).1; log = item ∷ h.log; exchanges = exchanges })
  holds_on exchanges = record {
    sound = sound;
    lanes = λ d. quiet_lane d h.world.rump.opened halted (get h.world.clients d.0) (get h.world.links d.0)
        (get h.world.rump.connections d.0) item h.log h.world.rump.journal
        (record { asks = λ n. refl; tells = λ n. refl }) (lanes d);
    fine = (fine, kept.fine);
    lost = lost_before;
    after = order_step h
        (record { world = (server_plays h.world (answer, record h.world.rump { halted = halted })).1; log = item ∷ h.log; exchanges = exchanges }) item refl
        (record {
          stays = λ p e there. there;
          closed = λ d r told there. grows_same d r h.world.rump.journal;
          news = λ d r ask there. absurd there;
        }) kept.after;
  }
    where
      lost_before : LostWhereBroken (server_plays h.world (answer, record h.world.rump { halted = halted })).1 (item ∷ h.log)
      lost_before other d (inl e) is = absurd (let k : None ≡ Some d = ap (λ (i : Item). lost_on i.event i.reply) e ∙ is in cc)
      lost_before other d (inr there) is = kept.lost other d there is

module _ (h : History) (kept : Kept h) where
  -- where no connection speaks, each lane is as it was once the server has halted
  lane_halts : any_speaks h.world.rump ≡ false → (d : ConnNo)
      → Lane d h.world.rump.opened h.world.rump.halted (get h.world.clients d.0) (get h.world.links d.0)
      (get h.world.rump.connections d.0) h.log h.world.rump.journal
      → Lane d h.world.rump.opened true (get h.world.clients d.0) (get h.world.links d.0) (get h.world.rump.connections d.0) h.log h.world.rump.journal
  lane_halts quiet d (Absent no_client no_link no_connection over none_asked) = Absent no_client no_link no_connection over none_asked
  lane_halts quiet d (Alive k l x client link there o runs speaks) = absurd (none_speaks h.world.rump d.0 x there quiet speaks.takes)
  lane_halts quiet d (Broken k l client link no_connection o gone down broke left) = Broken k l client link no_connection o gone down broke left
  lane_halts quiet d (Closed l no_client link no_connection o none over) = Closed l no_client link no_connection o none over

  -- what is played comes to a history that holds
  abbrev Holds : List Exchange → server_state.Played → Type 0
  Holds exchanges p = IsSound p.1
      → Kept (record { world = (server_plays h.world p).1; log = logged event.Halt (server_plays h.world p) h.log; exchanges = exchanges })

  by_speaking : (exchanges : List Exchange) (b : Bool) → any_speaks h.world.rump ≡ b
      → Holds exchanges (cond {A = server_state.Played} b (server_reply.NotQuiet, h.world.rump) (server_reply.Closed, record h.world.rump { halted = true }))
  by_speaking exchanges true some = λ sound. holds_on h kept h.world.rump.halted server_reply.NotQuiet tt sound kept.lanes exchanges
  by_speaking exchanges false none = λ sound. holds_on h kept true server_reply.Closed tt sound (λ d. lane_halts none d (kept.lanes d)) exchanges

  by_halted : (exchanges : List Exchange) (b : Bool)
      → Holds exchanges (cond {A = server_state.Played} b (server_reply.Closed, h.world.rump) (server.halt h.world.rump))
  by_halted exchanges true = λ sound. holds_on h kept h.world.rump.halted server_reply.Closed tt sound kept.lanes exchanges
  by_halted exchanges false = by_speaking exchanges (any_speaks h.world.rump) refl

  -- a history holds on where the server is asked to halt
  pub halt_kept : (memory : Bool) → Kept (step h (record { happens = event.Halt; memory = memory }))
  halt_kept memory =
      by_halted (step h (record { happens = event.Halt; memory = memory })).exchanges h.world.rump.halted
      (plays_sound h.world.rump (server.played true h.world.rump server_event.Halt).1 server_event.Halt
      (server.played true h.world.rump server_event.Halt).0 kept.sound (inl (true, refl)))
