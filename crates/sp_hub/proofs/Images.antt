-- How a process goes on as its next program, over another connection.
use Rattle.std.proofs.Common.{◌≡◌, ◌≢◌, inl, inr, ℕ, [], ◌∷◌, ◌++◌, length, Option, None, Some, IsSome, IsTrue, refl, sym, ap, subst, ◌∙◌}
use Rattle.std.specs.Cmp.{nat_cmp_total}
use Rattle.std.specs.FinMap.{FinMap, get, insert, nat_cmp-IsAntisymmetric, same_map}
use Rattle.std.specs.Ordering.{nat_cmp}
use Rattle.sp_base.specs.Table.{at}
use Rattle.sp_base.specs.declared.names.ConnNo.{ConnNo}
use Rattle.sp_base.specs.declared.names.Cookie.{Cookie}
use Rattle.sp_frames.specs.declared.frame.Frame.{Frame}
use Rattle.sp_fork.specs.Jar.{redeemable}
use Rattle.sp_fork.specs.declared.unused.CookieKind.TheVariants as kind
use Rattle.sp_fork.specs.declared.unused.Unused.{Unused}
use Rattle.kern_model.specs.Journal.{next_entry, state_after}
use Rattle.kern_model.specs.declared.journal.Entry.{Entry}
use Rattle.kern_model.specs.declared.journal.Who.TheVariants.{Request}
use Rattle.kern_model.specs.declared.operation.Op.TheVariants.{Exec}
use Rattle.hub_model.specs.Journal.{nothing_read}
use Rattle.hub_model.specs.Frames.{imaged}
use Rattle.hub_model.specs.Requests.{image, image_by, left_at, left_over, redeemed, speaking}
use Rattle.hub_model.specs.Sound.{IsSound}
use Rattle.hub_model.specs.State.{Connection, Machine, speaks, with_connection}
use Rattle.hub_model.specs.declared.handover.Handover.TheVariants.{Imaged}
use Rattle.hub_model.specs.declared.state.Condition.TheVariants as condition
use Rattle.hub_model.proofs.Keeps.{exec_waits}
use Rattle.hub_model.proofs.Ledgers.{redeemable_is}
use Rattle.tables.proofs.Maps.{get_put, get_put_other, same_or_not}
use Rattle.sp_hub.specs.Handing.{TakesOver}

-- what is put at two numbers can be put in either order
put_apart : {V : Type 0} (m : FinMap nat_cmp V) (a b : ℕ) (x y : V) → a ≢ b → insert (insert m a x) b y ≡ insert (insert m b y) a x
put_apart m a b x y ne = same_map nat_cmp_total nat_cmp-IsAntisymmetric _ _ (λ q.
    elim (same_or_not q a) [
      | inl e ↦ subst (λ (k : ℕ). get (insert (insert m a x) b y) k ≡ get (insert (insert m b y) a x) k) (sym e)
          (get_put_other (insert m a x) b y a ne ∙ (get_put m a x ∙ sym (get_put (insert m b y) a x)))
      | inr na ↦ elim (same_or_not q b) [
        | inl e ↦ subst (λ (k : ℕ). get (insert (insert m a x) b y) k ≡ get (insert (insert m b y) a x) k) (sym e)
            (get_put (insert m a x) b y ∙ sym (get_put_other (insert m b y) a x b (λ e. ne (sym e)) ∙ get_put m b y))
        | inr nb ↦ get_put_other (insert m a x) b y q nb ∙ (get_put_other m a x q na ∙ sym (get_put_other (insert m b y) a x q na ∙ get_put_other m b y q nb))
      ]
    ])

-- the connection that made an exec cookie waits, and isn't the one whose handshake it is
record Maker (m : Machine) (c : ConnNo) (u : Unused) : Type 0 where
  connection : Connection
  here : get m.connections u.maker.0 ≡ Some connection
  exec : connection.condition ≡ condition.InExec u.pid
  other : u.maker.0 ≢ c.0

fresh_is_other : (x y : Connection) (u : Unused) → Some y ≡ Some x → x.condition ≡ condition.Fresh → y.condition ≡ condition.InExec u.pid → ⊥
fresh_is_other x y u same fresh exec =
    let is : y ≡ x = cc in
    let clash : condition.InExec u.pid ≡ condition.Fresh = sym exec ∙ (ap (λ (z : Connection). z.condition) is ∙ fresh) in cc

module _ (m : Machine) (c : ConnNo) (x : Connection) (f : Frame) (cookie : Cookie) (u : Unused) (sound : IsSound m) (here : get m.connections c.0 ≡ Some x)
    (fresh : x.condition ≡ condition.Fresh) (there : redeemable m.cookies cookie kind.Exec ≡ Some u) where
  maker : Maker m c u
  maker =
      let is = redeemable_is m.cookies cookie kind.Exec u there in
      let waits = exec_waits m u u.kind is.1 (sound.cookies cookie.number u is.0).waits in record {
        connection = waits.0;
        here = waits.1;
        exec = waits.2;
        other = λ same. fresh_is_other x waits.0 u (sym waits.1 ∙ (ap (λ (k : ℕ). get m.connections k) same ∙ here)) fresh waits.2;
      }

  -- its maker still speaks once the process has gone on
  maker_speaks : (m' : Machine) (next : Option Entry) → TakesOver m c x f cookie u.pid next m' → (y : Connection) → get m'.connections u.maker.0 ≡ Some y → IsTrue (speaks y.condition)
  maker_speaks m' None takes y at_maker = absurd takes
  maker_speaks m' (Some e) takes y at_maker =
      let before = ap (λ (n : Machine). get n.connections u.maker.0) takes ∙ (get_put_other m.connections c.0 _ u.maker.0 maker.other ∙ maker.here) in
      let is : y ≡ maker.connection = (let e = sym at_maker ∙ before in cc) in
      ap (λ (z : Connection). speaks z.condition) is ∙ ap speaks maker.exec

  abbrev base : Entry → Machine
  base e = record (redeemed m cookie kind.Exec) { journal = m.journal ++ e ∷ []; handovers = Imaged c cookie.number ∷ m.handovers }

  -- the process goes on, and then its maker is left
  both_are : (m' : Machine) (next : Option Entry) → TakesOver m c x f cookie u.pid next m' → left_at m' u.maker (get m'.connections u.maker.0) ≡ (image_by m c x f cookie u next).1
  both_are m' None takes = absurd takes
  both_are m' (Some e) takes =
      let after = speaking x f u.pid (imaged f.number u.pid (length m.journal)) in
      let left = left_over maker.connection in
      ap (λ (n : Machine). left_at n u.maker (get n.connections u.maker.0)) takes
      ∙ (ap (left_at (with_connection (base e) c after) u.maker) (get_put_other m.connections c.0 after u.maker.0 maker.other ∙ maker.here)
      ∙ (ap (λ (k : FinMap nat_cmp Connection). record (base e) { connections = k }) (put_apart m.connections c.0 u.maker.0 after left (λ e. maker.other (sym e)))
      ∙ ap (λ (o : Option Connection). with_connection (left_at (base e) u.maker o) c after) (sym maker.here)))

-- a fresh connection still speaks
pub fresh_speaks : (x : Connection) → x.condition ≡ condition.Fresh → IsTrue (speaks x.condition)
fresh_speaks x fresh = ap speaks fresh

-- the process of an exec cookie is live
pub image_live : (m : Machine) (cookie : Cookie) (u : Unused) → IsSound m → redeemable m.cookies cookie kind.Exec ≡ Some u → IsSome (at (state_after m.journal).processes u.pid.0)
image_live m cookie u sound there = (sound.cookies cookie.number u (redeemable_is m.cookies cookie kind.Exec u there).0).process

speaks_by : (m m' : Machine) (c : ConnNo) (f : Frame) (cookie : Cookie) (u : Unused) (next : Option Entry) (o : Option Connection) → get m.connections c.0 ≡ o → IsSome o → IsSound m
    → ((x : Connection) → get m.connections c.0 ≡ Some x → x.condition ≡ condition.Fresh) → redeemable m.cookies cookie kind.Exec ≡ Some u
    → ((x : Connection) → get m.connections c.0 ≡ Some x → TakesOver m c x f cookie u.pid next m') → (y : Connection) → get m'.connections u.maker.0 ≡ Some y → IsTrue (speaks y.condition)
speaks_by m m' c f cookie u next None is some sound fresh there takes = absurd cc
speaks_by m m' c f cookie u next (Some x) is some sound fresh there takes = maker_speaks m c x f cookie u sound is (fresh x is) there m' next (takes x is)

-- the connection that made the cookie still speaks
pub image_speaks : (m m' : Machine) (c : ConnNo) (f : Frame) (cookie : Cookie) (u : Unused) (next : Option Entry) → IsSome (get m.connections c.0) → IsSound m
    → ((x : Connection) → get m.connections c.0 ≡ Some x → x.condition ≡ condition.Fresh) → redeemable m.cookies cookie kind.Exec ≡ Some u
    → ((x : Connection) → get m.connections c.0 ≡ Some x → TakesOver m c x f cookie u.pid next m') → (y : Connection) → get m'.connections u.maker.0 ≡ Some y → IsTrue (speaks y.condition)
image_speaks m m' c f cookie u next there = speaks_by m m' c f cookie u next (get m.connections c.0) refl there

-- a process has gone on as its next program
pub image_is : (m m' : Machine) (c : ConnNo) (x : Connection) (f : Frame) (cookie : Cookie) (u : Unused) → IsSound m → get m.connections c.0 ≡ Some x → x.condition ≡ condition.Fresh
    → redeemable m.cookies cookie kind.Exec ≡ Some u → TakesOver m c x f cookie u.pid (next_entry m.journal u.pid (Request c f.number) Exec nothing_read) m'
    → left_at m' u.maker (get m'.connections u.maker.0) ≡ (image m c x f cookie (redeemable m.cookies cookie kind.Exec)).1
image_is m m' c x f cookie u sound here fresh there takes =
    both_are m c x f cookie u sound here fresh there m' (next_entry m.journal u.pid (Request c f.number) Exec nothing_read) takes
    ∙ ap (λ (o : Option Unused). (image m c x f cookie o).1) (sym there)
