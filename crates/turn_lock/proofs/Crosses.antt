-- Which types may cross threads.
use denote.RattleType.{RattleType}
use denote.Param.Send.{IsSend, IsSync, Frees, sendable}
use Rattle.std.specs.declared.alloc.Allocator
use Rattle.std.proofs.Crossing as heap
use Rattle.std.specs.contracts.sync.Arc as Arc
use Rattle.std.specs.contracts.alloc.Global as Heap
use Rattle.std.specs.contracts.impls.GlobalAllocator.TheImpl as global
use mir.Syntax.{Dict}
use Rattle.std.specs.contracts.snapshot.Snapshot as Snapshot
use Rattle.turn_lock.specs.contracts.rule.LockRule as LockRule
use Rattle.turn_lock.specs.contracts.rule.LockRuleTableRuleSlotEventReplyViewEventReplySnapshot.TheImpl as rule
use Rattle.atomic_table.specs.declared.shared.TableRule
use Rattle.sp_base.specs.declared.object.Object.{Ghosts}
use Rattle.turn_lock.specs.contracts.view.Slot as Slot
use Rattle.turn_lock.specs.contracts.view.View as View
use Rattle.turn_lock.specs.contracts.turn.Pass as Pass
use Rattle.turn_lock.specs.contracts.turn.Turn as Turn
use Rattle.atomic_table.specs.contracts.owned.Table as Table
use Rattle.atomic_table.proofs.shared.Seat.TheSendSync as seat
use Rattle.atomic_table.proofs.shared.Shared.TheSendSync as shared
use Rattle.atomic_table.proofs.send_lease.SendLease.TheSendSync as lease

pub slot_send : (O E R : RattleType) → IsSend O → IsSend (Slot.the_row O E R)
slot_send O E R s = search sendable depth 20

pub pass_send : (O E R : RattleType) (g : Ghosts O.Denot E.Denot R.Denot) → IsSend O → IsSend (Pass.the_row O E R g)
pass_send O E R g s = let a = seat.the_send (Slot.the_row O E R) (View.the_row O E R) (slot_send O E R s) in search sendable depth 20

module _ (S V K P A : RattleType) (r : TableRule.Ghosts P.Denot S.Denot V.Denot K.Denot) (h : Allocator.Ghosts A.Denot) where
  pub field_send : IsSend S → IsSend A → Frees h h.dealloc_token → IsSend (Table.the_field S V K P A r h).row
  field_send s a f = let b = shared.the_send S V K P r s in search (sendable, lease.the_send) depth 20

  pub field_sync : IsSend S → IsSend A → IsSync A → Frees h h.dealloc_token → IsSync (Table.the_field S V K P A r h).row
  field_sync s a y f = let b = shared.the_sync S V K P r s in search (sendable, lease.the_sync) depth 20

module _ (O E R : RattleType) (g : Ghosts O.Denot E.Denot R.Denot) where
  place_send : IsSend O → (a b c d : Dict) → IsSend (Table.the_field (Slot.the_row O E R) (View.the_row O E R) (Snapshot.the_row O) (LockRule.the_row O) Heap.the_row (rule.ghosts O E R g a b c d) global.ghosts).row
  place_send s a b c d = field_send (Slot.the_row O E R) (View.the_row O E R) (Snapshot.the_row O) (LockRule.the_row O) Heap.the_row (rule.ghosts O E R g a b c d) global.ghosts (slot_send O E R s) heap.send heap.frees

  place_sync : IsSend O → (a b c d : Dict) → IsSync (Table.the_field (Slot.the_row O E R) (View.the_row O E R) (Snapshot.the_row O) (LockRule.the_row O) Heap.the_row (rule.ghosts O E R g a b c d) global.ghosts).row
  place_sync s a b c d = field_sync (Slot.the_row O E R) (View.the_row O E R) (Snapshot.the_row O) (LockRule.the_row O) Heap.the_row (rule.ghosts O E R g a b c d) global.ghosts (slot_send O E R s) heap.send heap.sync heap.frees

  pub turn_send : IsSend O → IsSend (Turn.the_row O E R g)
  turn_send s = search (sendable, place_send, heap.crosses) depth 20

  pub turn_sync : IsSend O → IsSync (Turn.the_row O E R g)
  turn_sync s = search (sendable, place_sync, heap.crosses) depth 20

  -- as a field of another struct
  pub pass_field_send : IsSend O → IsSend (Pass.the_field O E R g).row
  pass_field_send s = let a = seat.the_send (Slot.the_row O E R) (View.the_row O E R) (slot_send O E R s) in search sendable depth 20

  pub arc_send : IsSend O → IsSend (Arc.the_row (Turn.the_row O E R g) Heap.the_row global.ghosts)
  arc_send s = heap.Arc-send (Turn.the_row O E R g) (turn_send s) (turn_sync s)

  pub arc_field_send : IsSend O → IsSend (Arc.the_field (Turn.the_row O E R g) Heap.the_row global.ghosts).row
  arc_field_send s = let a = arc_send s in search sendable depth 20
