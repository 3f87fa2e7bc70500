-- The laws of reading and writing.
use Rattle.std.specs.Prelude.{◌≡◌, ℕ, ◌+◌, ◌-◌, ◌<◌, ◌≤◌, List, [], ◌∷◌, Some, IsSome, slice_index}
use Rattle.sp_base.specs.Needs.{transfer_of}
use Rattle.sp_base.specs.Table.{at}
use Rattle.sp_base.specs.declared.call.Call.{Call}
use Rattle.sp_base.specs.declared.call.Call.TheVariants as call
use Rattle.kern_model.specs.declared.node.Object.TheVariants as object
use Rattle.kern_model.specs.declared.node.OpenFile.{OpenFile}
use Rattle.kern_model.specs.declared.node.Row.{Row}
use Rattle.kern_model.specs.declared.operation.Ins.TheVariants.{Given}
use Rattle.kern_model.specs.declared.operation.Op.TheVariants.{Sys}
use Rattle.kern_model.specs.declared.outcome.OutPiece.{OutPiece}
use Rattle.kern_model.specs.declared.outcome.Outcome.{Outcome}
use Rattle.kern_model.specs.State.{State, rows_of}
use Rattle.kern_model.specs.Files.{write_start}
use Rattle.kern_model.specs.Laws.{Gives}

-- a descriptor of a process is of this open file of this node, which is there
pub record IsOpen (s : State) (pid fd : ℕ) (file : OpenFile) (node : ℕ) : Type 0 where
  pub row : Row
  pub has_row : at (rows_of s pid) fd ≡ Some row
  pub has_file : at s.files row.file ≡ Some file
  pub of : file.object ≡ object.Node node
  pub has_node : IsSome (at s.nodes node)

-- a call writes to a node of which a descriptor is open, from an offset on
abbrev pub WritesAt : State → ℕ → Call → ℕ → ℕ → Type 0
WritesAt s pid (call.Write fd input len) node start = (file : OpenFile) × IsOpen s pid fd file node × (start ≡ write_start s node file)
WritesAt s pid (call.Pwrite fd input len offset) node start = (file : OpenFile) × IsOpen s pid fd file node × (start ≡ offset)
WritesAt s pid _ node start = ⊥

-- a call reads as many bytes of a node of which a descriptor is open, from an offset on
abbrev pub ReadsAt : State → ℕ → Call → ℕ → ℕ → ℕ → Type 0
ReadsAt s pid (call.Read fd out asked) node start len = (file : OpenFile) × IsOpen s pid fd file node × (start ≡ file.offset) × (len ≡ transfer_of asked)
ReadsAt s pid (call.Pread fd out asked offset) node start len = (file : OpenFile) × IsOpen s pid fd file node × (start ≡ offset) × (len ≡ transfer_of asked)
ReadsAt s pid _ node start len = ⊥

-- the bytes that an outcome gives the caller, where they are one piece
abbrev pub given_bytes : List OutPiece → List ℕ
given_bytes [] = []
given_bytes (piece ∷ pieces) = piece.bytes

-- a byte of the outcome is there, and is this one of those that were written
pub record IsByte (outcome : Outcome) (k : ℕ) (written : List ℕ) (j : ℕ) : Type 0 where
  pub there : k < outcome.ret0
  pub same : slice_index (given_bytes outcome.outs) k ≡ slice_index written j

-- what a write wrote is what a read of the same node gives, at each offset that both are of
abbrev pub WrittenIsRead : Type 0
WrittenIsRead = (s t u : State) (pid reader : ℕ) (write read : Call) (node start offset len : ℕ) (bytes : List ℕ) (wrote seen : Outcome)
    → WritesAt s pid write node start → Gives s pid (Sys write) (Given (bytes ∷ [])) wrote t → wrote.err ≡ 0
    → ReadsAt t reader read node offset len → Gives t reader (Sys read) (Given []) seen u → seen.err ≡ 0
    → (k : ℕ) → k < len → start ≤ offset + k → offset + k < start + wrote.ret0 → IsByte seen k bytes ((offset + k) - start)
