-- What the text of an answer adds to the value of a call that succeeded.
use Rattle.std.specs.Prelude.{ℕ, ◌==◌, ◌++◌, List, None, Option, Some, [], ◌∷◌, codes, if◌then◌else◌, length, nat_lt, take}
use Rattle.std.specs.Fmt.{decimal}
use Rattle.kern_model.specs.declared.outcome.OutPiece.{OutPiece}
use Rattle.sp_base.specs.declared.names.Answer.{Answer}
use Rattle.guest_rows.specs.declared.added.Addition.{Addition}
use Rattle.guest_rows.specs.declared.added.Addition.TheVariants.{Address, Bytes, Entries, Nothing, Received, SecondValue, Stat}
use Rattle.guest_rows.specs.declared.answered.PollPart.TheVariants.{Answered}
use Rattle.guest_rows.specs.Answered.{entries_text}
use Rattle.guest_rows.specs.Fields.{u32_in, u64_in}
use Rattle.script_words.specs.Addresses.{address_text}
use Rattle.script_words.specs.Spelling.{quoted}
use Rattle.script_words.specs.Steps.{◌>>=◌}

-- the first so many bytes of a piece
abbrev pub piece_data : ℕ → List OutPiece → Option (List ℕ)
piece_data count [] = None
piece_data count (out ∷ outs) = if nat_lt (length out.bytes) count then None else Some (take count out.bytes)

-- the first so many bytes of the first piece; no bytes need no piece
abbrev pub data_of : ℕ → List OutPiece → Option (List ℕ)
data_of count outs = if count == 0 then Some [] else piece_data count outs

-- bytes in quotes behind a space, where there are any
abbrev pub quoted_data : Option (List ℕ) → List ℕ
quoted_data None = []
quoted_data (Some bytes) = 32 ∷ quoted bytes

-- what a read adds: its bytes in quotes
abbrev pub read_added : Answer → List OutPiece → List ℕ
read_added answer outs = quoted_data (data_of answer.ret0 outs)

-- the pieces behind the first
abbrev pub later_outs : List OutPiece → List OutPiece
later_outs [] = []
later_outs (out ∷ outs) = outs

-- the pieces behind a recvfrom's bytes, where it gave any
abbrev pub sender_outs : ℕ → List OutPiece → List OutPiece
sender_outs count outs = if count == 0 then outs else later_outs outs

-- the text of an address of so many bytes in the first piece
abbrev pub address_in : ℕ → List OutPiece → Option (List ℕ)
address_in len outs = data_of len outs >>= address_text

-- a text behind another and a space; nothing where there is none
abbrev pub with_text : List ℕ → Option (List ℕ) → List ℕ
with_text front None = []
with_text front (Some text) = front ++ codes " " ++ text

-- what the address of a socket adds
abbrev pub name_added : ℕ → List OutPiece → List ℕ
name_added len outs = with_text [] (address_in len outs)

-- what a recvfrom of these bytes adds: the bytes in quotes, and the sender's address where it told one
abbrev pub received_data : Answer → List OutPiece → Option (List ℕ) → List ℕ
received_data answer outs None = []
received_data answer outs (Some bytes) =
    if answer.ret1 == 0 then 32 ∷ quoted bytes
    else with_text (32 ∷ quoted bytes) (address_in answer.ret1 (sender_outs answer.ret0 outs))

-- what a recvfrom adds
abbrev pub received : Answer → List OutPiece → List ℕ
received answer outs = received_data answer outs (data_of answer.ret0 outs)

-- the name of a node's kind
unfoldable pub stat_kind : ℕ → Option (List ℕ)
stat_kind kind =
    if kind == 1 then Some (codes "file")
    else if kind == 2 then Some (codes "directory")
    else if kind == 3 then Some (codes "pipe")
    else if kind == 4 then Some (codes "socket")
    else None

-- kind, links, size and node, where there is such a kind
abbrev pub kind_text : List ℕ → Option (List ℕ) → List ℕ
kind_text bytes None = []
kind_text bytes (Some kind) = codes " " ++ kind ++ codes " " ++ decimal (u32_in 4 bytes) ++ codes " " ++ decimal (u64_in 8 bytes) ++ codes " " ++ decimal (u64_in 16 bytes)

-- what fstat and stat add
unfoldable pub stat_text : List ℕ → List ℕ
stat_text bytes = if nat_lt (length bytes) 24 then [] else kind_text bytes (stat_kind (u32_in 0 bytes))

-- the bytes of the first piece
abbrev pub first_bytes : List OutPiece → List ℕ
first_bytes [] = []
first_bytes (out ∷ outs) = out.bytes

-- a text, or nothing
abbrev pub or_nothing : Option (List ℕ) → List ℕ
or_nothing None = []
or_nothing (Some text) = text

-- what a poll of so many entries adds
abbrev pub entries_added : ℕ → List OutPiece → List ℕ
entries_added count outs = or_nothing (entries_text Answered count (first_bytes outs))

-- what an answer's text adds to the value, by the kind of addition
abbrev pub added : Addition → Answer → List OutPiece → List ℕ
added Nothing answer outs = []
added Bytes answer outs = read_added answer outs
added Received answer outs = received answer outs
added SecondValue answer outs = 32 ∷ decimal answer.ret1
added Stat answer outs = stat_text (first_bytes outs)
added Address answer outs = name_added answer.ret0 outs
added (Entries count) answer outs = entries_added count outs
