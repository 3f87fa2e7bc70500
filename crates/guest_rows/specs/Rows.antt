-- The rows that tell how a guest's lines went.
use Rattle.std.specs.Prelude.{ℕ, ◌==◌, ◌++◌, Bool, List, None, Option, Some, [], ◌∷◌, codes, if◌then◌else◌, length}
use Rattle.std.specs.Fmt.{decimal}
use Rattle.kern_model.specs.declared.outcome.OutPiece.{OutPiece}
use Rattle.sp_base.specs.Errno.{errno_name, errno_of}
use Rattle.sp_base.specs.Names.{sp_error_number}
use Rattle.sp_base.specs.declared.errno.Errno.{Errno}
use Rattle.sp_base.specs.declared.names.Answer.{Answer}
use Rattle.sp_base.specs.declared.names.Place.{Place}
use Rattle.guest_language.specs.declared.verb.Verb.{Verb}
use Rattle.guest_language.specs.declared.verb.Verb.TheVariants as verb
use Rattle.guest_language.specs.Memory.{call_words}
use Rattle.guest_language.specs.Verbs.{verb_of}
use Rattle.guest_rows.specs.declared.added.Addition.{Addition}
use Rattle.guest_rows.specs.declared.added.Addition.TheVariants.{Address, Bytes, Entries, Nothing, Received, SecondValue, Stat}
use Rattle.guest_rows.specs.declared.row.Row.{Row}
use Rattle.guest_rows.specs.declared.row.RowResult.{RowResult}
use Rattle.guest_rows.specs.declared.row.RowResult.TheVariants.{Blocked, Child, Gave, Lost, Refused}
use Rattle.guest_rows.specs.declared.row.SideName.{SideName}
use Rattle.guest_rows.specs.declared.row.SideName.TheVariants.{Host, Rump}
use Rattle.guest_rows.specs.Added.{added}
use Rattle.script_words.specs.Words.{words_of}

-- an error's name, or its number in decimal where it has none
abbrev pub named_error : ℕ → Option Errno → List ℕ
named_error n None = decimal n
named_error n (Some errno) = errno_name errno

-- an error in a row
unfoldable pub error_text : ℕ → List ℕ
error_text n = named_error n (errno_of n)

-- the call of a line's words
abbrev pub verb_in : List (List ℕ) → Option Verb
verb_in [] = None
verb_in (word ∷ words) = verb_of word

-- the words behind the first
abbrev pub behind : List (List ℕ) → List (List ℕ)
behind [] = []
behind (word ∷ words) = words

-- how many words stand behind the first
abbrev pub count_behind : List (List ℕ) → ℕ
count_behind [] = 0
count_behind (word ∷ words) = length words

-- what the row of a call adds to its value, by the call and the words behind it; a poll's are its timeout and its entries
abbrev pub addition_of : Option Verb → List (List ℕ) → Addition
addition_of (Some verb.Read) words = Bytes
addition_of (Some verb.Pread) words = Bytes
addition_of (Some verb.Recvfrom) words = Received
addition_of (Some verb.Pipe) words = SecondValue
addition_of (Some verb.Socketpair) words = SecondValue
addition_of (Some verb.Fstat) words = Stat
addition_of (Some verb.Stat) words = Stat
addition_of (Some verb.Getsockname) words = Address
addition_of (Some verb.Getpeername) words = Address
addition_of (Some verb.Poll) words = Entries (count_behind words)
addition_of _ words = Nothing

-- what the row of a call of these words adds
abbrev pub words_addition : List (List ℕ) → Addition
words_addition words = addition_of (verb_in words) (behind words)

-- an answer: -1 and the error, or the value and what is added to it
unfoldable pub answer_text : Addition → Answer → List OutPiece → List ℕ
answer_text addition answer outs =
    if answer.err == 0 then decimal answer.ret0 ++ added addition answer outs
    else codes "-1 " ++ error_text answer.err

-- the answer of a line's call
abbrev pub gave_text : List ℕ → Answer → List OutPiece → List ℕ
gave_text line answer outs = answer_text (words_addition (call_words (words_of line))) answer outs

-- how a line ended
unfoldable pub result_text : List ℕ → RowResult → List ℕ
result_text line (Gave answer outs) = gave_text line answer outs
result_text line (Child pid) = decimal pid.0
result_text line Blocked = codes "blocked"
result_text line Lost = codes "lost"
result_text line (Refused error) = codes "refused " ++ decimal (sp_error_number error)

-- the kernel, `both`, or `none`
unfoldable pub side_text : Option SideName → Bool → List ℕ
side_text None both = if both then codes "both" else codes "none"
side_text (Some Rump) both = codes "rump"
side_text (Some Host) both = codes "host"

-- the place, or `-`
unfoldable pub place_text : Option Place → List ℕ
place_text None = codes "-"
place_text (Some place) = decimal place.0

-- a row: `GUEST.N SIDE PLACE LINE = RESULT`
unfoldable pub row_text : Row → List ℕ
row_text row =
    row.guest ++ codes "." ++ decimal row.number ++ codes " " ++ side_text row.side row.both ++ codes " " ++ place_text row.place ++ codes " "
    ++ row.line ++ codes " = " ++ result_text row.line row.result ++ codes "\n"
