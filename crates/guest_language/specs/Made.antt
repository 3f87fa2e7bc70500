-- The calls that lines spell, with what lies at their addresses.
use Rattle.std.specs.Prelude.{ℕ, ◌++◌, ◌==◌, ◌&&◌, ◌^◌, ◌||◌, Bool, List, None, Option, Some, [], ◌∷◌, codes, if◌then◌else◌, false, length, nat_le, nat_lt, not, true}
use Rattle.std.specs.Str.{bytes_eq}
use Rattle.sp_base.specs.Call.{counts}
use Rattle.sp_base.specs.declared.call.Call.{Call}
use Rattle.sp_base.specs.declared.call.Call.TheVariants as call
use Rattle.sp_base.specs.declared.limits.TheConstants.{ADDRESS, POLL_ENTRIES, STAT}
use Rattle.sp_base.specs.Needs.{transfer_of}
use Rattle.guest_language.specs.declared.slot.Made.{Made}
use Rattle.guest_language.specs.declared.slot.Slot.{Slot}
use Rattle.guest_language.specs.declared.slot.Slot.TheVariants.{Blank, Entries, Filled, Given, Nothing}
use Rattle.guest_language.specs.declared.slot.TheConstants.{BAD, FIRST, SECOND}
use Rattle.guest_language.specs.declared.verb.Verb.{Verb}
use Rattle.guest_language.specs.declared.verb.Verb.TheVariants as verb
use Rattle.script_words.specs.Addresses.{address_of}
use Rattle.script_words.specs.Events.{entries_of}
use Rattle.script_words.specs.Flags.{flags_of}
use Rattle.script_words.specs.Numbers.{number_of, signed_of}
use Rattle.script_words.specs.Steps.{◌>>=◌}
use Rattle.script_words.specs.Texts.{text_of}

-- a call with nothing in memory
abbrev pub plain : Call → Made
plain c = record { call = c; first = Nothing; second = Nothing }

-- a call with something at its first address
abbrev pub with_first : Call → Slot → Made
with_first c s = record { call = c; first = s; second = Nothing }

-- a call with something at both addresses
abbrev pub with_both : Call → Slot → Slot → Made
with_both c s t = record { call = c; first = s; second = t }

-- a text in memory has a zero byte behind it
abbrev pub text_slot : List ℕ → Slot
text_slot text = Given (text ++ 0 ∷ [])

-- `getpid`, `pipe`: no words
abbrev pub bare_line : Call → List (List ℕ) → Option Made
bare_line c [] = Some (plain c)
bare_line c _ = None

-- `FD`
abbrev pub one_number : List (List ℕ) → Option ℕ
one_number (n ∷ []) = number_of n
one_number _ = None

-- `FD LEN`, `FD FD`, `FD BACKLOG`
abbrev pub two_numbers : List (List ℕ) → Option (ℕ × ℕ)
two_numbers (n ∷ m ∷ []) = number_of n >>= (λ n. number_of m >>= (λ m. Some (n, m)))
two_numbers _ = None

-- `TEXT`, a path
abbrev pub path_line : Call → List (List ℕ) → Option Made
path_line c (path ∷ []) = text_of path >>= (λ text. Some (with_first c (text_slot text)))
path_line c _ = None

-- `TEXT TEXT`, two paths
abbrev pub two_paths_line : Call → List (List ℕ) → Option Made
two_paths_line c (path ∷ other ∷ []) = text_of path >>= (λ text. text_of other >>= (λ next. Some (with_both c (text_slot text) (text_slot next))))
two_paths_line c _ = None

-- `stat TEXT`
abbrev pub stat_line : List (List ℕ) → Option Made
stat_line (path ∷ []) = text_of path >>= (λ text. Some (with_both (call.Stat FIRST SECOND) (text_slot text) (Blank STAT)))
stat_line _ = None

-- `open TEXT FLAGS`
abbrev pub open_line : List (List ℕ) → Option Made
open_line (path ∷ flags ∷ []) = text_of path >>= (λ text. flags_of flags >>= (λ bits. Some (with_first (call.Open FIRST bits) (text_slot text))))
open_line _ = None

-- where a call is to write, and how much: `LEN`, or `bad LEN` for an address in no part
abbrev pub out_words : List (List ℕ) → Option (ℕ × ℕ)
out_words (len ∷ []) = number_of len >>= (λ n. Some (FIRST, n))
out_words (word ∷ len ∷ []) = if bytes_eq word (codes "bad") then (number_of len >>= (λ n. Some (BAD, n))) else None
out_words _ = None

-- what lies where a call is to write: as many zero bytes as it may write
unfoldable pub out_slot : ℕ × ℕ → Slot
out_slot out = if out.0 == BAD then Nothing else Blank (transfer_of out.1)

-- `read FD [bad] LEN`
abbrev pub read_line : List (List ℕ) → Option Made
read_line (fd ∷ words) = number_of fd >>= (λ n. out_words words >>= (λ out. Some (with_first (call.Read n out.0 out.1) (out_slot out))))
read_line [] = None

-- `recvfrom FD [bad] LEN`
abbrev pub recvfrom_line : List (List ℕ) → Option Made
recvfrom_line (fd ∷ words) = number_of fd >>= (λ n. out_words words >>= (λ out. Some (with_both (call.Recvfrom n out.0 out.1 SECOND ADDRESS) (out_slot out) (Blank ADDRESS))))
recvfrom_line [] = None

-- a pread of these words
abbrev pub pread_made : List ℕ → List (List ℕ) → List ℕ → Option Made
pread_made fd words offset = number_of fd >>= (λ n. out_words words >>= (λ out. signed_of offset >>= (λ o. Some (with_first (call.Pread n out.0 out.1 o) (out_slot out)))))

-- `pread FD [bad] LEN OFF`
abbrev pub pread_line : List (List ℕ) → Option Made
pread_line (fd ∷ len ∷ offset ∷ []) = pread_made fd (len ∷ []) offset
pread_line (fd ∷ word ∷ len ∷ offset ∷ []) = pread_made fd (word ∷ len ∷ []) offset
pread_line _ = None

-- a write of `fill LEN`, up to 1 MiB, or of `bad LEN`
unfoldable pub sized_write : ℕ → List ℕ → ℕ → Option Made
sized_write n word len =
    if bytes_eq word (codes "fill") then (if nat_le len 1048576 then Some (with_first (call.Write n FIRST len) (Filled len)) else None)
    else if bytes_eq word (codes "bad") then Some (plain (call.Write n BAD len))
    else None

-- `write FD TEXT`, `write FD fill LEN`, `write FD bad LEN`
abbrev pub write_line : List (List ℕ) → Option Made
write_line (fd ∷ text ∷ []) = number_of fd >>= (λ n. text_of text >>= (λ t. Some (with_first (call.Write n FIRST (length t)) (Given t))))
write_line (fd ∷ word ∷ len ∷ []) = number_of fd >>= (λ n. number_of len >>= (λ l. sized_write n word l))
write_line _ = None

-- `pwrite FD TEXT OFF`
abbrev pub pwrite_line : List (List ℕ) → Option Made
pwrite_line (fd ∷ text ∷ offset ∷ []) = number_of fd >>= (λ n. text_of text >>= (λ t. signed_of offset >>= (λ o. Some (with_first (call.Pwrite n FIRST (length t) o) (Given t)))))
pwrite_line _ = None

-- an address, or none
abbrev pub maybe_address : List (List ℕ) → Option (List ℕ)
maybe_address [] = Some []
maybe_address (word ∷ words) = address_of (word ∷ words)

-- `sendto FD TEXT [ADDR]`
abbrev pub sendto_line : List (List ℕ) → Option Made
sendto_line (fd ∷ text ∷ words) = number_of fd >>= (λ n. text_of text >>= (λ t. maybe_address words >>= (λ a. Some (with_both (call.Sendto n FIRST (length t) SECOND (length a)) (Given t) (Given a)))))
sendto_line _ = None

-- `bind FD ADDR`
abbrev pub bind_line : List (List ℕ) → Option Made
bind_line (fd ∷ words) = number_of fd >>= (λ n. address_of words >>= (λ a. Some (with_first (call.Bind n FIRST (length a)) (Given a))))
bind_line [] = None

-- `connect FD ADDR`
abbrev pub connect_line : List (List ℕ) → Option Made
connect_line (fd ∷ words) = number_of fd >>= (λ n. address_of words >>= (λ a. Some (with_first (call.Connect n FIRST (length a)) (Given a))))
connect_line [] = None

-- from where an offset counts
unfoldable pub whence_of : List ℕ → Option ℕ
whence_of w =
    if bytes_eq w (codes "set") then Some 0
    else if bytes_eq w (codes "cur") then Some 1
    else if bytes_eq w (codes "end") then Some 2
    else None

-- `lseek FD OFF set|cur|end`
abbrev pub lseek_line : List (List ℕ) → Option Made
lseek_line (fd ∷ offset ∷ whence ∷ []) = number_of fd >>= (λ n. signed_of offset >>= (λ o. whence_of whence >>= (λ w. Some (plain (call.Lseek n o w)))))
lseek_line _ = None

-- the commands of fcntl
unfoldable pub command_of : List ℕ → Option ℕ
command_of w =
    if bytes_eq w (codes "dupfd") then Some 0
    else if bytes_eq w (codes "getfd") then Some 1
    else if bytes_eq w (codes "setfd") then Some 2
    else if bytes_eq w (codes "getfl") then Some 3
    else if bytes_eq w (codes "setfl") then Some 4
    else None

-- `getfd` and `getfl` have no use for the argument, which is 0 then
unfoldable pub takes_argument : ℕ → ℕ → Bool
takes_argument command argument = not (command == 1 || command == 3) || argument == 0

-- `fcntl FD COMMAND ARG`
abbrev pub fcntl_line : List (List ℕ) → Option Made
fcntl_line (fd ∷ command ∷ argument ∷ []) = number_of fd >>= (λ n. command_of command >>= (λ c. number_of argument >>= (λ a. if takes_argument c a then Some (plain (call.Fcntl n c a)) else None)))
fcntl_line _ = None

-- the families of sockets
unfoldable pub family_of : List ℕ → Option ℕ
family_of w = if bytes_eq w (codes "local") then Some 1 else if bytes_eq w (codes "inet") then Some 2 else None

-- the kinds of sockets
unfoldable pub kind_of : List ℕ → Option ℕ
kind_of w = if bytes_eq w (codes "stream") then Some 1 else if bytes_eq w (codes "dgram") then Some 2 else None

-- `local|inet stream|dgram`
abbrev pub socket_words : List (List ℕ) → Option (ℕ × ℕ)
socket_words (family ∷ kind ∷ []) = family_of family >>= (λ f. kind_of kind >>= (λ k. Some (f, k)))
socket_words _ = None

-- what a shutdown ends
unfoldable pub how_of : List ℕ → Option ℕ
how_of w =
    if bytes_eq w (codes "read") then Some 0
    else if bytes_eq w (codes "write") then Some 1
    else if bytes_eq w (codes "both") then Some 2
    else None

-- `shutdown FD read|write|both`
abbrev pub shutdown_line : List (List ℕ) → Option Made
shutdown_line (fd ∷ how ∷ []) = number_of fd >>= (λ n. how_of how >>= (λ h. Some (plain (call.Shutdown n h))))
shutdown_line _ = None

-- `poll TIMEOUT FD:EVENTS ..`, with at most 128 entries
abbrev pub poll_line : List (List ℕ) → Option Made
poll_line (timeout ∷ words) =
    if nat_le (length words) POLL_ENTRIES then (signed_of timeout >>= (λ t. entries_of words >>= (λ bytes. Some (with_first (call.Poll FIRST (length words) t) (Entries bytes)))))
    else None
poll_line [] = None

-- the numbers that words spell, behind those before them
abbrev pub numbers_from : List ℕ → List (List ℕ) → Option (List ℕ)
numbers_from front [] = Some front
numbers_from front (w ∷ ws) = number_of w >>= (λ n. numbers_from (front ++ n ∷ []) ws)

-- no call of the table has the number
unfoldable pub is_outside : ℕ → Bool
is_outside num = num == 0 || nat_lt (length counts) num

-- `call NUM ..`, with up to 8 numbers, where NUM is below 2^32 and not in the table
abbrev pub number_line : List (List ℕ) → Option Made
number_line (num ∷ words) =
    if nat_le (length words) 8 then (number_of num >>= (λ n. if nat_lt n (2 ^ 32) && is_outside n then (numbers_from [] words >>= (λ ws. Some (plain (call.Unknown n ws)))) else None))
    else None
number_line [] = None

-- the call of a verb on one descriptor
abbrev pub on_one : Verb → ℕ → Option Made
on_one verb.Close n = Some (plain (call.Close n))
on_one verb.Dup n = Some (plain (call.Dup n))
on_one verb.Accept n = Some (plain (call.Accept n))
on_one verb.Fstat n = Some (with_first (call.Fstat n FIRST) (Blank STAT))
on_one verb.Getsockname n = Some (with_first (call.Getsockname n FIRST ADDRESS) (Blank ADDRESS))
on_one verb.Getpeername n = Some (with_first (call.Getpeername n FIRST ADDRESS) (Blank ADDRESS))
on_one _ n = None

-- the call of a verb on two numbers
abbrev pub on_two : Verb → ℕ × ℕ → Option Made
on_two verb.Ftruncate p = Some (plain (call.Ftruncate p.0 p.1))
on_two verb.Dup2 p = Some (plain (call.Dup2 p.0 p.1))
on_two verb.Listen p = Some (plain (call.Listen p.0 p.1))
on_two verb.Socket p = Some (plain (call.Socket p.0 p.1))
on_two verb.Socketpair p = Some (plain (call.Socketpair p.0 p.1))
on_two _ p = None

-- the line of a verb on one descriptor
abbrev pub one_line : Verb → List (List ℕ) → Option Made
one_line v words = one_number words >>= on_one v

-- the line of a verb on two numbers
abbrev pub two_line : Verb → List (List ℕ) → Option Made
two_line v words = two_numbers words >>= on_two v

-- the line of a verb that makes sockets
abbrev pub socket_line : Verb → List (List ℕ) → Option Made
socket_line v words = socket_words words >>= on_two v

-- the call that a verb and the words behind it spell
abbrev pub made_of : Verb → List (List ℕ) → Option Made
made_of verb.Getpid words = bare_line call.Getpid words
made_of verb.Pipe words = bare_line call.Pipe words
made_of verb.Close words = one_line verb.Close words
made_of verb.Dup words = one_line verb.Dup words
made_of verb.Accept words = one_line verb.Accept words
made_of verb.Fstat words = one_line verb.Fstat words
made_of verb.Getsockname words = one_line verb.Getsockname words
made_of verb.Getpeername words = one_line verb.Getpeername words
made_of verb.Ftruncate words = two_line verb.Ftruncate words
made_of verb.Dup2 words = two_line verb.Dup2 words
made_of verb.Listen words = two_line verb.Listen words
made_of verb.Socket words = socket_line verb.Socket words
made_of verb.Socketpair words = socket_line verb.Socketpair words
made_of verb.Unlink words = path_line (call.Unlink FIRST) words
made_of verb.Mkdir words = path_line (call.Mkdir FIRST) words
made_of verb.Rmdir words = path_line (call.Rmdir FIRST) words
made_of verb.Chdir words = path_line (call.Chdir FIRST) words
made_of verb.Link words = two_paths_line (call.Link FIRST SECOND) words
made_of verb.Rename words = two_paths_line (call.Rename FIRST SECOND) words
made_of verb.Stat words = stat_line words
made_of verb.Open words = open_line words
made_of verb.Read words = read_line words
made_of verb.Pread words = pread_line words
made_of verb.Recvfrom words = recvfrom_line words
made_of verb.Write words = write_line words
made_of verb.Pwrite words = pwrite_line words
made_of verb.Sendto words = sendto_line words
made_of verb.Bind words = bind_line words
made_of verb.Connect words = connect_line words
made_of verb.Lseek words = lseek_line words
made_of verb.Fcntl words = fcntl_line words
made_of verb.Shutdown words = shutdown_line words
made_of verb.Poll words = poll_line words
made_of verb.Number words = number_line words
