-- The calls of a journal, in the form of scripts.
use Rattle.std.specs.Prelude.{ℕ, ◌==◌, ◌&&◌, ◌||◌, ◌++◌, Bool, List, None, Option, Some, [], ◌∷◌, codes, if◌then◌else◌, map, nat_lt}
use Rattle.std.specs.Fmt.{decimal}
use Rattle.guest_language.specs.Verbs.{or_else}
use Rattle.kern_model.specs.declared.operation.Ins.{Ins}
use Rattle.sp_base.specs.Call.{call_number, call_words}
use Rattle.sp_base.specs.declared.call.Call.{Call}
use Rattle.sp_base.specs.declared.call.Call.TheVariants as call
use Rattle.sp_base.specs.declared.limits.TheConstants.{ADDRESS}
use Rattle.guest_journal.specs.Gathered.{asked_entries, bytes_word, own_address, path_word, target_address}
use Rattle.guest_journal.specs.Names.{command_name, family_name, flags_text, how_name, kind_name, whence_name}
use Rattle.script_words.specs.Spelling.{signed}
use Rattle.script_words.specs.Steps.{◌>>=◌}
use Rattle.script_words.specs.Words.{joined, spaced}

-- a name and numbers
abbrev pub numbers_form : List ℕ → List ℕ → Option (List ℕ)
numbers_form name numbers = Some (name ++ spaced (map decimal numbers))

-- a name and words
abbrev pub words_form : List (List ℕ) → Option (List ℕ)
words_form words = Some (joined words)

-- a name and a path
abbrev pub path_form : List ℕ → Ins → Option (List ℕ)
path_form name ins = path_word ins 0 >>= (λ path. words_form (name ∷ path ∷ []))

-- a name and two paths
abbrev pub paths_form : List ℕ → Ins → Option (List ℕ)
paths_form name ins = path_word ins 0 >>= (λ path. path_word ins 1 >>= (λ other. words_form (name ∷ path ∷ other ∷ [])))

-- `open TEXT FLAGS`
abbrev pub open_form : ℕ → Ins → Option (List ℕ)
open_form flags ins = path_word ins 0 >>= (λ path. flags_text flags >>= (λ names. words_form (codes "open" ∷ path ∷ names ∷ [])))

-- `write FD TEXT`
abbrev pub write_form : ℕ → ℕ → Ins → Option (List ℕ)
write_form fd len ins = bytes_word ins len >>= (λ bytes. words_form (codes "write" ∷ decimal fd ∷ bytes ∷ []))

-- `pread FD LEN OFF`
abbrev pub pread_form : ℕ → ℕ → ℕ → Option (List ℕ)
pread_form fd len offset = words_form (codes "pread" ∷ decimal fd ∷ decimal len ∷ signed offset ∷ [])

-- `pwrite FD TEXT OFF`
abbrev pub pwrite_form : ℕ → ℕ → ℕ → Ins → Option (List ℕ)
pwrite_form fd len offset ins = bytes_word ins len >>= (λ bytes. words_form (codes "pwrite" ∷ decimal fd ∷ bytes ∷ signed offset ∷ []))

-- `lseek FD OFF set|cur|end`
abbrev pub lseek_form : ℕ → ℕ → ℕ → Option (List ℕ)
lseek_form fd offset whence = whence_name whence >>= (λ name. words_form (codes "lseek" ∷ decimal fd ∷ signed offset ∷ name ∷ []))

-- the commands that have no use for their argument: getfd and getfl
unfoldable pub has_argument : ℕ → ℕ → Bool
has_argument command argument = (command == 1 || command == 3) && nat_lt 0 argument

-- `fcntl FD COMMAND ARG`
abbrev pub fcntl_form : ℕ → ℕ → ℕ → Option (List ℕ)
fcntl_form fd command argument =
    if has_argument command argument then None
    else command_name command >>= (λ name. words_form (codes "fcntl" ∷ decimal fd ∷ name ∷ decimal argument ∷ []))

-- a name, a family and a kind of socket
abbrev pub socket_form : List ℕ → ℕ → ℕ → Option (List ℕ)
socket_form name family kind = family_name family >>= (λ family. kind_name kind >>= (λ kind. words_form (name ∷ family ∷ kind ∷ [])))

-- a name, a descriptor and an address
abbrev pub address_form : List ℕ → ℕ → ℕ → Ins → Option (List ℕ)
address_form name fd len ins = own_address ins len >>= (λ address. words_form (name ∷ decimal fd ∷ address ∷ []))

-- `sendto FD TEXT [ADDR]`
abbrev pub sendto_form : ℕ → ℕ → ℕ → Ins → Option (List ℕ)
sendto_form fd len address_len ins =
    bytes_word ins len >>= (λ bytes. target_address ins len address_len >>= (λ address. Some (joined (codes "sendto" ∷ decimal fd ∷ bytes ∷ []) ++ address)))

-- a call that asks for as many bytes of an address as a script does, by a name and numbers
abbrev pub asking_form : List ℕ → List ℕ → ℕ → Option (List ℕ)
asking_form name numbers most = if most == ADDRESS then numbers_form name numbers else None

-- `shutdown FD read|write|both`
abbrev pub shutdown_form : ℕ → ℕ → Option (List ℕ)
shutdown_form fd how = how_name how >>= (λ name. words_form (codes "shutdown" ∷ decimal fd ∷ name ∷ []))

-- `poll TIMEOUT FD:EVENTS ..`
abbrev pub poll_form : ℕ → ℕ → Ins → Option (List ℕ)
poll_form count timeout ins = asked_entries ins count >>= (λ entries. Some (joined (codes "poll" ∷ signed timeout ∷ []) ++ entries))

-- a call on open files or on processes
abbrev pub file_form : Call → Ins → Option (List ℕ)
file_form call.Getpid ins = numbers_form (codes "getpid") []
file_form (call.Close fd) ins = numbers_form (codes "close") (fd ∷ [])
file_form (call.Read fd out len) ins = numbers_form (codes "read") (fd ∷ len ∷ [])
file_form (call.Write fd input len) ins = write_form fd len ins
file_form (call.Pread fd out len offset) ins = pread_form fd len offset
file_form (call.Pwrite fd input len offset) ins = pwrite_form fd len offset ins
file_form (call.Lseek fd offset whence) ins = lseek_form fd offset whence
file_form (call.Ftruncate fd len) ins = numbers_form (codes "ftruncate") (fd ∷ len ∷ [])
file_form (call.Fstat fd out) ins = numbers_form (codes "fstat") (fd ∷ [])
file_form (call.Dup fd) ins = numbers_form (codes "dup") (fd ∷ [])
file_form (call.Dup2 fd new_fd) ins = numbers_form (codes "dup2") (fd ∷ new_fd ∷ [])
file_form (call.Fcntl fd command argument) ins = fcntl_form fd command argument
file_form call.Pipe ins = numbers_form (codes "pipe") []
file_form (call.Poll entries count timeout) ins = poll_form count timeout ins
file_form _ ins = None

-- a call on paths
abbrev pub named_form : Call → Ins → Option (List ℕ)
named_form (call.Open path flags) ins = open_form flags ins
named_form (call.Stat path out) ins = path_form (codes "stat") ins
named_form (call.Link path new_path) ins = paths_form (codes "link") ins
named_form (call.Unlink path) ins = path_form (codes "unlink") ins
named_form (call.Rename path new_path) ins = paths_form (codes "rename") ins
named_form (call.Mkdir path) ins = path_form (codes "mkdir") ins
named_form (call.Rmdir path) ins = path_form (codes "rmdir") ins
named_form (call.Chdir path) ins = path_form (codes "chdir") ins
named_form _ ins = None

-- a call on sockets
abbrev pub net_form : Call → Ins → Option (List ℕ)
net_form (call.Socket family kind) ins = socket_form (codes "socket") family kind
net_form (call.Socketpair family kind) ins = socket_form (codes "socketpair") family kind
net_form (call.Bind fd address address_len) ins = address_form (codes "bind") fd address_len ins
net_form (call.Listen fd backlog) ins = numbers_form (codes "listen") (fd ∷ backlog ∷ [])
net_form (call.Accept fd) ins = numbers_form (codes "accept") (fd ∷ [])
net_form (call.Connect fd address address_len) ins = address_form (codes "connect") fd address_len ins
net_form (call.Sendto fd input len address address_len) ins = sendto_form fd len address_len ins
net_form (call.Recvfrom fd out len address address_max) ins = asking_form (codes "recvfrom") (fd ∷ len ∷ []) address_max
net_form (call.Shutdown fd how) ins = shutdown_form fd how
net_form (call.Getsockname fd out max) ins = asking_form (codes "getsockname") (fd ∷ []) max
net_form (call.Getpeername fd out max) ins = asking_form (codes "getpeername") (fd ∷ []) max
net_form _ ins = None

-- a call in the form of scripts, with what was gathered for it; none where a word or a piece is outside that form
abbrev pub form_of : Call → Ins → Option (List ℕ)
form_of c ins = or_else (file_form c ins) (or_else (named_form c ins) (net_form c ins))

-- a call by its number and its words
unfoldable pub number_text : Call → List ℕ
number_text c = codes "call " ++ decimal (call_number c) ++ spaced (map decimal (call_words c))

-- the form, or else number and words
abbrev pub or_number : Call → Option (List ℕ) → List ℕ
or_number c None = number_text c
or_number c (Some text) = text

-- a call of a journal, with what was gathered for it
unfoldable pub call_text : Call → Ins → List ℕ
call_text c ins = or_number c (form_of c ins)
