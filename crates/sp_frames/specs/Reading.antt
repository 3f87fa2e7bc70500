-- Reading a frame from left to right: an aid of the proofs, which no public clause cites.
use Rattle.std.specs.Prelude.{ℕ, zero, suc, ◌+◌, ◌-◌, ◌*◌, ◌/◌, ◌%◌, ◌==◌, Bool, true, false, ◌&&◌, nat_lt, nat_le, List, [], ◌∷◌, length, take, drop, Option, Some, None, Result, Ok, Err, if◌then◌else◌, find, option_map, get_or}
use Rattle.std.specs.List.{list_any}
use Rattle.sp_frames.specs.declared.fault.FrameFault.{FrameFault}
use Rattle.sp_frames.specs.declared.fault.FrameFault.TheVariants.{TooShort, TooLong, Class, Kind, Word, Payload}
use Rattle.sp_frames.specs.declared.frame.Body.{Body}
use Rattle.sp_frames.specs.declared.frame.Body.TheVariants as body
use Rattle.sp_frames.specs.declared.frame.TheConstants.{INDEX_LIMIT}
use Rattle.sp_frames.specs.declared.header.Header.{Header}
use Rattle.sp_frames.specs.declared.rows.Row.{Row}
use Rattle.sp_frames.specs.declared.rows.Row.TheVariants as row
use Rattle.sp_frames.specs.declared.rows.Allowed.{Allowed}
use Rattle.sp_frames.specs.declared.rows.Allowed.TheVariants.{Only, Within, Below, Any, Refusable, Words}
use Rattle.sp_frames.specs.declared.rows.Shape.{Shape}
use Rattle.sp_frames.specs.declared.reading.Step.{Step}
use Rattle.sp_frames.specs.declared.reading.Step.TheVariants.{Whole, Partial, Fault}
use Rattle.sp_base.specs.declared.names.Cookie.{Cookie}
use Rattle.sp_base.specs.Names.{sp_error_of}
use Rattle.sp_frames.specs.Grammar.{is_answer, is_text_answer, may_be_refused}
use Rattle.sp_frames.specs.Fields.{of16, of32, of64, Number, n16, n32, n64}

-- the numbers that stand at a place, of the widths of the given ones
abbrev pub front_at : ℕ → List Number → List ℕ → List Number
front_at at [] bytes = []
front_at at (n16 _ ∷ numbers) bytes = n16 (of16 (take 2 (drop at bytes))) ∷ front_at (at + 2) numbers bytes
front_at at (n32 _ ∷ numbers) bytes = n32 (of32 (take 4 (drop at bytes))) ∷ front_at (at + 4) numbers bytes
front_at at (n64 _ ∷ numbers) bytes = n64 (of64 (take 8 (drop at bytes))) ∷ front_at (at + 8) numbers bytes

-- how many bytes a number takes
abbrev pub width : Number → ℕ
width (n16 _) = 2
width (n32 _) = 4
width (n64 _) = 8

-- how many bytes numbers take, counted from a place
abbrev pub front_end : ℕ → List Number → ℕ
front_end at [] = at
front_end at (number ∷ numbers) = front_end (at + width number) numbers

-- the value of a number
abbrev pub value : Number → ℕ
value (n16 n) = n
value (n32 n) = n
value (n64 n) = n

-- the value of the number at a place in a list
abbrev pub nth : List Number → ℕ → ℕ
nth [] i = 0
nth (number ∷ numbers) zero = value number
nth (number ∷ numbers) (suc i) = nth numbers i

-- a header of these five numbers
abbrev pub header_from : List Number → Header
header_from numbers = record { len = nth numbers 0; number = nth numbers 1; class = nth numbers 2; kind = nth numbers 3; word = nth numbers 4 }

-- the widths of a header's fields
abbrev pub header_front : List Number
header_front = n64 0 ∷ n64 0 ∷ n16 0 ∷ n16 0 ∷ n32 0 ∷ []

-- the header at the front of bytes
unfoldable pub header_at : List ℕ → Header
header_at bytes = header_from (front_at 0 header_front bytes)

-- the rows of the table, that of a call first
abbrev pub rows : List Row
rows =
    row.Sys ∷
    row.Guest ∷
    row.Join ∷
    row.Image ∷
    row.AskBytes ∷
    row.AskText ∷
    row.Put ∷
    row.Prefork ∷
    row.Cancel ∷
    row.Preexec ∷
    row.Hello ∷
    row.Joined ∷
    row.Imaged ∷
    row.Answered ∷
    row.GotBytes ∷
    row.GotText ∷
    row.Forked ∷
    row.Cancelled ∷
    row.ExecReady ∷
    row.Refused ∷
    []

-- a number within limits
abbrev pub within : ℕ → ℕ → ℕ → Bool
within least most n = nat_le least n && nat_le n most

-- the numbers that a header's field or a payload's length may be
abbrev pub allows : Allowed → ℕ → Bool
allows (Only n) number = number == n
allows (Within least most) number = within least most number
allows (Below limit) number = nat_lt number limit
allows Any number = true
allows Refusable number = may_be_refused number
allows Words number = nat_le number 64 && (number % 8 == 0)

-- a row: its class, types, words and payload lengths, the numbers at its payload's front, and whether bytes follow them
pub record Layout : Type 0 where
  pub shape : Shape
  pub front : List Number
  pub has_tail : Bool

-- a row of these parts
abbrev pub layout : ℕ → Allowed → Allowed → Allowed → List Number → Bool → Layout
layout class kinds words sizes front has_tail = record {
  shape = record { class = class; kinds = kinds; words = words; sizes = sizes };
  front = front;
  has_tail = has_tail;
}

-- the table of rows
abbrev pub layout_of : Row → Layout
layout_of row.Guest = layout 0 (Only 0) (Only 0) (Within 1 255) [] true
layout_of row.Join = layout 0 (Only 0) (Only 1) (Within 17 271) (n64 0 ∷ n64 0 ∷ []) true
layout_of row.Image = layout 0 (Only 0) (Only 2) (Within 17 271) (n64 0 ∷ n64 0 ∷ []) true
layout_of row.Sys = layout 0 (Only 1) Any Words [] true
layout_of row.AskBytes = layout 0 (Only 2) (Below INDEX_LIMIT) (Only 16) (n64 0 ∷ n64 0 ∷ []) false
layout_of row.AskText = layout 0 (Only 3) (Below INDEX_LIMIT) (Only 16) (n64 0 ∷ n64 0 ∷ []) false
layout_of row.Put = layout 0 (Only 4) (Below INDEX_LIMIT) (Within 9 131048) (n64 0 ∷ []) true
layout_of row.Prefork = layout 0 (Only 5) (Only 0) (Only 0) [] false
layout_of row.Cancel = layout 0 (Only 5) (Only 1) (Only 16) (n64 0 ∷ n64 0 ∷ []) false
layout_of row.Preexec = layout 0 (Only 6) (Only 0) (Only 0) [] false
layout_of row.Hello = layout 1 (Only 0) (Only 0) (Only 4) (n32 0 ∷ []) false
layout_of row.Joined = layout 1 (Only 0) (Only 1) (Only 4) (n32 0 ∷ []) false
layout_of row.Imaged = layout 1 (Only 0) (Only 2) (Only 12) (n32 0 ∷ n64 0 ∷ []) false
layout_of row.Answered = layout 1 (Only 1) Any (Only 24) (n64 0 ∷ n64 0 ∷ n64 0 ∷ []) false
layout_of row.GotBytes = layout 1 (Only 2) (Below INDEX_LIMIT) (Within 4 131048) (n32 0 ∷ []) true
layout_of row.GotText = layout 1 (Only 3) (Below INDEX_LIMIT) (Within 4 1027) (n32 0 ∷ []) true
layout_of row.Forked = layout 1 (Only 5) (Only 0) (Only 32) (n64 0 ∷ n64 0 ∷ n64 0 ∷ n64 0 ∷ []) false
layout_of row.Cancelled = layout 1 (Only 5) (Only 1) (Only 0) [] false
layout_of row.ExecReady = layout 1 (Only 6) (Only 0) (Only 16) (n64 0 ∷ n64 0 ∷ []) false
layout_of row.Refused = layout 2 Refusable (Within 1 7) (Only 0) [] false

-- a row's class
abbrev pub class_in : Row → ℕ
class_in r = (layout_of r).shape.class

-- the types that a row has
abbrev pub has_type : Row → ℕ → Bool
has_type r kind = allows (layout_of r).shape.kinds kind

-- the words that a row has
abbrev pub has_word : Row → ℕ → Bool
has_word r word = allows (layout_of r).shape.words word

-- the lengths that a row's payload may have
abbrev pub has_size : Row → ℕ → Bool
has_size r len = allows (layout_of r).shape.sizes len

-- the widths of the numbers at the front of a row's payload
abbrev pub front_in : Row → List Number
front_in r = (layout_of r).front

-- bytes stand behind the numbers of a row's payload
abbrev pub has_tail : Row → Bool
has_tail r = (layout_of r).has_tail

-- that many words
unfoldable pub words_at : ℕ → List ℕ → List ℕ
words_at zero bytes = []
words_at (suc n) bytes = of64 (take 8 bytes) ∷ words_at n (drop 8 bytes)

-- the name that bytes are, unless one of them is zero
abbrev pub name_of : List ℕ → Option (List ℕ)
name_of bytes = if list_any (λ b. b == 0) bytes then None else Some bytes

-- the cookie of the first two numbers
abbrev pub cookie_from : List Number → Cookie
cookie_from front = record { number = nth front 0; salt = nth front 1 }

-- a body, if a test passes
abbrev pub body_if : Bool → Body → Option Body
body_if test made = if test then Some made else None

-- the body of a row's type, word, numbers and bytes, unless they are outside the row
abbrev pub body_from : Row → ℕ → ℕ → List Number → List ℕ → Option Body
body_from row.Guest kind word front tail = option_map body.Guest (name_of tail)
body_from row.Join kind word front tail = option_map (body.Join (cookie_from front)) (name_of tail)
body_from row.Image kind word front tail = option_map (body.Image (cookie_from front)) (name_of tail)
body_from row.Sys kind word front tail = Some (body.Sys word (words_at (length tail / 8) tail))
body_from row.AskBytes kind word front tail = Some (body.AskBytes word (nth front 0) (nth front 1))
body_from row.AskText kind word front tail = Some (body.AskText word (nth front 0) (nth front 1))
body_from row.Put kind word front tail = Some (body.Put word (nth front 0) tail)
body_from row.Prefork kind word front tail = Some body.Prefork
body_from row.Cancel kind word front tail = Some (body.Cancel (cookie_from front))
body_from row.Preexec kind word front tail = Some body.Preexec
body_from row.Hello kind word front tail = Some (body.Hello (record { 0 = nth front 0 }))
body_from row.Joined kind word front tail = Some (body.Joined (record { 0 = nth front 0 }))
body_from row.Imaged kind word front tail = Some (body.Imaged (record { 0 = nth front 0 }) (record { 0 = nth front 1 }))
body_from row.Answered kind word front tail = Some (body.Answered (record { err = word; ret0 = nth front 0; ret1 = nth front 1; place = record { 0 = nth front 2 } }))
body_from row.GotBytes kind word front tail = body_if (is_answer (nth front 0) tail) (body.GotBytes word (nth front 0) tail)
body_from row.GotText kind word front tail = body_if (is_text_answer (nth front 0) tail) (body.GotText word (nth front 0) tail)
body_from row.Forked kind word front tail = body_if (nat_lt (nth front 3) 4294967296) (body.Forked (cookie_from front) (record { 0 = nth front 2 }) (record { 0 = nth front 3 }))
body_from row.Cancelled kind word front tail = Some body.Cancelled
body_from row.ExecReady kind word front tail = Some (body.ExecReady (cookie_from front))
body_from row.Refused kind word front tail = option_map (body.Refused kind) (sp_error_of word)

-- what a payload of a length that the row has says
abbrev pub body_at : Row → ℕ → ℕ → List ℕ → Option Body
body_at r kind word payload = body_from r kind word (front_at 0 (front_in r) payload) (drop (front_end 0 (front_in r)) payload)

-- a row has this class and type
abbrev pub is_of : ℕ → ℕ → Row → Bool
is_of class kind r = (class_in r == class) && has_type r kind

-- the row of a class, a type and a word
unfoldable pub row_at : ℕ → ℕ → ℕ → Option Row
row_at class kind word = find (λ r. is_of class kind r && has_word r word) rows

-- some row has this class and type
unfoldable pub has_kind : ℕ → ℕ → Bool
has_kind class kind = list_any (is_of class kind) rows

-- the row that was found, or the fault where none was
abbrev pub row_or : Option Row → ℕ → ℕ → ℕ → Result Row FrameFault
row_or (Some r) class kind word = Ok r
row_or None class kind word =
    if nat_lt 2 class then Err (Class class) else
    if has_kind class kind then Err (Word kind word) else Err (Kind kind)

-- a row whose payload may have this length
abbrev pub sized : Result Row FrameFault → ℕ → ℕ → Result Row FrameFault
sized (Ok r) kind len = if has_size r (len - 24) then Ok r else Err (Payload kind len)
sized (Err fault) kind len = Err fault

-- the row of a header, or its first fault
unfoldable pub row_of : Header → Result Row FrameFault
row_of h =
    if nat_lt h.len 24 then Err (TooShort h.len) else
    if nat_lt 131072 h.len then Err (TooLong h.len) else
    sized (row_or (row_at h.class h.kind h.word) h.class h.kind h.word) h.kind h.len

-- a whole frame, or one whose content is outside its row
abbrev pub framed : Header → Option Body → Step
framed h (Some b) = Whole (record { number = record { 0 = h.number }; body = b }) h.len
framed h None = Fault (Payload h.kind h.len)

-- what a header's row or fault makes of the bytes
abbrev pub step_by : Header → Result Row FrameFault → List ℕ → Step
step_by h (Ok r) bytes = if nat_lt (length bytes) h.len then Partial else framed h (body_at r h.kind h.word (take (h.len - 24) (drop 24 bytes)))
step_by h (Err fault) bytes = Fault fault

-- the frame at the front of the bytes and its length, or less than a frame, or a fault
unfoldable pub step_of : List ℕ → Step
step_of bytes = if nat_lt (length bytes) 24 then Partial else step_by (header_at bytes) (row_of (header_at bytes)) bytes
