-- The grammar: how each frame is spelled, and which frames are within their rows.
use Rattle.std.specs.Prelude.{◌≡◌, ℕ, ◌+◌, ◌<◌, ◌≤◌, ◌^◌, ◌==◌, ◌&&◌, ◌||◌, not, Bool, true, false, List, [], ◌∷◌, ◌++◌, length, slice_index}
use Rattle.std.specs.List.{flat_map, list_any, AllByRecursion}
use Rattle.sp_base.specs.Names.{sp_error_number}
use Rattle.sp_base.specs.declared.names.Cookie.{Cookie}
use Rattle.sp_frames.specs.declared.frame.Body.{Body}
use Rattle.sp_frames.specs.declared.frame.Body.TheVariants.{Guest, Join, Image, Sys, AskBytes, AskText, Put, Prefork, Cancel, Preexec, Hello, Joined, Imaged, Answered, GotBytes, GotText, Forked, Cancelled, ExecReady, Refused}
use Rattle.sp_frames.specs.declared.frame.Frame.{Frame}
use Rattle.sp_frames.specs.declared.frame.TheConstants.{INDEX_LIMIT}
use Rattle.sp_frames.specs.declared.header.Header.{Header}
use Rattle.sp_frames.specs.Fields.{le16, le32, le64, IsBytes, Number, n32, n64, NumberFits, front_bytes}

-- what a body puts into its frame: class, type and word of the header, and a payload of numbers with bytes behind them
pub record Parts : Type 0 where
  pub class : ℕ
  pub kind : ℕ
  pub word : ℕ
  pub front : List Number
  pub tail : List ℕ

-- the two numbers of a cookie
abbrev pub cookie_numbers : Cookie → List Number → List Number
cookie_numbers cookie numbers = n64 cookie.number ∷ n64 cookie.salt ∷ numbers

-- the table, a row for each body; class 0 is a request, 1 a response, 2 an error
abbrev pub parts_of : Body → Parts
parts_of (Guest name) = record { class = 0; kind = 0; word = 0; front = []; tail = name }
parts_of (Join cookie name) = record { class = 0; kind = 0; word = 1; front = cookie_numbers cookie []; tail = name }
parts_of (Image cookie name) = record { class = 0; kind = 0; word = 2; front = cookie_numbers cookie []; tail = name }
parts_of (Sys num words) = record { class = 0; kind = 1; word = num; front = []; tail = flat_map le64 words }
parts_of (AskBytes index addr len) = record { class = 0; kind = 2; word = index; front = n64 addr ∷ n64 len ∷ []; tail = [] }
parts_of (AskText index addr max) = record { class = 0; kind = 3; word = index; front = n64 addr ∷ n64 max ∷ []; tail = [] }
parts_of (Put index addr bytes) = record { class = 0; kind = 4; word = index; front = n64 addr ∷ []; tail = bytes }
parts_of Prefork = record { class = 0; kind = 5; word = 0; front = []; tail = [] }
parts_of (Cancel cookie) = record { class = 0; kind = 5; word = 1; front = cookie_numbers cookie []; tail = [] }
parts_of Preexec = record { class = 0; kind = 6; word = 0; front = []; tail = [] }
parts_of (Hello pid) = record { class = 1; kind = 0; word = 0; front = n32 pid.0 ∷ []; tail = [] }
parts_of (Joined pid) = record { class = 1; kind = 0; word = 1; front = n32 pid.0 ∷ []; tail = [] }
parts_of (Imaged pid place) = record { class = 1; kind = 0; word = 2; front = n32 pid.0 ∷ n64 place.0 ∷ []; tail = [] }
parts_of (Answered answer) = record { class = 1; kind = 1; word = answer.err; front = n64 answer.ret0 ∷ n64 answer.ret1 ∷ n64 answer.place.0 ∷ []; tail = [] }
parts_of (GotBytes index err bytes) = record { class = 1; kind = 2; word = index; front = n32 err ∷ []; tail = bytes }
parts_of (GotText index err bytes) = record { class = 1; kind = 3; word = index; front = n32 err ∷ []; tail = bytes }
parts_of (Forked cookie place pid) = record { class = 1; kind = 5; word = 0; front = cookie_numbers cookie (n64 place.0 ∷ n64 pid.0 ∷ []); tail = [] }
parts_of Cancelled = record { class = 1; kind = 5; word = 1; front = []; tail = [] }
parts_of (ExecReady cookie) = record { class = 1; kind = 6; word = 0; front = cookie_numbers cookie []; tail = [] }
parts_of (Refused kind why) = record { class = 2; kind = kind; word = sp_error_number why; front = []; tail = [] }

-- the bytes behind a body's header
abbrev pub payload_of : Body → List ℕ
payload_of body = front_bytes (parts_of body).front ++ (parts_of body).tail

-- the header of a frame: the whole frame's length, the request's number, and its body's class, type and word
abbrev pub header_of : Frame → Header
header_of frame = record {
  len = 24 + length (payload_of frame.body);
  number = frame.number.0;
  class = (parts_of frame.body).class;
  kind = (parts_of frame.body).kind;
  word = (parts_of frame.body).word;
}

-- the 24 bytes of a header
abbrev pub header_bytes : Header → List ℕ
header_bytes h = le64 h.len ++ (le64 h.number ++ (le16 h.class ++ (le16 h.kind ++ le32 h.word)))

-- the one spelling of a frame
abbrev pub spelling : Frame → List ℕ
spelling frame = header_bytes (header_of frame) ++ payload_of frame.body

-- a name has 1 to 255 bytes, none of them zero
pub record IsName (name : List ℕ) : Type 0 where
  pub some : 0 < length name
  pub few : length name ≤ 255
  pub bytes : IsBytes name
  pub nonzero : list_any (λ b. b == 0) name ≡ false

-- at most eight words
pub record AreWords (words : List ℕ) : Type 0 where
  pub few : length words ≤ 8
  pub fits : (i : ℕ) → slice_index words i < 2 ^ 64

-- bytes, so many at most
abbrev pub IsPiece : ℕ → List ℕ → Type 0
IsPiece most bytes = (length bytes ≤ most) × IsBytes bytes

-- bytes come without an error, or none with error 14
abbrev pub is_answer : ℕ → List ℕ → Bool
is_answer err bytes = (err == 0) || ((err == 14) && (length bytes == 0))

-- a text without a zero comes without an error, or none with error 14 or 63
abbrev pub is_text_answer : ℕ → List ℕ → Bool
is_text_answer err bytes = ((err == 0) || (((err == 14) || (err == 63)) && (length bytes == 0))) && not (list_any (λ b. b == 0) bytes)

-- the types of requests that may be refused
abbrev pub may_be_refused : ℕ → Bool
may_be_refused kind = (kind == 0) || (kind == 1) || (kind == 5) || (kind == 6)

-- what a row asks of its body beyond the widths of its numbers
abbrev pub RowFits : Body → Type 0
RowFits (Guest name) = IsName name
RowFits (Join cookie name) = IsName name
RowFits (Image cookie name) = IsName name
RowFits (Sys num words) = AreWords words
RowFits (AskBytes index addr len) = index < INDEX_LIMIT
RowFits (AskText index addr max) = index < INDEX_LIMIT
RowFits (Put index addr bytes) = (index < INDEX_LIMIT) × (0 < length bytes) × IsPiece 131040 bytes
RowFits (GotBytes index err bytes) = (index < INDEX_LIMIT) × IsPiece 131044 bytes × (is_answer err bytes ≡ true)
RowFits (GotText index err bytes) = (index < INDEX_LIMIT) × IsPiece 1023 bytes × (is_text_answer err bytes ≡ true)
RowFits (Forked cookie place pid) = pid.0 < 2 ^ 32
RowFits (Refused kind why) = may_be_refused kind ≡ true
RowFits _ = Unit {0}

-- a body is within its row
pub record BodyFits (body : Body) : Type 0 where
  pub word : (parts_of body).word < 2 ^ 32
  pub front : AllByRecursion NumberFits (parts_of body).front
  pub row : RowFits body

-- a frame is within its row
pub record Fits (frame : Frame) : Type 0 where
  pub number : frame.number.0 < 2 ^ 64
  pub body : BodyFits frame.body
