-- What a fault says of the bytes that have it.
use Rattle.std.specs.Prelude.{◌≡◌, ◌⊎◌, ℕ, ◌-◌, ◌<◌, ◌≤◌, ◌^◌, List, ◌++◌, length, take}
use Rattle.sp_frames.specs.declared.fault.FrameFault.{FrameFault}
use Rattle.sp_frames.specs.declared.fault.FrameFault.TheVariants.{TooShort, TooLong, Class, Kind, Word, Payload, NoMemory}
use Rattle.sp_frames.specs.declared.frame.Body.{Body}
use Rattle.sp_frames.specs.declared.header.Header.{Header}
use Rattle.sp_frames.specs.Fields.{IsBytes}
use Rattle.sp_frames.specs.Grammar.{parts_of, payload_of, header_bytes, BodyFits}

-- each field of a header is within its width
pub record HeaderFits (h : Header) : Type 0 where
  pub len : h.len < 2 ^ 64
  pub number : h.number < 2 ^ 64
  pub class : h.class < 2 ^ 16
  pub kind : h.kind < 2 ^ 16
  pub word : h.word < 2 ^ 32

-- the bytes are a header and what follows it
pub record BeginsWith (bytes : List ℕ) (h : Header) (more : List ℕ) : Type 0 where
  pub text : bytes ≡ header_bytes h ++ more
  pub fits : HeaderFits h
  pub rest_bytes : IsBytes more

-- a row of the table has this class and type
pub record IsOfKind (class kind : ℕ) (body : Body) : Type 0 where
  pub fits : BodyFits body
  pub same_class : (parts_of body).class ≡ class
  pub same_kind : (parts_of body).kind ≡ kind

-- the class has this type
abbrev pub HasKind : ℕ → ℕ → Type 0
HasKind class kind = (body : Body) × IsOfKind class kind body

-- the type has this word
abbrev pub HasWord : ℕ → ℕ → ℕ → Type 0
HasWord class kind word = (body : Body) × IsOfKind class kind body × ((parts_of body).word ≡ word)

-- the row has a payload of this length
abbrev pub HasSize : ℕ → ℕ → ℕ → ℕ → Type 0
HasSize class kind word size = (body : Body) × IsOfKind class kind body × ((parts_of body).word ≡ word) × (length (payload_of body) ≡ size)

-- the row has this payload
abbrev pub HasPayload : ℕ → ℕ → ℕ → List ℕ → Type 0
HasPayload class kind word payload = (body : Body) × IsOfKind class kind body × ((parts_of body).word ≡ word) × (payload_of body ≡ payload)

-- a frame has 24 to 131,072 bytes
abbrev pub IsLength : ℕ → Type 0
IsLength len = (24 ≤ len) × (len ≤ 131072)

-- the payload that a header announces is outside its row: its length is, or it is whole and its content is
abbrev pub IsOutside : Header → List ℕ → Type 0
IsOutside h more =
    ¬ HasSize h.class h.kind h.word (h.len - 24) ⊎ (h.len - 24 ≤ length more) × ¬ HasPayload h.class h.kind h.word (take (h.len - 24) more)

-- a header and what follows it have this fault, and none of the cases before it
abbrev pub IsFaultOf : Header → List ℕ → FrameFault → Type 0
IsFaultOf h more (TooShort len) = (len ≡ h.len) × (h.len < 24)
IsFaultOf h more (TooLong len) = (len ≡ h.len) × (131072 < h.len)
IsFaultOf h more (Class class) = (class ≡ h.class) × IsLength h.len × (2 < h.class)
IsFaultOf h more (Kind kind) = (kind ≡ h.kind) × IsLength h.len × (h.class ≤ 2) × ¬ HasKind h.class h.kind
IsFaultOf h more (Word kind word) = (kind ≡ h.kind) × (word ≡ h.word) × IsLength h.len × HasKind h.class h.kind × ¬ HasWord h.class h.kind h.word
IsFaultOf h more (Payload kind len) = (kind ≡ h.kind) × (len ≡ h.len) × IsLength h.len × HasWord h.class h.kind h.word × IsOutside h more
IsFaultOf h more NoMemory = ⊥

-- the bytes begin with a header that has this fault, or with a whole frame whose content has it
abbrev pub HasFault : List ℕ → FrameFault → Type 0
HasFault bytes fault = (h : Header) × (more : List ℕ) × BeginsWith bytes h more × IsFaultOf h more fault

-- the bytes begin with no fault
abbrev pub NoFault : List ℕ → Type 0
NoFault bytes = (fault : FrameFault) → HasFault bytes fault → ⊥
