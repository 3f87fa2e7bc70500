-- A channel of bytes, by its track.
use Rattle.std.proofs.Common.{◌≡◌, Option, None, Some, IsSome, length, refl}
use Rattle.socket_model.specs.Channel.{Channel, Bytes, Letters, IsBytes, IsLetters, bytes_in, letters_in, held, count_held, ends_of}

pub bytes_is_some : (o : Option Channel) → IsBytes o → IsSome o
bytes_is_some None h = absurd h
bytes_is_some (Some x) h = refl

pub letters_is_some : (o : Option Channel) → IsLetters o → IsSome o
letters_is_some None h = absurd h
letters_is_some (Some x) h = refl

pub bytes_count : (o : Option Channel) → IsBytes o → count_held o ≡ length (held (bytes_in o))
bytes_count None h = absurd h
bytes_count (Some (Bytes t)) h = refl
bytes_count (Some (Letters t)) h = absurd h

pub letters_count : (o : Option Channel) → IsLetters o → count_held o ≡ length (held (letters_in o))
letters_count None h = absurd h
letters_count (Some (Bytes t)) h = absurd h
letters_count (Some (Letters t)) h = refl

pub bytes_ends : (o : Option Channel) → IsBytes o → ends_of o ≡ ((bytes_in o).reading_shut, (bytes_in o).writing_shut)
bytes_ends None h = absurd h
bytes_ends (Some (Bytes t)) h = refl
bytes_ends (Some (Letters t)) h = absurd h

pub ruleset channel_rules = (bytes_is_some, letters_is_some, bytes_count, letters_count, bytes_ends)
