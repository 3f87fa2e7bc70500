-- What a channel's two kinds stand for.
use Rattle.socket_model.specs.Channel.{Channel, Bytes, Letters}
use Rattle.kern_local.specs.declared.chan.Kind.{Kind}
use Rattle.kern_local.specs.declared.chan.Kind.TheVariants as kind

-- a channel of bytes or of letters
abbrev pub channel_of : Kind → Channel
channel_of (kind.Bytes stream) = Bytes stream
channel_of (kind.Letters post) = Letters post
