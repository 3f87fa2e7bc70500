use Rattle.std.proofs.Common.{ap, Some}
use Rattle.socket_model.specs.Socket.{Socket}
use Rattle.socket_model.specs.Sound.{ends_in}
use Rattle.kern_local.specs.Listed.{Listed}
use Rattle.kern_local.proofs.JoinLemmas.{sound_pair_at}
use Rattle.kern_local.proofs.socks.Socks.pair.Goals as goal

pub invariant_of-self-2 : goal.invariant_of-self-2
invariant_of-self-2 c =
    sound_pair_at _ _ _ _ _ _ c.args.kind c.set_ends.new.self c.set_ends-2.new.self c.in_ok-c.c.0 c.in_ok-c.d.0
    (ap (λ (l : Listed Socket). l.items) c.in_ok-reserve.ensures.ok)
    (ap (λ (l : Listed Socket). l.items) c.add-first.ensures.added) (ap (λ (l : Listed Socket). l.items) c.add-second.ensures.added)
    c.in_ok-c.ensures.made c.in_ok-c.ensures.numbers.0 c.in_ok-c.ensures.numbers.1
    (ap (λ (x : Socket). ends_in (Some x)) c.set_ends.ensures) (ap (λ (x : Socket). x.kind) c.in_ok-first.ensures)
    (ap (λ (x : Socket). ends_in (Some x)) c.set_ends-2.ensures) (ap (λ (x : Socket). x.kind) c.in_ok-second.ensures) c.self.invariant
