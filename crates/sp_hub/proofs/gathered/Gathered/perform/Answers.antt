use Rattle.std.proofs.Common.{◌∙◌, sym, ap}
use Rattle.std.specs.Option.{option_copied}
use Rattle.sp_hub.proofs.Works.{rooms_for}
use Rattle.sp_hub.proofs.gathered.Gathered.perform.Goals as goal

pub tell-requires-clause-rooms : goal.tell-requires-clause-rooms
tell-requires-clause-rooms c =
    let last = rw c.journal.ensures.journal at c.last.ensures.value in
    let rooms = rooms_for c.args.kernel.now.items _ c.args.self c.in-Ok.place.0 c.in-Some.entry.now c.requires.fits c.in-Ok.ensures.ok (sym (ap option_copied c.in-Some.is) ∙ last) in
    rw (c.in_ok-telling.ensures.room, c.slice.ensures, c.outs-ranges.ensures) rooms
