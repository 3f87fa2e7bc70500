use Rattle.std.proofs.Common.{◌∙◌}
use Rattle.guest_run.proofs.WireLaws.{fed, no_fault, same_error, no_error, came, comes}
use Rattle.guest_run.proofs.wire.pass.Goals as goal

pub returns-in-Some-clause-same : goal.returns-in-Some-clause-same
returns-in-Some-clause-same c =
    let held = fed c.args.frame.now c.none-bytes.result c.encode.new.out c.slice.result.now c.args.framer.now c.feed.new.self c.requires.fits c.none-bytes.ensures c.in_ok-encode.ensures.ok c.slice.ensures.value c.requires.idle (c.feed.ensures.follows c.requires.idle.stop (no_error _ _ _ c.in-Ok.is)) in
    (came _ _ _ _ held.0 c.in-Some.ensures.next).0

pub returns-in-Some-clause-idle : goal.returns-in-Some-clause-idle
returns-in-Some-clause-idle c =
    let held = fed c.args.frame.now c.none-bytes.result c.encode.new.out c.slice.result.now c.args.framer.now c.feed.new.self c.requires.fits c.none-bytes.ensures c.in_ok-encode.ensures.ok c.slice.ensures.value c.requires.idle (c.feed.ensures.follows c.requires.idle.stop (no_error _ _ _ c.in-Ok.is)) in
    record {
      ready = (came _ _ _ _ held.0 c.in-Some.ensures.next).1;
      rest = c.in-Some.ensures.rest ∙ held.1;
      stop = c.in-Some.ensures.stop ∙ c.in-Ok.ensures.ok.0;
    }

pub unreachable-requires : goal.unreachable-requires
unreachable-requires c =
    let held = fed c.args.frame.now c.none-bytes.result c.encode.new.out c.slice.result.now c.args.framer.now c.feed.new.self c.requires.fits c.none-bytes.ensures c.in_ok-encode.ensures.ok c.slice.ensures.value c.requires.idle (c.feed.ensures.follows c.requires.idle.stop (no_error _ _ _ c.in-Ok.is)) in
    comes _ _ held.0 c.in-None.ensures.next

pub unreachable-requires-in_default : goal.unreachable-requires-in_default
unreachable-requires-in_default c =
    let held = fed c.args.frame.now c.none-bytes.result c.encode.new.out c.slice.result.now c.args.framer.now c.feed.new.self c.requires.fits c.none-bytes.ensures c.in_ok-encode.ensures.ok c.slice.ensures.value c.requires.idle (c.feed.ensures.follows c.requires.idle.stop (λ e. c.in_default.not-NoMemory (same_error _ _ _ c.in-Err.is e))) in
    no_fault _ _ held.1 (c.in-Err.ensures.fault c.in_default.not-NoMemory).1
