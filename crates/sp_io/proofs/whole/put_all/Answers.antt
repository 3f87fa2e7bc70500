use Rattle.std.proofs.Common.{◌≡◌, ◌++◌, OnErr, Result, Err, Ok, take, drop, arith, sym, ap, ◌∙◌, append_assoc}
use Rattle.std.proofs.lemmas.List.{take-append-drop}
use Rattle.sp_io.proofs.Known.{appends_then, appends_front}
use Rattle.sp_io.proofs.whole.put_all.Goals as goal

pub loop-rest-preserved : goal.loop-rest-preserved
loop-rest-preserved g c =
    let s = g.K.Sink in
    let i = c.loop-rest.invariant in
    let rest = c.loop-rest.rest.now in
    let n = c.in_ok-count.count in
    let parts : c.args.bytes.now ≡ (i.sofar.0 ++ take n rest) ++ c.split_at.result.1.now =
    rw c.split_at.ensures.back (i.sofar.1 ∙ ap (λ (x : _). i.sofar.0 ++ x) (sym (take-append-drop n rest)) ∙ sym (append_assoc i.sofar.0 (take n rest) (drop n rest))) in
    record {
      sofar = (i.sofar.0 ++ take n rest, parts, appends_then (s.held c.args.sink.now) (s.held c.loop-rest.sink) (s.held c.put.new.self) i.sofar.0 (take n rest) i.sofar.2 c.in_ok-count.ensures.held);
      «open» = c.in_ok-count.ensures.open;
      later = omega (arith, i.later, c.in_ok-count.ensures.cause.later);
    }

on_err : {T E : Type 0} (r : Result T E) (P : Type 0) → P → OnErr r P
on_err (Ok u) P p = tt
on_err (Err e) P p = p

pub returns-in_err-count-clause-front : goal.returns-in_err-count-clause-front
returns-in_err-count-clause-front g c =
    let s = g.K.Sink in
    let i = c.loop-rest.invariant in
    on_err c.from_residual.result _ (appends_front (s.held c.args.sink.now) (s.held c.loop-rest.sink) (s.held c.put.new.self) i.sofar.0 c.loop-rest.rest.now c.args.bytes.now i.sofar.1 i.sofar.2 c.in_err-count.ensures.held)
