use Rattle.std.proofs.Common.{Some, Err, ap}
use Rattle.guest_language.specs.Script.{whole_fault}
use Rattle.guest_language.specs.declared.fault.ScriptKind.TheVariants as kind
use Rattle.rump_sp.specs.declared.failure.Failure.TheVariants as failure
use Rattle.rump_sp.specs.Failure.{Tells}
use Rattle.rump_sp.specs.Top.{is_whole}
use Rattle.rump_sp.proofs.TopLaws.{tells_long, prints_nothing, prints_whole, status_in}
use Rattle.rump_sp.proofs.bench.bench_main.Goals as goal

pub returns-in-Err-Failed-clause-status : goal.returns-in-Err-Failed-clause-status
returns-in-Err-Failed-clause-status g c = status_in failure.Input _ c.fail.ensures.status

pub returns-in-Err-Failed-clause-told : goal.returns-in-Err-Failed-clause-told
returns-in-Err-Failed-clause-told g c = (Some failure.Input, c.fail.ensures.status, c.fail.ensures.told)

pub returns-in-Err-Failed-clause-other : goal.returns-in-Err-Failed-clause-other
returns-in-Err-Failed-clause-other g c = λ _. prints_nothing _ _ _

pub returns-in-Err-NoMemory-clause-told : goal.returns-in-Err-NoMemory-clause-told
returns-in-Err-NoMemory-clause-told g c =
    (Some failure.NoMemory, c.fail-in-Err-NoMemory.ensures.status, c.fail-in-Err-NoMemory.ensures.told)

pub returns-in-Err-NoMemory-clause-other : goal.returns-in-Err-NoMemory-clause-other
returns-in-Err-NoMemory-clause-other g c = λ _. prints_nothing _ _ _

pub returns-in-Err-TooLong-clause-status : goal.returns-in-Err-TooLong-clause-status
returns-in-Err-TooLong-clause-status g c = status_in (failure.Script (whole_fault kind.TooLong)) _ c.fail-in-Err-TooLong.ensures.status

pub returns-in-Err-TooLong-clause-script : goal.returns-in-Err-TooLong-clause-script
returns-in-Err-TooLong-clause-script g c = λ _.
    let e = g.E.Sink in
    let tells = Tells (e.faults c.args.err.now) (e.faults c.fail-in-Err-TooLong.new.err)
    (e.held c.args.err.now) (e.held c.fail-in-Err-TooLong.new.err) in
    tells_long (g.I.Source.left c.args.input.now) tells
    (c.in-Err-TooLong.ensures.too_long (ap Err c.in-Err-TooLong.field-0-is)) c.fail-in-Err-TooLong.ensures.told

pub returns-in-Err-TooLong-clause-told : goal.returns-in-Err-TooLong-clause-told
returns-in-Err-TooLong-clause-told g c =
    (Some (failure.Script (whole_fault kind.TooLong)), c.fail-in-Err-TooLong.ensures.status, c.fail-in-Err-TooLong.ensures.told)

pub returns-in-Err-TooLong-clause-other : goal.returns-in-Err-TooLong-clause-other
returns-in-Err-TooLong-clause-other g c = λ _. prints_nothing _ _ _

pub returns-in-Err-clause-status : goal.returns-in-Err-clause-status
returns-in-Err-clause-status g c = status_in c.in-Err.failure _ c.fail-in-Err.ensures.status

pub returns-in-Err-clause-told : goal.returns-in-Err-clause-told
returns-in-Err-clause-told g c = (Some c.in-Err.failure, c.fail-in-Err.ensures.status, c.fail-in-Err.ensures.told)

pub returns-in-Err-put_all-clause-status : goal.returns-in-Err-put_all-clause-status
returns-in-Err-put_all-clause-status g c = status_in failure.Output _ c.fail-in-Err-put_all.ensures.status

pub returns-in-Err-put_all-clause-told : goal.returns-in-Err-put_all-clause-told
returns-in-Err-put_all-clause-told g c = (Some failure.Output, c.fail-in-Err-put_all.ensures.status, c.fail-in-Err-put_all.ensures.told)

pub returns-in-Refused-clause-status : goal.returns-in-Refused-clause-status
returns-in-Refused-clause-status g c = status_in failure.NoMemory _ c.fail-in-Refused.ensures.status

pub returns-in-Refused-clause-told : goal.returns-in-Refused-clause-told
returns-in-Refused-clause-told g c = (Some failure.NoMemory, c.fail-in-Refused.ensures.status, c.fail-in-Refused.ensures.told)

pub returns-in-Refused-clause-other : goal.returns-in-Refused-clause-other
returns-in-Refused-clause-other g c = λ _.
    let shows = rw c.slice.ensures.value at c.in-Ok-show.ensures.shows in
    let appends = rw c.slice-2.ensures.value at c.in-Ok-put_all.ensures.all in
    prints_whole c.args.journals (is_whole c.in-Ok-show.shown.end) _ _ _ c.in-Ok.text c.in-Ok-show.shown.text c.in-Ok.ensures.all shows appends

pub returns-clause-status : goal.returns-clause-status
returns-clause-status g c = status_in failure.Salt _ c.fail-in-NoSalt.ensures.status

pub returns-clause-told : goal.returns-clause-told
returns-clause-told g c = (Some failure.Salt, c.fail-in-NoSalt.ensures.status, c.fail-in-NoSalt.ensures.told)

pub returns-clause-other : goal.returns-clause-other
returns-clause-other g c = λ _.
    let shows = rw c.slice.ensures.value at c.in-Ok-show.ensures.shows in
    let appends = rw c.slice-2.ensures.value at c.in-Ok-put_all.ensures.all in
    prints_whole c.args.journals (is_whole c.in-Ok-show.shown.end) _ _ _ c.in-Ok.text c.in-Ok-show.shown.text c.in-Ok.ensures.all shows appends
