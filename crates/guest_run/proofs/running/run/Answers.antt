use Rattle.std.proofs.Common.{List, subst, sym, ◌∙◌}
use Rattle.sp_frames.specs.Grammar.{IsName}
use Rattle.kern_model.specs.declared.journal.Entry.{Entry}
use Rattle.guest_run.specs.Guest.{Key, process_of, first_key, last_key}
use Rattle.guest_run.specs.Run.{AreTold}
use Rattle.guest_run.proofs.NameLaws.{name_is}
use Rattle.guest_run.proofs.RunLaws.{is_over}
use Rattle.guest_run.proofs.running.run.Goals as goal

pub greeted-requires : goal.greeted-requires
greeted-requires g c =
    subst IsName (sym (c.in_ok-name.ensures ∙ c.slice.ensures.value)) (name_is c.args.section.now.name c.requires.sound.named c.slice.ensures.fits)

pub tell_all-requires-clause-name : goal.tell_all-requires-clause-name
tell_all-requires-clause-name g c = name_is c.args.section.now.name c.requires.sound.named c.slice.ensures.fits

pub returns-clause-run : goal.returns-clause-run
returns-clause-run g c =
    let begun = c.in_ok-joined.ensures in
    let pid = process_of begun.attach in
    let section = c.args.section.now in
    let to = c.in_ok-end.ensures.told pid begun.rest in
    let now = c.tell_all.new.joined in
    let rows = c.tell_all.new.rows in
    let first = subst (λ (key : Key). AreTold section.name pid 1 key c.in_ok-joined.joined.hub.journal section.lines
    (record { rows = rows; end = c.in_ok-end.end; conn = to.conn; journal = now.hub.journal })) begun.first to.told in
    record {
      attach = begun.attach;
      conn = to.conn;
      journal = now.hub.journal;
      attached = begun.made;
      told = subst (λ (before : List Entry). AreTold section.name pid 1 first_key before section.lines
          (record { rows = rows; end = c.in_ok-end.end; conn = to.conn; journal = now.hub.journal })) begun.journal first;
      ended = is_over c.in_ok-end.end to.conn now.conn pid now.hub.journal c.finish.new.joined.hub.journal to.last
          (c.finish.ensures pid (λ whole. c.in_ok-end.ensures.rest whole pid begun.rest));
    }
