use Rattle.std.proofs.Common.{◌≡◌, ℕ, refl, ap, sym, ◌∙◌}
use Rattle.std.specs.FinMap.{FinMap, get, insert}
use Rattle.std.specs.Ordering.{nat_cmp}
use Rattle.std.specs.Prelude.{◌+◌, Option}
use Rattle.world_model.specs.Host.{count_in}
use Rattle.world_model.specs.State.{World}
use Rattle.sp_world.proofs.HostLaws.{all_performed, count_within, done, some_entry}
use Rattle.sp_world.proofs.parts.Parts.perform.Goals as goal

pub next_count-count-requires-clause-within : goal.next_count-count-requires-clause-within
next_count-count-requires-clause-within c =
    let guest = c.args.call.guest in
    let is : c.copied-before.result ≡ get c.args.self.now.counts guest =
    c.copied-before.ensures ∙ c.get.ensures ∙ ap (λ (w : World). get w.counts guest) c.self.view_is in
    count_within c.args.most guest c.args.self.now.counts c.copied-before.result is c.requires.within.counts

pub see_last-requires : goal.see_last-requires
see_last-requires c =
    let performs = c.in-Done.ensures.done c.in-Done.place refl in
    some_entry c.try_act.new.self.items c.self.inside.host.items performs.entry performs.items

pub returns-in-Done : goal.returns-in-Done
returns-in-Done c =
    let guest = c.args.call.guest in
    let old : World = c.args.self.now in
    let host = c.try_act.new.self.items in
    let mid : World = record {
      rump = c.self.inside.hub;
      clients = c.self.inside.clients;
      links = c.self.inside.links;
      host = host;
      counts = c.insert.new.self;
      waiting = c.self.inside.waiting.items;
    } in
    let count = c.next_count-count.result in
    let is : c.copied-before.result ≡ get old.counts guest =
    c.copied-before.ensures ∙ c.get.ensures ∙ ap (λ (w : World). get w.counts guest) c.self.view_is in
    let counted : count ≡ count_in (get old.counts guest) + 1 = c.next_count-count.ensures ∙ ap (λ (o : Option ℕ). count_in o + 1) is in
    let table : c.insert.new.self ≡ insert c.self.inside.counts guest count = done c.insert.result c.insert.ensures.ok (sym c.if-is_err.ensures.value) in
    let counts : c.insert.new.self ≡ insert old.counts guest count = table ∙ ap (λ (w : World). insert w.counts guest count) c.self.view_is in
    let put : mid ≡ record old { host = host; counts = insert old.counts guest count } =
    ap (λ (w : World). record w { host = host; counts = c.insert.new.self }) c.self.view_is
    ∙ ap (λ (m : FinMap nat_cmp ℕ). record old { host = host; counts = m }) counts in
    let same = ap (λ (w : World). w.host) (sym c.self.view_is) in
    all_performed old mid c.see_last.new.self c.self.inside.host c.try_act.new.self c.args.call count c.in-Done.place.0 c.args.mem c.see_last.result
    same counted (c.in-Done.ensures.done c.in-Done.place refl) put c.see_last.ensures
