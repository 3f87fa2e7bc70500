use Rattle.std.proofs.Common.{refl}
use Rattle.kern_model.proofs.NamesLaws.{inserted, replaced}
use Rattle.kern_model.proofs.name_map.put_name.Goals as goal

pub returns-then-is_first-clause-ok : goal.returns-then-is_first-clause-ok
returns-then-is_first-clause-ok c = replaced c.args.path c.index_mut.result.now.path c.args.node c.place_of-place.result c.args.names.now.items c.index_mut.result.now refl c.index_mut.ensures.value (rw (c.deref.ensures.value, c.slice.ensures) at c.place_of-place.ensures.before) (rw (c.split_at.ensures.back, c.deref-2.ensures.value, c.slice-2.ensures) at (c.is_first.ensures.yes c.if-is_first.true))

pub returns-clause-ok : goal.returns-clause-ok
returns-clause-ok c = rw c.in_ok-insert.ensures.items (inserted c.args.path c.args.node c.place_of-place.result c.args.names.now.items (rw c.deref.ensures.value at c.place_of-place.ensures.inside) (rw (c.deref.ensures.value, c.slice.ensures) at c.place_of-place.ensures.before) (rw (c.deref.ensures.value, c.slice.ensures) at c.place_of-place.ensures.behind) (rw (c.split_at.ensures.back, c.deref-2.ensures.value, c.slice-2.ensures) at (c.is_first.ensures.no c.if-is_first.false)))
