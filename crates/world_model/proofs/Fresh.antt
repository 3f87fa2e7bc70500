-- What holds of every history holds of one in which nothing happened yet.
use Rattle.std.proofs.Common.{◌≡◌, ℕ, List, [], Some, None, refl, sym, subst}
use Rattle.std.specs.FinMap.{get-empty}
use Rattle.std.specs.Ordering.{nat_cmp}
use Rattle.sp_base.specs.declared.names.ConnNo.{ConnNo}
use Rattle.sp_frames.specs.declared.version.Version.{Version}
use Rattle.hub_model.proofs.Sound.{fresh_sound}
use Rattle.hub_law.proofs.Keys.{HasNone}
use Rattle.hub_law.proofs.Lists.{empty_front}
use Rattle.world_model.specs.Log.{IsIn, asked}
use Rattle.world_model.specs.Run.{Item, fresh_history}
use Rattle.world_model.proofs.Kept.{Kept}
use Rattle.world_model.proofs.Lane.Lane.{Absent}
use Rattle.world_model.proofs.Left.OverAt.{Never}
use Rattle.world_model.proofs.Slice.{number}

-- an empty journal has no entry of a request
none_yet : (c : ConnNo) (n : ℕ) → HasNone [] c (number n)
none_yet c n place e at = let k : None ≡ Some e = at.0 in cc

-- what holds of every history holds at the start
pub fresh_kept : (version : Version) → Kept (fresh_history version)
fresh_kept version = record {
  sound = fresh_sound version;
  lanes = λ c. Absent (get-empty nat_cmp c.0) (get-empty nat_cmp c.0) (get-empty nat_cmp c.0) (λ n. Never refl refl (none_yet c n)) (λ n. refl);
  fine = tt;
  lost = λ item c i e. absurd i;
  after = λ later earlier split c d r q answer ask p place e f i j a b.
      absurd (subst (λ (log : List Item). IsIn ask (asked d q.0 log)) (empty_front later earlier (sym split)) j);
}
