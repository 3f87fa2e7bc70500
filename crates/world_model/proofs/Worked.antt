-- What comes of a request whose call is worked: the next of what it reads is asked for, or it is performed or refused.
use Rattle.std.proofs.Common.{◌≡◌, ℕ, ◌<◌, Bool, true, false, List, [], ◌∷◌, ◌++◌, length, Option, Some, None, slice_get, refl, sym, ap, ◌∙◌, subst}
use Rattle.std.specs.Prelude.{not}
use Rattle.sp_base.specs.Needs.{needs_of}
use Rattle.sp_base.specs.declared.call.Call.{Call}
use Rattle.sp_base.specs.declared.errno.Errno.{Errno}
use Rattle.sp_base.specs.declared.names.ConnNo.{ConnNo}
use Rattle.sp_base.specs.declared.names.Pid.{Pid}
use Rattle.sp_base.specs.declared.names.SpError.TheVariants as error
use Rattle.sp_base.specs.declared.need.Need.{Need}
use Rattle.sp_copy.proofs.Places.{all_stay}
use Rattle.sp_frames.specs.declared.frame.Body.TheVariants as body
use Rattle.sp_frames.specs.declared.frame.Frame.{Frame}
use Rattle.kern_model.specs.Journal.{next_entry, state_after}
use Rattle.kern_model.specs.declared.journal.Entry.{Entry}
use Rattle.kern_model.specs.declared.journal.Who.TheVariants.{Request}
use Rattle.kern_model.specs.declared.operation.Ins.{Ins}
use Rattle.kern_model.specs.declared.operation.Ins.TheVariants.{Given, Fault}
use Rattle.kern_model.specs.declared.operation.Op.{Op}
use Rattle.kern_model.specs.declared.operation.Op.TheVariants.{Sys}
use Rattle.hub_model.specs.Frames.{answer_at, ask, refusal, told}
use Rattle.hub_model.specs.declared.state.OpenCall.{OpenCall}
use Rattle.hub_model.specs.declared.state.OpenCall.TheVariants.{Gathers, Fails, Answers}
use Rattle.hub_model.proofs.Entries.{nexts}
use Rattle.hub_law.proofs.Keys.{HasNone, next_is, only_push}
use Rattle.hub_law.proofs.Lists.{get_end}
use Rattle.client_model.specs.declared.request.Request.TheVariants as request
use Rattle.client_model.specs.declared.request.Response.TheVariants as response
use Rattle.link_model.specs.Direct.{reads}
use Rattle.link_model.proofs.Ranges.{writes_inside}
use Rattle.world_model.specs.Host.{read_for}
use Rattle.world_model.specs.Once.{IsOpOf, may_change}
use Rattle.world_model.proofs.Fronts.{front_ends}
use Rattle.world_model.proofs.Slice.{Slice, number}
use Rattle.world_model.proofs.Stage.{At, Calling, IsEntryOf, IsTelling, Stage, Stands, ask_of, untouched}
use Rattle.world_model.proofs.Stage.Entered.{NotYet, Once}
use Rattle.world_model.proofs.Stage.Stage.{Asking, Closed, Copying, Failing, Fresh, Held, Sent, Telling, Told}

-- a call that isn't performed yet has no reply
pub open_untold : (journal : List Entry) (c : ConnNo) (n : ℕ) (σ : Slice) (task : OpenCall) → σ.task ≡ Some task → (s : Stage) → At journal c n σ s
    → σ.told ≡ []
open_untold journal c n σ task there (Closed ask answer) h = absurd (let k = sym there ∙ h.task in cc)
open_untold journal c n σ task there Fresh h = h.told
open_untold journal c n σ task there (Sent ask says) h = h.told
open_untold journal c n σ task there (Held a got) h = h.told
open_untold journal c n σ task there (Asking a got need) h = h.told
open_untold journal c n σ task there (Copying a got need) h = h.told
open_untold journal c n σ task there (Failing a why) h = h.told
open_untold journal c n σ task there (Telling ask indexes now index todo says) h = h.told
open_untold journal c n σ task there (Told ask indexes now what) h = h.told

-- ---- the next is asked for

-- the next of what the call reads is asked for
pub asks_next : (journal : List Entry) (c : ConnNo) (n : ℕ) (σ : Slice) (call : Call) (got : List (List ℕ)) (need : Need)
    → σ.task ≡ Some (Gathers call got false) → slice_get (needs_of call) (length got) ≡ Some need → (s : Stage) → At journal c n σ s
    → Stands journal c n (record σ { task = Some (Gathers call got true); down = σ.down ++ ask (number n) (length got) need ∷ [] })
asks_next journal c n σ call got need there next (Held a had) h =
    let same : Some (Gathers a.call had false) ≡ Some (Gathers call got false) = sym h.task ∙ there in
    let same_call : a.call ≡ call = cc in
    let same_got : had ≡ got = cc in (
      Asking a had need,
      record {
        asked = h.asked;
        told = h.told;
        request = h.request;
        up = h.up;
        task = cc;
        down = rw (h.down, same_got) refl;
        fact = record {
          gathering = h.fact;
          next = ap (λ (k : Call). slice_get (needs_of k) (length had)) same_call ∙ ap
              (λ (g : List (List ℕ)). slice_get (needs_of call) (length g)) same_got ∙ next;
        };
      },
    )
asks_next journal c n σ call got need there next s h = absurd (let k = sym there ∙ h.task in cc)

-- ---- the call is performed

module _ (journal : List Entry) (c : ConnNo) (n : ℕ) (a : Calling) (none : HasNone journal c (number n)) where
  -- the call was refused for want of memory
  refuse_tells : 1 < n → IsTelling journal c n (ask_of a) (untouched a.mem) [] (body.Refused 1 error.Memory)
  refuse_tells later = record {
    number = later;
    entered = NotYet none;
    kind = refl;
    inside = tt;
    changes = all_stay (may_change (ask_of a).what) a.mem;
    what = response.Refused error.Memory;
    brings = refl;
    right = record { none = none; same = refl };
  }

  -- the call was performed: its entry is the last one
  perform_tells : (pid : Pid) (e : Entry) → 1 < n → next_entry journal pid (Request c (number n)) (Sys a.call) (reads a.call a.mem) ≡ Some e
      → IsTelling (journal ++ e ∷ []) c n (ask_of a) (untouched a.mem) e.outcome.outs (body.Answered (answer_at e.outcome (length journal)))
  perform_tells pid e later h =
      let by = next_is journal pid (Request c (number n)) (Sys a.call) (reads a.call a.mem) e h in
      let next = nexts journal pid (Request c (number n)) (Sys a.call) (reads a.call a.mem) e h in
      let entry : IsEntryOf (journal ++ e ∷ []) c n (ask_of a) (length journal) e = record {
        stands = (get_end journal e, by.who_is);
        only = only_push c (number n) journal e none;
        operation = subst (λ (o : Op). IsOpOf (request.Call a.call) o) (sym by.op_is) refl;
        reads = by.ins_are ∙ ap (λ (o : Op). read_for o a.mem) (sym by.op_is);
      } in
      record {
        number = later;
        entered = Once (length journal) e entry;
        kind = tt;
        inside = writes_inside (state_after journal) pid.0 a.call (reads a.call a.mem) e.outcome next.next next.acts;
        changes = all_stay (may_change (ask_of a).what) a.mem;
        what = response.Answered (answer_at e.outcome (length journal));
        brings = refl;
        right = (record { call = a.call; calls = refl; entry = e; of = entry; delivers = refl }, refl);
      }

-- what is queued where a call is performed, or refused
abbrev pub queued : Slice → List Frame → Slice
queued σ says = record σ { task = None; down = σ.down ++ says }

-- a call that has all that it reads is performed
pub given_performs : (journal : List Entry) (c : ConnNo) (n : ℕ) (σ : Slice) (call : Call) (got : List (List ℕ)) (pid : Pid) (e : Entry)
    → σ.task ≡ Some (Gathers call got false) → slice_get (needs_of call) (length got) ≡ None
    → next_entry journal pid (Request c (number n)) (Sys call) (Given got) ≡ Some e → (s : Stage) → At journal c n σ s
    → Stands (journal ++ e ∷ []) c n (queued σ (told (number n) e.outcome (length journal)))
given_performs journal c n σ call got pid e there next entry (Held a had) h =
    let same : Some (Gathers a.call had false) ≡ Some (Gathers call got false) = sym h.task ∙ there in
    let same_call : call ≡ a.call = cc in
    let same_got : got ≡ had = cc in
    let gone : slice_get (needs_of a.call) (length had) ≡ None =
    ap (λ (k : Call). slice_get (needs_of k) (length had)) (sym same_call)
    ∙ ap (λ (g : List (List ℕ)). slice_get (needs_of call) (length g)) (sym same_got) ∙ next in
    let made : next_entry journal pid (Request c (number n)) (Sys a.call) (reads a.call a.mem) ≡ Some e =
    ap (λ (i : Ins). next_entry journal pid (Request c (number n)) (Sys a.call) i)
    (front_ends a.call a.mem had h.fact.front gone ∙ ap (λ (g : List (List ℕ)). Given g) (sym same_got))
    ∙ ap (λ (k : Call). next_entry journal pid (Request c (number n)) (Sys k) (Given got)) (sym same_call) ∙ entry in (
      Telling (ask_of a) a.indexes (untouched a.mem) 0 e.outcome.outs (body.Answered (answer_at e.outcome (length journal))),
      record {
        asked = h.asked;
        told = h.told;
        request = h.request;
        up = h.up;
        task = refl;
        down = rw h.down refl;
        fact = perform_tells journal c n a h.fact.none pid e h.fact.later made;
      },
    )
given_performs journal c n σ call got pid e there next entry s h = absurd (let k = sym there ∙ h.task in cc)

-- a call whose asking has ended with an error is performed with it
pub fault_performs : (journal : List Entry) (c : ConnNo) (n : ℕ) (σ : Slice) (call : Call) (why : Errno) (pid : Pid) (e : Entry)
    → σ.task ≡ Some (Fails call why) → next_entry journal pid (Request c (number n)) (Sys call) (Fault why) ≡ Some e → (s : Stage) → At journal c n σ s
    → Stands (journal ++ e ∷ []) c n (queued σ (told (number n) e.outcome (length journal)))
fault_performs journal c n σ call why pid e there entry (Failing a reason) h =
    let same : Some (Fails a.call reason) ≡ Some (Fails call why) = sym h.task ∙ there in
    let same_call : call ≡ a.call = cc in
    let same_why : reason ≡ why = cc in
    let made : next_entry journal pid (Request c (number n)) (Sys a.call) (reads a.call a.mem) ≡ Some e =
    ap (λ (i : Ins). next_entry journal pid (Request c (number n)) (Sys a.call) i) (h.fact.fails ∙ ap (λ (w : Errno). Fault w) same_why)
    ∙ ap (λ (k : Call). next_entry journal pid (Request c (number n)) (Sys k) (Fault why)) (sym same_call) ∙ entry in (
      Telling (ask_of a) a.indexes (untouched a.mem) 0 e.outcome.outs (body.Answered (answer_at e.outcome (length journal))),
      record {
        asked = h.asked;
        told = h.told;
        request = h.request;
        up = h.up;
        task = refl;
        down = rw h.down refl;
        fact = perform_tells journal c n a h.fact.none pid e h.fact.later made;
      },
    )
fault_performs journal c n σ call why pid e there entry s h = absurd (let k = sym there ∙ h.task in cc)

-- no ask of a call is out
abbrev pub could_perform : OpenCall → Bool
could_perform (Gathers call got asked) = not asked
could_perform (Fails call why) = true
could_perform Answers = false

abbrev could_in : Option OpenCall → Bool
could_in None = false
could_in (Some task) = could_perform task

-- a call that could be performed is refused for want of memory
pub refuses : (journal : List Entry) (c : ConnNo) (n : ℕ) (σ : Slice) (task : OpenCall) → σ.task ≡ Some task → could_perform task ≡ true → (s : Stage)
    → At journal c n σ s
    → Stands journal c n (queued σ (refusal (number n) 1 error.Memory ∷ []))
refuses journal c n σ task there could (Held a had) h = (
  Telling (ask_of a) a.indexes (untouched a.mem) 0 [] (body.Refused 1 error.Memory),
  record {
    asked = h.asked;
    told = h.told;
    request = h.request;
    up = h.up;
    task = refl;
    down = rw h.down refl;
    fact = refuse_tells journal c n a h.fact.none h.fact.later;
  },
)
refuses journal c n σ task there could (Failing a why) h = (
  Telling (ask_of a) a.indexes (untouched a.mem) 0 [] (body.Refused 1 error.Memory),
  record {
    asked = h.asked;
    told = h.told;
    request = h.request;
    up = h.up;
    task = refl;
    down = rw h.down refl;
    fact = refuse_tells journal c n a h.fact.none h.fact.later;
  },
)
refuses journal c n σ task there could s h = absurd (let k = ap could_in (sym there ∙ h.task) in cc)
