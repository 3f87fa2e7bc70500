-- What a request was that comes as a frame.
use Rattle.std.proofs.Common.{◌≡◌, ℕ, false, List, Some, None, refl, sym, ap, ◌∙◌}
use Rattle.sp_base.specs.Call.{call_number, call_words, call_of, IsProper}
use Rattle.sp_base.proofs.CallRows.{call_of-parts}
use Rattle.sp_base.specs.declared.call.Call.{Call}
use Rattle.sp_base.specs.declared.names.Cookie.{Cookie}
use Rattle.sp_base.specs.declared.names.SpError.{SpError}
use Rattle.sp_frames.specs.declared.frame.Body.{Body}
use Rattle.sp_frames.specs.declared.frame.Body.TheVariants as body
use Rattle.kern_model.specs.declared.operation.Op.TheVariants as op
use Rattle.hub_model.specs.Frames.{answered_kind}
use Rattle.hub_model.specs.Verdict.{index_in}
use Rattle.hub_law.specs.Serves.{AsksFor}
use Rattle.hub_law.proofs.Means.{IsCancel, IsJoin, IsPreexec}
use Rattle.client_model.specs.Requests.{call_body}
use Rattle.client_model.specs.declared.request.Request.{Request}
use Rattle.client_model.specs.declared.request.Request.TheVariants as request
use Rattle.world_model.proofs.Lane.{is_copy}
use Rattle.world_model.proofs.Stage.{IsAnswerTo, IsBodyOf}

-- a request brings no copy
pub asks_no_copy : (what : Request) (b : Body) → IsBodyOf what b → is_copy b ≡ false
asks_no_copy request.Attach (body.Guest name) is = refl
asks_no_copy request.Join (body.Join cookie name) is = refl
asks_no_copy request.Image (body.Image cookie name) is = refl
asks_no_copy (request.Call call) (body.Sys num words) is = refl
asks_no_copy request.Prefork body.Prefork is = refl
asks_no_copy request.Cancel (body.Cancel cookie) is = refl
asks_no_copy request.Preexec body.Preexec is = refl
asks_no_copy _ _ is = absurd is

-- nor an index
pub asks_no_index : (what : Request) (b : Body) → IsBodyOf what b → index_in b ≡ None
asks_no_index request.Attach (body.Guest name) is = refl
asks_no_index request.Join (body.Join cookie name) is = refl
asks_no_index request.Image (body.Image cookie name) is = refl
asks_no_index (request.Call call) (body.Sys num words) is = refl
asks_no_index request.Prefork body.Prefork is = refl
asks_no_index request.Cancel (body.Cancel cookie) is = refl
asks_no_index request.Preexec body.Preexec is = refl
asks_no_index _ _ is = absurd is

-- ---- what was asked

by_guest : (what : Request) (name : List ℕ) → IsBodyOf what (body.Guest name) → what ≡ request.Attach
by_guest request.Attach name is = refl
by_guest _ name is = absurd is

-- an attach was asked for by a guest
pub asked_attach : (what : Request) (b : Body) → IsBodyOf what b → AsksFor b op.Attach → what ≡ request.Attach
asked_attach what (body.Guest name) is asks = by_guest what name is
asked_attach what _ is asks = absurd asks

by_image : (what : Request) (cookie : Cookie) (name : List ℕ) → IsBodyOf what (body.Image cookie name) → what ≡ request.Image
by_image request.Image cookie name is = refl
by_image _ cookie name is = absurd is

-- an exec was asked for by a next program
pub asked_image : (what : Request) (b : Body) → IsBodyOf what b → AsksFor b op.Exec → what ≡ request.Image
asked_image what (body.Image cookie name) is asks = by_image what cookie name is
asked_image what _ is asks = absurd asks

by_prefork : (what : Request) → IsBodyOf what body.Prefork → what ≡ request.Prefork
by_prefork request.Prefork is = refl
by_prefork _ is = absurd is

-- a fork was asked for
pub asked_fork : (what : Request) (b : Body) → IsBodyOf what b → AsksFor b op.Fork → what ≡ request.Prefork
asked_fork what body.Prefork is asks = by_prefork what is
asked_fork what _ is asks = absurd asks

by_join : (what : Request) (cookie : Cookie) (name : List ℕ) → IsBodyOf what (body.Join cookie name) → what ≡ request.Join
by_join request.Join cookie name is = refl
by_join _ cookie name is = absurd is

-- a child joins
pub asked_join : (what : Request) (b : Body) → IsBodyOf what b → IsJoin b → what ≡ request.Join
asked_join what (body.Join cookie name) is asks = by_join what cookie name is
asked_join what _ is asks = absurd asks

by_preexec : (what : Request) → IsBodyOf what body.Preexec → what ≡ request.Preexec
by_preexec request.Preexec is = refl
by_preexec _ is = absurd is

-- a cookie for the next program was asked for
pub asked_preexec : (what : Request) (b : Body) → IsBodyOf what b → IsPreexec b → what ≡ request.Preexec
asked_preexec what body.Preexec is asks = by_preexec what is
asked_preexec what _ is asks = absurd asks

by_cancel : (what : Request) (cookie : Cookie) → IsBodyOf what (body.Cancel cookie) → what ≡ request.Cancel
by_cancel request.Cancel cookie is = refl
by_cancel _ cookie is = absurd is

-- a cookie is to be taken back
pub asked_cancel : (what : Request) (b : Body) → IsBodyOf what b → IsCancel b → what ≡ request.Cancel
asked_cancel what (body.Cancel cookie) is asks = by_cancel what cookie is
asked_cancel what _ is asks = absurd asks

word_call : (num : ℕ) (words : List ℕ) (call asked : Call) → asked ≡ call_of num words → body.Sys num words ≡ call_body call → IsProper call → call ≡ asked
word_call num words call asked is same proper =
    let nums : num ≡ call_number call = cc in
    let all : words ≡ call_words call = cc in
    sym (is ∙ ap (λ (n : ℕ). call_of n words) nums ∙ ap (λ (ws : List ℕ). call_of (call_number call) ws) all ∙ call_of-parts call proper)

by_sys : (what : Request) (num : ℕ) (words : List ℕ) (call : Call) → IsBodyOf what (body.Sys num words) → call ≡ call_of num words → what ≡ request.Call call
by_sys (request.Call asked) num words call is asks = ap (λ (a : Call). request.Call a) (word_call num words asked call asks is.0 is.1)
by_sys _ num words call is asks = absurd is

-- this call was asked for
pub asked_call : (what : Request) (b : Body) (call : Call) → IsBodyOf what b → AsksFor b (op.Sys call) → what ≡ request.Call call
asked_call what (body.Sys num words) call is asks = by_sys what num words call is asks
asked_call what _ call is asks = absurd asks

-- ---- errors

-- an error that names the request's type answers it
pub refused_kind : (what : Request) (b : Body) (kind : ℕ) (why : SpError) → IsBodyOf what b → answered_kind b ≡ Some kind
    → IsAnswerTo what (body.Refused kind why)
refused_kind request.Attach (body.Guest name) kind why is h = cc
refused_kind request.Join (body.Join cookie name) kind why is h = cc
refused_kind request.Image (body.Image cookie name) kind why is h = cc
refused_kind (request.Call call) (body.Sys num words) kind why is h = cc
refused_kind request.Prefork body.Prefork kind why is h = cc
refused_kind request.Cancel (body.Cancel cookie) kind why is h = cc
refused_kind request.Preexec body.Preexec kind why is h = cc
refused_kind _ _ kind why is h = absurd is
