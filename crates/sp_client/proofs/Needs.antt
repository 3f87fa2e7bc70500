-- What a call reads: two needs at the most, each small enough for a frame.
use Rattle.std.proofs.Common.{◌≡◌, ℕ, zero, suc, ◌<◌, ◌≤◌, ◌*◌, ◌++◌, Bool, cond, Option, Some, None, refl, sym, subst, true, false, nat_le, min, arith}
use Rattle.std.specs.Prelude.{◌==◌, slice_get}
use Rattle.std.specs.Option.{option_to_list}
use Rattle.std.proofs.lemmas.Bool.{and_parts, eqb-true, not-true}
use Rattle.std.proofs.lemmas.Bool.Decides.{nat_tests}
use Rattle.sp_base.specs.Needs.{range_of, transfer_range, address_in, poll_range, bytes_need, asks_of, needs_of}
use Rattle.sp_base.specs.declared.call.Call.{Call}
use Rattle.sp_base.specs.declared.call.Call.TheVariants.{Open, Write, Pwrite, Stat, Link, Unlink, Rename, Mkdir, Rmdir, Chdir, Bind, Connect, Sendto, Poll}
use Rattle.sp_base.specs.declared.need.Need.{Need}
use Rattle.sp_base.specs.declared.need.Need.TheVariants.{Bytes, Text}
use Rattle.sp_frames.specs.declared.frame.Body.{Body}
use Rattle.sp_frames.specs.declared.frame.Body.TheVariants as body
use Rattle.sp_base.specs.declared.names.ReqNo.{ReqNo}
use Rattle.client_model.specs.Asks.{answer_ask, goes_on}
use Rattle.client_model.specs.Fitness.{fits_request, is_ask_for, may_come}
use Rattle.client_model.specs.State.{Client}
use Rattle.client_model.specs.State.{Open as OpenRequest}
use Rattle.client_model.specs.declared.request.Request.{Request}
use Rattle.client_model.specs.declared.request.Request.TheVariants as request
use Rattle.sp_client.specs.Asked.{was_asked, IsAskOf}

-- what a frame can carry of a need
abbrev IsSmall : Need → Type 0
IsSmall (Bytes addr len) = len ≤ 131044
IsSmall (Text addr limit) = limit ≤ 1024

abbrev AllSmall : Option Need → Type 0
AllSmall need = (n : Need) → need ≡ Some n → IsSmall n

none_small : AllSmall None
none_small n e = absurd cc

path_small : (addr : ℕ) → AllSmall (Some (Text addr 1024))
path_small addr n e = subst IsSmall (some_is n e) (omega arith)
  where
    some_is : (n : Need) → Some (Text addr 1024) ≡ Some n → Text addr 1024 ≡ n
    some_is n e = cc

range_small : (addr len : ℕ) → len ≤ 131044 → AllSmall (bytes_need (range_of addr len))
range_small addr len le = by_test (len == 0)
  where
    some_is : (n : Need) → Some (Bytes addr len) ≡ Some n → Bytes addr len ≡ n
    some_is n e = cc

    by_test : (b : Bool) → AllSmall (bytes_need (cond b None (Some (record { addr = addr; len = len }))))
    by_test true = none_small
    by_test false = λ n e. subst IsSmall (some_is n e) le

transfer_small : (addr len : ℕ) → AllSmall (bytes_need (transfer_range addr len))
transfer_small addr len = range_small addr (min len 65536) (omega arith)

address_small : (addr len : ℕ) → AllSmall (bytes_need (address_in addr len))
address_small addr len = by_test (nat_le len 104) refl
  where
    by_test : (b : Bool) → nat_le len 104 ≡ b → AllSmall (bytes_need (cond b (range_of addr len) None))
    by_test true e = range_small addr len (grind (arith, nat_tests))
    by_test false e = none_small

poll_small : (addr count : ℕ) → AllSmall (bytes_need (poll_range addr count))
poll_small addr count = by_test (nat_le count 128) refl
  where
    by_test : (b : Bool) → nat_le count 128 ≡ b → AllSmall (bytes_need (cond b (range_of addr (8 * count)) None))
    by_test true e = range_small addr (8 * count) (grind (arith, nat_tests))
    by_test false e = none_small

all_small : (call : Call) → AllSmall (asks_of call).0 × AllSmall (asks_of call).1
all_small (Open path flags) = (path_small path, none_small)
all_small (Write fd input len) = (transfer_small input len, none_small)
all_small (Pwrite fd input len offset) = (transfer_small input len, none_small)
all_small (Stat path out) = (path_small path, none_small)
all_small (Link path new_path) = (path_small path, path_small new_path)
all_small (Unlink path) = (path_small path, none_small)
all_small (Rename path new_path) = (path_small path, path_small new_path)
all_small (Mkdir path) = (path_small path, none_small)
all_small (Rmdir path) = (path_small path, none_small)
all_small (Chdir path) = (path_small path, none_small)
all_small (Bind fd address address_len) = (address_small address address_len, none_small)
all_small (Connect fd address address_len) = (address_small address address_len, none_small)
all_small (Sendto fd input len address address_len) = (transfer_small input len, address_small address address_len)
all_small (Poll entries count timeout) = (poll_small entries count, none_small)
all_small _ = (none_small, none_small)

-- one of two needs, by its index
one_of : (p q : Option Need) (index : ℕ) (n : Need) → slice_get (option_to_list p ++ option_to_list q) index ≡ Some n → AllSmall p → AllSmall q → (index < 2) × IsSmall n
one_of None None index n e hp hq = absurd cc
one_of (Some a) None zero n e hp hq = (omega arith, hp n e)
one_of (Some a) None (suc i) n e hp hq = absurd cc
one_of None (Some b) zero n e hp hq = (omega arith, hq n e)
one_of None (Some b) (suc i) n e hp hq = absurd cc
one_of (Some a) (Some b) zero n e hp hq = (omega arith, hp n e)
one_of (Some a) (Some b) (suc zero) n e hp hq = (omega arith, hq n e)
one_of (Some a) (Some b) (suc (suc i)) n e hp hq = absurd cc

need_small : (call : Call) (index : ℕ) (n : Need) → slice_get (needs_of call) index ≡ Some n → (index < 2) × IsSmall n
need_small call index n e = one_of (asks_of call).0 (asks_of call).1 index n e (all_small call).0 (all_small call).1

-- an ask for a need that a frame can carry asks for as much
bytes_small : (need : Option Need) (index addr len : ℕ) → ((n : Need) → need ≡ Some n → (index < 2) × IsSmall n) → is_ask_for need (body.AskBytes index addr len) ≡ true → IsAskOf index (body.AskBytes index addr len)
bytes_small None index addr len small e = absurd cc
bytes_small (Some (Text a limit)) index addr len small e = absurd cc
bytes_small (Some (Bytes a l)) index addr len small e =
    let here = small (Bytes a l) refl in
    (refl, here.0, subst (λ (n : ℕ). n ≤ 131044) (sym (eqb-true len l (and_parts (addr == a) (len == l) e).1)) here.1)

text_small : (need : Option Need) (index addr most : ℕ) → ((n : Need) → need ≡ Some n → (index < 2) × IsSmall n) → is_ask_for need (body.AskText index addr most) ≡ true → IsAskOf index (body.AskText index addr most)
text_small None index addr most small e = absurd cc
text_small (Some (Bytes a l)) index addr most small e = absurd cc
text_small (Some (Text a limit)) index addr most small e =
    let here = small (Text a limit) refl in
    (refl, here.0, subst (λ (n : ℕ). n ≤ 1024) (sym (eqb-true most limit (and_parts (addr == a) (most == limit) e).1)) here.1)

-- an ask that may come is one for a need of the call, which wasn't asked for before
pub record IsNewAsk (x : OpenRequest) (index : ℕ) (ask : Body) : Type 0 where
  pub asks : IsAskOf index ask
  pub new : was_asked x.asked index ≡ false

bytes_by : (x : OpenRequest) (what : Request) (index addr len : ℕ) → x.request ≡ what → fits_request what x.asked (body.AskBytes index addr len) ≡ true → IsNewAsk x index (body.AskBytes index addr len)
bytes_by x request.Attach index addr len is e = absurd cc
bytes_by x request.Join index addr len is e = absurd cc
bytes_by x request.Image index addr len is e = absurd cc
bytes_by x request.Prefork index addr len is e = absurd cc
bytes_by x request.Cancel index addr len is e = absurd cc
bytes_by x request.Preexec index addr len is e = absurd cc
bytes_by x (request.Call call) index addr len is e = record {
  asks = bytes_small (slice_get (needs_of call) index) index addr len (need_small call index) (and_parts _ _ e).0;
  new = not-true (was_asked x.asked index) (and_parts _ _ e).1;
}

text_by : (x : OpenRequest) (what : Request) (index addr most : ℕ) → x.request ≡ what → fits_request what x.asked (body.AskText index addr most) ≡ true → IsNewAsk x index (body.AskText index addr most)
text_by x request.Attach index addr most is e = absurd cc
text_by x request.Join index addr most is e = absurd cc
text_by x request.Image index addr most is e = absurd cc
text_by x request.Prefork index addr most is e = absurd cc
text_by x request.Cancel index addr most is e = absurd cc
text_by x request.Preexec index addr most is e = absurd cc
text_by x (request.Call call) index addr most is e = record {
  asks = text_small (slice_get (needs_of call) index) index addr most (need_small call index) (and_parts _ _ e).0;
  new = not-true (was_asked x.asked index) (and_parts _ _ e).1;
}

-- the bytes that the server may ask for
pub new_bytes : (x : OpenRequest) (index addr len : ℕ) → may_come (Some x) (body.AskBytes index addr len) ≡ true → IsNewAsk x index (body.AskBytes index addr len)
new_bytes x index addr len e = bytes_by x x.request index addr len refl (and_parts _ _ e).1

-- the text that the server may ask for
pub new_text : (x : OpenRequest) (index addr most : ℕ) → may_come (Some x) (body.AskText index addr most) ≡ true → IsNewAsk x index (body.AskText index addr most)
new_text x index addr most e = text_by x x.request index addr most refl (and_parts _ _ e).1

-- what an ask does that may come
pub bytes_go_on : (k : Client) (r : ReqNo) (x : OpenRequest) (index addr len : ℕ) (ask : Body) → ask ≡ body.AskBytes index addr len → goes_on k r x ask ≡ answer_ask k r x index ask
bytes_go_on k r x index addr len ask is = subst (λ (b : Body). goes_on k r x b ≡ answer_ask k r x index b) (sym is) refl

pub text_goes_on : (k : Client) (r : ReqNo) (x : OpenRequest) (index addr most : ℕ) (ask : Body) → ask ≡ body.AskText index addr most → goes_on k r x ask ≡ answer_ask k r x index ask
text_goes_on k r x index addr most ask is = subst (λ (b : Body). goes_on k r x b ≡ answer_ask k r x index b) (sym is) refl
