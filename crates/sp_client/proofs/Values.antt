-- The values of a map, against its entries.
use Rattle.std.specs.Prelude.{map}
use Rattle.std.specs.List.{list_any}
use Rattle.std.specs.Prelude.{◌&&◌, not}
use Rattle.std.specs.FinMap.{entries, values}
use Rattle.std.proofs.Common.{◌≡◌, ℕ, Bool, List, [], ◌∷◌, ◌||◌, refl, sym, ap, ◌∙◌}
use Rattle.client_model.specs.Run.{has_response, has_no_frame, is_still}
use Rattle.client_model.specs.State.{Client}

-- a test of the values is one of the entries
any_values : {X : Type 0} (test : X → Bool) (es : List (ℕ × X)) → list_any (λ e. test e.1) es ≡ list_any test (map (λ e. e.1) es)
any_values test [] = refl
any_values test (e ∷ es) = ap (λ b. test e.1 || b) (any_values test es)

-- with no frame queued a client is still where no value has its response
pub still_of : (k : Client) (has : Bool) → k.queue ≡ [] → has ≡ list_any has_response (values k.requests) → not has ≡ is_still k
still_of k has none is = ap not (is ∙ sym (any_values has_response (entries k.requests))) ∙ sym (ap (λ fs. has_no_frame fs && not (list_any (λ e. has_response e.1) (entries k.requests))) none)
