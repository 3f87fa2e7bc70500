-- The code of the client's machine.
use Rattle.std.specs.Prelude.{ℕ, Bool, List, Option, refl}
use Rattle.std.specs.Coded.{Coded, code_by, coded×, coded_ℕ, coded_list, coded_option, coded_bool}
use Rattle.std.specs.Ordering.{nat_cmp}
use Rattle.std.specs.FinMap.{FinMap}
use Rattle.std.specs.FinMap as map
use Rattle.sp_copy.specs.declared.delivery.Delivery.{Delivery}
use Rattle.sp_copy.specs.contracts.delivery.Delivery as delivery
use Rattle.sp_frames.specs.declared.frame.Frame.{Frame}
use Rattle.sp_frames.specs.contracts.frame.Frame as frame
use Rattle.sp_frames.specs.declared.version.Version.{Version}
use Rattle.sp_frames.specs.contracts.version.Version as version
use Rattle.client_model.specs.declared.request.Ending.{Ending}
use Rattle.client_model.specs.contracts.request.Ending as ending
use Rattle.client_model.specs.declared.request.Request.{Request}
use Rattle.client_model.specs.contracts.request.Request as request
use Rattle.client_model.specs.declared.request.Response.{Response}
use Rattle.client_model.specs.contracts.request.Response as response
use Rattle.client_model.specs.State.{Open, Client}

-- the code of an open request
abbrev pub open_code : Coded Open
open_code = code_by (Request × (Delivery × (List ℕ × Option Response)))
    (coded× request.the_row.coded (coded× delivery.the_row.coded (coded× (coded_list coded_ℕ) (coded_option response.the_row.coded))))
    (λ x. (x.request, (x.delivery, (x.asked, x.response))))
    (λ p. record { request = p.0; delivery = p.1.0; asked = p.1.1.0; response = p.1.1.1 }) (λ _. refl)

-- the code of the machine
abbrev pub client_code : Coded Client
client_code = code_by (Version × (Bool × (ℕ × (FinMap nat_cmp Open × (List Frame × Option Ending)))))
    (coded× version.the_row.coded (coded× coded_bool (coded× coded_ℕ (coded× (map.code coded_ℕ open_code)
    (coded× (coded_list frame.the_row.coded) (coded_option ending.the_row.coded))))))
    (λ k. (k.version, (k.ready, (k.last, (k.requests, (k.queue, k.ending))))))
    (λ p. record { version = p.0; ready = p.1.0; last = p.1.1.0; requests = p.1.1.1.0; queue = p.1.1.1.1.0; ending = p.1.1.1.1.1 })
    (λ _. refl)
