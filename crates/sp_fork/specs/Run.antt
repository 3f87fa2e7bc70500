-- Lists of operations on cookies.
use Rattle.std.specs.Prelude.{◌≡◌, ℕ, ◌+◌, List, [], ◌∷◌, ◌++◌, None, if◌then◌else◌}
use Rattle.sp_base.specs.declared.names.ConnNo.{ConnNo}
use Rattle.sp_base.specs.declared.names.Cookie.{Cookie}
use Rattle.sp_fork.specs.Jar.{Jar, Operation, after, cancellable, is_full, redeemable}
use Rattle.sp_fork.specs.Jar.Operation.{Make}
use Rattle.sp_fork.specs.declared.unused.CookieKind.{CookieKind}

-- operations are carried out one after another. A make that was refused memory did nothing, and isn't among them
abbrev pub carried : Jar → List Operation → Jar
carried jar [] = jar
carried jar (operation ∷ operations) = carried (after jar operation) operations

-- no cookie of a number can be redeemed or cancelled
pub record IsSpent (jar : Jar) (n : ℕ) : Type 0 where
  pub redeem : (cookie : Cookie) (kind : CookieKind) → cookie.number ≡ n → redeemable jar cookie kind ≡ None
  pub cancel : (cookie : Cookie) (maker : ConnNo) → cookie.number ≡ n → cancellable jar cookie maker ≡ None

-- the number that an operation gives to a cookie, if it gives one
abbrev pub number_given : Jar → Operation → List ℕ
number_given jar (Make x) = if is_full jar then [] else (jar.given + 1) ∷ []
number_given jar _ = []

-- the numbers that operations give to cookies, in order
abbrev pub numbers_given : Jar → List Operation → List ℕ
numbers_given jar [] = []
numbers_given jar (operation ∷ operations) = number_given jar operation ++ numbers_given (after jar operation) operations
