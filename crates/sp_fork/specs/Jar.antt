-- The unused cookies of a server, and what is done to them.
use Rattle.std.specs.Prelude.{ℕ, ◌+◌, ◌-◌, ◌^◌, ◌≤◌, ◌==◌, ◌||◌, nat_le, Bool, true, false, List, map, filter, Option, None, Some, IsSome, if◌then◌else◌}
use Rattle.std.specs.Ordering.{nat_cmp}
use Rattle.std.specs.FinMap.{FinMap, empty, entries, get, insert, len, remove}
use Rattle.sp_base.specs.declared.names.ConnNo.{ConnNo}
use Rattle.sp_base.specs.declared.names.Cookie.{Cookie}
use Rattle.sp_fork.specs.declared.unused.CookieKind.{CookieKind}
use Rattle.sp_fork.specs.declared.unused.CookieKind.TheVariants.{Fork, Exec}
use Rattle.sp_fork.specs.declared.unused.TheConstants.{UNUSED_COOKIES}
use Rattle.sp_fork.specs.declared.unused.Unused.{Unused}

-- the unused cookies by number, and the highest number that was given, 0 before the first one
pub record Jar : Type 0 where
  pub unused : FinMap nat_cmp Unused
  pub given : ℕ

-- no cookie was given yet
abbrev pub empty_jar : Jar
empty_jar = record { unused = empty; given = 0 }

-- each unused cookie has a number that was given, from 1 on, and no more are unused than may be
pub record IsJar (jar : Jar) : Type 0 where
  pub least : (n : ℕ) → IsSome (get jar.unused n) → 1 ≤ n
  pub most : (n : ℕ) → IsSome (get jar.unused n) → n ≤ jar.given
  pub few : len jar.unused ≤ UNUSED_COOKIES

-- the highest number that a cookie can have
abbrev pub highest_number : ℕ
highest_number = 2 ^ 64 - 1

-- no cookie can be made: as many are unused as may be, or the highest number was given
abbrev pub is_full : Jar → Bool
is_full jar = nat_le UNUSED_COOKIES (len jar.unused) || (jar.given == highest_number)

-- the jar with one more cookie, which has the next number
abbrev pub with_next : Jar → Unused → Jar
with_next jar x = record { unused = insert jar.unused (jar.given + 1) x; given = jar.given + 1 }

-- two kinds are one
abbrev pub is_kind : CookieKind → CookieKind → Bool
is_kind Fork Fork = true
is_kind Exec Exec = true
is_kind _ _ = false

-- what is there, where it passes a test
abbrev pub only : (Unused → Bool) → Option Unused → Option Unused
only test None = None
only test (Some x) = if test x then Some x else None

-- the unused cookie that has a cookie's number and salt, if there is one
abbrev pub found : Jar → Cookie → Option Unused
found jar cookie = only (λ x. x.salt == cookie.salt) (get jar.unused cookie.number)

-- the unused cookie that has a cookie's number and salt, and is of a kind, if there is one
abbrev pub redeemable : Jar → Cookie → CookieKind → Option Unused
redeemable jar cookie kind = only (λ x. is_kind x.kind kind) (found jar cookie)

-- the unused cookie that has a cookie's number and salt, and that a connection made, if there is one
abbrev pub cancellable : Jar → Cookie → ConnNo → Option Unused
cancellable jar cookie maker = only (λ x. x.maker.0 == maker.0) (found jar cookie)

-- there is an unused cookie, and a connection made it
abbrev pub is_made_by : ConnNo → Option Unused → Bool
is_made_by maker None = false
is_made_by maker (Some x) = x.maker.0 == maker.0

-- the cookie of a number and its salt
abbrev pub cookie_of : ℕ × Unused → Cookie
cookie_of e = record { number = e.0; salt = e.1.salt }

-- the unused cookies that a connection made, in rising order of their numbers
abbrev pub made_by : Jar → ConnNo → List Cookie
made_by jar maker = map cookie_of (filter (λ e. e.1.maker.0 == maker.0) (entries jar.unused))

-- what is done to cookies: one is made, as it is to be; one is redeemed as of a kind; one is cancelled for a connection
pub data Operation : Type 0 where
  Make : Unused → Operation
  Redeem : Cookie → CookieKind → Operation
  Cancel : Cookie → ConnNo → Operation

-- the jar without the cookie of a number, where there is one to take out
abbrev pub without : Jar → ℕ → Option Unused → Jar
without jar n None = jar
without jar n (Some x) = record jar { unused = remove jar.unused n }

-- the jar after an operation. A full jar, and one without such a cookie, stays as it is
abbrev pub after : Jar → Operation → Jar
after jar (Make x) = if is_full jar then jar else with_next jar x
after jar (Redeem cookie kind) = without jar cookie.number (redeemable jar cookie kind)
after jar (Cancel cookie maker) = without jar cookie.number (cancellable jar cookie maker)
