-- Salts that are drawn and texts that are written, step by step, and what holds of a result.
use Rattle.std.proofs.Common.{◌≡◌, ℕ, List, [], ◌++◌, Option, Some, None, Result, Ok, Err, OnOk, OnErr, IfOk, IfErr, IsErrAnd, sym, subst, append_assoc}
use Rattle.std.proofs.lemmas.List.{append-nil}
use Rattle.std.specs.Io.KnownBytes.{Appends}
use Rattle.sp_io.proofs.Known.{appends_then}
use Rattle.sp_server.specs.Session.{Moves}

-- ---- known bytes

-- nothing is appended to what stays
pub appends_nothing : (held : Option (List ℕ)) → Appends held held []
appends_nothing None = tt
appends_nothing (Some xs) = sym (append-nil xs)

-- ---- salts that are drawn, and texts that are written

-- nothing is drawn or written
pub moves_nothing : (drawn held : Option (List ℕ)) (holds : List ℕ → List ℕ → Type 0) (before written : List ℕ) → holds before written → Moves drawn drawn held held (λ salts text. holds (before ++ salts) (written ++ text))
moves_nothing drawn held holds before written is =
    ([], [], appends_nothing drawn, appends_nothing held, subst (λ salts. holds salts (written ++ [])) (sym (append-nil before)) (subst (λ text. holds before text) (sym (append-nil written)) is))

-- more is drawn and written
pub moves_then : (a b d x y z : Option (List ℕ)) (first holds : List ℕ → List ℕ → Type 0) (before written : List ℕ) → (one : Moves a b x y first)
    → Moves b d y z (λ salts text. holds ((before ++ one.0) ++ salts) ((written ++ one.1) ++ text)) → Moves a d x z (λ salts text. holds (before ++ salts) (written ++ text))
moves_then a b d x y z first holds before written one two = (
  one.0 ++ two.0,
  one.1 ++ two.1,
  appends_then a b d one.0 two.0 one.2 two.2,
  appends_then x y z one.1 two.1 one.3 two.3,
  subst (λ salts. holds salts (written ++ (one.1 ++ two.1))) (append_assoc before one.0 two.0)
      (subst (λ text. holds ((before ++ one.0) ++ two.0) text) (append_assoc written one.1 two.1) two.4),
)

-- something is written, and nothing is drawn
pub moves_text : (drawn x y : Option (List ℕ)) (holds : List ℕ → List ℕ → Type 0) (salts written text : List ℕ) → Appends x y text → holds salts (written ++ text) → Moves drawn drawn x y (λ more text. holds (salts ++ more) (written ++ text))
moves_text drawn x y holds salts written text puts is = ([], text, appends_nothing drawn, puts, subst (λ l. holds l (written ++ text)) (sym (append-nil salts)) is)

-- ---- what holds of a result

pub on_ok : {T E : Type 0} {X Y : Type 0} (r : Result T E) → (X → Y) → OnOk r X → OnOk r Y
on_ok (Ok t) f x = f x
on_ok (Err e) f x = tt

pub on_err : {T E : Type 0} {X Y : Type 0} (r : Result T E) → (X → Y) → OnErr r X → OnErr r Y
on_err (Ok t) f x = tt
on_err (Err e) f x = f x

-- what holds of an error
pub at_err : {T E : Type 0} (Y : E → Type 0) (r : Result T E) (e : E) → IsErrAnd r (λ x. x ≡ e) → Y e → IfErr r Y
at_err Y (Ok t) e is y = tt
at_err Y (Err x) e is y = subst Y (sym is) y

-- what holds of each error in two ways
pub both_err : {T E : Type 0} {N : E → Type 0} {X : Type 0} {Y : E → Type 0} (r : Result T E) → ((e : E) → N e → X → Y e) → IfErr r N → OnErr r X → IfErr r Y
both_err (Ok t) f n x = tt
both_err (Err e) f n x = f e n x

pub if_ok : {T E : Type 0} {X Y : T → Type 0} (r : Result T E) → ((t : T) → X t → Y t) → IfOk r X → IfOk r Y
if_ok (Ok t) f x = f t x
if_ok (Err e) f x = tt

pub always_err : {T E : Type 0} {Y : Type 0} (r : Result T E) → Y → OnErr r Y
always_err (Ok t) y = tt
always_err (Err e) y = y
