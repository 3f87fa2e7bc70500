-- A map that entries make, against what a look-up finds in them.
use Rattle.std.proofs.Common.{◌≡◌, ℕ, Bool, cond, List, [], ◌∷◌, Option, Some, None, refl, sym, ap, ◌∙◌, subst, true, false, arith}
use Rattle.std.specs.Ordering.{nat_cmp, eq_by_cmp}
use Rattle.std.specs.Prelude.{length, is_some, IsSome, ◌+◌}
use Rattle.std.specs.List.{AllByRecursion}
use Rattle.std.proofs.Common.{Less}
use Rattle.std.specs.List.Sorted.{IsStrictlySortedBy}
use Rattle.std.specs.BTreeMap.{is_at}
use Rattle.std.specs.Map.{lookup, keys_of}
use Rattle.std.specs.Cmp.{nat_cmp_total, eq_by_cmp_equiv}
use Rattle.std.proofs.lemmas.Grind.{common_steps}
use Rattle.std.proofs.lemmas.Bool.Decides.{nat_tests}
use Rattle.std.specs.FinMap.{FinMap, find, put, entries, empty, get, insert, remove, from_entries, entries-insert, get-from_entries, get-insert, get-remove, same_map, nat_cmp-IsAntisymmetric, len, len-entries, len-insert, len-empty}

pub find_lookup : {V : Type 0} (es : List (ℕ × V)) (q : ℕ) → find nat_cmp q es ≡ lookup (is_at (nat_cmp q)) es
find_lookup [] q = refl
find_lookup (e ∷ es) q = ap (cond (is_at (nat_cmp q) e.0) (Some e.1)) (find_lookup es q)

pub get_lookup : {V : Type 0} (es : List (ℕ × V)) (q : ℕ) → get (from_entries {R = nat_cmp} es) q ≡ lookup (is_at (nat_cmp q)) es
get_lookup es q = get-from_entries nat_cmp_total es q ∙ find_lookup es q

pub inserted : {V : Type 0} (es fs : List (ℕ × V)) (k : ℕ) (v : V) → ((q : ℕ) → lookup (is_at (nat_cmp q)) fs ≡ cond (is_at (nat_cmp k) q) (Some v) (lookup (is_at (nat_cmp q)) es)) → from_entries {R = nat_cmp} fs ≡ insert (from_entries es) k v
inserted es fs k v h = same_map nat_cmp_total nat_cmp-IsAntisymmetric _ _ (λ q.
    get_lookup fs q ∙ h q ∙ ap (λ b. cond b (Some v) (lookup (is_at (nat_cmp q)) es)) ((eq_by_cmp_equiv nat_cmp_total).symm k q)
    ∙ sym (get-insert nat_cmp_total (from_entries es) k v q ∙ ap (cond (is_at (nat_cmp q) k) (Some v)) (get_lookup es q)))

pub removed : {V : Type 0} (es fs : List (ℕ × V)) (k : ℕ) → ((q : ℕ) → lookup (is_at (nat_cmp q)) fs ≡ cond (is_at (nat_cmp k) q) None (lookup (is_at (nat_cmp q)) es)) → from_entries {R = nat_cmp} fs ≡ remove (from_entries es) k
removed es fs k h = same_map nat_cmp_total nat_cmp-IsAntisymmetric _ _ (λ q.
    get_lookup fs q ∙ h q ∙ ap (λ b. cond b None (lookup (is_at (nat_cmp q)) es)) ((eq_by_cmp_equiv nat_cmp_total).symm k q)
    ∙ sym (get-remove nat_cmp_total (from_entries es) k q ∙ ap (cond (is_at (nat_cmp q) k) None) (get_lookup es q)))

twice : {X : Type 0} (b : Bool) (x y z : X) → cond b x (cond b y z) ≡ cond b x z
twice true x y z = refl
twice false x y z = refl

no_lower : {V : Type 0} (k : ℕ) (es : List (ℕ × V)) → AllByRecursion (λ y. nat_cmp k y ≡ Less) (keys_of es) → find nat_cmp k es ≡ None
no_lower k [] h = refl
no_lower k (e ∷ es) h = rw h.0 (no_lower k es h.1)

pub len_entries : {V : Type 0} (es : List (ℕ × V)) → IsStrictlySortedBy nat_cmp (keys_of es) → len (from_entries {R = nat_cmp} es) ≡ length es
unfolding IsStrictlySortedBy
len_entries {V = V} [] h = len-empty nat_cmp V
len_entries (e ∷ es) h =
    let none : get (from_entries {R = nat_cmp} es) e.0 ≡ None = get-from_entries nat_cmp_total es e.0 ∙ no_lower e.0 es h.0 in
    let ih = len_entries es h.1 in
    len-insert nat_cmp_total (from_entries es) e.0 e.1 ∙ (ap (λ o. cond (is_some o) (len (from_entries {R = nat_cmp} es)) (len (from_entries {R = nat_cmp} es) + 1)) none ∙ omega (arith, ih))

itself : (k : ℕ) → eq_by_cmp nat_cmp k k ≡ true
itself k = (eq_by_cmp_equiv nat_cmp_total).refl k

pub there : {V : Type 0} (m n : FinMap nat_cmp V) (k : ℕ) (v : V) → n ≡ insert m k v → IsSome (get n k)
there m n k v e = subst IsSome (sym (ap (λ (x : FinMap nat_cmp _). get x k) e ∙ (get-insert nat_cmp_total m k v k ∙ ap (λ b. cond b (Some v) (get m k)) (itself k)))) refl

pub again : {V : Type 0} (m n : FinMap nat_cmp V) (k : ℕ) (v w : V) → n ≡ insert m k v → insert n k w ≡ insert m k w
again m n k v w e = same_map nat_cmp_total nat_cmp-IsAntisymmetric _ _ (λ q.
    get-insert nat_cmp_total n k w q ∙ (ap (λ x. cond (eq_by_cmp nat_cmp q k) (Some w) (get x q)) e
    ∙ (ap (λ o. cond (eq_by_cmp nat_cmp q k) (Some w) o) (get-insert nat_cmp_total m k v q)
    ∙ (twice (eq_by_cmp nat_cmp q k) (Some w) (Some v) (get m q) ∙ sym (get-insert nat_cmp_total m k w q)))))

same_value : {X : Type 0} (b : Bool) (w v : X) (o : Option X) → (b ≡ true → o ≡ Some w) → cond b (Some w) (cond b (Some v) o) ≡ o
same_value true w v o h = sym (h refl)
same_value false w v o h = refl

equal_by_cmp : (q k : ℕ) → eq_by_cmp nat_cmp q k ≡ true → q ≡ k
equal_by_cmp q k e = grind (arith, nat_tests, common_steps)

pub back : {V : Type 0} (m n : FinMap nat_cmp V) (k : ℕ) (v w : V) → n ≡ insert m k v → get m k ≡ Some w → insert n k w ≡ m
back m n k v w e h = same_map nat_cmp_total nat_cmp-IsAntisymmetric _ _ (λ q.
    get-insert nat_cmp_total n k w q ∙ (ap (λ x. cond (eq_by_cmp nat_cmp q k) (Some w) (get x q)) e
    ∙ (ap (λ o. cond (eq_by_cmp nat_cmp q k) (Some w) o) (get-insert nat_cmp_total m k v q)
    ∙ same_value (eq_by_cmp nat_cmp q k) w v (get m q) (λ t. ap (λ (x : ℕ). get m x) (equal_by_cmp q k t) ∙ h))))

-- ---- a map's entries are those that made it

put_first : {V : Type 0} (k : ℕ) (v : V) (es : List (ℕ × V)) → AllByRecursion (λ y. nat_cmp k y ≡ Less) (keys_of es) → put nat_cmp k v es ≡ (k, v) ∷ es
put_first k v [] h = refl
put_first k v (e ∷ es) h = rw h.0 refl

no_length : {X : Type 0} (xs : List X) → length xs ≡ 0 → xs ≡ []
no_length [] e = refl
no_length (x ∷ xs) e = absurd (omega arith)

no_entries : (V : Type 0) → entries (empty {X = V} {R = nat_cmp}) ≡ []
no_entries V = no_length (entries (empty {X = V} {R = nat_cmp})) (sym (len-entries empty) ∙ len-empty nat_cmp V)

pub entries_of : {V : Type 0} (es : List (ℕ × V)) → IsStrictlySortedBy nat_cmp (keys_of es) → entries (from_entries {R = nat_cmp} es) ≡ es
unfolding IsStrictlySortedBy
entries_of {V = V} [] h = no_entries V
entries_of (e ∷ es) h = entries-insert nat_cmp_total (from_entries es) e.0 e.1 ∙ (ap (λ (xs : List (ℕ × _)). put nat_cmp e.0 e.1 xs) (entries_of es h.1) ∙ put_first e.0 e.1 es h.0)

pub now_there : {V : Type 0} (m n : FinMap nat_cmp V) (k : ℕ) (v : V) → n ≡ insert m k v → get n k ≡ Some v
now_there m n k v e = ap (λ (x : FinMap nat_cmp _). get x k) e ∙ (get-insert nat_cmp_total m k v k ∙ ap (λ b. cond b (Some v) (get m k)) (itself k))
